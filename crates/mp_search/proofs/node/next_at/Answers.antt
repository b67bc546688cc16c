use Rattle.std.proofs.Common.{◌≡◌, ◌++◌, [], ap, sym, ◌∙◌, subst, slice_index_or, slice_set}
use Rattle.std.specs.Prelude.{Some, slice_get, MatchBool}
use Rattle.mp_term.specs.Search.{In}
use Rattle.mp_theory.specs.Items.{above_entry}
use Rattle.mp_search.specs.Reading.{entry_of, entry_at}
use Rattle.mp_search.specs.At.{drawn_at}
use Rattle.mp_search.proofs.OwnLaws.{IsSplit, get-old, get-new, draws-get, entry-get, drawn-own, pool-own}
use Rattle.mp_search.proofs.NodeSteps.{split-within, split-site, split-terms}
use Rattle.mp_search.proofs.node.next_at.Goals as goal

pub node_at-node-requires-clause-within : goal.node_at-node-requires-clause-within
node_at-node-requires-clause-within c =
    split-within c.args.query.now c.args.levels.now c.args.place.now c.args.k c.requires.within c.requires.node
    c.requires.place

pub next_own-requires-clause-site : goal.next_own-requires-clause-site
next_own-requires-clause-site c =
    let s = c.split_at_mut-below.ensures in
    split-site c.args.query.now c.args.levels.now c.split_at_mut-below.result.0.now c.args.place.now c.args.k
    c.node_at-node.result c.left_list-left.result s.front c.requires.within c.requires.node c.requires.place
    c.node_at-node.ensures c.left_list-left.ensures.terms c.left_list-left.ensures.ranks

pub next_own-requires-clause-pool : goal.next_own-requires-clause-pool
next_own-requires-clause-pool c =
    let s = c.split_at_mut-below.ensures in
    let at : IsSplit c.args.levels.now c.split_at_mut-below.result.0.now c.split_at_mut-below.result.1.now c.args.k =
    record { value = s.value; front = s.front; split = s.front_len; within = c.requires.within } in
    pool-own c.args.query.now c.args.levels.now c.args.k
    (slice_index_or c.split_at_mut-below.result.1.now 0 c.index-from-0.result)
    (get-old c.args.levels.now c.split_at_mut-below.result.0.now c.split_at_mut-below.result.1.now c.args.k
    c.index-from-0.result at) c.requires.pool

pub next_own-requires-clause-drawn : goal.next_own-requires-clause-drawn
next_own-requires-clause-drawn c =
    let q = c.args.query.now in
    let p = c.args.place.now in
    let L = c.args.levels.now in
    let k = c.args.k in
    let B = c.split_at_mut-below.result.0.now in
    let F = c.split_at_mut-below.result.1.now in
    let d = c.index-from-0.result in
    let s = c.split_at_mut-below.ensures in
    let at : IsSplit L B F k =
    record { value = s.value; front = s.front; split = s.front_len; within = c.requires.within } in
    let es = drawn-own q p L k c.node_at-node.result c.left_list-left.result (slice_index_or F 0 d)
    (get-old L B F k d at) (split-terms q L B p k c.left_list-left.result s.front c.left_list-left.ensures.terms) in
    subst (In (entry_of q.table.now (slice_index_or F 0 d))) es
    (subst (λ e. In e (drawn_at q p L k)) (entry-get q.table.now L k (slice_index_or F 0 d) (get-old L B F k d at))
    c.requires.drawn)

pub returns-clause-choice : goal.returns-clause-choice
returns-clause-choice c =
    let q = c.args.query.now in
    let p = c.args.place.now in
    let L = c.args.levels.now in
    let k = c.args.k in
    let B = c.split_at_mut-below.result.0.now in
    let F = c.split_at_mut-below.result.1.now in
    let d = c.index-from-0.result in
    let s = c.split_at_mut-below.ensures in
    let own = c.next_own.new.own in
    let at : IsSplit L B F k =
    record { value = s.value; front = s.front; split = s.front_len; within = c.requires.within } in
    let es = drawn-own q p L k c.node_at-node.result c.left_list-left.result (slice_index_or F 0 d)
    (get-old L B F k d at) (split-terms q L B p k c.left_list-left.result s.front c.left_list-left.ensures.terms) in
    let old = entry-get q.table.now L k (slice_index_or F 0 d) (get-old L B F k d at) in
    subst
    (λ e. MatchBool c.next_own.result
    (slice_get (above_entry (entry_at q.table.now L k) (drawn_at q p L k)) 0 ≡ Some e)
    (above_entry (entry_at q.table.now L k) (drawn_at q p L k) ≡ []))
    (sym (entry-get q.table.now (B ++ slice_set F 0 own) k own (get-new L B F k d at own)))
    (subst
    (λ z. MatchBool c.next_own.result
    (slice_get (above_entry z (drawn_at q p L k)) 0 ≡ Some (entry_of q.table.now own))
    (above_entry z (drawn_at q p L k) ≡ [])) (sym old)
    (subst
    (λ ds. MatchBool c.next_own.result
    (slice_get (above_entry (entry_of q.table.now (slice_index_or F 0 d)) ds) 0 ≡ Some (entry_of q.table.now own))
    (above_entry (entry_of q.table.now (slice_index_or F 0 d)) ds ≡ [])) (sym es) c.next_own.ensures.choice))

pub returns-clause-draws : goal.returns-clause-draws
returns-clause-draws c =
    let L = c.args.levels.now in
    let k = c.args.k in
    let B = c.split_at_mut-below.result.0.now in
    let F = c.split_at_mut-below.result.1.now in
    let d = c.index-from-0.result in
    let s = c.split_at_mut-below.ensures in
    let own = c.next_own.new.own in
    let at : IsSplit L B F k =
    record { value = s.value; front = s.front; split = s.front_len; within = c.requires.within } in
    draws-get (B ++ slice_set F 0 own) k own (get-new L B F k d at own) ∙ ap Some c.next_own.ensures.draws
    ∙ sym (draws-get L k (slice_index_or F 0 d) (get-old L B F k d at))
