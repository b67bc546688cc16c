use Rattle.std.proofs.Common.{◌≡◌, ◌++◌, true, take, length, ap, sym, ◌∙◌, subst, slice_set, arith}
use Rattle.std.proofs.lemmas.List.{length-map}
use Rattle.mp_term.specs.Order.{tree_cmp}
use Rattle.mp_term.specs.Pieces.{without}
use Rattle.mp_pattern.specs.View.{pattern_tree}
use Rattle.mp_table.specs.Table.{term_at, terms_at}
use Rattle.mp_table.proofs.RankLaws.{without-terms}
use Rattle.mp_theory.specs.Trail.{allows}
use Rattle.mp_search.specs.At.{site_of}
use Rattle.mp_search.specs.Frames.{stack_frames, left_of, place_after}
use Rattle.mp_search.specs.Reading.{entry_of}
use Rattle.mp_search.specs.Site.{site_frame}
use Rattle.mp_search.proofs.NextLaws.{next-room, passed-same}
use Rattle.mp_search.proofs.NodeSteps.{split-within, split-site, split-place, split-terms}
use Rattle.mp_search.proofs.OwnLaws.{IsSplit, get-new, entry-get, rest-get}
use Rattle.mp_search.proofs.node.pass_at.Goals as goal

pub node_at-node-requires-clause-within : goal.node_at-node-requires-clause-within
node_at-node-requires-clause-within c =
    split-within c.args.query.now c.args.levels.now c.args.place.now c.args.k c.requires.within c.requires.node
    c.requires.place

pub pass_own-requires-clause-site : goal.pass_own-requires-clause-site
pass_own-requires-clause-site c =
    let s = c.split_at_mut-below.ensures in
    split-site c.args.query.now c.args.levels.now c.split_at_mut-below.result.0.now c.args.place.now c.args.k
    c.node_at-node.result c.left_list-left.result s.front c.requires.within c.requires.node c.requires.place
    c.node_at-node.ensures c.left_list-left.ensures.terms c.left_list-left.ensures.ranks

pub pass_own-requires-clause-spare : goal.pass_own-requires-clause-spare
pass_own-requires-clause-spare c = λ e h.
    let q = c.args.query.now in
    let L = c.args.levels.now in
    let p = c.args.place.now in
    let k = c.args.k in
    let r = c.requires in
    next-room q k L p c.args.trail.now r.within r.place r.next r.trail e
    (subst (λ n. allows q.sig.now n e ≡ true)
    (split-place q L c.split_at_mut-below.result.0.now p k c.node_at-node.result c.left_list-left.result
    c.split_at_mut-below.ensures.front r.within r.node r.place c.node_at-node.ensures c.left_list-left.ensures.terms) h)

pub returns-clause-passed : goal.returns-clause-passed
returns-clause-passed c =
    let q = c.args.query.now in
    let p = c.args.place.now in
    let L = c.args.levels.now in
    let k = c.args.k in
    let B = c.split_at_mut-below.result.0.now in
    let F = c.split_at_mut-below.result.1.now in
    let d = c.index-from-0.result in
    let s = c.split_at_mut-below.ensures in
    let own = c.pass_own.new.own in
    let at : IsSplit L B F k =
    record { value = s.value; front = s.front; split = s.front_len; within = c.requires.within } in
    passed-same q c.pass_own.result (pattern_tree p.child.now)
    (site_frame q (site_of p c.node_at-node.result c.left_list-left.result)) (stack_frames q (take k L) p.outer.now)
    (place_after q (take k L)) c.args.trail.now c.pass_own.new.trail (entry_of q.table.now own) _
    (split-place q L B p k c.node_at-node.result c.left_list-left.result s.front c.requires.within
    c.requires.node c.requires.place c.node_at-node.ensures c.left_list-left.ensures.terms)
    (sym (entry-get q.table.now (B ++ slice_set F 0 own) k own (get-new L B F k d at own)))
    c.pass_own.ensures.passed

pub returns-clause-rest : goal.returns-clause-rest
returns-clause-rest c = λ b.
    let q = c.args.query.now in
    let t = q.table.now in
    let p = c.args.place.now in
    let L = c.args.levels.now in
    let k = c.args.k in
    let B = c.split_at_mut-below.result.0.now in
    let F = c.split_at_mut-below.result.1.now in
    let d = c.index-from-0.result in
    let s = c.split_at_mut-below.ensures in
    let own = c.pass_own.new.own in
    let left = c.left_list-left.result in
    let at : IsSplit L B F k =
    record { value = s.value; front = s.front; split = s.front_len; within = c.requires.within } in
    let new = get-new L B F k d at own in
    rest-get q (B ++ slice_set F 0 own) k own new ∙ ap (terms_at t) (c.pass_own.ensures.rest b)
    ∙ sym (without-terms t c.requires.node.query.table.ascending own.take.items.items left.now
    c.pass_own.ensures.over.0 c.left_list-left.ensures.ranks)
    ∙ ap (without tree_cmp (terms_at t own.take.items.items))
    (split-terms q L B p k left s.front c.left_list-left.ensures.terms)
    ∙ ap (λ e. without tree_cmp e.terms (left_of q (take k L) p.left))
    (sym (entry-get t (B ++ slice_set F 0 own) k own new))

pub returns-clause-spare : goal.returns-clause-spare
returns-clause-spare c =
    let q = c.args.query.now in
    let L = c.args.levels.now in
    let k = c.args.k in
    let B = c.split_at_mut-below.result.0.now in
    let F = c.split_at_mut-below.result.1.now in
    let d = c.index-from-0.result in
    let s = c.split_at_mut-below.ensures in
    let own = c.pass_own.new.own in
    let at : IsSplit L B F k =
    record { value = s.value; front = s.front; split = s.front_len; within = c.requires.within } in
    omega (
      arith,
      c.pass_own.ensures.spare,
      ap (λ e. length e.terms)
          (entry-get q.table.now (B ++ slice_set F 0 own) k own (get-new L B F k d at own)),
      length-map own.take.items.items (term_at q.table.now),
    )
