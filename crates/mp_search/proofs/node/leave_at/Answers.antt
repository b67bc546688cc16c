use Rattle.std.proofs.Common.{◌++◌, ap, sym, ◌∙◌, subst, take, slice_index_or, slice_set, ◌+◌, refl, arith, ◌≤◌}
use Rattle.std.specs.Prelude.{Some}
use Rattle.mp_term.specs.Order.{tree_cmp}
use Rattle.mp_term.specs.Pieces.{without}
use Rattle.mp_table.specs.Table.{terms_at, HasRanks}
use Rattle.mp_table.proofs.RankLaws.{without-terms}
use Rattle.mp_search.specs.Query.{width}
use Rattle.mp_search.specs.Frames.{left_of}
use Rattle.mp_search.specs.Levels.{IsRoomy, IsOver, draws_of, take_of}
use Rattle.mp_search.proofs.OwnLaws.{IsSplit, get-old, get-new, front-new, many-new, levels-new, own-get, entry-get}
use Rattle.mp_search.proofs.OwnLaws.{rest-get}
use Rattle.mp_search.proofs.OwnLaws.{level-own, ranks-without}
use Rattle.mp_search.proofs.NodeSteps.{split-site, split-terms}
use Rattle.mp_search.specs.At.{site_of}
use Rattle.mp_search.proofs.OpenLaws.{left-sorted}
use Rattle.mp_search.proofs.node.leave_at.Goals as goal

pub leave-requires-clause-room : goal.leave-requires-clause-room
leave-requires-clause-room c =
    let q = c.args.query.now in
    let L = c.args.levels.now in
    let k = c.args.k in
    let B = c.split_at_mut-below.result.0.now in
    let F = c.split_at_mut-below.result.1.now in
    let d = c.index-from-0.result in
    let s = c.split_at_mut-below.ensures in
    let at : IsSplit L B F k =
    record { value = s.value; front = s.front; split = s.front_len; within = c.requires.within } in
    let site = split-site q L B c.args.place.now k (q.first + k) c.left_list-left.result s.front c.requires.within
    c.requires.node c.requires.place refl c.left_list-left.ensures.terms c.left_list-left.ensures.ranks in
    let own = level-own q.table.now (width q) L k (slice_index_or F 0 d) c.requires.node.levels
    (get-old L B F k d at) in
    omega (arith, site.narrow, own.0.2)

pub leave-requires-clause-ascending : goal.leave-requires-clause-ascending
leave-requires-clause-ascending c =
    let q = c.args.query.now in
    let p = c.args.place.now in
    let k = c.args.k in
    let left = c.left_list-left.result in
    let site = split-site q c.args.levels.now c.split_at_mut-below.result.0.now p k (q.first + k) left
    c.split_at_mut-below.ensures.front c.requires.within c.requires.node c.requires.place refl
    c.left_list-left.ensures.terms c.left_list-left.ensures.ranks in
    λ e. left-sorted q (site_of p (q.first + k) left) c.requires.node.query site (sym c.is_comm_above.ensures ∙ e)

pub returns-clause-rest : goal.returns-clause-rest
returns-clause-rest c =
    let q = c.args.query.now in
    let t = q.table.now in
    let p = c.args.place.now in
    let L = c.args.levels.now in
    let k = c.args.k in
    let B = c.split_at_mut-below.result.0.now in
    let F = c.split_at_mut-below.result.1.now in
    let d = c.index-from-0.result in
    let s = c.split_at_mut-below.ensures in
    let own = c.leave.new.self in
    let left = c.left_list-left.result in
    let at : IsSplit L B F k =
    record { value = s.value; front = s.front; split = s.front_len; within = c.requires.within } in
    let old = slice_index_or F 0 d in
    let over = level-own t (width q) L k old c.requires.node.levels (get-old L B F k d at) in
    rest-get q (B ++ slice_set F 0 own) k own (get-new L B F k d at own)
    ∙ ap (terms_at t) c.leave.ensures.rest
    ∙ sym (without-terms t c.requires.node.query.table.ascending old.take.items.items left.now over.1.0
    c.left_list-left.ensures.ranks)
    ∙ ap (without tree_cmp (terms_at t old.take.items.items))
    (split-terms q L B p k left s.front c.left_list-left.ensures.terms)
    ∙ ap (λ e. without tree_cmp e.terms (left_of q (take k L) p.left))
    (sym (entry-get t L k old (get-old L B F k d at)))

pub returns-clause-own : goal.returns-clause-own
returns-clause-own c =
    let L = c.args.levels.now in
    let k = c.args.k in
    let B = c.split_at_mut-below.result.0.now in
    let F = c.split_at_mut-below.result.1.now in
    let d = c.index-from-0.result in
    let s = c.split_at_mut-below.ensures in
    let own = c.leave.new.self in
    let old = slice_index_or F 0 d in
    let at : IsSplit L B F k =
    record { value = s.value; front = s.front; split = s.front_len; within = c.requires.within } in
    own-get (B ++ slice_set F 0 own) k own (get-new L B F k d at own)
    ∙ ap (λ x. Some (x, take_of own)) c.leave.ensures.draws ∙ ap (λ x. Some (draws_of old, x)) c.leave.ensures.take
    ∙ sym (own-get L k old (get-old L B F k d at))

pub returns-clause-kept : goal.returns-clause-kept
returns-clause-kept c =
    let q = c.args.query.now in
    let t = q.table.now in
    let L = c.args.levels.now in
    let k = c.args.k in
    let B = c.split_at_mut-below.result.0.now in
    let F = c.split_at_mut-below.result.1.now in
    let d = c.index-from-0.result in
    let s = c.split_at_mut-below.ensures in
    let own = c.leave.new.self in
    let old = slice_index_or F 0 d in
    let e = c.leave.ensures in
    let at : IsSplit L B F k =
    record { value = s.value; front = s.front; split = s.front_len; within = c.requires.within } in
    let had = level-own t (width q) L k old c.requires.node.levels (get-old L B F k d at) in
    let roomy : IsRoomy (width q) own =
    subst (λ r. (width q ≤ r.0) × (width q ≤ r.1) × (width q ≤ r.2)) (sym e.rooms) had.0 in
    let over : IsOver t own = (
      subst (λ x. HasRanks t x.0) (sym e.take) had.1.0,
      subst (λ x. HasRanks t x.1) (sym e.draws) had.1.1,
      subst (HasRanks t) (sym e.rest)
          (ranks-without t old.take.items.items c.left_list-left.result.now c.left_list-left.ensures.ranks),
    ) in
    record {
      front = front-new L B F k d at own;
      many = many-new L B F k d at own;
      levels = levels-new L B F k d at t (width q) own c.requires.node.levels (roomy, over);
    }
