use Rattle.std.proofs.Common.{◌≡◌, ◌∙◌, length, ap, sym, subst, Bool, true, false}
use Rattle.std.specs.Prelude.{[], drop, slice_get, MatchBool, Some}
use Rattle.std.proofs.lemmas.List.{length-take-le}
use Rattle.mp_pattern.specs.Value.{Subst}
use Rattle.mp_table.specs.Table.{Table}
use Rattle.mp_subst.specs.Trail.{Trail, cut, length_at}
use Rattle.mp_ac.specs.CommItems.{SameValues}
use Rattle.mp_ac.specs.Numbered.{numbered_subst}
use Rattle.mp_ac.specs.Search.{ahead, item_table, mark_of, table_of}
use Rattle.mp_ac.specs.declared.search.CommSearch.{CommSearch}
use Rattle.mp_walk.specs.Below.{IsNextItem, IsSearch, IsSearchOf, unboxed}
use Rattle.mp_walk.proofs.comm.next_item.Goals as goal

-- what the search says of its next item, over the same trail and table
next-found : (c d : CommSearch) (u v w : Trail) (t x : Table) (found : Bool) → w ≡ u → x ≡ t
    → (let s = numbered_subst x w.stack in
    MatchBool found
    (((r : Subst) × (slice_get (ahead c s) 0 ≡ Some (item_table d, r)) × SameValues r (numbered_subst x v.stack))
    × (ahead d s ≡ drop 1 (ahead c s)))
    ((ahead c s ≡ []) × (v ≡ w)))
    → IsNextItem found (Some c) (Some d) u v t
next-found c d u v w t x true e f h =
    subst (λ y. IsNextItem true (Some c) (Some d) y v t) e (subst (λ y. IsNextItem true (Some c) (Some d) w v y) f h)
next-found c d u v w t x false e f h =
    subst (λ y. IsNextItem false (Some c) (Some d) y v t) e
    (subst (λ y. IsNextItem false (Some c) (Some d) w v y) f h.0)

pub returns-in-Some-clause-found : goal.returns-in-Some-clause-found
returns-in-Some-clause-found c =
    let b = c.args.below in
    let m = length_at c.args.mark in
    let t = c.args.trail.now in
    let u = cut m t in
    let k = c.deref_mut.result.now in
    let h = subst (IsSearchOf b u) (sym c.deref_mut.ensures.value)
    (subst (λ o. IsSearch b u (unboxed o)) c.in-Some.is c.requires.search) in
    let long : length u.stack ≡ m = length-take-le m t.stack c.requires.above.long in
    let mark : mark_of k ≡ m = h.mark ∙ long in
    let same : cut (mark_of k) t ≡ u = ap (λ n. cut n t) mark in
    subst (λ o. IsNextItem c.next.result (unboxed o) (Some c.next.new.self) u c.next.new.trail b.table.now)
    (sym c.in-Some.is)
    (subst (λ x. IsNextItem c.next.result (Some x) (Some c.next.new.self) u c.next.new.trail b.table.now)
    c.deref_mut.ensures.value
    (next-found k c.next.new.self u c.next.new.trail (cut (mark_of k) t) b.table.now (table_of k) c.next.result same
    h.table c.next.ensures.found))
