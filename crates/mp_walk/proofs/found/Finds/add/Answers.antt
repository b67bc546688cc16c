use Rattle.std.proofs.Common.{◌∙◌, [], ◌∷◌, ◌++◌, ap, subst, sym}
use Rattle.std.specs.Prelude.{◌↔◌, Contains}
use Rattle.std.specs.List.Sorted.{IsStrictlySortedBy}
use Rattle.mp_pattern.specs.Lists.{Pair}
use Rattle.mp_walk.specs.Found.{found_cmp}
use Rattle.mp_walk.specs.Ranked.{pairs_of}
use Rattle.mp_walk.specs.declared.found.Finds.TheInside.{Inside}
use Rattle.mp_walk.proofs.FoundRuns.{IsReadyFor, kept-failed, kept-pushed, same-pushed}
use Rattle.mp_walk.proofs.found.Finds.add.Goals.{then-self, else-self}
use Rattle.mp_walk.proofs.found.Finds.add.Goals as goal

pub invariant_of-self : goal.invariant_of-self
invariant_of-self c =
    let i = c.self.inside in
    let q = c.args.pair in
    let over = c.requires ∙ sym (ap (λ f. f.table) c.self.view_is) in
    let ready : IsReadyFor c.if-self.self-inside.table.now (pairs_of i.found.items) q c.if-self.self-inside.ascending
    c.if-self.self-inside.found.items =
    elim c.if-self.branch [
      | then-self w ↦
          subst (λ (j : Inside). IsReadyFor j.table.now (pairs_of i.found.items) q j.ascending j.found.items)
          (sym w.self-inside-is) (record {
            ascends = λ b. c.self.invariant.0 w.if-self.true;
            next = λ b. subst (λ rs. IsStrictlySortedBy found_cmp (pairs_of rs)
                → IsStrictlySortedBy found_cmp (pairs_of rs ++ q.pair ∷ [])) w.deref.ensures.value
                (w.follows-self-inside.ensures b) (c.self.invariant.0 w.if-self.true);
            over = c.self.invariant.1;
            table = over;
            same = λ p. (λ h. h, λ h. h);
          })
      | else-self w ↦
          subst (λ (j : Inside). IsReadyFor j.table.now (pairs_of i.found.items) q j.ascending j.found.items)
          (sym w.self-inside-is) (record {
            ascends = λ b. let f = w.if-self.false in cc;
            next = λ b. let f = w.if-self.false in cc;
            over = w.make_room-self-inside.ensures.over i.table.now c.self.invariant.1;
            table = over;
            same = w.make_room-self-inside.ensures.pairs;
          })
    ] in
    kept-failed c.if-self.self-inside.table.now (pairs_of i.found.items) q c.if-self.self-inside.ascending
    c.if-self.self-inside.found.items c.push.new.self.items ready
    c.in_err-push.ensures.items

pub invariant_of-self-2 : goal.invariant_of-self-2
invariant_of-self-2 c =
    let i = c.self.inside in
    let q = c.args.pair in
    let over = c.requires ∙ sym (ap (λ f. f.table) c.self.view_is) in
    let ready : IsReadyFor c.if-self.self-inside.table.now (pairs_of i.found.items) q c.if-self.self-inside.ascending
    c.if-self.self-inside.found.items =
    elim c.if-self.branch [
      | then-self w ↦
          subst (λ (j : Inside). IsReadyFor j.table.now (pairs_of i.found.items) q j.ascending j.found.items)
          (sym w.self-inside-is) (record {
            ascends = λ b. c.self.invariant.0 w.if-self.true;
            next = λ b. subst (λ rs. IsStrictlySortedBy found_cmp (pairs_of rs)
                → IsStrictlySortedBy found_cmp (pairs_of rs ++ q.pair ∷ [])) w.deref.ensures.value
                (w.follows-self-inside.ensures b) (c.self.invariant.0 w.if-self.true);
            over = c.self.invariant.1;
            table = over;
            same = λ p. (λ h. h, λ h. h);
          })
      | else-self w ↦
          subst (λ (j : Inside). IsReadyFor j.table.now (pairs_of i.found.items) q j.ascending j.found.items)
          (sym w.self-inside-is) (record {
            ascends = λ b. let f = w.if-self.false in cc;
            next = λ b. let f = w.if-self.false in cc;
            over = w.make_room-self-inside.ensures.over i.table.now c.self.invariant.1;
            table = over;
            same = w.make_room-self-inside.ensures.pairs;
          })
    ] in
    kept-pushed c.if-self.self-inside.table.now (pairs_of i.found.items) q c.if-self.self-inside.ascending
    c.if-self.self-inside.found.items c.push.new.self.items ready
    c.in_ok-push.ensures.items

pub returns-clause-pairs : goal.returns-clause-pairs
returns-clause-pairs c =
    let i = c.self.inside in
    let q = c.args.pair in
    let over = c.requires ∙ sym (ap (λ f. f.table) c.self.view_is) in
    let ready : IsReadyFor c.if-self.self-inside.table.now (pairs_of i.found.items) q c.if-self.self-inside.ascending
    c.if-self.self-inside.found.items =
    elim c.if-self.branch [
      | then-self w ↦
          subst (λ (j : Inside). IsReadyFor j.table.now (pairs_of i.found.items) q j.ascending j.found.items)
          (sym w.self-inside-is) (record {
            ascends = λ b. c.self.invariant.0 w.if-self.true;
            next = λ b. subst (λ rs. IsStrictlySortedBy found_cmp (pairs_of rs)
                → IsStrictlySortedBy found_cmp (pairs_of rs ++ q.pair ∷ [])) w.deref.ensures.value
                (w.follows-self-inside.ensures b) (c.self.invariant.0 w.if-self.true);
            over = c.self.invariant.1;
            table = over;
            same = λ p. (λ h. h, λ h. h);
          })
      | else-self w ↦
          subst (λ (j : Inside). IsReadyFor j.table.now (pairs_of i.found.items) q j.ascending j.found.items)
          (sym w.self-inside-is) (record {
            ascends = λ b. let f = w.if-self.false in cc;
            next = λ b. let f = w.if-self.false in cc;
            over = w.make_room-self-inside.ensures.over i.table.now c.self.invariant.1;
            table = over;
            same = w.make_room-self-inside.ensures.pairs;
          })
    ] in
    subst (λ f. (p : Pair) → Contains (pairs_of c.push.new.self.items) p ↔ Contains (f.pairs ++ q.pair ∷ []) p)
    c.self.view_is
    (same-pushed c.if-self.self-inside.table.now (pairs_of i.found.items) q c.if-self.self-inside.ascending
    c.if-self.self-inside.found.items c.push.new.self.items ready
    c.in_ok-push.ensures.items)
