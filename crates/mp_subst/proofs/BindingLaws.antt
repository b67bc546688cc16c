-- What holds of a trail when a value was put on its stack, or the values don't merge.
use Rattle.std.proofs.Common.{◌≡◌, ℕ, ◌<◌, ◌≤◌, ◌+◌, Bool, true, false, [], ◌∷◌, length, ap, sym}
use Rattle.std.proofs.Common.{subst, arith}
use Rattle.std.specs.Prelude.{Some, None, MatchBool}
use Rattle.mp_term.proofs.ListLaws.{all-append}
use Rattle.mp_pattern.specs.Value.{Value, IsFinal}
use Rattle.mp_table.specs.Table.{Table}
use Rattle.mp_subst.specs.Bound.{Bound, value_in}
use Rattle.mp_subst.specs.Trail.{TrailEntry, Trail, cut, GoesWith, AreFinal, joined}
use Rattle.mp_subst.specs.Outcome.{Suits, IsPut, IsClash, IsBinding}
use Rattle.mp_subst.proofs.TrailLaws.{joined-either, cut-whole, cut-with_entry, goes_with-with_entry}

module _ (table : Table) (old new : Trail) (x : ℕ) (b : Bound) (w : Value) (most : ℕ) (suits : Suits table old.stack b)
    (is : value_in table b ≡ w) (goes : GoesWith table old) (few : length b.ranks + 1 ≤ most) where
  put : x < old.vars → IsPut old new x b → IsBinding table old new x w most true
  put below p =
      let v = p.value table suits in
      let joins : joined table old.stack x w ≡ Some (value_in table p.bound) =
      subst (λ u. joined table old.stack x u ≡ Some (value_in table p.bound)) is v.1 in
      let e : TrailEntry = record { var = x; value = p.bound; spare = old.spare } in
      record {
        bound = λ _. record { bound = p.bound; stack = ap (λ t. t.stack) p.trail; value = joins };
        clash = λ e. cc;
        refused = λ e. cc;
        goes_with = subst (GoesWith table) (sym p.trail)
            (goes_with-with_entry old x p.bound p.cost table goes v.0 below);
        vars = ap (λ t. t.vars) p.trail;
        room = ap (λ t. t.room) p.trail;
        spare = omega (arith, ap (λ t. t.spare) p.trail, p.few, few);
        undone = subst (λ t. cut (length old.stack) t ≡ old) (sym p.trail) (cut-with_entry old x p.bound p.cost);
        are_final = λ sig h k. subst (λ t. AreFinal sig table t.stack) (sym p.trail)
            (all-append (λ d. IsFinal sig (value_in table d.value)) old.stack (e ∷ []) h
            (joined-either (IsFinal sig) table old.stack x w (value_in table p.bound) h k joins, tt));
      }

  clash : IsClash old new x b → IsBinding table old new x w most false
  clash p = record {
    bound = λ e. cc;
    clash = λ _. subst (λ u. joined table old.stack x u ≡ None) is (p.value table suits);
    refused = λ _. p.trail;
    goes_with = subst (GoesWith table) (sym p.trail) goes;
    vars = ap (λ t. t.vars) p.trail;
    room = ap (λ t. t.room) p.trail;
    spare = omega (arith, ap (λ t. t.spare) p.trail);
    undone = subst (λ t. cut (length old.stack) t ≡ old) (sym p.trail) (cut-whole old);
    are_final = λ sig h k. subst (λ t. AreFinal sig table t.stack) (sym p.trail) h;
  }

  pub is_binding : x < old.vars → (answer : Bool) → MatchBool answer (IsPut old new x b) (IsClash old new x b)
      → IsBinding table old new x w most answer
  is_binding below true h = put below h
  is_binding below false h = clash h
