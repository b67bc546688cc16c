-- The tables of a commutative node are those that the search of the theory accepts below it.
use Rattle.std.proofs.Common.{◌≡◌, ℕ, List, [], ◌∷◌, ◌++◌, map, Bool, true, refl, ap, sym, ◌∙◌, subst, append-nil}
use Rattle.std.specs.Prelude.{◌↔◌, Some, None}
use Rattle.std.specs.List.{AllByRecursion}
use Rattle.mp_term.specs.Normal.{IsNormal}
use Rattle.mp_term.specs.NormalTest.{passes}
use Rattle.mp_term.specs.Search.{In, Accepts}
use Rattle.mp_term.specs.Tree.{Tree}
use Rattle.mp_term.specs.Signature.{Sig}
use Rattle.mp_term.proofs.ListLaws.{all-also}
use Rattle.mp_term.proofs.NormalTestLaws.{normal-passes}
use Rattle.mp_pattern.specs.PatternTree.{Patterns, app_pattern}
use Rattle.mp_pattern.specs.Value.{IsFinal, Subst}
use Rattle.mp_pattern.specs.Variables.{uses, all_uses, IsSubstOf}
use Rattle.mp_pattern.specs.Fits.{Table, joined, arranged, ByValue}
use Rattle.mp_theory.specs.Solve.{solve}
use Rattle.mp_theory.specs.Frames.{Next, settle}
use Rattle.mp_theory.specs.Machine.{is_ended, onward, takes, choices}
use Rattle.mp_theory.proofs.Agenda.{Run, forward_all, backward_all}
use Rattle.mp_theory.proofs.Wildcards.{IsFine, final-passes}
use Rattle.mp_theory.proofs.Walk.{IsFineAt, fine-settle, run_at, at_run, accepted, valued}
use Rattle.mp_theory.proofs.Tables.{accounts, accounts-settled}
use Rattle.mp_theory.proofs.Solving.{GivesFinal, solved-by, solution}
use Rattle.mp_theory.proofs.FitsSolves.{at_value, obeyed, takes-final}
use Rattle.mp_ac.specs.Children.{AreArguments, ChildrenTake}
use Rattle.mp_ac.specs.CommItems.{SameValues, IsTrail, IsCommItem}
use Rattle.mp_ac.specs.CommList.{below}
use Rattle.mp_ac.proofs.Taken.{over-alone, alone-over}

module _ (sig : Sig) (g : ℕ) where
  -- arguments are what the theory calls fine
  pub arguments-fine : (args : List Tree) → AreArguments sig g args ↔ IsFine sig (Some g) args
  arguments-fine args = (
    λ h. record {
      pass = all-also (IsNormal sig) (λ t. passes sig t ≡ true) (final-passes sig) args h.normal;
      alone = h.alone;
      in_order = h.ordered;
    },
    λ h. record {
      normal = all-also (λ t. passes sig t ≡ true) (IsNormal sig) (λ t e. normal-passes sig t e) args h.pass;
      alone = h.alone;
      ordered = h.in_order;
    },
  )

module _ (sig : Sig) (g : ℕ) (ps : Patterns) (args : List Tree) (owes : Bool) (fine : IsFine sig (Some g) args) where
  -- the place before the first child
  abbrev pub place : Next
  place = settle (below g ps args owes)

  -- what is left there is fine
  pub fine-place : IsFineAt sig place
  fine-place = fine-settle sig (below g ps args owes) (fine, tt)

  -- an accepted table uses the variables below the node
  same_uses : (T : Table) → Accepts (choices sig) onward is_ended place T
      → map (λ t. t.by) (takes place T) ≡ uses None (app_pattern g ps)
  same_uses T a = (accounts-settled sig (below g ps args owes) T a (accounts sig place T a)).1
      ∙ append-nil (all_uses (Some g) ps)

  -- nothing comes after the last child
  none_after : (v : Subst) (T : Table) → Run sig (ByValue sig v) [] T → T ≡ []
  none_after v [] h = refl
  none_after v (e ∷ T) h = absurd h

  -- where the children take the arguments with values, the table is accepted, and its takes are solved by the values
  pub children-accepted : (v : Subst) (T : Table) → IsSubstOf sig (app_pattern g ps) v
      → ChildrenTake sig (ByValue sig v) g ps args owes T
      → Accepts (choices sig) onward is_ended place T × (solve sig [] (takes place T) ≡ Some v)
  children-accepted v T s h =
      let run : Run sig (ByValue sig v) (below g ps args owes) T =
      subst (λ m. Run sig (ByValue sig v) (below g ps m owes) T) h.together
      (subst (Run sig (ByValue sig v) (below g ps (arranged sig (Some g) (joined h.takes)) owes))
      (append-nil (joined h.tables) ∙ sym h.table)
      (forward_all sig (ByValue sig v) ps g h.takes h.tables h.children owes [] [] h.owed refl)) in
      let a = accepted sig v (λ x w e. at_value (λ y u. IsFinal sig u) v x w s.final e) place T fine-place
      (run_at sig (ByValue sig v) (below g ps args owes) T run) in (
        a.0,
        solved-by sig (app_pattern g ps) (takes place T) (same_uses T a.0) v s
            (obeyed sig (app_pattern g ps) v s (takes place T) (λ u i. subst (In u) (same_uses T a.0) i) a.1),
      )

  -- the takes of an accepted table give final values
  pub takes-are_final : (T : Table) → Accepts (choices sig) onward is_ended place T
      → AllByRecursion (GivesFinal sig) (takes place T)
  takes-are_final T a = takes-final sig place T fine-place a

  -- and back
  pub accepted-children : (v : Subst) (T : Table) → Accepts (choices sig) onward is_ended place T
      → solve sig [] (takes place T) ≡ Some v
      → IsSubstOf sig (app_pattern g ps) v × ChildrenTake sig (ByValue sig v) g ps args owes T
  accepted-children v T a e =
      let k = solution sig (app_pattern g ps) (takes place T) (same_uses T a) v (takes-are_final T a) e in
      let r = backward_all sig (ByValue sig v) ps g args owes [] T
      (at_run sig (ByValue sig v) (below g ps args owes) T (valued sig v place T fine-place a k.1)) in (
        k.0,
        record {
          takes = r.lists;
          tables = r.tables;
          children = r.takes;
          together = r.together;
          owed = r.owed;
          table = r.table ∙ ap (λ V. joined r.tables ++ V) (none_after v r.after r.go) ∙ append-nil (joined r.tables);
        },
      )

  -- a table is an item over a trail exactly where the search accepts it and its takes are solved over the trail; the
  -- trails after it have the same values
  pub item-solved : (s : Subst) (T : Table) (q : Subst) → IsTrail sig s → IsCommItem sig g ps args owes s T q
      → Accepts (choices sig) onward is_ended place T
      × ((r : Subst) × (solve sig s (takes place T) ≡ Some r) × SameValues r q)
  item-solved s T q t i =
      let a = children-accepted i.values T i.are_values i.children in
      (a.0, alone-over sig s i.values q (takes place T) t (takes-are_final T a.0) a.1 i.merged)

  pub solved-item : (s : Subst) (T : Table) (r : Subst) → IsTrail sig s
      → Accepts (choices sig) onward is_ended place T → solve sig s (takes place T) ≡ Some r
      → (q : Subst) × IsCommItem sig g ps args owes s T q × SameValues q r
  solved-item s T r t a e =
      let o = over-alone sig s r (takes place T) t (takes-are_final T a) e in
      let k = accepted-children o.0 T a o.2 in
      (o.1, record { values = o.0; are_values = k.0; children = k.1; merged = o.3 }, o.4)
