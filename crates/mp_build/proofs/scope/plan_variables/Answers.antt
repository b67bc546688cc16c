use Rattle.std.proofs.Common.{◌≡◌, ℕ, zero, suc, ◌+◌, ◌<◌, List, [], ◌∷◌, ◌++◌, take, length, map, Some, None, sym, ap}
use Rattle.std.proofs.Common.{◌∙◌, arith, add-one}
use Rattle.std.specs.Prelude.{slice_get}
use Rattle.std.proofs.lemmas.List.{map-append, length-map}
use Rattle.mp_build.specs.Scope.{plan_variable, plan_variables}
use Rattle.mp_build.specs.ScopeView.{variable_of}
use Rattle.mp_build.proofs.scope.plan_variables.Goals as goal
use Rattle.mp_build.proofs.scope.plan_variables.Goals.{in-Some+in_ok-push, in_default}

-- the items before the next index are those before an item that is got, and the item
take-got : {X : Type 0} (xs : List X) (i : ℕ) (x : X) → slice_get xs i ≡ Some x → take (i + 1) xs ≡ take i xs ++ x ∷ []
take-got {X = X} xs i x h = ap (λ k. take k xs) (add-one i) ∙ go xs i h
  where
    go : (xs : List X) (i : ℕ) → slice_get xs i ≡ Some x → take (suc i) xs ≡ take i xs ++ x ∷ []
    go [] i h = cc
    go (y ∷ ys) zero h = let same : y ≡ x = cc in ap (λ z. z ∷ []) same
    go (y ∷ ys) (suc i) h = ap (λ l. y ∷ l) (go ys i h)

-- an item is got at each index within
got-within : {X : Type 0} (xs : List X) (i : ℕ) → i < length xs → slice_get xs i ≡ None → ⊥
got-within [] i h e = absurd (omega arith)
got-within (y ∷ ys) zero h e = cc
got-within (y ∷ ys) (suc i) h e = got-within ys i (omega arith) e

pub loop-number-preserved : goal.loop-number-preserved
loop-number-preserved c =
    let variables = plan_variables c.args.plan.now in
    elim c.match-plan_variable.branch [
      | in-Some+in_ok-push w ↦
          ap (λ x. map variable_of x.items) w.variables-is
          ∙ ap (map variable_of) w.in_ok-push.ensures.items
          ∙ map-append variable_of c.loop-number.variables.items (w.in-Some.variable ∷ [])
          ∙ ap (λ l. l ++ variable_of w.in-Some.variable ∷ []) c.loop-number.invariant
          ∙ sym (take-got variables c.loop-number.number (variable_of w.in-Some.variable) (sym w.in-Some.ensures))
      | in_default w ↦
          absurd (got-within variables c.loop-number.number
          (omega (
            arith,
            length-map c.args.plan.now.variables
                plan_variable,
            c.vars-number-end.ensures.count,
            c.loop-number-test.true,
          )) (sym w.in_default.ensures))
    ]
