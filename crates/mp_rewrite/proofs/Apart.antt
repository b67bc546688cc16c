-- Children that can't take the arguments of an application.
use Rattle.std.proofs.Common.{◌≡◌, ap, refl, subst, ℕ, zero, suc, ◌-◌, ◌&&◌, arith}
use Rattle.std.proofs.Common.{List, [], ◌∷◌}
use Rattle.std.specs.Prelude.{Option, Some, None, IfSome, slice_set}
use Rattle.mp_term.specs.Tree.{Tree, app, trees}
use Rattle.mp_term.specs.Signature.{Sig}
use Rattle.mp_term.specs.Normal.{IsNormal}
use Rattle.mp_pattern.specs.Admission.{Rule}
use Rattle.mp_pattern.specs.Fits as fits
use Rattle.mp_pattern.specs.PatternTree.{Patterns, app_pattern}
use Rattle.mp_pattern.specs.Value.{Subst}
use Rattle.mp_theory.specs.MayMatch.{has_optional}
use Rattle.mp_theory.specs.OneList.{item_list}
use Rattle.mp_cursor.proofs.RootLaws.{arguments-taken, no-items}
use Rattle.mp_rewrite.specs.Within.{IsFree, with_one}

-- the items behind the first, where one of them is replaced
pub with_one-later : (i : ℕ) (t : Tree) (ts : List Tree) (u : Tree) → (i ≡ 0 → ⊥)
    → with_one (Some i) (t ∷ ts) u ≡ t ∷ with_one (Some (i - 1)) ts u
with_one-later zero t ts u h = absurd (h refl)
with_one-later (suc i) t ts u h = let same : i ≡ suc i - 1 = omega arith in ap (λ k. t ∷ slice_set ts k u) same

-- where children never take the arguments nothing is admitted
pub never-taken : (sig : Sig) (g : ℕ) (ps : Patterns) (ts : List Tree) (r : Rule) → IsFree sig g
    → IsNormal sig (app g (trees ts)) → r.pattern ≡ app_pattern g ps
    → ((s : Subst) (ls : List (List Tree)) (Ws : List fits.Table)
    → fits.AllTakeBy sig (fits.ByValue sig s) g ps ls Ws → fits.joined ls ≡ ts → ⊥)
    → item_list sig r (app g (trees ts)) ≡ []
never-taken sig g ps ts r free n is never = no-items sig r (app g (trees ts)) n (λ s W h.
    let taken = arguments-taken sig s g ps ts W free.comm
    (ap (λ b. b && (fits.no_sequence ps && has_optional ps)) free.one)
    (subst (λ p. fits.Takes sig s None p (app g (trees ts) ∷ []) W) is h) in
    never s taken.0 taken.1 taken.2 taken.3)

-- what holds of a value holds as soon as something does that says it
pub some-then : {X : Type 0} (P Q : X → Type 0) (o : Option X) → ((x : X) → P x → Q x) → IfSome o P → IfSome o Q
some-then P Q None f h = tt
some-then P Q (Some x) f h = f x h
