-- A pattern whose operations have no equation is its own normal form.
use Rattle.std.proofs.Common.{◌≡◌, ℕ, false, List, [], ◌∷◌, refl, ap, ◌∙◌}
use Rattle.std.specs.Prelude.{◌||◌}
use Rattle.std.proofs.lemmas.Bool.{or_parts}
use Rattle.mp_term.specs.Signature.{Sig, is_assoc, is_comm, is_one}
use Rattle.mp_pattern.specs.PatternTree.{Pattern, app_pattern, patterns}
use Rattle.mp_pattern.proofs.NormalLaws.{flattened-plain}
use Rattle.mp_pattern.specs.Normal.{flattened, in_order, collapsed, normal_pattern, normal_patterns}

module _ (sig : Sig) where
  in_order-plain : (f : ℕ) (ps : List Pattern) → is_comm sig f ≡ false → in_order sig f ps ≡ ps
  in_order-plain f ps h = rw h refl

  collapsed-plain : (f : ℕ) (ps : List Pattern) → is_one sig f ≡ false
      → collapsed sig f ps ≡ app_pattern f (patterns ps)
  collapsed-plain f [] h = refl
  collapsed-plain f (p ∷ []) h = rw h refl
  collapsed-plain f (p ∷ q ∷ ps) h = refl

  -- an application of such an operation to normal arguments
  pub normal_pattern-plain : (f : ℕ) (ps : List Pattern) → (is_assoc sig f || (is_comm sig f || is_one sig f)) ≡ false
      → normal_patterns sig (patterns ps) ≡ ps
      → normal_pattern sig (app_pattern f (patterns ps)) ≡ app_pattern f (patterns ps)
  normal_pattern-plain f ps none normal =
      let p = or_parts (is_assoc sig f) _ none in
      let q = or_parts (is_comm sig f) (is_one sig f) p.1 in
      ap (λ qs. collapsed sig f (in_order sig f (flattened sig f qs))) normal
      ∙ ap (λ qs. collapsed sig f (in_order sig f qs)) (flattened-plain sig f ps p.0)
      ∙ ap (collapsed sig f) (in_order-plain f ps q.0) ∙ collapsed-plain f ps q.1
