-- Conditions that are joined, and the conditions of lists of literals and alternatives.
use Rattle.std.proofs.Common.{◌≡◌, List, [], ◌∷◌, map, length, refl, ap}
use Rattle.mp_term.specs.Signature.{Sig}
use Rattle.mp_pattern.specs.CondTree.{Cond, Conds, more_conds, conds}
use Rattle.mp_parser.specs.Syntax.{Literal, Literals, literals, condition}
use Rattle.mp_build.specs.Conditions.{joined, literal_of, literals_of, alternatives_of, alternative_of}

-- none or several are joined
pub joined-several : (join : Conds → Cond) (cs : List Cond) → (length cs ≡ 1 → ⊥)
    → joined join (conds cs) ≡ join (conds cs)
joined-several join [] h = refl
joined-several join (c ∷ []) h = absurd (h refl)
joined-several join (c ∷ d ∷ cs) h = refl

module _ (sig : Sig) where
  -- the conditions of a list of literals
  pub literals_of-literals : (ls : List Literal) → literals_of sig (literals ls) ≡ conds (map (literal_of sig) ls)
  literals_of-literals [] = refl
  literals_of-literals (l ∷ ls) = ap (more_conds (literal_of sig l)) (literals_of-literals ls)

  -- the conditions of a list of alternatives
  pub alternatives_of-condition : (parts : List Literals)
      → alternatives_of sig (condition parts) ≡ conds (map (alternative_of sig) parts)
  alternatives_of-condition [] = refl
  alternatives_of-condition (a ∷ parts) = ap (more_conds (alternative_of sig a)) (alternatives_of-condition parts)
