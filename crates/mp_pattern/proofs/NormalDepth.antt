-- Normalising a pattern doesn't make it deeper.
use Rattle.std.proofs.Common.{◌≡◌, ◌+◌, ◌≤◌, max, List, [], ◌∷◌, refl, ap}
use Rattle.mp_term.specs.Signature.{Sig}
use Rattle.mp_term.proofs.SortedMeasures.{maxima, joined_all}
use Rattle.mp_pattern.specs.PatternTree.{Pattern, patterns}
use Rattle.mp_pattern.specs.Normal.{normal_pattern}
use Rattle.mp_pattern.specs.Depth.{pattern_depth, greatest_pattern_depth}
use Rattle.mp_pattern.proofs.NormalMeasures.{within-normal}

greatest_depth-is : (ps : List Pattern) → greatest_pattern_depth (patterns ps) ≡ joined_all max pattern_depth ps
greatest_depth-is [] = refl
greatest_depth-is (p ∷ ps) = ap (max (pattern_depth p)) (greatest_depth-is ps)

pub pattern_depth-normal_pattern : (sig : Sig) (p : Pattern) → pattern_depth (normal_pattern sig p) ≤ pattern_depth p
pattern_depth-normal_pattern sig p =
    (within-normal sig max maxima pattern_depth 1 (λ f ps. ap (λ n. n + 1) (greatest_depth-is ps)) p).0
