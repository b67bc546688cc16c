use Rattle.mp_pattern.proofs.GroundLaws.{is_ground-iff, pattern_cmp-term_pattern, normal_pattern-term_pattern}
use Rattle.mp_pattern.proofs.laws.ground_patterns_are_terms.Goals as goal

pub returns : goal.returns
returns c = record { terms = is_ground-iff; order = pattern_cmp-term_pattern; normal = normal_pattern-term_pattern }
