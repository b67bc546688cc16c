-- Nets of syntactic rules.
use Rattle.std.specs.Prelude.{ℕ, Bool, not, List, map, position, Option}
use Rattle.mp_term.specs.Signature.{Sig}
use Rattle.mp_pattern.specs.Admission.{Rule}
use Rattle.mp_pattern.specs.Syntactic.{is_syntactic}
use Rattle.mp_net.specs.Net.{Mark, marks}

-- the signature, the rules, and the number of their nets
pub record Nets : Type 0 where
  pub sig : Sig
  pub rules : List Rule
  pub groups : ℕ

-- the rule's pattern is syntactic
abbrev pub is_syntactic_rule : Sig → Rule → Bool
is_syntactic_rule sig r = is_syntactic sig r.pattern

-- the number of the first rule that isn't, from 0
abbrev pub first_not_syntactic : Sig → List Rule → Option ℕ
first_not_syntactic sig rs = position (λ r. not (is_syntactic_rule sig r)) rs

-- what the patterns of rules ask
abbrev pub rule_marks : List Rule → List (List Mark)
rule_marks rs = map (λ r. marks r.pattern) rs
