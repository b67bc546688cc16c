-- Many rules as a tuple that gives them back.
use Rattle.std.specs.Prelude.{List, refl}
use Rattle.std.specs.Coded.{Coded, code_by, coded×, coded_list}
use Rattle.mp_term.specs.Signature.{Sig}
use Rattle.mp_term.specs.SigCode.{coded_sig}
use Rattle.mp_pattern.specs.Admission.{Rule}
use Rattle.mp_pattern.specs.RuleCode.{coded_rule}
use Rattle.mp_many.specs.Many.{Many}

-- the code of many rules
abbrev pub coded_many : Coded Many
coded_many = code_by (Sig × List Rule) (coded× coded_sig (coded_list coded_rule))
    (λ m. (m.sig, m.rules)) (λ p. record { sig = p.0; rules = p.1 }) (λ _. refl)
