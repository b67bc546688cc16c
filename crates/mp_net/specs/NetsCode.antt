-- Nets as tuples that give them back.
use Rattle.std.specs.Prelude.{ℕ, List, refl}
use Rattle.std.specs.Coded.{Coded, code_by, coded×, coded_ℕ, coded_list}
use Rattle.mp_term.specs.Signature.{Sig}
use Rattle.mp_pattern.specs.Admission.{Rule}
use Rattle.mp_pattern.specs.RuleCode.{coded_rule}
use Rattle.mp_net.specs.Nets.{Nets}
use Rattle.mp_term.specs.SigCode.{coded_sig}

-- the code of nets
abbrev pub coded_nets : Coded Nets
coded_nets = code_by (Sig × (List Rule × ℕ)) (coded× coded_sig (coded× (coded_list coded_rule) coded_ℕ))
    (λ n. (n.sig, (n.rules, n.groups))) (λ p. record { sig = p.0; rules = p.1.0; groups = p.1.1 }) (λ _. refl)
