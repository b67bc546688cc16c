-- Signatures as tuples that give them back.
use Rattle.std.specs.Prelude.{ℕ, Bool, List, Option, refl}
use Rattle.std.specs.Coded.{Coded, code_by, coded×, coded_bool, coded_ℕ, coded_list, coded_option}
use Rattle.mp_term.specs.declared.signature.OpDecl.{OpDecl}
use Rattle.mp_term.specs.Signature.{Kind, Sig}

-- a word
abbrev pub coded_word : Coded (List ℕ)
coded_word = coded_list coded_ℕ

-- the code of operations
abbrev pub coded_op : Coded OpDecl
coded_op = code_by (List ℕ × (ℕ × (Bool × (Bool × (Bool × (Bool × Option (List ℕ)))))))
    (coded× coded_word (coded× coded_ℕ (coded× coded_bool (coded× coded_bool
    (coded× coded_bool (coded× coded_bool (coded_option coded_word)))))))
    (λ d. (d.name, (d.least, (d.fixed, (d.assoc, (d.comm, (d.one, d.sign)))))))
    (λ p. record {
      name = p.0;
      least = p.1.0;
      fixed = p.1.1.0;
      assoc = p.1.1.1.0;
      comm = p.1.1.1.1.0;
      one = p.1.1.1.1.1.0;
      sign = p.1.1.1.1.1.1;
    })
    (λ _. refl)

-- the code of kinds
abbrev pub coded_kind : Coded Kind
coded_kind = code_by (List ℕ × List (List ℕ)) (coded× coded_word (coded_list coded_word))
    (λ k. (k.name, k.members)) (λ p. record { name = p.0; members = p.1 }) (λ _. refl)

-- the code of signatures
abbrev pub coded_sig : Coded Sig
coded_sig = code_by (List OpDecl × List Kind) (coded× (coded_list coded_op) (coded_list coded_kind))
    (λ s. (s.ops, s.kinds)) (λ p. record { ops = p.0; kinds = p.1 }) (λ _. refl)
