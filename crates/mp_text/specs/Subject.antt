-- A subject as plain data.
use Rattle.std.specs.Prelude.{ℕ, List, refl}
use Rattle.std.specs.Coded.{Coded, code_by, coded×, coded_ℕ, coded_list}
use Rattle.mp_term.specs.Tree.{Tree}
use Rattle.mp_term.specs.Code.{coded_tree}

-- a subject: its name and its term
pub record Subject : Type 0 where
  pub name : List ℕ
  pub term : Tree

-- a subject is stored as the pair of its name and its term
abbrev pub coded_subject : Coded Subject
coded_subject = code_by (List ℕ × Tree) (coded× (coded_list coded_ℕ) coded_tree) (λ s. (s.name, s.term))
    (λ p. record { name = p.0; term = p.1 }) (λ _. refl)
