-- How a proof tells edits apart.
use Rattle.std.specs.Prelude.{ℕ, List, refl}
use Rattle.std.specs.Coded.{Coded, code_by, coded×, coded_list, coded_ℕ}
use Rattle.mp_term.specs.declared.edit.Edit.{Edit}
use Rattle.mp_term.specs.Tree.{Tree}
use Rattle.mp_term.specs.Code.{coded_tree}

-- an edit as the pair of its position and its terms
abbrev pub coded_edit : Coded Edit
coded_edit = code_by (List ℕ × List Tree) (coded× (coded_list coded_ℕ) (coded_list coded_tree))
    (λ e. (e.position, e.terms)) (λ p. record { position = p.0; terms = p.1 }) (λ _. refl)
