-- Edit statements as pairs that give them back.
use Rattle.std.specs.Prelude.{ℕ, List, refl}
use Rattle.std.specs.Coded.{Coded, code_by, coded×, coded_ℕ, coded_list}
use Rattle.mp_term.specs.declared.edit.Edit.{Edit}
use Rattle.mp_term.specs.Edits.{coded_edit}
use Rattle.mp_text.specs.declared.file.EditSet.{EditSet}

-- an edit statement is stored as the pair of its subject's number and its edits
abbrev pub coded_edit_set : Coded EditSet
coded_edit_set = code_by (ℕ × List Edit) (coded× coded_ℕ (coded_list coded_edit)) (λ e. (e.subject, e.edits))
    (λ p. record { subject = p.0; edits = p.1 }) (λ _. refl)
