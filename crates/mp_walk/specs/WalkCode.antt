-- Walks as tuples that give them back.
use Rattle.std.specs.Prelude.{ℕ, Bool, List, Option, refl}
use Rattle.std.specs.Coded.{Coded, code_by, coded×, coded_ℕ, coded_bool, coded_list, coded_option}
use Rattle.mp_pattern.specs.EntryCode.{coded_entry}
use Rattle.mp_pattern.specs.Fits as fits
use Rattle.mp_table.specs.Table.{Table}
use Rattle.mp_table.specs.TableCode.{coded_table}
use Rattle.mp_term.specs.SigCode.{coded_sig}
use Rattle.mp_term.specs.Signature.{Sig}
use Rattle.mp_walk.specs.InstrCode.{coded_instr}
use Rattle.mp_walk.specs.Instrs.{Instr}
use Rattle.mp_walk.specs.WalkView.{WalkView}

-- the code of a walk's items
abbrev pub coded_item : Coded (ℕ × fits.Table)
coded_item = coded× coded_ℕ (coded_list coded_entry)

-- the code of walks
abbrev pub coded_walk : Coded WalkView
coded_walk =
    code_by (Sig × (List Instr × (Table × (Option (ℕ × fits.Table) × (List (ℕ × fits.Table) × Bool)))))
    (coded× coded_sig (coded× (coded_list coded_instr) (coded× coded_table (coded× (coded_option coded_item)
    (coded× (coded_list coded_item) coded_bool)))))
    (λ w. (w.sig, (w.code, (w.table, (w.item, (w.to_come, w.failed))))))
    (λ p. record {
      sig = p.0;
      code = p.1.0;
      table = p.1.1.0;
      item = p.1.1.1.0;
      to_come = p.1.1.1.1.0;
      failed = p.1.1.1.1.1;
    })
    (λ _. refl)
