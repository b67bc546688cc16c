-- Listings as tuples that give them back: by this, a proof tells listings apart.
use Rattle.std.specs.Prelude.{List, Option, refl}
use Rattle.std.specs.Coded.{Coded, code_by, coded×, coded_list, coded_option}
use Rattle.mp_term.specs.Signature.{Sig}
use Rattle.mp_term.specs.SigCode.{coded_sig}
use Rattle.mp_pattern.specs.Admission.{Rule}
use Rattle.mp_pattern.specs.EntryCode.{coded_entry}
use Rattle.mp_pattern.specs.RuleCode.{coded_rule}
use Rattle.mp_subst.specs.Code.{coded_binding}
use Rattle.mp_table.specs.Table.{Table}
use Rattle.mp_table.specs.TableCode.{coded_table}
use Rattle.mp_theory.specs.OneList.{Item}
use Rattle.mp_cursor.specs.Listing.{Listing}

-- the code of items
abbrev pub coded_item : Coded Item
coded_item = coded× (coded_list coded_entry) (coded_list coded_binding)

-- the code of listings
abbrev pub coded_listing : Coded Listing
coded_listing = code_by (Sig × (Rule × (Table × (Option Item × List Item))))
    (coded× coded_sig (coded× coded_rule (coded× coded_table
    (coded× (coded_option coded_item) (coded_list coded_item)))))
    (λ l. (l.sig, (l.rule, (l.table, (l.item, l.to_come)))))
    (λ p. record { sig = p.0; rule = p.1.0; table = p.1.1.0; item = p.1.1.1.0; to_come = p.1.1.1.1 })
    (λ _. refl)
