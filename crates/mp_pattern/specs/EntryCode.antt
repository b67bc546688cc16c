-- An entry of a take table as a pair that gives it back.
use Rattle.std.specs.Prelude.{Bool, List, refl}
use Rattle.std.specs.Coded.{Coded, code_by, coded×, coded_bool, coded_list}
use Rattle.mp_term.specs.Tree.{Tree}
use Rattle.mp_term.specs.Code.{coded_tree}
use Rattle.mp_pattern.specs.Fits.{Entry}

-- the code of entries
abbrev pub coded_entry : Coded Entry
coded_entry = code_by (List Tree × Bool) (coded× (coded_list coded_tree) coded_bool) (λ e. (e.terms, e.collapsed))
    (λ p. record { terms = p.0; collapsed = p.1 }) (λ _. refl)
