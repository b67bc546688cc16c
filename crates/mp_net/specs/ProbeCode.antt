-- Probes as pairs that give them back.
use Rattle.std.specs.Prelude.{ℕ, refl}
use Rattle.std.specs.Coded.{Coded, code_by, coded×, coded_ℕ}
use Rattle.mp_table.specs.Table.{Table}
use Rattle.mp_table.specs.TableCode.{coded_table}
use Rattle.mp_net.specs.Probe.{Probe}

-- the code of probes
abbrev pub coded_probe : Coded Probe
coded_probe = code_by (Table × ℕ) (coded× coded_table coded_ℕ) (λ p. (p.table, p.reads))
    (λ p. record { table = p.0; reads = p.1 }) (λ _. refl)
