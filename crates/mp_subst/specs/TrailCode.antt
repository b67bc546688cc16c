-- A trail as pairs of numbers and lists that give it back.
use Rattle.std.specs.Prelude.{ℕ, List, Option, refl}
use Rattle.std.specs.Coded.{Coded, code_by, coded×, coded_ℕ, coded_list, coded_option}
use Rattle.mp_pattern.specs.Value.{Form}
use Rattle.mp_pattern.specs.PlanCode.{coded_form}
use Rattle.mp_table.specs.declared.rank.Rank.{Rank}
use Rattle.mp_table.specs.TableCode.{coded_rank}
use Rattle.mp_subst.specs.Bound.{Bound}
use Rattle.mp_subst.specs.Trail.{TrailEntry, Trail}

abbrev pub coded_bound : Coded Bound
coded_bound = code_by (Form × (Option ℕ × List Rank))
    (coded× coded_form (coded× (coded_option coded_ℕ) (coded_list coded_rank))) (λ b. (b.form, (b.wrap, b.ranks)))
    (λ p. record { form = p.0; wrap = p.1.0; ranks = p.1.1 }) (λ _. refl)

abbrev pub coded_trail_entry : Coded TrailEntry
coded_trail_entry = code_by (ℕ × (Bound × ℕ)) (coded× coded_ℕ (coded× coded_bound coded_ℕ))
    (λ e. (e.var, (e.value, e.spare))) (λ p. record { var = p.0; value = p.1.0; spare = p.1.1 }) (λ _. refl)

-- the code of trails
abbrev pub coded_trail : Coded Trail
coded_trail = code_by (ℕ × (ℕ × (ℕ × List TrailEntry)))
    (coded× coded_ℕ (coded× coded_ℕ (coded× coded_ℕ (coded_list coded_trail_entry))))
    (λ t. (t.vars, (t.room, (t.spare, t.stack))))
    (λ p. record { vars = p.0; room = p.1.0; spare = p.1.1.0; stack = p.1.1.1 })
    (λ _. refl)
