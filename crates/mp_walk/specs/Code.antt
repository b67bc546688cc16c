-- What holds of a table of instructions that is ready to be walked.
use Rattle.std.specs.Prelude.{◌≡◌, ◌≤◌, ⊤, ℕ, zero, suc, List, length, map, Option, Some, None, slice_get}
use Rattle.std.specs.Prelude.{slice_index_or}
use Rattle.std.specs.List.{AllByRecursion}
use Rattle.mp_term.specs.Signature.{Sig}
use Rattle.mp_pattern.specs.NetTokens.{NetToken, comm_token}
use Rattle.mp_ac.specs.CommPlans.{ArePlans, IsPrepared}
use Rattle.mp_ac.specs.declared.comm_plans.CommPlans.{CommPlans}
use Rattle.mp_ac.specs.declared.comm_plans.Prepared.{Prepared}
use Rattle.mp_walk.specs.CodeForest.{code_forest}
use Rattle.mp_walk.specs.Instrs.{Instr, instr_at}
use Rattle.mp_walk.specs.Keys.{instr_key}
use Rattle.mp_walk.specs.Rooms.{forest_room}
use Rattle.mp_walk.specs.declared.code.Code.{Code}
use Rattle.mp_walk.specs.declared.code.Plans.{Plans}

-- the pattern of the token of a commutative application is prepared, and another token has none
abbrev pub IsPlanned : Sig → CommPlans → NetToken → Option Prepared → Type 0
IsPlanned sig x (comm_token p) (Some r) = IsPrepared sig x p r
IsPlanned sig x (comm_token p) None = ⊥
IsPlanned sig x k None = ⊤
IsPlanned sig x k (Some r) = ⊥

-- what is prepared of a number from 1, where 0 is the number of none
abbrev pub plan_of : List Prepared → ℕ → Option Prepared
plan_of rs zero = None
plan_of rs (suc n) = slice_get rs n

-- what is prepared for the instruction of a number from 1, where the number of the pattern of each is given
abbrev pub plan_at : List ℕ → List Prepared → ℕ → Option Prepared
plan_at ns rs zero = None
plan_at ns rs (suc n) = plan_of rs (slice_index_or ns n 0)

-- each instruction has the number of its pattern
pub record ArePlanned (sig : Sig) (is : List Instr) (x : Plans) : Type 0 where
  pub each : length x.numbers.items ≡ length is
  pub within : AllByRecursion (λ n. n ≤ length x.plans.list.items) x.numbers.items
  pub planned : (n : ℕ) (i : Instr) → instr_at is n ≡ Some i
      → IsPlanned sig x.plans i.token (plan_at x.numbers.items x.plans.list.items n)
  pub plans : ArePlans sig x.plans

-- the patterns of the instructions are prepared, their keys are at hand, and it is known how much of a trail's room
-- they take
pub record IsCode (sig : Sig) (c : Code) : Type 0 where
  pub planned : ArePlanned sig c.instrs c.plans
  pub keys : c.keys.items ≡ map instr_key c.instrs
  pub room : c.room ≡ forest_room (code_forest c.instrs)
