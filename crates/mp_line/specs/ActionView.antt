-- What an action is read as.
use Rattle.std.specs.Prelude.{ℕ, List, Option}
use Rattle.mp_line.specs.declared.action.Action.{Action}

-- the instruction below, if there is one, and the rules that are accepted
abbrev pub action_view : Action → Option ℕ × List ℕ
action_view a = (a.down, a.accepts)
