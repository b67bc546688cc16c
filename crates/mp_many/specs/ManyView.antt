-- What many rules and the states of their tree are read as, and what holds of all that are built.
use Rattle.std.specs.Prelude.{◌≡◌, ◌<◌, ◌^◌, length, map}
use Rattle.mp_pattern.specs.NetTokenView.{net_token}
use Rattle.mp_pattern.specs.SoundRule.{AreSoundRules}
use Rattle.mp_pattern.specs.Variables.{variables}
use Rattle.mp_walk.specs.Code.{IsCode}
use Rattle.mp_walk.specs.Instrs.{Instr}
use Rattle.mp_many.specs.Laid.{tree_of}
use Rattle.mp_many.specs.Many as plain
use Rattle.mp_many.specs.declared.many.Many.TheInside.{Inside}
use Rattle.mp_many.specs.declared.many.State.{State}

-- many rules with their signature
abbrev pub many_view : Inside → plain.Many
many_view m = record { sig = m.sig.now; rules = m.rules.now }

-- the rules are sound, the table is their tree and ready to be walked, its numbers can be held, and the names are the
-- variables of the rules
pub record IsMany (m : Inside) : Type 0 where
  pub sound : AreSoundRules m.sig.now m.rules.now
  pub tree : m.code.instrs ≡ tree_of m.sig.now m.rules.now
  pub ready : IsCode m.sig.now m.code
  pub few : length m.code.instrs < 2 ^ 32
  pub names : m.names ≡ map (λ r. variables r.pattern) m.rules.now

-- a state as the instruction that it is
abbrev pub state_view : State → Instr
state_view s = record { token = net_token s.token.now; down = s.down; over = s.over; accepts = s.accepts.now }
