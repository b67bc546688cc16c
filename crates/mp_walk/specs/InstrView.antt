-- The record that an instruction is read as.
use Rattle.mp_pattern.specs.NetTokenView.{net_token}
use Rattle.mp_walk.specs.Instrs as plain
use Rattle.mp_walk.specs.declared.instr.Instr.{Instr}

-- an instruction with its plain token
abbrev pub plain_instr : Instr → plain.Instr
plain_instr i = record { token = net_token i.token; down = i.down; over = i.over; accepts = i.accepts }
