-- Keys of symbols, by which different ones are mostly told apart at a glance.
use Rattle.std.specs.Prelude.{ℕ, ◌+◌, ◌*◌, ◌^◌, ◌%◌, List, [], ◌∷◌}
use Rattle.mp_pattern.specs.NetTokens.{NetToken, sym_token}
use Rattle.mp_walk.specs.Instrs.{Instr}
use Rattle.mp_walk.specs.declared.key.InstrKey.{InstrKey}

-- a key with the bytes of a list mixed in
abbrev pub key_from : ℕ → List ℕ → ℕ
key_from key [] = key
key_from key (b ∷ bs) = key_from (((key * 31) % 2 ^ 32 + b) % 2 ^ 32) bs

-- the key of a name: names of different keys are different
abbrev pub name_key : List ℕ → ℕ
name_key = key_from 0

-- the key of the symbol that a token reads, 0 where it reads none
abbrev pub token_key : NetToken → ℕ
token_key (sym_token n) = name_key n
token_key k = 0

-- what is seen of an instruction at a glance
abbrev pub instr_key : Instr → InstrKey
instr_key i = record { symbol = token_key i.token; over = i.over }
