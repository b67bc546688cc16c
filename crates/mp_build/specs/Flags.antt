-- The flags of an operation, as they are written.
use Rattle.std.specs.Prelude.{Bool, true, false, ◌||◌, List, [], ◌∷◌, length, Option, Some, None, nat_lt, count_by}
use Rattle.mp_term.specs.declared.limits.TheConstants.{MAX_SIGN_BYTES}
use Rattle.mp_build.specs.declared.flags.FlagSort.{FlagSort}
use Rattle.mp_build.specs.declared.flags.FlagSort.TheVariants as sorts
use Rattle.mp_parser.specs.Syntax.{Spot, Flag, Assoc, Comm, One, Infixed}

-- the flag is assoc
abbrev pub says_assoc : Flag → Bool
says_assoc Assoc = true
says_assoc _ = false

-- the flag is comm
abbrev pub says_comm : Flag → Bool
says_comm Comm = true
says_comm _ = false

-- the flag is one
abbrev pub says_one : Flag → Bool
says_one One = true
says_one _ = false

-- the flag is infix
abbrev pub says_infix : Flag → Bool
says_infix (Infixed sign) = true
says_infix _ = false

-- the flag is of the sort
abbrev pub says : FlagSort → Flag → Bool
says sorts.Assoc = says_assoc
says sorts.Comm = says_comm
says sorts.One = says_one
says sorts.Infix = says_infix

-- a flag of which the test holds is among the flags
abbrev pub is_said : (Flag → Bool) → List Flag → Bool
is_said says flags = nat_lt 0 (count_by says flags)

-- two flags of which the test holds are among the flags
abbrev pub is_said_twice : (Flag → Bool) → List Flag → Bool
is_said_twice says flags = nat_lt 1 (count_by says flags)

-- a flag stands twice, whatever its signs are
abbrev pub some_flag_twice : List Flag → Bool
some_flag_twice flags = is_said_twice says_assoc flags
    || (is_said_twice says_comm flags || (is_said_twice says_one flags || is_said_twice says_infix flags))

-- the first sign of the flags, with its place
abbrev pub sign_spot : List Flag → Option Spot
sign_spot [] = None
sign_spot (Assoc ∷ flags) = sign_spot flags
sign_spot (Comm ∷ flags) = sign_spot flags
sign_spot (One ∷ flags) = sign_spot flags
sign_spot (Infixed sign ∷ flags) = Some sign

-- the sign has more than MAX_SIGN_BYTES bytes
abbrev pub is_long_sign : Option Spot → Bool
is_long_sign None = false
is_long_sign (Some sign) = nat_lt MAX_SIGN_BYTES (length sign.text)
