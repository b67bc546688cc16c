-- Reading a token byte by byte: each byte leads from a state to the next, or is refused.
use Rattle.std.specs.Prelude.{ℕ, suc, ◌+◌, ◌-◌, ◌*◌, ◌^◌, ◌==◌, Bool, true, false, ◌&&◌, List, [], ◌∷◌, ◌++◌, length}
use Rattle.std.specs.Prelude.{nat_lt, Option, Some, None, option_map, if◌then◌else◌, ◌≡◌, MatchOption, ⊤}
use Rattle.std.specs.Char.{is_ascii_digit}
use Rattle.mp_io.specs.Devices.{Text}
use Rattle.mp_table.specs.declared.rank.Rank.{Rank}
use Rattle.mp_term.specs.Names.{is_name, is_name_byte}
use Rattle.mp_term.specs.declared.limits.TheConstants.{MAX_NAME_BYTES}
use Rattle.mp_token.specs.Entry.{Entry}
use Rattle.mp_token.specs.declared.fault.TokenFault.{TokenFault}
use Rattle.mp_token.specs.declared.fault.TokenFault.TheVariants as fault
use Rattle.mp_token.specs.declared.reader.Reader.{Reader}
use Rattle.mp_token.specs.declared.reader.Spot.{Spot}
use Rattle.mp_token.specs.declared.reader.Spot.TheVariants.{InSubject, InRule, BeforeEntry, InNumber, AfterComma}
use Rattle.mp_token.specs.declared.reader.Spot.TheVariants.{AfterMark}
use Rattle.mp_token.specs.declared.token.Token.{Token}

-- what is read of a token: of its names, its entries before the one in which the reading stands, and the ranks of this
-- one before the number in which it stands
pub record State : Type 0 where
  pub subject : Text
  pub rule : Text
  pub entries : List Entry
  pub ranks : List Rank
  pub spot : Spot

-- nothing is read
abbrev pub start : State
start = record { subject = []; rule = []; entries = []; ranks = []; spot = InSubject }

-- the state of a reader
abbrev pub state_of : Reader → State
state_of r = record {
  subject = r.subject.items;
  rule = r.rule.items;
  entries = r.entries;
  ranks = r.ranks.items;
  spot = r.spot;
}

-- the rank of a number
abbrev pub rank : ℕ → Rank
rank n = record { 0 = n }

-- the name with a byte behind it, where it is a name then
abbrev pub longer_name : Text → ℕ → Option Text
longer_name name b = if is_name_byte b && nat_lt (length name) MAX_NAME_BYTES then Some (name ++ b ∷ []) else None

-- a name and the spot behind a byte: a slash ends the name
abbrev pub name_step : Text → Spot → Spot → ℕ → Option (Text × Spot)
name_step name spot next b =
    if (b == 47) && nat_lt 0 (length name) then Some (name, next)
    else option_map (λ longer. (longer, spot)) (longer_name name b)

-- the number with a digit behind it: none where that is no decimal number of 32 bits
abbrev pub longer_number : ℕ → ℕ → Option ℕ
longer_number n d = if nat_lt 0 n && nat_lt (n * 10 + d) (2 ^ 32) then Some (n * 10 + d) else None

-- the spot behind a digit
abbrev pub digit_spot : Spot → ℕ → Option Spot
digit_spot BeforeEntry d = Some (InNumber d)
digit_spot AfterComma d = Some (InNumber d)
digit_spot (InNumber n) d = option_map InNumber (longer_number n d)
digit_spot _ d = None

-- the state with other ranks at another spot
abbrev pub moved : State → List Rank → Spot → State
moved s ranks spot = record s { ranks = ranks; spot = spot }

-- the state behind a comma
abbrev pub comma_step : State → Spot → Option State
comma_step s (InNumber n) = Some (moved s (s.ranks ++ rank n ∷ []) AfterComma)
comma_step s _ = None

-- the state behind a mark
abbrev pub mark_step : State → Spot → Option State
mark_step s BeforeEntry = Some (moved s s.ranks AfterMark)
mark_step s (InNumber n) = Some (moved s (s.ranks ++ rank n ∷ []) AfterMark)
mark_step s _ = None

-- the state behind an entry
abbrev pub with_entry : State → List Rank → Bool → State
with_entry s ranks collapsed =
    record s { entries = s.entries ++ (ranks, collapsed) ∷ []; ranks = []; spot = BeforeEntry }

-- the state behind the semicolon that ends the entry
abbrev pub end_step : State → Spot → Option State
end_step s BeforeEntry = Some (with_entry s s.ranks false)
end_step s (InNumber n) = Some (with_entry s (s.ranks ++ rank n ∷ []) false)
end_step s AfterMark = Some (with_entry s s.ranks true)
end_step s _ = None

-- the state behind a byte of the entries
abbrev pub entry_step : State → ℕ → Option State
entry_step s b =
    if is_ascii_digit b then option_map (λ spot. moved s s.ranks spot) (digit_spot s.spot (b - 48))
    else (if b == 44 then comma_step s s.spot
    else (if b == 33 then mark_step s s.spot
    else (if b == 59 then end_step s s.spot
    else None)))

-- the state behind a byte, at a spot
abbrev pub step_at : Spot → State → ℕ → Option State
step_at InSubject s b =
    option_map (λ x. record s { subject = x.0; spot = x.1 }) (name_step s.subject InSubject InRule b)
step_at InRule s b = option_map (λ x. record s { rule = x.0; spot = x.1 }) (name_step s.rule InRule BeforeEntry b)
step_at _ s b = entry_step s b

-- the state behind a byte
abbrev pub step : State → ℕ → Option State
step s b = step_at s.spot s b

-- the state behind bytes
abbrev pub run : State → Text → Option State
run s [] = Some s
run s (b ∷ bs) = elim (step s b) [ None ↦ None | Some next ↦ run next bs ]

-- where the bytes may end in this state, the names are names
abbrev pub HasNames : State → Type 0
HasNames s = MatchOption (end_step s s.spot) ⊤ (λ t. (is_name t.subject ≡ true) × (is_name t.rule ≡ true))

-- why no token is read at the end of so many bytes: they don't end behind an entry, or memory ran out
abbrev pub IsEndFault : Option State → ℕ → TokenFault → Type 0
IsEndFault ended count (fault.Spelling at) = (ended ≡ None) × (at ≡ count)
IsEndFault ended count fault.Memory = ⊤

-- the token that is read, where the bytes end behind an entry
abbrev pub token_of : State → Token
token_of s = record { subject = s.subject; rule = s.rule; entries = s.entries }

-- a number more
abbrev pub one_more : Option ℕ → Option ℕ
one_more None = None
one_more (Some n) = Some (suc n)

-- With how many of the bytes a token begins that goes on so behind the state, where they don't spell one: no byte may
-- come that leads nowhere, and none may be missing.
abbrev pub stopped_at : State → Text → Option ℕ
stopped_at s [] = elim (end_step s s.spot) [ None ↦ Some 0 | Some t ↦ None ]
stopped_at s (b ∷ bs) = elim (step s b) [ None ↦ Some 0 | Some next ↦ one_more (stopped_at next bs) ]

-- the same of the bytes of a whole token
abbrev pub spelling_fault : Text → Option ℕ
spelling_fault token = stopped_at start token
