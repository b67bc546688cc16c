-- Which bytes spell which token, and how far bytes are the beginning of a token.
use Rattle.std.specs.Prelude.{◌≡◌, ◌<◌, ◌≤◌, ℕ, true, ◌++◌, length, take, ⊤}
use Rattle.std.specs.List.{AllByRecursion}
use Rattle.mp_io.specs.Devices.{Text}
use Rattle.mp_term.specs.Names.{is_name}
use Rattle.mp_token.specs.Entry.{IsEntry}
use Rattle.mp_token.specs.TokenText.{token_text}
use Rattle.mp_token.specs.declared.token.Token.{Token}
use Rattle.mp_token.specs.declared.fault.TokenFault.{TokenFault}
use Rattle.mp_token.specs.declared.fault.TokenFault.TheVariants as fault

-- a token has two names, and an entry or more, whose ranks are numbers of 32 bits
pub record IsToken (t : Token) : Type 0 where
  pub subject : is_name t.subject ≡ true
  pub rule : is_name t.rule ≡ true
  pub some : 0 < length t.entries
  pub entries : AllByRecursion IsEntry t.entries

-- the bytes are the text of the token
pub record IsSpelling (bytes : Text) (t : Token) : Type 0 where
  pub token : IsToken t
  pub text : bytes ≡ token_text t

-- the bytes spell no token
abbrev pub IsUnspelt : Text → Type 0
IsUnspelt bytes = (t : Token) → IsSpelling bytes t → ⊥

-- the text of some token begins with the bytes
pub record Begins (bytes : Text) : Type 0 where
  pub token : Token
  pub rest : Text
  pub spelt : IsSpelling (bytes ++ rest) token

-- the first so many of the bytes are the longest prefix of them with which a token begins
pub record IsLongestBeginning (bytes : Text) (at : ℕ) : Type 0 where
  pub within : at ≤ length bytes
  pub begins : Begins (take at bytes)
  pub longest : (n : ℕ) → at < n → n ≤ length bytes → Begins (take n bytes) → ⊥

-- why bytes aren't read: they spell no token, and a token begins with so many of them, or memory ran out
abbrev pub IsFault : Text → TokenFault → Type 0
IsFault bytes (fault.Spelling at) = IsUnspelt bytes × IsLongestBeginning bytes at
IsFault bytes fault.Memory = ⊤
