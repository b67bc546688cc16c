-- With how many of its bytes a token begins, where they don't spell one, as it is computed.
use Rattle.std.proofs.Common.{◌≡◌, ℕ, suc, ◌<◌, [], ◌∷◌, length, take, get_or, Option, Some, None, refl, ap, ◌∙◌}
use Rattle.std.proofs.Common.{arith, inl, inr}
use Rattle.std.specs.Prelude.{◌⊎◌, Err, nat_lt, true, false, Bool}
use Rattle.std.proofs.lemmas.Bool.Decides.{nat_tests}
use Rattle.mp_io.specs.Devices.{Text}
use Rattle.mp_token.specs.Spelling.{IsLongestBeginning, IsSpelling, IsUnspelt}
use Rattle.mp_token.specs.declared.fault.TokenFault.TheVariants as fault
use Rattle.mp_token.specs.declared.token.Token.{Token}
use Rattle.mp_token.specs.Machine.{State, end_step, one_more, run, spelling_fault, start, step, stopped_at, token_of}
use Rattle.mp_token.proofs.Runs.{run_next}
use Rattle.mp_token.proofs.SpellingLaws.{answer_faults, refused_fault, run_spells}

-- the bytes end where a token may end
abbrev IsEnded : State → Text → Type 0
IsEnded s bytes = (t : State) × (end : State) × (run s bytes ≡ Some t) × (end_step t t.spot ≡ Some end)

-- they end where none may end
abbrev IsUnended : State → Text → ℕ → Type 0
IsUnended s bytes at = (t : State) × (run s bytes ≡ Some t) × (end_step t t.spot ≡ None) × (at ≡ length bytes)

-- the byte at the index leads nowhere
abbrev IsRefusedAt : State → Text → ℕ → Type 0
IsRefusedAt s bytes at = (t : State) × (at < length bytes) × (run s (take at bytes) ≡ Some t)
    × ((d : ℕ) → step t (get_or bytes at d) ≡ None)

-- what is found of the bytes behind a state
abbrev IsStopped : State → Text → Option ℕ → Type 0
IsStopped s bytes None = IsEnded s bytes
IsStopped s bytes (Some at) = IsRefusedAt s bytes at ⊎ IsUnended s bytes at

-- a byte before others that are found to be so
stopped_at-more : (s next : State) (b : ℕ) (bs : Text) → step s b ≡ Some next → (o : Option ℕ) → IsStopped next bs o
    → IsStopped s (b ∷ bs) (one_more o)
stopped_at-more s next b bs e None h = (h.0, h.1, run_next s next b bs e ∙ h.2, h.3)
stopped_at-more s next b bs e (Some at) (inl h) =
    inl (h.0, omega (arith, h.1), run_next s next b (take at bs) e ∙ h.2, h.3)
stopped_at-more s next b bs e (Some at) (inr h) = inr (h.0, run_next s next b bs e ∙ h.1, h.2, ap suc h.3)

stopped_at-is : (s : State) (bytes : Text) → IsStopped s bytes (stopped_at s bytes)
stopped_at-is s [] = go (end_step s s.spot) refl
  where
    go : (o : Option State) → end_step s s.spot ≡ o → IsStopped s [] (elim o [ None ↦ Some 0 | Some t ↦ None ])
    go None e = inr (s, refl, e, refl)
    go (Some end) e = (s, end, refl, e)
stopped_at-is s (b ∷ bs) = go (λ next. stopped_at-is next bs) (step s b) refl
  where
    go : ((next : State) → IsStopped next bs (stopped_at next bs)) → (o : Option State) → step s b ≡ o
        → IsStopped s (b ∷ bs) (elim o [ None ↦ Some 0 | Some next ↦ one_more (stopped_at next bs) ])
    go rest None e = inl (s, omega arith, refl, λ d. e)
    go rest (Some next) e = stopped_at-more s next b bs e (stopped_at next bs) (rest next)

-- ---- the bytes of a token

module _ (bytes : Text) where
  -- where nothing is found the bytes spell a token
  pub spelling_fault-None : spelling_fault bytes ≡ None → (t : Token) × IsSpelling bytes t
  spelling_fault-None e = go (spelling_fault bytes) e (stopped_at-is start bytes)
    where
      go : (o : Option ℕ) → o ≡ None → IsStopped start bytes o → (t : Token) × IsSpelling bytes t
      go None e h = (token_of h.1, run_spells bytes h.0 h.1 h.2 h.3)
      go (Some at) e h = cc

  -- where a number is found they spell none, and a token begins with so many of them
  pub spelling_fault-Some : (at : ℕ) → spelling_fault bytes ≡ Some at → IsUnspelt bytes × IsLongestBeginning bytes at
  spelling_fault-Some at e = go (spelling_fault bytes) e (stopped_at-is start bytes)
    where
      go : (o : Option ℕ) → o ≡ Some at → IsStopped start bytes o → IsUnspelt bytes × IsLongestBeginning bytes at
      go None e h = cc
      go (Some n) e (inl h) =
          let same : n ≡ at = cc in
          rw (← same) (refused_fault bytes n 0 h.0 h.1 h.2 (h.3 0))
      go (Some n) e (inr h) =
          let same : n ≡ at = cc in
          rw (← same) (answer_faults bytes h.0 (Err (fault.Spelling n)) h.1 (h.2, h.3))

  -- there is one longest beginning
  pub IsLongestBeginning-unique : (m n : ℕ) → IsLongestBeginning bytes m → IsLongestBeginning bytes n → m ≡ n
  IsLongestBeginning-unique m n h k = go (nat_lt m n) (nat_lt n m) refl refl
    where
      go : (b c : Bool) → nat_lt m n ≡ b → nat_lt n m ≡ c → m ≡ n
      go true c p q = absurd (h.longest n (grind (arith, nat_tests)) k.within k.begins)
      go false true p q = absurd (k.longest m (grind (arith, nat_tests)) h.within h.begins)
      go false false p q = grind (arith, nat_tests)

  -- nothing is found exactly where the bytes spell a token
  pub spelling_fault-spelt : (t : Token) → IsSpelling bytes t → spelling_fault bytes ≡ None
  spelling_fault-spelt t is = go (spelling_fault bytes) refl
    where
      go : (o : Option ℕ) → spelling_fault bytes ≡ o → o ≡ None
      go None e = refl
      go (Some at) e = absurd ((spelling_fault-Some at e).0 t is)

  -- a number is found exactly where they spell none, and a token begins with so many of them
  pub spelling_fault-unspelt : (at : ℕ) → IsUnspelt bytes → IsLongestBeginning bytes at
      → spelling_fault bytes ≡ Some at
  spelling_fault-unspelt at unspelt h = go (spelling_fault bytes) refl
    where
      go : (o : Option ℕ) → spelling_fault bytes ≡ o → o ≡ Some at
      go None e = let r = spelling_fault-None e in absurd (unspelt r.0 r.1)
      go (Some n) e = ap Some (IsLongestBeginning-unique n at (spelling_fault-Some n e).1 h)
