-- The text of a token is passed, with a semicolon behind it as if another entry came.
use Rattle.std.proofs.Common.{◌≡◌, ℕ, ◌+◌, ◌-◌, ◌*◌, ◌/◌, ◌%◌, ◌^◌, ◌<◌, ◌≤◌, Bool, true, false, List, [], ◌∷◌, ◌++◌}
use Rattle.std.proofs.Common.{length, Some, None, refl, ap, sym, ◌∙◌, arith, append_assoc, append-nil}
use Rattle.std.specs.Prelude.{decimal, option_map, ◌&&◌, nat_lt, nat_le, if◌then◌else◌}
use Rattle.std.specs.List.{list_all, AllByRecursion}
use Rattle.std.specs.Char.{is_ascii_digit}
use Rattle.std.proofs.lemmas.Bool.{and_parts, and_from, lt-ltb, le-leb, leb-true, cond-true}
use Rattle.std.proofs.lemmas.Fmt.{decimal_by_steps}
use Rattle.std.proofs.lemmas.List.{length_push}
use Rattle.mp_io.specs.Devices.{Text}
use Rattle.mp_table.specs.declared.rank.Rank.{Rank}
use Rattle.mp_term.specs.Names.{is_name, is_name_byte}
use Rattle.mp_term.specs.declared.limits.TheConstants.{MAX_NAME_BYTES}
use Rattle.mp_token.specs.Entry.{Entry, IsEntry, IsRank}
use Rattle.mp_token.specs.TokenText.{ranks_text, mark_text, entry_text, entries_text, token_text}
use Rattle.mp_token.specs.Spelling.{IsToken, IsSpelling}
use Rattle.mp_token.specs.declared.reader.Spot.{Spot}
use Rattle.mp_token.specs.declared.reader.Spot.TheVariants.{InSubject, InRule, BeforeEntry, InNumber, AfterComma}
use Rattle.mp_token.specs.declared.token.Token.{Token}
use Rattle.mp_token.specs.Machine.{State, start, step, entry_step, run, name_step, digit_spot, longer_number}
use Rattle.mp_token.specs.Machine.{moved, with_entry}
use Rattle.mp_token.proofs.EndedTexts.{closed_text, before, closed_text-is}
use Rattle.mp_token.proofs.Runs.{run_on, run_next, run_push, run_before, name_step-letter, name_step-slash}

-- ---- names

-- the states of a place in which a name is read
module _ (place : Text → Spot → State) (spot next : Spot)
    (steps : (name : Text) (b : ℕ) → step (place name spot) b
    ≡ option_map (λ x. place x.0 x.1) (name_step name spot next b)) where
  -- the bytes of a name are passed
  name_run-letters : (k n : Text) → list_all is_name_byte n ≡ true → length k + length n ≤ MAX_NAME_BYTES
      → run (place k spot) n ≡ Some (place (k ++ n) spot)
  name_run-letters k [] letters room = ap (λ l. Some (place l spot)) (sym (append-nil k))
  name_run-letters k (b ∷ n) letters room =
      let both = and_parts (is_name_byte b) (list_all is_name_byte n) letters in
      run_next (place k spot) (place (k ++ b ∷ []) spot) b n
      (steps k b ∙ ap (option_map (λ x. place x.0 x.1)) (name_step-letter k spot next b both.0 (omega arith)))
      ∙ name_run-letters (k ++ b ∷ []) n both.1 (omega (arith, length_push k b))
      ∙ ap (λ l. Some (place l spot)) (append_assoc k (b ∷ []) n)

  -- a name and a slash are passed
  pub name_run : (n ys : Text) → is_name n ≡ true → run (place [] spot) (n ++ 47 ∷ ys) ≡ run (place n next) ys
  name_run n ys name =
      let parts = and_parts (nat_le 1 (length n) && nat_le (length n) MAX_NAME_BYTES) (list_all is_name_byte n) name in
      let lengths = and_parts (nat_le 1 (length n)) (nat_le (length n) MAX_NAME_BYTES) parts.0 in
      run_on (place [] spot) (place n spot) n (47 ∷ ys)
      (name_run-letters [] n parts.1 (omega (arith, leb-true (length n) MAX_NAME_BYTES lengths.1)))
      ∙ run_next (place n spot) (place n next) 47 ys
      (steps n 47 ∙ ap (option_map (λ x. place x.0 x.1))
      (name_step-slash n spot next (leb-true 1 (length n) lengths.0)))

-- ---- numbers

-- a digit is an ASCII digit
is_ascii_digit-digit : (d : ℕ) → d < 10 → is_ascii_digit (48 + d) ≡ true
is_ascii_digit-digit d small =
    and_from (nat_le 48 (48 + d)) (nat_le (48 + d) 57) (le-leb 48 (48 + d) (omega arith))
    (le-leb (48 + d) 57 (omega arith))

-- a step over a digit
entry_step-digit : (s : State) (d : ℕ) → d < 10
    → entry_step s (48 + d) ≡ option_map (λ spot. moved s s.ranks spot) (digit_spot s.spot d)
entry_step-digit s d small =
    cond-true (is_ascii_digit (48 + d)) (option_map (λ spot. moved s s.ranks spot) (digit_spot s.spot (48 + d - 48))) _
    (is_ascii_digit-digit d small)
    ∙ ap (λ n. option_map (λ spot. moved s s.ranks spot) (digit_spot s.spot n)) (omega arith)

-- a number behind another with a digit behind it
longer_number-step : (n : ℕ) → 10 ≤ n → n < 2 ^ 32 → longer_number (n / 10) (n % 10) ≡ Some n
longer_number-step n large small =
    let same : (n / 10) * 10 + n % 10 ≡ n = omega arith in
    ap (λ m. if nat_lt 0 (n / 10) && nat_lt m (2 ^ 32) then Some m else None) same
    ∙ ap (λ t. if t then Some n else None)
    (and_from (nat_lt 0 (n / 10)) (nat_lt n (2 ^ 32)) (lt-ltb 0 (n / 10) (omega arith)) (lt-ltb n (2 ^ 32) small))

module _ (s : State) (enters : (b : ℕ) → step s b ≡ entry_step s b)
    (opens : (d : ℕ) → digit_spot s.spot d ≡ Some (InNumber d)) where
  -- the digits of a number are passed
  pub number_run : (n : ℕ) → n < 2 ^ 32 → run s (decimal n) ≡ Some (moved s s.ranks (InNumber n))
  number_run n small = decimal_by_steps (λ n ds. n < 2 ^ 32 → run s ds ≡ Some (moved s s.ranks (InNumber n)))
      one more n (omega arith) small
    where
      one : (n : ℕ) → n < 10 → n < 2 ^ 32 → run s ((48 + n) ∷ []) ≡ Some (moved s s.ranks (InNumber n))
      one n digit small = run_push s s [] (48 + n) (Some (moved s s.ranks (InNumber n))) refl
          (enters (48 + n) ∙ entry_step-digit s n digit ∙ ap (option_map (λ spot. moved s s.ranks spot)) (opens n))

      more : (n : ℕ) (ds : Text) → 10 ≤ n
          → (n / 10 < 2 ^ 32 → run s ds ≡ Some (moved s s.ranks (InNumber (n / 10)))) → n < 2 ^ 32
          → run s (ds ++ (48 + n % 10) ∷ []) ≡ Some (moved s s.ranks (InNumber n))
      more n ds large front small =
          run_push s (moved s s.ranks (InNumber (n / 10))) ds (48 + n % 10) (Some (moved s s.ranks (InNumber n)))
          (front (omega arith))
          (entry_step-digit (moved s s.ranks (InNumber (n / 10))) (n % 10) (omega arith)
          ∙ ap (λ o. option_map (λ spot. moved s s.ranks spot) (option_map InNumber o))
          (longer_number-step n large small))

-- ---- entries

-- the ranks of an entry that has one, its mark and a semicolon are passed
ranks_run : (s : State) → ((b : ℕ) → step s b ≡ entry_step s b)
    → ((d : ℕ) → digit_spot s.spot d ≡ Some (InNumber d)) → (r : Rank) (rs : List Rank) (collapsed : Bool) (ys : Text)
    → AllByRecursion IsRank (r ∷ rs)
    → run s (ranks_text (r ∷ rs) ++ (mark_text collapsed ++ 59 ∷ ys))
    ≡ run (with_entry s (s.ranks ++ r ∷ rs) collapsed) ys
ranks_run s enters opens r [] collapsed ys fit =
    run_on s (moved s s.ranks (InNumber r.0)) (decimal r.0) (mark_text collapsed ++ 59 ∷ ys)
    (number_run s enters opens r.0 fit.0) ∙ go collapsed
  where
    go : (c : Bool) → run (moved s s.ranks (InNumber r.0)) (mark_text c ++ 59 ∷ ys)
        ≡ run (with_entry s (s.ranks ++ r ∷ []) c) ys
    go true = refl
    go false = refl
ranks_run s enters opens r (r' ∷ rs) collapsed ys fit =
    let behind = moved s (s.ranks ++ r ∷ []) AfterComma in
    ap (run s) (append_assoc (decimal r.0) (44 ∷ ranks_text (r' ∷ rs)) (mark_text collapsed ++ 59 ∷ ys))
    ∙ run_on s (moved s s.ranks (InNumber r.0)) (decimal r.0)
    (44 ∷ (ranks_text (r' ∷ rs) ++ (mark_text collapsed ++ 59 ∷ ys)))
    (number_run s enters opens r.0 fit.0)
    ∙ ranks_run behind (λ _. refl) (λ _. refl) r' rs collapsed ys fit.1
    ∙ ap (λ l. run (with_entry s l collapsed) ys) (append_assoc s.ranks (r ∷ []) (r' ∷ rs))

-- an entry and a semicolon are passed
entry_run : (subject rule : Text) (es : List Entry) (e : Entry) (ys : Text) → IsEntry e
    → run (before subject rule es) (entry_text e ++ 59 ∷ ys) ≡ run (before subject rule (es ++ e ∷ [])) ys
entry_run subject rule es e ys fit = go e.0 e.1 fit
  where
    go : (rs : List Rank) (c : Bool) → AllByRecursion IsRank rs
        → run (before subject rule es) (entry_text (rs, c) ++ 59 ∷ ys)
        ≡ run (before subject rule (es ++ (rs, c) ∷ [])) ys
    go [] true fit = refl
    go [] false fit = refl
    go (r ∷ rs) c fit =
        ap (run (before subject rule es)) (append_assoc (ranks_text (r ∷ rs)) (mark_text c) (59 ∷ ys))
        ∙ ranks_run (before subject rule es) (λ _. refl) (λ _. refl) r rs c ys fit

-- entries, each with a semicolon, are passed
entries_run : (subject rule : Text) (es fs : List Entry) → AllByRecursion IsEntry fs
    → run (before subject rule es) (closed_text fs) ≡ Some (before subject rule (es ++ fs))
entries_run subject rule es [] fit = ap (λ l. Some (before subject rule l)) (sym (append-nil es))
entries_run subject rule es (f ∷ fs) fit =
    entry_run subject rule es f (closed_text fs) fit.0 ∙ entries_run subject rule (es ++ f ∷ []) fs fit.1
    ∙ ap (λ l. Some (before subject rule l)) (append_assoc es (f ∷ []) fs)

-- ---- tokens

-- behind the text of a token a semicolon leads to the state in which just this token is read
pub token_run : (t : Token) → IsToken t
    → run start (token_text t ++ 59 ∷ []) ≡ Some (before t.subject t.rule t.entries)
token_run t is =
    ap (run start) (append_assoc t.subject (47 ∷ (t.rule ++ 47 ∷ entries_text t.entries)) (59 ∷ []))
    ∙ name_run (λ name spot. record { subject = name; rule = []; entries = []; ranks = []; spot = spot }) InSubject
    InRule (λ _ _. refl) t.subject ((t.rule ++ 47 ∷ entries_text t.entries) ++ 59 ∷ []) is.subject
    ∙ ap (run (record { subject = t.subject; rule = []; entries = []; ranks = []; spot = InRule }))
    (append_assoc t.rule (47 ∷ entries_text t.entries) (59 ∷ []))
    ∙ name_run (λ name spot. record { subject = t.subject; rule = name; entries = []; ranks = []; spot = spot }) InRule
    BeforeEntry (λ _ _. refl) t.rule (entries_text t.entries ++ 59 ∷ []) is.rule
    ∙ ap (run (before t.subject t.rule [])) (sym (closed_text-is t.entries is.some))
    ∙ entries_run t.subject t.rule [] t.entries is.entries

-- the bytes that spell a token are passed, and then a semicolon leads to the state in which just this token is read
pub spelling_run : (bytes : Text) (t : Token) → IsSpelling bytes t
    → (s : State) × (run start bytes ≡ Some s) × (step s 59 ≡ Some (before t.subject t.rule t.entries))
spelling_run bytes t is =
    run_before start (before t.subject t.rule t.entries) bytes 59
    (ap (λ l. run start (l ++ 59 ∷ [])) is.text ∙ token_run t is.token)
