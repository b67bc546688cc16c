-- What was read up to a state, and what a step adds to it.
use Rattle.std.proofs.Common.{◌≡◌, ℕ, ◌+◌, ◌-◌, ◌*◌, ◌/◌, ◌%◌, ◌^◌, ◌<◌, ◌≤◌, Bool, true, false, List, [], ◌∷◌, ◌++◌}
use Rattle.std.proofs.Common.{length, Option, Some, None, refl, ap, sym, ◌∙◌, subst, arith, append_assoc, append-nil}
use Rattle.std.specs.Prelude.{IfSome, decimal, ◌&&◌, nat_lt, nat_le, ◌==◌}
use Rattle.std.specs.List.{list_all, AllByRecursion}
use Rattle.std.specs.Char.{is_ascii_digit}
use Rattle.std.proofs.lemmas.Bool.{and_parts, and_from, leb-true, le-leb, ltb-true, eqb-true, cond_both}
use Rattle.std.proofs.lemmas.Fmt.{decimal_digit, decimal_step}
use Rattle.std.proofs.lemmas.List.{length_push}
use Rattle.mp_io.specs.Devices.{Text}
use Rattle.mp_table.specs.declared.rank.Rank.{Rank}
use Rattle.mp_term.specs.Names.{is_name, is_name_byte}
use Rattle.mp_term.specs.declared.limits.TheConstants.{MAX_NAME_BYTES}
use Rattle.mp_token.specs.Entry.{Entry, IsEntry, IsRank}
use Rattle.mp_token.specs.TokenText.{ranks_text, entry_text}
use Rattle.mp_token.specs.Spelling.{IsSpelling}
use Rattle.mp_token.specs.declared.reader.Spot.{Spot}
use Rattle.mp_token.specs.declared.reader.Spot.TheVariants.{InSubject, InRule, BeforeEntry, InNumber, AfterComma}
use Rattle.mp_token.specs.declared.reader.Spot.TheVariants.{AfterMark}
use Rattle.mp_token.specs.Machine.{State, start, step, run, entry_step, rank, name_step, digit_spot, longer_number}
use Rattle.mp_token.specs.Machine.{moved, comma_step, mark_step, end_step, with_entry, token_of}
use Rattle.mp_token.proofs.EndedTexts.{closed_text, listed_text, listed_text-push, ranks_text-last, entries_text-last}
use Rattle.mp_token.proofs.EndedTexts.{closed_text-push}
use Rattle.mp_token.proofs.JoinedTexts.{AllByRecursion-push}
use Rattle.mp_token.proofs.Runs.{name_step-cases, IfSome-map, from_Some, run_first}

-- ---- what is read

-- what is read of an entry
abbrev pub part_text : Spot → List Rank → Text
part_text InSubject rs = []
part_text InRule rs = []
part_text BeforeEntry rs = []
part_text (InNumber n) rs = listed_text rs ++ decimal n
part_text AfterComma rs = listed_text rs
part_text AfterMark rs = ranks_text rs ++ 33 ∷ []

-- two names, a slash behind each, and a text
abbrev pub behind_names : Text → Text → Text → Text
behind_names subject rule text = subject ++ (47 ∷ (rule ++ (47 ∷ text)))

-- what is read
abbrev pub text_at : Spot → State → Text
text_at InSubject s = s.subject
text_at InRule s = s.subject ++ 47 ∷ s.rule
text_at p s = behind_names s.subject s.rule (closed_text s.entries ++ part_text p s.ranks)

-- the bytes are a name as far as they go
abbrev pub IsPart : Text → Type 0
IsPart name = (list_all is_name_byte name ≡ true) × (length name ≤ MAX_NAME_BYTES)

-- the names are names
abbrev pub AreNames : State → Type 0
AreNames s = (is_name s.subject ≡ true) × (is_name s.rule ≡ true)

-- no rank is read
abbrev pub HasNoRanks : State → Type 0
HasNoRanks s = s.ranks ≡ []

-- names, entries and ranks are so, and those to come aren't there
abbrev pub IsAt : Spot → State → Type 0
IsAt InSubject s = IsPart s.subject × (s.rule ≡ []) × (s.entries ≡ []) × HasNoRanks s
IsAt InRule s = (is_name s.subject ≡ true) × IsPart s.rule × (s.entries ≡ []) × HasNoRanks s
IsAt BeforeEntry s = AreNames s × AllByRecursion IsEntry s.entries × HasNoRanks s
IsAt (InNumber n) s = AreNames s × AllByRecursion IsEntry s.entries × AllByRecursion IsRank s.ranks × (n < 2 ^ 32)
IsAt AfterComma s = AreNames s × AllByRecursion IsEntry s.entries × AllByRecursion IsRank s.ranks
IsAt AfterMark s = AreNames s × AllByRecursion IsEntry s.entries × AllByRecursion IsRank s.ranks

-- the bytes are what is read up to the state
pub record Reads (bytes : Text) (s : State) : Type 0 where
  pub text : bytes ≡ text_at s.spot s
  pub at : IsAt s.spot s

-- bytes that end behind an entry spell the token that is read, and a semicolon may follow
pub record Ends (bytes : Text) (t : State) : Type 0 where
  pub spelling : IsSpelling bytes (token_of t)
  pub reads : Reads (bytes ++ 59 ∷ []) t

-- ---- names

-- the bytes of a name with one more
list_all-push : (p : ℕ → Bool) (xs : Text) (x : ℕ) → list_all p xs ≡ true → p x ≡ true
    → list_all p (xs ++ x ∷ []) ≡ true
list_all-push p [] x all one = and_from (p x) true one refl
list_all-push p (y ∷ ys) x all one =
    let both = and_parts (p y) (list_all p ys) all in
    and_from (p y) (list_all p (ys ++ x ∷ [])) both.0 (list_all-push p ys x both.1 one)

-- a part of a name with one more byte
IsPart-push : (name : Text) (b : ℕ) → IsPart name → is_name_byte b ≡ true → length name < MAX_NAME_BYTES
    → IsPart (name ++ b ∷ [])
IsPart-push name b part letter room =
    (list_all-push is_name_byte name b part.0 letter, omega (arith, length_push name b))

-- a part of a name that has a byte is a name
pub is_name-part : (name : Text) → IsPart name → 0 < length name → is_name name ≡ true
is_name-part name part some =
    and_from (nat_le 1 (length name) && nat_le (length name) MAX_NAME_BYTES) (list_all is_name_byte name)
    (and_from (nat_le 1 (length name)) (nat_le (length name) MAX_NAME_BYTES) (le-leb 1 (length name) some)
    (le-leb (length name) MAX_NAME_BYTES part.1)) part.0

-- ---- texts behind the names

-- a byte behind what stands behind the names
behind_names-push : (subject rule bytes text more : Text) (b : ℕ) → bytes ≡ behind_names subject rule text
    → more ≡ text ++ b ∷ [] → bytes ++ b ∷ [] ≡ behind_names subject rule more
behind_names-push subject rule bytes text more b is next =
    ap (λ l. l ++ b ∷ []) is ∙ append_assoc subject (47 ∷ (rule ++ 47 ∷ text)) (b ∷ [])
    ∙ ap (λ l. subject ++ 47 ∷ l) (append_assoc rule (47 ∷ text) (b ∷ []))
    ∙ ap (behind_names subject rule) (sym next)

module _ (bytes subject rule : Text) (es : List Entry) (rs : List Rank) where
  -- the state at a spot
  abbrev here : Spot → State
  here spot = record { subject = subject; rule = rule; entries = es; ranks = rs; spot = spot }

  -- one entry more
  ended : (spot : Spot) (text : Text) (ranks : List Rank) (collapsed : Bool)
      → bytes ≡ behind_names subject rule (closed_text es ++ text) → text ≡ entry_text (ranks, collapsed)
      → AreNames (here spot) → AllByRecursion IsEntry es → AllByRecursion IsRank ranks
      → Ends bytes (with_entry (here spot) ranks collapsed)
  ended spot text ranks collapsed is part names entries fit =
      let all = AllByRecursion-push IsEntry es (ranks, collapsed) entries fit in
      record {
        spelling = record {
          token = record {
            subject = names.0;
            rule = names.1;
            some = omega (arith, length_push es (ranks, collapsed));
            entries = all;
          };
          text = is ∙ ap (λ l. behind_names subject rule (closed_text es ++ l)) part
              ∙ ap (behind_names subject rule) (sym (entries_text-last es (ranks, collapsed)));
        };
        reads = record {
          text = behind_names-push subject rule bytes (closed_text es ++ text)
              (closed_text (es ++ (ranks, collapsed) ∷ []) ++ []) 59 is
              (append-nil (closed_text (es ++ (ranks, collapsed) ∷ [])) ∙ closed_text-push es (ranks, collapsed)
              ∙ ap (λ l. (closed_text es ++ l) ++ 59 ∷ []) (sym part));
          at = (names, all, refl);
        };
      }

  -- where the entry may end the token may end
  end_sound : (spot : Spot) → Reads bytes (here spot) → IfSome (end_step (here spot) spot) (Ends bytes)
  end_sound InSubject reads = tt
  end_sound InRule reads = tt
  end_sound BeforeEntry reads =
      ended BeforeEntry [] rs false reads.text (rw reads.at.2 refl) reads.at.0 reads.at.1 (rw reads.at.2 tt)
  end_sound (InNumber n) reads =
      ended (InNumber n) (listed_text rs ++ decimal n) (rs ++ rank n ∷ []) false reads.text
      (sym (ranks_text-last rs (rank n)) ∙ sym (append-nil (ranks_text (rs ++ rank n ∷ [])))) reads.at.0 reads.at.1
      (AllByRecursion-push IsRank rs (rank n) reads.at.2 reads.at.3)
  end_sound AfterComma reads = tt
  end_sound AfterMark reads =
      ended AfterMark (ranks_text rs ++ 33 ∷ []) rs true reads.text refl reads.at.0 reads.at.1 reads.at.2

  -- a byte more of an entry
  part_read : (b : ℕ) (text more : Text) → bytes ≡ behind_names subject rule (closed_text es ++ text)
      → more ≡ text ++ b ∷ [] → bytes ++ b ∷ [] ≡ behind_names subject rule (closed_text es ++ more)
  part_read b text more is next =
      behind_names-push subject rule bytes (closed_text es ++ text) (closed_text es ++ more) b is
      (ap (λ l. closed_text es ++ l) next ∙ sym (append_assoc (closed_text es) text (b ∷ [])))

  -- a comma
  comma_sound : (spot : Spot) → Reads bytes (here spot)
      → IfSome (comma_step (here spot) spot) (Reads (bytes ++ 44 ∷ []))
  comma_sound (InNumber n) reads = record {
    text = part_read 44 (listed_text rs ++ decimal n) (listed_text (rs ++ rank n ∷ [])) reads.text
        (listed_text-push rs (rank n));
    at = (reads.at.0, reads.at.1, AllByRecursion-push IsRank rs (rank n) reads.at.2 reads.at.3);
  }
  comma_sound InSubject reads = tt
  comma_sound InRule reads = tt
  comma_sound BeforeEntry reads = tt
  comma_sound AfterComma reads = tt
  comma_sound AfterMark reads = tt

  -- a mark
  mark_sound : (spot : Spot) → Reads bytes (here spot)
      → IfSome (mark_step (here spot) spot) (Reads (bytes ++ 33 ∷ []))
  mark_sound BeforeEntry reads = record {
    text = part_read 33 [] (ranks_text rs ++ 33 ∷ []) reads.text (rw reads.at.2 refl);
    at = (reads.at.0, reads.at.1, rw reads.at.2 tt);
  }
  mark_sound (InNumber n) reads = record {
    text = part_read 33 (listed_text rs ++ decimal n) (ranks_text (rs ++ rank n ∷ []) ++ 33 ∷ []) reads.text
        (ap (λ l. l ++ 33 ∷ []) (ranks_text-last rs (rank n)));
    at = (reads.at.0, reads.at.1, AllByRecursion-push IsRank rs (rank n) reads.at.2 reads.at.3);
  }
  mark_sound InSubject reads = tt
  mark_sound InRule reads = tt
  mark_sound AfterComma reads = tt
  mark_sound AfterMark reads = tt

  -- a first digit
  first_digit : (b : ℕ) → 48 ≤ b → b ≤ 57 → decimal (b - 48) ≡ b ∷ []
  first_digit b low high =
      let same : 48 + (b - 48) ≡ b = omega arith in
      decimal_digit (b - 48) (omega arith) ∙ ap (λ n. n ∷ []) same

  -- a further digit
  further_digit : (n b : ℕ) → 48 ≤ b → b ≤ 57 → 0 < n → n * 10 + (b - 48) < 2 ^ 32
      → decimal (n * 10 + (b - 48)) ≡ decimal n ++ b ∷ []
  further_digit n b low high some fit =
      let m = n * 10 + (b - 48) in
      let quotient : m / 10 ≡ n = omega arith in
      let digit : 48 + m % 10 ≡ b = omega arith in
      decimal_step m (omega arith) (omega arith) ∙ ap (λ k. decimal k ++ (48 + m % 10) ∷ []) quotient
      ∙ ap (λ k. decimal n ++ k ∷ []) digit

  -- a digit
  digit_sound : (spot : Spot) (b : ℕ) → 48 ≤ b → b ≤ 57 → Reads bytes (here spot)
      → IfSome (digit_spot spot (b - 48)) (λ p. Reads (bytes ++ b ∷ []) (moved (here spot) rs p))
  digit_sound BeforeEntry b low high reads = record {
    text = part_read b [] (listed_text rs ++ decimal (b - 48)) reads.text
        (rw reads.at.2 (first_digit b low high));
    at = (reads.at.0, reads.at.1, rw reads.at.2 tt, omega arith);
  }
  digit_sound AfterComma b low high reads = record {
    text = part_read b (listed_text rs) (listed_text rs ++ decimal (b - 48)) reads.text
        (ap (λ l. listed_text rs ++ l) (first_digit b low high));
    at = (reads.at.0, reads.at.1, reads.at.2, omega arith);
  }
  digit_sound (InNumber n) b low high reads =
      IfSome-map InNumber (λ p. Reads (bytes ++ b ∷ []) (moved (here (InNumber n)) rs p)) (longer_number n (b - 48))
      (cond_both (nat_lt 0 n && nat_lt (n * 10 + (b - 48)) (2 ^ 32)) _ _
      (λ o. IfSome o (λ m. Reads (bytes ++ b ∷ []) (moved (here (InNumber n)) rs (InNumber m))))
      (λ h.
      let both = and_parts (nat_lt 0 n) (nat_lt (n * 10 + (b - 48)) (2 ^ 32)) h in
      let some = ltb-true 0 n both.0 in
      let fit = ltb-true (n * 10 + (b - 48)) (2 ^ 32) both.1 in
      record {
        text = part_read b (listed_text rs ++ decimal n) (listed_text rs ++ decimal (n * 10 + (b - 48))) reads.text
            (ap (λ l. listed_text rs ++ l) (further_digit n b low high some fit)
            ∙ sym (append_assoc (listed_text rs) (decimal n) (b ∷ [])));
        at = (reads.at.0, reads.at.1, reads.at.2, fit);
      })
      (λ _. tt))
  digit_sound InSubject b low high reads = tt
  digit_sound InRule b low high reads = tt
  digit_sound AfterMark b low high reads = tt

  -- a byte of an entry
  entry_sound : (spot : Spot) (b : ℕ) → Reads bytes (here spot)
      → IfSome (entry_step (here spot) b) (Reads (bytes ++ b ∷ []))
  entry_sound spot b reads =
      cond_both (is_ascii_digit b) _ _ (λ o. IfSome o (Reads (bytes ++ b ∷ [])))
      (λ h.
      let both = and_parts (nat_le 48 b) (nat_le b 57) h in
      IfSome-map (λ p. moved (here spot) rs p) (Reads (bytes ++ b ∷ [])) (digit_spot spot (b - 48))
      (digit_sound spot b (leb-true 48 b both.0) (leb-true b 57 both.1) reads))
      (λ _. cond_both (b == 44) _ _ (λ o. IfSome o (Reads (bytes ++ b ∷ [])))
      (λ h. at_byte 44 (eqb-true b 44 h) (comma_step (here spot) spot) (comma_sound spot reads))
      (λ _. cond_both (b == 33) _ _ (λ o. IfSome o (Reads (bytes ++ b ∷ [])))
      (λ h. at_byte 33 (eqb-true b 33 h) (mark_step (here spot) spot) (mark_sound spot reads))
      (λ _. cond_both (b == 59) _ _ (λ o. IfSome o (Reads (bytes ++ b ∷ [])))
      (λ h. at_byte 59 (eqb-true b 59 h) (end_step (here spot) spot)
      (ends (end_step (here spot) spot) (end_sound spot reads)))
      (λ _. tt))))
    where
      at_byte : (c : ℕ) → b ≡ c → (o : Option State) → IfSome o (Reads (bytes ++ c ∷ []))
          → IfSome o (Reads (bytes ++ b ∷ []))
      at_byte c same o h = subst (λ k. IfSome o (Reads (bytes ++ k ∷ []))) (sym same) h

      ends : (o : Option State) → IfSome o (Ends bytes) → IfSome o (Reads (bytes ++ 59 ∷ []))
      ends None h = tt
      ends (Some t) h = h.reads

  -- a byte of the subject's name, or the slash behind it
  subject_sound : (b : ℕ) → Reads bytes (here InSubject)
      → IfSome (step (here InSubject) b) (Reads (bytes ++ b ∷ []))
  subject_sound b reads =
      IfSome-map (λ x. record (here InSubject) { subject = x.0; spot = x.1 }) (Reads (bytes ++ b ∷ []))
      (name_step subject InSubject InRule b)
      (name_step-cases subject InSubject InRule
      (λ x. Reads (bytes ++ b ∷ []) (record (here InSubject) { subject = x.0; spot = x.1 })) b
      (λ slash some. record {
        text = ap (λ l. l ++ b ∷ []) reads.text ∙ ap (λ k. subject ++ k ∷ []) slash
            ∙ ap (λ l. subject ++ 47 ∷ l) (sym reads.at.1);
        at = (is_name-part subject reads.at.0 some, rw reads.at.1 (refl, omega arith), reads.at.2, reads.at.3);
      })
      (λ letter room. record {
        text = ap (λ l. l ++ b ∷ []) reads.text;
        at = (IsPart-push subject b reads.at.0 letter room, reads.at.1, reads.at.2, reads.at.3);
      }))

  -- a byte of the rule's name, or the slash behind it
  rule_sound : (b : ℕ) → Reads bytes (here InRule) → IfSome (step (here InRule) b) (Reads (bytes ++ b ∷ []))
  rule_sound b reads =
      IfSome-map (λ x. record (here InRule) { rule = x.0; spot = x.1 }) (Reads (bytes ++ b ∷ []))
      (name_step rule InRule BeforeEntry b)
      (name_step-cases rule InRule BeforeEntry
      (λ x. Reads (bytes ++ b ∷ []) (record (here InRule) { rule = x.0; spot = x.1 })) b
      (λ slash some. record {
        text = longer ∙ ap (λ k. subject ++ 47 ∷ (rule ++ k ∷ [])) slash
            ∙ ap (λ l. behind_names subject rule (closed_text l ++ [])) (sym reads.at.2);
        at = ((reads.at.0, is_name-part rule reads.at.1 some), rw reads.at.2 tt, reads.at.3);
      })
      (λ letter room. record {
        text = longer;
        at = (reads.at.0, IsPart-push rule b reads.at.1 letter room, reads.at.2, reads.at.3);
      }))
    where
      longer : bytes ++ b ∷ [] ≡ subject ++ 47 ∷ (rule ++ b ∷ [])
      longer = ap (λ l. l ++ b ∷ []) reads.text ∙ append_assoc subject (47 ∷ rule) (b ∷ [])

  -- a byte at any spot
  step_sound_at : (spot : Spot) (b : ℕ) → Reads bytes (here spot)
      → IfSome (step (here spot) b) (Reads (bytes ++ b ∷ []))
  step_sound_at InSubject b reads = subject_sound b reads
  step_sound_at InRule b reads = rule_sound b reads
  step_sound_at BeforeEntry b reads = entry_sound BeforeEntry b reads
  step_sound_at (InNumber n) b reads = entry_sound (InNumber n) b reads
  step_sound_at AfterComma b reads = entry_sound AfterComma b reads
  step_sound_at AfterMark b reads = entry_sound AfterMark b reads

-- where the entry of a state may end the token may end
pub ends_sound : (bytes : Text) (s : State) → Reads bytes s → IfSome (end_step s s.spot) (Ends bytes)
ends_sound bytes s reads = end_sound bytes s.subject s.rule s.entries s.ranks s.spot reads

-- what is read up to a state, and a byte that it passes, is read up to the next one
pub step_sound : (bytes : Text) (s t : State) (b : ℕ) → Reads bytes s → step s b ≡ Some t → Reads (bytes ++ b ∷ []) t
step_sound bytes s t b reads is =
    let h : IfSome (step s b) (Reads (bytes ++ b ∷ [])) =
    step_sound_at bytes s.subject s.rule s.entries s.ranks s.spot b reads in
    rw is at h

-- what the bytes lead to is what is read of them
pub run_sound : (bytes more : Text) (s t : State) → Reads bytes s → run s more ≡ Some t → Reads (bytes ++ more) t
run_sound bytes [] s t reads is = subst (Reads (bytes ++ [])) (from_Some is) (rw append-nil reads)
run_sound bytes (b ∷ more) s t reads is =
    let first = run_first s t b more is in
    subst (λ l. Reads l t) (append_assoc bytes (b ∷ []) more)
    (run_sound (bytes ++ b ∷ []) more first.0 t (step_sound bytes s first.0 b reads first.1) first.2)

-- nothing is read at the start
pub start_reads : Reads [] start
start_reads = record { text = refl; at = ((refl, omega arith), refl, refl, refl) }
