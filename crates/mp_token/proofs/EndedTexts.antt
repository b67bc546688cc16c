-- Texts of entries and of ranks, each with what stands behind it where another one comes.
use Rattle.std.proofs.Common.{◌≡◌, ℕ, ◌<◌, List, [], ◌∷◌, ◌++◌, length, refl, ap, sym, ◌∙◌, arith, append_assoc}
use Rattle.std.specs.Prelude.{decimal, map}
use Rattle.std.specs.List.{join_with_byte}
use Rattle.std.proofs.lemmas.List.{map-append}
use Rattle.mp_io.specs.Devices.{Text}
use Rattle.mp_table.specs.declared.rank.Rank.{Rank}
use Rattle.mp_token.specs.Entry.{Entry}
use Rattle.mp_token.specs.TokenText.{ranks_text, entry_text, entries_text}
use Rattle.mp_token.specs.declared.reader.Spot.TheVariants.{BeforeEntry}
use Rattle.mp_token.specs.Machine.{State}

-- the texts, each with a byte behind it
abbrev pub each_ended : ℕ → List Text → Text
each_ended c [] = []
each_ended c (x ∷ xs) = x ++ (c ∷ each_ended c xs)

-- the ranks, each with a comma
abbrev pub listed_text : List Rank → Text
listed_text rs = each_ended 44 (map (λ r. decimal r.0) rs)

-- the entries, each with a semicolon
abbrev pub closed_text : List Entry → Text
closed_text es = each_ended 59 (map entry_text es)

-- names and entries are read, and another entry comes
abbrev pub before : Text → Text → List Entry → State
before subject rule es = record { subject = subject; rule = rule; entries = es; ranks = []; spot = BeforeEntry }

-- texts with a byte between each two, and that byte behind them
each_ended-is : (c : ℕ) (x : Text) (xs : List Text)
    → each_ended c (x ∷ xs) ≡ join_with_byte c (x ∷ xs) ++ c ∷ []
each_ended-is c x [] = refl
each_ended-is c x (y ∷ xs) =
    ap (λ l. x ++ (c ∷ l)) (each_ended-is c y xs) ∙ sym (append_assoc x (c ∷ join_with_byte c (y ∷ xs)) (c ∷ []))

-- the same of entries
pub closed_text-is : (es : List Entry) → 0 < length es → closed_text es ≡ entries_text es ++ 59 ∷ []
closed_text-is [] some = absurd (omega arith)
closed_text-is (e ∷ es) some = each_ended-is 59 (entry_text e) (map entry_text es)

-- one text more
each_ended-push : (c : ℕ) (xs : List Text) (x : Text) → each_ended c (xs ++ x ∷ []) ≡ each_ended c xs ++ (x ++ c ∷ [])
each_ended-push c [] x = refl
each_ended-push c (y ∷ ys) x =
    ap (λ l. y ++ (c ∷ l)) (each_ended-push c ys x) ∙ sym (append_assoc y (c ∷ each_ended c ys) (x ++ c ∷ []))

-- a last text behind others
join_with_byte-last : (c : ℕ) (xs : List Text) (x : Text) → join_with_byte c (xs ++ x ∷ []) ≡ each_ended c xs ++ x
join_with_byte-last c [] x = refl
join_with_byte-last c (y ∷ []) x = sym (append_assoc y (c ∷ []) x)
join_with_byte-last c (y ∷ z ∷ ys) x =
    ap (λ l. y ++ (c ∷ l)) (join_with_byte-last c (z ∷ ys) x) ∙ sym (append_assoc y (c ∷ each_ended c (z ∷ ys)) x)

-- one rank more
pub listed_text-push : (rs : List Rank) (r : Rank)
    → listed_text (rs ++ r ∷ []) ≡ (listed_text rs ++ decimal r.0) ++ 44 ∷ []
listed_text-push rs r =
    ap (each_ended 44) (map-append (λ r. decimal r.0) rs (r ∷ []))
    ∙ each_ended-push 44 (map (λ r. decimal r.0) rs) (decimal r.0)
    ∙ sym (append_assoc (listed_text rs) (decimal r.0) (44 ∷ []))

-- a last rank
pub ranks_text-last : (rs : List Rank) (r : Rank) → ranks_text (rs ++ r ∷ []) ≡ listed_text rs ++ decimal r.0
ranks_text-last rs r =
    ap (join_with_byte 44) (map-append (λ r. decimal r.0) rs (r ∷ []))
    ∙ join_with_byte-last 44 (map (λ r. decimal r.0) rs) (decimal r.0)

-- a last entry
pub entries_text-last : (es : List Entry) (e : Entry) → entries_text (es ++ e ∷ []) ≡ closed_text es ++ entry_text e
entries_text-last es e =
    ap (join_with_byte 59) (map-append entry_text es (e ∷ []))
    ∙ join_with_byte-last 59 (map entry_text es) (entry_text e)

-- one entry more
pub closed_text-push : (es : List Entry) (e : Entry)
    → closed_text (es ++ e ∷ []) ≡ (closed_text es ++ entry_text e) ++ 59 ∷ []
closed_text-push es e =
    ap (each_ended 59) (map-append entry_text es (e ∷ [])) ∙ each_ended-push 59 (map entry_text es) (entry_text e)
    ∙ sym (append_assoc (closed_text es) (entry_text e) (59 ∷ []))
