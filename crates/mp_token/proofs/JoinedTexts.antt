-- Texts with a byte between each two, as a loop puts them.
use Rattle.std.proofs.Common.{◌≡◌, ℕ, ◌+◌, ◌<◌, List, [], ◌∷◌, ◌++◌, length, take, map, refl, ap, sym, ◌∙◌}
use Rattle.std.proofs.Common.{append_assoc, arith, get_or, subst}
use Rattle.std.specs.Prelude.{IfSome, codes, decimal, slice_get}
use Rattle.std.specs.List.{AllByRecursion, join_with_byte}
use Rattle.std.specs.Option.{option_map_or}
use Rattle.std.proofs.lemmas.List.{length-map, length-take-le, map-append, take_more}
use Rattle.std.proofs.lemmas.Option.{slice_get-get_or}
use Rattle.mp_io.specs.Devices.{Text}
use Rattle.mp_io.specs.Printing.{gap_text}
use Rattle.mp_table.specs.declared.rank.Rank.{Rank}
use Rattle.mp_token.specs.Entry.{Entry}
use Rattle.mp_token.specs.TokenText.{ranks_text, entry_text, entries_text, front_text, next_entry_text}

-- the texts and one more behind them
join_with_byte-push : (c : ℕ) (xs : List Text) (x : Text)
    → join_with_byte c (xs ++ x ∷ []) ≡ join_with_byte c xs ++ (gap_text (c ∷ []) (length xs) ++ x)
join_with_byte-push c [] x = refl
join_with_byte-push c (y ∷ []) x = refl
join_with_byte-push c (y ∷ z ∷ ys) x =
    ap (λ l. y ++ (c ∷ l)) (join_with_byte-push c (z ∷ ys) x)
    ∙ sym (append_assoc y (c ∷ join_with_byte c (z ∷ ys)) (c ∷ x))

-- the same of the texts of items
joined-push : {X : Type 0} (f : X → Text) (c : ℕ) (xs : List X) (x : X)
    → join_with_byte c (map f (xs ++ x ∷ []))
    ≡ join_with_byte c (map f xs) ++ (gap_text (c ∷ []) (length xs) ++ f x)
joined-push f c xs x =
    ap (join_with_byte c) (map-append f xs (x ∷ [])) ∙ join_with_byte-push c (map f xs) (f x)
    ∙ ap (λ n. join_with_byte c (map f xs) ++ (gap_text (c ∷ []) n ++ f x)) (length-map xs f)

-- the same of the items before an index and the one there
joined-take : {X : Type 0} (f : X → Text) (c : ℕ) (xs : List X) (i : ℕ) (x : X) → i < length xs
    → join_with_byte c (map f (take (i + 1) xs))
    ≡ join_with_byte c (map f (take i xs)) ++ (gap_text (c ∷ []) i ++ f (get_or xs i x))
joined-take f c xs i x within =
    ap (λ l. join_with_byte c (map f l)) (take_more xs i x within)
    ∙ joined-push f c (take i xs) (get_or xs i x)
    ∙ ap (λ n. join_with_byte c (map f (take i xs)) ++ (gap_text (c ∷ []) n ++ f (get_or xs i x)))
    (length-take-le i xs (omega arith))

-- the ranks before an index and the one there
pub ranks_text-take : (ranks : List Rank) (i : ℕ) (r : Rank) → i < length ranks
    → ranks_text (take (i + 1) ranks)
    ≡ ranks_text (take i ranks) ++ (gap_text (codes ",") i ++ decimal (get_or ranks i r).0)
ranks_text-take ranks i r within = joined-take (λ x. decimal x.0) 44 ranks i r within

-- a text in front of another
front_text-append : (subject rule : Text) (es fs : List Entry) (text : Text)
    → entries_text fs ≡ entries_text es ++ text → front_text subject rule fs ≡ front_text subject rule es ++ text
front_text-append subject rule es fs text same =
    ap (λ l. subject ++ (codes "/" ++ (rule ++ (codes "/" ++ l)))) same
    ∙ ap (λ l. subject ++ (codes "/" ++ l)) (sym (append_assoc rule (codes "/" ++ entries_text es) text))
    ∙ sym (append_assoc subject (codes "/" ++ (rule ++ (codes "/" ++ entries_text es))) text)

-- the front of a token with one more entry
pub front_text-push : (subject rule : Text) (es : List Entry) (e : Entry)
    → front_text subject rule (es ++ e ∷ []) ≡ front_text subject rule es ++ next_entry_text (length es) e
front_text-push subject rule es e =
    front_text-append subject rule es (es ++ e ∷ []) (next_entry_text (length es) e) (joined-push entry_text 59 es e)

-- the front of a token with the entries before an index and the one that is got there
pub front_text-take : (subject rule : Text) (es : List Entry) (i : ℕ) → i < length es
    → front_text subject rule (take (i + 1) es)
    ≡ front_text subject rule (take i es) ++ option_map_or (next_entry_text i) (slice_get es i) []
front_text-take subject rule [] i within = absurd (omega arith)
front_text-take subject rule (e ∷ es) i within =
    front_text-append subject rule (take i (e ∷ es)) (take (i + 1) (e ∷ es)) (next_entry_text i (get_or (e ∷ es) i e))
    (joined-take entry_text 59 (e ∷ es) i e within)
    ∙ ap (λ o. front_text subject rule (take i (e ∷ es)) ++ option_map_or (next_entry_text i) o [])
    (sym (slice_get-get_or (e ∷ es) i e within))

-- what holds of the items holds of one more
pub AllByRecursion-push : {X : Type 0} (P : X → Type 0) (xs : List X) (x : X) → AllByRecursion P xs → P x
    → AllByRecursion P (xs ++ x ∷ [])
AllByRecursion-push P [] x all one = (one, tt)
AllByRecursion-push P (y ∷ ys) x all one = (all.0, AllByRecursion-push P ys x all.1 one)

-- what holds of the items before an index and of the one there holds of those before the next
pub AllByRecursion-take : {X : Type 0} (P : X → Type 0) (xs : List X) (i : ℕ) (x : X) → i < length xs
    → AllByRecursion P (take i xs) → P (get_or xs i x) → AllByRecursion P (take (i + 1) xs)
AllByRecursion-take P xs i x within all one =
    subst (AllByRecursion P) (sym (take_more xs i x within))
    (AllByRecursion-push P (take i xs) (get_or xs i x) all one)

-- the same of the item that is got there
pub AllByRecursion-got : {X : Type 0} (P : X → Type 0) (xs : List X) (i : ℕ) → i < length xs
    → AllByRecursion P (take i xs) → IfSome (slice_get xs i) P → AllByRecursion P (take (i + 1) xs)
AllByRecursion-got P [] i within all one = absurd (omega arith)
AllByRecursion-got P (x ∷ xs) i within all one =
    AllByRecursion-take P (x ∷ xs) i x within all
    (subst (λ o. IfSome o P) (slice_get-get_or (x ∷ xs) i x within) one)
