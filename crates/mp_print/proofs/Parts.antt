-- Texts of the items of a list that are got by their index, one after another, as a loop puts them.
use Rattle.std.proofs.Common.{◌≡◌, ℕ, zero, suc, ◌+◌, List, [], ◌∷◌, ◌++◌, take, Some, None, refl, sym, ap, subst, ◌∙◌}
use Rattle.std.proofs.Common.{add-one, append-nil, append_assoc, ◌<◌, length, get_or, map, arith}
use Rattle.std.specs.Prelude.{Option, slice_get, option_map}
use Rattle.std.specs.List.{flat_map}
use Rattle.std.specs.Option.{option_map_or}
use Rattle.mp_io.specs.Devices.{Text}
use Rattle.mp_io.specs.Writing.{Puts}
use Rattle.mp_io.specs.declared.devices.Sink.{Ghosts as SinkWords}
use Rattle.mp_io.specs.declared.writer.Writer.{Writer}
use Rattle.mp_io.proofs.WritingLaws.{Puts-then}
use Rattle.mp_io.specs.Printing.{gap_text}
use Rattle.std.proofs.lemmas.List.{get_or_default}
use Rattle.std.proofs.lemmas.Option.{slice_get-map, slice_get-get_or}
use Rattle.mp_term.specs.Signature.{Sig, Kind, kind_names, kind_members}
use Rattle.mp_print.specs.Printing.{separated}
use Rattle.mp_print.specs.PrintedSignature.{kind_text, held_kind_text}
use Rattle.mp_print.proofs.Separated.{Puts-separated}

-- the texts before the next index end with the text of the item that is got there, where there is one
pub flat_map-take : {X : Type 0} (f : X → Text) (xs : List X) (i : ℕ)
    → flat_map f (take (i + 1) xs) ≡ flat_map f (take i xs) ++ option_map_or f (slice_get xs i) []
flat_map-take {X = X} f xs i = ap (λ k. flat_map f (take k xs)) (add-one i) ∙ go xs i
  where
    go : (xs : List X) (i : ℕ) → flat_map f (take (suc i) xs)
        ≡ flat_map f (take i xs) ++ option_map_or f (slice_get xs i) []
    go [] zero = refl
    go [] (suc i) = refl
    go (x ∷ xs) zero = append-nil (f x)
    go (x ∷ xs) (suc i) = ap (λ l. f x ++ l) (go xs i)
        ∙ sym (append_assoc (f x) (flat_map f (take i xs)) (option_map_or f (slice_get xs i) []))

-- the items before an index are put, and then the item that is got there
pub Puts-got : {K X : Type 0} (words : SinkWords K) (f : X → Text) (xs : List X) (i : ℕ) (t u w : Writer K)
    → Puts words t u (flat_map f (take i xs)) → Puts words u w (option_map_or f (slice_get xs i) [])
    → Puts words t w (flat_map f (take (i + 1) xs))
Puts-got words f xs i t u w before item =
    subst (Puts words t w) (sym (flat_map-take f xs i))
    (Puts-then words t u w (flat_map f (take i xs)) (option_map_or f (slice_get xs i) []) before item)

-- the items before an index are put with what stands between them, then the gap, and then the item that is got there
pub Puts-got_between : {K X : Type 0} (words : SinkWords K) (f : X → Text) (separator : Text) (xs : List X) (i : ℕ)
    → i < length xs → (t u v w : Writer K)
    → Puts words t u (separated separator (take i (map f xs))) → Puts words u v (gap_text separator i)
    → Puts words v w (option_map_or f (slice_get xs i) [])
    → Puts words t w (separated separator (take (i + 1) (map f xs)))
Puts-got_between words f separator [] i within t u v w before gap item = absurd (omega arith)
Puts-got_between words f separator (x ∷ xs) i within t u v w before gap item =
    let here = get_or (x ∷ xs) i x in
    Puts-separated words f separator (x ∷ xs) _ refl i here within (get_or_default (x ∷ xs) i x here within)
    t u v w before gap
    (subst (λ o. Puts words v w (option_map_or f o [])) (slice_get-get_or (x ∷ xs) i x within) item)

-- the text of the kind of a number, where that is a declared one
pub held_kind_text-declared : (sig : Sig) (i j : ℕ) → i ≡ suc j
    → held_kind_text (slice_get (kind_names sig) i) (slice_get (kind_members sig) i)
    ≡ option_map_or kind_text (slice_get sig.kinds j) []
held_kind_text-declared sig i j next =
    ap (λ n. held_kind_text (slice_get (kind_names sig) n) (slice_get (kind_members sig) n)) next
    ∙ (λ k. held_kind_text (slice_get-map (λ (k : Kind). k.name) sig.kinds j k)
    (slice_get-map (λ (k : Kind). k.members) sig.kinds j k)) ∙ go (slice_get sig.kinds j)
  where
    go : (o : Option Kind) → held_kind_text (option_map (λ (k : Kind). k.name) o)
        (option_map (λ (k : Kind). k.members) o) ≡ option_map_or kind_text o []
    go None = refl
    go (Some k) = refl
