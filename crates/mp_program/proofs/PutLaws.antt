-- What a loop puts that gets its items by their index.
use Rattle.std.proofs.Common.{◌≡◌, ℕ, ◌+◌, List, [], ◌∷◌, ◌++◌, take, sym, ap, subst, ◌∙◌}
use Rattle.std.proofs.Common.{append-nil, append_assoc, map, length, get_or, ◌<◌}
use Rattle.std.proofs.lemmas.List.{take_more}
use Rattle.std.specs.List.{flat_map}
use Rattle.mp_io.specs.Devices.{Text}
use Rattle.mp_io.specs.Writing.{Puts}
use Rattle.mp_io.specs.declared.devices.Sink.{Ghosts as SinkWords}
use Rattle.mp_io.specs.declared.writer.Writer.{Writer}
use Rattle.mp_io.proofs.WritingLaws.{Puts-then}

-- the texts of what items are read as, and one more
flat_map-push : {X Y : Type 0} (g : X → Y) (f : Y → Text) (xs : List X) (x : X)
    → flat_map f (map g (xs ++ x ∷ [])) ≡ flat_map f (map g xs) ++ f (g x)
flat_map-push g f [] x = append-nil (f (g x))
flat_map-push g f (y ∷ xs) x = ap (λ t. f (g y) ++ t) (flat_map-push g f xs x)
    ∙ sym (append_assoc (f (g y)) (flat_map f (map g xs)) (f (g x)))

-- the items before an index are put, and then the item there
pub Puts-next : {K X Y : Type 0} (words : SinkWords K) (g : X → Y) (f : Y → Text) (xs : List X) (i : ℕ) (x : X)
    → i < length xs → x ≡ get_or xs i x → (t u w : Writer K)
    → Puts words t u (flat_map f (map g (take i xs))) → Puts words u w (f (g x))
    → Puts words t w (flat_map f (map g (take (i + 1) xs)))
Puts-next words g f xs i x within is t u w before item =
    subst (Puts words t w)
    (sym (ap (λ l. flat_map f (map g l)) (take_more xs i x within ∙ ap (λ y. take i xs ++ y ∷ []) (sym is))
    ∙ flat_map-push g f (take i xs) x))
    (Puts-then words t u w (flat_map f (map g (take i xs))) (f (g x)) before item)
