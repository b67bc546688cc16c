-- The file that counts for a name, as the list of files grows.
use Rattle.std.proofs.Common.{◌≡◌, ℕ, ◌+◌, ◌<◌, ◌≤◌, List, [], ◌∷◌, ◌++◌, length, take, drop, get_or, Bool, true, false}
use Rattle.std.proofs.Common.{refl, sym, ap, ◌∙◌, subst, None, Some, arith}
use Rattle.std.specs.Prelude.{Option, slice_get, string_bytes, IsSomeAnd, if◌then◌else◌, option_map}
use Rattle.std.specs.Option.{option_or, option_map_or}
use Rattle.std.specs.Str.{bytes_eq}
use Rattle.std.proofs.lemmas.List.{take_more, map-append}
use Rattle.std.proofs.lemmas.List.{length-append}
use Rattle.std.proofs.Math.ListN.{get_or-append}
use Rattle.std.proofs.lemmas.Option.{slice_get_read, slice_get_within, slice_get-get_or, get_or_from_slice_get}
use Rattle.mp_io.specs.Devices.{Files, Text, held}
use Rattle.mp_io.specs.MemoryShelf.{ShelfState}
use Rattle.mp_io.specs.MemoryShelfView.{IsInPlace, bytes_at, entries_of, entry_of, IsShelf, rest_at, shelf_state}
use Rattle.mp_io.specs.declared.memory_shelf.MemoryShelf.TheInside.{Inside}
use Rattle.std.specs.Prelude.{Vec}
use Rattle.std.specs.Global.{Global}
use Rattle.mp_io.specs.declared.memory_shelf.HeldFile.{HeldFile}
use Rattle.mp_io.specs.declared.memory_shelf.Place.{Place}

-- these bytes where the test holds, else those before
abbrev bytes_or : Bool → Text → Option Text → Option Text
bytes_or is bytes before = if is then Some bytes else before

-- a choice within an `option_or` is a choice of all of it
option_or-bytes_or : (is : Bool) (bytes : Text) (before here : Option Text)
    → option_or (bytes_or is bytes before) here ≡ bytes_or is bytes (option_or before here)
option_or-bytes_or true bytes before here = refl
option_or-bytes_or false bytes before here = refl

-- a file at the end takes the place of an older one of its name
pub held-append : (files : Files) (file : Text × Text) (name : Text)
    → held (files ++ file ∷ []) name ≡ bytes_or (bytes_eq file.0 name) file.1 (held files name)
held-append [] file name = go (bytes_eq file.0 name)
  where
    go : (is : Bool) → option_or None (bytes_or is file.1 None) ≡ bytes_or is file.1 None
    go true = refl
    go false = refl
held-append (first ∷ later) file name =
    ap (λ o. option_or o (if bytes_eq first.0 name then Some first.1 else None)) (held-append later file name)
    ∙ option_or-bytes_or (bytes_eq file.0 name) file.1 (held later name)
    (if bytes_eq first.0 name then Some first.1 else None)

-- the files up to the next one
held-take_more : (files : List HeldFile) (i : ℕ) (file : HeldFile) (name : Text) → i < length files
    → file ≡ get_or files i file
    → held (entries_of (take (i + 1) files)) name
    ≡ bytes_or (bytes_eq (string_bytes file.name) name) file.bytes.items (held (entries_of (take i files)) name)
held-take_more files i file name h is =
    ap (λ l. held (entries_of l) name) (take_more files i file h ∙ ap (λ x. take i files ++ x ∷ []) (sym is))
    ∙ ap (λ l. held l name) (map-append entry_of (take i files) (file ∷ []))
    ∙ held-append (entries_of (take i files)) (entry_of file) name

-- the next file has the name
pub held-take_found : (files : List HeldFile) (i : ℕ) (file : HeldFile) (name : Text) → i < length files
    → file ≡ get_or files i file → bytes_eq (string_bytes file.name) name ≡ true
    → held (entries_of (take (i + 1) files)) name ≡ bytes_at files i
held-take_found files i file name h is same =
    held-take_more files i file name h is
    ∙ ap (λ b. bytes_or b file.bytes.items (held (entries_of (take i files)) name)) same
    ∙ sym (ap (option_map (λ (f : HeldFile). f.bytes.items)) (slice_get_read files _ i file refl h is))

-- the next file has another name
pub held-take_kept : (files : List HeldFile) (i : ℕ) (file : HeldFile) (name : Text) → i < length files
    → file ≡ get_or files i file → bytes_eq (string_bytes file.name) name ≡ false
    → held (entries_of (take (i + 1) files)) name ≡ held (entries_of (take i files)) name
held-take_kept files i file name h is other =
    held-take_more files i file name h is ∙ ap
    (λ b. bytes_or b file.bytes.items (held (entries_of (take i files)) name)) other

-- a file that is pushed leaves the others at their indices
slice_get-push : (files : List HeldFile) (file x : HeldFile) (i : ℕ) → slice_get files i ≡ Some x
    → slice_get (files ++ file ∷ []) i ≡ Some x
slice_get-push files file x i e =
    let h : i < length files = slice_get_within files i x e in
    slice_get-get_or (files ++ file ∷ []) i x (omega (arith, length-append files (file ∷ [])))
    ∙ ap Some (get_or-append files (file ∷ []) x i h ∙ get_or_from_slice_get files i x x e)

-- a file that is pushed leaves the started one where it is
slice_get-kept : (files : List HeldFile) (file : HeldFile) (place : Place) → IsInPlace files (Some place)
    → slice_get (files ++ file ∷ []) place.index ≡ slice_get files place.index
slice_get-kept files file place h = go (slice_get files place.index) refl h
  where
    go : (o : Option HeldFile) → slice_get files place.index ≡ o
        → IsSomeAnd o (λ (f : HeldFile). place.at ≤ length f.bytes.items)
        → slice_get (files ++ file ∷ []) place.index ≡ slice_get files place.index
    go None e k = absurd k
    go (Some x) e k = slice_get-push files file x place.index e ∙ sym e

-- a file that is pushed leaves what is left of the started one
rest_at-push : (files : List HeldFile) (file : HeldFile) (place : Option Place) → IsInPlace files place
    → rest_at (files ++ file ∷ []) place ≡ rest_at files place
rest_at-push files file None h = refl
rest_at-push files file (Some place) h =
    ap (λ o. option_map_or (λ (f : HeldFile). drop place.at f.bytes.items) o []) (slice_get-kept files file place h)

-- a file that is pushed is held, and nothing else changes
pub shelf_state-push : (s : Inside) (old : ShelfState) (new : Vec HeldFile Global) (file : HeldFile) (name bytes : Text)
    → shelf_state s ≡ old → IsShelf s → new.items ≡ s.files.items ++ file ∷ []
    → (string_bytes file.name ≡ name) × (file.bytes.items ≡ bytes)
    → shelf_state (record s { files = new }) ≡ record old { files = old.files ++ (name, bytes) ∷ [] }
shelf_state-push s old new file name bytes view_is inv items made =
    let all : entries_of new.items ≡ entries_of s.files.items ++ (name, bytes) ∷ [] =
    ap entries_of items ∙ map-append entry_of s.files.items (file ∷ [])
    ∙ (λ i. entries_of s.files.items ++ (made.0 i, made.1 i) ∷ []) in
    let kept : rest_at new.items s.started ≡ rest_at s.files.items s.started =
    ap (λ l. rest_at l s.started) items ∙ rest_at-push s.files.items file s.started inv in
    let same : shelf_state (record s { files = new })
    ≡ record (shelf_state s) { files = entries_of s.files.items ++ (name, bytes) ∷ [] } =
    λ i. record (shelf_state s) { files = all i; rest = kept i } in
    subst (λ (o : ShelfState). shelf_state (record s { files = new })
    ≡ record o { files = o.files ++ (name, bytes) ∷ [] }) view_is same
