-- The open operations of frames, as frames are added and cut off.
use Rattle.std.proofs.Common.{◌≡◌, ◌≤◌, ◌<◌, ◌+◌, ℕ, zero, suc, List, [], ◌∷◌, ◌++◌, length, take, drop, refl, ap, sym}
use Rattle.std.proofs.Common.{◌∙◌, arith, subst}
use Rattle.std.specs.Prelude.{Option, Some, None, slice_get, slice_index_or}
use Rattle.std.proofs.lemmas.List.{length-append, length-take, append_assoc, take-append-drop}
use Rattle.mp_term.specs.Signature.{Sig}
use Rattle.mp_term.proofs.ListLaws.{get_or-front}
use Rattle.mp_table.specs.Table.{Table}
use Rattle.mp_walk.specs.declared.frame.Frame.{Frame}
use Rattle.mp_walk.specs.OpenOnes.{open_of, opens_at, opens_from, opens, IsPlaceBelow, AreFrames}
use Rattle.mp_walk.specs.TokenMachine.{Open}

pub index-end : {X : Type 0} (xs : List X) (x d : X) → slice_index_or (xs ++ x ∷ []) (length xs) d ≡ x
index-end [] x d = refl
index-end (y ∷ xs) x d = index-end xs x d

-- a list around one of its items
pub parts-at : {X : Type 0} (xs : List X) (i : ℕ) (x : X) → slice_get xs i ≡ Some x
    → (xs ≡ take i xs ++ (x ∷ drop (suc i) xs)) × (length (take i xs) ≡ i) × (i < length xs)
parts-at [] i x e = cc
parts-at (y ∷ xs) zero x e = ((let s : y ≡ x = cc in ap (λ z. z ∷ xs) s), refl, omega arith)
parts-at (y ∷ xs) (suc i) x e =
    let r = parts-at xs i x e in
    (ap (λ zs. y ∷ zs) r.0, omega (arith, r.1), omega (arith, r.2))

module _ (t : Table) where
  opens_from-append : (oss : List (List Open)) (fs gs : List Frame)
      → opens_from t oss (fs ++ gs) ≡ opens_from t (opens_from t oss fs) gs
  opens_from-append oss [] gs = refl
  opens_from-append oss (f ∷ fs) gs = opens_from-append (oss ++ (open_of t f ∷ opens_at oss f.outer) ∷ []) fs gs

  length-opens_from : (oss : List (List Open)) (fs : List Frame) → length (opens_from t oss fs) ≡ length oss + length fs
  length-opens_from oss [] = omega arith
  length-opens_from oss (f ∷ fs) = omega (
    arith,
    length-opens_from (oss ++ (open_of t f ∷ opens_at oss f.outer) ∷ []) fs,
    length-append oss ((open_of t f ∷ opens_at oss f.outer) ∷ []),
  )

  opens_from-front : (oss : List (List Open)) (fs : List Frame) (i : ℕ) → i < length oss
      → slice_index_or (opens_from t oss fs) i [] ≡ slice_index_or oss i []
  opens_from-front oss [] i h = refl
  opens_from-front oss (f ∷ fs) i h =
      opens_from-front (oss ++ (open_of t f ∷ opens_at oss f.outer) ∷ []) fs i
      (omega (arith, length-append oss ((open_of t f ∷ opens_at oss f.outer) ∷ [])))
      ∙ get_or-front oss ((open_of t f ∷ opens_at oss f.outer) ∷ []) i [] h

  -- more frames change nothing at the places that there were
  pub opens-append : (fs gs : List Frame) (o : Option ℕ) → IsPlaceBelow (length fs) o
      → opens t (fs ++ gs) o ≡ opens t fs o
  opens-append fs gs None h = refl
  opens-append fs gs (Some i) h =
      ap (λ oss. slice_index_or oss i []) (opens_from-append [] fs gs)
      ∙ opens_from-front (opens_from t [] fs) gs i (omega (arith, length-opens_from [] fs))

  -- a frame more lies in the ones from its outer place on
  pub opens-more : (fs : List Frame) (f : Frame)
      → opens t (fs ++ f ∷ []) (Some (length fs)) ≡ open_of t f ∷ opens t fs f.outer
  opens-more fs f =
      ap (λ oss. slice_index_or oss (length fs) []) (opens_from-append [] fs (f ∷ []))
      ∙ ap (λ n. slice_index_or (opens_from t [] fs ++ (open_of t f ∷ opens t fs f.outer) ∷ []) n [])
      (let e : length fs ≡ length (opens_from t [] fs) = omega (arith, length-opens_from [] fs) in e)
      ∙ index-end (opens_from t [] fs) (open_of t f ∷ opens t fs f.outer) []

  -- the frame at a place, and those around it
  pub opens-is : (sig : Sig) (fs : List Frame) → AreFrames sig t fs → (i : ℕ) (f : Frame) → slice_get fs i ≡ Some f
      → opens t fs (Some i) ≡ open_of t f ∷ opens t fs f.outer
  opens-is sig fs a i f e =
      let p = parts-at fs i f e in
      let front : List Frame = take i fs in
      let back : List Frame = drop (suc i) fs in
      let placed : IsPlaceBelow (length front) f.outer =
      subst (λ n. IsPlaceBelow n f.outer) (sym p.1) (a i f e).outer in
      let whole : fs ≡ (front ++ f ∷ []) ++ back = p.0 ∙ sym (append_assoc front (f ∷ []) back) in
      let below : IsPlaceBelow (length (front ++ f ∷ [])) (Some i) =
      omega (arith, length-append front (f ∷ []), p.1) in
      ap (λ gs. opens t gs (Some i)) whole
      ∙ opens-append (front ++ f ∷ []) back (Some i) below
      ∙ ap (λ n. opens t (front ++ f ∷ []) (Some n)) (sym p.1)
      ∙ opens-more front f
      ∙ ap (λ os. open_of t f ∷ os) (sym (ap (λ gs. opens t gs f.outer) p.0
      ∙ opens-append front (f ∷ back) f.outer placed))

  -- a cut changes nothing at the places below it
  pub opens-take : (fs : List Frame) (n : ℕ) (o : Option ℕ) → IsPlaceBelow n o → n ≤ length fs
      → opens t (take n fs) o ≡ opens t fs o
  opens-take fs n o h k =
      sym (ap (λ gs. opens t gs o) (sym (take-append-drop n fs))
      ∙ opens-append (take n fs) (drop n fs) o
      (subst (λ m. IsPlaceBelow m o) (let e : n ≡ length (take n fs) = omega (arith, length-take n fs) in e) h))
