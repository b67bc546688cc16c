-- Tokens that are kept in little room.
use Rattle.std.proofs.Common.{◌≡◌, ◌≤◌, ◌<◌, ◌∙◌, ℕ, List, [], ◌∷◌, ◌++◌, length, map, refl, ap, subst, sym, arith}
use Rattle.std.proofs.Common.{zero, suc, ◌+◌, take, drop}
use Rattle.std.specs.Prelude.{slice_get, slice_index_or}
use Rattle.std.specs.List.{AllByRecursion}
use Rattle.std.proofs.lemmas.List.{get_or_append_left, length-map, map-append}
use Rattle.mp_pattern.specs.NetTokens.{NetToken, leave_token}
use Rattle.mp_many.specs.declared.token.Token.{Token}
use Rattle.mp_many.specs.declared.tokens.Kept.{Kept}
use Rattle.mp_many.specs.declared.tokens.Kept.TheVariants.{Enter, Leave, Held}
use Rattle.mp_many.specs.KeptTokens.{kept_tokens, read_kept, IsHeld}
use Rattle.mp_many.specs.TokenView.{read_token}
use Rattle.mp_many.proofs.WalkableLaws.{get-drop}

-- a token that is kept is read alike where more are held
read_kept-more : (held more : List NetToken) (k : Kept) → IsHeld (length held) k
    → read_kept (held ++ more) k ≡ read_kept held k
read_kept-more held more (Enter f) h = refl
read_kept-more held more (Leave f) h = refl
read_kept-more held more (Held n) h = get_or_append_left held more (leave_token 0) n h

-- and so are those of a list
kept-more : (held more : List NetToken) (kept : List Kept) → AllByRecursion (IsHeld (length held)) kept
    → map (read_kept (held ++ more)) kept ≡ map (read_kept held) kept
kept-more held more [] h = refl
kept-more held more (k ∷ ks) h = λ i. read_kept-more held more k h.0 i ∷ kept-more held more ks h.1 i

-- a token that is held is held where more are
is_held-more : (few many : ℕ) (k : Kept) → few ≤ many → IsHeld few k → IsHeld many k
is_held-more few many (Enter f) m h = tt
is_held-more few many (Leave f) m h = tt
is_held-more few many (Held n) m h = omega (arith, m, h)

all_held-more : (few many : ℕ) (kept : List Kept) → few ≤ many → AllByRecursion (IsHeld few) kept
    → AllByRecursion (IsHeld many) kept
all_held-more few many [] m h = tt
all_held-more few many (k ∷ ks) m h = (is_held-more few many k m h.0, all_held-more few many ks m h.1)

module _ (old new : List Token) (more : List NetToken) (kept : List Kept)
    (is : map read_token new ≡ map read_token old ++ more) (h : AllByRecursion (IsHeld (length old)) kept) where
  -- one more is kept
  pub kept-next : (k : Kept) (t : NetToken) → read_kept (map read_token new) k ≡ t
      → kept_tokens new (kept ++ k ∷ []) ≡ kept_tokens old kept ++ t ∷ []
  kept-next k t r =
      map-append (read_kept (map read_token new)) kept (k ∷ [])
      ∙ ap (λ ts. ts ++ read_kept (map read_token new) k ∷ []) (ap (λ ts. map (read_kept ts) kept) is
      ∙ kept-more (map read_token old) more kept
      (subst (λ n. AllByRecursion (IsHeld n) kept) (sym (length-map old read_token)) h))
      ∙ ap (λ x. kept_tokens old kept ++ x ∷ []) r

-- the token that is held last
pub read-last : (held : List Token) (t : Token) (d : NetToken)
    → slice_index_or (map read_token (held ++ t ∷ [])) (length held) d ≡ read_token t
read-last [] t d = refl
read-last (h ∷ hs) t d = read-last hs t d

-- what stands in the first items of a list
taken-at : {X : Type 0} (xs : List X) (count place : ℕ) → place < count
    → slice_get (take count xs) place ≡ slice_get xs place
taken-at xs zero place h = absurd (omega (arith, h))
taken-at [] (suc count) place h = refl
taken-at (x ∷ xs) (suc count) zero h = refl
taken-at (x ∷ xs) (suc count) (suc place) h = taken-at xs count place (omega (arith, h))

-- and in a part
pub part-at : {X : Type 0} (xs : List X) (start count place : ℕ) → place < count
    → slice_get (take count (drop start xs)) place ≡ slice_get xs (start + place)
part-at xs start count place h = taken-at (drop start xs) count place h ∙ get-drop xs start place
