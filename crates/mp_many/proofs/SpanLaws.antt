-- Lists of tokens that stand one behind the other.
use Rattle.std.proofs.Common.{◌≡◌, ◌<◌, ◌≤◌, ◌∙◌, ℕ, zero, suc, ◌+◌, ◌-◌, List, [], ◌∷◌, ◌++◌, map, length, take, drop}
use Rattle.std.proofs.Common.{append-nil, get_or, refl, ap, sym, subst, arith}
use Rattle.std.specs.Prelude.{flat_map}
use Rattle.std.specs.List.{AllByRecursion}
use Rattle.std.proofs.lemmas.List.{drop-append-le, length-append, length-drop, map-append}
use Rattle.std.proofs.lemmas.List.{take-append-le}
use Rattle.std.proofs.lemmas.Grind.{flat_map-append}
use Rattle.std.proofs.Math.Seq.{drop-append_seam, take-length}
use Rattle.mp_pattern.specs.NetTokens.{NetToken}
use Rattle.mp_many.specs.declared.lists.Span.{Span}
use Rattle.mp_many.specs.Prefixes.{token_count}
use Rattle.mp_many.specs.Spans.{list_in, IsSpan}

-- a span of several
pub span-at : (count : ℕ) (spans : List Span) (n : ℕ) (s : Span) → AllByRecursion (IsSpan count) spans
    → n < length spans → s ≡ get_or spans n s → IsSpan count s
span-at count [] n s h w e = absurd (omega (arith, w))
span-at count (x ∷ xs) zero s h w e = subst (IsSpan count) (sym e) h.0
span-at count (x ∷ xs) (suc n) s h w e = span-at count xs n s h.1 (omega (arith, w)) e

module _ (ts : List NetToken) where
  -- it is the same where more tokens follow
  list-more : (more : List NetToken) (s : Span) → IsSpan (length ts) s → list_in (ts ++ more) s ≡ list_in ts s
  list-more more s h =
      ap (take (s.end - s.start)) (drop-append-le s.start ts more (omega (arith, h.0, h.1.0)))
      ∙ take-append-le (s.end - s.start) (drop s.start ts) more (omega (arith, length-drop s.start ts, h.0, h.1.0))

  -- and so are all lists
  pub lists-more : (more : List NetToken) (spans : List Span) → AllByRecursion (IsSpan (length ts)) spans
      → map (list_in (ts ++ more)) spans ≡ map (list_in ts) spans
  lists-more more [] h = refl
  lists-more more (s ∷ ss) h = λ i. list-more more s h.0 i ∷ lists-more more ss h.1 i

  -- the list of the tokens that follow
  pub list-new : (own : List NetToken) (s : Span) → s.start ≡ length ts → s.end ≡ length (ts ++ own)
      → list_in (ts ++ own) s ≡ own
  list-new own s b e =
      let size : s.end - s.start ≡ length own = omega (arith, b, e, length-append ts own) in
      (λ i. take (size i) (drop (b i) (ts ++ own))) ∙ ap (take (length own)) (drop-append_seam ts own) ∙ take-length own

-- one list more
pub lists-next : (ts own : List NetToken) (spans : List Span) (s : Span) → AllByRecursion (IsSpan (length ts)) spans
    → s.start ≡ length ts → s.end ≡ length (ts ++ own)
    → map (list_in (ts ++ own)) (spans ++ s ∷ []) ≡ map (list_in ts) spans ++ own ∷ []
lists-next ts own spans s h b e =
    map-append (list_in (ts ++ own)) spans (s ∷ [])
    ∙ (λ i. lists-more ts own spans h i ++ (list-new ts own s b e i ∷ []))

-- it has its own tokens beside those of the others
pub count-next : (ls : List (List NetToken)) (l : List NetToken)
    → token_count (ls ++ l ∷ []) ≡ token_count ls + length l
count-next ls l =
    ap length (flat_map-append (λ k. k) ls (l ∷ []) ∙ ap (λ ks. flat_map (λ k. k) ls ++ ks) (append-nil l))
    ∙ length-append (flat_map (λ k. k) ls) l

-- a span is one where there are more tokens
pub spans-more : (few many : ℕ) (spans : List Span) → few ≤ many → AllByRecursion (IsSpan few) spans
    → AllByRecursion (IsSpan many) spans
spans-more few many [] m h = tt
spans-more few many (s ∷ ss) m h =
    ((h.0.0, (omega (arith, h.0.1.0, m), h.0.1.1)), spans-more few many ss m h.1)
