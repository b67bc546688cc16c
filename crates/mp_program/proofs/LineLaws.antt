-- Lines of texts.
use Rattle.std.proofs.Common.{◌≡◌, ◌≢◌, List, [], ◌∷◌, ◌++◌, map, Bool, true, false, refl, sym, ap, ◌∙◌}
use Rattle.std.proofs.Common.{append_assoc}
use Rattle.std.specs.Prelude.{nat_eq, if◌then◌else◌}
use Rattle.std.specs.List.{AllByRecursion, flat_map, list_any}
use Rattle.std.proofs.lemmas.Bool.{eqb-true, or_parts}
use Rattle.mp_io.specs.Devices.{Text}
use Rattle.mp_program.specs.FormText.{begin_line_with, lines_of, lines_text}

-- lines and further lines
pub lines_text-append : (ls ms : List Text) → lines_text (ls ++ ms) ≡ lines_text ls ++ lines_text ms
lines_text-append [] ms = refl
lines_text-append (l ∷ ls) ms = ap (λ t. (l ++ 10 ∷ []) ++ t) (lines_text-append ls ms)
    ∙ sym (append_assoc (l ++ 10 ∷ []) (lines_text ls) (lines_text ms))

-- the lines of items
pub lines_text-map : {X : Type 0} (f : X → Text) (xs : List X)
    → lines_text (map f xs) ≡ flat_map (λ x. f x ++ 10 ∷ []) xs
lines_text-map f [] = refl
lines_text-map f (x ∷ xs) = ap (λ t. (f x ++ 10 ∷ []) ++ t) (lines_text-map f xs)

-- the lines of a text that has a line feed
pub lines_text-ended : (u rest : Text) → lines_text (lines_of (u ++ 10 ∷ rest)) ≡ u ++ 10 ∷ lines_text (lines_of rest)
lines_text-ended [] rest = refl
lines_text-ended (b ∷ u) rest = go (nat_eq b 10) refl (lines_of (u ++ 10 ∷ rest)) (lines_text-ended u rest)
  where
    go : (same : Bool) → nat_eq b 10 ≡ same → (ls : List Text) → lines_text ls ≡ u ++ 10 ∷ lines_text (lines_of rest)
        → lines_text (if same then [] ∷ ls else begin_line_with b ls) ≡ b ∷ (u ++ 10 ∷ lines_text (lines_of rest))
    go true same ls h = let is = eqb-true b 10 same in cc
    go false other [] h = absurd (none u h)
      where
        none : (u : Text) → [] ≡ u ++ 10 ∷ lines_text (lines_of rest) → ⊥
        none [] e = cc
        none (c ∷ u) e = cc
    go false other (l ∷ ls) h = ap (λ t. b ∷ t) h

-- the lines of a text that goes on behind a line feed
lines_of-ended : (u rest : Text) → lines_of (u ++ 10 ∷ rest) ≡ lines_of (u ++ 10 ∷ []) ++ lines_of rest
lines_of-ended [] rest = refl
lines_of-ended (b ∷ u) rest =
    go (nat_eq b 10) (lines_of (u ++ 10 ∷ rest)) (lines_of (u ++ 10 ∷ [])) (lines_of-ended u rest) (some u)
  where
    some : (u : Text) → lines_of (u ++ 10 ∷ []) ≢ []
    some [] e = cc
    some (c ∷ u) e = by_byte (nat_eq c 10) (lines_of (u ++ 10 ∷ [])) e (some u)
      where
        by_byte : (v : Bool) (ls : List Text) → (if v then [] ∷ ls else begin_line_with c ls) ≡ [] → ls ≢ [] → ⊥
        by_byte true ls e h = cc
        by_byte false [] e h = h refl
        by_byte false (l ∷ ls) e h = cc

    go : (v : Bool) (ls ms : List Text) → ls ≡ ms ++ lines_of rest → ms ≢ []
        → (if v then [] ∷ ls else begin_line_with b ls) ≡ (if v then [] ∷ ms else begin_line_with b ms) ++ lines_of rest
    go true ls ms e h = ap (λ l. [] ∷ l) e
    go false ls [] e h = absurd (h refl)
    go false ls (m ∷ ms) e h = ap (begin_line_with b) e

-- a text whose last byte is a line feed
abbrev pub Ended : Text → Type 0
Ended t = (u : Text) × (t ≡ u ++ 10 ∷ [])

-- a text that ends so does with more in front
pub Ended-append : (s t : Text) → Ended t → Ended (s ++ t)
Ended-append s t h = (s ++ h.0, ap (λ l. s ++ l) h.1 ∙ sym (append_assoc s h.0 (10 ∷ [])))

-- such texts one after another are their lines
pub lines_text-lines_of : {X : Type 0} (f : X → Text) (xs : List X) → ((x : X) → Ended (f x))
    → lines_text (lines_of (flat_map f xs)) ≡ flat_map f xs
lines_text-lines_of f [] ended = refl
lines_text-lines_of f (x ∷ xs) ended =
    let u = (ended x).0 in
    let whole : f x ++ flat_map f xs ≡ u ++ 10 ∷ flat_map f xs =
    ap (λ l. l ++ flat_map f xs) (ended x).1 ∙ append_assoc u (10 ∷ []) (flat_map f xs) in
    ap (λ t. lines_text (lines_of t)) whole ∙ lines_text-ended u (flat_map f xs)
    ∙ ap (λ t. u ++ 10 ∷ t) (lines_text-lines_of f xs ended) ∙ sym whole

-- the lines of such texts and of what stands behind them
pub lines_of-append : {X : Type 0} (f : X → Text) (xs : List X) (rest : Text) → ((x : X) → Ended (f x))
    → lines_of (flat_map f xs ++ rest) ≡ lines_of (flat_map f xs) ++ lines_of rest
lines_of-append f [] rest ended = refl
lines_of-append f (x ∷ xs) rest ended =
    let u = (ended x).0 in
    let all = flat_map f xs in
    let whole : (t : Text) → f x ++ t ≡ u ++ 10 ∷ t =
    λ t. ap (λ l. l ++ t) (ended x).1 ∙ append_assoc u (10 ∷ []) t in
    ap lines_of (append_assoc (f x) all rest ∙ whole (all ++ rest)) ∙ lines_of-ended u (all ++ rest)
    ∙ ap (λ l. lines_of (u ++ 10 ∷ []) ++ l) (lines_of-append f xs rest ended)
    ∙ sym (append_assoc (lines_of (u ++ 10 ∷ [])) (lines_of all) (lines_of rest))
    ∙ ap (λ l. l ++ lines_of rest) (sym (lines_of-ended u all) ∙ ap lines_of (sym (whole all)))

-- ---- texts of one line

-- the text has no line feed
abbrev pub IsOneLine : Text → Type 0
IsOneLine t = list_any (λ c. nat_eq c 10) t ≡ false

-- a line without a line feed is read again
pub lines_of-line : (l t : Text) → IsOneLine l → lines_of ((l ++ 10 ∷ []) ++ t) ≡ l ∷ lines_of t
lines_of-line [] t h = refl
lines_of-line (b ∷ l) t h =
    let both = or_parts (nat_eq b 10) (list_any (λ c. nat_eq c 10) l) h in
    ap (λ v. if v then [] ∷ lines_of ((l ++ 10 ∷ []) ++ t) else begin_line_with b (lines_of ((l ++ 10 ∷ []) ++ t)))
    both.0 ∙ ap (begin_line_with b) (lines_of-line l t both.1)

-- and so are all
pub lines_of-lines_text : (ls : List Text) → AllByRecursion IsOneLine ls → lines_of (lines_text ls) ≡ ls
lines_of-lines_text [] h = refl
lines_of-lines_text (l ∷ ls) h =
    lines_of-line l (lines_text ls) h.0 ∙ ap (λ ms. l ∷ ms) (lines_of-lines_text ls h.1)

-- the lines of a text are such
pub line-lines_of : (t : Text) → AllByRecursion IsOneLine (lines_of t)
line-lines_of [] = tt
line-lines_of (b ∷ t) = by_byte (nat_eq b 10) refl (lines_of t) (line-lines_of t)
  where
    by_byte : (v : Bool) → nat_eq b 10 ≡ v → (ls : List Text) → AllByRecursion IsOneLine ls
        → AllByRecursion IsOneLine (if v then [] ∷ ls else begin_line_with b ls)
    by_byte true e ls h = (refl, h)
    by_byte false e [] h = tt
    by_byte false e (l ∷ ls) h = (rw (e, h.0) refl, h.1)
