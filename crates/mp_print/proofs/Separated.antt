-- Texts with a separator between them, as a loop puts them, and the text of an application.
use Rattle.std.proofs.Common.{◌≡◌, Bool, true, false, Option, None, append_assoc, append-nil, ℕ, ◌+◌, ◌-◌, ◌<◌, ◌≤◌}
use Rattle.std.proofs.Common.{List, [], ◌∷◌, ◌++◌, map, length, take, drop, get_or, Some, refl, ap, sym, ◌∙◌, subst}
use Rattle.std.proofs.Common.{arith}
use Rattle.std.specs.Prelude.{nat_le, if◌then◌else◌, codes}
use Rattle.std.proofs.lemmas.List.{length-map, length-take-le, map-append, take-map, take_all, take_more}
use Rattle.mp_io.specs.Devices.{Text}
use Rattle.mp_io.specs.Writing.{Puts}
use Rattle.mp_io.specs.declared.devices.Sink.{Ghosts as SinkWords}
use Rattle.mp_io.specs.declared.writer.Writer.{Writer}
use Rattle.mp_io.proofs.WritingLaws.{Puts-then}
use Rattle.mp_io.specs.Printing.{gap_text}
use Rattle.mp_term.specs.declared.signature.OpDecl.{OpDecl}
use Rattle.mp_print.specs.Printing.{separated, preceded, prefix_text, infix_text, application_text}
use Rattle.mp_print.specs.Printing.{front_text, separator_text, held_text}

-- texts behind the separator, and one more behind them
preceded-push : (separator : Text) (texts : List Text) (text : Text)
    → preceded separator (texts ++ text ∷ []) ≡ preceded separator texts ++ (separator ++ text)
preceded-push separator [] text = ap (λ l. separator ++ l) (append-nil text)
preceded-push separator (next ∷ texts) text =
    ap (λ l. separator ++ (next ++ l)) (preceded-push separator texts text)
    ∙ ap (λ l. separator ++ l) (sym (append_assoc next (preceded separator texts) (separator ++ text)))
    ∙ sym (append_assoc separator (next ++ preceded separator texts) (separator ++ text))

-- the texts and one more behind them
separated-push : (separator : Text) (texts : List Text) (text : Text)
    → separated separator (texts ++ text ∷ [])
    ≡ separated separator texts ++ (gap_text separator (length texts) ++ text)
separated-push separator [] text = append-nil text
separated-push separator (first ∷ texts) text = ap (λ l. first ++ l) (preceded-push separator texts text)
    ∙ sym (append_assoc first (preceded separator texts) (separator ++ text))

-- what stands behind items and one more is a separator
pub gap_text-pushed : {X : Type 0} (separator : Text) (xs : List X) (x : X)
    → gap_text separator (length (xs ++ x ∷ [])) ≡ separator
gap_text-pushed separator [] x = refl
gap_text-pushed separator (y ∷ xs) x = refl

-- texts are put, then what stands behind them, and then one more
pub Puts-pushed : {K : Type 0} (words : SinkWords K) (separator : Text) (texts : List Text) (text : Text)
    (t u v w : Writer K) → Puts words t u (separated separator texts)
    → Puts words u v (gap_text separator (length texts)) → Puts words v w text
    → Puts words t w (separated separator (texts ++ text ∷ []))
Puts-pushed words separator texts text t u v w before gap item =
    subst (Puts words t w) (sym (separated-push separator texts text))
    (Puts-then words t u w (separated separator texts) (gap_text separator (length texts) ++ text) before
    (Puts-then words u v w (gap_text separator (length texts)) text gap item))

module _ {K X : Type 0} (words : SinkWords K) (f : X → Text) (separator : Text) (xs : List X) (texts : List Text)
    (same : map f xs ≡ texts) where
  -- the texts before the next index
  take-next : (i : ℕ) (x : X) → i < length xs → x ≡ get_or xs i x → take (i + 1) texts ≡ take i texts ++ f x ∷ []
  take-next i x within is = ap (take (i + 1)) (sym same) ∙ take-map f (i + 1) xs
      ∙ ap (map f) (take_more xs i x within ∙ ap (λ y. take i xs ++ y ∷ []) (sym is))
      ∙ map-append f (take i xs) (x ∷ []) ∙ ap (λ l. l ++ f x ∷ []) (sym (take-map f i xs) ∙ ap (take i) same)

  -- they, with the separator between each two
  separated-next : (i : ℕ) (x : X) → i < length xs → x ≡ get_or xs i x
      → separated separator (take (i + 1) texts) ≡ separated separator (take i texts) ++ (gap_text separator i ++ f x)
  separated-next i x within is =
      let count : length (take i texts) ≡ i = length-take-le i texts (omega (arith, ap length same, length-map xs f)) in
      ap (separated separator) (take-next i x within is) ∙ separated-push separator (take i texts) (f x)
      ∙ ap (λ n. separated separator (take i texts) ++ (gap_text separator n ++ f x)) count

  -- they, each behind the separator
  pub preceded-next : (i : ℕ) (x : X) → i < length xs → x ≡ get_or xs i x
      → preceded separator (take (i + 1) texts) ≡ preceded separator (take i texts) ++ (separator ++ f x)
  preceded-next i x within is =
      ap (preceded separator) (take-next i x within is) ∙ preceded-push separator (take i texts) (f x)

  -- the texts of the items before an index are put, then a gap, and then the text of the item there
  pub Puts-separated : (i : ℕ) (x : X) → i < length xs → x ≡ get_or xs i x → (t u v w : Writer K)
      → Puts words t u (separated separator (take i texts)) → Puts words u v (gap_text separator i)
      → Puts words v w (f x) → Puts words t w (separated separator (take (i + 1) texts))
  Puts-separated i x within is t u v w before gap item =
      subst (Puts words t w) (sym (separated-next i x within is))
      (Puts-then words t u w (separated separator (take i texts)) (gap_text separator i ++ f x) before
      (Puts-then words u v w (gap_text separator i) (f x) gap item))

  -- the text of the first item, and those of the others, each behind the separator
  pub separated-first : (d : X) → 1 ≤ length xs
      → separated separator texts
      ≡ f (get_or xs 0 d) ++ preceded separator (map f (take (length xs - 1) (drop 1 xs)))
  separated-first d some = sym (go xs some ∙ ap (separated separator) same)
    where
      go : (xs : List X) → 1 ≤ length xs
          → f (get_or xs 0 d) ++ preceded separator (map f (take (length xs - 1) (drop 1 xs)))
          ≡ separated separator (map f xs)
      go [] h = absurd (omega arith)
      go (x ∷ xs) h =
          ap (λ l. f x ++ preceded separator (map f l)) (take_all (length (x ∷ xs) - 1) xs (omega arith))

  -- the texts of all items are put
  pub Puts-all : (i : ℕ) → length xs ≤ i → (t u : Writer K) → Puts words t u (separated separator (take i texts))
      → Puts words t u (separated separator texts)
  Puts-all i past t u put = subst (λ l. Puts words t u (separated separator l))
      (take_all i texts (omega (arith, ap length same, length-map xs f))) put

-- what stands before the arguments of an application, they with what stands between them, and a bracket
pub application_text-parts : {X : Type 0} (f : X → Text) (d : OpDecl) (sign : Option Text) (items : List X) (n : ℕ)
    → n ≡ length items
    → application_text d sign (map f items) ≡ front_text d sign n
    ++ (separated (separator_text sign n) (map f items) ++ codes ")")
application_text-parts f d None items n same =
    sym (append_assoc d.name (codes "(") (separated (codes ", ") (map f items) ++ codes ")"))
application_text-parts f d (Some sign) items n same =
    ap (λ k. if nat_le 2 k then infix_text sign (map f items) else prefix_text d (map f items))
    (length-map items f ∙ sym same) ∙ go (nat_le 2 n)
  where
    go : (b : Bool) → (if b then infix_text sign (map f items) else prefix_text d (map f items))
        ≡ (if b then codes "(" else d.name ++ codes "(")
        ++ (separated (if b then codes " " ++ (sign ++ (codes " " ++ [])) else codes ", ")
        (map f items) ++ codes ")")
    go true = refl
    go false = sym (append_assoc d.name (codes "(") (separated (codes ", ") (map f items) ++ codes ")"))

-- an application of an operation that is held: what stands before its arguments is put, then they with what stands
-- between them, and then a bracket
pub Puts-application : {K X : Type 0} (words : SinkWords K) (f : X → Text) (xs : List X) (held : Option OpDecl)
    (d : OpDecl) (text separator : Text) (i : ℕ)
    → text ≡ held_text held (map f xs) → held ≡ Some d → separator ≡ separator_text d.sign (length xs) → length xs ≤ i
    → (s t u v w : Writer K)
    → Puts words s t [] → Puts words t u (front_text d d.sign (length xs))
    → Puts words u v (separated separator (take i (map f xs))) → Puts words v w (codes ")") → Puts words s w text
Puts-application words f xs held d text separator i is is_held between past s t u v w none front items bracket =
    let parts : text ≡ front_text d d.sign (length xs) ++ (separated separator (map f xs) ++ codes ")") =
    is ∙ ap (λ o. held_text o (map f xs)) is_held ∙ application_text-parts f d d.sign xs (length xs) refl
    ∙ ap (λ l. front_text d d.sign (length xs) ++ (separated l (map f xs) ++ codes ")")) (sym between) in
    let all = Puts-all words f separator xs (map f xs) refl i past u v items in
    subst (Puts words s w) (sym parts)
    (Puts-then words s t w [] _ none
    (Puts-then words t u w _ _ front
    (Puts-then words u v w (separated separator (map f xs)) (codes ")") all bracket)))
