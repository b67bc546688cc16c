-- The numbers of the variables' last entries: when an entry is put on the stack, and when entries are taken back.
use Rattle.std.proofs.Common.{◌≡◌, ◌≢◌, ℕ, suc, ◌<◌, ◌≤◌, ◌+◌, ◌-◌, List, [], ◌∷◌, ◌++◌, length, take}
use Rattle.std.proofs.Common.{get_or, set, replicate, true, inl, inr, refl, ap, sym, ◌∙◌, subst, arith}
use Rattle.std.specs.Prelude.{Option, Some, None, nat_eq}
use Rattle.std.proofs.lemmas.Bool.{cases_lt}
use Rattle.std.proofs.lemmas.Bool.Decides.{eqb_tells, nat_tests}
use Rattle.std.proofs.lemmas.List.{take-take, take-append-le, length-take-le, length-append, length-set, get_or-take}
use Rattle.std.proofs.lemmas.List.{get_or-set_other, get_or-replicate, get_or_append_left, length-replicate}
use Rattle.std.proofs.lemmas.Grind.{get_or-set_at}
use Rattle.std.proofs.lemmas.Option.{slice_get_within, slice_get-get_or, get_or_from_slice_get}
use Rattle.std.proofs.Math.Seq.{take-suc, take-append_seam, get_or-append_seam}
use Rattle.mp_subst.specs.declared.trail.Entry.{Entry}
use Rattle.mp_subst.specs.TrailView.{last_place, last_number, AreLast, AreEarlier}
use Rattle.mp_subst.proofs.TrailLaws.{other_numbers}

-- the last entry of a variable, when an entry is put behind them
pub last_place-put : (es : List Entry) (e : Entry) → last_place (es ++ e ∷ []) e.var ≡ Some (length es)
last_place-put [] e = let same : nat_eq e.var e.var ≡ true = grind (arith, nat_tests) in rw same refl
last_place-put (d ∷ es) e =
    let more : length es + 1 ≡ suc (length es) = omega arith in rw (last_place-put es e) (ap Some more)

pub last_place-put_other : (es : List Entry) (e : Entry) (x : ℕ) → e.var ≢ x
    → last_place (es ++ e ∷ []) x ≡ last_place es x
last_place-put_other [] e x h = rw (other_numbers e.var x h) refl
last_place-put_other (d ∷ es) e x h = rw (last_place-put_other es e x h) refl

abbrev number_of : Option ℕ → ℕ
number_of o = elim o as (λ _. ℕ) [ None ↦ 0 | Some i ↦ i + 1 ]

-- a place is told by its number
place_of-zero : (o : Option ℕ) → number_of o ≡ 0 → o ≡ None
place_of-zero None h = refl
place_of-zero (Some i) h = let wrong : i + 1 ≡ 0 = h in absurd (omega (arith, wrong))

place_of-number : (o : Option ℕ) (n : ℕ) → number_of o ≡ n → n ≢ 0 → o ≡ Some (n - 1)
place_of-number None n h k = absurd (k (sym h))
place_of-number (Some i) n h k = let next : i + 1 ≡ n = h in let same : i ≡ n - 1 = omega (arith, next) in ap Some same

pub last_place-zero : (es : List Entry) (x : ℕ) → last_number es x ≡ 0 → last_place es x ≡ None
last_place-zero es x h = place_of-zero (last_place es x) h

pub last_place-number : (es : List Entry) (x n : ℕ) → last_number es x ≡ n → n ≢ 0 → last_place es x ≡ Some (n - 1)
last_place-number es x n h k = place_of-number (last_place es x) n h k

-- an entry at the end has the number of its variable
pub are_last-put : (ns : List ℕ) (es : List Entry) (e : Entry) (n : ℕ) → n ≡ length es + 1 → AreLast ns es
    → AreLast (set ns e.var n) (es ++ e ∷ [])
are_last-put ns es e n p h x l =
    let below : x < length ns = omega (arith, l, length-set ns e.var n) in
    elim (eqb_tells e.var x) [
      | inl k ↦
          subst (λ y. get_or (set ns e.var n) y 0 ≡ last_number (es ++ e ∷ []) y) k.1
          (get_or-set_at ns e.var e.var n 0 refl (omega (arith, below, k.1)) ∙ p
          ∙ sym (ap number_of (last_place-put es e)))
      | inr k ↦
          get_or-set_other ns e.var x n 0 (λ q. k.1 (sym q)) ∙ h x below
          ∙ sym (ap number_of (last_place-put_other es e x k.1))
    ]

-- what an entry tells of those before it
earlier_at : (n : ℕ) (es : List Entry) (i : ℕ) (d : Entry) → AreEarlier n es → i < length es
    → (get_or es i d).var < n → (get_or es i d).earlier ≡ last_number (take i es) (get_or es i d).var
earlier_at n es i d h l v = h i (get_or es i d) (slice_get-get_or es i d l) v

-- the last entry is taken back
pub are_last-back : (ns : List ℕ) (es : List Entry) (i : ℕ) (d : Entry) → i < length es → AreLast ns (take (i + 1) es)
    → AreEarlier (length ns) es → AreLast (set ns (get_or es i d).var (get_or es i d).earlier) (take i es)
are_last-back ns es i d l h f x k =
    let e = get_or es i d in
    let more : i + 1 ≡ suc i = omega arith in
    let split : take (i + 1) es ≡ take i es ++ e ∷ [] = ap (λ m. take m es) more ∙ take-suc es i d l in
    let below : x < length ns = omega (arith, k, length-set ns e.var e.earlier) in
    elim (eqb_tells e.var x) [
      | inl q ↦
          subst (λ y. get_or (set ns e.var e.earlier) y 0 ≡ last_number (take i es) y) q.1
          (get_or-set_at ns e.var e.var e.earlier 0 refl (omega (arith, below, q.1))
          ∙ earlier_at (length ns) es i d f l (omega (arith, below, q.1)))
      | inr q ↦
          get_or-set_other ns e.var x e.earlier 0 (λ p. q.1 (sym p)) ∙ h x below
          ∙ ap (λ ds. last_number ds x) split ∙ ap number_of (last_place-put_other (take i es) e x q.1)
    ]

-- an entry more
pub are_earlier-put : (n : ℕ) (es : List Entry) (e : Entry) → AreEarlier n es
    → (e.var < n → e.earlier ≡ last_number es e.var) → AreEarlier n (es ++ e ∷ [])
are_earlier-put n es e h own i d at v =
    let within : i < length (es ++ e ∷ []) = slice_get_within (es ++ e ∷ []) i d at in
    let got : get_or (es ++ e ∷ []) i d ≡ d = get_or_from_slice_get (es ++ e ∷ []) i d d at in
    elim (cases_lt i (length es)) [
      | inl l ↦
          let same : get_or es i d ≡ d = sym (get_or_append_left es (e ∷ []) d i l) ∙ got in
          h i d (slice_get-get_or es i d l ∙ ap Some same) v
          ∙ ap (λ ds. last_number ds d.var) (sym (take-append-le i es (e ∷ []) (omega (arith, l))))
      | inr l ↦
          let end : i ≡ length es = omega (arith, l, within, length-append es (e ∷ [])) in
          let same : e ≡ d =
          sym (get_or-append_seam es e [] d) ∙ sym (ap (λ m. get_or (es ++ e ∷ []) m d) end) ∙ got in
          subst (λ c. c.earlier ≡ last_number (take i (es ++ e ∷ [])) c.var) same
          (own (subst (λ c. c.var < n) (sym same) v)
          ∙ ap (λ ds. last_number ds e.var) (sym (ap (λ m. take m (es ++ e ∷ [])) end
          ∙ take-append_seam es (e ∷ []))))
    ]

-- both, when an entry is put behind the others
pub numbers-put : (ns ms : List ℕ) (es : List Entry) (e : Entry) (n : ℕ) → n ≡ length es + 1 → ms ≡ set ns e.var n
    → e.earlier ≡ get_or ns e.var 0 → AreLast ns es → AreEarlier (length ns) es
    → AreLast ms (es ++ e ∷ []) × AreEarlier (length ms) (es ++ e ∷ [])
numbers-put ns ms es e n p is q l f = (
  subst (λ ks. AreLast ks (es ++ e ∷ [])) (sym is) (are_last-put ns es e n p l),
  subst (λ k. AreEarlier k (es ++ e ∷ [])) (sym (ap length is ∙ length-set ns e.var n))
      (are_earlier-put (length ns) es e f (λ v. q ∙ l e.var v)),
)

-- the first entries
pub are_earlier-take : (n : ℕ) (es : List Entry) (m : ℕ) → m ≤ length es → AreEarlier n es → AreEarlier n (take m es)
are_earlier-take n es m k h i d at v =
    let within : i < length (take m es) = slice_get_within (take m es) i d at in
    let front : i < m = omega (arith, within, length-take-le m es k) in
    let same : get_or es i d ≡ d =
    sym (get_or-take m es i d front) ∙ get_or_from_slice_get (take m es) i d d at in
    h i d (slice_get-get_or es i d (omega (arith, front, k)) ∙ ap Some same) v
    ∙ ap (λ ds. last_number ds d.var) (sym (take-take i m es (omega (arith, front))))

-- no entry
pub are_last-none : (n : ℕ) → AreLast (replicate n 0) []
are_last-none n x h = get_or-replicate n x 0 0 (omega (arith, h, length-replicate {A = ℕ} n 0))

pub are_earlier-none : (n : ℕ) → AreEarlier n []
are_earlier-none n i e at v = cc
