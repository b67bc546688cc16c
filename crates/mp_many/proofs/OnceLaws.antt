-- No prefix stands twice, and no rule is accepted twice.
use Rattle.std.proofs.Common.{◌≡◌, ℕ, zero, suc, List, [], ◌∷◌, map, true, false, refl, ap, sym}
use Rattle.std.proofs.Common.{◌∙◌}
use Rattle.std.proofs.Common.{inl, inr, subst, arith}
use Rattle.std.specs.Prelude.{if◌then◌else◌, flat_map}
use Rattle.std.specs.List.{AllByRecursion}
use Rattle.mp_term.specs.Listing.{In}
use Rattle.mp_term.proofs.ListingLaws.{all_in}
use Rattle.mp_term.proofs.SearchLaws.{from_in-map, from_in-flat}
use Rattle.mp_pattern.specs.NetTokens.{NetToken, same_token}
use Rattle.mp_pattern.specs.NetTokenLaws.{same_token-itself}
use Rattle.mp_theory.proofs.FirstsLaws.{Distinct, distinct-firsts}
use Rattle.mp_ac.specs.CommItems.{NoneTwice}
use Rattle.mp_walk.specs.Walkable.{Path}
use Rattle.mp_walk.proofs.ForestLaws.{none-append, none-mapped}
use Rattle.mp_many.specs.Prefixes.{head_of, heads, rests, prefixes_within, same_tokens, accepted_by}
use Rattle.mp_many.specs.Laid.{numbered_from}
use Rattle.mp_many.proofs.LaidLaws.{bare-numbered}
use Rattle.mp_many.proofs.StateLaws.{full-prefixes}
use Rattle.mp_many.proofs.WalkableLaws.{none-accepted}

-- what parts that have nothing in common give stands once
pub none-flat : {X Y : Type 0} (f : X → List Y) (xs : List X) → NoneTwice xs
    → ((x : X) → In x xs → NoneTwice (f x))
    → ((x y : X) (z : Y) → In x xs → In y xs → In z (f x) → In z (f y) → x ≡ y) → NoneTwice (flat_map f xs)
none-flat f [] once each apart = tt
none-flat f (x ∷ xs) once each apart =
    none-append (f x) (flat_map f xs) (each x (inl refl))
    (none-flat f xs once.1 (λ y i. each y (inr i)) (λ y z w i j. apart y z w (inr i) (inr j)))
    (λ z i j. let a = from_in-flat f z xs j in
    once.0 (subst (λ w. In w xs) (sym (apart x a.0 z (inl refl) (inr a.1) i a.2)) a.1))

-- ---- prefixes

distinct-once : (ks : List NetToken) → Distinct same_token ks → NoneTwice ks
distinct-once [] d = tt
distinct-once (k ∷ ks) d = (
  (λ i. let f = all_in (λ j. same_token k j ≡ false) ks k d.0 i in let g = same_token-itself k in
      (let h : true ≡ false = sym g ∙ f in cc)),
  distinct-once ks d.1,
)

-- the prefixes that begin with k
abbrev part : ℕ → List Path → NetToken → List Path
part d ls k = (k ∷ []) ∷ map (λ q. k ∷ q) (prefixes_within d (rests k ls))

full : (d : ℕ) (ls : List Path) → AllByRecursion (λ q. same_tokens q [] ≡ false) (prefixes_within d ls)
full d ls = subst (λ ms. AllByRecursion (λ q. same_tokens q [] ≡ false) (prefixes_within d ms)) (bare-numbered 0 ls)
    (full-prefixes d (numbered_from 0 ls))

begins : (d : ℕ) (ls : List Path) (k : NetToken) (z : Path) → In z (part d ls k) → (q : Path) × (z ≡ k ∷ q)
begins d ls k z (inl e) = ([], e)
begins d ls k z (inr i) = let a = from_in-map (λ q. k ∷ q) z (prefixes_within d (rests k ls)) i in (a.0, a.1)

once-part : (d : ℕ) (ls : List Path) (k : NetToken) → NoneTwice (prefixes_within d (rests k ls))
    → NoneTwice (part d ls k)
once-part d ls k once = (
  (λ i. let a = from_in-map (λ q. k ∷ q) (k ∷ []) (prefixes_within d (rests k ls)) i in
      let e : a.0 ≡ [] = let w : k ∷ [] ≡ k ∷ a.0 = a.1 in cc in
      let f = all_in (λ q. same_tokens q [] ≡ false) (prefixes_within d (rests k ls)) a.0 (full d (rests k ls)) a.2 in
      (let h : true ≡ false = ap (λ q. same_tokens q []) (sym e) ∙ f in cc)),
  none-mapped (λ q. k ∷ q) (prefixes_within d (rests k ls))
      (λ p q e. let h : p ≡ q = let w : k ∷ p ≡ k ∷ q = e in cc in h) once,
)

-- no prefix stands twice
pub prefixes-once : (d : ℕ) (ls : List Path) → NoneTwice (prefixes_within d ls)
prefixes-once zero ls = tt
prefixes-once (suc d) ls =
    none-flat (part d ls) (heads ls)
    (distinct-once (heads ls) (distinct-firsts same_token [] (flat_map head_of ls) tt))
    (λ k i. once-part d ls k (prefixes-once d (rests k ls)))
    (λ j k z a b g h.
    let p = begins d ls j z g in
    let q = begins d ls k z h in
    let e : j ∷ p.0 ≡ k ∷ q.0 = sym p.1 ∙ q.1 in
    (let f : j ≡ k = cc in f))

-- nor is a prefix empty
pub prefixes-full : (d : ℕ) (ls : List Path) → In [] (prefixes_within d ls) → ⊥
prefixes-full d ls i =
    let f = all_in (λ q. same_tokens q [] ≡ false) (prefixes_within d ls) [] (full d ls) i in
    (let h : true ≡ false = f in cc)

-- ---- accepted lists

pub accepted-once : (m : ℕ) (ls : List Path) (p : Path) → NoneTwice (accepted_by m ls p)
accepted-once m [] p = tt
accepted-once m (l ∷ ls) p =
    elim (same_tokens l p) as (λ b. NoneTwice (if b then m ∷ accepted_by (suc m) ls p else accepted_by (suc m) ls p)) [
      | true ↦ (none-accepted (suc m) ls p m (omega arith), accepted-once (suc m) ls p)
      | false ↦ accepted-once (suc m) ls p
    ]
