-- Each variable of a plan has a number of its own in the trail.
use Rattle.std.proofs.Common.{◌≡◌, ℕ, zero, suc, ◌+◌, List, [], ◌∷◌, ◌++◌, map, true, false}
use Rattle.std.proofs.Common.{nat_eq, refl}
use Rattle.std.proofs.Common.{ap, sym, ◌∙◌, arith, subst, inl, inr, eqb-true, eq-eqb}
use Rattle.std.specs.Prelude.{Option, Some, None, slice_get, position, option_map, ◌||◌, if◌then◌else◌}
use Rattle.std.proofs.Math.Bool.{or-true}
use Rattle.mp_term.specs.Listing.{In}
use Rattle.mp_term.proofs.SearchLaws.{from_in-append}
use Rattle.mp_term.proofs.SignatureLaws.{position-first, position-behind}
use Rattle.mp_term.proofs.ListLaws.{all-get}
use Rattle.mp_pattern.specs.PatternTree.{Wildcard, Pattern, symbol_pattern, app_pattern, wild_pattern, Patterns}
use Rattle.mp_pattern.specs.PatternTree.{no_patterns}
use Rattle.mp_pattern.specs.PatternTree.{more_patterns}
use Rattle.mp_pattern.specs.Subpatterns.{subpatterns, all_subpatterns}
use Rattle.mp_pattern.specs.Firsts.{is_known, add_new, firsts_after}
use Rattle.mp_pattern.specs.Value.{same_name}
use Rattle.mp_pattern.specs.Variables.{Use, uses, all_uses, variables}
use Rattle.mp_pattern.specs.Plan.{Variable}
use Rattle.mp_pattern.proofs.NameLaws.{same_name-is, same_name-itself}
use Rattle.mp_theory.proofs.FirstsLaws.{Distinct, distinct-firsts}
use Rattle.mp_search.specs.Reading.{name_among}

-- an item at a place is one of the list
pub in-slice_get : {X : Type 0} (xs : List X) (i : ℕ) (x : X) → slice_get xs i ≡ Some x → In x xs
in-slice_get [] i x e = cc
in-slice_get (y ∷ xs) zero x e = let k : y ≡ x = cc in inl (sym k)
in-slice_get (y ∷ xs) (suc i) x e = inr (in-slice_get xs i x e)

-- the names of the uses
abbrev pub names : List Use → List (List ℕ)
names us = map (λ u. u.name) us

pub in-names : (x : List ℕ) (us vs : List Use) → In x (names us) → In x (names (us ++ vs))
in-names x [] vs h = absurd h
in-names x (u ∷ us) vs (inl e) = inl e
in-names x (u ∷ us) vs (inr i) = inr (in-names x us vs i)

pub in-names_right : (x : List ℕ) (us vs : List Use) → In x (names vs) → In x (names (us ++ vs))
in-names_right x [] vs h = h
in-names_right x (u ∷ us) vs h = inr (in-names_right x us vs h)

-- the variable of a wildcard is one of the pattern
module _ (w : Wildcard) (x : List ℕ) where
  mutual
    use-named : (f : Option ℕ) (p : Pattern) → In (wild_pattern w (Some x)) (subpatterns p) → In x (names (uses f p))
    use-named f (symbol_pattern n) (inl e) = cc
    use-named f (symbol_pattern n) (inr i) = absurd i
    use-named f (app_pattern g ps) (inl e) = cc
    use-named f (app_pattern g ps) (inr i) = all_use-named (Some g) ps i
    use-named f (wild_pattern v None) (inl e) = cc
    use-named f (wild_pattern v None) (inr i) = absurd i
    use-named f (wild_pattern v (Some y)) (inl e) = let k : x ≡ y = cc in inl k
    use-named f (wild_pattern v (Some y)) (inr i) = absurd i

    all_use-named : (f : Option ℕ) (ps : Patterns) → In (wild_pattern w (Some x)) (all_subpatterns ps)
        → In x (names (all_uses f ps))
    all_use-named f no_patterns i = absurd i
    all_use-named f (more_patterns p ps) i =
        elim (from_in-append (wild_pattern w (Some x)) (subpatterns p) (all_subpatterns ps) i) [
          | inl j ↦ in-names x (uses f p) (all_uses f ps) (use-named f p j)
          | inr j ↦ in-names_right x (uses f p) (all_uses f ps) (all_use-named f ps j)
        ]

-- what is known stays known
known-more : (ys zs : List (List ℕ)) (x : List ℕ) → is_known same_name ys x ≡ true
    → is_known same_name (ys ++ zs) x ≡ true
known-more [] zs x e = cc
known-more (y ∷ ys) zs x e = elim (same_name y x) as (λ b. (b || is_known same_name ys x) ≡ true
    → (b || is_known same_name (ys ++ zs) x) ≡ true) [ true ↦ λ k. refl | false ↦ known-more ys zs x ] e

known-last : (ys : List (List ℕ)) (x : List ℕ) → is_known same_name (ys ++ x ∷ []) x ≡ true
known-last [] x = rw (same_name-itself x) refl
known-last (y ∷ ys) x = ap (λ b. same_name y x || b) (known-last ys x) ∙ or-true (same_name y x)

known-added : (ys : List (List ℕ)) (x : List ℕ) → is_known same_name (add_new same_name ys x) x ≡ true
known-added ys x =
    elim (is_known same_name ys x) as (λ b. is_known same_name ys x ≡ b
    → is_known same_name (if b then ys else ys ++ (x ∷ [])) x ≡ true)
    [ true ↦ λ e. e | false ↦ λ e. known-last ys x ] refl

known-add : (ys : List (List ℕ)) (y x : List ℕ) → is_known same_name ys x ≡ true
    → is_known same_name (add_new same_name ys y) x ≡ true
known-add ys y x e =
    elim (is_known same_name ys y) as (λ b. is_known same_name (if b then ys else ys ++ (y ∷ [])) x ≡ true)
    [ true ↦ e | false ↦ known-more ys (y ∷ []) x e ]

known-kept : (ys xs : List (List ℕ)) (x : List ℕ) → is_known same_name ys x ≡ true
    → is_known same_name (firsts_after same_name ys xs) x ≡ true
known-kept ys [] x e = e
known-kept ys (y ∷ xs) x e = known-kept (add_new same_name ys y) xs x (known-add ys y x e)

known-in : (ys xs : List (List ℕ)) (x : List ℕ) → In x xs → is_known same_name (firsts_after same_name ys xs) x ≡ true
known-in ys [] x h = absurd h
known-in ys (y ∷ xs) x (inl e) =
    subst (λ z. is_known same_name (firsts_after same_name (add_new same_name ys z) xs) x ≡ true)
    e (known-kept (add_new same_name ys x) xs x (known-added ys x))
known-in ys (y ∷ xs) x (inr i) = known-in (add_new same_name ys y) xs x i

-- the place of a name that is known
pub same-swapped : (x y : List ℕ) → same_name x y ≡ false → same_name y x ≡ false
same-swapped x y k = elim (same_name y x) as (λ b. same_name y x ≡ b → b ≡ false) [
  | true ↦ λ l.
      let i : y ≡ x = same_name-is y x l in
      let j : same_name x y ≡ true = subst (λ z. same_name x z ≡ true) (sym i) (same_name-itself x) in cc
  | false ↦ λ l. refl
] refl

known-place : (ys : List (List ℕ)) (x : List ℕ) → is_known same_name ys x ≡ true
    → (i : ℕ) × (position (same_name x) ys ≡ Some i) × (slice_get ys i ≡ Some x)
known-place [] x e = cc
known-place (y ∷ ys) x e = elim (same_name x y) as (λ b. same_name x y ≡ b
    → (i : ℕ) × (position (same_name x) (y ∷ ys) ≡ Some i) × (slice_get (y ∷ ys) i ≡ Some x)) [
      | true ↦ λ k. (0, position-first (same_name x) y ys k, ap Some (sym (same_name-is x y k)))
      | false ↦ λ k.
          let rest = known-place ys x (sym (ap (λ b. b || is_known same_name ys x) (same-swapped x y k)) ∙ e) in
          let next : rest.0 + 1 ≡ suc rest.0 = omega arith in (
            rest.0 + 1,
            position-behind (same_name x) y ys k ∙ ap (option_map (λ i. i + 1)) rest.1,
            subst (λ n. slice_get (y ∷ ys) n ≡ Some x) (sym next) rest.2,
          )
    ] refl

-- the number of the variable of a wildcard
pub variable-place : (p : Pattern) (i : ℕ) (w : Wildcard) (x : List ℕ)
    → slice_get (subpatterns p) i ≡ Some (wild_pattern w (Some x))
    → (n : ℕ) × (position (same_name x) (variables p) ≡ Some n) × (slice_get (variables p) n ≡ Some x)
variable-place p i w x e = known-place (variables p) x
    (known-in [] (names (uses None p)) x (use-named w x None p (in-slice_get (subpatterns p) i _ e)))

-- distinct names at two places are at one
pub distinct-places : (xs : List (List ℕ)) (i j : ℕ) (x : List ℕ) → Distinct same_name xs → slice_get xs i ≡ Some x
    → slice_get xs j ≡ Some x → i ≡ j
distinct-places [] i j x d h k = cc
distinct-places (y ∷ xs) zero zero x d h k = refl
distinct-places (y ∷ xs) zero (suc j) x d h k =
    let e : y ≡ x = cc in
    let f : same_name y x ≡ false = all-get (λ z. same_name y z ≡ false) xs j x d.0 k in
    let g : same_name y x ≡ true = subst (λ z. same_name z x ≡ true) (sym e) (same_name-itself x) in
    cc
distinct-places (y ∷ xs) (suc i) zero x d h k =
    let e : y ≡ x = cc in
    let f : same_name y x ≡ false = all-get (λ z. same_name y z ≡ false) xs i x d.0 h in
    let g : same_name y x ≡ true = subst (λ z. same_name z x ≡ true) (sym e) (same_name-itself x) in
    cc
distinct-places (y ∷ xs) (suc i) (suc j) x d h k = ap suc (distinct-places xs i j x d.1 h k)

pub distinct-variables : (p : Pattern) → Distinct same_name (variables p)
distinct-variables p = distinct-firsts same_name [] (names (uses None p)) tt

-- the name of a number stands where the number does
name_among-place : (ws : List ℕ) (xs : List Variable) (v : ℕ) (y : List ℕ) → name_among ws xs v ≡ Some y
    → (i : ℕ) × (slice_get ws i ≡ Some v) × (slice_get (map (λ x. x.name) xs) i ≡ Some y)
name_among-place [] xs v y e = cc
name_among-place (w ∷ ws) [] v y e = cc
name_among-place (w ∷ ws) (x ∷ xs) v y e =
    elim (nat_eq w v) as (λ b. nat_eq w v ≡ b → (if b then Some x.name else name_among ws xs v) ≡ Some y
    → (i : ℕ) × (slice_get (w ∷ ws) i ≡ Some v) × (slice_get (map (λ x. x.name) (x ∷ xs)) i ≡ Some y)) [
      | true ↦ λ k h. (0, ap Some (eqb-true w v k), h)
      | false ↦ λ k h. let r = name_among-place ws xs v y h in (suc r.0, r.1, r.2)
    ] refl e

-- and where distinct numbers stand their names do
name_among-at : (ws : List ℕ) (xs : List Variable) (i v : ℕ) (y : List ℕ) → slice_get ws i ≡ Some v
    → slice_get (map (λ x. x.name) xs) i ≡ Some y
    → ((a b u : ℕ) → slice_get ws a ≡ Some u → slice_get ws b ≡ Some u → a ≡ b) → name_among ws xs v ≡ Some y
name_among-at [] xs i v y e f d = cc
name_among-at (w ∷ ws) [] i v y e f d = cc
name_among-at (w ∷ ws) (x ∷ xs) zero v y e f d =
    let k : w ≡ v = cc in rw (eq-eqb w v k) f
name_among-at (w ∷ ws) (x ∷ xs) (suc i) v y e f d =
    elim (nat_eq w v) as (λ b. nat_eq w v ≡ b → (if b then Some x.name else name_among ws xs v) ≡ Some y) [
      | true ↦ λ k. let wrong : 0 ≡ suc i = d 0 (suc i) v (ap Some (eqb-true w v k)) e in absurd (omega (arith, wrong))
      | false ↦ λ k. name_among-at ws xs i v y e f (λ a b u g h. omega (arith, d (suc a) (suc b) u g h))
    ] refl

-- distinct numbers of variables with distinct names are told by these
pub numbered : (ws : List ℕ) (xs : List Variable) (ys : List (List ℕ)) (i v : ℕ) (y : List ℕ)
    → map (λ x. x.name) xs ≡ ys → Distinct same_name ys
    → ((a b u : ℕ) → slice_get ws a ≡ Some u → slice_get ws b ≡ Some u → a ≡ b)
    → slice_get ws i ≡ Some v → slice_get ys i ≡ Some y
    → (name_among ws xs v ≡ Some y) × ((u : ℕ) → name_among ws xs u ≡ Some y → u ≡ v)
numbered ws xs ys i v y is d a e f = (
  name_among-at ws xs i v y e (subst (λ zs. slice_get zs i ≡ Some y) (sym is) f) a,
  λ u h.
      let p = name_among-place ws xs u y h in
      let same : p.0 ≡ i = distinct-places ys p.0 i y d (subst (λ zs. slice_get zs p.0 ≡ Some y) is p.2) f in
      let k : Some u ≡ Some v = sym p.1 ∙ ap (slice_get ws) same ∙ e in cc,
)
