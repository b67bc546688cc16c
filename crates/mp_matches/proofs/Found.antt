-- The part that has the name of a token is found.
use Rattle.std.proofs.Common.{◌≡◌, ◌∙◌, ◌+◌, ℕ, zero, suc, List, [], ◌∷◌, map, drop, get_or, refl, sym}
use Rattle.std.proofs.Common.{ap, ap₂, subst}
use Rattle.std.specs.Prelude.{Some, None, flat_map, position, true}
use Rattle.std.specs.List.{AllByRecursion, drop-map}
use Rattle.std.specs.Str.{bytes_eq}
use Rattle.mp_io.specs.Devices.{Text}
use Rattle.mp_term.specs.Names.{are_distinct}
use Rattle.mp_term.proofs.SignatureLaws.{position-map}
use Rattle.mp_matches.specs.Computed.{behind_token}
use Rattle.mp_matches.specs.Match.{Match}
use Rattle.mp_matches.proofs.BehindLaws.{appended, parts-found, parts-none, position-none, position-some}

get_or-map : {A X : Type 0} (view : A → X) (xs : List A) (i : ℕ) (x : A)
    → get_or (map view xs) i (view x) ≡ view (get_or xs i x)
get_or-map view [] i x = refl
get_or-map view (y ∷ xs) zero x = refl
get_or-map view (y ∷ xs) (suc i) x = get_or-map view xs i x

module _ {A X : Type 0} (view : A → X) (f : X → List Match) (name : X → Text) (token word : Text) (P : X → Type 0)
    (named : (x : X) → P x → (name x ≡ word → ⊥) → behind_token token (f x) ≡ None) (xs : List A)
    (all : AllByRecursion P (map view xs)) where
  -- no part has the name
  pub found-none : position (λ x. bytes_eq (name (view x)) word) xs ≡ None
      → behind_token token (flat_map f (map view xs)) ≡ None
  found-none e = parts-none f name token word P named (map view xs) all
      (position-none (λ x. bytes_eq (name x) word) (map view xs)
      (position-map (λ x. bytes_eq (name x) word) view xs ∙ e))

  module _ (i : ℕ) (e : position (λ x. bytes_eq (name (view x)) word) xs ≡ Some i) where
    mapped : position (λ x. bytes_eq (name x) word) (map view xs) ≡ Some i
    mapped = position-map (λ x. bytes_eq (name x) word) view xs ∙ e

    -- it is the one part whose matches may have the token
    pub found-some : (x : A) → x ≡ get_or xs i x → are_distinct (map name (map view xs)) ≡ true
        → behind_token token (flat_map f (map view xs))
        ≡ appended (behind_token token (f (view x))) (flat_map f (map view (drop (i + 1) xs)))
    found-some x is apart =
        let p = position-some (λ x. bytes_eq (name x) word) (map view xs) i mapped in
        let at : get_or (map view xs) i (view x) ≡ view x = get_or-map view xs i x ∙ ap view (sym is) in
        subst (λ n. behind_token token (flat_map f (map view xs))
        ≡ appended (behind_token token (f (get_or (map view xs) n (view x)))) (flat_map f (drop (n + 1) (map view xs))))
        p.0 (parts-found f name token word P named (map view xs) (view x) all apart p.1)
        ∙ ap₂ (λ y ys. appended (behind_token token (f y)) (flat_map f ys)) at (drop-map view (i + 1) xs)
