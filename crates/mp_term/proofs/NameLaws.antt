-- Names that differ are found where they stand, and the bytes of names.
use Rattle.std.proofs.Common.{◌≡◌, ℕ, zero, suc, ◌+◌, Bool, true, false, not, List, [], ◌∷◌, Option, Some, None, refl}
use Rattle.std.proofs.Common.{sym, ap, subst, ◌∙◌, add-one}
use Rattle.std.specs.Prelude.{◌&&◌, nat_le, length, slice_get, option_map, position}
use Rattle.std.specs.List.{list_all}
use Rattle.std.specs.Str.{bytes_eq}
use Rattle.std.proofs.lemmas.Bool.{not-true, and_parts}
use Rattle.std.proofs.lemmas.Slice.Eq.{bytes_eq-Decides}
use Rattle.mp_term.specs.declared.limits.TheConstants.{MAX_NAME_BYTES}
use Rattle.mp_term.specs.Names.{are_distinct, is_name, is_name_byte}
use Rattle.mp_term.proofs.ListLaws.{all-at}
use Rattle.mp_term.proofs.SignatureLaws.{position-behind, position-first}

-- a name is the first of its kind among names that differ
pub position-distinct : (names : List (List ℕ)) (i : ℕ) (name : List ℕ) → are_distinct names ≡ true
    → slice_get names i ≡ Some name → position (bytes_eq name) names ≡ Some i
position-distinct [] i name h here = cc
position-distinct (n ∷ names) zero name h here =
    let same : name ≡ n = cc in
    position-first (bytes_eq name) n names ((bytes_eq-Decides name n).1 same)
position-distinct (n ∷ names) (suc i) name h here =
    let p = and_parts (list_all (λ m. not (bytes_eq m n)) names) (are_distinct names) h in
    position-behind (bytes_eq name) n names
    (not-true (bytes_eq name n) (all-at (λ m. not (bytes_eq m n)) names i name p.0 here))
    ∙ ap (option_map (λ k. k + 1)) (position-distinct names i name p.1 here) ∙ ap Some (add-one i)

-- the first name that is this one is this one
pub position-name : (name : List ℕ) (names : List (List ℕ)) (k : ℕ) → position (bytes_eq name) names ≡ Some k
    → slice_get names k ≡ Some name
position-name name [] k h = cc
position-name name (n ∷ names) k h = by_test (bytes_eq name n) refl (position-name name names)
  where
    some_number : (i j : ℕ) → Some i ≡ Some j → i ≡ j
    some_number i j e = cc

    at : (o : Option ℕ) → position (bytes_eq name) names ≡ o → option_map (λ i. i + 1) o ≡ Some k
        → ((j : ℕ) → position (bytes_eq name) names ≡ Some j → slice_get names j ≡ Some name)
        → slice_get (n ∷ names) k ≡ Some name
    at None e f ih = cc
    at (Some j) e f ih = subst (λ i. slice_get (n ∷ names) i ≡ Some name) (sym (add-one j) ∙ some_number (j + 1) k f)
        (ih j e)

    by_test : (b : Bool) → bytes_eq name n ≡ b
        → ((j : ℕ) → position (bytes_eq name) names ≡ Some j → slice_get names j ≡ Some name)
        → slice_get (n ∷ names) k ≡ Some name
    by_test true e ih =
        let here : 0 ≡ k = some_number 0 k (sym (position-first (bytes_eq name) n names e) ∙ h) in
        subst (λ i. slice_get (n ∷ names) i ≡ Some name) here (ap Some (sym ((bytes_eq-Decides name n).0 e)))
    by_test false e ih = at (position (bytes_eq name) names) refl
        (sym (position-behind (bytes_eq name) n names e) ∙ h) ih

-- the bytes of a name are those that names have
pub name_bytes : (name : List ℕ) → is_name name ≡ true → list_all is_name_byte name ≡ true
name_bytes name h =
    (and_parts (nat_le 1 (length name) && nat_le (length name) MAX_NAME_BYTES) (list_all is_name_byte name) h).1
