-- Names have letters and digits alone.
use Rattle.std.proofs.Common.{◌≡◌, ◌≤◌, ◌<◌, ℕ, Bool, true, false, List, [], ◌∷◌, ◌++◌, length, take, refl, sym, ap}
use Rattle.std.proofs.Common.{◌∙◌}
use Rattle.std.proofs.Common.{arith}
use Rattle.std.specs.Prelude.{nat_eq, ◌&&◌, ◌||◌}
use Rattle.std.specs.List.{list_all, list_any}
use Rattle.std.proofs.lemmas.Bool.{and_parts, eqb-true}
use Rattle.std.proofs.lemmas.List.{length-append, length-take, take_all, take-append-le}
use Rattle.mp_io.specs.Devices.{Text}
use Rattle.mp_term.specs.Names.{is_name, is_name_byte}
use Rattle.mp_term.proofs.NameLaws.{name_bytes}
use Rattle.mp_line.specs.Finds.{IsOnly}
use Rattle.mp_line.specs.LineTexts.{IsName, IsNameText}
use Rattle.mp_line.specs.Words.{IsWithout, is_letter_or_blank}

-- are letters and digits
pub letters-of : (x : Text) → IsName x → list_all is_letter_or_blank x ≡ true
letters-of x h = go x (name_bytes x h)
  where
    go : (x : Text) → list_all is_name_byte x ≡ true → list_all is_letter_or_blank x ≡ true
    go [] h = refl
    go (c ∷ x) h =
        let p = and_parts (is_name_byte c) (list_all is_name_byte x) h in
        ap (λ v. (v || nat_eq c 32) && list_all is_letter_or_blank x) p.0 ∙ go x p.1

-- and no blanks
pub bare-name : (x : Text) → IsName x → IsWithout 32 x
bare-name x h = go x (name_bytes x h)
  where
    other : (c : ℕ) → is_name_byte c ≡ true → (v : Bool) → nat_eq c 32 ≡ v → nat_eq c 32 ≡ false
    other c h false e = e
    other c h true e =
        let same = eqb-true c 32 e in
        let wrong : true ≡ false = sym h ∙ ap is_name_byte same in cc

    go : (x : Text) → list_all is_name_byte x ≡ true → IsWithout 32 x
    go [] h = refl
    go (c ∷ x) h =
        let p = and_parts (is_name_byte c) (list_all is_name_byte x) h in
        ap (λ v. v || list_any (λ b. nat_eq b 32) x) (other c p.0 (nat_eq c 32) refl) ∙ go x p.1

-- a copy of a word that is a name is the only name that the word is
pub name-found : (word name : Text) → name ≡ word → (is_name word ≡ false → ⊥) → IsOnly (IsNameText word) name
name-found word name same right = record {
  is = record { right = go (is_name name) refl; text = same };
  only = λ n h. h.text ∙ sym same;
}
  where
    go : (v : Bool) → is_name name ≡ v → is_name name ≡ true
    go true e = e
    go false e = absurd (right (ap is_name (sym same) ∙ e))

-- another word is none
pub name-none : (word : Text) → is_name word ≡ false → (n : Text) → IsNameText word n → ⊥
name-none word refused n h =
    let wrong : true ≡ false = sym h.right ∙ (ap is_name h.text ∙ refused) in cc

-- ---- so many are kept

-- one name more, where there is room for it
pub kept-more : (most : ℕ) (kept seen : List Text) (x : Text) → kept ≡ take most seen → length kept < most
    → kept ++ x ∷ [] ≡ take most (seen ++ x ∷ [])
kept-more most kept seen x e room =
    let short : length seen < most = omega (arith, ap length e, length-take most seen) in
    ap (λ l. l ++ x ∷ []) (e ∙ take_all most seen (omega arith))
    ∙ sym (take_all most (seen ++ x ∷ []) (omega (arith, length-append seen (x ∷ []))))

-- and where there is none
pub kept-full : (most : ℕ) (kept seen : List Text) (x : Text) → kept ≡ take most seen → most ≤ length kept
    → kept ≡ take most (seen ++ x ∷ [])
kept-full most kept seen x e full =
    let long : most ≤ length seen = omega (arith, ap length e, length-take most seen) in
    e ∙ sym (take-append-le most seen (x ∷ []) long)
