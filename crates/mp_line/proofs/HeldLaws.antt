-- Operations and kinds are found by their names.
use Rattle.std.proofs.Common.{◌≡◌, ℕ, true, false, not, List, [], ◌∷◌, Option, Some, None, refl}
use Rattle.std.proofs.Common.{sym, ap, ◌∙◌}
use Rattle.std.specs.Prelude.{◌&&◌, slice_get, option_map, position, map, IsSome, unwrap_or}
use Rattle.std.specs.List.{list_all}
use Rattle.std.specs.Option.{option_map_or}
use Rattle.std.specs.Str.{bytes_eq}
use Rattle.std.proofs.lemmas.Bool.{not-true, or_parts, and_parts}
use Rattle.std.proofs.lemmas.Option.{slice_get-map}
use Rattle.mp_io.specs.Devices.{Text}
use Rattle.mp_term.specs.declared.signature.OpDecl.{OpDecl}
use Rattle.mp_term.specs.Names.{are_distinct}
use Rattle.mp_term.specs.Signature.{Sig, has_name, shares_sign, clashes, none_clash, kind_names}
use Rattle.mp_term.proofs.SignatureLaws.{position-map}
use Rattle.mp_term.proofs.NameLaws.{position-distinct, position-name}
use Rattle.mp_line.specs.Finds.{Finds}
use Rattle.mp_line.specs.LineTexts.{IsHeldOp, IsHeldKind}
use Rattle.mp_line.proofs.FindsLaws.{Finds-like}

-- ---- names that differ

-- the place at which a name is found is its only one
Finds-name : {T : Type 0} (view : T → ℕ) (names : List Text) (name : Text) (r : Option T) → are_distinct names ≡ true
    → option_map view r ≡ position (bytes_eq name) names → Finds view (λ i. slice_get names i ≡ Some name) r
Finds-name view names name None distinct e = λ i here. (
    let wrong : Some i ≡ None = sym (position-distinct names i name distinct here) ∙ sym e in cc
    )
Finds-name view names name (Some v) distinct e = record {
  is = position-name name names (view v) (sym e);
  only = λ i here. (
      let same : Some i ≡ Some (view v) = sym (position-distinct names i name distinct here) ∙ sym e in cc
      );
}

-- ---- operations

-- operations that don't clash have names that differ
are_distinct-names : (ds : List OpDecl) → none_clash ds ≡ true → are_distinct (map (λ d. d.name) ds) ≡ true
are_distinct-names [] h = refl
are_distinct-names (d ∷ ds) h =
    let p = and_parts (list_all (λ e. not (clashes e d)) ds) (none_clash ds) h in
    ap (λ v. v && are_distinct (map (λ (e : OpDecl). e.name) ds)) (apart ds p.0) ∙ are_distinct-names ds p.1
  where
    apart : (ds : List OpDecl) → list_all (λ e. not (clashes e d)) ds ≡ true
        → list_all (λ m. not (bytes_eq m d.name)) (map (λ (e : OpDecl). e.name) ds) ≡ true
    apart [] h = refl
    apart (e ∷ ds) h =
        let p = and_parts (not (clashes e d)) (list_all (λ c. not (clashes c d)) ds) h in
        let q = or_parts (has_name e.name d) (shares_sign e.sign d) (not-true (clashes e d) p.0) in
        ap (λ v. not v && list_all (λ m. not (bytes_eq m d.name)) (map (λ (c : OpDecl). c.name) ds)) q.0 ∙ apart ds p.1

-- an operation that is held and has the name is the one at its number
op-at : (o : Option OpDecl) (name : Text) → IsSome o → option_map_or (λ (d : OpDecl). d.name) o [] ≡ name
    → option_map (λ (d : OpDecl). d.name) o ≡ Some name
op-at None name h e = (let wrong : false ≡ true = h in cc)
op-at (Some d) name h e = ap Some e

-- and back
at-op : (o : Option OpDecl) (name : Text) → option_map (λ (d : OpDecl). d.name) o ≡ Some name
    → IsSome o × (option_map_or (λ (d : OpDecl). d.name) o [] ≡ name)
at-op None name e = cc
at-op (Some d) name e = (refl, (let same : d.name ≡ name = cc in same))

-- what is found by its name is the operation of the name
pub Finds-op : {T : Type 0} (view : T → ℕ) (sig : Sig) (name : Text) (r : Option T) → none_clash sig.ops ≡ true
    → option_map view r ≡ position (has_name name) sig.ops → Finds view (IsHeldOp sig name) r
Finds-op view sig name r apart e =
    Finds-like view (λ i. slice_get (map (λ (d : OpDecl). d.name) sig.ops) i ≡ Some name) (IsHeldOp sig name) r
    (λ i here. (
    let m = at-op (slice_get sig.ops i) name (sym (slice_get-map (λ (d : OpDecl). d.name) sig.ops i) ∙ here) in
    record { held = m.0; text = m.1 }
    ))
    (λ i h. slice_get-map (λ (d : OpDecl). d.name) sig.ops i ∙ op-at (slice_get sig.ops i) name h.held h.text)
    (Finds-name view (map (λ (d : OpDecl). d.name) sig.ops) name r (are_distinct-names sig.ops apart)
    (e ∙ sym (position-map (bytes_eq name) (λ (d : OpDecl). d.name) sig.ops)))

-- ---- kinds

-- so of a kind
kind-at : (o : Option Text) (name : Text) → IsSome o → unwrap_or o [] ≡ name → o ≡ Some name
kind-at None name h e = (let wrong : false ≡ true = h in cc)
kind-at (Some n) name h e = ap Some e

-- and back
at-kind : (o : Option Text) (name : Text) → o ≡ Some name → IsSome o × (unwrap_or o [] ≡ name)
at-kind None name e = cc
at-kind (Some n) name e = (refl, (let same : n ≡ name = cc in same))

-- what is found by its name is the kind of the name
pub Finds-kind : {T : Type 0} (view : T → ℕ) (sig : Sig) (name : Text) (r : Option T)
    → are_distinct (kind_names sig) ≡ true → option_map view r ≡ position (bytes_eq name) (kind_names sig)
    → Finds view (IsHeldKind sig name) r
Finds-kind view sig name r distinct e =
    Finds-like view (λ i. slice_get (kind_names sig) i ≡ Some name) (IsHeldKind sig name) r
    (λ i here. (let m = at-kind (slice_get (kind_names sig) i) name here in record { held = m.0; text = m.1 }))
    (λ i h. kind-at (slice_get (kind_names sig) i) name h.held h.text)
    (Finds-name view (kind_names sig) name r distinct e)
