-- The steps of the loops that look for the first fault of edits.
use Rattle.std.proofs.Common.{◌≡◌, ◌∙◌, refl, ap, sym, ℕ, ◌+◌, ◌<◌, ◌≤◌, Bool, true, false, ◌||◌, arith}
use Rattle.std.proofs.Common.{List, [], ◌∷◌, ◌++◌, length, get_or, take, drop, length-take, min}
use Rattle.std.specs.Prelude.{Option, Some, None, option_map, position, nat_eq, nat_lt}
use Rattle.std.specs.Option.{option_or}
use Rattle.std.specs.List.{list_any}
use Rattle.std.specs.Prelude.{nat_le, if◌then◌else◌, slice_get}
use Rattle.std.specs.List.{list_all}
use Rattle.std.proofs.Common.{not, ◌-◌, ◌^◌, length-append, eqb-true, eq-eqb}
use Rattle.std.proofs.lemmas.Bool.{and_parts, leb-true, le-leb}
use Rattle.std.proofs.Math.Seq.{take-append_seam}
use Rattle.mp_term.specs.declared.signature.OpDecl.{OpDecl}
use Rattle.mp_term.specs.declared.limits.TheConstants.{MAX_ARITY}
use Rattle.mp_term.specs.Tree.{app, trees}
use Rattle.mp_term.specs.TreeLists.{tree_list-trees}
use Rattle.mp_term.specs.Positions.{subterm}
use Rattle.mp_term.specs.Signature.{holds_of, allows}
use Rattle.mp_term.specs.Edited.{edited_args}
use Rattle.mp_term.proofs.ListLaws.{all-at, bool_same}
use Rattle.std.proofs.lemmas.Bool.Decides.{nat_tests}
use Rattle.std.proofs.lemmas.List.{take_more}
use Rattle.std.proofs.lemmas.Slice.Eq.{bytes_eq-Decides}
use Rattle.mp_term.specs.declared.edit.Edit.{Edit}
use Rattle.mp_term.specs.declared.edit_fault.EditFault.TheVariants.{Overlap}
use Rattle.mp_term.specs.Tree.{Tree}
use Rattle.mp_term.specs.Signature.{Sig}
use Rattle.mp_term.specs.EditFault.{above, overlap, overlap_after, breaks}
use Rattle.mp_term.specs.EditWalk.{is_sibling}
use Rattle.mp_term.proofs.ListLaws.{drop-item}

-- the first of these edits that overlaps e
abbrev pub overlapped : List Edit → Edit → Option ℕ
overlapped before e = position (λ d. overlap d.position e.position) before

-- one edit behind those before it
pub overlap_after-item : (es : List Edit) (i : ℕ) (e : Edit) → i < length es → e ≡ get_or es i e
    → overlap_after (take i es) (drop i es)
    ≡ option_or (option_map (λ k. Overlap k i) (overlapped (take i es) e))
    (overlap_after (take (i + 1) es) (drop (i + 1) es))
overlap_after-item es i e within is =
    let count : length (take i es) ≡ i = length-take i es ∙ omega arith in
    let more : take i es ++ e ∷ [] ≡ take (i + 1) es =
    ap (λ d. take i es ++ d ∷ []) is ∙ sym (take_more es i e within) in
    ap (overlap_after (take i es)) (drop-item es i e within is)
    ∙ (λ j. option_or (option_map (λ k. Overlap k (count j)) (overlapped (take i es) e))
    (overlap_after (more j) (drop (i + 1) es)))

pub or-left : (a b : Bool) → (a || b) ≡ false → a ≡ false
or-left true b h = cc
or-left false b h = refl

pub or-right : (a b : Bool) → (a || b) ≡ false → b ≡ false
or-right true b h = cc
or-right false b h = h

pub positive : (n : ℕ) → nat_lt 0 n ≡ true → nat_eq n 0 ≡ false
positive n h = grind (arith, nat_tests)

-- whether a count is allowed doesn't hang on where it stops, if that is far above all least counts
allows-most : (d : OpDecl) (n : ℕ) → d.least ≤ MAX_ARITY → allows (min n (2 ^ 64 - 1)) d ≡ allows n d
allows-most d n few = elim d.fixed as
    (λ f. (if f then nat_eq (min n (2 ^ 64 - 1)) d.least else nat_le d.least (min n (2 ^ 64 - 1)))
    ≡ (if f then nat_eq n d.least else nat_le d.least n)) [
      | true ↦
          bool_same (nat_eq (min n (2 ^ 64 - 1)) d.least) (nat_eq n d.least)
          (λ h. let e = eqb-true (min n (2 ^ 64 - 1)) d.least h in eq-eqb n d.least (omega arith))
          (λ h. let e = eqb-true n d.least h in eq-eqb (min n (2 ^ 64 - 1)) d.least (omega arith))
      | false ↦
          bool_same (nat_le d.least (min n (2 ^ 64 - 1))) (nat_le d.least n)
          (λ h. let e = leb-true d.least (min n (2 ^ 64 - 1)) h in le-leb d.least n (omega arith))
          (λ h. let e = leb-true d.least n h in le-leb d.least (min n (2 ^ 64 - 1)) (omega arith))
    ]

holds-most : (n : ℕ) (ds : List OpDecl) (f : ℕ) (o : Option OpDecl) → slice_get ds f ≡ o
    → list_all (λ d. nat_le d.least MAX_ARITY) ds ≡ true
    → holds_of (allows (min n (2 ^ 64 - 1))) o ≡ holds_of (allows n) o
holds-most n ds f None is few = refl
holds-most n ds f (Some d) is few =
    allows-most d n (leb-true d.least MAX_ARITY (all-at (λ (d : OpDecl). nat_le d.least MAX_ARITY) ds f d few is))

-- the position above that of an argument
pub above-argument : (p : List ℕ) (i : ℕ) → above (p ++ i ∷ []) ≡ p
above-argument p i =
    let last : length (p ++ i ∷ []) - 1 ≡ length p = omega (arith, length-append p (i ∷ [])) in
    ap (λ n. take n (p ++ i ∷ [])) last ∙ take-append_seam p (i ∷ [])

module _ (sig : Sig) (t : Tree) (es : List Edit) where
  -- an edit below the root breaks the number of arguments of the application above
  pub breaks-below : (e : Edit) (p : List ℕ) (i f : ℕ) (ts : List Tree)
      → list_all (λ d. nat_le d.least MAX_ARITY) sig.ops ≡ true → e.position ≡ p ++ i ∷ []
      → Some (app f (trees ts)) ≡ subterm t p
      → not (holds_of (allows (min (length (edited_args es p 0 (trees ts))) (2 ^ 64 - 1))) (slice_get sig.ops f))
      ≡ breaks sig t es e
  breaks-below e p i f ts few is found =
      let us = edited_args es p 0 (trees ts) in
      let count : length e.position ≡ length p + 1 = ap length is ∙ length-append p (i ∷ []) in
      let below : nat_eq (length e.position) 0 ≡ false = grind (arith, nat_tests) in
      let front : above e.position ≡ p = ap above is ∙ above-argument p i in
      rw (below, front, ← found, tree_list-trees us, holds-most (length us) sig.ops f (slice_get sig.ops f) refl few)
      refl

  -- edits below one application break the same number of arguments, or both none
  sibling-breaks : (d e : Edit) → is_sibling d e ≡ true → breaks sig t es e ≡ breaks sig t es d
  sibling-breaks d e h =
      let p = and_parts _ _ h in
      let q = and_parts _ _ p.0 in
      let same : above d.position ≡ above e.position = (bytes_eq-Decides (above d.position) (above e.position)).0 p.1 in
      rw (positive (length d.position) q.0, positive (length e.position) q.1, same) refl

  siblings_at : (d e : Edit) (ds : List Edit) (b : Bool) → is_sibling d e ≡ b
      → (b || list_any (λ d. is_sibling d e) ds) ≡ true → (breaks sig t es d || list_any (breaks sig t es) ds) ≡ false
      → (list_any (λ d. is_sibling d e) ds ≡ true → list_any (breaks sig t es) ds ≡ false → breaks sig t es e ≡ false)
      → breaks sig t es e ≡ false
  siblings_at d e ds true is any none rest =
      sibling-breaks d e is ∙ or-left (breaks sig t es d) (list_any (breaks sig t es) ds) none
  siblings_at d e ds false is any none rest =
      rest any (or-right (breaks sig t es d) (list_any (breaks sig t es) ds) none)

  -- an edit breaks nothing where one that stands below the same application doesn't
  pub siblings-fine : (ds : List Edit) (e : Edit) → list_any (λ d. is_sibling d e) ds ≡ true
      → list_any (breaks sig t es) ds ≡ false → breaks sig t es e ≡ false
  siblings-fine [] e any none = cc
  siblings-fine (d ∷ ds) e any none = siblings_at d e ds (is_sibling d e) refl any none (siblings-fine ds e)
