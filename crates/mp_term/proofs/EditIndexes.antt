-- The edits that a fault names are among those that were tested, and the indexes of a position that names a subterm are
-- at most the number of nodes.
use Rattle.std.proofs.Common.{◌≡◌, refl, ap, ℕ, zero, suc, ◌+◌, ◌<◌, ◌≤◌, Bool, false, arith}
use Rattle.std.proofs.Common.{List, [], ◌∷◌, ◌++◌, length, length-append}
use Rattle.std.specs.Prelude.{Option, Some, None, IfSome, is_none, option_map, position, slice_get}
use Rattle.std.specs.Prelude.{option_and_then}
use Rattle.std.specs.Option.{option_or}
use Rattle.std.specs.List.{AllByRecursion}
use Rattle.std.proofs.lemmas.List.Quantifiers.{position-Some}
use Rattle.mp_term.specs.declared.edit.Edit.{Edit}
use Rattle.mp_term.specs.declared.edit_fault.EditFault.{EditFault}
use Rattle.mp_term.specs.declared.edit_fault.EditFault.TheVariants.{BadPosition, Overlap, Arity, TooLarge, TooDeep}
use Rattle.mp_term.specs.declared.edit_fault.EditFault.TheVariants.{Memory}
use Rattle.mp_term.specs.declared.size.Excess.{Excess}
use Rattle.mp_term.specs.declared.size.Excess.TheVariants as excesses
use Rattle.mp_term.specs.Tree.{Tree, symbol, app, Trees, no_trees, more_trees, tree_list}
use Rattle.mp_term.specs.Size.{node_count, node_counts}
use Rattle.mp_term.specs.Positions.{subterm}
use Rattle.mp_term.specs.Signature.{Sig}
use Rattle.mp_term.specs.Edited.{edited}
use Rattle.mp_term.specs.Excess.{excess}
use Rattle.mp_term.specs.EditFault.{overlap, overlap_after, fault_of, size_fault, is_astray, breaks, edit_fault}
use Rattle.mp_term.proofs.ListLaws.{all-also}
use Rattle.mp_term.proofs.SizeLaws.{some-nodes}

-- ---- the edits that a fault names

-- the fault names an edit of n, and isn't want of memory
abbrev pub IsAmong : ℕ → EditFault → Type 0
IsAmong n (BadPosition i) = i < n
IsAmong n (Overlap i j) = j < n
IsAmong n (Arity i) = i < n
IsAmong n (TooLarge nodes) = Unit {0}
IsAmong n (TooDeep depth) = Unit {0}
IsAmong n Memory = ⊥

either : {X : Type 0} (P : X → Type 0) (o p : Option X) → IfSome o P → IfSome p P → IfSome (option_or o p) P
either P None p h k = k
either P (Some x) p h k = h

module _ (P : EditFault → Type 0) (fault : ℕ → EditFault) (p : Edit → Bool) (es : List Edit)
    (each : (i : ℕ) → i < length es → P (fault i)) where
  found_at : (o : Option ℕ) → position p es ≡ o → IfSome (option_map fault o) P
  found_at None e = tt
  found_at (Some i) e = each i (position-Some p es i (record { position = []; terms = [] }) e).0

  found : IfSome (option_map fault (position p es)) P
  found = found_at (position p es) refl

overlap-among : (n : ℕ) (before es : List Edit) → length before + length es ≡ n
    → IfSome (overlap_after before es) (IsAmong n)
overlap-among n before [] h = tt
overlap-among n before (e ∷ es) h =
    either (IsAmong n) (option_map (λ i. Overlap i (length before))
    (position (λ d. overlap d.position e.position) before)) (overlap_after (before ++ e ∷ []) es)
    (found (IsAmong n) (λ i. Overlap i (length before)) (λ d. overlap d.position e.position) before
    (λ i within. omega arith))
    (overlap-among n (before ++ e ∷ []) es (omega (arith, length-append before (e ∷ []))))

size-among : (n : ℕ) (o : Option Excess) → IfSome (option_map fault_of o) (IsAmong n)
size-among n None = tt
size-among n (Some (excesses.TooLarge nodes)) = tt
size-among n (Some (excesses.TooDeep depth)) = tt

-- a fault of edits names one of them
pub fault-among : (sig : Sig) (t : Tree) (es : List Edit) → IfSome (edit_fault sig t es) (IsAmong (length es))
fault-among sig t es =
    let n = length es in
    let astray = option_map BadPosition (position (is_astray t) es) in
    let broken = option_map Arity (position (breaks sig t es) es) in
    either (IsAmong n) astray (option_or (overlap_after [] es) (option_or broken (size_fault (edited es t))))
    (found (IsAmong n) BadPosition (is_astray t) es (λ i within. within))
    (either (IsAmong n) (overlap_after [] es) (option_or broken (size_fault (edited es t)))
    (overlap-among n [] es (omega arith))
    (either (IsAmong n) broken (size_fault (edited es t))
    (found (IsAmong n) Arity (breaks sig t es) es (λ i within. within)) (size-among n (excess (edited es t)))))

-- ---- the indexes of a position

child : (ts : Trees) (i : ℕ) (u : Tree) → slice_get (tree_list ts) i ≡ Some u
    → (i ≤ node_counts ts) × (node_count u ≤ node_counts ts)
child no_trees i u e = cc
child (more_trees t ts) zero u e = let same : t ≡ u = cc in (omega arith, omega (arith, ap node_count same))
child (more_trees t ts) (suc i) u e = let r = child ts i u e in
    (omega (arith, r.0, some-nodes t), omega (arith, r.1))

-- the first index, and those behind it, by what holds of them in the child
below : (p : List ℕ) (f : ℕ) (ts : Trees) (i : ℕ)
    → ((u : Tree) → is_none (subterm u p) ≡ false → AllByRecursion (λ k. k ≤ node_count u) p)
    → (o : Option Tree) → slice_get (tree_list ts) i ≡ o → is_none (option_and_then (λ t. subterm t p) o) ≡ false
    → AllByRecursion (λ k. k ≤ node_count (app f ts)) (i ∷ p)
below p f ts i behind None e h = cc
below p f ts i behind (Some u) e h =
    let r = child ts i u e in (
      omega (arith, r.0),
      all-also (λ k. k ≤ node_count u) (λ k. k ≤ node_count (app f ts)) (λ k l. omega (arith, l, r.1)) p (behind u h),
    )

-- the indexes of a position that names a subterm are at most the nodes
pub indexes-few : (p : List ℕ) (t : Tree) → is_none (subterm t p) ≡ false → AllByRecursion (λ i. i ≤ node_count t) p
indexes-few [] t h = tt
indexes-few (i ∷ p) (symbol n) h = cc
indexes-few (i ∷ p) (app f ts) h = below p f ts i (indexes-few p) (slice_get (tree_list ts) i) refl h
