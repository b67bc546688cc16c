-- A wildcard whose variable has a value takes one of the lists that are known by the value.
use Rattle.std.proofs.Common.{◌≡◌, ℕ, List, [], ◌∷◌, ◌++◌, true, false, refl, ap, sym, ◌∙◌}
use Rattle.std.proofs.Common.{inl, inr, subst, length, take}
use Rattle.std.specs.Prelude.{Option, Some, None, if◌then◌else◌, option_and_then}
use Rattle.std.proofs.Math.Seq.{take-append_seam}
use Rattle.mp_term.specs.Order.{tree_cmp}
use Rattle.mp_term.specs.OrderLaws.{tree_cmp_total, tree_same}
use Rattle.mp_term.specs.Sorting.{sorted}
use Rattle.mp_term.specs.Tree.{Tree}
use Rattle.mp_term.specs.Signature.{Sig}
use Rattle.mp_term.specs.Search.{In}
use Rattle.mp_term.specs.Pieces.{same, without, is_prefix, is_piece}
use Rattle.mp_term.proofs.Sorting.{length-sorted}
use Rattle.mp_term.proofs.PiecesLaws.{same-itself}
use Rattle.mp_term.proofs.SearchLaws.{in-right}
use Rattle.mp_pattern.specs.PatternTree.{Wildcard, dot, kind, plus, star, counted, optional, wild_pattern}
use Rattle.mp_pattern.specs.Value.{Value, one, seq, bag, Subst, value_of, merge}
use Rattle.mp_pattern.specs.Variables.{comm_above}
use Rattle.mp_pattern.specs.Contribution.{contribution}
use Rattle.mp_pattern.specs.Fits.{Entry, arranged}
use Rattle.mp_theory.specs.Solve.{bind, given, sequence}
use Rattle.mp_theory.specs.Frames.{Frame, child}
use Rattle.mp_theory.specs.Machine.{choices}
use Rattle.mp_theory.specs.OneList.{Item}
use Rattle.mp_theory.specs.Items.{items_by}
use Rattle.mp_theory.specs.Known.{all_of, known_lists}
use Rattle.mp_theory.proofs.Merging.{from_if, same_terms-sound}
use Rattle.mp_theory.proofs.Cuts.{apart-from_piece, append-without}
use Rattle.mp_theory.proofs.Wildcards.{contributor-contributes}
use Rattle.mp_theory.proofs.Solving.{then_some}
use Rattle.mp_theory.proofs.Pruning.{bound_merges}
use Rattle.mp_theory.proofs.BoundChoices.{merge-one, given-form, given-one}
use Rattle.mp_theory.proofs.Walk.{choices-exact}
use Rattle.mp_theory.proofs.KeptValues.{item-by}

-- what there is stands in its list
in-all_of : {X : Type 0} (o : Option X) (x : X) → o ≡ Some x → In x (all_of o)
in-all_of None x e = cc
in-all_of (Some y) x e = let q : x ≡ y = cc in inl q

-- a prefix is as many of the first terms
pub prefix-take : (l ts : List Tree) → is_prefix tree_cmp l ts ≡ true → l ≡ take (length l) ts
prefix-take l ts h = sym (take-append_seam l (without tree_cmp l ts)) ∙ ap (take (length l)) (append-without l ts h)

module _ (sig : Sig) where
  -- of one term: what it contributes, or the empty list, where it is the default
  known-one : (f : Option ℕ) (w : Wildcard) (l left : List Tree) (t : Tree) → given sig f w l ≡ Some (one t)
      → In l (known_lists sig f w (one t) left)
  known-one f (optional d) [] left t e =
      let q : d ≡ t = cc in
      subst (λ b. In [] ((if b then [] ∷ [] else []) ++ all_of (contribution sig f t)))
      (sym (subst (λ u. same tree_cmp d u ≡ true) q (same-itself tree_cmp tree_cmp_total tree_same d))) (inl refl)
  known-one f (optional d) (u ∷ l) left t e =
      let c = contributor-contributes sig f (u ∷ l) (one t) e in
      let i : one t ≡ one c.term = c.is in
      let j : t ≡ c.term = cc in
      in-right (u ∷ l) (if same tree_cmp d t then [] ∷ [] else []) (all_of (contribution sig f t))
      (in-all_of (contribution sig f t) (u ∷ l)
      (subst (λ v. contribution sig f v ≡ Some (u ∷ l)) (sym j) c.contributes))
  known-one f dot l left t e = in-all_of (contribution sig f t) l (given-one sig f dot l t tt e)
  known-one f (kind k) l left t e = in-all_of (contribution sig f t) l (given-one sig f (kind k) l t tt e)
  known-one f plus l left t e = in-all_of (contribution sig f t) l (given-one sig f plus l t tt e)
  known-one f star l left t e = in-all_of (contribution sig f t) l (given-one sig f star l t tt e)
  known-one f (counted n c) l left t e = in-all_of (contribution sig f t) l (given-one sig f (counted n c) l t tt e)

  -- of a tuple: its terms as the operation arranges them
  known-seq : (f : Option ℕ) (l ts : List Tree) (u : Value) → arranged sig f l ≡ l
      → merge (seq ts) (sequence sig f l) ≡ Some u → l ≡ arranged sig f ts
  known-seq f l ts u =
      elim (comm_above sig f) as (λ b. (if b then sorted tree_cmp l else l) ≡ l
      → merge (seq ts) (if b then bag l else seq l) ≡ Some u → l ≡ (if b then sorted tree_cmp ts else ts)) [
        | true ↦ λ o e. sym o
            ∙ sym (same_terms-sound (sorted tree_cmp ts) (sorted tree_cmp l) (from_if _ _ u e).0)
        | false ↦ λ o e. sym (same_terms-sound ts l (from_if _ _ u e).0)
      ]

  -- of a multiset: its terms, or as many terms
  known-bag : (f : Option ℕ) (l left ts : List Tree) (u : Value) → is_piece tree_cmp (comm_above sig f) l left ≡ true
      → merge (bag ts) (sequence sig f l) ≡ Some u
      → l ≡ (if comm_above sig f then ts else take (length ts) left)
  known-bag f l left ts u =
      elim (comm_above sig f) as (λ b. is_piece tree_cmp b l left ≡ true
      → merge (bag ts) (if b then bag l else seq l) ≡ Some u → l ≡ (if b then ts else take (length ts) left)) [
        | true ↦ λ i e. sym (same_terms-sound ts l (from_if _ _ u e).0)
        | false ↦ λ i e.
            let q : sorted tree_cmp ts ≡ sorted tree_cmp l = same_terms-sound _ _ (from_if _ _ u e).0 in
            prefix-take l left i
            ∙ ap (λ n. take n left)
            (sym (length-sorted tree_cmp l) ∙ ap length (sym q) ∙ length-sorted tree_cmp ts)
      ]

  -- a sequence is not one term, and one term no sequence
  by_form : (f : Option ℕ) (w : Wildcard) (l left : List Tree) (g v u : Value)
      → is_piece tree_cmp (comm_above sig f) l left ≡ true → arranged sig f l ≡ l → given sig f w l ≡ Some g
      → merge v g ≡ Some u → In l (known_lists sig f w v left)
  by_form f w l left g (one t) u i o e m =
      known-one f w l left t (e ∙ ap Some (merge-one t g u m))
  by_form f w l left g (seq ts) u i o e m =
      elim (given-form sig f w l g e) [
        | inl q ↦ listed w (known-seq f l ts u o (subst (λ h. merge (seq ts) h ≡ Some u) q m))
        | inr q ↦ (let p : merge (seq ts) (one q.0) ≡ Some u = subst (λ h. merge (seq ts) h ≡ Some u) q.1 m in cc)
      ]
    where
      listed : (w : Wildcard) → l ≡ arranged sig f ts → In l (known_lists sig f w (seq ts) left)
      listed dot q = inl q
      listed (kind k) q = inl q
      listed plus q = inl q
      listed star q = inl q
      listed (counted n c) q = inl q
      listed (optional d) q = inl q
  by_form f w l left g (bag ts) u i o e m =
      elim (given-form sig f w l g e) [
        | inl q ↦ listed w (known-bag f l left ts u i (subst (λ h. merge (bag ts) h ≡ Some u) q m))
        | inr q ↦ (let p : merge (bag ts) (one q.0) ≡ Some u = subst (λ h. merge (bag ts) h ≡ Some u) q.1 m in cc)
      ]
    where
      listed : (w : Wildcard) → l ≡ (if comm_above sig f then ts else take (length ts) left)
          → In l (known_lists sig f w (bag ts) left)
      listed dot q = inl q
      listed (kind k) q = inl q
      listed plus q = inl q
      listed star q = inl q
      listed (counted n c) q = inl q
      listed (optional d) q = inl q

  -- a choice with an item
  pub known-taken : (w : Wildcard) (x : List ℕ) (f : Frame) (fs : List Frame) (s : Subst) (v : Value) (k : ℕ)
      (e : Entry) (i : Item) → value_of s x ≡ Some v → arranged sig f.under f.left ≡ f.left
      → In e (choices sig (child (wild_pattern w (Some x)) f fs))
      → In i (items_by sig k (child (wild_pattern w (Some x)) f fs) s e)
      → In e.terms (known_lists sig f.under w v f.left)
  known-taken w x f fs s v k e i held order c m =
      let n = child (wild_pattern w (Some x)) f fs in
      let p = ((choices-exact sig (wild_pattern w (Some x)) f fs e.terms e.collapsed).0 c).0 in
      let r = (item-by sig k n s e i m).2 in
      let a = then_some (λ g. option_and_then (λ q. Some q) (bind s x g)) (given sig f.under w e.terms) r.0 r.1 in
      let b = then_some (λ q. Some q) (bind s x a.0) r.0 a.2 in
      let u = bound_merges s x v a.0 b.0 held b.1 in
      by_form f.under w e.terms f.left a.0 v u.0 p
      (apart-from_piece (comm_above sig f.under) e.terms f.left order p).piece_in_order a.1 u.1
