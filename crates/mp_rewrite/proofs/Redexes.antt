-- The first position of a term, in preorder, at which a rule admits something.
use Rattle.std.proofs.Common.{◌≡◌, ℕ, zero, suc, ◌+◌, ◌<◌, Bool, true, false, cond, ltb, eqb, List, [], ◌∷◌, refl, sym}
use Rattle.std.proofs.Common.{ap, ◌∙◌, inl, inr, arith, subst}
use Rattle.std.specs.Prelude.{Option, Some, None, ◌⊎◌, slice_get, option_map, option_and_then}
use Rattle.std.specs.Option.{option_or}
use Rattle.std.specs.declared.cmp.Ordering.{Ordering}
use Rattle.std.specs.declared.cmp.Ordering.TheVariants.{Less, Equal, Greater}
use Rattle.std.specs.Ordering.{nat_cmp, ordering_then, ordering_reverse}
use Rattle.std.specs.Cmp.Lexicographic.{slice_cmp}
use Rattle.std.proofs.lemmas.Bool.{eqb-true, ltb-true}
use Rattle.std.proofs.lemmas.Cmp.{nat_list_cmp_total}
use Rattle.mp_term.specs.Tree.{Tree, symbol, app, Trees, no_trees, more_trees, tree_list}
use Rattle.mp_term.specs.OrderLaws.{nats_same}
use Rattle.mp_term.specs.Positions.{subterm}
use Rattle.mp_term.specs.Signature.{Sig}
use Rattle.mp_term.proofs.ReplaceLaws.{neither}
use Rattle.mp_pattern.specs.Admission.{Rule}
use Rattle.mp_rewrite.specs.Step.{Precedes}
use Rattle.mp_rewrite.specs.Computed.{Match, Redex, at_argument, first_match, root_redex, first_redex, first_below}

-- ---- the order of positions

precedes-at : (j k : ℕ) (p q : List ℕ) (b c : Bool) → ltb j k ≡ b → eqb j k ≡ c
    → ordering_then (cond b Less (cond c Equal Greater)) (slice_cmp nat_cmp p q) ≡ Less
    → (j < k) ⊎ ((j ≡ k) × Precedes p q)
precedes-at j k p q true c e f h = inl (ltb-true j k e)
precedes-at j k p q false true e f h = inr (eqb-true j k f, h)
precedes-at j k p q false false e f h = cc

-- by the first index, or else behind it
pub Precedes-cons : (j k : ℕ) (p q : List ℕ) → Precedes (j ∷ p) (k ∷ q) → (j < k) ⊎ ((j ≡ k) × Precedes p q)
Precedes-cons j k p q h = precedes-at j k p q (ltb j k) (eqb j k) refl refl h

-- ---- redexes

same-redex : (r s : Redex) → r.position ≡ s.position → r.match ≡ s.match → r ≡ s
same-redex r s e f =
    ap (λ (p : List ℕ). let x : Redex = record { position = p; «match» = r.match } in x) e
    ∙ ap (λ (m : Match). let x : Redex = record { position = s.position; «match» = m } in x) f

module _ (sig : Sig) (rules : List Rule) where
  -- a rule matches the subterm of the redex as it says, and none matches at an earlier position
  pub record IsFirstRedex (t : Tree) (r : Redex) : Type 0 where
    pub under : Tree
    pub there : subterm t r.position ≡ Some under
    pub matched : first_match sig rules under ≡ Some r.match
    pub first : (p : List ℕ) (u : Tree) → Precedes p r.position → subterm t p ≡ Some u → first_match sig rules u ≡ None

  -- the subterm at the position below the argument of that index
  abbrev pub below : Trees → ℕ → List ℕ → Option Tree
  below ts k p = option_and_then (λ t. subterm t p) (slice_get (tree_list ts) k)

  -- the same of the arguments from index i on, the redex being in the k-th of them
  record IsFirstBelow (i : ℕ) (ts : Trees) (r : Redex) : Type 0 where
    index : ℕ
    rest : List ℕ
    position : r.position ≡ (i + index) ∷ rest
    under : Tree
    there : below ts index rest ≡ Some under
    matched : first_match sig rules under ≡ Some r.match
    first : (j : ℕ) (p : List ℕ) (u : Tree) → (j < index) ⊎ ((j ≡ index) × Precedes p rest)
        → below ts j p ≡ Some u → first_match sig rules u ≡ None

  root-None : (t : Tree) (o : Option Match) → first_match sig rules t ≡ o → root_redex sig rules t ≡ None
      → first_match sig rules t ≡ None
  root-None t None e h = e
  root-None t (Some m) e h =
      let same : root_redex sig rules t ≡ Some (record { position = []; «match» = m }) =
      ap (λ o. option_map (λ (m : Match). let x : Redex = record { position = []; «match» = m } in x) o) e in
      cc

  at_argument-None : (i : ℕ) (o : Option Redex) → option_map (at_argument i) o ≡ None → o ≡ None
  at_argument-None i None e = refl
  at_argument-None i (Some r) e = cc

  mutual
    -- without a redex nothing matches at any position
    pub first_redex-None : (t : Tree) → first_redex sig rules t ≡ None → (p : List ℕ) (u : Tree)
        → subterm t p ≡ Some u → first_match sig rules u ≡ None
    first_redex-None (symbol n) e [] u at =
        let same : symbol n ≡ u = cc in
        subst (λ t. first_match sig rules t ≡ None) same
        (root-None (symbol n) (first_match sig rules (symbol n)) refl e)
    first_redex-None (symbol n) e (k ∷ p) u at = cc
    first_redex-None (app f ts) e [] u at =
        let same : app f ts ≡ u = cc in
        subst (λ t. first_match sig rules t ≡ None) same
        (root-None (app f ts) (first_match sig rules (app f ts)) refl (neither _ _ e).0)
    first_redex-None (app f ts) e (k ∷ p) u at = first_below-None 0 ts (neither _ _ e).1 k p u at

    first_below-None : (i : ℕ) (ts : Trees) → first_below sig rules i ts ≡ None → (k : ℕ) (p : List ℕ) (u : Tree)
        → below ts k p ≡ Some u → first_match sig rules u ≡ None
    first_below-None i no_trees e k p u at = cc
    first_below-None i (more_trees t ts) e zero p u at =
        first_redex-None t (at_argument-None i (first_redex sig rules t) (neither _ _ e).0) p u at
    first_below-None i (more_trees t ts) e (suc k) p u at = first_below-None (suc i) ts (neither _ _ e).1 k p u at

  root-Some : (t : Tree) (r : Redex) (o : Option Match) → first_match sig rules t ≡ o
      → option_map (λ (m : Match). let x : Redex = record { position = []; «match» = m } in x) o ≡ Some r
      → IsFirstRedex t r
  root-Some t r None e h = cc
  root-Some t r (Some m) e h =
      let same : record { position = []; «match» = m } ≡ r = cc in
      subst (λ r. IsFirstRedex t r) same (record {
        under = t;
        there = refl;
        matched = e;
        first = λ p. elim p as (λ p. (u : Tree) → Precedes p [] → subterm t p ≡ Some u → first_match sig rules u ≡ None)
            [ [] ↦ λ u before at. cc | k ∷ p ↦ λ u before at. cc ];
      })

  below-first : (f : ℕ) (ts : Trees) (r : Redex) → first_match sig rules (app f ts) ≡ None → IsFirstBelow 0 ts r
      → IsFirstRedex (app f ts) r
  below-first f ts r root h =
      let place : r.position ≡ h.index ∷ h.rest = h.position ∙ ap (λ k. k ∷ h.rest) (omega arith) in
      record {
        under = h.under;
        there = ap (subterm (app f ts)) place ∙ h.there;
        matched = h.matched;
        first = λ p. elim p as (λ p. (u : Tree) → Precedes p r.position → subterm (app f ts) p ≡ Some u
            → first_match sig rules u ≡ None) [
              | [] ↦ λ u before at. let same : app f ts ≡ u = cc in
                  subst (λ t. first_match sig rules t ≡ None) same root
              | k ∷ p ↦ λ u before at.
                  h.first k p u (Precedes-cons k h.index p h.rest (subst (λ q. Precedes (k ∷ p) q) place before)) at
            ];
      }

  first-argument : (i : ℕ) (t : Tree) (ts : Trees) (x r : Redex) → at_argument i x ≡ r → IsFirstRedex t x
      → IsFirstBelow i (more_trees t ts) r
  first-argument i t ts x r same h =
      subst (λ r. IsFirstBelow i (more_trees t ts) r) same (record {
        index = 0;
        rest = x.position;
        position = ap (λ k. k ∷ x.position) (omega arith);
        under = h.under;
        there = h.there;
        matched = h.matched;
        first = λ j. elim j as (λ j. (p : List ℕ) (u : Tree) → (j < 0) ⊎ ((j ≡ 0) × Precedes p x.position)
            → below (more_trees t ts) j p ≡ Some u → first_match sig rules u ≡ None) [
              | zero ↦ λ p u before at. elim before [
                | inl below ↦ absurd (omega arith)
                | inr both ↦ h.first p u both.1 at
              ]
              | suc j ↦ λ p u before at. elim before [
                | inl below ↦ absurd (omega arith)
                | inr both ↦ let e : suc j ≡ 0 = both.0 in absurd (omega arith)
              ]
            ];
      })

  later-argument : (i : ℕ) (t : Tree) (ts : Trees) (r : Redex) → first_redex sig rules t ≡ None
      → IsFirstBelow (suc i) ts r → IsFirstBelow i (more_trees t ts) r
  later-argument i t ts r none h = record {
    index = suc h.index;
    rest = h.rest;
    position = h.position ∙ ap (λ k. k ∷ h.rest) (omega arith);
    under = h.under;
    there = h.there;
    matched = h.matched;
    first = λ j. elim j as (λ j. (p : List ℕ) (u : Tree)
        → (j < suc h.index) ⊎ ((j ≡ suc h.index) × Precedes p h.rest)
        → below (more_trees t ts) j p ≡ Some u → first_match sig rules u ≡ None) [
          | zero ↦ λ p u before at. first_redex-None t none p u at
          | suc j ↦ λ p u before at. elim before [
            | inl less ↦ h.first j p u (inl (omega arith)) at
            | inr both ↦ let e : suc j ≡ suc h.index = both.0 in h.first j p u (inr (omega arith, both.1)) at
          ]
        ];
  }

  first_redex-either : (f : ℕ) (ts : Trees) (r : Redex) (o : Option Match) → first_match sig rules (app f ts) ≡ o
      → (first_below sig rules 0 ts ≡ Some r → IsFirstBelow 0 ts r)
      → option_or (option_map (λ (m : Match). let x : Redex =
      record { position = []; «match» = m } in x) o) (first_below sig rules 0 ts) ≡ Some r
      → IsFirstRedex (app f ts) r
  first_redex-either f ts r None here later e = below-first f ts r here (later e)
  first_redex-either f ts r (Some m) here later e = root-Some (app f ts) r (Some m) here e

  first_below-either : (i : ℕ) (t : Tree) (ts : Trees) (r : Redex) (o : Option Redex) → first_redex sig rules t ≡ o
      → ((x : Redex) → first_redex sig rules t ≡ Some x → IsFirstRedex t x)
      → (first_below sig rules (suc i) ts ≡ Some r → IsFirstBelow (suc i) ts r)
      → option_or (option_map (at_argument i) o) (first_below sig rules (suc i) ts) ≡ Some r
      → IsFirstBelow i (more_trees t ts) r
  first_below-either i t ts r None here at later e = later-argument i t ts r here (later e)
  first_below-either i t ts r (Some x) here at later e = first-argument i t ts x r (cc) (at x here)

  mutual
    -- the redex is the first
    pub first_redex-Some : (t : Tree) (r : Redex) → first_redex sig rules t ≡ Some r → IsFirstRedex t r
    first_redex-Some (symbol n) r e = root-Some (symbol n) r (first_match sig rules (symbol n)) refl e
    first_redex-Some (app f ts) r e =
        first_redex-either f ts r (first_match sig rules (app f ts)) refl (λ h. first_below-Some 0 ts r h) e

    first_below-Some : (i : ℕ) (ts : Trees) (r : Redex) → first_below sig rules i ts ≡ Some r → IsFirstBelow i ts r
    first_below-Some i no_trees r e = cc
    first_below-Some i (more_trees t ts) r e =
        first_below-either i t ts r (first_redex sig rules t) refl (λ x h. first_redex-Some t x h)
        (λ h. first_below-Some (suc i) ts r h) e

  matched-None : {P : Type 0} (u : Tree) (m : Match) → first_match sig rules u ≡ Some m
      → first_match sig rules u ≡ None → P
  matched-None u m e f = cc

  first-same : (t : Tree) (r s : Redex) (o : Ordering) → slice_cmp nat_cmp r.position s.position ≡ o
      → IsFirstRedex t r → IsFirstRedex t s → r ≡ s
  first-same t r s Less e h k = matched-None h.under r.match h.matched (k.first r.position h.under e h.there)
  first-same t r s Greater e h k =
      let before : Precedes s.position r.position =
      nat_list_cmp_total.antisymm s.position r.position ∙ ap ordering_reverse e in
      matched-None k.under s.match k.matched (h.first s.position k.under before k.there)
  first-same t r s Equal e h k =
      let place : r.position ≡ s.position = nats_same r.position s.position e in
      let under : Some h.under ≡ Some k.under = sym h.there ∙ ap (subterm t) place ∙ k.there in
      let same : h.under ≡ k.under = cc in
      let found : Some r.match ≡ Some s.match = sym h.matched ∙ ap (first_match sig rules) same ∙ k.matched in
      same-redex r s place (cc)

  first_redex-found : (t : Tree) (r : Redex) (o : Option Redex) → first_redex sig rules t ≡ o → IsFirstRedex t r
      → first_redex sig rules t ≡ Some r
  first_redex-found t r None e h =
      matched-None h.under r.match h.matched (first_redex-None t e r.position h.under h.there)
  first_redex-found t r (Some s) e h =
      e ∙ ap Some (first-same t s r (slice_cmp nat_cmp s.position r.position) refl (first_redex-Some t s e) h)

  -- the first is the redex
  pub first_redex-is : (t : Tree) (r : Redex) → IsFirstRedex t r → first_redex sig rules t ≡ Some r
  first_redex-is t r h = first_redex-found t r (first_redex sig rules t) refl h
