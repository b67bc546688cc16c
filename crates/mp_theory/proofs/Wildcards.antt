-- A wildcard takes a list at a final value of its variable exactly where the list gives a value that the final one
-- agrees with.
use Rattle.std.proofs.Common.{◌≡◌, ℕ, ◌<◌, ◌≤◌, List, [], ◌∷◌, Bool, true, false, ◌&&◌, not, refl, ap, sym, ◌∙◌, subst}
use Rattle.std.proofs.Common.{length, ◌⊎◌, inl, inr, eqb-true, eq-eqb, arith}
use Rattle.std.specs.Prelude.{Option, Some, None, is_some, if◌then◌else◌, nat_eq}
use Rattle.std.specs.List.{AllByRecursion}
use Rattle.std.proofs.lemmas.Bool.{and_parts, and_from, not-true, not-false}
use Rattle.std.proofs.Math.Bool.{and-false}
use Rattle.mp_term.specs.Tree.{Tree, symbol, app, Trees, tree_list, trees}
use Rattle.mp_term.specs.Order.{tree_cmp}
use Rattle.mp_term.specs.Sorting.{sorted}
use Rattle.mp_term.specs.TreeLists.{tree_list-trees}
use Rattle.mp_term.specs.Signature.{Sig, is_assoc, is_comm, is_one, in_kind}
use Rattle.mp_term.specs.Normal.{IsNormal}
use Rattle.mp_term.specs.NormalTest.{has_head, ascending, passes, all_pass}
use Rattle.mp_term.proofs.Sorting.{ascends-sorted}
use Rattle.mp_term.proofs.NormalTestLaws.{normal-passes, passes-normal, sorted-ascending, ascending-from}
use Rattle.mp_term.specs.OrderLaws.{tree_cmp_total}
use Rattle.mp_pattern.specs.PatternTree.{Wildcard, dot, kind, plus, star, counted, meets_count, optional}
use Rattle.mp_pattern.specs.PatternTree.{is_sequence}
use Rattle.mp_pattern.specs.Value.{Value, one, seq, bag, IsFinal}
use Rattle.mp_pattern.specs.Variables.{comm_above}
use Rattle.mp_pattern.specs.Contribution.{contribution, spread, if_several}
use Rattle.mp_pattern.specs.Fits.{WildTakes, IsContributed, UnnamedTakes}
use Rattle.mp_pattern.specs.Holds.{is_bag}
use Rattle.mp_theory.specs.Solve.{is_alone, contributor, sequence, of_kind, given}
use Rattle.mp_theory.proofs.Merging.{Refines, sorted-sorted, from_if, refined_one}
use Rattle.mp_theory.proofs.SolveLaws.{contribution-found}
use Rattle.mp_theory.specs.Machine.{default_passes}
use Rattle.mp_theory.proofs.Cuts.{put}

-- an option that has a value
some_from : {A : Type 0} (o : Option A) → is_some o ≡ true → (v : A) × (o ≡ Some v)
some_from None e = cc
some_from (Some v) e = (v, refl)

-- a list that has several items is that list
pub if_several-some : (us l : List Tree) → if_several us ≡ Some l → us ≡ l
if_several-some [] l p = cc
if_several-some (u ∷ []) l p = cc
if_several-some (u ∷ w ∷ us) l p = cc

pub if_several-few : (l : List Tree) → length l < 2 → if_several l ≡ None
if_several-few [] h = refl
if_several-few (t ∷ []) h = refl
if_several-few (t ∷ u ∷ l) h = absurd (omega arith)

pub if_several-more : (l : List Tree) → 2 ≤ length l → if_several l ≡ Some l
if_several-more [] h = absurd (omega arith)
if_several-more (t ∷ []) h = absurd (omega arith)
if_several-more (t ∷ u ∷ l) h = refl

-- lists of one term or none are in order, and so is what was put in order
pub put-single : (b : Bool) (t : Tree) → put b (t ∷ []) ≡ t ∷ []
put-single true t = refl
put-single false t = refl

pub put-none : (b : Bool) → put b [] ≡ []
put-none true = refl
put-none false = refl

pub put-put : (b : Bool) (ts : List Tree) → put b (put b ts) ≡ put b ts
put-put true ts = sorted-sorted ts
put-put false ts = refl

module _ (sig : Sig) where
  -- the arguments of a term that passes are in order
  pub arguments-in_order : (g : ℕ) (ts : Trees) → passes sig (app g ts) ≡ true
      → put (is_comm sig g) (tree_list ts) ≡ tree_list ts
  arguments-in_order g ts h =
      let k = and_parts (not (is_comm sig g && not (ascending (tree_list ts)))) (all_pass sig g ts)
      (and_parts _ _ h).1 in
      elim (is_comm sig g) as (λ b. not (b && not (ascending (tree_list ts))) ≡ true
      → put b (tree_list ts) ≡ tree_list ts) [
        | true ↦ λ e. sorted-ascending (tree_list ts) (not-false _ (not-true _ e))
        | false ↦ λ e. refl
      ] k.0

  -- a normal term passes the test of normal form
  pub final-passes : (t : Tree) → IsNormal sig t → passes sig t ≡ true
  final-passes t e = subst (λ u. passes sig u ≡ true) e (passes-normal sig t)

  -- what a normal term contributes is in order
  spread-in_order : (g : ℕ) (v : Tree) (l : List Tree) → passes sig v ≡ true → spread g v ≡ Some l
      → put (is_comm sig g) l ≡ l
  spread-in_order g (symbol n) l h e = let q : symbol n ∷ [] ≡ l = cc in
      subst (λ m. put (is_comm sig g) m ≡ m) q (put-single (is_comm sig g) (symbol n))
  spread-in_order g (app f ts) l h e =
      elim (nat_eq g f) as (λ b. nat_eq g f ≡ b
      → (if b then if_several (tree_list ts) else Some (app f ts ∷ [])) ≡ Some l → put (is_comm sig g) l ≡ l) [
        | true ↦ λ q p. subst (λ m. put (is_comm sig g) m ≡ m) (if_several-some (tree_list ts) l p)
            (subst (λ k. put (is_comm sig k) (tree_list ts) ≡ tree_list ts) (sym (eqb-true g f q))
            (arguments-in_order f ts h))
        | false ↦ λ q p. let r : app f ts ∷ [] ≡ l = cc in
            subst (λ m. put (is_comm sig g) m ≡ m) r (put-single (is_comm sig g) (app f ts))
      ] refl e

  pub contribution-in_order : (f : Option ℕ) (v : Tree) (l : List Tree) → IsNormal sig v → contribution sig f v ≡ Some l
      → put (comm_above sig f) l ≡ l
  contribution-in_order None v l h e = refl
  contribution-in_order (Some g) v l h e =
      elim (is_assoc sig g) as (λ b. (if b then spread g v else Some (v ∷ [])) ≡ Some l → put (is_comm sig g) l ≡ l) [
        | true ↦ λ p. spread-in_order g v l (final-passes v h) p
        | false ↦ λ p. let r : v ∷ [] ≡ l = cc in
            subst (λ m. put (is_comm sig g) m ≡ m) r (put-single (is_comm sig g) v)
      ] e

  -- what l gives, and that v agrees with it, unless v is a multiset for a use under an operation that isn't commutative
  pub record Gives (f : Option ℕ) (w : Wildcard) (v : Value) (l : List Tree) : Type 0 where
    pub value : Value
    pub is : given sig f w l ≡ Some value
    pub in_order : put (comm_above sig f) l ≡ l
    pub refines : (is_sequence w ≡ true → comm_above sig f ≡ false → is_bag (Some v) ≡ false) → Refines value v

  -- a tuple and a multiset agree with what they take
  tuple_refines : (b : Bool) (m l : List Tree) → l ≡ put b m → Refines (if b then bag l else seq l) (seq m)
  tuple_refines true m l e = e
  tuple_refines false m l e = e

  multiset_refines : (b : Bool) (m l : List Tree) → l ≡ m → (b ≡ false → true ≡ false)
      → Refines (if b then bag l else seq l) (bag m)
  multiset_refines true m l e h = e
  multiset_refines false m l e h = let q : true ≡ false = h refl in cc

  -- what a final sequence takes is in order
  put_is : (b : Bool) (m l : List Tree) → l ≡ put b m → put b l ≡ l
  put_is b m l e = subst (λ n. put b n ≡ n) (sym e) (put-put b m)

  put_is_same : (b : Bool) (m l : List Tree) → l ≡ m → sorted tree_cmp m ≡ m → put b l ≡ l
  put_is_same true m l e h = subst (λ n. sorted tree_cmp n ≡ n) (sym e) h
  put_is_same false m l e h = refl

  -- the empty list is contributed by no term
  contributor_some : (f : Option ℕ) (w : Value) (l : List Tree) → contributor sig f l ≡ Some w → (l ≡ [] → ⊥)
  contributor_some f w l e q = let r : None ≡ Some w = sym (ap (contributor sig f) q) ∙ e in cc

  -- the first direction
  pub gives : (f : Option ℕ) (w : Wildcard) (v : Value) (l : List Tree) → IsFinal sig v → WildTakes sig f w v l
      → Gives f w v l
  gives f dot (one v) l h e = record {
    value = one v;
    is = contribution-found sig f v l e;
    in_order = contribution-in_order f v l h e;
    refines = λ _. refl;
  }
  gives f (kind k) (one v) l h e =
      record {
        value = one v;
        is = subst (λ m. of_kind sig k m ≡ Some (one v)) (sym e.0) (rw e.1 refl);
        in_order = subst (λ m. put (comm_above sig f) m ≡ m) (sym e.0) (put-single (comm_above sig f) v);
        refines = λ _. refl;
      }
  gives f plus (seq m) [] h e = absurd (e.1 refl)
  gives f plus (seq m) (t ∷ l) h e = record {
    value = sequence sig f (t ∷ l);
    is = refl;
    in_order = put_is (comm_above sig f) m (t ∷ l) e.0;
    refines = λ _. tuple_refines (comm_above sig f) m (t ∷ l) e.0;
  }
  gives f plus (bag m) [] h e = absurd (e.1 refl)
  gives f plus (bag m) (t ∷ l) h e = record {
    value = sequence sig f (t ∷ l);
    is = refl;
    in_order = put_is_same (comm_above sig f) m (t ∷ l) e.0 h.1;
    refines = λ k. multiset_refines (comm_above sig f) m (t ∷ l) e.0 (k refl);
  }
  gives f star (seq m) l h e = record {
    value = sequence sig f l;
    is = refl;
    in_order = put_is (comm_above sig f) m l e;
    refines = λ _. tuple_refines (comm_above sig f) m l e;
  }
  gives f star (bag m) l h e =
      record {
        value = sequence sig f l;
        is = refl;
        in_order = put_is_same (comm_above sig f) m l e h.1;
        refines = λ k. multiset_refines (comm_above sig f) m l e (k refl);
      }
  gives f (counted n c) (seq m) l h e = record {
    value = sequence sig f l;
    is = rw e.1 refl;
    in_order = put_is (comm_above sig f) m l e.0;
    refines = λ _. tuple_refines (comm_above sig f) m l e.0;
  }
  gives f (counted n c) (bag m) l h e = record {
    value = sequence sig f l;
    is = rw e.1 refl;
    in_order = put_is_same (comm_above sig f) m l e.0 h.1;
    refines = λ k. multiset_refines (comm_above sig f) m l e.0 (k refl);
  }
  gives f (optional d) (one v) [] h (inl e) =
      absurd (contributor_some f (one v) [] (contribution-found sig f v [] e) refl)
  gives f (optional d) (one v) (t ∷ l) h (inl e) =
      record {
        value = one v;
        is = contribution-found sig f v (t ∷ l) e;
        in_order = contribution-in_order f v (t ∷ l) h e;
        refines = λ _. refl;
      }
  gives f (optional d) (one v) [] h (inr e) =
      record { value = one d; is = refl; in_order = put-none (comm_above sig f); refines = λ _. sym e.1 }
  gives f (optional d) (one v) (t ∷ l) h (inr e) = let q : t ∷ l ≡ [] = e.0 in cc
  gives f dot (seq m) l h e = absurd e
  gives f dot (bag m) l h e = absurd e
  gives f (kind k) (seq m) l h e = absurd e
  gives f (kind k) (bag m) l h e = absurd e
  gives f plus (one v) l h e = absurd e
  gives f star (one v) l h e = absurd e
  gives f (counted n c) (one v) l h e = absurd e
  gives f (optional d) (seq m) l h e = absurd e
  gives f (optional d) (bag m) l h e = absurd e

  -- a term that contributes the list is the one that is found from it
  pub record Contributed (f : Option ℕ) (l : List Tree) (w : Value) : Type 0 where
    pub term : Tree
    pub is : w ≡ one term
    pub contributes : contribution sig f term ≡ Some l

  -- a term that f doesn't open contributes itself
  alone-contributes : (g : ℕ) (t : Tree) → is_alone sig (Some g) t ≡ true → contribution sig (Some g) t ≡ Some (t ∷ [])
  alone-contributes g t h =
      elim (is_assoc sig g) as (λ b. not (b && has_head g t) ≡ true
      → (if b then spread g t else Some (t ∷ [])) ≡ Some (t ∷ [])) [
        | true ↦ λ e. spread_alone t (not-true _ e)
        | false ↦ λ e. refl
      ] h
    where
      spread_alone : (t : Tree) → has_head g t ≡ false → spread g t ≡ Some (t ∷ [])
      spread_alone (symbol n) e = refl
      spread_alone (app f ts) e = rw e refl

  -- the term that is found contributes the list
  pub contributor-contributes : (f : Option ℕ) (l : List Tree) (w : Value) → contributor sig f l ≡ Some w
      → Contributed f l w
  contributor-contributes f [] w e = cc
  contributor-contributes None (t ∷ []) w e = record { term = t; is = cc; contributes = refl }
  contributor-contributes (Some g) (t ∷ []) w e =
      elim (is_alone sig (Some g) t) as (λ b. is_alone sig (Some g) t ≡ b → (if b then Some (one t) else None) ≡ Some w
      → Contributed (Some g) (t ∷ []) w) [
        | true ↦ λ q p. record { term = t; is = cc; contributes = alone-contributes g t q }
        | false ↦ λ q p. cc
      ] refl e
  contributor-contributes None (t ∷ u ∷ l) w e = cc
  contributor-contributes (Some g) (t ∷ u ∷ l) w e =
      elim (is_assoc sig g) as (λ b. is_assoc sig g ≡ b
      → (if b then Some (one (app g (trees (t ∷ u ∷ l)))) else None) ≡ Some w → Contributed (Some g) (t ∷ u ∷ l) w) [
        | true ↦ λ q p. record {
          term = app g (trees (t ∷ u ∷ l));
          is = cc;
          contributes = rw (q, eq-eqb g g refl, tree_list-trees l) refl;
        }
        | false ↦ λ q p. cc
      ] refl e

  -- the final values of a sequence
  sequence_takes : (b : Bool) (l : List Tree) (v : Value) → put b l ≡ l → Refines (if b then bag l else seq l) v
      → (m : List Tree) × (((v ≡ seq m) × (l ≡ put b m)) ⊎ ((v ≡ bag m) × (l ≡ m)))
  sequence_takes true l (one u) e r = absurd r
  sequence_takes true l (seq m) e r = (m, inl (refl, r))
  sequence_takes true l (bag m) e r = (m, inr (refl, r))
  sequence_takes false l (one u) e r = absurd r
  sequence_takes false l (seq m) e r = (m, inl (refl, r))
  sequence_takes false l (bag m) e r = absurd r

  -- the second direction
  pub takes-given : (f : Option ℕ) (w : Wildcard) (g v : Value) (l : List Tree) → given sig f w l ≡ Some g
      → put (comm_above sig f) l ≡ l → Refines g v → WildTakes sig f w v l
  takes-given f dot g v l e o r =
      let c = contributor-contributes f l g e in
      subst (λ x. WildTakes sig f dot x l) (sym (refined_one c.term v (subst (λ x. Refines x v) c.is r))) c.contributes
  takes-given f (kind k) g v [] e o r = cc
  takes-given f (kind k) g v (t ∷ []) e o r =
      elim (in_kind sig k t) as (λ b. in_kind sig k t ≡ b → (if b then Some (one t) else None) ≡ Some g
      → WildTakes sig f (kind k) v (t ∷ [])) [
        | true ↦ λ q p. let i : g ≡ one t = cc in
            subst (λ x. WildTakes sig f (kind k) x (t ∷ [])) (sym (refined_one t v (subst (λ x. Refines x v) i r)))
            (refl, q)
        | false ↦ λ q p. cc
      ] refl e
  takes-given f (kind k) g v (t ∷ u ∷ l) e o r = cc
  takes-given f plus g v [] e o r = cc
  takes-given f plus g v (t ∷ l) e o r =
      let i : g ≡ sequence sig f (t ∷ l) = cc in
      let s = sequence_takes (comm_above sig f) (t ∷ l) v o (subst (λ x. Refines x v) i r) in
      elim s.1 [
        | inl h ↦ subst (λ x. WildTakes sig f plus x (t ∷ l)) (sym h.0) (h.1, λ q. cc)
        | inr h ↦ subst (λ x. WildTakes sig f plus x (t ∷ l)) (sym h.0) (h.1, λ q. cc)
      ]
  takes-given f star g v l e o r =
      let i : g ≡ sequence sig f l = cc in
      let s = sequence_takes (comm_above sig f) l v o (subst (λ x. Refines x v) i r) in
      elim s.1 [
        | inl h ↦ subst (λ x. WildTakes sig f star x l) (sym h.0) h.1
        | inr h ↦ subst (λ x. WildTakes sig f star x l) (sym h.0) h.1
      ]
  takes-given f (counted n c) g v l e o r =
      let i = from_if (meets_count n c (length l)) (sequence sig f l) g e in
      let s = sequence_takes (comm_above sig f) l v o (subst (λ x. Refines x v) (sym i.1) r) in
      elim s.1 [
        | inl h ↦ subst (λ x. WildTakes sig f (counted n c) x l) (sym h.0) (h.1, i.0)
        | inr h ↦ subst (λ x. WildTakes sig f (counted n c) x l) (sym h.0) (h.1, i.0)
      ]
  takes-given f (optional d) g v [] e o r =
      let i : g ≡ one d = cc in
      subst (λ x. WildTakes sig f (optional d) x []) (sym (refined_one d v (subst (λ x. Refines x v) i r)))
      (inr (refl, refl))
  takes-given f (optional d) g v (t ∷ l) e o r =
      let c = contributor-contributes f (t ∷ l) g e in
      subst (λ x. WildTakes sig f (optional d) x (t ∷ l)) (sym (refined_one c.term v (subst (λ x. Refines x v) c.is r)))
      (inl c.contributes)

  -- terms that may be left for the children of f: normal, in order, and where there are several, none that f would open
  pub record IsFine (f : Option ℕ) (ts : List Tree) : Type 0 where
    pub pass : AllByRecursion (λ t. passes sig t ≡ true) ts
    pub alone : 2 ≤ length ts → AllByRecursion (λ t. is_alone sig f t ≡ true) ts
    pub in_order : put (comm_above sig f) ts ≡ ts

  -- fine terms pass the tests of an application's arguments
  all_normal : (ts : List Tree) → AllByRecursion (λ t. passes sig t ≡ true) ts → AllByRecursion (IsNormal sig) ts
  all_normal [] h = tt
  all_normal (t ∷ ts) h = (normal-passes sig t h.0, all_normal ts h.1)

  all_pass-from : (g : ℕ) (ts : List Tree) → AllByRecursion (λ t. passes sig t ≡ true) ts
      → AllByRecursion (λ t. is_alone sig (Some g) t ≡ true) ts → all_pass sig g (trees ts) ≡ true
  all_pass-from g [] h k = refl
  all_pass-from g (t ∷ ts) h k = and_from _ _ (and_from _ _ h.0 k.0) (all_pass-from g ts h.1 k.1)

  -- several such terms make up a normal term
  several-normal : (g : ℕ) (t u : Tree) (ts : List Tree) → IsFine (Some g) (t ∷ u ∷ ts)
      → IsNormal sig (app g (trees (t ∷ u ∷ ts)))
  several-normal g t u ts h =
      let order : not (is_comm sig g && not (ascending (t ∷ u ∷ ts))) ≡ true = ordered (is_comm sig g) h.in_order in
      let all : all_pass sig g (trees (t ∷ u ∷ ts)) ≡ true =
      all_pass-from g (t ∷ u ∷ ts) h.pass (h.alone (omega arith)) in
      normal-passes sig (app g (trees (t ∷ u ∷ ts)))
      (rw (and-false (is_one sig g), tree_list-trees ts) (and_from _ _ order all))
    where
      ordered : (b : Bool) → put b (t ∷ u ∷ ts) ≡ t ∷ u ∷ ts → not (b && not (ascending (t ∷ u ∷ ts))) ≡ true
      ordered true e = ap (λ b. not (true && not b))
          (subst (λ m. ascending m ≡ true) e
          (ascending-from (sorted tree_cmp (t ∷ u ∷ ts)) (ascends-sorted tree_cmp tree_cmp_total (t ∷ u ∷ ts))))
      ordered false e = refl

  -- the term that fine terms contribute to is normal, and the sequence of them final
  contributor-final : (f : Option ℕ) (l : List Tree) (g : Value) → contributor sig f l ≡ Some g → IsFine f l
      → IsFinal sig g
  contributor-final f [] g e h = cc
  contributor-final f (t ∷ []) g e h =
      elim (is_alone sig f t) as (λ b. (if b then Some (one t) else None) ≡ Some g → IsFinal sig g) [
        | true ↦ λ p. let i : one t ≡ g = cc in subst (IsFinal sig) i (normal-passes sig t h.pass.0)
        | false ↦ λ p. cc
      ] e
  contributor-final None (t ∷ u ∷ l) g e h = cc
  contributor-final (Some f) (t ∷ u ∷ l) g e h =
      elim (is_assoc sig f) as (λ b. (if b then Some (one (app f (trees (t ∷ u ∷ l)))) else None) ≡ Some g
      → IsFinal sig g) [
        | true ↦ λ p. let i : one (app f (trees (t ∷ u ∷ l))) ≡ g = cc in
            subst (IsFinal sig) i (several-normal f t u l h)
        | false ↦ λ p. cc
      ] e

  sequence-final : (f : Option ℕ) (l : List Tree) → IsFine f l → IsFinal sig (sequence sig f l)
  sequence-final f l h =
      elim (comm_above sig f) as (λ b. put b l ≡ l → IsFinal sig (if b then bag l else seq l))
      [ true ↦ λ e. (all_normal l h.pass, e) | false ↦ λ e. all_normal l h.pass ] h.in_order

  -- what such terms give a variable is final
  pub given-final : (f : Option ℕ) (w : Wildcard) (x : List ℕ) (l : List Tree) (g : Value) → given sig f w l ≡ Some g
      → default_passes sig (Some x) w l ≡ true → IsFine f l → IsFinal sig g
  given-final f dot x l g e d h = contributor-final f l g e h
  given-final f (kind k) x [] g e d h = cc
  given-final f (kind k) x (t ∷ []) g e d h =
      elim (in_kind sig k t) as (λ b. (if b then Some (one t) else None) ≡ Some g → IsFinal sig g) [
        | true ↦ λ p. let i : one t ≡ g = cc in subst (IsFinal sig) i (normal-passes sig t h.pass.0)
        | false ↦ λ p. cc
      ] e
  given-final f (kind k) x (t ∷ u ∷ l) g e d h = cc
  given-final f plus x [] g e d h = cc
  given-final f plus x (t ∷ l) g e d h = let i : sequence sig f (t ∷ l) ≡ g = cc in
      subst (IsFinal sig) i (sequence-final f (t ∷ l) h)
  given-final f star x l g e d h = let i : sequence sig f l ≡ g = cc in subst (IsFinal sig) i (sequence-final f l h)
  given-final f (counted n c) x l g e d h =
      subst (IsFinal sig) (from_if (meets_count n c (length l)) (sequence sig f l) g e).1 (sequence-final f l h)
  given-final f (optional u) x [] g e d h = let i : one u ≡ g = cc in subst (IsFinal sig) i (normal-passes sig u d)
  given-final f (optional u) x (t ∷ l) g e d h = contributor-final f (t ∷ l) g e h

  -- the value that a list is taken at has passed as a default
  pub taken-passes : (f : Option ℕ) (w : Wildcard) (x : List ℕ) (v : Value) (l : List Tree) → IsFinal sig v
      → WildTakes sig f w v l → default_passes sig (Some x) w l ≡ true
  taken-passes f dot x v l h e = refl
  taken-passes f (kind k) x v l h e = refl
  taken-passes f plus x v l h e = refl
  taken-passes f star x v l h e = refl
  taken-passes f (counted n c) x v l h e = refl
  taken-passes f (optional d) x v (t ∷ l) h e = refl
  taken-passes f (optional d) x (one v) [] h (inl e) =
      absurd (contributor_some f (one v) [] (contribution-found sig f v [] e) refl)
  taken-passes f (optional d) x (one v) [] h (inr e) = final-passes d (subst (IsNormal sig) e.1 h)
  taken-passes f (optional d) x (seq m) [] h e = absurd e
  taken-passes f (optional d) x (bag m) [] h e = absurd e

  -- what an unnamed wildcard takes gives a value, and is in order
  contributed : (f : Option ℕ) (l : List Tree) → IsContributed sig f l
      → (is_some (contributor sig f l) ≡ true) × (put (comm_above sig f) l ≡ l)
  contributed f l h = (ap is_some (contribution-found sig f h.0 l h.2), contribution-in_order f h.0 l h.1 h.2)

  pub unnamed-gives : (f : Option ℕ) (w : Wildcard) (l : List Tree) → UnnamedTakes sig f w l
      → (is_some (given sig f w l) ≡ true) × (put (comm_above sig f) l ≡ l)
  unnamed-gives f dot l h = contributed f l h
  unnamed-gives f (kind k) l h = subst (λ m. (is_some (of_kind sig k m) ≡ true) × (put (comm_above sig f) m ≡ m))
      (sym h.1) (rw h.2 refl, put-single (comm_above sig f) h.0)
  unnamed-gives f plus [] h = absurd (h.1 refl)
  unnamed-gives f plus (t ∷ l) h = (refl, h.0)
  unnamed-gives f star l h = (refl, h)
  unnamed-gives f (counted n c) l h = (rw h.1 refl, h.0)
  unnamed-gives f (optional d) [] h = (refl, put-none (comm_above sig f))
  unnamed-gives f (optional d) (t ∷ l) (inl h) = contributed f (t ∷ l) h
  unnamed-gives f (optional d) (t ∷ l) (inr q) = cc

  -- and back, where the terms are fine
  is_contributed : (f : Option ℕ) (l : List Tree) → is_some (contributor sig f l) ≡ true → IsFine f l
      → IsContributed sig f l
  is_contributed f l e h =
      let g = some_from (contributor sig f l) e in
      let c = contributor-contributes f l g.0 g.1 in
      (c.term, subst (IsFinal sig) c.is (contributor-final f l g.0 g.1 h), c.contributes)

  pub unnamed-takes : (f : Option ℕ) (w : Wildcard) (l : List Tree) → is_some (given sig f w l) ≡ true → IsFine f l
      → UnnamedTakes sig f w l
  unnamed-takes f dot l e h = is_contributed f l e h
  unnamed-takes f (kind k) [] e h = cc
  unnamed-takes f (kind k) (t ∷ []) e h = (
    t,
    refl,
    elim (in_kind sig k t) as (λ b. is_some (if b then Some (one t) else None) ≡ true → b ≡ true)
        [ true ↦ λ p. refl | false ↦ λ p. p ] e,
  )
  unnamed-takes f (kind k) (t ∷ u ∷ l) e h = cc
  unnamed-takes f plus [] e h = cc
  unnamed-takes f plus (t ∷ l) e h = (h.in_order, λ q. cc)
  unnamed-takes f star l e h = h.in_order
  unnamed-takes f (counted n c) l e h =
      let g = some_from (given sig f (counted n c) l) e in
      (h.in_order, (from_if (meets_count n c (length l)) (sequence sig f l) g.0 g.1).0)
  unnamed-takes f (optional d) [] e h = inr refl
  unnamed-takes f (optional d) (t ∷ l) e h = inl (is_contributed f (t ∷ l) e h)

-- a value agrees with itself
pub refines-itself : (v : Value) → Refines v v
refines-itself (one t) = refl
refines-itself (seq ts) = refl
refines-itself (bag ts) = refl
