-- What is found rule by rule is the all-list.
use Rattle.std.proofs.Common.{◌≡◌, ℕ, zero, suc, ◌+◌, ◌<◌, List, [], ◌∷◌, map, Bool, true, false}
use Rattle.std.proofs.Common.{refl, ap, sym, ◌∙◌, ◌⊎◌, inl, inr, subst, arith, append-nil}
use Rattle.std.specs.Prelude.{Option, Some, None, if◌then◌else◌, slice_get, option_map, option_and_then}
use Rattle.std.specs.List.{AllByRecursion, cons_option}
use Rattle.std.specs.List.Sorted.{IsStrictlySortedBy}
use Rattle.std.specs.declared.cmp.Ordering.TheVariants.{Less}
use Rattle.std.specs.Ordering.{ordering_then}
use Rattle.std.specs.Cmp.{nat_cmp_is}
use Rattle.mp_term.specs.Tree.{Tree}
use Rattle.mp_term.specs.Signature.{Sig}
use Rattle.mp_term.specs.Normal.{IsNormal}
use Rattle.mp_term.proofs.ListingLaws.{contains-from_in, in-from_contains}
use Rattle.mp_pattern.specs.PatternTree.{Pattern}
use Rattle.mp_pattern.specs.Syntactic.{is_syntactic}
use Rattle.mp_pattern.specs.Value.{Subst}
use Rattle.mp_pattern.specs.Admission.{Rule, meets, Admits}
use Rattle.mp_pattern.specs.Lists.{Pair, pair_cmp, subst_cmp, IsAllList}
use Rattle.mp_term.specs.Listing.{In}
use Rattle.mp_term.proofs.TestLaws.{found-behind}
use Rattle.mp_theory.specs.Solve.{solve}
use Rattle.mp_theory.specs.Shape.{shape, of_kinds, takings, table_of}
use Rattle.mp_net.specs.Net.{marks, Open, going, Turn, rules_at, IsNet, run}
use Rattle.mp_net.specs.Eaten.{eaten}
use Rattle.mp_net.specs.AllList.{tested, admitted, pairs_from, starts, shaped}
use Rattle.mp_theory.proofs.ShapeLaws.{fits-shape, shape-fits}
use Rattle.mp_net.proofs.NetLaws.{run-rules, marks-eaten}

-- what is found behind a test
met : (b : Bool) (s r : Subst) → (if b then Some s else None) ≡ Some r → (b ≡ true) × (s ≡ r)
met true s r e = (refl, cc)
met false s r e = cc

-- and behind a step
met_then : (o : Option Subst) (test : Subst → Bool) (s : Subst)
    → option_and_then (λ r. if test r then Some r else None) o ≡ Some s → (o ≡ Some s) × (test s ≡ true)
met_then None test s e = cc
met_then (Some r) test s e = let k = met (test r) r s e in (ap Some k.1, subst (λ u. test u ≡ true) k.1 k.0)

module _ (sig : Sig) (t : Tree) where
  -- the rule admits exactly the substitution that is found
  admitted-admits : (r : Rule) (s : Subst) → IsNormal sig t → is_syntactic sig r.pattern ≡ true
      → admitted sig t r ≡ Some s → Admits sig r t s
  admitted-admits r s n k e =
      let a = found-behind (shape r.pattern t) (tested sig t r) s e in
      let b = found-behind (of_kinds sig r.pattern t) _ s a.1 in
      let c = met_then (solve sig [] (takings None r.pattern t)) (meets sig r.condition) s b.1 in
      record { table = table_of r.pattern t; fits = shape-fits sig r.pattern t s k n a.0 b.0 c.0; condition = c.1 }

  admits-admitted : (r : Rule) (s : Subst) → is_syntactic sig r.pattern ≡ true → Admits sig r t s
      → admitted sig t r ≡ Some s
  admits-admitted r s k h =
      let a = fits-shape sig r.pattern t s h.table k h.fits in
      rw (a.0, a.1, a.2, h.condition) refl

  -- where a pair comes from
  record From (i : ℕ) (rs : List Rule) (p : Pair) : Type 0 where
    pub index : ℕ
    pub rule : Rule
    pub number : p.0 ≡ i + index
    pub held : slice_get rs index ≡ Some rule
    pub found : admitted sig t rule ≡ Some p.1

  in-cons_option : (p : Pair) (i : ℕ) (o : Option Subst) (ps : List Pair)
      → In p (cons_option (option_map (λ s. (i, s)) o) ps) → ((p.0 ≡ i) × (o ≡ Some p.1)) ⊎ In p ps
  in-cons_option p i None ps h = inr h
  in-cons_option p i (Some s) ps (inl e) = inl (ap (λ q. q.0) e, ap (λ q. Some q.1) (sym e))
  in-cons_option p i (Some s) ps (inr h) = inr h

  in-pairs : (p : Pair) (i : ℕ) (rs : List Rule) → In p (pairs_from sig t i rs) → From i rs p
  in-pairs p i [] h = absurd h
  in-pairs p i (r ∷ rs) h =
      elim (in-cons_option p i (admitted sig t r) (pairs_from sig t (suc i) rs) h) [
        | inl e ↦ record { index = 0; rule = r; number = omega (arith, e.0); held = refl; found = e.1 }
        | inr k ↦ let f = in-pairs p (suc i) rs k in record {
          index = suc f.index;
          rule = f.rule;
          number = omega (arith, f.number);
          held = f.held;
          found = f.found;
        }
      ]

  cons_option-in : (p : Pair) (i : ℕ) (s : Subst) (o : Option Subst) (ps : List Pair) → p ≡ (i, s) → o ≡ Some s
      → In p (cons_option (option_map (λ s. (i, s)) o) ps)
  cons_option-in p i s None ps e h = cc
  cons_option-in p i s (Some r) ps e h = let q : r ≡ s = cc in inl (e ∙ ap (λ u. (i, u)) (sym q))

  behind-cons_option : (p : Pair) (i : ℕ) (o : Option Subst) (ps : List Pair) → In p ps
      → In p (cons_option (option_map (λ s. (i, s)) o) ps)
  behind-cons_option p i None ps h = h
  behind-cons_option p i (Some s) ps h = inr h

  pairs-in : (p : Pair) (i j : ℕ) (rs : List Rule) (r : Rule) → p.0 ≡ i + j → slice_get rs j ≡ Some r
      → admitted sig t r ≡ Some p.1 → In p (pairs_from sig t i rs)
  pairs-in p i j [] r e h k = cc
  pairs-in p i zero (q ∷ rs) r e h k =
      let same : q ≡ r = let w : Some q ≡ Some r = h in cc in
      let n : p.0 ≡ i = omega (arith, e) in
      cons_option-in p i p.1 (admitted sig t q) (pairs_from sig t (suc i) rs) (ap (λ m. (m, p.1)) n)
      (ap (admitted sig t) same ∙ k)
  pairs-in p i (suc j) (q ∷ rs) r e h k =
      behind-cons_option p i (admitted sig t q) (pairs_from sig t (suc i) rs)
      (pairs-in p (suc i) j rs r (omega (arith, e)) h k)

  -- the pairs ascend
  later : (i k : ℕ) (s : Subst) (rs : List Rule) → i < k
      → AllByRecursion (λ p. pair_cmp (i, s) p ≡ Less) (pairs_from sig t k rs)
  later i k s [] h = tt
  later i k s (r ∷ rs) h = at_rule (admitted sig t r) (later i (suc k) s rs (omega (arith, h)))
    where
      at_rule : (o : Option Subst) → AllByRecursion (λ p. pair_cmp (i, s) p ≡ Less) (pairs_from sig t (suc k) rs)
          → AllByRecursion (λ p. pair_cmp (i, s) p ≡ Less) (cons_option (option_map (λ u. (k, u)) o)
          (pairs_from sig t (suc k) rs))
      at_rule None a = a
      at_rule (Some u) a = (ap (λ o. ordering_then o (subst_cmp s u)) (sym (nat_cmp_is i k Less h)), a)

  pairs-ascend : (i : ℕ) (rs : List Rule) → IsStrictlySortedBy pair_cmp (pairs_from sig t i rs)
  unfolding IsStrictlySortedBy
  pairs-ascend i [] = tt
  pairs-ascend i (r ∷ rs) = at_rule (admitted sig t r) (pairs-ascend (suc i) rs)
    where
      at_rule : (o : Option Subst) → IsStrictlySortedBy pair_cmp (pairs_from sig t (suc i) rs)
          → IsStrictlySortedBy pair_cmp (cons_option (option_map (λ s. (i, s)) o) (pairs_from sig t (suc i) rs))
      at_rule None a = a
      at_rule (Some s) a = (later i (suc i) s rs (omega arith), a)

  -- each rule of the list is syntactic
  held_syntactic : (rs : List Rule) (j : ℕ) (r : Rule) → AllByRecursion (λ r. is_syntactic sig r.pattern ≡ true) rs
      → slice_get rs j ≡ Some r → is_syntactic sig r.pattern ≡ true
  held_syntactic [] j r a h = cc
  held_syntactic (q ∷ rs) zero r a h = let w : Some q ≡ Some r = h in let same : q ≡ r = cc in
      subst (λ u. is_syntactic sig u.pattern ≡ true) same a.0
  held_syntactic (q ∷ rs) (suc j) r a h = held_syntactic rs j r a.1 h

  pub pairs-all_list : (rules : List Rule) → IsNormal sig t
      → AllByRecursion (λ r. is_syntactic sig r.pattern ≡ true) rules → IsAllList sig rules t (pairs_from sig t 0 rules)
  pairs-all_list rules n k = record {
    exactly = λ p. (
      (λ h. let f = in-pairs p 0 rules (in-from_contains p (pairs_from sig t 0 rules) h) in
          let e : p.0 ≡ f.index = omega (arith, f.number) in (
            f.rule,
            ap (slice_get rules) e ∙ f.held,
            admitted-admits f.rule p.1 n (held_syntactic rules f.index f.rule k f.held) f.found,
          )),
      (λ h. contains-from_in p (pairs_from sig t 0 rules) (pairs-in p 0 p.0 rules h.0 (omega arith) h.1
          (admits-admitted h.0 p.1 (held_syntactic rules p.0 h.0 k h.1) h.2))),
    );
    ascending = pairs-ascend 0 rules;
  }

-- the rules that have gone through the tree are those of the shape
starts-shaped : (t : Tree) (i : ℕ) (ps : List Pattern)
    → map (λ o. o.rule) (going (eaten t) (starts i ps)) ≡ shaped t i ps
starts-shaped t i [] = refl
starts-shaped t i (p ∷ ps) =
    ap (λ r. map (λ o. o.rule) (cons_option (option_map (λ m. record { rule = i; rest = m }) r)
    (going (eaten t) (starts (suc i) ps)))) (ap (eaten t) (sym (append-nil (marks p))) ∙ marks-eaten p t [])
    ∙ by_shape (shape p t) (starts-shaped t (suc i) ps)
  where
    by_shape : (b : Bool) → map (λ o. o.rule) (going (eaten t) (starts (suc i) ps)) ≡ shaped t (suc i) ps
        → map (λ o. o.rule) (cons_option (option_map (λ m. record { rule = i; rest = m })
        (if b then Some [] else None)) (going (eaten t) (starts (suc i) ps))) ≡
        (if b then i ∷ shaped t (suc i) ps else shaped t (suc i) ps)
    by_shape true e = ap (λ ns. i ∷ ns) e
    by_shape false e = e

pub run-shaped : (rules : List (List Open)) (turns : List Turn) → IsNet rules turns
    → (t : Tree) (i : ℕ) (ps : List Pattern) (q : Option ℕ) → rules_at rules q ≡ starts i ps
    → map (λ o. o.rule) (rules_at rules (run turns t q)) ≡ shaped t i ps
run-shaped rules turns net t i ps q e = ap (map (λ o. o.rule)) (run-rules rules turns net t q
    ∙ ap (going (eaten t)) e) ∙ starts-shaped t i ps
