-- What a walk finds: that it is what the rules admit.
use Rattle.std.proofs.Common.{◌≡◌, ◌≤◌, ◌⊎◌, ℕ, true, false, List, [], ◌∷◌, ◌++◌, ◌+◌}
use Rattle.std.proofs.Common.{drop, refl, ap, sym, ◌∙◌}
use Rattle.std.proofs.Common.{inl, inr, subst, arith}
use Rattle.std.specs.Prelude.{◌↔◌, Contains, IfSome, IsSome, Option, Some, None, option_map}
use Rattle.std.specs.Prelude.{slice_get}
use Rattle.std.specs.List.{AllByRecursion}
use Rattle.mp_term.specs.Listing.{In}
use Rattle.mp_term.specs.Normal.{IsNormal}
use Rattle.mp_term.specs.Signature.{Sig}
use Rattle.mp_term.specs.Size.{node_count}
use Rattle.mp_term.specs.Tree.{Tree}
use Rattle.mp_term.proofs.ListLaws.{all-also, all-append, all-get}
use Rattle.mp_term.proofs.ListingLaws.{all_in, contains-from_in, in-from_contains}
use Rattle.mp_term.proofs.SearchLaws.{all-from_in, in-left, in-right}
use Rattle.mp_pattern.specs.Admission.{Rule, meets}
use Rattle.mp_pattern.specs.CondView.{cond_tree}
use Rattle.mp_pattern.specs.Operands.{IsConditionOver}
use Rattle.mp_pattern.specs.PatternTree.{Pattern}
use Rattle.mp_pattern.specs.RuleView.{rule_tree}
use Rattle.mp_pattern.specs.declared.rule.Rule as code_rule
use Rattle.mp_pattern.specs.declared.condition.Cond as code
use Rattle.mp_pattern.specs.Fits.{Fits, Table}
use Rattle.mp_pattern.specs.Lists.{Pair, PairAdmitted}
use Rattle.mp_pattern.specs.SoundRule.{AreSoundRules, HasSoundCondition, IsSoundPattern, IsSoundRule}
use Rattle.mp_pattern.specs.Value.{Subst}
use Rattle.mp_pattern.specs.declared.limits.TheConstants.{MAX_TERM_NODES}
use Rattle.mp_pattern.proofs.SoundRules.{DefaultsAreSmall-IsFormed, HasConditionOver-HasSoundCondition}
use Rattle.mp_cond.specs.Ready.{AreCountable, IsCountable, IsReady}
use Rattle.mp_cond.proofs.ReadyLaws.{IsReady-over}
use Rattle.mp_theory.specs.ValueSizes.{HasAtMost}
use Rattle.mp_theory.proofs.FitsSolves.{fits-solves}
use Rattle.mp_theory.proofs.ValueSizes.{fits-within}
use Rattle.mp_many.specs.Given.{IsGivenBy, IsPairOf}
use Rattle.mp_many.specs.Many.{Many}
use Rattle.mp_many.specs.WalkItems.{AreWalkItems, IsWalkItem}

module _ (sig : Sig) (rules : List Rule) (t : Tree) where
  -- ---- what the items give

  -- the pair of an item is admitted
  given-admitted : (i : ℕ × Table) (p : Pair) → IsGivenBy sig rules t i p → PairAdmitted sig rules t p
  given-admitted i p g = (
    g.rule,
    ap (slice_get rules) g.number ∙ g.numbered,
    record { table = i.1; fits = g.fits; condition = g.condition },
  )

  -- what was found is admitted, and what is admitted was found or is given by an item to come
  pub record HasFound (found : List Pair) (to_come : List (ℕ × Table)) : Type 0 where
    pub sound : AllByRecursion (PairAdmitted sig rules t) found
    pub complete : (p : Pair) → PairAdmitted sig rules t p
        → In p found ⊎ ((i : ℕ × Table) × In i to_come × IsGivenBy sig rules t i p)
    pub items : AllByRecursion (IsWalkItem sig rules t) to_come

  -- before the first item
  pub found-first : (is : List (ℕ × Table)) → AreWalkItems sig rules t is → HasFound [] is
  found-first is h = record {
    sound = tt;
    complete = λ p a. inr (
      (p.0, a.2.table),
      (h.exactly (p.0, a.2.table)).1 (record { rule = a.0; numbered = a.1; subst = p.1; fits = a.2.fits }),
      record { number = refl; rule = a.0; numbered = a.1; fits = a.2.fits; condition = a.2.condition },
    );
    items = all-from_in (IsWalkItem sig rules t) is (λ i j. (h.exactly i).0 j);
  }

  -- behind an item, with its pair, where it has one
  pub found-some : (found : List Pair) (is : List (ℕ × Table)) (i : ℕ × Table) (p : Pair) → HasFound found is
      → slice_get is 0 ≡ Some i → IsPairOf sig rules t i (Some p) → HasFound (found ++ p ∷ []) (drop 1 is)
  found-some found [] i p h e g = cc
  found-some found (j ∷ is) i p h e g =
      let same : j ≡ i = let w : Some j ≡ Some i = e in cc in
      record {
        sound = all-append (PairAdmitted sig rules t) found (p ∷ []) h.sound (given-admitted i p ((g p).1 refl), tt);
        complete = λ q a. elim (h.complete q a) [
          | inl k ↦ inl (in-left q found (p ∷ []) k)
          | inr k ↦ at_item q k.0 k.1 k.2
        ];
        items = h.items.1;
      }
    where
      at_item : (q : Pair) (k : ℕ × Table) → In k (j ∷ is) → IsGivenBy sig rules t k q
          → In q (found ++ p ∷ []) ⊎ ((i : ℕ × Table) × In i is × IsGivenBy sig rules t i q)
      at_item q k (inl s) b =
          let same : j ≡ i = let w : Some j ≡ Some i = e in cc in
          let held : Some p ≡ Some q = (g q).0 (subst (λ l. IsGivenBy sig rules t l q) (s ∙ same) b) in
          let own : q ≡ p = cc in
          inl (in-right q found (p ∷ []) (inl own))
      at_item q k (inr s) b = inr (k, s, b)

  pub found-none : (found : List Pair) (is : List (ℕ × Table)) (i : ℕ × Table) → HasFound found is
      → slice_get is 0 ≡ Some i → IsPairOf sig rules t i None → HasFound found (drop 1 is)
  found-none found [] i h e g = cc
  found-none found (j ∷ is) i h e g = record {
    sound = h.sound;
    complete = λ q a. elim (h.complete q a) [ inl k ↦ inl k | inr k ↦ at_item q k.0 k.1 k.2 ];
    items = h.items.1;
  }
    where
      at_item : (q : Pair) (k : ℕ × Table) → In k (j ∷ is) → IsGivenBy sig rules t k q
          → In q found ⊎ ((i : ℕ × Table) × In i is × IsGivenBy sig rules t i q)
      at_item q k (inl s) b =
          let same : j ≡ i = let w : Some j ≡ Some i = e in cc in
          let held : None ≡ Some q = (g q).0 (subst (λ l. IsGivenBy sig rules t l q) (s ∙ same) b) in
          cc
      at_item q k (inr s) b = inr (k, s, b)

  -- other lists of the same pairs
  pub found-alike : (found other : List Pair) (is : List (ℕ × Table)) → HasFound found is
      → ((p : Pair) → Contains other p ↔ Contains found p) → HasFound other is
  found-alike found other is h same = record {
    sound = all-from_in (PairAdmitted sig rules t) other (λ p i.
        all_in (PairAdmitted sig rules t) found p h.sound
        (in-from_contains p found ((same p).0 (contains-from_in p other i))));
    complete = λ p a. elim (h.complete p a) [
      | inl k ↦ inl (in-from_contains p other ((same p).1 (contains-from_in p found k)))
      | inr k ↦ inr k
    ];
    items = h.items;
  }

  module _ (found : List Pair) (is : List (ℕ × Table)) (h : HasFound found is) where
    pub step-some : (item : Option (ℕ × Table)) (o : Option Pair) (p : Pair) → IsSome item → item ≡ slice_get is 0
        → IfSome item (λ i. IsPairOf sig rules t i o) → o ≡ Some p → HasFound (found ++ p ∷ []) (drop 1 is)
    step-some None o p s e g k = cc
    step-some (Some i) o p s e g k = found-some found is i p h (sym e) (subst (IsPairOf sig rules t i) k g)

    pub step-none : (item : Option (ℕ × Table)) (o : Option Pair) → IsSome item → item ≡ slice_get is 0
        → IfSome item (λ i. IsPairOf sig rules t i o) → o ≡ None → HasFound found (drop 1 is)
    step-none None o s e g k = cc
    step-none (Some i) o s e g k = found-none found is i h (sym e) (subst (IsPairOf sig rules t i) k g)

    pub step-last : (item : Option (ℕ × Table)) → (IsSome item → ⊥) → item ≡ slice_get is 0
        → slice_get is 0 ≡ None
    step-last None s e = sym e
    step-last (Some i) s e = absurd (s refl)

  -- behind the last item
  pub found-last : (found : List Pair) (is : List (ℕ × Table)) → HasFound found is → slice_get is 0 ≡ None
      → (p : Pair) → Contains found p ↔ PairAdmitted sig rules t p
  found-last found [] h e p = (
    λ c. all_in (PairAdmitted sig rules t) found p h.sound (in-from_contains p found c),
    λ a. elim (h.complete p a) [ inl k ↦ contains-from_in p found k | inr k ↦ absurd k.1 ],
  )
  found-last found (j ∷ is) h e p = cc

  -- ---- the pair of an item

  module _ (normal : IsNormal sig t) (i : ℕ × Table) (r : Rule) (held : slice_get rules i.0 ≡ Some r) (s : Subst)
      (fits : Fits sig r.pattern t s i.1) where
    abbrev own : Pair
    own = (i.0, s)

    -- a table fits with one substitution
    fits-same : (u : Subst) → Fits sig r.pattern t u i.1 → u ≡ s
    fits-same u h =
        let one = (fits-solves sig r.pattern t u i.1 normal h).1 in
        let other = (fits-solves sig r.pattern t s i.1 normal fits).1 in
        let both : Some u ≡ Some s = sym one ∙ other in
        cc

    given-same : (p : Pair) → IsGivenBy sig rules t i p → (p ≡ own) × (meets sig r.condition s ≡ true)
    given-same p g =
        let both : Some g.rule ≡ Some r = sym g.numbered ∙ held in
        let rule : g.rule ≡ r = cc in
        let same : p.1 ≡ s = fits-same p.1 (subst (λ q. Fits sig q.pattern t p.1 i.1) rule g.fits) in (
          ap (λ (n : ℕ). (n, p.1)) g.number ∙ ap (λ (u : Subst). (i.0, u)) same,
          ap (λ u. meets sig r.condition u) (sym same) ∙ ap (λ q. meets sig q.condition p.1) (sym rule) ∙ g.condition,
        )

    pub pair_of-some : meets sig r.condition s ≡ true → IsPairOf sig rules t i (Some own)
    pair_of-some m p = (
      λ g. ap Some (sym (given-same p g).0),
      λ e.
          let same : own ≡ p = let w : Some own ≡ Some p = e in cc in
          subst (IsGivenBy sig rules t i) same
          (record { number = refl; rule = r; numbered = held; fits = fits; condition = m }),
    )

    pub pair_of-none : meets sig r.condition s ≡ false → IsPairOf sig rules t i None
    pair_of-none m p = (
      λ g. let q = (given-same p g).1 in cc,
      λ e. cc,
    )

-- ---- conditions

module _ (sig : Sig) (t : Tree) (few : node_count t ≤ MAX_TERM_NODES) where
  -- a substitution that fits is ready for a condition that is sound
  pub ready-fits : (p : Pattern) (s : Subst) (T : Table) (o : Option code.Cond) → IsSoundPattern sig p
      → HasSoundCondition sig p (option_map cond_tree o) → Fits sig p t s T → IfSome o (λ c. IsReady s (cond_tree c))
  ready-fits p s T None sound h fits = tt
  ready-fits p s T (Some c) sound h fits =
      let small = DefaultsAreSmall-IsFormed sig p sound.formed in
      let within = fits-within sig (MAX_TERM_NODES + 1) (omega arith) p t s T small (omega (arith, few)) fits in
      let countable : AreCountable s =
      all-also (λ b. HasAtMost (MAX_TERM_NODES + 1) b.value) (λ b. IsCountable b.value) (λ b k. omega (arith, k)) s
      within in
      let over = HasConditionOver-HasSoundCondition sig p (Some (cond_tree c)) h in
      IsReady-over s (cond_tree c)
      (subst (λ xs. IsConditionOver xs (cond_tree c)) (sym fits.subst_of.names) over) countable

-- ---- the item of a walk

module _ (m : Many) (t : Tree) (sound : AreSoundRules m.sig m.rules) (normal : IsNormal m.sig t)
    (few : node_count t ≤ MAX_TERM_NODES) (n : ℕ) (rule : code_rule.Rule)
    (held : slice_get m.rules n ≡ Some (rule_tree rule)) (s : Subst) where
  -- the item is of the rule, and its table fits with the substitution
  abbrev IsOf : Option (ℕ × Table) → Type 0
  IsOf item = IfSome item (λ i. n ≡ i.0)
      × IfSome item (λ i. IfSome (slice_get m.rules i.0) (λ r. Fits m.sig r.pattern t s i.1))

  of-item : (i : ℕ × Table) → IsOf (Some i)
      → (slice_get m.rules i.0 ≡ Some (rule_tree rule)) × Fits m.sig (rule_tree rule).pattern t s i.1
  of-item i h =
      let own : slice_get m.rules i.0 ≡ Some (rule_tree rule) = subst (λ k. slice_get m.rules k ≡ Some (rule_tree rule))
      h.0 held in
      (own, subst (λ o. IfSome o (λ r. Fits m.sig r.pattern t s i.1)) own h.1)

  -- so the substitution is ready for the rule's condition
  pub ready-item : (item : Option (ℕ × Table)) → IsSome item → IsOf item
      → IfSome rule.condition (λ c. IsReady s (cond_tree c))
  ready-item None h k = cc
  ready-item (Some i) h k =
      let own = all-get (IsSoundRule m.sig) m.rules n (rule_tree rule) sound.each held in
      ready-fits m.sig t few (rule_tree rule).pattern s i.1 rule.condition own.pattern own.condition (of-item i k).1

  -- and where this holds it is the pair of the item
  pub some-item : (item : Option (ℕ × Table)) → IsSome item → IsOf item
      → meets m.sig (rule_tree rule).condition s ≡ true → IfSome item (λ i. IsPairOf m.sig m.rules t i (Some (n, s)))
  some-item None h k e = cc
  some-item (Some i) h k e =
      let f = of-item i k in
      subst (λ x. IsPairOf m.sig m.rules t i (Some (x, s))) (sym k.0)
      (pair_of-some m.sig m.rules t normal i (rule_tree rule) f.0 s f.1 e)

  pub none-item : (item : Option (ℕ × Table)) → IsSome item → IsOf item
      → meets m.sig (rule_tree rule).condition s ≡ false → IfSome item (λ i. IsPairOf m.sig m.rules t i None)
  none-item None h k e = cc
  none-item (Some i) h k e =
      let f = of-item i k in
      pair_of-none m.sig m.rules t normal i (rule_tree rule) f.0 s f.1 e

-- numbers that are both that of the item's rule are the same
pub same-number : (item : Option (ℕ × Table)) (a b : ℕ) → IsSome item → IfSome item (λ i. a ≡ i.0)
    → IfSome item (λ i. b ≡ i.0) → a ≡ b
same-number None a b s h k = cc
same-number (Some i) a b s h k = h ∙ sym k
