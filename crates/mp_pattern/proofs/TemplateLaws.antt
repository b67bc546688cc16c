-- A sound template has an instance at each substitution that fits its pattern, and the instance is well formed.
use Rattle.std.proofs.Common.{◌≡◌, ℕ, ◌+◌, ◌≤◌, Bool, true, false, ◌&&◌, ◌||◌, not, List, [], ◌∷◌}
use Rattle.std.proofs.Common.{◌++◌, map, length, Option, Some, None, refl, ap, sym, ◌∙◌, subst, arith, inl, inr}
use Rattle.std.proofs.Common.{length-append, eqb-true}
use Rattle.std.specs.Prelude.{nat_eq, nat_le, slice_get, if◌then◌else◌}
use Rattle.std.specs.Option.{unwrap_or}
use Rattle.std.specs.List.{AllByRecursion}
use Rattle.std.proofs.lemmas.Bool.{and_parts, and_from, or_left}
use Rattle.std.proofs.lemmas.Bool.Decides.{nat_tests}
use Rattle.mp_term.specs.declared.signature.OpDecl.{OpDecl}
use Rattle.mp_term.specs.Tree.{Tree, symbol, app, Trees, no_trees, more_trees, tree_list, trees}
use Rattle.mp_term.specs.TreeLists.{tree_list-trees, trees-tree_list}
use Rattle.mp_term.specs.Order.{tree_cmp}
use Rattle.mp_term.specs.Sorting.{sorted}
use Rattle.mp_term.specs.Signature.{Sig, holds_of, allows, in_order, all_in_order, is_assoc, well_formed}
use Rattle.mp_term.specs.Signature.{all_well_formed}
use Rattle.mp_term.proofs.Sorting.{length-sorted}
use Rattle.mp_term.proofs.WellFormedNormal.{in_order-at}
use Rattle.mp_term.proofs.ListLaws.{all-append, all-split}
use Rattle.mp_pattern.specs.PatternTree.{Wildcard, dot, kind, plus, star, optional, counted, meets_count, Pattern}
use Rattle.mp_pattern.specs.PatternTree.{symbol_pattern, app_pattern, wild_pattern, Patterns, no_patterns}
use Rattle.mp_pattern.specs.PatternTree.{more_patterns}
use Rattle.mp_pattern.specs.TemplateTree.{Template, symbol_template, app_template, variable_template, Templates}
use Rattle.mp_pattern.specs.TemplateTree.{no_templates, more_templates}
use Rattle.mp_pattern.specs.Firsts.{is_known, add_new, firsts_after}
use Rattle.mp_pattern.specs.Value.{Value, one, seq, bag, Form, one_form, form_of, terms_of, Subst, value_of, same_name}
use Rattle.mp_pattern.specs.Variables.{Use, uses, all_uses, comm_above, variable_form}
use Rattle.mp_pattern.specs.Contribution.{if_several, spread, contribution}
use Rattle.mp_pattern.specs.Extent.{Extent, single, extent, sum_extent, allows_extent, extent_among, extent_named}
use Rattle.mp_pattern.specs.Extent.{template_extent, templates_extent}
use Rattle.mp_pattern.specs.Fits.{Table, joined, arranged, WildTakes, ByValue, Takes, AllTakeBy, Fits}
use Rattle.mp_pattern.specs.Holds.{listed}
use Rattle.mp_pattern.specs.Instance.{instances, all_instances, IsInstance}
use Rattle.mp_pattern.specs.SoundRule.{IsSoundWildcard, IsFormed, AreFormed, IsVariableOf, IsFormedTemplate}
use Rattle.mp_pattern.specs.SoundRule.{AreFormedTemplates, IsSoundTemplate}
use Rattle.mp_pattern.proofs.SortedLaws.{all-from_sorted}
use Rattle.mp_pattern.proofs.NameLaws.{same_name-is}

-- ---- extents

-- a number of terms is one of the extent
abbrev Meets : Extent → ℕ → Type 0
Meets e n = meets_count e.least e.fixed n ≡ true

meets-sum : (e f : Extent) (m n : ℕ) → Meets e m → Meets f n → Meets (sum_extent e f) (m + n)
meets-sum e f m n = go e.least e.fixed f.least f.fixed
  where
    go : (k : ℕ) (b : Bool) (l : ℕ) (c : Bool) → meets_count k b m ≡ true → meets_count l c n ≡ true
        → meets_count (k + l) (b && c) (m + n) ≡ true
    go k true l true h i = grind (arith, nat_tests)
    go k true l false h i = grind (arith, nat_tests)
    go k false l true h i = grind (arith, nat_tests)
    go k false l false h i = grind (arith, nat_tests)

-- each number of an extent that an operation allows is allowed
allows-extent : (e : Extent) (d : OpDecl) (n : ℕ) → allows_extent e d ≡ true → Meets e n → allows n d ≡ true
allows-extent e d n = go d.fixed e.fixed
  where
    go : (x b : Bool) → (if x then (b && nat_eq e.least d.least) else nat_le d.least e.least) ≡ true
        → meets_count e.least b n ≡ true → (if x then nat_eq n d.least else nat_le d.least n) ≡ true
    go true true h i = grind (arith, nat_tests)
    go true false h i = cc
    go false true h i = grind (arith, nat_tests)
    go false false h i = grind (arith, nat_tests)

-- ---- variables

known-append : (ys zs : List (List ℕ)) (x : List ℕ)
    → is_known same_name (ys ++ zs) x ≡ (is_known same_name ys x || is_known same_name zs x)
known-append [] zs x = refl
known-append (y ∷ ys) zs x = elim (same_name y x) as (λ b.
    (b || is_known same_name (ys ++ zs) x) ≡ ((b || is_known same_name ys x) || is_known same_name zs x))
    [ true ↦ refl | false ↦ known-append ys zs x ]

-- what is known after further items is known before or one of them
pub known-firsts : (ys xs : List (List ℕ)) (x : List ℕ) → is_known same_name (firsts_after same_name ys xs) x ≡ true
    → (is_known same_name ys x || is_known same_name xs x) ≡ true
known-firsts ys [] x h = or_left (is_known same_name ys x) false h
known-firsts ys (y ∷ xs) x h = by_known (is_known same_name ys y) (known-firsts (add_new same_name ys y) xs x h)
  where
    by_new : (a b c : Bool) → ((a || (b || false)) || c) ≡ true → (a || (b || c)) ≡ true
    by_new true b c k = refl
    by_new false true c k = refl
    by_new false false c k = k

    by_old : (a b c : Bool) → (a || c) ≡ true → (a || (b || c)) ≡ true
    by_old true b c k = refl
    by_old false true c k = refl
    by_old false false c k = k

    by_known : (b : Bool)
        → (is_known same_name (if b then ys else (ys ++ (y ∷ []))) x || is_known same_name xs x) ≡ true
        → (is_known same_name ys x || (same_name y x || is_known same_name xs x)) ≡ true
    by_known true k = by_old (is_known same_name ys x) (same_name y x) (is_known same_name xs x) k
    by_known false k = by_new (is_known same_name ys x) (same_name y x) (is_known same_name xs x)
        (sym (ap (λ b. b || is_known same_name xs x) (known-append ys (y ∷ []) x)) ∙ k)

-- ---- well formed terms

-- an associative declaration that is in order allows two arguments and more
assoc-allows : (d : OpDecl) (n : ℕ) → in_order d ≡ true → d.assoc ≡ true → 2 ≤ n → allows n d ≡ true
assoc-allows d n o a h =
    let few = and_parts (not d.assoc || (not d.fixed && nat_le d.least 2)) _ o in
    go d.assoc d.fixed a few.0
  where
    go : (x b : Bool) → x ≡ true → (not x || (not b && nat_le d.least 2)) ≡ true
        → (if b then nat_eq n d.least else nat_le d.least n) ≡ true
    go true true e k = cc
    go true false e k = grind (arith, nat_tests, h)
    go false b e k = cc

module _ (sig : Sig) where
  -- each term of the list is well formed
  abbrev pub AreWellFormed : List Tree → Type 0
  AreWellFormed = AllByRecursion (λ t. well_formed sig t ≡ true)

  all_well_formed-each : (ts : List Tree) → AreWellFormed ts → all_well_formed sig (trees ts) ≡ true
  all_well_formed-each [] h = refl
  all_well_formed-each (t ∷ ts) h = and_from _ _ h.0 (all_well_formed-each ts h.1)

  each-all_well_formed : (ts : Trees) → all_well_formed sig ts ≡ true → AreWellFormed (tree_list ts)
  each-all_well_formed no_trees h = tt
  each-all_well_formed (more_trees t ts) h = let p = and_parts _ _ h in (p.0, each-all_well_formed ts p.1)

  -- what is well formed in order is well formed
  formed-arranged : (f : Option ℕ) (ts : List Tree) → AreWellFormed (arranged sig f ts) → AreWellFormed ts
  formed-arranged f ts = elim (comm_above sig f) as
      (λ b. AreWellFormed (if b then sorted tree_cmp ts else ts) → AreWellFormed ts)
      [ true ↦ all-from_sorted (λ t. well_formed sig t ≡ true) tree_cmp ts | false ↦ λ h. h ]

  -- so are the arguments of a well formed application
  formed-arguments : (g : ℕ) (ts : List Tree) → AreWellFormed (app g (trees ts) ∷ []) → AreWellFormed ts
  formed-arguments g ts h = subst AreWellFormed (tree_list-trees ts)
      (each-all_well_formed (trees ts) (and_parts _ _ h.0).1)

  module _ (ordered : all_in_order sig.ops ≡ true) where
    -- a term of which an associative operation has the arguments, two or more, is well formed where these are
    formed-several : (f : ℕ) (ts : Trees) (l : List Tree) → is_assoc sig f ≡ true → if_several (tree_list ts) ≡ Some l
        → AreWellFormed l → well_formed sig (app f ts) ≡ true
    formed-several f ts l a e h =
        let s = several-terms (tree_list ts) l e in
        and_from _ _ (allowed (slice_get sig.ops f) refl a s.0)
        (subst (λ us. all_well_formed sig us ≡ true) (trees-tree_list ts)
        (all_well_formed-each (tree_list ts) (subst AreWellFormed s.1 h)))
      where
        several-terms : (us l : List Tree) → if_several us ≡ Some l → (2 ≤ length us) × (l ≡ us)
        several-terms [] l e = cc
        several-terms (u ∷ []) l e = cc
        several-terms (u ∷ v ∷ us) l e = (omega arith, cc)

        allowed : (o : Option OpDecl) → slice_get sig.ops f ≡ o → holds_of (λ d. d.assoc) o ≡ true
            → 2 ≤ length (tree_list ts) → holds_of (allows (length (tree_list ts))) o ≡ true
        allowed None q a le = cc
        allowed (Some d) q a le =
            assoc-allows d (length (tree_list ts)) (in_order-at sig.ops f d ordered q) a le

    -- a term is well formed where what it contributes is
    formed-contribution : (f : Option ℕ) (v : Tree) (l : List Tree) → contribution sig f v ≡ Some l → AreWellFormed l
        → well_formed sig v ≡ true
    formed-contribution f v l e h = go f e
      where
        alone : Some (v ∷ []) ≡ Some l → well_formed sig v ≡ true
        alone e = let s : l ≡ v ∷ [] = cc in (subst AreWellFormed s h).0

        spread-formed : (g : ℕ) (u : Tree) → is_assoc sig g ≡ true → spread g u ≡ Some l
            → (Some (u ∷ []) ≡ Some l → well_formed sig u ≡ true) → well_formed sig u ≡ true
        spread-formed g (symbol n) a e whole = refl
        spread-formed g (app k ts) a e whole = by_head (nat_eq g k) refl e
          where
            by_head : (b : Bool) → nat_eq g k ≡ b
                → (if b then if_several (tree_list ts) else Some (app k ts ∷ [])) ≡ Some l
                → well_formed sig (app k ts) ≡ true
            by_head true q e =
                let same : g ≡ k = eqb-true g k q in
                formed-several k ts l (subst (λ f. is_assoc sig f ≡ true) same a) e h
            by_head false q e = whole e

        go : (f : Option ℕ) → contribution sig f v ≡ Some l → well_formed sig v ≡ true
        go None e = alone e
        go (Some g) e = by_assoc (is_assoc sig g) refl e
          where
            by_assoc : (b : Bool) → is_assoc sig g ≡ b → (if b then spread g v else Some (v ∷ [])) ≡ Some l
                → well_formed sig v ≡ true
            by_assoc true q e = spread-formed g v q e alone
            by_assoc false q e = alone e

    -- ---- values

    -- a value of as many terms as the wildcard says, each of them well formed
    abbrev IsValueOf : Wildcard → Value → Type 0
    IsValueOf w v = Meets (extent w) (length (terms_of v)) × AreWellFormed (terms_of v)

    length-arranged : (f : Option ℕ) (ts : List Tree) → length (arranged sig f ts) ≡ length ts
    length-arranged f ts = elim (comm_above sig f) as
        (λ b. length (if b then sorted tree_cmp ts else ts) ≡ length ts)
        [ true ↦ length-sorted tree_cmp ts | false ↦ refl ]

    some-term : (ts : List Tree) → (ts ≡ [] → ⊥) → nat_le 1 (length ts) ≡ true
    some-term [] h = absurd (h refl)
    some-term (t ∷ ts) h = grind (arith, nat_tests)

    any-term : (ts : List Tree) → nat_le 0 (length ts) ≡ true
    any-term ts = grind (arith, nat_tests)

    -- a sequence takes the terms of its value
    tuple-value : (f : Option ℕ) (w : Wildcard) (ts l : List Tree) → l ≡ arranged sig f ts → AreWellFormed l
        → Meets (extent w) (length l) → IsValueOf w (seq ts)
    tuple-value f w ts l e h k = (
      subst (Meets (extent w)) (ap length e ∙ length-arranged f ts) k,
      formed-arranged f ts (subst AreWellFormed e h),
    )

    multiset-value : (w : Wildcard) (ts l : List Tree) → l ≡ ts → AreWellFormed l → Meets (extent w) (length l)
        → IsValueOf w (bag ts)
    multiset-value w ts l e h k = (subst (λ us. Meets (extent w) (length us)) e k, subst AreWellFormed e h)

    value-taken : (f : Option ℕ) (w : Wildcard) (v : Value) (l : List Tree) → IsSoundWildcard sig w → AreWellFormed l
        → WildTakes sig f w v l → IsValueOf w v
    value-taken f dot (one t) l sound h k = (refl, (formed-contribution f t l k h, tt))
    value-taken f (kind n) (one t) l sound h k = (refl, subst AreWellFormed k.0 h)
    value-taken f (optional d) (one t) l sound h (inl k) = (refl, (formed-contribution f t l k h, tt))
    value-taken f (optional d) (one t) l sound h (inr k) =
        (refl, (subst (λ u. well_formed sig u ≡ true) (sym k.1) sound.formed, tt))
    value-taken f plus (seq ts) l sound h k = tuple-value f plus ts l k.0 h (some-term l k.1)
    value-taken f plus (bag ts) l sound h k = multiset-value plus ts l k.0 h (some-term l k.1)
    value-taken f star (seq ts) l sound h k = tuple-value f star ts l k h (any-term l)
    value-taken f star (bag ts) l sound h k = multiset-value star ts l k h (any-term l)
    value-taken f (counted n b) (seq ts) l sound h k = tuple-value f (counted n b) ts l k.0 h k.1
    value-taken f (counted n b) (bag ts) l sound h k = multiset-value (counted n b) ts l k.0 h k.1
    value-taken f w v l sound h k = absurd k

    -- the variable has such a value
    abbrev HasValueOf : Subst → Use → Type 0
    HasValueOf s u = (v : Value) × (value_of s u.name ≡ Some v) × IsValueOf u.wildcard v

    mutual
      -- where what a pattern takes is well formed, each variable in it has such a value
      pub uses-taken : (s : Subst) (f : Option ℕ) (p : Pattern) (l : List Tree) (T : Table) → IsFormed sig p
          → AreWellFormed l → Takes sig s f p l T → AllByRecursion (HasValueOf s) (uses f p)
      uses-taken s f (symbol_pattern n) l T sound h k = tt
      uses-taken s f (wild_pattern w None) l T sound h k = tt
      uses-taken s f (wild_pattern w (Some x)) l T sound h k =
          ((k.0.0, k.0.1, value-taken f w k.0.0 l sound.0 h k.0.2), tt)
      uses-taken s f (app_pattern g ps) l T sound h (inl k) =
          all_uses-taken s g ps k.takes k.tables sound.1
          (formed-arranged (Some g) (joined k.takes)
          (formed-arguments g (arranged sig (Some g) (joined k.takes)) (subst AreWellFormed k.node h))) k.children
      uses-taken s f (app_pattern g ps) l T sound h (inr k) =
          all_uses-taken s g ps k.takes k.tables sound.1
          (subst AreWellFormed (sym k.together) (subst AreWellFormed k.node h)) k.children

      all_uses-taken : (s : Subst) (g : ℕ) (ps : Patterns) (ls : List (List Tree)) (Ts : List Table) → AreFormed sig ps
          → AreWellFormed (joined ls) → AllTakeBy sig (ByValue sig s) g ps ls Ts
          → AllByRecursion (HasValueOf s) (all_uses (Some g) ps)
      all_uses-taken s g no_patterns ls Ts sound h k = tt
      all_uses-taken s g (more_patterns p ps) (l ∷ ls) (T ∷ Ts) sound h k =
          let parts = all-split (λ t. well_formed sig t ≡ true) l (joined ls) h in
          all-append (HasValueOf s) (uses (Some g) p) (all_uses (Some g) ps)
          (uses-taken s (Some g) p l T sound.0 parts.0 k.0) (all_uses-taken s g ps ls Ts sound.1 parts.1 k.1)
      all_uses-taken s g (more_patterns p ps) [] Ts sound h k = absurd k
      all_uses-taken s g (more_patterns p ps) (l ∷ ls) [] sound h k = absurd k

    -- the variable has a value of as many terms as its extent says, where there is one, each of them well formed
    abbrev HasValue : Subst → List ℕ → Option Extent → Type 0
    HasValue s x e = (v : Value) × (value_of s x ≡ Some v)
        × (Meets (unwrap_or e single) (length (terms_of v)) × AreWellFormed (terms_of v))

    -- a variable among the occurrences has such a value, as the first of them says
    among-taken : (s : Subst) (us : List Use) (x : List ℕ) → AllByRecursion (HasValueOf s) us
        → is_known same_name (map (λ u. u.name) us) x ≡ true → HasValue s x (extent_among us x)
    among-taken s [] x h k = cc
    among-taken s (u ∷ us) x h k = go (same_name u.name x) refl k (among-taken s us x h.1)
      where
        go : (b : Bool) → same_name u.name x ≡ b → (b || is_known same_name (map (λ u. u.name) us) x) ≡ true
            → (is_known same_name (map (λ u. u.name) us) x ≡ true → HasValue s x (extent_among us x))
            → HasValue s x (if b then Some (extent u.wildcard) else extent_among us x)
        go true e k rest = (h.0.0, sym (ap (value_of s) (same_name-is u.name x e)) ∙ h.0.1, h.0.2)
        go false e k rest = rest k

    -- ---- instances

    module _ (p : Pattern) (s : Subst) (values : AllByRecursion (HasValueOf s) (uses None p)) where
      -- a variable of the pattern has such a value
      variable-taken : (x : List ℕ) → IsVariableOf sig p x → HasValue s x (extent_named p x)
      variable-taken x h = among-taken s (uses None p) x values (known-firsts [] (map (λ u. u.name) (uses None p)) x h)

      -- a template gives as many terms as its extent says
      instances-extent : (x : Template) → IsFormedTemplate sig p x
          → Meets (template_extent (extent_named p) x) (length (instances s x))
      instances-extent (symbol_template n) h = refl
      instances-extent (app_template f xs) h = refl
      instances-extent (variable_template x) h =
          let v = variable-taken x h in
          subst (λ o. Meets (unwrap_or (extent_named p x) single) (length (listed o))) (sym v.1) v.2.0

      all_instances-extent : (xs : Templates) → AreFormedTemplates sig p xs
          → Meets (templates_extent (extent_named p) xs) (length (all_instances s xs))
      all_instances-extent no_templates h = refl
      all_instances-extent (more_templates x xs) h =
          subst (Meets (templates_extent (extent_named p) (more_templates x xs)))
          (sym (length-append (instances s x) (all_instances s xs)))
          (meets-sum (template_extent (extent_named p) x) (templates_extent (extent_named p) xs)
          (length (instances s x)) (length (all_instances s xs)) (instances-extent x h.0)
          (all_instances-extent xs h.1))

      allowed-held : (e : Extent) (n : ℕ) (o : Option OpDecl) → holds_of (allows_extent e) o ≡ true → Meets e n
          → holds_of (allows n) o ≡ true
      allowed-held e n None h k = cc
      allowed-held e n (Some d) h k = allows-extent e d n h k

      mutual
        -- and they are well formed
        instances-formed : (x : Template) → IsFormedTemplate sig p x → AreWellFormed (instances s x)
        instances-formed (symbol_template n) h = (refl, tt)
        instances-formed (app_template f xs) h =
            let ts = all_instances s xs in
            let count : holds_of (allows (length (tree_list (trees ts)))) (slice_get sig.ops f) ≡ true =
            rw (tree_list-trees ts) (allowed-held (templates_extent (extent_named p) xs) (length ts)
            (slice_get sig.ops f) h.0 (all_instances-extent xs h.1)) in
            (and_from _ _ count (all_well_formed-each ts (all_instances-formed xs h.1)), tt)
        instances-formed (variable_template x) h =
            let v = variable-taken x h in
            subst (λ o. AreWellFormed (listed o)) (sym v.1) v.2.1

        all_instances-formed : (xs : Templates) → AreFormedTemplates sig p xs → AreWellFormed (all_instances s xs)
        all_instances-formed no_templates h = tt
        all_instances-formed (more_templates x xs) h = all-append (λ t. well_formed sig t ≡ true) (instances s x)
            (all_instances s xs) (instances-formed x h.0) (all_instances-formed xs h.1)

-- ---- rules

-- what a variable stands for is of its form
form-value_of : (P : List ℕ → Form) (s : Subst) (x : List ℕ) (v : Value)
    → AllByRecursion (λ b. form_of b.value ≡ P b.name) s → value_of s x ≡ Some v → form_of v ≡ P x
form-value_of P [] x v h e = cc
form-value_of P (b ∷ s) x v h e = go (same_name b.name x) refl e (form-value_of P s x v h.1)
  where
    go : (c : Bool) → same_name b.name x ≡ c → (if c then Some b.value else value_of s x) ≡ Some v
        → (value_of s x ≡ Some v → form_of v ≡ P x) → form_of v ≡ P x
    go true q e rest =
        let same : b.value ≡ v = cc in
        ap form_of (sym same) ∙ h.0 ∙ ap P (same_name-is b.name x q)
    go false q e rest = rest e

-- a value of the form of one term is one
one-form_of : (v : Value) → form_of v ≡ one_form → (t : Tree) × (v ≡ one t)
one-form_of (one t) e = (t, refl)
one-form_of (seq ts) e = cc
one-form_of (bag ts) e = cc

module _ (sig : Sig) (ordered : all_in_order sig.ops ≡ true) (p : Pattern) (sound : IsFormed sig p) (t : Tree)
    (formed : well_formed sig t ≡ true) (s : Subst) (T : Table) (fits : Fits sig p t s T) where
  values : AllByRecursion (HasValueOf sig ordered s) (uses None p)
  values = uses-taken sig ordered s None p (t ∷ []) T sound (formed, tt) fits.takes

  -- a sound template has an instance
  pub instance-IsSoundTemplate : (x : Template) → IsSoundTemplate sig p x → (u : Tree) × IsInstance x s u
  instance-IsSoundTemplate (symbol_template n) h = (symbol n, refl)
  instance-IsSoundTemplate (app_template f xs) h = (app f (trees (all_instances s xs)), refl)
  instance-IsSoundTemplate (variable_template x) h =
      let v = variable-taken sig ordered p s values x h.formed in
      let form = form-value_of (variable_form sig p) s x v.0 fits.subst_of.forms v.1 ∙ h.one_term in
      let u = one-form_of v.0 form in
      (u.0, v.1 ∙ ap Some u.1)

  -- and it is well formed
  pub well_formed-IsSoundTemplate : (x : Template) → IsSoundTemplate sig p x → (u : Tree) → IsInstance x s u
      → well_formed sig u ≡ true
  well_formed-IsSoundTemplate (symbol_template n) h u e =
      (subst (AreWellFormed sig) e (instances-formed sig ordered p s values (symbol_template n) h.formed)).0
  well_formed-IsSoundTemplate (app_template f xs) h u e =
      (subst (AreWellFormed sig) e (instances-formed sig ordered p s values (app_template f xs) h.formed)).0
  well_formed-IsSoundTemplate (variable_template x) h u e =
      (subst (λ o. AreWellFormed sig (listed o)) e
      (instances-formed sig ordered p s values (variable_template x) h.formed)).0
