-- The item at which a walk stands, and the substitution of its table.
use Rattle.std.proofs.Common.{◌≡◌, ◌≤◌, ℕ, List, [], ◌∷◌, ◌++◌, length, get_or, refl, ap, sym, subst}
use Rattle.std.proofs.Common.{true, inl}
use Rattle.std.specs.Prelude.{◌≢◌, Option, Some, None, IsSome, IfSome, slice_get}
use Rattle.mp_term.specs.Listing.{In}
use Rattle.mp_term.specs.Normal.{IsNormal}
use Rattle.mp_term.specs.Signature.{Sig}
use Rattle.mp_term.specs.Tree.{Tree}
use Rattle.mp_term.proofs.ListingLaws.{all_in}
use Rattle.mp_term.proofs.SearchLaws.{in-right}
use Rattle.mp_pattern.specs.Admission.{Rule}
use Rattle.mp_pattern.specs.Fits.{Fits}
use Rattle.mp_pattern.specs.Instance.{is_fully_named, IsPatternApplied}
use Rattle.mp_pattern.specs.NetTokens.{tokens_of}
use Rattle.mp_pattern.specs.SoundRule.{AreSoundRules, IsSoundRule}
use Rattle.mp_pattern.specs.Value.{Subst}
use Rattle.mp_pattern.specs.Variables.{variables}
use Rattle.mp_pattern.specs.declared.limits.TheConstants.{MAX_VARIABLES}
use Rattle.mp_table.specs.Table as tables
use Rattle.mp_table.specs.Table.{subject_of}
use Rattle.mp_subst.specs.Trail.{Trail, subst_in}
use Rattle.mp_theory.specs.NoOptional.{HasNoOptional}
use Rattle.mp_theory.proofs.Instances.{fits-applied}
use Rattle.mp_search.proofs.NumberLaws.{in-slice_get}
use Rattle.mp_walk.specs.CodeForest.{code_forest}
use Rattle.mp_walk.specs.Forests.{lists}
use Rattle.mp_walk.specs.Instrs.{Instr}
use Rattle.mp_walk.specs.NamedItems.{called, IsItemTrail}
use Rattle.mp_walk.specs.WalkItems.{IsLeafItem}
use Rattle.mp_walk.specs.Walkable.{Path}
use Rattle.mp_many.specs.Laid.{tree_of}
use Rattle.mp_many.specs.Many.{Many}
use Rattle.mp_many.specs.RuleWalk.{Item, given}
use Rattle.mp_many.specs.WalkItems.{accepts_at}
use Rattle.mp_many.proofs.ItemLaws.{leaf-rule}

-- the item at which the walk stands is of a rule that is left, and of the leaf
pub given-some : (ns : List ℕ) (o : Option Item) → IsSome (slice_get (given ns o) 0) → (ns ≢ []) × IsSome o
given-some ns None h = cc
given-some [] (Some j) h = cc
given-some (n ∷ ns) (Some j) h = ((λ e. cc), refl)

pub given-from : (ns : List ℕ) (o : Option Item) (i : Item) → slice_get (given ns o) 0 ≡ Some i
    → (j : Item) × (o ≡ Some j) × (j.1 ≡ i.1)
given-from ns None i e = cc
given-from [] (Some j) i e = cc
given-from (n ∷ ns) (Some j) i e =
    let same : (n, j.1) ≡ i = let w : Some (n, j.1) ≡ Some i = e in cc in
    (j, refl, ap (λ (x : Item). x.1) same)

-- the item's rule is the first one that is left
pub given-number : (ns : List ℕ) (o : Option Item)
    → IfSome (slice_get (given ns o) 0) (λ (i : Item). get_or ns 0 0 ≡ i.0)
given-number ns None = tt
given-number [] (Some j) = tt
given-number (n ∷ ns) (Some j) = refl

module _ (m : Many) (t : Tree) (ns : List ℕ) (i : Item)
    (leaf : IsLeafItem m.sig (tree_of m.sig m.rules) t i) (front : List ℕ)
    (left : accepts_at (tree_of m.sig m.rules) i.0 ≡ front ++ ns) where
  -- the rule of the item
  pub record HasRule : Type 0 where
    pub rule : Rule
    pub held : slice_get m.rules (get_or ns 0 0) ≡ Some rule
    pub reached : In {X = ℕ × Path} (i.0, tokens_of m.sig rule.pattern) (lists (code_forest (tree_of m.sig m.rules)))

  pub rule-left : ns ≢ [] → HasRule
  rule-left full = let r = at ns left full in record { rule = r.0; held = r.1; reached = r.2 }
    where
      at : (ms : List ℕ) → accepts_at (tree_of m.sig m.rules) i.0 ≡ front ++ ms → ms ≢ []
          → (r : Rule) × (slice_get m.rules (get_or ms 0 0) ≡ Some r)
          × In {X = ℕ × Path} (i.0, tokens_of m.sig r.pattern) (lists (code_forest (tree_of m.sig m.rules)))
      at [] e f = absurd (f refl)
      at (n ∷ ms) e f = leaf-rule m.sig m.rules t i leaf n (subst (In n) (sym e) (in-right n front (n ∷ ms) (inl refl)))

-- the trail is that of the item at which the walk below stands
abbrev pub HasTrail : Sig → List Instr → tables.Table → Trail → Option Item → Type 0
HasTrail sig code table trail o = IfSome o (IsItemTrail sig code (subject_of table) table trail)

pub has-trail : (g h : Sig) (is js : List Instr) (b d : tables.Table) (trail : Trail) (o : Option Item) → g ≡ h
    → is ≡ js → b ≡ d → HasTrail g is b trail o → HasTrail h js d trail o
has-trail g h is js b d trail o sig code table k =
    subst (λ x. HasTrail x js d trail o) sig
    (subst (λ x. HasTrail g x d trail o) code (subst (λ (x : tables.Table). HasTrail g is x trail o) table k))

module _ (m : Many) (sound : AreSoundRules m.sig m.rules) (table : tables.Table) (ns : List ℕ) (full : ns ≢ [])
    (o : Option Item) (i : Item) (stands : o ≡ Some i)
    (leaf : IsLeafItem m.sig (tree_of m.sig m.rules) (subject_of table) i) (front : List ℕ)
    (left : accepts_at (tree_of m.sig m.rules) i.0 ≡ front ++ ns) (trail : Trail)
    (trail_of : HasTrail m.sig (tree_of m.sig m.rules) table trail o) where
  abbrev t : Tree
  t = subject_of table

  rule : HasRule m t ns i leaf front left
  rule = rule-left m t ns i leaf front left full

  -- what holds of the item's rule and table
  item-given : (P : Rule → Item → Type 0) → P rule.rule (get_or ns 0 0, i.1)
      → IfSome (slice_get (given ns o) 0) (λ x. IfSome (slice_get m.rules x.0) (λ r. P r x))
  item-given P h =
      subst (λ w. IfSome (slice_get (given ns w) 0) (λ x. IfSome (slice_get m.rules x.0) (λ r. P r x))) (sym stands)
      (at ns full rule.held h)
    where
      at : (ms : List ℕ) → ms ≢ [] → slice_get m.rules (get_or ms 0 0) ≡ Some rule.rule
          → P rule.rule (get_or ms 0 0, i.1)
          → IfSome (slice_get (given ms (Some i)) 0) (λ x. IfSome (slice_get m.rules x.0) (λ r. P r x))
      at [] f e p = absurd (f refl)
      at (n ∷ ms) f e p = subst (λ w. IfSome w (λ r. P r (n, i.1))) (sym e) p

  own-sound : IsSoundRule m.sig rule.rule
  own-sound = all_in (IsSoundRule m.sig) m.rules rule.rule sound.each
      (in-slice_get m.rules (get_or ns 0 0) rule.rule rule.held)

  -- the names are the variables of the rule of the item, and so not too many
  module _ (names : List (List ℕ))
      (called_by : IfSome (slice_get m.rules (get_or ns 0 0)) (λ r. names ≡ variables r.pattern)) where
    own-names : names ≡ variables rule.rule.pattern
    own-names = subst (λ w. IfSome w (λ r. names ≡ variables r.pattern)) rule.held called_by

    pub few-names : length names ≤ MAX_VARIABLES
    few-names = subst (λ n. n ≤ MAX_VARIABLES) (sym (ap length own-names)) own-sound.pattern.few_variables

    -- so the values of the trail, called by them, fit with the item's table the pattern of its rule
    pub fits-given : IfSome (slice_get (given ns o) 0) (λ x. IfSome (slice_get m.rules x.0)
        (λ r. Fits m.sig r.pattern t (subst_in table (called names) trail) x.1))
    fits-given = item-given (λ r x. Fits m.sig r.pattern t (subst_in table (called names) trail) x.1)
        (subst (λ ns. Fits m.sig rule.rule.pattern t (subst_in table (called ns) trail) i.1) (sym own-names)
        (subst (λ w. HasTrail m.sig (tree_of m.sig m.rules) table trail w) stands trail_of rule.rule.pattern
        own-sound.pattern.few_variables rule.reached))

-- where a rule's pattern is fully named and has no optional wildcard, the instance of a substitution that fits makes
-- the subject
pub applied-fits : (sig : Sig) (rules : List Rule) (t : Tree) (s : Subst) (o : Option Item) → IsNormal sig t
    → IfSome o (λ x. IfSome (slice_get rules x.0) (λ r. Fits sig r.pattern t s x.1))
    → IfSome o (λ x. IfSome (slice_get rules x.0) (λ r. is_fully_named r.pattern ≡ true → HasNoOptional r.pattern
    → IsPatternApplied sig r.pattern s t))
applied-fits sig rules t s None normal h = tt
applied-fits sig rules t s (Some x) normal h = by_rule (slice_get rules x.0) h
  where
    by_rule : (w : Option Rule) → IfSome w (λ r. Fits sig r.pattern t s x.1)
        → IfSome w (λ r. is_fully_named r.pattern ≡ true → HasNoOptional r.pattern → IsPatternApplied sig r.pattern s t)
    by_rule None f = tt
    by_rule (Some r) f = λ named plain. fits-applied sig r.pattern t s x.1 named plain normal f
