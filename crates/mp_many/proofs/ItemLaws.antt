-- The walk over the tree of sound rules has exactly the items of the rules, each once.
use Rattle.std.proofs.Common.{◌≡◌, ◌≤◌, ℕ, ◌+◌, List, [], ◌∷◌, length, refl, ap, sym, ◌∙◌}
use Rattle.std.proofs.Common.{subst}
use Rattle.std.proofs.Common.{arith}
use Rattle.std.specs.Prelude.{◌≢◌, Some, option_map, slice_get}
use Rattle.std.specs.List.{AllByRecursion}
use Rattle.std.proofs.lemmas.Option.{slice_get-map}
use Rattle.mp_term.specs.Listing.{In}
use Rattle.mp_term.specs.Normal.{IsNormal}
use Rattle.mp_term.specs.Signature.{Sig}
use Rattle.mp_term.specs.Tree.{Tree}
use Rattle.mp_term.proofs.ListingLaws.{all_in}
use Rattle.mp_term.proofs.SearchLaws.{in-map, from_in-map, in-flat, from_in-flat}
use Rattle.mp_pattern.specs.Admission.{Rule}
use Rattle.mp_pattern.specs.Fits.{Table, Fits}
use Rattle.mp_pattern.specs.NetTokens.{tokens_of, renamed}
use Rattle.mp_pattern.specs.SoundRule.{IsSoundRule, IsSoundPattern}
use Rattle.mp_pattern.specs.PatternTree.{Pattern}
use Rattle.mp_pattern.specs.Value.{Subst}
use Rattle.mp_pattern.specs.Variables.{variables}
use Rattle.mp_pattern.specs.declared.limits.TheConstants.{MAX_VARIABLES}
use Rattle.mp_ac.specs.CommItems.{NoneTwice}
use Rattle.mp_walk.specs.CodeForest.{code_forest}
use Rattle.mp_walk.specs.Forests.{lists, runs}
use Rattle.mp_walk.specs.Instrs.{Instr}
use Rattle.mp_walk.specs.WalkItems.{IsLeafItem, AreLeafItems}
use Rattle.mp_walk.specs.Walkable.{Path, StandsFor}
use Rattle.mp_walk.proofs.ForestLaws.{none-mapped}
use Rattle.mp_walk.specs.TokenMachine.{begin_state, steps_by, token_ends}
use Rattle.mp_walk.proofs.ByRule.{searched}
use Rattle.mp_walk.proofs.NumberedNames.{own-names, renamed-itself}
use Rattle.mp_walk.proofs.Renaming.{renamed-listed}
use Rattle.mp_walk.proofs.RuleLaws.{stands-renamed}
use Rattle.mp_walk.proofs.Walked.{tokens-read}
use Rattle.mp_walk.proofs.WalkTheorem.{listed-fits, fits-listed}
use Rattle.mp_theory.specs.Frames.{settle, start}
use Rattle.mp_theory.specs.OneList.{item_tables}
use Rattle.mp_theory.specs.Trail.{derivations}
use Rattle.mp_pattern.specs.Size.{pattern_nodes}
use Rattle.mp_many.specs.Laid.{tree_of}
use Rattle.mp_many.specs.Prefixes.{accepted_by, token_lists, token_count, prefixes}
use Rattle.mp_theory.proofs.OneTable.{fits-same}
use Rattle.mp_search.proofs.NumberLaws.{in-slice_get}
use Rattle.mp_ac.proofs.MatcherLaws.{one-place, get-map}
use Rattle.mp_many.specs.WalkItems.{IsWalkItem, AreWalkItems, HaveOneTable, accepts_at, each_with, rule_items}
use Rattle.mp_many.proofs.OnceLaws.{none-flat, prefixes-once, prefixes-full, accepted-once}
use Rattle.mp_many.proofs.WalkableLaws.{accepted-in, from_in-accepted, leaf-accepts, rule-reached}

-- ---- what a path stands for

module _ (sig : Sig) (t : Tree) (normal : IsNormal sig t) where
  -- the tables that the search lists for a pattern
  abbrev tables_of : Pattern → List Table
  tables_of p = item_tables (derivations sig (pattern_nodes p) (settle (start p t)) [] [])

  -- a pattern whose variables are numbered lists what a sound pattern with its tokens lists
  same-tables : (path : Path) (p q : Pattern) → StandsFor sig path p → IsSoundPattern sig q → tokens_of sig q ≡ path
      → tables_of p ≡ tables_of q
  same-tables path p q h k e =
      let few : length (variables q) ≤ MAX_VARIABLES = k.few_variables in
      let own : renamed (variables p) p ≡ p = renamed-itself (variables p) h.names p (own-names p) in
      sym (ap (λ r. item_tables (derivations sig (pattern_nodes p) (settle (start r t)) [] [])) own)
      ∙ sym (tokens-read sig (variables p) p t)
      ∙ ap (λ ks. runs (steps_by sig (searched sig)) token_ends ks (begin_state t) []) (h.tokens ∙ sym e)
      ∙ tokens-read sig (variables q) q t ∙ renamed-listed sig q t (omega (arith, few))

  -- so both fit by the same tables
  leaf-fits : (path : Path) (p q : Pattern) → StandsFor sig path p → IsSoundPattern sig q → tokens_of sig q ≡ path
      → (s : Subst) (T : Table) → Fits sig p t s T → (r : Subst) × Fits sig q t r T
  leaf-fits path p q h k e s T f =
      listed-fits sig t normal q T (subst (In T) (same-tables path p q h k e) (fits-listed sig t normal p T s f))

  fits-leaf : (path : Path) (p q : Pattern) → StandsFor sig path p → IsSoundPattern sig q → tokens_of sig q ≡ path
      → (s : Subst) (T : Table) → Fits sig q t s T → (r : Subst) × Fits sig p t r T
  fits-leaf path p q h k e s T f =
      listed-fits sig t normal p T
      (subst (In T) (sym (same-tables path p q h k e)) (fits-listed sig t normal q T s f))

-- ---- the items of rules

-- a leaf accepts some rule
pub leaf-some : (sig : Sig) (rules : List Rule) (t : Tree) (i : ℕ × Table) → IsLeafItem sig (tree_of sig rules) t i
    → accepts_at (tree_of sig rules) i.0 ≢ []
leaf-some sig rules t i leaf =
    let a = leaf-accepts sig rules i.0 leaf.path leaf.leaf in
    let e : accepts_at (tree_of sig rules) i.0 ≡ a.0.accepts = rw (a.1, accepts_at) refl in
    λ none. a.4 (sym e ∙ none)

-- a rule that it accepts has its path
pub leaf-rule : (sig : Sig) (rules : List Rule) (t : Tree) (i : ℕ × Table) → IsLeafItem sig (tree_of sig rules) t i
    → (n : ℕ) → In n (accepts_at (tree_of sig rules) i.0) → (r : Rule) × (slice_get rules n ≡ Some r)
    × In {X = ℕ × Path} (i.0, tokens_of sig r.pattern) (lists (code_forest (tree_of sig rules)))
leaf-rule sig rules t i leaf n h =
    let a = leaf-accepts sig rules i.0 leaf.path leaf.leaf in
    let e : accepts_at (tree_of sig rules) i.0 ≡ accepted_by 0 (token_lists sig rules) leaf.path =
    rw (a.1, accepts_at) a.2 in
    let f = from_in-accepted 0 n (token_lists sig rules) leaf.path (subst (In n) e h) in
    let number : f.0 ≡ n = omega (arith, f.1) in
    let r = get-map (λ (q : Rule). tokens_of sig q.pattern) rules f.0 leaf.path f.2 in (
      r.0,
      ap (slice_get rules) (sym number) ∙ r.1,
      subst (λ ks. In {X = ℕ × Path} (i.0, ks) (lists (code_forest (tree_of sig rules)))) (sym r.2) leaf.leaf,
    )

module _ (sig : Sig) (rules : List Rule) (sound : AllByRecursion (IsSoundRule sig) rules) (t : Tree)
    (normal : IsNormal sig t) where
  abbrev Item : Type 0
  Item = ℕ × Table

  abbrev code : List Instr
  code = tree_of sig rules

  abbrev ls : List Path
  ls = token_lists sig rules

  rule-sound : (j : ℕ) (r : Rule) → slice_get rules j ≡ Some r → IsSoundPattern sig r.pattern
  rule-sound j r e = (all_in (IsSoundRule sig) rules r sound (in-slice_get rules j r e)).pattern

  -- what a leaf accepts
  accepts-are : (n : ℕ) (ks : Path) → In {X = ℕ × Path} (n, ks) (lists (code_forest code))
      → (accepts_at code n ≡ accepted_by 0 ls ks) × (slice_get ([] ∷ prefixes sig rules) n ≡ Some ks)
  accepts-are n ks h =
      let a = leaf-accepts sig rules n ks h in
      (rw (a.1, accepts_at) a.2, a.3)

  -- a rule that a leaf accepts has the leaf's path
  accepted-rule : (n r : ℕ) (ks : Path) → In {X = ℕ × Path} (n, ks) (lists (code_forest code))
      → In r (accepts_at code n) → slice_get ls r ≡ Some ks
  accepted-rule n r ks h i =
      let f = from_in-accepted 0 r ls ks (subst (In r) (accepts-are n ks h).0 i) in
      let e : r ≡ f.0 = omega (arith, f.1) in ap (slice_get ls) e ∙ f.2

  item-from : (is : List Item) → AreLeafItems sig code t is → (i : Item) → In i (rule_items code is)
      → IsWalkItem sig rules t i
  item-from is are i h =
      let a = from_in-flat (λ (j : Item). each_with (accepts_at code j.0) j.1) i is h in
      let b = from_in-map (λ n. (n, a.0.1)) i (accepts_at code a.0.0) a.2 in
      let leaf = (are.exactly a.0).0 a.1 in
      let held = accepted-rule a.0.0 b.0 leaf.path leaf.leaf b.2 in
      let r = get-map (λ (q : Rule). tokens_of sig q.pattern) rules b.0 leaf.path held in
      let f = leaf-fits sig t normal leaf.path leaf.pattern r.0.pattern leaf.stands (rule-sound b.0 r.0 r.1) r.2
      leaf.subst a.0.1 leaf.fits in
      subst (IsWalkItem sig rules t) (sym b.1) (record { rule = r.0; numbered = r.1; subst = f.0; fits = f.1 })

  item-found : (is : List Item) → AreLeafItems sig code t is → (i : Item) → IsWalkItem sig rules t i
      → In i (rule_items code is)
  item-found is are i w =
      let p = w.rule.pattern in
      let ks = tokens_of sig p in
      let held : slice_get ls i.0 ≡ Some ks =
      slice_get-map (λ (q : Rule). tokens_of sig q.pattern) rules i.0
      ∙ ap (option_map (λ (q : Rule). tokens_of sig q.pattern)) w.numbered in
      let sound_pattern = rule-sound i.0 w.rule w.numbered in
      let n = rule-reached sig rules i.0 ks held in
      let stands = stands-renamed sig p sound_pattern.few_variables in
      let f = fits-leaf sig t normal ks (renamed (variables p) p) p stands sound_pattern refl w.subst i.1 w.fits in
      let leaf : IsLeafItem sig code t (n.0, i.1) = record {
        path = ks;
        leaf = n.1;
        pattern = renamed (variables p) p;
        stands = stands;
        subst = f.0;
        fits = f.1;
      } in
      let accepts : In i.0 (accepts_at code n.0) =
      subst (In i.0) (sym (accepts-are n.0 ks n.1).0)
      (let e : 0 + i.0 ≡ i.0 = omega arith in
      subst (λ k. In k (accepted_by 0 ls ks)) e (accepted-in 0 i.0 ls ks held)) in
      in-flat (λ (j : Item). each_with (accepts_at code j.0) j.1) (n.0, i.1) i is ((are.exactly (n.0, i.1)).1 leaf)
      (in-map (λ m. (m, i.1)) i.0 (accepts_at code n.0) accepts)

  once-items : (is : List Item) → AreLeafItems sig code t is → NoneTwice (rule_items code is)
  once-items is are =
      none-flat (λ (j : Item). each_with (accepts_at code j.0) j.1) is are.once
      (λ i h.
      let leaf = (are.exactly i).0 h in
      none-mapped (λ n. (n, i.1)) (accepts_at code i.0) (λ a b e. ap (λ (p : Item). p.0) e)
      (subst NoneTwice (sym (accepts-are i.0 leaf.path leaf.leaf).0) (accepted-once 0 ls leaf.path)))
      (λ i j z a b g h.
      let x = from_in-map (λ n. (n, i.1)) z (accepts_at code i.0) g in
      let y = from_in-map (λ n. (n, j.1)) z (accepts_at code j.0) h in
      let l = (are.exactly i).0 a in
      let m = (are.exactly j).0 b in
      let same : (x.0, i.1) ≡ (y.0, j.1) = sym x.1 ∙ y.1 in
      let number : x.0 ≡ y.0 = ap (λ (p : Item). p.0) same in
      let table : i.1 ≡ j.1 = ap (λ (p : Item). p.1) same in
      let e = accepted-rule i.0 x.0 l.path l.leaf x.2 in
      let f = accepted-rule j.0 y.0 m.path m.leaf y.2 in
      let path : l.path ≡ m.path = (let w : Some l.path ≡ Some m.path = sym e ∙ ap (slice_get ls) number ∙ f in cc) in
      let leaf : i.0 ≡ j.0 = one-place ([] ∷ prefixes sig rules) i.0 j.0 m.path
      (prefixes-full (token_count ls) ls, prefixes-once (token_count ls) ls)
      ((accepts-are i.0 l.path l.leaf).1 ∙ ap Some path) (accepts-are j.0 m.path m.leaf).1 in
      λ k. (leaf k, table k))

  -- the theorem
  pub are-walk_items : (is : List Item) → AreLeafItems sig (tree_of sig rules) t is
      → AreWalkItems sig rules t (rule_items (tree_of sig rules) is)
  are-walk_items is are = record {
    exactly = λ i. (item-from is are i, item-found is are i);
    once = once-items is are;
  }

-- a fully named pattern without optional wildcards has one table with a substitution
pub one-table : (sig : Sig) (rules : List Rule) (t : Tree) (is : List (ℕ × Table)) → HaveOneTable sig rules t is
one-table sig rules t is = λ n r s T U held named plain i f j g. fits-same sig r.pattern t s T U named plain f g
