-- What the item at which a cursor stands says of its parts.
use Rattle.std.proofs.Common.{◌≡◌, ◌<◌, ℕ, Bool, true, false, List, [], length, map, refl, ap, sym, ◌∙◌, subst, arith}
use Rattle.std.specs.Prelude.{Option, Some, None, IsSome, not, option_map, slice_get}
use Rattle.std.proofs.lemmas.List.{length-map}
use Rattle.std.proofs.lemmas.Bool.{not-false}
use Rattle.mp_term.specs.Search.{In}
use Rattle.mp_term.specs.Size.{node_count}
use Rattle.mp_pattern.specs.CondTree.{Cond}
use Rattle.mp_pattern.specs.Fits as fits
use Rattle.mp_pattern.specs.RuleView.{rule_tree}
use Rattle.mp_pattern.specs.declared.rule.Rule.{Rule}
use Rattle.mp_pattern.specs.Value.{same_name}
use Rattle.mp_pattern.proofs.NameLaws.{same_name-is, same_name-itself}
use Rattle.mp_subst.specs.Bound.{bound_of, value_in}
use Rattle.mp_subst.specs.Trail.{last_value, subst_in}
use Rattle.mp_subst.specs.declared.bound.Bound as declared_bound
use Rattle.mp_table.specs.Table.{Table, subject_of}
use Rattle.mp_theory.specs.OneList.{Item, item_list}
use Rattle.mp_token.specs.Entry.{Entry}
use Rattle.mp_search.specs.Levels.{take_of}
use Rattle.mp_search.specs.declared.mode.Mode.TheVariants.{First}
use Rattle.mp_cursor.specs.declared.matched.Matched.{Matched}
use Rattle.mp_cursor.specs.declared.cursor.Cursor.TheInside.{Inside}
use Rattle.mp_search.specs.declared.stage.Stage.{Stage}
use Rattle.mp_search.specs.declared.stage.Stage.TheVariants.{Before, Standing, Ended}
use Rattle.mp_search.specs.Stage.{item_at}
use Rattle.mp_cursor.specs.CursorView.{IsAtItem, IsCursor, cursor_view, items_of}
use Rattle.mp_cursor.specs.Kept.{AreHeldTakes}
use Rattle.mp_cursor.specs.Listing.{Listing, ReadAs}
use Rattle.mp_cursor.specs.Matched.{IsMatched, all_items, sought}
use Rattle.mp_cursor.specs.Parts.{item_of, levels_table}
use Rattle.mp_cursor.proofs.LeastLaws.{sought-member}
use Rattle.mp_pattern.proofs.PlanNodes.{plan-nodes}
use Rattle.mp_pattern.proofs.OnePattern.{has_nodes}
use Rattle.mp_cursor.proofs.ReaderLaws.{binding-at, subst-read}
use Rattle.mp_cursor.proofs.SoughtLaws.{sought-first}
use Rattle.mp_cursor.proofs.TableLaws.{levels-held, read-takes, table-takes, takes-read, takes-same}

-- a stage at which an item is has the one at hand, which is of the list
stage-item : (s : Stage) (j i : Item) → item_at s j ≡ Some i → j ≡ i
stage-item Before j i e = cc
stage-item Standing j i e = cc
stage-item Ended j i e = cc

stage-in : (s : Stage) (j i : Item) (all : List Item) → item_at s j ≡ Some i → IsAtItem s j all → In j all
stage-in Before j i all e k = cc
stage-in Standing j i all e k = k
stage-in Ended j i all e k = cc

pub some-item : (o : Option Item) → IsSome o → (i : Item) × (o ≡ Some i)
some-item None h = cc
some-item (Some i) h = (i, refl)

option_map-twice : {X Y Z : Type 0} (f : Y → Z) (g : X → Y) (o : Option X)
    → option_map (λ x. f (g x)) o ≡ option_map f (option_map g o)
option_map-twice f g None = refl
option_map-twice f g (Some x) = refl

-- what the test of two names says
pub names-apart : (x y : List ℕ) (b : Bool) → b ≡ not (same_name x y) → b ≡ true → x ≡ y → ⊥
names-apart x y b h t e =
    let same : same_name x y ≡ true = subst (λ z. same_name x z ≡ true) e (same_name-itself x) in
    let off : true ≡ false = sym t ∙ h ∙ ap not same in
    cc

pub names-same : (x y : List ℕ) (b : Bool) → b ≡ not (same_name x y) → b ≡ false → x ≡ y
names-same x y b h f = same_name-is x y (not-false (same_name x y) (sym h ∙ f))

-- the items of a rule are those sought under its condition
pub items-sought : (m : Matched) → IsMatched m → (r : Rule) (o : Option Cond)
    → m.plan.now.pattern ≡ (rule_tree r).pattern → o ≡ (rule_tree r).condition → (W : fits.Table)
    → item_list m.sig.now (rule_tree r) (subject_of m.table.now) ≡ sought m o First W
items-sought m h r o e q W =
    sought-first m h (rule_tree r) W (sym e) ∙ ap (λ c. sought m c First W) (sym q)

module _ (c : Inside) (l : Listing) (v : cursor_view c ≡ l) (k : IsCursor c) where
  pub sig-same : c.matched.sig.now ≡ l.sig
  sig-same = ap (λ (x : Listing). x.sig) v

  table-same : c.matched.table.now ≡ l.table
  table-same = ap (λ (x : Listing). x.table) v

  -- there is an entry
  pub some-takes : 0 < length (map take_of c.parts.levels.items)
  some-takes =
      omega (
        arith,
        length-map c.parts.levels.items take_of,
        k.over.roomy.levels,
        plan-nodes c.matched.sig.now c.matched.plan.now.pattern c.matched.plan.now k.matched.plan,
        has_nodes c.matched.plan.now.pattern,
      )

  held : AreHeldTakes c.matched.table.now (map take_of c.parts.levels.items)
  held = levels-held c.matched.table.now (node_count (subject_of c.matched.table.now)) c.parts.levels.items
      k.over.levels

  module _ (i : Item) (e : l.item ≡ Some i) where
    at : item_at c.stage (item_of c.matched c.parts) ≡ Some i
    at = ap (λ (x : Listing). x.item) v ∙ e

    item-same : item_of c.matched c.parts ≡ i
    item-same = stage-item c.stage (item_of c.matched c.parts) i at

    item-in : In (item_of c.matched c.parts) (all_items c.matched [])
    item-in =
        let m = c.matched in
        let r = rule_tree c.rule.now in
        let W = levels_table m c.parts in
        let j = item_of m c.parts in
        (sought-member m r.condition W j (subst (λ is. In j is) (sought-first m k.matched r W (sym k.pattern))
        (stage-in c.stage j i (items_of c) at k.standing))).0

    -- the value of a variable is that of the item
    pub binding-is : (n : ℕ) (o : Option declared_bound.Bound)
        → option_map bound_of o ≡ last_value c.parts.trail.stack n
        → option_map (λ b. value_in l.table (bound_of b)) o ≡ option_map (λ b. b.value) (slice_get i.1 n)
    binding-is n o q =
        option_map-twice (value_in l.table) bound_of o
        ∙ ap (option_map (value_in l.table)) q
        ∙ ap (λ (t : Table). option_map (value_in t) (last_value c.parts.trail.stack n)) (sym table-same)
        ∙ binding-at c.matched k.matched c.parts.trail (levels_table c.matched c.parts) item-in k.over.trail
        k.over.roomy.numbered n
        ∙ ap (λ (j : Item). option_map (λ b. b.value) (slice_get j.1 n)) item-same

    -- the substitution of the trail is that of the item
    pub subst-is : subst_in c.matched.table.now c.matched.plan.now.variables c.parts.trail ≡ i.1
    subst-is = subst-read c.matched k.matched c.parts.trail (levels_table c.matched c.parts) item-in k.over.trail
        k.over.roomy.numbered ∙ ap (λ (j : Item). j.1) item-same

    -- the entries that read as the item's table are what the nodes take
    pub takes-are : (es : List Entry) → ReadAs l.table es i.0 → map take_of c.parts.levels.items ≡ es
    takes-are es r =
        let t = c.matched.table.now in
        let ls = c.parts.levels.items in
        let own : ReadAs t es (levels_table c.matched c.parts) =
        subst (λ (u : Table). ReadAs u es (levels_table c.matched c.parts)) (sym table-same)
        (subst (λ (j : Item). ReadAs l.table es j.0) (sym item-same) r) in
        let q = read-takes t es (levels_table c.matched c.parts) own in
        sym (takes-same t k.matched.table es (map take_of ls) q.0 held (q.1 ∙ table-takes t ls))

    -- and these read as it
    pub takes-stand : ReadAs l.table (map take_of c.parts.levels.items) i.0
    takes-stand =
        let t = c.matched.table.now in
        let ls = c.parts.levels.items in
        subst (λ (u : Table). ReadAs u (map take_of ls) i.0) table-same
        (subst (λ (j : Item). ReadAs t (map take_of ls) j.0) item-same
        (subst (ReadAs t (map take_of ls)) (sym (table-takes t ls)) (takes-read t (map take_of ls) held)))
