-- One wildcard that is the last child takes all that is left.
use Rattle.std.proofs.Common.{◌≡◌, ℕ, List, [], ◌∷◌, Bool, true, false, refl, ap, sym, ◌∙◌, inl, inr}
use Rattle.std.specs.Prelude.{Option, Some, ◌&&◌, not, if◌then◌else◌}
use Rattle.std.specs.Ordering.{is_eq}
use Rattle.std.proofs.lemmas.Bool.{and_parts, not-true}
use Rattle.mp_term.specs.Order.{tree_cmp}
use Rattle.mp_term.specs.OrderLaws.{tree_cmp_total, tree_same}
use Rattle.mp_term.specs.Pieces.{is_sublist, same, without}
use Rattle.mp_term.specs.Search.{In, Accepts}
use Rattle.mp_term.specs.Signature.{Sig}
use Rattle.mp_term.specs.Tree.{Tree}
use Rattle.mp_term.proofs.PiecesLaws.{same-sound, sublist-from_piece}
use Rattle.mp_pattern.specs.DerivationOrder.{table_cmp}
use Rattle.mp_pattern.specs.Fits.{Table, is_left_out}
use Rattle.mp_pattern.specs.PatternTree.{Wildcard, wild_pattern, no_patterns, more_patterns}
use Rattle.mp_pattern.specs.Value.{Subst}
use Rattle.mp_pattern.specs.Variables.{comm_above}
use Rattle.mp_theory.specs.Frames.{Frame, child, ended, refused, is_done}
use Rattle.mp_theory.specs.Machine.{choices, is_ended, onward}
use Rattle.mp_theory.specs.OneList.{Item, item_tables}
use Rattle.mp_theory.proofs.Walk.{choices-exact}
use Rattle.mp_ac.specs.CommItems.{NoneTwice}
use Rattle.mp_ac.specs.CommList.{behind_table, comm_list}
use Rattle.mp_ac.proofs.ListLaws.{item-parts}
use Rattle.mp_ac.proofs.StepLaws.{comm_list-once}

-- a part of a list that leaves nothing is the list
whole : (l ts : List Tree) → is_sublist tree_cmp l ts ≡ true → without tree_cmp l ts ≡ [] → l ≡ ts
whole [] ts h e = sym e
whole (u ∷ l) [] h e = cc
whole (u ∷ l) (t ∷ ts) h e = by_first (same tree_cmp t u) refl h e (whole l ts)
  where
    by_first : (b : Bool) → same tree_cmp t u ≡ b
        → (if b then is_sublist tree_cmp l ts else is_sublist tree_cmp (u ∷ l) ts) ≡ true
        → (if b then without tree_cmp l ts else t ∷ without tree_cmp (u ∷ l) ts) ≡ []
        → (is_sublist tree_cmp l ts ≡ true → without tree_cmp l ts ≡ [] → l ≡ ts) → u ∷ l ≡ t ∷ ts
    by_first true q k f same_rest =
        let one : t ≡ u = same-sound tree_cmp tree_cmp_total tree_same t u q in
        ap (λ v. v ∷ l) (sym one) ∙ ap (λ us. t ∷ us) (same_rest k f)
    by_first false q k f same_rest = cc

-- where all tables of a list are one, and none stands twice, nothing comes behind an item
behind-one : (U W : Table) (is : List Item) → ((i : Item) → In i is → i.0 ≡ U) → NoneTwice (item_tables is)
    → behind_table W is ≡ []
behind-one U W [] h n = refl
behind-one U W (i ∷ []) h n = elim (is_eq (table_cmp W i.0)) as (λ b. (if b then none else none) ≡ none)
    [ true ↦ refl | false ↦ refl ]
  where
    none : List Item
    none = []
behind-one U W (i ∷ j ∷ is) h n = absurd (n.0 (inl (h i (inl refl) ∙ sym (h j (inr (inl refl))))))

module _ (sig : Sig) (g : ℕ) (w : Wildcard) (x : Option (List ℕ)) (left : List Tree) (owes : Bool) where
  abbrev pub here : Frame
  here = record { under = Some g; children = no_patterns; left = left; owes = owes }

  -- behind the last child nothing is left
  by_done : (ls : List Tree) (b : Bool) (T : Table)
      → Accepts (choices sig) onward is_ended (if is_done ls b then ended else refused) T → (ls ≡ []) × (T ≡ [])
  by_done [] true [] h = cc
  by_done [] true (e ∷ T) h = absurd h.0
  by_done [] false [] h = (refl, refl)
  by_done [] false (e ∷ T) h = absurd h.0
  by_done (t ∷ ts) b [] h = cc
  by_done (t ∷ ts) b (e ∷ T) h = absurd h.0

  -- a wildcard that is the last child takes all
  pub wild-all : (T : Table) → Accepts (choices sig) onward is_ended (child (wild_pattern w x) here []) T
      → T ≡ record { terms = left; collapsed = false } ∷ []
  wild-all [] h = cc
  wild-all (e ∷ T) h =
      let c = (choices-exact sig (wild_pattern w x) here [] e.terms e.collapsed).0 h.0 in
      let d = by_done (without tree_cmp e.terms left) (owes && not (is_left_out (wild_pattern w x) e.terms)) T h.1 in
      let l : e.terms ≡ left = whole e.terms left
      (sublist-from_piece tree_cmp tree_cmp_total tree_same (comm_above sig (Some g)) e.terms left c.0) d.0 in
      let k : e.collapsed ≡ false = not-true e.collapsed (and_parts (not e.collapsed) _ c.1).0 in
      ap (λ U. e ∷ U) d.1 ∙ ap (λ ls. record { terms = ls; collapsed = e.collapsed } ∷ []) l
      ∙ ap (λ b. record { terms = left; collapsed = b } ∷ []) k

  -- so there is one item at most
  pub wild-behind : (W : Table) (s : Subst)
      → behind_table W (comm_list sig g (more_patterns (wild_pattern w x) no_patterns) left owes s) ≡ []
  wild-behind W s =
      let ps = more_patterns (wild_pattern w x) no_patterns in
      behind-one (record { terms = left; collapsed = false } ∷ []) W (comm_list sig g ps left owes s)
      (λ i m. wild-all i.0 (item-parts sig g ps left owes s i m).0) (comm_list-once sig g ps left owes s)
