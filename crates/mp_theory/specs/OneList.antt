-- The one-list, as the search finds it.
use Rattle.std.specs.Prelude.{Bool, true, false, ◌&&◌, ◌↔◌, List, [], ◌∷◌, map, Contains, Option, Some, None}
use Rattle.std.specs.Prelude.{filter_map, option_map, option_and_then, if◌then◌else◌}
use Rattle.std.specs.List.Sorted.{IsStrictlySortedBy}
use Rattle.mp_term.specs.Order.{tree_cmp}
use Rattle.mp_term.specs.Tree.{Tree}
use Rattle.mp_term.specs.Signature.{Sig}
use Rattle.mp_pattern.specs.Value.{Value, one, seq, bag, Subst, same_name, same_terms}
use Rattle.mp_pattern.specs.Fits.{Table}
use Rattle.mp_pattern.specs.DerivationOrder.{table_cmp}
use Rattle.mp_pattern.specs.Admission.{Rule, meets, Admits, AreLeast}
use Rattle.mp_pattern.specs.Firsts.{firsts_after}
use Rattle.mp_theory.specs.Solve.{solve}
use Rattle.mp_theory.specs.Frames.{settle, start}
use Rattle.mp_term.specs.Pieces.{same}
use Rattle.mp_theory.specs.Machine.{takes, tables}

-- the values are equal
abbrev pub same_value : Value → Value → Bool
same_value (one t) (one u) = same tree_cmp t u
same_value (seq ts) (seq us) = same_terms ts us
same_value (bag ts) (bag us) = same_terms ts us
same_value _ _ = false

-- the substitutions are equal
abbrev pub same_subst : Subst → Subst → Bool
same_subst [] [] = true
same_subst (b ∷ r) (c ∷ s) = same_name b.name c.name && (same_value b.value c.value && same_subst r s)
same_subst _ _ = false

-- a take table with the substitution that fits with it
abbrev pub Item : Type 0
Item = Table × Subst

-- they have one substitution
abbrev pub same_item : Item → Item → Bool
same_item i j = same_subst i.1 j.1

-- the tables of items, and their substitutions
abbrev pub item_tables : List Item → List Table
item_tables is = map (λ i. i.0) is

abbrev pub item_substs : List Item → List Subst
item_substs is = map (λ i. i.1) is

module _ (sig : Sig) (r : Rule) (t : Tree) where
  -- the substitution that solves the table's takes, where the condition holds of it
  abbrev pub admitted : Table → Option Subst
  admitted T = option_and_then (λ s. if meets sig r.condition s then Some s else None)
      (solve sig [] (takes (settle (start r.pattern t)) T))

  -- of the tables in order, each substitution once
  abbrev pub one_list : List Subst
  one_list = firsts_after same_subst [] (filter_map admitted (tables sig r.pattern t))

  -- the table with its substitution
  abbrev pub admitted_item : Table → Option Item
  admitted_item T = option_map (λ s. (T, s)) (admitted T)

  -- the one-list, and with each substitution the table that gives it first
  abbrev pub item_list : List Item
  item_list = firsts_after same_item [] (filter_map admitted_item (tables sig r.pattern t))

  -- the items have exactly the substitutions that the rule admits, each with its least table, and ascend strictly by
  -- these
  pub record AreItems (is : List Item) : Type 0 where
    pub exactly : (s : Subst) → Contains (item_substs is) s ↔ Admits sig r t s
    pub least : AreLeast sig r.pattern t (item_substs is) (item_tables is)
    pub ascending : IsStrictlySortedBy table_cmp (item_tables is)
