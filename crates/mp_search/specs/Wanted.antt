-- What a search looks for.
use Rattle.std.specs.Prelude.{◌≡◌, ⊤, Bool, true, ◌&&◌, List, filter, slice_get, Option, Some, None, option_map}
use Rattle.std.specs.List.{AllByRecursion}
use Rattle.std.specs.Ordering.{is_lt, is_eq}
use Rattle.mp_term.specs.Search.{In}
use Rattle.mp_pattern.specs.CondTree.{Cond}
use Rattle.mp_pattern.specs.CondView.{cond_tree}
use Rattle.mp_pattern.specs.Fits.{Table}
use Rattle.mp_pattern.specs.DerivationOrder.{table_cmp}
use Rattle.mp_pattern.specs.Admission.{meets}
use Rattle.mp_pattern.specs.Plan.{Variable}
use Rattle.mp_pattern.specs.Value.{Subst, form_of, value_of}
use Rattle.mp_theory.specs.OneList.{Item, item_tables}
use Rattle.mp_subst.specs.Trail.{Trail}
use Rattle.mp_search.specs.declared.mode.Mode.{Mode}
use Rattle.mp_search.specs.declared.mode.Mode.TheVariants.{First, After, At}
use Rattle.mp_search.specs.declared.query.Query.{Query}
use Rattle.mp_search.specs.declared.level.Level.{Level}
use Rattle.mp_search.specs.Reading.{table_of, subst_of}

-- all tables, those after W, or W alone
abbrev pub beyond : Mode → Table → Table → Bool
beyond First W V = true
beyond After W V = is_lt (table_cmp W V)
beyond At W V = is_eq (table_cmp W V)

-- the condition that is asked for, if there is one
abbrev pub condition_of : Query → Option Cond
condition_of q = option_map (λ c. cond_tree c.now) q.condition

-- it holds of the item's substitution
abbrev pub good : Query → Item → Bool
good q i = meets q.sig.now (condition_of q) i.1

-- what is looked for among the items: those that meet the condition, and whose table is meant
abbrev pub wanted : Query → Mode → Table → List Item → List Item
wanted q m W is = filter (λ i. good q i && beyond m W i.0) is

-- the levels and the trail have the first of the items
abbrev pub HasFirst : Query → List Item → List Level → Trail → Type 0
HasFirst q is ls t = slice_get is 0 ≡ Some (table_of q.table.now ls, subst_of q t)

-- where one looks for what comes after a table, it is that of an item
abbrev pub IsStanding : Mode → Table → List Item → Type 0
IsStanding First W is = ⊤
IsStanding After W is = In W (item_tables is)
IsStanding At W is = ⊤

-- each variable has a value of its form
abbrev pub IsComplete : List Variable → Subst → Type 0
IsComplete xs s = AllByRecursion (λ x. option_map form_of (value_of s x.name) ≡ Some x.form) xs

-- so it is with the substitution of each item, where there is a condition
abbrev pub AreComplete : Query → List Item → Type 0
AreComplete q is = elim q.condition [ None ↦ ⊤ | Some c ↦ AllByRecursion (λ i. IsComplete q.plan.now.variables i.1) is ]
