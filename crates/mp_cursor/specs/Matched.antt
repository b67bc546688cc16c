-- What a cursor matches, and what is looked for.
use Rattle.std.specs.Prelude.{◌≡◌, ◌+◌, ◌*◌, ◌&&◌, ⊤, ℕ, Bool, true, IsTrue, List, [], length, filter, Option, None}
use Rattle.std.specs.Prelude.{Some}
use Rattle.std.specs.Borrow.{Bor}
use Rattle.std.specs.List.{AllByRecursion, range_with_len}
use Rattle.mp_term.specs.Normal.{IsNormal}
use Rattle.mp_pattern.specs.Admission.{meets}
use Rattle.mp_pattern.specs.CondTree.{Cond}
use Rattle.mp_pattern.specs.declared.condition.Cond.{Cond as own_cond}
use Rattle.mp_pattern.specs.Instance.{is_fully_named}
use Rattle.mp_pattern.specs.Fits as fits
use Rattle.mp_pattern.specs.Operands.{IsConditionOver}
use Rattle.mp_pattern.specs.Plan.{IsPlanOf}
use Rattle.mp_pattern.specs.Subpatterns.{subpatterns}
use Rattle.mp_pattern.specs.Value.{Subst}
use Rattle.mp_pattern.specs.Variables.{variables}
use Rattle.mp_table.specs.Table as tables
use Rattle.mp_table.specs.Table.{subject_of}
use Rattle.mp_subst.specs.Trail.{Trail}
use Rattle.mp_cond.specs.Verdict.{AreHeld}
use Rattle.mp_theory.specs.Frames.{settle, start}
use Rattle.mp_theory.specs.Items.{items}
use Rattle.mp_theory.specs.Least.{is_least_item}
use Rattle.mp_theory.specs.NoOptional.{HasNoOptional}
use Rattle.mp_theory.specs.OneList.{Item}
use Rattle.mp_search.specs.Grounds.{ground_of}
use Rattle.mp_search.specs.Query.{HoldsGround}
use Rattle.mp_search.specs.Reading.{name_among, subst_from}
use Rattle.mp_search.specs.Wanted.{beyond}
use Rattle.mp_search.specs.declared.mode.Mode.{Mode}
use Rattle.mp_search.specs.declared.mode.Mode.TheVariants.{First, After, At}
use Rattle.mp_cursor.specs.declared.matched.Matched.{Matched}

-- the plan is that of its pattern over the signature, and the table is one of normal terms, the pattern's symbols and
-- defaults among them
pub record IsMatched (m : Matched) : Type 0 where
  pub plan : IsPlanOf m.sig.now m.plan.now.pattern m.plan.now
  pub table : tables.IsTable m.table.now
  pub normal : AllByRecursion (IsNormal m.sig.now) m.table.now.terms
  pub holds : AllByRecursion (λ p. HoldsGround m.table.now (ground_of p)) (subpatterns m.plan.now.pattern)

-- the condition, if there is one, speaks of the plan's variables and of terms that the table holds
abbrev pub IsDecidable : Matched → Option Cond → Type 0
IsDecidable m None = ⊤
IsDecidable m (Some c) = IsConditionOver (variables m.plan.now.pattern) c × AreHeld m.table.now c

-- all items of the pattern on the subject that go with the substitution
abbrev pub all_items : Matched → Subst → List Item
all_items m s = items m.sig.now (length m.plan.now.nodes)
    (settle (start m.plan.now.pattern (subject_of m.table.now))) s

-- those of them that are looked for: the condition holds, and the table is meant
abbrev pub looked_for : Matched → Option Cond → Mode → fits.Table → Subst → List Item
looked_for m c mode W s = filter (λ i. meets m.sig.now c i.1 && beyond mode W i.0) (all_items m s)

-- the substitution of a trail whose variables have the plan's numbers
abbrev pub trail_subst : Matched → Trail → Subst
trail_subst m t = subst_from m.table.now
    (name_among (range_with_len 0 (length m.plan.now.variables)) m.plan.now.variables) [] t.stack

-- how many ranks one search binds at most, and entries with them: no more terms than the subject has nodes, and for
-- each node three
abbrev pub search_room : ℕ → ℕ → ℕ
search_room nodes width = width + 3 * nodes

-- those that are looked for whose table is the least of its substitution
abbrev pub sought : Matched → Option Cond → Mode → fits.Table → List Item
sought m c mode W =
    filter (is_least_item m.sig.now m.plan.now.pattern (subject_of m.table.now)) (looked_for m c mode W [])

-- one goes on to the first item or to the next one
abbrev pub IsOnward : Mode → Type 0
IsOnward First = ⊤
IsOnward After = ⊤
IsOnward At = ⊥

-- where it is said so, a substitution decides its table
abbrev pub IsDecided : Matched → Bool → Type 0
IsDecided m b = IsTrue b → (is_fully_named m.plan.now.pattern ≡ true) × HasNoOptional m.plan.now.pattern

-- a condition is asked for only where nothing is bound before
abbrev pub IsFresh : Option (Bor own_cond) → Trail → Type 0
IsFresh None t = ⊤
IsFresh (Some c) t = t.stack ≡ []
