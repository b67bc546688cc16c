-- What a search below a commutative node may count on, and what it finds.
use Rattle.std.proofs.Common.{◌≡◌, ℕ, ◌<◌, ◌≤◌, ◌+◌, ◌*◌, List, [], ◌∷◌, length, map, drop}
use Rattle.std.proofs.Common.{Bool, true}
use Rattle.std.proofs.Common.{false, refl, ap, sym, ◌∙◌, subst, arith}
use Rattle.std.specs.Prelude.{⊤, ◌&&◌, Option, Some, None, slice_get, filter, MatchBool, if◌then◌else◌}
use Rattle.std.specs.Borrow.{Bor}
use Rattle.std.specs.List.{AllByRecursion, range_with_len}
use Rattle.std.specs.List.Sorted.{IsStrictlySortedBy}
use Rattle.std.specs.Ordering.{is_lt}
use Rattle.mp_term.specs.Search.{In}
use Rattle.mp_term.specs.Size.{all_nodes}
use Rattle.mp_pattern.specs.Admission.{meets}
use Rattle.mp_pattern.specs.CondTree.{Cond}
use Rattle.mp_pattern.specs.CondView.{cond_tree}
use Rattle.mp_pattern.specs.declared.condition.Cond.{Cond as own_cond}
use Rattle.mp_pattern.specs.DerivationOrder.{table_cmp}
use Rattle.mp_pattern.specs.Fits.{Table, arranged}
use Rattle.mp_pattern.specs.Operands.{IsConditionOver}
use Rattle.mp_pattern.specs.PatternTree.{Patterns, no_patterns, more_patterns, app_pattern, patterns}
use Rattle.mp_pattern.specs.Plan.{IsPlanOf}
use Rattle.mp_pattern.specs.Size.{all_pattern_nodes}
use Rattle.mp_pattern.specs.Subpatterns.{subpatterns, all_subpatterns}
use Rattle.mp_pattern.specs.Value.{Subst}
use Rattle.mp_pattern.specs.View.{pattern_tree}
use Rattle.mp_cond.specs.Verdict.{AreHeld}
use Rattle.mp_subst.specs.Trail.{Trail, GoesWith}
use Rattle.mp_theory.specs.Frames as walk
use Rattle.mp_theory.specs.Items.{items}
use Rattle.mp_theory.specs.Narrow.{load}
use Rattle.mp_theory.specs.OneList.{Item, item_tables}
use Rattle.mp_theory.proofs.SecondSearch.{items-ascending}
use Rattle.mp_search.specs.declared.level.Level.{Level}
use Rattle.mp_search.specs.declared.mode.Mode.TheVariants.{First, After}
use Rattle.mp_search.specs.declared.query.Query.{Query}
use Rattle.mp_search.specs.At.{IsFound}
use Rattle.mp_search.specs.Frames.{start_of, start_frame}
use Rattle.mp_search.specs.Grounds.{ground_of, AreGrounds}
use Rattle.mp_search.specs.Levels.{AreLevels}
use Rattle.mp_search.specs.Query.{IsQuery, IsReady, HoldsGround, width}
use Rattle.mp_search.specs.Reading.{table_of, subst_of}
use Rattle.mp_search.specs.Wanted.{wanted, good, AreComplete, IsComplete, IsStanding}
use Rattle.mp_ac.specs.CommList.{below, comm_list, behind_table}
use Rattle.mp_ac.specs.CommQuery.{args_of, IsCommQuery}
use Rattle.mp_ac.proofs.BehindLaws.{behind-first, behind-next, behind-greater}
use Rattle.mp_ac.proofs.ListLaws.{once-ascending}

-- before the first child there is no more to take than what is given
narrow-settled : (f : walk.Frame) → load (walk.settle (f ∷ [])) ≤ all_nodes f.left
narrow-settled f =
    elim f.children as
    (λ c. load
    (elim c [
      | no_patterns ↦ if walk.is_done f.left f.owes then walk.ended else walk.refused
      | more_patterns p ps ↦ walk.child p (record f { children = ps }) []
    ]) ≤ all_nodes f.left) [
      | no_patterns ↦ elim (walk.is_done f.left f.owes) as
          (λ b. load (if b then walk.ended else walk.refused) ≤ all_nodes f.left)
          [ true ↦ omega arith | false ↦ omega arith ]
      | more_patterns p ps ↦ omega arith
    ]

-- what is asked of a condition where there is none
unasked : (P : Bor own_cond → Type 0) (o : Option (Bor own_cond)) → o ≡ None
    → elim o as (λ _. Type 0) [ None ↦ ⊤ | Some c ↦ P c ]
unasked P None e = tt
unasked P (Some c) e = cc

-- where no condition is asked for, each item is good
module _ (q : Query) (none : q.condition ≡ None) where
  pub all-good : (i : Item) → good q i ≡ true
  all-good i = by_condition q.condition none
    where
      by_condition : (o : Option (Bor own_cond)) → o ≡ None
          → meets q.sig.now (elim o as (λ _. Option Cond) [ None ↦ None | Some c ↦ Some (cond_tree c.now) ]) i.1 ≡ true
      by_condition None e = refl
      by_condition (Some c) e = cc

  -- each list of items is complete
  pub comm-complete : (is : List Item) → AreComplete q is
  comm-complete is = unasked (λ c. AllByRecursion (λ i. IsComplete q.plan.now.variables i.1) is) q.condition none

  -- what is wanted first is all, and after a table what is greater
  wanted-first : (W : Table) (is : List Item) → wanted q First W is ≡ is
  wanted-first W [] = refl
  wanted-first W (i ∷ is) =
      ap (λ b. if b && true then i ∷ wanted q First W is else wanted q First W is) (all-good i)
      ∙ ap (λ js. i ∷ js) (wanted-first W is)

  wanted-after : (W : Table) (is : List Item)
      → wanted q After W is ≡ filter (λ i. is_lt (table_cmp W i.0)) is
  wanted-after W [] = refl
  wanted-after W (i ∷ is) =
      ap (λ b. if b && is_lt (table_cmp W i.0) then i ∷ wanted q After W is else wanted q After W is) (all-good i)
      ∙ ap (λ js. if is_lt (table_cmp W i.0) then i ∷ js else js) (wanted-after W is)

-- items that ascend strictly by their tables
abbrev AscendingList : List Item → Type 0
AscendingList is = IsStrictlySortedBy table_cmp (item_tables is)

module _ (q : Query) (g : ℕ) (ps : Patterns) (h : IsCommQuery q g ps) where
  -- the list that is searched
  abbrev pub listed : Subst → List Item
  listed s = comm_list q.sig.now g ps (args_of q) q.start.owes s

  pattern-is : q.plan.now.pattern ≡ app_pattern g ps
  pattern-is = ap (λ p. p.pattern) h.plan

  -- it is a query
  pub comm-query : IsQuery q
  comm-query = record {
    plan = subst (λ p. IsPlanOf q.sig.now p q.plan.now) (sym pattern-is) h.plan;
    table = h.table;
    normal = h.normal;
    holds = subst (λ p. AllByRecursion (λ c. HoldsGround q.table.now (ground_of c)) (subpatterns p)) (sym pattern-is)
        h.holds;
    grounds = subst (λ p. AreGrounds q.table.now (subpatterns p) q.grounds.now) (sym pattern-is) h.grounds;
    children = ap all_subpatterns h.children
        ∙ sym (ap (λ n. drop n (subpatterns q.plan.now.pattern)) h.first ∙ ap (λ p. drop 1 (subpatterns p)) pattern-is);
    left = h.left;
    arranged = ap (λ f. arranged q.sig.now f (args_of q)) h.under ∙ h.ordered;
    vars = h.vars;
    distinct = h.distinct;
    plain = unasked (λ c. q.vars.now ≡ range_with_len 0 (length q.plan.now.variables)) q.condition h.condition;
    asked = unasked (λ c. IsConditionOver (map (λ x. x.name) q.plan.now.variables) (cond_tree c.now)
        × AreHeld q.table.now (cond_tree c.now)) q.condition h.condition;
  }

  -- no more is to take than the arguments
  pub comm-narrow : load (start_of q) ≤ all_nodes (args_of q)
  comm-narrow = narrow-settled (start_frame q)

  -- there is room for the search
  pub comm-ready : (ls : List Level) (t : Trail) → AreLevels q.table.now (width q) ls → GoesWith q.table.now t
      → AllByRecursion (λ v. v < t.vars) q.vars.now → all_nodes (args_of q) + 3 * length ls ≤ t.spare
      → IsReady q 0 ls t
  comm-ready ls t l w v s = record {
    query = comm-query;
    levels = l;
    narrow = omega (arith, comm-narrow, h.wide);
    trail = w;
    vars = v;
    spare = omega (arith, comm-narrow, s);
  }

  -- what it takes of the room is no more than that
  pub comm-spare : (ls : List Level) (t u : Trail) → t.spare ≤ u.spare + (load (start_of q) + 3 * length ls)
      → t.spare ≤ u.spare + (all_nodes (args_of q) + 3 * length ls)
  comm-spare ls t u s = omega (arith, comm-narrow, s)

  -- the place at which it starts
  start-same : start_of q ≡ walk.settle (below g ps (args_of q) q.start.owes)
  start-same = ap (λ f. walk.settle (record {
    under = f;
    children = patterns (map pattern_tree q.start.children.now);
    left = args_of q;
    owes = q.start.owes;
  } ∷ [])) h.under
      ∙ ap (λ cs. walk.settle (record { under = Some g; children = cs; left = args_of q; owes = q.start.owes } ∷ []))
      h.children

  -- the items of the search are the list
  pub comm-items : (n : ℕ) (s : Subst) → n ≡ all_pattern_nodes ps → items q.sig.now n (start_of q) s ≡ listed s
  unfolding comm_list
  comm-items n s e = ap (λ k. items q.sig.now k (start_of q) s) e
      ∙ ap (λ p. items q.sig.now (all_pattern_nodes ps) p s) start-same

  -- where one looks for what comes after a table of the list
  pub comm-standing : (n : ℕ) (W : Table) (s : Subst) → n ≡ all_pattern_nodes ps → In W (item_tables (listed s))
      → IsStanding After W (items q.sig.now n (start_of q) s)
  comm-standing n W s e i = subst (λ is. In W (item_tables is)) (sym (comm-items n s e)) i

  -- the first item is found
  pub first-found : (n : ℕ) (V : Table) (s : Subst) (b : Bool) (ls : List Level) (t : Trail) → n ≡ all_pattern_nodes ps
      → IsFound q b (wanted q First V (items q.sig.now n (start_of q) s)) ls t
      → MatchBool b
      ((slice_get (listed s) 0 ≡ Some (table_of q.table.now ls, subst_of q t))
      × (behind_table (table_of q.table.now ls) (listed s) ≡ drop 1 (listed s)))
      (listed s ≡ [])
  first-found n V s b ls t e f =
      by_found b (subst (λ is. IsFound q b is ls t)
      (wanted-first q h.condition V (items q.sig.now n (start_of q) s) ∙ comm-items n s e) f)
    where
      by_found : (b : Bool) → IsFound q b (listed s) ls t → MatchBool b
          ((slice_get (listed s) 0 ≡ Some (table_of q.table.now ls, subst_of q t))
          × (behind_table (table_of q.table.now ls) (listed s) ≡ drop 1 (listed s)))
          (listed s ≡ [])
      by_found true k = (k, behind-first (listed s) (table_of q.table.now ls, subst_of q t) k)
      by_found false k = k

  -- its items ascend by their tables
  ascending : (s : Subst) → AscendingList (listed s)
  ascending s = subst AscendingList (comm-items (all_pattern_nodes ps) s refl)
      (items-ascending q.sig.now (all_pattern_nodes ps) (start_of q) s)

  -- the first item behind a table is found
  pub after-found : (n : ℕ) (W : Table) (s : Subst) (b : Bool) (ls : List Level) (t : Trail) → n ≡ all_pattern_nodes ps
      → In W (item_tables (listed s))
      → IsFound q b (wanted q After W (items q.sig.now n (start_of q) s)) ls t
      → MatchBool b
      ((slice_get (behind_table W (listed s)) 0 ≡ Some (table_of q.table.now ls, subst_of q t))
      × (behind_table (table_of q.table.now ls) (listed s) ≡ drop 1 (behind_table W (listed s))))
      (behind_table W (listed s) ≡ [])
  after-found n W s b ls t e i f =
      by_found b (subst (λ is. IsFound q b is ls t)
      (wanted-after q h.condition W (items q.sig.now n (start_of q) s)
      ∙ ap (filter (λ i. is_lt (table_cmp W i.0))) (comm-items n s e)
      ∙ behind-greater W (listed s) (ascending s) i) f)
    where
      by_found : (b : Bool) → IsFound q b (behind_table W (listed s)) ls t → MatchBool b
          ((slice_get (behind_table W (listed s)) 0 ≡ Some (table_of q.table.now ls, subst_of q t))
          × (behind_table (table_of q.table.now ls) (listed s) ≡ drop 1 (behind_table W (listed s))))
          (behind_table W (listed s) ≡ [])
      by_found true k = (
        k,
        behind-next W (listed s) (table_of q.table.now ls, subst_of q t)
            (once-ascending (item_tables (listed s)) (ascending s)) k,
      )
      by_found false k = k
