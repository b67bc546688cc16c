-- What a search over a cursor's trail may count on, and what it finds.
use Rattle.std.proofs.Common.{◌≡◌, ◌<◌, ◌≤◌, ℕ, List, [], ◌∷◌, length, map, refl, ap, sym, ◌∙◌, subst, arith}
use Rattle.std.proofs.Common.{append-nil, false}
use Rattle.std.specs.Prelude.{Option, Some, None, option_map, slice_get, ⊤}
use Rattle.std.specs.Borrow.{Bor}
use Rattle.std.specs.List.{AllByRecursion, range_with_len}
use Rattle.std.proofs.lemmas.List.FromFn.{length-range_with_len}
use Rattle.mp_term.specs.Tree.{Tree}
use Rattle.mp_term.specs.Size.{node_count}
use Rattle.mp_term.proofs.SearchLaws.{all-from_in}
use Rattle.mp_pattern.specs.PatternTree.{Pattern, patterns}
use Rattle.mp_pattern.specs.declared.pattern.Pattern.{Pattern as own_pattern}
use Rattle.mp_pattern.specs.declared.condition.Cond.{Cond as own_cond}
use Rattle.mp_pattern.specs.CondView.{cond_tree}
use Rattle.mp_pattern.specs.Operands.{IsConditionOver}
use Rattle.mp_pattern.specs.Subpatterns.{subpatterns, all_subpatterns}
use Rattle.mp_pattern.specs.Value.{Subst}
use Rattle.mp_pattern.specs.View.{pattern_tree}
use Rattle.mp_cond.specs.Verdict.{AreHeld}
use Rattle.mp_table.specs.Table.{HasRanks, terms_at, subject_of}
use Rattle.mp_table.specs.declared.rank.Rank.{Rank}
use Rattle.mp_subst.specs.Trail.{Trail, GoesWith}
use Rattle.mp_theory.specs.Frames.{Next, settle, start}
use Rattle.mp_theory.specs.Items.{items}
use Rattle.mp_theory.specs.Narrow.{load}
use Rattle.mp_search.specs.declared.grounds.Ground.{Ground}
use Rattle.mp_search.specs.declared.level.Level.{Level}
use Rattle.mp_search.specs.declared.query.Query.{Query}
use Rattle.mp_search.specs.Frames.{start_of}
use Rattle.mp_search.specs.Grounds.{AreGrounds}
use Rattle.mp_search.specs.Levels.{AreLevels}
use Rattle.mp_search.specs.Query.{IsQuery, IsReady}
use Rattle.mp_search.specs.Reading.{subst_of, name_among, subst_from}
use Rattle.mp_search.specs.Wanted.{AreComplete, IsComplete}
use Rattle.mp_cursor.specs.declared.matched.Matched.{Matched}
use Rattle.mp_cursor.specs.Matched.{IsMatched, IsDecidable, IsFresh, all_items, trail_subst, search_room}
use Rattle.mp_pattern.proofs.PlanNodes.{plan-names}
use Rattle.mp_cursor.proofs.SubjectLaws.{root-term}
use Rattle.mp_cursor.proofs.RangeLaws.{range-all, range-distinct}
use Rattle.mp_cursor.proofs.ReaderLaws.{item-complete}

-- what is asked of a search over the whole pattern
abbrev pub query_of : Matched → Bor (List ℕ) → Bor (List Ground) → Option (Bor own_cond) → Bor (List own_pattern)
    → Bor (List Rank) → ℕ → Query
query_of m vars grounds condition children left width = record {
  sig = m.sig;
  plan = m.plan;
  first = 0;
  vars = vars;
  table = m.table;
  grounds = grounds;
  condition = condition;
  width = width;
  start = record { under = None; children = children; left = left; owes = false };
}

-- how a search begins that has those patterns to take those terms
abbrev begun : List Pattern → List Tree → Next
begun ps ts = settle (record { under = None; children = patterns ps; left = ts; owes = false } ∷ [])

module _ (m : Matched) (h : IsMatched m) (vars : Bor (List ℕ)) (grounds : Bor (List Ground))
    (condition : Option (Bor own_cond)) (children : Bor (List own_pattern)) (left : Bor (List Rank)) (r : Rank)
    (numbers : vars.now ≡ range_with_len 0 (length m.plan.now.variables))
    (child : map pattern_tree children.now ≡ m.plan.now.pattern ∷ [])
    (given : left.now ≡ r ∷ []) (root : r.0 ≡ m.table.now.root) (wide : ℕ)
    (nodes : wide ≡ node_count (subject_of m.table.now)) where
  abbrev asked : Query
  asked = query_of m vars grounds condition children left wide

  given-root : terms_at m.table.now left.now ≡ subject_of m.table.now ∷ []
  given-root = ap (terms_at m.table.now) given ∙ ap (λ u. u ∷ []) (root-term m.table.now r root)

  pub start-same : start_of asked ≡ settle (start m.plan.now.pattern (subject_of m.table.now))
  start-same = ap (λ ps. begun ps (terms_at m.table.now left.now)) child
      ∙ ap (begun (m.plan.now.pattern ∷ [])) given-root

  pub load-same : load (start_of asked) ≡ node_count (subject_of m.table.now)
  load-same = ap load start-same ∙ (omega arith)

  pub subst-same : (t : Trail) → subst_of asked t ≡ trail_subst m t
  subst-same t = ap (λ ns. subst_from m.table.now (name_among ns m.plan.now.variables) [] t.stack) numbers

  pub items-same : (ls : List Level) (s : Subst) → length ls ≡ length m.plan.now.nodes
      → items m.sig.now (length ls) (start_of asked) s ≡ all_items m s
  items-same ls s e = ap (λ n. items m.sig.now n (start_of asked) s) e
      ∙ ap (λ n. items m.sig.now (length m.plan.now.nodes) n s) start-same

  pub is-query : AreGrounds m.table.now (subpatterns m.plan.now.pattern) grounds.now
      → IsDecidable m (option_map (λ c. cond_tree c.now) condition) → IsQuery asked
  is-query g d = record {
    plan = h.plan;
    table = h.table;
    normal = h.normal;
    holds = h.holds;
    grounds = g;
    children = ap (λ ps. all_subpatterns (patterns ps)) child ∙ append-nil (subpatterns m.plan.now.pattern);
    left = subst (HasRanks m.table.now) (sym given)
        (subst (λ n. n < length m.table.now.terms) (sym root) h.table.root, tt);
    arranged = refl;
    vars = ap length numbers ∙ length-range_with_len 0 (length m.plan.now.variables);
    distinct = λ i j v a b. range-distinct 0 (length m.plan.now.variables) i j v
        (subst (λ ns. slice_get ns i ≡ Some v) numbers a) (subst (λ ns. slice_get ns j ≡ Some v) numbers b);
    plain = plain condition;
    asked = decides condition d;
  }
    where
      plain : (c : Option (Bor own_cond)) → elim c as (λ _. Type 0)
          [ None ↦ ⊤ | Some c ↦ vars.now ≡ range_with_len 0 (length m.plan.now.variables) ]
      plain None = tt
      plain (Some c) = numbers

      decides : (c : Option (Bor own_cond)) → IsDecidable m (option_map (λ c. cond_tree c.now) c)
          → elim c as (λ _. Type 0) [
            | None ↦ ⊤
            | Some c ↦ IsConditionOver (map (λ x. x.name) m.plan.now.variables) (cond_tree c.now)
                × AreHeld m.table.now (cond_tree c.now)
          ]
      decides None d = tt
      decides (Some c) d = (
        subst (λ xs. IsConditionOver xs (cond_tree c.now))
            (sym (plan-names m.sig.now m.plan.now.pattern m.plan.now h.plan)) d.0,
        d.1,
      )

  pub is-complete : (ls : List Level) (t : Trail) → length ls ≡ length m.plan.now.nodes → IsFresh condition t
      → AreComplete asked (items m.sig.now (length ls) (start_of asked) (subst_of asked t))
  is-complete ls t e f = complete condition f
    where
      complete : (c : Option (Bor own_cond)) → IsFresh c t → elim c as (λ _. Type 0) [
        | None ↦ ⊤
        | Some c ↦ AllByRecursion (λ i. IsComplete m.plan.now.variables i.1)
            (items m.sig.now (length ls) (start_of asked) (subst_of asked t))
      ]
      complete None f = tt
      complete (Some c) f =
          let none : subst_of asked t ≡ [] =
          ap (λ es. subst_from m.table.now (name_among vars.now m.plan.now.variables) [] es) f in
          subst (AllByRecursion (λ i. IsComplete m.plan.now.variables i.1))
          (sym (items-same ls (subst_of asked t) e ∙ ap (all_items m) none))
          (all-from_in (λ i. IsComplete m.plan.now.variables i.1) (all_items m []) (λ i k. item-complete m h i k))

  pub is-ready : (ls : List Level) (t : Trail) → AreGrounds m.table.now (subpatterns m.plan.now.pattern) grounds.now
      → IsDecidable m (option_map (λ c. cond_tree c.now) condition)
      → AreLevels m.table.now (node_count (subject_of m.table.now)) ls → GoesWith m.table.now t
      → t.vars ≡ length m.plan.now.variables
      → search_room (length ls) (node_count (subject_of m.table.now)) ≤ t.spare → IsReady asked 0 ls t
  is-ready ls t g d a w v s =
      record {
        query = is-query g d;
        levels = subst (λ k. AreLevels m.table.now k ls) (sym nodes) a;
        narrow = omega (arith, load-same, nodes);
        trail = w;
        vars = subst (AllByRecursion (λ v. v < t.vars)) (sym numbers)
            (range-all (λ v. v < t.vars) 0 (length m.plan.now.variables) (λ u a b. omega (arith, b, v)));
        spare = omega (arith, load-same, s);
      }
