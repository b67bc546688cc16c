-- What a search in the first levels may count on, and what it finds.
use Rattle.std.proofs.Common.{◌≡◌, ℕ, ◌≤◌, ◌+◌, ◌*◌, List, [], ◌∷◌, ◌++◌, length, map, take, drop, Bool, refl, ap, sym}
use Rattle.std.proofs.Common.{◌∙◌, subst, arith, zero, suc}
use Rattle.std.specs.Prelude.{Some, None, slice_get, MatchBool}
use Rattle.std.specs.Borrow.{Bor}
use Rattle.std.specs.List.{AllByRecursion}
use Rattle.std.proofs.lemmas.List.{length-take-le}
use Rattle.mp_term.specs.Size.{all_nodes}
use Rattle.mp_term.specs.declared.term.OpId.{OpId}
use Rattle.mp_pattern.specs.Fits.{arranged}
use Rattle.mp_pattern.specs.PatternTree.{Pattern, app_pattern, patterns}
use Rattle.mp_pattern.specs.Plan.{IsPlanOf}
use Rattle.mp_pattern.specs.Size.{all_pattern_nodes}
use Rattle.mp_pattern.specs.Subpatterns.{subpatterns}
use Rattle.mp_pattern.specs.Value.{Subst}
use Rattle.mp_pattern.specs.View.{pattern_tree}
use Rattle.mp_pattern.specs.declared.pattern.Pattern.{Pattern as own_pattern}
use Rattle.mp_table.specs.Table.{terms_at}
use Rattle.mp_table.specs.declared.rank.Rank.{Rank}
use Rattle.mp_subst.specs.Trail.{Trail}
use Rattle.mp_subst.proofs.TrailLaws.{all-take}
use Rattle.mp_theory.specs.Items.{items}
use Rattle.mp_theory.specs.Narrow.{load}
use Rattle.mp_search.specs.declared.grounds.Ground.{Ground}
use Rattle.mp_search.specs.declared.level.Level.{Level}
use Rattle.mp_search.specs.declared.mode.Mode.{Mode}
use Rattle.mp_search.specs.declared.mode.Mode.TheVariants.{First, After, At}
use Rattle.mp_search.specs.declared.query.Query.{Query}
use Rattle.mp_search.specs.At.{IsFound}
use Rattle.mp_search.specs.Frames.{start_of}
use Rattle.mp_search.specs.Grounds.{AreGrounds, ground_of}
use Rattle.mp_search.specs.Levels.{AreLevels, IsOver, IsRoomy}
use Rattle.mp_search.specs.Query.{IsReady, HoldsGround}
use Rattle.mp_search.specs.Reading.{subst_of, table_of}
use Rattle.mp_search.specs.Wanted.{wanted, IsStanding}
use Rattle.mp_ac.specs.declared.asked.Asked.{Asked}
use Rattle.mp_ac.specs.Asked.{IsAsked, AreGiven, IsTrailFor, all_items, cost, levels_table, trail_subst, root_list}
use Rattle.mp_ac.specs.CommList.{behind_table}
use Rattle.mp_ac.specs.CommPlan.{nodes_below, root_op}
use Rattle.mp_ac.specs.CommQuery.{IsCommQuery}
use Rattle.mp_ac.specs.Stage.{IsOnward, looked_for}
use Rattle.mp_ac.proofs.PlanNodes.{plan-nodes_below}
use Rattle.mp_ac.proofs.QueryLaws.{comm-ready, comm-spare, comm-items, first-found, after-found, listed}

-- as many as there are in front
take-front : {X : Type 0} (xs ys : List X) (n : ℕ) → length xs ≡ n → take n (xs ++ ys) ≡ xs
take-front [] ys zero e = refl
take-front [] ys (suc n) e = absurd (omega (arith, e))
take-front (x ∷ xs) ys zero e = absurd (omega (arith, e))
take-front (x ∷ xs) ys (suc n) e = ap (λ zs. x ∷ zs) (take-front xs ys n (omega (arith, e)))

module _ (a : Asked) (h : IsAsked a) where
  -- how many nodes there are below the root
  pub count-below : (n : ℕ) → n ≡ length a.plan.now.nodes → n ≡ nodes_below a.plan.now.pattern + 1
  count-below n e = e ∙ plan-nodes_below a.sig.now a.plan.now.pattern a.plan.now h.plan h.application

  module _ (args : Bor (List Rank)) (grounds : Bor (List Ground)) (op : OpId) (children : Bor (List own_pattern))
      (ps : List Pattern) (root : a.plan.now.pattern ≡ app_pattern op.0 (patterns ps))
      (same : map pattern_tree children.now ≡ ps)
      (given : AreGiven a.sig.now a.plan.now.pattern a.table.now args.now)
      (known : AreGrounds a.table.now (subpatterns a.plan.now.pattern) grounds.now) (width : ℕ)
      (wide : all_nodes (terms_at a.table.now args.now) ≤ width) where
    -- what is asked
    abbrev pub asked : Query
    asked = record {
      sig = a.sig;
      plan = a.plan;
      first = 1;
      vars = a.vars;
      table = a.table;
      grounds = grounds;
      condition = None;
      width = width;
      start = record { under = Some op; children = children; left = args; owes = a.owes };
    }

    is-comm : IsCommQuery asked op.0 (patterns ps)
    is-comm = record {
      plan = subst (λ p. IsPlanOf a.sig.now p a.plan.now) root h.plan;
      first = refl;
      vars = h.vars;
      distinct = h.distinct;
      table = h.table;
      normal = h.normal;
      holds = subst (λ p. AllByRecursion (λ c. HoldsGround a.table.now (ground_of c)) (subpatterns p)) root h.holds;
      grounds = subst (λ p. AreGrounds a.table.now (subpatterns p) grounds.now) root known;
      condition = refl;
      wide = wide;
      under = refl;
      children = ap patterns same;
      left = given.ranks;
      ordered = subst (λ p. arranged a.sig.now (root_op p) (terms_at a.table.now args.now)
          ≡ terms_at a.table.now args.now) root given.arranged;
    }

    below-same : nodes_below a.plan.now.pattern ≡ all_pattern_nodes (patterns ps)
    below-same = ap nodes_below root

    all-same : (s : Subst) → all_items a args.now s ≡ listed asked op.0 (patterns ps) is-comm s
    all-same s = ap (λ p. root_list a.sig.now p (terms_at a.table.now args.now) a.owes s) root

    module _ (n : ℕ) (ls : List Level) (t : Trail) (count : n ≡ nodes_below a.plan.now.pattern)
        (enough : nodes_below a.plan.now.pattern ≤ length ls) where
      front-long : length (take n ls) ≡ n
      front-long = length-take-le n ls (omega (arith, count, enough))

      own-count : length (take n ls) ≡ all_pattern_nodes (patterns ps)
      own-count = front-long ∙ count ∙ below-same

      pub is-ready : AreLevels a.table.now width ls
          → IsTrailFor a.vars.now a.plan.now.pattern a.table.now args.now t → IsReady asked 0 (take n ls) t
      is-ready l w = comm-ready asked op.0 (patterns ps) is-comm (take n ls) t
          (all-take (λ k. IsRoomy width k × IsOver a.table.now k) n ls l)
          w.goes w.vars (omega (arith, w.spare, front-long, count))

      listed-same : items a.sig.now (length (take n ls)) (start_of asked) (subst_of asked t)
          ≡ all_items a args.now (trail_subst a t)
      listed-same = comm-items asked op.0 (patterns ps) is-comm (length (take n ls)) (subst_of asked t) own-count
          ∙ sym (all-same (trail_subst a t))

      table-same : table_of a.table.now (take n ls) ≡ levels_table a ls
      table-same = ap (λ k. table_of a.table.now (take k ls)) count

      pub is-standing : (mode : Mode) → IsStanding mode (levels_table a ls) (all_items a args.now (trail_subst a t))
          → IsStanding mode (table_of a.table.now (take n ls))
          (items a.sig.now (length (take n ls)) (start_of asked) (subst_of asked t))
      is-standing mode s =
          subst (λ W. IsStanding mode W (items a.sig.now (length (take n ls)) (start_of asked) (subst_of asked t)))
          (sym table-same) (subst (IsStanding mode (levels_table a ls)) (sym listed-same) s)

      pub is-spare : (u : Trail) → t.spare ≤ u.spare + (load (start_of asked) + 3 * length (take n ls))
          → t.spare ≤ u.spare + cost a.plan.now.pattern (terms_at a.table.now args.now)
      is-spare u e = omega (
        arith,
        comm-spare asked op.0 (patterns ps) is-comm (take n ls) t u e,
        front-long,
        count,
      )

      -- what a search finds
      abbrev Finds : Mode → Bool → List Level → Trail → Type 0
      Finds mode b ks u =
          let all = all_items a args.now (trail_subst a t) in
          MatchBool b
          ((slice_get (looked_for mode (levels_table a ls) all) 0 ≡ Some (levels_table a ks, trail_subst a u))
          × (behind_table (levels_table a ks) all ≡ drop 1 (looked_for mode (levels_table a ls) all)))
          (looked_for mode (levels_table a ls) all ≡ [])

      module _ (ks rest : List Level) (u : Trail) (many : length ks ≡ length (take n ls)) where
        new-table : table_of a.table.now ks ≡ levels_table a (ks ++ rest)
        new-table = ap (table_of a.table.now)
            (sym (take-front ks rest (nodes_below a.plan.now.pattern) (many ∙ front-long ∙ count)))

        pub finds : (mode : Mode) (b : Bool) → IsOnward mode → IsStanding mode (levels_table a ls)
            (all_items a args.now (trail_subst a t))
            → IsFound asked b (wanted asked mode (table_of a.table.now (take n ls))
            (items a.sig.now (length (take n ls)) (start_of asked) (subst_of asked t))) ks u
            → Finds mode b (ks ++ rest) u
        finds First b o s f =
            subst (λ W. MatchBool b
            ((slice_get (all_items a args.now (trail_subst a t)) 0 ≡ Some (W, trail_subst a u))
            × (behind_table W (all_items a args.now (trail_subst a t)) ≡ drop 1
            (all_items a args.now (trail_subst a t))))
            (all_items a args.now (trail_subst a t) ≡ [])) new-table
            (subst (λ all. MatchBool b
            ((slice_get all 0 ≡ Some (table_of a.table.now ks, trail_subst a u))
            × (behind_table (table_of a.table.now ks) all ≡ drop 1 all)) (all ≡ []))
            (sym (all-same (trail_subst a t)))
            (first-found asked op.0 (patterns ps) is-comm (length (take n ls)) (table_of a.table.now (take n ls))
            (subst_of asked t) b ks u own-count f))
        finds After b o s f =
            subst (λ W. MatchBool b
            ((slice_get (behind_table (levels_table a ls) (all_items a args.now (trail_subst a t))) 0
            ≡ Some (W, trail_subst a u))
            × (behind_table W (all_items a args.now (trail_subst a t))
            ≡ drop 1 (behind_table (levels_table a ls) (all_items a args.now (trail_subst a t)))))
            (behind_table (levels_table a ls) (all_items a args.now (trail_subst a t)) ≡ [])) new-table
            (subst (λ V. MatchBool b
            ((slice_get (behind_table V (all_items a args.now (trail_subst a t))) 0
            ≡ Some (table_of a.table.now ks, trail_subst a u))
            × (behind_table (table_of a.table.now ks) (all_items a args.now (trail_subst a t))
            ≡ drop 1 (behind_table V (all_items a args.now (trail_subst a t)))))
            (behind_table V (all_items a args.now (trail_subst a t)) ≡ [])) table-same
            (subst (λ all. MatchBool b
            ((slice_get (behind_table (table_of a.table.now (take n ls)) all) 0
            ≡ Some (table_of a.table.now ks, trail_subst a u))
            × (behind_table (table_of a.table.now ks) all
            ≡ drop 1 (behind_table (table_of a.table.now (take n ls)) all)))
            (behind_table (table_of a.table.now (take n ls)) all ≡ []))
            (sym (all-same (trail_subst a t)))
            (after-found asked op.0 (patterns ps) is-comm (length (take n ls)) (table_of a.table.now (take n ls))
            (subst_of asked t) b ks u own-count
            (subst (IsStanding After (table_of a.table.now (take n ls))) (all-same (trail_subst a t))
            (subst (λ W. IsStanding After W (all_items a args.now (trail_subst a t))) (sym table-same) s)) f)))
        finds At b o s f = absurd o
