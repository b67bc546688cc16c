-- A matcher at its begin.
use Rattle.std.proofs.Common.{◌≡◌, ℕ, ◌<◌, ◌≤◌, ◌+◌, ◌*◌, List, [], ◌∷◌, map, length, false, refl, ap, sym, ◌∙◌, subst}
use Rattle.std.proofs.Common.{arith, inl, inr}
use Rattle.std.specs.Prelude.{Some, slice_get}
use Rattle.std.specs.List.{AllByRecursion}
use Rattle.std.proofs.lemmas.List.{length-map}
use Rattle.mp_term.specs.Normal.{IsNormal}
use Rattle.mp_term.specs.Search.{In}
use Rattle.mp_term.specs.Size.{all_nodes}
use Rattle.mp_term.proofs.ListingLaws.{all_in}
use Rattle.mp_term.proofs.SearchLaws.{in-left, in-right, from_in-append, all-from_in}
use Rattle.mp_pattern.specs.Fits.{arranged}
use Rattle.mp_pattern.specs.PatternTree.{Pattern, Patterns, symbol_pattern, app_pattern, wild_pattern, no_patterns}
use Rattle.mp_pattern.specs.PatternTree.{more_patterns}
use Rattle.mp_pattern.specs.Plan.{Plan, Variable, IsPlanOf}
use Rattle.mp_pattern.specs.Size.{all_pattern_nodes}
use Rattle.mp_pattern.specs.Subpatterns.{subpatterns, all_subpatterns}
use Rattle.mp_pattern.specs.Variables.{variables}
use Rattle.mp_table.specs.Table.{IsTable, HasRanks, terms_at}
use Rattle.mp_subst.specs.Trail.{Trail, AreFinal, GoesWith, cut, length_at}
use Rattle.mp_subst.proofs.TrailLaws.{cut-whole}
use Rattle.mp_search.specs.Grounds.{ground_of, AreGrounds}
use Rattle.mp_search.specs.Query.{HoldsGround}
use Rattle.mp_search.specs.Reading.{name_among}
use Rattle.mp_search.proofs.NumberLaws.{in-slice_get}
use Rattle.mp_ac.specs.declared.comm_matcher.CommMatcher.{CommMatcher}
use Rattle.mp_search.specs.declared.stage.Stage.TheVariants.{Before}
use Rattle.mp_ac.specs.Asked.{all_items, levels_table, root_list}
use Rattle.mp_ac.specs.Children.{AreArguments}
use Rattle.mp_ac.specs.CommItems.{AreCommItems}
use Rattle.mp_ac.specs.CommList.{comm_list}
use Rattle.mp_ac.specs.CommPlan.{nodes_below, root_op}
use Rattle.mp_ac.specs.CommRoom.{IsRoomFor}
use Rattle.mp_ac.specs.Matcher.{IsMatcher, asked_of, base_of, number_among, read_trail, to_come}
use Rattle.mp_ac.specs.Stage.{ahead_at, IsAmong}
use Rattle.mp_ac.proofs.ListLaws.{comm_list-items}
use Rattle.mp_ac.proofs.MatcherLaws.{own-below, own-distinct, read-trail, sub-variables, variables-once}
use Rattle.mp_pattern.proofs.PlanNodes.{plan-names}

-- the subpatterns of a subpattern are subpatterns
module _ (c d : Pattern) (i : In d (subpatterns c)) where
  mutual
    sub-sub : (p : Pattern) → In c (subpatterns p) → In d (subpatterns p)
    sub-sub (symbol_pattern n) (inl e) = subst (λ q. In d (subpatterns q)) e i
    sub-sub (symbol_pattern n) (inr j) = absurd j
    sub-sub (wild_pattern w x) (inl e) = subst (λ q. In d (subpatterns q)) e i
    sub-sub (wild_pattern w x) (inr j) = absurd j
    sub-sub (app_pattern g ps) (inl e) = subst (λ q. In d (subpatterns q)) e i
    sub-sub (app_pattern g ps) (inr j) = inr (all_sub-sub ps j)

    all_sub-sub : (ps : Patterns) → In c (all_subpatterns ps) → In d (all_subpatterns ps)
    all_sub-sub no_patterns j = absurd j
    all_sub-sub (more_patterns p ps) j =
        elim (from_in-append c (subpatterns p) (all_subpatterns ps) j) [
          | inl m ↦ in-left d (subpatterns p) (all_subpatterns ps) (sub-sub p m)
          | inr m ↦ in-right d (subpatterns p) (all_subpatterns ps) (all_sub-sub ps m)
        ]

map-map : {X Y Z : Type 0} (f : Y → Z) (h : X → Y) (xs : List X) → map (λ x. f (h x)) xs ≡ map f (map h xs)
map-map f h [] = refl
map-map f h (x ∷ xs) = ap (λ ys. f (h x) ∷ ys) (map-map f h xs)

module _ (m : CommMatcher) (whole : Plan) (vars : List ℕ) (node g : ℕ) (ps : Patterns) (t : Trail)
    (plan : IsPlanOf m.sig.now (app_pattern g ps) m.plan) (planned : IsPlanOf m.sig.now whole.pattern whole)
    (sub : slice_get (subpatterns whole.pattern) node ≡ Some (app_pattern g ps))
    (numbers : m.vars.items ≡ map (λ (y : Variable). number_among vars whole.variables y.name) m.plan.variables)
    (mark : length_at m.mark ≡ length t.stack) (trail : m.trail ≡ t) (stage : m.stage ≡ Before) where
  own-pattern : m.plan.pattern ≡ app_pattern g ps
  own-pattern = ap (λ (q : Plan). q.pattern) plan

  -- the numbers of the node's own variables
  pub own-numbers : m.vars.items ≡ map (number_among vars whole.variables) (variables (app_pattern g ps))
  own-numbers = numbers
      ∙ map-map (number_among vars whole.variables) (λ (y : Variable). y.name) m.plan.variables
      ∙ ap (map (number_among vars whole.variables)) (plan-names m.sig.now (app_pattern g ps) m.plan plan)

  -- the trail of the begin is that which it was given
  pub base-same : base_of m ≡ t
  base-same = ap (cut (length_at m.mark)) trail ∙ ap (λ n. cut n t) mark ∙ cut-whole t

  among : (y : List ℕ) → In y (variables (app_pattern g ps)) → In y (map (λ (x : Variable). x.name) whole.variables)
  among y i = subst (In y) (sym (plan-names m.sig.now whole.pattern whole planned))
      (sub-variables whole.pattern (app_pattern g ps) node y sub i)

  -- it stands before its items
  pub standing : length vars ≡ length whole.variables
      → ((i j v : ℕ) → slice_get vars i ≡ Some v → slice_get vars j ≡ Some v → i ≡ j)
      → AllByRecursion (λ v. v < t.vars) vars → IsTable m.table.now
      → AllByRecursion (IsNormal m.sig.now) m.table.now.terms
      → AllByRecursion (λ p. HoldsGround m.table.now (ground_of p)) (subpatterns whole.pattern)
      → HasRanks m.table.now m.args.items
      → AreArguments m.sig.now g (terms_at m.table.now m.args.items)
      → IsRoomFor m.table.now 0 (nodes_below (app_pattern g ps)) (all_nodes (terms_at m.table.now m.args.items)) m.room
      → AreGrounds m.table.now (subpatterns m.plan.pattern) m.room.grounds.list.items.items
      → GoesWith m.table.now t
      → all_nodes (terms_at m.table.now m.args.items) + 3 * all_pattern_nodes ps ≤ t.spare
      → IsMatcher m
  standing many distinct below table normal holds ranks arguments room grounds goes spare = record {
    mark = omega (arith, mark, ap (λ (u : Trail). length u.stack) trail);
    stands = record {
      asked = record {
        application = record { op = g; children = ps; is = own-pattern };
        plan = subst (λ p. IsPlanOf m.sig.now p m.plan) (sym own-pattern) plan;
        table = table;
        normal = normal;
        holds = subst (λ p. AllByRecursion (λ c. HoldsGround m.table.now (ground_of c)) (subpatterns p))
            (sym own-pattern)
            (all-from_in (λ c. HoldsGround m.table.now (ground_of c)) (subpatterns (app_pattern g ps)) (λ d i.
            all_in (λ c. HoldsGround m.table.now (ground_of c)) (subpatterns whole.pattern) d holds
            (sub-sub (app_pattern g ps) d i whole.pattern
            (in-slice_get (subpatterns whole.pattern) node (app_pattern g ps) sub))));
        vars = ap (λ ns. length ns) numbers
            ∙ length-map m.plan.variables (λ (y : Variable). number_among vars whole.variables y.name);
        distinct = λ i j v a b. own-distinct vars whole.variables (variables (app_pattern g ps)) many among
            (variables-once (app_pattern g ps)) distinct i j v
            (subst (λ ns. slice_get ns i ≡ Some v) own-numbers a)
            (subst (λ ns. slice_get ns j ≡ Some v) own-numbers b);
      };
      given = record {
        ranks = ranks;
        arranged = subst (λ p. arranged m.sig.now (root_op p) (terms_at m.table.now m.args.items)
            ≡ terms_at m.table.now m.args.items) (sym own-pattern) arguments.ordered;
      };
      room = subst (λ p. IsRoomFor m.table.now 0 (nodes_below p) (all_nodes (terms_at m.table.now m.args.items)) m.room)
          (sym own-pattern) room;
      grounds = grounds;
      trail = record {
        goes = subst (GoesWith m.table.now) (sym base-same) goes;
        vars = subst (λ ns. AllByRecursion (λ v. v < (base_of m).vars) ns) (sym own-numbers)
            (subst (λ (u : Trail). AllByRecursion (λ v. v < u.vars)
            (map (number_among vars whole.variables) (variables (app_pattern g ps)))) (sym base-same)
            (own-below vars whole.variables (variables (app_pattern g ps)) many among t.vars below));
        spare = omega (arith, spare, ap (λ (u : Trail). u.spare) base-same, ap nodes_below own-pattern);
      };
      among = subst (λ s. IsAmong s (levels_table (asked_of m) m.room.levels.items)
          (all_items (asked_of m) m.args.items (read_trail m (base_of m)))) (sym stage) tt;
    };
  }

  -- its list is that of the node
  pub listed : to_come m ≡ comm_list m.sig.now g ps (terms_at m.table.now m.args.items) false (read_trail m t)
  listed =
      ap (λ s. ahead_at s (levels_table (asked_of m) m.room.levels.items)
      (all_items (asked_of m) m.args.items (read_trail m (base_of m)))) stage
      ∙ ap (λ p. root_list m.sig.now p (terms_at m.table.now m.args.items) false (read_trail m (base_of m))) own-pattern
      ∙ ap (λ u. comm_list m.sig.now g ps (terms_at m.table.now m.args.items) false (read_trail m u)) base-same

  -- and so its items are those of the node
  pub items : AreArguments m.sig.now g (terms_at m.table.now m.args.items) → AreFinal m.sig.now m.table.now t.stack
      → AreCommItems m.sig.now g ps (terms_at m.table.now m.args.items) false (read_trail m t) (to_come m)
  items arguments values =
      subst (AreCommItems m.sig.now g ps (terms_at m.table.now m.args.items) false (read_trail m t)) (sym listed)
      (comm_list-items m.sig.now g ps (terms_at m.table.now m.args.items) false arguments (read_trail m t)
      (read-trail m.sig.now m.table.now (name_among m.vars.items m.plan.variables) [] t.stack values
      (record { final = tt; distinct = tt })))
