-- A search that begins: what is known of its parts.
use Rattle.std.proofs.Common.{◌≡◌, ◌≤◌, ℕ, List, [], ◌∷◌, ◌++◌, length, map, true, ap, sym, subst, ◌∙◌}
use Rattle.std.proofs.Common.{arith, Bool, false, inl, inr}
use Rattle.std.specs.Prelude.{IsSome, None, take}
use Rattle.std.specs.List.{AllByRecursion}
use Rattle.std.specs.List.Sorted.{IsSorted}
use Rattle.std.proofs.Math.Seq.{take-append_seam}
use Rattle.std.proofs.lemmas.List.{length-append, length-map, map-append, take-map}
use Rattle.mp_term.specs.Listing.{In}
use Rattle.mp_term.specs.Normal.{IsNormal}
use Rattle.mp_term.specs.Order.{tree_cmp}
use Rattle.mp_term.specs.Signature.{Sig}
use Rattle.mp_term.specs.Size.{node_count, node_counts, all_nodes}
use Rattle.mp_term.specs.Sorting.{sorted}
use Rattle.mp_term.specs.Tree.{Tree, symbol, app, tree_list}
use Rattle.mp_term.specs.TreeLists.{trees-tree_list}
use Rattle.mp_term.proofs.SearchLaws.{in-left, in-right}
use Rattle.mp_term.proofs.Sorting.{Ascends, ascends-sorted, sorted-ascends}
use Rattle.mp_term.proofs.ListLaws.{all-split}
use Rattle.mp_pattern.specs.Constants.{pattern_constants, all_pattern_constants}
use Rattle.mp_pattern.specs.Fits.{arranged}
use Rattle.mp_pattern.specs.NetTokens.{numbered}
use Rattle.mp_pattern.specs.PatternLists.{pattern_list-patterns}
use Rattle.mp_pattern.specs.PatternTree.{Pattern, app_pattern, pattern_list, patterns}
use Rattle.mp_pattern.specs.Plan.{Plan, Variable}
use Rattle.mp_pattern.specs.Subpatterns.{subpatterns}
use Rattle.mp_pattern.specs.Value.{Subst, same_name}
use Rattle.mp_pattern.specs.Variables.{Use, uses, all_uses, variables, comm_above}
use Rattle.mp_pattern.specs.View.{pattern_tree}
use Rattle.mp_pattern.specs.declared.pattern.Pattern as declared
use Rattle.mp_pattern.proofs.PlanNodes.{plan-names}
use Rattle.mp_pattern.proofs.SortedLaws.{all-sorted}
use Rattle.mp_table.specs.Table.{Table, IsTable, HasRank, HasRanks, rank_cmp, rank_of, term_at, terms_at}
use Rattle.mp_table.specs.declared.rank.Rank.{Rank}
use Rattle.mp_subst.specs.Trail.{Trail}
use Rattle.mp_subst.proofs.BoundLaws.{sorted-terms, ranks_same}
use Rattle.mp_subst.proofs.RankLists.{rank_cmp_total}
use Rattle.mp_theory.proofs.FirstsLaws.{from_in-firsts_after}
use Rattle.mp_search.specs.Grounds.{AreGrounds}
use Rattle.mp_search.specs.declared.stage.Stage.TheVariants.{Before, Standing}
use Rattle.mp_search.proofs.GroundsHeld.{grounds-held}
use Rattle.mp_ac.specs.Args.{args_of}
use Rattle.mp_ac.specs.Asked.{IsAsked, cost, root_list}
use Rattle.mp_ac.specs.Begin.{AreParts}
use Rattle.mp_ac.specs.Candidates.{IsNodeOf, given_terms}
use Rattle.mp_ac.specs.CommPlan.{IsCommPlanOf, IsNumbered, IsNumberedPattern, nodes_below, root_op}
use Rattle.mp_ac.specs.CommPlans.{AreLeads}
use Rattle.mp_ac.specs.CommRoom.{IsRoomFor}
use Rattle.mp_ac.specs.Numbered.{IsTrailOf, numbered_subst}
use Rattle.mp_ac.specs.Planned.{plan_of}
use Rattle.mp_ac.specs.Search.{IsOver, all_items, asked_of, cost_of, given_of, kept_table, leading_of}
use Rattle.mp_ac.specs.Seek.{ArePicksOf, IsCommutative, IsLeading, with_children}
use Rattle.mp_ac.specs.Stage.{IsAmong}
use Rattle.mp_ac.specs.TakesOne.{takes_one}
use Rattle.mp_ac.specs.declared.node.Node.{Node}
use Rattle.mp_ac.specs.declared.comm_plan.CommPlan.{CommPlan}
use Rattle.mp_ac.specs.declared.comm_plans.CommPlans.{CommPlans}
use Rattle.mp_ac.specs.declared.search.CommSearch.{CommSearch}
use Rattle.mp_ac.proofs.PreparedLaws.{leads-length}
use Rattle.mp_ac.proofs.SearchLaws.{distinct-numbers}
use Rattle.mp_ac.proofs.SyntacticLaws.{names-children}

-- ranks whose terms stand in order ascend
pub ranks-ascend : (t : Table) → IsTable t → (rs : List Rank) → HasRanks t rs
    → sorted tree_cmp (terms_at t rs) ≡ terms_at t rs → IsSorted rank_cmp rs
ranks-ascend t table rs there order =
    let same : sorted rank_cmp rs ≡ rs =
    ranks_same t table (sorted rank_cmp rs) rs (all-sorted (HasRank t) rank_cmp rs there) there
    (sym (sorted-terms t table rs there) ∙ order) in
    sorted-ascends rank_cmp rank_cmp_total rs
    (subst (Ascends rank_cmp) same (ascends-sorted rank_cmp rank_cmp_total rs))

-- what the children take together has no more nodes than the term
pub given-nodes : (t : Tree) (alone : Bool) → all_nodes (given_terms t alone) ≤ node_count t
given-nodes t true = omega arith
given-nodes (symbol n) false = omega arith
given-nodes (app g us) false =
    let e : all_nodes (tree_list us) ≡ node_counts us = ap node_counts (trees-tree_list us) in omega (arith, e)

-- what holds of the constants of children holds of those of the later ones
constants-behind : (P : Tree → Type 0) (ps qs : List Pattern)
    → AllByRecursion P (all_pattern_constants (patterns (ps ++ qs)))
    → AllByRecursion P (all_pattern_constants (patterns qs))
constants-behind P [] qs h = h
constants-behind P (p ∷ ps) qs h =
    constants-behind P ps qs (all-split P (pattern_constants p) (all_pattern_constants (patterns (ps ++ qs))) h).1

-- the children that take one term each, of a pattern whose variables are named by numbers
in-uses : (x : List ℕ) (p : Pattern) → In x (variables p) → In x (map (λ (u : Use). u.name) (uses None p))
in-uses x p i = elim (from_in-firsts_after same_name x [] (map (λ (u : Use). u.name) (uses None p)) i) [
  | inl j ↦ absurd j
  | inr j ↦ j
]

all-leading : (sig : Sig) (ps qs : List Pattern)
    → ((x : List ℕ) → In x (map (λ (u : Use). u.name) (all_uses None (patterns (ps ++ qs)))) → IsNumbered x)
    → AllByRecursion (λ q. takes_one sig q ≡ true) ps → AllByRecursion (IsLeading sig) ps
all-leading sig [] qs h each = tt
all-leading sig (p ∷ ps) qs h each =
    let own = map (λ (u : Use). u.name) (uses None p) in
    let rest = map (λ (u : Use). u.name) (all_uses None (patterns (ps ++ qs))) in
    let all-split : map (λ (u : Use). u.name) (all_uses None (patterns (p ∷ ps ++ qs))) ≡ own ++ rest =
    map-append (λ (u : Use). u.name) (uses None p) (all_uses None (patterns (ps ++ qs))) in (
      record {
        takes_one = each.0;
        names = λ x i. h x (subst (In x) (sym all-split) (in-left x own rest (in-uses x p i)));
      },
      all-leading sig ps qs (λ x i. h x (subst (In x) (sym all-split) (in-right x own rest i))) each.1,
    )

-- what the children take together
pub node-given : (t : Table) (n : Node) (r : Rank) (alone : Bool) → (n.node ≡ r) × (n.alone ≡ alone)
    → given_terms (term_at t n.node) n.alone ≡ given_terms (term_at t r) alone
node-given t n r alone is = ap (λ q. given_terms (term_at t q) n.alone) is.0 ∙ ap (given_terms (term_at t r)) is.1

pub node-terms : (t : Table) (n : Node) (r : Rank) (alone : Bool) → IsNodeOf t n → (n.node ≡ r) × (n.alone ≡ alone)
    → terms_at t (args_of n.args) ≡ given_terms (term_at t r) alone
node-terms t n r alone h is = h.terms ∙ node-given t n r alone is

module _ (sig : Sig) (x : CommPlans) (p : Pattern) (ns : List ℕ) (c : CommPlan) (parts : AreParts sig x p ns c) where
  -- the plan's pattern is that of the other children
  pub own-pattern : c.plan.pattern ≡ app_pattern parts.op (patterns parts.others)
  own-pattern = ap (λ (q : Plan). q.pattern) parts.plan.plan

  pub own-comm_plan : IsCommPlanOf sig c.plan.pattern c
  own-comm_plan = subst (λ q. IsCommPlanOf sig q c) (sym own-pattern) parts.plan

  count : length ns ≡ length parts.leading
  count = leads-length x ns parts.leading parts.leads

  module _ (cs : List declared.Pattern) (g : ℕ) (is : p ≡ app_pattern g (patterns (map pattern_tree cs))) where
    -- the children of the pattern
    trees : map pattern_tree cs ≡ parts.leading ++ parts.others
    trees =
        let same : app_pattern g (patterns (map pattern_tree cs))
        ≡ app_pattern parts.op (patterns (parts.leading ++ parts.others)) = sym is ∙ parts.is in
        let alike : patterns (map pattern_tree cs) ≡ patterns (parts.leading ++ parts.others) = cc in
        sym (pattern_list-patterns (map pattern_tree cs)) ∙ ap pattern_list alike
        ∙ pattern_list-patterns (parts.leading ++ parts.others)

    -- the first ones
    pub front-within : length ns ≤ length cs
    front-within = omega (
      arith,
      count,
      sym (length-map cs pattern_tree),
      ap length trees,
      length-append parts.leading parts.others,
    )

    pub front-leading : map pattern_tree (take (length ns) cs) ≡ parts.leading
    front-leading = sym (take-map pattern_tree (length ns) cs)
        ∙ ap (take (length ns)) trees
        ∙ ap (λ k. take k (parts.leading ++ parts.others)) count
        ∙ take-append_seam parts.leading parts.others

    -- and with the first ones it is the whole pattern
    pub whole : with_children (map pattern_tree (take (length ns) cs)) c.plan.pattern ≡ p
    whole = ap (λ ps. with_children ps c.plan.pattern) front-leading
        ∙ ap (with_children parts.leading) own-pattern
        ∙ ap (λ qs. app_pattern parts.op (patterns (parts.leading ++ qs))) (pattern_list-patterns parts.others)
        ∙ sym parts.is

    pub whole-list : (ts us : List Tree) (owes : Bool) (s : Subst) → ts ≡ us
        → root_list sig (with_children (map pattern_tree (take (length ns) cs)) c.plan.pattern) ts owes s
        ≡ root_list sig p us owes s
    whole-list ts us owes s e = ap (λ q. root_list sig q ts owes s) whole ∙ ap (λ vs. root_list sig p vs owes s) e

    pub whole-cost : (ts us : List Tree) → ts ≡ us
        → cost (with_children (map pattern_tree (take (length ns) cs)) c.plan.pattern) ts ≡ cost p us
    whole-cost ts us e = ap (λ q. cost q ts) whole ∙ ap (cost p) e

module _ (c : CommSearch) (x : CommPlans) (p : Pattern) (ns : List ℕ) (alone : Bool) (node : Tree)
    (parts : AreParts c.sig.now x p ns (plan_of c.plan)) (cs : List declared.Pattern) (g : ℕ)
    (is : p ≡ app_pattern g (patterns (map pattern_tree cs))) (first : c.children.now ≡ take (length ns) cs)
    (terms : terms_at c.table.now (given_of c) ≡ given_terms node alone) (stage : c.stage ≡ Before) where
  abbrev own : Pattern
  own = (plan_of c.plan).plan.pattern

  abbrev ts : List Tree
  ts = given_terms node alone

  front : leading_of c ≡ parts.leading
  front = ap (map pattern_tree) first ∙ front-leading c.sig.now x p ns (plan_of c.plan) parts cs g is

  own-is : own ≡ app_pattern parts.op (patterns parts.others)
  own-is = own-pattern c.sig.now x p ns (plan_of c.plan) parts

  plan-is : IsCommPlanOf c.sig.now own (plan_of c.plan)
  plan-is = own-comm_plan c.sig.now x p ns (plan_of c.plan) parts

  same-root : root_op p ≡ root_op own
  same-root = ap root_op parts.is ∙ sym (ap root_op own-is)

  plan-vars : length (plan_of c.plan).vars.items ≡ length (plan_of c.plan).plan.variables
  plan-vars =
      sym (length-map (plan_of c.plan).vars.items numbered)
      ∙ ap length plan-is.names
      ∙ sym (ap length (plan-names c.sig.now own (plan_of c.plan).plan plan-is.plan))
      ∙ length-map (plan_of c.plan).plan.variables (λ (v : Variable). v.name)

  held : AllByRecursion (λ u. IsSome (rank_of c.table.now u)) (pattern_constants p)
      → AllByRecursion (λ u. IsSome (rank_of c.table.now u)) (pattern_constants own)
  held h = subst (λ q. AllByRecursion (λ u. IsSome (rank_of c.table.now u)) (pattern_constants q)) (sym own-is)
      (constants-behind (λ u. IsSome (rank_of c.table.now u)) parts.leading parts.others
      (subst (λ q. AllByRecursion (λ u. IsSome (rank_of c.table.now u)) (pattern_constants q)) parts.is h))

  begun-asked : IsTable c.table.now → AllByRecursion (IsNormal c.sig.now) c.table.now.terms
      → AllByRecursion (λ u. IsSome (rank_of c.table.now u)) (pattern_constants p) → IsAsked (asked_of c)
  begun-asked table normal constants = record {
    application = plan-is.application;
    plan = plan-is.plan;
    table = table;
    normal = normal;
    holds = grounds-held c.table.now own (held constants);
    vars = plan-vars;
    distinct = λ i j v a b. distinct-numbers own (plan_of c.plan).vars.items plan-is.names i j v a b;
  }

  begun-leading : IsNumberedPattern p → AllByRecursion (IsLeading c.sig.now) (leading_of c)
  begun-leading h = subst (AllByRecursion (IsLeading c.sig.now)) (sym front)
      (all-leading c.sig.now parts.leading parts.others
      (names-children parts.op (patterns (parts.leading ++ parts.others))
      (subst (λ q. (y : List ℕ) → In y (variables q) → IsNumbered y) parts.is h.names)) parts.each)

  begun-cost : cost_of c ≡ cost p ts
  begun-cost = ap (λ (ds : List declared.Pattern). cost (with_children (map pattern_tree ds) own)
      (terms_at c.table.now (given_of c))) first
      ∙ whole-cost c.sig.now x p ns (plan_of c.plan) parts cs g is (terms_at c.table.now (given_of c)) ts terms

  -- it goes by the trail
  pub begun : (u : Trail) → IsNumberedPattern p → IsCommutative c.sig.now p → IsTable c.table.now
      → AllByRecursion (IsNormal c.sig.now) c.table.now.terms
      → AllByRecursion (λ u. IsSome (rank_of c.table.now u)) (pattern_constants p)
      → HasRanks c.table.now (given_of c) → arranged c.sig.now (root_op p) ts ≡ ts
      → IsRoomFor c.table.now 0 (nodes_below own)
      (all_nodes (terms_at c.table.now (given_of c))) c.room
      → AreGrounds c.table.now (subpatterns own) c.room.grounds.list.items.items
      → HasRanks c.table.now c.room.choices.items
      → ((ps : List Pattern) → AreLeads x ns ps
      → ArePicksOf c.table.now (terms_at c.table.now (given_of c)) c.room.width c.room.choices.items ps
      c.room.picks.items)
      → IsTrailOf c.table.now u → cost p ts ≤ u.spare → IsOver c u
  begun u pattern comm table normal constants ranks order room grounds choices picks trail spare = record {
    asked = begun-asked table normal constants;
    commutative = subst (λ o. comm_above c.sig.now o ≡ true) same-root comm;
    numbered = record { names = plan-is.names; few = plan-is.few };
    leading = begun-leading pattern;
    given = record {
      ranks = ranks;
      arranged = subst (λ o. arranged c.sig.now o (terms_at c.table.now (given_of c))
          ≡ terms_at c.table.now (given_of c)) same-root
          (subst (λ us. arranged c.sig.now (root_op p) us ≡ us) (sym terms) order);
    };
    room = room;
    grounds = grounds;
    choices = choices;
    picks = subst (λ ps. ArePicksOf c.table.now (terms_at c.table.now (given_of c)) c.room.width c.room.choices.items ps
        c.room.picks.items) (sym front) (picks parts.leading parts.leads);
    picked = λ e. absurd (let k : Before ≡ Standing = sym stage ∙ e in cc);
    trail = trail;
    spare = subst (λ n. n ≤ u.spare) (sym begun-cost) spare;
    among = subst (λ g. IsAmong g (kept_table c) (all_items c (numbered_subst c.table.now u.stack))) (sym stage) tt;
  }
