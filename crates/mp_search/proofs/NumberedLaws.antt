-- The number that a plan gives the variable of a node.
use Rattle.std.proofs.Common.{◌≡◌, ℕ, ◌+◌, ◌<◌, List, map, length, refl, ap, sym, ◌∙◌, subst}
use Rattle.std.proofs.Common.{slice_index_or}
use Rattle.std.specs.Prelude.{Option, Some, None, slice_get, option_map, option_and_then, position}
use Rattle.std.proofs.lemmas.Option.{slice_get_within, slice_get-get_or}
use Rattle.std.proofs.lemmas.List.{length-map}
use Rattle.mp_pattern.specs.PatternTree.{Wildcard, Pattern, symbol_pattern, app_pattern, wild_pattern}
use Rattle.mp_pattern.specs.Size.{pattern_nodes}
use Rattle.mp_pattern.specs.Subpatterns.{subpatterns}
use Rattle.mp_pattern.specs.Value.{same_name}
use Rattle.mp_pattern.specs.Variables.{variables}
use Rattle.mp_pattern.specs.Plan.{Node, Variable, Plan, label_variable}
use Rattle.mp_search.specs.declared.query.Query.{Query}
use Rattle.mp_search.specs.Numbers.{IsNumberOf, IsNumberAt}
use Rattle.mp_search.specs.Query.{IsQuery}
use Rattle.mp_pattern.proofs.NodeLaws.{label_of, plan_node, plan-length}
use Rattle.mp_pattern.proofs.PlanNodes.{plan-names}
use Rattle.mp_search.proofs.NumberLaws.{in-slice_get, variable-place, distinct-variables, numbered}

module _ (q : Query) (h : IsQuery q) where
  -- the pattern of the plan
  abbrev root : Pattern
  root = q.plan.now.pattern

  pub names : map (λ (v : Variable). v.name) q.plan.now.variables ≡ variables root
  names = plan-names q.sig.now root q.plan.now h.plan

  -- the variable that a node has is that of its subpattern
  node-variable : (i : ℕ) (p : Pattern) → slice_get (subpatterns root) i ≡ Some p
      → option_and_then (λ n. label_variable n.label) (slice_get q.plan.now.nodes i)
      ≡ label_variable (label_of (variables root) p)
  node-variable i p e =
      let m = plan_node (variables root) None root i p e in
      ap (λ (P : Plan). option_and_then (λ (n : Node). label_variable n.label) (slice_get P.nodes i)) h.plan
      ∙ ap (option_and_then (λ (n : Node). label_variable n.label)) m.1
      ∙ ap label_variable m.2.label

  -- the number of a variable is listed at its place
  at_place : (i n : ℕ) (w : Wildcard) (x : List ℕ) → slice_get (subpatterns root) i ≡ Some (wild_pattern w (Some x))
      → position (same_name x) (variables root) ≡ Some n
      → (n < length q.vars.now) × IsNumberOf q x (slice_index_or q.vars.now n 0)
  at_place i n w x e f =
      let k = variable-place root i w x e in
      let same : k.0 ≡ n = let j : Some k.0 ≡ Some n = sym k.1 ∙ f in cc in
      let there : slice_get (variables root) n ≡ Some x = subst (λ m. slice_get (variables root) m ≡ Some x) same k.2 in
      let long : length (variables root) ≡ length q.vars.now =
      ap length (sym names) ∙ length-map q.plan.now.variables (λ (v : Variable). v.name) ∙ sym h.vars in
      let within : n < length q.vars.now =
      subst (λ m. n < m) long (slice_get_within (variables root) n x there) in
      let stands = slice_get-get_or q.vars.now n 0 within in
      let told = numbered q.vars.now q.plan.now.variables (variables root) n (slice_index_or q.vars.now n 0) x
      names
      (distinct-variables root) h.distinct stands there in (
        within,
        record { listed = in-slice_get q.vars.now n _ stands; name = told.0; only = told.1 },
      )

  pub number-found : (i n : ℕ) (p : Pattern) (o : Option ℕ) → slice_get (subpatterns root) i ≡ Some p
      → o ≡ option_and_then (λ n. label_variable n.label) (slice_get q.plan.now.nodes i) → o ≡ Some n
      → (n < length q.vars.now) × IsNumberAt q p (Some (slice_index_or q.vars.now n 0))
  number-found i n p o e s t = by_pattern p e (sym (s ∙ node-variable i p e) ∙ t)
    where
      by_pattern : (p : Pattern) → slice_get (subpatterns root) i ≡ Some p
          → label_variable (label_of (variables root) p) ≡ Some n
          → (n < length q.vars.now) × IsNumberAt q p (Some (slice_index_or q.vars.now n 0))
      by_pattern (symbol_pattern m) e l = cc
      by_pattern (app_pattern g ps) e l = cc
      by_pattern (wild_pattern v None) e l = cc
      by_pattern (wild_pattern v (Some x)) e l = at_place i n v x e l

  pub number-none : (i : ℕ) (p : Pattern) (o : Option ℕ) → slice_get (subpatterns root) i ≡ Some p
      → o ≡ option_and_then (λ n. label_variable n.label) (slice_get q.plan.now.nodes i) → o ≡ None
      → IsNumberAt q p None
  number-none i p o e s t = by_pattern p e (sym (s ∙ node-variable i p e) ∙ t)
    where
      by_pattern : (p : Pattern) → slice_get (subpatterns root) i ≡ Some p
          → label_variable (label_of (variables root) p) ≡ None → IsNumberAt q p None
      by_pattern (symbol_pattern m) e l = refl
      by_pattern (app_pattern g ps) e l = refl
      by_pattern (wild_pattern v None) e l = refl
      by_pattern (wild_pattern v (Some x)) e l =
          let k = variable-place root i v x e in
          let wrong : Some k.0 ≡ None = sym k.1 ∙ l in cc

  -- the number of the node behind the subpattern at a node
  pub node-behind : (i : ℕ) (p : Pattern) (o : Option ℕ) → slice_get (subpatterns root) i ≡ Some p
      → o ≡ option_map (λ (n : Node). n.end) (slice_get q.plan.now.nodes i) → o ≡ Some (i + pattern_nodes p)
  node-behind i p o e s =
      let m = plan_node (variables root) None root i p e in
      s ∙ ap (λ (P : Plan). option_map (λ (n : Node). n.end) (slice_get P.nodes i)) h.plan
      ∙ ap (option_map (λ (n : Node). n.end)) m.1 ∙ ap Some m.2.end

  -- the plan has a node for each subpattern
  pub count-nodes : length (subpatterns root) ≡ length q.plan.now.nodes
  count-nodes =
      plan-length (variables root) root ∙ sym (ap (λ (P : Plan). length P.nodes) h.plan)
