-- The nodes of a plan are those of its pattern's subpatterns.
use Rattle.std.proofs.Common.{◌≡◌, ℕ, zero, suc, ◌+◌, List, [], ◌∷◌, ◌++◌, length, refl, sym, arith, ap}
use Rattle.std.proofs.Common.{subst}
use Rattle.std.specs.Prelude.{⊤, Option, Some, slice_get, None}
use Rattle.mp_pattern.specs.PatternTree.{Pattern, symbol_pattern, app_pattern, wild_pattern, Patterns, no_patterns}
use Rattle.mp_pattern.specs.PatternTree.{more_patterns}
use Rattle.mp_pattern.specs.Plan.{Label, symbol_label, app_label, wild_label, Node, variable_number, nodes, all_nodes}
use Rattle.mp_pattern.specs.Size.{pattern_nodes}
use Rattle.mp_pattern.specs.Subpatterns.{subpatterns, all_subpatterns}
use Rattle.mp_pattern.proofs.PlanLaws.{length-subpatterns}

module _ (xs : List (List ℕ)) where
  -- the label of a subpattern
  abbrev pub label_of : Pattern → Label
  label_of (symbol_pattern n) = symbol_label n
  label_of (app_pattern f ps) = app_label f
  label_of (wild_pattern w x) = wild_label w (variable_number xs x)

  -- a node has the label of its subpattern, and its end is behind that
  pub record IsNodeOf (k : ℕ) (p : Pattern) (m : Node) : Type 0 where
    pub label : m.label ≡ label_of p
    pub end : m.end ≡ k + pattern_nodes p

  -- so it is with each, the first of which has the number k
  abbrev pub AreNodesOf : ℕ → List Pattern → List Node → Type 0
  AreNodesOf k [] [] = ⊤
  AreNodesOf k (p ∷ ps) (m ∷ ms) = IsNodeOf k p m × AreNodesOf (suc k) ps ms
  AreNodesOf k _ _ = ⊥

  are_nodes-append : (k : ℕ) (ps qs : List Pattern) (ms ns : List Node) → AreNodesOf k ps ms
      → AreNodesOf (k + length ps) qs ns → AreNodesOf k (ps ++ qs) (ms ++ ns)
  are_nodes-append k [] qs [] ns h i = let e : k + 0 ≡ k = omega arith in subst (λ n. AreNodesOf n qs ns) e i
  are_nodes-append k [] qs (m ∷ ms) ns h i = absurd h
  are_nodes-append k (p ∷ ps) qs [] ns h i = absurd h
  are_nodes-append k (p ∷ ps) qs (m ∷ ms) ns h i =
      let e : k + suc (length ps) ≡ suc k + length ps = omega arith in
      (h.0, are_nodes-append (suc k) ps qs ms ns h.1 (subst (λ n. AreNodesOf n qs ns) e i))

  mutual
    are_nodes : (a : Option ℕ) (k : ℕ) (p : Pattern) → AreNodesOf k (subpatterns p) (nodes xs a k p)
    are_nodes a k (symbol_pattern n) = (record { label = refl; end = refl }, tt)
    are_nodes a k (app_pattern f ps) =
        let e : k + 1 ≡ suc k = omega arith in (
          record { label = refl; end = refl },
          subst (λ n. AreNodesOf n (all_subpatterns ps) (all_nodes xs k (k + 1) ps)) e (all_are_nodes k (k + 1) ps),
        )
    are_nodes a k (wild_pattern w x) = (record { label = refl; end = refl }, tt)

    all_are_nodes : (m k : ℕ) (ps : Patterns) → AreNodesOf k (all_subpatterns ps) (all_nodes xs m k ps)
    all_are_nodes m k no_patterns = tt
    all_are_nodes m k (more_patterns p ps) =
        are_nodes-append k (subpatterns p) (all_subpatterns ps) (nodes xs (Some m) k p)
        (all_nodes xs m (k + pattern_nodes p) ps) (are_nodes (Some m) k p)
        (subst (λ n. AreNodesOf (k + n) (all_subpatterns ps) (all_nodes xs m (k + pattern_nodes p) ps))
        (sym (length-subpatterns p)) (all_are_nodes m (k + pattern_nodes p) ps))

  node_at : (k : ℕ) (ps : List Pattern) (ms : List Node) (i : ℕ) (p : Pattern) → AreNodesOf k ps ms
      → slice_get ps i ≡ Some p → (m : Node) × (slice_get ms i ≡ Some m) × IsNodeOf (k + i) p m
  node_at k [] ms i p h e = cc
  node_at k (q ∷ ps) [] i p h e = absurd h
  node_at k (q ∷ ps) (m ∷ ms) zero p h e =
      let is : q ≡ p = cc in
      let same : k ≡ k + 0 = omega arith in
      (m, refl, subst (λ n. IsNodeOf n p m) same (subst (λ r. IsNodeOf k r m) is h.0))
  node_at k (q ∷ ps) (m ∷ ms) (suc i) p h e =
      let n = node_at (suc k) ps ms i p h.1 e in
      let same : suc k + i ≡ k + suc i = omega arith in
      (n.0, n.1, subst (λ j. IsNodeOf j p n.0) same n.2)

  -- the node of the subpattern at a place
  pub plan_node : (a : Option ℕ) (r : Pattern) (i : ℕ) (p : Pattern) → slice_get (subpatterns r) i ≡ Some p
      → (m : Node) × (slice_get (nodes xs a 0 r) i ≡ Some m) × IsNodeOf i p m
  plan_node a r i p e =
      let n = node_at 0 (subpatterns r) (nodes xs a 0 r) i p (are_nodes a 0 r) e in
      let same : 0 + i ≡ i = omega arith in
      (n.0, n.1, subst (λ j. IsNodeOf j p n.0) same n.2)

  nodes-length : (k : ℕ) (ps : List Pattern) (ms : List Node) → AreNodesOf k ps ms → length ps ≡ length ms
  nodes-length k [] [] h = refl
  nodes-length k [] (m ∷ ms) h = absurd h
  nodes-length k (p ∷ ps) [] h = absurd h
  nodes-length k (p ∷ ps) (m ∷ ms) h = ap suc (nodes-length (suc k) ps ms h.1)

  -- there are as many nodes as subpatterns
  pub plan-length : (r : Pattern) → length (subpatterns r) ≡ length (nodes xs None 0 r)
  plan-length r = nodes-length 0 (subpatterns r) (nodes xs None 0 r) (are_nodes None 0 r)
