-- What a run reads: each node once at most, and the nodes of each pattern that the tree has the shape of.
use Rattle.std.proofs.Common.{◌≡◌, ℕ, ◌+◌, ◌≤◌, List, [], ◌∷◌, ◌++◌, Bool, true, false, ◌||◌, refl}
use Rattle.std.proofs.Common.{ap, sym, ◌∙◌, inl, inr, subst, length, append_assoc, length-append}
use Rattle.std.proofs.Common.{arith}
use Rattle.std.specs.Prelude.{Option, Some, None, nat_eq, option_map}
use Rattle.std.specs.List.{list_any, cons_option}
use Rattle.std.proofs.lemmas.Bool.{and_parts, and_from}
use Rattle.std.proofs.Math.Seq.{drop-append_seam}
use Rattle.mp_term.specs.Tree.{Tree, symbol, app, Trees, no_trees, more_trees, tree_list}
use Rattle.mp_term.specs.Size.{node_count, node_counts}
use Rattle.mp_pattern.specs.PatternTree.{Wildcard, Pattern, symbol_pattern, app_pattern, wild_pattern, Patterns}
use Rattle.mp_pattern.specs.PatternTree.{no_patterns, more_patterns, pattern_list}
use Rattle.mp_term.specs.Listing.{In}
use Rattle.mp_theory.specs.Shape.{shape, shapes}
use Rattle.mp_net.specs.Net.{Mark, entered, same_mark, marks, all_marks, Open, below, asks}
use Rattle.mp_net.specs.Net.{going, Turn, held_or, rules_at, turn_at, Leads, IsNet, edge_at, run}
use Rattle.mp_net.specs.Net.{Visit, visited, trace, traces}
use Rattle.mp_net.specs.Eaten.{eaten}
use Rattle.mp_net.specs.Walk.{IsRead, AreRead}
use Rattle.mp_net.proofs.NetLaws.{leads-at, run-rules, marks-eaten, shapes-length, nat_eq-itself}

-- a run reads each node of the tree once at most
module _ (turns : List Turn) where
  mutual
    pub trace-bound : (t : Tree) (q : Option ℕ) → length (trace turns t q) ≤ node_count t
    trace-bound (symbol n) q = omega arith
    trace-bound (app f ts) q = at_edge (all_trace-bound ts) (edge_at turns (entered f (length (tree_list ts))) q)
      where
        at_edge : ((k : Option ℕ) → length (traces turns ts k) ≤ node_counts ts) → (e : Option ℕ)
            → length (visited (app f ts) e (λ k. traces turns ts k)) ≤ node_counts ts + 1
        at_edge i None = omega arith
        at_edge i (Some k) = omega (arith, i (Some k))

    pub all_trace-bound : (ts : Trees) (q : Option ℕ) → length (traces turns ts q) ≤ node_counts ts
    all_trace-bound no_trees q = omega arith
    all_trace-bound (more_trees t ts) q =
        omega (
          arith,
          length-append (trace turns t q) (traces turns ts (run turns t q)),
          trace-bound t q,
          all_trace-bound ts (run turns t q),
        )

-- a rule that goes on is among those that do
in-going : (f : List Mark → Option (List Mark)) (r : ℕ) (m k : List Mark) (os : List Open)
    → In (record { rule = r; rest = m }) os → f m ≡ Some k → In (record { rule = r; rest = k }) (going f os)
in-going f r m k [] i e = absurd i
in-going f r m k (o ∷ os) (inl i) e =
    subst (λ u. In (record { rule = r; rest = k })
    (cons_option (option_map (λ n. record { rule = u.rule; rest = n }) (f u.rest)) (going f os))) i
    (subst (λ u. In (record { rule = r; rest = k }) (cons_option (option_map (λ n. record { rule = r; rest = n }) u)
    (going f os))) (sym e) (inl refl))
in-going f r m k (o ∷ os) (inr i) e = behind_first (f o.rest) (in-going f r m k os i e)
  where
    behind_first : (u : Option (List Mark)) → In (record { rule = r; rest = k }) (going f os)
        → In (record { rule = r; rest = k }) (cons_option (option_map (λ n. record { rule = o.rule; rest = n }) u)
        (going f os))
    behind_first None j = j
    behind_first (Some n) j = inr j

-- where a rule asks for a head, some rule does
in-asks : (h : Mark) (r : ℕ) (m : List Mark) (os : List Open) → In (record { rule = r; rest = m }) os
    → asks h m ≡ true → list_any (λ o. asks h o.rest) os ≡ true
in-asks h r m [] i e = absurd i
in-asks h r m (o ∷ os) (inl i) e = let q : asks h o.rest ≡ true = subst (λ u. asks h u.rest ≡ true) i e in rw q refl
in-asks h r m (o ∷ os) (inr i) e = later (asks h o.rest) (in-asks h r m os i e)
  where
    later : (b : Bool) → list_any (λ o. asks h o.rest) os ≡ true → (b || list_any (λ o. asks h o.rest) os) ≡ true
    later true q = refl
    later false q = q

-- of a node, nothing is asked: it is passed with all that was read below it
read-anything : (turns : List Turn) (w : Wildcard) (x : Option (List ℕ)) (t : Tree) (q : Option ℕ) (vs : List Visit)
    → IsRead (wild_pattern w x) t (trace turns t q ++ vs) vs
read-anything turns w x (symbol n) q vs = (refl, (omega arith, refl))
read-anything turns w x (app f ts) q vs = at_edge (edge_at turns (entered f (length (tree_list ts))) q)
  where
    at_edge : (e : Option ℕ) → IsRead (wild_pattern w x) (app f ts) (visited (app f ts) e
        (λ k. traces turns ts k) ++ vs) vs
    at_edge None = (refl, (omega arith, refl))
    at_edge (Some k) = (
      refl,
      (
        omega (arith, length-append (traces turns ts (Some k)) vs),
        sym
            (drop-append_seam (traces turns ts (Some k)) vs),
      ),
    )

module _ (rules : List (List Open)) (turns : List Turn) (net : IsNet rules turns) where
  mutual
    -- what is read of a tree from a state begins with the nodes of each pattern there that the tree has the shape of
    pub trace-read : (p : Pattern) (t : Tree) (q : Option ℕ) (r : ℕ) (m : List Mark) (vs : List Visit)
        → In (record { rule = r; rest = marks p ++ m }) (rules_at rules q) → shape p t ≡ true
        → IsRead p t (trace turns t q ++ vs) vs
    trace-read (symbol_pattern k) (symbol n) q r m vs i h = refl
    trace-read (symbol_pattern k) (app f ts) q r m vs i h = cc
    trace-read (wild_pattern w x) t q r m vs i h = read-anything turns w x t q vs
    trace-read (app_pattern g ps) (symbol n) q r m vs i h = cc
    trace-read (app_pattern g ps) (app f ts) q r m vs i h =
        at_edge (λ k j. traces-read ps ts (Some k) r m vs j (and_parts (nat_eq g f) (shapes ps ts) h).1)
        (leads-at rules turns net q) (edge_at turns (entered f (length (tree_list ts))) q) refl
      where
        is_head : same_mark (entered g (length (pattern_list ps))) (entered f (length (tree_list ts))) ≡ true
        is_head = let c = and_parts (nat_eq g f) (shapes ps ts) h in
            and_from (nat_eq g f) _ c.0 (nat_eq-itself _ _ (shapes-length ps ts c.1))

        at_edge : ((k : ℕ) → In (record { rule = r; rest = all_marks ps ++ m }) (rules_at rules (Some k))
            → AreRead ps ts (traces turns ts (Some k) ++ vs) vs)
            → Leads rules (rules_at rules q) (turn_at turns q) → (e : Option ℕ)
            → edge_at turns (entered f (length (tree_list ts))) q ≡ e
            → IsRead (app_pattern g ps) (app f ts) (visited (app f ts) e (λ k. traces turns ts k) ++ vs) vs
        at_edge go l None e =
            let c : true ≡ false =
            sym (in-asks (entered f (length (tree_list ts))) r
            (entered g (length (pattern_list ps)) ∷ (all_marks ps ++ m)) (rules_at rules q) i is_head)
            ∙ l.asked (entered f (length (tree_list ts))) e in cc
        at_edge go l (Some k) e =
            let j = in-going (below (entered f (length (tree_list ts)))) r
            (entered g (length (pattern_list ps)) ∷ (all_marks ps ++ m)) (all_marks ps ++ m) (rules_at rules q) i
            (rw is_head refl) in
            go k (subst (In (record { rule = r; rest = all_marks ps ++ m }))
            (sym (ap (held_or []) (l.down (entered f (length (tree_list ts))) k e))) j)

    traces-read : (ps : Patterns) (ts : Trees) (q : Option ℕ) (r : ℕ) (m : List Mark) (vs : List Visit)
        → In (record { rule = r; rest = all_marks ps ++ m }) (rules_at rules q) → shapes ps ts ≡ true
        → AreRead ps ts (traces turns ts q ++ vs) vs
    traces-read no_patterns no_trees q r m vs i h = refl
    traces-read no_patterns (more_trees t ts) q r m vs i h = cc
    traces-read (more_patterns p ps) no_trees q r m vs i h = cc
    traces-read (more_patterns p ps) (more_trees t ts) q r m vs i h =
        let c = and_parts (shape p t) (shapes ps ts) h in
        let j = subst (λ k. In (record { rule = r; rest = k }) (rules_at rules q))
        (append_assoc (marks p) (all_marks ps) m) i in
        let gone : eaten t (marks p ++ (all_marks ps ++ m)) ≡ Some (all_marks ps ++ m) =
        marks-eaten p t (all_marks ps ++ m) ∙ rw c.0 refl in
        let next = subst (In (record { rule = r; rest = all_marks ps ++ m })) (sym (run-rules rules turns net t q))
        (in-going (eaten t) r (marks p ++ (all_marks ps ++ m)) (all_marks ps ++ m) (rules_at rules q) j gone) in (
          traces turns ts (run turns t q) ++ vs,
          subst (λ us. IsRead p t us (traces turns ts (run turns t q) ++ vs))
              (sym (append_assoc (trace turns t q) (traces turns ts (run turns t q)) vs))
              (trace-read p t q r (all_marks ps ++ m) (traces turns ts (run turns t q) ++ vs) j c.0),
          traces-read ps ts (run turns t q) r m vs next c.1,
        )
