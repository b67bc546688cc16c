-- Where the parts of a list of patterns stand among the nodes of a plan.
use Rattle.std.proofs.Common.{◌≡◌, ℕ, zero, suc, ◌+◌, List, [], ◌∷◌, ◌++◌, take, drop, length, map, refl, ap, sym, ◌∙◌}
use Rattle.std.proofs.Common.{subst, arith, ◌<◌, ◌≤◌, ◌-◌, slice_index_or}
use Rattle.std.specs.Prelude.{Option, Some, None, slice_get, option_map}
use Rattle.std.proofs.lemmas.Option.{slice_get_within}
use Rattle.mp_pattern.specs.declared.pattern.Pattern as declared
use Rattle.mp_pattern.specs.PatternTree.{Pattern, app_pattern, Patterns, no_patterns, more_patterns, patterns}
use Rattle.mp_pattern.specs.Plan.{Node, Plan}
use Rattle.mp_pattern.specs.Subpatterns.{subpatterns, all_subpatterns}
use Rattle.mp_pattern.specs.Variables.{variables}
use Rattle.mp_pattern.specs.View.{pattern_tree}
use Rattle.mp_pattern.proofs.PlanLaws.{length-subpatterns}
use Rattle.mp_search.specs.declared.query.Query.{Query}
use Rattle.mp_search.specs.declared.site.Site.{Site}
use Rattle.mp_search.specs.Parts.{StandsAt}
use Rattle.mp_search.specs.Query.{IsQuery}
use Rattle.mp_search.specs.Site.{IsSite}
use Rattle.mp_pattern.proofs.NodeLaws.{plan_node}
use Rattle.mp_search.proofs.SiteLaws.{front_at, rest_of, subpatterns-first}
use Rattle.mp_subst.proofs.TrailLaws.{take-whole}

-- the first and the last part of a front
front-left : {X : Type 0} (xs ys zs : List X) → xs ++ ys ≡ take (length (xs ++ ys)) zs → xs ≡ take (length xs) zs
front-left [] ys zs e = refl
front-left (x ∷ xs) ys [] e = cc
front-left (x ∷ xs) ys (z ∷ zs) e =
    let i : x ≡ z = cc in
    let j : xs ++ ys ≡ take (length (xs ++ ys)) zs = cc in
    ap (λ y. y ∷ xs) i ∙ ap (λ us. z ∷ us) (front-left xs ys zs j)

pub front-right : {X : Type 0} (xs ys zs : List X) → xs ++ ys ≡ take (length (xs ++ ys)) zs
    → ys ≡ take (length ys) (drop (length xs) zs)
front-right [] ys zs e = e
front-right (x ∷ xs) ys [] e = cc
front-right (x ∷ xs) ys (z ∷ zs) e =
    let j : xs ++ ys ≡ take (length (xs ++ ys)) zs = cc in front-right xs ys zs j

pub drop-further : {X : Type 0} (n k : ℕ) (zs : List X) → drop n (drop k zs) ≡ drop (k + n) zs
drop-further n zero zs = let e : n ≡ 0 + n = omega arith in ap (λ m. drop m zs) e
drop-further zero (suc k) [] = let e : suc k ≡ suc k + 0 = omega arith in ap (λ m. drop m []) e
drop-further (suc n) (suc k) [] = let e : suc k + suc n ≡ suc (k + suc n) = omega arith in rw e refl
drop-further n (suc k) (z ∷ zs) =
    let e : suc (k + n) ≡ suc k + n = omega arith in
    drop-further n k zs ∙ ap (λ m. drop m (z ∷ zs)) e

module _ (q : Query) where
  pub stands-left : (k : ℕ) (xs ys : List Pattern) → StandsAt q k (xs ++ ys) → StandsAt q k xs
  stands-left k xs ys h = front-left xs ys (drop k (subpatterns q.plan.now.pattern)) h

  pub stands-right : (k : ℕ) (xs ys : List Pattern) → StandsAt q k (xs ++ ys) → StandsAt q (k + length xs) ys
  stands-right k xs ys h =
      front-right xs ys (drop k (subpatterns q.plan.now.pattern)) h
      ∙ ap (take (length ys)) (drop-further (length xs) k (subpatterns q.plan.now.pattern))

  -- a pattern stands at its first node
  pub stands-first : (k : ℕ) (p : Pattern) → StandsAt q k (subpatterns p)
      → slice_get (subpatterns q.plan.now.pattern) k ≡ Some p
  stands-first k p h = front_at p (rest_of p) (subpatterns q.plan.now.pattern) (length (subpatterns p)) k
      (sym (subpatterns-first p) ∙ h)

  -- the children of an application stand behind it
  pub stands-children : (k g : ℕ) (ps : Patterns) → StandsAt q k (subpatterns (app_pattern g ps))
      → StandsAt q (k + 1) (all_subpatterns ps)
  stands-children k g ps h = stands-right k (app_pattern g ps ∷ []) (all_subpatterns ps) h

  -- so do the child of a site and its later siblings
  pub site-child : (x : Site) → IsSite q x → StandsAt q x.node (subpatterns (pattern_tree x.child.now))
  site-child x h = stands-left x.node (subpatterns (pattern_tree x.child.now))
      (all_subpatterns (patterns (map pattern_tree x.later.now))) h.children

  pub site-later : (x : Site) → IsSite q x
      → StandsAt q (x.node + length (subpatterns (pattern_tree x.child.now)))
      (all_subpatterns (patterns (map pattern_tree x.later.now)))
  site-later x h = stands-right x.node (subpatterns (pattern_tree x.child.now))
      (all_subpatterns (patterns (map pattern_tree x.later.now))) h.children

  -- the end of a node is behind its subpattern
  pub end-of : IsQuery q → (k : ℕ) (p : Pattern) (o : Option ℕ) → StandsAt q k (subpatterns p)
      → o ≡ option_map (λ n. n.end) (slice_get q.plan.now.nodes k) → o ≡ Some (k + length (subpatterns p))
  end-of h k p o s e =
      let root = q.plan.now.pattern in
      let m = plan_node (variables root) None root k p (stands-first k p s) in
      e ∙ ap (λ (P : Plan). option_map (λ (n : Node). n.end) (slice_get P.nodes k)) h.plan
      ∙ ap (option_map (λ (n : Node). n.end)) m.1
      ∙ ap Some (m.2.end ∙ ap (λ n. k + n) (sym (length-subpatterns p)))

  -- a pattern's first node is one of the plan's
  pub node-within : IsQuery q → (k : ℕ) (p : Pattern) → StandsAt q k (subpatterns p) → k < length q.plan.now.nodes
  node-within h k p s =
      let root = q.plan.now.pattern in
      let m = plan_node (variables root) None root k p (stands-first k p s) in
      slice_get_within q.plan.now.nodes k m.0 (ap (λ (P : Plan). slice_get P.nodes k) h.plan ∙ m.1)

  -- the children of an application, by the pattern that is one
  pub stands-below : (k m g : ℕ) (ps : Patterns) (p : Pattern) → p ≡ app_pattern g ps → m ≡ k + 1
      → StandsAt q k (subpatterns p) → StandsAt q m (all_subpatterns ps)
  stands-below k m g ps p e n s = subst (λ i. StandsAt q i (all_subpatterns ps)) (sym n)
      (stands-children k g ps (subst (λ r. StandsAt q k (subpatterns r)) e s))

-- a list by its first item and the others
pub first-others : {X : Type 0} (xs : List X) (x : X) → 1 ≤ length xs
    → xs ≡ slice_index_or xs 0 x ∷ take (length xs - 1) (drop 1 xs)
first-others [] x l = absurd (omega (arith, l))
first-others (y ∷ ys) x l =
    let e : suc (length ys) - 1 ≡ length ys = omega arith in
    ap (λ zs. y ∷ zs) (sym (ap (λ n. take n ys) e ∙ take-whole ys))

pub first-item : {X : Type 0} (xs : List X) (x : X) → 1 ≤ length xs → x ≡ slice_index_or xs 0 x
    → xs ≡ x ∷ take (length xs - 1) (drop 1 xs)
first-item xs x l e = first-others xs x l ∙ ap (λ y. y ∷ take (length xs - 1) (drop 1 xs)) (sym e)

-- the patterns of a list by those of its first item and of the others
pub first-pattern : (cs : List declared.Pattern) (c : declared.Pattern) → 1 ≤ length cs → c ≡ slice_index_or cs 0 c
    → patterns (map pattern_tree cs)
    ≡ more_patterns (pattern_tree c) (patterns (map pattern_tree (take (length cs - 1) (drop 1 cs))))
first-pattern cs c l e = ap (λ ds. patterns (map pattern_tree ds)) (first-item cs c l e)

-- a pattern has a first node
pub some-subpatterns : (p : Pattern) → 1 ≤ length (subpatterns p)
some-subpatterns p = omega (arith, ap length (subpatterns-first p))

-- a list without an item has none
pub no-pattern : (cs : List declared.Pattern) → length cs < 1 → patterns (map pattern_tree cs) ≡ no_patterns
no-pattern [] l = refl
no-pattern (c ∷ cs) l = absurd (omega (arith, l))

-- the first of a list's patterns stands where they do, and the others behind it
module _ (q : Query) (k : ℕ) (cs : List declared.Pattern) (c : declared.Pattern) (l : 1 ≤ length cs)
    (i : c ≡ slice_index_or cs 0 c) (h : StandsAt q k (all_subpatterns (patterns (map pattern_tree cs)))) where
  abbrev first : List Pattern
  first = subpatterns (pattern_tree c)

  abbrev others : List Pattern
  others = all_subpatterns (patterns (map pattern_tree (take (length cs - 1) (drop 1 cs))))

  pub stands-parts : StandsAt q k (first ++ others)
  stands-parts = subst (StandsAt q k) (ap all_subpatterns (first-pattern cs c l i)) h

  pub stands-item : StandsAt q k first
  stands-item = stands-left q k first others stands-parts

  pub stands-others : (e : ℕ) → e ≡ k + length first → StandsAt q e others
  stands-others e n = subst (λ m. StandsAt q m others) (sym n) (stands-right q k first others stands-parts)
