-- What the later siblings of a child take, one child after the other.
use Rattle.std.proofs.Common.{◌≡◌, ℕ, zero, suc, ◌+◌, ◌-◌, ◌≤◌, List, [], ◌∷◌, ◌++◌, take, drop, length}
use Rattle.std.proofs.Common.{true, false, not, ◌&&◌, nat_eq, refl, ap, sym, ◌∙◌, subst, arith, eqb-true, eq-eqb}
use Rattle.std.proofs.Common.{get_or, length-append, length-drop}
use Rattle.std.specs.Prelude.{Option, Some, None, option_map, slice_get, map}
use Rattle.mp_term.specs.Signature.{Sig}
use Rattle.mp_term.proofs.ListLaws.{bool_same}
use Rattle.mp_pattern.specs.PatternTree.{Pattern, symbol_pattern, app_pattern, wild_pattern}
use Rattle.mp_pattern.specs.PatternTree.{patterns}
use Rattle.mp_pattern.specs.Size.{pattern_nodes}
use Rattle.mp_pattern.specs.Subpatterns.{subpatterns, all_subpatterns}
use Rattle.mp_pattern.specs.Value.{Value, same_name}
use Rattle.mp_pattern.specs.View.{pattern_tree}
use Rattle.mp_pattern.proofs.NameLaws.{same_name-is, same_name-itself}
use Rattle.mp_pattern.proofs.PlanLaws.{length-subpatterns}
use Rattle.mp_subst.specs.Bound.{Bound, value_in}
use Rattle.mp_subst.specs.Trail.{Trail, last_value}
use Rattle.mp_subst.proofs.TrailLaws.{take-whole}
use Rattle.mp_theory.specs.Known.{contributed}
use Rattle.mp_pattern.specs.declared.pattern.Pattern as declared
use Rattle.mp_search.specs.Query.{IsQuery}
use Rattle.mp_search.proofs.NumberedLaws.{count-nodes}
use Rattle.mp_search.specs.declared.query.Query.{Query}
use Rattle.mp_search.specs.declared.site.Site.{Site}
use Rattle.mp_search.specs.Numbers.{IsNumberAt}
use Rattle.mp_search.specs.Reading.{name_at, subst_of}
use Rattle.mp_search.specs.Shares.{length_known, is_optional_child, is_use_of, IsUsed, StandFrom}
use Rattle.mp_search.specs.Site.{IsSite}
use Rattle.mp_search.proofs.SiteLaws.{front_at, rest_of, subpatterns-first}
use Rattle.mp_search.proofs.SubstLaws.{value_of-subst_from}
use Rattle.mp_search.proofs.PartLaws.{front-right, drop-further}

-- behind a subpattern the others stand
pub stand-behind : (q : Query) (node : ℕ) (p : Pattern) (ps : List Pattern)
    → subpatterns p ++ ps ≡ take (length (subpatterns p ++ ps)) (drop node (subpatterns q.plan.now.pattern))
    → ps ≡ take (length ps) (drop (node + pattern_nodes p) (subpatterns q.plan.now.pattern))
stand-behind q node p ps e =
    front-right (subpatterns p) ps (drop node (subpatterns q.plan.now.pattern)) e
    ∙ ap (take (length ps)) (drop-further (length (subpatterns p)) node (subpatterns q.plan.now.pattern)
    ∙ ap (λ n. drop (node + n) (subpatterns q.plan.now.pattern)) (length-subpatterns p))

-- so the later siblings of a child do
pub site-behind : (q : Query) (x : Site) → IsSite q x
    → StandFrom q (x.node + pattern_nodes (pattern_tree x.child.now)) (patterns (map pattern_tree x.later.now))
site-behind q x h = stand-behind q x.node (pattern_tree x.child.now)
    (all_subpatterns (patterns (map pattern_tree x.later.now))) h.children

-- the first of children that stand in the plan, and the others
pub stand-first : (q : Query) (node : ℕ) (cs : List declared.Pattern) (c : declared.Pattern) → 1 ≤ length cs
    → c ≡ get_or cs 0 c → StandFrom q node (patterns (map pattern_tree cs))
    → slice_get (subpatterns q.plan.now.pattern) node ≡ Some (pattern_tree c)
stand-first q node [] c n i h = absurd (omega (arith, n))
stand-first q node (d ∷ cs) c n i h =
    let p = pattern_tree d in
    let later = all_subpatterns (patterns (map pattern_tree cs)) in
    front_at p (rest_of p ++ later) (subpatterns q.plan.now.pattern) (length (subpatterns p ++ later)) node
    (ap (λ ps. ps ++ later) (sym (subpatterns-first p)) ∙ h) ∙ ap (λ e. Some (pattern_tree e)) (sym i)

pub stand-rest : (q : Query) (node : ℕ) (cs : List declared.Pattern) (c : declared.Pattern) → 1 ≤ length cs
    → c ≡ get_or cs 0 c → StandFrom q node (patterns (map pattern_tree cs))
    → StandFrom q (node + pattern_nodes (pattern_tree c)) (patterns (map pattern_tree (drop 1 cs)))
stand-rest q node [] c n i h = absurd (omega (arith, n))
stand-rest q node (d ∷ cs) c n i h =
    subst (λ e. StandFrom q (node + pattern_nodes (pattern_tree e)) (patterns (map pattern_tree cs))) (sym i)
    (stand-behind q node (pattern_tree d) (all_subpatterns (patterns (map pattern_tree cs))) h)

-- the others, as a slice has them
pub all-rest : {X : Type 0} (xs : List X) → take (length xs - 1) (drop 1 xs) ≡ drop 1 xs
all-rest [] = refl
all-rest (x ∷ xs) = let e : suc (length xs) - 1 ≡ length xs = omega arith in rw e (take-whole xs)

pub rest-short : {X : Type 0} (xs : List X) → 1 ≤ length xs → length (take (length xs - 1) (drop 1 xs)) + 1 ≡ length xs
rest-short [] h = absurd (omega (arith, h))
rest-short (x ∷ xs) h = omega (arith, ap length (all-rest (x ∷ xs)))

-- children that stand in the plan are no more than its nodes
count-children : (cs : List declared.Pattern) → length cs ≤ length (all_subpatterns (patterns (map pattern_tree cs)))
count-children [] = omega arith
count-children (c ∷ cs) =
    let p = pattern_tree c in
    let later = all_subpatterns (patterns (map pattern_tree cs)) in
    omega (arith, count-children cs, ap length (subpatterns-first p), length-append (subpatterns p) later)

pub few-children : (q : Query) (node : ℕ) (cs : List declared.Pattern) → IsQuery q
    → StandFrom q node (patterns (map pattern_tree cs)) → length cs ≤ length q.plan.now.nodes
few-children q node cs h k =
    let all = all_subpatterns (patterns (map pattern_tree cs)) in
    omega (
      arith,
      count-children cs,
      ap length k,
      length-take-le_min (length all) (drop node (subpatterns q.plan.now.pattern)),
      length-drop node (subpatterns q.plan.now.pattern),
      count-nodes q h,
    )
  where
    length-take-le_min : {X : Type 0} (n : ℕ) (xs : List X) → length (take n xs) ≤ length xs
    length-take-le_min zero xs = omega arith
    length-take-le_min (suc n) [] = omega arith
    length-take-le_min (suc n) (x ∷ xs) = omega (arith, length-take-le_min n xs)

-- the numbers of variables are one where the child is a use
pub is_use-number : (q : Query) (p : Pattern) (o : Option (List ℕ)) (v u : ℕ) → is_optional_child p ≡ false
    → IsUsed q o (Some v) → IsNumberAt q p (Some u) → nat_eq v u ≡ is_use_of o p
is_use-number q p None v u h n m = absurd n
is_use-number q (symbol_pattern k) (Some x) v u h n m = cc
is_use-number q (app_pattern g ps) (Some x) v u h n m = cc
is_use-number q (wild_pattern w None) (Some x) v u h n m = cc
is_use-number q (wild_pattern w (Some y)) (Some x) v u h n m =
    bool_same (nat_eq v u) (same_name y x)
    (λ e.
    let i : v ≡ u = eqb-true v u e in
    let k : Some y ≡ Some x = sym m.name ∙ ap (name_at q) (sym i) ∙ n.name in
    let j : y ≡ x = cc in
    subst (λ z. same_name y z ≡ true) j (same_name-itself y))
    (λ e. eq-eqb v u (sym (n.only u (m.name ∙ ap Some (same_name-is y x e)))))
    ∙ ap (λ b. not b && same_name y x) (sym h)

module _ (q : Query) (t : Trail) (sig : Sig) (f : Option ℕ) where
  -- what is known of the number of terms, by the trail
  pub length-none : (p : Pattern) (v : ℕ) → IsNumberAt q p (Some v) → last_value t.stack v ≡ None
      → None ≡ length_known sig (subst_of q t) f p
  length-none (symbol_pattern k) v n e = refl
  length-none (app_pattern g ps) v n e = refl
  length-none (wild_pattern w None) v n e = refl
  length-none (wild_pattern w (Some x)) v n e =
      sym (ap (option_map (λ u. length (contributed sig f u)))
      (value_of-subst_from q.table.now (name_at q) x v n.name n.only [] t.stack
      ∙ ap (λ o. elim o as (λ _. Option Value) [ None ↦ None | Some c ↦ Some (value_in q.table.now c) ]) e))

  pub length-some : (p : Pattern) (v : ℕ) (b : Bound) → IsNumberAt q p (Some v) → last_value t.stack v ≡ Some b
      → Some (length (contributed sig f (value_in q.table.now b))) ≡ length_known sig (subst_of q t) f p
  length-some (symbol_pattern k) v b n e = cc
  length-some (app_pattern g ps) v b n e = cc
  length-some (wild_pattern w None) v b n e = cc
  length-some (wild_pattern w (Some x)) v b n e =
      sym (ap (option_map (λ u. length (contributed sig f u)))
      (value_of-subst_from q.table.now (name_at q) x v n.name n.only [] t.stack
      ∙ ap (λ o. elim o as (λ _. Option Value) [ None ↦ None | Some c ↦ Some (value_in q.table.now c) ]) e))
