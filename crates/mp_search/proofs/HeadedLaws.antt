-- Where the applications of one operation stand among terms that ascend.
use Rattle.std.proofs.Common.{◌≡◌, ℕ, zero, suc, ◌<◌, ◌≤◌, List, [], ◌∷◌, length, drop, Bool, true, false}
use Rattle.std.proofs.Common.{refl, ap, sym, ◌∙◌, subst, get_or, nat_eq, eqb-true, ltb, arith}
use Rattle.std.proofs.Common.{eq-eqb}
use Rattle.std.specs.Prelude.{Option, Some, None, option_map, ◌||◌, if◌then◌else◌}
use Rattle.std.proofs.lemmas.Bool.{and_parts, false_from_ne_true}
use Rattle.std.specs.List.{AllWithin}
use Rattle.std.specs.List.Sorted.{IsNonDecreasingBy}
use Rattle.std.specs.Ordering.{ordering_then, nat_cmp}
use Rattle.std.specs.declared.cmp.Ordering.{Ordering}
use Rattle.std.specs.declared.cmp.Ordering.TheVariants.{Less, Equal, Greater}
use Rattle.std.proofs.lemmas.Bool.{ltb-true, lt-ltb}
use Rattle.std.proofs.lemmas.Cmp.{by_ranked, ranked}
use Rattle.mp_term.specs.NormalTest.{has_head}
use Rattle.mp_term.specs.Order.{tree_cmp, trees_cmp}
use Rattle.mp_term.specs.Signature.{Sig}
use Rattle.mp_term.specs.OrderLaws.{tree_cmp_total, tree_same}
use Rattle.mp_term.specs.Tree.{Tree, symbol, app, Trees, no_trees, more_trees, tree_list}
use Rattle.mp_pattern.specs.PatternTree.{Patterns, app_pattern}
use Rattle.mp_pattern.specs.Value.{Subst}
use Rattle.mp_table.specs.Table.{Table, IsTable, HasRank, HasRanks, term_at}
use Rattle.mp_table.specs.declared.rank.Rank.{Rank}
use Rattle.mp_table.proofs.RankLaws.{rank_order}
use Rattle.mp_theory.specs.MayMatch.{may_collapse, may_match}
use Rattle.mp_table.specs.Subterms.{arguments}
use Rattle.mp_search.specs.declared.headed.Group.{Group}
use Rattle.mp_search.specs.Portion.{is_at, first_before, args_before, is_before, precedes, IsOf, occurrences}
use Rattle.mp_search.specs.Portion.{StandBetween}

-- a number that is less than the least of some is none of them
less-is : (f g : ℕ) → f < g → (nat_eq f g ≡ false) × (ltb f g ≡ true)
less-is f g l = (differs (nat_eq f g) refl, lt-ltb f g l)
  where
    differs : (b : Bool) → nat_eq f g ≡ b → b ≡ false
    differs true e = absurd (omega (arith, eqb-true f g e, l))
    differs false e = refl

module _ (past : Bool) (c : ℕ) where
  -- the first arguments of lists of one length
  first-lower : (u : Tree) (ts us : Trees) → length (tree_list ts) ≡ length (tree_list us)
      → (trees_cmp ts us ≡ Greater → ⊥) → first_before past u (tree_list us) ≡ true
      → first_before past u (tree_list ts) ≡ true
  first-lower u no_trees no_trees e h b = b
  first-lower u no_trees (more_trees v us) e h b = absurd (omega (arith, e))
  first-lower u (more_trees t ts) no_trees e h b = absurd (omega (arith, e))
  first-lower u (more_trees t ts) (more_trees v us) e h b =
      elim (tree_cmp t v) as (λ o. tree_cmp t v ≡ o → first_before past u (t ∷ tree_list ts) ≡ true) [
        | Less ↦ λ k. below (tree_cmp v u) refl k b
        | Equal ↦ λ k. subst (λ w. first_before past u (w ∷ tree_list ts) ≡ true) (sym (tree_same t v k)) b
        | Greater ↦ λ k. absurd (h (ap (λ o. ordering_then o (trees_cmp ts us)) k))
      ] refl
    where
      less : tree_cmp t u ≡ Less → first_before past u (t ∷ tree_list ts) ≡ true
      less k = ap (λ o. elim o as (λ _. Bool) [ Less ↦ true | Equal ↦ past | Greater ↦ false ]) k

      below : (o : Ordering) → tree_cmp v u ≡ o → tree_cmp t v ≡ Less
          → elim o as (λ _. Bool) [ Less ↦ true | Equal ↦ past | Greater ↦ false ] ≡ true
          → first_before past u (t ∷ tree_list ts) ≡ true
      below Less i k j = less (tree_cmp_total.trans t v u k i)
      below Equal i k j = less (subst (λ w. tree_cmp t w ≡ Less) (tree_same v u i) k)
      below Greater i k j = cc

  args-lower : (o : Option Tree) (ts us : Trees)
      → (ordering_then (nat_cmp (length (tree_list ts)) (length (tree_list us))) (trees_cmp ts us) ≡ Greater → ⊥)
      → args_before past c o (tree_list us) ≡ true → args_before past c o (tree_list ts) ≡ true
  args-lower None ts us h b = b
  args-lower (Some u) ts us h b =
      by_ranked (m < n) (m ≡ n) (n < m) (nat_cmp m n) (ranked m n (nat_cmp m n) refl)
      (λ e l. shorter (less-is m c (few l (nat_eq n c) refl b)))
      (λ e l. as_long l (λ k. h (ap (λ o. ordering_then o (trees_cmp ts us)) e ∙ k)) (nat_eq n c) refl b)
      (λ e l. absurd (h (ap (λ o. ordering_then o (trees_cmp ts us)) e)))
    where
      m : ℕ
      m = length (tree_list ts)

      n : ℕ
      n = length (tree_list us)

      few : m < n → (d : Bool) → nat_eq n c ≡ d
          → (if d then first_before past u (tree_list us) else ltb n c) ≡ true → m < c
      few l true e k = omega (arith, l, eqb-true n c e)
      few l false e k = let j = ltb-true n c k in omega (arith, l, j)

      shorter : (nat_eq m c ≡ false) × (ltb m c ≡ true) → args_before past c (Some u) (tree_list ts) ≡ true
      shorter k = ap (λ d. if d then first_before past u (tree_list ts) else ltb m c) k.0 ∙ k.1

      as_long : m ≡ n → (trees_cmp ts us ≡ Greater → ⊥) → (d : Bool) → nat_eq n c ≡ d
          → (if d then first_before past u (tree_list us) else ltb n c) ≡ true
          → args_before past c (Some u) (tree_list ts) ≡ true
      as_long l g true e k =
          ap (λ d. if d then first_before past u (tree_list ts) else ltb m c) (ap (λ j. nat_eq j c) l ∙ e)
          ∙ first-lower u ts us l g k
      as_long l g false e k =
          ap (λ d. if d then first_before past u (tree_list ts) else ltb m c) (ap (λ j. nat_eq j c) l ∙ e)
          ∙ (ap (λ j. ltb j c) l ∙ k)

  -- what is at most another term isn't behind it
  before-lower : (g : ℕ) (o : Option Tree) (t u : Tree) → (tree_cmp t u ≡ Greater → ⊥)
      → is_before past g c o u ≡ true → is_before past g c o t ≡ true
  before-lower g o (symbol m) u h b = refl
  before-lower g o (app f ts) (symbol m) h b = absurd (h refl)
  before-lower g o (app f ts) (app k us) h b =
      by_ranked (f < k) (f ≡ k) (k < f) (nat_cmp f k) (ranked f k (nat_cmp f k) refl)
      (λ e l. less (less-is f g (few l (nat_eq k g) refl b)))
      (λ e l. alike l (λ i. h (ap (λ r. ordering_then r rest) e ∙ i)) (nat_eq k g) refl b)
      (λ e l. absurd (h (ap (λ r. ordering_then r rest) e)))
    where
      rest : Ordering
      rest = ordering_then (nat_cmp (length (tree_list ts)) (length (tree_list us))) (trees_cmp ts us)

      few : f < k → (d : Bool) → nat_eq k g ≡ d
          → (if d then args_before past c o (tree_list us) else ltb k g) ≡ true → f < g
      few l true e i = omega (arith, l, eqb-true k g e)
      few l false e i = let j = ltb-true k g i in omega (arith, l, j)

      less : (nat_eq f g ≡ false) × (ltb f g ≡ true) → is_before past g c o (app f ts) ≡ true
      less i = ap (λ d. if d then args_before past c o (tree_list ts) else ltb f g) i.0 ∙ i.1

      alike : f ≡ k → (rest ≡ Greater → ⊥) → (d : Bool) → nat_eq k g ≡ d
          → (if d then args_before past c o (tree_list us) else ltb k g) ≡ true
          → is_before past g c o (app f ts) ≡ true
      alike l i true e j =
          ap (λ d. if d then args_before past c o (tree_list ts) else ltb f g) (ap (λ n. nat_eq n g) l ∙ e)
          ∙ args-lower o ts us i j
      alike l i false e j =
          ap (λ d. if d then args_before past c o (tree_list ts) else ltb f g) (ap (λ n. nat_eq n g) l ∙ e)
          ∙ (ap (λ n. ltb n g) l ∙ j)

-- what has the head, and arguments as are asked for, is of the group
pub group-there : (past : Bool) (g c : ℕ) (o : Option Tree) (t : Tree) → has_head g t ≡ true
    → is_before past g c o t ≡ args_before past c o (arguments t)
group-there past g c o (symbol m) h = cc
group-there past g c o (app f ts) h =
    ap (λ d. if d then args_before past c o (tree_list ts) else ltb f g)
    (eq-eqb f g (sym (eqb-true g f h)))

pub rank-within : (t : Table) (rs : List Rank) → HasRanks t rs → (k : ℕ) (d : Rank) → k < length rs
    → HasRank t (get_or rs k d)
rank-within t [] h k d l = absurd (omega (arith, l))
rank-within t (r ∷ rs) h zero d l = h.0
rank-within t (r ∷ rs) h (suc k) d l = rank-within t rs h.1 k d (omega (arith, l))

-- of ranks that ascend
pub before-earlier : (t : Table) → IsTable t → (k : Group) (past : Bool) (rs : List Rank) → HasRanks t rs
    → IsNonDecreasingBy (λ r. r.0) rs → (i j : ℕ) (d : Rank) → i ≤ j → j < length rs
    → precedes t k past (term_at t (get_or rs j d)) ≡ true → precedes t k past (term_at t (get_or rs i d)) ≡ true
before-earlier t h k past rs held up i j d l m b =
    let r = get_or rs i d in
    let s = get_or rs j d in
    let low : r.0 ≤ s.0 = up i j d l m in
    before-lower past k.count k.op.0 (option_map (term_at t) k.first) (term_at t r) (term_at t s)
    (λ e. not_greater low (sym (rank_order t h.ascending r s (rank-within t rs held i d (omega (arith, l, m)))
    (rank-within t rs held j d m)) ∙ e)) b
  where
    not_greater : {i j : ℕ} → i ≤ j → nat_cmp i j ≡ Greater → ⊥
    not_greater {i} {j} l e = by_ranked (i < j) (i ≡ j) (j < i) (nat_cmp i j) (ranked i j (nat_cmp i j) refl)
        (λ q p. let wrong : Less ≡ Greater = sym q ∙ e in cc) (λ q p. let wrong : Equal ≡ Greater = sym q ∙ e in cc)
        (λ q p. omega (arith, p, l))

-- what isn't before some place isn't so behind it
pub behind-later : (t : Table) → IsTable t → (k : Group) (past : Bool) (rs : List Rank) → HasRanks t rs
    → IsNonDecreasingBy (λ r. r.0) rs → (i j : ℕ) (d : Rank) → i ≤ j → j < length rs
    → precedes t k past (term_at t (get_or rs i d)) ≡ false → precedes t k past (term_at t (get_or rs j d)) ≡ false
behind-later t h k past rs held up i j d l m b = false_from_ne_true (precedes t k past (term_at t (get_or rs j d)))
    (λ e. let wrong : true ≡ false = sym (before-earlier t h k past rs held up i j d l m e) ∙ b in cc)

-- what comes before the group also comes before what is behind it
first-past : (u : Tree) (ts : List Tree) → first_before false u ts ≡ true → first_before true u ts ≡ true
first-past u [] b = refl
first-past u (t ∷ ts) b = elim (tree_cmp t u) as
    (λ o. elim o as (λ _. Bool) [ Less ↦ true | Equal ↦ false | Greater ↦ false ] ≡ true
    → elim o as (λ _. Bool) [ Less ↦ true | Equal ↦ true | Greater ↦ false ] ≡ true)
    [ Less ↦ λ e. refl | Equal ↦ λ e. refl | Greater ↦ λ e. cc ] b

args-past : (c : ℕ) (o : Option Tree) (ts : List Tree) → args_before false c o ts ≡ true
    → args_before true c o ts ≡ true
args-past c None ts b = refl
args-past c (Some u) ts b = elim (nat_eq (length ts) c) as
    (λ d. (if d then first_before false u ts else ltb (length ts) c) ≡ true
    → (if d then first_before true u ts else ltb (length ts) c) ≡ true)
    [ true ↦ first-past u ts | false ↦ λ e. e ] b

past-before : (g c : ℕ) (o : Option Tree) (t : Tree) → is_before false g c o t ≡ true → is_before true g c o t ≡ true
past-before g c o (symbol m) b = refl
past-before g c o (app f ts) b = elim (nat_eq f g) as
    (λ d. (if d then args_before false c o (tree_list ts) else ltb f g) ≡ true
    → (if d then args_before true c o (tree_list ts) else ltb f g) ≡ true)
    [ true ↦ args-past c o (tree_list ts) | false ↦ λ e. e ] b

pub precedes-past : (t : Table) (k : Group) (u : Tree) → precedes t k false u ≡ true → precedes t k true u ≡ true
precedes-past t k = past-before k.op.0 k.count (option_map (term_at t) k.first)

-- ranks that stand behind the place alone
pub occurrences-drop : (z : Rank) (rs : List Rank) (i : ℕ)
    → ((k : ℕ) → k < i → k < length rs → (get_or rs k z).0 ≡ z.0 → ⊥) → occurrences z (drop i rs) ≡ occurrences z rs
occurrences-drop z rs zero h = refl
occurrences-drop z [] (suc i) h = refl
occurrences-drop z (r ∷ rs) (suc i) h =
    let missed = misses (nat_eq z.0 r.0) refl (h zero (omega arith) (omega arith)) in
    let rest = occurrences-drop z rs i (λ k l m. h (suc k) (omega (arith, l)) (omega (arith, m))) in
    omega (arith, missed, rest)
  where
    misses : (b : Bool) → nat_eq z.0 r.0 ≡ b → (r.0 ≡ z.0 → ⊥) → is_at z r ≡ 0
    misses true e other = absurd (other (sym (eqb-true z.0 r.0 e)))
    misses false e other = ap (λ c. if c then 1 else 0) e

-- and none where it stands nowhere behind
pub occurrences-none : (z : Rank) (rs : List Rank) (i : ℕ)
    → ((k : ℕ) → i ≤ k → k < length rs → (get_or rs k z).0 ≡ z.0 → ⊥) → occurrences z (drop i rs) ≡ 0
occurrences-none z [] zero h = refl
occurrences-none z [] (suc i) h = refl
occurrences-none z (r ∷ rs) zero h =
    let missed = misses (nat_eq z.0 r.0) refl (h zero (omega arith) (omega arith)) in
    let rest = occurrences-none z rs zero (λ k l m. h (suc k) (omega arith) (omega (arith, m))) in
    omega (arith, missed, rest)
  where
    misses : (b : Bool) → nat_eq z.0 r.0 ≡ b → (r.0 ≡ z.0 → ⊥) → is_at z r ≡ 0
    misses true e other = absurd (other (sym (eqb-true z.0 r.0 e)))
    misses false e other = ap (λ c. if c then 1 else 0) e
occurrences-none z (r ∷ rs) (suc i) h =
    occurrences-none z rs i (λ k l m. h (suc k) (omega (arith, l)) (omega (arith, m)))

-- a child that can't be collapsed matches what it heads
pub match-headed : (sig : Sig) (s : Subst) (f : Option ℕ) (g : ℕ) (ps : Patterns) (t : Tree)
    → may_collapse sig g ps ≡ false → may_match sig s f (app_pattern g ps) t ≡ true → has_head g t ≡ true
match-headed sig s f g ps t c h =
    (and_parts (has_head g t) _ (either (may_collapse sig g ps) c h)).0
  where
    either : (b : Bool) {d : Bool} → b ≡ false → (b || d) ≡ true → d ≡ true
    either true e k = cc
    either false e k = k

-- the terms of a group stand between two places
pub between-places : (t : Table) (k : Group) (rs : List Rank) (i j : ℕ) (Wanted : Rank → Type 0)
    → ((z : Rank) → Wanted z → IsOf t k (term_at t z)) → i ≤ length rs → j ≤ length rs
    → AllWithin (λ r. precedes t k false (term_at t r) ≡ true) rs 0 i
    → AllWithin (λ r. precedes t k true (term_at t r) ≡ false) rs j (length rs) → StandBetween Wanted rs i j
between-places t k rs i j Wanted is_of m n low high = record {
  from = m;
  within = n;
  before = λ z p w l e.
      let is : get_or rs p z ≡ z = ap (λ n. record { 0 = n }) e in
      let b : precedes t k false (term_at t z) ≡ true =
      subst (λ r. precedes t k false (term_at t r) ≡ true) is (low p z (omega arith) l) in
      let wrong : true ≡ false = sym b ∙ (is_of z w).0 in cc;
  behind = λ z p w l o e.
      let is : get_or rs p z ≡ z = ap (λ n. record { 0 = n }) e in
      let b : precedes t k true (term_at t z) ≡ false =
      subst (λ r. precedes t k true (term_at t r) ≡ false) is (high p z l o) in
      let wrong : true ≡ false = sym (is_of z w).1 ∙ b in cc;
}

-- of what is wanted more, all the more
pub between-fewer : (Wanted More : Rank → Type 0) (rs : List Rank) (i j : ℕ)
    → ((z : Rank) → Wanted z → More z) → StandBetween More rs i j → StandBetween Wanted rs i j
between-fewer Wanted More rs i j f h = record {
  from = h.from;
  within = h.within;
  before = λ z k w. h.before z k (f z w);
  behind = λ z k w. h.behind z k (f z w);
}
