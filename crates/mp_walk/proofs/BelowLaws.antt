-- The steps below a commutative application.
use Rattle.std.proofs.Common.{◌≡◌, ◌≤◌, ◌+◌, ◌-◌, ℕ, zero, suc, List, [], ◌∷◌, ◌++◌, map, take}
use Rattle.std.proofs.Common.{drop, Bool}
use Rattle.std.proofs.Common.{eqb-true, true, false, nat_eq, ◌&&◌, refl, ap, sym, ◌∙◌, subst, arith}
use Rattle.std.specs.Prelude.{Option, Some, None, slice_get, MatchOption, if◌then◌else◌}
use Rattle.std.proofs.lemmas.Bool.Decides.{nat_tests}
use Rattle.std.specs.Prelude.{nat_lt}
use Rattle.mp_term.specs.Normal.{IsNormal}
use Rattle.mp_term.specs.NormalTest.{has_head, is_single, passes}
use Rattle.mp_term.specs.Signature.{is_one}
use Rattle.mp_term.specs.Tree.{Tree, symbol, app, tree_list}
use Rattle.mp_term.proofs.ListLaws.{all-index}
use Rattle.mp_pattern.specs.Fits.{arranged, no_sequence}
use Rattle.mp_pattern.specs.NetTokens.{comm_token}
use Rattle.mp_pattern.specs.PatternTree.{app_pattern}
use Rattle.mp_pattern.specs.Value.{Subst}
use Rattle.mp_table.specs.Subterms.{arguments}
use Rattle.mp_theory.specs.Machine as machine
use Rattle.mp_theory.specs.OneList.{Item}
use Rattle.mp_theory.proofs.Walk.{fine-arguments, fine-single}
use Rattle.mp_theory.proofs.Wildcards.{final-passes, IsFine}
use Rattle.mp_ac.specs.declared.search.CommSearch.{CommSearch}
use Rattle.mp_ac.specs.Asked.{root_list}
use Rattle.mp_ac.specs.CommPlan.{root_op}
use Rattle.mp_ac.proofs.Below.{arguments-fine}
use Rattle.mp_walk.specs.declared.comm.Below.{Below}
use Rattle.mp_walk.specs.Below.{IsBelow, IsAtWay, IsWayOf, below_ahead}
use Rattle.mp_walk.specs.Below.{below_table, items_by_way, left_steps, pattern_of, step_at, taken_by, term_of}
use Rattle.mp_walk.specs.TokenMachine.{Open, below_items}
use Rattle.mp_walk.specs.Ways.{Step, first_entry, is_way, item_step, way_among, way_steps, ways_from}
use Rattle.mp_walk.proofs.WayLaws.{ways-none, ways-step}

-- there are two ways
no-way : (n : ℕ) (headed single : Bool) → way_among (suc (suc n)) headed single ≡ None
no-way n headed single =
    rw (
      let z : nat_eq (suc (suc n)) 0 ≡ false = grind (arith, nat_tests) in z,
      let z : nat_eq (suc (suc n)) 1 ≡ false = grind (arith, nat_tests) in z,
    ) refl

-- ---- what a way takes

module _ (b : Below) (h : IsBelow b) where
  normal-term : IsNormal b.sig.now (term_of b)
  normal-term = all-index (IsNormal b.sig.now) b.table.now.terms b.rank.0 (symbol []) h.normal h.rank

  fine-taken : (way : ℕ) → IsWayOf b way → IsFine b.sig.now (Some b.op.0) (taken_by (term_of b) way)
  fine-taken zero k = by_term (term_of b) (k.headed refl) (final-passes b.sig.now (term_of b) normal-term)
    where
      by_term : (t : Tree) → has_head b.op.0 t ≡ true → passes b.sig.now t ≡ true
          → IsFine b.sig.now (Some b.op.0) (arguments t)
      by_term (symbol n) e p = cc
      by_term (app g us) e p =
          let same : b.op.0 ≡ g = eqb-true b.op.0 g e in
          subst (λ g. IsFine b.sig.now (Some g) (tree_list us)) (sym same) (fine-arguments b.sig.now g us p)
  fine-taken (suc zero) k = fine-single b.sig.now (Some b.op.0) (term_of b)
      (final-passes b.sig.now (term_of b) normal-term)
  fine-taken (suc (suc n)) k = absurd (omega (arith, k.few))

  -- what the children take together by a way stands in order
  pub given-way : (way : ℕ) → IsWayOf b way
      → arranged b.sig.now (root_op (pattern_of b)) (taken_by (term_of b) way) ≡ taken_by (term_of b) way
  given-way way k = subst (λ f. arranged b.sig.now f (taken_by (term_of b) way) ≡ taken_by (term_of b) way)
      (sym (ap root_op h.application))
      ((arguments-fine b.sig.now b.op.0 (taken_by (term_of b) way)).1 (fine-taken way k)).ordered

  -- ---- the ways

  module _ (f : Open) (gs : List Open) (s : Subst) (first : f.left ≡ term_of b ∷ drop 1 f.left) where
    front-is : take 1 f.left ≡ term_of b ∷ []
    front-is = ap (take 1) first

    way-zero : is_way b.sig.now f (pattern_of b) 0 ≡ has_head b.op.0 (term_of b)
    way-zero = ap (λ p. is_way b.sig.now f p 0) h.application ∙ ap (machine.is_headed b.op.0) front-is

    way-one : is_way b.sig.now f (pattern_of b) 1 ≡ (is_one b.sig.now b.op.0 && b.collapses)
    way-one = ap (λ p. is_way b.sig.now f p 1) h.application
        ∙ ap (λ ts. is_single ts && (is_one b.sig.now b.op.0 && no_sequence h.children)) front-is
        ∙ ap (λ c. is_one b.sig.now b.op.0 && c) (sym h.collapses)

    -- the items of a way
    items-way : (way : ℕ) → below_items b.sig.now (pattern_of b) (first_entry f.left way) s ≡ items_by_way b way s
    items-way way =
        ap (λ p. below_items b.sig.now p (first_entry f.left way) s) h.application
        ∙ ap (λ ts. below_items b.sig.now (app_pattern b.op.0 h.children)
        (record { terms = ts; collapsed = nat_eq way 1 }) s) front-is
        ∙ ap (λ ts. root_list b.sig.now (app_pattern b.op.0 h.children) ts (nat_eq way 1) s)
        (by_way (nat_eq way 1) (term_of b))
        ∙ ap (λ p. root_list b.sig.now p (taken_by (term_of b) way) (nat_eq way 1) s) (sym h.application)
      where
        by_way : (c : Bool) (t : Tree) → (if c then t ∷ [] else machine.arguments (t ∷ []))
            ≡ (if c then t ∷ [] else arguments t)
        by_way true t = refl
        by_way false (symbol n) = refl
        by_way false (app g us) = refl

    abbrev ways : ℕ → List Step
    ways n = ways_from b.sig.now f gs s (comm_token (pattern_of b)) n

    abbrev of_way : ℕ → List Step
    of_way n = way_steps b.sig.now f gs s (comm_token (pattern_of b)) n

    steps-there : (way : ℕ) → is_way b.sig.now f (pattern_of b) way ≡ true
        → of_way way ≡ map (item_step f gs (pattern_of b) (first_entry f.left way)) (items_by_way b way s)
    steps-there way e =
        ap (λ c. if c then map (item_step f gs (pattern_of b) (first_entry f.left way))
        (below_items b.sig.now (pattern_of b) (first_entry f.left way) s) else []) e
        ∙ ap (map (item_step f gs (pattern_of b) (first_entry f.left way))) (items-way way)

    steps-gone : (way : ℕ) → is_way b.sig.now f (pattern_of b) way ≡ false → of_way way ≡ []
    steps-gone way e =
        ap (λ c. if c then map (item_step f gs (pattern_of b) (first_entry f.left way))
        (below_items b.sig.now (pattern_of b) (first_entry f.left way) s) else []) e

    -- behind the second way there is none
    ways-late : (n : ℕ) → 2 ≤ n → ways n ≡ []
    ways-late n l = ways-none b.sig.now f gs s (comm_token (pattern_of b)) n
        (λ m k. steps-gone m (late m (omega (arith, l, k))))
      where
        late : (m : ℕ) → 2 ≤ m → is_way b.sig.now f (pattern_of b) m ≡ false
        late zero k = absurd (omega (arith, k))
        late (suc zero) k = absurd (omega (arith, k))
        late (suc (suc m)) k = rw (let z : nat_lt (suc (suc m)) 2 ≡ false = grind (arith, nat_tests) in z) refl

    -- the ways from a number on: none, or the items of one and the ways behind it
    pub record IsNextWay (next way : ℕ) : Type 0 where
      pub way_of : IsWayOf b way
      pub onward : next ≤ way
      pub steps : ways next ≡ map (item_step f gs (pattern_of b) (first_entry f.left way)) (items_by_way b way s)
          ++ ways (suc way)

    one-way : (next : ℕ) → is_way b.sig.now f (pattern_of b) next ≡ true → IsWayOf b next → IsNextWay next next
    one-way next e k = record {
      way_of = k;
      onward = omega arith;
      steps = ways-step b.sig.now f gs s (comm_token (pattern_of b)) next
          ∙ ap (λ rs. rs ++ ways (suc next)) (steps-there next e);
    }

    skip-way : (next : ℕ) → is_way b.sig.now f (pattern_of b) next ≡ false → ways next ≡ ways (suc next)
    skip-way next e = ways-step b.sig.now f gs s (comm_token (pattern_of b)) next
        ∙ ap (λ rs. rs ++ ways (suc next)) (steps-gone next e)

    -- what the first way from a number on says
    pub next-way : (next : ℕ) (headed single : Bool) → headed ≡ has_head b.op.0 (term_of b)
        → single ≡ (is_one b.sig.now b.op.0 && b.collapses)
        → MatchOption (way_among next headed single) (ways next ≡ []) (IsNextWay next)
    next-way zero true single e k = one-way 0 (way-zero ∙ sym e) (record { few = omega arith; headed = λ _. sym e })
    next-way zero false true e k =
        let o = one-way 1 (way-one ∙ sym k) (record { few = omega arith; headed = λ z. absurd (omega (arith, z)) }) in
        record { way_of = o.way_of; onward = omega arith; steps = skip-way 0 (way-zero ∙ sym e) ∙ o.steps }
    next-way zero false false e k =
        skip-way 0 (way-zero ∙ sym e) ∙ skip-way 1 (way-one ∙ sym k) ∙ ways-late 2 (omega arith)
    next-way (suc zero) headed true e k =
        one-way 1 (way-one ∙ sym k) (record { few = omega arith; headed = λ z. absurd (omega (arith, z)) })
    next-way (suc zero) headed false e k = skip-way 1 (way-one ∙ sym k) ∙ ways-late 2 (omega arith)
    next-way (suc (suc n)) headed single e k =
        subst (λ o. MatchOption o (ways (suc (suc n)) ≡ []) (IsNextWay (suc (suc n)))) (sym (no-way n headed single))
        (ways-late (suc (suc n)) (omega arith))

-- ---- the steps

first-rest : {X : Type 0} (xs : List X) (x : X) → slice_get xs 0 ≡ Some x → xs ≡ x ∷ drop 1 xs
first-rest [] x e = cc
first-rest (y ∷ xs) x e = let k : y ≡ x = cc in ap (λ z. z ∷ xs) k

module _ (b : Below) (f : Open) (gs : List Open) (next : ℕ) (s : Subst) where
  -- the first step of the search at hand
  pub step-first : (old new : Option CommSearch) (r : Subst)
      → slice_get (below_ahead old s) 0 ≡ Some (below_table new, r)
      → below_ahead new s ≡ drop 1 (below_ahead old s)
      → left_steps b f gs next old s ≡ step_at b f gs next new r ∷ left_steps b f gs next new s
  step-first old new r e k =
      ap (λ is. map (item_step f gs (pattern_of b) (first_entry f.left (next - 1))) is
      ++ ways_from b.sig.now f gs s (comm_token (pattern_of b)) next)
      (first-rest (below_ahead old s) (below_table new, r) e ∙ ap (λ is. (below_table new, r) ∷ is) (sym k))

  -- none is left of it
  pub step-over : (old : Option CommSearch) → below_ahead old s ≡ []
      → left_steps b f gs next old s ≡ ways_from b.sig.now f gs s (comm_token (pattern_of b)) next
  step-over old e = ap (λ is. map (item_step f gs (pattern_of b) (first_entry f.left (next - 1))) is
      ++ ways_from b.sig.now f gs s (comm_token (pattern_of b)) next) e

-- a new search
pub step-begun : (b : Below) (h : IsBelow b) (f : Open) (gs : List Open) (s : Subst)
    (first : f.left ≡ term_of b ∷ drop 1 f.left) (next way : ℕ) (o : Option CommSearch)
    → Some way ≡ way_among next (has_head b.op.0 (term_of b)) (is_one b.sig.now b.op.0 && b.collapses)
    → below_ahead o s ≡ items_by_way b way s
    → left_steps b f gs (way + 1) o s ≡ ways_from b.sig.now f gs s (comm_token (pattern_of b)) next
step-begun b h f gs s first next way o e k =
    let n : IsNextWay b h f gs s first next way =
    subst (λ o. MatchOption o (ways_from b.sig.now f gs s (comm_token (pattern_of b)) next ≡ [])
    (IsNextWay b h f gs s first next)) (sym e) (next-way b h f gs s first next _ _ refl refl) in
    let m : way + 1 - 1 ≡ way = omega arith in
    let l : way + 1 ≡ suc way = omega arith in
    ap (λ n. map (item_step f gs (pattern_of b) (first_entry f.left n)) (below_ahead o s)
    ++ ways_from b.sig.now f gs s (comm_token (pattern_of b)) (way + 1)) m
    ∙ ap (λ is. map (item_step f gs (pattern_of b) (first_entry f.left way)) is
    ++ ways_from b.sig.now f gs s (comm_token (pattern_of b)) (way + 1)) k
    ∙ ap (λ n. map (item_step f gs (pattern_of b) (first_entry f.left way)) (items_by_way b way s)
    ++ ways_from b.sig.now f gs s (comm_token (pattern_of b)) n) l
    ∙ sym n.steps

-- no way is left
pub step-ended : (b : Below) (h : IsBelow b) (f : Open) (gs : List Open) (s : Subst)
    (first : f.left ≡ term_of b ∷ drop 1 f.left) (next : ℕ)
    → None ≡ way_among next (has_head b.op.0 (term_of b)) (is_one b.sig.now b.op.0 && b.collapses)
    → ways_from b.sig.now f gs s (comm_token (pattern_of b)) next ≡ []
step-ended b h f gs s first next e =
    subst (λ o. MatchOption o (ways_from b.sig.now f gs s (comm_token (pattern_of b)) next ≡ [])
    (IsNextWay b h f gs s first next)) (sym e) (next-way b h f gs s first next _ _ refl refl)

-- a way that comes next is one, and comes behind
pub way-next : (b : Below) (next way : ℕ)
    → Some way ≡ way_among next (has_head b.op.0 (term_of b)) (is_one b.sig.now b.op.0 && b.collapses)
    → IsWayOf b way × (next ≤ way)
way-next b next way e = by_next next _ _ refl e
  where
    by_next : (n : ℕ) (headed single : Bool) → headed ≡ has_head b.op.0 (term_of b)
        → Some way ≡ way_among n headed single
        → IsWayOf b way × (n ≤ way)
    by_next zero true single k e =
        let w : way ≡ 0 = cc in (record { few = omega (arith, w); headed = λ _. sym k }, omega (arith, w))
    by_next zero false true k e =
        let w : way ≡ 1 = cc in
        (record { few = omega (arith, w); headed = λ z. absurd (omega (arith, w, z)) }, omega (arith, w))
    by_next zero false false k e = cc
    by_next (suc zero) headed true k e =
        let w : way ≡ 1 = cc in
        (record { few = omega (arith, w); headed = λ z. absurd (omega (arith, w, z)) }, omega (arith, w))
    by_next (suc zero) headed false k e = cc
    by_next (suc (suc n)) headed single k e = absurd (let z = e ∙ no-way n headed single in cc)

-- where an item is found there is a search at hand
pub at-way : (next : ℕ) (old : Option CommSearch) (s : Subst) (i : Item) → slice_get (below_ahead old s) 0 ≡ Some i
    → IsAtWay next old → (1 ≤ next) × (next ≤ 2)
at-way next None s i e k = cc
at-way next (Some c) s i e k = k

-- a way is that of the search at hand, if there is one
pub is-at-way : (next : ℕ) (o : Option CommSearch) → 1 ≤ next → next ≤ 2 → IsAtWay next o
is-at-way next None few most = tt
is-at-way next (Some c) few most = (few, most)
