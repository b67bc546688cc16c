-- Where what a cancellation takes stands nowhere, its rule admits nothing.
use Rattle.std.proofs.Common.{◌≡◌, ◌∙◌, ap, sym, refl, subst, ℕ, suc, ◌+◌, ◌≤◌, Bool, true, false, ◌&&◌}
use Rattle.std.proofs.Common.{List, [], ◌∷◌, ◌++◌, length, arith, inl, inr, append-nil, cond}
use Rattle.std.specs.Prelude.{Some, slice_get, if◌then◌else◌}
use Rattle.std.specs.declared.cmp.Ordering.TheVariants.{Less, Equal, Greater}
use Rattle.std.specs.Ordering.{is_eq}
use Rattle.std.proofs.Math.Bool.{and-false}
use Rattle.mp_term.specs.Tree.{Tree, symbol, app, trees}
use Rattle.mp_term.specs.Order.{tree_cmp}
use Rattle.mp_term.specs.OrderLaws.{tree_cmp_total, tree_same}
use Rattle.mp_term.specs.Signature.{Sig, is_assoc, is_comm}
use Rattle.mp_term.specs.Normal.{IsNormal}
use Rattle.mp_term.specs.NormalTest.{has_head}
use Rattle.mp_term.proofs.Sorting.{tally, hit, hit_itself, Ascends}
use Rattle.mp_pattern.specs.Admission.{Rule, AreLeast}
use Rattle.mp_pattern.specs.Contribution.{contribution}
use Rattle.mp_pattern.specs.Fits.{Table, Fits, ByValue, TakesBy, joined, arranged, no_sequence}
use Rattle.mp_pattern.specs.PatternTree.{dot, plus, star, Pattern, no_patterns, more_patterns}
use Rattle.mp_pattern.specs.PatternTree.{symbol_pattern, app_pattern, wild_pattern, patterns}
use Rattle.mp_pattern.specs.Value.{one, Subst, same_name}
use Rattle.mp_theory.specs.OneList.{one_list}
use Rattle.mp_theory.proofs.OneListLaws.{one_list-is}
use Rattle.mp_rewrite.specs.declared.cancellation.Taken.TheVariants.{Symbol, Pair, Under}
use Rattle.mp_rewrite.specs.declared.cancellation.Cancellation.{Cancellation}
use Rattle.mp_rewrite.specs.Cancellation.{Cancels, AreApart, taking, taking_rest, StandsNowhere, HasNoPair, HasNoUnder}
use Rattle.mp_rewrite.proofs.LeastItems.{front, no-more, contribution-either, contribution-alone, dot-value}
use Rattle.mp_rewrite.proofs.CancellationItems.{HasRest, IsForRest, star-rest, plus-rest, made, not-plain, under-taken}
use Rattle.mp_rewrite.proofs.CancellationSteps.{hit-apart, none-before, not_more}
use Rattle.mp_rewrite.proofs.PutBack.{arguments-pass, ascends-from, tally-append}

-- where no table fits there is no substitution
module _ (sig : Sig) (r : Rule) (t : Tree) (none : (s : Subst) (W : Table) → Fits sig r.pattern t s W → ⊥) where
  none-least : (ss : List Subst) (Ts : List Table) → AreLeast sig r.pattern t ss Ts → ss ≡ []
  none-least [] Ts h = refl
  none-least (s ∷ ss) [] h = absurd h
  none-least (s ∷ ss) (T ∷ Ts) h = absurd (none s T h.0.fits)

  one_list-none : IsNormal sig t → one_list sig r t ≡ []
  one_list-none n = let all = one_list-is sig r t n in none-least (one_list sig r t) all.tables all.least

-- any list will do for the rest
abbrev a_rest : List Tree
a_rest = symbol [] ∷ []

module _ (sig : Sig) (g : ℕ) (ts : List Tree) (normal : IsNormal sig (app g (trees ts))) (comm : is_comm sig g ≡ true)
    (leaves : Bool) where
  for-rest : IsForRest sig g a_rest (taking_rest leaves)
  for-rest = elim leaves as (λ b. IsForRest sig g a_rest (if b then plus else star)) [
    | true ↦ plus-rest sig g a_rest comm (λ e. cc)
    | false ↦ star-rest sig g a_rest comm
  ]

  has-rest : HasRest sig g ts a_rest (taking_rest leaves)
  has-rest = record {
    comm = comm;
    normal = normal;
    up = ascends-from ts ((arguments-pass sig g ts normal).1 comm);
    rest_up = (tt, tt);
    rest_normal = (refl, tt);
    for_rest = for-rest;
  }

  module _ (x y : List ℕ) where
    abbrev rest_of : Pattern
    rest_of = wild_pattern (taking_rest leaves) (Some y)

    abbrev dot_of : Pattern
    dot_of = wild_pattern dot (Some x)

    -- what two children and the rest take
    record AreTaken (s : Subst) (p q : Pattern) : Type 0 where
      k : List Tree
      l : List Tree
      m : List Tree
      T : Table
      U : Table
      first : TakesBy sig (ByValue sig s) (Some g) p k T
      second : TakesBy sig (ByValue sig s) (Some g) q l U
      counts : (z : Tree) → tally tree_cmp z ts ≡ tally tree_cmp z k + (tally tree_cmp z l + tally tree_cmp z m)

    are-taken : (s : Subst) (W : Table) (p q : Pattern)
        → (no_sequence (more_patterns p (more_patterns q (more_patterns rest_of no_patterns))) ≡ true → ⊥)
        → Fits sig (app_pattern g (more_patterns p (more_patterns q (more_patterns rest_of no_patterns))))
        (app g (trees ts)) s W → AreTaken s p q
    are-taken s W p q plain f = elim f.takes as (λ o. AreTaken s p q) [
      | inl h ↦
          let line = ByValue sig s in
          let p1 = front sig line g p (more_patterns q (more_patterns rest_of no_patterns)) h.takes h.tables h.children
          in
          let p2 = front sig line g q (more_patterns rest_of no_patterns) p1.lists p1.tables p1.others in
          let p3 = front sig line g rest_of no_patterns p2.lists p2.tables p2.others in
          let p4 = no-more sig line g p3.lists p3.tables p3.others in
          let lists : h.takes ≡ p1.list ∷ p2.list ∷ p3.list ∷ [] =
          p1.all_lists ∙ ap (λ l. p1.list ∷ l) p2.all_lists ∙ ap (λ l. p1.list ∷ p2.list ∷ l) p3.all_lists
          ∙ ap (λ l. p1.list ∷ p2.list ∷ p3.list ∷ l) p4.0 in
          record {
            k = p1.list;
            l = p2.list;
            m = p3.list;
            T = p1.table;
            U = p2.table;
            first = p1.takes;
            second = p2.takes;
            counts = λ z.
                made sig g ts a_rest (taking_rest leaves) has-rest (p1.list ++ (p2.list ++ (p3.list ++ [])))
                (h.node ∙ ap (λ ls. app g (trees (arranged sig (Some g) (joined ls))) ∷ []) lists) z
                ∙ ap (λ l. tally tree_cmp z (p1.list ++ (p2.list ++ l))) (append-nil p3.list)
                ∙ tally-append z p1.list (p2.list ++ p3.list)
                ∙ ap (λ n. tally tree_cmp z p1.list + n) (tally-append z p2.list p3.list);
          }
      | inr h ↦ absurd (plain h.plain)
    ]

    -- ---- two equal terms

    twice : (k m : List Tree) → 1 ≤ length k → ((z : Tree) → tally tree_cmp z ts ≤ 1)
        → ((z : Tree) → tally tree_cmp z ts ≡ tally tree_cmp z k + (tally tree_cmp z k + tally tree_cmp z m)) → ⊥
    twice [] m n none c = omega (arith, n)
    twice (u ∷ k) m n none c = omega (arith, none u, c u, hit_itself tree_cmp tree_cmp_total u)

    pair-nothing : ((z : Tree) → tally tree_cmp z ts ≤ 1) → (s : Subst) (W : Table)
        → Fits sig (app_pattern g (more_patterns dot_of (more_patterns dot_of (more_patterns rest_of no_patterns))))
        (app g (trees ts)) s W → ⊥
    pair-nothing none s W f =
        let t = are-taken s W dot_of dot_of
        (not-plain sig g ts a_rest (taking_rest leaves) has-rest (Some y)) f in
        let u = dot-value sig g t.first.0.0 t.k t.first.0.2 in
        let v = dot-value sig g t.second.0.0 t.l t.second.0.2 in
        let q : Some (one u.0) ≡ Some (one v.0) =
        ap Some (sym u.1) ∙ sym t.first.0.1 ∙ t.second.0.1 ∙ ap Some v.1 in
        let same : u.0 ≡ v.0 = cc in
        let r : Some t.l ≡ Some t.k = sym v.2 ∙ ap (contribution sig (Some g)) (sym same) ∙ u.2 in
        let alike : t.l ≡ t.k = cc in
        let some : 1 ≤ length t.k = elim (contribution-either sig g u.0 t.k u.2)
        [ inl e ↦ omega (arith, ap length e) | inr e ↦ omega (arith, e) ] in
        twice t.k t.m some none
        (λ z. t.counts z ∙ ap (λ l. tally tree_cmp z t.k + (tally tree_cmp z l + tally tree_cmp z t.m)) alike)

    -- ---- an application to one term, and that term

    under-nothing : same_name x y ≡ false → (h : ℕ) → is_assoc sig h ≡ false
        → ((v : Tree) → 1 ≤ tally tree_cmp (app h (trees (v ∷ []))) ts
        → (has_head g v ≡ false) × (tally tree_cmp v ts ≡ 0)) → (s : Subst) (W : Table)
        → Fits sig (app_pattern g (more_patterns (app_pattern h (more_patterns dot_of no_patterns))
        (more_patterns dot_of (more_patterns rest_of no_patterns)))) (app g (trees ts)) s W → ⊥
    under-nothing apart h flat none s W f =
        let t = are-taken s W (app_pattern h (more_patterns dot_of no_patterns)) dot_of
        (not-plain sig g ts a_rest (taking_rest leaves) has-rest (Some y)) f in
        let alone : contribution sig (Some g) (symbol []) ≡ Some (symbol [] ∷ []) =
        contribution-alone sig g (symbol []) (and-false (is_assoc sig g)) in
        let a = under-taken sig g ts a_rest (taking_rest leaves) has-rest x y (symbol []) apart refl alone h flat s t.k
        t.T t.first in
        let v = a.0 in
        let o = dot-value sig g t.second.0.0 t.l t.second.0.2 in
        let q : Some (one v) ≡ Some (one o.0) = sym a.1 ∙ t.second.0.1 ∙ ap Some o.1 in
        let same : v ≡ o.0 = cc in
        let takes : contribution sig (Some g) v ≡ Some t.l = ap (contribution sig (Some g)) same ∙ o.2 in
        let nothing = none v (omega (
          arith,
          t.counts (app h (trees (v ∷ []))),
          ap (tally tree_cmp (app h (trees (v ∷ [])))) a.2,
          hit_itself tree_cmp tree_cmp_total (app h (trees (v ∷ []))),
        )) in
        let i : Some (v ∷ []) ≡ Some t.l =
        sym (contribution-alone sig g v (ap (λ c. is_assoc sig g && c) nothing.0 ∙ and-false (is_assoc sig g)))
        ∙ takes in
        let taken : t.l ≡ v ∷ [] = cc in
        omega (arith, t.counts v, nothing.1, ap (tally tree_cmp v) taken, hit_itself tree_cmp tree_cmp_total v)

    -- ---- a symbol

    symbol-nothing : (n : List ℕ) → tally tree_cmp (symbol n) ts ≡ 0 → (s : Subst) (W : Table)
        → Fits sig (app_pattern g (more_patterns (symbol_pattern n) (more_patterns rest_of no_patterns)))
        (app g (trees ts)) s W → ⊥
    symbol-nothing n none s W f = elim f.takes as (λ o. ⊥) [
      | inl h ↦
          let line = ByValue sig s in
          let p1 = front sig line g (symbol_pattern n) (more_patterns rest_of no_patterns) h.takes h.tables h.children
          in
          let p2 = front sig line g rest_of no_patterns p1.lists p1.tables p1.others in
          let p3 = no-more sig line g p2.lists p2.tables p2.others in
          let lists : h.takes ≡ (symbol n ∷ []) ∷ p2.list ∷ [] =
          p1.all_lists ∙ ap (λ l. p1.list ∷ l) p2.all_lists ∙ ap (λ l. p1.list ∷ p2.list ∷ l) p3.0
          ∙ ap (λ l. l ∷ p2.list ∷ []) p1.takes.0 in
          let counts : tally tree_cmp (symbol n) ts ≡ tally tree_cmp (symbol n) (symbol n ∷ (p2.list ++ [])) =
          made sig g ts a_rest (taking_rest leaves) has-rest (symbol n ∷ (p2.list ++ []))
          (h.node ∙ ap (λ ls. app g (trees (arranged sig (Some g) (joined ls))) ∷ []) lists) (symbol n) in
          omega (arith, none, counts, hit_itself tree_cmp tree_cmp_total (symbol n))
      | inr h ↦ absurd (not-plain sig g ts a_rest (taking_rest leaves) has-rest (Some y) h.plain)
    ]

-- ---- the rule

pub one_list-nowhere : (sig : Sig) (r : Rule) (d : Cancellation) (ts : List Tree)
    → IsNormal sig (app d.op.0 (trees ts)) → is_comm sig d.op.0 ≡ true → Cancels r d
    → StandsNowhere sig d.op.0 ts d.taken → one_list sig r (app d.op.0 (trees ts)) ≡ []
one_list-nowhere sig r d ts normal comm c none = one_list-none sig r (app d.op.0 (trees ts))
    (λ s W f. nothing s W (subst (λ p. Fits sig p (app d.op.0 (trees ts)) s W) c.pattern f)) normal
  where
    nothing : (s : Subst) (W : Table) → Fits sig (app_pattern d.op.0
        (patterns (taking d.taken c.x ++ wild_pattern (taking_rest d.leaves) (Some c.y) ∷ [])))
        (app d.op.0 (trees ts)) s W → ⊥
    nothing s W = elim d.taken as (λ k. AreApart k c.x c.y → StandsNowhere sig d.op.0 ts k
        → Fits sig (app_pattern d.op.0
        (patterns (taking k c.x ++ wild_pattern (taking_rest d.leaves) (Some c.y) ∷ [])))
        (app d.op.0 (trees ts)) s W → ⊥) [
          | Symbol n ↦ λ a o. symbol-nothing sig d.op.0 ts normal comm d.leaves c.x c.y n.now o s W
          | Pair ↦ λ a o. pair-nothing sig d.op.0 ts normal comm d.leaves c.x c.y o s W
          | Under h ↦ λ a o. under-nothing sig d.op.0 ts normal comm d.leaves c.x c.y a h.0 o.0 o.1 s W
        ] c.apart none

-- ---- where they stand

hit-few : (z t : Tree) → hit tree_cmp z t ≤ 1
hit-few z t = elim (tree_cmp z t) as (λ o. cond (is_eq o) 1 0 ≤ 1)
    [ Less ↦ omega arith | Equal ↦ omega arith | Greater ↦ omega arith ]

-- where no tree stands at two places in turn, none stands there twice
pub no-pair : (ts : List Tree) → Ascends tree_cmp ts → HasNoPair ts → (z : Tree) → tally tree_cmp z ts ≤ 1
no-pair [] a h z = omega arith
no-pair (t ∷ []) a h z = omega (arith, hit-few z t)
no-pair (t ∷ u ∷ ts) a h z =
    let rest = no-pair (u ∷ ts) a.1 (λ k l. h (suc k) (omega (arith, l))) z in
    elim (tree_cmp z t) as (λ o. tree_cmp z t ≡ o → tally tree_cmp z (t ∷ u ∷ ts) ≤ 1) [
      | Less ↦ λ q. omega (arith, rest, hit-apart z t (λ p. less-equal (sym q ∙ p)))
      | Equal ↦ λ q.
          let s : z ≡ t = tree_same z t q in
          let below : tree_cmp z u ≡ Less = ap (λ v. tree_cmp v u) s
          ∙ not_more t u a.0.0 (λ p. h 0 (omega arith) (ap Some p)) in
          omega (arith, hit-few z t, none-before z u ts below a.1.0)
      | Greater ↦ λ q. omega (arith, rest, hit-apart z t (λ p. greater-equal (sym q ∙ p)))
    ] refl
  where
    less-equal : Less ≡ Equal → ⊥
    less-equal e = cc

    greater-equal : Greater ≡ Equal → ⊥
    greater-equal e = cc

-- a tree that stands there stands at a place
place-of : (ts : List Tree) (z : Tree) → 1 ≤ tally tree_cmp z ts → (k : ℕ) × (slice_get ts k ≡ Some z)
place-of [] z n = absurd (omega (arith, n))
place-of (t ∷ ts) z n =
    elim (tree_cmp z t) as (λ o. tree_cmp z t ≡ o → (k : ℕ) × (slice_get (t ∷ ts) k ≡ Some z)) [
      | Less ↦ λ q.
          let r = place-of ts z (omega (arith, n, hit-apart z t (λ p. let w : Less ≡ Equal = sym q ∙ p in cc))) in
          (suc r.0, r.1)
      | Equal ↦ λ q. (0, ap Some (sym (tree_same z t q)))
      | Greater ↦ λ q.
          let r = place-of ts z (omega (arith, n, hit-apart z t (λ p. let w : Greater ≡ Equal = sym q ∙ p in cc))) in
          (suc r.0, r.1)
    ] refl

pub no-under : (f k : ℕ) (ts : List Tree) → HasNoUnder f k ts → (v : Tree)
    → 1 ≤ tally tree_cmp (app k (trees (v ∷ []))) ts → (has_head f v ≡ false) × (tally tree_cmp v ts ≡ 0)
no-under f k ts h v n = let p = place-of ts (app k (trees (v ∷ []))) n in h p.0 v p.1
