-- Values by ranks, and atoms over their terms.
use Rattle.std.proofs.Common.{◌≡◌, ◌+◌, Bool, true, false, ◌&&◌, ◌||◌, not, List, [], ◌∷◌}
use Rattle.std.proofs.Common.{refl, ap, sym, ◌∙◌, subst, arith}
use Rattle.std.specs.Prelude.{Some, None, sum_by, if◌then◌else◌}
use Rattle.std.specs.declared.cmp.Ordering.{Ordering}
use Rattle.std.specs.declared.cmp.Ordering.TheVariants.{Less, Equal, Greater}
use Rattle.std.specs.Ordering.{is_eq, is_ne, is_lt, nat_cmp}
use Rattle.std.specs.List.{list_all}
use Rattle.mp_term.specs.declared.term.OpId.{OpId}
use Rattle.mp_term.specs.Tree.{Tree}
use Rattle.mp_term.specs.Order.{tree_cmp}
use Rattle.mp_term.specs.OrderLaws.{ordering_then-equal}
use Rattle.mp_term.specs.Size.{node_count, all_nodes}
use Rattle.mp_term.specs.Sorting.{sorted}
use Rattle.mp_pattern.specs.Value.{Value, terms_of, same_terms}
use Rattle.mp_pattern.specs.Holds.{is_bag, comes_before, same_term, occurs}
use Rattle.mp_table.specs.Table.{Table, IsTable, terms_at, HasRanks, rank_of}
use Rattle.mp_table.specs.declared.rank.Rank.{Rank}
use Rattle.mp_table.proofs.RankLaws.{rank_order}
use Rattle.mp_cond.specs.declared.ranked.Ranked.{Ranked}
use Rattle.mp_cond.specs.declared.ranked.Ranked.TheVariants.{One, Wrap, Seq, Bag}
use Rattle.mp_cond.specs.Ranked.{app_at, value_at, wrap_of, ranks_of, IsMissing, IsIn}
use Rattle.mp_cond.proofs.Counted.{sum_by-node_count}
use Rattle.mp_cond.proofs.Missing.{occurs_in-missing_ranks, list_all-missing, same_terms-missing, missing-same_terms}
use Rattle.mp_cond.proofs.Missing.{same_terms-missing_sorted, missing-same_terms_sorted, list_all-below}

-- the terms of a value that isn't an application
pub terms_of-plain : (t : Table) (a : Ranked) → wrap_of a ≡ None → terms_of (value_at t a) ≡ terms_at t (ranks_of a)
terms_of-plain t (One r) e = refl
terms_of-plain t (Wrap op rs) e = cc
terms_of-plain t (Seq rs) e = refl
terms_of-plain t (Bag rs) e = refl

-- those of one that is
pub terms_of-wrapped : (t : Table) (a : Ranked) (op : OpId) → wrap_of a ≡ Some op
    → terms_of (value_at t a) ≡ app_at t op (ranks_of a) ∷ []
terms_of-wrapped t (One r) op e = cc
terms_of-wrapped t (Wrap p rs) op e = let same : p ≡ op = cc in ap (λ f. app_at t f rs.now ∷ []) same
terms_of-wrapped t (Seq rs) op e = cc
terms_of-wrapped t (Bag rs) op e = cc

-- it is no multiset
is_bag-wrapped : (t : Table) (a : Ranked) (op : OpId) → wrap_of a ≡ Some op → is_bag (Some (value_at t a)) ≡ false
is_bag-wrapped t (One r) op e = refl
is_bag-wrapped t (Wrap p rs) op e = refl
is_bag-wrapped t (Seq rs) op e = refl
is_bag-wrapped t (Bag rs) op e = cc

-- and the table doesn't hold it
missing : (t : Table) (a : Ranked) (op : OpId) → IsIn t a → wrap_of a ≡ Some op
    → rank_of t (app_at t op (ranks_of a)) ≡ None
missing t a op h e = subst (λ w. IsMissing t w (ranks_of a)) e h.wrap

-- how many nodes they have
pub sum_by-plain : (t : Table) (a : Ranked) → wrap_of a ≡ None
    → all_nodes (terms_at t (ranks_of a)) ≡ sum_by node_count (terms_of (value_at t a))
sum_by-plain t a e =
    ap all_nodes (sym (terms_of-plain t a e)) ∙ sym (sum_by-node_count (terms_of (value_at t a)))

pub sum_by-wrapped : (t : Table) (a : Ranked) (op : OpId) → wrap_of a ≡ Some op
    → all_nodes (terms_at t (ranks_of a)) + 1 ≡ sum_by node_count (terms_of (value_at t a))
sum_by-wrapped t a op e =
    let alone : all_nodes (terms_at t (ranks_of a)) + 1 ≡ all_nodes (app_at t op (ranks_of a) ∷ []) = omega arith in
    alone ∙ ap all_nodes (sym (terms_of-wrapped t a op e)) ∙ sym (sum_by-node_count (terms_of (value_at t a)))

-- the lists are equal, as multisets where one is
abbrev pub same_by : Bool → Bool → List Tree → List Tree → Bool
same_by p q ts us =
    if p || q then same_terms (sorted tree_cmp ts) (sorted tree_cmp us) else same_terms ts us

abbrev pub same_values : Value → Value → Bool
same_values v w = same_by (is_bag (Some v)) (is_bag (Some w)) (terms_of v) (terms_of w)

-- two applications
pub same_values-wrapped : (t : Table) (a b : Ranked) (f g : OpId) → wrap_of a ≡ Some f → wrap_of b ≡ Some g
    → is_eq (tree_cmp (app_at t f (ranks_of a)) (app_at t g (ranks_of b))) ≡ same_values (value_at t a) (value_at t b)
same_values-wrapped t a b f g e d =
    ap is_eq (sym (ordering_then-equal (tree_cmp (app_at t f (ranks_of a)) (app_at t g (ranks_of b)))))
    ∙ (λ i. same_by (sym (is_bag-wrapped t a f e) i) (sym (is_bag-wrapped t b g d) i)
    (sym (terms_of-wrapped t a f e) i) (sym (terms_of-wrapped t b g d) i))

both_fail : (b x y : Bool) → x ≡ false → y ≡ false → false ≡ (if b then x else y)
both_fail true x y e d = sym e
both_fail false x y e d = sym d

-- an application, and a value that is none
pub same_values-mixed : (t : Table) → IsTable t → (a b : Ranked) (f : OpId) → IsIn t a → IsIn t b → wrap_of a ≡ Some f
    → wrap_of b ≡ None → false ≡ same_values (value_at t a) (value_at t b)
same_values-mixed t is a b f h k e d =
    let w = app_at t f (ranks_of a) in
    both_fail (is_bag (Some (value_at t b))) _ _
    (same_terms-missing_sorted t is w (missing t a f h e) (ranks_of b) k.ranks)
    (same_terms-missing t is w (missing t a f h e) (ranks_of b) k.ranks)
    ∙ (λ i. same_by (sym (is_bag-wrapped t a f e) i) (is_bag (Some (value_at t b)))
    (sym (terms_of-wrapped t a f e) i) (sym (terms_of-plain t b d) i))

or-false : (b : Bool) → b || false ≡ b
or-false true = refl
or-false false = refl

-- and the other way round
pub same_values-mixed_back : (t : Table) → IsTable t → (a b : Ranked) (g : OpId) → IsIn t a → IsIn t b
    → wrap_of a ≡ None → wrap_of b ≡ Some g → false ≡ same_values (value_at t a) (value_at t b)
same_values-mixed_back t is a b g h k e d =
    let w = app_at t g (ranks_of b) in
    let p = is_bag (Some (value_at t a)) in
    both_fail p _ _
    (missing-same_terms_sorted t is w (missing t b g k d) (ranks_of a) h.ranks)
    (missing-same_terms t is w (missing t b g k d) (ranks_of a) h.ranks)
    ∙ ap (λ v. if v then same_terms (sorted tree_cmp (terms_at t (ranks_of a))) (w ∷ []) else
    same_terms (terms_at t (ranks_of a)) (w ∷ [])) (sym (or-false p))
    ∙ (λ i. same_by p (sym (is_bag-wrapped t b g d) i) (sym (terms_of-plain t a e) i)
    (sym (terms_of-wrapped t b g d) i))

-- no term of ts occurs in one of us
abbrev pub are_free : List Tree → List Tree → Bool
are_free ts us = list_all (λ t. list_all (λ u. not (occurs t u)) us) ts

-- terms of the table, and those of a value
pub are_free-plain : (t : Table) → IsTable t → (a b : Ranked) → IsIn t a → IsIn t b → wrap_of a ≡ None
    → are_free (terms_at t (ranks_of a)) (terms_at t (ranks_of b))
    ≡ are_free (terms_of (value_at t a)) (terms_of (value_at t b))
are_free-plain t is a b h k e =
    elim (wrap_of b) as (λ w. wrap_of b ≡ w → are_free (terms_at t (ranks_of a)) (terms_at t (ranks_of b))
    ≡ are_free (terms_of (value_at t a)) (terms_of (value_at t b))) [
      | None ↦ λ d. (λ i. are_free (sym (terms_of-plain t a e) i) (sym (terms_of-plain t b d) i))
      | Some g ↦ λ d.
          sym (list_all-below t is (app_at t g (ranks_of b)) (missing t b g k d) (ranks_of a) h.ranks g.0
          (terms_at t (ranks_of b)) refl)
          ∙ (λ i. are_free (sym (terms_of-plain t a e) i) (sym (terms_of-wrapped t b g d) i))
    ] refl

alone : (test : Tree → Bool) (t : Tree) → list_all test (t ∷ []) ≡ test t
alone test t = elim (test t) as (λ b. b && true ≡ b) [ true ↦ refl | false ↦ refl ]

is_ne-not : (o : Ordering) → is_ne o ≡ not (is_eq o)
is_ne-not Less = refl
is_ne-not Equal = refl
is_ne-not Greater = refl

-- two applications
pub are_free-wrapped : (t : Table) → IsTable t → (a b : Ranked) (f g : OpId) → IsIn t a → IsIn t b
    → wrap_of a ≡ Some f → wrap_of b ≡ Some g
    → is_ne (tree_cmp (app_at t f (ranks_of a)) (app_at t g (ranks_of b)))
    ≡ are_free (terms_of (value_at t a)) (terms_of (value_at t b))
are_free-wrapped t is a b f g h k e d =
    let w = app_at t f (ranks_of a) in
    let x = app_at t g (ranks_of b) in
    is_ne-not (tree_cmp w x)
    ∙ ap not (sym (or-false (same_term w x)))
    ∙ ap (λ v. not (same_term w x || v)) (sym (occurs_in-missing_ranks t is w (missing t a f h e) (ranks_of b) k.ranks))
    ∙ sym (alone (λ u. not (occurs w u)) x)
    ∙ sym (alone (λ v. list_all (λ u. not (occurs v u)) (x ∷ [])) w)
    ∙ (λ i. are_free (sym (terms_of-wrapped t a f e) i) (sym (terms_of-wrapped t b g d) i))

-- an application, and a value that is none
pub are_free-mixed : (t : Table) → IsTable t → (a b : Ranked) (f : OpId) → IsIn t a → IsIn t b → wrap_of a ≡ Some f
    → wrap_of b ≡ None → true ≡ are_free (terms_of (value_at t a)) (terms_of (value_at t b))
are_free-mixed t is a b f h k e d =
    let w = app_at t f (ranks_of a) in
    sym (list_all-missing t is w (missing t a f h e) (ranks_of b) k.ranks)
    ∙ sym (alone (λ v. list_all (λ u. not (occurs v u)) (terms_at t (ranks_of b))) w)
    ∙ (λ i. are_free (sym (terms_of-wrapped t a f e) i) (sym (terms_of-plain t b d) i))

-- two terms of the table compare by their ranks
pub comes_before-ranks : (t : Table) → IsTable t → (a b : Ranked) (r s : Rank) → IsIn t a → IsIn t b → a ≡ One r
    → b ≡ One s → is_lt (nat_cmp r.0 s.0) ≡ comes_before (Some (value_at t a)) (Some (value_at t b))
comes_before-ranks t is a b r s h k e d =
    let first : HasRanks t (r ∷ []) = subst (λ v. HasRanks t (ranks_of v)) e h.ranks in
    let second : HasRanks t (s ∷ []) = subst (λ v. HasRanks t (ranks_of v)) d k.ranks in
    ap is_lt (sym (rank_order t is.ascending r s first.0 second.0))
    ∙ (λ i. comes_before (Some (value_at t (sym e i))) (Some (value_at t (sym d i))))
