-- Which ways of a token read on.
use Rattle.std.proofs.Common.{◌≡◌, ◌≤◌, ◌<◌, ◌+◌, ◌-◌, ℕ, zero, suc, List, [], ◌∷◌, ◌++◌, length, take, drop, Bool}
use Rattle.std.proofs.Common.{true}
use Rattle.std.specs.Ordering.{is_eq}
use Rattle.mp_term.specs.Tree.{symbol}
use Rattle.std.proofs.Common.{false, refl, ap, sym, ◌∙◌, arith, ◌⊎◌, inl, inr}
use Rattle.std.specs.Prelude.{Option, Some, None, is_some, not, ◌&&◌, if◌then◌else◌, nat_le, nat_lt, flat_map}
use Rattle.std.specs.Prelude.{option_map, MatchBool}
use Rattle.std.specs.List.{range_with_len}
use Rattle.std.specs.Option.{option_and_then}
use Rattle.std.proofs.lemmas.Bool.Decides.{nat_tests}
use Rattle.std.proofs.lemmas.List.{length-take-le, take-map}
use Rattle.std.proofs.Math.Bool.{and-false}
use Rattle.mp_term.proofs.PiecesLaws.{same-itself}
use Rattle.mp_term.specs.Order.{tree_cmp}
use Rattle.mp_term.specs.OrderLaws.{ordering_then-equal, tree_cmp_total, tree_same}
use Rattle.mp_term.specs.Pieces.{without}
use Rattle.mp_term.specs.Signature.{Sig}
use Rattle.mp_term.specs.Tree.{Tree}
use Rattle.mp_pattern.specs.NetTokens.{NetToken, sym_token, enter_token, leave_token, wild_token, comm_token, numbered}
use Rattle.mp_pattern.specs.PatternTree.{Wildcard, dot, kind, plus, star, counted, optional, is_sequence}
use Rattle.mp_pattern.specs.PatternTree.{symbol_pattern}
use Rattle.mp_pattern.specs.Sound.{DefaultIsNormal}
use Rattle.mp_pattern.specs.Value.{Subst, Value}
use Rattle.mp_table.specs.Table.{Table, term_at, terms_at}
use Rattle.mp_table.specs.declared.rank.Rank.{Rank}
use Rattle.mp_theory.proofs.Wildcards.{final-passes}
use Rattle.mp_theory.specs.Machine.{default_passes}
use Rattle.mp_theory.specs.Solve.{given, bind}
use Rattle.mp_walk.proofs.ListLaws.{take-short}
use Rattle.mp_walk.specs.TokenMachine.{Open, rest_of_open, numbered_wildcard, told}
use Rattle.mp_walk.specs.Trails.{told_by}
use Rattle.mp_walk.specs.Ways.{Step, front_entry, is_front, front_steps, way_steps, ways_from}
use Rattle.mp_walk.specs.Ways.{HasNoWay, IsFirstWay, is_first_symbol}

-- what is left of a list without a front of it
pub without-front : (n : ℕ) (ts : List Tree) → without tree_cmp (take n ts) ts ≡ drop n ts
without-front zero ts = refl
without-front (suc n) [] = refl
without-front (suc n) (t ∷ ts) = rw (same-itself tree_cmp tree_cmp_total tree_same t) (without-front n ts)

-- the terms of a front of ranks
pub front-terms : (t : Table) (rs : List Rank) (n : ℕ) (left : List Tree) → terms_at t rs ≡ left
    → terms_at t (take n rs) ≡ take n left
front-terms t rs n left e = sym (take-map (term_at t) n rs) ∙ ap (take n) e

pub default_passes-normal : (sig : Sig) (x : Option (List ℕ)) (w : Wildcard) (ts : List Tree) → DefaultIsNormal sig w
    → default_passes sig x w ts ≡ true
default_passes-normal sig (Some x) (optional d) [] n = final-passes sig d n
default_passes-normal sig (Some x) (optional d) (u ∷ us) n = refl
default_passes-normal sig None (optional d) ts n = refl
default_passes-normal sig (Some x) dot ts n = refl
default_passes-normal sig (Some x) (kind k) ts n = refl
default_passes-normal sig (Some x) plus ts n = refl
default_passes-normal sig (Some x) star ts n = refl
default_passes-normal sig (Some x) (counted m b) ts n = refl
default_passes-normal sig None dot ts n = refl
default_passes-normal sig None (kind k) ts n = refl
default_passes-normal sig None plus ts n = refl
default_passes-normal sig None star ts n = refl
default_passes-normal sig None (counted m b) ts n = refl

-- what a front of a wildcard says, by the number of its variable
pub told-by : (sig : Sig) (f : Open) (w : Wildcard) (x : Option ℕ) (n : ℕ) (s : Subst)
    → told sig f (numbered_wildcard w x) (front_entry f.left n) s ≡ told_by sig f.under w x (take n f.left) s
told-by sig f w None n s = refl
told-by sig f w (Some v) n s = each (given sig f.under w (take n f.left))
  where
    one : (o : Option Subst) → option_and_then (λ r. Some r) o ≡ o
    one None = refl
    one (Some r) = refl

    each : (o : Option Value)
        → option_and_then (λ u. option_and_then (λ r. Some r) (bind s (numbered v) u)) o
        ≡ option_and_then (bind s (numbered v)) o
    each None = refl
    each (Some u) = one (bind s (numbered v) u)

module _ (sig : Sig) (f : Open) (fs : List Open) (s : Subst) (w : Wildcard) (x : Option ℕ) where
  -- a front that the wildcard may not take, or that is longer than what is left
  refused-front : (n : ℕ) → is_front sig f (numbered_wildcard w x) n ≡ false
      → way_steps sig f fs s (wild_token w x) n ≡ []
  refused-front n e = elim (f.collapsed && is_sequence w) as
      (λ b. (if b then [] else front_steps sig f fs s w x n) ≡ []) [ true ↦ refl | false ↦ rw e refl ]

  pub wild-none : (n : ℕ) → is_some (given sig f.under w (take n f.left)) ≡ false
      → way_steps sig f fs s (wild_token w x) n ≡ []
  wild-none n e = refused-front n (rw e (both (nat_le n (length f.left))))
    where
      both : (b : Bool) → (b && (not false && (false && default_passes sig (option_map numbered x) w (take n f.left))))
          ≡ false
      both true = refl
      both false = refl

  pub wild-beyond : (n : ℕ) → length f.left < n → way_steps sig f fs s (wild_token w x) n ≡ []
  wild-beyond n h = refused-front n (let e : nat_le n (length f.left) ≡ false = grind (arith, nat_tests) in rw e refl)

  -- what clashes with the trail
  pub wild-clash : (n : ℕ) → told_by sig f.under w x (take n f.left) s ≡ None
      → way_steps sig f fs s (wild_token w x) n ≡ []
  wild-clash n e = by_test (is_front sig f (numbered_wildcard w x) n) refl
    where
      by_test : (b : Bool) → is_front sig f (numbered_wildcard w x) n ≡ b → way_steps sig f fs s (wild_token w x) n ≡ []
      by_test false h = refused-front n h
      by_test true h = elim (f.collapsed && is_sequence w) as
          (λ b. (if b then [] else front_steps sig f fs s w x n) ≡ [])
          [ true ↦ refl | false ↦ rw h (rw (told-by sig f w x n s ∙ e) refl) ]

  -- a sequence under a collapsed operation
  pub wild-collapsed : (f.collapsed && is_sequence w) ≡ true → (n : ℕ) → way_steps sig f fs s (wild_token w x) n ≡ []
  wild-collapsed e n = rw e refl

  module _ (n : ℕ) (d : DefaultIsNormal sig w) (h : n ≤ length f.left)
      (g : is_some (given sig f.under w (take n f.left)) ≡ true) where
    may-take : is_front sig f (numbered_wildcard w x) n ≡ true
    may-take =
        let e : nat_le n (length f.left) ≡ true = grind (arith, nat_tests) in
        rw e (rw g (default_passes-normal sig (option_map numbered x) w (take n f.left) d))

    -- what is bound
    pub wild-put : (f.collapsed && is_sequence w) ≡ false → (r : Subst)
        → told_by sig f.under w x (take n f.left) s ≡ Some r → way_steps sig f fs s (wild_token w x) n
        ≡ (
          front_entry f.left n ∷ [],
          record { open_ones = rest_of_open (numbered_wildcard w x) (front_entry f.left n) f ∷ fs; trail = r },
        ) ∷ []
    wild-put p r e = rw p (rw may-take (rw (told-by sig f w x n s ∙ e) refl))

    -- either, as binding comes out
    pub wild-outcome : (f.collapsed && is_sequence w) ≡ false → (b : Bool) (r : Subst)
        → MatchBool b (told_by sig f.under w x (take n f.left) s ≡ Some r)
        (told_by sig f.under w x (take n f.left) s ≡ None)
        → MatchBool b (way_steps sig f fs s (wild_token w x) n ≡ (
          front_entry f.left n ∷ [],
          record { open_ones = rest_of_open (numbered_wildcard w x) (front_entry f.left n) f ∷ fs; trail = r },
        ) ∷ []) (way_steps sig f fs s (wild_token w x) n ≡ [])
    wild-outcome p true r e = wild-put p r e
    wild-outcome p false r e = wild-clash n e

  -- fronts that are too short or too long for the wildcard
  pub too-few : (fewest : ℕ) → ((ts : List Tree) → is_some (given sig f.under w ts) ≡ true → fewest ≤ length ts)
      → (n : ℕ) → n < fewest → way_steps sig f fs s (wild_token w x) n ≡ []
  too-few fewest least n h = wild-none n (by_test (is_some (given sig f.under w (take n f.left))) refl)
    where
      by_test : (b : Bool) → is_some (given sig f.under w (take n f.left)) ≡ b → b ≡ false
      by_test true e = absurd (omega (arith, least (take n f.left) e, take-short n f.left))
      by_test false e = refl

  pub too-many : (most : ℕ) → ((ts : List Tree) → length ts ≤ length f.left → is_some (given sig f.under w ts) ≡ true
      → length ts ≤ most)
      → (n : ℕ) → most < n → way_steps sig f fs s (wild_token w x) n ≡ []
  too-many most bound n h = elim (at_most n (length f.left)) [
    | inl l ↦ wild-none n (by_test l (is_some (given sig f.under w (take n f.left))) refl)
    | inr l ↦ wild-beyond n l
  ]
    where
      at_most : (m n : ℕ) → (m ≤ n) ⊎ (n < m)
      at_most zero n = inl (omega arith)
      at_most (suc m) zero = inr (omega arith)
      at_most (suc m) (suc n) = elim (at_most m n) [ inl l ↦ inl (omega arith) | inr l ↦ inr (omega arith) ]

      by_test : n ≤ length f.left → (b : Bool) → is_some (given sig f.under w (take n f.left)) ≡ b → b ≡ false
      by_test l true e =
          let same : length (take n f.left) ≡ n = length-take-le n f.left l in
          absurd (omega (arith, bound (take n f.left) (omega arith) e, same))
      by_test l false e = refl

-- the ways from a number on: that way, and those from the next one on
module _ (sig : Sig) (f : Open) (fs : List Open) (s : Subst) (k : NetToken) where
  nothing-beyond : (way : ℕ) → length f.left + 2 ≤ way → way_steps sig f fs s k way ≡ []
  nothing-beyond way h = by_token k
    where
      late : nat_lt way 2 ≡ false
      late = grind (arith, nat_tests)

      by_token : (k : NetToken) → way_steps sig f fs s k way ≡ []
      by_token (sym_token n) = later way h
        where
          later : (way : ℕ) → length f.left + 2 ≤ way → way_steps sig f fs s (sym_token n) way ≡ []
          later zero h = absurd (omega arith)
          later (suc way) h = refl
      by_token (leave_token g) = later way h
        where
          later : (way : ℕ) → length f.left + 2 ≤ way → way_steps sig f fs s (leave_token g) way ≡ []
          later zero h = absurd (omega arith)
          later (suc way) h = refl
      by_token (enter_token g) = rw late refl
      by_token (wild_token w x) = wild-beyond sig f fs s w x way (omega arith)
      by_token (comm_token p) = rw late refl

  pub ways-step : (way : ℕ)
      → ways_from sig f fs s k way ≡ way_steps sig f fs s k way ++ ways_from sig f fs s k (suc way)
  ways-step way = by_count (length f.left + 2 - way) refl
    where
      by_count : (n : ℕ) → length f.left + 2 - way ≡ n
          → flat_map (way_steps sig f fs s k) (range_with_len way n)
          ≡ way_steps sig f fs s k way ++ ways_from sig f fs s k (suc way)
      by_count zero e =
          let none : length f.left + 2 - suc way ≡ zero = omega arith in
          sym (ap (λ rs. rs
          ++ flat_map (way_steps sig f fs s k) (range_with_len (suc way) (length f.left + 2 - suc way)))
          (nothing-beyond way (omega arith))
          ∙ ap (λ n. flat_map (way_steps sig f fs s k) (range_with_len (suc way) n)) none)
      by_count (suc n) e =
          let less : n ≡ length f.left + 2 - suc way = omega arith in
          let next : way + 1 ≡ suc way = omega arith in
          ap (λ m. way_steps sig f fs s k way ++ flat_map (way_steps sig f fs s k) (range_with_len m n)) next
          ∙ ap (λ m. way_steps sig f fs s k way ++ flat_map (way_steps sig f fs s k) (range_with_len (suc way) m)) less

  -- where no way from the number on reads on, none does
  pub ways-none : (from : ℕ) → HasNoWay sig f fs s k from → ways_from sig f fs s k from ≡ []
  ways-none from h = all-none (length f.left + 2 - from) from (omega arith)
    where
      all-none : (n m : ℕ) → from ≤ m → flat_map (way_steps sig f fs s k) (range_with_len m n) ≡ []
      all-none zero m l = refl
      all-none (suc n) m l =
          ap (λ rs. rs ++ flat_map (way_steps sig f fs s k) (range_with_len (m + 1) n)) (h m l)
          ∙ all-none n (m + 1) (omega arith)

  -- the first way from the number on, and those behind it
  pub ways-first : (from way : ℕ) (r : Step) → IsFirstWay sig f fs s k from way r
      → ways_from sig f fs s k from ≡ r ∷ ways_from sig f fs s k (suc way)
  ways-first from way r a = go (way - from) from refl (omega arith) a.onward
    where
      go : (d m : ℕ) → d ≡ way - m → from ≤ m → m ≤ way
          → ways_from sig f fs s k m ≡ r ∷ ways_from sig f fs s k (suc way)
      go zero m e l u =
          let same : m ≡ way = omega arith in
          ap (ways_from sig f fs s k) same ∙ ways-step way ∙ ap (λ rs. rs ++ ways_from sig f fs s k (suc way)) a.step
      go (suc d) m e l u =
          ways-step m ∙ ap (λ rs. rs ++ ways_from sig f fs s k (suc m)) (a.earlier m l (omega arith))
          ∙ go d (suc m) (omega arith) (omega arith) (omega arith)

-- a symbol that isn't the first term that is left
pub no-symbol : (sig : Sig) (f : Open) (fs : List Open) (s : Subst) (n : List ℕ) → is_first_symbol n f.left ≡ false
    → HasNoWay sig f fs s (sym_token n) 0
no-symbol sig f fs s n e zero l = rw (by_left f.left refl e) refl
  where
    by_left : (ts : List Tree) → f.left ≡ ts → is_first_symbol n ts ≡ false
        → is_front sig f (symbol_pattern n) 1 ≡ false
    by_left [] h e = rw h refl
    by_left (t ∷ ts) h e = rw h (rw (ap is_eq (ordering_then-equal (tree_cmp t (symbol n))) ∙ e) (and-false _))
no-symbol sig f fs s n e (suc way) l = refl
