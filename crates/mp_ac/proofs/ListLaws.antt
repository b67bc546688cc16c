-- The list of a commutative node: its items are those of the node, each once, and they depend on the values of its own
-- variables alone.
use Rattle.std.proofs.Common.{◌≡◌, ℕ, Bool, true, false, List, [], ◌∷◌, map, length, inl, inr, refl, ap, sym}
use Rattle.std.proofs.Common.{◌∙◌, subst, append-nil, arith}
use Rattle.std.specs.Prelude.{⊤, Option, Some, None, filter_map, option_map, option_and_then}
use Rattle.std.specs.declared.cmp.Ordering.TheVariants.{Less}
use Rattle.std.specs.List.{AllByRecursion, cons_option}
use Rattle.std.specs.List.Sorted.{IsStrictlySortedBy}
use Rattle.std.proofs.lemmas.Cmp.{lists_total}
use Rattle.mp_term.specs.Search.{In, words, Accepts}
use Rattle.mp_term.specs.Tree.{Tree}
use Rattle.mp_term.specs.Signature.{Sig}
use Rattle.mp_term.proofs.ListingLaws.{all_in, irreflexive}
use Rattle.mp_term.proofs.SearchLaws.{in-map, from_in-map, all-from_in, words-sound}
use Rattle.mp_pattern.specs.PatternTree.{Patterns, app_pattern}
use Rattle.mp_pattern.specs.Size.{all_pattern_nodes}
use Rattle.mp_pattern.specs.Value.{Value, Subst, value_of, same_name, merge}
use Rattle.mp_pattern.specs.Variables.{uses, all_uses, variables}
use Rattle.mp_pattern.specs.Fits.{Table}
use Rattle.mp_pattern.specs.DerivationOrder.{table_cmp}
use Rattle.mp_pattern.proofs.NameLaws.{same_name-is}
use Rattle.mp_theory.specs.Solve.{Taken, bind, given, solve}
use Rattle.mp_theory.specs.Frames.{Next, settle}
use Rattle.mp_theory.specs.Machine.{is_ended, onward, takes, choices}
use Rattle.mp_theory.specs.Items.{items}
use Rattle.mp_theory.specs.OneList.{Item, item_tables}
use Rattle.mp_theory.proofs.FirstItems.{in-firsts_after}
use Rattle.mp_theory.proofs.Wildcards.{IsFine}
use Rattle.mp_theory.proofs.Tables.{accounts, accounts-settled, entry_cmp_total}
use Rattle.mp_theory.proofs.TrailLaws.{shape-tested}
use Rattle.mp_theory.proofs.ItemTables.{items-exact}
use Rattle.mp_theory.proofs.SecondSearch.{pair, items-is, items-ascending}
use Rattle.mp_search.specs.Reading.{set}
use Rattle.mp_search.proofs.SubstLaws.{bind-set, value_of-set, value_of-set_other}
use Rattle.mp_ac.specs.Children.{AreArguments}
use Rattle.mp_ac.specs.CommItems.{SameValues, SameOn, NoneTwice, IsTrail, IsCommItem, AreCommItems}
use Rattle.mp_ac.specs.CommList.{below, comm_list, SameItems}
use Rattle.mp_ac.proofs.Taken.{trail-solved}
use Rattle.mp_ac.proofs.Below as below_laws

-- what ascends strictly has nothing twice
pub once-ascending : (Ts : List Table) → IsStrictlySortedBy table_cmp Ts → NoneTwice Ts
unfolding IsStrictlySortedBy
once-ascending [] h = tt
once-ascending (T ∷ Ts) h = (
  λ i. irreflexive table_cmp (lists_total entry_cmp_total) T
      (all_in (λ V. table_cmp T V ≡ Less) Ts T h.0 i),
  once-ascending Ts h.1,
)

-- the names of takes
abbrev named : List Taken → List (List ℕ)
named ts = map (λ u. u.name) (map (λ t. t.by) ts)

-- names that are equal on the values of xs stay so where a name gets a value
set-same : (xs : List (List ℕ)) (s r : Subst) (x : List ℕ) (v : Value) → SameOn xs s r
    → SameOn xs (set s x v) (set r x v)
set-same xs s r x v h y i =
    elim (same_name x y) as (λ b. same_name x y ≡ b → value_of (set s x v) y ≡ value_of (set r x v) y) [
      | true ↦ λ e. subst (λ z. value_of (set s x v) z ≡ value_of (set r x v) z) (same_name-is x y e)
          (value_of-set s x v ∙ sym (value_of-set r x v))
      | false ↦ λ e. value_of-set_other s x y v e ∙ h y i ∙ sym (value_of-set_other r x y v e)
    ] refl

-- both are none, or have the same values of xs
abbrev SameSolved : List (List ℕ) → Option Subst → Option Subst → Type 0
SameSolved xs None None = ⊤
SameSolved xs (Some a) (Some b) = SameOn xs a b
SameSolved xs _ _ = ⊥

-- what a name merges to
abbrev merged : Option Value → Value → Option Value
merged o w = elim o [ None ↦ Some w | Some u ↦ merge u w ]

bind-same : (xs : List (List ℕ)) (s r : Subst) (x : List ℕ) (w : Value) → In x xs → SameOn xs s r
    → SameSolved xs (bind s x w) (bind r x w)
bind-same xs s r x w i h =
    subst (λ o. SameSolved xs o (bind r x w)) (sym (bind-set s x w))
    (subst (λ o. SameSolved xs (option_map (set s x) (merged (value_of s x) w)) o) (sym (bind-set r x w))
    (subst (λ o. SameSolved xs (option_map (set s x) (merged (value_of s x) w)) (option_map (set r x) (merged o w)))
    (h x i)
    (elim (merged (value_of s x) w) as (λ o. SameSolved xs (option_map (set s x) o) (option_map (set r x) o))
    [ None ↦ tt | Some v ↦ set-same xs s r x v h ])))

module _ (sig : Sig) where
  -- takes by names of xs are solved alike over substitutions with the same values of xs
  solve-same : (xs : List (List ℕ)) (s r : Subst) (ts : List Taken) → AllByRecursion (λ x. In x xs) (named ts)
      → SameOn xs s r → SameSolved xs (solve sig s ts) (solve sig r ts)
  solve-same xs s r [] a h = h
  solve-same xs s r (t ∷ ts) a h =
      elim (given sig t.by.under t.by.wildcard t.terms) as
      (λ o. SameSolved xs (option_and_then (λ w. option_and_then (λ q. solve sig q ts) (bind s t.by.name w)) o)
      (option_and_then (λ w. option_and_then (λ q. solve sig q ts) (bind r t.by.name w)) o)) [
        | None ↦ tt
        | Some w ↦ both (bind s t.by.name w) (bind r t.by.name w) (bind-same xs s r t.by.name w a.0 h)
            (λ p q k. solve-same xs p q ts a.1 k)
      ]
    where
      both : (o p : Option Subst) → SameSolved xs o p
          → ((q w : Subst) → SameOn xs q w → SameSolved xs (solve sig q ts) (solve sig w ts))
          → SameSolved xs (option_and_then (λ q. solve sig q ts) o) (option_and_then (λ q. solve sig q ts) p)
      both None None k go = tt
      both (Some q) (Some w) k go = go q w k
      both None (Some w) k go = absurd k
      both (Some q) None k go = absurd k

  -- and they leave the values of other names
  solve-others : (s r : Subst) (ts : List Taken) (x : List ℕ) → (In x (named ts) → ⊥) → solve sig s ts ≡ Some r
      → value_of r x ≡ value_of s x
  solve-others s r [] x never e = let p : s ≡ r = cc in ap (λ q. value_of q x) (sym p)
  solve-others s r (t ∷ ts) x never e =
      by_value (given sig t.by.under t.by.wildcard t.terms) refl e (λ q k. solve-others q r ts x (λ i. never (inr i)) k)
    where
      other : same_name t.by.name x ≡ false
      other = elim (same_name t.by.name x) as (λ b. same_name t.by.name x ≡ b → b ≡ false) [
        | true ↦ λ k. absurd (never (inl (sym (same_name-is t.by.name x k))))
        | false ↦ λ k. refl
      ] refl

      by_merge : (w : Value) (o : Option Value)
          → option_and_then (λ q. solve sig q ts) (option_map (set s t.by.name) o) ≡ Some r
          → ((q : Subst) → solve sig q ts ≡ Some r → value_of r x ≡ value_of q x) → value_of r x ≡ value_of s x
      by_merge w None k go = cc
      by_merge w (Some v) k go = go (set s t.by.name v) k ∙ value_of-set_other s t.by.name x v other

      by_value : (o : Option Value) → given sig t.by.under t.by.wildcard t.terms ≡ o
          → option_and_then (λ w. option_and_then (λ q. solve sig q ts) (bind s t.by.name w)) o ≡ Some r
          → ((q : Subst) → solve sig q ts ≡ Some r → value_of r x ≡ value_of q x) → value_of r x ≡ value_of s x
      by_value None k f go = cc
      by_value (Some w) k f go = by_merge w (merged (value_of s t.by.name) w)
          (ap (option_and_then (λ q. solve sig q ts)) (sym (bind-set s t.by.name w)) ∙ f) go

-- the items are those of the search, in an order of their own
pub record IsSearched (is js : List Item) : Type 0 where
  pub from : (i : Item) → In i is → (j : Item) × In j js × (i.0 ≡ j.0) × SameValues i.1 j.1
  pub found : (j : Item) → In j js → (i : Item) × In i is × (i.0 ≡ j.0) × SameValues i.1 j.1
  pub once : NoneTwice (item_tables is)

module _ (sig : Sig) (g : ℕ) (ps : Patterns) (args : List Tree) (owes : Bool) where
  abbrev place : Next
  place = settle (below g ps args owes)

  abbrev own : List (List ℕ)
  own = variables (app_pattern g ps)

  -- the takes of an accepted table are by the variables below the node
  named-own : (T : Table) → Accepts (choices sig) onward is_ended place T → (x : List ℕ) → In x (named (takes place T))
      → In x own
  named-own T a x i =
      let same = (accounts-settled sig (below g ps args owes) T a (accounts sig place T a)).1 in
      in-firsts_after same_name same_name-is [] (map (λ u. u.name) (uses None (app_pattern g ps))) x
      (inr (subst (λ us. In x (map (λ u. u.name) us)) (same ∙ append-nil (all_uses (Some g) ps)) i))

  -- the items over substitutions with the same values of the node's variables
  items-same : (s r : Subst) → SameOn own s r → (Ts : List Table)
      → ((T : Table) → In T Ts → Accepts (choices sig) onward is_ended place T)
      → SameItems own (filter_map (λ T. option_map (pair T) (solve sig s (takes place T))) Ts)
      (filter_map (λ T. option_map (pair T) (solve sig r (takes place T))) Ts)
  items-same s r h [] a = tt
  items-same s r h (T ∷ Ts) a =
      both (solve sig s (takes place T)) (solve sig r (takes place T))
      (solve-same sig own s r (takes place T)
      (all-from_in (λ x. In x own) (named (takes place T)) (λ x i. named-own T (a T (inl refl)) x i)) h)
      (items-same s r h Ts (λ V i. a V (inr i)))
    where
      both : (o p : Option Subst) → SameSolved own o p
          → SameItems own (filter_map (λ V. option_map (pair V) (solve sig s (takes place V))) Ts)
          (filter_map (λ V. option_map (pair V) (solve sig r (takes place V))) Ts)
          → SameItems own
          (cons_option (option_map (pair T) o) (filter_map (λ V. option_map (pair V) (solve sig s (takes place V))) Ts))
          (cons_option (option_map (pair T) p) (filter_map (λ V. option_map (pair V) (solve sig r (takes place V))) Ts))
      both None None k rest = rest
      both (Some q) (Some w) k rest = (refl, k, rest)
      both None (Some w) k rest = absurd k
      both (Some q) None k rest = absurd k

  -- the list is the same but for the values of others
  pub comm_list-same : (s r : Subst) → SameOn own s r
      → SameItems own (comm_list sig g ps args owes s) (comm_list sig g ps args owes r)
  unfolding comm_list
  comm_list-same s r h =
      let k = all_pattern_nodes ps in
      subst (λ is. SameItems own is (items sig k place r)) (sym (items-is sig k place s))
      (subst (SameItems own (filter_map (λ T. option_map (pair T) (solve sig s (takes place T)))
      (words (choices sig) onward is_ended k place))) (sym (items-is sig k place r))
      (items-same s r h (words (choices sig) onward is_ended k place)
      (λ T i. (words-sound (choices sig) onward is_ended k place T i).1)))

  -- an item is accepted and solved
  pub item-parts : (s : Subst) (i : Item) → In i (comm_list sig g ps args owes s)
      → Accepts (choices sig) onward is_ended place i.0 × (solve sig s (takes place i.0) ≡ Some i.1)
  unfolding comm_list
  item-parts s i m =
      let e = (items-exact sig (all_pattern_nodes ps) place s i.0 i.1).0 m in
      ((shape-tested sig place i.0).1 e.1, e.2)

  -- the trail of an item has the values of others as they were
  pub comm_list-others : (s : Subst) (i : Item) (x : List ℕ) → In i (comm_list sig g ps args owes s) → (In x own → ⊥)
      → value_of i.1 x ≡ value_of s x
  comm_list-others s i x m never =
      let e = item-parts s i m in
      solve-others sig s i.1 (takes place i.0) x (λ n. never (named-own i.0 e.0 x n)) e.1

  module _ (arguments : AreArguments sig g args) where
    fine : IsFine sig (Some g) args
    fine = (below_laws.arguments-fine sig g args).0 arguments

    -- it is a trail again
    pub comm_list-trail : (s : Subst) (i : Item) → IsTrail sig s → In i (comm_list sig g ps args owes s)
        → IsTrail sig i.1
    comm_list-trail s i t m =
        let e = item-parts s i m in
        trail-solved sig s i.1 (takes place i.0) t (below_laws.takes-are_final sig g ps args owes fine i.0 e.0) e.1

    -- a table is of the list exactly where it is accepted and solved
    tables-exact : (s : Subst) (T : Table) → In T (item_tables (items sig (all_pattern_nodes ps) place s))
        → (r : Subst) × In {X = Item} (T, r) (items sig (all_pattern_nodes ps) place s)
    tables-exact s T i =
        let m = from_in-map (λ j. j.0) T (items sig (all_pattern_nodes ps) place s) i in
        (m.0.1, subst (λ V. In {X = Item} (V, m.0.1) (items sig (all_pattern_nodes ps) place s)) (sym m.1) m.2)

    -- the items of the list are those of the node, each once
    pub comm_list-items : (s : Subst) → IsTrail sig s
        → AreCommItems sig g ps args owes s (comm_list sig g ps args owes s)
    unfolding comm_list
    comm_list-items s t = record {
      exactly = λ T. (
        λ i.
            let m = tables-exact s T i in
            let e = (items-exact sig (all_pattern_nodes ps) place s T m.0).0 m.1 in
            let j = below_laws.solved-item sig g ps args owes fine s T m.0 t ((shape-tested sig place T).1 e.1) e.2 in
            (j.0, j.1),
        λ p.
            let a = below_laws.item-solved sig g ps args owes fine s T p.0 t p.1 in
            in-map (λ j. j.0) (T, a.1.0) (items sig (all_pattern_nodes ps) place s)
            ((items-exact sig (all_pattern_nodes ps) place s T a.1.0).1
            (long T a.0, (shape-tested sig place T).0 a.0, a.1.1)),
      );
      trails = all-from_in (λ i. (r : Subst) × IsCommItem sig g ps args owes s i.0 r × SameValues i.1 r)
          (items sig (all_pattern_nodes ps) place s) (λ i m.
          let e = (items-exact sig (all_pattern_nodes ps) place s i.0 i.1).0 m in
          let j = below_laws.solved-item sig g ps args owes fine s i.0 i.1 t ((shape-tested sig place i.0).1 e.1) e.2 in
          (j.0, j.1, λ x. sym (j.2 x)));
      once = once-ascending (item_tables (items sig (all_pattern_nodes ps) place s))
          (items-ascending sig (all_pattern_nodes ps) place s);
    }
      where
        long : (T : Table) → Accepts (choices sig) onward is_ended place T → length T ≡ all_pattern_nodes ps
        long T a = omega (arith, (accounts-settled sig (below g ps args owes) T a (accounts sig place T a)).0)

    -- and they are those of the search below it
    pub comm_list-searched : (s : Subst) → IsTrail sig s
        → IsSearched (comm_list sig g ps args owes s) (items sig (all_pattern_nodes ps) place s)
    unfolding comm_list
    comm_list-searched s t = record {
      from = λ i m. (i, m, refl, λ x. refl);
      found = λ j m. (j, m, refl, λ x. refl);
      once = once-ascending (item_tables (items sig (all_pattern_nodes ps) place s))
          (items-ascending sig (all_pattern_nodes ps) place s);
    }
