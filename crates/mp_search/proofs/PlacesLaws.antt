-- Where the terms stand that a child may match.
use Rattle.std.proofs.Common.{◌≡◌, ℕ, ◌≤◌, ◌<◌, List, [], ◌∷◌, length, Bool, true, false, refl, ap, sym, ◌∙◌}
use Rattle.std.proofs.Common.{subst, suc, ◌-◌, take, drop, slice_index_or}
use Rattle.std.proofs.Common.{get_or, eq-eqb, arith}
use Rattle.std.proofs.lemmas.List.{length-map}
use Rattle.std.specs.Prelude.{Option, Some, None, IfSome, option_map, nat_lt, if◌then◌else◌}
use Rattle.std.proofs.lemmas.Bool.{and_parts}
use Rattle.std.proofs.lemmas.Cmp.{tied_itself}
use Rattle.std.specs.Ordering.{nat_cmp}
use Rattle.std.specs.declared.cmp.Ordering.{Ordering}
use Rattle.std.specs.declared.cmp.Ordering.TheVariants.{Less, Equal, Greater}
use Rattle.mp_term.specs.Order.{tree_cmp}
use Rattle.mp_term.specs.OrderLaws.{tree_cmp_total, tree_same}
use Rattle.mp_term.specs.Pieces.{same}
use Rattle.mp_term.proofs.PiecesLaws.{same-sound, same-itself}
use Rattle.mp_term.specs.Signature.{Sig}
use Rattle.mp_term.specs.Tree.{Tree, symbol}
use Rattle.mp_pattern.specs.PatternTree.{Pattern, Patterns, symbol_pattern, app_pattern, more_patterns, patterns}
use Rattle.mp_pattern.specs.Value.{Subst, Form, one_form, seq_form, bag_form}
use Rattle.mp_subst.specs.Bound.{value_from}
use Rattle.mp_table.specs.Subterms.{arguments}
use Rattle.mp_table.specs.Table.{Table, IsTable, HasRank, HasRanks, term_at, terms_at}
use Rattle.mp_table.specs.declared.rank.Rank.{Rank}
use Rattle.mp_table.proofs.RankLaws.{rank_order}
use Rattle.mp_theory.specs.Known.{contributed}
use Rattle.mp_theory.specs.MayMatch.{is_alone_in, is_plain, may_collapse, may_match, each_may_match}
use Rattle.mp_search.specs.Grounds.{ground_of}
use Rattle.mp_search.specs.Portion.{first_before, args_before, second_is, IsOf}
use Rattle.mp_search.specs.declared.headed.Group.{Group}
use Rattle.mp_search.proofs.HeadedLaws.{group-there, match-headed}
use Rattle.mp_search.proofs.MatchLaws.{alone-contribution, match-children, rank-same}

-- what a test of the first argument finds
abbrev pub by_order : Bool → Ordering → Bool
by_order past o = elim o [ Less ↦ true | Equal ↦ past | Greater ↦ false ]

-- so many arguments compare by the first
pub args_before-first : (t : Table) → IsTable t → (past : Bool) (c : ℕ) (o : Option Rank) (r d : Rank) (rs : List Rank)
    (w : Ordering) → HasRank t r → HasRanks t rs → o ≡ Some r → length rs ≡ c → 1 ≤ length rs
    → nat_cmp (get_or rs 0 d).0 r.0 ≡ w
    → by_order past w ≡ args_before past c (option_map (term_at t) o) (terms_at t rs)
args_before-first t h past c o r d [] w k m e i l n = absurd (omega (arith, l))
args_before-first t h past c o r d (s ∷ rs) w k m e i l n =
    let v = term_at t r in
    let test : (b : Bool) → Bool = λ b.
    if b then first_before past v (terms_at t (s ∷ rs)) else nat_lt (length (terms_at t (s ∷ rs))) c in
    let many : length (terms_at t (s ∷ rs)) ≡ c = length-map (s ∷ rs) (term_at t) ∙ i in
    ap (by_order past) (sym (rank_order t h.ascending s r m.0 k ∙ n))
    ∙ sym (ap test (eq-eqb (length (terms_at t (s ∷ rs))) c many))
    ∙ ap (λ p. args_before past c (option_map (term_at t) p) (terms_at t (s ∷ rs))) (sym e)

-- a list of one item
pub one-item : {X : Type 0} (xs : List X) (d : X) → 1 ≤ length xs → length xs < 2 → xs ≡ get_or xs 0 d ∷ []
one-item [] d l m = absurd (omega (arith, l))
one-item (x ∷ []) d l m = refl
one-item (x ∷ y ∷ xs) d l m = absurd (omega (arith, m))

-- the value of one rank contributes at most its term alone
pub alone-known : (t : Table) (sig : Sig) (f : Option ℕ) (m : Form) (w : Option ℕ) (rs : List Rank) (r : Rank)
    (v : Tree) → w ≡ None → rs ≡ r ∷ [] → is_alone_in (contributed sig f (value_from t m w rs)) v ≡ true
    → term_at t r ≡ v
alone-known t sig f m w rs r v e i h =
    same-sound tree_cmp tree_cmp_total tree_same (term_at t r) v
    (by_form m (subst (λ ss. is_alone_in (contributed sig f (value_from t m None ss)) v ≡ true) i
    (subst (λ o. is_alone_in (contributed sig f (value_from t m o rs)) v ≡ true) e h)))
  where
    by_form : (m : Form) → is_alone_in (contributed sig f (value_from t m None (r ∷ []))) v ≡ true
        → same tree_cmp (term_at t r) v ≡ true
    by_form one_form h = alone-contribution sig f (term_at t r) v h
    by_form seq_form h = h
    by_form bag_form h = h

-- what holds of what there is
pub if_some-map : {X : Type 0} {P Q : X → Type 0} (o : Option X) → ((x : X) → P x → Q x) → IfSome o P → IfSome o Q
if_some-map None f h = tt
if_some-map (Some x) f h = f x h

-- a symbol matches its own term alone
pub symbol-known : (t : Table) (sig : Sig) (s : Subst) (p : Pattern) (n : List ℕ) (o : Option Rank)
    → p ≡ symbol_pattern n → option_map (term_at t) o ≡ ground_of p
    → IfSome o (λ r. (f : Option ℕ) (u : Tree) → may_match sig s f p u ≡ true → term_at t r ≡ u)
symbol-known t sig s p n None e i = tt
symbol-known t sig s p n (Some r) e i = λ f u h.
    let there : Some (term_at t r) ≡ Some (symbol n) = i ∙ ap ground_of e in
    let is : term_at t r ≡ symbol n = cc in
    is ∙ same-sound tree_cmp tree_cmp_total tree_same (symbol n) u
    (subst (λ q. may_match sig s f q u ≡ true) e h)

module _ (sig : Sig) (s : Subst) (f : Option ℕ) where
  -- each child matches one term
  pub each-length : (ps : List Pattern) (ts : List Tree) → each_may_match sig s f (patterns ps) ts ≡ true
      → length ts ≡ length ps
  each-length [] [] h = refl
  each-length [] (t ∷ ts) h = cc
  each-length (p ∷ ps) [] h = cc
  each-length (p ∷ ps) (t ∷ ts) h = omega (arith, each-length ps ts (and_parts (may_match sig s f p t) _ h).1)

  -- the first one the first
  pub each-first : (p : Pattern) (ps qs : Patterns) (ts : List Tree) (u : Tree) → qs ≡ more_patterns p ps
      → ((t : Tree) → may_match sig s f p t ≡ true → u ≡ t) → each_may_match sig s f qs ts ≡ true
      → (first_before false u ts ≡ false) × (first_before true u ts ≡ true)
  each-first p ps qs ts u e only h = first ts (subst (λ rs. each_may_match sig s f rs ts ≡ true) e h)
    where
      first : (ts : List Tree) → each_may_match sig s f (more_patterns p ps) ts ≡ true
          → (first_before false u ts ≡ false) × (first_before true u ts ≡ true)
      first [] h = cc
      first (t ∷ ts) h =
          let is : u ≡ t = only t (and_parts (may_match sig s f p t) _ h).0 in
          let tied : tree_cmp t u ≡ Equal = ap (tree_cmp t) is ∙ tied_itself tree_cmp_total t in
          (ap (by_order false) tied, ap (by_order true) tied)

  -- and the second one the second
  pub each-second : (p r : Pattern) (ps rs qs : Patterns) (ts : List Tree) (u : Tree) → qs ≡ more_patterns p ps
      → ps ≡ more_patterns r rs → ((t : Tree) → may_match sig s f r t ≡ true → u ≡ t)
      → each_may_match sig s f qs ts ≡ true → second_is u ts ≡ true
  each-second p r ps rs qs ts u e i only h =
      second ts (subst (λ vs. each_may_match sig s f vs ts ≡ true) (e ∙ ap (more_patterns p) i) h)
    where
      second : (ts : List Tree) → each_may_match sig s f (more_patterns p (more_patterns r rs)) ts ≡ true
          → second_is u ts ≡ true
      second [] h = cc
      second (t ∷ []) h =
          let none = (and_parts (may_match sig s f p t) _ h).1 in cc
      second (t ∷ v ∷ ts) h =
          let later = (and_parts (may_match sig s f p t) _ h).1 in
          let is : u ≡ v = only v (and_parts (may_match sig s f r v) _ later).0 in
          ap (same tree_cmp u) (sym is) ∙ same-itself tree_cmp tree_cmp_total tree_same u

-- the second of the terms of ranks is that of a rank only where this is the second rank
pub second-rank : (t : Table) → IsTable t → (r d : Rank) (rs : List Rank) → HasRank t r → HasRanks t rs
    → second_is (term_at t r) (terms_at t rs) ≡ true
    → (slice_index_or (take (length rs - 1) (drop 1 rs)) 0 d).0 ≡ r.0
second-rank t h r d [] k l e = cc
second-rank t h r d (s ∷ []) k l e = cc
second-rank t h r d (s ∷ o ∷ rs) k l e =
    let many : suc (suc (length rs)) - 1 ≡ suc (length rs) = omega arith in
    ap (λ n. (slice_index_or (take n (o ∷ rs)) 0 d).0) many ∙ sym (rank-same t h r o k l.1.0 e)

-- what an application may match, which can't be collapsed, is of its group
pub match-group : (t : Table) (sig : Sig) (s : Subst) (f : Option ℕ) (k : Group) (ps : Patterns) (u : Tree)
    → may_collapse sig k.op.0 ps ≡ false → IfSome k.first (λ r. is_plain sig (Some k.op.0) ps ≡ true)
    → IfSome k.first (λ r. (ts : List Tree) → each_may_match sig s (Some k.op.0) ps ts ≡ true
    → (length ts ≡ k.count) × (first_before false (term_at t r) ts ≡ false)
    × (first_before true (term_at t r) ts ≡ true))
    → may_match sig s f (app_pattern k.op.0 ps) u ≡ true → IsOf t k u
match-group t sig s f k ps u firm plain only h =
    let head = match-headed sig s f k.op.0 ps u firm h in
    let is = by_first k.first plain only in (
      group-there false k.op.0 k.count (option_map (term_at t) k.first) u head ∙ is.0,
      group-there true k.op.0 k.count (option_map (term_at t) k.first) u head ∙ is.1,
    )
  where
    by_first : (o : Option Rank) → IfSome o (λ r. is_plain sig (Some k.op.0) ps ≡ true)
        → IfSome o (λ r. (ts : List Tree) → each_may_match sig s (Some k.op.0) ps ts ≡ true
        → (length ts ≡ k.count) × (first_before false (term_at t r) ts ≡ false)
        × (first_before true (term_at t r) ts ≡ true))
        → (args_before false k.count (option_map (term_at t) o) (arguments u) ≡ false)
        × (args_before true k.count (option_map (term_at t) o) (arguments u) ≡ true)
    by_first None plain only = (refl, refl)
    by_first (Some r) plain only =
        let ts = arguments u in
        let v = term_at t r in
        let is = only ts (match-children sig s f (app_pattern k.op.0 ps) k.op.0 ps u refl firm plain h) in
        let many = eq-eqb (length ts) k.count is.0 in (
          ap (λ b. if b then first_before false v ts else nat_lt (length ts) k.count) many ∙ is.1,
          ap (λ b. if b then first_before true v ts else nat_lt (length ts) k.count) many ∙ is.2,
        )
