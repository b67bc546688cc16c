-- A star wildcard that is alone takes all that is left, and nothing else is an item.
use Rattle.std.proofs.Common.{◌≡◌, ◌≤◌, ◌+◌, ℕ, List, [], ◌∷◌, length, map, take, drop, Bool, true, false}
use Rattle.std.proofs.Common.{refl, ap, sym, ◌∙◌, subst, inl, inr, arith}
use Rattle.std.specs.Prelude.{Option, Some, None, MatchBool, slice_get, slice_set, ◌&&◌, if◌then◌else◌}
use Rattle.std.specs.Prelude.{option_and_then, slice_index_or, IsTrue}
use Rattle.std.specs.List.{AllByRecursion}
use Rattle.std.proofs.lemmas.Bool.{and_from}
use Rattle.std.proofs.lemmas.List.{length-map}
use Rattle.mp_term.specs.Order.{tree_cmp}
use Rattle.mp_term.specs.OrderLaws.{tree_cmp_total, tree_same}
use Rattle.mp_term.specs.Pieces.{is_piece, is_sublist, without}
use Rattle.mp_term.specs.Search.{In}
use Rattle.mp_term.specs.Signature.{Sig}
use Rattle.mp_term.specs.Size.{all_nodes}
use Rattle.mp_term.specs.Sorting.{sorted}
use Rattle.mp_term.specs.Tree.{Tree}
use Rattle.mp_term.proofs.PiecesLaws.{same-itself}
use Rattle.mp_pattern.specs.Fits.{Entry, Table}
use Rattle.mp_pattern.specs.NetTokens.{numbered}
use Rattle.mp_pattern.specs.PatternTree.{star, Patterns, app_pattern, wild_pattern, no_patterns, more_patterns}
use Rattle.mp_pattern.specs.Value.{bag, seq, Subst}
use Rattle.mp_pattern.specs.Variables.{comm_above, variables}
use Rattle.mp_pattern.proofs.SortedLaws.{all-sorted}
use Rattle.mp_table.specs.Table as plain
use Rattle.mp_table.specs.Table.{HasRank, HasRanks, rank_cmp, term_at, terms_at}
use Rattle.mp_table.specs.declared.rank.Rank.{Rank}
use Rattle.mp_subst.proofs.BoundLaws.{sorted-terms, ranks_same}
use Rattle.mp_theory.specs.Frames.{Next, ended, refused, child, is_done}
use Rattle.mp_theory.specs.Machine.{is_ended, onward, reads, takes}
use Rattle.mp_theory.specs.OneList.{Item, item_tables}
use Rattle.mp_theory.specs.Solve.{bind, solve}
use Rattle.mp_theory.specs.Trail.{has_shape}
use Rattle.mp_theory.proofs.Cuts.{put}
use Rattle.mp_theory.proofs.ItemTables.{items-exact}
use Rattle.mp_theory.proofs.Narrow.{length-all_nodes}
use Rattle.mp_search.specs.declared.level.Level.{Level}
use Rattle.mp_search.specs.declared.level.Source.{Source}
use Rattle.mp_search.specs.declared.mode.Mode.{Mode}
use Rattle.mp_search.specs.declared.mode.Mode.TheVariants.{First, After, At}
use Rattle.mp_search.specs.Levels.{AreLevels, IsOver, IsRoomy, draws_of, rooms_of, take_of}
use Rattle.mp_search.specs.Reading.{table_of}
use Rattle.mp_ac.specs.declared.seek.Sought.{Sought}
use Rattle.mp_ac.specs.Asked.{AreGiven, cost, levels_table, root_list}
use Rattle.mp_ac.specs.CommItems.{NoneTwice, SameValues}
use Rattle.mp_ac.specs.CommList.{behind_table, comm_list}
use Rattle.mp_ac.specs.CommPlan.{nodes_below}
use Rattle.mp_ac.specs.Seek.{IsCommutative, IsFoundOf, IsSought, items_sought, seek_cost, with_children}
use Rattle.mp_ac.specs.Stage.{IsOnward, looked_for}
use Rattle.mp_ac.specs.Star.{IsOfStar, bag_bound}
use Rattle.mp_ac.proofs.BehindLaws.{behind-first, table-in}
use Rattle.mp_ac.proofs.ListLaws.{item-parts}
use Rattle.mp_ac.proofs.StepLaws.{comm_list-once}
use Rattle.mp_ac.proofs.WildLaws.{here, wild-all, wild-behind}

-- a list is a part of itself, and leaves nothing
sublist-all : (ts : List Tree) → is_sublist tree_cmp ts ts ≡ true
sublist-all [] = refl
sublist-all (t ∷ ts) = rw (same-itself tree_cmp tree_cmp_total tree_same t) (sublist-all ts)

without-all : (ts : List Tree) → without tree_cmp ts ts ≡ []
without-all [] = refl
without-all (t ∷ ts) = rw (same-itself tree_cmp tree_cmp_total tree_same t) (without-all ts)

and_then-some : {X : Type 0} (o : Option X) → option_and_then (λ x. Some x) o ≡ o
and_then-some None = refl
and_then-some (Some x) = refl

-- where all tables of a list are one, and none stands twice, an item of it is the first
one-first : (T : Table) (is : List Item) (i : Item) → In i is → ((j : Item) → In j is → j.0 ≡ T)
    → NoneTwice (item_tables is) → slice_get is 0 ≡ Some i
one-first T [] i m same once = absurd m
one-first T (j ∷ is) i (inl e) same once = ap Some (sym e)
one-first T (j ∷ is) i (inr m) same once = absurd (once.0 (subst (λ V. In V (item_tables is))
    (same i (inr m) ∙ sym (same j (inl refl))) (table-in is i m)))

none-in : (is : List Item) → ((i : Item) → In i is → ⊥) → is ≡ []
none-in [] never = refl
none-in (i ∷ is) never = absurd (never i (inl refl))

-- the variable of the first number is the one that is bound
pub bound-first : (vs : List ℕ) (d : ℕ) (ts : List Tree) (s : Subst) → 1 ≤ length vs
    → bag_bound vs ts s ≡ bind s (numbered (slice_index_or vs 0 d)) (bag ts)
bound-first [] d ts s some = absurd (omega (arith, some))
bound-first (v ∷ vs) d ts s some = refl

module _ (sig : Sig) (g : ℕ) (x : Option (List ℕ)) (left : List Tree) (comm : comm_above sig (Some g) ≡ true) where
  abbrev children : Patterns
  children = more_patterns (wild_pattern star x) no_patterns

  abbrev place : Next
  place = child (wild_pattern star x) (here sig g star x left false) []

  abbrev whole_entry : Entry
  whole_entry = record { terms = left; collapsed = false }

  -- the wildcard may take all
  reads-star : (o : Option (List ℕ)) → reads sig (wild_pattern star o) (Some g) whole_entry ≡ true
  reads-star None = refl
  reads-star (Some y) = refl

  has-all : has_shape sig place (whole_entry ∷ []) ≡ true
  has-all = and_from
      (is_piece tree_cmp (comm_above sig (Some g)) left left && reads sig (wild_pattern star x) (Some g) whole_entry)
      (is_ended (onward place whole_entry))
      (and_from (is_piece tree_cmp (comm_above sig (Some g)) left left)
      (reads sig (wild_pattern star x) (Some g) whole_entry)
      (subst (λ b. is_piece tree_cmp b left left ≡ true) (sym comm) (sublist-all left)) (reads-star x))
      (ap (λ ls. is_ended (if is_done ls false then ended else refused)) (without-all left))

  -- what it takes is bound to the variable of the number
  star-solved : (s : Subst) (vs : List ℕ) → map numbered vs ≡ variables (app_pattern g children)
      → solve sig s (takes place (whole_entry ∷ [])) ≡ bag_bound vs left s
  star-solved s vs = by_name x vs
    where
      by_name : (o : Option (List ℕ)) (vs : List ℕ)
          → map numbered vs ≡ variables (app_pattern g (more_patterns (wild_pattern star o) no_patterns))
          → solve sig s (takes (child (wild_pattern star o) (here sig g star o left false) []) (whole_entry ∷ []))
          ≡ bag_bound vs left s
      by_name None [] e = refl
      by_name None (v ∷ vs) e = cc
      by_name (Some y) [] e = cc
      by_name (Some y) (v ∷ []) e =
          let k : y ≡ numbered v = cc in
          and_then-some (bind s y (if comm_above sig (Some g) then bag left else seq left))
          ∙ ap (λ b. bind s y (if b then bag left else seq left)) comm
          ∙ ap (λ z. bind s z (bag left)) k
      by_name (Some y) (v ∷ u ∷ vs) e = cc

  module _ (s : Subst) (vs : List ℕ) (names : map numbered vs ≡ variables (app_pattern g children)) where
    abbrev its : List Item
    its = comm_list sig g children left false s

    star-among : (r : Subst) → bag_bound vs left s ≡ Some r → In {X = Item} (whole_entry ∷ [], r) its
    unfolding comm_list
    star-among r b =
        (items-exact sig 1 place s (whole_entry ∷ []) r).1 (refl, has-all, star-solved s vs names ∙ b)

    -- the one item, where the variable may be bound
    star-first : (r : Subst) → bag_bound vs left s ≡ Some r → slice_get its 0 ≡ Some (whole_entry ∷ [], r)
    star-first r b = one-first (whole_entry ∷ []) its (whole_entry ∷ [], r) (star-among r b)
        (λ j m. wild-all sig g star x left false j.0 (item-parts sig g children left false s j m).0)
        (comm_list-once sig g children left false s)

    star-none : bag_bound vs left s ≡ None → its ≡ []
    star-none b = none-in its (λ i m.
        let a = item-parts sig g children left false s i m in
        let e : solve sig s (takes place (whole_entry ∷ [])) ≡ Some i.1 =
        subst (λ V. solve sig s (takes place V) ≡ Some i.1) (wild-all sig g star x left false i.0 a.0) a.1 in
        let f : None ≡ Some i.1 = sym b ∙ sym (star-solved s vs names) ∙ e in
        cc)

    pub star-found : (r : Subst) (found : Bool)
        → MatchBool found (bag_bound vs left s ≡ Some r) (bag_bound vs left s ≡ None)
        → MatchBool found
        ((slice_get its 0 ≡ Some (whole_entry ∷ [], r)) × (behind_table (whole_entry ∷ []) its ≡ drop 1 its))
        (its ≡ [])
    star-found r true b =
        let f = star-first r b in
        (f, behind-first its (whole_entry ∷ [], r) f)
    star-found r false b = star-none b

module _ (x : Sought) (h : IsSought x) (one : IsOfStar x.asked.plan.now.pattern) (free : x.asked.owes ≡ false)
    (rs : List Rank) where
  abbrev tb : plain.Table
  tb = x.asked.table.now

  abbrev own : Patterns
  own = more_patterns (wild_pattern star one.name) no_patterns

  abbrev all_taken : Table
  all_taken = record { terms = terms_at tb rs; collapsed = false } ∷ []

  star-commutes : comm_above x.asked.sig.now (Some one.op) ≡ true
  star-commutes = subst (IsCommutative x.asked.sig.now) one.is h.commutative

  star-names : map numbered x.asked.vars.now ≡ variables (app_pattern one.op own)
  star-names = h.names ∙ ap variables one.is

  pub star-nodes : nodes_below x.asked.plan.now.pattern ≡ 1
  star-nodes = ap nodes_below one.is

  items-star : (s : Subst) → items_sought x.asked [] rs s
      ≡ comm_list x.asked.sig.now one.op own (terms_at tb rs) false s
  items-star s =
      ap (λ p. root_list x.asked.sig.now (with_children [] p) (terms_at tb rs) x.asked.owes s) one.is
      ∙ ap (λ b. comm_list x.asked.sig.now one.op own (terms_at tb rs) b s) free

  -- behind the item nothing comes
  pub star-behind : (mode : Mode) (W : Table) (s : Subst) → (mode ≡ First → ⊥) → IsOnward mode
      → looked_for mode W (items_sought x.asked [] rs s) ≡ []
  star-behind First W s never on = absurd (never refl)
  star-behind After W s never on = ap (behind_table W) (items-star s)
      ∙ wild-behind x.asked.sig.now one.op star one.name (terms_at tb rs) false W s
  star-behind At W s never on = absurd on

  -- the first item is the one where the wildcard takes all
  pub star-sought : (W V : Table) (s r : Subst) (found : Bool)
      → MatchBool found (bag_bound x.asked.vars.now (terms_at tb rs) s ≡ Some r)
      (bag_bound x.asked.vars.now (terms_at tb rs) s ≡ None)
      → (IsTrue found → V ≡ all_taken) → IsFoundOf First W V (items_sought x.asked [] rs s) r found
  star-sought W V s r found b taken =
      subst (λ is. IsFoundOf First W V is r found) (sym (items-star s))
      (by_found found (star-found x.asked.sig.now one.op one.name (terms_at tb rs) star-commutes s x.asked.vars.now
      star-names r found b) taken)
    where
      its : List Item
      its = comm_list x.asked.sig.now one.op own (terms_at tb rs) false s

      by_found : (f : Bool)
          → MatchBool f ((slice_get its 0 ≡ Some (all_taken, r)) × (behind_table all_taken its ≡ drop 1 its)) (its ≡ [])
          → (IsTrue f → V ≡ all_taken) → IsFoundOf First W V its r f
      by_found true f e =
          subst (λ U. ((q : Subst) × (slice_get its 0 ≡ Some (U, q)) × SameValues q r)
          × (behind_table U its ≡ drop 1 its)) (sym (e refl)) ((r, f.0, λ y. refl), f.1)
      by_found false f e = f

  -- what the level has that is set
  pub star-level : (ls : List Level) (l : Level) → 1 ≤ length ls → take_of l ≡ (rs, false)
      → levels_table x.asked (slice_set ls 0 l) ≡ all_taken
  star-level [] l some e = absurd (omega (arith, some))
  star-level (k ∷ ls) l some e = ap (λ n. table_of tb (take n (l ∷ ls))) star-nodes
      ∙ ap (λ (p : List Rank × Bool). record { terms = terms_at tb p.0; collapsed = p.1 } ∷ []) e

  module _ (given : AreGiven x.asked.sig.now x.asked.plan.now.pattern tb rs) where
    -- the ranks are sorted
    pub star-sorted : sorted rank_cmp rs ≡ rs
    star-sorted =
        ranks_same tb h.asked.table (sorted rank_cmp rs) rs (all-sorted (HasRank tb) rank_cmp rs given.ranks)
        given.ranks (sym (sorted-terms tb h.asked.table rs given.ranks)
        ∙ subst (λ b. put b (terms_at tb rs) ≡ terms_at tb rs) h.commutative given.arranged)

  -- there are no more ranks than nodes, and three nodes more may be taken of the trail's room
  pub star-few : length rs ≤ all_nodes (terms_at tb rs)
  star-few = omega (arith, length-all_nodes (terms_at tb rs), length-map rs (term_at tb))

  pub star-cost : length rs + 2 ≤ seek_cost x.asked [] rs
  star-cost =
      let e : seek_cost x.asked [] rs ≡ all_nodes (terms_at tb rs) + 3 =
      ap (λ p. cost (with_children [] p) (terms_at tb rs)) one.is in
      omega (arith, star-few, e)

-- what holds of each item holds of the first, and of all where that is written
pub first-has : {X : Type 0} (P : X → Type 0) (xs : List X) (d : X) → 1 ≤ length xs → AllByRecursion P xs
    → P (slice_index_or xs 0 d)
first-has P [] d some h = absurd (omega (arith, some))
first-has P (x ∷ xs) d some h = h.0

first-set : {X : Type 0} (P : X → Type 0) (xs : List X) (v : X) → AllByRecursion P xs → P v
    → AllByRecursion P (slice_set xs 0 v)
first-set P [] v h is = tt
first-set P (x ∷ xs) v h is = (is, h.1)

-- levels stay levels where the first one is set
pub levels-set : (t : plain.Table) (w : ℕ) (rs : List Rank) (ls : List Level) (d new : Level) → 1 ≤ length ls
    → AreLevels t w ls → HasRanks t rs → take_of new ≡ (rs, false) → draws_of new ≡ draws_of (slice_index_or ls 0 d)
    → new.rest.items.items ≡ (slice_index_or ls 0 d).rest.items.items → rooms_of new ≡ rooms_of (slice_index_or ls 0 d)
    → AreLevels t w (slice_set ls 0 new)
levels-set t w rs ls d new some h ranks e draws rest rooms =
    let old = first-has (λ l. IsRoomy w l × IsOver t l) ls d some h in
    first-set (λ l. IsRoomy w l × IsOver t l) ls new h (
      subst (λ (r : ℕ × ℕ × ℕ). (w ≤ r.0) × (w ≤ r.1) × (w ≤ r.2)) (sym rooms) old.0,
      (
        subst (λ (p : List Rank × Bool). HasRanks t p.0) (sym e) ranks,
        subst (λ (p : Source × List Rank). HasRanks t p.1) (sym draws) old.1.1,
        subst (HasRanks t) (sym rest) old.1.2,
      ),
    )
