-- The choices may be listed by lengths, within the bounds of the node and of the later children.
use Rattle.std.proofs.Common.{◌≡◌, ℕ, ◌≤◌, ◌<◌, ◌+◌, ◌-◌, List, [], ◌∷◌, length, Bool, true, false, refl, ap, arith}
use Rattle.std.proofs.lemmas.Bool.{and_parts}
use Rattle.std.proofs.lemmas.Bool.Decides.{nat_tests}
use Rattle.std.specs.Prelude.{Option, Some, None, ◌↔◌, ◌&&◌, not, min, max, nat_lt, if◌then◌else◌, filter, is_some, ⊤}
use Rattle.std.specs.List.Sorted.{IsStrictlySortedBy}
use Rattle.std.specs.Ordering.{nat_cmp}
use Rattle.std.proofs.lemmas.List.Kept.{IsStrictlySortedBy-filter}
use Rattle.mp_term.specs.Order.{tree_cmp}
use Rattle.mp_term.specs.OrderLaws.{tree_cmp_total, tree_same}
use Rattle.mp_term.specs.Tree.{Tree, symbol, app, trees}
use Rattle.mp_term.specs.Signature.{Sig, is_assoc}
use Rattle.mp_term.proofs.ListingLaws.{same_members}
use Rattle.mp_pattern.specs.PatternTree.{dot, kind, plus, star, counted, meets_count, optional, Pattern}
use Rattle.mp_pattern.specs.PatternTree.{symbol_pattern, app_pattern, wild_pattern, Patterns}
use Rattle.mp_pattern.specs.Value.{one}
use Rattle.mp_pattern.specs.Variables.{comm_above, assoc_above}
use Rattle.mp_pattern.specs.Fits.{Entry}
use Rattle.mp_pattern.specs.DerivationOrder.{entry_cmp}
use Rattle.mp_theory.specs.Solve.{contributor, sequence}
use Rattle.mp_theory.specs.Frames.{Frame, child}
use Rattle.mp_theory.proofs.Merging.{same_terms-sound}
use Rattle.mp_term.specs.Search.{In}
use Rattle.mp_term.specs.Pieces.{without, pieces_among, is_piece}
use Rattle.mp_theory.specs.Machine.{entries, reads, choices}
use Rattle.mp_theory.specs.Bounds.{least, most, all_least, all_most}
use Rattle.mp_pattern.specs.SoundRule.{sum_most, reaches}
use Rattle.mp_theory.specs.Within.{is_within, leaves_within, choices_within, fewest, length_limit, lengths}
use Rattle.mp_term.proofs.SearchLaws.{in-filter, from_in-filter}
use Rattle.mp_term.proofs.PiecesLaws.{length-without, sublist-from_piece, pieces_among-exact, pieces_among-ascending}
use Rattle.mp_term.proofs.PiecesLaws.{in-range_with_len, from_in-range_with_len, ascending-range_with_len}
use Rattle.mp_theory.proofs.Walk.{in-entries, from_in-entries, choices-exact}
use Rattle.mp_theory.proofs.Tables.{entries-ascending, entry_cmp_total, choices-ascending}

-- n is within the bound, if there is one
abbrev pub AtMost : ℕ → Option ℕ → Type 0
AtMost n None = ⊤
AtMost n (Some m) = n ≤ m

-- the test of a number against a bound
pub reaches-at_most : (n : ℕ) (high : Option ℕ) → AtMost n high → reaches n high ≡ true
reaches-at_most n None h = refl
reaches-at_most n (Some m) h = grind (arith, nat_tests, h)

-- and against bounds
tested : (low : ℕ) (high : Option ℕ) (n : ℕ) → low ≤ n → AtMost n high → not (nat_lt n low) && reaches n high ≡ true
tested low None n h k = grind (arith, nat_tests, h)
tested low (Some high) n h k = grind (arith, nat_tests, h, k)

from_tested : (low : ℕ) (high : Option ℕ) (n : ℕ) → not (nat_lt n low) && reaches n high ≡ true
    → (low ≤ n) × AtMost n high
from_tested low None n h = let k = and_parts (not (nat_lt n low)) _ h in (grind (arith, nat_tests, k.0), tt)
from_tested low (Some high) n h = let k = and_parts (not (nat_lt n low)) _ h in
    (grind (arith, nat_tests, k.0), grind (arith, nat_tests, k.1))

-- l of n terms, with the m others, against the least number and the first too great one
fewest-least : (room : Option ℕ) (least l m n : ℕ) → l + m ≡ n → least ≤ l → AtMost m room
    → elim room [ None ↦ least | Some k ↦ max least (n - k) ] ≤ l
fewest-least None least l m n e h k = h
fewest-least (Some room) least l m n e h k = omega (arith, e, h, k)

room-fewest : (room : Option ℕ) (least l m n : ℕ) → l + m ≡ n
    → elim room [ None ↦ least | Some k ↦ max least (n - k) ] ≤ l → AtMost m room
room-fewest None least l m n e h = tt
room-fewest (Some room) least l m n e h = omega (arith, e, h)

limit-more : (most : Option ℕ) (l m n least : ℕ) → l + m ≡ n → AtMost l most → least ≤ m
    → l < elim most [ None ↦ n + 1 - least | Some k ↦ min (n + 1 - least) (k + 1) ]
limit-more None l m n least e h k = omega (arith, e, k)
limit-more (Some most) l m n least e h k = omega (arith, e, h, k)

enough-limit : (most : Option ℕ) (l m n least : ℕ) → l + m ≡ n
    → l < elim most [ None ↦ n + 1 - least | Some k ↦ min (n + 1 - least) (k + 1) ] → least ≤ m
enough-limit None l m n least e h = omega (arith, e, h)
enough-limit (Some most) l m n least e h = omega (arith, e, h)

-- parts within their bounds are together within the sum
pub at_most-sum : (a b : Option ℕ) (l m n : ℕ) → l + m ≡ n → AtMost l a → AtMost m b → AtMost n (sum_most a b)
at_most-sum None b l m n e h k = tt
at_most-sum (Some a) None l m n e h k = tt
at_most-sum (Some a) (Some b) l m n e h k = omega (arith, e, h, k)

-- a bound that is there unless the operation above is associative
at_most-unless : (assoc : Bool) (n : ℕ) → (assoc ≡ false → n ≤ 1) → AtMost n (if assoc then None else Some 1)
at_most-unless true n h = tt
at_most-unless false n h = h refl

-- a number that meets a count is within the bounds of its wildcard
counted-within : (n : ℕ) (fixed : Bool) (l : ℕ) → meets_count n fixed l ≡ true
    → (n ≤ l) × AtMost l (if fixed then Some n else None)
counted-within n true l h = (grind (arith, nat_tests, h), grind (arith, nat_tests, h))
counted-within n false l h = (grind (arith, nat_tests, h), tt)

-- the test of an option that has a value where b holds
if_some : {X : Type 0} (b : Bool) (x : X) → is_some (if b then Some x else None) ≡ true → b ≡ true
if_some true x h = refl
if_some false x h = cc

module _ (sig : Sig) where
  -- the choices that leave the later children what they can take, by pieces of the lengths ns, which are those that the
  -- node can take and leave so
  pub choices_within-by_lengths : (p : Pattern) (f : Frame) (fs : List Frame) (ns : List ℕ)
      → IsStrictlySortedBy nat_cmp ns
      → ((e : Entry) → reads sig p f.under e ≡ true → (m : ℕ) → length e.terms + m ≡ length f.left
      → In (length e.terms) ns ↔ (is_within sig f.under f.children m ≡ true))
      → choices_within sig (child p f fs) ≡ filter (reads sig p f.under)
      (entries (pieces_among tree_cmp (comm_above sig f.under) ns f.left))
  choices_within-by_lengths p f fs ns up h =
      let c = comm_above sig f.under in
      let ls = pieces_among tree_cmp c ns f.left in
      let all = choices sig (child p f fs) in
      same_members entry_cmp entry_cmp_total (filter (leaves_within sig f) all)
      (filter (reads sig p f.under) (entries ls))
      (IsStrictlySortedBy-filter entry_cmp (leaves_within sig f) all (choices-ascending sig (child p f fs)))
      (IsStrictlySortedBy-filter entry_cmp (reads sig p f.under) (entries ls)
      (entries-ascending sig ls (pieces_among-ascending tree_cmp tree_cmp_total tree_same c ns f.left up)))
      (λ e i.
      let j = from_in-filter (leaves_within sig f) e all i in
      let k = (choices-exact sig p f fs e.terms e.collapsed).0 j.0 in
      let n = (h e k.1 (length (without tree_cmp e.terms f.left)) (together e k.0)).1 j.1 in
      in-filter (reads sig p f.under) e (entries ls)
      (in-entries e.terms e.collapsed ls
      ((pieces_among-exact tree_cmp tree_cmp_total tree_same c ns e.terms f.left).1 (n, k.0))) k.1)
      (λ e i.
      let j = from_in-filter (reads sig p f.under) e (entries ls) i in
      let k = (pieces_among-exact tree_cmp tree_cmp_total tree_same c ns e.terms f.left).0 (from_in-entries e ls j.0) in
      let n = (h e j.1 (length (without tree_cmp e.terms f.left)) (together e k.1)).0 k.0 in
      in-filter (leaves_within sig f) e all ((choices-exact sig p f fs e.terms e.collapsed).1 (k.1, j.1)) n)
    where
      together : (e : Entry) → is_piece tree_cmp (comm_above sig f.under) e.terms f.left ≡ true
          → length e.terms + length (without tree_cmp e.terms f.left) ≡ length f.left
      together e i = length-without tree_cmp tree_cmp_total tree_same e.terms f.left
          (sublist-from_piece tree_cmp tree_cmp_total tree_same (comm_above sig f.under) e.terms f.left i)

  -- a contribution has a term, and under an operation that isn't associative one
  some_contributor : (f : Option ℕ) (l : List Tree) → is_some (contributor sig f l) ≡ true
      → (1 ≤ length l) × (assoc_above sig f ≡ false → length l ≤ 1)
  some_contributor f [] h = cc
  some_contributor f (t ∷ []) h = (omega arith, λ q. omega arith)
  some_contributor None (t ∷ u ∷ l) h = cc
  some_contributor (Some f) (t ∷ u ∷ l) h =
      elim (is_assoc sig f) as (λ b. is_some (if b then Some (one (app f (trees (t ∷ u ∷ l)))) else None) ≡ true
      → (1 ≤ length (t ∷ u ∷ l)) × (b ≡ false → length (t ∷ u ∷ l) ≤ 1)) [
        | true ↦ λ k. (omega arith, λ q. cc)
        | false ↦ λ k. cc
      ] h

  -- what a node takes is within its bounds
  pub within : (p : Pattern) (f : Option ℕ) (l : List Tree) (c : Bool)
      → reads sig p f (record { terms = l; collapsed = c }) ≡ true
      → (least p ≤ length l) × AtMost (length l) (most sig f p)
  within (symbol_pattern n) f l true h = cc
  within (symbol_pattern n) f l false h = let e : length l ≡ 1 = ap length (same_terms-sound l (symbol n ∷ []) h) in
      (omega arith, omega arith)
  within (app_pattern g ps) f [] true h = cc
  within (app_pattern g ps) f (t ∷ []) c h = (omega arith, omega arith)
  within (app_pattern g ps) f (t ∷ u ∷ l) true h = cc
  within (app_pattern g ps) f [] false h = cc
  within (app_pattern g ps) f (t ∷ u ∷ l) false h = cc
  within (wild_pattern w x) f l true h = cc
  within (wild_pattern dot x) f l false h = let k = some_contributor f l (and_parts _ _ h).0 in
      (k.0, at_most-unless (assoc_above sig f) (length l) k.1)
  within (wild_pattern (kind k) x) f [] false h = cc
  within (wild_pattern (kind k) x) f (t ∷ []) false h = (omega arith, omega arith)
  within (wild_pattern (kind k) x) f (t ∷ u ∷ l) false h = cc
  within (wild_pattern plus x) f [] false h = cc
  within (wild_pattern plus x) f (t ∷ l) false h = (omega arith, tt)
  within (wild_pattern star x) f l false h = (omega arith, tt)
  within (wild_pattern (counted n c) x) f l false h =
      counted-within n c (length l) (if_some (meets_count n c (length l)) (sequence sig f l) (and_parts _ _ h).0)
  within (wild_pattern (optional d) x) f [] false h =
      (omega arith, at_most-unless (assoc_above sig f) 0 (λ _. omega arith))
  within (wild_pattern (optional d) x) f (t ∷ l) false h = let k = some_contributor f (t ∷ l) (and_parts _ _ h).0 in
      (omega arith, at_most-unless (assoc_above sig f) (length (t ∷ l)) k.1)

  -- the number of terms is within the bounds of the children
  pub record IsWithin (f : Option ℕ) (ps : Patterns) (n : ℕ) : Type 0 where
    pub enough : all_least ps ≤ n
    pub room : AtMost n (all_most sig f ps)

  pub within-tested : (f : Option ℕ) (ps : Patterns) (n : ℕ) → IsWithin f ps n ↔ (is_within sig f ps n ≡ true)
  within-tested f ps n = (
    λ h. tested (all_least ps) (all_most sig f ps) n h.enough h.room,
    λ h. let k = from_tested (all_least ps) (all_most sig f ps) n h in record { enough = k.0; room = k.1 },
  )

  -- the lengths of a node's choices are those that it can take and that leave the later children what they can take
  pub in-lengths : (f : Option ℕ) (p : Pattern) (ps : Patterns) (l m n : ℕ) → (least p ≤ l) × AtMost l (most sig f p)
      → l + m ≡ n → In l (lengths sig f p ps n) ↔ (is_within sig f ps m ≡ true)
  in-lengths f p ps l m n w e =
      let a : ℕ = fewest sig f p ps n in
      let z : ℕ = length_limit sig f p ps n in (
        λ h.
            let k = from_in-range_with_len l a (z - a) h in
            (within-tested f ps m).0 (record {
              enough = enough-limit (most sig f p) l m n (all_least ps) e (omega (arith, k.0, k.1));
              room = room-fewest (all_most sig f ps) (least p) l m n e k.0;
            }),
        λ h.
            let k = (within-tested f ps m).1 h in
            let low : a ≤ l = fewest-least (all_most sig f ps) (least p) l m n e w.0 k.room in
            let high : l < z = limit-more (most sig f p) l m n (all_least ps) e w.1 k.enough in
            in-range_with_len l a (z - a) low (omega (arith, low, high)),
      )

  -- so the choices are found by these lengths
  pub choices_within-lengths : (p : Pattern) (f : Frame) (fs : List Frame)
      → choices_within sig (child p f fs) ≡ filter (reads sig p f.under)
      (entries
      (pieces_among tree_cmp (comm_above sig f.under) (lengths sig f.under p f.children (length f.left)) f.left))
  choices_within-lengths p f fs =
      let n : ℕ = length f.left in
      choices_within-by_lengths p f fs (lengths sig f.under p f.children n)
      (ascending-range_with_len (fewest sig f.under p f.children n)
      (length_limit sig f.under p f.children n - fewest sig f.under p f.children n))
      (λ e r m q. in-lengths f.under p f.children (length e.terms) m n (within p f.under e.terms e.collapsed r) q)
