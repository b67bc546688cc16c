-- What is left at a place grows less from entry to entry.
use Rattle.std.proofs.Common.{◌≡◌, ℕ, ◌+◌, ◌≤◌, List, [], ◌∷◌, length, Bool, true, false, refl, ap}
use Rattle.std.proofs.Common.{arith}
use Rattle.std.specs.Prelude.{Option, if◌then◌else◌}
use Rattle.std.proofs.lemmas.Bool.{and_parts}
use Rattle.mp_term.specs.Order.{tree_cmp}
use Rattle.mp_term.specs.OrderLaws.{tree_cmp_total, tree_same}
use Rattle.mp_term.specs.Tree.{Tree, symbol, app}
use Rattle.mp_term.specs.TreeLists.{trees-tree_list}
use Rattle.mp_term.specs.Signature.{Sig}
use Rattle.mp_term.specs.Size.{node_count, all_nodes}
use Rattle.mp_term.specs.Pieces.{same, without, is_sublist, is_piece}
use Rattle.mp_term.proofs.PiecesLaws.{same-sound, sublist-from_piece}
use Rattle.mp_pattern.specs.PatternTree.{Wildcard, Pattern, symbol_pattern, app_pattern, wild_pattern, no_patterns}
use Rattle.mp_pattern.specs.PatternTree.{more_patterns}
use Rattle.mp_pattern.specs.Variables.{comm_above}
use Rattle.mp_pattern.specs.Fits.{Entry, Table}
use Rattle.mp_theory.specs.Frames.{Frame, Next, ended, refused, child, is_done, settle}
use Rattle.mp_theory.specs.Machine.{arguments, entered, taken_out, onward, reads}
use Rattle.mp_theory.specs.Narrow.{frames_load, load}
use Rattle.mp_theory.specs.Items.{onward_all}
use Rattle.mp_theory.specs.Trail.{allows}

-- a list and what is left without it have the nodes of the whole
pub all_nodes-without : (l ts : List Tree) → is_sublist tree_cmp l ts ≡ true
    → all_nodes l + all_nodes (without tree_cmp l ts) ≡ all_nodes ts
all_nodes-without [] ts h = omega arith
all_nodes-without (e ∷ l) [] h = cc
all_nodes-without (e ∷ l) (t ∷ ts) h =
    elim (same tree_cmp t e) as (λ v. same tree_cmp t e ≡ v
    → (if v then is_sublist tree_cmp l ts else is_sublist tree_cmp (e ∷ l) ts) ≡ true
    → all_nodes (e ∷ l) + all_nodes (if v then without tree_cmp l ts else t ∷ without tree_cmp (e ∷ l) ts)
    ≡ all_nodes (t ∷ ts)) [
      | true ↦ λ q k. let i : node_count t ≡ node_count e =
          ap node_count (same-sound tree_cmp tree_cmp_total tree_same t e q) in
          omega (arith, i, all_nodes-without l ts k)
      | false ↦ λ q k. omega (arith, all_nodes-without (e ∷ l) ts k)
    ] refl h

-- each term has a node
pub length-all_nodes : (ts : List Tree) → length ts ≤ all_nodes ts
length-all_nodes [] = omega arith
length-all_nodes (symbol n ∷ ts) = omega (arith, length-all_nodes ts)
length-all_nodes (app g us ∷ ts) = omega (arith, length-all_nodes ts)

-- the arguments of a term have fewer nodes than the term
pub all_nodes-arguments : (l : List Tree) → all_nodes (arguments l) ≤ all_nodes l
all_nodes-arguments [] = omega arith
all_nodes-arguments (symbol n ∷ []) = omega arith
all_nodes-arguments (app g ts ∷ []) = rw (trees-tree_list ts) (omega arith)
all_nodes-arguments (symbol n ∷ u ∷ l) = omega arith
all_nodes-arguments (app g ts ∷ u ∷ l) = omega arith

-- nothing more is left where the frames settle
pub load-settle : (fs : List Frame) → load (settle fs) ≤ frames_load fs
load-settle [] = omega arith
load-settle (f ∷ fs) =
    elim f.children as
    (λ c. load
    (elim c [
      | no_patterns ↦ if is_done f.left f.owes then settle fs else refused
      | more_patterns p ps ↦ child p (record f { children = ps }) fs
    ]) ≤ all_nodes f.left + frames_load fs) [
      | no_patterns ↦ elim (is_done f.left f.owes) as
          (λ b. load (if b then settle fs else refused) ≤ all_nodes f.left + frames_load fs)
          [ true ↦ omega (arith, load-settle fs) | false ↦ omega arith ]
      | more_patterns p ps ↦ omega arith
    ]

-- nor behind a refusal
load-refused : (T : Table) → load (onward_all refused T) ≡ 0
load-refused [] = refl
load-refused (e ∷ T) = load-refused T

module _ (sig : Sig) where
  -- what is left to a frame is what the entry takes and what it leaves
  load-taken : (p : Pattern) (f : Frame) (fs : List Frame) (e : Entry) → allows sig (child p f fs) e ≡ true
      → all_nodes e.terms + frames_load (taken_out p e f ∷ fs) ≡ load (child p f fs)
  load-taken p f fs e h =
      let i = (and_parts (is_piece tree_cmp (comm_above sig f.under) e.terms f.left) (reads sig p f.under e) h).0 in
      let k = all_nodes-without e.terms f.left
      (sublist-from_piece tree_cmp tree_cmp_total tree_same (comm_above sig f.under) e.terms f.left i) in
      omega (arith, k)

  -- behind an entry that may stand there no more is left than before it
  pub load-onward : (n : Next) (e : Entry) → allows sig n e ≡ true → load (onward n e) ≤ load n
  load-onward ended e h = cc
  load-onward refused e h = cc
  load-onward (child (symbol_pattern n) f fs) e h = omega (
    arith,
    load-settle (taken_out (symbol_pattern n) e f ∷ fs),
    load-taken (symbol_pattern n) f fs e h,
  )
  load-onward (child (wild_pattern w x) f fs) e h = omega (
    arith,
    load-settle (taken_out (wild_pattern w x) e f ∷ fs),
    load-taken (wild_pattern w x) f fs e h,
  )
  load-onward (child (app_pattern g ps) f fs) e h = omega (
    arith,
    load-settle (entered (app_pattern g ps) e (taken_out (app_pattern g ps) e f ∷ fs)),
    load-taken (app_pattern g ps) f fs e h,
    inner e.collapsed e.terms,
  )
    where
      inner : (b : Bool) (l : List Tree) → all_nodes (if b then l else arguments l) ≤ all_nodes l
      inner true l = omega arith
      inner false l = all_nodes-arguments l

  -- behind a wildcard it is less by what the wildcard takes
  pub load-wildcard : (w : Wildcard) (x : Option (List ℕ)) (f : Frame) (fs : List Frame) (e : Entry)
      → allows sig (child (wild_pattern w x) f fs) e ≡ true
      → load (onward (child (wild_pattern w x) f fs) e) + length e.terms ≤ load (child (wild_pattern w x) f fs)
  load-wildcard w x f fs e h = omega (
    arith,
    load-settle (taken_out (wild_pattern w x) e f ∷ fs),
    load-taken (wild_pattern w x) f fs e h,
    length-all_nodes e.terms,
  )

  -- what a node takes is no longer than what is left has nodes
  pub load-terms : (n : Next) (e : Entry) → allows sig n e ≡ true → length e.terms ≤ load n
  load-terms ended e h = cc
  load-terms refused e h = cc
  load-terms (child p f fs) e h = omega (arith, load-taken p f fs e h, length-all_nodes e.terms)

-- what is left to the frame of the child is no longer
pub load-left : (p : Pattern) (f : Frame) (fs : List Frame) → length f.left ≤ load (child p f fs)
load-left p f fs = omega (arith, length-all_nodes f.left)
