-- The terms that the entries of a table are read as.
use Rattle.std.specs.Prelude.{◌≡◌, ⊤, ◌<◌, ℕ, zero, suc, List, [], ◌∷◌, map, length, slice_get, slice_index_or, Some}
use Rattle.std.specs.Prelude.{None, ◌≤◌, slice_range}
use Rattle.std.specs.List.{AllByRecursion}
use Rattle.mp_term.specs.Tree.{Tree, symbol, app, trees}
use Rattle.mp_term.specs.Size.{node_count}
use Rattle.mp_table.specs.Subterms.{arguments}
use Rattle.mp_table.specs.declared.entry.OwnHead.{OwnHead}
use Rattle.mp_table.specs.declared.entry.OwnHead.TheVariants as own
use Rattle.mp_table.specs.declared.entry.Entry.{Entry}
use Rattle.mp_table.specs.declared.rank.Rank.{Rank}
use Rattle.mp_table.specs.declared.rank.Head.{Head}
use Rattle.mp_table.specs.declared.rank.Head.TheVariants as shown

-- the tree with that head and those arguments, of which a symbol has none
abbrev pub with_head : OwnHead → List Tree → Tree
with_head (own.Sym n) us = symbol n
with_head (own.App f) us = app f.0 (trees us)

-- the ranks of an entry's arguments, among those of all entries
abbrev pub args_of : List Rank → Entry → List Rank
args_of rs e = slice_range rs e.from e.end

-- the tree of an entry, where `at` gives that of each rank
abbrev pub entry_tree : List Rank → (ℕ → Tree) → Entry → Tree
entry_tree rs at e = with_head e.head (map (λ r. at r.0) (args_of rs e))

-- the tree of a rank, where it has at most so many nodes
abbrev pub tree_within : List Rank → List Entry → ℕ → ℕ → Tree
tree_within rs es zero r = symbol []
tree_within rs es (suc n) r =
    elim (slice_get es r) [ None ↦ symbol [] | Some e ↦ entry_tree rs (tree_within rs es n) e ]

-- the trees of the entries, each of which says how many nodes it has
abbrev pub entry_trees : List Rank → List Entry → List Tree
entry_trees rs es = map (λ e. entry_tree rs (tree_within rs es e.nodes) e) es

-- the entry stands for the tree t, with its arguments by their ranks in ts
pub record IsEntryOf (rs : List Rank) (ts : List Tree) (t : Tree) (e : Entry) : Type 0 where
  pub tree : entry_tree rs (λ r. slice_index_or ts r (symbol [])) e ≡ t
  pub args : map (λ r. slice_index_or ts r.0 (symbol [])) (args_of rs e) ≡ arguments t
  pub within : AllByRecursion (λ r. r.0 < length ts) (args_of rs e)
  pub begins : e.from ≤ e.end
  pub ends : e.end ≤ length rs
  pub nodes : e.nodes ≡ node_count t

-- each entry stands for its tree
abbrev pub AreEntriesOf : List Rank → List Tree → List Entry → List Tree → Type 0
AreEntriesOf rs ts [] [] = ⊤
AreEntriesOf rs ts [] (u ∷ us) = ⊥
AreEntriesOf rs ts (e ∷ es) [] = ⊥
AreEntriesOf rs ts (e ∷ es) (u ∷ us) = IsEntryOf rs ts u e × AreEntriesOf rs ts es us

-- the entries stand for the trees, an argument by its rank
abbrev pub AreEntries : List Rank → List Entry → List Tree → Type 0
AreEntries rs es ts = AreEntriesOf rs ts es ts

-- the head is that of the tree
abbrev pub IsHeadOf : Head → Tree → Type 0
IsHeadOf (shown.Sym name) (symbol n) = name.now ≡ n
IsHeadOf (shown.Sym name) (app f ts) = ⊥
IsHeadOf (shown.App op) (symbol n) = ⊥
IsHeadOf (shown.App op) (app f ts) = op.0 ≡ f
