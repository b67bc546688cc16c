-- Entries that stand for trees are read as these trees.
use Rattle.std.proofs.Common.{◌≡◌, ℕ, zero, suc, ◌+◌, ◌<◌, ◌≤◌, List, [], ◌∷◌, ◌++◌, map, length, get_or, refl, ap, sym}
use Rattle.std.proofs.Common.{◌∙◌}
use Rattle.std.proofs.Common.{subst, arith, take, drop, ◌-◌, length-append}
use Rattle.std.proofs.lemmas.List.{take-append-drop, take-append-le, drop-append-le, length-drop}
use Rattle.std.specs.Prelude.{Some, None, slice_get}
use Rattle.std.specs.List.{AllByRecursion}
use Rattle.mp_term.specs.Size.{node_count, all_nodes}
use Rattle.mp_term.specs.Tree.{Tree, symbol}
use Rattle.mp_table.specs.declared.entry.Entry.{Entry}
use Rattle.mp_table.specs.declared.rank.Rank.{Rank}
use Rattle.mp_table.specs.Reading.{with_head, args_of, entry_tree, tree_within, entry_trees, IsEntryOf}
use Rattle.mp_table.specs.Reading.{AreEntriesOf, AreEntries}
use Rattle.mp_table.specs.Subterms.{arguments}
use Rattle.mp_term.specs.Listing.{In}
use Rattle.mp_table.proofs.PreorderLaws.{node_count_is}
use Rattle.mp_table.proofs.TextLaws.{in-place}

pub length-kept : (rs ss : List Rank) → take (length rs) ss ≡ rs → length rs ≤ length ss
length-kept rs ss kept = omega (
  arith,
  ap length kept,
  ap length (take-append-drop (length rs) ss),
  length-append (take (length rs) ss) (drop (length rs) ss),
)

-- what is put behind the ranks leaves the arguments of an entry as they are
args_kept : (rs ss : List Rank) (e : Entry) → e.from ≤ e.end → e.end ≤ length rs → take (length rs) ss ≡ rs
    → args_of rs e ≡ args_of ss e
args_kept rs ss e begins ends kept =
    let more = drop (length rs) ss in
    sym (take-append-le (e.end - e.from) (drop e.from rs) more (omega (arith, begins, ends, length-drop e.from rs)))
    ∙ ap (take (e.end - e.from)) (sym (drop-append-le e.from rs more (omega (arith, begins, ends))))
    ∙ ap (λ l. args_of l e) (ap (λ l. l ++ more) (sym kept) ∙ take-append-drop (length rs) ss)

-- an entry still stands for its tree, and so do all
pub entry_kept : (rs ss : List Rank) (ts : List Tree) (u : Tree) (e : Entry) → take (length rs) ss ≡ rs
    → IsEntryOf rs ts u e → IsEntryOf ss ts u e
entry_kept rs ss ts u e kept h =
    let same = args_kept rs ss e h.begins h.ends kept in
    record {
      tree = subst (λ l. with_head e.head (map (λ r. get_or ts r.0 (symbol [])) l) ≡ u) same h.tree;
      args = subst (λ l. map (λ r. get_or ts r.0 (symbol [])) l ≡ arguments u) same h.args;
      within = subst (AllByRecursion (λ r. r.0 < length ts)) same h.within;
      begins = h.begins;
      ends = omega (arith, h.ends, length-kept rs ss kept);
      nodes = h.nodes;
    }

pub entries_kept : (rs ss : List Rank) (ts : List Tree) (es : List Entry) (us : List Tree) → take (length rs) ss ≡ rs
    → AreEntriesOf rs ts es us → AreEntriesOf ss ts es us
entries_kept rs ss ts [] [] kept h = tt
entries_kept rs ss ts [] (v ∷ us) kept h = absurd h
entries_kept rs ss ts (f ∷ es) [] kept h = absurd h
entries_kept rs ss ts (f ∷ es) (v ∷ us) kept h =
    (entry_kept rs ss ts v f kept h.0, entries_kept rs ss ts es us kept h.1)

module _ (ranks : List Rank) (ts : List Tree) where
  abbrev at : ℕ → Tree
  at r = get_or ts r (symbol [])

  -- one entry more
  pub entries_push : (es : List Entry) (us : List Tree) (e : Entry) (u : Tree) → AreEntriesOf ranks ts es us
      → IsEntryOf ranks ts u e
      → AreEntriesOf ranks ts (es ++ e ∷ []) (us ++ u ∷ [])
  entries_push [] [] e u h k = (k, tt)
  entries_push [] (v ∷ us) e u h k = absurd h
  entries_push (f ∷ es) [] e u h k = absurd h
  entries_push (f ∷ es) (v ∷ us) e u h k = (h.0, entries_push es us e u h.1 k)

  pub length-entries : (es : List Entry) (us : List Tree) → AreEntriesOf ranks ts es us → length es ≡ length us
  length-entries [] [] h = refl
  length-entries [] (v ∷ us) h = absurd h
  length-entries (f ∷ es) [] h = absurd h
  length-entries (f ∷ es) (v ∷ us) h = omega (arith, length-entries es us h.1)

  -- the entry at a rank
  pub entry_at : (es : List Entry) (us : List Tree) (r : ℕ) (e : Entry) → AreEntriesOf ranks ts es us → r < length es
      → IsEntryOf ranks ts (get_or us r (symbol [])) (get_or es r e)
  entry_at [] us r e h k = absurd (omega arith)
  entry_at (f ∷ es) [] r e h k = absurd h
  entry_at (f ∷ es) (v ∷ us) zero e h k = h.0
  entry_at (f ∷ es) (v ∷ us) (suc r) e h k = entry_at es us r e h.1 (omega arith)

  found : (es : List Entry) (us : List Tree) (r : ℕ) → AreEntriesOf ranks ts es us → r < length us
      → (e : Entry) × (slice_get es r ≡ Some e) × IsEntryOf ranks ts (get_or us r (symbol [])) e
  found [] [] r h k = absurd (omega arith)
  found [] (v ∷ us) r h k = absurd h
  found (f ∷ es) [] r h k = absurd h
  found (f ∷ es) (v ∷ us) zero h k = (f, refl, h.0)
  found (f ∷ es) (v ∷ us) (suc r) h k = found es us r h.1 (omega arith)

  -- the arguments of an entry are read, where each tree of so many nodes is
  read_args : (f : ℕ → Tree) (n : ℕ) → ((r : ℕ) → r < length ts → node_count (at r) ≤ n → f r ≡ at r)
      → (rs : List Rank) → AllByRecursion (λ r. r.0 < length ts) rs → all_nodes (map (λ r. at r.0) rs) ≤ n
      → map (λ r. f r.0) rs ≡ map (λ r. at r.0) rs
  read_args f n each [] h k = refl
  read_args f n each (r ∷ rs) h k =
      let first : f r.0 ≡ at r.0 = each r.0 h.0 (omega arith) in
      let rest : map (λ r. f r.0) rs ≡ map (λ r. at r.0) rs = read_args f n each rs h.1 (omega arith) in
      (λ i. first i ∷ rest i)

  read_entry : (f : ℕ → Tree) (n : ℕ) → ((r : ℕ) → r < length ts → node_count (at r) ≤ n → f r ≡ at r) → (u : Tree)
      → (e : Entry) → IsEntryOf ranks ts u e → node_count u ≤ n + 1 → entry_tree ranks f e ≡ u
  read_entry f n each u e h k =
      ap (with_head e.head) (read_args f n each (args_of ranks e) h.within
      (rw h.args (omega (arith, node_count_is u)))) ∙ h.tree

  read_within : (es : List Entry) → AreEntries ranks es ts → (n r : ℕ) → r < length ts → node_count (at r) ≤ n
      → tree_within ranks es n r ≡ at r
  read_within es h zero r k l = absurd (omega (arith, l, node_count_is (at r)))
  read_within es h (suc n) r k l =
      let b = found es ts r h k in
      ap (λ o. elim o [ None ↦ symbol [] | Some e ↦ entry_tree ranks (tree_within ranks es n) e ]) b.1
      ∙ read_entry (tree_within ranks es n) n (read_within es h n) (at r) b.0 b.2 (omega arith)

  read_all : (es : List Entry) → AreEntries ranks es ts → (fs : List Entry) (us : List Tree)
      → AreEntriesOf ranks ts fs us
      → map (λ e. entry_tree ranks (tree_within ranks es e.nodes) e) fs ≡ us
  read_all es h [] [] k = refl
  read_all es h [] (v ∷ us) k = absurd k
  read_all es h (f ∷ fs) [] k = absurd k
  read_all es h (f ∷ fs) (v ∷ us) k =
      let first : entry_tree ranks (tree_within ranks es f.nodes) f ≡ v =
      read_entry (tree_within ranks es f.nodes) f.nodes (read_within es h f.nodes) v f k.0 (omega (arith, k.0.nodes)) in
      let rest : map (λ e. entry_tree ranks (tree_within ranks es e.nodes) e) fs ≡ us = read_all es h fs us k.1 in
      (λ i. first i ∷ rest i)

  -- entries that stand for trees are read as these
  pub entry_trees-is : (es : List Entry) → AreEntries ranks es ts → entry_trees ranks es ≡ ts
  entry_trees-is es h = read_all es h es ts h

  all_in_trees : (rs : List Rank) → AllByRecursion (λ r. r.0 < length ts) rs
      → AllByRecursion (λ v. In v ts) (map (λ r. at r.0) rs)
  all_in_trees [] h = tt
  all_in_trees (r ∷ rs) h = (in-place ts r.0 h.0, all_in_trees rs h.1)

  -- the arguments are among the trees
  pub arguments_there : (es : List Entry) (us : List Tree) → AreEntriesOf ranks ts es us
      → AllByRecursion (λ u. AllByRecursion (λ v. In v ts) (arguments u)) us
  arguments_there [] [] h = tt
  arguments_there [] (v ∷ us) h = absurd h
  arguments_there (f ∷ es) [] h = absurd h
  arguments_there (f ∷ es) (v ∷ us) h = (
    subst (AllByRecursion (λ w. In w ts)) h.0.args (all_in_trees (args_of ranks f) h.0.within),
    arguments_there es us h.1,
  )

  -- what is read at a rank stands for its tree
  pub entry_read : (es : List Entry) (r : ℕ) (e : Entry) → AreEntries ranks es ts → r < length ts → e ≡ get_or es r e
      → IsEntryOf ranks ts (at r) e
  entry_read es r e h k is =
      subst (IsEntryOf ranks ts (at r)) (sym is) (entry_at es ts r e h (omega (arith, k, length-entries es ts h)))
