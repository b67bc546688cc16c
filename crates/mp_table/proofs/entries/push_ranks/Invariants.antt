use Rattle.std.proofs.Common.{◌≡◌, ◌+◌, ◌-◌, ◌<◌, ◌≤◌, List, [], map, length, take, drop, get_or}
use Rattle.std.specs.List.{AllByRecursion}
use Rattle.mp_term.specs.Tree.{Tree, symbol}
use Rattle.mp_term.specs.Size.{all_nodes}
use Rattle.mp_table.specs.Subterms.{arguments}
use Rattle.mp_table.specs.Pieces.{AreRanks}
use Rattle.mp_table.specs.Text.{shown, ranks}
use Rattle.mp_table.proofs.entries.push_ranks.Given as goal

abbrev pub invariant-loop-next : goal.invariant-loop-next
invariant-loop-next l = record {
  more : length l.fn.args.items ≤ length l.args.items;
  kept : take (length l.fn.args.items) l.args.items ≡ l.fn.args.items;
  few : length (drop (length l.fn.args.items) l.args.items)
      ≤ length (arguments (get_or (shown l.text) l.start (symbol [])));
  next : l.next ≡ l.start + 1 + all_nodes (take (length (drop (length l.fn.args.items) l.args.items))
      (arguments (get_or (shown l.text) l.start (symbol []))));
  terms : (us : List Tree) → AreRanks (shown l.text) us (ranks l.text)
      → map (λ r. get_or us r.0 (symbol [])) (drop (length l.fn.args.items) l.args.items)
      ≡ take (length (drop (length l.fn.args.items) l.args.items))
      (arguments (get_or (shown l.text) l.start (symbol [])));
  within : (us : List Tree) → AreRanks (shown l.text) us (ranks l.text)
      → AllByRecursion (λ r. r.0 < length us) (drop (length l.fn.args.items) l.args.items);
}

abbrev pub decreases-loop-next : goal.decreases-loop-next
decreases-loop-next l = l.end - l.next
