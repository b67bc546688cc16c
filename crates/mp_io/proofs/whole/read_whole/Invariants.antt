use Rattle.std.proofs.Common.{◌≡◌, ◌≤◌, ◌+◌, ◌-◌, length, true}
use Rattle.mp_io.specs.Devices.{HasRead, saturating_add}
use Rattle.mp_io.proofs.whole.read_whole.Given as goal

abbrev pub invariant-loop-count : goal.invariant-loop-count
invariant-loop-count g l = record {
  files : g.S.Shelf.files l.shelf ≡ g.S.Shelf.files l.fn.shelf;
  started : g.S.Shelf.is_started l.shelf ≡ true;
  gathered : HasRead (g.S.Shelf.files l.fn.shelf) l.name l.bytes.items (g.S.Shelf.rest l.shelf);
  given : g.S.Shelf.given l.shelf ≡ length l.bytes.items;
  within : length l.bytes.items ≤ l.limit;
  starts : g.S.Shelf.starts l.shelf ≡ saturating_add (g.S.Shelf.starts l.fn.shelf) 1;
  start_faults : g.S.Shelf.start_faults l.fn.shelf ≤ g.S.Shelf.start_faults l.shelf;
  read_faults : g.S.Shelf.read_faults l.fn.shelf ≤ g.S.Shelf.read_faults l.shelf;
  turns : g.S.Shelf.reads l.shelf ≤ g.S.Shelf.reads l.fn.shelf + length l.bytes.items;
}

abbrev pub decreases-loop-count : goal.decreases-loop-count
decreases-loop-count g l = l.limit - length l.bytes.items
