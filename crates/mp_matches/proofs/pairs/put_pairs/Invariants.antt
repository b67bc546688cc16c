use Rattle.std.proofs.Common.{◌≡◌, List, ◌++◌, drop, map}
use Rattle.mp_io.specs.Devices.{Text}
use Rattle.mp_text.specs.File.{subject_tree}
use Rattle.mp_matches.specs.PairsListed.{front_lines, named, pair_line}
use Rattle.mp_matches.specs.PrintedPairs.{PutsUpTo}
use Rattle.mp_matches.specs.declared.told.Told.TheVariants as told
use Rattle.mp_matches.proofs.pairs.put_pairs.Given as goal

abbrev pub invariant-loop-pair : goal.invariant-loop-pair
invariant-loop-pair g l = record {
  same : l.out.sink.ghost_name ≡ l.fn.out.sink.ghost_name;
  put : (rest : List Text) → PutsUpTo g.O.Sink
      (front_lines l.fn.left
      (map (pair_line l.sig (named l.names) (subject_tree l.subject)) (map g.L.Line.pair l.pairs) ++ rest))
      (front_lines l.left
      (map (pair_line l.sig (named l.names) (subject_tree l.subject)) (map g.L.Line.pair (drop l.pair-index l.pairs))
      ++ rest))
      l.fn.out l.out (told.All l.any);
}
