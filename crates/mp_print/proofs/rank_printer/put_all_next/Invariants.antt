use Rattle.std.proofs.Common.{◌++◌, map, take}
use Rattle.std.specs.Prelude.{codes}
use Rattle.mp_table.specs.Table.{term_at}
use Rattle.mp_print.specs.KeptTexts.{IsWithin, PutsBut, part_of}
use Rattle.mp_print.specs.Printing.{preceded, term_text}
use Rattle.mp_print.proofs.rank_printer.put_all_next.Given as goal

-- the texts so far were put, each behind a comma, but for the run
abbrev pub invariant-loop-rank : goal.invariant-loop-rank
invariant-loop-rank g l = record {
  within : IsWithin l.base.texts.now l.run;
  puts : PutsBut g.K.Sink l.fn.out l.out
      (part_of l.base.texts.now l.fn.first
      ++ preceded (codes ", ") (take l.rank-index (map (λ r. term_text l.sig (term_at l.base.table.now r)) l.ranks)))
      (part_of l.base.texts.now l.run);
}
