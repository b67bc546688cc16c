use Rattle.std.proofs.Common.{◌<◌, ◌++◌, length, get_or, take, subst, sym, arith}
use Rattle.std.specs.Prelude.{codes, decimal}
use Rattle.mp_io.specs.Writing.{Puts}
use Rattle.mp_io.proofs.WritingLaws.{Puts-then}
use Rattle.mp_io.specs.Printing.{gap_text}
use Rattle.mp_token.specs.Entry.{IsRank}
use Rattle.mp_token.specs.Machine.{rank}
use Rattle.mp_token.specs.TokenText.{ranks_text}
use Rattle.mp_token.proofs.JoinedTexts.{ranks_text-take, AllByRecursion-take}
use Rattle.mp_token.proofs.printer.put_ranks.Goals as goal

pub loop-index-preserved : goal.loop-index-preserved
loop-index-preserved g c =
    let ranks = c.args.ranks.now in
    let i = c.loop-index.index in
    let within : i < length ranks = omega arith in
    record {
      puts = subst (Puts g.K.Sink c.args.out.now c.put_rank.new.out) (sym (ranks_text-take ranks i (rank 0) within))
          (Puts-then g.K.Sink c.args.out.now c.loop-index.out c.put_rank.new.out (ranks_text (take i ranks))
          (gap_text (codes ",") i ++ decimal (get_or ranks i (rank 0)).0) c.loop-index.invariant.puts
          (Puts-then g.K.Sink c.loop-index.out c.put_gap.new.out c.put_rank.new.out (gap_text (codes ",") i)
          (decimal (get_or ranks i (rank 0)).0) c.put_gap.ensures c.put_rank.ensures.puts));
      fit = AllByRecursion-take IsRank ranks i (rank 0) within c.loop-index.invariant.fit c.put_rank.ensures.fit;
    }
