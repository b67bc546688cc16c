use Rattle.std.proofs.Common.{◌<◌, [], length, take, subst, sym, arith}
use Rattle.std.specs.Prelude.{slice_get}
use Rattle.std.specs.Option.{option_map_or}
use Rattle.mp_io.specs.Writing.{Puts}
use Rattle.mp_io.proofs.WritingLaws.{Puts-then}
use Rattle.mp_token.specs.TokenText.{front_text, next_entry_text}
use Rattle.mp_token.proofs.JoinedTexts.{front_text-take, AllByRecursion-got}
use Rattle.mp_token.specs.Entry.{IsEntry}
use Rattle.mp_token.proofs.printer.put_token.Goals as goal

pub loop-index-preserved : goal.loop-index-preserved
loop-index-preserved g c =
    let t = c.args.token.now in
    let i = c.loop-index.index in
    let within : i < length t.entries = omega arith in
    record {
      puts = subst (Puts g.K.Sink c.args.out.now c.put_entry_of.new.out)
          (sym (front_text-take t.subject t.rule t.entries i within))
          (Puts-then g.K.Sink c.args.out.now c.loop-index.out c.put_entry_of.new.out
          (front_text t.subject t.rule (take i t.entries))
          (option_map_or (next_entry_text i) (slice_get t.entries i) []) c.loop-index.invariant.puts
          c.put_entry_of.ensures.puts);
      fit = AllByRecursion-got IsEntry t.entries i within c.loop-index.invariant.fit c.put_entry_of.ensures.fit;
    }
