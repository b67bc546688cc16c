use Rattle.std.proofs.Common.{◌≡◌, ◌<◌, [], length, get_or, Some, None, sym, ◌∙◌, arith}
use Rattle.std.proofs.lemmas.Option.{slice_get-get_or}
use Rattle.mp_program.proofs.TestLaws.{number_in-found, number_in-passed}
use Rattle.mp_program.proofs.renamed.names_before.Goals.{in-Some+else-eq, in_default}
use Rattle.mp_program.proofs.renamed.names_before.Goals as goal

pub loop-index-preserved : goal.loop-index-preserved
loop-index-preserved c = elim c.match-get.branch [
  | in-Some+else-eq w ↦ number_in-passed c.args.names.now c.args.name.now w.in-Some.other.now c.loop-index.index
      w.in-Some.ensures c.loop-index.invariant (sym w.if-eq.ensures)
  | in_default w ↦
      let within : c.loop-index.index < length c.args.names.now =
      omega (arith, c.loop-index-test.true, c.len-index-end.ensures) in
      let wrong : Some (get_or c.args.names.now c.loop-index.index []) ≡ None =
      sym (slice_get-get_or c.args.names.now c.loop-index.index [] within) ∙ w.in_default.ensures in
      cc
]

pub returns-then-eq : goal.returns-then-eq
returns-then-eq c = number_in-found c.args.names.now c.args.name.now c.in-Some.other.now c.loop-index.index
    c.in-Some.ensures c.loop-index.invariant (sym c.if-eq.ensures)
