use Rattle.std.proofs.Common.{◌∙◌, sym}
use Rattle.std.proofs.lemmas.Bool.Decides.{Decides-eqb}
use Rattle.std.proofs.lemmas.Slice.Eq.{slice_eq-Decides}
use Rattle.mp_vm.proofs.FormReading.{decimal-one, decimal-two}
use Rattle.mp_vm.proofs.reader.format_named.Goals as goal

pub returns-then-eq : goal.returns-then-eq
returns-then-eq c =
    (slice_eq-Decides Decides-eqb c.args.word.now c.as_slice.result.now c.eq.result c.eq.ensures).0 c.if-eq.true
    ∙ c.as_slice.ensures ∙ sym decimal-one

pub returns-then-eq-2 : goal.returns-then-eq-2
returns-then-eq-2 c =
    (slice_eq-Decides Decides-eqb c.args.word.now c.as_slice-2.result.now c.eq-2.result c.eq-2.ensures).0 c.if-eq-2.true
    ∙ c.as_slice-2.ensures ∙ sym decimal-two
