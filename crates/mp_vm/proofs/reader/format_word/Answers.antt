use Rattle.std.specs.Prelude.{codes}
use Rattle.std.proofs.lemmas.Bool.Decides.{Decides-eqb}
use Rattle.std.proofs.lemmas.Slice.Eq.{strip_prefix_is}
use Rattle.mp_vm.proofs.reader.format_word.Goals as goal

pub returns : goal.returns
returns c =
    strip_prefix_is Decides-eqb c.args.line.now (codes "matchpy program ") c.strip_prefix.result
    c.strip_prefix.ensures.cases
