use Rattle.std.proofs.Common.{map, sym, ap, ◌∙◌, arith}
use Rattle.std.proofs.lemmas.List.{map_push}
use Rattle.mp_parser.specs.Machine.{AfterFlags, declared, run}
use Rattle.mp_parser.specs.View.{flag_of}
use Rattle.mp_parser.specs.Parsing.{ahead}
use Rattle.mp_parser.proofs.Runs.{breaks}
use Rattle.mp_parser.proofs.parser.Parser.flags.Goals as goal

pub returns-in_err-flag-clause-read : goal.returns-in_err-flag-clause-read
returns-in_err-flag-clause-read c = λ done name least more.
    breaks _ _ _ _ _ _ _ c.from_residual.ensures.1
    (c.loop-flags.invariant.read done name least more)
    (c.in_err-flag.ensures.read done (declared name least more (map flag_of c.loop-flags.flags.items)))

pub loop-flags-preserved : goal.loop-flags-preserved
loop-flags-preserved c = record {
  read = λ done name least more.
      c.loop-flags.invariant.read done name least more
      ∙ c.in_ok-flag.ensures.read done (declared name least more (map flag_of c.loop-flags.flags.items))
      ∙ ap (λ l. run done (AfterFlags (declared name least more l)) (ahead c.flag.new.self))
      (sym (ap (map flag_of) c.in_ok-push.ensures.items ∙ map_push flag_of _ _));
  shorter = omega (arith, c.loop-flags.invariant.shorter, c.in_ok-flag.ensures.shorter);
}
