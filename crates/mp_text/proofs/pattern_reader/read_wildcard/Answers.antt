use Rattle.std.proofs.Common.{refl, sym, ◌∙◌}
use Rattle.mp_parser.specs.declared.limits.TheConstants.{MAX_OPEN}
use Rattle.mp_parser.specs.Syntax.{Wild}
use Rattle.mp_parser.specs.View.{placed, wildcard_of}
use Rattle.mp_parser.proofs.Runs.{wildcard-alone}
use Rattle.mp_build.specs.Build.{variable_of}
use Rattle.mp_text.proofs.ReadPatternLaws.{one-wildcard}
use Rattle.mp_text.proofs.pattern_reader.read_wildcard.Goals as goal

pub returns : goal.returns
returns c =
    let wild = wildcard_of c.args.wild in
    let built = rw (rw c.in-Some.is at c.in_ok-pattern.ensures.value) at c.build_wildcard.ensures in
    λ room. record {
      expr = Wild wild;
      read = λ done x k len.
          wildcard-alone MAX_OPEN done x k wild (placed c.args.parser.now.token) _
          (sym c.sees_default.ensures ∙ c.if-sees_default.false) (sym c.sees_count.ensures ∙ c.if-sees_count.false);
      faultless = built.0;
      pattern = built.1.0;
      one = rw built.1.0 (one-wildcard c.args.sig.now wild (variable_of wild.name));
      wildcards = built.1.1;
      count = refl;
      small = refl;
    }
