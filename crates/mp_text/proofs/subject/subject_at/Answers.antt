use Rattle.std.proofs.Common.{[], refl, ◌∙◌}
use Rattle.mp_parser.specs.Machine.{AfterExpr, InStatement, OfSubject, heading}
use Rattle.mp_parser.specs.View.{spot_of}
use Rattle.mp_text.proofs.SubjectLaws.{is_large_term-taken}
use Rattle.mp_text.proofs.subject.subject_at.Goals as goal

pub returns-clause-read : goal.returns-clause-read
returns-clause-read c =
    let t = rw c.in-Some-2.is at c.in_ok-term.ensures.read in
    let x = InStatement (heading OfSubject (spot_of c.in-Some.name)) in
    record {
      expr = t.expr;
      read = λ done.
          c.in-Some.ensures.read OfSubject refl done
          ∙ t.read done x [] refl
          ∙ c.in-Ok.ensures.read done (AfterExpr x [] t.expr) _ refl;
      faultless = t.faultless;
      term = t.term;
      small = is_large_term-taken t.expr c.read_term.new.left t.count t.small;
    }
