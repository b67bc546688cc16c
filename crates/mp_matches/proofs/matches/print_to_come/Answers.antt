use Rattle.std.proofs.Common.{◌≡◌, rules}
use Rattle.mp_io.specs.Moments.{sunk}
use Rattle.mp_pattern.specs.RuleView.{rule_tree}
use Rattle.mp_text.specs.File.{subject_tree}
use Rattle.mp_matches.specs.Computed.{matches_of}
use Rattle.mp_matches.specs.Left.{left_of, printed}
use Rattle.mp_matches.specs.Printed.{PrintsMatches}
use Rattle.mp_matches.specs.declared.stop.Stop.TheVariants as stop
use Rattle.mp_matches.proofs.PutLaws.{PutsMatches-cut_off, PutsMatches-same}
use Rattle.mp_matches.proofs.SoFar.{matches-err}
use Rattle.mp_matches.proofs.matches.print_to_come.Goals as goal

pub returns-in_err-finish-clause-prints : goal.returns-in_err-finish-clause-prints
returns-in_err-finish-clause-prints g c =
    let whole = printed c.args.cursor.now.sig (left_of c.args.left.now)
    (matches_of (subject_tree c.args.subject.now) (rule_tree c.args.rule.now) c.args.cursor.now.to_come) in
    let left = left_of c.put_to_come-told.new.left in
    let told = c.put_to_come-told in
    let start = c.args.out.now in
    let new = c.finish.new.self.0 in
    let same : told.new.out.sink.ghost_name ≡ c.new-out.result.sink.ghost_name =
    PutsMatches-same g.O.Sink whole c.new-out.result told.new.out left told.result told.ensures.puts in
    let ended : PrintsMatches whole (sunk g.O.Sink start new) left c.from_residual.result =
    matches-err whole (sunk g.O.Sink start new) left stop.CannotWrite c.from_residual.result c.from_residual.ensures.1
    (PutsMatches-cut_off g.O.Sink start new c.new-out.result told.new.out c.new-out.ensures.none
    c.in_err-finish.field-0.0 (λ text h. c.in_err-finish.ensures.prints start text h) whole left told.result
    told.ensures.puts) in
    search (rules, ended, same)
