use Rattle.std.proofs.Common.{◌∙◌, ap, sym, subst}
use Rattle.std.specs.Prelude.{slice_get}
use Rattle.mp_io.specs.Moments.{sunk}
use Rattle.mp_pattern.specs.Lists.{IsAllList}
use Rattle.mp_text.specs.File.{file_tree}
use Rattle.mp_command.specs.Answers.{Acts}
use Rattle.mp_command.specs.Computed.{matched_whole, over_syntactic}
use Rattle.mp_command.proofs.Matched.{first_not_syntactic-none, first_not_syntactic-some, is-none, refused-some}
use Rattle.mp_command.proofs.matches.match_by_nets.Goals as goal

pub print_matches-requires-clause-finds : goal.print_matches-requires-clause-finds
print_matches-requires-clause-finds g c = λ t ps h.
    let file = file_tree c.args.file.now in
    let nets = c.in-Ok.nets in
    subst (λ sig. IsAllList sig nets.rules t ps) (sym c.in-Ok.ensures.sig)
    (subst (λ rs. IsAllList file.sig rs t ps) (sym c.in-Ok.ensures.rules) h)

pub returns-in-Ok : goal.returns-in-Ok
returns-in-Ok g c =
    let file = file_tree c.args.file.now in
    let none = first_not_syntactic-none file.sig file.rules (is-none _ c.in-Ok.ensures.refused) in
    subst (λ found. Acts (over_syntactic (matched_whole file c.args.limit) found)
    (sunk g.O.Sink c.args.out.now c.print_matches.new.out) c.print_matches.result) (sym none)
    c.print_matches.ensures

pub returns-in-Err-NotSyntactic : goal.returns-in-Err-NotSyntactic
returns-in-Err-NotSyntactic g c =
    let file = file_tree c.args.file.now in
    let refused = c.in-Err-NotSyntactic in
    let told = first_not_syntactic-some file.sig file.rules refused.rule
    (refused-some _ refused.field-0 refused.rule refused.ensures.only_refused refused.field-0-is) in
    subst (λ found. Acts (over_syntactic (matched_whole file c.args.limit) found)
    (sunk g.O.Sink c.args.out.now c.args.out.now) c.not_syntactic.result) (sym told.2)
    (c.not_syntactic.ensures told.0 _ _ (ap (slice_get file.rules) refused.rule-is ∙ told.1))
