use Rattle.std.proofs.Common.{[], rules, sym, true≢false}
use Rattle.mp_io.specs.Moments.{sunk}
use Rattle.mp_matches.specs.PairsListed.{front_lines}
use Rattle.mp_matches.specs.PrintedPairs.{PrintsUpTo}
use Rattle.mp_matches.specs.declared.stop.Stop.TheVariants as stop
use Rattle.mp_matches.proofs.PairsLaws.{up_to-cut_off, up_to-finished}
use Rattle.mp_matches.proofs.SoFar.{of-err}
use Rattle.mp_matches.proofs.pairs.print_subjects.Goals as goal

pub returns-in_err-finish : goal.returns-in_err-finish
returns-in_err-finish g c all joined =
    let whole = front_lines c.args.left.now all in
    let told = c.put_subjects-told in
    let behind = front_lines told.new.left [] in
    let out = sunk g.O.Sink c.args.out.now c.finish.new.self.0 in
    let ended : PrintsUpTo whole behind out c.from_residual.result =
    of-err (PrintsUpTo whole behind out) c.from_residual.result stop.CannotWrite c.from_residual.ensures.1
    (up_to-cut_off g.O.Sink whole behind c.args.out.now c.finish.new.self.0 c.new-out.result told.new.out
    c.new-out.ensures.none c.in_err-finish.field-0.0
    (λ text h. c.in_err-finish.ensures.prints c.args.out.now text h) told.result (told.ensures.puts all joined)) in
    search (rules, ended)

pub returns : goal.returns
returns g c all joined =
    let whole = front_lines c.args.left.now all in
    let told = c.put_subjects-told in
    let behind = front_lines told.new.left [] in
    let ended : PrintsUpTo whole behind (sunk g.O.Sink c.args.out.now c.finish.new.self.0) told.result =
    up_to-finished g.O.Sink whole behind c.args.out.now c.finish.new.self.0 c.new-out.result told.new.out
    c.new-out.ensures.none c.in_ok-finish.field-0
    (λ text h. c.in_ok-finish.ensures.prints c.args.out.now text h)
    (λ h. true≢false (sym (c.in_ok-finish.ensures.failed h))) told.result (told.ensures.puts all joined) in
    search (rules, ended)
