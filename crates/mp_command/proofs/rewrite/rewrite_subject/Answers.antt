use Rattle.std.proofs.Common.{refl, ap, sym, subst}
use Rattle.mp_io.specs.Moments.{sunk}
use Rattle.mp_command.specs.Answers.{Acts, GoesOn}
use Rattle.mp_command.specs.Messages.{deep_line, large_line}
use Rattle.mp_command.specs.Outcome.{rewritten_before}
use Rattle.mp_command.specs.declared.ending.Told.TheVariants as told
use Rattle.mp_command.specs.declared.ending.Ending.TheVariants as ending
use Rattle.mp_command.proofs.Parted.{told-early}
use Rattle.mp_command.proofs.Rewrites.{computed-deep, computed-large, computed-term}
use Rattle.mp_command.proofs.rewrite.rewrite_subject.Goals as goal

pub returns-in-Err-TooLarge : goal.returns-in-Err-TooLarge
returns-in-Err-TooLarge g c = λ rest.
    let name = c.args.subject.now.name in
    let nodes = c.in-Err-TooLarge.nodes in
    let large = told.TooLarge c.in_ok-copy-in-Err-TooLarge.field-0 nodes in
    subst (λ w. Acts (rewritten_before c.args.sig.now c.args.max name w rest)
    (sunk g.O.Sink c.args.out.now c.args.out.now) (ending.Told large))
    (sym (computed-large _ _ nodes _ c.in-Err-TooLarge.field-0-is c.in-Err-TooLarge.ensures.computed))
    (told-early 7 (large_line name nodes) large _ _ refl
    (ap (λ n. large_line n nodes) c.in_ok-copy-in-Err-TooLarge.ensures))

pub returns-in-Err-TooDeep : goal.returns-in-Err-TooDeep
returns-in-Err-TooDeep g c = λ rest.
    let name = c.args.subject.now.name in
    let depth = c.in-Err-TooDeep.depth in
    let deep = told.TooDeep c.in_ok-copy-in-Err-TooDeep.field-0 depth in
    subst (λ w. Acts (rewritten_before c.args.sig.now c.args.max name w rest)
    (sunk g.O.Sink c.args.out.now c.args.out.now) (ending.Told deep))
    (sym (computed-deep _ _ depth _ c.in-Err-TooDeep.field-0-is c.in-Err-TooDeep.ensures.computed))
    (told-early 7 (deep_line name depth) deep _ _ refl
    (ap (λ n. deep_line n depth) c.in_ok-copy-in-Err-TooDeep.ensures))

pub returns : goal.returns
returns g c = λ rest.
    subst (λ w. GoesOn (rewritten_before c.args.sig.now c.args.max c.args.subject.now.name w rest) rest
    (sunk g.O.Sink c.args.out.now c.finish_subject.new.out) c.finish_subject.result)
    (sym (computed-term _ c.in-Ok.rewritten c.in-Ok.ensures.computed)) (c.finish_subject.ensures rest)
