use Rattle.std.proofs.Common.{[], ◌∷◌, ◌++◌, map, sym, ap, ◌∙◌, arith}
use Rattle.std.proofs.lemmas.List.{map_push}
use Rattle.mp_parser.specs.declared.token.Punct.TheVariants.{Comma}
use Rattle.mp_parser.specs.Syntax.{EditOf}
use Rattle.mp_parser.specs.Machine.{Top, Go, edited, with_change, BeforeChange, AfterChange, run}
use Rattle.mp_parser.specs.View.{placed, change_tree}
use Rattle.mp_parser.specs.Parsing.{ahead}
use Rattle.mp_parser.proofs.Runs.{breaks, over-punct, length-passed}
use Rattle.mp_parser.proofs.EditRuns.{change-again, changes-end}
use Rattle.mp_parser.proofs.parser.Parser.changes.Goals as goal

pub returns-in_err-change-clause-read : goal.returns-in_err-change-clause-read
returns-in_err-change-clause-read c = λ done subject.
    breaks _ _ _ _ _ _ _ c.from_residual.ensures.1
    (c.loop-changes.invariant.read done subject)
    (c.in_err-change.ensures.read done (edited subject (map change_tree c.loop-changes.changes.items)))

pub loop-changes-preserved : goal.loop-changes-preserved
loop-changes-preserved c =
    let held = sym c.sees.ensures ∙ c.if-not-sees.false in
    record {
      read = λ done subject.
          let d = edited subject (map change_tree c.loop-changes.changes.items) in
          let x = change_tree c.in_ok-change.field-0 in
          c.loop-changes.invariant.read done subject
          ∙ c.in_ok-change.ensures.read done d
          ∙ over-punct Comma (placed c.change.new.self.token) _ _ c.advance.ensures held done (AfterChange d x)
          (Go (BeforeChange (with_change d x))) (change-again d x (placed c.change.new.self.token) held)
          ∙ ap (λ l. run done (BeforeChange (edited subject l)) (ahead c.advance.new.self))
          (sym (ap (map change_tree) c.in_ok-push.ensures.items ∙ map_push change_tree _ _));
      shorter = let passed = length-passed Comma (placed c.change.new.self.token) _ _ c.advance.ensures held in
          omega (arith, passed, c.in_ok-change.ensures.shorter, c.loop-changes.invariant.shorter);
    }

pub returns-in_err-expect-clause-read : goal.returns-in_err-expect-clause-read
returns-in_err-expect-clause-read c = λ done subject.
    let d = edited subject (map change_tree c.loop-changes.changes.items) in
    let x = change_tree c.in_ok-change.field-0 in
    breaks _ _ _ _ _ _ _ c.from_residual-in_err-expect.ensures.1
    (c.loop-changes.invariant.read done subject ∙ c.in_ok-change.ensures.read done d)
    (c.in_err-expect.ensures.read done (AfterChange d x) _
    (changes-end d x (placed c.change.new.self.token) (sym c.sees.ensures ∙ c.if-not-sees.true)))

pub returns-clause-read : goal.returns-clause-read
returns-clause-read c = λ done subject.
    let d = edited subject (map change_tree c.loop-changes.changes.items) in
    let x = change_tree c.in_ok-change.field-0 in
    c.loop-changes.invariant.read done subject
    ∙ c.in_ok-change.ensures.read done d
    ∙ c.in_ok-expect.ensures.read done (AfterChange d x) _
    (changes-end d x (placed c.change.new.self.token) (sym c.sees.ensures ∙ c.if-not-sees.true))
    ∙ ap (λ l. run (done ++ EditOf subject l ∷ []) Top (ahead c.expect.new.self))
    (sym (ap (map change_tree) c.in_ok-push.ensures.items ∙ map_push change_tree _ _))
