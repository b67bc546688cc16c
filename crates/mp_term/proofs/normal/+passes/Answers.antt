use Rattle.std.proofs.Common.{◌≡◌, ◌∙◌, ap, sym, map}
use Rattle.mp_term.specs.Tree.{trees}
use Rattle.mp_term.specs.View.{tree}
use Rattle.mp_term.specs.NormalTest.{all_pass}
use Rattle.mp_term.proofs.NormalTestLaws.{passes-refused, passes-arranged}
use Rattle.mp_term.proofs.normal.+passes.Goals as goal

pub returns-then-not-is_arranged : goal.returns-then-not-is_arranged
returns-then-not-is_arranged t c =
    rw c.in-App.is
    (passes-refused c.args.sig.now c.in-App.op.0 c.in-App.args
    (sym c.is_arranged.ensures ∙ c.if-not-is_arranged.true))

pub loop-arg-init : goal.loop-arg-init
loop-arg-init t c =
    let all : map tree c.deref-arg-items.result.now ≡ c.in-App.args = cc in
    record {
      assoc = c.is_assoc-assoc.ensures;
      rest = rw c.in-App.is (ap (λ ts. all_pass c.args.sig.now c.in-App.op.0 (trees ts)) all
          ∙ passes-arranged c.args.sig.now c.in-App.op.0 c.in-App.args
          (sym c.is_arranged.ensures ∙ c.if-not-is_arranged.false));
    }
