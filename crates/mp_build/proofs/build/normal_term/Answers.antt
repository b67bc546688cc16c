use Rattle.std.proofs.Common.{◌≡◌, List, [], sym, subst}
use Rattle.mp_term.specs.Tree.{Tree}
use Rattle.mp_term.specs.Normal.{normal}
use Rattle.mp_term.specs.View.{tree}
use Rattle.mp_parser.specs.View.{expr_tree}
use Rattle.mp_build.specs.declared.fault.TextFault.{TextFault}
use Rattle.mp_build.specs.Answers.{Gives}
use Rattle.mp_build.specs.Build.{term_of}
use Rattle.mp_build.proofs.SoundLaws.{well_formed-term_of}
use Rattle.mp_build.proofs.build.normal_term.Goals as goal

pub normal_built-requires : goal.normal_built-requires
normal_built-requires c = rw c.in_ok-term.ensures.1
    (well_formed-term_of c.args.sig.now (expr_tree c.args.expr.now) c.in_ok-term.ensures.0)

pub returns : goal.returns
returns c =
    let sig = c.args.sig.now in
    let P : List TextFault → Tree → Type 0 = λ fs u. Gives c.normal_built.result fs (λ t. tree t ≡ normal sig u) in
    subst (λ fs. P fs (term_of sig (expr_tree c.args.expr.now))) (sym c.in_ok-term.ensures.0)
    (subst (P []) c.in_ok-term.ensures.1 c.normal_built.ensures)
