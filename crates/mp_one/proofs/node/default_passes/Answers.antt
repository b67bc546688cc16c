use Rattle.std.proofs.Common.{◌≡◌, ℕ, ◌<◌, List, [], ◌∷◌, length, refl, ◌∙◌, arith}
use Rattle.std.specs.Prelude.{Some}
use Rattle.std.specs.Borrow.{Bor}
use Rattle.mp_term.specs.Tree.{Tree}
use Rattle.mp_term.specs.View.{tree}
use Rattle.mp_term.specs.declared.term.Term.{Term}
use Rattle.mp_term.specs.Signature.{Sig}
use Rattle.mp_term.specs.NormalTest.{passes}
use Rattle.mp_term.proofs.NormalTestLaws.{normal-passes}
use Rattle.mp_pattern.specs.PatternTree.{optional}
use Rattle.mp_theory.specs.Machine.{default_passes}
use Rattle.mp_theory.proofs.Wildcards.{final-passes}
use Rattle.mp_one.specs.Lists.{trees_of}
use Rattle.mp_term.proofs.ListLaws.{bool_same}
use Rattle.mp_one.proofs.node.default_passes.Goals as goal

-- a variable that takes nothing
left_out : (sig : Sig) (x : List ℕ) (d : Tree) (ts : List (Bor Term)) → length ts < 1
    → passes sig d ≡ default_passes sig (Some x) (optional d) (trees_of ts)
left_out sig x d [] h = refl
left_out sig x d (t ∷ ts) h = absurd (omega (arith, h))

pub returns-in-Some-Opt-empty : goal.returns-in-Some-Opt-empty
returns-in-Some-Opt-empty c =
    let sig = c.args.sig.now in
    let m = c.in-Some-Opt-empty in
    let d = tree m.default in
    rw (m.is-0, m.is-1)
    (bool_same _ _ (λ e. final-passes sig d (c.is_normal.ensures.0 e))
    (λ e. c.is_normal.ensures.1 (normal-passes sig d e)) ∙ left_out sig m.field-0-0 d c.args.terms.now m.len_below)
