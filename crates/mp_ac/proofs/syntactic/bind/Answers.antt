use Rattle.std.proofs.Common.{◌≡◌, [], ap, sym, subst, slice_index_or}
use Rattle.std.specs.Prelude.{Some, None, MatchBool}
use Rattle.mp_term.specs.Tree.{symbol}
use Rattle.mp_pattern.specs.NetTokens.{numbered}
use Rattle.mp_pattern.specs.Value.{one}
use Rattle.mp_table.specs.Table.{term_at, terms_at}
use Rattle.mp_theory.specs.Solve.{bind}
use Rattle.mp_theory.specs.Filled.{bound}
use Rattle.mp_ac.specs.Numbered.{numbered_subst}
use Rattle.mp_ac.proofs.NumberedLaws.{bind-numbered}
use Rattle.mp_ac.proofs.syntactic.bind.Goals as goal

pub returns-in-Some-clause-bound : goal.returns-in-Some-clause-bound
returns-in-Some-clause-bound c =
    let t = c.args.table.now in
    let old = c.args.trail.now in
    let new = c.bind.new.self in
    let s = numbered_subst t old.stack in
    let term = ap (λ rs. slice_index_or (terms_at t rs) 0 (symbol [])) c.from_ref.ensures.value in
    rw c.in-Some.is (subst (λ x. MatchBool c.bind.result
    (bound (Some x) (term_at t c.args.rank) s ≡ Some (numbered_subst t new.stack))
    (bound (Some x) (term_at t c.args.rank) s ≡ None)) (sym c.number_of-var.ensures.name)
    (subst (λ u. MatchBool c.bind.result (bind s (numbered c.number_of-var.result) (one u)
    ≡ Some (numbered_subst t new.stack)) (bind s (numbered c.number_of-var.result) (one u) ≡ None)) term
    (bind-numbered t old new c.number_of-var.result
    (one (slice_index_or (terms_at t c.from_ref.result.now) 0 (symbol []))) c.number_of-var.ensures.few c.bind.result
    c.bind.ensures.bound c.bind.ensures.clash)))
