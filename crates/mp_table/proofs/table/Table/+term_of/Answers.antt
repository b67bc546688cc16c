use Rattle.std.proofs.Common.{ap, refl, arith}
use Rattle.std.proofs.lemmas.List.Elements.{All-from_recursion}
use Rattle.mp_term.specs.Size.{all_nodes}
use Rattle.mp_term.proofs.SizeLaws.{node_count-element}
use Rattle.mp_table.specs.Subterms.{arguments}
use Rattle.mp_table.specs.Table.{term_at, terms_at, HasRank}
use Rattle.mp_table.proofs.HeadLaws.{app_is}
use Rattle.mp_table.proofs.PreorderLaws.{node_count_is, at_end}
use Rattle.mp_table.proofs.table.Table.+term_of.Goals as goal

pub term_of-requires : goal.term_of-requires
term_of-requires t c =
    let T = c.args.self.now in
    let rs = c.args-arg-items.result.now in
    let small = node_count-element (term_at T) rs c.loop-arg.arg-index (record { 0 = 0 }) c.loop-arg-test.true in
    let own = node_count_is (term_at T c.args.rank) in (
      omega (arith, c.decreases, small, own, ap all_nodes c.args-arg-items.ensures.terms),
      All-from_recursion (HasRank T) rs c.args-arg-items.ensures.within c.loop-arg.arg-index _ c.loop-arg-test.true,
    )

pub returns-after-loop-arg : goal.returns-after-loop-arg
returns-after-loop-arg t c =
    let T = c.args.self.now in
    app_is (term_at T c.args.rank) c.in-App.op c.loop-arg.terms c.in-App.ensures
    (at_end (terms_at T) refl c.loop-arg.terms (arguments (term_at T c.args.rank)) c.args-arg-items.result.now
    c.loop-arg.arg-index c.loop-arg-test.false c.loop-arg.invariant.copied)
