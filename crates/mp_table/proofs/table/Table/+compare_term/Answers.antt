use Rattle.std.proofs.Common.{◌≡◌, ◌∙◌, ◌<◌, map, length, get_or, sym, arith}
use Rattle.std.proofs.lemmas.List.Elements.{All-from_recursion}
use Rattle.mp_term.specs.View.{tree}
use Rattle.mp_term.proofs.SizeLaws.{node_count-element}
use Rattle.mp_table.specs.Table.{term_at, terms_at, HasRank}
use Rattle.mp_table.proofs.HeadLaws.{app_beside}
use Rattle.mp_table.proofs.table.Table.+compare_term.Goals as goal

pub compare_term-returns-else-own-op : goal.compare_term-returns-else-own-op
compare_term-returns-else-own-op t c =
    let T = c.args.self.now in
    let us = map tree c.as_slice.result.now in
    rw (c.in-App-App.is-1, ← c.as_slice.ensures) (c.compare_terms.ensures
    ∙ sym (app_beside (term_at T c.args.rank) c.in-App-App.own c.in-App-App.op (terms_at T
    c.args-in-App-App.result.now) us
    c.in-App-App.ensures c.args-in-App-App.ensures.terms c.if-own-op.false))

pub compare_terms-compare_term-order-requires : goal.compare_terms-compare_term-order-requires
compare_terms-compare_term-order-requires t c =
    let is : c.index-terms-i.result ≡ get_or c.args.terms.now c.loop-i.i c.index-terms-i.result = c.index-terms-i.is in
    let within : c.loop-i.i < length c.args.terms.now = omega arith in
    let small = node_count-element tree c.args.terms.now c.loop-i.i c.index-terms-i.result within in (
      rw is (omega (arith, c.decreases, small)),
      All-from_recursion (HasRank c.args.self.now) c.args.ranks.now c.requires c.loop-i.i _ (omega arith),
    )
