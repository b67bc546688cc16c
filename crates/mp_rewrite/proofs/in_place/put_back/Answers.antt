use Rattle.std.proofs.Common.{◌≡◌, ◌+◌, ℕ, ap, length, subst, arith}
use Rattle.std.specs.Prelude.{IfOk}
use Rattle.std.proofs.lemmas.List.Edits.{length-remove}
use Rattle.mp_term.specs.Size.{all_nodes, node_count}
use Rattle.mp_term.specs.View.{tree}
use Rattle.mp_rewrite.proofs.in_place.put_back.Goals as goal

pub put_among-requires-clause-same : goal.put_among-requires-clause-same
put_among-requires-clause-same c =
    let i = c.args.index in
    omega (
      arith,
      c.requires.within,
      c.requires.same,
      ap length c.remove.ensures.rest,
      ap length c.remove-3.ensures.rest,
      length-remove c.args.args.terms i c.requires.within,
      length-remove c.args.args.known i (omega (arith, c.requires.within, c.requires.same)),
    )

pub returns-clause-nodes : goal.returns-clause-nodes
returns-clause-nodes c =
    subst (λ ts. IfOk c.put_among.result (λ m. (rest : ℕ)
    → c.args.changed.nodes ≡ node_count (tree c.args.changed.term) + (all_nodes ts + 1 + rest)
    → m.nodes ≡ node_count (tree m.term) + rest)) c.remove.ensures.rest c.put_among.ensures.nodes
