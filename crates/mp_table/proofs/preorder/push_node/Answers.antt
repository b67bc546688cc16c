use Rattle.std.proofs.Common.{◌∙◌, ◌+◌, ◌^◌, ◌≤◌, ap, arith, subst, sym}
use Rattle.std.proofs.lemmas.List.{map_push}
use Rattle.std.proofs.lemmas.List.Elements.{All-push}
use Rattle.std.specs.List.{All}
use Rattle.mp_term.specs.View.{tree}
use Rattle.mp_table.specs.Text.{shown, counts, ranks}
use Rattle.mp_table.specs.declared.node.Node.{Node}
use Rattle.mp_table.proofs.preorder.push_node.Goals as goal

pub returns-clause-terms : goal.returns-clause-terms
returns-clause-terms c =
    let first : Node = record { term = c.args.term; nodes = 1; rank = 4294967295 } in
    ap shown c.in_ok-push.ensures.items ∙ map_push (λ n. tree n.term.now) c.args.found.now.items first

pub returns-clause-nodes : goal.returns-clause-nodes
returns-clause-nodes c =
    let first : Node = record { term = c.args.term; nodes = 1; rank = 4294967295 } in
    ap counts c.in_ok-push.ensures.items ∙ map_push (λ n. n.nodes) c.args.found.now.items first

pub returns-clause-unranked : goal.returns-clause-unranked
returns-clause-unranked c =
    let old = c.args.found.now.items in
    let first : Node = record { term = c.args.term; nodes = 1; rank = 4294967295 } in
    subst (All (λ r. 2 ^ 32 ≤ r + 1))
    (sym (ap ranks c.in_ok-push.ensures.items ∙ map_push (λ n. n.rank) old first))
    (All-push (λ r. 2 ^ 32 ≤ r + 1) (ranks old) 4294967295 c.requires (omega arith))
