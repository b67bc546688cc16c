use Rattle.std.proofs.Common.{◌∙◌, ◌≡◌, ap, sym, arith}
use Rattle.mp_term.specs.Size.{all_nodes}
use Rattle.mp_term.specs.Tree.{trees}
use Rattle.mp_pattern.specs.Holds.{occurs, occurs_in}
use Rattle.mp_table.specs.Table.{term_at}
use Rattle.mp_table.proofs.PreorderLaws.{node_count_is}
use Rattle.mp_cond.proofs.Occurs.{occurs-itself, occurs-small, occurs-below}
use Rattle.mp_cond.proofs.TermTests.{same_term-other}
use Rattle.mp_cond.proofs.RankOrder.{equal-from_nat_eq, other-from_nat_eq, other_terms}
use Rattle.mp_cond.proofs.rank_subterm.+occurs.Goals as goal

pub returns-then-eq : goal.returns-then-eq
returns-then-eq t c =
    let T = c.args.table.now in
    let same : c.args.rank.0 ≡ c.args.within.0 = equal-from_nat_eq _ _ c.if-eq.ensures in
    sym (ap (λ n. occurs (term_at T (record { 0 = n })) (term_at T c.args.within)) same
    ∙ occurs-itself (term_at T c.args.within))

pub returns-then-nodes : goal.returns-then-nodes
returns-then-nodes t c =
    let T = c.args.table.now in
    let other = other_terms T c.requires.table c.args.rank c.args.within c.requires.rank c.requires.within
    (other-from_nat_eq _ _ c.if-eq.ensures) in
    sym (occurs-small (term_at T c.args.rank) (term_at T c.args.within) other
    (omega (arith, c.nodes.ensures, c.nodes-2.ensures, c.if-nodes.true)))

pub loop-arg-init : goal.loop-arg-init
loop-arg-init t c =
    let T = c.args.table.now in
    let needle = term_at T c.args.rank in
    let whole = term_at T c.args.within in
    let other = other_terms T c.requires.table c.args.rank c.args.within c.requires.rank c.requires.within
    (other-from_nat_eq _ _ c.if-eq.ensures) in
    record {
      ranks = c.args-arg-items.ensures.within;
      smaller = omega (arith, node_count_is whole, ap all_nodes c.args-arg-items.ensures.terms);
      rest = ap (λ us. occurs_in needle (trees us)) c.args-arg-items.ensures.terms
          ∙ sym (occurs-below needle whole (same_term-other needle whole other));
    }
