use Rattle.std.proofs.Common.{◌≡◌, [], ◌++◌, Bool, drop, ap, sym, ◌∙◌, arith}
use Rattle.std.specs.Prelude.{None}
use Rattle.std.proofs.lemmas.List.{append-nil, drop_all}
use Rattle.mp_pattern.specs.View.{pattern_tree}
use Rattle.mp_table.specs.Table.{term_at}
use Rattle.mp_table.specs.declared.rank.Rank.{Rank}
use Rattle.mp_theory.specs.Shape.{shape}
use Rattle.mp_ac.proofs.CandidateLaws.{distinct, distinct-candidates}
use Rattle.mp_ac.proofs.candidates.push_candidates.Goals as goal

pub returns : goal.returns
returns c =
    let t = c.args.table.now in
    let q = pattern_tree c.args.pattern.now in
    let ranks = c.args.ranks.now in
    let out = c.loop-rank.out.items in
    let p : Rank → Bool = λ r. shape q (term_at t r) in
    let ends : drop c.loop-rank.rank-index ranks ≡ [] =
    drop_all c.loop-rank.rank-index ranks (omega (arith, c.loop-rank-test.false)) in (
      distinct p None ranks,
      sym (append-nil out) ∙ ap (λ l. out ++ distinct p c.loop-rank.last l) (sym ends) ∙ c.loop-rank.invariant,
      distinct-candidates t q ranks c.requires.ranks c.requires.ascending,
    )
