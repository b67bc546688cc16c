use Rattle.std.proofs.Common.{◌≡◌, ◌∙◌, ap, sym, subst, []}
use Rattle.std.specs.Prelude.{Some, None, Option, option_map, MatchBool, slice_index_or}
use Rattle.mp_term.specs.View.{tree}
use Rattle.mp_pattern.specs.NetTokens.{numbered}
use Rattle.mp_pattern.specs.Value.{one}
use Rattle.mp_term.specs.Tree.{Tree, symbol}
use Rattle.mp_table.specs.Table.{rank_of, term_at, terms_at}
use Rattle.mp_theory.specs.Solve.{bind}
use Rattle.mp_search.proofs.GroundLaws.{ground-term}
use Rattle.mp_ac.specs.Numbered.{numbered_subst}
use Rattle.mp_walk.proofs.front.bind_default.Goals as goal

abbrev option_or : Option Tree → Tree → Tree
option_or None d = d
option_or (Some u) d = u

pub returns-clause-bound : goal.returns-clause-bound
returns-clause-bound c =
    let t = c.args.table.now in
    let d = tree c.args.default.now in
    let is : rank_of t d ≡ Some c.in-Some.rank.0 = sym c.find.ensures ∙ ap (option_map (λ r. r.0)) c.in-Some.is in
    let same : Some (term_at t c.in-Some.rank) ≡ Some d = ground-term t (Some d) c.in-Some.rank is in
    subst (λ v. MatchBool c.bind_value.result
    (bind (numbered_subst t c.args.trail.now.stack) (numbered c.args.var) v
    ≡ Some (numbered_subst t c.bind_value.new.trail.stack))
    (bind (numbered_subst t c.args.trail.now.stack) (numbered c.args.var) v ≡ None))
    (ap (λ rs. one (slice_index_or (terms_at t rs) 0 (symbol []))) c.from_ref.ensures.value
    ∙ ap (λ o. one (option_or o (symbol []))) same) c.bind_value.ensures.bound
