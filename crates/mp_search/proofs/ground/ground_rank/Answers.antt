use Rattle.std.proofs.Common.{◌≡◌, sym, ◌∙◌, subst}
use Rattle.std.proofs.lemmas.Option.{slice_get_within, get_or_from_slice_get}
use Rattle.mp_pattern.specs.Subpatterns.{subpatterns}
use Rattle.mp_pattern.specs.View.{pattern_tree}
use Rattle.mp_search.specs.Grounds.{ground_of, IsGround}
use Rattle.mp_search.specs.Query.{HoldsGround}
use Rattle.mp_search.specs.declared.grounds.Ground.TheVariants.{At}
use Rattle.mp_search.proofs.GroundLaws.{ground-at, ground-term, ground-within, ground-none}
use Rattle.mp_search.proofs.ground.ground_rank.Goals as goal
use Rattle.mp_term.proofs.ListLaws.{all-get}

pub bounds : goal.bounds
bounds c =
    let q = c.args.query.now in
    let g = ground-at q.table.now (subpatterns q.plan.now.pattern) q.grounds.now c.args.node _
    c.requires.query.grounds c.requires.child in
    slice_get_within q.grounds.now c.args.node g.0 g.1

pub returns-in-At-clause-term : goal.returns-in-At-clause-term
returns-in-At-clause-term c =
    let q = c.args.query.now in
    let p = pattern_tree c.args.child.now in
    let g = ground-at q.table.now (subpatterns q.plan.now.pattern) q.grounds.now c.args.node p
    c.requires.query.grounds c.requires.child in
    let is : g.0 ≡ At c.in-At.rank = sym (get_or_from_slice_get q.grounds.now c.args.node g.0 _ g.1) ∙ c.in-At.is in
    ground-term q.table.now (ground_of p) c.in-At.rank (subst (IsGround q.table.now (ground_of p)) is g.2)

pub returns-in-At-clause-within : goal.returns-in-At-clause-within
returns-in-At-clause-within c =
    let q = c.args.query.now in
    let p = pattern_tree c.args.child.now in
    let g = ground-at q.table.now (subpatterns q.plan.now.pattern) q.grounds.now c.args.node p
    c.requires.query.grounds c.requires.child in
    let is : g.0 ≡ At c.in-At.rank = sym (get_or_from_slice_get q.grounds.now c.args.node g.0 _ g.1) ∙ c.in-At.is in
    ground-within q.table.now (ground_of p) c.in-At.rank (subst (IsGround q.table.now (ground_of p)) is g.2)

pub returns-in_default : goal.returns-in_default
returns-in_default c =
    let q = c.args.query.now in
    let p = pattern_tree c.args.child.now in
    let g = ground-at q.table.now (subpatterns q.plan.now.pattern) q.grounds.now c.args.node p
    c.requires.query.grounds c.requires.child in
    let held = all-get (λ r. HoldsGround q.table.now (ground_of r)) (subpatterns q.plan.now.pattern) c.args.node p
    c.requires.query.holds c.requires.child in
    record {
      term = ground-none q.table.now (ground_of p) g.0 held g.2
          (λ r e. c.in_default.not-At r (get_or_from_slice_get q.grounds.now c.args.node g.0 _ g.1 ∙ e));
      within = tt;
    }
