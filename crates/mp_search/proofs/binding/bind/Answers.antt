use Rattle.std.proofs.Common.{◌≡◌, ◌<◌, refl, sym, subst}
use Rattle.std.proofs.lemmas.Bool.{and_parts}
use Rattle.mp_term.specs.Sorting.{sorted}
use Rattle.mp_term.proofs.ListingLaws.{all_in}
use Rattle.mp_pattern.specs.View.{pattern_tree}
use Rattle.mp_pattern.specs.Variables.{comm_above}
use Rattle.mp_table.specs.Table.{rank_cmp, terms_at}
use Rattle.mp_term.specs.Order.{tree_cmp}
use Rattle.mp_term.specs.Pieces.{is_piece}
use Rattle.mp_search.specs.Frames.{above}
use Rattle.mp_search.specs.Numbers.{IsNumberAt}
use Rattle.mp_subst.proofs.TrailLaws.{cut-whole}
use Rattle.mp_search.proofs.BindLaws.{number-listed}
use Rattle.mp_search.proofs.EndLaws.{ranks-ascend}
use Rattle.mp_search.proofs.OnlyLaws.{only-same}
use Rattle.mp_search.proofs.SiteLaws.{site-node}
use Rattle.mp_search.proofs.binding.bind.Goals as goal

pub number_at-requires-clause-child : goal.number_at-requires-clause-child
number_at-requires-clause-child c = site-node c.args.query.now c.args.site.now c.requires.site

pub returns-in_default-clause-kept : goal.returns-in_default-clause-kept
returns-in_default-clause-kept c = cut-whole c.args.trail.now

pub bind_default-requires-clause-var : goal.bind_default-requires-clause-var
bind_default-requires-clause-var c =
    let q = c.args.query.now in
    let p = pattern_tree c.args.site.now.child.now in
    all_in (λ v. v < c.args.trail.now.vars) q.vars.now c.in-Some.var c.requires.vars
    (number-listed q p c.in-Some.var (subst (IsNumberAt q p) c.in-Some.is c.number_at.ensures))

pub bind_value-requires-clause-var : goal.bind_value-requires-clause-var
bind_value-requires-clause-var c =
    let q = c.args.query.now in
    let p = pattern_tree c.args.site.now.child.now in
    all_in (λ v. v < c.args.trail.now.vars) q.vars.now c.in-Some.var c.requires.vars
    (number-listed q p c.in-Some.var (subst (IsNumberAt q p) c.in-Some.is c.number_at.ensures))

pub given-requires-clause-ascending : goal.given-requires-clause-ascending
given-requires-clause-ascending c h =
    let q = c.args.query.now in
    let x = c.args.site.now in
    let rs = c.args.own.now.take.items.items in
    subst (λ ss. sorted rank_cmp ss ≡ ss) (sym c.as_slice-ranks.ensures)
    (ranks-ascend q x c.requires.query c.requires.site rs c.requires.over.0
    (and_parts (is_piece tree_cmp (comm_above q.sig.now (above x.under)) (terms_at q.table.now rs)
    (terms_at q.table.now x.left.now)) _ c.requires.allowed).0 h)

pub returns-in_default-clause-only : goal.returns-in_default-clause-only
returns-in_default-clause-only c =
    only-same c.args.query.now.vars.now c.args.trail.now c.args.trail.now refl
