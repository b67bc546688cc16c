use Rattle.std.proofs.Common.{◌≡◌, ◌∙◌, ap, sym, subst, map, arith}
use Rattle.std.specs.Prelude.{slice_set, None}
use Rattle.mp_term.specs.Tree.{app, trees}
use Rattle.mp_term.specs.View.{tree}
use Rattle.mp_term.specs.Normal.{IsNormal}
use Rattle.mp_pattern.specs.Planned.{planned_rule}
use Rattle.mp_rewrite.specs.Computed.{first_match}
use Rattle.mp_rewrite.specs.MarkView.{mark_of}
use Rattle.mp_rewrite.specs.Known.{IsKnown}
use Rattle.mp_rewrite.specs.Within.{IsFree}
use Rattle.mp_rewrite.proofs.quiet.quiet_index.Goals as goal

pub returns-then-none_fits : goal.returns-then-none_fits
returns-then-none_fits c =
    let sig = c.args.sig.now in
    let rules = map planned_rule c.args.rules.now in
    let f = c.in-App.op.0 in
    let ts = c.in-App.args in
    let i = c.in_ok-index.index in
    let is : tree c.args.here.now.term ≡ app f (trees ts) = ap tree c.in-App.is in
    let known : IsKnown sig rules (mark_of c.args.here.now.known) (app f (trees ts)) =
    subst (IsKnown sig rules (mark_of c.args.here.now.known)) is c.requires in
    let free : IsFree sig f = record {
      assoc = sym c.is_assoc.ensures ∙ c.if-is_assoc.false;
      comm = sym c.is_comm.ensures ∙ c.if-is_comm.false;
      one = sym c.is_one.ensures ∙ c.if-is_one.false;
    } in (
      f,
      ts,
      is,
      record {
        free = free;
        within = omega (arith, c.len.ensures, c.in_ok-index.ensures.within sig rules f ts (sym c.len.ensures) known);
        none = λ u. subst (λ l. IsNormal sig (app f (trees (slice_set l i u)))
            → first_match sig rules (app f (trees (slice_set l i u))) ≡ None) c.as_slice.ensures
            (c.none_fits.ensures c.if-none_fits.true free u);
        dead = λ k u l at. c.in_ok-index.ensures.dead sig rules f ts k u known l at;
      },
    )
