use Rattle.std.proofs.Common.{◌<◌, length, subst, arith}
use Rattle.std.proofs.lemmas.List.{length-map}
use Rattle.mp_subst.specs.Bound.{bound_of, IsBoundIn}
use Rattle.mp_subst.specs.TrailView.{trail_entry, stack_of}
use Rattle.mp_subst.specs.Outcome.{AllOutcomes}
use Rattle.mp_subst.specs.declared.binding.Outcome.TheVariants.{Old}
use Rattle.mp_subst.proofs.TrailLaws.{item_at}
use Rattle.mp_subst.proofs.trail.Trail.bind_value.Goals as goal
use Rattle.mp_term.proofs.ListLaws.{all-get}

pub returns-in-Old : goal.returns-in-Old
returns-in-Old c =
    let es = c.self.inside.entries.items in
    let rs = c.self.inside.ranks.items in
    let i = c.in-Old.place in
    let stack = c.args.self.now.stack in
    let w = bound_of c.args.value.now in
    let below : i < length stack =
    subst (λ u. i < length u.stack) c.self.view_is
    (omega (
      arith,
      subst (λ xs. i < length xs) c.deref.ensures.value c.in-Old.ensures.place,
      length-map es (trail_entry rs),
    )) in
    let e = item_at stack i below in
    let outcomes : AllOutcomes stack c.args.var w (Old i) =
    subst (λ u. AllOutcomes u.stack c.args.var w (Old i)) c.self.view_is
    (subst (λ xs. AllOutcomes (stack_of rs xs) c.args.var w (Old i)) c.deref.ensures.value
    (subst (λ xs. AllOutcomes (stack_of xs c.deref.result.now) c.args.var w (Old i)) c.deref-2.ensures.value
    c.in-Old.ensures.value)) in
    record {
      bound = e.0.value;
      cost = 1;
      trail = c.put_again.ensures e.0 e.1;
      few = omega arith;
      value = λ t s. (all-get (λ d. IsBoundIn t d.value) stack i e.0 s.values e.1, outcomes t s e.0 e.1);
    }
