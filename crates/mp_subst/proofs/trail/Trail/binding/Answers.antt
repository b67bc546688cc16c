use Rattle.std.proofs.Common.{◌≡◌, ◌<◌, length, sym, ap, ◌∙◌, subst, arith}
use Rattle.std.specs.Prelude.{Some, None}
use Rattle.mp_subst.specs.Trail.{last_value}
use Rattle.mp_subst.specs.TrailView.{last_place, entry_value, IsWithin, AreLast}
use Rattle.mp_subst.specs.Bound.{bound_of, IsBoundIn}
use Rattle.mp_subst.proofs.TrailLaws.{last_value-all}
use Rattle.mp_subst.proofs.TrailViewLaws.{within-at, last_value-none, last_value-at}
use Rattle.mp_subst.proofs.trail.Trail.binding.Goals as goal

pub last_place-requires : goal.last_place-requires
last_place-requires c = subst (AreLast c.self.inside.last) (sym c.deref.ensures.value) c.self.invariant.last

pub bound_at-requires : goal.bound_at-requires
bound_at-requires c =
    let es = c.self.inside.entries.items in
    let rs = c.self.inside.ranks.items in
    let d = c.index.result.now in
    let i = c.self.invariant in
    let below : c.in-Some.place < length es =
    subst (λ xs. c.in-Some.place < length xs) c.deref.ensures.value c.in-Some.ensures.within in
    let within = within-at es c.self.inside.used c.in-Some.place d i.laid below in
    subst (λ xs. IsWithin (length xs) d) (sym c.deref-in-Some.ensures.value)
    (subst (IsWithin (length rs)) (sym c.index.ensures) (within.0, omega (arith, within.1, i.used)))

pub returns-in-None-clause-value : goal.returns-in-None-clause-value
returns-in-None-clause-value c =
    let es = c.self.inside.entries.items in
    let rs = c.self.inside.ranks.items in
    let none : last_place es c.args.var ≡ None =
    sym (c.last_place.ensures.place ∙ ap (λ xs. last_place xs c.args.var) c.deref.ensures.value) ∙ c.in-None.is in
    sym (last_value-none rs es c.args.var none) ∙ ap (λ u. last_value u.stack c.args.var) c.self.view_is

pub returns-in-Some-clause-value : goal.returns-in-Some-clause-value
returns-in-Some-clause-value c =
    let es = c.self.inside.entries.items in
    let rs = c.self.inside.ranks.items in
    let d = c.index.result.now in
    let some : last_place es c.args.var ≡ Some c.in-Some.place =
    sym (c.last_place.ensures.place ∙ ap (λ xs. last_place xs c.args.var) c.deref.ensures.value) ∙ c.in-Some.is in
    ap Some (c.bound_at.ensures ∙ ap (λ xs. entry_value xs d) c.deref-in-Some.ensures.value
    ∙ ap (entry_value rs) c.index.ensures)
    ∙ sym (last_value-at rs es c.args.var c.in-Some.place d some).1
    ∙ ap (λ u. last_value u.stack c.args.var) c.self.view_is

pub returns-in-Some-clause-is_bound : goal.returns-in-Some-clause-is_bound
returns-in-Some-clause-is_bound c table g =
    last_value-all (IsBoundIn table) c.args.self.now.stack c.args.var (bound_of c.bound_at.result) g.values
    (sym (returns-in-Some-clause-value c))
