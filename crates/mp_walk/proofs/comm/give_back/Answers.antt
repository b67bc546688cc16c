use Rattle.std.proofs.Common.{◌∙◌, sym, subst}
use Rattle.mp_ac.specs.Store.{IsStoreOf}
use Rattle.mp_walk.specs.Below.{IsSearch, IsSearchOf, unboxed}
use Rattle.mp_walk.proofs.comm.give_back.Goals as goal

pub give_back-requires : goal.give_back-requires
give_back-requires c =
    let b = c.args.below in
    let u = c.args.trail.now in
    let h = subst (λ o. IsSearch b u (unboxed o)) (sym c.take.ensures.value ∙ c.in-Some.is) c.requires.search in
    (u, (subst (IsSearchOf b u) (sym c.into_inner.ensures) h).over)

pub returns-in_ok-give_back-clause-store : goal.returns-in_ok-give_back-clause-store
returns-in_ok-give_back-clause-store c =
    let b = c.args.below in
    let u = c.args.trail.now in
    let h = subst (λ o. IsSearch b u (unboxed o)) (sym c.take.ensures.value ∙ c.in-Some.is) c.requires.search in
    let table = (subst (IsSearchOf b u) (sym c.into_inner.ensures) h).table in
    subst (λ t. IsStoreOf t b.plans.now c.give_back.new.store) table
    (c.in_ok-give_back.ensures b.plans.now
    (subst (λ t. IsStoreOf t b.plans.now c.args.store.now) (sym table) c.requires.store))
