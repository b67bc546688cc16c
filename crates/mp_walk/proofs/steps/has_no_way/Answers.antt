use Rattle.std.proofs.Common.{◌≡◌, ℕ, [], Bool, true, false, not, ap, sym, subst}
use Rattle.std.specs.Prelude.{Option, Some, None, is_some, MatchOption}
use Rattle.mp_pattern.specs.NetTokenView.{net_token}
use Rattle.mp_walk.specs.OpenOnes.{open_of}
use Rattle.mp_walk.specs.Ways.{way_steps}
use Rattle.mp_walk.proofs.steps.has_no_way.Goals as goal

-- what holds where there is no value
if-none : {P : Type 0} (Q : ℕ → Type 0) (o : Option ℕ) (r : Bool) → r ≡ true → is_some o ≡ not r → MatchOption o P Q → P
if-none Q None r h e m = m
if-none Q (Some x) true h e m = (let z : true ≡ false = e in cc)
if-none Q (Some x) false h e m = (let z : false ≡ true = h in cc)

pub returns-in-Enter-clause-none : goal.returns-in-Enter-clause-none
returns-in-Enter-clause-none c h fs s n l =
    subst (λ k. way_steps c.args.sig.now (open_of c.args.table.now c.args.frame.now) fs s k n ≡ [])
    (sym (ap net_token c.in-Enter.is))
    (if-none _ c.begin_way.result c.is_none.result h c.is_none.ensures (c.begin_way.ensures.way fs s) n l)
