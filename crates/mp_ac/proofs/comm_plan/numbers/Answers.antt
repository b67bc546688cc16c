use Rattle.std.proofs.Common.{◌≡◌, ◌<◌, ◌+◌, ◌∙◌, [], ◌∷◌, ◌++◌, suc, map, take, ap, sym, subst, arith}
use Rattle.std.specs.Prelude.{option_map}
use Rattle.std.specs.List.{AllByRecursion}
use Rattle.std.proofs.lemmas.List.{map-append}
use Rattle.mp_term.proofs.ListLaws.{all-append}
use Rattle.mp_pattern.specs.NetTokens.{numbered}
use Rattle.mp_pattern.specs.Plan.{Variable}
use Rattle.mp_pattern.specs.declared.limits.TheConstants.{MAX_VARIABLES}
use Rattle.mp_ac.proofs.NameNumbers.{name-in, name-behind}
use Rattle.mp_ac.proofs.comm_plan.numbers.Goals as goal

pub number_of-requires : goal.number_of-requires
number_of-requires c =
    c.requires c.in-Some.name.now (name-in c.args.plan.now.variables c.loop-var.var c.in-Some.name.now
    (ap (option_map (λ m. m.now)) (sym c.in-Some.is) ∙ c.var_name.ensures))

pub loop-var-preserved : goal.loop-var-preserved
loop-var-preserved c =
    let xs = c.args.plan.now.variables in
    let n = c.loop-var.var in
    let next : n + 1 ≡ suc n = omega arith in
    record {
      names = ap (map numbered) c.in_ok-push.ensures.items
          ∙ map-append numbered c.loop-var.vars.items (c.number_of.result ∷ [])
          ∙ ap (λ ys. ys ++ numbered c.number_of.result ∷ []) c.loop-var.invariant.names
          ∙ ap (λ y. map (λ (v : Variable). v.name) (take n xs) ++ y ∷ []) (sym c.number_of.ensures.name)
          ∙ sym (name-behind xs n c.in-Some.name.now
          (ap (option_map (λ m. m.now)) (sym c.in-Some.is) ∙ c.var_name.ensures))
          ∙ ap (λ k. map (λ (v : Variable). v.name) (take k xs)) (sym next);
      few = subst (AllByRecursion (λ v. v < MAX_VARIABLES)) (sym c.in_ok-push.ensures.items)
          (all-append (λ v. v < MAX_VARIABLES) c.loop-var.vars.items (c.number_of.result ∷ []) c.loop-var.invariant.few
          (c.number_of.ensures.few, tt));
    }
