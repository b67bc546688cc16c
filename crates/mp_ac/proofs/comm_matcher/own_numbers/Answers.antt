use Rattle.std.proofs.Common.{◌+◌, ◌++◌, ◌∷◌, [], append_assoc, ap, sym, ◌∙◌, drop, map}
use Rattle.std.specs.Prelude.{option_map}
use Rattle.mp_pattern.specs.Plan.{Variable}
use Rattle.mp_ac.specs.Matcher.{number_among}
use Rattle.mp_ac.proofs.MatcherLaws.{variable-next}
use Rattle.mp_ac.proofs.comm_matcher.own_numbers.Goals as goal

pub loop-var-preserved : goal.loop-var-preserved
loop-var-preserved c =
    let f = λ (y : Variable). number_among c.args.vars.now c.args.plan.now.variables y.name in
    let ys = c.args.own.now.variables in
    let n = c.loop-var.var in
    let named = ap (option_map (λ m. m.now)) (sym c.in-Some.is) ∙ c.var_name.ensures in
    let next = variable-next c.args.vars.now c.args.plan.now.variables ys n c.in-Some.name.now named in
    ap (λ ns. ns ++ map f (drop (n + 1) ys))
    (c.in_ok-push.ensures.items ∙ ap (λ m. c.loop-var.numbers.items ++ m ∷ []) (c.number_of.ensures
    ∙ ap (number_among c.args.vars.now c.args.plan.now.variables) c.bytes.ensures.bytes))
    ∙ append_assoc c.loop-var.numbers.items
    (number_among c.args.vars.now c.args.plan.now.variables c.in-Some.name.now ∷ []) (map f (drop (n + 1) ys))
    ∙ ap (λ ns. c.loop-var.numbers.items ++ ns) (sym next)
    ∙ c.loop-var.invariant
