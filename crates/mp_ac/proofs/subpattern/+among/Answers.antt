use Rattle.std.proofs.Common.{◌≡◌, ◌-◌, ◌+◌, length, ap, sym, ◌∙◌, arith}
use Rattle.std.specs.Prelude.{option_map, slice_get}
use Rattle.mp_pattern.specs.PatternTree.{patterns}
use Rattle.mp_pattern.specs.Size.{all_pattern_nodes}
use Rattle.mp_pattern.specs.Subpatterns.{all_subpatterns}
use Rattle.mp_pattern.specs.View.{pattern_tree}
use Rattle.mp_ac.proofs.SubpatternLaws as laws
use Rattle.mp_ac.proofs.subpattern.+among.Goals as goal
use Rattle.mp_ac.proofs.subpattern.+among.Goals.{in-App+in_default-among, in_default}

pub among-requires : goal.among-requires
among-requires t c =
    let falls = laws.children-fall c.args.list.now c.first-item.result c.in-len1-up.len_at_least c.first-item.is
    c.in-App.field-0.0 (patterns c.in-App.args) (ap pattern_tree c.in-App.is) in
    let same = ap (λ ps. all_pattern_nodes (patterns ps)) c.as_slice.ensures in
    (omega (arith, c.decreases, falls, same), tt)

pub returns-in-Some-clause-found : goal.returns-in-Some-clause-found
returns-in-Some-clause-found t c =
    let e = ap (option_map (λ p. pattern_tree p.now)) (sym c.in-Some.is) ∙ c.among.ensures.found in
    let same = ap (λ ps. all_subpatterns (patterns ps)) c.as_slice.ensures in
    let below = ap laws.inner (ap pattern_tree c.in-App.is) in
    sym (laws.inner-found c.args.list.now c.first-item.result c.in-len1-up.len_at_least c.first-item.is
    c.args.left.now (pattern_tree c.in-Some.found.now) c.if-left-eq0.false
    (ap (λ ps. slice_get ps (c.args.left.now - 1)) (below ∙ sym same) ∙ sym e))

pub among-requires-in-len1-up : goal.among-requires-in-len1-up
among-requires-in-len1-up t c = (
  omega (
    arith,
    c.decreases,
    laws.later-fall c.args.list.now c.first-item.result c.in-len1-up.len_at_least
        c.first-item.is,
  ),
  tt,
)

pub returns-after-first-clause-found : goal.returns-after-first-clause-found
returns-after-first-clause-found t c =
    c.among-in-len1-up.ensures.found
    ∙ sym (laws.later-found c.args.list.now c.first-item.result c.in-len1-up.len_at_least c.first-item.is
    c.args.left.now c.match-first.left c.if-left-eq0.false (elim c.match-first.branch as
    (λ _. c.args.left.now - 1 ≡ length (laws.inner (pattern_tree c.first-item.result)) + c.match-first.left) [
      | in-App+in_default-among w ↦
          let below = ap laws.inner (ap pattern_tree w.in-App.is) in
          let same = ap (λ ps. all_subpatterns (patterns ps)) w.as_slice.ensures in
          omega (
            arith,
            w.among.ensures.less w.in_default-among.is,
            w.left-is,
            ap (λ ps. length ps) (below ∙ sym same),
          )
      | in_default w ↦
          omega (arith, w.left-is, ap (λ ps. length ps) (laws.inner-none c.first-item.result w.in_default.not-App))
    ]))
