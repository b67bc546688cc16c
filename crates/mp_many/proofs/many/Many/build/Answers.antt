use Rattle.std.proofs.Common.{◌≡◌, ◌∙◌, length, map, ap, sym, subst, arith}
use Rattle.std.proofs.lemmas.List.{length-map}
use Rattle.mp_pattern.specs.RuleView.{rule_tree}
use Rattle.mp_pattern.specs.Variables.{variables}
use Rattle.mp_walk.specs.Walkable.{IsWalkable}
use Rattle.mp_many.specs.Laid.{tree_of}
use Rattle.mp_many.proofs.WalkableLaws.{walkable}
use Rattle.mp_many.proofs.many.Many.build.Goals as goal

pub tree_of-requires-clause-few : goal.tree_of-requires-clause-few
tree_of-requires-clause-few c = omega (
  arith,
  ap length c.as_slice-2.ensures,
  length-map c.as_slice-2.result.now rule_tree,
  c.requires.sound.few,
)

pub tree_of-requires-clause-names : goal.tree_of-requires-clause-names
tree_of-requires-clause-names c =
    c.in_ok-names.ensures
    ∙ ap (map (λ r. variables r.pattern)) (c.as_slice.ensures ∙ sym c.as_slice-2.ensures)

pub new-requires : goal.new-requires
new-requires c =
    let sig = c.args.sig.now in
    let rules = c.args.rules.now in
    let is : c.in_ok-instrs.instrs ≡ tree_of sig rules =
    c.in_ok-instrs.ensures ∙ ap (tree_of sig) c.as_slice-2.ensures in
    subst (IsWalkable sig) (sym is) (walkable sig rules c.requires.sound.each)

pub invariant_of-result : goal.invariant_of-result
invariant_of-result c =
    let sig = c.args.sig.now in
    let rules = c.args.rules.now in
    let is : c.in_ok-instrs.instrs ≡ tree_of sig rules =
    c.in_ok-instrs.ensures ∙ ap (tree_of sig) c.as_slice-2.ensures in
    record {
      sound = c.requires.sound;
      tree = c.in_ok-code.ensures.instrs ∙ is;
      ready = c.in_ok-code.ensures.planned;
      few = omega (arith, ap length c.in_ok-code.ensures.instrs);
      names = c.in_ok-names.ensures ∙ ap (map (λ r. variables r.pattern)) c.as_slice.ensures;
    }
