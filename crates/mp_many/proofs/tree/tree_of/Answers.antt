use Rattle.std.proofs.Common.{◌≡◌, ◌∙◌, length, map, ap, arith}
use Rattle.std.proofs.lemmas.List.{length-map}
use Rattle.std.proofs.lemmas.Result.{IfOk-weaker}
use Rattle.mp_pattern.specs.Admission.{Rule}
use Rattle.mp_pattern.specs.NetTokens.{tokens_of}
use Rattle.mp_pattern.specs.RuleView.{rule_tree}
use Rattle.mp_many.specs.Laid.{laid, numbered_from, tree_of}
use Rattle.mp_many.specs.Prefixes.{token_count}
use Rattle.mp_many.proofs.tree.tree_of.Goals as goal

pub states_of-requires : goal.states_of-requires
states_of-requires c =
    let rules = map rule_tree c.args.rules.now in
    omega (
      arith,
      ap length c.in_ok-lists.ensures,
      length-map rules (λ (r : Rule). tokens_of c.args.sig.now r.pattern),
      length-map c.args.rules.now rule_tree,
      c.requires.few,
    )

pub returns : goal.returns
returns c =
    IfOk-weaker c.states_of.result _ (λ is. is ≡ tree_of c.args.sig.now (map rule_tree c.args.rules.now))
    (λ is e. e ∙ ap (λ l. laid (token_count l) (numbered_from 0 l) 1) c.in_ok-lists.ensures) c.states_of.ensures
