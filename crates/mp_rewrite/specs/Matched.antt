-- A rule with a substitution that it admits.
use Rattle.mp_pattern.specs.RuleView.{rule_tree}
use Rattle.mp_subst.specs.View.{subst_of}
use Rattle.mp_rewrite.specs.Computed as computed
use Rattle.mp_rewrite.specs.declared.rules.Match.{Match}

-- the rule and the substitution, as plain data
abbrev pub match_of : Match → computed.Match
match_of m = record { rule = rule_tree m.rule.now; subst = subst_of m.subst }
