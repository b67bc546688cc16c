use Rattle.std.proofs.Common.{◌≡◌, ap, sym, ◌∙◌, subst}
use Rattle.std.specs.Prelude.{None}
use Rattle.mp_net.specs.Nets.{first_not_syntactic, is_syntactic_rule, rule_marks}
use Rattle.mp_net.specs.NetOf.{AreNets}
use Rattle.mp_net.proofs.NetsLaws.{position-none}
use Rattle.mp_net.proofs.nets.Nets.build.Goals as goal

pub invariant_of-result : goal.invariant_of-result
invariant_of-result c =
    let sig = c.args.sig.now in
    let all = c.args.rules.now in
    let none : None ≡ first_not_syntactic sig all =
    c.in_default.ensures.index ∙ ap (first_not_syntactic sig) c.as_slice.ensures in
    record {
      sound = c.requires.sound;
      syntactic = position-none (is_syntactic_rule sig) all (sym none);
      nets = subst (λ rs. AreNets 0 (rule_marks rs) c.in_ok-nets.nets.items) c.as_slice-2.ensures c.in_ok-nets.ensures;
    }
