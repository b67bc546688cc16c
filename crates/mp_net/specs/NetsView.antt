-- What nets are read as, and what holds of all that are built.
use Rattle.std.specs.Prelude.{◌≡◌, true, length}
use Rattle.std.specs.List.{AllByRecursion}
use Rattle.mp_pattern.specs.SoundRule.{AreSoundRules}
use Rattle.mp_net.specs.NetOf.{AreNets}
use Rattle.mp_net.specs.Nets as plain
use Rattle.mp_net.specs.declared.nets.Nets.TheInside.{Inside}

-- nets with their signature, their rules and their number
abbrev pub nets_view : Inside → plain.Nets
nets_view n = record { sig = n.sig.now; rules = n.rules.now; groups = length n.nets.items }

-- the rules are sound and syntactic, and the nets are theirs
pub record IsNets (n : Inside) : Type 0 where
  pub sound : AreSoundRules n.sig.now n.rules.now
  pub syntactic : AllByRecursion (λ r. plain.is_syntactic_rule n.sig.now r ≡ true) n.rules.now
  pub nets : AreNets 0 (plain.rule_marks n.rules.now) n.nets.items
