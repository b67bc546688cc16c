use Rattle.std.proofs.Common.{◌≡◌, ◌≤◌, ◌+◌, ◌-◌, ◌^◌, length, drop, map, min}
use Rattle.mp_parser.specs.Syntax.{literals, condition}
use Rattle.mp_parser.specs.View.{literal_tree, alternative_tree}
use Rattle.mp_build.specs.Conditions.{literals_atoms, atoms}
use Rattle.mp_build.proofs.condition_size.+atom_count.Given as goal

-- the count so far and that of the rest
abbrev pub invariant-atom_count-loop-alternative : goal.invariant-atom_count-loop-alternative
invariant-atom_count-loop-alternative l = record {
  fits : l.count ≤ 2 ^ 64 - 1;
  rest : min
      (l.count + length (atoms (condition (map alternative_tree (drop l.alternative-index l.alternative-items)))))
      (2 ^ 64 - 1) ≡ min (length (atoms (condition (map alternative_tree l.alternative-items)))) (2 ^ 64 - 1);
}

abbrev pub invariant-alternative_atom_count-loop-literal : goal.invariant-alternative_atom_count-loop-literal
invariant-alternative_atom_count-loop-literal l = record {
  fits : l.count ≤ 2 ^ 64 - 1;
  rest : min (l.count + length (literals_atoms (literals (map literal_tree (drop l.literal-index l.literal-items)))))
      (2 ^ 64 - 1) ≡ min (length (literals_atoms (literals (map literal_tree l.literal-items)))) (2 ^ 64 - 1);
}
