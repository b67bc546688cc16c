use Rattle.std.proofs.Common.{◌≡◌, ◌≤◌, ◌+◌, ◌*◌, ◌++◌, map, drop}
use Rattle.mp_pattern.specs.CondSize.{cond_nodes, cond_list_nodes}
use Rattle.mp_pattern.specs.CondView.{cond_tree}
use Rattle.mp_program.specs.ProgramOf.{renamed_cond}
use Rattle.mp_program.proofs.renamed.+renamed_cond.Given as goal

-- the parts that are left are no more than all, and add what is lacking
abbrev pub invariant-renamed_conds-loop-part : goal.invariant-renamed_conds-loop-part
invariant-renamed_conds-loop-part l = record {
  smaller : cond_list_nodes (map cond_tree (drop l.part-index l.parts)) ≤ cond_list_nodes (map cond_tree l.parts);
  renamed : l.renamed ++ map (renamed_cond l.names) (map cond_tree (drop l.part-index l.parts))
      ≡ map (renamed_cond l.names) (map cond_tree l.parts);
}

-- each function of the cycle is nearer to the parts than the one before it
abbrev pub decreases-renamed_cond : goal.decreases-renamed_cond
decreases-renamed_cond l = 2 * cond_nodes (cond_tree l.cond.now)

abbrev pub decreases-renamed_conds : goal.decreases-renamed_conds
decreases-renamed_conds l = 2 * cond_list_nodes (map cond_tree l.parts.now) + 1
