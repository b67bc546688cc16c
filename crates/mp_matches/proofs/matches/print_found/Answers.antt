use Rattle.std.proofs.Common.{◌∙◌, ap, ap₂, sym, subst, arith}
use Rattle.mp_io.specs.Moments.{sunk}
use Rattle.mp_term.specs.Size.{node_count}
use Rattle.mp_pattern.specs.Constants.{rule_constants}
use Rattle.mp_pattern.specs.Planned.{planned_rule, rule_plan}
use Rattle.mp_pattern.proofs.SoundRules.{HasConditionOver-HasSoundCondition}
use Rattle.mp_table.specs.Table.{IsTableOf}
use Rattle.mp_theory.specs.OneList.{item_list}
use Rattle.mp_text.specs.File.{subject_tree}
use Rattle.mp_cursor.proofs.FirstLaws.{constants-held, subject-built}
use Rattle.mp_matches.specs.Computed.{matches_of}
use Rattle.mp_matches.specs.Left.{left_of, printed}
use Rattle.mp_matches.specs.Printed.{PrintsMatches}
use Rattle.mp_matches.proofs.RuleTables.{planned-few, planned-normal, table_of-constants}
use Rattle.mp_matches.proofs.matches.print_found.Goals as goal

pub build-requires-clause-constant_nodes : goal.build-requires-clause-constant_nodes
build-requires-clause-constant_nodes g c =
    planned-few c.args.sig.now (rule_plan c.args.planned.now) c.requires.planned

pub build-requires-clause-normal_constants : goal.build-requires-clause-normal_constants
build-requires-clause-normal_constants g c =
    planned-normal c.args.sig.now (rule_plan c.args.planned.now) c.requires.planned

pub room_for-requires : goal.room_for-requires
room_for-requires g c =
    let s = subject_tree c.args.subject.now in
    omega (
      arith,
      ap node_count (subject-built c.in_ok-table.table s.term c.args.planned.now.constants c.in_ok-table.ensures.table),
      c.requires.subject.term.few_nodes,
    )

pub begin-cursor-requires-clause-condition : goal.begin-cursor-requires-clause-condition
begin-cursor-requires-clause-condition g c =
    let r = planned_rule c.args.planned.now in
    HasConditionOver-HasSoundCondition c.args.sig.now r.pattern r.condition c.requires.planned.sound.condition

pub begin-cursor-requires-clause-constants : goal.begin-cursor-requires-clause-constants
begin-cursor-requires-clause-constants g c =
    let s = subject_tree c.args.subject.now in
    let p = c.args.planned.now in
    constants-held c.in_ok-table.table s.term p.constants c.in_ok-table.ensures.table (planned_rule p)
    c.requires.planned.constants

pub print_to_come-requires-clause-over : goal.print_to_come-requires-clause-over
print_to_come-requires-clause-over g c =
    let s = subject_tree c.args.subject.now in
    let p = c.args.planned.now in
    let over = c.begin-cursor.ensures.over in
    record {
      rule = over.1;
      table = subst (IsTableOf s.term (rule_constants (planned_rule p))) (sym over.2)
          (table_of-constants (planned_rule p) p.constants c.requires.planned.constants s.term c.in_ok-table.table
          c.in_ok-table.ensures.table);
    }

pub returns-clause-prints : goal.returns-clause-prints
returns-clause-prints g c =
    let sig = c.args.sig.now in
    let s = subject_tree c.args.subject.now in
    let p = c.args.planned.now in
    let r = planned_rule p in
    let left = left_of c.args.left.now in
    let list = c.begin-cursor.ensures.list
    ∙ ap (item_list sig r) (subject-built c.in_ok-table.table s.term p.constants c.in_ok-table.ensures.table) in
    subst (λ p. PrintsMatches p (sunk g.O.Sink c.args.out.now c.print_to_come.new.out)
    (left_of c.print_to_come.new.left) c.print_to_come.result)
    (ap₂ (λ g is. printed g left (matches_of s r is)) c.begin-cursor.ensures.over.0 list) c.print_to_come.ensures.prints
