use Rattle.std.proofs.Common.{◌≡◌, [], ap, sym, refl, subst, arith, inr}
use Rattle.std.specs.Prelude.{Some, Ok, Err}
use Rattle.std.proofs.KnownBytes.{Appends-nil}
use Rattle.mp_io.specs.Moments.{sunk}
use Rattle.mp_term.specs.Size.{node_count}
use Rattle.mp_pattern.specs.Constants.{rule_constants}
use Rattle.mp_pattern.specs.Planned.{planned_rule, rule_plan}
use Rattle.mp_pattern.proofs.SoundRules.{HasConditionOver-HasSoundCondition}
use Rattle.mp_table.specs.Table.{IsTableOf}
use Rattle.mp_theory.specs.OneList.{item_list}
use Rattle.mp_text.specs.File.{subject_tree}
use Rattle.mp_token.specs.TokenText.{token_text}
use Rattle.mp_cursor.specs.Listing.{StandForNone, StandsAt}
use Rattle.mp_cursor.proofs.FirstLaws.{constants-held, subject-built}
use Rattle.mp_matches.specs.Computed.{behind_token, matches_of, rule_matches}
use Rattle.mp_matches.specs.Left.{left_of, printed}
use Rattle.mp_matches.specs.Printed.{PrintsMatches, printed_behind}
use Rattle.mp_matches.specs.declared.stop.Stop.TheVariants as stop
use Rattle.mp_matches.proofs.RuleTables.{planned-few, planned-normal, table_of-constants}
use Rattle.mp_matches.proofs.Resumed.{behind-err, behind-some, behind-some_stopped}
use Rattle.mp_matches.proofs.Resuming.{resumed-at, resumed-none}
use Rattle.mp_matches.proofs.resume.resume_rule.Goals as goal

pub build-requires-clause-constant_nodes : goal.build-requires-clause-constant_nodes
build-requires-clause-constant_nodes g c =
    planned-few c.args.sig.now (rule_plan c.args.planned.now) c.requires.planned

pub build-requires-clause-normal_constants : goal.build-requires-clause-normal_constants
build-requires-clause-normal_constants g c =
    planned-normal c.args.sig.now (rule_plan c.args.planned.now) c.requires.planned

pub room_for-requires : goal.room_for-requires
room_for-requires g c =
    let s = subject_tree c.args.subject.now in
    omega (
      arith,
      ap node_count (subject-built c.in_ok-table.table s.term c.args.planned.now.constants c.in_ok-table.ensures.table),
      c.requires.subject.term.few_nodes,
    )

pub resume-requires-clause-condition : goal.resume-requires-clause-condition
resume-requires-clause-condition g c =
    let r = planned_rule c.args.planned.now in
    HasConditionOver-HasSoundCondition c.args.sig.now r.pattern r.condition c.requires.planned.sound.condition

pub resume-requires-clause-constants : goal.resume-requires-clause-constants
resume-requires-clause-constants g c =
    let s = subject_tree c.args.subject.now in
    let p = c.args.planned.now in
    constants-held c.in_ok-table.table s.term p.constants c.in_ok-table.ensures.table (planned_rule p)
    c.requires.planned.constants

pub returns-in_err-room-clause-prints : goal.returns-in_err-room-clause-prints
returns-in_err-room-clause-prints g c =
    let sig = c.args.sig.now in
    let left = left_of c.args.left.now in
    let ms = behind_token (token_text c.args.token.now)
    (rule_matches sig (subject_tree c.args.subject.now) (planned_rule c.args.planned.now)) in
    behind-err sig left ms (sunk g.O.Sink c.args.out.now c.args.out.now) left stop.Memory
    c.from_residual-in_err-room.result c.from_residual-in_err-room.ensures.1 (
      inr refl,
      record {
        front = [];
        rest = (printed_behind sig left ms).0;
        split = refl;
        written = Appends-nil (g.O.Sink.contents c.args.out.now);
      },
    )

pub returns-in-Err-clause-prints : goal.returns-in-Err-clause-prints
returns-in-Err-clause-prints g c =
    let sig = c.args.sig.now in
    let s = subject_tree c.args.subject.now in
    let p = c.args.planned.now in
    let r = planned_rule p in
    let table = c.in_ok-table.table in
    let token = c.args.token.now in
    let ranked = table_of-constants r p.constants c.requires.planned.constants s.term table c.in_ok-table.ensures.table
    in
    let own = subject-built table s.term p.constants c.in_ok-table.ensures.table in (
      resumed-none sig s r c.requires.subject c.requires.planned.sound token c.requires.token table ranked
          (λ same. subst (λ t. StandForNone table token.entries (item_list sig r t)) own (c.in-Err.ensures same)),
      (Appends-nil (g.O.Sink.contents c.args.out.now), refl),
    )

pub print_to_come-requires-clause-over : goal.print_to_come-requires-clause-over
print_to_come-requires-clause-over g c =
    let s = subject_tree c.args.subject.now in
    let p = c.args.planned.now in
    let over = c.in-Ok.ensures.1 in
    record {
      rule = over.1;
      table = subst (IsTableOf s.term (rule_constants (planned_rule p))) (sym over.2)
          (table_of-constants (planned_rule p) p.constants c.requires.planned.constants s.term c.in_ok-table.table
          c.in_ok-table.ensures.table);
    }

pub returns-in_err-any-clause-prints : goal.returns-in_err-any-clause-prints
returns-in_err-any-clause-prints g c =
    let sig = c.args.sig.now in
    let s = subject_tree c.args.subject.now in
    let p = c.args.planned.now in
    let r = planned_rule p in
    let cursor = c.in-Ok.cursor in
    let token = c.args.token.now in
    let told = c.in-Ok.ensures in
    let left = left_of c.args.left.now in
    let out = sunk g.O.Sink c.args.out.now c.print_to_come.new.out in
    let after = left_of c.print_to_come.new.left in
    let ms = behind_token (token_text token) (rule_matches sig s r) in
    let ranked = subst (IsTableOf s.term (rule_constants r)) (sym told.1.2)
    (table_of-constants r p.constants c.requires.planned.constants s.term c.in_ok-table.table
    c.in_ok-table.ensures.table) in
    let own = subject-built c.in_ok-table.table s.term p.constants c.in_ok-table.ensures.table in
    let found : ms ≡ Some (matches_of s r cursor.to_come) = resumed-at sig s r c.requires.subject
    c.requires.planned.sound token c.requires.token cursor ranked c.requires.named told.0
    (subst (λ t. StandsAt token.entries (item_list sig r t) cursor) own told.2) in
    behind-err sig left ms out after c.in_err-any.field-0.0 c.from_residual-in_err-any.result
    c.from_residual-in_err-any.ensures.1
    (behind-some_stopped sig left ms (matches_of s r cursor.to_come) out after c.in_err-any.field-0.0 found
    (subst (λ i. PrintsMatches (printed i left (matches_of s r cursor.to_come)) out after
    (Err c.in_err-any.field-0.0)) told.1.0 c.in_err-any.ensures.prints))

pub returns-clause-prints : goal.returns-clause-prints
returns-clause-prints g c =
    let sig = c.args.sig.now in
    let s = subject_tree c.args.subject.now in
    let p = c.args.planned.now in
    let r = planned_rule p in
    let cursor = c.in-Ok.cursor in
    let token = c.args.token.now in
    let told = c.in-Ok.ensures in
    let left = left_of c.args.left.now in
    let out = sunk g.O.Sink c.args.out.now c.print_to_come.new.out in
    let after = left_of c.print_to_come.new.left in
    let ms = behind_token (token_text token) (rule_matches sig s r) in
    let ranked = subst (IsTableOf s.term (rule_constants r)) (sym told.1.2)
    (table_of-constants r p.constants c.requires.planned.constants s.term c.in_ok-table.table
    c.in_ok-table.ensures.table) in
    let own = subject-built c.in_ok-table.table s.term p.constants c.in_ok-table.ensures.table in
    let found : ms ≡ Some (matches_of s r cursor.to_come) = resumed-at sig s r c.requires.subject
    c.requires.planned.sound token c.requires.token cursor ranked c.requires.named told.0
    (subst (λ t. StandsAt token.entries (item_list sig r t) cursor) own told.2) in
    behind-some sig left ms (matches_of s r cursor.to_come) out after c.in_ok-any.any found
    (subst (λ i. PrintsMatches (printed i left (matches_of s r cursor.to_come)) out after (Ok c.in_ok-any.any)) told.1.0
    c.in_ok-any.ensures.prints)
