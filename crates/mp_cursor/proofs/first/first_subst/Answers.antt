use Rattle.std.proofs.Common.{◌≡◌, ◌∙◌, [], ◌∷◌, true, false, Some, None, refl, ap, sym, arith}
use Rattle.mp_term.specs.Size.{node_count}
use Rattle.mp_term.specs.View.{tree}
use Rattle.mp_pattern.specs.Plan.{Plan}
use Rattle.mp_pattern.specs.Planned.{planned_rule}
use Rattle.mp_pattern.proofs.ConstantLaws.{constants-nodes, constants-normal}
use Rattle.mp_pattern.proofs.SoundRules.{HasConditionOver-HasSoundCondition}
use Rattle.mp_subst.specs.View.{subst_of}
use Rattle.mp_table.specs.Table.{subject_of}
use Rattle.mp_cursor.proofs.DirectLaws.{taken-first}
use Rattle.mp_cursor.proofs.FirstLaws.{subject-built, constants-held, first-item, first-step, no-item, first-exact}
use Rattle.mp_cursor.proofs.FirstLaws.{no-some}
use Rattle.mp_cursor.proofs.first.first_subst.Goals as goal

pub returns-then-not-may_fit-clause-first : goal.returns-then-not-may_fit-clause-first
returns-then-not-may_fit-clause-first c =
    let r = planned_rule c.args.planned.now in
    no-item c.args.sig.now r (tree c.args.subject.now) c.requires.normal
    (c.if-not-may_fit.ensures.items refl c.requires.normal r
    (sym (ap (λ (p : Plan). p.pattern) c.requires.planned.plan) ∙ sym c.pattern.ensures))

pub returns-then-not-may_fit-clause-exact : goal.returns-then-not-may_fit-clause-exact
returns-then-not-may_fit-clause-exact c =
    let r = planned_rule c.args.planned.now in
    first-exact c.args.sig.now r (tree c.args.subject.now) c.requires.normal None
    (no-item c.args.sig.now r (tree c.args.subject.now) c.requires.normal
    (c.if-not-may_fit.ensures.items refl c.requires.normal r
    (sym (ap (λ (p : Plan). p.pattern) c.requires.planned.plan) ∙ sym c.pattern.ensures)))

pub returns-then-is_direct-clause-first : goal.returns-then-is_direct-clause-first
returns-then-is_direct-clause-first c =
    c.in_ok-found.ensures ∙ taken-first c.args.sig.now (planned_rule c.args.planned.now) (tree c.args.subject.now)
    c.requires.normal (c.if-is_direct.ensures.syntactic refl) (c.if-is_direct.ensures.free refl)

pub returns-then-is_direct-clause-exact : goal.returns-then-is_direct-clause-exact
returns-then-is_direct-clause-exact c =
    first-exact c.args.sig.now (planned_rule c.args.planned.now) (tree c.args.subject.now) c.requires.normal _
    (c.in_ok-found.ensures ∙ taken-first c.args.sig.now (planned_rule c.args.planned.now) (tree c.args.subject.now)
    c.requires.normal (c.if-is_direct.ensures.syntactic refl) (c.if-is_direct.ensures.free refl))

pub build-requires-clause-constant_nodes : goal.build-requires-clause-constant_nodes
build-requires-clause-constant_nodes c =
    let p = c.args.planned.now in
    omega (
      arith,
      constants-nodes c.args.sig.now (planned_rule p ∷ []) p.constants (c.requires.planned.sound, tt)
          c.requires.planned.constants,
    )

pub build-requires-clause-normal_constants : goal.build-requires-clause-normal_constants
build-requires-clause-normal_constants c =
    let p = c.args.planned.now in
    constants-normal c.args.sig.now (planned_rule p ∷ []) p.constants (c.requires.planned.sound, tt)
    c.requires.planned.constants

pub room_for-requires : goal.room_for-requires
room_for-requires c =
    let p = c.args.planned.now in
    omega (
      arith,
      ap node_count
          (subject-built c.in_ok-table.table (tree c.args.subject.now) p.constants c.in_ok-table.ensures.table),
      c.requires.few,
    )

pub begin-cursor-requires-clause-condition : goal.begin-cursor-requires-clause-condition
begin-cursor-requires-clause-condition c =
    let r = planned_rule c.args.planned.now in
    HasConditionOver-HasSoundCondition c.args.sig.now r.pattern r.condition c.requires.planned.sound.condition

pub begin-cursor-requires-clause-constants : goal.begin-cursor-requires-clause-constants
begin-cursor-requires-clause-constants c =
    let p = c.args.planned.now in
    constants-held c.in_ok-table.table (tree c.args.subject.now) p.constants c.in_ok-table.ensures.table
    (planned_rule p) c.requires.planned.constants

pub returns-then-not-next-clause-first : goal.returns-then-not-next-clause-first
returns-then-not-next-clause-first c =
    let p = c.args.planned.now in
    let t = tree c.args.subject.now in
    let same = subject-built c.in_ok-table.table t p.constants c.in_ok-table.ensures.table in
    first-item c.args.sig.now (planned_rule p) t c.requires.normal None
    (sym (no-some c.next.new.self.item (λ h. let e : false ≡ true = c.if-not-next.ensures.answer.1 h in cc))
    ∙ first-step c.args.sig.now (planned_rule p) t c.requires.normal c.begin-cursor.result c.next.new.self
    (subject_of c.in_ok-table.table) c.next.ensures.moved c.begin-cursor.ensures.list same)

pub returns-then-not-next-clause-exact : goal.returns-then-not-next-clause-exact
returns-then-not-next-clause-exact c =
    let p = c.args.planned.now in
    let t = tree c.args.subject.now in
    let same = subject-built c.in_ok-table.table t p.constants c.in_ok-table.ensures.table in
    first-exact c.args.sig.now (planned_rule p) t c.requires.normal None
    (first-item c.args.sig.now (planned_rule p) t c.requires.normal None
    (sym (no-some c.next.new.self.item (λ h. let e : false ≡ true = c.if-not-next.ensures.answer.1 h in cc))
    ∙ first-step c.args.sig.now (planned_rule p) t c.requires.normal c.begin-cursor.result c.next.new.self
    (subject_of c.in_ok-table.table) c.next.ensures.moved c.begin-cursor.ensures.list same))

pub returns-clause-first : goal.returns-clause-first
returns-clause-first c =
    let p = c.args.planned.now in
    let t = tree c.args.subject.now in
    let same = subject-built c.in_ok-table.table t p.constants c.in_ok-table.ensures.table in
    sym c.in_ok-subst.ensures
    ∙ first-item c.args.sig.now (planned_rule p) t c.requires.normal c.next.new.self.item
    (first-step c.args.sig.now (planned_rule p) t c.requires.normal c.begin-cursor.result c.next.new.self
    (subject_of c.in_ok-table.table) c.next.ensures.moved c.begin-cursor.ensures.list same)

pub returns-clause-exact : goal.returns-clause-exact
returns-clause-exact c =
    let p = c.args.planned.now in
    let t = tree c.args.subject.now in
    let same = subject-built c.in_ok-table.table t p.constants c.in_ok-table.ensures.table in
    first-exact c.args.sig.now (planned_rule p) t c.requires.normal (Some (subst_of c.in_ok-subst.field-0))
    (sym c.in_ok-subst.ensures
    ∙ first-item c.args.sig.now (planned_rule p) t c.requires.normal c.next.new.self.item
    (first-step c.args.sig.now (planned_rule p) t c.requires.normal c.begin-cursor.result c.next.new.self
    (subject_of c.in_ok-table.table) c.next.ensures.moved c.begin-cursor.ensures.list same))
