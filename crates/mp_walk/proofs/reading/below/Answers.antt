use Rattle.std.proofs.Common.{◌<◌, ◌∙◌, ◌∷◌, drop, length, refl, ap, sym, subst}
use Rattle.std.specs.Prelude.{Some, None}
use Rattle.mp_table.specs.Table.{term_at}
use Rattle.mp_pattern.specs.Fits.{no_sequence}
use Rattle.mp_pattern.specs.PatternTree.{patterns}
use Rattle.mp_pattern.specs.Variables.{comm_above}
use Rattle.mp_pattern.specs.View.{pattern_tree}
use Rattle.mp_ac.specs.CommPlan.{root_op}
use Rattle.mp_ac.specs.CommPlans.{IsPrepared}
use Rattle.mp_walk.specs.Code.{IsPlanned}
use Rattle.mp_walk.specs.Levels.{innermost_left}
use Rattle.mp_walk.specs.OpenOnes.{IsPlaceBelow}
use Rattle.mp_walk.proofs.CodeLaws.{numbered-sound}
use Rattle.mp_walk.proofs.StepLaws.{frame_at, frame-there, opens-there}
use Rattle.mp_walk.proofs.reading.below.Goals as goal

pub first-requires : goal.first-requires
first-requires c =
    let fs = c.args.frames.now in
    let h : c.in-Some.place < length fs = subst (IsPlaceBelow (length fs)) c.in-Some.is c.requires.place in
    (c.requires.frames c.in-Some.place (frame_at fs c.in-Some.place) (frame-there fs c.in-Some.place h)).frame

pub returns-in_default-first : goal.returns-in_default-first
returns-in_default-first c =
    ap innermost_left (opens-there c.args.set.sig.now c.args.set.table.now c.args.frames.now c.requires.frames
    c.args.level.now.place c.in-Some.place c.in-Some.is c.requires.place) ∙ c.in_default-first.ensures.term

pub unreachable-requires : goal.unreachable-requires
unreachable-requires c =
    let sig = c.args.set.sig.now in
    let x = c.args.set.code.now.plans.plans in
    let token = c.requires.instr.0.token in
    subst (λ t. IsPlanned sig x t None) c.requires.instr.2
    (subst (IsPlanned sig x token) c.in_default-prepared.is
    (c.prepared.ensures sig c.requires.instr.0 c.requires.setting.plans c.requires.instr.1))

pub returns : goal.returns
returns c =
    let sig = c.args.set.sig.now in
    let x = c.args.set.code.now.plans.plans in
    let p = pattern_tree c.args.pattern.now in
    let r = c.in-Some-prepared.prepared in
    let sound = c.requires.sound in
    let left = ap innermost_left (opens-there sig c.args.set.table.now c.args.frames.now c.requires.frames
    c.args.level.now.place c.in-Some.place c.in-Some.is c.requires.place) in
    let k : IsPrepared sig x p r =
    subst (λ t. IsPlanned sig x t (Some r)) c.requires.instr.2
    (subst (IsPlanned sig x c.requires.instr.0.token) c.in-Some-prepared.is
    (c.prepared.ensures sig c.requires.instr.0 c.requires.setting.plans c.requires.instr.1)) in (
      record {
        numbered = numbered-sound sig p sound;
        commutative = ap (λ q. comm_above sig (root_op q)) sound.is ∙ sound.comm;
        prepared = subst (λ z. IsPrepared sig z p r) (sym c.comm_plans.ensures) k;
        children = patterns c.in-App.children;
        application = ap pattern_tree c.in-App.is;
        collapses = c.no_sequence.ensures ∙ ap (λ ps. no_sequence (patterns ps)) c.as_slice.ensures;
        normal = c.requires.setting.normal;
        held = c.requires.held;
        rank = c.in-Some-first.ensures.rank;
      },
      refl,
      refl,
      refl,
      left ∙ c.in-Some-first.ensures.term
          ∙ ap (λ ts. term_at c.args.set.table.now c.in-Some-first.rank ∷ drop 1 ts) (sym left),
      c.comm_plans.ensures,
    )
