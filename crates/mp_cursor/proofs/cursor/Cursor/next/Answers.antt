use Rattle.std.proofs.Common.{◌≡◌, ◌∙◌, ap, sym}
use Rattle.std.specs.Prelude.{option_map, if◌then◌else◌}
use Rattle.mp_pattern.specs.CondView.{cond_tree}
use Rattle.mp_pattern.specs.RuleView.{rule_tree}
use Rattle.mp_search.specs.declared.stage.Stage.{Stage}
use Rattle.mp_search.specs.declared.stage.Stage.TheVariants.{Standing, Ended}
use Rattle.mp_cursor.specs.Listing.{advanced}
use Rattle.mp_cursor.specs.Parts.{item_of}
use Rattle.mp_cursor.proofs.NextLaws.{IsMoved, standing-at, moved-on, moved-view, moved-cursor}
use Rattle.mp_cursor.proofs.cursor.Cursor.next.Goals as goal
use Rattle.mp_cursor.proofs.cursor.Cursor.next.Goals.{After-advance-found, then-found, else-found}

pub advance-found-requires-clause-standing : goal.advance-found-requires-clause-standing
advance-found-requires-clause-standing c =
    let d = c.self.inside in
    standing-at d.matched c.self.invariant.matched (rule_tree d.rule.now) c.self.invariant.pattern
    (item_of d.matched d.parts) d.stage c.in-Some.mode (sym c.mode.ensures ∙ c.in-Some.is)
    c.self.invariant.standing

-- where it stands once it has looked for the next item
moved : (c : After-advance-found) (after : Stage) → after ≡ (if c.advance-found.result then Standing else Ended)
    → IsMoved c.self.inside.matched c.self.invariant.matched (rule_tree c.self.inside.rule.now) c.self.invariant.pattern
    (item_of c.self.inside.matched c.self.inside.parts) c.self.inside.stage after
    (item_of c.self.inside.matched c.advance-found.new.self)
moved c after a =
    let d = c.self.inside in
    moved-on d.matched c.self.invariant.matched (rule_tree d.rule.now) c.self.invariant.pattern
    (item_of d.matched d.parts) d.stage after c.in-Some.mode c.advance-found.result
    (option_map (λ k. cond_tree k.now) c.condition_of-condition.result) (item_of d.matched c.advance-found.new.self)
    (sym c.mode.ensures ∙ c.in-Some.is) a c.condition_of-condition.ensures c.advance-found.ensures.found

pub invariant_of-self : goal.invariant_of-self
invariant_of-self c =
    moved-cursor c.self.inside c.self.invariant c.advance-found.new.self c.if-found.self
    (moved (goal.at.invariant_of-self c).After-advance-found c.if-found.self (elim c.if-found.branch [
      | then-found w ↦ w.self-is ∙ ap (λ b. if b then Standing else Ended) (sym w.if-found.true)
      | else-found w ↦ w.self-is ∙ ap (λ b. if b then Standing else Ended) (sym w.if-found.false)
    ])) c.advance-found.ensures.over

pub returns-clause-moved : goal.returns-clause-moved
returns-clause-moved c =
    moved-view c.self.inside c.self.invariant c.advance-found.new.self c.if-found.self
    (moved (goal.at.returns-clause-moved c).After-advance-found c.if-found.self (elim c.if-found.branch [
      | then-found w ↦ w.self-is ∙ ap (λ b. if b then Standing else Ended) (sym w.if-found.true)
      | else-found w ↦ w.self-is ∙ ap (λ b. if b then Standing else Ended) (sym w.if-found.false)
    ])) ∙ ap advanced c.self.view_is
