use Rattle.std.proofs.Common.{◌≡◌, ◌≢◌, ◌≤◌, ◌+◌, ◌-◌, ◌++◌, [], take, drop, length, ap, subst, ◌∙◌, arith}
use Rattle.std.specs.Prelude.{Option, Some, None, codes}
use Rattle.std.proofs.lemmas.List.{take_rest, length-drop}
use Rattle.mp_io.specs.Devices.{Text}
use Rattle.mp_pattern.specs.CondView.{cond_tree}
use Rattle.mp_pattern.specs.declared.condition.Cond.{Cond}
use Rattle.mp_program.specs.Form.{untested, spelled}
use Rattle.mp_program.specs.RuleView.{rule_line_view}
use Rattle.mp_program.specs.declared.format.Format.TheVariants.{One}
use Rattle.mp_line.specs.declared.names.TheConstants.{MAX_KEPT}
use Rattle.mp_line.specs.Finds.{Finds}
use Rattle.mp_line.specs.LineTexts.{IsExactCond, IsHeadText, IsRuleBody}
use Rattle.mp_line.proofs.CondOpens.{right-opens}
use Rattle.mp_line.proofs.FindsLaws.{IfOk-also}
use Rattle.mp_line.proofs.ItemLaws.{not-empty, is-empty}
use Rattle.mp_line.proofs.SpelledLaws.{drop-behind, room-behind, names-through, no-if-rule, text-parts, no-cond}
use Rattle.mp_line.proofs.SpelledLaws.{spelled-through}
use Rattle.mp_line.proofs.rule.spelled_rule.Goals as goal
use Rattle.mp_line.proofs.rule.spelled_rule.Goals.{In-Some}

-- something stands behind the letters, digits and blanks
some-behind : (c : In-Some) → c.front_of_words.result.1.now ≢ []
some-behind c = not-empty c.front_of_words.result.1.now c.is_empty.result c.is_empty.ensures c.if-is_empty.false

-- the parts of the text
parts-of : (c : In-Some) → c.args.text.now
    ≡ c.in-Some.front.now ++ (codes " if " ++ (c.in-Some.ensures.0 ++ c.front_of_words.result.1.now))
parts-of c =
    text-parts c.args.sig.now (right-opens c.args.sig.now) MAX_KEPT c.args.text.now c.front_of_words.result.0.now
    c.front_of_words.result.1.now c.front_of_words.ensures (some-behind c) c.in-Some.front.now c.in-Some.ensures.0
    c.in-Some.ensures.1

-- there is room for ` if ` behind the front
room : (c : In-Some) → length c.in-Some.front.now + 4 ≤ length c.args.text.now
room c = room-behind c.args.text.now c.in-Some.front.now (c.in-Some.ensures.0 ++ c.front_of_words.result.1.now)
    (parts-of c)

-- what stands behind that
abbrev spelling : Text → Text → Text
spelling text front = take (length text - (length front + 4)) (drop (length front + 4) text)

-- what is read of it is read of the rest of the letters, digits and blanks and of what stands behind them
exact-of : (c : In-Some) (o : Option Cond)
    → Finds cond_tree (IsExactCond c.args.sig.now (spelling c.args.text.now c.in-Some.front.now)) o
    → Finds cond_tree (IsExactCond c.args.sig.now (c.in-Some.ensures.0 ++ c.front_of_words.result.1.now)) o
exact-of c o =
    let front = c.in-Some.front.now in
    subst (λ t. Finds cond_tree (IsExactCond c.args.sig.now t) o) (take_rest c.args.text.now (length front + 4)
    ∙ (ap (drop (length front + 4)) (parts-of c)
    ∙ drop-behind front (c.in-Some.ensures.0 ++ c.front_of_words.result.1.now)))

pub returns-then-is_empty : goal.returns-then-is_empty
returns-then-is_empty c =
    let sig = c.args.sig.now in
    let text = c.args.text.now in
    let parts = c.front_of_words.result in
    IfOk-also c.rule_with.result (λ o. Finds rule_line_view (IsHeadText MAX_KEPT text untested) o)
    (λ o. Finds rule_line_view (IsRuleBody sig One MAX_KEPT text) o)
    (λ o h. names-through sig (right-opens sig) MAX_KEPT text parts.0.now parts.1.now c.front_of_words.ensures
    rule_line_view o (is-empty parts.1.now c.is_empty.result c.is_empty.ensures c.if-is_empty.true) h)
    c.rule_with.ensures

pub overflow_add-spelling : goal.overflow_add-spelling
overflow_add-spelling c = omega (arith, room (goal.at.overflow_add-spelling c).In-Some)

pub slice_bounds-spelling-count : goal.slice_bounds-spelling-count
slice_bounds-spelling-count c = omega (arith, room (goal.at.slice_bounds-spelling-count c).In-Some)

pub slice_bounds-spelling-start : goal.slice_bounds-spelling-start
slice_bounds-spelling-start c = omega (arith, room (goal.at.slice_bounds-spelling-start c).In-Some)

pub exact_cond-requires : goal.exact_cond-requires
exact_cond-requires c =
    let text = c.args.text.now in
    let n = length c.in-Some.front.now + 4 in
    omega (arith, ap length (take_rest text n), length-drop n text)

pub returns-in_default : goal.returns-in_default
returns-in_default c =
    let sig = c.args.sig.now in
    let parts = c.front_of_words.result in
    no-if-rule sig (right-opens sig) MAX_KEPT c.args.text.now parts.0.now parts.1.now c.front_of_words.ensures
    (not-empty parts.1.now c.is_empty.result c.is_empty.ensures c.if-is_empty.false) c.in_default.ensures

pub returns-in_ok-new-in-Some-2 : goal.returns-in_ok-new-in-Some-2
returns-in_ok-new-in-Some-2 c =
    let sig = c.args.sig.now in
    let text = c.args.text.now in
    let parts = c.front_of_words.result in
    let at = (goal.at.returns-in_ok-new-in-Some-2 c).In-Some in
    let front = c.in-Some.front.now in
    IfOk-also c.rule_with-in-Some-2.result
    (λ o. Finds rule_line_view (IsHeadText MAX_KEPT front (spelled c.in_ok-new-in-Some-2.field-0)) o)
    (λ o. Finds rule_line_view (IsRuleBody sig One MAX_KEPT text) o)
    (λ o h. spelled-through sig (right-opens sig) MAX_KEPT text parts.0.now parts.1.now c.front_of_words.ensures
    (some-behind at) front c.in-Some.ensures.0 c.in-Some.ensures.1 rule_line_view o (cond_tree c.in-Some-2.cond)
    (exact-of at (Some c.in-Some-2.cond)
    (subst (Finds cond_tree (IsExactCond sig (spelling text front))) c.in-Some-2.is c.in_ok-cond.ensures))
    (subst (λ d. Finds rule_line_view (IsHeadText MAX_KEPT front (spelled d)) o) c.in_ok-new-in-Some-2.ensures h))
    c.rule_with-in-Some-2.ensures

pub returns-in-None : goal.returns-in-None
returns-in-None c =
    let sig = c.args.sig.now in
    let parts = c.front_of_words.result in
    let at = (goal.at.returns-in-None c).In-Some in
    let front = c.in-Some.front.now in
    no-cond sig (right-opens sig) MAX_KEPT c.args.text.now parts.0.now parts.1.now c.front_of_words.ensures
    (some-behind at) front c.in-Some.ensures.0 c.in-Some.ensures.1
    (exact-of at None
    (subst (Finds cond_tree (IsExactCond sig (spelling c.args.text.now front))) c.in-None.is c.in_ok-cond.ensures))
