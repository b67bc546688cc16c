use Rattle.std.proofs.Common.{◌∙◌, ◌+◌, ◌-◌, length, map, take, drop, refl, sym, subst}
use Rattle.std.specs.Prelude.{Some, None, Ok, ◌||◌}
use Rattle.std.specs.List.{AllByRecursion}
use Rattle.std.proofs.KnownBytes.{Appends-nil}
use Rattle.mp_io.specs.Moments.{sunk}
use Rattle.mp_pattern.specs.Planned.{IsPlanned, planned_rule, rule_plan}
use Rattle.mp_text.specs.File.{subject_tree}
use Rattle.mp_token.specs.TokenText.{token_text}
use Rattle.mp_matches.specs.Computed.{behind_token, rule_matches, subject_matches}
use Rattle.mp_matches.specs.Left.{left_of}
use Rattle.mp_matches.specs.Printed.{PrintsBehind}
use Rattle.mp_matches.proofs.BehindLaws.{appended}
use Rattle.mp_matches.proofs.FoundMatches.{rules-found, rules-none, slice-rest}
use Rattle.mp_matches.proofs.Places.{all-at, all-behind, position-within}
use Rattle.mp_matches.proofs.Resumed.{behind-err, behind-not, behind-stopped, behind-then_all, behind-then_stopped}
use Rattle.mp_matches.proofs.resume.resume_rules.Goals as goal

pub returns-in_default-clause-prints : goal.returns-in_default-clause-prints
returns-in_default-clause-prints g c = (
  rules-none c.args.sig.now c.args.rules.now c.requires.planned c.args.token.now c.requires.token
      (subject_tree c.args.subject.now) c.requires.subject (sym c.find_rule.ensures ∙ c.in_default.is),
  (Appends-nil (g.O.Sink.contents c.args.out.now), refl),
)

pub resume_rule-requires-clause-planned : goal.resume_rule-requires-clause-planned
resume_rule-requires-clause-planned g c =
    all-at rule_plan (IsPlanned c.args.sig.now) c.args.rules.now c.in-Some.index c.index-rules-index.result
    c.requires.planned (position-within _ c.args.rules.now c.in-Some.index (sym c.in-Some.ensures))
    c.index-rules-index.is

pub print_rules-requires-clause-planned : goal.print_rules-requires-clause-planned
print_rules-requires-clause-planned g c =
    subst (λ ps. AllByRecursion (IsPlanned c.args.sig.now) (map rule_plan ps))
    (sym (slice-rest c.args.rules.now (c.in-Some.index + 1)))
    (all-behind rule_plan (IsPlanned c.args.sig.now) c.args.rules.now (c.in-Some.index + 1) c.requires.planned)

pub returns-in_err-any-clause-prints : goal.returns-in_err-any-clause-prints
returns-in_err-any-clause-prints g c =
    let sig = c.args.sig.now in
    let left = left_of c.args.left.now in
    let text = token_text c.args.token.now in
    let out = sunk g.O.Sink c.args.out.now c.resume_rule.new.out in
    let after = left_of c.resume_rule.new.left in
    let ms = behind_token text
    (rule_matches sig (subject_tree c.args.subject.now) (planned_rule c.index-rules-index.result)) in
    let ns = subject_matches sig (map planned_rule (take (length c.args.rules.now - (c.in-Some.index + 1))
    (drop (c.in-Some.index + 1) c.args.rules.now))) (subject_tree c.args.subject.now) in
    let total = rules-found sig c.args.rules.now c.requires.planned c.args.token.now c.requires.token
    (subject_tree c.args.subject.now) c.requires.subject c.requires.distinct c.in-Some.index
    c.index-rules-index.result (sym c.in-Some.ensures) c.index-rules-index.is in
    subst (λ o. PrintsBehind sig left o out after c.from_residual.result) (sym total)
    (behind-err sig left (appended ms ns) out after c.in_err-any.field-0.0 c.from_residual.result
    c.from_residual.ensures.1
    (behind-stopped sig left ms ns out after c.in_err-any.field-0.0 c.in_err-any.ensures.prints))

pub returns-in_default-2-clause-prints : goal.returns-in_default-2-clause-prints
returns-in_default-2-clause-prints g c =
    let sig = c.args.sig.now in
    let left = left_of c.args.left.now in
    let text = token_text c.args.token.now in
    let out = sunk g.O.Sink c.args.out.now c.resume_rule.new.out in
    let after = left_of c.resume_rule.new.left in
    let ms = behind_token text
    (rule_matches sig (subject_tree c.args.subject.now) (planned_rule c.index-rules-index.result)) in
    let ns = subject_matches sig (map planned_rule (take (length c.args.rules.now - (c.in-Some.index + 1))
    (drop (c.in-Some.index + 1) c.args.rules.now))) (subject_tree c.args.subject.now) in
    let total = rules-found sig c.args.rules.now c.requires.planned c.args.token.now c.requires.token
    (subject_tree c.args.subject.now) c.requires.subject c.requires.distinct c.in-Some.index
    c.index-rules-index.result (sym c.in-Some.ensures) c.index-rules-index.is in
    subst (λ o. PrintsBehind sig left o out after (Ok None)) (sym total)
    (behind-not sig left ms ns out after
    (subst (λ o. PrintsBehind sig left ms out after (Ok o)) c.in_default-2.is c.in_ok-any.ensures.prints))

pub returns-in_err-more-clause-prints : goal.returns-in_err-more-clause-prints
returns-in_err-more-clause-prints g c =
    let sig = c.args.sig.now in
    let left = left_of c.args.left.now in
    let text = token_text c.args.token.now in
    let before = sunk g.O.Sink c.args.out.now c.resume_rule.new.out in
    let later = sunk g.O.Sink c.resume_rule.new.out c.print_rules.new.out in
    let out = sunk g.O.Sink c.args.out.now c.print_rules.new.out in
    let mid = left_of c.resume_rule.new.left in
    let after = left_of c.print_rules.new.left in
    let ms = behind_token text
    (rule_matches sig (subject_tree c.args.subject.now) (planned_rule c.index-rules-index.result)) in
    let ns = subject_matches sig (map planned_rule (take (length c.args.rules.now - (c.in-Some.index + 1))
    (drop (c.in-Some.index + 1) c.args.rules.now))) (subject_tree c.args.subject.now) in
    let total = rules-found sig c.args.rules.now c.requires.planned c.args.token.now c.requires.token
    (subject_tree c.args.subject.now) c.requires.subject c.requires.distinct c.in-Some.index
    c.index-rules-index.result (sym c.in-Some.ensures) c.index-rules-index.is in
    subst (λ o. PrintsBehind sig left o out after c.from_residual-in_err-more.result) (sym total)
    (behind-err sig left (appended ms ns) out after c.in_err-more.field-0.0 c.from_residual-in_err-more.result
    c.from_residual-in_err-more.ensures.1
    (behind-then_stopped sig left ms ns before.old before.new later.new before.faults before.faults_after
    later.faults_after c.in-Some-2.any mid after
    (subst (λ o. PrintsBehind sig left ms before mid (Ok o)) c.in-Some-2.is c.in_ok-any.ensures.prints)
    c.in_err-more.field-0.0 c.in_err-more.ensures.prints))

pub returns-clause-prints : goal.returns-clause-prints
returns-clause-prints g c =
    let sig = c.args.sig.now in
    let left = left_of c.args.left.now in
    let text = token_text c.args.token.now in
    let before = sunk g.O.Sink c.args.out.now c.resume_rule.new.out in
    let later = sunk g.O.Sink c.resume_rule.new.out c.print_rules.new.out in
    let out = sunk g.O.Sink c.args.out.now c.print_rules.new.out in
    let mid = left_of c.resume_rule.new.left in
    let after = left_of c.print_rules.new.left in
    let ms = behind_token text
    (rule_matches sig (subject_tree c.args.subject.now) (planned_rule c.index-rules-index.result)) in
    let ns = subject_matches sig (map planned_rule (take (length c.args.rules.now - (c.in-Some.index + 1))
    (drop (c.in-Some.index + 1) c.args.rules.now))) (subject_tree c.args.subject.now) in
    let total = rules-found sig c.args.rules.now c.requires.planned c.args.token.now c.requires.token
    (subject_tree c.args.subject.now) c.requires.subject c.requires.distinct c.in-Some.index
    c.index-rules-index.result (sym c.in-Some.ensures) c.index-rules-index.is in
    subst (λ o. PrintsBehind sig left o out after (Ok (Some (c.in-Some-2.any || c.in_ok-more.more)))) (sym total)
    (behind-then_all sig left ms ns before.old before.new later.new before.faults before.faults_after later.faults_after
    c.in-Some-2.any mid after
    (subst (λ o. PrintsBehind sig left ms before mid (Ok o)) c.in-Some-2.is c.in_ok-any.ensures.prints)
    c.in_ok-more.more c.in_ok-more.ensures.prints)
