use Rattle.std.proofs.Common.{◌∙◌, ◌+◌, ◌-◌, length, map, take, drop, refl, sym, subst}
use Rattle.std.specs.Prelude.{Some, None, Ok, ◌||◌}
use Rattle.std.specs.List.{AllByRecursion}
use Rattle.std.proofs.KnownBytes.{Appends-nil}
use Rattle.mp_io.specs.Moments.{sunk}
use Rattle.mp_pattern.specs.Planned.{planned_rule}
use Rattle.mp_text.specs.File.{subject_tree}
use Rattle.mp_text.specs.Sound.{IsSoundSubject}
use Rattle.mp_token.specs.TokenText.{token_text}
use Rattle.mp_matches.specs.Computed.{all_matches, behind_token, subject_matches}
use Rattle.mp_matches.specs.Left.{left_of}
use Rattle.mp_matches.specs.Printed.{PrintsBehind}
use Rattle.mp_matches.proofs.BehindLaws.{appended}
use Rattle.mp_matches.proofs.FoundMatches.{slice-rest, subjects-found, subjects-none}
use Rattle.mp_matches.proofs.Places.{all-at, all-behind, position-named, position-within}
use Rattle.mp_matches.proofs.Resumed.{behind-err, behind-not, behind-stopped, behind-then_all, behind-then_stopped}
use Rattle.mp_matches.proofs.resume.resume_subjects.Goals as goal

pub returns-in_default-clause-prints : goal.returns-in_default-clause-prints
returns-in_default-clause-prints g c = (
  subjects-none c.args.sig.now c.args.rules.now c.requires.planned c.args.token.now c.requires.token
      c.args.subjects.now c.requires.subjects (sym c.find_subject.ensures ∙ c.in_default.is),
  (Appends-nil (g.O.Sink.contents c.args.out.now), refl),
)

pub resume_rules-requires-clause-subject : goal.resume_rules-requires-clause-subject
resume_rules-requires-clause-subject g c =
    all-at subject_tree (IsSoundSubject c.args.sig.now) c.args.subjects.now c.in-Some.index
    c.index-subjects-index.result c.requires.subjects
    (position-within _ c.args.subjects.now c.in-Some.index (sym c.in-Some.ensures)) c.index-subjects-index.is

pub resume_rules-requires-clause-named : goal.resume_rules-requires-clause-named
resume_rules-requires-clause-named g c =
    sym (position-named (λ s. s.name) c.args.token.now.subject c.args.subjects.now c.in-Some.index
    c.index-subjects-index.result (sym c.in-Some.ensures) c.index-subjects-index.is)

pub print_subjects-requires-clause-subjects : goal.print_subjects-requires-clause-subjects
print_subjects-requires-clause-subjects g c =
    subst (λ ss. AllByRecursion (IsSoundSubject c.args.sig.now) (map subject_tree ss))
    (sym (slice-rest c.args.subjects.now (c.in-Some.index + 1)))
    (all-behind subject_tree (IsSoundSubject c.args.sig.now) c.args.subjects.now (c.in-Some.index + 1)
    c.requires.subjects)

pub returns-in_err-any-clause-prints : goal.returns-in_err-any-clause-prints
returns-in_err-any-clause-prints g c =
    let sig = c.args.sig.now in
    let left = left_of c.args.left.now in
    let text = token_text c.args.token.now in
    let out = sunk g.O.Sink c.args.out.now c.resume_rules.new.out in
    let after = left_of c.resume_rules.new.left in
    let ms = behind_token text
    (subject_matches sig (map planned_rule c.args.rules.now) (subject_tree c.index-subjects-index.result)) in
    let ns = all_matches sig (map planned_rule c.args.rules.now) (map subject_tree
    (take (length c.args.subjects.now - (c.in-Some.index + 1)) (drop (c.in-Some.index + 1) c.args.subjects.now))) in
    let total = subjects-found sig c.args.rules.now c.requires.planned c.args.token.now c.requires.token
    c.args.subjects.now c.requires.subjects c.requires.apart c.in-Some.index c.index-subjects-index.result
    (sym c.in-Some.ensures) c.index-subjects-index.is in
    subst (λ o. PrintsBehind sig left o out after c.from_residual.result) (sym total)
    (behind-err sig left (appended ms ns) out after c.in_err-any.field-0.0 c.from_residual.result
    c.from_residual.ensures.1
    (behind-stopped sig left ms ns out after c.in_err-any.field-0.0 c.in_err-any.ensures.prints))

pub returns-in_default-2-clause-prints : goal.returns-in_default-2-clause-prints
returns-in_default-2-clause-prints g c =
    let sig = c.args.sig.now in
    let left = left_of c.args.left.now in
    let text = token_text c.args.token.now in
    let out = sunk g.O.Sink c.args.out.now c.resume_rules.new.out in
    let after = left_of c.resume_rules.new.left in
    let ms = behind_token text
    (subject_matches sig (map planned_rule c.args.rules.now) (subject_tree c.index-subjects-index.result)) in
    let ns = all_matches sig (map planned_rule c.args.rules.now) (map subject_tree
    (take (length c.args.subjects.now - (c.in-Some.index + 1)) (drop (c.in-Some.index + 1) c.args.subjects.now))) in
    let total = subjects-found sig c.args.rules.now c.requires.planned c.args.token.now c.requires.token
    c.args.subjects.now c.requires.subjects c.requires.apart c.in-Some.index c.index-subjects-index.result
    (sym c.in-Some.ensures) c.index-subjects-index.is in
    subst (λ o. PrintsBehind sig left o out after (Ok None)) (sym total)
    (behind-not sig left ms ns out after
    (subst (λ o. PrintsBehind sig left ms out after (Ok o)) c.in_default-2.is c.in_ok-any.ensures.prints))

pub returns-in_err-more-clause-prints : goal.returns-in_err-more-clause-prints
returns-in_err-more-clause-prints g c =
    let sig = c.args.sig.now in
    let left = left_of c.args.left.now in
    let text = token_text c.args.token.now in
    let before = sunk g.O.Sink c.args.out.now c.resume_rules.new.out in
    let later = sunk g.O.Sink c.resume_rules.new.out c.print_subjects.new.out in
    let out = sunk g.O.Sink c.args.out.now c.print_subjects.new.out in
    let mid = left_of c.resume_rules.new.left in
    let after = left_of c.print_subjects.new.left in
    let ms = behind_token text
    (subject_matches sig (map planned_rule c.args.rules.now) (subject_tree c.index-subjects-index.result)) in
    let ns = all_matches sig (map planned_rule c.args.rules.now) (map subject_tree
    (take (length c.args.subjects.now - (c.in-Some.index + 1)) (drop (c.in-Some.index + 1) c.args.subjects.now))) in
    let total = subjects-found sig c.args.rules.now c.requires.planned c.args.token.now c.requires.token
    c.args.subjects.now c.requires.subjects c.requires.apart c.in-Some.index c.index-subjects-index.result
    (sym c.in-Some.ensures) c.index-subjects-index.is in
    subst (λ o. PrintsBehind sig left o out after c.from_residual-in_err-more.result) (sym total)
    (behind-err sig left (appended ms ns) out after c.in_err-more.field-0.0 c.from_residual-in_err-more.result
    c.from_residual-in_err-more.ensures.1
    (behind-then_stopped sig left ms ns before.old before.new later.new before.faults before.faults_after
    later.faults_after c.in-Some-2.any mid after
    (subst (λ o. PrintsBehind sig left ms before mid (Ok o)) c.in-Some-2.is c.in_ok-any.ensures.prints)
    c.in_err-more.field-0.0 c.in_err-more.ensures.prints))

pub returns-clause-prints : goal.returns-clause-prints
returns-clause-prints g c =
    let sig = c.args.sig.now in
    let left = left_of c.args.left.now in
    let text = token_text c.args.token.now in
    let before = sunk g.O.Sink c.args.out.now c.resume_rules.new.out in
    let later = sunk g.O.Sink c.resume_rules.new.out c.print_subjects.new.out in
    let out = sunk g.O.Sink c.args.out.now c.print_subjects.new.out in
    let mid = left_of c.resume_rules.new.left in
    let after = left_of c.print_subjects.new.left in
    let ms = behind_token text
    (subject_matches sig (map planned_rule c.args.rules.now) (subject_tree c.index-subjects-index.result)) in
    let ns = all_matches sig (map planned_rule c.args.rules.now) (map subject_tree
    (take (length c.args.subjects.now - (c.in-Some.index + 1)) (drop (c.in-Some.index + 1) c.args.subjects.now))) in
    let total = subjects-found sig c.args.rules.now c.requires.planned c.args.token.now c.requires.token
    c.args.subjects.now c.requires.subjects c.requires.apart c.in-Some.index c.index-subjects-index.result
    (sym c.in-Some.ensures) c.index-subjects-index.is in
    subst (λ o. PrintsBehind sig left o out after (Ok (Some (c.in-Some-2.any || c.in_ok-more.more)))) (sym total)
    (behind-then_all sig left ms ns before.old before.new later.new before.faults before.faults_after later.faults_after
    c.in-Some-2.any mid after
    (subst (λ o. PrintsBehind sig left ms before mid (Ok o)) c.in-Some-2.is c.in_ok-any.ensures.prints)
    c.in_ok-more.more c.in_ok-more.ensures.prints)
