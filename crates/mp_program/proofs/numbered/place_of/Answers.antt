use Rattle.std.proofs.Common.{◌≡◌, Some, None, map, sym, ap, ◌∙◌}
use Rattle.std.specs.Prelude.{bytes_eq}
use Rattle.std.specs.List.{list_any, position}
use Rattle.mp_pattern.specs.CondView.{cond_tree}
use Rattle.mp_print.specs.PrintedCond.{cond_text}
use Rattle.mp_program.proofs.TestLaws.{new-text, known-test, added-test}
use Rattle.mp_program.proofs.numbered.place_of.Goals as goal
use Rattle.mp_program.proofs.numbered.place_of.Goals.{In-Some, In-None}

-- where the text of the condition stands among those of the tests
found : (c : In-Some) → Some c.in-Some.index
    ≡ position (bytes_eq (cond_text c.args.sig.now (cond_tree c.args.cond)))
    (map (cond_text c.args.sig.now) c.args.tests.now)
found c = sym c.in-Some.is ∙ c.index_of.ensures.index
    ∙ (λ i. position (bytes_eq ((c.content.ensures ∙ c.in_ok-text.ensures) i)) (c.requires i))

-- it stands nowhere there
missing : (c : In-None) → None
    ≡ position (bytes_eq (cond_text c.args.sig.now (cond_tree c.args.cond)))
    (map (cond_text c.args.sig.now) c.args.tests.now)
missing c = sym c.in-None.is ∙ c.index_of.ensures.index
    ∙ (λ i. position (bytes_eq ((c.content.ensures ∙ c.in_ok-text.ensures) i)) (c.requires i))

pub returns-in-Some-clause-place : goal.returns-in-Some-clause-place
returns-in-Some-clause-place c = (known-test c.args.sig.now c.place_number.result c.args.tests.now
    (cond_tree c.args.cond) c.in-Some.index (found (goal.at.returns-in-Some-clause-place c).In-Some)
    c.place_number.ensures).0

pub returns-in-Some-clause-tests : goal.returns-in-Some-clause-tests
returns-in-Some-clause-tests c = (known-test c.args.sig.now c.place_number.result c.args.tests.now
    (cond_tree c.args.cond) c.in-Some.index (found (goal.at.returns-in-Some-clause-tests c).In-Some)
    c.place_number.ensures).1

pub add_test-requires : goal.add_test-requires
add_test-requires c =
    let sig = c.args.sig.now in
    let same = c.content-in-None.ensures ∙ c.in_ok-text.ensures in
    ap (λ t. list_any (bytes_eq t) c.args.texts.now) same
    ∙ ap (list_any (bytes_eq (cond_text sig (cond_tree c.args.cond)))) c.requires
    ∙ new-text sig c.args.tests.now (cond_tree c.args.cond) (missing (goal.at.add_test-requires c).In-None)

pub returns-in-None-clause-place : goal.returns-in-None-clause-place
returns-in-None-clause-place c = (added-test c.args.sig.now c.add_test.result c.args.tests.now c.add_test.new.tests
    (cond_tree c.args.cond) (missing (goal.at.returns-in-None-clause-place c).In-None) c.add_test.ensures.place
    c.add_test.ensures.tests).0

pub returns-in-None-clause-tests : goal.returns-in-None-clause-tests
returns-in-None-clause-tests c = (added-test c.args.sig.now c.add_test.result c.args.tests.now c.add_test.new.tests
    (cond_tree c.args.cond) (missing (goal.at.returns-in-None-clause-tests c).In-None) c.add_test.ensures.place
    c.add_test.ensures.tests).1
