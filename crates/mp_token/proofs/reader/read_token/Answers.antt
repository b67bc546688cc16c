use Rattle.std.proofs.Common.{◌≡◌, ◌<◌, ◌∙◌, Some, None, ap, sym, get_or, length, take, arith}
use Rattle.std.proofs.lemmas.Bool.{MatchBool-at_true, MatchBool-at_false}
use Rattle.std.proofs.lemmas.List.{take_all, take_more}
use Rattle.mp_token.specs.Machine.{start, state_of, run, step}
use Rattle.mp_token.proofs.Runs.{run_push}
use Rattle.mp_token.proofs.SpellingLaws.{refused_fault, run_names, answer_spells, answer_faults}
use Rattle.mp_token.proofs.reader.read_token.Goals as goal

pub returns-then-not-branch-clause-fault : goal.returns-then-not-branch-clause-fault
returns-then-not-branch-clause-fault c =
    let bytes = c.args.bytes.now in
    let i = c.loop-index.index in
    let within : i < length bytes = omega arith in
    let refused : step (state_of c.loop-index.reader) (get_or bytes i 0) ≡ None =
    MatchBool-at_false _ _ c.if-not-branch.true c.in_ok-pass.ensures in
    refused_fault bytes i 0 (state_of c.loop-index.reader) within c.loop-index.invariant refused

pub loop-index-preserved : goal.loop-index-preserved
loop-index-preserved c =
    let bytes = c.args.bytes.now in
    let i = c.loop-index.index in
    let within : i < length bytes = omega arith in
    let passed : step (state_of c.loop-index.reader) (get_or bytes i 0) ≡ Some (state_of c.pass.new.self) =
    MatchBool-at_true _ _ c.if-not-branch.false c.in_ok-pass.ensures in
    ap (run start) (take_more bytes i 0 within)
    ∙ run_push start (state_of c.loop-index.reader) (take i bytes) (get_or bytes i 0) (Some (state_of c.pass.new.self))
    c.loop-index.invariant passed

pub finish-requires : goal.finish-requires
finish-requires c =
    run_names (take c.loop-index.index c.args.bytes.now) (state_of c.loop-index.reader) c.loop-index.invariant

pub returns-clause-token : goal.returns-clause-token
returns-clause-token c =
    let bytes = c.args.bytes.now in
    answer_spells bytes (state_of c.loop-index.reader) c.finish.result
    (ap (run start) (sym (take_all c.loop-index.index bytes c.loop-index-test.false)) ∙ c.loop-index.invariant)
    c.finish.ensures.token

pub returns-clause-fault : goal.returns-clause-fault
returns-clause-fault c =
    let bytes = c.args.bytes.now in
    answer_faults bytes (state_of c.loop-index.reader) c.finish.result
    (ap (run start) (sym (take_all c.loop-index.index bytes c.loop-index-test.false)) ∙ c.loop-index.invariant)
    c.finish.ensures.fault
