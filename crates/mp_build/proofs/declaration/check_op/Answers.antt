use Rattle.mp_term.specs.declared.limits.TheConstants.{MAX_ARITY}
use Rattle.std.proofs.Common.{◌≡◌, ◌<◌, ◌≤◌, true, false, ltb, map, arith, rules, sym, ◌∙◌}
use Rattle.std.proofs.lemmas.Result.{err_from_is_err_and}
use Rattle.std.proofs.lemmas.List.{length-map}
use Rattle.mp_term.specs.declared.term.OpId.{OpId}
use Rattle.mp_parser.specs.View.{spot_of, flag_of}
use Rattle.mp_build.specs.declared.fault.TextKind.TheVariants.{BadFlags, TooMany}
use Rattle.mp_build.specs.Checks.{has_bad_flags}
use Rattle.mp_build.specs.Names.{number_of}
use Rattle.mp_build.proofs.Fails.{fails-front, fails-behind, fails-fault_if, gives-behind}
use Rattle.mp_build.proofs.Faultless.{none-fault_if}
use Rattle.mp_build.proofs.Declared.{is_some-found_op}
use Rattle.mp_build.proofs.declaration.check_op.Goals as goal

pub returns-in_err-check_name : goal.returns-in_err-check_name
returns-in_err-check_name c =
    let p = err_from_is_err_and c.from_residual.result c.from_residual.ensures.1 in
    let names = map (λ d. d.name) c.args.sig.now.ops in
    let held = c.is_some-is_held.ensures ∙ is_some-found_op
    (λ (id : OpId). id.0) c.find_op.result c.args.name.text.now c.args.sig.now.ops c.find_op.ensures in
    let count = c.op_count.ensures.count ∙ sym (length-map c.args.sig.now.ops (λ d. d.name)) in
    rw (p.1, p.2) (fails-front c.in_err-check_name.field-0.0 _ _ (c.in_err-check_name.ensures.first names held count))

pub returns-then-has_bad_flags : goal.returns-then-has_bad_flags
returns-then-has_bad_flags c =
    let names = map (λ d. d.name) c.args.sig.now.ops in
    let held = c.is_some-is_held.ensures ∙ is_some-found_op
    (λ (id : OpId). id.0) c.find_op.result c.args.name.text.now c.args.sig.now.ops c.find_op.ensures in
    let count = c.op_count.ensures.count ∙ sym (length-map c.args.sig.now.ops (λ d. d.name)) in
    let bad = sym (c.has_bad_flags.ensures (spot_of c.args.name) (spot_of c.args.least) c.number_of-count.ensures)
    ∙ c.if-has_bad_flags.true in
    fails-behind c.error_at.result _ _ (c.in_ok-check_name.ensures.first names held count).0
    (fails-front c.error_at.result _ _
    (fails-fault_if c.error_at.result (has_bad_flags (spot_of c.args.name) (spot_of c.args.least) c.args.is_open
    (map flag_of c.args.flags.now)) BadFlags c.args.name.place c.error_at.ensures bad))

pub returns-then-count-gt-MAX_ARITY : goal.returns-then-count-gt-MAX_ARITY
returns-then-count-gt-MAX_ARITY c =
    let names = map (λ d. d.name) c.args.sig.now.ops in
    let held = c.is_some-is_held.ensures ∙ is_some-found_op
    (λ (id : OpId). id.0) c.find_op.result c.args.name.text.now c.args.sig.now.ops c.find_op.ensures in
    let count = c.op_count.ensures.count ∙ sym (length-map c.args.sig.now.ops (λ d. d.name)) in
    let good = sym (c.has_bad_flags.ensures (spot_of c.args.name) (spot_of c.args.least) c.number_of-count.ensures)
    ∙ c.if-has_bad_flags.false in
    let large : MAX_ARITY < number_of c.args.least.text.now = omega (arith, c.number_of-count.ensures) in
    let test : ltb MAX_ARITY (number_of c.args.least.text.now) ≡ true = search (rules, large) in
    fails-behind c.error_at-then-count-gt-MAX_ARITY.result _ _ (c.in_ok-check_name.ensures.first names held count).0
    (fails-behind c.error_at-then-count-gt-MAX_ARITY.result _ _
    (none-fault_if (has_bad_flags (spot_of c.args.name) (spot_of c.args.least) c.args.is_open
    (map flag_of c.args.flags.now)) BadFlags c.args.name.place good)
    (fails-front c.error_at-then-count-gt-MAX_ARITY.result _ _
    (fails-fault_if c.error_at-then-count-gt-MAX_ARITY.result
    (ltb MAX_ARITY (number_of c.args.least.text.now)) TooMany c.args.least.place
    c.error_at-then-count-gt-MAX_ARITY.ensures test)))

pub returns : goal.returns
returns c =
    let names = map (λ d. d.name) c.args.sig.now.ops in
    let held = c.is_some-is_held.ensures ∙ is_some-found_op
    (λ (id : OpId). id.0) c.find_op.result c.args.name.text.now c.args.sig.now.ops c.find_op.ensures in
    let count = c.op_count.ensures.count ∙ sym (length-map c.args.sig.now.ops (λ d. d.name)) in
    let good = sym (c.has_bad_flags.ensures (spot_of c.args.name) (spot_of c.args.least) c.number_of-count.ensures)
    ∙ c.if-has_bad_flags.false in
    let small : number_of c.args.least.text.now ≤ MAX_ARITY = omega (arith, c.number_of-count.ensures) in
    let test : ltb MAX_ARITY (number_of c.args.least.text.now) ≡ false = search (rules, small) in
    gives-behind c.check_sign.result _ _ (λ _. Unit {0}) (c.in_ok-check_name.ensures.first names held count).0
    (gives-behind c.check_sign.result _ _ (λ _. Unit {0})
    (none-fault_if (has_bad_flags (spot_of c.args.name) (spot_of c.args.least) c.args.is_open
    (map flag_of c.args.flags.now)) BadFlags c.args.name.place good)
    (gives-behind c.check_sign.result _ _ (λ _. Unit {0})
    (none-fault_if (ltb MAX_ARITY (number_of c.args.least.text.now)) TooMany c.args.least.place test)
    (rw c.sign_spot.ensures at c.check_sign.ensures)))
