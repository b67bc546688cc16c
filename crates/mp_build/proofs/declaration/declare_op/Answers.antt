use Rattle.std.proofs.Common.{◌≡◌, map, arith, rules, ap, ◌∙◌}
use Rattle.mp_term.specs.declared.signature.SigFault.TheVariants.{Memory}
use Rattle.mp_term.specs.Signature.{op_fault}
use Rattle.mp_parser.specs.View.{spot_of, flag_of}
use Rattle.mp_build.proofs.OpLaws.{declarable-op_faults, op_fault-op_faults, only-memory}
use Rattle.mp_build.proofs.declaration.declare_op.Goals as goal

pub new_decl-requires-clause-least : goal.new_decl-requires-clause-least
new_decl-requires-clause-least c =
    (declarable-op_faults c.args.sig.now.ops (spot_of c.args.name) (spot_of c.args.least) c.args.is_open
    (map flag_of c.args.flags.now) c.in_ok-check_op.ensures.0).small

pub new_decl-requires-clause-sign : goal.new_decl-requires-clause-sign
new_decl-requires-clause-sign c =
    (declarable-op_faults c.args.sig.now.ops (spot_of c.args.name) (spot_of c.args.least) c.args.is_open
    (map flag_of c.args.flags.now) c.in_ok-check_op.ensures.0).short

pub add_op-requires : goal.add_op-requires
add_op-requires c =
    let small =
    (declarable-op_faults c.args.sig.now.ops (spot_of c.args.name) (spot_of c.args.least) c.args.is_open
    (map flag_of c.args.flags.now) c.in_ok-check_op.ensures.0).small in
    omega (arith, small, ap (λ d. d.least) c.in_ok-decl.ensures.1)

pub unreachable-requires : goal.unreachable-requires
unreachable-requires c =
    let none = op_fault-op_faults c.args.sig.now (spot_of c.args.name) (spot_of c.args.least) c.args.is_open
    (map flag_of c.args.flags.now) c.in_ok-check_op.ensures.0 in
    let memory : c.in-Err.field-0 ≡ Memory =
    only-memory (ap (op_fault c.args.sig.now) c.in_ok-decl.ensures.1 ∙ none) c.in-Err.ensures.only_refused in
    search rules
