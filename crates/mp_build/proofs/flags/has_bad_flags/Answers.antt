use Rattle.std.proofs.Common.{map, not, sym, ap, ◌∙◌}
use Rattle.mp_term.specs.Signature.{in_order}
use Rattle.mp_parser.specs.View.{flag_of}
use Rattle.mp_build.specs.Build.{op_decl}
use Rattle.mp_build.specs.Flags.{some_flag_twice, sign_spot, is_long_sign}
use Rattle.mp_build.proofs.OpLaws.{third-of}
use Rattle.mp_build.proofs.flags.has_bad_flags.Goals as goal

pub returns : goal.returns
returns c = λ name number h.
    let flags = map flag_of c.args.flags.now in
    let once = sym c.some_flag_twice.ensures ∙ c.if-some_flag_twice.false in
    let short = sym (rw c.sign_spot.ensures at c.is_long_sign.ensures) ∙ c.if-is_long_sign.false in
    third-of (some_flag_twice flags) (is_long_sign (sign_spot flags))
    (not (in_order (op_decl name number c.args.is_open flags))) _ once short
    (ap not (c.is_in_order.ensures name number h))
