use Rattle.std.proofs.Common.{◌≡◌, true, false, length, Err, sym, ap, ◌∙◌}
use Rattle.std.proofs.lemmas.Bool.{ltb-false}
use Rattle.mp_build.proofs.Words.{is_sign-IsInfixSign}
use Rattle.mp_build.proofs.declaration.new_sign.Goals as goal

pub unreachable-requires : goal.unreachable-requires
unreachable-requires c =
    let sign = c.in-Some.sign in
    let refused = c.new.ensures.spelling.0 (c.in-Err-Spelling.is ∙ ap Err c.in-Err-Spelling.field-0-is) in
    let short = ltb-false 4 (length sign.text.now) (rw c.in-Some.is at c.requires) in
    let no : true ≡ false = sym (is_sign-IsInfixSign sign.text.now sign.signed short) ∙ refused in
    cc
