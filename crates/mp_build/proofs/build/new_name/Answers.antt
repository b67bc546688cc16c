use Rattle.std.proofs.Common.{◌≡◌, true, false, Err, sym, ap, ◌∙◌}
use Rattle.mp_build.proofs.Words.{is_name-IsName}
use Rattle.mp_build.proofs.build.new_name.Goals as goal

pub unreachable-requires : goal.unreachable-requires
unreachable-requires c =
    let refused = c.new.ensures.spelling.0 (c.in-Err-Spelling.is ∙ ap Err c.in-Err-Spelling.field-0-is) in
    let no : true ≡ false = sym (is_name-IsName c.args.word.text.now c.args.word.named) ∙ refused in
    cc
