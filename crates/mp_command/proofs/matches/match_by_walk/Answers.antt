use Rattle.std.proofs.Common.{subst, sym}
use Rattle.mp_text.specs.File.{file_tree}
use Rattle.mp_pattern.specs.Lists.{IsAllList}
use Rattle.mp_command.proofs.matches.match_by_walk.Goals as goal

pub print_matches-ending-requires-clause-finds : goal.print_matches-ending-requires-clause-finds
print_matches-ending-requires-clause-finds g c = λ t ps h.
    let file = file_tree c.args.file.now in
    let m = c.in-Ok.matcher in
    subst (λ sig. IsAllList sig m.rules t ps) (sym c.in-Ok.ensures.sig)
    (subst (λ rs. IsAllList file.sig rs t ps) (sym c.in-Ok.ensures.rules) h)
