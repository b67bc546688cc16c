use Rattle.std.proofs.Common.{◌≡◌, ◌∙◌, [], length, take, subst}
use Rattle.std.specs.Prelude.{IfSome}
use Rattle.std.proofs.lemmas.Bool.{eqb-true}
use Rattle.mp_pattern.specs.Firsts.{firsts_after}
use Rattle.mp_pattern.specs.UsedNames.{used_names}
use Rattle.mp_pattern.specs.Value.{same_name}
use Rattle.mp_pattern.specs.View.{pattern_tree}
use Rattle.mp_many.proofs.ReadNameLaws.{read-all}
use Rattle.mp_many.proofs.names.are_names.Goals as goal

pub returns-in-Some : goal.returns-in-Some
returns-in-Some c h =
    let names = c.args.names.now in
    let p = pattern_tree c.args.pattern.now in
    let n = c.in-Some.count in
    let all : n ≡ length names = eqb-true n c.len.result h ∙ c.len.ensures in
    let read : firsts_after same_name [] (used_names p) ≡ take n names =
    subst (λ o. IfSome o (λ m. firsts_after same_name [] (used_names p) ≡ take m names)) c.in-Some.is
    c.read_names.ensures.read in
    read-all names p n all read
