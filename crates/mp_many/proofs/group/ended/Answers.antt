use Rattle.std.proofs.Common.{◌∙◌, ◌+◌, ◌++◌, [], ◌∷◌, drop, get_or, sym, ap, arith, append_assoc}
use Rattle.std.specs.Prelude.{flat_map}
use Rattle.mp_many.specs.Groups.{left_at}
use Rattle.mp_many.specs.Laid.{ended}
use Rattle.mp_many.proofs.RowLaws.{ended-step, within-step, ended-past, ended-within}
use Rattle.mp_many.proofs.group.ended.Goals as goal
use Rattle.mp_many.proofs.group.ended.Goals.{then-length-place+in_ok-push, else-length-place}

pub loop-number-preserved : goal.loop-number-preserved
loop-number-preserved c =
    let lists = c.args.lists.now in
    let ns = c.args.numbers.now in
    let i = c.loop-number.number-index in
    let old = c.loop-number.invariant in
    let rest = flat_map ended (left_at lists c.args.place (drop (i + 1) ns)) in
    let step = within-step lists ns i c.loop-number-test.true old.within in
    let number = get_or ns i 0 in
    let list = get_or lists number [] in
    let e = ended-step lists c.args.place ns i c.loop-number-test.true in
    let now = c.loop-number.ended in
    record {
      within = step.1;
      ended =
          elim c.if-length-place.branch [
            | then-length-place+in_ok-push w ↦
                ap (λ xs. xs ++ rest) (w.ended-is ∙ w.in_ok-push.ensures.ok) ∙ append_assoc now (number ∷ []) rest
                ∙ ap (λ xs. now ++ (xs ++ rest))
                (sym (ended-past number c.args.place list (omega (arith, w.if-length-place.true, c.length.ensures))))
                ∙ ap (λ xs. now ++ xs) (sym e) ∙ old.ended
            | else-length-place w ↦
                ap (λ xs. xs ++ rest) w.ended-is
                ∙ ap (λ xs. now ++ (xs ++ rest))
                (sym (ended-within number c.args.place list (omega (arith, w.if-length-place.false, c.length.ensures))))
                ∙ ap (λ xs. now ++ xs) (sym e) ∙ old.ended
          ];
    }
