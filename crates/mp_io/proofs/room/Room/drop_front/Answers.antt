use Rattle.std.proofs.Common.{◌≡◌, ◌≤◌, ◌+◌, ◌-◌, length, take, drop, min, ap, sym, subst, ◌∙◌, arith, rules}
use Rattle.std.proofs.lemmas.List.{length-drop, length-take, drop-take}
use Rattle.std.proofs.lemmas.List.Edits.{take-paste}
use lib.Seq.{paste}
use Rattle.mp_io.proofs.room.Room.drop_front.Goals as goal

pub returns : goal.returns
returns c =
    let all = c.self.inside.bytes in
    let n = c.args.count in
    let left = c.self.inside.count - n in
    let same : left ≡ 0 + left = omega arith in
    let long : length all ≡ 4096 = search rules in
    let held : length (take c.self.inside.count all) ≡ min c.self.inside.count (length all) =
    length-take c.self.inside.count all in
    let few : n ≤ c.self.inside.count =
    omega (arith, subst (λ l. n ≤ length l) (sym c.self.view_is) c.requires, held) in
    let whole : n + left ≡ c.self.inside.count = omega (arith, few) in
    ap (take left) c.copy_within.ensures.after
    ∙ ap (λ k. take k (paste all 0 (drop n all) left)) same
    ∙ take-paste all 0 (drop n all) left (omega (arith, long, c.self.invariant))
    (omega (arith, length-drop n all, long, c.self.invariant))
    ∙ sym (drop-take n left all)
    ∙ ap (λ k. drop n (take k all)) whole
    ∙ ap (drop n) c.self.view_is
