use Rattle.std.proofs.Common.{◌+◌, ◌-◌, ◌≡◌, ap, sym, take_all, ◌∙◌, arith, length, drop}
use Rattle.std.proofs.lemmas.List.{length-drop, drop-map}
use Rattle.mp_pair.specs.Bipartite.{lists}
use Rattle.mp_pair.specs.Tight.{held_by}
use Rattle.mp_pair.proofs.TightLaws.{tight-dead_end}
use Rattle.mp_pair.proofs.tight.is_too_tight.Goals as goal

pub returns : goal.returns
returns c = λ h.
    tight-dead_end c.args.marks.now c.args.capacities.now (lists c.args.left.now) c.args.chosen.now c.args.class
    (let l : c.held-later.result ≡ held_by c.args.marks.now
    (drop (length c.args.chosen.now + 1) (lists c.args.left.now)) = c.held-later.ensures ∙
    ap (λ v. held_by c.args.marks.now (lists v))
    (take_all (length c.args.left.now - (length c.args.chosen.now + 1))
    (drop (length c.args.chosen.now + 1) c.args.left.now)
    (omega (arith, length-drop (length c.args.chosen.now + 1) c.args.left.now))) ∙
    ap (held_by c.args.marks.now) (sym (drop-map (λ v. v.items) (length c.args.chosen.now + 1) c.args.left.now)) in
    omega (arith, c.has_less_room.ensures h))
