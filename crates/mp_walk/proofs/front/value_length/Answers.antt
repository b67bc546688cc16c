use Rattle.std.proofs.Common.{◌≡◌, ap, sym, ◌∙◌, subst, arith}
use Rattle.std.specs.Prelude.{Some}
use Rattle.mp_pattern.specs.NetTokenView.{net_token}
use Rattle.mp_pattern.specs.Value.{seq_form}
use Rattle.mp_subst.specs.Bound.{bound_of}
use Rattle.mp_walk.specs.SoundTokens.{IsVariableNumber}
use Rattle.mp_ac.specs.Numbered.{numbered_subst}
use Rattle.mp_walk.specs.Trails.{shape_of, number_of, told_by}
use Rattle.mp_walk.proofs.TrailLaws.{told_by-other_length}
use Rattle.mp_walk.proofs.front.value_length.Goals as goal

pub returns-in-Some-Seq : goal.returns-in-Some-Seq
returns-in-Some-Seq c sig t f ts o d =
    let k = net_token c.args.token.now in
    let w = shape_of k in
    let is : number_of k ≡ Some c.in-Some.var =
    sym (c.number.ensures w (number_of k) c.requires.wild) ∙ c.in-Some.is in
    let formed : (bound_of c.in-Some-Seq.field-0).form ≡ seq_form = grind (arith, c.in-Some-Seq.field-0-is) in
    ap (λ x. told_by sig f w x ts (numbered_subst t c.args.trail.now.stack)) is
    ∙ told_by-other_length sig t c.args.trail.now c.in-Some.var (subst IsVariableNumber is c.requires.var)
    (bound_of c.in-Some-Seq.field-0) (sym c.in-Some-Seq.ensures.value) formed f o w ts
    (sym (c.is_sequence.ensures w (number_of k) c.requires.wild) ∙ c.if-not-is_sequence.false) d
