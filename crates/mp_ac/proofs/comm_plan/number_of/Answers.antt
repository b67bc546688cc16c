use Rattle.std.proofs.Common.{◌∙◌, sym, subst, rules}
use Rattle.mp_ac.specs.CommPlan.{IsNumbered}
use Rattle.mp_ac.proofs.NameNumbers.{reads-one, reads-two, length-numbered}
use Rattle.mp_ac.proofs.comm_plan.number_of.Goals as goal
use Rattle.mp_ac.proofs.comm_plan.number_of.Goals.{in_default-via-then-bytes-lt2}
use Rattle.mp_ac.proofs.comm_plan.number_of.Goals.{in_default-via-else-bytes-lt2+else-this-lt3+else-this-lt4}

pub unreachable-requires : goal.unreachable-requires
unreachable-requires c =
    let l = length-numbered c.bytes.result.now (subst IsNumbered (sym c.bytes.ensures.bytes) c.requires) in
    elim c.in_default.branch [
      | in_default-via-then-bytes-lt2 w ↦ absurd (search (rules, l, w))
      | in_default-via-else-bytes-lt2+else-this-lt3+else-this-lt4 w ↦ absurd (search (rules, l, w))
    ]

pub returns-in-len2-clause-name : goal.returns-in-len2-clause-name
returns-in-len2-clause-name c =
    let e = c.bytes.ensures.bytes in
    sym e ∙ (reads-one c.bytes.result.now (subst IsNumbered (sym e) c.requires) c.in-len2.len_below).1.name

pub returns-in-len2-clause-few : goal.returns-in-len2-clause-few
returns-in-len2-clause-few c =
    let e = c.bytes.ensures.bytes in
    (reads-one c.bytes.result.now (subst IsNumbered (sym e) c.requires) c.in-len2.len_below).1.few

pub returns-in-len3-clause-name : goal.returns-in-len3-clause-name
returns-in-len3-clause-name c =
    let e = c.bytes.ensures.bytes in
    sym e ∙ (reads-two c.bytes.result.now (subst IsNumbered (sym e) c.requires) c.in-len3.len_at_least).2.name

pub returns-in-len3-clause-few : goal.returns-in-len3-clause-few
returns-in-len3-clause-few c =
    let e = c.bytes.ensures.bytes in
    (reads-two c.bytes.result.now (subst IsNumbered (sym e) c.requires) c.in-len3.len_at_least).2.few
