use Rattle.std.proofs.Common.{◌≡◌, ap, ◌∙◌, eq-eqb, refl, true, false, Bool, slice_index_or, arith, length}
use Rattle.std.specs.Prelude.{Option, Some, None, option_map, not, is_some}
use Rattle.mp_term.specs.declared.term.OpId.{OpId}
use Rattle.mp_subst.specs.Bound.{bound_of}
use Rattle.mp_search.proofs.MatchLaws.{value-alone}
use Rattle.mp_search.proofs.may_match.is_value.Goals as goal

-- where no operation is named there is none
no_wrap : (o : Option OpId) (b : Bool) → option_map (λ op. op.0) o ≡ None → is_some o ≡ not b → b ≡ true
no_wrap None true e i = refl
no_wrap None false e i = cc
no_wrap (Some op) b e i = cc

pub returns-then-is_none : goal.returns-then-is_none
returns-then-is_none c = λ s f e.
    let b = bound_of c.args.bound.now in
    let g = value-alone c.args.table.now c.requires.table s f b.form b.wrap b.ranks c.args.rank c.requires.bound.ranks
    c.requires.bound.formed c.requires.bound.wrap c.requires.rank e in
    let k = ap (λ rs. slice_index_or rs 0 (record { 0 = 0 })) g.1 in
    eq-eqb _ _ (ap (λ r. r.0) k ∙ g.3)

pub returns-else-is_none : goal.returns-else-is_none
returns-else-is_none c = λ s f e.
    let b = bound_of c.args.bound.now in
    let g = value-alone c.args.table.now c.requires.table s f b.form b.wrap b.ranks c.args.rank c.requires.bound.ranks
    c.requires.bound.formed c.requires.bound.wrap c.requires.rank e in
    no_wrap c.args.bound.now.wrap c.is_none.result g.2 c.is_none.ensures

pub returns-in_default : goal.returns-in_default
returns-in_default c = λ s f e.
    let b = bound_of c.args.bound.now in
    let g = value-alone c.args.table.now c.requires.table s f b.form b.wrap b.ranks c.args.rank c.requires.bound.ranks
    c.requires.bound.formed c.requires.bound.wrap c.requires.rank e in
    absurd (omega (arith, ap length g.1, c.in_default.len_below))

pub returns-in_default-2 : goal.returns-in_default-2
returns-in_default-2 c = λ s f e.
    let b = bound_of c.args.bound.now in
    let g = value-alone c.args.table.now c.requires.table s f b.form b.wrap b.ranks c.args.rank c.requires.bound.ranks
    c.requires.bound.formed c.requires.bound.wrap c.requires.rank e in
    absurd (omega (arith, ap length g.1, c.in_default.len_at_least))
