use Rattle.std.proofs.Common.{◌∙◌, refl, sym, ap}
use Rattle.std.specs.Prelude.{Some, option_map}
use Rattle.mp_term.specs.View.{tree}
use Rattle.mp_pattern.specs.Value.{one}
use Rattle.mp_subst.specs.Bound.{bound_of}
use Rattle.mp_cond.proofs.SettledLaws.{value_of-bound, term_at-found}
use Rattle.mp_cond.proofs.ranks.Ranks.value.Goals as goal

pub returns-in-Some-clause-value : goal.returns-in-Some-clause-value
returns-in-Some-clause-value c =
    let t = c.args.self.now.table.now in
    rw c.in-Ground.is (ap (λ u. Some (one u)) (term_at-found t (tree c.in-Ground.term) c.in-Some.rank
    (sym c.find.ensures ∙ ap (option_map (λ r. r.0)) c.in-Some.is)))

pub returns-in-Some-bound-clause-value : goal.returns-in-Some-bound-clause-value
returns-in-Some-bound-clause-value c =
    let v = c.args.self.now in
    rw c.in-Var.is (value_of-bound v c.in-Var.name _ (bound_of c.in-Some-bound.bound) refl
    (sym c.bound.ensures.value ∙ ap (option_map bound_of) c.in-Some-bound.is)
    ∙ ap Some (sym (c.of_bound.ensures.value v.table.now)))
