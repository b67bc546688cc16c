use Rattle.std.proofs.Common.{◌≡◌, true, ap, sym, ◌∙◌, subst}
use Rattle.std.specs.Ordering.{is_eq, eq_by_cmp}
use Rattle.std.specs.Cmp.Lexicographic.{slice_cmp}
use Rattle.std.specs.FinMap.{slice_cmp-IsAntisymmetric}
use Rattle.std.proofs.lemmas.Cmp.{tied_itself, lists_total}
use Rattle.std.proofs.lemmas.Map.Views.{tells_apart}
use Rattle.mp_table.specs.Table.{rank_cmp}
use Rattle.mp_pattern.specs.PlanView.{form}
use Rattle.mp_subst.specs.Bound.{bound_of, bound_from}
use Rattle.mp_subst.proofs.RankLists.{rank_same, rank_cmp_total}
use Rattle.mp_subst.proofs.joining.is_same.Goals as goal

pub returns : goal.returns
returns c =
    let old = c.args.old.now in
    let new = c.args.new.now in
    let rs = old.ranks.now in
    let ss = new.ranks.now in
    let forms : form old.form ≡ form new.form = c.is_same_form.ensures.0 c.if-not-is_same_form.false in
    let wraps : old.wrap ≡ new.wrap = c.is_same_wrap.ensures.0 c.if-not-is_same_wrap.false in (
      λ e.
          let ranks : rs ≡ ss = tells_apart (slice_cmp-IsAntisymmetric rank_same) rs ss (sym c.are_same.ensures ∙ e) in
          ap (λ f. record { form = f; wrap = (bound_of old).wrap; ranks = rs }) forms
          ∙ ap (λ w. record { form = form new.form; wrap = (bound_from old.form w rs).wrap; ranks = rs }) wraps
          ∙ ap (bound_from new.form new.wrap) ranks,
      λ e.
          let ranks : rs ≡ ss = ap (λ b. b.ranks) e in
          c.are_same.ensures ∙ subst (λ xs. eq_by_cmp (slice_cmp rank_cmp) rs xs ≡ true) ranks
          (ap is_eq (tied_itself (lists_total rank_cmp_total) rs)),
    )
