use Rattle.std.proofs.Common.{◌≡◌, ◌∙◌, sym, subst, true}
use Rattle.std.specs.Prelude.{nat_eq}
use Rattle.std.specs.Ordering.{is_eq}
use Rattle.std.specs.Cmp.{unsigned_ties}
use Rattle.std.specs.Cmp.Lexicographic.{lists_ties, slice_cmp}
use Rattle.mp_table.specs.Table.{rank_cmp}
use Rattle.mp_cursor.proofs.TakesLaws.{ranks-equal, ranks-itself}
use Rattle.mp_cursor.proofs.kept.same_ranks.Goals as goal

pub returns : goal.returns
returns c =
    let rs = c.args.ranks.now in
    let ss = c.args.others.now in
    let e : c.eq.result ≡ is_eq (slice_cmp rank_cmp rs ss) = c.eq.ensures ∙ lists_ties {E = λ r s. nat_eq r.0 s.0}
    rank_cmp (λ r s. unsigned_ties r.0 s.0) rs ss in (
      λ h. ranks-equal rs ss (sym e ∙ h),
      λ q. e ∙ subst (λ us. is_eq (slice_cmp rank_cmp rs us) ≡ true) q (ranks-itself rs),
    )
