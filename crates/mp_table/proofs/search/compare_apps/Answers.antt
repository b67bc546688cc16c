use Rattle.std.proofs.Common.{◌∙◌, length, ap, sym}
use Rattle.std.specs.Ordering.{nat_cmp, ordering_then}
use Rattle.std.specs.Cmp.Lexicographic.{slice_cmp}
use Rattle.std.proofs.lemmas.Cmp.{tied_itself, nat_cmp_total}
use Rattle.std.proofs.lemmas.List.{length-map}
use Rattle.mp_term.specs.Order.{tree_cmp}
use Rattle.mp_term.specs.OrderLaws.{app_cmp-same_head}
use Rattle.mp_table.specs.Table.{term_at, terms_at}
use Rattle.mp_table.proofs.RankLaws.{ranks_cmp, differs}
use Rattle.mp_table.proofs.search.compare_apps.Goals as goal

pub returns-then-ranks-others : goal.returns-then-ranks-others
returns-then-ranks-others c t is h k =
    let rs = c.args.ranks.now in
    let ss = c.args.others.now in
    c.cmp-then-ranks-others.ensures
    ∙ sym (differs (length rs) (length ss) (slice_cmp tree_cmp (terms_at t rs) (terms_at t ss))
    c.if-ranks-others.true)
    ∙ (λ i. ordering_then (nat_cmp (sym (length-map rs (term_at t)) i) (sym (length-map ss (term_at t)) i))
    (slice_cmp tree_cmp (terms_at t rs) (terms_at t ss)))
    ∙ sym (app_cmp-same_head c.args.f.0 c.args.g.0 (terms_at t rs) (terms_at t ss) c.if-f-g.false)

pub returns : goal.returns
returns c t is h k =
    let rs = c.args.ranks.now in
    let ss = c.args.others.now in
    c.cmp-2.ensures
    ∙ sym (ranks_cmp t is.ascending rs ss h k)
    ∙ ap (λ o. ordering_then o (slice_cmp tree_cmp (terms_at t rs) (terms_at t ss))) (sym (ap (λ n. nat_cmp n (length
    (terms_at t ss))) (length-map rs (term_at t) ∙ c.if-ranks-others.false ∙ sym (length-map ss (term_at t)))
    ∙ tied_itself nat_cmp_total (length (terms_at t ss))))
    ∙ sym (app_cmp-same_head c.args.f.0 c.args.g.0 (terms_at t rs) (terms_at t ss) c.if-f-g.false)
