use Rattle.std.proofs.Common.{◌≡◌, ◌≤◌, ◌∙◌, ap, sym, arith, refl, subst}
use Rattle.std.specs.Prelude.{slice_get, sum_by}
use Rattle.mp_io.specs.Writing.{Puts}
use Rattle.mp_term.specs.Tree.{app, trees}
use Rattle.mp_term.specs.Size.{node_count, all_nodes}
use Rattle.mp_table.specs.Table.{term_at, terms_at}
use Rattle.mp_table.proofs.HeadLaws.{app_is}
use Rattle.mp_print.specs.Printing.{term_text, term_texts}
use Rattle.mp_print.proofs.Arguments.{sizes-sum, text-app}
use Rattle.mp_print.proofs.KeptTextLaws.{IsWithin-behind_comma}
use Rattle.mp_print.proofs.rank_printer.RankPrintedTreeRankBase.put_leaf.Goals as goal

pub overflow_add-part : goal.overflow_add-part
overflow_add-part g c =
    let kept = c.in-Some.ensures c.args.sig.now c.requires in
    omega (arith, (IsWithin-behind_comma c.args.base.now.texts.now _ c.in-Some.part kept.0 kept.1).0.ordered)

pub slice_bounds-put-count : goal.slice_bounds-put-count
slice_bounds-put-count g c =
    let kept = c.in-Some.ensures c.args.sig.now c.requires in
    omega (arith, (IsWithin-behind_comma c.args.base.now.texts.now _ c.in-Some.part kept.0 kept.1).0.ordered)

pub slice_bounds-put-start : goal.slice_bounds-put-start
slice_bounds-put-start g c =
    let kept = c.in-Some.ensures c.args.sig.now c.requires in
    omega (arith, (IsWithin-behind_comma c.args.base.now.texts.now _ c.in-Some.part kept.0 kept.1).0.ordered)

pub slice_bounds-put-end : goal.slice_bounds-put-end
slice_bounds-put-end g c =
    let kept = c.in-Some.ensures c.args.sig.now c.requires in
    omega (arith, kept.0.ended)

pub returns-in-Some-clause-puts : goal.returns-in-Some-clause-puts
returns-in-Some-clause-puts g c =
    let kept = c.in-Some.ensures c.args.sig.now c.requires in
    subst (Puts g.K.Sink c.args.out.now c.put.new.self)
    (IsWithin-behind_comma c.args.base.now.texts.now _ c.in-Some.part kept.0 kept.1).1 c.put.ensures

pub returns-in-App-clause-text : goal.returns-in-App-clause-text
returns-in-App-clause-text g c =
    let sig = c.args.sig.now in
    let T = c.args.base.now.table.now in
    let rs = c.args-in-App.result.now in
    let op = c.in-App.op in
    let is : app op.0 (trees (terms_at T rs)) ≡ term_at T c.args.self.now =
    app_is (term_at T c.args.self.now) op (terms_at T rs) c.in-App.ensures c.args-in-App.ensures.terms in
    ap (term_text sig) (sym is)
    ∙ text-app (term_at T) trees (term_text sig) (term_texts sig) refl (λ t ts. refl) (slice_get sig.ops op.0)
    (terms_at T rs) rs refl

pub returns-in-App-clause-smaller : goal.returns-in-App-clause-smaller
returns-in-App-clause-smaller g c =
    let T = c.args.base.now.table.now in
    let rs = c.args-in-App.result.now in
    let op = c.in-App.op in
    let is : app op.0 (trees (terms_at T rs)) ≡ term_at T c.args.self.now =
    app_is (term_at T c.args.self.now) op (terms_at T rs) c.in-App.ensures c.args-in-App.ensures.terms in
    let small : sum_by (λ r. node_count (term_at T r)) rs ≤ all_nodes (terms_at T rs) =
    sizes-sum (term_at T) node_count all_nodes (λ t ts. refl) rs in
    omega (arith, small, ap node_count is)
