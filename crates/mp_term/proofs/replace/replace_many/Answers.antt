use Rattle.std.proofs.Common.{◌≡◌, ◌++◌, ◌∷◌, [], map, length, sym, subst, true, ap, ◌∙◌, arith}
use Rattle.std.proofs.lemmas.List.{length-map}
use Rattle.mp_term.specs.View.{tree}
use Rattle.mp_term.specs.Signature.{Sig, all_in_order}
use Rattle.mp_term.specs.Normal.{normal}
use Rattle.mp_term.specs.Edited.{edited_at, edited}
use Rattle.mp_term.proofs.ReplaceLaws.{edited-single, popped-single}
use Rattle.mp_term.proofs.EditedFormed.{formed-result}
use Rattle.mp_term.proofs.replace.replace_many.Goals as goal

pub unreachable-requires : goal.unreachable-requires
unreachable-requires c =
    let t = tree c.args.term.now in
    let es = c.args.edits.now in
    let items = c.whole.inside.items.items in
    let all : edited es t ≡ map tree items =
    sym (c.whole.view_is ∙ c.in_ok-push_edited.ensures
    ∙ ap (λ l. l ++ edited_at c.as_slice.result.now [] t) c.new-whole.ensures
    ∙ ap (λ ds. edited_at ds [] t) c.as_slice.ensures) in
    let one = edited-single c.args.sig.now t es (sym c.check_edits.ensures ∙ c.in_default.is) in
    omega (arith, one, ap length all, length-map items tree, c.in_default-pop.ensures.cases.0, c.whole.inside.items.ok)

pub returns-clause-term : goal.returns-clause-term
returns-clause-term c =
    let t = tree c.args.term.now in
    let es = c.args.edits.now in
    let items = c.whole.inside.items.items in
    let all : edited es t ≡ map tree items =
    sym (c.whole.view_is ∙ c.in_ok-push_edited.ensures
    ∙ ap (λ l. l ++ edited_at c.as_slice.result.now [] t) c.new-whole.ensures
    ∙ ap (λ ds. edited_at ds [] t) c.as_slice.ensures) in
    let one = edited-single c.args.sig.now t es (sym c.check_edits.ensures ∙ c.in_default.is) in
    ap (map (normal c.args.sig.now))
    (popped-single tree (edited es t) items c.pop.new.self.items c.in-Some-pop.only one all
    c.in-Some-pop.ensures.items)
    ∙ ap (λ u. u ∷ []) (sym c.in_ok-normal.ensures)

pub returns-clause-formed : goal.returns-clause-formed
returns-clause-formed c =
    let sig = c.args.sig.now in
    let same : c.sig.inside.ops.items ≡ sig.ops = ap (λ (s : Sig). s.ops) c.sig.view_is in
    let ordered : all_in_order sig.ops ≡ true =
    subst (λ ds. all_in_order ds ≡ true) same c.sig.invariant.0.ops_in_order in
    λ h each. formed-result sig (tree c.args.term.now) c.args.edits.now (tree c.in_ok-normal.normal) ordered
    (sym c.check_edits.ensures ∙ c.in_default.is) (returns-clause-term c) h each
