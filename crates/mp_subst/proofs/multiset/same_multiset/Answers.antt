use Rattle.std.proofs.Common.{◌∙◌, ap, refl, sym}
use Rattle.std.specs.Ordering.{is_eq}
use Rattle.std.specs.Cmp.Derive.Mapped.{lex_map}
use Rattle.mp_term.specs.declared.term.Term.{Term}
use Rattle.mp_term.specs.View.{tree}
use Rattle.mp_term.specs.Order.{tree_cmp}
use Rattle.mp_term.specs.Sorting.{sorted}
use Rattle.mp_pattern.specs.Value.{same_terms}
use Rattle.mp_pattern.proofs.SortedLaws.{sorted-map}
use Rattle.mp_subst.proofs.multiset.same_multiset.Goals as goal

pub returns : goal.returns
returns c =
    let ts = c.args.terms.now in
    let us = c.args.others.now in
    let own = λ (a b : Term). tree_cmp (tree a) (tree b) in
    let in_order = sorted-map tree tree_cmp own (λ a b. refl) in
    c.same_items.ensures ∙ ap is_eq (sym (lex_map tree tree_cmp (sorted own ts) (sorted own us)))
    ∙ (λ i. same_terms (sym (in_order ts) i) (sym (in_order us) i))
