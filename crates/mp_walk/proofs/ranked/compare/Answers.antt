use Rattle.std.proofs.Common.{◌≡◌, ◌∙◌, List, length, map, ap, ap₂, sym}
use Rattle.mp_pattern.specs.Lists.{subst_cmp}
use Rattle.mp_walk.specs.Found.{names_cmp}
use Rattle.mp_walk.specs.Ranked.{ranked_cmp}
use Rattle.mp_walk.specs.RankedView.{kept_binding, kept_name}
use Rattle.mp_walk.specs.declared.ranked.Kept.{Kept}
use Rattle.mp_walk.proofs.FoundLaws.{found-other_names, found-same_names, many-kept}
use Rattle.mp_walk.proofs.ranked.compare.Goals as goal
use Rattle.mp_term.proofs.TestLaws.{equal-not_ne}

pub returns-then-is_ne : goal.returns-then-is_ne
returns-then-is_ne c =
    let p = c.pair.inside in
    let q = c.other.inside in
    let names : c.compare_names-names.result
    ≡ names_cmp (map kept_name p.values.items) (map kept_name q.values.items) =
    c.compare_names-names.ensures
    ∙ ap₂ (λ (ks js : List Kept). names_cmp (map kept_name ks) (map kept_name js)) c.deref.ensures.value
    c.deref-2.ensures.value in
    found-other_names p.rule q.rule p.table.now q.table.now p.values.items q.values.items c.if-pair-other.false
    c.compare_names-names.result names (sym c.is_ne.ensures ∙ c.if-is_ne.true)
    ∙ ap₂ ranked_cmp c.pair.view_is c.other.view_is

pub compare_values-requires-clause-many : goal.compare_values-requires-clause-many
compare_values-requires-clause-many c =
    let p = c.pair.inside in
    let q = c.other.inside in
    let names : c.compare_names-names.result
    ≡ names_cmp (map kept_name p.values.items) (map kept_name q.values.items) =
    c.compare_names-names.ensures
    ∙ ap₂ (λ (ks js : List Kept). names_cmp (map kept_name ks) (map kept_name js)) c.deref.ensures.value
    c.deref-2.ensures.value in
    let equal = equal-not_ne c.compare_names-names.result (sym c.is_ne.ensures ∙ c.if-is_ne.false) in
    ap length c.deref-3.ensures.value ∙ many-kept p.values.items q.values.items (sym names ∙ equal)
    ∙ sym (ap length c.deref-4.ensures.value)

pub returns : goal.returns
returns c =
    let p = c.pair.inside in
    let q = c.other.inside in
    let names : c.compare_names-names.result
    ≡ names_cmp (map kept_name p.values.items) (map kept_name q.values.items) =
    c.compare_names-names.ensures
    ∙ ap₂ (λ (ks js : List Kept). names_cmp (map kept_name ks) (map kept_name js)) c.deref.ensures.value
    c.deref-2.ensures.value in
    let equal = equal-not_ne c.compare_names-names.result (sym c.is_ne.ensures ∙ c.if-is_ne.false) in
    let values : c.compare_values.result ≡ subst_cmp (map (kept_binding p.table.now) p.values.items)
    (map (kept_binding q.table.now) q.values.items) =
    c.compare_values.ensures
    ∙ ap₂ (λ (ks js : List Kept). subst_cmp (map (kept_binding p.table.now) ks) (map (kept_binding q.table.now) js))
    c.deref-3.ensures.value c.deref-4.ensures.value in
    found-same_names p.rule q.rule p.table.now q.table.now p.values.items q.values.items c.if-pair-other.false
    (sym names ∙ equal) c.compare_values.result values
    ∙ ap₂ ranked_cmp c.pair.view_is c.other.view_is
