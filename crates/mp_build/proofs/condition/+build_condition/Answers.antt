use Rattle.std.proofs.Common.{◌≡◌, rules, map, length, arith, append-nil, sym, ap, subst, ◌∙◌}
use Rattle.std.proofs.lemmas.List.{length-map}
use Rattle.std.proofs.lemmas.Result.{err_from_is_err_and}
use Rattle.mp_pattern.specs.CondTree.{all_of, any_of, conds}
use Rattle.mp_pattern.specs.CondView.{cond_tree}
use Rattle.mp_parser.specs.Syntax.{Condition}
use Rattle.mp_parser.specs.View.{literal_tree, alternative_tree}
use Rattle.mp_parser.specs.declared.condition_tree.Literal.TheViews.{the_lemmas}
use Rattle.mp_build.specs.Answers.{Gives}
use Rattle.mp_build.specs.Conditions.{joined, literal_of, alternative_of, cond_of}
use Rattle.mp_build.specs.ConditionChecks.{literals_faults, condition_faults}
use Rattle.mp_build.specs.ScopeView.{scope_of}
use Rattle.mp_build.proofs.Joined.{joined-several, literals_of-literals, alternatives_of-condition}
use Rattle.mp_build.proofs.ConditionTrees.{condition_tree-slice, condition_tree-only}
use Rattle.mp_build.proofs.condition.+build_condition.Goals as goal

pub build_alternative-returns : goal.build_alternative-returns
build_alternative-returns t c =
    let sig = c.args.sig.now in
    let parts = c.as_slice-literals.result.now in
    let ls = map literal_tree parts in
    let cs = map (literal_of sig) ls in
    let several : length cs ≡ 1 → ⊥ = λ e. c.if-literals-eq1.false
    (sym (length-map parts literal_tree) ∙ sym (length-map ls (literal_of sig)) ∙ e) in (
      rw c.as_slice-literals.ensures.value at c.in_ok-conds.ensures.0,
      rw c.as_slice-literals.ensures.value
          at (ap (λ l. all_of (conds l)) c.in_ok-conds.ensures.1 ∙ sym (joined-several all_of cs several)
          ∙ ap (joined all_of) (sym (literals_of-literals sig ls))),
    )

pub build_condition-build_alternative-requires : goal.build_condition-build_alternative-requires
build_condition-build_alternative-requires t c =
    search (rules, the_lemmas)

pub build_condition-returns-then-alternatives-eq1 : goal.build_condition-returns-then-alternatives-eq1
build_condition-returns-then-alternatives-eq1 t c =
    let sig = c.args.sig.now in
    let scope = scope_of c.args.scope.now in
    let only = condition_tree-only c.args.condition.now c.as_slice-alternatives.result.now c.index-alternatives-0.result
    c.as_slice-alternatives.ensures.value (omega arith) (omega arith) c.index-alternatives-0.is in
    let P : Condition → Type 0 = λ x. Gives c.build_alternative.result (condition_faults sig scope x)
    (λ d. cond_tree d ≡ cond_of sig x) in
    let a = alternative_tree c.index-alternatives-0.result in
    subst P (sym only) (subst (λ fs. Gives c.build_alternative.result fs (λ d. cond_tree d ≡ alternative_of sig a))
    (sym (append-nil (literals_faults sig scope a))) c.build_alternative.ensures)

pub build_condition-build_alternatives-requires : goal.build_condition-build_alternatives-requires
build_condition-build_alternatives-requires t c =
    search (rules, the_lemmas)

pub build_condition-returns-in_err-conds : goal.build_condition-returns-in_err-conds
build_condition-returns-in_err-conds t c =
    let p = err_from_is_err_and c.from_residual.result c.from_residual.ensures.1 in
    rw (
      p.1,
      p.2,
      condition_tree-slice c.args.condition.now c.as_slice-alternatives.result.now
          c.as_slice-alternatives.ensures.value,
    ) c.in_err-conds.ensures

pub build_condition-returns : goal.build_condition-returns
build_condition-returns t c =
    let sig = c.args.sig.now in
    let items = c.as_slice-alternatives.result.now in
    let all = condition_tree-slice c.args.condition.now items c.as_slice-alternatives.ensures.value in
    let parts = map alternative_tree items in
    let cs = map (alternative_of sig) parts in
    let several : length cs ≡ 1 → ⊥ = λ e. c.if-alternatives-eq1.false
    (sym (length-map items alternative_tree) ∙ sym (length-map parts (alternative_of sig)) ∙ e) in (
      ap (condition_faults sig (scope_of c.args.scope.now)) all ∙ c.in_ok-conds.ensures.0,
      ap (λ l. any_of (conds l)) c.in_ok-conds.ensures.1 ∙ sym (joined-several any_of cs several)
          ∙ ap (joined any_of) (sym (alternatives_of-condition sig parts)) ∙ ap (cond_of sig) (sym all),
    )
