use Rattle.std.proofs.Common.{rules, [], ◌∷◌, ◌++◌, map, sym, ap, ◌∙◌, arith}
use Rattle.std.specs.Prelude.{codes}
use Rattle.std.proofs.lemmas.List.{map_push}
use Rattle.mp_parser.specs.declared.limits.TheConstants.{MAX_OPEN}
use Rattle.mp_parser.specs.declared.token.Punct.TheVariants.{OpenSquare}
use Rattle.mp_parser.specs.Syntax.{Bracketed, literals, condition}
use Rattle.mp_parser.specs.Machine.{Go, BeforeLiteral, BeforeBody, AfterLiteral, Square, no_level, next_literal}
use Rattle.mp_parser.specs.Machine.{next_alternative, all_alternatives, site, run}
use Rattle.mp_parser.specs.View.{placed, literal_tree, alternative_tree, condition_tree}
use Rattle.mp_parser.specs.Parsing.{ahead}
use Rattle.mp_parser.specs.ConditionParsing.{level, ConditionGives, AlternativeGives, BodyAdded}
use Rattle.mp_parser.proofs.Runs.{over-punct, breaks-so, fails-along}
use Rattle.mp_parser.proofs.ConditionRuns.{over-word, square-step, and-step, or-step, whole-step, added-along}
use Rattle.mp_parser.proofs.ConditionTrees.{condition_tree-Condition}
use Rattle.mp_parser.proofs.parser.Parser.+condition.Goals as goal

pub condition-loop-alternatives-preserved : goal.condition-loop-alternatives-preserved
condition-loop-alternatives-preserved t c =
    let held = sym c.sees_word.ensures ∙ c.if-not-sees_word.false in
    let r = c.in_ok-alternative.ensures.read in
    let before = map alternative_tree c.loop-alternatives.alternatives.items in
    record {
      read = λ done x k len.
          c.loop-alternatives.invariant.read done x k len
          ∙ r.3 done x k before len
          ∙ over-word (codes "or") (placed c.alternative.new.self.token) _ _ c.advance.ensures held done
          (AfterLiteral x k (level before r.0) r.1) (Go (BeforeLiteral x k (next_alternative (level before r.0) r.1)))
          (or-step x k (level before r.0) r.1 (placed c.alternative.new.self.token) c.in_ok-alternative.ensures.ends
          held)
          ∙ ap (λ a. run done (BeforeLiteral x k (level a [])) (ahead c.advance.new.self))
          (ap (λ a. before ++ a ∷ []) r.2
          ∙ sym (ap (map alternative_tree) c.in_ok-push.ensures.items ∙ map_push alternative_tree _ _));
      shorter = search rules;
    }

pub condition-returns-in_err-alternative-clause-read : goal.condition-returns-in_err-alternative-clause-read
condition-returns-in_err-alternative-clause-read t c =
    breaks-so (λ r. ConditionGives c.args.room r (ahead c.args.self.now) (ahead c.alternative.new.self)) _ _
    c.from_residual.ensures.1
    (λ done x k len. fails-along _ _ _ (c.loop-alternatives.invariant.read done x k len)
    (c.in_err-alternative.ensures.read done x k (map alternative_tree c.loop-alternatives.alternatives.items) len))

pub alternative-loop-literals-preserved : goal.alternative-loop-literals-preserved
alternative-loop-literals-preserved t c =
    let held = sym c.sees_word.ensures ∙ c.if-not-sees_word.false in
    let r = c.in_ok-literal.ensures.read in
    record {
      read = λ done x k before len.
          let ls = map literal_tree c.loop-literals.literals.items in
          c.loop-literals.invariant.read done x k before len
          ∙ r.2 done x k (level before ls) len
          ∙ over-word (codes "and") (placed c.literal.new.self.token) _ _ c.advance.ensures held done
          (AfterLiteral x k (level before ls) r.0) (Go (BeforeLiteral x k (next_literal (level before ls) r.0)))
          (and-step x k (level before ls) r.0 (placed c.literal.new.self.token) held)
          ∙ ap (λ l. run done (BeforeLiteral x k (level before l)) (ahead c.advance.new.self)) (sym r.1);
      shorter = search rules;
    }

pub alternative-returns-clause-read : goal.alternative-returns-clause-read
alternative-returns-clause-read t c =
    let ls = map literal_tree c.loop-literals.literals.items in
    let r = c.in_ok-literal.ensures.read in (
      ls,
      r.0,
      ap literals (sym r.1),
      λ done x k before len. c.loop-literals.invariant.read done x k before len ∙ r.2 done x k (level before ls) len,
    )

pub alternative-returns-in_err-literal-clause-read : goal.alternative-returns-in_err-literal-clause-read
alternative-returns-in_err-literal-clause-read t c =
    breaks-so (λ r. AlternativeGives c.args.room r (ahead c.args.self.now) (ahead c.literal.new.self)) _ _
    c.from_residual.ensures.1
    (λ done x k before len. fails-along _ _ _ (c.loop-literals.invariant.read done x k before len)
    (c.in_err-literal.ensures.read done x k (level before (map literal_tree c.loop-literals.literals.items)) len))

pub literal-returns-then-sees-clause-read : goal.literal-returns-then-sees-clause-read
literal-returns-then-sees-clause-read t c =
    added-along BeforeLiteral (λ x k v. BeforeBody x k (site v c.negation-negated.result)) _ _ _ c.bracketed.result _ _
    _ c.negation-negated.ensures.read c.bracketed.ensures.read

pub literal-returns-clause-read : goal.literal-returns-clause-read
literal-returns-clause-read t c =
    added-along BeforeLiteral (λ x k v. BeforeBody x k (site v c.negation-negated.result)) _ _ _ c.plain.result _ _ _
    c.negation-negated.ensures.read c.plain.ensures.read

pub bracketed-returns-in_err-condition-clause-read : goal.bracketed-returns-in_err-condition-clause-read
bracketed-returns-in_err-condition-clause-read t c =
    let before = map literal_tree c.args.literals.now.items in
    breaks-so (λ r. BodyAdded c.args.room c.args.negated before before r (ahead c.args.self.now)
    (ahead c.condition.new.self)) _ _ c.from_residual.ensures.1
    (λ done x k v len.
    let s = site v c.args.negated in
    fails-along _ _ _
    (over-punct OpenSquare (placed c.args.self.now.token) _ _ c.advance.ensures c.requires done (BeforeBody x k s)
    (Go (BeforeLiteral x (Square s ∷ k) no_level))
    (square-step MAX_OPEN x k s (placed c.args.self.now.token) c.args.room len (omega arith) c.requires))
    (c.in_err-condition.ensures.read done x (Square s ∷ k) (omega (arith, len))))

pub bracketed-returns-in_err-expect-clause-read : goal.bracketed-returns-in_err-expect-clause-read
bracketed-returns-in_err-expect-clause-read t c =
    let before = map literal_tree c.args.literals.now.items in
    let r = c.in_ok-condition.ensures.read in
    breaks-so (λ r. BodyAdded c.args.room c.args.negated before before r (ahead c.args.self.now)
    (ahead c.expect.new.self)) _ _ c.from_residual-in_err-expect.ensures.1
    (λ done x k v len.
    let s = site v c.args.negated in
    fails-along _ _ _
    (over-punct OpenSquare (placed c.args.self.now.token) _ _ c.advance.ensures c.requires done (BeforeBody x k s)
    (Go (BeforeLiteral x (Square s ∷ k) no_level))
    (square-step MAX_OPEN x k s (placed c.args.self.now.token) c.args.room len (omega arith) c.requires)
    ∙ r.3 done x (Square s ∷ k) (omega (arith, len)))
    (c.in_err-expect.ensures.read done (AfterLiteral x (Square s ∷ k) r.0 r.1)
    (Go (AfterLiteral x k v (Bracketed c.args.negated (condition (all_alternatives r.0 r.1)))))
    (whole-step x (Square s ∷ k) r.0 r.1 (placed c.condition.new.self.token) c.in_ok-condition.ensures.ends)))

pub bracketed-returns-clause-read : goal.bracketed-returns-clause-read
bracketed-returns-clause-read t c =
    let r = c.in_ok-condition.ensures.read in (
      Bracketed c.args.negated (condition_tree c.in_ok-condition.condition),
      ap (map literal_tree) c.in_ok-push.ensures.items ∙ map_push literal_tree _ _,
      λ done x k v len.
          let s = site v c.args.negated in
          over-punct OpenSquare (placed c.args.self.now.token) _ _ c.advance.ensures c.requires done (BeforeBody x k s)
          (Go (BeforeLiteral x (Square s ∷ k) no_level))
          (square-step MAX_OPEN x k s (placed c.args.self.now.token) c.args.room len (omega arith) c.requires)
          ∙ r.3 done x (Square s ∷ k) (omega (arith, len))
          ∙ c.in_ok-expect.ensures.read done (AfterLiteral x (Square s ∷ k) r.0 r.1)
          (Go (AfterLiteral x k v (Bracketed c.args.negated (condition (all_alternatives r.0 r.1)))))
          (whole-step x (Square s ∷ k) r.0 r.1 (placed c.condition.new.self.token) c.in_ok-condition.ensures.ends)
          ∙ ap (λ d. run done (AfterLiteral x k v (Bracketed c.args.negated d)) (ahead c.expect.new.self)) r.2,
    )

pub condition-returns-clause-read : goal.condition-returns-clause-read
condition-returns-clause-read t c =
    let r = c.in_ok-alternative.ensures.read in
    let before = map alternative_tree c.loop-alternatives.alternatives.items in (
      level before r.0,
      r.1,
      ap (λ a. condition (before ++ a ∷ [])) r.2
          ∙ ap condition (sym (ap (map alternative_tree) c.in_ok-push.ensures.items ∙ map_push alternative_tree _ _))
          ∙ sym (condition_tree-Condition _),
      λ done x k len. c.loop-alternatives.invariant.read done x k len ∙ r.3 done x k before len,
    )
