use Rattle.std.specs.Prelude.{IfNone}
use Rattle.std.proofs.Common.{◌≡◌, ◌+◌, None, [], ◌∷◌, ◌++◌, map, refl, sym, ap, subst, ◌∙◌, arith}
use Rattle.std.proofs.lemmas.List.{map_push}
use Rattle.mp_parser.specs.declared.limits.TheConstants.{MAX_OPEN}
use Rattle.mp_parser.specs.declared.token.Punct.TheVariants.{Open, Close, Comma}
use Rattle.mp_parser.specs.Machine.{Go, Default, BeforeExpr, AfterExpr, AfterWord, AfterOpen, Arguments, Bracket}
use Rattle.mp_parser.specs.Machine.{Operands, run, wildcard_at}
use Rattle.mp_parser.specs.Tokens.{Punctuation}
use Rattle.mp_parser.specs.Lexing.{token_of}
use Rattle.mp_parser.specs.Syntax.{Apply, InfixOf, trees}
use Rattle.mp_parser.specs.View.{placed, spot_of, spot_of_sign, wildcard_of, expr_tree}
use Rattle.mp_parser.specs.Parsing.{ahead, behind_wildcard, within_defaults, ExprAdded}
use Rattle.mp_parser.proofs.Runs.{length-passed, row-closes, row-again, operand-closes, word-opens, open-closes}
use Rattle.mp_parser.proofs.Runs.{open-expr, bracket-opens, over-punct, length-passed_sign, over-sign, operand-again}
use Rattle.mp_parser.proofs.Runs.{over-default, defaults-behind, chained-optional, open_count-within_defaults, breaks}
use Rattle.mp_parser.proofs.Runs.{breaks-so, passes-along, passes-made, word-begins, wildcard-begins, dollar-begins}
use Rattle.mp_parser.proofs.Runs.{levels, levels-least, levels-bound}
use Rattle.mp_parser.proofs.ListLaws.{drop-behind, take-before, front-le, push-behind}
use Rattle.mp_parser.proofs.Trees.{expr_tree-Apply, expr_tree-Infix}
use Rattle.mp_parser.proofs.parser.Parser.+expression.Goals as goal

pub expression-invariant_of-wildcard : goal.expression-invariant_of-wildcard
expression-invariant_of-wildcard t c =
    record { parts = c.args.self.now.token.spelled.wildcard _ (ap token_of c.in-Wildcard.is) }

pub expression-behind_word-requires : goal.expression-behind_word-requires
expression-behind_word-requires t c =
    let least = levels-least (wildcard_at (token_of c.args.self.now.token.kind) c.args.self.now.token.place) in
    omega (arith, least)

pub expression-behind_wildcard-requires : goal.expression-behind_wildcard-requires
expression-behind_wildcard-requires t c =
    let held = ap (λ k. levels (wildcard_at (token_of k) c.args.self.now.token.place)) c.in-Wildcard.is in
    omega (arith, held)

pub push_expr-expression-requires : goal.push_expr-expression-requires
push_expr-expression-requires t c =
    let bound = levels-bound (wildcard_at (token_of c.args.self.now.token.kind) c.args.self.now.token.place) in
    omega (arith, bound)

pub push_expr-returns-in_err-expr-clause-read : goal.push_expr-returns-in_err-expr-clause-read
push_expr-returns-in_err-expr-clause-read t c =
    breaks-so (λ r. ExprAdded c.args.room c.args.arena.now.pending.items c.expression.new.arena.pending.items r
    (ahead c.args.self.now) (ahead c.expression.new.self)) _ _ c.from_residual.ensures.1 c.in_err-expr.ensures.read

pub push_expr-returns-clause-read : goal.push_expr-returns-clause-read
push_expr-returns-clause-read t c = (
  c.in_ok-expr.expr,
  c.in_ok-push.ensures ∙ ap (λ l. l ++ c.in_ok-expr.expr ∷ []) c.in_ok-expr.ensures.kept,
  c.in_ok-expr.ensures.read,
)

pub infix-expression-requires : goal.infix-expression-requires
infix-expression-requires t c =
    let bound = levels-bound (wildcard_at (token_of c.advance.new.self.token.kind) c.advance.new.self.token.place) in
    omega (arith, bound)

pub behind_chain-expression-requires : goal.behind_chain-expression-requires
behind_chain-expression-requires t c =
    let none = subst (λ o. IfNone o (wildcard_at (token_of c.args.self.now.token.kind)
    c.args.self.now.token.place ≡ None)) c.in-None.is c.requires.held in
    let held = ap levels none in
    omega (arith, held)

pub expression-returns-in-Wildcard-clause-read : goal.expression-returns-in-Wildcard-clause-read
expression-returns-in-Wildcard-clause-read t c = λ done x k len.
    passes-along _ _ _ c.behind_wildcard.result _ _ _
    (wildcard-begins done x k (placed c.args.self.now.token) _ _ _ _ _ c.advance-in-Wildcard.ensures
    (ap token_of c.in-Wildcard.is))
    (c.behind_wildcard.ensures.read done x k len)

pub expression-returns-in-Word-clause-read : goal.expression-returns-in-Word-clause-read
expression-returns-in-Word-clause-read t c = λ done x k len.
    passes-along _ _ _ c.behind_word.result _ _ _
    (word-begins done x k (placed c.args.self.now.token) _ _ _ c.advance.ensures (ap token_of c.in-Word.is))
    (c.behind_word.ensures.read done x k len)

pub expression-returns-in-Punct-Dollar-clause-read : goal.expression-returns-in-Punct-Dollar-clause-read
expression-returns-in-Punct-Dollar-clause-read t c = λ done x k len.
    passes-along _ _ _ c.behind_dollar.result _ _ _
    (dollar-begins done x k (placed c.args.self.now.token) _ _ c.advance-in-Punct-Dollar.ensures
    (ap token_of c.in-Punct-Dollar.is ∙ ap Punctuation (rw c.in-Punct-Dollar.is at c.in-Punct-Dollar.field-0-is)))
    (c.behind_dollar.ensures.read done x k)

pub expression-invariant_of-behind_word : goal.expression-invariant_of-behind_word
expression-invariant_of-behind_word t c =
    record { named = c.args.self.now.token.spelled.word _ (ap token_of c.in-Word.is) }

pub row-returns-in_err-push_expr-clause-read : goal.row-returns-in_err-push_expr-clause-read
row-returns-in_err-push_expr-clause-read t c = λ done x k frame to row room.
    breaks _ _ _ _ _ _ _ c.from_residual.ensures.1 refl
    (c.in_err-push_expr.ensures.read done x (frame [] ∷ k) (room []))

pub row-loop-self-init : goal.row-loop-self-init
row-loop-self-init t c =
    let first = c.in_ok-push_expr.ensures.read in
    record {
      before = [];
      last = first.0;
      items = first.1;
      read = λ done x k frame to row room. first.2 done x (frame [] ∷ k) (room []);
      shorter = omega (arith, c.in_ok-push_expr.ensures.shorter);
    }

pub row-loop-self-preserved : goal.row-loop-self-preserved
row-loop-self-preserved t c =
    let before = c.loop-self.invariant.before in
    let last = c.loop-self.invariant.last in
    let es = map expr_tree before in
    let e = expr_tree last in
    let next = c.in_ok-push_expr-2.ensures.read in
    let held = sym c.sees.ensures ∙ c.loop-self-test.true in
    record {
      before = before ++ last ∷ [];
      last = next.0;
      items = next.1
          ∙ push-behind _ c.args.arena.now.pending.items (before ++ last ∷ []) next.0 c.loop-self.invariant.items;
      read = λ done x k frame to row room.
          c.loop-self.invariant.read done x k frame to row room
          ∙ over-punct Comma (placed c.loop-self.self.token) _ _ c.advance.ensures held done
          (AfterExpr x (frame es ∷ k) e) (Go (BeforeExpr x (frame (es ++ e ∷ []) ∷ k)))
          (row-again c.args.closes x k frame to row es e (placed c.loop-self.self.token) held)
          ∙ next.2 done x (frame (es ++ e ∷ []) ∷ k) (room (es ++ e ∷ []))
          ∙ ap (λ l. run done (AfterExpr x (frame l ∷ k) (expr_tree next.0)) (ahead c.push_expr-in-loop-self.new.self))
          (sym (map_push expr_tree before last));
      shorter = let passed = length-passed Comma (placed c.loop-self.self.token) _ _ c.advance.ensures held in
          omega (arith, passed, c.in_ok-push_expr-2.ensures.shorter, c.loop-self.invariant.shorter);
    }

pub row-returns-in_err-push_expr-2-clause-read : goal.row-returns-in_err-push_expr-2-clause-read
row-returns-in_err-push_expr-2-clause-read t c = λ done x k frame to row room.
    let es = map expr_tree c.loop-self.invariant.before in
    let e = expr_tree c.loop-self.invariant.last in
    let held = sym c.sees.ensures ∙ c.loop-self-test.true in
    breaks _ _ _ _ _ _ _ c.from_residual-in_err-push_expr-2.ensures.1
    (c.loop-self.invariant.read done x k frame to row room
    ∙ over-punct Comma (placed c.loop-self.self.token) _ _ c.advance.ensures held done
    (AfterExpr x (frame es ∷ k) e) (Go (BeforeExpr x (frame (es ++ e ∷ []) ∷ k)))
    (row-again c.args.closes x k frame to row es e (placed c.loop-self.self.token) held))
    (c.in_err-push_expr-2.ensures.read done x (frame (es ++ e ∷ []) ∷ k) (room (es ++ e ∷ [])))

pub row-returns-in_err-expect-clause-read : goal.row-returns-in_err-expect-clause-read
row-returns-in_err-expect-clause-read t c = λ done x k frame to row room.
    let es = map expr_tree c.loop-self.invariant.before in
    let e = expr_tree c.loop-self.invariant.last in
    breaks _ _ _ _ _ _ _ c.from_residual-in_err-expect.ensures.1
    (c.loop-self.invariant.read done x k frame to row room)
    (c.in_err-expect.ensures.read done (AfterExpr x (frame es ∷ k) e) _
    (row-closes c.args.closes x k frame to row es e (placed c.loop-self.self.token)
    (sym c.sees.ensures ∙ c.loop-self-test.false)))

pub row-returns-clause-read : goal.row-returns-clause-read
row-returns-clause-read t c = λ done x k frame to row room.
    let before = c.loop-self.invariant.before in
    let last = c.loop-self.invariant.last in
    c.loop-self.invariant.read done x k frame to row room
    ∙ c.in_ok-expect.ensures.read done (AfterExpr x (frame (map expr_tree before) ∷ k) (expr_tree last)) _
    (row-closes c.args.closes x k frame to row (map expr_tree before) (expr_tree last) (placed c.loop-self.self.token)
    (sym c.sees.ensures ∙ c.loop-self-test.false))
    ∙ ap (λ l. run done (to l) (ahead c.expect.new.self))
    (sym (ap (map expr_tree) (c.in_ok-list.ensures.list
    ∙ drop-behind c.start-start.result _ c.args.arena.now.pending.items (before ++ last ∷ []) c.start-start.ensures
    c.loop-self.invariant.items) ∙ map_push expr_tree before last))

pub row-returns-clause-kept : goal.row-returns-clause-kept
row-returns-clause-kept t c =
    c.in_ok-list.ensures.kept
    ∙ take-before c.start-start.result _ c.args.arena.now.pending.items
    (c.loop-self.invariant.before ++ c.loop-self.invariant.last ∷ []) c.start-start.ensures c.loop-self.invariant.items

pub row-finish-requires : goal.row-finish-requires
row-finish-requires t c =
    front-le c.start-start.result _ c.args.arena.now.pending.items
    (c.loop-self.invariant.before ++ c.loop-self.invariant.last ∷ []) c.start-start.ensures c.loop-self.invariant.items

pub behind_word-returns-then-sees-clause-read : goal.behind_word-returns-then-sees-clause-read
behind_word-returns-then-sees-clause-read t c = λ done h k len.
    let name = spot_of c.args.name in
    over-punct Open (placed c.args.self.now.token) _ _ c.advance.ensures (sym c.sees.ensures ∙ c.if-not-sees.false) done
    (AfterWord h k name) (Go (AfterOpen h k name))
    (word-opens MAX_OPEN h k name (placed c.args.self.now.token) c.args.room len (omega arith)
    (sym c.sees.ensures ∙ c.if-not-sees.false))
    ∙ over-punct Close (placed c.advance.new.self.token) _ _ c.advance-then-sees.ensures
    (sym c.sees-2.ensures ∙ c.if-sees.true) done (AfterOpen h k name) (Go (AfterExpr h k (Apply name (trees []))))
    (open-closes h k name (placed c.advance.new.self.token) (sym c.sees-2.ensures ∙ c.if-sees.true))
    ∙ ap (λ x. run done (AfterExpr h k x) (ahead c.advance-then-sees.new.self))
    (sym (expr_tree-Apply c.args.name c.no_exprs.result
    ∙ ap (λ l. Apply name (trees (map expr_tree l))) c.no_exprs.ensures))

pub behind_word-returns-clause-read : goal.behind_word-returns-clause-read
behind_word-returns-clause-read t c = λ done h k len.
    let name = spot_of c.args.name in
    over-punct Open (placed c.args.self.now.token) _ _ c.advance.ensures (sym c.sees.ensures ∙ c.if-not-sees.false) done
    (AfterWord h k name) (Go (AfterOpen h k name))
    (word-opens MAX_OPEN h k name (placed c.args.self.now.token) c.args.room len (omega arith)
    (sym c.sees.ensures ∙ c.if-not-sees.false))
    ∙ open-expr MAX_OPEN done h k name (placed c.advance.new.self.token) _ (sym c.sees-2.ensures ∙ c.if-sees.false)
    ∙ c.in_ok-args.ensures.read done h k (Arguments name) (λ es. AfterExpr h k (Apply name (trees es)))
    (λ es e t. refl) (λ es. omega (arith, len))
    ∙ ap (λ x. run done (AfterExpr h k x) (ahead c.row.new.self))
    (sym (expr_tree-Apply c.args.name c.in_ok-args.args))

pub behind_word-returns-in_err-args-clause-read : goal.behind_word-returns-in_err-args-clause-read
behind_word-returns-in_err-args-clause-read t c = λ done h k len.
    let name = spot_of c.args.name in
    breaks _ _ _ _ _ _ _ c.from_residual.ensures.1
    (over-punct Open (placed c.args.self.now.token) _ _ c.advance.ensures (sym c.sees.ensures ∙ c.if-not-sees.false)
    done (AfterWord h k name) (Go (AfterOpen h k name))
    (word-opens MAX_OPEN h k name (placed c.args.self.now.token) c.args.room len (omega arith)
    (sym c.sees.ensures ∙ c.if-not-sees.false))
    ∙ open-expr MAX_OPEN done h k name (placed c.advance.new.self.token) _ (sym c.sees-2.ensures ∙ c.if-sees.false))
    (c.in_err-args.ensures.read done h k (Arguments name) (λ es. AfterExpr h k (Apply name (trees es)))
    (λ es e t. refl) (λ es. omega (arith, len)))

pub infix-returns-in_err-sign-clause-read : goal.infix-returns-in_err-sign-clause-read
infix-returns-in_err-sign-clause-read t c = λ done h k len.
    let place = c.args.self.now.token.place in
    let first = expr_tree c.in_ok-first.first in
    breaks _ _ _ _ _ _ _ c.from_residual-in_err-sign.ensures.1
    (over-punct Open (placed c.args.self.now.token) _ _ c.advance.ensures c.requires done (BeforeExpr h k)
    (Go (BeforeExpr h (Bracket place ∷ k)))
    (bracket-opens MAX_OPEN h k (placed c.args.self.now.token) c.args.room len (omega arith) c.requires)
    ∙ c.in_ok-first.ensures.read done h (Bracket place ∷ k) (omega (arith, len)))
    (c.in_err-sign.ensures.read done (AfterExpr h (Bracket place ∷ k) first)
    (λ s. BeforeExpr h (Operands place s first [] ∷ k)) (λ t. refl))

pub infix-returns-in_err-operands-clause-read : goal.infix-returns-in_err-operands-clause-read
infix-returns-in_err-operands-clause-read t c = λ done h k len.
    let place = c.args.self.now.token.place in
    let first = expr_tree c.in_ok-first.first in
    breaks _ _ _ _ _ _ _ c.from_residual-in_err-operands.ensures.1
    (over-punct Open (placed c.args.self.now.token) _ _ c.advance.ensures c.requires done (BeforeExpr h k)
    (Go (BeforeExpr h (Bracket place ∷ k)))
    (bracket-opens MAX_OPEN h k (placed c.args.self.now.token) c.args.room len (omega arith) c.requires)
    ∙ c.in_ok-first.ensures.read done h (Bracket place ∷ k) (omega (arith, len))
    ∙ c.in_ok-sign.ensures.read done (AfterExpr h (Bracket place ∷ k) first)
    (λ s. BeforeExpr h (Operands place s first [] ∷ k)) (λ t. refl))
    (c.in_err-operands.ensures.read done h k place (omega (arith, len)))

pub infix-returns-clause-read : goal.infix-returns-clause-read
infix-returns-clause-read t c = λ done h k len.
    let place = c.args.self.now.token.place in
    let first = expr_tree c.in_ok-first.first in
    over-punct Open (placed c.args.self.now.token) _ _ c.advance.ensures c.requires done (BeforeExpr h k)
    (Go (BeforeExpr h (Bracket place ∷ k)))
    (bracket-opens MAX_OPEN h k (placed c.args.self.now.token) c.args.room len (omega arith) c.requires)
    ∙ c.in_ok-first.ensures.read done h (Bracket place ∷ k) (omega (arith, len))
    ∙ c.in_ok-sign.ensures.read done (AfterExpr h (Bracket place ∷ k) first)
    (λ s. BeforeExpr h (Operands place s first [] ∷ k)) (λ t. refl)
    ∙ c.in_ok-operands.ensures.read done h k place (omega (arith, len))
    ∙ ap (λ x. run done (AfterExpr h k x) (ahead c.operands.new.self))
    (sym (expr_tree-Infix place c.in_ok-sign.sign c.in_ok-operands.operands))

pub operands-returns-in_err-expect-clause-read : goal.operands-returns-in_err-expect-clause-read
operands-returns-in_err-expect-clause-read t c = λ done h k place len.
    let next = c.in_ok-push_expr.ensures.read in
    let sign = spot_of_sign c.args.sign in
    let first = expr_tree c.args.first in
    let others = map expr_tree c.loop-self.invariant.others in
    let e = expr_tree next.0 in
    breaks _ _ _ _ _ _ _ c.from_residual-in_err-expect.ensures.1
    (c.loop-self.invariant.read done h k place len
    ∙ next.2 done h (Operands place sign first others ∷ k) (omega (arith, len)))
    (c.in_err-expect.ensures.read done (AfterExpr h (Operands place sign first others ∷ k) e) _
    (operand-closes h place sign first others k e (placed c.push_expr.new.self.token)
    (sym c.sees_sign.ensures ∙ c.if-not-sees_sign.true)))

pub operands-returns-clause-read : goal.operands-returns-clause-read
operands-returns-clause-read t c = λ done h k place len.
    let next = c.in_ok-push_expr.ensures.read in
    let sign = spot_of_sign c.args.sign in
    let first = expr_tree c.args.first in
    let others = map expr_tree c.loop-self.invariant.others in
    let e = expr_tree next.0 in
    c.loop-self.invariant.read done h k place len
    ∙ next.2 done h (Operands place sign first others ∷ k) (omega (arith, len))
    ∙ c.in_ok-expect.ensures.read done (AfterExpr h (Operands place sign first others ∷ k) e) _
    (operand-closes h place sign first others k e (placed c.push_expr.new.self.token)
    (sym c.sees_sign.ensures ∙ c.if-not-sees_sign.true))
    ∙ ap (λ l. run done (AfterExpr h k (InfixOf place sign (trees l))) (ahead c.expect.new.self))
    (sym (ap (map expr_tree) (c.in_ok-list.ensures.list
    ∙ drop-behind c.start-start.result _ c.args.arena.now.pending.items
    (c.args.first ∷ c.loop-self.invariant.others ++ next.0 ∷ []) c.start-start.ensures
    (next.1
    ∙ push-behind _ c.args.arena.now.pending.items (c.args.first ∷ c.loop-self.invariant.others) next.0
    c.loop-self.invariant.items))
    ∙ ap (λ l. first ∷ l) (map_push expr_tree c.loop-self.invariant.others next.0)))

pub operands-returns-clause-kept : goal.operands-returns-clause-kept
operands-returns-clause-kept t c =
    let next = c.in_ok-push_expr.ensures.read in
    c.in_ok-list.ensures.kept
    ∙ take-before c.start-start.result _ c.args.arena.now.pending.items
    (c.args.first ∷ c.loop-self.invariant.others ++ next.0 ∷ []) c.start-start.ensures
    (next.1
    ∙ push-behind _ c.args.arena.now.pending.items (c.args.first ∷ c.loop-self.invariant.others) next.0
    c.loop-self.invariant.items)

pub operands-finish-requires : goal.operands-finish-requires
operands-finish-requires t c =
    let next = c.in_ok-push_expr.ensures.read in
    front-le c.start-start.result _ c.args.arena.now.pending.items
    (c.args.first ∷ c.loop-self.invariant.others ++ next.0 ∷ []) c.start-start.ensures
    (next.1
    ∙ push-behind _ c.args.arena.now.pending.items (c.args.first ∷ c.loop-self.invariant.others) next.0
    c.loop-self.invariant.items)

pub behind_chain-returns-in-Some-clause-read : goal.behind_chain-returns-in-Some-clause-read
behind_chain-returns-in-Some-clause-read t c = λ done x k len.
    passes-along _ _ _ c.counted.result _ _ _
    (ap (λ o. run done (behind_wildcard x k o) (ahead c.args.self.now)) c.in-Some.is)
    (c.counted.ensures.read done x k)

pub behind_chain-returns-in-None-clause-read : goal.behind_chain-returns-in-None-clause-read
behind_chain-returns-in-None-clause-read t c = λ done x k len.
    passes-along _ _ _ c.expression.result _ _ _
    (ap (λ o. run done (behind_wildcard x k o) (ahead c.args.self.now)) c.in-None.is)
    (c.expression.ensures.read done x k len)

pub behind_chain-returns-in-None-clause-plain : goal.behind_chain-returns-in-None-clause-plain
behind_chain-returns-in-None-clause-plain t c = c.expression.ensures.plain
    (subst (λ o. IfNone o (wildcard_at (token_of c.args.self.now.token.kind) c.args.self.now.token.place ≡ None))
    c.in-None.is c.requires.held)

pub behind_wildcard-returns-in_err-default-clause-read : goal.behind_wildcard-returns-in_err-default-clause-read
behind_wildcard-returns-in_err-default-clause-read t c = λ done x k len.
    let w = wildcard_of c.args.wildcard in
    let ws = w ∷ map wildcard_of c.in_ok-others.others.now in
    let test = sym c.sees_default.ensures ∙ c.if-not-sees_default.false in
    breaks _ _ _ _ _ _ _ c.from_residual-in_err-default.ensures.1
    (over-default (placed c.args.self.now.token) _ _ c.advance.ensures done x k w test
    ∙ c.in_ok-others.ensures.read done x (Default w ∷ k))
    (c.in_err-default.ensures.read done x (within_defaults ws k)
    (ap (λ n. n + c.args.room) (open_count-within_defaults ws k) ∙ len))

pub behind_wildcard-returns-clause-read : goal.behind_wildcard-returns-clause-read
behind_wildcard-returns-clause-read t c = λ done x k len.
    let w = wildcard_of c.args.wildcard in
    let others = map wildcard_of c.in_ok-others.others.now in
    let ws = w ∷ others in
    let e = expr_tree c.in_ok-default.default in
    let test = sym c.sees_default.ensures ∙ c.if-not-sees_default.false in
    passes-made _ done x k _ c.optional.result _ _
    (over-default (placed c.args.self.now.token) _ _ c.advance.ensures done x k w test
    ∙ c.in_ok-others.ensures.read done x (Default w ∷ k)
    ∙ c.in_ok-default.ensures.read done x (within_defaults ws k)
    (ap (λ n. n + c.args.room) (open_count-within_defaults ws k) ∙ len)
    ∙ defaults-behind MAX_OPEN done x ws k e (ahead c.behind_chain.new.self)
    ∙ ap (λ t. run done (AfterExpr x k t) (ahead c.behind_chain.new.self))
    (chained-optional w others e c.in_ok-default.ensures.plain))
    c.optional.ensures

pub operands-loop-self-preserved : goal.operands-loop-self-preserved
operands-loop-self-preserved t c =
    let next = c.in_ok-push_expr.ensures.read in
    let sign = spot_of_sign c.args.sign in
    let first = expr_tree c.args.first in
    let others = map expr_tree c.loop-self.invariant.others in
    let e = expr_tree next.0 in
    let held = sym c.sees_sign.ensures ∙ c.if-not-sees_sign.false in
    record {
      others = c.loop-self.invariant.others ++ next.0 ∷ [];
      items = next.1
          ∙ push-behind _ c.args.arena.now.pending.items (c.args.first ∷ c.loop-self.invariant.others) next.0
          c.loop-self.invariant.items;
      read = λ done x k place len.
          c.loop-self.invariant.read done x k place len
          ∙ next.2 done x (Operands place sign first others ∷ k) (omega (arith, len))
          ∙ over-sign c.args.sign.text.now (placed c.push_expr.new.self.token) _ _ c.advance.ensures held done
          (AfterExpr x (Operands place sign first others ∷ k) e)
          (Go (BeforeExpr x (Operands place sign first (others ++ e ∷ []) ∷ k)))
          (operand-again MAX_OPEN x place sign first others k e (placed c.push_expr.new.self.token) held)
          ∙ ap (λ l. run done (BeforeExpr x (Operands place sign first l ∷ k)) (ahead c.advance.new.self))
          (sym (map_push expr_tree c.loop-self.invariant.others next.0));
      shorter = let passed = length-passed_sign c.args.sign.text.now
          (placed c.push_expr.new.self.token) _ _ c.advance.ensures held in
          omega (arith, passed, c.in_ok-push_expr.ensures.shorter, c.loop-self.invariant.shorter);
    }
