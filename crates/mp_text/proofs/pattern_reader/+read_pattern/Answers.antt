use Rattle.std.proofs.Common.{◌≤◌, ◌+◌, ◌-◌, [], ◌∷◌, ◌++◌, ℕ, map, arith, refl, sym, ap, ◌∙◌}
use Rattle.std.proofs.lemmas.List.{append-nil}
use Rattle.mp_term.specs.Signature.{allows}
use Rattle.mp_pattern.specs.PatternTree.{symbol_pattern, app_pattern, patterns}
use Rattle.mp_pattern.specs.SoundRule.{allows_patterns}
use Rattle.mp_pattern.specs.View.{pattern_tree}
use Rattle.mp_parser.specs.declared.limits.TheConstants.{MAX_OPEN}
use Rattle.mp_parser.specs.declared.token.Punct.TheVariants.{Open, Close, Comma}
use Rattle.mp_parser.specs.Lexing.{token_of}
use Rattle.mp_parser.specs.Machine.{Go, BeforeExpr, AfterExpr, AfterWord, AfterWildcard, AfterOpen, Arguments, spot}
use Rattle.mp_parser.specs.Syntax.{Wildcard, Symbol, Apply, trees}
use Rattle.mp_parser.specs.View.{placed, spot_of}
use Rattle.mp_parser.specs.Parsing.{ahead}
use Rattle.mp_parser.proofs.Runs.{length-passed, row-closes, row-again, word-opens, open-expr, over-punct, word-begins}
use Rattle.mp_parser.proofs.Runs.{wildcard-begins}
use Rattle.mp_build.specs.WildcardView.{wildcard_view}
use Rattle.mp_text.specs.ReadPattern.{IsPatternRead}
use Rattle.mp_text.proofs.ReadTermLaws.{word-alone, if_some-both}
use Rattle.mp_text.proofs.ReadPatternLaws.{allows_patterns-allows, one-symbol, one-app, pattern_of-Apply}
use Rattle.mp_text.proofs.ReadPatternLaws.{pattern_faults-Apply, are_patterns-none, are_patterns-push, if_some-map}
use Rattle.mp_text.proofs.ReadPatternLaws.{is_pattern_read-begins}
use Rattle.mp_text.proofs.pattern_reader.+read_pattern.Goals as goal

pub read_application-returns-clause-read : goal.read_application-returns-clause-read
read_application-returns-clause-read t c =
    let sig = c.args.sig.now in
    let name = spot_of c.args.name in
    let decl = c.in-Some.decl.now in
    let args = rw c.in-Some-2.is at c.in_ok-patterns.ensures.read in
    let many = ap (λ n. allows n decl) (sym c.len.ensures) ∙ sym c.allows.ensures ∙ c.if-not-allows.false in
    record {
      expr = Apply name (trees args.exprs);
      read = λ done x k len.
          over-punct Open (placed c.args.parser.now.token) _ _ c.advance.ensures c.requires done (AfterWord x k name)
          (Go (AfterOpen x k name))
          (word-opens MAX_OPEN x k name (placed c.args.parser.now.token) c.args.room len (omega arith) c.requires)
          ∙ open-expr MAX_OPEN done x k name (placed c.advance.new.self.token) _ (sym c.sees.ensures ∙ c.if-sees.false)
          ∙ args.read done x k name (λ es. omega (arith, len));
      faultless = pattern_faults-Apply sig _ name args.exprs decl (sym c.in-Some.ensures.decl)
          (ap (λ ps. allows_patterns ps decl) (sym args.patterns) ∙ allows_patterns-allows _ decl args.ones many)
          args.faultless;
      pattern = ap (λ ps. app_pattern c.in-Some.op.0 (patterns ps)) args.patterns
          ∙ sym (pattern_of-Apply sig name args.exprs c.in-Some.op.0 (sym c.in-Some.ensures.number));
      one = one-app c.in-Some.op.0 (patterns c.in-Some-2.patterns);
      wildcards = args.wildcards;
      count = omega (arith, args.count);
      small = args.small;
    }

pub read_arguments-loop-patterns-init : goal.read_arguments-loop-patterns-init
read_arguments-loop-patterns-init t c = record {
  exprs = [];
  read = λ done x k f room. refl;
  built = are_patterns-none c.args.sig.now _ _ _ (omega arith) c.in_ok-patterns.ensures;
  fewer = omega arith;
  shorter = omega arith;
}

pub read_arguments-loop-patterns-preserved : goal.read_arguments-loop-patterns-preserved
read_arguments-loop-patterns-preserved t c =
    let so_far = c.loop-patterns.invariant in
    let next = rw c.in-Some.is at c.in_ok-pattern.ensures.read in
    let fewer = rw c.in-Some.is at c.in_ok-pattern.ensures.fewer in
    let shorter = rw c.in-Some.is at c.in_ok-pattern.ensures.shorter in
    let token = placed c.read_pattern.new.parser.token in
    let held = sym c.sees.ensures ∙ c.if-not-sees.false in
    record {
      exprs = so_far.exprs ++ next.expr ∷ [];
      read = λ done x k f room.
          so_far.read done x k f room
          ∙ next.read done x (Arguments f so_far.exprs ∷ k) (room so_far.exprs)
          ∙ over-punct Comma token _ _ c.advance.ensures held done
          (AfterExpr x (Arguments f so_far.exprs ∷ k) next.expr)
          (Go (BeforeExpr x (Arguments f (so_far.exprs ++ next.expr ∷ []) ∷ k)))
          (row-again Close x k (Arguments f) (λ es. AfterExpr x k (Apply f (trees es))) (λ es e t. refl) so_far.exprs
          next.expr token held);
      built = are_patterns-push c.args.sig.now BeforeExpr c.args.room _ (c.args.left.now - c.loop-patterns.left)
          (c.loop-patterns.left - c.read_pattern.new.left) so_far.exprs c.loop-patterns.patterns c.push.new.self
          (pattern_tree c.in-Some.pattern) _ _ _ _ _ next so_far.built c.in_ok-push.ensures.ok
          (omega (arith, so_far.fewer, fewer));
      fewer = omega (arith, so_far.fewer, fewer);
      shorter = let passed = length-passed Comma token _ _ c.advance.ensures held in
          omega (arith, passed, shorter, so_far.shorter);
    }

pub read_arguments-returns-clause-read : goal.read_arguments-returns-clause-read
read_arguments-returns-clause-read t c =
    let so_far = c.loop-patterns.invariant in
    let next = rw c.in-Some.is at c.in_ok-pattern.ensures.read in
    let fewer = rw c.in-Some.is at c.in_ok-pattern.ensures.fewer in
    let built = are_patterns-push c.args.sig.now BeforeExpr c.args.room (c.args.left.now - c.read_pattern.new.left)
    (c.args.left.now - c.loop-patterns.left) (c.loop-patterns.left - c.read_pattern.new.left) so_far.exprs
    c.loop-patterns.patterns c.push.new.self (pattern_tree c.in-Some.pattern) _ _ _ _ _ next so_far.built
    c.in_ok-push.ensures.ok (omega (arith, so_far.fewer, fewer)) in
    record {
      exprs = so_far.exprs ++ next.expr ∷ [];
      read = λ done x k f room.
          so_far.read done x k f room
          ∙ next.read done x (Arguments f so_far.exprs ∷ k) (room so_far.exprs)
          ∙ c.in-Ok.ensures.read done (AfterExpr x (Arguments f so_far.exprs ∷ k) next.expr) _
          (row-closes Close x k (Arguments f) (λ es. AfterExpr x k (Apply f (trees es))) (λ es e t. refl) so_far.exprs
          next.expr (placed c.read_pattern.new.parser.token) (sym c.sees.ensures ∙ c.if-not-sees.true));
      faultless = built.faultless;
      patterns = built.patterns;
      ones = built.ones;
      wildcards = built.wildcards;
      count = built.count;
      small = built.small;
    }

pub read_name-returns-clause-read : goal.read_name-returns-clause-read
read_name-returns-clause-read t c =
    let name = spot_of c.args.name in
    let symbol = rw (rw c.in-Some.is at c.in_ok-name.ensures.value) at c.symbol.ensures in
    record {
      expr = Symbol name;
      read = λ done x k len.
          word-alone MAX_OPEN done x k name (placed c.args.parser.now.token) _ (sym c.sees.ensures ∙ c.if-sees.false);
      faultless = symbol.0;
      pattern = ap symbol_pattern symbol.1;
      one = one-symbol c.in-Some.name;
      wildcards = sym (append-nil (map wildcard_view c.args.before.now.items));
      count = omega arith;
      small = refl;
    }

pub read_pattern-invariant_of-read_name : goal.read_pattern-invariant_of-read_name
read_pattern-invariant_of-read_name t c =
    record { named = c.args.parser.now.token.spelled.word _ (ap token_of c.in-Word.is) }

pub read_pattern-invariant_of-wild : goal.read_pattern-invariant_of-wild
read_pattern-invariant_of-wild t c =
    record { parts = c.args.parser.now.token.spelled.wildcard _ (ap token_of c.in-Wildcard.is) }

pub read_pattern-returns-in-Word-clause-read : goal.read_pattern-returns-in-Word-clause-read
read_pattern-returns-in-Word-clause-read t c =
    let sig = c.args.sig.now in
    let name = spot c.in-Word.text.now c.args.parser.now.token.place in
    let number = c.args.left.now - 1 - c.read_name.new.left + 1 in
    let old = map wildcard_view c.args.before.now.items in
    let new = map wildcard_view c.read_name.new.before.items in
    let behind = ahead c.read_name.new.parser in
    if_some-both c.read_name.result
    (λ v. IsPatternRead sig (λ x k. AfterWord x k name) c.args.room number (pattern_tree v) old new
    (ahead c.advance.new.self) behind)
    (λ v. c.read_name.new.left ≤ c.args.left.now - 1)
    (λ v. IsPatternRead sig BeforeExpr c.args.room (c.args.left.now - c.read_name.new.left) (pattern_tree v) old new
    (ahead c.args.parser.now) behind)
    (λ v h fewer. is_pattern_read-begins sig (λ x k. AfterWord x k name) c.args.room _ number (pattern_tree v) old new
    (ahead c.args.parser.now) (ahead c.advance.new.self) behind
    (λ done x k.
    word-begins done x k (placed c.args.parser.now.token) _ _ _ c.advance.ensures (ap token_of c.in-Word.is))
    (omega (arith, fewer)) h)
    c.read_name.ensures.read c.read_name.ensures.fewer

pub read_pattern-returns-in-Wildcard-clause-read : goal.read_pattern-returns-in-Wildcard-clause-read
read_pattern-returns-in-Wildcard-clause-read t c =
    let sig = c.args.sig.now in
    let wild : Wildcard = record {
      name = c.in-Wildcard.name.now;
      marks = c.in-Wildcard.marks;
      kind = c.in-Wildcard.kind.now;
      place = c.args.parser.now.token.place;
    } in
    let old = map wildcard_view c.args.before.now.items in
    let new = map wildcard_view c.read_wildcard.new.before.items in
    let behind = ahead c.advance-in-Wildcard.new.self in
    if_some-map c.read_wildcard.result
    (λ v. (room : ℕ) → IsPatternRead sig (λ x k. AfterWildcard x k wild) room 1 (pattern_tree v) old new behind behind)
    (λ v. IsPatternRead sig BeforeExpr c.args.room (c.args.left.now - (c.args.left.now - 1)) (pattern_tree v) old new
    (ahead c.args.parser.now) behind)
    (λ v h. is_pattern_read-begins sig (λ x k. AfterWildcard x k wild) c.args.room _ 1 (pattern_tree v) old new
    (ahead c.args.parser.now) behind behind
    (λ done x k.
    wildcard-begins done x k (placed c.args.parser.now.token) _ _ _ _ _ c.advance-in-Wildcard.ensures
    (ap token_of c.in-Wildcard.is))
    (omega arith) (h c.args.room))
    c.read_wildcard.ensures
