use Rattle.std.proofs.Common.{◌≤◌, ◌+◌, ◌-◌, [], ◌∷◌, ◌++◌, length, arith, refl, sym, ap, ◌∙◌}
use Rattle.std.proofs.lemmas.List.{length-map}
use Rattle.mp_term.specs.Tree as term
use Rattle.mp_term.specs.View.{tree}
use Rattle.mp_term.specs.Signature.{allows}
use Rattle.mp_parser.specs.declared.limits.TheConstants.{MAX_OPEN}
use Rattle.mp_parser.specs.declared.token.Punct.TheVariants.{Open, Close, Comma}
use Rattle.mp_parser.specs.Lexing.{token_of}
use Rattle.mp_parser.specs.Machine.{Go, BeforeExpr, AfterExpr, AfterWord, AfterOpen, Arguments, spot}
use Rattle.mp_parser.specs.Syntax.{Symbol, Apply, trees}
use Rattle.mp_parser.specs.View.{placed, spot_of}
use Rattle.mp_parser.specs.Parsing.{ahead}
use Rattle.mp_parser.proofs.Runs.{length-passed, row-closes, row-again, word-opens, open-expr, over-punct, word-begins}
use Rattle.mp_build.specs.Build.{term_of}
use Rattle.mp_text.specs.ReadTerm.{IsTermRead}
use Rattle.mp_text.proofs.ReadTermLaws.{term_of-Apply, term_faults-Apply, word-alone, if_some-both, are_terms-push}
use Rattle.mp_text.proofs.term_reader.+read_term.Goals as goal

pub read_application-returns-clause-read : goal.read_application-returns-clause-read
read_application-returns-clause-read t c =
    let sig = c.args.sig.now in
    let name = spot_of c.args.name in
    let args = rw c.in-Some-2.is at c.in_ok-terms.ensures.read in
    let many = c.len.ensures ∙ ap length args.terms ∙ length-map args.exprs (term_of sig) in
    record {
      expr = Apply name (trees args.exprs);
      read = λ done x k len.
          over-punct Open (placed c.args.parser.now.token) _ _ c.advance.ensures c.requires done (AfterWord x k name)
          (Go (AfterOpen x k name))
          (word-opens MAX_OPEN x k name (placed c.args.parser.now.token) c.args.room len (omega arith) c.requires)
          ∙ open-expr MAX_OPEN done x k name (placed c.advance.new.self.token) _ (sym c.sees.ensures ∙ c.if-sees.false)
          ∙ args.read done x k name (λ es. omega (arith, len));
      faultless = term_faults-Apply sig name args.exprs c.in-Some.decl.now (sym c.in-Some.ensures.decl)
          (ap (λ n. allows n c.in-Some.decl.now) (sym many) ∙ sym c.allows.ensures ∙ c.if-not-allows.false)
          args.faultless;
      term = ap (λ ts. term.app c.in-Some.op.0 (term.trees ts)) args.terms
          ∙ sym (term_of-Apply sig name args.exprs c.in-Some.op.0 (sym c.in-Some.ensures.number));
      count = omega (arith, args.count);
      small = args.small;
    }

pub read_arguments-loop-terms-init : goal.read_arguments-loop-terms-init
read_arguments-loop-terms-init t c = record {
  exprs = [];
  read = λ done x k f room. refl;
  built = record { faultless = refl; terms = c.in_ok-terms.ensures; count = omega arith; small = refl };
  fewer = omega arith;
  shorter = omega arith;
}

pub read_arguments-loop-terms-preserved : goal.read_arguments-loop-terms-preserved
read_arguments-loop-terms-preserved t c =
    let before = c.loop-terms.invariant.exprs in
    let next = rw c.in-Some.is at c.in_ok-term.ensures.read in
    let fewer = rw c.in-Some.is at c.in_ok-term.ensures.fewer in
    let shorter = rw c.in-Some.is at c.in_ok-term.ensures.shorter in
    let token = placed c.read_term.new.parser.token in
    let held = sym c.sees.ensures ∙ c.if-not-sees.false in
    let built = are_terms-push c.args.sig.now BeforeExpr c.args.room (c.args.left.now - c.loop-terms.left)
    (c.loop-terms.left - c.read_term.new.left) before c.loop-terms.terms c.push.new.self (tree c.in-Some.term) _ _ next
    c.loop-terms.invariant.built c.in_ok-push.ensures.ok in
    record {
      exprs = before ++ next.expr ∷ [];
      read = λ done x k f room.
          c.loop-terms.invariant.read done x k f room
          ∙ next.read done x (Arguments f before ∷ k) (room before)
          ∙ over-punct Comma token _ _ c.advance.ensures held done (AfterExpr x (Arguments f before ∷ k) next.expr)
          (Go (BeforeExpr x (Arguments f (before ++ next.expr ∷ []) ∷ k)))
          (row-again Close x k (Arguments f) (λ es. AfterExpr x k (Apply f (trees es))) (λ es e t. refl) before
          next.expr token held);
      built = record {
        faultless = built.faultless;
        terms = built.terms;
        count = omega (arith, c.loop-terms.invariant.fewer, built.count, fewer);
        small = built.small;
      };
      fewer = omega (arith, c.loop-terms.invariant.fewer, fewer);
      shorter = let passed = length-passed Comma token _ _ c.advance.ensures held in
          omega (arith, passed, shorter, c.loop-terms.invariant.shorter);
    }

pub read_arguments-returns-clause-read : goal.read_arguments-returns-clause-read
read_arguments-returns-clause-read t c =
    let before = c.loop-terms.invariant.exprs in
    let next = rw c.in-Some.is at c.in_ok-term.ensures.read in
    let fewer = rw c.in-Some.is at c.in_ok-term.ensures.fewer in
    let built = are_terms-push c.args.sig.now BeforeExpr c.args.room (c.args.left.now - c.loop-terms.left)
    (c.loop-terms.left - c.read_term.new.left) before c.loop-terms.terms c.push.new.self (tree c.in-Some.term) _ _ next
    c.loop-terms.invariant.built c.in_ok-push.ensures.ok in
    record {
      exprs = before ++ next.expr ∷ [];
      read = λ done x k f room.
          c.loop-terms.invariant.read done x k f room
          ∙ next.read done x (Arguments f before ∷ k) (room before)
          ∙ c.in-Ok.ensures.read done (AfterExpr x (Arguments f before ∷ k) next.expr) _
          (row-closes Close x k (Arguments f) (λ es. AfterExpr x k (Apply f (trees es))) (λ es e t. refl) before
          next.expr (placed c.read_term.new.parser.token) (sym c.sees.ensures ∙ c.if-not-sees.true));
      faultless = built.faultless;
      terms = built.terms;
      count = omega (arith, c.loop-terms.invariant.fewer, built.count, fewer);
      small = built.small;
    }

pub read_term-invariant_of-name : goal.read_term-invariant_of-name
read_term-invariant_of-name t c =
    record { named = c.args.parser.now.token.spelled.word _ (ap token_of c.in-Word.is) }

pub read_term-invariant_of-name-2 : goal.read_term-invariant_of-name-2
read_term-invariant_of-name-2 t c =
    record { named = c.args.parser.now.token.spelled.word _ (ap token_of c.in-Word.is) }

pub read_term-returns-then-sees-clause-read : goal.read_term-returns-then-sees-clause-read
read_term-returns-then-sees-clause-read t c =
    let name = spot c.in-Word.text.now c.args.parser.now.token.place in
    let new = ahead c.read_application.new.parser in
    if_some-both c.read_application.result
    (λ v. IsTermRead c.args.sig.now (λ x k. AfterWord x k name) c.args.room
    (c.args.left.now - 1 - c.read_application.new.left + 1) (tree v) (ahead c.advance.new.self) new)
    (λ v. c.read_application.new.left ≤ c.args.left.now - 1)
    (λ v. IsTermRead c.args.sig.now BeforeExpr c.args.room (c.args.left.now - c.read_application.new.left) (tree v)
    (ahead c.args.parser.now) new)
    (λ v behind fewer. record {
      expr = behind.expr;
      read = λ done x k len.
          word-begins done x k (placed c.args.parser.now.token) _ _ _ c.advance.ensures (ap token_of c.in-Word.is)
          ∙ behind.read done x k len;
      faultless = behind.faultless;
      term = behind.term;
      count = omega (arith, behind.count, fewer);
      small = behind.small;
    })
    c.read_application.ensures.read c.read_application.ensures.fewer

pub read_term-returns-clause-read : goal.read_term-returns-clause-read
read_term-returns-clause-read t c =
    let name = spot c.in-Word.text.now c.args.parser.now.token.place in
    let symbol = rw (rw c.in-Some.is at c.in_ok-name.ensures.value) at c.symbol.ensures in
    record {
      expr = Symbol name;
      read = λ done x k len.
          word-begins done x k (placed c.args.parser.now.token) _ _ _ c.advance.ensures (ap token_of c.in-Word.is)
          ∙ word-alone MAX_OPEN done x k name (placed c.advance.new.self.token) _
          (sym c.sees.ensures ∙ c.if-sees.false);
      faultless = symbol.0;
      term = ap term.symbol symbol.1;
      count = omega arith;
      small = refl;
    }
