use Rattle.std.proofs.Common.{map, None, sym, ap, subst, ◌∙◌, arith}
use Rattle.std.specs.Prelude.{◌≡◌, IfNone}
use Rattle.std.proofs.lemmas.Bool.{and_parts}
use Rattle.std.proofs.lemmas.List.{map_push}
use Rattle.mp_parser.specs.declared.token.Punct.TheVariants.{Colon}
use Rattle.mp_parser.specs.Lexing.{token_of}
use Rattle.mp_parser.specs.Machine.{BeforeExpr, is_punct, is_dot, wildcard_at, run}
use Rattle.mp_parser.specs.View.{placed, wildcard_of}
use Rattle.mp_parser.specs.Parsing.{ahead, behind_wildcard, within_defaults}
use Rattle.mp_parser.proofs.Runs.{length-passed, over-default, within_defaults-push}
use Rattle.mp_parser.proofs.parser.Parser.chain.Goals as goal

pub loop-last-preserved : goal.loop-last-preserved
loop-last-preserved c =
    let w = wildcard_of c.in-Some.wildcard in
    let ws = map wildcard_of c.loop-last.others.items in
    let test = sym c.sees_default.ensures ∙ c.if-not-sees_default.false in
    let colon = (and_parts (is_punct Colon (token_of c.loop-last.self.token.kind)) (is_dot w) test).0 in
    record {
      read = λ done x k.
          c.loop-last.invariant.read done x k
          ∙ ap (λ o. run done (behind_wildcard x (within_defaults ws k) o) (ahead c.loop-last.self)) c.in-Some.is
          ∙ over-default (placed c.loop-last.self.token) _ _ c.advance.ensures done x (within_defaults ws k) w test
          ∙ ap (λ f. run done (BeforeExpr x f) (ahead c.advance.new.self))
          (sym (within_defaults-push ws w k) ∙ ap (λ l. within_defaults l k)
          (sym (ap (map wildcard_of) c.in_ok-push.ensures.items ∙ map_push wildcard_of _ _)))
          ∙ c.wildcard-last-in-Some.ensures.read done x _;
      held = λ e.
          subst (λ o.
          IfNone o
          (wildcard_at (token_of c.wildcard-last-in-Some.new.self.token.kind)
          c.wildcard-last-in-Some.new.self.token.place ≡ None)) e c.wildcard-last-in-Some.ensures.none;
      shorter = let passed = length-passed Colon (placed c.loop-last.self.token) _ _ c.advance.ensures colon in
          omega (arith, passed, c.wildcard-last-in-Some.ensures.no_longer, c.loop-last.invariant.shorter);
    }
