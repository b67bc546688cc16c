use Rattle.std.proofs.Common.{◌≡◌, ◌∙◌, ◌∷◌, ap, ap₂, arith}
use Rattle.mp_pattern.specs.Admission.{Rule}
use Rattle.mp_pattern.specs.RuleView.{rule_tree}
use Rattle.mp_text.specs.File.{subject_tree}
use Rattle.mp_token.specs.TokenText.{front_text, token_text}
use Rattle.mp_matches.specs.Computed.{match_of}
use Rattle.mp_matches.specs.Left.{left_of, one_and, printed}
use Rattle.mp_matches.specs.Match.{match_line}
use Rattle.mp_matches.specs.Put.{PutsOne}
use Rattle.mp_matches.specs.declared.stop.Stop.TheVariants as stop
use Rattle.mp_matches.proofs.PrintedLaws.{length-match_line}
use Rattle.mp_matches.proofs.PutLaws.{PutsFront-nothing}
use Rattle.mp_matches.proofs.SoFar.{of-err, printed-last}
use Rattle.mp_matches.proofs.TokenLaws.{token_of-only}
use Rattle.mp_matches.proofs.matches.put_next.Goals as goal

pub returns-in_err-token-in-Lines-eq0-clause-puts : goal.returns-in_err-token-in-Lines-eq0-clause-puts
returns-in_err-token-in-Lines-eq0-clause-puts g c i ms e =
    let sig = c.args.cursor.now.sig in
    let m = match_of (subject_tree c.args.subject.now) (rule_tree c.args.rule.now) i in
    let n = c.in-Lines-eq0.field-0 in
    let out = c.args.out.now in
    let whole = printed sig (left_of c.args.left.now) (m ∷ ms) in
    of-err (λ a. PutsOne g.O.Sink whole (printed sig (one_and n) ms) out out (one_and n) a) c.from_residual.result
    stop.Memory c.from_residual.ensures.1 (PutsFront-nothing g.O.Sink out whole.0)

pub returns-in_ok-token-in-Lines-eq0-clause-puts : goal.returns-in_ok-token-in-Lines-eq0-clause-puts
returns-in_ok-token-in-Lines-eq0-clause-puts g c i ms e =
    let sig = c.args.cursor.now.sig in
    let m = match_of (subject_tree c.args.subject.now) (rule_tree c.args.rule.now) i in
    let token = c.in_ok-token-in-Lines-eq0.token in
    let told = c.in_ok-token-in-Lines-eq0.ensures in
    let named : token.rule ≡ (rule_tree c.args.rule.now).name = told.names.1
    ∙ ap (λ (r : Rule). r.name) c.requires.over.rule in
    let same = token_of-only m (token_text token) (record {
      ranks = c.args.cursor.now.table;
      ranked = c.requires.over.table;
      entries = token.entries;
      read = told.entries i e;
      spelt = ap₂ (λ s r. front_text s r token.entries) told.names.0 named;
    }) in (
      match_line sig m,
      printed-last sig c.args.left.now m ms c.in-Lines-eq0.field-0 (token_text token) c.in-Lines-eq0.is
          (omega arith) same,
      c.put_match-in-Lines-eq0.ensures i e,
      length-match_line sig m,
    )
