use Rattle.std.proofs.Common.{[], ◌∷◌, ◌++◌, map, refl, sym, ap, ◌∙◌, arith}
use Rattle.std.proofs.lemmas.List.{map_push}
use Rattle.mp_parser.specs.declared.token.Punct.TheVariants.{Semicolon}
use Rattle.mp_parser.specs.Syntax.{KindOf}
use Rattle.mp_parser.specs.Machine.{BeforeMember, AfterMember, Emit, run}
use Rattle.mp_parser.specs.View.{placed, spot_of}
use Rattle.mp_parser.specs.Parsing.{ahead}
use Rattle.mp_parser.proofs.Runs.{member-again, members-end, over-punct, breaks}
use Rattle.mp_parser.proofs.parser.Parser.members.Goals as goal

pub returns-in_err-word-clause-read : goal.returns-in_err-word-clause-read
returns-in_err-word-clause-read c = λ done name.
    let members = map spot_of c.loop-members.members.items in
    breaks _ _ _ _ _ _ _ c.from_residual.ensures.1
    (c.loop-members.invariant.read done name)
    (c.in_err-word.ensures.read done (BeforeMember name members) (λ w. AfterMember name (members ++ w ∷ []))
    (λ t. refl))

pub loop-members-preserved : goal.loop-members-preserved
loop-members-preserved c = record {
  read = λ done name.
      let members = map spot_of c.loop-members.members.items in
      c.loop-members.invariant.read done name
      ∙ c.in_ok-word.ensures.read done (BeforeMember name members) (λ w. AfterMember name (members ++ w ∷ []))
      (λ t. refl)
      ∙ ap (λ l. run done (AfterMember name l) (ahead c.word.new.self))
      (sym (ap (map spot_of) c.in_ok-push.ensures.items ∙ map_push spot_of _ _))
      ∙ member-again done name (map spot_of c.push.new.self.items) (placed c.word.new.self.token) _
      (sym c.sees.ensures ∙ c.if-sees.false);
  shorter = omega (arith, c.loop-members.invariant.shorter, c.in_ok-word.ensures.shorter);
}

pub returns-clause-read : goal.returns-clause-read
returns-clause-read c = λ done name.
    let members = map spot_of c.loop-members.members.items in
    c.loop-members.invariant.read done name
    ∙ c.in_ok-word.ensures.read done (BeforeMember name members) (λ w. AfterMember name (members ++ w ∷ [])) (λ t. refl)
    ∙ ap (λ l. run done (AfterMember name l) (ahead c.word.new.self))
    (sym (ap (map spot_of) c.in_ok-push.ensures.items ∙ map_push spot_of _ _))
    ∙ over-punct Semicolon (placed c.word.new.self.token) _ _ c.advance.ensures
    (sym c.sees.ensures ∙ c.if-sees.true) done (AfterMember name (map spot_of c.push.new.self.items))
    (Emit (KindOf name (map spot_of c.push.new.self.items)))
    (members-end name (map spot_of c.push.new.self.items) (placed c.word.new.self.token)
    (sym c.sees.ensures ∙ c.if-sees.true))
