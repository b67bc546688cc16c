use Rattle.std.proofs.Common.{◌++◌, arith, subst}
use Rattle.std.specs.Prelude.{ℕ, List, Option, codes}
use Rattle.std.specs.Borrow.{Bor}
use Rattle.mp_pattern.specs.NetTokenView.{net_token}
use Rattle.mp_program.specs.FormText.{target_text, action_text}
use Rattle.mp_line.specs.declared.action.Action.{Action}
use Rattle.mp_line.specs.ActionView.{action_view}
use Rattle.mp_line.specs.Finds.{Finds, FindsPair}
use Rattle.mp_line.specs.LineTexts.{IsTokenText, IsActionText}
use Rattle.mp_line.proofs.InstrLaws.{front-length, no-over, no-action, no-token, instr-found}
use Rattle.mp_line.proofs.instr.instr.Goals as goal

pub token-requires : goal.token-requires
token-requires c =
    let front = c.in-Some.front.now in
    let acts = subst (FindsPair {T = Bor (List ℕ) × Action} {A = List ℕ} {B = Option ℕ × List ℕ} (λ p. p.0.now)
    (λ p. action_view p.1) (λ f a. IsActionText front f a.0 a.1)) c.in-Some-2.is c.in_ok-spelling.ensures in
    omega (
      arith,
      front-length front (codes " over " ++ target_text c.in-Some.over) c.args.text.now c.in-Some.ensures.is.spelled,
      front-length c.in-Some-2.spelling.now
          (codes " " ++ action_text c.in-Some-2.action.down c.in-Some-2.action.accepts)
          front acts.is.spelled,
    )

pub returns-in_default : goal.returns-in_default
returns-in_default c = no-over c.args.sig.now c.args.format c.args.text.now c.in_default.ensures

pub returns-in_default-2 : goal.returns-in_default-2
returns-in_default-2 c =
    let front = c.in-Some.front.now in
    no-action c.args.sig.now c.args.format c.args.text.now front c.in-Some.over c.in-Some.ensures
    (subst (FindsPair {T = Bor (List ℕ) × Action} {A = List ℕ} {B = Option ℕ × List ℕ} (λ p. p.0.now)
    (λ p. action_view p.1) (λ f a. IsActionText front f a.0 a.1)) c.in_default-2.is c.in_ok-spelling.ensures)

pub returns-in-Some-3 : goal.returns-in-Some-3
returns-in-Some-3 c =
    let sig = c.args.sig.now in
    let front = c.in-Some.front.now in
    let spelling = c.in-Some-2.spelling.now in
    let action = c.in-Some-2.action in
    let acts = subst (FindsPair {T = Bor (List ℕ) × Action} {A = List ℕ} {B = Option ℕ × List ℕ} (λ p. p.0.now)
    (λ p. action_view p.1) (λ f a. IsActionText front f a.0 a.1)) c.in-Some-2.is c.in_ok-spelling.ensures in
    instr-found sig c.args.format c.args.text.now front c.in-Some.over c.in-Some.ensures spelling action.down
    action.accepts acts (net_token c.in-Some-3.token)
    (subst (Finds net_token (IsTokenText sig c.args.format spelling)) c.in-Some-3.is c.in_ok-token.ensures)

pub returns-in-None : goal.returns-in-None
returns-in-None c =
    let sig = c.args.sig.now in
    let front = c.in-Some.front.now in
    let spelling = c.in-Some-2.spelling.now in
    let action = c.in-Some-2.action in
    let acts = subst (FindsPair {T = Bor (List ℕ) × Action} {A = List ℕ} {B = Option ℕ × List ℕ} (λ p. p.0.now)
    (λ p. action_view p.1) (λ f a. IsActionText front f a.0 a.1)) c.in-Some-2.is c.in_ok-spelling.ensures in
    no-token sig c.args.format c.args.text.now front c.in-Some.over c.in-Some.ensures spelling action.down
    action.accepts acts
    (subst (Finds net_token (IsTokenText sig c.args.format spelling)) c.in-None.is c.in_ok-token.ensures)
