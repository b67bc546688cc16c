use Rattle.std.proofs.Common.{◌≡◌, ◌∙◌, length, ap, sym, subst, refl, arith}
use Rattle.std.specs.Prelude.{Some, None, IsSome, option_map}
use Rattle.mp_pattern.specs.NetTokenView.{net_token}
use Rattle.mp_walk.specs.InstrView.{plain_instr}
use Rattle.mp_walk.specs.Instrs.{instr_at}
use Rattle.mp_walk.proofs.CodePaths.{number-within}
use Rattle.mp_many.specs.Prefixes.{prefixes, IsState}
use Rattle.mp_many.proofs.WalkableLaws.{length-tree, state-at, held-within}
use Rattle.mp_many.proofs.many.Many.state.Goals as goal

pub returns-in_err-instr-clause-held : goal.returns-in_err-instr-clause-held
returns-in_err-instr-clause-held c =
    let m = c.self.inside in
    let none : instr_at m.code.instrs c.args.number ≡ None =
    c.instr.ensures ∙ ap (option_map (λ i. plain_instr i.now)) c.in_err-instr.was in
    let size : length m.code.instrs ≡ length (prefixes c.args.self.now.sig c.args.self.now.rules) =
    ap length c.self.invariant.tree ∙ length-tree m.sig.now m.rules.now
    ∙ ap (λ v. length (prefixes v.sig v.rules)) c.self.view_is in (
      λ h. absurd (let f = subst IsSome c.from_residual.ensures h in cc),
      λ b. absurd (held-within m.code.instrs c.args.number b.0 (omega (arith, b.1, size)) none),
    )

pub returns-clause-state : goal.returns-clause-state
returns-clause-state c =
    let m = c.self.inside in
    let i = c.in_ok-instr.instr.now in
    let held : instr_at m.code.instrs c.args.number ≡ Some (plain_instr i) =
    c.instr.ensures ∙ ap (option_map (λ i. plain_instr i.now)) c.in_ok-instr.was in
    let s = state-at m.sig.now m.rules.now c.args.number (plain_instr i)
    (subst (λ z. instr_at z c.args.number ≡ Some (plain_instr i)) c.self.invariant.tree held) in
    subst (λ v. IsState v.sig v.rules c.args.number (record {
      token = net_token i.token;
      down = i.down;
      over = i.over;
      accepts = c.as_slice.result.now;
    })) c.self.view_is
    (subst (λ ns. IsState m.sig.now m.rules.now c.args.number (record {
      token = net_token i.token;
      down = i.down;
      over = i.over;
      accepts = ns;
    })) (sym c.as_slice.ensures) s)

pub returns-clause-held : goal.returns-clause-held
returns-clause-held c =
    let m = c.self.inside in
    let i = c.in_ok-instr.instr.now in
    let held : instr_at m.code.instrs c.args.number ≡ Some (plain_instr i) =
    c.instr.ensures ∙ ap (option_map (λ i. plain_instr i.now)) c.in_ok-instr.was in
    let size : length m.code.instrs ≡ length (prefixes c.args.self.now.sig c.args.self.now.rules) =
    ap length c.self.invariant.tree ∙ length-tree m.sig.now m.rules.now
    ∙ ap (λ v. length (prefixes v.sig v.rules)) c.self.view_is in
    let within = number-within m.code.instrs c.args.number (plain_instr i) held in
    (λ _. (within.0, omega (arith, within.1, size)), λ _. refl)
