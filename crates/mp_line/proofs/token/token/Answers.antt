use Rattle.std.proofs.Common.{length, ap, sym, subst, arith}
use Rattle.std.specs.Prelude.{IfOk}
use Rattle.mp_pattern.specs.NetTokenView.{net_token}
use Rattle.mp_line.specs.Finds.{Finds}
use Rattle.mp_line.specs.LineTexts.{IsTokenText}
use Rattle.mp_line.proofs.token.token.Goals as goal

pub symbol-requires : goal.symbol-requires
symbol-requires c = omega (arith, ap length c.in-Some.ensures.is)

pub optional-requires : goal.optional-requires
optional-requires c = omega (arith, ap length c.in-Some-behind.ensures.is)

pub comm-requires : goal.comm-requires
comm-requires c = omega (arith, ap length c.in-Some-behind-2.ensures.is)

pub plain_token-requires : goal.plain_token-requires
plain_token-requires c = record {
  not_symbol = c.in_default.ensures;
  not_optional = c.in_default-behind.ensures;
  not_comm = c.in_default-behind-2.ensures;
}

pub returns-in-Some : goal.returns-in-Some
returns-in-Some c =
    subst (λ t. IfOk c.symbol.result (λ o. Finds net_token (IsTokenText c.args.sig.now c.args.format t) o))
    (sym c.in-Some.ensures.is) (c.symbol.ensures c.args.format)

pub returns-in-Some-behind : goal.returns-in-Some-behind
returns-in-Some-behind c =
    subst (λ t. IfOk c.optional.result (λ o. Finds net_token (IsTokenText c.args.sig.now c.args.format t) o))
    (sym c.in-Some-behind.ensures.is) (c.optional.ensures c.args.format)

pub returns-in-Some-behind-2 : goal.returns-in-Some-behind-2
returns-in-Some-behind-2 c =
    subst (λ t. IfOk c.comm.result (λ o. Finds net_token (IsTokenText c.args.sig.now c.args.format t) o))
    (sym c.in-Some-behind-2.ensures.is) c.comm.ensures
