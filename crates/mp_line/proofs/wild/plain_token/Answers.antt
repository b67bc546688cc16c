use Rattle.std.proofs.Common.{sym, subst}
use Rattle.mp_pattern.specs.NetTokenView.{net_token}
use Rattle.mp_line.specs.Finds.{Finds}
use Rattle.mp_line.specs.LineTexts.{IsTokenText}
use Rattle.mp_line.proofs.wild.plain_token.Goals as goal

pub returns-in-Some : goal.returns-in-Some
returns-in-Some c =
    subst (λ t. Finds net_token (IsTokenText c.args.sig.now c.args.format t) c.entered.result)
    (sym c.in-Some.ensures.is)
    (c.entered.ensures c.args.format)

pub returns-in-Some-behind : goal.returns-in-Some-behind
returns-in-Some-behind c =
    subst (λ t. Finds net_token (IsTokenText c.args.sig.now c.args.format t) c.left.result)
    (sym c.in-Some-behind.ensures.is)
    (c.left.ensures c.args.format)

pub returns-in-Some-behind-2 : goal.returns-in-Some-behind-2
returns-in-Some-behind-2 c =
    subst (λ t. Finds net_token (IsTokenText c.args.sig.now c.args.format t) c.dot.result)
    (sym c.in-Some-behind-2.ensures.is)
    (c.dot.ensures c.args.sig.now c.args.format)

pub returns-in-Some-behind-3 : goal.returns-in-Some-behind-3
returns-in-Some-behind-3 c =
    subst (λ t. Finds net_token (IsTokenText c.args.sig.now c.args.format t) c.plus.result)
    (sym c.in-Some-behind-3.ensures.is)
    (c.plus.ensures c.args.sig.now c.args.format)

pub returns-in-Some-behind-4 : goal.returns-in-Some-behind-4
returns-in-Some-behind-4 c =
    subst (λ t. Finds net_token (IsTokenText c.args.sig.now c.args.format t) c.star.result)
    (sym c.in-Some-behind-4.ensures.is)
    (c.star.ensures c.args.sig.now c.args.format)

pub returns-in-Some-behind-5 : goal.returns-in-Some-behind-5
returns-in-Some-behind-5 c =
    subst (λ t. Finds net_token (IsTokenText c.args.sig.now c.args.format t) c.kind.result)
    (sym c.in-Some-behind-5.ensures.is)
    (c.kind.ensures c.args.format)

pub returns-in-Some-behind-6 : goal.returns-in-Some-behind-6
returns-in-Some-behind-6 c =
    subst (λ t. Finds net_token (IsTokenText c.args.sig.now c.args.format t) c.counted_in.result)
    (sym c.in-Some-behind-6.ensures.is)
    (c.counted_in.ensures c.args.sig.now)
