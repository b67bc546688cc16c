use Rattle.std.proofs.Common.{◌++◌, sym, subst}
use Rattle.std.specs.Prelude.{codes}
use Rattle.mp_pattern.specs.NetTokenView.{net_token}
use Rattle.mp_line.specs.Finds.{Finds}
use Rattle.mp_line.specs.LineTexts.{IsTokenText}
use Rattle.mp_line.proofs.TokenLaws.{not-counted}
use Rattle.mp_line.proofs.wild.counted_in.Goals as goal

pub returns-in-One : goal.returns-in-One
returns-in-One c = λ sig k g.
    not-counted sig c.args.text.now k (subst (λ f. IsTokenText sig f
    (codes "counted " ++ c.args.text.now) k) c.in-One.is g)

pub returns-in-Two : goal.returns-in-Two
returns-in-Two c = λ sig.
    subst (λ f. Finds net_token (IsTokenText sig f (codes "counted " ++ c.args.text.now)) c.counted.result)
    (sym c.in-Two.is)
    (c.counted.ensures sig)
