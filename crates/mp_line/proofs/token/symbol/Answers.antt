use Rattle.std.proofs.Common.{subst}
use Rattle.std.specs.Prelude.{IfSome}
use Rattle.mp_term.specs.View.{tree}
use Rattle.mp_pattern.specs.NetTokenView.{net_token}
use Rattle.mp_line.specs.Finds.{Finds}
use Rattle.mp_line.specs.LineTexts.{IsExactTerm, IsFreeName}
use Rattle.mp_line.proofs.SymbolLaws.{free-token}
use Rattle.mp_line.proofs.TokenLaws.{symbol-through}
use Rattle.mp_line.proofs.token.symbol.Goals as goal

pub returns-in-Some : goal.returns-in-Some
returns-in-Some c = λ format. free-token c.args.sig.now format c.args.name.now c.in-Some.free
    (subst (λ o. IfSome o (λ n. IsFreeName c.args.sig.now c.args.name.now n)) c.in-Some.is c.in_ok-free.ensures)

pub returns-in-Some-2 : goal.returns-in-Some-2
returns-in-Some-2 c = λ format.
    symbol-through c.args.sig.now format net_token c.args.name.now (tree c.in-Some-2.term) c.symbol_of.result
    (subst (Finds tree (IsExactTerm c.args.sig.now c.args.name.now)) c.in-Some-2.is c.in_ok-term.ensures)
    c.symbol_of.ensures
