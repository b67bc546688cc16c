use Rattle.std.proofs.Common.{◌≡◌, ◌∙◌, sym, ap, true, rules}
use Rattle.mp_term.specs.Tree.{symbol}
use Rattle.mp_term.specs.View.{tree}
use Rattle.mp_pattern.proofs.NameLaws.{same_name-is}
use Rattle.mp_cursor.proofs.RootLaws.{names-same, names-equal}
use Rattle.mp_rewrite.proofs.taken.is_symbol.Goals as goal

pub returns-in-Sym-clause-symbol : goal.returns-in-Sym-clause-symbol
returns-in-Sym-clause-symbol c = λ t.
    let same : c.in-Sym.own ≡ c.args.name.now =
    same_name-is c.in-Sym.own c.args.name.now (sym c.eq.ensures ∙ t) in
    ap tree c.in-Sym.is ∙ ap symbol same

pub returns-in-Sym-clause-other : goal.returns-in-Sym-clause-other
returns-in-Sym-clause-other c = λ n e.
    let same : c.args.name.now ≡ c.in-Sym.own = names-same _ _ (sym e ∙ ap tree c.in-Sym.is) in
    let found : c.eq.result ≡ true = c.eq.ensures ∙ names-equal _ _ same in
    absurd (search (rules, found, n))
