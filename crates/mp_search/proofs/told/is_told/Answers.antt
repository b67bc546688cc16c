use Rattle.std.proofs.Common.{ap, sym, subst}
use Rattle.mp_pattern.specs.View.{pattern_tree}
use Rattle.mp_search.specs.OneWay.{IsTold}
use Rattle.mp_search.specs.Reading.{subst_of}
use Rattle.mp_search.proofs.told.is_told.Goals as goal

pub returns-in-Sym : goal.returns-in-Sym
returns-in-Sym c = λ h.
    subst (IsTold (subst_of c.args.query.now c.args.trail.now)) (sym (ap pattern_tree c.in-Sym.is)) tt
