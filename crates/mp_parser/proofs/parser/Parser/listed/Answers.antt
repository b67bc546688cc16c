use Rattle.std.proofs.Common.{[], refl, sym, ◌∙◌}
use Rattle.mp_parser.specs.Syntax as syntax
use Rattle.mp_parser.specs.Syntax.{trees}
use Rattle.mp_parser.specs.Machine.{InChange, Listing, AfterChange, change}
use Rattle.mp_parser.specs.View.{placed}
use Rattle.mp_parser.proofs.Runs.{passes-along}
use Rattle.mp_parser.proofs.EditRuns.{list-begins}
use Rattle.mp_parser.proofs.parser.Parser.listed.Goals as goal

pub returns-clause-read : goal.returns-clause-read
returns-clause-read c = λ done d p.
    passes-along _ _ _ c.row.result _ _ _
    (list-begins done d p (placed c.args.self.now.token) _ (sym c.sees.ensures ∙ c.if-sees.false))
    (c.row.ensures.read done (InChange d p) [] Listing (λ es. AfterChange d (change p (syntax.Listed (trees es))))
    (λ es e t. refl) (λ es. refl))
