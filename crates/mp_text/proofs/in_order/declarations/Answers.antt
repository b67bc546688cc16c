use Rattle.std.proofs.Common.{sym, ap, ◌∙◌, map}
use Rattle.std.proofs.lemmas.List.{map_push}
use Rattle.mp_parser.specs.Machine.{Top, run}
use Rattle.mp_parser.specs.View.{statement_tree}
use Rattle.mp_parser.specs.Parsing.{ahead}
use Rattle.mp_text.proofs.in_order.declarations.Goals as goal

pub loop-parser-preserved : goal.loop-parser-preserved
loop-parser-preserved c = λ bytes h.
    c.loop-parser.invariant bytes h
    ∙ c.in_ok-statement.ensures.read (map statement_tree c.loop-parser.declarations.items)
    ∙ ap (λ l. run l Top (ahead c.read_statement.new.parser))
    (sym (ap (map statement_tree) c.in_ok-push.ensures.items ∙ map_push statement_tree _ _))
