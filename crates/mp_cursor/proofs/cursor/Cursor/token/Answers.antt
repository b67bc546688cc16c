use Rattle.std.proofs.Common.{◌<◌, ◌∙◌, ap, sym, map, length, subst}
use Rattle.mp_search.specs.Levels.{take_of}
use Rattle.mp_cursor.specs.Listing.{ReadAs}
use Rattle.mp_cursor.proofs.CursorLaws.{some-takes, takes-stand}
use Rattle.mp_cursor.proofs.cursor.Cursor.token.Goals as goal

pub returns-clause-some : goal.returns-clause-some
returns-clause-some c = subst (λ es. 0 < length es)
    (sym (c.in_ok-entries.ensures ∙ ap (map take_of) c.as_slice.ensures.value))
    (some-takes c.self.inside c.args.self.now c.self.view_is c.self.invariant)

pub returns-clause-entries : goal.returns-clause-entries
returns-clause-entries c = λ i e. subst (λ es. ReadAs c.args.self.now.table es i.0)
    (sym (c.in_ok-entries.ensures ∙ ap (map take_of) c.as_slice.ensures.value))
    (takes-stand c.self.inside c.args.self.now c.self.view_is c.self.invariant i e)
