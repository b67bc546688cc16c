use Rattle.std.proofs.Common.{◌∙◌, ap, map, subst}
use Rattle.mp_io.specs.Writing.{Puts}
use Rattle.mp_search.specs.Levels.{take_of}
use Rattle.mp_token.specs.TokenText.{front_text}
use Rattle.mp_cursor.specs.Listing.{Listing}
use Rattle.mp_cursor.proofs.CursorLaws.{takes-are}
use Rattle.mp_cursor.proofs.cursor.Cursor.put_token.Goals as goal

pub returns : goal.returns
returns g c = λ i es e r.
    let d = c.self.inside in
    let l = c.args.self.now in
    let s = c.args.subject.now in
    subst (Puts g.K.Sink c.args.out.now c.put_takes_text.new.out)
    (ap (λ ls. front_text s d.rule.now.name (map take_of ls)) c.as_slice.ensures.value
    ∙ ap (front_text s d.rule.now.name) (takes-are d l c.self.view_is c.self.invariant i e es r)
    ∙ ap (λ (x : Listing). front_text s x.rule.name es) c.self.view_is) c.put_takes_text.ensures
