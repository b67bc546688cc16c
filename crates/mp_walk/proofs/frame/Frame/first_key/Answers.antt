use Rattle.std.proofs.Common.{◌≡◌, ◌∙◌, ap, sym, subst}
use Rattle.std.specs.Prelude.{false, MatchOption, bytes_eq}
use Rattle.std.proofs.lemmas.Slice.Eq.{bytes_eq-Decides}
use Rattle.mp_walk.specs.Keys.{name_key}
use Rattle.mp_walk.specs.OpenOnes.{open_of}
use Rattle.mp_walk.specs.Ways.{is_first_symbol}
use Rattle.mp_walk.proofs.frame.Frame.first_key.Goals as goal

pub returns-in-Some : goal.returns-in-Some
returns-in-Some c = λ name e.
    let left = (open_of c.args.table.now c.args.self.now).left in
    let first = subst (λ o. MatchOption o (is_first_symbol name left ≡ false)
    (λ own. is_first_symbol name left ≡ bytes_eq own.now name)) c.in-Some.is (c.first_name.ensures name) in
    c.name_key.ensures ∙ ap name_key ((bytes_eq-Decides c.in-Some.name.now name).0 (sym first ∙ e))
