use Rattle.std.proofs.Common.{◌∙◌, length, refl, ap}
use Rattle.std.specs.Prelude.{Some, option_map}
use Rattle.std.proofs.lemmas.Option.{slice_get-map, slice_get_read}
use Rattle.mp_pattern.specs.NetTokenLaws.{same_token-is}
use Rattle.mp_many.specs.TokenView.{read_token}
use Rattle.mp_many.proofs.tokens.place_of.Goals as goal

pub returns-then-is_plainly_same : goal.returns-then-is_plainly_same
returns-then-is_plainly_same c =
    let held = c.args.held.now in
    let place = c.in_ok-place.field-0.now in
    let other = c.in_ok-other.other.now in
    let at = slice_get_read held (length held) place other refl c.in_ok-other.ensures.lookup.3.0
    c.in_ok-other.ensures.lookup.1 in
    slice_get-map read_token held place ∙ ap (option_map read_token) at
    ∙ ap Some (same_token-is (read_token other) (read_token c.args.token.now)
    (c.is_plainly_same.ensures c.if-is_plainly_same.true))
