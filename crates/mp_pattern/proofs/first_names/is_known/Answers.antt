use Rattle.std.proofs.Common.{◌≡◌, ◌+◌, ◌∙◌, true, false, drop, ap, sym}
use Rattle.std.specs.Prelude.{◌||◌, Some, option_map, slice_get}
use Rattle.mp_pattern.specs.Firsts.{is_known}
use Rattle.mp_pattern.specs.Value.{same_name}
use Rattle.mp_pattern.proofs.UsedNameLaws.{is_known-next}
use Rattle.mp_pattern.proofs.first_names.is_known.Goals as goal

pub returns-then-eq : goal.returns-then-eq
returns-then-eq c =
    let known = c.args.known.now in
    let name = c.args.name.now in
    let i = c.loop-index.index in
    let other = c.in-Some.other.now in
    let at : slice_get known i ≡ Some other = c.get.ensures ∙ ap (option_map (λ n. n.now)) c.in-Some.is in
    let same : same_name other name ≡ true = sym c.eq.ensures ∙ c.if-eq.true in
    sym (is_known-next known i other name at ∙ ap (λ b. b || is_known same_name (drop (i + 1) known) name) same)
    ∙ c.loop-index.invariant

pub loop-index-preserved : goal.loop-index-preserved
loop-index-preserved c =
    let known = c.args.known.now in
    let name = c.args.name.now in
    let i = c.loop-index.index in
    let other = c.in-Some.other.now in
    let at : slice_get known i ≡ Some other = c.get.ensures ∙ ap (option_map (λ n. n.now)) c.in-Some.is in
    let differs : same_name other name ≡ false = sym c.eq.ensures ∙ c.if-eq.false in
    sym (is_known-next known i other name at ∙ ap (λ b. b || is_known same_name (drop (i + 1) known) name) differs)
    ∙ c.loop-index.invariant
