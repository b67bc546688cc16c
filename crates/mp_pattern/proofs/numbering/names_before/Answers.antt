use Rattle.std.proofs.Common.{◌≡◌, ◌+◌, ◌∙◌, true, false, drop, ap, sym, arith}
use Rattle.std.specs.Prelude.{Some, if◌then◌else◌, option_map, slice_get}
use Rattle.mp_pattern.specs.NetTokens.{number_in}
use Rattle.mp_pattern.specs.Value.{same_name}
use Rattle.mp_pattern.proofs.NetTokenLists.{number_in-next}
use Rattle.mp_pattern.proofs.numbering.names_before.Goals as goal

pub returns-then-eq : goal.returns-then-eq
returns-then-eq c =
    let names = c.args.names.now in
    let name = c.args.name.now in
    let i = c.loop-index.index in
    let other = c.in-Some.other.now in
    let at : slice_get names i ≡ Some other = c.get.ensures ∙ ap (option_map (λ n. n.now)) c.in-Some.is in
    let same : same_name other name ≡ true = sym c.eq.ensures ∙ c.if-eq.true in
    let first : number_in (drop i names) name ≡ 0 = number_in-next names i other name at
    ∙ ap (λ b. if b then 0 else number_in (drop (i + 1) names) name + 1) same in
    omega (arith, first, c.loop-index.invariant)

pub loop-index-preserved : goal.loop-index-preserved
loop-index-preserved c =
    let names = c.args.names.now in
    let name = c.args.name.now in
    let i = c.loop-index.index in
    let other = c.in-Some.other.now in
    let at : slice_get names i ≡ Some other = c.get.ensures ∙ ap (option_map (λ n. n.now)) c.in-Some.is in
    let differs : same_name other name ≡ false = sym c.eq.ensures ∙ c.if-eq.false in
    let next : number_in (drop i names) name ≡ number_in (drop (i + 1) names) name + 1 =
    number_in-next names i other name at
    ∙ ap (λ b. if b then 0 else number_in (drop (i + 1) names) name + 1) differs in
    omega (arith, next, c.loop-index.invariant)
