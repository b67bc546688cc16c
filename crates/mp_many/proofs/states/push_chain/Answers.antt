use Rattle.std.proofs.Common.{◌≡◌, ◌≤◌, ◌<◌, ◌∙◌, ◌+◌, ◌-◌, ◌++◌, [], ◌∷◌, suc, drop, get_or, length, sym}
use Rattle.std.proofs.Common.{ap, arith, append-nil, nat_eq, nat_lt}
use Rattle.std.specs.Prelude.{None, Some, if◌then◌else◌, min}
use Rattle.std.proofs.lemmas.Option.{get_or_from_slice_get}
use Rattle.mp_walk.specs.Instrs.{Instr}
use Rattle.mp_many.specs.TokenView.{read_token}
use Rattle.mp_many.proofs.ChainLaws.{chain, chain-past, chain-step}
use Rattle.mp_many.proofs.states.push_chain.Goals as goal

pub at-requires-clause-place : goal.at-requires-clause-place
at-requires-clause-place c = omega (arith, c.loop-index-test.true, c.min-end.ensures, c.length-count.ensures)

pub loop-index-preserved : goal.loop-index-preserved
loop-index-preserved c =
    let ks = get_or c.args.lists.now c.args.number [] in
    let n = c.args.number in
    let i = c.loop-index.index in
    let end = c.min-end.result in
    let left = (c.args.place + c.args.most) - (i + 1) in
    let now = c.loop-index.states in
    let t = c.at.result in
    let state : Instr = record {
      token = read_token t;
      down = c.in_ok-down.down;
      over = None;
      accepts = c.in_ok-accepts.accepts;
    } in
    let whole = c.length-count.ensures in
    let inside : i < length ks = omega (arith, c.loop-index-test.true, c.min-end.ensures, whole) in
    let is : read_token t ≡ get_or ks i (read_token t) =
    sym (get_or_from_slice_get ks i (read_token t) (read_token t) c.at.ensures) in
    let bound : end ≡ min (length ks) (suc i + left) =
    omega (arith, c.loop-index-test.true, c.min-end.ensures, whole) in
    let made : state ≡ record {
      token = read_token t;
      down = if nat_lt (i + 1) end then Some (suc (suc (length now))) else None;
      over = None;
      accepts = if nat_eq (i + 1) (length ks) then n ∷ [] else [];
    } = λ j. record {
      token = read_token t;
      down = c.in_ok-down.ensures j;
      over = None;
      accepts = (c.in_ok-accepts.ensures ∙ ap (λ m. if nat_eq (i + 1) m then n ∷ [] else []) whole) j;
    } in
    let pushed : c.push.new.self ≡ now ++ state ∷ [] =
    c.in_ok-push.ensures.ok ∙ ap (λ k. now ++ record state { token = k } ∷ []) c.in_ok-token.ensures in
    let step = chain-step ks n left end i (read_token t) now state inside is bound made in
    let more : suc left ≡ (c.args.place + c.args.most) - i = omega (arith, c.loop-index-test.true, c.min-end.ensures) in
    ap (λ rs. rs ++ chain left n (drop (i + 1) ks) (suc (length rs))) pushed ∙ step
    ∙ ap (λ d. now ++ chain d n (drop i ks) (suc (length now))) more ∙ c.loop-index.invariant

pub returns : goal.returns
returns c =
    let ks = get_or c.args.lists.now c.args.number [] in
    let i = c.loop-index.index in
    let left = (c.args.place + c.args.most) - i in
    let now = c.loop-index.states in
    let past : min (length ks) (i + left) ≤ i =
    omega (arith, c.loop-index-test.false, c.min-end.ensures, c.length-count.ensures) in
    sym (append-nil now)
    ∙ ap (λ is. now ++ is) (sym (chain-past ks c.args.number left i (suc (length now)) past)) ∙ c.loop-index.invariant
