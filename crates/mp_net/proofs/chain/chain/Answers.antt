use Rattle.std.proofs.Common.{◌++◌, ◌∷◌, [], ◌∙◌, map, ap, sym, subst, arith}
use Rattle.std.specs.List.{AllByRecursion}
use Rattle.std.proofs.lemmas.List.{drop_all, length-map, map-append, append-nil}
use Rattle.mp_net.specs.View.{mark_of, turn_of}
use Rattle.mp_net.specs.NetOf.{IsState, accepted}
use Rattle.mp_net.specs.Chain.{asking_turns}
use Rattle.mp_term.proofs.ListLaws.{all-append}
use Rattle.mp_net.proofs.ChainLaws.{nones, asking-chain, chain-net_of}
use Rattle.mp_net.proofs.chain.chain.Goals as goal

pub returns : goal.returns
returns c =
    let marks = map mark_of c.args.marks.now in
    let before = c.loop-index.states.items in
    let last = c.in_ok-accepting.field-0 in
    let i = c.loop-index.index in
    let done = drop_all i c.args.marks.now c.loop-index-test.false in
    let turns = sym (append-nil (map turn_of before))
    ∙ ap (λ ms. map turn_of before ++ asking_turns i (map mark_of ms)) (sym done) ∙ c.loop-index.invariant.turns in
    let takes = sym (append-nil (map accepted before))
    ∙ ap (λ ms. map accepted before ++ nones (map mark_of ms)) (sym done) ∙ c.loop-index.invariant.accepted in
    let all = c.in_ok-push-2.ensures.items in
    chain-net_of c.args.rule marks (record { states = c.push-2.new.self })
    (ap (map turn_of) all ∙ map-append turn_of before (last ∷ [])
    ∙ ap (λ ts. ts ++ turn_of last ∷ []) turns ∙ ap (λ t. asking_turns 0 marks ++ t ∷ []) c.in_ok-accepting.ensures.turn
    ∙ asking-chain 0 marks)
    (ap (map accepted) all ∙ map-append accepted before (last ∷ [])
    ∙ ap (λ ns. ns ++ accepted last ∷ []) takes ∙ ap (λ n. nones marks ++ n ∷ []) c.in_ok-accepting.ensures.accepted)
    (omega (arith, length-map c.args.marks.now mark_of))
    (subst (AllByRecursion IsState) (sym all)
    (all-append IsState before (last ∷ []) c.loop-index.invariant.states (c.in_ok-accepting.ensures.state, tt)))
