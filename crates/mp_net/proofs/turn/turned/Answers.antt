use Rattle.std.proofs.Common.{◌≡◌, ◌+◌, ◌^◌, ◌∙◌, [], ◌∷◌, ◌++◌, map, take, length, get_or, sym, ap, subst}
use Rattle.std.proofs.Common.{replicate, arith}
use Rattle.std.proofs.lemmas.List.{length-map}
use Rattle.std.proofs.lemmas.List.Elements.{filter_map-append}
use Rattle.mp_term.proofs.ListingLaws.{all_in}
use Rattle.mp_table.proofs.Distinct.{in-key}
use Rattle.mp_net.specs.Net as net
use Rattle.mp_net.specs.View.{mark_of, open_of}
use Rattle.mp_net.specs.Items.{tables, opens, joined}
use Rattle.mp_net.specs.Short.{IsShort}
use Rattle.mp_net.specs.Turned.{keys, below_each, AreAscending, HaveHeads, AreAsked}
use Rattle.mp_net.specs.declared.item.Item.{Item}
use Rattle.mp_net.proofs.ShortLaws.{narrow-heads}
use Rattle.mp_net.proofs.TurnLaws.{replicated-states, have-next, opens-next, below_each-append}
use Rattle.mp_net.proofs.turn.turned.Goals as goal

pub loop-item-init : goal.loop-item-init
loop-item-init c =
    let hs = c.in_ok-heads.heads in
    let count : c.len.result ≡ length (map mark_of hs.items) =
    omega (arith, length-map hs.items mark_of, c.len.ensures, hs.ok.0) in
    record {
      ascending = c.in_ok-heads.ensures.ascending;
      heads = c.in_ok-heads.ensures.all;
      asked = c.in_ok-heads.ensures.asked;
      below = replicated-states (tables c.args.marks.now) c.in_ok-below.below.items (map mark_of hs.items)
          (c.in_ok-below.ensures ∙ ap (λ n. replicate n []) count);
      behind = ap (opens (tables c.args.marks.now)) c.new.ensures.items;
    }

pub go_on-requires-clause-heads : goal.go_on-requires-clause-heads
go_on-requires-clause-heads c =
    let ms = tables c.args.marks.now in
    let first : Item = record { rule = 0; free = 0; at = 0 } in
    have-next (keys c.loop-item.turn.heads.items) (opens ms c.args.items.now)
    (open_of ms (get_or c.args.items.now c.loop-item.item-index first))
    (in-key (open_of ms) c.args.items.now c.loop-item.item-index first c.loop-item-test.true)
    c.loop-item.invariant.heads

pub go_on-requires-clause-narrow : goal.go_on-requires-clause-narrow
go_on-requires-clause-narrow c =
    narrow-heads (2 ^ 32) (opens (tables c.args.marks.now) c.args.items.now) c.loop-item.turn.heads.items c.requires
    c.loop-item.invariant.asked

pub go_on-requires-clause-short : goal.go_on-requires-clause-short
go_on-requires-clause-short c =
    let ms = tables c.args.marks.now in
    let first : Item = record { rule = 0; free = 0; at = 0 } in
    all_in (λ o. IsShort (2 ^ 32) o.rest) (opens ms c.args.items.now)
    (open_of ms (get_or c.args.items.now c.loop-item.item-index first)) c.requires
    (in-key (open_of ms) c.args.items.now c.loop-item.item-index first c.loop-item-test.true)

pub loop-item-preserved : goal.loop-item-preserved
loop-item-preserved c =
    let ms = tables c.args.marks.now in
    let is = c.args.items.now in
    let i = c.loop-item.item-index in
    let first : Item = record { rule = 0; free = 0; at = 0 } in
    let hs = c.loop-item.turn.heads.items in
    let o = open_of ms (get_or is i first) in
    let next : opens ms (take (i + 1) is) ≡ opens ms (take i is) ++ o ∷ [] =
    opens-next ms is i first c.loop-item-test.true in
    record {
      ascending = subst AreAscending (sym c.in_ok-go_on.ensures.heads) c.loop-item.invariant.ascending;
      heads = subst (HaveHeads (opens ms is)) (sym c.in_ok-go_on.ensures.heads) c.loop-item.invariant.heads;
      asked = subst (AreAsked (opens ms is)) (sym c.in_ok-go_on.ensures.heads) c.loop-item.invariant.asked;
      below =
          c.in_ok-go_on.ensures.below
          ∙ ap (λ us. joined us (below_each (o ∷ []) (map mark_of hs))) c.loop-item.invariant.below
          ∙ sym (below_each-append (opens ms (take i is)) (o ∷ []) (map mark_of hs))
          ∙ ap (λ us. below_each us (map mark_of hs)) (sym next)
          ∙ ap (λ ks. below_each (opens ms (take (i + 1) is)) (map mark_of ks)) (sym c.in_ok-go_on.ensures.heads);
      behind =
          c.in_ok-go_on.ensures.behind
          ∙ ap (λ us. us ++ net.going net.behind (o ∷ [])) c.loop-item.invariant.behind
          ∙ sym (filter_map-append _ (opens ms (take i is)) (o ∷ []))
          ∙ ap (net.going net.behind) (sym next);
    }
