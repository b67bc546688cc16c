use Rattle.std.proofs.Common.{◌≡◌, ◌∙◌, [], drop, map, take, sym, ap, subst}
use Rattle.std.specs.Prelude.{option_map}
use Rattle.mp_many.specs.Groups.{entered, left_at}
use Rattle.mp_many.specs.GroupView.{group_of}
use Rattle.mp_many.specs.TokenView.{read_token}
use Rattle.mp_many.proofs.GroupLaws.{AreWithin, entered_all, entered-grouped}
use Rattle.mp_many.proofs.RunLaws.{HaveAt, entered_by, none-left, run-step, within-drop}
use Rattle.mp_many.proofs.group.groups_of.Goals as goal

pub enter_marked-requires : goal.enter_marked-requires
enter_marked-requires c = record {
  digests = c.loop-rest.invariant.digests;
  marked = c.loop-rest.invariant.marked;
}

pub loop-rest-preserved-in_ok-enter_marked : goal.loop-rest-preserved-in_ok-enter_marked
loop-rest-preserved-in_ok-enter_marked c =
    let lists = c.args.lists.now in
    let place = c.args.place in
    let ns = c.loop-rest.rest.now in
    let n = c.alike.result in
    let gs = map group_of c.loop-rest.groups.items in
    let old = c.loop-rest.invariant in
    let o = option_map read_token c.get.result in
    let back = c.split_at.ensures.back in
    let e = run-step lists place gs n o ns c.alike.ensures.some c.alike.ensures.within
    (subst (λ p. HaveAt lists place p (take n ns)) c.get.ensures c.alike.ensures.alike) in
    record {
      within = subst (AreWithin lists) (sym back) (within-drop lists n ns old.within);
      groups = (λ i. entered_all (map group_of c.enter_marked.new.groups.items) (left_at lists place (back i)))
          ∙ ap (λ hs. entered_all hs (left_at lists place (drop n ns))) (c.in_ok-enter_marked.ensures.entered
          ∙ ap (entered gs (read_token c.in-Some.token)) c.split_at.ensures.front
          ∙ ap (entered_by gs (take n ns)) (sym (ap (option_map read_token) c.in-Some.is)))
          ∙ sym e ∙ old.groups;
      digests = c.in_ok-enter_marked.ensures.digests;
      marked = c.in_ok-enter_marked.ensures.marked;
    }

pub loop-rest-preserved : goal.loop-rest-preserved
loop-rest-preserved c =
    let lists = c.args.lists.now in
    let place = c.args.place in
    let ns = c.loop-rest.rest.now in
    let n = c.alike.result in
    let gs = map group_of c.loop-rest.groups.items in
    let old = c.loop-rest.invariant in
    let o = option_map read_token c.get.result in
    let back = c.split_at.ensures.back in
    let e = run-step lists place gs n o ns c.alike.ensures.some c.alike.ensures.within
    (subst (λ p. HaveAt lists place p (take n ns)) c.get.ensures c.alike.ensures.alike) in
    record {
      within = subst (AreWithin lists) (sym back) (within-drop lists n ns old.within);
      groups = (λ i. entered_all gs (left_at lists place (back i)))
          ∙ ap (λ hs. entered_all hs (left_at lists place (drop n ns)))
          (ap (entered_by gs (take n ns)) (sym (ap (option_map read_token) c.in_default.is)))
          ∙ sym e ∙ old.groups;
      digests = old.digests;
      marked = old.marked;
    }

pub returns : goal.returns
returns c =
    let lists = c.args.lists.now in
    let ns = c.loop-rest.rest.now in
    let gs = map group_of c.loop-rest.groups.items in
    let none : ns ≡ [] = none-left ns c.is_empty.result c.is_empty.ensures c.loop-rest-test.false in
    sym (ap (λ ms. entered_all gs (left_at lists c.args.place ms)) none) ∙ c.loop-rest.invariant.groups
    ∙ entered-grouped (left_at lists c.args.place c.args.numbers.now)
