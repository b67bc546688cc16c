use Rattle.std.proofs.Common.{◌≡◌, ◌-◌, take, drop, refl, ap, sym, subst, ◌∙◌, arith}
use Rattle.std.specs.Prelude.{None, Some, option_and_then, option_map, slice_set}
use Rattle.mp_term.proofs.ListLaws.{all-append}
use Rattle.mp_pattern.specs.View.{pattern_tree}
use Rattle.mp_table.specs.Table.{HasRank, HasRanks, term_at}
use Rattle.mp_ac.specs.Candidates.{AreChoices, IsKept, given_terms}
use Rattle.mp_ac.specs.CommPlans.{child_at}
use Rattle.mp_ac.specs.declared.candidates.Found.{Found}
use Rattle.mp_ac.proofs.CandidateLaws.{candidates-choices, candidates-kept, child-within, entries-kept, found-new}
use Rattle.mp_ac.proofs.CandidateLaws.{index-found, lead-read, lead-within, leads-filled, leads-kept, next-within}
use Rattle.mp_ac.proofs.CandidateLaws.{found-part, part-behind}
use Rattle.mp_ac.proofs.candidates.Candidates.choices.Goals as goal

pub returns-in-Some-clause-part : goal.returns-in-Some-clause-part
returns-in-Some-clause-part c =
    let k = subst (λ es. IsKept es c.args.number c.args.node c.in-Some.part) c.deref.ensures.value c.in-Some.ensures in
    let lead = c.requires.number in
    (found-part c.args.table.now (AreChoices c.args.table.now lead.0 lead.1) c.args.self.now.ranks.items
    c.args.self.now.leads.items c.args.number c.args.node c.in-Some.part k
    (c.requires.found.leads c.args.number k.entry lead.0 lead.1 k.held lead.2)).0

pub returns-in-Some-clause-choices : goal.returns-in-Some-clause-choices
returns-in-Some-clause-choices c = λ p next lead.
    let k = subst (λ es. IsKept es c.args.number c.args.node c.in-Some.part) c.deref.ensures.value c.in-Some.ensures in
    (found-part c.args.table.now (AreChoices c.args.table.now p next) c.args.self.now.ranks.items
    c.args.self.now.leads.items c.args.number c.args.node c.in-Some.part k
    (c.requires.found.leads c.args.number k.entry p next k.held lead)).1

pub index-requires : goal.index-requires
index-requires c =
    let number = c.requires.number in
    omega (
      arith,
      lead-within c.args.plans.now c.args.number number.0 number.1 number.2,
      c.args.plans.now.leads.ok.0,
    )

pub fill-requires-clause-number : goal.fill-requires-clause-number
fill-requires-clause-number c =
    let plans = c.args.plans.now in
    let number = c.requires.number in
    let known = lead-read plans c.args.number number.0 number.1 c.index.result.now number.2 c.index.ensures in
    child-within plans c.index.result.now.child number.0 known.0

pub returns-in_default-next-clause-choices : goal.returns-in_default-next-clause-choices
returns-in_default-next-clause-choices c = λ p next lead.
    let t = c.args.table.now in
    let plans = c.args.plans.now in
    let us = given_terms (term_at t c.args.node.node) c.args.node.alone in
    let l = c.index.result.now in
    let own = c.in_ok-own.own in
    let part = take (own.1 - own.0) (drop own.0 c.fill.new.self.ranks.items) in
    let known = lead-read plans c.args.number p next l lead c.index.ensures in
    let none : next ≡ None = known.1 ∙ ap (option_and_then (child_at plans)) c.in_default-next.is in
    subst (λ q. AreChoices t p q us part) (sym none)
    (candidates-choices t p us part (c.in_ok-own.ensures.candidates p known.0))

pub fill-requires-2-clause-number : goal.fill-requires-2-clause-number
fill-requires-2-clause-number c =
    let plans = c.args.plans.now in
    let number = c.requires.number in
    let known = lead-read plans c.args.number number.0 number.1 c.index.result.now number.2 c.index.ensures in
    next-within plans c.in-Some-next.next (known.2 c.in-Some-next.next c.in-Some-next.is)

pub index-requires-2 : goal.index-requires-2
index-requires-2 c =
    let plans = c.args.plans.now in
    let number = c.requires.number in
    let known = lead-read plans c.args.number number.0 number.1 c.index.result.now number.2 c.index.ensures in
    omega (
      arith,
      child-within plans c.index.result.now.child number.0 known.0,
      plans.children.ok.0,
    )

pub index-requires-3 : goal.index-requires-3
index-requires-3 c =
    let plans = c.args.plans.now in
    let number = c.requires.number in
    let known = lead-read plans c.args.number number.0 number.1 c.index.result.now number.2 c.index.ensures in
    omega (
      arith,
      next-within plans c.in-Some-next.next (known.2 c.in-Some-next.next c.in-Some-next.is),
      plans.children.ok.0,
    )

pub push_choices-requires-clause-shaped : goal.push_choices-requires-clause-shaped
push_choices-requires-clause-shaped c =
    let t = c.args.table.now in
    let plans = c.args.plans.now in
    let us = given_terms (term_at t c.args.node.node) c.args.node.alone in
    let own = c.in_ok-own.own in
    let number = c.requires.number in
    let l = c.index.result.now in
    let known = lead-read plans c.args.number number.0 number.1 l number.2 c.index.ensures in
    let p = pattern_tree c.index-2.result.now in
    let child = ap (option_map pattern_tree) (index-found plans.children.items l.child c.index-2.result.now
    (child-within plans l.child number.0 known.0) c.index-2.ensures) in
    let more = c.in_ok-its.ensures.more in
    (candidates-kept t p us c.fill.new.self.ranks.items more.0 c.fill-2.new.self.ranks.items own.0 own.1 more.1
    c.in_ok-own.ensures.part.0 c.in_ok-own.ensures.part.1 (c.in_ok-own.ensures.candidates p child)).shaped

pub push_choices-requires-clause-its_shaped : goal.push_choices-requires-clause-its_shaped
push_choices-requires-clause-its_shaped c =
    let plans = c.args.plans.now in
    let number = c.requires.number in
    let l = c.index.result.now in
    let m = c.in-Some-next.next in
    let known = lead-read plans c.args.number number.0 number.1 l number.2 c.index.ensures in
    let child = ap (option_map pattern_tree) (index-found plans.children.items m c.index-3.result.now
    (next-within plans m (known.2 m c.in-Some-next.is)) c.index-3.ensures) in
    (c.in_ok-its.ensures.candidates (pattern_tree c.index-3.result.now) child).shaped

pub index_mut-requires : goal.index_mut-requires
index_mut-requires c =
    let number = c.requires.number in
    omega (
      arith,
      lead-within c.args.plans.now c.args.number number.0 number.1 number.2,
      c.args.plans.now.leads.ok.0,
      c.len.ensures,
      c.in_ok-make_room.ensures.2,
      c.make_room.new.entries.ok.0,
    )

pub returns-clause-choices : goal.returns-clause-choices
returns-clause-choices c = λ p next lead.
    let t = c.args.table.now in
    let plans = c.args.plans.now in
    let us = given_terms (term_at t c.args.node.node) c.args.node.alone in
    let own = c.in_ok-own.own in
    let l = c.index.result.now in
    let m = c.in-Some-next.next in
    let known = lead-read plans c.args.number p next l lead c.index.ensures in
    let x = pattern_tree c.index-2.result.now in
    let y = pattern_tree c.index-3.result.now in
    let child = ap (option_map pattern_tree) (index-found plans.children.items l.child c.index-2.result.now
    (child-within plans l.child p known.0) c.index-2.ensures) in
    let behind = ap (option_map pattern_tree) (index-found plans.children.items m c.index-3.result.now
    (next-within plans m (known.2 m c.in-Some-next.is)) c.index-3.ensures) in
    let more = c.in_ok-its.ensures.more in
    let pushed = c.in_ok-push_choices.ensures in
    let choices = pushed.2 us (candidates-kept t x us c.fill.new.self.ranks.items more.0 c.fill-2.new.self.ranks.items
    own.0 own.1 more.1 c.in_ok-own.ensures.part.0 c.in_ok-own.ensures.part.1
    (c.in_ok-own.ensures.candidates x child)) (c.in_ok-its.ensures.candidates y behind) in
    let same : x ≡ p = (let k : Some x ≡ Some p = sym child ∙ known.0 in cc) in
    let next-is : next ≡ Some y = known.1 ∙ ap (option_and_then (child_at plans)) c.in-Some-next.is ∙ behind in
    subst (AreChoices t p next us)
    (sym (part-behind c.fill-2.new.self.ranks.items pushed.0 c.push_choices.new.ranks.items c.len-from.result
    c.len-end.result pushed.1 (c.len-from.ensures ∙ c.fill-2.new.self.ranks.ok.0)
    (c.len-end.ensures ∙ c.push_choices.new.ranks.ok.0)))
    (subst (λ q. AreChoices t p q us pushed.0) (sym next-is)
    (subst (λ q. AreChoices t q (Some y) us pushed.0) same choices))

pub returns-clause-found : goal.returns-clause-found
returns-clause-found c =
    let t = c.args.table.now in
    let plans = c.args.plans.now in
    let us = given_terms (term_at t c.args.node.node) c.args.node.alone in
    let own = c.in_ok-own.own in
    let number = c.requires.number in
    let l = c.index.result.now in
    let m = c.in-Some-next.next in
    let known = lead-read plans c.args.number number.0 number.1 l number.2 c.index.ensures in
    let x = pattern_tree c.index-2.result.now in
    let y = pattern_tree c.index-3.result.now in
    let child = ap (option_map pattern_tree) (index-found plans.children.items l.child c.index-2.result.now
    (child-within plans l.child number.0 known.0) c.index-2.ensures) in
    let behind = ap (option_map pattern_tree) (index-found plans.children.items m c.index-3.result.now
    (next-within plans m (known.2 m c.in-Some-next.is)) c.index-3.ensures) in
    let more = c.in_ok-its.ensures.more in
    let pushed = c.in_ok-push_choices.ensures in
    let choices = pushed.2 us (candidates-kept t x us c.fill.new.self.ranks.items more.0 c.fill-2.new.self.ranks.items
    own.0 own.1 more.1 c.in_ok-own.ensures.part.0 c.in_ok-own.ensures.part.1
    (c.in_ok-own.ensures.candidates x child)) (c.in_ok-its.ensures.candidates y behind) in
    let rs = c.fill-2.new.self.ranks.items in
    let all = c.push_choices.new.ranks.items in
    let found = c.in_ok-its.ensures.found in
    let room = c.in_ok-make_room.ensures in
    let e : Found = record {
      node = Some c.args.node.node;
      alone = c.args.node.alone;
      from = c.len-from.result;
      end = c.len-end.result;
    } in
    record {
      ranks = subst (HasRanks t) (sym pushed.1) (all-append (HasRank t) rs pushed.0 found.ranks choices.ranks);
      entries = entries-kept t plans rs pushed.0 all c.fill-2.new.self.entries.items pushed.1 found.entries;
      leads = leads-filled t plans all c.fill-2.new.self.leads.items
          (slice_set c.make_room.new.entries.items c.args.number e) room.0 c.args.number e
          (ap (λ l. slice_set l c.args.number e) room.1)
          (leads-kept t plans rs pushed.0 all c.fill-2.new.self.leads.items pushed.1 found.leads)
          (λ p next lead.
          let read = lead-read plans c.args.number p next l lead c.index.ensures in
          let same : x ≡ p = (let k : Some x ≡ Some p = sym child ∙ read.0 in cc) in
          let next-is : next ≡ Some y =
          read.1 ∙ ap (option_and_then (child_at plans)) c.in-Some-next.is ∙ behind in
          found-new t (AreChoices t p next) rs pushed.0 all e c.args.node.node pushed.1 refl
          (c.len-from.ensures ∙ c.fill-2.new.self.ranks.ok.0) (c.len-end.ensures ∙ c.push_choices.new.ranks.ok.0)
          (subst (λ q. AreChoices t p q us pushed.0) (sym next-is)
          (subst (λ q. AreChoices t q (Some y) us pushed.0) same choices)));
    }
