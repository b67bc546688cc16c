use Rattle.std.proofs.Common.{◌≡◌, [], refl, ap, sym, subst, ◌∙◌}
use Rattle.std.specs.Prelude.{Some, option_map, slice_set}
use Rattle.std.proofs.lemmas.List.{append-nil}
use Rattle.mp_term.proofs.ListLaws.{all-append}
use Rattle.mp_pattern.specs.View.{pattern_tree}
use Rattle.mp_table.specs.Table.{HasRank, HasRanks, term_at, terms_at}
use Rattle.mp_ac.specs.Candidates.{AreCandidates, IsKept, given_terms}
use Rattle.mp_ac.specs.declared.candidates.Found.{Found}
use Rattle.mp_ac.proofs.CandidateLaws.{child-held, entries-filled, entries-kept, found-new, index-found, leads-kept}
use Rattle.mp_ac.proofs.CandidateLaws.{found-part, part-behind}
use Rattle.mp_ac.proofs.candidates.Candidates.fill.Goals as goal

pub returns-in-Some-clause-part : goal.returns-in-Some-clause-part
returns-in-Some-clause-part c =
    let k = subst (λ es. IsKept es c.args.number c.args.node c.in-Some.part) c.deref.ensures.value c.in-Some.ensures in
    let child = child-held c.args.plans.now c.args.number c.requires.number in
    (found-part c.args.table.now (AreCandidates c.args.table.now child.0) c.args.self.now.ranks.items
    c.args.self.now.entries.items c.args.number c.args.node c.in-Some.part k
    (c.requires.found.entries c.args.number k.entry child.0 k.held child.1)).0

pub returns-in-Some-clause-candidates : goal.returns-in-Some-clause-candidates
returns-in-Some-clause-candidates c = λ p child.
    let k = subst (λ es. IsKept es c.args.number c.args.node c.in-Some.part) c.deref.ensures.value c.in-Some.ensures in
    (found-part c.args.table.now (AreCandidates c.args.table.now p) c.args.self.now.ranks.items
    c.args.self.now.entries.items c.args.number c.args.node c.in-Some.part k
    (c.requires.found.entries c.args.number k.entry p k.held child)).1

pub returns-in-Some-clause-more : goal.returns-in-Some-clause-more
returns-in-Some-clause-more c = ([], sym (append-nil c.args.self.now.ranks.items))

pub returns-clause-candidates : goal.returns-clause-candidates
returns-clause-candidates c =
    let t = c.args.table.now in
    let plans = c.args.plans.now in
    let us = given_terms (term_at t c.args.node.node) c.args.node.alone in
    let pushed = c.in_ok-push_candidates.ensures in
    let q = pattern_tree c.index.result.now in
    let child = ap (option_map pattern_tree)
    (index-found plans.children.items c.args.number c.index.result.now c.requires.number c.index.ensures) in
    λ p there.
    let same : q ≡ p = (let k : Some q ≡ Some p = sym child ∙ there in cc) in
    subst (AreCandidates t p us)
    (sym (part-behind c.args.self.now.ranks.items pushed.0 c.push_candidates.new.out.items c.len-from.result
    c.len-end.result pushed.1 (c.len-from.ensures ∙ c.args.self.now.ranks.ok.0)
    (c.len-end.ensures ∙ c.push_candidates.new.out.ok.0)))
    (subst (λ x. AreCandidates t x us pushed.0) same
    (subst (λ ts. AreCandidates t q ts pushed.0) (ap (terms_at t) c.as_slice.ensures ∙ c.requires.node.terms) pushed.2))

pub returns-clause-found : goal.returns-clause-found
returns-clause-found c =
    let t = c.args.table.now in
    let plans = c.args.plans.now in
    let us = given_terms (term_at t c.args.node.node) c.args.node.alone in
    let rs = c.args.self.now.ranks.items in
    let all = c.push_candidates.new.out.items in
    let pushed = c.in_ok-push_candidates.ensures in
    let room = c.in_ok-make_room.ensures in
    let q = pattern_tree c.index.result.now in
    let child = ap (option_map pattern_tree)
    (index-found plans.children.items c.args.number c.index.result.now c.requires.number c.index.ensures) in
    let e : Found = record {
      node = Some c.args.node.node;
      alone = c.args.node.alone;
      from = c.len-from.result;
      end = c.len-end.result;
    } in
    let own = subst (λ ts. AreCandidates t q ts pushed.0)
    (ap (terms_at t) c.as_slice.ensures ∙ c.requires.node.terms) pushed.2 in
    record {
      ranks = subst (HasRanks t) (sym pushed.1) (all-append (HasRank t) rs pushed.0 c.requires.found.ranks own.ranks);
      entries = entries-filled t plans all c.args.self.now.entries.items
          (slice_set c.make_room.new.entries.items c.args.number e) room.0 c.args.number e
          (ap (λ l. slice_set l c.args.number e) room.1)
          (entries-kept t plans rs pushed.0 all c.args.self.now.entries.items pushed.1 c.requires.found.entries)
          (λ p there.
          let same : q ≡ p = (let k : Some q ≡ Some p = sym child ∙ there in cc) in
          found-new t (AreCandidates t p) rs pushed.0 all e c.args.node.node pushed.1 refl
          (c.len-from.ensures ∙ c.args.self.now.ranks.ok.0) (c.len-end.ensures ∙ c.push_candidates.new.out.ok.0)
          (subst (λ x. AreCandidates t x us pushed.0) same own));
      leads = leads-kept t plans rs pushed.0 all c.args.self.now.leads.items pushed.1 c.requires.found.leads;
    }
