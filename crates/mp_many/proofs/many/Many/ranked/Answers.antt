use Rattle.std.proofs.Common.{◌≡◌, ◌∙◌, ◌<◌, [], ◌∷◌, ◌++◌, ap, drop, length, subst, sym}
use Rattle.std.specs.Prelude.{IfSome, option_map}
use Rattle.mp_many.specs.Given.{IsPairOf}
use Rattle.mp_table.specs.Table.{subject_of}
use Rattle.mp_many.specs.WalkItems.{IsWalkItem}
use Rattle.mp_walk.specs.Ranked.{pairs_of, AreOver}
use Rattle.mp_walk.proofs.FoundLaws.{listing-all_list}
use Rattle.mp_walk.proofs.ListLaws.{first-holds, fewer-behind}
use Rattle.mp_many.proofs.FoundLaws.{HasFound, found-alike, found-first, found-last}
use Rattle.mp_many.proofs.FoundLaws.{step-last, step-none, step-some}
use Rattle.mp_many.proofs.many.Many.ranked.Goals as goal

pub admitted-requires-clause-item : goal.admitted-requires-clause-item
admitted-requires-clause-item c =
    let m = c.args.self.now in
    let inv = c.loop-found.invariant in
    subst (λ table. IfSome c.next.new.self.item (IsWalkItem m.sig m.rules (subject_of table)))
    (sym (c.next.ensures.table ∙ inv.table))
    (first-holds (IsWalkItem m.sig m.rules (subject_of c.args.table.now)) c.loop-found.walk.to_come
    c.next.new.self.item c.in_ok-next.ensures.item inv.found.items)

pub loop-found-init : goal.loop-found-init
loop-found-init c =
    let m = c.args.self.now in
    let t = subject_of c.args.table.now in
    let walk = c.in_ok-walk.walk in
    record {
      many = c.in_ok-walk.ensures.many;
      table = c.in_ok-walk.ensures.table;
      found = subst (λ fs. HasFound m.sig m.rules t fs walk.to_come) (sym c.new-found.ensures.none)
          (found-first m.sig m.rules t walk.to_come c.in_ok-walk.ensures.items);
      over = c.new-found.ensures.table;
    }

pub add-requires : goal.add-requires
add-requires c =
    let own : c.in-Some.pair.table ≡ c.next.new.self.table =
    subst (λ o. IfSome o (λ p. p.table ≡ c.next.new.self.table)) c.in-Some.is c.in_ok-pair.ensures.table in
    own ∙ c.next.ensures.table ∙ c.loop-found.invariant.table ∙ sym c.loop-found.invariant.over

pub loop-found-preserved-in-Continue-branch-5 : goal.loop-found-preserved-in-Continue-branch-5
loop-found-preserved-in-Continue-branch-5 c =
    let m = c.args.self.now in
    let t = subject_of c.args.table.now in
    let inv = c.loop-found.invariant in
    let before = c.loop-found.found.pairs in
    let next = c.in_ok-next.ensures in
    let pair = c.in-Some.pair.pair in
    let found = option_map (λ p. p.pair) c.in_ok-pair.field-0 in
    let own = subst (λ table. IfSome c.next.new.self.item (λ i. IsPairOf m.sig m.rules (subject_of table) i
    (option_map (λ p. p.pair) c.in_ok-pair.field-0))) (c.next.ensures.table ∙ inv.table) c.in_ok-pair.ensures.pair in
    let moved = step-some m.sig m.rules t before c.loop-found.walk.to_come inv.found
    c.next.new.self.item found pair (next.answer.0 c.if-branch.true)
    next.item own (ap (option_map (λ p. p.pair)) c.in-Some.is) in
    let kept = found-alike m.sig m.rules t (before ++ pair ∷ [])
    c.add.new.self.pairs (drop 1 c.loop-found.walk.to_come) moved c.in_ok-add.ensures.pairs in
    record {
      many = c.next.ensures.many ∙ inv.many;
      table = c.next.ensures.table ∙ inv.table;
      found = subst (λ is. HasFound m.sig m.rules t c.add.new.self.pairs is) (sym next.to_come) kept;
      over = c.add.ensures.table ∙ inv.over;
    }

pub loop-found-preserved : goal.loop-found-preserved
loop-found-preserved c =
    let m = c.args.self.now in
    let t = subject_of c.args.table.now in
    let inv = c.loop-found.invariant in
    let before = c.loop-found.found.pairs in
    let next = c.in_ok-next.ensures in
    let own = subst (λ table. IfSome c.next.new.self.item (λ i. IsPairOf m.sig m.rules (subject_of table) i
    (option_map (λ p. p.pair) c.in_ok-pair.field-0))) (c.next.ensures.table ∙ inv.table) c.in_ok-pair.ensures.pair in
    let moved = step-none m.sig m.rules t before c.loop-found.walk.to_come inv.found
    c.next.new.self.item (option_map (λ p. p.pair) c.in_ok-pair.field-0) (next.answer.0 c.if-branch.true) next.item own
    (ap (option_map (λ p. p.pair)) c.in_default.is) in
    record {
      many = c.next.ensures.many ∙ inv.many;
      table = c.next.ensures.table ∙ inv.table;
      found = subst (λ is. HasFound m.sig m.rules t before is) (sym next.to_come) moved;
      over = inv.over;
    }

pub loop-found-smaller-in-Continue-branch-5 : goal.loop-found-smaller-in-Continue-branch-5
loop-found-smaller-in-Continue-branch-5 c =
    let next = c.in_ok-next.ensures in
    subst (λ is. length is < length c.loop-found.walk.to_come) (sym next.to_come)
    (fewer-behind c.loop-found.walk.to_come c.next.new.self.item next.item (next.answer.0 c.if-branch.true))

pub loop-found-smaller : goal.loop-found-smaller
loop-found-smaller c =
    let next = c.in_ok-next.ensures in
    subst (λ is. length is < length c.loop-found.walk.to_come) (sym next.to_come)
    (fewer-behind c.loop-found.walk.to_come c.next.new.self.item next.item (next.answer.0 c.if-branch.true))

pub returns-clause-pairs : goal.returns-clause-pairs
returns-clause-pairs c =
    let m = c.args.self.now in
    let t = subject_of c.args.table.now in
    let found = c.loop-found.found.pairs in
    let next = c.in_ok-next.ensures in
    let ended = step-last m.sig m.rules t found c.loop-found.walk.to_come c.loop-found.invariant.found
    c.next.new.self.item (λ h. let b = next.answer.1 h in cc) next.item in
    listing-all_list m.sig m.rules t found (pairs_of c.into_pairs.result.items)
    (found-last m.sig m.rules t found c.loop-found.walk.to_come c.loop-found.invariant.found ended)
    c.into_pairs.ensures.pairs

pub returns-clause-table : goal.returns-clause-table
returns-clause-table c =
    subst (λ t. AreOver t c.into_pairs.result.items) c.loop-found.invariant.over c.into_pairs.ensures.over
