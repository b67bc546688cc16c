use Rattle.std.proofs.Common.{◌≡◌, ◌<◌, ◌≤◌, ◌-◌, ◌*◌, length, take, drop, true, refl, sym, subst, arith, ◌∙◌, get_or}
use Rattle.mp_term.specs.Pieces.{is_sublist}
use Rattle.mp_table.specs.Table.{rank_cmp}
use Rattle.std.proofs.lemmas.List.{get_or_default}
use Rattle.mp_table.specs.declared.rank.Rank.{Rank}
use Rattle.mp_search.specs.Portion.{MayTake, occurrences}
use Rattle.mp_search.specs.Reading.{subst_of}
use Rattle.mp_search.proofs.HeadedLaws.{occurrences-drop, occurrences-none}
use Rattle.mp_search.proofs.PortionLaws.{HasEnough, portion-kept, skip-part, skip-enough, enough-end, sub-front}
use Rattle.mp_search.proofs.PortionLaws.{slice-enough}
use Rattle.mp_search.proofs.Sublists.{sub-slice}
use Rattle.mp_search.proofs.portion.fill_portion.Goals as goal
use Rattle.mp_subst.proofs.RankLists.{rank_same, rank_cmp_total}

pub loop-place-preserved-then-has_portion : goal.loop-place-preserved-then-has_portion
loop-place-preserved-then-has_portion c =
    let xs = c.args.site.now.left.now in
    let i = c.loop-place.place in
    let zero_rank : Rank = record { 0 = 0 } in
    let r = get_or xs i zero_rank in
    let there : i < length xs = omega (
      arith,
      c.loop-place-test.true,
      c.places-first.ensures.between.within,
    ) in
    let is : r ≡ get_or xs i r = get_or_default xs i zero_rank r there in
    let whole = c.has_portion.ensures.whole c.if-has_portion.true in
    let before = c.loop-place.invariant in
    let after = portion-kept xs i c.args.count r r c.requires.ascending c.requires.some there is
    (MayTake c.args.query.now c.args.site.now (subst_of c.args.query.now c.args.trail.now) c.args.looks)
    c.loop-place.room.items.items c.add_taken.new.room.items.items c.add_taken.ensures.items whole.1 before.few
    before.part before.enough in
    record {
      within = whole.0;
      few = after.few;
      part = after.part;
      enough = after.enough;
      room = c.add_taken.ensures.room ∙ before.room;
    }

pub loop-place-preserved : goal.loop-place-preserved
loop-place-preserved c =
    let xs = c.args.site.now.left.now in
    let i = c.loop-place.place in
    let zero_rank : Rank = record { 0 = 0 } in
    let r = get_or xs i zero_rank in
    let l = c.loop-place.room.items.items in
    let there : i < length xs = omega (
      arith,
      c.loop-place-test.true,
      c.places-first.ensures.between.within,
    ) in
    let is : r ≡ get_or xs i r = get_or_default xs i zero_rank r there in
    record {
      within = omega (arith, there);
      few = omega (arith, c.loop-place.invariant.few);
      part = skip-part xs i c.args.count r r c.requires.ascending c.requires.some there is l
          c.loop-place.invariant.part;
      enough = λ z w. skip-enough xs i c.args.count r r c.requires.ascending c.requires.some there is
          z l (c.has_portion.ensures.short c.if-has_portion.false) (c.loop-place.invariant.enough z w);
      room = c.loop-place.invariant.room;
    }

pub returns-clause-enough : goal.returns-clause-enough
returns-clause-enough c = λ z m w.
    let between = c.places-first.ensures.between in
    enough-end z c.args.count c.args.site.now.left.now c.loop-place.room.items.items c.loop-place.place c.requires.some
    (occurrences-none z c.args.site.now.left.now c.loop-place.place
    (λ k l n e. between.behind z k w (omega (arith, l, c.loop-place-test.false)) n e))
    (c.loop-place.invariant.enough z w) m

pub returns-clause-part : goal.returns-clause-part
returns-clause-part c =
    sub-front c.loop-place.room.items.items c.args.site.now.left.now c.loop-place.place c.loop-place.invariant.part

pub bounds-list-place : goal.bounds-list-place
bounds-list-place c = omega (
  arith,
  c.loop-place-test.true,
  c.places-first.ensures.between.within,
)

pub has_portion-requires-clause-within : goal.has_portion-requires-clause-within
has_portion-requires-clause-within c = omega (
  arith,
  c.loop-place-test.true,
  c.places-first.ensures.between.within,
)

pub loop-place-init : goal.loop-place-init
loop-place-init c =
    let q = c.args.query.now in
    let x = c.args.site.now in
    let s = subst_of q c.args.trail.now in
    let xs = x.left.now in
    let n = c.args.count in
    let between = c.places-first.ensures.between in
    let first = c.places-first.result.0 in
    let none = sym c.clear.ensures.items in
    record {
      within = between.from;
      few = subst (λ l. length l ≤ first) none (omega arith);
      part = subst (λ l. is_sublist rank_cmp l (take first xs) ≡ true) none refl;
      enough = λ z w. subst (λ l. HasEnough z n xs l (drop first xs)) none
          (λ m k. (
            m,
            omega arith,
            subst (λ j. n * m ≤ j) (sym (occurrences-drop z xs first (λ j a o e. between.before z j w a e))) k,
          ));
      room = refl;
    }

pub returns-then-not-tells-clause-part : goal.returns-then-not-tells-clause-part
returns-then-not-tells-clause-part c =
    let xs = c.args.site.now.left.now in
    let first = c.places-first.result.0 in
    subst (λ rs. is_sublist rank_cmp rs xs ≡ true) (sym c.refill.ensures.items)
    (sub-slice rank_cmp rank_cmp_total rank_same first (c.places-first.result.1 - first) xs)

pub returns-then-not-tells-clause-enough : goal.returns-then-not-tells-clause-enough
returns-then-not-tells-clause-enough c = λ z m w k.
    let xs = c.args.site.now.left.now in
    let between = c.places-first.ensures.between in
    let first = c.places-first.result.0 in
    let end = c.places-first.result.1 in
    subst (λ rs. m ≤ occurrences z rs) (sym c.refill.ensures.items)
    (slice-enough z c.args.count xs first end c.if-count-eq1.true c.places-first.ensures.ordered
    (occurrences-drop z xs first (λ j a o e. between.before z j w a e))
    (occurrences-none z xs end (λ j a o e. between.behind z j w a o e)) m k)
