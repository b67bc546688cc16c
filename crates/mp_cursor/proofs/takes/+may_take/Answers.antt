use Rattle.std.proofs.Common.{◌≤◌, sym, subst, arith, map, length, rules, refl, List, drop, ◌+◌}
use Rattle.mp_search.specs.declared.level.Level.{Level}
use Rattle.mp_cursor.specs.Kept.{HaveRoom, AreHeldTakes}
use Rattle.mp_cursor.proofs.SliceLaws.{rest-whole}
use Rattle.mp_cursor.proofs.TakesLaws.{fit-none, fit-more, fit-few, fit-many}
use Rattle.mp_cursor.proofs.takes.+may_take.Goals as goal

pub returns-then-ranks-level : goal.returns-then-ranks-level
returns-then-ranks-level t c = (
  λ h. cc,
  λ f.
      let m = (fit-more c.args.table.now (λ l. l.take.room) c.args.entries.now c.args.index c.args.levels.now
      (c.in-len1-up-Some.ranks.now, c.in-len1-up-Some.field-0-1-1) c.level-item.result c.in-len1-up-Some.len_at_least
      (c.in-len1-up-Some.ensures)).0 f in
      let k = subst (λ l. length c.in-len1-up-Some.ranks.now ≤ l.take.room) (sym c.level-item.is) m.0 in
      absurd (omega (arith, k, c.if-ranks-level.true)),
)

pub returns-then-not-has_ranks : goal.returns-then-not-has_ranks
returns-then-not-has_ranks t c = (
  λ h. cc,
  λ f.
      let m = (fit-more c.args.table.now (λ l. l.take.room) c.args.entries.now c.args.index c.args.levels.now
      (c.in-len1-up-Some.ranks.now, c.in-len1-up-Some.field-0-1-1) c.level-item.result c.in-len1-up-Some.len_at_least
      (c.in-len1-up-Some.ensures)).0 f in
      let k = c.has_ranks.ensures.1 m.1 in
      let n = c.if-not-has_ranks.true in
      absurd (search (rules, k, n)),
)

pub returns-in-empty-None : goal.returns-in-empty-None
returns-in-empty-None t c = (
  λ h. fit-none c.args.table.now (λ l. l.take.room) c.args.entries.now c.args.index
      c.args.levels.now c.in-empty-None.len_below (c.in-empty-None.ensures),
  λ h. refl,
)

pub returns-else-not-has_ranks : goal.returns-else-not-has_ranks
returns-else-not-has_ranks t c =
    let m = fit-more c.args.table.now (λ l. l.take.room) c.args.entries.now c.args.index c.args.levels.now
    (c.in-len1-up-Some.ranks.now, c.in-len1-up-Some.field-0-1-1) c.level-item.result c.in-len1-up-Some.len_at_least
    (c.in-len1-up-Some.ensures) in
    let k = subst (λ l. length c.in-len1-up-Some.ranks.now ≤ l.take.room) c.level-item.is c.if-ranks-level.false in
    let rest = rest-whole c.args.levels.now c.in-len1-up-Some.len_at_least in
    let later = drop (c.args.index + 1) c.args.entries.now in
    let F : List Level → Type 0 = λ ls.
    HaveRoom (map (λ l. l.take.room) ls) later × AreHeldTakes c.args.table.now later in (
      λ h. m.1 (
        k,
        c.has_ranks.ensures.0 (search (rules, c.if-not-has_ranks.false)),
        subst F rest (c.may_take.ensures.0 h),
      ),
      λ f. c.may_take.ensures.1 (subst F (sym rest) (m.0 f).2),
    )

pub returns-in_default : goal.returns-in_default
returns-in_default t c = (
  λ h. cc,
  λ f. absurd (fit-few c.args.table.now (λ l. l.take.room) c.args.entries.now
      c.args.index c.args.levels.now _ c.in_default.len_below (c.in_default.ensures) f),
)

pub returns-in_default-2 : goal.returns-in_default-2
returns-in_default-2 t c = (
  λ h. cc,
  λ f. absurd (fit-many c.args.table.now (λ l. l.take.room) c.args.entries.now
      c.args.index c.args.levels.now c.in_default.len_at_least (c.in_default.ensures) f),
)
