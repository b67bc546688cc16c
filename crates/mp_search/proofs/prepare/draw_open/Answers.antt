use Rattle.std.proofs.Common.{ap, sym, ◌∙◌, subst, arith, length}
use Rattle.mp_table.specs.Table.{HasRanks, terms_at}
use Rattle.mp_search.specs.Reading.{subst_of}
use Rattle.mp_search.proofs.MadeLaws.{made}
use Rattle.mp_search.proofs.OpenLaws.{left-sorted}
use Rattle.mp_search.proofs.PoolLaws.{lacking-nothing, bounds-nothing, bounds-front, bounds-pool, pool-sorted}
use Rattle.mp_search.proofs.PoolLaws.{ranks-among}
use Rattle.mp_search.proofs.prepare.draw_open.Goals as goal

pub returns-then-bounds-clause-made : goal.returns-then-bounds-clause-made
returns-then-bounds-clause-made c =
    let q = c.args.query.now in
    let x = c.args.site.now in
    let s = subst_of q c.args.trail.now in
    made q x s _ (bounds-nothing q x c.requires.query c.requires.site s c.bounds_of-bounds.result
    c.bounds_of-bounds.ensures (terms_at q.table.now c.clear.new.self.items.items) c.if-bounds.true)
    (omega (arith, ap length c.clear.ensures.items), tt)
    (subst (HasRanks q.table.now) (sym c.clear.ensures.items) tt)

pub returns-then-not-is_comm_above-clause-made : goal.returns-then-not-is_comm_above-clause-made
returns-then-not-is_comm_above-clause-made c =
    let q = c.args.query.now in
    let x = c.args.site.now in
    let s = subst_of q c.args.trail.now in
    let items = c.clear-then-not-is_comm_above.ensures.items in
    made q x s _ (bounds-front q x c.requires.query c.requires.site s c.bounds_of-bounds.result
    c.bounds_of-bounds.ensures (terms_at q.table.now c.clear-then-not-is_comm_above.new.self.items.items)
    (sym c.is_comm_above.ensures ∙ c.if-not-is_comm_above.true))
    (omega (arith, ap length items), tt)
    (subst (HasRanks q.table.now) (sym items) tt)

pub returns-then-lacks_terms_before-clause-made : goal.returns-then-lacks_terms_before-clause-made
returns-then-lacks_terms_before-clause-made c =
    let q = c.args.query.now in
    let x = c.args.site.now in
    let s = subst_of q c.args.trail.now in
    let items = c.clear-then-lacks_terms_before.ensures.items in
    let lack = c.lacks_terms_before.ensures c.if-lacks_terms_before.true in
    made q x s _ (lacking-nothing q x c.requires.query c.requires.site s c.bounds_of-bounds.result
    c.bounds_of-bounds.ensures (terms_at q.table.now c.clear-then-lacks_terms_before.new.self.items.items) lack.0
    lack.1)
    (omega (arith, ap length items), tt)
    (subst (HasRanks q.table.now) (sym items) tt)

pub fill_portion-requires-clause-ascending : goal.fill_portion-requires-clause-ascending
fill_portion-requires-clause-ascending c =
    left-sorted c.args.query.now c.args.site.now c.requires.query c.requires.site
    (sym c.is_comm_above.ensures ∙ c.if-not-is_comm_above.false)

pub returns-clause-made : goal.returns-clause-made
returns-clause-made c =
    let q = c.args.query.now in
    let x = c.args.site.now in
    let s = subst_of q c.args.trail.now in
    let comm = sym c.is_comm_above.ensures ∙ c.if-not-is_comm_above.false in
    let looks = c.looks_at-looks.result in
    let e = c.fill_portion.ensures in
    let pool = c.fill_portion.new.room.items.items in
    let held = ranks-among q.table.now pool x.left.now c.requires.site.left e.part in
    made q x s _ (bounds-pool q x c.requires.query c.requires.site s c.bounds_of-bounds.result
    c.bounds_of-bounds.ensures pool held comm e.part looks c.looks_at-looks.ensures e.enough) (
      omega (arith, e.few, c.requires.site.narrow),
      pool-sorted q x c.requires.query c.requires.site s c.bounds_of-bounds.result c.bounds_of-bounds.ensures pool held
          comm e.part looks c.looks_at-looks.ensures e.enough,
    ) held
