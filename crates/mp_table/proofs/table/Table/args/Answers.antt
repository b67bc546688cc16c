use Rattle.std.proofs.Common.{◌≡◌, ◌<◌, length, sym, subst, ap, arith}
use Rattle.std.specs.Prelude.{slice_range}
use Rattle.mp_table.specs.Reading.{entry_trees}
use Rattle.mp_table.specs.Subterms.{arguments}
use Rattle.mp_table.specs.Table.{term_at, terms_at, HasRanks}
use Rattle.mp_table.proofs.ReadingLaws.{entry_read}
use Rattle.mp_table.proofs.table.Table.args.Goals as goal

pub offset_bounds-deref-entry : goal.offset_bounds-deref-entry
offset_bounds-deref-entry c =
    let rs = c.self.inside.args.items in
    let es = c.self.inside.entries.items in
    let there : c.args.rank.0 < length (entry_trees rs es) =
    subst (λ t. c.args.rank.0 < length t.terms) (sym c.self.view_is) c.requires in
    let e = entry_read rs (entry_trees rs es) es c.args.rank.0 c.index-entry.result.now c.self.invariant.0 there
    c.index-entry.ensures in
    omega (arith, e.begins, e.ends, ap length c.deref.ensures.value)

pub slice_bounds-result-count : goal.slice_bounds-result-count
slice_bounds-result-count c =
    let rs = c.self.inside.args.items in
    let es = c.self.inside.entries.items in
    let there : c.args.rank.0 < length (entry_trees rs es) =
    subst (λ t. c.args.rank.0 < length t.terms) (sym c.self.view_is) c.requires in
    let e = entry_read rs (entry_trees rs es) es c.args.rank.0 c.index-entry.result.now c.self.invariant.0 there
    c.index-entry.ensures in
    omega (arith, e.begins, e.ends, ap length c.deref.ensures.value)

pub slice_bounds-result-start : goal.slice_bounds-result-start
slice_bounds-result-start c =
    let rs = c.self.inside.args.items in
    let es = c.self.inside.entries.items in
    let there : c.args.rank.0 < length (entry_trees rs es) =
    subst (λ t. c.args.rank.0 < length t.terms) (sym c.self.view_is) c.requires in
    let e = entry_read rs (entry_trees rs es) es c.args.rank.0 c.index-entry.result.now c.self.invariant.0 there
    c.index-entry.ensures in
    omega (arith, e.begins, e.ends, ap length c.deref.ensures.value)

pub slice_bounds-result-end : goal.slice_bounds-result-end
slice_bounds-result-end c =
    let rs = c.self.inside.args.items in
    let es = c.self.inside.entries.items in
    let there : c.args.rank.0 < length (entry_trees rs es) =
    subst (λ t. c.args.rank.0 < length t.terms) (sym c.self.view_is) c.requires in
    let e = entry_read rs (entry_trees rs es) es c.args.rank.0 c.index-entry.result.now c.self.invariant.0 there
    c.index-entry.ensures in
    omega (arith, e.begins, e.ends, ap length c.deref.ensures.value)

pub returns-clause-terms : goal.returns-clause-terms
returns-clause-terms c =
    let rs = c.self.inside.args.items in
    let es = c.self.inside.entries.items in
    let there : c.args.rank.0 < length (entry_trees rs es) =
    subst (λ t. c.args.rank.0 < length t.terms) (sym c.self.view_is) c.requires in
    let e = entry_read rs (entry_trees rs es) es c.args.rank.0 c.index-entry.result.now c.self.invariant.0 there
    c.index-entry.ensures in
    let part = slice_range c.deref.result.now c.index-entry.result.now.from c.index-entry.result.now.end in
    subst (λ t. terms_at t part ≡ arguments (term_at t c.args.rank)) c.self.view_is
    (rw c.deref.ensures.value e.args)

pub returns-clause-within : goal.returns-clause-within
returns-clause-within c =
    let rs = c.self.inside.args.items in
    let es = c.self.inside.entries.items in
    let there : c.args.rank.0 < length (entry_trees rs es) =
    subst (λ t. c.args.rank.0 < length t.terms) (sym c.self.view_is) c.requires in
    let e = entry_read rs (entry_trees rs es) es c.args.rank.0 c.index-entry.result.now c.self.invariant.0 there
    c.index-entry.ensures in
    let part = slice_range c.deref.result.now c.index-entry.result.now.from c.index-entry.result.now.end in
    subst (λ t. HasRanks t part) c.self.view_is (rw c.deref.ensures.value e.within)
