use Rattle.std.proofs.Common.{◌≡◌, ◌<◌, ◌-◌, ◌∙◌, ◌∷◌, ◌++◌, [], length, ap, sym, subst, arith}
use Rattle.std.specs.Prelude.{Some, slice_get}
use Rattle.mp_pattern.specs.NetTokenView.{net_token}
use Rattle.mp_ac.specs.Search.{table_of}
use Rattle.mp_walk.specs.Below.{below_table, unboxed}
use Rattle.mp_walk.specs.Course.{entries_by}
use Rattle.mp_walk.specs.Entries.{entry_read}
use Rattle.mp_walk.specs.Levels.{HasSearchIn, innermost_left, trail_before, search_of}
use Rattle.mp_walk.specs.OpenOnes.{IsPlaceBelow, open_of, opens}
use Rattle.mp_walk.proofs.EntryLaws.{entries-there, entry-below, none-below, none-own, search-over}
use Rattle.mp_walk.proofs.StepLaws.{frame_at, frame-there, opens-there}
use Rattle.mp_walk.proofs.entries.entry_in.Goals as goal

pub own_entry-requires : goal.own_entry-requires
own_entry-requires c =
    let fs = c.args.frames.now in
    let h : c.in-Some.place < length fs = subst (IsPlaceBelow (length fs)) c.in-Some.is c.requires.place in
    (c.requires.frames.1 c.in-Some.place (frame_at fs c.in-Some.place) (frame-there fs c.in-Some.place h)).frame

pub returns-in_default-own_entry : goal.returns-in_default-own_entry
returns-in_default-own_entry c = λ u.
    let t = c.args.table.now in
    let fs = c.args.frames.now in
    let l = c.args.level.now in
    let k = net_token c.args.token.now in
    let f = open_of t (frame_at fs c.in-Some.place) in
    let is = opens-there c.requires.frames.0 t fs c.requires.frames.1 l.place c.in-Some.place c.in-Some.is
    c.requires.place in
    let own = subst (λ w. entries_by k f w [] ≡ []) c.saturating_sub-way.ensures c.in_default-own_entry.ensures in
    let v = trail_before c.requires.search.0 l in
    let none = none-below t k (innermost_left (opens t fs l.place)) v (search_of l) c.requires.search.1
    (none-own k f (l.next - 1) own) in
    let same = ap length (entries-there t fs u l k v c.requires.search.1 f (opens t fs
    (frame_at fs c.in-Some.place).outer) is
    ∙ ap (λ T. T ++ below_table (search_of l)) own ∙ none) in
    omega (arith, same)

pub returns-then-node-eq0 : goal.returns-then-node-eq0
returns-then-node-eq0 c = λ u.
    let t = c.args.table.now in
    let fs = c.args.frames.now in
    let l = c.args.level.now in
    let k = net_token c.args.token.now in
    let f = open_of t (frame_at fs c.in-Some.place) in
    let is = opens-there c.requires.frames.0 t fs c.requires.frames.1 l.place c.in-Some.place c.in-Some.is
    c.requires.place in
    let d = entry_read t (c.in-Some-own_entry.own.0.now, c.in-Some-own_entry.own.1) in
    let own = subst (λ w. entries_by k f w [] ≡ d ∷ []) c.saturating_sub-way.ensures c.in-Some-own_entry.ensures.1 in
    let same = entries-there t fs u l k (trail_before c.requires.search.0 l) c.requires.search.1 f (opens t fs
    (frame_at fs c.in-Some.place).outer) is
    ∙ ap (λ T. T ++ below_table (search_of l)) own in
    let first : c.args.node ≡ 0 = c.if-node-eq0.true in (
      c.in-Some-own_entry.ensures.0,
      ap (slice_get _) first ∙ ap (λ T. slice_get T 0) same,
    )

pub returns-in-None : goal.returns-in-None
returns-in-None c = λ u.
    let t = c.args.table.now in
    let fs = c.args.frames.now in
    let l = c.args.level.now in
    let k = net_token c.args.token.now in
    let f = open_of t (frame_at fs c.in-Some.place) in
    let is = opens-there c.requires.frames.0 t fs c.requires.frames.1 l.place c.in-Some.place c.in-Some.is
    c.requires.place in
    let d = entry_read t (c.in-Some-own_entry.own.0.now, c.in-Some-own_entry.own.1) in
    let own = subst (λ w. entries_by k f w [] ≡ d ∷ []) c.saturating_sub-way.ensures c.in-Some-own_entry.ensures.1 in
    let same = ap length (entries-there t fs u l k (trail_before c.requires.search.0 l) c.requires.search.1 f
    (opens t fs (frame_at fs c.in-Some.place).outer) is
    ∙ ap (λ T. T ++ below_table (search_of l)) own ∙ ap (λ o. (d ∷ []) ++ below_table (unboxed o)) c.in-None.is) in
    let more = c.if-node-eq0.false in
    omega (arith, same, more)

pub below_entry-requires : goal.below_entry-requires
below_entry-requires c =
    let t = c.args.table.now in
    let l = c.args.level.now in
    let v = trail_before c.requires.search.0 l in (
      v,
      (search-over t (net_token c.args.token.now) (innermost_left (opens t c.args.frames.now l.place)) v
          c.deref.result.now
          (subst (λ o. HasSearchIn t (net_token c.args.token.now)
          (innermost_left (opens t c.args.frames.now l.place)) v o) (ap Some (sym c.deref.ensures))
          (subst (λ o. HasSearchIn t (net_token c.args.token.now)
          (innermost_left (opens t c.args.frames.now l.place)) v (unboxed o)) c.in-Some-search.is
          c.requires.search.1))).0,
    )

pub returns-in-Some-search : goal.returns-in-Some-search
returns-in-Some-search c = λ u.
    let t = c.args.table.now in
    let fs = c.args.frames.now in
    let l = c.args.level.now in
    let k = net_token c.args.token.now in
    let f = open_of t (frame_at fs c.in-Some.place) in
    let is = opens-there c.requires.frames.0 t fs c.requires.frames.1 l.place c.in-Some.place c.in-Some.is
    c.requires.place in
    let d = entry_read t (c.in-Some-own_entry.own.0.now, c.in-Some-own_entry.own.1) in
    let own = subst (λ w. entries_by k f w [] ≡ d ∷ []) c.saturating_sub-way.ensures c.in-Some-own_entry.ensures.1 in
    let v = trail_before c.requires.search.0 l in
    let same = entries-there t fs u l k v c.requires.search.1 f (opens t fs (frame_at fs c.in-Some.place).outer) is
    ∙ ap (λ T. T ++ below_table (search_of l)) own
    ∙ ap (λ o. (d ∷ []) ++ below_table (unboxed o)) c.in-Some-search.is
    ∙ ap (λ q. (d ∷ []) ++ below_table (Some q)) (sym c.deref.ensures) in
    let table = (search-over t k (innermost_left (opens t fs l.place)) v c.deref.result.now
    (subst (λ q. HasSearchIn t k (innermost_left (opens t fs l.place)) v (Some q)) (sym c.deref.ensures)
    (subst (λ o. HasSearchIn t k (innermost_left (opens t fs l.place)) v (unboxed o)) c.in-Some-search.is
    c.requires.search.1))).1 in
    let more = c.if-node-eq0.false in
    entry-below c.below_entry.result (λ e. (e.0.now, e.1)) (table_of c.deref.result.now) t
    (below_table (Some c.deref.result.now)) _ d c.args.node (c.args.node - 1) table same
    (omega (arith, more))
    c.below_entry.ensures
