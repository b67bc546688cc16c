use Rattle.std.proofs.Common.{◌≡◌, ◌≤◌, ◌<◌, ℕ, length, take, get_or, sym, ap, ◌∙◌, subst, arith}
use Rattle.std.specs.Prelude.{slice_get, option_map, Some, None}
use Rattle.std.proofs.lemmas.List.{length-take-le, length-map, take-map}
use Rattle.std.proofs.lemmas.Option.{slice_get-get_or, slice_get-map}
use Rattle.mp_subst.specs.Trail.{cut, spare_at, GoesWith}
use Rattle.mp_subst.specs.TrailView.{trail_entry, stack_of, trail_view, Laid, HasRoom, AreLast, AreEarlier}
use Rattle.mp_subst.proofs.TrailLaws.{cut-whole, goes_with-cut}
use Rattle.mp_subst.proofs.TrailViewLaws.{laid-take, room-take}
use Rattle.mp_subst.proofs.LastLaws.{are_earlier-take}
use Rattle.mp_subst.proofs.trail.Trail.undo.Goals as goal

pub take_back-requires-clause-last : goal.take_back-requires-clause-last
take_back-requires-clause-last c =
    subst (AreLast c.self.inside.last) (sym c.deref.ensures.value) c.self.invariant.last

pub take_back-requires-clause-earlier : goal.take_back-requires-clause-earlier
take_back-requires-clause-earlier c =
    subst (AreEarlier (length c.self.inside.last)) (sym c.deref.ensures.value) c.self.invariant.earlier

pub invariant_of-self : goal.invariant_of-self
invariant_of-self c =
    let t = c.self.inside in
    let es = t.entries.items in
    let i = c.self.invariant in
    let m = c.args.mark.length in
    let d = c.index-entry.result.now in
    let at : d ≡ get_or es m d = c.index-entry.ensures in
    let h : m < length es = omega (arith, c.if-mark-len.true, c.len.ensures, t.entries.ok.0) in
    let l = laid-take es t.used m d h i.laid in
    let r = room-take 0 es t.room m d h i.rooms in
    let entries : c.truncate.new.self.items ≡ take m es = c.truncate.ensures.items in
    let many : length c.truncate.new.self.items ≡ m = ap length entries ∙ length-take-le m es (omega (arith, h)) in
    let spare : d.spare ≡ (get_or es m d).spare = ap (λ e. e.spare) at in
    let before : d.before ≡ (get_or es m d).before = ap (λ e. e.before) at in
    record {
      laid = subst (λ n. Laid c.truncate.new.self.items n) (sym before)
          (subst (λ xs. Laid xs (get_or es m d).before) (sym entries) l.0);
      used = omega (arith, l.1, i.used, before);
      entries_room = omega (arith, r.1, many, spare);
      ranks_room = omega (arith, r.2, before, spare);
      entries_capacity = omega (arith, i.entries_capacity, c.truncate.ensures.capacity);
      ranks_capacity = i.ranks_capacity;
      rooms = subst (λ xs. HasRoom 0 xs t.room) (sym entries) r.0;
      last = subst (AreLast c.take_back.new.last) (ap (take m) c.deref.ensures.value ∙ sym entries)
          c.take_back.ensures.last;
      earlier = subst (λ n. AreEarlier n c.truncate.new.self.items) (sym c.take_back.ensures.count)
          (subst (AreEarlier (length t.last)) (sym entries)
          (are_earlier-take (length t.last) es m (omega (arith, h)) i.earlier));
    }

pub returns-then-mark-len-clause-trail : goal.returns-then-mark-len-clause-trail
returns-then-mark-len-clause-trail c =
    let t = c.self.inside in
    let es = t.entries.items in
    let rs = t.ranks.items in
    let m = c.args.mark.length in
    let d = c.index-entry.result.now in
    let at : d ≡ get_or es m d = c.index-entry.ensures in
    let h : m < length es = omega (arith, c.if-mark-len.true, c.len.ensures, t.entries.ok.0) in
    let stack : stack_of rs c.truncate.new.self.items ≡ take m (stack_of rs es) =
    ap (stack_of rs) c.truncate.ensures.items ∙ sym (take-map (trail_entry rs) m es) in
    let there : slice_get (stack_of rs es) m ≡ Some (trail_entry rs (get_or es m d)) =
    slice_get-map (trail_entry rs) es m ∙ ap (option_map (trail_entry rs)) (slice_get-get_or es m d h) in
    let spare : d.spare ≡ spare_at (trail_view t) m =
    ap (λ e. e.spare) at ∙ sym (ap (λ o. elim o as (λ _. ℕ) [ None ↦ t.spare | Some e ↦ e.spare ]) there) in
    ap (λ ds. record { vars = t.vars; room = t.room; spare = d.spare; stack = ds }) stack
    ∙ ap (λ n. record { vars = t.vars; room = t.room; spare = n; stack = take m (stack_of rs es) }) spare
    ∙ ap (cut m) c.self.view_is

pub returns-then-mark-len-clause-goes_with : goal.returns-then-mark-len-clause-goes_with
returns-then-mark-len-clause-goes_with c table g =
    subst (GoesWith table) (sym (returns-then-mark-len-clause-trail c))
    (goes_with-cut c.args.self.now table c.args.mark.length g)

pub returns-else-mark-len-clause-trail : goal.returns-else-mark-len-clause-trail
returns-else-mark-len-clause-trail c =
    let t = c.self.inside in
    let long : length t.entries.items ≤ c.args.mark.length =
    omega (arith, c.if-mark-len.false, c.len.ensures, t.entries.ok.0) in
    let same : length c.args.self.now.stack ≡ length t.entries.items =
    sym (ap (λ u. length u.stack) c.self.view_is) ∙ length-map t.entries.items (trail_entry t.ranks.items) in
    let whole : c.args.mark.length ≡ length c.args.self.now.stack = omega (arith, long, same, c.requires) in
    sym (ap (λ n. cut n c.args.self.now) whole ∙ cut-whole c.args.self.now)
