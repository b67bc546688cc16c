use Rattle.std.proofs.Common.{◌≡◌, ◌≤◌, ◌<◌, ◌+◌, ◌-◌, ◌++◌, ◌∷◌, [], length}
use Rattle.std.proofs.Common.{refl, sym, ap, ◌∙◌, subst, arith}
use Rattle.std.specs.Prelude.{slice_get, Some}
use Rattle.std.proofs.lemmas.List.{length-append, length-map, map_push}
use Rattle.mp_subst.specs.declared.trail.Entry.{Entry}
use Rattle.mp_subst.specs.Trail.{with_entry}
use Rattle.mp_subst.specs.TrailView.{entry_value, trail_entry, stack_of, IsWithin, Laid, HasRoom, AreLast, AreEarlier}
use Rattle.mp_subst.proofs.TrailViewLaws.{laid-put, room-put, within-at, entry-at}
use Rattle.mp_subst.proofs.LastLaws.{numbers-put}
use Rattle.mp_subst.proofs.trail.Trail.put_again.Goals as goal

pub invariant_of-self : goal.invariant_of-self
invariant_of-self c =
    let t = c.self.inside in
    let es = t.entries.items in
    let rs = t.ranks.items in
    let ks = t.last in
    let i = c.self.invariant in
    let x = c.args.var in
    let d = c.index-old.result.now in
    let place : c.args.place < length es =
    omega (
      arith,
      subst (λ u. c.args.place < length u.stack) (sym c.self.view_is) c.requires.place,
      length-map es (trail_entry rs),
    ) in
    let e : Entry = record {
      var = x;
      form = d.form;
      wrap = d.wrap;
      start = d.start;
      end = d.end;
      before = t.used;
      spare = t.spare;
      earlier = c.set_number-earlier.result;
    } in
    let within : IsWithin t.used e =
    subst (IsWithin t.used) (sym c.index-old.ensures) (within-at es t.used c.args.place d i.laid place) in
    let items : c.push_reserved.new.self.items ≡ es ++ e ∷ [] = c.push_reserved.ensures.items in
    let many : length c.push_reserved.new.self.items ≡ length es + 1 = ap length items ∙ length-append es (e ∷ []) in
    let enough : 1 ≤ t.spare = subst (λ u. 1 ≤ u.spare) (sym c.self.view_is) c.requires.room in
    let number : c.len.result + 1 ≡ length es + 1 = ap (λ n. n + 1) (c.len.ensures ∙ t.entries.ok.0) in
    let ls = c.set_number-earlier.new.last in
    let numbers = numbers-put ks ls es e (c.len.result + 1) number c.set_number-earlier.ensures.after
    c.set_number-earlier.ensures.before i.last i.earlier in
    record {
      laid = subst (λ xs. Laid xs t.used) (sym items)
          (laid-put es t.used t.used e i.laid refl (omega arith) within);
      used = i.used;
      entries_room = omega (arith, i.entries_room, many, enough);
      ranks_room = omega (arith, i.ranks_room);
      entries_capacity = omega (arith, i.entries_capacity, c.push_reserved.ensures.capacity);
      ranks_capacity = i.ranks_capacity;
      rooms = subst (λ xs. HasRoom 0 xs t.room) (sym items)
          (room-put 0 es t.room e i.rooms (omega (arith, i.entries_room)) (omega (arith, i.ranks_room)));
      last = subst (AreLast ls) (sym items) numbers.0;
      earlier = subst (AreEarlier (length ls)) (sym items) numbers.1;
    }

pub returns : goal.returns
returns c e h =
    let t = c.self.inside in
    let es = t.entries.items in
    let rs = t.ranks.items in
    let d = c.index-old.result.now in
    let n : Entry = record {
      var = c.args.var;
      form = d.form;
      wrap = d.wrap;
      start = d.start;
      end = d.end;
      before = t.used;
      spare = t.spare;
      earlier = c.set_number-earlier.result;
    } in
    let there : slice_get (stack_of rs es) c.args.place ≡ Some e =
    subst (λ u. slice_get u.stack c.args.place ≡ Some e) (sym c.self.view_is) h in
    let value : entry_value rs d ≡ e.value =
    ap (entry_value rs) c.index-old.ensures ∙ sym (ap (λ x. x.value) (entry-at rs es c.args.place d e there)) in
    let stack : stack_of rs c.push_reserved.new.self.items
    ≡ stack_of rs es ++ record { var = c.args.var; value = e.value; spare = t.spare } ∷ [] =
    ap (stack_of rs) c.push_reserved.ensures.items ∙ map_push (trail_entry rs) es n
    ∙ ap (λ b. stack_of rs es ++ record { var = c.args.var; value = b; spare = t.spare } ∷ []) value in
    ap (λ ds. record { vars = t.vars; room = t.room; spare = t.spare - 1; stack = ds }) stack
    ∙ ap (λ u. with_entry u c.args.var e.value 1) c.self.view_is
