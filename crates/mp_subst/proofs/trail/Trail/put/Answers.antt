use Rattle.std.proofs.Common.{◌≡◌, ◌≤◌, ◌+◌, ◌-◌, ◌++◌, ◌∷◌, [], length, take, drop}
use Rattle.std.proofs.Common.{refl, sym, ap, ◌∙◌, subst, arith}
use Rattle.std.proofs.lemmas.List.{length-append, length-take-le}
use Rattle.mp_subst.specs.declared.trail.Entry.{Entry}
use Rattle.mp_subst.specs.Bound.{bound_of}
use Rattle.mp_subst.specs.Trail.{with_entry}
use Rattle.mp_subst.specs.TrailView.{stack_of, Laid, HasRoom, AreLast, AreEarlier}
use Rattle.mp_subst.proofs.TrailViewLaws.{laid-put, room-put, stack_of-put}
use Rattle.mp_subst.proofs.LastLaws.{numbers-put}
use Rattle.mp_subst.proofs.trail.Trail.put.Goals as goal

pub invariant_of-self : goal.invariant_of-self
invariant_of-self c =
    let t = c.self.inside in
    let es = t.entries.items in
    let rs = t.ranks.items in
    let ks = t.last in
    let ns = c.args.value.now.ranks.now in
    let i = c.self.invariant in
    let x = c.args.var in
    let rest = drop (t.used + length ns) rs in
    let e : Entry = record {
      var = x;
      form = c.args.value.now.form;
      wrap = c.args.value.now.wrap;
      start = t.used;
      end = t.used + length ns;
      before = t.used;
      spare = t.spare;
      earlier = c.set_number-earlier.result;
    } in
    let items : c.push_reserved.new.self.items ≡ es ++ e ∷ [] = c.push_reserved.ensures.items in
    let ranks : c.write_from.new.list.items ≡ take t.used rs ++ (ns ++ rest) = c.write_from.ensures.items in
    let many : length c.push_reserved.new.self.items ≡ length es + 1 = ap length items ∙ length-append es (e ∷ []) in
    let front : length (take t.used rs) ≡ t.used = length-take-le t.used rs i.used in
    let wide : length c.write_from.new.list.items ≡ length (take t.used rs) + (length ns + length rest) =
    ap length ranks ∙ length-append (take t.used rs) (ns ++ rest)
    ∙ ap (λ n. length (take t.used rs) + n) (length-append ns rest) in
    let enough : length ns + 1 ≤ t.spare = subst (λ u. length ns + 1 ≤ u.spare) (sym c.self.view_is) c.requires in
    let number : c.len.result + 1 ≡ length es + 1 = ap (λ n. n + 1) (c.len.ensures ∙ t.entries.ok.0) in
    let ls = c.set_number-earlier.new.last in
    let numbers = numbers-put ks ls es e (c.len.result + 1) number c.set_number-earlier.ensures.after
    c.set_number-earlier.ensures.before i.last i.earlier in
    record {
      laid = subst (λ xs. Laid xs (t.used + length ns)) (sym items)
          (laid-put es t.used (t.used + length ns) e i.laid refl (omega arith) (omega arith, omega arith));
      used = omega (arith, wide, front);
      entries_room = omega (arith, i.entries_room, many, enough);
      ranks_room = omega (arith, i.ranks_room, enough);
      entries_capacity = omega (arith, i.entries_capacity, c.push_reserved.ensures.capacity);
      ranks_capacity = omega (arith, i.ranks_capacity, c.write_from.ensures.capacity);
      rooms = subst (λ xs. HasRoom 0 xs t.room) (sym items)
          (room-put 0 es t.room e i.rooms (omega (arith, i.entries_room)) (omega (arith, i.ranks_room)));
      last = subst (AreLast ls) (sym items) numbers.0;
      earlier = subst (AreEarlier (length ls)) (sym items) numbers.1;
    }

pub returns : goal.returns
returns c =
    let t = c.self.inside in
    let es = t.entries.items in
    let rs = t.ranks.items in
    let b = bound_of c.args.value.now in
    let ns = b.ranks in
    let i = c.self.invariant in
    let e : Entry = record {
      var = c.args.var;
      form = c.args.value.now.form;
      wrap = c.args.value.now.wrap;
      start = t.used;
      end = t.used + length ns;
      before = t.used;
      spare = t.spare;
      earlier = c.set_number-earlier.result;
    } in
    let stack : stack_of c.write_from.new.list.items c.push_reserved.new.self.items
    ≡ stack_of rs es ++ record { var = c.args.var; value = b; spare = t.spare } ∷ [] =
    ap (stack_of c.write_from.new.list.items) c.push_reserved.ensures.items
    ∙ stack_of-put es rs c.write_from.new.list.items ns (drop (t.used + length ns) rs) t.used e i.laid i.used
    c.write_from.ensures.items refl refl in
    ap (λ ds. record { vars = t.vars; room = t.room; spare = t.spare - (length ns + 1); stack = ds }) stack
    ∙ ap (λ u. with_entry u c.args.var b (length ns + 1)) c.self.view_is
