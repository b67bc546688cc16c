use Rattle.std.proofs.Common.{◌&&◌, ◌||◌, ap, arith, sym, ◌∙◌, ◌+◌, ◌≡◌, true, false}
use Rattle.mp_pattern.specs.CondSize.{all_cond_nodes}
use Rattle.mp_pattern.specs.CondView.{cond_tree}
use Rattle.mp_pattern.specs.Holds.{holds, all_hold, some_holds}
use Rattle.mp_cond.proofs.Parts.{behind, behind-cut, all_behind-cut}
use Rattle.mp_cond.proofs.condition.+holds.Goals as goal

pub all_hold-holds_of-requires : goal.all_hold-holds_of-requires
all_hold-holds_of-requires g t c =
    let l = c.loop-part in
    let xs = c.args.parts.now in
    let x = c.part-item.result in
    let cut = behind-cut cond_tree xs l.part-index x c.loop-part-test.true c.part-item.is in
    let ready = all_behind-cut cond_tree xs (g.V.Values.is_ready c.args.values.now) l.part-index x
    c.loop-part-test.true c.part-item.is l.invariant.ready in
    (λ κs lives. (omega (arith, c.decreases, ap all_cond_nodes cut, l.invariant.smaller), (lives, ready.0)))

pub all_hold-loop-part-preserved : goal.all_hold-loop-part-preserved
all_hold-loop-part-preserved g t c =
    let l = c.loop-part in
    let xs = c.args.parts.now in
    let x = c.part-item.result in
    let s = g.V.Values.subst c.args.values.now in
    let hold = all_hold c.args.sig.now s in
    let held : true ≡ holds c.args.sig.now s (cond_tree x) = sym c.if-not-holds_of.false ∙ c.holds_of.ensures in
    let cut = behind-cut cond_tree xs l.part-index x c.loop-part-test.true c.part-item.is in
    record {
      ready = (all_behind-cut cond_tree xs (g.V.Values.is_ready c.args.values.now) l.part-index x
          c.loop-part-test.true c.part-item.is l.invariant.ready).1;
      smaller = omega (arith, ap all_cond_nodes cut, l.invariant.smaller);
      rest = ap (λ b. b && hold (behind cond_tree xs (l.part-index + 1))) held ∙ sym (ap hold cut) ∙ l.invariant.rest;
    }

pub some_holds-holds_of-requires : goal.some_holds-holds_of-requires
some_holds-holds_of-requires g t c =
    let l = c.loop-part in
    let xs = c.args.parts.now in
    let x = c.part-item.result in
    let cut = behind-cut cond_tree xs l.part-index x c.loop-part-test.true c.part-item.is in
    let ready = all_behind-cut cond_tree xs (g.V.Values.is_ready c.args.values.now) l.part-index x
    c.loop-part-test.true c.part-item.is l.invariant.ready in
    (λ κs lives. (omega (arith, c.decreases, ap all_cond_nodes cut, l.invariant.smaller), (lives, ready.0)))

pub some_holds-loop-part-preserved : goal.some_holds-loop-part-preserved
some_holds-loop-part-preserved g t c =
    let l = c.loop-part in
    let xs = c.args.parts.now in
    let x = c.part-item.result in
    let s = g.V.Values.subst c.args.values.now in
    let hold = some_holds c.args.sig.now s in
    let held : false ≡ holds c.args.sig.now s (cond_tree x) = sym c.if-holds_of.false ∙ c.holds_of.ensures in
    let cut = behind-cut cond_tree xs l.part-index x c.loop-part-test.true c.part-item.is in
    record {
      ready = (all_behind-cut cond_tree xs (g.V.Values.is_ready c.args.values.now) l.part-index x
          c.loop-part-test.true c.part-item.is l.invariant.ready).1;
      smaller = omega (arith, ap all_cond_nodes cut, l.invariant.smaller);
      rest = ap (λ b. b || hold (behind cond_tree xs (l.part-index + 1))) held ∙ sym (ap hold cut) ∙ l.invariant.rest;
    }
