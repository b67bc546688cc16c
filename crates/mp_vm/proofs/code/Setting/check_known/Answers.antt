use Rattle.std.proofs.Common.{◌∷◌, ◌++◌, [], suc, map, length, reverse, take, ap, sym, ◌∙◌}
use Rattle.std.specs.Prelude.{Some, is_some}
use Rattle.mp_pattern.specs.NetTokenView.{net_token}
use Rattle.mp_walk.specs.InstrView.{plain_instr}
use Rattle.mp_program.specs.TokenPaths.{open_after, is_balanced}
use Rattle.mp_vm.specs.Known.{opened}
use Rattle.mp_vm.specs.Looks.{look_wildcard, where_true}
use Rattle.mp_vm.proofs.CodeLaws.{wrong-rules, wrong-balance, right-all, accept-met}
use Rattle.mp_vm.proofs.code.Setting.check_known.Goals as goal

pub returns-then-not-are_met-clause-faults : goal.returns-then-not-are_met-clause-faults
returns-then-not-are_met-clause-faults c = λ tests rules ks set g other.
    let s = c.args.self.now in
    let path = ks ++ net_token c.args.instr.now.token ∷ [] in
    let known = c.in_ok-add.ensures.known ks g.known c.if-not-branch.false in
    let right = c.in_ok-add.ensures.right ks g.known ∙ c.if-not-branch.false in
    let accepted = accept-met s.sig.now s.most tests rules path c.add.new.self s.needs.items c.deref.result.now
    c.deref-2.result.now c.args.instr.now.accepts c.as_slice.result.now c.are_met.result known set.needs
    c.are_met.ensures c.deref.ensures.value c.deref-2.ensures.value c.as_slice.ensures in
    wrong-rules s.sig.now s.most tests rules (suc (length (map plain_instr s.code.now))) c.args.line path
    (plain_instr c.args.instr.now) right (accepted ∙ c.if-not-are_met.true)

pub returns-then-not-branch-2-clause-faults : goal.returns-then-not-branch-2-clause-faults
returns-then-not-branch-2-clause-faults c = λ tests rules ks set g other.
    let s = c.args.self.now in
    let path = ks ++ net_token c.args.instr.now.token ∷ [] in
    let known = c.in_ok-add.ensures.known ks g.known c.if-not-branch.false in
    let right = c.in_ok-add.ensures.right ks g.known ∙ c.if-not-branch.false in
    let accepted = accept-met s.sig.now s.most tests rules path c.add.new.self s.needs.items c.deref.result.now
    c.deref-2.result.now c.args.instr.now.accepts c.as_slice.result.now c.are_met.result known set.needs
    c.are_met.ensures c.deref.ensures.value c.deref-2.ensures.value c.as_slice.ensures in
    let before = g.opens ∙ ap (λ v. Some (reverse (map (λ f. f.0) v.items))) (sym c.in_ok-add.ensures.open) in
    let opens = c.in_ok-nest.ensures.opens ks before
    ∙ ap (λ b. where_true b (opened c.nest.new.self)) c.if-not-branch-2.true in
    wrong-balance s.sig.now s.most tests rules (suc (length (map plain_instr s.code.now))) c.args.line path
    (plain_instr c.args.instr.now) right (accepted ∙ c.if-not-are_met.false)
    (ap (λ o. is_balanced o (is_some c.args.instr.now.down)) opens)

pub returns-then-not-is_balanced-clause-faults : goal.returns-then-not-is_balanced-clause-faults
returns-then-not-is_balanced-clause-faults c = λ tests rules ks set g other.
    let s = c.args.self.now in
    let path = ks ++ net_token c.args.instr.now.token ∷ [] in
    let known = c.in_ok-add.ensures.known ks g.known c.if-not-branch.false in
    let right = c.in_ok-add.ensures.right ks g.known ∙ c.if-not-branch.false in
    let accepted = accept-met s.sig.now s.most tests rules path c.add.new.self s.needs.items c.deref.result.now
    c.deref-2.result.now c.args.instr.now.accepts c.as_slice.result.now c.are_met.result known set.needs
    c.are_met.ensures c.deref.ensures.value c.deref-2.ensures.value c.as_slice.ensures in
    let before = g.opens ∙ ap (λ v. Some (reverse (map (λ f. f.0) v.items))) (sym c.in_ok-add.ensures.open) in
    let opens = c.in_ok-nest.ensures.opens ks before
    ∙ ap (λ b. where_true b (opened c.nest.new.self)) c.if-not-branch-2.false in
    let balance = c.is_balanced.ensures
    ∙ ap (λ os. is_balanced (Some (reverse (map (λ f. f.0) os))) c.is_some.result) c.deref-3.ensures.value
    ∙ ap (is_balanced (Some (opened c.nest.new.self))) c.is_some.ensures in
    wrong-balance s.sig.now s.most tests rules (suc (length (map plain_instr s.code.now))) c.args.line path
    (plain_instr c.args.instr.now) right (accepted ∙ c.if-not-are_met.false)
    (ap (λ o. is_balanced o (is_some c.args.instr.now.down)) opens ∙ sym balance ∙ c.if-not-is_balanced.true)

pub returns-clause-faults : goal.returns-clause-faults
returns-clause-faults c = λ tests rules ks set g.
    let s = c.args.self.now in
    let path = ks ++ net_token c.args.instr.now.token ∷ [] in
    let known = c.in_ok-add.ensures.known ks g.known c.if-not-branch.false in
    let right = c.in_ok-add.ensures.right ks g.known ∙ c.if-not-branch.false in
    let accepted = accept-met s.sig.now s.most tests rules path c.add.new.self s.needs.items c.deref.result.now
    c.deref-2.result.now c.args.instr.now.accepts c.as_slice.result.now c.are_met.result known set.needs
    c.are_met.ensures c.deref.ensures.value c.deref-2.ensures.value c.as_slice.ensures in
    let before = g.opens ∙ ap (λ v. Some (reverse (map (λ f. f.0) v.items))) (sym c.in_ok-add.ensures.open) in
    let opens = c.in_ok-nest.ensures.opens ks before
    ∙ ap (λ b. where_true b (opened c.nest.new.self)) c.if-not-branch-2.false in
    let balance = c.is_balanced.ensures
    ∙ ap (λ os. is_balanced (Some (reverse (map (λ f. f.0) os))) c.is_some.result) c.deref-3.ensures.value
    ∙ ap (is_balanced (Some (opened c.nest.new.self))) c.is_some.ensures in
    right-all s.sig.now s.most tests rules (suc (length (map plain_instr s.code.now))) c.args.line path
    (plain_instr c.args.instr.now) right (accepted ∙ c.if-not-are_met.false)
    (ap (λ o. is_balanced o (is_some c.args.instr.now.down)) opens ∙ sym balance ∙ c.if-not-is_balanced.false)

pub returns-clause-gathered : goal.returns-clause-gathered
returns-clause-gathered c = λ ks g.
    let s = c.args.self.now in
    let path = ks ++ net_token c.args.instr.now.token ∷ [] in
    let known = c.in_ok-add.ensures.known ks g.known c.if-not-branch.false in
    let before = g.opens ∙ ap (λ v. Some (reverse (map (λ f. f.0) v.items))) (sym c.in_ok-add.ensures.open) in
    record {
      known = c.in_ok-nest.ensures.known s.sig.now s.most path known;
      opens = c.in_ok-nest.ensures.opens ks before
          ∙ ap (λ b. where_true b (opened c.nest.new.self)) c.if-not-branch-2.false;
    }

pub returns-clause-more : goal.returns-clause-more
returns-clause-more c =
    let k = net_token c.args.instr.now.token in
    let n = length c.args.known.now.looks.items in
    record {
      looks = ap (λ v. take n (map look_wildcard v.items)) c.in_ok-nest.ensures.looks
          ∙ c.in_ok-add.ensures.looks c.if-not-branch.false;
      opens = ap (λ v. open_after (reverse (map (λ f. f.0) v.items)) k) (sym c.in_ok-add.ensures.open)
          ∙ c.in_ok-nest.ensures.one ∙ ap (λ b. where_true b (opened c.nest.new.self)) c.if-not-branch-2.false;
    }
