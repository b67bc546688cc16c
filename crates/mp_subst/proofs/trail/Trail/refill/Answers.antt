use Rattle.std.proofs.Common.{◌≡◌, ◌+◌, ◌++◌, take, drop, length, sym, ap, ◌∙◌}
use Rattle.mp_subst.specs.TrailView.{stack_of}
use Rattle.mp_subst.proofs.TrailViewLaws.{stack_of-written}
use Rattle.mp_subst.proofs.trail.Trail.refill.Goals as goal

pub returns : goal.returns
returns c =
    let t = c.other.inside in
    let es = t.entries.items in
    let rs = t.ranks.items in
    let ss = c.write_from.new.list.items in
    let rest = drop (0 + length (take t.used c.deref-2.result.now)) c.self.inside.ranks.items in
    let written : ss ≡ take t.used rs ++ rest =
    c.write_from.ensures.items ∙ ap (λ xs. take t.used xs ++ rest) c.deref-2.ensures.value in
    let stack : stack_of ss c.refill.new.list.items ≡ stack_of rs es =
    ap (stack_of ss) (c.refill.ensures.items ∙ c.deref.ensures.value)
    ∙ stack_of-written es rs ss rest t.used c.other.invariant.laid c.other.invariant.used written in
    let room : c.self.inside.room ≡ t.room =
    ap (λ u. u.room) c.self.view_is ∙ c.requires ∙ sym (ap (λ u. u.room) c.other.view_is) in
    ap (λ ds. record { vars = t.vars; room = c.self.inside.room; spare = t.spare; stack = ds }) stack
    ∙ ap (λ n. record { vars = t.vars; room = n; spare = t.spare; stack = stack_of rs es }) room ∙ c.other.view_is
