use Rattle.std.proofs.Common.{◌≡◌, ◌∙◌, subst, sym}
use Rattle.std.specs.Prelude.{Some, None, true, MatchBool}
use Rattle.mp_pattern.specs.View.{pattern_tree, wildcard}
use Rattle.mp_table.specs.Table.{term_at}
use Rattle.mp_theory.specs.Shape.{suits}
use Rattle.mp_theory.specs.Filled.{bound}
use Rattle.mp_net.specs.Walk.{visits, IsRead, taken_subst}
use Rattle.mp_net.proofs.WalkLaws.{wild-read, wild-filled, seen-first}
use Rattle.mp_net.proofs.taken.+follow.Goals as goal

pub follow-returns-else-not-branch-clause-found : goal.follow-returns-else-not-branch-clause-found
follow-returns-else-not-branch-clause-found m c = λ t rest h.
    let tb = c.args.table.now in
    let s = c.seen-item.result in
    let old = taken_subst tb c.args.taken.now.items in
    let new = taken_subst tb c.bind.new.taken.items in
    let k = subst (λ p. IsRead (pattern_tree p) t (visits tb c.args.trace.now) rest) c.in-Wild.is h in
    let r = wild-read tb (wildcard c.in-Wild.shape) c.in-Wild.name t c.args.trace.now s rest
    c.in-len1-up.len_at_least c.seen-item.is k in
    let here = seen-first tb c.args.trace.now s c.requires.seen c.in-len1-up.len_at_least c.seen-item.is in
    let kinds = sym (c.suits.ensures (term_at tb s.rank) here.1) ∙ c.if-not-suits.false in
    let A = bound c.in-Wild.name (term_at tb s.rank) old in
    let told = subst (λ b. MatchBool b (A ≡ Some new) (A ≡ None)) c.if-not-branch.false
    c.in_ok-bind-in-Wild.ensures.bound in (
      rw c.in-Wild.is (wild-filled c.args.sig.now (wildcard c.in-Wild.shape) c.in-Wild.name t old new
          (subst (λ u. suits c.args.sig.now (wildcard c.in-Wild.shape) u ≡ true) r.0 kinds)
          (subst (λ u. bound c.in-Wild.name u old ≡ Some new) r.0 told)),
      r.1,
    )
