use Rattle.std.proofs.Common.{◌≡◌, ◌<◌, ◌%◌, true, length, set, sym, ◌∙◌, subst}
use Rattle.std.proofs.lemmas.Nat.{mod_below}
use Rattle.mp_many.specs.Marks.{has_mark}
use Rattle.mp_many.proofs.MarkLaws.{some-marks, set-own}
use Rattle.mp_many.proofs.marks.set_mark.Goals as goal

pub returns-clause-own : goal.returns-clause-own
returns-clause-own c =
    let v = c.args.marks.now in
    let d = c.args.digest in
    let many : c.len-count.result ≡ length v.items = c.len-count.ensures ∙ v.ok.0 in
    let some : 0 < length v.items =
    subst (λ n. 0 < n) many (some-marks c.len-count.result c.if-count-eq0.false) in
    subst (λ n. has_mark (set v.items (d % n) true) d ≡ true) (sym many)
    (set-own v.items d some (mod_below d (length v.items) some))
