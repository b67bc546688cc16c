use Rattle.std.proofs.Common.{◌≡◌, ◌≤◌, ◌-◌, length, ap, ◌∙◌, subst}
use Rattle.std.specs.Prelude.{slice_index_or}
use Rattle.mp_walk.proofs.ViewLaws.{last-index, not-zero}
use Rattle.mp_walk.proofs.course.Course.last_number.Goals as goal

pub returns : goal.returns
returns c =
    let v = c.args.self.now.levels in
    let many : c.len-count.result ≡ length v.items = c.len-count.ensures ∙ v.ok.0 in
    ap (λ l. l.instr) c.index.ensures
    ∙ ap (λ n. (slice_index_or v.items (n - 1) c.index.result.now).instr) many
    ∙ last-index v.items c.index.result.now (subst (λ n. 1 ≤ n) many (not-zero c.len-count.result c.if-count-eq0.false))
