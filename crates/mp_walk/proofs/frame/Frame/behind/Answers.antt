use Rattle.std.proofs.Common.{◌∙◌, ap, sym}
use Rattle.std.proofs.lemmas.List.{drop-map, take_rest}
use Rattle.mp_table.specs.Table.{term_at, terms_at}
use Rattle.mp_walk.specs.OpenOnes.{open_of}
use Rattle.mp_walk.proofs.frame.Frame.behind.Goals as goal

pub returns-clause-open : goal.returns-clause-open
returns-clause-open c =
    let t = c.args.table.now in
    let n = c.args.count in
    let left = c.args.self.left.now in
    ap (λ ts. record (open_of t c.args.self) { left = ts })
    (ap (terms_at t) (take_rest left n) ∙ sym (drop-map (term_at t) n left))
