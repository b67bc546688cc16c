use Rattle.std.proofs.Common.{◌≡◌, ◌≤◌, ◌<◌, length, ap, ◌∙◌, subst, arith}
use Rattle.std.proofs.lemmas.Bool.Decides.{nat_tests}
use Rattle.std.proofs.lemmas.List.{length-map}
use Rattle.mp_table.specs.Table.{term_at}
use Rattle.mp_pattern.specs.NetTokenView.{net_token}
use Rattle.mp_walk.specs.OpenOnes.{open_of}
use Rattle.mp_walk.specs.Trails.{shape_of, number_of}
use Rattle.mp_walk.specs.Ways.{way_steps}
use Rattle.mp_walk.proofs.WayLaws.{too-many}
use Rattle.mp_walk.proofs.front.is_behind.Goals as goal

pub returns-clause-none : goal.returns-clause-none
returns-clause-none c h fs s n l =
    let k = net_token c.args.token.now in
    let sig = c.args.sig.now in
    let t = c.args.table.now in
    let f = open_of t c.args.frame.now in
    let many : length f.left ≡ length c.args.frame.now.left.now = length-map c.args.frame.now.left.now (term_at t) in
    let less : c.most.result < n = grind (arith, nat_tests, h, l) in
    ap (λ j. way_steps sig f fs s j n) c.requires.wild
    ∙ too-many sig f fs s (shape_of k) (number_of k) c.most.result
    (λ ts m e. c.most.ensures.most (shape_of k) (number_of k) c.requires.wild ts
    (subst (λ b. length ts ≤ b) many m) e) n less
