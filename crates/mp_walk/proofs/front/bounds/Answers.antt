use Rattle.std.proofs.Common.{◌≡◌, ◌≤◌, length, take, ap, ◌∙◌, subst, arith}
use Rattle.std.proofs.Common.{inl, inr}
use Rattle.std.proofs.lemmas.List.{length-map, length-take-le}
use Rattle.mp_table.specs.Table.{term_at}
use Rattle.mp_pattern.specs.NetTokenView.{net_token}
use Rattle.mp_walk.specs.OpenOnes.{open_of}
use Rattle.mp_ac.specs.Numbered.{numbered_subst}
use Rattle.mp_walk.specs.Trails.{shape_of, number_of}
use Rattle.mp_walk.specs.Ways.{way_steps}
use Rattle.mp_walk.proofs.ListLaws.{take-short}
use Rattle.mp_walk.proofs.WayLaws.{wild-clash, wild-beyond, too-few, too-many}
use Rattle.mp_walk.proofs.front.bounds.Goals as goal
use Rattle.mp_term.proofs.TestLaws.{below_or_not}

pub returns-in-Some-clause-fewest : goal.returns-in-Some-clause-fewest
returns-in-Some-clause-fewest c fs n l =
    let k = net_token c.args.token.now in
    let sig = c.args.sig.now in
    let t = c.args.table.now in
    let f = open_of t c.args.frame.now in
    let s = numbered_subst t c.args.trail.now.stack in
    ap (λ j. way_steps sig f fs s j n) c.requires.wild ∙ wild-clash sig f fs s (shape_of k) (number_of k) n
    (c.in-Some.ensures sig t f.under (take n f.left) c.requires.ordered
    (λ e. omega (arith, e, l, take-short n f.left)))

pub returns-in-Some-clause-longest : goal.returns-in-Some-clause-longest
returns-in-Some-clause-longest c fs n l =
    let k = net_token c.args.token.now in
    let sig = c.args.sig.now in
    let t = c.args.table.now in
    let f = open_of t c.args.frame.now in
    let s = numbered_subst t c.args.trail.now.stack in
    let many : length f.left ≡ length c.args.frame.now.left.now = length-map c.args.frame.now.left.now (term_at t) in
    ap (λ j. way_steps sig f fs s j n) c.requires.wild ∙ elim (below_or_not (length f.left) n) [
      | inl h ↦ wild-beyond sig f fs s (shape_of k) (number_of k) n h
      | inr h ↦ wild-clash sig f fs s (shape_of k) (number_of k) n
          (c.in-Some.ensures sig t f.under (take n f.left) c.requires.ordered
          (λ e. omega (arith, e, l, many, c.min.ensures, length-take-le n f.left (omega (arith, h)))))
    ]

pub returns-in-None-clause-fewest : goal.returns-in-None-clause-fewest
returns-in-None-clause-fewest c fs n l =
    let k = net_token c.args.token.now in
    let sig = c.args.sig.now in
    let f = open_of c.args.table.now c.args.frame.now in
    let s = numbered_subst c.args.table.now c.args.trail.now.stack in
    ap (λ j. way_steps sig f fs s j n) c.requires.wild
    ∙ too-few sig f fs s (shape_of k) (number_of k) c.least.result
    (λ ts e. c.least.ensures (shape_of k) (number_of k) c.requires.wild sig f.under ts e) n l

pub returns-in-None-clause-longest : goal.returns-in-None-clause-longest
returns-in-None-clause-longest c fs n l =
    let k = net_token c.args.token.now in
    let sig = c.args.sig.now in
    let t = c.args.table.now in
    let f = open_of t c.args.frame.now in
    let s = numbered_subst t c.args.trail.now.stack in
    let many : length f.left ≡ length c.args.frame.now.left.now = length-map c.args.frame.now.left.now (term_at t) in
    ap (λ j. way_steps sig f fs s j n) c.requires.wild
    ∙ too-many sig f fs s (shape_of k) (number_of k) c.most.result
    (λ ts m e. c.most.ensures.most (shape_of k) (number_of k) c.requires.wild ts
    (subst (λ b. length ts ≤ b) many m) e) n l
