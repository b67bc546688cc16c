use Rattle.std.proofs.Common.{rules, ◌≡◌, ◌∙◌, ap, sym, arith, true}
use Rattle.std.specs.Prelude.{position, bytes_eq}
use Rattle.mp_term.proofs.SignatureLaws.{position-map}
use Rattle.mp_term.proofs.FirstPlace.{position-found, position-absent}
use Rattle.mp_term.proofs.name_table.NameTable.look_for.Goals as goal

pub returns-in-loop-index-clause-index : goal.returns-in-loop-index-clause-index
returns-in-loop-index-clause-index c =
    let n = c.args.name.now in
    let same : bytes_eq n c.in-Some.own.now.items ≡ true = search rules in
    sym (position-found (λ k. bytes_eq n k.items) c.self.inside.names.keys c.loop-index.index c.in-Some.own.now
    c.loop-index.invariant (search rules) same)
    ∙ sym (position-map (bytes_eq n) (λ k. k.items) c.self.inside.names.keys)
    ∙ ap (position (bytes_eq n)) c.self.view_is

pub returns-clause-index : goal.returns-clause-index
returns-clause-index c =
    let n = c.args.name.now in
    sym (position-absent (λ k. bytes_eq n k.items) c.self.inside.names.keys
    (λ i h. c.loop-index.invariant i (omega (arith, h, c.loop-index-test.false, c.len-index-end.ensures))))
    ∙ sym (position-map (bytes_eq n) (λ k. k.items) c.self.inside.names.keys)
    ∙ ap (position (bytes_eq n)) c.self.view_is
