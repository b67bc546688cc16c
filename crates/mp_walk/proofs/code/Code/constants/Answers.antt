use Rattle.std.proofs.Common.{◌≡◌, ◌≤◌, ◌++◌, ◌∙◌, [], map, drop, append-nil, ap, sym, subst, arith}
use Rattle.std.proofs.lemmas.List.{drop_all}
use Rattle.std.specs.Prelude.{Contains}
use Rattle.mp_term.specs.Listing.{IsListing}
use Rattle.mp_term.specs.Order.{tree_cmp}
use Rattle.mp_term.specs.Size.{all_nodes}
use Rattle.mp_term.specs.View.{tree}
use Rattle.mp_table.specs.declared.limits.TheConstants.{MAX_CONSTANT_NODES}
use Rattle.mp_walk.specs.CodeConstants.{code_constants}
use Rattle.mp_walk.specs.InstrView.{plain_instr}
use Rattle.mp_walk.proofs.ConstantLaws.{code_constants-listed}
use Rattle.mp_walk.proofs.code.Code.constants.Goals as goal

pub returns-then-are_few : goal.returns-then-are_few
returns-then-are_few c = λ sig walkable.
    let code = c.args.self.now.instrs in
    let ts = c.in_ok-terms.terms in
    let found = map tree c.loop-instr.found.items in
    let none : drop c.loop-instr.instr-index c.as_slice-instr-items.result.now ≡ [] =
    drop_all c.loop-instr.instr-index c.as_slice-instr-items.result.now (omega arith) in
    let all : found ≡ code_constants code =
    sym (append-nil found) ∙ ap (λ is. found ++ code_constants (map plain_instr is)) (sym none)
    ∙ c.loop-instr.invariant ∙ ap code_constants c.as_slice-instr-items.ensures in
    code_constants-listed sig code ts walkable
    (subst (λ us. IsListing tree_cmp (Contains us) ts) all c.in_ok-terms.ensures)
    (subst (λ us. all_nodes us ≤ MAX_CONSTANT_NODES) c.as_slice.ensures (c.are_few.ensures c.if-are_few.true))
