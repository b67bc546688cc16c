use Rattle.std.proofs.Common.{◌≡◌, ◌++◌, ◌+◌, [], ◌∷◌, map, drop, sym, ap, ap₂, ◌∙◌, arith, append_assoc}
use Rattle.mp_term.proofs.ListLaws.{drop-item}
use Rattle.mp_pattern.specs.CondSize.{cond_nodes, cond_list_nodes}
use Rattle.mp_pattern.specs.CondTree.{amounts, same, less, free, of_kind, headed, negation, all_of, any_of, conds}
use Rattle.mp_pattern.specs.CondView.{cond_tree}
use Rattle.mp_program.specs.ProgramOf.{renamed_cond}
use Rattle.mp_program.proofs.TestLaws.{renamed_conds-map}
use Rattle.mp_program.proofs.renamed.+renamed_cond.Goals as goal

pub renamed_cond-returns-in_ok-m-in-Amounts : goal.renamed_cond-returns-in_ok-m-in-Amounts
renamed_cond-returns-in_ok-m-in-Amounts t c =
    ap₂ (λ m n. amounts m c.in-Amounts.sense n) c.in_ok-m-in-Amounts.ensures.first
    c.in_ok-m-in-Amounts.ensures.second
    ∙ sym (ap (λ s. renamed_cond c.args.names.now (cond_tree s)) c.in-Amounts.is)

pub renamed_cond-returns-in_ok-a-in-Same : goal.renamed_cond-returns-in_ok-a-in-Same
renamed_cond-returns-in_ok-a-in-Same t c =
    ap₂ (λ a b. same a b) c.in_ok-a-in-Same.ensures.first c.in_ok-a-in-Same.ensures.second
    ∙ sym (ap (λ s. renamed_cond c.args.names.now (cond_tree s)) c.in-Same.is)

pub renamed_cond-returns-in_ok-a-in-Less : goal.renamed_cond-returns-in_ok-a-in-Less
renamed_cond-returns-in_ok-a-in-Less t c =
    ap₂ (λ a b. less a b) c.in_ok-a-in-Less.ensures.first c.in_ok-a-in-Less.ensures.second
    ∙ sym (ap (λ s. renamed_cond c.args.names.now (cond_tree s)) c.in-Less.is)

pub renamed_cond-returns-in_ok-a-in-Free : goal.renamed_cond-returns-in_ok-a-in-Free
renamed_cond-returns-in_ok-a-in-Free t c =
    ap₂ (λ a b. free a b) c.in_ok-a-in-Free.ensures.first c.in_ok-a-in-Free.ensures.second
    ∙ sym (ap (λ s. renamed_cond c.args.names.now (cond_tree s)) c.in-Free.is)

pub renamed_cond-returns-in_ok-renamed_operand-in-OfKind : goal.renamed_cond-returns-in_ok-renamed_operand-in-OfKind
renamed_cond-returns-in_ok-renamed_operand-in-OfKind t c =
    ap (λ a. of_kind a c.in-OfKind.kind.0) c.in_ok-renamed_operand-in-OfKind.ensures
    ∙ sym (ap (λ s. renamed_cond c.args.names.now (cond_tree s)) c.in-OfKind.is)

pub renamed_cond-returns-in_ok-renamed_operand-in-Headed : goal.renamed_cond-returns-in_ok-renamed_operand-in-Headed
renamed_cond-returns-in_ok-renamed_operand-in-Headed t c =
    ap (λ a. headed a c.in-Headed.op.0) c.in_ok-renamed_operand-in-Headed.ensures
    ∙ sym (ap (λ s. renamed_cond c.args.names.now (cond_tree s)) c.in-Headed.is)

pub renamed_cond-renamed_cond-requires : goal.renamed_cond-renamed_cond-requires
renamed_cond-renamed_cond-requires t c =
    let inside : cond_nodes (cond_tree c.get.result.now) ≡ cond_nodes c.in-Not.part = ap cond_nodes c.get.ensures in
    let whole : cond_nodes (cond_tree c.args.cond.now) ≡ cond_nodes c.in-Not.part + 1 =
    ap (λ s. cond_nodes (cond_tree s)) c.in-Not.is in
    (omega (arith, c.decreases, inside, whole), tt)

pub renamed_cond-returns-in_ok-new-in-Not : goal.renamed_cond-returns-in_ok-new-in-Not
renamed_cond-returns-in_ok-new-in-Not t c =
    ap negation (c.in_ok-new-in-Not.ensures ∙ c.in_ok-part-in-Not.ensures
    ∙ ap (renamed_cond c.args.names.now) c.get.ensures)
    ∙ sym (ap (λ s. renamed_cond c.args.names.now (cond_tree s)) c.in-Not.is)

pub renamed_cond-renamed_conds-requires : goal.renamed_cond-renamed_conds-requires
renamed_cond-renamed_conds-requires t c =
    let inside : cond_list_nodes (map cond_tree c.as_slice.result.now) ≡ cond_list_nodes c.in-All.parts =
    ap cond_list_nodes c.as_slice.ensures in
    let whole : cond_nodes (cond_tree c.args.cond.now) ≡ cond_list_nodes c.in-All.parts + 1 =
    ap (λ s. cond_nodes (cond_tree s)) c.in-All.is in
    (omega (arith, c.decreases, inside, whole), tt)

pub renamed_cond-returns-in_ok-renamed_conds-in-All : goal.renamed_cond-returns-in_ok-renamed_conds-in-All
renamed_cond-returns-in_ok-renamed_conds-in-All t c =
    let names = c.args.names.now in
    ap (λ cs. all_of (conds cs)) (c.in_ok-renamed_conds-in-All.ensures
    ∙ ap (map (renamed_cond names)) c.as_slice.ensures)
    ∙ sym (ap all_of (renamed_conds-map names c.in-All.parts))
    ∙ sym (ap (λ s. renamed_cond names (cond_tree s)) c.in-All.is)

pub renamed_cond-renamed_conds-requires-in-Any : goal.renamed_cond-renamed_conds-requires-in-Any
renamed_cond-renamed_conds-requires-in-Any t c =
    let inside : cond_list_nodes (map cond_tree c.as_slice-in-Any.result.now) ≡ cond_list_nodes c.in-Any.parts =
    ap cond_list_nodes c.as_slice-in-Any.ensures in
    let whole : cond_nodes (cond_tree c.args.cond.now) ≡ cond_list_nodes c.in-Any.parts + 1 =
    ap (λ s. cond_nodes (cond_tree s)) c.in-Any.is in
    (omega (arith, c.decreases, inside, whole), tt)

pub renamed_cond-returns-in_ok-renamed_conds-in-Any : goal.renamed_cond-returns-in_ok-renamed_conds-in-Any
renamed_cond-returns-in_ok-renamed_conds-in-Any t c =
    let names = c.args.names.now in
    ap (λ cs. any_of (conds cs)) (c.in_ok-renamed_conds-in-Any.ensures
    ∙ ap (map (renamed_cond names)) c.as_slice-in-Any.ensures)
    ∙ sym (ap any_of (renamed_conds-map names c.in-Any.parts))
    ∙ sym (ap (λ s. renamed_cond names (cond_tree s)) c.in-Any.is)

pub renamed_conds-renamed_cond-requires : goal.renamed_conds-renamed_cond-requires
renamed_conds-renamed_cond-requires t c =
    let l = c.loop-part in
    let cut = drop-item c.args.parts.now l.part-index c.part-item.result c.loop-part-test.true c.part-item.is in
    (omega (arith, c.decreases, ap (λ xs. cond_list_nodes (map cond_tree xs)) cut, l.invariant.smaller), tt)

pub renamed_conds-loop-part-preserved : goal.renamed_conds-loop-part-preserved
renamed_conds-loop-part-preserved t c =
    let l = c.loop-part in
    let x = c.part-item.result in
    let parts = c.args.parts.now in
    let names = c.args.names.now in
    let cut = drop-item parts l.part-index x c.loop-part-test.true c.part-item.is in
    let more = map (renamed_cond names) (map cond_tree (drop (l.part-index + 1) parts)) in
    record {
      smaller = omega (arith, ap (λ xs. cond_list_nodes (map cond_tree xs)) cut, l.invariant.smaller);
      renamed = ap (λ xs. xs ++ more)
          (c.in_ok-push.ensures.ok ∙ ap (λ y. l.renamed ++ y ∷ []) c.in_ok-renamed_cond.ensures)
          ∙ append_assoc l.renamed (renamed_cond names (cond_tree x) ∷ []) more
          ∙ sym (ap (λ xs. l.renamed ++ map (renamed_cond names) (map cond_tree xs)) cut) ∙ l.invariant.renamed;
    }
