use Rattle.std.proofs.Common.{◌≡◌, ◌∙◌, ◌++◌, ◌∷◌, [], ap, take, get_or, sym, subst, arith}
use Rattle.std.specs.Prelude.{option_map}
use Rattle.std.proofs.lemmas.List.{take_all, take_more}
use Rattle.mp_table.proofs.Distinct.{in-place}
use Rattle.mp_table.specs.Table.{subject_of}
use Rattle.mp_program.specs.ProgramView.{program_view}
use Rattle.mp_vm.proofs.RunLaws.{HasAdded, in-accepts, item-add, item-skip}
use Rattle.mp_vm.proofs.run.add_pairs.Goals as goal
use Rattle.mp_vm.proofs.run.add_pairs.Goals.{in-Some+in_ok-add, in_default}

pub admitted-requires-clause-accepts : goal.admitted-requires-clause-accepts
admitted-requires-clause-accepts c =
    let xs = c.args.accepts.now in
    let k = c.loop-number.number-index in
    in-accepts c.args.walk.now.item (get_or xs k 0) xs c.args.program.now.code c.requires.accepts
    (in-place xs k 0 c.loop-number-test.true)

pub loop-number-preserved : goal.loop-number-preserved
loop-number-preserved c =
    let sig = c.args.sig.now in
    let p = program_view c.args.program.now in
    let t = subject_of c.args.walk.now.table in
    let item = c.args.walk.now.item in
    let xs = c.args.accepts.now in
    let k = c.loop-number.number-index in
    let n = get_or xs k 0 in
    let old = c.args.found.now.pairs in
    let now = c.loop-number.found.pairs in
    let o = option_map (λ q. q.pair) c.in_ok-pair.field-0 in
    record {
      added = subst (HasAdded sig p t old c.match-branch-2.found.pairs item)
          (sym (take_more xs k 0 c.loop-number-test.true))
          (elim c.match-branch-2.branch [
            | in-Some+in_ok-add w ↦
                subst (λ f. HasAdded sig p t old f.pairs item (take k xs ++ n ∷ [])) (sym w.found-is)
                (item-add sig p c.requires.runnable t old now w.add.new.self.pairs item (take k xs) n o
                w.in-Some.pair.pair c.requires.some c.loop-number.invariant.added c.in_ok-pair.ensures.pair
                (ap (option_map (λ q. q.pair)) w.in-Some.is) w.in_ok-add.ensures.pairs)
            | in_default w ↦
                subst (λ f. HasAdded sig p t old f.pairs item (take k xs ++ n ∷ [])) (sym w.found-is)
                (item-skip sig p c.requires.runnable t old now item (take k xs) n o c.requires.some
                c.loop-number.invariant.added c.in_ok-pair.ensures.pair (ap (option_map (λ q. q.pair)) w.in_default.is))
          ]);
      over = elim c.match-branch-2.branch [
        | in-Some+in_ok-add w ↦ subst (λ f. f.table ≡ c.args.table.now) (sym w.found-is)
            (w.add.ensures.table ∙ c.loop-number.invariant.over)
        | in_default w ↦ subst (λ f. f.table ≡ c.args.table.now) (sym w.found-is) c.loop-number.invariant.over
      ];
    }

pub returns-clause-pairs : goal.returns-clause-pairs
returns-clause-pairs c =
    let all = let a = c.loop-number-test.false in let b = c.loop-number.auto.number-index-end in
    take_all c.loop-number.number-index c.args.accepts.now (omega (arith, a, b)) in
    subst (HasAdded c.args.sig.now (program_view c.args.program.now) (subject_of c.args.walk.now.table)
    c.args.found.now.pairs c.loop-number.found.pairs c.args.walk.now.item) all c.loop-number.invariant.added
