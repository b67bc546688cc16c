use Rattle.std.proofs.Common.{◌≡◌, ◌∙◌, ◌++◌, ◌∷◌, [], ap, sym, refl}
use Rattle.std.specs.Prelude.{Some, None, option_map}
use Rattle.std.specs.Ordering.{is_eq}
use Rattle.mp_term.specs.Order.{tree_cmp}
use Rattle.mp_term.specs.View.{tree}
use Rattle.mp_term.proofs.TestLaws.{match-if}
use Rattle.mp_pattern.specs.Value as plain
use Rattle.mp_subst.specs.View.{subst_of, value_of}
use Rattle.mp_theory.specs.Solve.{bind}
use Rattle.mp_theory.proofs.FilledLaws.{bind-new, bind-again}
use Rattle.mp_cursor.proofs.DirectLaws.{bind-unlike}
use Rattle.mp_cursor.proofs.direct.bind.Goals as goal

pub returns-in-Some-One : goal.returns-in-Some-One
returns-in-Some-One c =
    let s = subst_of c.args.subst.now in
    let t = tree c.args.term.now in
    let x = c.in-Some.name in
    let u = tree c.in-Some-One.old in
    let held : plain.value_of s x ≡ Some (plain.one u) =
    sym c.value_of.ensures ∙ ap (option_map (λ v. value_of v.now)) c.in-Some-One.is
    ∙ ap (λ v. Some (value_of v)) c.in-Some-One.field-0-is in
    rw c.in-Some.is (match-if c.eq.result (is_eq (tree_cmp u t)) (bind s x (plain.one t)) s
    (c.eq.ensures ∙ ap (λ v. is_eq (tree_cmp (tree v) t)) c.in-Some-One.old-is) (bind-again s x u t held))

pub returns-in-Some-Seq : goal.returns-in-Some-Seq
returns-in-Some-Seq c =
    let s = subst_of c.args.subst.now in
    let x = c.in-Some.name in
    let v = plain.seq c.in-Some-Seq.field-0-0 in
    let held : plain.value_of s x ≡ Some v =
    sym c.value_of.ensures ∙ ap (option_map (λ v. value_of v.now)) c.in-Some-Seq.is
    ∙ ap (λ v. Some (value_of v)) c.in-Some-Seq.field-0-is in
    rw c.in-Some.is (bind-unlike s x v (tree c.args.term.now) held refl)

pub returns-in-Some-Bag : goal.returns-in-Some-Bag
returns-in-Some-Bag c =
    let s = subst_of c.args.subst.now in
    let x = c.in-Some.name in
    let v = plain.bag c.in-Some-Bag.field-0-0 in
    let held : plain.value_of s x ≡ Some v =
    sym c.value_of.ensures ∙ ap (option_map (λ v. value_of v.now)) c.in-Some-Bag.is
    ∙ ap (λ v. Some (value_of v)) c.in-Some-Bag.field-0-is in
    rw c.in-Some.is (bind-unlike s x v (tree c.args.term.now) held refl)

pub returns : goal.returns
returns c =
    let s = subst_of c.args.subst.now in
    let t = tree c.args.term.now in
    let x = c.in-Some.name in
    let none : plain.value_of s x ≡ None =
    sym c.value_of.ensures ∙ ap (option_map (λ v. value_of v.now)) c.in-None.is in
    rw c.in-Some.is (bind-new s x (plain.one t) none ∙ ap Some (sym (c.in_ok-push.ensures.ok
    ∙ (λ i. s ++ record { name = c.in_ok-name.ensures i; value = plain.one (c.in_ok-copy_term.ensures i) } ∷ []))))
