use Rattle.std.proofs.Common.{◌++◌, ◌∷◌, [], ℕ, List, sym, ap, subst, ◌∙◌, arith}
use Rattle.std.specs.Prelude.{take}
use Rattle.mp_line.specs.declared.names.TheConstants.{MAX_KEPT}
use Rattle.mp_line.specs.Finds.{Finds}
use Rattle.mp_line.specs.LineTexts.{IsName, IsNameText}
use Rattle.mp_line.proofs.ItemLaws.{not-empty, is-empty, front-more, front-stuck, front-other, front-all}
use Rattle.mp_line.proofs.NameLaws.{bare-name, kept-more, kept-full}
use Rattle.mp_line.proofs.names.names.Goals as goal

pub returns-in_default : goal.returns-in_default
returns-in_default c = λ kept h. (
    let rest = c.loop-rest.rest.now in
    let seen = c.loop-rest.invariant in
    front-stuck IsName (λ x. x) bare-name c.args.text.now rest seen.all seen.front
    (not-empty rest c.is_empty.result c.is_empty.ensures c.loop-rest-test.true) (λ word behind g. c.in_default.ensures
    (word, behind) g)
    h.all h.names
    )

pub returns-in_default-2 : goal.returns-in_default-2
returns-in_default-2 c = λ kept h. (
    let seen = c.loop-rest.invariant in
    front-other IsName (λ x. x) bare-name c.args.text.now c.loop-rest.rest.now c.in-Some.word.now c.in-Some.behind.now
    seen.all seen.front c.in-Some.ensures.is
    (λ n right same. (
    let none = subst (Finds (λ (x : List ℕ). x)
    (IsNameText c.in-Some.word.now)) c.in_default-2.is c.in_ok-name.ensures in
    none n (record { right = right; text = same })
    )) h.all h.names
    )

pub loop-rest-preserved-in_ok-push : goal.loop-rest-preserved-in_ok-push
loop-rest-preserved-in_ok-push c =
    let seen = c.loop-rest.invariant in
    let name = subst (Finds (λ (x : List ℕ). x) (IsNameText c.in-Some.word.now)) c.in-Some-2.is c.in_ok-name.ensures in
    record {
      all = seen.all ++ c.in-Some-2.name ∷ [];
      front = front-more IsName (λ x. x) bare-name c.args.text.now c.loop-rest.rest.now c.in-Some.word.now
          c.in-Some.behind.now seen.all c.in-Some-2.name seen.front c.in-Some.ensures.is name.is.right name.is.text
          (λ n right same. name.only n (record { right = right; text = same }));
      same = c.in_ok-push.ensures.ok
          ∙ kept-more MAX_KEPT c.loop-rest.names seen.all c.in-Some-2.name seen.same (omega arith);
    }

pub loop-rest-preserved : goal.loop-rest-preserved
loop-rest-preserved c =
    let seen = c.loop-rest.invariant in
    let name = subst (Finds (λ (x : List ℕ). x) (IsNameText c.in-Some.word.now)) c.in-Some-2.is c.in_ok-name.ensures in
    record {
      all = seen.all ++ c.in-Some-2.name ∷ [];
      front = front-more IsName (λ x. x) bare-name c.args.text.now c.loop-rest.rest.now c.in-Some.word.now
          c.in-Some.behind.now seen.all c.in-Some-2.name seen.front c.in-Some.ensures.is name.is.right name.is.text
          (λ n right same. name.only n (record { right = right; text = same }));
      same = kept-full MAX_KEPT c.loop-rest.names seen.all c.in-Some-2.name seen.same (omega arith);
    }

pub returns : goal.returns
returns c =
    let rest = c.loop-rest.rest.now in
    let seen = c.loop-rest.invariant in
    let whole = front-all IsName (λ x. x) bare-name c.args.text.now rest seen.all seen.front
    (is-empty rest c.is_empty.result c.is_empty.ensures c.loop-rest-test.false) in
    record {
      is = record { all = seen.all; names = whole.is; front = seen.same };
      only = λ kept h. h.front ∙ (ap (take MAX_KEPT) (whole.only h.all h.names) ∙ sym seen.same);
    }
