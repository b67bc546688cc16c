use Rattle.std.proofs.Common.{◌≡◌, ◌∙◌, map, sym, ap, subst, true, false}
use Rattle.std.proofs.lemmas.Result.{on_ok_weaker}
use Rattle.mp_many.specs.Digest.{token_digest}
use Rattle.mp_many.specs.GroupView.{group_of}
use Rattle.mp_many.specs.Marks.{has_mark, AreMarked}
use Rattle.mp_many.specs.TokenView.{read_token}
use Rattle.mp_many.proofs.MarkLaws.{entered-new, entered-marked, marked-more, marked-push}
use Rattle.mp_many.proofs.group.enter_marked.Goals as goal

pub returns-then-has_mark-clause-marked : goal.returns-then-has_mark-clause-marked
returns-then-has_mark-clause-marked c =
    let ms = c.args.marks.now.items in
    let gs = map group_of c.args.groups.now.items in
    let k = read_token c.args.token in
    let there : has_mark ms (token_digest k) ≡ true =
    ap (has_mark ms) (sym c.token_digest-digest.ensures)
    ∙ ap (λ xs. has_mark xs c.token_digest-digest.result) (sym c.deref.ensures.value)
    ∙ sym c.has_mark.ensures ∙ c.if-has_mark.true in
    on_ok_weaker c.enter.result
    (λ e. subst (AreMarked ms) (sym e) (entered-marked ms gs k c.args.numbers.now c.requires.marked there))
    c.enter.ensures.entered

pub returns-clause-entered : goal.returns-clause-entered
returns-clause-entered c =
    let ms = c.args.marks.now.items in
    let gs = map group_of c.args.groups.now.items in
    let k = read_token c.args.token in
    let gone : has_mark ms (token_digest k) ≡ false =
    ap (has_mark ms) (sym c.token_digest-digest.ensures)
    ∙ ap (λ xs. has_mark xs c.token_digest-digest.result) (sym c.deref.ensures.value)
    ∙ sym c.has_mark.ensures ∙ c.if-has_mark.false in
    on_ok_weaker c.push_group.result (λ e. e ∙ sym (entered-new ms gs k c.args.numbers.now c.requires.marked gone))
    c.push_group.ensures.groups

pub returns-clause-marked : goal.returns-clause-marked
returns-clause-marked c =
    let ms = c.args.marks.now.items in
    let new = c.set_mark.new.marks.items in
    let gs = map group_of c.args.groups.now.items in
    let k = read_token c.args.token in
    on_ok_weaker c.push_group.result
    (λ e. subst (AreMarked new) (sym e) (marked-push new gs (k, c.args.numbers.now)
    (marked-more ms new gs c.set_mark.ensures.others c.requires.marked)
    (ap (has_mark new) (sym c.token_digest-digest.ensures) ∙ c.set_mark.ensures.own)))
    c.push_group.ensures.groups
