use Rattle.std.proofs.Common.{◌∙◌, map, sym, ap, subst, arith}
use Rattle.std.specs.List.{AllByRecursion}
use Rattle.std.proofs.lemmas.Result.{on_ok_weaker}
use Rattle.mp_many.specs.Groups.{entered}
use Rattle.mp_many.specs.GroupView.{group_of, IsDigested}
use Rattle.mp_many.specs.TokenView.{read_token}
use Rattle.mp_many.proofs.CodeLaws.{enter-set, enter-pass}
use Rattle.mp_many.proofs.DigestLaws.{digested-at, digested-set}
use Rattle.mp_many.proofs.group.enter.Goals as goal

pub is_of-requires-clause-group : goal.is_of-requires-clause-group
is_of-requires-clause-group c =
    digested-at c.loop-index.groups.items c.loop-index.index c.index.result.now (omega arith) c.index.ensures
    (subst (AllByRecursion IsDigested) (sym c.loop-index.invariant.kept) c.requires.digests)

pub returns-then-same-clause-entered : goal.returns-then-same-clause-entered
returns-then-same-clause-entered c =
    let gs = c.loop-index.groups.items in
    let k = read_token c.args.token in
    let n = c.args.numbers.now in
    on_ok_weaker c.add.result (λ e. enter-set gs k n c.loop-index.index c.index.result.now c.index_mut.result.now
    c.add.new.self (omega arith) c.index.ensures c.index_mut.ensures.value
    (sym c.in_ok-same.ensures ∙ c.if-same.true) e c.loop-index.invariant.entered
    ∙ ap (λ xs. entered (map group_of xs) k n) c.loop-index.invariant.kept) c.add.ensures.group

pub returns-then-same-clause-digests : goal.returns-then-same-clause-digests
returns-then-same-clause-digests c =
    let gs = c.loop-index.groups.items in
    let i = c.loop-index.index in
    let all = subst (AllByRecursion IsDigested) (sym c.loop-index.invariant.kept) c.requires.digests in
    on_ok_weaker c.add.result (λ d. digested-set gs i c.add.new.self all
    (d (digested-at gs i c.index_mut.result.now (omega arith) c.index_mut.ensures.value all))) c.add.ensures.digest

pub loop-index-preserved : goal.loop-index-preserved
loop-index-preserved c = record {
  kept = c.loop-index.invariant.kept;
  entered =
      enter-pass c.loop-index.groups.items (read_token c.args.token) c.args.numbers.now c.loop-index.index
      c.index.result.now (omega arith) c.index.ensures (sym c.in_ok-same.ensures ∙ c.if-same.false)
      c.loop-index.invariant.entered;
}
