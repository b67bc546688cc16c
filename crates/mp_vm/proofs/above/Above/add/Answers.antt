use Rattle.std.proofs.Common.{◌∙◌, refl, sym, map, ap, take, arith}
use Rattle.std.proofs.lemmas.List.{length-map}
use Rattle.std.proofs.lemmas.Result.{IfOk-weaker}
use Rattle.mp_pattern.specs.NetTokenView.{net_token}
use Rattle.mp_vm.specs.Looks.{look_wildcard, token_places, where_true}
use Rattle.mp_vm.proofs.AboveLaws.{wrong-count, right-come, knows-come}
use Rattle.mp_vm.proofs.LookLaws.{looks-kept}
use Rattle.mp_vm.proofs.above.Above.add.Goals as goal

pub returns-then-self-most-clause-right : goal.returns-then-self-most-clause-right
returns-then-self-most-clause-right c = λ ks h.
    wrong-count c.args.sig.now c.args.most c.args.self.now ks (net_token c.args.token.now) h
    (omega (arith, c.if-self-most.true, c.saturating_add-self.ensures, c.token_nodes.ensures))

pub returns-clause-right : goal.returns-clause-right
returns-clause-right c = λ ks h. IfOk-weaker c.add_token_looks.result _ _
    (λ b e. right-come c.args.sig.now c.args.most c.args.self.now ks (net_token c.args.token.now) h
    (sym c.may_come.ensures ∙ c.if-not-may_come.false)
    (omega (arith, c.if-self-most.false, c.saturating_add-self.ensures, c.token_nodes.ensures, c.requires)) b _ e)
    c.add_token_looks.ensures

pub returns-clause-known : goal.returns-clause-known
returns-clause-known c = λ ks h. IfOk-weaker c.add_token_looks.result _ _
    (λ b e t. knows-come c.args.sig.now c.args.most c.args.self.now ks (net_token c.args.token.now) h
    (sym c.may_come.ensures ∙ c.if-not-may_come.false)
    (omega (arith, c.if-self-most.false, c.saturating_add-self.ensures, c.token_nodes.ensures, c.requires))
    _ refl
    (omega (arith, c.if-self-most.false, c.saturating_add-self.ensures, c.token_nodes.ensures, c.requires))
    (e ∙ ap (λ v. where_true v (map look_wildcard c.add_token_looks.new.looks.items)) t))
    c.add_token_looks.ensures

pub returns-clause-looks : goal.returns-clause-looks
returns-clause-looks c = IfOk-weaker c.add_token_looks.result _ _
    (λ b e t. ap (λ n. take n (map look_wildcard c.add_token_looks.new.looks.items))
    (sym (length-map c.args.self.now.looks.items look_wildcard))
    ∙ looks-kept (map look_wildcard c.args.self.now.looks.items) (token_places (net_token c.args.token.now))
    (map look_wildcard c.add_token_looks.new.looks.items)
    (e ∙ ap (λ v. where_true v (map look_wildcard c.add_token_looks.new.looks.items)) t))
    c.add_token_looks.ensures
