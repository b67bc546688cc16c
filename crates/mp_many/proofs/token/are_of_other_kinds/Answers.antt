use Rattle.std.proofs.Common.{◌≡◌, subst}
use Rattle.std.specs.Prelude.{IfSome}
use Rattle.mp_pattern.specs.NetTokens.{wild_token}
use Rattle.mp_pattern.specs.PatternTree.{kind}
use Rattle.mp_many.specs.TokenView.{read_token}
use Rattle.mp_many.proofs.TokenLaws.{kinds-apart}
use Rattle.mp_many.proofs.token.are_of_other_kinds.Goals as goal

pub returns : goal.returns
returns c h =
    let j = read_token c.args.token.now in
    let k = read_token c.args.other.now in
    let own : j ≡ wild_token (kind c.in-Some.own.0) c.in-Some.own.1 =
    subst (λ o. IfSome o (λ w. j ≡ wild_token (kind w.0) w.1)) c.in-Some.is c.kind_of.ensures in
    let others : k ≡ wild_token (kind c.in-Some-kind_of.others.0) c.in-Some-kind_of.others.1 =
    subst (λ o. IfSome o (λ w. k ≡ wild_token (kind w.0) w.1)) c.in-Some-kind_of.is c.kind_of-2.ensures in
    kinds-apart j k c.in-Some.own c.in-Some-kind_of.others own others h
