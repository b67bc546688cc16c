use Rattle.std.proofs.Common.{ap, subst}
use Rattle.mp_term.specs.Signature.{Sig, IsSignature, kind_members}
use Rattle.mp_term.proofs.SignatureLaws.{slice_get-kind_names, slice_get-kind_members, ascend-found}
use Rattle.mp_term.proofs.signature.Signature.kind.Goals as goal

pub returns-clause-name : goal.returns-clause-name
returns-clause-name c = slice_get-kind_names
    (λ k. record { name = k.name; members = k.members }) c.self.inside.kinds.items c.args.self.now
    (ap (λ (s : Sig). s.kinds) c.self.view_is) (λ k. k.now) c.args.id.0 c.kind_at.result c.if-id-eq0.false
    (rw (← c.deref.ensures.value) c.kind_at.ensures)

pub returns-clause-members : goal.returns-clause-members
returns-clause-members c = slice_get-kind_members
    (λ k. record { name = k.name; members = k.members }) c.self.inside.kinds.items c.args.self.now
    (ap (λ (s : Sig). s.kinds) c.self.view_is) (λ k. k.now) c.args.id.0 c.kind_at.result c.if-id-eq0.false
    (rw (← c.deref.ensures.value) c.kind_at.ensures)

pub returns-clause-ascend : goal.returns-clause-ascend
returns-clause-ascend c =
    let members = slice_get-kind_members (λ k. record { name = k.name; members = k.members }) c.self.inside.kinds.items
    c.args.self.now (ap (λ (s : Sig). s.kinds) c.self.view_is)
    (λ k. k.now) c.args.id.0 c.kind_at.result c.if-id-eq0.false (rw (← c.deref.ensures.value) c.kind_at.ensures) in
    ascend-found (λ k. k.now.members) (kind_members c.args.self.now) c.args.id.0 c.kind_at.result
    (subst IsSignature c.self.view_is c.self.invariant.0).members_ascend members
