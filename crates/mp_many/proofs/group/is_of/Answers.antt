use Rattle.mp_many.specs.TokenView.{read_token}
use Rattle.mp_many.proofs.DigestLaws.{digest-other}
use Rattle.mp_many.proofs.group.is_of.Goals as goal

pub returns-then-group-digest : goal.returns-then-group-digest
returns-then-group-digest c =
    digest-other (read_token c.args.group.now.token) (read_token c.args.token.now) c.args.group.now.digest
    c.args.digest c.requires.group c.requires.digest c.if-group-digest.true
