use Rattle.std.proofs.Common.{◌∙◌, ap, sym}
use Rattle.mp_pattern.specs.View.{pattern_tree}
use Rattle.mp_many.specs.Digest.{token_digest}
use Rattle.mp_many.specs.TokenView.{read_token}
use Rattle.mp_many.proofs.TokenLaws.{digest-renamed}
use Rattle.mp_many.proofs.digest.token_digest.Goals as goal

pub returns-in-Comm : goal.returns-in-Comm
returns-in-Comm c =
    c.pattern_digest.ensures
    ∙ sym (digest-renamed c.in-Comm.field-1.now 5 (pattern_tree c.in-Comm.pattern.now))
    ∙ sym (ap (λ t. token_digest (read_token t)) c.in-Comm.is)
