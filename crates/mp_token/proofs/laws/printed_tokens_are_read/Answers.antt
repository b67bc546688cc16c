use Rattle.std.proofs.Common.{refl}
use Rattle.mp_token.specs.TokenText.{token_text}
use Rattle.mp_token.proofs.SpellingLaws.{spelling_unique}
use Rattle.mp_token.proofs.laws.printed_tokens_are_read.Goals as goal

pub returns-clause-only : goal.returns-clause-only
returns-clause-only c t u is spelt =
    spelling_unique (token_text t) u t spelt (record { token = is; text = refl })
