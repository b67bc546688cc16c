use Rattle.std.specs.Prelude.{ℕ, Option, Some, None}
use Rattle.mp_line.proofs.TokenLaws.{star-through}
use Rattle.mp_line.proofs.wild.star.Goals as goal

pub returns-in-Some : goal.returns-in-Some
returns-in-Some c = λ sig format.
    star-through sig format (λ (x : Option ℕ). x) c.args.word.now (Some c.in-Some.variable) c.in-Some.ensures

pub returns-in-None : goal.returns-in-None
returns-in-None c = λ sig format.
    star-through sig format (λ (x : Option ℕ). x) c.args.word.now None c.in-None.ensures
