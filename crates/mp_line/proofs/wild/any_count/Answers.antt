use Rattle.std.specs.Prelude.{ℕ, Bool, false}
use Rattle.mp_line.specs.LineTexts.{IsCountWord, IsCountText}
use Rattle.mp_line.proofs.FindsLaws.{Finds-like}
use Rattle.mp_line.proofs.TokenLaws.{open-count, count-open}
use Rattle.mp_line.proofs.wild.any_count.Goals as goal

pub returns-in-Some : goal.returns-in-Some
returns-in-Some c =
    let text = c.args.text.now in
    let word = c.in-Some.word.now in
    let e = c.in-Some.ensures.is in
    Finds-like {A = ℕ × Bool} (λ (p : ℕ × Bool). (p.0, p.1)) (λ p. IsCountWord word false p.0 p.1)
    (λ p. IsCountText text p.0 p.1) c.count.result (λ p h. count-open text word p.0 p.1 e h)
    (λ p h. open-count text word p.0 p.1 e h) c.count.ensures
