use Rattle.std.proofs.Common.{◌≡◌, ◌++◌, ap, sym, ◌∙◌, List, ℕ, Bor}
use Rattle.mp_line.proofs.FindsLaws.{Finds-like}
use Rattle.mp_line.proofs.words.between.Goals as goal

pub returns-in-Some : goal.returns-in-Some
returns-in-Some c =
    let text = c.args.text.now in
    let front = c.args.front.now in
    let end = c.args.end.now in
    let rest = c.in-Some.rest.now in
    Finds-like (λ (m : Bor (List ℕ)). m.now) (λ m. rest ≡ m ++ end) (λ m. text
    ≡ front ++ (m ++ end)) c.before-in-Some.result
    (λ m e. c.in-Some.ensures.is ∙ ap (λ t. front ++ t) e) (λ m e. sym (c.in-Some.ensures.only
    (m ++ end) e)) c.before-in-Some.ensures

pub returns-in-None : goal.returns-in-None
returns-in-None c = λ m e. c.in-None.ensures (m ++ c.args.end.now) e
