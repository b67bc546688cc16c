use Rattle.std.proofs.Common.{◌≡◌, ◌<◌, ◌+◌, ◌∙◌, ℕ, List, [], ◌∷◌, length, drop, arith}
use Rattle.std.specs.Ordering.{nat_cmp}
use Rattle.std.specs.Cmp.Lexicographic.{slice_cmp}
use Rattle.std.proofs.lemmas.Cmp.{nat_cmp_total, tied_itself}
use Rattle.std.proofs.lemmas.List.{length-drop}
use Rattle.std.proofs.lemmas.Bool.Decides.{nat_tests}
use Rattle.mp_term.proofs.name.compare_bytes.Goals as goal
use Rattle.mp_term.proofs.name.compare_bytes.Goals.{then-loop-place-test+else-place-b, else-loop-place-test}

-- lists of which one is empty compare by their lengths, behind k equal numbers too
slice_cmp-empty : (k : ℕ) (xs ys : List ℕ) → (0 < length xs → 0 < length ys → ⊥)
    → nat_cmp (k + length xs) (k + length ys) ≡ slice_cmp nat_cmp xs ys
slice_cmp-empty k [] [] h = tied_itself nat_cmp_total (k + 0)
slice_cmp-empty k [] (y ∷ ys) h = grind (arith, nat_tests)
slice_cmp-empty k (x ∷ xs) [] h = grind (arith, nat_tests)
slice_cmp-empty k (x ∷ xs) (y ∷ ys) h = absurd (h (omega arith) (omega arith))

pub returns : goal.returns
returns c =
    let a = c.args.a.now in
    let b = c.args.b.now in
    let k = c.loop-place.place in
    let la = length-drop k a in
    let lb = length-drop k b in
    let ended : 0 < length (drop k a) → 0 < length (drop k b) → ⊥ = λ p q. elim c.loop-place-test.branch [
      | then-loop-place-test+else-place-b w ↦ omega (arith, w.if-place-b.false, lb, q)
      | else-loop-place-test w ↦ omega (arith, w.loop-place-test.false, la, p)
    ] in
    let ea : length a ≡ k + length (drop k a) = omega (arith, la, c.loop-place.invariant.in_a) in
    let eb : length b ≡ k + length (drop k b) = omega (arith, lb, c.loop-place.invariant.in_b) in
    c.cmp-2.ensures ∙ (λ i. nat_cmp (ea i) (eb i)) ∙ slice_cmp-empty k (drop k a) (drop k b) ended
    ∙ c.loop-place.invariant.rest
