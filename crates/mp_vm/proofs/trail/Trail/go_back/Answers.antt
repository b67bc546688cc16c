use Rattle.std.proofs.Common.{◌≡◌, ◌∷◌, [], reverse, ap, subst, ◌∙◌}
use Rattle.std.proofs.lemmas.List.{reverse-append}
use Rattle.mp_vm.specs.TrailView.{HasSteps}
use Rattle.mp_vm.proofs.trail.Trail.go_back.Goals as goal

pub loop-self-preserved : goal.loop-self-preserved
loop-self-preserved c = λ s ws h.
    let t = c.loop-self.self in
    let steps : reverse t.steps.items ≡ c.in-Some.step ∷ reverse c.pop.new.self.items =
    ap reverse c.in-Some.ensures.items ∙ reverse-append c.pop.new.self.items (c.in-Some.step ∷ []) in
    (subst (λ ts. HasSteps s ws t.at ts t.known) steps (c.loop-self.invariant s ws h)).2 c.go_back.new.self
    c.in_ok-go_back.ensures
