-- What is known along the path to an instruction, when steps are taken back and when one more is taken.
use Rattle.std.proofs.Common.{◌≡◌, ℕ, ◌≤◌, List, [], ◌∷◌, refl, ap, sym, ◌∙◌, subst, arith, drop, take}
use Rattle.std.proofs.Common.{map, reverse, Bool, true, false}
use Rattle.std.specs.Prelude.{Some, None, nat_eq, if◌then◌else◌}
use Rattle.std.proofs.lemmas.Bool.{eqb-true}
use Rattle.mp_term.specs.Signature.{Sig}
use Rattle.mp_pattern.specs.NetTokenView.{net_token}
use Rattle.mp_pattern.specs.NetTokens.{NetToken, sym_token, enter_token, leave_token, wild_token, comm_token}
use Rattle.mp_walk.specs.InstrView.{plain_instr}
use Rattle.mp_walk.specs.Walkable.{Path}
use Rattle.mp_program.specs.TokenPaths.{path_uses, open_after}
use Rattle.mp_vm.specs.Known.{IsGathered, IsBefore, IsBack, IsMore, opened, open_before}
use Rattle.mp_vm.specs.Looks.{look_wildcard, HasLooks}
use Rattle.mp_vm.specs.SettingView.{HasGathered}
use Rattle.mp_vm.specs.TrailView.{HasSteps, HasTrail}
use Rattle.mp_vm.specs.WayView.{AreAbove}
use Rattle.mp_vm.specs.declared.above.Above.{Above}
use Rattle.mp_vm.specs.declared.above.Before.{Before}
use Rattle.mp_vm.specs.declared.code.Setting.{Setting}
use Rattle.mp_vm.specs.declared.trail.Step.{Step}
use Rattle.mp_vm.specs.declared.trail.Trail.{Trail}
use Rattle.mp_vm.specs.declared.ways.Way.{Way}

-- a token's operations are taken back
before-after : (fs gs : List ℕ) (k : NetToken) → open_after fs k ≡ Some gs → open_before gs k ≡ fs
before-after fs gs (sym_token n) h = (let both : Some fs ≡ Some gs = h in let e : fs ≡ gs = cc in sym e)
before-after fs gs (enter_token g) h =
    (let both : Some (g ∷ fs) ≡ Some gs = h in let e : g ∷ fs ≡ gs = cc in sym (ap (drop 1) e))
before-after [] gs (leave_token g) h = (let wrong : None ≡ Some gs = h in cc)
before-after (f ∷ fs) gs (leave_token g) h = by_same (nat_eq f g) refl h
  where
    by_same : (b : Bool) → nat_eq f g ≡ b → (if b then Some fs else None) ≡ Some gs → g ∷ gs ≡ f ∷ fs
    by_same true e h =
        let same : f ≡ g = eqb-true f g e in
        let both : Some fs ≡ Some gs = h in
        let rest : fs ≡ gs = cc in
        ap (λ n. n ∷ gs) (sym same) ∙ ap (λ hs. f ∷ hs) (sym rest)
    by_same false e h = (let wrong : None ≡ Some gs = h in cc)
before-after fs gs (wild_token w x) h = (let both : Some fs ≡ Some gs = h in let e : fs ≡ gs = cc in sym e)
before-after fs gs (comm_token p) h = (let both : Some fs ≡ Some gs = h in let e : fs ≡ gs = cc in sym e)

-- the same is known
pub record IsSame (a z : Above) : Type 0 where
  pub nodes : z.nodes ≡ a.nodes
  pub looks : map look_wildcard z.looks.items ≡ map look_wildcard a.looks.items
  pub first : z.is_first ≡ a.is_first
  pub opens : opened z ≡ opened a

-- one token more is taken back
pub back-same : (k : NetToken) (a y z : Above) (b : Before) → IsBefore k a b → IsMore k a y → IsBack b y z → IsSame a z
back-same k a y z b before more back = record {
  nodes = back.nodes ∙ before.nodes;
  looks = back.looks ∙ ap (λ n. take n (map look_wildcard y.looks.items)) before.looks ∙ more.looks;
  first = back.first ∙ before.first;
  opens = back.opens ∙ ap (open_before (opened y)) before.token ∙ before-after (opened a) (opened y) k more.opens;
}

gathered-same : (sig : Sig) (most : ℕ) (a z : Above) (ks : Path) → IsSame a z → IsGathered sig most a ks
    → IsGathered sig most z ks
gathered-same sig most a z ks same h = record {
  known = record {
    right = h.known.right;
    first = same.first ∙ h.known.first;
    nodes = same.nodes ∙ h.known.nodes;
    looks = subst (HasLooks (path_uses ks)) (sym same.looks) h.known.looks;
  };
  opens = h.opens ∙ ap Some (sym same.opens);
}

module _ (s : Setting) (ws : List Way) where
  -- the same is known along the steps
  pub steps-same : (n : ℕ) (ts : List Step) (a z : Above) → IsSame a z → HasSteps s ws n ts a → HasSteps s ws n ts z
  steps-same n [] a z same h = λ ks are good. gathered-same s.sig.now s.most a z (reverse ks) same (h ks are good)
  steps-same n (t ∷ ts) a z same h = (
    λ ks are good. gathered-same s.sig.now s.most a z (reverse ks) same (h.0 ks are good),
    h.1,
    λ y back. h.2 y (record {
      nodes = back.nodes;
      looks = back.looks ∙ ap (take t.before.looks) same.looks;
      first = back.first;
      opens = back.opens ∙ ap (λ fs. open_before fs (net_token t.before.token.now)) same.opens;
    }),
  )

  -- all is known of the instruction itself
  pub steps-gathered : (n : ℕ) (ts : List Step) (a : Above) → HasSteps s ws n ts a → HasGathered s ws n a
  steps-gathered n [] a h = h
  steps-gathered n (t ∷ ts) a h = h.0

  -- ways further on change nothing
  pub steps-onward : (zs : List Way) (d : ℕ)
      → ((m : ℕ) → m ≤ d → (ks : List NetToken) → AreAbove (map plain_instr s.code.now) zs m ks
      → AreAbove (map plain_instr s.code.now) ws m ks) → (n : ℕ) (ts : List Step) (a : Above) → n ≤ d
      → HasSteps s ws n ts a → HasSteps s zs n ts a
  steps-onward zs d same n [] a less h = λ ks are good. h ks (same n less ks are) good
  steps-onward zs d same n (t ∷ ts) a less h = (
    λ ks are good. h.0 ks (same n less ks are) good,
    h.1,
    λ y back. steps-onward zs d same t.above ts y (omega (arith, h.1, less)) (h.2 y back),
  )

  -- a trail by its parts
  pub trail-of : (t : Trail) (n : ℕ) (ts : List Step) (a : Above) → t.at ≡ n → reverse t.steps.items ≡ ts → t.known ≡ a
      → HasSteps s ws n ts a → HasTrail s ws t
  trail-of t n ts a at steps known h =
      subst (λ m. HasSteps s ws m (reverse t.steps.items) t.known) (sym at)
      (subst (λ us. HasSteps s ws n us t.known) (sym steps) (subst (HasSteps s ws n ts) (sym known) h))

  -- all is known of the instruction that it leads to
  pub trail-gathered : (t : Trail) (n : ℕ) → t.at ≡ n → HasTrail s ws t → HasGathered s ws n t.known
  trail-gathered t n at h = subst (λ m. HasGathered s ws m t.known) at
      (steps-gathered t.at (reverse t.steps.items) t.known h)
