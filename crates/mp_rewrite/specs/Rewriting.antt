-- Rewriting with a limit: step after step until nothing can be rewritten, the limit is reached, or a step exceeds a
-- size.
use Rattle.std.specs.Prelude.{◌≡◌, ◌⊎◌, ℕ, zero, suc, List}
use Rattle.mp_term.specs.declared.size.Excess.{Excess}
use Rattle.mp_term.specs.Tree.{Tree}
use Rattle.mp_term.specs.Signature.{Sig}
use Rattle.mp_pattern.specs.Admission.{Rule}
use Rattle.mp_pattern.specs.Step as step
use Rattle.mp_rewrite.specs.Step.{IsLive, IsDead, IsStep}

-- how rewriting ends, each with the number of steps that were made
pub data Rewriting : Type 0 where
  -- at a term of which no position is live
  done : Tree → ℕ → Rewriting
  -- at the limit, at a term of which a position is live
  more : Tree → ℕ → Rewriting
  -- at a step that would make a term too large or too deep
  exceeded : Excess → ℕ → Rewriting

module _ (sig : Sig) (rules : List Rule) where
  -- rewriting goes on so from t, which was reached by n steps, where at most `left` more are made
  abbrev pub IsRewritingFrom : ℕ → ℕ → Tree → Rewriting → Type 0
  IsRewritingFrom zero n t w =
      (IsDead sig rules t × (w ≡ done t n)) ⊎ (((p : List ℕ) × IsLive sig rules t p) × (w ≡ more t n))
  IsRewritingFrom (suc left) n t w =
      (IsDead sig rules t × (w ≡ done t n))
      ⊎ ((e : Excess) × IsStep sig rules t (step.exceeded e) × (w ≡ exceeded e n))
      ⊎ ((u : Tree) × IsStep sig rules t (step.stepped u) × IsRewritingFrom left (suc n) u w)

  -- the rewriting of t with at most `limit` steps
  abbrev pub IsRewriting : ℕ → Tree → Rewriting → Type 0
  IsRewriting limit t w = IsRewritingFrom limit 0 t w
