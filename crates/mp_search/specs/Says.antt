-- What a verdict on a condition says of a substitution.
use Rattle.std.specs.Prelude.{◌≡◌, ⊤, true, false}
use Rattle.mp_term.specs.Signature.{Sig}
use Rattle.mp_pattern.specs.CondTree.{Cond}
use Rattle.mp_pattern.specs.Holds.{holds}
use Rattle.mp_pattern.specs.Value.{Subst}
use Rattle.mp_cond.specs.declared.verdict.Verdict.{Verdict}
use Rattle.mp_cond.specs.declared.verdict.Verdict.TheVariants.{Yes, No, Later}

-- the condition holds of it, fails, or nothing is said
abbrev pub Says : Sig → Cond → Subst → Verdict → Type 0
Says sig c s Yes = holds sig s c ≡ true
Says sig c s No = holds sig s c ≡ false
Says sig c s Later = ⊤
