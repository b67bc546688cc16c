-- What faults that aren't there say.
use Rattle.std.proofs.Common.{◌≡◌, ℕ, Bool, true, false, List, [], ◌∷◌, refl}
use Rattle.std.specs.Prelude.{◌||◌, not, length, nat_lt}
use Rattle.std.specs.List.{list_any}
use Rattle.std.proofs.lemmas.Bool.{not-false, or_parts}
use Rattle.mp_term.specs.Names.{are_distinct}
use Rattle.mp_pattern.specs.declared.limits.TheConstants.{MAX_VARIABLES}
use Rattle.mp_pattern.specs.Value.{same_name}
use Rattle.mp_program.specs.declared.fault.ProgramError.{ProgramError}
use Rattle.mp_program.specs.Form.{RuleLine}
use Rattle.mp_program.specs.FormFaults.{fault_if, is_bad_test, rule_faults}

-- a test that gives no fault fails
pub nil-fault_if : (b : Bool) (f : ProgramError) → fault_if b f ≡ [] → b ≡ false
nil-fault_if false f e = refl
nil-fault_if true f e = (let wrong : f ∷ [] ≡ [] = e in cc)

-- what isn't wrong with the names of a rule line
pub record HasFineNames (before : List RuleLine) (r : RuleLine) : Type 0 where
  pub name : list_any (λ q. same_name q.name r.name) before ≡ false
  pub distinct : are_distinct r.vars ≡ true
  pub few : nat_lt MAX_VARIABLES (length r.vars) ≡ false

-- nor with its test
pub record IsFine (before : List RuleLine) (count : ℕ) (r : RuleLine) : Type 0 where
  pub names : HasFineNames before r
  pub test : is_bad_test count before r.vars r.test ≡ false

pub fine-rule : (count : ℕ) (before : List RuleLine) (n : ℕ) (r : RuleLine) → rule_faults count before n r ≡ []
    → IsFine before count r
fine-rule count before n r h =
    let a = list_any (λ q. same_name q.name r.name) before in
    let b = not (are_distinct r.vars) in
    let c = nat_lt MAX_VARIABLES (length r.vars) in
    let d = is_bad_test count before r.vars r.test in
    let first = or_parts a (b || (c || d)) (nil-fault_if (a || (b || (c || d))) _ h) in
    let second = or_parts b (c || d) first.1 in
    let third = or_parts c d second.1 in
    record {
      names = record { name = first.0; distinct = not-false (are_distinct r.vars) second.0; few = third.0 };
      test = third.1;
    }
