-- What can be said of a condition while variables are being bound.
use Rattle.std.specs.Prelude.{⊤, ℕ, Bool, true, false, Option, Some, None, IsSome, position, slice_get, option_map}
use Rattle.std.specs.Prelude.{if◌then◌else◌}
use Rattle.std.specs.List.{AllByRecursion, list_all}
use Rattle.mp_term.specs.Signature.{Sig}
use Rattle.mp_pattern.specs.CondTree.{Operand, var, ground, Cond}
use Rattle.mp_pattern.specs.Value.{Form, one_form, seq_form, bag_form, same_name}
use Rattle.mp_pattern.specs.Operands.{operands}
use Rattle.mp_pattern.specs.Plan.{Plan}
use Rattle.mp_pattern.specs.Holds.{holds}
use Rattle.mp_table.specs.Table.{Table, rank_of}
use Rattle.mp_subst.specs.Bound.{Bound}
use Rattle.mp_subst.specs.Trail.{Trail, last_value, subst_in}
use Rattle.mp_cond.specs.declared.verdict.Verdict.{Verdict}
use Rattle.mp_cond.specs.declared.verdict.Verdict.TheVariants.{Yes, No, Later}

-- the forms are the same
abbrev pub same_form : Form → Form → Bool
same_form one_form one_form = true
same_form seq_form seq_form = true
same_form bag_form bag_form = true
same_form _ _ = false

-- there is a form, and a value of that form
abbrev pub is_in_form : Option Form → Option Bound → Bool
is_in_form (Some f) (Some b) = same_form f b.form
is_in_form _ _ = false

module _ (p : Plan) (trail : Trail) where
  -- the variable of that number is bound in the form that the plan has for it
  abbrev pub is_bound_in_form : Option ℕ → Bool
  is_bound_in_form None = false
  is_bound_in_form (Some n) =
      is_in_form (option_map (λ x. x.form) (slice_get p.variables n)) (last_value trail.stack n)

  -- the operand is a ground term, or such a variable
  abbrev pub is_settled : Operand → Bool
  is_settled (ground t) = true
  is_settled (var x) = is_bound_in_form (position (λ v. same_name x v.name) p.variables)

  -- so is each operand of the condition
  abbrev pub are_settled : Cond → Bool
  are_settled c = list_all is_settled (operands c)

-- Later where an operand isn't settled, else whether the condition holds of the variables that are bound
abbrev pub verdict : Sig → Table → Plan → Trail → Cond → Verdict
verdict sig t p trail c =
    if are_settled p trail c then (if holds sig (subst_in t p.variables trail) c then Yes else No) else Later

-- the table holds the term of the operand, if it is a ground term
abbrev pub IsHeld : Table → Operand → Type 0
IsHeld t (var x) = ⊤
IsHeld t (ground u) = IsSome (rank_of t u)

-- the table holds each ground term of the condition
abbrev pub AreHeld : Table → Cond → Type 0
AreHeld t c = AllByRecursion (IsHeld t) (operands c)
