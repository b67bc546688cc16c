-- Computed examples of plans and of what has none.
use Rattle.std.proofs.Common.{◌≡◌, ℕ, zero, suc, true, false, List, [], ◌∷◌, refl, replicate}
use Rattle.std.specs.Prelude.{Some, None, codes}
use Rattle.mp_pattern.specs.PatternTree.{dot, kind, plus, star, optional, counted, Pattern, wild_pattern}
use Rattle.mp_pattern.specs.Value.{one_form, seq_form, bag_form}
use Rattle.mp_pattern.specs.Clash.{first_clash}
use Rattle.mp_pattern.specs.Plan.{symbol_label, app_label, wild_label, plan_of}
use Rattle.mp_pattern.specs.declared.compile.PlanFault.TheVariants.{LooseSequence, TooManyNodes, TooManyVars}
use Rattle.mp_pattern.specs.PlanFault.{plan_fault}
use Rattle.mp_pattern.proofs.ExampleWords.{sig, f, set, list, sum, num, v, pattern, a, b, nought, a_pattern, x_, y_, z_}
use Rattle.mp_pattern.proofs.ExampleWords.{unnamed}

-- f(set(x__, y___), list(a, x__, _), z_v)
mixed : Pattern
mixed = pattern f (pattern set (x_ plus ∷ y_ star ∷ []) ∷ pattern list (a_pattern ∷ x_ plus ∷ unnamed dot ∷ [])
    ∷ z_ (kind v) ∷ [])

-- nine nodes and three variables: x is a tuple by its use under list, y a multiset, z one term
plan_of_mixed : plan_of sig mixed ≡ record {
  pattern = mixed;
  nodes =
      record { label = app_label f; end = 9; parent = None }
      ∷ record { label = app_label set; end = 4; parent = Some 0 }
      ∷ record { label = wild_label plus (Some 0); end = 3; parent = Some 1 }
      ∷ record { label = wild_label star (Some 1); end = 4; parent = Some 1 }
      ∷ record { label = app_label list; end = 8; parent = Some 0 }
      ∷ record { label = symbol_label (codes "a"); end = 6; parent = Some 4 }
      ∷ record { label = wild_label plus (Some 0); end = 7; parent = Some 4 }
      ∷ record { label = wild_label dot None; end = 8; parent = Some 4 }
      ∷ record { label = wild_label (kind v) (Some 2); end = 9; parent = Some 0 }
      ∷ [];
  variables =
      record { name = codes "x"; form = seq_form }
      ∷ record { name = codes "y"; form = bag_form }
      ∷ record { name = codes "z"; form = one_form }
      ∷ [];
}
unfolding mixed
plan_of_mixed = refl

-- the pattern is taken as it stands: sum(sum(x_)) has three nodes
plan_of_a_nested_sum : plan_of sig (pattern sum (pattern sum (x_ dot ∷ []) ∷ [])) ≡ record {
  pattern = pattern sum (pattern sum (x_ dot ∷ []) ∷ []);
  nodes =
      record { label = app_label sum; end = 3; parent = None }
      ∷ record { label = app_label sum; end = 3; parent = Some 0 }
      ∷ record { label = wild_label dot (Some 0); end = 3; parent = Some 1 }
      ∷ [];
  variables = record { name = codes "x"; form = one_form } ∷ [];
}
plan_of_a_nested_sum = refl

-- f(x_, x__), and the kinds and defaults of one variable
other_class_clashes : first_clash (pattern f (x_ dot ∷ x_ plus ∷ [])) ≡ Some 2
other_class_clashes = refl

other_kind_clashes : first_clash (pattern f (x_ (kind num) ∷ y_ dot ∷ x_ (kind v) ∷ [])) ≡ Some 3
other_kind_clashes = refl

other_default_clashes : first_clash (pattern f (x_ (optional a) ∷ x_ (optional b) ∷ [])) ≡ Some 2
other_default_clashes = refl

-- x_{2} beside x_{3}, and beside x_{2+}
other_count_clashes : first_clash (pattern f (x_ (counted 2 true) ∷ x_ (counted 3 true) ∷ [])) ≡ Some 2
other_count_clashes = refl

open_count_clashes : first_clash (pattern f (x_ (counted 2 true) ∷ x_ (counted 2 false) ∷ [])) ≡ Some 2
open_count_clashes = refl

same_default_does_not_clash : first_clash (pattern f (x_ (optional a) ∷ x_ (optional a) ∷ [])) ≡ None
same_default_does_not_clash = refl

-- wildcards without names, or of two variables, may differ
other_variables_do_not_clash : first_clash (pattern f (unnamed dot ∷ unnamed plus ∷ x_ star ∷ y_ dot ∷ x_ star ∷ []))
    ≡ None
other_variables_do_not_clash = refl

-- x__, x_:0 and x_{2} are loose, _ isn't
loose_plus : plan_fault (x_ plus) ≡ Some LooseSequence
loose_plus = refl

loose_optional : plan_fault (x_ (optional nought)) ≡ Some LooseSequence
loose_optional = refl

loose_counted : plan_fault (x_ (counted 2 true)) ≡ Some LooseSequence
loose_counted = refl

dot_at_the_root : plan_fault (unnamed dot) ≡ None
dot_at_the_root = refl

-- f of 127 and of 128 symbols
most_nodes : plan_fault (pattern f (replicate 127 a_pattern)) ≡ None
most_nodes = refl

too_many_nodes : plan_fault (pattern f (replicate 128 a_pattern)) ≡ Some (TooManyNodes 129)
too_many_nodes = refl

-- a dot of each of the variables 1 .. n, named by so many letters
dots : ℕ → List Pattern
dots zero = []
dots (suc n) = wild_pattern dot (Some (replicate (suc n) 97)) ∷ dots n

thirty_two_variables : plan_fault (pattern f (dots 32)) ≡ None
unfolding dots
thirty_two_variables = refl

thirty_three_variables : plan_fault (pattern f (x_ plus ∷ x_ star ∷ dots 32)) ≡ Some (TooManyVars 33)
unfolding dots
thirty_three_variables = refl
