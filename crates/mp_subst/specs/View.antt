-- The plain data that values, bindings, substitutions and pairs are read as.
use Rattle.mp_term.specs.View.{tree}
use Rattle.mp_pattern.specs.Value as plain
use Rattle.mp_pattern.specs.Lists as lists
use Rattle.mp_subst.specs.declared.value.Value.{Value}
use Rattle.mp_subst.specs.declared.value.Value.TheVariants.{One, Seq, Bag}
use Rattle.mp_subst.specs.declared.subst.Binding.{Binding}
use Rattle.mp_subst.specs.declared.subst.Subst.{Subst}
use Rattle.mp_subst.specs.declared.pair.Pair.{Pair}

-- a value with the trees of its terms
abbrev pub value_of : Value → plain.Value
value_of (One t) = plain.one (tree t)
value_of (Seq ts) = plain.seq ts
value_of (Bag ts) = plain.bag ts

-- a variable with its plain value
abbrev pub binding_of : Binding → plain.Binding
binding_of b = record { name = b.name; value = value_of b.value }

-- the bindings in order
abbrev pub subst_of : Subst → plain.Subst
subst_of s = s.bindings

-- the number of a rule with the plain substitution
abbrev pub pair_of : Pair → lists.Pair
pair_of p = (p.rule, subst_of p.subst)
