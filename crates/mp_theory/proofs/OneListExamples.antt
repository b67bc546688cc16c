-- The one-list of rules and subjects, computed.
use Rattle.std.proofs.Common.{◌≡◌, ℕ, List, [], ◌∷◌, map, true, false, refl}
use Rattle.std.specs.Prelude.{None, Some, codes}
use Rattle.mp_term.specs.Order.{tree_cmp}
use Rattle.mp_term.specs.Tree.{Tree, symbol}
use Rattle.mp_pattern.specs.PatternTree.{dot, kind, plus, star, counted, optional, Pattern, wild_pattern}
use Rattle.mp_pattern.specs.CondTree.{var, fixed, count, size, Cond, amounts, same, free, negation, all_of, conds}
use Rattle.mp_pattern.specs.declared.condition.Sense.TheVariants.{Gt, Ge}
use Rattle.mp_pattern.specs.Value.{one, seq, bag}
use Rattle.mp_pattern.specs.Admission.{Rule}
use Rattle.mp_pattern.proofs.ExampleWords.{sig, f, set, list, sum, product, num, v, term, pattern, a, b, c, d, nought}
use Rattle.mp_pattern.proofs.ExampleWords.{x_, y_, z_, unnamed, x→, y→, z→, entry, collapsed_entry}
use Rattle.mp_term.specs.Pieces.{sub_bags}
use Rattle.mp_theory.specs.OneList.{one_list}
use Rattle.mp_theory.specs.Trail.{fitted}

-- the rule that has the pattern alone, and one with a condition
abbrev plain : Pattern → Rule
plain p = record { name = codes "r"; pattern = p; template = None; condition = None }

abbrev guarded : Pattern → Cond → Rule
guarded p k = record { name = codes "r"; pattern = p; template = None; condition = Some k }

-- FREE OPERATIONS

-- f(x_, y_) on f(a, b)
each_dot_takes_its_argument : one_list sig (plain (pattern f (x_ dot ∷ y_ dot ∷ []))) (term f (a ∷ b ∷ []))
    ≡ (x→ (one a) ∷ y→ (one b) ∷ []) ∷ []
each_dot_takes_its_argument = refl

-- f(x_, x_) on f(a, b)
one_variable_has_one_value : one_list sig (plain (pattern f (x_ dot ∷ x_ dot ∷ []))) (term f (a ∷ b ∷ [])) ≡ []
one_variable_has_one_value = refl

-- f(x_v, y_num) on f(y, 7) and f(c, 7)
symbol_of_the_kind : one_list sig (plain (pattern f (x_ (kind v) ∷ y_ (kind num) ∷ [])))
    (term f (symbol (codes "y") ∷ symbol (codes "7") ∷ []))
    ≡ (x→ (one (symbol (codes "y"))) ∷ y→ (one (symbol (codes "7"))) ∷ []) ∷ []
symbol_of_the_kind = refl

symbol_of_no_such_kind : one_list sig (plain (pattern f (x_ (kind v) ∷ y_ (kind num) ∷ [])))
    (term f (c ∷ symbol (codes "7") ∷ [])) ≡ []
symbol_of_no_such_kind = refl

-- ASSOCIATIVE OPERATIONS

-- list(x_, y_) on list(a, b, c)
dots_share_the_arguments : one_list sig (plain (pattern list (x_ dot ∷ y_ dot ∷ []))) (term list (a ∷ b ∷ c ∷ []))
    ≡ (x→ (one a) ∷ y→ (one (term list (b ∷ c ∷ []))) ∷ []) ∷ (x→ (one (term list (a ∷ b ∷ []))) ∷ y→ (one c) ∷ []) ∷ []
dots_share_the_arguments = refl

-- list(x_) on list(a): list(a) itself contributes nothing to list
one_argument_is_the_term : one_list sig (plain (pattern list (x_ dot ∷ []))) (term list (a ∷ []))
    ≡ (x→ (one a) ∷ []) ∷ []
one_argument_is_the_term = refl

-- COMMUTATIVE OPERATIONS

-- set(x_, y_) on set(a, b)
dots_take_either_argument : one_list sig (plain (pattern set (x_ dot ∷ y_ dot ∷ []))) (term set (a ∷ b ∷ []))
    ≡ (x→ (one a) ∷ y→ (one b) ∷ []) ∷ (x→ (one b) ∷ y→ (one a) ∷ []) ∷ []
dots_take_either_argument = refl

-- set(x_, y_) on set(a, a)
equal_arguments_give_one_match : one_list sig (plain (pattern set (x_ dot ∷ y_ dot ∷ []))) (term set (a ∷ a ∷ []))
    ≡ (x→ (one a) ∷ y→ (one a) ∷ []) ∷ []
equal_arguments_give_one_match = refl

-- set(x__, y___) on set(a, a)
sequences_share_equal_arguments : one_list sig (plain (pattern set (x_ plus ∷ y_ star ∷ []))) (term set (a ∷ a ∷ []))
    ≡ (x→ (bag (a ∷ [])) ∷ y→ (bag (a ∷ [])) ∷ []) ∷ (x→ (bag (a ∷ a ∷ [])) ∷ y→ (bag []) ∷ []) ∷ []
sequences_share_equal_arguments = refl

-- set(x_, _, __) on set(a, b, c): several tables, each substitution once
unnamed_wildcards_bind_nothing : one_list sig (plain (pattern set (x_ dot ∷ unnamed dot ∷ unnamed plus ∷ [])))
    (term set (a ∷ b ∷ c ∷ [])) ≡ (x→ (one a) ∷ []) ∷ (x→ (one b) ∷ []) ∷ (x→ (one c) ∷ []) ∷ []
unnamed_wildcards_bind_nothing = refl

-- f(set(x__), f(x__)) on f(set(a, b), f(b, a)): the tuple stands
multiset_that_is_a_tuple_elsewhere : one_list sig
    (plain (pattern f (pattern set (x_ plus ∷ []) ∷ pattern f (x_ plus ∷ []) ∷ [])))
    (term f (term set (a ∷ b ∷ []) ∷ term f (b ∷ a ∷ []) ∷ [])) ≡ (x→ (seq (b ∷ a ∷ [])) ∷ []) ∷ []
multiset_that_is_a_tuple_elsewhere = refl

-- set(sum(x_, y_), z_) on set(sum(a, d), sum(b, c)): the list follows the tables, whose second entry is what sum(x_,
-- y_) takes, and not the values of x
tables_decide_the_order : one_list sig (plain (pattern set (pattern sum (x_ dot ∷ y_ dot ∷ []) ∷ z_ dot ∷ [])))
    (term set (term sum (a ∷ d ∷ []) ∷ term sum (b ∷ c ∷ []) ∷ []))
    ≡ map (λ (s : Tree × (Tree × Tree)). x→ (one s.0) ∷ y→ (one s.1.0) ∷ z→ (one s.1.1) ∷ [])
    ((a, (d, term sum (b ∷ c ∷ []))) ∷ (d, (a, term sum (b ∷ c ∷ []))) ∷ (b, (c, term sum (a ∷ d ∷ [])))
    ∷ (c, (b, term sum (a ∷ d ∷ []))) ∷ [])
tables_decide_the_order = refl

-- ASSOCIATIVE AND COMMUTATIVE OPERATIONS

-- sum(x_, y_) on sum(a, b, c)
dots_share_a_sum : one_list sig (plain (pattern sum (x_ dot ∷ y_ dot ∷ []))) (term sum (a ∷ b ∷ c ∷ []))
    ≡ (x→ (one a) ∷ y→ (one (term sum (b ∷ c ∷ []))) ∷ []) ∷ (x→ (one b) ∷ y→ (one (term sum (a ∷ c ∷ []))) ∷ [])
    ∷ (x→ (one c) ∷ y→ (one (term sum (a ∷ b ∷ []))) ∷ [])
    ∷ (x→ (one (term sum (a ∷ b ∷ []))) ∷ y→ (one c) ∷ []) ∷ (x→ (one (term sum (a ∷ c ∷ []))) ∷ y→ (one b) ∷ [])
    ∷ (x→ (one (term sum (b ∷ c ∷ []))) ∷ y→ (one a) ∷ []) ∷ []
dots_share_a_sum = refl

-- COUNTED WILDCARDS

-- f(x_{2}, y_) on f(a, b, c), and on f(a, b)
fixed_count_takes_as_many : one_list sig (plain (pattern f (x_ (counted 2 true) ∷ y_ dot ∷ [])))
    (term f (a ∷ b ∷ c ∷ [])) ≡ (x→ (seq (a ∷ b ∷ [])) ∷ y→ (one c) ∷ []) ∷ []
fixed_count_takes_as_many = refl

fixed_count_takes_no_fewer : one_list sig (plain (pattern f (x_ (counted 2 true) ∷ y_ dot ∷ [])))
    (term f (a ∷ b ∷ [])) ≡ []
fixed_count_takes_no_fewer = refl

-- f(x_{2}, y___) and f(x_{2+}, y___) on f(a, b, c)
fixed_count_takes_no_more : one_list sig (plain (pattern f (x_ (counted 2 true) ∷ y_ star ∷ [])))
    (term f (a ∷ b ∷ c ∷ [])) ≡ (x→ (seq (a ∷ b ∷ [])) ∷ y→ (seq (c ∷ [])) ∷ []) ∷ []
fixed_count_takes_no_more = refl

open_count_takes_more : one_list sig (plain (pattern f (x_ (counted 2 false) ∷ y_ star ∷ [])))
    (term f (a ∷ b ∷ c ∷ [])) ≡ (x→ (seq (a ∷ b ∷ [])) ∷ y→ (seq (c ∷ [])) ∷ [])
    ∷ (x→ (seq (a ∷ b ∷ c ∷ [])) ∷ y→ (seq []) ∷ []) ∷ []
open_count_takes_more = refl

-- set(y_, x_{2+}) on set(a, a, b)
open_count_takes_a_multiset : one_list sig (plain (pattern set (y_ dot ∷ x_ (counted 2 false) ∷ [])))
    (term set (a ∷ a ∷ b ∷ [])) ≡ (y→ (one a) ∷ x→ (bag (a ∷ b ∷ [])) ∷ [])
    ∷ (y→ (one b) ∷ x→ (bag (a ∷ a ∷ [])) ∷ []) ∷ []
open_count_takes_a_multiset = refl

-- list(x_{2}, y_) on list(a, b, c): the count is one of arguments, and the value no list
counted_never_wraps : one_list sig (plain (pattern list (x_ (counted 2 true) ∷ y_ dot ∷ [])))
    (term list (a ∷ b ∷ c ∷ [])) ≡ (x→ (seq (a ∷ b ∷ [])) ∷ y→ (one c) ∷ []) ∷ []
counted_never_wraps = refl

-- sum(x_, y_:0, z_{2}) on a: a counted child forbids the collapse
no_collapse_round_a_count : one_list sig
    (plain (pattern sum (x_ dot ∷ y_ (optional nought) ∷ z_ (counted 2 true) ∷ [])))
    a ≡ []
no_collapse_round_a_count = refl

-- OPTIONAL WILDCARDS AND COLLAPSE

-- sum(x_, y_:0) on a
optional_left_out : one_list sig (plain (pattern sum (x_ dot ∷ y_ (optional nought) ∷ []))) a
    ≡ (x→ (one a) ∷ y→ (one nought) ∷ []) ∷ []
optional_left_out = refl

-- sum(x_:0, y_:0) on 0: either of them may be left out, and the substitution stands once
either_optional_left_out : one_list sig (plain (pattern sum (x_ (optional nought) ∷ y_ (optional nought) ∷ []))) nought
    ≡ (x→ (one nought) ∷ y→ (one nought) ∷ []) ∷ []
either_optional_left_out = refl

-- sum(x_:0) on a: the one child would have to take a and be left out
lone_optional_does_not_collapse : one_list sig (plain (pattern sum (x_ (optional nought) ∷ []))) a ≡ []
lone_optional_does_not_collapse = refl

-- sum(x_:0, y_, z___) on a: a star child forbids the collapse
no_collapse_round_a_star : one_list sig (plain (pattern sum (y_ dot ∷ x_ (optional nought) ∷ z_ star ∷ []))) a ≡ []
no_collapse_round_a_star = refl

-- sum(x_, y_:0) on sum(a, b), collapsed, x at the whole sum: a sum of two arguments isn't what it contributes to a sum,
-- so the dot doesn't take it as one term
collapsed_dot_takes_no_sum : fitted sig (pattern sum (x_ dot ∷ y_ (optional nought) ∷ [])) (term sum (a ∷ b ∷ []))
    (collapsed_entry (term sum (a ∷ b ∷ []) ∷ []) ∷ entry (term sum (a ∷ b ∷ []) ∷ []) ∷ entry [] ∷ []) ≡ None
collapsed_dot_takes_no_sum = refl

-- it is taken by arguments
dot_takes_the_whole_sum : fitted sig (pattern sum (x_ dot ∷ y_ (optional nought) ∷ [])) (term sum (a ∷ b ∷ []))
    (entry (term sum (a ∷ b ∷ []) ∷ []) ∷ entry (a ∷ b ∷ []) ∷ entry [] ∷ [])
    ≡ Some (x→ (one (term sum (a ∷ b ∷ []))) ∷ y→ (one nought) ∷ [])
dot_takes_the_whole_sum = refl

abbrev factor : List ℕ → Pattern
factor n = pattern product (x_ (kind v) ∷ wild_pattern (optional (symbol (codes "1"))) (Some n) ∷ [])

-- sum(product(x_v, c_:1), product(x_v, d_:1), r___) on sum(x, y, product(3, x))
like_terms : one_list sig
    (plain (pattern sum (factor (codes "c") ∷ factor (codes "d") ∷ wild_pattern star (Some (codes "r")) ∷ [])))
    (term sum (symbol (codes "x") ∷ symbol (codes "y") ∷ term product (symbol (codes "3") ∷ symbol (codes "x") ∷ [])
    ∷ []))
    ≡ map (λ (s : Tree × Tree). x→ (one (symbol (codes "x"))) ∷ record { name = codes "c"; value = one s.0 }
    ∷ record { name = codes "d"; value = one s.1 }
    ∷ record { name = codes "r"; value = bag (symbol (codes "y") ∷ []) } ∷ [])
    ((symbol (codes "1"), symbol (codes "3")) ∷ (symbol (codes "3"), symbol (codes "1")) ∷ [])
like_terms = refl

-- CONDITIONS

-- set(x__, y___) if count($x) >= 2 on set(a, a)
condition_cuts_the_list : one_list sig
    (guarded (pattern set (x_ plus ∷ y_ star ∷ [])) (amounts (count (var (codes "x"))) Ge (fixed 2)))
    (term set (a ∷ a ∷ [])) ≡ (x→ (bag (a ∷ a ∷ [])) ∷ y→ (bag []) ∷ []) ∷ []
condition_cuts_the_list = refl

-- f(x__, y__) if free($x, $y) and not size($x) > 1 on f(a, b, c)
condition_on_nodes : one_list sig
    (guarded (pattern f (x_ plus ∷ y_ plus ∷ []))
    (all_of (conds (free (var (codes "x")) (var (codes "y")) ∷ negation (amounts (size (var (codes "x"))) Gt (fixed 1))
    ∷ [])))) (term f (a ∷ b ∷ c ∷ []))
    ≡ (x→ (seq (a ∷ [])) ∷ y→ (seq (b ∷ c ∷ [])) ∷ []) ∷ []
condition_on_nodes = refl

-- f(set(x__), f(y__)) if same($x, $y) on f(set(a, b), f(b, a)): a multiset beside a tuple
condition_on_a_multiset : one_list sig (guarded (pattern f (pattern set (x_ plus ∷ []) ∷ pattern f (y_ plus ∷ []) ∷ []))
    (same (var (codes "x")) (var (codes "y")))) (term f (term set (a ∷ b ∷ []) ∷ term f (b ∷ a ∷ []) ∷ []))
    ≡ (x→ (bag (a ∷ b ∷ [])) ∷ y→ (seq (b ∷ a ∷ [])) ∷ []) ∷ []
condition_on_a_multiset = refl

-- ONE TABLE

-- sum(x_, y_) on sum(a, b, c), x at a and y at b, c: the substitution that the table fits with
table_decides_the_substitution : fitted sig (pattern sum (x_ dot ∷ y_ dot ∷ [])) (term sum (a ∷ b ∷ c ∷ []))
    (entry (term sum (a ∷ b ∷ c ∷ []) ∷ []) ∷ entry (a ∷ []) ∷ entry (b ∷ c ∷ []) ∷ [])
    ≡ Some (x→ (one a) ∷ y→ (one (term sum (b ∷ c ∷ []))) ∷ [])
table_decides_the_substitution = refl

-- and y at b alone: none
left_over_term_fits_with_nothing : fitted sig (pattern sum (x_ dot ∷ y_ dot ∷ [])) (term sum (a ∷ b ∷ c ∷ []))
    (entry (term sum (a ∷ b ∷ c ∷ []) ∷ []) ∷ entry (a ∷ []) ∷ entry (b ∷ []) ∷ []) ≡ None
left_over_term_fits_with_nothing = refl

-- SUB-MULTISETS

-- those of a, a, b, by shortlex
sub_multisets_by_shortlex : sub_bags tree_cmp (a ∷ a ∷ b ∷ [])
    ≡ [] ∷ (a ∷ []) ∷ (b ∷ []) ∷ (a ∷ a ∷ []) ∷ (a ∷ b ∷ []) ∷ (a ∷ a ∷ b ∷ []) ∷ []
sub_multisets_by_shortlex = refl
