-- Computed examples of the definitions.
use mathlib.Core.Bool.{true≢false}
use Rattle.std.proofs.Common.{◌≡◌, Bool, List, [], ◌∷◌, true, false, refl, inl, inr, sym, ◌∙◌, ap}
use Rattle.std.specs.Prelude.{None, Some, codes, length, ◌++◌}
use Rattle.std.specs.declared.cmp.Ordering.TheVariants.{Less}
use Rattle.mp_term.specs.Tree.{Tree, symbol}
use Rattle.mp_term.specs.Order.{tree_cmp}
use Rattle.mp_term.specs.Sorting.{sorted}
use Rattle.mp_term.specs.Normal.{normal}
use Rattle.mp_pattern.specs.PatternTree.{dot, kind, plus, star, optional, counted, Pattern, symbol_pattern}
use Rattle.mp_pattern.specs.PatternTree.{patterns}
use Rattle.mp_pattern.specs.TemplateTree.{app_template, variable_template, templates}
use Rattle.mp_pattern.specs.declared.condition.Sense.TheVariants.{Lt, Ge}
use Rattle.mp_pattern.specs.CondTree.{var, ground, fixed, count, size, amounts, same, less, free, of_kind, headed}
use Rattle.mp_pattern.specs.CondTree.{negation, all_of, any_of, conds}
use Rattle.mp_pattern.specs.Order.{pattern_cmp}
use Rattle.mp_pattern.specs.Normal.{normal_pattern}
use Rattle.mp_pattern.specs.Value.{one, seq, bag, one_form, seq_form, bag_form, Subst, merge}
use Rattle.mp_pattern.specs.Variables.{variables, variable_form}
use Rattle.mp_pattern.specs.Contribution.{contribution}
use Rattle.mp_pattern.specs.Fits.{Entry, Table, joined, Fits, WildTakes, ByValue, AllTakeBy}
use Rattle.mp_pattern.specs.DerivationOrder.{table_cmp}
use Rattle.mp_pattern.specs.Holds.{holds}
use Rattle.mp_pattern.specs.Instance.{instances, pattern_instances}
use Rattle.mp_pattern.specs.Lists.{subst_cmp}
use Rattle.mp_pattern.proofs.ExampleWords.{sig, f, set, list, sum, product, num, v, term, pattern, a, b, c, d, nought}
use Rattle.mp_pattern.proofs.ExampleWords.{a_pattern, x_, y_, z_, unnamed, x→, y→, z→, entry, collapsed_entry}

-- NORMAL FORM AND ORDER OF PATTERNS

-- sum(x___, a, sum(y_, b)) is flattened and sorted: ground patterns, then the dot, then the star
sum_flattened_and_sorted : normal_pattern sig
    (pattern sum (x_ star ∷ a_pattern ∷ pattern sum (y_ dot ∷ symbol_pattern (codes "b") ∷ []) ∷ []))
    ≡ pattern sum (a_pattern ∷ symbol_pattern (codes "b") ∷ y_ dot ∷ x_ star ∷ [])
sum_flattened_and_sorted = refl

-- sum(x_) is x_
one_dot_collapses : normal_pattern sig (pattern sum (x_ dot ∷ [])) ≡ x_ dot
one_dot_collapses = refl

-- sum(x__), sum(x_:0) and sum(x_{2}) are kept
one_plus_is_kept : normal_pattern sig (pattern sum (x_ plus ∷ [])) ≡ pattern sum (x_ plus ∷ [])
one_plus_is_kept = refl

one_optional_is_kept : normal_pattern sig (pattern sum (x_ (optional nought) ∷ []))
    ≡ pattern sum (x_ (optional nought) ∷ [])
one_optional_is_kept = refl

one_counted_is_kept : normal_pattern sig (pattern sum (x_ (counted 2 true) ∷ []))
    ≡ pattern sum (x_ (counted 2 true) ∷ [])
one_counted_is_kept = refl

-- product(sum(x__)) is sum(x__): the argument is an application
kept_application_is_no_wildcard : normal_pattern sig (pattern product (pattern sum (x_ plus ∷ []) ∷ []))
    ≡ pattern sum (x_ plus ∷ [])
kept_application_is_no_wildcard = refl

-- b, f(a), f(x_), x_v, _v, x_, y_, _, x_:0, x__, x___ stand in the pattern order
patterns_in_order : sorted pattern_cmp (x_ star ∷ x_ plus ∷ x_ (optional nought) ∷ unnamed dot ∷ y_ dot ∷ x_ dot
    ∷ unnamed (kind v) ∷ x_ (kind v) ∷ pattern f (x_ dot ∷ []) ∷ pattern f (a_pattern ∷ []) ∷ symbol_pattern (codes "b")
    ∷ [])
    ≡ symbol_pattern (codes "b") ∷ pattern f (a_pattern ∷ []) ∷ pattern f (x_ dot ∷ []) ∷ x_ (kind v) ∷ unnamed (kind v)
    ∷ x_ dot ∷ y_ dot ∷ unnamed dot ∷ x_ (optional nought) ∷ x_ plus ∷ x_ star ∷ []
patterns_in_order = refl

-- x_:0, x_{2}, x_{2+}, x_{3}, y_{2}, _{2}, x__ stand in the pattern order
counts_in_order : sorted pattern_cmp (x_ plus ∷ unnamed (counted 2 true) ∷ y_ (counted 2 true) ∷ x_ (counted 3 true)
    ∷ x_ (counted 2 false) ∷ x_ (counted 2 true) ∷ x_ (optional nought) ∷ [])
    ≡ x_ (optional nought) ∷ x_ (counted 2 true) ∷ x_ (counted 2 false) ∷ x_ (counted 3 true) ∷ y_ (counted 2 true)
    ∷ unnamed (counted 2 true) ∷ x_ plus ∷ []
counts_in_order = refl

-- applications that hold a wildcard: f(y_) before f(x_, x_), and that before set(x_)
fewer_arguments_first : pattern_cmp (pattern f (y_ dot ∷ [])) (pattern f (x_ dot ∷ x_ dot ∷ [])) ≡ Less
fewer_arguments_first = refl

declaration_number_first : pattern_cmp (pattern f (x_ dot ∷ x_ dot ∷ [])) (pattern set (x_ dot ∷ [])) ≡ Less
declaration_number_first = refl

-- VARIABLES AND THEIR FORMS

-- f(set(x__), list(y___, x__), z_): x, y, z by first occurrence
mixed : Pattern
mixed = pattern f (pattern set (x_ plus ∷ []) ∷ pattern list (y_ star ∷ x_ plus ∷ []) ∷ z_ dot ∷ [])

variables_by_first_occurrence : variables mixed ≡ codes "x" ∷ codes "y" ∷ codes "z" ∷ []
unfolding mixed
variables_by_first_occurrence = refl

-- x is a tuple, since it stands under list, which isn't commutative, once
one_ordered_use_makes_a_tuple : variable_form sig mixed (codes "x") ≡ seq_form
unfolding mixed
one_ordered_use_makes_a_tuple = refl

a_dot_is_one_term : variable_form sig mixed (codes "z") ≡ one_form
unfolding mixed
a_dot_is_one_term = refl

commutative_uses_make_a_multiset : variable_form sig (pattern set (pattern sum (x_ star ∷ []) ∷ x_ star ∷ []))
    (codes "x") ≡ bag_form
commutative_uses_make_a_multiset = refl

a_counted_use_makes_a_tuple : variable_form sig (pattern list (x_ (counted 2 true) ∷ [])) (codes "x") ≡ seq_form
a_counted_use_makes_a_tuple = refl

-- MERGING

equal_terms_merge : merge (one a) (one a) ≡ Some (one a)
equal_terms_merge = refl

other_terms_do_not_merge : merge (one a) (one b) ≡ None
other_terms_do_not_merge = refl

tuples_in_another_order_do_not_merge : merge (seq (a ∷ b ∷ [])) (seq (b ∷ a ∷ [])) ≡ None
tuples_in_another_order_do_not_merge = refl

-- a multiset and a tuple of the same elements give the tuple, in either order
multiset_and_tuple_give_the_tuple : merge (bag (a ∷ b ∷ [])) (seq (b ∷ a ∷ [])) ≡ Some (seq (b ∷ a ∷ []))
multiset_and_tuple_give_the_tuple = refl

tuple_and_multiset_give_the_tuple : merge (seq (b ∷ a ∷ [])) (bag (a ∷ b ∷ [])) ≡ Some (seq (b ∷ a ∷ []))
tuple_and_multiset_give_the_tuple = refl

-- multiplicities count
other_multiplicity_does_not_merge : merge (bag (a ∷ a ∷ [])) (seq (a ∷ [])) ≡ None
other_multiplicity_does_not_merge = refl

-- a term and a tuple of it have different forms
term_and_tuple_do_not_merge : merge (one a) (seq (a ∷ [])) ≡ None
term_and_tuple_do_not_merge = refl

-- CONTRIBUTION

-- under list, which is associative, list(a, b) contributes its arguments
own_head_contributes_arguments : contribution sig (Some list) (term list (a ∷ b ∷ [])) ≡ Some (a ∷ b ∷ [])
own_head_contributes_arguments = refl

-- list(a) and list() contribute nothing, not even the empty list
fewer_than_two_do_not_contribute : contribution sig (Some list) (term list (a ∷ [])) ≡ None
fewer_than_two_do_not_contribute = refl

empty_application_does_not_contribute : contribution sig (Some list) (term list []) ≡ None
empty_application_does_not_contribute = refl

-- another head, an operation that isn't associative, and the root: the term alone
other_head_contributes_itself : contribution sig (Some list) (term f (a ∷ b ∷ [])) ≡ Some (term f (a ∷ b ∷ []) ∷ [])
other_head_contributes_itself = refl

free_operation_takes_one_term : contribution sig (Some f) (term f (a ∷ b ∷ [])) ≡ Some (term f (a ∷ b ∷ []) ∷ [])
free_operation_takes_one_term = refl

root_takes_the_subject : contribution sig None (term list (a ∷ [])) ≡ Some (term list (a ∷ []) ∷ [])
root_takes_the_subject = refl

-- TAKE TABLES

-- sum(x_, y_) and sum(a, b, c)
two_dots : Pattern
two_dots = pattern sum (x_ dot ∷ y_ dot ∷ [])

abc : Tree
abc = term sum (a ∷ b ∷ c ∷ [])

-- x takes a, and y takes b and c: x -> a, y -> sum(b, c)
dot_takes_several : Fits sig two_dots abc (x→ (one a) ∷ y→ (one (term sum (b ∷ c ∷ []))) ∷ [])
    (entry (abc ∷ []) ∷ entry (a ∷ []) ∷ entry (b ∷ c ∷ []) ∷ [])
unfolding two_dots abc
dot_takes_several = record {
  subst_of = record { names = refl; forms = (refl, (refl, tt)); final = (refl, (refl, tt)) };
  takes = inl (record {
    takes = (a ∷ []) ∷ (b ∷ c ∷ []) ∷ [];
    tables = (entry (a ∷ []) ∷ []) ∷ (entry (b ∷ c ∷ []) ∷ []) ∷ [];
    children = (((one a, refl, refl), refl), (((one (term sum (b ∷ c ∷ [])), refl, refl), refl), tt));
    node = refl;
    table = refl;
  });
}

-- with y at b alone, c is taken by no child
c_left_over : Table
c_left_over = entry (abc ∷ []) ∷ entry (a ∷ []) ∷ entry (b ∷ []) ∷ []

joined_takes : (s : Subst) (e : Entry) (ls : List (List Tree)) (Ts : List Table)
    → AllTakeBy sig (ByValue sig s) sum (patterns (x_ dot ∷ y_ dot ∷ [])) ls Ts → c_left_over ≡ e ∷ joined Ts
    → joined ls ≡ a ∷ b ∷ []
unfolding c_left_over abc
joined_takes s e (l ∷ m ∷ []) (T ∷ U ∷ []) h q =
    let both : T ++ (U ++ []) ≡ entry l ∷ entry m ∷ [] = rw (h.0.1, h.1.0.1) refl in
    let p : entry l ≡ entry (a ∷ []) = cc in
    let r : entry m ≡ entry (b ∷ []) = cc in
    let first : l ≡ a ∷ [] = ap (λ e. e.terms) p in
    let second : m ≡ b ∷ [] = ap (λ e. e.terms) r in
    rw (first, second) refl
joined_takes s e [] Ts h q = absurd h
joined_takes s e (l ∷ ls) [] h q = absurd h
joined_takes s e (l ∷ []) (T ∷ Ts) h q = absurd h.1
joined_takes s e (l ∷ m ∷ ls) (T ∷ []) h q = absurd h.1
joined_takes s e (l ∷ m ∷ n ∷ ls) (T ∷ U ∷ Ts) h q = absurd h.1.1
joined_takes s e (l ∷ m ∷ []) (T ∷ U ∷ V ∷ Ts) h q = absurd h.1.1

first_collapsed : Bool → Table → Bool
first_collapsed u [] = u
first_collapsed u (e ∷ T) = e.collapsed

left_over_term_does_not_fit : (s : Subst) → Fits sig two_dots abc s c_left_over → ⊥
unfolding two_dots abc c_left_over first_collapsed
left_over_term_does_not_fit s h =
    elim h.takes [
      | inl t ↦ let wrong : abc ∷ [] ≡ term sum (a ∷ b ∷ []) ∷ [] =
          t.node ∙ ap (λ ts. term sum (sorted tree_cmp ts) ∷ [])
          (joined_takes s _ t.takes t.tables t.children t.table) in cc
      | inr t ↦ let p : true ≡ false = sym (ap (first_collapsed false) t.table) in absurd (true≢false p)
    ]

-- sum(x_, y_:0) on a, collapsed: x takes a and y is left out
collapsed_round_an_optional : Fits sig (pattern sum (x_ dot ∷ y_ (optional nought) ∷ [])) a
    (x→ (one a) ∷ y→ (one nought) ∷ []) (collapsed_entry (a ∷ []) ∷ entry (a ∷ []) ∷ entry [] ∷ [])
collapsed_round_an_optional = record {
  subst_of = record { names = refl; forms = (refl, (refl, tt)); final = (refl, (refl, tt)) };
  takes = inr (record {
    takes = (a ∷ []) ∷ [] ∷ [];
    tables = (entry (a ∷ []) ∷ []) ∷ (entry [] ∷ []) ∷ [];
    children = (((one a, refl, refl), refl), (((one nought, refl, inr (refl, refl)), refl), tt));
    identity = refl;
    plain = refl;
    left_out = refl;
    term = a;
    node = refl;
    together = refl;
    table = refl;
  });
}

-- f(x_{2}, y_{1+}) on f(a, b, c), with a count of two: x takes a and b, and y takes c
count_of_two : Fits sig (pattern f (x_ (counted 2 true) ∷ y_ plus ∷ [])) (term f (a ∷ b ∷ c ∷ []))
    (x→ (seq (a ∷ b ∷ [])) ∷ y→ (seq (c ∷ [])) ∷ [])
    (entry (term f (a ∷ b ∷ c ∷ []) ∷ []) ∷ entry (a ∷ b ∷ []) ∷ entry (c ∷ []) ∷ [])
count_of_two = record {
  subst_of = record { names = refl; forms = (refl, (refl, tt)); final = ((refl, (refl, tt)), ((refl, tt), tt)) };
  takes = inl (record {
    takes = (a ∷ b ∷ []) ∷ (c ∷ []) ∷ [];
    tables = (entry (a ∷ b ∷ []) ∷ []) ∷ (entry (c ∷ []) ∷ []) ∷ [];
    children = (((seq (a ∷ b ∷ []), refl, (refl, refl)), refl), (((seq (c ∷ []), refl, (refl, λ e. cc)), refl), tt));
    node = refl;
    table = refl;
  });
}

-- a fixed count of two is met by two terms alone, and an open one by two or more
fixed_count_refuses_three : (l : List Tree) → WildTakes sig (Some f) (counted 2 true) (seq (a ∷ b ∷ c ∷ [])) l → ⊥
fixed_count_refuses_three l h = let wrong : length l ≡ 3 = ap length h.0 in cc

open_count_refuses_one : (l : List Tree) → WildTakes sig (Some f) (counted 2 false) (seq (a ∷ [])) l → ⊥
open_count_refuses_one l h = let wrong : length l ≡ 1 = ap length h.0 in cc

-- DERIVATION ORDER

-- the first entry that differs decides: the shorter list is less, then the term order
shorter_take_first : table_cmp (entry (a ∷ []) ∷ entry (b ∷ c ∷ []) ∷ []) (entry (a ∷ b ∷ []) ∷ entry (c ∷ []) ∷ [])
    ≡ Less
shorter_take_first = refl

term_order_next : table_cmp (entry (a ∷ []) ∷ entry (d ∷ []) ∷ []) (entry (b ∷ []) ∷ entry (c ∷ []) ∷ []) ≡ Less
term_order_next = refl

by_arguments_before_collapsed : table_cmp (entry (a ∷ []) ∷ entry (b ∷ []) ∷ [])
    (collapsed_entry (a ∷ []) ∷ entry (a ∷ []) ∷ []) ≡ Less
by_arguments_before_collapsed = refl

-- a node before its children: set(set(a, d), ..) comes before set(set(b, c), ..), whatever x takes within
parent_decides_first : table_cmp (entry (term set (a ∷ d ∷ []) ∷ []) ∷ entry (d ∷ []) ∷ [])
    (entry (term set (b ∷ c ∷ []) ∷ []) ∷ entry (b ∷ []) ∷ []) ≡ Less
parent_decides_first = refl

-- substitutions compare variable by variable, a tuple by its length first
shorter_tuple_first : subst_cmp (x→ (seq (c ∷ [])) ∷ y→ (one b) ∷ []) (x→ (seq (a ∷ b ∷ [])) ∷ y→ (one a) ∷ []) ≡ Less
shorter_tuple_first = refl

-- CONDITIONS

-- x -> (b, a), y -> {a, b}, z -> a
three : Subst
three = x→ (seq (b ∷ a ∷ [])) ∷ y→ (bag (a ∷ b ∷ [])) ∷ z→ (one a) ∷ []

-- a tuple beside a multiset: equal as multisets
multiset_beside_tuple_is_same : holds sig three (same (var (codes "x")) (var (codes "y"))) ≡ true
unfolding three
multiset_beside_tuple_is_same = refl

-- two tuples: equal as lists
tuples_in_another_order_are_not_same : holds sig (x→ (seq (a ∷ b ∷ [])) ∷ y→ (seq (b ∷ a ∷ [])) ∷ [])
    (same (var (codes "x")) (var (codes "y"))) ≡ false
tuples_in_another_order_are_not_same = refl

-- a tuple of one term and the term
tuple_of_one_is_same : holds sig (x→ (seq (a ∷ [])) ∷ []) (same (var (codes "x")) (ground a)) ≡ true
tuple_of_one_is_same = refl

-- on the empty list kind and head hold
empty_list_is_of_every_kind : holds sig (x→ (seq []) ∷ []) (of_kind (var (codes "x")) num) ≡ true
empty_list_is_of_every_kind = refl

empty_list_has_every_head : holds sig (x→ (bag []) ∷ []) (headed (var (codes "x")) f) ≡ true
empty_list_has_every_head = refl

-- one term of another kind is enough to refuse
one_other_kind_refuses : holds sig (x→ (seq (symbol (codes "7") ∷ a ∷ [])) ∷ []) (of_kind (var (codes "x")) num) ≡ false
one_other_kind_refuses = refl

-- a is a subterm of f(set(a)), and f(set(a)) is none of a
subterm_is_not_free : holds sig [] (free (ground a) (ground (term f (term set (a ∷ []) ∷ [])))) ≡ false
subterm_is_not_free = refl

larger_term_is_free : holds sig [] (free (ground (term f (term set (a ∷ []) ∷ []))) (ground a)) ≡ true
larger_term_is_free = refl

-- less compares single terms, and holds of no tuple
smaller_term_is_less : holds sig three (less (var (codes "z")) (ground b)) ≡ true
unfolding three
smaller_term_is_less = refl

tuple_is_not_less : holds sig three (less (var (codes "x")) (ground (term f []))) ≡ false
unfolding three
tuple_is_not_less = refl

-- count is the number of terms, size their nodes together
two_terms_of_three_nodes : holds sig (x→ (seq (a ∷ term f (b ∷ []) ∷ [])) ∷ [])
    (all_of (conds (amounts (count (var (codes "x"))) Lt (fixed 3) ∷ amounts (size (var (codes "x"))) Ge (fixed 3)
    ∷ []))) ≡ true
two_terms_of_three_nodes = refl

some_part_is_enough : holds sig three
    (any_of (conds (same (var (codes "z")) (ground b) ∷ negation (same (var (codes "z")) (ground b)) ∷ []))) ≡ true
unfolding three
some_part_is_enough = refl

-- INSTANCES

-- sum($y, f($x), $z): the values of y and x are spliced in
spliced : instances three
    (app_template sum
    (templates (variable_template (codes "y") ∷ app_template f (templates (variable_template (codes "x") ∷ []))
    ∷ variable_template (codes "z") ∷ []))) ≡ term sum (a ∷ b ∷ term f (b ∷ a ∷ []) ∷ a ∷ []) ∷ []
unfolding three
spliced = refl

-- and normalised
spliced_and_normalised : normal sig (term sum (a ∷ b ∷ term f (b ∷ a ∷ []) ∷ a ∷ []))
    ≡ term sum (a ∷ a ∷ b ∷ term f (b ∷ a ∷ []) ∷ [])
spliced_and_normalised = refl

-- sum(x_, y_) at x -> a, y -> sum(b, c), before normalising and after
pattern_instance : pattern_instances (x→ (one a) ∷ y→ (one (term sum (b ∷ c ∷ []))) ∷ [])
    (pattern sum (x_ dot ∷ y_ dot ∷ [])) ≡ term sum (a ∷ term sum (b ∷ c ∷ []) ∷ []) ∷ []
pattern_instance = refl

pattern_instance_is_the_subject : normal sig (term sum (a ∷ term sum (b ∷ c ∷ []) ∷ [])) ≡ term sum (a ∷ b ∷ c ∷ [])
pattern_instance_is_the_subject = refl
