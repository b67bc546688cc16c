-- Computed examples of merging and of the order, beside those of mp_pattern.
use Rattle.std.proofs.Common.{◌≡◌, [], ◌∷◌, refl}
use Rattle.std.specs.Prelude.{Some, None}
use Rattle.std.specs.declared.cmp.Ordering.TheVariants.{Less, Equal, Greater}
use Rattle.mp_pattern.specs.Value.{one, seq, bag, merge}
use Rattle.mp_pattern.specs.Lists.{value_cmp, subst_cmp}
use Rattle.mp_pattern.proofs.ExampleWords.{f, term, a, b, c, x→, y→}

-- MERGING

-- {b, a}, which isn't sorted, and (a, b)
unsorted_multiset_merges : merge (bag (b ∷ a ∷ [])) (seq (a ∷ b ∷ [])) ≡ Some (seq (a ∷ b ∷ []))
unsorted_multiset_merges = refl

-- equal multisets
equal_multisets_merge : merge (bag (a ∷ b ∷ [])) (bag (a ∷ b ∷ [])) ≡ Some (bag (a ∷ b ∷ []))
equal_multisets_merge = refl

-- {a, a, b} and {a, b, b}
multisets_of_one_length_do_not_merge : merge (bag (a ∷ a ∷ b ∷ [])) (bag (a ∷ b ∷ b ∷ [])) ≡ None
multisets_of_one_length_do_not_merge = refl

-- {} and ()
empty_multiset_and_empty_tuple_give_the_tuple : merge (bag []) (seq []) ≡ Some (seq [])
empty_multiset_and_empty_tuple_give_the_tuple = refl

-- a and {a}
term_and_multiset_do_not_merge : merge (one a) (bag (a ∷ [])) ≡ None
term_and_multiset_do_not_merge = refl

-- THE ORDER

-- f(c) before (): a term before a tuple
term_before_tuple : value_cmp (one (term f (c ∷ []))) (seq []) ≡ Less
term_before_tuple = refl

-- (c, c) before {a}: a tuple before a multiset
tuple_before_multiset : value_cmp (seq (c ∷ c ∷ [])) (bag (a ∷ [])) ≡ Less
tuple_before_multiset = refl

-- {b} before {a, a}: the shorter one first
shorter_multiset_first : value_cmp (bag (b ∷ [])) (bag (a ∷ a ∷ [])) ≡ Less
shorter_multiset_first = refl

-- (b, a) behind (a, c): of one length, item by item
tuples_item_by_item : value_cmp (seq (b ∷ a ∷ [])) (seq (a ∷ c ∷ [])) ≡ Greater
tuples_item_by_item = refl

-- {x -> a, y -> c} before {x -> b, y -> a}: the first variable decides
first_variable_decides : subst_cmp (x→ (one a) ∷ y→ (one c) ∷ []) (x→ (one b) ∷ y→ (one a) ∷ []) ≡ Less
first_variable_decides = refl

-- {x -> a, y -> (b)} behind {x -> a, y -> (a)}: where it is the same, the second one
second_variable_decides_next : subst_cmp (x→ (one a) ∷ y→ (seq (b ∷ [])) ∷ []) (x→ (one a) ∷ y→ (seq (a ∷ [])) ∷ [])
    ≡ Greater
second_variable_decides_next = refl

same_substitution : subst_cmp (x→ (one a) ∷ y→ (bag (a ∷ b ∷ [])) ∷ []) (x→ (one a) ∷ y→ (bag (a ∷ b ∷ [])) ∷ [])
    ≡ Equal
same_substitution = refl
