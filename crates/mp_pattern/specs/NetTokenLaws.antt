-- The test of net tokens says whether they are the same.
use Rattle.std.proofs.Common.{◌≡◌, ℕ, true, refl, ap, subst, eq-eqb, eqb-true}
use Rattle.std.specs.Prelude.{Option, Some, None}
use Rattle.std.specs.Ordering.{is_eq, nat_cmp}
use Rattle.std.specs.Cmp.{IsEquivalence, Equal-is, both_ways}
use Rattle.std.specs.Cmp.Lexicographic.{slice_cmp}
use Rattle.std.proofs.lemmas.Cmp.{tied_itself, nat_list_cmp_total}
use Rattle.std.proofs.lemmas.Bool.{and_parts, and_from}
use Rattle.mp_term.specs.OrderLaws.{nats_same}
use Rattle.mp_pattern.specs.PatternTree.{Wildcard, Pattern, wild_pattern}
use Rattle.mp_pattern.specs.Order.{pattern_cmp}
use Rattle.mp_pattern.specs.PatternOrderLaws.{pattern_cmp_total, pattern_same}
use Rattle.mp_pattern.specs.NetTokens.{NetToken, sym_token, enter_token, leave_token, wild_token, comm_token}
use Rattle.mp_pattern.specs.NetTokens.{same_pattern, same_number, same_token}

same_pattern-is : (p q : Pattern) → same_pattern p q ≡ true → p ≡ q
same_pattern-is p q e = pattern_same p q ((Equal-is (pattern_cmp p q)).0 e)

same_pattern-itself : (p : Pattern) → same_pattern p p ≡ true
same_pattern-itself p = ap is_eq (tied_itself pattern_cmp_total p)

-- the wildcard of a pattern that is one
abbrev wildcard_in : Wildcard → Pattern → Wildcard
wildcard_in v (wild_pattern w x) = w
wildcard_in v _ = v

same_number-is : (x y : Option ℕ) → same_number x y ≡ true → x ≡ y
same_number-is None None e = refl
same_number-is (Some m) (Some n) e = ap Some (eqb-true m n e)
same_number-is x y e = cc

same_number-itself : (x : Option ℕ) → same_number x x ≡ true
same_number-itself None = refl
same_number-itself (Some n) = eq-eqb n n refl

-- tokens that test the same are one
pub same_token-is : (j k : NetToken) → same_token j k ≡ true → j ≡ k
same_token-is (sym_token m) (sym_token n) e = ap sym_token (nats_same m n ((Equal-is (slice_cmp nat_cmp m n)).0 e))
same_token-is (enter_token f) (enter_token g) e = ap enter_token (eqb-true f g e)
same_token-is (leave_token f) (leave_token g) e = ap leave_token (eqb-true f g e)
same_token-is (wild_token v x) (wild_token w y) e =
    let both = and_parts (same_pattern (wild_pattern v None) (wild_pattern w None)) (same_number x y) e in
    let wild = ap (wildcard_in v) (same_pattern-is (wild_pattern v None) (wild_pattern w None) both.0) in
    let number = same_number-is x y both.1 in
    λ i. wild_token (wild i) (number i)
same_token-is (comm_token p) (comm_token q) e = ap comm_token (same_pattern-is p q e)
same_token-is j k e = cc

-- a token is the same as itself
pub same_token-itself : (k : NetToken) → same_token k k ≡ true
same_token-itself (sym_token n) = ap is_eq (tied_itself nat_list_cmp_total n)
same_token-itself (enter_token f) = eq-eqb f f refl
same_token-itself (leave_token f) = eq-eqb f f refl
same_token-itself (wild_token w x) = and_from _ _ (same_pattern-itself (wild_pattern w None)) (same_number-itself x)
same_token-itself (comm_token p) = same_pattern-itself p

same_token-turned : (j k : NetToken) → same_token j k ≡ true → same_token k j ≡ true
same_token-turned j k e = subst (λ h. same_token h j ≡ true) (same_token-is j k e) (same_token-itself j)

-- the test is an equivalence
pub same_token_equiv : IsEquivalence same_token
same_token_equiv = record {
  refl = same_token-itself;
  symm = λ j k. both_ways (same_token j k) (same_token k j) (same_token-turned j k) (same_token-turned k j);
  congr = λ i j k e. ap (λ h. same_token h k) (same_token-is i j e);
}
