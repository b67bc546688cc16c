-- The test of names says whether they are the same.
use Rattle.std.proofs.Common.{◌≡◌, ℕ, List, true, ap, sym, ◌∙◌}
use Rattle.std.specs.Ordering.{nat_cmp, is_eq}
use Rattle.std.specs.Cmp.{Equal-is}
use Rattle.std.specs.Cmp.Lexicographic.{slice_cmp}
use Rattle.std.proofs.lemmas.Cmp.{tied_itself, nat_list_cmp_total}
use Rattle.mp_term.specs.OrderLaws.{nats_same}
use Rattle.mp_term.proofs.ListLaws.{bool_same}
use Rattle.mp_pattern.specs.Value.{same_name}

-- names that test the same are one
pub same_name-is : (x y : List ℕ) → same_name x y ≡ true → x ≡ y
same_name-is x y e = nats_same x y ((Equal-is (slice_cmp nat_cmp x y)).0 e)

-- a name is the same as itself
pub same_name-itself : (x : List ℕ) → same_name x x ≡ true
same_name-itself x = ap is_eq (tied_itself nat_list_cmp_total x)

-- the test of names is symmetric
pub same_name-swap : (x y : List ℕ) → same_name x y ≡ same_name y x
same_name-swap x y =
    bool_same (same_name x y) (same_name y x)
    (λ e. ap (λ z. same_name z x) (sym (same_name-is x y e)) ∙ same_name-itself x)
    (λ e. ap (λ z. same_name z y) (sym (same_name-is y x e)) ∙ same_name-itself y)
