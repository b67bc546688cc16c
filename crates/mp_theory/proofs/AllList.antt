-- There is one all-list, since pairs are totally ordered.
use Rattle.std.proofs.Common.{◌≡◌, ℕ, List, map, refl, ap, sym, ◌∙◌}
use Rattle.std.specs.Ordering.{ordering_then, ordering_reverse, nat_cmp}
use Rattle.std.specs.Cmp.{IsTotalOrder}
use Rattle.std.proofs.lemmas.Cmp.{lists_total, nat_cmp_total, on_total, then_total}
use Rattle.mp_term.specs.Tree.{Tree}
use Rattle.mp_term.specs.Order.{tree_cmp, shortlex}
use Rattle.mp_term.specs.OrderLaws.{tree_cmp_total, ordering_then-equal, shortlex_total}
use Rattle.mp_term.specs.Signature.{Sig}
use Rattle.mp_term.proofs.ListingLaws.{same_members, contains-from_in, in-from_contains}
use Rattle.mp_pattern.specs.Value.{Value, one, seq, bag, terms_of}
use Rattle.mp_pattern.specs.Admission.{Rule}
use Rattle.mp_pattern.specs.Lists.{value_cmp, subst_cmp, Pair, pair_cmp, IsAllList}

-- the place of a value's form: terms before tuples before multisets
abbrev rank : Value → ℕ
rank (one t) = 0
rank (seq ts) = 1
rank (bag ts) = 2

-- values compare by form, and then by shortlex of their terms
value_cmp-is : (v w : Value) → value_cmp v w
    ≡ ordering_then (nat_cmp (rank v) (rank w)) (shortlex tree_cmp (terms_of v) (terms_of w))
value_cmp-is (one t) (one u) = sym (ordering_then-equal (tree_cmp t u))
value_cmp-is (one t) (seq us) = refl
value_cmp-is (one t) (bag us) = refl
value_cmp-is (seq ts) (one u) = refl
value_cmp-is (seq ts) (seq us) = refl
value_cmp-is (seq ts) (bag us) = refl
value_cmp-is (bag ts) (one u) = refl
value_cmp-is (bag ts) (seq us) = refl
value_cmp-is (bag ts) (bag us) = refl

-- so values, substitutions and pairs are totally ordered
value_cmp_total : IsTotalOrder value_cmp
value_cmp_total =
    let o = then_total (on_total rank nat_cmp_total) (on_total terms_of (shortlex_total tree_cmp_total)) in
    record {
      antisymm = λ v w. value_cmp-is v w ∙ o.antisymm v w ∙ ap ordering_reverse (sym (value_cmp-is w v));
      trans = λ v w x p q. value_cmp-is v x ∙ o.trans v w x (sym (value_cmp-is v w) ∙ p) (sym (value_cmp-is w x) ∙ q);
      congr = λ v w x p. value_cmp-is v x ∙ o.congr v w x (sym (value_cmp-is v w) ∙ p) ∙ sym (value_cmp-is w x);
    }

pub subst_cmp_total : IsTotalOrder subst_cmp
subst_cmp_total = on_total (λ s. map (λ b. b.value) s) (lists_total value_cmp_total)

pub pair_cmp_total : IsTotalOrder pair_cmp
pair_cmp_total = then_total (on_total (λ p. p.0) nat_cmp_total) (on_total (λ p. p.1) subst_cmp_total)

-- two lists of exactly the admitted pairs in order are one
pub IsAllList-unique : (sig : Sig) (rules : List Rule) (t : Tree) (ps qs : List Pair) → IsAllList sig rules t ps
    → IsAllList sig rules t qs → ps ≡ qs
IsAllList-unique sig rules t ps qs h k =
    same_members pair_cmp pair_cmp_total ps qs h.ascending k.ascending
    (λ p i. in-from_contains p qs ((k.exactly p).1 ((h.exactly p).0 (contains-from_in p ps i))))
    (λ p i. in-from_contains p ps ((h.exactly p).1 ((k.exactly p).0 (contains-from_in p qs i))))
