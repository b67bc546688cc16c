-- Equal lists, values and bindings are those that compare as equal.
use Rattle.std.proofs.Common.{◌≡◌, ℕ, zero, suc, ◌<◌, Bool, true, false, List, [], ◌∷◌, map, length, get_or, refl, ap}
use Rattle.std.proofs.Common.{sym, ◌∙◌, subst, arith}
use Rattle.std.specs.Prelude.{Some, None, ◌↔◌, if◌then◌else◌}
use Rattle.std.specs.declared.cmp.Ordering.{Ordering}
use Rattle.std.specs.declared.cmp.Ordering.TheVariants.{Equal}
use Rattle.std.specs.Ordering.{is_eq, eq_by_cmp, nat_cmp}
use Rattle.std.specs.Cmp.{IsTotalOrder}
use Rattle.std.specs.FinMap.{slice_cmp-IsAntisymmetric}
use Rattle.std.specs.Cmp.Lexicographic.{slice_cmp}
use Rattle.std.proofs.lemmas.Cmp.{tied_itself, lists_total, nat_cmp_total, nat_list_cmp_total}
use Rattle.std.proofs.lemmas.Map.Lookups.{CmpEqualImpliesEq}
use Rattle.std.proofs.lemmas.Map.Views.{tells_apart}
use Rattle.mp_term.specs.Tree.{Tree}
use Rattle.mp_term.specs.Order.{tree_cmp, shortlex}
use Rattle.mp_term.specs.OrderLaws.{tree_cmp_total, tree_same, nats_same, both_equal}
use Rattle.mp_pattern.specs.Value.{Value, one, seq, bag, Binding, Subst, same_terms, merge}
use Rattle.mp_pattern.specs.Lists.{value_cmp, subst_cmp}
use Rattle.mp_subst.specs.Choice.{chosen}
use Rattle.mp_subst.specs.declared.merging.Choice.TheVariants.{Old, Neither}

-- lists of terms
pub terms_same : CmpEqualImpliesEq (slice_cmp tree_cmp)
terms_same = slice_cmp-IsAntisymmetric tree_same

shortlex-itself : (ts : List Tree) → shortlex tree_cmp ts ts ≡ Equal
shortlex-itself ts = rw (tied_itself nat_cmp_total (length ts)) (tied_itself (lists_total tree_cmp_total) ts)

shortlex-same : (ts us : List Tree) → shortlex tree_cmp ts us ≡ Equal → ts ≡ us
shortlex-same ts us e = terms_same ts us (both_equal _ _ e).1

-- values
pub value_cmp-itself : (v : Value) → value_cmp v v ≡ Equal
value_cmp-itself (one t) = tied_itself tree_cmp_total t
value_cmp-itself (seq ts) = shortlex-itself ts
value_cmp-itself (bag ts) = shortlex-itself ts

pub value_cmp-same : CmpEqualImpliesEq value_cmp
value_cmp-same (one t) (one u) e = ap one (tree_same t u e)
value_cmp-same (one t) (seq us) e = cc
value_cmp-same (one t) (bag us) e = cc
value_cmp-same (seq ts) (one u) e = cc
value_cmp-same (seq ts) (seq us) e = ap seq (shortlex-same ts us e)
value_cmp-same (seq ts) (bag us) e = cc
value_cmp-same (bag ts) (one u) e = cc
value_cmp-same (bag ts) (seq us) e = cc
value_cmp-same (bag ts) (bag us) e = ap bag (shortlex-same ts us e)

-- a test that is right about two lists
pub same_lists-is : {X : Type 0} {cmp : X → X → Ordering} → CmpEqualImpliesEq cmp → IsTotalOrder cmp → (xs ys : List X)
    (b : Bool) → (b ≡ true → xs ≡ ys) → (xs ≡ ys → b ≡ true) → b ≡ eq_by_cmp (slice_cmp cmp) xs ys
same_lists-is {cmp} same o xs ys true f g =
    sym (subst (λ zs. eq_by_cmp (slice_cmp cmp) xs zs ≡ true) (f refl) (ap is_eq (tied_itself (lists_total o) xs)))
same_lists-is {cmp} same o xs ys false f g =
    elim (eq_by_cmp (slice_cmp cmp) xs ys) as (λ b. eq_by_cmp (slice_cmp cmp) xs ys ≡ b → false ≡ b) [
      | true ↦ λ e. g (tells_apart (slice_cmp-IsAntisymmetric same) xs ys e)
      | false ↦ λ _. refl
    ] refl

-- about two lists of terms
pub same_terms-is : (ts us : List Tree) (b : Bool) → (b ≡ true → ts ≡ us) → (ts ≡ us → b ≡ true) → b ≡ same_terms ts us
same_terms-is = same_lists-is tree_same tree_cmp_total

-- equal lists by shortlex
is_eq-shortlex : (ts us : List Tree) → is_eq (shortlex tree_cmp ts us) ≡ same_terms ts us
is_eq-shortlex ts us =
    same_terms-is ts us (is_eq (shortlex tree_cmp ts us))
    (tells_apart shortlex-same ts us)
    (λ e. subst (λ vs. is_eq (shortlex tree_cmp ts vs) ≡ true) e (ap is_eq (shortlex-itself ts)))

-- a tuple and a multiset, in either order
abbrev pub is_mixed : Value → Value → Bool
is_mixed (seq ts) (bag us) = true
is_mixed (bag ts) (seq us) = true
is_mixed _ _ = false

-- else values merge where they are equal
pub chosen-equal : (v w : Value) → is_mixed v w ≡ false
    → chosen v w (if is_eq (value_cmp v w) then Old else Neither) ≡ merge v w
chosen-equal (one t) (one u) h = elim (is_eq (tree_cmp t u)) as
    (λ b. chosen (one t) (one u) (if b then Old else Neither) ≡ (if b then Some (one t) else None))
    [ true ↦ refl | false ↦ refl ]
chosen-equal (one t) (seq us) h = refl
chosen-equal (one t) (bag us) h = refl
chosen-equal (seq ts) (one u) h = refl
chosen-equal (seq ts) (seq us) h = rw (is_eq-shortlex ts us)
    (elim (same_terms ts us) as (λ b. chosen (seq ts) (seq us) (if b then Old else Neither)
    ≡ (if b then Some (seq ts) else None)) [ true ↦ refl | false ↦ refl ])
chosen-equal (seq ts) (bag us) h = cc
chosen-equal (bag ts) (one u) h = refl
chosen-equal (bag ts) (seq us) h = cc
chosen-equal (bag ts) (bag us) h = rw (is_eq-shortlex ts us)
    (elim (same_terms ts us) as (λ b. chosen (bag ts) (bag us) (if b then Old else Neither)
    ≡ (if b then Some (bag ts) else None)) [ true ↦ refl | false ↦ refl ])

-- bindings
pub names_equal : (m n : List ℕ) → m ≡ n → eq_by_cmp (slice_cmp nat_cmp) m n ≡ true
names_equal m n e = subst (λ k. eq_by_cmp (slice_cmp nat_cmp) m k ≡ true) e
    (ap is_eq (tied_itself nat_list_cmp_total m))

pub values_equal : (v w : Value) → v ≡ w → eq_by_cmp value_cmp v w ≡ true
values_equal v w e = subst (λ u. eq_by_cmp value_cmp v u ≡ true) e (ap is_eq (value_cmp-itself v))

pub bindings_equal : (b d : Binding) → eq_by_cmp (slice_cmp nat_cmp) b.name d.name ≡ true
    → eq_by_cmp value_cmp b.value d.value ≡ true → b ≡ d
bindings_equal b d p q =
    ap (λ n. record { name = n; value = b.value }) (tells_apart nats_same b.name d.name p)
    ∙ ap (λ v. record { name = d.name; value = v }) (tells_apart value_cmp-same b.value d.value q)

-- values that compare as equal
pub equal-value_cmp : (v w : Value) (o : Ordering) → o ≡ value_cmp v w → (o ≡ Equal) ↔ (v ≡ w)
equal-value_cmp v w o p =
    (λ e. value_cmp-same v w (sym p ∙ e), λ e. p ∙ subst (λ u. value_cmp v u ≡ Equal) e (value_cmp-itself v))

-- substitutions of the same names with the same values
bindings_same : (r s : Subst) → map (λ b. b.name) r ≡ map (λ b. b.name) s → map (λ b. b.value) r ≡ map (λ b. b.value) s
    → r ≡ s
bindings_same [] [] p q = refl
bindings_same [] (c ∷ s) p q = cc
bindings_same (b ∷ r) [] p q = cc
bindings_same (b ∷ r) (c ∷ s) p q =
    let n : b.name ≡ c.name = cc in
    let v : b.value ≡ c.value = cc in
    let ns : map (λ b. b.name) r ≡ map (λ b. b.name) s = cc in
    let vs : map (λ b. b.value) r ≡ map (λ b. b.value) s = cc in
    ap (λ m. record { name = m; value = b.value } ∷ r) n ∙ ap (λ w. record { name = c.name; value = w } ∷ r) v
    ∙ ap (λ t. c ∷ t) (bindings_same r s ns vs)

subst_cmp-itself : (s : Subst) → subst_cmp s s ≡ Equal
subst_cmp-itself [] = refl
subst_cmp-itself (b ∷ s) = rw (value_cmp-itself b.value) (subst_cmp-itself s)

pub equal-subst_cmp : (r s : Subst) (o : Ordering) → map (λ b. b.name) r ≡ map (λ b. b.name) s → o ≡ subst_cmp r s
    → (o ≡ Equal) ↔ (r ≡ s)
equal-subst_cmp r s o n p = (
  λ e. bindings_same r s n (slice_cmp-IsAntisymmetric value_cmp-same (map (λ b. b.value) r) (map (λ b. b.value) s)
      (sym p ∙ e)),
  λ e. p ∙ subst (λ t. subst_cmp r t ≡ Equal) e (subst_cmp-itself r),
)

-- the items of equal lists
pub items_equal : {X Y : Type 0} (f : X → Y) (xs ys : List X) (i : ℕ) (x y : X) → i < length xs → i < length ys
    → x ≡ get_or xs i x → y ≡ get_or ys i y → map f xs ≡ map f ys → f x ≡ f y
items_equal f [] ys i x y h k p q e = absurd (omega (arith, h))
items_equal f (a ∷ xs) [] i x y h k p q e = absurd (omega (arith, k))
items_equal f (a ∷ xs) (b ∷ ys) zero x y h k p q e = let g : f a ≡ f b = cc in ap f p ∙ g ∙ sym (ap f q)
items_equal f (a ∷ xs) (b ∷ ys) (suc i) x y h k p q e = let g : map f xs ≡ map f ys = cc in
    items_equal f xs ys i x y (omega (arith, h)) (omega (arith, k)) p q g
