-- The nodes and the variables of a plan give its pattern back.
use Rattle.std.proofs.Common.{◌≡◌, ℕ, ◌+◌, Bool, true, false, ◌||◌, List, [], ◌∷◌, ◌++◌, map, get_or, refl, ap}
use Rattle.std.proofs.Common.{◌≤◌, sym, ◌∙◌, subst, arith, append_assoc, append-nil}
use Rattle.std.specs.Prelude.{Option, Some, None, if◌then◌else◌, is_some}
use Rattle.std.specs.List.{AllByRecursion, list_any, position}
use Rattle.std.proofs.Math.Bool.{or-true}
use Rattle.std.proofs.lemmas.List.Folds.{list_any-append}
use Rattle.std.proofs.lemmas.List.Quantifiers.{position-Some}
use Rattle.mp_term.specs.Signature.{Sig}
use Rattle.mp_term.proofs.SignatureLaws.{is_some-position}
use Rattle.mp_term.proofs.ListLaws.{all-split}
use Rattle.mp_pattern.specs.PatternTree.{Wildcard, Pattern, symbol_pattern, app_pattern, wild_pattern, Patterns}
use Rattle.mp_pattern.specs.PatternTree.{no_patterns, more_patterns}
use Rattle.mp_pattern.specs.Size.{pattern_nodes, all_pattern_nodes}
use Rattle.mp_pattern.specs.Firsts.{is_known, add_new, firsts_after}
use Rattle.mp_pattern.specs.Value.{same_name}
use Rattle.mp_pattern.specs.Variables.{Use, uses, all_uses, variables, variable_form}
use Rattle.mp_pattern.specs.Plan.{symbol_label, app_label, wild_label, Node, Variable, variable_number, nodes}
use Rattle.mp_pattern.specs.Plan.{all_nodes, plan_of}
use Rattle.mp_pattern.proofs.NameLaws.{same_name-is, same_name-itself}

-- the name is one of xs
abbrev IsAmong : List (List ℕ) → List ℕ → Type 0
IsAmong xs x = list_any (same_name x) xs ≡ true

among-is_known : (x : List ℕ) (xs : List (List ℕ)) → is_known same_name xs x ≡ true → IsAmong xs x
among-is_known x [] e = cc
among-is_known x (y ∷ ys) e = by_test (same_name y x) refl e (among-is_known x ys)
  where
    by_test : (b : Bool) → same_name y x ≡ b → (b || is_known same_name ys x) ≡ true
        → (is_known same_name ys x ≡ true → IsAmong ys x) → (same_name x y || list_any (same_name x) ys) ≡ true
    by_test true q h further = let s : y ≡ x = same_name-is y x q in
        ap (λ b. b || list_any (same_name x) ys) (ap (same_name x) s ∙ same_name-itself x)
    by_test false q h further = ap (λ b. same_name x y || b) (further h) ∙ or-true (same_name x y)

-- what is among some names is among more
among-append : (x : List ℕ) (xs ys : List (List ℕ)) → IsAmong xs x → IsAmong (xs ++ ys) x
among-append x xs ys h = list_any-append (same_name x) xs ys ∙ ap (λ b. b || list_any (same_name x) ys) h

among-add_new : (x y : List ℕ) (xs : List (List ℕ)) → IsAmong xs x → IsAmong (add_new same_name xs y) x
among-add_new x y xs h =
    elim (is_known same_name xs y) as
    (λ b. IsAmong (if b then xs else (xs ++ (y ∷ []))) x) [ true ↦ h | false ↦ among-append x xs (y ∷ []) h ]

added : (x : List ℕ) (xs : List (List ℕ)) → IsAmong (add_new same_name xs x) x
added x xs = by_known (is_known same_name xs x) refl
  where
    by_known : (b : Bool) → is_known same_name xs x ≡ b → IsAmong (if b then xs else (xs ++ (x ∷ []))) x
    by_known true q = among-is_known x xs q
    by_known false q =
        list_any-append (same_name x) xs (x ∷ [])
        ∙ ap (λ b. list_any (same_name x) xs || (b || false)) (same_name-itself x)
        ∙ or-true (list_any (same_name x) xs)

among-firsts_after : (x : List ℕ) (ys xs : List (List ℕ)) → IsAmong ys x → IsAmong (firsts_after same_name ys xs) x
among-firsts_after x ys [] h = h
among-firsts_after x ys (y ∷ xs) h = among-firsts_after x (add_new same_name ys y) xs (among-add_new x y ys h)

-- each occurrence is of one of the names
abbrev AreAmong : List (List ℕ) → List Use → Type 0
AreAmong xs us = AllByRecursion (λ u. IsAmong xs u.name) us

occurrences_among : (ys : List (List ℕ)) (us : List Use)
    → AreAmong (firsts_after same_name ys (map (λ u. u.name) us)) us
occurrences_among ys [] = tt
occurrences_among ys (u ∷ us) = (
  among-firsts_after u.name (add_new same_name ys u.name) (map (λ u. u.name) us) (added u.name ys),
  occurrences_among (add_new same_name ys u.name) us,
)

-- the number of a name that is there gives it back
numbered : (xs : List (List ℕ)) (x : List ℕ) → IsAmong xs x → (k : ℕ) × (position (same_name x) xs ≡ Some k)
numbered xs x h = from_some (position (same_name x) xs) (is_some-position (same_name x) xs ∙ h)
  where
    from_some : (o : Option ℕ) → is_some o ≡ true → (k : ℕ) × (o ≡ Some k)
    from_some None e = cc
    from_some (Some k) e = (k, refl)

one_numbered : (xs : List (List ℕ)) (x y : List ℕ) → IsAmong xs x
    → position (same_name x) xs ≡ position (same_name y) xs → x ≡ y
one_numbered xs x y h e =
    let k = numbered xs x h in
    let first = same_name-is x (get_or xs k.0 []) (position-Some (same_name x) xs k.0 [] k.1).1 in
    let second = same_name-is y (get_or xs k.0 []) (position-Some (same_name y) xs k.0 [] (sym e ∙ k.1)).1 in
    first ∙ sym second

-- a pattern has a node
pub has_nodes : (p : Pattern) → 1 ≤ pattern_nodes p
has_nodes (symbol_pattern n) = omega arith
has_nodes (app_pattern f ps) = omega arith
has_nodes (wild_pattern w x) = omega arith

first_node : (a b : Node) (r s : List Node) → a ∷ r ≡ b ∷ s → (a.label ≡ b.label) × (a.end ≡ b.end) × (r ≡ s)
first_node a b r s e =
    let h : a ≡ b = cc in
    let t : r ≡ s = cc in
    (ap (λ n. n.label) h, ap (λ n. n.end) h, t)

module _ (xs : List (List ℕ)) where
  same_wild : (f g above : Option ℕ) (n : ℕ) (w v : Wildcard) (x y : Option (List ℕ))
      → AreAmong xs (uses f (wild_pattern w x)) → AreAmong xs (uses g (wild_pattern v y))
      → wild_label w (variable_number xs x) ≡ wild_label v (variable_number xs y)
      → wild_pattern w x ≡ wild_pattern v y
  same_wild f g above n w v None None h k e = cc
  same_wild f g above n w v None (Some y) h k e = let m = numbered xs y k.0 in cc
  same_wild f g above n w v (Some x) None h k e = let m = numbered xs x h.0 in cc
  same_wild f g above n w v (Some x) (Some y) h k e =
      let shape : w ≡ v = cc in
      let number : position (same_name x) xs ≡ position (same_name y) xs = cc in
      let name : x ≡ y = one_numbered xs x y h.0 number in
      cc

  mutual
    nodes-same : (p q : Pattern) (f g above : Option ℕ) (n : ℕ) (r s : List Node) → AreAmong xs (uses f p)
        → AreAmong xs (uses g q) → nodes xs above n p ++ r ≡ nodes xs above n q ++ s → (p ≡ q) × (r ≡ s)
    nodes-same (symbol_pattern a) (symbol_pattern b) f g above n r s h k e = let d = first_node _ _ r s e in
        let l : symbol_label a ≡ symbol_label b = d.0 in let i : a ≡ b = cc in (ap symbol_pattern i, d.2)
    nodes-same (app_pattern a ps) (app_pattern b qs) f g above n r s h k e =
        let d = first_node _ _ _ _ e in
        let l : app_label a ≡ app_label b = d.0 in
        let i : a ≡ b = cc in
        let count : all_pattern_nodes ps ≡ all_pattern_nodes qs = omega (arith, d.1) in
        let rest = all_nodes-same ps qs (Some a) (Some b) n (n + 1) r s h k count d.2 in
        (ap (λ c. app_pattern c ps) i ∙ ap (app_pattern b) rest.0, rest.1)
    nodes-same (wild_pattern w x) (wild_pattern v y) f g above n r s h k e = let d = first_node _ _ r s e in
        (same_wild f g above n w v x y h k d.0, d.2)
    nodes-same (symbol_pattern a) (app_pattern b qs) f g above n r s h k e =
        let l : symbol_label a ≡ app_label b = (first_node _ _ _ _ e).0 in cc
    nodes-same (symbol_pattern a) (wild_pattern v y) f g above n r s h k e =
        let l : symbol_label a ≡ wild_label v (variable_number xs y) = (first_node _ _ _ _ e).0 in cc
    nodes-same (app_pattern a ps) (symbol_pattern b) f g above n r s h k e =
        let l : app_label a ≡ symbol_label b = (first_node _ _ _ _ e).0 in cc
    nodes-same (app_pattern a ps) (wild_pattern v y) f g above n r s h k e =
        let l : app_label a ≡ wild_label v (variable_number xs y) = (first_node _ _ _ _ e).0 in cc
    nodes-same (wild_pattern w x) (symbol_pattern b) f g above n r s h k e =
        let l : wild_label w (variable_number xs x) ≡ symbol_label b = (first_node _ _ _ _ e).0 in cc
    nodes-same (wild_pattern w x) (app_pattern b qs) f g above n r s h k e =
        let l : wild_label w (variable_number xs x) ≡ app_label b = (first_node _ _ _ _ e).0 in cc

    all_nodes-same : (ps qs : Patterns) (f g : Option ℕ) (m n : ℕ) (r s : List Node) → AreAmong xs (all_uses f ps)
        → AreAmong xs (all_uses g qs) → all_pattern_nodes ps ≡ all_pattern_nodes qs
        → all_nodes xs m n ps ++ r ≡ all_nodes xs m n qs ++ s → (ps ≡ qs) × (r ≡ s)
    all_nodes-same no_patterns no_patterns f g m n r s h k c e = (refl, e)
    all_nodes-same no_patterns (more_patterns q qs) f g m n r s h k c e = absurd (omega (arith, has_nodes q, c))
    all_nodes-same (more_patterns p ps) no_patterns f g m n r s h k c e = absurd (omega (arith, has_nodes p, c))
    all_nodes-same (more_patterns p ps) (more_patterns q qs) f g m n r s h k c e =
        let hs = all-split (λ u. IsAmong xs u.name) (uses f p) (all_uses f ps) h in
        let ks = all-split (λ u. IsAmong xs u.name) (uses g q) (all_uses g qs) k in
        let one = nodes-same p q f g (Some m) n (all_nodes xs m (n + pattern_nodes p) ps ++ r)
        (all_nodes xs m (n + pattern_nodes q) qs ++ s) hs.0 ks.0
        (sym (append_assoc (nodes xs (Some m) n p) (all_nodes xs m (n + pattern_nodes p) ps) r) ∙ e
        ∙ append_assoc (nodes xs (Some m) n q) (all_nodes xs m (n + pattern_nodes q) qs) s) in
        let sizes : pattern_nodes p ≡ pattern_nodes q = ap pattern_nodes one.0 in
        let behind : all_nodes xs m (n + pattern_nodes p) ps ++ r ≡ all_nodes xs m (n + pattern_nodes p) qs ++ s =
        one.1 ∙ ap (λ i. all_nodes xs m (n + i) qs ++ s) (sym sizes) in
        let rest = all_nodes-same ps qs f g m (n + pattern_nodes p) r s hs.1 ks.1 (omega (arith, c, sizes)) behind in
        (ap (λ t. more_patterns t ps) one.0 ∙ ap (more_patterns q) rest.0, rest.1)

names_of_variables : (sig : Sig) (p : Pattern) (xs : List (List ℕ))
    → map (λ (v : Variable). v.name) (map (λ x. record { name = x; form = variable_form sig p x }) xs) ≡ xs
names_of_variables sig p [] = refl
names_of_variables sig p (x ∷ xs) = ap (λ ys. x ∷ ys) (names_of_variables sig p xs)

-- patterns whose plans have the same nodes and the same variables are one
pub one_pattern : (sig other : Sig) (p q : Pattern) → (plan_of sig p).nodes ≡ (plan_of other q).nodes
    → (plan_of sig p).variables ≡ (plan_of other q).variables → p ≡ q
one_pattern sig other p q e v =
    let vars : variables p ≡ variables q =
    sym (names_of_variables sig p (variables p)) ∙ ap (map (λ (x : Variable). x.name)) v
    ∙ names_of_variables other q (variables q) in
    let same : nodes (variables p) None 0 p ≡ nodes (variables p) None 0 q =
    e ∙ ap (λ xs. nodes xs None 0 q) (sym vars) in
    let theirs = subst (λ xs. AreAmong xs (uses None q)) (sym vars) (occurrences_among [] (uses None q)) in
    (nodes-same (variables p) p q None None None 0 [] [] (occurrences_among [] (uses None p)) theirs
    (append-nil (nodes (variables p) None 0 p) ∙ same ∙ sym (append-nil (nodes (variables p) None 0 q)))).0
