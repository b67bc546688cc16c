-- Patterns without clashes: any two wildcards of one variable are the same, in whatever order they stand, so that the
-- normal form has no clash either.
use Rattle.std.proofs.Common.{◌≡◌, ℕ, Bool, true, false, ◌&&◌, ◌||◌, not, List, [], ◌∷◌, ◌++◌, length, Some, None, refl}
use Rattle.std.proofs.Common.{sym, ap, ◌∙◌, subst}
use Rattle.std.specs.Prelude.{if◌then◌else◌}
use Rattle.std.specs.declared.cmp.Ordering.TheVariants.{Equal}
use Rattle.std.specs.Ordering.{ordering_then, nat_cmp, bool_cmp, is_eq}
use Rattle.std.specs.Cmp.{Equal-is, bool_cmp_total}
use Rattle.std.specs.List.{list_any, AllByRecursion}
use Rattle.std.proofs.lemmas.Cmp.{tied_itself, nat_cmp_total}
use Rattle.std.proofs.lemmas.Bool.{not-false}
use Rattle.std.proofs.lemmas.List.{append_assoc, append-nil}
use Rattle.mp_term.specs.Signature.{Sig}
use Rattle.mp_term.specs.OrderLaws.{both_equal, nat_same, tree_same, tree_cmp_total}
use Rattle.mp_term.proofs.ListLaws.{all-append, all-split, all-also}
use Rattle.mp_pattern.specs.PatternTree.{Wildcard, dot, kind, plus, star, optional, counted, Pattern, symbol_pattern}
use Rattle.mp_pattern.specs.PatternTree.{app_pattern, wild_pattern, Patterns, no_patterns, more_patterns, pattern_list}
use Rattle.mp_pattern.specs.PatternTree.{patterns}
use Rattle.mp_pattern.specs.Normal.{normal_pattern}
use Rattle.mp_pattern.specs.Subpatterns.{subpatterns, all_subpatterns}
use Rattle.mp_pattern.specs.Value.{same_name}
use Rattle.mp_pattern.specs.Clash.{same_shape, clashes, first_clash_after, first_clash}
use Rattle.mp_pattern.proofs.NameLaws.{same_name-is, same_name-itself}
use Rattle.mp_pattern.proofs.Preserved.{of_normal_pattern}

-- ---- two wildcards

-- one mark, and one count
same_fixed : (b c : Bool) → bool_cmp c b ≡ Equal → b ≡ c
same_fixed true true h = refl
same_fixed false false h = refl
same_fixed b c h = cc

same_count : (m : ℕ) (b : Bool) (n : ℕ) (c : Bool) → ordering_then (nat_cmp m n) (bool_cmp c b) ≡ Equal
    → (m ≡ n) × (b ≡ c)
same_count m b n c h =
    let e = both_equal (nat_cmp m n) (bool_cmp c b) h in
    (nat_same m n e.0, same_fixed b c e.1)

-- wildcards of one shape are the same
pub same_shape-same : (v w : Wildcard) → same_shape v w ≡ true → v ≡ w
same_shape-same (kind k) (kind l) h = ap kind (nat_same k l ((Equal-is (nat_cmp k l)).0 h))
same_shape-same (optional t) (optional u) h = ap optional (tree_same t u ((Equal-is _).0 h))
same_shape-same (counted m b) (counted n c) h =
    let e = same_count m b n c ((Equal-is _).0 h) in
    λ i. counted (e.0 i) (e.1 i)
same_shape-same dot dot h = refl
same_shape-same plus plus h = refl
same_shape-same star star h = refl
same_shape-same v w h = cc

-- a wildcard has its own shape
pub same_shape-itself : (w : Wildcard) → same_shape w w ≡ true
same_shape-itself (kind k) = ap is_eq (tied_itself nat_cmp_total k)
same_shape-itself (optional t) = ap is_eq (tied_itself tree_cmp_total t)
same_shape-itself (counted n b) = rw (tied_itself nat_cmp_total n, tied_itself bool_cmp_total b) refl
same_shape-itself dot = refl
same_shape-itself plus = refl
same_shape-itself star = refl

-- wildcards of one variable are the same
abbrev pub Agree : Pattern → Pattern → Type 0
Agree (wild_pattern v (Some x)) (wild_pattern w (Some y)) = x ≡ y → v ≡ w
Agree _ _ = Unit {0}

agree-itself : (p : Pattern) → Agree p p
agree-itself (wild_pattern w (Some x)) = λ e. refl
agree-itself p = tt

agree-swap : (p q : Pattern) → Agree p q → Agree q p
agree-swap (wild_pattern v (Some x)) (wild_pattern w (Some y)) h = λ e. sym (h (sym e))
agree-swap (wild_pattern v None) (wild_pattern w (Some y)) h = tt
agree-swap (symbol_pattern n) (wild_pattern w (Some y)) h = tt
agree-swap (app_pattern f ps) (wild_pattern w (Some y)) h = tt
agree-swap p q h = tt

-- every pattern agrees with an application
pub agree-app : (p : Pattern) (f : ℕ) (ps : Patterns) → Agree p (app_pattern f ps)
agree-app (wild_pattern v (Some x)) f ps = tt
agree-app p f ps = tt

-- patterns that don't clash agree
pub agree-clashes : (p q : Pattern) → clashes p q ≡ false → Agree p q
agree-clashes (wild_pattern v (Some x)) (wild_pattern w (Some y)) h = λ e.
    let same : same_name x y ≡ true = ap (same_name x) (sym e) ∙ same_name-itself x in
    same_shape-same v w (not-false (same_shape v w) (sym (ap (λ b. b && not (same_shape v w)) same) ∙ h))
agree-clashes (wild_pattern v None) (wild_pattern w (Some y)) h = tt
agree-clashes p q h = tt

-- and those that agree don't clash
pub clashes-agree : (p q : Pattern) → Agree p q → clashes p q ≡ false
clashes-agree (wild_pattern v (Some x)) (wild_pattern w (Some y)) h = go (same_name x y) refl
  where
    go : (b : Bool) → same_name x y ≡ b → (b && not (same_shape v w)) ≡ false
    go false e = refl
    go true e = ap not (ap (same_shape v) (sym (h (same_name-is x y e))) ∙ same_shape-itself v)
clashes-agree (wild_pattern v None) (wild_pattern w (Some y)) h = refl
clashes-agree p q h = refl

-- ---- lists of patterns

-- the pattern agrees with each of these
abbrev pub AgreesWith : Pattern → List Pattern → Type 0
AgreesWith p qs = AllByRecursion (λ q. Agree q p) qs

agrees-none : (p : Pattern) (qs : List Pattern) → list_any (λ q. clashes q p) qs ≡ false → AgreesWith p qs
agrees-none p [] h = tt
agrees-none p (q ∷ qs) h = go (clashes q p) refl h (agrees-none p qs)
  where
    go : (b : Bool) → clashes q p ≡ b → (b || list_any (λ q. clashes q p) qs) ≡ false
        → (list_any (λ q. clashes q p) qs ≡ false → AgreesWith p qs) → AgreesWith p (q ∷ qs)
    go true e h ih = cc
    go false e h ih = (agree-clashes q p e, ih h)

none-agrees : (p : Pattern) (qs : List Pattern) → AgreesWith p qs → list_any (λ q. clashes q p) qs ≡ false
none-agrees p [] h = refl
none-agrees p (q ∷ qs) h = ap (λ b. b || list_any (λ q. clashes q p) qs) (clashes-agree q p h.0) ∙ none-agrees p qs h.1

-- each pattern agrees with those before it, where `before` stand in front of all
abbrev pub InOrder : List Pattern → List Pattern → Type 0
InOrder before [] = Unit {0}
InOrder before (p ∷ ps) = AgreesWith p before × InOrder (before ++ p ∷ []) ps

-- no clash is found
pub InOrder-first_clash_after : (before ps : List Pattern) → first_clash_after before ps ≡ None → InOrder before ps
InOrder-first_clash_after before [] h = tt
InOrder-first_clash_after before (p ∷ ps) h =
    go (list_any (λ q. clashes q p) before) refl h (InOrder-first_clash_after (before ++ p ∷ []) ps)
  where
    go : (b : Bool) → list_any (λ q. clashes q p) before ≡ b
        → (if b then Some (length before) else first_clash_after (before ++ p ∷ []) ps) ≡ None
        → (first_clash_after (before ++ p ∷ []) ps ≡ None → InOrder (before ++ p ∷ []) ps) → InOrder before (p ∷ ps)
    go true e h ih = cc
    go false e h ih = (agrees-none p before e, ih h)

pub first_clash_after-InOrder : (before ps : List Pattern) → InOrder before ps → first_clash_after before ps ≡ None
first_clash_after-InOrder before [] h = refl
first_clash_after-InOrder before (p ∷ ps) h =
    ap (λ b. if b then Some (length before) else first_clash_after (before ++ p ∷ []) ps) (none-agrees p before h.0)
    ∙ first_clash_after-InOrder (before ++ p ∷ []) ps h.1

-- a list of patterns in order is so in both its parts
pub in-order-front : (before ps qs : List Pattern) → InOrder before (ps ++ qs) → InOrder before ps
in-order-front before [] qs h = tt
in-order-front before (p ∷ ps) qs h = (h.0, in-order-front (before ++ p ∷ []) ps qs h.1)

pub in-order-back : (before ps qs : List Pattern) → InOrder before (ps ++ qs) → InOrder (before ++ ps) qs
in-order-back before [] qs h = subst (λ l. InOrder l qs) (sym (append-nil before)) h
in-order-back before (p ∷ ps) qs h =
    subst (λ l. InOrder l qs) (append_assoc before (p ∷ []) ps) (in-order-back (before ++ p ∷ []) ps qs h.1)

-- and behind fewer patterns
pub in-order-fewer : (others before ps : List Pattern) → InOrder (others ++ before) ps → InOrder before ps
in-order-fewer others before [] h = tt
in-order-fewer others before (p ∷ ps) h = (
  (all-split (λ q. Agree q p) others before h.0).1,
  in-order-fewer others (before ++ p ∷ []) ps (subst (λ l. InOrder l ps) (append_assoc others before (p ∷ [])) h.1),
)

-- any two patterns of two lists agree
abbrev AllAgree : List Pattern → List Pattern → Type 0
AllAgree ps qs = AllByRecursion (λ p. AgreesWith p qs) ps

-- patterns in order agree with those before them
agree-before : (before ps : List Pattern) → InOrder before ps → AllAgree ps before
agree-before before [] h = tt
agree-before before (p ∷ ps) h = (
  h.0,
  all-also (λ q. AgreesWith q (before ++ p ∷ [])) (λ q. AgreesWith q before)
      (λ q k. (all-split (λ r. Agree r q) before (p ∷ []) k).0) ps (agree-before (before ++ p ∷ []) ps h.1),
)

-- the first pattern agrees with all behind it, and they with it
agree-behind : (p : Pattern) (before ps : List Pattern) → InOrder (before ++ p ∷ []) ps
    → AgreesWith p ps × AllAgree ps (p ∷ [])
agree-behind p before ps h =
    let here : AllAgree ps (p ∷ []) = all-also (λ q. AgreesWith q (before ++ p ∷ [])) (λ q. AgreesWith q (p ∷ []))
    (λ q k. (all-split (λ r. Agree r q) before (p ∷ []) k).1) ps (agree-before (before ++ p ∷ []) ps h) in
    (all-also (λ q. AgreesWith q (p ∷ [])) (λ q. Agree q p) (λ q k. agree-swap p q k.0) ps here, here)

all-cons : (p : Pattern) (ps qs : List Pattern) → AllAgree ps (p ∷ []) → AllAgree ps qs → AllAgree ps (p ∷ qs)
all-cons p [] qs h k = tt
all-cons p (r ∷ ps) qs h k = ((h.0.0, k.0), all-cons p ps qs h.1 k.1)

-- any two patterns in order agree
agree-InOrder : (before ps : List Pattern) → InOrder before ps → AllAgree ps ps
agree-InOrder before [] h = tt
agree-InOrder before (p ∷ ps) h =
    let b = agree-behind p before ps h.1 in
    ((agree-itself p, b.0), all-cons p ps ps b.1 (agree-InOrder (before ++ p ∷ []) ps h.1))

-- patterns of which any two agree are in order
InOrder-agree : (before ps : List Pattern) → AllAgree ps before → AllAgree ps ps → InOrder before ps
InOrder-agree before [] h k = tt
InOrder-agree before (p ∷ ps) h k = (
  h.0,
  InOrder-agree (before ++ p ∷ []) ps (both ps h.1 k.1)
      (all-also (λ q. AgreesWith q (p ∷ ps)) (λ q. AgreesWith q ps) (λ q a. a.1) ps k.1),
)
  where
    both : (qs : List Pattern) → AllAgree qs before → AllAgree qs (p ∷ ps) → AllAgree qs (before ++ p ∷ [])
    both [] h k = tt
    both (q ∷ qs) h k = (all-append (λ r. Agree r q) before (p ∷ []) h.0 (k.0.0, tt), both qs h.1 k.1)

-- ---- patterns

module _ (sig : Sig) (P : Pattern → Type 0) (of_app : (f : ℕ) (ps : Patterns) → P (app_pattern f ps)) where
  abbrev Each : Pattern → Type 0
  Each p = AllByRecursion P (subpatterns p)

  each-argument : (ps : Patterns) → AllByRecursion P (all_subpatterns ps) → AllByRecursion Each (pattern_list ps)
  each-argument no_patterns h = tt
  each-argument (more_patterns p ps) h = let r = all-split P (subpatterns p) (all_subpatterns ps) h in
      (r.0, each-argument ps r.1)

  each-subpattern : (qs : List Pattern) → AllByRecursion Each qs → AllByRecursion P (all_subpatterns (patterns qs))
  each-subpattern [] h = tt
  each-subpattern (q ∷ qs) h = all-append P (subpatterns q) (all_subpatterns (patterns qs)) h.0 (each-subpattern qs h.1)

  -- what holds of each symbol and wildcard of a pattern holds of those of its normal form
  each-normal_pattern : (p : Pattern) → Each p → Each (normal_pattern sig p)
  each-normal_pattern = of_normal_pattern sig Each (λ f ps h. each-argument ps h.1)
      (λ f ps qs h k. (of_app f (patterns qs), each-subpattern qs k))

-- what each item has, each item of a list has
all-always : {X : Type 0} (P : X → Type 0) → ((x : X) → P x) → (xs : List X) → AllByRecursion P xs
all-always P each [] = tt
all-always P each (x ∷ xs) = (each x, all-always P each xs)

-- the normal form of a pattern without clashes has none
pub first_clash-normal_pattern : (sig : Sig) (p : Pattern) → first_clash p ≡ None
    → first_clash (normal_pattern sig p) ≡ None
first_clash-normal_pattern sig p h =
    let own = subpatterns p in
    let new = subpatterns (normal_pattern sig p) in
    let right : AllAgree own new = all-also (λ q. AgreesWith q own) (λ q. AgreesWith q new) onto own
    (agree-InOrder [] own (InOrder-first_clash_after [] own h)) in
    let both : AllAgree new new = each-normal_pattern sig (λ q. AgreesWith q new)
    (λ f ps. all-always (λ r. Agree r (app_pattern f ps)) (λ r. agree-app r f ps) new) p right in
    first_clash_after-InOrder [] new (InOrder-agree [] new (all-always (λ q. AgreesWith q []) (λ q. tt) new) both)
  where
    onto : (q : Pattern) → AgreesWith q (subpatterns p) → AgreesWith q (subpatterns (normal_pattern sig p))
    onto q k =
        let turned = all-also (λ r. Agree r q) (Agree q) (λ r. agree-swap r q) (subpatterns p) k in
        all-also (Agree q) (λ r. Agree r q) (agree-swap q) (subpatterns (normal_pattern sig p))
        (each-normal_pattern sig (Agree q) (agree-app q) p turned)
