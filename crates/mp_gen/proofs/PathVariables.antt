-- A path that begins the tokens of a pattern with numbered variables is right.
use Rattle.std.proofs.Common.{◌≡◌, ◌≤◌, ℕ, List, [], ◌∷◌, ◌++◌, length, Bool, true, false, ◌&&◌}
use Rattle.std.proofs.Common.{refl, ap, sym, ◌∙◌, inl, inr, subst, arith}
use Rattle.std.specs.Prelude.{Option, Some, None, not, nat_le, if◌then◌else◌}
use Rattle.std.specs.List.{AllByRecursion, list_any}
use Rattle.std.proofs.lemmas.Bool.{and_from}
use Rattle.std.proofs.lemmas.Bool.Decides.{nat_tests}
use Rattle.std.proofs.lemmas.Grind.{flat_map-append}
use Rattle.std.proofs.lemmas.List.{length-append, map-append}
use Rattle.mp_term.specs.Listing.{In}
use Rattle.mp_term.specs.Signature.{Sig, is_comm}
use Rattle.mp_term.proofs.ListLaws.{all-split}
use Rattle.mp_term.proofs.ListingLaws.{all_in}
use Rattle.mp_term.proofs.SearchLaws.{in-left, in-right, from_in-append, in-map, from_in-map}
use Rattle.mp_pattern.specs.declared.limits.TheConstants.{MAX_PATTERN_NODES, MAX_VARIABLES}
use Rattle.mp_pattern.specs.Clash.{same_shape}
use Rattle.mp_pattern.specs.Firsts.{firsts_after, fresh_after}
use Rattle.mp_pattern.specs.NetTokens.{NetToken, sym_token, enter_token, leave_token, wild_token, comm_token}
use Rattle.mp_pattern.specs.NetTokens.{renamed, tokens, all_tokens}
use Rattle.mp_pattern.specs.Normal.{is_loose}
use Rattle.mp_pattern.specs.PatternTree.{Pattern, symbol_pattern, app_pattern, wild_pattern, Patterns, no_patterns}
use Rattle.mp_pattern.specs.PatternTree.{more_patterns}
use Rattle.mp_pattern.specs.Subpatterns.{subpatterns, all_subpatterns}
use Rattle.mp_pattern.specs.Value.{same_name}
use Rattle.mp_pattern.specs.Variables.{Use, uses, all_uses, variables}
use Rattle.mp_pattern.proofs.ClashLaws.{Agree, InOrder, InOrder-first_clash_after, same_shape-itself}
use Rattle.mp_pattern.proofs.NameLaws.{same_name-is}
use Rattle.mp_pattern.proofs.PlanLaws.{firsts_after-append}
use Rattle.mp_pattern.proofs.PlanParts.{plan_fault-parts}
use Rattle.mp_theory.proofs.FirstsLaws.{firsts_after-fresh}
use Rattle.mp_walk.specs.SoundTokens.{path_nodes, IsSoundToken}
use Rattle.mp_walk.specs.Walkable.{Path, IsWhole}
use Rattle.mp_walk.proofs.PathLaws.{path_nodes-append, whole-sound, whole-narrow}
use Rattle.mp_program.specs.TokenPaths.{has_plain_root, enters_comm, token_uses, path_uses}
use Rattle.mp_program.specs.TokenPaths.{path_variables, are_numbered_from, differ, some_differ, is_right_path}
use Rattle.mp_program.proofs.ListLaws.{list_any-none}
use Rattle.mp_program.proofs.NameLaws.{numbered-front, numbered-names}
use Rattle.mp_program.proofs.PathLaws.{bare, use_names, root-front, uses-path, variables-path}

-- ---- variables, numbered

-- a path's variables begin with those of its front
pub variables-append : (ks rest : Path) → path_variables (ks ++ rest)
    ≡ path_variables ks ++ fresh_after same_name (path_variables ks) (use_names (path_uses rest))
variables-append ks rest =
    ap (λ us. firsts_after same_name [] (use_names us)) (flat_map-append token_uses ks rest)
    ∙ ap (firsts_after same_name []) (map-append (λ u. u.name) (path_uses ks) (path_uses rest))
    ∙ firsts_after-append same_name [] (use_names (path_uses ks)) (use_names (path_uses rest))
    ∙ firsts_after-fresh same_name (path_variables ks) (use_names (path_uses rest))

-- ---- one wildcard a variable

-- no two occurrences differ
pub none-differ : (us : List Use) → ((u v : Use) → In u us → In v us → u.name ≡ v.name → u.wildcard ≡ v.wildcard)
    → some_differ us ≡ false
none-differ [] h = refl
none-differ (u ∷ us) h =
    let first : list_any (differ u) us ≡ false =
    list_any-none (differ u) us (λ v i. same_uses v (h u v (inl refl) (inr i))) in
    rw (first, none-differ us (λ v w i j. h v w (inr i) (inr j))) refl
  where
    same_uses : (v : Use) → (u.name ≡ v.name → u.wildcard ≡ v.wildcard) → differ u v ≡ false
    same_uses v f = by_name (same_name u.name v.name) refl
      where
        by_name : (b : Bool) → same_name u.name v.name ≡ b → (b && not (same_shape u.wildcard v.wildcard)) ≡ false
        by_name false e = refl
        by_name true e = ap not (ap (same_shape u.wildcard) (sym (f (same_name-is u.name v.name e)))
            ∙ same_shape-itself u.wildcard)

-- the part of a pattern that an occurrence is
abbrev part_of : Use → Pattern
part_of u = wild_pattern u.wildcard (Some u.name)

mutual
  use-part : (f : Option ℕ) (p : Pattern) (u : Use) → In u (uses f p) → In (part_of u) (subpatterns p)
  use-part f (symbol_pattern n) u i = absurd i
  use-part f (wild_pattern w None) u i = absurd i
  use-part f (wild_pattern w (Some x)) u (inl e) = inl (ap part_of e)
  use-part f (wild_pattern w (Some x)) u (inr i) = absurd i
  use-part f (app_pattern g ps) u i = inr (all_use-part (Some g) ps u i)

  all_use-part : (f : Option ℕ) (ps : Patterns) (u : Use) → In u (all_uses f ps) → In (part_of u) (all_subpatterns ps)
  all_use-part f no_patterns u i = absurd i
  all_use-part f (more_patterns p ps) u i = elim (from_in-append u (uses f p) (all_uses f ps) i) [
    | inl j ↦ in-left (part_of u) (subpatterns p) (all_subpatterns ps) (use-part f p u j)
    | inr j ↦ in-right (part_of u) (subpatterns p) (all_subpatterns ps) (all_use-part f ps u j)
  ]

later-agree : (before xs : List Pattern) → InOrder before xs → (a b : Pattern) → In a before → In b xs → Agree a b
later-agree before [] h a b i j = absurd j
later-agree before (x ∷ xs) h a b i (inl e) =
    subst (Agree a) (sym e) (all_in (λ q. Agree q x) before a h.0 i)
later-agree before (x ∷ xs) h a b i (inr j) =
    later-agree (before ++ x ∷ []) xs h.1 a b (in-left a before (x ∷ []) i) j

parts-agree : (before xs : List Pattern) → InOrder before xs → (u v : Use) → In (part_of u) xs → In (part_of v) xs
    → u.name ≡ v.name → u.wildcard ≡ v.wildcard
parts-agree before [] h u v i j n = absurd i
parts-agree before (x ∷ xs) h u v (inl d) (inl e) n =
    let same : wild_pattern u.wildcard (Some u.name) ≡ wild_pattern v.wildcard (Some v.name) = d ∙ sym e in cc
parts-agree before (x ∷ xs) h u v (inl d) (inr j) n =
    later-agree (before ++ x ∷ []) xs h.1 (part_of u) (part_of v) (in-right (part_of u) before (x ∷ []) (inl d)) j n
parts-agree before (x ∷ xs) h u v (inr i) (inl e) n =
    sym (later-agree (before ++ x ∷ []) xs h.1 (part_of v) (part_of u) (in-right (part_of v) before (x ∷ []) (inl e)) i
    (sym n))
parts-agree before (x ∷ xs) h u v (inr i) (inr j) n = parts-agree (before ++ x ∷ []) xs h.1 u v i j n

-- ---- the root

root-tokens : (sig : Sig) (vs : List (List ℕ)) (p : Pattern) → is_loose p ≡ false
    → has_plain_root (tokens sig vs p) ≡ true
root-tokens sig vs (symbol_pattern n) h = refl
root-tokens sig vs (wild_pattern w x) h = ap not h
root-tokens sig vs (app_pattern g ps) h = by_comm (is_comm sig g)
  where
    by_comm : (b : Bool) → has_plain_root (if b then comm_token (renamed vs (app_pattern g ps)) ∷ []
        else (enter_token g ∷ (all_tokens sig vs ps ++ (leave_token g ∷ [])))) ≡ true
    by_comm true = refl
    by_comm false = refl

-- no token of sound ones enters a commutative operation
none-enters : (sig : Sig) (ks : Path) → AllByRecursion (IsSoundToken sig) ks → list_any (enters_comm sig) ks ≡ false
none-enters sig [] h = refl
none-enters sig (k ∷ ks) h = rw (each k h.0, none-enters sig ks h.1) refl
  where
    each : (j : NetToken) → IsSoundToken sig j → enters_comm sig j ≡ false
    each (sym_token n) i = refl
    each (enter_token g) i = i
    each (leave_token g) i = refl
    each (wild_token w x) i = refl
    each (comm_token p) i = refl

-- ---- whole paths and their fronts

module _ (sig : Sig) (path : Path) (w : IsWhole sig path) where
  whole-agree : (u v : Use) → In u (path_uses path) → In v (path_uses path) → u.name ≡ v.name
      → u.wildcard ≡ v.wildcard
  whole-agree u v i j n =
      let a = bare-use u i in
      let b = bare-use v j in
      ap (λ (z : Use). z.wildcard) a.1
      ∙ parts-agree [] (subpatterns w.pattern)
      (InOrder-first_clash_after [] (subpatterns w.pattern) (plan_fault-parts w.pattern w.planned).no_clash) a.0 b.0
      (use-part None w.pattern a.0 a.2) (use-part None w.pattern b.0 b.2)
      (sym (ap (λ (z : Use). z.name) a.1) ∙ n ∙ ap (λ (z : Use). z.name) b.1)
      ∙ sym (ap (λ (z : Use). z.wildcard) b.1)
    where
      bare-use : (z : Use) → In z (path_uses path)
          → (y : Use) × (bare z ≡ bare y) × In y (uses None w.pattern)
      bare-use z h = from_in-map bare (bare z) (uses None w.pattern)
          (subst (In (bare z)) (uses-path sig path w.pattern w.stands) (in-map bare z (path_uses path) h))

-- the front of a whole path is right
pub right-front : (sig : Sig) (ks rest : Path) → IsWhole sig (ks ++ rest)
    → is_right_path sig MAX_PATTERN_NODES ks ≡ true
right-front sig ks rest w =
    and_from _ _ root (and_from _ _ enters (and_from _ _ narrow (and_from _ _ numbers (and_from _ _ few differs))))
  where
    vs : List (List ℕ)
    vs = variables w.pattern

    root : has_plain_root ks ≡ true
    root = root-front ks rest (subst (λ l. has_plain_root l ≡ true) w.stands.tokens
        (root-tokens sig (variables w.pattern) w.pattern (plan_fault-parts w.pattern w.planned).firm))

    enters : not (list_any (enters_comm sig) ks) ≡ true
    enters = ap not (none-enters sig ks (all-split (IsSoundToken sig) ks rest (whole-sound sig (ks ++ rest) w)).0)

    narrow : nat_le (path_nodes ks) MAX_PATTERN_NODES ≡ true
    narrow = let l = whole-narrow sig (ks ++ rest) w in let e = path_nodes-append ks rest in
        let m : path_nodes ks ≤ MAX_PATTERN_NODES = omega (arith, l, e) in grind (arith, nat_tests, m)

    split : path_variables ks ++ fresh_after same_name (path_variables ks) (use_names (path_uses rest))
        ≡ variables w.pattern
    split = sym (variables-append ks rest) ∙ variables-path sig (ks ++ rest) w.pattern w.stands

    numbers : are_numbered_from 0 (path_variables ks) ≡ true
    numbers = numbered-front 0 (path_variables ks)
        (fresh_after same_name (path_variables ks) (use_names (path_uses rest)))
        (subst (λ l. are_numbered_from 0 l ≡ true) (sym (split ∙ w.stands.names))
        (numbered-names (length (variables w.pattern))))

    few : nat_le (length (path_variables ks)) MAX_VARIABLES ≡ true
    few = let e : length (variables w.pattern) ≡ length (path_variables ks
        ++ fresh_after same_name (path_variables ks) (use_names (path_uses rest))) = ap (λ l. length l) (sym split) in
        let a = length-append (path_variables ks)
        (fresh_after same_name (path_variables ks) (use_names (path_uses rest))) in
        let l = (plan_fault-parts w.pattern w.planned).few_variables in
        let m : length (path_variables ks) ≤ MAX_VARIABLES = omega (arith, e, a, l) in grind (arith, nat_tests, m)

    differs : not (some_differ (path_uses ks)) ≡ true
    differs = ap not (none-differ (path_uses ks)
        (λ u v i j. whole-agree sig (ks ++ rest) w u v (in_all u i) (in_all v j)))
      where
        in_all : (u : Use) → In u (path_uses ks) → In u (path_uses (ks ++ rest))
        in_all u i = subst (In u) (sym (flat_map-append token_uses ks rest))
            (in-left u (path_uses ks) (path_uses rest) i)
