-- The variables of a pattern under the names of their numbers.
use Rattle.std.proofs.Common.{◌≡◌, ◌≤◌, ℕ, List, [], ◌∷◌, ◌++◌, map, length, Bool, true, false, refl, ap, sym}
use Rattle.std.proofs.Common.{◌∙◌, inl, inr, subst, arith}
use Rattle.std.specs.Prelude.{Option, Some, None, ◌||◌, if◌then◌else◌}
use Rattle.std.proofs.lemmas.List.{map-append, length-map}
use Rattle.mp_term.specs.Listing.{In}
use Rattle.mp_term.specs.Signature.{Sig}
use Rattle.mp_term.proofs.SearchLaws.{from_in-append, in-map}
use Rattle.mp_pattern.specs.declared.limits.TheConstants.{MAX_VARIABLES}
use Rattle.mp_pattern.specs.Firsts.{is_known, firsts_after}
use Rattle.mp_pattern.specs.NetTokens.{number_in, numbered, renamed, all_renamed, tokens_of}
use Rattle.mp_pattern.specs.PatternTree.{Pattern, symbol_pattern, app_pattern, wild_pattern, Patterns, no_patterns}
use Rattle.mp_pattern.specs.PatternTree.{more_patterns}
use Rattle.mp_pattern.specs.Value.{same_name}
use Rattle.mp_pattern.specs.Variables.{Use, uses, all_uses, variables}
use Rattle.mp_pattern.proofs.NameLaws.{same_name-is}
use Rattle.mp_theory.proofs.FirstItems.{in-firsts_after}
use Rattle.mp_walk.specs.Walkable.{StandsFor}
use Rattle.mp_walk.proofs.Renaming.{same_new}
use Rattle.mp_walk.proofs.NumberedNames.{own-names}
use Rattle.mp_program.specs.TokenPaths.{path_uses, path_variables}
use Rattle.mp_program.proofs.PathLaws.{all_bare, use_names, names-same, uses-tokens}

module _ (vs : List (List ℕ)) where
  -- the name of a variable's number
  abbrev pub new_name : List ℕ → List ℕ
  new_name x = numbered (number_in vs x)

  abbrev pub new_use : Use → Use
  new_use u = record { name = new_name u.name; wildcard = u.wildcard; under = u.under }

  mutual
    pub uses-renamed : (f : Option ℕ) (p : Pattern) → uses f (renamed vs p) ≡ map new_use (uses f p)
    uses-renamed f (symbol_pattern n) = refl
    uses-renamed f (wild_pattern w None) = refl
    uses-renamed f (wild_pattern w (Some x)) = refl
    uses-renamed f (app_pattern g ps) = all_uses-renamed (Some g) ps

    all_uses-renamed : (f : Option ℕ) (ps : Patterns) → all_uses f (all_renamed vs ps) ≡ map new_use (all_uses f ps)
    all_uses-renamed f no_patterns = refl
    all_uses-renamed f (more_patterns p ps) =
        ap (λ l. l ++ all_uses f (all_renamed vs ps)) (uses-renamed f p)
        ∙ ap (λ l. map new_use (uses f p) ++ l) (all_uses-renamed f ps)
        ∙ sym (map-append new_use (uses f p) (all_uses f ps))

  new-names : (us : List Use) → use_names (map new_use us) ≡ map new_name (use_names us)
  new-names [] = refl
  new-names (u ∷ us) = ap (λ l. new_name u.name ∷ l) (new-names us)

  module _ (sig : Sig) (few : length vs ≤ MAX_VARIABLES) where
    -- new names are the same exactly where the names are
    pub same-new : (x y : List ℕ) → In x vs → In y vs → same_name (new_name x) (new_name y) ≡ same_name x y
    same-new x y i j = same_new sig vs (omega (arith, few)) x y i j

    -- a name is known exactly where its new name is
    pub known-new : (ys : List (List ℕ)) (x : List ℕ) → ((y : List ℕ) → In y ys → In y vs) → In x vs
        → is_known same_name (map new_name ys) (new_name x) ≡ is_known same_name ys x
    known-new [] x h i = refl
    known-new (y ∷ ys) x h i =
        ap (λ b. b || is_known same_name (map new_name ys) (new_name x)) (same-new y x (h y (inl refl)) i)
        ∙ ap (λ b. same_name y x || b) (known-new ys x (λ z j. h z (inr j)) i)

    firsts-new : (ys xs : List (List ℕ)) → ((y : List ℕ) → In y ys → In y vs) → ((x : List ℕ) → In x xs → In x vs)
        → firsts_after same_name (map new_name ys) (map new_name xs) ≡ map new_name (firsts_after same_name ys xs)
    firsts-new ys [] h k = refl
    firsts-new ys (x ∷ xs) h k =
        ap (λ b. firsts_after same_name (if b then map new_name ys else map new_name ys ++ (new_name x ∷ []))
        (map new_name xs)) (known-new ys x h (k x (inl refl)))
        ∙ by_known (is_known same_name ys x) (firsts-new ys xs h (λ z j. k z (inr j)))
        (firsts-new (ys ++ (x ∷ [])) xs more (λ z j. k z (inr j)))
      where
        more : (y : List ℕ) → In y (ys ++ (x ∷ [])) → In y vs
        more y i = elim (from_in-append y ys (x ∷ []) i) [
          | inl j ↦ h y j
          | inr j ↦ elim j [ inl e ↦ subst (λ z. In z vs) (sym e) (k x (inl refl)) | inr j ↦ absurd j ]
        ]

        by_known : (b : Bool) → firsts_after same_name (map new_name ys) (map new_name xs)
            ≡ map new_name (firsts_after same_name ys xs)
            → firsts_after same_name (map new_name (ys ++ (x ∷ []))) (map new_name xs)
            ≡ map new_name (firsts_after same_name (ys ++ (x ∷ [])) xs)
            → firsts_after same_name (if b then map new_name ys else map new_name ys ++ (new_name x ∷ []))
            (map new_name xs)
            ≡ map new_name (firsts_after same_name (if b then ys else ys ++ (x ∷ [])) xs)
        by_known true old new = old
        by_known false old new =
            ap (λ l. firsts_after same_name l (map new_name xs)) (sym (map-append new_name ys (x ∷ []))) ∙ new

-- ---- the tokens of a rule's pattern

module _ (sig : Sig) (p : Pattern) (few : length (variables p) ≤ MAX_VARIABLES)
    (stands : StandsFor sig (tokens_of sig p) (renamed (variables p) p)) where
  pub use-variable : (u : Use) → In u (uses None p) → In u.name (variables p)
  use-variable u i = in-firsts_after same_name same_name-is [] (use_names (uses None p)) u.name
      (inr (in-map (λ (z : Use). z.name) u (uses None p) i))

  pub variables-renamed : variables (renamed (variables p) p) ≡ map (new_name (variables p)) (variables p)
  variables-renamed =
      ap (λ us. firsts_after same_name [] (use_names us)) (uses-renamed (variables p) None p)
      ∙ ap (firsts_after same_name []) (new-names (variables p) (uses None p))
      ∙ firsts-new (variables p) sig few [] (use_names (uses None p)) (λ y i. absurd i) (λ x i.
      in-firsts_after same_name same_name-is [] (use_names (uses None p)) x (inr i))

  -- the occurrences in the tokens are those in the pattern, under new names
  pub rule-uses : all_bare (path_uses (tokens_of sig p))
      ≡ all_bare (map (new_use (variables p)) (uses None p))
  rule-uses =
      ap (λ ks. all_bare (path_uses ks)) (sym stands.tokens)
      ∙ uses-tokens sig (variables (renamed (variables p) p)) stands.names None (renamed (variables p) p)
      (own-names (renamed (variables p) p))
      ∙ ap all_bare (uses-renamed (variables p) None p)

  -- and so are the variables
  pub rule-variables : path_variables (tokens_of sig p) ≡ map (new_name (variables p)) (variables p)
  rule-variables =
      ap (firsts_after same_name []) (names-same (path_uses (tokens_of sig p))
      (map (new_use (variables p)) (uses None p)) rule-uses)
      ∙ ap (λ us. firsts_after same_name [] (use_names us)) (sym (uses-renamed (variables p) None p))
      ∙ variables-renamed

  pub rule-count : length (path_variables (tokens_of sig p)) ≡ length (variables p)
  rule-count = ap (λ l. length l) rule-variables ∙ length-map (variables p) (new_name (variables p))
