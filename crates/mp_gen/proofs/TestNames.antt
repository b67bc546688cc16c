-- The condition of a sound rule, its variables numbered, suits the path of the rule's tokens.
use Rattle.std.proofs.Common.{◌≡◌, ◌≤◌, ℕ, List, [], ◌∷◌, ◌++◌, map, length, Bool, true, false, ◌&&◌, refl, ap, sym}
use Rattle.std.proofs.Common.{◌∙◌, subst}
use Rattle.std.specs.Prelude.{Some, None, not, flat_map, filter, if◌then◌else◌}
use Rattle.std.specs.List.{AllByRecursion, list_any, list_all}
use Rattle.std.proofs.lemmas.Bool.{and_from}
use Rattle.std.proofs.lemmas.Grind.{flat_map-append}
use Rattle.std.proofs.lemmas.List.{map-append}
use Rattle.mp_term.specs.Listing.{In}
use Rattle.mp_term.specs.Signature.{Sig}
use Rattle.mp_term.proofs.ListLaws.{all-append}
use Rattle.mp_term.proofs.SearchLaws.{in-filter, in-map, from_in-map}
use Rattle.mp_pattern.specs.declared.limits.TheConstants.{MAX_VARIABLES}
use Rattle.mp_pattern.specs.CondTree.{Operand, var, ground, Amount, fixed, count, size, Cond, amounts, same, less, free}
use Rattle.mp_pattern.specs.CondTree.{of_kind, headed, negation, all_of, any_of, Conds, no_conds, more_conds}
use Rattle.mp_pattern.specs.Firsts.{is_known}
use Rattle.mp_pattern.specs.NetTokens.{renamed, tokens_of}
use Rattle.mp_pattern.specs.Operands.{amount_operands, operands, all_operands}
use Rattle.mp_pattern.specs.PatternTree.{Pattern, is_sequence}
use Rattle.mp_pattern.specs.SoundRule.{IsVariableOf, IsOneTerm, IsSoundOperand, IsSingle, IsSoundAmount, IsChecked}
use Rattle.mp_pattern.specs.SoundRule.{AreChecked}
use Rattle.mp_pattern.specs.Value.{one_form, seq_form, bag_form, same_name}
use Rattle.mp_pattern.specs.Variables.{Use, uses, variables, comm_above}
use Rattle.mp_pattern.proofs.NameLaws.{same_name-is, same_name-itself}
use Rattle.mp_theory.proofs.FirstItems.{known-in}
use Rattle.mp_walk.specs.Walkable.{StandsFor}
use Rattle.mp_program.specs.ProgramOf.{renamed_cond, renamed_conds}
use Rattle.mp_program.specs.TokenPaths.{path_uses, path_variables, operand_names, cond_names, less_names}
use Rattle.mp_program.specs.TokenPaths.{all_less_names, is_sequence_name, suits_test}
use Rattle.mp_program.proofs.ListLaws.{list_any-none}
use Rattle.mp_program.proofs.PathLaws.{bare}
use Rattle.mp_program_laws.proofs.RenamedLaws.{operand-names, cond_names-renamed}
use Rattle.mp_gen.proofs.RuleNames.{new_name, new_use, same-new, known-new, use-variable, rule-uses, rule-variables}

-- ---- the names of a renamed condition

module _ (vs : List (List ℕ)) where
  mutual
    pub less_names-renamed : (c : Cond) → less_names (renamed_cond vs c) ≡ map (new_name vs) (less_names c)
    less_names-renamed (amounts m c n) = refl
    less_names-renamed (same a b) = refl
    less_names-renamed (less a b) =
        (λ i. operand-names vs a i ++ operand-names vs b i)
        ∙ sym (map-append (new_name vs) (operand_names a) (operand_names b))
    less_names-renamed (free a b) = refl
    less_names-renamed (of_kind a k) = refl
    less_names-renamed (headed a f) = refl
    less_names-renamed (negation c) = less_names-renamed c
    less_names-renamed (all_of cs) = all_less_names-renamed cs
    less_names-renamed (any_of cs) = all_less_names-renamed cs

    all_less_names-renamed : (cs : Conds)
        → all_less_names (renamed_conds vs cs) ≡ map (new_name vs) (all_less_names cs)
    all_less_names-renamed no_conds = refl
    all_less_names-renamed (more_conds c cs) =
        ap (λ l. l ++ all_less_names (renamed_conds vs cs)) (less_names-renamed c)
        ∙ ap (λ l. map (new_name vs) (less_names c) ++ l) (all_less_names-renamed cs)
        ∙ sym (map-append (new_name vs) (less_names c) (all_less_names cs))

-- ---- the names of a checked condition

module _ (sig : Sig) (p : Pattern) where
  operand-known : (a : Operand) → IsSoundOperand sig p a → AllByRecursion (IsVariableOf sig p) (operand_names a)
  operand-known (var x) h = (h, tt)
  operand-known (ground t) h = tt

  amount-known : (m : Amount) → IsSoundAmount sig p m
      → AllByRecursion (IsVariableOf sig p) (flat_map operand_names (amount_operands m))
  amount-known (fixed n) h = tt
  amount-known (count a) h = all-append (IsVariableOf sig p) (operand_names a) [] (operand-known a h) tt
  amount-known (size a) h = all-append (IsVariableOf sig p) (operand_names a) [] (operand-known a h) tt

  both-known : (ops bs : List Operand) → AllByRecursion (IsVariableOf sig p) (flat_map operand_names ops)
      → AllByRecursion (IsVariableOf sig p) (flat_map operand_names bs)
      → AllByRecursion (IsVariableOf sig p) (flat_map operand_names (ops ++ bs))
  both-known ops bs h k = subst (AllByRecursion (IsVariableOf sig p)) (sym (flat_map-append operand_names ops bs))
      (all-append (IsVariableOf sig p) (flat_map operand_names ops) (flat_map operand_names bs) h k)

  one-known : (a : Operand) → IsSoundOperand sig p a
      → AllByRecursion (IsVariableOf sig p) (flat_map operand_names (a ∷ []))
  one-known a h = all-append (IsVariableOf sig p) (operand_names a) [] (operand-known a h) tt

  two-known : (a b : Operand) → IsSoundOperand sig p a → IsSoundOperand sig p b
      → AllByRecursion (IsVariableOf sig p) (flat_map operand_names (a ∷ b ∷ []))
  two-known a b h k = all-append (IsVariableOf sig p) (operand_names a) (flat_map operand_names (b ∷ []))
      (operand-known a h) (one-known b k)

  mutual
    -- they are variables of the pattern
    pub checked-names : (c : Cond) → IsChecked sig p c → AllByRecursion (IsVariableOf sig p) (cond_names c)
    checked-names (amounts m c n) h =
        both-known (amount_operands m) (amount_operands n) (amount-known m h.0) (amount-known n h.1)
    checked-names (same a b) h = two-known a b h.0 h.1
    checked-names (less a b) h = two-known a b h.0.0 h.1.0
    checked-names (free a b) h = two-known a b h.0 h.1
    checked-names (of_kind a k) h = one-known a h.0
    checked-names (headed a f) h = one-known a h.0
    checked-names (negation c) h = checked-names c h
    checked-names (all_of cs) h = all_checked-names cs h.1
    checked-names (any_of cs) h = all_checked-names cs h.1

    all_checked-names : (cs : Conds) → AreChecked sig p cs
        → AllByRecursion (IsVariableOf sig p) (flat_map operand_names (all_operands cs))
    all_checked-names no_conds h = tt
    all_checked-names (more_conds c cs) h =
        both-known (operands c) (all_operands cs) (checked-names c h.0) (all_checked-names cs h.1)

  -- the word is a variable that stands for one term
  abbrev IsSingleName : List ℕ → Type 0
  IsSingleName x = IsVariableOf sig p x × IsOneTerm sig p x

  operand-single : (a : Operand) → IsSoundOperand sig p a → IsSingle sig p a
      → AllByRecursion IsSingleName (operand_names a)
  operand-single (var x) h k = ((h, k), tt)
  operand-single (ground t) h k = tt

  mutual
    -- those that are compared by `less` stand for one term
    checked-less : (c : Cond) → IsChecked sig p c → AllByRecursion IsSingleName (less_names c)
    checked-less (amounts m c n) h = tt
    checked-less (same a b) h = tt
    checked-less (less a b) h = all-append IsSingleName (operand_names a) (operand_names b)
        (operand-single a h.0.0 h.0.1) (operand-single b h.1.0 h.1.1)
    checked-less (free a b) h = tt
    checked-less (of_kind a k) h = tt
    checked-less (headed a f) h = tt
    checked-less (negation c) h = checked-less c h
    checked-less (all_of cs) h = all_checked-less cs h.1
    checked-less (any_of cs) h = all_checked-less cs h.1

    all_checked-less : (cs : Conds) → AreChecked sig p cs → AllByRecursion IsSingleName (all_less_names cs)
    all_checked-less no_conds h = tt
    all_checked-less (more_conds c cs) h =
        all-append IsSingleName (less_names c) (all_less_names cs) (checked-less c h.0) (all_checked-less cs h.1)

  -- no occurrence of a variable that stands for one term is a sequence
  one-use : (x : List ℕ) → IsOneTerm sig p x → (u : Use) → In u (uses None p) → same_name x u.name ≡ true
      → is_sequence u.wildcard ≡ false
  one-use x one u i e = by_sequence (is_sequence u.wildcard) refl
    where
      mine : List Use
      mine = filter (λ (v : Use). same_name x v.name && is_sequence v.wildcard) (uses None p)

      form : (us : List Use) → In u us
          → (if list_any (λ (v : Use). not (comm_above sig v.under)) us then seq_form
          else (if list_any (λ _. true) us then bag_form else one_form)) ≡ one_form → ⊥
      form [] j h = absurd j
      form (v ∷ us) j h = by_any (list_any (λ (z : Use). not (comm_above sig z.under)) (v ∷ us)) h
        where
          by_any : (b : Bool) → (if b then seq_form
              else (if list_any (λ _. true) (v ∷ us) then bag_form else one_form)) ≡ one_form → ⊥
          by_any true k = cc
          by_any false k = cc

      by_sequence : (b : Bool) → is_sequence u.wildcard ≡ b → b ≡ false
      by_sequence false k = refl
      by_sequence true k = absurd (form
          (filter (λ (v : Use). same_name x v.name && is_sequence v.wildcard) (uses None p))
          (in-filter (λ (v : Use). same_name x v.name && is_sequence v.wildcard) u (uses None p) i (and_from _ _ e k))
          one)

-- ---- the test suits the path

each-true : (test : List ℕ → Bool) (f : List ℕ → List ℕ) (P : List ℕ → Type 0) (xs : List (List ℕ))
    → ((x : List ℕ) → P x → test (f x) ≡ true) → AllByRecursion P xs → list_all test (map f xs) ≡ true
each-true test f P [] g h = refl
each-true test f P (x ∷ xs) g h = and_from _ _ (g x h.0) (each-true test f P xs g h.1)

each-false : (test : List ℕ → Bool) (f : List ℕ → List ℕ) (P : List ℕ → Type 0) (xs : List (List ℕ))
    → ((x : List ℕ) → P x → test (f x) ≡ false) → AllByRecursion P xs → list_any test (map f xs) ≡ false
each-false test f P [] g h = refl
each-false test f P (x ∷ xs) g h = rw (g x h.0, each-false test f P xs g h.1) refl

module _ (sig : Sig) (p : Pattern) (few : length (variables p) ≤ MAX_VARIABLES)
    (stands : StandsFor sig (tokens_of sig p) (renamed (variables p) p)) where
  variable-in : (x : List ℕ) → IsVariableOf sig p x → In x (variables p)
  variable-in x h = known-in same_name same_name-is (variables p) x h

  name-known : (x : List ℕ) → IsVariableOf sig p x
      → is_known same_name (path_variables (tokens_of sig p)) (new_name (variables p) x) ≡ true
  name-known x h =
      ap (λ l. is_known same_name l (new_name (variables p) x)) (rule-variables sig p few stands)
      ∙ known-new (variables p) sig few (variables p) x (λ y i. i) (variable-in x h) ∙ h

  name-single : (x : List ℕ) → IsVariableOf sig p x × IsOneTerm sig p x
      → is_sequence_name (path_uses (tokens_of sig p)) (new_name (variables p) x) ≡ false
  name-single x h = list_any-none (λ (u : Use). same_name u.name (new_name (variables p) x) && is_sequence u.wildcard)
      (path_uses (tokens_of sig p)) each
    where
      each : (u : Use) → In u (path_uses (tokens_of sig p))
          → (same_name u.name (new_name (variables p) x) && is_sequence u.wildcard) ≡ false
      each u i = by_name (same_name u.name (new_name (variables p) x)) refl
        where
          by_name : (b : Bool) → same_name u.name (new_name (variables p) x) ≡ b → (b && is_sequence u.wildcard) ≡ false
          by_name false e = refl
          by_name true e =
              let a = from_in-map bare (bare u) (map (new_use (variables p)) (uses None p))
              (subst (In (bare u)) (rule-uses sig p few stands)
              (in-map bare u (path_uses (tokens_of sig p)) i)) in
              let v = from_in-map (new_use (variables p)) a.0 (uses None p) a.2 in
              let name : u.name ≡ new_name (variables p) v.0.name =
              ap (λ (z : Use). z.name) a.1 ∙ ap (λ (z : Use). z.name) v.1 in
              let wild : u.wildcard ≡ v.0.wildcard =
              ap (λ (z : Use). z.wildcard) a.1 ∙ ap (λ (z : Use). z.wildcard) v.1 in
              let same : same_name v.0.name x ≡ true =
              sym (same-new (variables p) sig few v.0.name x (use-variable sig p few stands v.0 v.2)
              (variable-in x h.0))
              ∙ ap (λ z. same_name z (new_name (variables p) x)) (sym name) ∙ e in
              let turned : same_name x v.0.name ≡ true =
              ap (same_name x) (same_name-is v.0.name x same) ∙ same_name-itself x in
              ap is_sequence wild ∙ one-use sig p x h.1 v.0 v.2 turned

  -- a checked condition with numbered variables suits the path
  pub suits-renamed : (c : Cond) → IsChecked sig p c
      → suits_test (tokens_of sig p) (Some (renamed_cond (variables p) c)) ≡ true
  suits-renamed c h = and_from _ _
      (ap (list_all (is_known same_name (path_variables (tokens_of sig p)))) (cond_names-renamed (variables p) c)
      ∙ each-true (is_known same_name (path_variables (tokens_of sig p))) (new_name (variables p)) (IsVariableOf sig p)
      (cond_names c) name-known (checked-names sig p c h))
      (ap (λ l. not (list_any (is_sequence_name (path_uses (tokens_of sig p))) l))
      (less_names-renamed (variables p) c)
      ∙ ap not (each-false (is_sequence_name (path_uses (tokens_of sig p))) (new_name (variables p))
      (λ x. IsVariableOf sig p x × IsOneTerm sig p x) (less_names c) name-single (checked-less sig p c h)))
