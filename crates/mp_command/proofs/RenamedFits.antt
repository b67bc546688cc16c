-- A table that fits a pattern fits it with its variables called by their numbers too, with the same values, and a
-- condition on them holds of these exactly where it holds.
use Rattle.std.proofs.Common.{◌≡◌, ◌≤◌, ℕ, List, [], ◌∷◌, map, length, Bool, true, false, refl, ap, ap₂, sym, ◌∙◌}
use Rattle.std.proofs.Common.{inl, inr, subst}
use Rattle.std.specs.Prelude.{Option, Some, None, ◌&&◌, ◌||◌, not, filter, option_map, if◌then◌else◌, sum_by}
use Rattle.std.specs.List.{AllByRecursion, list_any, list_all}
use Rattle.mp_term.specs.Listing.{In}
use Rattle.mp_term.specs.NormalTest.{has_head}
use Rattle.mp_term.specs.Signature.{Sig, in_kind}
use Rattle.mp_term.specs.Size.{node_count}
use Rattle.mp_term.specs.Sorting.{sorted}
use Rattle.mp_term.specs.Order.{tree_cmp}
use Rattle.mp_term.specs.Tree.{Tree}
use Rattle.mp_term.proofs.ListLaws.{all-split}
use Rattle.mp_pattern.specs.declared.limits.TheConstants.{MAX_VARIABLES}
use Rattle.mp_pattern.specs.Admission.{meets}
use Rattle.mp_pattern.specs.CondTree.{Operand, var, ground, Amount, fixed, count, size, Cond, amounts, same, less, free}
use Rattle.mp_pattern.specs.CondTree.{of_kind, headed, negation, all_of, any_of, Conds, no_conds, more_conds}
use Rattle.mp_pattern.specs.Fits.{AllTakeBy, ByValue, Fits, Table, Takes, is_left_out, no_sequence, some_left_out}
use Rattle.mp_pattern.specs.Holds.{amount_of, all_hold, compares, comes_before, holds, is_bag, list_of, listed}
use Rattle.mp_pattern.specs.Holds.{occurs, some_holds, value_at}
use Rattle.mp_pattern.specs.NetTokens.{renamed, all_renamed, tokens_of}
use Rattle.mp_pattern.specs.Operands.{all_operands, amount_operands, operands}
use Rattle.mp_pattern.specs.PatternTree.{Wildcard, dot, kind, plus, star, optional, counted, is_sequence}
use Rattle.mp_pattern.specs.PatternTree.{Pattern, symbol_pattern, app_pattern, wild_pattern, Patterns, no_patterns}
use Rattle.mp_pattern.specs.PatternTree.{more_patterns}
use Rattle.mp_pattern.specs.SoundRule.{HasSoundCondition, IsSoundOperand}
use Rattle.mp_pattern.specs.Value.{Binding, IsFinal, Subst, Value, form_of, same_name, same_terms, value_of}
use Rattle.mp_pattern.specs.Variables.{Use, comm_above, form_among, uses, variables}
use Rattle.mp_pattern.proofs.NameLaws.{same_name-is}
use Rattle.mp_pattern.proofs.SoundRules.{operands-IsChecked}
use Rattle.mp_theory.proofs.FirstItems.{known-in}
use Rattle.mp_walk.specs.NamedItems.{with_names}
use Rattle.mp_walk.specs.Walkable.{StandsFor}
use Rattle.mp_walk.proofs.NumberedNames.{AllNamesIn, NamesIn, own-names}
use Rattle.mp_program.specs.ProgramOf.{renamed_amount, renamed_cond, renamed_conds, renamed_operand}
use Rattle.mp_gen.proofs.RuleNames.{new_name, new_use, same-new, use-variable, uses-renamed, variables-renamed}

-- ---- what the nodes of a pattern take

module _ (vs : List (List ℕ)) where
  left_out-renamed : (p : Pattern) (l : List Tree) → is_left_out (renamed vs p) l ≡ is_left_out p l
  left_out-renamed (symbol_pattern n) l = refl
  left_out-renamed (app_pattern f ps) l = refl
  left_out-renamed (wild_pattern dot x) l = refl
  left_out-renamed (wild_pattern (kind k) x) l = refl
  left_out-renamed (wild_pattern plus x) l = refl
  left_out-renamed (wild_pattern star x) l = refl
  left_out-renamed (wild_pattern (counted n b) x) l = refl
  left_out-renamed (wild_pattern (optional d) x) [] = refl
  left_out-renamed (wild_pattern (optional d) x) (t ∷ ts) = refl

  some_left_out-renamed : (ps : Patterns) (ls : List (List Tree))
      → some_left_out (all_renamed vs ps) ls ≡ some_left_out ps ls
  some_left_out-renamed no_patterns ls = refl
  some_left_out-renamed (more_patterns p ps) [] = refl
  some_left_out-renamed (more_patterns p ps) (l ∷ ls) =
      ap₂ (λ (a b : Bool). a || b) (left_out-renamed p l) (some_left_out-renamed ps ls)

  no_sequence-renamed : (ps : Patterns) → no_sequence (all_renamed vs ps) ≡ no_sequence ps
  no_sequence-renamed no_patterns = refl
  no_sequence-renamed (more_patterns (symbol_pattern n) ps) = no_sequence-renamed ps
  no_sequence-renamed (more_patterns (app_pattern f qs) ps) = no_sequence-renamed ps
  no_sequence-renamed (more_patterns (wild_pattern w x) ps) =
      ap (λ b. not (is_sequence w) && b) (no_sequence-renamed ps)

module _ (sig : Sig) (vs : List (List ℕ)) (s u : Subst)
    (value : (x : List ℕ) → In x vs → value_of u (new_name vs x) ≡ value_of s x) where
  wild-renamed : (f : Option ℕ) (w : Wildcard) (x : Option (List ℕ)) (l : List Tree) → NamesIn vs (wild_pattern w x)
      → ByValue sig s f w x l → ByValue sig u f w (option_map (new_name vs) x) l
  wild-renamed f w None l h k = k
  wild-renamed f w (Some x) l h k = (k.0, value x h ∙ k.1, k.2)

  mutual
    takes-renamed : (f : Option ℕ) (p : Pattern) (l : List Tree) (T : Table) → NamesIn vs p → Takes sig s f p l T
        → Takes sig u f (renamed vs p) l T
    takes-renamed f (symbol_pattern n) l T h k = k
    takes-renamed f (wild_pattern w x) l T h k = (wild-renamed f w x l h k.0, k.1)
    takes-renamed f (app_pattern g ps) l T h (inl a) = inl (record {
      takes = a.takes;
      tables = a.tables;
      children = all_take-renamed g ps a.takes a.tables h a.children;
      node = a.node;
      table = a.table;
    })
    takes-renamed f (app_pattern g ps) l T h (inr a) = inr (record {
      takes = a.takes;
      tables = a.tables;
      children = all_take-renamed g ps a.takes a.tables h a.children;
      identity = a.identity;
      plain = no_sequence-renamed vs ps ∙ a.plain;
      left_out = some_left_out-renamed vs ps a.takes ∙ a.left_out;
      term = a.term;
      node = a.node;
      together = a.together;
      table = a.table;
    })

    all_take-renamed : (g : ℕ) (ps : Patterns) (ls : List (List Tree)) (Ts : List Table) → AllNamesIn vs ps
        → AllTakeBy sig (ByValue sig s) g ps ls Ts → AllTakeBy sig (ByValue sig u) g (all_renamed vs ps) ls Ts
    all_take-renamed g no_patterns [] [] h k = tt
    all_take-renamed g no_patterns [] (T ∷ Ts) h k = absurd k
    all_take-renamed g no_patterns (l ∷ ls) Ts h k = absurd k
    all_take-renamed g (more_patterns p ps) [] Ts h k = absurd k
    all_take-renamed g (more_patterns p ps) (l ∷ ls) [] h k = absurd k
    all_take-renamed g (more_patterns p ps) (l ∷ ls) (T ∷ Ts) h k =
        (takes-renamed (Some g) p l T h.0 k.0, all_take-renamed g ps ls Ts h.1 k.1)

-- ---- substitutions under new names

module _ (vs : List (List ℕ)) where
  abbrev pub new_binding : Binding → Binding
  new_binding b = record { name = new_name vs b.name; value = b.value }

  -- the substitution with its variables called by their numbers
  abbrev pub numbered_subst : Subst → Subst
  numbered_subst s = map new_binding s

  -- under the old names it is as before
  pub numbered-back : (s : Subst) → with_names (map (λ (b : Binding). b.name) s) (numbered_subst s) ≡ s
  numbered-back [] = refl
  numbered-back (b ∷ s) = ap (λ r. b ∷ r) (numbered-back s)

  names-numbered : (s : Subst) → map (λ (b : Binding). b.name) (numbered_subst s)
      ≡ map (new_name vs) (map (λ (b : Binding). b.name) s)
  names-numbered [] = refl
  names-numbered (b ∷ s) = ap (λ ns. new_name vs b.name ∷ ns) (names-numbered s)

  module _ (sig : Sig) (few : length vs ≤ MAX_VARIABLES) where
    -- a variable has the same value
    value-numbered : (s : Subst) (x : List ℕ) → AllByRecursion (λ (b : Binding). In b.name vs) s → In x vs
        → value_of (numbered_subst s) (new_name vs x) ≡ value_of s x
    value-numbered [] x h i = refl
    value-numbered (b ∷ s) x h i =
        ap₂ (λ (t : Bool) (o : Option Value). if t then Some b.value else o) (same-new vs sig few b.name x h.0 i)
        (value-numbered s x h.1 i)

    -- and the same form
    mine-numbered : (us : List Use) (x : List ℕ) → AllByRecursion (λ (u : Use). In u.name vs) us → In x vs
        → filter (λ u. same_name (new_name vs x) u.name && is_sequence u.wildcard) (map (new_use vs) us)
        ≡ map (new_use vs) (filter (λ u. same_name x u.name && is_sequence u.wildcard) us)
    mine-numbered [] x h i = refl
    mine-numbered (u ∷ us) x h i =
        ap (λ (t : Bool). if t && is_sequence u.wildcard
        then new_use vs u ∷ filter (λ w. same_name (new_name vs x) w.name && is_sequence w.wildcard)
        (map (new_use vs) us)
        else filter (λ w. same_name (new_name vs x) w.name && is_sequence w.wildcard) (map (new_use vs) us))
        (same-new vs sig few x u.name i h.0)
        ∙ by_test (same_name x u.name && is_sequence u.wildcard) (mine-numbered us x h.1 i)
      where
        by_test : (t : Bool) → filter (λ w. same_name (new_name vs x) w.name && is_sequence w.wildcard)
            (map (new_use vs) us)
            ≡ map (new_use vs) (filter (λ w. same_name x w.name && is_sequence w.wildcard) us)
            → (if t then new_use vs u ∷ filter (λ w. same_name (new_name vs x) w.name && is_sequence w.wildcard)
            (map (new_use vs) us)
            else filter (λ w. same_name (new_name vs x) w.name && is_sequence w.wildcard) (map (new_use vs) us))
            ≡ map (new_use vs) (if t then u ∷ filter (λ w. same_name x w.name && is_sequence w.wildcard) us
            else filter (λ w. same_name x w.name && is_sequence w.wildcard) us)
        by_test true e = ap (λ ws. new_use vs u ∷ ws) e
        by_test false e = e

    any_tuple-numbered : (us : List Use) → list_any (λ (u : Use). not (comm_above sig u.under)) (map (new_use vs) us)
        ≡ list_any (λ (u : Use). not (comm_above sig u.under)) us
    any_tuple-numbered [] = refl
    any_tuple-numbered (u ∷ us) = ap (λ b. not (comm_above sig u.under) || b) (any_tuple-numbered us)

    any-numbered : (us : List Use) → list_any (λ (u : Use). true) (map (new_use vs) us)
        ≡ list_any (λ (u : Use). true) us
    any-numbered [] = refl
    any-numbered (u ∷ us) = refl

    form-numbered : (us : List Use) (x : List ℕ) → AllByRecursion (λ (u : Use). In u.name vs) us → In x vs
        → form_among sig (map (new_use vs) us) (new_name vs x) ≡ form_among sig us x
    form-numbered us x h i =
        let mine = filter (λ (u : Use). same_name x u.name && is_sequence u.wildcard) us in
        rw (mine-numbered us x h i, any_tuple-numbered mine, any-numbered mine) refl

    final-numbered : (s : Subst) → AllByRecursion (λ (b : Binding). IsFinal sig b.value) s
        → AllByRecursion (λ (b : Binding). IsFinal sig b.value) (numbered_subst s)
    final-numbered [] h = tt
    final-numbered (b ∷ s) h = (h.0, final-numbered s h.1)

    forms-numbered : (us : List Use) (s : Subst) → AllByRecursion (λ (u : Use). In u.name vs) us
        → AllByRecursion (λ (b : Binding). In b.name vs) s
        → AllByRecursion (λ (b : Binding). form_of b.value ≡ form_among sig us b.name) s
        → AllByRecursion (λ (b : Binding). form_of b.value ≡ form_among sig (map (new_use vs) us) b.name)
        (numbered_subst s)
    forms-numbered us [] h k forms = tt
    forms-numbered us (b ∷ s) h k forms =
        (forms.0 ∙ sym (form-numbered us b.name h k.0), forms-numbered us s h k.1 forms.1)

-- ---- fits

-- names that are those of a list are in it
names-among : (s : Subst) (xs : List (List ℕ)) → ((x : List ℕ) → In x (map (λ (b : Binding). b.name) s) → In x xs)
    → AllByRecursion (λ (b : Binding). In b.name xs) s
names-among [] xs h = tt
names-among (b ∷ s) xs h = (h b.name (inl refl), names-among s xs (λ x i. h x (inr i)))

module _ (sig : Sig) (p : Pattern) (few : length (variables p) ≤ MAX_VARIABLES)
    (stands : StandsFor sig (tokens_of sig p) (renamed (variables p) p)) where
  abbrev vs : List (List ℕ)
  vs = variables p

  uses-among : (us : List Use) → ((u : Use) → In u us → In u (uses None p))
      → AllByRecursion (λ (u : Use). In u.name vs) us
  uses-among [] h = tt
  uses-among (u ∷ us) h =
      (use-variable sig p few stands u (h u (inl refl)), uses-among us (λ w i. h w (inr i)))

  module _ (t : Tree) (s : Subst) (T : Table) (fits : Fits sig p t s T) where
    among : AllByRecursion (λ (b : Binding). In b.name vs) s
    among = names-among s vs (λ x i. subst (In x) fits.subst_of.names i)

    -- the table fits the pattern under new names
    pub fits-renamed : Fits sig (renamed vs p) t (numbered_subst vs s) T
    fits-renamed = record {
      subst_of = record {
        names = names-numbered vs s ∙ ap (map (new_name vs)) fits.subst_of.names
            ∙ sym (variables-renamed sig p few stands);
        forms = subst (λ us. AllByRecursion (λ (b : Binding). form_of b.value ≡ form_among sig us b.name)
            (numbered_subst vs s)) (sym (uses-renamed vs None p))
            (forms-numbered vs sig few (uses None p) s (uses-among (uses None p) (λ u i. i)) among fits.subst_of.forms);
        final = final-numbered vs sig few s fits.subst_of.final;
      };
      takes = takes-renamed sig vs s (numbered_subst vs s) (λ x i. value-numbered vs sig few s x among i) None p
          (t ∷ []) T (own-names p) fits.takes;
    }

    -- under the old names its values are as before
    pub fits-back : with_names vs (numbered_subst vs s) ≡ s
    fits-back = subst (λ xs. with_names xs (numbered_subst vs s) ≡ s) fits.subst_of.names (numbered-back vs s)

-- ---- conditions

module _ (sig : Sig) (vs : List (List ℕ)) (s u : Subst) where
  -- the operand has the same value under new names
  abbrev pub IsKept : Operand → Type 0
  IsKept a = value_at u (renamed_operand vs a) ≡ value_at s a

  list-kept : (a : Operand) → IsKept a → list_of u (renamed_operand vs a) ≡ list_of s a
  list-kept a h = ap listed h

  amount-kept : (m : Amount) → AllByRecursion IsKept (amount_operands m)
      → amount_of u (renamed_amount vs m) ≡ amount_of s m
  amount-kept (fixed n) h = refl
  amount-kept (count a) h = ap length (list-kept a h.0)
  amount-kept (size a) h = ap (sum_by node_count) (list-kept a h.0)

  mutual
    -- the condition holds exactly where it holds under new names
    pub holds-kept : (c : Cond) → AllByRecursion IsKept (operands c) → holds sig u (renamed_cond vs c) ≡ holds sig s c
    holds-kept (amounts m k n) h =
        let parts = all-split IsKept (amount_operands m) (amount_operands n) h in
        ap₂ (compares k) (amount-kept m parts.0) (amount-kept n parts.1)
    holds-kept (same a b) h =
        ap₂ (λ v w. if is_bag v || is_bag w then same_terms (sorted tree_cmp (listed v)) (sorted tree_cmp (listed w))
        else same_terms (listed v) (listed w)) h.0 h.1.0
    holds-kept (less a b) h = ap₂ comes_before h.0 h.1.0
    holds-kept (free a b) h =
        ap₂ (λ ts us. list_all (λ t. list_all (λ w. not (occurs t w)) us) ts) (list-kept a h.0) (list-kept b h.1.0)
    holds-kept (of_kind a k) h = ap (list_all (in_kind sig k)) (list-kept a h.0)
    holds-kept (headed a f) h = ap (list_all (has_head f)) (list-kept a h.0)
    holds-kept (negation c) h = ap not (holds-kept c h)
    holds-kept (all_of cs) h = all_hold-kept cs h
    holds-kept (any_of cs) h = some_hold-kept cs h

    all_hold-kept : (cs : Conds) → AllByRecursion IsKept (all_operands cs)
        → all_hold sig u (renamed_conds vs cs) ≡ all_hold sig s cs
    all_hold-kept no_conds h = refl
    all_hold-kept (more_conds c cs) h =
        let parts = all-split IsKept (operands c) (all_operands cs) h in
        ap₂ (λ (a b : Bool). a && b) (holds-kept c parts.0) (all_hold-kept cs parts.1)

    some_hold-kept : (cs : Conds) → AllByRecursion IsKept (all_operands cs)
        → some_holds sig u (renamed_conds vs cs) ≡ some_holds sig s cs
    some_hold-kept no_conds h = refl
    some_hold-kept (more_conds c cs) h =
        let parts = all-split IsKept (operands c) (all_operands cs) h in
        ap₂ (λ (a b : Bool). a || b) (holds-kept c parts.0) (some_hold-kept cs parts.1)

module _ (sig : Sig) (p : Pattern) (few : length (variables p) ≤ MAX_VARIABLES) (t : Tree) (s : Subst) (T : Table)
    (fits : Fits sig p t s T) where
  abbrev named : List (List ℕ)
  named = variables p

  operands-kept : (ops : List Operand) → AllByRecursion (IsSoundOperand sig p) ops
      → AllByRecursion (IsKept sig named s (numbered_subst named s)) ops
  operands-kept [] h = tt
  operands-kept (var x ∷ ops) h = (
    value-numbered named sig few s x (names-among s named (λ y i. subst (In y) fits.subst_of.names i))
        (known-in same_name same_name-is named x h.0),
    operands-kept ops h.1,
  )
  operands-kept (ground u ∷ ops) h = (refl, operands-kept ops h.1)

  -- the condition of a sound rule holds exactly where it holds under new names
  pub meets-renamed : (o : Option Cond) → HasSoundCondition sig p o
      → meets sig (option_map (renamed_cond named) o) (numbered_subst named s) ≡ meets sig o s
  meets-renamed None h = refl
  meets-renamed (Some c) h =
      holds-kept sig named s (numbered_subst named s) c
      (operands-kept (operands c) (operands-IsChecked sig p c h.checked))
