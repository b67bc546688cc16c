-- The variables that a condition may name are those of its pattern in normal form.
use Rattle.std.proofs.Common.{◌≡◌, ℕ, Bool, true, false, ◌||◌, ◌&&◌, not, Option, Some, None, List, [], ◌∷◌, ◌++◌}
use Rattle.std.proofs.Common.{eqb, refl, sym, ap, ◌∙◌, subst}
use Rattle.std.specs.Prelude.{◌≢◌, filter, if◌then◌else◌}
use Rattle.std.specs.List.{list_any, AllByRecursion}
use Rattle.std.specs.List.Sorted.{IsPermutation}
use Rattle.std.specs.Str.{bytes_eq}
use Rattle.std.proofs.lemmas.List.Elements.{All-from_recursion, recursion_from_All}
use Rattle.std.proofs.lemmas.List.Folds.{list_any-append}
use Rattle.std.proofs.lemmas.List.Sorted.{IsPermutation-sym, All-permutation}
use Rattle.std.proofs.lemmas.Map.Text.{is_eq-slice_cmp}
use Rattle.std.proofs.lemmas.Slice.Eq.{bytes_eq-Decides}
use Rattle.std.proofs.lemmas.Bool.{or_parts}
use Rattle.std.proofs.Math.Bool.{and-false}
use Rattle.mp_term.specs.Signature.{Sig}
use Rattle.mp_pattern.specs.Firsts.{firsts_after, is_known, add_new}
use Rattle.mp_pattern.specs.Normal.{normal_pattern}
use Rattle.mp_pattern.specs.Extent.{extent}
use Rattle.mp_pattern.specs.PatternTree.{Wildcard, dot, plus, star, counted, is_sequence, optional, Pattern}
use Rattle.mp_pattern.specs.PatternTree.{symbol_pattern, app_pattern, wild_pattern, Patterns, no_patterns}
use Rattle.mp_pattern.specs.PatternTree.{more_patterns}
use Rattle.mp_pattern.specs.PatternTree.{pattern_list, patterns}
use Rattle.mp_pattern.specs.Value.{same_name, one_form, seq_form, bag_form}
use Rattle.mp_pattern.specs.Variables.{Use, uses, all_uses, comm_above, variables, variable_form}
use Rattle.mp_pattern.proofs.Preserved.{of_normal_pattern}
use Rattle.mp_term.specs.Tree as term
use Rattle.mp_term.specs.Normal.{normal}
use Rattle.mp_term.proofs.ListLaws.{all-append, all-split}
use Rattle.mp_pattern.proofs.VariableLaws.{IsPermutation-variables}
use Rattle.mp_parser.specs.Syntax.{Tree, Symbol, Apply, InfixOf, Wild, Optional, Counted, Variable, Trees, no_trees}
use Rattle.mp_parser.specs.Syntax.{more_trees}
use Rattle.mp_build.specs.Build.{op_number, sign_number, head_number, marked_shape, count_of, counted_shape, kind_shape}
use Rattle.mp_build.specs.Build.{variable_of, term_of, pattern_of, patterns_of}
use Rattle.mp_build.specs.Names.{named}
use Rattle.mp_build.specs.Scope as scope
use Rattle.mp_build.specs.Scope.{is_many, pattern_variables, all_pattern_variables, names_of, is_bound}
use Rattle.mp_build.specs.Scope.{is_bound_sequence}
use Rattle.mp_build.proofs.Declared.{bytes_eq_comm}
use Rattle.mp_build.proofs.SoundLaws.{is_known-alike, variables-pattern_of}

differ : true ≡ false → ⊥
differ e = cc

-- a wildcard without a kind, whose variable stands for one term, is no sequence
one-marked : (marks : ℕ) → is_many (extent (marked_shape marks)) ≡ false → is_sequence (marked_shape marks) ≡ false
one-marked marks h = go (eqb marks 3) (eqb marks 2) h
  where
    go : (three two : Bool) → is_many (extent (if three then star else (if two then plus else dot))) ≡ false
        → is_sequence (if three then star else (if two then plus else dot)) ≡ false
    go true two h = absurd (differ h)
    go false true h = absurd (differ h)
    go false false h = refl

-- nor is one with a count
one-counted : (n : ℕ) (more : Bool) → is_many (extent (counted_shape n more)) ≡ false
    → is_sequence (counted_shape n more) ≡ false
one-counted n more h = go (eqb n 1) refl (eqb n 0) more h
  where
    shape : Bool → Bool → Bool → Wildcard
    shape one none more = if one then (if more then plus else dot) else (if none && more then star else counted n
        (not more))

    go : (one : Bool) → eqb n 1 ≡ one → (none more : Bool) → is_many (extent (shape one none more)) ≡ false
        → is_sequence (shape one none more) ≡ false
    go true e none true h = absurd (differ h)
    go true e none false h = refl
    go false e true true h = absurd (differ h)
    go false e false true h = absurd (differ h)
    go false e true false h = absurd (differ (sym (ap not e) ∙ h))
    go false e false false h = absurd (differ (sym (ap not e) ∙ h))

-- ---- names that are known

module _ (x : List ℕ) where
  -- what is known stays so among further names
  known-append : (ys zs : List (List ℕ)) → is_known bytes_eq ys x ≡ true → is_known bytes_eq (ys ++ zs) x ≡ true
  known-append [] zs h = cc
  known-append (y ∷ ys) zs h = go (bytes_eq y x) (known-append ys zs) h
    where
      go : (b : Bool) → (is_known bytes_eq ys x ≡ true → is_known bytes_eq (ys ++ zs) x ≡ true)
          → (b || is_known bytes_eq ys x) ≡ true → (b || is_known bytes_eq (ys ++ zs) x) ≡ true
      go true rest k = refl
      go false rest k = rest k

  -- so it does behind other names
  known-behind : (ys zs : List (List ℕ)) → is_known bytes_eq zs x ≡ true → is_known bytes_eq (ys ++ zs) x ≡ true
  known-behind [] zs h = h
  known-behind (y ∷ ys) zs h = go (bytes_eq y x) (known-behind ys zs h)
    where
      go : (b : Bool) → is_known bytes_eq (ys ++ zs) x ≡ true → (b || is_known bytes_eq (ys ++ zs) x) ≡ true
      go true rest = refl
      go false rest = rest

  known-add_new : (y : List ℕ) (ys : List (List ℕ)) → is_known bytes_eq ys x ≡ true
      → is_known bytes_eq (add_new bytes_eq ys y) x ≡ true
  known-add_new y ys h = go (is_known bytes_eq ys y)
    where
      go : (b : Bool) → is_known bytes_eq (if b then ys else (ys ++ (y ∷ []))) x ≡ true
      go true = h
      go false = known-append ys (y ∷ []) h

  -- a name that is added is known
  known-added : (ys : List (List ℕ)) → is_known bytes_eq (add_new bytes_eq ys x) x ≡ true
  known-added ys = go (is_known bytes_eq ys x) refl
    where
      go : (b : Bool) → is_known bytes_eq ys x ≡ b → is_known bytes_eq (if b then ys else (ys ++ (x ∷ []))) x ≡ true
      go true e = e
      go false e = known-behind ys (x ∷ []) (ap (λ b. b || false) ((bytes_eq-Decides x x).1 refl))

  known-firsts_after : (ys zs : List (List ℕ)) → is_known bytes_eq ys x ≡ true
      → is_known bytes_eq (firsts_after bytes_eq ys zs) x ≡ true
  known-firsts_after ys [] h = h
  known-firsts_after ys (z ∷ zs) h = known-firsts_after (add_new bytes_eq ys z) zs (known-add_new z ys h)

  -- each name is among those that stand once
  pub known-once : (ys zs : List (List ℕ)) → is_known bytes_eq zs x ≡ true
      → is_known bytes_eq (firsts_after bytes_eq ys zs) x ≡ true
  known-once ys [] h = cc
  known-once ys (z ∷ zs) h = go (bytes_eq z x) (known-once (add_new bytes_eq ys z) zs) refl h
    where
      go : (b : Bool)
          → (is_known bytes_eq zs x ≡ true → is_known bytes_eq (firsts_after bytes_eq (add_new bytes_eq ys z) zs) x
          ≡ true) → bytes_eq z x ≡ b → (b || is_known bytes_eq zs x) ≡ true
          → is_known bytes_eq (firsts_after bytes_eq (add_new bytes_eq ys z) zs) x ≡ true
      go true rest e k = known-firsts_after (add_new bytes_eq ys z) zs
          (subst (λ y. is_known bytes_eq (add_new bytes_eq ys y) x ≡ true) (sym ((bytes_eq-Decides z x).0 e))
          (known-added ys))
      go false rest e k = rest k

  -- ---- names in another order

  all-unknown : (ys : List (List ℕ)) → is_known same_name ys x ≡ false → AllByRecursion (λ y. same_name y x ≡ false) ys
  all-unknown [] h = tt
  all-unknown (y ∷ ys) h =
      let p = or_parts (same_name y x) (is_known same_name ys x) h in
      (p.0, all-unknown ys p.1)

  none-known : (ys : List (List ℕ)) → AllByRecursion (λ y. same_name y x ≡ false) ys → is_known same_name ys x ≡ false
  none-known [] h = refl
  none-known (y ∷ ys) h = ap (λ b. b || is_known same_name ys x) h.0 ∙ none-known ys h.1

  known-permutation : (ys zs : List (List ℕ)) → IsPermutation ys zs → is_known same_name ys x ≡ true
      → is_known same_name zs x ≡ true
  known-permutation ys zs s h = go (is_known same_name zs x) refl
    where
      P : List ℕ → Type 0
      P y = same_name y x ≡ false

      go : (b : Bool) → is_known same_name zs x ≡ b → b ≡ true
      go true e = refl
      go false e =
          absurd (differ
          (sym h ∙ none-known ys
          (recursion_from_All P ys
          (All-permutation P zs ys (IsPermutation-sym ys zs s) (All-from_recursion P zs (all-unknown zs e))))))

  -- a name that one of two tests finds is known among the names of both
  known-either : (ys zs : List (List ℕ)) (b c : Bool) → (b ≡ true → is_known bytes_eq ys x ≡ true)
      → (c ≡ true → is_known bytes_eq zs x ≡ true) → (b || c) ≡ true → is_known bytes_eq (ys ++ zs) x ≡ true
  known-either ys zs true c f g h = known-append ys zs (f refl)
  known-either ys zs false c f g h = known-behind ys zs (g h)

  -- ---- the names of wildcards

  module _ (some : x ≢ []) where
    known-wild : (name : List ℕ) → bytes_eq x name ≡ true → is_known bytes_eq (named name) x ≡ true
    known-wild [] h = absurd (some ((bytes_eq-Decides x []).0 h))
    known-wild (b ∷ bs) h = ap (λ t. t || false) (bytes_eq_comm (b ∷ bs) x ∙ h)

    known-bound : (vs : List scope.Variable) → is_bound vs x ≡ true → is_known bytes_eq (names_of vs) x ≡ true
    known-bound [] h = cc
    known-bound (v ∷ vs) h = known-either (named v.name) (names_of vs) (bytes_eq x v.name) (is_bound vs x)
        (known-wild v.name) (known-bound vs) h

    -- a variable that a condition may name is one of the pattern in normal form
    pub known-variables : (sig : Sig) (p : Tree) → is_bound (pattern_variables p) x ≡ true
        → is_known same_name (variables (normal_pattern sig (pattern_of sig p))) x ≡ true
    known-variables sig p h =
        let here : is_known same_name (variables (pattern_of sig p)) x ≡ true =
        is_known-alike same_name bytes_eq is_eq-slice_cmp (variables (pattern_of sig p)) x
        ∙ ap (λ l. is_known bytes_eq l x) (variables-pattern_of sig p)
        ∙ known-once [] (names_of (pattern_variables p)) (known-bound (pattern_variables p) h) in
        known-permutation (variables (pattern_of sig p)) (variables (normal_pattern sig (pattern_of sig p)))
        (IsPermutation-variables sig (pattern_of sig p)) here

-- ---- variables that stand for one term

module _ (x : List ℕ) where
  -- the use isn't that of a plus or star wildcard of the name
  abbrev IsNoSequence : Use → Type 0
  IsNoSequence u = (same_name x u.name && is_sequence u.wildcard) ≡ false

  -- no use in the pattern is
  abbrev HasNoSequence : Option ℕ → Pattern → Type 0
  HasNoSequence f p = AllByRecursion IsNoSequence (uses f p)

  no_sequence-under : (f g : Option ℕ) (p : Pattern) → HasNoSequence f p → HasNoSequence g p
  no_sequence-under f g (symbol_pattern n) h = tt
  no_sequence-under f g (app_pattern o ps) h = h
  no_sequence-under f g (wild_pattern w None) h = tt
  no_sequence-under f g (wild_pattern w (Some y)) h = (h.0, tt)

  no_sequence-down : (f : ℕ) (ps : Patterns) → HasNoSequence None (app_pattern f ps)
      → AllByRecursion (HasNoSequence None) (pattern_list ps)
  no_sequence-down f no_patterns h = tt
  no_sequence-down f (more_patterns p ps) h =
      let r = all-split IsNoSequence (uses (Some f) p) (all_uses (Some f) ps) h in
      (no_sequence-under (Some f) None p r.0, no_sequence-down f ps r.1)

  no_sequence-up : (f : ℕ) (ps : Patterns) (qs : List Pattern) → HasNoSequence None (app_pattern f ps)
      → AllByRecursion (HasNoSequence None) qs → HasNoSequence None (app_pattern f (patterns qs))
  no_sequence-up f ps [] h k = tt
  no_sequence-up f ps (q ∷ qs) h k = all-append IsNoSequence (uses (Some f) q) (all_uses (Some f) (patterns qs))
      (no_sequence-under None (Some f) q k.0) (no_sequence-up f ps qs h k.1)

  none-filtered : (us : List Use) → AllByRecursion IsNoSequence us
      → filter (λ u. same_name x u.name && is_sequence u.wildcard) us ≡ []
  none-filtered [] h = refl
  none-filtered (u ∷ us) h = rw h.0 (none-filtered us h.1)

  no_sequence-shape : (f : Option ℕ) (w : Wildcard) (name : List ℕ)
      → (is_many (extent w) ≡ false → is_sequence w ≡ false)
      → (bytes_eq x name && is_many (extent w)) ≡ false → HasNoSequence f (wild_pattern w (variable_of name))
  no_sequence-shape f w [] one h = tt
  no_sequence-shape f w (b ∷ bs) one h = (go (same_name x (b ∷ bs)) (is_many (extent w)) refl same, tt)
    where
      same : (same_name x (b ∷ bs) && is_many (extent w)) ≡ false
      same = ap (λ t. t && is_many (extent w)) (is_eq-slice_cmp x (b ∷ bs)) ∙ h

      go : (s m : Bool) → is_many (extent w) ≡ m → (s && m) ≡ false → (s && is_sequence w) ≡ false
      go true true e k = absurd (differ k)
      go true false e k = one e
      go false m e k = refl

  no_sequence-wild : (sig : Sig) (f : Option ℕ) (kind : List ℕ) (w : Wildcard) (name : List ℕ)
      → (is_many (extent w) ≡ false → is_sequence w ≡ false) → (bytes_eq x name && is_many (extent w)) ≡ false
      → HasNoSequence f (wild_pattern (kind_shape sig kind w) (variable_of name))
  no_sequence-wild sig f [] w name one h = no_sequence-shape f w name one h
  no_sequence-wild sig f (c ∷ cs) w [] one h = tt
  no_sequence-wild sig f (c ∷ cs) w (b ∷ bs) one h = (and-false (same_name x (b ∷ bs)), tt)

  no_sequence-optional : (f : Option ℕ) (t : term.Tree) (name : List ℕ)
      → HasNoSequence f (wild_pattern (optional t) (variable_of name))
  no_sequence-optional f t [] = tt
  no_sequence-optional f t (b ∷ bs) = (and-false (same_name x (b ∷ bs)), tt)

  module _ (sig : Sig) where
    mutual
      no_sequence-pattern_of : (f : Option ℕ) (p : Tree)
          → is_bound_sequence (pattern_variables p) x ≡ false → HasNoSequence f (pattern_of sig p)
      no_sequence-pattern_of f (Symbol w) h = tt
      no_sequence-pattern_of f (Apply g args) h =
          no_sequence-patterns_of (Some (head_number (op_number sig g.text))) args h
      no_sequence-pattern_of f (InfixOf opened sign operands) h =
          no_sequence-patterns_of (Some (head_number (sign_number sig sign.text))) operands h
      no_sequence-pattern_of f (Wild w) h = no_sequence-wild sig f w.kind (marked_shape w.marks) w.name
          (one-marked w.marks) (or_parts (bytes_eq x w.name && is_many (extent (marked_shape w.marks))) false h).0
      no_sequence-pattern_of f (Optional w others default) h =
          no_sequence-optional f (normal sig (term_of sig default)) w.name
      no_sequence-pattern_of f (Counted w count more) h =
          no_sequence-wild sig f w.kind (counted_shape (count_of count) more) w.name
          (one-counted (count_of count) more)
          (or_parts (bytes_eq x w.name && is_many (extent (counted_shape (count_of count) more))) false h).0
      no_sequence-pattern_of f (Variable w) h = tt

      no_sequence-patterns_of : (f : Option ℕ) (ps : Trees)
          → is_bound_sequence (all_pattern_variables ps) x ≡ false
          → AllByRecursion IsNoSequence (all_uses f (patterns_of sig ps))
      no_sequence-patterns_of f no_trees h = tt
      no_sequence-patterns_of f (more_trees p ps) h =
          let test = λ (v : scope.Variable). bytes_eq x v.name && is_many v.extent in
          let front = pattern_variables p in
          let back = all_pattern_variables ps in
          let o = or_parts (list_any test front) (list_any test back) (sym (list_any-append test front back) ∙ h) in
          all-append IsNoSequence (uses f (pattern_of sig p)) (all_uses f (patterns_of sig ps))
          (no_sequence-pattern_of f p o.0) (no_sequence-patterns_of f ps o.1)

    -- a variable of no plus or star wildcard stands for one term in the pattern in normal form
    pub single-variables : (p : Tree) → is_bound_sequence (pattern_variables p) x ≡ false
        → variable_form sig (normal_pattern sig (pattern_of sig p)) x ≡ one_form
    single-variables p h =
        let q = normal_pattern sig (pattern_of sig p) in
        let none = of_normal_pattern sig (HasNoSequence None) no_sequence-down no_sequence-up (pattern_of sig p)
        (no_sequence-pattern_of None p h) in
        ap (λ (mine : List Use). if list_any (λ u. not (comm_above sig u.under)) mine then seq_form else
        (if list_any (λ _. true) mine then bag_form else one_form)) (none-filtered (uses None q) none)
