-- The variables that a condition or a template may name over an expression are those of the pattern that it spells, and
-- stand for as many terms.
use Rattle.std.proofs.Common.{◌≡◌, ◌≢◌, ℕ, Bool, true, false, ◌&&◌, ◌||◌, not, List, [], ◌∷◌, ◌++◌, map}
use Rattle.std.proofs.Common.{Option, Some, None, refl, sym, ap, subst, ◌∙◌, arith}
use Rattle.std.specs.Prelude.{filter, if◌then◌else◌}
use Rattle.std.specs.List.{list_any, AllByRecursion}
use Rattle.std.specs.Str.{bytes_eq}
use Rattle.std.proofs.lemmas.Bool.{false≢true, or_parts}
use Rattle.std.proofs.lemmas.List.{map-append}
use Rattle.std.proofs.lemmas.Map.Text.{is_eq-slice_cmp}
use Rattle.std.proofs.lemmas.Slice.Eq.{bytes_eq-Decides}
use Rattle.mp_term.specs.Names.{is_name}
use Rattle.mp_term.specs.Signature.{Sig}
use Rattle.mp_term.proofs.ListLaws.{all-append}
use Rattle.mp_pattern.specs.Extent.{Extent, extent, extent_among, extent_named}
use Rattle.mp_pattern.specs.PatternTree.{Wildcard, dot, kind, plus, star, optional, counted, is_sequence, Pattern}
use Rattle.mp_pattern.specs.PatternTree.{symbol_pattern, app_pattern, wild_pattern, Patterns, no_patterns}
use Rattle.mp_pattern.specs.PatternTree.{more_patterns}
use Rattle.mp_pattern.specs.Firsts.{is_known, add_new, firsts_after}
use Rattle.mp_pattern.specs.Value.{one_form, seq_form, bag_form, same_name}
use Rattle.mp_pattern.specs.Variables.{Use, uses, all_uses, variables, comm_above, variable_form}
use Rattle.mp_pattern.specs.SoundRule.{IsSoundWildcard, IsFormed, AreFormed}
use Rattle.mp_parser.specs.Syntax as syntax
use Rattle.mp_parser.specs.Syntax.{Tree, Symbol, Apply, InfixOf, Wild, Counted, Optional, Trees, no_trees, more_trees}
use Rattle.mp_build.specs.Build.{marked_shape, variable_of}
use Rattle.mp_build.specs.Scope.{Variable, is_many, pattern_variables, all_pattern_variables, is_bound}
use Rattle.mp_build.specs.Scope.{is_bound_sequence, extent_in}
use Rattle.mp_build.proofs.BoundNames.{known-once}
use Rattle.mp_build.proofs.Declared.{bytes_eq_comm}
use Rattle.mp_build.proofs.SoundLaws.{is_known-alike, firsts_after-alike}
use Rattle.mp_build.proofs.Words.{IsName-is_name}
use Rattle.mp_round_trip.specs.AloneTemplate.{use_variable, use_variables}
use Rattle.mp_round_trip.proofs.Spells.{SpellsPattern, SpellPatterns}
use Rattle.mp_round_trip.proofs.CountAgain.{not-equal, counted-again}

-- ---- names that aren't known

-- an item that a test leaves out, and no other passes
none-first : {X : Type 0} (b c : Bool) (x : X) (rest : List X) (others : Bool) → b ≡ c
    → (if b then x ∷ rest else rest) ≡ [] → (rest ≡ [] → others ≡ false) → (c || others) ≡ false
none-first true c x rest others e k ih = cc
none-first false c x rest others e k ih = λ i. sym e i || ih k i

module _ (x : List ℕ) where
  unknown-push : (ys : List (List ℕ)) (z : List ℕ) → is_known same_name ys x ≡ false → same_name z x ≡ false
      → is_known same_name (ys ++ z ∷ []) x ≡ false
  unknown-push [] z h k = ap (λ b. b || false) k
  unknown-push (y ∷ ys) z h k = let o = or_parts (same_name y x) (is_known same_name ys x) h in
      rw o.0 (unknown-push ys z o.1 k)

  -- a name that is known neither before nor in a list isn't known among the items of both
  unknown-firsts : (ys zs : List (List ℕ)) → is_known same_name ys x ≡ false → is_known same_name zs x ≡ false
      → is_known same_name (firsts_after same_name ys zs) x ≡ false
  unknown-firsts ys [] h k = h
  unknown-firsts ys (z ∷ zs) h k =
      let o = or_parts (same_name z x) (is_known same_name zs x) k in
      unknown-firsts (add_new same_name ys z) zs
      (elim (is_known same_name ys z) as (λ b. is_known same_name (if b then ys else ys ++ z ∷ []) x ≡ false)
      [ true ↦ h | false ↦ unknown-push ys z h o.0 ]) o.1

  known-uses : (us : List Use) → is_known same_name (map (λ u. u.name) us) x ≡ list_any (λ u. bytes_eq x u.name) us
  known-uses [] = refl
  known-uses (u ∷ us) = λ i. (is_eq-slice_cmp u.name x ∙ bytes_eq_comm u.name x) i || known-uses us i

  -- a variable of a pattern is used
  used-variable : (p : Pattern) → is_known same_name (variables p) x ≡ true
      → list_any (λ u. bytes_eq x u.name) (uses None p) ≡ true
  used-variable p h = go (is_known same_name (map (λ u. u.name) (uses None p)) x) refl
    where
      go : (b : Bool) → is_known same_name (map (λ u. u.name) (uses None p)) x ≡ b
          → list_any (λ u. bytes_eq x u.name) (uses None p) ≡ true
      go true e = sym (known-uses (uses None p)) ∙ e
      go false e = absurd (false≢true (sym (unknown-firsts [] (map (λ u. u.name) (uses None p)) refl e) ∙ h))

  -- no use passes a test that none is filtered by
  none-filtered : (us : List Use) → filter (λ u. same_name x u.name && is_sequence u.wildcard) us ≡ []
      → list_any (λ u. bytes_eq x u.name && is_sequence u.wildcard) us ≡ false
  none-filtered [] h = refl
  none-filtered (u ∷ us) h =
      none-first (same_name x u.name && is_sequence u.wildcard) (bytes_eq x u.name && is_sequence u.wildcard) u
      (filter (λ u. same_name x u.name && is_sequence u.wildcard) us)
      (list_any (λ u. bytes_eq x u.name && is_sequence u.wildcard) us)
      (ap (λ t. t && is_sequence u.wildcard) (is_eq-slice_cmp x u.name)) h (none-filtered us)

  none-one : (sig : Sig) (us : List Use)
      → (if list_any (λ u. not (comm_above sig u.under)) us then seq_form else
      (if list_any (λ _. true) us then bag_form else one_form)) ≡ one_form → us ≡ []
  none-one sig [] h = refl
  none-one sig (u ∷ us) h = go (list_any (λ u. not (comm_above sig u.under)) (u ∷ us)) h
    where
      go : (b : Bool) → (if b then seq_form else bag_form) ≡ one_form → u ∷ us ≡ []
      go true k = cc
      go false k = cc

-- ---- variables with a name

-- a variable in front of others, where it has a name
abbrev in_front : List ℕ → Variable → List Variable → List Variable
in_front [] v vs = vs
in_front (b ∷ bs) v vs = v ∷ vs

-- those that have a name
abbrev with_names : List Variable → List Variable
with_names [] = []
with_names (v ∷ vs) = in_front v.name v (with_names vs)

in_front-append : (name : List ℕ) (v : Variable) (vs ws : List Variable)
    → in_front name v (vs ++ ws) ≡ in_front name v vs ++ ws
in_front-append [] v vs ws = refl
in_front-append (b ∷ bs) v vs ws = refl

with_names-append : (vs ws : List Variable) → with_names (vs ++ ws) ≡ with_names vs ++ with_names ws
with_names-append [] ws = refl
with_names-append (v ∷ vs) ws = ap (in_front v.name v) (with_names-append vs ws)
    ∙ in_front-append v.name v (with_names vs) (with_names ws)

-- a test that no variable without a name passes
module _ (test : Variable → Bool) (unnamed : (v : Variable) → v.name ≡ [] → test v ≡ false) where
  any-in_front : (name : List ℕ) (v : Variable) (vs ws : List Variable) → v.name ≡ name
      → list_any test vs ≡ list_any test ws → (test v || list_any test vs) ≡ list_any test (in_front name v ws)
  any-in_front [] v vs ws e ih = (λ i. unnamed v e i || list_any test vs) ∙ ih
  any-in_front (b ∷ bs) v vs ws e ih = ap (λ t. test v || t) ih

  any-with_names : (vs : List Variable) → list_any test vs ≡ list_any test (with_names vs)
  any-with_names [] = refl
  any-with_names (v ∷ vs) = any-in_front v.name v vs (with_names vs) refl (any-with_names vs)

module _ (x : List ℕ) (some : x ≢ []) where
  no-name : (name : List ℕ) → name ≡ [] → bytes_eq x name ≡ false
  no-name name e = go (bytes_eq x name) refl
    where
      go : (b : Bool) → bytes_eq x name ≡ b → b ≡ false
      go true k = absurd (some ((bytes_eq-Decides x name).0 k ∙ e))
      go false k = refl

  bound-with_names : (vs : List Variable) → is_bound vs x ≡ is_bound (with_names vs) x
  bound-with_names = any-with_names (λ v. bytes_eq x v.name) (λ v e. no-name v.name e)

  sequence-with_names : (vs : List Variable) → is_bound_sequence vs x ≡ is_bound_sequence (with_names vs) x
  sequence-with_names = any-with_names (λ v. bytes_eq x v.name && is_many v.extent)
      (λ v e. ap (λ b. b && is_many v.extent) (no-name v.name e))

  extent-in_front : (name : List ℕ) (v : Variable) (vs ws : List Variable) → v.name ≡ name
      → extent_in vs x ≡ extent_in ws x → extent_in (v ∷ vs) x ≡ extent_in (in_front name v ws) x
  extent-in_front [] v vs ws e ih = (λ i. if no-name v.name e i then Some v.extent else extent_in vs x) ∙ ih
  extent-in_front (b ∷ bs) v vs ws e ih = ap (λ o. if bytes_eq x v.name then Some v.extent else o) ih

  extent-with_names : (vs : List Variable) → extent_in vs x ≡ extent_in (with_names vs) x
  extent-with_names [] = refl
  extent-with_names (v ∷ vs) = extent-in_front v.name v vs (with_names vs) refl (extent-with_names vs)

-- ---- the variables that a pattern uses

module _ (sig : Sig) where
  -- its name is one, and its wildcard is sound
  record IsFormedUse (u : Use) : Type 0 where
    pub name : is_name u.name ≡ true
    pub wildcard : IsSoundWildcard sig u.wildcard

  mutual
    formed-uses : (f : Option ℕ) (p : Pattern) → IsFormed sig p → AllByRecursion IsFormedUse (uses f p)
    formed-uses f (symbol_pattern n) h = tt
    formed-uses f (app_pattern g ps) h = formed-all_uses (Some g) ps h.1
    formed-uses f (wild_pattern v None) h = tt
    formed-uses f (wild_pattern v (Some x)) h = (record { name = h.1; wildcard = h.0 }, tt)

    formed-all_uses : (f : Option ℕ) (ps : Patterns) → AreFormed sig ps → AllByRecursion IsFormedUse (all_uses f ps)
    formed-all_uses f no_patterns h = tt
    formed-all_uses f (more_patterns p ps) h =
        all-append IsFormedUse (uses f p) (all_uses f ps) (formed-uses f p h.0) (formed-all_uses f ps h.1)

  -- a variable of a formed pattern has a name
  pub name-variables : (p : Pattern) → IsFormed sig p → (x : List ℕ) → is_known same_name (variables p) x ≡ true
      → is_name x ≡ true
  name-variables p h x known = go (uses None p) (formed-uses None p h) (used-variable x p known)
    where
      go : (us : List Use) → AllByRecursion IsFormedUse us → list_any (λ u. bytes_eq x u.name) us ≡ true
          → is_name x ≡ true
      go [] all k = cc
      go (u ∷ us) all k = elim (bytes_eq x u.name) as
          (λ b. bytes_eq x u.name ≡ b → (b || list_any (λ u. bytes_eq x u.name) us) ≡ true → is_name x ≡ true) [
            | true ↦ λ e k. ap is_name ((bytes_eq-Decides x u.name).0 e) ∙ all.0.name
            | false ↦ λ e k. go us all.1 k
          ] refl k

  -- a variable stands for another number of terms than one where its wildcard is a sequence
  many-sound : (v : Wildcard) → IsSoundWildcard sig v → is_many (extent v) ≡ is_sequence v
  many-sound dot h = refl
  many-sound (kind k) h = refl
  many-sound plus h = refl
  many-sound star h = refl
  many-sound (optional t) h = refl
  many-sound (counted n true) h = ap not (not-equal n 1 (omega (arith, h.0)))
  many-sound (counted n false) h = refl

  module _ (x : List ℕ) where
    bound-uses : (us : List Use) → is_bound (map use_variable us) x ≡ list_any (λ u. bytes_eq x u.name) us
    bound-uses [] = refl
    bound-uses (u ∷ us) = ap (λ b. bytes_eq x u.name || b) (bound-uses us)

    sequence-uses : (us : List Use) → AllByRecursion IsFormedUse us → is_bound_sequence (map use_variable us) x
        ≡ list_any (λ u. bytes_eq x u.name && is_sequence u.wildcard) us
    sequence-uses [] h = refl
    sequence-uses (u ∷ us) h =
        λ i. (bytes_eq x u.name && many-sound u.wildcard h.0.wildcard i) || sequence-uses us h.1 i

    extent-uses : (us : List Use) → extent_in (map use_variable us) x ≡ extent_among us x
    extent-uses [] = refl
    extent-uses (u ∷ us) = λ i. if (bytes_eq_comm x u.name ∙ sym (is_eq-slice_cmp u.name x)) i
        then Some (extent u.wildcard) else extent-uses us i

    filtered-none : (us : List Use) → list_any (λ u. bytes_eq x u.name && is_sequence u.wildcard) us ≡ false
        → filter (λ u. same_name x u.name && is_sequence u.wildcard) us ≡ []
    filtered-none [] h = refl
    filtered-none (u ∷ us) h =
        let o = or_parts (bytes_eq x u.name && is_sequence u.wildcard)
        (list_any (λ u. bytes_eq x u.name && is_sequence u.wildcard) us) h in
        let same : (same_name x u.name && is_sequence u.wildcard) ≡ false =
        ap (λ t. t && is_sequence u.wildcard) (is_eq-slice_cmp x u.name) ∙ o.0 in
        (λ i. if same i then u ∷ filter (λ u. same_name x u.name && is_sequence u.wildcard) us else
        filter (λ u. same_name x u.name && is_sequence u.wildcard) us) ∙ filtered-none us o.1

  module _ (p : Pattern) (h : IsFormed sig p) (x : List ℕ) where
    -- a variable of the pattern is bound
    pub bound-variable : is_known same_name (variables p) x ≡ true → is_bound (use_variables p) x ≡ true
    bound-variable known = bound-uses x (uses None p) ∙ used-variable x p known

    -- one that stands for one term stands for no several
    pub single-variable : variable_form sig p x ≡ one_form → is_bound_sequence (use_variables p) x ≡ false
    single-variable one = sequence-uses x (uses None p) (formed-uses None p h)
        ∙ none-filtered x (uses None p) (none-one x sig _ one)

    -- it stands for as many terms
    pub extent-variable : extent_in (use_variables p) x ≡ extent_named p x
    extent-variable = extent-uses x (uses None p)

    -- a variable that is bound is one of the pattern
    pub variable-bound : is_bound (use_variables p) x ≡ true → is_known same_name (variables p) x ≡ true
    variable-bound bound =
        let names = map (λ (u : Use). u.name) (uses None p) in
        let known : is_known bytes_eq names x ≡ true =
        sym (is_known-alike same_name bytes_eq is_eq-slice_cmp names x) ∙ known-uses x (uses None p)
        ∙ sym (bound-uses x (uses None p)) ∙ bound in
        is_known-alike same_name bytes_eq is_eq-slice_cmp (variables p) x
        ∙ ap (λ l. is_known bytes_eq l x) (firsts_after-alike same_name bytes_eq is_eq-slice_cmp [] names)
        ∙ known-once x [] names known

    -- and one that stands for no several stands for one term
    pub variable-single : is_bound_sequence (use_variables p) x ≡ false → variable_form sig p x ≡ one_form
    variable-single one =
        ap (λ (mine : List Use). if list_any (λ u. not (comm_above sig u.under)) mine then seq_form else
        (if list_any (λ _. true) mine then bag_form else one_form))
        (filtered-none x (uses None p) (sym (sequence-uses x (uses None p) (formed-uses None p h)) ∙ one))

  -- ---- the variables of an expression

  used-named : (f : Option ℕ) (name : List ℕ) (v : Wildcard) (e : Extent) → e ≡ extent v
      → in_front name (record { name = name; extent = e }) []
      ≡ map use_variable (uses f (wild_pattern v (variable_of name)))
  used-named f [] v e h = refl
  used-named f (b ∷ bs) v e h = λ i. record { name = b ∷ bs; extent = h i } ∷ []

  used-wild : (f : Option ℕ) (name : List ℕ) (v : Wildcard) (x : Option (List ℕ)) (e : Extent) → variable_of name ≡ x
      → e ≡ extent v → in_front name (record { name = name; extent = e }) []
      ≡ map use_variable (uses f (wild_pattern v x))
  used-wild f name v x e h k =
      subst (λ y. in_front name (record { name = name; extent = e }) [] ≡ map use_variable (uses f (wild_pattern v y)))
      h
      (used-named f name v e k)

  extent-wild : (w : syntax.Wildcard) (v : Wildcard) (x : Option (List ℕ))
      → SpellsPattern sig (Wild w) (wild_pattern v x)
      → (variable_of w.name ≡ x) × (extent (marked_shape w.marks) ≡ extent v)
  extent-wild w dot x s = (s.0, ap (λ n. extent (marked_shape n)) s.1)
  extent-wild w (kind k) x s = (s.0, ap (λ n. extent (marked_shape n)) s.1)
  extent-wild w plus x s = (s.0, ap (λ n. extent (marked_shape n)) s.1)
  extent-wild w star x s = (s.0, ap (λ n. extent (marked_shape n)) s.1)
  extent-wild w (optional t) x s = absurd s
  extent-wild w (counted n fixed) x s = absurd s

  mutual
    -- the variables with a name are those that the pattern uses
    used-spells : (f : Option ℕ) (e : Tree) (p : Pattern) → SpellsPattern sig e p → IsFormed sig p
        → with_names (pattern_variables e) ≡ map use_variable (uses f p)
    used-spells f (Symbol w) (symbol_pattern n) s h = refl
    used-spells f (Apply g args) (app_pattern o ps) s h = used-spell (Some o) args ps s.1 h.1
    used-spells f (InfixOf opened sign operands) (app_pattern o ps) s h = used-spell (Some o) operands ps s.1 h.1
    used-spells f (Wild w) (wild_pattern v x) s h = let own = extent-wild w v x s in
        used-wild f w.name v x _ own.0 own.1
    used-spells f (Counted w count more) (wild_pattern (counted n fixed) x) s h =
        used-wild f w.name (counted n fixed) x _ s.0.0
        (ap extent (counted-again count more n fixed s.1 s.2 h.0.0 h.0.1))
    used-spells f (Optional w [] e) (wild_pattern (optional t) x) s h = used-wild f w.name (optional t) x _ s.0.0 refl
    used-spells f _ _ s h = absurd s

    used-spell : (f : Option ℕ) (es : Trees) (ps : Patterns) → SpellPatterns sig es ps → AreFormed sig ps
        → with_names (all_pattern_variables es) ≡ map use_variable (all_uses f ps)
    used-spell f no_trees no_patterns s h = refl
    used-spell f (more_trees e es) (more_patterns p ps) s h =
        with_names-append (pattern_variables e) (all_pattern_variables es)
        ∙ (λ i. used-spells f e p s.0 h.0 i ++ used-spell f es ps s.1 h.1 i)
        ∙ sym (map-append use_variable (uses f p) (all_uses f ps))
    used-spell f _ _ s h = absurd s

  module _ (e : Tree) (p : Pattern) (s : SpellsPattern sig e p) (h : IsFormed sig p) (x : List ℕ)
      (known : is_known same_name (variables p) x ≡ true) where
    some : x ≢ []
    some = (IsName-is_name x (name-variables p h x known)).is_word.some

    used : with_names (pattern_variables e) ≡ use_variables p
    used = used-spells None e p s h

    -- a variable of the pattern is bound
    pub bound-spells : is_bound (pattern_variables e) x ≡ true
    bound-spells = bound-with_names x some (pattern_variables e) ∙ ap (λ vs. is_bound vs x) used
        ∙ bound-variable p h x known

    -- one that stands for one term stands for no several
    pub single-spells : variable_form sig p x ≡ one_form → is_bound_sequence (pattern_variables e) x ≡ false
    single-spells one = sequence-with_names x some (pattern_variables e) ∙ ap (λ vs. is_bound_sequence vs x) used
        ∙ single-variable p h x one

    -- it stands for as many terms
    pub extent-spells : extent_in (pattern_variables e) x ≡ extent_named p x
    extent-spells = extent-with_names x some (pattern_variables e) ∙ ap (λ vs. extent_in vs x) used
        ∙ extent-variable p h x
