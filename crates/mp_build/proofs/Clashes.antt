-- Wildcards of a pattern of which none differs from an earlier one of its name, in syntax trees and in patterns.
use Rattle.std.proofs.Common.{◌≡◌, ℕ, Bool, true, false, ◌&&◌, ◌||◌, not, eqb, List, [], ◌∷◌, ◌++◌, map, Some, None}
use Rattle.std.proofs.Common.{refl, sym, ap, subst, ◌∙◌, eqb-true, append_assoc, append-nil}
use Rattle.std.specs.List.{list_any}
use Rattle.std.specs.Str.{bytes_eq}
use Rattle.std.proofs.lemmas.List.{map-append}
use Rattle.std.proofs.lemmas.Slice.Eq.{bytes_eq-Decides}
use Rattle.std.proofs.lemmas.Bool.{not-false}
use Rattle.mp_term.specs.Signature.{Sig}
use Rattle.mp_term.proofs.ListLaws.{both-empty}
use Rattle.std.specs.Bool.{beq}
use Rattle.std.specs.Cmp.{booleans_Decides}
use Rattle.mp_pattern.specs.Extent.{Extent, single, extent}
use Rattle.mp_pattern.specs.PatternTree as pattern
use Rattle.mp_pattern.specs.PatternTree.{Pattern, symbol_pattern, app_pattern, wild_pattern}
use Rattle.mp_pattern.specs.Subpatterns.{subpatterns, all_subpatterns}
use Rattle.mp_pattern.specs.Clash.{first_clash}
use Rattle.mp_pattern.proofs.ClashLaws.{Agree, agree-app, AgreesWith, InOrder, first_clash_after-InOrder}
use Rattle.mp_pattern.proofs.ClashLaws.{same_shape-same}
use Rattle.mp_parser.specs.Syntax.{Tree, Symbol, Apply, InfixOf, Wild, Optional, Counted, Variable, Trees}
use Rattle.mp_parser.specs.Syntax.{no_trees, more_trees}
use Rattle.mp_build.specs.declared.fault.TextFault.{TextFault}
use Rattle.std.specs.Prelude.{if◌then◌else◌}
use Rattle.std.proofs.Math.Bool.{not-not}
use Rattle.mp_build.specs.Names.{is_same_variable}
use Rattle.mp_build.specs.Wildcards.{DefaultForm, absent, normal_form, unknown, PatternWildcard, without_default}
use Rattle.mp_build.specs.Wildcards.{with_count, with_default_form, pattern_wildcards, all_pattern_wildcards}
use Rattle.mp_build.specs.Wildcards.{same_extent, same_default, same_class, differs}
use Rattle.mp_build.specs.Build.{marked_shape, counted_shape, count_of, kind_shape, variable_of, pattern_of}
use Rattle.mp_build.specs.Build.{patterns_of}
use Rattle.mp_build.specs.Checks.{fault_if, head_faults, arity_faults, sign_faults, allows_args, op_named, op_signed}
use Rattle.mp_build.specs.Checks.{kind_unknown, default_faults, wildcard_faults, count_faults, pattern_faults}
use Rattle.mp_build.specs.Checks.{pattern_operand_faults, all_pattern_faults}
use Rattle.mp_build.proofs.Words.{first-of, second-of}
use Rattle.mp_build.proofs.Faultless.{nil-fault_if}
use Rattle.mp_build.proofs.Defaults.{default_form-default_faults}

-- ---- how many terms wildcards stand for

-- those that are as many are one
pub same_extent-same : (d e : Extent) → same_extent d e ≡ true → d ≡ e
same_extent-same d e h =
    let least = eqb-true d.least e.least (first-of (eqb d.least e.least) (beq d.fixed e.fixed) h) in
    let fixed = (booleans_Decides d.fixed e.fixed).0 (second-of (eqb d.least e.least) (beq d.fixed e.fixed) h) in
    λ i. record { least = least i; fixed = fixed i }

-- a wildcard with a count stands for so many
pub extent-counted_shape : (n : ℕ) (more : Bool)
    → extent (counted_shape n more) ≡ record { least = n; fixed = not more }
extent-counted_shape n more = go (eqb n 1) (eqb n 0) refl refl more
  where
    go : (one none : Bool) → eqb n 1 ≡ one → eqb n 0 ≡ none → (more : Bool)
        → extent (if one then (if more then pattern.plus else pattern.dot) else (if none && more then pattern.star else
        pattern.counted n (not more))) ≡ record { least = n; fixed = not more }
    go true none e f true = ap (λ k. record { least = k; fixed = false }) (sym (eqb-true n 1 e))
    go true none e f false = ap (λ k. record { least = k; fixed = true }) (sym (eqb-true n 1 e))
    go false true e f true = ap (λ k. record { least = k; fixed = false }) (sym (eqb-true n 0 f))
    go false true e f false = refl
    go false false e f more = refl

-- ---- wildcards of syntax trees

-- no wildcard differs from an earlier one of its name, where `before` stand in front of all
abbrev pub Apart : List PatternWildcard → List PatternWildcard → Type 0
Apart before [] = Unit {0}
Apart before (w ∷ ws) = (list_any (differs w) before ≡ false) × Apart (before ++ w ∷ []) ws

pub Apart-append : (before a b : List PatternWildcard) → Apart before a → Apart (before ++ a) b → Apart before (a ++ b)
Apart-append before [] b h k = subst (λ l. Apart l b) (append-nil before) k
Apart-append before (w ∷ a) b h k =
    (h.0, Apart-append (before ++ w ∷ []) a b h.1 (subst (λ l. Apart l b) (sym (append_assoc before (w ∷ []) a)) k))

pub Apart-split : (before a b : List PatternWildcard) → Apart before (a ++ b) → Apart before a × Apart (before ++ a) b
Apart-split before [] b h = (tt, subst (λ l. Apart l b) (sym (append-nil before)) h)
Apart-split before (w ∷ a) b h =
    let r = Apart-split (before ++ w ∷ []) a b h.1 in
    ((h.0, r.0), subst (λ l. Apart l b) (append_assoc before (w ∷ []) a) r.1)

-- operands without faults, and a sign without faults, in a pattern
pub nil-pattern_operands : (sig : Sig) (before : List PatternWildcard) (at_sign : List TextFault) (ps : Trees)
    → pattern_operand_faults sig before at_sign ps ≡ [] → (at_sign ≡ []) × (all_pattern_faults sig before ps ≡ [])
nil-pattern_operands sig before at_sign no_trees h = (h, refl)
nil-pattern_operands sig before at_sign (more_trees p ps) h =
    let q = both-empty (pattern_faults sig before p)
    (at_sign ++ all_pattern_faults sig (before ++ pattern_wildcards sig p) ps) h in
    let r = both-empty at_sign (all_pattern_faults sig (before ++ pattern_wildcards sig p) ps) q.1 in
    (r.0, ap (λ l. l ++ all_pattern_faults sig (before ++ pattern_wildcards sig p) ps) q.0 ∙ r.1)

module _ (sig : Sig) where
  -- a wildcard without faults
  Apart-wildcard_faults : (before : List PatternWildcard) (w : PatternWildcard) → wildcard_faults sig before w ≡ []
      → list_any (differs w) before ≡ false
  Apart-wildcard_faults before w h =
      nil-fault_if (list_any (differs w) before) _ w.wildcard.place
      (both-empty (fault_if (kind_unknown sig w.wildcard.kind) _ w.wildcard.place)
      (fault_if (list_any (differs w) before) _ w.wildcard.place) h).1

  mutual
    -- the wildcards of a pattern without faults
    pub Apart-pattern_faults : (before : List PatternWildcard) (p : Tree) → pattern_faults sig before p ≡ []
        → Apart before (pattern_wildcards sig p)
    Apart-pattern_faults before (Symbol w) h = tt
    Apart-pattern_faults before (Apply f args) h =
        Apart-all_pattern_faults before args
        (both-empty (head_faults (allows_args sig args) f (op_named sig f.text))
        (all_pattern_faults sig before args) h).1
    Apart-pattern_faults before (InfixOf opened sign operands) h =
        let at_sign = sign_faults sign (op_signed sig sign.text) in
        let p = both-empty (arity_faults (allows_args sig operands) opened (op_signed sig sign.text))
        (pattern_operand_faults sig before at_sign operands) h in
        Apart-all_pattern_faults before operands (nil-pattern_operands sig before at_sign operands p.1).1
    Apart-pattern_faults before (Wild w) h = (Apart-wildcard_faults before (without_default w) h, tt)
    Apart-pattern_faults before (Optional w others default) h =
        let v = with_default_form sig w others default in (
          Apart-wildcard_faults before v
              (both-empty (wildcard_faults sig before v) (default_faults sig others default) h).0,
          tt,
        )
    Apart-pattern_faults before (Counted w count more) h =
        let v = with_count w count more in
        (Apart-wildcard_faults before v (both-empty (wildcard_faults sig before v) (count_faults count more) h).0, tt)
    Apart-pattern_faults before (Variable x) h = tt

    Apart-all_pattern_faults : (before : List PatternWildcard) (ps : Trees) → all_pattern_faults sig before ps ≡ []
        → Apart before (all_pattern_wildcards sig ps)
    Apart-all_pattern_faults before no_trees h = tt
    Apart-all_pattern_faults before (more_trees p ps) h =
        let q = both-empty (pattern_faults sig before p)
        (all_pattern_faults sig (before ++ pattern_wildcards sig p) ps) h in
        Apart-append before (pattern_wildcards sig p) (all_pattern_wildcards sig ps) (Apart-pattern_faults before p q.0)
        (Apart-all_pattern_faults (before ++ pattern_wildcards sig p) ps q.1)

-- ---- the wildcards among patterns

-- the wildcards of a list
abbrev pub wilds : List Pattern → List Pattern
wilds [] = []
wilds (symbol_pattern n ∷ ps) = wilds ps
wilds (app_pattern f qs ∷ ps) = wilds ps
wilds (wild_pattern w x ∷ ps) = wild_pattern w x ∷ wilds ps

pub wilds-append : (ps qs : List Pattern) → wilds (ps ++ qs) ≡ wilds ps ++ wilds qs
wilds-append [] qs = refl
wilds-append (symbol_pattern n ∷ ps) qs = wilds-append ps qs
wilds-append (app_pattern f rs ∷ ps) qs = wilds-append ps qs
wilds-append (wild_pattern w x ∷ ps) qs = ap (λ l. wild_pattern w x ∷ l) (wilds-append ps qs)

-- a pattern agrees with those of a list where it does with the wildcards
agrees-wilds : (p : Pattern) (qs : List Pattern) → AgreesWith p (wilds qs) → AgreesWith p qs
agrees-wilds p [] h = tt
agrees-wilds p (symbol_pattern n ∷ qs) h = (tt, agrees-wilds p qs h)
agrees-wilds p (app_pattern f rs ∷ qs) h = (tt, agrees-wilds p qs h)
agrees-wilds p (wild_pattern w x ∷ qs) h = (h.0, agrees-wilds p qs h.1)

wilds-agree : (p : Pattern) (qs : List Pattern) → AgreesWith p qs → AgreesWith p (wilds qs)
wilds-agree p [] h = tt
wilds-agree p (symbol_pattern n ∷ qs) h = wilds-agree p qs h.1
wilds-agree p (app_pattern f rs ∷ qs) h = wilds-agree p qs h.1
wilds-agree p (wild_pattern w x ∷ qs) h = (h.0, wilds-agree p qs h.1)

-- a symbol agrees with every pattern
agree-symbol : (p : Pattern) (n : List ℕ) → Agree p (symbol_pattern n)
agree-symbol (symbol_pattern m) n = tt
agree-symbol (app_pattern f ps) n = tt
agree-symbol (wild_pattern w None) n = tt
agree-symbol (wild_pattern w (Some x)) n = tt

each-agrees : (p : Pattern) → ((q : Pattern) → Agree q p) → (qs : List Pattern) → AgreesWith p qs
each-agrees p each [] = tt
each-agrees p each (q ∷ qs) = (each q, each-agrees p each qs)

wilds-push : (before : List Pattern) (p : Pattern) → wilds (p ∷ []) ≡ [] → wilds (before ++ p ∷ []) ≡ wilds before
wilds-push before p e = wilds-append before (p ∷ []) ∙ ap (λ l. wilds before ++ l) e ∙ append-nil (wilds before)

-- patterns are in order where their wildcards are
InOrder-wilds : (before ps : List Pattern) → InOrder (wilds before) (wilds ps) → InOrder before ps
InOrder-wilds before [] h = tt
InOrder-wilds before (symbol_pattern n ∷ ps) h = (
  each-agrees (symbol_pattern n) (λ q. agree-symbol q n) before,
  InOrder-wilds (before ++ symbol_pattern n ∷ []) ps
      (subst (λ l. InOrder l (wilds ps)) (sym (wilds-push before (symbol_pattern n) refl)) h),
)
InOrder-wilds before (app_pattern f qs ∷ ps) h = (
  each-agrees (app_pattern f qs) (λ q. agree-app q f qs) before,
  InOrder-wilds (before ++ app_pattern f qs ∷ []) ps
      (subst (λ l. InOrder l (wilds ps)) (sym (wilds-push before (app_pattern f qs) refl)) h),
)
InOrder-wilds before (wild_pattern w x ∷ ps) h = (
  agrees-wilds (wild_pattern w x) before h.0,
  InOrder-wilds (before ++ wild_pattern w x ∷ []) ps
      (subst (λ l. InOrder l (wilds ps)) (sym (wilds-append before (wild_pattern w x ∷ []))) h.1),
)

pub wilds-InOrder : (before ps : List Pattern) → InOrder before ps → InOrder (wilds before) (wilds ps)
wilds-InOrder before [] h = tt
wilds-InOrder before (symbol_pattern n ∷ ps) h =
    subst (λ l. InOrder l (wilds ps)) (wilds-push before (symbol_pattern n) refl)
    (wilds-InOrder (before ++ symbol_pattern n ∷ []) ps h.1)
wilds-InOrder before (app_pattern f qs ∷ ps) h =
    subst (λ l. InOrder l (wilds ps)) (wilds-push before (app_pattern f qs) refl)
    (wilds-InOrder (before ++ app_pattern f qs ∷ []) ps h.1)
wilds-InOrder before (wild_pattern w x ∷ ps) h = (
  wilds-agree (wild_pattern w x) before h.0,
  subst (λ l. InOrder l (wilds ps))
      (wilds-append before (wild_pattern w x ∷ [])) (wilds-InOrder (before ++ wild_pattern w x ∷ []) ps h.1),
)

-- ---- a pattern that is read

-- what a wildcard without a kind and a default takes, by how many terms it stands for
abbrev pub extent_shape : Extent → pattern.Wildcard
extent_shape e = counted_shape e.least (not e.fixed)

-- that of a number of underscores
extent_shape-marked : (marks : ℕ) → extent_shape (extent (marked_shape marks)) ≡ marked_shape marks
extent_shape-marked marks = go (eqb marks 3) (eqb marks 2)
  where
    go : (three two : Bool)
        → (let shape = if three then pattern.star else (if two then pattern.plus else pattern.dot) in
        extent_shape (extent shape) ≡ shape)
    go true two = refl
    go false true = refl
    go false false = refl

-- that of a count
extent_shape-counted : (n : ℕ) (more : Bool) → extent_shape (extent (counted_shape n more)) ≡ counted_shape n more
extent_shape-counted n more = ap (λ e. counted_shape e.least (not e.fixed)) (extent-counted_shape n more)
    ∙ ap (counted_shape n) (not-not more)

module _ (sig : Sig) where
  -- what a wildcard takes, by its default, its kind and how many terms it stands for
  abbrev pub form_shape : DefaultForm → List ℕ → Extent → pattern.Wildcard
  form_shape absent kind e = kind_shape sig kind (extent_shape e)
  form_shape (normal_form t) kind e = pattern.optional t
  form_shape unknown kind e = kind_shape sig kind (extent_shape e)

  -- the pattern of a wildcard
  abbrev pub wild_of : PatternWildcard → Pattern
  wild_of w = wild_pattern (form_shape w.default w.wildcard.kind w.extent) (variable_of w.wildcard.name)

  mutual
    -- its wildcards are those of its syntax tree
    pub wilds-pattern_of : (before : List PatternWildcard) (t : Tree) → pattern_faults sig before t ≡ []
        → wilds (subpatterns (pattern_of sig t)) ≡ map wild_of (pattern_wildcards sig t)
    wilds-pattern_of before (Symbol w) h = refl
    wilds-pattern_of before (Apply f args) h =
        wilds-patterns_of before args
        (both-empty (head_faults (allows_args sig args) f (op_named sig f.text))
        (all_pattern_faults sig before args) h).1
    wilds-pattern_of before (InfixOf opened sign operands) h =
        let at_sign = sign_faults sign (op_signed sig sign.text) in
        let p = both-empty (arity_faults (allows_args sig operands) opened (op_signed sig sign.text))
        (pattern_operand_faults sig before at_sign operands) h in
        wilds-patterns_of before operands (nil-pattern_operands sig before at_sign operands p.1).1
    wilds-pattern_of before (Wild w) h = ap (λ s. wild_pattern (kind_shape sig w.kind s) (variable_of w.name) ∷ [])
        (sym (extent_shape-marked w.marks))
    wilds-pattern_of before (Optional w others default) h =
        let p = both-empty (wildcard_faults sig before (with_default_form sig w others default))
        (default_faults sig others default) h in
        ap (λ f. wild_pattern (form_shape f w.kind single) (variable_of w.name) ∷ [])
        (sym (default_form-default_faults sig others default p.1))
    wilds-pattern_of before (Counted w count more) h =
        ap (λ s. wild_pattern (kind_shape sig w.kind s) (variable_of w.name) ∷ [])
        (sym (extent_shape-counted (count_of count) more))
    wilds-pattern_of before (Variable x) h = refl

    wilds-patterns_of : (before : List PatternWildcard) (ts : Trees) → all_pattern_faults sig before ts ≡ []
        → wilds (all_subpatterns (patterns_of sig ts)) ≡ map wild_of (all_pattern_wildcards sig ts)
    wilds-patterns_of before no_trees h = refl
    wilds-patterns_of before (more_trees t ts) h =
        let p = both-empty (pattern_faults sig before t)
        (all_pattern_faults sig (before ++ pattern_wildcards sig t) ts) h in
        wilds-append (subpatterns (pattern_of sig t)) (all_subpatterns (patterns_of sig ts))
        ∙ (λ i. wilds-pattern_of before t p.0 i ++ wilds-patterns_of (before ++ pattern_wildcards sig t) ts p.1 i)
        ∙ sym (map-append wild_of (pattern_wildcards sig t) (all_pattern_wildcards sig ts))

  -- wildcards of one class, kind, count and default take the same
  form_shape-same : (a b : DefaultForm) (k l : List ℕ) (d e : Extent) → same_default a b ≡ true → k ≡ l → d ≡ e
      → form_shape a k d ≡ form_shape b l e
  form_shape-same absent absent k l d e h kinds extents = λ i. kind_shape sig (kinds i) (extent_shape (extents i))
  form_shape-same (normal_form t) (normal_form u) k l d e h kinds extents =
      same_shape-same (pattern.optional t) (pattern.optional u) h
  form_shape-same _ _ k l d e h kinds extents = cc

  -- wildcards that don't differ agree
  agree-differs : (v w : PatternWildcard) → differs w v ≡ false → Agree (wild_of v) (wild_of w)
  agree-differs v w h = go v.wildcard.name w.wildcard.name h
    where
      same : (b : Bool) → b ≡ true → (b && not (same_class v w)) ≡ false
          → form_shape v.default v.wildcard.kind v.extent ≡ form_shape w.default w.wildcard.kind w.extent
      same true e h =
          let alike = bytes_eq v.wildcard.kind w.wildcard.kind && same_default v.default w.default in
          let k = not-false (same_class v w) h in
          let extents = same_extent-same v.extent w.extent (first-of (same_extent v.extent w.extent) alike k) in
          let l = second-of (same_extent v.extent w.extent) alike k in
          let kinds : v.wildcard.kind ≡ w.wildcard.kind =
          (bytes_eq-Decides v.wildcard.kind w.wildcard.kind).0
          (first-of (bytes_eq v.wildcard.kind w.wildcard.kind) (same_default v.default w.default) l) in
          form_shape-same v.default w.default v.wildcard.kind w.wildcard.kind v.extent w.extent
          (second-of (bytes_eq v.wildcard.kind w.wildcard.kind) (same_default v.default w.default) l) kinds extents
      same false e h = cc

      go : (x y : List ℕ) → (is_same_variable y x && not (same_class v w)) ≡ false
          → Agree (wild_pattern (form_shape v.default v.wildcard.kind v.extent) (variable_of x))
          (wild_pattern (form_shape w.default w.wildcard.kind w.extent) (variable_of y))
      go [] [] h = tt
      go [] (b ∷ y) h = tt
      go (a ∷ x) [] h = tt
      go (a ∷ x) (b ∷ y) h = λ e. same (bytes_eq (b ∷ y) (a ∷ x)) ((bytes_eq-Decides (b ∷ y) (a ∷ x)).1 (sym e)) h

  agrees-none : (w : PatternWildcard) (before : List PatternWildcard) → list_any (differs w) before ≡ false
      → AgreesWith (wild_of w) (map wild_of before)
  agrees-none w [] h = tt
  agrees-none w (v ∷ before) h = go (differs w v) refl h (agrees-none w before)
    where
      go : (b : Bool) → differs w v ≡ b → (b || list_any (differs w) before) ≡ false
          → (list_any (differs w) before ≡ false → AgreesWith (wild_of w) (map wild_of before))
          → AgreesWith (wild_of w) (map wild_of (v ∷ before))
      go true e h ih = cc
      go false e h ih = (agree-differs v w e, ih h)

  InOrder-Apart : (before ws : List PatternWildcard) → Apart before ws → InOrder (map wild_of before) (map wild_of ws)
  InOrder-Apart before [] h = tt
  InOrder-Apart before (w ∷ ws) h = (
    agrees-none w before h.0,
    subst (λ l. InOrder l (map wild_of ws)) (map-append wild_of before (w ∷ []))
        (InOrder-Apart (before ++ w ∷ []) ws h.1),
  )

  -- a pattern without faults has no clash
  pub first_clash-pattern_of : (p : Tree) → pattern_faults sig [] p ≡ [] → first_clash (pattern_of sig p) ≡ None
  first_clash-pattern_of p h =
      first_clash_after-InOrder [] (subpatterns (pattern_of sig p))
      (InOrder-wilds [] (subpatterns (pattern_of sig p))
      (subst (InOrder []) (sym (wilds-pattern_of [] p h))
      (InOrder-Apart [] (pattern_wildcards sig p) (Apart-pattern_faults sig [] p h))))
