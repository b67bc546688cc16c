-- Of each text it is decided whether it is that of a number, a term, a pattern or a condition, and of which.
use Rattle.std.proofs.Common.{◌≡◌, ◌<◌, ◌≤◌, ◌^◌, ℕ, suc, Bool, true, false, List, [], ◌++◌, Option, Some}
use Rattle.std.proofs.Common.{None, Result, Ok, Err, inl, inr, refl, ap, sym, ◌∙◌, subst, arith}
use Rattle.std.specs.Prelude.{◌⊎◌, not, codes, decimal}
use Rattle.std.specs.List.{AllByRecursion}
use Rattle.mp_io.specs.Devices.{Text}
use Rattle.mp_parser.specs.declared.fault.Fault.{Fault}
use Rattle.mp_parser.specs.Syntax.{IsExprOf}
use Rattle.mp_term.specs.Signature.{Sig}
use Rattle.mp_term.specs.Size.{node_count}
use Rattle.mp_term.specs.Tree.{Tree, symbol, app}
use Rattle.mp_pattern.specs.declared.limits.TheConstants.{MAX_COUNT, MAX_DEFAULT_NODES}
use Rattle.mp_pattern.specs.CondTree.{Cond}
use Rattle.mp_pattern.specs.EachWildcard.{EachWildcard, AllEachWildcard}
use Rattle.mp_pattern.specs.NetTokens.{numbered}
use Rattle.mp_pattern.specs.PatternTree.{Wildcard, dot, kind, plus, star, optional, counted, Pattern, symbol_pattern}
use Rattle.mp_pattern.specs.PatternTree.{app_pattern, wild_pattern, Patterns, no_patterns, more_patterns}
use Rattle.mp_pattern.specs.Variables.{uses}
use Rattle.mp_print.specs.Printing.{text_if, term_text}
use Rattle.mp_print.specs.PrintedPattern.{pattern_text}
use Rattle.mp_syntax.specs.Reading.{expr_reading}
use Rattle.mp_syntax.proofs.Whole.{expr_is_read, expr_reading-found, expr_reading-only, read-unique}
use Rattle.mp_build.specs.declared.fault.TextFault.{TextFault}
use Rattle.mp_build.specs.Alone.{IsValueOf, IsTermOf, IsPatternOf, term_alone_faults, pattern_alone_faults}
use Rattle.mp_build.specs.Alone.{normal_term_of}
use Rattle.mp_build.specs.AloneCondition.{IsCondOf, IsPlacedConditionOf, condition_alone_faults, placed_cond_of}
use Rattle.mp_build.specs.Build.{pattern_of}
use Rattle.mp_build.specs.PlacedReading.{placed_reading}
use Rattle.mp_build.proofs.FirstToken.{IsReading-placed_reading}
use Rattle.mp_program.specs.declared.format.Format.{Format}
use Rattle.mp_program.specs.declared.format.Format.TheVariants.{One, Two}
use Rattle.mp_program.specs.RightForm.{IsShort, IsShortTarget, IsNumberedName, IsWildcardOf}
use Rattle.mp_program.specs.RightForm.{is_comm_rooted, is_flat, IsRightComm}
use Rattle.mp_vm.proofs.Decisions.{Decided, decided-by, decided-both, decided-true, decided-either}
use Rattle.mp_vm.proofs.Decisions.{decided-most, decided-text, decided-empty, decided-all, decided-only}
use Rattle.mp_vm.proofs.Decisions.{decided-below, Spells}
use Rattle.mp_vm.proofs.OneReading.{pattern-one}

-- ---- numbers

pub decided-decimal : (t : Text) → Decided (Spells IsShort decimal t)
decided-decimal t = decided-below (λ n. decimal n ≡ t) (λ n. decided-text (decimal n) t) (2 ^ 32)

pub decided-target : (printed : Option ℕ → Text) (t : Text) → Decided (Spells IsShortTarget printed t)
decided-target printed t = go (decided-text (printed None) t)
    (decided-below (λ n. printed (Some n) ≡ t) (λ n. decided-text (printed (Some n)) t) (2 ^ 32))
  where
    go : Decided (printed None ≡ t) → Decided ((n : ℕ) × (n < 2 ^ 32) × (printed (Some n) ≡ t))
        → Decided (Spells IsShortTarget printed t)
    go (inl e) d = inl (None, tt, e)
    go (inr never) (inl h) = inl (Some h.0, h.1, h.2)
    go (inr never) (inr none) = inr (λ h. back h.0 h.1 h.2)
      where
        back : (x : Option ℕ) → IsShortTarget x → printed x ≡ t → ⊥
        back None k e = never e
        back (Some n) k e = none (n, k, e)

decided-numbered : (x : Text) → Decided (IsNumberedName x)
decided-numbered x = decided-by (λ h. record { number = h.0; short = h.1; name = h.2 })
    (λ h. (h.number, h.short, h.name))
    (decided-below (λ n. x ≡ numbered n) (λ n. decided-text x (numbered n)) (2 ^ 32))

-- ---- terms, patterns and conditions

module _ {S A : Type 0} (IsSyntax : List ℕ → S → Type 0) (reading : List ℕ → Result S Fault)
    (found : (bytes : List ℕ) (s : S) → reading bytes ≡ Ok s → IsSyntax bytes s)
    (only : (bytes : List ℕ) (s : S) → IsSyntax bytes s → reading bytes ≡ Ok s) (faults : S → List TextFault)
    (value : S → A) where
  same-read : (r : Result S Fault) (s t : S) → r ≡ Ok s → r ≡ Ok t → s ≡ t
  same-read (Ok r) s t e f = (let a : r ≡ s = cc in let b : r ≡ t = cc in sym a ∙ b)
  same-read (Err r) s t e f = cc

  -- bytes are a value, or they are none
  decided-value : (bytes : List ℕ) → Decided ((a : A) × IsValueOf IsSyntax faults value bytes a)
  decided-value bytes = go (reading bytes) refl
    where
      go : (r : Result S Fault) → reading bytes ≡ r → Decided ((a : A) × IsValueOf IsSyntax faults value bytes a)
      go (Err f) e = inr (λ h. (let read = sym e ∙ only bytes h.1.syntax_tree h.1.syntax in absurd cc))
      go (Ok s) e = by_faults (decided-empty (faults s))
        where
          by_faults : Decided (faults s ≡ []) → Decided ((a : A) × IsValueOf IsSyntax faults value bytes a)
          by_faults (inl none) =
              inl (value s, record { syntax_tree = s; syntax = found bytes s e; faultless = none; is = refl })
          by_faults (inr never) = inr (λ h. never (subst (λ z. faults z ≡ [])
              (same-read (reading bytes) h.1.syntax_tree s (only bytes h.1.syntax_tree h.1.syntax) e)
              h.1.faultless))

-- a text is the printed text of a value of which it is read, and of which one more fact holds
pub decided-exact : {A : Type 0} (IsOf : Text → A → Type 0) (printed : A → Text)
    → ((t : Text) (a b : A) → IsOf t a → IsOf t b → a ≡ b) → (Q : A → Type 0) → ((a : A) → Decided (Q a))
    → (t : Text) → Decided ((a : A) × IsOf t a) → Decided (Spells (λ a. IsOf (printed a) a × Q a) printed t)
decided-exact IsOf printed one Q q t d =
    decided-by (λ h. (h.0, (subst (λ x. IsOf x h.0) (sym h.2.1) h.1, h.2.0), h.2.1))
    (λ h. (h.0, subst (λ x. IsOf x h.0) h.2 h.1.0, (h.1.1, h.2)))
    (decided-only (IsOf t) (λ a. Q a × (printed a ≡ t)) (one t) (λ a. decided-both (q a) (decided-text (printed a) t))
    d)

module _ (Q : Wildcard → Type 0) (q : (w : Wildcard) → Decided (Q w)) where
  mutual
    decided-each : (p : Pattern) → Decided (EachWildcard Q p)
    decided-each (symbol_pattern n) = inl tt
    decided-each (app_pattern f ps) = decided-each-all ps
    decided-each (wild_pattern w x) = q w

    decided-each-all : (ps : Patterns) → Decided (AllEachWildcard Q ps)
    decided-each-all no_patterns = inl tt
    decided-each-all (more_patterns p ps) = decided-both (decided-each p) (decided-each-all ps)

pub decided-wildcard : (format : Format) (w : Wildcard) → Decided (IsWildcardOf format w)
decided-wildcard One dot = inl tt
decided-wildcard One (kind k) = inl tt
decided-wildcard One plus = inl tt
decided-wildcard One star = inl tt
decided-wildcard One (optional t) = inl tt
decided-wildcard One (counted n fixed) = inr (λ h. h)
decided-wildcard Two dot = inl tt
decided-wildcard Two (kind k) = inl tt
decided-wildcard Two plus = inl tt
decided-wildcard Two star = inl tt
decided-wildcard Two (optional t) = inl tt
decided-wildcard Two (counted n fixed) = inl tt

pub decided-format : (f g : Format) → Decided (f ≡ g)
decided-format One One = inl refl
decided-format One Two = inr (λ e. cc)
decided-format Two One = inr (λ e. cc)
decided-format Two Two = inl refl

module _ (sig : Sig) where
  decided-term : (bytes : Text) → Decided ((t : Tree) × IsTermOf sig bytes t)
  decided-term = decided-value IsExprOf expr_reading expr_reading-found expr_reading-only (term_alone_faults sig)
      (normal_term_of sig)

  term-one : (bytes : Text) (t u : Tree) → IsTermOf sig bytes t → IsTermOf sig bytes u → t ≡ u
  term-one bytes t u h k = h.is ∙ ap (normal_term_of sig)
      (read-unique expr_is_read bytes h.syntax_tree k.syntax_tree h.syntax k.syntax) ∙ sym k.is

  decided-pattern : (bytes : Text) → Decided ((p : Pattern) × IsPatternOf sig bytes p)
  decided-pattern = decided-value IsExprOf expr_reading expr_reading-found expr_reading-only (pattern_alone_faults sig)
      (pattern_of sig)

  pub decided-condition : (bytes : Text) → Decided ((c : Cond) × IsCondOf sig None bytes c)
  decided-condition = decided-value IsPlacedConditionOf placed_reading IsReading-placed_reading.found
      IsReading-placed_reading.only (condition_alone_faults sig None) (placed_cond_of sig)

  -- ---- tokens

  pub decided-symbol : (t : Text) → Decided (IsTermOf sig t (symbol t))
  decided-symbol t =
      decided-by (λ h. subst (IsTermOf sig t) h.2 h.1) (λ h. (symbol t, h, refl))
      (decided-only (IsTermOf sig t) (λ u. u ≡ symbol t) (term-one t) same (decided-term t))
    where
      same : (u : Tree) → Decided (u ≡ symbol t)
      same (symbol n) = decided-by (λ e. ap symbol e) (λ e. cc) (decided-text n t)
      same (app f ts) = inr (λ e. cc)

  pub decided-default : (t : Text)
      → Decided (Spells (λ u. IsTermOf sig (term_text sig u) u × (node_count u ≤ MAX_DEFAULT_NODES)) (term_text sig) t)
  decided-default t = decided-exact (IsTermOf sig) (term_text sig) term-one (λ u. node_count u ≤ MAX_DEFAULT_NODES)
      (λ u. decided-most (node_count u) MAX_DEFAULT_NODES) t (decided-term t)

  abbrev IsComm : Format → Pattern → Type 0
  IsComm format p = (is_comm_rooted sig p ≡ true) × (is_flat sig p ≡ true)
      × (AllByRecursion (λ u. IsNumberedName u.name) (uses None p) × EachWildcard (IsWildcardOf format) p)

  decided-is_comm : (format : Format) (p : Pattern) → Decided (IsComm format p)
  decided-is_comm format p =
      decided-by (λ h. (h.0, h.1.0, h.1.1)) (λ h. (h.0, (h.1, h.2)))
      (decided-both (decided-true (is_comm_rooted sig p)) (decided-both (decided-true (is_flat sig p))
      (decided-both (decided-all (λ u. IsNumberedName u.name) (λ u. decided-numbered u.name) (uses None p))
      (decided-each (IsWildcardOf format) (decided-wildcard format) p))))

  pub decided-comm : (format : Format) (t : Text) → Decided (Spells (IsRightComm sig format) (pattern_text sig) t)
  decided-comm format t =
      decided-by
      (λ h. (
        h.0,
        record {
          read = h.1.0;
          rooted = h.1.1.0;
          flat = h.1.1.1;
          names = h.1.1.2.0;
          wildcards = h.1.1.2.1;
        },
        h.2,
      ))
      (λ h. (h.0, (h.1.read, (h.1.rooted, h.1.flat, (h.1.names, h.1.wildcards))), h.2))
      (decided-exact (IsPatternOf sig) (pattern_text sig) (pattern-one sig) (IsComm format) (decided-is_comm format) t
      (decided-pattern t))

-- ---- counts

-- a count and whether it is fixed
abbrev pub IsCount : ℕ × Bool → Type 0
IsCount p = (2 ≤ p.0) × (p.0 ≤ MAX_COUNT)

abbrev pub count_text : ℕ × Bool → Text
count_text p = decimal p.0 ++ text_if (not p.1) (codes "+")

pub decided-count : (t : Text) → Decided (Spells IsCount count_text t)
decided-count t = decided-by there (λ h. back h.0.0 h.0.1 h.1 h.2) (decided-either (at true) (at false))
  where
    at : (fixed : Bool) → Decided ((n : ℕ) × (n < suc MAX_COUNT) × ((2 ≤ n) × (count_text (n, fixed) ≡ t)))
    at fixed = decided-below (λ n. (2 ≤ n) × (count_text (n, fixed) ≡ t))
        (λ n. decided-both (decided-most 2 n) (decided-text (count_text (n, fixed)) t)) (suc MAX_COUNT)

    there : ((n : ℕ) × (n < suc MAX_COUNT) × ((2 ≤ n) × (count_text (n, true) ≡ t)))
        ⊎ ((n : ℕ) × (n < suc MAX_COUNT) × ((2 ≤ n) × (count_text (n, false) ≡ t))) → Spells IsCount count_text t
    there (inl h) = (let less = h.1 in ((h.0, true), (h.2.0, omega (arith, less)), h.2.1))
    there (inr h) = (let less = h.1 in ((h.0, false), (h.2.0, omega (arith, less)), h.2.1))

    back : (n : ℕ) (fixed : Bool) → IsCount (n, fixed) → count_text (n, fixed) ≡ t
        → ((n : ℕ) × (n < suc MAX_COUNT) × ((2 ≤ n) × (count_text (n, true) ≡ t)))
        ⊎ ((n : ℕ) × (n < suc MAX_COUNT) × ((2 ≤ n) × (count_text (n, false) ≡ t)))
    back n true h e = (let most = h.1 in inl (n, omega (arith, most), (h.0, e)))
    back n false h e = (let most = h.1 in inr (n, omega (arith, most), (h.0, e)))
