-- Printed texts have no line feed.
use Rattle.std.proofs.Common.{◌≡◌, ◌≤◌, ◌<◌, ◌^◌, ℕ, zero, suc, List, [], ◌∷◌, ◌++◌, Bool, true, false, refl, ap}
use Rattle.std.proofs.Common.{sym, ◌∙◌, arith, eqb-true}
use Rattle.std.specs.Prelude.{Option, Some, None, ◌&&◌, not, ⊤, codes, decimal, length, nat_eq, nat_le, nat_lt}
use Rattle.std.specs.Prelude.{slice_get, unwrap_or, if◌then◌else◌}
use Rattle.std.specs.List.{AllByRecursion, list_any, list_all}
use Rattle.std.specs.Option.{option_map_or}
use Rattle.std.proofs.lemmas.Bool.{and_parts, or_parts}
use Rattle.mp_io.specs.Devices.{Text}
use Rattle.mp_term.specs.declared.signature.OpDecl.{OpDecl}
use Rattle.mp_term.specs.declared.limits.TheConstants.{MAX_NAME_BYTES, MAX_SIGN_BYTES}
use Rattle.mp_term.specs.Names.{is_name_byte, is_name, is_sign_byte, is_arrow, is_sign}
use Rattle.mp_term.specs.Signature.{Sig, kind_names}
use Rattle.mp_term.specs.Tree.{Tree, symbol, app, Trees, no_trees, more_trees}
use Rattle.mp_pattern.specs.declared.condition.Sense.{Sense}
use Rattle.mp_pattern.specs.declared.condition.Sense.TheVariants.{Lt, Le, Gt, Ge, Eq, Ne}
use Rattle.mp_pattern.specs.declared.limits.TheConstants.{MAX_COUNT}
use Rattle.mp_pattern.specs.CondTree.{Operand, var, ground, Amount, fixed, count, size, Cond, amounts, same, less, free}
use Rattle.mp_pattern.specs.CondTree.{of_kind, headed, negation, all_of, any_of, Conds, no_conds, more_conds}
use Rattle.mp_pattern.specs.NetTokens.{numbered}
use Rattle.mp_pattern.specs.PatternTree.{Wildcard, dot, kind, plus, star, optional, counted, Pattern, symbol_pattern}
use Rattle.mp_pattern.specs.PatternTree.{app_pattern, wild_pattern, Patterns, no_patterns, more_patterns}
use Rattle.mp_pattern.specs.SoundRule.{HasSymbols, HaveSymbols, IsSoundWildcard, IsVariable, IsFormed, AreFormed}
use Rattle.mp_pattern.proofs.NetTokenLists.{is_name-numbered}
use Rattle.mp_print.specs.Printing.{text_if, kind_name_text, preceded, separated, bracketed, prefix_text, infix_text}
use Rattle.mp_print.specs.Printing.{application_text, held_text, term_text, term_texts}
use Rattle.mp_print.specs.PrintedPattern.{count_text, shape_text, pattern_text, pattern_texts}
use Rattle.mp_print.specs.PrintedCond.{sense_text, measure_text, relation_text, operand_text, amount_text}
use Rattle.mp_print.specs.PrintedCond.{op_name_text, tightness, part_text, cond_text, part_texts}
use Rattle.mp_build.specs.SoundCondition.{IsScopedOperand, IsScopedAmount, IsScoped, AreScoped}
use Rattle.mp_program.proofs.LineLaws.{IsOneLine}

-- ---- texts of one line

pub line-append : (s t : Text) → IsOneLine s → IsOneLine t → IsOneLine (s ++ t)
line-append [] t h k = k
line-append (b ∷ s) t h k =
    let both = or_parts (nat_eq b 10) (list_any (λ c. nat_eq c 10) s) h in
    rw (both.0, line-append s t both.1 k) refl

-- a test that a line feed doesn't pass
line-by : (test : ℕ → Bool) → test 10 ≡ false → (t : Text) → list_all test t ≡ true → IsOneLine t
line-by test fails [] h = refl
line-by test fails (b ∷ t) h =
    let both = and_parts (test b) (list_all test t) h in
    rw (other (nat_eq b 10) refl both.0, line-by test fails t both.1) refl
  where
    other : (v : Bool) → nat_eq b 10 ≡ v → test b ≡ true → v ≡ false
    other false e k = refl
    other true e k = (let wrong : true ≡ false = sym k ∙ ap test (eqb-true b 10 e) ∙ fails in cc)

pub name-line : (n : Text) → is_name n ≡ true → IsOneLine n
name-line n h = line-by is_name_byte refl n
    (and_parts (nat_le 1 (length n) && nat_le (length n) MAX_NAME_BYTES) (list_all is_name_byte n) h).1

pub name-lines : (ns : List Text) → AllByRecursion (λ n. is_name n ≡ true) ns → AllByRecursion IsOneLine ns
name-lines [] h = tt
name-lines (n ∷ ns) h = (name-line n h.0, name-lines ns h.1)

pub sign-line : (s : Text) → is_sign s ≡ true → IsOneLine s
sign-line s h = line-by is_sign_byte refl s
    (and_parts ((nat_le 1 (length s) && nat_le (length s) MAX_SIGN_BYTES) && not (is_arrow s))
    (list_all is_sign_byte s) h).1

pub decimal-line : (n : ℕ) → n < 2 ^ 32 → IsOneLine (decimal n)
decimal-line n h = (or_parts (nat_eq 118 10) (list_any (λ c. nat_eq c 10) (decimal n))
    (name-line (numbered n) (is_name-numbered n h))).1

pub if-line : (b : Bool) (t : Text) → IsOneLine t → IsOneLine (text_if b t)
if-line true t h = h
if-line false t h = refl

-- ---- texts behind separators

pub preceded-line : (s : Text) (ts : List Text) → IsOneLine s → AllByRecursion IsOneLine ts
    → IsOneLine (preceded s ts)
preceded-line s [] h k = refl
preceded-line s (t ∷ ts) h k =
    line-append s (t ++ preceded s ts) h (line-append t (preceded s ts) k.0 (preceded-line s ts h k.1))

pub separated-line : (s : Text) (ts : List Text) → IsOneLine s → AllByRecursion IsOneLine ts
    → IsOneLine (separated s ts)
separated-line s [] h k = refl
separated-line s (t ∷ ts) h k = line-append t (preceded s ts) k.0 (preceded-line s ts h k.1)

bracketed-line : (s : Text) (ts : List Text) → IsOneLine s → AllByRecursion IsOneLine ts
    → IsOneLine (bracketed s ts)
bracketed-line s ts h k = line-append (codes "(") (separated s ts ++ codes ")") refl
    (line-append (separated s ts) (codes ")") (separated-line s ts h k) refl)

-- ---- names of a signature

-- so is the sign, where there is one
abbrev pub IsOneLineSign : Option Text → Type 0
IsOneLineSign None = ⊤
IsOneLineSign (Some sign) = IsOneLine sign

-- the name and the sign of an operation
abbrev pub IsOneLineOp : OpDecl → Type 0
IsOneLineOp d = IsOneLine d.name × IsOneLineSign d.sign

-- those of each operation and the name of each kind
pub record HasOneLines (sig : Sig) : Type 0 where
  pub ops : AllByRecursion IsOneLineOp sig.ops
  pub kinds : AllByRecursion IsOneLine (kind_names sig)

-- what holds of all items holds of the one that is there
abbrev pub AtMostOne : {X : Type 0} → (X → Type 0) → Option X → Type 0
AtMostOne P None = ⊤
AtMostOne P (Some x) = P x

pub all-get : {X : Type 0} (P : X → Type 0) (xs : List X) (n : ℕ) → AllByRecursion P xs
    → AtMostOne P (slice_get xs n)
all-get P [] n h = tt
all-get P (x ∷ xs) zero h = h.0
all-get P (x ∷ xs) (suc n) h = all-get P xs n h.1

module _ (sig : Sig) (lines : HasOneLines sig) where
  pub kind-line : (k : ℕ) → IsOneLine (kind_name_text sig k)
  kind-line k = by_name (slice_get (kind_names sig) k) (all-get IsOneLine (kind_names sig) k lines.kinds)
    where
      by_name : (o : Option Text) → AtMostOne IsOneLine o → IsOneLine (unwrap_or o [])
      by_name None h = refl
      by_name (Some n) h = h

  pub op-line : (f : ℕ) → IsOneLine (op_name_text sig f)
  op-line f = by_op (slice_get sig.ops f) (all-get IsOneLineOp sig.ops f lines.ops)
    where
      by_op : (o : Option OpDecl) → AtMostOne IsOneLineOp o → IsOneLine (option_map_or (λ d. d.name) o [])
      by_op None h = refl
      by_op (Some d) h = h.0

  held-line : (o : Option OpDecl) (ts : List Text) → AtMostOne IsOneLineOp o → AllByRecursion IsOneLine ts
      → IsOneLine (held_text o ts)
  held-line None ts h k = refl
  held-line (Some d) ts h k = by_sign d.sign h.1
    where
      before : IsOneLine (prefix_text d ts)
      before = line-append d.name (bracketed (codes ", ") ts) h.0 (bracketed-line (codes ", ") ts refl k)

      between : (s : Text) → IsOneLine s → IsOneLine (infix_text s ts)
      between s i = bracketed-line (codes " " ++ (s ++ (codes " " ++ []))) ts
          (line-append (codes " ") (s ++ (codes " " ++ [])) refl (line-append s (codes " " ++ []) i refl)) k

      by_sign : (s : Option Text) → IsOneLineSign s → IsOneLine (application_text d s ts)
      by_sign None i = before
      by_sign (Some s) i = by_count (nat_le 2 (length ts))
        where
          by_count : (b : Bool) → IsOneLine (if b then infix_text s ts else prefix_text d ts)
          by_count true = between s i
          by_count false = before

  -- ---- terms

  mutual
    pub term-line : (t : Tree) → HasSymbols sig t → IsOneLine (term_text sig t)
    term-line (symbol n) h = name-line n h.name
    term-line (app f ts) h = held-line (slice_get sig.ops f) (term_texts sig ts)
        (all-get IsOneLineOp sig.ops f lines.ops) (terms-line ts h)

    terms-line : (ts : Trees) → HaveSymbols sig ts → AllByRecursion IsOneLine (term_texts sig ts)
    terms-line no_trees h = tt
    terms-line (more_trees t ts) h = (term-line t h.0, terms-line ts h.1)

  -- ---- patterns

  pub count-line : (n : ℕ) → n ≤ MAX_COUNT → IsOneLine (decimal n)
  count-line n h = decimal-line n (omega (arith, h))

  shape-line : (w : Wildcard) → IsSoundWildcard sig w → IsOneLine (shape_text sig w)
  shape-line dot h = refl
  shape-line (kind k) h = line-append (codes "_") (kind_name_text sig k) refl (kind-line k)
  shape-line plus h = refl
  shape-line star h = refl
  shape-line (optional t) h = line-append (codes "_:") (term_text sig t) refl (term-line t h.symbols)
  shape-line (counted n exact) h =
      line-append (codes "_") (count_text n exact) refl
      (line-append (codes "{") (decimal n ++ (text_if (not exact) (codes "+") ++ codes "}")) refl
      (line-append (decimal n) (text_if (not exact) (codes "+") ++ codes "}") (count-line n h.1)
      (line-append (text_if (not exact) (codes "+")) (codes "}") (if-line (not exact) (codes "+") refl) refl)))

  variable-line : (x : Option Text) → IsVariable sig x → IsOneLine (unwrap_or x [])
  variable-line None h = refl
  variable-line (Some x) h = name-line x h

  mutual
    pub pattern-line : (p : Pattern) → IsFormed sig p → IsOneLine (pattern_text sig p)
    pattern-line (symbol_pattern n) h = name-line n h.name
    pattern-line (app_pattern f ps) h = held-line (slice_get sig.ops f) (pattern_texts sig ps)
        (all-get IsOneLineOp sig.ops f lines.ops) (patterns-line ps h.1)
    pattern-line (wild_pattern w x) h =
        line-append (unwrap_or x []) (shape_text sig w) (variable-line x h.1) (shape-line w h.0)

    patterns-line : (ps : Patterns) → AreFormed sig ps → AllByRecursion IsOneLine (pattern_texts sig ps)
    patterns-line no_patterns h = tt
    patterns-line (more_patterns p ps) h = (pattern-line p h.0, patterns-line ps h.1)

  -- ---- conditions

  sense-line : (s : Sense) → IsOneLine (sense_text s)
  sense-line Lt = refl
  sense-line Le = refl
  sense-line Gt = refl
  sense-line Ge = refl
  sense-line Eq = refl
  sense-line Ne = refl

  operand-line : (a : Operand) → IsScopedOperand sig None a → IsOneLine (operand_text sig a)
  operand-line (var x) h = line-append (codes "$") x refl (name-line x h)
  operand-line (ground t) h = term-line t h.symbols

  measure-line : (word a : Text) → IsOneLine word → IsOneLine a → IsOneLine (measure_text word a)
  measure-line word a h k = line-append word (codes "(" ++ (a ++ codes ")")) h
      (line-append (codes "(") (a ++ codes ")") refl (line-append a (codes ")") k refl))

  relation-line : (word a b : Text) → IsOneLine word → IsOneLine a → IsOneLine b → IsOneLine (relation_text word a b)
  relation-line word a b h i j = line-append word (codes "(" ++ (a ++ (codes ", " ++ (b ++ codes ")")))) h
      (line-append (codes "(") (a ++ (codes ", " ++ (b ++ codes ")"))) refl
      (line-append a (codes ", " ++ (b ++ codes ")")) i
      (line-append (codes ", ") (b ++ codes ")") refl (line-append b (codes ")") j refl))))

  amount-line : (m : Amount) → IsScopedAmount sig None m → IsOneLine (amount_text sig m)
  amount-line (fixed n) h = decimal-line n (omega (arith, h))
  amount-line (count a) h = measure-line (codes "count") (operand_text sig a) refl (operand-line a h)
  amount-line (size a) h = measure-line (codes "size") (operand_text sig a) refl (operand-line a h)

  part-line : (least : ℕ) (c : Cond) (t : Text) → IsOneLine t → IsOneLine (part_text least c t)
  part-line least c t h = by_test (nat_lt (tightness c) least)
    where
      by_test : (b : Bool) → IsOneLine (if b then codes "[" ++ (t ++ codes "]") else t)
      by_test true = line-append (codes "[") (t ++ codes "]") refl (line-append t (codes "]") h refl)
      by_test false = h

  mutual
    -- the text of a condition over any names
    pub cond-line : (c : Cond) → IsScoped sig None c → IsOneLine (cond_text sig c)
    cond-line (amounts m s n) h =
        line-append (amount_text sig m) (codes " " ++ (sense_text s ++ (codes " " ++ amount_text sig n)))
        (amount-line m h.0)
        (line-append (codes " ") (sense_text s ++ (codes " " ++ amount_text sig n)) refl
        (line-append (sense_text s) (codes " " ++ amount_text sig n) (sense-line s)
        (line-append (codes " ") (amount_text sig n) refl (amount-line n h.1))))
    cond-line (same a b) h = relation-line (codes "same") (operand_text sig a) (operand_text sig b) refl
        (operand-line a h.0) (operand-line b h.1)
    cond-line (less a b) h = relation-line (codes "less") (operand_text sig a) (operand_text sig b) refl
        (operand-line a h.0.0) (operand-line b h.1.0)
    cond-line (free a b) h = relation-line (codes "free") (operand_text sig a) (operand_text sig b) refl
        (operand-line a h.0) (operand-line b h.1)
    cond-line (of_kind a k) h = relation-line (codes "kind") (operand_text sig a) (kind_name_text sig k) refl
        (operand-line a h.0) (kind-line k)
    cond-line (headed a f) h = relation-line (codes "head") (operand_text sig a) (op_name_text sig f) refl
        (operand-line a h.0) (op-line f)
    cond-line (negation c) h = line-append (codes "not ") (part_text 3 c (cond_text sig c)) refl
        (part-line 3 c (cond_text sig c) (cond-line c h))
    cond-line (all_of cs) h = separated-line (codes " and ") (part_texts sig 2 cs) refl (conds-line 2 cs h.1)
    cond-line (any_of cs) h = separated-line (codes " or ") (part_texts sig 1 cs) refl (conds-line 1 cs h.1)

    conds-line : (least : ℕ) (cs : Conds) → AreScoped sig None cs
        → AllByRecursion IsOneLine (part_texts sig least cs)
    conds-line least no_conds h = tt
    conds-line least (more_conds c cs) h =
        (part-line least c (cond_text sig c) (cond-line c h.0), conds-line least cs h.1)
