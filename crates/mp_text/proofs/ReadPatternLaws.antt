-- The faults, patterns and wildcards of applications and of lists of expressions that grow at the end.
use Rattle.std.proofs.Common.{◌≡◌, ◌≤◌, ℕ, ◌+◌, Bool, true, false, List, [], ◌∷◌, ◌++◌, length, map, refl, ap, ◌∙◌}
use Rattle.std.proofs.Common.{arith, sym, Option, Some, None, Result, Ok, Err, append_assoc, subst}
use Rattle.std.specs.Prelude.{IfOk, IfSome, ◌&&◌, ◌||◌, not, nat_eq, nat_le, ◌==◌, if◌then◌else◌}
use Rattle.std.specs.List.{AllByRecursion}
use Rattle.std.proofs.lemmas.Bool.{leb-true, le-leb, eqb-true, and_from}
use Rattle.std.proofs.lemmas.List.{map_push, append-nil}
use Rattle.mp_term.specs.declared.signature.OpDecl.{OpDecl}
use Rattle.mp_term.specs.Signature.{Sig, allows}
use Rattle.mp_pattern.specs.declared.limits.TheConstants.{MAX_VARIABLES}
use Rattle.mp_pattern.specs.declared.pattern.Pattern as code
use Rattle.mp_pattern.specs.declared.pattern.Pattern.TheVariants as codes
use Rattle.mp_pattern.specs.declared.pattern.Shape.{Shape}
use Rattle.mp_pattern.specs.PatternTree as pattern
use Rattle.mp_pattern.specs.PatternTree.{Pattern, symbol_pattern, app_pattern, wild_pattern, most}
use Rattle.mp_pattern.specs.SoundRule.{pattern_most, fewest, greatest, sum_most, reaches}
use Rattle.mp_pattern.specs.SoundRule.{allows_patterns}
use Rattle.mp_pattern.specs.View.{pattern_tree}
use Rattle.mp_parser.specs.declared.limits.TheConstants.{MAX_OPEN}
use Rattle.mp_parser.specs.Tokens.{Placed}
use Rattle.mp_parser.specs.Syntax.{Spot, Wildcard, Tree, Symbol, Apply, InfixOf, Wild, Optional, Counted, Variable}
use Rattle.mp_parser.specs.Syntax.{trees, tree_list, Statement}
use Rattle.mp_parser.specs.Machine.{State, BeforeExpr, Within, Frame, run}
use Rattle.mp_parser.proofs.Trees.{tree_list-trees}
use Rattle.mp_build.specs.Build.{op_number, head_number, marked_shape, kind_shape, shape_of, pattern_of, patterns_of}
use Rattle.mp_build.specs.Checks.{nodes, all_nodes, has_large_default, some_large_default, is_large_pattern, op_named}
use Rattle.mp_build.specs.Checks.{head_faults, loose_faults, pattern_faults, all_pattern_faults}
use Rattle.mp_build.specs.Wildcards.{PatternWildcard, pattern_wildcards, all_pattern_wildcards}
use Rattle.mp_build.proofs.Built.{patterns_of-trees}
use Rattle.mp_build.proofs.Counts.{counted, few-counted}
use Rattle.mp_text.specs.ReadPattern.{IsPatternRead, IsWholePatternRead, MayTakeOne}
use Rattle.mp_text.proofs.ReadTermLaws.{all_nodes-push, some_large_default-push}

-- what follows of the value that is given, where one is
pub if_some-map : {A E : Type 0} (r : Result (Option A) E) (P R : A → Type 0) → ((a : A) → P a → R a)
    → IfOk r (λ o. IfSome o P) → IfOk r (λ o. IfSome o R)
if_some-map (Ok (Some a)) P R f p = f a p
if_some-map (Ok None) P R f p = tt
if_some-map (Err e) P R f p = tt

-- ---- how many arguments patterns take

-- patterns of which each may take one argument take no more than they are at least
fewest-length : (ps : List Pattern) → AllByRecursion MayTakeOne ps → fewest ps ≤ length ps
fewest-length [] h = omega arith
fewest-length (p ∷ ps) h = omega (arith, h.0.0, fewest-length ps h.1)

-- two greatest numbers that are reached are together
reaches-sum_most : (l m n : ℕ) (a b : Option ℕ) → l ≡ m + n → reaches m a ≡ true → reaches n b ≡ true
    → reaches l (sum_most a b) ≡ true
reaches-sum_most l m n None b sum h k = refl
reaches-sum_most l m n (Some x) None sum h k = refl
reaches-sum_most l m n (Some x) (Some y) sum h k =
    le-leb l (x + y) (omega (arith, sum, leb-true m x h, leb-true n y k))

-- they take as many as they are at most
reaches-greatest : (assoc : Bool) (ps : List Pattern) → AllByRecursion MayTakeOne ps
    → reaches (length ps) (greatest assoc ps) ≡ true
reaches-greatest assoc [] h = refl
reaches-greatest assoc (p ∷ ps) h =
    reaches-sum_most (length (p ∷ ps)) 1 (length ps) (pattern_most assoc p) (greatest assoc ps) (omega arith)
    (h.0.1 assoc) (reaches-greatest assoc ps h.1)

-- a smaller number is reached too
reaches-least : (m n : ℕ) (a : Option ℕ) → m ≤ n → reaches n a ≡ true → reaches m a ≡ true
reaches-least m n None l h = refl
reaches-least m n (Some x) l h = le-leb m x (omega (arith, l, leb-true n x h))

-- an operation that allows as many arguments as there are such patterns allows these
pub allows_patterns-allows : (ps : List Pattern) (d : OpDecl) → AllByRecursion MayTakeOne ps
    → allows (length ps) d ≡ true → allows_patterns ps d ≡ true
allows_patterns-allows ps d ones h = by_fixed d.fixed refl h
  where
    reached : d.least ≤ length ps → reaches d.least (greatest d.assoc ps) ≡ true
    reached l = reaches-least d.least (length ps) (greatest d.assoc ps) l (reaches-greatest d.assoc ps ones)

    by_fixed : (fixed : Bool) → d.fixed ≡ fixed
        → (if fixed then nat_eq (length ps) d.least else nat_le d.least (length ps)) ≡ true
        → (reaches d.least (greatest d.assoc ps) && (not fixed || nat_le (fewest ps) d.least)) ≡ true
    by_fixed true e g =
        let same = eqb-true (length ps) d.least g in
        and_from _ _ (reached (omega (arith, same)))
        (le-leb (fewest ps) d.least (omega (arith, same, fewest-length ps ones)))
    by_fixed false e g = and_from _ true (reached (leb-true d.least (length ps) g)) refl

-- one more that may take one argument
ones-push : (ps : List Pattern) (p : Pattern) → AllByRecursion MayTakeOne ps → MayTakeOne p
    → AllByRecursion MayTakeOne (ps ++ p ∷ [])
ones-push [] p h k = (k, tt)
ones-push (q ∷ ps) p h k = (h.0, ones-push ps p h.1 k)

-- so may a symbol
pub one-symbol : (n : List ℕ) → MayTakeOne (symbol_pattern n)
one-symbol n = (omega arith, λ assoc. refl)

-- so may an application
pub one-app : (f : ℕ) (ps : pattern.Patterns) → MayTakeOne (app_pattern f ps)
one-app f ps = (omega arith, λ assoc. refl)

-- a dot takes one argument or more
dot-reaches : (assoc : Bool) → reaches 1 (most assoc pattern.dot) ≡ true
dot-reaches true = refl
dot-reaches false = refl

-- so may a wildcard without a kind, by its underscores
one-marked : (x : Option (List ℕ)) (three two : Bool)
    → MayTakeOne (wild_pattern (if three then pattern.star else (if two then pattern.plus else pattern.dot)) x)
one-marked x true two = (omega arith, λ assoc. refl)
one-marked x false true = (omega arith, λ assoc. refl)
one-marked x false false = (omega arith, dot-reaches)

-- so may one of a kind
one-kind : (sig : Sig) (kind : List ℕ) (shape : pattern.Wildcard) (x : Option (List ℕ))
    → MayTakeOne (wild_pattern shape x) → MayTakeOne (wild_pattern (kind_shape sig kind shape) x)
one-kind sig [] shape x h = h
one-kind sig (byte ∷ bytes) shape x h = (omega arith, λ assoc. refl)

-- so may a wildcard without a count and a default
pub one-wildcard : (sig : Sig) (w : Wildcard) (x : Option (List ℕ)) → MayTakeOne (wild_pattern (shape_of sig w) x)
one-wildcard sig w x = one-kind sig w.kind (marked_shape w.marks) x (one-marked x (w.marks == 3) (w.marks == 2))

-- ---- whole patterns

-- a pattern that is no wildcard
abbrev pub IsNoWildcard : Pattern → Type 0
IsNoWildcard (symbol_pattern n) = Unit {0}
IsNoWildcard (app_pattern f ps) = Unit {0}
IsNoWildcard (wild_pattern w x) = ⊥

-- a pattern of the code that is no wildcard
pub no_wildcard : (p : code.Pattern) → ((w : Shape) (x : Option (List ℕ)) → p ≡ codes.Wild w x → ⊥)
    → IsNoWildcard (pattern_tree p)
no_wildcard (codes.Sym n) h = tt
no_wildcard (codes.App f ps) h = tt
no_wildcard (codes.Wild w x) h = absurd (h w x refl)

-- it is no plus, star, counted or optional wildcard
pub loose_faults-none : (sig : Sig) (e : Tree) → IsNoWildcard (pattern_of sig e) → loose_faults e ≡ []
loose_faults-none sig (Symbol w) h = refl
loose_faults-none sig (Apply f args) h = refl
loose_faults-none sig (InfixOf opened sign operands) h = refl
loose_faults-none sig (Wild w) h = absurd h
loose_faults-none sig (Optional w others default) h = absurd h
loose_faults-none sig (Counted w count more) h = absurd h
loose_faults-none sig (Variable x) h = refl

-- a pattern of few nodes without a large default isn't large
pub is_large_pattern-few : (e : Tree) → nodes e ≤ MAX_VARIABLES → has_large_default e ≡ false
    → is_large_pattern e ≡ false
is_large_pattern-few e few small = few-counted e (within (has_large_default e) small)
  where
    within : (large : Bool) → large ≡ false → counted large (nodes e) ≤ MAX_VARIABLES
    within true h = absurd cc
    within false h = omega (arith, few)

module _ (sig : Sig) where
  -- ---- lists of expressions

  -- the wildcards of expressions and of one more
  all_pattern_wildcards-push : (es : List Tree) (e : Tree)
      → all_pattern_wildcards sig (trees (es ++ e ∷ []))
      ≡ all_pattern_wildcards sig (trees es) ++ pattern_wildcards sig e
  all_pattern_wildcards-push [] e = append-nil (pattern_wildcards sig e)
  all_pattern_wildcards-push (d ∷ es) e = ap (λ l. pattern_wildcards sig d ++ l) (all_pattern_wildcards-push es e)
      ∙ sym (append_assoc (pattern_wildcards sig d) (all_pattern_wildcards sig (trees es)) (pattern_wildcards sig e))

  -- the faults of expressions and of one more
  all_pattern_faults-push : (before : List PatternWildcard) (es : List Tree) (e : Tree)
      → all_pattern_faults sig before (trees (es ++ e ∷ []))
      ≡ all_pattern_faults sig before (trees es)
      ++ pattern_faults sig (before ++ all_pattern_wildcards sig (trees es)) e
  all_pattern_faults-push before [] e = append-nil (pattern_faults sig before e)
      ∙ ap (λ l. pattern_faults sig l e) (sym (append-nil before))
  all_pattern_faults-push before (d ∷ es) e =
      let mid = before ++ pattern_wildcards sig d in
      ap (λ l. pattern_faults sig before d ++ l)
      (all_pattern_faults-push mid es e
      ∙ ap (λ l. all_pattern_faults sig mid (trees es) ++ pattern_faults sig l e)
      (append_assoc before (pattern_wildcards sig d) (all_pattern_wildcards sig (trees es))))
      ∙ sym (append_assoc (pattern_faults sig before d) (all_pattern_faults sig mid (trees es))
      (pattern_faults sig (before ++ (pattern_wildcards sig d ++ all_pattern_wildcards sig (trees es))) e))

  -- ---- applications

  -- the pattern of an operation that the signature has, applied to these patterns
  pub pattern_of-Apply : (f : Spot) (es : List Tree) (n : ℕ) → op_number sig f.text ≡ Some n
      → pattern_of sig (Apply f (trees es)) ≡ app_pattern n (pattern.patterns (map (pattern_of sig) es))
  pattern_of-Apply f es n is = ap (λ o. app_pattern (head_number o) (patterns_of sig (trees es))) is
      ∙ ap (app_pattern n) (patterns_of-trees sig es)

  -- such an operation that allows these patterns, which have no fault, has none
  pub pattern_faults-Apply : (before : List PatternWildcard) (f : Spot) (es : List Tree) (d : OpDecl)
      → op_named sig f.text ≡ Some d → allows_patterns (map (pattern_of sig) es) d ≡ true
      → all_pattern_faults sig before (trees es) ≡ [] → pattern_faults sig before (Apply f (trees es)) ≡ []
  pattern_faults-Apply before f es d is allowed none =
      ap (λ o. head_faults (allows_patterns (map (pattern_of sig) (tree_list (trees es)))) f o
      ++ all_pattern_faults sig before (trees es)) is
      ∙ ap (λ l. head_faults (allows_patterns (map (pattern_of sig) l)) f (Some d)
      ++ all_pattern_faults sig before (trees es)) (tree_list-trees es)
      ∙ (rw (allowed, none) refl)

  -- ---- what is read so far

  -- what is read behind the first token is read with it
  pub is_pattern_read-begins : (at : Within → List Frame → State) (room number n : ℕ) (p : Pattern)
      (before after : List PatternWildcard) (here old new : List Placed)
      → ((done : List Statement) (x : Within) (k : List Frame)
      → run done (BeforeExpr x k) here ≡ run done (at x k) old)
      → number ≡ n → IsPatternRead sig at room n p before after old new
      → IsPatternRead sig BeforeExpr room number p before after here new
  is_pattern_read-begins at room number n p before after here old new begins same h = record {
    expr = h.expr;
    read = λ done x k len. begins done x k ∙ h.read done x k len;
    faultless = h.faultless;
    pattern = h.pattern;
    one = h.one;
    wildcards = h.wildcards;
    count = same ∙ h.count;
    small = h.small;
  }

  -- a pattern that no wildcard stands before, and which is none, is whole where its nodes are few
  pub is_whole_pattern_read-few : (number : ℕ) (p : Pattern) (before after : List PatternWildcard)
      (old new : List Placed) → IsPatternRead sig BeforeExpr MAX_OPEN number p before after old new → before ≡ []
      → number ≤ MAX_VARIABLES → IsNoWildcard p → IsWholePatternRead sig p after old new
  is_whole_pattern_read-few number p before after old new h none few no_wild = record {
    expr = h.expr;
    read = h.read;
    whole = record {
      faultless = ap (λ l. l ++ pattern_faults sig [] h.expr)
          (loose_faults-none sig h.expr (subst IsNoWildcard h.pattern no_wild))
          ∙ ap (λ l. pattern_faults sig l h.expr) (sym none) ∙ h.faultless;
      pattern = h.pattern;
      wildcards = h.wildcards ∙ ap (λ l. l ++ pattern_wildcards sig h.expr) none;
      small = is_large_pattern-few h.expr (omega (arith, few, h.count)) h.small;
    };
  }

  -- the expressions have no fault behind these wildcards and no large default, so many nodes, these patterns, of which
  -- each may take one argument, and these wildcards with those before them
  pub record ArePatterns (number : ℕ) (es : List Tree) (ps : List Pattern) (before after : List PatternWildcard)
      : Type 0 where
    pub faultless : all_pattern_faults sig before (trees es) ≡ []
    pub patterns : ps ≡ map (pattern_of sig) es
    pub ones : AllByRecursion MayTakeOne ps
    pub wildcards : after ≡ before ++ all_pattern_wildcards sig (trees es)
    pub count : number ≡ all_nodes (trees es)
    pub small : some_large_default (trees es) ≡ false

  -- nothing yet
  pub are_patterns-none : (number : ℕ) (ps : List Pattern) (before : List PatternWildcard) → number ≡ 0 → ps ≡ []
      → ArePatterns number [] ps before before
  are_patterns-none number ps before zero none = record {
    faultless = refl;
    patterns = none;
    ones = rw none tt;
    wildcards = sym (append-nil before);
    count = zero;
    small = refl;
  }

  -- one more was read
  pub are_patterns-push : (at : Within → List Frame → State) (room number m n : ℕ) (es : List Tree)
      (ps new : List Pattern) (p : Pattern) (before mid after : List PatternWildcard) (here behind : List Placed)
      (h : IsPatternRead sig at room n p mid after here behind) → ArePatterns m es ps before mid
      → new ≡ ps ++ p ∷ [] → number ≡ m + n → ArePatterns number (es ++ h.expr ∷ []) new before after
  are_patterns-push at room number m n es ps new p before mid after here behind h so_far added sum = record {
    faultless = all_pattern_faults-push before es h.expr
        ∙ ap (λ l. l ++ pattern_faults sig (before ++ all_pattern_wildcards sig (trees es)) h.expr) so_far.faultless
        ∙ ap (λ l. pattern_faults sig l h.expr) (sym so_far.wildcards) ∙ h.faultless;
    patterns = added ∙ ap (λ l. l ++ p ∷ []) so_far.patterns ∙ ap (λ v. map (pattern_of sig) es ++ v ∷ []) h.pattern
        ∙ sym (map_push (pattern_of sig) es h.expr);
    ones = rw added (ones-push ps p so_far.ones h.one);
    wildcards = h.wildcards ∙ ap (λ l. l ++ pattern_wildcards sig h.expr) so_far.wildcards
        ∙ append_assoc before (all_pattern_wildcards sig (trees es)) (pattern_wildcards sig h.expr)
        ∙ ap (λ l. before ++ l) (sym (all_pattern_wildcards-push es h.expr));
    count = omega (arith, sum, so_far.count, h.count, all_nodes-push es h.expr);
    small = some_large_default-push es h.expr so_far.small h.small;
  }
