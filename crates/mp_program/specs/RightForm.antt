-- Which lines a program text may have: each has its printed spelling, and is read of it.
use Rattle.std.specs.Prelude.{◌≡◌, ◌≢◌, ◌↔◌, ◌≤◌, ◌<◌, ◌^◌, ⊤, ℕ, suc, Bool, true, false, ◌&&◌, not, List, [], ◌∷◌}
use Rattle.std.specs.Prelude.{◌++◌}
use Rattle.std.specs.Prelude.{length, slice_get, Option, Some, None, nat_eq, nat_lt, codes, IsSome}
use Rattle.std.specs.List.{AllByRecursion}
use Rattle.mp_io.specs.Devices.{Text}
use Rattle.mp_term.specs.Names.{is_name}
use Rattle.mp_term.specs.Size.{node_count}
use Rattle.mp_term.specs.Tree.{symbol}
use Rattle.mp_term.specs.Signature.{Sig, is_assoc, is_comm, is_one, kind_names}
use Rattle.mp_pattern.specs.declared.limits.TheConstants.{MAX_DEFAULT_NODES, MAX_COUNT, MAX_VARIABLES, MAX_RULES}
use Rattle.mp_pattern.specs.CondTree.{Cond}
use Rattle.mp_pattern.specs.EachWildcard.{EachWildcard}
use Rattle.mp_pattern.specs.Firsts.{is_known}
use Rattle.mp_pattern.specs.NetTokens.{NetToken, sym_token, enter_token, leave_token, wild_token, comm_token, numbered}
use Rattle.mp_pattern.specs.Normal.{is_collapsible}
use Rattle.mp_pattern.specs.PatternTree.{Wildcard, kind, optional, counted, Pattern, symbol_pattern, app_pattern}
use Rattle.mp_pattern.specs.PatternTree.{wild_pattern, Patterns, no_patterns, more_patterns, pattern_list}
use Rattle.mp_pattern.specs.Value.{same_name}
use Rattle.mp_pattern.specs.Variables.{uses}
use Rattle.mp_walk.specs.Instrs.{Instr}
use Rattle.mp_walk.specs.Walkable.{numbered_names}
use Rattle.mp_print.specs.Printing.{term_text}
use Rattle.mp_print.specs.PrintedPattern.{pattern_text}
use Rattle.mp_print.specs.PrintedCond.{cond_text}
use Rattle.mp_build.specs.Alone.{IsTermOf, IsPatternOf}
use Rattle.mp_build.specs.AloneCondition.{IsCondOf}
use Rattle.mp_program.specs.declared.format.Format.{Format}
use Rattle.mp_program.specs.declared.format.Format.TheVariants.{One, Two}
use Rattle.mp_program.specs.Form.{RuleTest, untested, tested, spelled, RuleLine, Form}
use Rattle.mp_program.specs.TokenPaths.{cond_names}

-- ---- numbers

-- a number of 32 bits
abbrev pub IsShort : ℕ → Type 0
IsShort n = n < 2 ^ 32

-- so is the number, where there is one
abbrev pub IsShortTarget : Option ℕ → Type 0
IsShortTarget None = ⊤
IsShortTarget (Some n) = IsShort n

-- each number is less than the next
abbrev pub are_ascending : List ℕ → Bool
are_ascending [] = true
are_ascending (m ∷ []) = true
are_ascending (m ∷ n ∷ ns) = nat_lt m n && are_ascending (n ∷ ns)

-- the name of a variable: `v` and a number of 32 bits
pub record IsNumberedName (x : Text) : Type 0 where
  pub number : ℕ
  pub short : IsShort number
  pub name : x ≡ numbered number

-- an instruction leads down and accepts nothing, or it accepts a rule or more, ascending
abbrev pub IsRightAction : Option ℕ → List ℕ → Type 0
IsRightAction (Some n) rules = IsShort n × (rules ≡ [])
IsRightAction None rules = (rules ≢ []) × (are_ascending rules ≡ true) × AllByRecursion IsShort rules

-- ---- tokens

-- a counted wildcard stands in format 2 alone
abbrev pub IsWildcardOf : Format → Wildcard → Type 0
IsWildcardOf One (counted n fixed) = ⊥
IsWildcardOf _ _ = ⊤

-- the pattern is an application of f
abbrev pub is_headed : ℕ → Pattern → Bool
is_headed f (app_pattern g ps) = nat_eq f g
is_headed f _ = false

module _ (sig : Sig) where
  abbrev mutual
    -- no associative operation stands directly under itself, and no one-identity application collapses
    pub is_flat : Pattern → Bool
    is_flat (symbol_pattern n) = true
    is_flat (wild_pattern w x) = true
    is_flat (app_pattern f ps) = not (is_one sig f && is_collapsible (pattern_list ps)) && are_flat f ps

    -- so is each argument of f
    pub are_flat : ℕ → Patterns → Bool
    are_flat f no_patterns = true
    are_flat f (more_patterns p ps) = not (is_assoc sig f && is_headed f p) && (is_flat p && are_flat f ps)

  -- the root is an application of a commutative operation
  abbrev pub is_comm_rooted : Pattern → Bool
  is_comm_rooted (app_pattern f ps) = is_comm sig f
  is_comm_rooted _ = false

  -- the pattern of a token, which is read of its printed text as it stands
  pub record IsRightComm (format : Format) (p : Pattern) : Type 0 where
    pub read : IsPatternOf sig (pattern_text sig p) p
    pub rooted : is_comm_rooted p ≡ true
    pub flat : is_flat p ≡ true
    pub names : AllByRecursion (λ u. IsNumberedName u.name) (uses None p)
    pub wildcards : EachWildcard (IsWildcardOf format) p

  -- the wildcard of a token: its kind is held, its default is read of its printed text, and its count is from 2 to
  -- MAX_COUNT
  abbrev pub IsRightWildcard : Wildcard → Type 0
  IsRightWildcard (kind k) = IsSome (slice_get (kind_names sig) k)
  IsRightWildcard (optional t) = IsTermOf sig (term_text sig t) t × (node_count t ≤ MAX_DEFAULT_NODES)
  IsRightWildcard (counted n fixed) = (2 ≤ n) × (n ≤ MAX_COUNT)
  IsRightWildcard _ = ⊤

  -- a token: its symbol is read of its name, and its operation is held
  abbrev pub IsRightToken : Format → NetToken → Type 0
  IsRightToken format (sym_token n) = IsTermOf sig n (symbol n)
  IsRightToken format (enter_token f) = IsSome (slice_get sig.ops f)
  IsRightToken format (leave_token f) = IsSome (slice_get sig.ops f)
  IsRightToken format (wild_token w x) = IsRightWildcard w × IsWildcardOf format w × IsShortTarget x
  IsRightToken format (comm_token p) = IsRightComm format p

  -- ---- lines

  -- an instruction
  pub record IsRightInstr (format : Format) (i : Instr) : Type 0 where
    pub token : IsRightToken format i.token
    pub action : IsRightAction i.down i.accepts
    pub over : IsShortTarget i.over

  -- a condition, which is read of its printed text
  abbrev pub IsRightCond : Cond → Type 0
  IsRightCond c = IsCondOf sig None (cond_text sig c) c

  -- a test: a condition on the variables v0 to v31
  pub record IsRightTest (c : Cond) : Type 0 where
    pub right : IsRightCond c
    pub names : AllByRecursion (λ x. is_known same_name (numbered_names MAX_VARIABLES) x ≡ true) (cond_names c)

  -- what a rule line of the format says of its test
  abbrev pub IsRightRuleTest : Format → RuleTest → Type 0
  IsRightRuleTest format untested = ⊤
  IsRightRuleTest format (tested n) = (format ≡ Two) × IsShort n
  IsRightRuleTest format (spelled c) = (format ≡ One) × IsRightCond c

  -- a rule line
  pub record IsRightRule (format : Format) (r : RuleLine) : Type 0 where
    pub name : is_name r.name ≡ true
    pub vars : AllByRecursion (λ x. is_name x ≡ true) r.vars
    pub test : IsRightRuleTest format r.test

-- a line that declares something begins with the word and ends with a semicolon, whatever stands between
abbrev pub IsDeclaration : Text → Text → Type 0
IsDeclaration word line = (middle : Text) × (line ≡ word ++ (middle ++ codes ";"))

-- all lines: in format 1 no test lines, at most MAX_RULES test lines and as many rule lines, `begin` leads on exactly
-- where there is an instruction, and each number of an instruction has 32 bits
pub record IsRightForm (sig : Sig) (f : Form) : Type 0 where
  pub ops : AllByRecursion (IsDeclaration (codes "op ")) f.ops
  pub kinds : AllByRecursion (IsDeclaration (codes "kind ")) f.kinds
  pub no_tests : f.format ≡ One → f.tests ≡ []
  pub few_tests : length f.tests ≤ MAX_RULES
  pub tests : AllByRecursion (IsRightTest sig) f.tests
  pub few_rules : length f.rules ≤ MAX_RULES
  pub rules : AllByRecursion (IsRightRule sig f.format) f.rules
  pub begin : IsShortTarget f.begin
  pub begins : IsSome f.begin ↔ (f.code ≢ [])
  pub few_instrs : IsShort (suc (length f.code))
  pub code : AllByRecursion (IsRightInstr sig f.format) f.code
