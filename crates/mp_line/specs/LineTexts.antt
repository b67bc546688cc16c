-- Of what a text is the printed text.
use Rattle.std.specs.Prelude.{◌≡◌, ◌≢◌, ◌≤◌, ℕ, Bool, true, not, ◌&&◌, List, ◌++◌, map, take, Option, Some, None}
use Rattle.std.specs.Prelude.{⊤, nat_eq, length, slice_get, codes, decimal, IsSome, position}
use Rattle.std.specs.List.{AllByRecursion}
use Rattle.mp_io.specs.Devices.{Text}
use Rattle.mp_term.specs.Names.{is_name}
use Rattle.mp_term.specs.Size.{node_count}
use Rattle.mp_term.specs.Tree.{Tree, symbol}
use Rattle.mp_term.specs.Signature.{Sig, kind_names, has_name}
use Rattle.mp_pattern.specs.declared.limits.TheConstants.{MAX_COUNT, MAX_DEFAULT_NODES}
use Rattle.mp_pattern.specs.CondTree.{Cond}
use Rattle.mp_pattern.specs.NetTokens.{NetToken, sym_token, numbered}
use Rattle.mp_pattern.specs.PatternTree.{Pattern, symbol_pattern, app_pattern, wild_pattern, Patterns, no_patterns}
use Rattle.mp_pattern.specs.PatternTree.{more_patterns}
use Rattle.mp_walk.specs.Instrs.{Instr}
use Rattle.mp_print.specs.Printing.{text_if, preceded, kind_name_text, term_text}
use Rattle.mp_print.specs.PrintedPattern.{pattern_text}
use Rattle.mp_print.specs.PrintedCond.{op_name_text, cond_text}
use Rattle.mp_build.specs.Alone.{IsTermOf, IsPatternOf}
use Rattle.mp_build.specs.AloneCondition.{IsCondOf}
use Rattle.mp_program.specs.declared.format.Format.{Format}
use Rattle.mp_program.specs.Form.{RuleTest, RuleLine}
use Rattle.mp_program.specs.FormText.{variable_text, target_text, token_text, action_text, instr_line, test_line}
use Rattle.mp_program.specs.FormText.{rule_test_text, rule_line}
use Rattle.mp_program.specs.RightForm.{IsShort, IsShortTarget, are_ascending, IsNumberedName, IsWildcardOf, is_flat}
use Rattle.mp_program.specs.RightForm.{is_comm_rooted, IsRightComm}
use Rattle.mp_program.specs.RightForm.{IsRightToken, IsRightAction, IsRightInstr, IsRightTest, IsRightRule}
use Rattle.mp_line.specs.Words.{IsFirstWord}

-- ---- numbers and names

-- the word is the number
pub record IsNumberText (word : Text) (n : ℕ) : Type 0 where
  pub short : IsShort n
  pub text : decimal n ≡ word

-- the word is `v` and the number
pub record IsNumberedText (word : Text) (n : ℕ) : Type 0 where
  pub short : IsShort n
  pub text : numbered n ≡ word

-- the word is that of the variable
pub record IsVariableText (word : Text) (x : Option ℕ) : Type 0 where
  pub short : IsShortTarget x
  pub text : variable_text x ≡ word

-- the word is that of the target
pub record IsTargetText (word : Text) (t : Option ℕ) : Type 0 where
  pub short : IsShortTarget t
  pub text : target_text t ≡ word

-- the text is the items, a blank before each
pub record AreItemsText {A : Type 0} (IsItem : A → Type 0) (printed : A
    → Text) (text : Text) (items : List A) : Type 0 where
  pub right : AllByRecursion IsItem items
  pub spelled : preceded (codes " ") (map printed items) ≡ text

-- the text is the numbers, a blank before each
abbrev pub AreNumbersText : Text → List ℕ → Type 0
AreNumbersText = AreItemsText IsShort decimal

-- the word is the name
pub record IsNameText (word name : Text) : Type 0 where
  pub right : is_name name ≡ true
  pub text : name ≡ word

-- the bytes are a name
abbrev pub IsName : Text → Type 0
IsName x = is_name x ≡ true

-- the text is names, a blank before each, and so many of them are kept
pub record AreNamesText (most : ℕ) (text : Text) (kept : List Text) : Type 0 where
  pub all : List Text
  pub names : AreItemsText IsName (λ x. x) text all
  pub front : kept ≡ take most all

-- the word is the name, which no operation has
pub record IsFreeName (sig : Sig) (word name : Text) : Type 0 where
  pub right : is_name name ≡ true
  pub free : position (has_name name) sig.ops ≡ None
  pub text : name ≡ word

-- ---- terms, patterns and conditions

-- the text is the printed text of the value, and the value is read of it
pub record IsExact {A : Type 0} (IsOf : Text → A → Type 0) (printed : A → Text) (text : Text) (a : A) : Type 0 where
  pub read : IsOf text a
  pub spelled : printed a ≡ text

-- so of a term
abbrev pub IsExactTerm : Sig → Text → Tree → Type 0
IsExactTerm sig = IsExact (IsTermOf sig) (term_text sig)

-- so of a pattern
abbrev pub IsExactPattern : Sig → Text → Pattern → Type 0
IsExactPattern sig = IsExact (IsPatternOf sig) (pattern_text sig)

-- so of a condition
abbrev pub IsExactCond : Sig → Text → Cond → Type 0
IsExactCond sig = IsExact (IsCondOf sig None) (cond_text sig)

-- ---- tokens

-- the name is that of an operation that is held
pub record IsHeldOp (sig : Sig) (name : Text) (f : ℕ) : Type 0 where
  pub held : IsSome (slice_get sig.ops f)
  pub text : op_name_text sig f ≡ name

-- the name is that of a kind that is held
pub record IsHeldKind (sig : Sig) (name : Text) (k : ℕ) : Type 0 where
  pub held : IsSome (slice_get (kind_names sig) k)
  pub text : kind_name_text sig k ≡ name

-- the text is that of a default: a term that isn't too large
pub record IsDefaultText (sig : Sig) (text : Text) (t : Tree) : Type 0 where
  pub exact : IsExactTerm sig text t
  pub small : node_count t ≤ MAX_DEFAULT_NODES

-- the token is that of a symbol
pub record IsSymbolOf (t : Tree) (k : NetToken) : Type 0 where
  pub name : Text
  pub term : t ≡ symbol name
  pub token : k ≡ sym_token name

-- the word is a count from 2 on, which is fixed or isn't
pub record IsCountWord (word : Text) (which : Bool) (n : ℕ) (fixed : Bool) : Type 0 where
  pub number : IsNumberText word n
  pub least : 2 ≤ n
  pub most : n ≤ MAX_COUNT
  pub same : fixed ≡ which

-- the text is a count from 2 on, with `+` behind it where it isn't fixed
pub record IsCountText (text : Text) (n : ℕ) (fixed : Bool) : Type 0 where
  pub least : 2 ≤ n
  pub most : n ≤ MAX_COUNT
  pub spelled : decimal n ++ text_if (not fixed) (codes "+") ≡ text

-- a variable is called by a number
abbrev pub IsNumberedVariable : Option Text → Type 0
IsNumberedVariable None = ⊤
IsNumberedVariable (Some x) = IsNumberedName x

abbrev mutual
  -- each variable is called by a number, and each wildcard may stand in the format
  pub HasRightWildcards : Format → Pattern → Type 0
  HasRightWildcards format (symbol_pattern n) = ⊤
  HasRightWildcards format (app_pattern f ps) = HaveRightWildcards format ps
  HasRightWildcards format (wild_pattern w x) = IsWildcardOf format w × IsNumberedVariable x

  -- so in each pattern of a list
  pub HaveRightWildcards : Format → Patterns → Type 0
  HaveRightWildcards format no_patterns = ⊤
  HaveRightWildcards format (more_patterns p ps) = HasRightWildcards format p × HaveRightWildcards format ps

-- the pattern is that of a token, but for its text
pub record IsCommTree (sig : Sig) (format : Format) (p : Pattern) : Type 0 where
  pub rooted : is_comm_rooted sig p ≡ true
  pub flat : is_flat sig p ≡ true
  pub wildcards : HasRightWildcards format p

-- the text is that of the pattern of a token
pub record IsCommText (sig : Sig) (format : Format) (text : Text) (p : Pattern) : Type 0 where
  pub right : IsRightComm sig format p
  pub spelled : pattern_text sig p ≡ text

-- the text is that of the token
pub record IsTokenText (sig : Sig) (format : Format) (text : Text) (k : NetToken) : Type 0 where
  pub right : IsRightToken sig format k
  pub spelled : token_text sig k ≡ text

-- the text doesn't begin as that of a symbol, of an optional wildcard or of a whole application
pub record IsPlainText (text : Text) : Type 0 where
  pub not_symbol : (rest : Text) → text ≢ codes "sym " ++ rest
  pub not_optional : (rest : Text) → text ≢ codes "opt " ++ rest
  pub not_comm : (rest : Text) → text ≢ codes "comm " ++ rest

-- ---- instructions

-- the text ends with `over` and the target
pub record IsOverText (text front : Text) (target : Option ℕ) : Type 0 where
  pub short : IsShortTarget target
  pub spelled : front ++ (codes " over " ++ target_text target) ≡ text

-- there are numbers, and each is less than the next
abbrev pub are_accepted : List ℕ → Bool
are_accepted ns = not (nat_eq (length ns) 0) && are_ascending ns

-- the text is the numbers of the rules that an action accepts, a blank before each
pub record AreAcceptedText (text : Text) (rules : List ℕ) : Type 0 where
  pub right : IsRightAction None rules
  pub spelled : preceded (codes " ") (map decimal rules) ≡ text

-- the text ends with the action, where it leads down and which rules it accepts
pub record IsActionText (text front : Text) (down : Option ℕ) (accepts : List ℕ) : Type 0 where
  pub right : IsRightAction down accepts
  pub spelled : front ++ (codes " " ++ action_text down accepts) ≡ text

-- the text is that of the instruction behind its number and a blank
pub record IsInstrBody (sig : Sig) (format : Format) (text : Text) (i : Instr) : Type 0 where
  pub right : IsRightInstr sig format i
  pub spelled : token_text sig i.token ++ (codes " " ++ (action_text i.down i.accepts
      ++ (codes " over " ++ target_text i.over))) ≡ text

-- the line is that of the instruction of the number
pub record IsInstrText (sig : Sig) (format : Format) (n : ℕ) (line : Text) (i : Instr) : Type 0 where
  pub right : IsRightInstr sig format i
  pub text : instr_line sig n i ≡ line

-- ---- tests and rules

-- the line is that of the test
pub record IsTestText (sig : Sig) (line : Text) (c : Cond) : Type 0 where
  pub right : IsRightTest sig c
  pub text : test_line sig c ≡ line

-- a rule line of which so many variables are kept
abbrev pub kept_line : ℕ → RuleLine → RuleLine
kept_line most r = record { name = r.name; vars = take most r.vars; test = r.test }

-- the text is the name of a rule and those of its variables, and the test is given
pub record IsHeadText (most : ℕ) (text : Text) (test : RuleTest) (kept : RuleLine) : Type 0 where
  pub word : Text
  pub behind : Text
  pub first : IsFirstWord text word behind
  pub name : IsNameText word kept.name
  pub vars : AreNamesText most behind kept.vars
  pub same : kept.test ≡ test

-- the text ends with ` if [` and the number
pub record IsBeforeTest (text front : Text) (n : ℕ) : Type 0 where
  pub short : IsShort n
  pub spelled : front ++ (codes " if [" ++ decimal n) ≡ text

-- the text is that of the rule line between `rule ` and the semicolon, and so many variables are kept
pub record IsRuleBody (sig : Sig) (format : Format) (most : ℕ) (text : Text) (kept : RuleLine) : Type 0 where
  pub whole : RuleLine
  pub right : IsRightRule sig format whole
  pub spelled : whole.name ++ (preceded (codes " ") whole.vars ++ rule_test_text sig whole.test) ≡ text
  pub front : kept ≡ kept_line most whole

-- the line is that of the rule line, of which so many variables are kept
pub record IsRuleText (sig : Sig) (format : Format) (most : ℕ) (line : Text) (kept : RuleLine) : Type 0 where
  pub whole : RuleLine
  pub right : IsRightRule sig format whole
  pub text : rule_line sig whole ≡ line
  pub front : kept ≡ kept_line most whole
