-- The variables of wildcards, and rules whose pattern has no fault.
use Rattle.std.proofs.Common.{◌≡◌, ℕ, List, [], ◌∷◌, ◌++◌, map, Option, Some, refl, sym, ap, subst, ◌∙◌}
use Rattle.std.specs.Prelude.{◌||◌, Result, Ok, Err, IfOk}
use Rattle.std.proofs.lemmas.List.{map-append}
use Rattle.mp_term.specs.Signature.{Sig}
use Rattle.mp_pattern.specs.PatternTree.{Pattern}
use Rattle.mp_parser.specs.Machine.{Top, AfterExpr, InStatement, OfRule, heading, run}
use Rattle.mp_parser.specs.Tokens.{Placed}
use Rattle.mp_parser.specs.Syntax.{Tree, Symbol, Apply, InfixOf, Wild, Optional, Counted, Variable, Trees, no_trees}
use Rattle.mp_parser.specs.Syntax.{more_trees, Condition, Spot, Statement, RuleOf}
use Rattle.mp_parser.specs.declared.parser.Parser.{Parser}
use Rattle.mp_parser.specs.Parsing.{ahead}
use Rattle.mp_build.specs.declared.fault.TextError.{TextError}
use Rattle.mp_build.specs.Answers.{Gives}
use Rattle.mp_build.specs.Build.{sig_of}
use Rattle.mp_build.specs.ConditionChecks.{has_large_condition, if_faults}
use Rattle.mp_build.specs.Scope.{pattern_variables, all_pattern_variables}
use Rattle.mp_build.specs.TemplateChecks.{has_large_template, arrow_faults}
use Rattle.mp_build.specs.Wildcards.{PatternWildcard, pattern_wildcards, all_pattern_wildcards}
use Rattle.mp_text.specs.declared.reader.Draft.{Draft}
use Rattle.mp_text.specs.Draft.{IsDraftOf}
use Rattle.mp_text.specs.FileChecks.{rule_faults, is_large_rule, statement_faults}
use Rattle.mp_text.specs.InOrder.{IsDraftRead}
use Rattle.mp_text.specs.ReadPattern.{IsWholePatternOf}
use Rattle.mp_text.specs.ReadRule.{IsRuleStartRead, wildcard_variable}
use Rattle.mp_text.proofs.Draft.{draft_sig}
use Rattle.mp_text.proofs.InOrderLaws.{IsDraftRead-push}

module _ (sig : Sig) where
  mutual
    -- the variables of a pattern's wildcards are its variables
    pub map-pattern_wildcards : (e : Tree) → map wildcard_variable (pattern_wildcards sig e) ≡ pattern_variables e
    map-pattern_wildcards (Symbol w) = refl
    map-pattern_wildcards (Apply f args) = map-all_pattern_wildcards args
    map-pattern_wildcards (InfixOf opened sign operands) = map-all_pattern_wildcards operands
    map-pattern_wildcards (Wild w) = refl
    map-pattern_wildcards (Optional w others default) = refl
    map-pattern_wildcards (Counted w count more) = refl
    map-pattern_wildcards (Variable x) = refl

    map-all_pattern_wildcards : (es : Trees)
        → map wildcard_variable (all_pattern_wildcards sig es) ≡ all_pattern_variables es
    map-all_pattern_wildcards no_trees = refl
    map-all_pattern_wildcards (more_trees e es) =
        map-append wildcard_variable (pattern_wildcards sig e) (all_pattern_wildcards sig es)
        ∙ (λ i. map-pattern_wildcards e i ++ map-all_pattern_wildcards es i)

module _ (sig : Sig) (e : Tree) (p : Pattern) (ws : List PatternWildcard) (whole : IsWholePatternOf sig e p ws)
    (x : Option Tree) (c : Option Condition) where
  -- a rule whose pattern isn't large is large where its template or its condition is
  pub is_large_rule-whole : is_large_rule e x c ≡ (has_large_template x || has_large_condition c)
  is_large_rule-whole = ap (λ b. b || (has_large_template x || has_large_condition c)) whole.small

  -- a rule whose pattern has no fault has those of its template and its condition
  pub rule_faults-whole : rule_faults sig e x c
      ≡ arrow_faults (map wildcard_variable ws) sig x ++ if_faults sig (Some (map wildcard_variable ws)) c
  rule_faults-whole =
      ap (λ l. l ++ (arrow_faults (pattern_variables e) sig x ++ if_faults sig (Some (pattern_variables e)) c))
      whole.faultless
      ∙ ap (λ vs. arrow_faults vs sig x ++ if_faults sig (Some vs) c)
      (sym (ap (map wildcard_variable) whole.wildcards ∙ map-pattern_wildcards sig e))

-- what stands behind the pattern of a rule is passed: it gives the rule this template and this condition
abbrev pub IsRuleEndRead : Option Tree → Option Condition → List Placed → List Placed → Type 0
IsRuleEndRead x c old new = (done : List Statement) (name : Spot) (e : Tree)
    → run done (AfterExpr (InStatement (heading OfRule name)) [] e) old ≡ run (done ++ RuleOf name e x c ∷ []) Top new

-- a rule whose pattern has no fault is added where all of it was read
pub IsDraftRead-rule : (r : Result (Unit {0}) TextError) (q behind : Parser) (d new : Draft) (name : Spot) (p : Pattern)
    (ws : List PatternWildcard) (x : Option Tree) (c : Option Condition)
    → IsRuleEndRead x c (ahead q) (ahead behind)
    → ((sig : Sig) (earlier : List Statement) (e : Tree) → IsDraftOf sig earlier d → IsWholePatternOf sig e p ws
    → Gives r (statement_faults sig earlier (RuleOf name e x c))
    (λ _. IsDraftOf sig (earlier ++ RuleOf name e x c ∷ []) new))
    → IfOk r (λ _. (bytes : List ℕ) (start : Parser) (e : Tree) → IsDraftRead bytes start d
    → IsWholePatternOf d.file.sig e p ws → IsRuleStartRead name e (ahead start) (ahead q)
    → IsDraftRead bytes behind new)
IsDraftRead-rule (Ok v) q behind d new name p ws x c ends gives = λ bytes start e was whole begins.
    let sig = sig_of was.statements in
    let added = gives sig was.statements e was.draft
    (subst (λ s. IsWholePatternOf s e p ws) (draft_sig sig was.statements d was.draft) whole) in
    IsDraftRead-push bytes start behind d new (RuleOf name e x c) was refl
    (begins was.statements ∙ ends was.statements name e) added.0 added.1
IsDraftRead-rule (Err f) q behind d new name p ws x c ends gives = tt
