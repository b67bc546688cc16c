-- What is printed of a term, a pattern, a template or a condition alone is read again.
use Rattle.std.proofs.Common.{◌≡◌, ℕ, ◌≤◌, ◌||◌, true, ltb, List, [], length, Option, Some, None, refl, sym, ap, subst}
use Rattle.std.proofs.Common.{arith}
use Rattle.std.specs.Prelude.{codes}
use Rattle.std.proofs.lemmas.Bool.{or_parts, ltb-false}
use Rattle.mp_term.specs.declared.signature.OpDecl.{OpDecl}
use Rattle.mp_term.specs.Tree as term
use Rattle.mp_term.specs.Names.{is_name}
use Rattle.mp_term.specs.Signature.{Sig, Kind}
use Rattle.mp_term.specs.Normal.{normal}
use Rattle.mp_term.proofs.ListLaws.{all-also, all-map, both-empty}
use Rattle.mp_term.proofs.NormalSize.{depth-normal}
use Rattle.mp_pattern.specs.declared.limits.TheConstants.{MAX_TERM_NODES, MAX_PATTERN_NODES, MAX_VARIABLES, MAX_DEPTH}
use Rattle.mp_pattern.specs.PatternTree.{Pattern}
use Rattle.mp_pattern.specs.TemplateTree.{Template}
use Rattle.mp_pattern.specs.CondTree.{Cond}
use Rattle.mp_pattern.specs.SoundRule.{IsFormed, IsSoundTemplate, IsSoundCondition}
use Rattle.mp_parser.specs.declared.limits.TheConstants.{MAX_OPEN}
use Rattle.mp_parser.specs.Lexing.{first_token_place}
use Rattle.mp_parser.specs.Syntax.{IsExprOf, IsConditionOf, IsName}
use Rattle.mp_syntax.proofs.Whole.{expr-names, condition_bytes-names}
use Rattle.mp_syntax.proofs.Printed.{printed_expr-again, printed_condition-again}
use Rattle.mp_print.specs.Printing.{term_text}
use Rattle.mp_print.specs.PrintedPattern.{pattern_text}
use Rattle.mp_print.specs.PrintedTemplate.{template_text}
use Rattle.mp_print.specs.PrintedCond.{cond_text}
use Rattle.mp_build.specs.Build.{term_of, pattern_of, template_of}
use Rattle.mp_build.specs.Checks.{nodes, is_large_term, is_large_pattern, has_large_default, fault_if, loose_faults}
use Rattle.mp_build.specs.Checks.{term_faults, pattern_faults, whole_pattern_faults}
use Rattle.mp_build.specs.Scope.{Scope, variable_names}
use Rattle.mp_build.specs.TemplateChecks.{is_large_template, whole_template_faults}
use Rattle.mp_build.specs.Conditions.{cond_of}
use Rattle.mp_build.specs.ConditionChecks.{is_large_condition, condition_faults}
use Rattle.mp_build.specs.Alone.{start, IsTermOf, IsPatternOf}
use Rattle.mp_build.specs.AloneCondition.{IsCondOf}
use Rattle.mp_build.proofs.Words.{IsName-is_name, IsInfixSign-is_sign}
use Rattle.mp_build.proofs.Faultless.{nil-both, nil-fault_if, none-fault_if}
use Rattle.mp_build.proofs.Clashes.{first_clash-pattern_of}
use Rattle.mp_build.proofs.FirstToken.{condition-starts}
use Rattle.mp_build.proofs.SoundConditionLaws.{scoped-cond_of}
use Rattle.mp_text.proofs.DeclaredParts.{IsSomeSign, HasOpNames}
use Rattle.mp_build.proofs.SoundLaws.{sound-term_of, depth-term_of, depth-pattern_of, IsFormed-pattern_of}
use Rattle.mp_build.proofs.SoundLaws.{is_loose-loose_faults, pattern_nodes-pattern_of, variables-pattern_of}
use Rattle.mp_build.proofs.SoundTemplate.{sound-template_of}
use Rattle.mp_round_trip.specs.AloneTemplate.{use_variables, IsTemplateOf}
use Rattle.mp_round_trip.specs.Spelled.{term_spelling, pattern_spelling, template_spelling, cond_spelling}
use Rattle.mp_round_trip.specs.OpenBrackets.{condition_depth}
use Rattle.mp_round_trip.specs.Readable.{IsSpelledSign, IsSpelledOp, IsSpelledSignature, IsReadableTerm}
use Rattle.mp_round_trip.specs.Readable.{IsReadablePattern, IsReadableCondition}
use Rattle.mp_round_trip.proofs.Spelled.{term_text-spelling, pattern_text-spelling, template_text-spelling}
use Rattle.mp_round_trip.proofs.Spelled.{cond_text-spelling}
use Rattle.mp_round_trip.proofs.SpelledHead.{HasOps}
use Rattle.mp_round_trip.proofs.SpelledTerm.{HasNames-term_spelling, Fits-term_spelling}
use Rattle.mp_round_trip.proofs.SpelledPattern.{HasNames-pattern_spelling, Fits-pattern_spelling}
use Rattle.mp_round_trip.proofs.SpelledTemplate.{HasNames-template_spelling, Fits-template_spelling}
use Rattle.mp_round_trip.proofs.TermAgain.{term_of-spells, term_faults-spells, is_large_term-spells}
use Rattle.mp_round_trip.proofs.PatternAgain.{pattern_of-spells, whole_pattern_faults-spells, is_large_pattern-spells}
use Rattle.mp_round_trip.proofs.TemplateAgain.{template_of-spells, is_large_template-spells}
use Rattle.mp_round_trip.proofs.TemplateAgain.{whole_template_faults-spells}
use Rattle.mp_round_trip.proofs.ScopeAgain.{name-variables, bound-variable, single-variable, extent-variable}
use Rattle.mp_round_trip.proofs.ScopeAgain.{variable-bound, variable-single}
use Rattle.mp_round_trip.proofs.ScopedCondition.{scoped-condition}
use Rattle.mp_round_trip.proofs.ConditionAgain.{single-again}
use Rattle.mp_round_trip.proofs.SpelledCondition.{shallow-cond_of, HasNames-cond_spelling, Fits-cond_spelling}
use Rattle.mp_round_trip.proofs.Unplaced.{term-alike, pattern-alike, template-alike, condition-alike}

-- ---- signatures

some-sign : (o : Option (List ℕ)) → IsSpelledSign o → IsSomeSign o
some-sign None h = tt
some-sign (Some sign) h = IsInfixSign-is_sign sign h

op-names : (d : OpDecl) → IsSpelledOp d → HasOpNames d
op-names d h = record { name = IsName-is_name d.name h.name; sign = some-sign d.sign h.sign }

-- the operations have names and signs by which they are found
pub HasOps-spelled : (sig : Sig) → IsSpelledSignature sig → HasOps sig
HasOps-spelled sig h = record {
  apart = h.signature.ops_distinct;
  named = all-also IsSpelledOp HasOpNames op-names sig.ops h.ops;
  kinds_apart = h.signature.kinds_distinct;
  kinds_named = (
    IsName-is_name (codes "num") refl,
    all-map (λ (k : Kind). is_name k.name ≡ true) IsName (λ k. k.name) (λ k own. IsName-is_name k.name own) sig.kinds
        h.kinds,
  );
}

module _ (sig : Sig) (h : IsSpelledSignature sig) where
  has : HasOps sig
  has = HasOps-spelled sig h

  -- ---- terms

  -- what is printed of a term is read as its normal form
  pub term-readable : (t : term.Tree) → IsReadableTerm sig t → IsTermOf sig (term_text sig t) (normal sig t)
  term-readable t r =
      let again = printed_expr-again (term_spelling sig t) (HasNames-term_spelling sig has t r.formed r.symbols)
      (Fits-term_spelling sig has t MAX_DEPTH r.formed r.shallow) in
      let e = again.0 in
      let spells = term-alike sig has t e r.formed again.2 in
      record {
        syntax_tree = e;
        syntax = subst (λ l. IsExprOf l e) (sym (term_text-spelling sig t)) again.1;
        faultless = nil-both (fault_if (is_large_term e) _ (start e)) (term_faults sig e)
            (none-fault_if (is_large_term e) _ (start e) (is_large_term-spells sig e t spells r.few_nodes))
            (term_faults-spells sig e t spells r.formed r.symbols);
        is = ap (normal sig) (sym (term_of-spells sig e t spells));
      }

  -- a term that is read is read again
  pub term-again : (bytes : List ℕ) (t : term.Tree) → IsTermOf sig bytes t → IsTermOf sig (term_text sig t) t
  term-again bytes t b =
      let e = b.syntax_tree in
      let p = both-empty (fault_if (is_large_term e) _ (start e)) (term_faults sig e) b.faultless in
      let few : nodes e ≤ MAX_TERM_NODES = ltb-false MAX_TERM_NODES (nodes e)
      (or_parts (ltb MAX_TERM_NODES (nodes e)) (has_large_default e)
      (nil-fault_if (is_large_term e) _ (start e) p.0)).0 in
      let sound = sound-term_of sig h.signature.ops_in_order MAX_TERM_NODES e (expr-names bytes e b.syntax) p.1 few in
      let n = normal sig (term_of sig e) in
      let readable : IsReadableTerm sig n = record {
        formed = sound.formed;
        symbols = sound.symbols;
        few_nodes = sound.few_nodes;
        shallow = omega (arith, depth-normal sig (term_of sig e), depth-term_of sig MAX_DEPTH e b.syntax.fits);
      } in
      let again : IsTermOf sig (term_text sig n) n =
      subst (IsTermOf sig (term_text sig n)) sound.normal (term-readable n readable) in
      subst (λ t. IsTermOf sig (term_text sig t) t) (sym b.is) again

  -- ---- patterns

  -- what is printed of a pattern is read as it
  pub pattern-readable : (p : Pattern) → IsReadablePattern sig p → IsPatternOf sig (pattern_text sig p) p
  pattern-readable p r =
      let again = printed_expr-again (pattern_spelling sig p) (HasNames-pattern_spelling sig has p r.formed)
      (Fits-pattern_spelling sig has p MAX_DEPTH r.formed r.shallow) in
      let e = again.0 in
      let spells = pattern-alike sig has p e r.formed again.2 in
      record {
        syntax_tree = e;
        syntax = subst (λ l. IsExprOf l e) (sym (pattern_text-spelling sig p)) again.1;
        faultless = nil-both (fault_if (is_large_pattern e) _ (start e)) (whole_pattern_faults sig e)
            (none-fault_if (is_large_pattern e) _ (start e) (is_large_pattern-spells sig e p spells r))
            (whole_pattern_faults-spells sig e p spells r);
        is = sym (pattern_of-spells sig e p spells r.formed);
      }

  -- a pattern that is read is read again
  pub pattern-again : (bytes : List ℕ) (p : Pattern) → IsPatternOf sig bytes p → IsPatternOf sig (pattern_text sig p) p
  pattern-again bytes p b =
      let e = b.syntax_tree in
      let q = both-empty (fault_if (is_large_pattern e) _ (start e)) (whole_pattern_faults sig e) b.faultless in
      let w = both-empty (loose_faults e) (pattern_faults sig [] e) q.1 in
      let o = or_parts (ltb MAX_PATTERN_NODES (nodes e))
      (ltb MAX_VARIABLES (length (variable_names e)) || has_large_default e)
      (nil-fault_if (is_large_pattern e) _ (start e) q.0) in
      let l = or_parts (ltb MAX_VARIABLES (length (variable_names e))) (has_large_default e) o.1 in
      let few_nodes : nodes e ≤ MAX_PATTERN_NODES = ltb-false MAX_PATTERN_NODES (nodes e) o.0 in
      let few_names : length (variable_names e) ≤ MAX_VARIABLES =
      ltb-false MAX_VARIABLES (length (variable_names e)) l.0 in
      let readable : IsReadablePattern sig (pattern_of sig e) = record {
        formed = IsFormed-pattern_of sig h.signature.ops_in_order [] e (expr-names bytes e b.syntax) l.1 w.1;
        plain_root = is_loose-loose_faults sig e w.0;
        no_clash = first_clash-pattern_of sig e w.1;
        few_nodes = omega (arith, pattern_nodes-pattern_of sig e, few_nodes);
        few_variables = omega (arith, ap length (variables-pattern_of sig e), few_names);
        shallow = depth-pattern_of sig MAX_DEPTH e b.syntax.fits;
      } in
      subst (λ p. IsPatternOf sig (pattern_text sig p) p) (sym b.is) (pattern-readable (pattern_of sig e) readable)

  -- ---- templates

  module _ (p : Pattern) (formed : IsFormed sig p) where
    -- what is printed of a template is read as it
    pub template-readable : (x : Template) → IsSoundTemplate sig p x → IsTemplateOf sig p (template_text sig x) x
    template-readable x r =
        let again = printed_expr-again (template_spelling sig x)
        (HasNames-template_spelling sig has p (name-variables sig p formed) x r.formed)
        (Fits-template_spelling sig has p (name-variables sig p formed) x MAX_DEPTH r.formed r.shallow) in
        let e = again.0 in
        let spells = template-alike sig has p x e r.formed again.2 in
        let vs = use_variables p in
        record {
          syntax_tree = e;
          syntax = subst (λ l. IsExprOf l e) (sym (template_text-spelling sig x)) again.1;
          faultless = nil-both (fault_if (is_large_template e) _ (start e)) (whole_template_faults vs sig e)
              (none-fault_if (is_large_template e) _ (start e) (is_large_template-spells sig e x spells r.few_nodes))
              (whole_template_faults-spells sig p vs (bound-variable sig p formed)
              (λ y known one. single-variable sig p formed y one) (λ y known. extent-variable sig p formed y) e x spells
              r);
          is = sym (template_of-spells sig e x spells);
        }

    -- a template that is read is read again
    pub template-again : (bytes : List ℕ) (x : Template) → IsTemplateOf sig p bytes x
        → IsTemplateOf sig p (template_text sig x) x
    template-again bytes x b =
        let e = b.syntax_tree in
        let vs = use_variables p in
        let q = both-empty (fault_if (is_large_template e) _ (start e)) (whole_template_faults vs sig e) b.faultless in
        let sound = sound-template_of sig vs p (λ y some bound. variable-bound sig p formed y bound)
        (λ y some bound. extent-variable sig p formed y) (λ y some bound one. variable-single sig p formed y one) e
        (expr-names bytes e b.syntax) b.syntax.fits (nil-fault_if (is_large_template e) _ (start e) q.0) q.1 in
        subst (λ x. IsTemplateOf sig p (template_text sig x) x) (sym b.is) (template-readable (template_of sig e) sound)

  -- ---- conditions

  module _ (scope : Scope) where
    -- what is printed of a condition is read as it
    pub condition-readable : (c : Cond) → IsReadableCondition sig scope c → IsCondOf sig scope (cond_text sig c) c
    condition-readable c r =
        let again = printed_condition-again (cond_spelling sig c)
        (HasNames-cond_spelling sig has scope c r.sound.checked)
        (Fits-cond_spelling sig has scope c r.sound.checked r.shallow) in
        let d = again.0 in
        let syntax : IsConditionOf (cond_text sig c) d =
        subst (λ l. IsConditionOf l d) (sym (cond_text-spelling sig c)) again.1 in
        let place = first_token_place (cond_text sig c) in
        let is = single-again sig scope d c (condition-alike sig has scope c d r.sound.checked again.2) r.sound in
        record {
          syntax_tree = record { start = place; condition = d };
          syntax = (syntax, condition-starts (cond_text sig c) d syntax);
          faultless = nil-both (fault_if (is_large_condition d) _ place) (condition_faults sig scope d)
              (none-fault_if (is_large_condition d) _ place is.small) is.faultless;
          is = sym is.is;
        }

    -- a condition that is read passes the checks
    pub readable-cond : (bytes : List ℕ) (c : Cond) → IsCondOf sig scope bytes c → IsReadableCondition sig scope c
    readable-cond bytes c b =
        let d = b.syntax_tree.condition in
        let place = b.syntax_tree.start in
        let p = both-empty (fault_if (is_large_condition d) _ place) (condition_faults sig scope d) b.faultless in
        let readable : IsReadableCondition sig scope (cond_of sig d) = record {
          sound = scoped-cond_of sig h.signature.ops_in_order scope MAX_OPEN d b.syntax.0.fits
              (condition_bytes-names bytes d b.syntax.0) p.1 (nil-fault_if (is_large_condition d) _ place p.0);
          shallow = shallow-cond_of sig d b.syntax.0.fits;
        } in
        subst (IsReadableCondition sig scope) (sym b.is) readable

    -- it is read again
    pub cond-again : (bytes : List ℕ) (c : Cond) → IsCondOf sig scope bytes c → IsCondOf sig scope (cond_text sig c) c
    cond-again bytes c b = condition-readable c (readable-cond bytes c b)

  -- so is the condition of a sound rule, over any variables
  pub rule_condition-again : (p : Pattern) (c : Cond) → IsFormed sig p → IsSoundCondition sig p c
      → condition_depth c ≤ MAX_DEPTH → IsCondOf sig None (cond_text sig c) c
  rule_condition-again p c formed sound shallow = condition-readable None c (record {
    sound = scoped-condition sig p None (λ x known. name-variables sig p formed x known) (λ x known one. tt) c sound;
    shallow = shallow;
  })
