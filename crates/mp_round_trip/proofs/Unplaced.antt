-- What is the spelling of a term, a pattern, a template or a condition, apart from places, spells it.
use Rattle.std.proofs.Common.{◌≡◌, ℕ, Bool, true, false, [], ◌∷◌, Option, Some, None, option_map, unwrap_or, refl, sym}
use Rattle.std.proofs.Common.{ap, ◌∙◌, subst, arith}
use Rattle.std.specs.Prelude.{slice_get, decimal}
use Rattle.std.proofs.lemmas.Bool.{and_parts}
use Rattle.mp_io.specs.Devices.{Text}
use Rattle.mp_term.specs.declared.signature.OpDecl.{OpDecl}
use Rattle.mp_term.specs.Tree as term
use Rattle.mp_term.specs.Signature.{Sig, holds_of, well_formed, all_well_formed}
use Rattle.mp_pattern.specs.PatternTree as pattern
use Rattle.mp_pattern.specs.TemplateTree as template
use Rattle.mp_pattern.specs.CondTree.{Operand, var, ground, fixed, count, size, Cond, amounts, less, free, of_kind}
use Rattle.mp_pattern.specs.CondTree.{headed, negation, all_of, any_of, Conds, no_conds, more_conds}
use Rattle.mp_pattern.specs.CondTree as cond
use Rattle.mp_pattern.specs.SoundRule.{IsSoundWildcard, IsVariable, IsFormed, AreFormed, IsFormedTemplate}
use Rattle.mp_pattern.specs.SoundRule.{AreFormedTemplates, HasSoundTemplate, AreSeveral}
use Rattle.mp_parser.specs.declared.condition_tree.Measure.TheVariants.{Count, Size}
use Rattle.mp_pattern.specs.declared.condition.Sense.{Sense}
use Rattle.mp_pattern.specs.declared.condition.Sense.TheVariants.{Lt, Le, Gt, Ge, Eq, Ne}
use Rattle.mp_parser.specs.declared.condition_tree.Relation.TheVariants.{Same, Less, Free}
use Rattle.mp_parser.specs.declared.condition_tree.Property.TheVariants as properties
use Rattle.mp_parser.specs.declared.place.Place.{Place}
use Rattle.mp_parser.specs.Tokens.{first_place}
use Rattle.mp_parser.specs.Syntax.{Spot, Wildcard, Tree, Symbol, Apply, InfixOf, Wild, Counted, Optional, Variable}
use Rattle.mp_parser.specs.Syntax.{Trees, no_trees, more_trees, Amount, Number, Measured, Compare, Relate, Test}
use Rattle.mp_parser.specs.Syntax.{Literal}
use Rattle.mp_parser.specs.Syntax.{AtomOf, Bracketed, Literals, no_literals, more_literals, Condition, no_alternatives}
use Rattle.mp_parser.specs.Syntax.{more_alternatives}
use Rattle.mp_syntax.specs.Printed.{unplaced_template, unplaced_spot, unplaced_wildcard, unplaced_tree, unplaced_trees}
use Rattle.mp_syntax.specs.Printed.{unplaced_amount}
use Rattle.mp_syntax.specs.Printed.{unplaced_literal, unplaced_literals, unplaced_condition, unplaced_if}
use Rattle.mp_build.specs.Build.{op_number, sign_number, kind_number, variable_of}
use Rattle.mp_build.specs.Conditions.{sense_of, joined}
use Rattle.mp_build.specs.Names.{number_of}
use Rattle.mp_build.specs.Scope.{Scope}
use Rattle.mp_build.specs.SoundCondition.{IsScopedOperand, IsScopedAmount, IsScoped, AreScoped}
use Rattle.mp_print.specs.Printing.{kind_name_text}
use Rattle.mp_print.specs.PrintedCond.{op_name_text}
use Rattle.mp_round_trip.specs.Spelled.{piece, wildcard_piece, held_spelling, term_spelling, term_spellings}
use Rattle.mp_round_trip.specs.Spelled.{wildcard_spelling, pattern_spelling, pattern_spellings, template_spelling}
use Rattle.mp_round_trip.specs.Spelled.{template_spellings, sense_spelling}
use Rattle.mp_round_trip.specs.Spelled.{single_literal, single_alternative, negated_spelling, operand_spelling}
use Rattle.mp_round_trip.specs.Spelled.{amount_spelling, literal_spelling, literal_spellings, alternative_spellings}
use Rattle.mp_round_trip.specs.Spelled.{cond_spelling}
use Rattle.mp_round_trip.proofs.SpelledHead.{HasOps, held-kind, held-op, held_spelling-cases, op_number-held}
use Rattle.mp_round_trip.proofs.SpelledHead.{sign_number-held}
use Rattle.mp_round_trip.proofs.SpelledDeclarations.{number-written}
use Rattle.mp_round_trip.proofs.ScopedCondition.{HasScopedCondition}
use Rattle.mp_round_trip.proofs.Spells.{SpellsTerm, SpellTerms, marks_of, SpellsKind, SpellsWildcard, SpellsPattern}
use Rattle.mp_round_trip.proofs.Spells.{SpellsTemplate, SpellTemplates, SpellsArrow, SpellPatterns, SpellsOperand}
use Rattle.mp_round_trip.proofs.Spells.{SpellsAmount, SpellsLiteral, SpellLiterals}
use Rattle.mp_round_trip.proofs.Spells.{SpellAlternatives, SpellsCondition, SpellsIf}

-- words and wildcards that are one apart from places have one text
pub text-alike : (v w : Spot) → unplaced_spot v ≡ unplaced_spot w → v.text ≡ w.text
text-alike v w e = ap (λ s. s.text) e

-- what a spelling of operands that is checked is joined of
parts-several : (join : Conds → Cond) (cs : Conds) → AreSeveral cs → joined join cs ≡ join cs
parts-several join no_conds h = absurd h
parts-several join (more_conds c no_conds) h = absurd h
parts-several join (more_conds c (more_conds d cs)) h = refl

sense-again : (c : Sense) → sense_of (sense_spelling c) ≡ c
sense-again Lt = refl
sense-again Le = refl
sense-again Gt = refl
sense-again Ge = refl
sense-again Eq = refl
sense-again Ne = refl

-- the signature's operations are found by their names and signs, and its kinds by their names
module _ (sig : Sig) (has : HasOps sig) where
  -- an operation that passes a test is held
  held-passing : (f : ℕ) (test : OpDecl → Bool) → holds_of test (slice_get sig.ops f) ≡ true
      → (d : OpDecl) × (slice_get sig.ops f ≡ Some d)
  held-passing f test h = go (slice_get sig.ops f) refl h
    where
      go : (o : Option OpDecl) → slice_get sig.ops f ≡ o → holds_of test o ≡ true
          → (d : OpDecl) × (slice_get sig.ops f ≡ Some d)
      go None e h = cc
      go (Some d) e h = (d, e)

  -- what is an application apart from places stands behind the name of its operation, or around its sign
  alike-held : (P : Tree → Type 0) (f : ℕ) (test : OpDecl → Bool) → holds_of test (slice_get sig.ops f) ≡ true
      → (ts : Trees)
      → ((g : Spot) (args : Trees) → op_number sig g.text ≡ Some f → unplaced_trees args ≡ unplaced_trees ts
      → P (Apply g args))
      → ((opened : Place) (sign : Spot) (operands : Trees) → sign_number sig sign.text ≡ Some f
      → unplaced_trees operands ≡ unplaced_trees ts → P (InfixOf opened sign operands))
      → (e : Tree) → unplaced_tree e ≡ unplaced_tree (held_spelling (slice_get sig.ops f) ts) → P e
  alike-held P f test h ts before between e alike =
      let d = held-passing f test h in
      held_spelling-cases (λ s. unplaced_tree e ≡ unplaced_tree s → P e) (slice_get sig.ops f) d.0 ts d.1
      (apply d.0 d.1 e) (λ sign own some. infixed d.0 d.1 sign own e) alike
    where
      apply : (d : OpDecl) → slice_get sig.ops f ≡ Some d → (e : Tree)
          → unplaced_tree e ≡ unplaced_tree (Apply (piece d.name) ts) → P e
      apply d here (Apply g args) k =
          let name : unplaced_spot g ≡ unplaced_spot (piece d.name) = cc in
          before g args (ap (op_number sig) (text-alike g (piece d.name) name) ∙ op_number-held sig has f d here) cc
      apply d here _ k = absurd cc

      infixed : (d : OpDecl) → slice_get sig.ops f ≡ Some d → (sign : Text) → d.sign ≡ Some sign → (e : Tree)
          → unplaced_tree e ≡ unplaced_tree (InfixOf first_place (piece sign) ts) → P e
      infixed d here sign own (InfixOf opened s operands) k =
          let text : unplaced_spot s ≡ unplaced_spot (piece sign) = cc in
          between opened s operands (ap (sign_number sig) (text-alike s (piece sign) text)
          ∙ sign_number-held sig has f d here sign own) cc
      infixed d here sign own _ k = absurd cc

  -- ---- expressions

  mutual
    pub term-alike : (t : term.Tree) (e : Tree) → well_formed sig t ≡ true
        → unplaced_tree e ≡ unplaced_tree (term_spelling sig t) → SpellsTerm sig e t
    term-alike (term.symbol n) (Symbol w) h alike = let word : unplaced_spot w ≡ unplaced_spot (piece n) = cc in
        text-alike w (piece n) word
    term-alike (term.symbol n) _ h alike = absurd cc
    term-alike (term.app f ts) e h alike =
        let p = and_parts _ _ h in
        alike-held (λ e. SpellsTerm sig e (term.app f ts)) f _ p.0 (term_spellings sig ts)
        (λ g args found k. (found, terms-alike ts args p.1 k))
        (λ opened sign operands found k. (found, terms-alike ts operands p.1 k)) e alike

    terms-alike : (ts : term.Trees) (es : Trees) → all_well_formed sig ts ≡ true
        → unplaced_trees es ≡ unplaced_trees (term_spellings sig ts) → SpellTerms sig es ts
    terms-alike term.no_trees no_trees h alike = tt
    terms-alike term.no_trees (more_trees e es) h alike = absurd cc
    terms-alike (term.more_trees t ts) no_trees h alike = absurd cc
    terms-alike (term.more_trees t ts) (more_trees e es) h alike = let p = and_parts _ _ h in
        (term-alike t e p.0 cc, terms-alike ts es p.1 cc)

  variable-alike : (name : Text) (x : Option Text) → IsVariable sig x → name ≡ unwrap_or x [] → variable_of name ≡ x
  variable-alike name None h e = ap variable_of e
  variable-alike name (Some []) h e = cc
  variable-alike name (Some (b ∷ bs)) h e = ap variable_of e

  -- a wildcard that is one apart from its place
  marks-alike : (w : Wildcard) (v : pattern.Wildcard) (x : Option Text) (kind : Text) → IsVariable sig x
      → SpellsKind sig kind v → unplaced_wildcard w
      ≡ unplaced_wildcard (wildcard_piece (unwrap_or x []) (marks_of v) kind) → SpellsWildcard sig w v x
  marks-alike w v x kind h spells alike = (
    variable-alike w.name x h (ap (λ w. w.name) alike),
    ap (λ w. w.marks) alike,
    subst (λ k. SpellsKind sig k v)
        (sym (ap (λ w. w.kind) alike)) spells,
  )

  wildcard-alike : (v : pattern.Wildcard) (x : Option Text) (e : Tree) → IsSoundWildcard sig v → IsVariable sig x
      → unplaced_tree e ≡ unplaced_tree (wildcard_spelling sig v (unwrap_or x []))
      → SpellsPattern sig e (pattern.wild_pattern v x)
  wildcard-alike pattern.dot x (Wild w) h n alike = marks-alike w pattern.dot x [] n refl cc
  wildcard-alike (pattern.kind k) x (Wild w) h n alike =
      let held = held-kind sig has k h in
      marks-alike w (pattern.kind k) x (kind_name_text sig k) n (held.name.is_word.some, held.found) cc
  wildcard-alike pattern.plus x (Wild w) h n alike = marks-alike w pattern.plus x [] n refl cc
  wildcard-alike pattern.star x (Wild w) h n alike = marks-alike w pattern.star x [] n refl cc
  wildcard-alike (pattern.counted c only) x (Counted w digits more) h n alike =
      let same : unplaced_spot digits ≡ unplaced_spot (piece (decimal c)) = cc in (
        marks-alike w (pattern.counted c only) x [] n refl cc,
        ap number_of (text-alike digits (piece (decimal c)) same)
            ∙ (number-written c (omega (arith, h.1))).writes.value,
        cc,
      )
  wildcard-alike (pattern.optional t) x (Optional w [] e) h n alike =
      (marks-alike w (pattern.optional t) x [] n refl cc, term-alike t e h.formed cc)
  wildcard-alike _ x _ h n alike = absurd cc

  mutual
    pub pattern-alike : (p : pattern.Pattern) (e : Tree) → IsFormed sig p
        → unplaced_tree e ≡ unplaced_tree (pattern_spelling sig p) → SpellsPattern sig e p
    pattern-alike (pattern.symbol_pattern n) (Symbol w) h alike = let word : unplaced_spot w ≡ unplaced_spot (piece n) =
        cc in text-alike w (piece n) word
    pattern-alike (pattern.symbol_pattern n) _ h alike = absurd cc
    pattern-alike (pattern.app_pattern f ps) e h alike =
        alike-held (λ e. SpellsPattern sig e (pattern.app_pattern f ps)) f _ h.0 (pattern_spellings sig ps)
        (λ g args found k. (found, patterns-alike ps args h.1 k))
        (λ opened sign operands found k. (found, patterns-alike ps operands h.1 k)) e alike
    pattern-alike (pattern.wild_pattern v x) e h alike = wildcard-alike v x e h.0 h.1 alike

    patterns-alike : (ps : pattern.Patterns) (es : Trees) → AreFormed sig ps
        → unplaced_trees es ≡ unplaced_trees (pattern_spellings sig ps) → SpellPatterns sig es ps
    patterns-alike pattern.no_patterns no_trees h alike = tt
    patterns-alike pattern.no_patterns (more_trees e es) h alike = absurd cc
    patterns-alike (pattern.more_patterns p ps) no_trees h alike = absurd cc
    patterns-alike (pattern.more_patterns p ps) (more_trees e es) h alike =
        (pattern-alike p e h.0 cc, patterns-alike ps es h.1 cc)

  -- ---- templates

  module _ (p : pattern.Pattern) where
    mutual
      pub template-alike : (x : template.Template) (e : Tree) → IsFormedTemplate sig p x
          → unplaced_tree e ≡ unplaced_tree (template_spelling sig x) → SpellsTemplate sig e x
      template-alike (template.symbol_template n) (Symbol w) h alike =
          let word : unplaced_spot w ≡ unplaced_spot (piece n) = cc in text-alike w (piece n) word
      template-alike (template.symbol_template n) _ h alike = absurd cc
      template-alike (template.app_template f xs) e h alike =
          alike-held (λ e. SpellsTemplate sig e (template.app_template f xs)) f _ h.0 (template_spellings sig xs)
          (λ g args found k. (found, templates-alike xs args h.1 k))
          (λ opened sign operands found k. (found, templates-alike xs operands h.1 k)) e alike
      template-alike (template.variable_template x) (Variable w) h alike =
          let word : unplaced_spot w ≡ unplaced_spot (piece x) = cc in text-alike w (piece x) word
      template-alike (template.variable_template x) _ h alike = absurd cc

      templates-alike : (xs : template.Templates) (es : Trees) → AreFormedTemplates sig p xs
          → unplaced_trees es ≡ unplaced_trees (template_spellings sig xs) → SpellTemplates sig es xs
      templates-alike template.no_templates no_trees h alike = tt
      templates-alike template.no_templates (more_trees e es) h alike = absurd cc
      templates-alike (template.more_templates x xs) no_trees h alike = absurd cc
      templates-alike (template.more_templates x xs) (more_trees e es) h alike =
          (template-alike x e h.0 cc, templates-alike xs es h.1 cc)

    pub arrow-alike : (o : Option template.Template) (d : Option Tree) → HasSoundTemplate sig p o
        → unplaced_template d ≡ unplaced_template (option_map (template_spelling sig) o) → SpellsArrow sig d o
    arrow-alike None None h alike = tt
    arrow-alike (Some x) (Some e) h alike = template-alike x e h.formed cc
    arrow-alike _ _ h alike = absurd cc

  -- ---- conditions

  module _ (scope : Scope) where
    operand-alike : (a : Operand) (e : Tree) → IsScopedOperand sig scope a
        → unplaced_tree e ≡ unplaced_tree (operand_spelling sig a) → SpellsOperand sig e a
    operand-alike (var n) (Variable x) h alike = let word : unplaced_spot x ≡ unplaced_spot (piece n) = cc in
        text-alike x (piece n) word
    operand-alike (var n) _ h alike = absurd cc
    operand-alike (ground t) (Variable x) h alike = absurd (term-alike t (Variable x) h.formed alike)
    operand-alike (ground t) e h alike = term-alike t e h.formed alike

    amount-alike : (a : cond.Amount) (m : Amount) → IsScopedAmount sig scope a
        → unplaced_amount m ≡ unplaced_amount (amount_spelling sig a) → SpellsAmount sig m a
    amount-alike (fixed n) (Number w) h alike =
        let word : unplaced_spot w ≡ unplaced_spot (piece (decimal n)) = cc in
        ap number_of (text-alike w (piece (decimal n)) word) ∙ (number-written n h).writes.value
    amount-alike (fixed n) _ h alike = absurd cc
    amount-alike (count a) (Measured Count e) h alike = operand-alike a e h cc
    amount-alike (count a) _ h alike = absurd cc
    amount-alike (size a) (Measured Size e) h alike = operand-alike a e h cc
    amount-alike (size a) _ h alike = absurd cc

    -- what is apart from places a literal in brackets behind `not`, or a literal with a `not`, is one with a further
    -- `not`
    bracketed-alike : (c : Cond) (m l : Literal)
        → ((k : Literal) → unplaced_literal k ≡ unplaced_literal m → SpellsLiteral sig k c)
        → unplaced_literal l ≡ unplaced_literal (Bracketed true (single_alternative (single_literal m)))
        → SpellsLiteral sig l (negation c)
    bracketed-alike c m (Bracketed true (more_alternatives (more_literals k no_literals) no_alternatives)) ih alike =
        (more_conds c no_conds, refl, ((more_conds c no_conds, refl, (ih k cc, tt)), tt))
    bracketed-alike c m _ ih alike = absurd cc

    negated-alike : (c : Cond) (m l : Literal)
        → ((k : Literal) → unplaced_literal k ≡ unplaced_literal m → SpellsLiteral sig k c)
        → unplaced_literal l ≡ unplaced_literal (negated_spelling m) → SpellsLiteral sig l (negation c)
    negated-alike c (AtomOf false a) (AtomOf true b) ih alike = ih (AtomOf false b) cc
    negated-alike c (AtomOf false a) _ ih alike = absurd cc
    negated-alike c (Bracketed false d) (Bracketed true e) ih alike = ih (Bracketed false e) cc
    negated-alike c (Bracketed false d) _ ih alike = absurd cc
    negated-alike c (AtomOf true a) l ih alike = bracketed-alike c (AtomOf true a) l ih alike
    negated-alike c (Bracketed true d) l ih alike = bracketed-alike c (Bracketed true d) l ih alike

    mutual
      literal-alike : (c : Cond) (l : Literal) → IsScoped sig scope c
          → unplaced_literal l ≡ unplaced_literal (literal_spelling sig c) → SpellsLiteral sig l c
      literal-alike (amounts x s y) (AtomOf false (Compare m k n)) h alike =
          let sign : k ≡ sense_spelling s = cc in
          (amount-alike x m h.0 cc, ap sense_of sign ∙ sense-again s, amount-alike y n h.1 cc)
      literal-alike (cond.same a b) (AtomOf false (Relate Same e d)) h alike =
          (operand-alike a e h.0 cc, operand-alike b d h.1 cc)
      literal-alike (less a b) (AtomOf false (Relate Less e d)) h alike =
          (operand-alike a e h.0.0 cc, operand-alike b d h.1.0 cc)
      literal-alike (free a b) (AtomOf false (Relate Free e d)) h alike =
          (operand-alike a e h.0 cc, operand-alike b d h.1 cc)
      literal-alike (of_kind a k) (AtomOf false (Test properties.Kind e w)) h alike =
          let name : unplaced_spot w ≡ unplaced_spot (piece (kind_name_text sig k)) = cc in (
            operand-alike a e h.0 cc,
            ap (kind_number sig) (text-alike w (piece (kind_name_text sig k)) name)
                ∙ (held-kind sig has k h.1).found,
          )
      literal-alike (headed a f) (AtomOf false (Test properties.Head e w)) h alike =
          let name : unplaced_spot w ≡ unplaced_spot (piece (op_name_text sig f)) = cc in (
            operand-alike a e h.0 cc,
            ap (op_number sig) (text-alike w (piece (op_name_text sig f)) name)
                ∙ (held-op sig has f h.1).found,
          )
      literal-alike (negation c) l h alike = negated-alike c (literal_spelling sig c) l (λ k. literal-alike c k h) alike
      literal-alike (all_of cs) (Bracketed false (more_alternatives ls no_alternatives)) h alike =
          (more_conds (all_of cs) no_conds, refl, ((cs, parts-several all_of cs h.0, literals-alike cs ls h.1 cc), tt))
      literal-alike (any_of cs) (Bracketed false d) h alike =
          (cs, parts-several any_of cs h.0, alternatives-alike cs d h.1 cc)
      literal-alike _ _ h alike = absurd cc

      literals-alike : (cs : Conds) (ls : Literals) → AreScoped sig scope cs
          → unplaced_literals ls ≡ unplaced_literals (literal_spellings sig cs) → SpellLiterals sig ls cs
      literals-alike no_conds no_literals h alike = tt
      literals-alike (more_conds c cs) (more_literals l ls) h alike =
          (literal-alike c l h.0 cc, literals-alike cs ls h.1 cc)
      literals-alike _ _ h alike = absurd cc

      alternatives-alike : (cs : Conds) (d : Condition) → AreScoped sig scope cs
          → unplaced_condition d ≡ unplaced_condition (alternative_spellings sig cs) → SpellAlternatives sig d cs
      alternatives-alike no_conds no_alternatives h alike = tt
      alternatives-alike (more_conds (all_of bs) cs) (more_alternatives ls d) h alike =
          ((bs, parts-several all_of bs h.0.0, literals-alike bs ls h.0.1 cc), alternatives-alike cs d h.1 cc)
      alternatives-alike (more_conds c cs) (more_alternatives (more_literals l no_literals) d) h alike =
          ((more_conds c no_conds, refl, (literal-alike c l h.0 cc, tt)), alternatives-alike cs d h.1 cc)
      alternatives-alike _ _ h alike = absurd cc

    pub condition-alike : (c : Cond) (d : Condition) → IsScoped sig scope c
        → unplaced_condition d ≡ unplaced_condition (cond_spelling sig c) → SpellsCondition sig d c
    condition-alike (all_of cs) (more_alternatives ls no_alternatives) h alike =
        (more_conds (all_of cs) no_conds, refl, ((cs, parts-several all_of cs h.0, literals-alike cs ls h.1 cc), tt))
    condition-alike (any_of cs) d h alike = (cs, parts-several any_of cs h.0, alternatives-alike cs d h.1 alike)
    condition-alike c (more_alternatives (more_literals l no_literals) no_alternatives) h alike =
        (more_conds c no_conds, refl, ((more_conds c no_conds, refl, (literal-alike c l h cc, tt)), tt))
    condition-alike _ _ h alike = absurd cc

    pub if-alike : (o : Option Cond) (d : Option Condition) → HasScopedCondition sig scope o
        → unplaced_if d ≡ unplaced_if (option_map (cond_spelling sig) o) → SpellsIf sig d o
    if-alike None None h alike = tt
    if-alike (Some c) (Some d) h alike = condition-alike c d h.checked cc
    if-alike _ _ h alike = absurd cc
