-- What is printed of terms, patterns, templates and conditions is the text of what they are spelled as.
use Rattle.std.proofs.Common.{◌≡◌, Bool, true, false, cond, List, [], ◌∷◌, ◌++◌, map, length, Some, None, refl}
use Rattle.std.proofs.Common.{sym, ap, ◌∙◌, append_assoc, append-nil, leb}
use Rattle.std.specs.Prelude.{Option, unwrap_or, slice_get, codes}
use Rattle.std.proofs.lemmas.List.{length-map}
use Rattle.mp_io.specs.Devices.{Text}
use Rattle.mp_term.specs.declared.signature.OpDecl.{OpDecl}
use Rattle.mp_term.specs.Tree as term
use Rattle.mp_term.specs.Signature.{Sig}
use Rattle.mp_pattern.specs.PatternTree as pattern
use Rattle.mp_pattern.specs.TemplateTree as template
use Rattle.mp_pattern.specs.declared.condition.Sense as compared
use Rattle.mp_pattern.specs.declared.condition.Sense.TheVariants as way
use Rattle.mp_pattern.specs.CondTree as cond
use Rattle.mp_parser.specs.declared.token.Punct.{Punct}
use Rattle.mp_parser.specs.declared.token.Punct.TheVariants.{Close}
use Rattle.mp_parser.specs.Tokens.{first_place, byte_of}
use Rattle.mp_parser.specs.Syntax.{Apply, InfixOf, Trees, no_trees, more_trees, tree_list}
use Rattle.mp_parser.specs.Syntax.{Literal, AtomOf, Bracketed, sense_sign}
use Rattle.mp_syntax.specs.Printed as syntax
use Rattle.mp_syntax.specs.Printed.{literal_text, literals_text, alternatives_text, condition_text}
use Rattle.mp_syntax.specs.Printed.{tree_text, first_text, others_text}
use Rattle.mp_print.specs.PrintedCond.{sense_text, measure_text, relation_text, operand_text, amount_text, op_name_text}
use Rattle.mp_print.specs.PrintedCond.{part_text, part_texts, cond_text}
use Rattle.mp_print.specs.Printing.{kind_name_text, separated, preceded, prefix_text, infix_text, application_text}
use Rattle.mp_print.specs.Printing.{held_text, term_text, term_texts}
use Rattle.mp_print.specs.PrintedPattern.{shape_text, pattern_text, pattern_texts}
use Rattle.mp_print.specs.PrintedTemplate.{template_text, template_texts}
use Rattle.mp_round_trip.specs.Spelled.{piece, application_spelling, held_spelling, term_spelling, term_spellings}
use Rattle.mp_round_trip.specs.Spelled.{wildcard_spelling, pattern_spelling, pattern_spellings, template_spelling}
use Rattle.mp_round_trip.specs.Spelled.{template_spellings, sense_spelling}
use Rattle.mp_round_trip.specs.Spelled.{single_literal, single_alternative, negated_spelling, alternative_part}
use Rattle.mp_round_trip.specs.Spelled.{operand_spelling, amount_spelling, literal_spelling, literal_spellings}
use Rattle.mp_round_trip.specs.Spelled.{alternative_spellings, cond_spelling}

-- ---- applications

-- the texts of expressions
abbrev pub tree_texts : Trees → List Text
tree_texts ts = map tree_text (tree_list ts)

-- the texts with a separator before each, and the bracket that closes
preceded-others : (separator : Text) (ending : Punct) (ts : Trees)
    → preceded separator (tree_texts ts) ++ byte_of ending ∷ [] ≡ others_text separator ending ts
preceded-others separator ending no_trees = refl
preceded-others separator ending (more_trees t ts) =
    append_assoc separator (tree_text t ++ preceded separator (tree_texts ts)) (byte_of ending ∷ [])
    ∙ ap (λ l. separator ++ l)
    (append_assoc (tree_text t) (preceded separator (tree_texts ts)) (byte_of ending ∷ [])
    ∙ ap (λ l. tree_text t ++ l) (preceded-others separator ending ts))

-- the texts with a separator between each two, and the bracket that closes
pub separated-first : (separator : Text) (ending : Punct) (ts : Trees)
    → separated separator (tree_texts ts) ++ byte_of ending ∷ [] ≡ first_text separator ending ts
separated-first separator ending no_trees = refl
separated-first separator ending (more_trees t ts) =
    append_assoc (tree_text t) (preceded separator (tree_texts ts)) (byte_of ending ∷ [])
    ∙ ap (λ l. tree_text t ++ l) (preceded-others separator ending ts)

-- an application is printed as it is spelled
application_text-spelling : (d : OpDecl) (sign : Option Text) (ts : Trees)
    → application_text d sign (tree_texts ts) ≡ tree_text (application_spelling d sign ts)
application_text-spelling d None ts = ap (λ l. d.name ++ (codes "(" ++ l)) (separated-first (codes ", ") Close ts)
application_text-spelling d (Some sign) ts =
    ap (λ n. cond (leb 2 n) (infix_text sign (tree_texts ts)) (prefix_text d (tree_texts ts)))
    (length-map (tree_list ts) tree_text) ∙ go (leb 2 (length (tree_list ts)))
  where
    go : (v : Bool) → cond v (infix_text sign (tree_texts ts)) (prefix_text d (tree_texts ts))
        ≡ tree_text (cond v (InfixOf first_place (piece sign) ts) (Apply (piece d.name) ts))
    go true = ap (λ l. codes "(" ++ l) (separated-first (codes " " ++ (sign ++ codes " ")) Close ts)
    go false = ap (λ l. d.name ++ (codes "(" ++ l)) (separated-first (codes ", ") Close ts)

held_text-spelling : (o : Option OpDecl) (ts : Trees) → held_text o (tree_texts ts) ≡ tree_text (held_spelling o ts)
held_text-spelling None ts = refl
held_text-spelling (Some d) ts = application_text-spelling d d.sign ts

-- ---- terms

mutual
  pub term_text-spelling : (sig : Sig) (t : term.Tree) → term_text sig t ≡ tree_text (term_spelling sig t)
  term_text-spelling sig (term.symbol n) = refl
  term_text-spelling sig (term.app f ts) = ap (held_text (slice_get sig.ops f)) (term_texts-spellings sig ts)
      ∙ held_text-spelling (slice_get sig.ops f) (term_spellings sig ts)

  pub term_texts-spellings : (sig : Sig) (ts : term.Trees) → term_texts sig ts ≡ tree_texts (term_spellings sig ts)
  term_texts-spellings sig term.no_trees = refl
  term_texts-spellings sig (term.more_trees t ts) = λ i. term_text-spelling sig t i ∷ term_texts-spellings sig ts i

-- ---- patterns

wildcard_text-spelling : (sig : Sig) (w : pattern.Wildcard) (x : Text)
    → x ++ shape_text sig w ≡ tree_text (wildcard_spelling sig w x)
wildcard_text-spelling sig pattern.dot x = refl
wildcard_text-spelling sig (pattern.kind k) x = refl
wildcard_text-spelling sig pattern.plus x = refl
wildcard_text-spelling sig pattern.star x = refl
wildcard_text-spelling sig (pattern.counted n true) x = sym (simp append_assoc)
wildcard_text-spelling sig (pattern.counted n false) x = sym (simp append_assoc)
wildcard_text-spelling sig (pattern.optional t) x = ap (λ l. x ++ (codes "_:" ++ l)) (term_text-spelling sig t)
    ∙ sym (simp append_assoc)

mutual
  pub pattern_text-spelling : (sig : Sig) (p : pattern.Pattern)
      → pattern_text sig p ≡ tree_text (pattern_spelling sig p)
  pattern_text-spelling sig (pattern.symbol_pattern n) = refl
  pattern_text-spelling sig (pattern.app_pattern f ps) =
      ap (held_text (slice_get sig.ops f)) (pattern_texts-spellings sig ps)
      ∙ held_text-spelling (slice_get sig.ops f) (pattern_spellings sig ps)
  pattern_text-spelling sig (pattern.wild_pattern w x) = wildcard_text-spelling sig w (unwrap_or x [])

  pattern_texts-spellings : (sig : Sig) (ps : pattern.Patterns)
      → pattern_texts sig ps ≡ tree_texts (pattern_spellings sig ps)
  pattern_texts-spellings sig pattern.no_patterns = refl
  pattern_texts-spellings sig (pattern.more_patterns p ps) =
      λ i. pattern_text-spelling sig p i ∷ pattern_texts-spellings sig ps i

-- ---- templates

mutual
  pub template_text-spelling : (sig : Sig) (x : template.Template)
      → template_text sig x ≡ tree_text (template_spelling sig x)
  template_text-spelling sig (template.symbol_template n) = refl
  template_text-spelling sig (template.app_template f xs) =
      ap (held_text (slice_get sig.ops f)) (template_texts-spellings sig xs)
      ∙ held_text-spelling (slice_get sig.ops f) (template_spellings sig xs)
  template_text-spelling sig (template.variable_template x) = refl

  template_texts-spellings : (sig : Sig) (xs : template.Templates)
      → template_texts sig xs ≡ tree_texts (template_spellings sig xs)
  template_texts-spellings sig template.no_templates = refl
  template_texts-spellings sig (template.more_templates x xs) =
      λ i. template_text-spelling sig x i ∷ template_texts-spellings sig xs i

-- ---- conditions

operand_text-spelling : (sig : Sig) (a : cond.Operand) → operand_text sig a ≡ tree_text (operand_spelling sig a)
operand_text-spelling sig (cond.var x) = refl
operand_text-spelling sig (cond.ground t) = term_text-spelling sig t

amount_text-spelling : (sig : Sig) (m : cond.Amount) → amount_text sig m ≡ syntax.amount_text (amount_spelling sig m)
amount_text-spelling sig (cond.fixed n) = refl
amount_text-spelling sig (cond.count a) = ap (measure_text (codes "count")) (operand_text-spelling sig a)
amount_text-spelling sig (cond.size a) = ap (measure_text (codes "size")) (operand_text-spelling sig a)

sense_text-spelling : (c : compared.Sense) → sense_text c ≡ sense_sign (sense_spelling c)
sense_text-spelling way.Lt = refl
sense_text-spelling way.Le = refl
sense_text-spelling way.Gt = refl
sense_text-spelling way.Ge = refl
sense_text-spelling way.Eq = refl
sense_text-spelling way.Ne = refl

relation_text-spelling : (sig : Sig) (word : Text) (a b : cond.Operand)
    → relation_text word (operand_text sig a) (operand_text sig b)
    ≡ relation_text word (tree_text (operand_spelling sig a)) (tree_text (operand_spelling sig b))
relation_text-spelling sig word a b = λ i.
    relation_text word (operand_text-spelling sig a i) (operand_text-spelling sig b i)

property_text-spelling : (sig : Sig) (word : Text) (a : cond.Operand) (name : Text)
    → relation_text word (operand_text sig a) name ≡ relation_text word (tree_text (operand_spelling sig a)) name
property_text-spelling sig word a name = ap (λ l. relation_text word l name) (operand_text-spelling sig a)

-- the condition isn't made of others
abbrev IsAtom : cond.Cond → Type 0
IsAtom (cond.negation c) = ⊥
IsAtom (cond.all_of cs) = ⊥
IsAtom (cond.any_of cs) = ⊥
IsAtom _ = Unit {0}

-- such a condition is printed as its literal
atom_text-spelling : (sig : Sig) (c : cond.Cond) → IsAtom c → cond_text sig c ≡ literal_text (literal_spelling sig c)
atom_text-spelling sig (cond.amounts m c n) h =
    λ i. amount_text-spelling sig m i
    ++ (codes " " ++ (sense_text-spelling c i ++ (codes " " ++ amount_text-spelling sig n i)))
atom_text-spelling sig (cond.same a b) h = relation_text-spelling sig (codes "same") a b
atom_text-spelling sig (cond.less a b) h = relation_text-spelling sig (codes "less") a b
atom_text-spelling sig (cond.free a b) h = relation_text-spelling sig (codes "free") a b
atom_text-spelling sig (cond.of_kind a k) h = property_text-spelling sig (codes "kind") a (kind_name_text sig k)
atom_text-spelling sig (cond.headed a f) h = property_text-spelling sig (codes "head") a (op_name_text sig f)
atom_text-spelling sig _ h = absurd h

-- a literal alone
single-text : (l : Literal) → alternatives_text [] (single_alternative (single_literal l)) ≡ literal_text l
single-text l = append-nil (literals_text [] (single_literal l)) ∙ append-nil (literal_text l)

-- a second `not` stands before square brackets
pub negated-twice : (l : Literal) → negated_spelling (negated_spelling l)
    ≡ Bracketed true (single_alternative (single_literal (negated_spelling l)))
negated-twice (AtomOf true a) = refl
negated-twice (AtomOf false a) = refl
negated-twice (Bracketed true c) = refl
negated-twice (Bracketed false c) = refl

-- a text in square brackets
abbrev bracketed : Text → Text
bracketed text = codes "[" ++ (text ++ codes "]")

mutual
  -- a part of a conjunction is printed as its literal
  literal_text-spelling : (sig : Sig) (c : cond.Cond)
      → part_text 2 c (cond_text sig c) ≡ literal_text (literal_spelling sig c)
  literal_text-spelling sig (cond.negation c) = negation_text-spelling sig c
  literal_text-spelling sig (cond.all_of cs) = ap bracketed (all_text-spelling sig cs)
  literal_text-spelling sig (cond.any_of cs) = ap bracketed (any_text-spelling sig cs)
  literal_text-spelling sig c = atom_text-spelling sig c tt

  -- a negation is printed as its literal
  negation_text-spelling : (sig : Sig) (c : cond.Cond)
      → codes "not " ++ part_text 3 c (cond_text sig c) ≡ literal_text (negated_spelling (literal_spelling sig c))
  negation_text-spelling sig (cond.negation c) =
      ap (λ l. codes "not " ++ bracketed l) (negation_text-spelling sig c
      ∙ sym (single-text (negated_spelling (literal_spelling sig c))))
      ∙ sym (ap literal_text (negated-twice (literal_spelling sig c)))
  negation_text-spelling sig (cond.all_of cs) = ap (λ l. codes "not " ++ bracketed l) (all_text-spelling sig cs)
  negation_text-spelling sig (cond.any_of cs) = ap (λ l. codes "not " ++ bracketed l) (any_text-spelling sig cs)
  negation_text-spelling sig c = ap (λ l. codes "not " ++ l) (atom_text-spelling sig c tt)

  -- a conjunction is printed as an alternative of its literals
  all_text-spelling : (sig : Sig) (cs : cond.Conds)
      → separated (codes " and ") (part_texts sig 2 cs)
      ≡ alternatives_text [] (single_alternative (literal_spellings sig cs))
  all_text-spelling sig cond.no_conds = refl
  all_text-spelling sig (cond.more_conds c cs) =
      (λ i. literal_text-spelling sig c i ++ literals_text-spellings sig cs i) ∙ sym (append-nil _)

  literals_text-spellings : (sig : Sig) (cs : cond.Conds)
      → preceded (codes " and ") (part_texts sig 2 cs) ≡ literals_text (codes " and ") (literal_spellings sig cs)
  literals_text-spellings sig cond.no_conds = refl
  literals_text-spellings sig (cond.more_conds c cs) =
      λ i. codes " and " ++ (literal_text-spelling sig c i ++ literals_text-spellings sig cs i)

  -- a disjunction is printed as its alternatives
  any_text-spelling : (sig : Sig) (cs : cond.Conds)
      → separated (codes " or ") (part_texts sig 1 cs) ≡ alternatives_text [] (alternative_spellings sig cs)
  any_text-spelling sig cond.no_conds = refl
  any_text-spelling sig (cond.more_conds c cs) =
      λ i. alternative_text-spelling sig c i ++ alternatives_text-spellings sig cs i

  alternatives_text-spellings : (sig : Sig) (cs : cond.Conds)
      → preceded (codes " or ") (part_texts sig 1 cs) ≡ alternatives_text (codes " or ") (alternative_spellings sig cs)
  alternatives_text-spellings sig cond.no_conds = refl
  alternatives_text-spellings sig (cond.more_conds c cs) =
      λ i. codes " or " ++ (alternative_text-spelling sig c i ++ alternatives_text-spellings sig cs i)

  -- a part of a disjunction is printed as its alternative
  alternative_text-spelling : (sig : Sig) (c : cond.Cond)
      → part_text 1 c (cond_text sig c) ≡ literals_text [] (alternative_part c (literal_spelling sig c))
  alternative_text-spelling sig (cond.negation c) = negation_text-spelling sig c ∙ sym (append-nil _)
  alternative_text-spelling sig (cond.all_of cs) = all_text-spelling sig cs ∙ append-nil _
  alternative_text-spelling sig (cond.any_of cs) = ap bracketed (any_text-spelling sig cs) ∙ sym (append-nil _)
  alternative_text-spelling sig c = atom_text-spelling sig c tt ∙ sym (append-nil _)

-- a condition is printed as it is spelled
pub cond_text-spelling : (sig : Sig) (c : cond.Cond) → cond_text sig c ≡ condition_text (cond_spelling sig c)
cond_text-spelling sig (cond.negation c) =
    negation_text-spelling sig c ∙ sym (single-text (negated_spelling (literal_spelling sig c)))
cond_text-spelling sig (cond.all_of cs) = all_text-spelling sig cs
cond_text-spelling sig (cond.any_of cs) = any_text-spelling sig cs
cond_text-spelling sig c = atom_text-spelling sig c tt ∙ sym (single-text (literal_spelling sig c))
