-- Steps of the machine over conditions.
use Rattle.std.proofs.Common.{◌≡◌, ℕ, ◌<◌, cond, List, [], ◌∷◌, Option, Some, None, Result, Ok, Err, true}
use Rattle.std.proofs.Common.{false, refl, ap, sym, ◌∙◌, arith, subst}
use Rattle.std.specs.Prelude.{codes}
use Rattle.std.specs.Borrow.{Bor}
use Rattle.std.proofs.lemmas.Bool.{lt-leb}
use Rattle.mp_parser.specs.declared.limits.TheConstants.{MAX_OPEN}
use Rattle.mp_parser.specs.declared.fault.SyntaxError.{SyntaxError}
use Rattle.mp_parser.specs.declared.token.Punct.TheVariants.{Open, OpenSquare, Semicolon}
use Rattle.mp_parser.specs.declared.condition_tree.Measure.{Measure}
use Rattle.mp_parser.specs.declared.condition_tree.Measure.TheVariants.{Count, Size}
use Rattle.mp_parser.specs.declared.condition_tree.Sense.{Sense}
use Rattle.mp_parser.specs.declared.condition_tree.Sense.TheVariants.{Lt}
use Rattle.mp_parser.specs.declared.condition_tree.Relation.{Relation}
use Rattle.mp_parser.specs.declared.condition_tree.Relation.TheVariants.{Same}
use Rattle.mp_parser.specs.declared.condition_tree.Property.{Property}
use Rattle.mp_parser.specs.declared.condition_tree.Property.TheVariants as properties
use Rattle.mp_parser.specs.declared.condition_tree.Condition as code
use Rattle.mp_parser.specs.View.{if_tree, arrow_tree, expr_tree}
use Rattle.mp_parser.specs.Tokens.{Token, Word, End, Placed}
use Rattle.mp_parser.specs.Lexing.{behind}
use Rattle.mp_parser.specs.Syntax.{Spot, Tree, Literal, condition, Statement, RuleOf, measure_word, sense_sign}
use Rattle.mp_parser.specs.Syntax.{relation_word, property_word}
use Rattle.mp_parser.specs.Machine.{step_in, heading, OfRule, Within, InStatement, InCondition, Frame, Operand}
use Rattle.mp_parser.specs.Machine.{Square, open_count, Level, no_level, next_literal, next_alternative}
use Rattle.mp_parser.specs.Machine.{all_alternatives, Site, OnLeft, Lead, OfRelation, OfProperty, State, BeforeExpr}
use Rattle.mp_parser.specs.Machine.{BeforeLiteral, BeforeBody, BeforeOperand, AfterExpr, AfterLiteral, Step, Go, Emit}
use Rattle.mp_parser.specs.Machine.{is_punct, is_word, measure_of, sense_of, relation_of, property_of, relation_held}
use Rattle.mp_parser.specs.Machine.{property_held, refuse, on_punct, on_text, on_found, spot, word_of, step}
use Rattle.mp_parser.specs.Machine.{step_open, step_amount, step_atom, step_body, step_whole, run, InTemplate}
use Rattle.mp_parser.specs.Machine.{step_rule}
use Rattle.mp_parser.specs.Parsing.{HasRoomIn, onward, WantsPunct, TemplateGives}
use Rattle.mp_parser.specs.ConditionParsing.{EndsAlternative, EndsCondition, EndsIf, IfGives, WantsAmount, EndsRule}
use Rattle.mp_parser.specs.ConditionParsing.{LiteralAddedFrom}
use Rattle.mp_parser.proofs.Runs.{one-step, fails-along}
use Rattle.mp_parser.specs.declared.tree.Expr.{Expr}
use Rattle.mp_parser.proofs.TokensLaw.{head-is}

-- ---- words and signs

pub measure_of-word : (m : Measure) → measure_of (measure_word m) ≡ Some m
measure_of-word Count = refl
measure_of-word Size = refl

pub sense_of-sign : (s : Sense) → sense_of (sense_sign s) ≡ Some s
sense_of-sign Lt = refl
sense_of-sign _ = refl

pub relation_of-word : (r : Relation) → relation_of (relation_word r) ≡ Some r
relation_of-word Same = refl
relation_of-word _ = refl

pub property_of-word : (p : Property) → property_of (property_word p) ≡ Some p
property_of-word properties.Kind = refl
property_of-word properties.Head = refl

-- ---- runs over one token

-- behind a word lie the other tokens
pub behind-word : (text : List ℕ) (t : Token) (ts : List Placed) → is_word text t ≡ true → behind t ts ≡ ts
behind-word text (Word w) ts h = refl
behind-word text End ts h = absurd cc
behind-word text _ ts h = absurd cc

-- what a word that is no relation does before an atom
abbrev without_relation : Within → List Frame → Site → Spot → Step
without_relation x k s w = on_found (λ p. Go (BeforeOperand x k s (OfProperty p))) (step_amount x k s OnLeft w)
    (property_of w.text)

module _ (limit : ℕ) where
  -- ---- steps

  -- the bracket of an operand, where there is room
  pub open-step : (x : Within) (k : List Frame) (s : Site) (lead : Lead) (t : Placed) (room : ℕ)
      → HasRoomIn limit k room
      → 0 < room → is_punct Open t.token ≡ true
      → step_in limit (BeforeOperand x k s lead) t ≡ Go (BeforeExpr x (Operand s lead ∷ k))
  open-step x k s lead t room len some e = rw (e, lt-leb limit (open_count k) (omega (arith, len, some))) refl

  -- a square bracket, where there is room
  pub square-step : (x : Within) (k : List Frame) (s : Site) (t : Placed) (room : ℕ) → HasRoomIn limit k room → 0 < room
      → is_punct OpenSquare t.token ≡ true
      → step_in limit (BeforeBody x k s) t ≡ Go (BeforeLiteral x (Square s ∷ k) no_level)
  square-step x k s t room len some e = rw (e, lt-leb limit (open_count k) (omega (arith, len, some))) refl

  -- a word that begins an atom
  pub plain-step : (x : Within) (k : List Frame) (s : Site) (t : Placed) (w : Spot) → t.token ≡ Word w.text
      → t.place ≡ w.place → step_in limit (BeforeBody x k s) t ≡ step_atom x k s w
  plain-step x k s t w h p = λ i. step_body limit x k s (record { token = h i; place = p i })

-- ---- runs over one token

-- a step over this word
pub over-word : (text : List ℕ) (t : Placed) (old new : List Placed) → old ≡ t ∷ behind t.token new
    → is_word text t.token ≡ true → (done : List Statement) (at : State) (next : Step) → step at t ≡ next
    → run done at old ≡ onward t.place done next new
over-word text t old new e h done at next f =
    ap (run done at) e ∙ one-step done at t new next (behind-word text t.token new h) f

-- a token that is no square bracket and no word of a relation or a property can only begin an amount
pub amount-wanted : (x : Within) (k : List Frame) (s : Site) (t : Placed) → is_punct OpenSquare t.token ≡ false
    → relation_held t.token ≡ None → property_held t.token ≡ None → WantsAmount t (BeforeBody x k s) x k s OnLeft
amount-wanted x k s t square relation property =
    ap (λ b. cond b (step_open MAX_OPEN k (BeforeLiteral x (Square s ∷ k) no_level))
    (on_text t (λ w. step_atom x k s w) (word_of t.token))) square
    ∙ go t.token relation property
  where
    go : (u : Token) → relation_held u ≡ None → property_held u ≡ None
        → on_text t (λ w. step_atom x k s w) (word_of u) ≡ on_text t (λ w. step_amount x k s OnLeft w) (word_of u)
    go (Word w) relation property =
        ap (on_found (λ r. Go (BeforeOperand x k s (OfRelation r))) (without_relation x k s (spot w t.place))) relation
        ∙ ap (on_found (λ p. Go (BeforeOperand x k s (OfProperty p))) (step_amount x k s OnLeft (spot w t.place)))
        property
    go _ relation property = refl

-- the word of a relation leads to its first operand
pub relation-begins : (done : List Statement) (x : Within) (k : List Frame) (s : Site) (t : Placed) (r : Relation)
    (old new : List Placed)
    → old ≡ t ∷ behind t.token new → Some r ≡ relation_held t.token
    → run done (BeforeBody x k s) old ≡ run done (BeforeOperand x k s (OfRelation r)) new
relation-begins done x k s t r old new e h = ap (run done (BeforeBody x k s)) e ∙ go t.token h
  where
    go : (u : Token) → Some r ≡ relation_held u
        → run done (BeforeBody x k s) (record { token = u; place = t.place } ∷ behind u new)
        ≡ run done (BeforeOperand x k s (OfRelation r)) new
    go (Word w) h =
        ap (λ o.
        onward t.place done
        (on_found (λ q. Go (BeforeOperand x k s (OfRelation q))) (without_relation x k s (spot w t.place)) o) new)
        (sym h)
    go _ h = absurd cc

-- the word of a property leads to its operand
pub property-begins : (done : List Statement) (x : Within) (k : List Frame) (s : Site) (t : Placed) (p : Property)
    (old new : List Placed)
    → old ≡ t ∷ behind t.token new → relation_held t.token ≡ None → Some p ≡ property_held t.token
    → run done (BeforeBody x k s) old ≡ run done (BeforeOperand x k s (OfProperty p)) new
property-begins done x k s t p old new e none h = ap (run done (BeforeBody x k s)) e ∙ go t.token none h
  where
    go : (u : Token) → relation_held u ≡ None → Some p ≡ property_held u
        → run done (BeforeBody x k s) (record { token = u; place = t.place } ∷ behind u new)
        ≡ run done (BeforeOperand x k s (OfProperty p)) new
    go (Word w) none h =
        ap (λ o.
        onward t.place done
        (on_found (λ q. Go (BeforeOperand x k s (OfRelation q))) (without_relation x k s (spot w t.place)) o) new)
        none
        ∙ ap (λ o.
        onward t.place done
        (on_found (λ q. Go (BeforeOperand x k s (OfProperty q))) (step_amount x k s OnLeft (spot w t.place)) o) new)
        (sym h)
    go _ none h = absurd cc

-- `and` leads to another literal
pub and-step : (x : Within) (k : List Frame) (v : Level) (l : Literal) (t : Placed)
    → is_word (codes "and") t.token ≡ true → step (AfterLiteral x k v l) t ≡ Go (BeforeLiteral x k (next_literal v l))
and-step x k v l t h = rw h refl

-- `or` leads to another alternative
pub or-step : (x : Within) (k : List Frame) (v : Level) (l : Literal) (t : Placed) → EndsAlternative t.token
    → is_word (codes "or") t.token ≡ true
    → step (AfterLiteral x k v l) t ≡ Go (BeforeLiteral x k (next_alternative v l))
or-step x k v l t ends h = rw (ends, h) refl

-- any other token stands behind the whole condition
pub whole-step : (x : Within) (k : List Frame) (v : Level) (l : Literal) (t : Placed) → EndsCondition t.token
    → step (AfterLiteral x k v l) t ≡ step_whole x k (condition (all_alternatives v l)) t
whole-step x k v l t h = rw (h.0, h.1) refl

-- ---- what calls give

-- what is put behind others from a later state on is put there from the one that leads to it
pub added-along : (from mid : Within → List Frame → Level → State) (room : ℕ) (before after : List Literal)
    (r : Result (Unit {0}) SyntaxError) (old here new : List Placed)
    → ((done : List Statement) (x : Within) (k : List Frame) (v : Level)
    → run done (from x k v) old ≡ run done (mid x k v) here)
    → LiteralAddedFrom mid room before after r here new → LiteralAddedFrom from room before after r old new
added-along from mid room before after (Ok u) old here new e h =
    (h.0, h.1, λ done x k v len. e done x k v ∙ h.2 done x k v len)
added-along from mid room before after (Err f) old here new e h =
    λ done x k v len. fails-along f _ _ (e done x k v) (h done x k v len)

-- behind the pattern of a rule, and its template where it has one, stands what ends it
pub behind-template : (o : Option (Bor Expr)) (t : Placed) (old new : List Placed)
    → TemplateGives t.token (Ok o) old new → (done : List Statement) (name : Spot) (pattern : Tree)
    → (at : State) × (run done (AfterExpr (InStatement (heading OfRule name)) [] pattern) old ≡ run done at new)
    × EndsRule t at name pattern (arrow_tree o)
behind-template None t old new read done name pattern = (
  AfterExpr (InStatement (heading OfRule name)) [] pattern,
  ap (run done (AfterExpr (InStatement (heading OfRule name)) [] pattern)) read.0,
  ap (λ b. cond b (Go (BeforeExpr (InTemplate name pattern) [])) (step_rule name pattern None t.token)) read.1,
)
behind-template (Some e) t old new read done name pattern =
    (AfterExpr (InTemplate name pattern) [] (expr_tree e.now), read done name pattern, refl)

-- behind these and the condition of the rule, where it has one, only the semicolon stands
pub behind-if : (o : Option code.Condition) (t u : Placed) (ts us : List Placed) → IfGives t (Ok o) (t ∷ ts) (u ∷ us)
    → EndsIf o u.token → (done : List Statement) (at : State) (name : Spot) (e : Tree) (template : Option Tree)
    → EndsRule t at name e template
    → (to : State) × (run done at (t ∷ ts) ≡ run done to (u ∷ us))
    × WantsPunct u to Semicolon (Emit (RuleOf name e template (if_tree o)))
behind-if None t u ts us read ends done at name e template wants = (
  at,
  ap (run done at) read,
  subst (λ (v : Placed). EndsRule v at name e template) (head-is _ _ _ _ read) wants
      ∙ ap (λ b. cond (is_punct Semicolon u.token) (Emit (RuleOf name e template None))
      (cond b (Go (BeforeLiteral (InCondition name e template) [] no_level)) (refuse u.token))) ends,
)
behind-if (Some c) t u ts us read ends done at name e template wants = (
  AfterLiteral (InCondition name e template) [] read.0 read.1,
  read.3 done at name e template wants,
  whole-step (InCondition name e template) [] read.0 read.1 u ends
      ∙ ap (λ d. on_punct Semicolon u.token (Emit (RuleOf name e template (Some d)))) read.2,
)
