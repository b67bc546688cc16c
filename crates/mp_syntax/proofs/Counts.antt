-- What a token does to the number of open brackets, and why it is refused.
use Rattle.std.proofs.Common.{◌≡◌, suc, subst, ◌∙◌, sym, ap, refl, ◌≤◌, ℕ, Bool, true, false, cond, List, [], ◌∷◌}
use Rattle.std.proofs.Common.{◌++◌, Option, Some, None, leb}
use Rattle.std.specs.Prelude.{◌&&◌, codes}
use Rattle.std.specs.Str.{bytes_eq}
use Rattle.mp_parser.specs.declared.token.Punct.TheVariants.{Open, Close, OpenSquare, CloseSquare, Comma, Colon}
use Rattle.mp_parser.specs.declared.token.Punct.TheVariants.{Semicolon, Dollar, OpenBrace, CloseBrace, Dot}
use Rattle.mp_parser.specs.declared.fault.FaultKind.TheVariants.{Syntax, TooDeep, BadByte, TooMany}
use Rattle.mp_parser.specs.declared.token.Punct.{Punct}
use Rattle.mp_parser.specs.Tokens as tokens
use Rattle.mp_parser.specs.Tokens.{Token, Placed, Word, Sign, Arrow, Punctuation, Long, Bad, End}
use Rattle.mp_parser.specs.Syntax.{Spot, Wildcard, Tree, Symbol, Wild, Variable, Infixed, KindOf, OpOf, RuleOf}
use Rattle.mp_parser.specs.Syntax.{SubjectOf, Amount, Number, Measured, Relate, Test, Literal, Bracketed, Condition}
use Rattle.mp_parser.specs.Syntax.{condition, Counted, EditOf, Position, Root, Path, Change, trees}
use Rattle.mp_parser.specs.Machine.{Edited, Listing, InTemplate, InChange, AfterBrace, AfterCount}
use Rattle.mp_parser.specs.Machine.{BeforeBrace, AfterEdit, AfterSubject, BeforeChange, AfterPosition, BeforeIndex}
use Rattle.mp_parser.specs.Machine.{AfterArrow, AfterSquare, AfterChange, is_arrow, change, with_change}
use Rattle.mp_parser.specs.Machine.{on_number, step_rule, step_changes, step_listed, step_further, step_brace, Role}
use Rattle.mp_parser.specs.Machine.{OfRule, OfSubject, Frame, Arguments, Bracket, Operands, Default, Operand, Second}
use Rattle.mp_parser.specs.Machine.{Square, Level, no_level, next_literal, next_alternative, all_alternatives, Site}
use Rattle.mp_parser.specs.Machine.{site, Side, OnLeft, OnRight, Lead, OfMeasure, OfRelation, OfProperty, open_count}
use Rattle.mp_parser.specs.Machine.{with_default, is_dot, Declared, declared, with_flag, Within, InStatement, Alone}
use Rattle.mp_parser.specs.Machine.{InCondition, ConditionAlone, State, Top, AfterOp, AfterOpName, AfterLeast}
use Rattle.mp_parser.specs.Machine.{AfterFlags, AfterInfix, AfterKind, AfterKindName, BeforeMember, AfterMember}
use Rattle.mp_parser.specs.Machine.{AfterRole, AfterName, BeforeExpr, AfterWord, AfterOpen, AfterWildcard, AfterExpr}
use Rattle.mp_parser.specs.Machine.{AfterDollar, BeforeLiteral, BeforeBody, BeforeOperand, BeforeName, BehindName}
use Rattle.mp_parser.specs.Machine.{AfterAmount, AfterSense, AfterLiteral, SingleExpr, SingleCondition, Step, Go}
use Rattle.mp_parser.specs.Machine.{Emit, Refuse, Finish, Ends, is_punct, is_sign, is_word, is_end, is_number}
use Rattle.mp_parser.specs.Machine.{measure_of, sense_of, relation_of, property_of, word_of, sign_of, wildcard_at}
use Rattle.mp_parser.specs.Machine.{keyword, spot, refuse, on_text, on_word, on_found, with_atom, with_amount}
use Rattle.mp_parser.specs.Machine.{step_in, step_role, step_operand, step_amount, step_atom, step_body, step_last}
use Rattle.mp_parser.specs.Machine.{step_whole, step_number, step_flag, step_flags, step_open, step_expr, step_behind}
use Rattle.mp_parser.specs.Machine.{step_wildcard}
use Rattle.mp_parser.specs.Syntax as syntax
use Rattle.std.proofs.lemmas.Bool.{leb-true}
use Rattle.mp_syntax.specs.FirstFault.{Opens, open_behind}
use Rattle.mp_parser.proofs.Adds.{arrow-is, punct-is, word-is, sign-is, sign-same, word-same, wildcard-is}
use Rattle.mp_syntax.proofs.GoesOn.{count}

-- behind the token t, where c brackets stood open: what stands open in the next state, or why it is refused
abbrev pub Counts : ℕ → ℕ → Token → Step → Type 0
Counts limit c t (Go a) = count a ≡ open_behind c t
Counts limit c t (Emit s) = 0 ≡ open_behind c t
Counts limit c t (Refuse Syntax) = Unit {0}
Counts limit c t (Refuse TooDeep) = Opens t × (limit ≤ c)
Counts limit c t (Refuse BadByte) = t ≡ Bad
Counts limit c t (Refuse TooMany) = t ≡ Long
Counts limit c t Finish = Unit {0}
Counts limit c t (Ends s) = Unit {0}

module _ (limit : ℕ) where
  refused : (c : ℕ) (t : Token) → Counts limit c t (refuse t)
  refused c (Word w) = tt
  refused c (tokens.Wildcard name marks kind) = tt
  refused c (Sign s) = tt
  refused c Arrow = tt
  refused c (Punctuation p) = tt
  refused c Long = refl
  refused c Bad = refl
  refused c End = tt

  either : (c : ℕ) (t : Token) (v : Bool) (a b : Step) → Counts limit c t a → Counts limit c t b
      → Counts limit c t (cond v a b)
  either c t true a b h k = h
  either c t false a b h k = k

  -- a token of a known text
  known : (c : ℕ) (test : Token → Bool) (k : Token) → ((u : Token) → test u ≡ true → u ≡ k) → (t : Token) (a b : Step)
      → (open_behind c k ≡ open_behind c t → t ≡ k → Counts limit c t a) → Counts limit c t b
      → Counts limit c t (cond (test t) a b)
  known c test k is t a b f g = go (test t) refl
    where
      go : (v : Bool) → test t ≡ v → Counts limit c t (cond v a b)
      go true e = f (sym (ap (open_behind c) (is t e))) (is t e)
      go false e = g

  punct : (c : ℕ) (p : Punct) (t : Token) (a b : Step)
      → (open_behind c (Punctuation p) ≡ open_behind c t → t ≡ Punctuation p → Counts limit c t a) → Counts limit c t b
      → Counts limit c t (cond (is_punct p t) a b)
  punct c p = known c (is_punct p) (Punctuation p) (punct-is p)

  -- a punctuation character, where something else holds too
  punct-and : (c : ℕ) (p : Punct) (t : Token) (d : Bool) (a b : Step)
      → (open_behind c (Punctuation p) ≡ open_behind c t → Counts limit c t a) → Counts limit c t b
      → Counts limit c t (cond (is_punct p t && d) a b)
  punct-and c p t d a b f g = go (is_punct p t) refl d
    where
      go : (v : Bool) → is_punct p t ≡ v → (d : Bool) → Counts limit c t (cond (v && d) a b)
      go true e true = f (sym (ap (open_behind c) (punct-is p t e)))
      go true e false = g
      go false e d = g

  fixed : (c : ℕ) (w : List ℕ) (t : Token) (a b : Step) → (c ≡ open_behind c t → Counts limit c t a)
      → Counts limit c t b → Counts limit c t (cond (is_word w t) a b)
  fixed c w t a b f = known c (is_word w) (Word w) (word-same w) t a b (λ e i. f e)

  same_sign : (c : ℕ) (w : List ℕ) (t : Token) (a b : Step) → (c ≡ open_behind c t → Counts limit c t a)
      → Counts limit c t b → Counts limit c t (cond (is_sign w t) a b)
  same_sign c w t a b f = known c (is_sign w) (Sign w) (sign-same w) t a b (λ e i. f e)

  text : (c : ℕ) (text_of : Token → Option (List ℕ)) (t : Placed) (next : Spot → Step)
      → ((w : List ℕ) → text_of t.token ≡ Some w → c ≡ open_behind c t.token)
      → (c ≡ open_behind c t.token → (w : Spot) → Counts limit c t.token (next w))
      → Counts limit c t.token (on_text t next (text_of t.token))
  text c text_of t next is h = go (text_of t.token) refl
    where
      go : (o : Option (List ℕ)) → text_of t.token ≡ o → Counts limit c t.token (on_text t next o)
      go (Some w) e = h (is w e) (spot w t.place)
      go None e = refused c t.token

  word : (c : ℕ) (t : Placed) (next : Spot → Step)
      → (c ≡ open_behind c t.token → (w : Spot) → Counts limit c t.token (next w))
      → Counts limit c t.token (on_word t next)
  word c t next = text c word_of t next (λ w e. sym (ap (open_behind c) (word-is t.token w e)))

  any_sign : (c : ℕ) (t : Placed) (next : Spot → Step)
      → (c ≡ open_behind c t.token → (w : Spot) → Counts limit c t.token (next w))
      → Counts limit c t.token (on_text t next (sign_of t.token))
  any_sign c t next = text c sign_of t next (λ w e. sym (ap (open_behind c) (sign-is t.token w e)))

  found : {A : Type 0} (c : ℕ) (t : Token) (next : A → Step) (other : Step) (o : Option A)
      → ((a : A) → Counts limit c t (next a)) → Counts limit c t other → Counts limit c t (on_found next other o)
  found c t next other (Some a) h k = h a
  found c t next other None h k = k

  open-counts : (k : List Frame) (next : State) (t : Token) → Opens t → count next ≡ open_behind (open_count k) t
      → Counts limit (open_count k) t (step_open limit k next)
  open-counts k next t o h = go (leb limit (open_count k)) refl
    where
      go : (v : Bool) → leb limit (open_count k) ≡ v → Counts limit (open_count k) t (cond v (Refuse TooDeep) (Go next))
      go true e = (o, leb-true limit (open_count k) e)
      go false e = h

  opens-by : (t k : Token) → t ≡ k → Opens k → Opens t
  opens-by t k e h = subst Opens (sym e) h

  expr-counts : (x : Within) (k : List Frame) (t : Placed)
      → Counts limit (open_count k) t.token (step_expr limit x k t (word_of t.token))
  expr-counts x k t = go (word_of t.token) refl
    where
      wildcard : (o : Option Wildcard) → wildcard_at t.token t.place ≡ o
          → Counts limit (open_count k) t.token (step_wildcard x k t o)
      wildcard (Some w) f = sym (ap (open_behind (open_count k)) (wildcard-is t.token t.place w f).0)
      wildcard None f =
          punct (open_count k) Dollar t.token (Go (AfterDollar x k t.place)) (refuse t.token) (λ e i. e)
          (refused (open_count k) t.token)

      go : (o : Option (List ℕ)) → word_of t.token ≡ o → Counts limit (open_count k) t.token (step_expr limit x k t o)
      go (Some w) e = sym (ap (open_behind (open_count k)) (word-is t.token w e))
      go None e =
          punct (open_count k) Open t.token _ _
          (λ e i. open-counts k (BeforeExpr x (Bracket t.place ∷ k)) t.token (opens-by t.token _ i tt) e)
          (wildcard (wildcard_at t.token t.place) refl)

  with_amount-counts : (x : Within) (k : List Frame) (s : Site) (side : Side) (a : Amount)
      → count (with_amount x k s side a) ≡ open_count k
  with_amount-counts x k s OnLeft a = refl
  with_amount-counts x k s (OnRight c sense) a = refl

  amount-counts : (x : Within) (k : List Frame) (s : Site) (side : Side) (w : Spot) (t : Token)
      → open_count k ≡ open_behind (open_count k) t → Counts limit (open_count k) t (step_amount x k s side w)
  amount-counts x k s side w t e =
      either (open_count k) t (is_number w.text) _ _ (with_amount-counts x k s side (Number w) ∙ e)
      (found (open_count k) t _ (Refuse Syntax) (measure_of w.text) (λ m. e) tt)

  body-counts : (x : Within) (k : List Frame) (s : Site) (t : Placed)
      → Counts limit (open_count k) t.token (step_body limit x k s t)
  body-counts x k s t =
      punct (open_count k) OpenSquare t.token _ _
      (λ e i. open-counts k (BeforeLiteral x (Square s ∷ k) no_level) t.token (opens-by t.token _ i tt) e)
      (word (open_count k) t (λ w. step_atom x k s w)
      (λ e w. found (open_count k) t.token _ _ (relation_of w.text) (λ r. e)
      (found (open_count k) t.token _ _ (property_of w.text) (λ p. e) (amount-counts x k s OnLeft w t.token e))))

  operand-counts : (x : Within) (k : List Frame) (s : Site) (lead : Lead) (e : Tree) (t : Token)
      → Counts limit (suc (open_count k)) t (step_operand x k s lead e t)
  operand-counts x k s (OfMeasure side m) e t =
      punct (suc (open_count k)) Close t _ (refuse t) (λ h i. with_amount-counts x k s side (Measured m e) ∙ h)
      (refused (suc (open_count k)) t)
  operand-counts x k s (OfRelation r) e t =
      punct (suc (open_count k)) Comma t (Go (BeforeExpr x (Second s r e ∷ k))) (refuse t) (λ h i. h)
      (refused (suc (open_count k)) t)
  operand-counts x k s (OfProperty p) e t =
      punct (suc (open_count k)) Comma t (Go (BeforeName x k s p e)) (refuse t) (λ h i. h)
      (refused (suc (open_count k)) t)

  last-counts : (x : Within) (c : Condition) (t : Placed) → Counts limit 0 t.token (step_last x c t)
  last-counts (InStatement h) c t = refused 0 t.token
  last-counts Alone c t = refused 0 t.token
  last-counts (InTemplate name pattern) c t = refused 0 t.token
  last-counts (InChange d p) c t = refused 0 t.token
  last-counts (InCondition name pattern template) c t =
      punct 0 Semicolon t.token (Emit (RuleOf name pattern template (Some c))) (refuse t.token) (λ e i. e)
      (refused 0 t.token)
  last-counts ConditionAlone c t =
      either 0 t.token (is_end t.token) (Ends (SingleCondition c)) (refuse t.token) tt (refused 0 t.token)

  whole-counts : (x : Within) (k : List Frame) (c : Condition) (t : Placed)
      → Counts limit (open_count k) t.token (step_whole x k c t)
  whole-counts x [] c t = last-counts x c t
  whole-counts x (Square s ∷ k) c t =
      punct (suc (open_count k)) CloseSquare t.token (Go (AfterLiteral x k s.level (Bracketed s.negated c)))
      (refuse t.token) (λ e i. e) (refused (suc (open_count k)) t.token)
  whole-counts x (Arguments name args ∷ k) c t = refused (suc (open_count k)) t.token
  whole-counts x (Bracket place ∷ k) c t = refused (suc (open_count k)) t.token
  whole-counts x (Operands place sign first others ∷ k) c t = refused (suc (open_count k)) t.token
  whole-counts x (Default w ∷ k) c t = refused (open_count k) t.token
  whole-counts x (Operand s lead ∷ k) c t = refused (suc (open_count k)) t.token
  whole-counts x (Second s r e ∷ k) c t = refused (suc (open_count k)) t.token
  whole-counts x (Listing es ∷ k) c t = refused (suc (open_count k)) t.token

  arrow_token : (c : ℕ) (t : Token) (a b : Step) → (c ≡ open_behind c t → Counts limit c t a) → Counts limit c t b
      → Counts limit c t (cond (is_arrow t) a b)
  arrow_token c t a b f = known c is_arrow Arrow arrow-is t a b (λ e i. f e)

  rule-counts : (name : Spot) (e : Tree) (template : Option Tree) (t : Token)
      → Counts limit 0 t (step_rule name e template t)
  rule-counts name e template t =
      punct 0 Semicolon t (Emit (RuleOf name e template None)) _ (λ e i. e)
      (fixed 0 (codes "if") t (Go (BeforeLiteral (InCondition name e template) [] no_level)) (refuse t)
      (λ e. e) (refused 0 t))

  changes-count : (d : Edited) (c : Change) (t : Token) → Counts limit 0 t (step_changes d c t)
  changes-count d c t =
      punct 0 Comma t (Go (BeforeChange (with_change d c))) _ (λ e i. e)
      (punct 0 Semicolon t (Emit (EditOf d.subject (d.changes ++ c ∷ []))) (refuse t) (λ e i. e) (refused 0 t))

  listed-counts : (x : Within) (k : List Frame) (es : List Tree) (t : Token)
      → Counts limit (suc (open_count k)) t (step_listed x k es t)
  listed-counts (InChange d p) [] es t =
      punct 1 CloseSquare t (Go (AfterChange d (change p (syntax.Listed (trees es))))) (refuse t) (λ e i. e)
      (refused 1 t)
  listed-counts (InChange d p) (f ∷ k) es t = refused (suc (open_count (f ∷ k))) t
  listed-counts (InStatement h) k es t = refused (suc (open_count k)) t
  listed-counts Alone k es t = refused (suc (open_count k)) t
  listed-counts (InTemplate name pattern) k es t = refused (suc (open_count k)) t
  listed-counts (InCondition name pattern template) k es t = refused (suc (open_count k)) t
  listed-counts ConditionAlone k es t = refused (suc (open_count k)) t

  number-counts : (c : ℕ) (t : Placed) (next : Spot → State) → ((w : Spot) → count (next w) ≡ c)
      → Counts limit c t.token (on_number t next)
  number-counts c t next h =
      word c t (λ w. step_number next w)
      (λ e w. either c t.token (is_number w.text) (Go (next w)) (Refuse Syntax) (h w ∙ e) tt)

  further-counts : (d : Edited) (p : Position) (t : Token) → Counts limit 0 t (step_further d p t)
  further-counts d (Root place) t = refused 0 t
  further-counts d (Path first others) t =
      punct 0 Dot t (Go (BeforeIndex d first others)) (refuse t) (λ e i. e) (refused 0 t)

  brace-counts : (x : Within) (k : List Frame) (w : Wildcard) (n : Spot) (more : Bool) (t : Token)
      → Counts limit (open_count k) t (step_brace x k w n more t)
  brace-counts x k w n more t =
      punct (open_count k) CloseBrace t (Go (AfterExpr x k (Counted w n more))) (refuse t) (λ e i. e)
      (refused (open_count k) t)

  end-counts : (x : Within) (e : Tree) (t : Placed) → Counts limit 0 t.token (step_behind x [] e t)
  end-counts (InStatement h) e t = at h.role
    where
      at : (role : Role) → Counts limit 0 t.token (step_role role h.name e t.token)
      at OfRule =
          arrow_token 0 t.token (Go (BeforeExpr (InTemplate h.name e) [])) _ (λ e. e)
          (rule-counts h.name e None t.token)
      at OfSubject =
          punct 0 Semicolon t.token (Emit (SubjectOf h.name e)) (refuse t.token) (λ e i. e) (refused 0 t.token)
  end-counts Alone e t = either 0 t.token (is_end t.token) (Ends (SingleExpr e)) (refuse t.token) tt (refused 0 t.token)
  end-counts (InTemplate name pattern) e t = rule-counts name pattern (Some e) t.token
  end-counts (InCondition name pattern template) e t = refused 0 t.token
  end-counts (InChange d p) e t = changes-count d (change p (syntax.Single e)) t.token
  end-counts ConditionAlone e t = refused 0 t.token

  behind-counts : (x : Within) (k : List Frame) (e : Tree) (t : Placed)
      → Counts limit (open_count k) t.token (step_behind x k e t)
  behind-counts x [] e t = end-counts x e t
  behind-counts x (Arguments name args ∷ k) e t =
      punct (suc (open_count k)) Comma t.token _ _ (λ h i. h)
      (punct (suc (open_count k)) Close t.token _ (refuse t.token) (λ h i. h) (refused (suc (open_count k)) t.token))
  behind-counts x (Bracket place ∷ k) e t =
      any_sign (suc (open_count k)) t (λ sign. Go (BeforeExpr x (Operands place sign e [] ∷ k))) (λ h w. h)
  behind-counts x (Operands place sign first others ∷ k) e t =
      same_sign (suc (open_count k)) sign.text t.token _ _ (λ h. h)
      (punct (suc (open_count k)) Close t.token _ (refuse t.token) (λ h i. h) (refused (suc (open_count k)) t.token))
  behind-counts x (Default w ∷ k) e t = behind-counts x k (with_default w e) t
  behind-counts x (Operand s lead ∷ k) e t = operand-counts x k s lead e t.token
  behind-counts x (Second s r d ∷ k) e t =
      punct (suc (open_count k)) Close t.token (Go (with_atom x k s (Relate r d e))) (refuse t.token) (λ h i. h)
      (refused (suc (open_count k)) t.token)
  behind-counts x (Square s ∷ k) e t = refused (suc (open_count k)) t.token
  behind-counts x (Listing es ∷ k) e t =
      punct (suc (open_count k)) Comma t.token _ _ (λ h i. h) (listed-counts x k (es ++ e ∷ []) t.token)

  literal-counts : (x : Within) (k : List Frame) (v : Level) (l : Literal) (t : Placed)
      → Counts limit (open_count k) t.token (step_in limit (AfterLiteral x k v l) t)
  literal-counts x k v l t =
      fixed (open_count k) (codes "and") t.token (Go (BeforeLiteral x k (next_literal v l))) _ (λ e. e)
      (fixed (open_count k) (codes "or") t.token (Go (BeforeLiteral x k (next_alternative v l))) _ (λ e. e)
      (whole-counts x k (condition (all_alternatives v l)) t))

  keyword-counts : (w : List ℕ) (t : Token) → 0 ≡ open_behind 0 t → Counts limit 0 t (keyword w)
  keyword-counts w t e =
      either 0 t (bytes_eq w (codes "op")) _ _ e
      (either 0 t (bytes_eq w (codes "kind")) _ _ e
      (either 0 t (bytes_eq w (codes "rule")) _ _ e
      (either 0 t (bytes_eq w (codes "subject")) _ _ e
      (either 0 t (bytes_eq w (codes "edit")) _ (Refuse Syntax) e tt))))

  flag-counts : (d : Declared) (w : List ℕ) (t : Token) → 0 ≡ open_behind 0 t → Counts limit 0 t (step_flag d w)
  flag-counts d w t e =
      either 0 t (bytes_eq w (codes "assoc")) _ _ e
      (either 0 t (bytes_eq w (codes "comm")) _ _ e
      (either 0 t (bytes_eq w (codes "one")) _ _ e (either 0 t (bytes_eq w (codes "infix")) _ (Refuse Syntax) e tt)))

  flags-count : (d : Declared) (t : Placed) → Counts limit 0 t.token (step_flags d t)
  flags-count d t =
      punct 0 Semicolon t.token (Emit (OpOf d.name d.least d.more d.flags)) _ (λ e i. e)
      (word 0 t (λ w. step_flag d w.text) (λ e w. flag-counts d w.text t.token e))

  member-counts : (name : Spot) (members : List Spot) (t : Placed)
      → Counts limit 0 t.token (on_word t (λ w. Go (AfterMember name (members ++ w ∷ []))))
  member-counts name members t = word 0 t (λ w. Go (AfterMember name (members ++ w ∷ []))) (λ e w. e)

  -- what each token does
  pub step-counts : (at : State) (t : Placed) → Counts limit (count at) t.token (step_in limit at t)
  step-counts Top t =
      either 0 t.token (is_end t.token) Finish _ tt
      (word 0 t (λ w. keyword w.text) (λ e w. keyword-counts w.text t.token e))
  step-counts AfterOp t = word 0 t (λ w. Go (AfterOpName w)) (λ e w. e)
  step-counts (AfterOpName name) t =
      number-counts 0 t (λ w. AfterLeast name w) (λ w. refl)
  step-counts (AfterLeast name least) t =
      same_sign 0 (codes "+") t.token (Go (AfterFlags (declared name least true []))) _ (λ e. e)
      (flags-count (declared name least false []) t)
  step-counts (AfterFlags d) t = flags-count d t
  step-counts (AfterInfix d) t = any_sign 0 t (λ sign. Go (AfterFlags (with_flag d (Infixed sign)))) (λ e w. e)
  step-counts AfterKind t = word 0 t (λ w. Go (AfterKindName w)) (λ e w. e)
  step-counts (AfterKindName name) t = punct 0 Colon t.token _ (refuse t.token) (λ e i. e) (refused 0 t.token)
  step-counts (BeforeMember name members) t = member-counts name members t
  step-counts (AfterMember name members) t =
      punct 0 Semicolon t.token (Emit (KindOf name members)) _ (λ e i. e) (member-counts name members t)
  step-counts (AfterRole role) t = word 0 t (λ w. Go (AfterName (record { role = role; name = w }))) (λ e w. e)
  step-counts (AfterName x) t = punct 0 Colon t.token _ (refuse t.token) (λ e i. e) (refused 0 t.token)
  step-counts (BeforeExpr x k) t = expr-counts x k t
  step-counts (AfterWord x k w) t =
      punct (open_count k) Open t.token _ _ (λ e i. open-counts k (AfterOpen x k w) t.token (opens-by t.token _ i tt) e)
      (behind-counts x k (Symbol w) t)
  step-counts (AfterOpen x k w) t =
      punct (suc (open_count k)) Close t.token _ _ (λ e i. e) (expr-counts x (Arguments w [] ∷ k) t)
  step-counts (AfterWildcard x k w) t =
      punct-and (open_count k) Colon t.token (is_dot w) (Go (BeforeExpr x (Default w ∷ k))) _ (λ e. e)
      (punct-and (open_count k) OpenBrace t.token (is_dot w) (Go (AfterBrace x k w)) _ (λ e. e)
      (behind-counts x k (Wild w) t))
  step-counts (AfterExpr x k e) t = behind-counts x k e t
  step-counts (AfterDollar x k place) t =
      word (open_count k) t (λ w. Go (AfterExpr x k (Variable (spot w.text place)))) (λ e w. e)
  step-counts (BeforeLiteral x k v) t =
      fixed (open_count k) (codes "not") t.token (Go (BeforeBody x k (site v true))) _ (λ e. e)
      (body-counts x k (site v false) t)
  step-counts (BeforeBody x k s) t = body-counts x k s t
  step-counts (BeforeOperand x k s lead) t =
      punct (open_count k) Open t.token _ (refuse t.token)
      (λ e i. open-counts k (BeforeExpr x (Operand s lead ∷ k)) t.token (opens-by t.token _ i tt) e)
      (refused (open_count k) t.token)
  step-counts (BeforeName x k s p e) t = word (suc (open_count k)) t (λ w. Go (BehindName x k s p e w)) (λ e w. e)
  step-counts (BehindName x k s p e w) t =
      punct (suc (open_count k)) Close t.token (Go (with_atom x k s (Test p e w))) (refuse t.token) (λ e i. e)
      (refused (suc (open_count k)) t.token)
  step-counts (AfterAmount x k s a) t =
      any_sign (open_count k) t
      (λ sign. on_found (λ sense. Go (AfterSense x k s a sense)) (Refuse Syntax) (sense_of sign.text))
      (λ e w. found (open_count k) t.token _ (Refuse Syntax) (sense_of w.text) (λ sense. e) tt)
  step-counts (AfterSense x k s a sense) t =
      word (open_count k) t (λ w. step_amount x k s (OnRight a sense) w)
      (λ e w. amount-counts x k s (OnRight a sense) w t.token e)
  step-counts (AfterLiteral x k v l) t = literal-counts x k v l t
  step-counts (AfterBrace x k w) t = number-counts (open_count k) t (λ n. AfterCount x k w n) (λ n. refl)
  step-counts (AfterCount x k w n) t =
      same_sign (open_count k) (codes "+") t.token (Go (BeforeBrace x k w n true)) _ (λ e. e)
      (brace-counts x k w n false t.token)
  step-counts (BeforeBrace x k w n more) t = brace-counts x k w n more t.token
  step-counts AfterEdit t = word 0 t (λ w. Go (AfterSubject w)) (λ e w. e)
  step-counts (AfterSubject subject) t = punct 0 Colon t.token _ (refuse t.token) (λ e i. e) (refused 0 t.token)
  step-counts (BeforeChange d) t =
      punct 0 Dot t.token (Go (AfterPosition d (Root t.place))) _ (λ e i. e)
      (number-counts 0 t (λ w. AfterPosition d (Path w [])) (λ w. refl))
  step-counts (AfterPosition d p) t =
      arrow_token 0 t.token (Go (AfterArrow d p)) _ (λ e. e) (further-counts d p t.token)
  step-counts (BeforeIndex d first others) t =
      number-counts 0 t (λ w. AfterPosition d (Path first (others ++ w ∷ []))) (λ w. refl)
  step-counts (AfterArrow d p) t =
      punct 0 OpenSquare t.token _ _ (λ e i. open-counts [] (AfterSquare d p) t.token (opens-by t.token _ i tt) e)
      (expr-counts (InChange d p) [] t)
  step-counts (AfterSquare d p) t =
      punct 1 CloseSquare t.token (Go (AfterChange d (change p (syntax.Listed (trees []))))) _ (λ e i. e)
      (expr-counts (InChange d p) (Listing [] ∷ []) t)
  step-counts (AfterChange d c) t = changes-count d c t.token
