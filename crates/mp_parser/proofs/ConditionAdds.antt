-- What a step over a token of a condition adds to the spelling of what is read.
use Rattle.std.proofs.Common.{◌≡◌, ℕ, Bool, true, false, cond, List, [], ◌∷◌, ◌++◌, Option, Some, None, refl, sym, ap}
use Rattle.std.proofs.Common.{subst, ◌∙◌, append_assoc, append-nil}
use Rattle.std.specs.Prelude.{codes}
use Rattle.std.specs.List.{flat_map}
use Rattle.std.specs.Str.{bytes_eq}
use Rattle.std.proofs.lemmas.Slice.Eq.{bytes_eq-Decides}
use Rattle.mp_parser.specs.declared.token.Punct.TheVariants.{Open, Close, OpenSquare, CloseSquare, Comma, Semicolon}
use Rattle.mp_parser.specs.declared.fault.FaultKind.TheVariants.{Syntax}
use Rattle.mp_parser.specs.declared.condition_tree.Measure.{Measure}
use Rattle.mp_parser.specs.declared.condition_tree.Measure.TheVariants.{Count, Size}
use Rattle.mp_parser.specs.declared.condition_tree.Sense.{Sense}
use Rattle.mp_parser.specs.declared.condition_tree.Sense.TheVariants.{Lt, Le, Gt, Ge, Eq, Ne}
use Rattle.mp_parser.specs.declared.condition_tree.Relation.{Relation}
use Rattle.mp_parser.specs.declared.condition_tree.Relation.TheVariants.{Same, Less, Free}
use Rattle.mp_parser.specs.declared.condition_tree.Property.{Property}
use Rattle.mp_parser.specs.declared.condition_tree.Property.TheVariants as properties
use Rattle.mp_parser.specs.Tokens.{Word, Sign, Punctuation, Placed}
use Rattle.mp_parser.specs.Syntax.{Spot, Tree, Amount, Number, Measured, Atom, Compare, Relate, Test, Literal}
use Rattle.mp_parser.specs.Syntax.{Literals, literals, condition, Expected, Said, Matches, spell, spell_amount}
use Rattle.mp_parser.specs.Syntax.{spell_atom, spell_literal, spell_literals, spell_alternatives, spell_condition}
use Rattle.mp_parser.specs.Syntax.{spelled_word, fixed_word, opening, closing, comma, semicolon, RuleOf}
use Rattle.mp_parser.specs.Syntax.{spell_statement, measure_word, sense_sign, relation_word, property_word}
use Rattle.mp_parser.specs.Syntax.{spell_template}
use Rattle.mp_parser.specs.Machine.{Within, InStatement, Alone, InCondition, ConditionAlone, Frame, Operand, Second}
use Rattle.mp_parser.specs.Machine.{Square, Level, no_level, next_literal, next_alternative, all_alternatives, Site}
use Rattle.mp_parser.specs.Machine.{site, Side, OnLeft, OnRight, Lead, OfMeasure, OfRelation, OfProperty, BeforeExpr}
use Rattle.mp_parser.specs.Machine.{BeforeLiteral, BeforeBody, BeforeOperand, BeforeName, BehindName, AfterAmount}
use Rattle.mp_parser.specs.Machine.{AfterSense, AfterLiteral, Go, Refuse, Ends, SingleCondition, measure_of, sense_of}
use Rattle.mp_parser.specs.Machine.{relation_of, property_of, is_number, is_end, spot, refuse, on_punct, on_found}
use Rattle.mp_parser.specs.Machine.{with_atom, with_amount, step_operand, step_amount, step_atom, step_body}
use Rattle.mp_parser.specs.Machine.{step_last, step_whole, step_in, InTemplate, InChange}
use Rattle.mp_parser.specs.Partial.{spell_within, spell_frames, spell_before_and, spell_before_or, spell_level}
use Rattle.mp_parser.specs.Partial.{spell_site, spell_side, so_far, spell_rule}
use Rattle.mp_parser.proofs.ListLaws.{some-is}
use Rattle.mp_parser.proofs.Adds.{end-is, Adds, adds-punct, adds-fixed_word, adds-found, adds-word, adds-any_sign}
use Rattle.mp_parser.proofs.Adds.{adds-open, flat_map-push}

-- ---- words and signs

-- a value that is found by its text has this text
chosen : {A : Type 0} (text_of : A → List ℕ) (w : List ℕ) (a : A) (other : Option A) (b : A)
    → (other ≡ Some b → w ≡ text_of b) → cond (bytes_eq w (text_of a)) (Some a) other ≡ Some b → w ≡ text_of b
chosen text_of w a other b f h = go (bytes_eq w (text_of a)) refl h
  where
    go : (v : Bool) → bytes_eq w (text_of a) ≡ v → cond v (Some a) other ≡ Some b → w ≡ text_of b
    go true e h = (bytes_eq-Decides w (text_of a)).0 e ∙ ap text_of (some-is a b h)
    go false e h = f h

measure_of-is : (w : List ℕ) (m : Measure) → measure_of w ≡ Some m → w ≡ measure_word m
measure_of-is w m h = chosen measure_word w Count _ m (λ h. chosen measure_word w Size None m (λ h. absurd cc) h) h

sense_of-is : (s : List ℕ) (c : Sense) → sense_of s ≡ Some c → s ≡ sense_sign c
sense_of-is s c h =
    chosen sense_sign s Lt _ c
    (λ h. chosen sense_sign s Le _ c
    (λ h. chosen sense_sign s Gt _ c
    (λ h. chosen sense_sign s Ge _ c
    (λ h. chosen sense_sign s Eq _ c (λ h. chosen sense_sign s Ne None c (λ h. absurd cc) h) h) h) h) h) h

relation_of-is : (w : List ℕ) (r : Relation) → relation_of w ≡ Some r → w ≡ relation_word r
relation_of-is w r h = chosen relation_word w Same _ r
    (λ h. chosen relation_word w Less _ r (λ h. chosen relation_word w Free None r (λ h. absurd cc) h) h) h

property_of-is : (w : List ℕ) (p : Property) → property_of w ≡ Some p → w ≡ property_word p
property_of-is w p h = chosen property_word w properties.Kind _ p
    (λ h. chosen property_word w properties.Head None p (λ h. absurd cc) h) h

-- ---- literals and alternatives

-- literals of which l is the last
spell_literals-push : (ls : List Literal) (l : Literal)
    → spell_literals [] (literals (ls ++ l ∷ [])) ≡ flat_map spell_before_and ls ++ spell_literal l
spell_literals-push [] l = append-nil (spell_literal l)
spell_literals-push (m ∷ ls) l = ap (λ r. spell_literal m ++ r) (others ls) ∙ simp append_assoc
  where
    others : (ls : List Literal) → spell_literals (fixed_word (codes "and") ∷ []) (literals (ls ++ l ∷ []))
        ≡ fixed_word (codes "and") ∷ (flat_map spell_before_and ls ++ spell_literal l)
    others [] = ap (λ r. fixed_word (codes "and") ∷ r) (append-nil (spell_literal l))
    others (m ∷ ls) = ap (λ r. fixed_word (codes "and") ∷ (spell_literal m ++ r)) (others ls) ∙ simp append_assoc

-- alternatives of which a is the last
spell_alternatives-push : (before : List Literals) (a : Literals)
    → spell_condition (condition (before ++ a ∷ [])) ≡ flat_map spell_before_or before ++ spell_literals [] a
spell_alternatives-push [] a = append-nil (spell_literals [] a)
spell_alternatives-push (b ∷ before) a = ap (λ r. spell_literals [] b ++ r) (others before) ∙ simp append_assoc
  where
    others : (before : List Literals) → spell_alternatives (fixed_word (codes "or") ∷ []) (condition (before ++ a ∷ []))
        ≡ fixed_word (codes "or") ∷ (flat_map spell_before_or before ++ spell_literals [] a)
    others [] = ap (λ r. fixed_word (codes "or") ∷ r) (append-nil (spell_literals [] a))
    others (b ∷ before) = ap (λ r. fixed_word (codes "or") ∷ (spell_literals [] b ++ r)) (others before)
        ∙ simp append_assoc

-- the condition up to a literal
pub spell_condition-all : (v : Level) (l : Literal)
    → spell_condition (condition (all_alternatives v l)) ≡ spell_level v ++ spell_literal l
spell_condition-all v l =
    spell_alternatives-push v.alternatives (literals (v.literals ++ l ∷ []))
    ∙ ap (λ r. flat_map spell_before_or v.alternatives ++ r) (spell_literals-push v.literals l)
    ∙ simp append_assoc

spell_level-next_literal : (v : Level) (l : Literal)
    → spell_level (next_literal v l) ≡ spell_level v ++ (spell_literal l ++ fixed_word (codes "and") ∷ [])
spell_level-next_literal v l = ap (λ r. flat_map spell_before_or v.alternatives ++ r)
    (flat_map-push spell_before_and v.literals l) ∙ simp append_assoc

spell_level-next_alternative : (v : Level) (l : Literal)
    → spell_level (next_alternative v l) ≡ spell_level v ++ (spell_literal l ++ fixed_word (codes "or") ∷ [])
spell_level-next_alternative v l =
    append-nil _
    ∙ flat_map-push spell_before_or v.alternatives (literals (v.literals ++ l ∷ []))
    ∙ ap (λ r. flat_map spell_before_or v.alternatives ++ (r ++ fixed_word (codes "or") ∷ []))
    (spell_literals-push v.literals l)
    ∙ simp append_assoc

-- ---- atoms

-- what is read where an atom is
so_far-with_atom : (x : Within) (k : List Frame) (s : Site) (a : Atom)
    → so_far (with_atom x k s a) ≡ spell_within x ++ (spell_frames k ++ (spell_site s ++ spell_atom a))
so_far-with_atom x k s a = simp append_assoc

-- what is read where an amount is
so_far-with_amount : (x : Within) (k : List Frame) (s : Site) (side : Side) (a : Amount)
    → so_far (with_amount x k s side a) ≡ spell_within x
    ++ (spell_frames k ++ (spell_site s ++ (spell_side side ++ spell_amount a)))
so_far-with_amount x k s OnLeft a = refl
so_far-with_amount x k s (OnRight b sense) a = so_far-with_atom x k s (Compare b sense a) ∙ simp append_assoc

-- what is read where this side of a comparison begins
abbrev before_side : Within → List Frame → Site → Side → List Expected
before_side x k s side = spell_within x ++ (spell_frames k ++ (spell_site s ++ spell_side side))

adds-amount : (x : Within) (k : List Frame) (s : Site) (side : Side) (t : Placed) (w : List ℕ)
    → Matches t (spelled_word (spot w t.place))
    → Adds (step_amount x k s side (spot w t.place)) (before_side x k s side) t
adds-amount x k s side t w is = go (is_number w)
  where
    number : (side : Side) → Adds (Go (with_amount x k s side (Number (spot w t.place)))) (before_side x k s side) t
    number OnLeft = (
      spelled_word (spot w t.place),
      tt,
      is,
      so_far-with_amount x k s OnLeft (Number (spot w t.place))
          ∙ simp append_assoc,
    )
    number (OnRight b sense) = (
      spelled_word (spot w t.place),
      tt,
      is,
      so_far-with_amount x k s (OnRight b sense) (Number (spot w t.place))
          ∙ simp append_assoc,
    )

    go : (b : Bool)
        → Adds (cond b (Go (with_amount x k s side (Number (spot w t.place))))
        (on_found (λ m. Go (BeforeOperand x k s (OfMeasure side m))) (Refuse Syntax) (measure_of w)))
        (before_side x k s side) t
    go true = number side
    go false = adds-found _ (Refuse Syntax) (measure_of w) (before_side x k s side) t
        (λ m e. (fixed_word (measure_word m), tt, is.0 ∙ ap Word (measure_of-is w m e), simp append_assoc)) tt

adds-atom : (x : Within) (k : List Frame) (s : Site) (t : Placed) (w : List ℕ)
    → Matches t (spelled_word (spot w t.place)) → Adds (step_atom x k s (spot w t.place)) (so_far (BeforeBody x k s)) t
adds-atom x k s t w is =
    adds-found _ _ (relation_of w) (so_far (BeforeBody x k s)) t
    (λ r e. (fixed_word (relation_word r), tt, is.0 ∙ ap Word (relation_of-is w r e), simp append_assoc))
    (adds-found _ _ (property_of w) (so_far (BeforeBody x k s)) t
    (λ p e. (fixed_word (property_word p), tt, is.0 ∙ ap Word (property_of-is w p e), simp append_assoc))
    (subst (λ l. Adds (step_amount x k s OnLeft (spot w t.place)) (spell_within x ++ (spell_frames k ++ l)) t)
    (append-nil (spell_site s)) (adds-amount x k s OnLeft t w is)))

pub adds-operand : (x : Within) (k : List Frame) (s : Site) (lead : Lead) (e : Tree) (t : Placed)
    → Adds (step_operand x k s lead e t.token) (spell_within x ++ (spell_frames (Operand s lead ∷ k) ++ spell e)) t
adds-operand x k s (OfMeasure side m) e t =
    adds-punct Close t _ (refuse t.token) _ (λ is.
    (closing, tt, is, so_far-with_amount x k s side (Measured m e) ∙ simp append_assoc)) tt
adds-operand x k s (OfRelation r) e t = adds-punct Comma t _ (refuse t.token) _
    (λ is. (comma, tt, is, simp append_assoc)) tt
adds-operand x k s (OfProperty p) e t = adds-punct Comma t _ (refuse t.token) _
    (λ is. (comma, tt, is, simp append_assoc)) tt

pub adds-second : (x : Within) (k : List Frame) (s : Site) (r : Relation) (d e : Tree) (t : Placed)
    → Adds (on_punct Close t.token (Go (with_atom x k s (Relate r d e))))
    (spell_within x ++ (spell_frames (Second s r d ∷ k) ++ spell e)) t
adds-second x k s r d e t = adds-punct Close t _ (refuse t.token) _
    (λ is. (closing, tt, is, so_far-with_atom x k s (Relate r d e) ∙ simp append_assoc)) tt

-- ---- behind a literal

-- three parts with a token between the last two, and a token behind them
between-parts : (a b c : List Expected) (m n : Expected)
    → a ++ (b ++ (m ∷ (c ++ n ∷ []))) ≡ ((a ++ (b ++ m ∷ [])) ++ c) ++ n ∷ []
between-parts a b c m n = simp append_assoc

-- the last token behind a condition
adds-last : (x : Within) (v : Level) (l : Literal) (t : Placed)
    → Adds (step_last x (condition (all_alternatives v l)) t) (so_far (AfterLiteral x [] v l)) t
adds-last (InStatement h) v l t = tt
adds-last Alone v l t = tt
adds-last (InTemplate name pattern) v l t = tt
adds-last (InCondition name pattern template) v l t =
    adds-punct Semicolon t _ (refuse t.token) (so_far (AfterLiteral (InCondition name pattern template) [] v l))
    (λ is. (semicolon, tt, is, whole)) tt
  where
    whole : spell_statement (RuleOf name pattern template (Some (condition (all_alternatives v l))))
        ≡ so_far (AfterLiteral (InCondition name pattern template) [] v l) ++ semicolon ∷ []
    whole =
        ap (λ c. spell_rule name pattern
        ++ (spell_template template ++ (fixed_word (codes "if") ∷ (c ++ semicolon ∷ [])))) (spell_condition-all v l)
        ∙ between-parts (spell_rule name pattern) (spell_template template) (spell_level v ++ spell_literal l)
        (fixed_word (codes "if")) semicolon
adds-last (InChange d p) v l t = tt
adds-last ConditionAlone v l t = go (is_end t.token) refl
  where
    go : (b : Bool) → is_end t.token ≡ b
        → Adds (cond b (Ends (SingleCondition (condition (all_alternatives v l)))) (refuse t.token))
        (spell_level v ++ spell_literal l) t
    go true is = (sym (spell_condition-all v l), end-is t.token is)
    go false is = tt

adds-whole : (x : Within) (k : List Frame) (v : Level) (l : Literal) (t : Placed)
    → Adds (step_whole x k (condition (all_alternatives v l)) t) (so_far (AfterLiteral x k v l)) t
adds-whole x [] v l t = adds-last x v l t
adds-whole x (Square s ∷ k) v l t =
    adds-punct CloseSquare t _ (refuse t.token) (so_far (AfterLiteral x (Square s ∷ k) v l))
    (λ is. (Said (Punctuation CloseSquare), tt, is, rw (spell_condition-all v l) (simp append_assoc))) tt
adds-whole x (_ ∷ k) v l t = tt

module _ (limit : ℕ) where
  -- ---- atoms

  pub adds-body : (x : Within) (k : List Frame) (s : Site) (t : Placed)
      → Adds (step_body limit x k s t) (so_far (BeforeBody x k s)) t
  adds-body x k s t =
      adds-punct OpenSquare t _ _ (so_far (BeforeBody x k s))
      (λ is. adds-open limit k (BeforeLiteral x (Square s ∷ k) no_level) (so_far (BeforeBody x k s)) t
      (Said (Punctuation OpenSquare), tt, is, simp (append_assoc, append-nil)))
      (adds-word (λ w. step_atom x k s w) t (so_far (BeforeBody x k s)) (λ w is. adds-atom x k s t w is))

  pub adds-literal : (x : Within) (k : List Frame) (v : Level) (t : Placed)
      → Adds (step_in limit (BeforeLiteral x k v) t) (so_far (BeforeLiteral x k v)) t
  adds-literal x k v t =
      adds-fixed_word (codes "not") t _ _ (so_far (BeforeLiteral x k v))
      (λ is. (fixed_word (codes "not"), tt, is, simp append_assoc))
      (subst (λ l. Adds (step_body limit x k (site v false) t) (spell_within x ++ (spell_frames k ++ l)) t)
      (append-nil (spell_level v)) (adds-body x k (site v false) t))

  pub adds-before_operand : (x : Within) (k : List Frame) (s : Site) (lead : Lead) (t : Placed)
      → Adds (step_in limit (BeforeOperand x k s lead) t) (so_far (BeforeOperand x k s lead)) t
  adds-before_operand x k s lead t = adds-punct Open t _ (refuse t.token) (so_far (BeforeOperand x k s lead))
      (λ is. adds-open limit k (BeforeExpr x (Operand s lead ∷ k)) (so_far (BeforeOperand x k s lead)) t
      (opening, tt, is, simp append_assoc)) tt

  pub adds-name : (x : Within) (k : List Frame) (s : Site) (p : Property) (e : Tree) (t : Placed)
      → Adds (step_in limit (BeforeName x k s p e) t) (so_far (BeforeName x k s p e)) t
  adds-name x k s p e t = adds-word (λ w. Go (BehindName x k s p e w)) t (so_far (BeforeName x k s p e))
      (λ w is. (spelled_word (spot w t.place), tt, is, simp append_assoc))

  pub adds-behind_name : (x : Within) (k : List Frame) (s : Site) (p : Property) (e : Tree) (w : Spot) (t : Placed)
      → Adds (step_in limit (BehindName x k s p e w) t) (so_far (BehindName x k s p e w)) t
  adds-behind_name x k s p e w t = adds-punct Close t _ (refuse t.token) (so_far (BehindName x k s p e w))
      (λ is. (closing, tt, is, so_far-with_atom x k s (Test p e w) ∙ simp append_assoc)) tt

  pub adds-amount_behind : (x : Within) (k : List Frame) (s : Site) (a : Amount) (t : Placed)
      → Adds (step_in limit (AfterAmount x k s a) t) (so_far (AfterAmount x k s a)) t
  adds-amount_behind x k s a t =
      adds-any_sign (λ sign. on_found (λ sense. Go (AfterSense x k s a sense)) (Refuse Syntax) (sense_of sign.text)) t
      (so_far (AfterAmount x k s a))
      (λ w is. adds-found _ (Refuse Syntax) (sense_of w) (so_far (AfterAmount x k s a)) t
      (λ c e. (Said (Sign (sense_sign c)), tt, is.0 ∙ ap Sign (sense_of-is w c e), simp append_assoc)) tt)

  pub adds-second_amount : (x : Within) (k : List Frame) (s : Site) (a : Amount) (sense : Sense) (t : Placed)
      → Adds (step_in limit (AfterSense x k s a sense) t) (so_far (AfterSense x k s a sense)) t
  adds-second_amount x k s a sense t = adds-word (λ w. step_amount x k s (OnRight a sense) w) t
      (so_far (AfterSense x k s a sense)) (λ w is. adds-amount x k s (OnRight a sense) t w is)

  -- ---- behind a literal

  pub adds-literal_behind : (x : Within) (k : List Frame) (v : Level) (l : Literal) (t : Placed)
      → Adds (step_in limit (AfterLiteral x k v l) t) (so_far (AfterLiteral x k v l)) t
  adds-literal_behind x k v l t =
      adds-fixed_word (codes "and") t _ _ (so_far (AfterLiteral x k v l))
      (λ is. (fixed_word (codes "and"), tt, is, rw (spell_level-next_literal v l) (simp append_assoc)))
      (adds-fixed_word (codes "or") t _ _ (so_far (AfterLiteral x k v l))
      (λ is. (fixed_word (codes "or"), tt, is, rw (spell_level-next_alternative v l) (simp append_assoc)))
      (adds-whole x k v l t))
