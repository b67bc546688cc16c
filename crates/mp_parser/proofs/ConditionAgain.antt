-- What matches the spelling of a condition is read.
use Rattle.std.proofs.Common.{◌≡◌, ℕ, zero, suc, Bool, true, false, cond, List, [], ◌∷◌, ◌++◌, None, Result, Err}
use Rattle.std.proofs.Common.{refl, sym, ap, ◌∙◌, arith, append_assoc, append-nil}
use Rattle.std.specs.Prelude.{codes}
use Rattle.std.specs.Str.{bytes_eq}
use Rattle.std.proofs.lemmas.Slice.Eq.{bytes_eq-Decides}
use Rattle.mp_parser.specs.declared.token.Punct.TheVariants.{Open, OpenSquare, CloseSquare, Colon, OpenBrace}
use Rattle.mp_parser.specs.declared.fault.Fault.{Fault}
use Rattle.mp_parser.specs.declared.fault.FaultKind.TheVariants.{Syntax}
use Rattle.mp_parser.specs.declared.condition_tree.Measure.{Measure}
use Rattle.mp_parser.specs.declared.condition_tree.Measure.TheVariants.{Count, Size}
use Rattle.mp_parser.specs.declared.condition_tree.Sense.{Sense}
use Rattle.mp_parser.specs.declared.condition_tree.Relation.{Relation}
use Rattle.mp_parser.specs.declared.condition_tree.Relation.TheVariants.{Same, Less, Free}
use Rattle.mp_parser.specs.declared.condition_tree.Property.{Property}
use Rattle.mp_parser.specs.declared.condition_tree.Property.TheVariants as properties
use Rattle.mp_parser.specs.Tokens.{Word, Sign, Punctuation, Placed}
use Rattle.mp_parser.specs.Syntax.{Spot, Tree, Amount, Number, Measured, Atom, Compare, Relate, Test, Literal, AtomOf}
use Rattle.mp_parser.specs.Syntax.{Bracketed, Literals, no_literals, more_literals, literals, literal_list, Condition}
use Rattle.mp_parser.specs.Syntax.{no_alternatives, more_alternatives, condition, alternative_list, Statement, Said}
use Rattle.mp_parser.specs.Syntax.{Matches, AllMatch, spell, spell_amount, spell_atom, spell_not, spell_literal}
use Rattle.mp_parser.specs.Syntax.{spell_literals, spell_alternatives, spell_condition, spelled_word, fixed_word}
use Rattle.mp_parser.specs.Syntax.{opening, closing, comma, measure_word, sense_sign, relation_word, property_word}
use Rattle.mp_parser.specs.Syntax.{Fits, FitsAmount, FitsAtom, FitsLiteral, LiteralsFit, AlternativesFit}
use Rattle.mp_parser.specs.Syntax.{FitsCondition}
use Rattle.mp_parser.specs.Machine.{run_in, step_in, Within, Frame, Operand, Second, Square, Level, no_level}
use Rattle.mp_parser.specs.Machine.{next_literal, Site, site, Side, OnLeft, OnRight, Lead, OfMeasure, OfRelation}
use Rattle.mp_parser.specs.Machine.{OfProperty, State, BeforeExpr, AfterExpr, BeforeLiteral, BeforeBody}
use Rattle.mp_parser.specs.Machine.{BeforeOperand, BeforeName, BehindName, AfterAmount, AfterSense, AfterLiteral}
use Rattle.mp_parser.specs.Machine.{Step, Go, Refuse, Parsed, no_fault, is_punct, is_word, is_number, measure_of}
use Rattle.mp_parser.specs.Machine.{sense_of, relation_of, property_of, spot, on_found, with_atom, with_amount}
use Rattle.mp_parser.specs.Machine.{step_amount, step_whole, after_step}
use Rattle.mp_parser.specs.ConditionParsing.{level, EndsCondition}
use Rattle.mp_parser.specs.Parsing.{HasRoomIn}
use Rattle.mp_parser.proofs.Trees.{literal-atom}
use Rattle.mp_parser.proofs.Again.{split, led, joined, over, word-taken, sign-taken, EachContinuesNone, nothing}
use Rattle.mp_parser.proofs.Again.{ReadTo, expr-between}
use Rattle.mp_parser.proofs.ConditionRuns.{measure_of-word, sense_of-sign, relation_of-word, property_of-word}
use Rattle.mp_parser.proofs.ConditionRuns.{open-step, square-step, plain-step}

-- ---- lists

-- the literals of the list of literals
pub literals-literal_list : (ls : Literals) → literals (literal_list ls) ≡ ls
literals-literal_list no_literals = refl
literals-literal_list (more_literals l ls) = ap (more_literals l) (literals-literal_list ls)

-- the condition of the list of alternatives
pub condition-alternative_list : (c : Condition) → condition (alternative_list c) ≡ c
condition-alternative_list no_alternatives = refl
condition-alternative_list (more_alternatives a c) = ap (more_alternatives a) (condition-alternative_list c)

-- ---- words of digits

-- a word that is no number is no word of digits
no-number : (w v : List ℕ) → is_number v ≡ false → is_number w ≡ true → bytes_eq w v ≡ false
no-number w v h k = go (bytes_eq w v) refl
  where
    go : (b : Bool) → bytes_eq w v ≡ b → b ≡ false
    go true e = sym k ∙ ap is_number ((bytes_eq-Decides w v).0 e) ∙ h
    go false e = refl

-- a word that begins an amount begins nothing else
record BeginsAmount (w : List ℕ) : Type 0 where
  no_relation : relation_of w ≡ None
  no_property : property_of w ≡ None
  no_negation : bytes_eq w (codes "not") ≡ false

number-begins : (w : List ℕ) → is_number w ≡ true → BeginsAmount w
number-begins w h = record {
  no_relation =
      rw (
        no-number w (relation_word Same) refl h,
        no-number w (relation_word Less) refl h,
        no-number w (relation_word Free) refl h,
      ) refl;
  no_property =
      rw (no-number w (property_word properties.Kind) refl h, no-number w (property_word properties.Head) refl h) refl;
  no_negation = no-number w (codes "not") refl h;
}

measure-begins : (m : Measure) → BeginsAmount (measure_word m)
measure-begins Count = record { no_relation = refl; no_property = refl; no_negation = refl }
measure-begins Size = record { no_relation = refl; no_property = refl; no_negation = refl }

measure-no_number : (m : Measure) → is_number (measure_word m) ≡ false
measure-no_number Count = refl
measure-no_number Size = refl

-- a closing bracket and a comma continue no expression
closing-continues_none : EachContinuesNone closing
closing-continues_none t h = (ap (is_punct Open) h, ap (is_punct Colon) h, ap (is_punct OpenBrace) h)

comma-continues_none : EachContinuesNone comma
comma-continues_none t h = (ap (is_punct Open) h, ap (is_punct Colon) h, ap (is_punct OpenBrace) h)

number-of : (room : ℕ) (w : Spot) → FitsAmount room (Number w) → is_number w.text ≡ true
number-of zero w h = h
number-of (suc room) w h = h

module _ (limit : ℕ) where
  module _ (done : List Statement) (x : Within) where
    -- ---- atoms

    -- from this state on a word of an amount leads to where the amount does
    abbrev StartsAmount : State → List Frame → Site → Side → Type 0
    StartsAmount at k s side = (t : Placed) (w : Spot) → t.token ≡ Word w.text → t.place ≡ w.place → BeginsAmount w.text
        → step_in limit at t ≡ step_amount x k s side w

    right-starts : (k : List Frame) (s : Site) (a : Amount) (sense : Sense)
        → StartsAmount (AfterSense x k s a sense) k s (OnRight a sense)
    right-starts k s a sense t w h p b = word-taken (λ w. step_amount x k s (OnRight a sense) w) t w (h, p)

    left-starts : (k : List Frame) (s : Site) → StartsAmount (BeforeBody x k s) k s OnLeft
    left-starts k s t w h p b =
        plain-step limit x k s t w h p
        ∙ ap (on_found (λ r. Go (BeforeOperand x k s (OfRelation r)))
        (on_found (λ p. Go (BeforeOperand x k s (OfProperty p))) (step_amount x k s OnLeft w) (property_of w.text)))
        b.no_relation
        ∙ ap (on_found (λ p. Go (BeforeOperand x k s (OfProperty p))) (step_amount x k s OnLeft w)) b.no_property

    -- the bracket of an operand, and the operand
    operand-again : (k : List Frame) (s : Site) (lead : Lead) (room : ℕ) (e : Tree) (m : _) (ms : _) (o : Placed)
        (ts us : List Placed) → Matches o opening → AllMatch ts (spell e ++ m ∷ ms) → Fits room e
        → HasRoomIn limit k (suc room)
        → EachContinuesNone m → ReadTo limit done (BeforeOperand x k s lead) (AfterExpr x (Operand s lead ∷ k) e) m ms
        (o ∷ ts) us
    operand-again k s lead room e m ms o ts us is h fits len none =
        let r = expr-between limit done x (Operand s lead ∷ k) room e m ms ts us h fits (omega (arith, len)) none in
        record {
          token = r.token;
          others = r.others;
          match = r.match;
          behind = r.behind;
          read = over limit done (BeforeOperand x k s lead) (BeforeExpr x (Operand s lead ∷ k)) o (ts ++ us)
              (open-step limit x k s lead o (suc room) len (omega arith) (ap (is_punct Open) is)) ∙ r.read;
        }

    amount-again : (at : State) (k : List Frame) (s : Site) (side : Side) (room : ℕ) (a : Amount) (ts us : List Placed)
        → StartsAmount at k s side → AllMatch ts (spell_amount a) → FitsAmount room a → HasRoomIn limit k room
        → run_in limit done at (ts ++ us) ≡ run_in limit done (with_amount x k s side a) us
    amount-again at k s side room (Number w) [] us starts h fits len = absurd h
    amount-again at k s side room (Number w) (t ∷ []) us starts h fits len =
        let digits = number-of room w fits in
        over limit done at (with_amount x k s side (Number w)) t us
        (starts t w h.0.0 h.0.1 (number-begins w.text digits) ∙ rw digits refl)
    amount-again at k s side room (Number w) (t ∷ v ∷ ts) us starts h fits len = absurd h.1
    amount-again at k s side zero (Measured m e) ts us starts h fits len = absurd fits
    amount-again at k s side (suc room) (Measured m e) [] us starts h fits len = absurd h
    amount-again at k s side (suc room) (Measured m e) (t ∷ []) us starts h fits len = absurd h.1
    amount-again at k s side (suc room) (Measured m e) (t ∷ o ∷ ts) us starts h fits len =
        let w : Spot = spot (measure_word m) t.place in
        let r = operand-again k s (OfMeasure side m) room e closing
        [] o ts us h.1.0 h.1.1 fits len closing-continues_none in
        over limit done at (BeforeOperand x k s (OfMeasure side m)) t (o ∷ (ts ++ us))
        (starts t w h.0 refl (measure-begins m)
        ∙ ap (λ b. cond b (Go (with_amount x k s side (Number w)))
        (on_found (λ m. Go (BeforeOperand x k s (OfMeasure side m))) (Refuse Syntax) (measure_of (measure_word m))))
        (measure-no_number m)
        ∙ ap (on_found (λ m. Go (BeforeOperand x k s (OfMeasure side m))) (Refuse Syntax)) (measure_of-word m))
        ∙ r.read
        ∙ over limit done (AfterExpr x (Operand s (OfMeasure side m) ∷ k) e)
        (with_amount x k s side (Measured m e)) r.token
        (r.others ++ us) (rw r.match refl)
        ∙ ap (λ l. run_in limit done (with_amount x k s side (Measured m e)) (l ++ us)) (nothing r.others r.behind)

    compare-again : (k : List Frame) (s : Site) (room : ℕ) (a : Amount) (sense : Sense) (b : Amount)
        (ts us : List Placed)
        → AllMatch ts (spell_atom (Compare a sense b)) → FitsAmount room a → FitsAmount room b → HasRoomIn limit k room
        → run_in limit done (BeforeBody x k s) (ts ++ us) ≡ run_in limit done (with_atom x k s (Compare a sense b)) us
    compare-again k s room a sense b ts us h a-fits b-fits len =
        let r = split (spell_amount a) (Said (Sign (sense_sign sense)) ∷ spell_amount b) ts h in
        let c = led (Said (Sign (sense_sign sense))) (spell_amount b) r.back r.second in
        ap (run_in limit done (BeforeBody x k s)) (joined ts r.front r.back c.token c.others us r.parts c.parts)
        ∙ amount-again (BeforeBody x k s) k s OnLeft room a r.front (c.token ∷ (c.others ++ us))
        (left-starts k s) r.first a-fits len
        ∙ over limit done (AfterAmount x k s a) (AfterSense x k s a sense) c.token (c.others ++ us)
        (sign-taken (λ sign. on_found (λ sense. Go (AfterSense x k s a sense)) (Refuse Syntax) (sense_of sign.text))
        c.token (spot (sense_sign sense) c.token.place) (c.match, refl)
        ∙ ap (on_found (λ sense. Go (AfterSense x k s a sense)) (Refuse Syntax)) (sense_of-sign sense))
        ∙ amount-again (AfterSense x k s a sense) k s (OnRight a sense) room b c.others us
        (right-starts k s a sense) c.behind b-fits len

    relate-again : (k : List Frame) (s : Site) (room : ℕ) (r : Relation) (d e : Tree) (ts us : List Placed)
        → AllMatch ts (spell_atom (Relate r d e)) → Fits room d → Fits room e → HasRoomIn limit k (suc room)
        → run_in limit done (BeforeBody x k s) (ts ++ us) ≡ run_in limit done (with_atom x k s (Relate r d e)) us
    relate-again k s room r d e [] us h d-fits e-fits len = absurd h
    relate-again k s room r d e (t ∷ []) us h d-fits e-fits len = absurd h.1
    relate-again k s room r d e (t ∷ o ∷ ts) us h d-fits e-fits len =
        let w : Spot = spot (relation_word r) t.place in
        let f = operand-again k s (OfRelation r) room d comma
        (spell e ++ closing ∷ []) o ts us h.1.0 h.1.1 d-fits len comma-continues_none in
        let g = expr-between limit done x (Second s r d ∷ k) room e closing [] f.others us f.behind e-fits
        (omega (arith, len)) closing-continues_none in
        over limit done (BeforeBody x k s) (BeforeOperand x k s (OfRelation r)) t (o ∷ (ts ++ us))
        (plain-step limit x k s t w h.0 refl
        ∙ ap (on_found (λ r. Go (BeforeOperand x k s (OfRelation r)))
        (on_found (λ p. Go (BeforeOperand x k s (OfProperty p))) (step_amount x k s OnLeft w) (property_of w.text)))
        (relation_of-word r))
        ∙ f.read
        ∙ over limit done (AfterExpr x (Operand s (OfRelation r) ∷ k) d) (BeforeExpr x (Second s r d ∷ k)) f.token
        (f.others ++ us) (rw f.match refl)
        ∙ g.read
        ∙ over limit done (AfterExpr x (Second s r d ∷ k) e) (with_atom x k s (Relate r d e)) g.token (g.others ++ us)
        (rw g.match refl)
        ∙ ap (λ l. run_in limit done (with_atom x k s (Relate r d e)) (l ++ us)) (nothing g.others g.behind)

    name-again : (k : List Frame) (s : Site) (p : Property) (e : Tree) (w : Spot) (ts us : List Placed)
        → AllMatch ts (spelled_word w ∷ closing ∷ [])
        → run_in limit done (BeforeName x k s p e) (ts ++ us) ≡ run_in limit done (with_atom x k s (Test p e w)) us
    name-again k s p e w [] us h = absurd h
    name-again k s p e w (n ∷ []) us h = absurd h.1
    name-again k s p e w (n ∷ c ∷ []) us h =
        over limit done (BeforeName x k s p e) (BehindName x k s p e w) n (c ∷ us)
        (word-taken (λ w. Go (BehindName x k s p e w)) n w h.0)
        ∙ over limit done (BehindName x k s p e w) (with_atom x k s (Test p e w)) c us (rw h.1.0 refl)
    name-again k s p e w (n ∷ c ∷ t ∷ ts) us h = absurd h.1.1

    test-again : (k : List Frame) (s : Site) (room : ℕ) (p : Property) (e : Tree) (w : Spot) (ts us : List Placed)
        → AllMatch ts (spell_atom (Test p e w)) → Fits room e → HasRoomIn limit k (suc room)
        → run_in limit done (BeforeBody x k s) (ts ++ us) ≡ run_in limit done (with_atom x k s (Test p e w)) us
    test-again k s room p e w [] us h fits len = absurd h
    test-again k s room p e w (t ∷ []) us h fits len = absurd h.1
    test-again k s room p e w (t ∷ o ∷ ts) us h fits len =
        let v : Spot = spot (property_word p) t.place in
        let f = operand-again k s (OfProperty p) room e comma
        (spelled_word w ∷ closing ∷ []) o ts us h.1.0 h.1.1 fits len comma-continues_none in
        over limit done (BeforeBody x k s) (BeforeOperand x k s (OfProperty p)) t (o ∷ (ts ++ us))
        (plain-step limit x k s t v h.0 refl
        ∙ ap (on_found (λ r. Go (BeforeOperand x k s (OfRelation r)))
        (on_found (λ p. Go (BeforeOperand x k s (OfProperty p))) (step_amount x k s OnLeft v)
        (property_of (property_word p)))) (no_relation p)
        ∙ ap (on_found (λ p. Go (BeforeOperand x k s (OfProperty p))) (step_amount x k s OnLeft v))
        (property_of-word p))
        ∙ f.read
        ∙ over limit done (AfterExpr x (Operand s (OfProperty p) ∷ k) e) (BeforeName x k s p e) f.token (f.others ++ us)
        (rw f.match refl)
        ∙ name-again k s p e w f.others us f.behind
      where
        no_relation : (p : Property) → relation_of (property_word p) ≡ None
        no_relation properties.Kind = refl
        no_relation properties.Head = refl

    atom-again : (k : List Frame) (s : Site) (room : ℕ) (a : Atom) (ts us : List Placed) → AllMatch ts (spell_atom a)
        → FitsAtom room a → HasRoomIn limit k room
        → run_in limit done (BeforeBody x k s) (ts ++ us) ≡ run_in limit done (with_atom x k s a) us
    atom-again k s zero (Compare a sense b) ts us h fits len =
        compare-again k s zero a sense b ts us h fits.0 fits.1 len
    atom-again k s (suc room) (Compare a sense b) ts us h fits len =
        compare-again k s (suc room) a sense b ts us h fits.0 fits.1 len
    atom-again k s zero (Relate r d e) ts us h fits len = absurd fits
    atom-again k s (suc room) (Relate r d e) ts us h fits len = relate-again k s room r d e ts us h fits.0 fits.1 len
    atom-again k s zero (Test p e w) ts us h fits len = absurd fits
    atom-again k s (suc room) (Test p e w) ts us h fits len = test-again k s room p e w ts us h fits len

    -- ---- literals

    -- a token that is no `not` begins the body of a literal
    body-begins : (k : List Frame) (v : Level) (t : Placed) (ts : List Placed) → is_word (codes "not") t.token ≡ false
        → run_in limit done (BeforeLiteral x k v) (t ∷ ts) ≡ run_in limit done (BeforeBody x k (site v false)) (t ∷ ts)
    body-begins k v t ts h = rw h refl

    -- an atom begins with no `not`
    amount-begins : (room : ℕ) (a : Amount) (ms : _) (t : Placed) (ts : List Placed)
        → AllMatch (t ∷ ts) (spell_amount a ++ ms) → FitsAmount room a → is_word (codes "not") t.token ≡ false
    amount-begins room (Number w) ms t ts h fits = ap (is_word (codes "not")) h.0.0
        ∙ (number-begins w.text (number-of room w fits)).no_negation
    amount-begins room (Measured m e) ms t ts h fits = ap (is_word (codes "not")) h.0 ∙ (measure-begins m).no_negation

    atom-begins : (room : ℕ) (a : Atom) (t : Placed) (ts : List Placed) → AllMatch (t ∷ ts) (spell_atom a)
        → FitsAtom room a → is_word (codes "not") t.token ≡ false
    atom-begins zero (Compare a sense b) t ts h fits = amount-begins zero a _ t ts h fits.0
    atom-begins (suc room) (Compare a sense b) t ts h fits = amount-begins (suc room) a _ t ts h fits.0
    atom-begins room (Relate r d e) t ts h fits = ap (is_word (codes "not")) h.0 ∙ at r
      where
        at : (r : Relation) → bytes_eq (relation_word r) (codes "not") ≡ false
        at Same = refl
        at _ = refl
    atom-begins room (Test p e w) t ts h fits = ap (is_word (codes "not")) h.0 ∙ at p
      where
        at : (p : Property) → bytes_eq (property_word p) (codes "not") ≡ false
        at properties.Kind = refl
        at properties.Head = refl

    -- perhaps `not`, and a body that begins with none
    negated-again : (k : List Frame) (v : Level) (negated : Bool) (ms : _) (ts us : List Placed)
        → AllMatch ts (spell_not negated ++ ms) → (next : State)
        → ((t : Placed) (ts : List Placed) → AllMatch (t ∷ ts) ms → is_word (codes "not") t.token ≡ false)
        → (AllMatch [] ms → ⊥)
        → ((s : Site) (ts : List Placed) → s ≡ site v negated → AllMatch ts ms
        → run_in limit done (BeforeBody x k s) (ts ++ us) ≡ run_in limit done next us)
        → run_in limit done (BeforeLiteral x k v) (ts ++ us) ≡ run_in limit done next us
    negated-again k v true ms [] us h next begins some read = absurd h
    negated-again k v true ms (t ∷ ts) us h next begins some read =
        over limit done (BeforeLiteral x k v) (BeforeBody x k (site v true)) t (ts ++ us) (rw h.0 refl)
        ∙ read (site v true) ts refl h.1
    negated-again k v false ms [] us h next begins some read = absurd (some h)
    negated-again k v false ms (t ∷ ts) us h next begins some read = body-begins k v t (ts ++ us) (begins t ts h)
        ∙ read (site v false) (t ∷ ts) refl h

    -- the literal is read, whatever is open
    abbrev ReadsLiteral : Literal → Type 0
    ReadsLiteral l = (k : List Frame) (room : ℕ) (v : Level) (ts us : List Placed) → AllMatch ts (spell_literal l)
        → FitsLiteral room l → HasRoomIn limit k room → run_in limit done (BeforeLiteral x k v) (ts ++ us)
        ≡ run_in limit done (AfterLiteral x k v l) us

    -- the step behind alternatives over a token that is no `and`
    abbrev step_alternatives : List Frame → List Literals → Placed → Step
    step_alternatives k before t = cond (is_word (codes "or") t.token) (Go (BeforeLiteral x k (level before [])))
        (step_whole x k (condition before) t)

    -- what is read behind alternatives
    abbrev run_alternatives : List Frame → List Literals → List Placed → Result Parsed Fault
    run_alternatives k before [] = Err no_fault
    run_alternatives k before (t ∷ ts) =
        after_step done t.place (λ d a. run_in limit d a ts) (step_alternatives k before t)

    -- the tokens begin with one that is no `and`
    abbrev EndsLiterals : List Placed → Type 0
    EndsLiterals [] = ⊥
    EndsLiterals (t ∷ ts) = is_word (codes "and") t.token ≡ false

    -- the other literals of an alternative are read behind one
    abbrev ReadsLiterals : Literals → Type 0
    ReadsLiterals ls = (k : List Frame) (room : ℕ) (v : Level) (l : Literal) (ts us : List Placed)
        → AllMatch ts (spell_literals (fixed_word (codes "and") ∷ []) ls) → LiteralsFit room ls → HasRoomIn limit k room
        → EndsLiterals us → run_in limit done (AfterLiteral x k v l) (ts ++ us)
        ≡ run_alternatives k (v.alternatives ++ literals (v.literals ++ l ∷ literal_list ls) ∷ []) us

    -- an alternative is read
    alternative-again : (l : Literal) (ls : Literals) → ReadsLiteral l → ReadsLiterals ls
        → (k : List Frame) (room : ℕ) (v : Level) (ts us : List Placed)
        → AllMatch ts (spell_literal l ++ spell_literals (fixed_word (codes "and") ∷ []) ls) → FitsLiteral room l
        → LiteralsFit room ls → HasRoomIn limit k room → EndsLiterals us
        → run_in limit done (BeforeLiteral x k v) (ts ++ us)
        ≡ run_alternatives k (v.alternatives ++ literals (v.literals ++ l ∷ literal_list ls) ∷ []) us
    alternative-again l ls read-l read-ls k room v ts us h l-fits ls-fit len ends =
        let r = split (spell_literal l) (spell_literals (fixed_word (codes "and") ∷ []) ls) ts h in
        ap (run_in limit done (BeforeLiteral x k v)) (ap (λ l. l ++ us) r.parts ∙ append_assoc r.front r.back us)
        ∙ read-l k room v r.front (r.back ++ us) r.first l-fits len
        ∙ read-ls k room v l r.back us r.second ls-fit len ends

    -- the tokens begin with one that is neither `and` nor `or`
    abbrev EndsAlternatives : List Placed → Type 0
    EndsAlternatives [] = ⊥
    EndsAlternatives (t ∷ ts) = EndsCondition t.token

    -- what is read behind a condition
    abbrev run_whole : List Frame → Condition → List Placed → Result Parsed Fault
    run_whole k c [] = Err no_fault
    run_whole k c (t ∷ ts) = after_step done t.place (λ d a. run_in limit d a ts) (step_whole x k c t)

    -- the other alternatives of a condition are read behind others
    abbrev ReadsAlternatives : Condition → Type 0
    ReadsAlternatives c = (k : List Frame) (room : ℕ) (before : List Literals) (ts us : List Placed)
        → AllMatch ts (spell_alternatives (fixed_word (codes "or") ∷ []) c) → AlternativesFit room c
        → HasRoomIn limit k room
        → EndsAlternatives us → run_alternatives k before (ts ++ us)
        ≡ run_whole k (condition (before ++ alternative_list c)) us

    -- alternatives end the literals before them
    alternatives-end : (c : Condition) (ts us : List Placed)
        → AllMatch ts (spell_alternatives (fixed_word (codes "or") ∷ []) c) → EndsAlternatives us
        → EndsLiterals (ts ++ us)
    alternatives-end no_alternatives [] [] h ends = absurd ends
    alternatives-end no_alternatives [] (u ∷ us) h ends = ends.0
    alternatives-end no_alternatives (t ∷ ts) us h ends = absurd h
    alternatives-end (more_alternatives a c) [] us h ends = absurd h
    alternatives-end (more_alternatives a c) (t ∷ ts) us h ends = ap (is_word (codes "and")) h.0

    -- a condition is read behind alternatives of it
    first-again : (l : Literal) (ls : Literals) (c : Condition) → ReadsLiteral l → ReadsLiterals ls
        → ReadsAlternatives c
        → (k : List Frame) (room : ℕ) (before : List Literals) (ts us : List Placed)
        → AllMatch ts (spell_literals [] (more_literals l ls) ++ spell_alternatives (fixed_word (codes "or") ∷ []) c)
        → LiteralsFit room (more_literals l ls) → AlternativesFit room c → HasRoomIn limit k room → EndsAlternatives us
        → run_in limit done (BeforeLiteral x k (level before [])) (ts ++ us)
        ≡ run_whole k (condition (before ++ more_literals l ls ∷ alternative_list c)) us
    first-again l ls c read-l read-ls read-c k room before ts us h ls-fit c-fits len ends =
        let r = split (spell_literals [] (more_literals l ls))
        (spell_alternatives (fixed_word (codes "or") ∷ []) c) ts h in
        ap (run_in limit done (BeforeLiteral x k (level before [])))
        (ap (λ l. l ++ us) r.parts ∙ append_assoc r.front r.back us)
        ∙ alternative-again l ls read-l read-ls k room (level before []) r.front
        (r.back ++ us) r.first ls-fit.0 ls-fit.1 len (alternatives-end c r.back us r.second ends)
        ∙ ap (λ a. run_alternatives k (before ++ a ∷ []) (r.back ++ us))
        (ap (more_literals l) (literals-literal_list ls))
        ∙ read-c k room (before ++ more_literals l ls ∷ []) r.back us r.second c-fits len ends
        ∙ ap (λ l. run_whole k (condition l) us) (append_assoc before (more_literals l ls ∷ []) (alternative_list c))

    -- the condition is read, whatever is open
    abbrev ReadsCondition : Condition → Type 0
    ReadsCondition c = (k : List Frame) (room : ℕ) (ts us : List Placed) → AllMatch ts (spell_condition c)
        → FitsCondition room c → HasRoomIn limit k room → EndsAlternatives us
        → run_in limit done (BeforeLiteral x k no_level) (ts ++ us) ≡ run_whole k c us

    -- a condition in square brackets is read
    bracketed-again : (c : Condition) → ReadsCondition c → (k : List Frame) (s : Site) (room : ℕ) (ts us : List Placed)
        → AllMatch ts (Said (Punctuation OpenSquare) ∷ spell_condition c ++ Said (Punctuation CloseSquare) ∷ [])
        → FitsCondition room c → HasRoomIn limit k (suc room)
        → run_in limit done (BeforeBody x k s) (ts ++ us)
        ≡ run_in limit done (AfterLiteral x k s.level (Bracketed s.negated c)) us
    bracketed-again c read-c k s room [] us h fits len = absurd h
    bracketed-again c read-c k s room (o ∷ ts) us h fits len =
        let r = split (spell_condition c) (Said (Punctuation CloseSquare) ∷ []) ts h.1 in
        let q = led (Said (Punctuation CloseSquare)) [] r.back r.second in
        over limit done (BeforeBody x k s) (BeforeLiteral x (Square s ∷ k) no_level) o (ts ++ us)
        (square-step limit x k s o (suc room) len (omega arith) (ap (is_punct OpenSquare) h.0))
        ∙ ap (run_in limit done (BeforeLiteral x (Square s ∷ k) no_level))
        (joined ts r.front r.back q.token q.others us r.parts q.parts)
        ∙ read-c (Square s ∷ k) room r.front (q.token ∷ (q.others ++ us)) r.first fits (omega (arith, len))
        (ap (is_word (codes "and")) q.match, ap (is_word (codes "or")) q.match)
        ∙ rw q.match refl
        ∙ ap (λ l. run_in limit done (AfterLiteral x k s.level (Bracketed s.negated c)) (l ++ us))
        (nothing q.others q.behind)

    mutual
      literal-again : (l : Literal) → ReadsLiteral l
      literal-again (AtomOf negated a) k room v ts us h fits len =
          negated-again k v negated (spell_atom a) ts us h (AfterLiteral x k v (AtomOf negated a))
          (λ t ts m. atom-begins room a t ts m (literal-atom room negated a fits)) (some_atom a)
          (λ s ts e m. atom-again k s room a ts us m (literal-atom room negated a fits) len
          ∙ ap (λ (s : Site). run_in limit done (with_atom x k s a) us) e)
        where
          some_amount : (a : Amount) (ms : _) → AllMatch [] (spell_amount a ++ ms) → ⊥
          some_amount (Number w) ms h = h
          some_amount (Measured m e) ms h = h

          some_atom : (a : Atom) → AllMatch [] (spell_atom a) → ⊥
          some_atom (Compare a sense b) h = some_amount a _ h
          some_atom (Relate r d e) h = h
          some_atom (Test p e w) h = h
      literal-again (Bracketed negated c) k zero v ts us h fits len = absurd fits
      literal-again (Bracketed negated c) k (suc room) v ts us h fits len =
          negated-again k v negated (Said (Punctuation OpenSquare) ∷ spell_condition c ++ Said (Punctuation CloseSquare)
          ∷ []) ts us h (AfterLiteral x k v (Bracketed negated c)) (λ t ts m. ap (is_word (codes "not")) m.0) (λ m. m)
          (λ s ts e m. bracketed-again c (condition-reads c) k s room ts us m fits len
          ∙ ap (λ (s : Site). run_in limit done (AfterLiteral x k s.level (Bracketed s.negated c)) us) e)

      literals-again : (ls : Literals) → ReadsLiterals ls
      literals-again no_literals k room v l [] [] h fits len ends = absurd ends
      literals-again no_literals k room v l [] (u ∷ us) h fits len ends =
          rw ends refl
      literals-again no_literals k room v l (t ∷ ts) us h fits len ends = absurd h
      literals-again (more_literals m ls) k room v l [] us h fits len ends = absurd h
      literals-again (more_literals m ls) k room v l (t ∷ ts) us h fits len ends =
          over limit done (AfterLiteral x k v l) (BeforeLiteral x k (next_literal v l)) t (ts ++ us) (rw h.0 refl)
          ∙ alternative-again m ls (literal-again m) (literals-again ls) k room
          (next_literal v l) ts us h.1 fits.0 fits.1 len ends
          ∙ ap (λ r. run_alternatives k (v.alternatives ++ literals r ∷ []) us)
          (append_assoc v.literals (l ∷ []) (m ∷ literal_list ls))

      alternatives-again : (c : Condition) → ReadsAlternatives c
      alternatives-again no_alternatives k room before [] [] h fits len ends = absurd ends
      alternatives-again no_alternatives k room before [] (u ∷ us) h fits len ends =
          rw ends.1 refl
          ∙ ap (λ l. after_step done u.place (λ d a. run_in limit d a us) (step_whole x k (condition l) u))
          (sym (append-nil before))
      alternatives-again no_alternatives k room before (t ∷ ts) us h fits len ends = absurd h
      alternatives-again (more_alternatives a c) k room before [] us h fits len ends = absurd h
      alternatives-again (more_alternatives no_literals c) k room before (t ∷ ts) us h fits len ends = absurd fits.0
      alternatives-again (more_alternatives (more_literals l ls) c) k room before (t ∷ ts) us h fits len ends =
          rw h.0 refl
          ∙ first-again l ls c (literal-again l) (literals-again ls)
          (alternatives-again c) k room before ts us h.1 fits.1 fits.2 len ends

      condition-reads : (c : Condition) → ReadsCondition c
      condition-reads no_alternatives k room ts us h fits len ends = absurd fits.0
      condition-reads (more_alternatives no_literals c) k room ts us h fits len ends = absurd fits.1.0
      condition-reads (more_alternatives (more_literals l ls) c) k room ts us h fits len ends =
          first-again l ls c (literal-again l) (literals-again ls) (alternatives-again c) k room
          [] ts us h fits.1.1 fits.1.2 len ends
          ∙ ap (λ c. run_whole k (more_alternatives (more_literals l ls) c) us) (condition-alternative_list c)

  -- a condition is read up to a token that is neither `and` nor `or`
  pub condition-again : (done : List Statement) (x : Within) (c : Condition) (k : List Frame) (room : ℕ)
      (ts : List Placed) (u : Placed) (us : List Placed) → AllMatch ts (spell_condition c) → FitsCondition room c
      → HasRoomIn limit k room → EndsCondition u.token
      → run_in limit done (BeforeLiteral x k no_level) (ts ++ u ∷ us)
      ≡ after_step done u.place (λ d a. run_in limit d a us) (step_whole x k c u)
  condition-again done x c k room ts u us h fits len ends = condition-reads done x c k room ts (u ∷ us) h fits len ends
