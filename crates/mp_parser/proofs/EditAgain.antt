-- What matches the spelling of changes of an edit is read.
use Rattle.std.proofs.Common.{◌≡◌, ℕ, zero, suc, ◌-◌, ◌<◌, false, cond, List, [], ◌∷◌, ◌++◌, refl, sym, ap}
use Rattle.std.proofs.Common.{subst, ◌∙◌, arith, append_assoc, append-nil}
use Rattle.std.proofs.lemmas.Bool.{lt-leb}
use Rattle.std.specs.List.{flat_map}
use Rattle.mp_parser.specs.declared.token.Punct.TheVariants.{Open, Colon, OpenBrace, OpenSquare, CloseSquare, Dot}
use Rattle.mp_parser.specs.Tokens.{Placed}
use Rattle.mp_parser.specs.Syntax as syntax
use Rattle.mp_parser.specs.Syntax.{Spot, Trees, no_trees, more_trees, trees, Position, Root, Path, Replacement}
use Rattle.mp_parser.specs.Syntax.{Listed, Change, EditOf, Expected, AllMatch, spell, spell_first, spell_others}
use Rattle.mp_parser.specs.Syntax.{spell_index, spell_position, spell_replacement, spell_change, spell_changes, arrow}
use Rattle.mp_parser.specs.Syntax.{comma, semicolon, AreFit, AreNumbers, FitsPosition, FitsListed, FitsReplacement}
use Rattle.mp_parser.specs.Syntax.{ChangesFit, Statement}
use Rattle.mp_parser.specs.Machine.{run_in, Edited, edited, change, with_change, InChange, Listing, Top}
use Rattle.mp_parser.specs.Machine.{BeforeExpr, BeforeChange, AfterPosition, BeforeIndex, AfterArrow}
use Rattle.mp_parser.specs.Machine.{AfterSquare, AfterChange, Go, is_punct, on_number, step_number, step_changes}
use Rattle.mp_parser.proofs.Trees.{trees-tree_list}
use Rattle.mp_parser.proofs.Again.{split, led, joined, over, ended, word-taken, nothing, EachContinuesNone, ReadTo}
use Rattle.mp_parser.proofs.Again.{IsRow, spell-begins, row-again, expr-again, others-again, expr-between}

-- ---- what continues no expression

comma-continues_none : EachContinuesNone comma
comma-continues_none t h = (ap (is_punct Open) h, ap (is_punct Colon) h, ap (is_punct OpenBrace) h)

semicolon-continues_none : EachContinuesNone semicolon
semicolon-continues_none t h = (ap (is_punct Open) h, ap (is_punct Colon) h, ap (is_punct OpenBrace) h)

-- a list that fits stands where a bracket may be opened, and its expressions fit in it
listed-room : (room : ℕ) (ts : Trees) → FitsListed room ts → (0 < room) × AreFit (room - 1) ts
listed-room zero ts h = absurd h
listed-room (suc room) ts h = (omega arith, subst (λ n. AreFit n ts) (omega arith) h)

module _ (limit : ℕ) (done : List Statement) where
  -- ---- positions

  -- further numbers and the arrow are read
  indices-again : (d : Edited) (first : Spot) (others before : List Spot) (ts us : List Placed)
      → AllMatch ts (flat_map spell_index others ++ arrow ∷ []) → AreNumbers others
      → run_in limit done (AfterPosition d (Path first before)) (ts ++ us)
      ≡ run_in limit done (AfterArrow d (Path first (before ++ others))) us
  indices-again d first [] before [] us h k = absurd h
  indices-again d first [] before (a ∷ []) us h k =
      over limit done (AfterPosition d (Path first before)) (AfterArrow d (Path first before)) a us (rw h.0 refl)
      ∙ ap (λ l. run_in limit done (AfterArrow d (Path first l)) us) (sym (append-nil before))
  indices-again d first [] before (a ∷ t ∷ ts) us h k = absurd h.1
  indices-again d first (w ∷ others) before [] us h k = absurd h
  indices-again d first (w ∷ others) before (p ∷ []) us h k = absurd h.1
  indices-again d first (w ∷ others) before (p ∷ n ∷ ts) us h k =
      over limit done (AfterPosition d (Path first before)) (BeforeIndex d first before) p (n ∷ ts ++ us) (rw h.0 refl)
      ∙ over limit done (BeforeIndex d first before) (AfterPosition d (Path first (before ++ w ∷ []))) n (ts ++ us)
      (word-taken (λ v. step_number (λ v. AfterPosition d (Path first (before ++ v ∷ []))) v) n w h.1.0 ∙ rw k.0 refl)
      ∙ indices-again d first others (before ++ w ∷ []) ts us h.1.1 k.1
      ∙ ap (λ l. run_in limit done (AfterArrow d (Path first l)) us) (append_assoc before (w ∷ []) others)

  -- a position and the arrow are read
  position-again : (d : Edited) (p : Position) (ts us : List Placed) → AllMatch ts (spell_position p ++ arrow ∷ [])
      → FitsPosition p → run_in limit done (BeforeChange d) (ts ++ us) ≡ run_in limit done (AfterArrow d p) us
  position-again d (Root place) [] us h k = absurd h
  position-again d (Root place) (t ∷ []) us h k = absurd h.1
  position-again d (Root place) (t ∷ a ∷ []) us h k =
      over limit done (BeforeChange d) (AfterPosition d (Root place)) t (a ∷ us) (rw (h.0.0, h.0.1) refl)
      ∙ over limit done (AfterPosition d (Root place)) (AfterArrow d (Root place)) a us (rw h.1.0 refl)
  position-again d (Root place) (t ∷ a ∷ v ∷ ts) us h k = absurd h.1.1
  position-again d (Path first others) [] us h k = absurd h
  position-again d (Path first others) (t ∷ ts) us h k =
      over limit done (BeforeChange d) (AfterPosition d (Path first [])) t (ts ++ us)
      (ap (λ u. cond (is_punct Dot u) (Go (AfterPosition d (Root t.place)))
      (on_number t (λ w. AfterPosition d (Path w [])))) h.0.0
      ∙ word-taken (λ w. step_number (λ w. AfterPosition d (Path w [])) w) t first h.0 ∙ rw k.0 refl)
      ∙ indices-again d first others [] ts us h.1 k.1

  -- ---- what stands there then

  -- a token that opens no list begins an expression
  no-list : (d : Edited) (p : Position) (t : Placed) (us : List Placed) → is_punct OpenSquare t.token ≡ false
      → run_in limit done (AfterArrow d p) (t ∷ us) ≡ run_in limit done (BeforeExpr (InChange d p) []) (t ∷ us)
  no-list d p t us h = rw h refl

  -- a token that closes no list begins an expression in it
  no-end : (d : Edited) (p : Position) (t : Placed) (us : List Placed) → is_punct CloseSquare t.token ≡ false
      → run_in limit done (AfterSquare d p) (t ∷ us)
      ≡ run_in limit done (BeforeExpr (InChange d p) (Listing [] ∷ [])) (t ∷ us)
  no-end d p t us h = rw h refl

  listing-row : (d : Edited) (p : Position)
      → IsRow limit done (InChange d p) comma CloseSquare [] Listing
      (λ es. AfterChange d (change p (Listed (trees es))))
  listing-row d p = record {
    closes = λ es e t h. rw h refl;
    separates = λ es e t h. rw h refl;
    continues_none = comma-continues_none;
    ends_none = λ t h. (ap (is_punct Open) h, ap (is_punct Colon) h, ap (is_punct OpenBrace) h);
    opens = λ es. refl;
  }

  -- the expressions of a list are read behind its bracket
  listed-again : (d : Edited) (p : Position) (es : Trees) (ts us : List Placed)
      → AllMatch ts (spell_first comma CloseSquare es) → 0 < limit → AreFit (limit - 1) es
      → run_in limit done (AfterSquare d p) (ts ++ us) ≡ run_in limit done (AfterChange d (change p (Listed es))) us
  listed-again d p no_trees [] us h lt fits = absurd h
  listed-again d p no_trees (t ∷ []) us h lt fits =
      over limit done (AfterSquare d p) (AfterChange d (change p (Listed no_trees))) t us (rw h.0 refl)
  listed-again d p no_trees (t ∷ v ∷ ts) us h lt fits = absurd h.1
  listed-again d p (more_trees e es) ts us h lt fits =
      let x = InChange d p in
      let r = split (spell e) (spell_others comma CloseSquare es) ts h in
      let b = spell-begins e r.front r.first in
      let parts = ap (λ l. l ++ us) (r.parts ∙ ap (λ l. l ++ r.back) b.parts) in
      ap (run_in limit done (AfterSquare d p)) parts
      ∙ no-end d p b.token ((b.others ++ r.back) ++ us) b.is.1
      ∙ ap (run_in limit done (BeforeExpr x (Listing [] ∷ []))) (sym parts)
      ∙ row-again limit done x e es (expr-again limit done x e) (others-again limit done x es) comma CloseSquare []
      Listing (λ es. AfterChange d (change p (Listed (trees es)))) (listing-row d p) (limit - 1) [] ts us h fits.0
      fits.1 (omega (arith, lt))
      ∙ ap (λ l. run_in limit done (AfterChange d (change p (Listed (more_trees e l)))) us) (trees-tree_list es)

  -- what stands at a position is read up to a token that continues no expression
  replacement-again : (d : Edited) (p : Position) (r : Replacement) (m : Expected) (ms : List Expected)
      (ts us : List Placed) → AllMatch ts (spell_replacement r ++ m ∷ ms) → FitsReplacement limit r
      → EachContinuesNone m → ReadTo limit done (AfterArrow d p) (AfterChange d (change p r)) m ms ts us
  replacement-again d p (syntax.Single e) m ms ts us h fits none =
      let s = split (spell e) (m ∷ ms) ts h in
      let b = spell-begins e s.front s.first in
      let parts = ap (λ l. l ++ us) (s.parts ∙ ap (λ l. l ++ s.back) b.parts) in
      let x = expr-between limit done (InChange d p) [] limit e m ms ts us h fits (omega arith) none in
      record {
        token = x.token;
        others = x.others;
        match = x.match;
        behind = x.behind;
        read = ap (run_in limit done (AfterArrow d p)) parts
            ∙ no-list d p b.token ((b.others ++ s.back) ++ us) b.is.2
            ∙ ap (run_in limit done (BeforeExpr (InChange d p) [])) (sym parts)
            ∙ x.read;
      }
  replacement-again d p (Listed es) m ms [] us h fits none = absurd h
  replacement-again d p (Listed es) m ms (o ∷ ts) us h fits none =
      let k = listed-room limit es fits in
      let s = split (spell_first comma CloseSquare es) (m ∷ ms) ts h.1 in
      let l = led m ms s.back s.second in
      record {
        token = l.token;
        others = l.others;
        match = l.match;
        behind = l.behind;
        read =
            over limit done (AfterArrow d p) (AfterSquare d p) o (ts ++ us)
            (rw (h.0, lt-leb limit 0 (omega (arith, k.0))) refl)
            ∙ ap (run_in limit done (AfterSquare d p))
            (joined ts s.front s.back l.token l.others us s.parts l.parts)
            ∙ listed-again d p es s.front (l.token ∷ (l.others ++ us)) s.first k.0 k.1;
      }

  -- ---- changes

  -- what spells a change and what stands behind it, as a position with the arrow and what stands behind that
  change-parts : (p r : List Expected) (m : Expected) (ms : List Expected)
      → (p ++ arrow ∷ r) ++ m ∷ ms ≡ (p ++ arrow ∷ []) ++ (r ++ m ∷ ms)
  change-parts p r m ms = simp append_assoc

  -- a change is read up to a token that continues no expression
  change-again : (d : Edited) (c : Change) (m : Expected) (ms : List Expected) (ts us : List Placed)
      → AllMatch ts (spell_change c ++ m ∷ ms) → FitsPosition c.position → FitsReplacement limit c.terms
      → EachContinuesNone m → ReadTo limit done (BeforeChange d) (AfterChange d c) m ms ts us
  change-again d c m ms ts us h at fits none =
      let s = split (spell_position c.position ++ arrow ∷ []) (spell_replacement c.terms ++ m ∷ ms) ts
      (subst (AllMatch ts) (change-parts (spell_position c.position) (spell_replacement c.terms) m ms) h) in
      let x = replacement-again d c.position c.terms m ms s.back us s.second fits none in
      record {
        token = x.token;
        others = x.others;
        match = x.match;
        behind = x.behind;
        read = ap (run_in limit done (BeforeChange d))
            (ap (λ l. l ++ us) s.parts ∙ append_assoc s.front s.back us)
            ∙ position-again d c.position s.front (s.back ++ us) s.first at
            ∙ x.read;
      }

  -- changes behind others, and the semicolon, are read
  pub changes-again : (subject : Spot) (before : List Change) (c : Change) (cs : List Change) (ts us : List Placed)
      → AllMatch ts (spell_change c ++ (spell_changes (comma ∷ []) cs ++ semicolon ∷ [])) → ChangesFit limit (c ∷ cs)
      → run_in limit done (BeforeChange (edited subject before)) (ts ++ us)
      ≡ run_in limit (done ++ EditOf subject (before ++ c ∷ cs) ∷ []) Top us
  changes-again subject before c [] ts us h fits =
      let d = edited subject before in
      let x = change-again d c semicolon [] ts us h fits.0 fits.1 semicolon-continues_none in
      x.read
      ∙ ended limit done (AfterChange d c) (EditOf subject (before ++ c ∷ [])) x.token (x.others ++ us)
      (ap (step_changes d c) x.match)
      ∙ ap (λ l. run_in limit (done ++ EditOf subject (before ++ c ∷ []) ∷ []) Top (l ++ us))
      (nothing x.others x.behind)
  changes-again subject before c (e ∷ cs) ts us h fits =
      let d = edited subject before in
      let others = spell_changes (comma ∷ []) cs in
      let parts = ap (λ l. spell_change c ++ comma ∷ l) (append_assoc (spell_change e) others (semicolon ∷ [])) in
      let x = change-again d c comma (spell_change e ++ (others ++ semicolon ∷ [])) ts us
      (subst (AllMatch ts) parts h) fits.0 fits.1 comma-continues_none in
      x.read
      ∙ over limit done (AfterChange d c) (BeforeChange (with_change d c)) x.token (x.others ++ us)
      (ap (step_changes d c) x.match)
      ∙ changes-again subject (before ++ c ∷ []) e cs x.others us x.behind fits.2
      ∙ ap (λ l. run_in limit (done ++ EditOf subject l ∷ []) Top us) (append_assoc before (c ∷ []) (e ∷ cs))
