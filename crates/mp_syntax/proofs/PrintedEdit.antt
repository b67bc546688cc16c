-- What is printed of the changes of an edit is read again as those changes.
use Rattle.std.proofs.Common.{◌≡◌, ◌≢◌, ℕ, zero, suc, List, [], ◌∷◌, ◌++◌, map, refl, sym, ap, subst, ◌∙◌}
use Rattle.std.proofs.Common.{append_assoc}
use Rattle.std.specs.Prelude.{codes}
use Rattle.std.specs.List.{flat_map, prefix_len}
use Rattle.mp_parser.specs.declared.place.Place.{Place}
use Rattle.mp_parser.specs.declared.token.Punct.TheVariants.{OpenSquare, CloseSquare, Dot}
use Rattle.mp_parser.specs.Tokens.{Punctuation}
use Rattle.mp_parser.specs.Syntax.{Spot, Trees, Position, Root, Path, Replacement, Single, Listed, Change, Expected}
use Rattle.mp_parser.specs.Syntax.{Said, Stands, spelled_word, comma, dot, arrow, spell_first, spell_index}
use Rattle.mp_parser.specs.Syntax.{spell_position, spell_replacement, spell_change, spell_changes, AreNumbers}
use Rattle.mp_parser.specs.Syntax.{FitsPosition, FitsListed, FitsReplacement, ChangesFit, AreNames, HaveNames}
use Rattle.mp_parser.specs.Syntax.{PositionHasNames, ReplacementHasNames, ChangesHaveNames}
use Rattle.mp_syntax.specs.Printed.{first_text, index_text, position_text, replacement_text, change_text}
use Rattle.mp_syntax.specs.Printed.{changes_text, unplaced_spot, unplaced_position, unplaced_replacement}
use Rattle.mp_syntax.specs.Printed.{unplaced_change}
use Rattle.mp_parser.proofs.Ends.{is_mark_byte}
use Rattle.mp_syntax.proofs.PrintedExpr.{Lexes, lexes-then, lexes-word, lexes-punct, lexes-arrow, lexes-tree}
use Rattle.mp_syntax.proofs.PrintedExpr.{lexes-first, separates-comma}
use Rattle.mp_syntax.proofs.PrintedCondition.{LexesAs, Leads}

-- ---- positions

-- further numbers end a word
indices-end : (ws : List Spot) (rest : List ℕ) → prefix_len is_mark_byte rest ≡ 0
    → prefix_len is_mark_byte (flat_map index_text ws ++ rest) ≡ 0
indices-end [] rest ends = ends
indices-end (w ∷ ws) rest ends = refl

lexes-indices : (ws : List Spot) (rest : List ℕ) (place : Place) → AreNames ws → AreNumbers ws
    → prefix_len is_mark_byte rest ≡ 0
    → LexesAs (flat_map spell_index) (map unplaced_spot) AreNumbers (flat_map index_text ws ++ rest) rest place ws
lexes-indices [] rest place h fits ends =
    record { value = []; same = refl; fits = tt; lexes = record { ts = []; after = place; match = tt; are = refl } }
lexes-indices (w ∷ ws) rest place h fits ends =
    let behind = flat_map index_text ws ++ rest in
    let first = w.text ++ behind in
    let d = lexes-punct Dot first place dot refl in
    let here : Spot = record { text = w.text; place = d.after } in
    let n = lexes-word w.text behind d.after (spelled_word here) h.0 (indices-end ws rest ends) (refl, refl) in
    let r = lexes-indices ws rest n.after h.1 fits.1 ends in
    let others = flat_map spell_index r.value in
    record {
      value = here ∷ r.value;
      same = ap (λ l. unplaced_spot w ∷ l) r.same;
      fits = (fits.0, r.fits);
      lexes = subst (λ l. Lexes (46 ∷ l) place (dot ∷ spelled_word here ∷ others) rest)
          (sym (append_assoc w.text (flat_map index_text ws) rest))
          (lexes-then (46 ∷ first) first rest place (dot ∷ []) (spelled_word here ∷ others) d
          (lexes-then first behind rest d.after (spelled_word here ∷ []) others n r.lexes));
    }

lexes-position : (p : Position) (rest : List ℕ) (place : Place) → PositionHasNames p → FitsPosition p
    → prefix_len is_mark_byte rest ≡ 0
    → LexesAs spell_position unplaced_position FitsPosition (position_text p ++ rest) rest place p
lexes-position (Root at) rest place h fits ends = record {
  value = Root place;
  same = refl;
  fits = tt;
  lexes = lexes-punct Dot rest place (Stands (Punctuation Dot) place) (refl, refl);
}
lexes-position (Path first others) rest place h fits ends =
    let behind = flat_map index_text others ++ rest in
    let here : Spot = record { text = first.text; place = place } in
    let n = lexes-word first.text behind place (spelled_word here) h.0 (indices-end others rest ends) (refl, refl) in
    let r = lexes-indices others rest n.after h.1 fits.1 ends in
    record {
      value = Path here r.value;
      same = ap (Path (unplaced_spot first)) r.same;
      fits = (fits.0, r.fits);
      lexes = subst (λ l. Lexes l place (spelled_word here ∷ flat_map spell_index r.value) rest)
          (sym (append_assoc first.text (flat_map index_text others) rest))
          (lexes-then (first.text ++ behind) behind rest place (spelled_word here ∷ [])
          (flat_map spell_index r.value) n r.lexes);
    }

-- ---- what stands there then

lexes-listed : (room : ℕ) (ts : Trees) (rest : List ℕ) (place : Place) → HaveNames ts → FitsListed room ts
    → LexesAs spell_replacement unplaced_replacement (FitsReplacement room) (replacement_text (Listed ts) ++ rest) rest
    place (Listed ts)
lexes-listed zero ts rest place h fits = absurd fits
lexes-listed (suc room) ts rest place h fits =
    let opening = Said (Punctuation OpenSquare) in
    let behind = first_text (codes ", ") CloseSquare ts ++ rest in
    let o = lexes-punct OpenSquare behind place opening refl in
    let a = lexes-first ts comma (codes ", ") separates-comma CloseSquare room rest o.after h fits in
    record {
      value = Listed a.all;
      same = ap Listed a.same;
      fits = a.fits;
      lexes = lexes-then (91 ∷ behind) behind rest place (opening ∷ []) (spell_first comma CloseSquare a.all) o a.lexes;
    }

lexes-replacement : (r : Replacement) (room : ℕ) (rest : List ℕ) (place : Place) → ReplacementHasNames r
    → FitsReplacement room r → prefix_len is_mark_byte rest ≡ 0
    → LexesAs spell_replacement unplaced_replacement (FitsReplacement room) (replacement_text r ++ rest) rest place r
lexes-replacement (Single t) room rest place h fits ends =
    let x = lexes-tree t room rest place h fits ends in
    record { value = Single x.tree; same = ap Single x.same; fits = x.fits; lexes = x.lexes }
lexes-replacement (Listed ts) room rest place h fits ends = lexes-listed room ts rest place h fits

-- ---- changes

-- what a change has to be to fit
abbrev FitsChange : ℕ → Change → Type 0
FitsChange room c = FitsPosition c.position × FitsReplacement room c.terms

lexes-change : (c : Change) (room : ℕ) (rest : List ℕ) (place : Place) → PositionHasNames c.position
    → ReplacementHasNames c.terms → FitsChange room c → prefix_len is_mark_byte rest ≡ 0
    → LexesAs spell_change unplaced_change (FitsChange room) (change_text c ++ rest) rest place c
lexes-change c room rest place at h fits ends =
    let third = replacement_text c.terms ++ rest in
    let second = codes " -> " ++ third in
    let p = lexes-position c.position second place at fits.0 refl in
    let a = lexes-arrow third p.lexes.after in
    let r = lexes-replacement c.terms room rest a.after h fits.1 ends in
    let others = arrow ∷ spell_replacement r.value in
    record {
      value = record { position = p.value; terms = r.value };
      same = λ i. record { position = p.same i; terms = r.same i };
      fits = (p.fits, r.fits);
      lexes = subst (λ l. Lexes l place (spell_position p.value ++ others) rest)
          (sym (append_assoc (position_text c.position) (codes " -> " ++ replacement_text c.terms) rest))
          (lexes-then (position_text c.position ++ second) second rest place (spell_position p.value) others p.lexes
          (lexes-then second third rest p.lexes.after (arrow ∷ []) (spell_replacement r.value) a r.lexes));
    }

-- a comma and a blank
leads-comma : Leads (comma ∷ []) (codes ", ")
leads-comma = record { lexes = separates-comma.lexes }

-- changes behind another one end a word
changes-end : (cs : List Change) (rest : List ℕ) → prefix_len is_mark_byte rest ≡ 0
    → prefix_len is_mark_byte (changes_text (codes ", ") cs ++ rest) ≡ 0
changes-end [] rest ends = ends
changes-end (c ∷ cs) rest ends = refl

-- changes, the first behind this text and each other one behind a comma
pub lexes-changes : (cs : List Change) (ms : List Expected) (before : List ℕ) → Leads ms before → (room : ℕ)
    (rest : List ℕ) (place : Place) → ChangesHaveNames cs → ChangesFit room cs → prefix_len is_mark_byte rest ≡ 0
    → LexesAs (spell_changes ms) (map unplaced_change) (ChangesFit room) (changes_text before cs ++ rest) rest place cs
lexes-changes [] ms before leads room rest place h fits ends =
    record { value = []; same = refl; fits = tt; lexes = record { ts = []; after = place; match = tt; are = refl } }
lexes-changes (c ∷ cs) ms before leads room rest place h fits ends =
    let third = changes_text (codes ", ") cs ++ rest in
    let second = change_text c ++ third in
    let r = leads.lexes second place in
    let x = lexes-change c room third r.after h.0 h.1 (fits.0, fits.1) (changes-end cs rest ends) in
    let y = lexes-changes cs (comma ∷ []) (codes ", ") leads-comma room rest x.lexes.after h.2 fits.2 ends in
    let others = spell_changes (comma ∷ []) y.value in
    let parts : changes_text before (c ∷ cs) ++ rest ≡ before ++ second =
    append_assoc before (change_text c ++ changes_text (codes ", ") cs) rest
    ∙ ap (λ l. before ++ l) (append_assoc (change_text c) (changes_text (codes ", ") cs) rest) in
    record {
      value = x.value ∷ y.value;
      same = λ i. x.same i ∷ y.same i;
      fits = (x.fits.0, x.fits.1, y.fits);
      lexes = subst (λ l. Lexes l place (spell_changes ms (x.value ∷ y.value)) rest) (sym parts)
          (lexes-then (before ++ second) second rest place ms (spell_change x.value ++ others) r
          (lexes-then second third rest r.after (spell_change x.value) others x.lexes y.lexes));
    }

-- whether there are changes is told apart from their places
pub some-unplaced : (cs ds : List Change) → map unplaced_change cs ≡ map unplaced_change ds → ds ≢ [] → cs ≢ []
some-unplaced (c ∷ cs) ds same h e = absurd cc
some-unplaced [] [] same h e = h refl
some-unplaced [] (d ∷ ds) same h e = absurd cc
