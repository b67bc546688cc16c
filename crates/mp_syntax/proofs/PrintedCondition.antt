-- What is printed of a condition is read again as that condition.
use Rattle.std.proofs.Common.{◌≡◌, ◌≢◌, ℕ, zero, suc, Bool, true, false, List, [], ◌∷◌, ◌++◌, Option, Some, None}
use Rattle.std.proofs.Common.{refl, sym, ap, subst, ◌∙◌, arith, append_assoc}
use Rattle.std.specs.Prelude.{codes}
use Rattle.std.specs.List.{prefix_len}
use Rattle.std.specs.Str.{bytes_eq}
use Rattle.mp_parser.specs.declared.limits.TheConstants.{MAX_OPEN}
use Rattle.mp_parser.specs.declared.place.Place.{Place}
use Rattle.mp_parser.specs.declared.token.Punct.TheVariants.{Open, Close, OpenSquare, CloseSquare, Comma}
use Rattle.mp_parser.specs.declared.condition_tree.Measure.{Measure}
use Rattle.mp_parser.specs.declared.condition_tree.Measure.TheVariants.{Count, Size}
use Rattle.mp_parser.specs.declared.condition_tree.Sense.{Sense}
use Rattle.mp_parser.specs.declared.condition_tree.Sense.TheVariants.{Lt}
use Rattle.mp_parser.specs.declared.condition_tree.Relation.{Relation}
use Rattle.mp_parser.specs.declared.condition_tree.Relation.TheVariants.{Same}
use Rattle.mp_parser.specs.declared.condition_tree.Property.{Property}
use Rattle.mp_parser.specs.declared.condition_tree.Property.TheVariants as properties
use Rattle.mp_parser.specs.Tokens.{Sign, Punctuation}
use Rattle.mp_parser.specs.Syntax.{Spot, Amount, Number, Measured, Atom, Compare, Relate, Test, Literal, AtomOf}
use Rattle.mp_parser.specs.Syntax.{Bracketed, Literals, no_literals, more_literals, Condition, no_alternatives}
use Rattle.mp_parser.specs.Syntax.{more_alternatives, Expected, Said, fixed_word, spelled_word, opening, closing}
use Rattle.mp_parser.specs.Syntax.{comma, measure_word, sense_sign, relation_word, property_word, spell, spell_amount}
use Rattle.mp_parser.specs.Syntax.{spell_atom, spell_not, spell_literal, spell_literals, spell_alternatives}
use Rattle.mp_parser.specs.Syntax.{spell_condition, spell_if, FitsAmount, FitsAtom, HasLiteral, HasAlternative}
use Rattle.mp_parser.specs.Syntax.{FitsLiteral, LiteralsFit, AlternativesFit, FitsCondition, FitsIf, IsName}
use Rattle.mp_parser.specs.Syntax.{IsInfixSign, AmountHasNames, AtomHasNames, LiteralHasNames, LiteralsHaveNames}
use Rattle.mp_parser.specs.Syntax.{ConditionHasNames, IfHasNames}
use Rattle.mp_syntax.specs.Printed.{tree_text, amount_text, atom_text, not_text, literal_text, literals_text}
use Rattle.mp_syntax.specs.Printed.{alternatives_text, condition_text, if_text, unplaced_spot, unplaced_amount}
use Rattle.mp_syntax.specs.Printed.{unplaced_atom, unplaced_literal, unplaced_literals, unplaced_condition}
use Rattle.mp_syntax.specs.Printed.{unplaced_if}
use Rattle.mp_parser.proofs.Ends.{is_mark_byte}
use Rattle.mp_parser.proofs.Trees.{atom-literal, literal-atom}
use Rattle.mp_syntax.proofs.PrintedExpr.{Lexes, lexes-then, lexes-word, lexes-sign, lexes-punct, lexes-blank}
use Rattle.mp_syntax.proofs.PrintedExpr.{lexes-tree, lexes-keyword, lexes-behind}

-- the bytes begin with this value, which then stands at its places, and rest lies behind it
pub record LexesAs {A : Type 0} (spell_of : A → List Expected) (unplaced_of : A → A) (FitsAs : A → Type 0)
    (bytes rest : List ℕ) (place : Place) (a : A) : Type 0 where
  pub value : A
  pub same : unplaced_of value ≡ unplaced_of a
  pub fits : FitsAs value
  pub lexes : Lexes bytes place (spell_of value) rest

-- ---- words and signs

measure_word-name : (m : Measure) → IsName (measure_word m)
measure_word-name Count = record { is_word = record { some = λ e. absurd cc; bytes = refl }; is_short = omega arith }
measure_word-name Size = record { is_word = record { some = λ e. absurd cc; bytes = refl }; is_short = omega arith }

relation_word-name : (r : Relation) → IsName (relation_word r)
relation_word-name Same = record { is_word = record { some = λ e. absurd cc; bytes = refl }; is_short = omega arith }
relation_word-name _ = record { is_word = record { some = λ e. absurd cc; bytes = refl }; is_short = omega arith }

property_word-name : (p : Property) → IsName (property_word p)
property_word-name properties.Kind = record {
  is_word = record { some = λ e. absurd cc; bytes = refl };
  is_short = omega arith;
}
property_word-name properties.Head = record {
  is_word = record { some = λ e. absurd cc; bytes = refl };
  is_short = omega arith;
}

no_arrow-differs : (s : List ℕ) → bytes_eq s (codes "->") ≡ false → s ≢ codes "->"
no_arrow-differs s h e = let same : bytes_eq s (codes "->") ≡ true = ap (λ l. bytes_eq l (codes "->")) e in absurd cc

sense_sign-sign : (s : Sense) → IsInfixSign (sense_sign s)
sense_sign-sign Lt = record {
  is_sign = record { some = λ e. absurd cc; bytes = refl };
  no_arrow = no_arrow-differs _ refl;
}
sense_sign-sign _ = record {
  is_sign = record { some = λ e. absurd cc; bytes = refl };
  no_arrow = no_arrow-differs _ refl;
}

-- ---- atoms

-- a word and its bracket
lexes-opened : (w rest : List ℕ) (place : Place) → IsName w
    → Lexes (w ++ (40 ∷ rest)) place (fixed_word w ∷ opening ∷ []) rest
lexes-opened w rest place h =
    let r = lexes-word w (40 ∷ rest) place (fixed_word w) h refl refl in
    lexes-then (w ++ (40 ∷ rest)) (40 ∷ rest) rest place (fixed_word w ∷ []) (opening ∷ []) r
    (lexes-punct Open rest r.after opening refl)

-- a comma and a blank
lexes-comma : (rest : List ℕ) (place : Place) → Lexes (44 ∷ 32 ∷ rest) place (comma ∷ []) rest
lexes-comma rest place =
    let r = lexes-punct Comma (32 ∷ rest) place comma refl in
    lexes-then (44 ∷ 32 ∷ rest) (32 ∷ rest) rest place (comma ∷ []) [] r (lexes-blank rest r.after)

lexes-amount : (a : Amount) (room : ℕ) (rest : List ℕ) (place : Place) → AmountHasNames a → FitsAmount room a
    → prefix_len is_mark_byte rest ≡ 0 → LexesAs spell_amount unplaced_amount (FitsAmount room)
    (amount_text a ++ rest) rest place a
lexes-amount (Number w) room rest place h fits ends =
    let here : Spot = record { text = w.text; place = place } in
    record {
      value = Number here;
      same = refl;
      fits = digits room fits;
      lexes = lexes-word w.text rest place (spelled_word here) h ends (refl, refl);
    }
  where
    digits : (room : ℕ) → FitsAmount room (Number w)
        → FitsAmount room (Number (record { text = w.text; place = place }))
    digits zero h = h
    digits (suc room) h = h
lexes-amount (Measured m t) zero rest place h fits ends = absurd fits
lexes-amount (Measured m t) (suc room) rest place h fits ends =
    let second = tree_text t ++ (41 ∷ rest) in
    let first = measure_word m ++ (40 ∷ second) in
    let r = lexes-opened (measure_word m) second place (measure_word-name m) in
    let x = lexes-tree t room (41 ∷ rest) r.after h fits refl in
    let c = lexes-punct Close rest x.lexes.after closing refl in
    let parts : amount_text (Measured m t) ++ rest ≡ first = simp append_assoc in
    record {
      value = Measured m x.tree;
      same = ap (Measured m) x.same;
      fits = x.fits;
      lexes = subst (λ l. Lexes l place (spell_amount (Measured m x.tree)) rest) (sym parts)
          (lexes-then first second rest place (fixed_word (measure_word m) ∷ opening ∷ [])
          (spell x.tree ++ closing ∷ []) r
          (lexes-then second (41 ∷ rest) rest r.after (spell x.tree) (closing ∷ []) x.lexes c));
    }

lexes-compare : (a : Amount) (sense : Sense) (b : Amount) (room : ℕ) (rest : List ℕ) (place : Place) → AmountHasNames a
    → AmountHasNames b → FitsAmount room a → FitsAmount room b → prefix_len is_mark_byte rest ≡ 0
    → LexesAs spell_atom unplaced_atom (λ c. FitsAtom room c) (atom_text (Compare a sense b) ++ rest) rest place
    (Compare a sense b)
lexes-compare a sense b room rest place a-names b-names a-fits b-fits ends =
    let third = amount_text b ++ rest in
    let second = sense_sign sense ++ (32 ∷ third) in
    let first = amount_text a ++ (32 ∷ second) in
    let sign = Said (Sign (sense_sign sense)) in
    let x = lexes-amount a room (32 ∷ second) place a-names a-fits refl in
    let r = lexes-blank second x.lexes.after in
    let s = lexes-sign (sense_sign sense) (32 ∷ third) r.after sign (sense_sign-sign sense) refl refl in
    let q = lexes-blank third s.after in
    let y = lexes-amount b room rest q.after b-names b-fits ends in
    let parts : atom_text (Compare a sense b) ++ rest ≡ first = simp append_assoc in
    record {
      value = Compare x.value sense y.value;
      same = λ i. Compare (x.same i) sense (y.same i);
      fits = both room x.value y.value x.fits y.fits;
      lexes = subst (λ l. Lexes l place (spell_atom (Compare x.value sense y.value)) rest) (sym parts)
          (lexes-then first (32 ∷ second) rest place (spell_amount x.value) (sign ∷ spell_amount y.value) x.lexes
          (lexes-then (32 ∷ second) second rest x.lexes.after [] (sign ∷ spell_amount y.value) r
          (lexes-then second (32 ∷ third) rest r.after (sign ∷ []) (spell_amount y.value) s
          (lexes-then (32 ∷ third) third rest s.after [] (spell_amount y.value) q y.lexes))));
    }
  where
    both : (room : ℕ) (a b : Amount) → FitsAmount room a → FitsAmount room b → FitsAtom room (Compare a sense b)
    both zero a b h k = (h, k)
    both (suc room) a b h k = (h, k)

lexes-atom : (a : Atom) (room : ℕ) (rest : List ℕ) (place : Place) → AtomHasNames a → FitsAtom room a
    → prefix_len is_mark_byte rest ≡ 0 → LexesAs spell_atom unplaced_atom (λ c. FitsAtom room c)
    (atom_text a ++ rest) rest place a
lexes-atom (Compare a sense b) zero rest place h fits ends =
    lexes-compare a sense b zero rest place h.0 h.1 fits.0 fits.1 ends
lexes-atom (Compare a sense b) (suc room) rest place h fits ends =
    lexes-compare a sense b (suc room) rest place h.0 h.1 fits.0 fits.1 ends
lexes-atom (Relate r t u) zero rest place h fits ends = absurd fits
lexes-atom (Relate r t u) (suc room) rest place h fits ends =
    let fourth = tree_text u ++ (41 ∷ rest) in
    let second = tree_text t ++ (44 ∷ 32 ∷ fourth) in
    let first = relation_word r ++ (40 ∷ second) in
    let o = lexes-opened (relation_word r) second place (relation_word-name r) in
    let x = lexes-tree t room (44 ∷ 32 ∷ fourth) o.after h.0 fits.0 refl in
    let s = lexes-comma fourth x.lexes.after in
    let y = lexes-tree u room (41 ∷ rest) s.after h.1 fits.1 refl in
    let c = lexes-punct Close rest y.lexes.after closing refl in
    let parts : atom_text (Relate r t u) ++ rest ≡ first = simp append_assoc in
    record {
      value = Relate r x.tree y.tree;
      same = λ i. Relate r (x.same i) (y.same i);
      fits = (x.fits, y.fits);
      lexes = subst (λ l. Lexes l place (spell_atom (Relate r x.tree y.tree)) rest) (sym parts)
          (lexes-then first second rest place (fixed_word (relation_word r) ∷ opening ∷ [])
          (spell x.tree ++ comma ∷ (spell y.tree ++ closing ∷ [])) o
          (lexes-then second (44 ∷ 32 ∷ fourth) rest o.after (spell x.tree)
          (comma ∷ (spell y.tree ++ closing ∷ [])) x.lexes
          (lexes-then (44 ∷ 32 ∷ fourth) fourth rest x.lexes.after (comma ∷ []) (spell y.tree ++ closing ∷ []) s
          (lexes-then fourth (41 ∷ rest) rest s.after (spell y.tree) (closing ∷ []) y.lexes c))));
    }
lexes-atom (Test p t w) zero rest place h fits ends = absurd fits
lexes-atom (Test p t w) (suc room) rest place h fits ends =
    let third = w.text ++ (41 ∷ rest) in
    let second = tree_text t ++ (44 ∷ 32 ∷ third) in
    let first = property_word p ++ (40 ∷ second) in
    let o = lexes-opened (property_word p) second place (property_word-name p) in
    let x = lexes-tree t room (44 ∷ 32 ∷ third) o.after h.0 fits refl in
    let s = lexes-comma third x.lexes.after in
    let here : Spot = record { text = w.text; place = s.after } in
    let y = lexes-word w.text (41 ∷ rest) s.after (spelled_word here) h.1 refl (refl, refl) in
    let c = lexes-punct Close rest y.after closing refl in
    let parts : atom_text (Test p t w) ++ rest ≡ first = simp append_assoc in
    record {
      value = Test p x.tree here;
      same = ap (λ t. Test p t (unplaced_spot w)) x.same;
      fits = x.fits;
      lexes = subst (λ l. Lexes l place (spell_atom (Test p x.tree here)) rest) (sym parts)
          (lexes-then first second rest place (fixed_word (property_word p) ∷ opening ∷ [])
          (spell x.tree ++ comma ∷ spelled_word here ∷ closing ∷ []) o
          (lexes-then second (44 ∷ 32 ∷ third) rest o.after (spell x.tree)
          (comma ∷ spelled_word here ∷ closing ∷ []) x.lexes
          (lexes-then (44 ∷ 32 ∷ third) third rest x.lexes.after (comma ∷ []) (spelled_word here ∷ closing ∷ []) s
          (lexes-then third (41 ∷ rest) rest s.after (spelled_word here ∷ []) (closing ∷ []) y c))));
    }

-- ---- literals and alternatives

-- the text is these tokens
pub record Leads (ms : List Expected) (text : List ℕ) : Type 0 where
  pub lexes : (rest : List ℕ) (place : Place) → Lexes (text ++ rest) place ms rest

pub leads-nothing : Leads [] []
leads-nothing = record { lexes = λ rest place. record { ts = []; after = place; match = tt; are = refl } }

-- a word between blanks
leads-word : (w : List ℕ) → IsName w → Leads (fixed_word w ∷ []) (codes " " ++ (w ++ codes " "))
leads-word w h = record {
  lexes = λ rest place.
      let r = lexes-behind w (32 ∷ rest) place (fixed_word w) h refl refl in
      subst (λ l. Lexes (32 ∷ l) place (fixed_word w ∷ []) rest) (sym (append_assoc w (32 ∷ []) rest))
      (lexes-then (32 ∷ (w ++ (32 ∷ rest))) (32 ∷ rest) rest place (fixed_word w ∷ []) [] r
      (lexes-blank rest r.after));
}

leads-and : Leads (fixed_word (codes "and") ∷ []) (codes " and ")
leads-and =
    leads-word (codes "and")
    (record { is_word = record { some = λ e. absurd cc; bytes = refl }; is_short = omega arith })

leads-or : Leads (fixed_word (codes "or") ∷ []) (codes " or ")
leads-or =
    leads-word (codes "or")
    (record { is_word = record { some = λ e. absurd cc; bytes = refl }; is_short = omega arith })

leads-if : Leads (fixed_word (codes "if") ∷ []) (codes " if ")
leads-if =
    leads-word (codes "if")
    (record { is_word = record { some = λ e. absurd cc; bytes = refl }; is_short = omega arith })

lexes-not : (negated : Bool) (rest : List ℕ) (place : Place)
    → Lexes (not_text negated ++ rest) place (spell_not negated) rest
lexes-not true rest place = lexes-keyword (codes "not") rest place
    (record { is_word = record { some = λ e. absurd cc; bytes = refl }; is_short = omega arith })
lexes-not false rest place = record { ts = []; after = place; match = tt; are = refl }

-- literals behind others end a word
literals-end : (ls : Literals) (rest : List ℕ) → prefix_len is_mark_byte rest ≡ 0
    → prefix_len is_mark_byte (literals_text (codes " and ") ls ++ rest) ≡ 0
literals-end no_literals rest ends = ends
literals-end (more_literals l ls) rest ends = refl

-- alternatives behind others end a word
alternatives-end : (c : Condition) (rest : List ℕ) → prefix_len is_mark_byte rest ≡ 0
    → prefix_len is_mark_byte (alternatives_text (codes " or ") c ++ rest) ≡ 0
alternatives-end no_alternatives rest ends = ends
alternatives-end (more_alternatives a c) rest ends = refl

-- whether there is a literal is told apart from places
HasLiteral-unplaced : (a b : Literals) → unplaced_literals a ≡ unplaced_literals b → HasLiteral b → HasLiteral a
HasLiteral-unplaced a b e h = without a (subst HasLiteral (sym e) (with_places b h))
  where
    with_places : (a : Literals) → HasLiteral a → HasLiteral (unplaced_literals a)
    with_places no_literals h = h
    with_places (more_literals l ls) h = tt

    without : (a : Literals) → HasLiteral (unplaced_literals a) → HasLiteral a
    without no_literals h = h
    without (more_literals l ls) h = tt

-- and so is whether there is an alternative
HasAlternative-unplaced : (c d : Condition) → unplaced_condition c ≡ unplaced_condition d → HasAlternative d
    → HasAlternative c
HasAlternative-unplaced c d e h = without c (subst HasAlternative (sym e) (with_places d h))
  where
    with_places : (c : Condition) → HasAlternative c → HasAlternative (unplaced_condition c)
    with_places no_alternatives h = h
    with_places (more_alternatives a c) h = tt

    without : (c : Condition) → HasAlternative (unplaced_condition c) → HasAlternative c
    without no_alternatives h = h
    without (more_alternatives a c) h = tt

mutual
  lexes-literal : (l : Literal) (room : ℕ) (rest : List ℕ) (place : Place) → LiteralHasNames l → FitsLiteral room l
      → prefix_len is_mark_byte rest ≡ 0 → LexesAs spell_literal unplaced_literal (λ m. FitsLiteral room m)
      (literal_text l ++ rest) rest place l
  lexes-literal (AtomOf negated a) room rest place h fits ends =
      let second = atom_text a ++ rest in
      let r = lexes-not negated second place in
      let x = lexes-atom a room rest r.after h (literal-atom room negated a fits) ends in
      record {
        value = AtomOf negated x.value;
        same = ap (AtomOf negated) x.same;
        fits = atom-literal room negated x.value x.fits;
        lexes = subst (λ l. Lexes l place (spell_literal (AtomOf negated x.value)) rest)
            (sym (append_assoc (not_text negated) (atom_text a) rest))
            (lexes-then (not_text negated ++ second) second rest place (spell_not negated)
            (spell_atom x.value) r x.lexes);
      }
  lexes-literal (Bracketed negated c) zero rest place h fits ends = absurd fits
  lexes-literal (Bracketed negated c) (suc room) rest place h fits ends =
      let third = alternatives_text [] c ++ (93 ∷ rest) in
      let left = Said (Punctuation OpenSquare) in
      let right = Said (Punctuation CloseSquare) in
      let r = lexes-not negated (91 ∷ third) place in
      let o = lexes-punct OpenSquare third r.after left refl in
      let x = lexes-alternatives c [] [] leads-nothing room (93 ∷ rest) o.after h fits.1 refl in
      let q = lexes-punct CloseSquare rest x.lexes.after right refl in
      let parts : literal_text (Bracketed negated c) ++ rest ≡ not_text negated ++ (91 ∷ third) = simp append_assoc in
      record {
        value = Bracketed negated x.value;
        same = ap (Bracketed negated) x.same;
        fits = (HasAlternative-unplaced x.value c x.same fits.0, x.fits);
        lexes = subst (λ l. Lexes l place (spell_literal (Bracketed negated x.value)) rest) (sym parts)
            (lexes-then (not_text negated ++ (91 ∷ third)) (91 ∷ third) rest place (spell_not negated)
            (left ∷ (spell_condition x.value ++ right ∷ [])) r
            (lexes-then (91 ∷ third) third rest r.after (left ∷ []) (spell_condition x.value ++ right ∷ []) o
            (lexes-then third (93 ∷ rest) rest o.after (spell_condition x.value) (right ∷ []) x.lexes q)));
      }

  lexes-literals : (ls : Literals) (ms : List Expected) (before : List ℕ) → Leads ms before
      → (room : ℕ) (rest : List ℕ) (place : Place) → LiteralsHaveNames ls → LiteralsFit room ls
      → prefix_len is_mark_byte rest ≡ 0 → LexesAs (spell_literals ms) unplaced_literals (λ m. LiteralsFit room m)
      (literals_text before ls ++ rest) rest place ls
  lexes-literals no_literals ms before leads room rest place h fits ends =
      record {
        value = no_literals;
        same = refl;
        fits = tt;
        lexes = record { ts = []; after = place; match = tt; are = refl };
      }
  lexes-literals (more_literals l ls) ms before leads room rest place h fits ends =
      let third = literals_text (codes " and ") ls ++ rest in
      let second = literal_text l ++ third in
      let r = leads.lexes second place in
      let x = lexes-literal l room third r.after h.0 fits.0 (literals-end ls rest ends) in
      let y = lexes-literals ls (fixed_word (codes "and") ∷ [])
      (codes " and ") leads-and room rest x.lexes.after h.1 fits.1 ends in
      let others = spell_literals (fixed_word (codes "and") ∷ []) y.value in
      let parts : literals_text before (more_literals l ls) ++ rest ≡ before ++ second =
      append_assoc before (literal_text l ++ literals_text (codes " and ") ls) rest
      ∙ ap (λ l. before ++ l) (append_assoc (literal_text l) (literals_text (codes " and ") ls) rest) in
      record {
        value = more_literals x.value y.value;
        same = λ i. more_literals (x.same i) (y.same i);
        fits = (x.fits, y.fits);
        lexes = subst (λ l. Lexes l place (spell_literals ms (more_literals x.value y.value)) rest) (sym parts)
            (lexes-then (before ++ second) second rest place ms (spell_literal x.value ++ others) r
            (lexes-then second third rest r.after (spell_literal x.value) others x.lexes y.lexes));
      }

  lexes-alternatives : (c : Condition) (ms : List Expected) (before : List ℕ) → Leads ms before
      → (room : ℕ) (rest : List ℕ) (place : Place) → ConditionHasNames c → AlternativesFit room c
      → prefix_len is_mark_byte rest ≡ 0 → LexesAs (spell_alternatives ms) unplaced_condition
      (λ d. AlternativesFit room d) (alternatives_text before c ++ rest) rest place c
  lexes-alternatives no_alternatives ms before leads room rest place h fits ends =
      record {
        value = no_alternatives;
        same = refl;
        fits = tt;
        lexes = record { ts = []; after = place; match = tt; are = refl };
      }
  lexes-alternatives (more_alternatives a c) ms before leads room rest place h fits ends =
      let third = alternatives_text (codes " or ") c ++ rest in
      let second = literals_text [] a ++ third in
      let r = leads.lexes second place in
      let x = lexes-literals a [] [] leads-nothing room third r.after h.0 fits.1 (alternatives-end c rest ends) in
      let y = lexes-alternatives c (fixed_word (codes "or") ∷ [])
      (codes " or ") leads-or room rest x.lexes.after h.1 fits.2 ends in
      let others = spell_alternatives (fixed_word (codes "or") ∷ []) y.value in
      let parts : alternatives_text before (more_alternatives a c) ++ rest ≡ before ++ second =
      append_assoc before (literals_text [] a ++ alternatives_text (codes " or ") c) rest
      ∙ ap (λ l. before ++ l) (append_assoc (literals_text [] a) (alternatives_text (codes " or ") c) rest) in
      record {
        value = more_alternatives x.value y.value;
        same = λ i. more_alternatives (x.same i) (y.same i);
        fits = (HasLiteral-unplaced x.value a x.same fits.0, x.fits, y.fits);
        lexes = subst (λ l. Lexes l place (spell_alternatives ms (more_alternatives x.value y.value)) rest) (sym parts)
            (lexes-then (before ++ second) second rest place ms (spell_literals [] x.value ++ others) r
            (lexes-then second third rest r.after (spell_literals [] x.value) others x.lexes y.lexes));
      }

-- a condition
pub lexes-condition : (c : Condition) (room : ℕ) (rest : List ℕ) (place : Place) → ConditionHasNames c
    → FitsCondition room c → prefix_len is_mark_byte rest ≡ 0
    → LexesAs spell_condition unplaced_condition (FitsCondition room) (condition_text c ++ rest) rest place c
lexes-condition c room rest place h fits ends =
    let x = lexes-alternatives c [] [] leads-nothing room rest place h fits.1 ends in
    record {
      value = x.value;
      same = x.same;
      fits = (HasAlternative-unplaced x.value c x.same fits.0, x.fits);
      lexes = x.lexes;
    }

-- the condition of a rule, where there is one
pub lexes-if : (o : Option Condition) (rest : List ℕ) (place : Place) → IfHasNames o → FitsIf MAX_OPEN o
    → prefix_len is_mark_byte rest ≡ 0 → LexesAs spell_if unplaced_if (FitsIf MAX_OPEN) (if_text o ++ rest) rest place o
lexes-if None rest place h fits ends =
    record { value = None; same = refl; fits = tt; lexes = record { ts = []; after = place; match = tt; are = refl } }
lexes-if (Some c) rest place h fits ends =
    let second = condition_text c ++ rest in
    let r = leads-if.lexes second place in
    let x = lexes-condition c MAX_OPEN rest r.after h fits ends in
    record {
      value = Some x.value;
      same = ap some x.same;
      fits = x.fits;
      lexes = subst (λ l. Lexes l place (spell_if (Some x.value)) rest)
          (sym (append_assoc (codes " if ") (condition_text c) rest))
          (lexes-then (codes " if " ++ second) second rest place (fixed_word (codes "if") ∷ [])
          (spell_condition x.value) r x.lexes);
    }
  where
    some : Condition → Option Condition
    some c = Some c

-- the condition of a rule and what follows end a word
pub if-end : (o : Option Condition) (rest : List ℕ) → prefix_len is_mark_byte rest ≡ 0
    → prefix_len is_mark_byte (if_text o ++ rest) ≡ 0
if-end None rest ends = ends
if-end (Some c) rest ends = refl
