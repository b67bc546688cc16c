-- What is printed of an expression is read again as that expression.
use Rattle.std.proofs.Common.{◌≡◌, ◌≢◌, ℕ, zero, suc, ◌+◌, false, List, [], ◌∷◌, ◌++◌, length, map, drop, refl, sym}
use Rattle.std.proofs.Common.{ap, subst, ◌∙◌, arith, append_assoc, append-nil, true, Bool}
use Rattle.std.specs.Prelude.{codes}
use Rattle.std.specs.List.{flat_map, prefix_len, list_all}
use Rattle.std.proofs.lemmas.List.{drop_at}
use Rattle.mp_parser.specs.declared.place.Place.{Place}
use Rattle.mp_parser.specs.declared.token.Punct.{Punct}
use Rattle.mp_parser.specs.declared.token.Punct.TheVariants.{Open, Close, Comma, Colon, Semicolon, Dollar, OpenBrace}
use Rattle.mp_parser.specs.declared.token.Punct.TheVariants.{CloseBrace, Dot, OpenSquare, CloseSquare}
use Rattle.mp_parser.specs.Tokens as tokens
use Rattle.mp_parser.specs.Tokens.{Token, Word, Sign, Punctuation, Placed, byte_of, is_sign_byte, AreWordBytes}
use Rattle.mp_parser.specs.Tokens.{IsShort, Spells, IsWildcard, after_byte, first_place, Arrow}
use Rattle.mp_parser.specs.Lexing.{kind_at, token_at, after_blanks, lexemes}
use Rattle.mp_parser.specs.Syntax.{Spot, Wildcard, Tree, Symbol, Apply, InfixOf, Wild, Optional, Variable, Trees}
use Rattle.mp_parser.specs.Syntax.{no_trees, more_trees, Expected, Said, Stands, Matches, AllMatch, spelled_word}
use Rattle.mp_parser.specs.Syntax.{spelled_wildcard, spelled_sign, another, fixed_word, comma, colon}
use Rattle.mp_parser.specs.Syntax.{semicolon, spell_with_colon, spell, spell_first, spell_others, spell_operands}
use Rattle.mp_parser.specs.Syntax.{AreSeveral, AreDots, HasNoDefault, Fits, AreFit, IsName, IsInfixSign, HasParts}
use Rattle.mp_parser.specs.Syntax.{HaveParts, HasNames, HaveNames, Counted, spell_count, spell_plus, arrow}
use Rattle.mp_syntax.specs.Printed.{wildcard_text, text_with_colon, tree_text, first_text, others_text, line_end}
use Rattle.mp_syntax.specs.Printed.{unplaced_spot, unplaced_wildcard, unplaced_tree, unplaced_trees, count_text}
use Rattle.mp_syntax.specs.Printed.{plus_text}
use Rattle.mp_parser.proofs.Trees.{wild-fits, variable-fits, fits-optional, optional-fits, counted-fits, fits-counted}
use Rattle.mp_parser.proofs.Spelling.{spells-some, spells-token}
use Rattle.mp_parser.proofs.Fuel.{lexemes-step, lexemes-next}
use Rattle.mp_parser.proofs.TokensLaw.{starts-stay, plain-starts, spells-plain, behind-token}
use Rattle.mp_parser.proofs.Ends.{is_mark_byte, marks-wildcard, longest-marks, longest-signs, kind_at-ends}
use Rattle.mp_parser.proofs.Ends.{kind_at-punct, marks-word}
use Rattle.std.specs.Char.{is_ascii_digit}

-- ---- the tokens at the front

-- from the place the bytes begin with tokens that match, and rest lies behind them
pub record Lexes (bytes : List ℕ) (place : Place) (ms : List Expected) (rest : List ℕ) : Type 0 where
  pub ts : List Placed
  pub after : Place
  pub match : AllMatch ts ms
  pub are : lexemes bytes place ≡ ts ++ lexemes rest after

match-append : (ts us : List Placed) (ms ns : List Expected) → AllMatch ts ms → AllMatch us ns
    → AllMatch (ts ++ us) (ms ++ ns)
match-append [] us [] ns h k = k
match-append [] us (m ∷ ms) ns h k = absurd h
match-append (t ∷ ts) us [] ns h k = absurd h
match-append (t ∷ ts) us (m ∷ ms) ns h k = (h.0, match-append ts us ms ns h.1 k)

-- tokens behind tokens
pub lexes-then : (a b c : List ℕ) (place : Place) (ms ns : List Expected) (r : Lexes a place ms b)
    → Lexes b r.after ns c → Lexes a place (ms ++ ns) c
lexes-then a b c place ms ns r s = record {
  ts = r.ts ++ s.ts;
  after = s.after;
  match = match-append r.ts s.ts ms ns r.match s.match;
  are = r.are ∙ ap (λ l. r.ts ++ l) s.are ∙ sym (append_assoc r.ts s.ts (lexemes c s.after));
}

-- a token by its text
lexes-kind : (text rest : List ℕ) (t : Token) (place : Place) (m : Expected) → Spells text t
    → kind_at (text ++ rest) ≡ (t, length text) → Matches (record { token = t; place = place }) m
    → Lexes (text ++ rest) place (m ∷ []) rest
lexes-kind text rest t place m h kind match =
    let start : after_blanks false (text ++ rest) place ≡ (text ++ rest, place) =
    starts-stay (text ++ rest) place (plain-starts text rest (spells-some text t h) (spells-plain text t h)) in
    let after : Place = record { line = place.line; column = place.column + length text } in
    let here : Placed = record { token = t; place = place } in
    let is : token_at (text ++ rest) place ≡ (here, (rest, after)) =
    ap (λ (x : List ℕ × Place). let k = kind_at x.0 in
    (record { token = k.0; place = x.1 }, (drop k.1 x.0, record { line = x.1.line; column = x.1.column + k.1 })))
    start
    ∙ ap (λ (k : Token × ℕ). (
      record { token = k.0; place = place },
      (drop k.1 (text ++ rest), record { line = place.line; column = place.column + k.1 }),
    )) kind
    ∙ ap (λ l. (here, (l, after))) (drop_at text rest (length text) refl) in
    record {
      ts = here ∷ [];
      after = after;
      match = (match, tt);
      are = lexemes-next (text ++ rest) place here rest after is
          ∙ ap (λ l. here ∷ l) (behind-token t (lexemes rest after) (spells-token text t h));
    }

-- a word that no letter, digit or underscore follows
pub lexes-word : (w rest : List ℕ) (place : Place) (m : Expected) → IsName w → prefix_len is_mark_byte rest ≡ 0
    → Matches (record { token = Word w; place = place }) m → Lexes (w ++ rest) place (m ∷ []) rest
lexes-word w rest place m h ends match =
    let spelled : Spells w (Word w) = (refl, h.is_word, h.is_short) in
    lexes-kind w rest (Word w) place m spelled
    (kind_at-ends w rest (Word w) spelled
    (longest-marks w rest (spells-some w (Word w) spelled) (marks-word w h.is_word.bytes) ends)) match

-- a wildcard that no letter, digit or underscore follows
lexes-wildcard : (text name : List ℕ) (n : ℕ) (kind rest : List ℕ) (place : Place) (m : Expected)
    → Spells text (tokens.Wildcard name n kind) → prefix_len is_mark_byte rest ≡ 0
    → Matches (record { token = tokens.Wildcard name n kind; place = place }) m
    → Lexes (text ++ rest) place (m ∷ []) rest
lexes-wildcard text name n kind rest place m h ends match =
    let t = tokens.Wildcard name n kind in
    lexes-kind text rest t place m h
    (kind_at-ends text rest t h
    (longest-marks text rest (spells-some text t h) (marks-wildcard text name n kind h.0) ends)) match

-- a sign that no byte of signs follows
pub lexes-sign : (s rest : List ℕ) (place : Place) (m : Expected) → IsInfixSign s → prefix_len is_sign_byte rest ≡ 0
    → Matches (record { token = Sign s; place = place }) m → Lexes (s ++ rest) place (m ∷ []) rest
lexes-sign s rest place m h ends match =
    let spelled : Spells s (Sign s) = (refl, h.is_sign, h.no_arrow) in
    lexes-kind s rest (Sign s) place m spelled
    (kind_at-ends s rest (Sign s) spelled
    (longest-signs s rest (spells-some s (Sign s) spelled) h.is_sign.bytes ends)) match

-- a punctuation character
pub lexes-punct : (p : Punct) (rest : List ℕ) (place : Place) (m : Expected)
    → Matches (record { token = Punctuation p; place = place }) m → Lexes (byte_of p ∷ rest) place (m ∷ []) rest
lexes-punct p rest place m match = lexes-kind (byte_of p ∷ []) rest (Punctuation p) place m refl
    (kind_at-punct p rest) match

-- a blank
pub lexes-blank : (rest : List ℕ) (place : Place) → Lexes (32 ∷ rest) place [] rest
lexes-blank rest place = record {
  ts = [];
  after = after_byte place 32;
  match = tt;
  are = lexemes-step (32 ∷ rest) place ∙ sym (lexemes-step rest (after_byte place 32));
}

-- an arrow between blanks
pub lexes-arrow : (rest : List ℕ) (place : Place) → Lexes (codes " -> " ++ rest) place (arrow ∷ []) rest
lexes-arrow rest place =
    let last = 32 ∷ rest in
    let second = codes "->" ++ last in
    let b = lexes-blank second place in
    let a = lexes-kind (codes "->") last Arrow b.after arrow refl
    (kind_at-ends (codes "->") last Arrow refl (longest-signs (codes "->") last (omega arith) refl refl)) refl in
    lexes-then (32 ∷ second) second rest place [] (arrow ∷ []) b
    (lexes-then second last rest b.after (arrow ∷ []) [] a (lexes-blank rest a.after))

-- a semicolon and the end of the line
pub lexes-line_end : (rest : List ℕ) (place : Place) → Lexes (line_end ++ rest) place (semicolon ∷ []) rest
lexes-line_end rest place =
    let r = lexes-punct Semicolon (10 ∷ rest) place semicolon refl in
    lexes-then (59 ∷ 10 ∷ rest) (10 ∷ rest) rest place (semicolon ∷ []) [] r
    (record {
      ts = [];
      after = after_byte r.after 10;
      match = tt;
      are = lexemes-step (10 ∷ rest) r.after ∙ sym (lexemes-step rest (after_byte r.after 10));
    })

-- ---- expressions

-- the bytes begin with this expression, which then stands at its places, and rest lies behind it
pub record LexesTree (room : ℕ) (bytes rest : List ℕ) (place : Place) (t : Tree) : Type 0 where
  pub tree : Tree
  pub same : unplaced_tree tree ≡ unplaced_tree t
  pub fits : Fits room tree
  pub lexes : Lexes bytes place (spell tree) rest

-- the same of expressions by a spelling of them
pub record LexesTrees (spelling : Trees → List Expected) (room : ℕ) (bytes rest : List ℕ) (place : Place)
    (ts : Trees) : Type 0 where
  pub all : Trees
  pub same : unplaced_trees all ≡ unplaced_trees ts
  pub fits : AreFit room all
  pub lexes : Lexes bytes place (spelling all) rest

-- the same of the operands of a sign
record LexesOperands (sign : Spot) (room : ℕ) (bytes rest : List ℕ) (place : Place) (ts : Trees) : Type 0 where
  all : Trees
  same : unplaced_trees all ≡ unplaced_trees ts
  several : AreSeveral all
  fits : AreFit room all
  here : Spot
  same_sign : here.text ≡ sign.text
  lexes : Lexes bytes place (spell_operands here all) rest

-- the separator is this token, and ends a word
pub record Separates (between : Expected) (separator : List ℕ) : Type 0 where
  pub lexes : (rest : List ℕ) (place : Place) → Lexes (separator ++ rest) place (between ∷ []) rest
  pub ends : (rest : List ℕ) → prefix_len is_mark_byte (separator ++ rest) ≡ 0

-- a comma and a blank
pub separates-comma : Separates comma (codes ", ")
separates-comma = record {
  lexes = λ rest place.
      let r = lexes-punct Comma (32 ∷ rest) place comma refl in
      lexes-then (44 ∷ 32 ∷ rest) (32 ∷ rest) rest place (comma ∷ []) [] r (lexes-blank rest r.after);
  ends = λ rest. refl;
}

-- a sign between blanks
separates-sign : (sign : Spot) → IsInfixSign sign.text
    → Separates (another sign) (codes " " ++ (sign.text ++ codes " "))
separates-sign sign h = record {
  lexes = λ rest place.
      let r = lexes-blank (sign.text ++ (32 ∷ rest)) place in
      let s = lexes-sign sign.text (32 ∷ rest) r.after (another sign) h refl refl in
      let whole = lexes-then (32 ∷ (sign.text ++ (32 ∷ rest))) (sign.text ++ (32 ∷ rest)) rest place []
      (another sign ∷ []) r
      (lexes-then (sign.text ++ (32 ∷ rest)) (32 ∷ rest) rest r.after (another sign ∷ []) [] s
      (lexes-blank rest s.after)) in
      subst (λ l. Lexes (32 ∷ l) place (another sign ∷ []) rest) (sym (append_assoc sign.text (32 ∷ []) rest)) whole;
  ends = λ rest. refl;
}

-- no punctuation character is a letter, a digit or an underscore
punct-end : (p : Punct) (rest : List ℕ) → prefix_len is_mark_byte (byte_of p ∷ rest) ≡ 0
punct-end Open rest = refl
punct-end Close rest = refl
punct-end OpenSquare rest = refl
punct-end CloseSquare rest = refl
punct-end OpenBrace rest = refl
punct-end CloseBrace rest = refl
punct-end Comma rest = refl
punct-end Semicolon rest = refl
punct-end Colon rest = refl
punct-end Dot rest = refl
punct-end Dollar rest = refl

-- the text behind an expression ends a word
others-end : (between : Expected) (separator : List ℕ) → Separates between separator → (ending : Punct) (ts : Trees)
    (rest : List ℕ) → prefix_len is_mark_byte (others_text separator ending ts ++ rest) ≡ 0
others-end between separator s ending no_trees rest = punct-end ending rest
others-end between separator s ending (more_trees t ts) rest =
    subst (λ l. prefix_len is_mark_byte l ≡ 0)
    (sym (append_assoc separator (tree_text t ++ others_text separator ending ts) rest))
    (s.ends ((tree_text t ++ others_text separator ending ts) ++ rest))

-- a word that may be missing has letters and digits alone, and at most 64 of them
part-bytes : (w : List ℕ) → (w ≢ [] → IsName w) → AreWordBytes w × IsShort w
part-bytes [] h = (refl, omega arith)
part-bytes (b ∷ w) h = let is = h (λ e. absurd cc) in (is.is_word.bytes, is.is_short)

-- the wildcard at this place
abbrev placed_wildcard : Wildcard → Place → Wildcard
placed_wildcard w place = record { name = w.name; marks = w.marks; kind = w.kind; place = place }

-- a wildcard is the text of its token
wildcard-spells : (w : Wildcard) → HasParts w → Spells (wildcard_text w) (tokens.Wildcard w.name w.marks w.kind)
wildcard-spells w h =
    let name = part-bytes w.name h.name in
    let kind = part-bytes w.kind h.kind in
    let is : IsWildcard (wildcard_text w) w.name w.marks w.kind = record {
      parts = refl;
      name_bytes = name.0;
      some_marks = h.some_marks;
      few_marks = h.few_marks;
      kind_bytes = kind.0;
      kind_behind_one = h.kind_behind_one;
    } in
    (is, name.1, kind.1)

-- a plus sign, where there is one
pub lexes-plus : (more : Bool) (rest : List ℕ) (place : Place) → prefix_len is_sign_byte rest ≡ 0
    → Lexes (plus_text more ++ rest) place (spell_plus more) rest
lexes-plus true rest place ends = lexes-sign (codes "+") rest place (Said (Sign (codes "+")))
    (record { is_sign = record { some = λ e. absurd cc; bytes = refl }; no_arrow = λ e. absurd cc }) ends refl
lexes-plus false rest place ends = record { ts = []; after = place; match = tt; are = refl }

-- the number in braces ends there
count-end : (more : Bool) (rest : List ℕ) → prefix_len is_mark_byte (plus_text more ++ (125 ∷ rest)) ≡ 0
count-end true rest = refl
count-end false rest = refl

-- a count in braces, which then stands at its place
record LexesCount (bytes rest : List ℕ) (place : Place) (count : Spot) (more : Bool) : Type 0 where
  here : Spot
  same : here.text ≡ count.text
  lexes : Lexes bytes place (spell_count here more) rest

lexes-count : (count : Spot) (more : Bool) (rest : List ℕ) (place : Place) → IsName count.text
    → LexesCount (count_text count more ++ rest) rest place count more
lexes-count count more rest place h =
    let third = 125 ∷ rest in
    let second = plus_text more ++ third in
    let first = count.text ++ second in
    let opening = Said (Punctuation OpenBrace) in
    let ending = Said (Punctuation CloseBrace) in
    let o = lexes-punct OpenBrace first place opening refl in
    let here : Spot = record { text = count.text; place = o.after } in
    let n = lexes-word count.text second o.after (spelled_word here) h (count-end more rest) (refl, refl) in
    let p = lexes-plus more third n.after refl in
    let c = lexes-punct CloseBrace rest p.after ending refl in
    let parts : count_text count more ++ rest ≡ 123 ∷ first = simp append_assoc in
    record {
      here = here;
      same = refl;
      lexes = subst (λ l. Lexes l place (spell_count here more) rest) (sym parts)
          (lexes-then (123 ∷ first) first rest place (opening ∷ [])
          (spelled_word here ∷ (spell_plus more ++ ending ∷ [])) o
          (lexes-then first second rest o.after (spelled_word here ∷ []) (spell_plus more ++ ending ∷ []) n
          (lexes-then second third rest n.after (spell_plus more) (ending ∷ []) p c)));
    }

symbol-fits : (room : ℕ) (w : Spot) → Fits room (Symbol w)
symbol-fits zero w = tt
symbol-fits (suc room) w = tt

-- the bytes begin with these wildcards, each with a colon behind it, which then stand at their places, and rest lies
-- behind them
record LexesChain (bytes rest : List ℕ) (place : Place) (w : Wildcard) (others : List Wildcard) : Type 0 where
  first : Wildcard
  all : List Wildcard
  same_first : unplaced_wildcard first ≡ unplaced_wildcard w
  same : map unplaced_wildcard all ≡ map unplaced_wildcard others
  dots : AreDots (first ∷ all)
  lexes : Lexes bytes place (flat_map spell_with_colon (first ∷ all)) rest

-- a wildcard and a colon
lexes-with_colon : (w : Wildcard) (rest : List ℕ) (place : Place) → HasParts w
    → Lexes (text_with_colon w ++ rest) place (spell_with_colon (placed_wildcard w place)) rest
lexes-with_colon w rest place h =
    let here = placed_wildcard w place in
    let r = lexes-wildcard (wildcard_text w) w.name w.marks w.kind (58 ∷ rest) place (spelled_wildcard here)
    (wildcard-spells w h) refl (refl, refl) in
    subst (λ l. Lexes l place (spell_with_colon here) rest) (sym (append_assoc (wildcard_text w) (58 ∷ []) rest))
    (lexes-then (wildcard_text w ++ (58 ∷ rest)) (58 ∷ rest) rest place (spelled_wildcard here ∷ []) (colon ∷ []) r
    (lexes-punct Colon rest r.after colon refl))

lexes-chain : (w : Wildcard) (others : List Wildcard) (rest : List ℕ) (place : Place) → HaveParts (w ∷ others)
    → AreDots (w ∷ others) → LexesChain (flat_map text_with_colon (w ∷ others) ++ rest) rest place w others
lexes-chain w [] rest place h dots =
    let here = placed_wildcard w place in
    record {
      first = here;
      all = [];
      same_first = refl;
      same = refl;
      dots = (record { one_mark = dots.0.one_mark; no_kind = dots.0.no_kind }, tt);
      lexes = subst (λ l. Lexes l place (spell_with_colon here) rest)
          (ap (λ l. l ++ rest) (sym (append-nil (text_with_colon w)))) (lexes-with_colon w rest place h.0);
    }
lexes-chain w (v ∷ others) rest place h dots =
    let here = placed_wildcard w place in
    let behind = flat_map text_with_colon (v ∷ others) ++ rest in
    let r = lexes-with_colon w behind place h.0 in
    let a = lexes-chain v others rest r.after h.1 dots.1 in
    record {
      first = here;
      all = a.first ∷ a.all;
      same_first = refl;
      same = λ i. a.same_first i ∷ a.same i;
      dots = (record { one_mark = dots.0.one_mark; no_kind = dots.0.no_kind }, a.dots);
      lexes = subst (λ l. Lexes l place (flat_map spell_with_colon (here ∷ a.first ∷ a.all)) rest)
          (sym (append_assoc (text_with_colon w) (flat_map text_with_colon (v ∷ others)) rest))
          (lexes-then (text_with_colon w ++ behind) behind rest place (spell_with_colon here)
          (flat_map spell_with_colon (a.first ∷ a.all)) r a.lexes);
    }

-- whether an expression has a default is told apart from its places
HasNoDefault-unplaced : (t u : Tree) → unplaced_tree t ≡ unplaced_tree u → HasNoDefault u → HasNoDefault t
HasNoDefault-unplaced t u e h = without t (subst HasNoDefault (sym e) (with_places u h))
  where
    with_places : (t : Tree) → HasNoDefault t → HasNoDefault (unplaced_tree t)
    with_places (Symbol w) h = tt
    with_places (Apply f args) h = tt
    with_places (InfixOf opened sign operands) h = tt
    with_places (Wild w) h = tt
    with_places (Counted w count more) h = tt
    with_places (Optional w others default) h = absurd h
    with_places (Variable w) h = tt

    without : (t : Tree) → HasNoDefault (unplaced_tree t) → HasNoDefault t
    without (Symbol w) h = tt
    without (Apply f args) h = tt
    without (InfixOf opened sign operands) h = tt
    without (Wild w) h = tt
    without (Counted w count more) h = tt
    without (Optional w others default) h = absurd h
    without (Variable w) h = tt

mutual
  pub lexes-tree : (t : Tree) (room : ℕ) (rest : List ℕ) (place : Place) → HasNames t → Fits room t
      → prefix_len is_mark_byte rest ≡ 0 → LexesTree room (tree_text t ++ rest) rest place t
  lexes-tree (Symbol w) room rest place h fits ends = record {
    tree = Symbol (record { text = w.text; place = place });
    same = refl;
    fits = symbol-fits room (record { text = w.text; place = place });
    lexes = lexes-word w.text rest place (Stands (Word w.text) place) h ends (refl, refl);
  }
  lexes-tree (Wild w) room rest place h fits ends =
      let here = placed_wildcard w place in
      record {
        tree = Wild here;
        same = refl;
        fits = wild-fits room here;
        lexes = lexes-wildcard (wildcard_text w) w.name w.marks w.kind rest place (spelled_wildcard here)
            (wildcard-spells w h) ends (refl, refl);
      }
  lexes-tree (Counted w count more) room rest place h fits ends =
      let f = fits-counted room w count more fits in
      let here = placed_wildcard w place in
      let behind = count_text count more ++ rest in
      let r = lexes-wildcard (wildcard_text w) w.name w.marks w.kind behind place (spelled_wildcard here)
      (wildcard-spells w h.0) refl (refl, refl) in
      let c = lexes-count count more rest r.after h.1 in
      record {
        tree = Counted here c.here more;
        same = λ i. Counted (unplaced_wildcard w) (record { text = c.same i; place = first_place }) more;
        fits = counted-fits room here c.here more
            (record { one_mark = f.0.one_mark; no_kind = f.0.no_kind })
            (subst (λ l. list_all is_ascii_digit l ≡ true) (sym c.same) f.1);
        lexes = subst (λ l. Lexes l place (spell (Counted here c.here more)) rest)
            (sym (append_assoc (wildcard_text w) (count_text count more) rest))
            (lexes-then (wildcard_text w ++ behind) behind rest place (spelled_wildcard here ∷ [])
            (spell_count c.here more) r c.lexes);
      }
  lexes-tree (Optional w others default) room rest place h fits ends =
      let f = fits-optional room w others default fits in
      let behind = tree_text default ++ rest in
      let a = lexes-chain w others behind place (h.0, h.1) f.0 in
      let r = lexes-tree default room rest a.lexes.after h.2 f.2 ends in
      record {
        tree = Optional a.first a.all r.tree;
        same = λ i. Optional (a.same_first i) (a.same i) (r.same i);
        fits = optional-fits room a.first a.all r.tree a.dots (HasNoDefault-unplaced r.tree default r.same f.1) r.fits;
        lexes = subst (λ l. Lexes l place (spell (Optional a.first a.all r.tree)) rest)
            (sym (append_assoc (flat_map text_with_colon (w ∷ others)) (tree_text default) rest))
            (lexes-then (flat_map text_with_colon (w ∷ others) ++ behind) behind rest place
            (flat_map spell_with_colon (a.first ∷ a.all)) (spell r.tree) a.lexes r.lexes);
      }
  lexes-tree (Apply f args) zero rest place h fits ends = absurd fits
  lexes-tree (Apply f args) (suc room) rest place h fits ends =
      let behind = first_text (codes ", ") Close args ++ rest in
      let name : Spot = record { text = f.text; place = place } in
      let opening = Said (Punctuation Open) in
      let r = lexes-word f.text (40 ∷ behind) place (spelled_word name) h.0 refl (refl, refl) in
      let s = lexes-punct Open behind r.after opening refl in
      let a = lexes-first args comma (codes ", ") separates-comma Close room rest s.after h.1 fits in
      let whole = lexes-then (f.text ++ (40 ∷ behind)) (40 ∷ behind) rest place (spelled_word name ∷ [])
      (opening ∷ spell_first comma Close a.all) r
      (lexes-then (40 ∷ behind) behind rest r.after (opening ∷ []) (spell_first comma Close a.all) s a.lexes) in
      record {
        tree = Apply name a.all;
        same = ap (Apply (unplaced_spot f)) a.same;
        fits = a.fits;
        lexes = subst (λ l. Lexes l place (spell (Apply name a.all)) rest)
            (sym (append_assoc f.text (codes "(" ++ first_text (codes ", ") Close args) rest)) whole;
      }
  lexes-tree (InfixOf opened sign operands) zero rest place h fits ends = absurd fits
  lexes-tree (InfixOf opened sign operands) (suc room) rest place h fits ends =
      let separator = codes " " ++ (sign.text ++ codes " ") in
      let behind = first_text separator Close operands ++ rest in
      let opening = Stands (Punctuation Open) place in
      let r = lexes-punct Open behind place opening (refl, refl) in
      let a = lexes-operands operands sign room rest r.after h.0 h.1 fits.0 fits.1 in
      record {
        tree = InfixOf place a.here a.all;
        same = λ i. InfixOf first_place (record { text = a.same_sign i; place = first_place }) (a.same i);
        fits = (a.several, a.fits);
        lexes = lexes-then (40 ∷ behind) behind rest place (opening ∷ []) (spell_operands a.here a.all) r a.lexes;
      }
  lexes-tree (Variable w) room rest place h fits ends =
      let dollar = Stands (Punctuation Dollar) place in
      let r = lexes-punct Dollar (w.text ++ rest) place dollar (refl, refl) in
      record {
        tree = Variable (record { text = w.text; place = place });
        same = refl;
        fits = variable-fits room (record { text = w.text; place = place });
        lexes = lexes-then (36 ∷ (w.text ++ rest)) (w.text ++ rest) rest place (dollar ∷ []) (fixed_word w.text ∷ []) r
            (lexes-word w.text rest r.after (fixed_word w.text) h ends refl);
      }

  pub lexes-first : (ts : Trees) (between : Expected) (separator : List ℕ) → Separates between separator
      → (ending : Punct) (room : ℕ) (rest : List ℕ) (place : Place) → HaveNames ts → AreFit room ts
      → LexesTrees (spell_first between ending) room (first_text separator ending ts ++ rest) rest place ts
  lexes-first no_trees between separator s ending room rest place h fits =
      record {
        all =
            no_trees;
        same = refl;
        fits = tt;
        lexes = lexes-punct ending rest place (Said (Punctuation ending)) refl;
      }
  lexes-first (more_trees t ts) between separator s ending room rest place h fits =
      let behind = others_text separator ending ts ++ rest in
      let r = lexes-tree t room behind place h.0 fits.0 (others-end between separator s ending ts rest) in
      let a = lexes-others ts between separator s ending room rest r.lexes.after h.1 fits.1 in
      record {
        all = more_trees r.tree a.all;
        same = λ i. more_trees (r.same i) (a.same i);
        fits = (r.fits, a.fits);
        lexes = subst (λ l. Lexes l place (spell r.tree ++ spell_others between ending a.all) rest)
            (sym (append_assoc (tree_text t) (others_text separator ending ts) rest))
            (lexes-then (tree_text t ++ behind) behind rest place (spell r.tree)
            (spell_others between ending a.all) r.lexes a.lexes);
      }

  lexes-others : (ts : Trees) (between : Expected) (separator : List ℕ) → Separates between separator
      → (ending : Punct) (room : ℕ) (rest : List ℕ) (place : Place) → HaveNames ts → AreFit room ts
      → LexesTrees (spell_others between ending) room (others_text separator ending ts ++ rest) rest place ts
  lexes-others no_trees between separator s ending room rest place h fits =
      record {
        all =
            no_trees;
        same = refl;
        fits = tt;
        lexes = lexes-punct ending rest place (Said (Punctuation ending)) refl;
      }
  lexes-others (more_trees t ts) between separator s ending room rest place h fits =
      let behind = others_text separator ending ts ++ rest in
      let q = s.lexes (tree_text t ++ behind) place in
      let r = lexes-tree t room behind q.after h.0 fits.0 (others-end between separator s ending ts rest) in
      let a = lexes-others ts between separator s ending room rest r.lexes.after h.1 fits.1 in
      let parts : separator ++ (tree_text t ++ others_text separator ending ts) ++ rest
      ≡ separator ++ (tree_text t ++ behind) =
      append_assoc separator (tree_text t ++ others_text separator ending ts) rest
      ∙ ap (λ l. separator ++ l) (append_assoc (tree_text t) (others_text separator ending ts) rest) in
      record {
        all = more_trees r.tree a.all;
        same = λ i. more_trees (r.same i) (a.same i);
        fits = (r.fits, a.fits);
        lexes = subst (λ l. Lexes l place (between ∷ spell r.tree ++ spell_others between ending a.all) rest)
            (sym parts)
            (lexes-then (separator ++ (tree_text t ++ behind)) (tree_text t ++ behind) rest place (between ∷ [])
            (spell r.tree ++ spell_others between ending a.all) q
            (lexes-then (tree_text t ++ behind) behind rest q.after (spell r.tree)
            (spell_others between ending a.all) r.lexes a.lexes));
      }

  lexes-operands : (ts : Trees) (sign : Spot) (room : ℕ) (rest : List ℕ) (place : Place) → IsInfixSign sign.text
      → HaveNames ts → AreSeveral ts → AreFit room ts
      → LexesOperands sign room (first_text (codes " " ++ (sign.text ++ codes " ")) Close ts ++ rest) rest place ts
  lexes-operands no_trees sign room rest place h names several fits = absurd several
  lexes-operands (more_trees t no_trees) sign room rest place h names several fits = absurd several
  lexes-operands (more_trees t (more_trees u us)) sign room rest place h names several fits =
      let separator = codes " " ++ (sign.text ++ codes " ") in
      let last = others_text separator Close us ++ rest in
      let third = tree_text u ++ last in
      let second = sign.text ++ (32 ∷ third) in
      let first = tree_text t ++ (32 ∷ second) in
      let r = lexes-tree t room (32 ∷ second) place names.0 fits.0 refl in
      let b = lexes-blank second r.lexes.after in
      let here : Spot = record { text = sign.text; place = b.after } in
      let s = lexes-sign sign.text (32 ∷ third) b.after (spelled_sign here) h refl (refl, refl) in
      let c = lexes-blank third s.after in
      let between = another here in
      let x = lexes-tree u room last c.after names.1.0 fits.1.0
      (others-end between separator (separates-sign here h) Close us rest) in
      let a = lexes-others us between separator
      (separates-sign here h) Close room rest x.lexes.after names.1.1 fits.1.1 in
      let others = spell x.tree ++ spell_others between Close a.all in
      let parts : (tree_text t ++ (separator ++ (tree_text u ++ others_text separator Close us))) ++ rest ≡ first =
      simp append_assoc in
      record {
        all = more_trees r.tree (more_trees x.tree a.all);
        same = λ i. more_trees (r.same i) (more_trees (x.same i) (a.same i));
        several = tt;
        fits = (r.fits, (x.fits, a.fits));
        here = here;
        same_sign = refl;
        lexes = subst (λ l. Lexes l place (spell r.tree ++ spelled_sign here ∷ others) rest) (sym parts)
            (lexes-then first (32 ∷ second) rest place (spell r.tree) (spelled_sign here ∷ others) r.lexes
            (lexes-then (32 ∷ second) second rest r.lexes.after [] (spelled_sign here ∷ others) b
            (lexes-then second (32 ∷ third) rest b.after (spelled_sign here ∷ []) others s
            (lexes-then (32 ∷ third) third rest s.after [] others c
            (lexes-then third last rest c.after (spell x.tree) (spell_others between Close a.all) x.lexes a.lexes)))));
      }

-- ---- words between blanks

-- a word that a statement has by its form, and a blank
pub lexes-keyword : (w rest : List ℕ) (place : Place) → IsName w
    → Lexes (w ++ (32 ∷ rest)) place (fixed_word w ∷ []) rest
lexes-keyword w rest place h =
    let r = lexes-word w (32 ∷ rest) place (fixed_word w) h refl refl in
    lexes-then (w ++ (32 ∷ rest)) (32 ∷ rest) rest place (fixed_word w ∷ []) [] r (lexes-blank rest r.after)

-- a word behind a blank, and what follows
pub lexes-behind : (w behind : List ℕ) (place : Place) (m : Expected) → IsName w → prefix_len is_mark_byte behind ≡ 0
    → Matches (record { token = Word w; place = after_byte place 32 }) m
    → Lexes (32 ∷ (w ++ behind)) place (m ∷ []) behind
unfolding lexes-blank
lexes-behind w behind place m h ends match =
    lexes-then (32 ∷ (w ++ behind)) (w ++ behind) behind place [] (m ∷ []) (lexes-blank (w ++ behind) place)
    (lexes-word w behind (after_byte place 32) m h ends match)
