-- Trees and lists of trees, the trees of applications and infix expressions, and wildcards, which fit at any number of
-- brackets.
use Rattle.std.proofs.Common.{◌≡◌, ℕ, zero, suc, Bool, true, List, [], ◌∷◌, ◌++◌, length, map, refl, ap}
use Rattle.std.proofs.Common.{◌∙◌}
use Rattle.std.specs.Prelude.{◌&&◌, ◌==◌}
use Rattle.std.specs.Borrow.{Bor}
use Rattle.std.proofs.lemmas.Bool.{and_parts, eqb-true}
use mathlib.Core.Former.{Count}
use Rattle.std.proofs.lemmas.List.{nil_from_length}
use Rattle.mp_parser.specs.declared.place.Place.{Place}
use Rattle.mp_parser.specs.declared.word.Word as code_word
use Rattle.mp_parser.specs.declared.word.InfixSign as code_sign
use Rattle.mp_parser.specs.declared.tree.Expr as code
use Rattle.mp_parser.specs.declared.tree.Expr.{Expr, Apply', Infix, Infix', Row_of-Expr, end_of-Expr, more_of-Expr}
use Rattle.mp_parser.specs.declared.tree.Expr.{items-the_row-Expr, items_hidden-the_row-Expr-0}
use Rattle.mp_parser.specs.Syntax as syntax
use Rattle.mp_parser.specs.Syntax.{Spot, Wildcard, Tree, Symbol, Apply, InfixOf, Wild, Counted, Optional, Variable}
use Rattle.mp_parser.specs.Syntax.{Trees, trees, IsNumber, tree_list, no_trees, more_trees, IsDot, AreDots}
use Rattle.mp_parser.specs.Syntax.{HasNoDefault, Fits, spell, spell_with_colon, Atom, AtomOf, FitsAtom, FitsLiteral}
use Rattle.mp_parser.specs.Machine.{is_dot, with_default}
use Rattle.mp_parser.specs.View.{spot_of, spot_of_sign, expr_tree, row_trees}

-- the trees of the list of trees
pub trees-tree_list : (ts : Trees) → trees (tree_list ts) ≡ ts
trees-tree_list no_trees = refl
trees-tree_list (more_trees t ts) = ap (more_trees t) (trees-tree_list ts)

-- the list of the trees of a list
pub tree_list-trees : (ts : List Tree) → tree_list (trees ts) ≡ ts
tree_list-trees [] = refl
tree_list-trees (t ∷ ts) = ap (λ l. t ∷ l) (tree_list-trees ts)

abbrev row_of : Expr → (n : Count) × Row_of-Expr n
row_of (Apply' _ _ _ row) = (_, row)
row_of (Infix' _ _ _ _ row) = (_, row)
row_of _ = (_, end_of-Expr)

row_trees-row : (n : _) (row : Row_of-Expr n) → row_trees row ≡ trees (map expr_tree (items-the_row-Expr n row))
row_trees-row n end_of-Expr = refl
row_trees-row n (more_of-Expr e row) = ap (more_trees (expr_tree e)) (row_trees-row _ row)

-- an application is its name and the trees of its arguments
pub expr_tree-Apply : (f : code_word.Word) (v : Bor (List Expr))
    → expr_tree (code.Apply f v) ≡ syntax.Apply (spot_of f) (trees (map expr_tree v.now))
expr_tree-Apply f v =
    let row = row_of (code.Apply f v) in
    ap (syntax.Apply (spot_of f)) (row_trees-row row.0 row.1
    ∙ ap (λ l. trees (map expr_tree l)) (items_hidden-the_row-Expr-0 v.now))

-- an infix expression is its bracket, its sign and the trees of its operands
pub expr_tree-Infix : (place : Place) (sign : code_sign.InfixSign) (v : Bor (List Expr))
    → expr_tree (Infix place sign v) ≡ syntax.InfixOf place (spot_of_sign sign) (trees (map expr_tree v.now))
expr_tree-Infix place sign v =
    let row = row_of (Infix place sign v) in
    ap (syntax.InfixOf place (spot_of_sign sign))
    (row_trees-row row.0 row.1 ∙ ap (λ l. trees (map expr_tree l)) (items_hidden-the_row-Expr-0 v.now))

-- a wildcard with one underscore and no kind
pub is_dot-true : (w : Wildcard) → is_dot w ≡ true → IsDot w
is_dot-true w h =
    let p = and_parts (w.marks == 1) (length w.kind == 0) h in
    record { one_mark = eqb-true w.marks 1 p.0; no_kind = nil_from_length w.kind (eqb-true (length w.kind) 0 p.1) }

pub true-is_dot : (w : Wildcard) → IsDot w → is_dot w ≡ true
true-is_dot w h = ap (λ n. (n == 1) && (length w.kind == 0)) h.one_mark ∙ ap (λ (l : List ℕ). length l == 0) h.no_kind

-- a wildcard fits
pub wild-fits : (room : ℕ) (w : Wildcard) → Fits room (Wild w)
wild-fits zero w = tt
wild-fits (suc room) w = tt

-- a wildcard with a count fits where it has one underscore and no kind and the count is a number
pub counted-fits : (room : ℕ) (w : Wildcard) (count : Spot) (more : Bool) → IsDot w → IsNumber count
    → Fits room (Counted w count more)
counted-fits zero w count more h k = (h, k)
counted-fits (suc room) w count more h k = (h, k)

pub fits-counted : (room : ℕ) (w : Wildcard) (count : Spot) (more : Bool) → Fits room (Counted w count more)
    → IsDot w × IsNumber count
fits-counted zero w count more h = h
fits-counted (suc room) w count more h = h

-- a variable fits
pub variable-fits : (room : ℕ) (w : Spot) → Fits room (Variable w)
variable-fits zero w = tt
variable-fits (suc room) w = tt

-- what a wildcard with a default has to be to fit
pub fits-optional : (room : ℕ) (w : Wildcard) (others : List Wildcard) (default : Tree)
    → Fits room (Optional w others default) → AreDots (w ∷ others) × HasNoDefault default × Fits room default
fits-optional zero w others default h = h
fits-optional (suc room) w others default h = h

pub optional-fits : (room : ℕ) (w : Wildcard) (others : List Wildcard) (default : Tree) → AreDots (w ∷ others)
    → HasNoDefault default → Fits room default → Fits room (Optional w others default)
optional-fits zero w others default h k f = (h, k, f)
optional-fits (suc room) w others default h k f = (h, k, f)

-- an expression that fits is a default that fits
pub with_default-fits : (room : ℕ) (w : Wildcard) (e : Tree) → IsDot w → Fits room e → Fits room (with_default w e)
with_default-fits room w (Symbol s) h fits = optional-fits room w [] (Symbol s) (h, tt) tt fits
with_default-fits room w (Apply f args) h fits = optional-fits room w [] (Apply f args) (h, tt) tt fits
with_default-fits room w (InfixOf place sign operands) h fits =
    optional-fits room w [] (InfixOf place sign operands) (h, tt) tt fits
with_default-fits room w (Wild v) h fits = optional-fits room w [] (Wild v) (h, tt) tt fits
with_default-fits room w (Counted v count more) h fits = optional-fits room w [] (Counted v count more) (h, tt) tt fits
with_default-fits room w (Optional v others default) h fits =
    let r = fits-optional room v others default fits in
    optional-fits room w (v ∷ others) default (h, r.0) r.1 r.2
with_default-fits room w (Variable v) h fits = optional-fits room w [] (Variable v) (h, tt) tt fits

-- a wildcard with a default is the wildcard, a colon and the default
pub spell-with_default : (w : Wildcard) (e : Tree) → spell (with_default w e) ≡ spell_with_colon w ++ spell e
spell-with_default w (Symbol s) = refl
spell-with_default w _ = refl

-- what fits as an atom fits as a literal, and back
pub atom-literal : (room : ℕ) (negated : Bool) (a : Atom) → FitsAtom room a → FitsLiteral room (AtomOf negated a)
atom-literal zero negated a h = h
atom-literal (suc room) negated a h = h

pub literal-atom : (room : ℕ) (negated : Bool) (a : Atom) → FitsLiteral room (AtomOf negated a) → FitsAtom room a
literal-atom zero negated a h = h
literal-atom (suc room) negated a h = h
