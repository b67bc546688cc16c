-- Counts and names of applications and infix expressions, whose arguments the code holds in a slice.
use Rattle.std.proofs.Common.{◌≡◌, ℕ, zero, suc, ◌+◌, ◌≤◌, ◌<◌, List, [], ◌∷◌, map, length, get_or, ap}
use Rattle.std.proofs.Common.{◌∙◌, arith, subst, sym}
use Rattle.std.specs.Borrow.{Bor}
use Rattle.std.specs.Prelude.{◌&&◌, is_some}
use Rattle.mp_term.specs.Signature.{Sig}
use Rattle.mp_parser.specs.declared.place.Place.{Place}
use Rattle.mp_parser.specs.declared.word.Word as code
use Rattle.mp_parser.specs.declared.word.InfixSign as code_sign
use Rattle.mp_parser.specs.declared.tree.Expr.{Expr, Apply, Infix}
use Rattle.mp_parser.specs.Syntax.{trees}
use Rattle.mp_parser.specs.View.{expr_tree}
use Rattle.mp_parser.proofs.Trees.{expr_tree-Apply, expr_tree-Infix}
use Rattle.mp_pattern.specs.declared.pattern.Pattern as code_pattern
use Rattle.mp_pattern.specs.Size.{pattern_nodes, list_nodes}
use Rattle.mp_pattern.specs.View.{pattern_tree}
use Rattle.mp_build.specs.Checks.{nodes, all_nodes, has_large_default, some_large_default}
use Rattle.mp_build.specs.Build.{op_number, sign_number, has_term, all_have_terms}
use Rattle.mp_build.specs.Scope.{pattern_variables, all_pattern_variables}
use Rattle.mp_build.specs.Wildcards.{pattern_wildcards, all_pattern_wildcards}

-- the nodes of an application
pub nodes-Apply : (f : code.Word) (v : Bor (List Expr))
    → nodes (expr_tree (Apply f v)) ≡ 1 + all_nodes (trees (map expr_tree v.now))
nodes-Apply f v = ap nodes (expr_tree-Apply f v) ∙ omega arith

-- whether a default of an application is large
pub has_large_default-Apply : (f : code.Word) (v : Bor (List Expr))
    → has_large_default (expr_tree (Apply f v)) ≡ some_large_default (trees (map expr_tree v.now))
has_large_default-Apply f v = ap has_large_default (expr_tree-Apply f v)

-- the same of an infix expression
pub has_large_default-Infix : (place : Place) (sign : code_sign.InfixSign) (v : Bor (List Expr))
    → has_large_default (expr_tree (Infix place sign v)) ≡ some_large_default (trees (map expr_tree v.now))
has_large_default-Infix place sign v = ap has_large_default (expr_tree-Infix place sign v)

-- whether an application is a term
pub has_term-Apply : (sig : Sig) (f : code.Word) (v : Bor (List Expr))
    → has_term sig (expr_tree (Apply f v))
    ≡ (is_some (op_number sig f.text.now) && all_have_terms sig (trees (map expr_tree v.now)))
has_term-Apply sig f v = ap (has_term sig) (expr_tree-Apply f v)

-- the same of an infix expression
pub has_term-Infix : (sig : Sig) (place : Place) (sign : code_sign.InfixSign) (v : Bor (List Expr))
    → has_term sig (expr_tree (Infix place sign v))
    ≡ (is_some (sign_number sig sign.text.now) && all_have_terms sig (trees (map expr_tree v.now)))
has_term-Infix sig place sign v = ap (has_term sig) (expr_tree-Infix place sign v)

-- the wildcards of an application
pub pattern_wildcards-Apply : (sig : Sig) (f : code.Word) (v : Bor (List Expr))
    → pattern_wildcards sig (expr_tree (Apply f v)) ≡ all_pattern_wildcards sig (trees (map expr_tree v.now))
pattern_wildcards-Apply sig f v = ap (pattern_wildcards sig) (expr_tree-Apply f v)

-- the nodes of an infix expression
pub nodes-Infix : (place : Place) (sign : code_sign.InfixSign) (v : Bor (List Expr))
    → nodes (expr_tree (Infix place sign v)) ≡ 1 + all_nodes (trees (map expr_tree v.now))
nodes-Infix place sign v = ap nodes (expr_tree-Infix place sign v) ∙ omega arith

-- the variables of an application
pub pattern_variables-Apply : (f : code.Word) (v : Bor (List Expr))
    → pattern_variables (expr_tree (Apply f v)) ≡ all_pattern_variables (trees (map expr_tree v.now))
pattern_variables-Apply f v = ap pattern_variables (expr_tree-Apply f v)

-- the variables of an infix expression
pub pattern_variables-Infix : (place : Place) (sign : code_sign.InfixSign) (v : Bor (List Expr))
    → pattern_variables (expr_tree (Infix place sign v)) ≡ all_pattern_variables (trees (map expr_tree v.now))
pattern_variables-Infix place sign v = ap pattern_variables (expr_tree-Infix place sign v)

-- an item has no more nodes than the list
nodes-get_or : (es : List Expr) (i : ℕ) (d : Expr) → i < length es
    → nodes (expr_tree (get_or es i d)) ≤ all_nodes (trees (map expr_tree es))
nodes-get_or [] i d h = absurd (omega arith)
nodes-get_or (e ∷ es) zero d h = omega arith
nodes-get_or (e ∷ es) (suc i) d h = omega (arith, nodes-get_or es i d (omega arith))

-- the item at an index has no more nodes than the list
pub nodes-item : (es : List Expr) (i : ℕ) (x : Expr) → i < length es → x ≡ get_or es i x
    → nodes (expr_tree x) ≤ all_nodes (trees (map expr_tree es))
nodes-item es i x h is = let P : Expr → Type 0 = λ y. nodes (expr_tree y) ≤ all_nodes (trees (map expr_tree es)) in
    subst P (sym is) (nodes-get_or es i x h)

-- an item has no more nodes than the list of patterns
pattern_nodes-get_or : (ps : List code_pattern.Pattern) (i : ℕ) (d : code_pattern.Pattern) → i < length ps
    → pattern_nodes (pattern_tree (get_or ps i d)) ≤ list_nodes (map pattern_tree ps)
pattern_nodes-get_or [] i d h = absurd (omega arith)
pattern_nodes-get_or (p ∷ ps) zero d h = omega arith
pattern_nodes-get_or (p ∷ ps) (suc i) d h = omega (arith, pattern_nodes-get_or ps i d (omega arith))

-- the pattern at an index has no more nodes than the list
pub pattern_nodes-item : (ps : List code_pattern.Pattern) (i : ℕ) (x : code_pattern.Pattern) → i < length ps
    → x ≡ get_or ps i x → pattern_nodes (pattern_tree x) ≤ list_nodes (map pattern_tree ps)
pattern_nodes-item ps i x h is = let P : code_pattern.Pattern → Type 0 =
    λ y. pattern_nodes (pattern_tree y) ≤ list_nodes (map pattern_tree ps) in
    subst P (sym is) (pattern_nodes-get_or ps i x h)
