-- Worked examples: the text of terms, templates, edits and substitutions.
use Rattle.std.proofs.Common.{◌≡◌, [], ◌∷◌, refl}
use Rattle.std.specs.Prelude.{codes}
use Rattle.mp_term.specs.Tree.{symbol, app, trees}
use Rattle.mp_term.specs.Signature.{Sig}
use Rattle.mp_term.proofs.Examples.{plus_decl, pair_decl}
use Rattle.mp_pattern.specs.Value.{one, seq, bag}
use Rattle.mp_pattern.specs.TemplateTree.{symbol_template, app_template, variable_template, templates}
use Rattle.mp_print.specs.Printing.{term_text, subst_text}
use Rattle.mp_print.specs.PrintedTemplate.{template_text}
use Rattle.mp_print.specs.PrintedEdits.{edits_text}

-- a signature with a sum and a pair
abbrev example_sig : Sig
example_sig = record { ops = plus_decl ∷ pair_decl ∷ []; kinds = [] }

-- a sum of three terms is printed with its sign
term_text-infix : term_text example_sig
    (app 0 (trees (symbol (codes "a") ∷ symbol (codes "b") ∷ symbol (codes "c") ∷ []))) ≡ codes "(a + b + c)"
term_text-infix = refl

-- a sum of one term is printed with its name, as every application without a sign is
term_text-prefix : term_text example_sig
    (app 1 (trees (app 0 (trees (symbol (codes "a") ∷ [])) ∷ symbol (codes "b") ∷ []))) ≡ codes "pair(plus(a), b)"
term_text-prefix = refl

-- variables of a template behind `$`
template_text-variables : template_text example_sig
    (app_template 1 (templates (app_template 0 (templates (variable_template (codes "x") ∷ []))
    ∷ app_template 0 (templates (symbol_template (codes "a") ∷ variable_template (codes "y") ∷ [])) ∷ [])))
    ≡ codes "pair(plus($x), (a + $y))"
template_text-variables = refl

-- edits of the whole term: one new term stands alone, two or none in square brackets
edits_text-terms : edits_text example_sig
    (record { position = []; terms = symbol (codes "a") ∷ [] }
    ∷ record { position = []; terms = symbol (codes "b") ∷ symbol (codes "c") ∷ [] }
    ∷ record { position = []; terms = [] } ∷ []) ≡ codes ". -> a, . -> [b, c], . -> []"
edits_text-terms = refl

-- a term, a tuple and a multiset
subst_text-each_form : subst_text example_sig
    (record { name = codes "x"; value = one (symbol (codes "a")) }
    ∷ record { name = codes "y"; value = seq (symbol (codes "b") ∷ symbol (codes "c") ∷ []) }
    ∷ record { name = codes "z"; value = bag (symbol (codes "d") ∷ []) } ∷ []) ≡ codes "{x -> a, y -> (b, c), z -> {d}}"
subst_text-each_form = refl

-- no binding
subst_text-empty : subst_text example_sig [] ≡ codes "{}"
subst_text-empty = refl
