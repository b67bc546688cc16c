-- The printed text of templates.
use Rattle.std.specs.Prelude.{List, [], ◌∷◌, ◌++◌, slice_get, codes}
use Rattle.mp_io.specs.Devices.{Text}
use Rattle.mp_term.specs.Signature.{Sig}
use Rattle.mp_pattern.specs.TemplateTree.{Template, symbol_template, app_template, variable_template, Templates}
use Rattle.mp_pattern.specs.TemplateTree.{no_templates, more_templates}
use Rattle.mp_print.specs.Printing.{held_text}

module _ (sig : Sig) where
  -- a symbol is its name, an application is printed as one of a term, and a variable is `$` and its name
  abbrev mutual
    pub template_text : Template → Text
    template_text (symbol_template n) = n
    template_text (app_template f xs) = held_text (slice_get sig.ops f) (template_texts xs)
    template_text (variable_template x) = codes "$" ++ x

    pub template_texts : Templates → List Text
    template_texts no_templates = []
    template_texts (more_templates x xs) = template_text x ∷ template_texts xs
