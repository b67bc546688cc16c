-- The printed text of patterns.
use Rattle.std.specs.Prelude.{ℕ, Bool, not, List, [], ◌∷◌, ◌++◌, Option, unwrap_or, slice_get, codes, decimal}
use Rattle.mp_io.specs.Devices.{Text}
use Rattle.mp_term.specs.Signature.{Sig}
use Rattle.mp_pattern.specs.PatternTree.{Wildcard, dot, kind, plus, star, optional, counted, Pattern, symbol_pattern}
use Rattle.mp_pattern.specs.PatternTree.{app_pattern, wild_pattern, Patterns, no_patterns, more_patterns}
use Rattle.mp_print.specs.Printing.{text_if, kind_name_text, held_text, term_text}

-- how many arguments a counted wildcard takes: {COUNT[+]}
abbrev pub count_text : ℕ → Bool → Text
count_text n fixed = codes "{" ++ (decimal n ++ (text_if (not fixed) (codes "+") ++ codes "}"))

module _ (sig : Sig) where
  -- what stands behind the name of a wildcard: _ _KIND __ ___ _:DEFAULT _{COUNT[+]}
  abbrev pub shape_text : Wildcard → Text
  shape_text dot = codes "_"
  shape_text (kind k) = codes "_" ++ kind_name_text sig k
  shape_text plus = codes "__"
  shape_text star = codes "___"
  shape_text (optional t) = codes "_:" ++ term_text sig t
  shape_text (counted n fixed) = codes "_" ++ count_text n fixed

  -- the name of the variable, where there is one, and the shape
  abbrev pub wildcard_text : Wildcard → Option Text → Text
  wildcard_text w x = unwrap_or x [] ++ shape_text w

  -- a symbol is its name, and an application is printed as one of a term
  abbrev mutual
    pub pattern_text : Pattern → Text
    pattern_text (symbol_pattern n) = n
    pattern_text (app_pattern f ps) = held_text (slice_get sig.ops f) (pattern_texts ps)
    pattern_text (wild_pattern w x) = wildcard_text w x

    pub pattern_texts : Patterns → List Text
    pattern_texts no_patterns = []
    pattern_texts (more_patterns p ps) = pattern_text p ∷ pattern_texts ps
