-- The printed text of edits.
use Rattle.std.specs.Prelude.{ℕ, List, [], ◌∷◌, ◌++◌, map, codes, decimal}
use Rattle.mp_io.specs.Devices.{Text}
use Rattle.mp_term.specs.Tree.{Tree}
use Rattle.mp_term.specs.Signature.{Sig}
use Rattle.mp_term.specs.declared.edit.Edit.{Edit}
use Rattle.mp_print.specs.Printing.{separated, term_text}

-- the root is a dot, and every other position its indexes with a dot between each two
abbrev pub position_text : List ℕ → Text
position_text [] = codes "."
position_text indexes = separated (codes ".") (map decimal indexes)

module _ (sig : Sig) where
  -- one term stands alone, and every other number of them in square brackets
  abbrev pub new_terms_text : List Tree → Text
  new_terms_text (t ∷ []) = term_text sig t
  new_terms_text ts = codes "[" ++ (separated (codes ", ") (map (term_text sig) ts) ++ codes "]")

  -- POSITION -> TERM or POSITION -> [TERM, TERM]
  abbrev pub edit_text : Edit → Text
  edit_text e = position_text e.position ++ (codes " -> " ++ new_terms_text e.terms)

  -- the edits, with a comma between each two
  abbrev pub edits_text : List Edit → Text
  edits_text es = separated (codes ", ") (map edit_text es)
