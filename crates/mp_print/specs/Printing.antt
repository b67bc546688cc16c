-- The printed text of terms, values and substitutions.
use Rattle.std.specs.Prelude.{ℕ, Bool, List, [], ◌∷◌, ◌++◌, length, map, Option, Some, None, slice_get}
use Rattle.std.specs.Prelude.{unwrap_or, nat_le, if◌then◌else◌, codes}
use Rattle.mp_io.specs.Devices.{Text}
use Rattle.mp_term.specs.declared.signature.OpDecl.{OpDecl}
use Rattle.mp_term.specs.Tree.{Tree, symbol, app, Trees, no_trees, more_trees}
use Rattle.mp_term.specs.Signature.{Sig, kind_names}
use Rattle.mp_pattern.specs.Value.{Value, one, seq, bag, Binding, Subst}

-- ---- pieces

-- the text, where the test holds
abbrev pub text_if : Bool → Text → Text
text_if test text = if test then text else []

-- the name of a kind; one that isn't held has none
abbrev pub kind_name_text : Sig → ℕ → Text
kind_name_text sig k = unwrap_or (slice_get (kind_names sig) k) []

-- ---- terms

-- the texts, each behind the separator
abbrev pub preceded : Text → List Text → Text
preceded separator [] = []
preceded separator (text ∷ texts) = separator ++ (text ++ preceded separator texts)

-- the texts, with the separator between each two
abbrev pub separated : Text → List Text → Text
separated separator [] = []
separated separator (text ∷ texts) = text ++ preceded separator texts

-- the texts in round brackets, with the separator between each two
abbrev pub bracketed : Text → List Text → Text
bracketed separator texts = codes "(" ++ (separated separator texts ++ codes ")")

-- an operation before its arguments: NAME(A, B, C)
abbrev pub prefix_text : OpDecl → List Text → Text
prefix_text d args = d.name ++ bracketed (codes ", ") args

-- an operation between its arguments: (A SIGN B SIGN C)
abbrev pub infix_text : Text → List Text → Text
infix_text sign args = bracketed (codes " " ++ (sign ++ (codes " " ++ []))) args

-- an operation stands between two arguments or more where it has a sign, and else before them
abbrev pub application_text : OpDecl → Option Text → List Text → Text
application_text d None args = prefix_text d args
application_text d (Some sign) args = if nat_le 2 (length args) then infix_text sign args else prefix_text d args

-- what stands before so many arguments
abbrev pub front_text : OpDecl → Option Text → ℕ → Text
front_text d None n = d.name ++ codes "("
front_text d (Some sign) n = if nat_le 2 n then codes "(" else d.name ++ codes "("

-- what stands between each two of so many arguments
abbrev pub separator_text : Option Text → ℕ → Text
separator_text None n = codes ", "
separator_text (Some sign) n = if nat_le 2 n then codes " " ++ (sign ++ (codes " " ++ [])) else codes ", "

-- the text of an application; an operation that isn't held has none
abbrev pub held_text : Option OpDecl → List Text → Text
held_text None args = []
held_text (Some d) args = application_text d d.sign args

module _ (sig : Sig) where
  -- a symbol is its name
  abbrev mutual
    pub term_text : Tree → Text
    term_text (symbol n) = n
    term_text (app f ts) = held_text (slice_get sig.ops f) (term_texts ts)

    pub term_texts : Trees → List Text
    term_texts no_trees = []
    term_texts (more_trees t ts) = term_text t ∷ term_texts ts

  -- ---- values and substitutions

  -- one term is its text, a tuple stands in round brackets, and a multiset in curly ones
  abbrev pub value_text : Value → Text
  value_text (one t) = term_text t
  value_text (seq ts) = bracketed (codes ", ") (map term_text ts)
  value_text (bag ts) = codes "{" ++ (separated (codes ", ") (map term_text ts) ++ codes "}")

  -- NAME -> VALUE
  abbrev pub binding_text : Binding → Text
  binding_text b = b.name ++ (codes " -> " ++ value_text b.value)

  -- {NAME -> VALUE, NAME -> VALUE}
  abbrev pub subst_text : Subst → Text
  subst_text s = codes "{" ++ (separated (codes ", ") (map binding_text s) ++ codes "}")
