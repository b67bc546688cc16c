-- The printed text of conditions.
use Rattle.std.specs.Prelude.{ℕ, List, [], ◌∷◌, ◌++◌, slice_get, nat_lt, if◌then◌else◌, codes, decimal}
use Rattle.std.specs.Option.{option_map_or}
use Rattle.mp_io.specs.Devices.{Text}
use Rattle.mp_term.specs.Signature.{Sig}
use Rattle.mp_pattern.specs.declared.condition.Sense.{Sense}
use Rattle.mp_pattern.specs.declared.condition.Sense.TheVariants.{Lt, Le, Gt, Ge, Eq, Ne}
use Rattle.mp_pattern.specs.CondTree.{Operand, var, ground, Amount, fixed, count, size, Cond, amounts, same, less, free}
use Rattle.mp_pattern.specs.CondTree.{of_kind, headed, negation, all_of, any_of, Conds, no_conds, more_conds}
use Rattle.mp_print.specs.Printing.{separated, kind_name_text, term_text}

-- ---- atoms

-- the sign of a comparison
abbrev pub sense_text : Sense → Text
sense_text Lt = codes "<"
sense_text Le = codes "<="
sense_text Gt = codes ">"
sense_text Ge = codes ">="
sense_text Eq = codes "=="
sense_text Ne = codes "!="

-- WORD(A)
abbrev pub measure_text : Text → Text → Text
measure_text word a = word ++ (codes "(" ++ (a ++ codes ")"))

-- WORD(A, B)
abbrev pub relation_text : Text → Text → Text → Text
relation_text word a b = word ++ (codes "(" ++ (a ++ (codes ", " ++ (b ++ codes ")"))))

module _ (sig : Sig) where
  -- $NAME, or the text of a term
  abbrev pub operand_text : Operand → Text
  operand_text (var x) = codes "$" ++ x
  operand_text (ground t) = term_text sig t

  -- a number, count(A) or size(A)
  abbrev pub amount_text : Amount → Text
  amount_text (fixed n) = decimal n
  amount_text (count a) = measure_text (codes "count") (operand_text a)
  amount_text (size a) = measure_text (codes "size") (operand_text a)

  -- A SIGN B
  abbrev pub comparison_text : Amount → Sense → Amount → Text
  comparison_text m c n = amount_text m ++ (codes " " ++ (sense_text c ++ (codes " " ++ amount_text n)))

  -- the name of an operation; one that isn't held has none
  abbrev pub op_name_text : ℕ → Text
  op_name_text f = option_map_or (λ d. d.name) (slice_get sig.ops f) []

-- ---- conditions

-- how tightly the parts of a condition hold together: those of a disjunction least, then a conjunction, a negation and
-- an atom
abbrev pub tightness : Cond → ℕ
tightness (any_of cs) = 0
tightness (all_of cs) = 1
tightness (negation c) = 2
tightness _ = 3

-- the text of a part, in square brackets where its condition holds together less tightly than is asked
abbrev pub part_text : ℕ → Cond → Text → Text
part_text least c text = if nat_lt (tightness c) least then codes "[" ++ (text ++ codes "]") else text

module _ (sig : Sig) where
  abbrev mutual
    -- an atom; `not ` and a part; parts with ` and ` between each two; or parts with ` or ` between each two
    pub cond_text : Cond → Text
    cond_text (amounts m c n) = comparison_text sig m c n
    cond_text (same a b) = relation_text (codes "same") (operand_text sig a) (operand_text sig b)
    cond_text (less a b) = relation_text (codes "less") (operand_text sig a) (operand_text sig b)
    cond_text (free a b) = relation_text (codes "free") (operand_text sig a) (operand_text sig b)
    cond_text (of_kind a k) = relation_text (codes "kind") (operand_text sig a) (kind_name_text sig k)
    cond_text (headed a f) = relation_text (codes "head") (operand_text sig a) (op_name_text sig f)
    cond_text (negation c) = codes "not " ++ part_text 3 c (cond_text c)
    cond_text (all_of cs) = separated (codes " and ") (part_texts 2 cs)
    cond_text (any_of cs) = separated (codes " or ") (part_texts 1 cs)

    -- the texts of parts of that tightness
    pub part_texts : ℕ → Conds → List Text
    part_texts least no_conds = []
    part_texts least (more_conds c cs) = part_text least c (cond_text c) ∷ part_texts least cs
