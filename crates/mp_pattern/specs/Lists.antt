-- The one-list of a rule and the all-list of rules: all that they admit on a subject, each once, in order.
use Rattle.std.specs.Prelude.{◌≡◌, ◌↔◌, ℕ, List, map, Contains, Some, slice_get}
use Rattle.std.specs.declared.cmp.Ordering.{Ordering}
use Rattle.std.specs.declared.cmp.Ordering.TheVariants.{Less, Greater}
use Rattle.std.specs.Ordering.{ordering_then, nat_cmp}
use Rattle.std.specs.Cmp.Lexicographic.{slice_cmp}
use Rattle.std.specs.List.Sorted.{IsStrictlySortedBy}
use Rattle.mp_term.specs.Tree.{Tree}
use Rattle.mp_term.specs.Order.{tree_cmp, shortlex}
use Rattle.mp_term.specs.Signature.{Sig}
use Rattle.mp_pattern.specs.Value.{Value, one, seq, bag, Subst}
use Rattle.mp_pattern.specs.Fits.{Table}
use Rattle.mp_pattern.specs.DerivationOrder.{table_cmp}
use Rattle.mp_pattern.specs.Admission.{Rule, Admits, AreLeast}

-- One before Seq before Bag; One by the term order, Seq and Bag by shortlex
abbrev pub value_cmp : Value → Value → Ordering
value_cmp (one t) (one u) = tree_cmp t u
value_cmp (seq ts) (seq us) = shortlex tree_cmp ts us
value_cmp (bag ts) (bag us) = shortlex tree_cmp ts us
value_cmp (one t) w = Less
value_cmp v (one u) = Greater
value_cmp (seq ts) w = Less
value_cmp v w = Greater

-- variable by variable, in order of first occurrence
abbrev pub subst_cmp : Subst → Subst → Ordering
subst_cmp r s = slice_cmp value_cmp (map (λ b. b.value) r) (map (λ b. b.value) s)

-- the number of a rule, from 0, and a substitution
abbrev pub Pair : Type 0
Pair = ℕ × Subst

-- by the rule's number, then by the substitution
abbrev pub pair_cmp : Pair → Pair → Ordering
pair_cmp p q = ordering_then (nat_cmp p.0 q.0) (subst_cmp p.1 q.1)

module _ (sig : Sig) where
  -- the list holds exactly what the rule admits, strictly ascending by least table
  pub record IsOneList (r : Rule) (t : Tree) (ss : List Subst) : Type 0 where
    pub exactly : (s : Subst) → Contains ss s ↔ Admits sig r t s
    pub tables : List Table
    pub least : AreLeast sig r.pattern t ss tables
    pub ascending : IsStrictlySortedBy table_cmp tables

  -- the rule of that number admits the substitution
  abbrev pub PairAdmitted : List Rule → Tree → Pair → Type 0
  PairAdmitted rules t p = (r : Rule) × (slice_get rules p.0 ≡ Some r) × Admits sig r t p.1

  -- the list holds exactly the admitted pairs, strictly ascending by number and substitution
  pub record IsAllList (rules : List Rule) (t : Tree) (ps : List Pair) : Type 0 where
    pub exactly : (p : Pair) → Contains ps p ↔ PairAdmitted rules t p
    pub ascending : IsStrictlySortedBy pair_cmp ps
