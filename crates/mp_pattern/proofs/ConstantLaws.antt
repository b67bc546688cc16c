-- The constants of sound rules are normal, and have few nodes.
use Rattle.std.proofs.Common.{ℕ, ◌+◌, ◌*◌, ◌≤◌, List, [], ◌∷◌, length, Option, Some, None, refl, ap, arith}
use Rattle.std.specs.Prelude.{flat_map, Contains}
use Rattle.std.specs.declared.cmp.Ordering.TheVariants.{Less, Equal, Greater}
use Rattle.std.specs.List.{AllByRecursion}
use Rattle.std.proofs.lemmas.List.{length-append}
use Rattle.mp_term.specs.Tree.{Tree}
use Rattle.mp_term.specs.Order.{tree_cmp}
use Rattle.mp_term.specs.OrderLaws.{tree_cmp_total, tree_same}
use Rattle.mp_term.specs.Size.{node_count, all_nodes}
use Rattle.mp_term.specs.Signature.{Sig}
use Rattle.mp_term.specs.Normal.{IsNormal}
use Rattle.mp_term.specs.Pieces.{insert_new, distinct}
use Rattle.mp_term.specs.Listing.{IsListing}
use Rattle.mp_term.proofs.ListLaws.{all-append, all-also, all-flat_map}
use Rattle.mp_term.proofs.ListingLaws.{contains-from_in, in-from_contains, all_in, unique_listing}
use Rattle.mp_term.proofs.NormalSize.{all_nodes-append}
use Rattle.mp_term.proofs.PiecesLaws.{in-distinct, from_in-distinct, ascending-distinct}
use Rattle.mp_term.proofs.SearchLaws.{all-from_in}
use Rattle.mp_pattern.specs.declared.limits.TheConstants.{MAX_PATTERN_NODES, MAX_DEFAULT_NODES, MAX_OPERAND_NODES}
use Rattle.mp_pattern.specs.declared.limits.TheConstants.{MAX_ATOMS}
use Rattle.mp_pattern.specs.PatternTree.{Wildcard, dot, kind, plus, star, optional, counted, Pattern, symbol_pattern}
use Rattle.mp_pattern.specs.PatternTree.{app_pattern, wild_pattern, Patterns, no_patterns, more_patterns}
use Rattle.mp_pattern.specs.CondTree.{Operand, var, ground, Amount, fixed, count, size, Cond, amounts, same, less, free}
use Rattle.mp_pattern.specs.CondTree.{of_kind, headed, negation, all_of, any_of, Conds, no_conds, more_conds}
use Rattle.mp_pattern.specs.Size.{pattern_nodes, all_pattern_nodes}
use Rattle.mp_pattern.specs.Operands.{amount_operands, operands, all_operands}
use Rattle.mp_pattern.specs.Admission.{Rule}
use Rattle.mp_pattern.specs.Constants.{default_of, pattern_constants, all_pattern_constants, ground_term}
use Rattle.mp_pattern.specs.Constants.{condition_constants, rule_constants, IsConstantOf}
use Rattle.mp_pattern.specs.SoundRule.{atom_count, atom_counts, IsSoundWildcard, IsFormed, AreFormed, IsSoundOperand}
use Rattle.mp_pattern.specs.SoundRule.{HasSoundCondition, IsSoundRule}
use Rattle.mp_pattern.proofs.SoundRules.{operands-IsChecked}

-- ---- their number

single-default : (w : Wildcard) → length (default_of w) ≤ 1
single-default dot = omega arith
single-default (kind k) = omega arith
single-default plus = omega arith
single-default star = omega arith
single-default (optional t) = omega arith
single-default (counted n b) = omega arith

mutual
  length-pattern_constants : (p : Pattern) → length (pattern_constants p) ≤ pattern_nodes p
  length-pattern_constants (symbol_pattern n) = omega arith
  length-pattern_constants (app_pattern f ps) = omega (arith, length-all_pattern_constants ps)
  length-pattern_constants (wild_pattern w x) = single-default w

  length-all_pattern_constants : (ps : Patterns) → length (all_pattern_constants ps) ≤ all_pattern_nodes ps
  length-all_pattern_constants no_patterns = omega arith
  length-all_pattern_constants (more_patterns p ps) =
      omega (
        arith,
        length-append (pattern_constants p) (all_pattern_constants ps),
        length-pattern_constants p,
        length-all_pattern_constants ps,
      )

single-amount : (m : Amount) → length (amount_operands m) ≤ 1
single-amount (fixed n) = omega arith
single-amount (count a) = omega arith
single-amount (size a) = omega arith

mutual
  length-operands : (c : Cond) → length (operands c) ≤ 2 * atom_count c
  length-operands (amounts m s n) =
      omega (arith, length-append (amount_operands m) (amount_operands n), single-amount m, single-amount n)
  length-operands (same a b) = omega arith
  length-operands (less a b) = omega arith
  length-operands (free a b) = omega arith
  length-operands (of_kind a k) = omega arith
  length-operands (headed a f) = omega arith
  length-operands (negation c) = length-operands c
  length-operands (all_of cs) = length-all_operands cs
  length-operands (any_of cs) = length-all_operands cs

  length-all_operands : (cs : Conds) → length (all_operands cs) ≤ 2 * atom_counts cs
  length-all_operands no_conds = omega arith
  length-all_operands (more_conds c cs) =
      omega (arith, length-append (operands c) (all_operands cs), length-operands c, length-all_operands cs)

length-ground_term : (xs : List Operand) → length (flat_map ground_term xs) ≤ length xs
length-ground_term [] = omega arith
length-ground_term (var x ∷ xs) = omega (arith, length-ground_term xs)
length-ground_term (ground t ∷ xs) = omega (arith, length-ground_term xs)

-- ---- their nodes

-- terms of few nodes have few together
all_nodes-each : (most : ℕ) (ts : List Tree) → AllByRecursion (λ t. node_count t ≤ most) ts
    → all_nodes ts ≤ length ts * most
all_nodes-each most [] h = omega arith
all_nodes-each most (t ∷ ts) h = grind (arith, h.0, all_nodes-each most ts h.1)

all_nodes-insert_new : (t : Tree) (us : List Tree) → all_nodes (insert_new tree_cmp t us) ≤ node_count t + all_nodes us
all_nodes-insert_new t [] = omega arith
all_nodes-insert_new t (u ∷ us) =
    elim (tree_cmp t u) as (λ r. all_nodes
    (elim r [ Less ↦ t ∷ u ∷ us | Equal ↦ u ∷ us | Greater ↦ u ∷ insert_new tree_cmp t us ])
    ≤ node_count t + all_nodes (u ∷ us)) [
      | Less ↦ omega arith
      | Equal ↦ omega arith
      | Greater ↦ omega (arith, all_nodes-insert_new t us)
    ]

all_nodes-distinct : (ts : List Tree) → all_nodes (distinct tree_cmp ts) ≤ all_nodes ts
all_nodes-distinct [] = omega arith
all_nodes-distinct (t ∷ ts) = omega (arith, all_nodes-insert_new t (distinct tree_cmp ts), all_nodes-distinct ts)

-- the listing of terms has no more nodes than they
all_nodes-IsListing : (all ts : List Tree) → IsListing tree_cmp (Contains all) ts → all_nodes ts ≤ all_nodes all
all_nodes-IsListing all ts h =
    let other : IsListing tree_cmp (Contains all) (distinct tree_cmp all) =
    record {
      exactly = λ t. (
        λ k. contains-from_in t all (from_in-distinct tree_cmp tree_cmp_total tree_same t all
            (in-from_contains t (distinct tree_cmp all) k)),
        λ k. contains-from_in t (distinct tree_cmp all) (in-distinct tree_cmp tree_cmp_total tree_same t all
            (in-from_contains t all k)),
      );
      ascending = ascending-distinct tree_cmp tree_cmp_total tree_same all;
    } in
    omega (
      arith,
      ap all_nodes (unique_listing tree_cmp tree_cmp_total (Contains all) ts (distinct tree_cmp all) h other),
      all_nodes-distinct all,
    )

-- ---- of sound rules

module _ (sig : Sig) where
  -- a normal term of so many nodes at most
  abbrev IsFine : ℕ → Tree → Type 0
  IsFine most t = IsNormal sig t × (node_count t ≤ most)

  fine-default : (w : Wildcard) → IsSoundWildcard sig w → AllByRecursion (IsFine MAX_DEFAULT_NODES) (default_of w)
  fine-default dot h = tt
  fine-default (kind k) h = tt
  fine-default plus h = tt
  fine-default star h = tt
  fine-default (optional t) h = ((h.normal, h.few_nodes), tt)
  fine-default (counted n b) h = tt

  mutual
    fine-pattern : (p : Pattern) → IsFormed sig p → AllByRecursion (IsFine MAX_DEFAULT_NODES) (pattern_constants p)
    fine-pattern (symbol_pattern n) h = ((refl, omega arith), tt)
    fine-pattern (app_pattern f ps) h = fine-patterns ps h.1
    fine-pattern (wild_pattern w x) h = fine-default w h.0

    fine-patterns : (ps : Patterns) → AreFormed sig ps
        → AllByRecursion (IsFine MAX_DEFAULT_NODES) (all_pattern_constants ps)
    fine-patterns no_patterns h = tt
    fine-patterns (more_patterns p ps) h = all-append (IsFine MAX_DEFAULT_NODES) (pattern_constants p)
        (all_pattern_constants ps) (fine-pattern p h.0) (fine-patterns ps h.1)

  fine-operand : (p : Pattern) (a : Operand) → IsSoundOperand sig p a
      → AllByRecursion (IsFine MAX_OPERAND_NODES) (ground_term a)
  fine-operand p (var x) h = tt
  fine-operand p (ground t) h = ((h.normal, h.few_nodes), tt)

  fine-condition : (p : Pattern) (o : Option Cond) → HasSoundCondition sig p o
      → AllByRecursion (IsFine MAX_OPERAND_NODES) (condition_constants o)
  fine-condition p None h = tt
  fine-condition p (Some c) h = all-flat_map (IsFine MAX_OPERAND_NODES) (IsSoundOperand sig p) ground_term
      (fine-operand p) (operands c) (operands-IsChecked sig p c h.checked)

  length-condition : (p : Pattern) (o : Option Cond) → HasSoundCondition sig p o
      → length (condition_constants o) ≤ 2 * MAX_ATOMS
  length-condition p None h = omega arith
  length-condition p (Some c) h = omega (arith, length-ground_term (operands c), length-operands c, h.few_atoms)

  few-nodes : (most number : ℕ) (ts : List Tree) → AllByRecursion (IsFine most) ts → length ts ≤ number
      → all_nodes ts ≤ number * most
  few-nodes most number ts h few =
      grind (arith, all_nodes-each most ts (all-also (IsFine most) (λ t. node_count t ≤ most) (λ t k. k.1) ts h), few)

  -- the constants of a sound rule
  normal-rule : (r : Rule) → IsSoundRule sig r → AllByRecursion (IsNormal sig) (rule_constants r)
  normal-rule r h =
      all-append (IsNormal sig) (pattern_constants r.pattern) (condition_constants r.condition)
      (all-also (IsFine MAX_DEFAULT_NODES) (IsNormal sig) (λ t k. k.0) (pattern_constants r.pattern)
      (fine-pattern r.pattern h.pattern.formed))
      (all-also (IsFine MAX_OPERAND_NODES) (IsNormal sig) (λ t k. k.0) (condition_constants r.condition)
      (fine-condition r.pattern r.condition h.condition))

  all_nodes-rule : (r : Rule) → IsSoundRule sig r
      → all_nodes (rule_constants r) ≤ MAX_PATTERN_NODES * MAX_DEFAULT_NODES + 2 * MAX_ATOMS * MAX_OPERAND_NODES
  all_nodes-rule r h =
      omega (
        arith,
        all_nodes-append (pattern_constants r.pattern) (condition_constants r.condition),
        few-nodes MAX_DEFAULT_NODES MAX_PATTERN_NODES (pattern_constants r.pattern)
            (fine-pattern r.pattern h.pattern.formed)
            (omega (arith, length-pattern_constants r.pattern, h.pattern.few_nodes)),
        few-nodes MAX_OPERAND_NODES (2 * MAX_ATOMS) (condition_constants r.condition)
            (fine-condition r.pattern r.condition h.condition) (length-condition r.pattern r.condition h.condition),
      )

  all_nodes-rules : (rs : List Rule) → AllByRecursion (IsSoundRule sig) rs
      → all_nodes (flat_map rule_constants rs)
      ≤ length rs * (MAX_PATTERN_NODES * MAX_DEFAULT_NODES + 2 * MAX_ATOMS * MAX_OPERAND_NODES)
  all_nodes-rules [] h = omega arith
  all_nodes-rules (r ∷ rs) h =
      omega (
        arith,
        all_nodes-append (rule_constants r) (flat_map rule_constants rs),
        all_nodes-rule r h.0,
        all_nodes-rules rs h.1,
      )

  -- the constants of sound rules are normal
  pub constants-normal : (rs : List Rule) (ts : List Tree) → AllByRecursion (IsSoundRule sig) rs
      → IsListing tree_cmp (IsConstantOf rs) ts → AllByRecursion (IsNormal sig) ts
  constants-normal rs ts h l =
      all-from_in (IsNormal sig) ts
      (λ t i. all_in (IsNormal sig) (flat_map rule_constants rs) t
      (all-flat_map (IsNormal sig) (IsSoundRule sig) rule_constants normal-rule rs h)
      (in-from_contains t (flat_map rule_constants rs) ((l.exactly t).0 (contains-from_in t ts i))))

  -- and have few nodes together
  pub constants-nodes : (rs : List Rule) (ts : List Tree) → AllByRecursion (IsSoundRule sig) rs
      → IsListing tree_cmp (IsConstantOf rs) ts → all_nodes ts
      ≤ length rs * (MAX_PATTERN_NODES * MAX_DEFAULT_NODES + 2 * MAX_ATOMS * MAX_OPERAND_NODES)
  constants-nodes rs ts h l =
      omega (arith, all_nodes-IsListing (flat_map rule_constants rs) ts l, all_nodes-rules rs h)
