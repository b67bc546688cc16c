-- The terms that instructions bring to a table, and the table of a subject with them.
use Rattle.std.proofs.Common.{◌≡◌, ◌≤◌, List, refl, sym, subst}
use Rattle.std.specs.Prelude.{Contains, IsSome, IfOk, Result, Ok, Err}
use Rattle.std.specs.List.{AllByRecursion}
use Rattle.std.proofs.lemmas.Result.{IfOk-weaker}
use Rattle.mp_term.specs.Listing.{In, IsListing}
use Rattle.mp_term.specs.Normal.{IsNormal}
use Rattle.mp_term.specs.Order.{tree_cmp}
use Rattle.mp_term.specs.Signature.{Sig}
use Rattle.mp_term.specs.Size.{all_nodes, node_count}
use Rattle.mp_term.specs.Tree.{Tree}
use Rattle.mp_term.proofs.ListLaws.{all-also, all-append, all-flat_map}
use Rattle.mp_term.proofs.ListingLaws.{all_in, contains-from_in, in-from_contains}
use Rattle.mp_term.proofs.SearchLaws.{all-from_in}
use Rattle.mp_pattern.specs.Constants.{default_of, pattern_constants, all_pattern_constants}
use Rattle.mp_pattern.specs.EachWildcard.{AllEachWildcard}
use Rattle.mp_pattern.specs.declared.limits.TheConstants.{MAX_TERM_NODES}
use Rattle.mp_pattern.specs.NetTokens.{NetToken, sym_token, enter_token, leave_token, wild_token, comm_token}
use Rattle.mp_pattern.specs.PatternTree.{Wildcard, dot, kind, plus, star, optional, counted}
use Rattle.mp_pattern.specs.PatternTree.{Pattern, symbol_pattern, app_pattern, wild_pattern}
use Rattle.mp_pattern.specs.PatternTree.{Patterns, no_patterns, more_patterns}
use Rattle.mp_pattern.specs.Sound.{DefaultIsNormal, DefaultsAreNormal}
use Rattle.mp_table.specs.declared.limits.TheConstants.{MAX_CONSTANT_NODES}
use Rattle.mp_table.specs.Table.{IsTableOf, Table, rank_of, subject_of}
pub use Rattle.mp_search.proofs.TableLaws.{subject-built}
use Rattle.mp_search.proofs.TableLaws.{held-built}
use Rattle.mp_walk.specs.CodeConstants.{AreCodeConstants, IsCodeTable, code_constants, token_constants}
use Rattle.mp_walk.specs.Instrs.{Instr}
use Rattle.mp_walk.specs.SoundTokens.{IsSoundToken}
use Rattle.mp_walk.specs.Walkable.{IsWalkable}
use Rattle.mp_walk.proofs.CodeLaws.{tokens-sound}

-- ---- the constants are normal

module _ (sig : Sig) where
  default-normal : (w : Wildcard) → DefaultIsNormal sig w → AllByRecursion (IsNormal sig) (default_of w)
  default-normal dot h = tt
  default-normal (kind k) h = tt
  default-normal plus h = tt
  default-normal star h = tt
  default-normal (optional t) h = (h, tt)
  default-normal (counted n fixed) h = tt

  mutual
    pattern-normal : (p : Pattern) → DefaultsAreNormal sig p → AllByRecursion (IsNormal sig) (pattern_constants p)
    pattern-normal (symbol_pattern n) h = (refl, tt)
    pattern-normal (app_pattern f ps) h = patterns-normal ps h
    pattern-normal (wild_pattern w x) h = default-normal w h

    patterns-normal : (ps : Patterns) → AllEachWildcard (DefaultIsNormal sig) ps
        → AllByRecursion (IsNormal sig) (all_pattern_constants ps)
    patterns-normal no_patterns h = tt
    patterns-normal (more_patterns p ps) h = all-append (IsNormal sig) (pattern_constants p)
        (all_pattern_constants ps) (pattern-normal p h.0) (patterns-normal ps h.1)

  token-normal : (k : NetToken) → IsSoundToken sig k → AllByRecursion (IsNormal sig) (token_constants k)
  token-normal (sym_token n) h = tt
  token-normal (enter_token f) h = tt
  token-normal (leave_token f) h = tt
  token-normal (wild_token w x) h = default-normal w h.0
  token-normal (comm_token p) h = pattern-normal p h.defaults

  -- a list of exactly the constants of instructions that may be walked will do for a table, where it has few nodes
  pub code_constants-listed : (code : List Instr) (ts : List Tree) → IsWalkable sig code
      → IsListing tree_cmp (Contains (code_constants code)) ts → all_nodes ts ≤ MAX_CONSTANT_NODES
      → AreCodeConstants sig code ts
  code_constants-listed code ts walkable listed few =
      let all = code_constants code in
      let normal : AllByRecursion (IsNormal sig) all =
      all-flat_map (IsNormal sig) (λ (i : Instr). IsSoundToken sig i.token) (λ i. token_constants i.token)
      (λ i h. token-normal i.token h) code (tokens-sound sig code walkable) in
      record {
        normal = all-from_in (IsNormal sig) ts
            (λ t i. all_in (IsNormal sig) all t normal
            (in-from_contains t all ((listed.exactly t).0 (contains-from_in t ts i))));
        few = few;
        held = all-from_in (λ u. In u ts) all
            (λ t i. in-from_contains t ts ((listed.exactly t).1 (contains-from_in t all i)));
      }

-- ---- the table

module _ (table : Table) (subject : Tree) (constants : List Tree) (built : IsTableOf subject constants table) where
  -- the instructions may be walked on it, where the constants are theirs
  pub code_table-built : (sig : Sig) (code : List Instr) → AreCodeConstants sig code constants
      → AllByRecursion (IsNormal sig) table.terms → node_count subject ≤ MAX_TERM_NODES → IsCodeTable sig code table
  code_table-built sig code h normal few = record {
    normal = normal;
    few = subst (λ t. node_count t ≤ MAX_TERM_NODES) (sym (subject-built table subject constants built)) few;
    constants = all-also (λ u. In u constants) (λ u. IsSome (rank_of table u))
        (held-built table subject constants built) (code_constants code) h.held;
  }

-- so it is with a table that may not be built
module _ {E : Type 0} (r : Result Table E) (subject : Tree) (constants : List Tree)
    (built : IfOk r (IsTableOf subject constants)) where
  pub subjects-built : IfOk r (λ table. subject_of table ≡ subject)
  subjects-built = IfOk-weaker r (IsTableOf subject constants) (λ table. subject_of table ≡ subject)
      (λ table h. subject-built table subject constants h) built

  pub code_tables-built : (sig : Sig) (code : List Instr) → AreCodeConstants sig code constants
      → IfOk r (λ table. AllByRecursion (IsNormal sig) table.terms) → node_count subject ≤ MAX_TERM_NODES
      → IfOk r (IsCodeTable sig code)
  code_tables-built sig code h normal few = by_case r built normal
    where
      by_case : (r : Result Table E) → IfOk r (IsTableOf subject constants)
          → IfOk r (λ table. AllByRecursion (IsNormal sig) table.terms) → IfOk r (IsCodeTable sig code)
      by_case (Ok table) k n = code_table-built table subject constants k sig code h n few
      by_case (Err e) k n = tt
