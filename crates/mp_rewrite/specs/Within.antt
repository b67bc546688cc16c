-- A term within a whole of which it has the first redex, and steps of it there.
use Rattle.std.specs.Prelude.{◌≡◌, ◌<◌, ◌≤◌, ◌++◌, ℕ, List, [], ◌∷◌, length, false, Option, Some, None, Result, Ok, Err}
use Rattle.std.specs.Prelude.{slice_get, slice_set}
use Rattle.mp_term.specs.declared.size.Excess.{Excess}
use Rattle.mp_term.specs.declared.limits.TheConstants.{MAX_TERM_NODES, MAX_DEPTH}
use Rattle.mp_term.specs.Tree.{Tree, app, trees}
use Rattle.mp_term.specs.View.{tree}
use Rattle.mp_term.specs.Excess.{excess}
use Rattle.mp_term.specs.Size.{node_count, depth}
use Rattle.mp_term.specs.Positions.{subterm}
use Rattle.mp_term.specs.Replaced.{replaced}
use Rattle.mp_term.specs.Signature.{Sig, is_assoc, is_comm, is_one}
use Rattle.mp_term.specs.Normal.{normal, IsNormal}
use Rattle.mp_pattern.specs.Admission.{Rule}
use Rattle.mp_rewrite.specs.Computed.{Redex, first_match, first_redex}
use Rattle.mp_rewrite.specs.Rewritable.{IsRewritable}
use Rattle.mp_rewrite.specs.Marks.{Mark}
use Rattle.mp_rewrite.specs.MarkView.{mark_of}
use Rattle.mp_rewrite.specs.Known.{IsKnown}
use Rattle.mp_rewrite.specs.Run.{Leads}
use Rattle.mp_rewrite.specs.declared.in_place.Marked.{Marked}
use Rattle.mp_rewrite.specs.declared.run.Run.{Run}

-- a redex of the term at the position, as one of the whole
abbrev pub under : List ℕ → Redex → Redex
under p r = record r { position = p ++ r.position }

-- an operation is neither associative nor commutative nor one-identity
pub record IsFree (sig : Sig) (f : ℕ) : Type 0 where
  pub assoc : is_assoc sig f ≡ false
  pub comm : is_comm sig f ≡ false
  pub one : is_one sig f ≡ false

-- the list with one in the place of the item at the index, where there is an index
abbrev pub with_one : Option ℕ → List Tree → Tree → List Tree
with_one None ts u = ts
with_one (Some i) ts u = slice_set ts i u

-- a whole, with a term in it at a position below that many applications; its nodes are counted
pub record IsWhole (w : Tree) (p q : List ℕ) (levels : ℕ) (t : Tree) (nodes : ℕ) : Type 0 where
  pub above : levels ≡ length p
  pub there : subterm w (p ++ q) ≡ subterm t q
  pub counted : nodes ≡ node_count w
  pub few : node_count w ≤ MAX_TERM_NODES
  pub shallow : depth w ≤ MAX_DEPTH

-- the tree is too large or too deep, or its nodes are told
abbrev pub IsCounted : Tree → Result ℕ Excess → Type 0
IsCounted w (Ok n) = (excess (w ∷ []) ≡ None) × (n ≡ node_count w)
IsCounted w (Err e) = excess (w ∷ []) ≡ Some e

module _ (sig : Sig) (rules : List Rule) where
  -- with any term t at the position C t is normal as soon as t is, and then its first redex is that of t, if t has one
  pub record IsAround (C : Tree → Tree) (p : List ℕ) : Type 0 where
    pub there : (q : List ℕ) (t : Tree) → subterm (C t) (p ++ q) ≡ subterm t q
    pub put : (q : List ℕ) (u t : Tree) → replaced (p ++ q) u (C t) ≡ C (replaced q u t)
    pub normal : (t : Tree) → normal sig (C t) ≡ C (normal sig t)
    pub first : (t : Tree) (r : Redex) → IsNormal sig t → first_redex sig rules t ≡ Some r
        → first_redex sig rules (C t) ≡ Some (under p r)

  -- the term stands in such a whole, that can be rewritten, below that many applications; what is known of the term is
  -- right, and the nodes of the whole are counted
  pub record IsWithin (C : Tree → Tree) (levels : ℕ) (t : Tree) (known : Mark) (nodes : ℕ) : Type 0 where
    pub position : List ℕ
    pub above : levels ≡ length position
    pub around : IsAround C position
    pub rewritable : IsRewritable sig (C t)
    pub right : IsKnown sig rules known t
    pub counted : nodes ≡ node_count (C t)

  -- the same of a term with what is known of it and the nodes of the whole
  abbrev pub IsMarkedWithin : (Tree → Tree) → ℕ → Marked → Type 0
  IsMarkedWithin C levels m = IsWithin C levels (tree m.term) (mark_of m.known) m.nodes

  -- the run leads from the term to another one in any such whole
  abbrev pub IsRunWithin : ℕ → Marked → Run → Type 0
  IsRunWithin levels m r = (C : Tree → Tree) → IsMarkedWithin C levels m
      → IsMarkedWithin C levels r.here × Leads sig rules r.made (C (tree m.term)) (C (tree r.here.term))

  -- no rule admits anything on the application whatever stands at the index, and no argument before that has a redex
  pub record IsQuiet (f : ℕ) (ts : List Tree) (i : ℕ) : Type 0 where
    pub free : IsFree sig f
    pub within : i < length ts
    pub none : (u : Tree) → IsNormal sig (app f (trees (slice_set ts i u)))
        → first_match sig rules (app f (trees (slice_set ts i u))) ≡ None
    pub dead : (k : ℕ) (u : Tree) → k < i → slice_get ts k ≡ Some u → first_redex sig rules u ≡ None

  -- the tree is such an application
  abbrev pub IsQuietAt : Tree → ℕ → Type 0
  IsQuietAt t i = (f : ℕ) × (ts : List Tree) × (t ≡ app f (trees ts)) × IsQuiet f ts i
