-- The terms that a child may take, of those that the children of a node take together.
use Rattle.std.specs.Prelude.{◌≡◌, ◌≤◌, ◌-◌, ◌⊎◌, ℕ, Bool, true, false, List, [], ◌∷◌, take, drop, length, slice_get}
use Rattle.std.specs.Prelude.{Option, Some, None, nat_eq, if◌then◌else◌}
use Rattle.std.specs.List.{AllByRecursion}
use Rattle.std.specs.List.Sorted.{IsSorted, IsStrictlySortedBy}
use Rattle.mp_term.specs.Listing.{In}
use Rattle.mp_term.specs.Tree.{Tree}
use Rattle.mp_pattern.specs.PatternTree.{Pattern}
use Rattle.mp_table.specs.Subterms.{arguments}
use Rattle.mp_table.specs.Table.{Table, HasRank, HasRanks, rank_cmp, term_at, terms_at}
use Rattle.mp_table.specs.declared.rank.Rank.{Rank}
use Rattle.mp_theory.specs.Shape.{shape}
use Rattle.mp_ac.specs.Args.{args_of}
use Rattle.mp_ac.specs.Clash.{clash}
use Rattle.mp_ac.specs.CommPlans.{child_at, IsLead}
use Rattle.mp_ac.specs.declared.candidates.Candidates.{Candidates}
use Rattle.mp_ac.specs.declared.candidates.Found.{Found}
use Rattle.mp_ac.specs.declared.comm_plans.CommPlans.{CommPlans}
use Rattle.mp_ac.specs.declared.node.Node.{Node}

-- what the children take together below a node: its arguments, or it alone
abbrev pub given_terms : Tree → Bool → List Tree
given_terms t alone = if alone then t ∷ [] else arguments t

-- the node is the table's, and what its children take together stands in order
pub record IsNodeOf (t : Table) (n : Node) : Type 0 where
  pub node : HasRank t n.node
  pub ranks : HasRanks t (args_of n.args)
  pub ascending : IsSorted rank_cmp (args_of n.args)
  pub terms : terms_at t (args_of n.args) ≡ given_terms (term_at t n.node) n.alone

-- the ranks ascend, their terms have the child's shape, and each of the terms that has it is among them
pub record AreCandidates (t : Table) (p : Pattern) (us : List Tree) (rs : List Rank) : Type 0 where
  pub ranks : HasRanks t rs
  pub ascending : IsStrictlySortedBy rank_cmp rs
  pub shaped : AllByRecursion (λ r. shape p (term_at t r) ≡ true) rs
  pub all : (u : Tree) → In u us → shape p u ≡ true → (r : Rank) × In r rs × (term_at t r ≡ u)

-- where the child takes the tree, none of the terms that the next child may take goes with it
abbrev pub IsBarred : Option Pattern → List Tree → Pattern → Tree → Type 0
IsBarred None us p u = ⊥
IsBarred (Some q) us p u = (v : Tree) → In v us → shape q v ≡ true → clash p u q v ≡ true

-- the ranks ascend, their terms have the child's shape, and each of the terms that has it is among them, or barred by
-- the next child, if there is one
pub record AreChoices (t : Table) (p : Pattern) (next : Option Pattern) (us : List Tree) (rs : List Rank) : Type 0 where
  pub ranks : HasRanks t rs
  pub ascending : IsStrictlySortedBy rank_cmp rs
  pub shaped : AllByRecursion (λ r. shape p (term_at t r) ≡ true) rs
  pub all : (u : Tree) → In u us → shape p u ≡ true → ((r : Rank) × In r rs × (term_at t r ≡ u)) ⊎ IsBarred next us p u

-- what is kept under a number: a part of the ranks, of which something is known where a node was asked
pub record IsFound (t : Table) (P : List Tree → List Rank → Type 0) (rs : List Rank) (e : Found) : Type 0 where
  pub onward : e.from ≤ e.end
  pub within : e.end ≤ length rs
  pub known : (node : Rank) → e.node ≡ Some node
      → P (given_terms (term_at t node) e.alone) (take (e.end - e.from) (drop e.from rs))

-- r says which part of the ranks is kept under the number, and the node is the one that was asked there
pub record IsKept (es : List Found) (number : ℕ) (n : Node) (r : ℕ × ℕ) : Type 0 where
  pub entry : Found
  pub held : slice_get es number ≡ Some entry
  pub node : entry.node ≡ Some n.node
  pub alone : entry.alone ≡ n.alone
  pub part : r ≡ (entry.from, entry.end)

-- so it is with each entry of children: they are the child's candidates
abbrev pub AreEntries : Table → CommPlans → List Rank → List Found → Type 0
AreEntries t plans rs es = (n : ℕ) (e : Found) (p : Pattern) → slice_get es n ≡ Some e → child_at plans n ≡ Some p
    → IsFound t (AreCandidates t p) rs e

-- and with each entry of leading children, each with the next one: they are its choices
abbrev pub AreLeadEntries : Table → CommPlans → List Rank → List Found → Type 0
AreLeadEntries t plans rs es = (n : ℕ) (e : Found) (p : Pattern) (next : Option Pattern) → slice_get es n ≡ Some e
    → IsLead plans n p next → IsFound t (AreChoices t p next) rs e

-- the ranks are those of the table, and the parts of them what they are kept for
pub record AreFound (t : Table) (plans : CommPlans) (x : Candidates) : Type 0 where
  pub ranks : HasRanks t x.ranks.items
  pub entries : AreEntries t plans x.ranks.items x.entries.items
  pub leads : AreLeadEntries t plans x.ranks.items x.leads.items

-- the rank is the last one
abbrev pub is_same : Option Rank → Rank → Bool
is_same None r = false
is_same (Some q) r = nat_eq q.0 r.0

-- the entry of a child that wasn't asked
abbrev pub unasked : Found
unasked = record { node = None; alone = false; from = 0; end = 0 }
