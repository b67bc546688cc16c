use Rattle.std.proofs.Common.{◌≡◌, ◌∙◌, ◌+◌, ◌++◌, [], ◌∷◌, List, ℕ, sym, arith, length}
use Rattle.std.specs.Prelude.{Some}
use Rattle.mp_term.specs.View.{tree}
use Rattle.mp_term.specs.Excess.{excess}
use Rattle.mp_term.specs.Size.{node_count, depth}
use Rattle.mp_term.specs.Positions.{subterm}
use Rattle.mp_term.specs.Replaced.{replaced}
use Rattle.mp_term.specs.Tree.{Tree}
use Rattle.mp_rewrite.specs.Within.{IsWhole}
use Rattle.mp_rewrite.proofs.Within.{subterm-few, reach-few, whole-nodes, whole-low, whole-high}
use Rattle.mp_rewrite.proofs.turn.nodes_within.Goals as goal
use Rattle.mp_rewrite.proofs.turn.nodes_within.Goals.{After-excess_of}

module _ (c : After-excess_of) (w : Tree) (p : List ℕ)
    (h : IsWhole w p c.args.position.now c.args.levels (tree c.args.into.now.term) c.args.into.now.nodes) where
  abbrev q : List ℕ
  q = c.args.position.now

  abbrev t : Tree
  t = tree c.args.into.now.term

  abbrev u : Tree
  u = tree c.args.new.now

  abbrev v : Tree
  v = tree c.in-Some.old.now

  there : subterm t q ≡ Some v
  there = sym c.in-Some.ensures

  all : c.saturating_add-nodes.result + node_count v ≡ c.args.into.now.nodes + node_count u
  all = omega (
    arith,
    c.node_count.ensures,
    c.node_count-2.ensures,
    c.saturating_sub.ensures,
    c.saturating_add-nodes.ensures,
    c.requires.few,
    h.counted,
    h.few,
    subterm-few w p q c.args.levels t u v c.args.into.now.nodes h there c.requires.few c.requires.shallow,
  )

  deep : c.saturating_add-reach.result ≡ c.args.levels + (length q + depth u)
  deep = omega (
    arith,
    c.depth.ensures,
    c.saturating_add.ensures,
    c.saturating_add-reach.ensures,
    c.requires.shallow,
    reach-few w p q c.args.levels t u v c.args.into.now.nodes h there c.requires.few c.requires.shallow,
  )

  -- its nodes are those that are counted
  nodes-put : c.saturating_add-nodes.result ≡ node_count (replaced (p ++ q) u w)
  nodes-put =
      whole-nodes w p q c.args.levels t u v c.args.into.now.nodes h there c.requires.few c.requires.shallow
      c.saturating_add-nodes.result c.saturating_add-reach.result all deep

  -- what is told of it is too large or too deep of it
  excess-put : c.excess_of.result ≡ excess (replaced (p ++ q) u w ∷ [])
  excess-put =
      c.excess_of.ensures (replaced (p ++ q) u w) nodes-put
      (whole-low w p q c.args.levels t u v c.args.into.now.nodes h there c.requires.few c.requires.shallow
      c.saturating_add-nodes.result c.saturating_add-reach.result all deep)
      (whole-high w p q c.args.levels t u v c.args.into.now.nodes h there c.requires.few c.requires.shallow
      c.saturating_add-nodes.result c.saturating_add-reach.result all deep)

pub returns-in-Some-excess_of : goal.returns-in-Some-excess_of
returns-in-Some-excess_of c = λ w p h.
    sym (excess-put (goal.at.returns-in-Some-excess_of c).After-excess_of w p h) ∙ c.in-Some-excess_of.is

pub returns-in-None : goal.returns-in-None
returns-in-None c = λ w p h. (
  sym (excess-put (goal.at.returns-in-None c).After-excess_of w p h) ∙ c.in-None.is,
  nodes-put (goal.at.returns-in-None c).After-excess_of w p h,
)
