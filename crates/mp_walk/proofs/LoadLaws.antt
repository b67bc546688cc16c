-- What a token leaves open, and what it may take of the trail, is no more than what was open and its nodes.
use Rattle.std.proofs.Common.{◌≡◌, ◌≤◌, ◌+◌, ◌*◌, ℕ, zero, suc, List, [], ◌∷◌, length, take, drop, Bool, true}
use Rattle.std.proofs.Common.{false, nat_eq, refl, ap, ◌∙◌, arith}
use Rattle.std.specs.Prelude.{if◌then◌else◌}
use Rattle.mp_term.specs.Order.{tree_cmp}
use Rattle.mp_term.specs.Pieces.{without}
use Rattle.mp_term.specs.Size.{all_nodes}
use Rattle.mp_term.specs.Tree.{Tree}
use Rattle.mp_term.proofs.SizeLaws.{some-nodes}
use Rattle.mp_pattern.specs.NetTokens.{NetToken, sym_token, enter_token, leave_token, wild_token, comm_token}
use Rattle.mp_ac.specs.CommPlan.{nodes_below}
use Rattle.mp_theory.specs.Machine.{arguments}
use Rattle.mp_theory.proofs.Narrow.{all_nodes-arguments}
use Rattle.mp_walk.specs.Course.{opens_by, way_cost, IsWayValid}
use Rattle.mp_walk.specs.Levels.{opens_load, search_cost, step_cost}
use Rattle.mp_walk.specs.Rooms.{token_room}
use Rattle.mp_walk.specs.TokenMachine.{Open}
use Rattle.mp_walk.proofs.WayLaws.{without-front}

-- the nodes of a front and of the rest are those of the list
nodes-parted : (n : ℕ) (ts : List Tree) → all_nodes (take n ts) + all_nodes (drop n ts) ≡ all_nodes ts
nodes-parted zero ts = omega arith
nodes-parted (suc n) [] = refl
nodes-parted (suc n) (t ∷ ts) = omega (arith, nodes-parted n ts)

front-nodes : (n : ℕ) (ts : List Tree) → n ≤ length ts → n ≤ all_nodes (take n ts)
front-nodes zero ts h = omega arith
front-nodes (suc n) [] h = absurd (omega arith)
front-nodes (suc n) (t ∷ ts) h = omega (arith, some-nodes t, front-nodes n ts (omega arith))

-- what is left behind a front, whatever is taken of its terms
rest-nodes : (n : ℕ) (ts : List Tree) → all_nodes (take n ts) + all_nodes (without tree_cmp (take n ts) ts)
    ≡ all_nodes ts
rest-nodes n ts = ap (λ l. all_nodes (take n ts) + all_nodes l) (without-front n ts) ∙ nodes-parted n ts

pub load-after : (k : NetToken) (f : Open) (fs : List Open) (way : ℕ) → IsWayValid k f way
    → opens_load (opens_by k f fs way) + way_cost k way ≤ opens_load (f ∷ fs) + token_room k
load-after (sym_token n) f fs way v = (let e = rest-nodes 1 f.left in omega (arith, e))
load-after (leave_token g) f fs way v = omega arith
load-after (enter_token g) f fs way v = by_way (nat_eq way 1)
  where
    by_way : (b : Bool) → all_nodes (if b then take 1 f.left else arguments (take 1 f.left))
        + (all_nodes (without tree_cmp (take 1 f.left) f.left) + opens_load
        fs) + 0 ≤ all_nodes f.left + opens_load fs + 0
    by_way true = (let e = rest-nodes 1 f.left in omega (arith, e))
    by_way false = (let e = rest-nodes 1 f.left in let a = all_nodes-arguments (take 1 f.left) in omega (arith, e, a))
load-after (wild_token w x) f fs way v =
    (let e = rest-nodes way f.left in let a = front-nodes way f.left v in omega (arith, e, a))
load-after (comm_token p) f fs way v = (let e = rest-nodes 1 f.left in omega (arith, e))

-- so it is where a search takes of the trail too
pub load-step : (k : NetToken) (f : Open) (fs : List Open) (way : ℕ) → IsWayValid k f way
    → opens_load (opens_by k f fs way) + step_cost k (f ∷ fs) way ≤ opens_load (f ∷ fs) + token_room k
load-step (sym_token n) f fs way v = (let h = load-after (sym_token n) f fs way v in omega (arith, h))
load-step (leave_token g) f fs way v = (let h = load-after (leave_token g) f fs way v in omega (arith, h))
load-step (enter_token g) f fs way v = (let h = load-after (enter_token g) f fs way v in omega (arith, h))
load-step (wild_token w x) f fs way v = (let h = load-after (wild_token w x) f fs way v in omega (arith, h))
load-step (comm_token p) f fs way v = by_left f.left v.0
  where
    by_left : (ts : List Tree) → 1 ≤ length ts
        → all_nodes (without tree_cmp (take 1 ts) ts) + opens_load fs + (0 + search_cost (comm_token p) ts)
        ≤ all_nodes ts + opens_load fs + 3 * nodes_below p
    by_left [] h = absurd (omega arith)
    by_left (t ∷ ts) h = (let e = rest-nodes 1 (t ∷ ts) in omega (arith, e))
