-- How much of a trail's room the tokens of a table of instructions take.
use Rattle.std.proofs.Common.{◌≡◌, ◌≤◌, ◌<◌, ◌+◌, ◌-◌, ◌*◌, ℕ, zero, suc, List, [], ◌∷◌, length, refl, ap, sym, ◌∙◌}
use Rattle.std.proofs.Common.{subst, arith, ◌⊎◌, inl, inr, get_or, map}
use Rattle.std.specs.Prelude.{Option, Some, None, IfSome, max, slice_index_or, slice_set}
use Rattle.std.proofs.lemmas.Grind.{get_or-set_at}
use Rattle.std.proofs.lemmas.List.{get_or-set_other}
use Rattle.mp_term.specs.Listing.{In}
use Rattle.mp_term.specs.Signature.{Sig}
use Rattle.mp_pattern.specs.declared.limits.TheConstants.{MAX_PATTERN_NODES}
use Rattle.mp_pattern.specs.NetTokens.{NetToken, sym_token, enter_token, leave_token, wild_token, comm_token}
use Rattle.mp_pattern.specs.PatternTree.{Pattern, symbol_pattern, app_pattern, wild_pattern, patterns}
use Rattle.mp_pattern.specs.Size.{pattern_nodes, all_pattern_nodes}
use Rattle.mp_pattern.specs.View.{pattern_tree}
use Rattle.mp_pattern.specs.declared.pattern.Pattern as declared
use Rattle.mp_ac.specs.CommPlan.{nodes_below}
use Rattle.mp_walk.specs.CodeForest.{code_forest}
use Rattle.mp_walk.specs.Instrs.{Instr, instr_at, targets}
use Rattle.mp_walk.specs.Rooms.{token_room, forest_room, target_room, room_at}
use Rattle.mp_walk.specs.SoundTokens.{path_nodes, token_nodes}
use Rattle.mp_walk.specs.Walkable.{IsWalkable}
use Rattle.mp_walk.specs.WalkView.{IsFirstTarget}
use Rattle.mp_walk.proofs.CodePaths.{IsForward, down-target, over-target, forest-none, forest-step, instr-there}
use Rattle.mp_walk.proofs.CodePaths.{forest-beyond, number-within}
use Rattle.mp_walk.proofs.PathLaws.{path-narrow, path_nodes-append}

-- a token takes no more than three for each node that it stands for
pub room-nodes : (k : NetToken) → token_room k ≤ 3 * token_nodes k
room-nodes (sym_token n) = omega arith
room-nodes (enter_token g) = omega arith
room-nodes (leave_token g) = omega arith
room-nodes (wild_token w x) = omega arith
room-nodes (comm_token p) = (let h = below p in omega (arith, h))
  where
    below : (q : Pattern) → nodes_below q ≤ pattern_nodes q
    below (symbol_pattern n) = omega arith
    below (wild_pattern w x) = omega arith
    below (app_pattern g ps) = omega arith

-- a pattern of a list has no more nodes than the list
pub item-nodes : (ps : List declared.Pattern) (i : ℕ) (x : declared.Pattern) → i < length ps → x ≡ get_or ps i x
    → pattern_nodes (pattern_tree x) ≤ all_pattern_nodes (patterns (map pattern_tree ps))
item-nodes [] i x within is = absurd (omega arith)
item-nodes (p ∷ ps) zero x within is =
    let same : pattern_nodes (pattern_tree x) ≡ pattern_nodes (pattern_tree p) =
    ap (λ q. pattern_nodes (pattern_tree q)) is in
    omega (arith, same)
item-nodes (p ∷ ps) (suc i) x within is = omega (arith, item-nodes ps i x (omega arith) is)

module _ (code : List Instr) (forward : IsForward code) where
  -- nothing is read where there is no target
  pub none-room : target_room code None ≡ 0
  none-room = ap forest_room (forest-none code forward)

  -- a target takes what its token takes and what is below it, or what is beside it
  module _ (n : ℕ) (i : Instr) (held : instr_at code n ≡ Some i) where
    pub room-step : target_room code (Some n)
        ≡ max (token_room i.token + target_room code i.down) (target_room code i.over)
    room-step = ap forest_room (forest-step code forward n i held)

    pub below-room : token_room i.token + target_room code i.down ≤ target_room code (Some n)
    below-room = (let e = room-step in omega (arith, e))

    pub beside-room : target_room code i.over ≤ target_room code (Some n)
    beside-room = (let e = room-step in omega (arith, e))

    pub own-room : token_room i.token ≤ target_room code (Some n)
    own-room = (let h = below-room in omega (arith, h))

-- from the first instruction on it is that of the whole forest
pub first-room : (sig : Sig) (code : List Instr) → IsWalkable sig code → (o : Option ℕ) → IsFirstTarget code o
    → target_room code o ≤ forest_room (code_forest code)
first-room sig code W None h = (let e = none-room code W.forward in omega (arith, e))
first-room sig code W (Some n) h = subst (λ m. target_room code (Some m) ≤ forest_room (code_forest code)) (sym h.0)
    (omega arith)

-- and it is little: no more than three for each node that stands in a pattern behind the path
module _ (sig : Sig) (code : List Instr) (W : IsWalkable sig code) where
  few-from : (d n : ℕ) (i : Instr) → instr_at code n ≡ Some i → length code < d + n
      → target_room code (Some n) + 3 * path_nodes (W.before n) ≤ 3 * MAX_PATTERN_NODES
  few-from zero n i held h = absurd (let w = number-within code n i held in omega (arith, w.1, h))
  few-from (suc d) n i held h =
      let step = room-step code W.forward n i held in
      let down = by_down i.down refl (λ t j e l. few-from d t j e l) in
      let over = by_over i.over refl (λ t j e l. few-from d t j e l) in
      omega (arith, step, down, over)
    where
      Go : Type 0
      Go = (t : ℕ) (j : Instr) → instr_at code t ≡ Some j → length code < d + t
          → target_room code (Some t) + 3 * path_nodes (W.before t) ≤ 3 * MAX_PATTERN_NODES

      narrow : path_nodes (W.before n) + token_nodes i.token ≤ MAX_PATTERN_NODES
      narrow = path-narrow sig code W n i held

      by_down : (o : Option ℕ) → i.down ≡ o → Go
          → token_room i.token + target_room code o + 3 * path_nodes (W.before n) ≤ 3 * MAX_PATTERN_NODES
      by_down None e go =
          let own = room-nodes i.token in
          let none = none-room code W.forward in
          let few = narrow in
          omega (arith, own, none, few)
      by_down (Some t) e go =
          let f = W.forward n t i held (down-target i t e) in
          let j = instr-there code t (omega (arith, f.0)) f.1 in
          let r = go t j.0 j.1 (omega (arith, f.0, h)) in
          let own = room-nodes i.token in
          let path = ap path_nodes (W.paths.down n t i held e) in
          let more = path_nodes-append (W.before n) (i.token ∷ []) in
          omega (arith, r, own, path, more)

      by_over : (o : Option ℕ) → i.over ≡ o → Go
          → target_room code o + 3 * path_nodes (W.before n) ≤ 3 * MAX_PATTERN_NODES
      by_over None e go =
          let none = none-room code W.forward in
          let few = narrow in
          omega (arith, none, few)
      by_over (Some t) e go =
          let f = W.forward n t i held (over-target i t e) in
          let j = instr-there code t (omega (arith, f.0)) f.1 in
          let r = go t j.0 j.1 (omega (arith, f.0, h)) in
          let path = ap path_nodes (W.paths.over n t i held e) in
          omega (arith, r, path)

  pub few-room : (n : ℕ) (i : Instr) → instr_at code n ≡ Some i → target_room code (Some n) ≤ 3 * MAX_PATTERN_NODES
  few-room n i held =
      let r = few-from (suc (length code)) n i held (let w = number-within code n i held in omega (arith, w.0)) in
      omega (arith, r)

  pub few-all : forest_room (code_forest code) ≤ 3 * MAX_PATTERN_NODES
  few-all = by_first (instr_at code 1) refl
    where
      by_first : (o : Option Instr) → instr_at code 1 ≡ o → forest_room (code_forest code) ≤ 3 * MAX_PATTERN_NODES
      by_first None e = (let h = ap forest_room (forest-beyond code W.forward 1 e (omega arith)) in omega (arith, h))
      by_first (Some i) e = few-room 1 i e

-- ---- the rooms of the instructions behind one are known

module _ (code : List Instr) (forward : IsForward code) (n : ℕ) (i : Instr) (held : instr_at code n ≡ Some i)
    (rooms : List ℕ) where
  -- the targets are among them
  pub target-within : length rooms ≡ length code → (o : Option ℕ) → ((t : ℕ) → o ≡ Some t → In t (targets i))
      → IfSome o (λ t. (1 ≤ t) × (t ≤ length rooms))
  target-within many None own = tt
  target-within many (Some t) own =
      let f = forward n t i held (own t refl) in
      (omega (arith, f.0), omega (arith, f.1, many))

  -- and so their rooms are
  pub target-known : ((k : ℕ) → n ≤ k → k < length code
      → slice_index_or rooms k 0 ≡ target_room code (Some (suc k)))
      → (o : Option ℕ) → ((t : ℕ) → o ≡ Some t → In t (targets i)) → room_at rooms o ≡ target_room code o
  target-known known None own = sym (none-room code forward)
  target-known known (Some zero) own = (let f = forward n zero i held (own zero refl) in absurd (omega (arith, f.0)))
  target-known known (Some (suc t)) own =
      let f = forward n (suc t) i held (own (suc t) refl) in
      let back : suc t - 1 ≡ t = omega arith in
      ap (λ k. slice_index_or rooms k 0) back ∙ known t (omega (arith, f.0)) (omega (arith, f.1))

-- one more
pub known-more : (code : List Instr) (rooms : List ℕ) (n : ℕ) (room : ℕ) → n < length rooms
    → length rooms ≡ length code → room ≡ target_room code (Some (suc n))
    → ((k : ℕ) → suc n ≤ k → k < length code → slice_index_or rooms k 0 ≡ target_room code (Some (suc k)))
    → (k : ℕ) → n ≤ k → k < length code
    → slice_index_or (slice_set rooms n room) k 0 ≡ target_room code (Some (suc k))
known-more code rooms n room within many own known k h l = elim (at-or-behind n k h) [
  | inl e ↦ get_or-set_at rooms n k room 0 e within ∙ own ∙ ap (λ m. target_room code (Some (suc m))) (sym e)
  | inr b ↦ get_or-set_other rooms n k room 0 (λ e. omega (arith, b, e)) ∙ known k b l
]
  where
    at-or-behind : (m k : ℕ) → m ≤ k → (k ≡ m) ⊎ (suc m ≤ k)
    at-or-behind zero zero h = inl refl
    at-or-behind zero (suc k) h = inr (omega arith)
    at-or-behind (suc m) zero h = absurd (omega (arith, h))
    at-or-behind (suc m) (suc k) h = elim (at-or-behind m k (omega (arith, h))) [
      | inl e ↦ inl (ap suc e)
      | inr b ↦ inr (omega (arith, b))
    ]
