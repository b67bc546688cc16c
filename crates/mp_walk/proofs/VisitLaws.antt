-- How much a walk has still to read, as tokens are read and left.
use Rattle.std.proofs.Common.{◌≡◌, ◌≤◌, ◌<◌, ◌+◌, ℕ, List, [], ◌∷◌, ◌++◌, map, refl, ap, sym, ◌∙◌, arith}
use Rattle.std.specs.Prelude.{Some, None}
use Rattle.mp_term.specs.Signature.{Sig}
use Rattle.mp_walk.specs.Course.{Read, steps_left, unread}
use Rattle.mp_walk.specs.CourseVisits.{visits_from, visits_after, visits_of, read_visits}
use Rattle.mp_walk.specs.Instrs.{Instr, instr_at}
use Rattle.mp_walk.specs.TokenMachine.{State, token_steps}
use Rattle.mp_walk.specs.Visits.{total, visits}
use Rattle.mp_walk.specs.Walkable.{IsWalkable}
use Rattle.mp_walk.specs.Ways.{Step}
use Rattle.mp_walk.proofs.CodePaths.{forest-step, forest-none}
use Rattle.mp_walk.proofs.TurnLaws.{IsOrdered, unread-steps}

-- the sum of two lists
pub total-append : (ms ns : List ℕ) → total (ms ++ ns) ≡ total ms + total ns
total-append [] ns = omega arith
total-append (m ∷ ms) ns = let h = total-append ms ns in omega (arith, h)

-- the sum of one number more
pub total-more : {X : Type 0} (f : X → ℕ) (ls : List X) (l : X)
    → total (map f (ls ++ l ∷ [])) ≡ f l + total (map f ls)
total-more f [] l = refl
total-more f (m ∷ ls) l = let h = total-more f ls l in omega (arith, h)

module _ (sig : Sig) (code : List Instr) where
  -- a token whose instruction is there
  pub read-visits : (l : Read) (i : Instr) → instr_at code l.instr ≡ Some i
      → read_visits sig code l ≡ visits_of sig code l i
  read-visits l i held =
      ap (λ o. elim o as (λ _. ℕ) [ None ↦ 1 | Some j ↦ visits_of sig code l j ]) held

  -- a token of which less is left counts no more
  pub later-visits : (l : Read) (from : ℕ) (i : Instr) → instr_at code l.instr ≡ Some i
      → total (map (visits_after sig code i) (steps_left sig i.token (record l { next = from })))
      ≤ total (map (visits_after sig code i) (steps_left sig i.token l))
      → read_visits sig code (record l { next = from }) ≤ read_visits sig code l
  later-visits l from i held less =
      let old = read-visits l i held in
      let new = read-visits (record l { next = from }) i held in
      omega (arith, old, new, less)

  -- what stands beside a token counts less than the token
  pub beside-visits : (l : Read) (i : Instr) → instr_at code l.instr ≡ Some i
      → visits_from sig code i.over l.state < read_visits sig code l
  beside-visits l i held = let h = read-visits l i held in omega (arith, h)

  -- no way is left
  pub over-visits : (l : Read) (i : Instr) → instr_at code l.instr ≡ Some i → steps_left sig i.token l ≡ []
      → read_visits sig code l ≡ 1 + visits_from sig code i.over l.state
  over-visits l i held none =
      let h = read-visits l i held
      ∙ ap (λ rs. 1 + (total (map (visits_after sig code i) rs) + visits_from sig code i.over l.state)) none in
      omega (arith, h)

  -- a step is taken
  pub down-visits : (l m : Read) (i : Instr) (r : Step) → instr_at code l.instr ≡ Some i
      → m.instr ≡ l.instr → m.state ≡ l.state → steps_left sig i.token l ≡ r ∷ steps_left sig i.token m
      → read_visits sig code l ≡ visits_after sig code i r + read_visits sig code m
  down-visits l m i r held same state next =
      let old = read-visits l i held
      ∙ ap (λ rs. 1 + (total (map (visits_after sig code i) rs) + visits_from sig code i.over l.state)) next in
      let new = read-visits m i (ap (instr_at code) same ∙ held)
      ∙ ap (λ s. 1 + (total (map (visits_after sig code i) (steps_left sig i.token m)) + visits_from sig code i.over s))
      state in
      omega (arith, old, new)

  module _ (W : IsWalkable sig code) where
    -- an instruction that is to be tried counts as its token does
    pub unread-visits : (n : ℕ) (i : Instr) (s : State) → instr_at code n ≡ Some i → IsOrdered sig s.open_ones
        → visits_from sig code (Some n) s ≡ read_visits sig code (unread n s)
    unread-visits n i s held h =
        ap (λ F. visits (token_steps sig) F s) (forest-step code W.forward n i held)
        ∙ ap (λ rs. 1 + (total (map (visits_after sig code i) rs) + visits_from sig code i.over s))
        (unread-steps sig code W i.token n s h)
        ∙ sym (read-visits (unread n s) i held)

    -- and none counts nothing
    pub none-visits : (s : State) → visits_from sig code None s ≡ 0
    none-visits s = ap (λ F. visits (token_steps sig) F s) (forest-none code W.forward)
