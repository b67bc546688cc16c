-- The step of the token of a commutative application.
use Rattle.std.proofs.Common.{◌≡◌, ◌≤◌, ◌+◌, ◌*◌, ◌&&◌, arith, true, false, Bool, ℕ, suc, ◌-◌, List, [], ◌∷◌}
use Rattle.std.proofs.Common.{◌++◌, map}
use Rattle.std.proofs.Common.{drop, length, nat_eq, nat_lt, refl, ap, sym, ◌∙◌, subst}
use Rattle.std.specs.Prelude.{Option, Some, None, Result, Ok, Err, IfOk, if◌then◌else◌, MatchBool}
use Rattle.std.proofs.lemmas.List.{length-take-le}
use Rattle.mp_term.specs.Size.{node_count}
use Rattle.mp_term.specs.Tree.{Tree}
use Rattle.mp_pattern.specs.PatternTree.{Patterns, app_pattern}
use Rattle.mp_pattern.specs.NetTokenView.{net_token}
use Rattle.mp_pattern.specs.declared.net_token.NetToken as declared
use Rattle.mp_pattern.specs.declared.net_token.NetToken.TheVariants.{Sym, Enter, Leave, Dot, Kind, Plus, Star, Opt}
use Rattle.mp_pattern.specs.declared.net_token.NetToken.TheVariants.{Counted, Comm}
use Rattle.mp_pattern.specs.declared.pattern.Pattern as declared_pattern
use Rattle.mp_theory.specs.Machine.{reads}
use Rattle.mp_ac.specs.Search as search
use Rattle.mp_ac.specs.CommPlan.{nodes_below}
use Rattle.mp_subst.specs.Trail.{cut, length_at}
use Rattle.mp_subst.proofs.TrailLaws.{cut-cut}
use Rattle.mp_walk.specs.Below.{IsAbove, IsSearch, IsStepBelow, cost_of}
use Rattle.mp_walk.specs.Course.{IsWayValid, way_cost}
use Rattle.mp_walk.specs.declared.frame.Frame.{Frame}
use Rattle.mp_walk.specs.declared.level.Level.{Level}
use Rattle.mp_walk.specs.Levels.{search_of}
use Rattle.mp_walk.specs.Levels.{HasSearchIn, IsSearching, read_of, state_of, trail_before, search_cost, step_cost}
use Rattle.mp_walk.specs.Levels.{innermost_left}
use Rattle.mp_walk.specs.SoundTokens.{IsSoundComm}
use Rattle.mp_ac.specs.Numbered.{IsTrailOf, numbered_subst}
use Rattle.mp_walk.specs.Ways.{HasNoWay, is_way}
use Rattle.mp_walk.proofs.WayLaws.{ways-none}
use Rattle.mp_term.specs.Signature.{Sig}
use Rattle.mp_pattern.specs.NetTokens.{NetToken, sym_token, enter_token, leave_token, wild_token, comm_token}
use Rattle.mp_pattern.specs.PatternTree.{Pattern}
use Rattle.mp_pattern.specs.Value.{Subst}
use Rattle.mp_ac.specs.declared.search.CommSearch.{CommSearch}
use Rattle.mp_ac.specs.CommItems.{SameValues}
use Rattle.mp_subst.specs.Trail.{Trail}
use Rattle.mp_table.specs.Table.{Table}
use Rattle.mp_walk.specs.Levels.{HasSearch}
use Rattle.mp_ac.specs.Numbered.{LiesOver}
use Rattle.mp_ac.proofs.NumberedLaws.{lies-more}
use Rattle.mp_walk.specs.declared.comm.Below.{Below}
use Rattle.mp_walk.specs.Below.{pattern_of, term_of, below_table, below_ahead, left_steps, step_at}
use Rattle.mp_walk.specs.Course.{Read, steps_in_left, steps_left, entries_by, opens_after, is_comm_token, IsStepTaken}
use Rattle.mp_walk.specs.TokenMachine.{Open}
use Rattle.mp_walk.specs.Ways.{Step, item_step, first_entry, ways_from}

module _ (sig : Sig) (p : Pattern) (b : Below) (pattern : pattern_of b ≡ p) (same : b.sig.now ≡ sig) (f : Open)
    (gs : List Open) where
  -- the steps that are left are those of the search and of the later ways
  pub comm-left : (l : Read) (n : ℕ) (q : Option CommSearch) → l.state.open_ones ≡ f ∷ gs → l.next ≡ n
      → l.ahead ≡ below_ahead q l.state.trail
      → steps_left sig (comm_token p) l ≡ left_steps b f gs n q l.state.trail
  comm-left l n q o next ahead =
      ap (λ os. elim os as (λ _. List Step) [ [] ↦ [] | g ∷ hs ↦ steps_in_left sig (comm_token p) l g hs ]) o
      ∙ ap (λ z. map (item_step f gs z (first_entry f.left (l.next - 1))) l.ahead
      ++ ways_from sig f gs l.state.trail (comm_token z) l.next) (sym pattern)
      ∙ ap (λ z. map (item_step f gs (pattern_of b) (first_entry f.left (l.next - 1))) l.ahead
      ++ ways_from z f gs l.state.trail (comm_token (pattern_of b)) l.next) (sym same)
      ∙ ap (λ is. map (item_step f gs (pattern_of b) (first_entry f.left (l.next - 1))) is
      ++ ways_from b.sig.now f gs l.state.trail (comm_token (pattern_of b)) l.next) ahead
      ∙ ap (λ m. left_steps b f gs m q l.state.trail) next

  -- a step of theirs is one of the token
  pub comm-taken : (l m : Read) (n k : ℕ) (q r : Option CommSearch) (v : Subst) → l.state.open_ones ≡ f ∷ gs
      → l.next ≡ n → l.ahead ≡ below_ahead q l.state.trail → m.state ≡ l.state → m.next ≡ k
      → m.ahead ≡ below_ahead r l.state.trail → m.below ≡ below_table r
      → ((w : Subst) × (left_steps b f gs n q l.state.trail
      ≡ step_at b f gs k r w ∷ left_steps b f gs k r l.state.trail) × SameValues w v)
      → IsStepTaken sig (comm_token p) l m v
  comm-taken l m n k q r v o next ahead state next' ahead' below h =
      let open_ones : m.state.open_ones ≡ f ∷ gs = ap (λ z. z.open_ones) state ∙ o in
      let trail : m.state.trail ≡ l.state.trail = ap (λ z. z.trail) state in
      record {
        step = step_at b f gs k r h.0;
        left = comm-left l n q o next ahead ∙ h.1
            ∙ ap (λ xs. step_at b f gs k r h.0 ∷ xs) (sym (comm-left m k r open_ones next'
            (ahead' ∙ ap (below_ahead r) (sym trail)) ∙ ap (left_steps b f gs k r) trail));
        entries = sym (ap (λ os. elim os as (λ _. _) [
          | [] ↦ []
          | g ∷ hs ↦ entries_by (comm_token p) g (m.next - 1) m.below
        ]) open_ones
            ∙ ap (λ z. first_entry f.left (z - 1) ∷ m.below) next'
            ∙ ap (λ z. first_entry f.left (k - 1) ∷ z) below);
        opens = sym (ap (λ os. opens_after (comm_token p) os (m.next - 1)) o
            ∙ ap (λ z. opens_after (comm_token p) (f ∷ gs) (z - 1)) next'
            ∙ ap (λ z. opens_after (comm_token z) (f ∷ gs) (k - 1)) (sym pattern));
        trail = h.2;
      }

-- a token that isn't that of a commutative application has no search
pub single-search : (t : Table) (k : NetToken) (os : List Open) (u : Trail) (o : Option CommSearch)
    → is_comm_token k ≡ false → HasSearch t k os u o → o ≡ None
single-search t (sym_token n) os u o e h = h
single-search t (enter_token g) os u o e h = h
single-search t (leave_token g) os u o e h = h
single-search t (wild_token w x) os u o e h = h
single-search t (comm_token p) os u o e h = cc

pub none-search : (t : Table) (k : NetToken) (os : List Open) (u : Trail) (o : Option CommSearch)
    → is_comm_token k ≡ false → o ≡ None → HasSearch t k os u o
none-search t (sym_token n) os u o e h = h
none-search t (enter_token g) os u o e h = h
none-search t (leave_token g) os u o e h = h
none-search t (wild_token w x) os u o e h = h
none-search t (comm_token p) os u o e h = cc

-- a token that isn't known as one
pub single-token : (k : declared.NetToken) → ((p : declared_pattern.Pattern) → k ≡ Comm p → ⊥)
    → is_comm_token (net_token k) ≡ false
single-token (Sym n) h = refl
single-token (Enter g) h = refl
single-token (Leave g) h = refl
single-token (Dot x) h = refl
single-token (Kind k x) h = refl
single-token (Plus x) h = refl
single-token (Star x) h = refl
single-token (Opt x t) h = refl
single-token (Counted n fixed x) h = refl
single-token (Comm p) h = absurd (h p refl)

-- where no step is taken, none is left afterwards either
pub step-ended : (sig : Sig) (t : Table) (fs : List Frame) (k : NetToken) (u v : Trail) (l m : Level)
    → length_at l.mark ≤ length u.stack → (found : Bool)
    → MatchBool found (IsStepTaken sig k (read_of t fs u l) (read_of t fs v m) (numbered_subst t v.stack))
    (steps_left sig k (read_of t fs u l) ≡ [])
    → (found ≡ false → (v ≡ trail_before u l) × (m ≡ l))
    → MatchBool found (IsStepTaken sig k (read_of t fs u l) (read_of t fs v m) (numbered_subst t v.stack))
    ((steps_left sig k (read_of t fs u l) ≡ []) × (steps_left sig k (read_of t fs v m) ≡ []))
step-ended sig t fs k u v l m h true s r = s
step-ended sig t fs k u v l m h false s r =
    let e = r refl in
    let back = cut-cut (length_at l.mark) (length_at l.mark) u (omega arith) h in (
      s,
      subst (λ w. steps_left sig k (read_of t fs w m) ≡ []) (sym e.0) (subst (λ n. steps_left sig k
          (read_of t fs (trail_before u l) n) ≡ []) (sym e.1) (ap (λ w. steps_left sig k (record {
            instr = l.instr;
            state = state_of t fs l.place w;
            next = l.next;
            below = below_table (search_of l);
            ahead = below_ahead (search_of l) (numbered_subst t w.stack);
          })) back ∙ s)),
    )

-- what a way takes is no more than what a step does
pub lies-step : (t : Table) (k : NetToken) (os : List Open) (way : ℕ) (u v : Trail) (found : Bool)
    → LiesOver t (if found then way_cost k way else 0) u v → LiesOver t (if found then step_cost k os way else 0) u v
lies-step t k os way u v true h = lies-more t (way_cost k way) (step_cost k os way) u v (omega arith) h
lies-step t k os way u v false h = h

-- of two things that hold of what is answered
pub ok-both : {X E : Type 0} (P Q : X → Type 0) (r : Result X E) → IfOk r P → IfOk r Q → IfOk r (λ x. P x × Q x)
ok-both P Q (Ok x) p q = (p, q)
ok-both P Q (Err e) p q = tt

-- ---- where nothing is left to the innermost open operation

module _ (sig : Sig) where
  -- no application may take what isn't there
  pub way-refused : (g : ℕ) (ps : Patterns) (f : Open) (n : ℕ) → f.left ≡ [] → is_way sig f (app_pattern g ps) n ≡ false
  way-refused g ps f n e =
      ap (λ l. nat_lt n 2 && reads sig (app_pattern g ps) f.under (first_entry l n)) e
      ∙ by_tests (nat_lt n 2) (nat_eq n 1)
    where
      by_tests : (a b : Bool)
          → (a && reads sig (app_pattern g ps) f.under (record { terms = []; collapsed = b })) ≡ false
      by_tests true true = refl
      by_tests true false = refl
      by_tests false b = refl

  pub comm-none : (p : Pattern) → IsSoundComm sig p → (f : Open) (gs : List Open) (s : Subst) (from : ℕ) → f.left ≡ []
      → HasNoWay sig f gs s (comm_token p) from
  comm-none p h f gs s from e n l =
      rw (ap (λ q. is_way sig f q n) h.is ∙ way-refused h.op h.children f n e) refl

  -- so no step is left
  pub none-left : (p : Pattern) → IsSoundComm sig p → (l : Read) (os : List Open) → l.state.open_ones ≡ os
      → innermost_left os ≡ [] → l.ahead ≡ [] → steps_left sig (comm_token p) l ≡ []
  none-left p h l [] o e a =
      ap (λ os. elim os as (λ _. List Step) [ [] ↦ [] | g ∷ hs ↦ steps_in_left sig (comm_token p) l g hs ]) o
  none-left p h l (f ∷ gs) o e a =
      ap (λ os. elim os as (λ _. List Step) [ [] ↦ [] | g ∷ hs ↦ steps_in_left sig (comm_token p) l g hs ]) o
      ∙ ap (λ is. map (item_step f gs p (first_entry f.left (l.next - 1))) is
      ++ ways_from sig f gs l.state.trail (comm_token p) l.next) a
      ∙ ways-none sig f gs l.state.trail (comm_token p) l.next (comm-none p h f gs l.state.trail l.next e)

-- there is no search
pub none-searched : (t : Table) (p : Pattern) (ts : List Tree) (u : Trail) (o : Option CommSearch) → ts ≡ []
    → HasSearchIn t (comm_token p) ts u o → o ≡ None
none-searched t p ts u o e h = subst (λ xs. HasSearchIn t (comm_token p) xs u o) e h

-- ---- the search of a token

-- a search below the application is that of the token, and the other way
pub search-of : (b : Below) (p : Pattern) (t : Table) (ts ys : List Tree) (u : Trail) (o : Option CommSearch)
    → pattern_of b ≡ p → b.table.now ≡ t → ts ≡ term_of b ∷ ys → HasSearchIn t (comm_token p) ts u o → IsSearch b u o
search-of b p t ts ys u None e same is h = tt
search-of b p t ts ys u (Some c) e same is h =
    let s : IsSearching t (node_count (term_of b) + 3 * nodes_below p) u c =
    subst (λ xs. HasSearchIn t (comm_token p) xs u (Some c)) is h in
    record {
      over = s.over;
      mark = s.mark;
      table = s.table ∙ sym same;
      cost = subst (λ q. search.cost_of c ≤ node_count (term_of b) + 3 * nodes_below q) (sym e) s.cost;
    }

pub search-kept : (b : Below) (p : Pattern) (t : Table) (ts ys : List Tree) (u : Trail) (o : Option CommSearch)
    → pattern_of b ≡ p → b.table.now ≡ t → ts ≡ term_of b ∷ ys → IsSearch b u o → HasSearchIn t (comm_token p) ts u o
search-kept b p t ts ys u None e same is h = subst (λ xs. HasSearchIn t (comm_token p) xs u None) (sym is) tt
search-kept b p t ts ys u (Some c) e same is h =
    subst (λ xs. HasSearchIn t (comm_token p) xs u (Some c)) (sym is) (record {
      over = h.over;
      mark = h.mark;
      table = h.table ∙ same;
      cost = subst (λ q. search.cost_of c ≤ node_count (term_of b) + 3 * nodes_below q) e h.cost;
    })

-- what it costs is what the token's search does
pub cost-same : (b : Below) (p : Pattern) (ts ys : List Tree) → pattern_of b ≡ p → ts ≡ term_of b ∷ ys
    → search_cost (comm_token p) ts ≡ cost_of b
cost-same b p ts ys e is =
    ap (search_cost (comm_token p)) is ∙ ap (λ q. node_count (term_of b) + 3 * nodes_below q) (sym e)

-- ---- the step of the token, where a term stands first

-- an operation is open where something is left
pub some-first : (os : List Open) (x : Tree) (xs : List Tree) → innermost_left os ≡ x ∷ xs
    → (f : Open) × (gs : List Open) × (os ≡ f ∷ gs) × (f.left ≡ x ∷ xs)
some-first [] x xs e = cc
some-first (f ∷ gs) x xs e = (f, gs, refl, e)

module _ (sig : Sig) (t : Table) (p : Pattern) (b : Below) (pattern : pattern_of b ≡ p) (of_sig : b.sig.now ≡ sig)
    (of_table : b.table.now ≡ t) (os : List Open)
    (first : innermost_left os ≡ term_of b ∷ drop 1 (innermost_left os)) where
  -- a step of the search is one of the token; or none is left, now and then
  pub below-step : (found : Bool) (u v : Trail) (l m : Read) (n k : ℕ) (q r : Option CommSearch)
      → l.state.open_ones ≡ os → l.state.trail ≡ numbered_subst t u.stack → l.next ≡ n
      → l.ahead ≡ below_ahead q l.state.trail → m.state ≡ l.state → m.next ≡ k
      → m.ahead ≡ below_ahead r l.state.trail → m.below ≡ below_table r
      → IsStepBelow b found (n, q) (k, r) u v
      → (found ≡ false → (f : Open) (gs : List Open) → f.left ≡ term_of b ∷ drop 1 f.left
      → left_steps b f gs k r (numbered_subst b.table.now u.stack) ≡ [])
      → MatchBool found (IsStepTaken sig (comm_token p) l m (numbered_subst t v.stack))
      ((steps_left sig (comm_token p) l ≡ []) × (steps_left sig (comm_token p) m ≡ []))
  below-step found u v l m n k q r o trail next ahead state next' ahead' below h ended =
      let z = some-first os (term_of b) (drop 1 (innermost_left os)) first in
      by_open z.0 z.1 z.2 z.3
    where
      by_open : (f : Open) (gs : List Open) → os ≡ f ∷ gs → f.left ≡ term_of b ∷ drop 1 (innermost_left os)
          → MatchBool found (IsStepTaken sig (comm_token p) l m (numbered_subst t v.stack))
          ((steps_left sig (comm_token p) l ≡ []) × (steps_left sig (comm_token p) m ≡ []))
      by_open f gs is left = by_found found h ended
        where
          at : l.state.open_ones ≡ f ∷ gs
          at = o ∙ is

          stands : f.left ≡ term_of b ∷ drop 1 f.left
          stands = left ∙ ap (λ xs. term_of b ∷ drop 1 xs) (ap innermost_left is)

          same : numbered_subst b.table.now u.stack ≡ l.state.trail
          same = ap (λ z. numbered_subst z u.stack) of_table ∙ sym trail

          ahead_then : m.ahead ≡ below_ahead r m.state.trail
          ahead_then = ahead' ∙ ap (below_ahead r) (sym (ap (λ z. z.trail) state))

          by_found : (found : Bool) → IsStepBelow b found (n, q) (k, r) u v
              → (found ≡ false → (f : Open) (gs : List Open) → f.left ≡ term_of b ∷ drop 1 f.left
              → left_steps b f gs k r (numbered_subst b.table.now u.stack) ≡ [])
              → MatchBool found (IsStepTaken sig (comm_token p) l m (numbered_subst t v.stack))
              ((steps_left sig (comm_token p) l ≡ []) × (steps_left sig (comm_token p) m ≡ []))
          by_found true h ended =
              let s = h f gs stands in
              comm-taken sig p b pattern of_sig f gs l m n k q r (numbered_subst t v.stack) at next ahead state next'
              ahead' below (
                s.0,
                subst (λ z. left_steps b f gs n q z ≡ step_at b f gs k r s.0 ∷ left_steps b f gs k r z) same s.1,
                subst (λ z. SameValues s.0 (numbered_subst z v.stack)) of_table s.2,
              )
          by_found false h ended = (
            comm-left sig p b pattern of_sig f gs l n q at next ahead ∙ ap (left_steps b f gs n q) (sym same)
                ∙ h f gs stands,
            comm-left sig p b pattern of_sig f gs m k r (ap (λ z. z.open_ones) state ∙ at) next' ahead_then
                ∙ ap (left_steps b f gs k r) (ap (λ z. z.trail) state ∙ sym same) ∙ ended refl f gs stands,
          )

  -- a way of it is one of the token
  pub below-valid : (k : ℕ) → 1 ≤ k → k ≤ 2 → (f : Open) (gs : List Open) → os ≡ f ∷ gs
      → IsWayValid (comm_token p) f (k - 1)
  below-valid k h l f gs e =
      let long : length f.left ≡ suc (length (drop 1 (innermost_left os))) =
      ap (λ zs. length (innermost_left zs)) (sym e) ∙ ap length first in
      (omega (arith, long), omega arith)

  -- the trail lies over what it was before the token
  pub below-lies : (found : Bool) (m : ℕ) (way : ℕ) (u v w : Trail) → m ≤ length w.stack → u ≡ cut m w
      → IsAbove b m u v → (found ≡ true → u.spare ≤ v.spare + cost_of b) → (found ≡ false → v ≡ u)
      → LiesOver t (if found then step_cost (comm_token p) os way else 0) u v
  below-lies found m way u v w long is above spare back = record {
    cut = ap (λ n. cut n v) (ap (λ (z : Trail). length z.stack) is ∙ length-take-le m w.stack long) ∙ above.cut;
    trail = subst (λ z. IsTrailOf z v) of_table above.trail;
    spare = by_found found spare back;
  }
    where
      by_found : (found : Bool) → (found ≡ true → u.spare ≤ v.spare + cost_of b) → (found ≡ false → v ≡ u)
          → u.spare ≤ v.spare + (if found then step_cost (comm_token p) os way else 0)
      by_found true spare back =
          let s = spare refl in
          let e = cost-same b p (innermost_left os) (drop 1 (innermost_left os)) pattern first in
          omega (arith, s, e)
      by_found false spare back = (let e = ap (λ (z : Trail). z.spare) (back refl) in omega (arith, e))
