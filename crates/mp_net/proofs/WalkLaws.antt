-- The walk of a subject through a net: what is read of it, and where it ends.
use Rattle.std.proofs.Common.{◌≡◌, ℕ, ◌+◌, ◌-◌, ◌<◌, ◌≤◌, List, [], ◌∷◌, ◌++◌, map, length, take, drop, set}
use Rattle.std.proofs.Common.{true, refl, ap, sym, ◌∙◌, subst, get_or, arith, length-append}
use Rattle.std.specs.Prelude.{Option, Some, None, IfSome, slice_get, option_map}
use Rattle.std.specs.List.{AllByRecursion}
use Rattle.std.proofs.lemmas.List.{drop-map, take_all, length-map, length-drop}
use Rattle.std.proofs.lemmas.Option.{slice_get-map, slice_get_within, slice_get_read}
use Rattle.mp_term.proofs.ListLaws.{all-append}
use Rattle.mp_term.specs.Signature.{Sig}
use Rattle.mp_term.specs.Size.{node_count, all_nodes}
use Rattle.mp_term.specs.Tree.{Tree, symbol, app, Trees, no_trees, more_trees, trees}
use Rattle.mp_term.specs.TreeLists.{trees-tree_list}
use Rattle.mp_pattern.specs.PatternTree.{Wildcard, wild_pattern}
use Rattle.mp_pattern.specs.Value.{one, Subst}
use Rattle.mp_table.specs.Subterms.{arguments}
use Rattle.mp_table.specs.Table.{Table, term_at, terms_at, HasRank, HasRanks}
use Rattle.mp_table.specs.declared.rank.Rank.{Rank}
use Rattle.mp_table.proofs.PreorderLaws.{node_count_is}
use Rattle.mp_net.specs.Net as net
use Rattle.mp_net.specs.Net.{Mark, Open, Turn, edge_of, held_or, nowhere, turn_at, IsAt}
use Rattle.mp_net.specs.Net.{Leads}
use Rattle.mp_net.specs.Net.{Visit, head_of, way, visited, run, runs, trace, traces}
use Rattle.mp_net.specs.NetOf.{IsNet}
use Rattle.mp_net.specs.Probe.{more_reads}
use Rattle.mp_theory.specs.Shape.{suits}
use Rattle.mp_net.specs.View.{turn_of}
use Rattle.mp_theory.specs.Filled.{bound, filled}
use Rattle.mp_net.specs.Walk.{visit_of, visits, IsSeen, IsRead, taken_subst}
use Rattle.mp_net.specs.declared.build.Net.{Net}
use Rattle.mp_net.specs.declared.state.State.{State}
use Rattle.mp_net.specs.declared.taken.Taken.{Taken}
use Rattle.mp_net.specs.declared.visit.Seen.{Seen}
use Rattle.mp_net.proofs.NetLaws.{leads-at}

-- ---- what variables take

pub taken_subst-append : (t : Table) (xs ys : List Taken)
    → taken_subst t (xs ++ ys) ≡ taken_subst t xs ++ taken_subst t ys
taken_subst-append t [] ys = refl
taken_subst-append t (x ∷ xs) ys =
    ap (λ s. record { name = x.name.now; value = one (term_at t x.rank) } ∷ s) (taken_subst-append t xs ys)

-- the first node that was seen
pub seen-first : (tb : Table) (ss : List Seen) (s : Seen) → AllByRecursion (IsSeen tb) ss → 1 ≤ length ss
    → s ≡ get_or ss 0 s → IsSeen tb s
seen-first tb [] s a h e = absurd (omega (arith, h))
seen-first tb (v ∷ ss) s a h e = subst (IsSeen tb) (sym e) a.0

-- a wildcard is read as its node and what was read below that
pub wild-read : (tb : Table) (w : Wildcard) (x : Option (List ℕ)) (t : Tree) (ss : List Seen) (s : Seen)
    (rest : List Visit) → 1 ≤ length ss → s ≡ get_or ss 0 s → IsRead (wild_pattern w x) t (visits tb ss) rest
    → (term_at tb s.rank ≡ t)
    × (visits tb (take (length (take (length ss - 1) (drop 1 ss)) - s.inside)
    (drop s.inside (take (length ss - 1) (drop 1 ss)))) ≡ rest)
wild-read tb w x t [] s rest h e r = absurd (omega (arith, h))
wild-read tb w x t (v ∷ ss) s rest h e r =
    let less : length (v ∷ ss) - 1 ≡ length ss = omega arith in
    let all : take (length (v ∷ ss) - 1) ss ≡ ss = ap (λ n. take n ss) less ∙ take_all (length ss) ss (omega arith) in
    let inside : s.inside ≡ v.inside = ap (λ u. u.inside) e in
    let rank : s.rank ≡ v.rank = ap (λ u. u.rank) e in
    let behind : take (length (take (length (v ∷ ss) - 1) ss) - s.inside)
    (drop s.inside (take (length (v ∷ ss) - 1) ss))
    ≡ take (length ss - s.inside) (drop s.inside ss)
    = ap (λ us. take (length us - s.inside) (drop s.inside us)) all in
    let whole : take (length ss - s.inside) (drop s.inside ss) ≡ drop s.inside ss = drop_all s.inside ss in (
      ap (term_at tb) rank ∙ r.0,
      ap (visits tb) (behind ∙ whole ∙ ap (λ n. drop n ss) inside) ∙ sym (drop-map (visit_of tb) v.inside ss)
          ∙ sym r.1.1,
    )
  where
    drop_all : (n : ℕ) (us : List Seen) → take (length us - n) (drop n us) ≡ drop n us
    drop_all n us = take_all (length us - n) (drop n us) (omega (arith, length-drop n us))

pub wild-filled : (sig : Sig) (w : Wildcard) (x : Option (List ℕ)) (t : Tree) (s r : Subst) → suits sig w t ≡ true
    → bound x t s ≡ Some r → filled sig (wild_pattern w x) t s ≡ Some r
wild-filled sig w x t s r h e = rw h e

-- ---- states

module _ (n : Net) (h : IsNet n) (q : ℕ) (s : State) (held : slice_get n.states.items q ≡ Some s) where
  pub state-turn : turn_at (map turn_of n.states.items) (Some q) ≡ turn_of s
  state-turn = ap (held_or nowhere) (slice_get-map turn_of n.states.items q ∙ ap (option_map turn_of) held)

  leads : Leads h.1.rules (net.rules_at h.1.rules (Some q)) (turn_at (map turn_of n.states.items) (Some q))
  leads = leads-at h.1.rules (map turn_of n.states.items) h.1.net (Some q)

  within : (k : ℕ) (os : List Open) → slice_get h.1.rules k ≡ Some os → k < length n.states.items
  within k os e =
      let w = slice_get_within h.1.rules k os e in
      omega (arith, w, h.1.net.all, length-map n.states.items turn_of)

  pub state-below : (g : Mark) (k : ℕ) → edge_of g (turn_of s).edges ≡ Some k → k < length n.states.items
  state-below g k e = within k _ (leads.down g k (ap (λ t. edge_of g t.edges) state-turn ∙ e))

  pub state-other : IfSome s.other (λ k. k < length n.states.items)
  state-other = at_other s.other (net.going net.behind (net.rules_at h.1.rules (Some q)))
      (subst (λ t. IsAt h.1.rules t.other (net.going net.behind (net.rules_at h.1.rules (Some q)))) state-turn
      leads.over)
    where
      at_other : (o : Option ℕ) (os : List Open) → IsAt h.1.rules o os → IfSome o (λ k. k < length n.states.items)
      at_other None os e = tt
      at_other (Some k) os e = within k os e

-- ---- runs

module _ (turns : List Turn) where
  -- the state below the head of a tree
  abbrev pub edge : Tree → Option ℕ → Option ℕ
  edge t q = edge_of (head_of t) (turn_at turns q).edges

  run-way : (t : Tree) (q : Option ℕ)
      → run turns t q ≡ way (edge t q) (turn_at turns q).other (λ k. runs turns (trees (arguments t)) k)
  run-way (symbol n) q = refl
  run-way (app f ts) q =
      ap (λ us. way (edge (app f ts) q) (turn_at turns q).other (λ k. runs turns us k)) (sym (trees-tree_list ts))

  pub run-below : (t : Tree) (q : Option ℕ) (k : ℕ) → edge t q ≡ Some k
      → run turns t q ≡ runs turns (trees (arguments t)) (Some k)
  run-below t q k e =
      run-way t q ∙ ap (λ o. way o (turn_at turns q).other (λ k. runs turns (trees (arguments t)) k)) e

  trace-way : (t : Tree) (q : Option ℕ)
      → trace turns t q ≡ visited t (edge t q) (λ k. traces turns (trees (arguments t)) k)
  trace-way (symbol n) q = at_edge (edge (symbol n) q)
    where
      at_edge : (e : Option ℕ) → record { tree = symbol n; inside = 0 } ∷ [] ≡ visited (symbol n) e (λ k. [])
      at_edge None = refl
      at_edge (Some k) = refl
  trace-way (app f ts) q =
      ap (λ us. visited (app f ts) (edge (app f ts) q) (λ k. traces turns us k)) (sym (trees-tree_list ts))

  pub trace-below : (t : Tree) (q : Option ℕ) (k : ℕ) → edge t q ≡ Some k
      → trace turns t q ≡ record { tree = t; inside = length (traces turns (trees (arguments t)) (Some k)) }
      ∷ traces turns (trees (arguments t)) (Some k)
  trace-below t q k e = trace-way t q ∙ ap (λ o. visited t o (λ k. traces turns (trees (arguments t)) k)) e

  -- where there is no state there is none behind
  run-nowhere : (t : Tree) → run turns t None ≡ None
  run-nowhere (symbol n) = refl
  run-nowhere (app f ts) = refl

  pub runs-nowhere : (ts : Trees) → runs turns ts None ≡ None
  runs-nowhere no_trees = refl
  runs-nowhere (more_trees t ts) = ap (runs turns ts) (run-nowhere t) ∙ runs-nowhere ts

-- ---- what was seen

-- what was read below a node is counted at its place
pub visits-inside : (tb : Table) (old new : List Seen) (s e : Seen) (vs : List Visit) (n : ℕ)
    → visits tb new ≡ visits tb (old ++ s ∷ []) ++ vs → slice_get new (length old) ≡ Some e
    → visits tb (set new (length old) (record e { inside = n }))
    ≡ visits tb old ++ (record { tree = term_at tb s.rank; inside = n } ∷ vs)
visits-inside tb [] [] s e vs n h k = cc
visits-inside tb [] (x ∷ new) s e vs n h k =
    let same : x ≡ e = cc in
    let first : visit_of tb x ≡ visit_of tb s = cc in
    let rest : visits tb new ≡ vs = cc in
    let tree : term_at tb e.rank ≡ term_at tb s.rank =
    ap (λ u. term_at tb u.rank) (sym same) ∙ ap (λ v. v.tree) first in
    ap (λ u. record { tree = u; inside = n } ∷ visits tb new) tree
    ∙ ap (λ us. record { tree = term_at tb s.rank; inside = n } ∷ us) rest
visits-inside tb (o ∷ old) [] s e vs n h k = cc
visits-inside tb (o ∷ old) (x ∷ new) s e vs n h k =
    let first : visit_of tb x ≡ visit_of tb o = cc in
    let rest : visits tb new ≡ visits tb (old ++ s ∷ []) ++ vs = cc in
    ap (λ v. v ∷ visits tb (set new (length old) (record e { inside = n }))) first
    ∙ ap (λ us. visit_of tb o ∷ us) (visits-inside tb old new s e vs n rest k)

-- so many are read below it
pub length-inside : (tb : Table) (old new : List Seen) (s : Seen) (vs : List Visit)
    → visits tb new ≡ visits tb (old ++ s ∷ []) ++ vs → length new ≡ length old + 1 + length vs
length-inside tb old new s vs h =
    let a = length-map new (visit_of tb) in
    let b = length-map (old ++ s ∷ []) (visit_of tb) in
    let c = length-append old (s ∷ []) in
    let d = length-append (visits tb (old ++ s ∷ [])) vs in
    let e = ap length h in
    omega (arith, a, b, c, d, e)

-- ---- ranks

-- the arguments of a node, by their ranks in the table after it was read
pub args-nodes : (tb new : Table) (r : Rank) (args : List Rank) → new ≡ tb
    → terms_at tb args ≡ arguments (term_at tb r)
    → node_count (term_at tb r) ≡ all_nodes (terms_at new args) + 1
args-nodes tb new r args e h =
    node_count_is (term_at tb r) ∙ ap (λ us. all_nodes us + 1) (sym h)
    ∙ ap (λ u. all_nodes (terms_at u args) + 1) (sym e)

-- the first of some ranks, and the others
pub ranks-first : (tb : Table) (rs : List Rank) (d : Rank) → 1 ≤ length rs → terms_at tb rs
    ≡ term_at tb (get_or rs 0 d) ∷ terms_at tb (take (length rs - 1) (drop 1 rs))
ranks-first tb [] d h = absurd (omega (arith, h))
ranks-first tb (r ∷ rs) d h =
    let less : length (r ∷ rs) - 1 ≡ length rs = omega arith in
    let all : take (length (r ∷ rs) - 1) rs ≡ rs = ap (λ n. take n rs) less ∙ take_all (length rs) rs (omega arith) in
    ap (λ us. term_at tb r ∷ terms_at tb us) (sym all)

pub has-first : (tb : Table) (rs : List Rank) (d : Rank) → 1 ≤ length rs → HasRanks tb rs
    → HasRank tb (get_or rs 0 d) × HasRanks tb (take (length rs - 1) (drop 1 rs))
has-first tb [] d h k = absurd (omega (arith, h))
has-first tb (r ∷ rs) d h k =
    let less : length (r ∷ rs) - 1 ≡ length rs = omega arith in
    let all : take (length (r ∷ rs) - 1) rs ≡ rs = ap (λ n. take n rs) less ∙ take_all (length rs) rs (omega arith) in
    (k.0, subst (HasRanks tb) (sym all) k.1)

-- the nodes of the first, and of the others
pub nodes-first : (tb : Table) (rs : List Rank) (d : Rank) → 1 ≤ length rs → all_nodes (terms_at tb rs)
    ≡ node_count (term_at tb (get_or rs 0 d)) + all_nodes (terms_at tb (take (length rs - 1) (drop 1 rs)))
nodes-first tb rs d h = ap all_nodes (ranks-first tb rs d h)

pub args-count : (tb : Table) (args : List Rank) (t : Tree) → terms_at tb args ≡ arguments t
    → length args ≡ length (arguments t)
args-count tb args t h = sym (length-map args (term_at tb)) ∙ ap length h

-- ---- the steps of a walk

-- one node more was seen
pub seen-more : (tb new : Table) (old items : List Seen) (s : Seen) → new ≡ tb → AllByRecursion (IsSeen tb) old
    → IsSeen tb s → items ≡ old ++ s ∷ [] → AllByRecursion (IsSeen new) items
seen-more tb new old items s e h k i =
    subst (λ u. AllByRecursion (IsSeen u) items) (sym e)
    (subst (AllByRecursion (IsSeen tb)) (sym i) (all-append (IsSeen tb) old (s ∷ []) h (k, tt)))

module _ (turns : List Turn) (tb new : Table) (r : Rank) (args : List Rank) (q k : ℕ) (same : new ≡ tb)
    (below : terms_at tb args ≡ arguments (term_at tb r)) (way_on : edge turns (term_at tb r) (Some q) ≡ Some k) where
  -- the state behind the arguments is the one behind the node
  pub behind-run : (o : Option ℕ) → o ≡ runs turns (trees (terms_at new args)) (Some k)
      → o ≡ run turns (term_at tb r) (Some q)
  behind-run o e =
      e ∙ ap (λ u. runs turns (trees (terms_at u args)) (Some k)) same
      ∙ ap (λ us. runs turns (trees us) (Some k)) below ∙ sym (run-below turns (term_at tb r) (Some q) k way_on)

  -- what is seen, once the node has its count
  pub trace-seen : (old pushed items : List Seen) (s e : Seen) (here len : ℕ) → s.rank ≡ r → pushed ≡ old ++ s ∷ []
      → visits new items ≡ visits new pushed ++ traces turns (trees (terms_at new args)) (Some k)
      → here ≡ length old → len ≡ length items → e ≡ get_or items here e
      → visits tb (set items here (record e { inside = len - here - 1 }))
      ≡ visits tb old ++ trace turns (term_at tb r) (Some q)
  trace-seen old pushed items s e here len is_r is_pushed is_items is_here is_len is_e =
      let vs = traces turns (trees (arguments (term_at tb r))) (Some k) in
      let h : visits tb items ≡ visits tb (old ++ s ∷ []) ++ vs =
      ap (λ u. visits u items) (sym same) ∙ is_items
      ∙ ap (λ u. visits u pushed ++ traces turns (trees (terms_at u args)) (Some k)) same
      ∙ ap (λ us. visits tb us ++ traces turns (trees (terms_at tb args)) (Some k)) is_pushed
      ∙ ap (λ us. visits tb (old ++ s ∷ []) ++ traces turns (trees us) (Some k)) below in
      let long = length-inside tb old items s vs h in
      let held : slice_get items (length old) ≡ Some e =
      slice_get_read items (length items) (length old) e refl (omega (arith, long))
      (is_e ∙ ap (λ i. get_or items i e) is_here) in
      let count : len - here - 1 ≡ length vs = omega (arith, long, is_here, is_len) in
      ap (λ i. visits tb (set items i (record e { inside = len - here - 1 }))) is_here
      ∙ visits-inside tb old items s e vs (len - here - 1) h held
      ∙ ap (λ n. visits tb old ++ (record { tree = term_at tb s.rank; inside = n } ∷ vs)) count
      ∙ ap (λ u. visits tb old ++ (record { tree = term_at tb u; inside = length vs } ∷ vs)) is_r
      ∙ ap (λ us. visits tb old ++ us) (sym (trace-below turns (term_at tb r) (Some q) k way_on))

-- a dead state at the first of some ranks
pub none-first : (turns : List Turn) (tb : Table) (rs : List Rank) (d : Rank) (q : Option ℕ) → 1 ≤ length rs
    → None ≡ run turns (term_at tb (get_or rs 0 d)) q → None ≡ runs turns (trees (terms_at tb rs)) q
none-first turns tb rs d q h e =
    sym (ap (λ us. runs turns (trees us) q) (ranks-first tb rs d h)
    ∙ ap (runs turns (trees (terms_at tb (take (length rs - 1) (drop 1 rs))))) (sym e)
    ∙ runs-nowhere turns (trees (terms_at tb (take (length rs - 1) (drop 1 rs)))))

-- ---- numbers

pub reads-below : (a b c m k : ℕ) → b ≡ more_reads a 1 → c ≤ more_reads b m → k ≡ m + 1 → c ≤ more_reads a k
reads-below a b c m k e h d = omega (arith, e, h, d)
