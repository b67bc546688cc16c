-- The tokens of a rule's pattern read exactly the tables that the search of the theory lists, in its order.
use Rattle.std.proofs.Common.{◌≡◌, ℕ, zero, suc, ◌+◌, ◌<◌, ◌≤◌, List, [], ◌∷◌, ◌++◌, Bool, true, false, not, ◌&&◌, refl}
use Rattle.std.proofs.Common.{ap, sym, ◌∙◌, subst, arith, append_assoc, append-nil}
use Rattle.std.specs.Prelude.{Option, Some, None, ⊤, flat_map, if◌then◌else◌}
use Rattle.std.proofs.lemmas.Bool.{and_parts}
use Rattle.mp_term.specs.Signature.{Sig, is_comm}
use Rattle.mp_term.specs.Tree.{Tree}
use Rattle.mp_pattern.specs.PatternTree.{Wildcard, is_sequence, Pattern, symbol_pattern, app_pattern, wild_pattern}
use Rattle.mp_pattern.specs.PatternTree.{Patterns, no_patterns, more_patterns}
use Rattle.mp_pattern.specs.Size.{pattern_nodes, all_pattern_nodes}
use Rattle.mp_pattern.specs.Value.{Subst}
use Rattle.mp_pattern.specs.Fits.{Entry, Table, no_sequence}
use Rattle.mp_theory.specs.Frames.{Frame, ended, refused, child, is_done, settle, start}
use Rattle.mp_theory.specs.Machine.{arguments}
use Rattle.mp_theory.specs.Trail.{derivations}
use Rattle.mp_theory.specs.OneList.{item_tables}
use Rattle.mp_pattern.specs.NetTokens.{NetToken, sym_token, enter_token, leave_token, wild_token, comm_token, tokens}
use Rattle.mp_pattern.specs.NetTokens.{all_tokens, renamed, all_renamed, number_in}
use Rattle.mp_walk.specs.TokenMachine.{Open, rest_of_open, entries_for, opened, steps_by, token_ends}
use Rattle.mp_walk.specs.Forests.{runs}
use Rattle.mp_walk.proofs.Stacked.{splits}
use Rattle.mp_walk.proofs.ByRule.{searched, Read, at, read-leave, read-comm, Listed, framed, flat-same, tables-kept}
use Rattle.mp_walk.proofs.ByRule.{symbol-step, wild-numbered, app-step}

-- an open operation with the children that are still to come
pub record Inner : Type 0 where
  pub op : ℕ
  pub children : Patterns
  pub left : List Tree
  pub owes : Bool
  pub collapsed : Bool

module _ (sig : Sig) (vs : List (List ℕ)) where
  abbrev open_of : Inner → Open
  open_of F = record { under = Some F.op; left = F.left; owes = F.owes; collapsed = F.collapsed }

  abbrev pub root_of : List Tree → Open
  root_of l = record { under = None; left = l; owes = false; collapsed = false }

  -- the open operations, their frames, the tokens and the nodes that are still to come
  abbrev opens : List Inner → List Tree → List Open
  opens [] l = root_of l ∷ []
  opens (F ∷ Fs) l = open_of F ∷ opens Fs l

  abbrev frames : List Inner → Patterns → List Tree → List Frame
  frames [] qs l = framed sig vs (root_of l) qs ∷ []
  frames (F ∷ Fs) qs l = framed sig vs (open_of F) F.children ∷ frames Fs qs l

  abbrev to_read : List Inner → Patterns → List NetToken
  to_read [] qs = all_tokens sig vs qs
  to_read (F ∷ Fs) qs = all_tokens sig vs F.children ++ (leave_token F.op ∷ to_read Fs qs)

  abbrev nodes : List Inner → Patterns → ℕ
  nodes [] qs = all_pattern_nodes qs
  nodes (F ∷ Fs) qs = all_pattern_nodes F.children + nodes Fs qs

  -- a collapsed operation has no sequence
  abbrev Ready : List Inner → Type 0
  Ready [] = ⊤
  Ready (F ∷ Fs) = (F.collapsed ≡ true → no_sequence F.children ≡ true) × Ready Fs

  -- where k nodes are still to come, the tokens read what the search lists
  abbrev Same : ℕ → Type 0
  Same k = (Fs : List Inner) (qs : Patterns) (l : List Tree) (s : Subst) (T : Table) → nodes Fs qs ≡ k → Ready Fs
      → Read sig vs (to_read Fs qs) (at sig vs (opens Fs l) s) T ≡ Listed sig vs k (settle (frames Fs qs l)) T s

  refused-none : (k : ℕ) (T : Table) (s : Subst) → Listed sig vs k refused T s ≡ []
  refused-none zero T s = refl
  refused-none (suc k) T s = refl

  -- a pattern has a node
  some : (p : Pattern) → 1 ≤ pattern_nodes p
  some (symbol_pattern n) = omega arith
  some (wild_pattern w x) = omega arith
  some (app_pattern g qs) = omega arith

  -- what follows the wildcards of a collapsed operation
  collapsed-later : (p : Pattern) (ps : Patterns) → no_sequence (more_patterns p ps) ≡ true → no_sequence ps ≡ true
  collapsed-later (symbol_pattern n) ps h = h
  collapsed-later (app_pattern g qs) ps h = h
  collapsed-later (wild_pattern w x) ps h = (and_parts (not (is_sequence w)) (no_sequence ps) h).1

  no_collapsed_sequence : (b : Bool) (w : Wildcard) (x : Option (List ℕ)) (ps : Patterns)
      → (b ≡ true → no_sequence (more_patterns (wild_pattern w x) ps) ≡ true) → (b && is_sequence w) ≡ false
  no_collapsed_sequence false w x ps h = refl
  no_collapsed_sequence true w x ps h = by_test (is_sequence w)
      (and_parts (not (is_sequence w)) (no_sequence ps) (h refl)).0
    where
      by_test : (c : Bool) → not c ≡ true → c ≡ false
      by_test true e = cc
      by_test false e = refl

  -- renaming keeps the number of nodes
  mutual
    pub pattern_nodes-renamed : (p : Pattern) → pattern_nodes (renamed vs p) ≡ pattern_nodes p
    pattern_nodes-renamed (symbol_pattern n) = refl
    pattern_nodes-renamed (wild_pattern w x) = refl
    pattern_nodes-renamed (app_pattern g ps) = ap (λ n. n + 1) (all_pattern_nodes-renamed ps)

    all_pattern_nodes-renamed : (ps : Patterns) → all_pattern_nodes (all_renamed vs ps) ≡ all_pattern_nodes ps
    all_pattern_nodes-renamed no_patterns = refl
    all_pattern_nodes-renamed (more_patterns p ps) =
        omega (arith, pattern_nodes-renamed p, all_pattern_nodes-renamed ps)

  -- a commutative child: all entries below it are put out at once
  comm-step : (g : ℕ) (cs : Patterns) (ks : List NetToken) (f : Open) (fs : List Open) (gs : List Frame) (ps : Patterns)
      (m : ℕ) (s : Subst) (T : Table)
      → ((e : Entry) (r : Subst) (U : Table)
      → Read sig vs ks (at sig vs (rest_of_open (app_pattern g cs) e f ∷ fs) r) U
      ≡ Listed sig vs m (settle (framed sig vs (rest_of_open (app_pattern g cs) e f) ps ∷ gs)) U r)
      → Read sig vs (comm_token (app_pattern g cs) ∷ ks) (at sig vs (f ∷ fs) s) T
      ≡ Listed sig vs (suc (all_pattern_nodes cs + m)) (child (app_pattern g cs) (framed sig vs f ps) gs) T s
  comm-step g cs ks f fs gs ps m s T h =
      read-comm sig vs (app_pattern g cs) ks f fs s T
      ∙ flat-same (λ e. flat_map (λ i. Read sig vs ks (at sig vs (rest_of_open (app_pattern g cs) e f ∷ fs) i.1)
      (T ++ (e ∷ i.0))) (searched sig (app_pattern g cs) e s))
      (λ e. derivations sig (all_pattern_nodes cs + m) (settle (upper e ∷ lower e)) (T ++ (e ∷ [])) s)
      (entries_for sig f (app_pattern g cs)) (λ e.
      flat-same (λ i. Read sig vs ks (at sig vs (rest_of_open (app_pattern g cs) e f ∷ fs) i.1) (T ++ (e ∷ i.0)))
      (λ i. derivations sig m (settle (lower e)) ((T ++ (e ∷ [])) ++ i.0) i.1)
      (searched sig (app_pattern g cs) e s) (λ i.
      h e i.1 (T ++ (e ∷ i.0)) ∙ ap (λ U. Listed sig vs m (settle (lower e)) U i.1) (sym (append_assoc T (e ∷ []) i.0)))
      ∙ sym (splits sig (all_pattern_nodes cs) (upper e ∷ []) (lower e) m (all_pattern_nodes cs + m)
      (T ++ (e ∷ [])) s (omega arith) refl))
    where
      upper : Entry → Frame
      upper e = record {
        under = Some g;
        children = cs;
        left =
            if e.collapsed then e.terms else arguments e.terms;
        owes = e.collapsed;
      }

      lower : Entry → List Frame
      lower e = framed sig vs (rest_of_open (app_pattern g cs) e f) ps ∷ gs

  -- a child of the innermost operation, where the places after it are known
  child-same : (p : Pattern) (ps : Patterns) (ks : List NetToken) (f : Open) (fs : List Open) (gs : List Frame)
      (m k : ℕ) (s : Subst) (T : Table) → pattern_nodes p + m ≡ k
      → (f.collapsed ≡ true → no_sequence (more_patterns p ps) ≡ true)
      → ((e : Entry) (r : Subst) (q : Pattern) (U : Table)
      → Read sig vs ks (at sig vs (rest_of_open q e f ∷ fs) r) U
      ≡ Listed sig vs m (settle (framed sig vs (rest_of_open q e f) ps ∷ gs)) U r)
      → ((g : ℕ) (qs : Patterns) (e : Entry) → p ≡ app_pattern g qs → (e.collapsed ≡ true → no_sequence qs ≡ true)
      → (j : ℕ) → suc j ≡ k → Read sig vs (all_tokens sig vs qs ++ (leave_token g ∷ ks))
      (at sig vs (opened g e ∷ rest_of_open (app_pattern g no_patterns) e f ∷ fs) s) (T ++ (e ∷ []))
      ≡ Listed sig vs j (settle (framed sig vs (opened g e) qs ∷ framed sig vs
      (rest_of_open (app_pattern g no_patterns) e f) ps ∷ gs)) (T ++ (e ∷ [])) s)
      → Read sig vs (tokens sig vs p ++ ks) (at sig vs (f ∷ fs) s) T
      ≡ Listed sig vs k (child (renamed vs p) (framed sig vs f ps) gs) T s
  child-same (symbol_pattern n) ps ks f fs gs m k s T e q h i =
      subst (λ j. Read sig vs (sym_token n ∷ ks) (at sig vs (f ∷ fs) s) T
      ≡ Listed sig vs j (child (symbol_pattern n) (framed sig vs f ps) gs) T s)
      (let z : suc m ≡ k = omega arith in z)
      (symbol-step sig vs n ks f fs gs ps m s T (λ d. h d s (symbol_pattern n) (T ++ (d ∷ []))))
  child-same (wild_pattern w None) ps ks f fs gs m k s T e q h i =
      subst (λ j. Read sig vs (wild_token w None ∷ ks) (at sig vs (f ∷ fs) s) T
      ≡ Listed sig vs j (child (wild_pattern w None) (framed sig vs f ps) gs) T s)
      (let z : suc m ≡ k = omega arith in z)
      (wild-numbered sig vs w None ks f fs gs ps m s T (no_collapsed_sequence f.collapsed w None ps q)
      (λ d r. h d r (wild_pattern w None) (T ++ (d ∷ []))))
  child-same (wild_pattern w (Some x)) ps ks f fs gs m k s T e q h i =
      subst (λ j. Read sig vs (wild_token w (Some (number_in vs x)) ∷ ks) (at sig vs (f ∷ fs) s) T
      ≡ Listed sig vs j (child (renamed vs (wild_pattern w (Some x))) (framed sig vs f ps) gs) T s)
      (let z : suc m ≡ k = omega arith in z)
      (wild-numbered sig vs w (Some (number_in vs x)) ks f fs gs ps m s T
      (no_collapsed_sequence f.collapsed w (Some x) ps q)
      (λ d r. h d r (renamed vs (wild_pattern w (Some x))) (T ++ (d ∷ []))))
  child-same (app_pattern g qs) ps ks f fs gs m k s T e q h i =
      let z : suc (all_pattern_nodes qs + m) ≡ k = omega arith in
      let y : suc (all_pattern_nodes (all_renamed vs qs) + m) ≡ k = omega (arith, all_pattern_nodes-renamed qs) in
      elim (is_comm sig g) as (λ b. Read sig vs
      ((if b then comm_token (renamed vs (app_pattern g qs)) ∷ [] else
      (enter_token g ∷ (all_tokens sig vs qs ++ (leave_token g ∷ [])))) ++ ks) (at sig vs (f ∷ fs) s) T
      ≡ Listed sig vs k (child (renamed vs (app_pattern g qs)) (framed sig vs f ps) gs) T s) [
        | true ↦
            subst (λ n. Read sig vs (comm_token (app_pattern g (all_renamed vs qs)) ∷ ks) (at sig vs (f ∷ fs) s) T
            ≡ Listed sig vs n (child (app_pattern g (all_renamed vs qs)) (framed sig vs f ps) gs) T s) y
            (comm-step g (all_renamed vs qs) ks f fs gs ps m s T (λ d r U. h d r (app_pattern g (all_renamed vs qs)) U))
        | false ↦
            ap (λ ls. Read sig vs (enter_token g ∷ ls) (at sig vs (f ∷ fs) s) T)
            (append_assoc (all_tokens sig vs qs) (leave_token g ∷ []) ks)
            ∙ subst (λ n. Read sig vs (enter_token g ∷ (all_tokens sig vs qs ++ (leave_token g ∷ ks)))
            (at sig vs (f ∷ fs) s) T ≡ Listed sig vs n
            (child (app_pattern g (all_renamed vs qs)) (framed sig vs f ps) gs) T s) z
            (app-step sig vs g qs ks f fs gs ps (all_pattern_nodes qs + m) s T
            (λ d a. i g qs d refl a (all_pattern_nodes qs + m) z))
      ]

  -- the operation F on top, its fields apart
  inner-same : (k : ℕ) → ((j : ℕ) → j < k → Same j)
      → (op : ℕ) (children : Patterns) (left : List Tree) (owes collapsed : Bool) (Fs : List Inner) (qs : Patterns)
      (l : List Tree) (s : Subst) (T : Table)
      → (nodes Fs qs ≡ k → Read sig vs (to_read Fs qs) (at sig vs (opens Fs l) s) T
      ≡ Listed sig vs k (settle (frames Fs qs l)) T s)
      → all_pattern_nodes children + nodes Fs qs ≡ k → (collapsed ≡ true → no_sequence children ≡ true) → Ready Fs
      → Read sig vs (all_tokens sig vs children ++ (leave_token op ∷ to_read Fs qs))
      (at sig vs (record { under = Some op; left = left; owes = owes; collapsed = collapsed } ∷ opens Fs l) s) T
      ≡ Listed sig vs k (settle (record {
        under = Some op;
        children = all_renamed vs children;
        left = left;
        owes =
            owes;
      } ∷ frames Fs qs l)) T s
  inner-same k ih op no_patterns left owes collapsed Fs qs l s T go e q r =
      read-leave sig vs op (to_read Fs qs) (record { under = Some op; left = left; owes = owes; collapsed = collapsed })
      (opens Fs l) s T
      ∙ elim (is_done left owes) as (λ b. (if b then Read sig vs (to_read Fs qs) (at sig vs (opens Fs l) s) T else [])
      ≡ Listed sig vs k (if b then settle (frames Fs qs l) else refused) T s) [
        | true ↦ go
            (omega (arith, e))
        | false ↦ sym (refused-none k T s)
      ]
  inner-same k ih op (more_patterns p ps) left owes collapsed Fs qs l s T go e q r =
      let f : Open = record { under = Some op; left = left; owes = owes; collapsed = collapsed } in
      ap (λ ls. Read sig vs ls (at sig vs (f ∷ opens Fs l) s) T)
      (append_assoc (tokens sig vs p) (all_tokens sig vs ps) (leave_token op ∷ to_read Fs qs))
      ∙ child-same p ps (all_tokens sig vs ps ++ (leave_token op ∷ to_read Fs qs)) f (opens Fs l) (frames Fs qs l)
      (all_pattern_nodes ps + nodes Fs qs) k s T (omega arith) q
      (λ d1 r1 t U. ih (all_pattern_nodes ps + nodes Fs qs) (omega (arith, some p))
      (record {
        op = op;
        children = ps;
        left = (rest_of_open t d1 f).left;
        owes =
            (rest_of_open t d1 f).owes;
        collapsed = collapsed;
      } ∷ Fs) qs l r1 U refl ((λ a. collapsed-later p ps (q a)), r))
      (λ g us d1 pe a j z. ih j (omega arith)
      (record {
        op = g;
        children = us;
        left = (opened g d1).left;
        owes = d1.collapsed;
        collapsed =
            d1.collapsed;
      } ∷ record {
        op = op;
        children = ps;
        left =
            (rest_of_open (app_pattern g no_patterns) d1 f).left;
        owes =
            (rest_of_open (app_pattern g no_patterns) d1 f).owes;
        collapsed = collapsed;
      } ∷ Fs) qs l s (T ++ (d1 ∷ []))
      (let w : pattern_nodes p ≡ all_pattern_nodes us + 1 = ap pattern_nodes pe in omega arith)
      (a, ((λ b. collapsed-later p ps (q b)), r)))

  -- the root on top
  root-same : (k : ℕ) → ((j : ℕ) → j < k → Same j) → (qs : Patterns) (l : List Tree) (s : Subst) (T : Table)
      → all_pattern_nodes qs ≡ k
      → Read sig vs (all_tokens sig vs qs) (at sig vs (root_of l ∷ []) s) T
      ≡ Listed sig vs k (settle (framed sig vs (root_of l) qs ∷ [])) T s
  root-same k ih no_patterns l s T e =
      subst (λ j. (if is_done l false then (T, s) ∷ [] else [])
      ≡ Listed sig vs j (if is_done l false then ended else refused) T s) e
      (elim (is_done l false) as (λ b. (if b then (T, s) ∷ [] else [])
      ≡ Listed sig vs 0 (if b then ended else refused) T s) [ true ↦ refl | false ↦ refl ])
  root-same k ih (more_patterns p ps) l s T e =
      child-same p ps (all_tokens sig vs ps) (root_of l) [] [] (all_pattern_nodes ps) k s T e (λ a. cc)
      (λ d r t U. ih (all_pattern_nodes ps) (omega (arith, some p)) [] ps
      (rest_of_open t d (root_of l)).left r U refl tt)
      (λ g us d pe a j z. ih j (omega arith)
      (record { op = g; children = us; left = (opened g d).left; owes = d.collapsed; collapsed = d.collapsed } ∷ []) ps
      (rest_of_open (app_pattern g no_patterns) d (root_of l)).left s (T ++ (d ∷ []))
      (let w : pattern_nodes p ≡ all_pattern_nodes us + 1 = ap pattern_nodes pe in omega arith) (a, tt))

  same-from : (k : ℕ) → ((j : ℕ) → j < k → Same j) → Same k
  same-from k ih [] qs l s T e r = root-same k ih qs l s T e
  same-from k ih (F ∷ Fs) qs l s T e r = inner-same k ih F.op F.children F.left F.owes F.collapsed Fs qs l s T
      (λ n. same-from k ih Fs qs l s T n r.1) e r.0 r.1

  below : (n j : ℕ) → j < n → Same j
  below zero j h = absurd (omega arith)
  below (suc n) j h = same-from j (λ i m. below n i (omega arith))

  pub same : (k : ℕ) → Same k
  same k = below (suc k) k (omega arith)

-- the tokens of a pattern read, from the root on, what the search lists for the pattern with its variables renamed by
-- their numbers
pub items-read : (sig : Sig) (vs : List (List ℕ)) (p : Pattern) (t : Tree)
    → Read sig vs (tokens sig vs p) (at sig vs (root_of sig vs (t ∷ []) ∷ []) []) []
    ≡ derivations sig (pattern_nodes p) (settle (start (renamed vs p) t)) [] []
items-read sig vs p t =
    let h = same sig vs (pattern_nodes p) [] (more_patterns p no_patterns) (t ∷ []) [] [] (omega arith) tt in
    subst (λ ls. Read sig vs ls (at sig vs (root_of sig vs (t ∷ []) ∷ []) []) []
    ≡ derivations sig (pattern_nodes p) (settle (start (renamed vs p) t)) [] [])
    (append-nil (tokens sig vs p)) h

-- so do their tables
pub tokens-read : (sig : Sig) (vs : List (List ℕ)) (p : Pattern) (t : Tree)
    → runs (steps_by sig (searched sig)) token_ends (tokens sig vs p) (at sig vs (root_of sig vs (t ∷ []) ∷ []) []) []
    ≡ item_tables (derivations sig (pattern_nodes p) (settle (start (renamed vs p) t)) [] [])
tokens-read sig vs p t =
    tables-kept (steps_by sig (searched sig)) (tokens sig vs p) (at sig vs (root_of sig vs (t ∷ []) ∷ []) []) []
    ∙ ap item_tables (items-read sig vs p t)
