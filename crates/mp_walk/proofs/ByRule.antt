-- The tokens of a pattern read what the search of the theory reads.
use Rattle.std.proofs.Common.{◌≡◌, ℕ, suc, List, [], ◌∷◌, ◌++◌, map, filter, Bool, true, false, not, ◌&&◌, refl, ap}
use Rattle.std.proofs.Common.{sym, ◌∙◌, append_assoc, append-nil}
use Rattle.std.specs.Prelude.{Option, Some, None, flat_map, option_map, if◌then◌else◌}
use Rattle.std.proofs.lemmas.Bool.{and_parts, and_from}
use Rattle.mp_term.specs.Signature.{Sig, is_comm, is_one}
use Rattle.mp_pattern.specs.PatternTree.{Wildcard, is_sequence, Pattern, symbol_pattern, app_pattern, wild_pattern}
use Rattle.mp_pattern.specs.PatternTree.{Patterns, no_patterns, more_patterns}
use Rattle.mp_pattern.specs.Variables.{comm_above}
use Rattle.mp_pattern.specs.Value.{Subst}
use Rattle.mp_pattern.specs.Fits.{Entry, Table, no_sequence}
use Rattle.mp_theory.specs.Frames.{Frame, Next, child, is_done, settle}
use Rattle.mp_theory.specs.Solve.{solve}
use Rattle.mp_term.specs.Pieces.{pieces}
use Rattle.mp_term.specs.Order.{tree_cmp}
use Rattle.mp_term.specs.NormalTest.{is_single}
use Rattle.mp_theory.specs.Trail.{listed_by, derivations}
use Rattle.mp_theory.specs.OneList.{Item, item_tables}
use Rattle.mp_pattern.specs.Size.{all_pattern_nodes}
use Rattle.mp_ac.specs.CommList.{below}
use Rattle.mp_ac.proofs.FirstChild.{flat-flat}
use Rattle.mp_theory.specs.Machine.{reads, entries, said, is_headed}
use Rattle.mp_pattern.specs.NetTokens.{NetToken, sym_token, enter_token, leave_token, wild_token, comm_token, tokens}
use Rattle.mp_pattern.specs.NetTokens.{all_tokens, renamed, all_renamed, numbered, number_in}
use Rattle.mp_theory.proofs.SubBags.{map-flat}
use Rattle.mp_walk.specs.Forests.{runs}
use Rattle.mp_walk.specs.TokenMachine.{Open, State, rest_of_open, entries_for, taken_below, opened, told, steps_by}
use Rattle.mp_walk.specs.TokenMachine.{token_ends}

-- the items of the search below an application that has the entry
abbrev pub searched : Sig → Pattern → Entry → Subst → List Item
searched sig (app_pattern g ps) e s =
    derivations sig (all_pattern_nodes ps) (settle (below g ps (taken_below e) e.collapsed)) [] s
searched sig (symbol_pattern n) e s = []
searched sig (wild_pattern w x) e s = []

-- the lists that tokens put out, each with the trail at its end
module _ (steps : State → NetToken → List (List Entry × State)) where
  abbrev pub runs_kept : List NetToken → State → Table → List Item
  runs_kept [] s before = if token_ends s then (before, s.trail) ∷ [] else []
  runs_kept (k ∷ ks) s before = flat_map (λ r. runs_kept ks r.1 (before ++ r.0)) (steps s k)

-- a `flat_map` of nothing
pub flat-none : {X Y : Type 0} (f : X → List Y) (xs : List X) → ((x : X) → f x ≡ []) → flat_map f xs ≡ []
flat-none f [] h = refl
flat-none f (x ∷ xs) h = rw (h x) (flat-none f xs h)

pub flat-map : {X Y Z : Type 0} (f : Y → List Z) (g : X → Y) (xs : List X)
    → flat_map f (map g xs) ≡ flat_map (λ x. f (g x)) xs
flat-map f g [] = refl
flat-map f g (x ∷ xs) = ap (λ ys. f (g x) ++ ys) (flat-map f g xs)

pub flat-same : {X Y : Type 0} (f g : X → List Y) (xs : List X) → ((x : X) → f x ≡ g x) → flat_map f xs ≡ flat_map g xs
flat-same f g [] h = refl
flat-same f g (x ∷ xs) h = ap (λ ys. ys ++ flat_map f xs) (h x) ∙ ap (λ ys. g x ++ ys) (flat-same f g xs h)

module _ (sig : Sig) (vs : List (List ℕ)) where
  abbrev pub Read : List NetToken → State → Table → List Item
  Read = runs_kept (steps_by sig (searched sig))

  abbrev pub at : List Open → Subst → State
  at fs s = record { open_ones = fs; trail = s }

  abbrev put : List Entry → State → List Entry × State
  put es s = (es, s)

  -- nothing is read after any state with the same operation on top
  abbrev Dead : List NetToken → Open → List Open → Type 0
  Dead ks f fs = (g : Open) (s : Subst) (T : Table) → g.under ≡ f.under → g.collapsed ≡ f.collapsed
      → Read ks (at (g ∷ fs) s) T ≡ []

  -- what is read after a wildcard, where it is read
  abbrev After : List NetToken → Pattern → Open → List Open → Subst → Table → Entry → List Item
  After ks p f fs s T e = listed_by (λ r. Read ks (at (rest_of_open p e f ∷ fs) r) (T ++ (e ∷ []))) (told sig f p e s)

  read-wild : (w : Wildcard) (v : Option ℕ) (ks : List NetToken) (f : Open) (fs : List Open) (s : Subst) (T : Table)
      → (f.collapsed && is_sequence w) ≡ false
      → Read (wild_token w v ∷ ks) (at (f ∷ fs) s) T
      ≡ flat_map (After ks (wild_pattern w (option_map numbered v)) f fs s T)
      (entries_for sig f (wild_pattern w (option_map numbered v)))
  read-wild w v ks f fs s T e =
      let p : Pattern = wild_pattern w (option_map numbered v) in
      rw e (
      flat-flat (λ r. Read ks r.1 (T ++ r.0))
      (λ e. listed_by (λ r. put (e ∷ []) (at (rest_of_open p e f ∷ fs) r) ∷ []) (told sig f p e s))
      (entries_for sig f p)
      ∙ flat-same (λ e. flat_map (λ r. Read ks r.1 (T ++ r.0))
      (listed_by (λ r. put (e ∷ []) (at (rest_of_open p e f ∷ fs) r) ∷ []) (told sig f p e s)))
      (After ks p f fs s T) (entries_for sig f p) (λ e.
      elim (told sig f p e s) as (λ o. flat_map (λ r. Read ks r.1 (T ++ r.0))
      (listed_by (λ r. put (e ∷ []) (at (rest_of_open p e f ∷ fs) r) ∷ []) o)
      ≡ listed_by (λ r. Read ks (at (rest_of_open p e f ∷ fs) r) (T ++ (e ∷ []))) o) [
        | None ↦ refl
        | Some r ↦ append-nil (Read ks (at (rest_of_open p e f ∷ fs) r) (T ++ (e ∷ [])))
      ]))

  read-enter : (g : ℕ) (ks : List NetToken) (f : Open) (fs : List Open) (s : Subst) (T : Table)
      → Read (enter_token g ∷ ks) (at (f ∷ fs) s) T
      ≡ flat_map (λ e. Read ks (at (opened g e ∷ rest_of_open (app_pattern g no_patterns) e f ∷ fs) s)
      (T ++ (e ∷ []))) (entries_for sig f (app_pattern g no_patterns))
  read-enter g ks f fs s T = flat-map (λ r. Read ks r.1 (T ++ r.0))
      (λ e. put (e ∷ []) (at (opened g e ∷ rest_of_open (app_pattern g no_patterns) e f ∷ fs) s))
      (entries_for sig f (app_pattern g no_patterns))

  pub read-leave : (g : ℕ) (ks : List NetToken) (f : Open) (fs : List Open) (s : Subst) (T : Table)
      → Read (leave_token g ∷ ks) (at (f ∷ fs) s) T ≡ (if is_done f.left f.owes then Read ks (at fs s) T else [])
  read-leave g ks f fs s T =
      elim (is_done f.left f.owes) as (λ b.
      flat_map (λ r. Read ks r.1 (T ++ r.0)) (if b then put [] (at fs s) ∷ [] else [])
      ≡ (if b then Read ks (at fs s) T else [])) [
        | true ↦ append-nil (Read ks (at fs s) (T ++ [])) ∙ ap (Read ks (at fs s)) (append-nil T)
        | false ↦ refl
      ]

  pub read-comm : (p : Pattern) (ks : List NetToken) (f : Open) (fs : List Open) (s : Subst) (T : Table)
      → Read (comm_token p ∷ ks) (at (f ∷ fs) s) T
      ≡ flat_map (λ e. flat_map (λ i. Read ks (at (rest_of_open p e f ∷ fs) i.1) (T ++ (e ∷ i.0)))
      (searched sig p e s)) (entries_for sig f p)
  read-comm p ks f fs s T =
      flat-flat (λ r. Read ks r.1 (T ++ r.0))
      (λ e. map (λ i. put (e ∷ i.0) (at (rest_of_open p e f ∷ fs) i.1)) (searched sig p e s)) (entries_for sig f p)
      ∙ flat-same (λ e. flat_map (λ r. Read ks r.1 (T ++ r.0))
      (map (λ i. put (e ∷ i.0) (at (rest_of_open p e f ∷ fs) i.1)) (searched sig p e s)))
      (λ e. flat_map (λ i. Read ks (at (rest_of_open p e f ∷ fs) i.1) (T ++ (e ∷ i.0))) (searched sig p e s))
      (entries_for sig f p)
      (λ e. flat-map (λ r. Read ks r.1 (T ++ r.0)) (λ i. put (e ∷ i.0) (at (rest_of_open p e f ∷ fs) i.1))
      (searched sig p e s))

  dead-wild : (w : Wildcard) (v : Option ℕ) (ks : List NetToken) (f : Open) (fs : List Open) (s : Subst) (T : Table)
      → Dead ks f fs → Read (wild_token w v ∷ ks) (at (f ∷ fs) s) T ≡ []
  dead-wild w v ks f fs s T d = by_test (f.collapsed && is_sequence w) refl
    where
      p : Pattern
      p = wild_pattern w (option_map numbered v)

      by_test : (b : Bool) → (f.collapsed && is_sequence w) ≡ b → Read (wild_token w v ∷ ks) (at (f ∷ fs) s) T ≡ []
      by_test true e = rw e refl
      by_test false e =
          read-wild w v ks f fs s T e
          ∙ flat-none (After ks p f fs s T) (entries_for sig f p)
          (λ e. elim (told sig f p e s) as
          (λ o. listed_by (λ r. Read ks (at (rest_of_open p e f ∷ fs) r) (T ++ (e ∷ []))) o
          ≡ []) [ None ↦ refl | Some r ↦ d (rest_of_open p e f) r (T ++ (e ∷ [])) refl refl ])

  mutual
    -- if nothing is read after a child, nothing is read from before it
    dead-child : (p : Pattern) (ks : List NetToken) (f : Open) (fs : List Open) (s : Subst) (T : Table) → Dead ks f fs
        → Read (tokens sig vs p ++ ks) (at (f ∷ fs) s) T ≡ []
    dead-child (symbol_pattern n) ks f fs s T d =
        flat-map (λ r. Read ks r.1 (T ++ r.0)) (λ e. put (e ∷ []) (at (rest_of_open (symbol_pattern n) e f ∷ fs) s))
        (entries_for sig f (symbol_pattern n))
        ∙ flat-none (λ e. Read ks (at (rest_of_open (symbol_pattern n) e f ∷ fs) s) (T ++ (e ∷ [])))
        (entries_for sig f (symbol_pattern n))
        (λ e. d (rest_of_open (symbol_pattern n) e f) s (T ++ (e ∷ [])) refl refl)
    dead-child (wild_pattern w x) ks f fs s T d = dead-wild w (option_map (number_in vs) x) ks f fs s T d
    dead-child (app_pattern g ps) ks f fs s T d =
        elim (is_comm sig g) as (λ b. Read ((if b then comm_token (renamed vs (app_pattern g ps)) ∷ [] else
        (enter_token g ∷ (all_tokens sig vs ps ++ (leave_token g ∷ [])))) ++ ks) (at (f ∷ fs) s) T ≡ []) [
          | true ↦
              read-comm (renamed vs (app_pattern g ps)) ks f fs s T
              ∙ flat-none (λ e. flat_map (λ i.
              Read ks (at (rest_of_open (renamed vs (app_pattern g ps)) e f ∷ fs) i.1) (T ++ (e ∷ i.0)))
              (searched sig (renamed vs (app_pattern g ps)) e s))
              (entries_for sig f (renamed vs (app_pattern g ps))) (λ e.
              flat-none (λ i. Read ks (at (rest_of_open (renamed vs (app_pattern g ps)) e f ∷ fs) i.1) (T ++ (e ∷ i.0)))
              (searched sig (renamed vs (app_pattern g ps)) e s)
              (λ i. d (rest_of_open (renamed vs (app_pattern g ps)) e f) i.1 (T ++ (e ∷ i.0)) refl refl))
          | false ↦
              ap (λ ls. Read (enter_token g ∷ ls) (at (f ∷ fs) s) T)
              (append_assoc (all_tokens sig vs ps) (leave_token g ∷ []) ks)
              ∙ read-enter g (all_tokens sig vs ps ++ (leave_token g ∷ ks)) f fs s T
              ∙ flat-none (λ e. Read (all_tokens sig vs ps ++ (leave_token g ∷ ks))
              (at (opened g e ∷ rest_of_open (app_pattern g no_patterns) e f ∷ fs) s) (T ++ (e ∷ [])))
              (entries_for sig f (app_pattern g no_patterns)) (λ e.
              dead-children ps (leave_token g ∷ ks) (opened g e) (rest_of_open (app_pattern g no_patterns) e f ∷ fs) s
              (T ++ (e ∷ [])) (λ h t U a b.
              read-leave g ks h (rest_of_open (app_pattern g no_patterns) e f ∷ fs) t U
              ∙ elim (is_done h.left h.owes) as
              (λ m. (if m then Read ks (at (rest_of_open (app_pattern g no_patterns) e f ∷ fs) t) U else [])
              ≡ []) [ true ↦ d (rest_of_open (app_pattern g no_patterns) e f) t U refl refl | false ↦ refl ]))
        ]

    dead-children : (ps : Patterns) (ks : List NetToken) (f : Open) (fs : List Open) (s : Subst) (T : Table)
        → Dead ks f fs → Read (all_tokens sig vs ps ++ ks) (at (f ∷ fs) s) T ≡ []
    dead-children no_patterns ks f fs s T d = d f s T refl refl
    dead-children (more_patterns p ps) ks f fs s T d =
        ap (λ ls. Read ls (at (f ∷ fs) s) T) (append_assoc (tokens sig vs p) (all_tokens sig vs ps) ks)
        ∙ dead-child p (all_tokens sig vs ps ++ ks) f fs s T
        (λ g t U a b. dead-children ps ks g fs t U (λ h r V i j. d h r V (i ∙ a) (j ∙ b)))

  -- a collapsed operation reads nothing where a child is a sequence
  dead-sequence : (ps : Patterns) (ks : List NetToken) (f : Open) (fs : List Open) (s : Subst) (T : Table)
      → f.collapsed ≡ true → no_sequence ps ≡ false → Read (all_tokens sig vs ps ++ ks) (at (f ∷ fs) s) T ≡ []
  dead-sequence no_patterns ks f fs s T e n = cc
  dead-sequence (more_patterns (symbol_pattern m) ps) ks f fs s T e n =
      ap (λ ls. Read ls (at (f ∷ fs) s) T) (append_assoc (tokens sig vs (symbol_pattern m)) (all_tokens sig vs ps) ks)
      ∙ dead-child (symbol_pattern m) (all_tokens sig vs ps ++ ks) f fs s T
      (λ g t U a b. dead-sequence ps ks g fs t U (b ∙ e) n)
  dead-sequence (more_patterns (app_pattern h qs) ps) ks f fs s T e n =
      ap (λ ls. Read ls (at (f ∷ fs) s) T) (append_assoc (tokens sig vs (app_pattern h qs)) (all_tokens sig vs ps) ks)
      ∙ dead-child (app_pattern h qs) (all_tokens sig vs ps ++ ks) f fs s T
      (λ g t U a b. dead-sequence ps ks g fs t U (b ∙ e) n)
  dead-sequence (more_patterns (wild_pattern w x) ps) ks f fs s T e n =
      by_test (is_sequence w) refl (λ m. dead-child (wild_pattern w x) (all_tokens sig vs ps ++ ks) f fs s T
      (λ g t U a b. dead-sequence ps ks g fs t U (b ∙ e) m))
    where
      by_test : (b : Bool) → is_sequence w ≡ b
          → (no_sequence ps ≡ false → Read (wild_token w (option_map (number_in vs) x) ∷ (all_tokens sig vs ps ++ ks))
          (at (f ∷ fs) s) T ≡ []) → Read (wild_token w (option_map (number_in vs) x) ∷ (all_tokens sig vs ps ++ ks))
          (at (f ∷ fs) s) T ≡ []
      by_test true q go = rw (e, q) refl
      by_test false q go = go (rw q at n)

-- the tables are those of the runs
module _ (steps : State → NetToken → List (List Entry × State)) where
  pub tables-kept : (ks : List NetToken) (s : State) (before : Table)
      → runs steps token_ends ks s before ≡ item_tables (runs_kept steps ks s before)
  tables-kept [] s before = elim (token_ends s) as
      (λ b. (if b then before ∷ [] else []) ≡ item_tables (if b then (before, s.trail) ∷ [] else [])) [
        | true ↦ refl
        | false ↦ refl
      ]
  tables-kept (k ∷ ks) s before =
      flat-same (λ r. runs steps token_ends ks r.1 (before ++ r.0))
      (λ r. item_tables (runs_kept steps ks r.1 (before ++ r.0))) (steps s k)
      (λ r. tables-kept ks r.1 (before ++ r.0))
      ∙ sym (map-flat (λ i. i.0) (λ r. runs_kept steps ks r.1 (before ++ r.0)) (steps s k))

-- two filters of one list, of which the stricter leaves out what gives nothing
flat-filters : {X Y : Type 0} (f g : X → List Y) (a b : X → Bool) (xs : List X) → ((x : X) → b x ≡ true → a x ≡ true)
    → ((x : X) → b x ≡ true → f x ≡ g x) → ((x : X) → a x ≡ true → b x ≡ false → f x ≡ [])
    → flat_map f (filter a xs) ≡ flat_map g (filter b xs)
flat-filters f g a b [] h k l = refl
flat-filters {X = X} {Y = Y} f g a b (x ∷ xs) h k l = by_tests (a x) (b x) refl refl (flat-filters f g a b xs h k l)
  where
    by_tests : (m n : Bool) → a x ≡ m → b x ≡ n → flat_map f (filter a xs) ≡ flat_map g (filter b xs)
        → flat_map f (if m then x ∷ filter a xs else filter a xs)
        ≡ flat_map g (if n then x ∷ filter b xs else filter b xs)
    by_tests true true p q e = ap (λ ys. ys ++ flat_map f (filter a xs)) (k x q) ∙ ap (λ ys. g x ++ ys) e
    by_tests true false p q e = ap (λ ys. ys ++ flat_map f (filter a xs)) (l x p q) ∙ e
    by_tests false true p q e = (let wrong : false ≡ true = sym p ∙ h x q in cc)
    by_tests false false p q e = e

-- renaming changes nothing about sequences
pub renamed-sequence : (vs : List (List ℕ)) (ps : Patterns) → no_sequence (all_renamed vs ps) ≡ no_sequence ps
renamed-sequence vs no_patterns = refl
renamed-sequence vs (more_patterns (symbol_pattern n) ps) = renamed-sequence vs ps
renamed-sequence vs (more_patterns (app_pattern g qs) ps) = renamed-sequence vs ps
renamed-sequence vs (more_patterns (wild_pattern w x) ps) = ap (λ b. not (is_sequence w) && b) (renamed-sequence vs ps)

module _ (sig : Sig) (vs : List (List ℕ)) where
  -- what the search of the theory lists
  abbrev pub Listed : ℕ → Next → Table → Subst → List Item
  Listed = derivations sig

  -- an open operation as a frame, with the children that are still to come
  abbrev pub framed : Open → Patterns → Frame
  framed f ps = record { under = f.under; children = all_renamed vs ps; left = f.left; owes = f.owes }

  -- one child, by what comes after it
  pub symbol-step : (n : List ℕ) (ks : List NetToken) (f : Open) (fs : List Open) (gs : List Frame) (ps : Patterns)
      (k : ℕ) (s : Subst) (T : Table)
      → ((e : Entry) → Read sig vs ks (at sig vs (rest_of_open (symbol_pattern n) e f ∷ fs) s) (T ++ (e ∷ []))
      ≡ Listed k (settle (framed (rest_of_open (symbol_pattern n) e f) ps ∷ gs)) (T ++ (e ∷ [])) s)
      → Read sig vs (sym_token n ∷ ks) (at sig vs (f ∷ fs) s) T
      ≡ Listed (suc k) (child (symbol_pattern n) (framed f ps) gs) T s
  symbol-step n ks f fs gs ps k s T h =
      flat-map (λ r. Read sig vs ks r.1 (T ++ r.0))
      (λ e. put sig vs (e ∷ []) (at sig vs (rest_of_open (symbol_pattern n) e f ∷ fs) s))
      (entries_for sig f (symbol_pattern n))
      ∙ flat-same (λ e. Read sig vs ks (at sig vs (rest_of_open (symbol_pattern n) e f ∷ fs) s) (T ++ (e ∷ [])))
      (λ e. Listed k (settle (framed (rest_of_open (symbol_pattern n) e f) ps ∷ gs)) (T ++ (e ∷ [])) s)
      (entries_for sig f (symbol_pattern n)) h

  -- a wildcard whose variable has a number, or none
  pub wild-numbered : (w : Wildcard) (y : Option ℕ) (ks : List NetToken) (f : Open) (fs : List Open) (gs : List Frame)
      (ps : Patterns) (k : ℕ) (s : Subst) (T : Table) → (f.collapsed && is_sequence w) ≡ false
      → ((e : Entry) (r : Subst) → Read sig vs ks
      (at sig vs (rest_of_open (wild_pattern w (option_map numbered y)) e f ∷ fs) r) (T ++ (e ∷ []))
      ≡ Listed k (settle (framed (rest_of_open (wild_pattern w (option_map numbered y)) e f) ps ∷ gs))
      (T ++ (e ∷ [])) r)
      → Read sig vs (wild_token w y ∷ ks) (at sig vs (f ∷ fs) s) T
      ≡ Listed (suc k) (child (wild_pattern w (option_map numbered y)) (framed f ps) gs) T s
  wild-numbered w y ks f fs gs ps k s T q h =
      let p : Pattern = wild_pattern w (option_map numbered y) in
      read-wild sig vs w y ks f fs s T q
      ∙ flat-same (After sig vs ks p f fs s T)
      (λ e. listed_by (λ r.
      derivations sig k (settle (framed (rest_of_open p e f) ps ∷ gs)) (T ++ (e ∷ [])) r)
      (solve sig s (said (child p (framed f ps) gs) e))) (entries_for sig f p) (λ e.
      ap (λ ts. listed_by (λ r. Read sig vs ks (at sig vs (rest_of_open p e f ∷ fs) r) (T ++ (e ∷ [])))
      (solve sig s ts)) (same_said w (option_map numbered y) f gs ps e)
      ∙ elim (solve sig s (said (child p (framed f ps) gs) e)) as
      (λ o. listed_by (λ r. Read sig vs ks (at sig vs (rest_of_open p e f ∷ fs) r) (T ++ (e ∷ []))) o
      ≡ listed_by (λ r. derivations sig k (settle (framed (rest_of_open p e f) ps ∷ gs))
      (T ++ (e ∷ [])) r) o) [ None ↦ refl | Some r ↦ h e r ])
    where
      same_said : (w : Wildcard) (x : Option (List ℕ)) (f : Open) (gs : List Frame) (ps : Patterns) (e : Entry)
          → said (child (wild_pattern w x) (record {
            under = f.under;
            children = no_patterns;
            left = f.left;
            owes =
                f.owes;
          }) []) e ≡ said (child (wild_pattern w x) (framed f ps) gs) e
      same_said w None f gs ps e = refl
      same_said w (Some x) f gs ps e = refl

  -- the entry of an application that is not collapsed, or whose children are no sequences
  pub app-step : (g : ℕ) (qs : Patterns) (ks : List NetToken) (f : Open) (fs : List Open) (gs : List Frame)
      (ps : Patterns) (k : ℕ) (s : Subst) (T : Table)
      → ((e : Entry) → (e.collapsed ≡ true → no_sequence qs ≡ true)
      → Read sig vs (all_tokens sig vs qs ++ (leave_token g ∷ ks))
      (at sig vs (opened g e ∷ rest_of_open (app_pattern g no_patterns) e f ∷ fs) s) (T ++ (e ∷ []))
      ≡ Listed k (settle (framed (opened g e) qs ∷ framed (rest_of_open (app_pattern g no_patterns) e f) ps ∷ gs))
      (T ++ (e ∷ [])) s)
      → Read sig vs (enter_token g ∷ (all_tokens sig vs qs ++ (leave_token g ∷ ks))) (at sig vs (f ∷ fs) s) T
      ≡ Listed (suc k) (child (app_pattern g (all_renamed vs qs)) (framed f ps) gs) T s
  app-step g qs ks f fs gs ps k s T h =
      let rest : Entry → Open = λ e. rest_of_open (app_pattern g no_patterns) e f in
      let F : Entry → List Item = λ e. Read sig vs (all_tokens sig vs qs ++ (leave_token g ∷ ks))
      (at sig vs (opened g e ∷ rest_of_open (app_pattern g no_patterns) e f ∷ fs) s) (T ++ (e ∷ [])) in
      let G : Entry → List Item = λ e. Listed k
      (settle (framed (opened g e) qs ∷ framed (rest_of_open (app_pattern g no_patterns) e f) ps ∷ gs))
      (T ++ (e ∷ [])) s in
      let xs : List Entry = entries (pieces tree_cmp (comm_above sig f.under) f.left) in
      read-enter sig vs g (all_tokens sig vs qs ++ (leave_token g ∷ ks)) f fs s T
      ∙ flat-filters F G (reads sig (app_pattern g no_patterns) f.under)
      (reads sig (app_pattern g (all_renamed vs qs)) f.under) xs (looser f.under)
      (λ e b. h e (λ m. plain_children f.under e m b))
      (λ e a b. dead-sequence sig vs qs (leave_token g ∷ ks) (opened g e)
      (rest_of_open (app_pattern g no_patterns) e f ∷ fs) s (T ++ (e ∷ [])) (is_collapsed f.under e a b).0
      (is_collapsed f.under e a b).1)
    where
      looser : (u : Option ℕ) (e : Entry) → reads sig (app_pattern g (all_renamed vs qs)) u e ≡ true
          → reads sig (app_pattern g no_patterns) u e ≡ true
      looser u e b = elim e.collapsed as (λ m.
          (if m then is_single e.terms && (is_one sig g && no_sequence (all_renamed vs qs)) else is_headed g e.terms)
          ≡ true → (if m then is_single e.terms && (is_one sig g && true) else is_headed g e.terms) ≡ true) [
            | true ↦ λ h. let a = and_parts (is_single e.terms)
                (is_one sig g && no_sequence (all_renamed vs qs)) h in and_from _ _ a.0
                (and_from _ _ (and_parts (is_one sig g) (no_sequence (all_renamed vs qs)) a.1).0 refl)
            | false ↦ λ h. h
          ] b

      plain_children : (u : Option ℕ) (e : Entry) → e.collapsed ≡ true
          → reads sig (app_pattern g (all_renamed vs qs)) u e ≡ true → no_sequence qs ≡ true
      plain_children u e m b =
          let h : (is_single e.terms && (is_one sig g && no_sequence (all_renamed vs qs))) ≡ true = rw m at b in
          sym (renamed-sequence vs qs) ∙ (and_parts (is_one sig g) (no_sequence (all_renamed vs qs))
          (and_parts (is_single e.terms) (is_one sig g && no_sequence (all_renamed vs qs)) h).1).1

      is_collapsed : (u : Option ℕ) (e : Entry) → reads sig (app_pattern g no_patterns) u e ≡ true
          → reads sig (app_pattern g (all_renamed vs qs)) u e ≡ false → (e.collapsed ≡ true) × (no_sequence qs ≡ false)
      is_collapsed u e a b = by_mark e.collapsed refl a b
        where
          by_mark : (m : Bool) → e.collapsed ≡ m
              → (if m then is_single e.terms && (is_one sig g && true) else is_headed g e.terms) ≡ true
              → (if m then is_single e.terms &&
              (is_one sig g && no_sequence (all_renamed vs qs)) else is_headed g e.terms) ≡ false
              → (e.collapsed ≡ true) × (no_sequence qs ≡ false)
          by_mark false p a b = (let wrong : false ≡ true = sym b ∙ a in cc)
          by_mark true p a b =
              let k = and_parts (is_single e.terms) (is_one sig g && true) a in
              let i = and_parts (is_one sig g) true k.1 in
              let z : no_sequence (all_renamed vs qs) ≡ false = rw (k.0, i.0) at b in
              (p, sym (renamed-sequence vs qs) ∙ z)
