-- Takes in preorder: a table is read entry by entry, over a stack of what is still to be taken.
use Rattle.std.proofs.Common.{◌≡◌, ℕ, Bool, subst, List, [], ◌∷◌, ◌++◌, true, false, refl, inl, inr, ◌⊎◌, sym, ◌∙◌, ap}
use Rattle.std.proofs.Common.{append_assoc, append-nil, ◌&&◌, not}
use Rattle.std.specs.Prelude.{None, Some, Option, ◌||◌, if◌then◌else◌}
use Rattle.std.proofs.lemmas.Bool.{not-false}
use Rattle.mp_term.specs.Tree.{Tree, symbol, app, trees}
use Rattle.mp_term.specs.Order.{tree_cmp}
use Rattle.mp_term.specs.OrderLaws.{tree_cmp_total, tree_same}
use Rattle.mp_term.proofs.Sorting.{sorted-append_sorted, sorted-single}
use mathlib.Core.Bool.{true≢false}
use Rattle.mp_term.specs.Sorting.{sorted}
use Rattle.mp_term.specs.Signature.{Sig, is_one}
use Rattle.mp_pattern.specs.PatternTree.{Wildcard, Pattern, symbol_pattern, app_pattern, wild_pattern, Patterns}
use Rattle.mp_pattern.specs.PatternTree.{no_patterns, more_patterns}
use Rattle.mp_theory.specs.Frames.{Frame, Next, ended, refused, child, settle, start}
use Rattle.mp_pattern.specs.Variables.{comm_above}
use Rattle.mp_pattern.specs.Fits.{Entry, Table, joined, is_left_out, some_left_out, no_sequence, arranged, TakesBy}
use Rattle.mp_pattern.specs.Fits.{AllTakeBy}

-- a child that is left out, or a later one
split_not : (a b c : Bool) → (a && not (b || c)) ≡ ((a && not b) && not c)
split_not true true c = refl
split_not true false c = refl
split_not false b c = refl

-- `line` says what a wildcard takes
module _ (sig : Sig) (line : Option ℕ → Wildcard → Option (List ℕ) → List Tree → Type 0) where
  -- the entry obeys the line of the pattern, and k holds of the frames that are left
  abbrev pub Line : Pattern → Option ℕ → Entry → List Frame → (List Frame → Type 0) → Type 0
  Line (symbol_pattern n) f e fs k = (e ≡ record { terms = symbol n ∷ []; collapsed = false }) × k fs
  Line (wild_pattern w x) f e fs k = line f w x e.terms × (e.collapsed ≡ false) × k fs
  Line (app_pattern g ps) f e fs k =
      ((args : List Tree) × (e ≡ record { terms = app g (trees args) ∷ []; collapsed = false })
      × k (record { under = Some g; children = ps; left = args; owes = false } ∷ fs))
      ⊎ ((t : Tree) × (e ≡ record { terms = t ∷ []; collapsed = true }) × (is_one sig g ≡ true)
      × (no_sequence ps ≡ true) × k (record { under = Some g; children = ps; left = t ∷ []; owes = true } ∷ fs))

  -- the list is taken out of what is left, and the rest is in order
  pub record IsCut (f : Option ℕ) (left list rest : List Tree) : Type 0 where
    pub together : arranged sig f (list ++ rest) ≡ left
    pub in_order : arranged sig f rest ≡ rest

  -- the next entry obeys the line of the child that comes next
  abbrev pub Step : Next → Entry → (List Frame → Type 0) → Type 0
  Step ended e k = ⊥
  Step refused e k = ⊥
  Step (child p f fs) e k = (rest : List Tree) × IsCut f.under f.left e.terms rest
      × Line p f.under e
      (record { under = f.under; children = f.children; left = rest; owes = f.owes && not (is_left_out p e.terms) }
      ∷ fs) k

  -- the table is what the frames still take, entry by entry
  abbrev pub Run : List Frame → Table → Type 0
  Run fs [] = settle fs ≡ ended
  Run fs (e ∷ T) = Step (settle fs) e (λ gs. Run gs T)

  -- a run depends on where the frames settle
  run_by_settle : (fs gs : List Frame) (T : Table) → settle fs ≡ settle gs → Run gs T → Run fs T
  run_by_settle fs gs [] e h = e ∙ h
  run_by_settle fs gs (x ∷ T) e h = subst (λ n. Step n x (λ hs. Run hs T)) (sym e) h

  no_run : (fs : List Frame) (T : Table) → settle fs ≡ refused → Run fs T → ⊥
  no_run fs [] e h = let q : refused ≡ ended = sym e ∙ h in cc
  no_run fs (x ∷ T) e h = subst (λ n. Step n x (λ gs. Run gs T)) e h

  -- lists of no term or one are in order
  arranged_none : (f : Option ℕ) → arranged sig f [] ≡ []
  arranged_none f = elim (comm_above sig f) as (λ v. (if v then sorted tree_cmp [] else []) ≡ [])
      [ true ↦ refl | false ↦ refl ]

  arranged_one : (f : Option ℕ) (t : Tree) → arranged sig f (t ∷ []) ≡ t ∷ []
  arranged_one f t = elim (comm_above sig f) as (λ v. (if v then sorted tree_cmp (t ∷ []) else (t ∷ [])) ≡ t ∷ [])
      [ true ↦ refl | false ↦ refl ]

  from_arranged_one : (f : Option ℕ) (l : List Tree) (t : Tree) → arranged sig f l ≡ t ∷ [] → l ≡ t ∷ []
  from_arranged_one f l t =
      elim (comm_above sig f) as (λ v. (if v then sorted tree_cmp l else l) ≡ t ∷ [] → l ≡ t ∷ [])
      [ true ↦ sorted-single tree_cmp l t | false ↦ λ e. e ]

  -- a part that is put in order first changes nothing
  arranged_again : (f : Option ℕ) (l m : List Tree) → arranged sig f (l ++ arranged sig f m) ≡ arranged sig f (l ++ m)
  arranged_again f l m =
      elim (comm_above sig f) as
      (λ v. (if v then sorted tree_cmp (l ++ (if v then sorted tree_cmp m else m)) else
      (l ++ (if v then sorted tree_cmp m else m))) ≡ (if v then sorted tree_cmp (l ++ m) else (l ++ m))) [
        | true ↦ sorted-append_sorted tree_cmp tree_cmp_total tree_same l m
        | false ↦ refl
      ]

  -- the entry by arguments, and a frame
  abbrev leaf : List Tree → Entry
  leaf l = record { terms = l; collapsed = false }

  abbrev frame : Option ℕ → Patterns → List Tree → Bool → Frame
  frame f ps l b = record { under = f; children = ps; left = l; owes = b }

  mutual
    -- a child that takes l with the table T, and then what is left
    pub forward : (p : Pattern) (f : Option ℕ) (l : List Tree) (T : Table) → TakesBy sig line f p l T
        → (ps : Patterns) (left rest : List Tree) (owes : Bool) (fs : List Frame) (U : Table) → IsCut f left l rest
        → Run (frame f ps rest (owes && not (is_left_out p l)) ∷ fs) U
        → Run (frame f (more_patterns p ps) left owes ∷ fs) (T ++ U)
    forward (symbol_pattern n) f l T h ps left rest owes fs U a k =
        subst (λ V. Run (frame f (more_patterns (symbol_pattern n) ps) left owes ∷ fs) (V ++ U)) (sym h.1)
        (rest, a, (ap leaf h.0, k))
    forward (wild_pattern w x) f l T h ps left rest owes fs U a k =
        subst (λ V. Run (frame f (more_patterns (wild_pattern w x) ps) left owes ∷ fs) (V ++ U)) (sym h.1)
        (rest, a, (h.0, refl, k))
    forward (app_pattern g qs) f l T (inl h) ps left rest owes fs U a k =
        subst (λ V. Run (frame f (more_patterns (app_pattern g qs) ps) left owes ∷ fs) (V ++ U)) (sym h.table) (
          rest,
          a,
          inl (
            arranged sig (Some g) (joined h.takes),
            ap leaf h.node,
            forward_all qs g h.takes h.tables h.children false (frame f ps rest (owes && not false) ∷ fs) U refl k,
          ),
        )
    forward (app_pattern g qs) f l T (inr h) ps left rest owes fs U a k =
        subst (λ V. Run (frame f (more_patterns (app_pattern g qs) ps) left owes ∷ fs) (V ++ U)) (sym h.table) (
          rest,
          a,
          inr (
            h.term,
            ap (λ m. record { terms = m; collapsed = true }) h.node,
            h.identity,
            h.plain,
            subst (λ m. Run (frame (Some g) qs m true ∷ frame f ps rest (owes && not false) ∷ fs)
                (joined h.tables ++ U)) (ap (arranged sig (Some g)) h.together ∙ arranged_one (Some g) h.term)
                (forward_all qs g h.takes h.tables h.children true (frame f ps rest (owes && not false) ∷ fs) U
                (ap not h.left_out) k),
          ),
        )

    -- the children of g, each with its list, and then what comes after g
    pub forward_all : (qs : Patterns) (g : ℕ) (ls : List (List Tree)) (Ts : List Table) → AllTakeBy sig line g qs ls Ts
        → (owes : Bool) (fs : List Frame) (U : Table) → (owes && not (some_left_out qs ls)) ≡ false → Run fs U
        → Run (frame (Some g) qs (arranged sig (Some g) (joined ls)) owes ∷ fs) (joined Ts ++ U)
    forward_all no_patterns g [] [] h true fs U c k = let e : true ≡ false = c in absurd (true≢false e)
    forward_all no_patterns g [] [] h false fs U c k =
        run_by_settle (frame (Some g) no_patterns (arranged sig (Some g) []) false ∷ fs) fs U
        (rw (arranged_none (Some g)) refl) k
    forward_all no_patterns g [] (T ∷ Ts) h owes fs U c k = absurd h
    forward_all no_patterns g (l ∷ ls) Ts h owes fs U c k = absurd h
    forward_all (more_patterns q qs) g [] Ts h owes fs U c k = absurd h
    forward_all (more_patterns q qs) g (l ∷ ls) [] h owes fs U c k = absurd h
    forward_all (more_patterns q qs) g (l ∷ ls) (T ∷ Ts) h owes fs U c k =
        rw (append_assoc T (joined Ts) U)
        (forward q (Some g) l T h.0 qs (arranged sig (Some g) (joined (l ∷ ls)))
        (arranged sig (Some g) (joined ls)) owes fs (joined Ts ++ U)
        (record {
          together = arranged_again (Some g) l (joined ls);
          in_order = arranged_again (Some g) [] (joined ls);
        })
        (forward_all qs g ls Ts h.1 (owes && not (is_left_out q l)) fs U
        (sym (split_not owes (is_left_out q l) (some_left_out qs ls)) ∙ c) k))

  -- a child that was read
  pub record Read (p : Pattern) (f : Option ℕ) (ps : Patterns) (left : List Tree) (owes : Bool) (fs : List Frame)
      (T : Table) : Type 0 where
    pub list : List Tree
    pub rest : List Tree
    pub mine : Table
    pub after : Table
    pub takes : TakesBy sig line f p list mine
    pub cut : IsCut f left list rest
    pub table : T ≡ mine ++ after
    pub go : Run (frame f ps rest (owes && not (is_left_out p list)) ∷ fs) after

  -- the children of g that were read
  pub record ReadAll (qs : Patterns) (g : ℕ) (left : List Tree) (owes : Bool) (fs : List Frame)
      (T : Table) : Type 0 where
    pub lists : List (List Tree)
    pub tables : List Table
    pub after : Table
    pub takes : AllTakeBy sig line g qs lists tables
    pub together : arranged sig (Some g) (joined lists) ≡ left
    pub owed : (owes && not (some_left_out qs lists)) ≡ false
    pub table : T ≡ joined tables ++ after
    pub go : Run fs after

  -- an application whose children were read, by arguments and collapsed
  read_by_arguments : (g : ℕ) (qs : Patterns) (f : Option ℕ) (ps : Patterns) (left : List Tree) (owes : Bool)
      (fs : List Frame) (e : Entry) (U : Table) (rest : List Tree) → IsCut f left e.terms rest
      → (args : List Tree) → e ≡ leaf (app g (trees args) ∷ [])
      → ReadAll qs g args false (frame f ps rest (owes && not false) ∷ fs) U
      → Read (app_pattern g qs) f ps left owes fs (e ∷ U)
  read_by_arguments g qs f ps left owes fs e U rest a args q r = record {
    list = e.terms;
    rest = rest;
    mine = e ∷ joined r.tables;
    after = r.after;
    takes = inl (record {
      takes = r.lists;
      tables = r.tables;
      children = r.takes;
      node = ap (λ d. d.terms) q ∙ ap (λ m. app g (trees m) ∷ []) (sym r.together);
      table = ap (λ d. d ∷ joined r.tables) (q ∙ ap leaf (sym (ap (λ d. d.terms) q)));
    });
    cut = a;
    table = ap (λ V. e ∷ V) r.table;
    go = r.go;
  }

  read_collapsed : (g : ℕ) (qs : Patterns) (f : Option ℕ) (ps : Patterns) (left : List Tree) (owes : Bool)
      (fs : List Frame) (e : Entry) (U : Table) (rest : List Tree) → IsCut f left e.terms rest
      → (t : Tree) → e ≡ record { terms = t ∷ []; collapsed = true } → is_one sig g ≡ true → no_sequence qs ≡ true
      → ReadAll qs g (t ∷ []) true (frame f ps rest (owes && not false) ∷ fs) U
      → Read (app_pattern g qs) f ps left owes fs (e ∷ U)
  read_collapsed g qs f ps left owes fs e U rest a t q one none r = record {
    list = e.terms;
    rest = rest;
    mine = e ∷ joined r.tables;
    after = r.after;
    takes = inr (record {
      takes = r.lists;
      tables = r.tables;
      children = r.takes;
      identity = one;
      plain = none;
      left_out = not-false (some_left_out qs r.lists) r.owed;
      term = t;
      node = ap (λ d. d.terms) q;
      together = from_arranged_one (Some g) (joined r.lists) t r.together;
      table = ap (λ d. d ∷ joined r.tables) (q
          ∙ ap (λ m. record { terms = m; collapsed = true }) (sym (ap (λ d. d.terms) q)));
    });
    cut = a;
    table = ap (λ V. e ∷ V) r.table;
    go = r.go;
  }

  mutual
    -- a child is read off a run, and then what is left
    pub backward : (p : Pattern) (f : Option ℕ) (ps : Patterns) (left : List Tree) (owes : Bool) (fs : List Frame)
        (T : Table) → Run (frame f (more_patterns p ps) left owes ∷ fs) T → Read p f ps left owes fs T
    backward (symbol_pattern n) f ps left owes fs [] h =
        let q : child (symbol_pattern n) (frame f ps left owes) fs ≡ ended = h in absurd (cc)
    backward (symbol_pattern n) f ps left owes fs (e ∷ U) h = record {
      list = e.terms;
      rest = h.0;
      mine = e ∷ [];
      after = U;
      takes = (ap (λ d. d.terms) h.2.0, ap (λ d. d ∷ []) (h.2.0 ∙ ap leaf (sym (ap (λ d. d.terms) h.2.0))));
      cut = h.1;
      table = refl;
      go = h.2.1;
    }
    backward (wild_pattern w x) f ps left owes fs [] h =
        let q : child (wild_pattern w x) (frame f ps left owes) fs ≡ ended = h in absurd (cc)
    backward (wild_pattern w x) f ps left owes fs (e ∷ U) h = record {
      list = e.terms;
      rest = h.0;
      mine = e ∷ [];
      after = U;
      takes = (h.2.0, ap (λ b. record { terms = e.terms; collapsed = b } ∷ []) h.2.1);
      cut = h.1;
      table = refl;
      go = h.2.2;
    }
    backward (app_pattern g qs) f ps left owes fs [] h =
        let q : child (app_pattern g qs) (frame f ps left owes) fs ≡ ended = h in absurd (cc)
    backward (app_pattern g qs) f ps left owes fs (e ∷ U) h =
        elim h.2 [
          | inl k ↦ read_by_arguments g qs f ps left owes fs e U h.0 h.1 k.0 k.1
              (backward_all qs g k.0 false (frame f ps h.0 (owes && not false) ∷ fs) U k.2)
          | inr k ↦ read_collapsed g qs f ps left owes fs e U h.0 h.1 k.0 k.1 k.2 k.3
              (backward_all qs g (k.0 ∷ []) true (frame f ps h.0 (owes && not false) ∷ fs) U k.4)
        ]

    -- the children of g, and then what comes after g
    pub backward_all : (qs : Patterns) (g : ℕ) (left : List Tree) (owes : Bool) (fs : List Frame) (T : Table)
        → Run (frame (Some g) qs left owes ∷ fs) T → ReadAll qs g left owes fs T
    backward_all no_patterns g [] false fs T h =
        record {
          lists = [];
          tables = [];
          after = T;
          takes = tt;
          together = arranged_none (Some g);
          owed = refl;
          table = refl;
          go = run_by_settle fs (frame (Some g) no_patterns [] false ∷ fs) T refl h;
        }
    backward_all no_patterns g [] true fs T h = absurd (no_run (frame (Some g) no_patterns [] true ∷ fs) T refl h)
    backward_all no_patterns g (t ∷ ts) owes fs T h =
        absurd (no_run (frame (Some g) no_patterns (t ∷ ts) owes ∷ fs) T refl h)
    backward_all (more_patterns q qs) g left owes fs T h =
        let r = backward q (Some g) qs left owes fs T h in
        let i = backward_all qs g r.rest (owes && not (is_left_out q r.list)) fs r.after r.go in
        record {
          lists = r.list ∷ i.lists;
          tables = r.mine ∷ i.tables;
          after = i.after;
          takes = (r.takes, i.takes);
          together = sym (arranged_again (Some g) r.list (joined i.lists))
              ∙ ap (λ m. arranged sig (Some g) (r.list ++ m)) i.together ∙ r.cut.together;
          owed = split_not owes (is_left_out q r.list) (some_left_out qs i.lists) ∙ i.owed;
          table = r.table ∙ ap (λ V. r.mine ++ V) i.table ∙ sym (append_assoc r.mine (joined i.tables) i.after);
          go = i.go;
        }

  -- nothing is left at the end
  at_end : (l : List Tree) (b : Bool) (U : Table) → Run (frame None no_patterns l b ∷ []) U → (l ≡ []) × (U ≡ [])
  at_end [] false [] h = (refl, refl)
  at_end [] false (e ∷ U) h = absurd h
  at_end [] true U h = absurd (no_run (frame None no_patterns [] true ∷ []) U refl h)
  at_end (t ∷ ts) b U h = absurd (no_run (frame None no_patterns (t ∷ ts) b ∷ []) U refl h)

  -- so the pattern takes the subject with the table exactly where the table is a run from the start
  pub run-takes : (p : Pattern) (t : Tree) (T : Table) → TakesBy sig line None p (t ∷ []) T → Run (start p t) T
  run-takes p t T h =
      subst (Run (start p t)) (append-nil T)
      (forward p None (t ∷ []) T h no_patterns (t ∷ []) [] false [] []
      (record { together = refl; in_order = refl }) refl)

  pub takes-run : (p : Pattern) (t : Tree) (T : Table) → Run (start p t) T → TakesBy sig line None p (t ∷ []) T
  takes-run p t T h =
      let r = backward p None no_patterns (t ∷ []) false [] T h in
      let z = at_end r.rest (false && not (is_left_out p r.list)) r.after r.go in
      let a : r.list ≡ t ∷ [] = sym (append-nil r.list) ∙ ap (λ m. r.list ++ m) (sym z.0) ∙ r.cut.together in
      let b : r.mine ≡ T = sym (append-nil r.mine) ∙ ap (λ V. r.mine ++ V) (sym z.1) ∙ sym r.table in
      subst (λ l. TakesBy sig line None p l T) a (subst (λ V. TakesBy sig line None p r.list V) b r.takes)
