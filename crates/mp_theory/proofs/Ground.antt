-- A pattern without wildcards takes its own term only.
use Rattle.std.proofs.Common.{◌≡◌, ℕ, List, [], ◌∷◌, ◌++◌, true, false, refl, ap, sym, ◌∙◌, inl, inr}
use Rattle.std.specs.Prelude.{Option, Some, ⊤}
use Rattle.std.specs.List.{AllByRecursion}
use Rattle.std.proofs.lemmas.Bool.{and_parts}
use Rattle.mp_term.specs.Tree.{Tree, app, trees}
use Rattle.mp_term.specs.Signature.{Sig}
use Rattle.mp_pattern.specs.PatternTree.{Wildcard, Pattern, symbol_pattern, app_pattern, wild_pattern, Patterns}
use Rattle.mp_pattern.specs.PatternTree.{no_patterns, more_patterns}
use Rattle.mp_pattern.specs.Order.{is_ground, all_ground}
use Rattle.mp_pattern.specs.Fits.{Entry, Table, joined, some_left_out, arranged, TakesBy, AllTakeBy}
use Rattle.mp_theory.specs.Solve.{Taken}
use Rattle.mp_theory.specs.Frames.{Frame, child}
use Rattle.mp_theory.proofs.Agenda.{backward}
use Rattle.mp_term.specs.Search.{Accepts}
use Rattle.mp_theory.specs.Machine.{is_ended, onward, takes, choices}
use Rattle.mp_theory.specs.Bounds.{ground_tree, ground_trees}
use Rattle.mp_theory.proofs.Walk.{IsFineAt, at_run, walked}

-- no ground child is left out
none_left_out : (ps : Patterns) (ls : List (List Tree)) → all_ground ps ≡ true → some_left_out ps ls ≡ false
none_left_out no_patterns ls g = refl
none_left_out (more_patterns p ps) [] g = refl
none_left_out (more_patterns (symbol_pattern n) ps) (l ∷ ls) g = none_left_out ps ls g
none_left_out (more_patterns (app_pattern f qs) ps) (l ∷ ls) g =
    none_left_out ps ls (and_parts (all_ground qs) (all_ground ps) g).1
none_left_out (more_patterns (wild_pattern w x) ps) (l ∷ ls) g = cc

-- the list of the first entry
abbrev first_terms : Table → List Tree
first_terms [] = []
first_terms (e ∷ T) = e.terms

module _ (sig : Sig) (line : Option ℕ → Wildcard → Option (List ℕ) → List Tree → Type 0) where
  mutual
    -- what a ground pattern takes is its own term
    pub ground_takes : (p : Pattern) (f : Option ℕ) (l : List Tree) (T : Table) → is_ground p ≡ true
        → TakesBy sig line f p l T → l ≡ ground_tree sig p ∷ []
    ground_takes (symbol_pattern n) f l T g h = h.0
    ground_takes (wild_pattern w x) f l T g h = cc
    ground_takes (app_pattern k ps) f l T g (inl h) =
        h.node ∙ ap (λ ts. app k (trees (arranged sig (Some k) ts)) ∷ [])
        (all_ground_take ps k h.takes h.tables g h.children)
    ground_takes (app_pattern k ps) f l T g (inr h) = let e : true ≡ false =
        sym h.left_out ∙ none_left_out ps h.takes g in cc

    all_ground_take : (ps : Patterns) (k : ℕ) (ls : List (List Tree)) (Ts : List Table) → all_ground ps ≡ true
        → AllTakeBy sig line k ps ls Ts → joined ls ≡ ground_trees sig ps
    all_ground_take no_patterns k [] [] g h = refl
    all_ground_take no_patterns k [] (T ∷ Ts) g h = absurd h
    all_ground_take no_patterns k (l ∷ ls) Ts g h = absurd h
    all_ground_take (more_patterns p ps) k [] Ts g h = absurd h
    all_ground_take (more_patterns p ps) k (l ∷ ls) [] g h = absurd h
    all_ground_take (more_patterns p ps) k (l ∷ ls) (T ∷ Ts) g h =
        let b = and_parts (is_ground p) (all_ground ps) g in
        ap (λ m. m ++ joined ls) (ground_takes p (Some k) l T b.0 h.0)
        ∙ ap (λ ts. ground_tree sig p ∷ ts) (all_ground_take ps k ls Ts b.1 h.1)

  -- what a node takes stands in its first entry
  first_entry : (p : Pattern) (f : Option ℕ) (l : List Tree) (T U : Table) → TakesBy sig line f p l T
      → first_terms (T ++ U) ≡ l
  first_entry (symbol_pattern n) f l T U h = ap (λ V. first_terms (V ++ U)) h.1
  first_entry (wild_pattern w x) f l T U h = ap (λ V. first_terms (V ++ U)) h.1
  first_entry (app_pattern g ps) f l T U (inl h) = ap (λ V. first_terms (V ++ U)) h.table
  first_entry (app_pattern g ps) f l T U (inr h) = ap (λ V. first_terms (V ++ U)) h.table

module _ (sig : Sig) where
  -- a line that says nothing
  abbrev Any : Option ℕ → Wildcard → Option (List ℕ) → List Tree → Type 0
  Any f w x l = ⊤

  nothing_said : (ts : List Taken) → AllByRecursion (λ t. ⊤) ts
  nothing_said [] = tt
  nothing_said (t ∷ ts) = (tt, nothing_said ts)

  -- a ground node that goes on to a table has taken its own term
  pub ground-own : (p : Pattern) (f : Frame) (fs : List Frame) (e : Entry) (T : Table) → is_ground p ≡ true
      → IsFineAt sig (child p f fs) → Accepts (choices sig) onward is_ended (child p f fs) (e ∷ T)
      → e.terms ≡ ground_tree sig p ∷ []
  ground-own p f fs e T g s a =
      let run = walked sig Any (λ t. ⊤) (λ w x h hs d i r o. tt) (child p f fs) (e ∷ T) s a
      (nothing_said (takes (child p f fs) (e ∷ T))) in
      let r = backward sig Any p f.under f.children f.left f.owes fs (e ∷ T)
      (at_run sig Any
      (record { under = f.under; children = more_patterns p f.children; left = f.left; owes = f.owes } ∷ fs)
      (e ∷ T) run) in
      ap first_terms r.table ∙ first_entry sig Any p f.under r.list r.mine r.after r.takes
      ∙ ground_takes sig Any p f.under r.list r.mine g r.takes
