-- A walk with the values of a substitution is a walk of the search whose takes the substitution obeys.
use Rattle.std.proofs.Common.{◌≡◌, ℕ, List, [], ◌∷◌, Bool, true, false, ◌&&◌, not, refl, ap, sym, ◌∙◌, inl, inr, subst}
use Rattle.std.proofs.Common.{eqb-true, eq-eqb, arith}
use Rattle.std.specs.Prelude.{Option, Some, None, is_some, ◌↔◌, if◌then◌else◌, ⊤}
use Rattle.std.specs.List.{AllByRecursion}
use Rattle.std.proofs.lemmas.Bool.{and_parts, and_from}
use Rattle.mp_term.specs.Order.{tree_cmp}
use Rattle.mp_term.specs.OrderLaws.{tree_cmp_total, tree_same}
use Rattle.mp_term.specs.Tree.{Tree, symbol, app, Trees, tree_list, trees, no_trees, more_trees}
use Rattle.mp_term.specs.TreeLists.{trees-tree_list, tree_list-trees}
use Rattle.mp_term.specs.Signature.{Sig, is_comm, is_one}
use Rattle.mp_term.specs.NormalTest.{is_single, ascending, passes, all_pass}
use Rattle.mp_term.proofs.ListLaws.{all-append, all-split}
use Rattle.mp_pattern.specs.PatternTree.{Wildcard, Pattern, symbol_pattern, app_pattern, wild_pattern, Patterns}
use Rattle.mp_pattern.specs.PatternTree.{no_patterns, more_patterns}
use Rattle.mp_pattern.specs.Value.{Value, IsFinal, Subst, value_of}
use Rattle.mp_pattern.specs.Variables.{comm_above}
use Rattle.mp_pattern.specs.Fits.{Entry, Table, is_left_out, no_sequence, ByValue}
use Rattle.mp_theory.specs.Solve.{Taken, is_alone, given}
use Rattle.mp_theory.specs.Frames.{Frame, Next, ended, refused, child, is_done, settle}
use Rattle.mp_theory.proofs.Agenda.{Step, Run, IsCut}
use Rattle.mp_theory.proofs.Merging.{same_terms-sound, same_terms-complete}
use Rattle.mp_theory.proofs.SolveLaws.{Obeys}
use Rattle.mp_term.specs.Search.{In, Accepts}
use Rattle.mp_term.specs.Pieces.{without, pieces, is_piece}
use Rattle.mp_theory.specs.Machine.{entries, default_passes, is_ended, entered, taken_out, onward, said, takes, reads}
use Rattle.mp_theory.specs.Machine.{choices}
use Rattle.mp_term.proofs.SearchLaws.{in-flat, from_in-flat, in-filter, from_in-filter}
use Rattle.mp_term.proofs.PiecesLaws.{sublist-from_piece, length-without, all-piece, all-without, pieces-exact}
use Rattle.mp_theory.proofs.Cuts.{put, piece-from_apart, apart-from_piece}
use Rattle.mp_theory.proofs.Wildcards.{put-single, arguments-in_order, Gives, gives, takes-given, IsFine, taken-passes}
use Rattle.mp_theory.proofs.Wildcards.{unnamed-gives, unnamed-takes}

-- the entry of the list, by arguments or collapsed
abbrev entry : List Tree → Bool → Entry
entry l c = record { terms = l; collapsed = c }

-- the entries of the lists
pub in-entries : (l : List Tree) (c : Bool) (ls : List (List Tree)) → In l ls → In (entry l c) (entries ls)
in-entries l c ls h = in-flat (λ m. entry m false ∷ entry m true ∷ []) l (entry l c) ls h
    (elim c as (λ b. In (entry l b) (entry l false ∷ entry l true ∷ [])) [ true ↦ inr (inl refl) | false ↦ inl refl ])

pub from_in-entries : (e : Entry) (ls : List (List Tree)) → In e (entries ls) → In e.terms ls
from_in-entries e ls h =
    let r = from_in-flat (λ m. entry m false ∷ entry m true ∷ []) e ls h in
    let q : e.terms ≡ r.0 =
    elim r.2 [ inl i ↦ ap (λ d. d.terms) i | inr i ↦ elim i [ inl j ↦ ap (λ d. d.terms) j | inr j ↦ absurd j ] ] in
    subst (λ m. In m ls) (sym q) r.1

module _ (sig : Sig) where
  -- the choices are exactly the pieces that the node may read
  pub choices-exact : (p : Pattern) (f : Frame) (fs : List Frame) (l : List Tree) (c : Bool)
      → In (entry l c) (choices sig (child p f fs))
      ↔ ((is_piece tree_cmp (comm_above sig f.under) l f.left ≡ true) × (reads sig p f.under (entry l c) ≡ true))
  choices-exact p f fs l c = (
    λ h.
        let r = from_in-filter (reads sig p f.under) (entry l c)
        (entries (pieces tree_cmp (comm_above sig f.under) f.left)) h in (
          (pieces-exact tree_cmp tree_cmp_total tree_same (comm_above sig f.under) l f.left).0
              (from_in-entries (entry l c) (pieces tree_cmp (comm_above sig f.under) f.left) r.0),
          r.1,
        ),
    λ h. in-filter (reads sig p f.under) (entry l c) (entries (pieces tree_cmp (comm_above sig f.under) f.left))
        (in-entries l c (pieces tree_cmp (comm_above sig f.under) f.left)
        ((pieces-exact tree_cmp tree_cmp_total tree_same (comm_above sig f.under) l f.left).1 h.0)) h.1,
  )

  -- what is left to the frame is fine
  abbrev pub IsFineFrame : Frame → Type 0
  IsFineFrame f = IsFine sig f.under f.left

  -- so it is at the place, and in the frames around
  abbrev pub IsFineAt : Next → Type 0
  IsFineAt (child p f fs) = IsFineFrame f × AllByRecursion IsFineFrame fs
  IsFineAt _ = ⊤

  -- it stays so where the frames settle
  pub fine-settle : (fs : List Frame) → AllByRecursion IsFineFrame fs → IsFineAt (settle fs)
  fine-settle [] h = tt
  fine-settle (f ∷ fs) h =
      elim f.children as
      (λ c. IsFineAt
      (elim c [
        | no_patterns ↦ if is_done f.left f.owes then settle fs else refused
        | more_patterns p ps ↦ child p (record f { children = ps }) fs
      ])) [
        | no_patterns ↦ elim (is_done f.left f.owes) as (λ b. IsFineAt (if b then settle fs else refused))
            [ true ↦ fine-settle fs h.1 | false ↦ tt ]
        | more_patterns p ps ↦ h
      ]

  -- a piece of fine terms, the rest, and the arguments of one of them are fine
  pub fine-piece : (f : Option ℕ) (l ts : List Tree) → is_piece tree_cmp (comm_above sig f) l ts ≡ true
      → IsFine sig f ts → IsFine sig f l
  fine-piece f l ts h k =
      let s = sublist-from_piece tree_cmp tree_cmp_total tree_same (comm_above sig f) l ts h in
      record {
        pass = all-piece tree_cmp tree_cmp_total tree_same (λ t. passes sig t ≡ true) l ts s k.pass;
        alone = λ n. all-piece tree_cmp tree_cmp_total tree_same (λ t. is_alone sig f t ≡ true) l ts s
            (k.alone (omega (arith, length-without tree_cmp tree_cmp_total tree_same l ts s)));
        in_order = (apart-from_piece (comm_above sig f) l ts k.in_order h).piece_in_order;
      }

  pub fine-without : (f : Option ℕ) (l ts : List Tree) → is_piece tree_cmp (comm_above sig f) l ts ≡ true
      → IsFine sig f ts → IsFine sig f (without tree_cmp l ts)
  fine-without f l ts h k =
      let s = sublist-from_piece tree_cmp tree_cmp_total tree_same (comm_above sig f) l ts h in
      record {
        pass = all-without tree_cmp tree_cmp_total tree_same (λ t. passes sig t ≡ true) l ts k.pass;
        alone = λ n. all-without tree_cmp tree_cmp_total tree_same (λ t. is_alone sig f t ≡ true) l ts
            (k.alone (omega (arith, length-without tree_cmp tree_cmp_total tree_same l ts s)));
        in_order = (apart-from_piece (comm_above sig f) l ts k.in_order h).rest_in_order;
      }

  pub all_pass-each : (g : ℕ) (ts : Trees) → all_pass sig g ts ≡ true
      → AllByRecursion (λ t. passes sig t ≡ true) (tree_list ts)
      × AllByRecursion (λ t. is_alone sig (Some g) t ≡ true) (tree_list ts)
  all_pass-each g no_trees h = (tt, tt)
  all_pass-each g (more_trees t ts) h =
      let k = and_parts (passes sig t && is_alone sig (Some g) t) (all_pass sig g ts) h in
      let m = and_parts (passes sig t) (is_alone sig (Some g) t) k.0 in
      let i = all_pass-each g ts k.1 in
      ((m.0, i.0), (m.1, i.1))

  -- the arguments of a term that passes are fine
  pub fine-arguments : (g : ℕ) (ts : Trees) → passes sig (app g ts) ≡ true → IsFine sig (Some g) (tree_list ts)
  fine-arguments g ts h =
      let k = and_parts (not (is_comm sig g && not (ascending (tree_list ts)))) (all_pass sig g ts)
      (and_parts (not (is_one sig g && is_single (tree_list ts))) _ h).1 in
      let i = all_pass-each g ts k.1 in
      record { pass = i.0; alone = λ _. i.1; in_order = arguments-in_order sig g ts h }

  pub fine-single : (f : Option ℕ) (t : Tree) → passes sig t ≡ true → IsFine sig f (t ∷ [])
  fine-single f t h = record {
    pass = (h, tt);
    alone = λ n. absurd (omega arith);
    in_order = put-single (comm_above sig f) t;
  }

  -- and what is left stays fine behind each choice
  pub fine-onward : (p : Pattern) (f : Frame) (fs : List Frame) (l : List Tree) (c : Bool) → IsFineAt (child p f fs)
      → is_piece tree_cmp (comm_above sig f.under) l f.left ≡ true → reads sig p f.under (entry l c) ≡ true
      → IsFineAt (onward (child p f fs) (entry l c))
  fine-onward (symbol_pattern n) f fs l c h i r =
      fine-settle (taken_out (symbol_pattern n) (entry l c) f ∷ fs) (fine-without f.under l f.left i h.0, h.1)
  fine-onward (wild_pattern w x) f fs l c h i r =
      fine-settle (taken_out (wild_pattern w x) (entry l c) f ∷ fs) (fine-without f.under l f.left i h.0, h.1)
  fine-onward (app_pattern g ps) f fs [] true h i r = cc
  fine-onward (app_pattern g ps) f fs (t ∷ []) true h i r =
      fine-settle
      (entered (app_pattern g ps) (entry (t ∷ []) true) (taken_out (app_pattern g ps) (entry (t ∷ []) true) f ∷ fs)) (
        fine-single (Some g) t (fine-piece f.under (t ∷ []) f.left i h.0).pass.0,
        (fine-without f.under (t ∷ []) f.left i h.0, h.1),
      )
  fine-onward (app_pattern g ps) f fs (t ∷ u ∷ l) true h i r = cc
  fine-onward (app_pattern g ps) f fs [] false h i r = cc
  fine-onward (app_pattern g ps) f fs (symbol n ∷ []) false h i r = cc
  fine-onward (app_pattern g ps) f fs (app k ts ∷ []) false h i r =
      let pass : passes sig (app k ts) ≡ true = (fine-piece f.under (app k ts ∷ []) f.left i h.0).pass.0 in
      fine-settle
      (entered (app_pattern g ps) (entry (app k ts ∷ []) false)
      (taken_out (app_pattern g ps) (entry (app k ts ∷ []) false) f ∷ fs)) (
        subst (λ m. IsFine sig (Some m) (tree_list ts)) (sym (eqb-true g k r)) (fine-arguments k ts pass),
        (fine-without f.under (app k ts ∷ []) f.left i h.0, h.1),
      )
  fine-onward (app_pattern g ps) f fs (t ∷ u ∷ l) false h i r = cc

  module _ (line : Option ℕ → Wildcard → Option (List ℕ) → List Tree → Type 0) where
    -- the walk from a place on
    abbrev pub RunAt : Next → Table → Type 0
    RunAt n [] = n ≡ ended
    RunAt n (e ∷ T) = Step sig line n e (λ gs. Run sig line gs T)

    -- a run of frames is a run at the place where they settle
    pub run_at : (fs : List Frame) (T : Table) → Run sig line fs T → RunAt (settle fs) T
    run_at fs [] h = h
    run_at fs (e ∷ T) h = h

    pub at_run : (fs : List Frame) (T : Table) → RunAt (settle fs) T → Run sig line fs T
    at_run fs [] h = h
    at_run fs (e ∷ T) h = h

    -- what is cut out of fine terms is a piece, and a piece is cut out
    cut-piece : (f : Option ℕ) (left l rest : List Tree) → IsCut sig line f left l rest → put (comm_above sig f) l ≡ l
        → (is_piece tree_cmp (comm_above sig f) l left ≡ true) × (rest ≡ without tree_cmp l left)
    cut-piece f left l rest h e = piece-from_apart (comm_above sig f) l rest left
        (record { together = h.together; piece_in_order = e; rest_in_order = h.in_order })

    piece-cut : (f : Option ℕ) (left l : List Tree) → put (comm_above sig f) left ≡ left
        → is_piece tree_cmp (comm_above sig f) l left ≡ true → IsCut sig line f left l (without tree_cmp l left)
    piece-cut f left l e h = let a = apart-from_piece (comm_above sig f) l left e h in
        record { together = a.together; in_order = a.rest_in_order }

  -- a walk of the search is a walk by the wildcards' line, if what the takes are known to be gives the line
  module _ (line : Option ℕ → Wildcard → Option (List ℕ) → List Tree → Type 0) (P : Taken → Type 0)
      (wild_takes : (w : Wildcard) (x : Option (List ℕ)) (f : Frame) (fs : List Frame) (e : Entry)
      → IsFine sig f.under e.terms → is_some (given sig f.under w e.terms) ≡ true
      → AllByRecursion P (said (child (wild_pattern w x) f fs) e) → line f.under w x e.terms) where
    -- one choice
    step-walked : (p : Pattern) (f : Frame) (fs : List Frame) (l : List Tree) (c : Bool) (T : Table)
        → IsFineAt (child p f fs) → is_piece tree_cmp (comm_above sig f.under) l f.left ≡ true
        → reads sig p f.under (entry l c) ≡ true → AllByRecursion P (said (child p f fs) (entry l c))
        → RunAt line (onward (child p f fs) (entry l c)) T → RunAt line (child p f fs) (entry l c ∷ T)
    step-walked (symbol_pattern n) f fs l true T h i r o k = cc
    step-walked (symbol_pattern n) f fs l false T h i r o k = (
      without tree_cmp l f.left,
      piece-cut line f.under f.left l h.0.in_order i,
      (
        ap (λ m. entry m false) (same_terms-sound l (symbol n ∷ []) r),
        at_run line (taken_out (symbol_pattern n) (entry l false) f ∷ fs) T k,
      ),
    )
    step-walked (wild_pattern w x) f fs l true T h i r o k = cc
    step-walked (wild_pattern w x) f fs l false T h i r o k = (
      without tree_cmp l f.left,
      piece-cut line f.under f.left l h.0.in_order i,
      (
        wild_takes w x f fs (entry l false) (fine-piece f.under l f.left i h.0) (and_parts _ _ r).0 o,
        refl,
        at_run line (taken_out (wild_pattern w x) (entry l false) f ∷ fs) T k,
      ),
    )
    step-walked (app_pattern g ps) f fs [] true T h i r o k = cc
    step-walked (app_pattern g ps) f fs (t ∷ []) true T h i r o k =
        let b = and_parts (is_one sig g) (no_sequence ps) r in (
          without tree_cmp (t ∷ []) f.left,
          piece-cut line f.under f.left (t ∷ []) h.0.in_order i,
          inr (
            t,
            refl,
            b.0,
            b.1,
            at_run line
                (entered (app_pattern g ps) (entry (t ∷ []) true)
                (taken_out (app_pattern g ps) (entry (t ∷ []) true) f ∷ fs)) T k,
          ),
        )
    step-walked (app_pattern g ps) f fs (t ∷ u ∷ l) true T h i r o k = cc
    step-walked (app_pattern g ps) f fs [] false T h i r o k = cc
    step-walked (app_pattern g ps) f fs (symbol n ∷ []) false T h i r o k = cc
    step-walked (app_pattern g ps) f fs (app m ts ∷ []) false T h i r o k =
        let q : m ≡ g = sym (eqb-true g m r) in (
          without tree_cmp (app m ts ∷ []) f.left,
          piece-cut line f.under f.left (app m ts ∷ []) h.0.in_order i,
          inl (
            tree_list ts,
            ap (λ a. entry (app a ts ∷ []) false) q ∙ ap (λ us. entry (app g us ∷ []) false) (sym (trees-tree_list ts)),
            at_run line
                (entered (app_pattern g ps) (entry (app m ts ∷ []) false)
                (taken_out (app_pattern g ps) (entry (app m ts ∷ []) false) f ∷ fs)) T k,
          ),
        )
    step-walked (app_pattern g ps) f fs (t ∷ u ∷ l) false T h i r o k = cc

    -- a table with the shape is a walk
    pub walked : (n : Next) (T : Table) → IsFineAt n → Accepts (choices sig) onward is_ended n T
        → AllByRecursion P (takes n T) → RunAt line n T
    walked ended [] h a o = refl
    walked refused [] h a o = cc
    walked (child p f fs) [] h a o = cc
    walked ended (e ∷ T) h a o = absurd a.0
    walked refused (e ∷ T) h a o = absurd a.0
    walked (child p f fs) (e ∷ T) h a o =
        let c = (choices-exact p f fs e.terms e.collapsed).0 a.0 in
        let os = all-split P (said (child p f fs) e) (takes (onward (child p f fs) e) T) o in
        step-walked p f fs e.terms e.collapsed T h c.0 c.1 os.0
        (walked (onward (child p f fs) e) T (fine-onward p f fs e.terms e.collapsed h c.0 c.1) a.1 os.1)

  module _ (s : Subst) where
    -- the wildcards' line by the values of s
    abbrev Values : Option ℕ → Wildcard → Option (List ℕ) → List Tree → Type 0
    Values = ByValue sig s

    -- the take gives a value, which the variable's value in s agrees with
    pub record Told (t : Taken) : Type 0 where
      pub value : Value
      pub held : value_of s t.by.name ≡ Some value
      pub gives : Gives sig t.by.under t.by.wildcard value t.terms

    -- so does each take
    abbrev pub AllTold : List Taken → Type 0
    AllTold = AllByRecursion Told

    -- a step with values is a choice whose take is told
    record IsChosen (n : Next) (e : Entry) (T : Table) : Type 0 where
      choice : In e (choices sig n)
      told : AllTold (said n e)
      fine : IsFineAt (onward n e)
      go : RunAt Values (onward n e) T

    -- a step with values is a choice, case by case of the node
    chosen : (p : Pattern) (f : Frame) (fs : List Frame) (e : Entry) (T : Table) (gs : List Frame)
        → IsFineAt (child p f fs) → is_piece tree_cmp (comm_above sig f.under) e.terms f.left ≡ true
        → reads sig p f.under e ≡ true
        → AllTold (said (child p f fs) e) → settle gs ≡ onward (child p f fs) e → Run sig Values gs T
        → IsChosen (child p f fs) e T
    chosen p f fs e T gs h i r o q k = record {
      choice = (choices-exact p f fs e.terms e.collapsed).1 (i, r);
      told = o;
      fine = fine-onward p f fs e.terms e.collapsed h i r;
      go = subst (λ n. RunAt Values n T) q (run_at Values gs T k);
    }

    chosen-symbol : (n : List ℕ) (f : Frame) (fs : List Frame) (rest : List Tree) (T : Table)
        → IsFineAt (child (symbol_pattern n) f fs) → IsCut sig Values f.under f.left (symbol n ∷ []) rest
        → Run sig Values
        (record {
          under = f.under;
          children = f.children;
          left = rest;
          owes = f.owes && not (is_left_out (symbol_pattern n) (symbol n ∷ []));
        } ∷ fs) T
        → IsChosen (child (symbol_pattern n) f fs) (entry (symbol n ∷ []) false) T
    chosen-symbol n f fs rest T h cut k =
        let c = cut-piece Values f.under f.left (symbol n ∷ []) rest cut
        (put-single (comm_above sig f.under) (symbol n)) in
        chosen (symbol_pattern n) f fs (entry (symbol n ∷ []) false) T
        (taken_out (symbol_pattern n) (entry (symbol n ∷ []) false) f ∷ fs) h c.0
        (same_terms-complete (symbol n ∷ []) (symbol n ∷ []) refl) tt refl
        (subst (λ m.
        Run sig Values (record { under = f.under; children = f.children; left = m; owes = f.owes && not false }
        ∷ fs) T) c.1 k)

    chosen-arguments : (g : ℕ) (ps : Patterns) (f : Frame) (fs : List Frame) (rest args : List Tree) (T : Table)
        → IsFineAt (child (app_pattern g ps) f fs) → IsCut sig Values f.under f.left (app g (trees args) ∷ []) rest
        → Run sig Values (record { under = Some g; children = ps; left = args; owes = false }
        ∷ record { under = f.under; children = f.children; left = rest; owes = f.owes && not false } ∷ fs) T
        → IsChosen (child (app_pattern g ps) f fs) (entry (app g (trees args) ∷ []) false) T
    chosen-arguments g ps f fs rest args T h cut k =
        let c = cut-piece Values f.under f.left (app g (trees args) ∷ []) rest cut
        (put-single (comm_above sig f.under) (app g (trees args))) in
        chosen (app_pattern g ps) f fs (entry (app g (trees args) ∷ []) false) T
        (entered (app_pattern g ps) (entry (app g (trees args) ∷ []) false)
        (taken_out (app_pattern g ps) (entry (app g (trees args) ∷ []) false) f ∷ fs)) h c.0
        (eq-eqb g g refl) tt refl
        (subst (λ a.
        Run sig Values (record { under = Some g; children = ps; left = a; owes = false }
        ∷ record {
          under = f.under;
          children = f.children;
          left = without tree_cmp (app g (trees args) ∷ []) f.left;
          owes = f.owes && not false;
        } ∷ fs) T) (sym (tree_list-trees args))
        (subst (λ m.
        Run sig Values (record { under = Some g; children = ps; left = args; owes = false }
        ∷ record { under = f.under; children = f.children; left = m; owes = f.owes && not false } ∷ fs) T) c.1 k))

    chosen-collapsed : (g : ℕ) (ps : Patterns) (f : Frame) (fs : List Frame) (rest : List Tree) (t : Tree) (T : Table)
        → IsFineAt (child (app_pattern g ps) f fs) → IsCut sig Values f.under f.left (t ∷ []) rest → is_one sig g ≡ true
        → no_sequence ps ≡ true
        → Run sig Values (record { under = Some g; children = ps; left = t ∷ []; owes = true }
        ∷ record { under = f.under; children = f.children; left = rest; owes = f.owes && not false } ∷ fs) T
        → IsChosen (child (app_pattern g ps) f fs) (entry (t ∷ []) true) T
    chosen-collapsed g ps f fs rest t T h cut one plain k =
        let c = cut-piece Values f.under f.left (t ∷ []) rest cut (put-single (comm_above sig f.under) t) in
        chosen (app_pattern g ps) f fs (entry (t ∷ []) true) T
        (entered (app_pattern g ps) (entry (t ∷ []) true)
        (taken_out (app_pattern g ps) (entry (t ∷ []) true) f ∷ fs)) h c.0 (and_from _ _ one plain) tt refl
        (subst (λ m.
        Run sig Values (record { under = Some g; children = ps; left = t ∷ []; owes = true }
        ∷ record { under = f.under; children = f.children; left = m; owes = f.owes && not false } ∷ fs) T) c.1 k)

    module _ (finals : (x : List ℕ) (v : Value) → value_of s x ≡ Some v → IsFinal sig v) where
      -- what a wildcard takes by the values is read, in order and told
      record IsTaken (w : Wildcard) (x : Option (List ℕ)) (f : Frame) (fs : List Frame) (e : Entry) : Type 0 where
        read : is_some (given sig f.under w e.terms) && default_passes sig x w e.terms ≡ true
        in_order : put (comm_above sig f.under) e.terms ≡ e.terms
        told : AllTold (said (child (wild_pattern w x) f fs) e)

      taken : (w : Wildcard) (x : Option (List ℕ)) (f : Frame) (fs : List Frame) (e : Entry)
          → Values f.under w x e.terms → IsTaken w x f fs e
      taken w None f fs e h = let g = unnamed-gives sig f.under w e.terms h in
          record { read = and_from _ _ g.0 refl; in_order = g.1; told = tt }
      taken w (Some x) f fs e h =
          let g = gives sig f.under w h.0 e.terms (finals x h.0 h.1) h.2 in
          record {
            read = and_from _ _ (ap is_some g.is) (taken-passes sig f.under w x h.0 e.terms (finals x h.0 h.1) h.2);
            in_order = g.in_order;
            told = (record { value = h.0; held = h.1; gives = g }, tt);
          }

      chosen-wild : (w : Wildcard) (x : Option (List ℕ)) (f : Frame) (fs : List Frame) (e : Entry) (rest : List Tree)
          (T : Table) → IsFineAt (child (wild_pattern w x) f fs) → IsCut sig Values f.under f.left e.terms rest
          → Values f.under w x e.terms → e.collapsed ≡ false
          → Run sig Values
          (record {
            under = f.under;
            children = f.children;
            left = rest;
            owes = f.owes && not (is_left_out (wild_pattern w x) e.terms);
          } ∷ fs) T
          → IsChosen (child (wild_pattern w x) f fs) e T
      chosen-wild w x f fs e rest T h cut takes mark k =
          let g = taken w x f fs e takes in
          let c = cut-piece Values f.under f.left e.terms rest cut g.in_order in
          chosen (wild_pattern w x) f fs e T (taken_out (wild_pattern w x) e f ∷ fs) h c.0
          (and_from _ _ (ap not mark) g.read) g.told refl
          (subst (λ m.
          Run sig Values
          (record {
            under = f.under;
            children = f.children;
            left = m;
            owes = f.owes && not (is_left_out (wild_pattern w x) e.terms);
          } ∷ fs) T) c.1 k)

      step-chosen : (n : Next) (e : Entry) (T : Table) → IsFineAt n → RunAt Values n (e ∷ T) → IsChosen n e T
      step-chosen ended e T h k = absurd k
      step-chosen refused e T h k = absurd k
      step-chosen (child (symbol_pattern n) f fs) e T h k =
          let q : e.terms ≡ symbol n ∷ [] = ap (λ d. d.terms) k.2.0 in
          subst (λ d. IsChosen (child (symbol_pattern n) f fs) d T) (sym k.2.0)
          (chosen-symbol n f fs k.0 T h (subst (λ l. IsCut sig Values f.under f.left l k.0) q k.1) k.2.1)
      step-chosen (child (wild_pattern w x) f fs) e T h k = chosen-wild w x f fs e k.0 T h k.1 k.2.0 k.2.1 k.2.2
      step-chosen (child (app_pattern g ps) f fs) e T h k =
          elim k.2 [
            | inl i ↦ subst (λ d. IsChosen (child (app_pattern g ps) f fs) d T) (sym i.1)
                (chosen-arguments g ps f fs k.0 i.0 T h
                (subst (λ l. IsCut sig Values f.under f.left l k.0) (ap (λ d. d.terms) i.1) k.1) i.2)
            | inr i ↦ subst (λ d. IsChosen (child (app_pattern g ps) f fs) d T) (sym i.1)
                (chosen-collapsed g ps f fs k.0 i.0 T h
                (subst (λ l. IsCut sig Values f.under f.left l k.0) (ap (λ d. d.terms) i.1) k.1) i.2 i.3 i.4)
          ]

      -- a walk with the values of s has the shape, and its takes are told
      pub accepted : (n : Next) (T : Table) → IsFineAt n → RunAt Values n T
          → Accepts (choices sig) onward is_ended n T × AllTold (takes n T)
      accepted n [] h k = (ap is_ended k, tt)
      accepted n (e ∷ T) h k =
          let c = step-chosen n e T h k in
          let i = accepted (onward n e) T c.fine c.go in
          ((c.choice, i.0), all-append Told (said n e) (takes (onward n e) T) c.told i.1)

    -- a take that s obeys gives the wildcard's line
    wild-valued : (w : Wildcard) (x : Option (List ℕ)) (f : Frame) (fs : List Frame) (e : Entry)
        → IsFine sig f.under e.terms → is_some (given sig f.under w e.terms) ≡ true
        → AllByRecursion (Obeys sig s) (said (child (wild_pattern w x) f fs) e) → Values f.under w x e.terms
    wild-valued w None f fs e fine r o = unnamed-takes sig f.under w e.terms r fine
    wild-valued w (Some x) f fs e fine r o =
        (o.0.final, o.0.held, takes-given sig f.under w o.0.value o.0.final e.terms o.0.is fine.in_order o.0.refines)

    -- a table with the shape, whose takes s obeys, is a walk with the values of s
    pub valued : (n : Next) (T : Table) → IsFineAt n → Accepts (choices sig) onward is_ended n T
        → AllByRecursion (Obeys sig s) (takes n T) → RunAt Values n T
    valued = walked Values (Obeys sig s) wild-valued
