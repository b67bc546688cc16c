-- A fact about frames that holds where they are done, and before an entry if it holds behind it, holds wherever an item
-- comes.
use Rattle.std.proofs.Common.{◌≡◌, ℕ, zero, suc, List, [], ◌∷◌, Bool, true, false, refl}
use Rattle.std.specs.Prelude.{Option, Some, if◌then◌else◌, ⊤}
use Rattle.std.specs.List.{AllByRecursion}
use Rattle.mp_term.specs.Order.{tree_cmp}
use Rattle.mp_term.specs.Tree.{Tree}
use Rattle.mp_term.specs.Signature.{Sig}
use Rattle.mp_term.specs.Search.{In}
use Rattle.mp_term.specs.Pieces.{is_piece}
use Rattle.mp_pattern.specs.PatternTree.{Pattern, symbol_pattern, app_pattern, wild_pattern, no_patterns}
use Rattle.mp_pattern.specs.PatternTree.{more_patterns}
use Rattle.mp_pattern.specs.Value.{Subst}
use Rattle.mp_pattern.specs.Variables.{comm_above}
use Rattle.mp_pattern.specs.Fits.{Entry}
use Rattle.mp_theory.specs.Solve.{solve}
use Rattle.mp_theory.specs.Frames.{Frame, Next, ended, refused, child, is_done, settle}
use Rattle.mp_theory.specs.Machine.{entered, taken_out, onward, said, reads}
use Rattle.mp_theory.specs.OneList.{Item}
use Rattle.mp_theory.specs.Items.{items}
use Rattle.mp_theory.specs.Kept.{Keeps}
use Rattle.mp_theory.proofs.Walk.{choices-exact}
use Rattle.mp_theory.proofs.KeptValues.{item-goes_on, solve-keeps}

-- a frame without children
abbrev pub done_frame : Option ℕ → Frame
done_frame f = record { under = f; children = no_patterns; left = []; owes = false }

-- the frame with the child in front of its children
abbrev pub before : Pattern → Frame → Frame
before p f = record f { children = more_patterns p f.children }

module _ (sig : Sig) (Q : Subst → Frame → Type 0) (done : (s : Subst) (f : Option ℕ) → Q s (done_frame f))
    (step : (p : Pattern) (f : Frame) (fs : List Frame) (e : Entry) (s r : Subst)
    → is_piece tree_cmp (comm_above sig f.under) e.terms f.left ≡ true → reads sig p f.under e ≡ true
    → solve sig s (said (child p f fs) e) ≡ Some r → AllByRecursion (Q r) (entered p e []) → Q r (taken_out p e f)
    → Q s (before p f))
    (earlier : (s r : Subst) (f : Frame) → Keeps s r → Q r f → Q s f) where
  -- the fact at a place
  abbrev QAt : Subst → Next → Type 0
  QAt s ended = ⊤
  QAt s refused = ⊥
  QAt s (child p f fs) = Q s (before p f) × AllByRecursion (Q s) fs

  all-earlier : (s r : Subst) (fs : List Frame) → Keeps s r → AllByRecursion (Q r) fs → AllByRecursion (Q s) fs
  all-earlier s r [] k h = tt
  all-earlier s r (f ∷ fs) k h = (earlier s r f k h.0, all-earlier s r fs k h.1)

  done_left : (s : Subst) (f : Option ℕ) (ts : List Tree) (b : Bool) → is_done ts b ≡ true
      → Q s (record { under = f; children = no_patterns; left = ts; owes = b })
  done_left s f [] false e = done s f
  done_left s f [] true e = cc
  done_left s f (t ∷ ts) b e = cc

  -- frames that settle to a place with the fact have it
  facts-settled : (s : Subst) (fs : List Frame) → QAt s (settle fs) → AllByRecursion (Q s) fs
  facts-settled s [] h = tt
  facts-settled s (f ∷ fs) h =
      elim f.children as
      (λ c. QAt s
      (elim c [
        | no_patterns ↦ if is_done f.left f.owes then settle fs else refused
        | more_patterns p ps ↦ child p (record f { children = ps }) fs
      ])
      → Q s (record f { children = c }) × AllByRecursion (Q s) fs) [
        | no_patterns ↦ elim (is_done f.left f.owes) as
            (λ b. is_done f.left f.owes ≡ b → QAt s (if b then settle fs else refused)
            → Q s (record f { children = no_patterns }) × AllByRecursion (Q s) fs) [
              | true ↦ λ e k. (done_left s f.under f.left f.owes e, facts-settled s fs k)
              | false ↦ λ e k. absurd k
            ] refl
        | more_patterns p ps ↦ λ k. k
      ] h

  -- behind an entry: the inner frame, that which it was taken out of, and those around
  facts-entered : (s : Subst) (p : Pattern) (e : Entry) (f : Frame) (fs : List Frame)
      → AllByRecursion (Q s) (entered p e (f ∷ fs))
      → AllByRecursion (Q s) (entered p e []) × Q s f × AllByRecursion (Q s) fs
  facts-entered s (symbol_pattern n) e f fs h = (tt, h.0, h.1)
  facts-entered s (wild_pattern w x) e f fs h = (tt, h.0, h.1)
  facts-entered s (app_pattern g ps) e f fs h = ((h.0, tt), h.1.0, h.1.1)

  facts-at : (k : ℕ) (n : Next) (s : Subst) (i : Item) → In i (items sig k n s) → QAt s n
  facts-at k ended s i h = tt
  facts-at zero refused s i h = absurd h
  facts-at (suc k) refused s i h = absurd h
  facts-at zero (child p f fs) s i h = absurd h
  facts-at (suc k) (child p f fs) s i h =
      let g = item-goes_on sig k (child p f fs) s i h in
      let e : Entry = g.0 in
      let r : Subst = g.3.after in
      let c = (choices-exact sig p f fs e.terms e.collapsed).0 g.3.choice in
      let behind = facts-entered r p e (taken_out p e f) fs
      (facts-settled r (entered p e (taken_out p e f ∷ fs))
      (facts-at k (onward (child p f fs) e) r (g.1, i.1) g.3.rest)) in (
        step p f fs e s r c.0 c.1 g.3.bound behind.0 behind.1,
        all-earlier s r fs (solve-keeps sig s (said (child p f fs) e) r g.3.bound) behind.2,
      )

  -- wherever an item comes each frame has the fact
  pub frames-hold : (k : ℕ) (fs : List Frame) (s : Subst) (i : Item) → In i (items sig k (settle fs) s)
      → AllByRecursion (Q s) fs
  frames-hold k fs s i h = facts-settled s fs (facts-at k (settle fs) s i h)

  -- so has the frame behind an entry, and that of an application's children
  pub behind-holds : (k : ℕ) (p : Pattern) (f : Frame) (fs : List Frame) (e : Entry) (r : Subst) (i : Item)
      → In i (items sig k (onward (child p f fs) e) r)
      → AllByRecursion (Q r) (entered p e []) × Q r (taken_out p e f)
  behind-holds k p f fs e r i h =
      let b = facts-entered r p e (taken_out p e f) fs
      (frames-hold k (entered p e (taken_out p e f ∷ fs)) r i h) in
      (b.0, b.1)
