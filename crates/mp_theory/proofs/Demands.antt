-- What each child needs at least of what is left, by a measure of lists that adds up, the children need together.
use Rattle.std.proofs.Common.{◌≡◌, ℕ, ◌+◌, ◌≤◌, List, [], true, refl, arith}
use Rattle.std.specs.Prelude.{Option, Some}
use Rattle.std.specs.List.{AllByRecursion}
use Rattle.mp_term.specs.Order.{tree_cmp}
use Rattle.mp_term.specs.OrderLaws.{tree_cmp_total, tree_same}
use Rattle.mp_term.specs.Tree.{Tree}
use Rattle.mp_term.specs.Signature.{Sig}
use Rattle.mp_term.specs.Search.{In}
use Rattle.mp_term.specs.Pieces.{without, is_sublist, is_piece}
use Rattle.mp_term.proofs.PiecesLaws.{sublist-from_piece}
use Rattle.mp_pattern.specs.PatternTree.{Pattern, Patterns, no_patterns, more_patterns}
use Rattle.mp_pattern.specs.Value.{Subst}
use Rattle.mp_pattern.specs.Variables.{comm_above}
use Rattle.mp_pattern.specs.Fits.{Entry}
use Rattle.mp_theory.specs.Solve.{solve}
use Rattle.mp_theory.specs.Frames.{Frame, child}
use Rattle.mp_theory.specs.Machine.{entered, taken_out, onward, said, reads, choices}
use Rattle.mp_theory.specs.OneList.{Item}
use Rattle.mp_theory.specs.Items.{items, items_by}
use Rattle.mp_theory.specs.Kept.{Keeps}
use Rattle.mp_theory.proofs.Walk.{choices-exact}
use Rattle.mp_theory.proofs.KeptValues.{item-by, solve-keeps}
use Rattle.mp_theory.proofs.FrameFacts.{before, behind-holds}

module _ (sig : Sig) (m : List Tree → ℕ)
    (apart : (l ts : List Tree) → is_sublist tree_cmp l ts ≡ true → m l + m (without tree_cmp l ts) ≡ m ts)
    (need : Subst → Option ℕ → Pattern → ℕ)
    (taken : (p : Pattern) (f : Frame) (fs : List Frame) (e : Entry) (s r : Subst) → reads sig p f.under e ≡ true
    → solve sig s (said (child p f fs) e) ≡ Some r → need s f.under p ≤ m e.terms)
    (earlier : (f : Option ℕ) (p : Pattern) (s r : Subst) → Keeps s r → need s f p ≤ need r f p) where
  -- what the children need together
  abbrev pub total : Subst → Option ℕ → Patterns → ℕ
  total s f no_patterns = 0
  total s f (more_patterns p ps) = need s f p + total s f ps

  pub total-earlier : (f : Option ℕ) (ps : Patterns) (s r : Subst) → Keeps s r → total s f ps ≤ total r f ps
  total-earlier f no_patterns s r k = omega arith
  total-earlier f (more_patterns p ps) s r k = omega (arith, earlier f p s r k, total-earlier f ps s r k)

  -- so much is left to the frame
  abbrev IsMet : Subst → Frame → Type 0
  IsMet s f = total s f.under f.children ≤ m f.left

  piece-apart : (f : Frame) (e : Entry) → is_piece tree_cmp (comm_above sig f.under) e.terms f.left ≡ true
      → m e.terms + m (without tree_cmp e.terms f.left) ≡ m f.left
  piece-apart f e i = apart e.terms f.left
      (sublist-from_piece tree_cmp tree_cmp_total tree_same (comm_above sig f.under) e.terms f.left i)

  met-step : (p : Pattern) (f : Frame) (fs : List Frame) (e : Entry) (s r : Subst)
      → is_piece tree_cmp (comm_above sig f.under) e.terms f.left ≡ true → reads sig p f.under e ≡ true
      → solve sig s (said (child p f fs) e) ≡ Some r → AllByRecursion (IsMet r) (entered p e [])
      → IsMet r (taken_out p e f) → IsMet s (before p f)
  met-step p f fs e s r i h b inner rest = omega (
    arith,
    rest,
    taken p f fs e s r h b,
    total-earlier f.under f.children s r (solve-keeps sig s (said (child p f fs) e) r b),
    piece-apart f e i,
  )

  -- behind an entry with an item
  pub met-behind : (k : ℕ) (p : Pattern) (f : Frame) (fs : List Frame) (e : Entry) (r : Subst) (i : Item)
      → In i (items sig k (onward (child p f fs) e) r)
      → total r f.under f.children ≤ m (without tree_cmp e.terms f.left)
  met-behind k p f fs e r i h =
      (behind-holds sig IsMet (λ s f. omega (arith, apart [] [] refl)) met-step
      (λ s q g kept rest. omega (arith, rest, total-earlier g.under g.children s q kept)) k p f fs e r i h).1

  -- so an entry with an item leaves the later children what they need
  pub met-left : (k : ℕ) (p : Pattern) (f : Frame) (fs : List Frame) (s : Subst) (e : Entry) (i : Item)
      → In e (choices sig (child p f fs)) → In i (items_by sig k (child p f fs) s e)
      → (r : Subst) × (solve sig s (said (child p f fs) e) ≡ Some r)
      × (m e.terms + total r f.under f.children ≤ m f.left)
  met-left k p f fs s e i c h =
      let q = (choices-exact sig p f fs e.terms e.collapsed).0 c in
      let b = item-by sig k (child p f fs) s e i h in (
        b.2.0,
        b.2.1,
        omega (arith, met-behind k p f fs e b.2.0 (b.0, i.1) b.2.2, piece-apart f e q.0),
      )
