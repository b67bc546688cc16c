-- Children that take a term each need as many terms as they are, of those that they may match: the pigeonhole.
use Rattle.std.proofs.Common.{◌≡◌, ℕ, ◌+◌, ◌≤◌, List, [], ◌∷◌, Bool, true, false, refl, ap, length, arith}
use Rattle.std.specs.Prelude.{Option, Some, filter, if◌then◌else◌}
use Rattle.std.specs.List.{AllByRecursion}
use Rattle.mp_term.specs.Order.{tree_cmp}
use Rattle.mp_term.specs.OrderLaws.{tree_cmp_total, tree_same}
use Rattle.mp_term.specs.Tree.{Tree}
use Rattle.mp_term.specs.Signature.{Sig}
use Rattle.mp_term.specs.Search.{In}
use Rattle.mp_term.specs.Pieces.{same, without, is_sublist, is_piece}
use Rattle.mp_term.proofs.PiecesLaws.{same-sound, sublist-from_piece}
use Rattle.mp_pattern.specs.PatternTree.{Pattern, Patterns, no_patterns, more_patterns}
use Rattle.mp_pattern.specs.Value.{Subst}
use Rattle.mp_pattern.specs.Variables.{comm_above}
use Rattle.mp_pattern.specs.Fits.{Entry}
use Rattle.mp_theory.specs.Solve.{solve}
use Rattle.mp_theory.specs.Frames.{Frame, child}
use Rattle.mp_theory.specs.Machine.{entered, taken_out, onward, said, reads}
use Rattle.mp_theory.specs.OneList.{Item}
use Rattle.mp_theory.specs.Items.{items}
use Rattle.mp_theory.specs.Kept.{Keeps}
use Rattle.mp_theory.specs.Supply.{passing, marked, Covers}
use Rattle.mp_theory.proofs.Cuts.{count}
use Rattle.mp_theory.proofs.KeptValues.{solve-keeps}
use Rattle.mp_theory.proofs.FrameFacts.{done_frame, before, behind-holds}
use Rattle.mp_theory.proofs.Matching.{IsMatching, matching-done, matching-step, matching-earlier, match-taken}
use Rattle.mp_theory.proofs.Matching.{one-taken, may_match-earlier}

passing-cons : (test : Tree → Bool) (t : Tree) (ts : List Tree)
    → passing test (t ∷ ts) ≡ (if test t then 1 else 0) + passing test ts
passing-cons test t ts = elim (test t) as
    (λ b. length (if b then t ∷ filter test ts else filter test ts) ≡ (if b then 1 else 0) + passing test ts)
    [ true ↦ omega arith | false ↦ omega arith ]

-- of a list and what is left without it as many pass as of the whole
pub passing-without : (test : Tree → Bool) (l ts : List Tree) → is_sublist tree_cmp l ts ≡ true
    → passing test l + passing test (without tree_cmp l ts) ≡ passing test ts
passing-without test [] ts h = omega arith
passing-without test (e ∷ l) [] h = cc
passing-without test (e ∷ l) (t ∷ ts) h =
    elim (same tree_cmp t e) as (λ v. same tree_cmp t e ≡ v
    → (if v then is_sublist tree_cmp l ts else is_sublist tree_cmp (e ∷ l) ts) ≡ true
    → passing test (e ∷ l) + passing test (if v then without tree_cmp l ts else t ∷ without tree_cmp (e ∷ l) ts)
    ≡ passing test (t ∷ ts)) [
      | true ↦ λ q k. omega (
        arith,
        ap {B = ℕ} (λ u. if test u then 1 else 0) (same-sound tree_cmp tree_cmp_total tree_same t e q),
        passing-cons test e l,
        passing-cons test t ts,
        passing-without test l ts k,
      )
      | false ↦ λ q k. omega (
        arith,
        passing-cons test t (without tree_cmp (e ∷ l) ts),
        passing-cons test t ts,
        passing-without test (e ∷ l) ts k,
      )
    ] refl h

-- a term stands in a list as often as the list has terms that are the same
pub passing-count : (z : Tree) (ts : List Tree) → passing (same tree_cmp z) ts ≡ count z ts
passing-count z [] = refl
passing-count z (t ∷ ts) = omega (arith, passing-cons (same tree_cmp z) t ts, passing-count z ts)

module _ (sig : Sig) where
  -- children that are covered later are covered now
  covers-later : (test : Tree → Bool) (f : Option ℕ) (ms : List Bool) (ps : Patterns) (s r : Subst) → Keeps s r
      → Covers sig s test f ms ps → Covers sig r test f ms ps
  covers-later test f [] ps s r k h = tt
  covers-later test f (true ∷ ms) no_patterns s r k h = tt
  covers-later test f (false ∷ ms) no_patterns s r k h = tt
  covers-later test f (true ∷ ms) (more_patterns p ps) s r k h = (
    h.0,
    λ t m. h.1 t (may_match-earlier sig f p t s r k m),
    covers-later test f ms ps s r k h.2,
  )
  covers-later test f (false ∷ ms) (more_patterns p ps) s r k h = covers-later test f ms ps s r k h

  -- the marked children have enough terms, however they are marked
  abbrev IsSupplied : Subst → Frame → Type 0
  IsSupplied s f = (test : Tree → Bool) (ms : List Bool) → Covers sig s test f.under ms f.children
      → marked ms f.children ≤ passing test f.left

  abbrev Supplied : Subst → Frame → Type 0
  Supplied s f = IsMatching sig s f × IsSupplied s f

  supplied-done : (s : Subst) (f : Option ℕ) → Supplied s (done_frame f)
  supplied-done s f = (matching-done sig s f, λ test ms c. none ms)
    where
      none : (ms : List Bool) → marked ms no_patterns ≤ 0
      none [] = omega arith
      none (true ∷ ms) = omega arith
      none (false ∷ ms) = omega arith

  supplied-earlier : (s r : Subst) (f : Frame) → Keeps s r → Supplied r f → Supplied s f
  supplied-earlier s r f k h = (
    matching-earlier sig s r f k h.0,
    λ test ms c. h.1 test ms (covers-later test f.under ms f.children s r k c),
  )

  all-matching : (r : Subst) (fs : List Frame) → AllByRecursion (Supplied r) fs
      → AllByRecursion (IsMatching sig r) fs
  all-matching r [] h = tt
  all-matching r (f ∷ fs) h = (h.0.0, all-matching r fs h.1)

  supplied-step : (p : Pattern) (f : Frame) (fs : List Frame) (e : Entry) (s r : Subst)
      → is_piece tree_cmp (comm_above sig f.under) e.terms f.left ≡ true → reads sig p f.under e ≡ true
      → solve sig s (said (child p f fs) e) ≡ Some r → AllByRecursion (Supplied r) (entered p e [])
      → Supplied r (taken_out p e f) → Supplied s (before p f)
  supplied-step p f fs e s r i h b inner rest = (
    matching-step sig p f fs e s r i h b (all-matching r (entered p e []) inner) rest.0,
    λ test ms c. enough test ms c,
  )
    where
      kept : Keeps s r
      kept = solve-keeps sig s (said (child p f fs) e) r b

      sum : (test : Tree → Bool)
          → passing test e.terms + passing test (without tree_cmp e.terms f.left) ≡ passing test f.left
      sum test = passing-without test e.terms f.left
          (sublist-from_piece tree_cmp tree_cmp_total tree_same (comm_above sig f.under) e.terms f.left i)

      enough : (test : Tree → Bool) (ms : List Bool) → Covers sig s test f.under ms (more_patterns p f.children)
          → marked ms (more_patterns p f.children) ≤ passing test f.left
      enough test [] c = omega arith
      enough test (false ∷ ms) c = omega (
        arith,
        sum test,
        rest.1 test ms (covers-later test f.under ms f.children s r kept c),
      )
      enough test (true ∷ ms) c =
          let t = one-taken sig p f.under e c.0 h in
          let m = match-taken sig p f fs e t.0 s r t.1 h b (all-matching r (entered p e []) inner) in
          omega (
            arith,
            sum test,
            rest.1 test ms (covers-later test f.under ms f.children s r kept c.2),
            ap (passing test) t.1,
            passing-cons test t.0 [],
            ap {B = ℕ} (λ d. if d then 1 else 0) (c.1 t.0 m),
          )

  -- behind an entry with an item
  pub supply-behind : (k : ℕ) (p : Pattern) (f : Frame) (fs : List Frame) (e : Entry) (r : Subst) (i : Item)
      → In i (items sig k (onward (child p f fs) e) r) → (test : Tree → Bool) (ms : List Bool)
      → Covers sig r test f.under ms f.children
      → marked ms f.children ≤ passing test (without tree_cmp e.terms f.left)
  supply-behind k p f fs e r i h =
      (behind-holds sig Supplied supplied-done supplied-step supplied-earlier k p f fs e r i h).1.1
