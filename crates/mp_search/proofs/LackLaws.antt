-- Children that are marked, and how many terms they may match.
use Rattle.std.proofs.Common.{◌≡◌, ℕ, List, [], ◌∷◌, Bool, true, false, refl, ap, subst, arith}
use Rattle.std.specs.Prelude.{Option, ◌||◌}
use Rattle.std.proofs.lemmas.Bool.{and_parts}
use Rattle.mp_term.specs.Order.{tree_cmp}
use Rattle.mp_term.specs.OrderLaws.{tree_cmp_total, tree_same}
use Rattle.mp_term.specs.Pieces.{without}
use Rattle.mp_term.proofs.PiecesLaws.{sublist-from_piece}
use Rattle.mp_term.specs.Search.{In}
use Rattle.mp_term.specs.Signature.{Sig}
use Rattle.mp_term.specs.Tree.{Tree}
use Rattle.mp_pattern.specs.Fits.{Entry}
use Rattle.mp_pattern.specs.PatternTree.{Pattern, Patterns, no_patterns, more_patterns}
use Rattle.mp_pattern.specs.Value.{Subst}
use Rattle.mp_pattern.specs.Variables.{comm_above}
use Rattle.mp_theory.specs.Frames.{Frame, child}
use Rattle.mp_theory.specs.Items.{items, items_by}
use Rattle.mp_theory.specs.Kept.{Keeps}
use Rattle.mp_theory.specs.Machine.{onward, said, choices}
use Rattle.mp_theory.specs.OneList.{Item}
use Rattle.mp_theory.specs.MayMatch.{takes_one, may_match}
use Rattle.mp_theory.specs.Supply.{Covers}
use Rattle.mp_theory.proofs.KeptValues.{item-by, solve-keeps}
use Rattle.mp_theory.proofs.Matching.{may_match-earlier}
use Rattle.mp_theory.proofs.SupplyLaws.{supply-behind, passing-without}
use Rattle.mp_theory.proofs.Walk.{choices-exact}
use Rattle.mp_theory.proofs.NextTerm.{none-in}
use Rattle.mp_search.specs.Lacking.{AreLacking, each_takes_one, some_may_match}

module _ (sig : Sig) (s : Subst) (f : Option ℕ) where
  -- what isn't matched by the first child is matched by others, if by any
  pub some-others : (m : Bool) (ms ns : List Bool) (p : Pattern) (ps qs : Patterns) (t : Tree) → ns ≡ m ∷ ms
      → qs ≡ more_patterns p ps → (m ≡ true → may_match sig s f p t ≡ true → ⊥)
      → some_may_match sig s f ns qs t ≡ true → some_may_match sig s f ms ps t ≡ true
  some-others m ms ns p ps qs t e i nope h = by_mark m nope
      (subst (λ rs. some_may_match sig s f (m ∷ ms) rs t ≡ true) i
      (subst (λ ks. some_may_match sig s f ks qs t ≡ true) e h))
    where
      by_mark : (m : Bool) → (m ≡ true → may_match sig s f p t ≡ true → ⊥)
          → some_may_match sig s f (m ∷ ms) (more_patterns p ps) t ≡ true → some_may_match sig s f ms ps t ≡ true
      by_mark false nope h = h
      by_mark true nope h = elim (may_match sig s f p t) as (λ b. may_match sig s f p t ≡ b
          → (b || some_may_match sig s f ms ps t) ≡ true → some_may_match sig s f ms ps t ≡ true)
          [ true ↦ λ k j. absurd (nope refl k) | false ↦ λ k j. j ] refl h

  -- a test that each term passes that some marked child may match covers the marked children
  covers-marked : (test : Tree → Bool) (ms : List Bool) (ps : Patterns) → each_takes_one sig f ms ps ≡ true
      → ((t : Tree) → some_may_match sig s f ms ps t ≡ true → test t ≡ true) → Covers sig s test f ms ps
  covers-marked test [] ps o h = tt
  covers-marked test (true ∷ ms) no_patterns o h = tt
  covers-marked test (false ∷ ms) no_patterns o h = tt
  covers-marked test (false ∷ ms) (more_patterns p ps) o h = covers-marked test ms ps o h
  covers-marked test (true ∷ ms) (more_patterns p ps) o h =
      let b = and_parts (takes_one sig f p) (each_takes_one sig f ms ps) o in (
        b.0,
        λ t k. h t (ap (λ c. c || some_may_match sig s f ms ps t) k),
        covers-marked test ms ps b.1 (λ t k. h t (either (may_match sig s f p t) k)),
      )
    where
      either : (b : Bool) {c : Bool} → c ≡ true → (b || c) ≡ true
      either true k = refl
      either false k = k

-- where children are lacking, nothing is behind the entry
pub nothing-lacking : (sig : Sig) (k : ℕ) (p : Pattern) (f : Frame) (fs : List Frame) (e : Entry) (s : Subst)
    (ms : List Bool) → AreLacking sig s f.under ms f.children (without tree_cmp e.terms f.left)
    → items sig k (onward (child p f fs) e) s ≡ []
nothing-lacking sig k p f fs e s ms h =
    none-in (items sig k (onward (child p f fs) e) s)
    (λ i m.
    let few = supply-behind sig k p f fs e s i m (some_may_match sig s f.under ms f.children) ms
    (covers-marked sig s f.under (some_may_match sig s f.under ms f.children) ms f.children h.ones (λ t k. k)) in
    omega (arith, few, h.few))

-- children that are covered are covered later too
covers-kept : (sig : Sig) (test : Tree → Bool) (f : Option ℕ) (ms : List Bool) (ps : Patterns) (s r : Subst)
    → Keeps s r → Covers sig s test f ms ps → Covers sig r test f ms ps
covers-kept sig test f [] ps s r k h = tt
covers-kept sig test f (true ∷ ms) no_patterns s r k h = tt
covers-kept sig test f (false ∷ ms) no_patterns s r k h = tt
covers-kept sig test f (true ∷ ms) (more_patterns p ps) s r k h = (
  h.0,
  λ t m. h.1 t (may_match-earlier sig f p t s r k m),
  covers-kept sig test f ms ps s r k h.2,
)
covers-kept sig test f (false ∷ ms) (more_patterns p ps) s r k h = covers-kept sig test f ms ps s r k h

-- where children are lacking before the first one takes, no choice of it has an item
pub lacking-before : (sig : Sig) (k : ℕ) (p : Pattern) (f : Frame) (fs : List Frame) (e : Entry) (s : Subst)
    (ms : List Bool) (i : Item) → AreLacking sig s f.under ms f.children f.left → In e (choices sig (child p f fs))
    → In i (items_by sig k (child p f fs) s e) → ⊥
lacking-before sig k p f fs e s ms i h c m =
    let a = item-by sig k (child p f fs) s e i m in
    let piece = ((choices-exact sig p f fs e.terms e.collapsed).0 c).0 in
    let test = some_may_match sig s f.under ms f.children in
    let few = supply-behind sig k p f fs e a.2.0 (a.0, i.1) a.2.2 test ms
    (covers-kept sig test f.under ms f.children s a.2.0 (solve-keeps sig s (said (child p f fs) e) a.2.0 a.2.1)
    (covers-marked sig s f.under test ms f.children h.ones (λ t k. k))) in
    let sum = passing-without test e.terms f.left
    (sublist-from_piece tree_cmp tree_cmp_total tree_same (comm_above sig f.under) e.terms f.left piece) in
    omega (arith, few, sum, h.few)
