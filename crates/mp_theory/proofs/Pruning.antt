-- What may be left out: a place from which no table is accepted has no solutions, and one where too few terms are left
-- is such a place.
use Rattle.std.proofs.Common.{◌≡◌, ℕ, suc, ◌≤◌, ◌+◌, List, [], ◌∷◌, ◌++◌, length, true, false, refl, ap, ◌∙◌}
use Rattle.std.proofs.Common.{arith, sym, subst, Bool}
use Rattle.std.specs.Prelude.{Option, Some, None, if◌then◌else◌, flat_map, filter_map, option_map, option_and_then, ⊤}
use Rattle.std.specs.List.{AllByRecursion}
use Rattle.std.specs.Cmp.{Equal-is}
use Rattle.mp_term.specs.Tree.{Tree}
use Rattle.mp_term.specs.Order.{tree_cmp}
use Rattle.mp_term.specs.OrderLaws.{tree_cmp_total, tree_same}
use Rattle.mp_term.specs.Signature.{Sig, in_kind}
use Rattle.mp_pattern.specs.PatternTree.{Wildcard, dot, kind, plus, star, counted, meets_count, optional}
use Rattle.mp_pattern.specs.PatternTree.{Pattern, symbol_pattern, app_pattern, wild_pattern, no_patterns}
use Rattle.mp_pattern.specs.PatternTree.{more_patterns, Patterns}
use Rattle.mp_pattern.specs.Value.{Value, one, seq, bag, Subst, value_of, same_name, merge}
use Rattle.mp_pattern.specs.Holds.{is_bag}
use Rattle.mp_pattern.specs.Variables.{comm_above}
use Rattle.mp_pattern.specs.Fits.{Entry, Table, WildTakes}
use Rattle.mp_theory.specs.Solve.{bind, given, sequence, solve}
use Rattle.mp_theory.proofs.Merging.{Refines, IsArranged, from_if, mapped, same_terms-sound}
use Rattle.mp_theory.specs.Frames.{Frame, Next, ended, refused, child, is_done, settle}
use Rattle.mp_term.specs.Search.{words, Accepts}
use Rattle.mp_term.specs.Pieces.{without}
use Rattle.mp_theory.specs.Machine.{is_ended, entered, taken_out, onward, takes, choices, said}
use Rattle.mp_theory.specs.Trail.{listed_by, solutions, derivations, derivations_by}
use Rattle.mp_theory.specs.Cursor.{branch}
use Rattle.mp_theory.specs.Bounds.{least, most, all_least, all_most}
use Rattle.mp_theory.specs.Within.{leaves_within, choices_within}
use Rattle.mp_term.proofs.SearchLaws.{words-sound}
use Rattle.mp_term.proofs.PiecesLaws.{length-without, sublist-from_piece}
use Rattle.mp_theory.proofs.Walk.{choices-exact}
use Rattle.mp_theory.proofs.TrailLaws.{solutions-is, derivations-is}
use Rattle.mp_theory.proofs.Cuts.{put}
use Rattle.mp_theory.proofs.Wildcards.{contributor-contributes, takes-given}
use Rattle.mp_theory.proofs.Solving.{then_some}
use Rattle.mp_theory.proofs.Bounds.{AtMost, at_most-sum, IsWithin, within, within-tested}
use Rattle.mp_theory.proofs.CursorLaws.{pruned}
use Rattle.mp_theory.proofs.NextTerm.{none-in}

module _ (sig : Sig) where
  -- what is left to the frame is within the bounds of its children
  abbrev pub FrameIsWithin : Frame → Type 0
  FrameIsWithin f = IsWithin sig f.under f.children (length f.left)

  -- so it is at the place that comes next and in the frames around
  abbrev WithinAt : Next → Type 0
  WithinAt ended = ⊤
  WithinAt refused = ⊥
  WithinAt (child p f fs) = IsWithin sig f.under (more_patterns p f.children) (length f.left)
      × AllByRecursion FrameIsWithin fs

  -- frames that settle are within their bounds
  done_within : (f : Option ℕ) (ts : List Tree) (b : Bool) → is_done ts b ≡ true
      → IsWithin sig f no_patterns (length ts)
  done_within f [] b e = record { enough = omega arith; room = omega arith }
  done_within f (t ∷ ts) b e = cc

  within_settled : (fs : List Frame) → WithinAt (settle fs) → AllByRecursion FrameIsWithin fs
  within_settled [] h = tt
  within_settled (f ∷ fs) h =
      elim f.children as
      (λ c. WithinAt
      (elim c [
        | no_patterns ↦ if is_done f.left f.owes then settle fs else refused
        | more_patterns p ps ↦ child p (record f { children = ps }) fs
      ])
      → IsWithin sig f.under c (length f.left) × AllByRecursion FrameIsWithin fs) [
        | no_patterns ↦ elim (is_done f.left f.owes) as
            (λ b. is_done f.left f.owes ≡ b → WithinAt (if b then settle fs else refused)
            → IsWithin sig f.under no_patterns (length f.left) × AllByRecursion FrameIsWithin fs) [
              | true ↦ λ e k. (done_within f.under f.left f.owes e, within_settled fs k)
              | false ↦ λ e k. absurd k
            ] refl
        | more_patterns p ps ↦ λ k. k
      ] h

  -- one child more
  one_more : (p : Pattern) (f : Option ℕ) (ps : Patterns) (l rest n : ℕ) → l + rest ≡ n
      → (least p ≤ l) × AtMost l (most sig f p) → IsWithin sig f ps rest → IsWithin sig f (more_patterns p ps) n
  one_more p f ps l rest n e w h =
      let enough : all_least ps ≤ rest = h.enough in
      let least_taken : least p ≤ l = w.0 in
      record { enough = omega arith; room = at_most-sum (most sig f p) (all_most sig f ps) l rest n e w.1 h.room }

  -- behind an entry the frame that it was taken from is within its bounds
  within_entered : (p : Pattern) (e : Entry) (f : Frame) (fs : List Frame)
      → AllByRecursion FrameIsWithin (entered p e (taken_out p e f ∷ fs))
      → FrameIsWithin (taken_out p e f) × AllByRecursion FrameIsWithin fs
  within_entered (symbol_pattern n) e f fs h = h
  within_entered (wild_pattern w x) e f fs h = h
  within_entered (app_pattern g ps) e f fs h = h.1

  -- from a place that a table is accepted from, each frame is within its bounds
  within_at : (n : Next) (T : Table) → Accepts (choices sig) onward is_ended n T → WithinAt n
  within_at ended T a = tt
  within_at refused [] a = cc
  within_at refused (e ∷ T) a = absurd a.0
  within_at (child p f fs) [] a = cc
  within_at (child p f fs) (e ∷ T) a =
      let k = (choices-exact sig p f fs e.terms e.collapsed).0 a.0 in
      let sum = length-without tree_cmp tree_cmp_total tree_same e.terms f.left
      (sublist-from_piece tree_cmp tree_cmp_total tree_same (comm_above sig f.under) e.terms f.left k.0) in
      let rest =
      within_entered p e f fs
      (within_settled (entered p e (taken_out p e f ∷ fs)) (within_at (onward (child p f fs) e) T a.1)) in (
        one_more p f.under f.children (length e.terms) (length (without tree_cmp e.terms f.left)) (length f.left) sum
            (within sig p f.under e.terms e.collapsed k.1) rest.0,
        rest.1,
      )

  -- so each frame is, wherever a table is accepted
  pub frames-within : (fs : List Frame) (T : Table) → Accepts (choices sig) onward is_ended (settle fs) T
      → AllByRecursion FrameIsWithin fs
  frames-within fs T a = within_settled fs (within_at (settle fs) T a)

  -- where nothing is accepted there is no solution
  pub solutions-none : (k : ℕ) (n : Next) (s : Subst) → ((T : Table) → Accepts (choices sig) onward is_ended n T → ⊥)
      → solutions sig k n s ≡ []
  solutions-none k n s h =
      solutions-is sig k n s ∙ ap (filter_map (λ T. solve sig s (takes n T)))
      (none-in (words (choices sig) onward is_ended k n)
      (λ T i. h T (words-sound (choices sig) onward is_ended k n T i).1))

  -- so a choice after which a frame is out of its bounds may be left out
  pub branch-none : (k : ℕ) (n : Next) (s : Subst) (e : Entry) (gs : List Frame) → onward n e ≡ settle gs
      → (AllByRecursion FrameIsWithin gs → ⊥) → branch sig k n s e ≡ []
  branch-none k n s e gs q h =
      elim (solve sig s (said n e)) as (λ o. listed_by (λ r. solutions sig k (onward n e) r) o ≡ []) [
        | None ↦ refl
        | Some r ↦ solutions-none k (onward n e) r
            (λ T a. h (frames-within gs T (subst (λ m. Accepts (choices sig) onward is_ended m T) q a)))
      ]

  -- the same of derivations
  pub derivations-none : (k : ℕ) (n : Next) (T : Table) (s : Subst)
      → ((W : Table) → Accepts (choices sig) onward is_ended n W → ⊥) → derivations sig k n T s ≡ []
  derivations-none k n T s h =
      derivations-is sig k n T s
      ∙ ap (filter_map (λ W. option_map (λ r. (T ++ W, r)) (solve sig s (takes n W))))
      (none-in (words (choices sig) onward is_ended k n)
      (λ W i. h W (words-sound (choices sig) onward is_ended k n W i).1))

  -- a choice that leaves the later children too few terms or too many leads nowhere
  pub derivations_by-outside : (k : ℕ) (p : Pattern) (f : Frame) (fs : List Frame) (T : Table) (s : Subst) (e : Entry)
      → leaves_within sig f e ≡ false → derivations_by sig k (child p f fs) T s e ≡ []
  derivations_by-outside k p f fs T s e h =
      elim (solve sig s (said (child p f fs) e)) as
      (λ o. listed_by (λ r. derivations sig k (onward (child p f fs) e) (T ++ e ∷ []) r) o ≡ []) [
        | None ↦ refl
        | Some r ↦
            derivations-none k (onward (child p f fs) e) (T ++ e ∷ []) r (λ W a.
            let w = (within_entered p e f fs (frames-within (entered p e (taken_out p e f ∷ fs)) W a)).0 in
            let q : false ≡ true =
            sym h ∙ (within-tested sig f.under f.children (length (without tree_cmp e.terms f.left))).0 w in
            cc)
      ]

  -- so the choices that leave them what they can take give all derivations
  pub derivations-within : (k : ℕ) (n : Next) (T : Table) (s : Subst)
      → derivations sig (suc k) n T s ≡ flat_map (derivations_by sig k n T s) (choices_within sig n)
  derivations-within k ended T s = refl
  derivations-within k refused T s = refl
  derivations-within k (child p f fs) T s =
      sym (pruned (leaves_within sig f) (derivations_by sig k (child p f fs) T s) (choices sig (child p f fs))
      (λ e i. derivations_by-outside k p f fs T s e))

-- a variable that is bound, and not to a multiset, has one value from then on
pub bound_merges : (s : Subst) (x : List ℕ) (v w : Value) (r : Subst) → value_of s x ≡ Some v → bind s x w ≡ Some r
    → (u : Value) × (merge v w ≡ Some u)
bound_merges [] x v w r e h = cc
bound_merges (b ∷ s) x v w r e h =
    elim (same_name b.name x) as (λ c. (if c then Some b.value else value_of s x) ≡ Some v
    → (if c then option_map (λ u. record { name = b.name; value = u } ∷ s) (merge b.value w) else option_map
    (λ q. b ∷ q) (bind s x w)) ≡ Some r → (u : Value) × (merge v w ≡ Some u)) [
      | true ↦ λ p q. let m = mapped (λ u. record { name = b.name; value = u } ∷ s) (merge b.value w) r q in
          let i : b.value ≡ v = cc in (m.0, subst (λ z. merge z w ≡ Some m.0) i m.1)
      | false ↦ λ p q. let m = mapped (λ z. b ∷ z) (bind s x w) r q in bound_merges s x v w m.0 p m.1
    ] e h

-- a value that merges with a bound one agrees with it
merged_refines : (v w u : Value) → is_bag (Some v) ≡ false → IsArranged w → merge v w ≡ Some u → Refines w v
merged_refines (one t) (one s) u n a e = sym (tree_same t s ((Equal-is (tree_cmp t s)).0 (from_if _ _ u e).0))
merged_refines (one t) (seq us) u n a e = cc
merged_refines (one t) (bag us) u n a e = cc
merged_refines (seq ts) (one s) u n a e = cc
merged_refines (seq ts) (seq us) u n a e = sym (same_terms-sound ts us (from_if _ _ u e).0)
merged_refines (seq ts) (bag us) u n a e = sym a ∙ sym (same_terms-sound _ _ (from_if _ _ u e).0)
merged_refines (bag ts) w u n a e = cc

-- what a take gives is arranged
sequence-arranged : (sig : Sig) (f : Option ℕ) (l : List Tree) → put (comm_above sig f) l ≡ l
    → IsArranged (sequence sig f l)
sequence-arranged sig f l o = elim (comm_above sig f) as (λ b. put b l ≡ l → IsArranged (if b then bag l else seq l))
    [ true ↦ λ e. e | false ↦ λ e. tt ] o

module _ (sig : Sig) where
  given-arranged : (f : Option ℕ) (w : Wildcard) (l : List Tree) (g : Value) → given sig f w l ≡ Some g
      → put (comm_above sig f) l ≡ l → IsArranged g
  given-arranged f dot l g e o = let c = contributor-contributes sig f l g e in subst IsArranged (sym c.is) tt
  given-arranged f (kind k) [] g e o = cc
  given-arranged f (kind k) (t ∷ []) g e o =
      elim (in_kind sig k t) as (λ b. (if b then Some (one t) else None) ≡ Some g → IsArranged g)
      [ true ↦ λ p. let i : one t ≡ g = cc in subst IsArranged i tt | false ↦ λ p. cc ] e
  given-arranged f (kind k) (t ∷ u ∷ l) g e o = cc
  given-arranged f plus [] g e o = cc
  given-arranged f plus (t ∷ l) g e o = let i : sequence sig f (t ∷ l) ≡ g = cc in
      subst IsArranged i (sequence-arranged sig f (t ∷ l) o)
  given-arranged f star l g e o = let i : sequence sig f l ≡ g = cc in subst IsArranged i (sequence-arranged sig f l o)
  given-arranged f (counted n c) l g e o =
      subst IsArranged (from_if (meets_count n c (length l)) (sequence sig f l) g e).1 (sequence-arranged sig f l o)
  given-arranged f (optional d) [] g e o = let i : one d ≡ g = cc in subst IsArranged i tt
  given-arranged f (optional d) (t ∷ l) g e o = let c = contributor-contributes sig f (t ∷ l) g e in
      subst IsArranged (sym c.is) tt

  -- so its wildcard takes what the value does: one list, or for an optional wildcard the empty one besides
  pub bound-takes : (f : Option ℕ) (w : Wildcard) (x : List ℕ) (l : List Tree) (s r : Subst) (v : Value)
      → value_of s x ≡ Some v → is_bag (Some v) ≡ false → put (comm_above sig f) l ≡ l
      → solve sig s (record { by = record { name = x; wildcard = w; under = f }; terms = l } ∷ []) ≡ Some r
      → WildTakes sig f w v l
  bound-takes f w x l s r v e n o h =
      let a = then_some (λ g. option_and_then (λ q. Some q) (bind s x g)) (given sig f w l) r h in
      let b = then_some (λ q. Some q) (bind s x a.0) r a.2 in
      let m = bound_merges s x v a.0 b.0 e b.1 in
      takes-given sig f w a.0 v l a.1 o (merged_refines v a.0 m.0 n (given-arranged f w l a.0 a.1 o) m.1)
