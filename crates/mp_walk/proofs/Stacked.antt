-- A search over frames that lie on others goes through the upper ones first, and does not touch the lower ones.
use Rattle.std.proofs.Common.{◌≡◌, ℕ, zero, suc, ◌+◌, ◌<◌, List, [], ◌∷◌, ◌++◌, map, true, false, refl, ap, sym, ◌∙◌}
use Rattle.std.proofs.Common.{arith, append_assoc, append-nil}
use Rattle.std.specs.Prelude.{Some, None, flat_map, if◌then◌else◌}
use Rattle.mp_term.specs.Signature.{Sig}
use Rattle.mp_pattern.specs.PatternTree.{Pattern, symbol_pattern, app_pattern, wild_pattern, Patterns, no_patterns}
use Rattle.mp_pattern.specs.PatternTree.{more_patterns}
use Rattle.mp_pattern.specs.Size.{pattern_nodes, all_pattern_nodes}
use Rattle.mp_pattern.specs.Value.{Subst}
use Rattle.mp_pattern.specs.Fits.{Entry, Table}
use Rattle.mp_theory.specs.Frames.{Frame, Next, ended, refused, child, is_done, settle}
use Rattle.mp_theory.specs.Solve.{solve}
use Rattle.mp_theory.specs.Machine.{is_ended, entered, taken_out, onward, said, choices}
use Rattle.mp_theory.specs.Trail.{listed_by, derivations}
use Rattle.mp_theory.specs.OneList.{Item}
use Rattle.mp_theory.proofs.SubBags.{map-flat}
use Rattle.mp_walk.proofs.ByRule.{flat-same, flat-map}
use Rattle.mp_ac.proofs.FirstChild.{flat-flat}

-- the nodes that are still to come
abbrev pub frame_nodes : List Frame → ℕ
frame_nodes [] = 0
frame_nodes (f ∷ fs) = all_pattern_nodes f.children + frame_nodes fs

-- what was put out before an item
abbrev pub behind : Table → Item → Item
behind T i = (T ++ i.0, i.1)

module _ (sig : Sig) where
  abbrev Search : ℕ → Next → Table → Subst → List Item
  Search = derivations sig

  -- what was put out before is only put in front
  pub behind-all : (k : ℕ) (n : Next) (T U : Table) (s : Subst)
      → Search k n (T ++ U) s ≡ map (behind T) (Search k n U s)
  behind-all zero n T U s = elim (is_ended n) as
      (λ b. (if b then behind T (U, s) ∷ [] else [])
      ≡ map (behind T) (if b then (U, s) ∷ [] else [])) [ true ↦ refl | false ↦ refl ]
  behind-all (suc k) n T U s =
      flat-same (λ e. listed_by (λ r. Search k (onward n e) ((T ++ U) ++ (e ∷ [])) r) (solve sig s (said n e)))
      (λ e. map (behind T) (listed_by (λ r. Search k (onward n e) (U ++ (e ∷ [])) r) (solve sig s (said n e))))
      (choices sig n) (λ e.
      elim (solve sig s (said n e)) as (λ o. listed_by (λ r. Search k (onward n e) ((T ++ U) ++ (e ∷ [])) r) o
      ≡ map (behind T) (listed_by (λ r. Search k (onward n e) (U ++ (e ∷ [])) r) o)) [
        | None ↦ refl
        | Some r ↦ ap (λ V. Search k (onward n e) V r) (append_assoc T U (e ∷ []))
            ∙ behind-all k (onward n e) T (U ++ (e ∷ [])) r
      ])
      ∙ sym (map-flat (behind T) (λ e. listed_by (λ r. Search k (onward n e) (U ++ (e ∷ [])) r)
      (solve sig s (said n e))) (choices sig n))

  search-refused : (k : ℕ) (T : Table) (s : Subst) → Search k refused T s ≡ []
  search-refused zero T s = refl
  search-refused (suc k) T s = refl

  -- the search over the lower frames from an item on
  abbrev Lower : ℕ → List Frame → Table → Item → List Item
  Lower b base T i = Search b (settle base) (T ++ i.0) i.1

  abbrev Splits : ℕ → Type 0
  Splits k = (fs base : List Frame) (b m : ℕ) (T : Table) (s : Subst) → frame_nodes fs ≡ k → k + b ≡ m
      → Search m (settle (fs ++ base)) T s ≡ flat_map (Lower b base T) (Search k (settle fs) [] s)

  -- one choice of the uppermost frame
  by_child : (k : ℕ) → ((j : ℕ) → j < k → Splits j)
      → (p : Pattern) (ps : Patterns) (f : Frame) (fs base : List Frame) (b m : ℕ) (T : Table) (s : Subst)
      → pattern_nodes p + (all_pattern_nodes ps + frame_nodes fs) ≡ k → k + b ≡ m
      → f.children ≡ ps → Search m (child p f (fs ++ base)) T s
      ≡ flat_map (Lower b base T) (Search k (child p f fs) [] s)
  by_child zero ih p ps f fs base b m T s e h c = absurd (no_nodes p (omega arith))
    where
      no_nodes : (p : Pattern) → pattern_nodes p ≡ 0 → ⊥
      no_nodes (symbol_pattern n) q = omega arith
      no_nodes (wild_pattern w x) q = omega arith
      no_nodes (app_pattern g qs) q = omega arith
  by_child (suc k) ih p ps f fs base b zero T s e h c = absurd (omega arith)
  by_child (suc k) ih p ps f fs base b (suc m) T s e h c =
      flat-same (λ e. listed_by (λ r. Search m (onward (child p f (fs ++ base)) e) (T ++ (e ∷ [])) r)
      (solve sig s (said (child p f (fs ++ base)) e)))
      (λ e. flat_map (Lower b base T) (listed_by (λ r. Search k (onward (child p f fs) e) (e ∷ []) r)
      (solve sig s (said (child p f fs) e)))) (choices sig (child p f fs)) (λ e.
      ap (λ ts. listed_by (λ r. Search m (onward (child p f (fs ++ base)) e) (T ++ (e ∷ [])) r) (solve sig s ts))
      (same_said p e)
      ∙ elim (solve sig s (said (child p f fs) e)) as
      (λ o. listed_by (λ r. Search m (onward (child p f (fs ++ base)) e) (T ++ (e ∷ [])) r) o
      ≡ flat_map (Lower b base T) (listed_by (λ r. Search k (onward (child p f fs) e) (e ∷ []) r) o)) [
        | None ↦ refl
        | Some r ↦ ap (λ n. Search m n (T ++ (e ∷ [])) r) (same_onward p e) ∙ one p e r refl
      ])
      ∙ sym (flat-flat (Lower b base T) (λ e.
      listed_by (λ r. Search k (onward (child p f fs) e) (e ∷ []) r) (solve sig s (said (child p f fs) e)))
      (choices sig (child p f fs)))
    where
      same_said : (p : Pattern) (e : Entry) → said (child p f (fs ++ base)) e ≡ said (child p f fs) e
      same_said (symbol_pattern n) e = refl
      same_said (app_pattern g qs) e = refl
      same_said (wild_pattern w None) e = refl
      same_said (wild_pattern w (Some x)) e = refl

      same_onward : (p : Pattern) (e : Entry)
          → onward (child p f (fs ++ base)) e ≡ settle (entered p e (taken_out p e f ∷ fs) ++ base)
      same_onward (symbol_pattern n) e = refl
      same_onward (app_pattern g qs) e = refl
      same_onward (wild_pattern w x) e = refl

      entered_nodes : (q : Pattern) (d : Entry) → pattern_nodes q ≡ pattern_nodes p
          → frame_nodes (entered q d (taken_out q d f ∷ fs)) ≡ k
      entered_nodes (symbol_pattern n) d q =
          let z : all_pattern_nodes f.children ≡ all_pattern_nodes ps = ap all_pattern_nodes c in omega arith
      entered_nodes (wild_pattern w x) d q =
          let z : all_pattern_nodes f.children ≡ all_pattern_nodes ps = ap all_pattern_nodes c in omega arith
      entered_nodes (app_pattern g qs) d q =
          let z : all_pattern_nodes f.children ≡ all_pattern_nodes ps = ap all_pattern_nodes c in omega arith

      one : (q : Pattern) (d : Entry) (r : Subst) → pattern_nodes q ≡ pattern_nodes p
          → Search m (settle (entered q d (taken_out q d f ∷ fs) ++ base)) (T ++ (d ∷ [])) r
          ≡ flat_map (Lower b base T) (Search k (settle (entered q d (taken_out q d f ∷ fs))) (d ∷ []) r)
      one q d r n =
          ih k (omega arith) (entered q d (taken_out q d f ∷ fs)) base b m (T ++ (d ∷ [])) r (entered_nodes q d n)
          (omega arith)
          ∙ flat-same (Lower b base (T ++ (d ∷ []))) (λ i. Lower b base T (behind (d ∷ []) i))
          (Search k (settle (entered q d (taken_out q d f ∷ fs))) [] r)
          (λ i. ap (λ V. Search b (settle base) V i.1) (append_assoc T (d ∷ []) i.0))
          ∙ sym (flat-map (Lower b base T) (behind (d ∷ []))
          (Search k (settle (entered q d (taken_out q d f ∷ fs))) [] r))
          ∙ ap (flat_map (Lower b base T)) (sym
          (behind-all k (settle (entered q d (taken_out q d f ∷ fs))) (d ∷ []) [] r))

  splits-from : (k : ℕ) → ((j : ℕ) → j < k → Splits j) → Splits k
  splits-from k ih [] base b m T s e h =
      let z : k ≡ 0 = sym e in
      let y : m ≡ b = omega arith in
      ap (λ n. Search n (settle base) T s) y
      ∙ sym (append-nil (Search b (settle base) T s))
      ∙ ap (λ V. Search b (settle base) V s ++ []) (sym (append-nil T))
      ∙ ap (λ n. flat_map (Lower b base T) (Search n ended [] s)) (sym z)
  splits-from k ih (f ∷ fs) base b m T s e h =
      by_children f.children f refl (λ q. splits-from k ih fs base b m T s q h) e
    where
      by_children : (c : Patterns) (f : Frame) → f.children ≡ c
          → (frame_nodes fs ≡ k → Search m (settle (fs ++ base)) T s
          ≡ flat_map (Lower b base T) (Search k (settle fs) [] s)) → frame_nodes (f ∷ fs) ≡ k
          → Search m (settle (f ∷ (fs ++ base))) T s ≡ flat_map (Lower b base T) (Search k (settle (f ∷ fs)) [] s)
      by_children no_patterns f q go n =
          let z : all_pattern_nodes f.children ≡ 0 = ap all_pattern_nodes q in
          let y : frame_nodes fs ≡ k = omega arith in
          rw q (elim (is_done f.left f.owes) as
          (λ c. Search m (if c then settle (fs ++ base) else refused) T s
          ≡ flat_map (Lower b base T) (Search k (if c then settle fs else refused) [] s)) [
            | true ↦ go y
            | false ↦ search-refused m T s ∙ sym (ap (flat_map (Lower b base T)) (search-refused k [] s))
          ])
      by_children (more_patterns p ps) f q go n =
          let z : all_pattern_nodes f.children ≡ pattern_nodes p + all_pattern_nodes ps = ap all_pattern_nodes q in
          rw q (by_child k ih p ps (record f { children = ps }) fs base b m T s (omega arith) h refl)

  below-all : (n j : ℕ) → j < n → Splits j
  below-all zero j h = absurd (omega arith)
  below-all (suc n) j h = splits-from j (λ i l. below-all n i (omega arith))

  pub splits : (k : ℕ) → Splits k
  splits k = below-all (suc k) k (omega arith)
