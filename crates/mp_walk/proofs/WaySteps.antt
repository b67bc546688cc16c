-- In an operation that isn't commutative the steps of a token are those of its ways, in order.
use Rattle.std.proofs.Common.{◌≡◌, ℕ, zero, suc, ◌+◌, ◌-◌, ◌≤◌, List, [], ◌∷◌, ◌++◌, map, filter, length, take}
use Rattle.std.proofs.Common.{Bool, true, false, ◌&&◌, ◌⊎◌, inl, inr, refl, ap, sym, ◌∙◌, subst, arith, append-nil}
use Rattle.std.specs.Prelude.{◌≢◌, Option, flat_map, nat_le, nat_lt, if◌then◌else◌}
use Rattle.std.specs.List.{range_with_len}
use Rattle.std.proofs.lemmas.Bool.Decides.{nat_tests}
use Rattle.mp_term.specs.Listing.{In}
use Rattle.mp_term.specs.Order.{tree_cmp}
use Rattle.mp_term.specs.OrderLaws.{tree_cmp_total, tree_same}
use Rattle.mp_term.specs.Pieces.{pieces, pieces_of, count_to}
use Rattle.mp_term.specs.Signature.{Sig}
use Rattle.mp_term.specs.Tree.{Tree, symbol}
use Rattle.mp_term.proofs.PiecesLaws.{same-itself}
use Rattle.mp_term.proofs.SearchLaws.{flat_map-same}
use Rattle.mp_pattern.specs.Fits.{Entry}
use Rattle.mp_pattern.specs.NetTokens.{NetToken, sym_token, enter_token, leave_token, wild_token, comm_token}
use Rattle.mp_pattern.specs.PatternTree.{is_sequence, Pattern, symbol_pattern, app_pattern, wild_pattern}
use Rattle.mp_pattern.specs.PatternTree.{Patterns, no_patterns}
use Rattle.mp_pattern.specs.Value.{Subst}
use Rattle.mp_pattern.specs.Variables.{comm_above}
use Rattle.mp_theory.specs.Machine.{entries, reads}
use Rattle.mp_theory.specs.Trail.{listed_by}
use Rattle.mp_theory.proofs.Merging.{same_terms-sound}
use Rattle.mp_walk.specs.TokenMachine.{Open, rest_of_open, opened, numbered_wildcard, entries_for, told}
use Rattle.mp_walk.specs.TokenMachine.{below_items, steps_in}
use Rattle.mp_walk.specs.Ways.{Step, front_entry, first_entry, is_way, item_step, front_steps, way_steps}
use Rattle.mp_walk.specs.Ways.{ways_from}
use Rattle.mp_walk.proofs.Alike.{out, at}
use Rattle.mp_walk.proofs.ByRule.{flat-none}
use Rattle.mp_ac.proofs.FirstChild.{flat-flat}

-- ---- pieces that are fronts

-- the one piece of a length is the front of the length
front-of : (n : ℕ) (ts : List Tree) → n ≤ length ts → pieces_of tree_cmp false n ts ≡ take n ts ∷ []
front-of zero ts h = refl
front-of (suc n) [] h = absurd (omega arith)
front-of (suc n) (t ∷ ts) h =
    rw (same-itself tree_cmp tree_cmp_total tree_same t)
    (ap (λ ls. map (λ w. t ∷ w) ls ++ []) (front-of n ts (omega arith)))

in-count : (k m n : ℕ) → In n (count_to k m) → (k ≤ n) × (n ≤ k + m)
in-count k zero n (inl e) = (subst (λ z. k ≤ z) (sym e) (omega arith), subst (λ z. z ≤ k + 0) (sym e) (omega arith))
in-count k zero n (inr i) = absurd i
in-count k (suc m) n (inl e) = (
  subst (λ z. k ≤ z) (sym e) (omega arith),
  subst (λ z. z ≤ k + suc m) (sym e)
      (omega arith),
)
in-count k (suc m) n (inr i) =
    let a = in-count (suc k) m n i in
    (omega (arith, a.0), omega (arith, a.1))

in-range : (a n k : ℕ) → In k (range_with_len a n) → a ≤ k
in-range a zero k i = absurd i
in-range a (suc n) k (inl e) = subst (λ z. a ≤ z) (sym e) (omega arith)
in-range a (suc n) k (inr i) = let h = in-range (a + 1) n k i in omega (arith, h)

pub flat-none_in : {X Y : Type 0} (f : X → List Y) (xs : List X) → ((x : X) → In x xs → f x ≡ []) → flat_map f xs ≡ []
flat-none_in f [] h = refl
flat-none_in f (x ∷ xs) h = rw (h x (inl refl)) (flat-none_in f xs (λ y i. h y (inr i)))

module _ {Y : Type 0} (r : Entry → Bool) (G : Entry → List Y) where
  -- what an entry gives, if it passes
  abbrev by_entry : Entry → List Y
  by_entry e = if r e then G e else []

  filter-by : (es : List Entry) → flat_map G (filter r es) ≡ flat_map by_entry es
  filter-by [] = refl
  filter-by (e ∷ es) = elim (r e) as
      (λ b. flat_map G (if b then e ∷ filter r es else filter r es) ≡ (if b then G e else []) ++ flat_map by_entry es) [
        | true ↦ ap (λ l. G e ++ l) (filter-by es)
        | false ↦ filter-by es
      ]

  -- what the entries of a front give
  abbrev by_front : List Tree → ℕ → List Y
  by_front ts n = by_entry (record { terms = take n ts; collapsed = false })
      ++ by_entry (record { terms = take n ts; collapsed = true })

  abbrev by_list : List Tree → List Y
  by_list l = by_entry (record { terms = l; collapsed = false })
      ++ (by_entry (record { terms = l; collapsed = true }) ++ [])

  -- the entries of the pieces are those of the fronts
  fronts-by : (ts : List Tree) → flat_map G (filter r (entries (pieces tree_cmp false ts)))
      ≡ flat_map (by_front ts) (count_to 0 (length ts))
  fronts-by ts =
      filter-by (entries (pieces tree_cmp false ts))
      ∙ flat-flat by_entry (λ l. record { terms = l; collapsed = false } ∷ record { terms = l; collapsed = true } ∷ [])
      (pieces tree_cmp false ts)
      ∙ flat-flat by_list (λ n. pieces_of tree_cmp false n ts) (count_to 0 (length ts))
      ∙ flat_map-same (λ n. flat_map by_list (pieces_of tree_cmp false n ts)) (by_front ts) (count_to 0 (length ts))
      (λ n i.
      ap (flat_map by_list) (front-of n ts (let a = in-count 0 (length ts) n i in omega (arith, a.1)))
      ∙ append-nil (by_list (take n ts))
      ∙ ap (λ l. by_entry (record { terms = take n ts; collapsed = false }) ++ l)
      (append-nil (by_entry (record { terms = take n ts; collapsed = true }))))

-- ---- ways

module _ {Y : Type 0} where
  -- where no way from 2 on gives anything, the first two give all
  first-ways : (W : ℕ → List Y) (m : ℕ) → ((n : ℕ) → 2 ≤ n → W n ≡ [])
      → flat_map W (range_with_len 0 (m + 2 - 0)) ≡ W 0 ++ W 1
  first-ways W m h =
      ap (λ n. flat_map W (range_with_len 0 n)) (let z : m + 2 - 0 ≡ suc (suc m) = omega arith in z)
      ∙ ap (λ l. W 0 ++ (W 1 ++ l)) (flat-none_in W (range_with_len 2 m) (λ n i. h n (in-range 2 m n i)))
      ∙ ap (λ l. W 0 ++ l) (append-nil (W 1))

  -- where no front but that of one term gives anything, that gives all, if there is one
  one-front : (X : ℕ → List Y) (m : ℕ) → ((n : ℕ) → n ≤ m → n ≢ 1 → X n ≡ [])
      → flat_map X (count_to 0 m) ≡ (if nat_le 1 m then X 1 else [])
  one-front X zero h = append-nil (X 0) ∙ h 0 (omega arith) (λ e. (let z : 0 ≡ 1 = e in omega arith))
  one-front X (suc zero) h =
      ap (λ l. l ++ (X 1 ++ [])) (h 0 (omega arith) (λ e. (let z : 0 ≡ 1 = e in omega arith))) ∙ append-nil (X 1)
  one-front X (suc (suc m)) h =
      ap (λ l. l ++ (X 1 ++ flat_map X (count_to 2 m))) (h 0 (omega arith) (λ e. (let z : 0 ≡ 1 = e in omega arith)))
      ∙ ap (λ l. X 1 ++ l) (flat-none_in X (count_to 2 m) (λ n i.
      let a = in-count 2 m n i in
      h n (omega (arith, a.1)) (λ e. (let z : n ≡ 1 = e in omega (arith, a.0)))))
      ∙ append-nil (X 1)
      ∙ sym (ap (λ b. if b then X 1 else []) (let z : nat_le 1 (suc (suc m)) ≡ true = grind (arith, nat_tests) in z))

  -- where each front gives what its way gives, and there is one way more that gives nothing
  all-fronts : (X W : ℕ → List Y) (a m : ℕ) → ((n : ℕ) → n ≤ a + m → X n ≡ W n) → W (a + m + 1) ≡ []
      → flat_map X (count_to a m) ≡ flat_map W (range_with_len a (suc (suc m)))
  all-fronts X W a zero h e =
      ap (λ l. l ++ []) (h a (omega arith))
      ∙ ap (λ l. W a ++ (l ++ [])) (sym (ap W (let z : a + 1 ≡ a + 0 + 1 = omega arith in z) ∙ e))
  all-fronts X W a (suc m) h e =
      ap (λ l. l ++ flat_map X (count_to (suc a) m)) (h a (omega arith))
      ∙ ap (λ l. W a ++ l) (all-fronts X W (suc a) m (λ n k. h n (omega (arith, k)))
      (ap W (let z : suc a + m + 1 ≡ a + suc m + 1 = omega arith in z) ∙ e)
      ∙ ap (λ n. flat_map W (range_with_len n (suc (suc m)))) (let z : suc a ≡ a + 1 = omega arith in z))

-- ---- which entries are read

-- no list of one term
abbrev IsNotOne : List Tree → Type 0
IsNotOne l = (l ≡ []) ⊎ ((t : Tree) × (u : Tree) × (us : List Tree) × (l ≡ t ∷ u ∷ us))

front-not_one : (n : ℕ) (ts : List Tree) → n ≤ length ts → n ≢ 1 → IsNotOne (take n ts)
front-not_one zero ts h d = inl refl
front-not_one (suc zero) ts h d = absurd (d refl)
front-not_one (suc (suc n)) [] h d = absurd (omega arith)
front-not_one (suc (suc n)) (t ∷ []) h d = absurd (omega arith)
front-not_one (suc (suc n)) (t ∷ u ∷ ts) h d = inr (t, u, take n ts, refl)

no-front : (ts : List Tree) → nat_le 1 (length ts) ≡ false → take 1 ts ≡ []
no-front [] h = refl
no-front (t ∷ ts) h = (let z : nat_le 1 (suc (length ts)) ≡ true = grind (arith, nat_tests) in let w : false
    ≡ true = sym h ∙ z in cc)

module _ (sig : Sig) (u : Option ℕ) where
  symbol-not_one : (n : List ℕ) (c : Bool) (l : List Tree) → IsNotOne l
      → reads sig (symbol_pattern n) u (record { terms = l; collapsed = c }) ≡ false
  symbol-not_one n true l h = refl
  symbol-not_one n false l (inl e) = ap (λ m.
      reads sig (symbol_pattern n) u (record { terms = m; collapsed = false })) e
  symbol-not_one n false l (inr s) =
      by_test (reads sig (symbol_pattern n) u (record { terms = l; collapsed = false })) refl
    where
      by_test : (b : Bool) → reads sig (symbol_pattern n) u (record { terms = l; collapsed = false }) ≡ b
          → reads sig (symbol_pattern n) u (record { terms = l; collapsed = false }) ≡ false
      by_test false e = e
      by_test true e =
          let k : l ≡ symbol n ∷ [] = same_terms-sound l (symbol n ∷ []) e in
          let z : s.0 ∷ s.1 ∷ s.2 ≡ symbol n ∷ [] = sym s.3 ∙ k in
          cc

  app-not_one : (g : ℕ) (ps : Patterns) (c : Bool) (l : List Tree) → IsNotOne l
      → reads sig (app_pattern g ps) u (record { terms = l; collapsed = c }) ≡ false
  app-not_one g ps true l (inl e) = ap (λ m. reads sig (app_pattern g ps) u (record { terms = m; collapsed = true })) e
  app-not_one g ps false l (inl e) = ap (λ m.
      reads sig (app_pattern g ps) u (record { terms = m; collapsed = false })) e
  app-not_one g ps true l (inr s) = ap (λ m.
      reads sig (app_pattern g ps) u (record { terms = m; collapsed = true })) s.3
  app-not_one g ps false l (inr s) = ap (λ m.
      reads sig (app_pattern g ps) u (record { terms = m; collapsed = false })) s.3

-- ---- the steps

map-flat : {X Y : Type 0} (f : X → Y) (xs : List X) → map f xs ≡ flat_map (λ x. f x ∷ []) xs
map-flat f [] = refl
map-flat f (x ∷ xs) = ap (λ ys. f x ∷ ys) (map-flat f xs)

module _ (sig : Sig) (f : Open) (fs : List Open) (s : Subst) (ordered : comm_above sig f.under ≡ false) where
  -- the steps by the entries of fronts
  steps-by : (p : Pattern) (G : Entry → List Step) → flat_map G (entries_for sig f p)
      ≡ flat_map (by_front (reads sig p f.under) G f.left) (count_to 0 (length f.left))
  steps-by p G =
      ap (λ b. flat_map G (filter (reads sig p f.under) (entries (pieces tree_cmp b f.left)))) ordered
      ∙ fronts-by (reads sig p f.under) G f.left

  none-by : (p : Pattern) (G : Entry → List Step) → ((c : Bool) (l : List Tree) → IsNotOne l
      → reads sig p f.under (record { terms = l; collapsed = c }) ≡ false) → (l : List Tree) → IsNotOne l
      → by_entry (reads sig p f.under) G (record { terms = l; collapsed = false })
      ++ by_entry (reads sig p f.under) G (record { terms = l; collapsed = true }) ≡ []
  none-by p G read_not l h = rw (read_not false l h, read_not true l h) refl

  -- of a token that takes one term
  one-by : (p : Pattern) (G : Entry → List Step) → ((c : Bool) (l : List Tree) → IsNotOne l
      → reads sig p f.under (record { terms = l; collapsed = c }) ≡ false)
      → flat_map G (entries_for sig f p)
      ≡ (if nat_le 1 (length f.left) then by_front (reads sig p f.under) G f.left 1 else [])
  one-by p G read_not =
      steps-by p G ∙ one-front (by_front (reads sig p f.under) G f.left) (length f.left) (λ n k d.
      none-by p G read_not (take n f.left) (front-not_one n f.left k d))

  -- an application by its two ways
  two-by : (p : Pattern) (G : Entry → List Step) → ((c : Bool) (l : List Tree) → IsNotOne l
      → reads sig p f.under (record { terms = l; collapsed = c }) ≡ false)
      → flat_map G (entries_for sig f p)
      ≡ (if is_way sig f p 0 then G (first_entry f.left 0) else [])
      ++ (if is_way sig f p 1 then G (first_entry f.left 1) else [])
  two-by p G read_not = one-by p G read_not ∙ by_room (nat_le 1 (length f.left)) refl
    where
      by_room : (b : Bool) → nat_le 1 (length f.left) ≡ b
          → (if b then by_front (reads sig p f.under) G f.left 1 else [])
          ≡ (if is_way sig f p 0 then G (first_entry f.left 0) else [])
          ++ (if is_way sig f p 1 then G (first_entry f.left 1) else [])
      by_room true e = refl
      by_room false e = sym (none-by p G read_not (take 1 f.left) (inl (no-front f.left e)))

  -- the steps of a token are those of its ways
  pub steps_in-ways : (k : NetToken) → steps_in sig (below_items sig) f fs s k ≡ ways_from sig f fs s k 0
  steps_in-ways (sym_token n) =
      map-flat (λ e. out (e ∷ []) (at (rest_of_open (symbol_pattern n) e f ∷ fs) s))
      (entries_for sig f (symbol_pattern n))
      ∙ one-by (symbol_pattern n) (λ e. out (e ∷ []) (at (rest_of_open (symbol_pattern n) e f ∷ fs) s) ∷ [])
      (λ c l h. symbol-not_one sig f.under n c l h)
      ∙ by_room (nat_le 1 (length f.left))
      ∙ sym (append-nil (way_steps sig f fs s (sym_token n) 0))
      ∙ sym (first-ways (way_steps sig f fs s (sym_token n)) (length f.left) later)
    where
      later : (m : ℕ) → 2 ≤ m → way_steps sig f fs s (sym_token n) m ≡ []
      later zero h = absurd (omega arith)
      later (suc m) h = refl

      by_room : (b : Bool)
          → (if b then by_front (reads sig (symbol_pattern n) f.under)
          (λ e. out (e ∷ []) (at (rest_of_open (symbol_pattern n) e f ∷ fs) s) ∷ []) f.left 1 else [])
          ≡ (if b && reads sig (symbol_pattern n) f.under (front_entry f.left 1)
          then out (front_entry f.left 1 ∷ [])
          (at (rest_of_open (symbol_pattern n) (front_entry f.left 1) f ∷ fs) s) ∷ [] else [])
      by_room true = append-nil (if reads sig (symbol_pattern n) f.under (front_entry f.left 1)
          then out (front_entry f.left 1 ∷ [])
          (at (rest_of_open (symbol_pattern n) (front_entry f.left 1) f ∷ fs) s) ∷ [] else [])
      by_room false = refl
  steps_in-ways (leave_token g) =
      sym (append-nil (way_steps sig f fs s (leave_token g) 0))
      ∙ sym (first-ways (way_steps sig f fs s (leave_token g)) (length f.left) later)
    where
      later : (m : ℕ) → 2 ≤ m → way_steps sig f fs s (leave_token g) m ≡ []
      later zero h = absurd (omega arith)
      later (suc m) h = refl
  steps_in-ways (enter_token g) =
      map-flat (λ e. out (e ∷ []) (at (opened g e ∷ rest_of_open (app_pattern g no_patterns) e f ∷ fs) s))
      (entries_for sig f (app_pattern g no_patterns))
      ∙ two-by (app_pattern g no_patterns)
      (λ e. out (e ∷ []) (at (opened g e ∷ rest_of_open (app_pattern g no_patterns) e f ∷ fs) s) ∷ [])
      (λ c l h. app-not_one sig f.under g no_patterns c l h)
      ∙ sym (first-ways (way_steps sig f fs s (enter_token g)) (length f.left) later)
    where
      later : (m : ℕ) → 2 ≤ m → way_steps sig f fs s (enter_token g) m ≡ []
      later m h = rw (let z : nat_lt m 2 ≡ false = grind (arith, nat_tests) in z) refl
  steps_in-ways (wild_token w x) =
      by_collapsed (f.collapsed && is_sequence w)
    where
      by_collapsed : (b : Bool)
          → (if b then [] else flat_map (λ e.
          listed_by (λ r. out (e ∷ []) (at (rest_of_open (numbered_wildcard w x) e f ∷ fs) r) ∷ [])
          (told sig f (numbered_wildcard w x) e s)) (entries_for sig f (numbered_wildcard w x)))
          ≡ flat_map (λ n. if b then [] else front_steps sig f fs s w x n) (range_with_len 0 (length f.left + 2 - 0))
      by_collapsed true = sym (flat-none (λ n. []) (range_with_len 0 (length f.left + 2 - 0)) (λ n. refl))
      by_collapsed false =
          steps-by (numbered_wildcard w x) (λ e.
          listed_by (λ r. out (e ∷ []) (at (rest_of_open (numbered_wildcard w x) e f ∷ fs) r) ∷ [])
          (told sig f (numbered_wildcard w x) e s))
          ∙ all-fronts (by_front (reads sig (numbered_wildcard w x) f.under)
          (λ e. listed_by (λ r. out (e ∷ []) (at (rest_of_open (numbered_wildcard w x) e f ∷ fs) r) ∷ [])
          (told sig f (numbered_wildcard w x) e s)) f.left) (front_steps sig f fs s w x) 0 (length f.left)
          (λ n h. append-nil (by_entry (reads sig (numbered_wildcard w x) f.under)
          (λ e. listed_by (λ r. out (e ∷ []) (at (rest_of_open (numbered_wildcard w x) e f ∷ fs) r) ∷ [])
          (told sig f (numbered_wildcard w x) e s)) (front_entry f.left n))
          ∙ sym (ap (λ b. if b && reads sig (numbered_wildcard w x) f.under (front_entry f.left n)
          then listed_by (λ r. out (front_entry f.left n ∷ [])
          (at (rest_of_open (numbered_wildcard w x) (front_entry f.left n) f ∷ fs) r) ∷ [])
          (told sig f (numbered_wildcard w x) (front_entry f.left n) s) else [])
          (let z : nat_le n (length f.left) ≡ true = grind (arith, nat_tests, h) in z)))
          (rw (let z : nat_le (0 + length f.left + 1) (length f.left) ≡ false = grind (arith, nat_tests) in z) refl)
          ∙ ap (λ n. flat_map (front_steps sig f fs s w x) (range_with_len 0 n))
          (let z : suc (suc (length f.left)) ≡ length f.left + 2 - 0 = omega arith in z)
  steps_in-ways (comm_token (symbol_pattern n)) =
      flat-none (λ e. map (item_step f fs (symbol_pattern n) e) []) (entries_for sig f (symbol_pattern n)) (λ e. refl)
      ∙ sym (flat-none (way_steps sig f fs s (comm_token (symbol_pattern n))) (range_with_len 0 (length f.left + 2 - 0))
      (λ m.
      elim (is_way sig f (symbol_pattern n) m) as
      (λ b. (if b then map (item_step f fs (symbol_pattern n) (first_entry f.left m)) [] else []) ≡ [])
      [ true ↦ refl | false ↦ refl ]))
  steps_in-ways (comm_token (wild_pattern w x)) =
      flat-none (λ e. map (item_step f fs (wild_pattern w x) e) []) (entries_for sig f (wild_pattern w x)) (λ e. refl)
      ∙ sym (flat-none (way_steps sig f fs s (comm_token (wild_pattern w x))) (range_with_len 0 (length f.left + 2 - 0))
      (λ m.
      elim (is_way sig f (wild_pattern w x) m) as
      (λ b. (if b then map (item_step f fs (wild_pattern w x) (first_entry f.left m)) [] else []) ≡ [])
      [ true ↦ refl | false ↦ refl ]))
  steps_in-ways (comm_token (app_pattern g ps)) =
      two-by (app_pattern g ps) (λ e. map (item_step f fs (app_pattern g ps) e)
      (below_items sig (app_pattern g ps) e s))
      (λ c l h. app-not_one sig f.under g ps c l h)
      ∙ sym (first-ways (way_steps sig f fs s (comm_token (app_pattern g ps))) (length f.left) later)
    where
      later : (m : ℕ) → 2 ≤ m → way_steps sig f fs s (comm_token (app_pattern g ps)) m ≡ []
      later m h = rw (let z : nat_lt m 2 ≡ false = grind (arith, nat_tests) in z) refl
