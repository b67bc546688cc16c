-- Where syntactic patterns come next they take a term each, in one way at most, and the items go on behind that.
use Rattle.std.proofs.Common.{◌≡◌, ℕ, zero, suc, ◌+◌, List, [], ◌∷◌, ◌++◌, map, Bool, true, false, ◌&&◌, not, refl}
use Rattle.std.proofs.Common.{ap, sym, ◌∙◌, arith, append-nil, append_assoc}
use Rattle.std.specs.Prelude.{Option, Some, None, filter, flat_map, option_and_then, if◌then◌else◌, nat_eq}
use Rattle.std.proofs.lemmas.Bool.{and_parts}
use Rattle.mp_term.specs.Order.{tree_cmp}
use Rattle.mp_term.specs.OrderLaws.{tree_cmp_total, tree_same}
use Rattle.mp_term.specs.Pieces.{without}
use Rattle.mp_term.specs.Signature.{Sig}
use Rattle.mp_term.specs.Tree.{Tree, symbol, app, Trees, no_trees, more_trees, tree_list}
use Rattle.mp_term.proofs.PiecesLaws.{same-itself}
use Rattle.mp_pattern.specs.Fits.{Entry, Table, is_left_out, joined}
use Rattle.mp_pattern.specs.PatternTree.{dot, kind, plus, star, counted, optional, Pattern, symbol_pattern}
use Rattle.mp_pattern.specs.PatternTree.{app_pattern, wild_pattern, Patterns, no_patterns, more_patterns}
use Rattle.mp_pattern.specs.Size.{pattern_nodes, all_pattern_nodes}
use Rattle.mp_pattern.specs.Syntactic.{is_plain, is_syntactic, all_syntactic}
use Rattle.mp_pattern.specs.Value.{Subst, same_name}
use Rattle.mp_pattern.proofs.OnePattern.{has_nodes}
use Rattle.mp_theory.specs.Filled.{filled, all_filled}
use Rattle.mp_theory.specs.Frames.{Frame, refused, child, settle}
use Rattle.mp_theory.specs.Items.{items, items_by, behind}
use Rattle.mp_theory.specs.Machine.{reads, taken_out}
use Rattle.mp_theory.specs.OneList.{Item}
use Rattle.mp_theory.specs.Shape.{shape, shapes, suits, takings, table_of, tables_of}
use Rattle.mp_theory.specs.Solve.{solve}
use Rattle.mp_theory.specs.Trail.{listed_by}
use Rattle.mp_theory.proofs.FilledLaws.{filled-solve}
use Rattle.mp_theory.proofs.ShapeLaws.{IsFlat, plain-flat}
use Rattle.mp_theory.specs.Items.{in_front}
use Rattle.mp_theory.proofs.NextTerm.{entry, both, symbols-same, TakesTerm, flat-takes, wild-reads, wild-said}
use Rattle.mp_theory.proofs.NextTerm.{choices-none, choices-first}

-- of two ways, of which the second gives nothing
flat-first : {X Y : Type 0} (f : X → List Y) (r : X → Bool) (x y : X) → (if r y then f y else []) ≡ []
    → flat_map f (filter r (x ∷ y ∷ [])) ≡ (if r x then f x else [])
flat-first f r x y h = by_first (r x)
  where
    last : (b : Bool) → flat_map f (if b then y ∷ [] else []) ≡ (if b then f y else [])
    last true = append-nil (f y)
    last false = refl

    by_first : (a : Bool)
        → flat_map f (if a then x ∷ (if r y then y ∷ [] else []) else (if r y then y ∷ [] else []))
        ≡ (if a then f x else [])
    by_first true = ap (λ ys. f x ++ ys) (last (r y) ∙ h) ∙ append-nil (f x)
    by_first false = last (r y) ∙ h

-- entries in front, one after the other
pub in_front-none : (is : List Item) → map (in_front []) is ≡ is
in_front-none [] = refl
in_front-none (i ∷ is) = ap (λ js. i ∷ js) (in_front-none is)

behind-in_front : (e : Entry) (T : Table) (is : List Item)
    → map (behind e) (map (in_front T) is) ≡ map (in_front (e ∷ T)) is
behind-in_front e T [] = refl
behind-in_front e T (i ∷ is) = ap (λ js. (e ∷ (T ++ i.0), i.1) ∷ js) (behind-in_front e T is)

in_front-behind : (e : Entry) (is : List Item) → map (behind e) is ≡ map (in_front (e ∷ [])) is
in_front-behind e [] = refl
in_front-behind e (i ∷ is) = ap (λ js. (e ∷ i.0, i.1) ∷ js) (in_front-behind e is)

in_front-append : (T U : Table) (is : List Item) → map (in_front T) (map (in_front U) is) ≡ map (in_front (T ++ U)) is
in_front-append T U [] = refl
in_front-append T U (i ∷ is) = ap (λ V. (V, i.1) ∷ map (in_front T) (map (in_front U) is)) (sym (append_assoc T U i.0))
    ∙ ap (λ js. ((T ++ U) ++ i.0, i.1) ∷ js) (in_front-append T U is)

-- a child that takes a term owes what was owed
pub not-left_out : (p : Pattern) (t : Tree) (ts : List Tree) → is_left_out p (t ∷ ts) ≡ false
not-left_out (symbol_pattern n) t ts = refl
not-left_out (app_pattern g ps) t ts = refl
not-left_out (wild_pattern dot x) t ts = refl
not-left_out (wild_pattern (kind k) x) t ts = refl
not-left_out (wild_pattern plus x) t ts = refl
not-left_out (wild_pattern star x) t ts = refl
not-left_out (wild_pattern (counted n c) x) t ts = refl
not-left_out (wild_pattern (optional d) x) t ts = refl

owed-still : (b : Bool) (p : Pattern) (t : Tree) → b && not (is_left_out p (t ∷ [])) ≡ b
owed-still false p t = refl
owed-still true p t = ap not (not-left_out p t [])

-- the frame without the term
abbrev pub without_term : Frame → Tree → Frame
without_term f t = record {
  under = f.under;
  children = f.children;
  left = without tree_cmp (t ∷ []) f.left;
  owes = f.owes;
}

taken-term : (p : Pattern) (t : Tree) (c : Bool) (f : Frame) → taken_out p (entry t c) f ≡ without_term f t
taken-term p t c f =
    ap (λ b. record {
      under = f.under;
      children = f.children;
      left = without tree_cmp (t ∷ []) f.left;
      owes = b;
    }) (owed-still f.owes p t)

module _ (sig : Sig) where
  -- what goes on behind the table of a pattern that has the shape
  abbrev pub goes_on : Pattern → Tree → (Subst → List Item) → Subst → List Item
  goes_on p t F s = if shape p t then map (in_front (table_of p t)) (listed_by F (filled sig p t s)) else []

  -- so with patterns, where nothing is owed
  abbrev pub all_go_on : Patterns → Trees → Bool → (Subst → List Item) → Subst → List Item
  all_go_on ps ts owes F s =
      if not owes && shapes ps ts then map (in_front (joined (tables_of ps ts))) (listed_by F (all_filled sig ps ts s))
      else []

  -- one pattern and then the others
  goes-then : (p : Pattern) (ps : Patterns) (t : Tree) (ts : Trees) (owes : Bool) (F G : Subst → List Item) (s : Subst)
      → ((r : Subst) → F r ≡ all_go_on ps ts owes G r)
      → goes_on p t F s ≡ all_go_on (more_patterns p ps) (more_trees t ts) owes G s
  goes-then p ps t ts owes F G s same = by_shape (shape p t) owes (shapes ps ts) same (filled sig p t s)
    where
      A : Table
      A = table_of p t

      B : Table
      B = joined (tables_of ps ts)

      by_shape : (a b c : Bool)
          → ((r : Subst)
          → F r ≡ (if not b && c then map (in_front B) (listed_by G (all_filled sig ps ts r)) else []))
          → (o : Option Subst) → (if a then map (in_front A) (listed_by F o) else [])
          ≡ (if not b && (a && c) then map (in_front (A ++ B)) (listed_by G (option_and_then (all_filled sig ps ts) o))
          else [])
      by_shape false false c e o = refl
      by_shape false true c e o = refl
      by_shape true true c e None = refl
      by_shape true true c e (Some r) = ap (map (in_front A)) (e r)
      by_shape true false false e None = refl
      by_shape true false false e (Some r) = ap (map (in_front A)) (e r)
      by_shape true false true e None = refl
      by_shape true false true e (Some r) =
          ap (map (in_front A)) (e r) ∙ in_front-append A B (listed_by G (all_filled sig ps ts r))

  refused-none : (k : ℕ) (s : Subst) → items sig k refused s ≡ []
  refused-none zero s = refl
  refused-none (suc k) s = refl

  -- what the entries by arguments and collapsed of one term lead to
  abbrev pub ways : ℕ → Pattern → Frame → List Frame → Subst → Tree → List Item
  ways j p f fs s t = flat_map (items_by sig j (child p f fs) s) (filter (reads sig p f.under) (both t))

  -- where the place after an entry of a leaf is
  leaf-items : (p : Pattern) (t : Tree) (f : Frame) (fs : List Frame) (j k : ℕ) (o : Option Subst) → 1 + k ≡ suc j
      → map (behind (entry t false)) (listed_by (λ r. items sig j (settle (taken_out p (entry t false) f ∷ fs)) r) o)
      ≡ map (in_front (entry t false ∷ []))
      (listed_by (λ r. items sig k (settle (without_term f t ∷ fs)) r) o)
  leaf-items p t f fs j k o e =
      let n : j ≡ k = omega (arith, e) in
      ap (λ m. map (behind (entry t false))
      (listed_by (λ r. items sig m (settle (taken_out p (entry t false) f ∷ fs)) r) o)) n
      ∙ ap (λ g. map (behind (entry t false)) (listed_by (λ r. items sig k (settle (g ∷ fs)) r) o))
      (taken-term p t false f)
      ∙ in_front-behind (entry t false) (listed_by (λ r. items sig k (settle (without_term f t ∷ fs)) r) o)

  -- where an application is collapsed nothing is found, if nothing is found in its frame
  collapsed-none : (g : ℕ) (ps : Patterns) (t : Tree) (f : Frame) (fs : List Frame) (j : ℕ) (s : Subst)
      → items sig j (settle (record { under = Some g; children = ps; left = t ∷ []; owes = true }
      ∷ taken_out (app_pattern g ps) (entry t true) f ∷ fs)) s ≡ []
      → (if reads sig (app_pattern g ps) f.under (entry t true)
      then items_by sig j (child (app_pattern g ps) f fs) s (entry t true) else []) ≡ []
  collapsed-none g ps t f fs j s h =
      elim (reads sig (app_pattern g ps) f.under (entry t true)) as
      (λ c. (if c then items_by sig j (child (app_pattern g ps) f fs) s (entry t true) else []) ≡ [])
      [ true ↦ ap (map (behind (entry t true))) h | false ↦ refl ]

  mutual
    -- a syntactic child takes a term where that has its shape
    pub child-items : (p : Pattern) (t : Tree) (f : Frame) (fs : List Frame) (j k : ℕ) (s : Subst)
        → is_syntactic sig p ≡ true → TakesTerm sig f.under p → pattern_nodes p + k ≡ suc j
        → ways j p f fs s t ≡ goes_on p t (λ r. items sig k (settle (without_term f t ∷ fs)) r) s
    child-items (symbol_pattern n) (symbol m) f fs j k s h i e =
        flat-first (items_by sig j (child (symbol_pattern n) f fs) s) (reads sig (symbol_pattern n) f.under)
        (entry (symbol m) false) (entry (symbol m) true) refl
        ∙ ap (λ b. if b then items_by sig j (child (symbol_pattern n) f fs) s (entry (symbol m) false) else [])
        (symbols-same m n)
        ∙ ap (λ is. if same_name n m then is else [])
        (leaf-items (symbol_pattern n) (symbol m) f fs j k (Some s) e)
    child-items (symbol_pattern n) (app g ts) f fs j k s h i e = refl
    child-items (wild_pattern w x) t f fs j k s h i e =
        flat-first (items_by sig j (child (wild_pattern w x) f fs) s) (reads sig (wild_pattern w x) f.under)
        (entry t false) (entry t true) refl
        ∙ ap (λ b. if b then items_by sig j (child (wild_pattern w x) f fs) s (entry t false) else [])
        (wild-reads sig w x f.under t i h)
        ∙ ap (λ us. if suits sig w t then map (behind (entry t false)) (listed_by
        (λ r. items sig j (settle (taken_out (wild_pattern w x) (entry t false) f ∷ fs)) r) (solve sig s us)) else [])
        (wild-said sig w x f fs t)
        ∙ by_suits (suits sig w t) (filled-solve sig f.under (wild_pattern w x) t s i h)
      where
        by_suits : (b : Bool)
            → filled sig (wild_pattern w x) t s
            ≡ (if b then solve sig s (takings f.under (wild_pattern w x) t) else None)
            → (if b then map (behind (entry t false))
            (listed_by (λ r. items sig j (settle (taken_out (wild_pattern w x) (entry t false) f ∷ fs)) r)
            (solve sig s (takings f.under (wild_pattern w x) t))) else [])
            ≡ map (in_front (entry t false ∷ []))
            (listed_by (λ r. items sig k (settle (without_term f t ∷ fs)) r) (filled sig (wild_pattern w x) t s))
        by_suits true q =
            leaf-items (wild_pattern w x) t f fs j k (solve sig s (takings f.under (wild_pattern w x) t)) e
            ∙ ap (λ o. map (in_front (entry t false ∷ []))
            (listed_by (λ r. items sig k (settle (without_term f t ∷ fs)) r) o)) (sym q)
        by_suits false q =
            ap (λ o. map (in_front (entry t false ∷ []))
            (listed_by (λ r. items sig k (settle (without_term f t ∷ fs)) r) o)) (sym q)
    child-items (app_pattern g ps) (symbol m) f fs j k s h i e =
        let b = and_parts (is_plain sig g) (all_syntactic sig ps) h in
        flat-first (items_by sig j (child (app_pattern g ps) f fs) s) (reads sig (app_pattern g ps) f.under)
        (entry (symbol m) false) (entry (symbol m) true) (collapsed-none g ps (symbol m) f fs j s
        (children-items g ps (more_trees (symbol m) no_trees) true
        (taken_out (app_pattern g ps) (entry (symbol m) true) f ∷ fs) j k s (plain-flat sig g b.0) b.1
        (omega (arith, e))))
    child-items (app_pattern g ps) (app i us) f fs j k s h w e =
        let b = and_parts (is_plain sig g) (all_syntactic sig ps) h in
        let F = λ (r : Subst). items sig k (settle (without_term f (app i us) ∷ fs)) r in
        flat-first (items_by sig j (child (app_pattern g ps) f fs) s) (reads sig (app_pattern g ps) f.under)
        (entry (app i us) false) (entry (app i us) true) (collapsed-none g ps (app i us) f fs j s
        (children-items g ps (more_trees (app i us) no_trees) true
        (taken_out (app_pattern g ps) (entry (app i us) true) f ∷ fs) j k s (plain-flat sig g b.0) b.1
        (omega (arith, e))))
        ∙ ap (λ is. if nat_eq g i then map (behind (entry (app i us) false)) is else []) (
        ap (λ d. items sig j
        (settle (record { under = Some g; children = ps; left = tree_list us; owes = false } ∷ d ∷ fs)) s)
        (taken-term (app_pattern g ps) (app i us) false f)
        ∙ children-items g ps us false (without_term f (app i us) ∷ fs) j k s (plain-flat sig g b.0) b.1
        (omega (arith, e))
        )
        ∙ by_shape (nat_eq g i) (shapes ps us) (listed_by F (all_filled sig ps us s))
      where
        by_shape : (a b : Bool) (is : List Item)
            → (if a then map (behind (entry (app i us) false))
            (if b then map (in_front (joined (tables_of ps us))) is else []) else [])
            ≡ (if a && b then map (in_front (entry (app i us) false ∷ joined (tables_of ps us))) is else [])
        by_shape false b is = refl
        by_shape true false is = refl
        by_shape true true is = behind-in_front (entry (app i us) false) (joined (tables_of ps us)) is

    -- syntactic children take the terms that are left, one each
    pub children-items : (g : ℕ) (ps : Patterns) (ts : Trees) (owes : Bool) (fs : List Frame) (m k : ℕ) (s : Subst)
        → IsFlat sig (Some g) → all_syntactic sig ps ≡ true → all_pattern_nodes ps + k ≡ m
        → items sig m
        (settle (record { under = Some g; children = ps; left = tree_list ts; owes = owes } ∷ fs)) s
        ≡ all_go_on ps ts owes (λ r. items sig k (settle fs) r) s
    children-items g no_patterns no_trees true fs m k s h i e = refused-none m s
    children-items g no_patterns no_trees false fs m k s h i e =
        let n : m ≡ k = omega (arith, e) in
        ap (λ n. items sig n (settle fs) s) n ∙ sym (in_front-none (items sig k (settle fs) s))
    children-items g no_patterns (more_trees t ts) true fs m k s h i e = refused-none m s
    children-items g no_patterns (more_trees t ts) false fs m k s h i e = refused-none m s
    children-items g (more_patterns p ps) ts owes fs zero k s h i e = absurd (omega (arith, e, has_nodes p))
    children-items g (more_patterns p ps) no_trees owes fs (suc j) k s h i e =
        let b = and_parts (is_syntactic sig p) (all_syntactic sig ps) i in
        let f : Frame = record { under = Some g; children = ps; left = []; owes = owes } in
        ap (flat_map (items_by sig j (child p f fs) s))
        (choices-none sig p f fs b.0 (flat-takes sig (Some g) p h) h.1 refl)
        ∙ by_owed owes
      where
        by_owed : (b : Bool) → [] ≡ all_go_on (more_patterns p ps) no_trees b (λ r. items sig k (settle fs) r) s
        by_owed true = refl
        by_owed false = refl
    children-items g (more_patterns p ps) (more_trees t ts) owes fs (suc j) k s h i e =
        let b = and_parts (is_syntactic sig p) (all_syntactic sig ps) i in
        let f : Frame = record { under = Some g; children = ps; left = t ∷ tree_list ts; owes = owes } in
        let q : without tree_cmp (t ∷ []) (t ∷ tree_list ts) ≡ tree_list ts =
        rw (same-itself tree_cmp tree_cmp_total tree_same t) refl in
        ap (flat_map (items_by sig j (child p f fs) s))
        (choices-first sig p f fs b.0 (flat-takes sig (Some g) p h) h.1 t (tree_list ts) refl)
        ∙ child-items p t f fs j (all_pattern_nodes ps + k) s b.0 (flat-takes sig (Some g) p h) (omega (arith, e))
        ∙ goes-then p ps t ts owes
        (λ r. items sig (all_pattern_nodes ps + k) (settle (without_term f t ∷ fs)) r)
        (λ r. items sig k (settle fs) r) s (λ r.
        ap (λ l. items sig (all_pattern_nodes ps + k)
        (settle (record { under = Some g; children = ps; left = l; owes = owes } ∷ fs)) r) q
        ∙ children-items g ps ts owes fs (all_pattern_nodes ps + k) k r h b.1 refl)

  -- syntactic children below an operation are filled where the terms have their shapes, and nothing else is found
  pub items-inner : (g : ℕ) (ps : Patterns) (ts : Trees) (fs : List Frame) (k : ℕ) (s : Subst) → IsFlat sig (Some g)
      → all_syntactic sig ps ≡ true
      → items sig (all_pattern_nodes ps + k)
      (settle (record { under = Some g; children = ps; left = tree_list ts; owes = false } ∷ fs)) s
      ≡ (if shapes ps ts then map (in_front (joined (tables_of ps ts)))
      (listed_by (λ r. items sig k (settle fs) r) (all_filled sig ps ts s)) else [])
  items-inner g ps ts fs k s h i = children-items g ps ts false fs (all_pattern_nodes ps + k) k s h i refl
