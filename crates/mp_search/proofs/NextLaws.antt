-- The choices of a child that takes the next term: one at most.
use Rattle.std.proofs.Common.{◌≡◌, ◌≤◌, ℕ, List, [], ◌∷◌, length, Bool, true, false, refl, ap, sym, ◌∙◌, subst, arith}
use Rattle.std.proofs.Common.{inl, inr, suc, ◌<◌, ◌+◌, ◌-◌, ◌*◌, map, take, drop, append-nil, slice_index_or}
use Rattle.std.specs.Prelude.{Option, Some, None, MatchBool, filter, flat_map}
use Rattle.std.specs.List.Sorted.{IsStrictlySortedBy}
use Rattle.std.proofs.lemmas.Bool.{and_parts}
use Rattle.mp_term.specs.Order.{tree_cmp}
use Rattle.mp_term.specs.OrderLaws.{tree_cmp_total, tree_same}
use Rattle.mp_term.specs.Pieces.{is_prefix, is_piece, without}
use Rattle.mp_term.specs.Search.{In}
use Rattle.mp_term.specs.Signature.{Sig}
use Rattle.mp_term.specs.Tree.{Tree}
use Rattle.mp_term.proofs.ListingLaws.{same_members}
use Rattle.mp_term.proofs.PiecesLaws.{same-sound, same-itself}
use Rattle.mp_pattern.specs.DerivationOrder.{entry_cmp}
use Rattle.mp_pattern.specs.Fits.{Entry, Table}
use Rattle.mp_pattern.specs.PatternTree.{Pattern, symbol_pattern, app_pattern, wild_pattern}
use Rattle.mp_pattern.specs.Value.{Subst}
use Rattle.mp_pattern.specs.View.{pattern_tree}
use Rattle.mp_table.specs.Table.{rank_cmp, term_at, terms_at}
use Rattle.mp_table.specs.declared.rank.Rank.{Rank}
use Rattle.mp_theory.specs.Frames.{Frame, Next, child}
use Rattle.mp_theory.specs.Items.{items, behind}
use Rattle.mp_theory.specs.OneList.{Item}
use Rattle.mp_subst.specs.Trail.{Trail, GoesWith, cut}
use Rattle.mp_subst.proofs.RankLists.{rank_same, rank_cmp_total}
use Rattle.mp_theory.specs.Machine.{reads, choices, entered, onward, said}
use Rattle.mp_theory.specs.Narrow.{load}
use Rattle.mp_theory.specs.Solve.{solve}
use Rattle.mp_theory.specs.Trail.{allows, listed_by}
use Rattle.mp_theory.proofs.Bounds.{AtMost, within}
use Rattle.mp_theory.proofs.Tables.{choices-ascending, entry_cmp_total}
use Rattle.mp_theory.proofs.TrailLaws.{choice-allowed}
use Rattle.mp_theory.proofs.Walk.{choices-exact}
use Rattle.mp_search.specs.Bounds.{TakesNext}
use Rattle.mp_search.specs.Parts.{IsLeaf}
use Rattle.mp_search.specs.declared.level.Level.{Level}
use Rattle.mp_search.specs.declared.mode.Mode.{Mode}
use Rattle.mp_search.specs.declared.mode.Mode.TheVariants.{First, After, At}
use Rattle.mp_search.specs.declared.query.Query.{Query}
use Rattle.mp_search.specs.declared.site.Site.{Site}
use Rattle.mp_search.specs.declared.stack.Place.{Place}
use Rattle.mp_search.specs.At.{IsAt, IsAtNode, HasTrail, Keeps, KeepsLevels, BindsOnly, items_from, items_with}
use Rattle.mp_search.specs.Frames.{above, inner_of, stack_frames, place_after}
use Rattle.mp_search.specs.Levels.{take_of}
use Rattle.mp_search.specs.Passed.{IsPassed, IsShut}
use Rattle.mp_search.specs.Reading.{entry_of, entry_at, subst_of, table_of}
use Rattle.mp_search.specs.Site.{site_frame, site_place}
use Rattle.mp_search.specs.Wanted.{wanted, good, IsStanding}
use Rattle.mp_search.proofs.BindAtLaws.{less-childless, leaf-childless, childless-trail, childless-spare}
use Rattle.mp_search.proofs.FoundLaws.{wanted-first}
use Rattle.mp_search.proofs.PartLaws.{first-others}
use Rattle.mp_search.proofs.OnwardLaws.{node-kept, at-kept, trail-kept}
use Rattle.mp_search.proofs.VisitLaws.{begins, at-other, items-kept}

-- a leaf reads no list collapsed
plain : (sig : Sig) (p : Pattern) (f : Option ℕ) (l : List Tree) (c : Bool) → IsLeaf p
    → reads sig p f (record { terms = l; collapsed = c }) ≡ true → c ≡ false
plain sig (symbol_pattern n) f l true w h = cc
plain sig (symbol_pattern n) f l false w h = refl
plain sig (app_pattern g ps) f l c w h = absurd w
plain sig (wild_pattern v x) f l true w h = cc
plain sig (wild_pattern v x) f l false w h = refl

-- a list of one term with which another begins
one-first : (l : List Tree) (t : Tree) (ts : List Tree) → length l ≡ 1 → is_prefix tree_cmp l (t ∷ ts) ≡ true
    → l ≡ t ∷ []
one-first [] t ts n e = absurd (omega (arith, n))
one-first (u ∷ []) t ts n e =
    ap (λ x. x ∷ []) (sym (same-sound tree_cmp tree_cmp_total tree_same t u (and_parts _ _ e).0))
one-first (u ∷ v ∷ l) t ts n e = absurd (omega (arith, n))

one-none : (l : List Tree) → length l ≡ 1 → is_prefix tree_cmp l [] ≡ true → ⊥
one-none [] n e = absurd (omega (arith, n))
one-none (u ∷ l) n e = cc

abbrev entry : List Tree → Bool → Entry
entry l c = record { terms = l; collapsed = c }

same-entry : {l m : List Tree} {b c : Bool} → l ≡ m → b ≡ c → entry l b ≡ entry m c
same-entry e i = rw (e, i) refl

-- the only choice may stand there
pub choice-stands : (sig : Sig) (n : Next) (e : Entry) → choices sig n ≡ e ∷ [] → allows sig n e ≡ true
choice-stands sig n e h = (choice-allowed sig n e).0 (subst (In e) (sym h) (inl refl))

module _ (sig : Sig) (p : Pattern) (f : Frame) (fs : List Frame) (h : TakesNext sig f.under p) where
  -- a choice is one term, by which what is left begins
  choice-parts : (d : Entry) → In d (choices sig (child p f fs))
      → (length d.terms ≡ 1) × (is_prefix tree_cmp d.terms f.left ≡ true) × (d.collapsed ≡ false)
      × (reads sig p f.under d ≡ true)
  choice-parts d i =
      let c = (choices-exact sig p f fs d.terms d.collapsed).0 i in
      let w = within sig p f.under d.terms d.collapsed c.1 in
      let high : length d.terms ≤ 1 = subst (AtMost (length d.terms)) h.single.1 w.1 in (
        omega (arith, h.single.0, w.0, high),
        subst (λ b. is_piece tree_cmp b d.terms f.left ≡ true) h.ordered c.0,
        plain sig p f.under d.terms d.collapsed h.leaf c.1,
        c.1,
      )

  -- two choices are the same
  same-choice : (d e : Entry) (left : List Tree) → f.left ≡ left → In d (choices sig (child p f fs))
      → In e (choices sig (child p f fs)) → d ≡ e
  same-choice d e [] q i j =
      let a = choice-parts d i in
      absurd (one-none d.terms a.0 (subst (λ ts. is_prefix tree_cmp d.terms ts ≡ true) q a.1))
  same-choice d e (t ∷ ts) q i j =
      let a = choice-parts d i in
      let b = choice-parts e j in
      let l : d.terms ≡ e.terms =
      one-first d.terms t ts a.0 (subst (λ ts. is_prefix tree_cmp d.terms ts ≡ true) q a.1)
      ∙ sym (one-first e.terms t ts b.0 (subst (λ ts. is_prefix tree_cmp e.terms ts ≡ true) q b.1)) in
      same-entry l (a.2 ∙ sym b.2)

  -- an entry that may stand there is the only choice
  pub next-choice : (e : Entry) → allows sig (child p f fs) e ≡ true → choices sig (child p f fs) ≡ e ∷ []
  unfolding IsStrictlySortedBy
  next-choice e a =
      let i = (choice-allowed sig (child p f fs) e).1 a in
      same_members entry_cmp entry_cmp_total (choices sig (child p f fs)) (e ∷ [])
      (choices-ascending sig (child p f fs))
      (tt, tt) (λ d j. inl (same-choice d e f.left refl j i))
      (λ d j. subst (λ x. In x (choices sig (child p f fs))) (sym (elim j [ inl k ↦ k | inr k ↦ absurd k ])) i)

  -- where there is no term, or it isn't read, there is no choice
  no-choice : (es : List Entry) → ((d : Entry) → In d es → ⊥) → es ≡ []
  no-choice [] n = refl
  no-choice (d ∷ es) n = absurd (n d (inl refl))

  pub next-none : f.left ≡ [] → choices sig (child p f fs) ≡ []
  next-none q = no-choice (choices sig (child p f fs)) (λ d i. let a = choice-parts d i in
      one-none d.terms a.0 (subst (λ ts. is_prefix tree_cmp d.terms ts ≡ true) q a.1))

  pub next-unread : (t : Tree) (ts : List Tree) → f.left ≡ t ∷ ts
      → reads sig p f.under (record { terms = t ∷ []; collapsed = false }) ≡ false → choices sig (child p f fs) ≡ []
  next-unread t ts q r = no-choice (choices sig (child p f fs)) (λ d i.
      let a = choice-parts d i in
      let l : d.terms ≡ t ∷ [] =
      one-first d.terms t ts a.0 (subst (λ us. is_prefix tree_cmp d.terms us ≡ true) q a.1) in
      let e : reads sig p f.under (record { terms = t ∷ []; collapsed = false }) ≡ true =
      subst (λ c. reads sig p f.under (record { terms = t ∷ []; collapsed = c }) ≡ true) a.2
      (subst (λ m. reads sig p f.under (record { terms = m; collapsed = d.collapsed }) ≡ true) l a.3) in
      let x : true ≡ false = sym e ∙ r in cc)

  -- the first term may stand there where it is read
  pub next-allowed : (t : Tree) (ts : List Tree) → f.left ≡ t ∷ ts
      → reads sig p f.under (record { terms = t ∷ []; collapsed = false }) ≡ true
      → allows sig (child p f fs) (record { terms = t ∷ []; collapsed = false }) ≡ true
  next-allowed t ts q r =
      let e : Entry = record { terms = t ∷ []; collapsed = false } in
      let first : is_prefix tree_cmp (t ∷ []) (t ∷ ts) ≡ true =
      rw (same-itself tree_cmp tree_cmp_total tree_same t) refl in
      (choice-allowed sig (child p f fs) e).0 ((choices-exact sig p f fs (t ∷ []) false).1 (
        subst (λ b. is_piece tree_cmp b (t ∷ []) f.left ≡ true) (sym h.ordered)
            (subst (λ us. is_prefix tree_cmp (t ∷ []) us ≡ true) (sym q) first),
        r,
      ))

-- at a place
pub place-choice : (q : Query) (below : List Level) (p : Place) (e : Entry) → IsAt q below p
    → TakesNext q.sig.now (above p.under) (pattern_tree p.child.now) → allows q.sig.now (place_after q below) e ≡ true
    → choices q.sig.now (place_after q below) ≡ e ∷ []
place-choice q below p e at h a = subst
    (λ n. allows q.sig.now n e ≡ true → choices q.sig.now n ≡ e ∷ []) at.stands
    (next-choice q.sig.now (pattern_tree p.child.now) (inner_of q below p) (stack_frames q below p.outer.now) h e) a

-- what is read of the first rank that is left says which choices there are
pub next-taken : (q : Query) (x : Site) (d : Rank) (own : Level) (rs : List Rank) (b : Bool) → 1 ≤ length x.left.now
    → TakesNext q.sig.now (above x.under) (pattern_tree x.child.now)
    → take_of own ≡ (slice_index_or x.left.now 0 d ∷ [], false) → rs ≡ own.take.items.items
    → b ≡ reads q.sig.now (pattern_tree x.child.now) (above x.under)
    (record { terms = terms_at q.table.now rs; collapsed = false })
    → MatchBool b (choices q.sig.now (site_place q x []) ≡ entry_of q.table.now own ∷ [])
    (choices q.sig.now (site_place q x []) ≡ [])
next-taken q x d own rs b n h taken ranks is =
    let t = term_at q.table.now (slice_index_or x.left.now 0 d) in
    let first = first-left x.left.now n in
    let e : entry_of q.table.now own ≡ record { terms = t ∷ []; collapsed = false } =
    ap (λ z. record { terms = terms_at q.table.now z.0; collapsed = z.1 }) taken in
    let read : b ≡ reads q.sig.now (pattern_tree x.child.now) (above x.under)
    (record { terms = t ∷ []; collapsed = false }) = is
    ∙ ap (λ l. reads q.sig.now (pattern_tree x.child.now) (above x.under)
    (record { terms = terms_at q.table.now l; collapsed = false })) (ranks ∙ ap (λ z. z.0) taken) in
    subst
    (λ f. MatchBool b (choices q.sig.now (site_place q x []) ≡ f ∷ []) (choices q.sig.now (site_place q x []) ≡ []))
    (sym e) (by_answer t first b read)
  where
    first-left : (left : List Rank) → 1 ≤ length left
        → (us : List Tree) × (terms_at q.table.now left ≡ term_at q.table.now (slice_index_or left 0 d) ∷ us)
    first-left [] n = absurd (omega (arith, n))
    first-left (r ∷ left) n = (terms_at q.table.now left, refl)

    by_answer : (t : Tree) → (us : List Tree) × (terms_at q.table.now x.left.now ≡ t ∷ us) → (b : Bool)
        → b ≡ reads q.sig.now (pattern_tree x.child.now) (above x.under) (record { terms = t ∷ []; collapsed = false })
        → MatchBool b (choices q.sig.now (site_place q x []) ≡ record { terms = t ∷ []; collapsed = false } ∷ [])
        (choices q.sig.now (site_place q x []) ≡ [])
    by_answer t f true r = next-choice q.sig.now (pattern_tree x.child.now) (site_frame q x) [] h
        (record { terms = t ∷ []; collapsed = false })
        (next-allowed q.sig.now (pattern_tree x.child.now) (site_frame q x) [] h t f.0 f.1 (sym r))
    by_answer t f false r = next-unread q.sig.now (pattern_tree x.child.now) (site_frame q x) [] h t f.0 f.1 (sym r)

-- the first rank alone is a front
pub first-front : (xs : List Rank) (d : Rank) → 1 ≤ length xs → slice_index_or xs 0 d ∷ [] ≡ take 1 xs
first-front [] d n = absurd (omega (arith, n))
first-front (r ∷ xs) d n = refl

-- without it the others are left
pub without-first : (xs : List Rank) → 1 ≤ length xs
    → without rank_cmp (take 1 xs) xs ≡ take (length xs - 1) (drop 1 xs)
without-first [] n = absurd (omega (arith, n))
without-first (r ∷ xs) n =
    let whole = first-others (r ∷ xs) r n in
    let others : xs ≡ take (length (r ∷ xs) - 1) (drop 1 (r ∷ xs)) = cc in
    rw (same-itself rank_cmp rank_cmp_total rank_same r) others

-- where none is left there is none
pub none-left : (q : Query) (x : Site) → TakesNext q.sig.now (above x.under) (pattern_tree x.child.now)
    → length x.left.now ≡ 0 → choices q.sig.now (site_place q x []) ≡ []
none-left q x h n = next-none q.sig.now (pattern_tree x.child.now) (site_frame q x) [] h (none x.left.now n)
  where
    none : (rs : List Rank) → length rs ≡ 0 → terms_at q.table.now rs ≡ []
    none [] n = refl
    none (r ∷ rs) n = absurd (omega (arith, n))

module _ (q : Query) (k : ℕ) (L : List Level) (s : Subst) (within : k < length L) where
  abbrev n : Next
  n = place_after q (take k L)

  more : length L - k ≡ suc (length L - suc k)
  more = omega (arith, within)

  -- where a node has one choice the items are those behind it
  pub only-items : (e : Entry) → choices q.sig.now n ≡ e ∷ [] → items_from q k L s ≡ items_with q k L s e
  only-items e h = ap (λ x. items q.sig.now x n s) more ∙ ap (flat_map (items_with q k L s)) h
      ∙ append-nil (items_with q k L s e)

  -- and none where it has none
  pub no-items : choices q.sig.now n ≡ [] → items_from q k L s ≡ []
  no-items h = ap (λ x. items q.sig.now x n s) more ∙ ap (flat_map (items_with q k L s)) h

  -- what is wanted first doesn't depend on the table at hand
  pub first-wanted : (e : Entry) (m : Mode) (V W : Table) (is : List Item) → m ≡ First → items_from q k L s ≡ is
      → wanted q First V is ≡ wanted q m W (items_from q k L s)
  first-wanted e m V W is i h = wanted-first q V is ∙ ap (filter (good q)) (sym h)
      ∙ sym (wanted-first q W (items_from q k L s)) ∙ ap (λ m. wanted q m W (items_from q k L s)) (sym i)

  -- an entry at hand that may not stand there is that of no table that is wanted
  pub other-wanted : (m : Mode) → (m ≡ First → ⊥) → IsStanding m (table_of q.table.now (drop k L)) (items_from q k L s)
      → allows q.sig.now n (entry_at q.table.now L k) ≡ false
      → wanted q m (table_of q.table.now (drop k L)) (items_from q k L s) ≡ []
  other-wanted m f standing a = by_mode m refl
    where
      by_mode : (o : Mode) → m ≡ o → wanted q m (table_of q.table.now (drop k L)) (items_from q k L s) ≡ []
      by_mode First i = absurd (f i)
      by_mode After i = let c = (begins q k L s within m i standing).allowed in cc
      by_mode At i = at-other q k L s within m i a

-- a leaf is no operation to enter
pub entered-leaf : (p : Pattern) (e : Entry) (fs : List Frame) → IsLeaf p → entered p e fs ≡ fs
entered-leaf (symbol_pattern n) e fs h = refl
entered-leaf (app_pattern g ps) e fs h = absurd h
entered-leaf (wild_pattern w x) e fs h = refl

-- what an entry says doesn't depend on the frames around
said-any : (c : Pattern) (f : Frame) (fs gs : List Frame) (e : Entry) → said (child c f fs) e ≡ said (child c f gs) e
said-any (symbol_pattern n) f fs gs e = refl
said-any (app_pattern g ps) f fs gs e = refl
said-any (wild_pattern w None) f fs gs e = refl
said-any (wild_pattern w (Some x)) f fs gs e = refl

pub passed-same : (q : Query) (b : Bool) (c : Pattern) (f : Frame) (fs : List Frame) (n : Next) (t u : Trail)
    (d e : Entry) → child c f fs ≡ n → d ≡ e
    → MatchBool b (IsPassed q (child c f []) t u d) (IsShut q (child c f []) t u d)
    → MatchBool b (IsPassed q n t u e) (IsShut q n t u e)
passed-same q b c f fs n t u d e place same h =
    subst (λ m. MatchBool b (IsPassed q m t u e) (IsShut q m t u e)) place
    (subst (λ z. MatchBool b (IsPassed q (child c f fs) t u z) (IsShut q (child c f fs) t u z)) same (by_answer b h))
  where
    by_answer : (b : Bool) → MatchBool b (IsPassed q (child c f []) t u d) (IsShut q (child c f []) t u d)
        → MatchBool b (IsPassed q (child c f fs) t u d) (IsShut q (child c f fs) t u d)
    by_answer true h = record {
      choice = h.choice;
      bound = ap (solve q.sig.now (subst_of q t)) (said-any c f fs [] d) ∙ h.bound;
    }
    by_answer false (inl h) = inl h
    by_answer false (inr h) = inr (h.0, ap (solve q.sig.now (subst_of q t)) (said-any c f fs [] d) ∙ h.1)

module _ (q : Query) (k : ℕ) (L : List Level) (p : Place) (t : Trail) (within : k < length L)
    (at : IsAt q (take k L) p) (next : TakesNext q.sig.now (above p.under) (pattern_tree p.child.now)) where
  -- what may stand there is no more than what is left
  next-less : (e : Entry) → allows q.sig.now (place_after q (take k L)) e ≡ true
      → length e.terms ≤ load (place_after q (take k L))
  next-less e a =
      let l = subst
      (λ m. allows q.sig.now m e ≡ true → load (onward m e) + length e.terms ≤ load m) at.stands
      (less-childless q.sig.now (pattern_tree p.child.now) (inner_of q (take k L) p)
      (stack_frames q (take k L) p.outer.now) e (leaf-childless (pattern_tree p.child.now) next.leaf)) a in
      omega (arith, l)

  pub next-room : HasTrail q k L t → (e : Entry) → allows q.sig.now (place_after q (take k L)) e ≡ true
      → length e.terms + 3 ≤ t.spare
  next-room h e a = omega (arith, within, next-less e a, h.spare)

  module _ (N : List Level) (u : Trail) (levels : KeepsLevels q k L N) (kept : cut (length t.stack) u ≡ t)
      (only : BindsOnly q.vars.now t u) (goes : GoesWith q.table.now u)
      (spare : t.spare ≤ u.spare + (length (entry_at q.table.now N k).terms + 3)) where
    abbrev here : Next
    here = place_after q (take k L)

    abbrev own : Entry
    own = entry_at q.table.now N k

    -- nothing comes where it is shut
    pub shut-items : IsShut q here t u own → items_from q k L (subst_of q t) ≡ []
    shut-items (inl h) = no-items q k L (subst_of q t) within h.0
    shut-items (inr h) = only-items q k L (subst_of q t) within own h.0
        ∙ ap (λ o. map (behind own) (listed_by (λ r. items q.sig.now (length L - suc k) (onward here own) r) o)) h.1

    keeps : t.spare ≤ u.spare + (load here + 3 * (length L - k)) → Keeps q k L N t u
    keeps s = record {
      front = levels.front;
      many = levels.many;
      levels = levels.levels;
      cut = kept;
      only = only;
      trail = goes;
      spare = s;
    }

    pub shut-keeps : IsShut q here t u own → Keeps q k L N t u
    shut-keeps (inl h) = keeps (omega (arith, ap (λ v. v.spare) h.1))
    shut-keeps (inr h) = keeps
        (omega (arith, within, spare, next-less own (choice-stands q.sig.now here own h.0)))

    pub passed-keeps : IsPassed q here t u own → Keeps q k L N t u
    passed-keeps h = keeps
        (omega (arith, within, spare, next-less own (choice-stands q.sig.now here own h.choice)))

    module _ (node : IsAtNode q k L) (trail : HasTrail q k L t) (passed : IsPassed q here t u own) where
      abbrev there : Next
      there = place_after q (take k N)

      to : here ≡ there
      to = ap (place_after q) (sym levels.front)

      pub new-within : k < length N
      new-within = omega (arith, levels.many, within)

      pub new-node : IsAtNode q k N
      new-node = node-kept q k L N node levels

      pub new-at : IsAt q (take k N) p
      new-at = at-kept q k L N p at levels.front

      new-choice : choices q.sig.now there ≡ own ∷ []
      new-choice = subst (λ m. choices q.sig.now m ≡ own ∷ []) to passed.choice

      pub new-allowed : allows q.sig.now there own ≡ true
      new-allowed = choice-stands q.sig.now there own new-choice

      pub new-bound : solve q.sig.now (subst_of q t) (said there own) ≡ Some (subst_of q u)
      new-bound = subst (λ m. solve q.sig.now (subst_of q t) (said m own) ≡ Some (subst_of q u)) to passed.bound

      pub new-items : items_from q k L (subst_of q t) ≡ items_with q k N (subst_of q t) own
      new-items = sym (items-kept q k L N (subst_of q t) levels.front levels.many)
          ∙ only-items q k N (subst_of q t) new-within own new-choice

      pub new-trail : HasTrail q (k + 1) N u
      new-trail =
          childless-trail q k N p new-within new-at new-allowed t u
          (leaf-childless (pattern_tree p.child.now) next.leaf) (trail-kept q k L N t trail levels) kept spare goes

      pub new-spare : t.spare + load (place_after q (take (k + 1) N)) ≤ u.spare + (load there + 3)
      new-spare =
          childless-spare q k N p new-within new-at new-allowed t u
          (leaf-childless (pattern_tree p.child.now) next.leaf) spare
