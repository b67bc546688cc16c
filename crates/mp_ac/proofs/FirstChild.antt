-- The items of a commutative node whose first child takes one term: those where it takes each term, in turn.
use Rattle.std.proofs.Common.{◌≡◌, ℕ, zero, suc, ◌+◌, List, [], ◌∷◌, ◌++◌, Bool, true, false, refl}
use Rattle.std.proofs.Common.{ap, sym, ◌∙◌, subst, inl, inr, arith}
use Rattle.std.specs.Prelude.{◌&&◌, ◌⊎◌, Option, Some, filter, flat_map, if◌then◌else◌}
use Rattle.std.specs.declared.cmp.Ordering.TheVariants.{Less}
use Rattle.std.specs.List.{AllByRecursion}
use Rattle.std.specs.List.Sorted.{IsStrictlySortedBy}
use Rattle.std.proofs.lemmas.Bool.{and_from, and_parts}
use Rattle.std.proofs.lemmas.List.Kept.{IsStrictlySortedBy-filter}
use Rattle.std.proofs.lemmas.Grind.{flat_map-append}
use Rattle.mp_term.specs.Order.{tree_cmp}
use Rattle.mp_term.specs.OrderLaws.{tree_cmp_total, tree_same}
use Rattle.mp_term.specs.Pieces.{is_piece}
use Rattle.mp_term.specs.Search.{In}
use Rattle.mp_term.specs.Signature.{Sig}
use Rattle.mp_term.specs.Tree.{Tree}
use Rattle.mp_term.proofs.ListingLaws.{same_members}
use Rattle.mp_term.proofs.PiecesLaws.{all-piece, in-distinct, piece-accepts}
use Rattle.mp_term.proofs.SearchLaws.{in-filter, from_in-filter, in-flat, from_in-flat}
use Rattle.mp_term.proofs.SearchLaws.{all-from_in, flat_map-same, ascending-flat}
use Rattle.mp_term.proofs.ListLaws.{both-empty}
use Rattle.mp_pattern.specs.DerivationOrder.{entry_cmp}
use Rattle.mp_pattern.specs.Fits.{Entry}
use Rattle.mp_pattern.specs.PatternTree.{Pattern, symbol_pattern, app_pattern, wild_pattern, Patterns, more_patterns}
use Rattle.mp_pattern.specs.Size.{pattern_nodes, all_pattern_nodes}
use Rattle.mp_pattern.specs.Syntactic.{is_syntactic}
use Rattle.mp_pattern.specs.Value.{Subst}
use Rattle.mp_pattern.specs.Variables.{comm_above}
use Rattle.mp_pattern.proofs.OnePattern.{has_nodes}
use Rattle.mp_theory.specs.Frames.{Frame, child}
use Rattle.mp_theory.specs.Items.{items, items_by}
use Rattle.mp_theory.specs.Machine.{reads, choices}
use Rattle.mp_theory.specs.Shape.{shape}
use Rattle.mp_theory.proofs.CursorLaws.{pruned}
use Rattle.mp_theory.proofs.Tables.{entries-ascending, entry_cmp_total, choices-ascending}
use Rattle.mp_theory.proofs.Walk.{choices-exact, in-entries, from_in-entries}
use Rattle.mp_ac.specs.CommList.{comm_list}
use Rattle.mp_ac.specs.TakesOne.{takes_one, is_left, items_with, items_by as items_of, items_among}
use Rattle.mp_theory.proofs.NextTerm.{both, TakesTerm, reads-single}
use Rattle.mp_theory.proofs.InnerItems.{child-items}

-- `flat_map` over `flat_map`, and where it gives nothing
pub flat-flat : {X Y Z : Type 0} (f : Y → List Z) (g : X → List Y) (xs : List X)
    → flat_map f (flat_map g xs) ≡ flat_map (λ x. flat_map f (g x)) xs
flat-flat f g [] = refl
flat-flat f g (x ∷ xs) = flat_map-append f (g x) (flat_map g xs) ∙ ap (λ ys. flat_map f (g x) ++ ys) (flat-flat f g xs)

flat-empty : {X Y : Type 0} (f : X → List Y) (x : X) (xs : List X) → In x xs → flat_map f xs ≡ [] → f x ≡ []
flat-empty f x [] h e = absurd h
flat-empty f x (y ∷ ys) (inl q) e = ap f q ∙ (both-empty (f y) (flat_map f ys) e).0
flat-empty f x (y ∷ ys) (inr h) e = flat-empty f x ys h (both-empty (f y) (flat_map f ys) e).1

-- entries of one term come in the order of the terms
one-before : (e d : Entry) (t u : Tree) → e.terms ≡ t ∷ [] → d.terms ≡ u ∷ [] → tree_cmp t u ≡ Less
    → entry_cmp e d ≡ Less
one-before e d t u p q r = rw (p, q, r) refl

-- the list is one of the terms, which has the shape
abbrev is_kept : Pattern → List Tree → List Tree → Bool
is_kept p ts (t ∷ []) = shape p t && is_left ts t
is_kept p ts _ = false

in-left : (t : Tree) (ts : List Tree) → In t ts → is_left ts t ≡ true
in-left t ts i = piece-accepts tree_cmp tree_cmp_total tree_same true (t ∷ []) ts
    (in-distinct tree_cmp tree_cmp_total tree_same t ts i, refl)

left-in : (t : Tree) (ts : List Tree) → is_left ts t ≡ true → In t ts
left-in t ts l = (all-piece tree_cmp tree_cmp_total tree_same (λ u. In u ts) (t ∷ []) ts l
    (all-from_in (λ u. In u ts) ts (λ u j. j))).0

module _ (sig : Sig) where
  pub takes_one-syntactic : (p : Pattern) → takes_one sig p ≡ true → is_syntactic sig p ≡ true
  takes_one-syntactic (symbol_pattern n) h = h
  takes_one-syntactic (app_pattern g ps) h = h
  takes_one-syntactic (wild_pattern w x) h = cc

  takes_one-term : (f : Option ℕ) (p : Pattern) → takes_one sig p ≡ true → TakesTerm sig f p
  takes_one-term f (symbol_pattern n) h = tt
  takes_one-term f (app_pattern g ps) h = tt
  takes_one-term f (wild_pattern w x) h = cc

module _ (sig : Sig) (g : ℕ) (p : Pattern) (ps : Patterns) (left : List Tree) (owes : Bool) (s : Subst) where
  abbrev here : Frame
  here = record { under = Some g; children = ps; left = left; owes = owes }

  -- the entries of a term that is left and has the shape
  abbrev picks : Tree → List Entry
  picks t = if is_left left t then (if shape p t then filter (reads sig p (Some g)) (both t) else []) else []

  in-picks : (t : Tree) (e : Entry) → is_left left t ≡ true → shape p t ≡ true → e.terms ≡ t ∷ []
      → reads sig p (Some g) e ≡ true → In e (picks t)
  in-picks t e l h q r = rw (l, h)
      (in-filter (reads sig p (Some g)) e (both t) (in-entries e.terms e.collapsed ((t ∷ []) ∷ []) (inl q)) r)

  picks-parts : (t : Tree) (e : Entry) → In e (picks t)
      → (is_left left t ≡ true) × (shape p t ≡ true) × (e.terms ≡ t ∷ []) × (reads sig p (Some g) e ≡ true)
  picks-parts t e h = by_left (is_left left t) (shape p t) h
    where
      by_left : (a b : Bool) → In e (if a then (if b then filter (reads sig p (Some g)) (both t) else []) else [])
          → (a ≡ true) × (b ≡ true) × (e.terms ≡ t ∷ []) × (reads sig p (Some g) e ≡ true)
      by_left false b i = absurd i
      by_left true false i = absurd i
      by_left true true i =
          let m = from_in-filter (reads sig p (Some g)) e (both t) i in
          (refl, refl, elim (from_in-entries e ((t ∷ []) ∷ []) m.0) [ inl r ↦ r | inr r ↦ absurd r ], m.1)

  picks-ascending : (t : Tree) → IsStrictlySortedBy entry_cmp (picks t)
  unfolding IsStrictlySortedBy
  picks-ascending t = by_left (is_left left t) (shape p t)
    where
      by_left : (a b : Bool)
          → IsStrictlySortedBy entry_cmp
          (if a then (if b then filter (reads sig p (Some g)) (both t) else []) else [])
      by_left false b = tt
      by_left true false = tt
      by_left true true = IsStrictlySortedBy-filter entry_cmp (reads sig p (Some g)) (both t)
          (entries-ascending sig ((t ∷ []) ∷ []) (tt, tt))

  -- they lead to the items where the child takes the term
  items-picks : (j : ℕ) (t : Tree) → takes_one sig p ≡ true → pattern_nodes p + all_pattern_nodes ps ≡ suc j
      → flat_map (items_by sig j (child p here []) s) (picks t) ≡ items_of sig g p ps left owes s t
  unfolding comm_list
  items-picks j t one e = by_left (is_left left t)
    where
      by_left : (a : Bool)
          → flat_map (items_by sig j (child p here []) s)
          (if a then (if shape p t then filter (reads sig p (Some g)) (both t) else []) else [])
          ≡ (if a then (if shape p t then items_with sig g p ps left owes s t else []) else [])
      by_left false = refl
      by_left true =
          elim (shape p t) as (λ b. shape p t ≡ b
          → flat_map (items_by sig j (child p here []) s)
          (if b then filter (reads sig p (Some g)) (both t) else [])
          ≡ (if b then items_with sig g p ps left owes s t else [])) [
            | true ↦ λ q.
                child-items sig p t here [] j (all_pattern_nodes ps) s (takes_one-syntactic sig p one)
                (takes_one-term sig (Some g) p one) e
                ∙ ap (λ b. if b then items_with sig g p ps left owes s t else []) q
            | false ↦ λ q. refl
          ] refl

  -- the items are those where the first child takes each of the terms, in turn, if no other one that is left and has
  -- its shape gives any
  pub comm_list-first : comm_above sig (Some g) ≡ true → takes_one sig p ≡ true → (ts : List Tree)
      → IsStrictlySortedBy tree_cmp ts
      → ((t : Tree) → In t left → shape p t ≡ true → In t ts ⊎ (items_of sig g p ps left owes s t ≡ []))
      → comm_list sig g (more_patterns p ps) left owes s ≡ items_among sig g p ps left owes s ts
  unfolding comm_list
  comm_list-first comm one ts up all = from_nodes (pattern_nodes p + all_pattern_nodes ps) refl
    where
      -- what a choice takes
      choice-term : (e : Entry) → In e (choices sig (child p here []))
          → (t : Tree) × (e.terms ≡ t ∷ []) × (is_left left t ≡ true) × (reads sig p (Some g) e ≡ true)
      choice-term e i =
          let c = (choices-exact sig p here [] e.terms e.collapsed).0 i in
          let m = reads-single sig p (Some g) e.terms e.collapsed (takes_one-syntactic sig p one)
          (takes_one-term sig (Some g) p one) c.1 in (
            m.0,
            m.1,
            subst (λ b. is_piece tree_cmp b (m.0 ∷ []) left ≡ true) comm
                (subst (λ l. is_piece tree_cmp (comm_above sig (Some g)) l left ≡ true) m.1 c.0),
            c.1,
          )

      kept-picked : (e : Entry)
          → In e (filter (λ d. is_kept p ts d.terms) (choices sig (child p here []))) → In e (flat_map picks ts)
      kept-picked e i =
          let k = from_in-filter (λ d. is_kept p ts d.terms) e (choices sig (child p here [])) i in
          let m = choice-term e k.0 in
          let h = and_parts (shape p m.0) (is_left ts m.0) (subst (λ l. is_kept p ts l ≡ true) m.1 k.1) in
          in-flat picks m.0 e ts (left-in m.0 ts h.1) (in-picks m.0 e m.2 h.0 m.1 m.3)

      picked-kept : (e : Entry) → In e (flat_map picks ts)
          → In e (filter (λ d. is_kept p ts d.terms) (choices sig (child p here [])))
      picked-kept e i =
          let a = from_in-flat picks e ts i in
          let m = picks-parts a.0 e a.2 in
          in-filter (λ d. is_kept p ts d.terms) e (choices sig (child p here []))
          ((choices-exact sig p here [] e.terms e.collapsed).1 (
            subst (λ b. is_piece tree_cmp b e.terms left ≡ true) (sym comm)
                (subst (λ l. is_piece tree_cmp true l left ≡ true) (sym m.2) m.0),
            m.3,
          ))
          (subst (λ l. is_kept p ts l ≡ true) (sym m.2)
          (and_from (shape p a.0) (is_left ts a.0) m.1 (in-left a.0 ts a.1)))

      picked-ascending : IsStrictlySortedBy entry_cmp (flat_map picks ts)
      picked-ascending = ascending-flat tree_cmp entry_cmp picks ts up picks-ascending (λ t u less.
          all-from_in (λ e. AllByRecursion (λ d. entry_cmp e d ≡ Less) (picks u)) (picks t) (λ e i.
          all-from_in (λ d. entry_cmp e d ≡ Less) (picks u) (λ d k.
          one-before e d t u (picks-parts t e i).2 (picks-parts u d k).2 less)))

      -- a choice that isn't kept leads to nothing
      unkept-none : (j : ℕ) → pattern_nodes p + all_pattern_nodes ps ≡ suc j → (e : Entry)
          → In e (choices sig (child p here [])) → is_kept p ts e.terms ≡ false
          → items_by sig j (child p here []) s e ≡ []
      unkept-none j n e i k = by_shape (shape p m.0) refl (subst (λ l. is_kept p ts l ≡ false) m.1 k)
        where
          m : (t : Tree) × (e.terms ≡ t ∷ []) × (is_left left t ≡ true) × (reads sig p (Some g) e ≡ true)
          m = choice-term e i

          gone : In m.0 ts ⊎ (items_of sig g p ps left owes s m.0 ≡ []) → shape p m.0 ≡ true → is_left ts m.0 ≡ false
              → items_by sig j (child p here []) s e ≡ []
          gone (inl among) h l = (let both : true ≡ false = sym (in-left m.0 ts among) ∙ l in cc)
          gone (inr none) h l = flat-empty (items_by sig j (child p here []) s) e (picks m.0)
              (in-picks m.0 e m.2 h m.1 m.3) (items-picks j m.0 one n ∙ none)

          by_shape : (b : Bool) → shape p m.0 ≡ b → (b && is_left ts m.0) ≡ false
              → items_by sig j (child p here []) s e ≡ []
          by_shape true h l = gone (all m.0 (left-in m.0 left m.2) h) h l
          by_shape false h l =
              flat-empty (items_by sig j (child p here []) s) e (filter (reads sig p (Some g)) (both m.0))
              (in-filter (reads sig p (Some g)) e (both m.0)
              (in-entries e.terms e.collapsed ((m.0 ∷ []) ∷ []) (inl m.1)) m.3)
              (child-items sig p m.0 here [] j (all_pattern_nodes ps) s (takes_one-syntactic sig p one)
              (takes_one-term sig (Some g) p one) n ∙ rw h refl)

      from_nodes : (m : ℕ) → pattern_nodes p + all_pattern_nodes ps ≡ m
          → items sig m (child p here []) s ≡ items_among sig g p ps left owes s ts
      from_nodes zero e = absurd (omega (arith, e, has_nodes p))
      from_nodes (suc j) e =
          let F = items_by sig j (child p here []) s in
          let cs = choices sig (child p here []) in
          let keep = λ (e : Entry). is_kept p ts e.terms in
          sym (pruned keep F cs (unkept-none j e))
          ∙ ap (flat_map F) (same_members entry_cmp entry_cmp_total (filter keep cs) (flat_map picks ts)
          (IsStrictlySortedBy-filter entry_cmp keep cs (choices-ascending sig (child p here [])))
          picked-ascending kept-picked picked-kept)
          ∙ flat-flat F picks ts
          ∙ flat_map-same (λ t. flat_map F (picks t)) (items_of sig g p ps left owes s) ts
          (λ t i. items-picks j t one e)
