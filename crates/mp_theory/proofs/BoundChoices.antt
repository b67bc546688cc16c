-- A variable that has a value takes a list that gives this value again: all other choices lead nowhere.
use Rattle.std.proofs.Common.{◌≡◌, ℕ, zero, suc, List, [], ◌∷◌, ◌++◌, Bool, true, false, not, ◌&&◌, refl, ap, sym, ◌∙◌}
use Rattle.std.proofs.Common.{◌⊎◌, inl, inr, subst, length}
use Rattle.std.specs.Prelude.{Option, Some, None, is_some, if◌then◌else◌, flat_map, filter, option_and_then}
use Rattle.std.specs.List.Sorted.{IsStrictlySortedBy}
use Rattle.std.proofs.lemmas.List.Kept.{IsStrictlySortedBy-filter}
use Rattle.std.proofs.lemmas.Bool.{and_parts, not-true}
use Rattle.std.specs.Cmp.{Equal-is}
use Rattle.mp_term.specs.Order.{tree_cmp}
use Rattle.mp_term.specs.OrderLaws.{tree_same}
use Rattle.mp_term.specs.Tree.{Tree, symbol, app}
use Rattle.mp_term.specs.Signature.{Sig, in_kind, is_assoc}
use Rattle.mp_term.proofs.ListingLaws.{same_members}
use Rattle.mp_pattern.specs.PatternTree.{Wildcard, dot, kind, plus, star, counted, meets_count, optional}
use Rattle.mp_pattern.specs.PatternTree.{wild_pattern}
use Rattle.mp_pattern.specs.Value.{Value, one, seq, bag, Subst, value_of, merge}
use Rattle.mp_pattern.specs.Variables.{comm_above}
use Rattle.mp_pattern.specs.Contribution.{contribution}
use Rattle.mp_pattern.specs.Fits.{Entry, Table}
use Rattle.mp_pattern.specs.DerivationOrder.{entry_cmp}
use Rattle.mp_theory.specs.Solve.{bind, given, sequence, solve}
use Rattle.mp_theory.specs.NoOptional.{IsNotOptional}
use Rattle.mp_theory.specs.Frames.{Frame, Next, child}
use Rattle.mp_term.specs.Search.{In}
use Rattle.mp_term.specs.Pieces.{is_piece}
use Rattle.mp_theory.specs.Machine.{onward, said, reads, choices}
use Rattle.mp_theory.specs.Trail.{listed_by, derivations, derivations_by, allows, LeadOn}
use Rattle.mp_theory.specs.Within.{choices_within}
use Rattle.mp_term.proofs.SearchLaws.{in-filter, from_in-filter}
use Rattle.mp_theory.proofs.Merging.{from_if, same_terms-sound}
use Rattle.mp_theory.proofs.Wildcards.{contributor-contributes}
use Rattle.mp_theory.proofs.Solving.{then_some}
use Rattle.mp_theory.proofs.Tables.{entry_cmp_total, choices-ascending}
use Rattle.mp_theory.proofs.TrailLaws.{choice-allowed}
use Rattle.mp_theory.proofs.CursorLaws.{pruned}
use Rattle.mp_theory.proofs.Pruning.{bound_merges, derivations-within}

-- what merges with one term is that term
pub merge-one : (t : Tree) (g u : Value) → merge (one t) g ≡ Some u → g ≡ one t
merge-one t (one s) u e = ap one (sym (tree_same t s ((Equal-is (tree_cmp t s)).0 (from_if _ _ u e).0)))
merge-one t (seq us) u e = cc
merge-one t (bag us) u e = cc

module _ (sig : Sig) where
  -- a wildcard gives one term, or the sequence that it takes
  pub given-form : (f : Option ℕ) (w : Wildcard) (l : List Tree) (g : Value) → given sig f w l ≡ Some g
      → (g ≡ sequence sig f l) ⊎ ((t : Tree) × (g ≡ one t))
  given-form f dot l g e = let c = contributor-contributes sig f l g e in inr (c.term, c.is)
  given-form f (kind k) [] g e = cc
  given-form f (kind k) (t ∷ []) g e =
      elim (in_kind sig k t) as (λ b. (if b then Some (one t) else None) ≡ Some g
      → (g ≡ sequence sig f (t ∷ [])) ⊎ ((u : Tree) × (g ≡ one u))) [
        | true ↦ λ p. let i : g ≡ one t = cc in inr (t, i)
        | false ↦ λ p. cc
      ] e
  given-form f (kind k) (t ∷ u ∷ l) g e = cc
  given-form f plus [] g e = cc
  given-form f plus (t ∷ l) g e = let i : g ≡ sequence sig f (t ∷ l) = cc in inl i
  given-form f star l g e = let i : g ≡ sequence sig f l = cc in inl i
  given-form f (counted n c) l g e = inl (sym (from_if (meets_count n c (length l)) (sequence sig f l) g e).1)
  given-form f (optional d) [] g e = let i : g ≡ one d = cc in inr (d, i)
  given-form f (optional d) (t ∷ l) g e = let c = contributor-contributes sig f (t ∷ l) g e in inr (c.term, c.is)

  -- a symbol contributes itself
  contribution-symbol : (f : Option ℕ) (n : List ℕ) → contribution sig f (symbol n) ≡ Some (symbol n ∷ [])
  contribution-symbol None n = refl
  contribution-symbol (Some g) n = elim (is_assoc sig g) as
      (λ b. (if b then Some (symbol n ∷ []) else Some (symbol n ∷ [])) ≡ Some (symbol n ∷ []))
      [ true ↦ refl | false ↦ refl ]

  -- a sequence isn't one term
  sequence-one : (f : Option ℕ) (l : List Tree) (t : Tree) → Some (sequence sig f l) ≡ Some (one t) → ⊥
  sequence-one f l t e = elim (comm_above sig f) as (λ b. Some (if b then bag l else seq l) ≡ Some (one t) → ⊥)
      [ true ↦ λ p. cc | false ↦ λ p. cc ] e

  -- a wildcard that isn't optional gives a term by its contribution only
  pub given-one : (f : Option ℕ) (w : Wildcard) (l : List Tree) (t : Tree) → IsNotOptional w
      → given sig f w l ≡ Some (one t) → contribution sig f t ≡ Some l
  given-one f dot l t n e =
      let c = contributor-contributes sig f l (one t) e in
      let i : one t ≡ one c.term = c.is in
      let j : t ≡ c.term = cc in
      subst (λ u. contribution sig f u ≡ Some l) (sym j) c.contributes
  given-one f (kind k) [] t n e = cc
  given-one f (kind k) (symbol m ∷ []) t n e =
      elim (in_kind sig k (symbol m)) as (λ b. (if b then Some (one (symbol m)) else None) ≡ Some (one t)
      → contribution sig f t ≡ Some (symbol m ∷ [])) [
        | true ↦ λ p. let j : symbol m ≡ t = cc in
            subst (λ u. contribution sig f u ≡ Some (symbol m ∷ [])) j (contribution-symbol f m)
        | false ↦ λ p. cc
      ] e
  given-one f (kind zero) (app g ts ∷ []) t n e = cc
  given-one f (kind (suc k)) (app g ts ∷ []) t n e = cc
  given-one f (kind k) (u ∷ v ∷ l) t n e = cc
  given-one f plus [] t n e = cc
  given-one f plus (u ∷ l) t n e = absurd (sequence-one f (u ∷ l) t e)
  given-one f star l t n e = absurd (sequence-one f l t e)
  given-one f (counted m c) l t n e =
      absurd (sequence-one f l t (ap Some (from_if (meets_count m c (length l)) (sequence sig f l) (one t) e).1))
  given-one f (optional d) l t n e = absurd n

  -- the trail doesn't refuse the entry
  abbrev goes_with : Next → Subst → Entry → Bool
  goes_with n s e = is_some (solve sig s (said n e))

  derivations_by-refused : (k : ℕ) (n : Next) (T : Table) (s : Subst) (e : Entry) → goes_with n s e ≡ false
      → derivations_by sig k n T s e ≡ []
  derivations_by-refused k n T s e h =
      elim (solve sig s (said n e)) as (λ o. is_some o ≡ false
      → listed_by (λ r. derivations sig k (onward n e) (T ++ e ∷ []) r) o ≡ [])
      [ None ↦ λ q. refl | Some r ↦ λ q. cc ] h

  -- ascending choices lead to all that comes where they have each choice that the trail doesn't refuse
  lead_on-members : (n : Next) (s : Subst) (es : List Entry) → IsStrictlySortedBy entry_cmp es
      → ((e : Entry) → In e es → In e (choices sig n))
      → ((e : Entry) → In e (choices sig n) → goes_with n s e ≡ true → In e es) → LeadOn sig n s es
  lead_on-members n s es up sub all k T =
      let f = derivations_by sig k n T s in
      let keep = goes_with n s in
      let cs = choices sig n in
      sym (pruned keep f es (λ e i. derivations_by-refused k n T s e))
      ∙ ap (flat_map f)
      (same_members entry_cmp entry_cmp_total (filter keep es) (filter keep cs)
      (IsStrictlySortedBy-filter entry_cmp keep es up)
      (IsStrictlySortedBy-filter entry_cmp keep cs (choices-ascending sig n))
      (λ e i. let j = from_in-filter keep e es i in in-filter keep e cs (sub e j.0) j.1)
      (λ e i. let j = from_in-filter keep e cs i in in-filter keep e es (all e j.0 j.1) j.1))
      ∙ pruned keep f cs (λ e i. derivations_by-refused k n T s e)

  -- the choices within the bounds of the later children do
  pub lead_on-within : (n : Next) (s : Subst) → LeadOn sig n s (choices_within sig n)
  lead_on-within n s k T = sym (derivations-within sig k n T s)

  module _ (w : Wildcard) (x : List ℕ) (f : Frame) (fs : List Frame) (s : Subst) where
    -- the place of the variable
    abbrev at : Next
    at = child (wild_pattern w (Some x)) f fs

    -- what a bound variable takes gives a value that merges with its own
    taken-merges : (v : Value) (e : Entry) → value_of s x ≡ Some v → goes_with at s e ≡ true
        → (g : Value) × (given sig f.under w e.terms ≡ Some g) × ((u : Value) × (merge v g ≡ Some u))
    taken-merges v e b h =
        let r = is_some-some (solve sig s (said at e)) h in
        let a = then_some (λ g. option_and_then (λ q. Some q) (bind s x g)) (given sig f.under w e.terms) r.0 r.1 in
        let c = then_some (λ q. Some q) (bind s x a.0) r.0 a.2 in
        (a.0, a.1, bound_merges s x v a.0 c.0 b c.1)
      where
        is_some-some : (o : Option Subst) → is_some o ≡ true → (r : Subst) × (o ≡ Some r)
        is_some-some None h = cc
        is_some-some (Some r) h = (r, refl)

    -- where no list gives the value again, nothing comes
    lead_on-none : (v : Value) → value_of s x ≡ Some v
        → ((l : List Tree) (g u : Value) → given sig f.under w l ≡ Some g → merge v g ≡ Some u → ⊥) → LeadOn sig at s []
    unfolding IsStrictlySortedBy
    lead_on-none v b h = lead_on-members at s [] tt (λ e i. absurd i)
        (λ e i k. let t = taken-merges v e b k in absurd (h e.terms t.0 t.2.0 t.1 t.2.1))

    -- where one list does, its entry leads to all that comes, if it may stand there
    lead_on-only : (v : Value) (m : List Tree) → value_of s x ≡ Some v
        → ((l : List Tree) (g u : Value) → given sig f.under w l ≡ Some g → merge v g ≡ Some u → l ≡ m)
        → LeadOn sig at s (filter (allows sig at) (record { terms = m; collapsed = false } ∷ []))
    unfolding IsStrictlySortedBy
    lead_on-only v m b h =
        let only : Entry = record { terms = m; collapsed = false } in
        lead_on-members at s (filter (allows sig at) (only ∷ []))
        (IsStrictlySortedBy-filter entry_cmp (allows sig at) (only ∷ []) (tt, tt))
        (λ e i. (choice-allowed sig at e).1 (from_in-filter (allows sig at) e (only ∷ []) i).1)
        (λ e i k.
        let t = taken-merges v e b k in
        let a = (choice-allowed sig at e).0 i in
        let q : e ≡ only = same_entry e (h e.terms t.0 t.2.0 t.1 t.2.1)
        (and_parts (is_piece tree_cmp (comm_above sig f.under) e.terms f.left)
        (reads sig (wild_pattern w (Some x)) f.under e) a).1 in
        in-filter (allows sig at) e (only ∷ []) (inl q) a)
      where
        same_entry : (e : Entry) → e.terms ≡ m → reads sig (wild_pattern w (Some x)) f.under e ≡ true
            → e ≡ record { terms = m; collapsed = false }
        same_entry e i j =
            let c : e.collapsed ≡ false = not-true e.collapsed (and_parts (not e.collapsed) _ j).0 in
            ap (λ l. record { terms = l; collapsed = e.collapsed }) i ∙ ap (λ b. record { terms = m; collapsed = b }) c

    -- one term: its contribution
    pub lead_on-contribution : (t : Tree) (m : List Tree) → IsNotOptional w → value_of s x ≡ Some (one t)
        → contribution sig f.under t ≡ Some m
        → LeadOn sig at s (filter (allows sig at) (record { terms = m; collapsed = false } ∷ []))
    lead_on-contribution t m n b c =
        lead_on-only (one t) m b (λ l g u e q.
        let i : given sig f.under w l ≡ Some (one t) = e ∙ ap Some (merge-one t g u q) in
        let j : Some m ≡ Some l = sym c ∙ given-one f.under w l t n i in
        cc)

    lead_on-no_contribution : (t : Tree) → IsNotOptional w → value_of s x ≡ Some (one t)
        → contribution sig f.under t ≡ None → LeadOn sig at s []
    lead_on-no_contribution t n b c =
        lead_on-none (one t) b (λ l g u e q.
        let i : given sig f.under w l ≡ Some (one t) = e ∙ ap Some (merge-one t g u q) in
        let j : Some l ≡ None = sym (given-one f.under w l t n i) ∙ c in
        cc)

    -- which may not be there
    pub lead_on-absent : (t : Tree) → IsNotOptional w → value_of s x ≡ Some (one t)
        → ((m : List Tree) → contribution sig f.under t ≡ Some m
        → is_piece tree_cmp (comm_above sig f.under) m f.left ≡ false) → LeadOn sig at s []
    lead_on-absent t n b h =
        elim (contribution sig f.under t) as (λ o. contribution sig f.under t ≡ o → LeadOn sig at s []) [
          | None ↦ λ c. lead_on-no_contribution t n b c
          | Some m ↦ λ c. subst (LeadOn sig at s)
              (ap (λ d. if d && reads sig (wild_pattern w (Some x)) f.under
              (record { terms = m; collapsed = false }) then record { terms = m; collapsed = false } ∷ [] else [])
              (h m c)) (lead_on-contribution t m n b c)
        ] refl

    -- a multiset under a commutative operation: its terms
    pub lead_on-bag : (ts : List Tree) → comm_above sig f.under ≡ true → value_of s x ≡ Some (bag ts)
        → LeadOn sig at s (filter (allows sig at) (record { terms = ts; collapsed = false } ∷ []))
    lead_on-bag ts c b = lead_on-only (bag ts) ts b
        (λ l g u e q. elim (given-form f.under w l g e) [
          | inl i ↦ same l u (subst (λ h. merge (bag ts) h ≡ Some u) i q)
          | inr i ↦ absurd (no_one u i.0 (subst (λ h. merge (bag ts) h ≡ Some u) i.1 q))
        ])
      where
        same : (l : List Tree) (u : Value) → merge (bag ts) (sequence sig f.under l) ≡ Some u → l ≡ ts
        same l u q = let k : merge (bag ts) (bag l) ≡ Some u =
            subst (λ d. merge (bag ts) (if d then bag l else seq l) ≡ Some u) c q in
            sym (same_terms-sound ts l (from_if _ _ u k).0)

        no_one : (u : Value) (t : Tree) → merge (bag ts) (one t) ≡ Some u → ⊥
        no_one u t q = cc

    -- a tuple under another: its terms
    pub lead_on-seq : (ts : List Tree) → comm_above sig f.under ≡ false → value_of s x ≡ Some (seq ts)
        → LeadOn sig at s (filter (allows sig at) (record { terms = ts; collapsed = false } ∷ []))
    lead_on-seq ts c b = lead_on-only (seq ts) ts b
        (λ l g u e q. elim (given-form f.under w l g e) [
          | inl i ↦ same l u (subst (λ h. merge (seq ts) h ≡ Some u) i q)
          | inr i ↦ absurd (no_one u i.0 (subst (λ h. merge (seq ts) h ≡ Some u) i.1 q))
        ])
      where
        same : (l : List Tree) (u : Value) → merge (seq ts) (sequence sig f.under l) ≡ Some u → l ≡ ts
        same l u q = let k : merge (seq ts) (seq l) ≡ Some u =
            subst (λ d. merge (seq ts) (if d then bag l else seq l) ≡ Some u) c q in
            sym (same_terms-sound ts l (from_if _ _ u k).0)

        no_one : (u : Value) (t : Tree) → merge (seq ts) (one t) ≡ Some u → ⊥
        no_one u t q = cc
