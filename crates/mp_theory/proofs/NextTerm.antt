-- A syntactic pattern that comes next takes one term: the choices that it has.
use Rattle.std.proofs.Common.{◌≡◌, ℕ, List, [], ◌∷◌, Bool, true, false, ◌&&◌, refl}
use Rattle.std.proofs.Common.{ap, sym, ◌∙◌, subst, inl, inr}
use Rattle.std.specs.Prelude.{Option, Some, None, filter, if◌then◌else◌, is_some, ⊤}
use Rattle.std.specs.List.Sorted.{IsStrictlySortedBy}
use Rattle.std.proofs.lemmas.Bool.{and_parts}
use Rattle.std.proofs.lemmas.List.Kept.{IsStrictlySortedBy-filter}
use Rattle.mp_term.specs.Order.{tree_cmp}
use Rattle.mp_term.specs.OrderLaws.{tree_cmp_total, tree_same}
use Rattle.mp_term.specs.Pieces.{is_piece}
use Rattle.mp_term.specs.Search.{In}
use Rattle.mp_term.specs.Signature.{Sig, in_kind}
use Rattle.mp_term.specs.Tree.{Tree, symbol}
use Rattle.mp_term.proofs.ListingLaws.{same_members}
use Rattle.mp_term.proofs.PiecesLaws.{same-sound, same-itself}
use Rattle.mp_term.proofs.SearchLaws.{in-filter, from_in-filter}
use Rattle.mp_pattern.specs.DerivationOrder.{entry_cmp}
use Rattle.mp_pattern.specs.Fits.{Entry}
use Rattle.mp_pattern.specs.PatternTree.{Wildcard, dot, kind, plus, star, counted, optional, Pattern, symbol_pattern}
use Rattle.mp_pattern.specs.PatternTree.{app_pattern, wild_pattern}
use Rattle.mp_pattern.specs.Syntactic.{is_syntactic}
use Rattle.mp_pattern.specs.Value.{one, same_name, same_terms}
use Rattle.mp_pattern.specs.Variables.{comm_above}
use Rattle.mp_pattern.proofs.NameLaws.{same_name-is, same_name-itself}
use Rattle.mp_theory.specs.Frames.{Frame, child}
use Rattle.mp_theory.specs.Machine.{default_passes, reads, said, choices}
use Rattle.mp_theory.specs.Shape.{suits, takings}
use Rattle.mp_theory.specs.Solve.{given}
use Rattle.mp_theory.proofs.Merging.{same_terms-sound, same_terms-complete}
use Rattle.mp_theory.proofs.ShapeLaws.{IsFlat, flat-given}
use Rattle.mp_theory.proofs.Tables.{entries-ascending, entry_cmp_total, choices-ascending}
use Rattle.mp_theory.proofs.Walk.{choices-exact, in-entries, from_in-entries}

-- the entry of the one term, by arguments or collapsed
abbrev pub entry : Tree → Bool → Entry
entry t c = record { terms = t ∷ []; collapsed = c }

-- both of them
abbrev pub both : Tree → List Entry
both t = entry t false ∷ entry t true ∷ []

-- symbols are the same where their names are
pub symbols-same : (m n : List ℕ) → same_terms (symbol m ∷ []) (symbol n ∷ []) ≡ same_name n m
symbols-same m n =
    elim (same_name n m) as (λ b. same_name n m ≡ b → same_terms (symbol m ∷ []) (symbol n ∷ []) ≡ b) [
      | true ↦ λ e. same_terms-complete (symbol m ∷ []) (symbol n ∷ [])
          (ap (λ x. symbol x ∷ []) (sym (same_name-is n m e)))
      | false ↦ λ e. elim (same_terms (symbol m ∷ []) (symbol n ∷ [])) as
          (λ b. same_terms (symbol m ∷ []) (symbol n ∷ []) ≡ b → b ≡ false) [
            | true ↦ λ q.
                let s : symbol m ∷ [] ≡ symbol n ∷ [] = same_terms-sound (symbol m ∷ []) (symbol n ∷ []) q in
                let names : m ≡ n = cc in
                sym (same_name-itself n) ∙ ap (λ x. same_name n x) (sym names) ∙ e
            | false ↦ λ q. refl
          ] refl
    ] refl

-- nothing is a member of an empty list alone
pub none-in : {X : Type 0} (xs : List X) → ((x : X) → In x xs → ⊥) → xs ≡ []
none-in [] h = refl
none-in (x ∷ xs) h = absurd (h x (inl refl))

module _ (sig : Sig) where
  -- a wildcard stands under an operation that is flat
  abbrev pub TakesTerm : Option ℕ → Pattern → Type 0
  TakesTerm f (symbol_pattern n) = ⊤
  TakesTerm f (app_pattern g ps) = ⊤
  TakesTerm f (wild_pattern w x) = IsFlat sig f

  pub flat-takes : (f : Option ℕ) (p : Pattern) → IsFlat sig f → TakesTerm f p
  flat-takes f (symbol_pattern n) h = tt
  flat-takes f (app_pattern g ps) h = tt
  flat-takes f (wild_pattern w x) h = h

  -- a syntactic pattern reads one term
  wild-single : (w : Wildcard) (x : Option (List ℕ)) (f : Option ℕ) (l : List Tree) → IsFlat sig f
      → is_syntactic sig (wild_pattern w x) ≡ true → is_some (given sig f w l) ≡ true → (t : Tree) × (l ≡ t ∷ [])
  wild-single w x f (t ∷ []) h k r = (t, refl)
  wild-single dot x f [] h k r = cc
  wild-single dot x None (t ∷ u ∷ l) h k r = cc
  wild-single dot x (Some g) (t ∷ u ∷ l) h k r =
      let q : is_some (given sig (Some g) dot (t ∷ u ∷ l)) ≡ false = rw h.0 refl in
      cc
  wild-single (kind i) x f [] h k r = cc
  wild-single (kind i) x f (t ∷ u ∷ l) h k r = cc
  wild-single plus x f l h k r = cc
  wild-single star x f l h k r = cc
  wild-single (counted n c) x f l h k r = cc
  wild-single (optional d) x f l h k r = cc

  pub reads-single : (p : Pattern) (f : Option ℕ) (l : List Tree) (c : Bool) → is_syntactic sig p ≡ true
      → TakesTerm f p → reads sig p f (record { terms = l; collapsed = c }) ≡ true → (t : Tree) × (l ≡ t ∷ [])
  reads-single (symbol_pattern n) f l true k h r = cc
  reads-single (symbol_pattern n) f l false k h r = (symbol n, same_terms-sound l (symbol n ∷ []) r)
  reads-single (app_pattern g ps) f [] true k h r = cc
  reads-single (app_pattern g ps) f [] false k h r = cc
  reads-single (app_pattern g ps) f (t ∷ []) c k h r = (t, refl)
  reads-single (app_pattern g ps) f (t ∷ u ∷ l) true k h r = cc
  reads-single (app_pattern g ps) f (t ∷ u ∷ l) false k h r = cc
  reads-single (wild_pattern w x) f l true k h r = cc
  reads-single (wild_pattern w x) f l false k h r =
      wild-single w x f l h k (and_parts (is_some (given sig f w l)) (default_passes sig x w l) r).0

  -- a wildcard of a syntactic pattern reads a term that suits it
  pub wild-reads : (w : Wildcard) (x : Option (List ℕ)) (f : Option ℕ) (t : Tree) → IsFlat sig f
      → is_syntactic sig (wild_pattern w x) ≡ true → reads sig (wild_pattern w x) f (entry t false) ≡ suits sig w t
  wild-reads dot None f t h k = rw (flat-given sig f t h) refl
  wild-reads dot (Some y) f t h k = rw (flat-given sig f t h) refl
  wild-reads (kind i) None f t h k = elim (in_kind sig i t) as
      (λ b. (is_some (if b then Some (one t) else None) && true) ≡ b) [ true ↦ refl | false ↦ refl ]
  wild-reads (kind i) (Some y) f t h k = elim (in_kind sig i t) as
      (λ b. (is_some (if b then Some (one t) else None) && true) ≡ b) [ true ↦ refl | false ↦ refl ]
  wild-reads plus x f t h k = cc
  wild-reads star x f t h k = cc
  wild-reads (counted n c) x f t h k = cc
  wild-reads (optional d) x f t h k = cc

  pub wild-said : (w : Wildcard) (x : Option (List ℕ)) (f : Frame) (fs : List Frame) (t : Tree)
      → said (child (wild_pattern w x) f fs) (entry t false) ≡ takings f.under (wild_pattern w x) t
  wild-said w None f fs t = refl
  wild-said w (Some y) f fs t = refl

  -- under an operation that isn't commutative the choices are the first term, and without one there is none
  module _ (p : Pattern) (f : Frame) (fs : List Frame) (k : is_syntactic sig p ≡ true) (h : TakesTerm f.under p)
      (o : comm_above sig f.under ≡ false) where
    choice-first : (e : Entry) → In e (choices sig (child p f fs))
        → (t : Tree) × (e.terms ≡ t ∷ []) × (is_piece tree_cmp false (t ∷ []) f.left ≡ true)
        × (reads sig p f.under e ≡ true)
    choice-first e i =
        let c = (choices-exact sig p f fs e.terms e.collapsed).0 i in
        let m = reads-single p f.under e.terms e.collapsed k h c.1 in (
          m.0,
          m.1,
          subst (λ b. is_piece tree_cmp b (m.0 ∷ []) f.left ≡ true) o
              (subst (λ l. is_piece tree_cmp (comm_above sig f.under) l f.left ≡ true) m.1 c.0),
          c.1,
        )

    pub choices-none : f.left ≡ [] → choices sig (child p f fs) ≡ []
    choices-none q = none-in (choices sig (child p f fs)) (λ e i.
        let m = choice-first e i in
        let x : is_piece tree_cmp false (m.0 ∷ []) [] ≡ true =
        subst (λ l. is_piece tree_cmp false (m.0 ∷ []) l ≡ true) q m.2 in
        cc)

    pub choices-first : (t : Tree) (ts : List Tree) → f.left ≡ t ∷ ts
        → choices sig (child p f fs) ≡ filter (reads sig p f.under) (both t)
    unfolding IsStrictlySortedBy
    choices-first t ts q =
        same_members entry_cmp entry_cmp_total (choices sig (child p f fs)) (filter (reads sig p f.under) (both t))
        (choices-ascending sig (child p f fs))
        (IsStrictlySortedBy-filter entry_cmp (reads sig p f.under) (both t)
        (entries-ascending sig ((t ∷ []) ∷ []) (tt, tt)))
        (λ e i.
        let m = choice-first e i in
        let x : is_piece tree_cmp false (m.0 ∷ []) (t ∷ ts) ≡ true =
        subst (λ l. is_piece tree_cmp false (m.0 ∷ []) l ≡ true) q m.2 in
        let same : t ≡ m.0 = same-sound tree_cmp tree_cmp_total tree_same t m.0 (and_parts _ _ x).0 in
        in-filter (reads sig p f.under) e (both t)
        (in-entries e.terms e.collapsed ((t ∷ []) ∷ []) (inl (m.1 ∙ ap (λ u. u ∷ []) (sym same)))) m.3)
        (λ e i.
        let m = from_in-filter (reads sig p f.under) e (both t) i in
        let l : e.terms ≡ t ∷ [] =
        elim (from_in-entries e ((t ∷ []) ∷ []) m.0) [ inl r ↦ r | inr r ↦ absurd r ] in
        let first : is_piece tree_cmp false (t ∷ []) (t ∷ ts) ≡ true =
        rw (same-itself tree_cmp tree_cmp_total tree_same t) refl in
        (choices-exact sig p f fs e.terms e.collapsed).1 (
          subst (λ b. is_piece tree_cmp b e.terms f.left ≡ true) (sym o)
              (subst (λ l. is_piece tree_cmp false l f.left ≡ true) (sym l)
              (subst (λ l. is_piece tree_cmp false (t ∷ []) l ≡ true) (sym q) first)),
          m.1,
        ))
