-- The token that is computed of a match is its token, and the only one.
use Rattle.std.proofs.Common.{◌≡◌, ◌<◌, ℕ, suc, List, [], ◌∷◌, ◌++◌, true, false, map, length, refl}
use Rattle.std.proofs.Common.{ap, ap₂, sym, ◌∙◌, subst, inl, inr}
use Rattle.std.specs.Prelude.{Bool, Contains, Option, Some, None, slice_get, option_and_then, if◌then◌else◌}
use Rattle.std.specs.Ordering.{eq_by_cmp}
use Rattle.std.specs.List.{AllByRecursion, dedup}
use Rattle.std.specs.List.Sorted.{IsStrictlySortedBy}
use Rattle.std.proofs.lemmas.Cmp.{eq_by_cmp_equiv, tied_itself}
use Rattle.std.proofs.lemmas.List.Kept.{Contains-dedup, Contains-from_dedup, IsStrictlySortedBy-dedup}
use Rattle.std.proofs.lemmas.Option.{get_or_from_slice_get, slice_get-get_or}
use Rattle.mp_io.specs.Devices.{Text}
use Rattle.mp_term.specs.Listing.{In, IsListing}
use Rattle.mp_term.specs.Order.{tree_cmp}
use Rattle.mp_term.specs.OrderLaws.{tree_cmp_total, tree_same}
use Rattle.mp_term.specs.Positions.{subterm}
use Rattle.mp_term.specs.Signature.{Sig}
use Rattle.mp_term.specs.Sorting.{sorted}
use Rattle.mp_term.specs.Tree.{Tree, symbol, app, Trees, tree_list, trees}
use Rattle.mp_term.specs.TreeLists.{tree_list-trees}
use Rattle.mp_term.proofs.ListLaws.{all-also, all-append, all-split}
use Rattle.mp_term.proofs.ListingLaws.{contains-from_in, in-from_contains, unique_listing}
use Rattle.mp_term.proofs.Sorting.{ascends-sorted, sorted-ascends}
use Rattle.mp_term.proofs.TestLaws.{equal-from}
use Rattle.mp_pattern.specs.Admission.{AreLeast, IsLeast, Rule}
use Rattle.mp_pattern.specs.Constants.{rule_constants}
use Rattle.mp_pattern.specs.Fits as fits
use Rattle.mp_pattern.specs.Fits.{AllTakeBy, Fits, TakesBy, arranged, joined}
use Rattle.mp_pattern.specs.PatternTree.{Pattern, Patterns, Wildcard, app_pattern, more_patterns, no_patterns}
use Rattle.mp_pattern.specs.PatternTree.{symbol_pattern, wild_pattern}
use Rattle.mp_pattern.specs.Variables.{comm_above}
use Rattle.mp_pattern.proofs.SortedLaws.{from_in-sorted, in-sorted, all-from_sorted}
use Rattle.mp_table.specs.Preorder.{all_preorder}
use Rattle.mp_table.specs.Subterms.{IsSubterm, IsSubtermOf}
use Rattle.mp_table.specs.Table.{HasRank, HasRanks, IsTableOf, Table, rank_of, term_at, terms_at}
use Rattle.mp_table.specs.declared.rank.Rank.{Rank}
use Rattle.mp_table.proofs.PreorderLaws.{in-from_subterm_of, subterm_of-from_in}
use Rattle.mp_table.proofs.RankLaws.{rank_of-found, rank_of-slice_get}
use Rattle.mp_theory.specs.OneList.{Item, item_substs, item_tables}
use Rattle.mp_token.specs.Entry.{Entry}
use Rattle.mp_token.specs.TokenText.{front_text}
use Rattle.mp_cursor.specs.Listing.{ReadAs}
use Rattle.mp_matches.specs.Match.{IsTokenOf, Match}
use Rattle.mp_matches.specs.TokenOf.{entry_in, number_or_0, rank_in, table_of, token_of}

-- ---- the table of a subject and of constants

-- equal by the term order is equal
same-from_eq : (u v : Tree) → eq_by_cmp tree_cmp u v ≡ true → u ≡ v
same-from_eq u v e = tree_same u v (equal-from (tree_cmp u v) e)

-- what is left of a sorted list without repeats
pub distinct-listing : (ts : List Tree) (P : Tree → Type 0) → ((u : Tree) → In u ts → P u)
    → ((u : Tree) → P u → In u ts) → IsListing tree_cmp P (dedup (eq_by_cmp tree_cmp) (sorted tree_cmp ts))
distinct-listing ts P sound complete = record {
  exactly = λ u. (
    λ c. sound u (from_in-sorted tree_cmp u ts (in-from_contains u (sorted tree_cmp ts)
        (Contains-from_dedup (eq_by_cmp tree_cmp) (sorted tree_cmp ts) u c))),
    λ p. Contains-dedup (eq_by_cmp_equiv tree_cmp_total) same-from_eq (sorted tree_cmp ts) u
        (contains-from_in u (sorted tree_cmp ts) (in-sorted tree_cmp u ts (complete u p))),
  );
  ascending = IsStrictlySortedBy-dedup tree_cmp_total (λ x y. refl) (sorted tree_cmp ts)
      (sorted-ascends tree_cmp tree_cmp_total (sorted tree_cmp ts) (ascends-sorted tree_cmp tree_cmp_total ts));
}

module _ (t : Table) (up : IsStrictlySortedBy tree_cmp t.terms) where
  -- a term of the table has a rank, which is its place
  rank_of-held : (u : Tree) → Contains t.terms u
      → (slice_get t.terms (number_or_0 (rank_of t u)) ≡ Some u) × HasRank t (rank_in t u)
  rank_of-held u c =
      let got : slice_get t.terms c.0 ≡ Some u = slice_get-get_or t.terms c.0 u c.1 ∙ ap Some c.2 in
      let same : number_or_0 (rank_of t u) ≡ c.0 = ap number_or_0 (rank_of-slice_get t u up c.0 got) in
      (ap (slice_get t.terms) same ∙ got, subst (λ k. k < length t.terms) (sym same) c.1)

  -- ranks are those of their terms
  ranks-terms_at : (rs : List Rank) → HasRanks t rs → rs ≡ map (rank_in t) (terms_at t rs)
  ranks-terms_at [] h = refl
  ranks-terms_at (r ∷ rs) h =
      let same : r.0 ≡ number_or_0 (rank_of t (term_at t r)) =
      sym (ap number_or_0 (rank_of-found t (term_at t r) up r h.0 (tied_itself tree_cmp_total (term_at t r)))) in
      ap (λ n. record { 0 = n } ∷ rs) same ∙ ap (λ ss. rank_in t (term_at t r) ∷ ss) (ranks-terms_at rs h.1)

  -- entries that read as a take table are those that are computed of it
  pub entries-read : (es : List Entry) (W : fits.Table) → ReadAs t es W → es ≡ map (entry_in t) W
  entries-read [] [] h = refl
  entries-read [] (d ∷ W) h = absurd h
  entries-read (e ∷ es) [] h = absurd h
  entries-read (e ∷ es) (d ∷ W) h =
      let ranks : e.0 ≡ map (rank_in t) d.terms = ranks-terms_at e.0 h.0.0 ∙ ap (map (rank_in t)) h.0.1 in
      ap₂ (λ (rs : List Rank) b. (rs, b) ∷ es) ranks h.0.2 ∙ ap (λ fs. entry_in t d ∷ fs) (entries-read es W h.1)

  -- terms that the table holds have ranks
  ranks-held : (us : List Tree) → AllByRecursion (λ u. Contains t.terms u) us
      → HasRanks t (map (rank_in t) us) × (terms_at t (map (rank_in t) us) ≡ us)
  ranks-held [] h = (tt, refl)
  ranks-held (u ∷ us) h =
      let first = rank_of-held u h.0 in
      let rest = ranks-held us h.1 in (
        (first.1, rest.0),
        ap₂ (λ v vs. v ∷ vs)
            (get_or_from_slice_get t.terms (number_or_0 (rank_of t u)) u (symbol []) first.0) rest.1,
      )

  -- so does a take table of such terms
  pub entries-held : (W : fits.Table) → AllByRecursion (λ d. AllByRecursion (λ u. Contains t.terms u) d.terms) W
      → ReadAs t (map (entry_in t) W) W
  entries-held [] h = tt
  entries-held (d ∷ W) h =
      let first = ranks-held d.terms h.0 in
      ((first.0, first.1, refl), entries-held W h.1)

module _ (subject : Tree) (constants : List Tree) where
  -- a tree is its own subterm
  own-subterm : IsSubtermOf (subject ∷ constants) subject
  own-subterm = inl ([], refl)

  -- the table is one of the subject and the constants
  pub table_of-is : IsTableOf subject constants (table_of subject constants)
  table_of-is =
      let listing = distinct-listing (all_preorder (subject ∷ constants)) (IsSubtermOf (subject ∷ constants))
      (subterm_of-from_in (subject ∷ constants)) (in-from_subterm_of (subject ∷ constants)) in
      record {
        listing = listing;
        root = (rank_of-held
            (record { terms = (table_of subject constants).terms; root = 0 }) listing.ascending subject
            ((listing.exactly subject).1 own-subterm)).0;
      }

  -- there is one
  pub IsTableOf-unique : (t u : Table) → IsTableOf subject constants t → IsTableOf subject constants u → t ≡ u
  IsTableOf-unique t u h k =
      let terms : t.terms ≡ u.terms = unique_listing tree_cmp tree_cmp_total (IsSubtermOf (subject ∷ constants)) t.terms
      u.terms h.listing k.listing in
      let first : rank_of u subject ≡ Some t.root = rank_of-slice_get u subject k.listing.ascending t.root
      (subst (λ ts. slice_get ts t.root ≡ Some subject) terms h.root) in
      let second : rank_of u subject ≡ Some u.root =
      rank_of-slice_get u subject k.listing.ascending u.root k.root in
      let root : t.root ≡ u.root = cc in
      ap (λ ts. record { terms = ts; root = t.root }) terms ∙ ap (λ n. record { terms = u.terms; root = n }) root

-- ---- what nodes take

-- a position behind another one
subterm-append : (t : Tree) (p q : List ℕ)
    → subterm t (p ++ q) ≡ option_and_then (λ u. subterm u q) (subterm t p)
subterm-append t [] q = refl
subterm-append (symbol n) (i ∷ p) q = refl
subterm-append (app f ts) (i ∷ p) q = go (λ u. subterm-append u p q) (slice_get (tree_list ts) i)
  where
    go : ((u : Tree) → subterm u (p ++ q) ≡ option_and_then (λ v. subterm v q) (subterm u p)) → (o : Option Tree)
        → option_and_then (λ u. subterm u (p ++ q)) o
        ≡ option_and_then (λ v. subterm v q) (option_and_then (λ u. subterm u p) o)
    go rest None = refl
    go rest (Some u) = rest u

all-from_get : {X : Type 0} (P : X → Type 0) (xs : List X) → ((i : ℕ) (x : X) → slice_get xs i ≡ Some x → P x)
    → AllByRecursion P xs
all-from_get P [] h = tt
all-from_get P (x ∷ xs) h = (h 0 x refl, all-from_get P xs (λ i y e. h (suc i) y e))

-- the arguments of a subterm are subterms
subterm-arguments : (t : Tree) (f : ℕ) (us : Trees) → IsSubterm t (app f us)
    → AllByRecursion (IsSubterm t) (tree_list us)
subterm-arguments t f us h = all-from_get (IsSubterm t) (tree_list us) (λ i v e. (
  h.0 ++ i ∷ [],
  subterm-append t h.0 (i ∷ []) ∙ ap (option_and_then (λ u. subterm u (i ∷ []))) h.1
      ∙ ap (option_and_then (λ u. subterm u [])) e,
))

module _ (sig : Sig) (P : Tree → Type 0)
    (closed : (f : ℕ) (us : Trees) → P (app f us) → AllByRecursion P (tree_list us))
    (line : Option ℕ → Wildcard → Option (List ℕ) → List Tree → Type 0) where
  -- what holds of the terms of a table
  abbrev HoldsOf : fits.Table → Type 0
  HoldsOf W = AllByRecursion (λ d. AllByRecursion P d.terms) W

  -- in order or not
  all-from_arranged : (f : Option ℕ) (ts : List Tree) → AllByRecursion P (arranged sig f ts) → AllByRecursion P ts
  all-from_arranged f ts h = go (comm_above sig f) h
    where
      go : (b : Bool) → AllByRecursion P (if b then sorted tree_cmp ts else ts) → AllByRecursion P ts
      go true k = all-from_sorted P tree_cmp ts k
      go false k = k

  alone : (l : List Tree) (b : Bool) (W : fits.Table) → AllByRecursion P l
      → W ≡ record { terms = l; collapsed = b } ∷ [] → HoldsOf W
  alone l b W h e = subst HoldsOf (sym e) (h, tt)

  mutual
    -- what holds of what a pattern takes holds of all terms of its table
    takes-hold : (f : Option ℕ) (p : Pattern) (l : List Tree) (W : fits.Table) → AllByRecursion P l
        → TakesBy sig line f p l W → HoldsOf W
    takes-hold f (symbol_pattern n) l W h k = alone l false W h k.1
    takes-hold f (wild_pattern w x) l W h k = alone l false W h k.1
    takes-hold f (app_pattern g ps) l W h (inl k) =
        let node : P (app g (trees (arranged sig (Some g) (joined k.takes)))) =
        (subst (AllByRecursion P) k.node h).0 in
        let arguments : AllByRecursion P (arranged sig (Some g) (joined k.takes)) =
        subst (AllByRecursion P) (tree_list-trees (arranged sig (Some g) (joined k.takes)))
        (closed g (trees (arranged sig (Some g) (joined k.takes))) node) in
        subst HoldsOf (sym k.table)
        (h, all-take-hold g ps k.takes k.tables (all-from_arranged (Some g) (joined k.takes) arguments) k.children)
    takes-hold f (app_pattern g ps) l W h (inr k) =
        subst HoldsOf (sym k.table) (
          h,
          all-take-hold g ps k.takes k.tables
              (subst (AllByRecursion P) (k.node ∙ sym k.together) h) k.children,
        )

    all-take-hold : (g : ℕ) (ps : Patterns) (ls : List (List Tree)) (Ws : List fits.Table)
        → AllByRecursion P (joined ls) → AllTakeBy sig line g ps ls Ws → HoldsOf (joined Ws)
    all-take-hold g no_patterns [] [] h k = tt
    all-take-hold g no_patterns [] (W ∷ Ws) h k = absurd k
    all-take-hold g no_patterns (l ∷ ls) Ws h k = absurd k
    all-take-hold g (more_patterns p ps) [] Ws h k = absurd k
    all-take-hold g (more_patterns p ps) (l ∷ ls) [] h k = absurd k
    all-take-hold g (more_patterns p ps) (l ∷ ls) (W ∷ Ws) h k =
        let parts = all-split P l (joined ls) h in
        all-append (λ d. AllByRecursion P d.terms) W (joined Ws) (takes-hold (Some g) p l W parts.0 k.0)
        (all-take-hold g ps ls Ws parts.1 k.1)

-- ---- tokens

-- the entries that are computed of a match whose table fits are those of its table
pub entries-fit : (sig : Sig) (m : Match) → Fits sig m.rule.pattern m.subject.term m.subst m.table
    → let ranks = table_of m.subject.term (rule_constants m.rule) in ReadAs ranks (map (entry_in ranks) m.table) m.table
entries-fit sig m h =
    let subject = m.subject.term in
    let ranks = table_of subject (rule_constants m.rule) in
    let is : IsTableOf subject (rule_constants m.rule) ranks = table_of-is subject (rule_constants m.rule) in
    let subterms = takes-hold sig (IsSubterm subject) (subterm-arguments subject) (fits.ByValue sig m.subst) None
    m.rule.pattern (subject ∷ []) m.table (([], refl), tt) h.takes in
    entries-held ranks is.listing.ascending m.table
    (all-also (λ d. AllByRecursion (IsSubterm subject) d.terms)
    (λ d. AllByRecursion (λ u. Contains ranks.terms u) d.terms)
    (λ d. all-also (IsSubterm subject) (λ u. Contains ranks.terms u) (λ u s. (is.listing.exactly u).1 (inl s)) d.terms)
    m.table subterms)

-- so it has the token that is computed
pub token_of-fits : (sig : Sig) (m : Match) → Fits sig m.rule.pattern m.subject.term m.subst m.table
    → IsTokenOf m (token_of m)
token_of-fits sig m h = record {
  ranks = table_of m.subject.term (rule_constants m.rule);
  ranked = table_of-is m.subject.term (rule_constants m.rule);
  entries = map (entry_in (table_of m.subject.term (rule_constants m.rule))) m.table;
  read = entries-fit sig m h;
  spelt = refl;
}

-- and no other one
pub token_of-only : (m : Match) (text : Text) → IsTokenOf m text → text ≡ token_of m
token_of-only m text h =
    let subject = m.subject.term in
    let constants = rule_constants m.rule in
    let same : h.ranks ≡ table_of subject constants = IsTableOf-unique subject constants h.ranks
    (table_of subject constants) h.ranked (table_of-is subject constants) in
    h.spelt ∙ ap (front_text m.subject.name m.rule.name)
    (entries-read h.ranks h.ranked.listing.ascending h.entries m.table h.read
    ∙ ap (λ t. map (entry_in t) m.table) same)

-- ---- items

-- the table of an item is the least of its substitution
pub least-in : (sig : Sig) (rule : Rule) (t : Tree) (is : List Item) (i : Item)
    → AreLeast sig rule.pattern t (item_substs is) (item_tables is) → In i is → IsLeast sig rule.pattern t i.1 i.0
least-in sig rule t [] i h k = absurd k
least-in sig rule t (j ∷ is) i h (inl e) = subst (λ x. IsLeast sig rule.pattern t x.1 x.0) (sym e) h.0
least-in sig rule t (j ∷ is) i h (inr k) = least-in sig rule t is i h.1 k
