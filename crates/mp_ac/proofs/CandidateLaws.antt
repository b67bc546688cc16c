-- The ranks of the terms that a child may take, and what is kept of each child as another is asked.
use Rattle.std.proofs.Common.{◌≡◌, ◌<◌, ◌≤◌, ℕ, zero, suc, List, [], ◌∷◌, ◌++◌, take, drop, length, get_or}
use Rattle.std.proofs.Common.{refl, ap, sym, subst, ◌∙◌, arith, inl, inr, ◌⊎◌, ◌≢◌, Bool, true, false}
use Rattle.std.specs.Prelude.{◌-◌, ◌&&◌, ◌||◌, Option, Some, None, not, nat_eq, replicate, slice_get, slice_set}
use Rattle.std.specs.Prelude.{if◌then◌else◌, IsSome, is_some, option_and_then, option_map}
use Rattle.std.specs.List.{AllByRecursion, filter, list_any}
use Rattle.std.specs.List.Sorted.{IsSorted, IsStrictlySortedBy}
use Rattle.std.specs.declared.cmp.Ordering.TheVariants.{Less}
use Rattle.std.proofs.Math.Seq.{drop-append_seam}
use Rattle.std.proofs.lemmas.Bool.{eq-eqb, eqb-true, not-false}
use Rattle.std.proofs.lemmas.List.{append_assoc, length-append, take_all}
use Rattle.std.proofs.lemmas.List.Kept.{IsStrictlySortedBy-filter}
use Rattle.std.proofs.lemmas.Option.{slice_get_cases, slice_get_within}
use Rattle.mp_term.specs.Listing.{In}
use Rattle.mp_term.proofs.ListLaws.{all-also, all-append}
use Rattle.mp_term.proofs.PiecesLaws.{nat_cmp-less}
use Rattle.mp_term.proofs.SearchLaws.{in-filter, in-left, in-right, from_in-map}
use Rattle.mp_term.specs.Tree.{Tree}
use Rattle.mp_pattern.specs.PatternTree.{Pattern}
use Rattle.mp_pattern.specs.View.{pattern_tree}
use Rattle.mp_pattern.specs.declared.pattern.Pattern as declared
use Rattle.mp_table.specs.Table.{Table, HasRank, HasRanks, rank_cmp, term_at, terms_at}
use Rattle.mp_table.specs.declared.rank.Rank.{Rank}
use Rattle.mp_theory.specs.Shape.{shape}
use Rattle.mp_search.proofs.PortionLaws.{AreFrom, Rise, rise-sorted}
use Rattle.mp_ac.proofs.Parts.{taken-more}
use Rattle.mp_ac.specs.Candidates.{AreCandidates, AreChoices, AreEntries, AreLeadEntries, IsBarred, IsFound, IsKept}
use Rattle.mp_ac.specs.Candidates.{given_terms, is_same, unasked}
use Rattle.mp_ac.specs.declared.node.Node.{Node}
use Rattle.mp_ac.specs.Clash.{clash}
use Rattle.mp_ac.specs.CommPlans.{IsLead, child_at}
use Rattle.mp_ac.specs.declared.candidates.Found.{Found}
use Rattle.mp_ac.specs.declared.comm_plans.CommPlans.{CommPlans}
use Rattle.mp_ac.specs.declared.comm_plans.Lead.{Lead}

same-rank : (q r : Rank) → nat_eq q.0 r.0 ≡ true → q ≡ r
same-rank q r e = ap (λ n. record { 0 = n }) (eqb-true q.0 r.0 e)

module _ (p : Rank → Bool) where
  -- the rank, where it isn't the last one and passes the test
  abbrev pub once : Option Rank → Rank → List Rank
  once last r = if not (is_same last r) && p r then r ∷ [] else []

  -- the ranks that pass the test, each once
  abbrev pub distinct : Option Rank → List Rank → List Rank
  distinct last [] = []
  distinct last (r ∷ rs) = once last r ++ distinct (Some r) rs

  once-all : (P : Rank → Type 0) (last : Option Rank) (r : Rank) → P r → AllByRecursion P (once last r)
  once-all P last r h = elim (not (is_same last r) && p r) as (λ b. AllByRecursion P (if b then r ∷ [] else [])) [
    | true ↦ (h, tt)
    | false ↦ tt
  ]

  distinct-all : (P : Rank → Type 0) (last : Option Rank) (rs : List Rank) → AllByRecursion P rs
      → AllByRecursion P (distinct last rs)
  distinct-all P last [] h = tt
  distinct-all P last (r ∷ rs) h =
      all-append P (once last r) (distinct (Some r) rs) (once-all P last r h.0) (distinct-all P (Some r) rs h.1)

  once-passes : (last : Option Rank) (r : Rank) → AllByRecursion (λ s. p s ≡ true) (once last r)
  once-passes last r = by_test (is_same last r) (p r) refl
    where
      by_test : (a b : Bool) → p r ≡ b → AllByRecursion (λ s. p s ≡ true) (if not a && b then r ∷ [] else [])
      by_test true b e = tt
      by_test false true e = (e, tt)
      by_test false false e = tt

  distinct-passes : (last : Option Rank) (rs : List Rank) → AllByRecursion (λ s. p s ≡ true) (distinct last rs)
  distinct-passes last [] = tt
  distinct-passes last (r ∷ rs) = all-append (λ s. p s ≡ true) (once last r) (distinct (Some r) rs)
      (once-passes last r) (distinct-passes (Some r) rs)

  -- they are above the last one
  once-above : (q r : Rank) → q.0 ≤ r.0 → AllByRecursion (λ s. q.0 < s.0) (once (Some q) r)
  once-above q r least = by_test (nat_eq q.0 r.0) (p r) refl
    where
      by_test : (a b : Bool) → nat_eq q.0 r.0 ≡ a
          → AllByRecursion (λ s. q.0 < s.0) (if not a && b then r ∷ [] else [])
      by_test true b e = tt
      by_test false true e =
          let differ : q.0 ≢ r.0 = λ same. (let k : nat_eq q.0 r.0 ≡ true = eq-eqb q.0 r.0 same in
          absurd (let w : true ≡ false = sym k ∙ e in cc)) in
          (omega (arith, least, differ), tt)
      by_test false false e = tt

  distinct-above : (q : Rank) (rs : List Rank) → AreFrom q.0 rs → Rise rs
      → AllByRecursion (λ s. q.0 < s.0) (distinct (Some q) rs)
  distinct-above q [] h up = tt
  distinct-above q (r ∷ rs) h up = all-append (λ s. q.0 < s.0) (once (Some q) r) (distinct (Some r) rs)
      (once-above q r h.0)
      (all-also (λ (s : Rank). r.0 < s.0) (λ s. q.0 < s.0) (λ s less. omega (arith, less, h.0)) (distinct (Some r) rs)
      (distinct-above r rs up.0 up.1))

  below-distinct : (r : Rank) (rs : List Rank) → AreFrom r.0 rs → Rise rs
      → AllByRecursion (λ s. rank_cmp r s ≡ Less) (distinct (Some r) rs)
  below-distinct r rs h up = all-also (λ (s : Rank). r.0 < s.0) (λ s. rank_cmp r s ≡ Less)
      (λ s. nat_cmp-less r.0 s.0) (distinct (Some r) rs) (distinct-above r rs h up)

  distinct-ascending : (last : Option Rank) (rs : List Rank) → Rise rs → IsStrictlySortedBy rank_cmp (distinct last rs)
  unfolding IsStrictlySortedBy
  distinct-ascending last [] up = tt
  distinct-ascending last (r ∷ rs) up =
      elim (not (is_same last r) && p r) as
      (λ b. IsStrictlySortedBy rank_cmp ((if b then r ∷ [] else []) ++ distinct (Some r) rs)) [
        | true ↦ (below-distinct r rs up.0 up.1, distinct-ascending (Some r) rs up.1)
        | false ↦ distinct-ascending (Some r) rs up.1
      ]

  -- each that passes the test is the last one or among them
  once-in : (last : Option Rank) (r : Rank) → p r ≡ true → (is_same last r ≡ true) ⊎ In r (once last r)
  once-in last r e = by_test (is_same last r) (p r) e
    where
      by_test : (a b : Bool) → b ≡ true → (a ≡ true) ⊎ In r (if not a && b then r ∷ [] else [])
      by_test true b h = inl refl
      by_test false true h = inr (inl refl)
      by_test false false h = cc

  distinct-first : (last : Option Rank) (r s : Rank) (rs : List Rank) → r ≡ s → p r ≡ true
      → (is_same last r ≡ true) ⊎ In r (distinct last (s ∷ rs))
  distinct-first last r s rs same e = elim (once-in last r e) [
    | inl a ↦ inl a
    | inr i ↦ inr (subst (λ q. In r (distinct last (q ∷ rs))) same
        (in-left r (once last r) (distinct (Some r) rs) i))
  ]

  distinct-in : (last : Option Rank) (r : Rank) (rs : List Rank) → In r rs → p r ≡ true
      → (is_same last r ≡ true) ⊎ In r (distinct last rs)
  distinct-in last r [] i e = absurd i
  distinct-in last r (s ∷ rs) (inl same) e = distinct-first last r s rs same e
  distinct-in last r (s ∷ rs) (inr i) e = elim (distinct-in (Some s) r rs i e) [
    | inl a ↦ distinct-first last r s rs (sym (same-rank s r a)) e
    | inr j ↦ inr (in-right r (once last s) (distinct (Some s) rs) j)
  ]

-- the ranks of the terms of a shape, each once, are candidates
pub distinct-candidates : (t : Table) (q : Pattern) (rs : List Rank) → HasRanks t rs → IsSorted rank_cmp rs
    → AreCandidates t q (terms_at t rs) (distinct (λ r. shape q (term_at t r)) None rs)
distinct-candidates t q rs there up =
    let p : Rank → Bool = λ r. shape q (term_at t r) in
    record {
      ranks = distinct-all p (HasRank t) None rs there;
      ascending = distinct-ascending p None rs (rise-sorted rs up);
      shaped = distinct-passes p None rs;
      all = λ u i shaped.
          let r = from_in-map (term_at t) u rs i in
          elim (distinct-in p None r.0 rs r.2 (subst (λ v. shape q v ≡ true) r.1 shaped)) [
            | inl wrong ↦ absurd (let k : false ≡ true = wrong in cc)
            | inr j ↦ (r.0, j, sym r.1)
          ];
    }

-- what is kept stays where there are more ranks
found-kept : (t : Table) (P : List Tree → List Rank → Type 0) (rs more all : List Rank) (e : Found) → all ≡ rs ++ more
    → IsFound t P rs e → IsFound t P all e
found-kept t P rs more all e longer h = subst (λ l. IsFound t P l e) (sym longer) (record {
  onward = h.onward;
  within = omega (arith, h.within, length-append rs more);
  known = λ node is. subst (P (given_terms (term_at t node) e.alone))
      (sym (taken-more e.from (e.end - e.from) rs more (omega (arith, h.within, h.onward))))
      (h.known node is);
})

pub entries-kept : (t : Table) (plans : CommPlans) (rs more all : List Rank) (es : List Found) → all ≡ rs ++ more
    → AreEntries t plans rs es → AreEntries t plans all es
entries-kept t plans rs more all es longer h = λ n e p there child.
    found-kept t (AreCandidates t p) rs more all e longer (h n e p there child)

pub leads-kept : (t : Table) (plans : CommPlans) (rs more all : List Rank) (es : List Found) → all ≡ rs ++ more
    → AreLeadEntries t plans rs es → AreLeadEntries t plans all es
leads-kept t plans rs more all es longer h = λ n e p next there lead.
    found-kept t (AreChoices t p next) rs more all e longer (h n e p next there lead)

-- nothing is kept where nothing was asked
found-unasked : (t : Table) (P : List Tree → List Rank → Type 0) (rs : List Rank) → IsFound t P rs unasked
found-unasked t P rs = record {
  onward = omega arith;
  within = omega arith;
  known = λ node is. cc;
}

-- what is known of a part that is kept of a node
pub found-part : (t : Table) (P : List Tree → List Rank → Type 0) (rs : List Rank) (es : List Found) (number : ℕ)
    (n : Node) (r : ℕ × ℕ) (k : IsKept es number n r) → IsFound t P rs k.entry
    → ((r.0 ≤ r.1) × (r.1 ≤ length rs)) × P (given_terms (term_at t n.node) n.alone) (take (r.1 - r.0) (drop r.0 rs))
found-part t P rs es number n r k h =
    subst (λ (q : ℕ × ℕ). ((q.0 ≤ q.1) × (q.1 ≤ length rs))
    × P (given_terms (term_at t n.node) n.alone) (take (q.1 - q.0) (drop q.0 rs))) (sym k.part) (
      (h.onward, h.within),
      subst (λ b. P (given_terms (term_at t n.node) b) (take (k.entry.end - k.entry.from) (drop k.entry.from rs)))
          k.alone (h.known n.node k.node),
    )

-- what stands at an index
pub index-found : {X : Type 0} (xs : List X) (i : ℕ) (x : X) → i < length xs → x ≡ get_or xs i x
    → slice_get xs i ≡ Some x
index-found [] i x h e = absurd (omega (arith, h))
index-found (y ∷ ys) zero x h e = ap Some (sym e)
index-found (y ∷ ys) (suc i) x h e = index-found ys i x (omega (arith, h)) e

-- an entry behind a write is the one that is written, or one from before
pub get-set : {X : Type 0} (xs : List X) (i n : ℕ) (v w : X) → slice_get (slice_set xs i v) n ≡ Some w
    → (n ≡ i) × (w ≡ v) ⊎ (slice_get xs n ≡ Some w)
get-set [] i n v w e = cc
get-set (x ∷ xs) zero zero v w e = inl (refl, cc)
get-set (x ∷ xs) zero (suc n) v w e = inr e
get-set (x ∷ xs) (suc i) zero v w e = inr e
get-set (x ∷ xs) (suc i) (suc n) v w e = elim (get-set xs i n v w e) [
  | inl h ↦ inl (ap suc h.0, h.1)
  | inr h ↦ inr h
]

-- an entry of those with more room is one from before, or that of a child that wasn't asked
get-room : (es : List Found) (k n : ℕ) (w : Found) → slice_get (es ++ replicate k unasked) n ≡ Some w
    → (slice_get es n ≡ Some w) ⊎ (unasked ≡ w)
get-room [] zero n w e = cc
get-room [] (suc k) zero w e = inr cc
get-room [] (suc k) (suc n) w e = get-room [] k n w e
get-room (x ∷ es) k zero w e = inl e
get-room (x ∷ es) k (suc n) w e = get-room es k n w e

-- each entry is what it is kept for where one is written
entry-filled : (t : Table) (P : List Tree → List Rank → Type 0) (all : List Rank) (es fs : List Found) (k number n : ℕ)
    (e w : Found) → fs ≡ slice_set (es ++ replicate k unasked) number e → slice_get fs n ≡ Some w
    → (slice_get es n ≡ Some w → IsFound t P all w) → (number ≡ n → IsFound t P all e) → IsFound t P all w
entry-filled t P all es fs k number n e w is there before own =
    elim (get-set (es ++ replicate k unasked) number n e w (ap (λ l. slice_get l n) (sym is) ∙ there)) [
      | inl same ↦ subst (IsFound t P all) (sym same.1) (own (sym same.0))
      | inr other ↦ elim (get-room es k n w other) [
        | inl old ↦ before old
        | inr blank ↦ subst (IsFound t P all) blank (found-unasked t P all)
      ]
    ]

pub entries-filled : (t : Table) (plans : CommPlans) (all : List Rank) (es fs : List Found) (k number : ℕ) (e : Found)
    → fs ≡ slice_set (es ++ replicate k unasked) number e → AreEntries t plans all es
    → ((p : Pattern) → child_at plans number ≡ Some p → IsFound t (AreCandidates t p) all e)
    → AreEntries t plans all fs
entries-filled t plans all es fs k number e is h own = λ n w p there child.
    entry-filled t (AreCandidates t p) all es fs k number n e w is there (λ before. h n w p before child)
    (λ same. own p (ap (child_at plans) same ∙ child))

pub leads-filled : (t : Table) (plans : CommPlans) (all : List Rank) (es fs : List Found) (k number : ℕ) (e : Found)
    → fs ≡ slice_set (es ++ replicate k unasked) number e → AreLeadEntries t plans all es
    → ((p : Pattern) (next : Option Pattern) → IsLead plans number p next → IsFound t (AreChoices t p next) all e)
    → AreLeadEntries t plans all fs
leads-filled t plans all es fs k number e is h own = λ n w p next there lead.
    entry-filled t (AreChoices t p next) all es fs k number n e w is there (λ before. h n w p next before lead)
    (λ same. own p next (subst (λ i. IsLead plans i p next) (sym same) lead))

-- the part behind the ranks
pub part-behind : (rs more all : List Rank) (from end : ℕ) → all ≡ rs ++ more → from ≡ length rs → end ≡ length all
    → take (end - from) (drop from all) ≡ more
part-behind rs more all from end is first last =
    ap (λ l. take (end - from) (drop from l)) is
    ∙ ap (λ n. take (end - from) (drop n (rs ++ more))) first
    ∙ ap (take (end - from)) (drop-append_seam rs more)
    ∙ take_all (end - from) more (omega (arith, first, last, ap length is, length-append rs more))

-- and what is kept where it was asked
pub found-new : (t : Table) (P : List Tree → List Rank → Type 0) (rs more all : List Rank) (e : Found) (node : Rank)
    → all ≡ rs ++ more → e.node ≡ Some node → e.from ≡ length rs → e.end ≡ length all
    → P (given_terms (term_at t node) e.alone) more → IsFound t P all e
found-new t P rs more all e node longer own first last h = record {
  onward = omega (arith, first, last, ap length longer, length-append rs more);
  within = omega (arith, last);
  known = λ m is.
      let same : node ≡ m = (let k : Some node ≡ Some m = sym own ∙ is in cc) in
      subst (P (given_terms (term_at t m) e.alone))
      (sym (part-behind rs more all e.from e.end longer first last))
      (subst (λ s. P (given_terms (term_at t s) e.alone) more) same h);
}

-- an item of a list of which none passes a test
none-holds : {X : Type 0} (f : X → Bool) (x : X) (xs : List X) → list_any f xs ≡ false → In x xs → f x ≡ false
none-holds f x [] e i = absurd i
none-holds f x (y ∷ xs) e (inl same) = by_test (f y) refl e
  where
    by_test : (b : Bool) → f y ≡ b → (b || list_any f xs) ≡ false → f x ≡ false
    by_test true q w = cc
    by_test false q w = ap f same ∙ q
none-holds f x (y ∷ xs) e (inr i) = none-holds f x xs (by_test (f y) e) i
  where
    by_test : (b : Bool) → (b || list_any f xs) ≡ false → list_any f xs ≡ false
    by_test true w = cc
    by_test false w = w

all-filter : {X : Type 0} (P : X → Type 0) (f : X → Bool) (xs : List X) → AllByRecursion P xs
    → AllByRecursion P (filter f xs)
all-filter P f [] h = tt
all-filter P f (x ∷ xs) h =
    elim (f x) as (λ b. AllByRecursion P (if b then x ∷ filter f xs else filter f xs)) [
      | true ↦ (h.0, all-filter P f xs h.1)
      | false ↦ all-filter P f xs h.1
    ]

-- candidates of a child without a next one are its choices
pub candidates-choices : (t : Table) (p : Pattern) (us : List Tree) (rs : List Rank) → AreCandidates t p us rs
    → AreChoices t p None us rs
candidates-choices t p us rs h = record {
  ranks = h.ranks;
  ascending = h.ascending;
  shaped = h.shaped;
  all = λ u i shaped. inl (h.all u i shaped);
}

-- the child takes the term of the rank together with one that the next child takes, of these
abbrev pub goes_on : Table → Pattern → Pattern → List Rank → Rank → Bool
goes_on t p q its r = list_any (λ s. not (clash p (term_at t r) q (term_at t s))) its

-- the candidates that go on are choices
pub choices-filter : (t : Table) (p q : Pattern) (us : List Tree) (own its : List Rank) → AreCandidates t p us own
    → AreCandidates t q us its → AreChoices t p (Some q) us (filter (goes_on t p q its) own)
choices-filter t p q us own its h k =
    let f : Rank → Bool = goes_on t p q its in
    record {
      ranks = all-filter (HasRank t) f own h.ranks;
      ascending = IsStrictlySortedBy-filter rank_cmp f own h.ascending;
      shaped = all-filter (λ r. shape p (term_at t r) ≡ true) f own h.shaped;
      all = λ u i shaped.
          let r = h.all u i shaped in
          by_test u r.0 r.1 r.2 (f r.0) refl;
    }
  where
    barred : (u : Tree) (r : Rank) → term_at t r ≡ u → goes_on t p q its r ≡ false → IsBarred (Some q) us p u
    barred u r is e = λ v i shaped.
        let s = k.all v i shaped in
        not-false (clash p u q v) (subst (λ x. not (clash p u q x) ≡ false) s.2
        (subst (λ x. not (clash p x q (term_at t s.0)) ≡ false) is
        (none-holds (λ z. not (clash p (term_at t r) q (term_at t z))) s.0 its e s.1)))

    by_test : (u : Tree) (r : Rank) → In r own → term_at t r ≡ u → (b : Bool) → goes_on t p q its r ≡ b
        → ((r : Rank) × In r (filter (goes_on t p q its) own) × (term_at t r ≡ u)) ⊎ IsBarred (Some q) us p u
    by_test u r i is true e = inl (r, in-filter (goes_on t p q its) r own i e, is)
    by_test u r i is false e = inr (barred u r is e)

-- a step of the filter
pub filter-passed : {X : Type 0} (f : X → Bool) (x : X) (xs rest part all : List X) → f x ≡ true → part ≡ x ∷ rest
    → xs ++ filter f part ≡ all → (xs ++ x ∷ []) ++ filter f rest ≡ all
filter-passed f x xs rest part all e is h = append_assoc xs (x ∷ []) (filter f rest)
    ∙ ap (λ b. xs ++ (if b then x ∷ filter f rest else filter f rest)) (sym e)
    ∙ ap (λ l. xs ++ filter f l) (sym is) ∙ h

pub filter-left : {X : Type 0} (f : X → Bool) (x : X) (xs rest part all : List X) → f x ≡ false → part ≡ x ∷ rest
    → xs ++ filter f part ≡ all → xs ++ filter f rest ≡ all
filter-left f x xs rest part all e is h =
    ap (λ b. xs ++ (if b then x ∷ filter f rest else filter f rest)) (sym e)
    ∙ ap (λ l. xs ++ filter f l) (sym is) ∙ h

-- the children of a lead are numbered
pub child-within : (plans : CommPlans) (n : ℕ) (p : Pattern) → child_at plans n ≡ Some p
    → n < length plans.children.items
child-within plans n p e = go (slice_get plans.children.items n) refl e
  where
    go : (o : Option declared.Pattern) → slice_get plans.children.items n ≡ o → option_map pattern_tree o ≡ Some p
        → n < length plans.children.items
    go None q w = cc
    go (Some x) q w = slice_get_within plans.children.items n x q

pub child-held : (plans : CommPlans) (n : ℕ) → n < length plans.children.items
    → (p : Pattern) × (child_at plans n ≡ Some p)
child-held plans n h = elim (slice_get_cases plans.children.items n).1 [
  | inl there ↦ (pattern_tree there.0, ap (option_map pattern_tree) there.2)
  | inr past ↦ absurd (omega (arith, h, past.0))
]

pub next-within : (plans : CommPlans) (n : ℕ) → IsSome (child_at plans n) → n < length plans.children.items
next-within plans n h = elim (slice_get_cases plans.children.items n).1 [
  | inl there ↦ there.1
  | inr past ↦ absurd (let k : false ≡ true = sym (ap (λ o. is_some (option_map pattern_tree o)) past.1) ∙ h in cc)
]

-- the lead that is read
pub lead-within : (plans : CommPlans) (n : ℕ) (p : Pattern) (next : Option Pattern) → IsLead plans n p next
    → n < length plans.leads.items
lead-within plans n p next h = slice_get_within plans.leads.items n h.lead h.held

pub lead-read : (plans : CommPlans) (n : ℕ) (p : Pattern) (next : Option Pattern) (l : Lead) → IsLead plans n p next
    → l ≡ get_or plans.leads.items n l → (child_at plans l.child ≡ Some p)
    × (next ≡ option_and_then (child_at plans) l.next)
    × ((m : ℕ) → l.next ≡ Some m → IsSome (child_at plans m))
lead-read plans n p next l h is =
    let found = index-found plans.leads.items n l (lead-within plans n p next h) is in
    let same : h.lead ≡ l = (let e : Some h.lead ≡ Some l = sym h.held ∙ found in cc) in
    subst (λ x. (child_at plans x.child ≡ Some p) × (next ≡ option_and_then (child_at plans) x.next)
    × ((m : ℕ) → x.next ≡ Some m → IsSome (child_at plans m))) same
    (h.child, h.next, h.next_held)

-- candidates are the same part of more ranks
pub candidates-kept : (t : Table) (p : Pattern) (us : List Tree) (rs more all : List Rank) (from end : ℕ)
    → all ≡ rs ++ more → from ≤ end → end ≤ length rs → AreCandidates t p us (take (end - from) (drop from rs))
    → AreCandidates t p us (take (end - from) (drop from all))
candidates-kept t p us rs more all from end longer onward within h = subst (AreCandidates t p us)
    (sym (ap (λ l. take (end - from) (drop from l)) longer
    ∙ taken-more from (end - from) rs more (omega (arith, onward, within)))) h
