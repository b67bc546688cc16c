-- Siblings with one variable as their second argument.
use Rattle.std.proofs.Common.{◌≡◌, ℕ, zero, suc, ◌-◌, ◌<◌, ◌≤◌, List, [], ◌∷◌, length, take, drop, true, false, refl}
use Rattle.std.proofs.Common.{map, ap, sym, ◌∙◌, subst, arith, inl, inr, slice_index_or}
use Rattle.std.specs.Prelude.{Bool, IfSome, Option, None, Some, option_map, filter, if◌then◌else◌}
use Rattle.std.proofs.lemmas.Bool.{and_parts}
use Rattle.mp_term.specs.Order.{tree_cmp}
use Rattle.mp_term.specs.OrderLaws.{tree_cmp_total, tree_same}
use Rattle.mp_term.specs.Pieces.{same, without}
use Rattle.mp_term.proofs.PiecesLaws.{same-sound, same-itself, sublist-from_piece}
use Rattle.mp_term.specs.Search.{In}
use Rattle.mp_term.specs.Signature.{Sig}
use Rattle.mp_term.specs.Tree.{Tree}
use Rattle.mp_term.proofs.TestLaws.{below_or_not}
use Rattle.mp_pattern.specs.Fits.{Entry}
use Rattle.mp_pattern.specs.PatternTree.{Pattern, Patterns, app_pattern, dot, more_patterns, no_patterns, patterns}
use Rattle.mp_pattern.specs.PatternTree.{symbol_pattern, wild_pattern}
use Rattle.mp_pattern.specs.Value.{Value, Subst, value_of}
use Rattle.mp_pattern.specs.Variables.{comm_above}
use Rattle.mp_pattern.specs.View.{pattern_tree}
use Rattle.mp_table.specs.Subterms.{arguments}
use Rattle.mp_table.specs.Table.{Table, term_at, terms_at}
use Rattle.mp_table.specs.declared.rank.Rank.{Rank}
use Rattle.mp_theory.specs.Frames.{Frame, child}
use Rattle.mp_theory.specs.Items.{items, items_by}
use Rattle.mp_theory.specs.Kept.{Keeps}
use Rattle.mp_theory.specs.Known.{contributed}
use Rattle.mp_theory.specs.Machine as machine
use Rattle.mp_theory.specs.Machine.{onward, said}
use Rattle.mp_theory.specs.MayMatch.{each_may_match, is_alone_in, may_match, takes_one}
use Rattle.mp_theory.specs.OneList.{Item}
use Rattle.mp_theory.specs.Supply.{Covers, marked, passing}
use Rattle.mp_theory.proofs.KeptValues.{item-by, item-goes_on, items-keep, solve-keeps}
use Rattle.mp_theory.proofs.KnownTerms.{said-bound}
use Rattle.mp_theory.proofs.Matching.{matched, may_match-earlier}
use Rattle.mp_theory.proofs.SupplyLaws.{passing-without, supply-behind}
use Rattle.mp_theory.proofs.Walk.{choices-exact}
use Rattle.mp_search.specs.declared.query.Query.{Query}
use Rattle.mp_search.specs.declared.site.Site.{Site}
use Rattle.mp_search.specs.Frames.{above}
use Rattle.mp_search.specs.Numbers.{IsNumberAt}
use Rattle.mp_search.specs.Partners.{ArePair, IsDot, ArePartners, IsFlat}
use Rattle.mp_search.specs.Portion.{LeadsOn, StandBetween, second_is}
use Rattle.mp_search.specs.Site.{site_frame, site_place}
use Rattle.mp_search.proofs.MatchLaws.{match-children}
use Rattle.mp_search.proofs.OwnItems.{bound-value, item-again}
use Rattle.mp_search.proofs.PlacesLaws.{each-second}

-- what the child takes alone in an item it may match
pub leads-match : (q : Query) (x : Site) (s : Subst) (r : Rank) → LeadsOn q x s r
    → may_match q.sig.now s (above x.under) (pattern_tree x.child.now) (term_at q.table.now r) ≡ true
leads-match q x s r l = matched q.sig.now l.count (pattern_tree x.child.now) (site_frame q x) l.frames s l.entry
    (term_at q.table.now r) l.item l.choice l.found l.alone

-- of two terms one list has but one
pub alone-same : (l : List Tree) (t u : Tree) → is_alone_in l t ≡ true → is_alone_in l u ≡ true → t ≡ u
alone-same [] t u h k = cc
alone-same (v ∷ []) t u h k = sym (same-sound tree_cmp tree_cmp_total tree_same v t h)
    ∙ same-sound tree_cmp tree_cmp_total tree_same v u k
alone-same (v ∷ w ∷ l) t u h k = cc

module _ (sig : Sig) where
  -- the second of two children may match a second argument
  second-there : (s : Subst) (f : Option ℕ) (p r : Pattern) (ts : List Tree)
      → each_may_match sig s f (more_patterns p (more_patterns r no_patterns)) ts ≡ true
      → (v : Tree) × (second_is v ts ≡ true) × (may_match sig s f r v ≡ true)
  second-there s f p r [] h = cc
  second-there s f p r (t ∷ []) h = let none = (and_parts (may_match sig s f p t) _ h).1 in cc
  second-there s f p r (t ∷ v ∷ ts) h =
      let later = (and_parts (may_match sig s f p t) _ h).1 in
      (v, same-itself tree_cmp tree_cmp_total tree_same v, (and_parts (may_match sig s f r v) _ later).0)

  -- a wildcard of a variable that has a value matches the one term that this contributes
  value-known : (s : Subst) (f : Option ℕ) (y : List ℕ) (u : Value) (t : Tree) → value_of s y ≡ Some u
      → may_match sig s f (wild_pattern dot (Some y)) t ≡ true → is_alone_in (contributed sig f u) t ≡ true
  value-known s f y u t e h = subst (λ o. elim (option_map (contributed sig f) o) as (λ _. Bool)
      [ None ↦ true | Some l ↦ is_alone_in l t ] ≡ true) e h

  -- a variable that is bound has a value from then on
  wild-bound : (k : ℕ) (f : Frame) (fs : List Frame) (y : List ℕ) (s : Subst) (i : Item)
      → In i (items sig k (child (wild_pattern dot (Some y)) f fs) s) → (u : Value) × (value_of i.1 y ≡ Some u)
  wild-bound zero f fs y s i h = absurd h
  wild-bound (suc k) f fs y s i h =
      let n = child (wild_pattern dot (Some y)) f fs in
      let g = item-goes_on sig k n s i h in
      let b = said-bound sig dot y f fs g.0 s g.3.after g.3.bound in
      let v = bound-value s y b.0 g.3.after b.2 in
      let u = items-keep sig k (onward n g.0) g.3.after (g.1, i.1) g.3.rest y v.0 v.1 in
      (u.0, u.1)

  -- the variable has a value behind the two children
  second-bound : (k : ℕ) (f : Frame) (fs : List Frame) (p : Pattern) (y : List ℕ) (s : Subst) (i : Item) → IsFlat p
      → In i (items sig k
      (child p (record f { children = more_patterns (wild_pattern dot (Some y)) no_patterns }) fs) s)
      → (u : Value) × (value_of i.1 y ≡ Some u)
  second-bound zero f fs p y s i flat h = absurd h
  second-bound (suc k) f fs (app_pattern g ps) y s i flat h = absurd flat
  second-bound (suc k) f fs (symbol_pattern n) y s i flat h =
      let g = item-goes_on sig k (child (symbol_pattern n)
      (record f { children = more_patterns (wild_pattern dot (Some y)) no_patterns }) fs) s i h in
      wild-bound k _ _ y g.3.after (g.1, i.1) g.3.rest
  second-bound (suc k) f fs (wild_pattern w x) y s i flat h =
      let g = item-goes_on sig k (child (wild_pattern w x)
      (record f { children = more_patterns (wild_pattern dot (Some y)) no_patterns }) fs) s i h in
      wild-bound k _ _ y g.3.after (g.1, i.1) g.3.rest

  -- so it has where such an application has taken
  second-value : (k : ℕ) (p : Pattern) (f : Frame) (fs : List Frame) (s : Subst) (e : Entry) (i : Item) (g : ℕ)
      (r : Pattern) (y : List ℕ)
      → p ≡ app_pattern g (more_patterns r (more_patterns (wild_pattern dot (Some y)) no_patterns)) → IsFlat r
      → In i (items_by sig k (child p f fs) s e) → (u : Value) × (value_of i.1 y ≡ Some u)
  second-value k p f fs s e i g r y is flat h =
      let b = item-by sig k (child p f fs) s e i h in
      let whole = app_pattern g (more_patterns r (more_patterns (wild_pattern dot (Some y)) no_patterns)) in
      let inner : Frame = record {
        under = Some g;
        children = no_patterns;
        left = if e.collapsed then e.terms else machine.arguments e.terms;
        owes = e.collapsed;
      } in
      second-bound k inner (machine.taken_out whole e f ∷ fs) r y b.2.0 (b.0, i.1) flat
      (subst (λ p. In {X = Item} (b.0, i.1) (items sig k (onward (child p f fs) e) b.2.0)) is b.2.2)

-- a rank whose term passes
passing-some : (test : Tree → Bool) (t : Table) (rs : List Rank) → 1 ≤ passing test (terms_at t rs)
    → (z : Rank) × (j : ℕ) × (j < length rs) × (slice_index_or rs j z ≡ z) × (test (term_at t z) ≡ true)
passing-some test t [] h = absurd (omega (arith, h))
passing-some test t (r ∷ rs) h = elim (test (term_at t r)) as (λ b. test (term_at t r) ≡ b
    → 1 ≤ length (if b then term_at t r ∷ filter test (terms_at t rs) else filter test (terms_at t rs))
    → (z : Rank) × (j : ℕ) × (j < length (r ∷ rs)) × (slice_index_or (r ∷ rs) j z ≡ z) × (test (term_at t z) ≡ true)) [
      | true ↦ λ e n. (r, 0, omega arith, refl, e)
      | false ↦ λ e n. let o = passing-some test t rs n in (o.0, suc o.1, omega (arith, o.2), o.3, o.4)
    ] refl h

in-front : (n j : ℕ) (rs : List Rank) (z : Rank) → j < n → j < length rs → slice_index_or rs j z ≡ z → In z (take n rs)
in-front zero j rs z l m e = absurd (omega (arith, l))
in-front (suc n) j [] z l m e = absurd (omega (arith, m))
in-front (suc n) zero (r ∷ rs) z l m e = inl (sym e)
in-front (suc n) (suc j) (r ∷ rs) z l m e = inr (in-front n j rs z (omega (arith, l)) (omega (arith, m)) e)

in-slice : (i n j : ℕ) (rs : List Rank) (z : Rank) → i ≤ j → j < n → j < length rs → slice_index_or rs j z ≡ z
    → In z (take (n - i) (drop i rs))
in-slice zero n j rs z a b l e = let same : n ≡ n - 0 = omega arith in
    subst (λ m. In z (take m rs)) same (in-front n j rs z b l e)
in-slice (suc i) n j [] z a b l e = absurd (omega (arith, l))
in-slice (suc i) n zero (r ∷ rs) z a b l e = absurd (omega (arith, a))
in-slice (suc i) n (suc j) (r ∷ rs) z a b l e = let same : n - 1 - i ≡ n - suc i = omega arith in
    subst (λ m. In z (take m (drop i rs))) same
    (in-slice i (n - 1) j rs z (omega (arith, a)) (omega (arith, b)) (omega (arith, l)) e)

module _ (q : Query) (x : Site) (s : Subst) (r : Pattern) (others : Patterns)
    (later : patterns (map pattern_tree x.later.now) ≡ more_patterns r others)
    (pair : ArePair q (pattern_tree x.child.now) r) where
  abbrev sig : Sig
  sig = q.sig.now

  abbrev p : Pattern
  p = pattern_tree x.child.now

  abbrev f : Option ℕ
  f = above x.under

  abbrev left : List Tree
  left = terms_at q.table.now x.left.now

  -- both are applications of one operation, and have one variable
  same_op : pair.other.op ≡ pair.own.op
  same_op =
      let own : app_pattern pair.own.op pair.own.children ≡ app_pattern pair.alike.op pair.alike.children =
      sym pair.own.is ∙ pair.alike.is in
      let other : app_pattern pair.other.op pair.other.children ≡ app_pattern pair.alike.op pair.alike.others =
      sym pair.other.is ∙ pair.alike.other in
      let a : pair.own.op ≡ pair.alike.op = cc in
      let b : pair.other.op ≡ pair.alike.op = cc in
      b ∙ sym a

  same_variable : pair.other.second.name ≡ pair.own.second.name
  same_variable =
      let e : Some pair.other.second.name ≡ Some pair.own.second.name =
      sym pair.other.second.number.name ∙ pair.own.second.number.name in cc

  -- over a substitution in which the variable has a value, the sibling matches terms with one second argument
  one-second : (S : Subst) (u : Value) (v t : Tree) → value_of S pair.own.second.name ≡ Some u
      → is_alone_in (contributed sig (Some pair.own.op) u) v ≡ true → may_match sig S f r t ≡ true
      → second_is v (arguments t) ≡ true
  one-second S u v t e known m =
      let w = wild_pattern dot (Some pair.other.second.name) in
      let c = match-children sig S f r pair.other.op pair.other.children t pair.other.is pair.other.firm
      pair.other.plain m in
      each-second sig S (Some pair.other.op) pair.other.second.first w (more_patterns w no_patterns) no_patterns
      pair.other.children (arguments t) v pair.other.second.children refl
      (λ z n. alone-same (contributed sig (Some pair.own.op) u) v z known
      (value-known sig S (Some pair.own.op) pair.own.second.name u z e
      (subst (λ y. may_match sig S (Some pair.own.op) (wild_pattern dot (Some y)) z ≡ true) same_variable
      (subst (λ g. may_match sig S (Some g) w z ≡ true) same_op n)))) c

  -- the sibling matches a term that is left
  matched-left : (z : Rank) (l : LeadsOn q x s z)
      → 1 ≤ passing (may_match sig l.item.1 f r) left
  matched-left z l =
      let S : Subst = l.item.1 in
      let n = site_place q x l.frames in
      let test = may_match sig S f r in
      let again = item-again sig l.count n s l.entry l.item l.found in
      let b = item-by sig l.count n S l.entry l.item again.1 in
      let kept : Keeps S b.2.0 = solve-keeps sig S (said n l.entry) b.2.0 b.2.1 in
      let one : takes_one sig f r ≡ true = subst (λ o. takes_one sig f o ≡ true) (sym pair.other.is) refl in
      let few : 1 ≤ passing test (without tree_cmp l.entry.terms left) =
      subst (λ ps. marked (true ∷ []) ps ≤ passing test (without tree_cmp l.entry.terms left)) later
      (supply-behind sig l.count p (site_frame q x) l.frames l.entry b.2.0 (b.0, S) b.2.2 test (true ∷ [])
      (subst (λ ps. Covers sig b.2.0 test f (true ∷ []) ps) (sym later)
      (one, λ t m. may_match-earlier sig f r t S b.2.0 kept m, tt))) in
      let piece = ((choices-exact sig p (site_frame q x) l.frames l.entry.terms l.entry.collapsed).0 l.choice).0 in
      omega (
        arith,
        few,
        passing-without test l.entry.terms left
            (sublist-from_piece tree_cmp tree_cmp_total tree_same (comm_above sig f) l.entry.terms left piece),
      )

  pub partners-are : (i n : ℕ)
      → StandBetween (λ z. may_match sig s f r (term_at q.table.now z) ≡ true) x.left.now i n
      → ArePartners q x s (take (n - i) (drop i x.left.now))
  partners-are i n between z h l =
      let S : Subst = l.item.1 in
      let t = term_at q.table.now z in
      let place = site_place q x l.frames in
      let again = item-again sig l.count place s l.entry l.item l.found in
      let own = pair.own in
      let e = own.is ∙ ap (app_pattern own.op) own.second.children in
      let u = second-value sig l.count p (site_frame q x) l.frames s l.entry l.item own.op own.second.first
      own.second.name e own.second.flat l.found in
      let m = matched sig l.count p (site_frame q x) l.frames S l.entry t l.item l.choice again.1 l.alone in
      let c = match-children sig S f p own.op own.children t own.is own.firm own.plain m in
      let v = second-there sig S (Some own.op) own.second.first (wild_pattern dot (Some own.second.name)) (arguments t)
      (subst (λ ps. each_may_match sig S (Some own.op) ps (arguments t) ≡ true) own.second.children c) in
      let known = value-known sig S (Some own.op) own.second.name u.0 v.0 u.1 v.2 in
      let o = passing-some (may_match sig S f r) q.table.now x.left.now (matched-left z l) in
      let now = may_match-earlier sig f r (term_at q.table.now o.0) s S again.0 o.4 in
      let place_is = ap (λ (k : Rank). k.0) o.3 in
      let from : i ≤ o.1 =
      elim (below_or_not o.1 i) [ inl a ↦ absurd (between.before o.0 o.1 now a place_is) | inr a ↦ a ] in
      let to : o.1 < n =
      elim (below_or_not o.1 n) [ inl a ↦ a | inr a ↦ absurd (between.behind o.0 o.1 now a o.2 place_is) ] in (
        o.0,
        in-slice i n o.1 x.left.now o.0 from to o.2 o.3,
        record {
          term = v.0;
          own = v.1;
          other = one-second S u.0 v.0 (term_at q.table.now o.0) u.1 known o.4;
        },
      )

-- a dot with a variable is one of that number
pub dot-number : (q : Query) (p : Pattern) (o : Option ℕ) (y : Option (List ℕ)) → p ≡ wild_pattern dot y
    → IsNumberAt q p o → IfSome o (IsDot q p)
dot-number q p None y e n = tt
dot-number q p (Some v) y e n = named y e (subst (λ r. IsNumberAt q r (Some v)) e n)
  where
    named : (y : Option (List ℕ)) → p ≡ wild_pattern dot y → IsNumberAt q (wild_pattern dot y) (Some v) → IsDot q p v
    named None e n = cc
    named (Some z) e n = record { name = z; is = e; number = n }

-- the second of the terms of ranks is that of the second rank
pub second-term : (t : Table) (u : Tree) (rs : List Rank) (d : Rank) → second_is u (terms_at t rs) ≡ true
    → u ≡ term_at t (slice_index_or (take (length rs - 1) (drop 1 rs)) 0 d)
second-term t u [] d h = cc
second-term t u (s ∷ []) d h = cc
second-term t u (s ∷ o ∷ rs) d h =
    let many : suc (length rs) ≡ suc (suc (length rs)) - 1 = omega arith in
    same-sound tree_cmp tree_cmp_total tree_same u (term_at t o) h
    ∙ ap (λ n. term_at t (slice_index_or (take n (o ∷ rs)) 0 d)) many
