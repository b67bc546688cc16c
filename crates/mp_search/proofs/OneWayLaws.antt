-- Where the substitution so far tells what children take, all items have one table.
use Rattle.std.proofs.Common.{◌≡◌, ℕ, zero, suc, List, [], ◌∷◌, length, Bool, true, false, refl, ap, sym, ◌∙◌, subst}
use Rattle.std.proofs.Common.{inl, inr, arith, eqb-true}
use Rattle.std.specs.Prelude.{filter, ◌&&◌, ◌||◌, not, Option, Some, None, is_some, if◌then◌else◌}
use Rattle.std.specs.Cmp.{IsTotalOrder}
use Rattle.std.specs.Ordering.{is_lt}
use Rattle.std.specs.declared.cmp.Ordering.TheVariants.{Equal}
use Rattle.std.proofs.lemmas.Bool.{and_parts, and_right}
use Rattle.std.proofs.lemmas.Cmp.{lists_total, tied_itself}
use Rattle.mp_term.specs.NormalTest.{has_head, is_single}
use Rattle.mp_term.specs.Order.{tree_cmp}
use Rattle.mp_term.specs.OrderLaws.{tree_cmp_total, tree_same}
use Rattle.mp_term.specs.Pieces.{without}
use Rattle.mp_term.specs.Search.{In}
use Rattle.mp_term.specs.Signature.{Sig, is_one}
use Rattle.mp_term.specs.Tree.{Tree, symbol, app, Trees, trees, tree_list}
use Rattle.mp_term.specs.TreeLists.{trees-tree_list}
use Rattle.mp_term.proofs.PiecesLaws.{same-sound, length-without, sublist-from_piece}
use Rattle.mp_term.proofs.SearchLaws.{from_in-map, in-map}
use Rattle.mp_pattern.specs.DerivationOrder.{table_cmp}
use Rattle.mp_pattern.specs.Fits.{Entry, Table, no_sequence}
use Rattle.mp_pattern.specs.PatternTree.{Wildcard, Pattern, symbol_pattern, app_pattern, wild_pattern}
use Rattle.mp_pattern.specs.PatternTree.{Patterns, no_patterns, more_patterns}
use Rattle.mp_pattern.specs.Value.{Value, Subst}
use Rattle.mp_pattern.specs.Variables.{comm_above}
use Rattle.mp_subst.specs.Bound.{Bound, value_in}
use Rattle.mp_subst.specs.Trail.{Trail, last_value}
use Rattle.mp_theory.specs.Frames.{Frame, Next, ended, refused, child, settle, is_done}
use Rattle.mp_theory.specs.Items.{items, items_by, behind}
use Rattle.mp_theory.specs.Kept.{Keeps}
use Rattle.mp_theory.specs.Known.{contributed}
use Rattle.mp_theory.specs.Machine.{is_ended, is_headed, arguments, onward, said, reads}
use Rattle.mp_theory.specs.MayMatch.{has_optional, takes_one, each_takes_one, is_plain, may_collapse}
use Rattle.mp_theory.specs.MayMatch.{may_match, each_may_match}
use Rattle.mp_theory.specs.OneList.{Item, item_tables}
use Rattle.mp_theory.proofs.ItemLaws.{GoesOn, from_in-items}
use Rattle.mp_theory.proofs.KeptValues.{filter-none, item-goes_on, solve-keeps}
use Rattle.mp_theory.proofs.Matching.{one-taken, match-taken, matching-behind}
use Rattle.mp_theory.proofs.Tables.{entry_cmp_total}
use Rattle.mp_theory.proofs.Walk.{choices-exact}
use Rattle.mp_search.specs.declared.mode.Mode.{Mode}
use Rattle.mp_search.specs.declared.mode.Mode.TheVariants.{First, After, At}
use Rattle.mp_search.specs.declared.query.Query.{Query}
use Rattle.mp_search.specs.Made.{HasValue}
use Rattle.mp_search.specs.Numbers.{IsNumberAt}
use Rattle.mp_search.specs.OneWay.{IsTold, AreTold, IsToldWithin, IsAnyWild, HaveOneWay, HaveOneTable}
use Rattle.mp_search.specs.Parts.{IsWild}
use Rattle.mp_search.specs.Reading.{subst_of}
use Rattle.mp_search.specs.Wanted.{wanted, good, beyond, IsStanding}
use Rattle.mp_search.proofs.LastLaws.{sublist-whole, same-entry}
use Rattle.mp_search.proofs.MatchLaws.{known-value, match-known}
use Rattle.mp_search.proofs.PartnerLaws.{alone-same}
use Rattle.mp_search.proofs.StandingLaws.{by-bound}
use Rattle.mp_search.proofs.SubstLaws.{has-value}

not-first : (b c : Bool) → (not b && c) ≡ true → b ≡ false
not-first true c h = cc
not-first false c h = refl

headed : (g : ℕ) (t : Tree) → has_head g t ≡ true → (ts : Trees) × (t ≡ app g ts)
headed g (symbol n) h = cc
headed g (app f ts) h = (ts, ap (λ x. app x ts) (sym (eqb-true g f h)))

-- applications of one operation with the same arguments are the same
same-arguments : (g : ℕ) (t u : Tree) → has_head g t ≡ true → has_head g u ≡ true
    → arguments (t ∷ []) ≡ arguments (u ∷ []) → t ≡ u
same-arguments g t u h k e =
    let a = headed g t h in
    let b = headed g u k in
    let l : tree_list a.0 ≡ tree_list b.0 = ap (λ x. arguments (x ∷ [])) (sym a.1) ∙ e
    ∙ ap (λ x. arguments (x ∷ [])) b.1 in
    let s : a.0 ≡ b.0 = sym (trees-tree_list a.0) ∙ ap trees l ∙ trees-tree_list b.0 in
    a.1 ∙ ap (app g) s ∙ sym b.1

-- a wildcard whose variable has a value is told
told-value : (s : Subst) (p : Pattern) (v : Value) → IsWild p → HasValue p s v → IsTold s p
told-value s (symbol_pattern n) v w h = tt
told-value s (app_pattern g ps) v w h = absurd w
told-value s (wild_pattern u x) v w h = (w, (v, h))

pub told-bound : (q : Query) (p : Pattern) (n : ℕ) (t : Trail) → IsNumberAt q p (Some n) → IsWild p
    → is_some (last_value t.stack n) ≡ true → IsTold (subst_of q t) p
told-bound q p n t m w h = bound (last_value t.stack n) refl h
  where
    bound : (o : Option Bound) → last_value t.stack n ≡ o → is_some o ≡ true → IsTold (subst_of q t) p
    bound None e h = cc
    bound (Some b) e h = told-value (subst_of q t) p (value_in q.table.now b) w (has-value q p n t b m e)

module _ (sig : Sig) where
  -- a child that is told matches one term at most
  told-same : (s : Subst) (f : Option ℕ) (p : Pattern) (t u : Tree) → IsTold s p → may_match sig s f p t ≡ true
      → may_match sig s f p u ≡ true → t ≡ u
  told-same s f (symbol_pattern n) t u h k m = sym (same-sound tree_cmp tree_cmp_total tree_same (symbol n) t k)
      ∙ same-sound tree_cmp tree_cmp_total tree_same (symbol n) u m
  told-same s f (app_pattern g ps) t u h k m = absurd h.0
  told-same s f (wild_pattern w x) t u h k m =
      let p = wild_pattern w x in
      alone-same (contributed sig f h.1.0) t u
      (known-value sig s f p h.1.0 t h.1.1 h.0 (match-known sig s f p w x t refl k))
      (known-value sig s f p h.1.0 u h.1.1 h.0 (match-known sig s f p w x u refl m))

  each-same : (s : Subst) (f : Option ℕ) (ps : Patterns) (ts us : List Tree) → AreTold s ps
      → each_may_match sig s f ps ts ≡ true → each_may_match sig s f ps us ≡ true → ts ≡ us
  each-same s f no_patterns [] [] h k m = refl
  each-same s f no_patterns [] (u ∷ us) h k m = cc
  each-same s f no_patterns (t ∷ ts) us h k m = cc
  each-same s f (more_patterns p ps) [] us h k m = cc
  each-same s f (more_patterns p ps) (t ∷ ts) [] h k m = cc
  each-same s f (more_patterns p ps) (t ∷ ts) (u ∷ us) h k m =
      let a = and_parts (may_match sig s f p t) (each_may_match sig s f ps ts) k in
      let b = and_parts (may_match sig s f p u) (each_may_match sig s f ps us) m in
      ap (λ x. x ∷ ts) (told-same s f p t u h.0 a.0 b.0) ∙ ap (λ xs. u ∷ xs) (each-same s f ps ts us h.1 a.1 b.1)

  -- a child that takes one term, reads it in one way, and may match one at most
  record IsDecided (s : Subst) (f : Option ℕ) (p : Pattern) : Type 0 where
    one : takes_one sig f p ≡ true
    plain : (e : Entry) → reads sig p f e ≡ true → e.collapsed ≡ false
    same : (t u : Tree) → may_match sig s f p t ≡ true → may_match sig s f p u ≡ true → t ≡ u

  told-plain : (s : Subst) (f : Option ℕ) (p : Pattern) (e : Entry) → IsTold s p → reads sig p f e ≡ true
      → e.collapsed ≡ false
  told-plain s f (symbol_pattern n) e h k = not-first e.collapsed _ k
  told-plain s f (wild_pattern w x) e h k = not-first e.collapsed _ k
  told-plain s f (app_pattern g ps) e h k = absurd h.0

  told-decided : (s : Subst) (f : Option ℕ) (p : Pattern) → IsTold s p → takes_one sig f p ≡ true → IsDecided s f p
  told-decided s f p h o = record {
    one = o;
    plain = λ e. told-plain s f p e h;
    same = λ t u. told-same s f p t u h;
  }

  firm-plain : (g : ℕ) (ps : Patterns) (b : Bool) (l : List Tree) → is_one sig g ≡ false
      → (if b then is_single l && (is_one sig g && no_sequence ps) else is_headed g l) ≡ true → b ≡ false
  firm-plain g ps true l o h =
      let a = and_parts (is_single l) (is_one sig g && no_sequence ps) h in
      let x : true ≡ false = sym (and_parts (is_one sig g) (no_sequence ps) a.1).0 ∙ o in cc
  firm-plain g ps false l o h = refl

  within-same : (s : Subst) (f : Option ℕ) (g : ℕ) (ps : Patterns) (t u : Tree)
      → IsToldWithin sig s (app_pattern g ps) → may_match sig s f (app_pattern g ps) t ≡ true
      → may_match sig s f (app_pattern g ps) u ≡ true → t ≡ u
  within-same s f g ps t u h k m =
      let firm : may_collapse sig g ps ≡ false = ap (λ b. b && (no_sequence ps && has_optional ps)) h.0 in
      let a = parts t k firm in
      let b = parts u m firm in
      same-arguments g t u a.0 b.0
      (each-same s (Some g) ps (arguments (t ∷ [])) (arguments (u ∷ [])) h.2 a.1 b.1)
    where
      below : (a b i j : Bool) → a ≡ false → i ≡ true → (a || (b && (not i || j))) ≡ true → (b ≡ true) × (j ≡ true)
      below true b i j m n k = cc
      below false false i j m n k = cc
      below false true false j m n k = cc
      below false true true j m n k = (refl, k)

      parts : (v : Tree) → may_match sig s f (app_pattern g ps) v ≡ true → may_collapse sig g ps ≡ false
          → (has_head g v ≡ true) × (each_may_match sig s (Some g) ps (arguments (v ∷ [])) ≡ true)
      parts v k firm = below (may_collapse sig g ps) (has_head g v) (is_plain sig (Some g) ps) _ firm h.1 k

  within-decided : (s : Subst) (f : Option ℕ) (p : Pattern) → IsToldWithin sig s p → IsDecided s f p
  within-decided s f (symbol_pattern n) h = absurd h
  within-decided s f (wild_pattern w x) h = absurd h
  within-decided s f (app_pattern g ps) h = record {
    one = refl;
    plain = λ e k. firm-plain g ps e.collapsed e.terms h.0 k;
    same = λ t u. within-same s f g ps t u h;
  }

  -- what is told stays told
  told-kept : (s r : Subst) (p : Pattern) → Keeps s r → IsTold s p → IsTold r p
  told-kept s r (symbol_pattern n) k h = tt
  told-kept s r (app_pattern g ps) k h = absurd h.0
  told-kept s r (wild_pattern w None) k h = absurd h.1.1
  told-kept s r (wild_pattern w (Some x)) k h = let u = k x h.1.0 h.1.1 in (h.0, (u.0, u.1))

  each-kept : (s r : Subst) (ps : Patterns) → Keeps s r → AreTold s ps → AreTold r ps
  each-kept s r no_patterns k h = tt
  each-kept s r (more_patterns p ps) k h = (told-kept s r p k h.0, each-kept s r ps k h.1)

  within-kept : (s r : Subst) (p : Pattern) → Keeps s r → IsToldWithin sig s p → IsToldWithin sig r p
  within-kept s r (symbol_pattern n) k h = absurd h
  within-kept s r (wild_pattern w x) k h = absurd h
  within-kept s r (app_pattern g ps) k h = (h.0, h.1, each-kept s r ps k h.2)

  way-kept : (s r : Subst) (ps : Patterns) → Keeps s r → HaveOneWay sig s ps → HaveOneWay sig r ps
  way-kept s r no_patterns k h = tt
  way-kept s r (more_patterns p ps) k (inl h) = inl h
  way-kept s r (more_patterns p ps) k (inr h) = inr (within-kept s r p k h.0, way-kept s r ps k h.1)

  -- where nothing more is to take there is one table, or none
  alike-zero : (n : Next) (s : Subst) → HaveOneTable (items sig zero n s)
  alike-zero n s i j = elim (is_ended n) as (λ b. In i (if b then ([], s) ∷ [] else [])
      → In j (if b then ([], s) ∷ [] else []) → i.0 ≡ j.0) [
        | true ↦ λ m o. first i m ∙ sym (first j o)
        | false ↦ λ m. absurd m
      ]
    where
      first : (i : Item) → In i (([], s) ∷ []) → i.0 ≡ []
      first i (inl e) = ap (λ z. z.0) e
      first i (inr m) = absurd m

  -- behind a last frame something is found where it is done alone
  done-left : (left : List Tree) (o : Bool) (k : ℕ) (s : Subst) (i : Item)
      → In i (items sig k (if is_done left o then ended else refused) s) → left ≡ []
  done-left [] o k s i m = refl
  done-left (t ∷ ts) o zero s i m = absurd m
  done-left (t ∷ ts) o (suc k) s i m = absurd m

  alike-refused : (k : ℕ) (s : Subst) → HaveOneTable (items sig k refused s)
  alike-refused zero s i j m o = absurd m
  alike-refused (suc k) s i j m o = absurd m

  alike-ended : (k : ℕ) (s : Subst) → HaveOneTable (items sig k ended s)
  alike-ended zero s i j m o = alike-zero ended s i j m o
  alike-ended (suc k) s i j m o = absurd m

  -- where items go on with one entry, behind which they have one table, they have one
  alike-step : (k : ℕ) (n : Next) (s : Subst)
      → ((e d : Entry) (T V : Table) (r q : Subst) → GoesOn sig k n s e T r → GoesOn sig k n s d V q → e ≡ d)
      → ((e : Entry) (r : Subst) → Keeps s r → HaveOneTable (items sig k (onward n e) r))
      → HaveOneTable (items sig (suc k) n s)
  alike-step k n s same behind i j m o =
      let a = item-goes_on sig k n s i m in
      let b = item-goes_on sig k n s j o in
      let q : a.0 ≡ b.0 = same a.0 b.0 a.1 b.1 i.1 j.1 a.3 b.3 in
      a.2 ∙ ap (λ e. e ∷ a.1) q
      ∙ ap (λ T. b.0 ∷ T) (tails b.0 a.1 b.1 i.1 j.1 (subst (λ e. GoesOn sig k n s e a.1 i.1) q a.3) b.3)
      ∙ sym b.2
    where
      some-same : {p q : Subst} → Some p ≡ Some q → p ≡ q
      some-same e = cc

      tails : (d : Entry) (T V : Table) (r q : Subst) → GoesOn sig k n s d T r → GoesOn sig k n s d V q → T ≡ V
      tails d T V r q g h =
          let e : g.after ≡ h.after = some-same (sym g.bound ∙ h.bound) in
          behind d h.after (solve-keeps sig s (said n d) h.after h.bound) (T, r) (V, q)
          (subst (λ p. In {X = Item} (T, r) (items sig k (onward n d) p)) e g.rest) h.rest

  -- so they do at a child that is decided
  decided-same : (k : ℕ) (p : Pattern) (f : Frame) (fs : List Frame) (s : Subst) → IsDecided s f.under p
      → (e d : Entry) (T V : Table) (r q : Subst) → GoesOn sig k (child p f fs) s e T r
      → GoesOn sig k (child p f fs) s d V q → e ≡ d
  decided-same k p f fs s z e d T V r q g h =
      let a = taken e T r g in
      let b = taken d V q h in
      same-entry e d (a.1 ∙ ap (λ t. t ∷ []) (z.same a.0 b.0 a.2 b.2) ∙ sym b.1)
      (z.plain e (read e T r g) ∙ sym (z.plain d (read d V q h)))
    where
      read : (e : Entry) (T : Table) (r : Subst) → GoesOn sig k (child p f fs) s e T r → reads sig p f.under e ≡ true
      read e T r g = ((choices-exact sig p f fs e.terms e.collapsed).0 g.choice).1

      taken : (e : Entry) (T : Table) (r : Subst) → GoesOn sig k (child p f fs) s e T r
          → (t : Tree) × (e.terms ≡ t ∷ []) × (may_match sig s f.under p t ≡ true)
      taken e T r g =
          let o = one-taken sig p f.under e z.one (read e T r g) in (
            o.0,
            o.1,
            match-taken sig p f fs e o.0 s g.after o.1 (read e T r g) g.bound
                (matching-behind sig k p f fs e g.after (T, r) g.rest).0,
          )

  -- where one is told within, all go on with the entry of any
  told-by : (k : ℕ) (p : Pattern) (f : Frame) (fs : List Frame) (s : Subst) → IsToldWithin sig s p
      → (e : Entry) (W : Table) → In (e ∷ W) (item_tables (items sig (suc k) (child p f fs) s))
      → (i : Item) → In i (items sig (suc k) (child p f fs) s) → In i (items_by sig k (child p f fs) s e)
  told-by k p f fs s told e W h i m =
      let n = child p f fs in
      let a = from_in-map (λ i. i.0) (e ∷ W) (items sig (suc k) n s) h in
      let g = from_in-items sig k n s e W a.0.1
      (subst (λ T. In {X = Item} (T, a.0.1) (items sig (suc k) n s)) (sym a.1) a.2) in
      let b = item-goes_on sig k n s i m in
      let same : e ≡ b.0 =
      decided-same k p f fs s (within-decided s f.under p told) e b.0 W b.1 a.0.1 i.1 g b.3 in
      subst (λ d. In i (items_by sig k n s d)) (sym same)
      (subst (λ T. In {X = Item} (T, i.1) (items_by sig k n s b.0)) (sym b.2)
      (subst (λ is. In {X = Item} (b.0 ∷ b.1, i.1) is) (sym (by-bound sig k n s b.3.after b.0 b.3.bound))
      (in-map (behind b.0) (b.1, i.1) (items sig k (onward n b.0) b.3.after) b.3.rest)))

  abbrev frame : Option ℕ → Patterns → List Tree → Bool → Frame
  frame u ps left o = record { under = u; children = ps; left = left; owes = o }

  -- so they do at a wildcard that is the last child of all
  last-same : (k : ℕ) (w : Wildcard) (x : Option (List ℕ)) (u : Option ℕ) (left : List Tree) (o : Bool) (s : Subst)
      → (e d : Entry) (T V : Table) (r q : Subst)
      → GoesOn sig k (child (wild_pattern w x) (frame u no_patterns left o) []) s e T r
      → GoesOn sig k (child (wild_pattern w x) (frame u no_patterns left o) []) s d V q → e ≡ d
  last-same k w x u left o s e d T V r q g h =
      let a = whole e T r g in
      let b = whole d V q h in
      same-entry e d (a.0 ∙ sym b.0) (a.1 ∙ sym b.1)
    where
      whole : (e : Entry) (T : Table) (r : Subst)
          → GoesOn sig k (child (wild_pattern w x) (frame u no_patterns left o) []) s e T r
          → (e.terms ≡ left) × (e.collapsed ≡ false)
      whole e T r g =
          let c = (choices-exact sig (wild_pattern w x) (frame u no_patterns left o) [] e.terms e.collapsed).0
          g.choice in
          let part = sublist-from_piece tree_cmp tree_cmp_total tree_same (comm_above sig u) e.terms left c.0 in
          let none = ap length (done-left (without tree_cmp e.terms left) _ k g.after (T, r) g.rest) in (
            sublist-whole e.terms left part
                (omega (arith, length-without tree_cmp tree_cmp_total tree_same e.terms left part, none)),
            not-first e.collapsed _ c.1,
          )

  -- one frame whose children have one way, and one more in it whose children are told
  abbrev Single : ℕ → Type 0
  Single k = (u : Option ℕ) (ps : Patterns) (left : List Tree) (o : Bool) (s : Subst) → HaveOneWay sig s ps
      → HaveOneTable (items sig k (settle (frame u ps left o ∷ [])) s)

  abbrev Double : ℕ → Type 0
  Double k = (v : Option ℕ) (qs : Patterns) (inner : List Tree) (c : Bool) (u : Option ℕ) (ps : Patterns)
      (left : List Tree) (o : Bool) (s : Subst) → AreTold s qs → each_takes_one sig v qs ≡ true → HaveOneWay sig s ps
      → HaveOneTable (items sig k (settle (frame v qs inner c ∷ frame u ps left o ∷ [])) s)

  single-step : (k : ℕ) → Single k → Double k → Single (suc k)
  single-step k one two u no_patterns left o s h =
      elim (is_done left o) as (λ b. HaveOneTable (items sig (suc k) (if b then ended else refused) s))
      [ true ↦ alike-ended (suc k) s | false ↦ alike-refused (suc k) s ]
  single-step k one two u (more_patterns p ps) left o s (inl h) = by_child p ps h.0 h.1
    where
      by_child : (p : Pattern) (ps : Patterns) → IsAnyWild p → ps ≡ no_patterns
          → HaveOneTable (items sig (suc k) (child p (frame u ps left o) []) s)
      by_child (symbol_pattern n) ps a e = absurd a
      by_child (app_pattern g qs) ps a e = absurd a
      by_child (wild_pattern w x) ps a e =
          subst (λ ps. HaveOneTable (items sig (suc k) (child (wild_pattern w x) (frame u ps left o) []) s)) (sym e)
          (alike-step k (child (wild_pattern w x) (frame u no_patterns left o) []) s
          (last-same k w x u left o s) (λ e r kept. one u no_patterns _ _ r tt))
  single-step k one two u (more_patterns p ps) left o s (inr h) = by_child p h.0
    where
      by_child : (p : Pattern) → IsToldWithin sig s p
          → HaveOneTable (items sig (suc k) (child p (frame u ps left o) []) s)
      by_child (symbol_pattern n) a = absurd a
      by_child (wild_pattern w x) a = absurd a
      by_child (app_pattern g qs) a =
          alike-step k (child (app_pattern g qs) (frame u ps left o) []) s
          (decided-same k (app_pattern g qs) (frame u ps left o) [] s (within-decided s u (app_pattern g qs) a))
          (λ e r kept. two (Some g) qs _ _ u ps _ _ r (each-kept s r qs kept a.2)
          (and_parts (not (comm_above sig (Some g))) _ a.1).1 (way-kept s r ps kept h.1))

  double-step : (k : ℕ) → Single (suc k) → Double k → Double (suc k)
  double-step k one two v no_patterns inner c u ps left o s a t h =
      elim (is_done inner c) as (λ b.
      HaveOneTable (items sig (suc k) (if b then settle (frame u ps left o ∷ []) else refused) s))
      [ true ↦ one u ps left o s h | false ↦ alike-refused (suc k) s ]
  double-step k one two v (more_patterns p qs) inner c u ps left o s a t h = by_child p a.0 b.0
    where
      b : (takes_one sig v p ≡ true) × (each_takes_one sig v qs ≡ true)
      b = and_parts (takes_one sig v p) (each_takes_one sig v qs) t

      behind : (inner : List Tree) (c : Bool) (r : Subst) → Keeps s r
          → HaveOneTable (items sig k (settle (frame v qs inner c ∷ frame u ps left o ∷ [])) r)
      behind inner c r kept = two v qs inner c u ps left o r (each-kept s r qs kept a.1) b.1 (way-kept s r ps kept h)

      by_child : (p : Pattern) → IsTold s p → takes_one sig v p ≡ true
          → HaveOneTable (items sig (suc k) (child p (frame v qs inner c) (frame u ps left o ∷ [])) s)
      by_child (symbol_pattern n) told one =
          alike-step k (child (symbol_pattern n) (frame v qs inner c) (frame u ps left o ∷ [])) s
          (decided-same k (symbol_pattern n) (frame v qs inner c) (frame u ps left o ∷ []) s
          (told-decided s v (symbol_pattern n) told one)) (λ e r kept. behind _ _ r kept)
      by_child (wild_pattern w x) told one =
          alike-step k (child (wild_pattern w x) (frame v qs inner c) (frame u ps left o ∷ [])) s
          (decided-same k (wild_pattern w x) (frame v qs inner c) (frame u ps left o ∷ []) s
          (told-decided s v (wild_pattern w x) told one)) (λ e r kept. behind _ _ r kept)
      by_child (app_pattern g rs) told one = absurd told.0

  both : (k : ℕ) → Single k × Double k
  both zero = (
    λ u ps left o s h. alike-zero (settle (frame u ps left o ∷ [])) s,
    λ v qs inner c u ps left o s a t h. alike-zero (settle (frame v qs inner c ∷ frame u ps left o ∷ [])) s,
  )
  both (suc k) =
      let w = both k in
      let one = single-step k w.0 w.1 in
      (one, double-step k one w.1)

  -- where the children of the last frame have one way all items have one table
  pub one-table : (k : ℕ) (u : Option ℕ) (p : Pattern) (ps : Patterns) (left : List Tree) (o : Bool) (s : Subst)
      → HaveOneWay sig s (more_patterns p ps)
      → HaveOneTable (items sig k (child p (record { under = u; children = ps; left = left; owes = o }) []) s)
  one-table k u p ps left o s h = (both k).0 u (more_patterns p ps) left o s h

total : IsTotalOrder table_cmp
total = lists_total entry_cmp_total

-- after the table of one of them comes none then
pub none-after : (q : Query) (m : Mode) (W : Table) (is : List Item) → m ≡ After → IsStanding m W is
    → HaveOneTable is → wanted q m W is ≡ []
none-after q First W is e h one = cc
none-after q At W is e h one = cc
none-after q After W is e h one =
    let a = from_in-map (λ i. i.0) W is h in
    filter-none (λ i. good q i && is_lt (table_cmp W i.0)) is (λ i m.
    let same : W ≡ i.0 = a.1 ∙ one a.0 i a.2 m in
    and_right (good q i) (is_lt (table_cmp W i.0))
    (ap is_lt (subst (λ T. table_cmp W T ≡ Equal) same (tied_itself total W))))

-- what is left out of a list isn't in what is found of it
none-in : {X : Type 0} (p : X → Bool) (xs : List X) (x : X) → filter p xs ≡ [] → In x xs → p x ≡ false
none-in p [] x e m = absurd m
none-in p (y ∷ ys) x e m = at (p y) refl e m (none-in p ys x)
  where
    at : (b : Bool) → p y ≡ b → (if b then y ∷ filter p ys else filter p ys) ≡ [] → In x (y ∷ ys)
        → (filter p ys ≡ [] → In x ys → p x ≡ false) → p x ≡ false
    at true h e m later = cc
    at false h e (inl i) later = ap p i ∙ h
    at false h e (inr i) later = later e i

-- where the child of the place is told within, nothing comes but behind the entry of the table at hand
pub none-told : (q : Query) (m : Mode) (k : ℕ) (n : Next) (p : Pattern) (f : Frame) (fs : List Frame) (s : Subst)
    (e : Entry) (W : Table) → child p f fs ≡ n → m ≡ After → IsToldWithin q.sig.now s p
    → IsStanding m (e ∷ W) (items q.sig.now (suc k) n s) → wanted q m (e ∷ W) (items_by q.sig.now k n s e) ≡ []
    → wanted q m (e ∷ W) (items q.sig.now (suc k) n s) ≡ []
none-told q m k n p f fs s e W same after told =
    subst
    (λ n. IsStanding m (e ∷ W) (items q.sig.now (suc k) n s) → wanted q m (e ∷ W) (items_by q.sig.now k n s e) ≡ []
    → wanted q m (e ∷ W) (items q.sig.now (suc k) n s) ≡ []) same
    (λ stands none. filter-none (λ i. good q i && beyond m (e ∷ W) i.0) (items q.sig.now (suc k) (child p f fs) s)
    (λ i h. none-in (λ i. good q i && beyond m (e ∷ W) i.0) (items_by q.sig.now k (child p f fs) s e) i none
    (told-by q.sig.now k p f fs s told e W
    (subst (λ m. IsStanding m (e ∷ W) (items q.sig.now (suc k) (child p f fs) s)) after stands) i h)))
