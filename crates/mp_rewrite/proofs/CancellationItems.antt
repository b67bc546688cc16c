-- What a cancellation takes first is what the first substitution of its rule's one-list says.
use Rattle.std.proofs.Common.{◌≡◌, ◌∙◌, ap, sym, refl, subst, ℕ, ◌+◌, ◌≤◌, true, false, ◌&&◌, not}
use Rattle.std.proofs.Common.{List, [], ◌∷◌, ◌++◌, length, arith, inl, inr, append-nil}
use Rattle.std.specs.Prelude.{Option, slice_get, Some, None, if◌then◌else◌}
use Rattle.std.specs.declared.cmp.Ordering.TheVariants.{Less}
use Rattle.std.specs.List.{AllByRecursion}
use Rattle.std.proofs.Math.Bool.{and-false}
use Rattle.mp_term.specs.Tree.{Tree, symbol, app, trees}
use Rattle.mp_term.specs.Order.{tree_cmp}
use Rattle.mp_term.specs.OrderLaws.{tree_cmp_total, tree_same}
use Rattle.mp_term.specs.Sorting.{sorted}
use Rattle.mp_term.specs.Signature.{Sig, is_assoc, is_comm}
use Rattle.mp_term.specs.Normal.{IsNormal}
use Rattle.mp_term.specs.NormalTest.{has_head}
use Rattle.mp_term.proofs.Sorting.{tally, hit, hit_itself, Ascends, tally-sorted, ascends-sorted, one_order}
use Rattle.mp_term.proofs.Sorting.{sorted_again}
use Rattle.mp_pattern.specs.Admission.{Rule, meets}
use Rattle.mp_pattern.specs.Contribution.{contribution, spread}
use Rattle.mp_pattern.specs.DerivationOrder.{table_cmp}
use Rattle.mp_pattern.specs.Fits.{Table, Fits, WildTakes, ByValue, TakesBy, joined, arranged}
use Rattle.mp_pattern.specs.Fits.{no_sequence, some_left_out}
use Rattle.mp_pattern.specs.Instance.{is_fully_named}
use Rattle.mp_pattern.specs.PatternTree.{Wildcard, dot, plus, star, is_sequence, Pattern, no_patterns}
use Rattle.mp_pattern.specs.PatternTree.{more_patterns, symbol_pattern, app_pattern, wild_pattern}
use Rattle.mp_pattern.specs.Value.{Value, one, seq, bag, Subst, IsFinal, same_name, value_of}
use Rattle.mp_pattern.specs.Variables.{IsSubstOf}
use Rattle.mp_pattern.proofs.NameLaws.{same_name-itself}
use Rattle.mp_theory.specs.NoOptional.{HasNoOptional, IsNotOptional}
use Rattle.mp_theory.specs.OneList.{one_list}
use Rattle.mp_theory.proofs.FitsSolves.{at_value}
use Rattle.mp_cursor.proofs.RootLaws.{single, trees-injective, same-swapped}
use Rattle.mp_rewrite.proofs.LeastItems.{entry, one_list-first, front, no-more, contribution-either}
use Rattle.mp_rewrite.proofs.LeastItems.{contribution-alone}
use Rattle.mp_rewrite.proofs.LeastItems.{dot-value, begins-before, not_before-itself, same-entry}
use Rattle.mp_rewrite.proofs.PutBack.{sorted_same, tally-append}

pub app-trees : (f g : ℕ) (ts us : List Tree) → app f (trees ts) ≡ app g (trees us) → ts ≡ us
app-trees f g ts us e = trees-injective ts us (let i : trees ts ≡ trees us = cc in i)

-- a list that is sorted ascends
ascends-same : (ts : List Tree) → sorted tree_cmp ts ≡ ts → Ascends tree_cmp ts
ascends-same ts e = subst (Ascends tree_cmp) e (ascends-sorted tree_cmp tree_cmp_total ts)

-- what is known of the wildcard for the rest: it is a sequence, takes the rest, and takes lists in order
pub record IsForRest (sig : Sig) (g : ℕ) (rest : List Tree) (w : Wildcard) : Type 0 where
  pub sequence : is_sequence w ≡ true
  pub required : IsNotOptional w
  pub takes : WildTakes sig (Some g) w (bag rest) rest
  pub in_order : (v : Value) (l : List Tree) → IsFinal sig v → WildTakes sig (Some g) w v l → sorted tree_cmp l ≡ l

-- a star and a plus are such
module _ (sig : Sig) (g : ℕ) (rest : List Tree) (comm : is_comm sig g ≡ true) where
  arranged-sorted : (l m : List Tree) → l ≡ arranged sig (Some g) m → sorted tree_cmp l ≡ l
  arranged-sorted l m e =
      let i : l ≡ sorted tree_cmp m = e ∙ ap (λ b. if b then sorted tree_cmp m else m) comm in
      subst (λ k. sorted tree_cmp k ≡ k) (sym i) (sorted_again tree_cmp tree_cmp_total tree_same m)

  pub star-rest : IsForRest sig g rest star
  star-rest = record {
    sequence = refl;
    required = tt;
    takes = refl;
    in_order = λ v l f h. by_value v l f h;
  }
    where
      by_value : (v : Value) (l : List Tree) → IsFinal sig v → WildTakes sig (Some g) star v l
          → sorted tree_cmp l ≡ l
      by_value (one u) l f h = absurd h
      by_value (seq m) l f h = arranged-sorted l m h
      by_value (bag m) l f h = subst (λ k. sorted tree_cmp k ≡ k) (sym h) f.1

  pub plus-rest : (rest ≡ [] → ⊥) → IsForRest sig g rest plus
  plus-rest n = record {
    sequence = refl;
    required = tt;
    takes = (refl, n);
    in_order = λ v l f h. by_value v l f h;
  }
    where
      by_value : (v : Value) (l : List Tree) → IsFinal sig v → WildTakes sig (Some g) plus v l
          → sorted tree_cmp l ≡ l
      by_value (one u) l f h = absurd h
      by_value (seq m) l f h = arranged-sorted l m h.0
      by_value (bag m) l f h = subst (λ k. sorted tree_cmp k ≡ k) (sym h.0) f.1

-- an application of a commutative operation to ascending arguments, and the rest of them
pub record HasRest (sig : Sig) (g : ℕ) (ts rest : List Tree) (w : Wildcard) : Type 0 where
  pub comm : is_comm sig g ≡ true
  pub normal : IsNormal sig (app g (trees ts))
  pub up : Ascends tree_cmp ts
  pub rest_up : Ascends tree_cmp rest
  pub rest_normal : AllByRecursion (IsNormal sig) rest
  pub for_rest : IsForRest sig g rest w

module _ (sig : Sig) (g : ℕ) (ts rest : List Tree) (w : Wildcard) (h : HasRest sig g ts rest w) where
  sorted-up : (l : List Tree) → Ascends tree_cmp l → sorted tree_cmp l ≡ l
  sorted-up l a = one_order tree_cmp tree_cmp_total tree_same (sorted tree_cmp l) l
      (ascends-sorted tree_cmp tree_cmp_total l) a (λ z. tally-sorted tree_cmp z l)

  pub rest-final : IsFinal sig (bag rest)
  rest-final = (h.rest_normal, sorted-up rest h.rest_up)

  -- what the children take together makes the arguments
  pub makes : (l : List Tree) → ((z : Tree) → tally tree_cmp z ts ≡ tally tree_cmp z l)
      → app g (trees ts) ∷ [] ≡ app g (trees (arranged sig (Some g) l)) ∷ []
  makes l t =
      let i : arranged sig (Some g) l ≡ ts =
      ap (λ b. if b then sorted tree_cmp l else l) h.comm ∙ sym (sorted_same ts l t) ∙ sorted-up ts h.up in
      ap (λ us. app g (trees us) ∷ []) (sym i)

  -- and what makes the arguments has the same terms
  pub made : (l : List Tree) → app g (trees ts) ∷ [] ≡ app g (trees (arranged sig (Some g) l)) ∷ [] → (z : Tree)
      → tally tree_cmp z ts ≡ tally tree_cmp z l
  made l e z =
      let i : ts ≡ arranged sig (Some g) l = app-trees g g ts (arranged sig (Some g) l)
      (single (app g (trees ts)) (app g (trees (arranged sig (Some g) l))) e) in
      ap (tally tree_cmp z) (i ∙ ap (λ b. if b then sorted tree_cmp l else l) h.comm) ∙ tally-sorted tree_cmp z l

  -- the rest is what the wildcard takes, where it has the same terms
  pub rest-is : (v : Value) (l : List Tree) → IsFinal sig v → WildTakes sig (Some g) w v l
      → ((z : Tree) → tally tree_cmp z l ≡ tally tree_cmp z rest) → l ≡ rest
  rest-is v l f k t = one_order tree_cmp tree_cmp_total tree_same l rest
      (ascends-same l (h.for_rest.in_order v l f k)) h.rest_up t

  -- a pattern with it doesn't collapse
  pub not-plain : (y : Option (List ℕ)) → no_sequence (more_patterns (wild_pattern w y) no_patterns) ≡ true → ⊥
  not-plain y e =
      let i : false ≡ true = sym (ap (λ b. not b && true) h.for_rest.sequence) ∙ e in cc

-- ---- two equal terms

module _ (sig : Sig) (g : ℕ) (ts rest : List Tree) (w : Wildcard) (h : HasRest sig g ts rest w) (x y : List ℕ)
    (b : Tree) (apart : same_name x y ≡ false) (b_normal : IsNormal sig b)
    (alone : contribution sig (Some g) b ≡ Some (b ∷ [])) where
  -- the substitution
  abbrev pub bound : Subst
  bound = record { name = x; value = one b } ∷ record { name = y; value = bag rest } ∷ []

  pub bound-x : value_of bound x ≡ Some (one b)
  bound-x = rw (same_name-itself x) refl

  pub bound-y : value_of bound y ≡ Some (bag rest)
  bound-y = rw (apart, same_name-itself y) refl

  bound-final : AllByRecursion (λ c. IsFinal sig c.value) bound
  bound-final = (b_normal, (rest-final sig g ts rest w h, tt))

  abbrev pair_pattern : Pattern
  pair_pattern = app_pattern g (more_patterns (wild_pattern dot (Some x)) (more_patterns (wild_pattern dot (Some x))
      (more_patterns (wild_pattern w (Some y)) no_patterns)))

  abbrev pair_table : Table
  pair_table = entry (app g (trees ts) ∷ []) ∷ entry (b ∷ []) ∷ entry (b ∷ []) ∷ entry rest ∷ []

  pair-subst : IsSubstOf sig pair_pattern bound
  pair-subst = record {
    names = rw (same_name-itself x, apart) refl;
    forms = (
      rw (same_name-itself x, apart) refl,
      (rw (same_name-itself y, same-swapped x y apart, h.for_rest.sequence, h.comm) refl, tt),
    );
    final = bound-final;
  }

  module _ (whole : (z : Tree) → tally tree_cmp z ts ≡ tally tree_cmp z (b ∷ b ∷ []) + tally tree_cmp z rest) where
    pair-fits : Fits sig pair_pattern (app g (trees ts)) bound pair_table
    pair-fits = record {
      subst_of = pair-subst;
      takes = inl (record {
        takes = (b ∷ []) ∷ (b ∷ []) ∷ rest ∷ [];
        tables = (entry (b ∷ []) ∷ []) ∷ (entry (b ∷ []) ∷ []) ∷ (entry rest ∷ []) ∷ [];
        children = (
          ((one b, bound-x, alone), refl),
          (((one b, bound-x, alone), refl), (((bag rest, bound-y, h.for_rest.takes), refl), tt)),
        );
        node = makes sig g ts rest w h (b ∷ b ∷ (rest ++ []))
            (λ z. omega (arith, whole z, ap (tally tree_cmp z) (append-nil rest)));
        table = refl;
      });
    }

    -- no table that fits comes before it
    pair-least : ((z : Tree) → tree_cmp z b ≡ Less → tally tree_cmp z ts ≤ 1) → (s : Subst) (V : Table)
        → Fits sig pair_pattern (app g (trees ts)) s V → table_cmp V pair_table ≡ Less → ⊥
    pair-least none s V f less = elim f.takes as (λ o. ⊥) [
      | inl k ↦
          let line = ByValue sig s in
          let p1 = front sig line g (wild_pattern dot (Some x)) (more_patterns (wild_pattern dot (Some x))
          (more_patterns (wild_pattern w (Some y)) no_patterns)) k.takes k.tables k.children in
          let p2 = front sig line g (wild_pattern dot (Some x)) (more_patterns (wild_pattern w (Some y)) no_patterns)
          p1.lists p1.tables p1.others in
          let p3 = front sig line g (wild_pattern w (Some y)) no_patterns p2.lists p2.tables p2.others in
          let p4 = no-more sig line g p3.lists p3.tables p3.others in
          let lists : k.takes ≡ p1.list ∷ p2.list ∷ p3.list ∷ [] =
          p1.all_lists ∙ ap (λ l. p1.list ∷ l) p2.all_lists ∙ ap (λ l. p1.list ∷ p2.list ∷ l) p3.all_lists
          ∙ ap (λ l. p1.list ∷ p2.list ∷ p3.list ∷ l) p4.0 in
          let tables : k.tables ≡ p1.table ∷ p2.table ∷ p3.table ∷ [] =
          p1.all_tables ∙ ap (λ l. p1.table ∷ l) p2.all_tables ∙ ap (λ l. p1.table ∷ p2.table ∷ l) p3.all_tables
          ∙ ap (λ l. p1.table ∷ p2.table ∷ p3.table ∷ l) p4.1 in
          pair-before none s V p1.list p2.list p3.list k.takes k.tables p1.table p2.table p3.table lists tables
          p1.takes p2.takes p3.takes k.node k.table f.subst_of.final less
      | inr k ↦ absurd (not-plain sig g ts rest w h (Some y) k.plain)
    ]
      where
        pair-before : ((z : Tree) → tree_cmp z b ≡ Less → tally tree_cmp z ts ≤ 1) → (s : Subst) (V : Table)
            (k l m : List Tree) (ls : List (List Tree)) (Ts : List Table) (T1 T2 T3 : Table)
            → ls ≡ k ∷ l ∷ m ∷ [] → Ts ≡ T1 ∷ T2 ∷ T3 ∷ []
            → TakesBy sig (ByValue sig s) (Some g) (wild_pattern dot (Some x)) k T1
            → TakesBy sig (ByValue sig s) (Some g) (wild_pattern dot (Some x)) l T2
            → TakesBy sig (ByValue sig s) (Some g) (wild_pattern w (Some y)) m T3
            → app g (trees ts) ∷ [] ≡ app g (trees (arranged sig (Some g) (joined ls))) ∷ []
            → V ≡ entry (app g (trees ts) ∷ []) ∷ joined Ts
            → AllByRecursion (λ c. IsFinal sig c.value) s → table_cmp V pair_table ≡ Less → ⊥
        pair-before none s V k l m ls Ts T1 T2 T3 el eT a c d node eV final less =
            let u = dot-value sig g a.0.0 k a.0.2 in
            let v = dot-value sig g c.0.0 l c.0.2 in
            let q : Some (one u.0) ≡ Some (one v.0) =
            ap Some (sym u.1) ∙ sym a.0.1 ∙ c.0.1 ∙ ap Some v.1 in
            let same : u.0 ≡ v.0 = cc in
            let r : Some l ≡ Some k = sym v.2 ∙ ap (contribution sig (Some g)) (sym same) ∙ u.2 in
            let alike : l ≡ k = cc in
            let some : 1 ≤ length k = elim (contribution-either sig g u.0 k u.2)
            [ inl e ↦ omega (arith, ap length e) | inr e ↦ omega (arith, e) ] in
            let tabled : V ≡ entry (app g (trees ts) ∷ []) ∷ entry k ∷ entry k ∷ entry m ∷ [] =
            eV ∙ ap (λ Us. entry (app g (trees ts) ∷ []) ∷ joined Us) eT
            ∙ ap (λ U. entry (app g (trees ts) ∷ []) ∷ (U ++ (T2 ++ (T3 ++ [])))) a.1
            ∙ ap (λ U. entry (app g (trees ts) ∷ []) ∷ entry k ∷ (U ++ (T3 ++ []))) c.1
            ∙ ap (λ U. entry (app g (trees ts) ∷ []) ∷ entry k ∷ entry l ∷ (U ++ [])) d.1
            ∙ ap (λ n. entry (app g (trees ts) ∷ []) ∷ entry k ∷ entry n ∷ entry m ∷ []) alike in
            let together : (z : Tree) → tally tree_cmp z ts ≡ tally tree_cmp z (k ++ (k ++ (m ++ []))) =
            made sig g ts rest w h (k ++ (k ++ (m ++ [])))
            (node ∙ ap (λ ms. app g (trees (arranged sig (Some g) (joined ms))) ∷ []) el
            ∙ ap (λ n. app g (trees (arranged sig (Some g) (k ++ (n ++ (m ++ []))))) ∷ []) alike) in
            let begin = begins-before k b (entry k ∷ entry m ∷ []) (entry (b ∷ []) ∷ entry rest ∷ []) some
            (same-entry (entry (app g (trees ts) ∷ [])) (entry k ∷ entry k ∷ entry m ∷ [])
            (entry (b ∷ []) ∷ entry (b ∷ []) ∷ entry rest ∷ [])
            (subst (λ U. table_cmp U pair_table ≡ Less) tabled less)) in
            let counts : (z : Tree) → tally tree_cmp z ts
            ≡ hit tree_cmp z begin.0 + (hit tree_cmp z begin.0 + tally tree_cmp z m) =
            λ z. together z ∙ ap (λ n. tally tree_cmp z (n ++ (n ++ (m ++ [])))) begin.1
            ∙ ap (λ n. hit tree_cmp z begin.0 + (hit tree_cmp z begin.0 + tally tree_cmp z n)) (append-nil m) in
            elim begin.2 [
              | inl e ↦ omega (arith, none begin.0 e, counts begin.0, hit_itself tree_cmp tree_cmp_total begin.0)
              | inr e ↦
                  let rests : m ≡ rest = rest-is sig g ts rest w h d.0.0 m
                  (at_value (λ n v. IsFinal sig v) s y d.0.0 final d.0.1) d.0.2
                  (λ z. let i : hit tree_cmp z begin.0 ≡ hit tree_cmp z b = ap (hit tree_cmp z) e.0 in
                  omega (arith, counts z, whole z, i)) in
                  let first : k ≡ b ∷ [] = begin.1 ∙ ap (λ t. t ∷ []) e.0 in
                  not_before-itself (entry (b ∷ []) ∷ entry rest ∷ [])
                  (subst (λ n. table_cmp (entry (b ∷ []) ∷ entry n ∷ [])
                  (entry (b ∷ []) ∷ entry rest ∷ []) ≡ Less) rests
                  (subst (λ n. table_cmp (entry n ∷ entry m ∷ []) (entry (b ∷ []) ∷ entry rest ∷ []) ≡ Less) first e.1))
            ]

    pub pair-first : ((z : Tree) → tree_cmp z b ≡ Less → tally tree_cmp z ts ≤ 1) → (r : Rule)
        → r.pattern ≡ pair_pattern → r.condition ≡ None
        → slice_get (one_list sig r (app g (trees ts))) 0 ≡ Some bound
    pair-first none r e c =
        one_list-first sig r (app g (trees ts)) bound pair_table h.normal
        (ap is_fully_named e) (subst HasNoOptional (sym e) (tt, (tt, (h.for_rest.required, tt))))
        (subst (λ p. Fits sig p (app g (trees ts)) bound pair_table) (sym e) pair-fits)
        (λ u V f. pair-least none u V (subst (λ p. Fits sig p (app g (trees ts)) u V) e f))
        (ap (λ k. meets sig k bound) c)

  -- ---- an application to one term, and that term

  module _ (k : ℕ) (flat : is_assoc sig k ≡ false) where
    abbrev above : Tree → Tree
    above v = app k (trees (v ∷ []))

    abbrev under_pattern : Pattern
    under_pattern = app_pattern g (more_patterns (app_pattern k (more_patterns (wild_pattern dot (Some x)) no_patterns))
        (more_patterns (wild_pattern dot (Some x)) (more_patterns (wild_pattern w (Some y)) no_patterns)))

    abbrev under_table : Table
    under_table = entry (app g (trees ts) ∷ []) ∷ entry (above b ∷ []) ∷ entry (b ∷ []) ∷ entry (b ∷ [])
        ∷ entry rest ∷ []

    under-subst : IsSubstOf sig under_pattern bound
    under-subst = record {
      names = rw (same_name-itself x, apart) refl;
      forms = (
        rw (same_name-itself x, apart) refl,
        (rw (same_name-itself y, same-swapped x y apart, h.for_rest.sequence, h.comm) refl, tt),
      );
      final = bound-final;
    }

    -- a term under the operation below
    alone-below : (v : Tree) → contribution sig (Some k) v ≡ Some (v ∷ [])
    alone-below v = ap (λ c. if c then spread k v else Some (v ∷ [])) flat

    node-below : (v : Tree) → above v ∷ [] ≡ app k (trees (arranged sig (Some k) (v ∷ []))) ∷ []
    node-below v = elim (is_comm sig k) as
        (λ c. above v ∷ [] ≡ app k (trees (if c then sorted tree_cmp (v ∷ []) else (v ∷ []))) ∷ [])
        [ true ↦ refl | false ↦ refl ]

    -- what the application takes
    pub under-taken : (s : Subst) (l : List Tree) (T : Table)
        → TakesBy sig (ByValue sig s) (Some g)
        (app_pattern k (more_patterns (wild_pattern dot (Some x)) no_patterns)) l T
        → (v : Tree) × (value_of s x ≡ Some (one v)) × (l ≡ above v ∷ []) × (T ≡ entry l ∷ entry (v ∷ []) ∷ [])
    under-taken s l T (inl q) =
        let f = front sig (ByValue sig s) k (wild_pattern dot (Some x)) no_patterns q.takes q.tables q.children in
        let n = no-more sig (ByValue sig s) k f.lists f.tables f.others in
        let d = dot-value sig k f.takes.0.0 f.list f.takes.0.2 in
        let v = d.0 in
        let i : Some f.list ≡ Some (v ∷ []) = sym d.2 ∙ alone-below v in
        let one_list : f.list ≡ v ∷ [] = cc in
        let lists : q.takes ≡ (v ∷ []) ∷ [] =
        f.all_lists ∙ ap (λ l. f.list ∷ l) n.0 ∙ ap (λ l. l ∷ []) one_list in
        let tables : q.tables ≡ (entry (v ∷ []) ∷ []) ∷ [] =
        f.all_tables ∙ ap (λ l. f.table ∷ l) n.1 ∙ ap (λ l. l ∷ []) (f.takes.1 ∙ ap (λ l. entry l ∷ []) one_list) in (
          v,
          f.takes.0.1 ∙ ap Some d.1,
          q.node ∙ ap (λ l. app k (trees (arranged sig (Some k) (joined l))) ∷ []) lists ∙ sym (node-below v),
          q.table ∙ ap (λ l. record { terms = l; collapsed = false } ∷ joined q.tables) refl
              ∙ ap (λ Ts. entry l ∷ joined Ts) tables,
        )
    under-taken s l T (inr q) =
        let f = front sig (ByValue sig s) k (wild_pattern dot (Some x)) no_patterns q.takes q.tables q.children in
        let wrong : some_left_out (more_patterns (wild_pattern dot (Some x)) no_patterns) (f.list ∷ f.lists) ≡ true =
        ap (some_left_out (more_patterns (wild_pattern dot (Some x)) no_patterns)) (sym f.all_lists) ∙ q.left_out in
        absurd (never wrong)
      where
        never : false ≡ true → ⊥
        never e = cc

    module _ (whole : (z : Tree) → tally tree_cmp z ts
        ≡ tally tree_cmp z (above b ∷ b ∷ []) + tally tree_cmp z rest)
        (none : (v : Tree) → tree_cmp (above v) (above b) ≡ Less → 1 ≤ tally tree_cmp (above v) ts
        → (has_head g v ≡ false) × (tally tree_cmp v ts ≡ 0)) where
      under-fits : Fits sig under_pattern (app g (trees ts)) bound under_table
      under-fits = record {
        subst_of = under-subst;
        takes = inl (record {
          takes = (above b ∷ []) ∷ (b ∷ []) ∷ rest ∷ [];
          tables = (entry (above b ∷ []) ∷ entry (b ∷ []) ∷ []) ∷ (entry (b ∷ []) ∷ []) ∷ (entry rest ∷ []) ∷ [];
          children = (
            inl (record {
              takes = (b ∷ []) ∷ [];
              tables = (entry (b ∷ []) ∷ []) ∷ [];
              children = (((one b, bound-x, alone-below b), refl), tt);
              node = node-below b;
              table = refl;
            }),
            (((one b, bound-x, alone), refl), (((bag rest, bound-y, h.for_rest.takes), refl), tt)),
          );
          node = makes sig g ts rest w h (above b ∷ b ∷ (rest ++ []))
              (λ z. omega (arith, whole z, ap (tally tree_cmp z) (append-nil rest)));
          table = refl;
        });
      }

      same-above : (v : Tree) → above v ≡ above b → v ≡ b
      same-above v e = single v b (app-trees k k (v ∷ []) (b ∷ []) e)

      under-before : (s : Subst) (V : Table)
          (l m n : List Tree) (ls : List (List Tree)) (Ts : List Table) (T1 T2 T3 : Table)
          → ls ≡ l ∷ m ∷ n ∷ [] → Ts ≡ T1 ∷ T2 ∷ T3 ∷ []
          → TakesBy sig (ByValue sig s) (Some g)
          (app_pattern k (more_patterns (wild_pattern dot (Some x)) no_patterns)) l T1
          → TakesBy sig (ByValue sig s) (Some g) (wild_pattern dot (Some x)) m T2
          → TakesBy sig (ByValue sig s) (Some g) (wild_pattern w (Some y)) n T3
          → app g (trees ts) ∷ [] ≡ app g (trees (arranged sig (Some g) (joined ls))) ∷ []
          → V ≡ entry (app g (trees ts) ∷ []) ∷ joined Ts
          → AllByRecursion (λ c. IsFinal sig c.value) s → table_cmp V under_table ≡ Less → ⊥
      under-before s V l m n ls Ts T1 T2 T3 el eT a c d node eV final less =
          let t = under-taken s l T1 a in
          let v = t.0 in
          let o = dot-value sig g c.0.0 m c.0.2 in
          let q : Some (one v) ≡ Some (one o.0) = sym t.1 ∙ c.0.1 ∙ ap Some o.1 in
          let same : v ≡ o.0 = cc in
          let takes : contribution sig (Some g) v ≡ Some m = ap (contribution sig (Some g)) same ∙ o.2 in
          let tabled : V ≡ entry (app g (trees ts) ∷ []) ∷ entry (above v ∷ []) ∷ entry (v ∷ []) ∷ entry m ∷ entry n
          ∷ [] =
          eV ∙ ap (λ Us. entry (app g (trees ts) ∷ []) ∷ joined Us) eT
          ∙ ap (λ U. entry (app g (trees ts) ∷ []) ∷ (U ++ (T2 ++ (T3 ++ [])))) t.3
          ∙ ap (λ U. entry (app g (trees ts) ∷ []) ∷ entry l ∷ entry (v ∷ []) ∷ (U ++ (T3 ++ []))) c.1
          ∙ ap (λ U. entry (app g (trees ts) ∷ []) ∷ entry l ∷ entry (v ∷ []) ∷ entry m ∷ (U ++ [])) d.1
          ∙ ap (λ p. entry (app g (trees ts) ∷ []) ∷ entry p ∷ entry (v ∷ []) ∷ entry m ∷ entry n ∷ []) t.2 in
          let together : (z : Tree) → tally tree_cmp z ts ≡ tally tree_cmp z (above v ∷ (m ++ (n ++ []))) =
          made sig g ts rest w h (above v ∷ (m ++ (n ++ [])))
          (node ∙ ap (λ ms. app g (trees (arranged sig (Some g) (joined ms))) ∷ []) el
          ∙ ap (λ p. app g (trees (arranged sig (Some g) (p ++ (m ++ (n ++ []))))) ∷ []) t.2) in
          let counts : (z : Tree) → tally tree_cmp z ts
          ≡ hit tree_cmp z (above v) + (tally tree_cmp z m + tally tree_cmp z n) =
          λ z. together z ∙ ap (λ p. hit tree_cmp z (above v) + tally tree_cmp z (m ++ p)) (append-nil n)
          ∙ ap (λ p. hit tree_cmp z (above v) + p) (tally-append z m n) in
          let begin = begins-before (above v ∷ []) (above b) (entry (v ∷ []) ∷ entry m ∷ entry n ∷ [])
          (entry (b ∷ []) ∷ entry (b ∷ []) ∷ entry rest ∷ []) (omega arith)
          (same-entry (entry (app g (trees ts) ∷ []))
          (entry (above v ∷ []) ∷ entry (v ∷ []) ∷ entry m ∷ entry n ∷ [])
          (entry (above b ∷ []) ∷ entry (b ∷ []) ∷ entry (b ∷ []) ∷ entry rest ∷ [])
          (subst (λ U. table_cmp U under_table ≡ Less) tabled less)) in
          let itself : above v ≡ begin.0 = single (above v) begin.0 begin.1 in
          elim begin.2 [
            | inl e ↦
                let nothing = none v (ap (λ u. tree_cmp u (above b)) itself ∙ e)
                (omega (arith, counts (above v), hit_itself tree_cmp tree_cmp_total (above v))) in
                let i : Some (v ∷ []) ≡ Some m =
                sym (contribution-alone sig g v (ap (λ c. is_assoc sig g && c) nothing.0 ∙ and-false (is_assoc sig g)))
                ∙ takes in
                let taken : m ≡ v ∷ [] = cc in
                omega (arith, counts v, nothing.1, ap (tally tree_cmp v) taken, hit_itself tree_cmp tree_cmp_total v)
            | inr e ↦
                let v_is : v ≡ b = same-above v (itself ∙ e.0) in
                let i : Some m ≡ Some (b ∷ []) = sym takes ∙ ap (contribution sig (Some g)) v_is ∙ alone in
                let taken : m ≡ b ∷ [] = cc in
                let rests : n ≡ rest = rest-is sig g ts rest w h d.0.0 n
                (at_value (λ a v. IsFinal sig v) s y d.0.0 final d.0.1) d.0.2
                (λ z. let j : hit tree_cmp z (above v) ≡ hit tree_cmp z (above b) =
                ap (λ u. hit tree_cmp z (above u)) v_is in
                omega (arith, counts z, whole z, j, ap (tally tree_cmp z) taken)) in
                not_before-itself (entry (b ∷ []) ∷ entry (b ∷ []) ∷ entry rest ∷ [])
                (subst (λ p. table_cmp (entry (b ∷ []) ∷ entry (b ∷ []) ∷ entry p ∷ [])
                (entry (b ∷ []) ∷ entry (b ∷ []) ∷ entry rest ∷ []) ≡ Less) rests
                (subst (λ p. table_cmp (entry (b ∷ []) ∷ entry p ∷ entry n ∷ [])
                (entry (b ∷ []) ∷ entry (b ∷ []) ∷ entry rest ∷ []) ≡ Less) taken
                (subst (λ p. table_cmp (entry (p ∷ []) ∷ entry m ∷ entry n ∷ [])
                (entry (b ∷ []) ∷ entry (b ∷ []) ∷ entry rest ∷ []) ≡ Less) v_is e.1)))
          ]

      under-least : (s : Subst) (V : Table) → Fits sig under_pattern (app g (trees ts)) s V
          → table_cmp V under_table ≡ Less → ⊥
      under-least s V f less = elim f.takes as (λ o. ⊥) [
        | inl q ↦
            let line = ByValue sig s in
            let below = app_pattern k (more_patterns (wild_pattern dot (Some x)) no_patterns) in
            let p1 = front sig line g below (more_patterns (wild_pattern dot (Some x))
            (more_patterns (wild_pattern w (Some y)) no_patterns)) q.takes q.tables q.children in
            let p2 = front sig line g (wild_pattern dot (Some x)) (more_patterns (wild_pattern w (Some y)) no_patterns)
            p1.lists p1.tables p1.others in
            let p3 = front sig line g (wild_pattern w (Some y)) no_patterns p2.lists p2.tables p2.others in
            let p4 = no-more sig line g p3.lists p3.tables p3.others in
            let lists : q.takes ≡ p1.list ∷ p2.list ∷ p3.list ∷ [] =
            p1.all_lists ∙ ap (λ l. p1.list ∷ l) p2.all_lists ∙ ap (λ l. p1.list ∷ p2.list ∷ l) p3.all_lists
            ∙ ap (λ l. p1.list ∷ p2.list ∷ p3.list ∷ l) p4.0 in
            let tables : q.tables ≡ p1.table ∷ p2.table ∷ p3.table ∷ [] =
            p1.all_tables ∙ ap (λ l. p1.table ∷ l) p2.all_tables ∙ ap (λ l. p1.table ∷ p2.table ∷ l) p3.all_tables
            ∙ ap (λ l. p1.table ∷ p2.table ∷ p3.table ∷ l) p4.1 in
            under-before s V p1.list p2.list p3.list q.takes q.tables p1.table p2.table p3.table lists tables
            p1.takes p2.takes p3.takes q.node q.table f.subst_of.final less
        | inr q ↦ absurd (not-plain sig g ts rest w h (Some y) q.plain)
      ]

      pub under-first : (r : Rule) → r.pattern ≡ under_pattern → r.condition ≡ None
          → slice_get (one_list sig r (app g (trees ts))) 0 ≡ Some bound
      under-first r e c =
          one_list-first sig r (app g (trees ts)) bound under_table h.normal
          (ap is_fully_named e) (subst HasNoOptional (sym e) ((tt, tt), (tt, (h.for_rest.required, tt))))
          (subst (λ p. Fits sig p (app g (trees ts)) bound under_table) (sym e) under-fits)
          (λ u V f. under-least u V (subst (λ p. Fits sig p (app g (trees ts)) u V) e f))
          (ap (λ k. meets sig k bound) c)

-- ---- a symbol

module _ (sig : Sig) (g : ℕ) (ts rest : List Tree) (w : Wildcard) (h : HasRest sig g ts rest w) (y n : List ℕ) where
  abbrev pub rest_bound : Subst
  rest_bound = record { name = y; value = bag rest } ∷ []

  pub rest_bound-y : value_of rest_bound y ≡ Some (bag rest)
  rest_bound-y = rw (same_name-itself y) refl

  abbrev symbol_in_front : Pattern
  symbol_in_front = app_pattern g (more_patterns (symbol_pattern n)
      (more_patterns (wild_pattern w (Some y)) no_patterns))

  abbrev symbol_table : Table
  symbol_table = entry (app g (trees ts) ∷ []) ∷ entry (symbol n ∷ []) ∷ entry rest ∷ []

  module _ (whole : (z : Tree) → tally tree_cmp z ts ≡ tally tree_cmp z (symbol n ∷ []) + tally tree_cmp z rest) where
    symbol-fits : Fits sig symbol_in_front (app g (trees ts)) rest_bound symbol_table
    symbol-fits = record {
      subst_of = record {
        names = refl;
        forms = (rw (same_name-itself y, h.for_rest.sequence, h.comm) refl, tt);
        final = (rest-final sig g ts rest w h, tt);
      };
      takes = inl (record {
        takes = (symbol n ∷ []) ∷ rest ∷ [];
        tables = (entry (symbol n ∷ []) ∷ []) ∷ (entry rest ∷ []) ∷ [];
        children = ((refl, refl), (((bag rest, rest_bound-y, h.for_rest.takes), refl), tt));
        node = makes sig g ts rest w h (symbol n ∷ (rest ++ []))
            (λ z. omega (arith, whole z, ap (tally tree_cmp z) (append-nil rest)));
        table = refl;
      });
    }

    symbol-before : (s : Subst) (V : Table) (l m : List Tree) (ls : List (List Tree)) (Ts : List Table) (T1 T2 : Table)
        → ls ≡ l ∷ m ∷ [] → Ts ≡ T1 ∷ T2 ∷ []
        → TakesBy sig (ByValue sig s) (Some g) (symbol_pattern n) l T1
        → TakesBy sig (ByValue sig s) (Some g) (wild_pattern w (Some y)) m T2
        → app g (trees ts) ∷ [] ≡ app g (trees (arranged sig (Some g) (joined ls))) ∷ []
        → V ≡ entry (app g (trees ts) ∷ []) ∷ joined Ts
        → AllByRecursion (λ c. IsFinal sig c.value) s → table_cmp V symbol_table ≡ Less → ⊥
    symbol-before s V l m ls Ts T1 T2 el eT a d node eV final less =
        let together : (z : Tree) → tally tree_cmp z ts ≡ tally tree_cmp z (symbol n ∷ (m ++ [])) =
        made sig g ts rest w h (symbol n ∷ (m ++ []))
        (node ∙ ap (λ ms. app g (trees (arranged sig (Some g) (joined ms))) ∷ []) el
        ∙ ap (λ p. app g (trees (arranged sig (Some g) (p ++ (m ++ [])))) ∷ []) a.0) in
        let rests : m ≡ rest = rest-is sig g ts rest w h d.0.0 m
        (at_value (λ a v. IsFinal sig v) s y d.0.0 final d.0.1) d.0.2
        (λ z. omega (arith, together z, whole z, ap (tally tree_cmp z) (append-nil m))) in
        let tabled : V ≡ symbol_table =
        eV ∙ ap (λ Us. entry (app g (trees ts) ∷ []) ∷ joined Us) eT
        ∙ ap (λ U. entry (app g (trees ts) ∷ []) ∷ (U ++ (T2 ++ []))) a.1
        ∙ ap (λ U. entry (app g (trees ts) ∷ []) ∷ entry l ∷ (U ++ [])) d.1
        ∙ ap (λ p. entry (app g (trees ts) ∷ []) ∷ entry p ∷ entry m ∷ []) a.0
        ∙ ap (λ p. entry (app g (trees ts) ∷ []) ∷ entry (symbol n ∷ []) ∷ entry p ∷ []) rests in
        not_before-itself symbol_table (subst (λ U. table_cmp U symbol_table ≡ Less) tabled less)

    symbol-least : (s : Subst) (V : Table) → Fits sig symbol_in_front (app g (trees ts)) s V
        → table_cmp V symbol_table ≡ Less → ⊥
    symbol-least s V f less = elim f.takes as (λ o. ⊥) [
      | inl q ↦
          let line = ByValue sig s in
          let p1 = front sig line g (symbol_pattern n) (more_patterns (wild_pattern w (Some y)) no_patterns)
          q.takes q.tables q.children in
          let p2 = front sig line g (wild_pattern w (Some y)) no_patterns p1.lists p1.tables p1.others in
          let p3 = no-more sig line g p2.lists p2.tables p2.others in
          let lists : q.takes ≡ p1.list ∷ p2.list ∷ [] =
          p1.all_lists ∙ ap (λ l. p1.list ∷ l) p2.all_lists ∙ ap (λ l. p1.list ∷ p2.list ∷ l) p3.0 in
          let tables : q.tables ≡ p1.table ∷ p2.table ∷ [] =
          p1.all_tables ∙ ap (λ l. p1.table ∷ l) p2.all_tables ∙ ap (λ l. p1.table ∷ p2.table ∷ l) p3.1 in
          symbol-before s V p1.list p2.list q.takes q.tables p1.table p2.table lists tables p1.takes p2.takes q.node
          q.table f.subst_of.final less
      | inr q ↦ absurd (not-plain sig g ts rest w h (Some y) q.plain)
    ]

    pub symbol-first : (r : Rule) → r.pattern ≡ symbol_in_front → r.condition ≡ None
        → slice_get (one_list sig r (app g (trees ts))) 0 ≡ Some rest_bound
    symbol-first r e c =
        one_list-first sig r (app g (trees ts)) rest_bound symbol_table h.normal
        (ap is_fully_named e) (subst HasNoOptional (sym e) (tt, (h.for_rest.required, tt)))
        (subst (λ p. Fits sig p (app g (trees ts)) rest_bound symbol_table) (sym e) symbol-fits)
        (λ u V f. symbol-least u V (subst (λ p. Fits sig p (app g (trees ts)) u V) e f))
        (ap (λ k. meets sig k rest_bound) c)
