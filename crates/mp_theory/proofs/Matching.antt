-- What takes a term alone may match it.
use Rattle.std.proofs.Common.{◌≡◌, ℕ, List, [], ◌∷◌, Bool, true, false, not, ◌&&◌, refl, ap, sym, ◌∙◌, subst}
use Rattle.std.specs.Prelude.{Option, Some, None, ◌||◌, is_some, option_map, if◌then◌else◌}
use Rattle.std.specs.List.{AllByRecursion}
use Rattle.std.proofs.lemmas.Bool.{and_parts, and_from, not-true, or_left, or_right}
use Rattle.mp_term.specs.Order.{tree_cmp}
use Rattle.mp_term.specs.OrderLaws.{tree_cmp_total, tree_same}
use Rattle.mp_term.specs.Sorting.{sorted}
use Rattle.mp_term.specs.Tree.{Tree, symbol, app, trees}
use Rattle.mp_term.specs.NormalTest.{has_head, is_single}
use Rattle.mp_term.specs.Signature.{Sig, in_kind, is_one, is_assoc}
use Rattle.mp_term.specs.Search.{In}
use Rattle.mp_term.specs.Pieces.{same, without, is_prefix, is_piece}
use Rattle.mp_term.proofs.Sorting.{sorted-single}
use Rattle.mp_term.proofs.PiecesLaws.{same-sound, same-itself}
use Rattle.mp_pattern.specs.PatternTree.{Wildcard, dot, kind, plus, star, counted, optional, Pattern, symbol_pattern}
use Rattle.mp_pattern.specs.PatternTree.{app_pattern, wild_pattern, Patterns, no_patterns, more_patterns}
use Rattle.mp_pattern.specs.Value.{one, Subst, value_of}
use Rattle.mp_pattern.specs.Variables.{comm_above, assoc_above}
use Rattle.mp_pattern.specs.Fits.{Entry, is_left_out, no_sequence}
use Rattle.mp_theory.specs.Solve.{contributor, given, solve}
use Rattle.mp_theory.specs.Frames.{Frame, child}
use Rattle.mp_theory.specs.Machine.{is_headed, arguments, entered, taken_out, onward, said, reads, choices}
use Rattle.mp_theory.specs.OneList.{Item}
use Rattle.mp_theory.specs.Items.{items, items_by}
use Rattle.mp_theory.specs.Kept.{Keeps}
use Rattle.mp_theory.specs.Known.{is_optional, contributed}
use Rattle.mp_theory.specs.MayMatch.{has_optional, is_alone_in, takes_one, each_takes_one, is_plain, may_collapse}
use Rattle.mp_theory.specs.MayMatch.{is_of_its_kind, is_as_known, may_match, each_may_match}
use Rattle.mp_theory.proofs.Merging.{same_terms-sound, sorted-sorted}
use Rattle.mp_theory.proofs.Pruning.{bound_merges}
use Rattle.mp_theory.proofs.Walk.{choices-exact}
use Rattle.mp_theory.proofs.KeptValues.{item-by, solve-keeps}
use Rattle.mp_theory.proofs.KnownTerms.{contributed-given, said-bound, contributed-kept, contributed-merged}
use Rattle.mp_theory.proofs.FrameFacts.{done_frame, before, behind-holds}

-- of lists with one sorting, one is the term alone where the other is
alone-sorted : (l m : List Tree) (t : Tree) → sorted tree_cmp l ≡ sorted tree_cmp m → is_alone_in m t ≡ true
    → is_alone_in l t ≡ true
alone-sorted l [] t e h = cc
alone-sorted l (u ∷ []) t e h =
    subst (λ k. is_alone_in k t ≡ true) (sym (sorted-single tree_cmp l u e)) h
alone-sorted l (u ∷ v ∷ m) t e h = cc

alone-itself : (t : Tree) → is_alone_in (t ∷ []) t ≡ true
alone-itself t = same-itself tree_cmp tree_cmp_total tree_same t

-- an optional wildcard that takes no term is one
left_out-optional : (p : Pattern) (l : List Tree) (ps : Patterns) → is_left_out p l ≡ true
    → has_optional (more_patterns p ps) ≡ true
left_out-optional (wild_pattern (optional d) x) l ps h = refl
left_out-optional (wild_pattern dot x) l ps h = cc
left_out-optional (wild_pattern (kind k) x) l ps h = cc
left_out-optional (wild_pattern plus x) l ps h = cc
left_out-optional (wild_pattern star x) l ps h = cc
left_out-optional (wild_pattern (counted n c) x) l ps h = cc
left_out-optional (symbol_pattern n) l ps h = cc
left_out-optional (app_pattern g qs) l ps h = cc

optional-behind : (p : Pattern) (ps : Patterns) → has_optional ps ≡ true → has_optional (more_patterns p ps) ≡ true
optional-behind (wild_pattern (optional d) x) ps h = refl
optional-behind (wild_pattern dot x) ps h = h
optional-behind (wild_pattern (kind k) x) ps h = h
optional-behind (wild_pattern plus x) ps h = h
optional-behind (wild_pattern star x) ps h = h
optional-behind (wild_pattern (counted n c) x) ps h = h
optional-behind (symbol_pattern n) ps h = h
optional-behind (app_pattern g qs) ps h = h

module _ (sig : Sig) where
  -- what is known stays known
  as_known-earlier : (f : Option ℕ) (p : Pattern) (t : Tree) (s r : Subst) → Keeps s r
      → is_as_known sig r f p t ≡ true → is_as_known sig s f p t ≡ true
  as_known-earlier f (symbol_pattern n) t s r k h = h
  as_known-earlier f (app_pattern g ps) t s r k h = h
  as_known-earlier f (wild_pattern w None) t s r k h = h
  as_known-earlier f (wild_pattern w (Some x)) t s r k h =
      elim (is_optional w) as (λ o.
      elim (if o then None else option_map (contributed sig f) (value_of r x))
      [ None ↦ true | Some l ↦ is_alone_in l t ] ≡ true
      → elim (if o then None else option_map (contributed sig f) (value_of s x))
      [ None ↦ true | Some l ↦ is_alone_in l t ] ≡ true) [
        | true ↦ λ h. refl
        | false ↦ λ h.
            elim (value_of s x) as (λ v. value_of s x ≡ v
            → elim (option_map (contributed sig f) v) [ None ↦ true | Some l ↦ is_alone_in l t ] ≡ true) [
              | None ↦ λ q. refl
              | Some v ↦ λ q.
                  let u = k x v q in
                  alone-sorted (contributed sig f v) (contributed sig f u.0) t
                  (contributed-kept sig (sorted tree_cmp) sorted-sorted f v u.0 u.2)
                  (sym (ap (λ o. elim (option_map (contributed sig f) o) as (λ _. Bool)
                  [ None ↦ true | Some l ↦ is_alone_in l t ]) u.1) ∙ h)
            ] refl
      ] h

  mutual
    -- so what may match later may match now
    pub may_match-earlier : (f : Option ℕ) (p : Pattern) (t : Tree) (s r : Subst) → Keeps s r
        → may_match sig r f p t ≡ true → may_match sig s f p t ≡ true
    may_match-earlier f (symbol_pattern n) t s r k h = h
    may_match-earlier f (wild_pattern w x) t s r k h =
        let b = and_parts (is_of_its_kind sig w t) _ h in
        and_from _ _ b.0 (as_known-earlier f (wild_pattern w x) t s r k b.1)
    may_match-earlier f (app_pattern g ps) t s r k h =
        weaker (may_collapse sig g ps) (has_head g t) (not (is_plain sig (Some g) ps))
        (each_may_match sig r (Some g) ps (arguments (t ∷ []))) (each_may_match sig s (Some g) ps (arguments (t ∷ [])))
        (each_may_match-earlier (Some g) ps (arguments (t ∷ [])) s r k) h
      where
        weaker : (a b c d e : Bool) → (d ≡ true → e ≡ true) → (a || (b && (c || d))) ≡ true
            → (a || (b && (c || e))) ≡ true
        weaker true b c d e i q = refl
        weaker false true true d e i q = refl
        weaker false true false d e i q = i q
        weaker false false c d e i q = cc

    pub each_may_match-earlier : (f : Option ℕ) (ps : Patterns) (ts : List Tree) (s r : Subst) → Keeps s r
        → each_may_match sig r f ps ts ≡ true → each_may_match sig s f ps ts ≡ true
    each_may_match-earlier f no_patterns [] s r k h = refl
    each_may_match-earlier f no_patterns (t ∷ ts) s r k h = cc
    each_may_match-earlier f (more_patterns p ps) [] s r k h = cc
    each_may_match-earlier f (more_patterns p ps) (t ∷ ts) s r k h =
        let b = and_parts (may_match sig r f p t) (each_may_match sig r f ps ts) h in
        and_from _ _ (may_match-earlier f p t s r k b.0) (each_may_match-earlier f ps ts s r k b.1)

  -- a child that takes exactly one term has one
  contributor-one : (f : Option ℕ) (l : List Tree) → assoc_above sig f ≡ false
      → is_some (contributor sig f l) ≡ true → (t : Tree) × (l ≡ t ∷ [])
  contributor-one f [] a h = cc
  contributor-one f (t ∷ []) a h = (t, refl)
  contributor-one None (t ∷ u ∷ l) a h = cc
  contributor-one (Some g) (t ∷ u ∷ l) a h =
      elim (is_assoc sig g) as (λ b. b ≡ false
      → is_some (if b then Some (one (app g (trees (t ∷ u ∷ l)))) else None) ≡ true
      → (v : Tree) × (t ∷ u ∷ l ≡ v ∷ [])) [ true ↦ λ q e. cc | false ↦ λ q e. cc ] a h

  pub one-taken : (p : Pattern) (f : Option ℕ) (e : Entry) → takes_one sig f p ≡ true → reads sig p f e ≡ true
      → (t : Tree) × (e.terms ≡ t ∷ [])
  one-taken (symbol_pattern n) f e o h =
      (symbol n, same_terms-sound e.terms (symbol n ∷ []) (and_parts (not e.collapsed) _ h).1)
  one-taken (app_pattern g ps) f e o h = one_of e.collapsed e.terms h
    where
      one_of : (b : Bool) (l : List Tree)
          → (if b then is_single l && (is_one sig g && no_sequence ps) else is_headed g l) ≡ true
          → (t : Tree) × (l ≡ t ∷ [])
      one_of true [] q = cc
      one_of true (t ∷ []) q = (t, refl)
      one_of true (t ∷ u ∷ l) q = cc
      one_of false [] q = cc
      one_of false (t ∷ []) q = (t, refl)
      one_of false (t ∷ u ∷ l) q = cc
  one-taken (wild_pattern dot x) f e o h =
      contributor-one f e.terms (not-true _ o) (and_parts _ _ (and_parts (not e.collapsed) _ h).1).0
  one-taken (wild_pattern (kind k) x) f e o h = one_of e.terms (and_parts _ _ (and_parts (not e.collapsed) _ h).1).0
    where
      one_of : (l : List Tree) → is_some (given sig f (kind k) l) ≡ true → (t : Tree) × (l ≡ t ∷ [])
      one_of [] q = cc
      one_of (t ∷ []) q = (t, refl)
      one_of (t ∷ u ∷ l) q = cc
  one-taken (wild_pattern plus x) f e o h = cc
  one-taken (wild_pattern star x) f e o h = cc
  one-taken (wild_pattern (counted n c) x) f e o h = cc
  one-taken (wild_pattern (optional d) x) f e o h = cc

  -- what is known of a child is what it takes
  as_known-taken : (p : Pattern) (f : Frame) (fs : List Frame) (e : Entry) (t : Tree) (s r : Subst)
      → e.terms ≡ t ∷ [] → reads sig p f.under e ≡ true → solve sig s (said (child p f fs) e) ≡ Some r
      → is_as_known sig s f.under p t ≡ true
  as_known-taken (symbol_pattern n) f fs e t s r q h b =
      let i = same_terms-sound e.terms (symbol n ∷ []) (and_parts (not e.collapsed) _ h).1 in
      subst (λ l. is_alone_in l t ≡ true) (sym q ∙ i) (alone-itself t)
  as_known-taken (app_pattern g ps) f fs e t s r q h b = refl
  as_known-taken (wild_pattern w None) f fs e t s r q h b = refl
  as_known-taken (wild_pattern w (Some x)) f fs e t s r q h b =
      let g = said-bound sig w x f fs e s r b in
      elim (is_optional w) as (λ o. is_optional w ≡ o
      → elim (if o then None else option_map (contributed sig f.under) (value_of s x))
      [ None ↦ true | Some l ↦ is_alone_in l t ] ≡ true) [
        | true ↦ λ o. refl
        | false ↦ λ o.
            elim (value_of s x) as (λ v. value_of s x ≡ v
            → elim (option_map (contributed sig f.under) v) [ None ↦ true | Some l ↦ is_alone_in l t ] ≡ true) [
              | None ↦ λ n. refl
              | Some v ↦ λ n.
                  let u = bound_merges s x v g.0 r n g.2 in
                  alone-sorted (contributed sig f.under v) (t ∷ []) t
                  (contributed-merged sig (sorted tree_cmp) sorted-sorted f.under v g.0 u.0 u.1
                  ∙ ap (sorted tree_cmp) (contributed-given sig f.under w e.terms g.0 o g.1 ∙ q))
                  (alone-itself t)
            ] refl
      ] refl

  -- a wildcard of a kind takes a symbol of the kind
  kind-taken : (w : Wildcard) (f : Option ℕ) (l : List Tree) (t : Tree) → l ≡ t ∷ []
      → is_some (given sig f w l) ≡ true → is_of_its_kind sig w t ≡ true
  kind-taken (kind k) f l t q h =
      let i : is_some (given sig f (kind k) (t ∷ [])) ≡ true =
      subst (λ m. is_some (given sig f (kind k) m) ≡ true) q h in
      elim (in_kind sig k t) as (λ b. is_some (if b then Some (one t) else None) ≡ true → b ≡ true)
      [ true ↦ λ e. refl | false ↦ λ e. cc ] i
  kind-taken dot f l t q h = refl
  kind-taken plus f l t q h = refl
  kind-taken star f l t q h = refl
  kind-taken (counted n c) f l t q h = refl
  kind-taken (optional d) f l t q h = refl

  -- a frame that owes has an optional child, and plain children match the terms that are left
  pub record IsMatching (s : Subst) (f : Frame) : Type 0 where
    pub owed : f.owes ≡ true → has_optional f.children ≡ true
    pub matches : is_plain sig f.under f.children ≡ true → each_may_match sig s f.under f.children f.left ≡ true

  -- a child may match the term that it takes
  pub match-taken : (p : Pattern) (f : Frame) (fs : List Frame) (e : Entry) (t : Tree) (s r : Subst)
      → e.terms ≡ t ∷ [] → reads sig p f.under e ≡ true → solve sig s (said (child p f fs) e) ≡ Some r
      → AllByRecursion (IsMatching r) (entered p e []) → may_match sig s f.under p t ≡ true
  match-taken (symbol_pattern n) f fs e t s r q h b inner =
      as_known-taken (symbol_pattern n) f fs e t s r q h b
  match-taken (wild_pattern w x) f fs e t s r q h b inner =
      and_from _ _
      (kind-taken w f.under e.terms t q (and_parts (is_some (given sig f.under w e.terms)) _
      (and_parts (not e.collapsed) _ h).1).0)
      (as_known-taken (wild_pattern w x) f fs e t s r q h b)
  match-taken (app_pattern g ps) f fs e t s r q h b inner =
      by_mark e.collapsed e.terms q h inner.0
    where
      by_mark : (c : Bool) (l : List Tree) → l ≡ t ∷ []
          → (if c then is_single l && (is_one sig g && no_sequence ps) else is_headed g l) ≡ true
          → IsMatching r (record { under = Some g; children = ps; left = if c then l else arguments l; owes = c })
          → may_match sig s f.under (app_pattern g ps) t ≡ true
      by_mark true l i k m =
          let a = and_parts (is_single l) (is_one sig g && no_sequence ps) k in
          let d = and_parts (is_one sig g) (no_sequence ps) a.1 in
          or_left (may_collapse sig g ps) _ (and_from _ _ d.0 (and_from _ _ d.1 (m.owed refl)))
      by_mark false l i k m =
          let head : has_head g t ≡ true = subst (λ n. is_headed g n ≡ true) i k in
          or_right (may_collapse sig g ps) _
          (and_from _ _ head
          (elim (is_plain sig (Some g) ps) as (λ d. is_plain sig (Some g) ps ≡ d
          → (not d || each_may_match sig s (Some g) ps (arguments (t ∷ []))) ≡ true) [
            | true ↦ λ d.
                each_may_match-earlier (Some g) ps (arguments (t ∷ [])) s r
                (solve-keeps sig s (said (child (app_pattern g ps) f fs) e) r b)
                (subst (λ n. each_may_match sig r (Some g) ps (arguments n) ≡ true) i (m.matches d))
            | false ↦ λ d. refl
          ] refl))

  pub matching-done : (s : Subst) (f : Option ℕ) → IsMatching s (done_frame f)
  matching-done s f = record { owed = λ e. cc; matches = λ e. refl }

  pub matching-earlier : (s r : Subst) (f : Frame) → Keeps s r → IsMatching r f → IsMatching s f
  matching-earlier s r f k m = record {
    owed = m.owed;
    matches = λ d. each_may_match-earlier f.under f.children f.left s r k (m.matches d);
  }

  pub matching-step : (p : Pattern) (f : Frame) (fs : List Frame) (e : Entry) (s r : Subst)
      → is_piece tree_cmp (comm_above sig f.under) e.terms f.left ≡ true → reads sig p f.under e ≡ true
      → solve sig s (said (child p f fs) e) ≡ Some r → AllByRecursion (IsMatching r) (entered p e [])
      → IsMatching r (taken_out p e f) → IsMatching s (before p f)
  matching-step p f fs e s r i h b inner rest = record {
    owed = λ o.
        elim (is_left_out p e.terms) as (λ c. is_left_out p e.terms ≡ c
        → has_optional (more_patterns p f.children) ≡ true) [
          | true ↦ λ c. left_out-optional p e.terms f.children c
          | false ↦ λ c. optional-behind p f.children
              (rest.owed (ap (λ d. f.owes && not d) c ∙ ap (λ d. d && true) o))
        ] refl;
    matches = λ d.
        let k = and_parts (not (comm_above sig f.under)) _ d in
        let j = and_parts (takes_one sig f.under p) (each_takes_one sig f.under f.children) k.1 in
        let t = one-taken p f.under e j.0 h in
        let front : is_prefix tree_cmp e.terms f.left ≡ true =
        subst (λ c. is_piece tree_cmp c e.terms f.left ≡ true) (not-true _ k.0) i in
        in_turn e.terms f.left t.0 t.1 front
        (match-taken p f fs e t.0 s r t.1 h b inner)
        (each_may_match-earlier f.under f.children (without tree_cmp e.terms f.left) s r
        (solve-keeps sig s (said (child p f fs) e) r b) (rest.matches (and_from _ _ k.0 j.1)));
  }
    where
      head_same : {u t : Tree} → u ∷ [] ≡ t ∷ [] → u ≡ t
      head_same q = cc

      in_turn : (l left : List Tree) (t : Tree) → l ≡ t ∷ [] → is_prefix tree_cmp l left ≡ true
          → may_match sig s f.under p t ≡ true
          → each_may_match sig s f.under f.children (without tree_cmp l left) ≡ true
          → each_may_match sig s f.under (more_patterns p f.children) left ≡ true
      in_turn [] left t q a m n = cc
      in_turn (u ∷ []) [] t q a m n = cc
      in_turn (u ∷ []) (v ∷ left) t q a m n =
          let c : same tree_cmp v u ≡ true = (and_parts (same tree_cmp v u) _ a).0 in
          let j : v ≡ t = same-sound tree_cmp tree_cmp_total tree_same v u c ∙ head_same q in
          and_from _ _ (subst (λ w. may_match sig s f.under p w ≡ true) (sym j) m)
          (subst (λ d. each_may_match sig s f.under f.children
          (if d then left else v ∷ without tree_cmp (u ∷ []) left) ≡ true) c n)
      in_turn (u ∷ w ∷ l) left t q a m n = cc

  -- behind an entry with an item
  pub matching-behind : (k : ℕ) (p : Pattern) (f : Frame) (fs : List Frame) (e : Entry) (r : Subst) (i : Item)
      → In i (items sig k (onward (child p f fs) e) r)
      → AllByRecursion (IsMatching r) (entered p e []) × IsMatching r (taken_out p e f)
  matching-behind = behind-holds sig IsMatching matching-done matching-step matching-earlier

  -- so a choice of one term with an item may match it
  pub matched : (k : ℕ) (p : Pattern) (f : Frame) (fs : List Frame) (s : Subst) (e : Entry) (t : Tree) (i : Item)
      → In e (choices sig (child p f fs)) → In i (items_by sig k (child p f fs) s e) → e.terms ≡ t ∷ []
      → may_match sig s f.under p t ≡ true
  matched k p f fs s e t i c h q =
      let b = item-by sig k (child p f fs) s e i h in
      match-taken p f fs e t s b.2.0 q ((choices-exact sig p f fs e.terms e.collapsed).0 c).1 b.2.1
      (matching-behind k p f fs e b.2.0 (b.0, i.1) b.2.2).0
