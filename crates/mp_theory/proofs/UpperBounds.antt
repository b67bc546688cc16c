-- How many terms the later children take at most, as far as is known: so many are left to them.
use Rattle.std.proofs.Common.{◌≡◌, ℕ, ◌+◌, ◌*◌, ◌≤◌, List, [], ◌∷◌, true, false, refl, ap, sym, ◌∙◌, subst, arith}
use Rattle.std.proofs.Common.{length, not}
use Rattle.std.specs.Prelude.{Option, Some, None, min, option_map, if◌then◌else◌}
use Rattle.std.specs.Option.{unwrap_or}
use Rattle.std.specs.List.{AllByRecursion}
use Rattle.std.proofs.lemmas.Bool.{and_parts}
use Rattle.mp_term.specs.Order.{tree_cmp}
use Rattle.mp_term.specs.OrderLaws.{tree_cmp_total, tree_same}
use Rattle.mp_term.specs.Tree.{Tree}
use Rattle.mp_term.specs.Signature.{Sig}
use Rattle.mp_term.specs.Search.{In}
use Rattle.mp_term.specs.Pieces.{without, is_piece}
use Rattle.mp_term.proofs.Sorting.{length-sorted}
use Rattle.mp_term.proofs.PiecesLaws.{length-without, sublist-from_piece}
use Rattle.mp_pattern.specs.PatternTree.{Wildcard, dot, kind, plus, star, counted, optional, Pattern, symbol_pattern}
use Rattle.mp_pattern.specs.PatternTree.{app_pattern, wild_pattern, Patterns, no_patterns, more_patterns}
use Rattle.mp_pattern.specs.SoundRule.{sum_most}
use Rattle.mp_pattern.specs.Value.{Value, Subst, value_of, merge, same_name}
use Rattle.mp_pattern.specs.Variables.{comm_above}
use Rattle.mp_pattern.specs.Fits.{Entry}
use Rattle.mp_pattern.proofs.NameLaws.{same_name-is}
use Rattle.mp_theory.specs.Solve.{given, solve}
use Rattle.mp_theory.specs.Frames.{Frame, child}
use Rattle.mp_theory.specs.Machine.{entered, taken_out, onward, said, reads, choices}
use Rattle.mp_theory.specs.OneList.{Item}
use Rattle.mp_theory.specs.Items.{items, items_by}
use Rattle.mp_theory.specs.Bounds.{most}
use Rattle.mp_theory.specs.Kept.{Keeps}
use Rattle.mp_theory.specs.Known.{is_optional, contributed, most_known, all_most_known, is_use, uses_of, others_most}
use Rattle.mp_theory.proofs.Bounds.{AtMost, at_most-sum, within}
use Rattle.mp_theory.proofs.Pruning.{bound_merges}
use Rattle.mp_theory.proofs.Walk.{choices-exact}
use Rattle.mp_theory.proofs.Wildcards.{contributor-contributes}
use Rattle.mp_theory.proofs.KeptValues.{item-by, solve-keeps}
use Rattle.mp_theory.proofs.KnownTerms.{bind-fresh, contributed-given, said-bound, contributed-kept, contributed-merged}
use Rattle.mp_theory.proofs.FrameFacts.{before, behind-holds}

-- the lesser of two bounds
abbrev lesser : Option ℕ → Option ℕ → Option ℕ
lesser None b = b
lesser (Some a) None = Some a
lesser (Some a) (Some b) = Some (min a b)

lesser-both : (a b : Option ℕ) (n : ℕ) → AtMost n a → AtMost n b → AtMost n (lesser a b)
lesser-both None b n h k = k
lesser-both (Some a) None n h k = h
lesser-both (Some a) (Some b) n h k = omega (arith, h, k)

-- what is within the first bound is within the second
abbrev pub Inside : Option ℕ → Option ℕ → Type 0
Inside a b = (n : ℕ) → AtMost n a → AtMost n b

inside-left : (a b : Option ℕ) → Inside (lesser a b) a
inside-left None b n h = tt
inside-left (Some a) None n h = h
inside-left (Some a) (Some b) n h = omega (arith, h)

inside-right : (a b : Option ℕ) → Inside (lesser a b) b
inside-right None b n h = h
inside-right (Some a) None n h = tt
inside-right (Some a) (Some b) n h = omega (arith, h)

-- a bound inside another is a bound
inside-bounded : (a : Option ℕ) (k : ℕ) → Inside a (Some k) → (m : ℕ) × (a ≡ Some m) × (m ≤ k)
inside-bounded None k h = absurd (omega (arith, h (k + 1) tt))
inside-bounded (Some m) k h = (m, refl, h m (omega arith))

inside-sum : (a b c d : Option ℕ) → Inside a c → Inside b d → Inside (sum_most a b) (sum_most c d)
inside-sum a b None d h k n m = tt
inside-sum a b (Some c) None h k n m = tt
inside-sum a b (Some c) (Some d) h k n m =
    let i = inside-bounded a c h in
    let j = inside-bounded b d k in
    let both : AtMost n (sum_most (Some i.0) (Some j.0)) =
    subst (λ o. AtMost n (sum_most (Some i.0) o)) j.1 (subst (λ o. AtMost n (sum_most o b)) i.1 m) in
    omega (arith, both, i.2, j.2)

inside-then : (a b c : Option ℕ) → Inside a b → Inside b c → Inside a c
inside-then a b c h k n m = k n (h n m)

module _ (sig : Sig) where
  -- how many terms the value of a child's variable contributes
  abbrev bound_length : Subst → Option ℕ → Pattern → Option ℕ
  bound_length s f (wild_pattern w (Some x)) = option_map (λ v. length (contributed sig f v)) (value_of s x)
  bound_length s f p = None

  -- the greatest number of terms that a child takes, by its wildcard and by its value
  abbrev room : Subst → Option ℕ → Pattern → Option ℕ
  room s f p = lesser (most sig f p) (bound_length s f p)

  abbrev rooms : Subst → Option ℕ → Patterns → Option ℕ
  rooms s f no_patterns = Some 0
  rooms s f (more_patterns p ps) = sum_most (room s f p) (rooms s f ps)

  -- what is taken at a value is as long as what this contributes, or empty
  optional-taken : (d : Tree) (f : Option ℕ) (l : List Tree) (v g u : Value) → given sig f (optional d) l ≡ Some g
      → merge v g ≡ Some u → length l ≤ length (contributed sig f v)
  optional-taken d f [] v g u e m = omega arith
  optional-taken d f (t ∷ l) v g u e m =
      let c = contributor-contributes sig f (t ∷ l) g e in
      let n = contributed-merged sig (λ k. length k) (length-sorted tree_cmp) f v g u m in
      let q : contributed sig f g ≡ t ∷ l =
      ap (contributed sig f) c.is ∙ ap (λ o. unwrap_or o []) c.contributes in
      omega (arith, n, ap (λ k. length k) q)

  plain-taken : (w : Wildcard) (f : Option ℕ) (l : List Tree) (v g u : Value) → is_optional w ≡ false
      → given sig f w l ≡ Some g → merge v g ≡ Some u → length l ≤ length (contributed sig f v)
  plain-taken w f l v g u o e m = omega (
    arith,
    contributed-merged sig (λ k. length k) (length-sorted tree_cmp) f v g u m,
    ap (λ k. length k) (contributed-given sig f w l g o e),
  )

  value-taken : (w : Wildcard) (f : Option ℕ) (l : List Tree) (v g u : Value) → given sig f w l ≡ Some g
      → merge v g ≡ Some u → length l ≤ length (contributed sig f v)
  value-taken (optional d) f l v g u e m = optional-taken d f l v g u e m
  value-taken dot f l v g u e m = plain-taken dot f l v g u refl e m
  value-taken (kind k) f l v g u e m = plain-taken (kind k) f l v g u refl e m
  value-taken plus f l v g u e m = plain-taken plus f l v g u refl e m
  value-taken star f l v g u e m = plain-taken star f l v g u refl e m
  value-taken (counted n c) f l v g u e m = plain-taken (counted n c) f l v g u refl e m

  bound-taken : (p : Pattern) (f : Frame) (fs : List Frame) (e : Entry) (s r : Subst)
      → solve sig s (said (child p f fs) e) ≡ Some r → AtMost (length e.terms) (bound_length s f.under p)
  bound-taken (symbol_pattern n) f fs e s r b = tt
  bound-taken (app_pattern g ps) f fs e s r b = tt
  bound-taken (wild_pattern w None) f fs e s r b = tt
  bound-taken (wild_pattern w (Some x)) f fs e s r b =
      let g = said-bound sig w x f fs e s r b in
      elim (value_of s x) as (λ v. value_of s x ≡ v
      → AtMost (length e.terms) (option_map (λ v. length (contributed sig f.under v)) v)) [
        | None ↦ λ q. tt
        | Some v ↦ λ q. let u = bound_merges s x v g.0 r q g.2 in
            value-taken w f.under e.terms v g.0 u.0 g.1 u.1
      ] refl

  -- later bounds are no greater
  bound-earlier : (f : Option ℕ) (p : Pattern) (s r : Subst) → Keeps s r
      → Inside (bound_length r f p) (bound_length s f p)
  bound-earlier f (symbol_pattern y) s r k n h = tt
  bound-earlier f (app_pattern g ps) s r k n h = tt
  bound-earlier f (wild_pattern w None) s r k n h = tt
  bound-earlier f (wild_pattern w (Some x)) s r k n h =
      elim (value_of s x) as (λ v. value_of s x ≡ v
      → AtMost n (option_map (λ v. length (contributed sig f v)) v)) [
        | None ↦ λ q. tt
        | Some v ↦ λ q.
            let u = k x v q in
            let now : n ≤ length (contributed sig f u.0) =
            subst (λ o. AtMost n (option_map (λ v. length (contributed sig f v)) o)) u.1 h in
            omega (arith, now, contributed-kept sig (λ k. length k) (length-sorted tree_cmp) f v u.0 u.2)
      ] refl

  room-earlier : (f : Option ℕ) (p : Pattern) (s r : Subst) → Keeps s r → Inside (room r f p) (room s f p)
  room-earlier f p s r k n h =
      lesser-both (most sig f p) (bound_length s f p) n
      (inside-left (most sig f p) (bound_length r f p) n h)
      (bound-earlier f p s r k n (inside-right (most sig f p) (bound_length r f p) n h))

  rooms-earlier : (f : Option ℕ) (ps : Patterns) (s r : Subst) → Keeps s r → Inside (rooms r f ps) (rooms s f ps)
  rooms-earlier f no_patterns s r k n h = h
  rooms-earlier f (more_patterns p ps) s r k n h =
      inside-sum (room r f p) (rooms r f ps) (room s f p) (rooms s f ps) (room-earlier f p s r k)
      (rooms-earlier f ps s r k) n h

  -- no more is left to a frame than its children have room for
  abbrev IsRoomy : Subst → Frame → Type 0
  IsRoomy s f = AtMost (length f.left) (rooms s f.under f.children)

  roomy-step : (p : Pattern) (f : Frame) (fs : List Frame) (e : Entry) (s r : Subst)
      → is_piece tree_cmp (comm_above sig f.under) e.terms f.left ≡ true → reads sig p f.under e ≡ true
      → solve sig s (said (child p f fs) e) ≡ Some r → AllByRecursion (IsRoomy r) (entered p e [])
      → IsRoomy r (taken_out p e f) → IsRoomy s (before p f)
  roomy-step p f fs e s r i h b inner rest =
      at_most-sum (room s f.under p) (rooms s f.under f.children) (length e.terms)
      (length (without tree_cmp e.terms f.left)) (length f.left)
      (length-without tree_cmp tree_cmp_total tree_same e.terms f.left
      (sublist-from_piece tree_cmp tree_cmp_total tree_same (comm_above sig f.under) e.terms f.left i))
      (lesser-both (most sig f.under p) (bound_length s f.under p) (length e.terms)
      (within sig p f.under e.terms e.collapsed h).1 (bound-taken p f fs e s r b))
      (rooms-earlier f.under f.children s r (solve-keeps sig s (said (child p f fs) e) r b)
      (length (without tree_cmp e.terms f.left)) rest)

  rooms-behind : (k : ℕ) (p : Pattern) (f : Frame) (fs : List Frame) (e : Entry) (r : Subst) (i : Item)
      → In i (items sig k (onward (child p f fs) e) r)
      → AtMost (length (without tree_cmp e.terms f.left)) (rooms r f.under f.children)
  rooms-behind k p f fs e r i h =
      (behind-holds sig IsRoomy (λ s f. omega arith) roomy-step
      (λ s q g kept rest. rooms-earlier g.under g.children s q kept (length g.left) rest) k p f fs e r i h).1

  -- the rooms are inside the known bounds
  room-known : (s : Subst) (f : Option ℕ) (p : Pattern) → Inside (room s f p) (most_known sig s f p)
  room-known s f (symbol_pattern n) = inside-left (most sig f (symbol_pattern n)) None
  room-known s f (app_pattern g ps) = inside-left (most sig f (app_pattern g ps)) None
  room-known s f (wild_pattern w None) = inside-left (most sig f (wild_pattern w None)) None
  room-known s f (wild_pattern w (Some x)) =
      elim (value_of s x) as
      (λ v. Inside
      (lesser (most sig f (wild_pattern w (Some x))) (option_map (λ v. length (contributed sig f v)) v))
      (elim v [ None ↦ most sig f (wild_pattern w (Some x)) | Some v ↦ Some (length (contributed sig f v)) ])) [
        | None ↦ inside-left (most sig f (wild_pattern w (Some x))) None
        | Some v ↦ inside-right (most sig f (wild_pattern w (Some x))) (Some (length (contributed sig f v)))
      ]

  rooms-known : (s : Subst) (f : Option ℕ) (ps : Patterns) → Inside (rooms s f ps) (all_most_known sig s f ps)
  rooms-known s f no_patterns n h = h
  rooms-known s f (more_patterns p ps) n h =
      inside-sum (room s f p) (rooms s f ps) (most_known sig s f p) (all_most_known sig s f ps) (room-known s f p)
      (rooms-known s f ps) n h

  -- behind an entry with an item no more terms are left than the later children take
  pub most-behind : (k : ℕ) (p : Pattern) (f : Frame) (fs : List Frame) (e : Entry) (r : Subst) (i : Item)
      → In i (items sig k (onward (child p f fs) e) r)
      → AtMost (length (without tree_cmp e.terms f.left)) (all_most_known sig r f.under f.children)
  most-behind k p f fs e r i h =
      rooms-known r f.under f.children (length (without tree_cmp e.terms f.left)) (rooms-behind k p f fs e r i h)

  -- so an entry with an item leaves them no more
  pub most-left : (k : ℕ) (p : Pattern) (f : Frame) (fs : List Frame) (s : Subst) (e : Entry) (i : Item)
      → In e (choices sig (child p f fs)) → In i (items_by sig k (child p f fs) s e)
      → AtMost (length (without tree_cmp e.terms f.left)) (all_most_known sig s f.under f.children)
  most-left k p f fs s e i c h =
      let b = item-by sig k (child p f fs) s e i h in
      let n = length (without tree_cmp e.terms f.left) in
      rooms-known s f.under f.children n
      (rooms-earlier f.under f.children s b.2.0 (solve-keeps sig s (said (child p f fs) e) b.2.0 b.2.1) n
      (rooms-behind k p f fs e b.2.0 (b.0, i.1) b.2.2))

  -- a use of a variable with a value takes no more than the value contributes
  room-use : (x : List ℕ) (f : Option ℕ) (p : Pattern) (r : Subst) (g : Value) → is_use x p ≡ true
      → value_of r x ≡ Some g → Inside (room r f p) (Some (length (contributed sig f g)))
  room-use x f (symbol_pattern n) r g h e = cc
  room-use x f (app_pattern c ps) r g h e = cc
  room-use x f (wild_pattern w None) r g h e = cc
  room-use x f (wild_pattern w (Some y)) r g h e =
      let q : y ≡ x = same_name-is y x (and_parts (not (is_optional w)) (same_name y x) h).1 in
      subst (λ o. Inside (lesser (most sig f (wild_pattern w (Some y)))
      (option_map (λ v. length (contributed sig f v)) o)) (Some (length (contributed sig f g))))
      (sym (ap (value_of r) q ∙ e))
      (inside-right (most sig f (wild_pattern w (Some y))) (Some (length (contributed sig f g))))

  -- the sums of bounds in another order
  sum-used : (a c : ℕ) (o : Option ℕ)
      → Inside (sum_most (Some c) (sum_most (Some (a * c)) o)) (sum_most (Some ((1 + a) * c)) o)
  sum-used a c None n h = tt
  sum-used a c (Some m) n h = omega (arith, h)

  sum-other : (a : ℕ) (m o : Option ℕ) → Inside (sum_most m (sum_most (Some a) o)) (sum_most (Some a) (sum_most m o))
  sum-other a None o n h = tt
  sum-other a (Some m) None n h = tt
  sum-other a (Some m) (Some o) n h = omega (arith, h)

  rooms-uses : (x : List ℕ) (f : Option ℕ) (ps : Patterns) (s r : Subst) (g : Value) → Keeps s r
      → value_of r x ≡ Some g
      → Inside (rooms r f ps)
      (sum_most (Some (uses_of x ps * length (contributed sig f g))) (others_most sig x s f ps))
  rooms-uses x f no_patterns s r g kept now n h = omega (arith, h)
  rooms-uses x f (more_patterns p ps) s r g kept now n h =
      let c = length (contributed sig f g) in
      let i = rooms-uses x f ps s r g kept now in
      elim (is_use x p) as (λ b. is_use x p ≡ b
      → Inside (sum_most (room r f p) (rooms r f ps))
      (sum_most (Some (((if b then 1 else 0) + uses_of x ps) * c))
      (if b then others_most sig x s f ps else sum_most (most_known sig s f p) (others_most sig x s f ps)))) [
        | true ↦ λ q m k.
            sum-used (uses_of x ps) c (others_most sig x s f ps) m
            (inside-sum (room r f p) (rooms r f ps) (Some c)
            (sum_most (Some (uses_of x ps * c)) (others_most sig x s f ps)) (room-use x f p r g q now) i m k)
        | false ↦ λ q m k.
            sum-other ((0 + uses_of x ps) * c) (most_known sig s f p) (others_most sig x s f ps) m
            (inside-sum (room r f p) (rooms r f ps) (most_known sig s f p)
            (sum_most (Some ((0 + uses_of x ps) * c)) (others_most sig x s f ps))
            (inside-then (room r f p) (room s f p) (most_known sig s f p) (room-earlier f p s r kept)
            (room-known s f p)) (none-more (uses_of x ps) c (others_most sig x s f ps) i) m k)
      ] refl n h
    where
      none-more : (a c : ℕ) (o : Option ℕ) → Inside (rooms r f ps) (sum_most (Some (a * c)) o)
          → Inside (rooms r f ps) (sum_most (Some ((0 + a) * c)) o)
      none-more a c None h n k = tt
      none-more a c (Some m) h n k = omega (arith, h n k)

  -- what a variable takes first, with as much for each later use, leaves the others no more than they take
  pub uses_most-left : (k : ℕ) (w : Wildcard) (x : List ℕ) (f : Frame) (fs : List Frame) (s : Subst) (e : Entry)
      (i : Item) → is_optional w ≡ false → value_of s x ≡ None
      → In e (choices sig (child (wild_pattern w (Some x)) f fs))
      → In i (items_by sig k (child (wild_pattern w (Some x)) f fs) s e)
      → AtMost (length f.left)
      (sum_most (Some ((1 + uses_of x f.children) * length e.terms)) (others_most sig x s f.under f.children))
  uses_most-left k w x f fs s e i plain none c h =
      let p = wild_pattern w (Some x) in
      let b = item-by sig k (child p f fs) s e i h in
      let g = said-bound sig w x f fs e s b.2.0 b.2.1 in
      let l = length e.terms in
      let piece = ((choices-exact sig p f fs e.terms e.collapsed).0 c).0 in
      let rest = subst (λ m. Inside (rooms b.2.0 f.under f.children)
      (sum_most (Some (uses_of x f.children * length m)) (others_most sig x s f.under f.children)))
      (contributed-given sig f.under w e.terms g.0 plain g.1)
      (rooms-uses x f.under f.children s b.2.0 g.0 (solve-keeps sig s (said (child p f fs) e) b.2.0 b.2.1)
      (bind-fresh s x g.0 b.2.0 none g.2)) in
      sum-used (uses_of x f.children) l (others_most sig x s f.under f.children) (length f.left)
      (at_most-sum (Some l) (sum_most (Some (uses_of x f.children * l)) (others_most sig x s f.under f.children)) l
      (length (without tree_cmp e.terms f.left)) (length f.left)
      (length-without tree_cmp tree_cmp_total tree_same e.terms f.left
      (sublist-from_piece tree_cmp tree_cmp_total tree_same (comm_above sig f.under) e.terms f.left piece))
      (omega arith)
      (rest (length (without tree_cmp e.terms f.left)) (rooms-behind k p f fs e b.2.0 (b.0, i.1) b.2.2)))
