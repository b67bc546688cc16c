-- What an entry with an item leaves to the later children: the terms that they are known to take, as many terms as they
-- need, and what a variable takes for each further use of it.
use Rattle.std.proofs.Common.{◌≡◌, ℕ, ◌+◌, ◌*◌, ◌≤◌, List, [], true, false, refl, ap, ◌∙◌, subst}
use Rattle.std.proofs.Common.{arith, length}
use Rattle.std.specs.Prelude.{Option, Some, None, max, option_map, if◌then◌else◌}
use Rattle.std.specs.Option.{unwrap_or}
use Rattle.mp_term.specs.Order.{tree_cmp}
use Rattle.mp_term.specs.OrderLaws.{tree_cmp_total, tree_same}
use Rattle.mp_term.specs.Tree.{Tree}
use Rattle.mp_term.specs.Signature.{Sig}
use Rattle.mp_term.specs.Search.{In}
use Rattle.mp_term.specs.Pieces.{without, is_sublist}
use Rattle.mp_term.proofs.Sorting.{tally-sorted, length-sorted}
use Rattle.mp_term.proofs.PiecesLaws.{length-without}
use Rattle.mp_pattern.specs.PatternTree.{Wildcard, Pattern, wild_pattern, Patterns, no_patterns, more_patterns}
use Rattle.mp_pattern.specs.Value.{Value, Subst, value_of}
use Rattle.mp_pattern.specs.Fits.{Entry}
use Rattle.mp_theory.specs.Solve.{solve}
use Rattle.mp_theory.specs.Frames.{Frame, child}
use Rattle.mp_theory.specs.Machine.{onward, said, reads, choices}
use Rattle.mp_theory.specs.OneList.{Item}
use Rattle.mp_theory.specs.Items.{items, items_by}
use Rattle.mp_theory.specs.Bounds.{least}
use Rattle.mp_theory.specs.Kept.{Keeps}
use Rattle.mp_theory.specs.Known.{is_optional, contributed, known, reserved, least_known, all_least_known, is_use}
use Rattle.mp_theory.specs.Known.{uses_of, others_least}
use Rattle.mp_theory.proofs.Cuts.{count, count-append, count-without}
use Rattle.mp_theory.proofs.Bounds.{within}
use Rattle.mp_theory.proofs.KeptValues.{solve-keeps}
use Rattle.mp_theory.proofs.KnownTerms.{bind-fresh, contributed-given, said-bound, known_size, known-taken_out}
use Rattle.mp_theory.proofs.KnownTerms.{known-earlier, known-use}
use Rattle.mp_theory.proofs.Demands.{total, total-earlier, met-behind, met-left}

module _ (sig : Sig) (z : Tree) where
  -- how often a child is known to take the term
  abbrev copies : Subst → Option ℕ → Pattern → ℕ
  copies = known_size sig (count z) (tally-sorted tree_cmp z)

  copies-taken : (p : Pattern) (f : Frame) (fs : List Frame) (e : Entry) (s r : Subst) → reads sig p f.under e ≡ true
      → solve sig s (said (child p f fs) e) ≡ Some r → copies s f.under p ≤ count z e.terms
  copies-taken = known-taken_out sig (count z) (tally-sorted tree_cmp z)

  copies-earlier : (f : Option ℕ) (p : Pattern) (s r : Subst) → Keeps s r → copies s f p ≤ copies r f p
  copies-earlier = known-earlier sig (count z) (tally-sorted tree_cmp z)

  abbrev all_copies : Subst → Option ℕ → Patterns → ℕ
  all_copies = total sig (count z) (count-without z) copies copies-taken copies-earlier

  all_copies-reserved : (s : Subst) (f : Option ℕ) (ps : Patterns)
      → all_copies s f ps ≡ count z (reserved sig s f ps)
  all_copies-reserved s f no_patterns = refl
  all_copies-reserved s f (more_patterns p ps) = omega (
    arith,
    all_copies-reserved s f ps,
    count-append z (unwrap_or (known sig s f p) []) (reserved sig s f ps),
    one (known sig s f p),
  )
    where
      one : (o : Option (List Tree)) → elim o as (λ _. ℕ) [ None ↦ 0 | Some l ↦ count z l ] ≡ count z (unwrap_or o [])
      one None = refl
      one (Some l) = refl

  -- behind an entry with an item what the later children are known to take is left
  pub reserved-behind : (k : ℕ) (p : Pattern) (f : Frame) (fs : List Frame) (e : Entry) (r : Subst) (i : Item)
      → In i (items sig k (onward (child p f fs) e) r)
      → count z (reserved sig r f.under f.children) ≤ count z (without tree_cmp e.terms f.left)
  reserved-behind k p f fs e r i h = omega (
    arith,
    all_copies-reserved r f.under f.children,
    met-behind sig (count z) (count-without z) copies copies-taken copies-earlier k p f fs e r i h,
  )

  -- so what it takes leaves that to them
  pub reserved-left : (k : ℕ) (p : Pattern) (f : Frame) (fs : List Frame) (s : Subst) (e : Entry) (i : Item)
      → In e (choices sig (child p f fs)) → In i (items_by sig k (child p f fs) s e)
      → count z e.terms + count z (reserved sig s f.under f.children) ≤ count z f.left
  reserved-left k p f fs s e i c h =
      let b = met-left sig (count z) (count-without z) copies copies-taken copies-earlier k p f fs s e i c h in
      omega (
        arith,
        b.2,
        all_copies-reserved s f.under f.children,
        total-earlier sig (count z) (count-without z) copies copies-taken copies-earlier f.under f.children s b.0
            (solve-keeps sig s (said (child p f fs) e) b.0 b.1),
      )

  -- a variable without a value is known to take its value's terms at each use once it has one
  copies-uses : (x : List ℕ) (f : Option ℕ) (ps : Patterns) (s r : Subst) (g : Value) → Keeps s r
      → value_of s x ≡ None → value_of r x ≡ Some g
      → all_copies s f ps + uses_of x ps * count z (contributed sig f g) ≤ all_copies r f ps
  copies-uses x f no_patterns s r g kept none now = omega arith
  copies-uses x f (more_patterns p ps) s r g kept none now =
      let i = copies-uses x f ps s r g kept none now in
      let size = λ (o : Option (List Tree)). elim o as (λ _. ℕ) [ None ↦ 0 | Some l ↦ count z l ] in
      elim (is_use x p) as (λ b. is_use x p ≡ b
      → (copies s f p + all_copies s f ps) + ((if b then 1 else 0) + uses_of x ps) * count z (contributed sig f g)
      ≤ copies r f p + all_copies r f ps) [
        | true ↦ λ q. omega (
          arith,
          i,
          ap (λ o. size o) (known-use sig x s f p q ∙ ap (option_map (contributed sig f)) none),
          ap (λ o. size o) (known-use sig x r f p q ∙ ap (option_map (contributed sig f)) now),
        )
        | false ↦ λ q. omega (arith, i, copies-earlier f p s r kept)
      ] refl

  -- so what a variable takes first leaves as much for each later use of it
  pub uses-left : (k : ℕ) (w : Wildcard) (x : List ℕ) (f : Frame) (fs : List Frame) (s : Subst) (e : Entry) (i : Item)
      → is_optional w ≡ false → value_of s x ≡ None → In e (choices sig (child (wild_pattern w (Some x)) f fs))
      → In i (items_by sig k (child (wild_pattern w (Some x)) f fs) s e)
      → (1 + uses_of x f.children) * count z e.terms + count z (reserved sig s f.under f.children) ≤ count z f.left
  uses-left k w x f fs s e i plain none c h =
      let p = wild_pattern w (Some x) in
      let b = met-left sig (count z) (count-without z) copies copies-taken copies-earlier k p f fs s e i c h in
      let g = said-bound sig w x f fs e s b.0 b.1 in
      omega (
        arith,
        b.2,
        all_copies-reserved s f.under f.children,
        subst (λ l. all_copies s f.under f.children + uses_of x f.children * count z l
            ≤ all_copies b.0 f.under f.children) (contributed-given sig f.under w e.terms g.0 plain g.1)
            (copies-uses x f.under f.children s b.0 g.0 (solve-keeps sig s (said (child p f fs) e) b.0 b.1) none
            (bind-fresh s x g.0 b.0 none g.2)),
      )

-- the same of the numbers of terms
module _ (sig : Sig) where
  lengths-apart : (l ts : List Tree) → is_sublist tree_cmp l ts ≡ true
      → length l + length (without tree_cmp l ts) ≡ length ts
  lengths-apart = length-without tree_cmp tree_cmp_total tree_same

  -- how many terms a child is known to take
  abbrev known_length : Subst → Option ℕ → Pattern → ℕ
  known_length = known_size sig (λ l. length l) (length-sorted tree_cmp)

  -- the terms that a child needs, whether they are known or not
  abbrev floor : Subst → Option ℕ → Pattern → ℕ
  floor s f p = max (least p) (known_length s f p)

  floor-taken : (p : Pattern) (f : Frame) (fs : List Frame) (e : Entry) (s r : Subst) → reads sig p f.under e ≡ true
      → solve sig s (said (child p f fs) e) ≡ Some r → floor s f.under p ≤ length e.terms
  floor-taken p f fs e s r h b = omega (
    arith,
    (within sig p f.under e.terms e.collapsed h).0,
    known-taken_out sig (λ l. length l) (length-sorted tree_cmp) p f fs e s r h b,
  )

  floor-earlier : (f : Option ℕ) (p : Pattern) (s r : Subst) → Keeps s r → floor s f p ≤ floor r f p
  floor-earlier f p s r k = omega (arith, known-earlier sig (λ l. length l) (length-sorted tree_cmp) f p s r k)

  abbrev all_floors : Subst → Option ℕ → Patterns → ℕ
  all_floors = total sig (λ l. length l) lengths-apart floor floor-taken floor-earlier

  least_known-floor : (s : Subst) (f : Option ℕ) (p : Pattern) → least_known sig s f p ≤ floor s f p
  least_known-floor s f p =
      elim (known sig s f p) as
      (λ o. elim o as (λ _. ℕ) [ None ↦ least p | Some l ↦ length l ]
      ≤ max (least p) (elim o as (λ _. ℕ) [ None ↦ 0 | Some l ↦ length l ])) [
        | None ↦ omega arith
        | Some l ↦ omega arith
      ]

  all_least_known-floors : (s : Subst) (f : Option ℕ) (ps : Patterns) → all_least_known sig s f ps ≤ all_floors s f ps
  all_least_known-floors s f no_patterns = omega arith
  all_least_known-floors s f (more_patterns p ps) = omega (
    arith,
    least_known-floor s f p,
    all_least_known-floors s f ps,
  )

  -- behind an entry with an item as many terms are left as the later children need
  pub lengths-behind : (k : ℕ) (p : Pattern) (f : Frame) (fs : List Frame) (e : Entry) (r : Subst) (i : Item)
      → In i (items sig k (onward (child p f fs) e) r)
      → all_least_known sig r f.under f.children ≤ length (without tree_cmp e.terms f.left)
  lengths-behind k p f fs e r i h = omega (
    arith,
    all_least_known-floors r f.under f.children,
    met-behind sig (λ l. length l) lengths-apart floor floor-taken floor-earlier k p f fs e r i h,
  )

  pub lengths-left : (k : ℕ) (p : Pattern) (f : Frame) (fs : List Frame) (s : Subst) (e : Entry) (i : Item)
      → In e (choices sig (child p f fs)) → In i (items_by sig k (child p f fs) s e)
      → length e.terms + all_least_known sig s f.under f.children ≤ length f.left
  lengths-left k p f fs s e i c h =
      let b = met-left sig (λ l. length l) lengths-apart floor floor-taken floor-earlier k p f fs s e i c h in
      omega (
        arith,
        b.2,
        all_least_known-floors s f.under f.children,
        total-earlier sig (λ l. length l) lengths-apart floor floor-taken floor-earlier f.under f.children s b.0
            (solve-keeps sig s (said (child p f fs) e) b.0 b.1),
      )

  -- each use needs as many as its variable's value contributes
  floors-uses : (x : List ℕ) (f : Option ℕ) (ps : Patterns) (s r : Subst) (g : Value) → Keeps s r
      → value_of r x ≡ Some g
      → others_least sig x s f ps + uses_of x ps * length (contributed sig f g) ≤ all_floors r f ps
  floors-uses x f no_patterns s r g kept now = omega arith
  floors-uses x f (more_patterns p ps) s r g kept now =
      let i = floors-uses x f ps s r g kept now in
      elim (is_use x p) as (λ b. is_use x p ≡ b
      → ((if b then 0 else least_known sig s f p) + others_least sig x s f ps)
      + ((if b then 1 else 0) + uses_of x ps) * length (contributed sig f g)
      ≤ floor r f p + all_floors r f ps) [
        | true ↦ λ q. omega (
          arith,
          i,
          ap (λ o. elim o as (λ _. ℕ) [ None ↦ 0 | Some l ↦ length l ])
              (known-use sig x r f p q ∙ ap (option_map (contributed sig f)) now),
        )
        | false ↦ λ q. omega (arith, i, least_known-floor s f p, floor-earlier f p s r kept)
      ] refl

  -- so it is with what a variable takes first
  pub uses_lengths-left : (k : ℕ) (w : Wildcard) (x : List ℕ) (f : Frame) (fs : List Frame) (s : Subst) (e : Entry)
      (i : Item) → is_optional w ≡ false → value_of s x ≡ None
      → In e (choices sig (child (wild_pattern w (Some x)) f fs))
      → In i (items_by sig k (child (wild_pattern w (Some x)) f fs) s e)
      → (1 + uses_of x f.children) * length e.terms + others_least sig x s f.under f.children ≤ length f.left
  uses_lengths-left k w x f fs s e i plain none c h =
      let p = wild_pattern w (Some x) in
      let b = met-left sig (λ l. length l) lengths-apart floor floor-taken floor-earlier k p f fs s e i c h in
      let g = said-bound sig w x f fs e s b.0 b.1 in
      omega (
        arith,
        b.2,
        subst (λ l. others_least sig x s f.under f.children + uses_of x f.children * length l
            ≤ all_floors b.0 f.under f.children) (contributed-given sig f.under w e.terms g.0 plain g.1)
            (floors-uses x f.under f.children s b.0 g.0 (solve-keeps sig s (said (child p f fs) e) b.0 b.1)
            (bind-fresh s x g.0 b.0 none g.2)),
      )
