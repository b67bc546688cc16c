-- What a token takes from the open operation, as a frame counts it.
use Rattle.std.proofs.Common.{◌≡◌, ◌≤◌, ◌<◌, ◌+◌, ◌++◌, ℕ, zero, suc, List, [], ◌∷◌, length, take, drop, Bool}
use Rattle.std.proofs.Common.{false, not, ◌&&◌, ◌⊎◌, inl, inr, nat_eq, refl, ap, sym, ◌∙◌, subst, arith}
use Rattle.std.specs.Prelude.{Option, Some, slice_get, slice_index_or}
use Rattle.mp_term.specs.Tree.{Tree}
use Rattle.mp_term.specs.Signature.{Sig, is_comm}
use Rattle.std.proofs.lemmas.List.{length-append}
use Rattle.std.proofs.Math.Bool.{and-true}
use Rattle.mp_table.specs.Table.{Table}
use Rattle.mp_pattern.specs.Variables.{comm_above}
use Rattle.mp_walk.specs.declared.frame.Frame.{Frame}
use Rattle.mp_search.specs.Frames.{above}
use Rattle.mp_walk.specs.OpenOnes.{open_of, opens, IsFrame, IsFrameAt, IsPlaceBelow, AreFrames}
use Rattle.mp_walk.proofs.LevelLaws.{below-more}
use Rattle.mp_walk.proofs.OpenLaws.{opens-is, opens-more, parts-at}
use Rattle.mp_pattern.specs.Fits.{is_left_out}
use Rattle.mp_pattern.specs.NetTokens.{NetToken, sym_token, enter_token, leave_token, wild_token, comm_token}
use Rattle.mp_pattern.specs.PatternTree.{Wildcard, dot, kind, plus, star, optional, counted, Pattern, symbol_pattern}
use Rattle.mp_pattern.specs.PatternTree.{app_pattern, no_patterns}
use Rattle.mp_term.specs.View.{tree}
use Rattle.mp_term.specs.declared.term.OpId.{OpId}
use Rattle.mp_term.specs.declared.term.Term.{Term}
use Rattle.mp_pattern.specs.View.{pattern_tree}
use Rattle.mp_pattern.specs.NetTokenView.{net_token}
use Rattle.mp_pattern.specs.declared.net_token.NetToken as declared
use Rattle.mp_pattern.specs.declared.net_token.NetToken.TheVariants.{Sym, Enter, Leave, Dot, Kind, Plus, Star, Opt}
use Rattle.mp_pattern.specs.declared.net_token.NetToken.TheVariants.{Counted, Comm}
use Rattle.mp_pattern.specs.declared.pattern.Pattern as declared_pattern
use Rattle.mp_walk.specs.Course.{rest_by, opens_by, opens_after, IsWayValid}
use Rattle.mp_walk.specs.TokenMachine.{Open, rest_of_open, opened, numbered_wildcard}
use Rattle.mp_walk.specs.Ways.{first_entry}
use Rattle.mp_walk.proofs.WayLaws.{without-front}
use Rattle.mp_walk.proofs.ViewLaws.{not-zero}
use Rattle.mp_theory.proofs.InnerItems.{not-left_out}

left_out-front : (p : Pattern) (n : ℕ) (ts : List Tree) → 1 ≤ n → n ≤ length ts → is_left_out p (take n ts) ≡ false
left_out-front p zero ts h k = absurd (omega arith)
left_out-front p (suc n) [] h k = absurd (omega arith)
left_out-front p (suc n) (t ∷ ts) h k = not-left_out p t (take n ts)

-- a child that isn't left out takes a front, and the rest is left
rest-front : (p : Pattern) (n : ℕ) (c : Bool) (f : Open) → is_left_out p (take n f.left) ≡ false
    → rest_of_open p (record { terms = take n f.left; collapsed = c }) f ≡ record f { left = drop n f.left }
rest-front p n c f h =
    ap (λ l. record {
      under = f.under;
      left = l;
      owes = f.owes && not (is_left_out p (take n f.left));
      collapsed =
          f.collapsed;
    })
    (without-front n f.left)
    ∙ ap (λ b. record { under = f.under; left = drop n f.left; owes = f.owes && not b; collapsed = f.collapsed }) h
    ∙ ap (λ b. record { under = f.under; left = drop n f.left; owes = b; collapsed = f.collapsed }) (and-true f.owes)

-- a symbol and an application take the first term
pub rest-symbol : (n : List ℕ) (f : Open) (way : ℕ) → 1 ≤ length f.left
    → record f { left = drop 1 f.left } ≡ rest_by (sym_token n) f way
rest-symbol n f way h = sym (rest-front (symbol_pattern n) 1 false f refl)

pub rest-enter : (g : ℕ) (f : Open) (way : ℕ) → record f { left = drop 1 f.left } ≡ rest_by (enter_token g) f way
rest-enter g f way = sym (rest-front (app_pattern g no_patterns) 1 (nat_eq way 1) f refl)

pub rest-comm : (p : Pattern) (f : Open) (way : ℕ) → 1 ≤ length f.left
    → record f { left = drop 1 f.left } ≡ rest_by (comm_token p) f way
rest-comm p f way h = sym (rest-front p 1 (nat_eq way 1) f (left_out-front p 1 f.left (omega arith) h))

-- a wildcard that isn't left out takes a front
pub rest-wild : (w : Wildcard) (x : Option ℕ) (f : Open) (way : ℕ)
    → is_left_out (numbered_wildcard w x) (take way f.left) ≡ false
    → record f { left = drop way f.left } ≡ rest_by (wild_token w x) f way
rest-wild w x f way h = sym (rest-front (numbered_wildcard w x) way false f h)

-- a token of one term, as the code knows it
pub rest-one : (k : declared.NetToken) (f : Open) (way : ℕ)
    → ((n : List ℕ) × (k ≡ Sym n)) ⊎ (((g : OpId) × (k ≡ Enter g)) ⊎ ((p : declared_pattern.Pattern) × (k ≡ Comm p)))
    → IsWayValid (net_token k) f way → record f { left = drop 1 f.left } ≡ rest_by (net_token k) f way
rest-one k f way (inl h) v =
    subst (λ j. record f { left = drop 1 f.left } ≡ rest_by (net_token j) f way) (sym h.1)
    (rest-symbol h.0 f way (subst (λ j. IsWayValid (net_token j) f way) h.1 v))
rest-one k f way (inr (inl h)) v =
    subst (λ j. record f { left = drop 1 f.left } ≡ rest_by (net_token j) f way) (sym h.1) (rest-enter h.0.0 f way)
rest-one k f way (inr (inr h)) v =
    subst (λ j. record f { left = drop 1 f.left } ≡ rest_by (net_token j) f way) (sym h.1)
    (rest-comm (pattern_tree h.0) f way (subst (λ j. IsWayValid (net_token j) f way) h.1 v).0)

-- an optional wildcard that takes a term
pub rest-optional : (k : declared.NetToken) (x : Option ℕ) (d : Term) (f : Open) (way : ℕ) → k ≡ Opt x d
    → IsWayValid (net_token k) f way → (way ≡ 0 → ⊥) → record f { left = drop way f.left } ≡ rest_by (net_token k) f way
rest-optional k x d f way e v h =
    subst (λ j. record f { left = drop way f.left } ≡ rest_by (net_token j) f way) (sym e)
    (rest-wild (optional (tree d)) x f way (left_out-front (numbered_wildcard (optional (tree d)) x) way f.left
    (not-zero way h)
    (subst (λ j. IsWayValid (net_token j) f way) e v)))

-- another wildcard
pub rest-plain : (k : declared.NetToken) (f : Open) (way : ℕ) → ((g : OpId) → k ≡ Leave g → ⊥)
    → ((n : List ℕ) → k ≡ Sym n → ⊥) → ((g : OpId) → k ≡ Enter g → ⊥)
    → ((p : declared_pattern.Pattern) → k ≡ Comm p → ⊥)
    → ((x : Option ℕ) (d : Term) → k ≡ Opt x d → ⊥) → record f { left = drop way f.left } ≡ rest_by (net_token k) f way
rest-plain (Sym n) f way a b c d e = absurd (b n refl)
rest-plain (Enter g) f way a b c d e = absurd (c g refl)
rest-plain (Leave g) f way a b c d e = absurd (a g refl)
rest-plain (Dot x) f way a b c d e = rest-wild dot x f way refl
rest-plain (Kind k x) f way a b c d e = rest-wild (kind k.0) x f way refl
rest-plain (Plus x) f way a b c d e = rest-wild plus x f way refl
rest-plain (Star x) f way a b c d e = rest-wild star x f way refl
rest-plain (Opt x t) f way a b c d e = absurd (e x t refl)
rest-plain (Counted n fixed x) f way a b c d e = rest-wild (counted n fixed) x f way refl
rest-plain (Comm p) f way a b c d e = absurd (d p refl)

-- ---- what a token leaves open

-- frames with one more
pub frames-more : (sig : Sig) (t : Table) (fs : List Frame) (r : Frame) → AreFrames sig t fs
    → IsFrameAt sig t (length fs) r
    → AreFrames sig t (fs ++ r ∷ [])
frames-more sig t fs r are h i f e = elim (place-or-end fs r i f e) [
  | inl k ↦ are i f k
  | inr k ↦ subst (λ g. IsFrameAt sig t i g) k.1 (subst (λ n. IsFrameAt sig t n r) (sym k.0) h)
]
  where
    place-or-end : (fs : List Frame) (r : Frame) (i : ℕ) (f : Frame) → slice_get (fs ++ r ∷ []) i ≡ Some f
        → (slice_get fs i ≡ Some f) ⊎ ((i ≡ length fs) × (r ≡ f))
    place-or-end [] r zero f e = inr (refl, (let z : r ≡ f = cc in z))
    place-or-end [] r (suc i) f e = cc
    place-or-end (g ∷ fs) r zero f e = inl e
    place-or-end (g ∷ fs) r (suc i) f e = elim (place-or-end fs r i f e) [
      | inl k ↦ inl k
      | inr k ↦ inr ((let z : i ≡ length fs = k.0 in omega arith), k.1)
    ]

module _ (sig : Sig) (t : Table) (fs : List Frame) (are : AreFrames sig t fs) (i : ℕ) (f : Frame)
    (at : slice_get fs i ≡ Some f) where
  within : i < length fs
  within = (parts-at fs i f at).2

  pub outer-below : IsPlaceBelow (length fs) f.outer
  outer-below = below-more i (length fs) (omega (arith, within)) f.outer (are i f at).outer

  -- the end of an application
  pub opened-leave : (g : ℕ) (way : ℕ) → opens t fs f.outer ≡ opens_after (leave_token g) (opens t fs (Some i)) way
  opened-leave g way = sym (ap (λ os. opens_after (leave_token g) os way) (opens-is t sig fs are i f at))

  module _ (k : NetToken) (way : ℕ) (r : Frame) (frame : IsFrame t r) (is : open_of t r ≡ rest_by k (open_of t f) way)
      (outer : r.outer ≡ f.outer) (under : r.under ≡ f.under) where
    rest-placed : IsPlaceBelow (length fs) r.outer
    rest-placed = subst (IsPlaceBelow (length fs)) (sym outer) outer-below

    rest-at : IsFrameAt sig t (length fs) r
    rest-at = record {
      frame = frame;
      ordered = ap (λ u. comm_above sig (above u)) under ∙ (are i f at).ordered;
      outer = rest-placed;
    }

    -- the open operation, with what is left of it, as a further frame
    pub frames-rest : AreFrames sig t (fs ++ r ∷ [])
    frames-rest = frames-more sig t fs r are rest-at

    pub opens-rest : opens t (fs ++ r ∷ []) (Some (length fs)) ≡ rest_by k (open_of t f) way ∷ opens t fs f.outer
    opens-rest = opens-more t fs r ∙ ap (λ o. o ∷ opens t fs r.outer) is
        ∙ ap (λ p. rest_by k (open_of t f) way ∷ opens t fs p) outer

    -- a token that opens nothing
    pub opened-rest : ((fs : List Open) → opens_by k (open_of t f) fs way ≡ rest_by k (open_of t f) way ∷ fs)
        → opens t (fs ++ r ∷ []) (Some (length fs)) ≡ opens_after k (opens t fs (Some i)) way
    opened-rest h = opens-rest ∙ sym (ap (λ os. opens_after k os way) (opens-is t sig fs are i f at)
        ∙ h (opens t fs f.outer))

-- what stands at an index that is told by a value
pub index-at : {X : Type 0} (xs : List X) (i : ℕ) (x : X) → i < length xs → x ≡ slice_index_or xs i x
    → slice_get xs i ≡ Some x
index-at [] i x h e = absurd (omega arith)
index-at (y ∷ xs) zero x h e = ap Some (sym e)
index-at (y ∷ xs) (suc i) x h e = index-at xs i x (omega arith) e

-- a token that neither begins nor ends an application opens nothing
pub opens_by-rest : (k : declared.NetToken) (f : Open) (way : ℕ) → ((g : OpId) → k ≡ Leave g → ⊥)
    → ((g : OpId) → k ≡ Enter g → ⊥)
    → (fs : List Open) → opens_by (net_token k) f fs way ≡ rest_by (net_token k) f way ∷ fs
opens_by-rest (Sym n) f way a b fs = refl
opens_by-rest (Enter g) f way a b fs = absurd (b g refl)
opens_by-rest (Leave g) f way a b fs = absurd (a g refl)
opens_by-rest (Dot x) f way a b fs = refl
opens_by-rest (Kind k x) f way a b fs = refl
opens_by-rest (Plus x) f way a b fs = refl
opens_by-rest (Star x) f way a b fs = refl
opens_by-rest (Opt x t) f way a b fs = refl
opens_by-rest (Counted n fixed x) f way a b fs = refl
opens_by-rest (Comm p) f way a b fs = refl

-- an application that is entered, as a further frame over what is left of the open operation
module _ (sig : Sig) (t : Table) (fs : List Frame) (are : AreFrames sig t fs) (i : ℕ) (f : Frame)
    (at : slice_get fs i ≡ Some f)
    (g : OpId) (way : ℕ) (r : Frame) (frame : IsFrame t r)
    (is : open_of t r ≡ rest_by (enter_token g.0) (open_of t f) way)
    (outer : r.outer ≡ f.outer) (under : r.under ≡ f.under) (ordered : is_comm sig g.0 ≡ false)
    (e : Frame) (entered : IsFrame t e) (is-entered : open_of t e ≡ opened g.0 (first_entry (open_of t f).left way))
    (entered-under : e.under ≡ Some g) (entered-outer : e.outer ≡ Some (length fs)) where
  pub opened-enter : opens t ((fs ++ r ∷ []) ++ e ∷ []) (Some (length fs + 1))
      ≡ opens_after (enter_token g.0) (opens t fs (Some i)) way
  opened-enter =
      ap (λ n. opens t ((fs ++ r ∷ []) ++ e ∷ []) (Some n)) (sym (length-append fs (r ∷ [])))
      ∙ opens-more t (fs ++ r ∷ []) e
      ∙ ap (λ o. o ∷ opens t (fs ++ r ∷ []) e.outer) is-entered
      ∙ ap (λ p. opened g.0 (first_entry (open_of t f).left way) ∷ opens t (fs ++ r ∷ []) p) entered-outer
      ∙ ap (λ os. opened g.0 (first_entry (open_of t f).left way) ∷ os)
      (opens-rest sig t fs are i f at (enter_token g.0) way r frame is outer under)
      ∙ sym (ap (λ os. opens_after (enter_token g.0) os way) (opens-is t sig fs are i f at))

  pub frames-enter : AreFrames sig t ((fs ++ r ∷ []) ++ e ∷ [])
  frames-enter =
      frames-more sig t (fs ++ r ∷ []) e
      (frames-rest sig t fs are i f at (enter_token g.0) way r frame is outer under)
      (record {
        frame = entered;
        ordered = ap (λ u. comm_above sig (above u)) entered-under ∙ ordered;
        outer = subst (IsPlaceBelow (length (fs ++ r ∷ []))) (sym entered-outer)
            (let h = length-append fs (r ∷ []) in omega (arith, h));
      })
