-- The frames stand for the same where the levels below them are the same.
use Rattle.std.proofs.Common.{◌≡◌, ℕ, suc, ◌<◌, ◌≤◌, ◌+◌, List, [], ◌∷◌, map, length, take, refl, ap, sym, ◌∙◌}
use Rattle.std.proofs.Common.{subst, arith}
use Rattle.std.specs.Prelude.{Some, None}
use Rattle.mp_term.specs.declared.term.OpId.{OpId}
use Rattle.mp_pattern.specs.PatternTree.{patterns}
use Rattle.mp_pattern.specs.View.{pattern_tree}
use Rattle.mp_pattern.specs.declared.pattern.Pattern as code
use Rattle.mp_pattern.specs.declared.pattern.Pattern.TheVariants.{Sym, App, Wild}
use Rattle.mp_pattern.specs.PatternTree.{Pattern}
use Rattle.mp_pattern.specs.Fits.{Entry}
use Rattle.mp_table.specs.Table.{terms_at}
use Rattle.mp_theory.specs.Frames as walk
use Rattle.mp_theory.specs.Machine.{onward, entered, taken_out, arguments}
use Rattle.mp_search.specs.declared.level.Level.{Level}
use Rattle.mp_search.specs.declared.query.Query.{Query}
use Rattle.mp_search.specs.declared.stack.Left.{Left}
use Rattle.mp_search.specs.declared.stack.Left.TheVariants.{Given, Args, Take, Rest}
use Rattle.mp_search.specs.declared.stack.Frame.{Frame}
use Rattle.mp_search.specs.declared.stack.Stack.{Stack}
use Rattle.mp_search.specs.declared.stack.Stack.{Root, Within'}
use Rattle.mp_search.specs.declared.stack.Place.{Place}
use Rattle.mp_search.specs.Frames.{above, take_at, rest_at, left_of, frame_of, stack_frames, inner_of, LeftBelow}
use Rattle.mp_search.specs.Frames.{IsBelow, PlaceBelow, place_after}
use Rattle.mp_search.specs.Reading.{entry_at}
use Rattle.mp_search.specs.At.{IsAt}
use Rattle.mp_search.proofs.LevelsLaws.{get-kept, take-again, take-suc_less, length-take_within, place-suc}
use Rattle.mp_search.proofs.BindAtLaws.{one_more}

module _ (q : Query) (k : ℕ) (xs ys : List Level) (same : take k xs ≡ take k ys) where
  take-kept : (j : ℕ) → j < k → take_at q xs j ≡ take_at q ys j
  take-kept j h = ap (λ o. elim o [ None ↦ [] | Some l ↦ terms_at q.table.now l.take.items.items ])
      (get-kept j k xs ys h same)

  rest-kept : (j : ℕ) → j < k → rest_at q xs j ≡ rest_at q ys j
  rest-kept j h = ap (λ o. elim o [ None ↦ [] | Some l ↦ terms_at q.table.now l.rest.items.items ])
      (get-kept j k xs ys h same)

  pub left-kept : (l : Left) → LeftBelow k l → left_of q xs l ≡ left_of q ys l
  left-kept Given h = refl
  left-kept (Args j) h = ap arguments (take-kept j h)
  left-kept (Take j) h = take-kept j h
  left-kept (Rest j) h = rest-kept j h

  pub frame-kept : (f : Frame) → LeftBelow k f.left → frame_of q xs f ≡ frame_of q ys f
  frame-kept f h = ap
      (λ l. record {
        under = above f.under;
        children = patterns (map pattern_tree f.children.now);
        left = l;
        owes = f.owes;
      }) (left-kept f.left h)

  pub stack-kept : (s : Stack) → IsBelow k s → stack_frames q xs s ≡ stack_frames q ys s
  stack-kept Root h = refl
  stack-kept (Within' f p s) h = ap (λ g. g ∷ stack_frames q xs s) (frame-kept f h.0)
      ∙ ap (λ fs. frame_of q ys f ∷ fs) (stack-kept s h.1)

left-more : (k : ℕ) (l : Left) → LeftBelow k l → LeftBelow (suc k) l
left-more k Given h = tt
left-more k (Args j) h = omega (arith, h)
left-more k (Take j) h = omega (arith, h)
left-more k (Rest j) h = omega (arith, h)

pub below-more : (k : ℕ) (s : Stack) → IsBelow k s → IsBelow (suc k) s
below-more k Root h = tt
below-more k (Within' f p s) h = (left-more k f.left h.0, below-more k s h.1)

-- a child that is no application opens no frame
pub entered-plain : (p : code.Pattern) (e : Entry) (fs : List walk.Frame)
    → ((f : OpId) (ps : List Pattern) → p ≡ App f ps → ⊥) → entered (pattern_tree p) e fs ≡ fs
entered-plain (Sym n) e fs h = refl
entered-plain (App f ps) e fs h = absurd (h f ps refl)
entered-plain (Wild w x) e fs h = refl

-- the frames behind the entry of node k settle to the place after it
pub settle-behind : (q : Query) (k : ℕ) (ls : List Level) (p : Place) (fs : List walk.Frame) → k < length ls
    → IsAt q (take k ls) p
    → fs ≡ entered (pattern_tree p.child.now) (entry_at q.table.now ls k)
    (taken_out (pattern_tree p.child.now) (entry_at q.table.now ls k) (inner_of q (take k ls) p)
    ∷ stack_frames q (take k ls) p.outer.now)
    → walk.settle fs ≡ place_after q (take (suc k) ls)
settle-behind q k ls p fs h at e = ap walk.settle e
    ∙ ap (λ n. onward n (entry_at q.table.now ls k)) at.stands ∙ sym (place-suc q k ls h)

-- what stands below is below the length of the levels below
pub at-below : (q : Query) (k : ℕ) (ls : List Level) (p : Place) → k ≤ length ls → IsAt q (take k ls) p → PlaceBelow k p
at-below q k ls p h at = subst (λ j. PlaceBelow j p) (length-take_within k ls h) at.within

-- the outer frames with one level more
pub outer-more : (q : Query) (k : ℕ) (ls : List Level) (s : Stack) → IsBelow k s
    → stack_frames q (take (suc k) ls) s ≡ stack_frames q (take k ls) s
outer-more q k ls s h = stack-kept q k (take (suc k) ls) (take k ls) (take-suc_less k ls) s h

-- a frame of levels below is that of all levels
pub frame-front : (q : Query) (k : ℕ) (ls : List Level) (f : Frame) → LeftBelow k f.left
    → frame_of q (take k ls) f ≡ frame_of q ls f
frame-front q k ls f h = frame-kept q k (take k ls) ls (take-again k ls) f h

-- what is left behind the entry of node k, and the outer frames, with one level more
pub rest-behind : (q : Query) (k : ℕ) (ls : List Level) (p : Place) (r : Frame) (f : walk.Frame) → k < length ls
    → IsAt q (take k ls) p → frame_of q ls r ≡ f → LeftBelow (k + 1) r.left
    → frame_of q (take (k + 1) ls) r ∷ stack_frames q (take (k + 1) ls) p.outer.now
    ≡ f ∷ stack_frames q (take k ls) p.outer.now
rest-behind q k ls p r f h at e b = ap (λ g. g ∷ stack_frames q (take (k + 1) ls) p.outer.now)
    (frame-front q (k + 1) ls r b ∙ e)
    ∙ ap (λ fs. f ∷ fs)
    (subst (λ j. stack_frames q (take j ls) p.outer.now ≡ stack_frames q (take k ls) p.outer.now) (one_more k)
    (outer-more q k ls p.outer.now (at-below q k ls p (omega (arith, h)) at).1))

pub outer-below : (q : Query) (k : ℕ) (ls : List Level) (p : Place) → k < length ls → IsAt q (take k ls) p
    → IsBelow (k + 1) p.outer.now
outer-below q k ls p h at = subst (λ j. IsBelow j p.outer.now) (one_more k)
    (below-more k p.outer.now (at-below q k ls p (omega (arith, h)) at).1)

pub settle-more : (q : Query) (k : ℕ) (ls : List Level) (p : Place) (fs : List walk.Frame) → k < length ls
    → IsAt q (take k ls) p
    → fs ≡ entered (pattern_tree p.child.now) (entry_at q.table.now ls k)
    (taken_out (pattern_tree p.child.now) (entry_at q.table.now ls k) (inner_of q (take k ls) p)
    ∷ stack_frames q (take k ls) p.outer.now)
    → walk.settle fs ≡ place_after q (take (k + 1) ls)
settle-more q k ls p fs h at e = subst (λ j. walk.settle fs ≡ place_after q (take j ls)) (one_more k)
    (settle-behind q k ls p fs h at e)
