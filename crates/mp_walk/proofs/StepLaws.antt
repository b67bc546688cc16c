-- The step of a token that takes its first way from the next one on.
use Rattle.std.proofs.Common.{◌≡◌, ◌≤◌, ◌<◌, ℕ, suc, ◌+◌, ◌-◌, length, false, List, [], false, ◌∷◌, ◌++◌, map, refl, ap}
use Rattle.std.proofs.Common.{sym, ◌∙◌, subst, arith}
use Rattle.mp_term.specs.Signature.{Sig}
use Rattle.std.specs.Prelude.{Option, Some, None, MatchOption, IfSome, slice_get, slice_index_or}
use Rattle.std.proofs.lemmas.Option.{get_or_from_slice_get}
use Rattle.mp_pattern.specs.NetTokens.{NetToken, wild_token}
use Rattle.mp_pattern.specs.PatternTree.{Wildcard}
use Rattle.mp_table.specs.Table.{Table}
use Rattle.mp_subst.specs.Trail.{Trail}
use Rattle.mp_subst.proofs.TrailLaws.{item_at}
use Rattle.mp_walk.specs.declared.frame.Frame.{Frame}
use Rattle.mp_walk.specs.OpenOnes.{IsPlaceBelow, AreFrames, open_of, opens}
use Rattle.mp_walk.proofs.OpenLaws.{opens-is}
use Rattle.mp_pattern.specs.Value.{Subst}
use Rattle.mp_walk.specs.Course.{Read, steps_in_left, steps_left, entries_by, opens_by, opens_after}
use Rattle.mp_walk.specs.Course.{pattern_in, IsStepTaken, IsWayValid, way_cost}
use Rattle.mp_walk.specs.TokenMachine.{Open, rest_of_open, numbered_wildcard}
use Rattle.mp_ac.specs.Numbered.{LiesOver}
use Rattle.mp_walk.specs.Ways.{Step, item_step, front_entry, first_entry, ways_from, HasNoWay, IsFirstWay}
use Rattle.mp_walk.proofs.WayLaws.{ways-first, ways-none}

module _ (sig : Sig) (k : NetToken) where
  -- the ways that are left, where no items are
  pub left-ways : (l : Read) (f : Open) (fs : List Open) → l.state.open_ones ≡ f ∷ fs → l.ahead ≡ []
      → steps_left sig k l ≡ ways_from sig f fs l.state.trail k l.next
  left-ways l f fs o a =
      ap (λ os. elim os as (λ _. List Step) [ [] ↦ [] | g ∷ gs ↦ steps_in_left sig k l g gs ]) o
      ∙ ap (λ is. map (item_step f fs (pattern_in k) (first_entry f.left (l.next - 1))) is
      ++ ways_from sig f fs l.state.trail k l.next) a

  -- nothing is open
  pub step-closed : (l : Read) → l.state.open_ones ≡ [] → steps_left sig k l ≡ []
  step-closed l o = ap (λ os. elim os as (λ _. List Step) [ [] ↦ [] | g ∷ gs ↦ steps_in_left sig k l g gs ]) o

  -- no way reads on
  pub step-none : (l : Read) (f : Open) (fs : List Open) → l.state.open_ones ≡ f ∷ fs → l.ahead ≡ []
      → HasNoWay sig f fs l.state.trail k l.next → steps_left sig k l ≡ []
  step-none l f fs o a h = left-ways l f fs o a ∙ ways-none sig f fs l.state.trail k l.next h

  -- the first way reads on
  pub step-taken : (l m : Read) (f : Open) (fs : List Open) (way : ℕ) (u : Subst) → l.state.open_ones ≡ f ∷ fs
      → m.state ≡ l.state → l.ahead ≡ [] → m.ahead ≡ [] → m.below ≡ [] → m.next ≡ suc way
      → IsFirstWay sig f fs l.state.trail k l.next way
      (entries_by k f way [], record { open_ones = opens_by k f fs way; trail = u })
      → IsStepTaken sig k l m u
  step-taken l m f fs way u o s a b t n h =
      let r : Step = (entries_by k f way [], record { open_ones = opens_by k f fs way; trail = u }) in
      let p : m.state.open_ones ≡ f ∷ fs = ap (λ z. z.open_ones) s ∙ o in
      let w : m.next - 1 ≡ way = omega (arith, n) in
      record {
        step = r;
        left = left-ways l f fs o a ∙ ways-first sig f fs l.state.trail k l.next way r h
            ∙ ap (λ rs. r ∷ rs) (sym (left-ways m f fs p b
            ∙ ap (λ z. ways_from sig f fs z.trail k m.next) s
            ∙ ap (ways_from sig f fs l.state.trail k) n));
        entries = sym (ap (λ os. elim os as (λ _. _) [ [] ↦ [] | g ∷ gs ↦ entries_by k g (m.next - 1) m.below ]) p
            ∙ ap (λ v. entries_by k f v m.below) w ∙ ap (entries_by k f way) t);
        opens = sym (ap (λ os. opens_after k os (m.next - 1)) o ∙ ap (opens_by k f fs) w);
        trail = λ x. refl;
      }

module _ (sig : Sig) (f : Open) (fs : List Open) (s u : Subst) (k : NetToken) (w : Wildcard) (x : Option ℕ)
    (is : k ≡ wild_token w x) (from : ℕ) (r : Option ℕ) where
  -- the first way of a wildcard, as that of any token
  pub wild-way : MatchOption r (HasNoWay sig f fs s k from) (λ n. IsFirstWay sig f fs s k from n (
    front_entry f.left n ∷ [],
    record { open_ones = rest_of_open (numbered_wildcard w x) (front_entry f.left n) f ∷ fs; trail = u },
  ))
      → MatchOption r (HasNoWay sig f fs s k from) (λ n. IsFirstWay sig f fs s k from n
      (entries_by k f n [], record { open_ones = opens_by k f fs n; trail = u }))
  wild-way h = subst (λ j. MatchOption r (HasNoWay sig f fs s j from) (λ n. IsFirstWay sig f fs s j from n (
    front_entry f.left n ∷ [],
    record { open_ones = rest_of_open (numbered_wildcard w x) (front_entry f.left n) f ∷ fs; trail = u },
  ))
      → MatchOption r (HasNoWay sig f fs s j from) (λ n. IsFirstWay sig f fs s j from n
      (entries_by j f n [], record { open_ones = opens_by j f fs n; trail = u }))) (sym is) (λ g. g) h

  pub wild-valid : IfSome r (λ n. n ≤ length f.left) → IfSome r (IsWayValid k f)
  wild-valid h = subst (λ j. IfSome r (IsWayValid j f)) (sym is) h

  pub wild-cost : (t : Table) (old new : Trail) → MatchOption r (new ≡ old) (λ n. LiesOver t (n + 3) old new)
      → MatchOption r (new ≡ old) (λ n. LiesOver t (way_cost k n) old new)
  wild-cost t old new h = subst (λ j. MatchOption r (new ≡ old) (λ n. LiesOver t (way_cost j n) old new)) (sym is) h

-- the frame at a place
abbrev pub no_frame : Frame
no_frame = record {
  under = None;
  left = record { ref_ptr = (0, 0); now = [] };
  collapsed = false;
  owes = false;
  outer = None;
}

abbrev pub frame_at : List Frame → ℕ → Frame
frame_at fs i = slice_index_or fs i no_frame

pub frame-there : (fs : List Frame) (i : ℕ) → i < length fs → slice_get fs i ≡ Some (frame_at fs i)
frame-there fs i h =
    let at = item_at fs i h in
    at.1 ∙ ap Some (sym (get_or_from_slice_get fs i at.0 no_frame at.1))

-- the open operations from a place on
pub opens-there : (sig : Sig) (t : Table) (fs : List Frame) → AreFrames sig t fs → (o : Option ℕ) (i : ℕ) → o ≡ Some i
    → IsPlaceBelow (length fs) o → opens t fs o ≡ open_of t (frame_at fs i) ∷ opens t fs (frame_at fs i).outer
opens-there sig t fs a o i e h =
    let within : i < length fs = subst (IsPlaceBelow (length fs)) e h in
    ap (opens t fs) e ∙ opens-is t sig fs a i (frame_at fs i) (frame-there fs i within)
