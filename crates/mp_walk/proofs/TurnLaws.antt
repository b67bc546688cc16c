-- What is still to come at the beginning of a turn, and the open operations of frames.
use Rattle.std.proofs.Common.{◌≡◌, ℕ, List, [], ◌∷◌, ◌++◌, length, refl, ap, sym, ◌∙◌, subst}
use Rattle.std.proofs.Common.{false}
use Rattle.std.specs.Prelude.{Option, Some, None, flat_map}
use Rattle.mp_term.specs.Signature.{Sig}
use Rattle.mp_pattern.specs.Fits.{Table}
use Rattle.mp_pattern.specs.NetTokens.{NetToken}
use Rattle.mp_pattern.specs.Variables.{comm_above}
use Rattle.mp_subst.proofs.TrailLaws.{item_at}
use Rattle.mp_table.specs.Table as plain_table
use Rattle.mp_walk.specs.declared.frame.Frame.{Frame}
use Rattle.mp_walk.specs.Course.{Read, unread, after_step, of_read, read_to_come, table_read}
use Rattle.mp_walk.specs.Course.{reads_to_come, to_come_in, walk_from, steps_left}
use Rattle.mp_walk.specs.Forests.{walk}
use Rattle.mp_walk.specs.Instrs.{Instr, instr_at}
use Rattle.mp_walk.specs.OpenOnes.{opens, open_of, IsPlaceBelow, AreFrames}
use Rattle.mp_walk.specs.TokenMachine.{Open, State, below_items, steps_in, token_steps, token_ends}
use Rattle.mp_walk.specs.Walkable.{IsWalkable}
use Rattle.mp_walk.specs.Ways.{Step, ways_from}
use Rattle.mp_walk.proofs.CodePaths.{forest-step, forest-none}
use Rattle.mp_walk.proofs.OpenLaws.{opens-is}
use Rattle.mp_walk.proofs.WaySteps.{steps_in-ways}

-- the innermost open operation isn't commutative
abbrev pub IsOrdered : Sig → List Open → Type 0
IsOrdered sig os = (f : Open) (fs : List Open) → os ≡ f ∷ fs → comm_above sig f.under ≡ false

-- a place below the frames has a frame
pub opens-ordered : (sig : Sig) (t : plain_table.Table) (fs : List Frame) → AreFrames sig t fs → (o : Option ℕ)
    → IsPlaceBelow (length fs) o → IsOrdered sig (opens t fs o)
opens-ordered sig t fs a None h f gs e = cc
opens-ordered sig t fs a (Some i) h f gs e =
    let at = item_at fs i h in
    let is : opens t fs (Some i) ≡ open_of t at.0 ∷ opens t fs at.0.outer = opens-is t sig fs a i at.0 at.1 in
    let same : open_of t at.0 ≡ f = (let z : open_of t at.0 ∷ opens t fs at.0.outer ≡ f ∷ gs = sym is ∙ e in cc) in
    subst (λ g. comm_above sig g.under ≡ false) same (a i at.0 at.1).ordered

module _ (sig : Sig) (code : List Instr) (W : IsWalkable sig code) where
  -- a token that isn't read yet has all its steps
  pub unread-steps : (k : NetToken) (n : ℕ) (s : State) → IsOrdered sig s.open_ones
      → token_steps sig s k ≡ steps_left sig k (unread n s)
  unread-steps k n s h = by_opens s.open_ones refl
    where
      by_opens : (os : List Open) → s.open_ones ≡ os
          → (elim os as (λ _. List Step) [ [] ↦ [] | f ∷ fs ↦ steps_in sig (below_items sig) f fs s.trail k ])
          ≡ (elim os as (λ _. List Step) [ [] ↦ [] | f ∷ fs ↦ ways_from sig f fs s.trail k 0 ])
      by_opens [] e = refl
      by_opens (f ∷ fs) e = steps_in-ways sig f fs s.trail (h f fs e) k

  -- what a walk puts out from an instruction on is what is to come of its token
  pub unread-to_come : (n : ℕ) (i : Instr) (s : State) (before : Table) → instr_at code n ≡ Some i
      → IsOrdered sig s.open_ones → walk_from sig code (Some n) s before ≡ read_to_come sig code before (unread n s)
  unread-to_come n i s before held h =
      ap (λ F. walk (token_steps sig) token_ends F s before) (forest-step code W.forward n i held)
      ∙ ap (λ rs. flat_map (after_step sig code n i before) rs ++ walk_from sig code i.over s before)
      (unread-steps i.token n s h)
      ∙ sym (ap (λ o. elim o as (λ _. List (ℕ × Table))
      [ None ↦ [] | Some j ↦ of_read sig code before (unread n s) j ]) held)

  -- so it is with all that is to come
  pub new-to_come : (reads : List Read) (n : ℕ) (i : Instr) (s : State) → instr_at code n ≡ Some i
      → IsOrdered sig s.open_ones
      → to_come_in sig code (record { reads = reads; present = s; target = Some n })
      ≡ read_to_come sig code (table_read code reads) (unread n s) ++ reads_to_come sig code [] reads
  new-to_come reads n i s held h =
      ap (λ xs. xs ++ reads_to_come sig code [] reads) (unread-to_come n i s (table_read code reads) held h)

  -- where no instruction is to be tried, nothing is put out from there on
  pub none-to_come : (s : State) (before : Table) → walk_from sig code None s before ≡ []
  none-to_come s before = ap (λ F. walk (token_steps sig) token_ends F s before) (forest-none code W.forward)
