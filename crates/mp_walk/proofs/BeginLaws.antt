-- The course of a walk before its first turn.
use Rattle.std.proofs.Common.{◌≡◌, ℕ, zero, suc, List, [], ◌∷◌, refl, ap, sym, ◌∙◌, subst}
use Rattle.std.proofs.Common.{arith}
use Rattle.std.specs.Prelude.{Option, Some, None, IsSome, IfSome}
use Rattle.mp_term.specs.Signature.{Sig}
use Rattle.mp_pattern.specs.Variables.{comm_above}
use Rattle.mp_table.specs.Table.{Table, subject_of}
use Rattle.mp_subst.specs.Trail.{Trail}
use Rattle.mp_walk.specs.declared.frame.Frame.{Frame}
use Rattle.mp_walk.specs.CodeForest.{forest_of, code_forest}
use Rattle.mp_walk.specs.Course.{walk_from}
use Rattle.mp_walk.specs.CourseView.{LeadsTo}
use Rattle.mp_walk.specs.Forests.{walk}
use Rattle.mp_walk.specs.Instrs.{Instr, instr_at}
use Rattle.mp_walk.specs.Levels.{state_of}
use Rattle.mp_ac.specs.Numbered.{numbered_subst}
use Rattle.mp_search.specs.Frames.{above}
use Rattle.mp_walk.specs.OpenOnes.{open_of, opens, opens_at, AreFrames, IsFrame, IsFrameAt, IsPlaceBelow}
use Rattle.mp_walk.specs.TokenMachine.{State, begin_state, token_steps, token_ends}
use Rattle.mp_walk.specs.Walkable.{IsWalkable}
use Rattle.mp_walk.specs.WalkView.{IsFirstTarget}
use Rattle.mp_walk.proofs.CodePaths.{instr-there}

-- the frame of the root alone
pub begin-frames : (sig : Sig) (t : Table) (r : Frame) → IsFrame t r → r.under ≡ None → r.outer ≡ None
    → AreFrames sig t (r ∷ [])
begin-frames sig t r h under outer zero f e =
    let same : r ≡ f = cc in
    subst (IsFrameAt sig t zero) same (record {
      frame = h;
      ordered = ap (λ u. comm_above sig (above u)) under;
      outer = subst (IsPlaceBelow zero) (sym outer) tt;
    })
begin-frames sig t r h under outer (suc i) f e = cc

-- the state at the beginning
pub begin-state : (t : Table) (r : Frame) → open_of t r ∷ [] ≡ (begin_state (subject_of t)).open_ones → r.outer ≡ None
    → (fs : List Frame) (u : Trail) → fs ≡ r ∷ [] → u.stack ≡ []
    → state_of t fs (Some 0) u ≡ begin_state (subject_of t)
begin-state t r h outer fs u frames none =
    ap (λ gs. state_of t gs (Some 0) u) frames
    ∙ ap (λ es. record { open_ones = opens t (r ∷ []) (Some 0); trail = numbered_subst t es }) none
    ∙ ap (λ os. record { open_ones = os; trail = [] }) (ap (λ o. open_of t r ∷ opens_at [] o) outer ∙ h)

pub begin-there : (code : List Instr) (o : Option ℕ) → IsFirstTarget code o → IfSome o (λ n. IsSome (instr_at code n))
begin-there code None h = tt
begin-there code (Some n) h =
    let i = instr-there code 1 (omega arith) h.1 in
    subst (λ m. IsSome (instr_at code m)) (sym h.0) (subst IsSome (sym i.1) refl)

-- the empty path leads to it
pub begin-first : (sig : Sig) (code : List Instr) (W : IsWalkable sig code) (o : Option ℕ) → IsFirstTarget code o
    → LeadsTo W.before o []
begin-first sig code W None h = tt
begin-first sig code W (Some n) h = ap W.before h.0 ∙ W.paths.first

-- what is to come from the first instruction on
pub begin-walk : (sig : Sig) (code : List Instr) (o : Option ℕ) → IsFirstTarget code o → (s : State)
    → walk_from sig code o s [] ≡ walk (token_steps sig) token_ends (code_forest code) s []
begin-walk sig code None h s =
    ap (λ c. walk (token_steps sig) token_ends (forest_of c None) s []) h
    ∙ ap (λ c. walk (token_steps sig) token_ends (forest_of c (Some 1)) s []) (sym h)
begin-walk sig code (Some n) h s = ap (λ m. walk (token_steps sig) token_ends (forest_of code (Some m)) s []) h.0
