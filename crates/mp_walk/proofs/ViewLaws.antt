-- A walk as what it is read as.
use Rattle.std.proofs.Common.{◌≡◌, ◌≤◌, ◌-◌, ℕ, zero, suc, arith, List, [], ◌∷◌, refl, ap, ◌∙◌}
use Rattle.std.specs.Prelude.{Some, IsSome, slice_index_or, length}
use Rattle.mp_walk.specs.declared.course.Course.{Course}
use Rattle.mp_walk.specs.declared.level.Level.{Level}
use Rattle.mp_walk.specs.declared.stage.Stage.{Stage}
use Rattle.mp_walk.specs.declared.stage.Stage.TheVariants.{Before, Standing, Ended, Failed}
use Rattle.mp_walk.specs.CourseView.{IsCourse, IsAtItem, item_of, last_instr}
use Rattle.mp_walk.specs.WalkInside as inside
use Rattle.mp_walk.specs.WalkInside.{IsAtStage}

-- a walk that goes on has a course
pub going-course : (s : Stage) (c : Course) → (s ≡ Ended → ⊥) → (s ≡ Failed → ⊥) → IsAtStage s c → IsCourse c
going-course Before c e f h = h
going-course Standing c e f h = h.0
going-course Ended c e f h = absurd (e refl)
going-course Failed c e f h = absurd (f refl)

-- and one that stands at an item has one that does so
pub standing-course : (s : Stage) (c : Course) → IsSome (inside.item_at s c) → IsAtStage s c
    → IsAtItem c × (inside.item_at s c ≡ Some (item_of c))
standing-course Before c e h = cc
standing-course Standing c e h = (h, refl)
standing-course Ended c e h = cc
standing-course Failed c e h = cc

-- the last instruction
pub last-index : (ls : List Level) (d : Level) → 1 ≤ length ls
    → (slice_index_or ls (length ls - 1) d).instr ≡ last_instr ls
last-index [] d h = absurd (omega arith)
last-index (l ∷ []) d h = refl
last-index (l ∷ m ∷ ls) d h =
    let same : length (l ∷ m ∷ ls) - 1 ≡ suc (length (m ∷ ls) - 1) = omega arith in
    ap (λ n. (slice_index_or (l ∷ m ∷ ls) n d).instr) same ∙ last-index (m ∷ ls) d (omega arith)

pub not-zero : (n : ℕ) → (n ≡ 0 → ⊥) → 1 ≤ n
not-zero zero h = absurd (h refl)
not-zero (suc n) h = omega arith
