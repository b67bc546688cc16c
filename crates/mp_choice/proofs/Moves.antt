-- What a generator shows after a step.
use Rattle.std.proofs.Common.{◌≡◌, ℕ, List, Bool, true, false, sym, ap, subst, rules}
use Rattle.std.specs.Prelude.{◌↔◌, IsTrue, IsSome, MatchBool, slice_get, drop}
use Rattle.std.specs.declared.cmp.Ordering.{Ordering}
use Rattle.mp_choice.specs.declared.stage.Stage.{Stage}
use Rattle.mp_choice.specs.declared.stage.Stage.TheVariants.{Standing, Ended}
use Rattle.mp_choice.specs.Choices.{Choices, advanced}
use Rattle.mp_choice.specs.Listed.{item_at, to_come_at, StandsAt, Reaches, IsExhausted}

-- the stage after a step that found an item, or none
abbrev pub stage_after : Bool → Stage
stage_after true = Standing
stage_after false = Ended

module _ (cmp : List ℕ → List ℕ → Ordering) (P : List ℕ → Type 0) (all : List (List ℕ)) (room : ℕ) where
  -- what a generator of all shows that holds x
  abbrev pub shown : Stage → List ℕ → Choices
  shown stage x = record { item = item_at stage x; to_come = to_come_at cmp stage x all; room = room }

  -- a generator that held `old` has moved on, and stands at an item with P exactly where it found one
  pub record HasMoved (stage : Stage) (old : List ℕ) (found : Bool) (after : Stage) (new : List ℕ) : Type 0 where
    pub moved : shown after new ≡ advanced (shown stage old)
    pub answer : IsTrue found ↔ IsSome (item_at after new)
    pub stands : StandsAt P after new

  -- a step that reaches the next item, or finds that none is to come, has moved on
  pub has_moved : (found : Bool) (stage after : Stage) (old new held : List ℕ) → after ≡ stage_after found → held ≡ new
      → MatchBool found (Reaches cmp P all stage old new) (IsExhausted cmp all stage old)
      → HasMoved stage old found after held
  has_moved found stage after old new held e k h = subst (λ s. HasMoved stage old found s held) (sym e)
      (subst (λ x. HasMoved stage old found (stage_after found) x) (sym k) (by_answer found h))
    where
      by_answer : (found : Bool) → MatchBool found (Reaches cmp P all stage old new) (IsExhausted cmp all stage old)
          → HasMoved stage old found (stage_after found) new
      by_answer true h = record {
        moved = ap (λ (xs : List (List ℕ)). record { item = slice_get xs 0; to_come = drop 1 xs; room = room })
            (sym h.to_come);
        answer = search rules;
        stands = h.item;
      }
      by_answer false h = record {
        moved = ap (λ (xs : List (List ℕ)). record { item = slice_get xs 0; to_come = drop 1 xs; room = room })
            (sym h);
        answer = search rules;
        stands = tt;
      }
