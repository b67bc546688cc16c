-- Levels of a walk, as places and entries are added and cut off.
use Rattle.std.proofs.Common.{◌≡◌, ◌≤◌, ℕ, List, [], ◌∷◌, ◌++◌, map, refl, ap, sym, ◌∙◌, subst}
use Rattle.std.proofs.Common.{arith}
use Rattle.std.specs.List.{AllByRecursion}
use Rattle.std.specs.Prelude.{Option, Some, None}
use Rattle.mp_subst.specs.Trail.{Trail, length_at, cut}
use Rattle.mp_walk.specs.Rooms.{target_room}
use Rattle.mp_walk.specs.declared.frame.Frame.{Frame}
use Rattle.mp_walk.specs.declared.level.Level.{Level}
use Rattle.mp_walk.specs.declared.setting.Setting.{Setting}
use Rattle.mp_walk.specs.Course.{IsEnded}
use Rattle.mp_walk.specs.CourseView.{IsMarked}
use Rattle.mp_walk.specs.Levels.{search_of}
use Rattle.mp_walk.specs.Levels.{read_of, trail_before, HasRoom, first_frames, first_mark, IsLevel, AreLevels}
use Rattle.mp_walk.specs.Levels.{HasSearch}
use Rattle.mp_walk.specs.Below.{below_table, below_ahead}
use Rattle.mp_walk.specs.OpenOnes.{opens, IsPlaceBelow}
use Rattle.mp_ac.specs.Numbered.{numbered_subst}

-- a place below so many is below more
pub below-more : (m n : ℕ) → m ≤ n → (o : Option ℕ) → IsPlaceBelow m o → IsPlaceBelow n o
below-more m n h None k = tt
below-more m n h (Some i) k = omega arith

-- the bounds before a level more
first_frames-more : (ls : List Level) (l : Level) (n : ℕ) → first_frames (ls ++ l ∷ []) n ≡ first_frames ls l.frames
first_frames-more [] l n = refl
first_frames-more (k ∷ ls) l n = refl

first_mark-more : (ls : List Level) (l : Level) (n : ℕ) → first_mark (ls ++ l ∷ []) n ≡ first_mark ls (length_at l.mark)
first_mark-more [] l n = refl
first_mark-more (k ∷ ls) l n = refl

module _ (x : Setting) where
  module _ (fs : List Frame) (u : Trail) where
    -- the first bounds are no greater than the last
    pub first-below : (ls : List Level) (places marks : ℕ) → AreLevels x fs u ls places marks
        → (first_frames ls places ≤ places) × (first_mark ls marks ≤ marks)
    first-below [] places marks h = (omega arith, omega arith)
    first-below (l ∷ ls) places marks h =
        let r = first-below ls places marks h.3 in
        (let a = h.1 in omega (arith, a, r.0), let a = h.2 in omega (arith, a, r.1))

    -- one level more
    pub levels-more : (ls : List Level) (l : Level) (places marks : ℕ)
        → AreLevels x fs u ls l.frames (length_at l.mark) → IsLevel x fs u l → l.frames ≤ places
        → length_at l.mark ≤ marks → AreLevels x fs u (ls ++ l ∷ []) places marks
    levels-more [] l places marks h k a b = (k, a, b, tt)
    levels-more (m ∷ ls) l places marks h k a b = (
      h.0,
      subst (λ n. m.frames ≤ n) (sym (first_frames-more ls l places)) h.1,
      subst (λ n. length_at m.mark ≤ n) (sym (first_mark-more ls l marks)) h.2,
      levels-more ls l places marks h.3 k a b,
    )

    -- and one less
    pub record AreParted (ls : List Level) (l : Level) (most many : ℕ) : Type 0 where
      pub levels : AreLevels x fs u ls l.frames (length_at l.mark)
      pub last : IsLevel x fs u l
      pub places : l.frames ≤ most
      pub marks : length_at l.mark ≤ many

    pub levels-last : (ls : List Level) (l : Level) (places marks : ℕ)
        → AreLevels x fs u (ls ++ l ∷ []) places marks → AreParted ls l places marks
    levels-last [] l places marks h = record { levels = tt; last = h.0; places = h.1; marks = h.2 }
    levels-last (m ∷ ls) l places marks h =
        let r = levels-last ls l places marks h.3 in
        record {
          levels = (
            h.0,
            subst (λ n. m.frames ≤ n) (first_frames-more ls l places) h.1,
            subst (λ n. length_at m.mark ≤ n) (first_mark-more ls l marks) h.2,
            r.levels,
          );
          last = r.last;
          places = r.places;
          marks = r.marks;
        }

  -- what changes above the bounds changes nothing
  module _ (fs gs : List Frame) (u v : Trail) (places marks : ℕ)
      (same : (o : Option ℕ) → IsPlaceBelow places o → opens x.table.now gs o ≡ opens x.table.now fs o)
      (kept : (n : ℕ) → n ≤ marks → cut n v ≡ cut n u) where
    pub level-kept : (l : Level) → l.frames ≤ places → length_at l.mark ≤ marks → IsLevel x fs u l
        → IsLevel x gs v l
    level-kept l a b h =
        let p : opens x.table.now gs l.place ≡ opens x.table.now fs l.place =
        same l.place (below-more l.frames places a l.place h.place) in
        let t : trail_before v l ≡ trail_before u l = kept (length_at l.mark) b in
        record {
          instr = h.instr;
          place = h.place;
          room = subst (λ os. HasRoom (target_room x.code.now.instrs (Some l.instr)) os (trail_before v l)) (sym p)
              (subst (HasRoom (target_room x.code.now.instrs (Some l.instr)) (opens x.table.now fs l.place)) (sym t)
              h.room);
          searched = λ i e. subst (λ os. HasSearch x.table.now i.token os (trail_before v l) (search_of l)) (sym p)
              (subst (λ w. HasSearch x.table.now i.token (opens x.table.now fs l.place) w (search_of l)) (sym t)
              (h.searched i e));
          way = h.way;
        }

    pub read-kept : (l : Level) → l.frames ≤ places → length_at l.mark ≤ marks → IsPlaceBelow l.frames l.place
        → read_of x.table.now gs v l ≡ read_of x.table.now fs u l
    read-kept l a b h =
        let p : opens x.table.now gs l.place ≡ opens x.table.now fs l.place =
        same l.place (below-more l.frames places a l.place h) in
        let t : trail_before v l ≡ trail_before u l = kept (length_at l.mark) b in
        ap (λ os. record {
          instr = l.instr;
          state = record { open_ones = os; trail = numbered_subst x.table.now (trail_before v l).stack };
          next = l.next;
          below = below_table (search_of l);
          ahead = below_ahead (search_of l) (numbered_subst x.table.now (trail_before v l).stack);
        }) p
        ∙ ap (λ w. record {
          instr = l.instr;
          state = record { open_ones = opens x.table.now fs l.place; trail = numbered_subst x.table.now w.stack };
          next = l.next;
          below = below_table (search_of l);
          ahead = below_ahead (search_of l) (numbered_subst x.table.now w.stack);
        }) t

    pub levels-kept : (ls : List Level) → AreLevels x fs u ls places marks
        → AreLevels x gs v ls places marks
    levels-kept [] h = tt
    levels-kept (l ∷ ls) h =
        let r = first-below fs u (l ∷ ls) places marks h in
        (level-kept l r.0 r.1 h.0, h.1, h.2, levels-kept ls h.3)

    pub reads-kept : (ls : List Level) → AreLevels x fs u ls places marks
        → map (read_of x.table.now gs v) ls ≡ map (read_of x.table.now fs u) ls
    reads-kept [] h = refl
    reads-kept (l ∷ ls) h =
        let r = first-below fs u (l ∷ ls) places marks h in
        ap (λ m. m ∷ map (read_of x.table.now gs v) ls) (read-kept l r.0 r.1 h.0.place)
        ∙ ap (λ ms. read_of x.table.now fs u l ∷ ms) (reads-kept ls h.3)

  -- what is said of tokens holds of tokens that read the same
  pub marked-same : (fs gs : List Frame) (u v : Trail) (ls : List Level)
      → map (read_of x.table.now gs v) ls ≡ map (read_of x.table.now fs u) ls
      → AllByRecursion (IsMarked x fs u) ls → AllByRecursion (IsMarked x gs v) ls
  marked-same fs gs u v [] same h = tt
  marked-same fs gs u v (l ∷ ls) same h =
      let first : read_of x.table.now gs v l ≡ read_of x.table.now fs u l = cc in
      let rest : map (read_of x.table.now gs v) ls ≡ map (read_of x.table.now fs u) ls = cc in (
        λ said. subst (IsEnded x.sig.now x.code.now.instrs) (sym first) (h.0 said),
        marked-same fs gs u v ls rest h.1,
      )
