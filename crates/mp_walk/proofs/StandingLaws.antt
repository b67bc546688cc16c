-- What holds of a token that is to be read on, when what was added behind it is taken back.
use Rattle.std.proofs.Common.{◌≡◌, ◌≤◌, ◌+◌, ◌*◌, ◌-◌, ℕ, List, [], ◌∷◌, ◌++◌, map, length, take, refl, ap, sym}
use Rattle.std.proofs.Common.{◌∙◌, subst}
use Rattle.std.proofs.Common.{arith}
use Rattle.std.specs.Prelude.{Option, Some, IsSome}
use Rattle.mp_term.specs.Size.{all_nodes}
use Rattle.mp_term.specs.Tree.{Tree}
use Rattle.mp_term.proofs.ListLaws.{some-same}
use Rattle.mp_ac.specs.CommPlan.{nodes_below}
use Rattle.mp_pattern.specs.NetTokens.{NetToken, sym_token, enter_token, leave_token, wild_token, comm_token}
use Rattle.mp_pattern.specs.Fits.{Table}
use Rattle.mp_subst.specs.Trail.{Trail, length_at, cut}
use Rattle.mp_subst.proofs.TrailLaws.{cut-cut}
use Rattle.mp_theory.proofs.Narrow.{length-all_nodes}
use Rattle.mp_walk.specs.Rooms.{target_room, token_room}
use Rattle.mp_walk.proofs.RoomLaws.{own-room}
use Rattle.mp_walk.specs.declared.frame.Frame.{Frame}
use Rattle.mp_walk.specs.declared.level.Level.{Level}
use Rattle.mp_walk.specs.declared.setting.Setting.{Setting}
use Rattle.mp_walk.specs.Course.{Read, IsWayValid, IsStepTaken, steps_left, read_to_come}
use Rattle.mp_walk.specs.Course.{reads_to_come, table_read, walk_from}
use Rattle.mp_walk.specs.Chained.{IsChained, IsOwed}
use Rattle.mp_walk.specs.CourseView.{AreChained, StandsBehind, IsLeftBehind, IsTakenBehind}
use Rattle.mp_walk.specs.Instrs.{Instr, instr_at}
use Rattle.mp_walk.specs.Below.{IsAtWay}
use Rattle.mp_walk.specs.Levels.{search_of}
use Rattle.mp_walk.specs.Levels.{read_of, state_of, trail_before, HasRoom, HasSearch, step_cost, search_cost}
use Rattle.mp_walk.specs.Levels.{innermost_left, opens_load, IsLevel, AreLevels, AreOfOneToken}
use Rattle.mp_walk.specs.OpenOnes.{IsPlaceBelow, AreFrames, opens}
use Rattle.mp_walk.specs.SoundTokens.{IsSoundToken}
use Rattle.mp_walk.specs.TokenMachine.{Open, begin_state}
use Rattle.mp_walk.proofs.ChainLaws.{alike-same, chain-end, owed-taken, owed-none}
use Rattle.mp_ac.specs.Numbered.{numbered_subst, IsTrailOf, LiesOver}
use Rattle.mp_walk.proofs.CourseLaws.{over-to_come}
use Rattle.mp_walk.proofs.LevelLaws.{level-kept, levels-kept, marked-same, reads-kept, read-kept}
use Rattle.mp_table.specs.Table.{rank_of, subject_of}
use Rattle.mp_walk.specs.CodeConstants.{token_constants}
use Rattle.std.specs.List.{AllByRecursion}
use Rattle.std.proofs.lemmas.List.{length-take-le}
use Rattle.mp_walk.proofs.OpenLaws.{opens-take}
use Rattle.mp_walk.proofs.PathLaws.{token-sound}
use Rattle.mp_walk.specs.CourseVisits.{read_visits, visits_from}
use Rattle.mp_walk.proofs.VisitLaws.{over-visits}
use Rattle.mp_walk.proofs.ReadOnLaws.{frames-take, cuts-kept, cut-within, constants-held}

-- what a search takes is no more than what is left and what its token stands for
pub search-load : (k : NetToken) (os : List Open)
    → search_cost k (innermost_left os) ≤ opens_load os + token_room k
search-load (sym_token n) os = omega arith
search-load (enter_token g) os = omega arith
search-load (leave_token g) os = omega arith
search-load (wild_token w x) os = omega arith
search-load (comm_token p) [] = omega arith
search-load (comm_token p) (f ∷ fs) = by_left f.left
  where
    by_left : (ts : List Tree) → search_cost (comm_token p) ts ≤ all_nodes ts + opens_load fs + 3 * nodes_below p
    by_left [] = omega arith
    by_left (t ∷ ts) = omega arith

module _ (x : Setting) (fs : List Frame) (u : Trail) (ls : List Level) (l : Level) (S : StandsBehind x fs u ls l) where
  pub front-length : length (take l.frames fs) ≡ l.frames
  front-length = length-take-le l.frames fs S.places

  pub front-frames : AreFrames x.sig.now x.table.now (take l.frames fs)
  front-frames = frames-take x.sig.now x.table.now fs l.frames S.frames

  pub front-opens : (o : Option ℕ) → IsPlaceBelow l.frames o
      → opens x.table.now (take l.frames fs) o ≡ opens x.table.now fs o
  front-opens o h = opens-take x.table.now fs l.frames o h S.places

  pub front-place : IsPlaceBelow (length (take l.frames fs)) l.place
  front-place = subst (λ n. IsPlaceBelow n l.place) (sym front-length) S.last.place

  module _ (i : Instr) (held : instr_at x.code.now.instrs l.instr ≡ Some i) where
    pub sound : IsSoundToken x.sig.now i.token
    sound = token-sound x.sig.now x.code.now.instrs S.setting.walkable l.instr i held

    pub constants : AllByRecursion (λ t. IsSome (rank_of x.table.now t)) (token_constants i.token)
    constants = constants-held x.table.now x.code.now.instrs l.instr i held S.setting.held

    pub front-search : HasSearch x.table.now i.token (opens x.table.now (take l.frames fs) l.place) (trail_before u l)
        (search_of l)
    front-search = subst (λ os. HasSearch x.table.now i.token os (trail_before u l) (search_of l))
        (sym (front-opens l.place S.last.place)) (S.last.searched i held)

    pub search-spare : search_cost i.token (innermost_left (opens x.table.now (take l.frames fs) l.place))
        ≤ (trail_before u l).spare
    search-spare =
        let most = target_room x.code.now.instrs (Some l.instr) in
        let room : HasRoom most (opens x.table.now (take l.frames fs) l.place) (trail_before u l) =
        subst (λ os. HasRoom most os (trail_before u l)) (sym (front-opens l.place S.last.place)) S.last.room in
        let own = own-room x.code.now.instrs S.setting.walkable.forward l.instr i held in
        let less = search-load i.token (opens x.table.now (take l.frames fs) l.place) in
        omega (arith, room, own, less)

    pub spare : (f : Open) (gs : List Open)
        → opens x.table.now (take l.frames fs) l.place ≡ f ∷ gs
        → length f.left + 3 ≤ (trail_before u l).spare
    spare f gs e =
        let most = target_room x.code.now.instrs (Some l.instr) in
        let room : HasRoom most (f ∷ gs) (trail_before u l) =
        subst (λ os. HasRoom most os (trail_before u l)) (sym (front-opens l.place S.last.place) ∙ e) S.last.room in
        let some = length-all_nodes f.left in
        omega (arith, room, some)

  -- the token reads the same in the frames that are left
  pub front-read : read_of x.table.now (take l.frames fs) u l ≡ read_of x.table.now fs u l
  front-read = read-kept x fs (take l.frames fs) u u l.frames (length_at l.mark) front-opens
      (λ n h. refl) l (omega arith) (omega arith) S.last.place

  -- what is left of it are steps of it
  pub front-owed : IsOwed x.sig.now x.code.now.instrs (read_of x.table.now (take l.frames fs) u l)
  front-owed = subst (IsOwed x.sig.now x.code.now.instrs) (sym front-read) S.owed

  -- the trail goes on from what it was before the token
  module _ (v : Trail) (same : cut (length_at l.mark) v ≡ trail_before u l) where
    pub kept : (n : ℕ) → n ≤ length_at l.mark → cut n v ≡ cut n u
    kept = cuts-kept (length_at l.mark) u v S.marks same

    pub kept-reads : map (read_of x.table.now (take l.frames fs) v) ls
        ≡ map (read_of x.table.now fs u) ls
    kept-reads = reads-kept x fs (take l.frames fs) u v
        l.frames (length_at l.mark) front-opens kept ls S.levels

    module _ (m : Level) (one : AreOfOneToken l m)
        (found : (i : Instr) → instr_at x.code.now.instrs l.instr ≡ Some i
        → HasSearch x.table.now i.token (opens x.table.now (take l.frames fs) l.place) (trail_before u l) (search_of m))
        (way : IsAtWay m.next (search_of m)) where
      pub kept-levels : AreLevels x (take l.frames fs) v ls m.frames
          (length_at m.mark)
      kept-levels =
          let h = levels-kept x fs (take l.frames fs) u v
          l.frames (length_at l.mark) front-opens kept ls S.levels in
          subst (λ n. AreLevels x (take l.frames fs) v ls n
          (length_at m.mark)) (sym one.frames)
          (subst (λ k. AreLevels x (take l.frames fs) v ls l.frames
          (length_at k)) (sym one.mark) h)

      pub kept-last : IsLevel x (take l.frames fs) v m
      kept-last =
          let h = level-kept x fs (take l.frames fs) u v
          l.frames (length_at l.mark) front-opens kept l (omega arith) (omega arith) S.last in
          record {
            instr = subst (λ n. IsSome (instr_at x.code.now.instrs n)) (sym one.instr) h.instr;
            place = subst (λ n. IsPlaceBelow n m.place) (sym one.frames)
                (subst (IsPlaceBelow l.frames) (sym one.place) h.place);
            room = subst (λ n. HasRoom (target_room x.code.now.instrs (Some n))
                (opens x.table.now (take l.frames fs) m.place) (trail_before v m)) (sym one.instr)
                (subst (λ o. HasRoom (target_room x.code.now.instrs (Some l.instr))
                (opens x.table.now (take l.frames fs) o) (trail_before v m)) (sym one.place)
                (subst (λ k. HasRoom (target_room x.code.now.instrs (Some l.instr))
                (opens x.table.now (take l.frames fs) l.place)
                (cut (length_at k) v)) (sym one.mark) h.room));
            searched = λ i e. subst (λ o. HasSearch x.table.now i.token (opens x.table.now (take l.frames fs) o)
                (trail_before v m) (search_of m)) (sym one.place)
                (subst (λ w. HasSearch x.table.now i.token (opens x.table.now (take l.frames fs) l.place) w
                (search_of m))
                (sym same ∙ ap (λ k. cut (length_at k) v) (sym one.mark))
                (found i (ap (instr_at x.code.now.instrs) (sym one.instr) ∙ e)));
            way = way;
          }

      kept-state : state_of x.table.now (take l.frames fs) m.place (trail_before v m)
          ≡ state_of x.table.now fs l.place (trail_before u l)
      kept-state =
          ap (λ o. state_of x.table.now (take l.frames fs) o (trail_before v m)) one.place
          ∙ ap (λ k. state_of x.table.now (take l.frames fs) l.place (cut (length_at k) v)) one.mark
          ∙ ap (state_of x.table.now (take l.frames fs) l.place) same
          ∙ ap (λ os. record { open_ones = os; trail = numbered_subst x.table.now (trail_before u l).stack })
          (front-opens l.place S.last.place)

      kept-chained : AreChained x S.setting.walkable.before (take l.frames fs) v ls
          (λ path. S.setting.walkable.before m.instr ≡ path)
          (state_of x.table.now (take l.frames fs) m.place (trail_before v m))
      kept-chained =
          let before = S.setting.walkable.before in
          let start = begin_state (subject_of x.table.now) in
          subst (λ rs. IsChained x.sig.now x.code.now.instrs before (λ path. before m.instr ≡ path) [] start rs
          (state_of x.table.now (take l.frames fs) m.place (trail_before v m))) (sym kept-reads)
          (chain-end x.sig.now x.code.now.instrs before (λ path. before l.instr ≡ path)
          (λ path. before m.instr ≡ path) [] start (map (read_of x.table.now fs u) ls)
          (state_of x.table.now fs l.place (trail_before u l))
          (state_of x.table.now (take l.frames fs) m.place (trail_before v m)) S.chained
          (alike-same (state_of x.table.now fs l.place (trail_before u l))
          (state_of x.table.now (take l.frames fs) m.place (trail_before v m)) (sym kept-state))
          (λ path h. ap before one.instr ∙ h))

      -- the token stands behind the same levels
      pub kept-standing : IsTrailOf x.table.now v
          → IsOwed x.sig.now x.code.now.instrs (read_of x.table.now (take l.frames fs) v m)
          → StandsBehind x (take l.frames fs) v ls m
      kept-standing h owed = record {
        setting = S.setting;
        frames = front-frames;
        trail = h;
        levels = kept-levels;
        last = kept-last;
        places = (let e = front-length in let f : m.frames ≡ l.frames = one.frames in omega arith);
        marks = subst (λ k. length_at k ≤ length v.stack) (sym one.mark)
            (cut-within (length_at l.mark) u v S.marks same);
        chained = kept-chained;
        owed = owed;
        ended = marked-same x fs (take l.frames fs) u v ls kept-reads S.ended;
      }

  -- a trail that lies over what the trail was before the token
  pub lies-back : (cost : ℕ) (v : Trail) → LiesOver x.table.now cost (trail_before u l) v
      → cut (length_at l.mark) v ≡ trail_before u l
  lies-back cost v h =
      ap (λ n. cut n v) (sym (length-take-le (length_at l.mark) u.stack S.marks)) ∙ h.cut

  -- a step is taken
  pub taken : (i : Instr) → instr_at x.code.now.instrs l.instr ≡ Some i → (v : Trail) (m : Level) → AreOfOneToken l m
      → LiesOver x.table.now (step_cost i.token (opens x.table.now (take l.frames fs) l.place) (m.next - 1))
      (trail_before u l) v
      → IsStepTaken x.sig.now i.token (read_of x.table.now (take l.frames fs) u l)
      (read_of x.table.now (take l.frames fs) v m) (numbered_subst x.table.now v.stack)
      → ((f : Open) (gs : List Open) → opens x.table.now (take l.frames fs) l.place ≡ f ∷ gs
      → IsWayValid i.token f (m.next - 1))
      → HasSearch x.table.now i.token (opens x.table.now (take l.frames fs) l.place) (trail_before u l) (search_of m)
      → IsAtWay m.next (search_of m)
      → IsTakenBehind x (take l.frames fs) v ls (read_of x.table.now (take l.frames fs) u l) m i
  taken i held v m one h step valid search way =
      let same = lies-back (step_cost i.token (opens x.table.now (take l.frames fs) l.place) (m.next - 1)) v h in
      let state : state_of x.table.now (take l.frames fs) l.place (trail_before u l)
      ≡ state_of x.table.now (take l.frames fs) m.place (trail_before v m) =
      ap (state_of x.table.now (take l.frames fs) l.place) (sym same)
      ∙ ap (λ o. state_of x.table.now (take l.frames fs) o (cut (length_at l.mark) v)) (sym one.place)
      ∙ ap (λ k. state_of x.table.now (take l.frames fs) m.place (cut (length_at k) v)) (sym one.mark) in
      let own = owed-taken x.sig.now x.code.now.instrs S.setting.walkable.before i
      (read_of x.table.now (take l.frames fs) u l) (read_of x.table.now (take l.frames fs) v m)
      (numbered_subst x.table.now v.stack) front-owed held one.instr (sym state) step in
      record {
        standing = kept-standing v same m one (λ j e. subst (λ k. HasSearch x.table.now k.token
            (opens x.table.now (take l.frames fs) l.place) (trail_before u l) (search_of m))
            (some-same i j (sym held ∙ e)) search) way h.trail own.1;
        instr = ap (instr_at x.code.now.instrs) one.instr ∙ held;
        same = sym one.instr;
        state = state;
        step = step;
        owned = own.0;
        valid = λ f gs e. valid f gs (ap (opens x.table.now (take l.frames fs)) (sym one.place) ∙ e);
        lies = subst (λ o. LiesOver x.table.now
            (step_cost i.token (opens x.table.now (take l.frames fs) o) (m.next - 1)) (trail_before v m) v)
            (sym one.place)
            (subst (λ w. LiesOver x.table.now
            (step_cost i.token (opens x.table.now (take l.frames fs) l.place) (m.next - 1)) w v)
            (sym same ∙ ap (λ k. cut (length_at k) v) (sym one.mark)) h);
        places = front-length ∙ sym one.frames;
      }

  -- none is left
  pub left : (i : Instr) → instr_at x.code.now.instrs l.instr ≡ Some i → (m : Level) → AreOfOneToken l m
      → IsTrailOf x.table.now (trail_before u l)
      → steps_left x.sig.now i.token (read_of x.table.now (take l.frames fs) (trail_before u l) m) ≡ []
      → HasSearch x.table.now i.token (opens x.table.now (take l.frames fs) l.place) (trail_before u l) (search_of m)
      → IsAtWay m.next (search_of m)
      → IsLeftBehind x (take l.frames fs) (trail_before u l) ls m i
  left i held m one h none search way =
      let long : length (trail_before u l).stack ≡ length_at l.mark =
      length-take-le (length_at l.mark) u.stack S.marks in
      let same : trail_before (trail_before u l) l ≡ trail_before u l =
      cut-cut (length_at l.mark) (length_at l.mark) u (omega arith) S.marks in
      record {
        standing = kept-standing (trail_before u l) same m one (λ j e. subst (λ k. HasSearch x.table.now k.token
            (opens x.table.now (take l.frames fs) l.place) (trail_before u l) (search_of m))
            (some-same i j (sym held ∙ e)) search) way h
            (owed-none x.sig.now x.code.now.instrs S.setting.walkable.before i
            (read_of x.table.now (take l.frames fs) (trail_before u l) m)
            (ap (instr_at x.code.now.instrs) one.instr ∙ held) none);
        instr = ap (instr_at x.code.now.instrs) one.instr ∙ held;
        none = none;
        places = front-length ∙ sym one.frames;
        marks = long ∙ ap length_at (sym one.mark);
      }

-- what is still to come of a token, and of the levels before it
abbrev pub behind_to_come : Setting → List Frame → Trail → List Level → Read → List (ℕ × Table)
behind_to_come x fs u ls r =
    read_to_come x.sig.now x.code.now.instrs (table_read x.code.now.instrs (map (read_of x.table.now fs u) ls)) r
    ++ reads_to_come x.sig.now x.code.now.instrs [] (map (read_of x.table.now fs u) ls)

module _ (x : Setting) (fs : List Frame) (u : Trail) (ls : List Level) (l : Level) (S : StandsBehind x fs u ls l)
    (v : Trail) (same : cut (length_at l.mark) v ≡ trail_before u l) where
  -- it stays as it is
  pub kept-to_come : (r : Read) → behind_to_come x (take l.frames fs) v ls r ≡ behind_to_come x fs u ls r
  kept-to_come r = ap (λ rs. read_to_come x.sig.now x.code.now.instrs (table_read x.code.now.instrs rs) r
      ++ reads_to_come x.sig.now x.code.now.instrs [] rs) (kept-reads x fs u ls l S v same)

  pub kept-read : read_of x.table.now (take l.frames fs) v l ≡ read_of x.table.now fs u l
  kept-read = read-kept x fs (take l.frames fs) u v l.frames (length_at l.mark)
      (front-opens x fs u ls l S) (kept x fs u ls l S v same) l (omega arith) (omega arith) S.last.place

  -- the state before the token
  state-kept : (m : Level) → AreOfOneToken l m → state_of x.table.now (take l.frames fs) m.place (trail_before v m)
      ≡ state_of x.table.now (take l.frames fs) l.place (trail_before u l)
  state-kept m one =
      ap (λ o. state_of x.table.now (take l.frames fs) o (cut (length_at m.mark) v)) one.place
      ∙ ap (λ k. state_of x.table.now (take l.frames fs) l.place (cut (length_at k) v)) one.mark
      ∙ ap (state_of x.table.now (take l.frames fs) l.place) same

  -- where nothing is left of the token, then and now, the same is to come
  pub none-to_come : (i : Instr) → instr_at x.code.now.instrs l.instr ≡ Some i → (m : Level) → AreOfOneToken l m
      → steps_left x.sig.now i.token (read_of x.table.now (take l.frames fs) u l) ≡ []
      → steps_left x.sig.now i.token (read_of x.table.now (take l.frames fs) v m) ≡ []
      → behind_to_come x fs u ls (read_of x.table.now (take l.frames fs) v m)
      ≡ behind_to_come x fs u ls (read_of x.table.now (take l.frames fs) u l)
  none-to_come i held m one none none' =
      let before = table_read x.code.now.instrs (map (read_of x.table.now fs u) ls) in
      ap (λ is. is ++ reads_to_come x.sig.now x.code.now.instrs [] (map (read_of x.table.now fs u) ls))
      (over-to_come x.sig.now x.code.now.instrs before (read_of x.table.now (take l.frames fs) v m) i
      (ap (instr_at x.code.now.instrs) one.instr ∙ held) none'
      ∙ ap (λ s. walk_from x.sig.now x.code.now.instrs i.over s before) (state-kept m one)
      ∙ sym (over-to_come x.sig.now x.code.now.instrs before (read_of x.table.now (take l.frames fs) u l) i held none))

  -- and as much is to be read
  pub none-visits : (i : Instr) → instr_at x.code.now.instrs l.instr ≡ Some i → (m : Level) → AreOfOneToken l m
      → steps_left x.sig.now i.token (read_of x.table.now (take l.frames fs) u l) ≡ []
      → steps_left x.sig.now i.token (read_of x.table.now (take l.frames fs) v m) ≡ []
      → read_visits x.sig.now x.code.now.instrs (read_of x.table.now (take l.frames fs) v m)
      ≡ read_visits x.sig.now x.code.now.instrs (read_of x.table.now (take l.frames fs) u l)
  none-visits i held m one none none' =
      over-visits x.sig.now x.code.now.instrs (read_of x.table.now (take l.frames fs) v m) i
      (ap (instr_at x.code.now.instrs) one.instr ∙ held) none'
      ∙ ap (λ s. 1 + visits_from x.sig.now x.code.now.instrs i.over s) (state-kept m one)
      ∙ sym (over-visits x.sig.now x.code.now.instrs (read_of x.table.now (take l.frames fs) u l) i held none)
