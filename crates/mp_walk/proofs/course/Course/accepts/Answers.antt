use Rattle.std.proofs.Common.{◌≡◌, ℕ, Bool, true, false, length, ◌&&◌, nat_lt, ap, sym, ◌∙◌, subst, arith}
use Rattle.std.specs.Prelude.{Some, is_none, slice_get}
use Rattle.std.proofs.lemmas.Bool.Decides.{nat_tests}
use Rattle.mp_theory.specs.Frames.{is_done}
use Rattle.mp_walk.specs.CourseView.{IsCourse}
use Rattle.mp_walk.specs.declared.course.Course.{Course}
use Rattle.mp_walk.specs.declared.frame.Frame.{Frame}
use Rattle.mp_walk.specs.OpenOnes.{IsPlaceBelow, open_of}
use Rattle.mp_walk.specs.Levels.{state_of}
use Rattle.mp_walk.specs.TokenMachine.{token_ends}
use Rattle.mp_walk.proofs.OpeningLaws.{index-at, outer-below}
use Rattle.mp_walk.proofs.DownLaws.{ends-at, none-told, put-leaf}
use Rattle.mp_walk.proofs.course.Course.accepts.Goals as goal

pub is_done-requires : goal.is_done-requires
is_done-requires c =
    (c.requires.frames c.in-Some.place c.index-frame.result.now
    (index-at c.args.self.now.frames.items c.in-Some.place c.index-frame.result.now
    (subst (IsPlaceBelow (length c.args.self.now.frames.items)) c.in-Some.is
    c.requires.place) c.index-frame.ensures)).frame

-- whether only the root is open, and done
ends : (self : Course) → IsCourse self → (i : ℕ) (f : Frame) → self.place ≡ Some i
    → slice_get self.frames.items i ≡ Some f
    → token_ends (state_of self.set.table.now self.frames.items self.place self.trail)
    ≡ (is_none f.outer && is_done (open_of self.set.table.now f).left f.owes)
ends self C i f e at =
    let sig = self.set.sig.now in
    let t = self.set.table.now in
    let fs = self.frames.items in
    ap (λ o. token_ends (state_of t fs o self.trail)) e
    ∙ ends-at sig t fs C.frames i f at (outer-below sig t fs C.frames i f at) self.trail

-- a test of two parts of which the first one holds
some-and : (m : ℕ) (b : Bool) → (m ≡ 0 → ⊥) → b ≡ (nat_lt 0 m && b)
some-and m b h = ap (λ t. t && b) (sym some)
  where
    some : nat_lt 0 m ≡ true
    some = grind (arith, nat_tests, h)

pub returns-then-len-eq0 : goal.returns-then-len-eq0
returns-then-len-eq0 c = λ n before.
    let self = c.args.self.now in
    let s = state_of self.set.table.now self.frames.items self.place self.trail in
    put-leaf self.set.sig.now n c.args.instr.now.accepts s before false
    (ap (λ m. nat_lt 0 m && token_ends s) (sym c.if-len-eq0.true ∙ c.len.ensures))

pub returns-then-is_none : goal.returns-then-is_none
returns-then-is_none c = λ n before.
    let self = c.args.self.now in
    let f = c.index-frame.result.now in
    let at = index-at self.frames.items c.in-Some.place f
    (subst (IsPlaceBelow (length self.frames.items)) c.in-Some.is c.requires.place) c.index-frame.ensures in
    let s = state_of self.set.table.now self.frames.items self.place self.trail in
    let done = is_done (open_of self.set.table.now f).left f.owes in
    put-leaf self.set.sig.now n c.args.instr.now.accepts s before c.is_done.result
    (c.is_done.ensures ∙ ap (λ b. b && done) (sym c.if-is_none.true
    ∙ none-told f.outer c.is_none.result c.is_none.ensures)
    ∙ sym (ends self c.requires c.in-Some.place f c.in-Some.is at)
    ∙ some-and (length c.args.instr.now.accepts) (token_ends s) (λ z. c.if-len-eq0.false (c.len.ensures ∙ z)))

pub returns-else-is_none : goal.returns-else-is_none
returns-else-is_none c = λ n before.
    let self = c.args.self.now in
    let f = c.index-frame.result.now in
    let at = index-at self.frames.items c.in-Some.place f
    (subst (IsPlaceBelow (length self.frames.items)) c.in-Some.is c.requires.place) c.index-frame.ensures in
    let s = state_of self.set.table.now self.frames.items self.place self.trail in
    let done = is_done (open_of self.set.table.now f).left f.owes in
    put-leaf self.set.sig.now n c.args.instr.now.accepts s before c.is_none.result
    (c.if-is_none.false
    ∙ ap (λ b. b && done) (sym c.if-is_none.false ∙ none-told f.outer c.is_none.result c.is_none.ensures)
    ∙ sym (ends self c.requires c.in-Some.place f c.in-Some.is at)
    ∙ some-and (length c.args.instr.now.accepts) (token_ends s) (λ z. c.if-len-eq0.false (c.len.ensures ∙ z)))
