use Rattle.std.proofs.Common.{◌≡◌, ◌-◌, ◌∷◌, map, take, drop, length, ◌∙◌, sym, subst, ap, length-drop}
use Rattle.std.specs.Prelude.{IfOk}
use Rattle.std.proofs.Math.Seq.{take-length}
use Rattle.mp_term.proofs.ListLaws.{drop-item}
use Rattle.mp_pattern.specs.Fits.{Table}
use Rattle.mp_pattern.specs.EntryView.{table_entry}
use Rattle.mp_theory.specs.Frames.{Next, settle}
use Rattle.mp_one.specs.Stack.{stack_frames, child_of, entry_of}
use Rattle.mp_one.specs.Trail.{trail_of, outcome}
use Rattle.mp_one.specs.Check.{goes_on}
use Rattle.mp_one.proofs.CheckLaws.{goes_on-clash}
use Rattle.mp_one.proofs.check.+check.Goals as goal

pub goes_on-returns-in_ok-entry-in-Child : goal.goes_on-returns-in_ok-entry-in-Child
goes_on-returns-in_ok-entry-in-Child t c =
    let sig = c.args.sig.now in
    let es = c.args.entries.now in
    let s = trail_of c.args.trail.now in
    let at : Next → Table → Type 0 = λ n T. IfOk c.goes_on_with.result (λ b. b ≡ goes_on sig n s T) in
    let later = take (length es - 1) (drop 1 es) in
    let whole : later ≡ drop 1 es = ap (λ n. take n (drop 1 es)) (sym (length-drop 1 es)) ∙ take-length (drop 1 es) in
    let table : entry_of c.in_ok-entry-in-Child.entry ∷ map table_entry later ≡ map table_entry es =
    ap (λ e. e ∷ map table_entry later) c.in_ok-entry-in-Child.ensures
    ∙ ap (λ ds. map table_entry (c.entry-item.result ∷ ds)) whole
    ∙ ap (map table_entry) (sym (drop-item es 0 c.entry-item.result c.in-len1-up.len_at_least c.entry-item.is)) in
    subst (at (settle (stack_frames c.args.stack.now))) table
    (subst (λ n. at n (entry_of c.in_ok-entry-in-Child.entry ∷ map table_entry later))
    (sym c.in-Child.ensures) c.goes_on_with.ensures)

pub goes_on_with-returns-in-Clash : goal.goes_on_with-returns-in-Clash
goes_on_with-returns-in-Clash t c =
    let s = trail_of c.args.trail.now in
    goes_on-clash c.args.sig.now (child_of c.args.place.now) (entry_of c.args.entry.now)
    (map table_entry c.args.later.now) s (sym c.in_ok-extend.ensures ∙ ap (outcome s) c.in-Clash.is)
