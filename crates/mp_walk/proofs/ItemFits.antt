-- The substitution with which the table of the item at hand fits.
use Rattle.std.proofs.Common.{◌≡◌, ◌≤◌, ℕ, List, [], ◌∷◌, map, length, true, false, refl, ap, sym, ◌∙◌, subst}
use Rattle.mp_term.specs.Listing.{In}
use Rattle.mp_pattern.specs.declared.limits.TheConstants.{MAX_VARIABLES}
use Rattle.mp_pattern.specs.Fits.{Fits}
use Rattle.mp_pattern.specs.NetTokens.{tokens_of}
use Rattle.mp_pattern.specs.PatternTree.{Pattern}
use Rattle.mp_pattern.specs.Plan.{Variable}
use Rattle.mp_pattern.specs.Variables.{variables}
use Rattle.mp_table.specs.Table.{Table, subject_of}
use Rattle.mp_subst.specs.Trail.{Trail, subst_in}
use Rattle.mp_search.proofs.TableLaws.{subject-normal}
use Rattle.mp_walk.specs.declared.course.Course.{Course}
use Rattle.mp_walk.specs.declared.frame.Frame.{Frame}
use Rattle.mp_walk.specs.declared.level.Level.{Level}
use Rattle.mp_walk.specs.CodeForest.{code_forest}
use Rattle.mp_walk.specs.Course.{table_read}
use Rattle.mp_walk.specs.CourseView.{IsAtItem, AreChained, LeadsTo, course_of, item_of, last_instr}
use Rattle.mp_walk.specs.Forests.{lists}
use Rattle.mp_walk.specs.Levels.{read_of}
use Rattle.mp_walk.specs.TokenMachine.{token_ends}
use Rattle.mp_walk.specs.Walkable.{Path}
use Rattle.mp_walk.proofs.ChainFits.{chain-fits, last_read}

-- the last token that is read is that of the last level
last-level : (t : Table) (fs : List Frame) (u : Trail) (l : Level) (ls : List Level)
    → last_read (read_of t fs u l) (map (read_of t fs u) ls) ≡ last_instr (l ∷ ls)
last-level t fs u l [] = refl
last-level t fs u l (m ∷ ls) = last-level t fs u m ls

-- the table of the item fits a pattern, whose tokens lead to it, with the values that the trail has of its variables
pub item-fits_names : (c : Course) (h : IsAtItem c) (q : Pattern) → length (variables q) ≤ MAX_VARIABLES
    → (xs : List Variable) → map (λ (x : Variable). x.name) xs ≡ variables q
    → In {X = ℕ × Path} ((item_of c).0, tokens_of c.set.sig.now q) (lists (code_forest c.set.code.now.instrs))
    → Fits c.set.sig.now q (subject_of c.set.table.now) (subst_in c.set.table.now xs c.trail) (item_of c).1
item-fits_names c h q few xs names leaf = by_levels c.levels.items h.0.chained leaf
  where
    by_levels : (ls : List Level)
        → AreChained c.set h.0.setting.walkable.before c.frames.items c.trail ls
        (LeadsTo h.0.setting.walkable.before c.target) (course_of c).present
        → In {X = ℕ × Path} (last_instr ls, tokens_of c.set.sig.now q) (lists (code_forest c.set.code.now.instrs))
        → Fits c.set.sig.now q (subject_of c.set.table.now) (subst_in c.set.table.now xs c.trail)
        (table_read c.set.code.now.instrs (map (read_of c.set.table.now c.frames.items c.trail) ls))
    by_levels [] a i =
        let wrong : false ≡ true = ap (λ os. token_ends (record { open_ones = os; trail = [] })) a.0.open_ones ∙ h.1 in
        cc
    by_levels (l ∷ ls) a i =
        let x = c.set in
        let read = read_of x.table.now c.frames.items c.trail in
        chain-fits x.sig.now x.code.now.instrs h.0.setting.walkable (LeadsTo h.0.setting.walkable.before c.target)
        (subject_of x.table.now)
        (subject-normal x.sig.now x.table.now h.0.setting.table h.0.setting.normal) (read l) (map read ls)
        (course_of c).present a h.1 q few
        (subst (λ n. In {X = ℕ × Path} (n, tokens_of x.sig.now q) (lists (code_forest x.code.now.instrs)))
        (sym (last-level x.table.now c.frames.items c.trail l ls)) i) x.table.now c.trail xs refl names
