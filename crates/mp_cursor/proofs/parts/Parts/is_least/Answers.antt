use Rattle.std.proofs.Common.{◌∙◌, length, ap, sym, subst, rules}
use Rattle.std.specs.List.{AllByRecursion}
use Rattle.std.proofs.lemmas.List.{with_items_is, places}
use Rattle.mp_term.specs.Size.{node_count}
use Rattle.mp_search.specs.Levels.{AreLevels}
use Rattle.mp_cursor.specs.Kept.{HasRoom}
use Rattle.mp_table.specs.Table.{subject_of}
use Rattle.mp_cursor.proofs.parts.Parts.is_least.Goals as goal

pub returns-clause-over : goal.returns-clause-over
returns-clause-over c =
    let t = c.args.matched.table.now in
    let o = c.requires.over in
    let lv = with_items_is c.args.self.now.levels c.has_least.new.levels (search (rules, places)) in
    let kv = with_items_is c.args.self.now.kept c.has_least.new.kept (search (rules, places)) in
    record {
      width = o.width;
      roomy = record {
        levels = ap length lv ∙ c.has_least.ensures.count ∙ ap length c.deref_mut-2.ensures.value ∙ o.roomy.levels;
        kept = ap length kv ∙ c.has_least.ensures.kept ∙ ap length c.deref_mut.ensures.value ∙ o.roomy.kept;
        kept_roomy = subst (AllByRecursion (HasRoom o.width)) (sym kv) (c.has_least.ensures.roomy o.width
            (subst (AllByRecursion (HasRoom o.width)) (sym c.deref_mut.ensures.value) o.roomy.kept_roomy));
        trail = o.roomy.trail;
        second = c.has_least.ensures.room ∙ ap (λ t. t.room) c.refill.ensures ∙ o.roomy.trail;
        numbered = o.roomy.numbered;
        start = o.roomy.start;
        grounds = o.roomy.grounds;
      };
      wide = o.wide;
      levels = subst (AreLevels t (node_count (subject_of t))) (sym lv) c.has_least.ensures.levels;
      trail = o.trail;
      whole = o.whole;
      spare = o.spare;
      grounds = o.grounds;
    }
