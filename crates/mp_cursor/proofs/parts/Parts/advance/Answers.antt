use Rattle.std.proofs.Common.{◌<◌, ◌∙◌, [], length, ap, sym, subst}
use Rattle.std.specs.Prelude.{option_map, Some, drop, slice_get}
use Rattle.mp_term.specs.Search.{In}
use Rattle.mp_pattern.specs.CondView.{cond_tree}
use Rattle.mp_search.specs.declared.mode.Mode.TheVariants.{After}
use Rattle.mp_cursor.specs.Matched.{looked_for, sought, all_items}
use Rattle.mp_cursor.specs.Parts.{item_of, levels_table}
use Rattle.mp_cursor.proofs.SoughtLaws.{found-item, sought-found, sought-left, fewer-looked, item-standing}
use Rattle.mp_cursor.proofs.parts.Parts.advance.Goals as goal

pub is_chosen-requires-clause-item : goal.is_chosen-requires-clause-item
is_chosen-requires-clause-item c =
    (found-item c.args.matched (option_map (λ c. cond_tree c.now) c.args.condition) c.loop-self.mode
    (levels_table c.args.matched c.loop-self.self) [] (item_of c.args.matched c.find.new.self)
    c.loop-self-test.ensures.found).0

pub returns-then-is_chosen-clause-found : goal.returns-then-is_chosen-clause-found
returns-then-is_chosen-clause-found c =
    let m = c.args.matched in
    let k = option_map (λ c. cond_tree c.now) c.args.condition in
    let r = sought-found m k c.loop-self.mode (levels_table m c.loop-self.self) (item_of m c.find.new.self)
    c.loop-self.invariant.mode c.loop-self-test.ensures.found (sym c.if-is_chosen.ensures.least) in
    let same = c.loop-self.invariant.same in (
      ap (λ is. slice_get is 0) (sym same) ∙ r.0 ∙ ap Some (sym c.is_chosen.ensures.item),
      ap (drop 1) (sym same) ∙ r.1 ∙ ap (λ i. sought m k After i.0) (sym c.is_chosen.ensures.item),
    )

pub loop-self-smaller : goal.loop-self-smaller
loop-self-smaller c =
    let m = c.args.matched in
    let k = option_map (λ c. cond_tree c.now) c.args.condition in
    subst (λ i. length (looked_for m k After i.0 [])
    < length (looked_for m k c.loop-self.mode (levels_table m c.loop-self.self) [])) (sym c.is_chosen.ensures.item)
    (fewer-looked m k c.loop-self.mode (levels_table m c.loop-self.self) (item_of m c.find.new.self)
    c.loop-self.invariant.mode c.loop-self-test.ensures.found)

pub loop-self-preserved : goal.loop-self-preserved
loop-self-preserved c =
    let m = c.args.matched in
    let k = option_map (λ c. cond_tree c.now) c.args.condition in
    let j = item_of m c.find.new.self in
    record {
      over = c.is_chosen.ensures.over;
      mode = tt;
      standing = item-standing m (item_of m c.is_chosen.new.self) (subst (λ i. In i (all_items m []))
          (sym c.is_chosen.ensures.item)
          (found-item m k c.loop-self.mode (levels_table m c.loop-self.self) [] j c.loop-self-test.ensures.found).0);
      same = ap (λ i. sought m k After i.0) c.is_chosen.ensures.item
          ∙ sought-left m k c.loop-self.mode (levels_table m c.loop-self.self) j c.loop-self.invariant.mode
          c.loop-self-test.ensures.found (sym c.if-is_chosen.ensures.least)
          ∙ c.loop-self.invariant.same;
    }
