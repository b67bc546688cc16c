use Rattle.std.proofs.Common.{◌≡◌, ◌+◌, [], ◌∷◌, length, refl, sym, ap, ◌∙◌, subst, arith}
use Rattle.std.specs.Prelude.{Some, None, option_map, MatchBool}
use Rattle.mp_pattern.specs.declared.entry.Form.TheVariants.{One}
use Rattle.mp_subst.specs.Bound.{bound_from, value_in}
use Rattle.mp_subst.specs.Outcome.{IsPut, IsClash}
use Rattle.mp_subst.proofs.OutcomeLaws.{held_rank, held, not_held}
use Rattle.mp_subst.proofs.BindingLaws.{is_binding}
use Rattle.mp_subst.proofs.trail.Trail.bind_held.Goals as goal

pub returns-in-Some : goal.returns-in-Some
returns-in-Some c =
    let table = c.args.table.now in
    let old = c.args.self.now in
    let rs = c.args.ranks.now in
    let r = c.in-Some.rank in
    let is : held_rank table c.args.wrap rs ≡ Some r.0 =
    sym c.held.ensures ∙ ap (option_map (λ s. s.0)) c.in-Some.is in
    let there = held table c.args.form c.args.wrap rs r c.requires.formed is in
    let b = bound_from One None (r ∷ []) in
    let answer : MatchBool c.bind_value.result (IsPut old c.bind_value.new.self c.args.var b)
    (IsClash old c.bind_value.new.self c.args.var b) =
    subst (λ xs. MatchBool c.bind_value.result
    (IsPut old c.bind_value.new.self c.args.var (bound_from One None xs))
    (IsClash old c.bind_value.new.self c.args.var (bound_from One None xs))) c.from_ref.ensures.value
    c.bind_value.ensures in
    is_binding table old c.bind_value.new.self c.args.var b (value_in table (bound_from c.args.form c.args.wrap rs))
    (length rs + 2)
    (record {
      table = c.len.ensures.valid;
      values = c.requires.goes_with.values;
      new = record { ranks = (there.0, tt); formed = refl; wrap = tt };
    }) there.1 c.requires.goes_with (omega arith) c.requires.var c.bind_value.result answer

pub returns-in-None : goal.returns-in-None
returns-in-None c =
    let table = c.args.table.now in
    let rs = c.args.ranks.now in
    let none : held_rank table c.args.wrap rs ≡ None =
    sym c.held.ensures ∙ ap (option_map (λ s. s.0)) c.in-None.is in
    let b = bound_from c.args.form c.args.wrap rs in
    is_binding table c.args.self.now c.bind_value-in-None.new.self c.args.var b (value_in table b) (length rs + 2)
    (record {
      table = c.len.ensures.valid;
      values = c.requires.goes_with.values;
      new = record { ranks = c.requires.ranks; formed = c.requires.formed; wrap = not_held table c.args.wrap rs none };
    }) refl c.requires.goes_with (omega arith) c.requires.var c.bind_value-in-None.result c.bind_value-in-None.ensures
