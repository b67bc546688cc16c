use Rattle.std.proofs.Common.{◌≡◌, ℕ, ◌+◌, ◌-◌, ◌≤◌, min, List, [], length, take, drop, Some}
use Rattle.std.proofs.Common.{refl, sym, ap, ◌∙◌, subst, arith}
use Rattle.std.specs.Prelude.{slice_get, IsSomeAnd}
use Rattle.std.specs.Option.{option_map_or}
use Rattle.std.proofs.lemmas.List.{length-drop, length-take-le, take_at, take_rest}
use Rattle.std.proofs.lemmas.Option.{slice_get_read}
use Rattle.mp_io.specs.MemoryShelfView.{rest_at}
use Rattle.mp_io.specs.declared.memory_shelf.HeldFile.{HeldFile}
use Rattle.mp_io.specs.declared.memory_shelf.Place.{Place}
use Rattle.mp_io.proofs.memory_shelf.give.Goals as goal

-- what is left at a place in a file with these bytes
rest_at-read : (files : List HeldFile) (place : Place) (file : HeldFile) (bytes : List ℕ)
    → slice_get files place.index ≡ Some file → bytes ≡ file.bytes.items
    → take (length bytes - place.at) (drop place.at bytes) ≡ rest_at files (Some place)
rest_at-read files place file bytes e same = take_rest bytes place.at ∙ ap (drop place.at) same
    ∙ ap (λ o. option_map_or (λ (f : HeldFile). drop place.at f.bytes.items) o []) (sym e)

pub returns-clause-count : goal.returns-clause-count
returns-clause-count c =
    let file = c.in-Some.file.now in
    let e = slice_get_read c.args.files.now (length c.args.files.now) c.args.place.index file refl
    c.in-Some.ensures.lookup.3.0 c.in-Some.ensures.lookup.1 in
    c.min-count.ensures ∙ ap (λ l. min (length l) (length c.args.room.now))
    (rest_at-read c.args.files.now c.args.place file c.deref.result.now e c.deref.ensures.value)

pub returns-clause-bytes : goal.returns-clause-bytes
returns-clause-bytes c =
    let file = c.in-Some.file.now in
    let e = slice_get_read c.args.files.now (length c.args.files.now) c.args.place.index file refl
    c.in-Some.ensures.lookup.3.0 c.in-Some.ensures.lookup.1 in
    let within : c.min-count.result ≤ length c.args.room.now = omega (arith, c.min-count.ensures) in
    take_at c.copy_from_slice.new.self _ c.min-count.result
    (c.copy_from_slice.ensures.len ∙ length-take-le c.min-count.result c.args.room.now within)
    ∙ c.copy_from_slice.ensures.after ∙ ap (take c.min-count.result)
    (rest_at-read c.args.files.now c.args.place file c.deref.result.now e c.deref.ensures.value)

pub returns-clause-after : goal.returns-clause-after
returns-clause-after c =
    let file = c.in-Some.file.now in
    let e = slice_get_read c.args.files.now (length c.args.files.now) c.args.place.index file refl
    c.in-Some.ensures.lookup.3.0 c.in-Some.ensures.lookup.1 in
    let before : c.args.place.at ≤ length file.bytes.items =
    subst (λ o. IsSomeAnd o (λ (f : HeldFile). c.args.place.at ≤ length f.bytes.items)) e c.requires in
    subst (λ o. IsSomeAnd o (λ (f : HeldFile). c.args.place.at + c.min-count.result ≤ length f.bytes.items)) (sym e)
    (omega (
      arith,
      c.min-count.ensures,
      ap length (take_rest c.deref.result.now c.args.place.at),
      length-drop c.args.place.at c.deref.result.now,
      ap length c.deref.ensures.value,
    ))
