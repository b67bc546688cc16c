use Rattle.std.proofs.Common.{◌≡◌, ◌∙◌, ◌++◌, ◌∷◌, [], ap, sym, subst, false}
use Rattle.std.specs.Prelude.{bytes_eq}
use Rattle.std.specs.List.{list_any}
use Rattle.mp_term.proofs.SignatureLaws.{map-insert_key}
use Rattle.mp_term.proofs.name_table.NameTable.push.Goals as goal

pub returns-clause-ok : goal.returns-clause-ok
returns-clause-ok c =
    let n = c.args.name.now in
    let copied : c.extend_from_slice.new.self.items ≡ n = c.in_ok-extend_from_slice.ensures.items
    ∙ ap (λ l. l ++ n) c.new-copy.ensures.items in
    let absent = subst (λ ns. list_any (bytes_eq n) ns ≡ false) (sym c.self.view_is) c.requires in
    map-insert_key (λ k. k.items) c.self.inside.names.keys c.insert.new.self.keys c.extend_from_slice.new.self n copied
    absent c.in_ok-insert.ensures.keys ∙ ap (λ ns. ns ++ n ∷ []) c.self.view_is
