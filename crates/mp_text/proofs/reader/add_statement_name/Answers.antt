use Rattle.std.proofs.Common.{◌≡◌, Bool, List, ℕ, sym, ap, ◌∙◌}
use Rattle.std.specs.Prelude.{not, bytes_eq}
use Rattle.std.specs.List.{list_any}
use Rattle.std.proofs.Math.Bool.{not-not}
use Rattle.std.proofs.lemmas.Result.{err_from_is_err_and}
use Rattle.mp_build.specs.Names.{is_among}
use Rattle.mp_build.proofs.Declared.{is_among-list_any}
use Rattle.mp_text.proofs.reader.add_statement_name.Goals as goal

-- a name that isn't new is one of the names
held : (is_new : Bool) (name : List ℕ) (names : List (List ℕ)) → is_new ≡ not (list_any (bytes_eq name) names)
    → not is_new ≡ is_among name names
held is_new name names e = ap not e ∙ not-not _ ∙ is_among-list_any name names

pub returns-in_err-check_name : goal.returns-in_err-check_name
returns-in_err-check_name c =
    let p = err_from_is_err_and c.from_residual-in_err-check_name.result
    c.from_residual-in_err-check_name.ensures.1 in
    let names = c.args.names.now in
    rw (p.1, p.2)
    (c.in_err-check_name.ensures.first names
    (held c.in_ok-is_new.is_new c.args.name.text.now names c.in_ok-is_new.ensures.new) c.len-count.ensures)

pub returns : goal.returns
returns c =
    let names = c.args.names.now in
    let none = c.in_ok-check_name.ensures.first names
    (held c.in_ok-is_new.is_new c.args.name.text.now names c.in_ok-is_new.ensures.new) c.len-count.ensures in
    (none.0, c.in_ok-is_new.ensures.names (sym (not-not _) ∙ ap not c.in_ok-check_name.ensures.new))
