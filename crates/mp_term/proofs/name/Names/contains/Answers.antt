use Rattle.std.proofs.Common.{◌∙◌, ap, rules}
use Rattle.std.specs.Prelude.{bytes_eq}
use Rattle.std.specs.List.{list_any}
use Rattle.std.specs.Ordering.{nat_cmp}
use Rattle.std.specs.Cmp.Lexicographic.{slice_cmp}
use Rattle.std.proofs.lemmas.Fn.{always_returns_same}
use Rattle.mp_term.specs.Names.{names_ascend}
use Rattle.mp_term.proofs.Searching.{searched}
use Rattle.mp_term.proofs.name.Names.contains.Goals as goal

pub returns : goal.returns
returns c =
    let n = c.args.bytes.now in
    let facts = c.binary_search_by-found.ensures in
    let place = facts.position (λ m. slice_cmp nat_cmp m n)
    (always_returns_same _ _ _ (λ a r g called. (search rules, search rules))) in
    let same = c.deref.ensures.value ∙ c.self.view_is in
    let found = searched c.deref.result.now n _ (ap names_ascend same ∙ c.requires) facts.bound place in
    c.is_ok.ensures.value ∙ found ∙ ap (list_any (bytes_eq n)) same
