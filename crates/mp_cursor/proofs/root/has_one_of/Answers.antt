use Rattle.std.proofs.Common.{◌≡◌, ◌∙◌, sym, rules}
use Rattle.std.specs.Prelude.{reverse}
use Rattle.std.specs.List.{list_any}
use Rattle.std.proofs.lemmas.Iterator.Search.{any_from_yields_List}
use Rattle.std.proofs.lemmas.Iterator.Adapters.{YieldsList-from_rev_slice}
use Rattle.std.proofs.lemmas.List.Sorted.{IsPermutation-reverse, list_any-IsPermutation}
use Rattle.mp_term.specs.NormalTest.{has_head}
use Rattle.mp_term.specs.View.{tree}
use Rattle.mp_cursor.proofs.root.has_one_of.Goals as goal

pub returns : goal.returns
returns c =
    let e : c.any.result ≡ list_any (λ t. has_head c.args.op.0 (tree t)) (reverse c.args.args.now) =
    any_from_yields_List (λ t. has_head c.args.op.0 (tree t)) _ _ c.any.result c.any.ensures.ran
    (YieldsList-from_rev_slice c.args.args.now (search rules)) (λ x b q k. search rules) in
    e ∙ sym (list_any-IsPermutation (λ t. has_head c.args.op.0 (tree t)) c.args.args.now (reverse c.args.args.now)
    (IsPermutation-reverse c.args.args.now))
