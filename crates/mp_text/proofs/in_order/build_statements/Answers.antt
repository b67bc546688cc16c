use Rattle.std.proofs.Common.{◌≡◌, ℕ, List, [], true, Ok, refl, subst}
use Rattle.std.specs.Prelude.{IfOk, IsTrue}
use Rattle.mp_text.specs.File.{file_tree}
use Rattle.mp_text.specs.InOrder.{HasRead, IsDraftRead}
use Rattle.mp_text.specs.Reading.{IsFileOf}
use Rattle.mp_text.proofs.ReadPatternLaws.{if_some-map}
use Rattle.mp_text.proofs.in_order.build_statements.Goals as goal

pub add_others-is_whole-requires : goal.add_others-is_whole-requires
add_others-is_whole-requires c = (c.requires.0, c.in_ok-draft.ensures c.requires.0 c.requires.1)

pub returns : goal.returns
returns c =
    let all = c.add_others-is_whole.result in
    let file = c.add_others-is_whole.new.draft.file in
    if_some-map c.file_where.result (λ f. (all ≡ Ok true) × (f ≡ c.finished.result))
    (λ f. (bytes : List ℕ) → HasRead bytes [] c.args.parser.now → IsFileOf bytes (file_tree f))
    (λ f made bytes begins.
    rw (made.1, c.finished.ensures)
    (subst (λ r. IfOk r (λ b. IsTrue b → (bytes : List ℕ) → IsDraftRead bytes c.declared.new.parser
    c.in_ok-draft.draft → IsFileOf bytes (file_tree file))) made.0 c.add_others-is_whole.ensures refl bytes
    (c.in_ok-draft.ensures bytes begins)))
    c.file_where.ensures
