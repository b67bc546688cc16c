use Rattle.std.proofs.Common.{ℕ, List, [], sym, ap}
use Rattle.mp_parser.specs.Machine.{Top, run}
use Rattle.mp_text.specs.File.{file_tree}
use Rattle.mp_text.specs.InOrder.{HasRead}
use Rattle.mp_text.specs.Reading.{IsFileOf}
use Rattle.mp_text.proofs.ReadPatternLaws.{if_some-map}
use Rattle.mp_text.proofs.in_order.build_in_order.Goals as goal

pub build_statements-requires : goal.build_statements-requires
build_statements-requires c = (c.args.bytes.now, ap (run [] Top) (sym c.new-parser.ensures))

pub returns : goal.returns
returns c = if_some-map c.build_statements.result
    (λ f. (bytes : List ℕ) → HasRead bytes [] c.new-parser.result → IsFileOf bytes (file_tree f))
    (λ f. IsFileOf c.args.bytes.now (file_tree f))
    (λ f built. built c.args.bytes.now (ap (run [] Top) (sym c.new-parser.ensures))) c.build_statements.ensures
