use Rattle.std.proofs.Common.{◌≡◌, true, false, sym, ap, ◌∙◌}
use Rattle.std.specs.Prelude.{not, bytes_eq, is_some}
use Rattle.std.specs.List.{list_any}
use Rattle.mp_term.proofs.SignatureLaws.{is_some-position}
use Rattle.mp_vm.proofs.rules.add_new.Goals as goal

pub returns-then-is_some-clause-new : goal.returns-then-is_some-clause-new
returns-then-is_some-clause-new c =
    let some : is_some c.index_of.result ≡ true = sym c.is_some.ensures ∙ c.if-is_some.true in
    let known : list_any (bytes_eq c.args.text.now) c.args.texts.now ≡ true =
    sym (is_some-position (bytes_eq c.args.text.now) c.args.texts.now) ∙ ap is_some (sym c.index_of.ensures.index)
    ∙ some in
    sym (ap not known)

pub push-requires : goal.push-requires
push-requires c =
    let none : is_some c.index_of.result ≡ false = sym c.is_some.ensures ∙ c.if-is_some.false in
    sym (is_some-position (bytes_eq c.args.text.now) c.args.texts.now) ∙ ap is_some (sym c.index_of.ensures.index)
    ∙ none

pub returns-clause-new : goal.returns-clause-new
returns-clause-new c =
    let none : is_some c.index_of.result ≡ false = sym c.is_some.ensures ∙ c.if-is_some.false in
    let new : list_any (bytes_eq c.args.text.now) c.args.texts.now ≡ false =
    sym (is_some-position (bytes_eq c.args.text.now) c.args.texts.now) ∙ ap is_some (sym c.index_of.ensures.index)
    ∙ none in
    sym (ap not new)
