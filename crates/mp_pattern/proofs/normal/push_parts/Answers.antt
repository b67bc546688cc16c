use Rattle.std.proofs.Common.{◌≡◌, ◌++◌, ◌∙◌, ap, map, true}
use Rattle.std.proofs.lemmas.List.{map-append}
use Rattle.mp_term.specs.Signature.{is_assoc}
use Rattle.mp_pattern.specs.View.{pattern_tree}
use Rattle.mp_pattern.proofs.NormalLaws.{parts_same}
use Rattle.mp_pattern.proofs.normal.push_parts.Goals as goal

pub returns-in_ok-append-in-App : goal.returns-in_ok-append-in-App
returns-in_ok-append-in-App c =
    let a : is_assoc c.args.sig.now c.args.op.0 ≡ true = cc in
    let all : c.append.new.self.items ≡ c.out.inside.items.items ++ c.args-in-App.inside.items.items =
    c.in_ok-append-in-App.ensures.items in
    record {
      ok = rw (
        c.in-App.is,
        parts_same c.args.sig.now c.args.op.0 c.in-App.inner.0 c.in-App.args
            c.if-inner-op.false a,
        ← c.out.view_is,
        ← c.args-in-App.view_is,
      )
          (ap (map pattern_tree) all ∙ map-append pattern_tree c.out.inside.items.items
          c.args-in-App.inside.items.items);
    }
