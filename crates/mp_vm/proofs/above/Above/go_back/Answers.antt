use Rattle.std.proofs.Common.{map, sym, ap, refl, ◌∙◌}
use Rattle.std.proofs.lemmas.List.{take-map}
use Rattle.std.proofs.lemmas.Result.{on_ok_weaker}
use Rattle.mp_vm.specs.Looks.{look_wildcard}
use Rattle.mp_vm.proofs.above.Above.go_back.Goals as goal

pub returns : goal.returns
returns c = on_ok_weaker c.unnest.result
    (λ opens. record {
      nodes = refl;
      looks = ap (map look_wildcard) c.truncate.ensures.items
          ∙ sym (take-map look_wildcard c.args.before.now.looks c.args.self.now.looks.items);
      first = refl;
      opens = opens;
    })
    c.unnest.ensures
