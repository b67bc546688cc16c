use Rattle.std.proofs.Common.{◌≡◌, ◌≤◌, ◌∙◌, ◌+◌, drop, length, map, take, ap, subst, sym, arith}
use Rattle.std.specs.Prelude.{IfSome}
use Rattle.mp_term.proofs.ListLaws.{drop-item}
use Rattle.mp_pattern.specs.Firsts.{firsts_after}
use Rattle.mp_pattern.specs.PatternTree.{patterns}
use Rattle.mp_pattern.specs.Subpatterns.{subpatterns, all_subpatterns}
use Rattle.mp_pattern.specs.UsedNames.{all_used_names, used_names}
use Rattle.mp_pattern.specs.Value.{same_name}
use Rattle.mp_pattern.specs.View.{pattern_tree}
use Rattle.mp_search.proofs.GroundLists.{nodes-element}
use Rattle.mp_many.proofs.ReadNameLaws.{read-then}
use Rattle.mp_many.proofs.names.+read_names.Goals as goal

pub read_names-requires : goal.read_names-requires
read_names-requires t c =
    let args = c.as_slice-arg-items.result.now in
    let whole : length (subpatterns (pattern_tree c.args.pattern.now))
    ≡ length (all_subpatterns (patterns (map pattern_tree args))) + 1 =
    rw (c.in-App.is, c.as_slice-arg-items.ensures) (omega arith) in
    let small = nodes-element args c.loop-arg.arg-index c.arg-item.result c.loop-arg-test.true in
    (omega (arith, c.decreases, whole, rw (sym c.arg-item.is) at small), c.loop-arg.invariant.within)

pub loop-arg-preserved : goal.loop-arg-preserved
loop-arg-preserved t c =
    let names = c.args.names.now in
    let args = c.as_slice-arg-items.result.now in
    let i = c.loop-arg.arg-index in
    let read = c.loop-arg.read in
    let next = c.in_ok-read-in-App.read in
    let own = used_names (pattern_tree c.arg-item.result) in
    let rest = all_used_names (patterns (map pattern_tree (drop (i + 1) args))) in
    let known : firsts_after same_name (take read names) own ≡ take next names =
    subst (λ o. IfSome o (λ n. firsts_after same_name (take read names) own ≡ take n names)) c.in_ok-read-in-App.was
    c.read_names.ensures.read in
    record {
      within = subst (λ o. IfSome o (λ n. n ≤ length names)) c.in_ok-read-in-App.was c.read_names.ensures.within;
      read = sym (read-then names read next own rest known)
          ∙ ap (λ ps. firsts_after same_name (take read names) (all_used_names (patterns (map pattern_tree ps))))
          (sym (drop-item args i c.arg-item.result c.loop-arg-test.true c.arg-item.is)) ∙ c.loop-arg.invariant.read;
    }
