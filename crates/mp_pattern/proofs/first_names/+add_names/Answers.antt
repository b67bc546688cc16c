use Rattle.std.proofs.Common.{◌≡◌, ◌<◌, ◌-◌, ◌∙◌, ◌∷◌, drop, take, length, length-drop, map, ap, sym, arith}
use Rattle.std.proofs.lemmas.List.{take_all}
use Rattle.mp_term.proofs.ListLaws.{drop-item}
use Rattle.mp_pattern.specs.Firsts.{firsts_after}
use Rattle.mp_pattern.specs.PatternTree.{patterns as patterns_of}
use Rattle.mp_pattern.specs.Value.{same_name}
use Rattle.mp_pattern.specs.View.{pattern_tree}
use Rattle.mp_pattern.proofs.PlanLaws.{firsts_after-append}
use Rattle.mp_pattern.specs.UsedNames.{all_used_names, used_names}
use Rattle.mp_pattern.proofs.first_names.+add_names.Goals as goal

pub add_all_names-returns-in_ok-add_all_names-in-len1-up : goal.add_all_names-returns-in_ok-add_all_names-in-len1-up
add_all_names-returns-in_ok-add_all_names-in-len1-up t c =
    let ps = c.args.patterns.now in
    let before = c.args.names.now in
    let first = c.first-item.result in
    let some : 0 < length ps = omega (arith, c.in-len1-up.len_at_least) in
    let split : ps ≡ first ∷ drop 1 ps = drop-item ps 0 first some c.first-item.is in
    let whole : take (length ps - 1) (drop 1 ps) ≡ drop 1 ps =
    take_all (length ps - 1) (drop 1 ps) (omega (arith, length-drop 1 ps)) in
    let rest = all_used_names (patterns_of (map pattern_tree (drop 1 ps))) in
    c.in_ok-add_all_names-in-len1-up.ensures
    ∙ ap (λ qs. firsts_after same_name c.add_names.new.names (all_used_names (patterns_of (map pattern_tree qs)))) whole
    ∙ ap (λ ns. firsts_after same_name ns rest) c.in_ok-add_names-in-len1-up.ensures
    ∙ sym (firsts_after-append same_name before (used_names (pattern_tree first)) rest)
    ∙ ap (λ qs. firsts_after same_name before (all_used_names (patterns_of (map pattern_tree qs)))) (sym split)
