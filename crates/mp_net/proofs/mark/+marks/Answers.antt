use Rattle.std.proofs.Common.{◌≡◌, ◌++◌, ◌∷◌, [], map, length, ap, sym, ◌∙◌, append_assoc}
use Rattle.mp_pattern.specs.PatternTree as plain
use Rattle.mp_pattern.specs.PatternLists.{pattern_list-patterns}
use Rattle.mp_pattern.specs.View.{pattern_tree}
use Rattle.mp_net.specs.Net as net
use Rattle.mp_net.specs.View.{mark_of}
use Rattle.mp_net.proofs.mark.+marks.Goals as goal

pub push_marks-returns-in_ok-push_all_marks-in-App : goal.push_marks-returns-in_ok-push_all_marks-in-App
push_marks-returns-in_ok-push_all_marks-in-App t c =
    let out = map mark_of c.args.out.now.items in
    let count : c.len.result ≡ length (plain.pattern_list (plain.patterns c.in-App.args)) = c.len.ensures
    ∙ ap length (sym (pattern_list-patterns c.in-App.args)) in
    rw c.in-App.is (
    c.in_ok-push_all_marks-in-App.ensures
    ∙ ap (λ xs. xs ++ net.all_marks (plain.patterns (map pattern_tree c.as_slice.result.now)))
    c.in_ok-push_mark-in-App.ensures
    ∙ append_assoc out (net.entered c.in-App.op.0 c.len.result ∷ []) (net.all_marks
    (plain.patterns (map pattern_tree c.as_slice.result.now)))
    ∙ ap (λ ps. out ++ (net.entered c.in-App.op.0 c.len.result ∷ net.all_marks (plain.patterns ps))) c.as_slice.ensures
    ∙ ap (λ n. out ++ (net.entered c.in-App.op.0 n ∷ net.all_marks (plain.patterns c.in-App.args))) count
    )
