use Rattle.std.proofs.Common.{◌≡◌, ◌-◌, [], ◌∷◌, ◌++◌, take, get_or, map, length, arith, ap, ◌∙◌}
use Rattle.std.proofs.Math.Seq.{take-append_seam, get_or-append_seam}
use Rattle.std.proofs.lemmas.List.{length-append}
use Rattle.std.specs.List.{list_any}
use Rattle.mp_build.specs.Wildcards.{differs}
use Rattle.mp_build.specs.WildcardView.{wildcard_view}
use Rattle.mp_build.proofs.wildcard.last_differs.Goals as goal

pub returns-in-len1-up : goal.returns-in-len1-up
returns-in-len1-up c before new is =
    let last = c.new-item.result in
    let whole = before ++ new ∷ [] in
    let few : length whole - 1 ≡ length before = omega (arith, length-append before (new ∷ [])) in
    let item : last ≡ new = c.new-item.is ∙ ap (λ l. get_or l (length l - 1) last) is
    ∙ ap (λ n. get_or whole n last) few ∙ get_or-append_seam before new [] last in
    c.some_differs.ensures
    ∙ ap (λ l. list_any (differs (wildcard_view last)) (map wildcard_view (take (length l - 1) l))) is
    ∙ ap (λ n. list_any (differs (wildcard_view last)) (map wildcard_view (take n whole))) few
    ∙ ap (λ l. list_any (differs (wildcard_view last)) (map wildcard_view l)) (take-append_seam before (new ∷ []))
    ∙ ap (λ w. list_any (differs (wildcard_view w)) (map wildcard_view before)) item
