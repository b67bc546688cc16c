use Rattle.std.proofs.Common.{◌≡◌, ◌∙◌, ap, sym, ℕ, List, map}
use Rattle.std.specs.Ordering.{nat_cmp, eq_by_cmp}
use Rattle.std.specs.List.{dedup}
use Rattle.std.specs.Cmp.Lexicographic.{slice_cmp}
use Rattle.std.proofs.lemmas.Cmp.{nat_list_cmp_total}
use Rattle.std.proofs.lemmas.List.{map-id}
use Rattle.std.proofs.lemmas.List.Filters.{dedup_is}
use Rattle.mp_term.specs.OrderLaws.{nats_same}
use Rattle.mp_term.specs.Sorting.{sorted}
use Rattle.mp_term.specs.Names.{name_set}
use Rattle.mp_term.proofs.Sorting.{sorted_is}
use Rattle.mp_term.proofs.name.Names.make_set.Goals as goal

pub returns : goal.returns
returns c =
    let before = c.self.inside.items.items in
    let after = c.sort_unstable.new.self.items in
    let s : map (λ (n : List ℕ). n) after ≡ sorted (slice_cmp nat_cmp) (map (λ n. n) before) =
    sorted_is (slice_cmp nat_cmp) nat_list_cmp_total nats_same
    (λ n. n) before after c.sort_unstable.ensures.permutation c.sort_unstable.ensures.sorted in
    let t : after ≡ sorted (slice_cmp nat_cmp) before =
    sym (map-id after) ∙ s ∙ ap (sorted (slice_cmp nat_cmp)) (map-id before) in
    dedup_is (eq_by_cmp (slice_cmp nat_cmp)) after c.dedup.new.self.items c.dedup.ensures.filtered
    ∙ ap (dedup (eq_by_cmp (slice_cmp nat_cmp))) t ∙ ap name_set c.self.view_is
