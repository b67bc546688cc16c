use Rattle.std.proofs.Common.{◌∙◌, ◌<◌, length, get_or, ap, sym, arith}
use Rattle.std.specs.Prelude.{slice_get}
use Rattle.std.proofs.lemmas.List.{get_or-map, length-map}
use Rattle.mp_term.specs.View.{tree}
use Rattle.mp_table.specs.Text.{shown, ranks}
use Rattle.mp_table.proofs.BuildLaws as built
use Rattle.mp_table.proofs.PieceLaws.{length-ascending_pieces}
use Rattle.mp_table.proofs.table.Table.of_pieces.Goals as goal

pub tell_ranks-requires-clause-short : goal.tell_ranks-requires-clause-short
tell_ranks-requires-clause-short c =
    let text = c.args.text.now in
    let pieces = c.requires.pieces in
    omega (
      arith,
      c.requires.short,
      length-ascending_pieces (shown text) c.args.pieces.now pieces.ascending pieces.pieces,
      length-map text (λ n. tree n.term.now),
    )

pub invariant_of-result : goal.invariant_of-result
invariant_of-result c =
    let text = c.args.text.now in
    let new = c.tell_ranks.new.nodes in
    let ps = c.args.pieces.now in
    let pieces = c.requires.pieces in
    let told = c.tell_ranks.ensures.ranks in
    let args = c.in_ok-made.made.args.items in
    let es = c.in_ok-made.made.entries.items in
    let made = c.in_ok-made.ensures in
    let many = length-map text (λ n. tree n.term.now) in
    let node = get_or new 0 c.index-text-0.result in
    let some : 0 < length new =
    omega (arith, c.requires.some, many, ap length c.tell_ranks.ensures.terms, length-map new (λ n. tree n.term.now)) in
    let read = sym (get_or-map (λ n. n.rank) new 0 c.index-text-0.result node.rank some) in
    let within = built.root-within (shown text) (omega (arith, c.requires.some, many)) ps (ranks new) told node.rank
    read in
    let long = built.length-built ps args es made in (
      built.entries_built ps args es made,
      built.ascending_built ps args es made pieces.ascending,
      omega (
        arith,
        c.requires.short,
        length-ascending_pieces (shown text) ps pieces.ascending pieces.pieces,
        many,
        long,
      ),
      omega (arith, within, long),
    )

pub returns-clause-terms : goal.returns-clause-terms
returns-clause-terms c =
    built.terms_built c.args.pieces.now c.in_ok-made.made.args.items c.in_ok-made.made.entries.items
    c.in_ok-made.ensures

pub returns-clause-root : goal.returns-clause-root
returns-clause-root c =
    let text = c.args.text.now in
    let new = c.tell_ranks.new.nodes in
    let ps = c.args.pieces.now in
    let told = c.tell_ranks.ensures.ranks in
    let made = c.in_ok-made.ensures in
    let many = length-map text (λ n. tree n.term.now) in
    let node = get_or new 0 c.index-text-0.result in
    let some : 0 < length new =
    omega (arith, c.requires.some, many, ap length c.tell_ranks.ensures.terms, length-map new (λ n. tree n.term.now)) in
    let read = sym (get_or-map (λ n. n.rank) new 0 c.index-text-0.result node.rank some) in
    ap (λ l. slice_get l node.rank)
    (built.terms_built ps c.in_ok-made.made.args.items c.in_ok-made.made.entries.items made)
    ∙ built.root-first (shown text) (omega (arith, c.requires.some, many)) ps (ranks new) told node.rank read
