use Rattle.std.proofs.Common.{◌≡◌, ◌∙◌, ◌++◌, sym, ap, map, refl, append-nil}
use Rattle.std.specs.Prelude.{Some, None}
use Rattle.std.specs.List.{filter_map}
use Rattle.std.proofs.lemmas.Option.{slice_get_read}
use Rattle.mp_table.specs.Table.{term_at, subject_of}
use Rattle.mp_net.specs.Net.{run, trace}
use Rattle.mp_net.specs.View.{turn_of}
use Rattle.mp_net.specs.Walk.{visits, tested_pair}
use Rattle.mp_net.proofs.FilledLaws.{some-of}
use Rattle.mp_net.proofs.PairsLaws.{no_pairs, group-pairs, group-found, on-ok, found-same, root-subject}
use Rattle.mp_net.proofs.nets.Nets.push_matches.Goals as goal

pub returns-in_default-clause-pairs : goal.returns-in_default-clause-pairs
returns-in_default-clause-pairs c = λ i count g.
    let tb = c.args.probe.now.table in
    let turns = map turn_of c.args.net.now.states.items in
    let root = root-subject tb c.table-table.result.now c.root.result c.table-table.ensures c.root.ensures.rank in
    let none : None ≡ run turns (subject_of tb) (Some 0) =
    sym c.in_default.is ∙ c.in_ok-state.ensures.state ∙ ap (λ u. run turns u (Some 0)) root in
    sym (append-nil c.args.pairs.now)
    ∙ ap (λ ps. c.args.pairs.now ++ ps)
    (no_pairs c.args.self.now.rules c.args.net.now i count g (subject_of tb) c.args.self.now.sig none)

pub push_tested-requires-clause-numbers : goal.push_tested-requires-clause-numbers
push_tested-requires-clause-numbers c =
    let tb = c.args.probe.now.table in
    let new = c.table-table.result.now in
    let n = c.args.net.now in
    let s = c.index.result.now in
    let turns = map turn_of n.states.items in
    let root = root-subject tb new c.root.result c.table-table.ensures c.root.ensures.rank in
    let within = some-of _ c.in_ok-state.field-0 c.in-Some.state c.in-Some.is c.in_ok-state.ensures.within in
    let held = slice_get_read n.states.items _ c.in-Some.state s refl within c.index.ensures in
    let ends : Some c.in-Some.state ≡ run turns (subject_of tb) (Some 0) =
    sym c.in-Some.is ∙ c.in_ok-state.ensures.state ∙ ap (λ u. run turns u (Some 0)) root in
    let told = some-of _ c.in_ok-state.field-0 c.in-Some.state c.in-Some.is c.in_ok-state.ensures.trace in
    let read : visits new c.deref-2.result.now ≡ trace turns (subject_of tb) (Some 0) =
    ap (λ u. visits u c.deref-2.result.now) c.table-table.ensures ∙ ap (visits tb) c.deref-2.ensures.value ∙ told
    ∙ ap (λ xs. visits tb xs ++ trace turns (term_at tb c.root.result) (Some 0)) c.new-trace.ensures.items
    ∙ ap (λ u. trace turns u (Some 0)) root in
    found-same c.args.self.now.rules new tb c.deref-2.result.now (trace turns (subject_of tb) (Some 0))
    c.deref.result.now s.accepted.items c.table-table.ensures read c.deref.ensures.value
    (group-found c.args.self.now.rules n c.requires.net.0 c.requires.net.1 c.requires.net.2 (subject_of tb)
    c.in-Some.state s held ends)

pub returns-clause-pairs : goal.returns-clause-pairs
returns-clause-pairs c =
    let tb = c.args.probe.now.table in
    let new = c.table-table.result.now in
    let n = c.args.net.now in
    let s = c.index.result.now in
    let sig = c.args.self.now.sig in
    let rules = c.args.self.now.rules in
    let turns = map turn_of n.states.items in
    let root = root-subject tb new c.root.result c.table-table.ensures c.root.ensures.rank in
    let within = some-of _ c.in_ok-state.field-0 c.in-Some.state c.in-Some.is c.in_ok-state.ensures.within in
    let held = slice_get_read n.states.items _ c.in-Some.state s refl within c.index.ensures in
    let ends : Some c.in-Some.state ≡ run turns (subject_of tb) (Some 0) =
    sym c.in-Some.is ∙ c.in_ok-state.ensures.state ∙ ap (λ u. run turns u (Some 0)) root in
    on-ok c.push_tested.result (λ e i count g. e
    ∙ ap (λ ps. c.args.pairs.now ++ ps)
    (ap (λ u. filter_map (tested_pair sig (subject_of u) rules) c.deref.result.now) c.table-table.ensures
    ∙ ap (filter_map (tested_pair sig (subject_of tb) rules)) c.deref.ensures.value
    ∙ group-pairs rules n i count g (subject_of tb) sig c.in-Some.state s held ends)) c.push_tested.ensures
