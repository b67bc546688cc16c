use Rattle.std.proofs.Common.{◌≡◌, ◌∙◌, true, false, length, map, ap, sym, subst, rules, refl}
use Rattle.std.specs.Prelude.{option_map, MatchBool}
use Rattle.std.proofs.lemmas.List.{with_items_is, places}
use Rattle.mp_term.specs.Search.{In}
use Rattle.mp_term.specs.Size.{node_count}
use Rattle.mp_pattern.specs.CondView.{cond_tree}
use Rattle.mp_search.specs.declared.mode.Mode.TheVariants.{First}
use Rattle.mp_search.specs.Levels.{AreLevels}
use Rattle.mp_search.specs.Reading.{table_of}
use Rattle.mp_cursor.specs.Kept.{HaveRoom, AreHeldTakes}
use Rattle.mp_table.specs.Table.{subject_of}
use Rattle.mp_cursor.specs.Listing.{ReadAs, StandForNone}
use Rattle.mp_cursor.specs.Matched.{sought}
use Rattle.mp_cursor.specs.Parts.{item_of, levels_table}
use Rattle.mp_cursor.proofs.LeastLaws.{sought-member, member-sought, read-fits, none-found, found-at, none-least}
use Rattle.mp_cursor.proofs.PartsLaws.{with-levels}
use Rattle.mp_cursor.proofs.SoughtLaws.{is_least}
use Rattle.mp_cursor.proofs.TableLaws.{levels-roomy, table-takes, entry_from, takes-read}
use Rattle.mp_cursor.proofs.parts.Parts.stand_at.Goals as goal

pub returns-then-not-set_takes-clause-found : goal.returns-then-not-set_takes-clause-found
returns-then-not-set_takes-clause-found c = λ i k r.
    let m = c.args.matched in
    let t = m.table.now in
    let ls = c.args.self.now.levels.items in
    let es = c.args.entries.now in
    let f = read-fits m ls es i (sought-member m (option_map (λ c. cond_tree c.now) c.args.condition)
    (levels_table m c.args.self.now) i k).0 r c.requires.over.roomy.levels
    (levels-roomy t (node_count (subject_of t)) ls c.requires.over.levels) in
    let g = c.set_takes.ensures.fit.1 (subst (λ ks. HaveRoom (map (λ l. l.take.room) ks) es × AreHeldTakes t es)
    (sym c.deref_mut.ensures.value) f) in
    let n = c.if-not-set_takes.true in
    absurd (search (rules, g, n))

pub returns-then-not-set_takes-clause-over : goal.returns-then-not-set_takes-clause-over
returns-then-not-set_takes-clause-over c =
    let t = c.args.matched.table.now in
    with-levels c.args.matched c.args.self.now _ c.set_takes.new.levels c.requires.over refl
    (with_items_is c.args.self.now.levels c.set_takes.new.levels (search (rules, places)))
    (c.set_takes.ensures.count ∙ ap length c.deref_mut.ensures.value)
    (c.set_takes.ensures.levels (node_count (subject_of t)) (subst (AreLevels t (node_count (subject_of t)))
    (sym c.deref_mut.ensures.value) c.requires.over.levels))

pub find-requires-clause-over : goal.find-requires-clause-over
find-requires-clause-over c =
    let t = c.args.matched.table.now in
    with-levels c.args.matched c.args.self.now _ c.set_takes.new.levels c.requires.over refl
    (with_items_is c.args.self.now.levels c.set_takes.new.levels (search (rules, places)))
    (c.set_takes.ensures.count ∙ ap length c.deref_mut.ensures.value)
    (c.set_takes.ensures.levels (node_count (subject_of t)) (subst (AreLevels t (node_count (subject_of t)))
    (sym c.deref_mut.ensures.value) c.requires.over.levels))

-- the table of the levels is that of the entries
pub returns-then-not-find-clause-found : goal.returns-then-not-find-clause-found
returns-then-not-find-clause-found c = λ i k r.
    let m = c.args.matched in
    let t = m.table.now in
    let ws = c.set_takes.new.levels in
    none-found m (option_map (λ c. cond_tree c.now) c.args.condition) (levels_table m c.args.self.now) _
    c.args.entries.now i
    (ap (table_of t) (with_items_is c.args.self.now.levels ws (search (rules, places))) ∙ table-takes t ws
    ∙ ap (map (entry_from t)) (c.if-not-set_takes.ensures.takes refl)) c.if-not-find.ensures.found k r

pub is_chosen-requires-clause-item : goal.is_chosen-requires-clause-item
is_chosen-requires-clause-item c =
    (found-at c.args.matched (option_map (λ c. cond_tree c.now) c.args.condition) _
    (item_of c.args.matched c.find.new.self) c.if-not-find.ensures.found).0

pub returns-clause-found : goal.returns-clause-found
returns-clause-found c =
    let m = c.args.matched in
    let t = m.table.now in
    let ws = c.set_takes.new.levels in
    let es = c.args.entries.now in
    let k = option_map (λ c. cond_tree c.now) c.args.condition in
    let V = levels_table m c.args.self.now in
    let j = item_of m c.find.new.self in
    let e = ap (table_of t) (with_items_is c.args.self.now.levels ws (search (rules, places))) ∙ table-takes t ws
    ∙ ap (map (entry_from t)) (c.if-not-set_takes.ensures.takes refl) in
    let f = found-at m k _ j c.if-not-find.ensures.found in
    elim c.is_chosen.result as (λ b. b ≡ is_least m j → MatchBool b
    (In (item_of m c.is_chosen.new.self) (sought m k First V) × ReadAs t es (levels_table m c.is_chosen.new.self))
    (StandForNone t es (sought m k First V))) [
      | true ↦ λ q. (
        subst (λ i. In i (sought m k First V)) (sym c.is_chosen.ensures.item) (member-sought m k V j f.0 f.1 (sym q)),
        subst (ReadAs t es) (sym e ∙ f.2 ∙ ap (λ i. i.0) (sym c.is_chosen.ensures.item))
            (takes-read t es (c.if-not-set_takes.ensures.fit.0 refl).1),
      )
      | false ↦ λ q. λ i l r. none-least m k V _ es i j e f.0 f.2 (sym q) l r
    ] c.is_chosen.ensures.least
