-- What a cursor looks for next, at each stage.
use Rattle.std.proofs.Common.{◌≡◌, List, [], Bool, true, false, ◌&&◌, drop, ◌∙◌, ap, sym, subst}
use Rattle.std.specs.Prelude.{Option, Some, slice_get, MatchBool, if◌then◌else◌}
use Rattle.std.proofs.lemmas.Bool.{and_parts}
use Rattle.mp_term.specs.Search.{In}
use Rattle.mp_term.proofs.SearchLaws.{from_in-filter}
use Rattle.mp_pattern.specs.Admission.{Rule, meets}
use Rattle.mp_pattern.specs.CondTree.{Cond}
use Rattle.mp_pattern.specs.Fits.{Table}
use Rattle.mp_pattern.specs.RuleView.{rule_tree}
use Rattle.mp_theory.specs.OneList.{Item, item_list}
use Rattle.mp_search.specs.declared.mode.Mode.{Mode}
use Rattle.mp_search.specs.declared.mode.Mode.TheVariants.{First, After}
use Rattle.mp_search.specs.Wanted.{IsStanding, beyond}
use Rattle.mp_search.proofs.NumberLaws.{in-slice_get}
use Rattle.mp_cursor.specs.declared.cursor.Cursor.TheInside.{Inside}
use Rattle.mp_cursor.specs.declared.matched.Matched.{Matched}
use Rattle.mp_cursor.specs.declared.parts.Parts.{Parts}
use Rattle.mp_search.specs.declared.stage.Stage.{Stage}
use Rattle.mp_search.specs.declared.stage.Stage.TheVariants.{Before, Standing, Ended}
use Rattle.mp_cursor.specs.CursorView.{IsAtItem, IsCursor, cursor_view, items_of, to_come_at}
use Rattle.mp_table.specs.Table.{subject_of}
use Rattle.mp_cursor.specs.Listing.{advanced}
use Rattle.mp_cursor.specs.Matched.{IsMatched, all_items, looked_for, sought}
use Rattle.mp_cursor.specs.Parts.{AreOver, item_of}
use Rattle.mp_search.specs.Stage.{mode_at, item_at}
use Rattle.mp_cursor.proofs.LeastLaws.{sought-member, member-sought}
use Rattle.mp_cursor.proofs.SoughtLaws.{is_least, sought-first, sought-after, item-standing}

module _ (m : Matched) (h : IsMatched m) (r : Rule) (e : m.plan.now.pattern ≡ r.pattern) (i : Item) where
  pub standing-at : (stage : Stage) (mode : Mode) → mode_at stage ≡ Some mode
      → IsAtItem stage i (item_list m.sig.now r (subject_of m.table.now)) → IsStanding mode i.0 (all_items m [])
  standing-at Before mode q k = let same : First ≡ mode = cc in subst (λ x. IsStanding x i.0 (all_items m [])) same tt
  standing-at Standing mode q k =
      let same : After ≡ mode = cc in
      subst (λ x. IsStanding x i.0 (all_items m [])) same (item-standing m i (sought-member m r.condition i.0 i
      (subst (λ is. In i is) (sought-first m h r i.0 (sym e)) k)).0)
  standing-at Ended mode q k = cc

  pub to_come-at : (stage : Stage) (mode : Mode) → mode_at stage ≡ Some mode
      → to_come_at stage i (item_list m.sig.now r (subject_of m.table.now)) ≡ sought m r.condition mode i.0
  to_come-at Before mode q =
      let same : First ≡ mode = cc in
      sought-first m h r i.0 (sym e) ∙ ap (λ x. sought m r.condition x i.0) same
  to_come-at Standing mode q =
      let same : After ≡ mode = cc in
      sought-after m h r i.0 (sym e) ∙ ap (λ x. sought m r.condition x i.0) same
  to_come-at Ended mode q = cc

  -- what is sought is sought from the first on
  sought-any : (mode : Mode) (V W : Table) (j : Item) → In j (sought m r.condition mode V)
      → In j (sought m r.condition First W)
  sought-any mode V W j k =
      let a = from_in-filter (is_least m) j (looked_for m r.condition mode V []) k in
      let b =
      from_in-filter (λ (x : Item). meets m.sig.now r.condition x.1 && beyond mode V x.0) j (all_items m []) a.0 in
      member-sought m r.condition W j b.0 (and_parts (meets m.sig.now r.condition j.1) (beyond mode V j.0) b.1).0 a.1

  -- where a cursor stands once it has looked for the next item
  abbrev pub IsMoved : Stage → Stage → Item → Type 0
  IsMoved stage after j =
      let all : List Item = item_list m.sig.now r (subject_of m.table.now) in
      (item_at after j ≡ slice_get (to_come_at stage i all) 0)
      × (to_come_at after j all ≡ drop 1 (to_come_at stage i all)) × IsAtItem after j all

  -- the first that is sought is found, and what comes behind it is sought next; or nothing is
  abbrev pub IsNextSought : Option Cond → Mode → Bool → Item → Type 0
  IsNextSought c mode found j = MatchBool found ((slice_get (sought m c mode i.0) 0 ≡ Some j)
      × (drop 1 (sought m c mode i.0) ≡ sought m c After j.0)) (sought m c mode i.0 ≡ [])

  moved-by : (stage : Stage) (mode : Mode) (found : Bool) (j : Item) → mode_at stage ≡ Some mode
      → IsNextSought r.condition mode found j → IsMoved stage (if found then Standing else Ended) j
  moved-by stage mode true j q f =
      let to_come = to_come-at stage mode q in (
        sym (ap (λ is. slice_get is 0) to_come ∙ f.0),
        sought-after m h r j.0 (sym e) ∙ sym f.1 ∙ sym (ap (drop 1) to_come),
        subst (λ is. In j is) (sym (sought-first m h r i.0 (sym e)))
            (sought-any mode i.0 i.0 j (in-slice_get (sought m r.condition mode i.0) 0 j f.0)),
      )
  moved-by stage mode false j q f =
      let none = to_come-at stage mode q ∙ f in
      (sym (ap (λ is. slice_get is 0) none), sym (ap (drop 1) none), tt)

  pub moved-on : (stage after : Stage) (mode : Mode) (found : Bool) (c : Option Cond) (j : Item)
      → mode_at stage ≡ Some mode → after ≡ (if found then Standing else Ended) → c ≡ r.condition
      → IsNextSought c mode found j → IsMoved stage after j
  moved-on stage after mode found c j q a same f =
      subst (λ s. IsMoved stage s j) (sym a)
      (moved-by stage mode found j q (subst (λ k. IsNextSought k mode found j) same f))

-- a cursor with other parts, at another stage
module _ (d : Inside) (h : IsCursor d) (parts : Parts) (after : Stage)
    (moved : IsMoved d.matched h.matched (rule_tree d.rule.now) h.pattern (item_of d.matched d.parts) d.stage after
    (item_of d.matched parts)) where
  pub moved-view : cursor_view (record d { parts = parts; stage = after }) ≡ advanced (cursor_view d)
  moved-view =
      let v = cursor_view d in
      ap (λ o. record v { item = o; to_come = to_come_at after (item_of d.matched parts) (items_of d) }) moved.0
      ∙ ap (λ is. record v { item = slice_get v.to_come 0; to_come = is }) moved.1

  pub moved-cursor : AreOver d.matched parts → IsCursor (record d { parts = parts; stage = after })
  moved-cursor o = record {
    matched = h.matched;
    pattern = h.pattern;
    condition = h.condition;
    over = o;
    decides = h.decides;
    standing = moved.2;
  }
