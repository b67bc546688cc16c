-- Choices that are drawn from some of the terms that are left, by their lengths, lead to all that comes where each
-- choice with an item is drawn from these terms and has one of the lengths.
use Rattle.std.proofs.Common.{◌≡◌, ℕ, ◌≤◌, List, Bool, true, false, sym, subst, length, arith}
use Rattle.std.specs.Prelude.{filter}
use Rattle.std.specs.Ordering.{nat_cmp}
use Rattle.std.specs.List.Sorted.{IsStrictlySortedBy}
use Rattle.std.proofs.lemmas.List.Kept.{IsStrictlySortedBy-filter}
use Rattle.mp_term.specs.Order.{tree_cmp}
use Rattle.mp_term.specs.OrderLaws.{tree_cmp_total, tree_same}
use Rattle.mp_term.specs.Sorting.{sorted}
use Rattle.mp_term.specs.Tree.{Tree}
use Rattle.mp_term.specs.Signature.{Sig}
use Rattle.mp_term.specs.Search.{In}
use Rattle.mp_term.specs.Pieces.{is_sublist, is_piece, pieces_among}
use Rattle.mp_term.proofs.PiecesLaws.{sublist-from_piece, pieces_among-exact, pieces_among-ascending}
use Rattle.mp_term.proofs.SearchLaws.{in-filter, from_in-filter}
use Rattle.mp_pattern.specs.PatternTree.{Pattern}
use Rattle.mp_pattern.specs.Value.{Subst}
use Rattle.mp_pattern.specs.Variables.{comm_above}
use Rattle.mp_pattern.specs.Fits.{Entry}
use Rattle.mp_pattern.specs.DerivationOrder.{entry_cmp}
use Rattle.mp_theory.specs.Frames.{Frame, child}
use Rattle.mp_theory.specs.Machine.{entries, reads, choices}
use Rattle.mp_theory.specs.OneList.{Item}
use Rattle.mp_theory.specs.Items.{items_by, LeadsTo}
use Rattle.mp_theory.proofs.Cuts.{IsAscending, count, count-without, sublist-from_counts, ascends-from, ascends-sublist}
use Rattle.mp_theory.proofs.Walk.{in-entries, from_in-entries, choices-exact}
use Rattle.mp_theory.proofs.Tables.{entries-ascending}
use Rattle.mp_theory.proofs.Leading.{leads-items}

-- a sublist of a sublist is one
pub sublist-then : (l pool ts : List Tree) → IsAscending ts → is_sublist tree_cmp l pool ≡ true
    → is_sublist tree_cmp pool ts ≡ true → is_sublist tree_cmp l ts ≡ true
sublist-then l pool ts up h k =
    let p = ascends-sublist pool ts k up in
    sublist-from_counts l ts (ascends-sublist l pool h p) up
    (λ z. omega (arith, count-without z l pool h, count-without z pool ts k))

module _ (sig : Sig) (p : Pattern) (f : Frame) (fs : List Frame) (s : Subst) where
  -- the entries that the child reads of the lists of the lengths ns, from the terms ts
  abbrev pub entries_among : Bool → List ℕ → List Tree → List Entry
  entries_among anywhere ns ts = filter (reads sig p f.under) (entries (pieces_among tree_cmp anywhere ns ts))

  entries_among-ascending : (anywhere : Bool) (ns : List ℕ) (ts : List Tree) → IsStrictlySortedBy nat_cmp ns
      → IsStrictlySortedBy entry_cmp (entries_among anywhere ns ts)
  entries_among-ascending anywhere ns ts up =
      IsStrictlySortedBy-filter entry_cmp (reads sig p f.under) (entries (pieces_among tree_cmp anywhere ns ts))
      (entries-ascending sig (pieces_among tree_cmp anywhere ns ts)
      (pieces_among-ascending tree_cmp tree_cmp_total tree_same anywhere ns ts up))

  -- under a commutative operation: from a pool of some of the terms that are left
  pub leads-pool : (ns : List ℕ) (pool : List Tree) → IsStrictlySortedBy nat_cmp ns → comm_above sig f.under ≡ true
      → sorted tree_cmp f.left ≡ f.left → is_sublist tree_cmp pool f.left ≡ true
      → ((k : ℕ) (e : Entry) (i : Item) → In e (choices sig (child p f fs))
      → In i (items_by sig k (child p f fs) s e)
      → ((z : Tree) → count z e.terms ≤ count z pool) × In (length e.terms) ns)
      → LeadsTo sig (child p f fs) s (entries_among true ns pool) (choices sig (child p f fs))
  leads-pool ns pool up comm order part all =
      leads-items sig (child p f fs) s (entries_among true ns pool) (entries_among-ascending true ns pool up)
      (λ e i.
      let j = from_in-filter (reads sig p f.under) e (entries (pieces_among tree_cmp true ns pool)) i in
      let l = (pieces_among-exact tree_cmp tree_cmp_total tree_same true ns e.terms pool).0
      (from_in-entries e (pieces_among tree_cmp true ns pool) j.0) in
      (choices-exact sig p f fs e.terms e.collapsed).1 (
        subst (λ b. is_piece tree_cmp b e.terms f.left ≡ true) (sym comm)
            (sublist-then e.terms pool f.left (ascends-from f.left order) l.1 part),
        j.1,
      ))
      (λ k e i c h.
      let a = all k e i c h in
      let r = (choices-exact sig p f fs e.terms e.collapsed).0 c in
      let left = ascends-from f.left order in
      let sub = sublist-from_piece tree_cmp tree_cmp_total tree_same (comm_above sig f.under) e.terms f.left r.0 in
      in-filter (reads sig p f.under) e (entries (pieces_among tree_cmp true ns pool))
      (in-entries e.terms e.collapsed (pieces_among tree_cmp true ns pool)
      ((pieces_among-exact tree_cmp tree_cmp_total tree_same true ns e.terms pool).1 (
        a.1,
        sublist-from_counts e.terms pool (ascends-sublist e.terms f.left sub left)
            (ascends-sublist pool f.left part left) a.0,
      ))) r.1)

  -- under any other: the first of the terms that are left
  pub leads-front : (ns : List ℕ) → IsStrictlySortedBy nat_cmp ns → comm_above sig f.under ≡ false
      → ((k : ℕ) (e : Entry) (i : Item) → In e (choices sig (child p f fs))
      → In i (items_by sig k (child p f fs) s e) → In (length e.terms) ns)
      → LeadsTo sig (child p f fs) s (entries_among false ns f.left) (choices sig (child p f fs))
  leads-front ns up plain all =
      leads-items sig (child p f fs) s (entries_among false ns f.left) (entries_among-ascending false ns f.left up)
      (λ e i.
      let j = from_in-filter (reads sig p f.under) e (entries (pieces_among tree_cmp false ns f.left)) i in
      let l = (pieces_among-exact tree_cmp tree_cmp_total tree_same false ns e.terms f.left).0
      (from_in-entries e (pieces_among tree_cmp false ns f.left) j.0) in
      (choices-exact sig p f fs e.terms e.collapsed).1
      (subst (λ b. is_piece tree_cmp b e.terms f.left ≡ true) (sym plain) l.1, j.1))
      (λ k e i c h.
      let r = (choices-exact sig p f fs e.terms e.collapsed).0 c in
      in-filter (reads sig p f.under) e (entries (pieces_among tree_cmp false ns f.left))
      (in-entries e.terms e.collapsed (pieces_among tree_cmp false ns f.left)
      ((pieces_among-exact tree_cmp tree_cmp_total tree_same false ns e.terms f.left).1
      (all k e i c h, subst (λ b. is_piece tree_cmp b e.terms f.left ≡ true) plain r.0))) r.1)
