-- What levels take, as ranks and as terms, and how long the takes of an item are.
use Rattle.std.specs.Prelude.{if◌then◌else◌}
use Rattle.std.proofs.Common.{◌≡◌, ◌≤◌, ℕ, zero, suc, List, [], ◌∷◌, Bool, true, false, length, map, refl, ap, sym, ◌∙◌}
use Rattle.std.proofs.Common.{subst, arith, inl, inr}
use Rattle.std.specs.Cmp.{Equal-is}
use Rattle.std.specs.Ordering.{is_eq}
use Rattle.std.specs.List.{AllByRecursion}
use Rattle.std.proofs.lemmas.Cmp.{tied_itself, lists_total}
use Rattle.mp_term.specs.Signature.{Sig}
use Rattle.mp_term.specs.Search.{In}
use Rattle.mp_pattern.specs.Fits as fits
use Rattle.mp_pattern.specs.DerivationOrder.{table_cmp}
use Rattle.mp_pattern.specs.Value.{Subst}
use Rattle.mp_table.specs.Table.{Table, IsTable, term_at, terms_at}
use Rattle.mp_table.specs.declared.rank.Rank.{Rank}
use Rattle.mp_subst.proofs.BoundLaws.{ranks_same}
use Rattle.mp_theory.specs.Frames.{Next}
use Rattle.mp_theory.specs.Machine.{is_ended, onward}
use Rattle.mp_theory.specs.Items.{items}
use Rattle.mp_theory.specs.Narrow.{load}
use Rattle.mp_theory.specs.OneList.{Item}
use Rattle.mp_theory.proofs.ItemLaws.{from_in-items}
use Rattle.mp_theory.proofs.Narrow.{load-onward, load-terms}
use Rattle.mp_theory.proofs.Tables.{entry_cmp_total}
use Rattle.mp_theory.proofs.TrailLaws.{choice-allowed}
use Rattle.mp_theory.proofs.Unique.{same_entry}
use Rattle.mp_search.specs.declared.level.Level.{Level}
use Rattle.mp_search.specs.Levels.{AreLevels, take_of}
use Rattle.mp_search.specs.Reading.{table_of, entry_of}
use Rattle.mp_cursor.specs.declared.kept.Kept.{Kept}
use Rattle.mp_cursor.specs.Kept.{HasRoom, HaveRoom, AreHeldTakes}
use Rattle.mp_cursor.specs.Listing.{ReadAs}
use Rattle.std.specs.FinMap.{slice_cmp-IsAntisymmetric}
use Rattle.std.proofs.lemmas.List.{length-map}

-- tables that compare as equal are one
pub tables-equal : (V W : fits.Table) → is_eq (table_cmp V W) ≡ true → V ≡ W
tables-equal V W h = slice_cmp-IsAntisymmetric same_entry V W ((Equal-is (table_cmp V W)).0 h)

pub tables-itself : (V : fits.Table) → is_eq (table_cmp V V) ≡ true
tables-itself V = ap is_eq (tied_itself (lists_total entry_cmp_total) V)

-- the entry of a take
abbrev pub entry_from : Table → List Rank × Bool → fits.Entry
entry_from t k = record { terms = terms_at t k.0; collapsed = k.1 }

pub table-takes : (t : Table) (ls : List Level) → table_of t ls ≡ map (entry_from t) (map take_of ls)
table-takes t [] = refl
table-takes t (l ∷ ls) = ap (λ es. entry_of t l ∷ es) (table-takes t ls)

-- equal entries have equal takes
pub takes-same : (t : Table) → IsTable t → (ks ms : List (List Rank × Bool)) → AreHeldTakes t ks → AreHeldTakes t ms
    → map (entry_from t) ks ≡ map (entry_from t) ms → ks ≡ ms
takes-same t h [] [] a b e = refl
takes-same t h [] (m ∷ ms) a b e = cc
takes-same t h (k ∷ ks) [] a b e = cc
takes-same t h (k ∷ ks) (m ∷ ms) a b e =
    let first : entry_from t k ≡ entry_from t m = cc in
    let rest : map (entry_from t) ks ≡ map (entry_from t) ms = cc in
    let ranks : k.0 ≡ m.0 = ranks_same t h k.0 m.0 a.0 b.0 (ap (λ d. d.terms) first) in
    let mark : k.1 ≡ m.1 = ap (λ d. d.collapsed) first in
    ap (λ rs. (rs, k.1) ∷ ks) ranks ∙ ap (λ c. (m.0, c) ∷ ks) mark
    ∙ ap (λ js. m ∷ js) (takes-same t h ks ms a.1 b.1 rest)

pub levels-held : (t : Table) (width : ℕ) (ls : List Level) → AreLevels t width ls → AreHeldTakes t (map take_of ls)
levels-held t width [] h = tt
levels-held t width (l ∷ ls) h = (h.0.1.0, levels-held t width ls h.1)

-- the takes of an item are no longer than what is left has nodes
abbrev pub IsShort : ℕ → fits.Entry → Type 0
IsShort n e = length e.terms ≤ n

pub all-short : (m n : ℕ) (W : fits.Table) → m ≤ n → AllByRecursion (IsShort m) W → AllByRecursion (IsShort n) W
all-short m n [] h a = tt
all-short m n (e ∷ W) h a = (omega (arith, h, a.0), all-short m n W h a.1)

pub short-takes : (sig : Sig) (k : ℕ) (n : Next) (s : Subst) (W : fits.Table) (r : Subst)
    → In {X = Item} (W, r) (items sig k n s) → AllByRecursion (IsShort (load n)) W
short-takes sig k n s [] r i = tt
short-takes sig zero n s (e ∷ W) r i = absurd (none (is_ended n) i)
  where
    none : (b : Bool) → In {X = Item} (e ∷ W, r) (if b then ([], s) ∷ [] else []) → ⊥
    none true (inl q) = let x : e ∷ W ≡ [] = ap (λ j. j.0) q in cc
    none true (inr q) = q
    none false q = q
short-takes sig (suc k) n s (e ∷ W) r i =
    let g = from_in-items sig k n s e W r i in
    let a = (choice-allowed sig n e).0 g.choice in (
      load-terms sig n e a,
      all-short (load (onward n e)) (load n) W (load-onward sig n e a)
          (short-takes sig k (onward n e) g.after W r g.rest),
    )

-- room for takes that are short
pub short-room : (n : ℕ) (t : Table) (rooms : List ℕ) (ks : List (List Rank × Bool)) → length rooms ≡ length ks
    → AllByRecursion (λ m. n ≤ m) rooms → AllByRecursion (IsShort n) (map (entry_from t) ks) → HaveRoom rooms ks
short-room n t [] [] e a b = tt
short-room n t [] (k ∷ ks) e a b = absurd (omega (arith, e))
short-room n t (m ∷ rooms) [] e a b = absurd (omega (arith, e))
short-room n t (m ∷ rooms) (k ∷ ks) e a b = (
  omega (arith, a.0, b.0, length-map k.0 (term_at t)),
  short-room n t rooms ks (omega (arith, e)) a.1 b.1,
)

pub levels-roomy : (t : Table) (width : ℕ) (ls : List Level) → AreLevels t width ls
    → AllByRecursion (λ m. width ≤ m) (map (λ l. l.take.room) ls)
levels-roomy t width [] h = tt
levels-roomy t width (l ∷ ls) h = (h.0.0.0, levels-roomy t width ls h.1)

pub kept-roomy : (width n : ℕ) (ks : List Kept) → n ≤ width → AllByRecursion (HasRoom width) ks
    → AllByRecursion (λ m. n ≤ m) (map (λ k. k.take.room) ks)
kept-roomy width n [] h a = tt
kept-roomy width n (k ∷ ks) h a = (omega (arith, h, a.0), kept-roomy width n ks h a.1)

pub kept-rooms : (width : ℕ) (old new : List Kept) → map (λ k. k.take.room) new ≡ map (λ k. k.take.room) old
    → AllByRecursion (HasRoom width) old → AllByRecursion (HasRoom width) new
kept-rooms width [] [] e a = tt
kept-rooms width [] (k ∷ new) e a = cc
kept-rooms width (k ∷ old) [] e a = cc
kept-rooms width (k ∷ old) (j ∷ new) e a =
    let first : j.take.room ≡ k.take.room = cc in
    let rest : map (λ (k : Kept). k.take.room) new ≡ map (λ (k : Kept). k.take.room) old = cc in
    (subst (λ n. width ≤ n) (sym first) a.0, kept-rooms width old new rest a.1)

-- entries that read as a table are those of its takes
pub read-takes : (t : Table) (es : List (List Rank × Bool)) (W : fits.Table) → ReadAs t es W
    → AreHeldTakes t es × (map (entry_from t) es ≡ W)
read-takes t [] [] h = (tt, refl)
read-takes t [] (d ∷ W) h = absurd h
read-takes t (e ∷ es) [] h = absurd h
read-takes t (e ∷ es) (d ∷ W) h =
    let r = read-takes t es W h.1 in (
      (h.0.0, r.0),
      ap (λ ts. record { terms = ts; collapsed = e.1 } ∷ map (entry_from t) es) h.0.1
          ∙ ap (λ b. record { terms = d.terms; collapsed = b } ∷ map (entry_from t) es) h.0.2
          ∙ ap (λ V. d ∷ V) r.1,
    )

pub takes-read : (t : Table) (es : List (List Rank × Bool)) → AreHeldTakes t es → ReadAs t es (map (entry_from t) es)
takes-read t [] h = tt
takes-read t (e ∷ es) h = ((h.0, refl, refl), takes-read t es h.1)
