-- The items where the first child takes one term.
use Rattle.std.proofs.Common.{◌≡◌, List, [], ◌∷◌, ◌++◌, map, drop}
use Rattle.std.proofs.Common.{Bool, true, false, refl, ap, sym, ◌∙◌, subst, inl, inr}
use Rattle.std.specs.Prelude.{◌⊎◌, Option, Some, None, flat_map, slice_get, option_map, if◌then◌else◌}
use Rattle.std.specs.List.Sorted.{IsStrictlySortedBy}
use Rattle.std.proofs.lemmas.List.{append_cancel_left}
use Rattle.std.proofs.lemmas.Option.{slice_get-map}
use Rattle.mp_term.specs.Order.{tree_cmp}
use Rattle.mp_term.specs.OrderLaws.{tree_cmp_total, tree_same}
use Rattle.mp_term.specs.Pieces.{without}
use Rattle.mp_term.specs.Search.{In}
use Rattle.mp_term.specs.Signature.{Sig}
use Rattle.mp_term.specs.Tree.{Tree}
use Rattle.mp_term.proofs.ListingLaws.{all_in}
use Rattle.mp_term.proofs.PiecesLaws.{all-without}
use Rattle.mp_term.proofs.SearchLaws.{all-from_in, from_in-map}
use Rattle.mp_pattern.specs.Fits.{Table}
use Rattle.mp_pattern.specs.PatternTree.{Pattern, symbol_pattern, app_pattern, wild_pattern, patterns, pattern_list}
use Rattle.mp_pattern.specs.Value.{Subst}
use Rattle.mp_theory.specs.Filled.{filled}
use Rattle.mp_theory.specs.OneList.{Item, item_tables}
use Rattle.mp_theory.specs.Shape.{shape, table_of}
use Rattle.mp_theory.specs.Trail.{listed_by}
use Rattle.mp_search.specs.declared.mode.Mode.{Mode}
use Rattle.mp_search.specs.declared.mode.Mode.TheVariants.{First, After, At}
use Rattle.mp_search.specs.Wanted.{IsStanding}
use Rattle.mp_ac.specs.Asked.{root_list}
use Rattle.mp_ac.specs.Candidates.{IsBarred}
use Rattle.mp_ac.specs.CommList.{behind_table, comm_list}
use Rattle.mp_ac.specs.Seek.{IsCommutative, IsFoundOf, root_by, with_children}
use Rattle.mp_ac.specs.Stage.{looked_for}
use Rattle.mp_theory.specs.Items.{in_front}
use Rattle.mp_ac.specs.TakesOne.{is_left, items_with, takes_one}
use Rattle.mp_ac.proofs.AmongLaws.{behind-in_front, behind_table-among, in-table, items_by-filled}
use Rattle.mp_ac.proofs.BehindLaws.{table-in}
use Rattle.mp_ac.proofs.ClashLaws.{clash-filled}
use Rattle.mp_ac.proofs.FirstChild.{comm_list-first}

-- nothing, whatever a test says
nothing : (b : Bool) → (let none : List Item = [] in (if b then none else none) ≡ none)
nothing true = refl
nothing false = refl

-- what is left without a term was left
pub in-without : (t : Tree) (left : List Tree) (u : Tree) → In u (without tree_cmp (t ∷ []) left) → In u left
in-without t left u i = all_in (λ v. In v left) (without tree_cmp (t ∷ []) left) u
    (all-without tree_cmp tree_cmp_total tree_same (λ v. In v left) (t ∷ []) left
    (all-from_in (λ v. In v left) left (λ v j. j))) i

-- the items of a root with a first child in front of its own
module _ (sig : Sig) (p : Pattern) (ps : List Pattern) (left : List Tree) (owes : Bool) (s : Subst) where
  -- those of terms in turn
  abbrev pub root_among : Pattern → List Tree → List Item
  root_among q ts = flat_map (root_by sig q p ps left owes s) ts

  -- behind an item of a term are the others of the term and then those of the later ones
  pub root-behind : (q : Pattern) (us : List Tree) (t : Tree) (ws : List Tree) (V : Table)
      → IsStrictlySortedBy tree_cmp (us ++ t ∷ ws) → In V (item_tables (root_by sig q p ps left owes s t))
      → behind_table V (root_among q (us ++ t ∷ ws))
      ≡ behind_table V (root_by sig q p ps left owes s t) ++ root_among q ws
  root-behind (app_pattern g zs) us t ws V up h =
      behind_table-among sig g p (patterns (ps ++ pattern_list zs)) left owes s us t ws V up h
  root-behind (symbol_pattern n) us t ws V up h = absurd h
  root-behind (wild_pattern w x) us t ws V up h = absurd h

  -- an item is of the term with whose table its own begins
  pub root-table : (q : Pattern) → IsCommutative sig q → (ts : List Tree) (t : Tree) (W : Table) → shape p t ≡ true
      → In (table_of p t ++ W) (item_tables (root_among q ts))
      → In (table_of p t ++ W) (item_tables (root_by sig q p ps left owes s t))
  root-table (app_pattern g zs) comm ts t W h i =
      in-table sig g p (patterns (ps ++ pattern_list zs)) left owes s ts t W h i
  root-table (symbol_pattern n) comm ts t W h i = cc
  root-table (wild_pattern w x) comm ts t W h i = cc

  -- none where the term isn't left, or isn't taken
  pub root-not_left : (q : Pattern) (t : Tree) → is_left left t ≡ false → root_by sig q p ps left owes s t ≡ []
  root-not_left (app_pattern g zs) t l = ap (λ b. if b then (if shape p t then
      items_with sig g p (patterns (ps ++ pattern_list zs)) left owes s t else []) else []) l
  root-not_left (symbol_pattern n) t l = refl
  root-not_left (wild_pattern w x) t l = refl

  pub root-not_filled : (q : Pattern) (t : Tree) → shape p t ≡ true → filled sig p t s ≡ None
      → root_by sig q p ps left owes s t ≡ []
  root-not_filled (app_pattern g zs) t h f =
      let qs = patterns (ps ++ pattern_list zs) in
      ap (λ b. if is_left left t then (if b then items_with sig g p qs left owes s t else []) else []) h
      ∙ ap (λ o. if is_left left t then map (in_front (table_of p t))
      (listed_by (λ r. comm_list sig g qs (without tree_cmp (t ∷ []) left) owes r) o) else []) f
      ∙ nothing (is_left left t)
  root-not_filled (symbol_pattern n) t h f = refl
  root-not_filled (wild_pattern w x) t h f = refl

  -- where it is, they are those of the later children, with its table in front
  pub root-filled : (q : Pattern) (t : Tree) (r : Subst) → is_left left t ≡ true → shape p t ≡ true
      → filled sig p t s ≡ Some r → root_by sig q p ps left owes s t
      ≡ map (in_front (table_of p t)) (root_list sig (with_children ps q) (without tree_cmp (t ∷ []) left) owes r)
  root-filled (app_pattern g zs) t r l h f =
      items_by-filled sig g p (patterns (ps ++ pattern_list zs)) left owes s t r l h f
  root-filled (symbol_pattern n) t r l h f = refl
  root-filled (wild_pattern w x) t r l h f = refl

-- where the first child took a term that the next one bars, the later ones have no items
module _ (sig : Sig) (p : Pattern) (t : Tree) (s r : Subst) (fills : filled sig p t s ≡ Some r) where
  barred-none : (ps : List Pattern) → ((n : Pattern) → slice_get ps 0 ≡ Some n → takes_one sig n ≡ true)
      → (q : Pattern) → IsCommutative sig q → (us : List Tree) → IsBarred (slice_get ps 0) us p t
      → (left : List Tree) (owes : Bool) → ((u : Tree) → In u left → In u us)
      → root_list sig (with_children ps q) left owes r ≡ []
  unfolding IsStrictlySortedBy
  barred-none [] next q comm us barred left owes within = absurd barred
  barred-none (n ∷ ps) next (app_pattern g zs) comm us barred left owes within =
      comm_list-first sig g n (patterns (ps ++ pattern_list zs)) left owes r comm (next n refl) [] tt
      (λ v i h. inr (root-not_filled sig n ps left owes r (app_pattern g zs) v h
      (clash-filled sig p n t v s r fills (barred v (within v i) h))))
  barred-none (n ∷ ps) next (symbol_pattern m) comm us barred left owes within = cc
  barred-none (n ∷ ps) next (wild_pattern w x) comm us barred left owes within = cc

module _ (sig : Sig) (p : Pattern) (ps : List Pattern) (left : List Tree) (owes : Bool) (s : Subst) where
  -- none where nothing comes of the later children
  pub root-none : (q : Pattern) (t : Tree) → shape p t ≡ true
      → ((r : Subst) → filled sig p t s ≡ Some r
      → root_list sig (with_children ps q) (without tree_cmp (t ∷ []) left) owes r ≡ [])
      → root_by sig q p ps left owes s t ≡ []
  root-none q t h none = by_left (is_left left t) refl
    where
      by_filled : is_left left t ≡ true → (o : Option Subst) → filled sig p t s ≡ o
          → root_by sig q p ps left owes s t ≡ []
      by_filled l None f = root-not_filled sig p ps left owes s q t h f
      by_filled l (Some r) f = root-filled sig p ps left owes s q t r l h f
          ∙ ap (map (in_front (table_of p t))) (none r f)

      by_left : (b : Bool) → is_left left t ≡ b → root_by sig q p ps left owes s t ≡ []
      by_left true l = by_filled l (filled sig p t s) refl
      by_left false l = root-not_left sig p ps left owes s q t l

  -- the items are those where it takes each of the terms, in turn, if the next child bars each other one that is left
  -- and has its shape
  pub root-first : (q : Pattern) → IsCommutative sig q → takes_one sig p ≡ true
      → ((n : Pattern) → slice_get ps 0 ≡ Some n → takes_one sig n ≡ true) → (us ts : List Tree)
      → ((u : Tree) → In u left → In u us) → IsStrictlySortedBy tree_cmp ts
      → ((t : Tree) → In t left → shape p t ≡ true → In t ts ⊎ IsBarred (slice_get ps 0) us p t)
      → root_list sig (with_children (p ∷ ps) q) left owes s ≡ root_among sig p ps left owes s q ts
  root-first (app_pattern g zs) comm one next us ts within up all =
      comm_list-first sig g p (patterns (ps ++ pattern_list zs)) left owes s comm one ts up (λ t i h.
      elim (all t i h) [
        | inl among ↦ inl among
        | inr barred ↦ inr (root-none (app_pattern g zs) t h (λ r f.
            barred-none sig p t s r f ps next (app_pattern g zs) comm us barred (without tree_cmp (t ∷ []) left) owes
            (λ u j. within u (in-without t left u j))))
      ])
  root-first (symbol_pattern n) comm one next us ts within up all = cc
  root-first (wild_pattern w x) comm one next us ts within up all = cc

-- nothing is found among no items
pub none-found : (mode : Mode) (W : Table) (is : List Item) → is ≡ [] → looked_for mode W is ≡ []
none-found First W is e = e
none-found After W is e = ap (behind_table W) e
none-found At W is e = e

-- what is found among items is found among those with entries in front of their tables
looked-front : (T W : Table) (mode : Mode) (is : List Item)
    → looked_for mode (T ++ W) (map (in_front T) is) ≡ map (in_front T) (looked_for mode W is)
looked-front T W First is = refl
looked-front T W After is = behind-in_front T W is
looked-front T W At is = refl

drop-map : (T : Table) (is : List Item) → map (in_front T) (drop 1 is) ≡ drop 1 (map (in_front T) is)
drop-map T [] = refl
drop-map T (i ∷ is) = refl

pub front-found : (T W V : Table) (mode : Mode) (is : List Item) (s : Subst) (b : Bool) → IsFoundOf mode W V is s b
    → IsFoundOf mode (T ++ W) (T ++ V) (map (in_front T) is) s b
front-found T W V mode is s true f = (
  (
    f.0.0,
    ap (λ js. slice_get js 0) (looked-front T W mode is)
        ∙ slice_get-map (in_front T) (looked_for mode W is) 0
        ∙ ap (option_map (in_front T)) f.0.1,
    f.0.2,
  ),
  behind-in_front T V is ∙ ap (map (in_front T)) f.1
      ∙ drop-map T (looked_for mode W is) ∙ ap (drop 1) (sym (looked-front T W mode is)),
)
front-found T W V mode is s false f = looked-front T W mode is ∙ ap (map (in_front T)) f

pub front-standing : (T W : Table) (mode : Mode) (is : List Item) → IsStanding mode (T ++ W) (map (in_front T) is)
    → IsStanding mode W is
front-standing T W First is h = tt
front-standing T W After is h =
    let m = from_in-map (λ (i : Item). i.0) (T ++ W) (map (in_front T) is) h in
    let k = from_in-map (in_front T) m.0 is m.2 in
    let e : T ++ W ≡ T ++ k.0.0 = m.1 ∙ ap (λ i. i.0) k.1 in
    subst (λ V. In V (item_tables is)) (sym (append_cancel_left T W k.0.0 e)) (table-in is k.0 k.2)
front-standing T W At is h = tt

-- what is found among the first ones of the items that are looked for is found
module _ (mode m : Mode) (W U V : Table) (all is js : List Item)
    (ahead : looked_for mode W all ≡ looked_for m U is ++ js) where
  append-first : (ks : List Item) (i : Item) → slice_get ks 0 ≡ Some i → slice_get (ks ++ js) 0 ≡ Some i
  append-first [] i e = cc
  append-first (k ∷ ks) i e = e

  append-drop : (ks : List Item) (i : Item) → slice_get ks 0 ≡ Some i → drop 1 ks ++ js ≡ drop 1 (ks ++ js)
  append-drop [] i e = cc
  append-drop (k ∷ ks) i e = refl

  pub first-found : (s : Subst) → behind_table V all ≡ behind_table V is ++ js → IsFoundOf m U V is s true
      → IsFoundOf mode W V all s true
  first-found s later f = (
    (f.0.0, ap (λ ks. slice_get ks 0) ahead ∙ append-first (looked_for m U is) (V, f.0.0) f.0.1, f.0.2),
    later ∙ ap (λ ks. ks ++ js) f.1 ∙ append-drop (looked_for m U is) (V, f.0.0) f.0.1 ∙ ap (drop 1) (sym ahead),
  )

  pub first-none : looked_for m U is ≡ [] → looked_for mode W all ≡ js
  first-none e = ahead ∙ ap (λ ks. ks ++ js) e
