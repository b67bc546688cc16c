-- The table at hand that is that of an item, and items whose substitutions are complete, from node to node.
use Rattle.std.proofs.Common.{◌≡◌, ℕ, suc, List, [], ◌∷◌, map, true, ap, sym}
use Rattle.std.proofs.Common.{subst, inl, inr}
use Rattle.std.specs.Prelude.{Some, None, flat_map, ⊤}
use Rattle.std.specs.List.{AllByRecursion}
use Rattle.mp_term.specs.Search.{In}
use Rattle.mp_term.proofs.SearchLaws.{in-map, from_in-map, from_in-flat, in-flat, all-from_in}
use Rattle.mp_term.proofs.ListingLaws.{all_in}
use Rattle.mp_term.specs.Signature.{Sig}
use Rattle.mp_pattern.specs.Fits.{Entry, Table}
use Rattle.mp_pattern.specs.Value.{Subst}
use Rattle.mp_theory.specs.Solve.{solve}
use Rattle.mp_theory.specs.Frames.{Next}
use Rattle.mp_theory.specs.Machine.{onward, said, choices}
use Rattle.mp_theory.specs.OneList.{Item, item_tables}
use Rattle.mp_theory.specs.Trail.{listed_by, allows}
use Rattle.mp_theory.specs.Items.{items, items_by, behind, LeadsTo}
use Rattle.mp_theory.proofs.ItemLaws.{from_in-items_by, in-leads}
use Rattle.mp_theory.proofs.TrailLaws.{choice-allowed}
use Rattle.mp_search.specs.declared.mode.Mode.{Mode}
use Rattle.mp_search.specs.declared.mode.Mode.TheVariants.{First, After, At}
use Rattle.mp_search.specs.declared.query.Query.{Query}
use Rattle.mp_search.specs.Wanted.{IsStanding, AreComplete, IsComplete}

-- behind an entry whose take is bound
pub by-bound : (sig : Sig) (j : ℕ) (n : Next) (s r : Subst) (e : Entry) → solve sig s (said n e) ≡ Some r
    → items_by sig j n s e ≡ map (behind e) (items sig j (onward n e) r)
by-bound sig j n s r e h = ap (λ o. map (behind e) (listed_by (λ r. items sig j (onward n e) r) o)) h

tail-same : {c d : Entry} {V W : Table} → c ∷ V ≡ d ∷ W → V ≡ W
tail-same q = cc

-- a table with an entry in front is that of an item behind it
in-behind : (e : Entry) (W : Table) (is : List Item) → In (e ∷ W) (item_tables (map (behind e) is))
    → In W (item_tables is)
in-behind e W [] h = absurd h
in-behind e W (i ∷ is) (inl p) = inl (tail-same p)
in-behind e W (i ∷ is) (inr k) = inr (in-behind e W is k)

pub standing-suc : (sig : Sig) (m : Mode) (j : ℕ) (n : Next) (s r : Subst) (e : Entry) (W : Table)
    → solve sig s (said n e) ≡ Some r → IsStanding m (e ∷ W) (items_by sig j n s e)
    → IsStanding m W (items sig j (onward n e) r)
standing-suc sig First j n s r e W b h = tt
standing-suc sig At j n s r e W b h = tt
standing-suc sig After j n s r e W b h = in-behind e W (items sig j (onward n e) r)
    (subst (λ is. In (e ∷ W) (item_tables is)) (by-bound sig j n s r e b) h)

-- the table at hand begins with a choice, and is that of an item behind it
pub record Begins (sig : Sig) (j : ℕ) (n : Next) (s : Subst) (e : Entry) (W : Table) : Type 0 where
  pub allowed : allows sig n e ≡ true
  pub behind : In (e ∷ W) (item_tables (items_by sig j n s e))
  pub drawn : (es : List Entry) → LeadsTo sig n s es (choices sig n) → In e es

pub standing-begins : (sig : Sig) (j : ℕ) (n : Next) (s : Subst) (e : Entry) (W : Table)
    → In (e ∷ W) (item_tables (items sig (suc j) n s)) → Begins sig j n s e W
standing-begins sig j n s e W h =
    let m = from_in-map (λ i. i.0) (e ∷ W) (items sig (suc j) n s) h in
    let i = m.0 in
    let at : In {X = Item} (e ∷ W, i.1) (flat_map (items_by sig j n s) (choices sig n)) =
    subst (λ T. In {X = Item} (T, i.1) (flat_map (items_by sig j n s) (choices sig n))) (sym m.1) m.2 in
    let a = from_in-flat (items_by sig j n s) (e ∷ W, i.1) (choices sig n) at in
    let same = (from_in-items_by sig j n s a.0 e W i.1 a.2).0 in
    record {
      allowed = (choice-allowed sig n e).0 (subst (λ d. In d (choices sig n)) (sym same) a.1);
      behind = in-map (λ i. i.0) (e ∷ W, i.1) (items_by sig j n s e)
          (subst (λ d. In {X = Item} (e ∷ W, i.1) (items_by sig j n s d)) (sym same) a.2);
      drawn = λ es l. in-leads sig j n s es (choices sig n) e W i.1 l at;
    }

-- where nothing is asked of items, or each substitution is complete
module _ (q : Query) where
  pub complete-part : (is js : List Item) → ((i : Item) → In i js → In i is) → AreComplete q is → AreComplete q js
  complete-part is js p h =
      elim q.condition as
      (λ c. (elim c as (λ _. Type 0)
      [ None ↦ ⊤ | Some d ↦ AllByRecursion (λ i. IsComplete q.plan.now.variables i.1) is ])
      → elim c as (λ _. Type 0) [ None ↦ ⊤ | Some d ↦ AllByRecursion (λ i. IsComplete q.plan.now.variables i.1) js ]) [
        | None ↦ λ a. tt
        | Some c ↦ λ a. all-from_in (λ i. IsComplete q.plan.now.variables i.1) js
            (λ i k. all_in (λ i. IsComplete q.plan.now.variables i.1) is i a (p i k))
      ] h

  -- behind one of the entries
  pub complete-by : (j : ℕ) (n : Next) (s : Subst) (e : Entry) (es : List Entry) → In e es
      → AreComplete q (flat_map (items_by q.sig.now j n s) es) → AreComplete q (items_by q.sig.now j n s e)
  complete-by j n s e es h = complete-part (flat_map (items_by q.sig.now j n s) es) (items_by q.sig.now j n s e)
      (λ i k. in-flat (items_by q.sig.now j n s) e i es h k)

  complete-map : (e : Entry) (is : List Item)
      → AllByRecursion (λ i. IsComplete q.plan.now.variables i.1) (map (behind e) is)
      → AllByRecursion (λ i. IsComplete q.plan.now.variables i.1) is
  complete-map e [] h = tt
  complete-map e (i ∷ is) h = (h.0, complete-map e is h.1)

  pub complete-suc : (j : ℕ) (n : Next) (s r : Subst) (e : Entry) → solve q.sig.now s (said n e) ≡ Some r
      → AreComplete q (items_by q.sig.now j n s e) → AreComplete q (items q.sig.now j (onward n e) r)
  complete-suc j n s r e b h =
      elim q.condition as
      (λ c. (elim c as (λ _. Type 0) [
        | None ↦ ⊤
        | Some d ↦ AllByRecursion (λ i. IsComplete q.plan.now.variables i.1)
            (map (behind e) (items q.sig.now j (onward n e) r))
      ]) → elim c as (λ _. Type 0) [
        | None ↦ ⊤
        | Some d ↦ AllByRecursion (λ i. IsComplete q.plan.now.variables i.1) (items q.sig.now j (onward n e) r)
      ]) [
        | None ↦ λ a. tt
        | Some c ↦ λ a. complete-map e (items q.sig.now j (onward n e) r) a
      ] (subst (AreComplete q) (by-bound q.sig.now j n s r e b) h)
