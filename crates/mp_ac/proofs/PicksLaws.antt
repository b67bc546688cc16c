-- The picks of the children that take one term each, as the terms that they may take are put together.
use Rattle.std.proofs.Common.{◌≡◌, ◌+◌, ◌<◌, ◌≤◌, ℕ, zero, suc, List, [], ◌∷◌, ◌++◌, drop, length}
use Rattle.std.proofs.Common.{◌*◌, min, get_or, refl, sym, subst, ◌∙◌, arith, inl, inr, below_more}
use Rattle.std.specs.Prelude.{◌-◌, ◌⊎◌, Option, Some, slice_get, slice_set}
use Rattle.std.specs.List.{AllByRecursion}
use Rattle.std.proofs.Math.Nat.{le-mul_of_pos_right}
use Rattle.std.proofs.lemmas.List.{length-append}
use Rattle.mp_term.specs.Tree.{Tree}
use Rattle.mp_pattern.specs.PatternTree.{Pattern}
use Rattle.mp_table.specs.Table.{Table}
use Rattle.mp_table.specs.declared.rank.Rank.{Rank}
use Rattle.mp_ac.specs.Begin.{IsBlocked}
use Rattle.mp_ac.specs.Candidates.{AreChoices}
use Rattle.mp_ac.specs.CommPlans.{AreLeads, IsLead}
use Rattle.mp_ac.specs.Seek.{ArePicksOf, IsPickOf}
use Rattle.mp_ac.specs.declared.comm_plans.CommPlans.{CommPlans}
use Rattle.mp_ac.specs.declared.pick.Pick.{Pick}
use Rattle.mp_ac.proofs.CandidateLaws.{get-set, part-behind}
use Rattle.mp_ac.proofs.Parts.{taken-more}

pub all-drop : {X : Type 0} (P : X → Type 0) (n : ℕ) (xs : List X) → AllByRecursion P xs → AllByRecursion P (drop n xs)
all-drop P zero xs h = h
all-drop P (suc n) [] h = tt
all-drop P (suc n) (x ∷ xs) h = all-drop P n xs h.1

-- what is written stands there
get-set_same : {X : Type 0} (xs : List X) (i : ℕ) (v w : X) → slice_get (slice_set xs i v) i ≡ Some w → w ≡ v
get-set_same [] i v w e = cc
get-set_same (x ∷ xs) zero v w e = cc
get-set_same (x ∷ xs) (suc i) v w e = get-set_same xs i v w e

-- a product with a number above 0, kept below a limit, is 0 only where the other number is
pub none-left : (m n limit : ℕ) → 0 < m → 0 < limit → min (m * n) limit ≡ 0 → n ≡ 0
none-left m zero limit some room e = refl
none-left m (suc n) limit some room e =
    absurd (omega (arith, le-mul_of_pos_right {m = suc n} m (omega arith), some, room, e))

-- one leading child stands by each number
pub lead-at : (x : CommPlans) (ns : List ℕ) (ps : List Pattern) (i : ℕ) → AreLeads x ns ps → i < length ns
    → (p : Pattern) × (next : Option Pattern) × IsLead x (get_or ns i 0) p next
lead-at x [] ps i h less = absurd (omega (arith, less))
lead-at x (n ∷ ns) [] i h less = absurd h
lead-at x (n ∷ ns) (p ∷ ps) zero h less = (p, slice_get ps 0, h.0)
lead-at x (n ∷ ns) (p ∷ ps) (suc i) h less = lead-at x ns ps i h.1 (omega (arith, less))

-- with the choices of the leading child at a place, none is left from there on, where that one has none or none is
-- left behind it
pub blocked-at : (t : Table) (us : List Tree) (x : CommPlans) (ns : List ℕ) (ps : List Pattern) (i : ℕ) (rs : List Rank)
    → AreLeads x ns ps → i < length ns
    → ((p : Pattern) (next : Option Pattern) → IsLead x (get_or ns i 0) p next → AreChoices t p next us rs)
    → ((rs ≡ []) ⊎ IsBlocked t us (drop (suc i) ps)) → IsBlocked t us (drop i ps)
blocked-at t us x [] ps i rs h less own end = absurd (omega (arith, less))
blocked-at t us x (n ∷ ns) [] i rs h less own end = absurd h
blocked-at t us x (n ∷ ns) (p ∷ ps) zero rs h less own end = (rs, own p (slice_get ps 0) h.0, end)
blocked-at t us x (n ∷ ns) (p ∷ ps) (suc i) rs h less own end =
    blocked-at t us x ns ps i rs h.1 (omega (arith, less)) own end

module _ (t : Table) (us : List Tree) (w : ℕ) where
  -- a pick stays one where there are more choices
  pick-more : (cs ds : List Rank) (p : Pattern) (next : Option Pattern) (k : Pick) → IsPickOf t us w cs p next k
      → IsPickOf t us w (cs ++ ds) p next k
  pick-more cs ds p next k h = record {
    onward = h.onward;
    within = omega (arith, h.within, length-append cs ds);
    at = h.at;
    choices = subst (AreChoices t p next us)
        (sym (taken-more k.from (k.end - k.from) cs ds (omega (arith, h.within, h.onward)))) h.choices;
    room = h.room;
  }

  -- the pick of what is put behind the choices
  pick-new : (cs part : List Rank) (p : Pattern) (next : Option Pattern) (k : Pick) → k.from ≡ length cs
      → k.end ≡ length cs + length part → k.at ≡ length cs → w ≤ k.rest.room → AreChoices t p next us part
      → IsPickOf t us w (cs ++ part) p next k
  pick-new cs part p next k first last at room h = record {
    onward = omega (arith, first, last);
    within = omega (arith, last, length-append cs part);
    at = λ less. (omega (arith, first, at), omega (arith, less, first, at));
    choices = subst (AreChoices t p next us)
        (sym (part-behind cs part (cs ++ part) k.from k.end refl first (last ∙ sym (length-append cs part)))) h;
    room = room;
  }

  module _ (x : CommPlans) where
    module _ (ns : List ℕ) where
      -- the first leading children, by their numbers, have their picks
      abbrev pub HavePicks : List Rank → List Pick → ℕ → Type 0
      HavePicks cs ks i = (j : ℕ) → j < i → (n : ℕ) (p : Pattern) (next : Option Pattern) (k : Pick)
          → slice_get ns j ≡ Some n → IsLead x n p next → slice_get ks j ≡ Some k → IsPickOf t us w cs p next k

      -- and so has one more whose choices are put behind the others
      pub picked-more : (cs part : List Rank) (ks : List Pick) (i n : ℕ) (v : Pick) → HavePicks cs ks i
          → slice_get ns i ≡ Some n → v.from ≡ length cs → v.end ≡ length cs + length part → v.at ≡ length cs
          → w ≤ v.rest.room
          → ((p : Pattern) (next : Option Pattern) → IsLead x n p next → AreChoices t p next us part)
          → HavePicks (cs ++ part) (slice_set ks i v) (i + 1)
      picked-more cs part ks i n v h own first last at room choices = below_more
          (λ j. (m : ℕ) (p : Pattern) (next : Option Pattern) (k : Pick) → slice_get ns j ≡ Some m → IsLead x m p next
          → slice_get (slice_set ks i v) j ≡ Some k → IsPickOf t us w (cs ++ part) p next k) i
          (λ j less m p next k number lead found. elim (get-set ks i j v k found) [
            | inl same ↦ absurd (omega (arith, less, same.0))
            | inr before ↦ pick-more cs part p next k (h j less m p next k number lead before)
          ])
          (λ m p next k number lead found.
          let alike : m ≡ n = (let e : Some n ≡ Some m = sym own ∙ number in cc) in
          subst (IsPickOf t us w (cs ++ part) p next) (sym (get-set_same ks i v k found))
          (pick-new cs part p next v first last at room (choices p next (subst (λ l. IsLead x l p next) alike lead))))

    -- the picks of all leading children
    pub picks-of : (cs : List Rank) (ns : List ℕ) (ps : List Pattern) (ks : List Pick)
        → ((j n : ℕ) (p : Pattern) (next : Option Pattern) (k : Pick) → slice_get ns j ≡ Some n → IsLead x n p next
        → slice_get ks j ≡ Some k → IsPickOf t us w cs p next k) → length ns ≤ length ks → AreLeads x ns ps
        → ArePicksOf t us w cs ps ks
    picks-of cs [] [] ks h few e = tt
    picks-of cs [] (p ∷ ps) ks h few e = absurd e
    picks-of cs (n ∷ ns) [] ks h few e = absurd e
    picks-of cs (n ∷ ns) (p ∷ ps) [] h few e = absurd (omega (arith, few))
    picks-of cs (n ∷ ns) (p ∷ ps) (k ∷ ks) h few e = (
      h 0 n p (slice_get ps 0) k refl e.0 refl,
      picks-of cs ns ps ks (λ j m q next l number lead found. h (suc j) m q next l number lead found)
          (omega (arith, few)) e.1,
    )
