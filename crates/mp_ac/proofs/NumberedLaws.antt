-- What binding a variable makes of the substitution of a trail that is read by numbers.
use Rattle.std.proofs.Common.{◌≡◌, ◌<◌, ◌≤◌, ◌+◌, length, ℕ, [], Bool, true, false, refl, ap, sym, ◌∙◌, arith}
use Rattle.std.specs.Prelude.{Some, None, option_map, IsTrue, IsFalse, MatchBool, nat_lt, if◌then◌else◌}
use Rattle.std.proofs.lemmas.Bool.Decides.{nat_tests}
use Rattle.std.proofs.lemmas.Fmt.{decimal_injective}
use Rattle.mp_pattern.specs.declared.limits.TheConstants.{MAX_VARIABLES}
use Rattle.mp_pattern.specs.NetTokens.{numbered}
use Rattle.mp_pattern.specs.Value.{Value}
use Rattle.mp_table.specs.Table.{Table}
use Rattle.mp_subst.specs.Trail.{Trail, TrailEntry, joined, IsBind, cut}
use Rattle.mp_theory.specs.Solve.{bind}
use Rattle.mp_search.specs.Reading.{set, subst_from}
use Rattle.mp_search.proofs.SubstLaws.{subst_from-more, bind-subst_from}
use Rattle.mp_subst.proofs.TrailLaws.{cut-whole, cut-cut, length-kept}
use Rattle.mp_ac.specs.Numbered.{name_of, numbered_subst, IsTrailOf, LiesOver}

-- the name of a number within the limit, which is no other number's
pub name_of-less : (v : ℕ) → v < MAX_VARIABLES → name_of v ≡ Some (numbered v)
name_of-less v h = (let e : nat_lt v MAX_VARIABLES ≡ true = grind (arith, nat_tests) in rw e refl)

pub name_of-only : (u v : ℕ) → v < MAX_VARIABLES → name_of u ≡ Some (numbered v) → u ≡ v
name_of-only u v h e = by_test (nat_lt u MAX_VARIABLES) refl e
  where
    by_test : (b : Bool) → nat_lt u MAX_VARIABLES ≡ b → (if b then Some (numbered u) else None) ≡ Some (numbered v)
        → u ≡ v
    by_test true l i =
        let less : u < MAX_VARIABLES = grind (arith, nat_tests) in
        decimal_injective u v (omega arith) (omega arith) (grind arith)
    by_test false l i = cc

module _ (t : Table) (old new : Trail) (v : ℕ) (w : Value) (h : v < MAX_VARIABLES) where
  bound-put : IsBind t old new v w
      → bind (numbered_subst t old.stack) (numbered v) w ≡ Some (numbered_subst t new.stack)
  bound-put b =
      let e : TrailEntry = record { var = v; value = b.bound; spare = old.spare } in
      bind-subst_from t name_of (numbered v) v (name_of-less v h) (λ u. name_of-only u v h) old.stack w
      ∙ ap (option_map (set (numbered_subst t old.stack) (numbered v))) b.value
      ∙ ap Some (sym (subst_from-more t name_of [] old.stack e (numbered v) (name_of-less v h)))
      ∙ ap (λ es. Some (subst_from t name_of [] es)) (sym b.stack)

  pub unbound-clash : joined t old.stack v w ≡ None → bind (numbered_subst t old.stack) (numbered v) w ≡ None
  unbound-clash e =
      bind-subst_from t name_of (numbered v) v (name_of-less v h) (λ u. name_of-only u v h) old.stack w
      ∙ ap (option_map (set (numbered_subst t old.stack) (numbered v))) e

  -- whether the variable is bound, and to what
  pub bind-numbered : (r : Bool) → (IsTrue r → IsBind t old new v w) → (IsFalse r → joined t old.stack v w ≡ None)
      → MatchBool r (bind (numbered_subst t old.stack) (numbered v) w ≡ Some (numbered_subst t new.stack))
      (bind (numbered_subst t old.stack) (numbered v) w ≡ None)
  bind-numbered true b c = bound-put (b refl)
  bind-numbered false b c = unbound-clash (c refl)

-- where nothing is bound
pub lies-same : (t : Table) (cost : ℕ) (u : Trail) → IsTrailOf t u → LiesOver t cost u u
lies-same t cost u h = record { cut = cut-whole u; trail = h; spare = omega arith }

-- a trail that takes less takes no more, and one that lies over another one lies over what that lies over
pub lies-more : (t : Table) (m n : ℕ) (u v : Trail) → m ≤ n → LiesOver t m u v → LiesOver t n u v
lies-more t m n u v h l = record { cut = l.cut; trail = l.trail; spare = (let s = l.spare in omega arith) }

pub lies-then : (t : Table) (m n : ℕ) (u v w : Trail) → LiesOver t m u v → LiesOver t n v w
    → LiesOver t (m + n) u w
lies-then t m n u v w l k = record {
  cut = sym (cut-cut (length u.stack) (length v.stack) w (length-kept u v l.cut) (length-kept v w k.cut))
      ∙ ap (cut (length u.stack)) k.cut
      ∙ l.cut;
  trail = k.trail;
  spare = (let s = l.spare in let r = k.spare in omega arith);
}
