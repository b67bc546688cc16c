-- Which rule admits something on a term first, and what.
use Rattle.std.proofs.Common.{◌≡◌, ℕ, zero, suc, ◌<◌, List, [], ◌∷◌, refl, ap, ◌∙◌, arith, subst}
use Rattle.std.specs.Prelude.{Option, Some, None, Contains, slice_get, option_map}
use Rattle.std.specs.Option.{option_or}
use Rattle.std.proofs.lemmas.Option.{slice_get_within, get_or_from_slice_get}
use Rattle.mp_term.specs.Tree.{Tree}
use Rattle.mp_term.specs.Signature.{Sig}
use Rattle.mp_term.specs.Normal.{IsNormal}
use Rattle.mp_term.proofs.ReplaceLaws.{neither}
use Rattle.mp_pattern.specs.Value.{Subst}
use Rattle.mp_pattern.specs.Admission.{Rule, Admits}
use Rattle.mp_pattern.specs.Lists.{IsOneList}
use Rattle.mp_theory.specs.OneList.{one_list}
use Rattle.mp_theory.proofs.OneListLaws.{one_list-is}
use Rattle.mp_theory.proofs.Unique.{IsOneList-unique}
use Rattle.mp_rewrite.specs.Computed.{Match, rule_match, first_match}

-- ---- options and lists

-- the item at an index is one of the list
pub Contains-slice_get : {X : Type 0} (xs : List X) (n : ℕ) (x : X) → slice_get xs n ≡ Some x → Contains xs x
Contains-slice_get xs n x e = (n, slice_get_within xs n x e, get_or_from_slice_get xs n x x e)

-- ---- one rule, and several

module _ (sig : Sig) (t : Tree) where
  -- the match is that of the least rule that admits something, with the first substitution of its one-list
  pub record IsFirstMatch (rs : List Rule) (m : Match) : Type 0 where
    pub number : ℕ
    pub held : slice_get rs number ≡ Some m.rule
    pub least : (n : ℕ) (r : Rule) → n < number → slice_get rs n ≡ Some r → (s : Subst) → Admits sig r t s → ⊥
    pub later : List Subst
    pub listed : IsOneList sig m.rule t (m.subst ∷ later)

  -- what is listed is admitted
  pub Admits-listed : (r : Rule) (s : Subst) (later : List Subst) → IsOneList sig r t (s ∷ later) → Admits sig r t s
  Admits-listed r s later h = (h.exactly s).0 (Contains-slice_get (s ∷ later) 0 s refl)

  module _ (normal : IsNormal sig t) where
    by_list-None : (r : Rule) (l : List Subst) → IsOneList sig r t l
        → option_map (λ s. let m : Match = record { rule = r; subst = s } in m) (slice_get l 0) ≡ None
        → (s : Subst) → Admits sig r t s → ⊥
    by_list-None r [] h e s a = let k = (h.exactly s).1 a in omega (arith, k.1)
    by_list-None r (x ∷ l) h e s a = cc

    -- without a match the rule admits nothing
    pub rule_match-None : (r : Rule) → rule_match sig r t ≡ None → (s : Subst) → Admits sig r t s → ⊥
    rule_match-None r e = by_list-None r (one_list sig r t) (one_list-is sig r t normal) e

    by_list-Some : (r : Rule) (m : Match) (l : List Subst) → IsOneList sig r t l
        → option_map (λ s. let m : Match = record { rule = r; subst = s } in m) (slice_get l 0) ≡ Some m
        → (r ≡ m.rule) × ((later : List Subst) × IsOneList sig r t (m.subst ∷ later))
    by_list-Some r m [] h e = cc
    by_list-Some r m (x ∷ l) h e =
        let same : x ≡ m.subst = cc in
        (cc, (l, subst (λ y. IsOneList sig r t (y ∷ l)) same h))

    -- a match of the rule is the first of its one-list
    pub rule_match-Some : (r : Rule) (m : Match) → rule_match sig r t ≡ Some m
        → (r ≡ m.rule) × ((later : List Subst) × IsOneList sig r t (m.subst ∷ later))
    rule_match-Some r m e = by_list-Some r m (one_list sig r t) (one_list-is sig r t normal) e

    -- the first of the one-list is the match
    pub rule_match-listed : (r : Rule) (s : Subst) (later : List Subst) → IsOneList sig r t (s ∷ later)
        → rule_match sig r t ≡ Some (record { rule = r; subst = s })
    rule_match-listed r s later h =
        let same = IsOneList-unique sig t r normal (one_list sig r t) (s ∷ later) (one_list-is sig r t normal) h in
        ap (λ l. option_map (λ s. let m : Match = record { rule = r; subst = s } in m) (slice_get l 0)) same

    -- without a match no rule admits anything
    pub first_match-None : (rs : List Rule) → first_match sig rs t ≡ None → (n : ℕ) (r : Rule) → slice_get rs n ≡ Some r
        → (s : Subst) → Admits sig r t s → ⊥
    first_match-None [] e n r held s a = cc
    first_match-None (q ∷ rs) e zero r held s a =
        let same : q ≡ r = cc in
        rule_match-None r (subst (λ x. rule_match sig x t ≡ None) same (neither _ _ e).0) s a
    first_match-None (q ∷ rs) e (suc n) r held s a = first_match-None rs (neither _ _ e).1 n r held s a

    behind : (q : Rule) (rs : List Rule) (m : Match) → rule_match sig q t ≡ None → IsFirstMatch rs m
        → IsFirstMatch (q ∷ rs) m
    behind q rs m none h = record {
      number = suc h.number;
      held = h.held;
      least = λ n. elim n as (λ n. (r : Rule) → n < suc h.number → slice_get (q ∷ rs) n ≡ Some r
          → (s : Subst) → Admits sig r t s → ⊥) [
            | zero ↦ λ r below held s a. let same : q ≡ r = cc in
                rule_match-None r (subst (λ x. rule_match sig x t ≡ None) same none) s a
            | suc n ↦ λ r below held s a. h.least n r (omega arith) held s a
          ];
      later = h.later;
      listed = h.listed;
    }

    first_match-either : (q : Rule) (rs : List Rule) (m : Match) (o : Option Match) → rule_match sig q t ≡ o
        → (first_match sig rs t ≡ Some m → IsFirstMatch rs m)
        → option_or o (first_match sig rs t) ≡ Some m → IsFirstMatch (q ∷ rs) m
    first_match-either q rs m None here later e = behind q rs m here (later e)
    first_match-either q rs m (Some x) here later e =
        let same : rule_match sig q t ≡ Some m = here ∙ e in
        let found = rule_match-Some q m same in
        record {
          number = 0;
          held = ap Some found.0;
          least = λ n r below held s a. omega (arith, below);
          later = found.1.0;
          listed = subst (λ r. IsOneList sig r t (m.subst ∷ found.1.0)) found.0 found.1.1;
        }

    -- the first match is that of the least rule
    pub first_match-Some : (rs : List Rule) (m : Match) → first_match sig rs t ≡ Some m → IsFirstMatch rs m
    first_match-Some [] m e = cc
    first_match-Some (q ∷ rs) m e =
        first_match-either q rs m (rule_match sig q t) refl (λ f. first_match-Some rs m f) e

    -- a rule that admits nothing has no match
    rule_match-refused : (r : Rule) (o : Option Match) → rule_match sig r t ≡ o → ((s : Subst) → Admits sig r t s → ⊥)
        → rule_match sig r t ≡ None
    rule_match-refused r None e h = e
    rule_match-refused r (Some m) e h =
        let found = rule_match-Some r m e in
        absurd (h m.subst (Admits-listed r m.subst found.1.0 found.1.1))

    first_match-at : (rs : List Rule) (m : Match) (number : ℕ) → slice_get rs number ≡ Some m.rule
        → ((n : ℕ) (r : Rule) → n < number → slice_get rs n ≡ Some r → (s : Subst) → Admits sig r t s → ⊥)
        → (later : List Subst) → IsOneList sig m.rule t (m.subst ∷ later) → first_match sig rs t ≡ Some m
    first_match-at [] m number held least later listed = cc
    first_match-at (q ∷ rs) m zero held least later listed =
        let same : m.rule ≡ q = cc in
        let here : rule_match sig q t ≡ Some m = subst (λ r. rule_match sig r t ≡ Some m) same
        (rule_match-listed m.rule m.subst later listed) in
        ap (λ o. option_or o (first_match sig rs t)) here
    first_match-at (q ∷ rs) m (suc number) held least later listed =
        let none = rule_match-refused q (rule_match sig q t) refl (λ s a. least 0 q (omega arith) refl s a) in
        ap (λ o. option_or o (first_match sig rs t)) none
        ∙ first_match-at rs m number held (λ n r below at s a. least (suc n) r (omega arith) at s a) later listed

    -- that of the least rule is the first match
    pub first_match-is : (rs : List Rule) (m : Match) → IsFirstMatch rs m → first_match sig rs t ≡ Some m
    first_match-is rs m h = first_match-at rs m h.number h.held h.least h.later h.listed
