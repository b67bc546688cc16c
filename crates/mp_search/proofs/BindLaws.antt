-- What binding a variable in the trail makes of its substitution.
use Rattle.std.proofs.Common.{◌≡◌, ℕ, List, [], ◌∷◌, Bool, true, false, refl, ap, sym, ◌∙◌, subst, length, suc}
use Rattle.std.proofs.Common.{arith}
use Rattle.std.specs.Prelude.{Option, Some, None, option_map, IsTrue, IsFalse, MatchBool, IsSome, if◌then◌else◌, nat_lt}
use Rattle.std.proofs.lemmas.Bool.Decides.{nat_tests}
use Rattle.mp_term.specs.Tree.{Tree, app, trees}
use Rattle.mp_term.specs.Signature.{Sig, is_assoc, in_kind}
use Rattle.mp_pattern.specs.Value.{Value, one, one_form}
use Rattle.mp_pattern.specs.PatternTree.{Wildcard, dot, kind, plus, star, optional, counted, meets_count, is_sequence}
use Rattle.mp_pattern.specs.PatternTree.{Pattern, symbol_pattern, app_pattern, wild_pattern}
use Rattle.mp_pattern.specs.Fits.{is_left_out}
use Rattle.mp_table.specs.Table.{Table, term_at, terms_at}
use Rattle.mp_table.specs.declared.rank.Rank.{Rank}
use Rattle.mp_subst.specs.Bound.{Bound, value_in, AreRanksOf}
use Rattle.mp_subst.specs.Trail.{Trail, TrailEntry, joined, IsBind}
use Rattle.mp_theory.specs.Solve.{bind, given, contributor, of_kind, is_alone, sequence}
use Rattle.mp_search.specs.declared.query.Query.{Query}
use Rattle.mp_term.specs.Listing.{In}
use Rattle.mp_search.specs.Numbers.{IsNumberOf, IsNumberAt}
use Rattle.mp_search.specs.Reading.{name_at, set, subst_from, subst_of}
use Rattle.mp_search.proofs.SubstLaws.{subst_from-more, bind-subst_from}

module _ (q : Query) (old new : Trail) (v : ℕ) (w : Value) where
  -- the entry that is put on the stack sets the name of its number
  pub bound-set : IsBind q.table.now old new v w → (x : List ℕ) → IsNumberOf q x v
      → bind (subst_of q old) x w ≡ Some (subst_of q new)
  bound-set b x n =
      let t : Table = q.table.now in
      let e : TrailEntry = record { var = v; value = b.bound; spare = old.spare } in
      bind-subst_from t (name_at q) x v n.name n.only old.stack w
      ∙ ap (option_map (set (subst_of q old) x)) b.value
      ∙ ap Some (sym (subst_from-more t (name_at q) [] old.stack e x n.name))
      ∙ ap (λ es. Some (subst_from t (name_at q) [] es)) (sym b.stack)

  -- what doesn't merge isn't bound
  pub unbound-set : joined q.table.now old.stack v w ≡ None → (x : List ℕ) → IsNumberOf q x v
      → bind (subst_of q old) x w ≡ None
  unbound-set e x n = bind-subst_from q.table.now (name_at q) x v n.name n.only old.stack w
      ∙ ap (option_map (set (subst_of q old) x)) e

module _ (sig : Sig) (t : Table) where
  -- a sequence wildcard gives a sequence
  pub given-sequence : (f : Option ℕ) (w : Wildcard) (ts : List Tree) → is_sequence w ≡ true → IsSome (given sig f w ts)
      → given sig f w ts ≡ Some (sequence sig f ts)
  given-sequence f dot ts h k = cc
  given-sequence f (kind n) ts h k = cc
  given-sequence f plus [] h k = cc
  given-sequence f plus (u ∷ ts) h k = refl
  given-sequence f star ts h k = refl
  given-sequence f (counted n c) ts h k = elim (meets_count n c (length ts)) as
      (λ b. IsSome (if b then Some (sequence sig f ts) else None)
      → (if b then Some (sequence sig f ts) else None) ≡ Some (sequence sig f ts))
      [ true ↦ λ i. refl | false ↦ λ i. cc ] k
  given-sequence f (optional d) ts h k = cc

  -- one term by ranks: that of the one rank, or the operation above applied to several
  abbrev single : Option ℕ → List Rank → Bound
  single f rs = record { form = one_form; wrap = if nat_lt 1 (length rs) then f else None; ranks = rs }

  pub record IsGivenBy (o : Option Value) (b : Bound) : Type 0 where
    pub value : o ≡ Some (value_in t b)
    pub formed : AreRanksOf b.form b.wrap b.ranks

  pub contributor-single : (f : Option ℕ) (rs : List Rank) → IsSome (contributor sig f (terms_at t rs))
      → IsGivenBy (contributor sig f (terms_at t rs)) (single f rs)
  contributor-single f [] k = cc
  contributor-single f (r ∷ []) k =
      elim (is_alone sig f (term_at t r)) as (λ b. IsSome (if b then Some (one (term_at t r)) else None)
      → IsGivenBy (if b then Some (one (term_at t r)) else None) (single f (r ∷ []))) [
        | true ↦ λ i. record { value = refl; formed = refl }
        | false ↦ λ i. cc
      ] k
  contributor-single None (r ∷ s ∷ rs) k = cc
  contributor-single (Some f) (r ∷ s ∷ rs) k =
      let several : nat_lt 1 (suc (suc (length rs))) ≡ true = grind (arith, nat_tests) in
      let v : Value = one (app f (trees (terms_at t (r ∷ s ∷ rs)))) in
      let b : Bound = record { form = one_form; wrap = Some f; ranks = r ∷ s ∷ rs } in
      let same : single (Some f) (r ∷ s ∷ rs) ≡ b =
      ap (λ c. record { form = one_form; wrap = if c then Some f else None; ranks = r ∷ s ∷ rs }) several in
      subst (IsGivenBy (contributor sig (Some f) (terms_at t (r ∷ s ∷ rs)))) (sym same)
      (elim (is_assoc sig f) as (λ c. IsSome (if c then Some v else None) → IsGivenBy (if c then Some v else None) b) [
        | true ↦ λ i. record { value = refl; formed = tt }
        | false ↦ λ i. cc
      ] k)

  pub of_kind-single : (f : Option ℕ) (n : ℕ) (rs : List Rank) → IsSome (of_kind sig n (terms_at t rs))
      → IsGivenBy (of_kind sig n (terms_at t rs)) (single f rs)
  of_kind-single f n [] k = cc
  of_kind-single f n (r ∷ []) k =
      elim (in_kind sig n (term_at t r)) as (λ b. IsSome (if b then Some (one (term_at t r)) else None)
      → IsGivenBy (if b then Some (one (term_at t r)) else None) (single f (r ∷ []))) [
        | true ↦ λ i. record { value = refl; formed = refl }
        | false ↦ λ i. cc
      ] k
  of_kind-single f n (r ∷ s ∷ rs) k = cc

  -- any other wildcard gives one term, where it isn't left out
  pub given-single : (f : Option ℕ) (w : Wildcard) (rs : List Rank) → is_sequence w ≡ false
      → IsSome (given sig f w (terms_at t rs)) → is_left_out (wild_pattern w None) (terms_at t rs) ≡ false
      → IsGivenBy (given sig f w (terms_at t rs)) (single f rs)
  given-single f dot rs h k l = contributor-single f rs k
  given-single f (kind n) rs h k l = of_kind-single f n rs k
  given-single f plus rs h k l = cc
  given-single f star rs h k l = cc
  given-single f (counted n c) rs h k l = cc
  given-single f (optional d) [] h k l = cc
  given-single f (optional d) (r ∷ rs) h k l = contributor-single f (r ∷ rs) k

-- whether it is bound, and to what
pub bind-outcome : (q : Query) (old new : Trail) (v : ℕ) (w : Value) (r : Bool)
    → (IsTrue r → IsBind q.table.now old new v w) → (IsFalse r → joined q.table.now old.stack v w ≡ None)
    → (x : List ℕ) → IsNumberOf q x v
    → MatchBool r (bind (subst_of q old) x w ≡ Some (subst_of q new)) (bind (subst_of q old) x w ≡ None)
bind-outcome q old new v w true h k x n = bound-set q old new v w (h refl) x n
bind-outcome q old new v w false h k x n = unbound-set q old new v w (k refl) x n

-- the number of a node's variable is one of the numbers
pub number-listed : (q : Query) (p : Pattern) (v : ℕ) → IsNumberAt q p (Some v) → In v q.vars.now
number-listed q (symbol_pattern m) v n = cc
number-listed q (app_pattern g ps) v n = cc
number-listed q (wild_pattern w None) v n = cc
number-listed q (wild_pattern w (Some x)) v n = n.listed
