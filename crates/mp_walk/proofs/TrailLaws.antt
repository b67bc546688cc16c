-- What a sequence variable of a walk, once it is bound, takes.
use Rattle.std.proofs.Common.{◌≡◌, ◌<◌, ℕ, List, [], ◌∷◌, length, Bool, true, false, refl, ap, sym, ◌∙◌}
use Rattle.std.specs.Prelude.{◌≢◌, Option, Some, None, if◌then◌else◌}
use Rattle.std.specs.Option.{option_and_then}
use Rattle.std.proofs.lemmas.List.{length-map}
use Rattle.mp_term.specs.Signature.{Sig}
use Rattle.mp_term.specs.Tree.{Tree}
use Rattle.mp_pattern.specs.declared.limits.TheConstants.{MAX_VARIABLES}
use Rattle.mp_pattern.specs.NetTokens.{numbered}
use Rattle.mp_pattern.specs.PatternTree.{Wildcard, dot, kind, plus, star, counted, optional, is_sequence, meets_count}
use Rattle.mp_pattern.specs.Value.{seq, seq_form, same_terms, merge}
use Rattle.mp_pattern.specs.Variables.{comm_above}
use Rattle.mp_table.specs.Table.{Table, term_at, terms_at}
use Rattle.mp_subst.specs.Bound.{Bound, value_in, value_from}
use Rattle.mp_subst.specs.Trail.{Trail, last_value}
use Rattle.mp_theory.proofs.Merging.{same_terms-sound}
use Rattle.mp_theory.specs.Solve.{bind, sequence}
use Rattle.mp_ac.specs.Numbered.{numbered_subst}
use Rattle.mp_ac.proofs.NumberedLaws.{unbound-clash}
use Rattle.mp_walk.specs.Trails.{told_by}

-- a sequence variable that is bound to a list takes no list of another length
module _ (sig : Sig) (t : Table) (u : Trail) (v : ℕ) (h : v < MAX_VARIABLES) (b : Bound)
    (e : last_value u.stack v ≡ Some b) (s : b.form ≡ seq_form) (f : Option ℕ) (o : comm_above sig f ≡ false) where
  bind-other_length : (ts : List Tree) → length ts ≢ length b.ranks
      → bind (numbered_subst t u.stack) (numbered v) (seq ts) ≡ None
  bind-other_length ts d = unbound-clash t u u v (seq ts) h
      (ap (λ o. elim o [ None ↦ Some (seq ts) | Some k ↦ merge (value_in t k) (seq ts) ]) e
      ∙ ap (λ k. merge (value_from t k b.wrap b.ranks) (seq ts)) s
      ∙ by_test (same_terms (terms_at t b.ranks) ts) refl)
    where
      by_test : (c : Bool) → same_terms (terms_at t b.ranks) ts ≡ c
          → (if c then Some (seq (terms_at t b.ranks)) else None) ≡ None
      by_test true q = absurd (d (ap length (sym (same_terms-sound (terms_at t b.ranks) ts q))
          ∙ length-map b.ranks (term_at t)))
      by_test false q = refl

  pub told_by-other_length : (w : Wildcard) (ts : List Tree) → is_sequence w ≡ true
      → length ts ≢ length b.ranks → told_by sig f w (Some v) ts (numbered_subst t u.stack) ≡ None
  told_by-other_length plus [] q d = refl
  told_by-other_length plus (k ∷ ts) q d = rw o (bind-other_length (k ∷ ts) d)
  told_by-other_length star ts q d = rw o (bind-other_length ts d)
  told_by-other_length (counted n k) ts q d = elim (meets_count n k (length ts)) as
      (λ c. option_and_then (bind (numbered_subst t u.stack) (numbered v))
      (if c then Some (sequence sig f ts) else None) ≡ None)
      [ true ↦ rw o (bind-other_length ts d) | false ↦ refl ]
  told_by-other_length dot ts q d = cc
  told_by-other_length (kind k) ts q d = cc
  told_by-other_length (optional a) ts q d = cc
