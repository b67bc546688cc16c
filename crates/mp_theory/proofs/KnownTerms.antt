-- What a child is known to take, by any measure of lists that adds up: it takes so much, and it stays known.
use Rattle.std.proofs.Common.{◌≡◌, ℕ, ◌≤◌, List, [], ◌∷◌, true, false, refl, ap, sym, ◌∙◌, inl, inr}
use Rattle.std.proofs.Common.{subst, arith, not}
use Rattle.std.specs.Prelude.{Option, Some, None, option_map, option_and_then, if◌then◌else◌}
use Rattle.std.specs.Option.{unwrap_or}
use Rattle.std.proofs.lemmas.Bool.{and_parts, not-true}
use Rattle.mp_term.specs.Order.{tree_cmp}
use Rattle.mp_term.specs.Sorting.{sorted}
use Rattle.mp_term.specs.Tree.{Tree, symbol}
use Rattle.mp_term.specs.Signature.{Sig}
use Rattle.mp_pattern.specs.PatternTree.{Wildcard, dot, kind, plus, star, counted, optional, Pattern, symbol_pattern}
use Rattle.mp_pattern.specs.PatternTree.{app_pattern, wild_pattern}
use Rattle.mp_pattern.specs.Value.{Value, one, seq, bag, Subst, value_of, same_name, merge}
use Rattle.mp_pattern.specs.Variables.{comm_above}
use Rattle.mp_pattern.specs.Fits.{Entry}
use Rattle.mp_pattern.proofs.NameLaws.{same_name-is, same_name-itself}
use Rattle.mp_theory.specs.Solve.{bind, given, sequence, solve}
use Rattle.mp_theory.specs.NoOptional.{IsNotOptional}
use Rattle.mp_theory.specs.Frames.{Frame, child}
use Rattle.mp_theory.specs.Machine.{said, reads}
use Rattle.mp_theory.specs.Kept.{IsKept, Keeps}
use Rattle.mp_theory.specs.Known.{is_optional, contributed, known, is_use}
use Rattle.mp_theory.proofs.Merging.{from_if, mapped, same_terms-sound}
use Rattle.mp_theory.proofs.Solving.{then_some}
use Rattle.mp_theory.proofs.Pruning.{bound_merges}
use Rattle.mp_theory.proofs.BoundChoices.{merge-one, given-form, given-one}

not_optional : (w : Wildcard) → is_optional w ≡ false → IsNotOptional w
not_optional dot h = tt
not_optional (kind k) h = tt
not_optional plus h = tt
not_optional star h = tt
not_optional (counted n c) h = tt
not_optional (optional d) h = cc

-- what is bound first is the value
pub bind-fresh : (s : Subst) (x : List ℕ) (g : Value) (r : Subst) → value_of s x ≡ None → bind s x g ≡ Some r
    → value_of r x ≡ Some g
bind-fresh [] x g r n e =
    let q : record { name = x; value = g } ∷ [] ≡ r = cc in
    subst (λ z. value_of z x ≡ Some g) q (ap (λ b. if b then Some g else None) (same_name-itself x))
bind-fresh (b ∷ s) x g r n e =
    elim (same_name b.name x) as (λ c. same_name b.name x ≡ c → (if c then Some b.value else value_of s x) ≡ None
    → (if c then option_map (λ u. record { name = b.name; value = u } ∷ s) (merge b.value g) else option_map
    (λ q. b ∷ q) (bind s x g)) ≡ Some r → value_of r x ≡ Some g) [
      | true ↦ λ p m q. cc
      | false ↦ λ p m q.
          let k = mapped (λ z. b ∷ z) (bind s x g) r q in
          subst (λ z. value_of z x ≡ Some g) k.2
          (ap (λ c. if c then Some b.value else value_of k.0 x) p ∙ bind-fresh s x g k.0 m k.1)
    ] refl n e

module _ (sig : Sig) where
  -- a sequence contributes its terms
  contributed-sequence : (f : Option ℕ) (l : List Tree) → contributed sig f (sequence sig f l) ≡ l
  contributed-sequence f l = elim (comm_above sig f) as (λ b. contributed sig f (if b then bag l else seq l) ≡ l)
      [ true ↦ refl | false ↦ refl ]

  -- what a wildcard that isn't optional takes is what its value contributes
  pub contributed-given : (f : Option ℕ) (w : Wildcard) (l : List Tree) (g : Value) → is_optional w ≡ false
      → given sig f w l ≡ Some g → contributed sig f g ≡ l
  contributed-given f w l g o e =
      elim (given-form sig f w l g e) [
        | inl q ↦ ap (contributed sig f) q ∙ contributed-sequence f l
        | inr q ↦ ap (contributed sig f) q.1
            ∙ ap (λ c. unwrap_or c []) (given-one sig f w l q.0 (not_optional w o) (e ∙ ap Some q.1))
      ]

  -- what a take says that is bound
  pub said-bound : (w : Wildcard) (x : List ℕ) (f : Frame) (fs : List Frame) (e : Entry) (s r : Subst)
      → solve sig s (said (child (wild_pattern w (Some x)) f fs) e) ≡ Some r
      → (g : Value) × (given sig f.under w e.terms ≡ Some g) × (bind s x g ≡ Some r)
  said-bound w x f fs e s r h =
      let a = then_some (λ g. option_and_then (λ q. Some q) (bind s x g)) (given sig f.under w e.terms) r h in
      let b = then_some (λ q. Some q) (bind s x a.0) r a.2 in
      (a.0, a.1, b.1 ∙ b.2)

  -- a use of a variable is known to take what its value contributes, if it has one
  pub known-use : (x : List ℕ) (s : Subst) (f : Option ℕ) (p : Pattern) → is_use x p ≡ true
      → known sig s f p ≡ option_map (contributed sig f) (value_of s x)
  known-use x s f (symbol_pattern n) h = cc
  known-use x s f (app_pattern g ps) h = cc
  known-use x s f (wild_pattern w None) h = cc
  known-use x s f (wild_pattern w (Some y)) h =
      let b = and_parts (not (is_optional w)) (same_name y x) h in
      ap (λ o. if o then None else option_map (contributed sig f) (value_of s y)) (not-true (is_optional w) b.0)
      ∙ ap (λ y. option_map (contributed sig f) (value_of s y)) (same_name-is y x b.1)

  module _ {M : Type 0} (m : List Tree → M) (m-sorted : (ts : List Tree) → m (sorted tree_cmp ts) ≡ m ts) where
    m-same_sorted : (ts us : List Tree) → sorted tree_cmp ts ≡ sorted tree_cmp us → m ts ≡ m us
    m-same_sorted ts us e = sym (m-sorted ts) ∙ ap m e ∙ m-sorted us

    -- a value that is kept contributes as much
    pub contributed-kept : (f : Option ℕ) (v u : Value) → IsKept v u → m (contributed sig f v) ≡ m (contributed sig f u)
    contributed-kept f (one t) (one s) h = ap (λ r. m (contributed sig f (one r))) h
    contributed-kept f (seq ts) (seq us) h = ap m h
    contributed-kept f (bag ts) (bag us) h = ap m h
    contributed-kept f (bag ts) (seq us) h = m-same_sorted ts us h
    contributed-kept f (one t) (seq us) h = absurd h
    contributed-kept f (one t) (bag us) h = absurd h
    contributed-kept f (seq ts) (one s) h = absurd h
    contributed-kept f (seq ts) (bag us) h = absurd h
    contributed-kept f (bag ts) (one s) h = absurd h

    -- values that merge contribute as much
    pub contributed-merged : (f : Option ℕ) (v g u : Value) → merge v g ≡ Some u
        → m (contributed sig f v) ≡ m (contributed sig f g)
    contributed-merged f (one t) g u e = ap (λ h. m (contributed sig f h)) (sym (merge-one t g u e))
    contributed-merged f (seq ts) (one s) u e = cc
    contributed-merged f (seq ts) (seq us) u e = ap m (same_terms-sound ts us (from_if _ _ u e).0)
    contributed-merged f (seq ts) (bag us) u e = m-same_sorted ts us (same_terms-sound _ _ (from_if _ _ u e).0)
    contributed-merged f (bag ts) (one s) u e = cc
    contributed-merged f (bag ts) (seq us) u e = m-same_sorted ts us (same_terms-sound _ _ (from_if _ _ u e).0)
    contributed-merged f (bag ts) (bag us) u e = ap m (same_terms-sound ts us (from_if _ _ u e).0)

  module _ (m : List Tree → ℕ) (m-sorted : (ts : List Tree) → m (sorted tree_cmp ts) ≡ m ts) where
    -- how much a child is known to take
    abbrev pub known_size : Subst → Option ℕ → Pattern → ℕ
    known_size s f p = elim (known sig s f p) [ None ↦ 0 | Some l ↦ m l ]

    -- it takes so much
    pub known-taken_out : (p : Pattern) (f : Frame) (fs : List Frame) (e : Entry) (s r : Subst)
        → reads sig p f.under e ≡ true → solve sig s (said (child p f fs) e) ≡ Some r
        → known_size s f.under p ≤ m e.terms
    known-taken_out (symbol_pattern n) f fs e s r h b =
        let q : e.terms ≡ symbol n ∷ [] =
        same_terms-sound e.terms (symbol n ∷ []) (and_parts (not e.collapsed) _ h).1 in
        omega (arith, ap m q)
    known-taken_out (app_pattern g ps) f fs e s r h b = omega arith
    known-taken_out (wild_pattern w None) f fs e s r h b = omega arith
    known-taken_out (wild_pattern w (Some x)) f fs e s r h b =
        let g = said-bound w x f fs e s r b in
        elim (is_optional w) as (λ o. is_optional w ≡ o
        → elim (if o then None else option_map (contributed sig f.under) (value_of s x)) [ None ↦ 0 | Some l ↦ m l ]
        ≤ m e.terms) [
          | true ↦ λ o. omega arith
          | false ↦ λ o.
              elim (value_of s x) as (λ v. value_of s x ≡ v
              → elim (option_map (contributed sig f.under) v) [ None ↦ 0 | Some l ↦ m l ] ≤ m e.terms) [
                | None ↦ λ q. omega arith
                | Some v ↦ λ q.
                    let u = bound_merges s x v g.0 r q g.2 in
                    omega (
                      arith,
                      contributed-merged m m-sorted f.under v g.0 u.0 u.1,
                      ap m (contributed-given f.under w e.terms g.0 o g.1),
                    )
              ] refl
        ] refl

    -- what is known stays known
    pub known-earlier : (f : Option ℕ) (p : Pattern) (s r : Subst) → Keeps s r
        → known_size s f p ≤ known_size r f p
    known-earlier f (symbol_pattern n) s r k = omega arith
    known-earlier f (app_pattern g ps) s r k = omega arith
    known-earlier f (wild_pattern w None) s r k = omega arith
    known-earlier f (wild_pattern w (Some x)) s r k =
        elim (is_optional w) as (λ o.
        elim (if o then None else option_map (contributed sig f) (value_of s x)) [ None ↦ 0 | Some l ↦ m l ]
        ≤ elim (if o then None else option_map (contributed sig f) (value_of r x)) [ None ↦ 0 | Some l ↦ m l ]) [
          | true ↦ omega arith
          | false ↦
              elim (value_of s x) as (λ v. value_of s x ≡ v
              → elim (option_map (contributed sig f) v) [ None ↦ 0 | Some l ↦ m l ]
              ≤ elim (option_map (contributed sig f) (value_of r x)) [ None ↦ 0 | Some l ↦ m l ]) [
                | None ↦ λ q. omega arith
                | Some v ↦ λ q.
                    let u = k x v q in
                    omega (
                      arith,
                      contributed-kept m m-sorted f v u.0 u.2,
                      ap (λ o. elim (option_map (contributed sig f) o) as (λ _. ℕ) [ None ↦ 0 | Some l ↦ m l ]) u.1,
                    )
              ] refl
        ]
