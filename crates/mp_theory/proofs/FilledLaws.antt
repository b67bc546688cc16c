-- What the variables of a syntactic pattern take in turn is what solves its takes, and what they have as values.
use Rattle.std.proofs.Common.{◌≡◌, ℕ, List, [], ◌∷◌, ◌++◌, Bool, true, false, ◌&&◌, refl, ap, sym, ◌∙◌, subst, inl, inr}
use Rattle.std.specs.Prelude.{Option, Some, None, if◌then◌else◌, option_map, option_and_then}
use Rattle.std.specs.Cmp.{Equal-is}
use Rattle.std.specs.List.{AllByRecursion}
use Rattle.std.specs.Ordering.{is_eq}
use Rattle.std.proofs.lemmas.Bool.{and_parts}
use Rattle.mp_term.specs.Tree.{Tree, symbol, app, Trees, no_trees, more_trees}
use Rattle.mp_term.specs.Order.{tree_cmp}
use Rattle.mp_term.specs.OrderLaws.{tree_same}
use Rattle.mp_term.specs.Signature.{Sig}
use Rattle.mp_term.proofs.ListLaws.{all-append, all-also}
use Rattle.mp_pattern.specs.PatternTree.{Wildcard, dot, kind, plus, star, counted, optional, Pattern, symbol_pattern}
use Rattle.mp_pattern.specs.PatternTree.{app_pattern, wild_pattern, Patterns, no_patterns, more_patterns}
use Rattle.mp_pattern.specs.Syntactic.{is_plain, is_syntactic, all_syntactic}
use Rattle.mp_pattern.specs.Value.{Value, one, seq, bag, Subst, same_name, value_of, merge}
use Rattle.mp_pattern.proofs.NameLaws.{same_name-itself}
use Rattle.mp_theory.specs.Filled.{bound, filled, all_filled}
use Rattle.mp_theory.specs.Kept.{IsKept, Keeps}
use Rattle.mp_theory.specs.Shape.{suits, of_kinds, all_of_kinds, takings, all_takings}
use Rattle.mp_theory.specs.Solve.{Taken, bind, given, solve}
use Rattle.mp_theory.proofs.KeptValues.{keeps-itself, keeps-then, bind-keeps}
use Rattle.mp_theory.proofs.Merging.{from_if, if_either, mapped}
use Rattle.mp_theory.proofs.ShapeLaws.{IsFlat, plain-flat, flat-given}
use Rattle.mp_theory.proofs.Solving.{then_some}
use Rattle.mp_theory.proofs.TrailLaws.{solve-append}

-- a variable without a value gets a binding at the end
pub bind-new : (s : Subst) (x : List ℕ) (w : Value) → value_of s x ≡ None
    → bind s x w ≡ Some (s ++ record { name = x; value = w } ∷ [])
bind-new [] x w e = refl
bind-new (b ∷ s) x w e = by_name (same_name b.name x) e (bind-new s x w)
  where
    by_name : (k : Bool) → (if k then Some b.value else value_of s x) ≡ None
        → (value_of s x ≡ None → bind s x w ≡ Some (s ++ record { name = x; value = w } ∷ []))
        → (if k then option_map (λ u. record { name = b.name; value = u } ∷ s) (merge b.value w)
        else option_map (λ r. b ∷ r) (bind s x w)) ≡ Some (b ∷ (s ++ record { name = x; value = w } ∷ []))
    by_name true k i = cc
    by_name false k i = ap (option_map (λ r. b ∷ r)) (i k)

-- a variable with a term keeps it where the other one is equal
one-again : (n : List ℕ) (s : Subst) (u t : Tree)
    → option_map (λ v. record { name = n; value = v } ∷ s) (merge (one u) (one t))
    ≡ (if is_eq (tree_cmp u t) then Some (record { name = n; value = one u } ∷ s) else None)
one-again n s u t = by_eq (is_eq (tree_cmp u t))
  where
    by_eq : (k : Bool) → option_map (λ v. record { name = n; value = v } ∷ s) (if k then Some (one u) else None)
        ≡ (if k then Some (record { name = n; value = one u } ∷ s) else None)
    by_eq true = refl
    by_eq false = refl

pub bind-again : (s : Subst) (x : List ℕ) (u t : Tree) → value_of s x ≡ Some (one u)
    → bind s x (one t) ≡ (if is_eq (tree_cmp u t) then Some s else None)
bind-again [] x u t e = cc
bind-again (b ∷ s) x u t e = by_name (same_name b.name x) e (bind-again s x u t)
  where
    then_more : (k : Bool) → option_map (λ r. b ∷ r) (if k then Some s else None)
        ≡ (if k then Some (b ∷ s) else None)
    then_more true = refl
    then_more false = refl

    here : (n : List ℕ) (v : Value) → v ≡ one u → option_map (λ w. record { name = n; value = w } ∷ s) (merge v (one t))
        ≡ (if is_eq (tree_cmp u t) then Some (record { name = n; value = v } ∷ s) else None)
    here n v q = subst (λ y. option_map (λ w. record { name = n; value = w } ∷ s) (merge y (one t))
        ≡ (if is_eq (tree_cmp u t) then Some (record { name = n; value = y } ∷ s) else None)) (sym q)
        (one-again n s u t)

    by_name : (k : Bool) → (if k then Some b.value else value_of s x) ≡ Some (one u)
        → (value_of s x ≡ Some (one u) → bind s x (one t) ≡ (if is_eq (tree_cmp u t) then Some s else None))
        → (if k then option_map (λ w. record { name = b.name; value = w } ∷ s) (merge b.value (one t))
        else option_map (λ r. b ∷ r) (bind s x (one t))) ≡ (if is_eq (tree_cmp u t) then Some (b ∷ s) else None)
    by_name true k i = let q : b.value ≡ one u = cc in here b.name b.value q
    by_name false k i = ap (option_map (λ r. b ∷ r)) (i k) ∙ then_more (is_eq (tree_cmp u t))

-- what is merged with one term comes out as that term
merge-with_one : (v : Value) (t : Tree) (u : Value) → merge v (one t) ≡ Some u → u ≡ one t
merge-with_one (one s) t u e =
    let k = from_if (is_eq (tree_cmp s t)) (one s) u e in
    sym k.1 ∙ ap one (tree_same s t ((Equal-is (tree_cmp s t)).0 k.0))
merge-with_one (seq ts) t u e = cc
merge-with_one (bag ts) t u e = cc

-- a variable bound to a term has it as its value
pub value_of-bind : (s : Subst) (x : List ℕ) (t : Tree) (r : Subst) → bind s x (one t) ≡ Some r
    → value_of r x ≡ Some (one t)
value_of-bind [] x t r e =
    let q : record { name = x; value = one t } ∷ [] ≡ r = cc in
    subst (λ z. value_of z x ≡ Some (one t)) q (rw (same_name-itself x) refl)
value_of-bind (b ∷ s) x t r e =
    elim (if_either (same_name b.name x) _ _ r e) [
      | inl q ↦
          let m = mapped (λ u. record { name = b.name; value = u } ∷ s) (merge b.value (one t)) r q.1 in
          subst (λ z. value_of z x ≡ Some (one t)) m.2 (rw q.0 (ap Some (merge-with_one b.value t m.0 m.1)))
      | inr q ↦
          let m = mapped (λ z. b ∷ z) (bind s x (one t)) r q.1 in
          subst (λ z. value_of z x ≡ Some (one t)) m.2 (rw q.0 (value_of-bind s x t m.0 m.1))
    ]

-- the variable has as its value the term that it takes
pub record IsTaken (s : Subst) (a : Taken) : Type 0 where
  pub term : Tree
  pub is : a.terms ≡ term ∷ []
  pub value : value_of s a.by.name ≡ Some (one term)

-- it stays so
kept-one : (t : Tree) (u : Value) → IsKept (one t) u → u ≡ one t
kept-one t (one s) h = ap one (sym h)
kept-one t (seq ts) h = absurd h
kept-one t (bag ts) h = absurd h

pub taken-kept : (s r : Subst) → Keeps s r → (a : Taken) → IsTaken s a → IsTaken r a
taken-kept s r h a k =
    let m = h a.by.name (one k.term) k.value in
    record { term = k.term; is = k.is; value = m.1 ∙ ap Some (kept-one k.term m.0 m.2) }

-- steps that give alike, and none
then-same : (f g : Subst → Option Subst) → ((s : Subst) → f s ≡ g s) → (o : Option Subst)
    → option_and_then f o ≡ option_and_then g o
then-same f g h None = refl
then-same f g h (Some s) = h s

then-none : (f : Subst → Option Subst) → ((s : Subst) → f s ≡ None) → (o : Option Subst)
    → option_and_then f o ≡ None
then-none f h None = refl
then-none f h (Some s) = h s

then-itself : (o : Option Subst) → o ≡ option_and_then (λ s. Some s) o
then-itself None = refl
then-itself (Some s) = refl

-- what a test that was passed let through
pub from_then : (b : Bool) (o : Option Subst) (r : Subst) → (if b then o else None) ≡ Some r → o ≡ Some r
from_then true o r e = e
from_then false o r e = cc

keeps-same : (s r : Subst) → Some s ≡ Some r → Keeps s r
keeps-same s r e = let q : s ≡ r = cc in subst (Keeps s) q (keeps-itself s)

module _ (sig : Sig) where
  -- what a wildcard of a syntactic pattern gives its variable
  given-suits : (f : Option ℕ) (w : Wildcard) (x : Option (List ℕ)) (t : Tree) → IsFlat sig f
      → is_syntactic sig (wild_pattern w x) ≡ true
      → given sig f w (t ∷ []) ≡ (if suits sig w t then Some (one t) else None)
  given-suits f dot x t h k = flat-given sig f t h
  given-suits f (kind n) x t h k = refl
  given-suits f plus x t h k = cc
  given-suits f star x t h k = cc
  given-suits f (counted n fixed) x t h k = cc
  given-suits f (optional d) x t h k = cc

  -- a wildcard alone
  wild-solve : (f : Option ℕ) (w : Wildcard) (x : Option (List ℕ)) (t : Tree) (s : Subst) → IsFlat sig f
      → is_syntactic sig (wild_pattern w x) ≡ true → (if suits sig w t then bound x t s else None)
      ≡ (if suits sig w t then solve sig s (takings f (wild_pattern w x) t) else None)
  wild-solve f w None t s h k = refl
  wild-solve f w (Some x) t s h k = by_suits (suits sig w t) (given-suits f w (Some x) t h k)
    where
      by_suits : (b : Bool) → given sig f w (t ∷ []) ≡ (if b then Some (one t) else None)
          → (if b then bind s x (one t) else None)
          ≡ (if b then option_and_then (λ v. option_and_then (λ r. Some r) (bind s x v)) (given sig f w (t ∷ []))
          else None)
      by_suits true e = then-itself (bind s x (one t))
          ∙ ap (option_and_then (λ v. option_and_then (λ r. Some r) (bind s x v))) (sym e)
      by_suits false e = refl

  mutual
    pub filled-solve : (f : Option ℕ) (p : Pattern) (t : Tree) (s : Subst) → IsFlat sig f → is_syntactic sig p ≡ true
        → filled sig p t s ≡ (if of_kinds sig p t then solve sig s (takings f p t) else None)
    filled-solve f (symbol_pattern n) t s h k = refl
    filled-solve f (app_pattern g ps) (symbol n) s h k = refl
    filled-solve f (app_pattern g ps) (app i ts) s h k =
        let b = and_parts (is_plain sig g) (all_syntactic sig ps) k in
        all_filled-solve g ps ts s (plain-flat sig g b.0) b.1
    filled-solve f (wild_pattern w x) t s h k = wild-solve f w x t s h k

    all_filled-solve : (g : ℕ) (ps : Patterns) (ts : Trees) (s : Subst) → IsFlat sig (Some g)
        → all_syntactic sig ps ≡ true
        → all_filled sig ps ts s ≡ (if all_of_kinds sig ps ts then solve sig s (all_takings g ps ts) else None)
    all_filled-solve g no_patterns ts s h k = refl
    all_filled-solve g (more_patterns p ps) no_trees s h k = refl
    all_filled-solve g (more_patterns p ps) (more_trees t ts) s h k =
        let b = and_parts (is_syntactic sig p) (all_syntactic sig ps) k in
        ap (option_and_then (all_filled sig ps ts)) (filled-solve (Some g) p t s h b.0)
        ∙ by_kinds (of_kinds sig p t) (all_of_kinds sig ps ts) (λ r. all_filled-solve g ps ts r h b.1)
      where
        by_kinds : (a b : Bool)
            → ((r : Subst) → all_filled sig ps ts r ≡ (if b then solve sig r (all_takings g ps ts) else None))
            → option_and_then (all_filled sig ps ts) (if a then solve sig s (takings (Some g) p t) else None)
            ≡ (if a && b then solve sig s (takings (Some g) p t ++ all_takings g ps ts) else None)
        by_kinds true true i =
            then-same (all_filled sig ps ts) (λ r. solve sig r (all_takings g ps ts)) i
            (solve sig s (takings (Some g) p t))
            ∙ sym (solve-append sig s (takings (Some g) p t) (all_takings g ps ts))
        by_kinds true false i =
            then-none (all_filled sig ps ts) i (solve sig s (takings (Some g) p t))
        by_kinds false b i = refl

  -- values stay while a pattern's variables are bound
  bound-keeps : (x : Option (List ℕ)) (t : Tree) (s r : Subst) → bound x t s ≡ Some r → Keeps s r
  bound-keeps None t s r e = keeps-same s r e
  bound-keeps (Some x) t s r e = bind-keeps s x (one t) r e

  mutual
    pub filled-keeps : (p : Pattern) (t : Tree) (s r : Subst) → filled sig p t s ≡ Some r → Keeps s r
    filled-keeps (symbol_pattern n) t s r e = keeps-same s r e
    filled-keeps (app_pattern f ps) (symbol n) s r e = keeps-same s r e
    filled-keeps (app_pattern f ps) (app g ts) s r e = all_filled-keeps ps ts s r e
    filled-keeps (wild_pattern w x) t s r e = bound-keeps x t s r (from_then (suits sig w t) (bound x t s) r e)

    all_filled-keeps : (ps : Patterns) (ts : Trees) (s r : Subst) → all_filled sig ps ts s ≡ Some r → Keeps s r
    all_filled-keeps no_patterns ts s r e = keeps-same s r e
    all_filled-keeps (more_patterns p ps) no_trees s r e = keeps-same s r e
    all_filled-keeps (more_patterns p ps) (more_trees t ts) s r e =
        let m = then_some (all_filled sig ps ts) (filled sig p t s) r e in
        keeps-then s m.0 r (filled-keeps p t s m.0 m.1) (all_filled-keeps ps ts m.0 r m.2)

  -- and each of them has as its value what it takes
  bound-taken : (f : Option ℕ) (w : Wildcard) (x : Option (List ℕ)) (t : Tree) (s r : Subst) → bound x t s ≡ Some r
      → AllByRecursion (IsTaken r) (takings f (wild_pattern w x) t)
  bound-taken f w None t s r e = tt
  bound-taken f w (Some x) t s r e = (record { term = t; is = refl; value = value_of-bind s x t r e }, tt)

  mutual
    pub filled-taken : (f : Option ℕ) (p : Pattern) (t : Tree) (s r : Subst) → filled sig p t s ≡ Some r
        → AllByRecursion (IsTaken r) (takings f p t)
    filled-taken f (symbol_pattern n) t s r e = tt
    filled-taken f (app_pattern g ps) (symbol n) s r e = tt
    filled-taken f (app_pattern g ps) (app h ts) s r e = all_filled-taken g ps ts s r e
    filled-taken f (wild_pattern w x) t s r e =
        bound-taken f w x t s r (from_then (suits sig w t) (bound x t s) r e)

    all_filled-taken : (g : ℕ) (ps : Patterns) (ts : Trees) (s r : Subst) → all_filled sig ps ts s ≡ Some r
        → AllByRecursion (IsTaken r) (all_takings g ps ts)
    all_filled-taken g no_patterns ts s r e = tt
    all_filled-taken g (more_patterns p ps) no_trees s r e = tt
    all_filled-taken g (more_patterns p ps) (more_trees t ts) s r e =
        let m = then_some (all_filled sig ps ts) (filled sig p t s) r e in
        all-append (IsTaken r) (takings (Some g) p t) (all_takings g ps ts)
        (all-also (IsTaken m.0) (IsTaken r) (taken-kept m.0 r (all_filled-keeps ps ts m.0 r m.2))
        (takings (Some g) p t) (filled-taken (Some g) p t s m.0 m.1))
        (all_filled-taken g ps ts m.0 r m.2)
