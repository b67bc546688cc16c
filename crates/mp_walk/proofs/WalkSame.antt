-- A walk from a state depends on its trail by the values alone.
use Rattle.std.proofs.Common.{◌≡◌, ◌⊎◌, inl, inr, ℕ, ◌+◌, List, [], ◌∷◌, ◌++◌, map, Bool, true, false, ◌&&◌, refl, ap}
use Rattle.std.proofs.Common.{sym, ◌∙◌}
use Rattle.std.proofs.Common.{subst}
use Rattle.std.specs.Prelude.{Option, Some, None, ⊤, flat_map, if◌then◌else◌}
use Rattle.mp_term.specs.Listing.{In}
use Rattle.mp_term.specs.Signature.{Sig}
use Rattle.mp_term.specs.Tree.{Tree}
use Rattle.mp_pattern.specs.Fits.{Entry, Table}
use Rattle.mp_pattern.specs.NetTokens.{NetToken, sym_token, enter_token, leave_token, wild_token, comm_token}
use Rattle.mp_pattern.specs.PatternTree.{is_sequence, Pattern, symbol_pattern, app_pattern, wild_pattern}
use Rattle.mp_pattern.specs.PatternTree.{Patterns, no_patterns}
use Rattle.mp_pattern.specs.Value.{Subst}
use Rattle.mp_theory.specs.Frames.{child, is_done}
use Rattle.mp_theory.specs.Machine.{said}
use Rattle.mp_theory.specs.OneList.{Item}
use Rattle.mp_theory.specs.Solve.{Taken, solve}
use Rattle.mp_theory.specs.Trail.{listed_by}
use Rattle.mp_ac.specs.CommItems.{SameValues}
use Rattle.mp_ac.specs.CommList.{comm_list}
use Rattle.mp_ac.proofs.ListLaws.{comm_list-same, comm_list-others}
use Rattle.mp_walk.specs.Course.{Alike}
use Rattle.mp_walk.specs.Forests.{node, Forest, none, beside, put_out, walk}
use Rattle.mp_walk.specs.TokenMachine.{Open, State, rest_of_open, taken_below, opened, numbered_wildcard, entries_for}
use Rattle.mp_walk.specs.TokenMachine.{told, below_items, steps_in, token_steps, token_ends}
use Rattle.mp_walk.specs.Visits.{total, visits}
use Rattle.mp_walk.proofs.Alike.{out, at, asking}
use Rattle.mp_walk.proofs.SameTrails.{solve-same, same-back}
use Rattle.mp_pattern.specs.Value.{same_name}
use Rattle.mp_ac.specs.CommItems.{SameOn}
use Rattle.mp_ac.specs.CommList.{SameItems}
use Rattle.mp_pattern.specs.Variables.{variables}
use Rattle.mp_pattern.proofs.NameLaws.{same_name-is}
use Rattle.mp_pattern.proofs.NameLaws.{same_name-itself}

-- the steps put out the same, one by one, and lead to states that are the same
abbrev pub SameSteps : List (List Entry × State) → List (List Entry × State) → Type 0
SameSteps [] [] = ⊤
SameSteps (x ∷ xs) (y ∷ ys) = ((x.0 ≡ y.0) × Alike x.1 y.1) × SameSteps xs ys
SameSteps _ _ = ⊥

-- the items have the same tables, one by one, and the same values
abbrev pub AlikeItems : List Item → List Item → Type 0
AlikeItems [] [] = ⊤
AlikeItems (i ∷ is) (j ∷ js) = ((i.0 ≡ j.0) × SameValues i.1 j.1) × AlikeItems is js
AlikeItems _ _ = ⊥

same-append : (xs ys zs ws : List (List Entry × State)) → SameSteps xs ys → SameSteps zs ws
    → SameSteps (xs ++ zs) (ys ++ ws)
same-append [] [] zs ws h k = k
same-append (x ∷ xs) (y ∷ ys) zs ws h k = (h.0, same-append xs ys zs ws h.1 k)
same-append [] (y ∷ ys) zs ws h k = absurd h
same-append (x ∷ xs) [] zs ws h k = absurd h

same-map : {X : Type 0} (f g : X → List Entry × State) (xs : List X)
    → ((x : X) → ((f x).0 ≡ (g x).0) × Alike (f x).1 (g x).1)
    → SameSteps (map f xs) (map g xs)
same-map f g [] h = tt
same-map f g (x ∷ xs) h = (h x, same-map f g xs h)

same-flat : {X : Type 0} (f g : X → List (List Entry × State)) (xs : List X) → ((x : X) → SameSteps (f x) (g x))
    → SameSteps (flat_map f xs) (flat_map g xs)
same-flat f g [] h = tt
same-flat f g (x ∷ xs) h = same-append (f x) (g x) (flat_map f xs) (flat_map g xs) (h x) (same-flat f g xs h)

-- a name stands in a list, or it doesn't
known-or : (xs : List (List ℕ)) (x : List ℕ) → In x xs ⊎ (In x xs → ⊥)
known-or [] x = inr (λ i. i)
known-or (y ∷ ys) x = by_test (same_name y x) refl (known-or ys x)
  where
    by_test : (b : Bool) → same_name y x ≡ b → In x ys ⊎ (In x ys → ⊥) → In x (y ∷ ys) ⊎ (In x (y ∷ ys) → ⊥)
    by_test true e h = inl (inl (sym (same_name-is y x e)))
    by_test false e (inl i) = inl (inr i)
    by_test false e (inr never) = inr (λ i. elim i [
      | inl p ↦ (let wrong : false ≡ true = sym e ∙ (ap (same_name y) p ∙ same_name-itself y) in cc)
      | inr j ↦ never j
    ])

module _ (sig : Sig) where
  -- the items below a commutative operation depend on the trail by the values alone
  items-alike : (g : ℕ) (ps : Patterns) (args : List Tree) (owes : Bool) (s r : Subst) → SameValues s r
      → AlikeItems (comm_list sig g ps args owes s) (comm_list sig g ps args owes r)
  items-alike g ps args owes s r h =
      each (comm_list sig g ps args owes s) (comm_list sig g ps args owes r) (λ i m. m) (λ i m. m)
      (comm_list-same sig g ps args owes s r (λ x m. h x))
    where
      values : (i j : Item) → In i (comm_list sig g ps args owes s) → In j (comm_list sig g ps args owes r)
          → SameOn (variables (app_pattern g ps)) i.1 j.1 → SameValues i.1 j.1
      values i j m n k x = elim (known-or (variables (app_pattern g ps)) x) [
        | inl known ↦ k x known
        | inr never ↦ comm_list-others sig g ps args owes s i x m never ∙ h x
            ∙ sym (comm_list-others sig g ps args owes r j x n never)
      ]

      each : (is js : List Item) → ((i : Item) → In i is → In i (comm_list sig g ps args owes s))
          → ((j : Item) → In j js → In j (comm_list sig g ps args owes r))
          → SameItems (variables (app_pattern g ps)) is js → AlikeItems is js
      each [] [] m n k = tt
      each (i ∷ is) (j ∷ js) m n k = (
        (k.0, values i j (m i (inl refl)) (n j (inl refl)) k.1),
        each is js (λ z y. m z (inr y)) (λ z y. n z (inr y)) k.2,
      )
      each [] (j ∷ js) m n k = absurd k
      each (i ∷ is) [] m n k = absurd k

  -- what solves the takes over the one and over the other
  solved-both : (f : Subst → List Entry × State)
      → ((p q : Subst) → SameValues p q → ((f p).0 ≡ (f q).0) × Alike (f p).1 (f q).1)
      → (s r : Subst) (ts : List Taken) → SameValues s r
      → SameSteps (listed_by (λ q. f q ∷ []) (solve sig s ts)) (listed_by (λ q. f q ∷ []) (solve sig r ts))
  solved-both f h s r ts v = by_both (solve sig s ts) (solve sig r ts) refl refl
    where
      by_both : (a b : Option Subst) → solve sig s ts ≡ a → solve sig r ts ≡ b
          → SameSteps (listed_by (λ q. f q ∷ []) a) (listed_by (λ q. f q ∷ []) b)
      by_both None None i j = tt
      by_both (Some p) (Some q) i j =
          let k = solve-same sig s r ts p v i in
          let z : Some k.0 ≡ Some q = sym k.1 ∙ j in
          let w : k.0 ≡ q = cc in
          (h p q (subst (SameValues p) w k.2), tt)
      by_both (Some p) None i j = (let k = solve-same sig s r ts p v i in let z : None ≡ Some k.0 = sym j ∙ k.1 in cc)
      by_both None (Some q) i j =
          (let k = solve-same sig r s ts q (same-back s r v) j in let z : None ≡ Some k.0 = sym i ∙ k.1 in cc)

  items-steps : (p : Pattern) (f : Open) (fs : List Open) (e : Entry) (is js : List Item) → AlikeItems is js
      → SameSteps (map (λ i. out (e ∷ i.0) (at (rest_of_open p e f ∷ fs) i.1)) is)
      (map (λ i. out (e ∷ i.0) (at (rest_of_open p e f ∷ fs) i.1)) js)
  items-steps p f fs e [] [] h = tt
  items-steps p f fs e (i ∷ is) (j ∷ js) h =
      ((ap (λ T. e ∷ T) h.0.0, record { open_ones = refl; trail = h.0.1 }), items-steps p f fs e is js h.1)
  items-steps p f fs e [] (j ∷ js) h = absurd h
  items-steps p f fs e (i ∷ is) [] h = absurd h

  steps_in-same : (f : Open) (fs : List Open) (s r : Subst) (k : NetToken) → SameValues s r
      → SameSteps (steps_in sig (below_items sig) f fs s k) (steps_in sig (below_items sig) f fs r k)
  steps_in-same f fs s r (sym_token n) v =
      same-map (λ e. out (e ∷ []) (at (rest_of_open (symbol_pattern n) e f ∷ fs) s))
      (λ e. out (e ∷ []) (at (rest_of_open (symbol_pattern n) e f ∷ fs) r)) (entries_for sig f (symbol_pattern n))
      (λ e. (refl, record { open_ones = refl; trail = v }))
  steps_in-same f fs s r (enter_token g) v =
      same-map (λ e. out (e ∷ []) (at (opened g e ∷ rest_of_open (app_pattern g no_patterns) e f ∷ fs) s))
      (λ e. out (e ∷ []) (at (opened g e ∷ rest_of_open (app_pattern g no_patterns) e f ∷ fs) r))
      (entries_for sig f (app_pattern g no_patterns)) (λ e. (refl, record { open_ones = refl; trail = v }))
  steps_in-same f fs s r (leave_token g) v =
      elim (is_done f.left f.owes) as
      (λ b. SameSteps (if b then out [] (at fs s) ∷ [] else []) (if b then out [] (at fs r) ∷ [] else [])) [
        | true ↦ ((refl, record { open_ones = refl; trail = v }), tt)
        | false ↦ tt
      ]
  steps_in-same f fs s r (wild_token w y) v =
      elim (f.collapsed && is_sequence w) as
      (λ b. SameSteps (if b then [] else flat_map (one_steps s) (entries_for sig f (numbered_wildcard w y)))
      (if b then [] else flat_map (one_steps r) (entries_for sig f (numbered_wildcard w y)))) [
        | true ↦ tt
        | false ↦ same-flat (one_steps s) (one_steps r) (entries_for sig f (numbered_wildcard w y)) (λ e.
            solved-both (λ q. out (e ∷ []) (at (rest_of_open (numbered_wildcard w y) e f ∷ fs) q))
            (λ p q h. (refl, record { open_ones = refl; trail = h })) s r
            (said (child (numbered_wildcard w y) (asking f) []) e) v)
      ]
    where
      one_steps : Subst → Entry → List (List Entry × State)
      one_steps q e = listed_by (λ p. out (e ∷ []) (at (rest_of_open (numbered_wildcard w y) e f ∷ fs) p) ∷ [])
          (told sig f (numbered_wildcard w y) e q)
  steps_in-same f fs s r (comm_token (symbol_pattern n)) v =
      same-flat (λ e. []) (λ e. []) (entries_for sig f (symbol_pattern n)) (λ e. tt)
  steps_in-same f fs s r (comm_token (wild_pattern w y)) v =
      same-flat (λ e. []) (λ e. []) (entries_for sig f (wild_pattern w y)) (λ e. tt)
  steps_in-same f fs s r (comm_token (app_pattern g ps)) v =
      same-flat (below_steps s) (below_steps r) (entries_for sig f (app_pattern g ps)) (λ e.
      items-steps (app_pattern g ps) f fs e (below_items sig (app_pattern g ps) e s)
      (below_items sig (app_pattern g ps) e r)
      (items-alike g ps (taken_below e) e.collapsed s r v))
    where
      below_steps : Subst → Entry → List (List Entry × State)
      below_steps q e = map (λ i. out (e ∷ i.0) (at (rest_of_open (app_pattern g ps) e f ∷ fs) i.1))
          (below_items sig (app_pattern g ps) e q)

  pub token_steps-same : (s r : State) (k : NetToken) → Alike s r
      → SameSteps (token_steps sig s k) (token_steps sig r k)
  token_steps-same s r k h =
      subst (λ os. SameSteps (token_steps sig s k) (token_steps sig (at os r.trail) k)) h.open_ones
      (elim s.open_ones as (λ os. SameSteps (token_steps sig (at os s.trail) k) (token_steps sig (at os r.trail) k)) [
        | [] ↦ tt
        | f ∷ fs ↦ steps_in-same f fs s.trail r.trail k h.trail
      ])

  -- what is put out of steps that are the same
  flat-same_steps : {X : Type 0} (F : List Entry × State → List X)
      → ((x y : List Entry × State) → x.0 ≡ y.0 → Alike x.1 y.1 → F x ≡ F y)
      → (xs ys : List (List Entry × State)) → SameSteps xs ys → flat_map F xs ≡ flat_map F ys
  flat-same_steps F go [] [] h = refl
  flat-same_steps F go (x ∷ xs) (y ∷ ys) h =
      ap (λ l. l ++ flat_map F xs) (go x y h.0.0 h.0.1) ∙ ap (λ l. F y ++ l) (flat-same_steps F go xs ys h.1)
  flat-same_steps F go [] (y ∷ ys) h = absurd h
  flat-same_steps F go (x ∷ xs) [] h = absurd h

  put-same : (ns : List ℕ) (s r : State) (before : Table) → Alike s r
      → put_out (token_steps sig) token_ends ns s before ≡ put_out (token_steps sig) token_ends ns r before
  put-same ns s r before h = ap (λ os. put_out (token_steps sig) token_ends ns (at os s.trail) before) h.open_ones

  -- the walks are the same
  pub walk-same : (F : Forest NetToken) (s r : State) (before : Table) → Alike s r
      → walk (token_steps sig) token_ends F s before ≡ walk (token_steps sig) token_ends F r before
  walk-same none s r before h = refl
  walk-same (beside (node k ns below) fs) s r before h =
      ap (λ l. l ++ walk (token_steps sig) token_ends fs s before)
      (flat-same_steps (λ x. put_out (token_steps sig) token_ends ns x.1 (before ++ x.0)
      ++ walk (token_steps sig) token_ends below x.1 (before ++ x.0))
      (λ x y e g.
      ap (λ es. put_out (token_steps sig) token_ends ns x.1 (before ++ es)
      ++ walk (token_steps sig) token_ends below x.1 (before ++ es)) e
      ∙ ap (λ l. l ++ walk (token_steps sig) token_ends below x.1 (before ++ y.0))
      (put-same ns x.1 y.1 (before ++ y.0) g)
      ∙ ap (λ l. put_out (token_steps sig) token_ends ns y.1 (before ++ y.0) ++ l)
      (walk-same below x.1 y.1 (before ++ y.0) g))
      (token_steps sig s k) (token_steps sig r k) (token_steps-same s r k h))
      ∙ ap (λ l. flat_map (λ x. put_out (token_steps sig) token_ends ns x.1 (before ++ x.0)
      ++ walk (token_steps sig) token_ends below x.1 (before ++ x.0)) (token_steps sig r k) ++ l)
      (walk-same fs s r before h)

  -- and so are the numbers of tokens that they read
  total-same : (F : State → ℕ) → ((x y : State) → Alike x y → F x ≡ F y) → (xs ys : List (List Entry × State))
      → SameSteps xs ys → total (map (λ x. 1 + F x.1) xs) ≡ total (map (λ x. 1 + F x.1) ys)
  total-same F go [] [] h = refl
  total-same F go (x ∷ xs) (y ∷ ys) h =
      ap (λ n. 1 + n + total (map (λ z. 1 + F z.1) xs)) (go x.1 y.1 h.0.1)
      ∙ ap (λ n. 1 + F y.1 + n) (total-same F go xs ys h.1)
  total-same F go [] (y ∷ ys) h = absurd h
  total-same F go (x ∷ xs) [] h = absurd h

  pub visits-same : (F : Forest NetToken) (s r : State) → Alike s r
      → visits (token_steps sig) F s ≡ visits (token_steps sig) F r
  visits-same none s r h = refl
  visits-same (beside (node k ns below) fs) s r h =
      ap (λ n. 1 + (n + visits (token_steps sig) fs s))
      (total-same (visits (token_steps sig) below) (λ x y g. visits-same below x y g) (token_steps sig s k)
      (token_steps sig r k)
      (token_steps-same s r k h))
      ∙ ap (λ n. 1 + (total (map (λ x. 1 + visits (token_steps sig) below x.1) (token_steps sig r k)) + n))
      (visits-same fs s r h)
