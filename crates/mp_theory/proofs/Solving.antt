-- `solve` finds the one substitution of the pattern's variables that the takes obey.
use Rattle.std.proofs.Common.{◌≡◌, ℕ, List, [], ◌∷◌, ◌++◌, map, Bool, true, false, ◌&&◌, not, refl, ap, sym, ◌∙◌, inl}
use Rattle.std.proofs.Common.{inr, subst, length}
use Rattle.std.specs.Prelude.{Option, Some, None, ◌||◌, filter, option_and_then, if◌then◌else◌}
use Rattle.std.specs.List.{AllByRecursion, list_any}
use Rattle.mp_term.specs.Tree.{Tree}
use Rattle.mp_term.specs.Signature.{Sig, in_kind}
use Rattle.mp_pattern.specs.PatternTree.{Wildcard, dot, kind, plus, star, counted, meets_count, optional}
use Rattle.mp_pattern.specs.PatternTree.{is_sequence, Pattern}
use Rattle.mp_pattern.specs.Value.{Value, one, seq, bag, Form, one_form, seq_form, bag_form, form_of, IsFinal, Subst}
use Rattle.mp_pattern.specs.Value.{Binding, value_of, same_name, merge}
use Rattle.mp_pattern.specs.Firsts.{is_known, add_new, firsts_after}
use Rattle.mp_pattern.specs.Variables.{Use, uses, variables, comm_above, form_among, variable_form, IsSubstOf}
use Rattle.mp_pattern.proofs.NameLaws.{same_name-is, same_name-itself, same_name-swap}
use Rattle.mp_theory.specs.Solve.{Taken, bind, given, solve, sequence}
use Rattle.mp_theory.proofs.Merging.{Refines, IsArranged, Extends, AllArranged, bind-sound, from_if, if_either, mapped}
use Rattle.mp_theory.proofs.SolveLaws.{Obeys, solve-complete}
use Rattle.mp_theory.proofs.FirstsLaws.{Distinct, distinct-firsts}
use Rattle.mp_theory.proofs.Wildcards.{contributor-contributes, refines-itself}

-- the names of a substitution
abbrev pub names : Subst → List (List ℕ)
names s = map (λ b. b.name) s

-- what a chain of two options gave
pub then_some : {A B : Type 0} (f : A → Option B) (o : Option A) (r : B) → option_and_then f o ≡ Some r
    → (x : A) × (o ≡ Some x) × (f x ≡ Some r)
then_some f None r e = cc
then_some f (Some x) r e = (x, refl, e)

add_new-behind : (n x : List ℕ) (ns : List (List ℕ)) → same_name n x ≡ false
    → n ∷ add_new same_name ns x ≡ add_new same_name (n ∷ ns) x
add_new-behind n x ns e =
    rw e (elim (is_known same_name ns x) as (λ b. n ∷ (if b then ns else ns ++ (x ∷ []))
    ≡ (if b then n ∷ ns else n ∷ (ns ++ (x ∷ [])))) [ true ↦ refl | false ↦ refl ])

-- what binding does to the names
pub bind-names : (env : Subst) (x : List ℕ) (w : Value) (r : Subst) → bind env x w ≡ Some r
    → names r ≡ add_new same_name (names env) x
bind-names [] x w r e = let q : record { name = x; value = w } ∷ [] ≡ r = cc in ap names (sym q)
bind-names (b ∷ env) x w r e =
    elim (if_either (same_name b.name x) _ _ r e) [
      | inl q ↦ let m = mapped (λ u. record { name = b.name; value = u } ∷ env) (merge b.value w) r q.1 in
          ap names (sym m.2) ∙ rw q.0 refl
      | inr q ↦ let m = mapped (λ u. b ∷ u) (bind env x w) r q.1 in
          ap names (sym m.2) ∙ ap (λ ns. b.name ∷ ns) (bind-names env x w m.0 m.1)
          ∙ add_new-behind b.name x (names env) q.0
    ]

-- the form of a variable with uses of two forms: a tuple, if one is a tuple
abbrev pub join : Form → Form → Form
join one_form b = b
join seq_form b = seq_form
join bag_form one_form = bag_form
join bag_form seq_form = seq_form
join bag_form bag_form = bag_form

-- joining is associative, with `one_form` as its unit
join_assoc : (a b c : Form) → join (join a b) c ≡ join a (join b c)
join_assoc one_form b c = refl
join_assoc seq_form b c = refl
join_assoc bag_form one_form c = refl
join_assoc bag_form seq_form c = refl
join_assoc bag_form bag_form one_form = refl
join_assoc bag_form bag_form seq_form = refl
join_assoc bag_form bag_form bag_form = refl

join_one : (a : Form) → join a one_form ≡ a
join_one one_form = refl
join_one seq_form = refl
join_one bag_form = refl

pub join_seq : (a : Form) → join a seq_form ≡ seq_form
join_seq one_form = refl
join_seq seq_form = refl
join_seq bag_form = refl

-- the form of a value, if there is one
abbrev pub held_form : Option Value → Form
held_form None = one_form
held_form (Some v) = form_of v

-- the form of a merge is the join of the forms
merge-form : (v w u : Value) → merge v w ≡ Some u → form_of u ≡ join (form_of v) (form_of w)
merge-form (one t) (one s) u e = sym (ap form_of (from_if _ _ u e).1)
merge-form (seq ts) (seq us) u e = sym (ap form_of (from_if _ _ u e).1)
merge-form (bag ts) (bag us) u e = sym (ap form_of (from_if _ _ u e).1)
merge-form (seq ts) (bag us) u e = sym (ap form_of (from_if _ _ u e).1)
merge-form (bag ts) (seq us) u e = sym (ap form_of (from_if _ _ u e).1)
merge-form (one t) (seq us) u e = cc
merge-form (one t) (bag us) u e = cc
merge-form (seq ts) (one s) u e = cc
merge-form (bag ts) (one s) u e = cc

abbrev joined_at : Bool → Form → Form → Form
joined_at b c d = if b then join c d else c

-- what binding does to the forms
bind-forms : (env : Subst) (x : List ℕ) (w : Value) (r : Subst) → bind env x w ≡ Some r → (y : List ℕ)
    → held_form (value_of r y) ≡ joined_at (same_name x y) (held_form (value_of env y)) (form_of w)
bind-forms [] x w r e y =
    let q : record { name = x; value = w } ∷ [] ≡ r = cc in
    ap (λ s. held_form (value_of s y)) (sym q)
    ∙ elim (same_name x y) as (λ b. held_form (if b then Some w else None) ≡ joined_at b one_form (form_of w))
    [ true ↦ refl | false ↦ refl ]
bind-forms (b ∷ env) x w r e y =
    elim (if_either (same_name b.name x) _ _ r e) [
      | inl q ↦
          let m = mapped (λ u. record { name = b.name; value = u } ∷ env) (merge b.value w) r q.1 in
          ap (λ s. held_form (value_of s y)) (sym m.2) ∙ same m.0 m.1 (same_name-is b.name x q.0)
      | inr q ↦
          let m = mapped (λ u. b ∷ u) (bind env x w) r q.1 in
          ap (λ s. held_form (value_of s y)) (sym m.2) ∙ other m.0 (bind-forms env x w m.0 m.1 y) q.0
    ]
  where
    same : (u : Value) → merge b.value w ≡ Some u → b.name ≡ x
        → held_form (if same_name b.name y then Some u else value_of env y)
        ≡ joined_at (same_name x y) (held_form (if same_name b.name y then Some b.value else value_of env y))
        (form_of w)
    same u h n =
        subst (λ z. held_form (if same_name b.name y then Some u else value_of env y)
        ≡ joined_at (same_name z y) (held_form (if same_name b.name y then Some b.value else value_of env y))
        (form_of w)) n
        (elim (same_name b.name y) as (λ c. held_form (if c then Some u else value_of env y)
        ≡ joined_at c (held_form (if c then Some b.value else value_of env y)) (form_of w))
        [ true ↦ merge-form b.value w u h | false ↦ refl ])

    other : (s : Subst) → held_form (value_of s y) ≡ joined_at (same_name x y) (held_form (value_of env y)) (form_of w)
        → same_name b.name x ≡ false
        → held_form (if same_name b.name y then Some b.value else value_of s y)
        ≡ joined_at (same_name x y) (held_form (if same_name b.name y then Some b.value else value_of env y))
        (form_of w)
    other s i n =
        elim (same_name b.name y) as (λ c. same_name b.name y ≡ c
        → held_form (if c then Some b.value else value_of s y)
        ≡ joined_at (same_name x y) (held_form (if c then Some b.value else value_of env y)) (form_of w)) [
          | true ↦ λ q. let apart : same_name x y ≡ false =
              same_name-swap x y ∙ ap (λ z. same_name z x) (sym (same_name-is b.name y q)) ∙ n in rw apart refl
          | false ↦ λ q. i
        ] refl

-- final values are arranged, and their merges final
pub arranged-final : (sig : Sig) (v : Value) → IsFinal sig v → IsArranged v
arranged-final sig (one t) h = tt
arranged-final sig (seq ts) h = tt
arranged-final sig (bag ts) h = h.1

merge-final : (sig : Sig) (v w u : Value) → merge v w ≡ Some u → IsFinal sig v → IsFinal sig w → IsFinal sig u
merge-final sig (one t) (one s) u e h k = subst (IsFinal sig) (from_if _ _ u e).1 h
merge-final sig (seq ts) (seq us) u e h k = subst (IsFinal sig) (from_if _ _ u e).1 h
merge-final sig (bag ts) (bag us) u e h k = subst (IsFinal sig) (from_if _ _ u e).1 h
merge-final sig (seq ts) (bag us) u e h k = subst (IsFinal sig) (from_if _ _ u e).1 h
merge-final sig (bag ts) (seq us) u e h k = subst (IsFinal sig) (from_if _ _ u e).1 k
merge-final sig (one t) (seq us) u e h k = cc
merge-final sig (one t) (bag us) u e h k = cc
merge-final sig (seq ts) (one s) u e h k = cc
merge-final sig (bag ts) (one s) u e h k = cc

-- each value is final
abbrev pub AllFinal : Sig → Subst → Type 0
AllFinal sig env = AllByRecursion (λ b. IsFinal sig b.value) env

pub all-arranged : (sig : Sig) (env : Subst) → AllFinal sig env → AllArranged env
all-arranged sig [] h = tt
all-arranged sig (b ∷ env) h = (arranged-final sig b.value h.0, all-arranged sig env h.1)

-- binding keeps values final
pub bind-final : (sig : Sig) (env : Subst) (x : List ℕ) (w : Value) (r : Subst) → bind env x w ≡ Some r
    → AllFinal sig env → IsFinal sig w → AllFinal sig r
bind-final sig [] x w r e h k = let q : record { name = x; value = w } ∷ [] ≡ r = cc in subst (AllFinal sig) q (k, tt)
bind-final sig (b ∷ env) x w r e h k =
    elim (if_either (same_name b.name x) _ _ r e) [
      | inl q ↦ let m = mapped (λ u. record { name = b.name; value = u } ∷ env) (merge b.value w) r q.1 in
          subst (AllFinal sig) m.2 (merge-final sig b.value w m.0 m.1 h.0 k, h.1)
      | inr q ↦ let m = mapped (λ u. b ∷ u) (bind env x w) r q.1 in
          subst (AllFinal sig) m.2 (h.0, bind-final sig env x w m.0 m.1 h.1 k)
    ]

-- the form that a use asks for
abbrev pub use_form : Bool → Bool → Form
use_form sequence comm = if sequence then (if comm then bag_form else seq_form) else one_form

module _ (sig : Sig) where
  -- the form by the uses of sequence wildcards
  abbrev among : List Use → Form
  among m = if list_any (λ v. not (comm_above sig v.under)) m then seq_form else
      (if list_any (λ _. true) m then bag_form else one_form)

  joined_use : (c a b : Bool) → (if not c || a then seq_form else bag_form)
      ≡ join (if c then bag_form else seq_form) (if a then seq_form else (if b then bag_form else one_form))
  joined_use false a b = refl
  joined_use true true b = refl
  joined_use true false true = refl
  joined_use true false false = refl

  among-cons : (n q : Bool) (u : Use) (m : List Use)
      → among (if n && q then u ∷ m else m)
      ≡ (if n then join (use_form q (comm_above sig u.under)) (among m) else among m)
  among-cons false q u m = refl
  among-cons true false u m = refl
  among-cons true true u m = joined_use (comm_above sig u.under) (list_any (λ v. not (comm_above sig v.under)) m)
      (list_any (λ _. true) m)

  -- one use more
  pub form_among-cons : (u : Use) (us : List Use) (x : List ℕ)
      → form_among sig (u ∷ us) x
      ≡ (if same_name x u.name then join (use_form (is_sequence u.wildcard) (comm_above sig u.under))
      (form_among sig us x) else form_among sig us x)
  form_among-cons u us x = among-cons (same_name x u.name) (is_sequence u.wildcard) u
      (filter (λ v. same_name x v.name && is_sequence v.wildcard) us)

  sequence-form : (f : Option ℕ) (l : List Tree) → form_of (sequence sig f l) ≡ use_form true (comm_above sig f)
  sequence-form f l = elim (comm_above sig f) as (λ b. form_of (if b then bag l else seq l) ≡ use_form true b)
      [ true ↦ refl | false ↦ refl ]

  -- the form of what a take gives
  given-form : (f : Option ℕ) (w : Wildcard) (l : List Tree) (g : Value) → given sig f w l ≡ Some g
      → form_of g ≡ use_form (is_sequence w) (comm_above sig f)
  given-form f dot l g e = ap form_of (contributor-contributes sig f l g e).is
  given-form f (kind k) [] g e = cc
  given-form f (kind k) (t ∷ []) g e =
      elim (in_kind sig k t) as (λ b. (if b then Some (one t) else None) ≡ Some g → form_of g ≡ one_form) [
        | true ↦ λ p. let q : one t ≡ g = cc in ap form_of (sym q)
        | false ↦ λ p. cc
      ] e
  given-form f (kind k) (t ∷ u ∷ l) g e = cc
  given-form f plus [] g e = cc
  given-form f plus (t ∷ l) g e = let q : sequence sig f (t ∷ l) ≡ g = cc in
      ap form_of (sym q) ∙ sequence-form f (t ∷ l)
  given-form f star l g e = let q : sequence sig f l ≡ g = cc in ap form_of (sym q) ∙ sequence-form f l
  given-form f (counted n c) l g e =
      ap form_of (sym (from_if (meets_count n c (length l)) (sequence sig f l) g e).1) ∙ sequence-form f l
  given-form f (optional d) [] g e = let q : one d ≡ g = cc in ap form_of (sym q)
  given-form f (optional d) (t ∷ l) g e = ap form_of (contributor-contributes sig f (t ∷ l) g e).is

  -- the first take, and the others
  record FirstTake (env : Subst) (t : Taken) (ts : List Taken) (after : Subst) : Type 0 where
    value : Value
    is : given sig t.by.under t.by.wildcard t.terms ≡ Some value
    then_env : Subst
    bound : bind env t.by.name value ≡ Some then_env
    rest : solve sig then_env ts ≡ Some after

  first_take : (env : Subst) (t : Taken) (ts : List Taken) (after : Subst) → solve sig env (t ∷ ts) ≡ Some after
      → FirstTake env t ts after
  first_take env t ts after e =
      let a = then_some (λ w. option_and_then (λ r. solve sig r ts) (bind env t.by.name w))
      (given sig t.by.under t.by.wildcard t.terms) after e in
      let b = then_some (λ r. solve sig r ts) (bind env t.by.name a.0) after a.2 in
      record { value = a.0; is = a.1; then_env = b.0; bound = b.1; rest = b.2 }

  -- after the takes the names are the variables, in order of first use
  pub solve-names : (env : Subst) (ts : List Taken) (after : Subst) → solve sig env ts ≡ Some after
      → names after ≡ firsts_after same_name (names env) (map (λ u. u.name) (map (λ t. t.by) ts))
  solve-names env [] after e = let q : env ≡ after = cc in ap names (sym q)
  solve-names env (t ∷ ts) after e =
      let f = first_take env t ts after e in
      solve-names f.then_env ts after f.rest ∙ ap
      (λ ns. firsts_after same_name ns (map (λ u. u.name) (map (λ t. t.by) ts)))
      (bind-names env t.by.name f.value f.then_env f.bound)

  -- and the forms are the joins of the forms of the uses
  pub solve-forms : (env : Subst) (ts : List Taken) (after : Subst) → solve sig env ts ≡ Some after → (y : List ℕ)
      → held_form (value_of after y) ≡ join (held_form (value_of env y)) (form_among sig (map (λ t. t.by) ts) y)
  solve-forms env [] after e y = let q : env ≡ after = cc in ap (λ s. held_form (value_of s y)) (sym q)
      ∙ sym (join_one (held_form (value_of env y)))
  solve-forms env (t ∷ ts) after e y =
      let f = first_take env t ts after e in
      let us = map (λ t. t.by) ts in
      let g : form_of f.value ≡ use_form (is_sequence t.by.wildcard) (comm_above sig t.by.under) =
      given-form t.by.under t.by.wildcard t.terms f.value f.is in
      solve-forms f.then_env ts after f.rest y
      ∙ ap (λ a. join a (form_among sig us y))
      (bind-forms env t.by.name f.value f.then_env f.bound y
      ∙ ap (joined_at (same_name t.by.name y) (held_form (value_of env y))) g)
      ∙ ap (λ b.
      join (joined_at b (held_form (value_of env y))
      (use_form (is_sequence t.by.wildcard) (comm_above sig t.by.under))) (form_among sig us y))
      (same_name-swap t.by.name y)
      ∙ regrouped (same_name y t.by.name) (held_form (value_of env y))
      (use_form (is_sequence t.by.wildcard) (comm_above sig t.by.under)) (form_among sig us y)
      ∙ ap (join (held_form (value_of env y))) (sym (form_among-cons t.by us y))
    where
      regrouped : (b : Bool) (a c d : Form) → join (joined_at b a c) d ≡ join a (if b then join c d else d)
      regrouped true a c d = join_assoc a c d
      regrouped false a c d = refl

  -- the take gives a final value, if any
  abbrev pub GivesFinal : Taken → Type 0
  GivesFinal t = (g : Value) → given sig t.by.under t.by.wildcard t.terms ≡ Some g → IsFinal sig g

  -- and the values are final
  pub solve-final : (env : Subst) (ts : List Taken) (after : Subst) → solve sig env ts ≡ Some after → AllFinal sig env
      → AllByRecursion GivesFinal ts → AllFinal sig after
  solve-final env [] after e h k = let q : env ≡ after = cc in subst (AllFinal sig) q h
  solve-final env (t ∷ ts) after e h k =
      let f = first_take env t ts after e in
      solve-final f.then_env ts after f.rest
      (bind-final sig env t.by.name f.value f.then_env f.bound h (k.0 f.value f.is)) k.1

  -- what agrees with the result agrees with the start, and obeys the takes
  pub solve-sound : (env s : Subst) (ts : List Taken) (after : Subst) → solve sig env ts ≡ Some after → AllFinal sig env
      → AllByRecursion GivesFinal ts → Extends after s → Extends env s × AllByRecursion (Obeys sig s) ts
  solve-sound env s [] after e h k x = let q : env ≡ after = cc in (subst (λ r. Extends r s) (sym q) x, tt)
  solve-sound env s (t ∷ ts) after e h k x =
      let f = first_take env t ts after e in
      let i = solve-sound f.then_env s ts after f.rest
      (bind-final sig env t.by.name f.value f.then_env f.bound h (k.0 f.value f.is)) k.1 x in
      let b = bind-sound env s t.by.name f.value f.then_env (all-arranged sig env h)
      (arranged-final sig f.value (k.0 f.value f.is)) f.bound i.0 in
      (b.0, (record { value = f.value; is = f.is; final = b.1.0; held = b.1.1; refines = b.1.2 }, i.1))

-- each binding is found at its name
abbrev pub IsFound : Subst → Binding → Type 0
IsFound s b = value_of s b.name ≡ Some b.value

found-behind : (b : Binding) (s r : Subst) → AllByRecursion (λ y. same_name b.name y ≡ false) (names r)
    → AllByRecursion (IsFound s) r → AllByRecursion (IsFound (b ∷ s)) r
found-behind b s [] h k = tt
found-behind b s (c ∷ r) h k = (rw h.0 k.0, found-behind b s r h.1 k.1)

-- the bindings of distinct names are found
pub found-itself : (s : Subst) → Distinct same_name (names s) → AllByRecursion (IsFound s) s
found-itself [] h = tt
found-itself (b ∷ s) h = (rw (same_name-itself b.name) refl, found-behind b s s h.0 (found-itself s h.1))

pub found-IsSubstOf : (sig : Sig) (p : Pattern) (s : Subst) → IsSubstOf sig p s → AllByRecursion (IsFound s) s
found-IsSubstOf sig p s h = found-itself s
    (subst (Distinct same_name) (sym h.names) (distinct-firsts same_name [] (map (λ u. u.name) (uses None p)) tt))

-- so they agree with the substitution and have its forms
pub extends-from_found : (s r : Subst) → AllByRecursion (IsFound s) r → Extends r s
extends-from_found s [] h = tt
extends-from_found s (b ∷ r) h = ((b.value, h.0, refines-itself b.value), extends-from_found s r h.1)

pub forms-from_found : (F : List ℕ → Form) (s r : Subst) → AllByRecursion (IsFound s) r
    → ((y : List ℕ) → held_form (value_of s y) ≡ F y) → AllByRecursion (λ b. form_of b.value ≡ F b.name) r
forms-from_found F s [] h k = tt
forms-from_found F s (b ∷ r) h k = (sym (ap held_form h.0) ∙ k b.name, forms-from_found F s r h.1 k)

-- a value that agrees with one of its own form is that one
same_form : (v w : Value) → Refines v w → form_of v ≡ form_of w → v ≡ w
same_form (one t) (one u) r e = ap one r
same_form (seq t) (seq u) r e = ap seq r
same_form (bag t) (bag u) r e = ap bag r
same_form (bag t) (seq u) r e = cc
same_form (one t) (seq u) r e = absurd r
same_form (one t) (bag u) r e = absurd r
same_form (seq t) (one u) r e = absurd r
same_form (seq t) (bag u) r e = absurd r
same_form (bag t) (one u) r e = absurd r

-- agreement with the rest
extends-tail : (b : Binding) (r s : Subst) → AllByRecursion (λ y. same_name b.name y ≡ false) (names r)
    → Extends r (b ∷ s) → Extends r s
extends-tail b [] s h k = tt
extends-tail b (c ∷ r) s h k = ((k.0.0, rw h.0 at k.0.1, k.0.2), extends-tail b r s h.1 k.1)

-- two substitutions of the same names and forms that agree are the same
pub agreeing_same : (F : List ℕ → Form) (r s : Subst) → names r ≡ names s → Distinct same_name (names s) → Extends r s
    → AllByRecursion (λ b. form_of b.value ≡ F b.name) r → AllByRecursion (λ b. form_of b.value ≡ F b.name) s → r ≡ s
agreeing_same F [] [] n d x h k = refl
agreeing_same F [] (c ∷ s) n d x h k = cc
agreeing_same F (b ∷ r) [] n d x h k = cc
agreeing_same F (b ∷ r) (c ∷ s) n d x h k =
    let p : b.name ≡ c.name = cc in
    let ns : names r ≡ names s = cc in
    let here : value_of (c ∷ s) c.name ≡ Some c.value = rw (same_name-itself c.name) refl in
    let held : Some x.0.0 ≡ Some c.value = sym x.0.1 ∙ ap (value_of (c ∷ s)) p ∙ here in
    let q : x.0.0 ≡ c.value = cc in
    let v : b.value ≡ c.value = same_form b.value c.value (subst (Refines b.value) q x.0.2) (h.0 ∙ ap F p ∙ sym k.0) in
    let t : r ≡ s = agreeing_same F r s ns d.1
    (extends-tail c r s (subst (AllByRecursion (λ y. same_name c.name y ≡ false)) (sym ns) d.0) x.1) h.1 k.1 in
    ap (λ m. record { name = m; value = b.value } ∷ r) p ∙ ap (λ m. record { name = c.name; value = m } ∷ r) v
    ∙ ap (λ m. c ∷ m) t

module _ (sig : Sig) (p : Pattern) (ts : List Taken) (same_uses : map (λ t. t.by) ts ≡ uses None p) where
  -- what solves the takes has the pattern's variables, with their forms
  pub names-from_solve : (s : Subst) → solve sig [] ts ≡ Some s → names s ≡ variables p
  names-from_solve s e = solve-names sig [] ts s e
      ∙ ap (λ us. firsts_after same_name [] (map (λ u. u.name) us)) same_uses

  pub forms-from_solve : (s : Subst) → solve sig [] ts ≡ Some s → (y : List ℕ)
      → held_form (value_of s y) ≡ variable_form sig p y
  forms-from_solve s e y = solve-forms sig [] ts s e y ∙ ap (λ us. form_among sig us y) same_uses

  pub found-from_solve : (s : Subst) → solve sig [] ts ≡ Some s → AllByRecursion (IsFound s) s
  found-from_solve s e =
      found-itself s
      (subst (Distinct same_name) (sym (names-from_solve s e))
      (distinct-firsts same_name [] (map (λ u. u.name) (uses None p)) tt))

  -- a substitution of the pattern that obeys the takes is what solves them
  pub solved-by : (s : Subst) → IsSubstOf sig p s → AllByRecursion (Obeys sig s) ts → solve sig [] ts ≡ Some s
  solved-by s h k =
      let c = solve-complete sig [] s ts tt k in
      let d : Distinct same_name (names s) = subst (Distinct same_name) (sym h.names)
      (distinct-firsts same_name [] (map (λ u. u.name) (uses None p)) tt) in
      let q : c.after ≡ s = agreeing_same (variable_form sig p) c.after s
      (names-from_solve c.after c.is ∙ sym h.names) d c.extends
      (forms-from_found (variable_form sig p) c.after c.after (found-from_solve c.after c.is)
      (forms-from_solve c.after c.is)) h.forms in
      c.is ∙ ap Some q

  -- what solves the takes is a substitution of the pattern, and obeys them
  pub solution : (s : Subst) → AllByRecursion (GivesFinal sig) ts → solve sig [] ts ≡ Some s
      → IsSubstOf sig p s × AllByRecursion (Obeys sig s) ts
  solution s g e = (
    record {
      names = names-from_solve s e;
      forms = forms-from_found (variable_form sig p) s s (found-from_solve s e) (forms-from_solve s e);
      final = solve-final sig [] ts s e tt g;
    },
    (solve-sound sig [] s ts s e tt g (extends-from_found s s (found-from_solve s e))).1,
  )
