-- Look-ups in a signature, and what stays true of it when a declaration is added.
use Rattle.std.proofs.Common.{◌≡◌, ℕ, zero, suc, ◌+◌, ◌-◌, ◌<◌, ◌≤◌, Bool, true, false, ◌||◌, not, cond, List, [], ◌∷◌}
use Rattle.std.proofs.Common.{◌++◌, length, map, refl, ap, sym, subst, ◌∙◌, arith, length-append}
use Rattle.std.specs.Prelude.{Option, Some, None, option_map, is_some, IfSome, slice_get, position, nat_le, nat_lt}
use Rattle.std.specs.Prelude.{bytes_eq, codes, if◌then◌else◌}
use Rattle.std.specs.Option.{option_map_or}
use Rattle.std.specs.List.{list_any, list_all, position_or_len}
use Rattle.std.proofs.lemmas.List.{length-map, map-append}
use Rattle.std.proofs.lemmas.Simd.{map-map}
use Rattle.std.proofs.lemmas.Option.{slice_get-map}
use Rattle.std.proofs.lemmas.List.Folds.{list_all-append}
use Rattle.std.proofs.lemmas.Bool.{and_parts, and_from, or_parts}
use Rattle.std.proofs.lemmas.Bool.Decides.{nat_tests}
use Rattle.mp_term.specs.declared.limits.TheConstants.{MAX_ARITY, MAX_OPS, MAX_KINDS}
use Rattle.mp_term.specs.declared.signature.OpDecl.{OpDecl}
use Rattle.mp_term.specs.declared.signature.SigFault.TheVariants.{DuplicateName, TooManyOps, TooManyKinds, BadFlags}
use Rattle.mp_term.specs.Tree.{symbol}
use Rattle.mp_term.specs.Names.{are_distinct, names_ascend, name_set}
use Rattle.mp_term.specs.Signature.{Sig, Kind, in_order, shares_sign, clashes, none_clash, op_fault, kind_fault}
use Rattle.mp_term.specs.Signature.{kind_names, kind_members, in_kind, is_member, IsSignature}
use Rattle.mp_term.proofs.NameSets.{names_ascend-name_set}

module _ {X : Type 0} (p : X → Bool) where
  position_or_len-map : {Y : Type 0} (f : Y → X) (ys : List Y)
      → position_or_len p (map f ys) ≡ position_or_len (λ y. p (f y)) ys
  position_or_len-map f [] = refl
  position_or_len-map f (y ∷ ys) = ap (λ n. cond (not (p (f y))) (1 + n) 0) (position_or_len-map f ys)

  pub position-map : {Y : Type 0} (f : Y → X) (ys : List Y) → position p (map f ys) ≡ position (λ y. p (f y)) ys
  position-map f ys = rw (position_or_len-map f ys, length-map ys f) refl

  -- behind a first element that doesn't pass
  pub position-behind : (x : X) (xs : List X) → p x ≡ false
      → position p (x ∷ xs) ≡ option_map (λ i. i + 1) (position p xs)
  position-behind x xs e = rw e (moved (position_or_len p xs) (length xs))
    where
      moved : (i n : ℕ) → cond (nat_lt (1 + i) (suc n)) (Some (1 + i)) None
          ≡ option_map (λ k. k + 1) (cond (nat_lt i n) (Some i) None)
      moved i n =
          elim (nat_lt i n) as (λ b. nat_lt i n ≡ b
          → cond (nat_lt (1 + i) (suc n)) (Some (1 + i)) None ≡ option_map (λ k. k + 1) (cond b (Some i) None)) [
            | true ↦ λ e. let k : nat_lt (1 + i) (suc n) ≡ true = grind (arith, nat_tests) in let m : 1 + i ≡ i + 1 =
                omega arith in rw (k, m) refl
            | false ↦ λ e. let k : nat_lt (1 + i) (suc n) ≡ false = grind (arith, nat_tests) in rw k refl
          ] refl

  pub position-first : (x : X) (xs : List X) → p x ≡ true → position p (x ∷ xs) ≡ Some 0
  position-first x xs e = let k : nat_lt 0 (suc (length xs)) ≡ true = grind (arith, nat_tests) in rw (e, k) refl

  pub is_some-position : (xs : List X) → is_some (position p xs) ≡ list_any p xs
  is_some-position [] = refl
  is_some-position (x ∷ xs) = by_test (p x) refl (is_some-position xs)
    where
      still : (o : Option ℕ) → is_some (option_map (λ i. i + 1) o) ≡ is_some o
      still None = refl
      still (Some i) = refl

      by_test : (b : Bool) → p x ≡ b → is_some (position p xs) ≡ list_any p xs
          → is_some (position p (x ∷ xs)) ≡ (b || list_any p xs)
      by_test true e same = ap is_some (position-first x xs e)
      by_test false e same = ap is_some (position-behind x xs e) ∙ still (position p xs) ∙ same

pub list_any-map : {X Y : Type 0} (p : X → Bool) (f : Y → X) (ys : List Y)
    → list_any p (map f ys) ≡ list_any (λ y. p (f y)) ys
list_any-map p f [] = refl
list_any-map p f (y ∷ ys) = ap (λ b. p (f y) || b) (list_any-map p f ys)

-- a name that isn't among the keys goes last
pub map-insert_key : {K : Type 0} (bytes : K → List ℕ) (keys new : List K) (k : K) (n : List ℕ) → bytes k ≡ n
    → list_any (bytes_eq n) (map bytes keys) ≡ false
    → new ≡ (if list_any (λ c. bytes_eq (bytes k) (bytes c)) keys then keys else (keys ++ k ∷ []))
    → map bytes new ≡ map bytes keys ++ n ∷ []
map-insert_key bytes keys new k n e h q =
    let a : list_any (λ c. bytes_eq (bytes k) (bytes c)) keys ≡ false =
    rw e (sym (list_any-map (bytes_eq n) bytes keys) ∙ h) in
    let b : new ≡ keys ++ k ∷ [] = rw a at q in
    ap (map bytes) b ∙ map-append bytes keys (k ∷ []) ∙ ap (λ m. map bytes keys ++ m ∷ []) e

-- the items after a push that doesn't fail, into a list that was given room before
pub items-pushed : {X : Type 0} (b : Bool) (new reserved old : List X) (x : X)
    → new ≡ (if b then reserved ++ x ∷ [] else reserved) → b ≡ true → reserved ≡ old → new ≡ old ++ x ∷ []
items-pushed b new reserved old x e t r = let f : new ≡ reserved ++ x ∷ [] = rw t at e in f ∙ ap (λ l. l ++ x ∷ []) r

pub slice_get-behind : {X : Type 0} (x : X) (xs : List X) (i : ℕ) → 0 < i → slice_get (x ∷ xs) i ≡ slice_get xs (i - 1)
slice_get-behind x xs zero h = absurd (omega arith)
slice_get-behind x xs (suc i) h = let e : suc i - 1 ≡ i = omega arith in rw e refl

-- what a look-up by number or by name gives where the kinds are given by f of the items of ks
module _ {K : Type 0} (f : K → Kind) (ks : List K) (sig : Sig) (same : map f ks ≡ sig.kinds) where
  at_kind : {B X : Type 0} (now : B → K) (part : Kind → X) (i : ℕ) (r : Option B) → slice_get ks i ≡ option_map now r
      → slice_get (map part sig.kinds) i ≡ option_map (λ b. part (f (now b))) r
  at_kind {B = B} now part i r e =
      let parts : map part sig.kinds ≡ map (λ k. part (f k)) ks = ap (map part) (sym same) ∙ map-map part f ks in
      rw (parts, slice_get-map (λ k. part (f k)) ks i, e) (together r)
    where
      together : (o : Option B) → option_map (λ k. part (f k)) (option_map now o) ≡ option_map (λ b. part (f (now b))) o
      together None = refl
      together (Some b) = refl

  pub slice_get-kind_names : {B : Type 0} (now : B → K) (i : ℕ) (r : Option B) → (i ≡ 0 → ⊥)
      → slice_get ks (i - 1) ≡ option_map now r → slice_get (kind_names sig) i ≡ option_map (λ b. (f (now b)).name) r
  slice_get-kind_names now i r n e = slice_get-behind (codes "num") (map (λ k. k.name) sig.kinds) i (omega arith)
      ∙ at_kind now (λ k. k.name) (i - 1) r e

  pub slice_get-kind_members : {B : Type 0} (now : B → K) (i : ℕ) (r : Option B) → (i ≡ 0 → ⊥)
      → slice_get ks (i - 1) ≡ option_map now r
      → slice_get (kind_members sig) i ≡ option_map (λ b. (f (now b)).members) r
  slice_get-kind_members now i r n e = slice_get-behind [] (map (λ k. k.members) sig.kinds) i (omega arith)
      ∙ at_kind now (λ k. k.members) (i - 1) r e

-- the members of a kind ascend
pub ascend-found : {B : Type 0} (now : B → List (List ℕ)) (mss : List (List (List ℕ))) (i : ℕ) (r : Option B)
    → list_all names_ascend mss ≡ true → slice_get mss i ≡ option_map now r
    → IfSome r (λ b. names_ascend (now b) ≡ true)
ascend-found now mss i None h e = tt
ascend-found now [] i (Some b) h e = cc
ascend-found now (ms ∷ mss) zero (Some b) h e =
    subst (λ o. option_map_or names_ascend o false ≡ true) e (and_parts _ _ h).0
ascend-found now (ms ∷ mss) (suc i) (Some b) h e = ascend-found now mss i (Some b) (and_parts _ _ h).1 e

-- the kinds but for the first are those with declared members
in_kind-declared : (sig : Sig) (i : ℕ) (n : List ℕ) → 0 < i
    → in_kind sig i (symbol n) ≡ is_member n (slice_get sig.kinds (i - 1))
in_kind-declared sig zero n h = absurd (omega arith)
in_kind-declared sig (suc i) n h = let e : suc i - 1 ≡ i = omega arith in rw e refl

members_of : (n : List ℕ) (ks : List Kind) (i : ℕ)
    → is_member n (slice_get ks i) ≡ option_map_or (list_any (bytes_eq n)) (slice_get (map (λ k. k.members) ks) i) false
members_of n [] i = refl
members_of n (k ∷ ks) zero = refl
members_of n (k ∷ ks) (suc i) = members_of n ks i

pub in_kind-members : (sig : Sig) (i : ℕ) (n : List ℕ) → 0 < i
    → in_kind sig i (symbol n) ≡ option_map_or (list_any (bytes_eq n)) (slice_get (kind_members sig) i) false
in_kind-members sig i n h = in_kind-declared sig i n h ∙ members_of n sig.kinds (i - 1)
    ∙ ap (λ o. option_map_or (list_any (bytes_eq n)) o false)
    (sym (slice_get-behind [] (map (λ k. k.members) sig.kinds) i h))

-- what an added operation must keep
all_with : {X : Type 0} (p : X → Bool) (xs : List X) (x : X) → list_all p xs ≡ true → p x ≡ true
    → list_all p (xs ++ x ∷ []) ≡ true
all_with p xs x h e = list_all-append p xs (x ∷ []) ∙ and_from _ _ h (and_from _ _ e refl)

none_clash-append : (ds : List OpDecl) (d : OpDecl) → none_clash ds ≡ true → list_any (clashes d) ds ≡ false
    → none_clash (ds ++ d ∷ []) ≡ true
none_clash-append [] d h e = refl
none_clash-append (c ∷ ds) d h e =
    let k = and_parts _ _ h in
    let f = or_parts _ _ e in
    and_from _ _ (all_with (λ x. not (clashes x c)) ds d k.0 (ap not f.0)) (none_clash-append ds d k.1 f.1)

are_distinct-append : (ns : List (List ℕ)) (n : List ℕ) → are_distinct ns ≡ true → list_any (bytes_eq n) ns ≡ false
    → are_distinct (ns ++ n ∷ []) ≡ true
are_distinct-append [] n h e = refl
are_distinct-append (m ∷ ns) n h e =
    let k = and_parts _ _ h in
    let f = or_parts _ _ e in
    and_from _ _ (all_with (λ x. not (bytes_eq x m)) ns n k.0 (ap not f.0)) (are_distinct-append ns n k.1 f.1)

no_op_fault : (a b c : Bool)
    → (if a then Some DuplicateName else if b then Some TooManyOps else if c then None else Some BadFlags) ≡ None
    → (a ≡ false) × (b ≡ false) × (c ≡ true)
no_op_fault true b c e = cc
no_op_fault false true c e = cc
no_op_fault false false true e = (refl, refl, refl)
no_op_fault false false false e = cc

no_kind_fault : (a b : Bool) → (if a then Some DuplicateName else if b then Some TooManyKinds else None) ≡ None
    → (a ≡ false) × (b ≡ false)
no_kind_fault true b e = cc
no_kind_fault false true e = cc
no_kind_fault false false e = (refl, refl)

no_name_clashes : (d : OpDecl) (ds : List OpDecl) → list_any (clashes d) ds ≡ false
    → list_any (bytes_eq d.name) (map (λ c. c.name) ds) ≡ false
no_name_clashes d [] h = refl
no_name_clashes d (c ∷ ds) h =
    let k = or_parts (clashes d c) (list_any (clashes d) ds) h in
    let n = or_parts (bytes_eq d.name c.name) (shares_sign d.sign c) k.0 in
    rw n.0 (no_name_clashes d ds k.1)

pub new_op_name : (sig : Sig) (d : OpDecl) → op_fault sig d ≡ None
    → list_any (bytes_eq d.name) (map (λ c. c.name) sig.ops) ≡ false
new_op_name sig d e = no_name_clashes d sig.ops
    (no_op_fault (list_any (clashes d) sig.ops) (nat_le MAX_OPS (length sig.ops)) (in_order d) e).0

pub IsSignature-add_op : (sig : Sig) (d : OpDecl) → IsSignature sig → op_fault sig d ≡ None → d.least ≤ MAX_ARITY
    → IsSignature (record { ops = sig.ops ++ d ∷ []; kinds = sig.kinds })
IsSignature-add_op sig d h e l =
    let f = no_op_fault (list_any (clashes d) sig.ops) (nat_le MAX_OPS (length sig.ops)) (in_order d) e in
    let few : nat_le MAX_OPS (length sig.ops) ≡ false = f.1 in
    let few_enough : nat_le d.least MAX_ARITY ≡ true = grind (arith, nat_tests) in
    record {
      ops_in_order = all_with in_order sig.ops d h.ops_in_order f.2;
      least_counts = all_with (λ c. nat_le c.least MAX_ARITY) sig.ops d h.least_counts few_enough;
      ops_distinct = none_clash-append sig.ops d h.ops_distinct f.0;
      at_most_ops = rw (length-append sig.ops (d ∷ [])) (grind (arith, nat_tests));
      kinds_distinct = h.kinds_distinct;
      at_most_kinds = h.at_most_kinds;
      members_ascend = h.members_ascend;
    }

pub IsSignature-add_kind : (sig : Sig) (n : List ℕ) (ms : List (List ℕ)) → IsSignature sig → kind_fault sig n ≡ None
    → IsSignature (record { ops = sig.ops; kinds = sig.kinds ++ record { name = n; members = name_set ms } ∷ [] })
IsSignature-add_kind sig n ms h e =
    let f = no_kind_fault (list_any (bytes_eq n) (kind_names sig)) (nat_le MAX_KINDS (length (kind_names sig))) e in
    let few : nat_le MAX_KINDS (length (kind_names sig)) ≡ false = f.1 in
    let k : Kind = record { name = n; members = name_set ms } in
    record {
      ops_in_order = h.ops_in_order;
      least_counts = h.least_counts;
      ops_distinct = h.ops_distinct;
      at_most_ops = h.at_most_ops;
      kinds_distinct = rw (map-append (λ (c : Kind). c.name) sig.kinds (k ∷ []))
          (are_distinct-append (kind_names sig) n h.kinds_distinct f.0);
      at_most_kinds =
          rw (
            map-append (λ (c : Kind). c.name) sig.kinds (k ∷ []),
            length-append (map (λ (c : Kind). c.name) sig.kinds) (n ∷ []),
          ) (grind (arith, nat_tests));
      members_ascend = rw (map-append (λ (c : Kind). c.members) sig.kinds (k ∷ []))
          (all_with names_ascend (kind_members sig) (name_set ms) h.members_ascend (names_ascend-name_set ms));
    }

-- the same where the kinds are given by f
pub IsSignature-push_kind : {K : Type 0} (f : K → Kind) (ops : List OpDecl) (ks new : List K) (k : K) (n : List ℕ)
    (ms : List (List ℕ)) → f k ≡ record { name = n; members = name_set ms }
    → IsSignature (record { ops = ops; kinds = map f ks })
    → kind_fault (record { ops = ops; kinds = map f ks }) n ≡ None → new ≡ ks ++ k ∷ []
    → IsSignature (record { ops = ops; kinds = map f new })
IsSignature-push_kind f ops ks new k n ms q h e p =
    rw (p, map-append f ks (k ∷ []), q) (IsSignature-add_kind (record { ops = ops; kinds = map f ks }) n ms h e)

-- the names of the kinds with one more
pub kind_names-push : {K : Type 0} (f : K → Kind) (ops : List OpDecl) (ks new : List K) (k : K) → new ≡ ks ++ k ∷ []
    → kind_names (record { ops = ops; kinds = map f new })
    ≡ kind_names (record { ops = ops; kinds = map f ks }) ++ (f k).name ∷ []
kind_names-push f ops ks new k p =
    rw (p, map-append f ks (k ∷ []), map-append (λ (c : Kind). c.name) (map f ks) (f k ∷ [])) refl

pub is_some-option_map : {A B : Type 0} (f : A → B) (o : Option A) → is_some (option_map f o) ≡ is_some o
is_some-option_map f None = refl
is_some-option_map f (Some x) = refl

-- a kind's name is held where a look-up finds it
pub held_where_found : {A : Type 0} (f : A → ℕ) (sig : Sig) (n : List ℕ) (r : Option A)
    → option_map f r ≡ position (bytes_eq n) (kind_names sig) → list_any (bytes_eq n) (kind_names sig) ≡ is_some r
held_where_found f sig n r e = sym (is_some-position (bytes_eq n) (kind_names sig)) ∙ ap is_some (sym e)
    ∙ is_some-option_map f r
