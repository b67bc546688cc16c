-- What contracts see of a signature: the operations and the kinds, each by its number.
use Rattle.std.specs.Prelude.{◌≡◌, ℕ, zero, suc, Bool, true, false, List, [], ◌∷◌, ◌≤◌, ◌==◌, Option, Some, None}
use Rattle.std.specs.Prelude.{slice_get, map, nat_eq, nat_le, ◌&&◌, length, if◌then◌else◌, ◌||◌, not, is_none, codes}
use Rattle.std.specs.Prelude.{bytes_eq}
use Rattle.std.specs.List.{list_any, list_all}
use Rattle.mp_term.specs.declared.signature.OpDecl.{OpDecl}
use Rattle.mp_term.specs.declared.limits.TheConstants.{MAX_ARITY, MAX_OPS, MAX_KINDS}
use Rattle.mp_term.specs.declared.signature.SigFault.{SigFault}
use Rattle.mp_term.specs.declared.signature.SigFault.TheVariants.{DuplicateName, TooManyOps, TooManyKinds, BadFlags}
use Rattle.mp_term.specs.Tree.{Tree, symbol, app, Trees, no_trees, more_trees, tree_list}
use Rattle.mp_term.specs.Names.{names_ascend, are_distinct}

-- a declared kind: its name and the names of its symbols
pub record Kind : Type 0 where
  pub name : List ℕ
  pub members : List (List ℕ)

-- the operations and the declared kinds, in order of declaration
pub record Sig : Type 0 where
  pub ops : List OpDecl
  pub kinds : List Kind

-- the test holds of the declaration, where there is one
abbrev pub holds_of : (OpDecl → Bool) → Option OpDecl → Bool
holds_of test None = false
holds_of test (Some d) = test d

-- the number of arguments is one that the declaration allows
abbrev pub allows : ℕ → OpDecl → Bool
allows n d = if d.fixed then nat_eq n d.least else nat_le d.least n

-- An associative declaration has no fixed count, and a least count of at most 2. A one-identity one has no fixed count,
-- and a least count of at most 1. One with an infix sign has no fixed count, or one of 2 or more.
abbrev pub in_order : OpDecl → Bool
in_order d = (not d.assoc || (not d.fixed && nat_le d.least 2))
    && ((not d.one || (not d.fixed && nat_le d.least 1)) && (is_none d.sign || (not d.fixed || nat_le 2 d.least)))

-- each declaration is in order
abbrev pub all_in_order : List OpDecl → Bool
all_in_order = list_all in_order

-- the declaration has this name
abbrev pub has_name : List ℕ → OpDecl → Bool
has_name n d = bytes_eq n d.name

-- the sign, where there is one, is this one
abbrev pub is_that_sign : List ℕ → Option (List ℕ) → Bool
is_that_sign s None = false
is_that_sign s (Some r) = bytes_eq s r

-- the declaration has this sign
abbrev pub has_sign : List ℕ → OpDecl → Bool
has_sign s d = is_that_sign s d.sign

-- the declaration has this sign, where a sign is given
abbrev pub shares_sign : Option (List ℕ) → OpDecl → Bool
shares_sign None d = false
shares_sign (Some s) d = has_sign s d

-- two declarations have one name or one sign
abbrev pub clashes : OpDecl → OpDecl → Bool
clashes d e = has_name d.name e || shares_sign d.sign e

-- no two of the declarations have one name or one sign
abbrev pub none_clash : List OpDecl → Bool
none_clash [] = true
none_clash (d ∷ ds) = list_all (λ e. not (clashes e d)) ds && none_clash ds

-- why an operation isn't added: the first of the three that applies
abbrev pub op_fault : Sig → OpDecl → Option SigFault
op_fault sig d = if list_any (clashes d) sig.ops then Some DuplicateName else if nat_le MAX_OPS
    (length sig.ops) then Some TooManyOps else if in_order d then None else Some BadFlags

-- a digit
abbrev pub is_digit : ℕ → Bool
is_digit c = nat_le 48 c && nat_le c 57

-- a text of digits only, and of at least one
abbrev pub is_number : List ℕ → Bool
is_number n = not (length n == 0) && list_all is_digit n

-- the names of all kinds, each at the kind's number
abbrev pub kind_names : Sig → List (List ℕ)
kind_names sig = codes "num" ∷ map (λ k. k.name) sig.kinds

-- the kept members of all kinds, each list at the kind's number: none for the numbers, which are a kind by their
-- spelling
abbrev pub kind_members : Sig → List (List (List ℕ))
kind_members sig = [] ∷ map (λ k. k.members) sig.kinds

-- why a kind isn't added: the first of the two that applies
abbrev pub kind_fault : Sig → List ℕ → Option SigFault
kind_fault sig n = if list_any (bytes_eq n) (kind_names sig) then Some DuplicateName else if nat_le MAX_KINDS
    (length (kind_names sig)) then Some TooManyKinds else None

-- what holds of every signature
pub record IsSignature (sig : Sig) : Type 0 where
  pub ops_in_order : all_in_order sig.ops ≡ true
  pub least_counts : list_all (λ d. nat_le d.least MAX_ARITY) sig.ops ≡ true
  pub ops_distinct : none_clash sig.ops ≡ true
  pub at_most_ops : length sig.ops ≤ MAX_OPS
  pub kinds_distinct : are_distinct (kind_names sig) ≡ true
  pub at_most_kinds : length (kind_names sig) ≤ MAX_KINDS
  pub members_ascend : list_all names_ascend (kind_members sig) ≡ true

-- the name is a member of the declared kind, where there is one
abbrev pub is_member : List ℕ → Option Kind → Bool
is_member n None = false
is_member n (Some k) = list_any (bytes_eq n) k.members

module _ (sig : Sig) where
  -- the symbol is of the kind: kind 0 has the numbers, and kind 1 is the first that is declared
  abbrev pub in_kind : ℕ → Tree → Bool
  in_kind zero (symbol n) = is_number n
  in_kind (suc k) (symbol n) = is_member n (slice_get sig.kinds k)
  in_kind k (app f ts) = false

  -- the operation is associative
  abbrev pub is_assoc : ℕ → Bool
  is_assoc f = holds_of (λ d. d.assoc) (slice_get sig.ops f)

  -- the operation is commutative
  abbrev pub is_comm : ℕ → Bool
  is_comm f = holds_of (λ d. d.comm) (slice_get sig.ops f)

  -- the operation is one-identity
  abbrev pub is_one : ℕ → Bool
  is_one f = holds_of (λ d. d.one) (slice_get sig.ops f)

  -- each operation is held, and each count of arguments is allowed
  abbrev mutual
    pub well_formed : Tree → Bool
    well_formed (symbol n) = true
    well_formed (app f ts) = holds_of (allows (length (tree_list ts))) (slice_get sig.ops f) && all_well_formed ts

    pub all_well_formed : Trees → Bool
    all_well_formed no_trees = true
    all_well_formed (more_trees t ts) = well_formed t && all_well_formed ts
