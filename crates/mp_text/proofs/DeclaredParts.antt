-- What is known of an operation and of a kind that statements declare without faults.
use Rattle.std.proofs.Common.{◌≡◌, ◌≤◌, ◌<◌, true, false, cond, List, [], ◌∷◌, length, Option, Some, None}
use Rattle.std.proofs.Common.{refl, arith}
use Rattle.std.specs.Prelude.{option_map}
use Rattle.std.specs.List.{AllByRecursion, dedup, dedup_from}
use Rattle.std.specs.Cmp.Lexicographic.{slice_cmp}
use Rattle.std.specs.declared.cmp.Ordering.{Ordering}
use Rattle.std.specs.Ordering.{nat_cmp, eq_by_cmp}
use Rattle.mp_io.specs.Devices.{Text}
use Rattle.mp_term.specs.declared.limits.TheConstants.{MAX_ARITY, MAX_KIND_SYMBOLS}
use Rattle.mp_term.specs.declared.signature.OpDecl.{OpDecl}
use Rattle.mp_term.specs.Names.{name_set, names_ascend}
use Rattle.mp_term.specs.Sorting.{sorted}
use Rattle.mp_term.specs.Signature.{Kind, in_order}
use Rattle.mp_term.proofs.Sorting.{length-sorted}
use Rattle.mp_pattern.proofs.SortedLaws.{all-sorted}
use Rattle.mp_pattern.specs.SoundRule.{IsSymbol}
use Rattle.mp_parser.specs.Tokens.{first_place}
use Rattle.mp_parser.specs.Syntax.{Spot, IsName, IsInfixSign}
use Rattle.mp_build.specs.Build.{sig_with}
use Rattle.mp_build.specs.Flags.{is_long_sign}

-- ---- operations

-- the sign, where there is one, is one
abbrev pub IsSomeSign : Option Text → Type 0
IsSomeSign None = Unit {0}
IsSomeSign (Some sign) = IsInfixSign sign

-- the operation has a name and a sign, where it has one, that are such
pub record HasOpNames (d : OpDecl) : Type 0 where
  pub name : IsName d.name
  pub sign : IsSomeSign d.sign

-- a sign at the first place
abbrev bare_sign : Text → Spot
bare_sign sign = record { text = sign; place = first_place }

-- an operation that was declared without faults
pub record IsDeclaredOp (d : OpDecl) : Type 0 where
  pub names : HasOpNames d
  pub ordered : in_order d ≡ true
  pub small : d.least ≤ MAX_ARITY
  pub short : is_long_sign (option_map bare_sign d.sign) ≡ false

-- a sign is as long as one of its text
pub short-sign : (sign : Option Spot) → is_long_sign (option_map bare_sign (option_map (λ s. s.text) sign))
    ≡ is_long_sign sign
short-sign None = refl
short-sign (Some sign) = refl

-- ---- kinds

abbrev cmp : Text → Text → Ordering
cmp = slice_cmp nat_cmp

-- what holds of each name holds of each of their set
module _ (P : Text → Type 0) where
  all-dedup_from : (n : Text) (ns : List Text) → P n → AllByRecursion P ns
      → AllByRecursion P (dedup_from (eq_by_cmp cmp) n ns)
  all-dedup_from n [] h k = (h, tt)
  all-dedup_from n (m ∷ ns) h k =
      elim (eq_by_cmp cmp m n) as
      (λ v. AllByRecursion P (cond v (dedup_from (eq_by_cmp cmp) n ns) (n ∷ dedup_from (eq_by_cmp cmp) m ns)))
      [ true ↦ all-dedup_from n ns h k.1 | false ↦ (h, all-dedup_from m ns k.0 k.1) ]

  all-dedup : (ns : List Text) → AllByRecursion P ns → AllByRecursion P (dedup (eq_by_cmp cmp) ns)
  all-dedup [] h = tt
  all-dedup (n ∷ ns) h = all-dedup_from n ns h.0 h.1

  pub all-name_set : (ns : List Text) → AllByRecursion P ns → AllByRecursion P (name_set ns)
  all-name_set ns h = all-dedup (sorted cmp ns) (all-sorted P cmp ns h)

-- a list that is no longer, and has an item where the other has one
record Shorter (ns ms : List Text) : Type 0 where
  fewer : length ns ≤ length ms
  some : 0 < length ms → 0 < length ns

shorter-dedup_from : (n : Text) (ns : List Text) → Shorter (dedup_from (eq_by_cmp cmp) n ns) (n ∷ ns)
shorter-dedup_from n [] = record { fewer = omega arith; some = λ h. h }
shorter-dedup_from n (m ∷ ns) =
    let same = shorter-dedup_from n ns in
    let new = shorter-dedup_from m ns in
    elim (eq_by_cmp cmp m n) as
    (λ v. Shorter (cond v (dedup_from (eq_by_cmp cmp) n ns) (n ∷ dedup_from (eq_by_cmp cmp) m ns)) (n ∷ m ∷ ns)) [
      | true ↦ record { fewer = omega (arith, same.fewer); some = λ h. same.some (omega arith) }
      | false ↦ record { fewer = omega (arith, new.fewer); some = λ h. omega arith }
    ]

shorter-dedup : (ns : List Text) → Shorter (dedup (eq_by_cmp cmp) ns) ns
shorter-dedup [] = record { fewer = omega arith; some = λ h. h }
shorter-dedup (n ∷ ns) = shorter-dedup_from n ns

-- a set has no more names
pub length-name_set-le : (ns : List Text) → length (name_set ns) ≤ length ns
length-name_set-le ns = omega (arith, (shorter-dedup (sorted cmp ns)).fewer, length-sorted cmp ns)

-- and has one where there is one
pub some-name_set : (ns : List Text) → 0 < length ns → 0 < length (name_set ns)
some-name_set ns h = (shorter-dedup (sorted cmp ns)).some (omega (arith, length-sorted cmp ns))

-- a kind that was declared without faults, over these operations
pub record IsDeclaredKind (ds : List OpDecl) (k : Kind) : Type 0 where
  pub name : IsName k.name
  pub members : AllByRecursion (IsSymbol (sig_with ds [])) k.members
  pub ascend : names_ascend k.members ≡ true
  pub some : 0 < length k.members
  pub few : length k.members ≤ MAX_KIND_SYMBOLS
