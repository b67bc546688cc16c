-- What the checks of a declaration say where they find no fault.
use Rattle.mp_term.specs.declared.limits.TheConstants.{MAX_ARITY, MAX_OPS, MAX_KINDS, MAX_KIND_SYMBOLS}
use Rattle.std.proofs.Common.{◌≡◌, ◌≤◌, ◌<◌, Bool, true, false, ◌||◌, not, leb, ltb, List, [], ◌∷◌, ◌++◌, map, length}
use Rattle.std.proofs.Common.{Option, Some, None, ◌⊎◌, inl, inr, refl, ◌∙◌, arith, rules}
use Rattle.std.specs.Prelude.{option_map, flat_map}
use Rattle.std.specs.List.{list_any}
use Rattle.std.specs.Str.{bytes_eq}
use Rattle.std.proofs.lemmas.List.{length-map}
use Rattle.std.proofs.lemmas.Bool.{ltb-false, not-false, or_parts}
use Rattle.mp_term.specs.declared.signature.OpDecl.{OpDecl}
use Rattle.mp_term.specs.declared.signature.SigFault.{SigFault}
use Rattle.mp_term.specs.declared.signature.SigFault.TheVariants.{Memory}
use Rattle.mp_term.specs.Signature.{Sig, in_order, has_name, has_sign, shares_sign, clashes, op_fault, kind_fault}
use Rattle.mp_term.specs.Signature.{kind_names}
use Rattle.mp_term.proofs.ListLaws.{both-empty}
use Rattle.mp_parser.specs.Syntax.{Spot, Flag}
use Rattle.mp_build.specs.declared.fault.TextKind.TheVariants.{BadFlags, TooMany}
use Rattle.mp_build.specs.Build.{op_decl}
use Rattle.mp_build.specs.Checks.{fault_if, symbol_faults, name_faults, has_bad_flags, held_sign_faults, op_faults}
use Rattle.mp_build.specs.Checks.{kind_faults}
use Rattle.mp_build.specs.Flags.{some_flag_twice, sign_spot, is_long_sign}
use Rattle.mp_build.specs.Names.{number_of}
use Rattle.mp_build.proofs.Declared.{is_among-has_name, is_among-list_any}
use Rattle.mp_build.proofs.Faultless.{nil-fault_if}
use Rattle.mp_build.proofs.SoundLaws.{named-by}

-- a declaration without faults: its flags and its sign are in order, and its number is small
pub record Declarable (name least : Spot) (more : Bool) (flags : List Flag) : Type 0 where
  pub ordered : in_order (op_decl name least more flags) ≡ true
  pub short : is_long_sign (sign_spot flags) ≡ false
  pub small : number_of least.text ≤ MAX_ARITY

pub declarable-op_faults : (ds : List OpDecl) (name least : Spot) (more : Bool) (flags : List Flag)
    → op_faults ds name least more flags ≡ [] → Declarable name least more flags
declarable-op_faults ds name least more flags h =
    let large = fault_if (ltb MAX_ARITY (number_of least.text)) TooMany least.place in
    let bad = fault_if (has_bad_flags name least more flags) BadFlags name.place in
    let p = both-empty (name_faults MAX_OPS (map (λ d. d.name) ds) false name)
    (bad ++ (large ++ held_sign_faults ds (sign_spot flags))) h in
    let q = both-empty bad (large ++ held_sign_faults ds (sign_spot flags)) p.1 in
    let r = both-empty large (held_sign_faults ds (sign_spot flags)) q.1 in
    let o = or_parts (some_flag_twice flags)
    (is_long_sign (sign_spot flags) || not (in_order (op_decl name least more flags)))
    (nil-fault_if (has_bad_flags name least more flags) BadFlags name.place q.0) in
    let s = or_parts (is_long_sign (sign_spot flags)) (not (in_order (op_decl name least more flags))) o.1 in
    record {
      ordered = not-false (in_order (op_decl name least more flags)) s.1;
      short = s.0;
      small = ltb-false MAX_ARITY (number_of least.text)
          (nil-fault_if (ltb MAX_ARITY (number_of least.text)) TooMany least.place r.0);
    }

-- no operation shares a sign that isn't there
no-sign : (ds : List OpDecl) → list_any (shares_sign None) ds ≡ false
no-sign [] = refl
no-sign (d ∷ ds) = no-sign ds

other-sign : (ds : List OpDecl) (sign : Option Spot) → held_sign_faults ds sign ≡ []
    → list_any (shares_sign (option_map (λ s. s.text) sign)) ds ≡ false
other-sign ds None h = no-sign ds
other-sign ds (Some sign) h = nil-fault_if (list_any (has_sign sign.text) ds) _ sign.place h

-- an operation clashes with none of those that have neither its name nor its sign
none-clashes : (d : OpDecl) (ds : List OpDecl) → list_any (has_name d.name) ds ≡ false
    → list_any (shares_sign d.sign) ds ≡ false → list_any (clashes d) ds ≡ false
none-clashes d [] h k = refl
none-clashes d (e ∷ ds) h k =
    let o = or_parts (has_name d.name e) (list_any (has_name d.name) ds) h in
    let p = or_parts (shares_sign d.sign e) (list_any (shares_sign d.sign) ds) k in
    rw (o.0, p.0) (none-clashes d ds o.1 p.1)

-- an operation whose declaration has no faults may be added
pub op_fault-op_faults : (sig : Sig) (name least : Spot) (more : Bool) (flags : List Flag)
    → op_faults sig.ops name least more flags ≡ [] → op_fault sig (op_decl name least more flags) ≡ None
op_fault-op_faults sig name least more flags h =
    let ds = sig.ops in
    let d = op_decl name least more flags in
    let names = name_faults MAX_OPS (map (λ d. d.name) ds) false name in
    let bad = fault_if (has_bad_flags name least more flags) _ name.place in
    let large = fault_if (ltb MAX_ARITY (number_of least.text)) _ least.place in
    let signs = held_sign_faults ds (sign_spot flags) in
    let p = both-empty names (bad ++ (large ++ signs)) h in
    let q = both-empty large signs (both-empty bad (large ++ signs) p.1).1 in
    let n = named-by MAX_OPS (map (λ d. d.name) ds) false name p.0 in
    let apart : list_any (clashes d) ds ≡ false =
    none-clashes d ds (is_among-has_name name.text ds ∙ n.other) (other-sign ds (sign_spot flags) q.1) in
    let few : length ds < MAX_OPS = omega (arith, n.few, length-map ds (λ d. d.name)) in
    let room : leb MAX_OPS (length ds) ≡ false = search (rules, few) in
    rw (apart, room, (declarable-op_faults ds name least more flags h).ordered) refl

-- a kind whose declaration has no faults may be added
pub kind_fault-kind_faults : (sig : Sig) (name : Spot) (members : List Spot) → kind_faults sig name members ≡ []
    → kind_fault sig name.text ≡ None
kind_fault-kind_faults sig name members h =
    let large = ltb MAX_KIND_SYMBOLS (length members) in
    let p = both-empty (name_faults MAX_KINDS (kind_names sig) large name) (flat_map (symbol_faults sig) members) h in
    let n = named-by MAX_KINDS (kind_names sig) large name p.0 in
    let new : list_any (bytes_eq name.text) (kind_names sig) ≡ false = is_among-list_any name.text (kind_names sig)
    ∙ n.other in
    let room : leb MAX_KINDS (length (kind_names sig)) ≡ false = search (rules, n.few) in
    rw (new, room) refl

-- what is refused without a fault is refused for want of memory
pub only-memory : {fault : Option SigFault} {e : SigFault} → fault ≡ None → (fault ≡ Some e) ⊎ (e ≡ Memory) → e ≡ Memory
only-memory h (inl some) = cc
only-memory h (inr memory) = memory

-- the last of three tests decides where the others fail
pub third-of : (a b d r : Bool) → a ≡ false → b ≡ false → r ≡ d → r ≡ (a || (b || d))
third-of true b d r p q h = cc
third-of false true d r p q h = cc
third-of false false d r p q h = h
