-- What statements without faults give: declarations in order, and rules and subjects of which a fact holds.
use Rattle.mp_term.specs.declared.limits.TheConstants.{MAX_KINDS, MAX_KIND_SYMBOLS}
use Rattle.std.proofs.Common.{◌≡◌, ◌≢◌, ◌≤◌, ◌<◌, Bool, ltb, List, [], ◌∷◌, ◌++◌, map, length}
use Rattle.std.proofs.Common.{refl, sym, subst, ◌∙◌, arith}
use Rattle.std.specs.Prelude.{option_map, flat_map}
use Rattle.std.specs.List.{AllByRecursion}
use Rattle.std.proofs.lemmas.List.{length-map}
use Rattle.std.proofs.lemmas.Bool.{ltb-false}
use Rattle.mp_term.specs.declared.signature.OpDecl.{OpDecl}
use Rattle.mp_term.specs.Signature.{Sig, Kind, kind_names, IsSignature}
use Rattle.mp_term.proofs.NameSets.{names_ascend-name_set}
use Rattle.mp_term.proofs.SignatureLaws.{IsSignature-add_op, IsSignature-add_kind}
use Rattle.mp_term.proofs.ListLaws.{all-append, both-empty}
use Rattle.mp_parser.specs.Syntax.{Spot, Flag, Assoc, Comm, One, Infixed, Statement, OpOf, KindOf, RuleOf, SubjectOf}
use Rattle.mp_parser.specs.Syntax.{EditOf, HaveSigns, AreNames, StatementHasNames}
use Rattle.mp_build.specs.Build.{op_decl, op_decls, kind_decl, kind_decls, sig_with}
use Rattle.mp_build.specs.Checks.{symbol_faults, name_faults, op_faults, kind_faults, op_statement_faults}
use Rattle.mp_build.specs.Checks.{kind_statement_faults, faults_by}
use Rattle.mp_build.specs.Flags.{sign_spot}
use Rattle.mp_build.proofs.Declared.{op_decls-append, op_decls-other, kind_decls-append, kind_decls-other}
use Rattle.mp_build.proofs.OpLaws.{declarable-op_faults, op_fault-op_faults, kind_fault-kind_faults}
use Rattle.mp_pattern.specs.SoundRule.{IsSymbol}
use Rattle.mp_build.proofs.SoundLaws.{named-by, IsSymbol-symbol_faults}
use Rattle.mp_text.proofs.Statements.{IsRead, holds-behind}
use Rattle.mp_text.proofs.DeclaredParts.{IsSomeSign, short-sign, IsDeclaredOp, IsDeclaredKind, all-name_set}
use Rattle.mp_text.proofs.DeclaredParts.{some-name_set, length-name_set-le}

-- ---- operations

sign-of : (flags : List Flag) → HaveSigns flags → IsSomeSign (option_map (λ s. s.text) (sign_spot flags))
sign-of [] h = tt
sign-of (Assoc ∷ flags) h = sign-of flags h.1
sign-of (Comm ∷ flags) h = sign-of flags h.1
sign-of (One ∷ flags) h = sign-of flags h.1
sign-of (Infixed sign ∷ flags) h = h.0

-- operations that statements declare
pub record AreDeclaredOps (ds : List OpDecl) : Type 0 where
  pub signature : IsSignature (sig_with ds [])
  pub each : AllByRecursion IsDeclaredOp ds

declared-op : (ds : List OpDecl) (name least : Spot) (more : Bool) (flags : List Flag)
    → StatementHasNames (OpOf name least more flags) → op_faults ds name least more flags ≡ [] → AreDeclaredOps ds
    → AreDeclaredOps (ds ++ op_decl name least more flags ∷ [])
declared-op ds name least more flags names h i =
    let d = op_decl name least more flags in
    let declarable = declarable-op_faults ds name least more flags h in
    let own : IsDeclaredOp d = record {
      names = record { name = names.0; sign = sign-of flags names.2 };
      ordered = declarable.ordered;
      small = declarable.small;
      short = short-sign (sign_spot flags) ∙ declarable.short;
    } in
    record {
      signature = IsSignature-add_op (sig_with ds []) d i.signature
          (op_fault-op_faults (sig_with ds []) name least more flags h) declarable.small;
      each = all-append IsDeclaredOp ds (d ∷ []) i.each (own, tt);
    }

declare-op : (earlier : List Statement) (s : Statement) → IsRead s → op_statement_faults earlier s ≡ []
    → AreDeclaredOps (op_decls earlier) → AreDeclaredOps (op_decls (earlier ++ s ∷ []))
declare-op earlier (OpOf name least more flags) read h i =
    subst AreDeclaredOps (sym (op_decls-append earlier (OpOf name least more flags ∷ [])))
    (declared-op (op_decls earlier) name least more flags read.names h i)
declare-op earlier (KindOf name members) read h i =
    subst AreDeclaredOps (sym (op_decls-other earlier (KindOf name members) refl)) i
declare-op earlier (RuleOf name p x c) read h i =
    subst AreDeclaredOps (sym (op_decls-other earlier (RuleOf name p x c) refl)) i
declare-op earlier (SubjectOf name t) read h i =
    subst AreDeclaredOps (sym (op_decls-other earlier (SubjectOf name t) refl)) i
declare-op earlier (EditOf subject changes) read h i =
    subst AreDeclaredOps (sym (op_decls-other earlier (EditOf subject changes) refl)) i

-- the operations of statements without faults
pub AreDeclaredOps-op_decls : (ss : List Statement) → AllByRecursion IsRead ss
    → faults_by op_statement_faults [] ss ≡ [] → AreDeclaredOps (op_decls ss)
AreDeclaredOps-op_decls ss read h =
    holds-behind op_statement_faults (λ ss. AreDeclaredOps (op_decls ss)) declare-op [] ss read h
    (record {
      signature = record {
        ops_in_order = refl;
        least_counts = refl;
        ops_distinct = refl;
        at_most_ops = omega arith;
        kinds_distinct = refl;
        at_most_kinds = omega arith;
        members_ascend = refl;
      };
      each = tt;
    })

-- ---- kinds

-- members without faults are symbols
symbols-of : (ds : List OpDecl) (ss : List Statement) (members : List Spot) → AreNames members
    → flat_map (symbol_faults (sig_with ds ss)) members ≡ []
    → AllByRecursion (IsSymbol (sig_with ds [])) (map (λ m. m.text) members)
symbols-of ds ss [] names h = tt
symbols-of ds ss (m ∷ members) names h =
    let p = both-empty (symbol_faults (sig_with ds ss) m) (flat_map (symbol_faults (sig_with ds ss)) members) h in
    (IsSymbol-symbol_faults (sig_with ds []) m names.0 p.0, symbols-of ds ss members names.1 p.1)

some-member : (members : List Spot) → members ≢ [] → 0 < length (map (λ m. m.text) members)
some-member [] some = absurd (some refl)
some-member (m ∷ members) some = omega arith

module _ (ds : List OpDecl) where
  abbrev with_kinds : List Kind → Sig
  with_kinds ks = record { ops = ds; kinds = ks }

  -- kinds that statements declare over the operations
  pub record AreDeclaredKinds (ks : List Kind) : Type 0 where
    pub signature : IsSignature (with_kinds ks)
    pub each : AllByRecursion (IsDeclaredKind ds) ks

  declared-kind : (earlier : List Statement) (name : Spot) (members : List Spot) → IsRead (KindOf name members)
      → kind_faults (sig_with ds earlier) name members ≡ [] → AreDeclaredKinds (kind_decls earlier)
      → AreDeclaredKinds (kind_decls earlier ++ kind_decl name members ∷ [])
  declared-kind earlier name members read h i =
      let sig = sig_with ds earlier in
      let k = kind_decl name members in
      let written = map (λ m. m.text) members in
      let p = both-empty (name_faults MAX_KINDS (kind_names sig) (ltb MAX_KIND_SYMBOLS (length members)) name)
      (flat_map (symbol_faults sig) members) h in
      let n = named-by MAX_KINDS (kind_names sig) (ltb MAX_KIND_SYMBOLS (length members)) name p.0 in
      let few : length members ≤ MAX_KIND_SYMBOLS = ltb-false MAX_KIND_SYMBOLS (length members) n.small in
      let own : IsDeclaredKind ds k = record {
        name = read.names.0;
        members = all-name_set (IsSymbol (sig_with ds [])) written (symbols-of ds earlier members read.names.1 p.1);
        ascend = names_ascend-name_set written;
        some = some-name_set written (some-member members read.fits);
        few = omega (arith, length-name_set-le written, length-map members (λ m. m.text), few);
      } in
      record {
        signature = IsSignature-add_kind sig name.text written i.signature
            (kind_fault-kind_faults sig name members h);
        each = all-append (IsDeclaredKind ds) (kind_decls earlier) (k ∷ []) i.each (own, tt);
      }

  declare-kind : (earlier : List Statement) (s : Statement) → IsRead s → kind_statement_faults ds earlier s ≡ []
      → AreDeclaredKinds (kind_decls earlier) → AreDeclaredKinds (kind_decls (earlier ++ s ∷ []))
  declare-kind earlier (OpOf name least more flags) read h i =
      subst AreDeclaredKinds (sym (kind_decls-other earlier (OpOf name least more flags) refl)) i
  declare-kind earlier (KindOf name members) read h i =
      subst AreDeclaredKinds (sym (kind_decls-append earlier (KindOf name members ∷ [])))
      (declared-kind earlier name members read h i)
  declare-kind earlier (RuleOf name p x c) read h i =
      subst AreDeclaredKinds (sym (kind_decls-other earlier (RuleOf name p x c) refl)) i
  declare-kind earlier (SubjectOf name t) read h i =
      subst AreDeclaredKinds (sym (kind_decls-other earlier (SubjectOf name t) refl)) i
  declare-kind earlier (EditOf subject changes) read h i =
      subst AreDeclaredKinds (sym (kind_decls-other earlier (EditOf subject changes) refl)) i

  -- the kinds of statements without faults
  pub AreDeclaredKinds-kind_decls : (ss : List Statement) → AllByRecursion IsRead ss
      → faults_by (kind_statement_faults ds) [] ss ≡ [] → AreDeclaredOps ds → AreDeclaredKinds (kind_decls ss)
  AreDeclaredKinds-kind_decls ss read h ops =
      holds-behind (kind_statement_faults ds) (λ ss. AreDeclaredKinds (kind_decls ss)) declare-kind [] ss read h
      (record { signature = ops.signature; each = tt })
