use Rattle.std.proofs.Common.{◌≡◌, ◌∙◌, sym, subst, refl, true, false, length, arith}
use Rattle.std.specs.Prelude.{bytes_eq, nat_le}
use Rattle.std.specs.List.{list_any}
use Rattle.std.proofs.lemmas.Bool.Decides.{nat_tests}
use Rattle.mp_term.specs.declared.limits.TheConstants.{MAX_KINDS}
use Rattle.mp_term.specs.Signature.{kind_names}
use Rattle.mp_term.proofs.SignatureLaws.{held_where_found}
use Rattle.mp_term.proofs.signature.Signature.kind_fault.Goals as goal

pub returns-then-is_some : goal.returns-then-is_some
returns-then-is_some c =
    let h : list_any (bytes_eq c.args.name.now) (kind_names c.args.self.now) ≡ true =
    subst (λ n. list_any (bytes_eq n) (kind_names c.args.self.now) ≡ true) c.bytes.ensures.bytes
    (held_where_found (λ id. id.0) c.args.self.now c.bytes.result.now c.find_kind.result c.find_kind.ensures
    ∙ sym c.is_some.ensures ∙ c.if-is_some.true) in
    rw h refl

pub returns-then-kind_count-ge-MAX_KINDS : goal.returns-then-kind_count-ge-MAX_KINDS
returns-then-kind_count-ge-MAX_KINDS c =
    let h : list_any (bytes_eq c.args.name.now) (kind_names c.args.self.now) ≡ false =
    subst (λ n. list_any (bytes_eq n) (kind_names c.args.self.now) ≡ false) c.bytes.ensures.bytes
    (held_where_found (λ id. id.0) c.args.self.now c.bytes.result.now c.find_kind.result c.find_kind.ensures
    ∙ sym c.is_some.ensures ∙ c.if-is_some.false) in
    let k : nat_le MAX_KINDS (length (kind_names c.args.self.now)) ≡ true = grind (arith, nat_tests) in
    rw (h, k) refl

pub returns-else-kind_count-ge-MAX_KINDS : goal.returns-else-kind_count-ge-MAX_KINDS
returns-else-kind_count-ge-MAX_KINDS c =
    let h : list_any (bytes_eq c.args.name.now) (kind_names c.args.self.now) ≡ false =
    subst (λ n. list_any (bytes_eq n) (kind_names c.args.self.now) ≡ false) c.bytes.ensures.bytes
    (held_where_found (λ id. id.0) c.args.self.now c.bytes.result.now c.find_kind.result c.find_kind.ensures
    ∙ sym c.is_some.ensures ∙ c.if-is_some.false) in
    let k : nat_le MAX_KINDS (length (kind_names c.args.self.now)) ≡ false = grind (arith, nat_tests) in
    rw (h, k) refl
