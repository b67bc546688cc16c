use Rattle.std.proofs.Common.{◌≡◌, ◌∙◌, ◌++◌, ◌∷◌, [], ap, sym, subst, false, true, map, arith}
use Rattle.std.specs.Prelude.{None, List, ℕ, bytes_eq, is_ok}
use Rattle.std.specs.List.{list_any}
use Rattle.std.proofs.lemmas.List.{map-append}
use Rattle.mp_term.specs.declared.signature.OpDecl.{OpDecl}
use Rattle.mp_term.specs.Signature.{Sig, op_fault}
use Rattle.mp_term.proofs.SignatureLaws.{IsSignature-add_op, new_op_name, items-pushed}
use Rattle.mp_term.proofs.signature.Signature.add_op.Goals as goal

pub push-requires : goal.push-requires
push-requires c =
    let none : op_fault c.args.self.now c.args.decl ≡ None = sym c.op_fault.ensures ∙ c.in_default.is in
    let held : c.self.inside.op_table ≡ map (λ (d : OpDecl). d.name) c.args.self.now.ops =
    c.self.invariant.1 ∙ ap (λ (s : Sig). map (λ (d : OpDecl). d.name) s.ops) c.self.view_is in
    let named = subst (λ (ns : List (List ℕ)). list_any (bytes_eq c.args.decl.name) ns ≡ false) (sym held)
    (new_op_name c.args.self.now c.args.decl none) in
    subst (λ (n : List ℕ). list_any (bytes_eq n) c.self.inside.op_table ≡ false) (sym c.bytes.ensures.bytes) named

pub invariant_of-self-2 : goal.invariant_of-self-2
invariant_of-self-2 c =
    let items = c.self.inside.ops.items in
    let none : op_fault c.args.self.now c.args.decl ≡ None = sym c.op_fault.ensures ∙ c.in_default.is in
    let before = subst (λ (s : Sig). op_fault s c.args.decl ≡ None) (sym c.self.view_is) none in
    let room : is_ok c.push-2.result ≡ true = c.push-2.ensures.succeeds (omega (arith, c.in_ok-reserve.ensures.ok)) in
    let pushed : c.push-2.new.self.items ≡ items ++ c.args.decl ∷ [] =
    items-pushed (is_ok c.push-2.result) _ _ _ c.args.decl c.push-2.ensures.items room
    c.in_ok-reserve.ensures.items in
    let named : c.push.new.self ≡ map (λ (d : OpDecl). d.name) (items ++ c.args.decl ∷ []) =
    c.in_ok-push.ensures.ok ∙ ap (λ (ns : List (List ℕ)). ns ++ c.bytes.result.now ∷ []) c.self.invariant.1
    ∙ ap (λ (n : List ℕ). map (λ (d : OpDecl). d.name) items ++ n ∷ []) c.bytes.ensures.bytes
    ∙ sym (map-append (λ (d : OpDecl). d.name) items (c.args.decl ∷ [])) in
    rw pushed (
      IsSignature-add_op _ c.args.decl c.self.invariant.0 before c.requires,
      named,
      c.self.invariant.2,
      c.self.invariant.3,
      c.self.invariant.4,
    )
