use Rattle.std.proofs.Common.{◌≡◌, ◌∙◌, ◌++◌, ◌∷◌, [], ap, sym, subst, true, map, arith}
use Rattle.std.specs.Prelude.{None, is_ok, List, ℕ}
use Rattle.mp_term.specs.declared.signature.Kind as held
use Rattle.mp_term.specs.Signature.{Sig, Kind, kind_fault, kind_names}
use Rattle.mp_term.specs.Names.{name_set}
use Rattle.mp_term.proofs.SignatureLaws.{IsSignature-push_kind, kind_names-push, items-pushed}
use Rattle.mp_term.proofs.signature.Signature.add_kind.Goals as goal

pub invariant_of-self-2 : goal.invariant_of-self-2
invariant_of-self-2 c =
    let ops = c.self.inside.ops.items in
    let items = c.self.inside.kinds.items in
    let f : held.Kind → Kind = λ k. record { name = k.name; members = k.members } in
    let kind : held.Kind = record { name = c.args.name; members = c.make_set.new.self } in
    let none : kind_fault c.args.self.now c.args.name ≡ None = sym c.kind_fault.ensures ∙ c.in_default.is in
    let before = subst (λ (s : Sig). kind_fault s c.args.name ≡ None) (sym c.self.view_is) none in
    let room : is_ok c.push-2.result ≡ true = c.push-2.ensures.succeeds (omega (arith, c.in_ok-reserve.ensures.ok)) in
    let pushed : c.push-2.new.self.items ≡ items ++ kind ∷ [] =
    items-pushed (is_ok c.push-2.result) c.push-2.new.self.items c.reserve.new.self.items items kind
    c.push-2.ensures.items room c.in_ok-reserve.ensures.items in
    let kept : f kind ≡ record { name = c.args.name; members = name_set c.args.members } =
    ap (λ (ms : List (List ℕ)). record { name = c.args.name; members = ms }) c.make_set.ensures in
    let named = c.in_ok-push.ensures.ok ∙ ap (λ (ns : List (List ℕ)). ns ++ c.bytes.result.now ∷ []) c.self.invariant.2
    ∙ ap (λ (n : List ℕ). kind_names (record { ops = ops; kinds = map f items }) ++ n ∷ []) c.bytes.ensures.bytes in (
      IsSignature-push_kind f ops items c.push-2.new.self.items kind c.args.name c.args.members kept c.self.invariant.0
          before pushed,
      c.self.invariant.1,
      named ∙ sym (kind_names-push f ops items c.push-2.new.self.items kind pushed),
      c.self.invariant.3,
      c.self.invariant.4,
    )
