use Rattle.std.proofs.Common.{◌≡◌, ◌++◌, ◌∷◌, [], map, reverse, refl, ap, sym, ◌∙◌, append_assoc}
use Rattle.std.specs.Prelude.{Some}
use Rattle.std.proofs.lemmas.List.{map-append, reverse-append}
use Rattle.mp_pattern.specs.NetTokenView.{net_token}
use Rattle.mp_vm.specs.Known.{opened, tokens_in}
use Rattle.mp_vm.proofs.AboveLaws.{good-begin, true-value}
use Rattle.mp_vm.proofs.above.Above.gather.Goals as goal

pub loop-token-init : goal.loop-token-init
loop-token-init c = λ good. (
  [],
  refl,
  record { known = c.clear.ensures.known c.args.sig.now c.args.most; opens = ap Some (sym c.clear.ensures.open) },
)

pub loop-token-preserved : goal.loop-token-preserved
loop-token-preserved c = λ good.
    let i = c.loop-token.invariant good in
    let k = net_token c.in-Some.token.now in
    let rest = reverse (tokens_in c.pop.new.self.items) in
    let whole = reverse (tokens_in c.args.tokens.now.items) in
    let split : reverse (tokens_in c.loop-token.tokens.items) ≡ k ∷ rest =
    ap (λ ts. reverse (tokens_in ts)) c.in-Some.ensures.items
    ∙ ap reverse (map-append _ c.pop.new.self.items _) ∙ reverse-append (tokens_in c.pop.new.self.items) (k ∷ []) in
    let joined : (i.0 ++ k ∷ []) ++ rest ≡ whole =
    append_assoc i.0 (k ∷ []) rest ∙ ap (λ js. i.0 ++ js) (sym split) ∙ i.1 in
    let begun = good-begin c.args.sig.now c.args.most whole good (i.0 ++ k ∷ []) rest joined in
    let known = c.in_ok-add.ensures.known i.0 i.2.known (sym (c.in_ok-add.ensures.right i.0 i.2.known) ∙ begun.right) in
    let before = i.2.opens ∙ ap (λ v. Some (reverse (map (λ f. f.0) v.items))) (sym c.in_ok-add.ensures.open) in (
      i.0 ++ k ∷ [],
      joined,
      record {
        known = c.in_ok-nest.ensures.known c.args.sig.now c.args.most (i.0 ++ k ∷ []) known;
        opens = true-value c.in_ok-nest.field-0 (opened c.nest.new.self) begun.open_ones _
            (c.in_ok-nest.ensures.opens i.0 before) begun.opens;
      },
    )
