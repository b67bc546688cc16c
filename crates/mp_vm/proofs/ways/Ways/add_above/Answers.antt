use Rattle.std.proofs.Common.{◌≡◌, ◌-◌, ◌++◌, ◌∷◌, [], map, length, refl, ap, sym, subst, ◌∙◌, append_assoc, append-nil}
use Rattle.std.proofs.Common.{arith}
use Rattle.std.proofs.lemmas.List.{map-append}
use Rattle.std.proofs.lemmas.Option.{slice_get_read, slice_get_past}
use Rattle.mp_pattern.specs.NetTokenView.{net_token}
use Rattle.mp_walk.specs.InstrView.{plain_instr}
use Rattle.mp_vm.specs.Known.{tokens_in}
use Rattle.mp_vm.specs.WayView.{AreAbove}
use Rattle.mp_vm.proofs.WayLaws.{above-top, above-none, above-some}
use Rattle.mp_vm.proofs.ways.Ways.add_above.Goals as goal

pub returns-in_default : goal.returns-in_default
returns-in_default c = λ ks h.
    let l = c.loop-number.invariant ks h in
    let at = slice_get_past c.args.code.now (c.loop-number.number - 1) c.in_default.ensures.lookup.3 in
    absurd (above-none c.args.code.now c.args.self.now.ways.items c.loop-number.number l.0 l.1
    c.loop-number-test.true at)

pub loop-number-preserved : goal.loop-number-preserved
loop-number-preserved c = λ ks h.
    let l = c.loop-number.invariant ks h in
    let at = slice_get_read c.args.code.now (length c.args.code.now) (c.loop-number.number - 1) c.in-Some.instr.now refl
    c.in-Some.ensures.lookup.3.0 c.in-Some.ensures.lookup.1 in
    let s = above-some c.args.code.now c.args.self.now.ways.items c.loop-number.number l.0 l.1
    c.loop-number-test.true c.in-Some.instr.now at in
    let k = net_token c.in-Some.instr.now.token in
    let next = c.next-number.ensures.is s.0 s.2 s.3 in
    let more : tokens_in c.push.new.self.items ≡ tokens_in c.loop-number.tokens.items ++ k ∷ [] =
    ap tokens_in c.in_ok-push.ensures.items ∙ map-append _ c.loop-number.tokens.items _ in (
      s.1,
      subst (λ n. AreAbove (map plain_instr c.args.code.now) c.args.self.now.ways.items n s.1) (sym next) s.4,
      ap (λ ts. ts ++ s.1) more ∙ append_assoc (tokens_in c.loop-number.tokens.items) (k ∷ []) s.1
          ∙ ap (λ ts. tokens_in c.loop-number.tokens.items ++ ts) (sym s.5) ∙ l.2,
    )

pub returns : goal.returns
returns c = λ ks h.
    let l = c.loop-number.invariant ks h in
    let none = above-top (map plain_instr c.args.code.now) c.args.self.now.ways.items c.loop-number.number l.0 l.1
    (omega arith) in
    sym (append-nil (tokens_in c.loop-number.tokens.items))
    ∙ ap (λ js. tokens_in c.loop-number.tokens.items ++ js) (sym none) ∙ l.2
