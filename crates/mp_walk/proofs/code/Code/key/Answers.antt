use Rattle.std.proofs.Common.{Bor, ◌≡◌, ◌-◌, ℕ, zero, suc, List, map, refl, sym, ◌∙◌, ap, arith}
use Rattle.std.specs.Prelude.{Option, None, Some, option_copied, option_map, slice_get}
use Rattle.std.specs.Slice.{IsItemAt}
use Rattle.std.proofs.lemmas.Option.{slice_get-map, slice_get_past, slice_get-get_or}
use Rattle.mp_walk.specs.Instrs.{Instr, instr_at}
use Rattle.mp_walk.specs.Keys.{instr_key}
use Rattle.mp_walk.specs.declared.key.InstrKey.{InstrKey}
use Rattle.mp_walk.proofs.code.Code.key.Goals as goal

-- the key at a number from 1
key-at : (code : List Instr) (keys : List InstrKey) (n : ℕ) → keys ≡ map instr_key code → (n ≡ 0 → ⊥)
    → option_map instr_key (instr_at code n) ≡ slice_get keys (n - 1)
key-at code keys zero e h = absurd (h refl)
key-at code keys (suc n) e h =
    let back : n ≡ suc n - 1 = omega arith in
    sym (ap (λ ks. slice_get ks n) e ∙ slice_get-map instr_key code n) ∙ ap (slice_get keys) back

-- what is copied of a list
copied-got : (keys : List InstrKey) (i : ℕ) (r : Option (Bor InstrKey)) → IsItemAt keys i r
    → slice_get keys i ≡ option_copied r
copied-got keys i None g = slice_get_past keys i g.3
copied-got keys i (Some p) g = slice_get-get_or keys i p.now g.3.0 ∙ ap Some (sym g.1)

pub returns : goal.returns
returns c = λ sig planned.
    key-at c.args.self.now.instrs c.args.self.now.keys.items c.args.number planned.keys c.if-number-eq0.false
    ∙ ap (λ ks. slice_get ks (c.args.number - 1)) (sym c.deref.ensures.value)
    ∙ copied-got c.deref.result.now (c.args.number - 1) c.get.result c.get.ensures.lookup ∙ sym c.copied.ensures
