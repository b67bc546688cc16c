-- Ways to the instructions of a program, and the tokens along them.
use Rattle.std.proofs.Common.{◌≡◌, ℕ, zero, suc, ◌-◌, ◌<◌, List, [], ◌∷◌, map, refl, ap, sym}
use Rattle.std.proofs.Common.{◌∙◌, arith}
use Rattle.std.specs.Prelude.{Option, Some, None, slice_get, option_map, replicate}
use Rattle.std.proofs.lemmas.Option.{slice_get-map}
use Rattle.mp_pattern.specs.NetTokens.{NetToken}
use Rattle.mp_pattern.specs.NetTokenView.{net_token}
use Rattle.mp_walk.specs.declared.instr.Instr as read
use Rattle.mp_walk.specs.Instrs.{Instr, instr_at}
use Rattle.mp_walk.specs.InstrView.{plain_instr}
use Rattle.mp_vm.specs.WayView.{way_at, AreAbove}
use Rattle.mp_vm.specs.declared.ways.Way.{Way}
use Rattle.mp_vm.specs.declared.ways.Way.TheVariants.{Unknown, One}

-- no way is known to any of so many instructions
pub way_at-replicate : (count n : ℕ) → way_at (replicate count Unknown) n ≡ Unknown
way_at-replicate count zero = refl
way_at-replicate zero (suc k) = refl
way_at-replicate (suc count) (suc zero) = refl
way_at-replicate (suc count) (suc (suc k)) = way_at-replicate count (suc k)

-- nothing is above the top
pub above-top : (code : List Instr) (ws : List Way) (n : ℕ) (ks : List NetToken) → AreAbove code ws n ks → n ≡ 0
    → ks ≡ []
above-top code ws n [] h top = refl
above-top code ws n (k ∷ ks) h top = absurd (omega (arith, h.5, top))

-- elsewhere the instruction's token is the last one
pub record IsStep (code : List Instr) (ws : List Way) (n : ℕ) (ks : List NetToken) : Type 0 where
  pub above : ℕ
  pub instr : Instr
  pub rest : List NetToken
  pub held : instr_at code n ≡ Some instr
  pub way : way_at ws n ≡ One above
  pub less : above < n
  pub are : AreAbove code ws above rest
  pub is : ks ≡ instr.token ∷ rest

pub above-step : (code : List Instr) (ws : List Way) (n : ℕ) (ks : List NetToken) → AreAbove code ws n ks → 0 < n
    → IsStep code ws n ks
above-step code ws n [] h some = absurd (omega (arith, h, some))
above-step code ws n (k ∷ ks) h some = record {
  above = h.0;
  instr = h.1;
  rest = ks;
  held = h.2;
  way = h.4;
  less = h.5;
  are = h.6;
  is = ap (λ j. j ∷ ks) h.3;
}

-- the instruction of a number
pub held-at : (code : List read.Instr) (n : ℕ) (o : Option read.Instr) → 0 < n → slice_get code (n - 1) ≡ o
    → instr_at (map plain_instr code) n ≡ option_map plain_instr o
held-at code zero o some at = absurd (omega (arith, some))
held-at code (suc k) o some at =
    slice_get-map plain_instr code k
    ∙ ap (λ m. option_map plain_instr (slice_get code m)) (let e : k ≡ suc k - 1 = omega arith in e)
    ∙ ap (option_map plain_instr) at

-- an instruction that is missing has nothing above
pub above-none : (code : List read.Instr) (ws : List Way) (n : ℕ) (ks : List NetToken)
    → AreAbove (map plain_instr code) ws n ks → 0 < n → slice_get code (n - 1) ≡ None → ⊥
above-none code ws n ks h some at =
    let s = above-step (map plain_instr code) ws n ks h some in
    let wrong : None ≡ Some s.instr = sym (held-at code n None some at) ∙ s.held in cc

-- one that is there has its token in front of what is above it
pub above-some : (code : List read.Instr) (ws : List Way) (n : ℕ) (ks : List NetToken)
    → AreAbove (map plain_instr code) ws n ks → 0 < n → (i : read.Instr) → slice_get code (n - 1) ≡ Some i
    → (a : ℕ) × (js : List NetToken) × (way_at ws n ≡ One a) × (a < n) × AreAbove (map plain_instr code) ws a js
    × (ks ≡ net_token i.token ∷ js)
above-some code ws n ks h some i at =
    let s = above-step (map plain_instr code) ws n ks h some in
    let both : Some s.instr ≡ Some (plain_instr i) = sym s.held ∙ held-at code n (Some i) some at in
    let same : s.instr ≡ plain_instr i = cc in
    (s.above, s.rest, s.way, s.less, s.are, s.is ∙ ap (λ (j : Instr). j.token ∷ s.rest) same)
