-- Tables of instructions with their plans.
use Rattle.std.proofs.Common.{◌≡◌, ℕ, zero, suc, List, [], ◌∷◌, ◌++◌, length, refl, ap, sym, ◌∙◌, subst}
use Rattle.std.proofs.Common.{arith, ◌<◌, ◌≤◌, ◌+◌, ◌⊎◌, inl, inr, length-append}
use Rattle.std.proofs.Math.ListN.{get_or-append}
use Rattle.std.proofs.Math.Seq.{get_or-append_seam}
use Rattle.std.specs.Prelude.{Option, None, Some, slice_get, slice_index_or}
use Rattle.std.specs.List.{AllByRecursion}
use Rattle.mp_term.specs.Signature.{Sig}
use Rattle.mp_term.proofs.ListLaws.{all-also, all-append}
use Rattle.mp_pattern.specs.NetTokens.{NetToken, sym_token, enter_token, leave_token, wild_token, comm_token}
use Rattle.mp_pattern.specs.NetTokenView.{net_token}
use Rattle.mp_pattern.specs.declared.net_token.NetToken as declared
use Rattle.mp_pattern.specs.declared.net_token.NetToken.TheVariants.{Sym, Enter, Leave, Dot, Kind, Plus, Star, Opt}
use Rattle.mp_pattern.specs.declared.net_token.NetToken.TheVariants.{Counted, Comm}
use Rattle.mp_pattern.specs.declared.pattern.Pattern as declared_pattern
use Rattle.mp_pattern.specs.PatternTree.{Pattern}
use Rattle.mp_pattern.proofs.ItemLaws.{slice_get-first, slice_get-second}
use Rattle.mp_ac.specs.CommPlan.{IsNumberedPattern}
use Rattle.mp_ac.specs.CommPlans.{ArePlans, IsPrepared}
use Rattle.mp_ac.specs.declared.comm_plans.CommPlans.{CommPlans}
use Rattle.mp_ac.specs.declared.comm_plans.Prepared.{Prepared}
use Rattle.mp_walk.specs.Code.{IsPlanned, ArePlanned, plan_at, plan_of}
use Rattle.mp_walk.specs.declared.code.Plans.{Plans}
use Rattle.mp_walk.specs.Instrs.{Instr, instr_at}
use Rattle.mp_walk.specs.SoundTokens.{IsSoundComm, IsSoundToken}
use Rattle.mp_walk.specs.Walkable.{IsWalkable}
use Rattle.mp_walk.proofs.PathLaws.{token-sound}

-- the pattern of a sound token can be prepared
pub numbered-sound : (sig : Sig) (p : Pattern) → IsSoundComm sig p → IsNumberedPattern p
numbered-sound sig p h = record {
  application = record { op = h.op; children = h.children; is = h.is };
  planned = h.planned;
  names = λ x i. let n = h.names x i in record { number = n.number; name = n.name; few = n.few };
}

-- what is prepared of a number stays where one more is put behind
plan-stays : (rs : List Prepared) (r : Prepared) (n : ℕ) → n ≤ length rs → plan_of (rs ++ r ∷ []) n ≡ plan_of rs n
plan-stays rs r zero h = refl
plan-stays rs r (suc n) h = slice_get-first rs (r ∷ []) n (omega (arith, h))

-- the number at a place
number-at : (ns : List ℕ) (top k : ℕ) → AllByRecursion (λ n. n ≤ top) ns → slice_index_or ns k 0 ≤ top
number-at [] top k h = omega arith
number-at (n ∷ ns) top zero h = h.0
number-at (n ∷ ns) top (suc k) h = number-at ns top k h.1

-- a token that isn't that of a commutative application has nothing prepared
pub unplanned : (sig : Sig) (plans : CommPlans) (k : declared.NetToken)
    → ((p : declared_pattern.Pattern) → k ≡ Comm p → ⊥) → IsPlanned sig plans (net_token k) None
unplanned sig plans (Sym n) h = tt
unplanned sig plans (Enter g) h = tt
unplanned sig plans (Leave g) h = tt
unplanned sig plans (Dot x) h = tt
unplanned sig plans (Kind k x) h = tt
unplanned sig plans (Plus x) h = tt
unplanned sig plans (Star x) h = tt
unplanned sig plans (Opt x t) h = tt
unplanned sig plans (Counted n fixed x) h = tt
unplanned sig plans (Comm p) h = absurd (h p refl)

-- an instruction of a list with one more
at-pushed : (is : List Instr) (i j : Instr) (k : ℕ) → slice_get (is ++ i ∷ []) k ≡ Some j
    → ((slice_get is k ≡ Some j) × (k < length is)) ⊎ ((k ≡ length is) × (i ≡ j))
at-pushed [] i j zero e = inr (refl, cc)
at-pushed [] i j (suc k) e = cc
at-pushed (x ∷ is) i j zero e = inl (e, omega arith)
at-pushed (x ∷ is) i j (suc k) e = elim (at-pushed is i j k e) [
  | inl h ↦ let l = h.1 in inl (h.0, omega (arith, l))
  | inr h ↦ inr (ap suc h.0, h.1)
]

-- what is prepared for no instructions
pub none-planned : (sig : Sig) (x : Plans) → x.numbers.items ≡ [] → ArePlans sig x.plans → ArePlanned sig [] x
none-planned sig x m h = record {
  each = ap length m;
  within = rw m tt;
  planned = λ n i e. absurd (none-at n i e);
  plans = h;
}
  where
    none-at : (n : ℕ) (i : Instr) → instr_at [] n ≡ Some i → ⊥
    none-at zero i e = cc
    none-at (suc n) i e = cc

-- what is prepared stays so among more plans
planned-stays : (sig : Sig) (x y : CommPlans) → ((p : Pattern) (r : Prepared) → IsPrepared sig x p r
    → IsPrepared sig y p r) → (k : NetToken) (o : Option Prepared) → IsPlanned sig x k o → IsPlanned sig y k o
planned-stays sig x y h (comm_token p) (Some r) k = h p r k
planned-stays sig x y h (comm_token p) None k = k
planned-stays sig x y h (sym_token n) None k = k
planned-stays sig x y h (sym_token n) (Some r) k = k
planned-stays sig x y h (enter_token g) None k = k
planned-stays sig x y h (enter_token g) (Some r) k = k
planned-stays sig x y h (leave_token g) None k = k
planned-stays sig x y h (leave_token g) (Some r) k = k
planned-stays sig x y h (wild_token w v) None k = k
planned-stays sig x y h (wild_token w v) (Some r) k = k

-- one instruction more, whose pattern has the number, and perhaps one pattern more
module _ (sig : Sig) (is : List Instr) (i : Instr) (x y : Plans) (n : ℕ)
    (numbers : y.numbers.items ≡ x.numbers.items ++ n ∷ []) (h : ArePlanned sig is x)
    (more : length x.plans.list.items ≤ length y.plans.list.items) (top : n ≤ length y.plans.list.items)
    (stays : (m : ℕ) → m ≤ length x.plans.list.items
    → plan_of y.plans.list.items m ≡ plan_of x.plans.list.items m)
    (kept : (p : Pattern) (r : Prepared) → IsPrepared sig x.plans p r → IsPrepared sig y.plans p r)
    (plans : ArePlans sig y.plans) (own : IsPlanned sig y.plans i.token (plan_of y.plans.list.items n)) where
  planned-more : ArePlanned sig (is ++ i ∷ []) y
  planned-more = record {
    each = ap length numbers ∙ length-append x.numbers.items (n ∷ [])
        ∙ ap (λ k. k + 1) h.each ∙ sym (length-append is (i ∷ []));
    within = rw numbers (all-append (λ m. m ≤ length y.plans.list.items) x.numbers.items (n ∷ [])
        (all-also (λ m. m ≤ length x.plans.list.items) (λ m. m ≤ length y.plans.list.items)
        (λ m l. omega (arith, l, more)) x.numbers.items h.within) (top, tt));
    planned = at-number;
    plans = plans;
  }
    where
      at-number : (k : ℕ) (j : Instr) → instr_at (is ++ i ∷ []) k ≡ Some j
          → IsPlanned sig y.plans j.token (plan_at y.numbers.items y.plans.list.items k)
      at-number zero j e = cc
      at-number (suc k) j e = elim (at-pushed is i j k e) [
        | inl s ↦
            let l = s.1 in
            let same : slice_index_or y.numbers.items k 0 ≡ slice_index_or x.numbers.items k 0 =
            ap (λ ns. slice_index_or ns k 0) numbers
            ∙ get_or-append x.numbers.items (n ∷ []) 0 k (omega (arith, l, h.each)) in
            subst (IsPlanned sig y.plans j.token)
            (sym (ap (plan_of y.plans.list.items) same ∙ stays (slice_index_or x.numbers.items k 0)
            (number-at x.numbers.items (length x.plans.list.items) k h.within)))
            (planned-stays sig x.plans y.plans kept j.token (plan_at x.numbers.items x.plans.list.items (suc k))
            (h.planned (suc k) j s.0))
        | inr s ↦
            let last : slice_index_or y.numbers.items k 0 ≡ n =
            ap (λ ns. slice_index_or ns k 0) numbers
            ∙ ap (λ m. slice_index_or (x.numbers.items ++ n ∷ []) m 0) (s.0 ∙ sym h.each)
            ∙ get_or-append_seam x.numbers.items n [] 0 in
            subst (λ (o : Instr). IsPlanned sig y.plans o.token
            (plan_at y.numbers.items y.plans.list.items (suc k))) s.1
            (subst (λ m. IsPlanned sig y.plans i.token (plan_of y.plans.list.items m)) (sym last) own)
      ]

-- one instruction more, for whose token nothing is prepared
pub more-unplanned : (sig : Sig) (is : List Instr) (i : Instr) (x y : Plans)
    → y.numbers.items ≡ x.numbers.items ++ 0 ∷ [] → y.plans ≡ x.plans → IsPlanned sig y.plans i.token None
    → ArePlanned sig is x → ArePlanned sig (is ++ i ∷ []) y
more-unplanned sig is i x y ns ps p h =
    planned-more sig is i x y 0 ns h (rw ps (omega arith)) (omega arith) (λ m l. rw ps refl)
    (λ q r k. subst (λ z. IsPrepared sig z q r) (sym ps) k) (subst (ArePlans sig) (sym ps) h.plans) p

-- one instruction more, whose pattern is prepared behind the others
pub more-planned : (sig : Sig) (is : List Instr) (i : Instr) (x y : Plans) (r : Prepared) (n : ℕ)
    → n ≡ length x.plans.list.items + 1 → y.numbers.items ≡ x.numbers.items ++ n ∷ []
    → y.plans.list.items ≡ x.plans.list.items ++ r ∷ []
    → ((p : Pattern) (q : Prepared) → IsPrepared sig x.plans p q → IsPrepared sig y.plans p q)
    → ArePlans sig y.plans → IsPlanned sig y.plans i.token (Some r) → ArePlanned sig is x
    → ArePlanned sig (is ++ i ∷ []) y
more-planned sig is i x y r n c ns ps kept plans k h =
    let many = ap length ps ∙ length-append x.plans.list.items (r ∷ []) in
    planned-more sig is i x y n ns h (omega (arith, many)) (omega (arith, many, c))
    (λ m l. ap (λ qs. plan_of qs m) ps ∙ plan-stays x.plans.list.items r m l) kept plans
    (subst (IsPlanned sig y.plans i.token) (sym last) k)
  where
    last : plan_of y.plans.list.items n ≡ Some r
    last =
        let e : n ≡ suc (length x.plans.list.items + 0) = omega (arith, c) in
        ap (λ m. plan_of y.plans.list.items m) e
        ∙ ap (λ qs. slice_get qs (length x.plans.list.items + 0)) ps
        ∙ slice_get-second x.plans.list.items (r ∷ []) 0 (length x.plans.list.items + 0) refl

-- each token of a table that may be walked is sound
pub tokens-sound : (sig : Sig) (code : List Instr) → IsWalkable sig code
    → AllByRecursion (λ i. IsSoundToken sig i.token) code
tokens-sound sig code w = all-at code (λ n i e. token-sound sig code w (suc n) i e)
  where
    all-at : (is : List Instr) → ((n : ℕ) (i : Instr) → slice_get is n ≡ Some i → IsSoundToken sig i.token)
        → AllByRecursion (λ (i : Instr). IsSoundToken sig i.token) is
    all-at [] h = tt
    all-at (i ∷ is) h = (h 0 i refl, all-at is (λ n j e. h (suc n) j e))
