-- Where the instructions of a faultless program lead: one way leads to each, and each is right on its path.
use Rattle.std.proofs.Common.{◌≡◌, ℕ, zero, suc, ◌+◌, ◌<◌, ◌≤◌, List, [], ◌∷◌, ◌++◌, map, length}
use Rattle.std.proofs.Common.{Bool, true, false, refl}
use Rattle.std.proofs.Common.{ap, sym, ◌∙◌, inl, inr, subst, arith}
use Rattle.std.specs.Prelude.{◌||◌, not, Option, Some, None, IsSome, is_some, slice_get, nat_eq, nat_le}
use Rattle.std.specs.Prelude.{if◌then◌else◌, filter, flat_map, option_to_list}
use Rattle.std.specs.List.{AllByRecursion, list_any, list_all}
use Rattle.std.proofs.lemmas.Bool.{or_parts, not-false, eq-eqb, ne_eqb, leb-false}
use Rattle.std.proofs.lemmas.List.{map-append, append-nil, append_assoc}
use Rattle.mp_term.specs.Listing.{In}
use Rattle.mp_term.specs.Signature.{Sig}
use Rattle.mp_term.proofs.ListLaws.{all-append, both-empty}
use Rattle.mp_term.proofs.ListingLaws.{all_in}
use Rattle.mp_term.proofs.SearchLaws.{in-left, in-right, in-map, from_in-map, in-filter, from_in-filter}
use Rattle.mp_pattern.specs.CondTree.{Cond}
use Rattle.mp_ac.specs.CommItems.{NoneTwice}
use Rattle.mp_walk.specs.Instrs.{Instr, targets}
use Rattle.mp_walk.specs.Walkable.{Path}
use Rattle.mp_program.specs.declared.fault.ProgramError.{ProgramError}
use Rattle.mp_program.specs.Program.{ProgramRule}
use Rattle.mp_program.specs.FormFaults.{fault_if, target_faults, way_faults, code_faults}
use Rattle.mp_program.specs.Leads.{Lead, lead, leads, befores, leads_after}
use Rattle.mp_program.specs.TokenPaths.{is_right_path, open_along, is_balanced, may_accept}
use Rattle.mp_program.proofs.FaultLaws.{nil-fault_if}

-- ---- tests

any-none : {X : Type 0} (p : X → Bool) (xs : List X) → list_any p xs ≡ false → (x : X) → In x xs → p x ≡ false
any-none p [] h x i = absurd i
any-none p (y ∷ xs) h x (inl e) = ap p e ∙ (or_parts (p y) _ h).0
any-none p (y ∷ xs) h x (inr i) = any-none p xs (or_parts (p y) _ h).1 x i

-- the targets of a faultless instruction are greater than its number and less than that of `stop`
pub target-bounds : (stop line n : ℕ) (ts : List ℕ) → target_faults stop line n ts ≡ [] → (t : ℕ) → In t ts
    → (n < t) × (t < stop)
target-bounds stop line n ts h t i =
    let p = both-empty (fault_if (list_any (λ u. nat_le u n) ts) _) (fault_if (list_any (nat_le stop) ts) _) h in (
      leb-false t n (any-none (λ u. nat_le u n) ts (nil-fault_if _ _ p.0) t i),
      leb-false stop t (any-none (nat_le stop) ts (nil-fault_if _ _ p.1) t i),
    )

-- ---- ways

filter-both : {X : Type 0} (p : X → Bool) (xs ys : List X) → filter p (xs ++ ys) ≡ filter p xs ++ filter p ys
filter-both p [] ys = refl
filter-both p (x ∷ xs) ys = elim (p x) as (λ b. (if b then x ∷ filter p (xs ++ ys) else filter p (xs ++ ys))
    ≡ (if b then x ∷ filter p xs else filter p xs) ++ filter p ys)
    [ true ↦ ap (λ l. x ∷ l) (filter-both p xs ys) | false ↦ filter-both p xs ys ]

pub befores-append : (ls ms : List Lead) (n : ℕ) → befores (ls ++ ms) n ≡ befores ls n ++ befores ms n
befores-append ls ms n =
    ap (map (λ (l : Lead). l.before)) (filter-both (λ (l : Lead). nat_eq l.to n) ls ms)
    ∙ map-append (λ (l : Lead). l.before) (filter (λ (l : Lead). nat_eq l.to n) ls)
    (filter (λ (l : Lead). nat_eq l.to n) ms)

pub befores-in : (ls : List Lead) (l : Lead) → In l ls → In l.before (befores ls l.to)
befores-in ls l i = in-map (λ (m : Lead). m.before) l (filter (λ (m : Lead). nat_eq m.to l.to) ls)
    (in-filter (λ (m : Lead). nat_eq m.to l.to) l ls i (eq-eqb l.to l.to refl))

befores-none : (ls : List Lead) (n : ℕ) → ((l : Lead) → In l ls → n < l.to) → befores ls n ≡ []
befores-none [] n h = refl
befores-none (l ∷ ls) n h =
    rw (ne_eqb l.to n (λ e. omega (arith, e, h l (inl refl)))) (befores-none ls n (λ m i. h m (inr i)))

-- where an instruction leads
lead-to : (before : Path) (o : Option ℕ) → map (λ (l : Lead). l.to) (lead before o) ≡ option_to_list o
lead-to before None = refl
lead-to before (Some t) = refl

leads-to : (before : Path) (i : Instr) → map (λ (l : Lead). l.to) (leads before i) ≡ targets i
leads-to before i =
    map-append (λ (l : Lead). l.to) (lead (before ++ i.token ∷ []) i.down) (lead before i.over)
    ∙ ap (λ ts. ts ++ map (λ (l : Lead). l.to) (lead before i.over)) (lead-to (before ++ i.token ∷ []) i.down)
    ∙ ap (λ ts. option_to_list i.down ++ ts) (lead-to before i.over)

lead-some : (before : Path) (o : Option ℕ) (t : ℕ) → o ≡ Some t
    → In {X = Lead} (record { to = t; before = before }) (lead before o)
lead-some before None t e = cc
lead-some before (Some u) t e = inl (let h : t ≡ u = cc in ap (λ n. record { to = n; before = before }) h)

-- the ways once all instructions, which are numbered from n, are taken
abbrev pub all_leads : ℕ → List Lead → List Instr → List Lead
all_leads n ls [] = ls
all_leads n ls (i ∷ is) = all_leads (suc n) (leads_after ls n i) is

pub leads-kept : (n : ℕ) (ls : List Lead) (is : List Instr) (l : Lead) → In l ls → In l (all_leads n ls is)
leads-kept n ls [] l h = h
leads-kept n ls (i ∷ is) l h = leads-kept (suc n) (leads_after ls n i) is l
    (in-left l ls (flat_map (λ before. leads before i) (befores ls n)) h)

module _ (sig : Sig) (most : ℕ) (tests : List Cond) (rules : List ProgramRule) (stop : ℕ) where
  -- one way leads to the instruction, which is right on its path
  pub record IsLed (ls : List Lead) (n : ℕ) (i : Instr) : Type 0 where
    pub before : Path
    pub one : befores ls n ≡ before ∷ []
    pub bounds : (t : ℕ) → In t (targets i) → (n < t) × (t < stop)
    pub right : is_right_path sig most (before ++ i.token ∷ []) ≡ true
    pub accepted : list_all (may_accept tests rules (before ++ i.token ∷ [])) i.accepts ≡ true
    pub balanced : is_balanced (open_along [] (before ++ i.token ∷ [])) (is_some i.down) ≡ true

  abbrev faults : ℕ → ℕ → List Lead → List Instr → List ProgramError
  faults = code_faults sig most tests rules stop

  led-here : (line n : ℕ) (ls : List Lead) (i : Instr)
      → target_faults stop line n (targets i) ++ way_faults sig most tests rules stop line (befores ls n) i ≡ []
      → IsLed ls n i
  led-here line n ls i h =
      let p = both-empty (target_faults stop line n (targets i)) _ h in
      by_ways (befores ls n) refl p.1 (target-bounds stop line n (targets i) p.0)
    where
      by_ways : (bs : List Path) → befores ls n ≡ bs → way_faults sig most tests rules stop line bs i ≡ []
          → ((t : ℕ) → In t (targets i) → (n < t) × (t < stop)) → IsLed ls n i
      by_ways [] e k bounds = cc
      by_ways (b ∷ c ∷ bs) e k bounds = cc
      by_ways (b ∷ []) e k bounds =
          let ks = b ++ i.token ∷ [] in
          let q = both-empty (fault_if (not (is_right_path sig most ks)
          || not (list_all (may_accept tests rules ks) i.accepts)) _) _ k in
          let r = or_parts (not (is_right_path sig most ks)) (not (list_all (may_accept tests rules ks) i.accepts))
          (nil-fault_if _ _ q.0) in
          record {
            before = b;
            one = e;
            bounds = bounds;
            right = not-false (is_right_path sig most ks) r.0;
            accepted = not-false (list_all (may_accept tests rules ks) i.accepts) r.1;
            balanced = not-false (is_balanced (open_along [] ks) (is_some i.down)) (nil-fault_if _ _ q.1);
          }

  -- the first instruction is led to, and the others are faultless behind it
  first-led : (line n : ℕ) (ls : List Lead) (i : Instr) (is : List Instr) → faults line n ls (i ∷ is) ≡ []
      → IsLed ls n i × (faults (suc line) (suc n) (leads_after ls n i) is ≡ [])
  first-led line n ls i is h =
      let p = both-empty (target_faults stop line n (targets i)
      ++ way_faults sig most tests rules stop line (befores ls n) i) _ h in
      (led-here line n ls i p.0, p.1)

  -- what it adds
  after-led : (n : ℕ) (ls : List Lead) (i : Instr) (l : IsLed ls n i) → leads_after ls n i ≡ ls ++ leads l.before i
  after-led n ls i l = ap (λ bs. ls ++ flat_map (λ before. leads before i) bs) l.one
      ∙ ap (λ ms. ls ++ ms) (append-nil (leads l.before i))

  -- no later instruction leads back
  pub stable : (line n : ℕ) (ls : List Lead) (is : List Instr) → faults line n ls is ≡ [] → (m : ℕ) → m ≤ n
      → befores (all_leads n ls is) m ≡ befores ls m
  stable line n ls [] h m less = refl
  stable line n ls (i ∷ is) h m less =
      let f = first-led line n ls i is h in
      let none = befores-none (leads f.0.before i) m (λ l j.
      let b = f.0.bounds l.to (subst (In l.to) (leads-to f.0.before i)
      (in-map (λ (k : Lead). k.to) l (leads f.0.before i) j)) in omega (arith, b.0, less)) in
      stable (suc line) (suc n) (leads_after ls n i) is f.1 m (omega (arith, less))
      ∙ ap (λ ms. befores ms m) (after-led n ls i f.0) ∙ befores-append ls (leads f.0.before i) m
      ∙ ap (λ bs. befores ls m ++ bs) none ∙ append-nil (befores ls m)

  -- the instruction is led to, and leads on
  pub record IsPlaced (final : List Lead) (n : ℕ) (i : Instr) : Type 0 where
    pub led : IsLed final n i
    pub down : (t : ℕ) → i.down ≡ Some t
        → In {X = Lead} (record { to = t; before = led.before ++ i.token ∷ [] }) final
    pub over : (t : ℕ) → i.over ≡ Some t → In {X = Lead} (record { to = t; before = led.before }) final

  placed-first : (line n : ℕ) (ls : List Lead) (i : Instr) (is : List Instr) → faults line n ls (i ∷ is) ≡ []
      → IsPlaced (all_leads n ls (i ∷ is)) n i
  placed-first line n ls i is h =
      let f = first-led line n ls i is h in
      let b = f.0.before in
      let same = stable line n ls (i ∷ is) h n (omega arith) in
      let onward : (l : Lead) → In l (leads b i) → In l (all_leads n ls (i ∷ is)) =
      λ l j. leads-kept (suc n) (leads_after ls n i) is l
      (subst (In l) (sym (after-led n ls i f.0)) (in-right l ls (leads b i) j)) in
      record {
        led = record {
          before = b;
          one = same ∙ f.0.one;
          bounds = f.0.bounds;
          right = f.0.right;
          accepted = f.0.accepted;
          balanced = f.0.balanced;
        };
        down = λ t e. onward (record { to = t; before = b ++ i.token ∷ [] })
            (in-left (record { to = t; before = b ++ i.token ∷ [] }) (lead (b ++ i.token ∷ []) i.down) (lead b i.over)
            (lead-some (b ++ i.token ∷ []) i.down t e));
        over = λ t e. onward (record { to = t; before = b })
            (in-right (record { to = t; before = b }) (lead (b ++ i.token ∷ []) i.down) (lead b i.over)
            (lead-some b i.over t e));
      }

  pub placed : (line n : ℕ) (ls : List Lead) (is : List Instr) → faults line n ls is ≡ [] → (k : ℕ) (i : Instr)
      → slice_get is k ≡ Some i → IsPlaced (all_leads n ls is) (n + k) i
  placed line n ls [] h k i e = cc
  placed line n ls (j ∷ is) h zero i e =
      let same : j ≡ i = let w : Some j ≡ Some i = e in cc in
      let here : n ≡ n + 0 = omega arith in
      subst (λ m. IsPlaced (all_leads n ls (j ∷ is)) m i) here
      (subst (IsPlaced (all_leads n ls (j ∷ is)) n) same (placed-first line n ls j is h))
  placed line n ls (j ∷ is) h (suc k) i e =
      let there : suc n + k ≡ n + suc k = omega arith in
      subst (λ m. IsPlaced (all_leads n ls (j ∷ is)) m i) there
      (placed (suc line) (suc n) (leads_after ls n j) is (first-led line n ls j is h).1 k i e)

  -- where all ways lead
  pub all_leads-to : (line n : ℕ) (ls : List Lead) (is : List Instr) → faults line n ls is ≡ []
      → map (λ (l : Lead). l.to) (all_leads n ls is) ≡ map (λ (l : Lead). l.to) ls ++ flat_map targets is
  all_leads-to line n ls [] h = sym (append-nil (map (λ (l : Lead). l.to) ls))
  all_leads-to line n ls (i ∷ is) h =
      let f = first-led line n ls i is h in
      let own = map (λ (l : Lead). l.to) ls in
      all_leads-to (suc line) (suc n) (leads_after ls n i) is f.1
      ∙ ap (λ ms. map (λ (l : Lead). l.to) ms ++ flat_map targets is) (after-led n ls i f.0)
      ∙ ap (λ ts. ts ++ flat_map targets is) (map-append (λ (l : Lead). l.to) ls (leads f.0.before i)
      ∙ ap (λ ts. own ++ ts) (leads-to f.0.before i)) ∙ append_assoc own (targets i) (flat_map targets is)

  -- what holds of the paths of the first ways holds of those of all, where the instructions keep it
  module _ (Good : Path → Type 0) (Right : Instr → Type 0)
      (onward : (before : Path) (i : Instr) → Right i → Good before → IsSome i.down
      → is_balanced (open_along [] (before ++ i.token ∷ [])) (is_some i.down) ≡ true
      → Good (before ++ i.token ∷ [])) where
    abbrev AreGood : List Lead → Type 0
    AreGood ls = AllByRecursion (λ (l : Lead). Good l.before) ls

    good-lead : (before : Path) (o : Option ℕ) → (IsSome o → Good before) → AreGood (lead before o)
    good-lead before None h = tt
    good-lead before (Some t) h = (h refl, tt)

    good-before : (ls : List Lead) (n : ℕ) (b : Path) (bs : List Path) → AreGood ls → befores ls n ≡ b ∷ bs → Good b
    good-before ls n b bs good e =
        let i = from_in-map (λ (l : Lead). l.before) b (filter (λ (l : Lead). nat_eq l.to n) ls)
        (subst (In b) (sym e) (inl refl)) in
        subst Good (sym i.1) (all_in (λ (l : Lead). Good l.before) ls i.0 good
        (from_in-filter (λ (l : Lead). nat_eq l.to n) i.0 ls i.2).0)

    pub good-leads : (line n : ℕ) (ls : List Lead) (is : List Instr) → faults line n ls is ≡ []
        → AllByRecursion Right is → AreGood ls → AreGood (all_leads n ls is)
    good-leads line n ls [] h right good = good
    good-leads line n ls (i ∷ is) h right good =
        let f = first-led line n ls i is h in
        let b = f.0.before in
        let here = good-before ls n b [] good f.0.one in
        let more : AreGood (leads b i) =
        all-append (λ (l : Lead). Good l.before) (lead (b ++ i.token ∷ []) i.down) (lead b i.over)
        (good-lead (b ++ i.token ∷ []) i.down (λ s. onward b i right.0 here s f.0.balanced))
        (good-lead b i.over (λ s. here)) in
        good-leads (suc line) (suc n) (leads_after ls n i) is f.1 right.1
        (subst AreGood (sym (after-led n ls i f.0)) (all-append (λ (l : Lead). Good l.before) ls (leads b i) good more))

    -- so it holds of the path of each instruction that is led to
    pub good-led : (ls : List Lead) (n : ℕ) (i : Instr) (l : IsLed ls n i) → AreGood ls → Good l.before
    good-led ls n i l good = good-before ls n l.before [] good l.one

-- numbers to which one way leads at most stand once
pub once-leads : (ls : List Lead)
    → ((n : ℕ) → In n (map (λ (l : Lead). l.to) ls) → length (befores ls n) ≤ 1)
    → NoneTwice (map (λ (l : Lead). l.to) ls)
once-leads [] h = tt
once-leads (l ∷ ls) h = (
  λ i.
      let m = from_in-map (λ (k : Lead). k.to) l.to ls i in
      let two : length (befores (l ∷ ls) l.to) ≡ suc (length (befores ls l.to)) =
      rw (eq-eqb l.to l.to refl) refl in
      let some = in-some (befores ls l.to) m.0.before
      (subst (λ n. In m.0.before (befores ls n)) (sym m.1) (befores-in ls m.0 m.2)) in
      omega (arith, two, some, h l.to (inl refl)),
  once-leads ls (λ n i. fewer n (h n (inr i))),
)
  where
    in-some : (bs : List Path) (b : Path) → In b bs → 1 ≤ length bs
    in-some [] b i = absurd i
    in-some (c ∷ bs) b i = omega arith

    fewer : (n : ℕ) → length (befores (l ∷ ls) n) ≤ 1 → length (befores ls n) ≤ 1
    fewer n k = by_test (nat_eq l.to n) k
      where
        by_test : (b : Bool) → length (map (λ (m : Lead). m.before)
            (if b then l ∷ filter (λ (m : Lead). nat_eq m.to n) ls else filter (λ (m : Lead). nat_eq m.to n) ls)) ≤ 1
            → length (befores ls n) ≤ 1
        by_test true k = omega (arith, k)
        by_test false k = k
