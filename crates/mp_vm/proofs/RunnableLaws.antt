-- A program without faults may be run: its instructions may be walked, and the rules that they accept suit their paths.
use Rattle.std.proofs.Common.{◌≡◌, ℕ, zero, suc, ◌+◌, ◌<◌, ◌≤◌, List, [], ◌∷◌, ◌++◌, map, length}
use Rattle.std.proofs.Common.{Bool, true, false, refl}
use Rattle.std.proofs.Common.{ap, sym, ◌∙◌, inl, inr, subst, arith}
use Rattle.std.specs.Prelude.{◌≢◌, Option, Some, None, IsSome, is_some, flat_map, option_to_list}
use Rattle.std.specs.Prelude.{if◌then◌else◌, nat_eq, nat_lt}
use Rattle.std.specs.List.{AllByRecursion}
use Rattle.std.proofs.lemmas.Bool.{or_parts}
use Rattle.mp_io.specs.Devices.{Text}
use Rattle.mp_term.specs.Listing.{In}
use Rattle.mp_term.specs.Signature.{Sig}
use Rattle.mp_term.proofs.ListLaws.{all-also, all-append, both-empty}
use Rattle.mp_term.proofs.ListingLaws.{all_in, place-in, list_all-in}
use Rattle.mp_term.proofs.SearchLaws.{from_in-append, from_in-flat}
use Rattle.mp_pattern.specs.CondTree.{Cond}
use Rattle.mp_pattern.specs.declared.limits.TheConstants.{MAX_PATTERN_NODES, MAX_VARIABLES}
use Rattle.mp_pattern.specs.EachWildcard.{EachWildcard}
use Rattle.mp_pattern.specs.Firsts.{firsts_after, add_new, is_known}
use Rattle.mp_pattern.specs.Limits.{DefaultIsSmall}
use Rattle.mp_pattern.specs.NetTokens.{NetToken, sym_token, enter_token, leave_token, wild_token, comm_token}
use Rattle.mp_pattern.specs.PatternTree.{Wildcard, dot, kind, plus, star, optional, counted}
use Rattle.mp_ac.specs.CommItems.{NoneTwice}
use Rattle.mp_build.specs.Alone.{start}
use Rattle.mp_build.specs.Checks as checks
use Rattle.mp_build.specs.Checks.{nodes, has_large_default, is_large_pattern, whole_pattern_faults}
use Rattle.mp_build.specs.ConditionChecks.{is_large_condition, condition_faults}
use Rattle.mp_build.specs.Scope.{variable_names}
use Rattle.mp_build.proofs.Faultless.{nil-fault_if}
use Rattle.mp_walk.specs.CodeForest.{code_forest}
use Rattle.mp_walk.specs.Forests.{lists}
use Rattle.mp_walk.specs.Instrs.{Instr, accepts_at, instr_at, targets}
use Rattle.mp_walk.specs.Walkable.{Path, ArePaths, IsWhole, IsWalkable}
use Rattle.mp_walk.proofs.CodePaths.{down-target, over-target, instr-in, instr-there, forest-paths}
use Rattle.mp_walk.proofs.ForestLaws.{none-right}
use Rattle.mp_program.specs.declared.format.Format.{Format}
use Rattle.mp_program.specs.declared.format.Format.TheVariants.{One, Two}
use Rattle.mp_program.specs.Program.{ProgramRule, Program}
use Rattle.mp_program.specs.Form.{Form, RuleLine, RuleTest, untested, tested, spelled}
use Rattle.mp_program.specs.FormFaults.{target_faults, code_faults, most_nodes, stop_number, form_faults}
use Rattle.mp_program.specs.FormFaults.{line_of_begin, faults_of_declarations, faults_of_tests, faults_of_rules}
use Rattle.mp_program.specs.FormFaults.{faults_of_unused, faults_of_begin, faults_of_code}
use Rattle.mp_program.specs.Leads.{Lead, lead, befores}
use Rattle.mp_program.specs.ProgramOf.{same_cond, spelled_test, tests_of, program_of}
use Rattle.mp_program.specs.Reading.{IsValid}
use Rattle.mp_program.specs.RightForm.{IsRightWildcard, IsRightToken, IsRightAction, IsRightInstr, IsRightCond}
use Rattle.mp_program.specs.RightForm.{IsRightTest, IsRightRuleTest, IsRightRule, IsRightForm}
use Rattle.mp_program.specs.TokenPaths.{is_right_path, open_along, is_balanced, may_accept}
use Rattle.mp_vm.specs.Runnable.{EachOfToken, HasSmallOperands, IsRunnable}
use Rattle.mp_vm.proofs.Decoded.{LeavesOpen, leaves-open}
use Rattle.mp_vm.proofs.LeadLaws.{all_leads, target-bounds, IsPlaced, placed, stable, all_leads-to, good-leads}
use Rattle.mp_vm.proofs.LeadLaws.{good-led, befores-in, once-leads}
use Rattle.mp_vm.proofs.SmallLaws.{small-pattern_of, small-cond_of, small-renamed}
use Rattle.mp_vm.proofs.WholePaths.{whole-path}

-- what stands in the path before an instruction to which these ways lead
abbrev pub first_path : List Path → Path
first_path [] = []
first_path (b ∷ bs) = b

-- an operation is open behind an instruction that leads down, and none behind another
open-down : (o : Option (List ℕ)) → is_balanced o true ≡ true → (f : ℕ) × (fs : List ℕ) × (o ≡ Some (f ∷ fs))
open-down None h = cc
open-down (Some []) h = cc
open-down (Some (f ∷ fs)) h = (f, fs, refl)

closed-end : (o : Option (List ℕ)) → is_balanced o false ≡ true → o ≡ Some []
closed-end None h = cc
closed-end (Some []) h = refl
closed-end (Some (f ∷ fs)) h = cc

module _ (sig : Sig) (format : Format) where
  -- something is open behind each token, each of which is right
  record IsGood (ks : Path) : Type 0 where
    stays : LeavesOpen [] ks
    right : AllByRecursion (IsRightToken sig format) ks

  good-none : IsGood []
  good-none = record { stays = tt; right = tt }

  good-onward : (before : Path) (i : Instr) → IsRightInstr sig format i → IsGood before → IsSome i.down
      → is_balanced (open_along [] (before ++ i.token ∷ [])) (is_some i.down) ≡ true → IsGood (before ++ i.token ∷ [])
  good-onward before i right good down h =
      let o = open-down (open_along [] (before ++ i.token ∷ []))
      (subst (λ b. is_balanced (open_along [] (before ++ i.token ∷ [])) b ≡ true) down h) in
      record {
        stays = leaves-open [] before i.token o.0 o.1 good.stays o.2;
        right = all-append (IsRightToken sig format) before (i.token ∷ []) good.right (right.token, tt);
      }

  -- an instruction that accepts leads nowhere down
  accepts-none : (o : Option ℕ) (rs : List ℕ) → IsRightAction o rs → rs ≢ [] → is_some o ≡ false
  accepts-none None rs h some = refl
  accepts-none (Some t) rs h some = absurd (some h.1)

  accepts-leads : (o : Option ℕ) (rs : List ℕ) → IsRightAction o rs → rs ≡ [] → IsSome o
  accepts-leads None rs h none = absurd (h.0 none)
  accepts-leads (Some t) rs h none = refl

most-limit : (format : Format) → most_nodes format ≤ MAX_PATTERN_NODES
most-limit One = omega arith
most-limit Two = omega arith

-- the first ones of items that hold hold
first-hold : {X : Type 0} (same : X → X → Bool) (P : X → Type 0) (ys xs : List X) → AllByRecursion P ys
    → AllByRecursion P xs → AllByRecursion P (firsts_after same ys xs)
first-hold same P ys [] h k = h
first-hold same P ys (x ∷ xs) h k = first-hold same P (add_new same ys x) xs (added (is_known same ys x)) k.1
  where
    added : (b : Bool) → AllByRecursion P (if b then ys else ys ++ (x ∷ []))
    added true = h
    added false = all-append P ys (x ∷ []) h (k.0, tt)

-- ---- what is small

-- the defaults of a right token
small-token : (sig : Sig) (format : Format) (k : NetToken) → IsRightToken sig format k → EachOfToken DefaultIsSmall k
small-token sig format (sym_token n) h = tt
small-token sig format (enter_token g) h = tt
small-token sig format (leave_token g) h = tt
small-token sig format (wild_token w x) h = by_wildcard w h.0
  where
    by_wildcard : (w : Wildcard) → IsRightWildcard sig w → DefaultIsSmall w
    by_wildcard dot h = tt
    by_wildcard (kind k) h = tt
    by_wildcard plus h = tt
    by_wildcard star h = tt
    by_wildcard (counted n b) h = tt
    by_wildcard (optional t) h = h.1
small-token sig format (comm_token p) h =
    let t = h.read.syntax_tree in
    let f = both-empty (checks.fault_if (is_large_pattern t) _ (start t)) (whole_pattern_faults sig t)
    h.read.faultless in
    let a = or_parts (nat_lt MAX_PATTERN_NODES (nodes t)) _ (nil-fault_if (is_large_pattern t) _ (start t) f.0) in
    let b = or_parts (nat_lt MAX_VARIABLES (length (variable_names t))) (has_large_default t) a.1 in
    subst (EachWildcard DefaultIsSmall) (sym h.read.is) (small-pattern_of sig t b.1)

-- the operands of a right condition
small-right : (sig : Sig) (c : Cond) → IsRightCond sig c → HasSmallOperands c
small-right sig c h =
    let d = h.syntax_tree.condition in
    let f = both-empty (checks.fault_if (is_large_condition d) _ h.syntax_tree.start) (condition_faults sig None d)
    h.faultless in
    subst HasSmallOperands (sym h.is)
    (small-cond_of sig d (nil-fault_if (is_large_condition d) _ h.syntax_tree.start f.0))

-- those of the tests of a right form
small-tests : (sig : Sig) (f : Form) → IsRightForm sig f → AllByRecursion HasSmallOperands (tests_of sig f)
small-tests sig f right =
    all-append HasSmallOperands f.tests
    (firsts_after (same_cond sig) [] (flat_map (λ (r : RuleLine). spelled_test r.vars r.test) f.rules))
    (all-also (IsRightTest sig) HasSmallOperands (λ c h. small-right sig c h.right) f.tests right.tests)
    (first-hold (same_cond sig) HasSmallOperands [] _ tt (small-spelled f.rules right.rules))
  where
    small-rule : (vars : List Text) (t : RuleTest) → IsRightRuleTest sig f.format t
        → AllByRecursion HasSmallOperands (spelled_test vars t)
    small-rule vars untested h = tt
    small-rule vars (tested n) h = tt
    small-rule vars (spelled c) h = (small-renamed vars c (small-right sig c h.1), tt)

    small-spelled : (rs : List RuleLine) → AllByRecursion (IsRightRule sig f.format) rs
        → AllByRecursion HasSmallOperands (flat_map (λ (r : RuleLine). spelled_test r.vars r.test) rs)
    small-spelled [] h = tt
    small-spelled (r ∷ rs) h =
        all-append HasSmallOperands (spelled_test r.vars r.test)
        (flat_map (λ (q : RuleLine). spelled_test q.vars q.test) rs)
        (small-rule r.vars r.test h.0.test) (small-spelled rs h.1)

module _ (sig : Sig) (format : Format) (tests : List Cond) (rules : List ProgramRule) (line stop : ℕ)
    (begin : Option ℕ) (code : List Instr) (count : stop ≡ suc (length code))
    (right : AllByRecursion (IsRightInstr sig format) code)
    (begins : target_faults stop line 0 (option_to_list begin) ≡ [])
    (faultless : code_faults sig (most_nodes format) tests rules stop (suc line) 1 (lead [] begin) code ≡ [])
    (small : AllByRecursion HasSmallOperands tests) where
  abbrev most : ℕ
  most = most_nodes format

  abbrev final : List Lead
  final = all_leads 1 (lead [] begin) code

  abbrev before : ℕ → Path
  before n = first_path (befores final n)

  at : (n : ℕ) (i : Instr) → instr_at code n ≡ Some i → IsPlaced sig most tests rules stop final n i
  at zero i e = cc
  at (suc k) i e =
      let same : 1 + k ≡ suc k = omega arith in
      subst (λ m. IsPlaced sig most tests rules stop final m i) same
      (placed sig most tests rules stop (suc line) 1 (lead [] begin) code faultless k i e)

  before-is : (n : ℕ) (i : Instr) (p : IsPlaced sig most tests rules stop final n i) → before n ≡ p.led.before
  before-is n i p = ap first_path p.led.one

  -- a way that leads to an instruction is the one
  led-by : (t : ℕ) (b : Path) → 1 ≤ t → t < stop → In {X = Lead} (record { to = t; before = b }) final → before t ≡ b
  led-by t b some less i =
      let j = instr-there code t some (omega (arith, less, count)) in
      let p = at t j.0 j.1 in
      let k = subst (In b) p.led.one (befores-in final (record { to = t; before = b }) i) in
      before-is t j.0 p ∙ elim k [ inl e ↦ sym e | inr n ↦ absurd n ]

  first-before : before 1 ≡ []
  first-before =
      ap first_path (stable sig most tests rules stop (suc line) 1 (lead [] begin) code faultless 1 (omega arith))
      ∙ by_begin begin
    where
      by_begin : (o : Option ℕ) → first_path (befores (lead [] o) 1) ≡ []
      by_begin None = refl
      by_begin (Some d) = elim (nat_eq d 1) as (λ b. first_path (map (λ (l : Lead). l.before)
          (if b then record { to = d; before = [] } ∷ [] else [])) ≡ []) [ true ↦ refl | false ↦ refl ]

  are-paths : ArePaths code before
  are-paths = record {
    first = first-before;
    down = λ n t i e d.
        let p = at n i e in
        let b = p.led.bounds t (down-target i t d) in
        led-by t (p.led.before ++ i.token ∷ []) (omega (arith, b.0)) b.1 (p.down t d)
        ∙ ap (λ ks. ks ++ i.token ∷ []) (sym (before-is n i p));
    over = λ n t i e d.
        let p = at n i e in
        let b = p.led.bounds t (over-target i t d) in
        led-by t p.led.before (omega (arith, b.0)) b.1 (p.over t d) ∙ sym (before-is n i p);
  }

  begin-once : (o : Option ℕ) → map (λ (l : Lead). l.to) (lead [] o) ≡ option_to_list o
  begin-once None = refl
  begin-once (Some d) = refl

  ways-to : map (λ (l : Lead). l.to) final ≡ option_to_list begin ++ flat_map targets code
  ways-to = all_leads-to sig most tests rules stop (suc line) 1 (lead [] begin) code faultless
      ∙ ap (λ ts. ts ++ flat_map targets code) (begin-once begin)

  -- each way leads to an instruction
  within : (m : ℕ) → In m (map (λ (l : Lead). l.to) final) → (1 ≤ m) × (m < stop)
  within m i = elim (from_in-append m (option_to_list begin) (flat_map targets code) (subst (In m) ways-to i)) [
    | inl j ↦ let b = target-bounds stop line 0 (option_to_list begin) begins m j in (omega (arith, b.0), b.1)
    | inr j ↦
        let a = from_in-flat targets m code j in
        let k = place-in a.0 code a.1 in
        let b = (at (suc k.0) a.0 k.1).led.bounds m a.2 in
        (omega (arith, b.0), b.1)
  ]

  once : NoneTwice (flat_map targets code)
  once = none-right (option_to_list begin) (flat_map targets code)
      (subst NoneTwice ways-to (once-leads final (λ m i.
      let w = within m i in
      let j = instr-there code m w.0 (omega (arith, w.1, count)) in
      let one : length (befores final m) ≡ 1 = ap length (at m j.0 j.1).led.one in
      omega (arith, one))))

  good : (n : ℕ) (i : Instr) → instr_at code n ≡ Some i → IsGood sig format (before n)
  good n i e =
      let p = at n i e in
      subst (IsGood sig format) (sym (before-is n i p))
      (good-led sig most tests rules stop (IsGood sig format) (IsRightInstr sig format) (good-onward sig format) final n
      i p.led
      (good-leads sig most tests rules stop (IsGood sig format) (IsRightInstr sig format) (good-onward sig format)
      (suc line) 1 (lead [] begin) code faultless right (first-good begin)))
    where
      first-good : (o : Option ℕ) → AllByRecursion (λ (l : Lead). IsGood sig format l.before) (lead [] o)
      first-good None = tt
      first-good (Some d) = (good-none sig format, tt)

  whole : (n : ℕ) (i : Instr) → instr_at code n ≡ Some i → i.accepts ≢ [] → IsWhole sig (before n ++ i.token ∷ [])
  whole n i e some =
      let p = at n i e in
      let g = good n i e in
      let r = all_in (IsRightInstr sig format) code i right (instr-in code n i e) in
      let path : p.led.before ++ i.token ∷ [] ≡ before n ++ i.token ∷ [] =
      ap (λ ks. ks ++ i.token ∷ []) (sym (before-is n i p)) in
      let leaf : is_balanced (open_along [] (before n ++ i.token ∷ [])) false ≡ true =
      ap (is_balanced (open_along [] (before n ++ i.token ∷ [])))
      (sym (accepts-none sig format i.down i.accepts r.action some))
      ∙ ap (λ ks. is_balanced (open_along [] ks) (is_some i.down)) (sym path) ∙ p.led.balanced in
      whole-path sig format most (most-limit format) (before n) i.token
      (all-append (IsRightToken sig format) (before n) (i.token ∷ []) g.right (r.token, tt))
      (subst (λ ks. is_right_path sig most ks ≡ true) path p.led.right) g.stays
      (closed-end (open_along [] (before n ++ i.token ∷ [])) leaf)

  leads : (is : List Instr) → AllByRecursion (IsRightInstr sig format) is
      → AllByRecursion (λ i. i.accepts ≡ [] → IsSome i.down) is
  leads [] h = tt
  leads (i ∷ is) h = (λ e. accepts-leads sig format i.down i.accepts h.0.action e, leads is h.1)

  pub walkable : IsWalkable sig code
  walkable = record {
    before = before;
    paths = are-paths;
    forward = λ n t i e j. let b = (at n i e).led.bounds t j in (b.0, omega (arith, b.1, count));
    once = once;
    leads = leads code right;
    whole = whole;
  }

  -- the path to a leaf
  path-of : (n : ℕ) (path : Path) → In {X = ℕ × Path} (n, path) (lists (code_forest code))
      → (i : Instr) × (instr_at code n ≡ Some i) × (before n ++ i.token ∷ [] ≡ path)
  path-of n path leads =
      let f = forest-paths code before are-paths (length code) 1 n path leads in
      (f.instr, f.held, f.path ∙ ap (λ ks. ks ++ path) first-before)

  pub runnable : IsRunnable sig (record { rules = rules; tests = tests; code = code })
  runnable = record {
    walkable = walkable;
    accepted = λ n r path leads accepts.
        let f = path-of n path leads in
        let p = at n f.0 f.1 in
        let own : p.led.before ++ f.0.token ∷ [] ≡ path =
        ap (λ ks. ks ++ f.0.token ∷ []) (sym (before-is n f.0 p)) ∙ f.2 in
        let among : accepts_at code n ≡ f.0.accepts =
        ap (λ o. elim o as (λ _. List ℕ) [ None ↦ [] | Some i ↦ i.accepts ]) f.1 in
        subst (λ ks. may_accept tests rules ks r ≡ true) own
        (list_all-in (may_accept tests rules (p.led.before ++ f.0.token ∷ [])) f.0.accepts r p.led.accepted
        (subst (In r) among accepts));
    defaults = λ n path leads.
        let f = path-of n path leads in
        let i = f.0 in
        let g = good n i f.1 in
        let r = all_in (IsRightInstr sig format) code i right (instr-in code n i f.1) in
        subst (AllByRecursion (EachOfToken DefaultIsSmall)) f.2
        (all-also (IsRightToken sig format) (EachOfToken DefaultIsSmall) (small-token sig format)
        (before n ++ i.token ∷ [])
        (all-append (IsRightToken sig format) (before n) (i.token ∷ []) g.right (r.token, tt)));
    operands = small;
  }

-- a form without faults stands for a program that may be run
pub form-runnable : (sig : Sig) (f : Form) → IsRightForm sig f → form_faults sig f ≡ []
    → IsRunnable sig (program_of sig f)
form-runnable sig f right h =
    let a = both-empty (faults_of_declarations sig f) _ h in
    let b = both-empty (faults_of_tests sig f) _ a.1 in
    let c = both-empty (faults_of_rules sig f) _ b.1 in
    let d = both-empty (faults_of_unused sig f) _ c.1 in
    let e = both-empty (faults_of_begin sig f) (faults_of_code sig f) d.1 in
    runnable sig f.format (tests_of sig f) (program_of sig f).rules (line_of_begin f) (stop_number sig f) f.begin f.code
    refl right.code e.0 e.1 (small-tests sig f right)

-- so may each valid program
pub valid-runnable : (sig : Sig) (p : Program) → IsValid sig p → IsRunnable sig p
valid-runnable sig p h =
    subst (IsRunnable sig) (sym h.1.program) (form-runnable sig h.1.form h.1.is_form.right h.1.faultless)
