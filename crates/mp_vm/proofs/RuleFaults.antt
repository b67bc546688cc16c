-- The faults of tests and of rules.
use Rattle.std.proofs.Common.{◌≡◌, ◌<◌, ◌≤◌, ◌+◌, ◌-◌, ℕ, zero, suc, Bool, true, false, List, [], ◌∷◌, ◌++◌, length}
use Rattle.std.proofs.Common.{map, take, inl, inr, sym, ap, ◌∙◌, add-one, refl, arith, Some}
use Rattle.std.specs.Prelude.{◌⊎◌, not, ◌||◌, nat_eq, nat_lt, nat_le, bytes_eq}
use Rattle.std.specs.List.{list_any, flat_map, AllByRecursion}
use Rattle.std.proofs.lemmas.Bool.{cases_lt}
use Rattle.std.proofs.lemmas.Bool.Decides.{nat_tests}
use Rattle.std.proofs.lemmas.Map.Text.{is_eq-slice_cmp}
use Rattle.std.proofs.lemmas.List.{take_all, length-take-le, flat_map_more, length_push, map_push}
use Rattle.mp_io.specs.Devices.{Text}
use Rattle.mp_term.specs.Names.{are_distinct}
use Rattle.mp_term.specs.Signature.{Sig}
use Rattle.mp_pattern.specs.declared.limits.TheConstants.{MAX_VARIABLES}
use Rattle.mp_pattern.specs.CondTree.{Cond}
use Rattle.mp_pattern.specs.Firsts.{is_known, firsts_after}
use Rattle.mp_pattern.specs.Value.{same_name}
use Rattle.mp_pattern.proofs.PlanLaws.{firsts_after-append}
use Rattle.mp_print.specs.PrintedCond.{cond_text}
use Rattle.mp_build.proofs.Declared.{bytes_eq_comm}
use Rattle.mp_program.specs.declared.fault.ProgramError.TheVariants.{BadReference}
use Rattle.mp_program.specs.Form.{RuleTest, untested, tested, spelled, RuleLine}
use Rattle.mp_program.specs.FormFaults.{fault_if, faults_along, test_faults, used_test, used_tests, is_bad_test}
use Rattle.mp_program.specs.FormFaults.{rule_faults, unused_faults}
use Rattle.mp_program.specs.ProgramOf.{same_cond}
use Rattle.mp_program.specs.Reading.{first_fault}
use Rattle.mp_program.proofs.NameLaws.{known-push}
use Rattle.mp_line.specs.LineTexts.{kept_line}
use Rattle.mp_vm.specs.Checked.{numbers_below}

-- a test that is the other of one
swapped : (b t : Bool) → b ≡ not t → t ≡ not b
swapped true true h = (let wrong : true ≡ false = h in cc)
swapped true false h = refl
swapped false true h = refl
swapped false false h = (let wrong : false ≡ true = h in cc)

-- ---- tests

-- a test stands among others where its text does
any-texts : (sig : Sig) (ds : List Cond) (c : Cond)
    → list_any (bytes_eq (cond_text sig c)) (map (cond_text sig) ds) ≡ list_any (same_cond sig c) ds
any-texts sig [] c = refl
any-texts sig (d ∷ ds) c = ap (λ b. same_cond sig c d || b) (any-texts sig ds c)

-- a test is wrong where its text is among those of the tests before
pub test_faults-text : (sig : Sig) (done : List Cond) (c : Cond) (n : ℕ) (texts : List Text) (text : Text) (b : Bool)
    → texts ≡ map (cond_text sig) done → text ≡ cond_text sig c → b ≡ not (list_any (bytes_eq text) texts)
    → test_faults sig done n c ≡ fault_if (not b) (BadReference n)
test_faults-text sig done c n texts text b known is new =
    ap (λ t. fault_if t (BadReference n)) (sym any ∙ swapped b _ new)
  where
    any : list_any (bytes_eq text) texts ≡ list_any (same_cond sig c) done
    any = ap (λ t. list_any (bytes_eq t) texts) is ∙ ap (list_any (bytes_eq (cond_text sig c))) known
        ∙ any-texts sig done c

-- ---- used tests

-- the numbers below one are those that are less
pub known-below : (u n : ℕ) → is_known nat_eq (numbers_below u) n ≡ nat_lt n u
known-below zero n = grind (arith, nat_tests)
known-below (suc u) n =
    known-push nat_eq (numbers_below u) u n ∙ ap (λ b. b || nat_eq u n) (known-below u n) ∙ one_more u n
  where
    one_more : (u n : ℕ) → (nat_lt n u || nat_eq u n) ≡ nat_lt n (suc u)
    one_more u n = grind (arith, nat_tests)

pub length-below : (u : ℕ) → length (numbers_below u) ≡ u
length-below zero = refl
length-below (suc u) = length_push (numbers_below u) u ∙ ap (λ n. n + 1) (length-below u) ∙ add-one u

-- the next number is used, or one of those that are
pub used-next : (u n : ℕ) → n ≡ u → firsts_after nat_eq (numbers_below u) (n ∷ []) ≡ numbers_below (u + 1)
used-next u n is = rw (is, known-below u u, none, add-one) refl
  where
    none : nat_lt u u ≡ false
    none = grind (arith, nat_tests)

pub used-again : (u n : ℕ) → n < u → firsts_after nat_eq (numbers_below u) (n ∷ []) ≡ numbers_below u
used-again u n less = rw (known-below u n, there) refl
  where
    there : nat_lt n u ≡ true
    there = grind (arith, nat_tests)

-- those that one rule more uses
pub used_tests-more : (rs : List RuleLine) (r : RuleLine)
    → used_tests (rs ++ r ∷ []) ≡ firsts_after nat_eq (used_tests rs) (used_test r.test)
used_tests-more rs r =
    ap (firsts_after nat_eq []) (sym (flat_map_more (λ (q : RuleLine). used_test q.test) [] rs r))
    ∙ firsts_after-append nat_eq [] (flat_map (λ q. used_test q.test) rs) (used_test r.test)

-- ---- rules

-- a rule has the name of an earlier one where that is among theirs
pub any-names : (rs : List RuleLine) (n : Text)
    → list_any (λ q. same_name q.name n) rs ≡ list_any (bytes_eq n) (map (λ q. q.name) rs)
any-names [] n = refl
any-names (q ∷ rs) n = λ i. (is_eq-slice_cmp q.name n ∙ bytes_eq_comm q.name n) i || any-names rs n i

-- what a line says of a test that isn't bad fits behind so many that are used
pub used_test-fits : (count : ℕ) (before : List RuleLine) (vars : List Text) (t : RuleTest) (used : ℕ)
    → length (used_tests before) ≡ used → is_bad_test count before vars t ≡ false
    → AllByRecursion (λ n. n ≤ used) (used_test t)
used_test-fits count before vars untested used is good = tt
used_test-fits count before vars (spelled c) used is good = tt
used_test-fits count before vars (tested n) used is good = (next (length (used_tests before)) is good, tt)
  where
    next : (u : ℕ) → u ≡ used → (nat_le count n || nat_lt u n) ≡ false → n ≤ used
    next u h g = grind (arith, nat_tests)

module _ (count : ℕ) (before : List RuleLine) (n : ℕ) (r : RuleLine) where
  -- what is wrong with a line, where but for its name nothing is
  pub rule_faults-name : are_distinct r.vars ≡ true → length r.vars ≤ MAX_VARIABLES
      → is_bad_test count before r.vars r.test ≡ false → (names : List Text) (name : Text) (b : Bool)
      → names ≡ map (λ q. q.name) before → name ≡ r.name → b ≡ not (list_any (bytes_eq name) names)
      → rule_faults count before n r ≡ fault_if (not b) (BadReference n)
  rule_faults-name distinct few good names name b known is new = ap (λ t. fault_if t (BadReference n))
      ((λ i. list_any (λ q. same_name q.name r.name) before || (not (distinct i) || (short i || good i)))
      ∙ alone (list_any (λ q. same_name q.name r.name) before) ∙ any-names before r.name
      ∙ sym (ap (λ t. list_any (bytes_eq t) names) is ∙ ap (list_any (bytes_eq r.name)) known) ∙ swapped b _ new)
    where
      short : nat_lt MAX_VARIABLES (length r.vars) ≡ false
      short = not_less MAX_VARIABLES (length r.vars) few
        where
          not_less : (m n : ℕ) → n ≤ m → nat_lt m n ≡ false
          not_less m n h = grind (arith, nat_tests)

      alone : (a : Bool) → (a || (false || (false || false))) ≡ a
      alone true = refl
      alone false = refl

-- ---- kept lines

module _ (count most : ℕ) where
  kept-names : (rs : List RuleLine) (n : Text)
      → list_any (λ q. same_name q.name n) (map (kept_line most) rs) ≡ list_any (λ q. same_name q.name n) rs
  kept-names [] n = refl
  kept-names (q ∷ rs) n = ap (λ b. same_name q.name n || b) (kept-names rs n)

  -- the tests that kept lines name
  pub kept-used : (rs : List RuleLine) → used_tests (map (kept_line most) rs) ≡ used_tests rs
  kept-used rs = ap (firsts_after nat_eq []) (go rs)
    where
      go : (rs : List RuleLine) → flat_map (λ r. used_test r.test) (map (kept_line most) rs)
          ≡ flat_map (λ r. used_test r.test) rs
      go [] = refl
      go (r ∷ rs) = ap (λ l. used_test r.test ++ l) (go rs)

  bad-alike : (rs qs : List RuleLine) (vars : List Text) (t : RuleTest) → used_tests rs ≡ used_tests qs
      → is_bad_test count rs vars t ≡ is_bad_test count qs vars t
  bad-alike rs qs vars untested same = refl
  bad-alike rs qs vars (tested n) same = ap (λ l. nat_le count n || nat_lt (length l) n) same
  bad-alike rs qs vars (spelled c) same = refl

  -- what is wrong with a line is wrong with the kept one
  pub rule_faults-kept : MAX_VARIABLES < most → (before : List RuleLine) (n : ℕ) (r : RuleLine)
      → rule_faults count (map (kept_line most) before) n (kept_line most r) ≡ rule_faults count before n r
  rule_faults-kept enough before n r =
      (λ i. fault_if (kept-names before r.name i || (not (are_distinct (take most r.vars))
      || (nat_lt MAX_VARIABLES (length (take most r.vars))
      || bad-alike (map (kept_line most) before) before (take most r.vars) r.test (kept-used before) i)))
      (BadReference n))
      ∙ ap (λ b. fault_if b (BadReference n)) (vars (cases_lt most (length r.vars)))
    where
      less : (m n : ℕ) → m < n → nat_lt m n ≡ true
      less m n h = grind (arith, nat_tests)

      long : (a b d b' d' : Bool) → (a || (b || (true || d))) ≡ (a || (b' || (true || d')))
      long true b d b' d' = refl
      long false true d true d' = refl
      long false true d false d' = refl
      long false false d true d' = refl
      long false false d false d' = refl

      vars : (most < length r.vars) ⊎ (length r.vars ≤ most)
          → (list_any (λ q. same_name q.name r.name) before || (not (are_distinct (take most r.vars))
          || (nat_lt MAX_VARIABLES (length (take most r.vars)) || is_bad_test count before (take most r.vars) r.test)))
          ≡ (list_any (λ q. same_name q.name r.name) before || (not (are_distinct r.vars)
          || (nat_lt MAX_VARIABLES (length r.vars) || is_bad_test count before r.vars r.test)))
      vars (inr few) = ap (λ vs. list_any (λ q. same_name q.name r.name) before || (not (are_distinct vs)
          || (nat_lt MAX_VARIABLES (length vs) || is_bad_test count before vs r.test))) (take_all most r.vars few)
      vars (inl many) = rw (kept, whole) (long (list_any (λ q. same_name q.name r.name) before)
          (not (are_distinct (take most r.vars))) (is_bad_test count before (take most r.vars) r.test)
          (not (are_distinct r.vars)) (is_bad_test count before r.vars r.test))
        where
          kept : nat_lt MAX_VARIABLES (length (take most r.vars)) ≡ true
          kept = ap (nat_lt MAX_VARIABLES) (length-take-le most r.vars (omega arith)) ∙ less MAX_VARIABLES most enough

          whole : nat_lt MAX_VARIABLES (length r.vars) ≡ true
          whole = less MAX_VARIABLES (length r.vars) (omega arith)

  -- so are the faults of the kept lines those of the lines
  pub along-kept : MAX_VARIABLES < most → (before : List RuleLine) (n : ℕ) (rs : List RuleLine)
      → faults_along (rule_faults count) (map (kept_line most) before) n (map (kept_line most) rs)
      ≡ faults_along (rule_faults count) before n rs
  along-kept enough before n [] = refl
  along-kept enough before n (r ∷ rs) =
      let rest = ap (λ l. faults_along (rule_faults count) l (suc n) (map (kept_line most) rs))
      (sym (map_push (kept_line most) before r)) ∙ along-kept enough (before ++ r ∷ []) (suc n) rs in
      λ i. rule_faults-kept enough before n r i ++ rest i

-- ---- tests that no rule uses

module _ (rs : List RuleLine) (used : ℕ) (are : used_tests rs ≡ numbers_below used) where
  known-used : (n : ℕ) → is_known nat_eq (used_tests rs) n ≡ nat_lt n used
  known-used n = ap (λ l. is_known nat_eq l n) are ∙ known-below used n

  is-used : (before : List Cond) (n : ℕ) (c : Cond) → length before < used → unused_faults rs before n c ≡ []
  is-used before n c less = ap (λ b. fault_if (not b) (BadReference n)) (known-used (length before) ∙ there)
    where
      there : nat_lt (length before) used ≡ true
      there = grind (arith, nat_tests)

  -- all are used
  pub unused-none : (before : List Cond) (n : ℕ) (ts : List Cond) → length before + length ts ≤ used
      → faults_along (unused_faults rs) before n ts ≡ []
  unused-none before n [] all = refl
  unused-none before n (t ∷ ts) all =
      ap (λ l. l ++ faults_along (unused_faults rs) (before ++ t ∷ []) (suc n) ts) (is-used before n t (omega arith))
      ∙ unused-none (before ++ t ∷ []) (suc n) ts (omega (arith, length_push before t))

  -- the first that isn't used
  pub unused-first : (before : List Cond) (n : ℕ) (ts : List Cond) → length before ≤ used
      → used < length before + length ts
      → first_fault (faults_along (unused_faults rs) before n ts) ≡ Some (BadReference (n + (used - length before)))
  unused-first before n [] from below = absurd (omega arith)
  unused-first before n (t ∷ ts) from below = go (cases_lt (length before) used)
      (unused-first (before ++ t ∷ []) (suc n) ts)
    where
      go : (length before < used) ⊎ (used ≤ length before)
          → (length (before ++ t ∷ []) ≤ used → used < length (before ++ t ∷ []) + length ts
          → first_fault (faults_along (unused_faults rs) (before ++ t ∷ []) (suc n) ts)
          ≡ Some (BadReference (suc n + (used - length (before ++ t ∷ [])))))
          → first_fault (faults_along (unused_faults rs) before n (t ∷ ts))
          ≡ Some (BadReference (n + (used - length before)))
      go (inl less) rest =
          ap (λ l. first_fault (l ++ faults_along (unused_faults rs) (before ++ t ∷ []) (suc n) ts))
          (is-used before n t less)
          ∙ rest (omega (arith, length_push before t)) (omega (arith, length_push before t))
          ∙ ap (λ m. Some (BadReference m)) (omega (arith, length_push before t, less))
      go (inr past) rest =
          ap (λ b. first_fault (fault_if (not b) (BadReference n)
          ++ faults_along (unused_faults rs) (before ++ t ∷ []) (suc n) ts)) (known-used (length before) ∙ there)
          ∙ ap (λ m. Some (BadReference m)) (omega (arith, from, past))
        where
          there : nat_lt (length before) used ≡ false
          there = grind (arith, nat_tests)
