-- The tests that rule lines spell, and the same lines with the numbers of these tests.
use Rattle.std.proofs.Common.{◌≡◌, ◌<◌, ◌≤◌, ℕ, suc, Bool, true, false, List, [], ◌∷◌, ◌++◌, map, length, refl, ap, sym}
use Rattle.std.proofs.Common.{Option, Some, None, ◌∙◌, subst, inl, inr, arith, append-nil, append_assoc}
use Rattle.std.specs.Prelude.{◌||◌, not, ⊤, flat_map, nat_eq, nat_le, nat_lt}
use Rattle.std.specs.List.{AllByRecursion, list_any}
use Rattle.std.proofs.lemmas.Bool.Decides.{nat_tests}
use Rattle.std.proofs.lemmas.Grind.{flat_map-append}
use Rattle.std.proofs.lemmas.List.{length-append, map-append, map-id}
use Rattle.std.proofs.lemmas.Slice.Eq.{bytes_eq-Decides}
use Rattle.mp_io.specs.Devices.{Text}
use Rattle.mp_term.specs.Listing.{In}
use Rattle.mp_term.specs.Signature.{Sig}
use Rattle.mp_term.proofs.ListLaws.{all-split, both-empty}
use Rattle.mp_term.proofs.SearchLaws.{in-right, in-flat}
use Rattle.mp_pattern.specs.CondTree.{Cond}
use Rattle.mp_pattern.specs.Firsts.{is_known, firsts_after}
use Rattle.mp_pattern.specs.Value.{same_name}
use Rattle.mp_pattern.proofs.PlanLaws.{firsts_after-append}
use Rattle.mp_theory.proofs.FirstsLaws.{Distinct, distinct-firsts}
use Rattle.mp_print.specs.PrintedCond.{cond_text}
use Rattle.mp_program.specs.declared.fault.ProgramError.{ProgramError}
use Rattle.mp_program.specs.declared.fault.ProgramError.TheVariants.{BadReference}
use Rattle.mp_program.specs.Form.{RuleTest, untested, tested, spelled, RuleLine}
use Rattle.mp_program.specs.FormText.{numbered_test, line_of_rule}
use Rattle.mp_program.specs.FormFaults.{fault_if, faults_along, test_faults, used_test, used_tests, is_bad_test}
use Rattle.mp_program.specs.FormFaults.{rule_faults, unused_faults}
use Rattle.mp_program.specs.ProgramOf.{renamed_cond, same_cond, cond_place, spelled_test, test_number, rule_of}
use Rattle.mp_program.proofs.FaultLaws.{HasFineNames, fine-rule}
use Rattle.mp_program.proofs.ListLaws.{list_any-none}
use Rattle.mp_program.proofs.TestLaws.{spelled_tests}
use Rattle.mp_program_laws.proofs.TestPlaces.{none-along, upto, length-upto, upto-known, known-firsts}
use Rattle.mp_program_laws.proofs.TestPlaces.{distinct-front, same_cond-itself, same_cond-text, placed, place-among}
use Rattle.mp_program_laws.proofs.TestPlaces.{places-upto}

-- ---- no fault, item by item

-- an item among items without faults has none behind those before it
pub along-at : {X : Type 0} (faults : List X → ℕ → X → List ProgramError) (before xs front : List X) (a : X)
    (back : List X) (line : ℕ) → faults_along faults before line xs ≡ [] → xs ≡ front ++ a ∷ back
    → (l : ℕ) × (faults (before ++ front) l a ≡ [])
along-at faults before [] [] a back line none e = (let wrong : [] ≡ a ∷ back = e in cc)
along-at faults before [] (y ∷ front) a back line none e = (let wrong : [] ≡ y ∷ (front ++ a ∷ back) = e in cc)
along-at faults before (x ∷ xs) [] a back line none e =
    let all : x ∷ xs ≡ a ∷ back = e in
    let is : x ≡ a = cc in
    let both = both-empty (faults before line x) (faults_along faults (before ++ x ∷ []) (suc line) xs) none in (
      line,
      subst (λ l. faults l line a ≡ []) (sym (append-nil before)) (subst (λ y. faults before line y ≡ []) is both.0),
    )
along-at faults before (x ∷ xs) (y ∷ front) a back line none e =
    let all : x ∷ xs ≡ y ∷ (front ++ a ∷ back) = e in
    let is : x ≡ y = cc in
    let behind : xs ≡ front ++ a ∷ back = cc in
    let both = both-empty (faults before line x) (faults_along faults (before ++ x ∷ []) (suc line) xs) none in
    let rest = along-at faults (before ++ x ∷ []) xs front a back (suc line) both.1 behind in (
      rest.0,
      subst (λ l. faults l rest.0 a ≡ []) (append_assoc before (x ∷ []) front
          ∙ ap (λ z. before ++ z ∷ front) is) rest.1,
    )

-- the number, where there is one, is below this one
abbrev pub IsBelow : ℕ → Option ℕ → Type 0
IsBelow n None = ⊤
IsBelow n (Some m) = m < n

-- ---- lines that spell their tests

-- a line names no test by a number
abbrev pub IsSpelling : RuleTest → Type 0
IsSpelling (tested n) = ⊥
IsSpelling _ = ⊤

-- what a line spells
abbrev pub spelled_of : RuleLine → List Cond
spelled_of r = spelled_test r.vars r.test

module _ (sig : Sig) (rules : List RuleLine) (spelling : AllByRecursion (λ r. IsSpelling r.test) rules) where
  -- the tests, each once
  abbrev pub all : List Cond
  all = firsts_after (same_cond sig) [] (spelled_tests rules)

  -- the line with the number of its test
  abbrev pub line : RuleLine → RuleLine
  line r = line_of_rule (rule_of sig all r)

  abbrev firsts : List RuleLine → List Cond
  firsts rs = firsts_after (same_cond sig) [] (spelled_tests rs)

  used-line : (r : RuleLine) → IsSpelling r.test → used_test (line r).test ≡ map (cond_place sig all) (spelled_of r)
  used-line r h = by_test r.test h
    where
      by_test : (t : RuleTest) → IsSpelling t
          → used_test (numbered_test (test_number sig all r.vars t)) ≡ map (cond_place sig all) (spelled_test r.vars t)
      by_test untested h = refl
      by_test (tested n) h = absurd h
      by_test (spelled c) h = refl

  used-lines : (rs : List RuleLine) → AllByRecursion (λ r. IsSpelling r.test) rs
      → flat_map (λ (l : RuleLine). used_test l.test) (map line rs) ≡ map (cond_place sig all) (spelled_tests rs)
  used-lines [] h = refl
  used-lines (r ∷ rs) h = (λ i. used-line r h.0 i ++ used-lines rs h.1 i)
      ∙ sym (map-append (cond_place sig all) (spelled_of r) (spelled_tests rs))

  all-parts : (front back : List RuleLine) → rules ≡ front ++ back
      → all ≡ firsts_after (same_cond sig) (firsts front) (spelled_tests back)
  all-parts front back e = ap (λ rs. firsts_after (same_cond sig) [] (spelled_tests rs)) e
      ∙ ap (firsts_after (same_cond sig) []) (flat_map-append spelled_of front back)
      ∙ firsts_after-append (same_cond sig) [] (spelled_tests front) (spelled_tests back)

  -- the tests that the first rules use are the first ones
  used-front : (front back : List RuleLine) → rules ≡ front ++ back
      → used_tests (map line front) ≡ upto (length (firsts front))
  used-front front back e = ap (firsts_after nat_eq [])
      (used-lines front (all-split (λ r. IsSpelling r.test) front back
      (subst (AllByRecursion (λ r. IsSpelling r.test)) e spelling)).0)
      ∙ places-upto sig all [] (spelled_tests front) (spelled_tests back) (all-parts front back e)

  -- the tests are distinct
  pub none-tests : (at : ℕ) → faults_along (test_faults sig) [] at all ≡ []
  none-tests at = subst (λ l. faults_along (test_faults sig) [] at l ≡ []) (map-id all)
      (none-along (λ c. c) (test_faults sig) all [] all at refl each)
    where
      each : (front : List Cond) (c : Cond) (back : List Cond) (l : ℕ) → all ≡ front ++ c ∷ back
          → test_faults sig (map (λ d. d) front) l c ≡ []
      each front c back l e =
          let distinct = subst (Distinct (same_cond sig)) e
          (distinct-firsts (same_cond sig) [] (spelled_tests rules) tt) in
          let none : list_any (same_cond sig c) (map (λ d. d) front) ≡ false =
          ap (list_any (same_cond sig c)) (map-id front)
          ∙ list_any-none (same_cond sig c) front
          (λ d i. turned d (distinct-front (same_cond sig) front c back distinct d i))
          in
          rw none refl
        where
          turned : (d : Cond) → same_cond sig d c ≡ false → same_cond sig c d ≡ false
          turned d e = by_test (same_cond sig c d) refl
            where
              by_test : (b : Bool) → same_cond sig c d ≡ b → b ≡ false
              by_test false q = refl
              by_test true q =
                  let same : same_cond sig d c ≡ true =
                  (bytes_eq-Decides (cond_text sig d) (cond_text sig c)).1 (sym (same_cond-text sig c d q)) in
                  let wrong : true ≡ false = sym same ∙ e in cc

  -- each is used
  pub none-unused : (at : ℕ) → faults_along (unused_faults (map line rules)) [] at all ≡ []
  none-unused at = subst (λ l. faults_along (unused_faults (map line rules)) [] at l ≡ []) (map-id all)
      (none-along (λ c. c) (unused_faults (map line rules)) all [] all at refl each)
    where
      each : (front : List Cond) (c : Cond) (back : List Cond) (l : ℕ) → all ≡ front ++ c ∷ back
          → unused_faults (map line rules) (map (λ d. d) front) l c ≡ []
      each front c back l e =
          let used : used_tests (map line rules) ≡ upto (length all) = used-front rules [] (sym (append-nil rules)) in
          let long : length all ≡ length (front ++ c ∷ back) = ap (λ l. length l) e in
          let parts = length-append front (c ∷ back) in
          let within : length (map (λ d. d) front) < length all =
          (let same : length (map (λ d. d) front) ≡ length front = ap (λ l. length l) (map-id front) in
          omega (arith, long, parts, same)) in
          let known : is_known nat_eq (used_tests (map line rules)) (length (map (λ d. d) front)) ≡ true =
          ap (λ l. is_known nat_eq l (length (map (λ d. d) front))) used
          ∙ upto-known (length all) (length (map (λ d. d) front)) within in
          rw known refl

  -- what a line spells is one of the tests
  spelled-known : (front : List RuleLine) (r : RuleLine) (back : List RuleLine) (d : Cond) → rules ≡ front ++ r ∷ back
      → spelled_of r ≡ d ∷ [] → is_known (same_cond sig) all d ≡ true
  spelled-known front r back d e own = known-firsts (same_cond sig) (same_cond-itself sig) [] (spelled_tests rules) d
      (inr (in-flat spelled_of r d rules (subst (In r) (sym e) (in-right r front (r ∷ back) (inl refl)))
      (subst (In d) (sym own) (inl refl))))

  -- the number of a test is one that may come next
  good-test : (front : List RuleLine) (r : RuleLine) (back : List RuleLine) → rules ≡ front ++ r ∷ back
      → IsSpelling r.test → is_bad_test (length all) (map line front) r.vars (line r).test ≡ false
  good-test front r back e h = by_test r.test refl h
    where
      by_test : (t : RuleTest) → r.test ≡ t → IsSpelling t
          → is_bad_test (length all) (map line front) r.vars (numbered_test (test_number sig all r.vars t)) ≡ false
      by_test untested q h = refl
      by_test (tested n) q h = absurd h
      by_test (spelled c) q h =
          let d = renamed_cond r.vars c in
          let n = cond_place sig all d in
          let own : spelled_of r ≡ d ∷ [] = ap (spelled_test r.vars) q in
          let p = placed sig all d (spelled-known front r back d e own) in
          let there : nat_le (length all) n ≡ false = (let w = p.within in grind (arith, nat_tests, w)) in
          let used : length (used_tests (map line front)) ≡ length (firsts front) =
          ap (λ l. length l) (used-front front (r ∷ back) e) ∙ length-upto (length (firsts front)) in
          let parts : all ≡ firsts_after (same_cond sig) (firsts front) (d ∷ spelled_tests back) =
          all-parts front (r ∷ back) e
          ∙ ap (λ l. firsts_after (same_cond sig) (firsts front) (l ++ spelled_tests back)) own in
          let among : n ≤ length (firsts front) =
          subst (λ l. cond_place sig l d ≤ length (firsts front)) (sym parts)
          (place-among sig (firsts front) (spelled_tests back) d) in
          let next : nat_lt (length (used_tests (map line front))) n ≡ false =
          grind (arith, nat_tests, used, among) in
          rw (there, next) refl

  -- it is the number of one of the tests
  pub test-number : (front : List RuleLine) (r : RuleLine) (back : List RuleLine) → rules ≡ front ++ r ∷ back
      → IsSpelling r.test → IsBelow (length all) (test_number sig all r.vars r.test)
  test-number front r back e h = by_test r.test refl h
    where
      by_test : (t : RuleTest) → r.test ≡ t → IsSpelling t → IsBelow (length all) (test_number sig all r.vars t)
      by_test untested q h = tt
      by_test (tested n) q h = absurd h
      by_test (spelled c) q h =
          (placed sig all (renamed_cond r.vars c) (spelled-known front r back (renamed_cond r.vars c) e
          (ap (spelled_test r.vars) q))).within

  names-line : (qs : List RuleLine) (n : Text)
      → list_any (λ q. same_name q.name n) (map line qs) ≡ list_any (λ q. same_name q.name n) qs
  names-line [] n = refl
  names-line (q ∷ qs) n = ap (λ b. same_name q.name n || b) (names-line qs n)

  -- lines with whose names nothing is wrong have no faults with the numbers
  pub none-fine : ((front : List RuleLine) (r : RuleLine) (back : List RuleLine) → rules ≡ front ++ r ∷ back
      → HasFineNames front r) → (at : ℕ) → faults_along (rule_faults (length all)) [] at (map line rules) ≡ []
  none-fine are_fine at = none-along line (rule_faults (length all)) rules [] rules at refl each
    where
      each : (front : List RuleLine) (r : RuleLine) (back : List RuleLine) (l : ℕ) → rules ≡ front ++ r ∷ back
          → rule_faults (length all) (map line front) l (line r) ≡ []
      each front r back l e =
          let fine = are_fine front r back e in
          let names = names-line front r.name ∙ fine.name in
          let test = good-test front r back e
          ((all-split (λ q. IsSpelling q.test) front (r ∷ back)
          (subst (AllByRecursion (λ q. IsSpelling q.test)) e spelling)).1.0) in
          λ i. fault_if (names i || (not (fine.distinct i) || (fine.few i || test i))) (BadReference l)

  -- so with lines in which nothing is wrong
  pub none-rules : (before at : ℕ) → faults_along (rule_faults 0) [] before rules ≡ []
      → faults_along (rule_faults (length all)) [] at (map line rules) ≡ []
  none-rules before at none = none-fine (λ front r back e.
      let here = along-at (rule_faults 0) [] rules front r back before none e in
      (fine-rule 0 front here.0 r here.1).names) at
