-- The tests and the rules that are generated have no faults.
use Rattle.std.proofs.Common.{◌≡◌, ℕ, List, [], ◌∷◌, ◌++◌, map, length, Bool, true, false, refl}
use Rattle.std.proofs.Common.{ap, sym, ◌∙◌, inl, inr, subst, arith}
use Rattle.std.specs.Prelude.{Option, Some, None, not, nat_lt, bytes_eq}
use Rattle.std.specs.List.{AllByRecursion, list_all}
use Rattle.std.proofs.lemmas.Bool.{and_parts, and_from}
use Rattle.std.proofs.lemmas.Bool.Decides.{nat_tests}
use Rattle.std.proofs.lemmas.List.{map-append}
use Rattle.std.proofs.lemmas.Slice.Eq.{bytes_eq-Decides}
use Rattle.mp_term.specs.Listing.{In}
use Rattle.mp_term.specs.Names.{are_distinct}
use Rattle.mp_term.specs.Signature.{Sig}
use Rattle.mp_term.proofs.ListingLaws.{all_in, list_all-in}
use Rattle.mp_term.proofs.ListLaws.{all-split}
use Rattle.mp_term.proofs.SearchLaws.{in-right, in-flat, in-map, from_in-append, all-map}
use Rattle.mp_pattern.specs.declared.limits.TheConstants.{MAX_VARIABLES}
use Rattle.mp_pattern.specs.Admission.{Rule}
use Rattle.mp_pattern.specs.CondTree.{Cond}
use Rattle.mp_pattern.specs.Firsts.{is_known, firsts_after}
use Rattle.mp_pattern.specs.SoundRule.{IsSoundRule, AreSoundRules}
use Rattle.mp_pattern.specs.Value.{same_name}
use Rattle.mp_pattern.specs.Variables.{Use, uses, variables}
use Rattle.mp_pattern.proofs.NameLaws.{same_name-is, same_name-itself}
use Rattle.mp_theory.proofs.FirstsLaws.{Distinct, distinct-firsts}
use Rattle.mp_program.specs.Form.{RuleLine}
use Rattle.mp_program.specs.FormText.{line_of_rule}
use Rattle.mp_program.specs.FormFaults.{faults_along, rule_faults, unused_faults}
use Rattle.mp_program.specs.ProgramOf.{renamed_cond, same_cond, spelled_test, rule_of}
use Rattle.mp_program.proofs.FaultLaws.{HasFineNames}
use Rattle.mp_program.proofs.ListLaws.{list_any-none}
use Rattle.mp_program.proofs.TestLaws.{spelled_tests}
use Rattle.mp_program_laws.proofs.SpelledTests as lines
use Rattle.mp_program_laws.proofs.SpelledTests.{IsSpelling, spelled_of}
use Rattle.mp_program_laws.proofs.TestPlaces.{known-firsts, same_cond-itself}
use Rattle.mp_gen.specs.Generated.{spelled_condition, spelled_rule}

-- ---- lists

all-list_all : {X : Type 0} (test : X → Bool) (P : X → Type 0) (xs : List X) → ((x : X) → P x → test x ≡ true)
    → AllByRecursion P xs → list_all test xs ≡ true
all-list_all test P [] f h = refl
all-list_all test P (x ∷ xs) f h = and_from _ _ (f x h.0) (all-list_all test P xs f h.1)

-- names that are distinct by one test are so by the other
pub distinct-names : (xs : List (List ℕ)) → Distinct same_name xs → are_distinct xs ≡ true
distinct-names [] h = refl
distinct-names (x ∷ xs) h = and_from _ _
    (all-list_all (λ m. not (bytes_eq m x)) (λ m. same_name x m ≡ false) xs other h.0) (distinct-names xs h.1)
  where
    other : (m : List ℕ) → same_name x m ≡ false → not (bytes_eq m x) ≡ true
    other m e = by_test (bytes_eq m x) refl
      where
        by_test : (b : Bool) → bytes_eq m x ≡ b → not b ≡ true
        by_test false q = refl
        by_test true q =
            let same : m ≡ x = (bytes_eq-Decides m x).0 q in
            let wrong : true ≡ false = sym (same_name-itself x) ∙ ap (same_name x) (sym same) ∙ e in cc

-- a rule isn't called as one before it
other-name : (front : List RuleLine) (r : RuleLine) (back : List RuleLine)
    → are_distinct (map (λ q. q.name) (front ++ r ∷ back)) ≡ true → (q : RuleLine) → In q front
    → same_name q.name r.name ≡ false
other-name [] r back h q i = absurd i
other-name (p ∷ front) r back h q (inr i) =
    other-name front r back
    (and_parts (list_all (λ m. not (bytes_eq m p.name)) (map (λ z. z.name) (front ++ r ∷ back)))
    (are_distinct (map (λ z. z.name) (front ++ r ∷ back))) h).1 q i
other-name (p ∷ front) r back h q (inl e) = by_test (same_name q.name r.name) refl
  where
    here : In r.name (map (λ z. z.name) (front ++ r ∷ back))
    here = subst (In r.name) (sym (map-append (λ (z : RuleLine). z.name) front (r ∷ back)))
        (in-right r.name (map (λ (z : RuleLine). z.name) front) (map (λ (z : RuleLine). z.name) (r ∷ back)) (inl refl))

    differ : not (bytes_eq r.name p.name) ≡ true
    differ = list_all-in (λ m. not (bytes_eq m p.name)) (map (λ z. z.name) (front ++ r ∷ back)) r.name
        (and_parts (list_all (λ m. not (bytes_eq m p.name)) (map (λ z. z.name) (front ++ r ∷ back)))
        (are_distinct (map (λ z. z.name) (front ++ r ∷ back))) h).0 here

    by_test : (b : Bool) → same_name q.name r.name ≡ b → b ≡ false
    by_test false s = refl
    by_test true s =
        let same : r.name ≡ p.name = sym (same_name-is q.name r.name s) ∙ ap (λ (z : RuleLine). z.name) e in
        let yes : bytes_eq r.name p.name ≡ true = (bytes_eq-Decides r.name p.name).1 same in
        let wrong : false ≡ true = ap not (sym yes) ∙ differ in cc

-- ---- the conditions of rules

-- what the lines of rules spell
abbrev pub spelled_all : List Rule → List Cond
spelled_all rs = spelled_tests (map spelled_rule rs)

-- the condition of one of the rules, renamed, is one of those
pub spelled-in : (rules : List Rule) (r : Rule) (c : Cond) → In r rules → r.condition ≡ Some c
    → In (renamed_cond (variables r.pattern) c) (spelled_all rules)
spelled-in rules r c i e =
    let d = renamed_cond (variables r.pattern) c in
    in-flat spelled_of (spelled_rule r) d (map spelled_rule rules) (in-map spelled_rule r rules i)
    (subst (λ o. In d (spelled_test (variables r.pattern) (spelled_condition o))) (sym e) (inl refl))

-- and each of those is such a one
pub spelled-from : (rules : List Rule) (c : Cond) → In c (spelled_all rules)
    → (r : Rule) × (d : Cond) × In r rules × (r.condition ≡ Some d) × (c ≡ renamed_cond (variables r.pattern) d)
spelled-from [] c h = absurd h
spelled-from (r ∷ rules) c h = elim (from_in-append c (spelled_of (spelled_rule r)) (spelled_all rules) h) [
  | inl j ↦ by_condition r.condition refl j
  | inr j ↦ (let k = spelled-from rules c j in (k.0, k.1, inr k.2, k.3, k.4))
]
  where
    by_condition : (o : Option Cond) → r.condition ≡ o
        → In c (spelled_test (variables r.pattern) (spelled_condition o))
        → (q : Rule) × (d : Cond) × In q (r ∷ rules) × (q.condition ≡ Some d)
        × (c ≡ renamed_cond (variables q.pattern) d)
    by_condition None e j = absurd j
    by_condition (Some d) e (inl k) = (r, d, inl refl, e, k)
    by_condition (Some d) e (inr k) = absurd k

-- the lines of rules name no test by a number
pub spelling : (rules : List Rule) → AllByRecursion (λ r. IsSpelling r.test) (map spelled_rule rules)
spelling [] = tt
spelling (r ∷ rules) = (own r.condition, spelling rules)
  where
    own : (o : Option Cond) → IsSpelling (spelled_condition o)
    own None = tt
    own (Some c) = tt

-- the variables of a line are distinct and few
abbrev HasFineVariables : RuleLine → Type 0
HasFineVariables r = (are_distinct r.vars ≡ true) × (nat_lt MAX_VARIABLES (length r.vars) ≡ false)

module _ (sig : Sig) (rules : List Rule) (sound : AreSoundRules sig rules) where
  -- the tests, each once
  abbrev pub all : List Cond
  all = firsts_after (same_cond sig) [] (spelled_all rules)

  -- the line of a rule in the program
  abbrev pub line : Rule → RuleLine
  line r = line_of_rule (rule_of sig all (spelled_rule r))

  -- a test that is spelled is one of them
  pub spelled-known : (r : Rule) (c : Cond) → In r rules → r.condition ≡ Some c
      → is_known (same_cond sig) all (renamed_cond (variables r.pattern) c) ≡ true
  spelled-known r c i e = known-firsts (same_cond sig) (same_cond-itself sig) [] (spelled_all rules)
      (renamed_cond (variables r.pattern) c)
      (inr (spelled-in rules r c i e))

  -- ---- no faults

  lines-are : (rs : List Rule) → map (lines.line sig (map spelled_rule rules) (spelling rules)) (map spelled_rule rs)
      ≡ map line rs
  lines-are [] = refl
  lines-are (r ∷ rs) = ap (λ l. line r ∷ l) (lines-are rs)

  pub none-unused : (at : ℕ) → faults_along (unused_faults (map line rules)) [] at all ≡ []
  none-unused at = subst (λ ls. faults_along (unused_faults ls) [] at all ≡ []) (lines-are rules)
      (lines.none-unused sig (map spelled_rule rules) (spelling rules) at)

  pub none-rules : (at : ℕ) → faults_along (rule_faults (length all)) [] at (map line rules) ≡ []
  none-rules at = subst (λ ls. faults_along (rule_faults (length all)) [] at ls ≡ []) (lines-are rules)
      (lines.none-fine sig (map spelled_rule rules) (spelling rules) fine at)
    where
      all_fine : AllByRecursion HasFineVariables (map spelled_rule rules)
      all_fine = all-map HasFineVariables spelled_rule rules (λ r i. (
        distinct-names (variables r.pattern)
            (distinct-firsts same_name [] (map (λ (u : Use). u.name) (uses None r.pattern)) tt),
        (let h = (all_in (IsSoundRule sig) rules r sound.each i).pattern.few_variables in grind (arith, nat_tests, h)),
      ))

      names : (rs : List Rule) → map (λ (l : RuleLine). l.name) (map spelled_rule rs) ≡ map (λ (r : Rule). r.name) rs
      names [] = refl
      names (r ∷ rs) = ap (λ l. r.name ∷ l) (names rs)

      fine : (front : List RuleLine) (r : RuleLine) (back : List RuleLine)
          → map spelled_rule rules ≡ front ++ r ∷ back → HasFineNames front r
      fine front r back e =
          let parts = (all-split HasFineVariables front (r ∷ back)
          (subst (AllByRecursion HasFineVariables) e all_fine)).1.0 in
          let distinct : are_distinct (map (λ (l : RuleLine). l.name) (map spelled_rule rules)) ≡ true =
          ap are_distinct (names rules) ∙ sound.names in
          record {
            name = list_any-none (λ q. same_name q.name r.name) front (other-name front r back
                (subst (λ ls. are_distinct (map (λ (l : RuleLine). l.name) ls) ≡ true) e distinct));
            distinct = parts.0;
            few = parts.1;
          }
