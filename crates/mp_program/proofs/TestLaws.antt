-- Tests, each once, and their places.
use Rattle.std.proofs.Common.{◌≡◌, ℕ, suc, List, [], ◌∷◌, ◌++◌, map, length, Bool, true, false, Some, None, refl}
use Rattle.std.proofs.Common.{sym, ap, ◌∙◌, zero, ◌+◌, drop, append_assoc, add-one, arith}
use Rattle.std.specs.Prelude.{Result, Ok, Err, IfOk, OnOk}
use Rattle.std.specs.Prelude.{◌||◌, cond, not, nat_lt, bytes_eq, is_some, slice_get, if◌then◌else◌}
use Rattle.std.specs.List.{flat_map, list_any, position, position_or_len}
use Rattle.std.proofs.lemmas.Slice.Eq.{bytes_eq-Decides}
use Rattle.std.proofs.Math.Bool.{or-true}
use Rattle.mp_io.specs.Devices.{Text}
use Rattle.mp_term.specs.Signature.{Sig}
use Rattle.mp_term.proofs.SignatureLaws.{is_some-position}
use Rattle.mp_pattern.specs.CondTree.{Cond, conds, more_conds}
use Rattle.mp_pattern.specs.Firsts.{is_known, add_new, firsts_after}
use Rattle.mp_pattern.specs.NetTokens.{number_in}
use Rattle.mp_pattern.specs.Value.{same_name}
use Rattle.mp_pattern.proofs.PlanLaws.{firsts_after-append}
use Rattle.mp_pattern.proofs.UsedNameLaws.{is_known-more}
use Rattle.mp_print.specs.PrintedCond.{cond_text}
use Rattle.mp_build.proofs.Declared.{bytes_eq_comm}
use Rattle.mp_program.specs.Program.{ProgramRule}
use Rattle.mp_program.specs.Form.{RuleTest, untested, tested, spelled, RuleLine}
use Rattle.mp_program.specs.ProgramOf.{renamed_cond, renamed_conds, same_cond, cond_place, spelled_test, test_number}
use Rattle.mp_program.specs.ProgramOf.{rule_of}

-- ---- items, each once

-- the tests that lines spell
abbrev pub spelled_tests : List RuleLine → List Cond
spelled_tests rs = flat_map (λ r. spelled_test r.vars r.test) rs

-- ---- places

module _ (sig : Sig) where
  -- a test is one of those of which it has the text
  known-text : (ts : List Cond) (c : Cond)
      → is_known (same_cond sig) ts c ≡ list_any (bytes_eq (cond_text sig c)) (map (cond_text sig) ts)
  known-text [] c = refl
  known-text (t ∷ ts) c =
      ap (λ b. b || is_known (same_cond sig) ts c) (bytes_eq_comm (cond_text sig t) (cond_text sig c))
      ∙ ap (λ b. bytes_eq (cond_text sig c) (cond_text sig t) || b) (known-text ts c)

  -- its place is that of its text
  place-text : (ts : List Cond) (c : Cond)
      → position_or_len (bytes_eq (cond_text sig c)) (map (cond_text sig) ts) ≡ cond_place sig ts c
  place-text [] c = refl
  place-text (t ∷ ts) c = go (bytes_eq (cond_text sig c) (cond_text sig t)) (same_cond sig t c)
      (bytes_eq_comm (cond_text sig c) (cond_text sig t)) _ _ (place-text ts c)
    where
      go : (a b : Bool) → a ≡ b → (m n : ℕ) → m ≡ n → cond (not a) (1 + m) 0 ≡ (if b then 0 else suc n)
      go true true e m n h = refl
      go false false e m n h = omega (arith, h)
      go true false e m n h = cc
      go false true e m n h = cc

  -- the number of a test that is spelled is its place
  pub test_number-spelled : (vars : List Text) (t : RuleTest) (c d : Cond) (tests : List Cond) (n : ℕ) → t ≡ spelled c
      → n ≡ cond_place sig tests d → d ≡ renamed_cond vars c → Some n ≡ test_number sig tests vars t
  test_number-spelled vars t c d tests n is place renamed =
      ap Some (place ∙ ap (cond_place sig tests) renamed) ∙ sym (ap (test_number sig tests vars) is)

  -- the place of one that is found
  place-found : (ts : List Cond) (c : Cond) (i : ℕ)
      → Some i ≡ position (bytes_eq (cond_text sig c)) (map (cond_text sig) ts)
      → (i ≡ cond_place sig ts c) × (ts ≡ firsts_after (same_cond sig) ts (c ∷ []))
  place-found ts c i found = (place ∙ place-text ts c, sym again)
    where
      place : i ≡ position_or_len (bytes_eq (cond_text sig c)) (map (cond_text sig) ts)
      place = go (nat_lt (position_or_len (bytes_eq (cond_text sig c)) (map (cond_text sig) ts))
          (length (map (cond_text sig) ts))) found
        where
          go : {n : ℕ} (b : Bool) → Some i ≡ cond b (Some n) None → i ≡ n
          go true e = cc
          go false e = cc

      known : is_known (same_cond sig) ts c ≡ true
      known = known-text ts c ∙ sym (is_some-position (bytes_eq (cond_text sig c)) (map (cond_text sig) ts))
          ∙ ap is_some (sym found)

      again : firsts_after (same_cond sig) ts (c ∷ []) ≡ ts
      again = rw known refl

  -- a text that isn't found is none of them
  pub new-text : (ts : List Cond) (c : Cond) → None ≡ position (bytes_eq (cond_text sig c)) (map (cond_text sig) ts)
      → list_any (bytes_eq (cond_text sig c)) (map (cond_text sig) ts) ≡ false
  new-text ts c none =
      sym (is_some-position (bytes_eq (cond_text sig c)) (map (cond_text sig) ts)) ∙ ap is_some (sym none)

  -- the place of one that isn't found, once it is added
  place-added : (ts : List Cond) (c : Cond) → None ≡ position (bytes_eq (cond_text sig c)) (map (cond_text sig) ts)
      → (length ts ≡ cond_place sig (ts ++ c ∷ []) c) × (ts ++ c ∷ [] ≡ firsts_after (same_cond sig) ts (c ∷ []))
  place-added ts c none = (place ts unknown, sym added)
    where
      unknown : is_known (same_cond sig) ts c ≡ false
      unknown = known-text ts c ∙ new-text ts c none

      added : firsts_after (same_cond sig) ts (c ∷ []) ≡ ts ++ c ∷ []
      added = rw unknown refl

      itself : same_cond sig c c ≡ true
      itself = (bytes_eq-Decides (cond_text sig c) (cond_text sig c)).1 refl

      place : (ts : List Cond) → is_known (same_cond sig) ts c ≡ false → length ts ≡ cond_place sig (ts ++ c ∷ []) c
      place [] h = rw itself refl
      place (t ∷ ts) h = go (same_cond sig t c) h (place ts)
        where
          go : (b : Bool) → (b || is_known (same_cond sig) ts c) ≡ false
              → (is_known (same_cond sig) ts c ≡ false → length ts ≡ cond_place sig (ts ++ c ∷ []) c)
              → suc (length ts) ≡ (if b then 0 else suc (cond_place sig (ts ++ c ∷ []) c))
          go true h rest = (let wrong : true ≡ false = h in cc)
          go false h rest = ap suc (rest h)

  -- what is answered where the test is there
  pub known-test : {E : Type 0} (r : Result ℕ E) (ts : List Cond) (c : Cond) (i : ℕ)
      → Some i ≡ position (bytes_eq (cond_text sig c)) (map (cond_text sig) ts) → IfOk r (λ n. n ≡ i)
      → IfOk r (λ n. n ≡ cond_place sig ts c) × OnOk r (ts ≡ firsts_after (same_cond sig) ts (c ∷ []))
  known-test (Ok n) ts c i found is = (let laws = place-found ts c i found in (is ∙ laws.0, laws.1))
  known-test (Err e) ts c i found is = (tt, tt)

  -- what is answered where it is added
  pub added-test : {E : Type 0} (r : Result ℕ E) (ts more : List Cond) (c : Cond)
      → None ≡ position (bytes_eq (cond_text sig c)) (map (cond_text sig) ts) → IfOk r (λ n. n ≡ length ts)
      → OnOk r (more ≡ ts ++ c ∷ [])
      → IfOk r (λ n. n ≡ cond_place sig more c) × OnOk r (more ≡ firsts_after (same_cond sig) ts (c ∷ []))
  added-test (Ok n) ts more c none is added =
      let laws = place-added ts c none in
      (is ∙ laws.0 ∙ ap (λ l. cond_place sig l c) (sym added), added ∙ laws.1)
  added-test (Err e) ts more c none is added = (tt, tt)

  -- a known test keeps its place
  pub place-more : (ts us : List Cond) (c : Cond) → is_known (same_cond sig) ts c ≡ true
      → cond_place sig (ts ++ us) c ≡ cond_place sig ts c
  place-more [] us c h = (let wrong : false ≡ true = h in cc)
  place-more (t ∷ ts) us c h = go (same_cond sig t c) h (place-more ts us c)
    where
      go : (b : Bool) → (b || is_known (same_cond sig) ts c) ≡ true
          → (is_known (same_cond sig) ts c ≡ true → cond_place sig (ts ++ us) c ≡ cond_place sig ts c)
          → (if b then 0 else suc (cond_place sig (ts ++ us) c)) ≡ (if b then 0 else suc (cond_place sig ts c))
      go true h rest = refl
      go false h rest = ap suc (rest h)

  place-kept : (xs ts : List Cond) (c : Cond) → is_known (same_cond sig) ts c ≡ true
      → cond_place sig (firsts_after (same_cond sig) ts xs) c ≡ cond_place sig ts c
  place-kept [] ts c h = refl
  place-kept (x ∷ xs) ts c h = go (is_known (same_cond sig) ts x) (place-kept xs ts c h)
      (place-kept xs (ts ++ x ∷ []) c (is_known-more (same_cond sig) ts (x ∷ []) c h) ∙ place-more ts (x ∷ []) c h)
    where
      go : (b : Bool) → cond_place sig (firsts_after (same_cond sig) ts xs) c ≡ cond_place sig ts c
          → cond_place sig (firsts_after (same_cond sig) (ts ++ x ∷ []) xs) c ≡ cond_place sig ts c
          → cond_place sig (firsts_after (same_cond sig) (if b then ts else ts ++ x ∷ []) xs) c ≡ cond_place sig ts c
      go true old more = old
      go false old more = more

  -- an item is known once it is added
  known-added : (ts : List Cond) (c : Cond) → is_known (same_cond sig) (add_new (same_cond sig) ts c) c ≡ true
  known-added ts c = go (is_known (same_cond sig) ts c) refl
    where
      here : (ts : List Cond) → is_known (same_cond sig) (ts ++ c ∷ []) c ≡ true
      here [] = rw ((bytes_eq-Decides (cond_text sig c) (cond_text sig c)).1 refl) refl
      here (t ∷ ts) = rw (here ts) (or-true (same_cond sig t c))

      go : (b : Bool) → is_known (same_cond sig) ts c ≡ b
          → is_known (same_cond sig) (if b then ts else ts ++ c ∷ []) c ≡ true
      go true known = known
      go false new = here ts

  -- the rule of a line stays the same where further lines spell tests
  pub rule-kept : (r : RuleLine) (ts xs : List Cond)
      → rule_of sig (firsts_after (same_cond sig) (firsts_after (same_cond sig) ts (spelled_test r.vars r.test)) xs) r
      ≡ rule_of sig (firsts_after (same_cond sig) ts (spelled_test r.vars r.test)) r
  rule-kept r ts xs = go r.test
    where
      go : (t : RuleTest)
          → rule_of sig (firsts_after (same_cond sig) (firsts_after (same_cond sig) ts (spelled_test r.vars t)) xs)
          (record { name = r.name; vars = r.vars; test = t })
          ≡ rule_of sig (firsts_after (same_cond sig) ts (spelled_test r.vars t))
          (record { name = r.name; vars = r.vars; test = t })
      go untested = refl
      go (tested n) = refl
      go (spelled c) = ap (λ n. record { name = r.name; vars = r.vars; test = Some n })
          (place-kept xs (add_new (same_cond sig) ts (renamed_cond r.vars c)) (renamed_cond r.vars c)
          (known-added ts (renamed_cond r.vars c)))

  -- one line more
  pub rules-next : (r : RuleLine) (rs : List RuleLine) (ts all : List Cond) (done rules : List ProgramRule)
      → firsts_after (same_cond sig) ts (spelled_tests (r ∷ rs)) ≡ all → done ++ map (rule_of sig all) (r ∷ rs) ≡ rules
      → (firsts_after (same_cond sig) (firsts_after (same_cond sig) ts (spelled_test r.vars r.test)) (spelled_tests rs)
      ≡ all)
      × ((done ++ rule_of sig (firsts_after (same_cond sig) ts (spelled_test r.vars r.test)) r ∷ [])
      ++ map (rule_of sig all) rs ≡ rules)
  rules-next r rs ts all done rules tests before = (
    later,
    append_assoc done (rule_of sig known r ∷ []) behind
        ∙ ap (λ q. done ++ q ∷ behind) (sym same) ∙ before,
  )
    where
      known : List Cond
      known = firsts_after (same_cond sig) ts (spelled_test r.vars r.test)

      behind : List ProgramRule
      behind = map (rule_of sig all) rs

      later : firsts_after (same_cond sig) known (spelled_tests rs) ≡ all
      later = sym (firsts_after-append (same_cond sig) ts (spelled_test r.vars r.test) (spelled_tests rs)) ∙ tests

      same : rule_of sig all r ≡ rule_of sig known r
      same = ap (λ l. rule_of sig l r) (sym later) ∙ rule-kept r ts (spelled_tests rs)

-- ---- conditions with numbered variables

-- those of a list, one by one
pub renamed_conds-map : (xs : List Text) (cs : List Cond)
    → renamed_conds xs (conds cs) ≡ conds (map (renamed_cond xs) cs)
renamed_conds-map xs [] = refl
renamed_conds-map xs (c ∷ cs) = ap (λ l. more_conds (renamed_cond xs c) l) (renamed_conds-map xs cs)

-- how many names stand before one, where those before an index are others
module _ (xs : List Text) (x y : Text) (i : ℕ) (at : slice_get xs i ≡ Some y)
    (before : i + number_in (drop i xs) x ≡ number_in xs x) where
  here : number_in (drop i xs) x ≡ (if same_name y x then 0 else number_in (drop (i + 1) xs) x + 1)
  here = go xs i at ∙ ap (λ k. if same_name y x then 0 else number_in (drop k xs) x + 1) (sym (add-one i))
    where
      go : (xs : List Text) (i : ℕ) → slice_get xs i ≡ Some y
          → number_in (drop i xs) x ≡ (if same_name y x then 0 else number_in (drop (suc i) xs) x + 1)
      go [] i h = (let wrong : None ≡ Some y = h in cc)
      go (z ∷ xs) zero h = (let some : Some z ≡ Some y = h in let is : z ≡ y = cc in rw is refl)
      go (z ∷ xs) (suc i) h = go xs i h

  -- the name at the index is the one
  pub number_in-found : same_name y x ≡ true → i ≡ number_in xs x
  number_in-found same =
      let none : number_in (drop i xs) x ≡ 0 =
      here ∙ ap (λ b. if b then 0 else number_in (drop (i + 1) xs) x + 1) same in
      omega (arith, none, before)

  -- it is another
  pub number_in-passed : same_name y x ≡ false → (i + 1) + number_in (drop (i + 1) xs) x ≡ number_in xs x
  number_in-passed other =
      let more : number_in (drop i xs) x ≡ number_in (drop (i + 1) xs) x + 1 =
      here ∙ ap (λ b. if b then 0 else number_in (drop (i + 1) xs) x + 1) other in
      omega (arith, more, before)
