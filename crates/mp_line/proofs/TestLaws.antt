-- A test is read of its text, and names the variables v0 to v31 alone.
use Rattle.std.proofs.Common.{◌≡◌, ◌<◌, ◌≤◌, ◌^◌, ◌++◌, ℕ, zero, suc, Bool, true, false, List, [], ◌∷◌, None}
use Rattle.std.proofs.Common.{refl, sym, ap, subst, ◌∙◌, arith}
use Rattle.std.specs.Prelude.{codes, decimal, nat_lt, ◌&&◌, ◌||◌}
use Rattle.std.specs.List.{list_all, AllByRecursion}
use Rattle.std.proofs.lemmas.Bool.{and_parts, lt-ltb, ltb-true}
use Rattle.std.proofs.lemmas.List.{append_cancel_left, append_cancel_right}
use Rattle.mp_io.specs.Devices.{Text}
use Rattle.mp_term.specs.Signature.{Sig}
use Rattle.mp_term.proofs.ListLaws.{bool_same}
use Rattle.mp_pattern.specs.declared.limits.TheConstants.{MAX_VARIABLES}
use Rattle.mp_pattern.specs.CondTree.{Cond}
use Rattle.mp_pattern.specs.Firsts.{is_known}
use Rattle.mp_pattern.specs.NetTokens.{numbered}
use Rattle.mp_pattern.specs.Value.{same_name}
use Rattle.mp_pattern.proofs.NameLaws.{same_name-is}
use Rattle.mp_walk.specs.Walkable.{numbered_names}
use Rattle.mp_print.specs.PrintedCond.{cond_text}
use Rattle.mp_build.specs.AloneCondition.{IsCondOf}
use Rattle.mp_program.specs.TokenPaths.{cond_names}
use Rattle.mp_program.proofs.NameLaws.{known-push, known-numbered}
use Rattle.mp_line.specs.Finds.{IsOnly}
use Rattle.mp_line.specs.LineTexts.{IsNumberedText, IsExactCond, IsTestText}
use Rattle.mp_line.specs.Named.{are_test_names}
use Rattle.mp_line.proofs.NumberLaws.{number-written}

-- ---- the names of numbers

-- a name that is known is that of a number
known-of : (most : ℕ) (x : Text) → is_known same_name (numbered_names most) x ≡ true
    → (n : ℕ) × (n < most) × (x ≡ numbered n)
known-of zero x h = (let wrong : false ≡ true = h in cc)
known-of (suc k) x h =
    go (is_known same_name (numbered_names k) x) refl (sym (known-push same_name (numbered_names k) (numbered k) x) ∙ h)
    (known-of k x)
  where
    go : (v : Bool) → is_known same_name (numbered_names k) x ≡ v
        → (is_known same_name (numbered_names k) x || same_name (numbered k) x) ≡ true
        → (is_known same_name (numbered_names k) x ≡ true → (n : ℕ) × (n < k) × (x ≡ numbered n))
        → (n : ℕ) × (n < suc k) × (x ≡ numbered n)
    go true e h ih = (let m = ih e in (m.0, (let less : m.0 < k = m.1 in omega arith), m.2))
    go false e h ih =
        let here : same_name (numbered k) x ≡ true = sym (ap (λ v. v || same_name (numbered k) x) e) ∙ h in
        (k, omega arith, sym (same_name-is (numbered k) x here))

-- no two numbers have one name
numbered-only : (m n : ℕ) → m < 2 ^ 32 → n < 2 ^ 32 → numbered m ≡ numbered n → m ≡ n
numbered-only m n small short e =
    let same : decimal m ≡ decimal n = append_cancel_left (codes "v") (decimal m) (decimal n) e in
    sym (number-written (decimal m) m (record { short = small; text = refl }))
    ∙ number-written (decimal m) n (record { short = short; text = sym same })

-- the name of a number is known where the number is below the limit
pub known-number : (most n : ℕ) (x : Text) → most ≤ 2 ^ 32 → IsNumberedText x n
    → nat_lt n most ≡ is_known same_name (numbered_names most) x
known-number most n x few h = bool_same (nat_lt n most) (is_known same_name (numbered_names most) x)
    (λ e. ap (is_known same_name (numbered_names most)) (sym h.text) ∙ known-numbered most n (ltb-true n most e))
    (λ e. (
    let m = known-of most x e in
    let less : m.0 < most = m.1 in
    let same = numbered-only n m.0 h.short (omega arith) (h.text ∙ m.2) in
    lt-ltb n most (omega arith)
    ))

-- another name isn't
pub known-none : (most : ℕ) (x : Text) → most ≤ 2 ^ 32 → ((n : ℕ) → IsNumberedText x n → ⊥)
    → false ≡ is_known same_name (numbered_names most) x
known-none most x few none = go (is_known same_name (numbered_names most) x) refl
  where
    go : (v : Bool) → is_known same_name (numbered_names most) x ≡ v
        → false ≡ is_known same_name (numbered_names most) x
    go false e = sym e
    go true e =
        let m = known-of most x e in
        let less : m.0 < most = m.1 in
        absurd (none m.0 (record { short = omega arith; text = sym m.2 }))

-- ---- tests

-- what holds of all names by a test holds of each
all-true : (p : Text → Bool) (xs : List Text) → list_all p xs ≡ true → AllByRecursion (λ x. p x ≡ true) xs
all-true p [] h = tt
all-true p (x ∷ xs) h = (let q = and_parts (p x) (list_all p xs) h in (q.0, all-true p xs q.1))

-- and back
true-all : (p : Text → Bool) (xs : List Text) → AllByRecursion (λ x. p x ≡ true) xs → list_all p xs ≡ true
true-all p [] h = refl
true-all p (x ∷ xs) h = ap (λ v. v && list_all p xs) h.0 ∙ true-all p xs h.1

-- the line of no test
pub no-test : (sig : Sig) (line : Text) → ((middle : Text) → line ≡ codes "test " ++ (middle ++ codes ";") → ⊥)
    → (c : Cond) → IsTestText sig line c → ⊥
no-test sig line none c h = none (cond_text sig c) (sym h.text)

module _ (sig : Sig) (line text : Text) (e : line ≡ codes "test " ++ (text ++ codes ";")) where
  test-cond : (c : Cond) → IsTestText sig line c → IsExactCond sig text c
  test-cond c h =
      let same : cond_text sig c ≡ text = append_cancel_right (cond_text sig c) text (codes ";")
      (append_cancel_left (codes "test ") (cond_text sig c ++ codes ";") (text ++ codes ";") (h.text ∙ e)) in
      record { read = subst (λ t. IsCondOf sig None t c) same h.right.right; spelled = same }

  -- no condition is read of the text
  pub test-unread : ((c : Cond) → IsExactCond sig text c → ⊥) → (c : Cond) → IsTestText sig line c → ⊥
  test-unread none c h = none c (test-cond c h)

  module _ (c : Cond) (exact : IsOnly (IsExactCond sig text) c) where
    -- the condition names other variables
    pub test-other : false ≡ are_test_names (cond_names c) → (d : Cond) → IsTestText sig line d → ⊥
    test-other other d h =
        let same : d ≡ c = exact.only d (test-cond d h) in
        let named = true-all (is_known same_name (numbered_names MAX_VARIABLES)) (cond_names d) h.right.names in
        let wrong : true ≡ false = sym named ∙ (ap (λ x. are_test_names (cond_names x)) same ∙ sym other) in cc

    -- the condition is that of the test
    pub test-only : true ≡ are_test_names (cond_names c) → IsOnly (IsTestText sig line) c
    test-only named = record {
      is = record {
        right = record {
          right = subst (λ t. IsCondOf sig None t c) (sym exact.is.spelled) exact.is.read;
          names = all-true (is_known same_name (numbered_names MAX_VARIABLES)) (cond_names c) (sym named);
        };
        text = ap (λ t. codes "test " ++ (t ++ codes ";")) exact.is.spelled ∙ sym e;
      };
      only = λ d h. exact.only d (test-cond d h);
    }
