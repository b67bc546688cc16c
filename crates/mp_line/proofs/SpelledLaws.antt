-- A rule line of format 1 is read of its text in one way: its condition begins behind the last ` if ` of the letters,
-- digits and blanks with which the line begins.
use Rattle.std.proofs.Common.{◌≡◌, ◌≢◌, ◌≤◌, ◌+◌, ◌++◌, ℕ, suc, false, [], ◌∷◌, Option, None}
use Rattle.std.proofs.Common.{length, drop}
use Rattle.std.proofs.Common.{inl, inr, refl, sym, ap, subst, ◌∙◌, arith, append_assoc}
use Rattle.std.specs.Prelude.{codes, ◌⊎◌, ◌&&◌}
use Rattle.std.specs.List.{list_all}
use Rattle.std.proofs.lemmas.List.{append-nil, length-append}
use Rattle.std.proofs.lemmas.List.Folds.{list_all-append}
use Rattle.mp_io.specs.Devices.{Text}
use Rattle.mp_term.specs.Signature.{Sig}
use Rattle.mp_pattern.specs.CondTree.{Cond}
use Rattle.mp_print.specs.PrintedCond.{cond_text}
use Rattle.mp_build.specs.AloneCondition.{IsCondOf}
use Rattle.mp_program.specs.declared.format.Format.TheVariants.{One}
use Rattle.mp_program.specs.Form.{RuleTest, untested, tested, spelled, RuleLine}
use Rattle.mp_program.specs.FormText.{rule_test_text}
use Rattle.mp_program.specs.RightForm.{IsRightCond, IsRightRuleTest}
use Rattle.mp_line.specs.Finds.{IsOnly, Finds}
use Rattle.mp_line.specs.LineTexts.{IsExactCond, IsHeadText, IsRuleBody}
use Rattle.mp_line.specs.Words.{is_letter_or_blank, IsFrontOfWords, has_if, IsSplitAtIf}
use Rattle.mp_line.proofs.FindsLaws.{Finds-like}
use Rattle.mp_line.proofs.IfLaws.{no-if, last_if-only, front_of_words-only}
use Rattle.mp_line.proofs.OpeningLaws.{IsOpening, Opens, cond-opening}
use Rattle.mp_line.proofs.RuleLaws.{head_text, head-letters, body-of, body-text, body-head}

-- what stands behind ` if `
pub drop-behind : (front x : Text) → drop (length front + 4) (front ++ (codes " if " ++ x)) ≡ x
drop-behind [] x = refl
drop-behind (c ∷ front) x =
    let next : suc (length front) + 4 ≡ suc (length front + 4) = omega arith in
    ap (λ n. drop n (c ∷ (front ++ (codes " if " ++ x)))) next ∙ drop-behind front x

-- there is room for ` if ` behind the front
pub room-behind : (t front x : Text) → t ≡ front ++ (codes " if " ++ x) → length front + 4 ≤ length t
room-behind t front x e =
    let four : length (codes " if " ++ x) ≡ suc (suc (suc (suc (length x)))) = refl in
    omega (arith, ap length e, length-append front (codes " if " ++ x), four)

module _ (sig : Sig) (opens : (c : Cond) → IsRightCond sig c → Opens c) (most : ℕ) (text : Text) where
  -- the text is that of the rule line in format 1
  abbrev IsBody : RuleLine → Type 0
  IsBody = IsRuleBody sig One most text

  -- a line that spells its condition
  record IsSpelled (k : RuleLine) (b : IsBody k) : Type 0 where
    pub cond : Cond
    pub test : b.whole.test ≡ spelled cond
    pub right : IsRightCond sig cond
    pub opening : IsOpening (cond_text sig cond)
    pub text_is : text ≡ head_text b.whole ++ (codes " if " ++ cond_text sig cond)

  -- its letters, digits and blanks, and what stands behind them
  spelled-front : (k : RuleLine) (b : IsBody k) (s : IsSpelled k b)
      → IsFrontOfWords text (head_text b.whole ++ (codes " if " ++ s.opening.words)) (s.opening.byte ∷ s.opening.rest)
  spelled-front k b s = record {
    parts = s.text_is ∙ (ap (λ x. head_text b.whole ++ (codes " if " ++ x)) s.opening.parts
        ∙ sym (append_assoc (head_text b.whole) (codes " if " ++ s.opening.words) (s.opening.byte ∷ s.opening.rest)));
    all = list_all-append is_letter_or_blank (head_text b.whole) (codes " if " ++ s.opening.words)
        ∙ (ap (λ v. v && list_all is_letter_or_blank s.opening.words) (head-letters b.whole b.right.name b.right.vars)
        ∙ s.opening.letters);
    ends = inr (s.opening.byte, s.opening.rest, refl, s.opening.other);
  }

  -- a line of names alone
  names-front : (k : RuleLine) (b : IsBody k) → b.whole.test ≡ untested → IsFrontOfWords text text []
  names-front k b is =
      let same : head_text b.whole ≡ text = sym (append-nil (head_text b.whole))
      ∙ (ap (λ t. head_text b.whole ++ rule_test_text sig t) (sym is) ∙ body-text sig One most text k b) in
      record {
        parts = sym (append-nil text);
        all = ap (list_all is_letter_or_blank) (sym same) ∙ head-letters b.whole b.right.name b.right.vars;
        ends = inl refl;
      }

  -- each line is one or the other
  sort-of : (k : RuleLine) (b : IsBody k) → (b.whole.test ≡ untested) ⊎ IsSpelled k b
  sort-of k b = go b.whole.test refl b.right.test
    where
      go : (test : RuleTest) → b.whole.test ≡ test → IsRightRuleTest sig One test
          → (b.whole.test ≡ untested) ⊎ IsSpelled k b
      go untested is right = inl is
      go (tested n) is right = absurd (let wrong = right.0 in cc)
      go (spelled c) is right = inr (record {
        cond = c;
        test = is;
        right = right.1;
        opening = cond-opening sig c (opens c right.1);
        text_is = sym (ap (λ t. head_text b.whole ++ rule_test_text sig t) (sym is) ∙ body-text sig One most text k b);
      })

  module _ (words rest : Text) (front : IsFrontOfWords text words rest) where
    -- where the text has letters, digits and blanks alone, it is that of names
    pub names-through : {T : Type 0} (view : T → RuleLine) (r : Option T) → rest ≡ []
        → Finds view (IsHeadText most text untested) r → Finds view IsBody r
    names-through view r none = Finds-like view (IsHeadText most text untested) IsBody r
        (λ k t. body-of sig One most text text untested k tt (append-nil text) t) (λ k b. from k b (sort-of k b))
      where
        from : (k : RuleLine) (b : IsBody k) → (b.whole.test ≡ untested) ⊎ IsSpelled k b
            → IsHeadText most text untested k
        from k b (inl is) =
            let same : head_text b.whole ≡ text = sym (append-nil (head_text b.whole))
            ∙ (ap (λ t. head_text b.whole ++ rule_test_text sig t) (sym is) ∙ body-text sig One most text k b) in
            subst (λ x. IsHeadText most x untested k) same
            (subst (λ x. IsHeadText most (head_text b.whole) x k) is (body-head sig One most text k b))
        from k b (inr s) =
            let same = front_of_words-only text words rest _ _ front (spelled-front k b s) in
            absurd (let e = same.1 in cc)

    module _ (some : rest ≢ []) where
      spelling : (k : RuleLine) (b : IsBody k) → IsSpelled k b
      spelling k b = go (sort-of k b)
        where
          go : (b.whole.test ≡ untested) ⊎ IsSpelled k b → IsSpelled k b
          go (inl is) = absurd (some (front_of_words-only text words rest text [] front (names-front k b is)).1)
          go (inr s) = s

      word-parts : (k : RuleLine) (b : IsBody k) → (words ≡ head_text b.whole ++ (codes " if " ++
          (spelling k b).opening.words))
          × (rest ≡ (spelling k b).opening.byte ∷ (spelling k b).opening.rest)
      word-parts k b = front_of_words-only text words rest _ _ front (spelled-front k b (spelling k b))

      -- without ` if ` there is no line
      pub no-if-rule : has_if words ≡ false → (k : RuleLine) → IsBody k → ⊥
      no-if-rule none k b = no-if words (head_text b.whole) (spelling k b).opening.words none (word-parts k b).0

      module _ (before begin : Text) (split : IsSplitAtIf words before begin) where
        -- the text of the line
        pub text-parts : text ≡ before ++ (codes " if " ++ (begin ++ rest))
        text-parts = front.parts ∙ (ap (λ x. x ++ rest) split.parts
            ∙ append_assoc before (codes " if " ++ begin) rest)

        split-parts : (k : RuleLine) (b : IsBody k) → (before ≡ head_text b.whole) × (begin
            ≡ (spelling k b).opening.words)
        split-parts k b = last_if-only words before begin (head_text b.whole) (spelling k b).opening.words split
            (record { parts = (word-parts k b).0; last = (spelling k b).opening.no_if })

        exact-cond : (k : RuleLine) (b : IsBody k) → IsExactCond sig (begin ++ rest) (spelling k b).cond
        exact-cond k b =
            let s = spelling k b in
            let same : cond_text sig s.cond ≡ begin ++ rest = s.opening.parts
            ∙ (ap (λ x. x ++ s.opening.byte ∷ s.opening.rest) (sym (split-parts k b).1)
            ∙ ap (λ x. begin ++ x) (sym (word-parts k b).1)) in
            record { read = subst (λ x. IsCondOf sig None x s.cond) same s.right; spelled = same }

        -- nor without a condition
        pub no-cond : ((c : Cond) → IsExactCond sig (begin ++ rest) c → ⊥) → (k : RuleLine) → IsBody k → ⊥
        no-cond none k b = none (spelling k b).cond (exact-cond k b)

        -- a rule line with a condition is found by its names
        pub spelled-through : {T : Type 0} (view : T → RuleLine) (r : Option T) (c : Cond)
            → IsOnly (IsExactCond sig (begin ++ rest)) c → Finds view (IsHeadText most before (spelled c)) r
            → Finds view IsBody r
        spelled-through view r c h = Finds-like view (IsHeadText most before (spelled c)) IsBody r
            (λ k t. body-of sig One most before text (spelled c) k
            (refl, subst (λ x. IsCondOf sig None x c) (sym h.is.spelled) h.is.read)
            (ap (λ x. before ++ (codes " if " ++ x)) h.is.spelled ∙ sym text-parts) t) from
          where
            from : (k : RuleLine) → IsBody k → IsHeadText most before (spelled c) k
            from k b =
                let s = spelling k b in
                let same : s.cond ≡ c = h.only s.cond (exact-cond k b) in
                subst (λ x. IsHeadText most x (spelled c) k) (sym (split-parts k b).0)
                (subst (λ x. IsHeadText most (head_text b.whole) x k) (s.test ∙ ap spelled same)
                (body-head sig One most text k b))
