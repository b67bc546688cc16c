-- A rule line is read of its text in one way: its names, and its test by its number.
use Rattle.std.proofs.Common.{◌≡◌, ◌<◌, ◌^◌, ◌++◌, ℕ, true, false, List, [], ◌∷◌, Option, refl, sym}
use Rattle.std.proofs.Common.{ap, subst}
use Rattle.std.proofs.Common.{◌∙◌, arith, append_assoc}
use Rattle.std.specs.Prelude.{codes, decimal, take, ◌&&◌}
use Rattle.std.specs.List.{list_all, AllByRecursion}
use Rattle.std.proofs.lemmas.Bool.{and_parts}
use Rattle.std.proofs.lemmas.List.{append-nil, append_cancel_left, append_cancel_right, map-id}
use Rattle.std.proofs.lemmas.List.Folds.{list_all-append}
use Rattle.mp_io.specs.Devices.{Text}
use Rattle.mp_term.specs.Signature.{Sig}
use Rattle.mp_print.specs.Printing.{preceded}
use Rattle.mp_program.specs.declared.format.Format.{Format}
use Rattle.mp_program.specs.declared.format.Format.TheVariants.{Two}
use Rattle.mp_program.specs.Form.{RuleTest, untested, tested, spelled, RuleLine}
use Rattle.mp_program.specs.FormText.{rule_test_text}
use Rattle.mp_program.specs.RightForm.{IsRightRuleTest}
use Rattle.mp_line.specs.Finds.{IsOnly, Finds}
use Rattle.mp_line.specs.LineTexts.{IsNumberText, IsName, IsNameText, AreNamesText, kept_line, IsHeadText}
use Rattle.mp_line.specs.LineTexts.{IsBeforeTest, IsRuleBody, IsRuleText}
use Rattle.mp_line.specs.Words.{IsWordEnd, IsFirstWord, is_letter_or_blank}
use Rattle.mp_line.proofs.EndLaws.{Ends}
use Rattle.mp_line.proofs.FindsLaws.{Finds-like}
use Rattle.mp_line.proofs.ItemLaws.{first_word-only, items-end}
use Rattle.mp_line.proofs.NameLaws.{bare-name, letters-of}
use Rattle.mp_line.proofs.NumberLaws.{without-decimal}

-- ---- the names of a rule line

-- the names are read of their text
pub head-found : (most : ℕ) (text word behind : Text) (test : RuleTest) (name : Text) (vars : List Text)
    → IsFirstWord text word behind → IsOnly (IsNameText word) name → IsOnly (AreNamesText most behind) vars
    → IsOnly (IsHeadText most text test) (record { name = name; vars = vars; test = test })
head-found most text word behind test name vars first h g = record {
  is = record { word = word; behind = behind; first = first; name = h.is; vars = g.is; same = refl };
  only = λ k t. (
      let same = first_word-only text t.word t.behind word behind t.first first in
      let a = h.only k.name (subst (λ w. IsNameText w k.name) same.0 t.name) in
      let b = g.only k.vars (subst (λ w. AreNamesText most w k.vars) same.1 t.vars) in
      ap (λ x. record { name = x; vars = k.vars; test = k.test }) a
      ∙ (ap (λ x. record { name = name; vars = x; test = k.test }) b
      ∙ ap (λ x. record { name = name; vars = vars; test = x }) t.same)
      );
}

-- the first word is no name, or the others aren't
pub no-name : (most : ℕ) (text word behind : Text) (test : RuleTest) → IsFirstWord text word behind
    → ((name : Text) → IsNameText word name → ⊥) → (k : RuleLine) → IsHeadText most text test k → ⊥
no-name most text word behind test first none k t =
    let same = first_word-only text t.word t.behind word behind t.first first in
    none k.name (subst (λ w. IsNameText w k.name) same.0 t.name)

-- without names of variables there is no rule line
pub no-names : (most : ℕ) (text word behind : Text) (test : RuleTest) → IsFirstWord text word behind
    → ((vars : List Text) → AreNamesText most behind vars → ⊥) → (k : RuleLine) → IsHeadText most text test k → ⊥
no-names most text word behind test first none k t =
    let same = first_word-only text t.word t.behind word behind t.first first in
    none k.vars (subst (λ w. AreNamesText most w k.vars) same.1 t.vars)

-- the text of a rule line's names
abbrev pub head_text : RuleLine → Text
head_text r = r.name ++ preceded (codes " ") r.vars

-- what the text says of the whole rule line, and back
pub head-of : (most : ℕ) (r : RuleLine) → IsName r.name → AllByRecursion IsName r.vars
    → IsHeadText most (head_text r) r.test (kept_line most r)
head-of most r name vars = record {
  word = r.name;
  behind = preceded (codes " ") r.vars;
  first = record {
    parts = refl;
    bare = bare-name r.name name;
    ends = subst (λ xs. IsWordEnd (preceded (codes " ") xs)) (map-id r.vars) (items-end IsName
        (λ x. x) bare-name r.vars);
  };
  name = record { right = name; text = refl };
  vars = record {
    all = r.vars;
    names = record { right = vars; spelled = ap (preceded (codes " ")) (map-id r.vars) };
    front = refl;
  };
  same = refl;
}

-- the name and the names of the variables are the whole text
text-of : (most : ℕ) (text : Text) (test : RuleTest) (k : RuleLine) (t : IsHeadText most text test k)
    → k.name ++ preceded (codes " ") t.vars.all ≡ text
text-of most text test k t =
    ap (λ x. x ++ preceded (codes " ") t.vars.all) t.name.text
    ∙ (ap (λ x. t.word ++ x) (ap (preceded (codes " ")) (sym (map-id t.vars.all)) ∙ t.vars.names.spelled)
    ∙ sym t.first.parts)

-- what is kept of a rule line is its front
kept-of : (most : ℕ) (text : Text) (test : RuleTest) (k : RuleLine) (t : IsHeadText most text test k)
    → k ≡ record { name = k.name; vars = take most t.vars.all; test = test }
kept-of most text test k t =
    ap (λ x. record { name = k.name; vars = x; test = k.test }) t.vars.front
    ∙ ap (λ x. record { name = k.name; vars = take most t.vars.all; test = x }) t.same

module _ (sig : Sig) (format : Format) (most : ℕ) where
  -- a rule line of the names and the test
  pub body-of : (front text : Text) (test : RuleTest) (k : RuleLine) → IsRightRuleTest sig format test
      → front ++ rule_test_text sig test ≡ text → IsHeadText most front test k → IsRuleBody sig format most text k
  body-of front text test k right e t = record {
    whole = record { name = k.name; vars = t.vars.all; test = test };
    right = record { name = t.name.right; vars = t.vars.names.right; test = right };
    spelled = sym (append_assoc k.name (preceded (codes " ") t.vars.all) (rule_test_text sig test))
        ∙ (ap (λ x. x ++ rule_test_text sig test) (text-of most front test k t) ∙ e);
    front = kept-of most front test k t;
  }

  -- the text of a rule line is that of its names and that of its test
  pub body-text : (text : Text) (k : RuleLine) (b : IsRuleBody sig format most text k)
      → head_text b.whole ++ rule_test_text sig b.whole.test ≡ text
  body-text text k b =
      append_assoc b.whole.name (preceded (codes " ") b.whole.vars) (rule_test_text sig b.whole.test) ∙ b.spelled

  -- what stands before the test of a rule line are its names
  pub body-head : (text : Text) (k : RuleLine) (b : IsRuleBody sig format most text k)
      → IsHeadText most (head_text b.whole) b.whole.test k
  body-head text k b = subst (IsHeadText most (head_text b.whole) b.whole.test) (sym b.front)
      (head-of most b.whole b.right.name b.right.vars)

-- the names of a rule line are letters, digits and blanks
pub head-letters : (r : RuleLine) → IsName r.name → AllByRecursion IsName r.vars
    → list_all is_letter_or_blank (head_text r) ≡ true
head-letters r name vars =
    list_all-append is_letter_or_blank r.name (preceded (codes " ") r.vars)
    ∙ (ap (λ v. v && list_all is_letter_or_blank (preceded (codes " ") r.vars)) (letters-of r.name name)
    ∙ go r.vars vars)
  where
    go : (xs : List Text) → AllByRecursion IsName xs → list_all is_letter_or_blank (preceded (codes " ") xs) ≡ true
    go [] h = refl
    go (x ∷ xs) h = list_all-append is_letter_or_blank x (preceded (codes " ") xs)
        ∙ (ap (λ v. v && list_all is_letter_or_blank (preceded (codes " ") xs)) (letters-of x h.0) ∙ go xs h.1)

-- ---- tests by their numbers

-- the number of a test stands behind the last bracket
pub test-ends : (text : Text) → Ends (codes " if ") 91 text IsNumberText (IsBeforeTest text)
test-ends text = record {
  made = λ front word n split h. record {
    short = h.short;
    spelled = ap (λ x. front ++ (codes " if " ++ 91 ∷ x)) h.text ∙ sym split.parts;
  };
  parts = λ front n h. (
    decimal n,
    record {
      parts = sym h.spelled;
      last = without-decimal 91 n refl (let short : n < 2 ^ 32 = h.short in omega arith);
    },
    record { short = h.short; text = refl },
  );
}

module _ (sig : Sig) (most : ℕ) (text : Text) where
  -- the text is that of the rule line in format 2
  abbrev IsBody : RuleLine → Type 0
  IsBody = IsRuleBody sig Two most text

  -- a tested line ends with a bracket
  tested-text : (front : Text) (n : ℕ) → front ++ rule_test_text sig (tested n)
      ≡ (front ++ (codes " if [" ++ decimal n)) ++ codes "]"
  tested-text front n = sym (append_assoc front (codes " if [" ++ decimal n) (codes "]"))

  -- where the text doesn't end so, it is that of names alone
  pub untested-through : {T : Type 0} (view : T → RuleLine) (r : Option T)
      → ((front : Text) → text ≡ front ++ codes "]" → ⊥) → Finds view (IsHeadText most text untested) r
      → Finds view IsBody r
  untested-through view r none = Finds-like view (IsHeadText most text untested) IsBody r
      (λ k t. body-of sig Two most text text untested k tt (append-nil text) t) from
    where
      go : (k : RuleLine) (test : RuleTest) (head : Text) → IsRightRuleTest sig Two test
          → head ++ rule_test_text sig test ≡ text → IsHeadText most head test k → IsHeadText most text untested k
      go k untested head right e t = subst (λ x. IsHeadText most x untested k) (sym (append-nil head) ∙ e) t
      go k (tested n) head right e t =
          absurd (none (head ++ (codes " if [" ++ decimal n)) (sym e ∙ tested-text head n))
      go k (spelled c) head right e t = absurd (let wrong = right.0 in cc)

      from : (k : RuleLine) → IsBody k → IsHeadText most text untested k
      from k b = go k b.whole.test (head_text b.whole) b.right.test (body-text sig Two most text k b)
          (body-head sig Two most text k b)

  module _ (before : Text) (ends : text ≡ before ++ codes "]") where
    -- it isn't that of names alone
    not-names : (r : RuleLine) → IsName r.name → AllByRecursion IsName r.vars → head_text r ≡ text → ⊥
    not-names r name vars e =
        let letters = sym (list_all-append is_letter_or_blank before (codes "]"))
        ∙ (ap (list_all is_letter_or_blank) (sym ends ∙ sym e) ∙ head-letters r name vars) in
        let wrong : false ≡ true = (and_parts (list_all is_letter_or_blank before) false letters).1 in cc

    body-number : (k : RuleLine) (b : IsBody k) → (n : ℕ) × (b.whole.test ≡ tested n)
        × IsBeforeTest before (head_text b.whole) n
    body-number k b = go b.whole.test refl b.right.test
      where
        go : (test : RuleTest) → b.whole.test ≡ test → IsRightRuleTest sig Two test
            → (n : ℕ) × (b.whole.test ≡ tested n) × IsBeforeTest before (head_text b.whole) n
        go untested is right = absurd (not-names b.whole b.right.name b.right.vars (
            sym (append-nil (head_text b.whole))
            ∙ (ap (λ t. head_text b.whole ++ rule_test_text sig t) (sym is) ∙ body-text sig Two most text k b)
            ))
        go (tested n) is right = (
          n,
          is,
          record {
            short = right.1;
            spelled = append_cancel_right (head_text b.whole ++ (codes " if [" ++ decimal n)) before (codes "]") (
                sym (tested-text (head_text b.whole) n)
                ∙ (ap (λ t. head_text b.whole ++ rule_test_text sig t) (sym is) ∙ (body-text sig Two most text k b
                ∙ ends))
                );
          },
        )
        go (spelled c) is right = absurd (let wrong = right.0 in cc)

    -- where the text ends with a bracket there is no rule line without the number of a test
    pub no-number : ((p : Text × ℕ) → IsBeforeTest before p.0 p.1 → ⊥) → (k : RuleLine) → IsBody k → ⊥
    no-number none k b = (let m = body-number k b in none (head_text b.whole, m.0) m.2)

    -- it is found by its names
    pub tested-through : {T : Type 0} (view : T → RuleLine) (r : Option T) (front : Text) (n : ℕ)
        → IsOnly (λ (p : Text × ℕ). IsBeforeTest before p.0 p.1) (front, n)
        → Finds view (IsHeadText most front (tested n)) r → Finds view IsBody r
    tested-through view r front n h = Finds-like view (IsHeadText most front (tested n)) IsBody r
        (λ k t. body-of sig Two most front text (tested n) k (refl, h.is.short)
        (tested-text front n ∙ (ap (λ x. x ++ codes "]") h.is.spelled ∙ sym ends)) t) from
      where
        from : (k : RuleLine) → IsBody k → IsHeadText most front (tested n) k
        from k b =
            let m = body-number k b in
            let same = h.only (head_text b.whole, m.0) m.2 in
            let test : b.whole.test ≡ tested n = m.1 ∙ ap (λ (p : Text × ℕ). tested p.1) same in
            subst (λ x. IsHeadText most x (tested n) k) (ap (λ (p : Text × ℕ). p.0) same)
            (subst (λ x. IsHeadText most (head_text b.whole) x k) test (body-head sig Two most text k b))

-- ---- whole lines

-- the line is `rule `, the text and a semicolon
pub rule-through : {T : Type 0} (sig : Sig) (format : Format) (most : ℕ) (line text : Text) (view : T → RuleLine)
    (r : Option T) → line ≡ codes "rule " ++ (text ++ codes ";") → Finds view (IsRuleBody sig format most text) r
    → Finds view (IsRuleText sig format most line) r
rule-through sig format most line text view r e =
    Finds-like view (IsRuleBody sig format most text) (IsRuleText sig format most line) r
    (λ k b. record {
      whole = b.whole;
      right = b.right;
      text = ap (λ x. codes "rule " ++ x) (line-text sig b.whole ∙ ap (λ x. x ++ codes ";") b.spelled) ∙ sym e;
      front = b.front;
    })
    (λ k t. record {
      whole = t.whole;
      right = t.right;
      spelled = append_cancel_right (body sig t.whole) text (codes ";")
          (sym (line-text sig t.whole) ∙ append_cancel_left (codes "rule ") _ _ (t.text ∙ e));
      front = t.front;
    })
  where
    body : Sig → RuleLine → Text
    body sig w = w.name ++ (preceded (codes " ") w.vars ++ rule_test_text sig w.test)

    line-text : (sig : Sig) (w : RuleLine)
        → w.name ++ (preceded (codes " ") w.vars ++ (rule_test_text sig w.test ++ codes ";"))
        ≡ (w.name ++ (preceded (codes " ") w.vars ++ rule_test_text sig w.test)) ++ codes ";"
    line-text sig w =
        ap (λ x. w.name ++ x) (sym (append_assoc (preceded (codes " ") w.vars) (rule_test_text sig w.test) (codes ";")))
        ∙ sym (append_assoc w.name (preceded (codes " ") w.vars ++ rule_test_text sig w.test) (codes ";"))

-- a line without the word and the semicolon is no rule line
pub no-rule : (sig : Sig) (format : Format) (most : ℕ) (line : Text)
    → ((middle : Text) → line ≡ codes "rule " ++ (middle ++ codes ";") → ⊥) → (k : RuleLine)
    → IsRuleText sig format most line k → ⊥
no-rule sig format most line none k t =
    none (t.whole.name ++ (preceded (codes " ") t.whole.vars ++ rule_test_text sig t.whole.test)) (sym t.text
    ∙ ap (λ x. codes "rule " ++ x)
    (ap (λ x. t.whole.name ++ x)
    (sym (append_assoc (preceded (codes " ") t.whole.vars) (rule_test_text sig t.whole.test) (codes ";")))
    ∙ sym (append_assoc t.whole.name (preceded (codes " ") t.whole.vars ++ rule_test_text sig t.whole.test)
    (codes ";"))))
