-- A text is the text of one line at most.
use Rattle.std.proofs.Common.{◌≡◌, ◌<◌, ◌≤◌, ◌^◌, ℕ, Bool, true, false, List, [], ◌∷◌, ◌++◌, map, Option, Some}
use Rattle.std.proofs.Common.{None, refl, ap, sym, ◌∙◌, subst, arith, append_assoc, append-nil, inl, inr}
use Rattle.std.specs.Prelude.{◌&&◌, codes, decimal, position, bytes_eq, not, take}
use Rattle.std.specs.List.{AllByRecursion, list_all}
use Rattle.std.specs.Char.{is_ascii_digit}
use Rattle.std.proofs.lemmas.Bool.{and_parts}
use Rattle.std.proofs.lemmas.Iterator.Adapters.{option_map_id}
use Rattle.std.proofs.lemmas.List.{same_from_push, append_cancel_left, append_cancel_right, map-id}
use Rattle.std.proofs.lemmas.List.Folds.{list_all-append}
use Rattle.mp_io.specs.Devices.{Text}
use Rattle.mp_term.specs.Signature.{Sig, IsSignature, has_name, kind_names}
use Rattle.mp_term.specs.Tree.{Tree, symbol}
use Rattle.mp_pattern.specs.CondTree.{Cond}
use Rattle.mp_pattern.specs.NetTokens.{NetToken, sym_token, enter_token, leave_token, wild_token, comm_token}
use Rattle.mp_pattern.specs.PatternTree.{dot, kind, plus, star, optional, counted, Pattern}
use Rattle.mp_walk.specs.Instrs.{Instr}
use Rattle.mp_print.specs.Printing.{text_if, preceded, kind_name_text, term_text}
use Rattle.mp_print.specs.PrintedPattern.{pattern_text}
use Rattle.mp_print.specs.PrintedCond.{op_name_text, cond_text}
use Rattle.mp_syntax.proofs.Whole.{condition_is_read, expr_is_read, read-unique}
use Rattle.mp_build.specs.Alone.{IsTermOf, IsPatternOf, normal_term_of}
use Rattle.mp_build.specs.AloneCondition.{IsCondOf}
use Rattle.mp_build.specs.Build.{pattern_of}
use Rattle.mp_build.specs.Conditions.{cond_of}
use Rattle.mp_build.proofs.Faultless.{some-behind}
use Rattle.mp_program.specs.declared.format.Format.{Format}
use Rattle.mp_program.specs.declared.format.Format.TheVariants.{One, Two}
use Rattle.mp_program.specs.Form.{RuleTest, untested, tested, spelled, RuleLine}
use Rattle.mp_program.specs.FormText.{variable_text, target_text, action_text, token_text, rule_test_text}
use Rattle.mp_program.specs.RightForm.{IsShort, IsShortTarget, IsRightToken}
use Rattle.mp_program.specs.RightForm.{IsRightRuleTest, IsRightRule}
use Rattle.mp_line.specs.Finds.{IsOnly, Finds}
use Rattle.mp_line.specs.LineTexts.{IsNumberText, IsVariableText, IsTargetText, AreItemsText, AreNumbersText}
use Rattle.mp_line.specs.LineTexts.{IsName, IsExactTerm, IsExactCond, IsHeldOp, IsHeldKind}
use Rattle.mp_line.specs.LineTexts.{IsTokenText, IsCountText, IsOverText, IsActionText, IsInstrText}
use Rattle.mp_line.specs.LineTexts.{IsTestText, kept_line, IsHeadText, IsRuleBody, IsRuleText}
use Rattle.mp_line.specs.Lines.{Line, op_line, kind_line, test_line, rule_line, code_line, begin_line, instr_line}
use Rattle.mp_line.specs.Lines.{stop_line, IsLineText, IsCodeLine}
use Rattle.mp_line.specs.Words.{IsWithout, is_digit_or_blank, IsBeforeNumbers}
use Rattle.mp_line.specs.Words.{IsWordEnd, IsFrontOfWords, is_letter_or_blank}
use Rattle.mp_line.proofs.ActionLaws.{action-parts, words-differ}
use Rattle.mp_line.proofs.CondOpens.{right-opens}
use Rattle.mp_line.proofs.ExactLaws.{exact-only}
use Rattle.mp_line.proofs.HeldLaws.{Finds-op, Finds-kind}
use Rattle.mp_line.proofs.EndLaws.{behind-split, end-found}
use Rattle.mp_line.proofs.InstrLaws.{bare-target, over-ends, instr-found, body-through}
use Rattle.mp_line.proofs.ItemLaws.{items-end, first_word-only}
use Rattle.mp_line.proofs.LineLaws.{begin-found, stop-found, op-found, kind-line-found, test-found, rule-found}
use Rattle.mp_line.proofs.LineLaws.{code-found}
use Rattle.mp_line.proofs.NameLaws.{bare-name}
use Rattle.mp_line.proofs.NumberLaws.{decimal-text, without-decimal, bare-decimal, number-written, dash-only}
use Rattle.mp_line.proofs.OpeningLaws.{cond-opening}
use Rattle.mp_line.proofs.RuleLaws.{head-found, head_text, head-letters, test-ends, untested-through}
use Rattle.mp_line.proofs.RuleLaws.{tested-through, rule-through}
use Rattle.mp_line.proofs.SpelledLaws.{names-through, spelled-through}
use Rattle.mp_line.proofs.TokenLaws.{bare-variable, symbol-found, default-found, symbol-through, comm-through}
use Rattle.mp_line.proofs.TokenLaws.{enter-through, leave-through, dot-through, plus-through, star-through, kind-found}
use Rattle.mp_line.proofs.TokenLaws.{optional-found, counted-found, open-count, fixed-count}
use Rattle.mp_line.proofs.WordLaws.{apart}

-- ---- numbers and words

-- what is found is the only value, where there is one
known-only : {A : Type 0} (P : A → Type 0) (o : Option A) → Finds (λ a. a) P o → (a : A) → P a → IsOnly P a
known-only P None h a p = absurd (h a p)
known-only P (Some b) h a p = record { is = p; only = λ c q. h.only c q ∙ sym (h.only a p) }

same-number : (m n : ℕ) → IsShort m → IsShort n → decimal m ≡ decimal n → m ≡ n
same-number m n h k e = sym (number-written (decimal n) m (record { short = h; text = e }))
    ∙ number-written (decimal n) n (record { short = k; text = refl })

number-only : (n : ℕ) → IsShort n → IsOnly (IsNumberText (decimal n)) n
number-only n h = record {
  is = record { short = h; text = refl };
  only = λ m k. same-number m n k.short h k.text;
}

variable-only : (x : Option ℕ) → IsShortTarget x → IsOnly (IsVariableText (variable_text x)) x
variable-only x h = record { is = record { short = h; text = refl }; only = λ y k. go y x k.short h k.text }
  where
    go : (y x : Option ℕ) → IsShortTarget y → IsShortTarget x → variable_text y ≡ variable_text x → y ≡ x
    go None None h k e = refl
    go None (Some n) h k e = absurd (apart 1 _ _ refl e)
    go (Some m) None h k e = absurd (apart 1 _ _ refl e)
    go (Some m) (Some n) h k e =
        ap Some (same-number m n h k (append_cancel_left (codes "v") (decimal m) (decimal n) e))

target-only : (t : Option ℕ) → IsShortTarget t → IsOnly (IsTargetText (target_text t)) t
target-only None h = dash-only (codes "-") refl
target-only (Some n) h = record { is = record { short = h; text = refl }; only = λ u k. go u k }
  where
    go : (u : Option ℕ) → IsTargetText (decimal n) u → u ≡ Some n
    go None k =
        let wrong : Some n ≡ None = (dash-only (decimal n) (sym k.text)).only (Some n)
        (record { short = h; text = refl }) in cc
    go (Some m) k = ap Some (same-number m n k.short h k.text)

-- ---- items

module _ {A : Type 0} (IsItem : A → Type 0) (printed : A → Text) (bare : (a : A) → IsItem a → IsWithout 32 (printed a))
    (one : (a b : A) → IsItem a → IsItem b → printed a ≡ printed b → a ≡ b) where
  items-one : (xs ys : List A) → AllByRecursion IsItem xs → AllByRecursion IsItem ys
      → preceded (codes " ") (map printed xs) ≡ preceded (codes " ") (map printed ys) → xs ≡ ys
  items-one [] [] h k e = refl
  items-one [] (y ∷ ys) h k e = cc
  items-one (x ∷ xs) [] h k e = cc
  items-one (x ∷ xs) (y ∷ ys) h k e =
      let behind = append_cancel_left (codes " ") (printed x ++ preceded (codes " ") (map printed xs))
      (printed y ++ preceded (codes " ") (map printed ys)) e in
      let m = first_word-only (printed x ++ preceded (codes " ") (map printed xs)) (printed x)
      (preceded (codes " ") (map printed xs)) (printed y) (preceded (codes " ") (map printed ys))
      (record { parts = refl; bare = bare x h.0; ends = items-end IsItem printed bare xs })
      (record { parts = behind; bare = bare y k.0; ends = items-end IsItem printed bare ys }) in
      let first = one x y h.0 k.0 m.0 in
      let rest = items-one xs ys h.1 k.1 m.1 in
      λ i. first i ∷ rest i

pub numbers-one : (xs ys : List ℕ) (text : Text) → AreNumbersText text xs → AreNumbersText text ys → xs ≡ ys
numbers-one xs ys text h k = items-one IsShort decimal bare-decimal (λ m n a b e. same-number m n a b e) xs ys h.right
    k.right (h.spelled ∙ sym k.spelled)

names-one : (xs ys : List Text) (text : Text) → AreItemsText IsName (λ x. x) text xs
    → AreItemsText IsName (λ x. x) text ys → xs ≡ ys
names-one xs ys text h k = items-one IsName (λ x. x) bare-name (λ m n a b e. e) xs ys h.right k.right
    (h.spelled ∙ sym k.spelled)

-- ---- actions

-- a text is split before the digits and blanks with which it ends
numbers-split : (t : Text) → (front : Text) × (digits : Text) × IsBeforeNumbers t front digits
numbers-split [] =
    ([], [], record { parts = refl; only = refl; last = λ before c e. absurd (some-behind before c (sym e)) })
numbers-split (c ∷ t) = (let r = numbers-split t in go r.0 r.1 r.2 (is_digit_or_blank c) refl)
  where
    go : (front digits : Text) → IsBeforeNumbers t front digits → (v : Bool) → is_digit_or_blank c ≡ v
        → (front : Text) × (digits : Text) × IsBeforeNumbers (c ∷ t) front digits
    go [] digits h true e = (
      [],
      c ∷ digits,
      record {
        parts = ap (λ l. c ∷ l) h.parts;
        only = ap (λ v. v && list_all is_digit_or_blank digits) e ∙ h.only;
        last = λ before b w. absurd (some-behind before b (sym w));
      },
    )
    go [] digits h false e = (
      c ∷ [],
      digits,
      record {
        parts = ap (λ l. c ∷ l) h.parts;
        only = h.only;
        last = λ before b w. subst (λ x. is_digit_or_blank x ≡ false) (same_from_push [] before c b w).1 e;
      },
    )
    go (d ∷ front) digits h v e = (
      c ∷ d ∷ front,
      digits,
      record {
        parts = ap (λ l. c ∷ l) h.parts;
        only = h.only;
        last = λ before b w. further before b w;
      },
    )
      where
        further : (before : Text) (b : ℕ) → c ∷ d ∷ front ≡ before ++ b ∷ [] → is_digit_or_blank b ≡ false
        further [] b w = absurd (let wrong : d ∷ front ≡ [] = cc in cc)
        further (x ∷ before) b w = h.last before b (let rest : d ∷ front ≡ before ++ b ∷ [] = cc in rest)

action-one : (text front other : Text) (d e : Option ℕ) (rules more : List ℕ) → IsActionText text front d rules
    → IsActionText text other e more
    → ◌≡◌ {A = Text × (Option ℕ × List ℕ)} (front, (d, rules)) (other, (e, more))
action-one text front other d e rules more h k = (let s = numbers-split text in go d e s h k)
  where
    go : (d e : Option ℕ) (s : (front : Text) × (digits : Text) × IsBeforeNumbers text front digits)
        → IsActionText text front d rules → IsActionText text other e more
        → ◌≡◌ {A = Text × (Option ℕ × List ℕ)} (front, (d, rules)) (other, (e, more))
    go None None s h k =
        let a = action-parts text s.0 s.1 s.2 front None rules h in
        let b = action-parts text s.0 s.1 s.2 other None more k in
        let same = append_cancel_right front other (codes " accept") (sym a.0 ∙ b.0) in
        let numbers = numbers-one rules more s.1 a.1 b.1 in
        λ i. (same i, (None, numbers i))
    go None (Some n) s h k =
        let a = action-parts text s.0 s.1 s.2 front None rules h in
        let b = action-parts text s.0 s.1 s.2 other (Some n) more k in
        absurd (words-differ other front (sym b.0 ∙ a.0))
    go (Some m) None s h k =
        let a = action-parts text s.0 s.1 s.2 front (Some m) rules h in
        let b = action-parts text s.0 s.1 s.2 other None more k in
        absurd (words-differ front other (sym a.0 ∙ b.0))
    go (Some m) (Some n) s h k =
        let a = action-parts text s.0 s.1 s.2 front (Some m) rules h in
        let b = action-parts text s.0 s.1 s.2 other (Some n) more k in
        let same = append_cancel_right front other (codes " down") (sym a.0 ∙ b.0) in
        let numbers = numbers-one (m ∷ []) (n ∷ []) s.1 a.1 b.1 in
        let number : m ≡ n = cc in
        let none = h.right.1 ∙ sym k.right.1 in
        λ i. (same i, (Some (number i), none i))

action-only : (text front : Text) (d : Option ℕ) (rules : List ℕ) → IsActionText text front d rules
    → IsOnly (λ (p : Text × (Option ℕ × List ℕ)). IsActionText text p.0 p.1.0 p.1.1) (front, (d, rules))
action-only text front d rules h = record {
  is = h;
  only = λ p k. action-one text p.0 front p.1.0 d p.1.1 rules k h;
}

over-only : (text front : Text) (t : Option ℕ) → IsOverText text front t
    → IsOnly (λ (p : Text × Option ℕ). IsOverText text p.0 p.1) (front, t)
over-only text front t h = end-found (over-ends text) front (target_text t) t
    (behind-split (codes " over") 32 text (front ++ codes " over") (target_text t) front
    (record {
      parts = sym h.spelled ∙ sym (append_assoc front (codes " over") (32 ∷ target_text t));
      last = bare-target t h.short;
    })
    (record { is = refl; only = λ r e. append_cancel_right r front (codes " over") (sym e) }))
    (target-only t h.short)

-- ---- counts

count-only : (n : ℕ) (fixed : Bool) (text : Text) → IsCountText text n fixed
    → IsOnly (λ (p : ℕ × Bool). IsCountText text p.0 p.1) (n, fixed)
count-only n false text h = record { is = h; only = λ p k. go p.0 p.1 k }
  where
    go : (m : ℕ) (other : Bool) → IsCountText text m other → ◌≡◌ {A = ℕ × Bool} (m, other) (n, false)
    go m other k =
        let a = open-count text (decimal n) m other (sym h.spelled) k in
        let b = open-count text (decimal n) n false (sym h.spelled) h in
        let number = same-number m n a.number.short b.number.short a.number.text in
        let same = a.same in
        λ i. (number i, same i)
count-only n true text h = record { is = h; only = λ p k. go p.0 p.1 k }
  where
    own : decimal n ≡ text
    own = sym (append-nil (decimal n)) ∙ h.spelled

    short : IsShort n
    short = omega (arith, h.most)

    plain : (front : Text) → text ≡ front ++ codes "+" → ⊥
    plain front e =
        let digits = sym (list_all-append is_ascii_digit front (codes "+")) ∙ (ap (list_all is_ascii_digit)
        (sym (own ∙ e)) ∙ (decimal-text n (omega (arith, h.most))).are_digits) in
        let wrong : false ≡ true = (and_parts (list_all is_ascii_digit front) false digits).1 in cc

    go : (m : ℕ) (other : Bool) → IsCountText text m other → ◌≡◌ {A = ℕ × Bool} (m, other) (n, true)
    go m other k =
        let a = fixed-count text m other plain k in
        let number = same-number m n a.number.short short (a.number.text ∙ sym own) in
        let same = a.same in
        λ i. (number i, same i)

-- ---- terms, patterns and conditions

module _ (sig : Sig) where
  pub term-only : (text : Text) (t : Tree) → IsExactTerm sig text t → IsOnly (IsExactTerm sig text) t
  term-only text t h = exact-only (IsTermOf sig) (term_text sig) text t
      (λ u k. h.read.is ∙ ap (normal_term_of sig) (read-unique expr_is_read text h.read.syntax_tree k.syntax_tree
      h.read.syntax k.syntax) ∙ sym k.is) h.read h.spelled

  pub pattern-one : (text : Text) (p q : Pattern) → IsPatternOf sig text p → IsPatternOf sig text q → p ≡ q
  pattern-one text p q h k = h.is ∙ ap (pattern_of sig)
      (read-unique expr_is_read text h.syntax_tree k.syntax_tree h.syntax k.syntax) ∙ sym k.is

  pub cond-one : (text : Text) (c d : Cond) → IsCondOf sig None text c → IsCondOf sig None text d → c ≡ d
  cond-one text c d h k = h.is ∙ ap (cond_of sig) (read-unique condition_is_read text h.syntax_tree.condition
      k.syntax_tree.condition h.syntax.0 k.syntax.0) ∙ sym k.is

  cond-only : (text : Text) (c : Cond) → IsExactCond sig text c → IsOnly (IsExactCond sig text) c
  cond-only text c h = exact-only (IsCondOf sig None) (cond_text sig) text c
      (λ d k. cond-one text c d h.read k) h.read h.spelled

-- ---- operations and kinds

module _ (sig : Sig) (held : IsSignature sig) where
  pub op-only : (name : Text) (f : ℕ) → IsHeldOp sig name f → IsOnly (IsHeldOp sig name) f
  op-only name f h = known-only (IsHeldOp sig name) (position (has_name name) sig.ops)
      (Finds-op (λ i. i) sig name (position (has_name name) sig.ops) held.ops_distinct
      (option_map_id (position (has_name name) sig.ops))) f h

  pub kind-only : (name : Text) (k : ℕ) → IsHeldKind sig name k → IsOnly (IsHeldKind sig name) k
  kind-only name k h = known-only (IsHeldKind sig name) (position (bytes_eq name) (kind_names sig))
      (Finds-kind (λ i. i) sig name (position (bytes_eq name) (kind_names sig)) held.kinds_distinct
      (option_map_id (position (bytes_eq name) (kind_names sig)))) k h

  -- ---- tokens

  counted-own : (format : Format) (n : ℕ) (fixed : Bool) (x : Option ℕ)
      → IsRightToken sig format (wild_token (counted n fixed) x)
      → IsOnly (IsTokenText sig format (token_text sig (wild_token (counted n fixed) x)))
      (wild_token (counted n fixed) x)
  counted-own One n fixed x h = absurd h.1
  counted-own Two n fixed x h =
      let count = decimal n ++ text_if (not fixed) (codes "+") in
      counted-found sig (variable_text x ++ (codes " " ++ count)) (variable_text x) count n fixed x
      (record { parts = refl; first = bare-variable x h.2 }) (variable-only x h.2)
      (count-only n fixed count (record { least = h.0.0; most = h.0.1; spelled = refl }))

  module _ (format : Format) where
    token-own : (k : NetToken) → IsRightToken sig format k → IsOnly (IsTokenText sig format (token_text sig k)) k
    token-own (sym_token n) h = symbol-through sig format (λ k. k) n (symbol n) (Some (sym_token n))
        (term-only sig n (symbol n) (record { read = h; spelled = refl })) (symbol-found (symbol n) n refl)
    token-own (enter_token f) h = enter-through sig format (λ i. i) (op_name_text sig f) (Some f)
        (op-only (op_name_text sig f) f (record { held = h; text = refl }))
    token-own (leave_token f) h = leave-through sig format (λ i. i) (op_name_text sig f) (Some f)
        (op-only (op_name_text sig f) f (record { held = h; text = refl }))
    token-own (comm_token p) h = comm-through sig format (λ q. q) (pattern_text sig p) (Some p) (record {
      is = record { right = h; spelled = refl };
      only = λ q k. pattern-one sig (pattern_text sig p) q p
          (subst (λ t. IsPatternOf sig t q) k.spelled k.right.read) h.read;
    })
    token-own (wild_token dot x) h = dot-through sig format (λ y. y) (variable_text x) (Some x) (variable-only x h.2)
    token-own (wild_token plus x) h = plus-through sig format (λ y. y) (variable_text x) (Some x) (variable-only x h.2)
    token-own (wild_token star x) h = star-through sig format (λ y. y) (variable_text x) (Some x) (variable-only x h.2)
    token-own (wild_token (kind n) x) h =
        kind-found sig format (kind_name_text sig n ++ (codes " " ++ variable_text x)) (kind_name_text sig n)
        (variable_text x) n x (record { parts = refl; last = bare-variable x h.2 }) (variable-only x h.2)
        (kind-only (kind_name_text sig n) n (record { held = h.0; text = refl }))
    token-own (wild_token (optional t) x) h =
        optional-found sig format (variable_text x ++ (codes " " ++ term_text sig t)) (variable_text x)
        (term_text sig t) t x (record { parts = refl; first = bare-variable x h.2 }) (variable-only x h.2)
        (default-found sig (term_text sig t) t
        (term-only sig (term_text sig t) t (record { read = h.0.0; spelled = refl })) h.0.1)
    token-own (wild_token (counted n fixed) x) h = counted-own format n fixed x h

    -- ---- instructions

    instr-only : (n : ℕ) (line : Text) (i : Instr) → IsInstrText sig format n line i
        → IsOnly (IsInstrText sig format n line) i
    instr-only n line i h =
        let token = token_text sig i.token in
        let front = token ++ (codes " " ++ action_text i.down i.accepts) in
        let text = token ++ (codes " " ++ (action_text i.down i.accepts
        ++ (codes " over " ++ target_text i.over))) in
        let over = over-only text front i.over (record {
          short = h.right.over;
          spelled = append_assoc token (codes " " ++ action_text i.down i.accepts)
              (codes " over " ++ target_text i.over);
        }) in
        let acts = action-only front token i.down i.accepts (record { right = h.right.action; spelled = refl }) in
        body-through sig format n line text (λ j. j) (Some i) (sym h.text)
        (instr-found sig format text front i.over over token i.down i.accepts acts i.token
        (token-own i.token h.right.token))

-- ---- rules

module _ (sig : Sig) (most : ℕ) where
  head-only : (r : RuleLine) → IsName r.name → AllByRecursion IsName r.vars
      → IsOnly (IsHeadText most (head_text r) r.test) (kept_line most r)
  head-only r name vars =
      let items : AreItemsText IsName (λ x. x) (preceded (codes " ") r.vars) r.vars =
      record { right = vars; spelled = ap (preceded (codes " ")) (map-id r.vars) } in
      head-found most (head_text r) r.name (preceded (codes " ") r.vars) r.test r.name (take most r.vars)
      (record {
        parts = refl;
        bare = bare-name r.name name;
        ends = subst (λ xs. IsWordEnd (preceded (codes " ") xs)) (map-id r.vars)
            (items-end IsName (λ x. x) bare-name r.vars);
      })
      (record { is = record { right = name; text = refl }; only = λ b h. h.text })
      (record {
        is = record { all = r.vars; names = items; front = refl };
        only = λ b h. h.front ∙ ap (take most) (names-one h.all r.vars (preceded (codes " ") r.vars) h.names items);
      })

  -- names have letters, digits and blanks alone
  letters-end : (r : RuleLine) (front : Text) (c : ℕ) → IsName r.name → AllByRecursion IsName r.vars
      → is_letter_or_blank c ≡ false → head_text r ≡ front ++ c ∷ [] → ⊥
  letters-end r front c name vars other e =
      let letters = sym (list_all-append is_letter_or_blank front (c ∷ []))
      ∙ (ap (list_all is_letter_or_blank) (sym e) ∙ head-letters r name vars) in
      let last = (and_parts (is_letter_or_blank c) true
      (and_parts (list_all is_letter_or_blank front) (is_letter_or_blank c && true) letters).1).0 in
      let wrong : true ≡ false = sym last ∙ other in cc

  body-own : (format : Format) (r : RuleLine) → IsRightRule sig format r
      → IsOnly (IsRuleBody sig format most (head_text r ++ rule_test_text sig r.test)) (kept_line most r)
  body-own Two r h = go r.test refl h.test
    where
      go : (t : RuleTest) → r.test ≡ t → IsRightRuleTest sig Two t
          → IsOnly (IsRuleBody sig Two most (head_text r ++ rule_test_text sig r.test)) (kept_line most r)
      go untested is right =
          let text : head_text r ++ rule_test_text sig r.test ≡ head_text r =
          ap (λ t. head_text r ++ rule_test_text sig t) is ∙ append-nil (head_text r) in
          subst (λ t. IsOnly (IsRuleBody sig Two most t) (kept_line most r)) (sym text)
          (untested-through sig most (head_text r) (λ k. k) (Some (kept_line most r))
          (λ front e. letters-end r front 93 h.name h.vars refl e)
          (subst (λ t. IsOnly (IsHeadText most (head_text r) t) (kept_line most r)) is
          (head-only r h.name h.vars)))
      go (tested n) is right =
          let before = head_text r ++ (codes " if [" ++ decimal n) in
          let ends : head_text r ++ rule_test_text sig r.test ≡ before ++ codes "]" =
          ap (λ t. head_text r ++ rule_test_text sig t) is
          ∙ sym (append_assoc (head_text r) (codes " if [" ++ decimal n) (codes "]")) in
          tested-through sig most (head_text r ++ rule_test_text sig r.test) before ends (λ k. k)
          (Some (kept_line most r)) (head_text r) n
          (end-found (test-ends before) (head_text r) (decimal n) n
          (behind-split (codes " if ") 91 before (head_text r ++ codes " if ") (decimal n) (head_text r)
          (record {
            parts = sym (append_assoc (head_text r) (codes " if ") (91 ∷ decimal n));
            last = without-decimal 91 n refl (let short : n < 2 ^ 32 = right.1 in omega arith);
          })
          (record { is = refl; only = λ q e. append_cancel_right q (head_text r) (codes " if ") (sym e) }))
          (number-only n right.1))
          (subst (λ t. IsOnly (IsHeadText most (head_text r) t) (kept_line most r)) is
          (head-only r h.name h.vars))
      go (spelled c) is right = (let wrong : Two ≡ One = right.0 in cc)
  body-own One r h = go r.test refl h.test
    where
      go : (t : RuleTest) → r.test ≡ t → IsRightRuleTest sig One t
          → IsOnly (IsRuleBody sig One most (head_text r ++ rule_test_text sig r.test)) (kept_line most r)
      go untested is right =
          let text : head_text r ++ rule_test_text sig r.test ≡ head_text r =
          ap (λ t. head_text r ++ rule_test_text sig t) is ∙ append-nil (head_text r) in
          subst (λ t. IsOnly (IsRuleBody sig One most t) (kept_line most r)) (sym text)
          (names-through sig (right-opens sig) most (head_text r) (head_text r) []
          (record {
            parts = sym (append-nil (head_text r));
            all = head-letters r h.name h.vars;
            ends = inl refl;
          }) (λ k. k) (Some (kept_line most r)) refl
          (subst (λ t. IsOnly (IsHeadText most (head_text r) t) (kept_line most r)) is
          (head-only r h.name h.vars)))
      go (tested n) is right = (let wrong : One ≡ Two = right.0 in cc)
      go (spelled c) is right =
          let opening = cond-opening sig c (right-opens sig c right.1) in
          let words = head_text r ++ (codes " if " ++ opening.words) in
          let rest = opening.byte ∷ opening.rest in
          let text : head_text r ++ rule_test_text sig r.test ≡ head_text r ++ (codes " if " ++ cond_text sig c) =
          ap (λ t. head_text r ++ rule_test_text sig t) is in
          let front : IsFrontOfWords (head_text r ++ rule_test_text sig r.test) words rest = record {
            parts = text ∙ (ap (λ x. head_text r ++ (codes " if " ++ x)) opening.parts
                ∙ sym (append_assoc (head_text r) (codes " if " ++ opening.words) rest));
            all = list_all-append is_letter_or_blank (head_text r) (codes " if " ++ opening.words)
                ∙ (ap (λ v. v && list_all is_letter_or_blank opening.words) (head-letters r h.name h.vars)
                ∙ opening.letters);
            ends = inr (opening.byte, opening.rest, refl, opening.other);
          } in
          spelled-through sig (right-opens sig) most (head_text r ++ rule_test_text sig r.test) words rest front
          (λ e. cc) (head_text r) opening.words (record { parts = refl; last = opening.no_if }) (λ k. k)
          (Some (kept_line most r)) c
          (subst (λ t. IsOnly (IsExactCond sig t) c) opening.parts
          (cond-only sig (cond_text sig c) c (record { read = right.1; spelled = refl })))
          (subst (λ t. IsOnly (IsHeadText most (head_text r) t) (kept_line most r)) is
          (head-only r h.name h.vars))

  rule-only : (format : Format) (line : Text) (k : RuleLine) → IsRuleText sig format most line k
      → IsOnly (IsRuleText sig format most line) k
  rule-only format line k h =
      let r = h.whole in
      let text = head_text r ++ rule_test_text sig r.test in
      let spelling : line ≡ codes "rule " ++ (text ++ codes ";") =
      sym h.text ∙ ap (λ t. codes "rule " ++ t)
      (sym (append_assoc (head_text r) (rule_test_text sig r.test) (codes ";")
      ∙ append_assoc r.name (preceded (codes " ") r.vars) (rule_test_text sig r.test ++ codes ";"))) in
      subst (IsOnly (IsRuleText sig format most line)) (sym h.front)
      (rule-through sig format most line text (λ q. q) (Some (kept_line most r)) spelling (body-own format r h.right))

-- ---- tests

test-only : (sig : Sig) (line : Text) (c : Cond) → IsTestText sig line c → IsOnly (IsTestText sig line) c
test-only sig line c h = record {
  is = h;
  only = λ d k.
      let same : cond_text sig d ≡ cond_text sig c = append_cancel_right (cond_text sig d) (cond_text sig c) (codes ";")
      (append_cancel_left (codes "test ") (cond_text sig d ++ codes ";") (cond_text sig c ++ codes ";")
      (k.text ∙ sym h.text)) in
      cond-one sig (cond_text sig c) d c (subst (λ t. IsCondOf sig None t d) same k.right.right) h.right.right;
}

-- ---- lines

module _ (sig : Sig) (held : IsSignature sig) (format : Format) (n : ℕ) (some : 1 ≤ n) (small : n < 2 ^ 32)
    (text : Text) where
  code-one : (l m : Line) → IsCodeLine sig format n text l → IsCodeLine sig format n text m → l ≡ m
  code-one (begin_line d) m h k =
      sym ((begin-found sig format n some small text (target_text d) d h.1 (target-only d h.0)).only m k)
  code-one stop_line m h k = sym ((stop-found sig format n some small text h).only m k)
  code-one (instr_line i) (begin_line d) h k =
      (begin-found sig format n some small text (target_text d) d k.1 (target-only d k.0)).only (instr_line i) h
  code-one (instr_line i) stop_line h k = (stop-found sig format n some small text k).only (instr_line i) h
  code-one (instr_line i) (instr_line j) h k =
      ap instr_line (sym ((instr-only sig held format n text i h).only j k))
  code-one (instr_line i) op_line h k = absurd k
  code-one (instr_line i) kind_line h k = absurd k
  code-one (instr_line i) (test_line c) h k = absurd k
  code-one (instr_line i) (rule_line r) h k = absurd k
  code-one (instr_line i) code_line h k = absurd k
  code-one op_line m h k = absurd h
  code-one kind_line m h k = absurd h
  code-one (test_line c) m h k = absurd h
  code-one (rule_line r) m h k = absurd h
  code-one code_line m h k = absurd h

  module _ (most : ℕ) where
    abbrev IsThere : Line → Type 0
    IsThere = IsLineText sig format most n text

    op-first : IsThere op_line → (m : Line) → IsThere m → m ≡ op_line
    op-first h m k = (op-found sig format n some small text most h.0 h.1).only m k

    kind-first : IsThere kind_line → (m : Line) → IsThere m → m ≡ kind_line
    kind-first h m k = (kind-line-found sig format n some small text most h.0 h.1).only m k

    test-first : (c : Cond) → IsThere (test_line c) → (m : Line) → IsThere m → m ≡ test_line c
    test-first c h m k = (test-found sig format n some small text most c (test-only sig text c h)).only m k

    rule-first : (r : RuleLine) → IsThere (rule_line r) → (m : Line) → IsThere m → m ≡ rule_line r
    rule-first r h m k =
        (rule-found sig format n some small text most r (rule-only sig most format text r h)).only m k

    code-first : IsThere code_line → (m : Line) → IsThere m → m ≡ code_line
    code-first h m k = (code-found sig format n some small text most h).only m k

    -- a text is read as one line
    pub line-one : (l m : Line) → IsThere l → IsThere m → l ≡ m
    line-one op_line m h k = sym (op-first h m k)
    line-one kind_line m h k = sym (kind-first h m k)
    line-one (test_line c) m h k = sym (test-first c h m k)
    line-one (rule_line r) m h k = sym (rule-first r h m k)
    line-one code_line m h k = sym (code-first h m k)
    line-one (begin_line d) op_line h k = op-first k (begin_line d) h
    line-one (begin_line d) kind_line h k = kind-first k (begin_line d) h
    line-one (begin_line d) (test_line c) h k = test-first c k (begin_line d) h
    line-one (begin_line d) (rule_line r) h k = rule-first r k (begin_line d) h
    line-one (begin_line d) code_line h k = code-first k (begin_line d) h
    line-one (begin_line d) (begin_line e) h k = code-one (begin_line d) (begin_line e) h k
    line-one (begin_line d) (instr_line i) h k = code-one (begin_line d) (instr_line i) h k
    line-one (begin_line d) stop_line h k = code-one (begin_line d) stop_line h k
    line-one (instr_line i) op_line h k = op-first k (instr_line i) h
    line-one (instr_line i) kind_line h k = kind-first k (instr_line i) h
    line-one (instr_line i) (test_line c) h k = test-first c k (instr_line i) h
    line-one (instr_line i) (rule_line r) h k = rule-first r k (instr_line i) h
    line-one (instr_line i) code_line h k = code-first k (instr_line i) h
    line-one (instr_line i) (begin_line d) h k = code-one (instr_line i) (begin_line d) h k
    line-one (instr_line i) (instr_line j) h k = code-one (instr_line i) (instr_line j) h k
    line-one (instr_line i) stop_line h k = code-one (instr_line i) stop_line h k
    line-one stop_line op_line h k = op-first k stop_line h
    line-one stop_line kind_line h k = kind-first k stop_line h
    line-one stop_line (test_line c) h k = test-first c k stop_line h
    line-one stop_line (rule_line r) h k = rule-first r k stop_line h
    line-one stop_line code_line h k = code-first k stop_line h
    line-one stop_line (begin_line d) h k = code-one stop_line (begin_line d) h k
    line-one stop_line (instr_line i) h k = code-one stop_line (instr_line i) h k
    line-one stop_line stop_line h k = refl
