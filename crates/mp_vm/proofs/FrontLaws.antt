-- Reading line by line: the first lines of a right form are those of a state.
use Rattle.std.proofs.Common.{◌≡◌, ℕ, suc, ◌+◌, ◌≤◌, List, [], ◌∷◌, ◌++◌, map, length, refl, ap, sym, ◌∙◌}
use Rattle.std.proofs.Common.{subst, arith, append-nil, length-append}
use Rattle.std.specs.Prelude.{◌≢◌, Option, None, codes, decimal}
use Rattle.std.specs.List.{AllByRecursion}
use Rattle.mp_io.specs.Devices.{Text}
use Rattle.mp_term.specs.Signature.{Sig}
use Rattle.mp_term.proofs.ListLaws.{all-split, both-empty}
use Rattle.mp_pattern.specs.CondTree as cond
use Rattle.mp_walk.specs.Instrs.{Instr}
use Rattle.mp_program.specs.declared.format.Format.{Format}
use Rattle.mp_program.specs.Form.{format_number, RuleLine, Form}
use Rattle.mp_program.specs.FormText as text
use Rattle.mp_program.specs.FormText.{instr_lines, code_lines}
use Rattle.mp_program.specs.RightForm.{IsDeclaration, IsRightTest, IsRightRule, IsRightInstr, IsRightForm}
use Rattle.mp_program.specs.Reading.{Begins}
use Rattle.mp_program.proofs.ListLaws.{first-same, rest-same}
use Rattle.mp_vm.specs.declared.stage.Stage.{Stage}
use Rattle.mp_vm.specs.declared.stage.Stage.TheVariants.{Ops, Kinds, Tests, Rules, Code, Begin, Instrs, Stop}
use Rattle.mp_vm.specs.Machine.{State, IsAtStage, completed_code, begin_text, begun_lines, IsStateOf}
use Rattle.mp_vm.proofs.MachineLaws.{before_code, Parts, PartsOf, Behind, state-of, behind-before, behind-begin}

-- ---- lists

-- the first items of two lists in a row are first ones of the first, or all of this and first ones of the second
data Cut {X : Type 0} (a b p r : List X) : Type 0 where
  within : (x : List X) → a ≡ p ++ x → Cut a b p r
  beyond : (y : List X) → p ≡ a ++ y → b ≡ y ++ r → Cut a b p r

cut : {X : Type 0} (a b p r : List X) → a ++ b ≡ p ++ r → Cut a b p r
cut [] b p r e = beyond p refl e
cut (x ∷ a) b [] r e = within (x ∷ a) refl
cut (x ∷ a) b (y ∷ p) r e = one (first-same x y (a ++ b) (p ++ r) e) (cut a b p r (rest-same x y (a ++ b) (p ++ r) e))
  where
    one : x ≡ y → Cut a b p r → Cut (x ∷ a) b (y ∷ p) r
    one same (within z h) = within z (ap (λ w. w ∷ a) same ∙ ap (λ l. y ∷ l) h)
    one same (beyond z h k) = beyond z (ap (λ w. w ∷ p) (sym same) ∙ ap (λ l. x ∷ l) h) k

-- first items of a list of images are images of first ones
record FirstOnes {X Y : Type 0} (f : X → Y) (xs : List X) (p : List Y) : Type 0 where
  pub front : List X
  pub rest : List X
  pub split : xs ≡ front ++ rest
  pub images : map f front ≡ p

map-cut : {X Y : Type 0} (f : X → Y) (xs : List X) (p r : List Y) → map f xs ≡ p ++ r → FirstOnes f xs p
map-cut f xs [] r e = record { front = []; rest = xs; split = refl; images = refl }
map-cut f [] (y ∷ p) r e = cc
map-cut f (x ∷ xs) (y ∷ p) r e =
    let h = map-cut f xs p r (rest-same (f x) y (map f xs) (p ++ r) e) in
    record {
      front = x ∷ h.front;
      rest = h.rest;
      split = ap (λ l. x ∷ l) h.split;
      images = ap (λ w. w ∷ map f h.front) (first-same (f x) y (map f xs) (p ++ r) e) ∙ ap (λ l. y ∷ l) h.images;
    }

-- a front has no more items
pub front-length : {X : Type 0} (xs p r : List X) → xs ≡ p ++ r → length p ≤ length xs
front-length xs p r e = omega (arith, ap length e, length-append p r)

-- a front of nothing is nothing
pub front-nil : {X : Type 0} (xs p r : List X) → xs ≡ p ++ r → xs ≡ [] → p ≡ []
front-nil xs [] r e n = refl
front-nil xs (x ∷ p) r e n = let w : [] ≡ x ∷ (p ++ r) = sym n ∙ e in cc

pub all-front : {X : Type 0} (P : X → Type 0) (xs p r : List X) → xs ≡ p ++ r → AllByRecursion P xs → AllByRecursion P p
all-front P xs p r e h = (all-split P p r (subst (AllByRecursion P) e h)).0

-- ---- states before `code`

-- the part of the last one of them
abbrev parts_stage : List Text → List cond.Cond → List RuleLine → Stage
parts_stage ks ts (r ∷ rs) = Rules
parts_stage ks (t ∷ ts) [] = Tests
parts_stage (k ∷ ks) [] [] = Kinds
parts_stage [] [] [] = Ops

at-parts : (format : Format) (ops ks : List Text) (ts : List cond.Cond) (rs : List RuleLine)
    → IsAtStage (parts_stage ks ts rs) (before_code format ops ks ts rs)
at-parts format ops ks ts (r ∷ rs) = (λ e. cc, (refl, refl))
at-parts format ops ks (t ∷ ts) [] = (λ e. cc, refl, (refl, refl))
at-parts format ops (k ∷ ks) [] [] = (λ e. cc, refl, refl, (refl, refl))
at-parts format ops [] [] [] = (refl, refl, refl, (refl, refl))

module _ (sig : Sig) where
  begun-parts : (ks : List Text) (ts : List cond.Cond) (rs : List RuleLine) (f : Form)
      → begun_lines sig (parts_stage ks ts rs) f ≡ []
  begun-parts ks ts (r ∷ rs) f = refl
  begun-parts ks (t ∷ ts) [] f = refl
  begun-parts (k ∷ ks) [] [] f = refl
  begun-parts [] [] [] f = refl

  -- a state behind the lines
  pub record Reached (read : List Text) : Type 0 where
    pub state : State
    pub is : IsStateOf sig read state

  abbrev first_line : Format → Text
  first_line format = codes "matchpy program " ++ decimal (format_number format)

  pub before-state : (format : Format) (ops ks : List Text) (ts : List cond.Cond) (rs : List RuleLine)
      (read : List Text) → Parts sig (before_code format ops ks ts rs)
      → first_line format ∷ (ops ++ (ks ++ (map (text.test_line sig) ts ++ map (text.rule_line sig) rs))) ≡ read
      → Reached read
  before-state format ops ks ts rs read p e =
      let f = before_code format ops ks ts rs in
      let st = parts_stage ks ts rs in
      let tests = map (text.test_line sig) ts in
      let rules = map (text.rule_line sig) rs in
      record {
        state = record { stage = st; form = f };
        is = record {
          is = state-of sig st f (at-parts format ops ks ts rs) p (behind-before sig format st None [] refl refl);
          lines = ap (λ l. first_line format ∷ (ops ++ (ks ++ (tests ++ (rules ++ l))))) (begun-parts ks ts rs f)
              ∙ ap (λ l. first_line format ∷ (ops ++ (ks ++ (tests ++ l)))) (append-nil rules) ∙ e;
        };
      }

  -- ---- first lines of a right form

  -- first instructions, whose lines these are
  record FirstInstrs (n : ℕ) (is : List Instr) (p : List Text) : Type 0 where
    pub front : List Instr
    pub rest : List Instr
    pub split : is ≡ front ++ rest
    pub lines : instr_lines sig n front ≡ p

  instrs-cut : (n : ℕ) (is : List Instr) (p r : List Text) → instr_lines sig n is ≡ p ++ r → FirstInstrs n is p
  instrs-cut n is [] r e = record { front = []; rest = is; split = refl; lines = refl }
  instrs-cut n [] (y ∷ p) r e = cc
  instrs-cut n (i ∷ is) (y ∷ p) r e =
      let first = text.instr_line sig n i in
      let more = instr_lines sig (suc n) is in
      let h = instrs-cut (suc n) is p r (rest-same first y more (p ++ r) e) in
      record {
        front = i ∷ h.front;
        rest = h.rest;
        split = ap (λ l. i ∷ l) h.split;
        lines = ap (λ w. w ∷ instr_lines sig (suc n) h.front) (first-same first y more (p ++ r) e)
            ∙ ap (λ l. y ∷ l) h.lines;
      }

  module _ (f : Form) (h : IsRightForm sig f) where
    abbrev tests_of : List Text
    tests_of = map (text.test_line sig) f.tests

    abbrev rules_of : List Text
    rules_of = map (text.rule_line sig) f.rules

    parts-front : (o o' k k' : List Text) (t t' : List cond.Cond) (r r' : List RuleLine) → f.ops ≡ o ++ o'
        → f.kinds ≡ k ++ k' → f.tests ≡ t ++ t' → f.rules ≡ r ++ r' → Parts sig (before_code f.format o k t r)
    parts-front o o' k k' t t' r r' eo ek et er = record {
      ops = all-front (IsDeclaration (codes "op ")) f.ops o o' eo h.ops;
      kinds = all-front (IsDeclaration (codes "kind ")) f.kinds k k' ek h.kinds;
      no_tests = λ e. front-nil f.tests t t' et (h.no_tests e);
      few_tests = omega (arith, front-length f.tests t t' et, h.few_tests);
      tests = all-front (IsRightTest sig) f.tests t t' et h.tests;
      few_rules = omega (arith, front-length f.rules r r' er, h.few_rules);
      rules = all-front (IsRightRule sig f.format) f.rules r r' er h.rules;
    }

    parts-all : PartsOf sig f
    parts-all = record {
      ops = h.ops;
      kinds = h.kinds;
      no_tests = h.no_tests;
      few_tests = h.few_tests;
      tests = h.tests;
      few_rules = h.few_rules;
      rules = h.rules;
    }

    -- the same with a begin and instructions
    abbrev with_code : Option ℕ → List Instr → Form
    with_code d is = record f { begin = d; code = is }

    -- all lines before `code`, and these
    abbrev through : List Text → List Text
    through l = first_line f.format ∷ (f.ops ++ (f.kinds ++ (tests_of ++ (rules_of ++ l))))

    code-state : (st : Stage) (d : Option ℕ) (is : List Instr) (read : List Text) → IsAtStage st (with_code d is)
        → Behind sig f.format d (completed_code st d is) → begun_lines sig st (with_code d is) ≡ read
        → Reached (through read)
    code-state st d is read at b e = record {
      state = record { stage = st; form = with_code d is };
      is = record { is = state-of sig st (with_code d is) at parts-all b; lines = ap through e };
    }

    -- some of the instructions
    instrs-state : (d : Text) (u : List Text) → FirstInstrs 1 f.code (d ∷ u)
        → Reached (through (codes "code" ∷ begin_text f.begin ∷ (d ∷ u)))
    instrs-state d u c =
        let some = front-some c.front c.lines in
        code-state Instrs f.begin c.front (codes "code" ∷ begin_text f.begin ∷ (d ∷ u)) some (record {
          begin = h.begin;
          begins = (λ s. some, λ s. h.begins.1 (λ e. some (front-nil f.code c.front c.rest c.split e)));
          few = (let fewer = front-length f.code c.front c.rest c.split in omega (arith, fewer, h.few_instrs));
          code = all-front (IsRightInstr sig f.format) f.code c.front c.rest c.split h.code;
        }) (ap (λ l. codes "code" ∷ begin_text f.begin ∷ l) c.lines)
      where
        front-some : (is : List Instr) → instr_lines sig 1 is ≡ d ∷ u → is ≢ []
        front-some [] e n = cc
        front-some (i ∷ is) e n = cc

    abbrev stop_text : Text
    stop_text = decimal (1 + length f.code) ++ codes " stop"

    by_code : (d : Text) (u r : List Text) → Cut (instr_lines sig 1 f.code) (stop_text ∷ []) (d ∷ u) r
        → Reached (through (codes "code" ∷ begin_text f.begin ∷ (d ∷ u)))
    by_code d u r (within x e) = instrs-state d u (instrs-cut 1 f.code (d ∷ u) x e)
    by_code d u r (beyond [] e k) =
        instrs-state d u (instrs-cut 1 f.code (d ∷ u) []
        (sym (append-nil (instr_lines sig 1 f.code)) ∙ sym e ∙ sym (append-nil (d ∷ u))))
    by_code d u r (beyond (s ∷ y) e k) =
        let same = first-same stop_text s [] (y ++ r) k in
        let none = (both-empty y r (sym (rest-same stop_text s [] (y ++ r) k))).0 in
        let all = e ∙ ap (λ l. instr_lines sig 1 f.code ++ l)
        (ap (λ w. w ∷ y) (sym same) ∙ ap (λ l. stop_text ∷ l) none) in
        code-state Stop f.begin f.code (codes "code" ∷ begin_text f.begin ∷ (d ∷ u)) tt (record {
          begin = h.begin;
          begins = h.begins;
          few = h.few_instrs;
          code = h.code;
        }) (ap (λ l. codes "code" ∷ begin_text f.begin ∷ l) (sym all))

    by_tail : (v r : List Text) → codes "code" ∷ begin_text f.begin ∷ code_lines sig 1 f.code ≡ v ++ r
        → Reached (through v)
    by_tail [] r k =
        before-state f.format f.ops f.kinds f.tests f.rules (through []) parts-all
        (ap (λ l. first_line f.format ∷ (f.ops ++ (f.kinds ++ (tests_of ++ l)))) (sym (append-nil rules_of)))
    by_tail (c ∷ []) r k =
        code-state Code None [] (c ∷ []) (refl, refl) (behind-before sig f.format Code None [] refl refl)
        (ap (λ w. w ∷ []) (first-same (codes "code") c (begin_text f.begin ∷ code_lines sig 1 f.code) r k))
    by_tail (c ∷ b ∷ []) r k =
        let rest = code_lines sig 1 f.code in
        let more = rest-same (codes "code") c (begin_text f.begin ∷ rest) (b ∷ r) k in
        code-state Begin f.begin [] (c ∷ b ∷ []) refl (behind-begin sig f.format f.begin [] h.begin refl)
        (ap (λ w. w ∷ begin_text f.begin ∷ []) (first-same (codes "code") c (begin_text f.begin ∷ rest) (b ∷ r) k)
        ∙ ap (λ w. c ∷ w ∷ []) (first-same (begin_text f.begin) b rest r more))
    by_tail (c ∷ b ∷ (d ∷ u)) r k =
        let rest = code_lines sig 1 f.code in
        let more = rest-same (codes "code") c (begin_text f.begin ∷ rest) (b ∷ ((d ∷ u) ++ r)) k in
        let last = rest-same (begin_text f.begin) b rest ((d ∷ u) ++ r) more in
        let head = first-same (codes "code") c (begin_text f.begin ∷ rest) (b ∷ ((d ∷ u) ++ r)) k in
        let next = first-same (begin_text f.begin) b rest ((d ∷ u) ++ r) more in
        subst (λ l. Reached (through l)) (ap (λ w. w ∷ begin_text f.begin ∷ (d ∷ u)) head
        ∙ ap (λ w. c ∷ w ∷ (d ∷ u)) next)
        (by_code d u r (cut (instr_lines sig 1 f.code) (stop_text ∷ []) (d ∷ u) r last))

    by_rules : (w r : List Text)
        → Cut rules_of (codes "code" ∷ begin_text f.begin ∷ code_lines sig 1 f.code) w r
        → Reached (first_line f.format ∷ (f.ops ++ (f.kinds ++ (tests_of ++ w))))
    by_rules w r (within x e) =
        let m = map-cut (text.rule_line sig) f.rules w x e in
        before-state f.format f.ops f.kinds f.tests m.front _ (parts-front f.ops [] f.kinds [] f.tests [] m.front m.rest
        (sym (append-nil f.ops)) (sym (append-nil f.kinds)) (sym (append-nil f.tests)) m.split)
        (ap (λ l. first_line f.format ∷ (f.ops ++ (f.kinds ++ (tests_of ++ l)))) m.images)
    by_rules w r (beyond v e k) =
        subst (λ l. Reached (first_line f.format ∷ (f.ops ++ (f.kinds ++ (tests_of ++ l))))) (sym e) (by_tail v r k)

    by_tests : (z r : List Text)
        → Cut tests_of (rules_of ++ (codes "code" ∷ begin_text f.begin ∷ code_lines sig 1 f.code)) z r
        → Reached (first_line f.format ∷ (f.ops ++ (f.kinds ++ z)))
    by_tests z r (within x e) =
        let m = map-cut (text.test_line sig) f.tests z x e in
        before-state f.format f.ops f.kinds m.front [] _ (parts-front f.ops [] f.kinds [] m.front m.rest [] f.rules
        (sym (append-nil f.ops)) (sym (append-nil f.kinds)) m.split refl)
        (ap (λ l. first_line f.format ∷ (f.ops ++ (f.kinds ++ l)))
        (append-nil (map (text.test_line sig) m.front) ∙ m.images))
    by_tests z r (beyond w e k) =
        subst (λ l. Reached (first_line f.format ∷ (f.ops ++ (f.kinds ++ l)))) (sym e)
        (by_rules w r (cut rules_of (codes "code" ∷ begin_text f.begin ∷ code_lines sig 1 f.code) w r k))

    by_kinds : (y r : List Text)
        → Cut f.kinds (tests_of ++ (rules_of ++ (codes "code" ∷ begin_text f.begin ∷ code_lines sig 1 f.code))) y r
        → Reached (first_line f.format ∷ (f.ops ++ y))
    by_kinds y r (within x e) =
        before-state f.format f.ops y [] [] _ (parts-front f.ops [] y x [] f.tests [] f.rules
        (sym (append-nil f.ops)) e refl refl) (ap (λ l. first_line f.format ∷ (f.ops ++ l)) (append-nil y))
    by_kinds y r (beyond z e k) =
        subst (λ l. Reached (first_line f.format ∷ (f.ops ++ l))) (sym e)
        (by_tests z r (cut tests_of (rules_of ++ (codes "code" ∷ begin_text f.begin ∷ code_lines sig 1 f.code)) z r k))

    by_ops : (ls r : List Text) → Cut f.ops (f.kinds ++ (tests_of ++ (rules_of
        ++ (codes "code" ∷ begin_text f.begin ∷ code_lines sig 1 f.code)))) ls r → Reached (first_line f.format ∷ ls)
    by_ops ls r (within x e) =
        before-state f.format ls [] [] [] _ (parts-front ls x [] f.kinds [] f.tests [] f.rules e refl refl refl)
        (ap (λ l. first_line f.format ∷ l) (append-nil ls))
    by_ops ls r (beyond y e k) =
        subst (λ l. Reached (first_line f.format ∷ l)) (sym e) (by_kinds y r (cut f.kinds (tests_of ++ (rules_of
        ++ (codes "code" ∷ begin_text f.begin ∷ code_lines sig 1 f.code))) y r k))

  -- lines with which right ones begin are those of a state
  pub begins-state : (l : Text) (ls : List Text) → Begins sig (l ∷ ls) → Reached (l ∷ ls)
  begins-state l ls b =
      let f = b.form in
      let rest = f.ops ++ (f.kinds ++ (map (text.test_line sig) f.tests ++ (map (text.rule_line sig) f.rules
      ++ (codes "code" ∷ begin_text f.begin ∷ code_lines sig 1 f.code)))) in
      let same = first-same (first_line f.format) l rest (ls ++ b.rest) b.split in
      let more = rest-same (first_line f.format) l rest (ls ++ b.rest) b.split in
      subst (λ w. Reached (w ∷ ls)) same (by_ops f b.right ls b.rest (cut f.ops _ ls b.rest more))
