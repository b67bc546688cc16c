-- The text of an instruction is split at `over`, at its action and at its token in one way.
use Rattle.std.proofs.Common.{◌≡◌, ◌++◌, ℕ, List, ◌∷◌, Option, Some, None, refl, sym, ap, ◌∙◌, arith}
use Rattle.std.proofs.Common.{append_assoc}
use Rattle.std.proofs.Common.{◌≤◌, length}
use Rattle.std.specs.Prelude.{codes, decimal}
use Rattle.std.proofs.lemmas.List.{length-append, append_cancel_left}
use Rattle.mp_io.specs.Devices.{Text}
use Rattle.mp_term.specs.Signature.{Sig}
use Rattle.mp_pattern.specs.NetTokens.{NetToken}
use Rattle.mp_walk.specs.Instrs.{Instr}
use Rattle.mp_program.specs.declared.format.Format.{Format}
use Rattle.mp_program.specs.FormText.{target_text, token_text, action_text}
use Rattle.mp_program.specs.RightForm.{IsShortTarget}
use Rattle.mp_line.specs.Finds.{IsOnly, Finds}
use Rattle.mp_line.specs.LineTexts.{IsTargetText, IsTokenText, IsOverText, IsActionText, IsInstrBody, IsInstrText}
use Rattle.mp_line.specs.Words.{IsWithout}
use Rattle.mp_line.proofs.EndLaws.{Ends}
use Rattle.mp_line.proofs.FindsLaws.{Finds-like}
use Rattle.mp_line.proofs.NumberLaws.{without-decimal}

-- ---- the last word

-- the word of a target has no blank
pub bare-target : (t : Option ℕ) → IsShortTarget t → IsWithout 32 (target_text t)
bare-target None short = refl
bare-target (Some n) short = without-decimal 32 n refl (omega arith)

-- a text ends with `over` and a target in one way
pub over-ends : (text : Text) → Ends (codes " over") 32 text IsTargetText (IsOverText text)
over-ends text = record {
  made = λ front word t split h. record {
    short = h.short;
    spelled = ap (λ x. front ++ (codes " over" ++ 32 ∷ x)) h.text ∙ sym split.parts;
  };
  parts = λ front t h. (
    target_text t,
    record { parts = sym h.spelled; last = bare-target t h.short },
    record { short = h.short; text = refl },
  );
}

-- ---- the parts of an instruction

module _ (sig : Sig) (format : Format) (text : Text) where
  -- the text before `over`
  abbrev body_front : Instr → Text
  body_front i = token_text sig i.token ++ (codes " " ++ action_text i.down i.accepts)

  body-over : (i : Instr) → IsInstrBody sig format text i → IsOverText text (body_front i) i.over
  body-over i h = record {
    short = h.right.over;
    spelled = append_assoc (token_text sig i.token) (codes " " ++ action_text i.down i.accepts)
        (codes " over " ++ target_text i.over) ∙ h.spelled;
  }

  -- without a target there is no instruction
  pub no-over : ((p : Text × Option ℕ) → IsOverText text p.0 p.1 → ⊥) → (i : Instr) → IsInstrBody sig format text i → ⊥
  no-over none i h = none (body_front i, i.over) (body-over i h)

  module _ (front : Text) (over : Option ℕ) (ends : IsOnly (λ (p : Text
      × Option ℕ). IsOverText text p.0 p.1) (front, over))
    where
      body-action : (i : Instr) → IsInstrBody sig format text i
          → IsActionText front (token_text sig i.token) i.down i.accepts
      body-action i h =
          let same : body_front i ≡ front = ap (λ (p : Text × Option ℕ). p.0) (ends.only (body_front i, i.over)
          (body-over i h)) in
          record { right = h.right.action; spelled = same }

      body-target : (i : Instr) → IsInstrBody sig format text i → i.over ≡ over
      body-target i h = ap (λ (p : Text × Option ℕ). p.1) (ends.only (body_front i, i.over) (body-over i h))

      -- nor without an action
      pub no-action : ((p : Text × (Option ℕ × List ℕ)) → IsActionText front p.0 p.1.0 p.1.1 → ⊥) → (i : Instr)
          → IsInstrBody sig format text i → ⊥
      no-action none i h = none (token_text sig i.token, (i.down, i.accepts)) (body-action i h)

      module _ (spelling : Text) (down : Option ℕ) (rules : List ℕ)
          (acts : IsOnly (λ (p : Text × (Option ℕ × List ℕ)). IsActionText front p.0 p.1.0 p.1.1) (
            spelling,
            (down, rules),
          ))
        where
          body-parts : (i : Instr) → IsInstrBody sig format text i
              → ◌≡◌ {A = Text × (Option ℕ × List ℕ)} (token_text sig i.token, (i.down, i.accepts)) (
                spelling,
                (down, rules),
              )
          body-parts i h = acts.only (token_text sig i.token, (i.down, i.accepts)) (body-action i h)

          body-token : (i : Instr) → IsInstrBody sig format text i → IsTokenText sig format spelling i.token
          body-token i h = record {
            right = h.right.token;
            spelled = ap (λ (p : Text × (Option ℕ × List ℕ)). p.0) (body-parts i h);
          }

          -- nor without a token
          pub no-token : ((k : NetToken) → IsTokenText sig format spelling k → ⊥) → (i : Instr)
              → IsInstrBody sig format text i
              → ⊥
          no-token none i h = none i.token (body-token i h)

          -- the instruction of the parts is the only one
          pub instr-found : (k : NetToken) → IsOnly (IsTokenText sig format spelling) k
              → IsOnly (IsInstrBody sig format text) (record { token = k; down = down; over = over; accepts = rules })
          instr-found k h = record {
            is = record {
              right = record { token = h.is.right; action = acts.is.right; over = ends.is.short };
              spelled = ap (λ t. t ++ (codes " " ++ (action_text down rules ++
                  (codes " over " ++ target_text over)))) h.is.spelled
                  ∙ (sym (append_assoc spelling (codes " " ++ action_text down rules)
                  (codes " over " ++ target_text over))
                  ∙ (ap (λ t. t ++ (codes " over " ++ target_text over)) acts.is.spelled ∙ ends.is.spelled));
            };
            only = λ i b. (
                let parts = body-parts i b in
                let token = h.only i.token (body-token i b) in
                let downs = ap (λ (p : Text × (Option ℕ × List ℕ)). p.1.0) parts in
                let accepted = ap (λ (p : Text × (Option ℕ × List ℕ)). p.1.1) parts in
                let target = body-target i b in
                ap (λ x. record { token = x; down = i.down; over = i.over; accepts = i.accepts }) token
                ∙ (ap (λ x. record { token = k; down = x; over = i.over; accepts = i.accepts }) downs
                ∙ (ap (λ x. record { token = k; down = down; over = x; accepts = i.accepts }) target
                ∙ ap (λ x. record { token = k; down = down; over = over; accepts = x }) accepted))
                );
          }

-- ---- lines

-- the front of a text is no longer than it
pub front-length : (x y t : Text) → x ++ y ≡ t → length x ≤ length t
front-length x y t e = omega (arith, ap length e, length-append x y)

-- an instruction behind its number and a blank is that of the line
pub body-through : {T : Type 0} (sig : Sig) (format : Format) (n : ℕ) (line text : Text) (view : T → Instr)
    (r : Option T) → line ≡ decimal n ++ (codes " " ++ text) → Finds view (IsInstrBody sig format text) r
    → Finds view (IsInstrText sig format n line) r
body-through sig format n line text view r e =
    Finds-like view (IsInstrBody sig format text) (IsInstrText sig format n line) r
    (λ i h. record { right = h.right; text = ap (λ t. decimal n ++ (codes " " ++ t)) h.spelled ∙ sym e })
    (λ i h. record {
      right = h.right;
      spelled = append_cancel_left (codes " ") _ _ (append_cancel_left (decimal n) _ _ (h.text ∙ e));
    })

-- a line that doesn't begin so has none
pub no-line : (sig : Sig) (format : Format) (n : ℕ) (line : Text)
    → ((text : Text) → line ≡ decimal n ++ (codes " " ++ text) → ⊥) → (i : Instr) → IsInstrText sig format n line i → ⊥
no-line sig format n line none i h = none (token_text sig i.token ++ (codes " " ++ (action_text i.down i.accepts
    ++ (codes " over " ++ target_text i.over)))) (sym h.text)
