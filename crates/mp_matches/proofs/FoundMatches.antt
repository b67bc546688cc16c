-- The matches behind the one of a token, by the names that it has.
use Rattle.std.proofs.Common.{◌≡◌, ◌∙◌, ◌+◌, ◌-◌, ℕ, List, length, map, take, drop, get_or, true, sym, ap, length-drop}
use Rattle.std.proofs.Math.Seq.{take-length}
use Rattle.std.specs.Prelude.{Some, None, position}
use Rattle.std.specs.List.{AllByRecursion}
use Rattle.std.specs.Str.{bytes_eq}
use Rattle.mp_term.specs.Names.{are_distinct}
use Rattle.mp_term.specs.Signature.{Sig}
use Rattle.mp_pattern.specs.Admission.{Rule}
use Rattle.mp_pattern.specs.Planned.{IsPlanned, planned_rule, rule_plan}
use Rattle.mp_pattern.specs.SoundRule.{IsSoundRule}
use Rattle.mp_pattern.specs.declared.planned.PlannedRule.{PlannedRule}
use Rattle.mp_text.specs.File.{Subject, subject_tree}
use Rattle.mp_text.specs.Sound.{IsSoundSubject}
use Rattle.mp_text.specs.declared.file.Subject as code
use Rattle.mp_token.specs.Spelling.{IsToken}
use Rattle.mp_token.specs.TokenText.{token_text}
use Rattle.mp_token.specs.declared.token.Token.{Token}
use Rattle.mp_matches.specs.Computed.{all_matches, behind_token, rule_matches, subject_matches}
use Rattle.mp_matches.proofs.BehindLaws.{appended}
use Rattle.mp_matches.proofs.Found.{found-none, found-some}
use Rattle.mp_matches.proofs.Places.{planned-sound}
use Rattle.mp_matches.proofs.Resuming.{other-rule, other-subjects}

-- a slice up to the end
pub slice-rest : {A : Type 0} (xs : List A) (n : ℕ) → take (length xs - n) (drop n xs) ≡ drop n xs
slice-rest xs n = ap (λ k. take k (drop n xs)) (sym (length-drop n xs)) ∙ take-length (drop n xs)

module _ (sig : Sig) (ps : List PlannedRule) (planned : AllByRecursion (IsPlanned sig) (map rule_plan ps))
    (token : Token) (is : IsToken token) where
  module _ (s : Subject) (sound : IsSoundSubject sig s) where
    others : (r : Rule) → IsSoundRule sig r → (r.name ≡ token.rule → ⊥)
        → behind_token (token_text token) (rule_matches sig s r) ≡ None
    others r rule h = other-rule sig s r sound rule token is h

    -- no rule has the token's name
    pub rules-none : position (λ p. bytes_eq p.rule.now.name token.rule) ps ≡ None
        → behind_token (token_text token) (subject_matches sig (map planned_rule ps) s) ≡ None
    rules-none e = found-none planned_rule (rule_matches sig s) (λ r. r.name) (token_text token) token.rule
        (IsSoundRule sig) others ps (planned-sound sig ps planned) e

    -- the rule of that name, and those behind it
    pub rules-found : are_distinct (map (λ r. r.name) (map planned_rule ps)) ≡ true → (i : ℕ) (p : PlannedRule)
        → position (λ p. bytes_eq p.rule.now.name token.rule) ps ≡ Some i → p ≡ get_or ps i p
        → behind_token (token_text token) (subject_matches sig (map planned_rule ps) s)
        ≡ appended (behind_token (token_text token) (rule_matches sig s (planned_rule p)))
        (subject_matches sig (map planned_rule (take (length ps - (i + 1)) (drop (i + 1) ps))) s)
    rules-found apart i p e at =
        found-some planned_rule (rule_matches sig s) (λ r. r.name) (token_text token) token.rule (IsSoundRule sig)
        others ps (planned-sound sig ps planned) i e p at apart
        ∙ ap (λ qs. appended (behind_token (token_text token) (rule_matches sig s (planned_rule p)))
        (subject_matches sig (map planned_rule qs) s)) (sym (slice-rest ps (i + 1)))

  module _ (ss : List code.Subject) (sound : AllByRecursion (IsSoundSubject sig) (map subject_tree ss)) where
    elsewhere : (s : Subject) → IsSoundSubject sig s → (s.name ≡ token.subject → ⊥)
        → behind_token (token_text token) (subject_matches sig (map planned_rule ps) s) ≡ None
    elsewhere s subject h =
        other-subjects sig s (map planned_rule ps) token subject (planned-sound sig ps planned) is h

    -- no subject has the token's name
    pub subjects-none : position (λ s. bytes_eq s.name token.subject) ss ≡ None
        → behind_token (token_text token) (all_matches sig (map planned_rule ps) (map subject_tree ss)) ≡ None
    subjects-none e = found-none subject_tree (subject_matches sig (map planned_rule ps)) (λ s. s.name)
        (token_text token) token.subject (IsSoundSubject sig) elsewhere ss sound e

    -- the subject of that name, and those behind it
    pub subjects-found : are_distinct (map (λ s. s.name) (map subject_tree ss)) ≡ true → (i : ℕ) (s : code.Subject)
        → position (λ s. bytes_eq s.name token.subject) ss ≡ Some i → s ≡ get_or ss i s
        → behind_token (token_text token) (all_matches sig (map planned_rule ps) (map subject_tree ss))
        ≡ appended (behind_token (token_text token) (subject_matches sig (map planned_rule ps) (subject_tree s)))
        (all_matches sig (map planned_rule ps) (map subject_tree (take (length ss - (i + 1)) (drop (i + 1) ss))))
    subjects-found apart i s e at =
        found-some subject_tree (subject_matches sig (map planned_rule ps)) (λ s. s.name) (token_text token)
        token.subject (IsSoundSubject sig) elsewhere ss sound i e s at apart
        ∙ ap (λ ts. appended
        (behind_token (token_text token) (subject_matches sig (map planned_rule ps) (subject_tree s)))
        (all_matches sig (map planned_rule ps) (map subject_tree ts))) (sym (slice-rest ss (i + 1)))
