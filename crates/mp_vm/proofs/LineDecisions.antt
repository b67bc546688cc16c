-- Of each text it is decided whether it is that of a line, and of which.
use Rattle.std.proofs.Common.{◌≡◌, ◌≤◌, ℕ, suc, Bool, true, List, [], ◌++◌, map, Option, Some}
use Rattle.std.proofs.Common.{None, inl, inr, refl, ap, sym, ◌∙◌, subst}
use Rattle.std.specs.Prelude.{◌≢◌, ◌⊎◌, length, codes, decimal, position, bytes_eq, slice_get, IsSome}
use Rattle.std.specs.List.{AllByRecursion}
use Rattle.std.proofs.lemmas.Iterator.Adapters.{option_map_id}
use Rattle.std.proofs.lemmas.List.{map-id}
use Rattle.mp_io.specs.Devices.{Text}
use Rattle.mp_term.specs.Names.{is_name}
use Rattle.mp_term.specs.Signature.{Sig, IsSignature, has_name, kind_names}
use Rattle.mp_term.specs.Size.{node_count}
use Rattle.mp_term.specs.Tree.{Tree, symbol}
use Rattle.mp_pattern.specs.declared.limits.TheConstants.{MAX_DEFAULT_NODES, MAX_VARIABLES}
use Rattle.mp_pattern.specs.CondTree.{Cond}
use Rattle.mp_pattern.specs.Firsts.{is_known}
use Rattle.mp_pattern.specs.NetTokens.{NetToken, sym_token, enter_token, leave_token, wild_token, comm_token}
use Rattle.mp_pattern.specs.PatternTree.{Wildcard, dot, kind, plus, star, optional, counted}
use Rattle.mp_pattern.specs.Value.{same_name}
use Rattle.mp_walk.specs.Walkable.{numbered_names}
use Rattle.mp_print.specs.Printing.{preceded, kind_name_text, term_text}
use Rattle.mp_print.specs.PrintedPattern.{pattern_text}
use Rattle.mp_print.specs.PrintedCond.{op_name_text, cond_text}
use Rattle.mp_build.specs.Alone.{IsTermOf}
use Rattle.mp_build.specs.AloneCondition.{IsCondOf}
use Rattle.mp_program.specs.declared.format.Format.{Format}
use Rattle.mp_program.specs.declared.format.Format.TheVariants.{One, Two}
use Rattle.mp_program.specs.Form.{RuleTest, untested, tested, spelled, Form}
use Rattle.mp_program.specs.FormText as text
use Rattle.mp_program.specs.FormText.{variable_text, target_text, action_text, token_text, rule_test_text}
use Rattle.mp_program.specs.RightForm.{IsShort, IsShortTarget, are_ascending, IsWildcardOf}
use Rattle.mp_program.specs.RightForm.{IsRightComm, IsRightToken, IsRightAction, IsRightInstr}
use Rattle.mp_program.specs.RightForm.{IsRightTest, IsRightRuleTest, IsRightRule, IsDeclaration, IsRightCond}
use Rattle.mp_program.specs.TokenPaths.{cond_names}
use Rattle.mp_line.specs.LineTexts.{AreNumbersText, IsHeldOp, IsHeldKind}
use Rattle.mp_line.specs.Lines.{Line, op_line, kind_line, test_line, rule_line, code_line, begin_line, instr_line}
use Rattle.mp_line.specs.Lines.{stop_line}
use Rattle.mp_line.proofs.HeldLaws.{Finds-op, Finds-kind}
use Rattle.mp_vm.specs.Machine.{IsNextText}
use Rattle.mp_vm.proofs.Decisions.{Decided, decided-by, decided-both, decided-not, decided-true, decided-either}
use Rattle.mp_vm.proofs.Decisions.{decided-text, decided-empty, decided-all, decided-found, decided-only}
use Rattle.mp_vm.proofs.Decisions.{Behind, decided-behind, Spells}
use Rattle.mp_vm.proofs.Decisions.{decided-spell-both, decided-begun, decided-ended, decided-items}
use Rattle.mp_vm.proofs.OneReading.{cond-one, numbers-one}
use Rattle.mp_vm.proofs.ValueDecisions.{decided-decimal, decided-target, decided-wildcard, decided-format}
use Rattle.mp_vm.proofs.ValueDecisions.{decided-condition, decided-symbol, decided-default, decided-comm, IsCount}
use Rattle.mp_vm.proofs.ValueDecisions.{count_text, decided-count, decided-exact}

-- ---- actions

-- where an action leads down and what it accepts
abbrev IsAct : Option ℕ × List ℕ → Type 0
IsAct p = IsRightAction p.0 p.1

abbrev act_text : Option ℕ × List ℕ → Text
act_text p = action_text p.0 p.1

-- the text is that of rules that an action accepts
abbrev AreAccepted : Text → Type 0
AreAccepted t = (ns : List ℕ) × AreNumbersText t ns × ((ns ≢ []) × (are_ascending ns ≡ true))

decided-accepted : (t : Text) → Decided (AreAccepted t)
decided-accepted t =
    decided-only (AreNumbersText t) (λ ns. (ns ≢ []) × (are_ascending ns ≡ true)) (λ ms ns h k. numbers-one ms ns t h k)
    (λ ns. decided-both (decided-not (decided-empty ns)) (decided-true (are_ascending ns)))
    (decided-by (λ h. (h.0, record { right = h.1; spelled = h.2 })) (λ h. (h.0, h.1.right, h.1.spelled))
    (decided-items IsShort decimal decided-decimal t))

decided-action : (t : Text) → Decided (Spells IsAct act_text t)
decided-action t =
    decided-by there (λ h. back h.0.0 h.0.1 h.1 h.2)
    (decided-either (decided-behind (codes "down ") (Spells IsShort decimal) t (λ rest _. decided-decimal rest))
    (decided-behind (codes "accept") AreAccepted t (λ rest _. decided-accepted rest)))
  where
    there : Behind (codes "down ") (Spells IsShort decimal) t ⊎ Behind (codes "accept") AreAccepted t
        → Spells IsAct act_text t
    there (inl h) = ((Some h.2.0, []), (h.2.1, refl), ap (λ l. codes "down " ++ l) h.2.2 ∙ sym h.1)
    there (inr h) = (
      (None, h.2.0),
      (h.2.2.0, h.2.2.1, h.2.1.right),
      ap (λ l. codes "accept" ++ l) h.2.1.spelled ∙ sym h.1,
    )

    back : (d : Option ℕ) (ns : List ℕ) → IsRightAction d ns → action_text d ns ≡ t
        → Behind (codes "down ") (Spells IsShort decimal) t ⊎ Behind (codes "accept") AreAccepted t
    back (Some n) ns h e = inl (decimal n, sym e, (n, h.0, refl))
    back None ns h e = inr (
      preceded (codes " ") (map decimal ns),
      sym e,
      (ns, record { right = h.2; spelled = refl }, (h.0, h.1)),
    )

-- ---- tokens

module _ (sig : Sig) (held : IsSignature sig) where
  decided-op : (name : Text) → Decided ((f : ℕ) × IsHeldOp sig name f)
  decided-op name = decided-found (IsHeldOp sig name) (position (has_name name) sig.ops)
      (Finds-op (λ i. i) sig name (position (has_name name) sig.ops) held.ops_distinct
      (option_map_id (position (has_name name) sig.ops)))

  abbrev IsKind : ℕ → Type 0
  IsKind k = IsSome (slice_get (kind_names sig) k)

  decided-kind : (name : Text) → Decided (Spells IsKind (kind_name_text sig) name)
  decided-kind name =
      decided-by (λ h. (h.0, h.1.held, h.1.text)) (λ h. (h.0, record { held = h.1; text = h.2 }))
      (decided-found (IsHeldKind sig name) (position (bytes_eq name) (kind_names sig))
      (Finds-kind (λ i. i) sig name (position (bytes_eq name) (kind_names sig)) held.kinds_distinct
      (option_map_id (position (bytes_eq name) (kind_names sig)))))

  abbrev IsDefault : Tree → Type 0
  IsDefault u = IsTermOf sig (term_text sig u) u × (node_count u ≤ MAX_DEFAULT_NODES)

  abbrev IsVariable : Text → Type 0
  IsVariable = Spells IsShortTarget variable_text

  -- a kind and a variable
  abbrev IsKindText : Text → Type 0
  IsKindText t = (k : ℕ) × (x : Option ℕ) × IsKind k × IsShortTarget x
      × (kind_name_text sig k ++ (codes " " ++ variable_text x) ≡ t)

  -- a variable and a default
  abbrev IsOptionalText : Text → Type 0
  IsOptionalText t = (x : Option ℕ) × (u : Tree) × IsShortTarget x × IsDefault u
      × (variable_text x ++ (codes " " ++ term_text sig u) ≡ t)

  -- a variable and a count
  abbrev IsCountedText : Text → Type 0
  IsCountedText t = (x : Option ℕ) × (p : ℕ × Bool) × IsShortTarget x × IsCount p
      × (variable_text x ++ (codes " " ++ count_text p) ≡ t)

  module _ (format : Format) where
    free-kind : (f : Format) (k : ℕ) → IsWildcardOf f (kind k)
    free-kind One k = tt
    free-kind Two k = tt

    free-optional : (f : Format) (u : Tree) → IsWildcardOf f (optional u)
    free-optional One u = tt
    free-optional Two u = tt

    free-counted : (f : Format) (p : ℕ × Bool) → f ≡ Two → IsWildcardOf f (counted p.0 p.1)
    free-counted One p e = absurd cc
    free-counted Two p e = tt

    format-counted : (f : Format) (n : ℕ) (fixed : Bool) → IsWildcardOf f (counted n fixed) → f ≡ Two
    format-counted One n fixed h = absurd h
    format-counted Two n fixed h = refl

    -- the text is that of a wildcard that takes this
    abbrev IsWild : Text → Wildcard → Text → Type 0
    IsWild word w t = IsWildcardOf format w × Behind word IsVariable t

    decided-wild : (word : Text) (w : Wildcard) (t : Text) → Decided (IsWild word w t)
    decided-wild word w t = decided-both (decided-wildcard format w)
        (decided-behind word IsVariable t (λ rest _. decided-target variable_text rest))

    -- the forms of a token
    abbrev IsSymbol : Text → Type 0
    IsSymbol = Behind (codes "sym ") (λ n. IsTermOf sig n (symbol n))

    abbrev IsEdge : Text → Text → Type 0
    IsEdge word = Behind word (λ name. (f : ℕ) × IsHeldOp sig name f)

    abbrev IsComm : Text → Type 0
    IsComm = Behind (codes "comm ") (Spells (IsRightComm sig format) (pattern_text sig))

    abbrev IsToken : Text → Type 0
    IsToken t = (IsSymbol t ⊎ (IsEdge (codes "enter ") t ⊎ IsEdge (codes "leave ") t))
        ⊎ ((IsComm t ⊎ (IsWild (codes "dot ") dot t ⊎ (IsWild (codes "plus ") plus t ⊎ IsWild (codes "star ") star t)))
        ⊎ (Behind (codes "kind ") IsKindText t ⊎ (Behind (codes "opt ") IsOptionalText t
        ⊎ ((format ≡ Two) × Behind (codes "counted ") IsCountedText t))))

    decided-edge : (word t : Text) → Decided (IsEdge word t)
    decided-edge word t = decided-behind word (λ name. (f : ℕ) × IsHeldOp sig name f) t (λ rest _. decided-op rest)

    decided-is_token : (t : Text) → Decided (IsToken t)
    decided-is_token t =
        decided-either (decided-either
        (decided-behind (codes "sym ") (λ n. IsTermOf sig n (symbol n)) t (λ rest _. decided-symbol sig rest))
        (decided-either (decided-edge (codes "enter ") t) (decided-edge (codes "leave ") t)))
        (decided-either (decided-either
        (decided-behind (codes "comm ") (Spells (IsRightComm sig format) (pattern_text sig)) t
        (λ rest _. decided-comm sig format rest))
        (decided-either (decided-wild (codes "dot ") dot t)
        (decided-either (decided-wild (codes "plus ") plus t) (decided-wild (codes "star ") star t))))
        (decided-either
        (decided-behind (codes "kind ") IsKindText t (λ rest _. decided-spell-both IsKind (kind_name_text sig)
        (codes " ") IsShortTarget variable_text rest decided-kind (decided-target variable_text)))
        (decided-either
        (decided-behind (codes "opt ") IsOptionalText t (λ rest _. decided-spell-both IsShortTarget variable_text
        (codes " ") IsDefault (term_text sig) rest (decided-target variable_text) (decided-default sig)))
        (decided-both (decided-format format Two) (decided-behind (codes "counted ") IsCountedText t
        (λ rest _. decided-spell-both IsShortTarget variable_text (codes " ") IsCount count_text rest
        (decided-target variable_text) decided-count))))))

    decided-token : (t : Text) → Decided (Spells (IsRightToken sig format) (token_text sig) t)
    decided-token t = decided-by there (λ h. back h.0 h.1 h.2) (decided-is_token t)
      where
        there : IsToken t → Spells (IsRightToken sig format) (token_text sig) t
        there (inl (inl h)) = (sym_token h.0, h.2, sym h.1)
        there (inl (inr (inl h))) =
            (enter_token h.2.0, h.2.1.held, ap (λ l. codes "enter " ++ l) h.2.1.text ∙ sym h.1)
        there (inl (inr (inr h))) =
            (leave_token h.2.0, h.2.1.held, ap (λ l. codes "leave " ++ l) h.2.1.text ∙ sym h.1)
        there (inr (inl (inl h))) = (comm_token h.2.0, h.2.1, ap (λ l. codes "comm " ++ l) h.2.2 ∙ sym h.1)
        there (inr (inl (inr (inl h)))) =
            (wild_token dot h.1.2.0, (tt, h.0, h.1.2.1), ap (λ l. codes "dot " ++ l) h.1.2.2 ∙ sym h.1.1)
        there (inr (inl (inr (inr (inl h))))) =
            (wild_token plus h.1.2.0, (tt, h.0, h.1.2.1), ap (λ l. codes "plus " ++ l) h.1.2.2 ∙ sym h.1.1)
        there (inr (inl (inr (inr (inr h))))) =
            (wild_token star h.1.2.0, (tt, h.0, h.1.2.1), ap (λ l. codes "star " ++ l) h.1.2.2 ∙ sym h.1.1)
        there (inr (inr (inl h))) = (
          wild_token (kind h.2.0) h.2.1,
          (h.2.2, free-kind format h.2.0, h.2.3),
          ap (λ l. codes "kind " ++ l) h.2.4 ∙ sym h.1,
        )
        there (inr (inr (inr (inl h)))) = (
          wild_token (optional h.2.1) h.2.0,
          (h.2.3, free-optional format h.2.1, h.2.2),
          ap (λ l. codes "opt " ++ l) h.2.4 ∙ sym h.1,
        )
        there (inr (inr (inr (inr h)))) = (
          wild_token (counted h.1.2.1.0 h.1.2.1.1) h.1.2.0,
          (h.1.2.3, free-counted format h.1.2.1 h.0, h.1.2.2),
          ap (λ l. codes "counted " ++ l) h.1.2.4 ∙ sym h.1.1,
        )

        back : (k : NetToken) → IsRightToken sig format k → token_text sig k ≡ t → IsToken t
        back (sym_token n) h e = inl (inl (n, sym e, h))
        back (enter_token f) h e =
            inl (inr (inl (op_name_text sig f, sym e, (f, record { held = h; text = refl }))))
        back (leave_token f) h e =
            inl (inr (inr (op_name_text sig f, sym e, (f, record { held = h; text = refl }))))
        back (comm_token p) h e = inr (inl (inl (pattern_text sig p, sym e, (p, h, refl))))
        back (wild_token dot x) h e = inr (inl (inr (inl (h.1, (variable_text x, sym e, (x, h.2, refl))))))
        back (wild_token plus x) h e = inr (inl (inr (inr (inl (h.1, (variable_text x, sym e, (x, h.2, refl)))))))
        back (wild_token star x) h e = inr (inl (inr (inr (inr (h.1, (variable_text x, sym e, (x, h.2, refl)))))))
        back (wild_token (kind k) x) h e = inr (inr (inl (
          kind_name_text sig k ++ (codes " " ++ variable_text x),
          sym e,
          (k, x, h.0, h.2, refl),
        )))
        back (wild_token (optional u) x) h e = inr (inr (inr (inl (
          variable_text x ++ (codes " " ++ term_text sig u),
          sym e,
          (x, u, h.2, h.0, refl),
        ))))
        back (wild_token (counted n fixed) x) h e = inr (inr (inr (inr (
          format-counted format n fixed h.1,
          (
            variable_text x ++ (codes " " ++ count_text (n, fixed)),
            sym e,
            (x, (n, fixed), h.2, h.0, refl),
          ),
        ))))

    -- ---- instructions

    -- an action and the instruction over
    abbrev IsActOver : (Option ℕ × List ℕ) × Option ℕ → Type 0
    IsActOver p = IsAct p.0 × IsShortTarget p.1

    abbrev act_over_text : (Option ℕ × List ℕ) × Option ℕ → Text
    act_over_text p = act_text p.0 ++ (codes " over " ++ target_text p.1)

    decided-act_over : (t : Text) → Decided (Spells IsActOver act_over_text t)
    decided-act_over t =
        decided-by (λ h. ((h.0, h.1), (h.2, h.3), h.4)) (λ h. (h.0.0, h.0.1, h.1.0, h.1.1, h.2))
        (decided-spell-both IsAct act_text (codes " over ") IsShortTarget target_text t decided-action
        (decided-target target_text))

    -- what stands behind the number and a blank
    abbrev IsBody : Text → Type 0
    IsBody t = (k : NetToken) × (p : (Option ℕ × List ℕ) × Option ℕ) × IsRightToken sig format k × IsActOver p
        × (token_text sig k ++ (codes " " ++ act_over_text p) ≡ t)

    pub decided-instr : (n : ℕ) (t : Text) → Decided (Spells (IsRightInstr sig format) (text.instr_line sig n) t)
    decided-instr n t =
        decided-by
        (λ h. (
          record { token = h.2.2.0; down = h.2.2.1.0.0; over = h.2.2.1.1; accepts = h.2.2.1.0.1 },
          record { token = h.2.2.2; action = h.2.2.3.0; over = h.2.2.3.1 },
          ap (λ l. decimal n ++ (codes " " ++ l)) h.2.2.4 ∙ ap (λ l. decimal n ++ l) (sym h.2.1) ∙ sym h.1,
        ))
        (λ h.
        let body = token_text sig h.0.token ++ (codes " " ++ act_over_text ((h.0.down, h.0.accepts), h.0.over)) in (
          codes " " ++ body,
          sym h.2,
          (
            body,
            refl,
            (h.0.token, ((h.0.down, h.0.accepts), h.0.over), h.1.token, (h.1.action, h.1.over), refl),
          ),
        ))
        (decided-behind (decimal n) (Behind (codes " ") IsBody) t (λ rest _. decided-behind (codes " ") IsBody rest
        (λ body _. decided-spell-both (IsRightToken sig format) (token_text sig) (codes " ") IsActOver act_over_text
        body decided-token decided-act_over)))

-- ---- tests and rules

module _ (sig : Sig) where
  decided-cond : (Q : Cond → Type 0) → ((c : Cond) → Decided (Q c)) → (t : Text)
      → Decided (Spells (λ c. IsRightCond sig c × Q c) (cond_text sig) t)
  decided-cond Q q t = decided-exact (IsCondOf sig None) (cond_text sig) (cond-one sig) Q q t (decided-condition sig t)

  abbrev HasTestNames : Cond → Type 0
  HasTestNames c = AllByRecursion (λ x. is_known same_name (numbered_names MAX_VARIABLES) x ≡ true) (cond_names c)

  pub decided-test : (t : Text) → Decided (Spells (IsRightTest sig) (text.test_line sig) t)
  decided-test t =
      decided-by (λ h. (h.0, record { right = h.1.0; names = h.1.1 }, h.2)) (λ h. (h.0, (h.1.right, h.1.names), h.2))
      (decided-begun (codes "test ") (λ c. IsRightCond sig c × HasTestNames c) (λ c. cond_text sig c ++ codes ";") t
      (λ rest. decided-ended (codes ";") (λ c. IsRightCond sig c × HasTestNames c) (cond_text sig) rest
      (decided-cond HasTestNames
      (λ c. decided-all (λ x. is_known same_name (numbered_names MAX_VARIABLES) x ≡ true)
      (λ x. decided-true (is_known same_name (numbered_names MAX_VARIABLES) x)) (cond_names c)))))

  module _ (format : Format) where
    -- the forms of the test of a rule line
    abbrev IsTest : Text → Type 0
    IsTest t = (t ≡ []) ⊎ (((format ≡ Two) × Spells IsShort (λ n. codes " if [" ++ (decimal n ++ codes "]")) t)
        ⊎ ((format ≡ One) × Spells (λ c. IsRightCond sig c × (true ≡ true)) (λ c. codes " if " ++ cond_text sig c) t))

    decided-rule_test : (t : Text) → Decided (Spells (IsRightRuleTest sig format) (rule_test_text sig) t)
    decided-rule_test t =
        decided-by there (λ h. back h.0 h.1 h.2)
        (decided-either (decided-text t []) (decided-either
        (decided-both (decided-format format Two)
        (decided-begun (codes " if [") IsShort (λ n. decimal n ++ codes "]") t
        (λ rest. decided-ended (codes "]") IsShort decimal rest decided-decimal)))
        (decided-both (decided-format format One)
        (decided-begun (codes " if ") (λ c. IsRightCond sig c × (true ≡ true)) (cond_text sig) t
        (decided-cond (λ c. true ≡ true) (λ c. inl refl))))))
      where
        there : IsTest t → Spells (IsRightRuleTest sig format) (rule_test_text sig) t
        there (inl e) = (untested, tt, sym e)
        there (inr (inl h)) = (tested h.1.0, (h.0, h.1.1), h.1.2)
        there (inr (inr h)) = (spelled h.1.0, (h.0, h.1.1.0), h.1.2)

        back : (r : RuleTest) → IsRightRuleTest sig format r → rule_test_text sig r ≡ t → IsTest t
        back untested h e = inl (sym e)
        back (tested n) h e = inr (inl (h.0, (n, h.1, e)))
        back (spelled c) h e = inr (inr (h.0, (c, (h.1, refl), e)))

    abbrev IsName : Text → Type 0
    IsName x = is_name x ≡ true

    decided-name : (t : Text) → Decided (Spells IsName (λ x. x) t)
    decided-name t = decided-by (λ h. (t, h, refl)) (λ h. subst IsName h.2 h.1) (decided-true (is_name t))

    abbrev AreNames : List Text → Type 0
    AreNames = AllByRecursion IsName

    decided-names : (t : Text) → Decided (Spells AreNames (preceded (codes " ")) t)
    decided-names t =
        decided-by (λ h. (h.0, h.1, sym (ap (preceded (codes " ")) (map-id h.0)) ∙ h.2))
        (λ h. (h.0, h.1, ap (preceded (codes " ")) (map-id h.0) ∙ h.2))
        (decided-items IsName (λ x. x) decided-name t)

    abbrev ended_test : RuleTest → Text
    ended_test r = rule_test_text sig r ++ codes ";"

    -- the variables of a rule line and its test
    abbrev IsTail : List Text × RuleTest → Type 0
    IsTail p = AreNames p.0 × IsRightRuleTest sig format p.1

    abbrev tail_text : List Text × RuleTest → Text
    tail_text p = preceded (codes " ") p.0 ++ ended_test p.1

    decided-tail : (t : Text) → Decided (Spells IsTail tail_text t)
    decided-tail t =
        decided-by (λ h. ((h.0, h.1), (h.2, h.3), h.4)) (λ h. (h.0.0, h.0.1, h.1.0, h.1.1, h.2))
        (decided-spell-both AreNames (preceded (codes " ")) [] (IsRightRuleTest sig format) ended_test t decided-names
        (λ rest. decided-ended (codes ";") (IsRightRuleTest sig format) (rule_test_text sig) rest decided-rule_test))

    -- what stands behind `rule `
    abbrev IsRuleParts : Text → Type 0
    IsRuleParts t = (x : Text) × (p : List Text × RuleTest) × IsName x × IsTail p × (x ++ tail_text p ≡ t)

    pub decided-rule : (t : Text) → Decided (Spells (IsRightRule sig format) (text.rule_line sig) t)
    decided-rule t =
        decided-by
        (λ h. (
          record { name = h.2.0; vars = h.2.1.0; test = h.2.1.1 },
          record { name = h.2.2; vars = h.2.3.0; test = h.2.3.1 },
          ap (λ l. codes "rule " ++ l) h.2.4 ∙ sym h.1,
        ))
        (λ h. (
          h.0.name ++ tail_text (h.0.vars, h.0.test),
          sym h.2,
          (h.0.name, (h.0.vars, h.0.test), h.1.name, (h.1.vars, h.1.test), refl),
        ))
        (decided-behind (codes "rule ") IsRuleParts t (λ rest _. decided-spell-both IsName (λ x. x) [] IsTail tail_text
        rest decided-name decided-tail))

-- ---- lines

decided-declaration : (word line : Text) → Decided (IsDeclaration word line)
decided-declaration word line =
    decided-by (λ h. (h.0, sym h.2)) (λ h. (h.0, refl, sym h.1))
    (decided-begun word (λ (m : Text). true ≡ true) (λ m. m ++ codes ";") line
    (λ rest. decided-ended (codes ";") (λ (m : Text). true ≡ true) (λ m. m) rest (λ t. inl (t, refl, refl))))

module _ (sig : Sig) (held : IsSignature sig) (f : Form) where
  -- the kinds of a line
  abbrev IsOneOf : Text → Type 0
  IsOneOf line = ((IsDeclaration (codes "op ") line ⊎ IsDeclaration (codes "kind ") line)
      ⊎ (Spells (IsRightTest sig) (text.test_line sig) line
      ⊎ Spells (IsRightRule sig f.format) (text.rule_line sig) line))
      ⊎ (((line ≡ codes "code") ⊎ Behind (codes "0 begin down ") (Spells IsShortTarget target_text) line)
      ⊎ (Spells (IsRightInstr sig f.format) (text.instr_line sig (suc (length f.code))) line
      ⊎ (line ≡ decimal (suc (length f.code)) ++ codes " stop")))

  decided-one : (line : Text) → Decided (IsOneOf line)
  decided-one line =
      decided-either
      (decided-either
      (decided-either (decided-declaration (codes "op ") line) (decided-declaration (codes "kind ") line))
      (decided-either (decided-test sig line) (decided-rule sig f.format line)))
      (decided-either
      (decided-either (decided-text line (codes "code"))
      (decided-behind (codes "0 begin down ") (Spells IsShortTarget target_text) line
      (λ rest _. decided-target target_text rest)))
      (decided-either (decided-instr sig held f.format (suc (length f.code)) line)
      (decided-text line (decimal (suc (length f.code)) ++ codes " stop"))))

  -- a text is that of a line behind what is read, or of none
  pub decided-line : (line : Text) → Decided ((l : Line) × IsNextText sig f line l)
  decided-line line = decided-by there (λ h. back h.0 h.1) (decided-one line)
    where
      there : IsOneOf line → (l : Line) × IsNextText sig f line l
      there (inl (inl (inl h))) = (op_line, h)
      there (inl (inl (inr h))) = (kind_line, h)
      there (inl (inr (inl h))) = (test_line h.0, (h.1, h.2))
      there (inl (inr (inr h))) = (rule_line h.0, (h.1, h.2))
      there (inr (inl (inl h))) = (code_line, h)
      there (inr (inl (inr h))) =
          (begin_line h.2.0, (h.2.1, h.1 ∙ ap (λ l. codes "0 begin down " ++ l) (sym h.2.2)))
      there (inr (inr (inl h))) = (instr_line h.0, (h.1, h.2))
      there (inr (inr (inr h))) = (stop_line, h)

      back : (l : Line) → IsNextText sig f line l → IsOneOf line
      back op_line h = inl (inl (inl h))
      back kind_line h = inl (inl (inr h))
      back (test_line c) h = inl (inr (inl (c, h.0, h.1)))
      back (rule_line r) h = inl (inr (inr (r, h.0, h.1)))
      back code_line h = inr (inl (inl h))
      back (begin_line d) h = inr (inl (inr (target_text d, h.1, (d, h.0, refl))))
      back (instr_line i) h = inr (inr (inl (i, h.0, h.1)))
      back stop_line h = inr (inr (inr h))
