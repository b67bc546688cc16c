-- A path stands for one pattern at most, and a table fits that with one substitution.
use Rattle.std.proofs.Common.{◌≡◌, ℕ, Bool, true, false, List, [], ◌∷◌, ◌++◌, length, refl, ap, ap₂, sym, ◌∙◌}
use Rattle.std.proofs.Common.{append_assoc}
use Rattle.std.specs.Prelude.{Option, Some, None, option_map, if◌then◌else◌}
use Rattle.mp_term.specs.Signature.{Sig, is_comm}
use Rattle.mp_term.specs.Normal.{IsNormal}
use Rattle.mp_term.specs.Tree.{Tree}
use Rattle.mp_pattern.specs.Fits.{Fits, Table}
use Rattle.mp_pattern.specs.NetTokens.{NetToken, sym_token, enter_token, leave_token, wild_token, comm_token}
use Rattle.mp_pattern.specs.NetTokens.{all_tokens, number_in, numbered, renamed, tokens}
use Rattle.mp_pattern.specs.PatternTree.{Wildcard, Pattern, symbol_pattern, app_pattern, wild_pattern}
use Rattle.mp_pattern.specs.PatternTree.{Patterns, no_patterns, more_patterns}
use Rattle.mp_pattern.specs.Value.{Subst}
use Rattle.mp_pattern.specs.Variables.{variables}
use Rattle.mp_theory.proofs.FitsSolves.{fits-solves}
use Rattle.mp_walk.specs.Walkable.{Path, StandsFor, numbered_names}
use Rattle.mp_walk.proofs.NumberedNames.{NamesIn, AllNamesIn, numbered-number_in, own-names, renamed-itself}

-- the tokens of an application, whose operation is commutative or isn't
abbrev pub app_tokens : Sig → List (List ℕ) → ℕ → Patterns → Bool → List NetToken
app_tokens sig vs f ps b =
    if b then comm_token (renamed vs (app_pattern f ps)) ∷ []
    else (enter_token f ∷ (all_tokens sig vs ps ++ (leave_token f ∷ [])))

module _ (sig : Sig) (vs : List (List ℕ)) where
  symbol-not_app : (n : List ℕ) (f : ℕ) (ps : Patterns) (b : Bool) (ks ls : List NetToken)
      → sym_token n ∷ ks ≡ app_tokens sig vs f ps b ++ ls → ⊥
  symbol-not_app n f ps true ks ls e = absurd cc
  symbol-not_app n f ps false ks ls e = absurd cc

  wild-not_app : (w : Wildcard) (x : Option ℕ) (f : ℕ) (ps : Patterns) (b : Bool) (ks ls : List NetToken)
      → wild_token w x ∷ ks ≡ app_tokens sig vs f ps b ++ ls → ⊥
  wild-not_app w x f ps true ks ls e = absurd cc
  wild-not_app w x f ps false ks ls e = absurd cc

  leave-not_app : (g f : ℕ) (ps : Patterns) (b : Bool) (ks ls : List NetToken)
      → leave_token g ∷ ks ≡ app_tokens sig vs f ps b ++ ls → ⊥
  leave-not_app g f ps true ks ls e = absurd cc
  leave-not_app g f ps false ks ls e = absurd cc

  leave-not_first : (g : ℕ) (p : Pattern) (ks ls : List NetToken) → leave_token g ∷ ks ≡ tokens sig vs p ++ ls → ⊥
  leave-not_first g (symbol_pattern n) ks ls e = absurd cc
  leave-not_first g (wild_pattern w x) ks ls e = absurd cc
  leave-not_first g (app_pattern f ps) ks ls e = leave-not_app g f ps (is_comm sig f) ks ls e

module _ (sig : Sig) (vs ws : List (List ℕ)) (vs_names : vs ≡ numbered_names (length vs))
    (ws_names : ws ≡ numbered_names (length ws)) where
  -- names with the same number are the same
  names-same : (w : Wildcard) (x y : Option (List ℕ)) → NamesIn vs (wild_pattern w x) → NamesIn ws (wild_pattern w y)
      → option_map (number_in vs) x ≡ option_map (number_in ws) y → x ≡ y
  names-same w None None h k e = refl
  names-same w None (Some y) h k e = absurd cc
  names-same w (Some x) None h k e = absurd cc
  names-same w (Some x) (Some y) h k e =
      let n : number_in vs x ≡ number_in ws y = cc in
      ap Some (sym (numbered-number_in vs vs_names x h) ∙ ap numbered n ∙ numbered-number_in ws ws_names y k)

  -- applications with the same tokens, where their arguments are the same if the tokens of these are
  apps-same : (f g : ℕ) (ps qs : Patterns) → AllNamesIn vs ps → AllNamesIn ws qs
      → ((ks ls : List NetToken) → all_tokens sig vs ps ++ (leave_token f ∷ ks)
      ≡ all_tokens sig ws qs ++ (leave_token g ∷ ls) → (ps ≡ qs) × (ks ≡ ls))
      → (ks ls : List NetToken) (b c : Bool) → app_tokens sig vs f ps b ++ ks ≡ app_tokens sig ws g qs c ++ ls
      → (app_pattern f ps ≡ app_pattern g qs) × (ks ≡ ls)
  apps-same f g ps qs h k inner ks ls true true e =
      let own : renamed vs (app_pattern f ps) ≡ renamed ws (app_pattern g qs) = cc in (
        sym (renamed-itself vs vs_names (app_pattern f ps) h) ∙ own
            ∙ renamed-itself ws ws_names (app_pattern g qs) k,
        cc,
      )
  apps-same f g ps qs h k inner ks ls true false e = absurd cc
  apps-same f g ps qs h k inner ks ls false true e = absurd cc
  apps-same f g ps qs h k inner ks ls false false e =
      let op : f ≡ g = cc in
      let args : (all_tokens sig vs ps ++ (leave_token f ∷ [])) ++ ks
      ≡ (all_tokens sig ws qs ++ (leave_token g ∷ [])) ++ ls = cc in
      let own = inner ks ls
      (sym (append_assoc (all_tokens sig vs ps) (leave_token f ∷ []) ks) ∙ args
      ∙ append_assoc (all_tokens sig ws qs) (leave_token g ∷ []) ls) in
      (ap₂ app_pattern op own.0, own.1)

  mutual
    -- so are patterns with the same tokens, whatever stands behind these
    tokens-same : (p q : Pattern) (ks ls : List NetToken) → NamesIn vs p → NamesIn ws q
        → tokens sig vs p ++ ks ≡ tokens sig ws q ++ ls → (p ≡ q) × (ks ≡ ls)
    tokens-same (symbol_pattern m) (symbol_pattern n) ks ls h k e = (cc, cc)
    tokens-same (symbol_pattern m) (wild_pattern w x) ks ls h k e = absurd cc
    tokens-same (symbol_pattern m) (app_pattern g qs) ks ls h k e =
        absurd (symbol-not_app sig ws m g qs (is_comm sig g) ks ls e)
    tokens-same (wild_pattern w x) (symbol_pattern n) ks ls h k e = absurd cc
    tokens-same (wild_pattern v x) (wild_pattern w y) ks ls h k e =
        let same : v ≡ w = cc in
        let number : option_map (number_in vs) x ≡ option_map (number_in ws) y = cc in
        (ap₂ wild_pattern same (names-same w x y h k number), cc)
    tokens-same (wild_pattern w x) (app_pattern g qs) ks ls h k e =
        absurd (wild-not_app sig ws w (option_map (number_in vs) x) g qs (is_comm sig g) ks ls e)
    tokens-same (app_pattern f ps) (symbol_pattern n) ks ls h k e =
        absurd (symbol-not_app sig vs n f ps (is_comm sig f) ls ks (sym e))
    tokens-same (app_pattern f ps) (wild_pattern w x) ks ls h k e =
        absurd (wild-not_app sig vs w (option_map (number_in ws) x) f ps (is_comm sig f) ls ks (sym e))
    tokens-same (app_pattern f ps) (app_pattern g qs) ks ls h k e =
        apps-same f g ps qs h k (λ is js. all_tokens-same f g ps qs is js h k) ks ls (is_comm sig f) (is_comm sig g) e

    all_tokens-same : (f g : ℕ) (ps qs : Patterns) (ks ls : List NetToken) → AllNamesIn vs ps → AllNamesIn ws qs
        → all_tokens sig vs ps ++ (leave_token f ∷ ks) ≡ all_tokens sig ws qs ++ (leave_token g ∷ ls)
        → (ps ≡ qs) × (ks ≡ ls)
    all_tokens-same f g no_patterns no_patterns ks ls h k e = (refl, cc)
    all_tokens-same f g no_patterns (more_patterns q qs) ks ls h k e =
        absurd (leave-not_first sig ws f q ks (all_tokens sig ws qs ++ (leave_token g ∷ ls))
        (e ∙ append_assoc (tokens sig ws q) (all_tokens sig ws qs) (leave_token g ∷ ls)))
    all_tokens-same f g (more_patterns p ps) no_patterns ks ls h k e =
        absurd (leave-not_first sig vs g p ls (all_tokens sig vs ps ++ (leave_token f ∷ ks))
        (sym e ∙ append_assoc (tokens sig vs p) (all_tokens sig vs ps) (leave_token f ∷ ks)))
    all_tokens-same f g (more_patterns p ps) (more_patterns q qs) ks ls h k e =
        let first = tokens-same p q (all_tokens sig vs ps ++ (leave_token f ∷ ks))
        (all_tokens sig ws qs ++ (leave_token g ∷ ls)) h.0 k.0
        (sym (append_assoc (tokens sig vs p) (all_tokens sig vs ps) (leave_token f ∷ ks)) ∙ e
        ∙ append_assoc (tokens sig ws q) (all_tokens sig ws qs) (leave_token g ∷ ls)) in
        let rest = all_tokens-same f g ps qs ks ls h.1 k.1 first.1 in
        (ap₂ more_patterns first.0 rest.0, rest.1)

-- the pattern for which a path stands
pub stands-same : (sig : Sig) (path : Path) (p q : Pattern) → StandsFor sig path p → StandsFor sig path q → p ≡ q
stands-same sig path p q h k =
    (tokens-same sig (variables p) (variables q) h.names k.names p q [] [] (own-names p) (own-names q)
    (ap (λ ks. ks ++ []) (h.tokens ∙ sym k.tokens))).0

-- a table fits a pattern with one substitution at most
pub fits-once : (sig : Sig) (t : Tree) → IsNormal sig t → (p : Pattern) (r s : Subst) (T : Table) → Fits sig p t r T
    → Fits sig p t s T → r ≡ s
fits-once sig t normal p r s T h k =
    let w : Some r ≡ Some s = sym (fits-solves sig p t r T normal h).1 ∙ (fits-solves sig p t s T normal k).1 in
    cc
