-- The first tokens of paths, and the occurrences of variables in a path that stands for a pattern.
use Rattle.std.proofs.Common.{◌≡◌, ℕ, List, [], ◌∷◌, ◌++◌, map, length, Bool, true, false, refl, ap, sym, ◌∙◌}
use Rattle.std.specs.Prelude.{Option, Some, None, if◌then◌else◌}
use Rattle.std.proofs.lemmas.Grind.{flat_map-append}
use Rattle.std.proofs.lemmas.List.{append-nil, map-append}
use Rattle.mp_io.specs.Devices.{Text}
use Rattle.mp_term.specs.Signature.{Sig, is_comm}
use Rattle.mp_pattern.specs.Firsts.{firsts_after}
use Rattle.mp_pattern.specs.NetTokens.{enter_token, leave_token, comm_token, renamed, tokens, all_tokens}
use Rattle.mp_pattern.specs.PatternTree.{Pattern, symbol_pattern, app_pattern, wild_pattern, Patterns, no_patterns}
use Rattle.mp_pattern.specs.PatternTree.{more_patterns}
use Rattle.mp_pattern.specs.Value.{same_name}
use Rattle.mp_pattern.specs.Variables.{Use, uses, all_uses, variables}
use Rattle.mp_walk.specs.Walkable.{Path, numbered_names, StandsFor}
use Rattle.mp_walk.proofs.NumberedNames.{NamesIn, AllNamesIn, own-names, numbered-number_in, renamed-itself}
use Rattle.mp_program.specs.TokenPaths.{has_plain_root, token_uses, path_uses, path_variables}

-- the root of the first tokens is that of all
pub root-front : (ks js : Path) → has_plain_root (ks ++ js) ≡ true → has_plain_root ks ≡ true
root-front [] js h = refl
root-front (k ∷ ks) js h = h

-- ---- occurrences, whatever they stand under

-- an occurrence at the root
abbrev pub bare : Use → Use
bare u = record { name = u.name; wildcard = u.wildcard; under = None }

abbrev pub all_bare : List Use → List Use
all_bare us = map bare us

abbrev pub use_names : List Use → List Text
use_names us = map (λ (u : Use). u.name) us

-- what they stand under says nothing of their names
pub names-bare : (us : List Use) → use_names (all_bare us) ≡ use_names us
names-bare [] = refl
names-bare (u ∷ us) = ap (λ xs. u.name ∷ xs) (names-bare us)

pub names-same : (us vs : List Use) → all_bare us ≡ all_bare vs → use_names us ≡ use_names vs
names-same us vs e = sym (names-bare us) ∙ ap use_names e ∙ names-bare vs

-- the occurrences in paths one after the other
pub uses-append : (ks js : Path) → all_bare (path_uses (ks ++ js)) ≡ all_bare (path_uses ks) ++ all_bare (path_uses js)
uses-append ks js = ap all_bare (flat_map-append token_uses ks js) ∙ map-append bare (path_uses ks) (path_uses js)

-- ---- patterns for which a path stands

module _ (sig : Sig) (vs : List Text) (names : vs ≡ numbered_names (length vs)) where
  mutual
    -- the occurrences in the tokens of a pattern over numbered variables are those in the pattern
    pub uses-tokens : (f : Option ℕ) (p : Pattern) → NamesIn vs p
        → all_bare (path_uses (tokens sig vs p)) ≡ all_bare (uses f p)
    uses-tokens f (symbol_pattern n) h = refl
    uses-tokens f (wild_pattern w None) h = refl
    uses-tokens f (wild_pattern w (Some x)) h =
        ap (λ y. record { name = y; wildcard = w; under = None } ∷ []) (numbered-number_in vs names x h)
    uses-tokens f (app_pattern g ps) h = by_comm (is_comm sig g) (uses-all_tokens (Some g) ps h)
      where
        by_comm : (b : Bool) → all_bare (path_uses (all_tokens sig vs ps)) ≡ all_bare (all_uses (Some g) ps)
            → all_bare (path_uses (if b then comm_token (renamed vs (app_pattern g ps)) ∷ []
            else (enter_token g ∷ (all_tokens sig vs ps ++ (leave_token g ∷ []))))) ≡ all_bare (all_uses (Some g) ps)
        by_comm true k =
            ap all_bare (append-nil (uses None (renamed vs (app_pattern g ps))))
            ∙ ap (λ q. all_bare (uses None q)) (renamed-itself vs names (app_pattern g ps) h)
        by_comm false k =
            uses-append (all_tokens sig vs ps) (leave_token g ∷ [])
            ∙ append-nil (all_bare (path_uses (all_tokens sig vs ps))) ∙ k

    pub uses-all_tokens : (f : Option ℕ) (ps : Patterns) → AllNamesIn vs ps
        → all_bare (path_uses (all_tokens sig vs ps)) ≡ all_bare (all_uses f ps)
    uses-all_tokens f no_patterns h = refl
    uses-all_tokens f (more_patterns p ps) h =
        uses-append (tokens sig vs p) (all_tokens sig vs ps)
        ∙ ap (λ us. us ++ all_bare (path_uses (all_tokens sig vs ps))) (uses-tokens f p h.0)
        ∙ ap (λ us. all_bare (uses f p) ++ us) (uses-all_tokens f ps h.1)
        ∙ sym (map-append bare (uses f p) (all_uses f ps))

module _ (sig : Sig) (path : Path) (p : Pattern) (stands : StandsFor sig path p) where
  -- the occurrences in a path are those in the pattern
  pub uses-path : all_bare (path_uses path) ≡ all_bare (uses None p)
  uses-path = ap (λ ks. all_bare (path_uses ks)) (sym stands.tokens)
      ∙ uses-tokens sig (variables p) stands.names None p (own-names p)

  -- and so are the variables
  pub variables-path : path_variables path ≡ variables p
  variables-path = ap (firsts_after same_name []) (names-same (path_uses path) (uses None p) uses-path)
