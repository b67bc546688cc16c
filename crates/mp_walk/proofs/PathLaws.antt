-- What holds of each instruction of a table that may be walked: its token is sound, and its path isn't longer than a
-- pattern.
use Rattle.std.proofs.Common.{◌≡◌, ℕ, zero, suc, ◌+◌, ◌<◌, ◌≤◌, List, [], ◌∷◌, ◌++◌, map, length, Bool, true, false}
use Rattle.std.proofs.Common.{refl, ap, sym, ◌∙◌, inl, inr, subst, arith}
use Rattle.std.specs.Prelude.{Option, Some, None, IsSome, option_map, if◌then◌else◌}
use Rattle.std.specs.List.{AllByRecursion}
use Rattle.std.proofs.lemmas.Bool.{and_parts}
use Rattle.std.proofs.lemmas.List.{append_assoc, append-nil}
use Rattle.mp_term.specs.Listing.{In}
use Rattle.mp_term.specs.Signature.{Sig, is_comm}
use Rattle.mp_term.proofs.ListLaws.{all-append, all-split}
use Rattle.mp_term.proofs.ListingLaws.{all_in}
use Rattle.mp_term.proofs.SearchLaws.{from_in-map}
use Rattle.mp_pattern.specs.declared.limits.TheConstants.{MAX_PATTERN_NODES, MAX_VARIABLES}
use Rattle.mp_pattern.specs.EachWildcard.{AllEachWildcard}
use Rattle.mp_pattern.specs.NetTokens.{enter_token, leave_token, comm_token, number_in}
use Rattle.mp_pattern.specs.NetTokens.{tokens, all_tokens, renamed}
use Rattle.mp_pattern.specs.PatternTree.{Wildcard, Pattern, symbol_pattern, app_pattern, wild_pattern, Patterns}
use Rattle.mp_pattern.specs.PatternTree.{no_patterns, more_patterns}
use Rattle.mp_pattern.specs.Size.{pattern_nodes, all_pattern_nodes}
use Rattle.mp_pattern.specs.Sound.{DefaultIsNormal, DefaultsAreNormal, holds_ops, all_hold_ops}
use Rattle.mp_pattern.specs.Subpatterns.{subpatterns, all_subpatterns}
use Rattle.mp_pattern.specs.Value.{same_name}
use Rattle.mp_pattern.specs.Variables.{Use, uses, variables}
use Rattle.mp_pattern.proofs.ClashLaws.{InOrder, InOrder-first_clash_after}
use Rattle.mp_pattern.proofs.ClashLaws.{first_clash_after-InOrder, in-order-front, in-order-back, in-order-fewer}
use Rattle.mp_pattern.proofs.PlanParts.{plan_fault-parts, parts-plan_fault}
use Rattle.mp_pattern.proofs.NameLaws.{same_name-itself}
use Rattle.mp_theory.proofs.FirstsLaws.{distinct-firsts, from_in-firsts_after}
use Rattle.mp_walk.specs.Instrs.{Instr, instr_at}
use Rattle.mp_walk.specs.SoundTokens.{token_nodes, path_nodes, IsVariableNumber, IsNumbered, IsSoundToken}
use Rattle.mp_walk.specs.Walkable.{Path, numbered_names, IsWhole, IsWalkable}
use Rattle.mp_walk.proofs.CodePaths.{number-within, down-target, instr-in, instr-there}
use Rattle.mp_theory.proofs.FirstItems.{length-distinct}
use Rattle.mp_walk.proofs.NumberedNames.{number_in-less, numbered-number_in, renamed-itself, NamesIn, AllNamesIn}
use Rattle.mp_walk.proofs.NumberedNames.{own-names, use-known}

-- the nodes of paths one after the other
pub path_nodes-append : (ks js : Path) → path_nodes (ks ++ js) ≡ path_nodes ks + path_nodes js
path_nodes-append [] js = omega arith
path_nodes-append (k ∷ ks) js = omega (arith, path_nodes-append ks js)

-- ---- the tokens of a sound pattern

module _ (sig : Sig) (vs : List (List ℕ)) (few : length vs ≤ MAX_VARIABLES)
    (names : vs ≡ numbered_names (length vs)) where
  -- a pattern within the limits, without a clash, whose operations are held and defaults normal, over known names
  record IsPart (p : Pattern) : Type 0 where
    known : NamesIn vs p
    few_nodes : pattern_nodes p ≤ MAX_PATTERN_NODES
    in_order : InOrder [] (subpatterns p)
    held : holds_ops sig p ≡ true
    defaults : DefaultsAreNormal sig p

  record AreParts (ps : Patterns) : Type 0 where
    known : AllNamesIn vs ps
    few_nodes : all_pattern_nodes ps ≤ MAX_PATTERN_NODES
    in_order : InOrder [] (all_subpatterns ps)
    held : all_hold_ops sig ps ≡ true
    defaults : AllEachWildcard (DefaultIsNormal sig) ps

  children-parts : (g : ℕ) (ps : Patterns) → IsPart (app_pattern g ps) → AreParts ps
  children-parts g ps h = record {
    known = h.known;
    few_nodes = omega (arith, h.few_nodes);
    in_order = in-order-fewer (app_pattern g ps ∷ []) [] (all_subpatterns ps) h.in_order.1;
    held = (and_parts _ (all_hold_ops sig ps) h.held).1;
    defaults = h.defaults;
  }

  first-part : (p : Pattern) (ps : Patterns) → AreParts (more_patterns p ps) → IsPart p
  first-part p ps h = record {
    known = h.known.0;
    few_nodes = omega (arith, h.few_nodes);
    in_order = in-order-front [] (subpatterns p) (all_subpatterns ps) h.in_order;
    held = (and_parts (holds_ops sig p) (all_hold_ops sig ps) h.held).0;
    defaults = h.defaults.0;
  }

  later-parts : (p : Pattern) (ps : Patterns) → AreParts (more_patterns p ps) → AreParts ps
  later-parts p ps h = record {
    known = h.known.1;
    few_nodes = omega (arith, h.few_nodes);
    in_order = in-order-fewer (subpatterns p) [] (all_subpatterns ps)
        (subst (λ l. InOrder l (all_subpatterns ps)) (sym (append-nil (subpatterns p)))
        (in-order-back [] (subpatterns p) (all_subpatterns ps) h.in_order));
    held = (and_parts (holds_ops sig p) (all_hold_ops sig ps) h.held).1;
    defaults = h.defaults.1;
  }

  -- the variables of a part are among the known names, which are those of numbers
  part-variable : (p : Pattern) → NamesIn vs p → (x : List ℕ) → In x (variables p) → In x vs
  part-variable p k x i = elim (from_in-firsts_after same_name x [] (map (λ (u : Use). u.name) (uses None p)) i) [
    | inl j ↦ absurd j
    | inr j ↦
        let a = from_in-map (λ (u : Use). u.name) x (uses None p) j in
        subst (λ y. In y vs) (sym a.1) (use-known vs None p k a.0 a.2)
  ]

  numbered-known : (x : List ℕ) → In x vs → IsNumbered x
  numbered-known x i = record {
    number = number_in vs x;
    name = sym (numbered-number_in vs names x i);
    few = omega (arith, number_in-less vs x i, few);
  }

  few_variables-part : (p : Pattern) → NamesIn vs p → length (variables p) ≤ MAX_VARIABLES
  few_variables-part p k =
      omega (
        arith,
        few,
        length-distinct same_name same_name-itself (variables p) vs
            (distinct-firsts same_name [] (map (λ (u : Use). u.name) (uses None p)) tt) (part-variable p k),
      )

  variable-number : (x : Option (List ℕ)) (w : Wildcard) → NamesIn vs (wild_pattern w x)
      → IsVariableNumber (option_map (number_in vs) x)
  variable-number None w h = tt
  variable-number (Some x) w h = omega (arith, number_in-less vs x h, few)

  mutual
    -- each token of a part is sound
    tokens-sound : (p : Pattern) → IsPart p → AllByRecursion (IsSoundToken sig) (tokens sig vs p)
    tokens-sound (symbol_pattern n) h = (tt, tt)
    tokens-sound (wild_pattern w x) h = ((h.defaults, variable-number x w h.known), tt)
    tokens-sound (app_pattern g ps) h = by_comm (is_comm sig g) refl (all_tokens-sound ps (children-parts g ps h))
      where
        by_comm : (b : Bool) → is_comm sig g ≡ b → AllByRecursion (IsSoundToken sig) (all_tokens sig vs ps)
            → AllByRecursion (IsSoundToken sig) (if b then comm_token (renamed vs (app_pattern g ps)) ∷ []
            else (enter_token g ∷ (all_tokens sig vs ps ++ (leave_token g ∷ []))))
        by_comm false e k = (e, all-append (IsSoundToken sig) (all_tokens sig vs ps) (leave_token g ∷ []) k (e, tt))
        by_comm true e k = (
          subst (λ q. IsSoundToken sig (comm_token q)) (sym (renamed-itself vs names (app_pattern g ps) h.known))
              (record {
                op = g;
                children = ps;
                is = refl;
                comm = e;
                planned = parts-plan_fault (app_pattern g ps) (record {
                  firm = refl;
                  few_nodes = h.few_nodes;
                  few_variables = few_variables-part (app_pattern g ps) h.known;
                  no_clash = first_clash_after-InOrder [] (subpatterns (app_pattern g ps)) h.in_order;
                });
                held = h.held;
                defaults = h.defaults;
                names = λ x i. numbered-known x (part-variable (app_pattern g ps) h.known x i);
              }),
          tt,
        )

    all_tokens-sound : (ps : Patterns) → AreParts ps → AllByRecursion (IsSoundToken sig) (all_tokens sig vs ps)
    all_tokens-sound no_patterns h = tt
    all_tokens-sound (more_patterns p ps) h =
        all-append (IsSoundToken sig) (tokens sig vs p) (all_tokens sig vs ps)
        (tokens-sound p (first-part p ps h)) (all_tokens-sound ps (later-parts p ps h))

  -- the tokens stand for the nodes
  mutual
    nodes-tokens : (p : Pattern) → NamesIn vs p → path_nodes (tokens sig vs p) ≡ pattern_nodes p
    nodes-tokens (symbol_pattern n) h = refl
    nodes-tokens (wild_pattern w x) h = refl
    nodes-tokens (app_pattern g ps) h = by_comm (is_comm sig g) (nodes-all_tokens ps h)
      where
        by_comm : (b : Bool) → path_nodes (all_tokens sig vs ps) ≡ all_pattern_nodes ps
            → path_nodes (if b then comm_token (renamed vs (app_pattern g ps)) ∷ []
            else (enter_token g ∷ (all_tokens sig vs ps ++ (leave_token g ∷ [])))) ≡ pattern_nodes (app_pattern g ps)
        by_comm true k =
            let e : pattern_nodes (renamed vs (app_pattern g ps)) ≡ pattern_nodes (app_pattern g ps) =
            ap pattern_nodes (renamed-itself vs names (app_pattern g ps) h) in
            omega (arith, e)
        by_comm false k = omega (arith, k, path_nodes-append (all_tokens sig vs ps) (leave_token g ∷ []))

    nodes-all_tokens : (ps : Patterns) → AllNamesIn vs ps → path_nodes (all_tokens sig vs ps) ≡ all_pattern_nodes ps
    nodes-all_tokens no_patterns h = refl
    nodes-all_tokens (more_patterns p ps) h =
        omega (
          arith,
          path_nodes-append (tokens sig vs p)
              (all_tokens sig vs ps),
          nodes-tokens p h.0,
          nodes-all_tokens ps h.1,
        )

-- ---- whole paths

module _ (sig : Sig) (path : Path) (w : IsWhole sig path) where
  few-names : length (variables w.pattern) ≤ MAX_VARIABLES
  few-names = (plan_fault-parts w.pattern w.planned).few_variables

  whole-part : IsPart sig (variables w.pattern) few-names w.stands.names w.pattern
  whole-part = record {
    known = own-names w.pattern;
    few_nodes = (plan_fault-parts w.pattern w.planned).few_nodes;
    in_order = InOrder-first_clash_after [] (subpatterns w.pattern) (plan_fault-parts w.pattern w.planned).no_clash;
    held = w.held;
    defaults = w.defaults;
  }

  -- each token of a whole path is sound
  pub whole-sound : AllByRecursion (IsSoundToken sig) path
  whole-sound = subst (AllByRecursion (IsSoundToken sig)) w.stands.tokens
      (tokens-sound sig (variables w.pattern) few-names w.stands.names w.pattern whole-part)

  -- and its nodes are within the limit
  pub whole-narrow : path_nodes path ≤ MAX_PATTERN_NODES
  whole-narrow = subst (λ ks. path_nodes ks ≤ MAX_PATTERN_NODES) w.stands.tokens
      (omega (
        arith,
        nodes-tokens sig (variables w.pattern) few-names w.stands.names w.pattern (own-names w.pattern),
        (plan_fault-parts w.pattern w.planned).few_nodes,
      ))

-- ---- the path of each instruction

module _ (sig : Sig) (code : List Instr) (walkable : IsWalkable sig code) where
  -- the path of an instruction goes on to a whole path
  pub record GoesOn (n : ℕ) (i : Instr) : Type 0 where
    pub rest : Path
    pub whole : IsWhole sig ((walkable.before n ++ i.token ∷ []) ++ rest)

  goes-on : (d n : ℕ) (i : Instr) → instr_at code n ≡ Some i → length code < d + n → GoesOn n i
  goes-on zero n i held h = let w = number-within code n i held in absurd (omega (arith, w.0, w.1, h))
  goes-on (suc d) n i held h = by_accepts i.accepts refl
      (all_in (λ i. i.accepts ≡ [] → IsSome i.down) code i walkable.leads (instr-in code n i held))
      (λ t j e l. goes-on d t j e l)
    where
      Go : Type 0
      Go = (t : ℕ) (j : Instr) → instr_at code t ≡ Some j → length code < d + t → GoesOn t j

      by_accepts : (rs : List ℕ) → i.accepts ≡ rs → (i.accepts ≡ [] → IsSome i.down) → Go → GoesOn n i
      by_accepts (r ∷ rs) e leads go = record {
        rest = [];
        whole = subst (IsWhole sig) (sym (append-nil (walkable.before n ++ i.token ∷ [])))
            (walkable.whole n i held (λ q. (let z : [] ≡ r ∷ rs = sym q ∙ e in cc)));
      }
      by_accepts [] e leads go = by_down i.down refl (leads e)
        where
          by_down : (o : Option ℕ) → i.down ≡ o → IsSome o → GoesOn n i
          by_down None p s = cc
          by_down (Some t) p s =
              let f = walkable.forward n t i held (down-target i t p) in
              let j = instr-there code t (let z : n < t = f.0 in omega (arith, z)) f.1 in
              let g = go t j.0 j.1 (let z : n < t = f.0 in omega (arith, z, h)) in
              record {
                rest = j.0.token ∷ g.rest;
                whole = subst (IsWhole sig)
                    (append_assoc (walkable.before t) (j.0.token ∷ []) g.rest
                    ∙ ap (λ ks. ks ++ (j.0.token ∷ g.rest)) (walkable.paths.down n t i held p)) g.whole;
              }

  pub path-goes_on : (n : ℕ) (i : Instr) → instr_at code n ≡ Some i → GoesOn n i
  path-goes_on n i held = goes-on (suc (length code)) n i held
      (let w = number-within code n i held in omega (arith, w.0))

  -- the token of each instruction is sound
  pub token-sound : (n : ℕ) (i : Instr) → instr_at code n ≡ Some i → IsSoundToken sig i.token
  token-sound n i held =
      let g = path-goes_on n i held in
      let all = whole-sound sig ((walkable.before n ++ i.token ∷ []) ++ g.rest) g.whole in
      (all-split (IsSoundToken sig) (walkable.before n) (i.token ∷ [])
      (all-split (IsSoundToken sig) (walkable.before n ++ i.token ∷ []) g.rest all).0).1.0

  -- the nodes of each path are within the limit
  pub path-narrow : (n : ℕ) (i : Instr) → instr_at code n ≡ Some i
      → path_nodes (walkable.before n) + token_nodes i.token ≤ MAX_PATTERN_NODES
  path-narrow n i held =
      let g = path-goes_on n i held in
      omega (
        arith,
        whole-narrow sig ((walkable.before n ++ i.token ∷ []) ++ g.rest) g.whole,
        path_nodes-append (walkable.before n ++ i.token ∷ []) g.rest,
        path_nodes-append (walkable.before n) (i.token ∷ []),
      )
