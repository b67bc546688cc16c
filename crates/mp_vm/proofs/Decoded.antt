-- A path that opens operations and ends them again, so that something is open all along, spells a pattern.
use Rattle.std.proofs.Common.{◌≡◌, ◌≢◌, ℕ, ◌<◌, ◌≤◌, List, [], ◌∷◌, ◌++◌, length, Bool, true, false, refl}
use Rattle.std.proofs.Common.{ap, sym, ◌∙◌, subst, arith}
use Rattle.std.specs.Prelude.{◌^◌, ⊤, Option, Some, None, is_some, slice_get, nat_eq, if◌then◌else◌, decimal}
use Rattle.std.specs.List.{AllByRecursion}
use Rattle.std.proofs.lemmas.Bool.{and_from, eqb-true}
use Rattle.std.proofs.lemmas.Fmt.{decimal_injective}
use Rattle.std.proofs.lemmas.List.{append_assoc, append-nil}
use Rattle.mp_term.specs.Listing.{In}
use Rattle.mp_term.specs.Signature.{Sig, is_comm}
use Rattle.mp_pattern.specs.declared.limits.TheConstants.{MAX_VARIABLES}
use Rattle.mp_pattern.specs.EachWildcard.{AllEachWildcard}
use Rattle.mp_pattern.specs.NetTokens.{NetToken, sym_token, enter_token, leave_token, wild_token, comm_token, number_in}
use Rattle.mp_pattern.specs.NetTokens.{numbered, tokens, all_tokens}
use Rattle.mp_pattern.specs.Normal as normal
use Rattle.mp_pattern.specs.PatternTree.{Wildcard, Pattern, symbol_pattern, app_pattern, wild_pattern, Patterns}
use Rattle.mp_pattern.specs.PatternTree.{no_patterns, more_patterns}
use Rattle.mp_pattern.specs.Size.{pattern_nodes, all_pattern_nodes}
use Rattle.mp_pattern.specs.Sound.{DefaultIsNormal, DefaultsAreNormal, holds_ops, all_hold_ops}
use Rattle.mp_pattern.specs.Subpatterns.{subpatterns, all_subpatterns}
use Rattle.mp_walk.specs.SoundTokens.{path_nodes}
use Rattle.mp_walk.specs.TokenMachine.{numbered_wildcard}
use Rattle.mp_walk.specs.Walkable.{Path, numbered_names}
use Rattle.mp_walk.proofs.NumberedNames.{NamesIn, number_in-less, numbered-number_in, renamed-itself}
use Rattle.mp_walk.proofs.PathLaws.{path_nodes-append}
use Rattle.mp_program.specs.RightForm.{is_comm_rooted}
use Rattle.mp_program.specs.TokenPaths.{is_loose_token, path_uses, open_after, open_along}
use Rattle.mp_program.proofs.PathLaws.{all_bare, uses-append}
use Rattle.mp_vm.proofs.UseLaws.{root_uses, root_uses-append, root_uses-subpatterns}

-- something is open before each token
abbrev pub StaysOpen : List ℕ → Path → Type 0
StaysOpen fs [] = ⊤
StaysOpen fs (k ∷ ks) = (fs ≢ []) × elim (open_after fs k) [ None ↦ ⊤ | Some gs ↦ StaysOpen gs ks ]

-- something is open behind each token
abbrev pub LeavesOpen : List ℕ → Path → Type 0
LeavesOpen fs [] = ⊤
LeavesOpen fs (k ∷ ks) = elim (open_after fs k) [ None ↦ ⊥ | Some gs ↦ (gs ≢ []) × LeavesOpen gs ks ]

-- so it is before one more token
stays-open : (fs : List ℕ) (ks : Path) (k : NetToken) → fs ≢ [] → LeavesOpen fs ks → StaysOpen fs (ks ++ k ∷ [])
stays-open fs [] k some h = (some, by_open (open_after fs k))
  where
    by_open : (o : Option (List ℕ)) → elim o as (λ _. Type 0) [ None ↦ ⊤ | Some gs ↦ ⊤ ]
    by_open None = tt
    by_open (Some gs) = tt
stays-open fs (j ∷ ks) k some h = (some, by_open (open_after fs j) h (λ gs n l. stays-open gs ks k n l))
  where
    by_open : (o : Option (List ℕ))
        → (elim o as (λ _. Type 0) [ None ↦ ⊥ | Some gs ↦ (gs ≢ []) × LeavesOpen gs ks ])
        → ((gs : List ℕ) → gs ≢ [] → LeavesOpen gs ks → StaysOpen gs (ks ++ k ∷ []))
        → elim o as (λ _. Type 0) [ None ↦ ⊤ | Some gs ↦ StaysOpen gs (ks ++ k ∷ []) ]
    by_open None h f = absurd h
    by_open (Some gs) h f = f gs h.0 h.1

-- and behind it, where something is open at the end
pub leaves-open : (fs : List ℕ) (ks : Path) (k : NetToken) (g : ℕ) (gs : List ℕ) → LeavesOpen fs ks
    → open_along fs (ks ++ k ∷ []) ≡ Some (g ∷ gs) → LeavesOpen fs (ks ++ k ∷ [])
leaves-open fs [] k g gs h e = by_open (open_after fs k) e
  where
    by_open : (o : Option (List ℕ))
        → (elim o as (λ _. Option (List ℕ)) [ None ↦ None | Some hs ↦ Some hs ]) ≡ Some (g ∷ gs)
        → elim o as (λ _. Type 0) [ None ↦ ⊥ | Some hs ↦ (hs ≢ []) × ⊤ ]
    by_open None e = cc
    by_open (Some hs) e = ((λ n. let w : Some [] ≡ Some (g ∷ gs) = ap Some (sym n) ∙ e in cc), tt)
leaves-open fs (j ∷ ks) k g gs h e = by_open (open_after fs j) h e (λ hs l d. leaves-open hs ks k g gs l d)
  where
    by_open : (o : Option (List ℕ))
        → (elim o as (λ _. Type 0) [ None ↦ ⊥ | Some hs ↦ (hs ≢ []) × LeavesOpen hs ks ])
        → (elim o as (λ _. Option (List ℕ)) [ None ↦ None | Some hs ↦ open_along hs (ks ++ k ∷ []) ]) ≡ Some (g ∷ gs)
        → ((hs : List ℕ) → LeavesOpen hs ks → open_along hs (ks ++ k ∷ []) ≡ Some (g ∷ gs)
        → LeavesOpen hs (ks ++ k ∷ []))
        → elim o as (λ _. Type 0) [ None ↦ ⊥ | Some hs ↦ (hs ≢ []) × LeavesOpen hs (ks ++ k ∷ []) ]
    by_open None h e f = absurd h
    by_open (Some hs) h e f = (h.0, f hs h.1 e)

module _ (sig : Sig) (vs : List (List ℕ)) (few : length vs ≤ MAX_VARIABLES)
    (names : vs ≡ numbered_names (length vs)) where
  -- the name of a variable is known
  abbrev IsKnown : Option ℕ → Type 0
  IsKnown None = ⊤
  IsKnown (Some v) = In (numbered v) vs × (v < 2 ^ 64)

  -- what is known of a token that stands for a part of a pattern over these names
  abbrev pub FitsIn : NetToken → Type 0
  FitsIn (sym_token n) = ⊤
  FitsIn (enter_token g) = (is_comm sig g ≡ false) × (is_some (slice_get sig.ops g) ≡ true)
  FitsIn (leave_token g) = ⊤
  FitsIn (wild_token w x) = DefaultIsNormal sig w × IsKnown x
  FitsIn (comm_token p) =
      (is_comm_rooted sig p ≡ true) × NamesIn vs p × (holds_ops sig p ≡ true) × DefaultsAreNormal sig p

  -- a known variable has its number
  number-numbered : (v : ℕ) → In (numbered v) vs → v < 2 ^ 64 → number_in vs (numbered v) ≡ v
  number-numbered v i h =
      let e : 118 ∷ decimal (number_in vs (numbered v)) ≡ 118 ∷ decimal v =
      numbered-number_in vs names (numbered v) i in
      let d : decimal (number_in vs (numbered v)) ≡ decimal v = cc in
      decimal_injective (number_in vs (numbered v)) v
      (omega (arith, number_in-less vs (numbered v) i, few)) h d

  -- the tokens are those of the pattern, whose operations are held and whose defaults are normal
  pub record Spells (p : Pattern) (ks : Path) : Type 0 where
    pub tokens : tokens sig vs p ≡ ks
    pub held : holds_ops sig p ≡ true
    pub defaults : DefaultsAreNormal sig p
    pub uses : root_uses (subpatterns p) ≡ all_bare (path_uses ks)
    pub nodes : pattern_nodes p ≡ path_nodes ks

  -- so it is with patterns one after the other
  record SpellAll (ps : Patterns) (ks : Path) : Type 0 where
    tokens : all_tokens sig vs ps ≡ ks
    held : all_hold_ops sig ps ≡ true
    defaults : AllEachWildcard (DefaultIsNormal sig) ps
    uses : root_uses (all_subpatterns ps) ≡ all_bare (path_uses ks)
    nodes : all_pattern_nodes ps ≡ path_nodes ks

  spell-none : SpellAll no_patterns []
  spell-none = record { tokens = refl; held = refl; defaults = tt; uses = refl; nodes = refl }

  spell-more : (p : Pattern) (ps : Patterns) (ks js : Path) → Spells p ks → SpellAll ps js
      → SpellAll (more_patterns p ps) (ks ++ js)
  spell-more p ps ks js h l = record {
    tokens = ap (λ is. is ++ all_tokens sig vs ps) h.tokens ∙ ap (λ is. ks ++ is) l.tokens;
    held = and_from _ _ h.held l.held;
    defaults = (h.defaults, l.defaults);
    uses = root_uses-append (subpatterns p) (all_subpatterns ps)
        ∙ ap (λ us. us ++ root_uses (all_subpatterns ps)) h.uses
        ∙ ap (λ us. all_bare (path_uses ks) ++ us) l.uses ∙ sym (uses-append ks js);
    nodes = omega (arith, h.nodes, l.nodes, path_nodes-append ks js);
  }

  -- the arguments that are still to come of the open operations, the innermost first, are spelled by the tokens
  abbrev Rests : List ℕ → Path → Type 0
  Rests [] ks = ks ≡ []
  Rests (f ∷ fs) ks = (ps : Patterns) × (own : Path) × (rest : Path) × SpellAll ps own × Rests fs rest
      × (ks ≡ own ++ (leave_token f ∷ rest))

  push : (f : ℕ) (fs : List ℕ) (p : Pattern) (js ks : Path) → Spells p js → Rests (f ∷ fs) ks
      → Rests (f ∷ fs) (js ++ ks)
  push f fs p js ks h r = (
    more_patterns p r.0,
    js ++ r.1,
    r.2,
    spell-more p r.0 js r.1 h r.3,
    r.4,
    ap (λ is. js ++ is) r.5 ∙ sym (append_assoc js r.1 (leave_token f ∷ r.2)),
  )

  -- ---- one pattern

  spells-symbol : (n : List ℕ) → Spells (symbol_pattern n) (sym_token n ∷ [])
  spells-symbol n = record { tokens = refl; held = refl; defaults = tt; uses = refl; nodes = refl }

  spells-wild : (w : Wildcard) (x : Option ℕ) → FitsIn (wild_token w x)
      → Spells (numbered_wildcard w x) (wild_token w x ∷ [])
  spells-wild w None h = record { tokens = refl; held = refl; defaults = h.0; uses = refl; nodes = refl }
  spells-wild w (Some v) h = record {
    tokens = ap (λ n. wild_token w (Some n) ∷ []) (number-numbered v h.1.0 h.1.1);
    held = refl;
    defaults = h.0;
    uses = refl;
    nodes = refl;
  }

  spells-comm : (p : Pattern) → FitsIn (comm_token p) → Spells p (comm_token p ∷ [])
  spells-comm (symbol_pattern n) h = (let wrong : false ≡ true = h.0 in cc)
  spells-comm (wild_pattern w x) h = (let wrong : false ≡ true = h.0 in cc)
  spells-comm (app_pattern g ps) h = record {
    tokens = rw h.0 (ap (λ q. comm_token q ∷ []) (renamed-itself vs names (app_pattern g ps) h.1));
    held = h.2;
    defaults = h.3;
    uses = root_uses-subpatterns None (app_pattern g ps) ∙ ap all_bare (sym (append-nil _));
    nodes = omega arith;
  }

  spells-app : (g : ℕ) (ps : Patterns) (own : Path) → FitsIn (enter_token g) → SpellAll ps own
      → Spells (app_pattern g ps) (enter_token g ∷ (own ++ (leave_token g ∷ [])))
  spells-app g ps own h l = record {
    tokens = rw h.0 (ap (λ ks. enter_token g ∷ (ks ++ (leave_token g ∷ []))) l.tokens);
    held = and_from _ _ h.1 l.held;
    defaults = l.defaults;
    uses = l.uses ∙ sym (uses-append own (leave_token g ∷ []) ∙ append-nil (all_bare (path_uses own)));
    nodes = omega (arith, l.nodes, path_nodes-append own (leave_token g ∷ []));
  }

  -- ---- paths

  decode : (fs : List ℕ) (ks : Path) → AllByRecursion FitsIn ks → StaysOpen fs ks → open_along fs ks ≡ Some []
      → Rests fs ks
  decode [] [] fit stays e = refl
  decode (f ∷ fs) [] fit stays e = (let w : Some (f ∷ fs) ≡ Some [] = e in cc)
  decode [] (k ∷ ks) fit stays e = absurd (stays.0 refl)
  decode (f ∷ fs) (sym_token n ∷ ks) fit stays e =
      push f fs (symbol_pattern n) (sym_token n ∷ []) ks (spells-symbol n) (decode (f ∷ fs) ks fit.1 stays.1 e)
  decode (f ∷ fs) (wild_token w x ∷ ks) fit stays e =
      push f fs (numbered_wildcard w x) (wild_token w x ∷ []) ks (spells-wild w x fit.0)
      (decode (f ∷ fs) ks fit.1 stays.1 e)
  decode (f ∷ fs) (comm_token p ∷ ks) fit stays e =
      push f fs p (comm_token p ∷ []) ks (spells-comm p fit.0) (decode (f ∷ fs) ks fit.1 stays.1 e)
  decode (f ∷ fs) (enter_token g ∷ ks) fit stays e =
      let r = decode (g ∷ f ∷ fs) ks fit.1 stays.1 e in
      let own = enter_token g ∷ (r.1 ++ (leave_token g ∷ [])) in
      let whole : own ++ r.2 ≡ enter_token g ∷ ks =
      ap (λ is. enter_token g ∷ is) (append_assoc r.1 (leave_token g ∷ []) r.2 ∙ sym r.5) in
      subst (Rests (f ∷ fs)) whole
      (push f fs (app_pattern g r.0) own r.2 (spells-app g r.0 r.1 fit.0 r.3) r.4)
  decode (f ∷ fs) (leave_token g ∷ ks) fit stays e =
      by_test (nat_eq f g) refl stays.1 e (λ o d. decode fs ks fit.1 o d)
    where
      by_test : (b : Bool) → nat_eq f g ≡ b
          → (elim (if b then Some fs else None) as (λ _. Type 0) [ None ↦ ⊤ | Some gs ↦ StaysOpen gs ks ])
          → (elim (if b then Some fs else None) as (λ _. Option (List ℕ))
          [ None ↦ None | Some gs ↦ open_along gs ks ]) ≡ Some []
          → (StaysOpen fs ks → open_along fs ks ≡ Some [] → Rests fs ks)
          → Rests (f ∷ fs) (leave_token g ∷ ks)
      by_test true q o d go =
          (no_patterns, [], ks, spell-none, go o d, ap (λ h. leave_token h ∷ ks) (sym (eqb-true f g q)))
      by_test false q o d go = cc

  -- a path that ends with nothing open, and had something open before, spells a pattern
  pub record IsSpelled (k : NetToken) (ks : Path) : Type 0 where
    pub pattern : Pattern
    pub spells : Spells pattern (k ∷ ks)
    pub firm : is_loose_token k ≡ false → normal.is_loose pattern ≡ false

  alone : (k : NetToken) (p : Pattern) (ks : Path) → Spells p (k ∷ [])
      → (is_loose_token k ≡ false → normal.is_loose p ≡ false) → StaysOpen [] ks → IsSpelled k ks
  alone k p [] h firm stays = record { pattern = p; spells = h; firm = firm }
  alone k p (j ∷ ks) h firm stays = absurd (stays.0 refl)

  spelled-first : (k : NetToken) (ks : Path) → AllByRecursion FitsIn (k ∷ ks)
      → (elim (open_after [] k) as (λ _. Type 0) [ None ↦ ⊤ | Some gs ↦ StaysOpen gs ks ])
      → open_along [] (k ∷ ks) ≡ Some [] → IsSpelled k ks
  spelled-first (sym_token n) ks fit stays e =
      alone (sym_token n) (symbol_pattern n) ks (spells-symbol n) (λ l. refl) stays
  spelled-first (wild_token w x) ks fit stays e =
      alone (wild_token w x) (numbered_wildcard w x) ks (spells-wild w x fit.0) (λ l. l) stays
  spelled-first (comm_token p) ks fit stays e =
      alone (comm_token p) p ks (spells-comm p fit.0) (λ l. firm p fit.0.0) stays
    where
      firm : (p : Pattern) → is_comm_rooted sig p ≡ true → normal.is_loose p ≡ false
      firm (symbol_pattern n) h = refl
      firm (app_pattern g ps) h = refl
      firm (wild_pattern w x) h = cc
  spelled-first (enter_token g) ks fit stays e =
      let r = decode (g ∷ []) ks fit.1 stays e in
      let whole : r.1 ++ (leave_token g ∷ []) ≡ ks =
      ap (λ is. r.1 ++ (leave_token g ∷ is)) (sym r.4) ∙ sym r.5 in
      record {
        pattern = app_pattern g r.0;
        spells = subst (λ is. Spells (app_pattern g r.0) (enter_token g ∷ is)) whole
            (spells-app g r.0 r.1 fit.0 r.3);
        firm = λ l. refl;
      }
  spelled-first (leave_token g) ks fit stays e = cc

  pub spelled : (front : Path) (k : NetToken) → AllByRecursion FitsIn (front ++ k ∷ []) → LeavesOpen [] front
      → open_along [] (front ++ k ∷ []) ≡ Some []
      → (first : NetToken) × (rest : Path) × (front ++ k ∷ [] ≡ first ∷ rest) × IsSpelled first rest
  spelled [] k fit stays e = (k, [], refl, spelled-first k [] fit (by_open (open_after [] k)) e)
    where
      by_open : (o : Option (List ℕ)) → elim o as (λ _. Type 0) [ None ↦ ⊤ | Some gs ↦ ⊤ ]
      by_open None = tt
      by_open (Some gs) = tt
  spelled (j ∷ front) k fit stays e =
      (j, front ++ k ∷ [], refl, spelled-first j (front ++ k ∷ []) fit (by_open (open_after [] j) stays) e)
    where
      by_open : (o : Option (List ℕ))
          → (elim o as (λ _. Type 0) [ None ↦ ⊥ | Some gs ↦ (gs ≢ []) × LeavesOpen gs front ])
          → elim o as (λ _. Type 0) [ None ↦ ⊤ | Some gs ↦ StaysOpen gs (front ++ k ∷ []) ]
      by_open None h = absurd h
      by_open (Some gs) h = stays-open gs front k h.0 h.1
