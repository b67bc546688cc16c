-- Conditions whose variables are called by their places among names.
use Rattle.std.proofs.Common.{◌≡◌, ◌<◌, ◌≤◌, ◌^◌, ◌+◌, ℕ, suc, Bool, true, false, List, [], ◌∷◌, ◌++◌, length}
use Rattle.std.proofs.Common.{map, None, max, sym, ap, ◌∙◌, subst, refl, arith}
use Rattle.std.specs.Prelude.{◌||◌, if◌then◌else◌, flat_map}
use Rattle.std.specs.List.{AllByRecursion, list_all}
use Rattle.std.proofs.lemmas.Bool.{and_parts}
use Rattle.std.proofs.lemmas.List.{map-append}
use Rattle.mp_io.specs.Devices.{Text}
use Rattle.mp_term.specs.Signature.{Sig}
use Rattle.mp_pattern.specs.declared.limits.TheConstants.{MAX_ATOMS, MAX_DEPTH, MAX_VARIABLES}
use Rattle.mp_pattern.specs.CondTree as cond
use Rattle.mp_pattern.specs.CondTree.{Operand, var, ground, fixed, count, size, Cond, amounts, less, free, of_kind}
use Rattle.mp_pattern.specs.CondTree.{headed, negation, all_of, any_of, Conds, no_conds, more_conds}
use Rattle.mp_pattern.specs.Firsts.{is_known}
use Rattle.mp_pattern.specs.NetTokens.{numbered, number_in}
use Rattle.mp_pattern.specs.Operands.{amount_operands, operands, all_operands}
use Rattle.mp_pattern.specs.SoundRule.{AreSeveral, atom_count, atom_counts}
use Rattle.mp_pattern.specs.Value.{same_name}
use Rattle.mp_pattern.proofs.NetTokenLists.{is_name-numbered}
use Rattle.mp_walk.specs.Walkable.{numbered_names}
use Rattle.mp_build.specs.SoundCondition.{IsScopedOperand, IsScopedSingle, IsScopedAmount, IsScoped, AreScoped}
use Rattle.mp_round_trip.specs.OpenBrackets.{operand_depth, amount_depth, negated_depth, literal_depth, literals_depth}
use Rattle.mp_round_trip.specs.OpenBrackets.{alternatives_depth, condition_depth}
use Rattle.mp_round_trip.specs.Readable.{IsReadableCondition}
use Rattle.mp_program.specs.ProgramOf.{renamed_operand, renamed_amount, renamed_cond, renamed_conds}
use Rattle.mp_program.specs.TokenPaths.{operand_names, cond_names}
use Rattle.mp_walk.proofs.Renaming.{number_in-most}
use Rattle.mp_program.proofs.NameLaws.{known-numbered}

-- ---- numbers of names

-- fewer than all before one that is known
pub number_in-known : (xs : List Text) (x : Text) → is_known same_name xs x ≡ true → number_in xs x < length xs
number_in-known [] x h = (let wrong : false ≡ true = h in cc)
number_in-known (y ∷ xs) x h = by_test (same_name y x) h (number_in-known xs x)
  where
    by_test : (b : Bool) → (b || is_known same_name xs x) ≡ true
        → (is_known same_name xs x ≡ true → number_in xs x < length xs)
        → (if b then 0 else number_in xs x + 1) < length (y ∷ xs)
    by_test true h rest = omega arith
    by_test false h rest = let below = rest h in omega (arith, below)

-- ---- the checks of conditions

module _ (sig : Sig) (xs : List Text) (few : length xs < 2 ^ 32) where
  renamed-operand : (a : Operand) → IsScopedOperand sig None a → IsScopedOperand sig None (renamed_operand xs a)
  renamed-operand (var x) h =
      is_name-numbered (number_in xs x) (let least = number_in-most xs x in omega (arith, least, few))
  renamed-operand (ground t) h = h

  renamed-single : (a : Operand) → IsScopedSingle sig None (renamed_operand xs a)
  renamed-single (var x) = tt
  renamed-single (ground t) = tt

  renamed-amount : (m : cond.Amount) → IsScopedAmount sig None m → IsScopedAmount sig None (renamed_amount xs m)
  renamed-amount (fixed n) h = h
  renamed-amount (count a) h = renamed-operand a h
  renamed-amount (size a) h = renamed-operand a h

  several-renamed : (cs : Conds) → AreSeveral cs → AreSeveral (renamed_conds xs cs)
  several-renamed no_conds h = h
  several-renamed (more_conds c no_conds) h = h
  several-renamed (more_conds c (more_conds d cs)) h = h

  mutual
    renamed-scoped : (c : Cond) → IsScoped sig None c → IsScoped sig None (renamed_cond xs c)
    renamed-scoped (amounts m s n) h = (renamed-amount m h.0, renamed-amount n h.1)
    renamed-scoped (cond.same a b) h = (renamed-operand a h.0, renamed-operand b h.1)
    renamed-scoped (less a b) h = (
      (renamed-operand a h.0.0, renamed-single a),
      (renamed-operand b h.1.0, renamed-single b),
    )
    renamed-scoped (free a b) h = (renamed-operand a h.0, renamed-operand b h.1)
    renamed-scoped (of_kind a k) h = (renamed-operand a h.0, h.1)
    renamed-scoped (headed a f) h = (renamed-operand a h.0, h.1)
    renamed-scoped (negation c) h = renamed-scoped c h
    renamed-scoped (all_of cs) h = (several-renamed cs h.0, renamed-all_scoped cs h.1)
    renamed-scoped (any_of cs) h = (several-renamed cs h.0, renamed-all_scoped cs h.1)

    renamed-all_scoped : (cs : Conds) → AreScoped sig None cs → AreScoped sig None (renamed_conds xs cs)
    renamed-all_scoped no_conds h = tt
    renamed-all_scoped (more_conds c cs) h = (renamed-scoped c h.0, renamed-all_scoped cs h.1)

  mutual
    atoms-renamed : (c : Cond) → atom_count (renamed_cond xs c) ≡ atom_count c
    atoms-renamed (amounts m s n) = refl
    atoms-renamed (cond.same a b) = refl
    atoms-renamed (less a b) = refl
    atoms-renamed (free a b) = refl
    atoms-renamed (of_kind a k) = refl
    atoms-renamed (headed a f) = refl
    atoms-renamed (negation c) = atoms-renamed c
    atoms-renamed (all_of cs) = all_atoms-renamed cs
    atoms-renamed (any_of cs) = all_atoms-renamed cs

    all_atoms-renamed : (cs : Conds) → atom_counts (renamed_conds xs cs) ≡ atom_counts cs
    all_atoms-renamed no_conds = refl
    all_atoms-renamed (more_conds c cs) = λ i. atoms-renamed c i + all_atoms-renamed cs i

  -- ---- brackets

  operand_depth-renamed : (a : Operand) → operand_depth (renamed_operand xs a) ≡ operand_depth a
  operand_depth-renamed (var x) = refl
  operand_depth-renamed (ground t) = refl

  amount_depth-renamed : (m : cond.Amount) → amount_depth (renamed_amount xs m) ≡ amount_depth m
  amount_depth-renamed (fixed n) = refl
  amount_depth-renamed (count a) = ap suc (operand_depth-renamed a)
  amount_depth-renamed (size a) = ap suc (operand_depth-renamed a)

  operands_depth-renamed : (a b : Operand)
      → max (operand_depth (renamed_operand xs a)) (operand_depth (renamed_operand xs b))
      ≡ max (operand_depth a) (operand_depth b)
  operands_depth-renamed a b = λ i. max (operand_depth-renamed a i) (operand_depth-renamed b i)

  negated_depth-renamed : (c : Cond) (n : ℕ) → negated_depth (renamed_cond xs c) n ≡ negated_depth c n
  negated_depth-renamed (amounts m s k) n = refl
  negated_depth-renamed (cond.same a b) n = refl
  negated_depth-renamed (less a b) n = refl
  negated_depth-renamed (free a b) n = refl
  negated_depth-renamed (of_kind a k) n = refl
  negated_depth-renamed (headed a f) n = refl
  negated_depth-renamed (negation c) n = refl
  negated_depth-renamed (all_of cs) n = refl
  negated_depth-renamed (any_of cs) n = refl

  mutual
    literal_depth-renamed : (c : Cond) → literal_depth (renamed_cond xs c) ≡ literal_depth c
    literal_depth-renamed (amounts m s n) = λ i. max (amount_depth-renamed m i) (amount_depth-renamed n i)
    literal_depth-renamed (cond.same a b) = ap suc (operands_depth-renamed a b)
    literal_depth-renamed (less a b) = ap suc (operands_depth-renamed a b)
    literal_depth-renamed (free a b) = ap suc (operands_depth-renamed a b)
    literal_depth-renamed (of_kind a k) = ap suc (operand_depth-renamed a)
    literal_depth-renamed (headed a f) = ap suc (operand_depth-renamed a)
    literal_depth-renamed (negation c) = ap (negated_depth (renamed_cond xs c)) (literal_depth-renamed c)
        ∙ negated_depth-renamed c (literal_depth c)
    literal_depth-renamed (all_of cs) = ap suc (literals_depth-renamed cs)
    literal_depth-renamed (any_of cs) = ap suc (alternatives_depth-renamed cs)

    literals_depth-renamed : (cs : Conds) → literals_depth (renamed_conds xs cs) ≡ literals_depth cs
    literals_depth-renamed no_conds = refl
    literals_depth-renamed (more_conds c cs) = λ i. max (literal_depth-renamed c i) (literals_depth-renamed cs i)

    alternatives_depth-renamed : (cs : Conds) → alternatives_depth (renamed_conds xs cs) ≡ alternatives_depth cs
    alternatives_depth-renamed no_conds = refl
    alternatives_depth-renamed (more_conds (amounts m s n) cs) =
        λ i. max (literal_depth-renamed (amounts m s n) i) (alternatives_depth-renamed cs i)
    alternatives_depth-renamed (more_conds (cond.same a b) cs) =
        λ i. max (literal_depth-renamed (cond.same a b) i) (alternatives_depth-renamed cs i)
    alternatives_depth-renamed (more_conds (less a b) cs) =
        λ i. max (literal_depth-renamed (less a b) i) (alternatives_depth-renamed cs i)
    alternatives_depth-renamed (more_conds (free a b) cs) =
        λ i. max (literal_depth-renamed (free a b) i) (alternatives_depth-renamed cs i)
    alternatives_depth-renamed (more_conds (of_kind a k) cs) =
        λ i. max (literal_depth-renamed (of_kind a k) i) (alternatives_depth-renamed cs i)
    alternatives_depth-renamed (more_conds (headed a f) cs) =
        λ i. max (literal_depth-renamed (headed a f) i) (alternatives_depth-renamed cs i)
    alternatives_depth-renamed (more_conds (negation c) cs) =
        λ i. max (literal_depth-renamed (negation c) i) (alternatives_depth-renamed cs i)
    alternatives_depth-renamed (more_conds (all_of bs) cs) =
        λ i. max (literals_depth-renamed bs i) (alternatives_depth-renamed cs i)
    alternatives_depth-renamed (more_conds (any_of bs) cs) =
        λ i. max (literal_depth-renamed (any_of bs) i) (alternatives_depth-renamed cs i)

  condition_depth-renamed : (c : Cond) → condition_depth (renamed_cond xs c) ≡ condition_depth c
  condition_depth-renamed (amounts m s n) = literal_depth-renamed (amounts m s n)
  condition_depth-renamed (cond.same a b) = literal_depth-renamed (cond.same a b)
  condition_depth-renamed (less a b) = literal_depth-renamed (less a b)
  condition_depth-renamed (free a b) = literal_depth-renamed (free a b)
  condition_depth-renamed (of_kind a k) = literal_depth-renamed (of_kind a k)
  condition_depth-renamed (headed a f) = literal_depth-renamed (headed a f)
  condition_depth-renamed (negation c) = literal_depth-renamed (negation c)
  condition_depth-renamed (all_of cs) = literals_depth-renamed cs
  condition_depth-renamed (any_of cs) = alternatives_depth-renamed cs

  -- a condition passes the checks also where its variables are called so
  pub renamed-readable : (c : Cond) → IsReadableCondition sig None c
      → IsReadableCondition sig None (renamed_cond xs c)
  renamed-readable c h = record {
    sound = record {
      checked = renamed-scoped c h.sound.checked;
      few_atoms = subst (λ n. n ≤ MAX_ATOMS) (sym (atoms-renamed c)) h.sound.few_atoms;
    };
    shallow = subst (λ n. n ≤ MAX_DEPTH) (sym (condition_depth-renamed c)) h.shallow;
  }

-- ---- the names of conditions

module _ (xs : List Text) where
  -- what a variable is called by its place
  abbrev pub place_name : Text → Text
  place_name x = numbered (number_in xs x)

  pub operand-names : (a : Operand) → operand_names (renamed_operand xs a) ≡ map place_name (operand_names a)
  operand-names (var x) = refl
  operand-names (ground t) = refl

  amount-operands : (m : cond.Amount)
      → amount_operands (renamed_amount xs m) ≡ map (renamed_operand xs) (amount_operands m)
  amount-operands (fixed n) = refl
  amount-operands (count a) = refl
  amount-operands (size a) = refl

  mutual
    operands-renamed : (c : Cond) → operands (renamed_cond xs c) ≡ map (renamed_operand xs) (operands c)
    operands-renamed (amounts m s n) =
        (λ i. amount-operands m i ++ amount-operands n i)
        ∙ sym (map-append (renamed_operand xs) (amount_operands m) (amount_operands n))
    operands-renamed (cond.same a b) = refl
    operands-renamed (less a b) = refl
    operands-renamed (free a b) = refl
    operands-renamed (of_kind a k) = refl
    operands-renamed (headed a f) = refl
    operands-renamed (negation c) = operands-renamed c
    operands-renamed (all_of cs) = all_operands-renamed cs
    operands-renamed (any_of cs) = all_operands-renamed cs

    all_operands-renamed : (cs : Conds)
        → all_operands (renamed_conds xs cs) ≡ map (renamed_operand xs) (all_operands cs)
    all_operands-renamed no_conds = refl
    all_operands-renamed (more_conds c cs) =
        (λ i. operands-renamed c i ++ all_operands-renamed cs i)
        ∙ sym (map-append (renamed_operand xs) (operands c) (all_operands cs))

  names-renamed : (os : List Operand)
      → flat_map operand_names (map (renamed_operand xs) os) ≡ map place_name (flat_map operand_names os)
  names-renamed [] = refl
  names-renamed (a ∷ os) = (λ i. operand-names a i ++ names-renamed os i)
      ∙ sym (map-append place_name (operand_names a) (flat_map operand_names os))

  -- the variables of the condition that is called so
  pub cond_names-renamed : (c : Cond) → cond_names (renamed_cond xs c) ≡ map place_name (cond_names c)
  cond_names-renamed c = ap (flat_map operand_names) (operands-renamed c) ∙ names-renamed (operands c)

  -- where those of the condition are among the names, and there are few, these are v0 to v31
  pub place_names-known : length xs ≤ MAX_VARIABLES → (ys : List Text)
      → list_all (is_known same_name xs) ys ≡ true
      → AllByRecursion (λ x. is_known same_name (numbered_names MAX_VARIABLES) x ≡ true) (map place_name ys)
  place_names-known few [] h = tt
  place_names-known few (y ∷ ys) h =
      let both = and_parts (is_known same_name xs y) (list_all (is_known same_name xs) ys) h in
      let below = number_in-known xs y both.0 in
      (known-numbered MAX_VARIABLES (number_in xs y) (omega (arith, below, few)), place_names-known few ys both.1)
