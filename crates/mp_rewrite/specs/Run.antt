-- Runs of steps by a rule that cancels equal arguments.
use Rattle.std.specs.Prelude.{◌≡◌, ◌+◌, ℕ, true, List, [], ◌∷◌, ◌++◌, Option, Some, None, drop, replicate}
use Rattle.std.specs.Borrow.{Bor}
use Rattle.mp_term.specs.declared.name.Name.{Name}
use Rattle.mp_term.specs.Tree.{Tree, symbol, app, trees}
use Rattle.mp_term.specs.Order.{tree_cmp}
use Rattle.mp_term.specs.Signature.{Sig, is_comm}
use Rattle.mp_term.specs.Normal.{IsNormal}
use Rattle.mp_term.proofs.Sorting.{Ascends}
use Rattle.mp_pattern.specs.Admission.{Rule}
use Rattle.mp_rewrite.specs.Computed.{first_match, rewriting_from}
use Rattle.mp_rewrite.specs.Rewritable.{IsRewritable}
use Rattle.mp_rewrite.specs.Cancellation.{Cancels}
use Rattle.mp_rewrite.specs.declared.cancellation.Taken.TheVariants.{Pair}
use Rattle.mp_rewrite.specs.declared.cancellation.Cancellation.{Cancellation}

-- the rule cancels equal arguments of f
pub record IsPairing (f : ℕ) (r : Rule) (d : Cancellation) : Type 0 where
  pub cancels : Cancels r d
  pub pair : d.taken ≡ Pair
  pub op : d.op.0 ≡ f

-- so does the first of the rules that admits something on any application of f
pub record IsFirstPairing (sig : Sig) (rules : List Rule) (f : ℕ) (d : Cancellation) : Type 0 where
  pub rule : Rule
  pub later : List Rule
  pub pairing : IsPairing f rule d
  pub least : (ts : List Tree) → IsNormal sig (app f (trees ts))
      → first_match sig (rule ∷ later) (app f (trees ts)) ≡ first_match sig rules (app f (trees ts))

-- what so many steps put in
abbrev pub copies : Option (Bor Name) → ℕ → List Tree
copies None k = []
copies (Some n) k = replicate k (symbol n.now)

-- k steps lead from t to u
abbrev pub Leads : Sig → List Rule → ℕ → Tree → Tree → Type 0
Leads sig rules k t u = (left n : ℕ) → rewriting_from sig rules (k + left) n t ≡ rewriting_from sig rules left (k + n) u

-- a step by the first rule cancels the first equal arguments of those before, and what is put in goes between those and
-- the ones behind
pub record IsRunnable (sig : Sig) (rules : List Rule) (d : Cancellation) (before behind : List Tree) : Type 0 where
  pub first : IsFirstPairing sig rules d.op.0 d
  pub comm : is_comm sig d.op.0 ≡ true
  pub rewritable : IsRewritable sig (app d.op.0 (trees (before ++ behind)))
  pub room : Ascends tree_cmp (before ++ (copies d.put 1 ++ behind))

-- the term of which so much is kept, so many of those before are passed, and so many steps are made
abbrev pub passed_to : Cancellation → List Tree → List Tree → List Tree → ℕ → ℕ → Tree
passed_to d before behind kept place made =
    app d.op.0 (trees (kept ++ (drop place before ++ (copies d.put made ++ behind))))

-- the steps lead to that term, which can be rewritten
pub record IsPassed (sig : Sig) (rules : List Rule) (d : Cancellation) (before behind kept : List Tree)
    (place made : ℕ) : Type 0 where
  pub leads : Leads sig rules made (app d.op.0 (trees (before ++ behind)))
      (passed_to d before behind kept place made)
  pub rewritable : IsRewritable sig (passed_to d before behind kept place made)
