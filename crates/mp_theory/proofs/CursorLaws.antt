-- Each move of the cursor leaves the solutions still to come as they are, but for the one that it hands out; and
-- choices without a solution may be left out.
use Rattle.std.proofs.Common.{◌≡◌, ℕ, zero, suc, List, [], ◌∷◌, ◌++◌, Bool, true, false, refl, ap, sym, ◌∙◌, inl, inr}
use Rattle.std.proofs.Common.{append_assoc, append-nil}
use Rattle.std.specs.Prelude.{Some, None, if◌then◌else◌, filter, flat_map}
use Rattle.mp_term.specs.Signature.{Sig}
use Rattle.mp_pattern.specs.Value.{Subst}
use Rattle.mp_pattern.specs.Fits.{Entry}
use Rattle.mp_theory.specs.Solve.{solve}
use Rattle.mp_theory.specs.Frames.{Next}
use Rattle.mp_term.specs.Search.{In}
use Rattle.mp_theory.specs.Machine.{is_ended, onward, said, choices}
use Rattle.mp_theory.specs.Trail.{solutions}
use Rattle.mp_theory.specs.Cursor.{Level, branch, to_come}

-- choices that give nothing may be left out
pub pruned : {X Y : Type 0} (keep : X → Bool) (f : X → List Y) (xs : List X)
    → ((x : X) → In x xs → keep x ≡ false → f x ≡ []) → flat_map f (filter keep xs) ≡ flat_map f xs
pruned keep f [] h = refl
pruned keep f (x ∷ xs) h =
    let i : flat_map f (filter keep xs) ≡ flat_map f xs = pruned keep f xs (λ y j. h y (inr j)) in
    elim (keep x) as (λ b. keep x ≡ b → flat_map f (if b then x ∷ filter keep xs else filter keep xs)
    ≡ f x ++ flat_map f xs) [
      | true ↦ λ e. ap (λ ys. f x ++ ys) i
      | false ↦ λ e. i ∙ ap (λ ys. ys ++ flat_map f xs) (sym (h x (inl refl) e))
    ] refl

module _ (sig : Sig) where
  -- a level with the choices es left
  abbrev level : ℕ → Next → Subst → List Entry → Level
  level k n s es = record { place = n; trail = s; untried = es; after = k }

  -- the first level
  pub opened : (k : ℕ) (n : Next) (s : Subst)
      → to_come sig (level k n s (choices sig n) ∷ []) ≡ solutions sig (suc k) n s
  opened k n s = append-nil (flat_map (branch sig k n s) (choices sig n))

  -- a level with no choice left goes
  pub closed : (k : ℕ) (n : Next) (s : Subst) (ls : List Level) → to_come sig (level k n s [] ∷ ls) ≡ to_come sig ls
  closed k n s ls = refl

  -- a choice against the trail is passed over
  pub clashed : (k : ℕ) (n : Next) (s : Subst) (e : Entry) (es : List Entry) (ls : List Level)
      → solve sig s (said n e) ≡ None → to_come sig (level k n s (e ∷ es) ∷ ls) ≡ to_come sig (level k n s es ∷ ls)
  clashed k n s e es ls h = rw h refl

  -- the last entry: a solution, if the table may end there
  pub reached : (n : Next) (s r : Subst) (e : Entry) (es : List Entry) (ls : List Level)
      → solve sig s (said n e) ≡ Some r → is_ended (onward n e) ≡ true
      → to_come sig (level zero n s (e ∷ es) ∷ ls) ≡ r ∷ to_come sig (level zero n s es ∷ ls)
  reached n s r e es ls h q = rw (h, q) refl

  -- or none, if the table may not end there
  pub unfinished : (n : Next) (s r : Subst) (e : Entry) (es : List Entry) (ls : List Level)
      → solve sig s (said n e) ≡ Some r → is_ended (onward n e) ≡ false
      → to_come sig (level zero n s (e ∷ es) ∷ ls) ≡ to_come sig (level zero n s es ∷ ls)
  unfinished n s r e es ls h q = rw (h, q) refl

  -- another level is opened
  pub descended : (k : ℕ) (n : Next) (s r : Subst) (e : Entry) (es : List Entry) (ls : List Level)
      → solve sig s (said n e) ≡ Some r
      → to_come sig (level (suc k) n s (e ∷ es) ∷ ls)
      ≡ to_come sig (level k (onward n e) r (choices sig (onward n e)) ∷ level (suc k) n s es ∷ ls)
  descended k n s r e es ls h =
      rw h (append_assoc (solutions sig (suc k) (onward n e) r) (flat_map (branch sig (suc k) n s) es) (to_come sig ls))
