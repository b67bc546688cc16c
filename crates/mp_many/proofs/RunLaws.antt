-- Lists that go on alike from a place on are entered into groups at once.
use Rattle.std.proofs.Common.{◌≡◌, ◌<◌, ◌≤◌, ℕ, zero, suc, List, [], ◌∷◌, ◌++◌, length, take, drop, get_or, Bool}
use Rattle.std.proofs.Common.{true, false, nat_eq, refl, ap, sym, ◌∙◌, subst, arith, append-nil, append_assoc}
use Rattle.std.specs.Prelude.{Option, Some, None, if◌then◌else◌, slice_get}
use Rattle.std.specs.List.{AllByRecursion}
use Rattle.std.proofs.lemmas.Bool.{eqb-true}
use Rattle.std.proofs.lemmas.List.{length-take-le, map-append, nil_from_length, take-append-drop}
use Rattle.mp_term.proofs.ListLaws.{all-split}
use Rattle.mp_pattern.specs.NetTokens.{NetToken, same_token}
use Rattle.mp_pattern.specs.NetTokenLaws.{same_token-itself}
use Rattle.mp_walk.specs.Walkable.{Path}
use Rattle.mp_many.specs.Groups.{Group, entered, left_at}
use Rattle.mp_many.specs.Laid.{Numbered}
use Rattle.mp_many.proofs.GroupLaws.{entered_first, entered_all, AreWithin}

-- what is entered of lists that go on alike, where they have a token at the place
abbrev pub entered_by : List Group → List ℕ → Option NetToken → List Group
entered_by gs ns None = gs
entered_by gs ns (Some k) = entered gs k ns

-- the lists of the numbers have this at the place
abbrev pub HaveAt : List Path → ℕ → Option NetToken → List ℕ → Type 0
HaveAt lists place o ns = AllByRecursion (λ n. slice_get (get_or lists n []) place ≡ o) ns

-- one list alone
entered-by : (gs : List Group) (n place : ℕ) (l : Path)
    → entered_first gs (n, drop place l) ≡ entered_by gs (n ∷ []) (slice_get l place)
entered-by gs n zero [] = refl
entered-by gs n (suc place) [] = refl
entered-by gs n zero (k ∷ l) = refl
entered-by gs n (suc place) (k ∷ l) = entered-by gs n place l

-- more numbers of one token
entered-twice : (gs : List Group) (k : NetToken) (ms ns : List ℕ)
    → entered (entered gs k ms) k ns ≡ entered gs k (ms ++ ns)
entered-twice [] k ms ns = rw (same_token-itself k) refl
entered-twice (g ∷ gs) k ms ns = at (same_token g.0 k) refl (entered-twice gs k ms ns)
  where
    at : (b : Bool) → same_token g.0 k ≡ b → entered (entered gs k ms) k ns ≡ entered gs k (ms ++ ns)
        → entered (if b then (g.0, g.1 ++ ms) ∷ gs else g ∷ entered gs k ms) k ns
        ≡ (if b then (g.0, g.1 ++ (ms ++ ns)) ∷ gs else g ∷ entered gs k (ms ++ ns))
    at true e r = rw e (ap (λ xs. (g.0, xs) ∷ gs) (append_assoc g.1 ms ns))
    at false e r = rw e (ap (λ hs. g ∷ hs) r)

-- lists that are entered in turn
entered_all-append : (gs : List Group) (ls ms : List Numbered)
    → entered_all gs (ls ++ ms) ≡ entered_all (entered_all gs ls) ms
entered_all-append gs [] ms = refl
entered_all-append gs (l ∷ ls) ms = entered_all-append (entered_first gs l) ls ms

module _ (lists : List Path) (place : ℕ) where
  -- of those that have no token at the place nothing is entered
  run-none : (gs : List Group) (ns : List ℕ) → HaveAt lists place None ns → entered_all gs (left_at lists place ns) ≡ gs
  run-none gs [] h = refl
  run-none gs (n ∷ ns) h =
      ap (λ hs. entered_all hs (left_at lists place ns))
      (entered-by gs n place (get_or lists n []) ∙ ap (entered_by gs (n ∷ [])) h.0) ∙ run-none gs ns h.1

  -- the others are added to those that are there
  run-some : (gs : List Group) (k : NetToken) (ms ns : List ℕ) → HaveAt lists place (Some k) ns
      → entered_all (entered gs k ms) (left_at lists place ns) ≡ entered gs k (ms ++ ns)
  run-some gs k ms [] h = ap (entered gs k) (sym (append-nil ms))
  run-some gs k ms (n ∷ ns) h =
      ap (λ hs. entered_all hs (left_at lists place ns))
      (entered-by (entered gs k ms) n place (get_or lists n [])
      ∙ ap (entered_by (entered gs k ms) (n ∷ [])) h.0 ∙ entered-twice gs k ms (n ∷ []))
      ∙ run-some gs k (ms ++ n ∷ []) ns h.1 ∙ ap (entered gs k) (append_assoc ms (n ∷ []) ns)

  -- lists that go on alike
  run : (gs : List Group) (o : Option NetToken) (ns : List ℕ) → 0 < length ns → HaveAt lists place o ns
      → entered_all gs (left_at lists place ns) ≡ entered_by gs ns o
  run gs None ns h a = run-none gs ns a
  run gs (Some k) [] h a = absurd (omega (arith, h))
  run gs (Some k) (n ∷ ns) h a =
      ap (λ hs. entered_all hs (left_at lists place ns))
      (entered-by gs n place (get_or lists n []) ∙ ap (entered_by gs (n ∷ [])) a.0) ∙ run-some gs k (n ∷ []) ns a.1

  -- the first ones of several lists go on alike
  pub run-step : (gs : List Group) (count : ℕ) (o : Option NetToken) (ns : List ℕ) → 0 < count → count ≤ length ns
      → HaveAt lists place o (take count ns) → entered_all gs (left_at lists place ns)
      ≡ entered_all (entered_by gs (take count ns) o) (left_at lists place (drop count ns))
  run-step gs count o ns h w a =
      let some : 0 < length (take count ns) = omega (arith, h, length-take-le count ns w) in
      ap (λ ms. entered_all gs (left_at lists place ms)) (sym (take-append-drop count ns))
      ∙ ap (entered_all gs) (map-append _ (take count ns) (drop count ns))
      ∙ entered_all-append gs (left_at lists place (take count ns)) (left_at lists place (drop count ns))
      ∙ ap (λ hs. entered_all hs (left_at lists place (drop count ns))) (run gs o (take count ns) some a)

-- numbers that are left are those of lists
pub within-drop : (lists : List Path) (count : ℕ) (ns : List ℕ) → AreWithin lists ns → AreWithin lists (drop count ns)
within-drop lists count ns h =
    (all-split (λ n. n < length lists) (take count ns) (drop count ns)
    (subst (AreWithin lists) (sym (take-append-drop count ns)) h)).1

-- numbers of which none is left
pub none-left : (ns : List ℕ) (b : Bool) → b ≡ nat_eq (length ns) 0 → b ≡ true → ns ≡ []
none-left ns b e h = nil_from_length ns (eqb-true (length ns) 0 (sym e ∙ h))
