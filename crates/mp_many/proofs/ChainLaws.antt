-- The states of one list alone.
use Rattle.std.proofs.Common.{◌≡◌, ◌<◌, ◌≤◌, ℕ, zero, suc, ◌+◌, ◌-◌, List, [], ◌∷◌, ◌++◌, length, drop, get_or}
use Rattle.std.proofs.Common.{true, false, refl, ap, sym, ◌∙◌, arith, nat_eq, nat_lt, append-nil, append_assoc}
use Rattle.std.specs.Prelude.{Some, None, if◌then◌else◌, min}
use Rattle.std.proofs.lemmas.Bool.Decides.{nat_tests}
use Rattle.std.proofs.lemmas.List.{drop_all, length-append, length-drop}
use Rattle.mp_term.proofs.ListLaws.{drop-item}
use Rattle.mp_pattern.specs.NetTokens.{NetToken}
use Rattle.mp_pattern.specs.NetTokenLaws.{same_token-itself}
use Rattle.mp_walk.specs.Instrs.{Instr}
use Rattle.mp_walk.specs.Walkable.{Path}
use Rattle.mp_many.specs.Laid.{ended, target, laid}

-- the states of what is left of one list
abbrev pub chain : ℕ → ℕ → Path → ℕ → List Instr
chain d n ks m = laid d ((n, ks) ∷ []) m

-- the state of its first token, and those behind
abbrev pub chain_state : ℕ → ℕ → NetToken → Path → ℕ → Instr
chain_state d n k ks m = record {
  token = k;
  down = target (suc m) (chain d n ks (suc m));
  over = None;
  accepts = ended (n, ks);
}

chain-none : (d n m : ℕ) → chain d n [] m ≡ []
chain-none zero n m = refl
chain-none (suc d) n m = refl

chain-first : (d n : ℕ) (k : NetToken) (ks : Path) (m : ℕ)
    → chain (suc d) n (k ∷ ks) m ≡ chain_state d n k ks m ∷ chain d n ks (suc m)
chain-first d n k ks m = rw (same_token-itself k) (λ i. record {
  token = k;
  down = target (suc m) (chain d n ks (suc m));
  over = None;
  accepts = append-nil (ended (n, ks)) i;
} ∷ append-nil (chain d n ks (suc m)) i)

some-less : (x : ℕ) → nat_lt 0 (suc x) ≡ true
some-less x = grind (arith, nat_tests)

none-same : (x : ℕ) → nat_eq 0 (suc x) ≡ false
none-same x = grind (arith, nat_tests)

next-same : (x y : ℕ) → nat_eq (suc x) (suc y) ≡ nat_eq x y
next-same x y = grind (arith, nat_tests)

-- whether there are states behind
chain-behind : (d n : ℕ) (ks : Path) (m j : ℕ)
    → target j (chain d n ks m) ≡ (if nat_lt 0 (min d (length ks)) then Some j else None)
chain-behind zero n ks m j =
    let e : min 0 (length ks) ≡ 0 = omega arith in ap (λ x. if nat_lt 0 x then Some j else None) (sym e)
chain-behind (suc d) n [] m j =
    let e : min (suc d) 0 ≡ 0 = omega arith in ap (λ x. if nat_lt 0 x then Some j else None) (sym e)
chain-behind (suc d) n (k ∷ ks) m j =
    let e : min (suc d) (suc (length ks)) ≡ suc (min d (length ks)) = omega arith in
    ap (target j) (chain-first d n k ks m)
    ∙ ap (λ b. if b then Some j else None) (sym (ap (nat_lt 0) e ∙ some-less (min d (length ks))))

less-by : (a b c : ℕ) → c ≡ b - a → nat_lt a b ≡ nat_lt 0 c
less-by a b c e = grind (arith, nat_tests)

-- what ends behind so many tokens
chain-ended : (n i : ℕ) (ks : Path) → i ≤ length ks
    → ended (n, drop i ks) ≡ (if nat_eq i (length ks) then n ∷ [] else [])
chain-ended n zero [] h = refl
chain-ended n (suc i) [] h = absurd (omega (arith, h))
chain-ended n zero (k ∷ ks) h = ap (λ b. if b then n ∷ [] else []) (sym (none-same (length ks)))
chain-ended n (suc i) (k ∷ ks) h = chain-ended n i ks (omega (arith, h))
    ∙ ap (λ b. if b then n ∷ [] else []) (sym (next-same i (length ks)))

-- one state more, of the token of the index
pub chain-step : (ks : Path) (n left end index : ℕ) (k : NetToken) (rows : List Instr) (row : Instr)
    → index < length ks → k ≡ get_or ks index k → end ≡ min (length ks) (suc index + left)
    → row ≡ record {
      token = k;
      down = if nat_lt (index + 1) end then Some (suc (suc (length rows))) else None;
      over = None;
      accepts = if nat_eq (index + 1) (length ks) then n ∷ [] else [];
    } → (rows ++ row ∷ []) ++ chain left n (drop (index + 1) ks) (suc (length (rows ++ row ∷ [])))
    ≡ rows ++ chain (suc left) n (drop index ks) (suc (length rows))
chain-step ks n left end index k rows row within is bound made =
    let m = suc (length rows) in
    let js = drop (index + 1) ks in
    let size : min left (length js) ≡ end - (index + 1) = omega (arith, bound, within, length-drop (index + 1) ks) in
    let down : target (suc m) (chain left n js (suc m)) ≡ (if nat_lt (index + 1) end then Some (suc m) else None) =
    chain-behind left n js (suc m) (suc m)
    ∙ ap (λ b. if b then Some (suc m) else None) (sym (less-by (index + 1) end (min left (length js)) size)) in
    let last = chain-ended n (index + 1) ks (omega (arith, within)) in
    let own : row ≡ chain_state left n k js m = made ∙ (λ i. record {
      token = k;
      down = sym down i;
      over = None;
      accepts = sym last i;
    }) in
    let next : suc (length (rows ++ row ∷ [])) ≡ suc m = omega (arith, length-append rows (row ∷ [])) in
    append_assoc rows (row ∷ []) (chain left n js (suc (length (rows ++ row ∷ []))))
    ∙ (λ i. rows ++ (own i ∷ chain left n js (next i)))
    ∙ ap (λ is. rows ++ is) (sym (chain-first left n k js m))
    ∙ ap (λ xs. rows ++ chain (suc left) n xs m) (sym (drop-item ks index k within is))

-- nothing comes behind the last
pub chain-past : (ks : Path) (n d index m : ℕ) → min (length ks) (index + d) ≤ index
    → chain d n (drop index ks) m ≡ []
chain-past ks n zero index m h = refl
chain-past ks n (suc d) index m h =
    ap (λ js. chain (suc d) n js m) (drop_all index ks (omega (arith, h))) ∙ chain-none (suc d) n m
