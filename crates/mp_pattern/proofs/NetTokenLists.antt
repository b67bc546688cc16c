-- The renaming of a list of patterns, and the names that it gives.
use Rattle.std.proofs.Common.{◌≡◌, ℕ, ◌+◌, ◌^◌, ◌<◌, ◌≤◌, ◌%◌, true, List, [], ◌∷◌, ◌++◌, map, length, refl, ap, ◌∙◌}
use Rattle.std.proofs.Common.{◌-◌, drop, take, get_or, replicate, append-nil, sym, arith}
use Rattle.std.proofs.lemmas.List.{get_or-take, get_or-replicate, take_all}
use Rattle.std.specs.Prelude.{Some, nat_le, decimal, if◌then◌else◌, slice_get}
use Rattle.std.specs.List.{list_all}
use Rattle.std.proofs.lemmas.Bool.Decides.{nat_tests}
use Rattle.std.proofs.lemmas.Fmt.{decimal_by_steps, length-decimal-le}
use Rattle.std.proofs.lemmas.List.Folds.{list_all-append}
use Rattle.std.proofs.lemmas.Option.{get_or_from_slice_get, slice_get_within}
use Rattle.mp_term.specs.Names.{is_name_byte, is_name}
use Rattle.mp_term.proofs.ListLaws.{drop-item}
use Rattle.mp_pattern.specs.PatternTree.{Pattern, more_patterns, patterns}
use Rattle.mp_pattern.specs.NetTokens.{number_in, numbered, renamed, all_renamed}
use Rattle.mp_pattern.specs.Value.{same_name}

-- each pattern of a list is renamed
pub all_renamed-patterns : (xs : List (List ℕ)) (ps : List Pattern)
    → all_renamed xs (patterns ps) ≡ patterns (map (renamed xs) ps)
all_renamed-patterns xs [] = refl
all_renamed-patterns xs (p ∷ ps) = ap (λ qs. more_patterns (renamed xs p) qs) (all_renamed-patterns xs ps)

digit-byte : (n : ℕ) → n < 10 → is_name_byte (48 + n) ≡ true
digit-byte n small =
    let low : nat_le 48 (48 + n) ≡ true = grind (arith, nat_tests) in
    let high : nat_le (48 + n) 57 ≡ true = grind (arith, nat_tests) in
    rw (low, high) refl

-- decimal digits are bytes of names
decimal-bytes : (n : ℕ) → n < 2 ^ 64 → list_all is_name_byte (decimal n) ≡ true
decimal-bytes = decimal_by_steps (λ n ds. list_all is_name_byte ds ≡ true) one more
  where
    one : (n : ℕ) → n < 10 → list_all is_name_byte ((48 + n) ∷ []) ≡ true
    one n small = rw (digit-byte n small) refl

    more : (n : ℕ) (ds : List ℕ) → 10 ≤ n → list_all is_name_byte ds ≡ true
        → list_all is_name_byte (ds ++ ((48 + n % 10) ∷ [])) ≡ true
    more n ds large front =
        let small : n % 10 < 10 = omega arith in
        list_all-append is_name_byte ds ((48 + n % 10) ∷ []) ∙ rw (front, digit-byte (n % 10) small) refl

-- a number of 32 bits has ten digits at most
pub length-decimal-word : (n : ℕ) → n < 2 ^ 32 → length (decimal n) ≤ 10
length-decimal-word n small = length-decimal-le 10 n (omega arith) (omega arith) (omega arith)

-- a number makes a name
pub is_name-numbered : (n : ℕ) → n < 2 ^ 32 → is_name (numbered n) ≡ true
is_name-numbered n small =
    let few : n < 2 ^ 64 = omega arith in
    let short : length (decimal n) ≤ 10 = length-decimal-word n small in
    let most : nat_le (length (numbered n)) 64 ≡ true = grind (arith, nat_tests) in
    let some : nat_le 1 (length (numbered n)) ≡ true = grind (arith, nat_tests) in
    rw (some, most, decimal-bytes n few) refl

-- the number of a name, by the next of the names
pub number_in-next : (names : List (List ℕ)) (i : ℕ) (other name : List ℕ) → slice_get names i ≡ Some other
    → number_in (drop i names) name ≡ (if same_name other name then 0 else number_in (drop (i + 1) names) name + 1)
number_in-next names i other name at = ap (λ l. number_in l name)
    (drop-item names i other (slice_get_within names i other at) (sym (get_or_from_slice_get names i other other at)))

-- a byte before the digits is a `v`, in a buffer that was full of it
get_or-full : (bytes : List ℕ) (start i : ℕ) → i < start → i < 11 → take start bytes ≡ take start (replicate 11 118)
    → get_or bytes i 118 ≡ 118
get_or-full bytes start i before within same = sym (get_or-take start bytes i 118 before)
    ∙ ap (λ l. get_or l i 118) same ∙ get_or-take start (replicate 11 118) i 118 before
    ∙ get_or-replicate 11 i 118 118 within

-- the bytes from the `v` before the digits on, in a buffer that was full of it
pub slice-numbered : (bytes : List ℕ) (start n : ℕ) → n < 2 ^ 32 → length bytes ≡ 11 → start + length (decimal n) ≡ 11
    → take start bytes ≡ take start (replicate 11 118) → drop start bytes ≡ decimal n ++ []
    → take (11 - (start - 1)) (drop (start - 1) bytes) ≡ numbered n
slice-numbered bytes start n small long whole before digits =
    let i = start - 1 in
    let short : length (decimal n) ≤ 10 = length-decimal-word n small in
    let last : i < start = omega arith in
    let within : i < length bytes = omega arith in
    let held : i < 11 = omega arith in
    let next : i + 1 ≡ start = omega arith in
    let all : length (numbered n) ≤ 11 - i = omega arith in
    let rest : drop (i + 1) bytes ≡ decimal n = ap (λ k. drop k bytes) next ∙ digits ∙ append-nil (decimal n) in
    let text : drop i bytes ≡ numbered n =
    drop-item bytes i 118 within (sym (get_or-full bytes start i last held before)) ∙ ap (λ l. 118 ∷ l) rest in
    ap (take (11 - i)) text ∙ take_all (11 - i) (numbered n) all
