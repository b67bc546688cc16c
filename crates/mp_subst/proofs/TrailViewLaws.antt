-- How the list of a trail's ranks and its entries change when a value is put on the stack, and when values are taken
-- back.
use Rattle.std.proofs.Common.{◌≡◌, ◌≢◌, ℕ, zero, suc, ◌<◌, ◌≤◌, ◌+◌, ◌-◌, Bool, true, false, List, [], ◌∷◌, ◌++◌}
use Rattle.std.proofs.Common.{length}
use Rattle.std.proofs.Common.{take, drop, get_or, refl, ap, sym, ◌∙◌, subst, arith}
use Rattle.std.specs.Prelude.{Option, Some, None, if◌then◌else◌, nat_eq, slice_get, slice_range}
use Rattle.std.proofs.lemmas.Bool.Decides.{nat_tests}
use Rattle.std.proofs.lemmas.List.{take-take, drop_at, drop-take, take-append-le}
use Rattle.std.proofs.lemmas.List.{map_push, length-take-le}
use Rattle.std.proofs.Math.Seq.{take-append_seam}
use Rattle.mp_table.specs.declared.rank.Rank.{Rank}
use Rattle.mp_subst.specs.declared.trail.Entry.{Entry}
use Rattle.mp_subst.specs.Bound.{bound_from}
use Rattle.mp_subst.specs.Trail.{TrailEntry, last_value}
use Rattle.mp_subst.specs.TrailView.{entry_value, trail_entry, stack_of, last_place, IsWithin, first_before, Laid}
use Rattle.mp_subst.specs.TrailView.{HasRoom}
use Rattle.mp_subst.proofs.TrailLaws.{other_numbers}

range-drop : {X : Type 0} (xs : List X) (s e : ℕ) → s ≤ e → slice_range xs s e ≡ drop s (take e xs)
range-drop xs s e h =
    let whole : s + (e - s) ≡ e = omega (arith, h) in
    sym (drop-take s (e - s) xs) ∙ ap (λ n. drop s (take n xs)) whole

first_before-le : (es : List Entry) (n : ℕ) → Laid es n → first_before es n ≤ n
first_before-le [] n h = omega arith
first_before-le (e ∷ es) n h = omega (arith, h.0, first_before-le es n h.2)

-- the list of ranks may change past those that the entries have
pub stack_of-same : (es : List Entry) (n : ℕ) (rs ss : List Rank) → Laid es n → take n rs ≡ take n ss
    → stack_of rs es ≡ stack_of ss es
stack_of-same [] n rs ss h p = refl
stack_of-same (e ∷ es) n rs ss h p =
    let within : e.end ≤ n = omega (arith, h.1.1, first_before-le es n h.2) in
    let front : take e.end rs ≡ take e.end ss = sym (take-take e.end n rs within) ∙ ap (take e.end) p
    ∙ take-take e.end n ss within in
    let own : slice_range rs e.start e.end ≡ slice_range ss e.start e.end =
    range-drop rs e.start e.end h.1.0 ∙ ap (drop e.start) front ∙ sym (range-drop ss e.start e.end h.1.0) in
    ap (λ xs. record { var = e.var; value = bound_from e.form e.wrap xs; spare = e.spare } ∷ stack_of rs es) own
    ∙ ap (λ ds. trail_entry ss e ∷ ds) (stack_of-same es n rs ss h.2 p)

-- an entry more
first_before-put : (es : List Entry) (n m : ℕ) (e : Entry) → e.before ≡ n
    → first_before (es ++ e ∷ []) m ≡ first_before es n
first_before-put [] n m e p = p
first_before-put (d ∷ es) n m e p = refl

pub laid-put : (es : List Entry) (n m : ℕ) (e : Entry) → Laid es n → e.before ≡ n → n ≤ m → IsWithin m e
    → Laid (es ++ e ∷ []) m
laid-put [] n m e h p l w = (omega (arith, p, l), w, tt)
laid-put (d ∷ es) n m e h p l w =
    let same = sym (first_before-put es n m e p) in
    (subst (λ k. d.before ≤ k) same h.0, subst (λ k. IsWithin k d) same h.1, laid-put es n m e h.2 p l w)

pub room-put : (i : ℕ) (es : List Entry) (room : ℕ) (e : Entry) → HasRoom i es room → i + length es + e.spare ≤ room
    → e.before + e.spare ≤ room → HasRoom i (es ++ e ∷ []) room
room-put i [] room e h p q = (omega (arith, p), q, tt)
room-put i (d ∷ es) room e h p q = (h.0, h.1, room-put (suc i) es room e h.2 (omega (arith, p)) q)

-- the list is written from the end of the ranks in use on
pub stack_of-written : (es : List Entry) (rs ss ns : List Rank) (n : ℕ) → Laid es n → n ≤ length rs
    → ss ≡ take n rs ++ ns → stack_of ss es ≡ stack_of rs es
stack_of-written es rs ss ns n h l is =
    stack_of-same es n ss rs h (ap (take n) is
    ∙ take-append-le n (take n rs) ns (omega (arith, length-take-le n rs l)) ∙ take-take n n rs (omega arith))

-- with the ranks of an entry
pub stack_of-put : (es : List Entry) (rs ss ns rest : List Rank) (n : ℕ) (e : Entry) → Laid es n → n ≤ length rs
    → ss ≡ take n rs ++ (ns ++ rest) → e.start ≡ n → e.end ≡ n + length ns
    → stack_of ss (es ++ e ∷ [])
    ≡ stack_of rs es ++ record { var = e.var; value = bound_from e.form e.wrap ns; spare = e.spare } ∷ []
stack_of-put es rs ss ns rest n e h l is p q =
    let behind : drop n ss ≡ ns ++ rest =
    ap (drop n) is ∙ drop_at (take n rs) (ns ++ rest) n (length-take-le n rs l) in
    let count : e.end - e.start ≡ length ns = omega (arith, p, q) in
    let own : slice_range ss e.start e.end ≡ ns =
    ap (λ k. take (e.end - e.start) (drop k ss)) p ∙ ap (take (e.end - e.start)) behind
    ∙ ap (λ k. take k (ns ++ rest)) count ∙ take-append_seam ns rest in
    map_push (trail_entry ss) es e
    ∙ ap (λ ds. ds ++ trail_entry ss e ∷ []) (stack_of-written es rs ss (ns ++ rest) n h l is)
    ∙ ap (λ xs. stack_of rs es ++ record { var = e.var; value = bound_from e.form e.wrap xs; spare = e.spare } ∷ []) own

-- the first entries
first_before-take : (es : List Entry) (n m : ℕ) (d : Entry) → m < length es
    → first_before (take m es) (get_or es m d).before ≡ first_before es n
first_before-take [] n m d h = absurd (omega (arith, h))
first_before-take (e ∷ es) n zero d h = refl
first_before-take (e ∷ es) n (suc m) d h = refl

pub laid-take : (es : List Entry) (n m : ℕ) (d : Entry) → m < length es → Laid es n
    → Laid (take m es) (get_or es m d).before × ((get_or es m d).before ≤ n)
laid-take [] n m d h l = absurd (omega (arith, h))
laid-take (e ∷ es) n zero d h l = (tt, omega (arith, l.0, first_before-le es n l.2))
laid-take (e ∷ es) n (suc m) d h l =
    let k : m < length es = omega (arith, h) in
    let i = laid-take es n m d k l.2 in
    let same = sym (first_before-take es n m d k) in
    ((subst (λ b. e.before ≤ b) same l.0, subst (λ b. IsWithin b e) same l.1, i.0), i.1)

pub room-take : (i : ℕ) (es : List Entry) (room m : ℕ) (d : Entry) → m < length es → HasRoom i es room
    → HasRoom i (take m es) room × (i + m + (get_or es m d).spare ≤ room)
    × ((get_or es m d).before + (get_or es m d).spare ≤ room)
room-take i [] room m d h r = absurd (omega (arith, h))
room-take i (e ∷ es) room zero d h r = (tt, omega (arith, r.0), r.1)
room-take i (e ∷ es) room (suc m) d h r =
    let k = room-take (suc i) es room m d (omega (arith, h)) r.2 in ((r.0, r.1, k.0), omega (arith, k.1), k.2)

-- an entry at a place
pub within-at : (es : List Entry) (n i : ℕ) (d : Entry) → Laid es n → i < length es → IsWithin n (get_or es i d)
within-at [] n i d h l = absurd (omega (arith, l))
within-at (e ∷ es) n zero d h l = (h.1.0, omega (arith, h.1.1, first_before-le es n h.2))
within-at (e ∷ es) n (suc i) d h l = within-at es n i d h.2 (omega (arith, l))

none_of : (b : Bool) (o : Option ℕ)
    → (elim o as (λ _. Option ℕ) [ None ↦ if b then Some 0 else None | Some i ↦ Some (i + 1) ]) ≡ None
    → (o ≡ None) × (b ≡ false)
none_of true None h = cc
none_of false None h = (refl, refl)
none_of b (Some i) h = cc

-- the last entry of a variable
pub last_place-here : (es : List Entry) (x i : ℕ) (d : Entry) → i < length es → (get_or es i d).var ≡ x
    → last_place (drop (i + 1) es) x ≡ None → last_place es x ≡ Some i
last_place-here [] x i d h p q = absurd (omega (arith, h))
last_place-here (e ∷ es) x zero d h p q =
    let same : nat_eq e.var x ≡ true = grind (arith, nat_tests) in rw (q, same) refl
last_place-here (e ∷ es) x (suc i) d h p q =
    let more : i + 1 ≡ suc i = omega arith in
    let step : suc i + 1 ≡ suc (i + 1) = omega arith in
    let rest : last_place (drop (i + 1) es) x ≡ None = sym (ap (λ k. last_place (drop k (e ∷ es)) x) step) ∙ q in
    rw (last_place-here es x i d (omega (arith, h)) p rest) (ap Some more)

pub last_place-more : (es : List Entry) (x i : ℕ) (d : Entry) → i < length es → (get_or es i d).var ≢ x
    → last_place (drop (i + 1) es) x ≡ None → last_place (drop i es) x ≡ None
last_place-more [] x i d h p q = absurd (omega (arith, h))
last_place-more (e ∷ es) x zero d h p q =
    let other : nat_eq e.var x ≡ false = other_numbers e.var x p in rw (q, other) refl
last_place-more (e ∷ es) x (suc i) d h p q =
    let step : suc i + 1 ≡ suc (i + 1) = omega arith in
    last_place-more es x i d (omega (arith, h)) p (sym (ap (λ k. last_place (drop k (e ∷ es)) x) step) ∙ q)

own_place : (b : Bool) (rs : List Rank) (e : Entry) (es : List Entry) (i : ℕ) (d : Entry)
    → (if◌then◌else◌ {A = Option ℕ} b (Some 0) None) ≡ Some i → (i < length (e ∷ es))
    × ((if b then Some (entry_value rs e) else None) ≡ Some (entry_value rs (get_or (e ∷ es) i d)))
own_place true rs e es i d l =
    let same : 0 ≡ i = cc in
    (omega (arith, same), subst (λ j. Some (entry_value rs e) ≡ Some (entry_value rs (get_or (e ∷ es) j d))) same refl)
own_place false rs e es i d l = cc

-- the value of a variable is that of its last entry
pub last_value-none : (rs : List Rank) (es : List Entry) (x : ℕ) → last_place es x ≡ None
    → last_value (stack_of rs es) x ≡ None
last_value-none rs [] x h = refl
last_value-none rs (e ∷ es) x h =
    let k = none_of (nat_eq e.var x) (last_place es x) h in rw (last_value-none rs es x k.0, k.1) refl

pub last_value-at : (rs : List Rank) (es : List Entry) (x i : ℕ) (d : Entry) → last_place es x ≡ Some i
    → (i < length es) × (last_value (stack_of rs es) x ≡ Some (entry_value rs (get_or es i d)))
last_value-at rs [] x i d h = cc
last_value-at rs (e ∷ es) x i d h =
    elim (last_place es x) as (λ o. last_place es x ≡ o
    → (elim o [ None ↦ if nat_eq e.var x then Some 0 else None | Some j ↦ Some (j + 1) ]) ≡ Some i
    → (i < length (e ∷ es)) × (last_value (stack_of rs (e ∷ es)) x ≡ Some (entry_value rs (get_or (e ∷ es) i d)))) [
      | None ↦ λ k l. rw (last_value-none rs es x k) (own_place (nat_eq e.var x) rs e es i d l)
      | Some j ↦ λ k l.
          let more : j + 1 ≡ i = cc in
          let same : suc j ≡ i = omega (arith, more) in
          let r = last_value-at rs es x j d k in
          subst (λ m. (m < length (e ∷ es))
          × (last_value (stack_of rs (e ∷ es)) x ≡ Some (entry_value rs (get_or (e ∷ es) m d)))) same
          (omega (arith, r.0), rw r.1 refl)
    ] refl h

pub last_place-within : (es : List Entry) (x i : ℕ) → last_place es x ≡ Some i → i < length es
last_place-within [] x i h = cc
last_place-within (e ∷ es) x i h =
    elim (last_place es x) as (λ o. last_place es x ≡ o
    → (elim o [ None ↦ if nat_eq e.var x then Some 0 else None | Some j ↦ Some (j + 1) ]) ≡ Some i
    → i < length (e ∷ es)) [
      | None ↦ λ _ l. (own_place (nat_eq e.var x) [] e es i e l).0
      | Some j ↦ λ k l. let more : j + 1 ≡ i = cc in omega (arith, more, last_place-within es x j k)
    ] refl h

-- the entry at a place
pub entry-at : (rs : List Rank) (es : List Entry) (i : ℕ) (d : Entry) (e : TrailEntry)
    → slice_get (stack_of rs es) i ≡ Some e → e ≡ trail_entry rs (get_or es i d)
entry-at rs [] i d e h = cc
entry-at rs (c ∷ es) zero d e h = let same : trail_entry rs c ≡ e = cc in sym same
entry-at rs (c ∷ es) (suc i) d e h = entry-at rs es i d e h
