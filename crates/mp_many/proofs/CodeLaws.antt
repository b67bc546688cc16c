-- The steps of the making of groups and states, over the code's own lists.
use Rattle.std.proofs.Common.{◌≡◌, ◌<◌, ◌≤◌, ℕ, zero, suc, ◌+◌, List, [], ◌∷◌, ◌++◌, map, length, take, drop, set}
use Rattle.std.proofs.Common.{get_or}
use Rattle.std.proofs.Common.{Bool, true, false, refl, ap, sym, ◌∙◌, ◌⊎◌, inl, inr, subst, arith, nat_lt, append-nil}
use Rattle.std.proofs.Common.{append_assoc}
use Rattle.std.specs.Prelude.{Option, Some, None, if◌then◌else◌, slice_get}
use Rattle.std.specs.List.{AllByRecursion}
use Rattle.std.proofs.Math.Seq.{get_or-append_seam}
use Rattle.std.proofs.lemmas.List.{length-append, length-map, map-set, get_or-map, length-drop}
use Rattle.mp_pattern.specs.NetTokens.{NetToken, same_token}
use Rattle.mp_walk.specs.Instrs.{Instr}
use Rattle.mp_walk.specs.Walkable.{Path}
use Rattle.mp_many.specs.declared.group.Group.{Group}
use Rattle.mp_many.specs.GroupView.{group_of, numbers_of}
use Rattle.mp_many.specs.Groups.{entered, grouped, left_at, count_from}
use Rattle.mp_many.specs.Laid.{Numbered, bare, left_after, target, each_laid, laid, unlinked, linked}
use Rattle.mp_many.specs.Laid.{numbered_from}
use Rattle.mp_many.specs.Prefixes.{heads}
use Rattle.mp_many.specs.TokenView.{read_token}
use Rattle.mp_many.proofs.GroupLaws.{AreWithin, numbers_after, left-numbers, numbers-within}
use Rattle.mp_many.proofs.RowLaws.{drop-next, entered-pass, entered-at, pushed, target-more}
use Rattle.mp_many.proofs.RowLaws.{laid-step}
use Rattle.mp_term.proofs.ListLaws.{get_or-same}

-- ---- groups

-- the group of an index, as it is read
group-read : (gs : List Group) (i : ℕ) (g : Group) → i < length gs → g ≡ get_or gs i g
    → get_or (map group_of gs) i (group_of g) ≡ group_of g
group-read gs i g h e = get_or-map group_of gs i g (group_of g) h ∙ ap group_of (sym e)

pub enter-set : (gs : List Group) (k : NetToken) (n : List ℕ) (i : ℕ) (g h new : Group) → i < length gs
    → g ≡ get_or gs i g → h ≡ get_or gs i h → same_token (read_token g.token) k ≡ true
    → group_of new ≡ pushed (group_of h) n
    → entered (map group_of gs) k n ≡ take i (map group_of gs) ++ entered (drop i (map group_of gs)) k n
    → map group_of (set gs i new) ≡ entered (map group_of gs) k n
enter-set gs k n i g h new within e f s p q =
    let z : g ≡ h = e ∙ get_or-same gs i g h within ∙ sym f in
    let w : i < length (map group_of gs) = omega (arith, within, length-map gs group_of) in
    let r = group-read gs i h within f in
    let t : same_token (get_or (map group_of gs) i (group_of h)).0 k ≡ true =
    ap (λ x. same_token x.0 k) (r ∙ ap group_of (sym z)) ∙ s in
    map-set group_of gs i new ∙ ap (set (map group_of gs) i) (p ∙ ap (λ x. pushed x n) (sym r))
    ∙ sym (entered-at (map group_of gs) k n i (group_of h) w t q)

pub enter-pass : (gs : List Group) (k : NetToken) (n : List ℕ) (i : ℕ) (g : Group) → i < length gs → g ≡ get_or gs i g
    → same_token (read_token g.token) k ≡ false
    → entered (map group_of gs) k n ≡ take i (map group_of gs) ++ entered (drop i (map group_of gs)) k n
    → entered (map group_of gs) k n ≡ take (i + 1) (map group_of gs) ++ entered (drop (i + 1) (map group_of gs)) k n
enter-pass gs k n i g within e s q =
    entered-pass (map group_of gs) k n i (group_of g) (omega (arith, within, length-map gs group_of))
    (ap (λ x. same_token x.0 k) (group-read gs i g within e) ∙ s) q

-- the group of an index, among the groups of lists
pub group-at : (gs : List Group) (ls : List Numbered) (i : ℕ) (g : Group) → map group_of gs ≡ grouped ls
    → i < length gs → g ≡ get_or gs i g → (numbers_of g ≡ numbers_after (read_token g.token) ls)
    × (drop i (heads (bare ls)) ≡ read_token g.token ∷ drop (i + 1) (heads (bare ls)))
group-at gs ls i g m within e =
    let hs = heads (bare ls) in
    let k = read_token g.token in
    let size : length gs ≡ length hs =
    sym (length-map gs group_of) ∙ ap length m ∙ length-map hs (λ k. (k, numbers_after k ls)) in
    let w : i < length hs = omega (arith, within, size) in
    let at : group_of g ≡ (get_or hs i k, numbers_after (get_or hs i k) ls) =
    sym (group-read gs i g within e) ∙ ap (λ xs. get_or xs i (group_of g)) m
    ∙ get_or-map (λ k. (k, numbers_after k ls)) hs i k (group_of g) w in
    let same : k ≡ get_or hs i k = ap (λ x. x.0) at in (
      ap (λ x. x.1) at ∙ ap (λ x. numbers_after x ls) (sym same),
      drop-next hs i k w ∙ ap (λ x. x ∷ drop (i + 1) hs) (sym same),
    )

pub groups-size : (gs : List Group) (ls : List Numbered) → map group_of gs ≡ grouped ls
    → length gs ≡ length (heads (bare ls))
groups-size gs ls m =
    sym (length-map gs group_of) ∙ ap length m ∙ length-map (heads (bare ls)) (λ k. (k, numbers_after k ls))

-- ---- states

set-parts : {X : Type 0} (xs : List X) (i : ℕ) (y : X) → i < length xs → set xs i y ≡ take i xs ++ (y ∷ drop (suc i) xs)
set-parts [] i y h = absurd (omega (arith, h))
set-parts (x ∷ xs) zero y h = refl
set-parts (x ∷ xs) (suc i) y h = ap (λ zs. x ∷ zs) (set-parts xs i y (omega (arith, h)))

-- where a state leads down
abbrev pub IsDown : ℕ → ℕ → Option ℕ → Type 0
IsDown own size o = ((own + 1 < size) × (o ≡ Some (own + 2))) ⊎ ((size ≤ own + 1) × (o ≡ None))

-- and over
abbrev pub IsOver : Bool → ℕ → Option ℕ → Type 0
IsOver more size o = ((more ≡ true) × (o ≡ Some (suc size))) ⊎ ((more ≡ false) × (o ≡ None))

down-target : (own : ℕ) (is : List Instr) (o : Option ℕ) → IsDown own (suc own + length is) o
    → o ≡ target (suc (suc own)) is
down-target own [] o (inl h) = absurd (omega (arith, h.0))
down-target own [] o (inr h) = h.1
down-target own (i ∷ is) o (inl h) = let e : own + 2 ≡ suc (suc own) = omega arith in h.1 ∙ ap Some e
down-target own (i ∷ is) o (inr h) = absurd (omega (arith, h.0))

over-is : (more : Bool) (own size : ℕ) (is : List Instr) (o : Option ℕ) → size ≡ suc own + length is
    → IsOver more size o → o ≡ (if more then Some (suc (suc own) + length is) else None)
over-is more own size is o e (inl h) =
    let f : suc size ≡ suc (suc own) + length is = omega (arith, e) in rw h.0 (h.1 ∙ ap Some f)
over-is more own size is o e (inr h) = rw h.0 h.1

-- the state of a place
at-place : {X : Type 0} (xs : List X) (n : ℕ) → n < length xs
    → (x : X) × ((slice_get xs n ≡ Some x) × (drop n xs ≡ x ∷ drop (suc n) xs))
at-place [] n h = absurd (omega (arith, h))
at-place (x ∷ xs) zero h = (x, (refl, refl))
at-place (x ∷ xs) (suc n) h = at-place xs n (omega (arith, h))

-- a state that is told where it leads
pub link-set : (is : List Instr) (own : ℕ) (more : Bool) (done : List Instr) (down over : Option ℕ) → own < length is
    → ((i : Instr) → slice_get is own ≡ Some i → done ≡ set is own (record i { down = down; over = over }))
    → IsDown own (length is) down → IsOver more (length is) over
    → done ≡ take own is ++ linked own more (drop own is)
link-set is own more done down over within p d o =
    let at = at-place is own within in
    let i = at.0 in
    let rest = drop (suc own) is in
    let size : length is ≡ suc own + length rest = omega (arith, within, length-drop (suc own) is) in
    let told : record i { down = down; over = over } ≡ record {
      token = i.token;
      down = target (suc (suc own)) rest;
      over = if more then Some (suc (suc own) + length rest) else None;
      accepts = i.accepts;
    } = λ j. record {
      token = i.token;
      down = down-target own rest down (subst (λ n. IsDown own n down) size d) j;
      over = over-is more own (length is) rest over size o j;
      accepts = i.accepts;
    } in
    p i at.1.0 ∙ set-parts is own (record i { down = down; over = over }) within
    ∙ ap (λ x. take own is ++ (x ∷ rest)) told ∙ ap (λ xs. take own is ++ linked own more xs) (sym at.1.1)

-- the numbers of a group, from the next place on
pub left-group : (lists : List Path) (place : ℕ) (ns ms : List ℕ) (k : NetToken)
    → ms ≡ numbers_after k (left_at lists place ns)
    → left_at lists (place + 1) ms ≡ left_after k (left_at lists place ns)
left-group lists place ns ms k e =
    let f : place + 1 ≡ suc place = omega arith in
    ap (left_at lists (place + 1)) e ∙ ap (λ p. left_at lists p (numbers_after k (left_at lists place ns))) f
    ∙ left-numbers lists place k ns

-- what is added for a group is the states of its token and below it
pub group-step : (most place : ℕ) (lists : List Path) (ns : List ℕ) (gs : List Group) (i : ℕ) (g : Group)
    (numbers : List ℕ) (rows pushed made done : List Instr) (own count : ℕ)
    → map group_of gs ≡ grouped (left_at lists place ns) → i < length gs → g ≡ get_or gs i g → count ≡ length gs
    → numbers ≡ numbers_of g → own ≡ length rows
    → pushed ≡ rows ++ (unlinked (read_token g.token) (left_at lists (place + 1) (numbers_of g)) ∷ [])
    → made ≡ pushed ++ laid most (left_at lists (place + 1) numbers) (suc (length pushed))
    → done ≡ take own made ++ linked own (nat_lt (i + 1) count) (drop own made)
    → done ++ each_laid (laid most) (left_at lists place ns)
    (drop (i + 1) (heads (bare (left_at lists place ns)))) (suc (length done))
    ≡ rows ++ each_laid (laid most) (left_at lists place ns)
    (drop i (heads (bare (left_at lists place ns)))) (suc (length rows))
group-step most place lists ns gs i g numbers rows pushed made done own count m within e c n o p q d =
    let ls = left_at lists place ns in
    let hs = heads (bare ls) in
    let k = read_token g.token in
    let at = group-at gs ls i g m within e in
    let left = left-group lists place ns (numbers_of g) k at.0 in
    let first : pushed ≡ rows ++ (unlinked k (left_after k ls) ∷ []) = p ∙ ap (λ l. rows ++ (unlinked k l ∷ [])) left in
    laid-step (laid most) ls (drop i hs) (drop (i + 1) hs) k rows made done own (nat_lt (i + 1) count) at.1 o
    (λ m'. target-more m' (i + 1) hs
    ∙ ap (λ x. if nat_lt (i + 1) x then Some m' else None) (sym (groups-size gs ls m) ∙ sym c))
    (q ∙ (λ j. first j ++ laid most ((ap (left_at lists (place + 1)) n ∙ left) j) (suc (length (first j))))) d

pub group-within : (place : ℕ) (lists : List Path) (ns : List ℕ) (gs : List Group) (i : ℕ) (g : Group)
    → map group_of gs ≡ grouped (left_at lists place ns) → i < length gs → g ≡ get_or gs i g → AreWithin lists ns
    → AreWithin lists (numbers_of g)
group-within place lists ns gs i g m within e h =
    let at = group-at gs (left_at lists place ns) i g m within e in
    subst (AreWithin lists) (sym at.0) (numbers-within lists place (read_token g.token) ns h)

-- after the last group all states are there
pub groups-done : (most count : ℕ) (ls : List Numbered) (gs : List Group) (rows begun : List Instr)
    → map group_of gs ≡ grouped ls → length gs ≤ count
    → rows ++ each_laid (laid most) ls (drop count (heads (bare ls))) (suc (length rows))
    ≡ begun ++ each_laid (laid most) ls (heads (bare ls)) (suc (length begun))
    → rows ≡ begun ++ each_laid (laid most) ls (heads (bare ls)) (suc (length begun))
groups-done most count ls gs rows begun m all e =
    let past : drop count (heads (bare ls)) ≡ [] = drop-past (heads (bare ls)) count
    (omega (arith, all, groups-size gs ls m)) in
    sym (append-nil rows) ∙ ap (λ ks. rows ++ each_laid (laid most) ls ks (suc (length rows))) (sym past) ∙ e
  where
    drop-past : {X : Type 0} (xs : List X) (n : ℕ) → length xs ≤ n → drop n xs ≡ []
    drop-past [] zero h = refl
    drop-past [] (suc n) h = refl
    drop-past (x ∷ xs) zero h = absurd (omega (arith, h))
    drop-past (x ∷ xs) (suc n) h = drop-past xs n (omega (arith, h))

-- ---- the numbers of all lists

count-append : (n k : ℕ) → count_from n (suc k) ≡ count_from n k ++ ((n + k) ∷ [])
count-append n zero = let e : n ≡ n + 0 = omega arith in ap (λ m. m ∷ []) e
count-append n (suc k) = ap (λ ns. n ∷ ns) (count-append (suc n) k
    ∙ (let e : suc n + k ≡ n + suc k = omega arith in ap (λ m. count_from (suc n) k ++ (m ∷ [])) e))

pub count-more : (k : ℕ) → count_from 0 (k + 1) ≡ count_from 0 k ++ (k ∷ [])
count-more k =
    let e : k + 1 ≡ suc k = omega arith in
    let f : 0 + k ≡ k = omega arith in
    ap (count_from 0) e ∙ count-append 0 k ∙ ap (λ m. count_from 0 k ++ (m ∷ [])) f

within-from : (n k size : ℕ) → n + k ≤ size → AllByRecursion (λ m. m < size) (count_from n k)
within-from n zero size h = tt
within-from n (suc k) size h = (omega (arith, h), within-from (suc n) k size (omega (arith, h)))

pub count-within : (lists : List Path) → AreWithin lists (count_from 0 (length lists))
count-within lists = within-from 0 (length lists) (length lists) (omega arith)

left-from : (front rest : List Path) → left_at (front ++ rest) 0 (count_from (length front) (length rest))
    ≡ numbered_from (length front) rest
left-from front [] = refl
left-from front (l ∷ rest) =
    let n : length (front ++ (l ∷ [])) ≡ suc (length front) = omega (arith, length-append front (l ∷ [])) in
    (λ i. (length front, get_or-append_seam front l rest [] i)
    ∷ ((λ j. left_at (sym (append_assoc front (l ∷ []) rest) j) 0 (count_from (sym n j) (length rest)))
    ∙ left-from (front ++ (l ∷ [])) rest ∙ ap (λ m. numbered_from m rest) n) i)

pub count-left : (lists : List Path) → left_at lists 0 (count_from 0 (length lists)) ≡ numbered_from 0 lists
count-left lists = left-from [] lists
