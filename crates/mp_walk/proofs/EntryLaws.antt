-- What is read of the entries of tokens.
use Rattle.std.proofs.Common.{◌≡◌, ◌≤◌, ◌+◌, ◌-◌, ℕ, zero, suc, List, [], ◌∷◌, ◌++◌, length, map, take, Bool}
use Rattle.std.proofs.Common.{false, refl, ap, sym, ◌∙◌, subst, arith}
use Rattle.std.specs.Prelude.{Option, Some, None, Result, Ok, Err, MatchOption, MatchResult, slice_get}
use Rattle.std.specs.Prelude.{slice_index_or, IsSome}
use Rattle.std.proofs.lemmas.List.{length-append}
use Rattle.std.proofs.lemmas.Option.{get_or_from_slice_get}
use Rattle.mp_term.specs.declared.name.Name.{Name}
use Rattle.mp_term.specs.declared.term.OpId.{OpId}
use Rattle.mp_term.specs.Tree.{Tree}
use Rattle.mp_pattern.specs.declared.net_token.NetToken as declared
use Rattle.mp_pattern.specs.declared.net_token.NetToken.TheVariants.{Sym, Enter, Leave, Dot, Kind, Plus, Star, Opt}
use Rattle.mp_pattern.specs.declared.net_token.NetToken.TheVariants.{Counted, Comm}
use Rattle.mp_pattern.specs.declared.pattern.Pattern as declared_pattern
use Rattle.mp_pattern.specs.Fits as fits
use Rattle.mp_pattern.specs.Fits.{Entry, nothing}
use Rattle.mp_pattern.specs.NetTokens.{NetToken, sym_token, enter_token, leave_token, wild_token, comm_token}
use Rattle.mp_pattern.specs.NetTokenView.{net_token}
use Rattle.mp_pattern.proofs.ItemLaws.{slice_get-found, slice_get-second}
use Rattle.mp_table.specs.declared.rank.Rank.{Rank}
use Rattle.mp_table.specs.Table.{Table, terms_at}
use Rattle.mp_subst.specs.Trail.{Trail}
use Rattle.mp_ac.specs.declared.search.CommSearch.{CommSearch}
use Rattle.mp_ac.specs.Search.{IsOver, table_of}
use Rattle.mp_walk.specs.declared.frame.Frame.{Frame}
use Rattle.mp_walk.specs.declared.level.Level.{Level}
use Rattle.mp_walk.specs.declared.setting.Setting.{Setting}
use Rattle.mp_walk.specs.Below.{below_table}
use Rattle.mp_walk.specs.Course.{Read, entries_by, entries_in, is_comm_token, read_entries, table_read}
use Rattle.mp_walk.specs.Entries.{entry_read, IsEntryAt}
use Rattle.mp_walk.specs.Instrs.{Instr, instr_at}
use Rattle.mp_walk.specs.Levels.{AreLevels, HasSearchIn, IsLevel, innermost_left, read_of, search_of}
use Rattle.mp_walk.specs.OpenOnes.{opens}
use Rattle.mp_walk.specs.TokenMachine.{Open}
use Rattle.mp_search.specs.Reading.{ReadsAs}
use Rattle.mp_walk.specs.Ways.{front_entry}
use Rattle.mp_walk.proofs.LevelLaws.{first-below}
use Rattle.mp_walk.proofs.WayLaws.{front-terms}

-- ---- what a token puts out

-- its own entries, and those below it
pub entries-parts : (k : NetToken) (f : Open) (way : ℕ) (T : fits.Table) → (is_comm_token k ≡ false → T ≡ [])
    → entries_by k f way T ≡ entries_by k f way [] ++ T
entries-parts (sym_token n) f way T h = ap (λ U. entries_by (sym_token n) f way [] ++ U) (sym (h refl))
entries-parts (enter_token g) f way T h = ap (λ U. entries_by (enter_token g) f way [] ++ U) (sym (h refl))
entries-parts (leave_token g) f way T h = ap (λ U. entries_by (leave_token g) f way [] ++ U) (sym (h refl))
entries-parts (wild_token w x) f way T h = ap (λ U. entries_by (wild_token w x) f way [] ++ U) (sym (h refl))
entries-parts (comm_token p) f way T h = refl

-- only a commutative application has entries below it
pub none-below : (t : Table) (k : NetToken) (xs : List Tree) (u : Trail) (o : Option CommSearch)
    → HasSearchIn t k xs u o → is_comm_token k ≡ false → below_table o ≡ []
none-below t (sym_token n) xs u o h e = ap below_table h
none-below t (enter_token g) xs u o h e = ap below_table h
none-below t (leave_token g) xs u o h e = ap below_table h
none-below t (wild_token w x) xs u o h e = ap below_table h
none-below t (comm_token p) xs u o h e = cc

-- a search goes by some trail, and is one of the table
pub search-over : (t : Table) (k : NetToken) (xs : List Tree) (u : Trail) (c : CommSearch)
    → HasSearchIn t k xs u (Some c) → IsOver c u × (table_of c ≡ t)
search-over t (sym_token n) xs u c h = cc
search-over t (enter_token g) xs u c h = cc
search-over t (leave_token g) xs u c h = cc
search-over t (wild_token w x) xs u c h = cc
search-over t (comm_token p) [] u c h = cc
search-over t (comm_token p) (x ∷ xs) u c h = (h.over, h.table)

module _ (t : Table) (fs : List Frame) (u : Trail) (l : Level) (k : NetToken) where
  -- where no operation is open, there are none
  pub entries-none : opens t fs l.place ≡ [] → entries_in k (read_of t fs u l) ≡ []
  entries-none e = ap (λ os. elim os as (λ _. List Entry) [
    | [] ↦ []
    | f ∷ gs ↦ entries_by k f (l.next - 1) (below_table (search_of l))
  ]) e

  -- and where one is, those of the token itself come first
  pub entries-there : (v : Trail) → HasSearchIn t k (innermost_left (opens t fs l.place)) v (search_of l) → (f : Open)
      (gs : List Open) → opens t fs l.place ≡ f ∷ gs
      → entries_in k (read_of t fs u l) ≡ entries_by k f (l.next - 1) [] ++ below_table (search_of l)
  entries-there v h f gs e =
      ap (λ os. elim os as (λ _. List Entry) [
        | [] ↦ []
        | g ∷ hs ↦ entries_by k g (l.next - 1) (below_table (search_of l))
      ]) e
      ∙ entries-parts k f (l.next - 1) (below_table (search_of l))
      (none-below t k (innermost_left (opens t fs l.place)) v (search_of l) h)

-- a token without an entry of its own isn't a commutative application
pub none-own : (k : NetToken) (f : Open) (way : ℕ) → entries_by k f way [] ≡ [] → is_comm_token k ≡ false
none-own (sym_token n) f way e = refl
none-own (enter_token g) f way e = refl
none-own (leave_token g) f way e = refl
none-own (wild_token w x) f way e = refl
none-own (comm_token p) f way e = cc

-- a wildcard takes a front
pub own-front : (token : declared.NetToken) (f : Open) (way : ℕ) → ((n : Name) → token ≡ Sym n → ⊥)
    → ((g : OpId) → token ≡ Enter g → ⊥) → ((g : OpId) → token ≡ Leave g → ⊥)
    → ((p : declared_pattern.Pattern) → token ≡ Comm p → ⊥)
    → entries_by (net_token token) f way [] ≡ front_entry f.left way ∷ []
own-front (Sym n) f way a b c d = absurd (a n refl)
own-front (Enter g) f way a b c d = absurd (b g refl)
own-front (Leave g) f way a b c d = absurd (c g refl)
own-front (Comm p) f way a b c d = absurd (d p refl)
own-front (Dot x) f way a b c d = refl
own-front (Kind k x) f way a b c d = refl
own-front (Plus x) f way a b c d = refl
own-front (Star x) f way a b c d = refl
own-front (Opt x t) f way a b c d = refl
own-front (Counted n fixed x) f way a b c d = refl

-- the ranks of a front stand for its terms
pub read-front : (t : Table) (n : ℕ) (rs : List Rank) (left : List Tree) (front : List Rank) → terms_at t rs ≡ left
    → front ≡ take n rs → front_entry left n ∷ [] ≡ entry_read t (front, false) ∷ []
read-front t n rs left front e is =
    ap (λ ts. record { terms = ts; collapsed = false } ∷ [])
    (sym (front-terms t rs n left e) ∙ ap (terms_at t) (sym is))

-- the entry of a node below, behind the token's own
pub entry-below : {X : Type 0} (r : Result X ℕ) (of : X → List Rank × Bool) (s t : Table) (T E : fits.Table) (d : Entry)
    (n m : ℕ) → s ≡ t → E ≡ d ∷ T → n ≡ suc m
    → MatchResult r (λ x. IsEntryAt s T m (of x)) (λ left. left + length T ≡ m)
    → MatchResult r (λ x. IsEntryAt t E n (of x)) (λ left. left + length E ≡ n)
entry-below (Ok x) of s t T E d n m same e k h =
    let g = subst (λ z. IsEntryAt z T m (of x)) same h in
    (g.0, ap (λ F. slice_get F n) e ∙ ap (slice_get (d ∷ T)) k ∙ g.1)
entry-below (Err left) of s t T E d n m same e k h = let l = ap length e in omega (arith, l, k, h)

-- ---- tokens one after the other

module _ (code : List Instr) (read : Level → Read) where
  -- an entry of one of them
  pub among-found : (ls : List Level) (n : ℕ) (l : Level) (rest node : ℕ) (d : Entry) → slice_get ls n ≡ Some l
      → rest + length (table_read code (map read (take n ls))) ≡ node
      → slice_get (read_entries code (read l)) rest ≡ Some d
      → slice_get (table_read code (map read ls)) node ≡ Some d
  among-found [] n l rest node d e s g = cc
  among-found (k ∷ ls) zero l rest node d e s g =
      let same : k ≡ l = (let z : Some k ≡ Some l = e in cc) in
      let at : rest ≡ node = omega (arith, s) in
      slice_get-found (read_entries code (read k)) (table_read code (map read ls)) node d
      (subst (λ m. slice_get (read_entries code (read k)) m ≡ Some d) at
      (subst (λ j. slice_get (read_entries code (read j)) rest ≡ Some d) (sym same) g))
  among-found (k ∷ ls) (suc n) l rest node d e s g =
      let front = table_read code (map read (take n ls)) in
      let more = length-append (read_entries code (read k)) front in
      slice_get-second (read_entries code (read k)) (table_read code (map read ls)) (rest + length front) node
      (omega (arith, s, more))
      ∙ among-found ls n l rest (rest + length front) d e refl g

  -- what is left behind one of them
  pub among-left : (ls : List Level) (n : ℕ) (l : Level) (rest left node : ℕ) → slice_get ls n ≡ Some l
      → rest + length (table_read code (map read (take n ls))) ≡ node
      → left + length (read_entries code (read l)) ≡ rest
      → left + length (table_read code (map read (take (suc n) ls))) ≡ node
  among-left [] n l rest left node e s g = cc
  among-left (k ∷ ls) zero l rest left node e s g =
      let same : k ≡ l = (let z : Some k ≡ Some l = e in cc) in
      let more = length-append (read_entries code (read k)) [] in
      let own = ap (λ j. length (read_entries code (read j))) same in
      omega (arith, s, g, more, own)
  among-left (k ∷ ls) (suc n) l rest left node e s g =
      let front = table_read code (map read (take n ls)) in
      let more = length-append (read_entries code (read k)) front in
      let most = length-append (read_entries code (read k)) (table_read code (map read (take (suc n) ls))) in
      let h = among-left ls n l rest left (rest + length front) e refl g in
      omega (arith, s, more, most, h)

-- a level among others, and its places
pub level-at : (x : Setting) (fs : List Frame) (u : Trail) (ls : List Level) (places marks : ℕ)
    → AreLevels x fs u ls places marks → (n : ℕ) (l : Level) → slice_get ls n ≡ Some l
    → IsLevel x fs u l × (l.frames ≤ places)
level-at x fs u [] places marks h n l e = cc
level-at x fs u (k ∷ ls) places marks h zero l e =
    let same : k ≡ l = (let z : Some k ≡ Some l = e in cc) in
    let most = (first-below x fs u ls places marks h.3).0 in
    subst (λ j. IsLevel x fs u j × (j.frames ≤ places)) same (h.0, omega (arith, h.1, most))
level-at x fs u (k ∷ ls) places marks h (suc n) l e = level-at x fs u ls places marks h.3 n l e

-- the entries of a token whose instruction is there
pub entries-held : (code : List Instr) (l : Read) (i : Instr) → instr_at code l.instr ≡ Some i
    → read_entries code l ≡ entries_in i.token l
entries-held code l i e = ap (λ o. elim o as (λ _. List Entry) [ None ↦ [] | Some j ↦ entries_in j.token l ]) e

pub none-some : {X : Type 0} (o : Option X) → o ≡ None → IsSome o → ⊥
none-some None e h = cc
none-some (Some x) e h = cc

-- an entry as it is read
pub entry-reads : {X : Type 0} (o : Option X) (of : X → List Rank × Bool) (t : Table) (T : fits.Table) (n : ℕ)
    → MatchOption o (length T ≤ n) (λ x. IsEntryAt t T n (of x))
    → MatchOption o (length T ≤ n) (λ x. ReadsAs t (of x) (slice_index_or T n nothing))
entry-reads None of t T n h = h
entry-reads (Some x) of t T n h =
    let g = sym (get_or_from_slice_get T n (entry_read t (of x)) nothing h.1) in
    (h.0, ap (λ d. d.terms) g, ap (λ d. d.collapsed) g)

-- the item of the one is that of the other
pub item-same : (i j : ℕ × fits.Table) → Some i ≡ Some j → i ≡ j
item-same i j e = cc
