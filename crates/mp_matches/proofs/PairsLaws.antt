-- Lines of pairs are printed, and others are still to come.
use Rattle.std.proofs.Common.{◌≡◌, ◌<◌, ◌≤◌, ◌+◌, ℕ, zero, suc, Bool, true, List, [], ◌∷◌, ◌++◌, length, map, drop}
use Rattle.std.proofs.Common.{get_or, refl, sym, ap, ap₂, ◌∙◌, subst, arith, append_assoc, append-nil, length-append}
use Rattle.std.proofs.Math.ListN.{drop_of_length-le}
use Rattle.std.specs.Prelude.{Option, Some, None, Result, Ok, Err, ◌||◌, slice_get}
use Rattle.std.specs.Borrow.{Bor}
use Rattle.mp_io.specs.Devices.{Text}
use Rattle.mp_io.specs.Moments.{Sunk, sunk}
use Rattle.mp_io.specs.Printing.{AppendsFront, Prints}
use Rattle.mp_io.specs.Writing.{HasPut, Puts}
use Rattle.mp_io.specs.declared.devices.Sink.{Ghosts as SinkWords}
use Rattle.mp_io.specs.declared.writer.Writer.{Writer}
use Rattle.mp_io.proofs.WritingLaws.{Puts-then}
use Rattle.mp_term.specs.Signature.{Sig}
use Rattle.mp_term.specs.Tree.{Tree}
use Rattle.mp_term.specs.declared.memory.Memory.{Memory}
use Rattle.mp_pattern.specs.Lists.{Pair}
use Rattle.mp_term.proofs.ListLaws.{drop-item}
use Rattle.mp_text.specs.declared.file.Subject as code
use Rattle.mp_text.specs.File.{Subject, subject_tree}
use Rattle.mp_matches.specs.PairsListed.{AreSubjectLines, front_lines, more_follow, name_of, named, pair_line}
use Rattle.mp_matches.specs.Matches.{IsJoinedBy}
use Rattle.mp_matches.specs.Listed.{lines}
use Rattle.mp_matches.specs.Printed.{IsCutOff, IsWritten, Lists, has_some}
use Rattle.mp_matches.specs.Put.{PutsFront}
use Rattle.mp_matches.specs.PrintedPairs.{PrintsUpTo, PutsOrStops, PutsUpTo, PutsWithMemory}
use Rattle.mp_matches.specs.declared.fault.ListFault.TheVariants as fault
use Rattle.mp_matches.specs.declared.stop.Stop.{Stop}
use Rattle.mp_matches.specs.declared.stop.Stop.TheVariants as stop
use Rattle.mp_matches.specs.declared.told.Told.{Told}
use Rattle.mp_matches.specs.declared.told.Told.TheVariants as told
use Rattle.mp_matches.proofs.PrintedLaws.{has_some-append, has_some-behind, has_some-long}
use Rattle.mp_matches.proofs.PutLaws.{Puts-finished, PutsFront-all, PutsFront-behind, PutsFront-cut_off}

-- ---- lines

-- a line isn't empty
pub length-pair_line : (sig : Sig) (names : List Text) (s : Subject) (p : Pair) → 0 < length (pair_line sig names s p)
length-pair_line sig names s p = simp length-append (omega arith)

-- the next line of pairs
pub front-next : {X : Type 0} (pair : X → Pair) (line : Pair → Text) (left : Option ℕ) (xs : List X) (i : ℕ) (x : X)
    (rest : List Text) → i < length xs → x ≡ get_or xs i x
    → front_lines left (map line (map pair (drop i xs)) ++ rest)
    ≡ front_lines left (line (pair x) ∷ (map line (map pair (drop (i + 1) xs)) ++ rest))
front-next pair line left xs i x rest within is =
    ap (λ ys. front_lines left (map line (map pair ys) ++ rest)) (drop-item xs i x within is)

-- behind the last of them
pub front-ended : {X : Type 0} (pair : X → Pair) (line : Pair → Text) (left : Option ℕ) (xs : List X) (i : ℕ)
    (rest : List Text) → length xs ≤ i
    → front_lines left (map line (map pair (drop i xs)) ++ rest) ≡ front_lines left rest
front-ended pair line left xs i rest past =
    ap (λ ys. front_lines left (map line (map pair ys) ++ rest)) (drop_of_length-le xs {i = i} past)

-- ---- what was put

module _ {K : Type 0} (words : SinkWords K) where
  module _ (whole rest : Text) (u v w : Writer K) (any : Bool) (so : PutsUpTo words whole rest u v (told.All any))
      (line next : Text) (split : rest ≡ line ++ next) (put : Puts words v w line) (some : 0 < length line) where
    -- a line more is put
    pub up_to-line : PutsUpTo words whole next u w (told.All true)
    up_to-line = (
      so.0 ++ line,
      so.1 ∙ ap (λ t. so.0 ++ t) split ∙ sym (append_assoc so.0 line next),
      Puts-then words u v w so.0 line so.2 put,
      sym (has_some-behind so.0 line some),
    )

  -- it is told that others follow
  pub up_to-more : (whole rest : Text) (u v w : Writer K) (any : Bool) → PutsUpTo words whole rest u v (told.All any)
      → rest ≡ more_follow → Puts words v w more_follow → PutsUpTo words whole rest u w told.More
  up_to-more whole rest u v w any so is put =
      let same : whole ≡ so.0 ++ more_follow = so.1 ∙ ap (λ t. so.0 ++ t) is in (
        subst (Puts words u w) (sym same) (Puts-then words u v w so.0 more_follow so.2 put),
        omega (arith, ap length same, length-append so.0 more_follow),
      )

  -- ---- the writer's end

  module _ {T E : Type 0} (whole rest : Text) (start new : K) (u w : Writer K) (none : HasPut words start [] u) where
    -- it ends well, and what was put is printed
    pub up_to-finished : (value : T)
        → ((text : Text) → HasPut words start text w → Prints {E = E} (sunk words start new) text (Ok value))
        → (w.failed ≡ true → ⊥) → (ended : Result Bool Stop) → PutsOrStops words whole rest u w ended
        → PrintsUpTo whole rest (sunk words start new) ended
    up_to-finished value put going (Ok any) h =
        (h.0, h.1, Puts-finished words start new u w none value put h.0 h.2, h.3)
    up_to-finished value put going (Err stop.More) h =
        (Puts-finished words start new u w none value put whole h.0, h.1)
    up_to-finished value put going (Err stop.Memory) h = record {
      front = h.front;
      rest = h.rest;
      split = h.split;
      written = (Puts-finished words start new u w none value put h.front h.puts).0;
    }
    up_to-finished value put going (Err stop.CannotWrite) h = absurd (going h.1)

    -- a write failed, and a front was written
    pub up_to-cut_off : (error : E)
        → ((text : Text) → HasPut words start text w → Prints {T = T} (sunk words start new) text (Err error))
        → (ended : Result Bool Stop) → PutsOrStops words whole rest u w ended → IsCutOff whole (sunk words start new)
    up_to-cut_off error put (Ok any) h = PutsFront-cut_off words start new u w none error put whole
        (record { front = h.0; rest = rest; split = h.1; puts = h.2 })
    up_to-cut_off error put (Err stop.More) h =
        PutsFront-cut_off words start new u w none error put whole (PutsFront-all words u w whole h.0)
    up_to-cut_off error put (Err stop.Memory) h = PutsFront-cut_off words start new u w none error put whole h
    up_to-cut_off error put (Err stop.CannotWrite) h = PutsFront-cut_off words start new u w none error put whole h.0

-- ---- what is put of one subject after the other

module _ {K : Type 0} (words : SinkWords K) (whole rest next : Text) (u v w : Writer K) (any : Bool)
    (so : PutsUpTo words whole rest u v (told.All any)) where
  -- the lines of one subject more are put
  pub up_to-subject : (said : Told) (some : Bool) → said ≡ told.All some → PutsUpTo words rest next v w said
      → PutsUpTo words whole next u w (told.All (any || some))
  up_to-subject said some is put =
      let h = subst (PutsUpTo words rest next v w) is put in (
        so.0 ++ h.0,
        so.1 ∙ ap (λ t. so.0 ++ t) h.1 ∙ sym (append_assoc so.0 h.0 next),
        Puts-then words u v w so.0 h.0 so.2 h.2,
        ap₂ (λ (p q : Bool). p || q) so.3 h.3 ∙ sym (has_some-append so.0 h.0),
      )

  -- a write of them has failed
  pub up_to-failed : (said : Told) (some : Bool) → said ≡ told.All some → PutsUpTo words rest next v w said
      → w.failed ≡ true → (last : Text) → PutsOrStops words whole last u w (Err stop.CannotWrite)
  up_to-failed said some is put failed last =
      let h = subst (PutsUpTo words rest next v w) is put in (
        record {
          front = so.0 ++ h.0;
          rest = next;
          split = so.1 ∙ ap (λ t. so.0 ++ t) h.1 ∙ sym (append_assoc so.0 h.0 next);
          puts = Puts-then words u v w so.0 h.0 so.2 h.2;
        },
        failed,
      )

  -- it is told behind some of them that others follow
  pub up_to-full : (said : Told) → said ≡ told.More → PutsUpTo words rest next v w said → (last : Text)
      → PutsUpTo words whole last u w told.More
  up_to-full said is put last =
      let h = subst (PutsUpTo words rest next v w) is put in
      let longer : length whole ≡ length (so.0 ++ rest) = ap length so.1 in (
        subst (Puts words u w) (sym so.1) (Puts-then words u v w so.0 rest so.2 h.0),
        omega (arith, longer, length-append so.0 rest, h.1),
      )

  -- a front of them is put
  pub up_to-front : PutsFront words v w rest → PutsFront words u w whole
  up_to-front h = PutsFront-behind words u v w so.0 rest whole so.1 so.2 h

module _ (sig : Sig) (names : List Text) (finds : Tree → List Pair → Type 0) (subjects : List code.Subject) (i : ℕ)
    (s : code.Subject) (within : i < length subjects) (is : s ≡ get_or subjects i s) where
  -- the lines of the subjects from an index on are those of the one there and those of the ones behind it
  pub joined-next : (rest : List Text)
      → IsJoinedBy (AreSubjectLines sig names finds) (map subject_tree (drop i subjects)) rest
      → (own : List Text) × (behind : List Text) × (rest ≡ own ++ behind)
      × AreSubjectLines sig names finds (subject_tree s) own
      × IsJoinedBy (AreSubjectLines sig names finds) (map subject_tree (drop (i + 1) subjects)) behind
  joined-next rest h =
      let parts = subst (λ ss. IsJoinedBy (AreSubjectLines sig names finds) (map subject_tree ss) rest)
      (drop-item subjects i s within is) h in
      (parts.0, parts.1, parts.2, parts.3, parts.4)

-- what is put of the only pairs that may be found is what is put of a subject's lines
pub subject-put : {K : Type 0} (words : SinkWords K) (sig : Sig) (names : List Text)
    (finds : Tree → List Pair → Type 0) (subject : Subject) (pairs : List Pair)
    → ((qs : List Pair) → finds subject.term qs → qs ≡ pairs)
    → (before after : Option ℕ) (u w : Writer K) (result : Result Told Memory)
    → ((rest : List Text) → PutsWithMemory words (front_lines before (map (pair_line sig names subject) pairs ++ rest))
    (front_lines after rest) u w result)
    → (ls rest : List Text) → AreSubjectLines sig names finds subject ls
    → PutsWithMemory words (front_lines before (ls ++ rest)) (front_lines after rest) u w result
subject-put words sig names finds subject pairs only before after u w result put ls rest h =
    subst (λ own. PutsWithMemory words (front_lines before (own ++ rest)) (front_lines after rest) u w result)
    (sym (h.2 ∙ ap (map (pair_line sig names subject)) (only h.0 h.1))) (put rest)

-- ---- the end

-- nothing is left to be printed behind all lines
front-nothing : (left : Option ℕ) → front_lines left [] ≡ []
front-nothing None = refl
front-nothing (Some n) = refl

-- all lines are put, where none are left
pub up_to-all : {K X : Type 0} (words : SinkWords K) (P : X → List Text → Type 0) (xs : List X) (whole : Text)
    (left : Option ℕ) (rest : List Text) (u w : Writer K) (any : Bool) → xs ≡ [] → IsJoinedBy P xs rest
    → PutsUpTo words whole (front_lines left rest) u w (told.All any)
    → PutsUpTo words whole (front_lines left []) u w (told.All any)
up_to-all words P [] whole left rest u w any e joined h =
    subst (λ ls. PutsUpTo words whole (front_lines left ls) u w (told.All any)) joined h
up_to-all words P (x ∷ xs) whole left rest u w any e joined h = absurd cc

module _ (text whole : Text) (left : Option ℕ) (out : Sunk) (is : text ≡ whole) where
  -- the text is told
  pub lists-all : (any : Bool) → PrintsUpTo whole (front_lines left []) out (Ok any) → Lists (lines text) out (Ok any)
  lists-all any h =
      let same : h.0 ≡ text = sym (append-nil h.0) ∙ ap (λ t. h.0 ++ t) (sym (front-nothing left)) ∙ sym h.1 ∙ sym is in
      (refl, subst (λ t. IsWritten t out) same h.2, h.3 ∙ ap has_some same)

  pub lists-more : (e : Stop) → e ≡ stop.More → PrintsUpTo whole (front_lines left []) out (Err e)
      → Lists (lines text) out (Ok true)
  lists-more e is_more h =
      let told : PrintsUpTo whole (front_lines left []) out (Err stop.More) =
      subst (λ (x : Stop). PrintsUpTo whole (front_lines left []) out (Err x)) is_more h in (
        refl,
        subst (λ t. IsWritten t out) (sym is) told.0,
        subst (λ t. true ≡ has_some t) (sym is) (sym (has_some-long whole told.1)),
      )

  pub lists-cut_off : (e : Stop) → e ≡ stop.CannotWrite → PrintsUpTo whole (front_lines left []) out (Err e)
      → Lists (lines text) out (Err fault.CannotWrite)
  lists-cut_off e is_cut h =
      subst (λ t. IsCutOff t out) (sym is)
      (subst (λ (x : Stop). PrintsUpTo whole (front_lines left []) out (Err x)) is_cut h)

  pub lists-memory : (e : Stop) → e ≡ stop.Memory → PrintsUpTo whole (front_lines left []) out (Err e)
      → Lists (lines text) out (Err fault.Memory)
  lists-memory e is_memory h =
      subst (AppendsFront out.old out.new) (sym is)
      (subst (λ (x : Stop). PrintsUpTo whole (front_lines left []) out (Err x)) is_memory h)

-- ---- names

-- the name at a place
pub name-there : (names : List (Bor Text)) (i : ℕ) (name : Bor Text) → i < length names → name ≡ get_or names i name
    → name.now ≡ name_of (slice_get (named names) i)
name-there [] i name within is = absurd (omega (arith, within))
name-there (n ∷ names) zero name within is = ap (λ x. x.now) is
name-there (n ∷ names) (suc i) name within is = name-there names i name (omega (arith, within)) is

pub name-past : (names : List (Bor Text)) (i : ℕ) → length names ≤ i → [] ≡ name_of (slice_get (named names) i)
name-past [] i past = refl
name-past (n ∷ names) zero past = absurd (omega (arith, past))
name-past (n ∷ names) (suc i) past = name-past names i (omega (arith, past))
