-- What is still to come of a walk, as tokens are read and left.
use Rattle.std.proofs.Common.{◌≡◌, ℕ, List, [], ◌∷◌, ◌++◌, ap, sym, ◌∙◌}
use Rattle.std.specs.Prelude.{Some, None, flat_map}
use Rattle.std.proofs.lemmas.List.{append_assoc, append-nil}
use Rattle.mp_term.specs.Signature.{Sig}
use Rattle.mp_pattern.specs.Fits.{Table}
use Rattle.mp_walk.specs.Course.{Read, after_step, of_read, read_to_come, read_entries, table_read}
use Rattle.mp_walk.specs.Course.{reads_to_come, walk_from, steps_left}
use Rattle.mp_walk.specs.Instrs.{Instr, instr_at}
use Rattle.mp_walk.specs.Ways.{Step}

module _ (sig : Sig) (code : List Instr) where
  -- the entries of one token more
  pub table_read-more : (ls : List Read) (l : Read)
      → table_read code (ls ++ l ∷ []) ≡ table_read code ls ++ read_entries code l
  table_read-more [] l = append-nil (read_entries code l)
  table_read-more (m ∷ ls) l =
      ap (λ es. read_entries code m ++ es) (table_read-more ls l)
      ∙ sym (append_assoc (read_entries code m) (table_read code ls) (read_entries code l))

  -- what is to come of one token more
  pub reads_to_come-more : (before : Table) (ls : List Read) (l : Read) → reads_to_come sig code before (ls ++ l ∷ [])
      ≡ read_to_come sig code (before ++ table_read code ls) l ++ reads_to_come sig code before ls
  reads_to_come-more before [] l =
      ap (λ b. read_to_come sig code b l) (sym (append-nil before))
      ∙ sym (append-nil (read_to_come sig code (before ++ []) l))
  reads_to_come-more before (m ∷ ls) l =
      ap (λ xs. xs ++ read_to_come sig code before m) (reads_to_come-more (before ++ read_entries code m) ls l
      ∙ ap (λ b. read_to_come sig code b l ++ reads_to_come sig code (before ++ read_entries code m) ls)
      (append_assoc before (read_entries code m) (table_read code ls)))
      ∙ append_assoc (read_to_come sig code (before ++ table_read code (m ∷ ls)) l)
      (reads_to_come sig code (before ++ read_entries code m) ls) (read_to_come sig code before m)

  -- where the same comes of the steps from another way on, the same is to come
  pub later-to_come : (before : Table) (l : Read) (from : ℕ) (i : Instr) → instr_at code l.instr ≡ Some i
      → flat_map (after_step sig code l.instr i before) (steps_left sig i.token l)
      ≡ flat_map (after_step sig code l.instr i before) (steps_left sig i.token (record l { next = from }))
      → read_to_come sig code before l ≡ read_to_come sig code before (record l { next = from })
  later-to_come before l from i held same =
      ap (λ o. elim o as (λ _. List (ℕ × Table)) [ None ↦ [] | Some j ↦ of_read sig code before l j ]) held
      ∙ ap (λ is. is ++ walk_from sig code i.over l.state before) same
      ∙ sym (ap (λ o. elim o as (λ _. List (ℕ × Table))
      [ None ↦ [] | Some j ↦ of_read sig code before (record l { next = from }) j ]) held)

  -- nothing comes of the steps that are left, and what stands beside the token comes next
  pub idle-to_come : (before : Table) (l : Read) (i : Instr) → instr_at code l.instr ≡ Some i
      → flat_map (after_step sig code l.instr i before) (steps_left sig i.token l) ≡ []
      → read_to_come sig code before l ≡ walk_from sig code i.over l.state before
  idle-to_come before l i held idle =
      ap (λ o. elim o as (λ _. List (ℕ × Table)) [ None ↦ [] | Some j ↦ of_read sig code before l j ]) held
      ∙ ap (λ is. is ++ walk_from sig code i.over l.state before) idle

  -- no way is left
  pub over-to_come : (before : Table) (l : Read) (i : Instr) → instr_at code l.instr ≡ Some i
      → steps_left sig i.token l ≡ [] → read_to_come sig code before l ≡ walk_from sig code i.over l.state before
  over-to_come before l i held none =
      idle-to_come before l i held (ap (flat_map (after_step sig code l.instr i before)) none)

  -- a step is taken: what it puts out, and what stands below it, come before what is left
  pub down-to_come : (before : Table) (l m : Read) (i : Instr) (r : Step) → instr_at code l.instr ≡ Some i
      → m.instr ≡ l.instr → m.state ≡ l.state → steps_left sig i.token l ≡ r ∷ steps_left sig i.token m
      → read_to_come sig code before l ≡ after_step sig code l.instr i before r ++ read_to_come sig code before m
  down-to_come before l m i r held same state next =
      ap (λ o. elim o as (λ _. List (ℕ × Table)) [ None ↦ [] | Some j ↦ of_read sig code before l j ]) held
      ∙ ap (λ rs. flat_map (after_step sig code l.instr i before) rs ++ walk_from sig code i.over l.state before) next
      ∙ append_assoc (after_step sig code l.instr i before r)
      (flat_map (after_step sig code l.instr i before) (steps_left sig i.token m))
      (walk_from sig code i.over l.state before)
      ∙ ap (λ xs. after_step sig code l.instr i before r ++ xs)
      (ap (λ n. flat_map (after_step sig code n i before) (steps_left sig i.token m)
      ++ walk_from sig code i.over l.state before) (sym same)
      ∙ ap (λ s. flat_map (after_step sig code m.instr i before) (steps_left sig i.token m)
      ++ walk_from sig code i.over s before) (sym state)
      ∙ ap (λ o. elim o as (λ _. List (ℕ × Table)) [ None ↦ [] | Some j ↦ of_read sig code before m j ])
      (sym (ap (instr_at code) same ∙ held)))
