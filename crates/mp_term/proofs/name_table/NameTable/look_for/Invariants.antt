use Rattle.std.proofs.Common.{◌≡◌, ℕ, ◌<◌, false}
use Rattle.std.specs.Prelude.{slice_get, bytes_eq, IfSome}
use Rattle.mp_term.proofs.name_table.NameTable.look_for.Given as goal

-- none of the names so far is this one
abbrev pub invariant-loop-index : goal.invariant-loop-index
invariant-loop-index l =
    (i : ℕ) → i < l.index → IfSome (slice_get l.self-inside.names.keys i) (λ k. bytes_eq l.name k.items ≡ false)
