use Rattle.std.proofs.Common.{◌≡◌, [], map, take, drop}
use Rattle.mp_parser.specs.View.{statement_tree}
use Rattle.mp_build.specs.Checks.{faults_by}
use Rattle.mp_text.specs.Draft.{IsDraftOf}
use Rattle.mp_text.specs.FileChecks.{statement_faults}
use Rattle.mp_text.proofs.reader.add_statements.Given as goal

-- the file is that of the statements so far, and the faults are those of the others
abbrev pub invariant-loop-statement : goal.invariant-loop-statement
invariant-loop-statement l =
    let sig = l.fn.draft.file.sig in
    let before = map statement_tree (take l.statement-index l.statements) in
    let rest = map statement_tree (drop l.statement-index l.statements) in
    record {
      built : IsDraftOf sig before l.draft;
      faults : faults_by (statement_faults sig) before rest
          ≡ faults_by (statement_faults sig) [] (map statement_tree l.statements);
    }
