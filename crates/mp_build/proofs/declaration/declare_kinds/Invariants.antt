use Rattle.std.proofs.Common.{◌≡◌, [], drop, take, map}
use Rattle.mp_parser.specs.View.{statement_tree}
use Rattle.mp_build.specs.Build.{sig_with}
use Rattle.mp_build.specs.Checks.{kind_statement_faults, faults_by}
use Rattle.mp_build.proofs.declaration.declare_kinds.Given as goal

-- the signature is that of the statements so far, and the faults are those of the others
abbrev pub invariant-loop-statement : goal.invariant-loop-statement
invariant-loop-statement l =
    let before = map statement_tree (take l.statement-index l.statements) in
    let rest = map statement_tree (drop l.statement-index l.statements) in
    record {
      declared : l.sig ≡ sig_with l.fn.sig.ops before;
      faults : faults_by (kind_statement_faults l.fn.sig.ops) before rest
          ≡ faults_by (kind_statement_faults l.fn.sig.ops) [] (map statement_tree l.statements);
    }
