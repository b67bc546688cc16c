use Rattle.std.proofs.Common.{◌≡◌, [], drop, take, map}
use Rattle.mp_parser.specs.View.{statement_tree}
use Rattle.mp_build.specs.Build.{op_decls, sig_with}
use Rattle.mp_build.specs.Checks.{op_statement_faults, faults_by}
use Rattle.mp_build.proofs.declaration.declare_ops.Given as goal

-- the signature is that of the statements so far, and the faults are those of the others
abbrev pub invariant-loop-statement : goal.invariant-loop-statement
invariant-loop-statement l =
    let before = map statement_tree (take l.statement-index l.statements) in
    let rest = map statement_tree (drop l.statement-index l.statements) in
    record {
      declared : l.sig ≡ sig_with (op_decls before) [];
      faults : faults_by op_statement_faults before rest
          ≡ faults_by op_statement_faults [] (map statement_tree l.statements);
    }
