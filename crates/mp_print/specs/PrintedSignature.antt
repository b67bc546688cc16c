-- The printed text of signatures.
use Rattle.std.specs.Prelude.{not, List, [], ◌++◌, Option, Some, is_some, unwrap_or, codes, decimal}
use Rattle.std.specs.List.{flat_map}
use Rattle.mp_io.specs.Devices.{Text}
use Rattle.mp_term.specs.declared.signature.OpDecl.{OpDecl}
use Rattle.mp_term.specs.Signature.{Sig, Kind}
use Rattle.mp_print.specs.Printing.{text_if, separated}

-- op NAME LEAST[+][ assoc][ comm][ one][ infix SIGN];
abbrev pub op_text : OpDecl → Text
op_text d =
    codes "op " ++ (d.name ++ (codes " " ++ (decimal d.least ++ (text_if (not d.fixed) (codes "+")
    ++ (text_if d.assoc (codes " assoc") ++ (text_if d.comm (codes " comm") ++ (text_if d.one (codes " one")
    ++ (text_if (is_some d.sign) (codes " infix ") ++ (unwrap_or d.sign [] ++ codes ";\n")))))))))

-- KEYWORD NAME: and a blank
abbrev pub head_text : Text → Text → Text
head_text keyword name = keyword ++ (codes " " ++ (name ++ codes ": "))

-- KEYWORD NAME: BODY;
abbrev pub statement_text : Text → Text → Text → Text
statement_text keyword name body = head_text keyword name ++ (body ++ codes ";\n")

-- kind NAME: A B C;
abbrev pub kind_text : Kind → Text
kind_text k = statement_text (codes "kind") k.name (separated (codes " ") k.members)

-- the same of a name and its members, where there are both
abbrev pub held_kind_text : Option Text → Option (List Text) → Text
held_kind_text (Some n) (Some ms) = kind_text (record { name = n; members = ms })
held_kind_text _ _ = []

-- the operations and then the declared kinds, each on a line of its own
abbrev pub signature_text : Sig → Text
signature_text sig = flat_map op_text sig.ops ++ flat_map kind_text sig.kinds
