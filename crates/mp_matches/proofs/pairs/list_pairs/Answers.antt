use Rattle.std.proofs.Common.{subst, sym}
use Rattle.mp_io.specs.Moments.{sunk}
use Rattle.mp_text.specs.File.{file_tree}
use Rattle.mp_matches.specs.Matches.{IsJoinedBy}
use Rattle.mp_matches.specs.PairsListed.{AreSubjectLines, front_lines, named}
use Rattle.mp_matches.proofs.PairsLaws.{lists-all, lists-cut_off, lists-memory, lists-more}
use Rattle.mp_matches.proofs.pairs.list_pairs.Goals as goal

pub returns-in-Ok : goal.returns-in-Ok
returns-in-Ok g c text h =
    lists-all text (front_lines c.args.limit h.lines) c.print_subjects.new.left
    (sunk g.O.Sink c.args.out.now c.print_subjects.new.out) h.text_of c.in-Ok.any
    (c.in-Ok.ensures h.lines (subst (λ ss. IsJoinedBy
    (AreSubjectLines (file_tree c.args.file.now).sig (named c.args.names.now) (g.M.Matcher.finds c.args.matcher.now)) ss
    h.lines) (sym c.as_slice-subjects.ensures) h.are_lines))

pub returns-in-Err-More : goal.returns-in-Err-More
returns-in-Err-More g c text h =
    lists-more text (front_lines c.args.limit h.lines) c.print_subjects.new.left
    (sunk g.O.Sink c.args.out.now c.print_subjects.new.out) h.text_of c.in-Err-More.field-0 c.in-Err-More.field-0-is
    (c.in-Err-More.ensures h.lines (subst (λ ss. IsJoinedBy
    (AreSubjectLines (file_tree c.args.file.now).sig (named c.args.names.now) (g.M.Matcher.finds c.args.matcher.now)) ss
    h.lines) (sym c.as_slice-subjects.ensures) h.are_lines))

pub returns-in-Err-CannotWrite : goal.returns-in-Err-CannotWrite
returns-in-Err-CannotWrite g c text h =
    lists-cut_off text (front_lines c.args.limit h.lines) c.print_subjects.new.left
    (sunk g.O.Sink c.args.out.now c.print_subjects.new.out) h.text_of c.in-Err-CannotWrite.field-0
    c.in-Err-CannotWrite.field-0-is (c.in-Err-CannotWrite.ensures h.lines (subst (λ ss. IsJoinedBy
    (AreSubjectLines (file_tree c.args.file.now).sig (named c.args.names.now) (g.M.Matcher.finds c.args.matcher.now)) ss
    h.lines) (sym c.as_slice-subjects.ensures) h.are_lines))

pub returns-in-Err-Memory : goal.returns-in-Err-Memory
returns-in-Err-Memory g c text h =
    lists-memory text (front_lines c.args.limit h.lines) c.print_subjects.new.left
    (sunk g.O.Sink c.args.out.now c.print_subjects.new.out) h.text_of c.in-Err-Memory.field-0
    c.in-Err-Memory.field-0-is (c.in-Err-Memory.ensures h.lines (subst (λ ss. IsJoinedBy
    (AreSubjectLines (file_tree c.args.file.now).sig (named c.args.names.now) (g.M.Matcher.finds c.args.matcher.now)) ss
    h.lines) (sym c.as_slice-subjects.ensures) h.are_lines))
