use Rattle.std.proofs.Common.{subst}
use Rattle.mp_io.specs.Devices.{Text}
use Rattle.mp_io.specs.Moments.{sunk}
use Rattle.mp_io.specs.Printing.{Prints}
use Rattle.mp_command.specs.Messages.{deep_line, large_line, limit_line, no_template_line, not_syntactic_line}
use Rattle.mp_command.proofs.ending.say_told.Goals as goal

pub returns-in-Usage : goal.returns-in-Usage
returns-in-Usage g c = rw c.in-Usage.is c.put.ensures

pub returns-in-NotSyntactic : goal.returns-in-NotSyntactic
returns-in-NotSyntactic g c =
    rw c.in-NotSyntactic.is
    (subst (λ (name : Text). Prints (sunk g.E.Sink c.args.err.now c.say_of-in-NotSyntactic.new.err)
    (not_syntactic_line name) c.say_of-in-NotSyntactic.result) c.bytes.ensures.bytes
    c.say_of-in-NotSyntactic.ensures)

pub returns-in-NoTemplate : goal.returns-in-NoTemplate
returns-in-NoTemplate g c =
    rw c.in-NoTemplate.is
    (subst (λ (name : Text). Prints (sunk g.E.Sink c.args.err.now c.say_of-in-NoTemplate.new.err)
    (no_template_line name) c.say_of-in-NoTemplate.result) c.bytes-in-NoTemplate.ensures.bytes
    c.say_of-in-NoTemplate.ensures)

pub returns-in-Misspelt : goal.returns-in-Misspelt
returns-in-Misspelt g c = rw c.in-Misspelt.is c.say_number.ensures

pub returns-in-NoItem : goal.returns-in-NoItem
returns-in-NoItem g c = rw c.in-NoItem.is c.put-in-NoItem.ensures

pub returns-in-TurnLimit : goal.returns-in-TurnLimit
returns-in-TurnLimit g c =
    rw c.in-TurnLimit.is
    (subst (λ (name : Text). Prints (sunk g.E.Sink c.args.err.now c.say_number-in-TurnLimit.new.err)
    (limit_line name c.in-TurnLimit.max) c.say_number-in-TurnLimit.result) c.bytes-in-TurnLimit.ensures.bytes
    c.say_number-in-TurnLimit.ensures)

pub returns-in-TooLarge : goal.returns-in-TooLarge
returns-in-TooLarge g c =
    rw c.in-TooLarge.is
    (subst (λ (name : Text). Prints (sunk g.E.Sink c.args.err.now c.say_number-in-TooLarge.new.err)
    (large_line name c.in-TooLarge.nodes) c.say_number-in-TooLarge.result) c.bytes-in-TooLarge.ensures.bytes
    c.say_number-in-TooLarge.ensures)

pub returns-in-TooDeep : goal.returns-in-TooDeep
returns-in-TooDeep g c =
    rw c.in-TooDeep.is
    (subst (λ (name : Text). Prints (sunk g.E.Sink c.args.err.now c.say_number-in-TooDeep.new.err)
    (deep_line name c.in-TooDeep.depth) c.say_number-in-TooDeep.result) c.bytes-in-TooDeep.ensures.bytes
    c.say_number-in-TooDeep.ensures)
