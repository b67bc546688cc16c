use Rattle.std.proofs.Common.{◌≡◌, true, rules, arith}
use Rattle.mp_term.specs.Signature.{is_number}
use Rattle.mp_words.proofs.Numbers.{number_in-refused}
use Rattle.mp_words.proofs.number.read_number.Goals as goal

pub returns-in-Err : goal.returns-in-Err
returns-in-Err c =
    let is : is_number c.args.text.now ≡ true = search rules in
    number_in-refused c.args.least c.args.most c.args.text.now is c.in-Err.ensures.value.0 (omega arith)
