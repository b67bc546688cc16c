use Rattle.std.proofs.Common.{◌≡◌, ◌<◌, ◌∙◌, ℕ, List, length, ap, sym, subst, arith}
use Rattle.std.specs.Prelude.{IfOk, Ok, Option, Result, Some, option_map}
use Rattle.mp_pattern.specs.NetTokens.{number_in}
use Rattle.mp_many.proofs.ReadNameLaws.{read-known, read-next}
use Rattle.mp_many.proofs.names.read_variable.Goals as goal

-- a number that is there is the variable's
number-read : {E : Type 0} (names : List (List ℕ)) (x : Option (List ℕ)) (n : ℕ) (r : Result (Option ℕ) E)
    → IfOk r (λ o. o ≡ option_map (number_in names) x) → r ≡ Ok (Some n) → option_map (number_in names) x ≡ Some n
number-read names x n r h e = sym (subst (λ q. IfOk q (λ o. o ≡ option_map (number_in names) x)) e h)

pub returns-then-place-before-clause-read : goal.returns-then-place-before-clause-read
returns-then-place-before-clause-read c =
    let n = c.in-Some.number in
    let is = number-read c.args.names.now c.args.variable.now n c.variable_number.result c.variable_number.ensures
    (c.in-Ok.is ∙ ap Ok c.in-Some.is) in
    let own : n < c.args.before = omega (arith, c.if-place-before.true) in
    read-known c.args.names.now c.args.before c.args.variable.now n is own c.requires

pub returns-then-place-len-clause-read : goal.returns-then-place-len-clause-read
returns-then-place-len-clause-read c =
    let n = c.in-Some.number in
    let is = number-read c.args.names.now c.args.variable.now n c.variable_number.result c.variable_number.ensures
    (c.in-Ok.is ∙ ap Ok c.in-Some.is) in
    let next : n ≡ c.args.before = omega (arith, c.if-place-before-2.true) in
    let within : n < length c.args.names.now = omega (arith, c.if-place-len.true, c.len.ensures) in
    read-next c.args.names.now c.args.before c.args.variable.now n is next within
