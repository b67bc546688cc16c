use Rattle.std.proofs.Common.{◌≡◌, ◌≤◌, ℕ, List, length, true, sym, subst}
use Rattle.std.specs.Prelude.{Option, Some, None, IfSome, is_some}
use Rattle.mp_term.specs.Tree.{Tree}
use Rattle.mp_pattern.specs.NetTokens.{wild_token}
use Rattle.mp_pattern.specs.NetTokenView.{net_token}
use Rattle.mp_search.specs.Frames.{above}
use Rattle.mp_theory.specs.Solve.{given}
use Rattle.mp_walk.specs.Most.{TakesAtMost}
use Rattle.mp_walk.specs.Trails.{shape_of, number_of}
use Rattle.mp_walk.proofs.MostLaws.{one-most, wild-most, wild-known}
use Rattle.mp_walk.proofs.fewest.most_of.Goals as goal

pub returns-in-Sym : goal.returns-in-Sym
returns-in-Sym c = one-most c.args.sig.now (above c.args.under) c.args.token.now c.in-Sym.is

pub returns-in-Sym-2 : goal.returns-in-Sym-2
returns-in-Sym-2 c = one-most c.args.sig.now (above c.args.under) c.args.token.now c.in-Sym.is

pub returns-in_default : goal.returns-in_default
returns-in_default c =
    let k = net_token c.args.token.now in
    let w = shape_of k in
    let x = number_of k in
    let u = above c.args.under in
    let is = wild-known c.args.token.now c.in_default.not-Sym c.in_default.not-Enter c.in_default.not-Leave
    c.in_default.not-Comm in
    subst (λ j. IfSome c.bound.result (TakesAtMost c.args.sig.now u j)) (sym is)
    (by_bound c.bound.result w x (c.bound.ensures w x is))
  where
    by_bound : (o : Option ℕ) (w : _) (x : Option ℕ)
        → IfSome o (λ n. (ts : List Tree) → is_some (given c.args.sig.now (above c.args.under) w ts) ≡ true
        → length ts ≤ n) → IfSome o (TakesAtMost c.args.sig.now (above c.args.under) (wild_token w x))
    by_bound None w x h = tt
    by_bound (Some n) w x h = wild-most c.args.sig.now (above c.args.under) w x n h
