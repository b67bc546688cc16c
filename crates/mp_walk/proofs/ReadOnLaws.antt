-- What is kept where a token is read on, or left: frames and entries of the trail behind it are taken back.
use Rattle.std.proofs.Common.{◌≡◌, ◌≤◌, ℕ, zero, suc, List, [], ◌∷◌, length, take, ap, sym, ◌∙◌, subst}
use Rattle.std.proofs.Common.{arith, inl, inr}
use Rattle.std.specs.Prelude.{Some, IsSome, slice_get}
use Rattle.std.specs.List.{AllByRecursion}
use Rattle.std.proofs.lemmas.List.{length-take-le}
use Rattle.mp_term.specs.Listing.{In}
use Rattle.mp_term.specs.Signature.{Sig}
use Rattle.mp_term.specs.Tree.{Tree}
use Rattle.mp_term.proofs.ListLaws.{all-split}
use Rattle.mp_pattern.specs.NetTokens.{NetToken, sym_token, enter_token, leave_token, wild_token, comm_token}
use Rattle.mp_table.specs.Table.{Table, rank_of}
use Rattle.mp_subst.specs.Trail.{Trail, cut}
use Rattle.mp_subst.proofs.TrailLaws.{cut-cut}
use Rattle.mp_walk.specs.declared.frame.Frame.{Frame}
use Rattle.mp_walk.specs.CodeConstants.{code_constants, token_constants}
use Rattle.mp_walk.specs.Instrs.{Instr, instr_at}
use Rattle.mp_walk.specs.OpenOnes.{AreFrames}
use Rattle.mp_walk.specs.Trails.{HoldsDefault, shape_of}
use Rattle.mp_walk.proofs.CodePaths.{instr-in}

-- what stands in a front stands in the list
get-take : {X : Type 0} (n : ℕ) (xs : List X) (i : ℕ) (x : X) → slice_get (take n xs) i ≡ Some x
    → slice_get xs i ≡ Some x
get-take zero xs i x e = cc
get-take (suc n) [] i x e = cc
get-take (suc n) (y ∷ xs) zero x e = e
get-take (suc n) (y ∷ xs) (suc i) x e = get-take n xs i x e

front-shorter : {X : Type 0} (n : ℕ) (xs : List X) → length (take n xs) ≤ length xs
front-shorter zero xs = omega arith
front-shorter (suc n) [] = omega arith
front-shorter (suc n) (x ∷ xs) = let h = front-shorter n xs in omega arith

-- the frames that are left
pub frames-take : (sig : Sig) (t : Table) (fs : List Frame) (n : ℕ) → AreFrames sig t fs → AreFrames sig t (take n fs)
frames-take sig t fs n a i f e = a i f (get-take n fs i f e)

-- the length of a trail that goes on from a cut
pub cut-within : (m : ℕ) (u v : Trail) → m ≤ length u.stack → cut m v ≡ cut m u → m ≤ length v.stack
cut-within m u v h e =
    let long : length (take m v.stack) ≡ m = ap (λ (w : Trail). length w.stack) e ∙ length-take-le m u.stack h in
    omega (arith, long, front-shorter m v.stack)

-- trails with the same front are the same at lesser lengths
pub cuts-kept : (m : ℕ) (u v : Trail) → m ≤ length u.stack → cut m v ≡ cut m u → (n : ℕ) → n ≤ m → cut n v ≡ cut n u
cuts-kept m u v h e n k =
    sym (cut-cut n m v k (cut-within m u v h e)) ∙ ap (cut n) e ∙ cut-cut n m u k h

-- the constants of an instruction are among those of all
held-at : (P : Tree → Type 0) (code : List Instr) (i : Instr) → In i code → AllByRecursion P (code_constants code)
    → AllByRecursion P (token_constants i.token)
held-at P [] i n h = absurd n
held-at P (j ∷ code) i (inl e) h =
    subst (λ k. AllByRecursion P (token_constants k.token)) (sym e)
    (all-split P (token_constants j.token) (code_constants code) h).0
held-at P (j ∷ code) i (inr n) h = held-at P code i n (all-split P (token_constants j.token) (code_constants code) h).1

-- the table holds the constants of a token
pub constants-held : (t : Table) (code : List Instr) (n : ℕ) (i : Instr) → instr_at code n ≡ Some i
    → AllByRecursion (λ u. IsSome (rank_of t u)) (code_constants code)
    → AllByRecursion (λ u. IsSome (rank_of t u)) (token_constants i.token)
constants-held t code n i e h = held-at (λ u. IsSome (rank_of t u)) code i (instr-in code n i e) h

-- the table holds the default of a token
pub default-held : (t : Table) (k : NetToken) → AllByRecursion (λ u. IsSome (rank_of t u)) (token_constants k)
    → HoldsDefault t (shape_of k)
default-held t (sym_token m) g = tt
default-held t (enter_token f) g = tt
default-held t (leave_token f) g = tt
default-held t (wild_token w x) g = g
default-held t (comm_token p) g = tt
