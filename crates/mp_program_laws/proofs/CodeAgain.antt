-- Instructions of format 1 in format 2.
use Rattle.std.proofs.Common.{◌≡◌, ◌≤◌, ℕ, suc, Bool, true, false, List, [], ◌∷◌, ◌++◌, refl, arith}
use Rattle.std.specs.Prelude.{◌||◌, ◌&&◌, not, length, nat_le, is_some}
use Rattle.std.specs.List.{AllByRecursion, list_any, list_all}
use Rattle.std.proofs.lemmas.Bool.{and_parts, and_from}
use Rattle.std.proofs.lemmas.Bool.Decides.{nat_tests}
use Rattle.mp_term.specs.Signature.{Sig}
use Rattle.mp_term.proofs.ListLaws.{both-empty}
use Rattle.mp_pattern.specs.declared.limits.TheConstants.{MAX_VARIABLES}
use Rattle.mp_pattern.specs.CondTree.{Cond}
use Rattle.mp_pattern.specs.EachWildcard.{EachWildcard, AllEachWildcard}
use Rattle.mp_pattern.specs.NetTokens.{NetToken, sym_token, enter_token, leave_token, wild_token, comm_token}
use Rattle.mp_pattern.specs.PatternTree.{Wildcard, dot, kind, plus, star, optional, counted, Pattern, symbol_pattern}
use Rattle.mp_pattern.specs.PatternTree.{app_pattern, wild_pattern, Patterns, no_patterns, more_patterns}
use Rattle.mp_walk.specs.Instrs.{Instr, targets}
use Rattle.mp_walk.specs.SoundTokens.{path_nodes}
use Rattle.mp_walk.specs.Walkable.{Path}
use Rattle.mp_build.proofs.Faultless.{nil-both}
use Rattle.mp_program.specs.declared.fault.ProgramError.{ProgramError}
use Rattle.mp_program.specs.declared.fault.ProgramError.TheVariants.{BackwardTarget, BadReference, Unbalanced}
use Rattle.mp_program.specs.declared.format.Format.TheVariants.{One, Two}
use Rattle.mp_program.specs.Program.{ProgramRule}
use Rattle.mp_program.specs.FormFaults.{fault_if, target_faults, path_faults, way_faults, code_faults}
use Rattle.mp_program.specs.Leads.{Lead, befores, leads_after}
use Rattle.mp_program.specs.RightForm.{IsWildcardOf, IsRightToken, IsRightInstr}
use Rattle.mp_program.specs.TokenPaths.{has_plain_root, enters_comm, path_variables, are_numbered_from, path_uses}
use Rattle.mp_program.specs.TokenPaths.{some_differ, is_right_path, open_along, is_balanced, may_accept}
use Rattle.mp_program.proofs.FaultLaws.{nil-fault_if}

-- ---- tokens

-- each wildcard stands in format 2
pub any-wildcard : (w : Wildcard) → IsWildcardOf Two w
any-wildcard dot = tt
any-wildcard (kind k) = tt
any-wildcard plus = tt
any-wildcard star = tt
any-wildcard (optional t) = tt
any-wildcard (counted n exact) = tt

mutual
  pub each-wildcard : (p : Pattern) → EachWildcard (IsWildcardOf Two) p
  each-wildcard (symbol_pattern n) = tt
  each-wildcard (app_pattern f ps) = all-wildcards ps
  each-wildcard (wild_pattern w x) = any-wildcard w

  pub all-wildcards : (ps : Patterns) → AllEachWildcard (IsWildcardOf Two) ps
  all-wildcards no_patterns = tt
  all-wildcards (more_patterns p ps) = (each-wildcard p, all-wildcards ps)

token-again : (sig : Sig) (k : NetToken) → IsRightToken sig One k → IsRightToken sig Two k
token-again sig (sym_token n) h = h
token-again sig (enter_token f) h = h
token-again sig (leave_token f) h = h
token-again sig (wild_token w x) h = (h.0, any-wildcard w, h.2)
token-again sig (comm_token p) h = record {
  read = h.read;
  rooted = h.rooted;
  flat = h.flat;
  names = h.names;
  wildcards = each-wildcard p;
}

-- instructions that are right in format 1 are so in format 2
pub code-right : (sig : Sig) (is : List Instr) → AllByRecursion (IsRightInstr sig One) is
    → AllByRecursion (IsRightInstr sig Two) is
code-right sig [] h = tt
code-right sig (i ∷ is) h = (
  record { token = token-again sig i.token h.0.token; action = h.0.action; over = h.0.over },
  code-right sig is h.1,
)

-- ---- faults

-- two faults that don't stand there aren't those of another line
two-again : (a b a' b' : Bool) (f g f' g' : ProgramError) → (a ≡ false → a' ≡ false) → (b ≡ false → b' ≡ false)
    → fault_if a f ++ fault_if b g ≡ [] → fault_if a' f' ++ fault_if b' g' ≡ []
two-again a b a' b' f g f' g' first second none =
    let both = both-empty (fault_if a f) (fault_if b g) none in
    let here = first (nil-fault_if a f both.0) in
    let behind = second (nil-fault_if b g both.1) in
    λ i. fault_if (here i) f' ++ fault_if (behind i) g'

-- targets without a fault have none on another line
pub targets-again : (stop line at n : ℕ) (ts : List ℕ) → target_faults stop line n ts ≡ []
    → target_faults stop at n ts ≡ []
targets-again stop line at n ts none =
    two-again (list_any (λ t. nat_le t n) ts) (list_any (nat_le stop) ts) _ _ (BackwardTarget line) (BadReference line)
    (BackwardTarget at) (BadReference at) (λ e. e) (λ e. e) none

module _ (sig : Sig) (most more : ℕ) (grows : most ≤ more) (tests : List Cond) (rules : List ProgramRule)
    (stop : ℕ)
  where
    -- a path that is right is so where more nodes are allowed
    path-right : (ks : Path) → is_right_path sig most ks ≡ true → is_right_path sig more ks ≡ true
    path-right ks h =
        let root = and_parts (has_plain_root ks) _ h in
        let comm = and_parts (not (list_any (enters_comm sig) ks)) _ root.1 in
        let nodes = and_parts (nat_le (path_nodes ks) most) (are_numbered_from 0 (path_variables ks)
        && (nat_le (length (path_variables ks)) MAX_VARIABLES && not (some_differ (path_uses ks)))) comm.1 in
        and_from _ _ root.0 (and_from _ _ comm.0 (and_from _ _ (larger (path_nodes ks) nodes.0) nodes.1))
      where
        larger : (n : ℕ) → nat_le n most ≡ true → nat_le n more ≡ true
        larger n e = grind (arith, nat_tests, e, grows)

    path-again : (line at : ℕ) (ks : Path) (i : Instr) → path_faults sig most tests rules stop line ks i ≡ []
        → path_faults sig more tests rules stop at ks i ≡ []
    path-again line at ks i none =
        two-again (not (is_right_path sig most ks) || not (list_all (may_accept tests rules ks) i.accepts))
        (not (is_balanced (open_along [] ks) (is_some i.down)))
        (not (is_right_path sig more ks) || not (list_all (may_accept tests rules ks) i.accepts)) _ (BadReference line)
        (Unbalanced line) (BadReference at) (Unbalanced at)
        (either (is_right_path sig most ks) (is_right_path sig more ks)
        (not (list_all (may_accept tests rules ks) i.accepts)) (path-right ks))
        (λ e. e) none
      where
        either : (a b c : Bool) → (a ≡ true → b ≡ true) → (not a || c) ≡ false → (not b || c) ≡ false
        either true true c f e = e
        either true false c f e = (let wrong : false ≡ true = f refl in cc)
        either false b c f e = (let wrong : true ≡ false = e in cc)

    way-again : (line at : ℕ) (ways : List Path) (i : Instr) → way_faults sig most tests rules stop line ways i ≡ []
        → way_faults sig more tests rules stop at ways i ≡ []
    way-again line at [] i none = (let wrong : BadReference line ∷ [] ≡ [] = none in cc)
    way-again line at (before ∷ []) i none = path-again line at (before ++ i.token ∷ []) i none
    way-again line at (before ∷ second ∷ ways) i none = (let wrong : BadReference line ∷ [] ≡ [] = none in cc)

    -- instructions without a fault have none where more nodes are allowed, on other lines
    pub code-again : (line at n : ℕ) (ls : List Lead) (is : List Instr)
        → code_faults sig most tests rules stop line n ls is ≡ []
        → code_faults sig more tests rules stop at n ls is ≡ []
    code-again line at n ls [] none = refl
    code-again line at n ls (i ∷ is) none =
        let targeted = target_faults stop line n (targets i) in
        let led = way_faults sig most tests rules stop line (befores ls n) i in
        let behind = code_faults sig most tests rules stop (suc line) (suc n) (leads_after ls n i) is in
        let both = both-empty (targeted ++ led) behind none in
        let here = both-empty targeted led both.0 in
        nil-both (target_faults stop at n (targets i) ++ way_faults sig more tests rules stop at (befores ls n) i)
        (code_faults sig more tests rules stop (suc at) (suc n) (leads_after ls n i) is)
        (nil-both (target_faults stop at n (targets i)) (way_faults sig more tests rules stop at (befores ls n) i)
        (targets-again stop line at n (targets i) here.0)
        (way-again line at (befores ls n) i here.1))
        (code-again (suc line) (suc at) (suc n) (leads_after ls n i) is both.1)
