-- What the rules of a net admit: the pairs of the rules that it accepts.
use Rattle.std.proofs.Common.{◌≡◌, ℕ, zero, suc, ◌+◌, ◌*◌, ◌<◌, ◌≤◌, List, [], ◌∷◌, ◌++◌, map, length, take, drop}
use Rattle.std.proofs.Common.{Bool, true, false, refl, ap, sym, ◌∙◌, subst, arith, append_assoc, append-nil, inl, inr}
use Rattle.std.specs.Prelude.{Option, Some, None, if◌then◌else◌, slice_get, option_map, option_and_then, IfSome, OnOk}
use Rattle.std.specs.Prelude.{Result, Ok, Err, slice_index_or, ◌^◌}
use Rattle.std.proofs.Math.Nat.{mul-le-mul_left}
use Rattle.std.specs.List.{AllByRecursion, filter_map, cons_option, take-map}
use Rattle.std.proofs.lemmas.List.{nil_from_length, drop-map, length-take-le, drop-drop, take-append-drop, length-map}
use Rattle.std.proofs.lemmas.Option.{slice_get-map}
use Rattle.mp_term.specs.Listing.{In}
use Rattle.mp_term.specs.Signature.{Sig}
use Rattle.mp_term.specs.Tree.{Tree, symbol}
use Rattle.mp_pattern.specs.Admission.{Rule}
use Rattle.mp_pattern.specs.CondView.{cond_tree}
use Rattle.mp_pattern.specs.Lists.{Pair}
use Rattle.mp_pattern.specs.Operands.{IsConditionOver, HasConditionOver}
use Rattle.mp_pattern.specs.PatternTree.{Pattern}
use Rattle.mp_pattern.specs.Syntactic.{is_syntactic}
use Rattle.mp_pattern.specs.Value.{Subst}
use Rattle.mp_pattern.specs.Variables.{variables}
use Rattle.mp_pattern.specs.declared.condition.Cond.{Cond}
use Rattle.mp_theory.specs.Solve.{solve}
use Rattle.mp_theory.proofs.Solving.{names-from_solve}
use Rattle.mp_cond.specs.Ready.{IsReady, AreCountable}
use Rattle.mp_cond.proofs.ReadyLaws.{IsReady-over}
use Rattle.mp_net.specs.AllList.{tested, admitted, pairs_from, shaped}
use Rattle.mp_net.specs.Eaten.{eaten}
use Rattle.mp_net.specs.Net.{Mark, marks, Open, going, Visit, rules_at, held_or, run, trace}
use Rattle.mp_net.specs.NetOf.{ended, accepted, IsNetOf, IsGroup, AreNets, opening}
use Rattle.mp_net.specs.Nets.{rule_marks}
use Rattle.mp_theory.specs.Shape.{shape, of_kinds, takings}
use Rattle.mp_net.specs.View.{turn_of}
use Rattle.mp_theory.specs.Filled.{filled}
use Rattle.mp_net.specs.Walk.{IsRead, tested_pair, IsFound, visits}
use Rattle.mp_net.specs.Probe.{more_reads}
use Rattle.mp_net.specs.declared.visit.Seen.{Seen}
use Rattle.mp_table.specs.Table.{Table, term_at, subject_of}
use Rattle.mp_table.specs.declared.rank.Rank.{Rank}
use Rattle.mp_net.specs.declared.build.Net.{Net}
use Rattle.mp_net.specs.declared.state.State.{State}
use Rattle.mp_theory.proofs.FilledLaws.{filled-solve, from_then}
use Rattle.mp_net.proofs.NetLaws.{marks-eaten, run-rules}
use Rattle.mp_theory.proofs.ShapeLaws.{takings-uses}
use Rattle.mp_net.proofs.TraceLaws.{trace-read}

-- ---- conditions

-- what the variables of a pattern take binds the variables of the pattern
pub names-filled : (sig : Sig) (p : Pattern) (t : Tree) (s : Subst) → is_syntactic sig p ≡ true → shape p t ≡ true
    → filled sig p t [] ≡ Some s → map (λ b. b.name) s ≡ variables p
names-filled sig p t s k h e =
    names-from_solve sig p (takings None p t) (takings-uses None p t h) s
    (from_then (of_kinds sig p t) (solve sig [] (takings None p t)) s (sym (filled-solve sig None p t [] tt k) ∙ e))

-- so a substitution with these is ready for a sound condition
pub ready-condition : (sig : Sig) (p : Pattern) (s : Subst) (o : Option Cond) → map (λ b. b.name) s ≡ variables p
    → AreCountable s → HasConditionOver (variables p) (option_map cond_tree o)
    → IfSome o (λ c. IsReady s (cond_tree c))
ready-condition sig p s None e a h = tt
ready-condition sig p s (Some c) e a h =
    IsReady-over s (cond_tree c) (subst (λ xs. IsConditionOver xs (cond_tree c)) (sym e) h) a

-- ---- rules by their numbers

-- the rules that have gone through the tree are those of the shape
ended-shaped : (t : Tree) (i : ℕ) (rs : List Rule)
    → filter_map ended (going (eaten t) (opening i (rule_marks rs))) ≡ shaped t i (map (λ r. r.pattern) rs)
ended-shaped t i [] = refl
ended-shaped t i (r ∷ rs) =
    ap (λ o. filter_map ended (cons_option (option_map (λ m. record { rule = i; rest = m }) o)
    (going (eaten t) (opening (suc i) (rule_marks rs)))))
    (ap (eaten t) (sym (append-nil (marks r.pattern))) ∙ marks-eaten r.pattern t [])
    ∙ by_shape (shape r.pattern t) (ended-shaped t (suc i) rs)
  where
    by_shape : (b : Bool)
        → filter_map ended (going (eaten t) (opening (suc i) (rule_marks rs)))
        ≡ shaped t (suc i) (map (λ r. r.pattern) rs)
        → filter_map ended (cons_option (option_map (λ m. record { rule = i; rest = m }) (if b then Some [] else None))
        (going (eaten t) (opening (suc i) (rule_marks rs))))
        ≡ (if b then i ∷ shaped t (suc i) (map (λ r. r.pattern) rs) else shaped t (suc i) (map (λ r. r.pattern) rs))
    by_shape true e = ap (λ ns. i ∷ ns) e
    by_shape false e = e

-- the rules stand among all from a number on
abbrev StandFrom : List Rule → ℕ → List Rule → Type 0
StandFrom all i rs = (j : ℕ) (r : Rule) → slice_get rs j ≡ Some r → slice_get all (i + j) ≡ Some r

stand-rest : (all : List Rule) (i : ℕ) (r : Rule) (rs : List Rule) → StandFrom all i (r ∷ rs)
    → StandFrom all (suc i) rs
stand-rest all i r rs h = λ j q e. let n : suc i + j ≡ i + suc j = omega arith in
    ap (slice_get all) n ∙ h (suc j) q e

stand-first : (all : List Rule) (i : ℕ) (r : Rule) (rs : List Rule) → StandFrom all i (r ∷ rs)
    → slice_get all i ≡ Some r
stand-first all i r rs h = let n : i ≡ i + 0 = omega arith in ap (slice_get all) n ∙ h 0 r refl

-- the pairs of the numbers of the shape are those of the rules
pairs-shaped : (sig : Sig) (t : Tree) (all : List Rule) (i : ℕ) (rs : List Rule) → StandFrom all i rs
    → filter_map (tested_pair sig t all) (shaped t i (map (λ r. r.pattern) rs)) ≡ pairs_from sig t i rs
pairs-shaped sig t all i [] h = refl
pairs-shaped sig t all i (r ∷ rs) h =
    by_shape (shape r.pattern t) (pairs-shaped sig t all (suc i) rs (stand-rest all i r rs h))
  where
    here : tested_pair sig t all i ≡ option_map (λ s. (i, s)) (tested sig t r)
    here = ap (option_and_then (λ q. option_map (λ s. (i, s)) (tested sig t q))) (stand-first all i r rs h)

    by_shape : (b : Bool)
        → filter_map (tested_pair sig t all) (shaped t (suc i) (map (λ r. r.pattern) rs)) ≡ pairs_from sig t (suc i) rs
        → filter_map (tested_pair sig t all)
        (if b then i ∷ shaped t (suc i) (map (λ r. r.pattern) rs) else shaped t (suc i) (map (λ r. r.pattern) rs))
        ≡ cons_option (option_map (λ s. (i, s)) (if b then tested sig t r else None)) (pairs_from sig t (suc i) rs)
    by_shape true e = ap (λ o. cons_option o (filter_map (tested_pair sig t all)
        (shaped t (suc i) (map (λ r. r.pattern) rs)))) here
        ∙ ap (cons_option (option_map (λ s. (i, s)) (tested sig t r))) e
    by_shape false e = e

-- each number of the shape is that of a rule that was read
found-shaped : (t : Tree) (vs : List Visit) (all : List Rule) (i : ℕ) (rs : List Rule) → StandFrom all i rs
    → ((j : ℕ) (r : Rule) → slice_get rs j ≡ Some r → shape r.pattern t ≡ true → IsRead r.pattern t vs [])
    → AllByRecursion (IsFound all t vs) (shaped t i (map (λ r. r.pattern) rs))
found-shaped t vs all i [] h k = tt
found-shaped t vs all i (r ∷ rs) h k =
    by_shape (shape r.pattern t) refl
    (found-shaped t vs all (suc i) rs (stand-rest all i r rs h) (λ j q e. k (suc j) q e))
  where
    by_shape : (b : Bool) → shape r.pattern t ≡ b
        → AllByRecursion (IsFound all t vs) (shaped t (suc i) (map (λ r. r.pattern) rs))
        → AllByRecursion (IsFound all t vs)
        (if b then i ∷ shaped t (suc i) (map (λ r. r.pattern) rs) else shaped t (suc i) (map (λ r. r.pattern) rs))
    by_shape true e a = ((r, stand-first all i r rs h, e, k 0 r refl e), a)
    by_shape false e a = a

-- each rule is among those at the start
in-opening : (i : ℕ) (ms : List (List Mark)) (j : ℕ) (m : List Mark) → slice_get ms j ≡ Some m
    → In (record { rule = i + j; rest = m }) (opening i ms)
in-opening i [] j m e = cc
in-opening i (n ∷ ms) zero m e =
    let same : n ≡ m = cc in
    let here : i ≡ i + 0 = omega arith in
    inl (sym (ap (λ x. record { rule = i; rest = x }) same ∙ ap (λ k. record { rule = k; rest = m }) here))
in-opening i (n ∷ ms) (suc j) m e =
    let there : suc i + j ≡ i + suc j = omega arith in
    inr (subst (λ k. In (record { rule = k; rest = m }) (opening (suc i) ms)) there (in-opening (suc i) ms j m e))

-- ---- the rules of a net

-- a part of a list that begins at a number
part : {X : Type 0} (i count : ℕ) (xs : List X) (j : ℕ) (x : X) → slice_get (take count (drop i xs)) j ≡ Some x
    → slice_get xs (i + j) ≡ Some x
part zero zero xs j x e = cc
part zero (suc n) [] j x e = cc
part zero (suc n) (y ∷ xs) zero x e = e
part zero (suc n) (y ∷ xs) (suc j) x e =
    let there : zero + suc j ≡ suc (zero + j) = omega arith in
    ap (slice_get (y ∷ xs)) there ∙ part zero n xs j x e
part (suc i) zero [] j x e = cc
part (suc i) (suc n) [] j x e = cc
part (suc i) n (y ∷ xs) j x e =
    let there : suc i + j ≡ suc (i + j) = omega arith in
    ap (slice_get (y ∷ xs)) there ∙ part i n xs j x e

module _ (rules : List Rule) (n : Net) (i count : ℕ) (g : IsGroup i (drop i (rule_marks rules)) count n)
    (t : Tree) where
  opened : take count (drop i (rule_marks rules)) ≡ rule_marks (take count (drop i rules))
  opened = ap (take count) (drop-map (λ r. marks r.pattern) i rules)
      ∙ take-map (λ r. marks r.pattern) count (drop i rules)

  is_net : IsNetOf (opening i (rule_marks (take count (drop i rules)))) n
  is_net = subst (λ ms. IsNetOf (opening i ms) n) opened g.net

  at_start : rules_at is_net.rules (Some 0) ≡ opening i (rule_marks (take count (drop i rules)))
  at_start = ap (held_or []) is_net.start

  ended-run : (q : Option ℕ) → q ≡ run (map turn_of n.states.items) t (Some 0)
      → filter_map ended (rules_at is_net.rules q) ≡ shaped t i (map (λ r. r.pattern) (take count (drop i rules)))
  ended-run q e =
      ap (λ k. filter_map ended (rules_at is_net.rules k)) e
      ∙ ap (filter_map ended) (run-rules is_net.rules (map turn_of n.states.items) is_net.net t (Some 0)
      ∙ ap (going (eaten t)) at_start) ∙ ended-shaped t i (take count (drop i rules))

  -- what the state accepts
  accepted-ended : (q : ℕ) (s : State) → slice_get n.states.items q ≡ Some s
      → s.accepted.items ≡ filter_map ended (rules_at is_net.rules (Some q))
  accepted-ended q s e =
      at_rules (slice_get is_net.rules q)
      (sym (slice_get-map (filter_map ended) is_net.rules q) ∙ ap (λ us. slice_get us q) (sym is_net.accepted)
      ∙ slice_get-map accepted n.states.items q ∙ ap (option_map accepted) e)
    where
      at_rules : (o : Option (List Open)) → option_map (filter_map ended) o ≡ Some s.accepted.items
          → s.accepted.items ≡ filter_map ended (held_or [] o)
      at_rules None k = cc
      at_rules (Some os) k = let same : filter_map ended os ≡ s.accepted.items = cc in sym same

  -- the numbers that it accepts are those of the shape
  pub accepted-shaped : (q : ℕ) (s : State) → slice_get n.states.items q ≡ Some s
      → Some q ≡ run (map turn_of n.states.items) t (Some 0)
      → s.accepted.items ≡ shaped t i (map (λ r. r.pattern) (take count (drop i rules)))
  accepted-shaped q s e h = accepted-ended q s e ∙ ended-run (Some q) h

  -- their pairs are those of the group
  pub group-pairs : (sig : Sig) (q : ℕ) (s : State) → slice_get n.states.items q ≡ Some s
      → Some q ≡ run (map turn_of n.states.items) t (Some 0)
      → filter_map (tested_pair sig t rules) s.accepted.items ≡ pairs_from sig t i (take count (drop i rules))
  group-pairs sig q s e h =
      ap (filter_map (tested_pair sig t rules)) (accepted-shaped q s e h)
      ∙ pairs-shaped sig t rules i (take count (drop i rules)) (λ j r k. part i count rules j r k)

  -- which there are none of where the run ends before
  pub no_pairs : (sig : Sig) → None ≡ run (map turn_of n.states.items) t (Some 0)
      → [] ≡ pairs_from sig t i (take count (drop i rules))
  no_pairs sig h =
      ap (filter_map (tested_pair sig t rules)) (ended-run None h)
      ∙ pairs-shaped sig t rules i (take count (drop i rules)) (λ j r k. part i count rules j r k)

  -- and each of their patterns was read
  pub group-found : (q : ℕ) (s : State) → slice_get n.states.items q ≡ Some s
      → Some q ≡ run (map turn_of n.states.items) t (Some 0)
      → AllByRecursion (IsFound rules t (trace (map turn_of n.states.items) t (Some 0))) s.accepted.items
  group-found q s e h =
      subst (AllByRecursion (IsFound rules t (trace (map turn_of n.states.items) t (Some 0))))
      (sym (accepted-shaped q s e h))
      (found-shaped t (trace (map turn_of n.states.items) t (Some 0)) rules i (take count (drop i rules))
      (λ j r k. part i count rules j r k) read)
    where
      read : (j : ℕ) (r : Rule) → slice_get (take count (drop i rules)) j ≡ Some r → shape r.pattern t ≡ true
          → IsRead r.pattern t (trace (map turn_of n.states.items) t (Some 0)) []
      read j r k u =
          let held : slice_get (rule_marks (take count (drop i rules))) j ≡ Some (marks r.pattern) =
          slice_get-map (λ r. marks r.pattern) (take count (drop i rules)) j
          ∙ ap (option_map (λ r. marks r.pattern)) k in
          let among : In (record { rule = i + j; rest = marks r.pattern ++ [] }) (rules_at is_net.rules (Some 0)) =
          subst (λ m. In (record { rule = i + j; rest = m }) (rules_at is_net.rules (Some 0)))
          (sym (append-nil (marks r.pattern)))
          (subst (In (record { rule = i + j; rest = marks r.pattern })) (sym at_start)
          (in-opening i (rule_marks (take count (drop i rules))) j (marks r.pattern) held)) in
          subst (λ vs. IsRead r.pattern t vs []) (append-nil (trace (map turn_of n.states.items) t (Some 0)))
          (trace-read is_net.rules (map turn_of n.states.items) is_net.net r.pattern t (Some 0) (i + j) [] [] among u)

-- ---- groups one after the other

pairs_from-append : (sig : Sig) (t : Tree) (i : ℕ) (rs qs : List Rule)
    → pairs_from sig t i (rs ++ qs) ≡ pairs_from sig t i rs ++ pairs_from sig t (i + length rs) qs
pairs_from-append sig t i [] qs = let n : i ≡ i + 0 = omega arith in ap (λ k. pairs_from sig t k qs) n
pairs_from-append sig t i (r ∷ rs) qs =
    let n : suc i + length rs ≡ i + suc (length rs) = omega arith in
    ap (cons_option (option_map (λ s. (i, s)) (admitted sig t r)))
    (pairs_from-append sig t (suc i) rs qs ∙ ap (λ k. pairs_from sig t (suc i) rs ++ pairs_from sig t k qs) n)
    ∙ before (option_map (λ s. (i, s)) (admitted sig t r))
  where
    before : (o : Option Pair)
        → cons_option o (pairs_from sig t (suc i) rs ++ pairs_from sig t (i + suc (length rs)) qs)
        ≡ cons_option o (pairs_from sig t (suc i) rs) ++ pairs_from sig t (i + suc (length rs)) qs
    before None = refl
    before (Some p) = refl

-- the pairs so far and those of a group
pub pairs-group : (sig : Sig) (t : Tree) (rules : List Rule) (i count : ℕ) (ps : List Pair)
    → count ≤ length (drop i rules) → ps ++ pairs_from sig t i (drop i rules) ≡ pairs_from sig t 0 rules
    → (ps ++ pairs_from sig t i (take count (drop i rules))) ++ pairs_from sig t (i + count) (drop (i + count) rules)
    ≡ pairs_from sig t 0 rules
pairs-group sig t rules i count ps h e =
    let rs = drop i rules in
    let long : length (take count rs) ≡ count = length-take-le count rs h in
    append_assoc ps (pairs_from sig t i (take count rs)) (pairs_from sig t (i + count) (drop (i + count) rules))
    ∙ ap (λ us. ps ++ us)
    (ap (λ k. pairs_from sig t i (take count rs) ++ pairs_from sig t (i + k) (drop (i + count) rules)) (sym long)
    ∙ ap (λ us. pairs_from sig t i (take count rs) ++ pairs_from sig t (i + length (take count rs)) us)
    (sym (drop-drop count i rules))
    ∙ sym (pairs_from-append sig t i (take count rs) (drop count rs))
    ∙ ap (pairs_from sig t i) (take-append-drop count rs))
    ∙ e

-- the groups from a number on, with the pairs so far
abbrev pub IsAt : Sig → Tree → List Rule → List Net → List Pair → Type 0
IsAt sig t rules ns ps =
    (i : ℕ) × AreNets i (drop i (rule_marks rules)) ns
    × (ps ++ pairs_from sig t i (drop i rules) ≡ pairs_from sig t 0 rules)

pub drop-zero : {X : Type 0} (xs : List X) → drop 0 xs ≡ xs
drop-zero [] = refl
drop-zero (x ∷ xs) = refl

pub at-start : (sig : Sig) (t : Tree) (rules : List Rule) (ns : List Net) → AreNets 0 (rule_marks rules) ns
    → IsAt sig t rules ns []
at-start sig t rules ns h = (
  0,
  subst (λ ms. AreNets 0 ms ns) (sym (drop-zero (rule_marks rules))) h,
  ap (pairs_from sig t 0) (drop-zero rules),
)

pub at-group : (sig : Sig) (t : Tree) (rules : List Rule) (n : Net) (ns : List Net) (ps : List Pair)
    → IsAt sig t rules (n ∷ ns) ps → (i : ℕ) × (count : ℕ) × IsGroup i (drop i (rule_marks rules)) count n
at-group sig t rules n ns ps h = (h.0, h.1.0, h.1.1)

-- a group more
pub at-more : (sig : Sig) (t : Tree) (rules : List Rule) (n : Net) (ns : List Net) (ps qs : List Pair)
    → IsAt sig t rules (n ∷ ns) ps
    → ((i count : ℕ) → IsGroup i (drop i (rule_marks rules)) count n
    → qs ≡ ps ++ pairs_from sig t i (take count (drop i rules))) → IsAt sig t rules ns qs
at-more sig t rules n ns ps qs h f =
    let i = h.0 in
    let count = h.1.0 in
    let within : count ≤ length (drop i rules) =
    omega (
      arith,
      h.1.1.within,
      ap length (drop-map (λ r. marks r.pattern) i rules),
      length-map (drop i rules) (λ r. marks r.pattern),
    ) in (
      i + count,
      subst (λ ms. AreNets (i + count) ms ns) (drop-drop count i (rule_marks rules)) h.1.2,
      ap (λ us. us ++ pairs_from sig t (i + count) (drop (i + count) rules)) (f i count h.1.1)
          ∙ pairs-group sig t rules i count ps within h.2,
    )

pub at-end : (sig : Sig) (t : Tree) (rules : List Rule) (ps : List Pair) → IsAt sig t rules [] ps
    → ps ≡ pairs_from sig t 0 rules
at-end sig t rules ps h =
    let i = h.0 in
    let long : length (drop i rules) ≡ 0 =
    omega (
      arith,
      ap length h.1,
      ap length (drop-map (λ r. marks r.pattern) i rules),
      length-map (drop i rules) (λ r. marks r.pattern),
    ) in
    sym (append-nil ps) ∙ ap (λ us. ps ++ pairs_from sig t i us) (sym (nil_from_length (drop i rules) long)) ∙ h.2

-- ---- what is handed on

-- a fact of a success gives another
pub on-ok : {A E P Q : Type 0} (r : Result A E) → (P → Q) → OnOk r P → OnOk r Q
on-ok (Ok a) f h = f h
on-ok (Err e) f h = tt

pub found-same : (rules : List Rule) (new tb : Table) (seen : List Seen) (vs : List Visit) (ks ms : List ℕ)
    → new ≡ tb → visits new seen ≡ vs → ks ≡ ms → AllByRecursion (IsFound rules (subject_of tb) vs) ms
    → AllByRecursion (IsFound rules (subject_of new) (visits new seen)) ks
found-same rules new tb seen vs ks ms e h k a =
    subst (λ u. AllByRecursion (IsFound rules (subject_of u) (visits new seen)) ks) (sym e)
    (subst (λ ws. AllByRecursion (IsFound rules (subject_of tb) ws) ks) (sym h)
    (subst (AllByRecursion (IsFound rules (subject_of tb) vs)) (sym k) a))

-- the term of the root is the subject
pub root-subject : (tb new : Table) (r : Rank) → new ≡ tb → r.0 ≡ new.root → term_at tb r ≡ subject_of tb
root-subject tb new r e h = ap (λ k. slice_index_or tb.terms k (symbol [])) (h ∙ ap (λ u. u.root) e)

-- ---- numbers of reads

pub reads-start : (a k : ℕ) → a < 2 ^ 64 → a ≤ more_reads a (0 * k)
reads-start a k h = omega (arith, h)

pub reads-group : (a b c i k : ℕ) → b ≤ more_reads a (i * k) → c ≤ more_reads b k → c ≤ more_reads a ((i + 1) * k)
reads-group a b c i k h e = omega (arith, h, e)

pub reads-most : (a b i g k : ℕ) → b ≤ more_reads a (i * k) → i ≤ g → b ≤ more_reads a (g * k)
reads-most a b i g k h e = omega (arith, h, mul-le-mul_left k e)
