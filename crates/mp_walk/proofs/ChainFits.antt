-- Tokens that lead to an end along the path of a pattern: their table fits the pattern with the substitution of the
-- trail.
use Rattle.std.proofs.Common.{◌≡◌, ℕ, ◌<◌, ◌≤◌, List, [], ◌∷◌, ◌++◌, map, length, true, refl, ap, sym, ◌∙◌, inl, inr}
use Rattle.std.proofs.Common.{subst, arith, append_assoc, append-nil}
use Rattle.std.specs.Prelude.{Some, ◌^◌, if◌then◌else◌}
use Rattle.mp_term.specs.Listing.{In}
use Rattle.mp_term.specs.Normal.{IsNormal}
use Rattle.mp_term.specs.Signature.{Sig}
use Rattle.mp_term.specs.Tree.{Tree}
use Rattle.mp_term.proofs.SearchLaws.{in-flat}
use Rattle.mp_pattern.specs.declared.limits.TheConstants.{MAX_VARIABLES}
use Rattle.mp_pattern.specs.Fits.{Entry, Table, Fits}
use Rattle.mp_pattern.specs.NetTokens.{tokens_of}
use Rattle.mp_pattern.specs.PatternTree.{Pattern}
use Rattle.mp_pattern.specs.Plan.{Variable}
use Rattle.mp_pattern.specs.Value.{Subst, value_of}
use Rattle.mp_pattern.specs.Variables.{variables}
use Rattle.mp_table.specs.Table as tables
use Rattle.mp_subst.specs.Trail.{Trail, subst_in}
use Rattle.mp_theory.specs.OneList.{Item}
use Rattle.mp_ac.specs.CommItems.{SameValues}
use Rattle.mp_walk.specs.Chained.{IsChained}
use Rattle.mp_walk.specs.CodeForest.{code_forest}
use Rattle.mp_walk.specs.Course.{Read, Alike, read_entries, table_read}
use Rattle.mp_walk.specs.Forests.{lists}
use Rattle.mp_walk.specs.Instrs.{Instr, instr_at}
use Rattle.mp_walk.specs.TokenMachine.{State, begin_state, steps_by, token_steps, token_ends}
use Rattle.mp_ac.specs.Numbered.{numbered_subst}
use Rattle.mp_walk.specs.Walkable.{Path, IsWalkable}
use Rattle.mp_walk.proofs.Alike.{AreAlike, there, ends-alike}
use Rattle.mp_walk.proofs.ByRule.{searched, runs_kept}
use Rattle.mp_walk.proofs.Chosen.{run-fits, trail-read}
use Rattle.mp_walk.proofs.CodePaths.{forest-paths}
use Rattle.mp_walk.proofs.WalkSame.{SameSteps, token_steps-same}
use Rattle.mp_walk.proofs.WalkTheorem.{begin-alike}

-- a step has one that is the same
same-step : (xs ys : List (List Entry × State)) → SameSteps xs ys → (x : List Entry × State) → In x xs
    → (y : List Entry × State) × In y ys × (x.0 ≡ y.0) × Alike x.1 y.1
same-step [] [] h x i = absurd i
same-step (z ∷ xs) (w ∷ ys) h x (inl e) =
    (w, inl refl, ap (λ q. q.0) e ∙ h.0.0, subst (λ q. Alike q.1 w.1) (sym e) h.0.1)
same-step (z ∷ xs) (w ∷ ys) h x (inr i) = (let k = same-step xs ys h.1 x i in (k.0, inr k.1, k.2, k.3))
same-step [] (w ∷ ys) h x i = absurd i
same-step (z ∷ xs) [] h x i = absurd h

-- the number of the last token
abbrev pub last_read : Read → List Read → ℕ
last_read l [] = l.instr
last_read l (m ∷ ls) = last_read m ls

module _ (sig : Sig) (code : List Instr) (before : ℕ → Path) (Then : Path → Type 0) where
  -- the whole path ends with the last token, or is the one there was
  abbrev Ends : Path → List Read → Path → Type 0
  Ends path [] whole = whole ≡ path
  Ends path (l ∷ ls) whole =
      (i : Instr) × (instr_at code (last_read l ls) ≡ Some i) × (whole ≡ before (last_read l ls) ++ i.token ∷ [])

  abbrev Kept : Path → State → Table → List Item
  Kept = runs_kept (steps_by sig (searched sig))

  -- tokens that lead to an end are a run
  record HasRun (path : Path) (ls : List Read) (e r : State) (done : Table) : Type 0 where
    tokens : Path
    trail : Subst
    run : In {X = Item} (done ++ table_read code ls, trail) (Kept tokens r done)
    values : SameValues e.trail trail
    whole : Ends path ls (path ++ tokens)

  chain-run : (path : Path) (s : State) (ls : List Read) (e s0 r : State) (done : Table)
      → IsChained sig code before Then path s ls e → Alike s s0 → AreAlike sig s0 r → token_ends e ≡ true
      → HasRun path ls e r done
  chain-run path s [] e s0 r done c a b ends =
      let opens = sym b.opens ∙ (sym a.open_ones ∙ c.0.open_ones) in
      let over : token_ends r ≡ true = ends-alike sig r e opens ∙ ends in
      record {
        tokens = [];
        trail = r.trail;
        run = subst (λ d. In {X = Item} (d, r.trail) (if token_ends r then (done, r.trail) ∷ [] else []))
            (sym (append-nil done)) (rw over (inl refl));
        values = λ x. sym (c.0.trail x) ∙ (a.trail x ∙ b.values x);
        whole = append-nil path;
      }
  chain-run path s (l ∷ ls) e s0 r done c a b ends =
      let i = c.2.0 in
      let x = c.2.1 in
      let h = c.2.2 in
      let same : Alike l.state s0 = record {
        open_ones = sym c.0.open_ones ∙ a.open_ones;
        trail = λ v. sym (c.0.trail v) ∙ a.trail v;
      } in
      let y = same-step (token_steps sig l.state i.token) (token_steps sig s0 i.token)
      (token_steps-same sig l.state s0 i.token same) x h.step in
      let z = there sig s0 r i.token y.0 b y.1 in
      let go = chain-run (path ++ i.token ∷ []) x.1 ls e y.0.1 z.0.1 (done ++ z.0.0) c.2.3 y.3 z.3 ends in
      let out : z.0.0 ≡ read_entries code l = sym z.2 ∙ (sym y.2 ∙ h.entries) in
      let joined : (done ++ z.0.0) ++ table_read code ls ≡ done ++ (read_entries code l ++ table_read code ls) =
      append_assoc done z.0.0 (table_read code ls) ∙ ap (λ o. done ++ (o ++ table_read code ls)) out in
      record {
        tokens = i.token ∷ go.tokens;
        trail = go.trail;
        run = in-flat (λ q. Kept go.tokens q.1 (done ++ q.0)) z.0
            (done ++ (read_entries code l ++ table_read code ls), go.trail) (steps_by sig (searched sig) r i.token) z.1
            (subst (λ d. In {X = Item} (d, go.trail) (Kept go.tokens z.0.1 (done ++ z.0.0))) joined go.run);
        values = go.values;
        whole = ends_with ls ((path ++ i.token ∷ []) ++ go.tokens) (path ++ i.token ∷ go.tokens) i
            (append_assoc path (i.token ∷ []) go.tokens) h.is h.behind go.whole;
      }
    where
      ends_with : (ms : List Read) (joint all : Path) (i : Instr) → joint ≡ all
          → instr_at code l.instr ≡ Some i → before l.instr ≡ path → Ends (path ++ i.token ∷ []) ms joint
          → Ends path (l ∷ ms) all
      ends_with [] joint all i q is at w =
          (i, is, sym q ∙ (w ∙ ap (λ p. p ++ i.token ∷ []) (sym at)))
      ends_with (m ∷ ms) joint all i q is at w = (w.0, w.1, sym q ∙ w.2)

-- the table of a run along the tokens of a pattern fits it with the substitution that is read from a trail of the
-- values at its end
tokens-fit : (sig : Sig) (t : Tree) → IsNormal sig t → (q : Pattern) → length (variables q) ≤ MAX_VARIABLES
    → (T : Table) (ks : Path) (r : Subst)
    → In {X = Item} (T, r) (runs_kept (steps_by sig (searched sig)) ks (begin_state t) [])
    → ks ≡ tokens_of sig q → (table : tables.Table) (u : Trail) (xs : List Variable)
    → SameValues (numbered_subst table u.stack) r → map (λ (x : Variable). x.name) xs ≡ variables q
    → Fits sig q t (subst_in table xs u) T
tokens-fit sig t normal q many T ks r run path table u xs same names =
    let few : length (variables q) < 2 ^ 64 = omega (arith, many) in
    let f = run-fits sig t normal q few T r (subst (λ ls. In {X = Item} (T, r)
    (runs_kept (steps_by sig (searched sig)) ls (begin_state t) [])) path run) in
    subst (λ s. Fits sig q t s T)
    (sym (trail-read sig q few many table u xs f.0 r f.1.subst_of.names names f.2 same)) f.1

-- the table of the tokens fits the pattern with the substitution that is read from the trail
pub chain-fits : (sig : Sig) (code : List Instr) (w : IsWalkable sig code) (Then : Path → Type 0) (t : Tree)
    → IsNormal sig t
    → (l : Read) (ls : List Read) (e : State) → IsChained sig code w.before Then [] (begin_state t) (l ∷ ls) e
    → token_ends e ≡ true → (q : Pattern) → length (variables q) ≤ MAX_VARIABLES
    → In {X = ℕ × Path} (last_read l ls, tokens_of sig q) (lists (code_forest code))
    → (table : tables.Table) (u : Trail) (xs : List Variable) → e.trail ≡ numbered_subst table u.stack
    → map (λ (x : Variable). x.name) xs ≡ variables q
    → Fits sig q t (subst_in table xs u) (table_read code (l ∷ ls))
chain-fits sig code w Then t normal l ls e c ends q many leaf table u xs is read =
    let h = chain-run sig code w.before Then [] (begin_state t) (l ∷ ls) e (begin_state t) (begin_state t) [] c
    (record { open_ones = refl; trail = λ x. refl }) (begin-alike sig t normal) ends in
    let p = forest-paths code w.before w.paths (length code) 1 (last_read l ls) (tokens_of sig q) leaf in
    let one : h.whole.0 ≡ p.instr = (let z : Some h.whole.0 ≡ Some p.instr = sym h.whole.1 ∙ p.held in cc) in
    let path : h.tokens ≡ tokens_of sig q = h.whole.2
    ∙ (ap (λ i. w.before (last_read l ls) ++ i.token ∷ []) one
    ∙ (p.path ∙ ap (λ ks. ks ++ tokens_of sig q) w.paths.first)) in
    tokens-fit sig t normal q many (table_read code (l ∷ ls)) h.tokens h.trail h.run path table u xs
    (λ x. sym (ap (λ s. value_of s x) is) ∙ h.values x) read
