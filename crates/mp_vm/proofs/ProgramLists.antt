-- Each program that is valid has one list on each normal subject.
use Rattle.std.proofs.Common.{◌≡◌, ℕ, Bool, true, false, List, [], ◌∷◌, ◌++◌, length, refl, ap, sym, ◌∙◌, inl, inr}
use Rattle.std.proofs.Common.{subst}
use Rattle.std.specs.Prelude.{◌↔◌, Contains, Option, Some, None, slice_get}
use Rattle.mp_term.specs.Listing.{In, IsListing}
use Rattle.mp_term.specs.Normal.{IsNormal}
use Rattle.mp_term.specs.Pieces.{distinct}
use Rattle.mp_term.specs.Signature.{Sig}
use Rattle.mp_term.specs.Tree.{Tree}
use Rattle.mp_term.proofs.ListingLaws.{contains-from_in, in-from_contains, unique_listing}
use Rattle.mp_term.proofs.PiecesLaws.{ascending-distinct, from_in-distinct, in-distinct}
use Rattle.mp_term.proofs.SearchLaws.{from_in-append, in-left, in-right}
use Rattle.mp_pattern.specs.Admission.{meets}
use Rattle.mp_pattern.specs.Fits.{Table, Fits}
use Rattle.mp_pattern.specs.Lists.{Pair, pair_cmp}
use Rattle.mp_pattern.specs.PatternTree.{Pattern}
use Rattle.mp_pattern.specs.Value.{Subst}
use Rattle.mp_theory.proofs.AllList.{pair_cmp_total}
use Rattle.mp_walk.specs.CodeForest.{code_forest}
use Rattle.mp_walk.specs.Forests.{lists, walk}
use Rattle.mp_walk.specs.Found.{found_cmp}
use Rattle.mp_walk.specs.FoundOrder.{found_cmp_total}
use Rattle.mp_walk.specs.Instrs.{Instr, accepts_at}
use Rattle.mp_walk.specs.NamedItems.{with_names}
use Rattle.mp_walk.specs.TokenMachine.{begin_state, token_ends, token_steps}
use Rattle.mp_walk.specs.Walkable.{Path, StandsFor}
use Rattle.mp_walk.specs.WalkItems.{IsLeafItem}
use Rattle.mp_walk.proofs.CodePaths.{forest-paths}
use Rattle.mp_walk.proofs.FoundLaws.{found_same}
use Rattle.mp_walk.proofs.WalkTheorem.{walk_items}
use Rattle.mp_program.specs.Program.{ProgramRule, Program}
use Rattle.mp_program.specs.Reading.{IsValid}
use Rattle.mp_program.specs.TokenPaths.{test_of}
use Rattle.mp_vm.specs.ProgramList.{IsGivenBy, IsProgramPair, IsProgramList}
use Rattle.mp_vm.specs.Runnable.{IsRunnable}
use Rattle.mp_vm.proofs.RunLaws.{listing-program, rule-there, same-rule}
use Rattle.mp_vm.proofs.RunnableLaws.{valid-runnable}
use Rattle.mp_vm.proofs.StandsAlone.{fits-once, stands-same}

-- two lists of a program on a subject are one
pub IsProgramList-unique : (sig : Sig) (p : Program) (t : Tree) (qs rs : List Pair) → IsProgramList sig p t qs
    → IsProgramList sig p t rs → qs ≡ rs
IsProgramList-unique sig p t qs rs h k = unique_listing pair_cmp pair_cmp_total (IsProgramPair sig p t) qs rs h k

module _ (sig : Sig) (p : Program) (run : IsRunnable sig p) (t : Tree) (normal : IsNormal sig t) where
  abbrev Leads : ℕ → Path → Type 0
  Leads leaf path = In {X = ℕ × Path} (leaf, path) (lists (code_forest p.code))

  -- one path leads to an instruction
  leads-same : (leaf : ℕ) (path other : Path) → Leads leaf path → Leads leaf other → path ≡ other
  leads-same leaf path other h k =
      let code = p.code in
      let w = run.walkable in
      let a = forest-paths code w.before w.paths (length code) 1 leaf path h in
      let b = forest-paths code w.before w.paths (length code) 1 leaf other k in
      let held : Some a.instr ≡ Some b.instr = sym a.held ∙ b.held in
      let instr : a.instr ≡ b.instr = cc in
      ap (λ ks. ks ++ path) (sym w.paths.first) ∙ sym a.path
      ∙ ap (λ (i : Instr). w.before leaf ++ i.token ∷ []) instr ∙ b.path ∙ ap (λ ks. ks ++ other) w.paths.first

  -- ---- the pairs of an item

  module _ (i : ℕ × Table) (leaf : IsLeafItem sig p.code t i) where
    -- the substitution is that of the item
    subst-same : (path : Path) (q : Pattern) (s : Subst) → Leads i.0 path → StandsFor sig path q → Fits sig q t s i.1
        → s ≡ leaf.subst
    subst-same path q s leads stands fits =
        let own : path ≡ leaf.path = leads-same i.0 path leaf.path leads leaf.leaf in
        let pattern : q ≡ leaf.pattern = stands-same sig leaf.path q leaf.pattern
        (subst (λ ks. StandsFor sig ks q) own stands) leaf.stands in
        fits-once sig t normal leaf.pattern s leaf.subst i.1 (subst (λ z. Fits sig z t s i.1) pattern fits) leaf.fits

    -- exactly these pairs are given of one of the rules
    abbrev AreGiven : ℕ → List Pair → Type 0
    AreGiven n qs = (q : Pair) → In q qs ↔ ((q.0 ≡ n) × IsGivenBy sig p t i.0 i.1 q)

    module _ (n : ℕ) (r : ProgramRule) (held : slice_get p.rules n ≡ Some r) where
      -- by the answer of its test
      rule-given : (passed : Bool) → meets sig (test_of p.tests r.test) leaf.subst ≡ passed
          → (qs : List Pair) × AreGiven n qs
      rule-given false refused = (
        [],
        λ q. (
          λ h. absurd h,
          λ h.
              let g = h.1 in
              let own = subst-same g.path g.pattern g.subst g.leads g.stands g.fits in
              let wrong : false ≡ true = sym refused ∙ ap (meets sig (test_of p.tests r.test)) (sym own)
              ∙ ap (λ z. meets sig (test_of p.tests z.test) g.subst) (sym (same-rule sig p t i n r held q h.0 g))
              ∙ g.test in
              absurd cc,
        ),
      )
      rule-given true passed = (
        (n, with_names r.vars leaf.subst) ∷ [],
        λ q. (
          λ h. elim h [
            | inl e ↦ subst (λ (z : Pair). (z.0 ≡ n) × IsGivenBy sig p t i.0 i.1 z) (sym e) (
              refl,
              record {
                rule = r;
                numbered = held;
                path = leaf.path;
                leads = leaf.leaf;
                pattern = leaf.pattern;
                stands = leaf.stands;
                subst = leaf.subst;
                fits = leaf.fits;
                test = passed;
                named = refl;
              },
            )
            | inr e ↦ absurd e
          ],
          λ h.
              let g = h.1 in
              let own = subst-same g.path g.pattern g.subst g.leads g.stands g.fits in
              let named : q.1 ≡ with_names r.vars leaf.subst = g.named
              ∙ ap (λ z. with_names z.vars g.subst) (same-rule sig p t i n r held q h.0 g)
              ∙ ap (with_names r.vars) own in
              inl (ap (λ (m : ℕ). (m, q.1)) h.0 ∙ ap (λ (u : Subst). (n, u)) named),
        ),
      )

    number-given : (n : ℕ) → In n (accepts_at p.code i.0) → (qs : List Pair) × AreGiven n qs
    number-given n accepts = by_rule (slice_get p.rules n) refl
      where
        by_rule : (o : Option ProgramRule) → slice_get p.rules n ≡ o → (qs : List Pair) × AreGiven n qs
        by_rule None e = absurd (rule-there sig p run i.0 n leaf.path accepts leaf.leaf e)
        by_rule (Some r) e = rule-given n r e (meets sig (test_of p.tests r.test) leaf.subst) refl

    -- and of all of them
    numbers-given : (ns : List ℕ) → ((n : ℕ) → In n ns → In n (accepts_at p.code i.0))
        → (qs : List Pair) × ((q : Pair) → In q qs ↔ (In q.0 ns × IsGivenBy sig p t i.0 i.1 q))
    numbers-given [] among = ([], λ q. (λ h. absurd h, λ h. absurd h.0))
    numbers-given (n ∷ ns) among =
        let own = number-given n (among n (inl refl)) in
        let rest = numbers-given ns (λ m j. among m (inr j)) in (
          own.0 ++ rest.0,
          λ q. (
            λ h. elim (from_in-append q own.0 rest.0 h) [
              | inl j ↦ (let k = (own.1 q).0 j in (inl k.0, k.1))
              | inr j ↦ (let k = (rest.1 q).0 j in (inr k.0, k.1))
            ],
            λ h. elim h.0 [
              | inl e ↦ in-left q own.0 rest.0 ((own.1 q).1 (e, h.1))
              | inr j ↦ in-right q own.0 rest.0 ((rest.1 q).1 (j, h.1))
            ],
          ),
        )

  -- ---- all pairs

  -- the pair is given by one of the items
  abbrev IsOfItems : List (ℕ × Table) → Pair → Type 0
  IsOfItems is q =
      (i : ℕ × Table) × In i is × In q.0 (accepts_at p.code i.0) × IsGivenBy sig p t i.0 i.1 q

  items-given : (is : List (ℕ × Table)) → ((i : ℕ × Table) → In i is → IsLeafItem sig p.code t i)
      → (qs : List Pair) × ((q : Pair) → In q qs ↔ IsOfItems is q)
  items-given [] leaves = ([], λ q. (λ h. absurd h, λ h. absurd h.1))
  items-given (i ∷ is) leaves =
      let own = numbers-given i (leaves i (inl refl)) (accepts_at p.code i.0) (λ n j. j) in
      let rest = items-given is (λ k j. leaves k (inr j)) in (
        own.0 ++ rest.0,
        λ q. (
          λ h. elim (from_in-append q own.0 rest.0 h) [
            | inl j ↦ (let k = (own.1 q).0 j in (i, inl refl, k.0, k.1))
            | inr j ↦ (let k = (rest.1 q).0 j in (k.0, inr k.1, k.2, k.3))
          ],
          λ h. elim h.1 [
            | inl e ↦ in-left q own.0 rest.0 ((own.1 q).1
                (subst (λ (z : ℕ × Table). In q.0 (accepts_at p.code z.0) × IsGivenBy sig p t z.0 z.1 q) e (h.2, h.3)))
            | inr j ↦ in-right q own.0 rest.0 ((rest.1 q).1 (h.0, j, h.2, h.3))
          ],
        ),
      )

  pub runnable_list : (qs : List Pair) × IsProgramList sig p t qs
  runnable_list =
      let items = walk_items sig t normal p.code run.walkable in
      let is = walk (token_steps sig) token_ends (code_forest p.code) (begin_state t) [] in
      let given = items-given is (λ i j. (items.exactly i).0 j) in
      let all = given.0 in
      let whole : (q : Pair) → Contains all q ↔ IsProgramPair sig p t q = λ q. (
        λ h.
            let g = (given.1 q).0 (in-from_contains q all h) in
            record { leaf = g.0.0; accepts = g.2; table = g.0.1; given = g.3 },
        λ h.
            let g = h.given in
            let leaf : IsLeafItem sig p.code t (h.leaf, h.table) = record {
              path = g.path;
              leaf = g.leads;
              pattern = g.pattern;
              stands = g.stands;
              subst = g.subst;
              fits = g.fits;
            } in
            contains-from_in q all
            ((given.1 q).1 ((h.leaf, h.table), (items.exactly (h.leaf, h.table)).1 leaf, h.accepts, g)),
      ) in
      let listed : IsListing found_cmp (Contains all) (distinct found_cmp all) = record {
        exactly = λ q. (
          λ h. contains-from_in q all
              (from_in-distinct found_cmp found_cmp_total found_same q all
              (in-from_contains q (distinct found_cmp all) h)),
          λ h. contains-from_in q (distinct found_cmp all)
              (in-distinct found_cmp found_cmp_total found_same q all (in-from_contains q all h)),
        );
        ascending = ascending-distinct found_cmp found_cmp_total found_same all;
      } in
      (distinct found_cmp all, listing-program sig p run t all (distinct found_cmp all) whole listed)

-- the list of a valid program
pub program_list : (sig : Sig) (p : Program) (t : Tree) → IsValid sig p → IsNormal sig t
    → (qs : List Pair) × IsProgramList sig p t qs
program_list sig p t valid normal = runnable_list sig p (valid-runnable sig p valid) t normal
