-- A table in which each instruction is led to once, by right paths, has no faults.
use Rattle.std.proofs.Common.{◌≡◌, ◌<◌, ℕ, suc, ◌+◌, List, [], ◌∷◌, ◌++◌, map, length, Bool, true, false}
use Rattle.std.proofs.Common.{refl, ap, sym, ◌∙◌, inl, inr, subst, arith, append_assoc, append-nil}
use Rattle.std.specs.Prelude.{Option, Some, None, flat_map, filter, option_to_list, slice_get, nat_eq, nat_le}
use Rattle.std.specs.Prelude.{if◌then◌else◌}
use Rattle.std.specs.List.{list_any}
use Rattle.std.proofs.lemmas.Bool.{eqb-true, eq-eqb}
use Rattle.std.proofs.lemmas.Bool.Decides.{nat_tests}
use Rattle.std.proofs.lemmas.Grind.{flat_map-append}
use Rattle.std.proofs.lemmas.List.{length-append, map-append}
use Rattle.mp_term.specs.Listing.{In}
use Rattle.mp_term.specs.Signature.{Sig}
use Rattle.mp_term.proofs.SearchLaws.{from_in-append, from_in-flat}
use Rattle.mp_term.proofs.ListingLaws.{place-in}
use Rattle.mp_pattern.specs.CondTree.{Cond}
use Rattle.mp_pattern.proofs.ItemLaws.{slice_get-found, slice_get-second}
use Rattle.mp_ac.specs.CommItems.{NoneTwice}
use Rattle.mp_walk.specs.Instrs.{Instr, instr_at, targets}
use Rattle.mp_walk.specs.Walkable.{Path, ArePaths}
use Rattle.mp_walk.proofs.CodePaths.{IsForward}
use Rattle.mp_walk.proofs.ForestLaws.{none-left}
use Rattle.mp_program.specs.Program.{ProgramRule}
use Rattle.mp_program.specs.FormText.{first_target}
use Rattle.mp_program.specs.FormFaults.{target_faults, path_faults, way_faults, code_faults}
use Rattle.mp_program.specs.Leads.{Lead, lead, leads, befores, leads_after}
use Rattle.mp_program.proofs.ListLaws.{list_any-none}
use Rattle.mp_gen.proofs.TreeTargets.{AreTargets}

-- ---- ways to one instruction

abbrev pub to_of : List Lead → List ℕ
to_of ls = map (λ l. l.to) ls

befores-none : (ls : List Lead) (n : ℕ) → (In n (to_of ls) → ⊥) → befores ls n ≡ []
befores-none [] n h = refl
befores-none (l ∷ ls) n h = go (nat_eq l.to n) refl (befores-none ls n (λ i. h (inr i)))
  where
    go : (b : Bool) → nat_eq l.to n ≡ b → befores ls n ≡ []
        → map (λ k. k.before) (if b then l ∷ filter (λ k. nat_eq k.to n) ls else filter (λ k. nat_eq k.to n) ls) ≡ []
    go true e r = absurd (h (inl (sym (eqb-true l.to n e))))
    go false e r = r

befores-one : (ls : List Lead) (n : ℕ) (P : Path) → NoneTwice (to_of ls) → In n (to_of ls)
    → ((l : Lead) → In l ls → l.to ≡ n → l.before ≡ P) → befores ls n ≡ P ∷ []
befores-one [] n P once i same = absurd i
befores-one (l ∷ ls) n P once i same =
    go (nat_eq l.to n) refl i (λ j. befores-one ls n P once.1 j (λ k h. same k (inr h)))
  where
    go : (b : Bool) → nat_eq l.to n ≡ b → In n (to_of (l ∷ ls)) → (In n (to_of ls) → befores ls n ≡ P ∷ [])
        → map (λ k. k.before) (if b then l ∷ filter (λ k. nat_eq k.to n) ls else filter (λ k. nat_eq k.to n) ls)
        ≡ P ∷ []
    go true e j r =
        let to : l.to ≡ n = eqb-true l.to n e in
        let here : l.before ≡ P = same l (inl refl) to in
        let none : befores ls n ≡ [] = befores-none ls n (λ h. once.0 (subst (λ z. In z (to_of ls)) (sym to) h)) in
        ap (λ p. p ∷ befores ls n) here ∙ ap (λ ps. P ∷ ps) none
    go false e (inl h) r =
        let wrong : true ≡ false = sym (ap (λ z. nat_eq z n) (sym h) ∙ eq-eqb n n refl) ∙ e in cc
    go false e (inr h) r = r h

-- the numbers of the ways of an instruction are its targets
lead-to : (P : Path) (t : Option ℕ) → to_of (lead P t) ≡ option_to_list t
lead-to P None = refl
lead-to P (Some n) = refl

from-lead : (P : Path) (t : Option ℕ) (l : Lead) → In l (lead P t) → (t ≡ Some l.to) × (l.before ≡ P)
from-lead P None l i = absurd i
from-lead P (Some n) l (inl e) = (ap (λ k. Some k.to) (sym e), ap (λ k. k.before) e)
from-lead P (Some n) l (inr i) = absurd i

-- targets behind an instruction and before `stop` have no fault
pub none-target_faults : (stop line n : ℕ) (ts : List ℕ) → ((t : ℕ) → In t ts → (n < t) × (t < stop))
    → target_faults stop line n ts ≡ []
none-target_faults stop line n ts h =
    let low : list_any (λ t. nat_le t n) ts ≡ false =
    list_any-none (λ t. nat_le t n) ts (λ t i. let f = h t i in past t n f.0) in
    let high : list_any (nat_le stop) ts ≡ false =
    list_any-none (nat_le stop) ts (λ t i. let f = h t i in past stop t f.1) in
    rw (low, high) refl
  where
    past : (a b : ℕ) → b < a → nat_le a b ≡ false
    past a b l = grind (arith, nat_tests)

none-parts : {X : Type 0} (xs ys zs : List X) → xs ≡ [] → ys ≡ [] → zs ≡ [] → (xs ++ ys) ++ zs ≡ []
none-parts xs ys zs e f g = rw (e, f, g) refl

-- ---- all instructions

module _ (code : List Instr) (before : ℕ → Path) (paths : ArePaths code before) (forward : IsForward code)
    (once : NoneTwice (flat_map targets code)) (reached : AreTargets 1 code) where
  -- the ways of the instructions before some
  pub record AreLeads (front : List Instr) (ls : List Lead) : Type 0 where
    pub to : to_of ls ≡ 1 ∷ flat_map targets front
    pub from : (l : Lead) → In l ls → l.before ≡ before l.to

  module _ (front : List Instr) (i : Instr) (is : List Instr) (whole : code ≡ front ++ i ∷ is) where
    abbrev own : ℕ
    own = suc (length front)

    held-behind : (m : ℕ) (j : Instr) → slice_get (i ∷ is) m ≡ Some j → instr_at code (suc (length front + m)) ≡ Some j
    held-behind m j e = ap (λ l. slice_get l (length front + m)) whole
        ∙ slice_get-second front (i ∷ is) m (length front + m) refl ∙ e

    pub held-own : instr_at code own ≡ Some i
    held-own =
        let e : length front + 0 ≡ length front = omega arith in
        subst (λ m. instr_at code (suc m) ≡ Some i) e (held-behind 0 i refl)

    split : flat_map targets code ≡ flat_map targets front ++ flat_map targets (i ∷ is)
    split = ap (flat_map targets) whole ∙ flat_map-append targets front (i ∷ is)

    -- a target from here on lies further on
    later : (t : ℕ) → In t (flat_map targets (i ∷ is)) → own < t
    later t h =
        let r = from_in-flat targets t (i ∷ is) h in
        let s = place-in r.0 (i ∷ is) r.1 in
        let f = forward (suc (length front + s.0)) t r.0 (held-behind s.0 r.0 s.1) r.2 in
        omega (arith, f.0)

    length-code : length code ≡ length front + suc (length is)
    length-code = ap (λ l. length l) whole ∙ length-append front (i ∷ is)

    own-known : In own (1 ∷ flat_map targets front)
    own-known = go front refl
      where
        go : (fs : List Instr) → length fs ≡ length front → In own (1 ∷ flat_map targets front)
        go [] e = inl (let z : own ≡ 1 = omega (arith, e) in z)
        go (f ∷ fs) e =
            elim (from_in-append own (flat_map targets front) (flat_map targets (i ∷ is))
            (subst (In own) split (reached own (omega (arith, e)) (omega (arith, length-code))))) [
              | inl h ↦ inr h
              | inr h ↦ absurd (let l = later own h in omega (arith, l))
            ]

    once-front : NoneTwice (1 ∷ flat_map targets front)
    once-front = (
      λ h. (let r = from_in-flat targets 1 front h in
          let s = place-in r.0 front r.1 in
          let held : instr_at code (suc s.0) ≡ Some r.0 =
          ap (λ l. slice_get l s.0) whole ∙ slice_get-found front (i ∷ is) s.0 r.0 s.1 in
          let f = forward (suc s.0) 1 r.0 held r.2 in omega (arith, f.0)),
      none-left (flat_map targets front) (flat_map targets (i ∷ is)) (subst NoneTwice split once),
    )

    module _ (ls : List Lead) (are : AreLeads front ls) where
      pub befores-own : befores ls own ≡ before own ∷ []
      befores-own = befores-one ls own (before own) (subst NoneTwice (sym are.to) once-front)
          (subst (In own) (sym are.to) own-known) (λ l h e. are.from l h ∙ ap before e)

      abbrev new : List Lead
      new = leads (before own) i

      after : leads_after ls own i ≡ ls ++ new
      after = ap (λ ps. ls ++ flat_map (λ p. leads p i) ps) befores-own ∙ ap (λ l. ls ++ l) (append-nil new)

      new-to : to_of new ≡ targets i
      new-to = map-append (λ l. l.to) (lead (before own ++ i.token ∷ []) i.down) (lead (before own) i.over)
          ∙ ap (λ l. l ++ to_of (lead (before own) i.over)) (lead-to (before own ++ i.token ∷ []) i.down)
          ∙ ap (λ l. option_to_list i.down ++ l) (lead-to (before own) i.over)

      new-from : (l : Lead) → In l new → l.before ≡ before l.to
      new-from l h = elim (from_in-append l (lead (before own ++ i.token ∷ []) i.down) (lead (before own) i.over) h) [
        | inl k ↦ (let r = from-lead (before own ++ i.token ∷ []) i.down l k in
            r.1 ∙ sym (paths.down own l.to i held-own r.0))
        | inr k ↦ (let r = from-lead (before own) i.over l k in r.1 ∙ sym (paths.over own l.to i held-own r.0))
      ]

      pub next-leads : AreLeads (front ++ i ∷ []) (leads_after ls own i)
      next-leads = subst (AreLeads (front ++ i ∷ [])) (sym after) (record {
        to = map-append (λ l. l.to) ls new ∙ ap (λ l. l ++ to_of new) are.to
            ∙ ap (λ l. (1 ∷ flat_map targets front) ++ l) (new-to ∙ sym (append-nil (targets i)))
            ∙ ap (λ l. 1 ∷ l) (sym (flat_map-append targets front (i ∷ [])));
        from = λ l h. elim (from_in-append l ls new h) [ inl k ↦ are.from l k | inr k ↦ new-from l k ];
      })

  module _ (sig : Sig) (most : ℕ) (tests : List Cond) (rules : List ProgramRule) (right : (line n : ℕ) (i : Instr)
      → instr_at code n ≡ Some i
      → path_faults sig most tests rules (suc (length code)) line (before n ++ i.token ∷ []) i ≡ []) where
    none-from : (back front : List Instr) (ls : List Lead) (line n : ℕ) → code ≡ front ++ back → n ≡ suc (length front)
        → AreLeads front ls → code_faults sig most tests rules (suc (length code)) line n ls back ≡ []
    none-from [] front ls line n whole at are = refl
    none-from (i ∷ is) front ls line n whole at are =
        subst (λ m. code_faults sig most tests rules (suc (length code)) line m ls (i ∷ is) ≡ []) (sym at)
        (none-parts (target_faults (suc (length code)) line (suc (length front)) (targets i))
        (way_faults sig most tests rules (suc (length code)) line (befores ls (suc (length front))) i)
        (code_faults sig most tests rules (suc (length code)) (suc line) (suc (suc (length front)))
        (leads_after ls (suc (length front)) i) is)
        (none-target_faults (suc (length code)) line (suc (length front)) (targets i) (λ t h.
        let f = forward (suc (length front)) t i (held-own front i is whole) h in (f.0, omega (arith, f.1))))
        (ap (λ ps. way_faults sig most tests rules (suc (length code)) line ps i) (befores-own front i is whole ls are)
        ∙ right line (suc (length front)) i (held-own front i is whole))
        (none-from is (front ++ i ∷ []) (leads_after ls (suc (length front)) i) (suc line) (suc (suc (length front)))
        (whole ∙ sym (append_assoc front (i ∷ []) is))
        (let e = length-append front (i ∷ []) in omega (arith, e)) (next-leads front i is whole ls are)))

    -- all instructions
    pub none-code_faults : (line : ℕ)
        → code_faults sig most tests rules (suc (length code)) line 1 (lead [] (first_target code)) code ≡ []
    none-code_faults line = go code refl
      where
        go : (is : List Instr) → code ≡ is
            → code_faults sig most tests rules (suc (length code)) line 1 (lead [] (first_target is)) is ≡ []
        go [] e = refl
        go (i ∷ is) e = none-from (i ∷ is) [] (lead [] (Some 1)) line 1 e refl (record {
          to = refl;
          from = λ l h. elim h [
            | inl z ↦ ap (λ k. k.before) z ∙ sym paths.first ∙ ap before (sym (ap (λ k. k.to) z))
            | inr k ↦ absurd k
          ];
        })
