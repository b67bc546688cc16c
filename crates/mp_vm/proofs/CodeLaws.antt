-- The check of a program's instructions against their faults.
use Rattle.std.proofs.Common.{◌≡◌, ℕ, suc, ◌+◌, ◌<◌, ◌≤◌, List, [], ◌∷◌, ◌++◌, map, length, Bool, true, false}
use Rattle.std.proofs.Common.{refl, ap, sym, ◌∙◌, inl, inr, subst, arith, drop, reverse, append-nil, append_assoc}
use Rattle.std.proofs.Common.{length-append, add-one}
use Rattle.std.specs.Prelude.{◌≢◌, ◌||◌, not, Option, Some, None, is_some, flat_map, option_to_list, slice_get}
use Rattle.std.specs.Prelude.{◌-◌, ◌^◌, Result, IsErrAnd}
use Rattle.std.specs.List.{list_all}
use Rattle.std.proofs.lemmas.Bool.{cases_eq, eq-eqb, ne_eqb}
use Rattle.std.proofs.Math.ListN.{drop_of_length-le}
use Rattle.std.proofs.lemmas.List.{length-map, reverse-append}
use Rattle.mp_term.specs.Listing.{In}
use Rattle.mp_term.proofs.SearchLaws.{in-left, in-right}
use Rattle.mp_term.specs.Signature.{Sig}
use Rattle.mp_term.proofs.ListLaws.{drop-at}
use Rattle.mp_pattern.specs.CondTree.{Cond}
use Rattle.mp_pattern.specs.NetTokens.{NetToken}
use Rattle.mp_walk.specs.Instrs.{Instr, instr_at, targets}
use Rattle.mp_walk.specs.InstrView.{plain_instr}
use Rattle.mp_walk.specs.Walkable.{Path}
use Rattle.mp_walk.specs.declared.instr.Instr as read
use Rattle.mp_walk.proofs.CodePaths.{number-within}
use Rattle.mp_program.specs.declared.fault.ProgramError.{ProgramError}
use Rattle.mp_program.specs.declared.fault.ProgramError.TheVariants.{BadReference, Unbalanced, Memory}
use Rattle.mp_program.specs.declared.format.Format.{Format}
use Rattle.mp_program.specs.declared.format.Format.TheVariants.{One as FormatOne, Two}
use Rattle.mp_program.specs.FormFaults.{fault_if, path_faults, way_faults, code_faults, most_nodes}
use Rattle.mp_program.specs.Leads.{Lead, lead, leads, befores, leads_after}
use Rattle.mp_program.specs.Program.{ProgramRule}
use Rattle.mp_program.specs.Reading.{first_fault}
use Rattle.mp_program.specs.TokenPaths.{is_right_path, open_along, is_balanced, may_accept}
use Rattle.mp_vm.specs.Checked.{Checks}
use Rattle.mp_vm.specs.Known.{IsGoodPath, Knows, IsGathered, opened}
use Rattle.mp_vm.specs.Looks.{look_wildcard}
use Rattle.mp_vm.specs.RuleNeeds.{needs_view, needs_of, meets_all}
use Rattle.mp_vm.specs.SettingView.{setting_code, faults_of_instr, faults_behind, HasGathered}
use Rattle.mp_vm.specs.WayView.{way_at, way_more, AreAbove, IsLedFrom, IsWayTo, AreWays}
use Rattle.mp_vm.specs.declared.above.Above.{Above}
use Rattle.mp_vm.specs.declared.code.Setting.{Setting}
use Rattle.mp_vm.specs.declared.look.Look.{Look}
use Rattle.mp_vm.specs.declared.needs.Needs.{Needs}
use Rattle.mp_vm.specs.declared.ways.Way.{Way}
use Rattle.mp_vm.specs.declared.ways.Way.TheVariants.{Unknown, One, Several}
use Rattle.mp_vm.proofs.CheckedLaws.{first_fault-before, checks-passed}
use Rattle.mp_vm.proofs.LeadLaws.{befores-append}
use Rattle.mp_vm.proofs.NeedLaws.{meets-all}
use Rattle.mp_vm.proofs.PathRules.{right-none}
use Rattle.mp_vm.proofs.WayLaws.{above-top, above-step}

-- ---- the faults of a path

module _ (sig : Sig) (most : ℕ) (tests : List Cond) (rules : List ProgramRule) (stop line : ℕ) (ks : Path)
    (i : Instr) where
  abbrev faults_with : Bool → Bool → Bool → List ProgramError
  faults_with right accepts balanced =
      fault_if (not right || not accepts) (BadReference line) ++ fault_if (not balanced) (Unbalanced line)

  abbrev accepted : Bool
  accepted = list_all (may_accept tests rules ks) i.accepts

  abbrev balanced : Bool
  balanced = is_balanced (open_along [] ks) (is_some i.down)

  abbrev faults : List ProgramError
  faults = path_faults sig most tests rules stop line ks i

  pub wrong-rules : is_right_path sig most ks ≡ true → accepted ≡ false → first_fault faults ≡ Some (BadReference line)
  wrong-rules r e = ap (λ b. first_fault (faults_with b accepted balanced)) r
      ∙ ap (λ b. first_fault (faults_with true b balanced)) e

  pub wrong-balance : is_right_path sig most ks ≡ true → accepted ≡ true → balanced ≡ false
      → first_fault faults ≡ Some (Unbalanced line)
  wrong-balance r a e = ap (λ b. first_fault (faults_with b accepted balanced)) r
      ∙ ap (λ b. first_fault (faults_with true b balanced)) a ∙ ap (λ b. first_fault (faults_with true true b)) e

  pub right-all : is_right_path sig most ks ≡ true → accepted ≡ true → balanced ≡ true → faults ≡ []
  right-all r a e = ap (λ b. faults_with b accepted balanced) r ∙ ap (λ b. faults_with true b balanced) a
      ∙ ap (λ b. faults_with true true b) e

  -- a path without faults is right, and something is known of what it opens
  pub faultless-good : faults ≡ [] → IsGoodPath sig most ks
  faultless-good none = by_right (is_right_path sig most ks) refl (open_along [] ks) refl none
    where
      by_right : (r : Bool) → is_right_path sig most ks ≡ r → (o : Option (List ℕ)) → open_along [] ks ≡ o
          → faults_with (is_right_path sig most ks) accepted (is_balanced (open_along [] ks) (is_some i.down)) ≡ []
          → IsGoodPath sig most ks
      by_right false q o p none =
          let wrong : BadReference line ∷ fault_if (not balanced) (Unbalanced line) ≡ [] =
          sym (ap (λ b. faults_with b accepted balanced) q) ∙ none in cc
      by_right true q None p none = absurd (unbalanced accepted
          (sym (ap (λ b. faults_with b accepted balanced) q
          ∙ ap (λ g. faults_with true accepted (is_balanced g (is_some i.down))) p) ∙ none))
        where
          unbalanced : (a : Bool) → faults_with true a false ≡ [] → ⊥
          unbalanced true h = cc
          unbalanced false h = cc
      by_right true q (Some gs) p none = record { right = q; open_ones = gs; opens = p }

-- ---- the ways to an instruction

module _ (sig : Sig) (most : ℕ) (tests : List Cond) (rules : List ProgramRule) (stop line : ℕ) (i : Instr) where
  no-way : (bs : List Path) → bs ≡ [] → way_faults sig most tests rules stop line bs i ≡ BadReference line ∷ []
  no-way [] e = refl
  no-way (b ∷ bs) e = cc

  many-ways : (bs : List Path) → 2 ≤ length bs → way_faults sig most tests rules stop line bs i ≡ BadReference line ∷ []
  many-ways [] h = refl
  many-ways (b ∷ []) h = absurd (omega (arith, h))
  many-ways (b ∷ c ∷ bs) h = refl

  pub one-way : (bs : List Path) (b : Path) → bs ≡ b ∷ []
      → way_faults sig most tests rules stop line bs i
      ≡ path_faults sig most tests rules stop line (b ++ i.token ∷ []) i
  one-way bs b e = ap (λ cs. way_faults sig most tests rules stop line cs i) e

  module _ (code : List Instr) (ls : List Lead) (done : ℕ) (ws : List Way) (n : ℕ) where
    -- where not one way is known, none leads there or several do
    pub wrong-ways : (w : Way) → ((a : ℕ) → w ≢ One a) → IsWayTo sig most code ls done ws n w
        → way_faults sig most tests rules stop line (befores ls n) i ≡ BadReference line ∷ []
    wrong-ways Unknown other h = no-way (befores ls n) h
    wrong-ways (One a) other h = absurd (other a refl)
    wrong-ways Several other h = many-ways (befores ls n) h

-- ---- one more way

-- the tokens above an instruction stay, where the ways to it and to those before it do
above-kept : (code : List Instr) (ws zs : List Way) (d : ℕ) → ((m : ℕ) → m ≤ d → way_at zs m ≡ way_at ws m) → (n : ℕ)
    (ks : List NetToken) → n ≤ d → AreAbove code ws n ks → AreAbove code zs n ks
above-kept code ws zs d same n [] less h = h
above-kept code ws zs d same n (k ∷ ks) less h =
    (h.0, h.1, h.2, h.3, same n less ∙ h.4, h.5, above-kept code ws zs d same h.0 ks (omega (arith, h.5, less)) h.6)

lead-here : (ks : Path) (t n : ℕ) → t ≡ n → befores (lead ks (Some t)) n ≡ ks ∷ []
lead-here ks t n e = rw (eq-eqb t n e) refl

lead-other : (ks : Path) (t n : ℕ) → (t ≡ n → ⊥) → befores (lead ks (Some t)) n ≡ []
lead-other ks t n h = rw (ne_eqb t n h) refl

module _ (sig : Sig) (most : ℕ) (code : List Instr) (ls : List Lead) (done : ℕ) (ws zs : List Way)
    (target : Option ℕ) (above : ℕ) (rs : List NetToken) (d : ℕ)
    (h : AreWays sig most code ls done ws) (count : length zs ≡ length ws)
    (led : (n : ℕ) → target ≡ Some n → 1 ≤ n → n ≤ length ws → way_at zs n ≡ way_more above (way_at ws n))
    (others : (n : ℕ) → target ≢ Some n → way_at zs n ≡ way_at ws n)
    (are : AreAbove code ws above rs) (good : IsGoodPath sig most (reverse rs))
    (later : done ≤ d) (within : above ≤ d) (onward : (t : ℕ) → target ≡ Some t → d < t) where
  abbrev more : List Lead
  more = ls ++ lead (reverse rs) target

  same : (m : ℕ) → m ≤ d → way_at zs m ≡ way_at ws m
  same m less = others m (λ e. absurd (omega (arith, onward m e, less)))

  pub kept : (n : ℕ) (ks : List NetToken) → n ≤ d → AreAbove code ws n ks → AreAbove code zs n ks
  kept n ks less k = above-kept code ws zs d same n ks less k

  -- the ways to another instruction stay
  way-other : (n : ℕ) → befores more n ≡ befores ls n → (w : Way) → IsWayTo sig most code ls done ws n w
      → IsWayTo sig most code more d zs n w
  way-other n e Unknown k = e ∙ k
  way-other n e (One a) k = record {
    tokens = k.tokens;
    checked = omega (arith, k.checked, later);
    are = kept a k.tokens (omega (arith, k.checked, later)) k.are;
    only = e ∙ k.only;
    good = k.good;
  }
  way-other n e Several k = omega (arith, k, ap length e)

  -- one more leads to the target
  way-here : (n : ℕ) → befores more n ≡ befores ls n ++ reverse rs ∷ [] → (w : Way)
      → IsWayTo sig most code ls done ws n w → IsWayTo sig most code more d zs n (way_more above w)
  way-here n e Unknown k = record {
    tokens = rs;
    checked = within;
    are = kept above rs within are;
    only = e ∙ ap (λ bs. bs ++ reverse rs ∷ []) k;
    good = good;
  }
  way-here n e (One a) k =
      let two : befores more n ≡ reverse k.tokens ∷ reverse rs ∷ [] = e ∙ ap (λ bs. bs ++ reverse rs ∷ []) k.only in
      omega (arith, ap length two)
  way-here n e Several k = omega (arith, k, ap length e, length-append (befores ls n) (reverse rs ∷ []))

  -- so of all instructions
  pub ways-more : AreWays sig most code more d zs
  ways-more = record { count = count ∙ h.count; ways = λ n some few. by_target n some few target refl }
    where
      other : (n : ℕ) → 1 ≤ n → n ≤ length code → target ≢ Some n → befores (lead (reverse rs) target) n ≡ []
          → IsWayTo sig most code more d zs n (way_at zs n)
      other n some few differs none = subst (IsWayTo sig most code more d zs n) (sym (others n differs))
          (way-other n (befores-append ls (lead (reverse rs) target) n ∙ ap (λ bs. befores ls n ++ bs) none
          ∙ append-nil (befores ls n)) (way_at ws n) (h.ways n some few))

      by_target : (n : ℕ) → 1 ≤ n → n ≤ length code → (o : Option ℕ) → target ≡ o
          → IsWayTo sig most code more d zs n (way_at zs n)
      by_target n some few None e = other n some few (λ q. (let wrong : None ≡ Some n = sym e ∙ q in cc))
          (ap (λ o. befores (lead (reverse rs) o) n) e)
      by_target n some few (Some t) e = elim (cases_eq t n) [
        | inl q ↦
            let is : target ≡ Some n = e ∙ ap Some q in
            subst (IsWayTo sig most code more d zs n)
            (sym (led n is some (omega (arith, few, h.count))))
            (way-here n (befores-append ls (lead (reverse rs) target) n ∙ ap (λ bs. befores ls n ++ bs)
            (ap (λ o. befores (lead (reverse rs) o) n) e ∙ lead-here (reverse rs) t n q)) (way_at ws n)
            (h.ways n some few))
        | inr q ↦ other n some few (λ p. q (let both : Some t ≡ Some n = sym e ∙ p in cc))
            (ap (λ o. befores (lead (reverse rs) o) n) e ∙ lead-other (reverse rs) t n q)
      ]

-- the ways behind an instruction to which one leads
pub leads-one : (ls : List Lead) (n : ℕ) (i : Instr) (b : Path) → befores ls n ≡ b ∷ []
    → leads_after ls n i ≡ (ls ++ lead (b ++ i.token ∷ []) i.down) ++ lead b i.over
leads-one ls n i b e = ap (λ bs. ls ++ flat_map (λ before. leads before i) bs) e
    ∙ ap (λ ms. ls ++ ms) (append-nil (leads b i))
    ∙ sym (append_assoc ls (lead (b ++ i.token ∷ []) i.down) (lead b i.over))

-- the first way, where none is known
pub ways-first : (sig : Sig) (most : ℕ) (code : List Instr) (ws zs : List Way) (begin : Option ℕ)
    → length ws ≡ length code → ((n : ℕ) → way_at ws n ≡ Unknown) → length zs ≡ length ws
    → ((n : ℕ) → begin ≡ Some n → 1 ≤ n → n ≤ length ws → way_at zs n ≡ way_more 0 (way_at ws n))
    → ((n : ℕ) → begin ≢ Some n → way_at zs n ≡ way_at ws n) → ((t : ℕ) → begin ≡ Some t → 0 < t)
    → AreWays sig most code (lead [] begin) 0 zs
ways-first sig most code ws zs begin full none count led others onward =
    ways-more sig most code [] 0 ws zs begin 0 [] 0
    (record { count = full; ways = λ n some few. subst (IsWayTo sig most code [] 0 ws n) (sym (none n)) refl })
    count led others refl (record { right = right-none sig most; open_ones = []; opens = refl }) (omega arith)
    (omega arith) onward

-- the ways behind a right instruction
module _ (sig : Sig) (most : ℕ) (code : List Instr) (ls : List Lead) (done : ℕ) (ws : List Way) (n above : ℕ)
    (i : Instr) (h : AreWays sig most code ls done ws) (number : n ≡ suc done) (at : instr_at code n ≡ Some i)
    (way : way_at ws n ≡ One above) (led : IsLedFrom sig most code ls done ws n above)
    (path : IsGoodPath sig most (reverse led.tokens ++ i.token ∷ []))
    (bounds : (t : ℕ) → In t (targets i) → n < t) (ys zs : List Way)
    (first_count : length ys ≡ length ws)
    (first_led : (m : ℕ) → i.down ≡ Some m → 1 ≤ m → m ≤ length ws → way_at ys m ≡ way_more n (way_at ws m))
    (first_others : (m : ℕ) → i.down ≢ Some m → way_at ys m ≡ way_at ws m)
    (count : length zs ≡ length ys)
    (next_led : (m : ℕ) → i.over ≡ Some m → 1 ≤ m → m ≤ length ys → way_at zs m ≡ way_more above (way_at ys m))
    (next_others : (m : ℕ) → i.over ≢ Some m → way_at zs m ≡ way_at ys m) where
  whole : reverse (i.token ∷ led.tokens) ≡ reverse led.tokens ++ i.token ∷ []
  whole = reverse-append (i.token ∷ []) led.tokens

  own : AreAbove code ws n (i.token ∷ led.tokens)
  own = (above, i, at, refl, way, omega (arith, led.checked, number), led.are)

  down-onward : (t : ℕ) → i.down ≡ Some t → n < t
  down-onward t e = bounds t (in-left t (option_to_list i.down) (option_to_list i.over)
      (subst (λ o. In t (option_to_list o)) (sym e) (inl refl)))

  over-onward : (t : ℕ) → i.over ≡ Some t → n < t
  over-onward t e = bounds t (in-right t (option_to_list i.down) (option_to_list i.over)
      (subst (λ o. In t (option_to_list o)) (sym e) (inl refl)))

  good : IsGoodPath sig most (reverse (i.token ∷ led.tokens))
  good = subst (IsGoodPath sig most) (sym whole) path

  down-ways : AreWays sig most code (ls ++ lead (reverse (i.token ∷ led.tokens)) i.down) n ys
  down-ways = ways-more sig most code ls done ws ys i.down n (i.token ∷ led.tokens) n h first_count first_led
      first_others own good (omega (arith, number)) (omega arith) down-onward

  still : AreAbove code ys above led.tokens
  still = kept sig most code ls done ws ys i.down n (i.token ∷ led.tokens) n h first_count first_led first_others
      own good (omega (arith, number)) (omega arith) down-onward above led.tokens
      (omega (arith, led.checked, number)) led.are

  pub ways-behind : AreWays sig most code (leads_after ls n i) n zs
  ways-behind = subst (λ ms. AreWays sig most code ms n zs)
      (ap (λ b. (ls ++ lead b i.down) ++ lead (reverse led.tokens) i.over) whole
      ∙ sym (leads-one ls n i (reverse led.tokens) led.only))
      (ways-more sig most code (ls ++ lead (reverse (i.token ∷ led.tokens)) i.down) n ys zs i.over above led.tokens n
      down-ways count next_led next_others still led.good (omega arith) (omega (arith, led.checked, number))
      over-onward)

-- behind an instruction the ways up to it stay
module _ (code : List Instr) (ws ys zs : List Way) (n : ℕ) (i : Instr) (bounds : (t : ℕ) → In t (targets i) → n < t)
    (first_others : (m : ℕ) → i.down ≢ Some m → way_at ys m ≡ way_at ws m)
    (next_others : (m : ℕ) → i.over ≢ Some m → way_at zs m ≡ way_at ys m) where
  ways-still : (m : ℕ) → m ≤ n → way_at ws m ≡ way_at zs m
  ways-still m less =
      let down : i.down ≢ Some m = λ e.
      (let later = bounds m (in-left m (option_to_list i.down) (option_to_list i.over)
      (subst (λ o. In m (option_to_list o)) (sym e) (inl refl))) in omega (arith, later, less)) in
      let over : i.over ≢ Some m = λ e.
      (let later = bounds m (in-right m (option_to_list i.down) (option_to_list i.over)
      (subst (λ o. In m (option_to_list o)) (sym e) (inl refl))) in omega (arith, later, less)) in
      sym (next_others m over ∙ first_others m down)

  -- so does what is above them
  pub above-before : (m : ℕ) → m ≤ n → (ks : List NetToken) → AreAbove code zs m ks → AreAbove code ws m ks
  above-before m less ks are = above-kept code zs ws n ways-still m ks less are

  -- what is above the instruction itself, where one way leads to it
  pub above-behind : (above : ℕ) → instr_at code n ≡ Some i → way_at ws n ≡ One above → (ks : List NetToken)
      → AreAbove code zs n ks → (js : List NetToken) × AreAbove code ws above js × (ks ≡ i.token ∷ js)
  above-behind above at way ks are =
      let s = above-step code ws n ks (above-before n (omega arith) ks are) (number-within code n i at).0 in
      let both : Some s.instr ≡ Some i = sym s.held ∙ at in
      let same : s.instr ≡ i = cc in
      let ways : One s.above ≡ One above = sym s.way ∙ way in
      let from : s.above ≡ above = cc in
      (s.rest, subst (λ a. AreAbove code ws a s.rest) from s.are, s.is ∙ ap (λ (j : Instr). j.token ∷ s.rest) same)

-- ---- where the rules are met

-- the rules may accept the path where their needs are met
pub accept-met : (sig : Sig) (most : ℕ) (tests : List Cond) (rules : List ProgramRule) (ks : Path) (a : Above)
    (needs ds : List Needs) (looks : List Look) (accepts ns : List ℕ) (b : Bool) → Knows sig most a ks
    → map needs_view needs ≡ map (needs_of tests) rules
    → b ≡ meets_all (map needs_view ds) (map look_wildcard looks) ns → ds ≡ needs → looks ≡ a.looks.items → ns ≡ accepts
    → list_all (may_accept tests rules ks) accepts ≡ b
accept-met sig most tests rules ks a needs ds looks accepts ns b known same met own seen asked =
    let ws = map look_wildcard a.looks.items in
    sym (met ∙ ap (λ l. meets_all (map needs_view l) (map look_wildcard looks) ns) own
    ∙ ap (λ l. meets_all (map needs_view needs) (map look_wildcard l) ns) seen
    ∙ ap (meets_all (map needs_view needs) ws) asked ∙ ap (λ l. meets_all l ws accepts) same
    ∙ meets-all ks ws known.looks tests rules accepts)

-- ---- instructions one by one

module _ (tests : List Cond) (rules : List ProgramRule) (s : Setting) (line done : ℕ) (ls : List Lead) where
  -- the faults of the next instruction come first
  behind-split : (i : Instr) → slice_get (setting_code tests rules s) done ≡ Some i
      → faults_behind tests rules s line done ls ≡ faults_of_instr tests rules s (suc (line + done)) (suc done) ls i
      ++ code_faults s.sig.now s.most tests rules (suc (length (setting_code tests rules s))) (suc (suc (line + done)))
      (suc (suc done)) (leads_after ls (suc done) i) (drop (suc done) (setting_code tests rules s))
  behind-split i at = ap (code_faults s.sig.now s.most tests rules (suc (length (setting_code tests rules s)))
      (suc (line + done)) (suc done) ls) (drop-at (setting_code tests rules s) done i at
      ∙ ap (λ k. i ∷ drop k (setting_code tests rules s)) (add-one done))

  -- where it has none, those of the others are left
  pub behind-next : (n : ℕ) (i : Instr) → n ≡ suc done → slice_get (setting_code tests rules s) done ≡ Some i
      → faults_of_instr tests rules s (line + n) n ls i ≡ []
      → faults_behind tests rules s line n (leads_after ls n i) ≡ faults_behind tests rules s line done ls
  behind-next n i number at none =
      let same : line + n ≡ suc (line + done) = omega (arith, number) in
      let here : faults_of_instr tests rules s (suc (line + done)) (suc done) ls i ≡ [] =
      sym (ap (λ l. faults_of_instr tests rules s l n ls i) same
      ∙ ap (λ m. faults_of_instr tests rules s (suc (line + done)) m ls i) number) ∙ none in
      ap (λ m. faults_behind tests rules s line m (leads_after ls m i)) number
      ∙ ap (λ l. code_faults s.sig.now s.most tests rules (suc (length (setting_code tests rules s))) (suc l)
      (suc (suc done)) (leads_after ls (suc done) i) (drop (suc done) (setting_code tests rules s)))
      (let e : line + suc done ≡ suc (line + done) = omega arith in e)
      ∙ sym (behind-split i at ∙ ap (λ fs. fs ++ code_faults s.sig.now s.most tests rules
      (suc (length (setting_code tests rules s))) (suc (suc (line + done))) (suc (suc done))
      (leads_after ls (suc done) i) (drop (suc done) (setting_code tests rules s))) here)

  -- where it has one, that is the first
  pub behind-first : (n : ℕ) (i : Instr) (f : ProgramError) → n ≡ suc done
      → slice_get (setting_code tests rules s) done ≡ Some i
      → first_fault (faults_of_instr tests rules s (line + n) n ls i) ≡ Some f
      → first_fault (faults_behind tests rules s line done ls) ≡ Some f
  behind-first n i f number at first =
      let same : line + n ≡ suc (line + done) = omega (arith, number) in
      ap first_fault (behind-split i at)
      ∙ first_fault-before (faults_of_instr tests rules s (suc (line + done)) (suc done) ls i) _ f
      (sym (ap (λ l. first_fault (faults_of_instr tests rules s l n ls i)) same
      ∙ ap (λ m. first_fault (faults_of_instr tests rules s (suc (line + done)) m ls i)) number) ∙ first)

  -- behind the last one there is none
  pub behind-last : length (setting_code tests rules s) ≤ done → faults_behind tests rules s line done ls ≡ []
  behind-last past = ap (code_faults s.sig.now s.most tests rules (suc (length (setting_code tests rules s)))
      (suc (line + done)) (suc done) ls) (drop_of_length-le (setting_code tests rules s) past)

-- before the first one all are left
pub behind-all : (sig : Sig) (most : ℕ) (tests : List Cond) (rules : List ProgramRule) (code : List read.Instr)
    (line : ℕ) (ls : List Lead)
    → code_faults sig most tests rules (suc (length (map plain_instr code))) (suc (line + 0)) 1 ls
    (map plain_instr code) ≡ code_faults sig most tests rules (suc (length code)) (suc line) 1 ls (map plain_instr code)
behind-all sig most tests rules code line ls =
    ap (λ m. code_faults sig most tests rules (suc m) (suc (line + 0)) 1 ls (map plain_instr code))
    (length-map code plain_instr)
    ∙ ap (λ m. code_faults sig most tests rules (suc (length code)) (suc m) 1 ls (map plain_instr code))
    (let e : line + 0 ≡ line = omega arith in e)

-- an error that is passed on
pub checks-err : {U : Type 0} (xs : List ProgramError) (f : ProgramError) (r : Result U ProgramError)
    → IsErrAnd r (λ e. e ≡ f) → (f ≢ Memory → first_fault xs ≡ Some f) → Checks xs r
checks-err xs f r same h = subst (λ l. Checks l r) (append-nil xs) (checks-passed ℕ xs [] f r same h)

-- a path has few nodes
pub most-few : (format : Format) → most_nodes format < 2 ^ 64 - 1
most-few FormatOne = omega arith
most-few Two = omega arith

-- nothing is above the top, and all is known of that
pub gathered-top : (s : Setting) (ws : List Way) (a : Above) → Knows s.sig.now s.most a [] → opened a ≡ []
    → HasGathered s ws 0 a
gathered-top s ws a known none = λ ks are good.
    subst (λ js. IsGathered s.sig.now s.most a (reverse js))
    (sym (above-top (map plain_instr s.code.now) ws 0 ks are refl))
    (record { known = known; opens = ap Some (sym none) })
