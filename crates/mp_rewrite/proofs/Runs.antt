-- What a run of steps by a rule that cancels equal arguments comes to.
use Rattle.std.proofs.Common.{◌≡◌, ◌∙◌, ap, sym, refl, subst, ℕ, zero, suc, ◌+◌, ◌-◌, ◌<◌, ◌≤◌, Bool, true, false}
use Rattle.std.proofs.Common.{map, take, drop}
use Rattle.std.proofs.lemmas.List.{map-append, take-map, drop-map, take-append-drop, length-drop, take_all}
use Rattle.std.proofs.Common.{List, [], ◌∷◌, ◌++◌, length, arith, append_assoc, add-one, length-append}
use Rattle.std.specs.Prelude.{Option, Some, None, IfSome, slice_get, if◌then◌else◌, replicate}
use Rattle.std.specs.Borrow.{Bor}
use Rattle.std.specs.declared.cmp.Ordering.TheVariants.{Less, Greater}
use Rattle.std.specs.List.{remove, insert}
use Rattle.std.specs.Ordering.{is_gt, ordering_reverse}
use Rattle.mp_term.specs.Pieces.{same}
use Rattle.mp_term.specs.declared.name.Name.{Name}
use Rattle.mp_term.specs.declared.term.Term.{Term}
use Rattle.mp_term.specs.View.{tree}
use Rattle.mp_term.specs.Tree.{Tree, symbol, app, trees}
use Rattle.mp_term.specs.Order.{tree_cmp}
use Rattle.mp_term.specs.OrderLaws.{tree_cmp_total}
use Rattle.mp_term.specs.Sorting.{sorted}
use Rattle.mp_term.specs.Signature.{Sig, IsSignature, is_comm}
use Rattle.mp_term.specs.Normal.{IsNormal, in_order, collapsed}
use Rattle.mp_term.specs.NormalTest.{ascending}
use Rattle.mp_term.proofs.Sorting.{tally, AtLeast, Ascends}
use Rattle.mp_term.proofs.NormalTestLaws.{ascending-from, sorted-ascending}
use Rattle.mp_term.proofs.ListLaws.{drop-held}
use Rattle.mp_pattern.specs.Admission.{Rule}
use Rattle.mp_pattern.specs.Step.{stepped}
use Rattle.mp_rewrite.specs.Computed.{first_match, next_step, rewriting_from}
use Rattle.mp_rewrite.specs.Rewritable.{AreRewriteRules, IsRewritable}
use Rattle.mp_rewrite.specs.Cancellation.{put_terms, left_by, IsPairAt, IsBoth, IsCancelled, AreFirst}
use Rattle.mp_rewrite.specs.Run.{IsPairing, IsFirstPairing, IsRunnable, copies, Leads}
use Rattle.mp_rewrite.specs.declared.taken.Places.{Places}
use Rattle.mp_rewrite.specs.declared.cancellation.Cancellation.{Cancellation}
use Rattle.mp_rewrite.specs.declared.cancelled.Cancelled.{Cancelled}
use Rattle.mp_rewrite.proofs.CallAnswers.{after_step}
use Rattle.mp_rewrite.proofs.PutBack.{arguments-pass, ascends-from, sorted_same, tally-append}
use Rattle.mp_rewrite.proofs.Places.{not_above-itself}
use Rattle.mp_rewrite.proofs.CancellationSteps.{first-pair, pair-here, pair-step, not_more}
use Rattle.mp_rewrite.proofs.CancellationTurns.{same-terms, IsFirstCancelled, cancelled-turn, cancelled-rewritable}
use Rattle.mp_subst.proofs.TrailLaws.{get-behind}

-- ---- items at a place in a list

get-second : {X : Type 0} (xs ys : List X) (x y : X) → slice_get (xs ++ x ∷ y ∷ ys) (suc (length xs)) ≡ Some y
get-second [] ys x y = refl
get-second (z ∷ xs) ys x y = get-second xs ys x y

get-next : {X : Type 0} (xs ys : List X) (x y : X) → slice_get (xs ++ x ∷ y ∷ ys) (length xs + 1) ≡ Some y
get-next xs ys x y = ap (slice_get (xs ++ x ∷ y ∷ ys)) (add-one (length xs)) ∙ get-second xs ys x y

remove-both : {X : Type 0} (xs ys : List X) (x y : X)
    → remove (remove (xs ++ x ∷ y ∷ ys) (suc (length xs))) (length xs) ≡ xs ++ ys
remove-both [] ys x y = refl
remove-both (z ∷ xs) ys x y = ap (λ l. z ∷ l) (remove-both xs ys x y)

remove-two : {X : Type 0} (xs ys : List X) (x y : X)
    → remove (remove (xs ++ x ∷ y ∷ ys) (length xs + 1)) (length xs) ≡ xs ++ ys
remove-two xs ys x y =
    ap (λ n. remove (remove (xs ++ x ∷ y ∷ ys) n) (length xs)) (add-one (length xs)) ∙ remove-both xs ys x y

pub drop-two : (ts : List Tree) (i : ℕ) (x y : Tree) → slice_get ts i ≡ Some x → slice_get ts (i + 1) ≡ Some y
    → drop i ts ≡ x ∷ y ∷ drop (i + 2) ts
drop-two ts i x y g h =
    let two : suc (suc i) ≡ i + 2 = omega arith in
    drop-held ts i x g
    ∙ ap (λ l. x ∷ l) (drop-held ts (suc i) y (ap (slice_get ts) (sym (add-one i)) ∙ h) ∙ ap (λ n. y ∷ drop n ts) two)

pub drop-next : (ts : List Tree) (i : ℕ) (y : Tree) → slice_get ts (i + 1) ≡ Some y
    → y ∷ drop (i + 2) ts ≡ drop (i + 1) ts
drop-next ts i y h =
    let two : i + 2 ≡ suc (i + 1) = omega arith in
    ap (λ n. y ∷ drop n ts) two ∙ sym (drop-held ts (i + 1) y h)

pub one-there : (ts : List Tree) (i : ℕ) (x y : Tree) → slice_get ts i ≡ Some x → slice_get ts i ≡ Some y → x ≡ y
one-there ts i x y g h = let s : Some x ≡ Some y = sym g ∙ h in cc

-- ---- lists that ascend

at_least-without : (z x : Tree) (xs ys : List Tree) → AtLeast tree_cmp z (xs ++ x ∷ ys)
    → AtLeast tree_cmp z (xs ++ ys)
at_least-without z x [] ys h = h.1
at_least-without z x (u ∷ xs) ys h = (h.0, at_least-without z x xs ys h.1)

ascends-without : (x : Tree) (xs ys : List Tree) → Ascends tree_cmp (xs ++ x ∷ ys) → Ascends tree_cmp (xs ++ ys)
ascends-without x [] ys h = h.1
ascends-without x (u ∷ xs) ys h = (at_least-without u x xs ys h.0, ascends-without x xs ys h.1)

at_least-again : (z x : Tree) (xs ys : List Tree) → AtLeast tree_cmp z (xs ++ x ∷ ys)
    → AtLeast tree_cmp z (xs ++ x ∷ x ∷ ys)
at_least-again z x [] ys h = (h.0, h)
at_least-again z x (u ∷ xs) ys h = (h.0, at_least-again z x xs ys h.1)

ascends-again : (x : Tree) (xs ys : List Tree) → Ascends tree_cmp (xs ++ x ∷ ys)
    → Ascends tree_cmp (xs ++ x ∷ x ∷ ys)
ascends-again x [] ys h = ((not_above-itself x, h.0), h)
ascends-again x (u ∷ xs) ys h = (at_least-again u x xs ys h.0, ascends-again x xs ys h.1)

ascends-behind : (xs ys : List Tree) → Ascends tree_cmp (xs ++ ys) → Ascends tree_cmp ys
ascends-behind [] ys h = h
ascends-behind (u ∷ xs) ys h = ascends-behind xs ys h.1

-- between trees that ascend none is equal to the ones around
not-between : (a b y : Tree) → is_gt (tree_cmp a b) ≡ false → is_gt (tree_cmp b y) ≡ false → (a ≡ b → ⊥) → a ≡ y → ⊥
not-between a b y l m n e =
    let less : tree_cmp a b ≡ Less = not_more a b l n in
    let more : tree_cmp b y ≡ Greater =
    ap (tree_cmp b) (sym e) ∙ tree_cmp_total.antisymm b a ∙ ap ordering_reverse less in
    let wrong : true ≡ false = ap is_gt (sym more) ∙ m in
    never wrong
  where
    never : true ≡ false → ⊥
    never e = cc

-- where no item so far is equal to the next, none is with others behind that aren't less
apart-without : (A : List Tree) (b : Tree) (Y Z : List Tree) → Ascends tree_cmp (A ++ b ∷ Y)
    → Ascends tree_cmp (b ∷ Z)
    → ((k : ℕ) → k < length A → slice_get (A ++ b ∷ Y) k ≡ slice_get (A ++ b ∷ Y) (suc k) → ⊥)
    → (k : ℕ) → k < length A → slice_get (A ++ Z) k ≡ slice_get (A ++ Z) (suc k) → ⊥
apart-without [] b Y Z up over none k l e = omega (arith, l)
apart-without (a ∷ []) b Y [] up over none zero l e = cc
apart-without (a ∷ []) b Y (z ∷ Z) up over none zero l e =
    let s : a ≡ z = cc in
    not-between a b z up.0.0 over.0.0 (λ q. none 0 (omega arith) (ap Some q)) s
apart-without (a ∷ []) b Y Z up over none (suc k) l e = omega (arith, l)
apart-without (a ∷ c ∷ A) b Y Z up over none zero l e = none 0 (omega arith) e
apart-without (a ∷ c ∷ A) b Y Z up over none (suc k) l e =
    apart-without (c ∷ A) b Y Z up.1 over (λ j m. none (suc j) (omega (arith, m))) k (omega (arith, l)) e

-- ---- what is put in

module _ (sig : Sig) (f : ℕ) (comm : is_comm sig f ≡ true) where
  -- a list that ascends is any list of the same trees in order
  in_order-same : (xs ys : List Tree) → ((z : Tree) → tally tree_cmp z xs ≡ tally tree_cmp z ys)
      → Ascends tree_cmp ys → in_order sig f xs ≡ ys
  in_order-same xs ys same up = elim (is_comm sig f) as (λ b. b ≡ true → (if b then sorted tree_cmp xs else xs) ≡ ys) [
    | true ↦ λ q. sorted_same xs ys same ∙ sorted-ascending ys (ascending-from ys up)
    | false ↦ λ q. absurd (never q)
  ] comm
    where
      never : false ≡ true → ⊥
      never e = cc

  put-in_order : (o : Option (Bor Name)) (A M C : List Tree) (k : ℕ)
      → Ascends tree_cmp (A ++ (M ++ (copies o (suc k) ++ C)))
      → in_order sig f (put_terms o ++ (A ++ (M ++ (copies o k ++ C)))) ≡ A ++ (M ++ (copies o (suc k) ++ C))
  put-in_order None A M C k up = in_order-same (A ++ (M ++ C)) (A ++ (M ++ C)) (λ z. refl) up
  put-in_order (Some n) A M C k up =
      let c = symbol n.now in
      in_order-same (c ∷ (A ++ (M ++ (replicate k c ++ C)))) (A ++ (M ++ (c ∷ (replicate k c ++ C))))
      (λ z. omega (
        arith,
        tally-append z A (M ++ (replicate k c ++ C)),
        tally-append z A (M ++ (c ∷ (replicate k c ++ C))),
        tally-append z M (replicate k c ++ C),
        tally-append z M (c ∷ (replicate k c ++ C)),
      )) up

-- there is room for one more where there is for one
room-again : (o : Option (Bor Name)) (A M C : List Tree) (k : ℕ)
    → Ascends tree_cmp (A ++ (M ++ (copies o (suc k) ++ C)))
    → Ascends tree_cmp (A ++ (M ++ (copies o (suc (suc k)) ++ C)))
room-again None A M C k up = up
room-again (Some n) A M C k up =
    let c = symbol n.now in
    subst (Ascends tree_cmp) (append_assoc A M (c ∷ c ∷ (replicate k c ++ C)))
    (ascends-again c (A ++ M) (replicate k c ++ C)
    (subst (Ascends tree_cmp) (sym (append_assoc A M (c ∷ (replicate k c ++ C)))) up))

collapsed-two : (sig : Sig) (f : ℕ) (ts : List Tree) → 2 ≤ length ts → collapsed sig f ts ≡ app f (trees ts)
collapsed-two sig f [] l = absurd (omega (arith, l))
collapsed-two sig f (t ∷ []) l = absurd (omega (arith, l))
collapsed-two sig f (t ∷ u ∷ ts) l = refl

-- ---- the first rule

pub some-pairing : (sig : Sig) (r : Rule) (later rules : List Rule) (f : ℕ) (o : Option Cancellation)
    → IfSome o (IsPairing f r) → ((ts : List Tree) → IsNormal sig (app f (trees ts))
    → first_match sig (r ∷ later) (app f (trees ts)) ≡ first_match sig rules (app f (trees ts)))
    → IfSome o (IsFirstPairing sig rules f)
some-pairing sig r later rules f None h e = tt
some-pairing sig r later rules f (Some d) h e = record { rule = r; later = later; pairing = h; least = e }

-- ---- runs

module _ (sig : Sig) (rules : List Rule) where
  -- one step more
  leads-on : (k : ℕ) (t v u : Tree) → Leads sig rules k t v → next_step sig rules v ≡ Some (stepped u)
      → Leads sig rules (suc k) t u
  leads-on k t v u h e = λ left n.
      let more : suc k + left ≡ k + suc left = omega arith in
      let sum : suc (k + n) ≡ suc k + n = omega arith in
      ap (λ m. rewriting_from sig rules m n t) more ∙ h (suc left) n ∙ ap (after_step sig rules left (k + n) v) e
      ∙ ap (λ m. rewriting_from sig rules left m u) sum

  -- what is left to do after a run
  pub left-after : (limit turns k : ℕ) (t u : Tree) → Leads sig rules k t u → k ≤ limit - turns
      → rewriting_from sig rules (limit - turns) turns t ≡ rewriting_from sig rules (limit - (turns + k)) (turns + k) u
  left-after limit turns k t u h l =
      let all : limit - turns ≡ k + (limit - (turns + k)) = omega (arith, l) in
      let sum : k + turns ≡ turns + k = omega arith in
      ap (λ m. rewriting_from sig rules m turns t) all ∙ h (limit - (turns + k)) turns
      ∙ ap (λ m. rewriting_from sig rules (limit - (turns + k)) m u) sum

  -- and after none
  pub left-still : (limit turns k : ℕ) (t u : Tree) → Leads sig rules k t u → k ≤ 0
      → rewriting_from sig rules (limit - turns) turns t ≡ rewriting_from sig rules (limit - turns) turns u
  left-still limit turns k t u h l =
      let same : limit - turns ≡ k + (limit - turns) = omega (arith, l) in
      let none : k + turns ≡ turns = omega (arith, l) in
      ap (λ m. rewriting_from sig rules m turns t) same ∙ h (limit - turns) turns
      ∙ ap (λ m. rewriting_from sig rules (limit - turns) m u) none

-- the steps so far lead to what is kept, those that are still before, what is put in and those behind
pub record IsOn (sig : Sig) (rules : List Rule) (d : Cancellation) (t : Tree) (behind kept ahead : List Tree)
    (made : ℕ) : Type 0 where
  pub leads : Leads sig rules made t (app d.op.0 (trees (kept ++ (ahead ++ (copies d.put made ++ behind)))))
  pub rewritable : IsRewritable sig (app d.op.0 (trees (kept ++ (ahead ++ (copies d.put made ++ behind)))))
  pub room : Ascends tree_cmp (kept ++ (ahead ++ (copies d.put (suc made) ++ behind)))
  pub apart : (k : ℕ) → k < length kept → slice_get (kept ++ (ahead ++ (copies d.put made ++ behind))) k
      ≡ slice_get (kept ++ (ahead ++ (copies d.put made ++ behind))) (suc k) → ⊥

module _ (sig : Sig) (rules : List Rule) (d : Cancellation) where
  -- an argument that isn't equal to the next is kept
  pub on-kept : (t : Tree) (behind kept ahead : List Tree) (made : ℕ) (x y : Tree) (b : Bool)
      → b ≡ same tree_cmp x y → b ≡ false → IsOn sig rules d t behind kept (x ∷ y ∷ ahead) made
      → IsOn sig rules d t behind (kept ++ x ∷ []) (y ∷ ahead) made
  on-kept t behind kept ahead made x y b q f h =
      let Z = ahead ++ (copies d.put made ++ behind) in
      let e : kept ++ (x ∷ y ∷ Z) ≡ (kept ++ x ∷ []) ++ (y ∷ Z) = sym (append_assoc kept (x ∷ []) (y ∷ Z)) in
      let n : length (kept ++ x ∷ []) ≡ length kept + 1 = length-append kept (x ∷ []) in
      record {
        leads = subst (λ l. Leads sig rules made t (app d.op.0 (trees l))) e h.leads;
        rewritable = subst (λ l. IsRewritable sig (app d.op.0 (trees l))) e h.rewritable;
        room = subst (Ascends tree_cmp)
            (sym (append_assoc kept (x ∷ []) (y ∷ (ahead ++ (copies d.put (suc made) ++ behind))))) h.room;
        apart = subst (λ l. (k : ℕ) → k < length (kept ++ x ∷ []) → slice_get l k ≡ slice_get l (suc k) → ⊥) e
            (λ k l. pair-step (kept ++ (x ∷ y ∷ Z)) (length kept) x y b (get-behind kept (y ∷ Z) x)
            (get-next kept Z x y) q f h.apart k (omega (arith, l, n)));
      }

  module _ (signature : IsSignature sig) (sound : AreRewriteRules sig rules)
      (first : IsFirstPairing sig rules d.op.0 d) (comm : is_comm sig d.op.0 ≡ true) (t : Tree)
      (behind kept ahead : List Tree) (made : ℕ) (x y : Tree) (b : Bool) (q : b ≡ same tree_cmp x y) (e : b ≡ true)
      (two : 2 ≤ length ahead + length behind) (h : IsOn sig rules d t behind kept (x ∷ y ∷ ahead) made) where
    abbrev others : List Tree
    others = ahead ++ (copies d.put made ++ behind)

    abbrev ts : List Tree
    ts = kept ++ (x ∷ y ∷ others)

    abbrev us : List Tree
    us = kept ++ (ahead ++ (copies d.put (suc made) ++ behind))

    abbrev places : Places
    places = record { first = length kept; second = Some (length kept + 1) }

    abbrev here : Cancelled
    here = record { cancellation = d; places = places }

    up : Ascends tree_cmp ts
    up = ascends-from ts ((arguments-pass sig d.op.0 ts h.rewritable.normal).1 comm)

    enough : 2 ≤ length others
    enough = omega (
      arith,
      two,
      length-append ahead (copies d.put made ++ behind),
      length-append (copies d.put made) behind,
    )

    all : length ts ≡ length kept + (length others + 2)
    all = omega (arith, length-append kept (x ∷ y ∷ others))

    pair : IsPairAt ts (length kept)
    pair = pair-here ts (length kept) x y b (get-behind kept (y ∷ others) x) (get-next kept others x y) q e h.apart

    both : IsBoth (length kept) (length kept + 1) places
    both = record { less = λ l. refl; more = λ m. absurd (omega (arith, m)) }

    taken : AreFirst sig d ts places
    taken = first-pair sig d ts first.pairing.pair up (length kept) pair places both
        (λ p l. omega (arith, l, all, enough))

    cancelled : IsCancelled sig first.rule (app d.op.0 (trees ts)) here
    cancelled = record { ts = ts; is = refl; comm = comm; cancels = first.pairing.cancels; first = taken }

    is-first : IsFirstCancelled sig rules (app d.op.0 (trees ts)) here
    is-first = (first.rule, first.later, cancelled, first.least ts h.rewritable.normal)

    less : Ascends tree_cmp us
    less = ascends-without y kept (ahead ++ (copies d.put (suc made) ++ behind))
        (ascends-without x kept (y ∷ (ahead ++ (copies d.put (suc made) ++ behind))) h.room)

    left-is : left_by places ts ≡ kept ++ others
    left-is = remove-two kept others x y

    still : 2 ≤ length us
    still = omega (
      arith,
      two,
      length-append kept (ahead ++ (copies d.put (suc made) ++ behind)),
      length-append ahead (copies d.put (suc made) ++ behind),
      length-append (copies d.put (suc made)) behind,
    )

    comes-to : (ls : List Tree) → app d.op.0 (trees ts) ≡ app d.op.0 (trees ls) → app d.op.0 (trees us)
        ≡ collapsed sig d.op.0 (in_order sig d.op.0 (put_terms d.put ++ left_by places ls))
    comes-to ls k =
        let same : ts ≡ ls = same-terms (app d.op.0 (trees ts)) d.op.0 d.op.0 ts ls refl k in
        sym (collapsed-two sig d.op.0 us still)
        ∙ ap (collapsed sig d.op.0) (sym (put-in_order sig d.op.0 comm d.put kept ahead behind made less))
        ∙ ap (λ l. collapsed sig d.op.0 (in_order sig d.op.0 (put_terms d.put ++ l))) (sym left-is)
        ∙ ap (λ l. collapsed sig d.op.0 (in_order sig d.op.0 (put_terms d.put ++ left_by places l))) same

    -- equal arguments are taken out
    pub on-step : IsOn sig rules d t behind kept ahead (suc made)
    on-step = record {
      leads = leads-on sig rules made t (app d.op.0 (trees ts)) (app d.op.0 (trees us)) h.leads
          (cancelled-turn sig rules (app d.op.0 (trees ts)) h.rewritable here is-first (app d.op.0 (trees us))
          comes-to);
      rewritable = cancelled-rewritable sig rules (app d.op.0 (trees ts)) h.rewritable here is-first
          (app d.op.0 (trees us)) comes-to signature sound;
      room = room-again d.put kept ahead behind made less;
      apart = apart-without kept x (y ∷ others) (ahead ++ (copies d.put (suc made) ++ behind)) up
          (ascends-without y (x ∷ []) (ahead ++ (copies d.put (suc made) ++ behind))
          (ascends-behind kept (x ∷ y ∷ (ahead ++ (copies d.put (suc made) ++ behind))) h.room))
          h.apart;
    }

-- ---- where a pass begins and ends

module _ (sig : Sig) (rules : List Rule) (d : Cancellation) (f k : ℕ) (ts : List Tree) (xs before behind : List Term)
    (t : Tree) (is : t ≡ app f (trees ts)) (same : map tree xs ≡ ts) (front : before ≡ take k xs)
    (back : behind ≡ drop k xs) (first : IsFirstPairing sig rules f d) where
  joined-is : map tree before ++ map tree behind ≡ ts
  joined-is = sym (map-append tree before behind)
      ∙ ap (map tree) (ap (λ l. l ++ behind) front ∙ ap (λ l. take k xs ++ l) back ∙ take-append-drop k xs) ∙ same

  -- the arguments before and behind are those of the term
  pub whole-is : app d.op.0 (trees (map tree before ++ map tree behind)) ≡ t
  whole-is = ap (λ l. app d.op.0 (trees l)) joined-is ∙ ap (λ g. app g (trees ts)) first.pairing.op ∙ sym is

  room-for : (o : Option (Bor Name)) → Ascends tree_cmp ts
      → IfSome o (λ n. ascending (insert ts k (symbol n.now)) ≡ true)
      → Ascends tree_cmp (take k ts ++ (copies o 1 ++ drop k ts))
  room-for None ascends a = subst (Ascends tree_cmp) (sym (take-append-drop k ts)) ascends
  room-for (Some n) ascends a = ascends-from (insert ts k (symbol n.now)) a

  pub runnable : IsRewritable sig t → is_comm sig f ≡ true
      → IfSome d.put (λ n. ascending (insert ts k (symbol n.now)) ≡ true)
      → IsRunnable sig rules d (map tree before) (map tree behind)
  runnable rewritable comm a =
      let front_is : take k ts ≡ map tree before =
      ap (take k) (sym same) ∙ take-map tree k xs ∙ ap (map tree) (sym front) in
      let back_is : drop k ts ≡ map tree behind =
      ap (drop k) (sym same) ∙ drop-map tree k xs ∙ ap (map tree) (sym back) in
      let up : Ascends tree_cmp ts =
      ascends-from ts ((arguments-pass sig f ts (subst (IsNormal sig) is rewritable.normal)).1 comm) in
      record {
        first = subst (λ g. IsFirstPairing sig rules g d) (sym first.pairing.op) first;
        comm = subst (λ g. is_comm sig g ≡ true) (sym first.pairing.op) comm;
        rewritable = subst (IsRewritable sig) (sym whole-is) rewritable;
        room = subst (λ l. Ascends tree_cmp (map tree before ++ (copies d.put 1 ++ l))) back_is
            (subst (λ l. Ascends tree_cmp (l ++ (copies d.put 1 ++ drop k ts))) front_is (room-for d.put up a));
      }

-- what is kept, those that are left, what is put in and those behind, put together
pub together : (kept one two three : List Tree) (i k : ℕ) (o : Option (Bor Name)) (xs behind : List Term)
    → one ≡ kept ++ map tree (take (length xs - i) (drop i xs)) → two ≡ one ++ copies o k
    → three ≡ two ++ map tree behind
    → kept ++ (drop i (map tree xs) ++ (copies o k ++ map tree behind)) ≡ three
together kept one two three i k o xs behind a b c =
    let M = map tree (drop i xs) in
    let B = map tree behind in
    let whole : take (length xs - i) (drop i xs) ≡ drop i xs =
    take_all (length xs - i) (drop i xs) (omega (arith, length-drop i xs)) in
    ap (λ l. kept ++ (l ++ (copies o k ++ B))) (drop-map tree i xs)
    ∙ sym (append_assoc kept M (copies o k ++ B)) ∙ sym (append_assoc (kept ++ M) (copies o k) B)
    ∙ ap (λ l. (l ++ copies o k) ++ B) (ap (λ l. kept ++ map tree l) (sym whole) ∙ sym a)
    ∙ ap (λ l. l ++ B) (sym b) ∙ sym c
