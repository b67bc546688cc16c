-- States that are added behind the others leave each where it leads.
use Rattle.std.proofs.Common.{◌≡◌, ℕ, zero, suc, ◌+◌, ◌*◌, ◌<◌, ◌≤◌, List, [], ◌∷◌, ◌++◌, refl, ap}
use Rattle.std.proofs.Common.{sym, ◌∙◌}
use Rattle.std.proofs.Common.{◌⊎◌, inl, inr, subst, map, take, length, length-append, get_or, arith}
use Rattle.std.specs.Prelude.{Option, Some, None, slice_get, option_map}
use Rattle.std.specs.List.{AllByRecursion, filter_map}
use Rattle.std.proofs.lemmas.List.{map-append, length-map, take_all}
use Rattle.mp_term.proofs.ListLaws.{all-append, all-also, slice_get-pushed, all-get}
use Rattle.std.proofs.lemmas.Option.{slice_get_within, slice_get-get_or, slice_get-map}
use Rattle.std.specs.declared.vec.Vec.{Vec}
use Rattle.mp_net.specs.Net.{Mark, Open, below, behind, going, Turn, IsAt, Leads, AllLead}
use Rattle.mp_net.specs.View.{mark_of, numbered, turn_of}
use Rattle.mp_net.specs.Items.{opens, states, listed}
use Rattle.mp_net.specs.Short.{AreShort}
use Rattle.mp_net.specs.Entered.{led, unless_empty, number_of}
use Rattle.mp_net.specs.Turned.{below_each, AreAscending, HaveHeads, IsTurn}
use Rattle.mp_net.specs.NetOf.{ended, accepted, IsState, IsNetOf}
use Rattle.mp_net.specs.declared.mark.Mark.{Mark as Held}
use Rattle.mp_net.specs.declared.item.Item.{Item}
use Rattle.mp_net.specs.declared.state.State.{State}
use Rattle.mp_net.specs.declared.turn.Turn.{Turn as Led}
use Rattle.mp_net.specs.declared.build.Net.{Net}
use Rattle.mp_net.proofs.MarkLaws.{edge-place, none-asked}
use Rattle.mp_net.proofs.TurnLaws.{states-listed}
use Rattle.mp_net.proofs.ShortLaws.{all_short-more, short-led}
use Rattle.mp_net.specs.declared.limits.TheConstants.{MAX_STATES}
use Rattle.mp_pattern.proofs.ItemLaws.{slice_get-found}

-- and what stands behind it
pub get-behind : {X : Type 0} (xs ys : List X) (i : ℕ) → slice_get (xs ++ ys) (length xs + i) ≡ slice_get ys i
get-behind [] ys i = ap (slice_get ys) (zero-add i)
  where
    zero-add : (i : ℕ) → 0 + i ≡ i
    zero-add i = omega arith
get-behind (x ∷ xs) ys i = ap (slice_get (x ∷ (xs ++ ys))) (suc-add (length xs) i) ∙ get-behind xs ys i
  where
    suc-add : (a b : ℕ) → suc a + b ≡ suc (a + b)
    suc-add a b = omega arith

-- a state leads on where more are added
pub leads-more : (rules more : List (List Open)) (os : List Open) (t : Turn) → Leads rules os t
    → Leads (rules ++ more) os t
leads-more rules more os t l = record {
  asked = l.asked;
  down = λ h q e. slice_get-found rules more q (going (below h) os) (l.down h q e);
  over = at_other t.other l.over;
}
  where
    at_other : (o : Option ℕ) → IsAt rules o (going behind os) → IsAt (rules ++ more) o (going behind os)
    at_other None h = h
    at_other (Some q) h = slice_get-found rules more q (going behind os) h

-- one more state leads on
pub all_lead-more : (rules more : List (List Open)) (turns : List Turn) (os : List Open) (t : Turn)
    → length turns < length rules → AllLead rules turns → slice_get rules (length turns) ≡ Some os
    → Leads (rules ++ more) os t → AllLead (rules ++ more) (turns ++ t ∷ [])
all_lead-more rules more turns os t few all here l = λ q u vs e f. by_place q u vs f (slice_get-pushed turns t u q e)
  where
    by_place : (q : ℕ) (u : Turn) (vs : List Open) → slice_get (rules ++ more) q ≡ Some vs
        → (slice_get turns q ≡ Some u) ⊎ ((q ≡ length turns) × (t ≡ u)) → Leads (rules ++ more) vs u
    by_place q u vs f (inl h) =
        let w = slice_get_within turns q u h in
        let v : slice_get rules q ≡ Some (get_or rules q []) = slice_get-get_or rules q [] (omega (arith, w, few)) in
        let y : Some (get_or rules q []) ≡ Some vs = sym (slice_get-found rules more q (get_or rules q []) v) ∙ f in
        let z : get_or rules q [] ≡ vs = cc in
        subst (λ k. Leads (rules ++ more) k u) z
        (leads-more rules more (get_or rules q []) u (all q u (get_or rules q []) h v))
    by_place q u vs f (inr h) =
        let x : slice_get (rules ++ more) q ≡ Some os =
        ap (slice_get (rules ++ more)) h.0 ∙ slice_get-found rules more (length turns) os here in
        let y : Some os ≡ Some vs = sym x ∙ f in
        let z : os ≡ vs = cc in
        subst (λ k. Leads (rules ++ more) k u) z (subst (Leads (rules ++ more) os) h.1 l)

-- the state of what a turn leads to
pub state-leads : (rules : List (List Open)) (os : List Open) (hs : List Held) (ms : List (List Mark)) (is : List Item)
    → HaveHeads os hs → opens ms is ≡ going behind os
    → Leads (rules ++ (below_each os (map mark_of hs) ++ map (opens ms) (unless_empty is))) os
    (record { edges = numbered (length rules) (map mark_of hs); other = number_of (length rules + length hs) is })
state-leads rules os hs ms is have over = record {
  asked = λ h e. none-asked mark_of os hs (length rules) h have e;
  down = λ h q e.
      let r = edge-place (map mark_of hs) (length rules) q h e in
      let there : slice_get (below_each os (map mark_of hs)) r.0 ≡ Some (going (below h) os) =
      slice_get-map (λ g. going (below g) os) (map mark_of hs) r.0 ∙ ap (option_map (λ g. going (below g) os)) r.2 in
      ap (slice_get (rules ++ (below_each os (map mark_of hs) ++ map (opens ms) (unless_empty is)))) r.1
      ∙ get-behind rules (below_each os (map mark_of hs) ++ map (opens ms) (unless_empty is)) r.0
      ∙ slice_get-found (below_each os (map mark_of hs)) (map (opens ms) (unless_empty is)) r.0 (going (below h) os)
      there;
  over = by_items is over;
}
  where
    count : (n : ℕ) → n + 0 ≡ n
    count n = omega arith

    by_items : (is : List Item) → opens ms is ≡ going behind os
        → IsAt (rules ++ (below_each os (map mark_of hs) ++ map (opens ms) (unless_empty is)))
        (number_of (length rules + length hs) is) (going behind os)
    by_items [] e = sym e
    by_items (i ∷ is) e =
        let bs = below_each os (map mark_of hs) in
        let n : length rules + length hs ≡ length rules + (length bs + 0) =
        omega (arith, length-map (map mark_of hs) (λ g. going (below g) os), length-map hs mark_of) in
        ap (slice_get (rules ++ (bs ++ opens ms (i ∷ is) ∷ []))) n
        ∙ get-behind rules (bs ++ opens ms (i ∷ is) ∷ []) (length bs + 0)
        ∙ get-behind bs (opens ms (i ∷ is) ∷ []) 0
        ∙ ap Some e

-- the rules of all states with those that a turn leads to
grown : {Z : Type 0} (ms : List (List Mark)) (old new : List (Vec Item Z)) (t : Led) (os : List Open)
    → listed new ≡ listed old ++ led t → states ms t.below.items ≡ below_each os (map mark_of t.heads.items)
    → states ms new
    ≡ states ms old ++ (below_each os (map mark_of t.heads.items) ++ map (opens ms) (unless_empty t.behind.items))
grown ms old new t os e b =
    let last = map (opens ms) (unless_empty t.behind.items) in
    states-listed ms new
    ∙ ap (map (opens ms)) e
    ∙ map-append (opens ms) (listed old) (led t)
    ∙ ap (λ us. map (opens ms) (listed old) ++ us)
    (map-append (opens ms) (listed t.below.items) (unless_empty t.behind.items))
    ∙ ap (λ us. map (opens ms) (listed old) ++ (us ++ last)) (sym (states-listed ms t.below.items) ∙ b)
    ∙ ap (λ us. us ++ (below_each os (map mark_of t.heads.items) ++ last)) (sym (states-listed ms old))

-- one list more at the end of those from the front
take-behind : {X : Type 0} (xs ys : List X) (k : ℕ) (x : X) → slice_get xs k ≡ Some x
    → take (suc k) (xs ++ ys) ≡ take k xs ++ x ∷ []
take-behind [] ys k x e = cc
take-behind (z ∷ xs) ys zero x e = let p : Some z ≡ Some x = e in let q : z ≡ x = cc in ap (λ u. u ∷ []) q
take-behind (z ∷ xs) ys (suc k) x e = ap (λ us. z ∷ us) (take-behind xs ys k x e)

-- what holds while a net is built: the finished states lead on, and accept the rules that ask nothing more
pub record Built {Z : Type 0} (ms : List (List Mark)) (os : List Open) (rules : List (Vec Item Z)) (ss : List State)
    : Type 0 where
  pub few : length rules ≤ MAX_STATES
  pub behind : length ss ≤ length rules
  pub lead : AllLead (states ms rules) (map turn_of ss)
  pub start : slice_get (states ms rules) 0 ≡ Some os
  pub accepted : map accepted ss ≡ map (filter_map ended) (take (length ss) (states ms rules))
  pub short : AllByRecursion (AreShort (MAX_STATES * suc (length ss))) (states ms rules)
  pub states : AllByRecursion IsState ss

pub built-none : {Z : Type 0} (ms : List (List Mark)) (v : Vec Item Z) → AreShort MAX_STATES (opens ms v.items)
    → Built ms (opens ms v.items) (v ∷ []) []
built-none ms v short = record {
  few = omega arith;
  behind = omega arith;
  lead = λ q t os e f. cc;
  start = refl;
  accepted = refl;
  states = tt;
  short = (short, tt);
}

-- one more state is finished
pub built-more : {Z : Type 0} (ms : List (List Mark)) (start : List Open) (rules new : List (Vec Item Z))
    (ss : List State)
    (s : State) (t : Led) (os : List Open) → Built ms start rules ss → length ss < length rules
    → slice_get (states ms rules) (length ss) ≡ Some os → IsTurn ms os t → length rules + length (led t) ≤ MAX_STATES
    → listed new ≡ listed rules ++ led t → s.heads.items ≡ t.heads.items → s.first ≡ length rules
    → s.other ≡ number_of (length rules + length t.below.items) t.behind.items → accepted s ≡ filter_map ended os
    → Built ms start new (ss ++ s ∷ [])
built-more ms start rules new ss s t os built within here turn room e heads first other acc =
    let hs = t.heads.items in
    let old = states ms rules in
    let more = below_each os (map mark_of hs) ++ map (opens ms) (unless_empty t.behind.items) in
    let g : states ms new ≡ old ++ more = grown ms rules new t os e turn.below in
    let n : length old ≡ length rules = length-map rules (λ v. opens ms v.items) in
    let m : length (states ms t.below.items) ≡ length t.below.items =
    length-map t.below.items (λ v. opens ms v.items) in
    let b : length (below_each os (map mark_of hs)) ≡ length (map mark_of hs) =
    length-map (map mark_of hs) (λ h. going (below h) os) in
    let c : length (map mark_of hs) ≡ length hs = length-map hs mark_of in
    let d : length (states ms t.below.items) ≡ length (below_each os (map mark_of hs)) = ap length turn.below in
    let count : length t.below.items ≡ length hs = omega arith in
    let place : length rules + length t.below.items ≡ length old + length hs = omega arith in
    let led_count : length (led t) ≡ length (listed t.below.items) + length (unless_empty t.behind.items) =
    length-append (listed t.below.items) (unless_empty t.behind.items) in
    let list_count : length (listed t.below.items) ≡ length t.below.items = length-map t.below.items (λ v. v.items) in
    let new_count : length (listed new) ≡ length new = length-map new (λ v. v.items) in
    let old_count : length (listed rules) ≡ length rules = length-map rules (λ v. v.items) in
    let all_count : length (listed new) ≡ length (listed rules) + length (led t) =
    ap length e ∙ length-append (listed rules) (led t) in
    let push_count : length (ss ++ s ∷ []) ≡ suc (length ss) =
    let p : length (ss ++ s ∷ []) ≡ length ss + 1 = length-append ss (s ∷ []) in omega arith in
    let turned : turn_of s
    ≡ record {
      edges = numbered (length old) (map mark_of hs);
      other = number_of (length old + length hs) t.behind.items;
    } =
    ap (λ k. record { edges = numbered k (map mark_of s.heads.items); other = s.other }) (first ∙ sym n)
    ∙ ap (λ l. record { edges = numbered (length old) (map mark_of l); other = s.other }) heads
    ∙ ap (λ o. record { edges = numbered (length old) (map mark_of hs); other = o })
    (other ∙ ap (λ k. number_of k t.behind.items) place) in
    let leads : Leads (old ++ more) os (turn_of s) =
    subst (Leads (old ++ more) os) (sym turned) (state-leads old os hs ms t.behind.items turn.heads turn.behind) in
    let f : length (map turn_of ss) ≡ length ss = length-map ss turn_of in
    record {
      few = omega arith;
      behind = omega arith;
      lead = subst (λ rs. AllLead rs (map turn_of (ss ++ s ∷ []))) (sym g)
          (subst (AllLead (old ++ more)) (sym (map-append turn_of ss (s ∷ [])))
          (all_lead-more old more (map turn_of ss) os (turn_of s) (omega arith) built.lead
          (ap (slice_get old) f ∙ here) leads));
      start = ap (λ rs. slice_get rs 0) g ∙ slice_get-found old more 0 start built.start;
      accepted =
          map-append accepted ss (s ∷ [])
          ∙ ap (λ us. us ++ accepted s ∷ []) built.accepted
          ∙ ap (λ u. map (filter_map ended) (take (length ss) old) ++ u ∷ []) acc
          ∙ sym (map-append (filter_map ended) (take (length ss) old) (os ∷ []))
          ∙ ap (map (filter_map ended))
          (sym (take-behind old more (length ss) os here)
          ∙ ap (take (suc (length ss))) (sym g)
          ∙ ap (λ k. take k (states ms new)) (sym push_count));
      states = all-append IsState ss (s ∷ []) built.states (
        record {
          ascending = subst AreAscending (sym heads) turn.ascending;
          few = let h : length s.heads.items ≡ length hs = ap length heads in omega arith;
        },
        tt,
      );
      short =
          let n = MAX_STATES * suc (length ss) in
          let k = MAX_STATES * suc (length (ss ++ s ∷ [])) in
          let longer : n ≤ k = omega arith in
          let next : n + MAX_STATES ≤ k = omega arith in
          subst (AllByRecursion (AreShort k)) (sym g)
          (all-append (AreShort k) old more
          (all-also (AreShort n) (AreShort k) (all_short-more n k longer) old built.short)
          (all-also (AreShort (n + MAX_STATES)) (AreShort k) (all_short-more (n + MAX_STATES) k next) more
          (short-led n ms os hs t.behind.items (all-get (AreShort n) old (length ss) os built.short here) turn.asked
          turn.behind)));
    }

-- all states are finished
pub built-all : {Z : Type 0} (ms : List (List Mark)) (os : List Open) (rules : List (Vec Item Z)) (n : Net)
    → Built ms os rules n.states.items → length rules ≤ length n.states.items → IsNetOf os n
built-all ms os rules n built all =
    let k : length (states ms rules) ≡ length rules = length-map rules (λ v. opens ms v.items) in
    let f : length (map turn_of n.states.items) ≡ length n.states.items = length-map n.states.items turn_of in
    let b = built.behind in
    record {
      rules = states ms rules;
      net = record { all = omega arith; lead = built.lead };
      start = built.start;
      accepted = built.accepted
          ∙ ap (map (filter_map ended)) (take_all (length n.states.items) (states ms rules) (omega arith));
      few = let c = built.few in omega arith;
      states = built.states;
    }

-- the rules of a state stand at its place
pub rules-at : {Z : Type 0} (ms : List (List Mark)) (vs : List (Vec Item Z)) (k : ℕ) (v : Vec Item Z) → k < length vs
    → v ≡ get_or vs k v → slice_get (states ms vs) k ≡ Some (opens ms v.items)
rules-at ms [] k v h e = absurd (omega arith)
rules-at ms (u ∷ vs) zero v h e = ap (λ w. Some (opens ms w.items)) (sym e)
rules-at ms (u ∷ vs) (suc k) v h e = rules-at ms vs k v (omega arith) e
