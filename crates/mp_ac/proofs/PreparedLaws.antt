-- What prepared patterns keep as others are added, and of what one is made.
use Rattle.std.proofs.Common.{◌≡◌, ◌+◌, ◌<◌, ◌≤◌, ℕ, zero, suc, List, [], ◌∷◌, ◌++◌, map, take, drop, length, get_or}
use Rattle.std.proofs.Common.{refl, ap, sym, subst, ◌∙◌, arith, inl, inr, true, false}
use Rattle.std.specs.Prelude.{◌-◌, Option, Some, None, IsSome, not, option_and_then, option_map, slice_get}
use Rattle.std.specs.List.{AllByRecursion}
use Rattle.std.proofs.Math.Seq.{drop-append_seam}
use Rattle.std.proofs.lemmas.Bool.{not-false}
use Rattle.std.proofs.lemmas.List.{append_assoc, map-append, length-append, length-drop}
use Rattle.std.proofs.lemmas.List.{length-take-le, take_all, drop-map}
use Rattle.std.specs.Ordering.{is_eq}
use Rattle.std.specs.Cmp.{Equal-is}
use Rattle.mp_term.specs.Listing.{In}
use Rattle.mp_term.specs.Signature.{Sig}
use Rattle.mp_term.proofs.ListLaws.{all-split, drop-item}
use Rattle.mp_term.proofs.SearchLaws.{in-right}
use Rattle.mp_pattern.specs.Order.{pattern_cmp}
use Rattle.mp_pattern.specs.PatternLists.{pattern_list-patterns}
use Rattle.mp_pattern.specs.PatternOrderLaws.{pattern_same}
use Rattle.mp_pattern.specs.PatternTree.{Pattern, app_pattern, pattern_list, patterns}
use Rattle.mp_pattern.specs.Value.{same_name}
use Rattle.mp_pattern.specs.Variables.{Use, uses, all_uses, variables}
use Rattle.mp_pattern.specs.View.{pattern_tree}
use Rattle.mp_pattern.specs.declared.pattern.Pattern as declared
use Rattle.mp_pattern.proofs.ItemLaws.{slice_get-found, slice_get-second}
use Rattle.mp_pattern.proofs.NameLaws.{same_name-is}
use Rattle.mp_theory.proofs.FirstItems.{in-firsts_after}
use Rattle.mp_theory.proofs.FirstsLaws.{from_in-firsts_after}
use Rattle.mp_ac.specs.CommPlan.{IsCommPlanOf}
use Rattle.mp_ac.specs.CommPlans.{AreAdded, AreLeads, AreTails, IsLast, IsLead, IsLed, IsPrepared, child_at}
use Rattle.mp_ac.specs.TakesOne.{takes_one}
use Rattle.mp_ac.specs.declared.comm_plan.CommPlan.{CommPlan}
use Rattle.mp_ac.specs.declared.comm_plans.CommPlans.{CommPlans}
use Rattle.mp_ac.specs.declared.comm_plans.Lead.{Lead}
use Rattle.mp_ac.specs.declared.comm_plans.Prepared.{Prepared}
use Rattle.mp_ac.proofs.Parts.{taken-more}

-- patterns that compare as equal are the same tree
pub equal-tree : (p q : declared.Pattern) → is_eq (pattern_cmp (pattern_tree p) (pattern_tree q)) ≡ true
    → pattern_tree p ≡ pattern_tree q
equal-tree p q e = pattern_same (pattern_tree p) (pattern_tree q)
    ((Equal-is (pattern_cmp (pattern_tree p) (pattern_tree q))).0 e)

pub not_differ-tree : (p q : declared.Pattern) → not (is_eq (pattern_cmp (pattern_tree p) (pattern_tree q))) ≡ false
    → pattern_tree p ≡ pattern_tree q
not_differ-tree p q e = equal-tree p q (not-false (is_eq (pattern_cmp (pattern_tree p) (pattern_tree q))) e)

-- two lists from a place on are the same where the items there are and what is behind them
pub same-from : (xs ys : List declared.Pattern) (i : ℕ) (x y : declared.Pattern) → i < length xs → i < length ys
    → x ≡ get_or xs i x → y ≡ get_or ys i y → pattern_tree x ≡ pattern_tree y
    → map pattern_tree (drop (i + 1) xs) ≡ map pattern_tree (drop (i + 1) ys)
    → map pattern_tree (drop i xs) ≡ map pattern_tree (drop i ys)
same-from xs ys i x y few less first second same behind =
    ap (map pattern_tree) (drop-item xs i x few first)
    ∙ (λ j. same j ∷ behind j)
    ∙ sym (ap (map pattern_tree) (drop-item ys i y less second))

-- a child that is found among some is found among more
found-more : (cs ds : List declared.Pattern) (n : ℕ) (q : Pattern) → option_map pattern_tree (slice_get cs n) ≡ Some q
    → option_map pattern_tree (slice_get (cs ++ ds) n) ≡ Some q
found-more [] ds n q e = cc
found-more (c ∷ cs) ds zero q e = e
found-more (c ∷ cs) ds (suc n) q e = found-more cs ds n q e

pub child_at-more : (x y : CommPlans) (cs : List declared.Pattern) (n : ℕ) (q : Pattern)
    → y.children.items ≡ x.children.items ++ cs → child_at x n ≡ Some q → child_at y n ≡ Some q
child_at-more x y cs n q e found =
    ap (λ l. option_map pattern_tree (slice_get l n)) e ∙ found-more x.children.items cs n q found

-- the next child, where there is one, is the same of more children
next-more : (x y : CommPlans) (cs : List declared.Pattern) (next : Option ℕ)
    → ((m : ℕ) → next ≡ Some m → IsSome (child_at x m)) → y.children.items ≡ x.children.items ++ cs
    → option_and_then (child_at x) next ≡ option_and_then (child_at y) next
next-more x y cs None held e = refl
next-more x y cs (Some m) held e = by_found (child_at x m) refl (held m refl)
  where
    by_found : (o : Option Pattern) → child_at x m ≡ o → IsSome o → child_at x m ≡ child_at y m
    by_found None found some = cc
    by_found (Some q) found some = found ∙ sym (child_at-more x y cs m q e found)

next_held-more : (x y : CommPlans) (cs : List declared.Pattern) (m : ℕ) → y.children.items ≡ x.children.items ++ cs
    → IsSome (child_at x m) → IsSome (child_at y m)
next_held-more x y cs m e some = by_found (child_at x m) refl some
  where
    by_found : (o : Option Pattern) → child_at x m ≡ o → IsSome o → IsSome (child_at y m)
    by_found None found h = cc
    by_found (Some q) found h = subst IsSome (sym (child_at-more x y cs m q e found)) refl

-- leading children stand by their numbers where there are more children and leads
pub lead-more : (x y : CommPlans) (cs : List declared.Pattern) (ls : List Lead) (n : ℕ) (p : Pattern)
    (q : Option Pattern) → y.children.items ≡ x.children.items ++ cs → y.leads.items ≡ x.leads.items ++ ls
    → IsLead x n p q → IsLead y n p q
lead-more x y cs ls n p q children leads h = record {
  lead = h.lead;
  held = ap (λ l. slice_get l n) leads ∙ slice_get-found x.leads.items ls n h.lead h.held;
  child = child_at-more x y cs h.lead.child p children h.child;
  next = h.next ∙ next-more x y cs h.lead.next h.next_held children;
  next_held = λ m is. next_held-more x y cs m children (h.next_held m is);
}

pub leads-more : (x y : CommPlans) (cs : List declared.Pattern) (ls : List Lead) (ns : List ℕ) (ps : List Pattern)
    → y.children.items ≡ x.children.items ++ cs → y.leads.items ≡ x.leads.items ++ ls → AreLeads x ns ps
    → AreLeads y ns ps
leads-more x y cs ls [] [] children leads h = tt
leads-more x y cs ls [] (p ∷ ps) children leads h = absurd h
leads-more x y cs ls (n ∷ ns) [] children leads h = absurd h
leads-more x y cs ls (n ∷ ns) (p ∷ ps) children leads h = (
  lead-more x y cs ls n p (slice_get ps 0) children leads h.0,
  leads-more x y cs ls ns ps children leads h.1,
)

-- there are as many numbers as leading children
pub leads-length : (x : CommPlans) (ns : List ℕ) (ps : List Pattern) → AreLeads x ns ps → length ns ≡ length ps
leads-length x [] [] h = refl
leads-length x [] (p ∷ ps) h = absurd h
leads-length x (n ∷ ns) [] h = absurd h
leads-length x (n ∷ ns) (p ∷ ps) h = ap suc (leads-length x ns ps h.1)

longer : {X : Type 0} (x y : X) (ys front : List X) → ys ≡ front ++ x ∷ [] → y ∷ ys ≡ (y ∷ front) ++ x ∷ []
longer x y ys front e = ap (λ l. y ∷ l) e

-- the last item of a list
last-item : {X : Type 0} (xs : List X) (x : X) → slice_get xs (length xs - 1) ≡ Some x
    → (front : List X) × (xs ≡ front ++ x ∷ [])
last-item [] x e = cc
last-item (y ∷ []) x e = let same : y ≡ x = cc in ([], ap (λ z. z ∷ []) same)
last-item (y ∷ z ∷ zs) x e =
    let at : length (y ∷ z ∷ zs) - 1 ≡ suc (length (z ∷ zs) - 1) = omega arith in
    let before : slice_get (z ∷ zs) (length (z ∷ zs) - 1) ≡ Some x =
    subst (λ n. slice_get (y ∷ z ∷ zs) n ≡ Some x) at e in
    let r = last-item (z ∷ zs) x before in
    (y ∷ r.0, longer x y (z ∷ zs) r.0 r.1)

-- a plan that is the last one, and one that is put behind the others
pub last-found : (sig : Sig) (cs : List CommPlan) (c : CommPlan) (p : Pattern) → AreTails sig cs
    → slice_get cs (length cs - 1) ≡ Some c → c.plan.pattern ≡ p → IsLast sig cs p
last-found sig cs c p h e same =
    let r = last-item cs c e in
    record {
      front = r.0;
      plan = c;
      is = r.1;
      of = subst (λ q. IsCommPlanOf sig q c) same (all-split (λ (d : CommPlan). IsCommPlanOf sig d.plan.pattern d) r.0
          (c ∷ []) (subst (AreTails sig) r.1 h)).1.0;
    }

pub last-pushed : (sig : Sig) (cs ds : List CommPlan) (c : CommPlan) (p : Pattern) → ds ≡ cs ++ c ∷ []
    → IsCommPlanOf sig p c → IsLast sig ds p
last-pushed sig cs ds c p e h = record { front = cs; plan = c; is = e; of = h }

-- the trees of the children from a place on
pub trees-behind : (n : ℕ) (xs : List declared.Pattern)
    → map pattern_tree (take (length xs - n) (drop n xs)) ≡ drop n (map pattern_tree xs)
trees-behind n xs = ap (map pattern_tree) (take_all (length xs - n) (drop n xs) (omega (arith, length-drop n xs)))
    ∙ sym (drop-map pattern_tree n xs)

-- what is prepared stays so
pub prepared-kept : (sig : Sig) (x y : CommPlans) (cs : List declared.Pattern) (ls : List Lead) (ns : List ℕ)
    (ts : List CommPlan) (p : Pattern) (r : Prepared) → y.children.items ≡ x.children.items ++ cs
    → y.leads.items ≡ x.leads.items ++ ls → y.numbers.items ≡ x.numbers.items ++ ns
    → y.tails.items ≡ x.tails.items ++ ts → IsPrepared sig x p r → IsPrepared sig y p r
prepared-kept sig x y cs ls ns ts p r children leads numbers tails h =
    let same : take r.count (drop r.from x.numbers.items) ≡ take r.count (drop r.from y.numbers.items) =
    sym (ap (λ l. take r.count (drop r.from l)) numbers ∙ taken-more r.from r.count x.numbers.items ns h.within) in
    record {
      op = h.op;
      children = h.children;
      is = h.is;
      few = h.few;
      each = h.each;
      leads = subst (λ l. AreLeads y l (take r.count (pattern_list h.children))) same
          (leads-more x y cs ls (take r.count (drop r.from x.numbers.items)) (take r.count (pattern_list h.children))
          children leads h.leads);
      within = omega (arith, h.within, ap length numbers, length-append x.numbers.items ns);
      plan = h.plan;
      held = ap (λ l. slice_get l r.tail) tails ∙ slice_get-found x.tails.items ts r.tail h.plan h.held;
      tail = h.tail;
    }

-- and what stands by its numbers and the last plan is prepared
pub prepared-last : (sig : Sig) (x : CommPlans) (front ns : List ℕ) (op : ℕ) (ps : List Pattern) (r : Prepared)
    → IsLed sig x.tails.items op ps r.count → x.numbers.items ≡ front ++ ns
    → AreLeads x ns (take r.count ps) → r.from ≡ length front → r.tail + 1 ≡ length x.tails.items
    → IsPrepared sig x (app_pattern op (patterns ps)) r
prepared-last sig x front ns op ps r led numbers found from last =
    let same = sym (pattern_list-patterns ps) in
    let plan = led.last.plan in
    let count : length ns ≡ r.count =
    leads-length x ns (take r.count ps) found ∙ length-take-le r.count ps led.few in
    let whole : length x.tails.items ≡ length led.last.front + 1 = ap length led.last.is
    ∙ length-append led.last.front (led.last.plan ∷ []) in
    let own : take r.count (drop r.from x.numbers.items) ≡ ns =
    ap (take r.count) (ap (drop r.from) numbers ∙ ap (λ n. drop n (front ++ ns)) from ∙ drop-append_seam front ns)
    ∙ take_all r.count ns (omega (arith, count)) in
    record {
      op = op;
      children = patterns ps;
      is = refl;
      few = subst (λ qs. r.count ≤ length qs) same led.few;
      each = subst (λ qs. AllByRecursion (λ q. takes_one sig q ≡ true) (take r.count qs)) same led.each;
      leads = subst (λ qs. AreLeads x (take r.count (drop r.from x.numbers.items)) (take r.count qs)) same
          (subst (λ l. AreLeads x l (take r.count ps)) (sym own) found);
      within = omega (arith, count, from, ap length numbers, length-append front ns);
      plan = plan;
      held = ap (λ l. slice_get l r.tail) led.last.is
          ∙ slice_get-second led.last.front (led.last.plan ∷ []) 0 r.tail (omega (arith, last, whole));
      tail = subst (λ qs. IsCommPlanOf sig (app_pattern op (patterns (drop r.count qs))) plan) same led.last.of;
    }

-- one in front of others
pub added-before : (x y z : CommPlans) (ls : List Lead) (n m : ℕ) (lead : Lead) (p q : Pattern) (qs : List Pattern)
    → y.children ≡ x.children → y.leads.items ≡ x.leads.items ++ ls → y.numbers.items ≡ x.numbers.items ++ n ∷ []
    → y.tails ≡ x.tails → y.list ≡ x.list → slice_get y.leads.items n ≡ Some lead → child_at x lead.child ≡ Some p
    → lead.next ≡ Some m → child_at x m ≡ Some q → AreAdded y z (q ∷ qs) → AreAdded x z (p ∷ q ∷ qs)
added-before x y z ls n m lead p q qs children leads numbers tails list held first some second h =
    let cs = h.children.0 in
    let ks = h.leads.0 in
    let ns = h.numbers.0 in
    let its : child_at y m ≡ Some q =
    ap (λ v. option_map pattern_tree (slice_get v.items m)) children ∙ second in
    let own : IsLead y n p (Some q) = record {
      lead = lead;
      held = held;
      child = ap (λ v. option_map pattern_tree (slice_get v.items lead.child)) children ∙ first;
      next = sym (ap (option_and_then (child_at y)) some ∙ its);
      next_held = λ k is. (let o : Some m ≡ Some k = sym some ∙ is in
          let e : m ≡ k = cc in
          subst (λ j. IsSome (child_at y j)) e (subst IsSome (sym its) refl));
    } in
    record {
      children = (cs, h.children.1 ∙ ap (λ v. v.items ++ cs) children);
      leads = (ls ++ ks, h.leads.1 ∙ ap (λ l. l ++ ks) leads ∙ append_assoc x.leads.items ls ks);
      numbers = (
        n ∷ ns,
        h.numbers.1 ∙ ap (λ l. l ++ ns) numbers ∙ append_assoc x.numbers.items (n ∷ []) ns,
        (lead-more y z cs ks n p (Some q) h.children.1 h.leads.1 own, h.numbers.2),
      );
      tails = h.tails ∙ tails;
      list = h.list ∙ list;
    }

-- with more children before them
pub added-behind : (x y z : CommPlans) (cs : List declared.Pattern) (ps : List Pattern)
    → y.children.items ≡ x.children.items ++ cs → y.leads ≡ x.leads → y.numbers ≡ x.numbers → y.tails ≡ x.tails
    → y.list ≡ x.list → AreAdded y z ps → AreAdded x z ps
added-behind x y z cs ps children leads numbers tails list h = record {
  children = (
    cs ++ h.children.0,
    h.children.1 ∙ ap (λ l. l ++ h.children.0) children ∙ append_assoc x.children.items cs h.children.0,
  );
  leads = (h.leads.0, h.leads.1 ∙ ap (λ v. v.items ++ h.leads.0) leads);
  numbers = (h.numbers.0, h.numbers.1 ∙ ap (λ v. v.items ++ h.numbers.0) numbers, h.numbers.2);
  tails = h.tails ∙ tails;
  list = h.list ∙ list;
}

-- the variables of some of the children, the last ones, are among those of all
named-behind : (f : Option ℕ) (x : List ℕ) (n : ℕ) (ps : List Pattern)
    → In x (map (λ (u : Use). u.name) (all_uses f (patterns (drop n ps))))
    → In x (map (λ (u : Use). u.name) (all_uses f (patterns ps)))
named-behind f x zero ps h = h
named-behind f x (suc n) [] h = h
named-behind f x (suc n) (p ∷ ps) h = subst (In x)
    (sym (map-append (λ (u : Use). u.name) (uses f p) (all_uses f (patterns ps))))
    (in-right x (map (λ (u : Use). u.name) (uses f p)) (map (λ (u : Use). u.name) (all_uses f (patterns ps)))
    (named-behind f x n ps h))

pub variables-behind : (op : ℕ) (x : List ℕ) (n : ℕ) (ps : List Pattern)
    → In x (variables (app_pattern op (patterns (drop n ps)))) → In x (variables (app_pattern op (patterns ps)))
variables-behind op x n ps h =
    elim (from_in-firsts_after same_name x []
    (map (λ (u : Use). u.name) (all_uses (Some op) (patterns (drop n ps)))) h) [
      | inl j ↦ absurd j
      | inr j ↦ in-firsts_after same_name same_name-is []
          (map (λ (u : Use). u.name) (all_uses (Some op) (patterns ps))) x (inr (named-behind (Some op) x n ps j))
    ]
