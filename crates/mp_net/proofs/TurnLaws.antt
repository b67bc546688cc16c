-- What the rules of a state lead to.
use Rattle.std.proofs.Common.{◌≡◌, ℕ, zero, suc, ◌+◌, ◌<◌, List, [], ◌∷◌, ◌++◌, Bool, true, false, refl, ap, sym, ◌∙◌}
use Rattle.std.proofs.Common.{subst, inl, inr, map, length, get_or, set, take, replicate, append-nil, arith}
use Rattle.std.specs.Prelude.{Some, None, if◌then◌else◌, option_map}
use Rattle.std.specs.declared.cmp.Ordering.TheVariants.{Less}
use Rattle.std.specs.declared.vec.Vec.{Vec}
use Rattle.std.specs.List.{AllByRecursion, cons_option}
use Rattle.std.specs.List.Sorted.{IsStrictlySortedBy}
use Rattle.std.proofs.lemmas.List.{map-append, take_more, length-map}
use Rattle.std.proofs.lemmas.List.Elements.{filter_map-append}
use Rattle.mp_term.specs.Listing.{In}
use Rattle.mp_net.specs.Net as net
use Rattle.mp_net.specs.Keys.{mark_key}
use Rattle.mp_net.specs.View.{mark_of, open_of}
use Rattle.mp_net.specs.Items.{opens, states, listed, joined, item_below, first_of}
use Rattle.mp_net.specs.Turned.{asked, heads_of, below_each, AreAscending}
use Rattle.mp_net.specs.declared.mark.Mark.{Mark}
use Rattle.mp_net.specs.declared.mark.Mark.TheVariants.{Named, Entered, Anything}
use Rattle.mp_net.specs.declared.item.Item.{Item}
use Rattle.mp_net.proofs.ItemLaws.{more_anythings}
use Rattle.mp_net.proofs.MarkLaws.{cmp, mark_key-is, same_mark-less, same_mark-greater, less-later, same_mark-itself}

-- a rule with what it asks
abbrev pub ruled : ℕ → List net.Mark → net.Open
ruled r m = record { rule = r; rest = m }

-- a rule, if any
abbrev one_if : Bool → net.Open → List net.Open
one_if b o = if b then o ∷ [] else []

-- what asks for a head goes on below that head alone
going-one : (h g : net.Mark) (m : List net.Mark) (r : ℕ) → net.same_mark g g ≡ true
    → net.going (net.below h) (ruled r (g ∷ m) ∷ []) ≡ one_if (net.same_mark g h) (ruled r m)
going-one h (net.named n) m r s =
    elim (net.same_mark (net.named n) h) as
    (λ b. cons_option (option_map (ruled r) (if b then Some m else None)) [] ≡ one_if b (ruled r m))
    [ true ↦ refl | false ↦ refl ]
going-one h (net.entered f k) m r s =
    elim (net.same_mark (net.entered f k) h) as
    (λ b. cons_option (option_map (ruled r) (if b then Some m else None)) [] ≡ one_if b (ruled r m))
    [ true ↦ refl | false ↦ refl ]
going-one h net.anything m r s = cc

going-unlike : (h g : net.Mark) (m : List net.Mark) (r : ℕ) → net.same_mark g g ≡ true → net.same_mark g h ≡ false
    → net.going (net.below h) (ruled r (g ∷ m) ∷ []) ≡ []
going-unlike h g m r s e = going-one h g m r s ∙ ap (λ b. one_if b (ruled r m)) e

-- and not behind a place
pub going-behind : (g : net.Mark) (m : List net.Mark) (r : ℕ) → net.same_mark g g ≡ true
    → net.going net.behind (ruled r (g ∷ m) ∷ []) ≡ []
going-behind (net.named n) m r s = refl
going-behind (net.entered f k) m r s = refl
going-behind net.anything m r s = cc

-- lists go on with nothing
pub joined-none : {X Y : Type 0} (ls : List (List X)) (ys : List Y) → joined ls (map (λ y. []) ys) ≡ ls
joined-none [] ys = refl
joined-none (l ∷ ls) [] = refl
joined-none (l ∷ ls) (y ∷ ys) = ap (λ k. k ∷ joined ls (map (λ y. []) ys)) (append-nil l)
    ∙ ap (λ k. l ∷ k) (joined-none ls ys)

module _ {Y : Type 0} (f : Y → net.Mark) (g : net.Mark) (m : List net.Mark) (r : ℕ)
    (head : net.same_mark g g ≡ true) where
  -- so it is with the lists of later heads
  joined-later : (ys : List Y) (ls : List (List net.Open))
      → AllByRecursion (λ k. cmp (mark_key g) k ≡ Less) (map (λ y. mark_key (f y)) ys)
      → joined ls (below_each (ruled r (g ∷ m) ∷ []) (map f ys)) ≡ ls
  joined-later [] [] up = refl
  joined-later [] (l ∷ ls) up = refl
  joined-later (y ∷ ys) [] up = refl
  joined-later (y ∷ ys) (l ∷ ls) up =
      ap (λ k. (l ++ k) ∷ joined ls (below_each (ruled r (g ∷ m) ∷ []) (map f ys)))
      (going-unlike (f y) g m r head (same_mark-less g (f y) up.0))
      ∙ ap (λ k. k ∷ joined ls (below_each (ruled r (g ∷ m) ∷ []) (map f ys))) (append-nil l)
      ∙ ap (λ k. l ∷ k) (joined-later ys ls up.1)

  -- the list of the head gets the rule
  pub joined-head : (ys : List Y) (ls : List (List net.Open)) (i : ℕ)
      → IsStrictlySortedBy cmp (map (λ y. mark_key (f y)) ys) → length ls ≡ length ys → i < length ys
      → ((d : Y) → mark_key (f (get_or ys i d)) ≡ mark_key g)
      → set ls i (get_or ls i [] ++ ruled r m ∷ []) ≡ joined ls (below_each (ruled r (g ∷ m) ∷ []) (map f ys))
  unfolding IsStrictlySortedBy
  joined-head [] ls i up e w k = absurd (omega arith)
  joined-head (y ∷ ys) [] i up e w k = absurd (omega arith)
  joined-head (y ∷ ys) (l ∷ ls) zero up e w k =
      let t : net.same_mark g (f y) ≡ true =
      subst (λ h. net.same_mark g h ≡ true) (sym (mark_key-is (f y) g (k y))) head in
      sym (
      ap (λ k. (l ++ k) ∷ joined ls (below_each (ruled r (g ∷ m) ∷ []) (map f ys)))
      (going-one (f y) g m r head ∙ ap (λ b. one_if b (ruled r m)) t)
      ∙ ap (λ k. (l ++ ruled r m ∷ []) ∷ k)
      (joined-later ys ls
      (subst (λ x. AllByRecursion (λ z. cmp x z ≡ Less) (map (λ y. mark_key (f y)) ys)) (k y) up.0))
      )
  joined-head (y ∷ ys) (l ∷ ls) (suc i) up e w k =
      sym (
      ap (λ k. (l ++ k) ∷ joined ls (below_each (ruled r (g ∷ m) ∷ []) (map f ys)))
      (going-unlike (f y) g m r head (same_mark-greater g (f y) (less-later f y ys i g up.0 (omega arith) k)))
      ∙ ap (λ k. k ∷ joined ls (below_each (ruled r (g ∷ m) ∷ []) (map f ys))) (append-nil l)
      ∙ ap (λ k. l ∷ k) (sym (joined-head ys ls i up.1 (omega arith) (omega arith) k))
      )

-- the rules of lists that go on
pub opens-joined : (ms : List (List net.Mark)) (ls ks : List (List Item))
    → map (opens ms) (joined ls ks) ≡ joined (map (opens ms) ls) (map (opens ms) ks)
opens-joined ms [] ks = refl
opens-joined ms (l ∷ ls) [] = refl
opens-joined ms (l ∷ ls) (k ∷ ks) =
    ap (λ us. us ∷ map (opens ms) (joined ls ks)) (map-append (open_of ms) l k)
    ∙ ap (λ us. (opens ms l ++ opens ms k) ∷ us) (opens-joined ms ls ks)

-- a rule that asks nothing of a place goes on below each head
pub opens-below : (ms : List (List net.Mark)) (i : Item) (hs : List Mark)
    → map (opens ms) (map (λ h. item_below (mark_of h) i ∷ []) hs)
    ≡ below_each (ruled i.rule (net.anything ∷ (open_of ms i).rest) ∷ []) (map mark_of hs)
opens-below ms i [] = refl
opens-below ms i (h ∷ hs) =
    ap (λ m. (ruled i.rule m ∷ []) ∷ map (opens ms) (map (λ h. item_below (mark_of h) i ∷ []) hs))
    (more_anythings i.free (net.arity (mark_of h)) _)
    ∙ ap (λ us. (ruled i.rule (net.anythings (net.arity (mark_of h)) ++ (open_of ms i).rest) ∷ []) ∷ us)
    (opens-below ms i hs)

-- the rules of the states are those of the lists
pub states-listed : {Z : Type 0} (ms : List (List net.Mark)) (vs : List (Vec Item Z))
    → states ms vs ≡ map (opens ms) (listed vs)
states-listed ms [] = refl
states-listed ms (v ∷ vs) = ap (λ us. opens ms v.items ∷ us) (states-listed ms vs)

-- the next of the items has its rule at the list of its head
pub set-listed : {Z : Type 0} (vs : List (Vec Item Z)) (i : ℕ) (v : Vec Item Z)
    → listed (set vs i v) ≡ set (listed vs) i v.items
set-listed [] i v = refl
set-listed (w ∷ vs) zero v = refl
set-listed (w ∷ vs) (suc i) v = ap (λ us. w.items ∷ us) (set-listed vs i v)

pub set-states : {Z : Type 0} (ms : List (List net.Mark)) (vs : List (Vec Item Z)) (i : ℕ) (v : Vec Item Z)
    → states ms (set vs i v) ≡ set (states ms vs) i (opens ms v.items)
set-states ms [] i v = refl
set-states ms (w ∷ vs) zero v = refl
set-states ms (w ∷ vs) (suc i) v = ap (λ us. opens ms w.items ∷ us) (set-states ms vs i v)

-- one list after the other gets its item
pub set-joined : {X Y : Type 0} (f : Y → X) (ls : List (List X)) (ys : List Y) (i : ℕ) (d : Y)
    → length ls ≡ length ys → i < length ys
    → set (joined ls (map (λ y. f y ∷ []) (take i ys))) i
    (get_or (joined ls (map (λ y. f y ∷ []) (take i ys))) i [] ++ f (get_or ys i d) ∷ [])
    ≡ joined ls (map (λ y. f y ∷ []) (take (suc i) ys))
set-joined f [] [] i d e w = absurd (omega arith)
set-joined f [] (y ∷ ys) i d e w = absurd (omega arith)
set-joined f (l ∷ ls) [] i d e w = absurd (omega arith)
set-joined f (l ∷ []) (y ∷ ys) zero d e w = refl
set-joined f (l ∷ k ∷ ls) (y ∷ ys) zero d e w = refl
set-joined f (l ∷ ls) (y ∷ ys) (suc i) d e w =
    ap (λ us. (l ++ f y ∷ []) ∷ us) (set-joined f ls ys i d (omega arith) (omega arith))

-- a rule by what it asks first
pub first-some : (o u : net.Open) (g : net.Mark) → Some (g, u) ≡ first_of o.rule o.rest → o ≡ ruled u.rule (g ∷ u.rest)
first-some o u g e = by_rest o.rest e
  where
    by_rest : (m : List net.Mark) → Some (g, u) ≡ first_of o.rule m → ruled o.rule m ≡ ruled u.rule (g ∷ u.rest)
    by_rest [] k = cc
    by_rest (h ∷ m) k =
        let both : ◌≡◌ {A = net.Mark × net.Open} (g, u) (h, ruled o.rule m) = cc in
        sym (ap (λ p. ruled p.1.rule (p.0 ∷ p.1.rest)) both)

pub first-none : (o : net.Open) → None ≡ first_of o.rule o.rest → o ≡ ruled o.rule []
first-none o e = by_rest o.rest e
  where
    by_rest : (m : List net.Mark) → None ≡ first_of o.rule m → ruled o.rule m ≡ ruled o.rule []
    by_rest [] k = refl
    by_rest (h ∷ m) k = cc

-- what more rules lead to
pub below_each-append : (os us : List net.Open) (hs : List net.Mark)
    → below_each (os ++ us) hs ≡ joined (below_each os hs) (below_each us hs)
below_each-append os us [] = refl
below_each-append os us (h ∷ hs) =
    ap (λ k. k ∷ below_each (os ++ us) hs) (filter_map-append _ os us)
    ∙ ap (λ k. (net.going (net.below h) os ++ net.going (net.below h) us) ∷ k) (below_each-append os us hs)

-- the rules read so far with the next
pub opens-next : (ms : List (List net.Mark)) (is : List Item) (i : ℕ) (d : Item) → i < length is
    → opens ms (take (i + 1) is) ≡ opens ms (take i is) ++ open_of ms (get_or is i d) ∷ []
opens-next ms is i d w =
    ap (opens ms) (take_more is i d w) ∙ map-append (open_of ms) (take i is) (get_or is i d ∷ [])

-- where heads of all rules are there, the next one's is
pub have-next : (K : List (List ℕ)) (os : List net.Open) (o : net.Open) → In o os
    → AllByRecursion (λ h. In (mark_key h) K) (heads_of os)
    → AllByRecursion (λ h. In (mark_key h) K) (heads_of (o ∷ []))
have-next K [] o i a = absurd i
have-next K (u ∷ os) o (inl e) a =
    subst (λ v. AllByRecursion (λ h. In (mark_key h) K) (heads_of (v ∷ []))) (sym e)
    (elim (asked u.rest) as (λ r. AllByRecursion (λ h. In (mark_key h) K) (cons_option r (heads_of os))
    → AllByRecursion (λ h. In (mark_key h) K) (cons_option r [])) [ None ↦ λ b. tt | Some h ↦ λ b. (b.0, tt) ] a)
have-next K (u ∷ os) o (inr i) a =
    have-next K os o i
    (elim (asked u.rest) as (λ r. AllByRecursion (λ h. In (mark_key h) K) (cons_option r (heads_of os))
    → AllByRecursion (λ h. In (mark_key h) K) (heads_of os)) [ None ↦ λ b. b | Some h ↦ λ b. b.1 ] a)

-- empty lists are what no rules lead to
pub replicated-states : {Z : Type 0} (ms : List (List net.Mark)) (vs : List (Vec Item Z)) (hs : List net.Mark)
    → listed vs ≡ replicate (length hs) [] → states ms vs ≡ below_each [] hs
replicated-states ms vs hs e = states-listed ms vs ∙ ap (map (opens ms)) e ∙ empty ms hs
  where
    empty : (ms : List (List net.Mark)) (hs : List net.Mark)
        → map (opens ms) (replicate (length hs) []) ≡ below_each [] hs
    empty ms [] = refl
    empty ms (h ∷ hs) = ap (λ us. [] ∷ us) (empty ms hs)

pub joined-nil : {X : Type 0} (ls : List (List X)) → joined ls [] ≡ ls
joined-nil [] = refl
joined-nil (l ∷ ls) = refl

-- the items of a list by its place
listed-at : {Z : Type 0} (vs : List (Vec Item Z)) (i : ℕ) (v : Vec Item Z) → i < length vs
    → get_or (listed vs) i [] ≡ (get_or vs i v).items
listed-at [] i v w = absurd (omega arith)
listed-at (u ∷ vs) zero v w = refl
listed-at (u ∷ vs) (suc i) v w = listed-at vs i v (omega arith)

-- the list of the next head gets its item
pub entered-next : {Z : Type 0} (f : Mark → Item) (first vs : List (Vec Item Z)) (hs : List Mark) (i : ℕ)
    (v w : Vec Item Z) (h : Mark) (x : Item) → length (listed first) ≡ length hs → length vs ≡ length hs → i < length hs
    → listed vs ≡ joined (listed first) (map (λ g. f g ∷ []) (take i hs))
    → w ≡ get_or vs i w → h ≡ get_or hs i h → x ≡ f h → v.items ≡ w.items ++ x ∷ []
    → listed (set vs i v) ≡ joined (listed first) (map (λ g. f g ∷ []) (take (i + 1) hs))
entered-next f first vs hs i v w h x a b within e we he xe ve =
    let old = joined (listed first) (map (λ g. f g ∷ []) (take i hs)) in
    let held : w.items ≡ get_or old i [] =
    ap (λ u. u.items) we ∙ sym (listed-at vs i w (omega (arith, b, within))) ∙ ap (λ us. get_or us i []) e in
    let more : v.items ≡ get_or old i [] ++ f (get_or hs i h) ∷ [] =
    ve ∙ ap (λ us. us ++ x ∷ []) held ∙ ap (λ y. get_or old i [] ++ y ∷ []) (xe ∙ ap f he) in
    set-listed vs i v
    ∙ ap (λ us. set us i v.items) e
    ∙ ap (set old i) more
    ∙ set-joined f (listed first) hs i h a within
    ∙ ap (λ n. joined (listed first) (map (λ g. f g ∷ []) (take n hs))) (next i)
  where
    next : (n : ℕ) → suc n ≡ n + 1
    next n = omega arith

states-at : {Z : Type 0} (ms : List (List net.Mark)) (vs : List (Vec Item Z)) (i : ℕ) (v : Vec Item Z) → i < length vs
    → get_or (states ms vs) i [] ≡ opens ms (get_or vs i v).items
states-at ms [] i v w = absurd (omega arith)
states-at ms (u ∷ vs) zero v w = refl
states-at ms (u ∷ vs) (suc i) v w = states-at ms vs i v (omega arith)

-- a rule that asks for a head goes on in the list of that head
pub head-goes : {Z : Type 0} (ms : List (List net.Mark)) (vs : List (Vec Item Z)) (hs : List Mark) (i : ℕ)
    (v w : Vec Item Z) (h : Mark) (x : Item) (o : net.Open) → (h ≡ Anything → ⊥) → AreAscending hs
    → length vs ≡ length hs → i < length hs
    → ((d : Mark) → mark_key (mark_of (get_or hs i d)) ≡ mark_key (mark_of h))
    → Some (mark_of h, open_of ms x) ≡ first_of o.rule o.rest → w ≡ get_or vs i w → v.items ≡ w.items ++ x ∷ []
    → states ms (set vs i v) ≡ joined (states ms vs) (below_each (o ∷ []) (map mark_of hs))
head-goes ms vs hs i v w h x o s up e within k f we ve =
    let u = open_of ms x in
    let oe : o ≡ ruled u.rule (mark_of h ∷ u.rest) = first-some o u (mark_of h) f in
    let count : length (states ms vs) ≡ length hs = length-map vs (λ b. opens ms b.items) ∙ e in
    let held : opens ms w.items ≡ get_or (states ms vs) i [] =
    ap (λ b. opens ms b.items) we ∙ sym (states-at ms vs i w (omega (arith, e, within))) in
    let more : opens ms v.items ≡ get_or (states ms vs) i [] ++ u ∷ [] =
    ap (opens ms) ve ∙ map-append (open_of ms) w.items (x ∷ []) ∙ ap (λ us. us ++ u ∷ []) held in
    set-states ms vs i v
    ∙ ap (set (states ms vs) i) more
    ∙ joined-head mark_of (mark_of h) u.rest u.rule (same_mark-itself h s) hs (states ms vs) i up count within k
    ∙ ap (λ p. joined (states ms vs) (below_each (p ∷ []) (map mark_of hs))) (sym oe)

-- and not behind the place
pub head-behind : (ms : List (List net.Mark)) (h : Mark) (x : Item) (o : net.Open) → (h ≡ Anything → ⊥)
    → Some (mark_of h, open_of ms x) ≡ first_of o.rule o.rest → net.going net.behind (o ∷ []) ≡ []
head-behind ms h x o s f =
    let u = open_of ms x in
    ap (λ p. net.going net.behind (p ∷ [])) (first-some o u (mark_of h) f)
    ∙ going-behind (mark_of h) u.rest u.rule (same_mark-itself h s)

-- a rule that asks nothing goes on in each list
pub wildcard-goes : {Z : Type 0} (ms : List (List net.Mark)) (vs ws : List (Vec Item Z)) (hs : List Mark) (h : Mark)
    (x : Item) (o : net.Open) → h ≡ Anything → Some (mark_of h, open_of ms x) ≡ first_of o.rule o.rest
    → listed ws ≡ joined (listed vs) (map (λ h. item_below (mark_of h) x ∷ []) hs)
    → states ms ws ≡ joined (states ms vs) (below_each (o ∷ []) (map mark_of hs))
wildcard-goes ms vs ws hs h x o a f e =
    let u = open_of ms x in
    let oe : o ≡ ruled u.rule (net.anything ∷ u.rest) =
    first-some o u (mark_of h) f ∙ ap (λ g. ruled u.rule (mark_of g ∷ u.rest)) a in
    states-listed ms ws
    ∙ ap (map (opens ms)) e
    ∙ opens-joined ms (listed vs) (map (λ h. item_below (mark_of h) x ∷ []) hs)
    ∙ ap (λ us. joined us (map (opens ms) (map (λ h. item_below (mark_of h) x ∷ []) hs))) (sym (states-listed ms vs))
    ∙ ap (joined (states ms vs)) (opens-below ms x hs ∙ ap (λ p. below_each (p ∷ []) (map mark_of hs)) (sym oe))

-- the head that a rule asks for is among those of all rules
pub head-there : (K : List (List ℕ)) (ms : List (List net.Mark)) (h : Mark) (x : Item) (o : net.Open)
    → (h ≡ Anything → ⊥) → Some (mark_of h, open_of ms x) ≡ first_of o.rule o.rest
    → AllByRecursion (λ g. In (mark_key g) K) (heads_of (o ∷ [])) → In (mark_key (mark_of h)) K
head-there K ms h x o s f a = by_head h s
    (subst (λ p. AllByRecursion (λ g. In (mark_key g) K) (heads_of (p ∷ [])))
    (first-some o (open_of ms x) (mark_of h) f) a)
  where
    by_head : (h : Mark) → (h ≡ Anything → ⊥)
        → AllByRecursion (λ g. In (mark_key g) K) (cons_option (asked (mark_of h ∷ (open_of ms x).rest)) [])
        → In (mark_key (mark_of h)) K
    by_head (Named n) s a = a.0
    by_head (Entered f k) s a = a.0
    by_head Anything s a = absurd (s refl)
