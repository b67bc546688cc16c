-- The search for the first pairing from a place on.
use Rattle.std.proofs.Common.{◌≡◌, ℕ, zero, suc, ◌<◌, ◌≤◌, ◌+◌, List, [], ◌∷◌, ◌++◌, Bool, true, false, cond, refl, sym}
use Rattle.std.proofs.Common.{ap, ◌∙◌, ◌⊎◌, inl, inr, arith, length, take, get_or, set, subst, add-one, length-append}
use Rattle.std.proofs.Common.{append_assoc}
use Rattle.std.specs.Prelude.{Contains, count_by, ◌==◌, slice_index}
use Rattle.std.specs.declared.cmp.Ordering.TheVariants.{Less}
use Rattle.std.specs.List.{AllZip, AllByRecursion}
use Rattle.std.specs.Ordering.{is_lt}
use Rattle.std.proofs.lemmas.Cmp.{nat_list_cmp_total, tied_itself}
use Rattle.std.proofs.lemmas.List.{length_push, take_more, take_more_set, length-take-le, take_at, take_all, length-set}
use Rattle.std.proofs.lemmas.List.Sums.{sum_by_push, sum_by-cons}
use Rattle.mp_term.specs.Search.{In}
use Rattle.mp_term.proofs.SearchLaws.{in-left, in-right}
use Rattle.mp_term.proofs.TestLaws.{less-from}
use Rattle.mp_term.specs.Listing.{above}
use Rattle.mp_choice.specs.Listed.{number_lists}
use Rattle.mp_choice.proofs.Lexicographic.{lex, less_head, less_tail}
use Rattle.mp_choice.proofs.Listed.{in-number_lists}
use Rattle.mp_pair.specs.Pairings.{IsPairing}
use Rattle.mp_pair.specs.PairingSteps.{IsNextClass, HasNoClass, Below, IsFirstAt, NoneAt, IsFront}
use Rattle.mp_choice.proofs.Tests.{eq_test, eq_from, filter_less}
use Rattle.mp_pair.proofs.PairLaws.{not_below_itself, below_from_less, below-push, passed-push, below-back, passed-back}
use Rattle.mp_pair.proofs.PairLaws.{all_zip-at, zip_length, zip-push, zip-drop}

-- the search stands at a place, has passed no pairing since the start, and the place is no lower than the start
pub record Searches (capacities : List ℕ) (left : List (List ℕ)) (front0 : List ℕ) (bound0 : ℕ) (front : List ℕ)
    (bound : ℕ) : Type 0 where
  pub is_front : IsFront capacities left front
  pub up : (others : List ℕ) → Below others front0 bound0 → Below others front bound
  pub passed : (others : List ℕ) → IsPairing capacities left others → (Below others front0 bound0 → ⊥)
      → Below others front bound → ⊥

-- at its start
pub searches-start : (cs : List ℕ) (left : List (List ℕ)) (front : List ℕ) (bound : ℕ) → IsFront cs left front
    → Searches cs left front bound front bound
searches-start cs left front bound f = record { is_front = f; up = λ others b. b; passed = λ others p n b. n b }

module _ (cs : List ℕ) (left : List (List ℕ)) (front0 : List ℕ) (bound0 : ℕ) where
  -- a pairing with this front goes on with one of the classes, and begins with the front and it
  class_of : (front others : List ℕ) (k : ℕ) (d : List ℕ) → k ≡ length front → IsPairing cs left others
      → take k others ≡ front → k < length others
      → Contains (get_or left k d) (get_or others k 0) ×
      (take (length (front ++ get_or others k 0 ∷ [])) others ≡ front ++ get_or others k 0 ∷ [])
  class_of front others k d is p e h =
      let n : length (front ++ get_or others k 0 ∷ []) ≡ k + 1 =
      omega (arith, length_push front (get_or others k 0)) in (
        all_zip-at left others k d p.one_each h,
        ap (λ j. take j others) n ∙ (take_more others k 0 h ∙ ap (λ xs. xs ++ get_or others k 0 ∷ []) e),
      )

  -- a further choice
  pub searches-push : (front : List ℕ) (bound class : ℕ) → Searches cs left front0 bound0 front bound
      → length front < length left → IsNextClass cs left front bound class
      → Searches cs left front0 bound0 (front ++ class ∷ []) 0
  searches-push front bound class s h n = record {
    is_front = record {
      one_each = rw (length-append, add-one)
          (zip-push (length front) left front class [] refl h s.is_front.one_each (n.one []));
      within = λ c. room_for c;
    };
    up = λ others b. below-push others front bound class n.from (s.up others b);
    passed = λ others p m b. made others p m (passed-push others front bound class b);
  }
    where
      room_for : (c : ℕ) → count_by (λ x. x == c) (front ++ class ∷ []) ≤ slice_index cs c
      room_for c = by_test (class == c) refl
        where
          by_test : (b : Bool) → (class == c) ≡ b → count_by (λ x. x == c) (front ++ class ∷ []) ≤ slice_index cs c
          by_test true t =
              let e : class ≡ c = eq_from class c t in
              let r : count_by (λ x. x == c) front < slice_index cs c =
              subst (λ w. count_by (λ x. x == w) front < slice_index cs w) e n.room in
              let u : count_by (λ x. x == c) (front ++ class ∷ []) ≡ count_by (λ x. x == c) front +
              cond (class == c) 1 0 = sum_by_push (λ x. cond (x == c) 1 0) front class in
              let v : count_by (λ x. x == c) (front ++ class ∷ []) ≡ count_by (λ x. x == c) front + 1 = rw t at u in
              omega arith
          by_test false t =
              let u : count_by (λ x. x == c) (front ++ class ∷ []) ≡ count_by (λ x. x == c) front +
              cond (class == c) 1 0 = sum_by_push (λ x. cond (x == c) 1 0) front class in
              let v : count_by (λ x. x == c) (front ++ class ∷ []) ≡ count_by (λ x. x == c) front + 0 = rw t at u in
              omega (arith, s.is_front.within c)

      made : (others : List ℕ) → IsPairing cs left others → (Below others front0 bound0 → ⊥)
          → Below others front bound ⊎ ((take (length front) others ≡ front) × (length front < length others) ×
          (bound ≤ get_or others (length front) 0) × (get_or others (length front) 0 < class)) → ⊥
      made others p m (inl b) = s.passed others p m b
      made others p m (inr r) = let c = class_of front others (length front) [] refl p r.0 r.1 in
          n.least (get_or others (length front) 0) [] c.0 r.2 r.3 others p c.1

  -- back from an item that has no class
  pub searches-back : (front : List ℕ) (last bound : ℕ) → Searches cs left front0 bound0 (front ++ last ∷ []) bound
      → length front + 1 < length left → HasNoClass cs left (front ++ last ∷ []) bound
      → Searches cs left front0 bound0 front (last + 1)
  searches-back front last bound s h n = record {
    is_front = record {
      one_each = subst (λ xs. AllZip Contains (take (length front) left) xs)
          (take_at front (last ∷ []) (length front) refl)
          (zip-drop (length (front ++ last ∷ [])) left (front ++ last ∷ []) s.is_front.one_each (length front)
          (omega (arith, length_push front last)));
      within = λ c. omega (arith, s.is_front.within c, sum_by_push (λ x. cond (x == c) 1 0) front last);
    };
    up = λ others b. below-back others front last bound (s.up others b);
    passed = λ others p m b. made others p m
        (passed-back others front last bound (omega (arith, zip_length left others p.one_each)) b);
  }
    where
      made : (others : List ℕ) → IsPairing cs left others → (Below others front0 bound0 → ⊥)
          → Below others (front ++ last ∷ []) bound ⊎
          ((take (suc (length front)) others ≡ front ++ last ∷ []) × (bound ≤ get_or others (suc (length front)) 0)) → ⊥
      made others p m (inl b) = s.passed others p m b
      made others p m (inr r) =
          let k : length (front ++ last ∷ []) ≡ suc (length front) = omega (arith, length_push front last) in
          let c = class_of (front ++ last ∷ []) others (suc (length front)) [] (sym k) p r.0
          (omega (arith, zip_length left others p.one_each)) in
          n (get_or others (suc (length front)) 0) []
          (subst (λ j. Contains (get_or left j []) (get_or others (suc (length front)) 0)) (sym k) c.0) r.1 others p
          c.1

  -- where the first item has no class there is no pairing
  pub searches-none : (bound : ℕ) → Searches cs left front0 bound0 [] bound → 0 < length left
      → HasNoClass cs left [] bound → NoneAt cs left front0 bound0
  searches-none bound s h n others p m = made others p m (zip_length left others p.one_each)
    where
      made : (others : List ℕ) → IsPairing cs left others → (Below others front0 bound0 → ⊥)
          → length left ≡ length others → ⊥
      made [] p m e = omega arith
      made (x ∷ xs) p m e = by_bound (let c : (x < bound) ⊎ (bound ≤ x) = grind arith in c)
        where
          by_bound : (x < bound) ⊎ (bound ≤ x) → ⊥
          by_bound (inl l) = s.passed (x ∷ xs) p m l
          by_bound (inr l) = let c = class_of [] (x ∷ xs) 0 [] refl p refl (omega arith) in n x [] c.0 l (x ∷ xs) p c.1

  -- where each item has a class they are the first pairing
  pub searches-found : (choice : List ℕ) → length choice ≡ length left → Searches cs left front0 bound0 choice 0
      → IsFirstAt cs left front0 bound0 choice
  searches-found choice e s = record {
    pairing = record {
      one_each = subst (λ xs. AllZip Contains xs choice)
          (take_all (length choice) left (omega arith)) s.is_front.one_each;
      within = s.is_front.within;
    };
    from = λ b. not_below_itself choice (s.up choice b);
    none_before = λ others p m l. s.passed others p m
        (below_from_less others choice (sym (zip_length left others p.one_each) ∙ sym e) l);
  }

-- the lists of at most n numbers that are at most the bound
abbrev pub short_lists : ℕ → ℕ → List (List ℕ)
short_lists most zero = number_lists most 0
short_lists most (suc n) = number_lists most (suc n) ++ short_lists most n

-- each such list is one of them
in-short_lists : (most n : ℕ) (xs : List ℕ) → length xs ≤ n → AllByRecursion (λ x. x ≤ most) xs
    → In xs (short_lists most n)
in-short_lists most zero xs l h = in-number_lists most 0 xs (omega arith) h
in-short_lists most (suc n) xs l h = made (let c : (length xs ≡ suc n) ⊎ (length xs ≤ n) = grind arith in c)
    (λ m. in-short_lists most n xs m h)
  where
    made : (length xs ≡ suc n) ⊎ (length xs ≤ n) → (length xs ≤ n → In xs (short_lists most n))
        → In xs (number_lists most (suc n) ++ short_lists most n)
    made (inl e) f = in-left xs (number_lists most (suc n)) (short_lists most n) (in-number_lists most (suc n) xs e h)
    made (inr m) f = in-right xs (number_lists most (suc n)) (short_lists most n) (f m)

-- how many places are still to come
pub places_left : ℕ → ℕ → List ℕ → ℕ → ℕ
places_left classes items front bound = length (above lex (front ++ bound ∷ []) (short_lists classes (items + 1)))

-- what holds of all holds with one more
all_push : (P : ℕ → Type 0) (xs : List ℕ) (x : ℕ) → AllByRecursion P xs → P x → AllByRecursion P (xs ++ x ∷ [])
all_push P [] x h p = (p, tt)
all_push P (y ∷ ys) x h p = (h.0, all_push P ys x h.1 p)

-- a place that comes later has fewer to come
places_fall : (classes items : ℕ) (front new : List ℕ) (bound b : ℕ) → lex (front ++ bound ∷ []) (new ++ b ∷ []) ≡ Less
    → length new ≤ items → AllByRecursion (λ x. x ≤ classes) new → b ≤ classes
    → places_left classes items new b < places_left classes items front bound
unfolding places_left
places_fall classes items front new bound b l e h m =
    filter_less (λ y. is_lt (lex (front ++ bound ∷ []) y)) (λ y. is_lt (lex (new ++ b ∷ []) y))
    (λ y n. ap is_lt (nat_list_cmp_total.trans (front ++ bound ∷ [])
    (new ++ b ∷ []) y l (less-from (lex (new ++ b ∷ []) y) n)))
    (short_lists classes (items + 1)) (new ++ b ∷ [])
    (in-short_lists classes (items + 1) (new ++ b ∷ []) (omega (arith, length_push new b))
    (all_push (λ x. x ≤ classes) new b h m))
    (ap is_lt l) (ap is_lt (tied_itself nat_list_cmp_total (new ++ b ∷ [])))

-- lists that go on in order behind one front are in order
same_front : (front xs ys : List ℕ) → lex xs ys ≡ Less → lex (front ++ xs) (front ++ ys) ≡ Less
same_front [] xs ys h = h
same_front (x ∷ front) xs ys h = less_tail x x (front ++ xs) (front ++ ys) refl (same_front front xs ys h)

-- a class with room is one of the classes
class_below : (cs : List ℕ) (class n : ℕ) → n < slice_index cs class → class < length cs
class_below [] class n h = absurd (omega arith)
class_below (c ∷ cs) zero n h = omega arith
class_below (c ∷ cs) (suc class) n h = omega (arith, class_below cs class n h)

-- each choice within the capacities is one of the classes
pub front_below : (cs front : List ℕ) → ((class : ℕ) → count_by (λ c. c == class) front ≤ slice_index cs class)
    → AllByRecursion (λ x. x < length cs) front
front_below cs [] h = tt
front_below cs (x ∷ xs) h = (
  here,
  front_below cs xs
      (λ c. omega (arith, h c, sum_by-cons (λ y. cond (y == c) 1 0) x xs)),
)
  where
    here : x < length cs
    here =
        let t : cond {A = ℕ} (x == x) 1 0 ≡ 1 = ap (λ (b : Bool). cond {A = ℕ} b 1 0) (eq_test x x refl) in
        let u : count_by (λ c. c == x) (x ∷ xs) ≡ cond (x == x) 1 0 + count_by (λ c. c == x) xs =
        sum_by-cons (λ y. cond (y == x) 1 0) x xs in
        class_below cs x 0 (omega (arith, h x))

-- numbers below a bound are at most the bound
pub wider : (n : ℕ) (xs : List ℕ) → AllByRecursion (λ x. x < n) xs → AllByRecursion (λ x. x ≤ n) xs
wider n [] h = tt
wider n (x ∷ xs) h = (omega (arith, h.0), wider n xs h.1)

module _ (cs : List ℕ) (left : List (List ℕ)) (front0 : List ℕ) (bound0 : ℕ) where
  -- a further choice leaves fewer places
  pub push_falls : (front : List ℕ) (bound class items : ℕ) → Searches cs left front0 bound0 (front ++ class ∷ []) 0
      → bound ≤ class → length front < items
      → places_left (length cs) items (front ++ class ∷ []) 0 < places_left (length cs) items front bound
  push_falls front bound class items s l h =
      places_fall (length cs) items front (front ++ class ∷ []) bound 0
      (subst (λ w. lex (front ++ bound ∷ []) w ≡ Less) (sym (append_assoc front (class ∷ []) (0 ∷ [])))
      (same_front front (bound ∷ []) (class ∷ 0 ∷ [])
      (made (let c : (bound < class) ⊎ (bound ≡ class) = grind arith in c))))
      (omega (arith, length_push front class))
      (wider (length cs) (front ++ class ∷ []) (front_below cs (front ++ class ∷ []) s.is_front.within))
      (omega arith)
    where
      made : (bound < class) ⊎ (bound ≡ class) → lex (bound ∷ []) (class ∷ 0 ∷ []) ≡ Less
      made (inl q) = less_head bound class [] (0 ∷ []) q
      made (inr q) = less_tail bound class [] (0 ∷ []) q refl

  -- going back leaves fewer places
  pub back_falls : (front : List ℕ) (last bound items : ℕ) → Searches cs left front0 bound0 (front ++ last ∷ []) bound
      → length front < items
      → places_left (length cs) items front (last + 1) < places_left (length cs) items (front ++ last ∷ []) bound
  back_falls front last bound items s h =
      places_fall (length cs) items (front ++ last ∷ []) front bound (last + 1)
      (subst (λ w. lex w (front ++ (last + 1) ∷ []) ≡ Less) (sym (append_assoc front (last ∷ []) (bound ∷ [])))
      (same_front front (last ∷ bound ∷ []) ((last + 1) ∷ [])
      (less_head last (last + 1) (bound ∷ []) [] (omega arith))))
      (omega arith) (wider (length cs) front (all_front (λ x. x < length cs) front last whole))
      (last_one front last whole)
    where
      whole : AllByRecursion (λ x. x < length cs) (front ++ last ∷ [])
      whole = front_below cs (front ++ last ∷ []) s.is_front.within

      all_front : (P : ℕ → Type 0) (xs : List ℕ) (x : ℕ) → AllByRecursion P (xs ++ x ∷ []) → AllByRecursion P xs
      all_front P [] x h = tt
      all_front P (y ∷ ys) x h = (h.0, all_front P ys x h.1)

      last_one : (xs : List ℕ) (x : ℕ) → AllByRecursion (λ x. x < length cs) (xs ++ x ∷ []) → x + 1 ≤ length cs
      last_one [] x h = omega (arith, h.0)
      last_one (y ∷ ys) x h = last_one ys x h.1

-- the search stands where the first choices are the front
pub record Stands (capacities : List ℕ) (left : List (List ℕ)) (front0 : List ℕ) (bound0 : ℕ) (choice : List ℕ)
    (count bound : ℕ) : Type 0 where
  pub within : count ≤ length choice
  pub at_end : count ≡ length choice → bound ≡ 0
  pub searches : Searches capacities left front0 bound0 (take count choice) bound

module _ (cs : List ℕ) (left : List (List ℕ)) (front0 : List ℕ) (bound0 : ℕ) where
  -- a further choice, in the list of choices
  pub stands-push : (choice : List ℕ) (count bound class : ℕ) → length choice ≡ length left → count < length choice
      → Stands cs left front0 bound0 choice count bound → IsNextClass cs left (take count choice) bound class
      → Stands cs left front0 bound0 (set choice count class) (count + 1) 0
  stands-push choice count bound class e h s n =
      let front : length (take count choice) ≡ count = length-take-le count choice s.within in
      let t : take (count + 1) (set choice count class) ≡ take count choice ++ class ∷ [] =
      take_more_set choice count class h in
      record {
        within = omega (arith, length-set choice count class);
        at_end = λ _. refl;
        searches = rw t (searches-push cs left front0 bound0 (take count choice) bound class s.searches
            (omega arith) n);
      }

  -- it leaves fewer places
  pub push-falls : (choice : List ℕ) (count bound class : ℕ) → length choice ≡ length left → count < length choice
      → Stands cs left front0 bound0 choice count bound → bound ≤ class
      → Stands cs left front0 bound0 (set choice count class) (count + 1) 0
      → places_left (length cs) (length left) (take (count + 1) (set choice count class)) 0 <
      places_left (length cs) (length left) (take count choice) bound
  push-falls choice count bound class e h s l n =
      let front : length (take count choice) ≡ count = length-take-le count choice s.within in
      let t : take (count + 1) (set choice count class) ≡ take count choice ++ class ∷ [] =
      take_more_set choice count class h in
      let q : Searches cs left front0 bound0 (take count choice ++ class ∷ []) 0 =
      subst (λ xs. Searches cs left front0 bound0 xs 0) t n.searches in
      subst (λ xs. places_left (length cs) (length left) xs 0 <
      places_left (length cs) (length left) (take count choice) bound) (sym t)
      (push_falls cs left front0 bound0 (take count choice) bound class (length left) q l (omega arith))

  -- the front of one choice more
  split_front : (choice : List ℕ) (count k : ℕ) → count ≡ k + 1 → k < length choice
      → take count choice ≡ take k choice ++ get_or choice k 0 ∷ []
  split_front choice count k e h = ap (λ j. take j choice) e ∙ take_more choice k 0 h

  -- back by one choice, in the list of choices
  pub stands-back : (choice : List ℕ) (count k bound : ℕ) → length choice ≡ length left → count < length choice
      → count ≡ k + 1 → Stands cs left front0 bound0 choice count bound → HasNoClass cs left (take count choice) bound
      → Stands cs left front0 bound0 choice k (get_or choice k 0 + 1)
  stands-back choice count k bound e h is s n =
      let within : k ≤ length choice = omega arith in
      let front : length (take k choice) ≡ k = length-take-le k choice within in
      let t : take count choice ≡ take k choice ++ get_or choice k 0 ∷ [] =
      split_front choice count k is (omega arith) in
      record {
        within = within;
        at_end = λ z. absurd (omega arith);
        searches = searches-back cs left front0 bound0 (take k choice)
            (get_or choice k 0) bound (subst (λ xs. Searches cs left front0 bound0 xs bound) t s.searches) (omega arith)
            (subst (λ xs. HasNoClass cs left xs bound) t n);
      }

  -- it leaves fewer places
  pub back-falls : (choice : List ℕ) (count k bound : ℕ) → length choice ≡ length left → count < length choice
      → count ≡ k + 1 → Stands cs left front0 bound0 choice count bound
      → places_left (length cs) (length left) (take k choice) (get_or choice k 0 + 1) <
      places_left (length cs) (length left) (take count choice) bound
  back-falls choice count k bound e h is s =
      let within : k ≤ length choice = omega arith in
      let front : length (take k choice) ≡ k = length-take-le k choice within in
      let t : take count choice ≡ take k choice ++ get_or choice k 0 ∷ [] =
      split_front choice count k is (omega arith) in
      let q : Searches cs left front0 bound0 (take k choice ++ get_or choice k 0 ∷ []) bound =
      subst (λ xs. Searches cs left front0 bound0 xs bound) t s.searches in
      subst (λ xs. places_left (length cs) (length left) (take k choice) (get_or choice k 0 + 1) <
      places_left (length cs) (length left) xs bound) (sym t)
      (back_falls cs left front0 bound0 (take k choice) (get_or choice k 0) bound (length left) q (omega arith))

  -- where the first item has no class there is no pairing
  pub stands-none : (choice : List ℕ) (count bound : ℕ) → length choice ≡ length left → count < length choice
      → count ≡ 0 → Stands cs left front0 bound0 choice count bound → HasNoClass cs left (take count choice) bound
      → NoneAt cs left front0 bound0
  stands-none choice count bound e h z s n =
      searches-none cs left front0 bound0 bound
      (subst (λ k. Searches cs left front0 bound0 (take k choice) bound) z s.searches) (omega arith)
      (subst (λ k. HasNoClass cs left (take k choice) bound) z n)

  -- where each item has a class the choices are the first pairing
  pub stands-found : (choice : List ℕ) (count bound : ℕ) → length choice ≡ length left → length choice ≤ count
      → Stands cs left front0 bound0 choice count bound → IsFirstAt cs left front0 bound0 choice
  stands-found choice count bound e h s =
      let whole : take count choice ≡ choice = take_all count choice h in
      let z : bound ≡ 0 = s.at_end (omega (arith, s.within)) in
      searches-found cs left front0 bound0 choice e
      (subst (λ xs. Searches cs left front0 bound0 xs 0) whole
      (subst (λ b. Searches cs left front0 bound0 (take count choice) b) z s.searches))

-- at the start
pub stands-start : (cs : List ℕ) (left : List (List ℕ)) (choice : List ℕ) (count bound : ℕ) → count ≤ length choice
    → (count ≡ length choice → bound ≡ 0) → IsFront cs left (take count choice)
    → Stands cs left (take count choice) bound choice count bound
stands-start cs left choice count bound h z f =
    record { within = h; at_end = z; searches = searches-start cs left (take count choice) bound f }
