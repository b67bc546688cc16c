-- A walk over a forest puts out, number by number, what the list that leads to it puts out by itself.
use Rattle.std.proofs.Common.{◌≡◌, ℕ, List, [], ◌∷◌, ◌++◌, map, Bool, true, false, refl, ap, sym, ◌∙◌, ◌⊎◌, inl, inr}
use Rattle.std.proofs.Common.{subst, append_assoc}
use Rattle.std.proofs.lemmas.List.{map-append}
use Rattle.std.specs.Prelude.{flat_map, if◌then◌else◌}
use Rattle.mp_term.specs.Listing.{In}
use Rattle.mp_term.proofs.SearchLaws.{in-left, in-right, from_in-append, in-map, from_in-map, in-flat, from_in-flat}
use Rattle.mp_ac.specs.CommItems.{NoneTwice}
use Rattle.mp_walk.specs.Forests.{node, Forest, none, beside, lists, runs, put_out, walk}

-- a pair in a list
abbrev pair : {A B : Type 0} → A → B → A × B
pair a b = (a, b)

module _ {S K O : Type 0} (steps : S → K → List (List O × S)) (ends : S → Bool) where
  abbrev Out : Type 0
  Out = ℕ × List O

  abbrev Listed : Type 0
  Listed = ℕ × List K

  abbrev Runs : List K → S → List O → List (List O)
  Runs = runs steps ends

  abbrev Walk : Forest K → S → List O → List Out
  Walk = walk steps ends

  abbrev Put : List ℕ → S → List O → List Out
  Put = put_out steps ends

  -- what a step leads to at a node
  abbrev Led : List ℕ → Forest K → List O → List O × S → List Out
  Led ns below before r = Put ns r.1 (before ++ r.0) ++ Walk below r.1 (before ++ r.0)

  -- an item comes from a list of the forest
  pub record ComesFrom (f : Forest K) (s : S) (before : List O) (n : ℕ) (T : List O) : Type 0 where
    pub tokens : List K
    pub listed : In {X = Listed} (n, tokens) (lists f)
    pub run : In T (Runs tokens s before)

  -- ---- what is put out at one place

  put-from : (ns : List ℕ) (s : S) (before : List O) (n : ℕ) (T : List O) → In {X = Out} (n, T) (Put ns s before)
      → In n ns × In T (Runs [] s before)
  put-from ns s before n T h = by_end (ends s) refl h
    where
      by_end : (b : Bool) → ends s ≡ b → In {X = Out} (n, T) (if b then map (λ m. (m, before)) ns else [])
          → In n ns × In T (if ends s then before ∷ [] else [])
      by_end false e i = absurd i
      by_end true e i =
          let a = from_in-map (λ m. (m, before)) (n, T) ns i in
          (subst (λ z. In z ns) (sym (ap (λ z. z.0) a.1)) a.2, rw e (inl (ap (λ z. z.1) a.1)))

  put-found : (ns : List ℕ) (s : S) (before : List O) (n : ℕ) (T : List O) → In n ns → In T (Runs [] s before)
      → In {X = Out} (n, T) (Put ns s before)
  put-found ns s before n T i h = by_end (ends s) h
    where
      by_end : (b : Bool) → In T (if b then before ∷ [] else [])
          → In {X = Out} (n, T) (if b then map (λ m. (m, before)) ns else [])
      by_end false h = absurd h
      by_end true (inr h) = absurd h
      by_end true (inl e) = subst (λ U. In {X = Out} (n, U) (map (λ m. (m, before)) ns)) (sym e)
          (in-map (λ m. (m, before)) n ns i)

  -- ---- what the walk puts out comes from a list

  pub walk-from : (f : Forest K) (s : S) (before : List O) (n : ℕ) (T : List O) → In {X = Out} (n, T) (Walk f s before)
      → ComesFrom f s before n T
  walk-from none s before n T h = absurd h
  walk-from (beside (node k ns below) fs) s before n T h =
      by_part (from_in-append (n, T) (flat_map (λ r. Put ns r.1 (before ++ r.0) ++ Walk below r.1 (before ++ r.0))
      (steps s k)) (Walk fs s before) h)
      (λ r i. walk-from below r.1 (before ++ r.0) n T i) (λ i. walk-from fs s before n T i)
    where
      by_part : In {X = Out} (n, T) (flat_map (λ r. Put ns r.1 (before ++ r.0) ++ Walk below r.1 (before ++ r.0))
          (steps s k)) ⊎ In {X = Out} (n, T) (Walk fs s before)
          → ((r : List O × S) → In {X = Out} (n, T) (Walk below r.1 (before ++ r.0))
          → ComesFrom below r.1 (before ++ r.0) n T)
          → (In {X = Out} (n, T) (Walk fs s before) → ComesFrom fs s before n T)
          → ComesFrom (beside (node k ns below) fs) s before n T
      by_part (inr i) down over =
          let c = over i in
          record {
            tokens = c.tokens;
            listed = in-right (n, c.tokens) (map (λ m. (m, k ∷ [])) ns)
                (map (λ l. (l.0, k ∷ l.1)) (lists below) ++ lists fs)
                (in-right (n, c.tokens) (map (λ l. (l.0, k ∷ l.1)) (lists below)) (lists fs) c.listed);
            run = c.run;
          }
      by_part (inl i) down over =
          let a = from_in-flat (λ r. Put ns r.1 (before ++ r.0) ++ Walk below r.1 (before ++ r.0)) (n, T)
          (steps s k) i in
          let r = a.0 in
          elim (from_in-append (n, T) (Put ns r.1 (before ++ r.0)) (Walk below r.1 (before ++ r.0)) a.2) [
            | inl j ↦
                let p = put-from ns r.1 (before ++ r.0) n T j in
                record {
                  tokens = k ∷ [];
                  listed = in-left (n, k ∷ []) (map (λ m. (m, k ∷ [])) ns)
                      (map (λ l. (l.0, k ∷ l.1)) (lists below) ++ lists fs) (in-map (λ m. (m, k ∷ [])) n ns p.0);
                  run = in-flat (λ q. Runs [] q.1 (before ++ q.0)) r T (steps s k) a.1 p.1;
                }
            | inr j ↦
                let c = down r j in
                record {
                  tokens = k ∷ c.tokens;
                  listed = in-right (n, k ∷ c.tokens) (map (λ m. (m, k ∷ [])) ns)
                      (map (λ l. (l.0, k ∷ l.1)) (lists below) ++ lists fs)
                      (in-left (n, k ∷ c.tokens) (map (λ l. (l.0, k ∷ l.1)) (lists below)) (lists fs)
                      (in-map (λ l. (l.0, k ∷ l.1)) (n, c.tokens) (lists below) c.listed));
                  run = in-flat (λ q. Runs c.tokens q.1 (before ++ q.0)) r T (steps s k) a.1 c.run;
                }
          ]

  -- ---- and what each list puts out, the walk puts out

  pub walk-found : (f : Forest K) (s : S) (before : List O) (n : ℕ) (T : List O) (ks : List K)
      → In {X = Listed} (n, ks) (lists f) → In T (Runs ks s before) → In {X = Out} (n, T) (Walk f s before)
  walk-found none s before n T ks i h = absurd i
  walk-found (beside (node k ns below) fs) s before n T ks i h =
      by_part (from_in-append (n, ks) (map (λ m. (m, k ∷ [])) ns)
      (map (λ l. (l.0, k ∷ l.1)) (lists below) ++ lists fs) i) h
      (λ r js a b. walk-found below r.1 (before ++ r.0) n T js a b) (λ a b. walk-found fs s before n T ks a b)
    where
      here : (js : List K) → js ≡ k ∷ [] → In n ns → In T (Runs js s before)
          → In {X = Out} (n, T) (flat_map (Led ns below before) (steps s k))
      here js e i h =
          let g : In T (Runs (k ∷ []) s before) = subst (λ z. In T (Runs z s before)) e h in
          let a = from_in-flat (λ r. Runs [] r.1 (before ++ r.0)) T (steps s k) g in
          in-flat (Led ns below before) a.0 (n, T) (steps s k) a.1
          (in-left (n, T) (Put ns a.0.1 (before ++ a.0.0)) (Walk below a.0.1 (before ++ a.0.0))
          (put-found ns a.0.1 (before ++ a.0.0) n T i a.2))

      deeper : (js ls : List K) → js ≡ k ∷ ls → In T (Runs js s before)
          → ((r : List O × S) → In T (Runs ls r.1 (before ++ r.0))
          → In {X = Out} (n, T) (Walk below r.1 (before ++ r.0)))
          → In {X = Out} (n, T) (flat_map (Led ns below before) (steps s k))
      deeper js ls e h down =
          let g : In T (Runs (k ∷ ls) s before) = subst (λ z. In T (Runs z s before)) e h in
          let a = from_in-flat (λ r. Runs ls r.1 (before ++ r.0)) T (steps s k) g in
          in-flat (Led ns below before) a.0 (n, T) (steps s k) a.1
          (in-right (n, T) (Put ns a.0.1 (before ++ a.0.0)) (Walk below a.0.1 (before ++ a.0.0)) (down a.0 a.2))

      by_rest : In {X = Listed} (n, ks) (map (λ l. (l.0, k ∷ l.1)) (lists below)) ⊎ In {X = Listed} (n, ks) (lists fs)
          → In T (Runs ks s before)
          → ((r : List O × S) (js : List K) → In {X = Listed} (n, js) (lists below) → In T (Runs js r.1 (before ++ r.0))
          → In {X = Out} (n, T) (Walk below r.1 (before ++ r.0)))
          → (In {X = Listed} (n, ks) (lists fs) → In T (Runs ks s before) → In {X = Out} (n, T) (Walk fs s before))
          → In {X = Out} (n, T) (flat_map (Led ns below before) (steps s k) ++ Walk fs s before)
      by_rest (inr j) h down over = in-right (n, T) (flat_map (Led ns below before) (steps s k)) (Walk fs s before)
          (over j h)
      by_rest (inl j) h down over =
          let a = from_in-map (λ l. (l.0, k ∷ l.1)) (n, ks) (lists below) j in
          let listed : In {X = Listed} (n, a.0.1) (lists below) = subst (λ z. In {X = Listed} (z, a.0.1) (lists below))
          (sym (ap (λ z. z.0) a.1)) a.2 in
          in-left (n, T) (flat_map (Led ns below before) (steps s k)) (Walk fs s before)
          (deeper ks a.0.1 (ap (λ z. z.1) a.1) h (λ r g. down r a.0.1 listed g))

      by_part : In {X = Listed} (n, ks) (map (λ m. (m, k ∷ [])) ns)
          ⊎ In {X = Listed} (n, ks) (map (λ l. (l.0, k ∷ l.1)) (lists below) ++ lists fs) → In T (Runs ks s before)
          → ((r : List O × S) (js : List K) → In {X = Listed} (n, js) (lists below) → In T (Runs js r.1 (before ++ r.0))
          → In {X = Out} (n, T) (Walk below r.1 (before ++ r.0)))
          → (In {X = Listed} (n, ks) (lists fs) → In T (Runs ks s before) → In {X = Out} (n, T) (Walk fs s before))
          → In {X = Out} (n, T) (flat_map (Led ns below before) (steps s k) ++ Walk fs s before)
      by_part (inl j) h down over =
          let a = from_in-map (λ m. (m, k ∷ [])) (n, ks) ns j in
          in-left (n, T) (flat_map (Led ns below before) (steps s k)) (Walk fs s before)
          (here ks (ap (λ z. z.1) a.1) (subst (λ z. In z ns) (sym (ap (λ z. z.0) a.1)) a.2) h)
      by_part (inr j) h down over = by_rest
          (from_in-append (n, ks) (map (λ l. (l.0, k ∷ l.1)) (lists below)) (lists fs) j) h down over

-- ---- lists of which nothing stands twice

module _ {X : Type 0} where
  -- two lists with nothing in common
  pub none-append : (xs ys : List X) → NoneTwice xs → NoneTwice ys → ((x : X) → In x xs → In x ys → ⊥)
      → NoneTwice (xs ++ ys)
  none-append [] ys h k d = k
  none-append (x ∷ xs) ys h k d = (
    λ i. by_part (from_in-append x xs ys i),
    none-append xs ys h.1 k
        (λ z i j. d z (inr i) j),
  )
    where
      by_part : In x xs ⊎ In x ys → ⊥
      by_part (inl i) = h.0 i
      by_part (inr i) = d x (inl refl) i

  pub none-left : (xs ys : List X) → NoneTwice (xs ++ ys) → NoneTwice xs
  none-left [] ys h = tt
  none-left (x ∷ xs) ys h = (λ i. h.0 (in-left x xs ys i), none-left xs ys h.1)

  pub none-right : (xs ys : List X) → NoneTwice (xs ++ ys) → NoneTwice ys
  none-right [] ys h = h
  none-right (x ∷ xs) ys h = none-right xs ys h.1

  pub none-apart : (xs ys : List X) → NoneTwice (xs ++ ys) → (x : X) → In x xs → In x ys → ⊥
  none-apart [] ys h x i j = absurd i
  none-apart (y ∷ xs) ys h x (inl e) j = h.0 (in-right y xs ys (subst (λ z. In z ys) e j))
  none-apart (y ∷ xs) ys h x (inr i) j = none-apart xs ys h.1 x i j

-- what is mapped from nothing twice by a map that can be taken back
pub none-mapped : {X Y : Type 0} (f : X → Y) (xs : List X) → ((x y : X) → f x ≡ f y → x ≡ y) → NoneTwice xs
    → NoneTwice (map f xs)
none-mapped f [] back h = tt
none-mapped f (x ∷ xs) back h = (
  λ i. let a = from_in-map f (f x) xs i in h.0 (subst (λ z. In z xs) (sym (back x a.0 a.1)) a.2),
  none-mapped f xs back h.1,
)

-- ---- nothing is put out twice

-- the numbers that a forest puts out
abbrev pub numbers : {K : Type 0} → Forest K → List ℕ
numbers f = map (λ l. l.0) (lists f)

-- the numbers of pairs that a map leaves as they are
numbers-kept : {A B : Type 0} (f : ℕ × A → ℕ × B) → ((l : ℕ × A) → (f l).0 ≡ l.0) → (ls : List (ℕ × A))
    → map (λ l. l.0) (map f ls) ≡ map (λ l. l.0) ls
numbers-kept f h [] = refl
numbers-kept f h (l ∷ ls) = ap (λ n. n ∷ map (λ l. l.0) (map f ls)) (h l) ∙ ap (λ ns. l.0 ∷ ns) (numbers-kept f h ls)

numbers-paired : {A : Type 0} (x : A) (ns : List ℕ) → map (λ l. l.0) (map (λ n. pair n x) ns) ≡ ns
numbers-paired x [] = refl
numbers-paired x (n ∷ ns) = ap (λ ms. n ∷ ms) (numbers-paired x ns)

module _ {K : Type 0} where
  -- a number has one list
  one_list : (ls : List (ℕ × List K)) (n : ℕ) (ks js : List K) → NoneTwice (map (λ l. l.0) ls)
      → In {X = ℕ × List K} (n, ks) ls → In {X = ℕ × List K} (n, js) ls → ks ≡ js
  one_list [] n ks js h i j = absurd i
  one_list (l ∷ ls) n ks js h (inl e) (inl f) = ap (λ z. z.1) (e ∙ sym f)
  one_list (l ∷ ls) n ks js h (inl e) (inr j) =
      absurd (h.0 (subst (λ z. In z (map (λ l. l.0) ls)) (ap (λ z. z.0) e) (in-map (λ z. z.0) (n, js) ls j)))
  one_list (l ∷ ls) n ks js h (inr i) (inl f) =
      absurd (h.0 (subst (λ z. In z (map (λ l. l.0) ls)) (ap (λ z. z.0) f) (in-map (λ z. z.0) (n, ks) ls i)))
  one_list (l ∷ ls) n ks js h (inr i) (inr j) = one_list ls n ks js h.1 i j

  pub numbers-beside : (k : K) (ns : List ℕ) (below fs : Forest K)
      → numbers (beside (node k ns below) fs) ≡ ns ++ (numbers below ++ numbers fs)
  numbers-beside k ns below fs =
      map-append (λ l. l.0) (map (λ n. pair n (k ∷ [])) ns) (map (λ l. pair l.0 (k ∷ l.1)) (lists below) ++ lists fs)
      ∙ ap (λ ms. ms ++ map (λ l. l.0) (map (λ l. pair l.0 (k ∷ l.1)) (lists below) ++ lists fs))
      (numbers-paired (k ∷ []) ns)
      ∙ ap (λ ms. ns ++ ms)
      (map-append (λ l. l.0) (map (λ l. pair l.0 (k ∷ l.1)) (lists below)) (lists fs)
      ∙ ap (λ ms. ms ++ numbers fs) (numbers-kept (λ l. pair l.0 (k ∷ l.1)) (λ l. refl) (lists below)))

  -- what a walk goes on with behind the token of a node
  abbrev Tails : List ℕ → Forest K → List (ℕ × List K)
  Tails ns below = map (λ n. pair n []) ns ++ lists below

  tail-numbers : (ns : List ℕ) (below : Forest K) → map (λ l. l.0) (Tails ns below) ≡ ns ++ numbers below
  tail-numbers ns below =
      map-append (λ l. l.0) (map (λ n. pair n []) ns) (lists below)
      ∙ ap (λ ms. ms ++ numbers below) (numbers-paired [] ns)

  -- a list behind the token of a node is, with that token, a list of the forest
  tail-listed : (k : K) (ns : List ℕ) (below fs : Forest K) (n : ℕ) (ks : List K)
      → In {X = ℕ × List K} (n, ks) (Tails ns below)
      → In {X = ℕ × List K} (n, k ∷ ks) (lists (beside (node k ns below) fs))
  tail-listed k ns below fs n ks i =
      elim (from_in-append (n, ks) (map (λ m. pair m []) ns) (lists below) i) [
        | inl j ↦
            let a = from_in-map (λ m. pair m []) (n, ks) ns j in
            in-left (n, k ∷ ks) (map (λ m. pair m (k ∷ [])) ns)
            (map (λ l. pair l.0 (k ∷ l.1)) (lists below) ++ lists fs)
            (subst (λ js. In {X = ℕ × List K} (n, k ∷ js) (map (λ m. pair m (k ∷ [])) ns)) (sym (ap (λ z. z.1) a.1))
            (in-map (λ m. pair m (k ∷ [])) n ns (subst (λ m. In m ns) (sym (ap (λ z. z.0) a.1)) a.2)))
        | inr j ↦
            in-right (n, k ∷ ks) (map (λ m. pair m (k ∷ [])) ns)
            (map (λ l. pair l.0 (k ∷ l.1)) (lists below) ++ lists fs)
            (in-left (n, k ∷ ks) (map (λ l. pair l.0 (k ∷ l.1)) (lists below)) (lists fs)
            (in-map (λ l. pair l.0 (k ∷ l.1)) (n, ks) (lists below) j))
      ]

module _ {S K O : Type 0} (steps : S → K → List (List O × S)) (ends : S → Bool) where
  -- each list puts out nothing twice
  abbrev EachOnce : Forest K → S → List O → Type 0
  EachOnce f s before = (n : ℕ) (ks : List K) → In {X = ℕ × List K} (n, ks) (lists f)
      → NoneTwice (runs steps ends ks s before)

  abbrev Led_on : List ℕ → Forest K → List O → List O × S → List (ℕ × List O)
  Led_on = Led steps ends

  -- what a step leads to comes from one of them
  record LeadsFrom (ns : List ℕ) (below : Forest K) (before : List O) (r : List O × S) (x : ℕ × List O) : Type 0 where
    tokens : List K
    listed : In {X = ℕ × List K} (x.0, tokens) (Tails ns below)
    run : In x.1 (runs steps ends tokens r.1 (before ++ r.0))

  led-from : (ns : List ℕ) (below : Forest K) (before : List O) (r : List O × S) (x : ℕ × List O)
      → In x (Led_on ns below before r) → LeadsFrom ns below before r x
  led-from ns below before r x i =
      elim (from_in-append x (put_out steps ends ns r.1 (before ++ r.0))
      (walk steps ends below r.1 (before ++ r.0)) i) [
        | inl j ↦
            let p = put-from steps ends ns r.1 (before ++ r.0) x.0 x.1 j in
            record {
              tokens = [];
              listed = in-left (x.0, []) (map (λ n. pair n []) ns) (lists below) (in-map (λ n. pair n []) x.0 ns p.0);
              run = p.1;
            }
        | inr j ↦
            let c = walk-from steps ends below r.1 (before ++ r.0) x.0 x.1 j in
            record {
              tokens = c.tokens;
              listed = in-right (x.0, c.tokens) (map (λ n. pair n []) ns) (lists below) c.listed;
              run = c.run;
            }
      ]

  put-once : (ns : List ℕ) (s : S) (before : List O) → NoneTwice ns → NoneTwice (put_out steps ends ns s before)
  put-once ns s before h = elim (ends s) as
      (λ b. NoneTwice {X = ℕ × List O} (if b then map (λ n. (n, before)) ns else [])) [
        | true ↦ none-mapped (λ n. pair n before) ns (λ m n e. ap (λ z. z.0) e) h
        | false ↦ tt
      ]

  -- the number of an item of a walk is one of the forest's
  walk-number : (f : Forest K) (s : S) (before : List O) (x : ℕ × List O) → In x (walk steps ends f s before)
      → In x.0 (numbers f)
  walk-number f s before x i =
      let c = walk-from steps ends f s before x.0 x.1 i in
      in-map (λ l. l.0) (x.0, c.tokens) (lists f) c.listed

  -- what one step leads to
  one_led-once : (ns : List ℕ) (below : Forest K) (before : List O) (r : List O × S) → NoneTwice (ns ++ numbers below)
      → NoneTwice (walk steps ends below r.1 (before ++ r.0)) → NoneTwice (Led_on ns below before r)
  one_led-once ns below before r h w =
      none-append (put_out steps ends ns r.1 (before ++ r.0)) (walk steps ends below r.1 (before ++ r.0))
      (put-once ns r.1 (before ++ r.0) (none-left ns (numbers below) h)) w
      (λ x i j. none-apart ns (numbers below) h x.0 (put-from steps ends ns r.1 (before ++ r.0) x.0 x.1 i).0
      (walk-number below r.1 (before ++ r.0) x j))

  -- what all steps lead to
  led-once : (ns : List ℕ) (below : Forest K) (before : List O) (rs : List (List O × S))
      → NoneTwice (ns ++ numbers below)
      → ((s : S) (b : List O) → EachOnce below s b → NoneTwice (walk steps ends below s b))
      → ((n : ℕ) (ks : List K) → In {X = ℕ × List K} (n, ks) (Tails ns below)
      → NoneTwice (flat_map (λ r. runs steps ends ks r.1 (before ++ r.0)) rs))
      → NoneTwice (flat_map (Led_on ns below before) rs)
  led-once ns below before [] h go e = tt
  led-once ns below before (r ∷ rs) h go e =
      none-append (Led_on ns below before r) (flat_map (Led_on ns below before) rs)
      (one_led-once ns below before r h (go r.1 (before ++ r.0) (λ n ks i.
      none-left (runs steps ends ks r.1 (before ++ r.0)) (flat_map (λ q. runs steps ends ks q.1 (before ++ q.0)) rs)
      (e n ks (in-right (n, ks) (map (λ m. pair m []) ns) (lists below) i)))))
      (led-once ns below before rs h go (λ n ks i.
      none-right (runs steps ends ks r.1 (before ++ r.0)) (flat_map (λ q. runs steps ends ks q.1 (before ++ q.0)) rs)
      (e n ks i)))
      (λ x i j.
      let a = led-from ns below before r x i in
      let b = from_in-flat (Led_on ns below before) x rs j in
      let c = led-from ns below before b.0 x b.2 in
      let p : c.tokens ≡ a.tokens = one_list (Tails ns below) x.0 c.tokens a.tokens
      (subst NoneTwice (sym (tail-numbers ns below)) h) c.listed a.listed in
      none-apart (runs steps ends a.tokens r.1 (before ++ r.0))
      (flat_map (λ q. runs steps ends a.tokens q.1 (before ++ q.0)) rs) (e x.0 a.tokens a.listed) x.1 a.run
      (in-flat (λ q. runs steps ends a.tokens q.1 (before ++ q.0)) b.0 x.1 rs b.1
      (subst (λ ks. In x.1 (runs steps ends ks b.0.1 (before ++ b.0.0))) p c.run)))

  -- where no number stands twice in a forest and no list puts out anything twice, nothing comes twice
  pub walk-once : (f : Forest K) (s : S) (before : List O) → NoneTwice (numbers f) → EachOnce f s before
      → NoneTwice (walk steps ends f s before)
  walk-once none s before h e = tt
  walk-once (beside (node k ns below) fs) s before h e =
      let m : NoneTwice (ns ++ (numbers below ++ numbers fs)) = subst NoneTwice (numbers-beside k ns below fs) h in
      let inside : NoneTwice ((ns ++ numbers below) ++ numbers fs) = subst NoneTwice
      (sym (append_assoc ns (numbers below) (numbers fs))) m in
      none-append (flat_map (Led_on ns below before) (steps s k)) (walk steps ends fs s before)
      (led-once ns below before (steps s k) (none-left (ns ++ numbers below) (numbers fs) inside) (λ t b c.
      walk-once below t b (none-left (numbers below) (numbers fs) (none-right ns (numbers below ++ numbers fs) m)) c)
      (λ n ks i. e n (k ∷ ks) (tail-listed k ns below fs n ks i)))
      (walk-once fs s before (none-right (ns ++ numbers below) (numbers fs) inside) (λ n ks i.
      e n ks (in-right (n, ks) (map (λ m. pair m (k ∷ [])) ns) (map (λ l. pair l.0 (k ∷ l.1)) (lists below) ++ lists fs)
      (in-right (n, ks) (map (λ l. pair l.0 (k ∷ l.1)) (lists below)) (lists fs) i))))
      (λ x i j.
      let b = from_in-flat (Led_on ns below before) x (steps s k) i in
      let c = led-from ns below before b.0 x b.2 in
      none-apart (ns ++ numbers below) (numbers fs) inside x.0
      (subst (In x.0) (tail-numbers ns below) (in-map (λ l. l.0) (x.0, c.tokens) (Tails ns below) c.listed))
      (walk-number fs s before x j))
