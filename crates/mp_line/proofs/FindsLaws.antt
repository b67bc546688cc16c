-- What is found, said of other words.
use Rattle.std.proofs.Common.{◌≡◌, Option, Some, None, ap, ◌∙◌}
use Rattle.std.specs.Prelude.{Result, Ok, Err, IfOk}
use Rattle.mp_line.specs.Finds.{Finds}

-- what is found by one fact is found by another that says the same
pub Finds-like : {T A : Type 0} (view : T → A) (P Q : A → Type 0) (r : Option T) → ((a : A) → P a → Q a)
    → ((a : A) → Q a → P a) → Finds view P r → Finds view Q r
Finds-like view P Q None to from h = λ a q. h a (from a q)
Finds-like view P Q (Some v) to from h = record { is = to (view v) h.is; only = λ b q. h.only b (from b q) }

-- what holds of a value in one way holds of it in another
pub IfOk-also : {T E : Type 0} (r : Result T E) (P Q : T → Type 0) → ((v : T) → P v → Q v) → IfOk r P → IfOk r Q
IfOk-also (Ok v) P Q to h = to v h
IfOk-also (Err e) P Q to h = h

-- what is found is a part of what is to be found
pub Finds-through : {T A B : Type 0} (view : T → B) (f : B → A) (Q : B → Type 0) (P : A → Type 0) (r : Option T)
    → ((b : B) → Q b → P (f b)) → ((a : A) → P a → (b : B) × (a ≡ f b) × Q b) → Finds view Q r
    → Finds (λ t. f (view t)) P r
Finds-through view f Q P None to from h = λ a p. (let m = from a p in h m.0 m.2)
Finds-through view f Q P (Some v) to from h = record {
  is = to (view v) h.is;
  only = λ a p. (let m = from a p in m.1 ∙ ap f (h.only m.0 m.2));
}
