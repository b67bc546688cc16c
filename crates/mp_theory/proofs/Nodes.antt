-- Behind k entries the child that comes next is the k-th of the nodes.
use Rattle.std.proofs.Common.{◌≡◌, ℕ, zero, suc, List, [], ◌∷◌, ◌++◌, length, true, false, refl, ap, sym, ◌∙◌, ◌⊎◌}
use Rattle.std.proofs.Common.{inl, inr, append_assoc, append-nil, drop}
use Rattle.std.specs.Prelude.{Option, Some, slice_get, if◌then◌else◌}
use Rattle.mp_term.specs.Tree.{Tree}
use Rattle.mp_pattern.specs.PatternTree.{Pattern, symbol_pattern, app_pattern, wild_pattern, no_patterns, more_patterns}
use Rattle.mp_pattern.specs.Subpatterns.{subpatterns, all_subpatterns}
use Rattle.mp_pattern.specs.Fits.{Entry, Table}
use Rattle.mp_theory.specs.Frames.{Frame, Next, ended, refused, child, is_done, settle, start}
use Rattle.mp_theory.specs.Machine.{entered, taken_out, onward}
use Rattle.mp_theory.specs.Items.{onward_all}
use Rattle.mp_theory.specs.Nodes.{frames_nodes, place_nodes}

-- frames settle to a refusal, or to a place with their nodes
pub nodes-settle : (fs : List Frame) → (settle fs ≡ refused) ⊎ (place_nodes (settle fs) ≡ frames_nodes fs)
nodes-settle [] = inr refl
nodes-settle (f ∷ fs) =
    elim f.children as
    (λ c. (elim c [
      | no_patterns ↦ if is_done f.left f.owes then settle fs else refused
      | more_patterns p ps ↦ child p (record f { children = ps }) fs
    ] ≡ refused) ⊎ (place_nodes
    (elim c [
      | no_patterns ↦ if is_done f.left f.owes then settle fs else refused
      | more_patterns p ps ↦ child p (record f { children = ps }) fs
    ]) ≡ all_subpatterns c ++ frames_nodes fs)) [
      | no_patterns ↦ elim (is_done f.left f.owes) as
          (λ b. ((if b then settle fs else refused) ≡ refused)
          ⊎ (place_nodes (if b then settle fs else refused) ≡ frames_nodes fs))
          [ true ↦ nodes-settle fs | false ↦ inl refl ]
      | more_patterns p ps ↦ inr (sym (append_assoc (subpatterns p) (all_subpatterns ps) (frames_nodes fs)))
    ]

-- an entry is one node
pub nodes-onward : (p : Pattern) (f : Frame) (fs : List Frame) (e : Entry)
    → (onward (child p f fs) e ≡ refused)
    ⊎ (place_nodes (onward (child p f fs) e) ≡ drop 1 (place_nodes (child p f fs)))
nodes-onward (symbol_pattern n) f fs e = nodes-settle (taken_out (symbol_pattern n) e f ∷ fs)
nodes-onward (wild_pattern w x) f fs e = nodes-settle (taken_out (wild_pattern w x) e f ∷ fs)
nodes-onward (app_pattern g ps) f fs e =
    nodes-settle (entered (app_pattern g ps) e (taken_out (app_pattern g ps) e f ∷ fs))

-- nothing comes behind the end or a refusal
refused_all : (T : Table) → onward_all refused T ≡ refused
refused_all [] = refl
refused_all (e ∷ T) = refused_all T

-- behind k entries the nodes are those from the k-th on
pub nodes-onward_all : (n : Next) (T : Table) (p : Pattern) (f : Frame) (fs : List Frame)
    → onward_all n T ≡ child p f fs → place_nodes (child p f fs) ≡ drop (length T) (place_nodes n)
nodes-onward_all n [] p f fs h = ap place_nodes (sym h)
nodes-onward_all ended (e ∷ T) p f fs h = let q : refused ≡ child p f fs = sym (refused_all T) ∙ h in cc
nodes-onward_all refused (e ∷ T) p f fs h = let q : refused ≡ child p f fs = sym (refused_all T) ∙ h in cc
nodes-onward_all (child c g gs) (e ∷ T) p f fs h =
    elim (nodes-onward c g gs e) [
      | inl q ↦ (let r : refused ≡ child p f fs = sym (refused_all T) ∙ ap (λ m. onward_all m T) (sym q) ∙ h in cc)
      | inr q ↦ nodes-onward_all (onward (child c g gs) e) T p f fs h ∙ ap (drop (length T)) q
          ∙ dropped (length T) (place_nodes (child c g gs))
    ]
  where
    dropped : (k : ℕ) (ps : List Pattern) → drop k (drop 1 ps) ≡ drop (suc k) ps
    dropped zero [] = refl
    dropped (suc k) [] = refl
    dropped k (q ∷ ps) = refl

-- the child that comes next is the first of the place's nodes
first-place_nodes : (p : Pattern) (f : Frame) (fs : List Frame) → slice_get (place_nodes (child p f fs)) 0 ≡ Some p
first-place_nodes (symbol_pattern n) f fs = refl
first-place_nodes (wild_pattern w x) f fs = refl
first-place_nodes (app_pattern g ps) f fs = refl

slice_get-from_drop : {X : Type 0} (k : ℕ) (xs : List X) (o : Option X) → slice_get (drop k xs) 0 ≡ o
    → slice_get xs k ≡ o
slice_get-from_drop zero xs o h = h
slice_get-from_drop (suc k) [] o h = h
slice_get-from_drop (suc k) (x ∷ xs) o h = slice_get-from_drop k xs o h

-- so it is the k-th of the nodes
pub node-onward_all : (n : Next) (T : Table) (p : Pattern) (f : Frame) (fs : List Frame)
    → onward_all n T ≡ child p f fs → slice_get (place_nodes n) (length T) ≡ Some p
node-onward_all n T p f fs h =
    slice_get-from_drop (length T) (place_nodes n) (Some p)
    (ap (λ ps. slice_get ps 0) (sym (nodes-onward_all n T p f fs h)) ∙ first-place_nodes p f fs)

-- from frames on
pub node-settle : (gs : List Frame) (T : Table) (p : Pattern) (f : Frame) (fs : List Frame)
    → onward_all (settle gs) T ≡ child p f fs
    → (place_nodes (child p f fs) ≡ drop (length T) (frames_nodes gs))
    × (slice_get (frames_nodes gs) (length T) ≡ Some p)
node-settle gs T p f fs h =
    elim (nodes-settle gs) [
      | inl q ↦ (let r : refused ≡ child p f fs = sym (refused_all T) ∙ ap (λ m. onward_all m T) (sym q) ∙ h in cc)
      | inr q ↦ (
        nodes-onward_all (settle gs) T p f fs h ∙ ap (drop (length T)) q,
        ap (λ ps. slice_get ps (length T)) (sym q) ∙ node-onward_all (settle gs) T p f fs h,
      )
    ]

-- before the first node they are the subpatterns of the pattern
pub nodes-start : (p : Pattern) (t : Tree) → place_nodes (settle (start p t)) ≡ subpatterns p
nodes-start p t = append-nil (subpatterns p)
