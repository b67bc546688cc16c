-- The names of the variables of conditions, one behind the other.
use Rattle.std.proofs.Common.{◌≡◌, ◌<◌, ◌≤◌, ◌+◌, ◌++◌, ℕ, zero, suc, List, [], ◌∷◌, length, map, get_or, drop}
use Rattle.std.proofs.Common.{sym, ap, ◌∙◌, append_assoc, arith}
use Rattle.std.specs.Prelude.{Result, Ok, Err, OnOk}
use Rattle.std.proofs.lemmas.List.{append-nil}
use Rattle.std.proofs.lemmas.Grind.{flat_map-append}
use Rattle.std.proofs.Math.ListN.{drop_of_length-le}
use Rattle.mp_io.specs.Devices.{Text}
use Rattle.mp_term.proofs.ListLaws.{drop-item}
use Rattle.mp_pattern.specs.CondSize.{cond_nodes, cond_list_nodes}
use Rattle.mp_pattern.specs.CondTree.{Operand, conds}
use Rattle.mp_pattern.specs.CondView.{cond_tree}
use Rattle.mp_pattern.specs.Operands.{operands, all_operands}
use Rattle.mp_pattern.specs.declared.condition.Cond.{Cond}
use Rattle.mp_program.specs.TokenPaths.{operand_names, cond_names}
use Rattle.mp_line.specs.Named.{operands_names, all_cond_names}

-- none more
pub names-none : (x : List Text) → x ≡ x ++ []
names-none x = sym (append-nil x)

-- those of some operands, and of others behind them
pub names-more : (x y z : List Text) (a b : List Operand) → y ≡ x ++ operands_names a → z ≡ y ++ operands_names b
    → z ≡ x ++ operands_names (a ++ b)
names-more x y z a b e h =
    h ∙ (ap (λ (t : List Text). t ++ operands_names b) e
    ∙ (append_assoc x (operands_names a) (operands_names b)
    ∙ ap (λ (t : List Text). x ++ t) (sym (flat_map-append operand_names a b))))

-- what holds where a call succeeds
pub OnOk-also : {T E : Type 0} (r : Result T E) (P Q : Type 0) → (P → Q) → OnOk r P → OnOk r Q
OnOk-also (Ok v) P Q to h = to h
OnOk-also (Err e) P Q to h = h

-- those of the conditions from an index on
pub names-rest : (cs : List Cond) (i : ℕ) (c : Cond) → i < length cs → c ≡ get_or cs i c
    → all_cond_names (map cond_tree (drop i cs))
    ≡ cond_names (cond_tree c) ++ all_cond_names (map cond_tree (drop (i + 1) cs))
names-rest cs i c within at = ap (λ l. all_cond_names (map cond_tree l)) (drop-item cs i c within at)
    ∙ flat_map-append operand_names (operands (cond_tree c)) (all_operands (conds (map cond_tree (drop (i + 1) cs))))

-- one condition more
pub names-next : (cs : List Cond) (i : ℕ) (c : Cond) → i < length cs → c ≡ get_or cs i c → (x y w : List Text)
    → y ≡ x ++ cond_names (cond_tree c) → x ++ all_cond_names (map cond_tree (drop i cs)) ≡ w
    → y ++ all_cond_names (map cond_tree (drop (i + 1) cs)) ≡ w
names-next cs i c within at x y w e h =
    let rest = all_cond_names (map cond_tree (drop (i + 1) cs)) in
    ap (λ (t : List Text). t ++ rest) e
    ∙ (append_assoc x (cond_names (cond_tree c)) rest
    ∙ (ap (λ (t : List Text). x ++ t) (sym (names-rest cs i c within at)) ∙ h))

-- no condition more
pub names-end : (cs : List Cond) (i : ℕ) → length cs ≤ i → (x w : List Text)
    → x ++ all_cond_names (map cond_tree (drop i cs)) ≡ w → x ≡ w
names-end cs i past x w h =
    names-none x ∙ (ap (λ l. x ++ all_cond_names (map cond_tree l)) (sym (drop_of_length-le cs past)) ∙ h)

-- a condition of a list has no more nodes than the list
pub item-nodes : (cs : List Cond) (i : ℕ) (c : Cond) → i < length cs → c ≡ get_or cs i c
    → cond_nodes (cond_tree c) ≤ cond_list_nodes (map cond_tree cs)
item-nodes [] i c within at = absurd (omega arith)
item-nodes (d ∷ cs) zero c within at =
    let same : cond_nodes (cond_tree c) ≡ cond_nodes (cond_tree d) = ap (λ x. cond_nodes (cond_tree x)) at in
    omega (arith, same)
item-nodes (d ∷ cs) (suc i) c within at = omega (arith, item-nodes cs i c (omega arith) at)
