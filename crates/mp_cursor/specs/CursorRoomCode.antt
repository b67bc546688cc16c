-- Rooms as tuples that give them back.
use Rattle.std.specs.Prelude.{ℕ, refl}
use Rattle.std.specs.Coded.{Coded, code_by, coded×, coded_ℕ}
use Rattle.mp_cursor.specs.CursorRoom.{CursorRoom}

-- the code of rooms
abbrev pub coded_room : Coded CursorRoom
coded_room = code_by (ℕ × (ℕ × ℕ)) (coded× coded_ℕ (coded× coded_ℕ coded_ℕ)) (λ r. (r.nodes, (r.vars, r.width)))
    (λ p. record { nodes = p.0; vars = p.1.0; width = p.1.1 }) (λ _. refl)
