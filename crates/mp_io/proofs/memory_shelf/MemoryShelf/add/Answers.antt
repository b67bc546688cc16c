use Rattle.std.proofs.Common.{rules, ◌≡◌, ◌++◌, ◌∷◌, [], ap, ◌∙◌}
use Rattle.mp_io.specs.Devices.{held}
use Rattle.mp_io.specs.MemoryShelf.{ShelfState}
use Rattle.mp_io.proofs.Held.{held-append, shelf_state-push}
use Rattle.mp_io.proofs.memory_shelf.MemoryShelf.add.Goals as goal

pub returns-clause-ok : goal.returns-clause-ok
returns-clause-ok c =
    let pushed : c.push.new.self.items ≡ c.self.inside.files.items ++ c.in-Ok.file ∷ [] = search rules in
    shelf_state-push c.self.inside _ c.push.new.self c.in-Ok.file _ _ c.self.view_is c.self.invariant pushed
    c.in-Ok.ensures

pub returns-clause-held : goal.returns-clause-held
returns-clause-held c = λ other. ap (λ (s : ShelfState). held s.files other) (returns-clause-ok c)
    ∙ held-append c.args.self.now.files (c.args.name.now, c.args.bytes.now) other
