use Rattle.std.proofs.Common.{◌+◌, ◌-◌, refl, ap, ◌∙◌, inl, inr}
use Rattle.std.specs.Prelude.{◌^◌, min}
use Rattle.mp_line.specs.LineView.{line_view}
use Rattle.mp_vm.specs.Machine.{stage_of}
use Rattle.mp_vm.proofs.DraftLaws.{IsCounted, op-counted, kind-counted}
use Rattle.mp_vm.proofs.draft.Draft.keep.Goals as goal

pub returns-in-Op : goal.returns-in-Op
returns-in-Op c = λ s l text h.
    let n : IsCounted _ c.args.self.now _ _ c.args.length s l text = record {
      stage = refl;
      format = refl;
      declarations = c.saturating_add-self.ensures;
      declared = c.saturating_add-self-in-Op.ensures ∙ ap (λ m. min (m + 1) (2 ^ 64 - 1)) c.saturating_add.ensures;
      tests = refl;
      rules = refl;
      begin = refl;
      code = refl;
    } in
    elim c.in-Op.is [
      | inl e ↦ op-counted _ _ _ _ _ s l text n (c.stage_of-self.ensures ∙ ap (λ m. stage_of (line_view m)) e)
          (record { draft = h.draft; same = h.same ∙ ap line_view e; long = h.long; few = h.few })
      | inr e ↦ kind-counted _ _ _ _ _ s l text n (c.stage_of-self.ensures ∙ ap (λ m. stage_of (line_view m)) e)
          (record { draft = h.draft; same = h.same ∙ ap line_view e; long = h.long; few = h.few })
    ]
