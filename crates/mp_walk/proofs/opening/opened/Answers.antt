use Rattle.std.proofs.Common.{◌≡◌, ◌+◌, ◌++◌, false, length, Some, refl}
use Rattle.std.proofs.Common.{[], ◌∷◌, ap, sym, ◌∙◌, subst, arith}
use Rattle.mp_pattern.specs.NetTokenView.{net_token}
use Rattle.mp_walk.specs.Course.{opens_after, rest_by, IsWayValid}
use Rattle.mp_walk.specs.OpenOnes.{AreFrames, open_of, opens}
use Rattle.mp_walk.specs.SoundTokens.{IsSoundToken}
use Rattle.mp_walk.proofs.OpeningLaws.{index-at, opened-leave, outer-below, opened-rest, frames-rest, opens_by-rest}
use Rattle.mp_walk.proofs.OpeningLaws.{opened-enter, frames-enter}
use Rattle.std.proofs.lemmas.List.{append_assoc}
use Rattle.mp_term.specs.Signature.{is_comm}
use Rattle.mp_pattern.specs.NetTokens.{enter_token}
use Rattle.mp_walk.proofs.opening.opened.Goals as goal

pub returns-in-Leave-clause-open : goal.returns-in-Leave-clause-open
returns-in-Leave-clause-open c =
    opened-leave c.args.sig.now c.args.table.now c.args.frames.now.items c.requires.frames c.args.place
    c.index.result.now
    (index-at c.args.frames.now.items c.args.place c.index.result.now c.requires.place
    c.index.ensures) c.in-Leave.field-0.0 c.args.way
    ∙ sym (ap (λ k. opens_after (net_token k)
    (opens c.args.table.now c.args.frames.now.items (Some c.args.place)) c.args.way) c.in-Leave.is)

pub returns-in-Leave-clause-place : goal.returns-in-Leave-clause-place
returns-in-Leave-clause-place c =
    outer-below c.args.sig.now c.args.table.now c.args.frames.now.items c.requires.frames c.args.place
    c.index.result.now
    (index-at c.args.frames.now.items c.args.place c.index.result.now c.requires.place c.index.ensures)

pub rest-requires : goal.rest-requires
rest-requires c =
    let at = index-at c.args.frames.now.items c.args.place c.index.result.now c.requires.place c.index.ensures in
    record {
      frame = (c.requires.frames c.args.place c.index.result.now at).frame;
      valid =
          c.requires.valid c.index.result.now at;
    }

pub returns-in_default-token : goal.returns-in_default-token
returns-in_default-token c =
    let at = index-at c.args.frames.now.items c.args.place c.index.result.now c.requires.place c.index.ensures in
    let h = c.rest.ensures in
    record {
      «open» = ap (λ l. opens c.args.table.now l (Some c.len-behind.result)) c.push_reserved.ensures.items
          ∙ ap (λ n. opens c.args.table.now (c.args.frames.now.items ++ c.rest.result ∷ []) (Some n))
          (c.len-behind.ensures ∙ c.args.frames.now.ok.0)
          ∙ opened-rest c.args.sig.now c.args.table.now c.args.frames.now.items c.requires.frames c.args.place
          c.index.result.now at
          (net_token c.args.token.now) c.args.way c.rest.result h.frame h.«open» h.outer h.under
          (opens_by-rest c.args.token.now (open_of c.args.table.now c.index.result.now) c.args.way
          c.in_default.not-Leave c.in_default-token.not-Enter);
      place = (let l = c.push_reserved.ensures.len in let e = c.len-behind.ensures in let
          n = c.push_reserved.new.self.ok.0 in omega (arith, l, e, n));
      frames = subst (AreFrames c.args.sig.now c.args.table.now) (sym c.push_reserved.ensures.items)
          (frames-rest c.args.sig.now c.args.table.now c.args.frames.now.items c.requires.frames c.args.place
          c.index.result.now at
          (net_token c.args.token.now) c.args.way c.rest.result h.frame h.«open» h.outer h.under);
      front = (c.rest.result ∷ [], c.push_reserved.ensures.items);
    }

pub entered-requires : goal.entered-requires
entered-requires c =
    let at = index-at c.args.frames.now.items c.args.place c.index.result.now c.requires.place c.index.ensures in
    record {
      frame = (c.requires.frames c.args.place c.index.result.now at).frame;
      some = (subst (λ k. IsWayValid (net_token k) (open_of c.args.table.now c.index.result.now) c.args.way)
          c.in-Enter.is (c.requires.valid c.index.result.now at)).0;
    }

pub returns : goal.returns
returns c =
    let at = index-at c.args.frames.now.items c.args.place c.index.result.now c.requires.place c.index.ensures in
    let h = c.rest.ensures in
    let is : open_of c.args.table.now c.rest.result
    ≡ rest_by (enter_token c.in-Enter.op.0) (open_of c.args.table.now c.index.result.now) c.args.way =
    h.«open» ∙ ap (λ k. rest_by (net_token k)
    (open_of c.args.table.now c.index.result.now) c.args.way) c.in-Enter.is in
    let count : c.len-behind.result ≡ length c.args.frames.now.items = c.len-behind.ensures ∙ c.args.frames.now.ok.0 in
    let ordered : is_comm c.args.sig.now c.in-Enter.op.0 ≡ false =
    subst (λ k. IsSoundToken c.args.sig.now (net_token k)) c.in-Enter.is c.requires.sound in
    let h2 = c.entered.ensures in
    let outer : c.entered.result.outer ≡ Some (length c.args.frames.now.items) = h2.outer ∙ ap Some count in
    let all : c.push_reserved-2.new.self.items ≡ (c.args.frames.now.items ++ c.rest.result ∷ [])
    ++ c.entered.result ∷ [] =
    c.push_reserved-2.ensures.items ∙ ap (λ l. l ++ c.entered.result ∷ []) c.push_reserved.ensures.items in
    let opens-so = opened-enter c.args.sig.now c.args.table.now c.args.frames.now.items c.requires.frames c.args.place
    c.index.result.now at c.in-Enter.op c.args.way c.rest.result h.frame is h.outer h.under ordered c.entered.result
    h2.frame (h2.«open» c.args.way refl) h2.under outer in
    record {
      «open» = ap (λ l. opens c.args.table.now l (Some (c.len-behind.result + 1))) all
          ∙ ap (λ n. opens c.args.table.now ((c.args.frames.now.items ++ c.rest.result ∷ []) ++ c.entered.result ∷ [])
          (Some (n + 1))) count
          ∙ opens-so
          ∙ sym (ap (λ k. opens_after (net_token k)
          (opens c.args.table.now c.args.frames.now.items (Some c.args.place)) c.args.way) c.in-Enter.is);
      place = (let l = c.push_reserved.ensures.len in let m = c.push_reserved-2.ensures.len in let
          e = c.len-behind.ensures in
          let n = c.push_reserved-2.new.self.ok.0 in omega (arith, l, m, e, n));
      frames = subst (AreFrames c.args.sig.now c.args.table.now) (sym all)
          (frames-enter c.args.sig.now c.args.table.now c.args.frames.now.items c.requires.frames c.args.place
          c.index.result.now at c.in-Enter.op c.args.way c.rest.result h.frame is h.outer h.under ordered
          c.entered.result h2.frame (h2.«open» c.args.way refl) h2.under outer);
      front = (
        c.rest.result ∷ c.entered.result ∷ [],
        c.push_reserved-2.ensures.items
            ∙ ap (λ l. l ++ c.entered.result ∷ []) c.push_reserved.ensures.items
            ∙ append_assoc c.args.frames.now.items (c.rest.result ∷ []) (c.entered.result ∷ []),
      );
    }
