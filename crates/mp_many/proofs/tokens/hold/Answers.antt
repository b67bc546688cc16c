use Rattle.std.proofs.Common.{◌≡◌, ◌∙◌, [], ◌∷◌, ◌++◌, length, map, ap, subst, sym, arith, append-nil}
use Rattle.std.specs.Prelude.{Some, slice_get, slice_index_or}
use Rattle.std.proofs.lemmas.List.{length-append, length-map, map-append}
use Rattle.std.proofs.lemmas.Option.{get_or_from_slice_get, slice_get_within}
use Rattle.mp_pattern.specs.NetTokens.{leave_token}
use Rattle.mp_many.specs.TokenView.{read_token}
use Rattle.mp_many.proofs.KeptLaws.{read-last}
use Rattle.mp_many.proofs.tokens.hold.Goals as goal

pub returns-in-Some : goal.returns-in-Some
returns-in-Some c =
    let held = c.args.held.now.items in
    let place = c.in-Some.place in
    let token = read_token c.args.token in
    let at : slice_get (map read_token held) place ≡ Some token =
    subst (λ ts. slice_get (map read_token ts) place ≡ Some token) c.deref.ensures.value c.in-Some.ensures in
    record {
      more = ([], sym (append-nil (map read_token held)));
      held = omega (arith, slice_get_within (map read_token held) place token at, length-map held read_token);
      read = get_or_from_slice_get (map read_token held) place token (leave_token 0) at;
    }

pub returns : goal.returns
returns c =
    let held = c.args.held.now in
    let token = c.args.token in
    let place : c.len-place.result ≡ length held.items = c.len-place.ensures ∙ held.ok.0 in
    let pushed : c.push.new.self.items ≡ held.items ++ token ∷ [] = c.in_ok-push.ensures.items in
    record {
      more = (
        read_token token ∷ [],
        ap (map read_token) pushed ∙ map-append read_token held.items (token ∷ []),
      );
      held = omega (arith, place, ap length pushed, length-append held.items (token ∷ []));
      read = (λ i. slice_index_or (map read_token (pushed i)) (place i) (leave_token 0))
          ∙ read-last held.items token (leave_token 0);
    }
