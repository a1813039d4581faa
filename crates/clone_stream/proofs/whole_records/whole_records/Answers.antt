use Rattle.std.proofs.Common.{◌≡◌, ◌-◌, ◌++◌, ◌∷◌, [], ℕ, List, length, sym, ap, subst, ◌∙◌, arith, length-append}
use Rattle.std.specs.Prelude.{decimal}
use Rattle.object_lanes.specs.declared.heads.Unnamed.{Unnamed}
use Rattle.clone_stream.specs.Grouped.{AreClaims, IsClaim, claimed_record, claimed_text}
use Rattle.clone_stream.specs.Streams.{object_line}
use Rattle.clone_stream.specs.Words.{IsHead}
use Rattle.clone_stream.specs.declared.whole_records.Claim.{Claim}
use Rattle.clone_stream.proofs.Grouping.{claims_push, in_front, stand_push}
use Rattle.clone_stream.proofs.whole_records.whole_records.Goals as goal

pub records-preserved : goal.records-preserved
records-preserved c =
    let head = c.in-Some.head in
    let more = c.in-Some.more.now in
    let rest = c.records.rest.now in
    let claim : Claim = record { id = head.id; len = length rest - length more } in
    let object : Unnamed = record { kind = head.kind; body = c.in-Ok.body } in
    let same : c.in-Ok.body ≡ c.in-Some.body.now = c.in-Ok.ensures in
    let long : length object.body ≡ head.size = ap length same ∙ c.in-Some.ensures.long in
    let line = object_line head.id head.kind (decimal head.size) in
    let front : rest ≡ claimed_record claim object ++ more =
    in_front claim object head.size rest more long (c.in-Some.ensures.found ∙ ap (λ (body : List ℕ). line ++ 10 ∷ (body ++ 10 ∷ more)) (sym same)) in
    let valid : IsHead head = c.in-Some.ensures.valid in
    let is : IsClaim claim object =
    record { is_id = valid.id; small = omega (arith, long, valid.small); long = omega (arith, ap length front, length-append (claimed_record claim object) more) } in
    let claims : c.push.new.self.items ≡ c.records.claims.items ++ claim ∷ [] = c.in-Ok-push.ensures.items in
    let objects : c.push-in-records.new.self.items ≡ c.records.objects.items ++ object ∷ [] = c.in-Ok-push-2.ensures.items in
    record {
      whole = stand_push c.records.claims.items c.records.objects.items claim object c.args.bytes.now rest more c.records.invariant.are c.records.invariant.whole front
          ∙ (λ i. claimed_text (sym claims i) (sym objects i) ++ more);
      are = subst (λ (cs : List Claim). AreClaims cs c.push-in-records.new.self.items) (sym claims)
          (subst (λ (os : List Unnamed). AreClaims (c.records.claims.items ++ claim ∷ []) os) (sym objects)
          (claims_push c.records.claims.items c.records.objects.items claim object c.records.invariant.are is));
      few = omega (arith, ap length objects, length-append c.records.objects.items (object ∷ []), c.records-test.true, c.len.ensures);
    }
