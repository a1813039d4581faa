use Rattle.std.proofs.Common.{◌≡◌, ◌∙◌, ◌++◌, ◌∷◌, [], ap, map, subst, sym, take, true, List, ℕ}
use Rattle.std.specs.Prelude.{All}
use Rattle.std.specs.List.{AllByRecursion}
use Rattle.std.specs.List.Sorted.{IsStrictlySortedBy}
use Rattle.std.proofs.lemmas.List.{map-id}
use Rattle.octets.specs.BytesMap.{by_bytes}
use Rattle.git_object.specs.Ids.{IsId}
use Rattle.root_metadata.specs.Risings.{is_next}
use Rattle.root_metadata.specs.declared.persons.Person.{Person}
use Rattle.metadata_writing.specs.Texts.{IsNamed}
use Rattle.demo.specs.Policies.{person_of}
use Rattle.demo.proofs.RisingPersons.{all_more, each_more, ids_more, person_next, persons_more}
use Rattle.demo.proofs.metadata.persons_of.Goals as goal

pub push-requires : goal.push-requires
push-requires c =
    let ids : List (List ℕ) = c.as_slice-id-items.result.now in
    let rising : IsStrictlySortedBy by_bytes ids = subst (IsStrictlySortedBy by_bytes) (map-id c.in_ok-set.set ∙ sym c.as_slice-id-items.ensures.value) c.as_slice-id-items.ensures.rising in
    let next = person_next ids c.ids.id-index c.id-item.result rising c.ids-test.true c.id-item.is c.ids.invariant.valid c.in_ok-person.ensures.valid in
    subst (λ (p : List Person). is_next (λ (q : Person). q.name) p c.in_ok-person.person.name ≡ true) (sym c.ids.invariant.persons)
    (subst (λ (n : List ℕ). is_next (λ (q : Person). q.name) (map person_of (take c.ids.id-index ids)) n ≡ true) (sym (ap (λ (p : Person). p.name) c.in_ok-person.ensures.person)) next)

pub ids-preserved : goal.ids-preserved
ids-preserved c =
    let ids : List (List ℕ) = c.as_slice-id-items.result.now in
    record {
      persons =
          c.in_ok-push.ensures.added ∙ (λ j. (c.ids.invariant.persons j) ++ c.in_ok-person.ensures.person j ∷ [])
          ∙ sym (persons_more ids c.ids.id-index c.id-item.result c.ids-test.true c.id-item.is);
      named = subst (λ (p : List Person). All IsNamed p) (sym c.in_ok-push.ensures.added) (all_more IsNamed c.ids.persons c.in_ok-person.person c.ids.invariant.named c.in_ok-person.ensures.named);
      valid =
          subst (AllByRecursion IsId) (sym (ids_more ids c.ids.id-index c.id-item.result c.ids-test.true c.id-item.is))
          (each_more IsId (take c.ids.id-index ids) c.id-item.result c.ids.invariant.valid c.in_ok-person.ensures.valid);
    }
