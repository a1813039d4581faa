use Rattle.std.proofs.Common.{sym, subst}
use Rattle.rsl_chain.specs.declared.entries.EntryBody.{EntryBody}
use Rattle.pushes.specs.Going.{GoWith}
use Rattle.pushes.proofs.going.ids_with.Goals as goal

pub returns-in_ok-reached_ids-in-Reference-clause-go :
    goal.returns-in_ok-reached_ids-in-Reference-clause-go
returns-in_ok-reached_ids-in-Reference-clause-go g c = λ r told.
    subst (λ (body : EntryBody). GoWith r c.args.before.now body c.in_ok-reached_ids-in-Reference.field-0.items) (sym c.in-Reference.is)
    (record {
      was = c.in_ok-was-in-Reference.was';
      value = c.in_ok-was-in-Reference.ensures.value r (c.in_ok-reached_ids-in-Reference.ensures.same.content r told);
      reached = c.in_ok-reached_ids-in-Reference.ensures.reached r told;
    })
