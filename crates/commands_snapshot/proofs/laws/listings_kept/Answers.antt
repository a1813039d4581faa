use Rattle.commands_snapshot.proofs.laws.listings_kept.Goals as goal

pub returns : goal.returns
returns c = λ r readings are rows made is held. (is.leads readings.trees (c.kept.ensures r readings are made.objects held), is.visited readings.trees (c.kept.ensures r readings are made.objects held))
