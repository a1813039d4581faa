use Rattle.git_object.specs.Repository.{empty_repository}
use Rattle.keeper_api.specs.Changes.{changed}
use Rattle.mirror.specs.Offers.{IsOffered}
use Rattle.mirror.proofs.Offered.{keeper_quiet, mirrors, refuses, refuses_input, source_quiet, unread, unread_stream}
use Rattle.mirror.proofs.mirroring.offer.Goals as goal

pub returns-in-Err-clause-refused : goal.returns-in-Err-clause-refused
returns-in-Err-clause-refused g c =
    unread g.R.Keeper (g.S.Source.left c.args.source.now) (g.S.Source.left c.read_offered.new.source) c.args.kept.now c.in-Err.fault c.in-Err.ensures.only

pub returns-in-Err-clause-input : goal.returns-in-Err-clause-input
returns-in-Err-clause-input g c =
    unread_stream (g.S.Source.left c.args.source.now) (g.S.Source.left c.read_offered.new.source) c.in-Err.fault c.in-Err.ensures.refused

pub returns-in-Err-clause-kept_cause : goal.returns-in-Err-clause-kept_cause
returns-in-Err-clause-kept_cause g c = keeper_quiet (g.R.Keeper.faults c.args.kept.now) c.in-Err.fault c.in-Err.ensures.only

pub returns-clause-ok : goal.returns-clause-ok
returns-clause-ok g c =
    let left = g.S.Source.left c.args.source.now in
    let left_now = g.S.Source.left c.read_offered.new.source in
    let offered = changed c.in-Ok.change empty_repository in
    let is : IsOffered left left_now offered = record { bytes = c.in-Ok.ensures.found.bytes; was_read = c.in-Ok.ensures.found.was_read; text = c.in-Ok.ensures.found.text } in
    mirrors g.R.Keeper left left_now c.args.kept.now c.offer_change.new.kept offered is c.offer_change.result c.offer_change.ensures.ends

pub returns-clause-refused : goal.returns-clause-refused
returns-clause-refused g c =
    let left = g.S.Source.left c.args.source.now in
    let left_now = g.S.Source.left c.read_offered.new.source in
    let offered = changed c.in-Ok.change empty_repository in
    let is : IsOffered left left_now offered = record { bytes = c.in-Ok.ensures.found.bytes; was_read = c.in-Ok.ensures.found.was_read; text = c.in-Ok.ensures.found.text } in
    refuses g.R.Keeper left left_now c.args.kept.now c.offer_change.new.kept offered is c.offer_change.result c.offer_change.ensures.ends

pub returns-clause-input : goal.returns-clause-input
returns-clause-input g c =
    let left = g.S.Source.left c.args.source.now in
    let left_now = g.S.Source.left c.read_offered.new.source in
    let offered = changed c.in-Ok.change empty_repository in
    let is : IsOffered left left_now offered = record { bytes = c.in-Ok.ensures.found.bytes; was_read = c.in-Ok.ensures.found.was_read; text = c.in-Ok.ensures.found.text } in
    refuses_input g.R.Keeper left left_now c.args.kept.now c.offer_change.new.kept offered is c.offer_change.result c.offer_change.ensures.ends

pub returns-clause-source_cause : goal.returns-clause-source_cause
returns-clause-source_cause g c =
    let left = g.S.Source.left c.args.source.now in
    let left_now = g.S.Source.left c.read_offered.new.source in
    let offered = changed c.in-Ok.change empty_repository in
    let is : IsOffered left left_now offered = record { bytes = c.in-Ok.ensures.found.bytes; was_read = c.in-Ok.ensures.found.was_read; text = c.in-Ok.ensures.found.text } in
    source_quiet g.R.Keeper left left_now c.args.kept.now c.offer_change.new.kept offered is (g.S.Source.faults c.args.source.now) (g.S.Source.faults c.read_offered.new.source)
    c.offer_change.result c.offer_change.ensures.ends c.in-Ok.ensures.cause.later c.in-Ok.ensures.cause.is
