use Rattle.std.proofs.Common.{◌<◌, ◌∷◌, arith, length, length-append, rules, sym, ap, ◌∙◌}
use Rattle.std.specs.Prelude.{Ok}
use Rattle.git_object.specs.Names.{components}
use Rattle.tree_paths.proofs.PathNames.{one_more_part, one_part}
use Rattle.approvals.specs.Files.{put_file}
use Rattle.approvals.proofs.Puts.{below_refused, old_refused}
use Rattle.approvals.proofs.Surveyed.{formed_in, if_more, if_refused, last_level}
use Rattle.approvals.proofs.surveys.+survey.Goals as goal

pub returns-in-Err-clause-in_way : goal.returns-in-Err-clause-in_way
returns-in-Err-clause-in_way g t c = λ readings told blob.
    old_refused readings.trees blob c.args.path.now c.args.old.now c.in-Err.id (sym (c.in_ok-entries.ensures.found readings told) ∙ c.in-Err.is)

pub returns-in_default-clause-found : goal.returns-in_default-clause-found
returns-in_default-clause-found g t c =
    last_level (g.R.Keeper.content c.load_old.new.keeper) c.args.path.now c.args.old.now c.in-Ok.entries (formed_in c.in_ok-entries.field-0 c.in-Ok.entries c.in-Ok.is c.in_ok-entries.ensures.formed)
    (λ readings told. sym (c.in_ok-entries.ensures.found readings told) ∙ c.in-Ok.is) c.args.levels.now c.push.new.self c.in_default.ensures.none c.in_ok-push.ensures.added

pub returns-in-Err-dir_named-clause-in_way : goal.returns-in-Err-dir_named-clause-in_way
returns-in-Err-dir_named-clause-in_way g t c = λ readings told blob.
    below_refused readings.trees blob c.args.path.now c.args.old.now c.in-Some.name.now c.in-Some.rest.now c.in-Some.ensures.found c.in-Some.ensures.first c.as_slice.result.now
    (sym (c.in_ok-entries.ensures.found readings told) ∙ c.in-Ok.is ∙ ap Ok (sym c.as_slice.ensures)) c.in-Err-dir_named.id
    (c.in-Err-dir_named.ensures.other (put_file readings.trees blob (components c.in-Some.rest.now)))

pub survey-requires : goal.survey-requires
survey-requires g t c =
    let few = c.requires.few in
    let more = one_more_part c.args.path.now c.in-Some.name.now c.in-Some.rest.now c.in-Some.ensures.found c.in-Some.ensures.first in
    let whole = ap length c.in-Some.ensures.found in
    let parts = length-append c.in-Some.name.now (47 ∷ c.in-Some.rest.now) in
    let shorter : length c.in-Some.rest.now < length c.args.path.now = omega (arith, whole, parts) in
    λ κs below. (first_of (search rules, omega (arith, shorter)), (search rules, omega (arith, few, more)))

pub returns-clause-found : goal.returns-clause-found
returns-clause-found g t c =
    if_more (g.R.Keeper.content c.load_old.new.keeper) (g.R.Keeper.content c.survey.new.keeper) c.survey.ensures.same.content c.args.path.now c.args.old.now c.in-Ok.entries
    (formed_in c.in_ok-entries.field-0 c.in-Ok.entries c.in-Ok.is c.in_ok-entries.ensures.formed) (λ readings told. sym (c.in_ok-entries.ensures.found readings told) ∙ c.in-Ok.is)
    c.in-Some.name.now c.in-Some.rest.now c.in-Some.ensures.found c.in-Some.ensures.first c.as_slice.result.now c.as_slice.ensures c.in-Ok-dir_named.dir c.in-Ok-dir_named.ensures.found
    c.in_ok-in_way.in_way c.args.levels.now c.push-2.new.self c.survey.new.levels c.in_ok-push-2.ensures.added c.in_ok-in_way.ensures.found

pub returns-clause-in_way : goal.returns-clause-in_way
returns-clause-in_way g t c =
    if_refused (g.R.Keeper.content c.load_old.new.keeper) (g.R.Keeper.content c.survey.new.keeper) c.survey.ensures.same.content c.args.path.now c.args.old.now c.in-Ok.entries
    (formed_in c.in_ok-entries.field-0 c.in-Ok.entries c.in-Ok.is c.in_ok-entries.ensures.formed) (λ readings told. sym (c.in_ok-entries.ensures.found readings told) ∙ c.in-Ok.is)
    c.in-Some.name.now c.in-Some.rest.now c.in-Some.ensures.found c.in-Some.ensures.first c.as_slice.result.now c.as_slice.ensures c.in-Ok-dir_named.dir c.in-Ok-dir_named.ensures.found
    c.in_ok-in_way.in_way c.in_ok-in_way.ensures.in_way

pub returns-in_err-entries-clause-reads : goal.returns-in_err-entries-clause-reads
returns-in_err-entries-clause-reads g t c = omega (arith, one_part c.args.path.now, c.load_old.ensures.reads)

pub returns-in-Err-clause-reads : goal.returns-in-Err-clause-reads
returns-in-Err-clause-reads g t c = omega (arith, one_part c.args.path.now, c.load_old.ensures.reads)

pub returns-in_err-push-clause-reads : goal.returns-in_err-push-clause-reads
returns-in_err-push-clause-reads g t c = omega (arith, one_part c.args.path.now, c.load_old.ensures.reads)

pub returns-in_default-clause-reads : goal.returns-in_default-clause-reads
returns-in_default-clause-reads g t c = omega (arith, one_part c.args.path.now, c.load_old.ensures.reads)

pub returns-in-Err-dir_named-clause-reads : goal.returns-in-Err-dir_named-clause-reads
returns-in-Err-dir_named-clause-reads g t c = omega (arith, one_part c.args.path.now, c.load_old.ensures.reads)

pub returns-in_err-push-2-clause-reads : goal.returns-in_err-push-2-clause-reads
returns-in_err-push-2-clause-reads g t c = omega (arith, one_part c.args.path.now, c.load_old.ensures.reads)

pub returns-in_err-in_way-clause-reads : goal.returns-in_err-in_way-clause-reads
returns-in_err-in_way-clause-reads g t c =
    let more = one_more_part c.args.path.now c.in-Some.name.now c.in-Some.rest.now c.in-Some.ensures.found c.in-Some.ensures.first in
    omega (arith, more, c.load_old.ensures.reads, c.survey.ensures.reads)

pub returns-clause-reads : goal.returns-clause-reads
returns-clause-reads g t c =
    let more = one_more_part c.args.path.now c.in-Some.name.now c.in-Some.rest.now c.in-Some.ensures.found c.in-Some.ensures.first in
    omega (arith, more, c.load_old.ensures.reads, c.survey.ensures.reads)
