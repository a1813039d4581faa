use Rattle.std.proofs.Common.{not}
use Rattle.git_object.specs.Objects.{pair_id}
use Rattle.keeper_api.specs.Changes.{changed}
use Rattle.desk_core.proofs.Laying.{known_grown}
use Rattle.desk_core.proofs.looking.make_ready.Goals as goal

pub returns-then-clash-clause-known : goal.returns-then-clash-clause-known
returns-then-clash-clause-known g c = λ r told. c.forget.ensures.known r

pub returns-then-clash-clause-grown : goal.returns-then-clash-clause-grown
returns-then-clash-clause-grown g c = λ r change has told is. c.forget.ensures.known (changed change r)

pub returns-clause-grown : goal.returns-clause-grown
returns-clause-grown g c = λ r change has told is.
    known_grown r c.args.engine.now.known (λ pair. not (has (pair_id pair))) c.args.objects.now change (c.in_ok-clash.ensures.none c.if-clash.false r told) is (c.requires.known r (c.replaces.ensures.same.content r told))
