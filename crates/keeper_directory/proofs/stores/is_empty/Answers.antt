use Rattle.std.proofs.Common.{refl, sym, ◌∙◌}
use Rattle.std.proofs.lemmas.Bool.{false≢true}
use Rattle.keeper_directory.specs.Stores.{AreDots}
use Rattle.keeper_directory.proofs.NamesLeft.{ended, more_dots, passed, refuted}
use Rattle.keeper_directory.proofs.stores.is_empty.Goals as goal

pub returns-then-not-is_dots : goal.returns-then-not-is_dots
returns-then-not-is_dots c = λ list is. (
  λ t. absurd (false≢true t),
  λ p. absurd (refuted AreDots c.args.names.now c.names.rest.now c.in-Some.name.now c.in-Some.more.now c.names.invariant.left c.in-Some.ensures.found c.in-Some.ensures.first
      (λ left q. false≢true (sym c.if-not-is_dots.true ∙ c.is_dots.ensures.1 q.0)) list is p),
)

pub names-preserved : goal.names-preserved
names-preserved c = record {
  left = passed AreDots c.args.names.now c.names.rest.now c.in-Some.name.now c.in-Some.more.now c.names.invariant.left c.in-Some.ensures.found c.in-Some.ensures.first
      (λ left. more_dots c.in-Some.name.now left (c.is_dots.ensures.0 c.if-not-is_dots.false));
}

pub returns : goal.returns
returns c = λ list is. (
  λ t. (ended AreDots c.args.names.now c.names.rest.now c.names.invariant.left c.in_default.ensures.none list is).1 tt,
  λ p. refl,
)
