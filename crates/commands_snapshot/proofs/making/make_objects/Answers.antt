use Rattle.std.proofs.Common.{◌∙◌, List, sym, subst}
use Rattle.std.specs.Prelude.{All}
use Rattle.std.proofs.lemmas.Bool.{false≢true}
use Rattle.git_object.specs.Objects.{Pair}
use Rattle.commands_snapshot.proofs.ListingMade.{is_made}
use Rattle.commands_snapshot.specs.Making.{IsSmall}
use Rattle.commands_snapshot.proofs.making.make_objects.Goals as goal

pub returns-then-not-are_small-clause-why : goal.returns-then-not-are_small-clause-why
returns-then-not-are_small-clause-why c = record {
  rows = c.requires.rows;
  made = record { objects = c.make_trees.new.objects; root = c.in-Ok-Some.root };
  has = c.requires.has;
  is = is_made c.requires.rows c.args.listing c.as_slice.result.now c.make_trees.new.objects c.in-Ok-Some.root c.in-Ok-Some.field-0 c.requires.lists c.as_slice.ensures c.in-Ok-Some.ensures.kept c.in-Ok-Some.field-0-is
      c.in-Ok-Some.ensures.made c.in-Ok-Some.ensures.ids c.in-Ok-Some.ensures.visited;
  large = λ all. false≢true (sym c.if-not-are_small.true ∙ c.are_small.ensures.1 (subst (λ (l : List Pair). All IsSmall l) (sym c.as_slice-2.ensures) all));
}

pub returns-clause-made : goal.returns-clause-made
returns-clause-made c = record {
  rows = c.requires.rows;
  has = c.requires.has;
  is = is_made c.requires.rows c.args.listing c.as_slice.result.now c.make_trees.new.objects c.in-Ok-Some.root c.in-Ok-Some.field-0 c.requires.lists c.as_slice.ensures c.in-Ok-Some.ensures.kept c.in-Ok-Some.field-0-is
      c.in-Ok-Some.ensures.made c.in-Ok-Some.ensures.ids c.in-Ok-Some.ensures.visited;
  small = subst (λ (l : List Pair). All IsSmall l) c.as_slice-2.ensures (c.are_small.ensures.0 c.if-not-are_small.false);
}
