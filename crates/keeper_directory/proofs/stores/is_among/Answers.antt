use Rattle.std.proofs.Common.{inl, refl, sym, ◌∙◌}
use Rattle.std.proofs.lemmas.Bool.{false≢true}
use Rattle.keeper_directory.specs.Stores.{IsOneOf}
use Rattle.keeper_directory.proofs.NamesLeft.{decided, ended, other_name, passed}
use Rattle.keeper_directory.proofs.stores.is_among.Goals as goal

pub returns-then-same_bytes : goal.returns-then-same_bytes
returns-then-same_bytes c = λ list is. (
  λ t. decided (IsOneOf c.args.wanted.now) c.args.names.now c.names.rest.now c.in-Some.name.now c.in-Some.more.now c.names.invariant.left c.in-Some.ensures.found c.in-Some.ensures.first
      (λ left. inl (c.same_bytes.ensures.0 c.if-same_bytes.true)) list is,
  λ p. refl,
)

pub names-preserved : goal.names-preserved
names-preserved c = record {
  left = passed (IsOneOf c.args.wanted.now) c.args.names.now c.names.rest.now c.in-Some.name.now c.in-Some.more.now c.names.invariant.left c.in-Some.ensures.found c.in-Some.ensures.first
      (λ left. other_name c.args.wanted.now c.in-Some.name.now left (λ same. false≢true (sym c.if-same_bytes.false ∙ c.same_bytes.ensures.1 same)));
}

pub returns : goal.returns
returns c = λ list is.
    let none = ended (IsOneOf c.args.wanted.now) c.args.names.now c.names.rest.now c.names.invariant.left c.in_default.ensures.none list is in
    (λ t. absurd (false≢true t), λ p. absurd (none.0 p))
