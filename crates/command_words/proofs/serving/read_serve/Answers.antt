use Rattle.std.proofs.Common.{◌∙◌, ap, refl, sym, subst}
use Rattle.std.specs.Prelude.{codes}
use Rattle.std.specs.Option.{IsSomeAnd}
use Rattle.clap.specs.Words.{first_of}
use Rattle.command_words.specs.Grammars.{is_yes}
use Rattle.command_words.specs.Numbers.{IsCount}
use Rattle.command_words.proofs.serving.read_serve.Goals as goal

pub returns-in_default-number_in-clause-outside : goal.returns-in_default-number_in-clause-outside
returns-in_default-number_in-clause-outside c = λ said command asks.
    c.in_default-number_in.ensures.none asks.1
    (subst (λ rows. IsSomeAnd (first_of (codes "workers") rows) (λ text. IsCount 64 text asks.1)) (sym c.in_ok-matches.ensures.rows) asks.5.are_workers)

pub returns-in_default-number_in-2-clause-outside : goal.returns-in_default-number_in-2-clause-outside
returns-in_default-number_in-2-clause-outside c = λ said command asks.
    c.in_default-number_in-2.ensures.none asks.2
    (subst (λ rows. IsSomeAnd (first_of (codes "connections") rows) (λ text. IsCount 1000000 text asks.2)) (sym c.in_ok-matches.ensures.rows) asks.5.are_connections)

pub returns-clause-found : goal.returns-clause-found
returns-clause-found c =
    let rows = c.in_ok-matches.ensures.rows in (
      c.in-Some.port,
      c.in-Some-number_in.workers,
      c.in-Some-number_in-2.connections,
      c.has_flag.result,
      refl,
      record {
        takes = c.in_ok-matches.ensures.taken;
        is_port = subst (λ found. IsSomeAnd (first_of (codes "port") found) (λ text. IsCount 65535 text c.in-Some.port)) rows c.in-Some.ensures.found;
        are_workers = subst (λ found. IsSomeAnd (first_of (codes "workers") found) (λ text. IsCount 64 text c.in-Some-number_in.workers)) rows c.in-Some-number_in.ensures.found;
        are_connections = subst (λ found. IsSomeAnd (first_of (codes "connections") found) (λ text. IsCount 1000000 text c.in-Some-number_in-2.connections)) rows c.in-Some-number_in-2.ensures.found;
        flag = sym (c.has_flag.ensures ∙ ap (λ found. is_yes (first_of (codes "gate") found)) rows);
      },
    )
