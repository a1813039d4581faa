-- From the entries at the ids of the log to the log.
use Rattle.std.proofs.Common.{◌≡◌, ◌⊎◌, inl, inr, ℕ, List, [], length, Option, Some, refl, sym, ◌∙◌}
use Rattle.std.specs.Prelude.{Ok, Err, Result}
use Rattle.octets.specs.Content.{GainsPart, Stays, with_end}
use Rattle.git_object.specs.Repository.{Repository}
use Rattle.rsl_chain.specs.Logs.{IsBrokenAs, IsLogOf}
use Rattle.rsl_chain.specs.declared.log_faults.LogFault.{LogFault}
use Rattle.rsl_chain.specs.declared.log_faults.LogFault.TheVariants as log
use Rattle.worlds.specs.Endings.{IsStopped}
use Rattle.commands_log.specs.Faults.{fault_of_log}
use Rattle.commands_log.specs.Laws.{LogComes}
use Rattle.worlds.specs.Breaks.{break_line}
use Rattle.commands_log.specs.Lines.{log_text}
use Rattle.commands_log.specs.Logging.{FindsBreak, LogEnds, Prints, PrintsBreak, PrintsBreakPart, PrintsFront, PrintsLog, log_ending}
use Rattle.commands_log.specs.Printing.{PrintsAll, PrintsAt, PrintsSome}
use Rattle.commands_log.specs.declared.faults.LogCommandFault.{LogCommandFault}
use Rattle.commands_log.specs.declared.faults.LogCommandFault.TheVariants.{Broken, KeeperFailed, SinkFailed, Memory}
use Rattle.edge_io.proofs.Ends.{end_then, no_end, part_then}
use Rattle.rsl_chain.proofs.Entered.{begins, never_misses}

-- no log was loaded, and nothing was printed
pub not_loaded : (held : Option Repository) (printed : Option (List ℕ)) (fault : LogFault) → ((r : Repository) → held ≡ Some r → IsBrokenAs r fault) → Prints held printed printed (Err (fault_of_log fault))
not_loaded held printed (log.Broken id) told = record { first = []; gained = no_end printed; told = λ r is. (refl, told r is) }
not_loaded held printed log.Failed told = record { first = []; gained = no_end printed; told = λ r is. inl refl }
not_loaded held printed log.Memory told = record { first = []; gained = no_end printed; told = λ r is. inl refl }

module _ (held held_now : Option Repository) (ids : List (List ℕ)) (printed now : Option (List ℕ)) (stays : Stays held held_now) (loaded : (r : Repository) → held ≡ Some r → IsLogOf r ids) where
  pub all_printed : (count : ℕ) → count ≡ length ids → PrintsAll ids held_now printed now → PrintsLog held_now printed now count
  all_printed count many all = record {
    entries = all.entries;
    gained = all.gained;
    many = all.many ∙ sym many;
    told = λ r is. record { ids = ids; log = loaded r (stays r is); are = all.told r is };
  }

  front_printed : PrintsSome ids held_now printed now → PrintsFront held_now printed now
  front_printed some = record {
    first = some.first;
    gained = some.gained;
    told = λ r is. let at = some.told r is in begins r ids some.first at.1 at.0 (loaded r (stays r is)) at.2;
  }

  pub not_printed : (fault : LogCommandFault) → PrintsAt ids held_now printed now (Err fault) → Prints held_now printed now (Err fault)
  not_printed (Broken id) stops = record {
    first = stops.0.first;
    gained = stops.0.gained;
    told = λ r is. let at = stops.1 r is in absurd (never_misses r ids at.0 at.1 at.2 (loaded r (stays r is)) at.3 at.4);
  }
  not_printed KeeperFailed stops = front_printed stops
  not_printed SinkFailed stops = record {
    first = stops.first;
    part = stops.part;
    told = λ r is. let at = stops.told r is in begins r ids stops.first at.1 at.0 (loaded r (stays r is)) at.2;
  }
  not_printed Memory stops = front_printed stops

-- the line of the break was printed
pub break_printed : (held : Option Repository) (printed now later : Option (List ℕ)) (id : List ℕ) → FindsBreak held printed now id → later ≡ with_end now (break_line id) → PrintsBreak held printed later id
break_printed held printed now later id finds goes = record {
  first = finds.first;
  gained = end_then printed now later (log_text finds.first) (break_line id) finds.gained goes;
  told = finds.told;
}

-- a front of it was
pub break_cut : (held : Option Repository) (printed now later : Option (List ℕ)) (id : List ℕ) → FindsBreak held printed now id → GainsPart now later (break_line id) → PrintsBreakPart held printed later
break_cut held printed now later id finds part = record {
  id = id;
  first = finds.first;
  part = part_then printed now later (log_text finds.first) (break_line id) finds.gained part;
  told = finds.told;
}

-- ---- where the store tells

pub told_log : (was : Repository) (printed printed_now : Option (List ℕ)) (outcome : Result ℕ LogCommandFault) → LogEnds (Some was) printed printed_now outcome → LogComes was outcome ⊎ IsStopped (log_ending outcome)
told_log was printed printed_now (Ok count) ends = inl (ends.entries, ends.told was refl, ends.many)
told_log was printed printed_now (Err (Broken id)) ends = inl (ends.told was refl).1
told_log was printed printed_now (Err KeeperFailed) ends = inr tt
told_log was printed printed_now (Err SinkFailed) ends = inr tt
told_log was printed printed_now (Err Memory) ends = inr tt
