use Rattle.std.proofs.Common.{ℕ, refl, arith, rules}
use Rattle.std.specs.Prelude.{Err}
use Rattle.buffered_reader.specs.Ahead.{ahead}
use Rattle.clone_stream.specs.Streams.{header}
use Rattle.clone_stream.proofs.Placed.{stops_later}
use Rattle.clone_stream.proofs.Wholes.{end_breaks, end_stops, parts_found}
use Rattle.clone_stream.proofs.stream_reads.read_parts.Goals as goal

pub returns-in-Err-read_records-clause-reads : goal.returns-in-Err-read_records-clause-reads
returns-in-Err-read_records-clause-reads g c =
    let taken = c.in-Ok.ensures.taken in
    record {
      past = search rules;
      limit = search rules;
      cause = search rules;
      stops = stops_later {T = ℕ} (Err c.in-Err-read_records.fault) c.args.reader.now c.read_header.new.reader c.read_records.new.reader (ahead c.args.reader.now (g.S.Source.left c.args.source.now))
          (ahead c.read_header.new.reader (g.S.Source.left c.read_header.new.source)) (ahead c.read_records.new.reader (g.S.Source.left c.read_records.new.source)) header c.in-Ok.ensures.ahead (omega arith) c.in-Err-read_records.ensures.reads.stops;
    }

pub returns-in-Ok-read_end-clause-found : goal.returns-in-Ok-read_end-clause-found
returns-in-Ok-read_end-clause-found g c =
    parts_found c.in-Ok-read_records.change _ _ _ _ _ c.in-Ok.ensures.ahead c.in-Ok.ensures.taken c.in-Ok-read_records.ensures.found c.read_records.new.reader c.read_end.new.reader _ refl c.in-Ok-read_end.ensures.end

pub returns-in-Err-read_end-clause-bad : goal.returns-in-Err-read_end-clause-bad
returns-in-Err-read_end-clause-bad g c =
    end_breaks c.in-Ok-read_records.change _ _ _ _ _ c.in-Ok.ensures.ahead c.in-Ok.ensures.taken c.in-Ok-read_records.ensures.found c.in-Err-read_end.fault c.in-Err-read_end.ensures.bad

pub returns-in-Err-read_end-clause-reads : goal.returns-in-Err-read_end-clause-reads
returns-in-Err-read_end-clause-reads g c =
    record {
      past = search rules;
      limit = search rules;
      cause = search rules;
      stops = end_stops c.in-Ok-read_records.change _ _ _ _ _ c.in-Ok.ensures.ahead c.in-Ok.ensures.taken c.in-Ok-read_records.ensures.found c.args.reader.now c.read_records.new.reader c.read_end.new.reader _ c.in-Err-read_end.fault c.requires refl c.in-Err-read_end.ensures.reads.stops;
    }
