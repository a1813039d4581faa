use Rattle.std.proofs.Common.{◌≡◌, take, drop, refl, sym, ap, ◌∙◌, subst}
use Rattle.std.specs.Prelude.{IfSome}
use Rattle.std.specs.Option.{option_map}
use Rattle.std.proofs.lemmas.Bool.{false≢true}
use Rattle.buffered_reader.specs.Ahead.{Reading, ahead, past}
use Rattle.clone_stream.specs.Deciding.{IsRefusedBy}
use Rattle.clone_stream.specs.Streams.{largest_stream}
use Rattle.clone_stream.specs.declared.stream_faults.StreamFault.{StreamFault}
use Rattle.clone_stream.proofs.Limits.{broken, ended_cut, new_ahead, new_past, passed_cut, passed_whole, taken_whole}
use Rattle.clone_stream.proofs.stream_reads.read_change.Goals as goal

pub returns-in-Ok-end_within-clause-found : goal.returns-in-Ok-end_within-clause-found
returns-in-Ok-end_within-clause-found g c =
    let first = g.S.Source.left c.args.source.now in
    let reader = c.new-reader.result in
    let start : ahead reader first ≡ option_map (take largest_stream) first = new_ahead reader largest_stream first c.new-reader.ensures in
    let beyond : past c.read_parts.new.reader (g.S.Source.left c.read_parts.new.source) ≡ option_map (drop largest_stream) first = c.read_parts.ensures.reads.past ∙ new_past reader largest_stream first c.new-reader.ensures in
    taken_whole largest_stream c.read_parts.new.reader (g.S.Source.left c.read_parts.new.source) first (g.S.Source.left c.end_within.new.source) (ahead reader first) (c.read_parts.ensures.reads.limit ∙ ap (λ (r : Reading). r.limit) c.new-reader.ensures) start beyond c.in-Ok.change c.in-Ok.ensures.found c.in-Ok-end_within.ensures.within refl

pub returns-in-Err-end_within-clause-refused : goal.returns-in-Err-end_within-clause-refused
returns-in-Err-end_within-clause-refused g c =
    let first = g.S.Source.left c.args.source.now in
    let reader = c.new-reader.result in
    let start : ahead reader first ≡ option_map (take largest_stream) first = new_ahead reader largest_stream first c.new-reader.ensures in
    let beyond : past c.read_parts.new.reader (g.S.Source.left c.read_parts.new.source) ≡ option_map (drop largest_stream) first = c.read_parts.ensures.reads.past ∙ new_past reader largest_stream first c.new-reader.ensures in
    passed_whole largest_stream c.read_parts.new.reader (g.S.Source.left c.read_parts.new.source) first (g.S.Source.left c.end_within.new.source) (ahead reader first) (c.read_parts.ensures.reads.limit ∙ ap (λ (r : Reading). r.limit) c.new-reader.ensures) start beyond c.in-Ok.change c.in-Err-end_within.fault c.in-Ok.ensures.found c.in-Err-end_within.ensures.refused

pub returns-then-not-is_cut-clause-refused : goal.returns-then-not-is_cut-clause-refused
returns-then-not-is_cut-clause-refused g c =
    let first = g.S.Source.left c.args.source.now in
    let reader = c.new-reader.result in
    let start : ahead reader first ≡ option_map (take largest_stream) first = new_ahead reader largest_stream first c.new-reader.ensures in
    let beyond : past c.read_parts.new.reader (g.S.Source.left c.read_parts.new.source) ≡ option_map (drop largest_stream) first = c.read_parts.ensures.reads.past ∙ new_past reader largest_stream first c.new-reader.ensures in
    subst (λ (f : StreamFault). IfSome first (λ input. IsRefusedBy largest_stream input (g.S.Source.left c.read_parts.new.source) f)) (sym c.of_break.ensures.value)
    (broken largest_stream c.read_parts.new.reader (g.S.Source.left c.read_parts.new.source) first (g.S.Source.left c.read_parts.new.source) (ahead reader first) (c.read_parts.ensures.reads.limit ∙ ap (λ (r : Reading). r.limit) c.new-reader.ensures) start beyond reader c.in-Err.fault (ap (λ (r : Reading). r.taken) c.new-reader.ensures)
    c.in-Err.ensures.bad (λ cut. false≢true (sym c.if-not-is_cut.true ∙ c.is_cut.ensures.1 cut)) c.in-Err.ensures.reads.stops)

pub returns-in-Ok-end_within-2-clause-refused : goal.returns-in-Ok-end_within-2-clause-refused
returns-in-Ok-end_within-2-clause-refused g c =
    let first = g.S.Source.left c.args.source.now in
    let reader = c.new-reader.result in
    let start : ahead reader first ≡ option_map (take largest_stream) first = new_ahead reader largest_stream first c.new-reader.ensures in
    let beyond : past c.read_parts.new.reader (g.S.Source.left c.read_parts.new.source) ≡ option_map (drop largest_stream) first = c.read_parts.ensures.reads.past ∙ new_past reader largest_stream first c.new-reader.ensures in
    subst (λ (f : StreamFault). IfSome first (λ input. IsRefusedBy largest_stream input (g.S.Source.left c.end_within-2.new.source) f)) (sym c.of_break-in-Ok-end_within-2.ensures.value)
    (ended_cut largest_stream c.read_parts.new.reader (g.S.Source.left c.read_parts.new.source) first (g.S.Source.left c.end_within-2.new.source) (ahead reader first) (c.read_parts.ensures.reads.limit ∙ ap (λ (r : Reading). r.limit) c.new-reader.ensures) start beyond reader c.in-Err.fault
    c.in-Err.ensures.bad (c.is_cut.ensures.0 c.if-not-is_cut.false) c.in-Err.ensures.reads.stops c.in-Ok-end_within-2.ensures.within)

pub returns-clause-refused : goal.returns-clause-refused
returns-clause-refused g c =
    let first = g.S.Source.left c.args.source.now in
    let reader = c.new-reader.result in
    let start : ahead reader first ≡ option_map (take largest_stream) first = new_ahead reader largest_stream first c.new-reader.ensures in
    let beyond : past c.read_parts.new.reader (g.S.Source.left c.read_parts.new.source) ≡ option_map (drop largest_stream) first = c.read_parts.ensures.reads.past ∙ new_past reader largest_stream first c.new-reader.ensures in
    passed_cut largest_stream c.read_parts.new.reader (g.S.Source.left c.read_parts.new.source) first (g.S.Source.left c.end_within-2.new.source) (ahead reader first) (c.read_parts.ensures.reads.limit ∙ ap (λ (r : Reading). r.limit) c.new-reader.ensures) start beyond c.in-Err.fault c.in-Err-end_within-2.refused
    c.in-Err.ensures.bad (c.is_cut.ensures.0 c.if-not-is_cut.false) c.in-Err-end_within-2.ensures.refused
