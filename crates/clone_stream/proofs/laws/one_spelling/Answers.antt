use Rattle.std.proofs.Common.{◌≡◌, ℕ, List, [], ◌++◌, sym, ap, ◌∙◌, append_assoc}
use Rattle.std.specs.FinMap.{entries, same_entries_map}
use Rattle.std.proofs.lemmas.List.{append-nil}
use Rattle.text_reader.proofs.Unique.{same_front}
use Rattle.clone_stream.specs.Fronts.{last_record, records_text}
use Rattle.clone_stream.specs.Streams.{end_line, header}
use Rattle.clone_stream.proofs.OneReading.{end_stop, one_reading}
use Rattle.clone_stream.proofs.StreamParts.{stream_records, stream_split}
use Rattle.clone_stream.proofs.laws.one_spelling.Goals as goal

pub returns : goal.returns
returns c = λ r s a more is other.
    let first : a ++ more ≡ header ++ (records_text (entries r.objects) (entries r.refs) ++ (end_line ++ more)) =
    ap (λ (t : List ℕ). t ++ more) (stream_split r a is)
    ∙ append_assoc header (records_text (entries r.objects) (entries r.refs) ++ end_line) more
    ∙ ap (λ (t : List ℕ). header ++ t) (append_assoc (records_text (entries r.objects) (entries r.refs)) end_line more) in
    let same = same_front header (records_text (entries r.objects) (entries r.refs) ++ (end_line ++ more)) (records_text (entries s.objects) (entries s.refs) ++ end_line)
    (sym first ∙ stream_split s (a ++ more) other) in
    let ended = ap (λ (t : List ℕ). records_text (entries s.objects) (entries s.refs) ++ t) (sym (append-nil end_line)) in
    let one = one_reading (entries r.objects) (entries s.objects) (entries r.refs) (entries s.refs) (end_line ++ more) (end_line ++ []) (stream_records r a is) (stream_records s (a ++ more) other)
    (end_stop (last_record (entries r.objects) (entries r.refs)) more) (end_stop (last_record (entries s.objects) (entries s.refs)) []) (same ∙ ended) in (
      same_front end_line more [] one.after,
      λ i. record { objects = same_entries_map r.objects s.objects one.objects i; refs = same_entries_map r.refs s.refs one.refs i },
    )
