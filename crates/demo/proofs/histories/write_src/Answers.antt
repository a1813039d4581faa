use Rattle.std.proofs.Common.{◌≡◌, ◌∙◌, ◌+◌, sym}
use Rattle.git_object.specs.EntryParts.{entry_of}
use Rattle.git_object.specs.declared.modes.Mode.TheVariants.{File}
use Rattle.object_making.specs.Editing.{put_entry}
use Rattle.demo.specs.Trees.{file_name, number_id, src_after}
use Rattle.demo.proofs.NextSteps.{src_next}
use Rattle.demo.proofs.histories.write_src.Goals as goal

pub returns : goal.returns
returns c =
    let name : c.as_slice.result.now ≡ file_name (c.args.done + 1) = c.as_slice.ensures ∙ c.in_ok-name.ensures in
    let entry : c.in_ok-entry.entry ≡ entry_of File (file_name (c.args.done + 1)) (number_id (c.args.done + 1)) = c.in_ok-entry.ensures ∙ (λ j. entry_of File (name j) (c.requires.file j)) in
    let old : c.as_slice-2.result.now ≡ src_after c.args.done = c.as_slice-2.ensures ∙ c.requires.src in
    c.in_ok-entries.ensures ∙ (λ j. put_entry (entry j) (old j)) ∙ sym (src_next c.args.done)
