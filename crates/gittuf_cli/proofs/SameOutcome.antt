-- There is at most one ending for the same words and content.
use Rattle.std.proofs.Common.{◌≡◌, inl, inr, sym, ◌∙◌, subst}
use Rattle.command_words.specs.Laws.{OneCommand}
use Rattle.command_words.specs.declared.commands.Command.{Command}
use Rattle.command_words.specs.declared.commands.Command.TheVariants as command
use Rattle.worlds.proofs.Lifted.{one_ending}
use Rattle.worlds.specs.declared.ending.Ending.{Ending}
use Rattle.commands_approve.specs.Outcomes.{ApproveComes, OneOfApprovals, approve_ending}
use Rattle.demo.specs.Contents.{DemoComes}
use Rattle.demo.specs.Demos.{demo_ending}
use Rattle.demo.specs.Laws.{OneOfDemo}
use Rattle.commands_desk.specs.Laws.{OneOfServe, ServeComes}
use Rattle.commands_desk.specs.Readying.{serve_ending}
use Rattle.commands_desk.specs.Contents.{OneOfPush, PushComes}
use Rattle.commands_desk.specs.Faults.{push_ending}
use Rattle.commands_verify.specs.GlobalContents.{GlobalComes}
use Rattle.commands_verify.specs.GlobalLaws.{OneOfGlobal}
use Rattle.commands_verify.specs.GlobalVerifying.{global_ending}
use Rattle.commands_log.specs.Laws.{LogComes, OneOfHistory}
use Rattle.commands_log.specs.Logging.{log_ending}
use Rattle.commands_keys.specs.Contents.{KeyGenComes, SealComes}
use Rattle.commands_keys.specs.Laws.{OneOfKeys}
use Rattle.commands_keys.specs.MakingKeys.{key_gen_ending}
use Rattle.commands_keys.specs.Sealing.{seal_ending}
use Rattle.log_appending.specs.Outcomes.{OneOfLog, RecordComes, record_ending}
use Rattle.commands_mirror.specs.Checking.{check_ending}
use Rattle.commands_mirror.specs.Contents.{CheckComes, MakeComes, MirrorComes}
use Rattle.commands_mirror.specs.Laws.{OneOfMirror}
use Rattle.commands_mirror.specs.Making.{make_ending}
use Rattle.commands_mirror.specs.Offering.{mirror_ending}
use Rattle.commands_policy.specs.Explaining.{explain_ending}
use Rattle.commands_policy.specs.Outcomes.{ApplyComes, ExplainComes, OneOfPolicy, apply_ending}
use Rattle.commands_stream.specs.Contents.{ExportComes, ImportComes}
use Rattle.commands_verify.specs.Contents.{VerifyComes}
use Rattle.commands_stream.specs.Exporting.{export_ending}
use Rattle.commands_stream.specs.Importing.{import_ending}
use Rattle.commands_stream.specs.Laws.{OneOfStream}
use Rattle.commands_verify.specs.Laws.{OneOfVerify}
use Rattle.commands_verify.specs.Verifying.{verify_ending}
use Rattle.commands_snapshot.specs.OutcomeLaws.{OneOfTrees}
use Rattle.worlds.specs.Telling.{Content}
use Rattle.gittuf_cli.specs.Contents.{Comes, IsSettledFor, OneOutcome}

module _ (verifying : OneOfVerify) (globals : OneOfGlobal) (stream : OneOfStream) (keys : OneOfKeys) (history : OneOfHistory) (log : OneOfLog) (trees : OneOfTrees)
    (policy : OneOfPolicy) (approvals : OneOfApprovals) (mirrors : OneOfMirror) (serves : OneOfServe) (sends : OneOfPush) (demos : OneOfDemo) where
  one_comes : (c : Command) (content : Content) → IsSettledFor c content → (x y : Ending) → Comes c content x → Comes c content y → x ≡ y
  one_comes (command.VerifyRef name root stdin) content settled =
      one_ending verify_ending (VerifyComes name root stdin content.held content.bytes) (verifying.verify name root stdin content.held content.bytes)
  one_comes (command.VerifyGlobal name root) content settled = one_ending global_ending (GlobalComes name root content.held) (globals.global name root content.held)
  one_comes command.Export content settled = one_ending export_ending (ExportComes content.held) (stream.export content.held)
  one_comes command.Import content settled = one_ending import_ending (ImportComes content.held content.bytes) (stream.import content.held content.bytes)
  one_comes (command.KeyGen height width bottom) content settled = one_ending key_gen_ending (KeyGenComes content.file) (keys.key_gen content.file)
  one_comes command.Log content settled = one_ending log_ending (LogComes content.held) (history.log content.held)
  one_comes (command.Record name) content settled = one_ending record_ending (RecordComes content.file content.held) (log.recorded content.file content.held)
  one_comes (command.Seal add) content settled = one_ending seal_ending (SealComes add content.bytes content.file) (keys.seal add content.bytes content.file)
  one_comes (command.Snapshot name) content settled = λ x y is other.
      is.is ∙ trees.snapshot name content.bytes content.held is.outcome other.outcome settled is.means other.means ∙ sym other.is
  one_comes command.PolicyApply content settled = one_ending apply_ending (ApplyComes content.file content.held) (policy.applied content.file content.held)
  one_comes (command.Explain space text) content settled = one_ending explain_ending (ExplainComes content.held) (policy.explained content.held)
  one_comes (command.Annotate skip ids message) content settled =
      one_ending record_ending (RecordComes content.file content.held) (log.recorded content.file content.held)
  one_comes (command.Approve name target) content settled =
      one_ending approve_ending (ApproveComes name target content.file content.held) (approvals.approved name target content.file content.held)
  one_comes (command.Demo count) content settled = one_ending demo_ending (DemoComes count content.held) (demos.demo count content.held)
  one_comes command.Mirror content settled = one_ending mirror_ending (MirrorComes content.held content.bytes) (mirrors.mirror content.held content.bytes)
  one_comes (command.EvidenceMake public left right) content settled = one_ending make_ending (MakeComes content.held left right) (mirrors.make content.held left right)
  one_comes command.EvidenceCheck content settled = one_ending check_ending (CheckComes content.bytes) (mirrors.check content.bytes)
  one_comes (command.Serve port workers connections gate) content settled = one_ending serve_ending (ServeComes content.held) (serves content.held)
  one_comes (command.Push port number) content settled =
      one_ending push_ending (PushComes content.held content.come number) (sends content.held content.come number)

  pub same_outcome : OneCommand → OneOutcome
  same_outcome commands words content a b settled (inl none) (inl also) = none.0 ∙ sym also.0
  same_outcome commands words content a b settled (inl none) (inr is) = absurd (none.1 is.command is.asked)
  same_outcome commands words content a b settled (inr is) (inl none) = absurd (none.1 is.command is.asked)
  same_outcome commands words content a b settled (inr is) (inr other) =
      let same = commands words is.command other.command is.asked other.asked in
      one_comes is.command content (settled is.command is.asked) a b is.comes (subst (λ (c : Command). Comes c content b) (sym same) other.comes)
