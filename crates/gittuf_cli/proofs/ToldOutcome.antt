-- What an ending means where the objects that a command touches tell what they hold.
use Rattle.std.proofs.Common.{inl, inr, sym, subst}
use Rattle.command_words.specs.declared.commands.Command.{Command}
use Rattle.command_words.specs.declared.commands.Command.TheVariants as command
use Rattle.worlds.specs.Endings.{IsStopped}
use Rattle.worlds.specs.Telling.{TellsEnding}
use Rattle.worlds.specs.Worlds.{Types, Ways}
use Rattle.commands_approve.specs.Runs as approving
use Rattle.commands_desk.specs.Runs as desks
use Rattle.commands_verify.specs.GlobalRuns as globals
use Rattle.commands_keys.specs.Runs as keys
use Rattle.commands_log.specs.Runs as log
use Rattle.commands_mirror.specs.Runs as mirroring
use Rattle.commands_policy.specs.Runs as policy
use Rattle.commands_desk.specs.PushRuns as pushing
use Rattle.commands_snapshot.specs.Runs as trees
use Rattle.commands_stream.specs.Runs as stream
use Rattle.commands_verify.specs.Runs as verifying
use Rattle.demo.specs.Runs as demos
use Rattle.gittuf_cli.specs.Contents.{Comes, TellsOutcome}
use Rattle.gittuf_cli.specs.KeyTypes.{below_of, lms_of, ots_of}
use Rattle.gittuf_cli.specs.Runs.{EndsOf, touched}

module _ {types : Types} (ways : Ways types) (verifies : verifying.TellsOfWorld ways) (judges : globals.TellsOfWorld ways) (streams : stream.TellsOfWorld ways)
    (signs : keys.TellsOfWorld ways) (logs : log.TellsOfWorld ways) (snaps : trees.TellsOfWorld ways)
    (applies : policy.TellsOfWorld ways) (approves : approving.TellsOfWorld ways) (mirrors : mirroring.TellsOfWorld ways) (serves : desks.TellsOfWorld ways) (sends : pushing.TellsOfWorld ways)
    (shows : demos.TellsOfWorld ways) where
  told_comes : (c : Command) → TellsEnding ways (touched c) (EndsOf ways c) (Comes c)
  told_comes (command.VerifyRef name root stdin) = verifies.verify name root stdin
  told_comes (command.VerifyGlobal name root) = judges.global name root
  told_comes command.Export = streams.export
  told_comes command.Import = streams.import
  told_comes (command.KeyGen height width bottom) = signs.key_gen (lms_of height) (ots_of width) (below_of bottom)
  told_comes command.Log = logs.log
  told_comes (command.Record name) = logs.recorded name
  told_comes (command.Seal add) = signs.seal add
  told_comes (command.Snapshot name) = snaps.snapshot name
  told_comes command.PolicyApply = applies.applied
  told_comes (command.Explain space text) = applies.explained space text
  told_comes (command.Annotate skip ids message) = logs.annotated ids skip message
  told_comes (command.Approve name target) = approves.approved name target
  told_comes (command.Demo count) = shows.demo count
  told_comes command.Mirror = mirrors.mirror
  told_comes (command.EvidenceMake public left right) = mirrors.make public left right
  told_comes command.EvidenceCheck = mirrors.check
  told_comes (command.Serve port workers connections gate) = serves
  told_comes (command.Push port number) = sends port number

  pub told_outcome : TellsOutcome ways
  told_outcome words before after ending content tells (inl none) = elim none.why [
    | inl refused ↦ inl (inl refused)
    | inr wanting ↦ inr (subst IsStopped (sym wanting.0) tt)
  ]
  told_outcome words before after ending content tells (inr ran) =
      elim (told_comes ran.command before after content ending (tells ran.command ran.asked) ran.ends) [
        | inl comes ↦ inl (inr (record { command = ran.command; asked = ran.asked; comes = comes }))
        | inr stopped ↦ inr stopped
      ]
