-- A store of any kind may go to another thread.
use denote.Param.Send.{IsSend, AllSend, sendable, struct_send, recorded_send, param_send}
use denote.Struct.Declared.{shape}
use Rattle.std.specs.Prelude.{None, false, true}
use Rattle.keeper_api.specs.declared.keepers.Keeper.{Ghosts}
use Rattle.keeper_layers.proofs.cached.CachedKeeper.TheSendSync as cached
use Rattle.keeper_layers.proofs.either_keeper.EitherKeeper.TheSendSync as either
use Rattle.keeper_api.proofs.memory_keeper.MemKeeper.TheSendSync as memory
use Rattle.keeper_directory.proofs.dir_keepers.DirKeeper.TheSendSync as folder
use Rattle.keeper_sqlite.proofs.sql_keepers.SqlKeeper.TheSendSync as database
use Rattle.std.proofs.rt.LibcRuntime.TheSendSync as runtime
use Rattle.sqlite.proofs.FileStore.TheSendSync as store
use Rattle.sqlite_disk.proofs.modelled.Modelled.TheSendSync as modelled
use Rattle.sqlite_disk.proofs.start.Unknown.TheSendSync as unknown
use Rattle.sqlite_std_file.specs.contracts.host.Host as host
use Rattle.keeper_directory.specs.contracts.dir_keepers.DirKeeper as dir
use Rattle.std.specs.contracts.rt.LibcRuntime as libc
use Rattle.std.specs.contracts.fs.File as file
use Rattle.std.specs.contracts.fs.dir.Names as names
use Rattle.sqlite.specs.contracts.Unknown as unseen
use Rattle.program_stores.specs.contracts.any.AnyKeeper.{the_row, the_type}

host_send : IsSend host.the_row
host_send = search sendable depth 9

-- what a store in a folder tells: nothing
abbrev folder_ghosts : Ghosts (dir.the_row libc.the_row file.the_row names.the_row).Denot
folder_ghosts = record {
  content = λ _. None;
  tells_left = λ _. false;
  left = λ _ _. ⊥;
  is_clean = λ _. true;
  faults = λ k. k.faults;
  reads = λ k. k.reads;
  comes = λ _ _. Unit {0};
}

fields : AllSend (shape the_type).fields
fields = (either.the_field_send _ _ memory.the_send (either.the_send _ _ (cached.the_send (dir.the_row libc.the_row file.the_row names.the_row) folder_ghosts (folder.the_send _ _ _ runtime.the_send)) (database.the_send _ _ (store.the_send _ _ (modelled.the_send host.the_row unseen.the_row _ _ host_send)))), tt)

pub row_send : IsSend the_row
row_send = recorded_send _ _ _ the_type.to_one (struct_send (shape the_type) fields)
