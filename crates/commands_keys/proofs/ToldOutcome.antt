-- What `key-gen` comes to where the disk tells what it holds.
use Rattle.std.proofs.Common.{◌≡◌, ◌⊎◌, ◌<◌, inl, inr, subst, ℕ, List, [], length}
use Rattle.std.specs.Prelude.{Option, Some, Result, Ok, Err}
use Rattle.std.proofs.Math.Nat.{lt_irrefl}
use Rattle.edge_io.specs.declared.disks.Disk as disk
use Rattle.worlds.specs.Endings.{IsStopped}
use Rattle.lmots.specs.declared.ots_type.OtsType.{OtsType}
use Rattle.lms_keys.specs.declared.lms_type.LmsType.{LmsType}
use Rattle.commands_keys.proofs.ToldSeal.{seal_told}
use Rattle.commands_keys.specs.Contents.{KeyGenComes}
use Rattle.commands_keys.specs.Laws.{TellsOfKeys}
use Rattle.commands_keys.specs.MakingKeys.{KeyGenEnds, key_gen_ending}
use Rattle.commands_keys.specs.declared.making_keys.KeyGenFault.{KeyGenFault}
use Rattle.commands_keys.specs.declared.making_keys.KeyGenFault.TheVariants.{NotEmpty, EntropyFailed, DiskFailed, SinkFailed, Memory}

same_some : {X : Type 0} (x y : X) (told : Option X) → told ≡ Some x → told ≡ Some y → x ≡ y
same_some x y told e f = cc

module _ {D : Type 0} (disk_of : disk.Ghosts D) where
  told : (lms : LmsType) (ots : OtsType) (bottom : Option LmsType) (left left_now : Option (List ℕ)) (file now : List ℕ) (old new : D) (printed printed_now : Option (List ℕ)) (outcome : Result (Unit {0}) KeyGenFault)
      → disk_of.seen old ≡ Some file → disk_of.seen new ≡ Some now
      → KeyGenEnds disk_of lms ots bottom left left_now old new printed printed_now outcome → KeyGenComes file outcome ⊎ IsStopped (key_gen_ending outcome)
  told lms ots bottom left left_now file now old new printed printed_now (Ok done) held holds means = inl (same_some file [] (disk_of.seen old) held (means.1.filed.was now holds))
  told lms ots bottom left left_now file now old new printed printed_now (Err NotEmpty) held holds means =
      let same : now ≡ file = same_some now file (disk_of.seen old) (means.0.same now holds) held in
      let long : 0 < length file = subst (λ (f : List ℕ). 0 < length f) same (means.2 now holds) in
      inl (λ empty. lt_irrefl _ (subst (λ (f : List ℕ). 0 < length f) empty long))
  told lms ots bottom left left_now file now old new printed printed_now (Err EntropyFailed) held holds means = inr tt
  told lms ots bottom left left_now file now old new printed printed_now (Err DiskFailed) held holds means = inr tt
  told lms ots bottom left left_now file now old new printed printed_now (Err SinkFailed) held holds means = inr tt
  told lms ots bottom left left_now file now old new printed printed_now (Err Memory) held holds means = inr tt

  pub tells_of_keys : TellsOfKeys disk_of
  tells_of_keys = record {
    key_gen = told;
    seal = λ add left_now bytes file now old new printed printed_now outcome held holds means. seal_told disk_of add left_now bytes file now old new printed printed_now outcome held holds means;
  }
