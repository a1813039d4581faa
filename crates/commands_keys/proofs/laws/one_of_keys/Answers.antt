use Rattle.std.proofs.Common.{◌≡◌, refl, List, ℕ}
use Rattle.std.specs.Prelude.{Result, Ok, Err}
use Rattle.commands_keys.proofs.OneSeal.{same_seal}
use Rattle.commands_keys.specs.Contents.{KeyGenComes}
use Rattle.commands_keys.specs.declared.making_keys.KeyGenFault.{KeyGenFault}
use Rattle.commands_keys.specs.declared.making_keys.KeyGenFault.TheVariants.{NotEmpty, EntropyFailed, DiskFailed, SinkFailed, Memory}
use Rattle.commands_keys.proofs.laws.one_of_keys.Goals as goal

same_key_gen : (file : List ℕ) (a b : Result (Unit {0}) KeyGenFault) → KeyGenComes file a → KeyGenComes file b → a ≡ b
same_key_gen file (Ok done) (Ok also) is other = refl
same_key_gen file (Ok done) (Err NotEmpty) is other = absurd (other is)
same_key_gen file (Err NotEmpty) (Ok also) is other = absurd (is other)
same_key_gen file (Err NotEmpty) (Err NotEmpty) is other = refl
same_key_gen file (Err EntropyFailed) b is other = absurd is
same_key_gen file (Err DiskFailed) b is other = absurd is
same_key_gen file (Err SinkFailed) b is other = absurd is
same_key_gen file (Err Memory) b is other = absurd is
same_key_gen file a (Err EntropyFailed) is other = absurd other
same_key_gen file a (Err DiskFailed) is other = absurd other
same_key_gen file a (Err SinkFailed) is other = absurd other
same_key_gen file a (Err Memory) is other = absurd other

pub returns : goal.returns
returns c = record {
  key_gen = same_key_gen;
  seal = λ add bytes file a b is other. same_seal add bytes file a b is other;
}
