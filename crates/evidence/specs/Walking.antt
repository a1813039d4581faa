-- The walk over a good signature, level by level.
use Rattle.std.specs.Prelude.{[], List, Option, Some, None}
use Rattle.lms_keys.specs.SigOk.{AreSignedKeys}
use Rattle.evidence.specs.Uses.{Use, uses_from}
use Rattle.evidence.specs.declared.uses.LeafUse.{LeafUse}
use Rattle.evidence.specs.declared.uses.SignedKeys.{SignedKeys}

abbrev pub use_of : LeafUse → Use
use_of used = record { key = used.key.now; leaf = used.leaf; message = used.message.now }

-- the uses from a key on
abbrev pub uses_in : SignedKeys → List Use
uses_in signed = uses_from signed.below signed.key.now signed.message.now signed.signature.now

-- they are good
abbrev pub AreGood : SignedKeys → Type 0
AreGood signed = AreSignedKeys signed.below signed.key.now signed.message.now signed.signature.now

-- the uses below a level, where there is one more
abbrev pub uses_below : Option SignedKeys → List Use
uses_below None = []
uses_below (Some signed) = uses_in signed
