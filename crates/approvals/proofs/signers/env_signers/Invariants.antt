use Rattle.std.proofs.Common.{◌≡◌, map, take}
use Rattle.std.specs.List.{filter}
use Rattle.approvals.specs.Signers.{signed_by, signed_text}
use Rattle.approvals.proofs.signers.env_signers.Given as goal

abbrev pub invariant-keys : goal.invariant-keys
invariant-keys l = l.ids ≡ map (λ key. key.id) (filter (signed_by (signed_text l.envelope) l.envelope.signatures) (take l.key-index l.keys))
