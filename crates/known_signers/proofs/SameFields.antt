-- The fields of a payload say what the payload does.
use Rattle.std.proofs.Common.{◌≡◌, ℕ, List, Option, Some, None, refl}
use Rattle.std.specs.Option.{option_map}
use Rattle.serde_json.specs.Data.{Data}
use Rattle.approvals.specs.Approvals.{lets_go}
use Rattle.known_signers.specs.ApprovalFields.{fields_of, let_go}

pub same : (name from tree : List ℕ) (d : Option Data) → let_go name from tree (option_map fields_of d) ≡ lets_go name from tree d
same name from tree None = refl
same name from tree (Some d) = refl
