use Rattle.std.proofs.Common.{◌≡◌, ◌++◌, map}
use Rattle.std.specs.Vec.Iter.{into_iter_items}
use Rattle.policy_reading.specs.Validity.{sealed_of, with_top}
use Rattle.policy_reading.proofs.judged_files.split.Given as goal

abbrev pub invariant-signed : goal.invariant-signed
invariant-signed l = record {
  files : l.parts.files ++ map (λ signed. signed.file) (into_iter_items l.one-iterator) ≡ with_top l.fn.signed;
  sealed : l.parts.sealed ++ map sealed_of (into_iter_items l.one-iterator) ≡ map sealed_of l.fn.signed;
}
