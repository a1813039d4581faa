-- The rules by which the entries of a log from a number on are judged. Of one before it that is not the policy's no
-- fault and no signer is found.
use Rattle.std.specs.Prelude.{◌≡◌, ◌<◌, ℕ, [], List, Some, None, if◌then◌else◌, nat_lt}
use Rattle.rsl_chain.specs.Entries.{Taken}
use Rattle.judging.specs.Logs.{entry_at}
use Rattle.judging.specs.Rules.{Rules}

abbrev pub rules_from : {P F : Type 0} → ℕ → Rules P F → Rules P F
rules_from first rules = record {
  no_policy = rules.no_policy;
  epoch = rules.epoch;
  fault = λ r policy entry from attested. if nat_lt entry.number first then None else rules.fault r policy entry from
      attested;
  signers = λ r policy entry from attested. if nat_lt entry.number first then [] else rules.signers r policy entry from
      attested;
  tree_of = rules.tree_of;
  skipper = rules.skipper;
  may_skip = rules.may_skip;
  epoch_reads = rules.epoch_reads;
  bounded = rules.bounded;
  fault_reads = rules.fault_reads;
  tree_reads = rules.tree_reads;
}

-- each entry of the log has its place as its number, from 1 on
abbrev pub AreNumbered : List Taken → Type 0
AreNumbered log = (number : ℕ) (t : Taken) → 0 < number → entry_at log number ≡ Some t → t.entry.number ≡ number
