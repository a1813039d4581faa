-- The rules of the small judge. An entry's signature is taken as good for the key that it names.
use Rattle.std.specs.Prelude.{ℕ, Bool, true, false, List, [], ◌∷◌, take, Option, Some, None, Result, Ok, Err}
use Rattle.std.specs.Prelude.{if◌then◌else◌}
use Rattle.std.specs.Str.{bytes_eq}
use Rattle.rsl_chain.specs.Entries.{target_of}
use Rattle.rsl_chain.specs.declared.entries.Entry.{Entry}
use Rattle.judging.specs.Rules.{Rules}
use Rattle.small_judge.specs.declared.policies.Holder.{Holder}
use Rattle.small_judge.specs.declared.policies.SmallFault.{SmallFault}
use Rattle.small_judge.specs.declared.policies.SmallFault.TheVariants.{NoPolicy, Unsigned, Stranger}

-- whether the key is the signer's
abbrev pub signs : Option (List ℕ) → List ℕ → Bool
signs None key = false
signs (Some signer) key = bytes_eq signer key

-- the key that a policy's entry opens: its target's bytes
abbrev pub opened_key : Entry → Holder
opened_key entry = record { key = target_of entry.body }

-- anybody opens the first policy by naming a signer, and the holder every next one
abbrev pub opens_first : Option (List ℕ) → Entry → Result Holder SmallFault
opens_first None entry = Err Unsigned
opens_first (Some signer) entry = Ok (opened_key entry)

abbrev pub epoch : Option Holder → Entry → Result Holder SmallFault
epoch None entry = opens_first entry.signer entry
epoch (Some holder) entry = if signs entry.signer holder.key then Ok (opened_key entry) else Err Stranger

abbrev pub fault : Holder → Entry → Option SmallFault
fault holder entry = if signs entry.signer holder.key then None else Some Stranger

abbrev pub signers : Holder → Entry → List (List ℕ)
signers holder entry = if signs entry.signer holder.key then holder.key ∷ [] else []

-- targets that differ in the last byte alone have one tree
abbrev pub tree : List ℕ → List ℕ
tree target = take 31 target

abbrev pub small_rules : Rules Holder SmallFault
small_rules = record {
  no_policy = NoPolicy;
  epoch = λ r policy entry. epoch policy entry;
  fault = λ r holder entry from attested. fault holder entry;
  signers = λ r holder entry from attested. signers holder entry;
  tree_of = λ r target. Some (tree target);
  skipper = λ holder annotation. if signs annotation.signer holder.key then Some holder.key else None;
  may_skip = λ holder key name. bytes_eq holder.key key;
  epoch_reads = λ r policy entry. 0;
  bounded = λ r from to. true;
  fault_reads = λ r holder entry from attested. 0;
  tree_reads = λ r from to. 0;
}
