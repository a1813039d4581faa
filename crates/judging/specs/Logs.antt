-- What the whole list of entries says of each: who may skip it, what stood before it, its fault, whether it was
-- rescued. Entries are numbered from 1. What concerns an entry is a function of the entries before it and of it.
use Rattle.std.specs.Prelude.{◌-◌, ◌&&◌, ◌++◌, ℕ, suc, zero, Bool, false, not, List, [], ◌∷◌, length, take, Option}
use Rattle.std.specs.Prelude.{Some, None, Result, Ok, Err, if◌then◌else◌, is_none, nat_lt, unwrap_or, option_and_then}
use Rattle.std.specs.List.{filter, fold, list_any, slice_get}
use Rattle.std.specs.Result.{result_err}
use Rattle.std.specs.Option.{option_map}
use Rattle.std.specs.Str.{bytes_eq}
use Rattle.git_object.specs.Ids.{zeros}
use Rattle.rsl_chain.specs.Entries.{Taken, is_of, shares, skips_id, target_of}
use Rattle.git_object.specs.References.{attestations_name, policy_name}
use Rattle.rsl_chain.specs.declared.entries.Entry.{Entry}
use Rattle.rsl_chain.specs.declared.entries.EntryBody.{EntryBody}
use Rattle.rsl_chain.specs.declared.entries.EntryBody.TheVariants.{Reference, Annotation}
use Rattle.recovery.specs.Lanes.{Lane, last_of}
use Rattle.judging.specs.Rules.{Rules, same_tree}

-- the numbers from 1 to n
abbrev pub numbers : ℕ → List ℕ
numbers zero = []
numbers (suc n) = numbers n ++ suc n ∷ []

-- the entry of a number
abbrev pub entry_at : List Taken → ℕ → Option Taken
entry_at log i = slice_get log (i - 1)

-- the entries before a number
abbrev pub before : List Taken → ℕ → List Taken
before log i = take (i - 1) log

-- whether the entry records a target of this reference
abbrev pub is_entry_of : Option Taken → List ℕ → Bool
is_entry_of None name = false
is_entry_of (Some t) name = is_of t.entry.body name

-- whether both are entries of one reference
abbrev pub share : Option Taken → Option Taken → Bool
share (Some a) (Some b) = shares a.entry.body b.entry.body
share (Some a) None = false
share None other = false

-- the id of the entry
abbrev pub has_id : Option Taken → List ℕ → Bool
has_id None id = false
has_id (Some t) id = bytes_eq t.entry.id id

-- the target of the entry
abbrev pub target_at : List Taken → ℕ → Option (List ℕ)
target_at log i = option_map (λ t. target_of t.entry.body) (entry_at log i)

-- the target of the last entry of the attestations' reference
abbrev pub next_attested : Option (List ℕ) → Taken → Option (List ℕ)
next_attested attested t = if is_of t.entry.body attestations_name then Some (target_of t.entry.body) else attested

abbrev pub attested_after : List Taken → Option (List ℕ)
attested_after log = fold next_attested None log

module _ {P F : Type 0} (rules : Rules P F) where
  -- the policy that is opened, or the one before
  abbrev pub opened : Option P → Result P F → Option P
  opened policy (Ok next) = Some next
  opened policy (Err fault) = policy

  abbrev pub next_policy : Option P → Taken → Option P
  next_policy policy t = if is_of t.entry.body policy_name then opened policy (rules.epoch t.repository policy t.entry)
      else policy

  -- the policy in force after these entries
  abbrev pub policy_after : List Taken → Option P
  policy_after log = fold next_policy None log

  -- ---- skips
  abbrev pub key_may_skip : P → Option (List ℕ) → List ℕ → Bool
  key_may_skip policy None name = false
  key_may_skip policy (Some key) name = rules.may_skip policy key name

  -- whether an annotation may skip what a body records
  abbrev pub may_skip : Option P → Entry → EntryBody → Bool
  may_skip None annotation body = false
  may_skip (Some policy) annotation (Reference name target) = key_may_skip policy (rules.skipper policy annotation) name
  may_skip (Some policy) annotation (Annotation ids skip message) = false

  -- the annotation that comes after these entries skips the other entry
  abbrev pub skips : List Taken → Option Taken → Option Taken → Bool
  skips earlier (Some a) (Some x) = skips_id a.entry.body x.entry.id && may_skip (policy_after earlier) a.entry
      x.entry.body
  skips earlier (Some a) None = false
  skips earlier None other = false

  -- some later annotation of the log skips entry i
  abbrev pub skipped : List Taken → ℕ → Bool
  skipped log i = list_any (λ a. nat_lt i a && skips (before log a) (entry_at log a) (entry_at log i))
      (numbers (length log))

  -- the numbers of a reference's entries that are not skipped
  abbrev pub unskipped : List Taken → List ℕ → List ℕ
  unskipped log name = filter (λ i. is_entry_of (entry_at log i) name && not (skipped log i)) (numbers (length log))

  -- the greatest of them, and its target
  abbrev pub prior : List Taken → List ℕ → Option ℕ
  prior log name = last_of (unskipped log name)

  abbrev pub prior_target : List Taken → List ℕ → Option (List ℕ)
  prior_target log name = option_and_then (target_at log) (prior log name)

  -- where a reference stood after these entries, and the number of the entry that put it there, or 0
  abbrev pub from : List Taken → List ℕ → List ℕ
  from log name = unwrap_or (prior_target log name) zeros

  abbrev pub above : List Taken → List ℕ → ℕ
  above log name = unwrap_or (prior log name) 0

  -- ---- faults
  -- the fault of an entry of another reference than the policy's
  abbrev pub ordinary_fault : Option P → Taken → List ℕ → Option (List ℕ) → Option F
  ordinary_fault None t from attested = Some rules.no_policy
  ordinary_fault (Some policy) t from attested = rules.fault t.repository policy t.entry from attested

  abbrev pub reference_fault : List Taken → Taken → List ℕ → Option F
  reference_fault earlier t name =
      if bytes_eq name policy_name then result_err (rules.epoch t.repository (policy_after earlier) t.entry)
      else ordinary_fault (policy_after earlier) t (from earlier name) (attested_after earlier)

  abbrev pub body_fault : List Taken → Taken → EntryBody → Option F
  body_fault earlier t (Reference name target) = reference_fault earlier t name
  body_fault earlier t (Annotation ids skip message) = None

  -- the fault of the entry that comes after these
  abbrev pub fault_of : List Taken → Option Taken → Option F
  fault_of earlier None = None
  fault_of earlier (Some t) = body_fault earlier t t.entry.body

  abbrev pub fault_at : List Taken → ℕ → Option F
  fault_at log i = fault_of (before log i) (entry_at log i)

  abbrev pub authorised : List Taken → ℕ → Bool
  authorised log i = is_none (fault_at log i)

  -- the keys that signed for the entry that comes after these
  abbrev pub ordinary_signers : Option P → Taken → List ℕ → Option (List ℕ) → List (List ℕ)
  ordinary_signers None t from attested = []
  ordinary_signers (Some policy) t from attested = rules.signers t.repository policy t.entry from attested

  abbrev pub body_signers : List Taken → Taken → EntryBody → List (List ℕ)
  body_signers earlier t (Reference name target) =
      if bytes_eq name policy_name then [] else ordinary_signers (policy_after earlier) t (from earlier name)
      (attested_after earlier)
  body_signers earlier t (Annotation ids skip message) = []

  abbrev pub signers_of : List Taken → Taken → List (List ℕ)
  signers_of earlier t = body_signers earlier t t.entry.body

  -- the keys that signed for the last entry
  abbrev pub last_signers : List Taken → List (List ℕ)
  last_signers log = unwrap_or (option_map (signers_of (before log (length log))) (entry_at log (length log))) []

  -- ---- recoveries
  -- the entry that comes after these leaves the tree as its reference's prior has it
  abbrev pub keeps_tree : List Taken → Taken → EntryBody → Bool
  keeps_tree earlier t (Reference name target) = same_tree rules t.repository (from earlier name) target
  keeps_tree earlier t (Annotation ids skip message) = false

  -- the entry that comes after these completes a recovery
  abbrev pub completes : List Taken → Option Taken → Bool
  completes earlier None = false
  completes earlier (Some t) = is_none (fault_of earlier (Some t)) && keeps_tree earlier t t.entry.body

  -- the number of the prior of the entry that comes after these, or 0
  abbrev pub body_above : List Taken → EntryBody → ℕ
  body_above earlier (Reference name target) = above earlier name
  body_above earlier (Annotation ids skip message) = 0

  abbrev pub above_of : List Taken → Option Taken → ℕ
  above_of earlier None = 0
  above_of earlier (Some t) = body_above earlier t.entry.body

  -- entry f rescues entry b
  abbrev pub rescues : List Taken → ℕ → ℕ → Bool
  rescues log f b =
      share (entry_at log f) (entry_at log b)
      && (completes (before log f) (entry_at log f)
      && (nat_lt (above_of (before log f) (entry_at log f)) b && nat_lt b f))

  abbrev pub rescued : List Taken → ℕ → Bool
  rescued log b = list_any (λ f. rescues log f b) (numbers (length log))

  -- neither authorised nor rescued
  abbrev pub pending : List Taken → ℕ → Bool
  pending log i = not (authorised log i) && not (rescued log i)

  -- what the log makes of a reference
  abbrev pub lane : List Taken → List ℕ → Lane
  lane log name = record {
    pushed = filter (λ i. is_entry_of (entry_at log i) name) (numbers (length log));
    unskipped = unskipped log name;
    pending = filter (λ i. is_entry_of (entry_at log i) name && pending log i) (numbers (length log));
  }
