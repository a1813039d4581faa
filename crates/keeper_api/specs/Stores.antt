-- A store in memory: what it holds, which of its calls fail, which failed commits it keeps.
use Rattle.std.specs.Prelude.{ℕ, ◌==◌, Bool, List, Result, Ok, Err, if◌then◌else◌, refl}
use Rattle.std.specs.Coded.{Coded, code_by, coded×, coded_list, coded_ℕ}
use Rattle.std.specs.FinMap.{code}
use Rattle.std.specs.List.{list_any}
use Rattle.octets.specs.BytesMap.{BytesMap}
use Rattle.octets.specs.Calls.{Calls, after_call, after_other}
use Rattle.octets.specs.Causes.{one_more}
use Rattle.git_object.specs.Objects.{Pair}
use Rattle.git_object.specs.Repository.{Repository}
use Rattle.git_object.specs.contracts.stored_objects.Object as object
use Rattle.keeper_api.specs.Changes.{changed}
use Rattle.keeper_api.specs.declared.changes.Change.{Change}
use Rattle.keeper_api.specs.declared.keeper_faults.KeeperFault.{KeeperFault}
use Rattle.keeper_api.specs.declared.keeper_faults.KeeperFault.TheVariants.{Failed, Memory}

-- the numbers of the failing commits that are kept stand in `kept`
pub record Store : Type 0 where
  pub held : Repository
  pub calls : Calls
  pub kept : List ℕ
  pub reads : ℕ

-- whether the next call, where it is a commit that fails, is kept
abbrev pub keeps_next : Store → Bool
keeps_next store = list_any (λ number. number == one_more store.calls.made) store.kept

-- what is held after a commit
abbrev pub held_after : Store → Change → {T : Type 0} → Result T KeeperFault → Repository
held_after store change (Ok _) = changed change store.held
held_after store change (Err Failed) = (if keeps_next store then changed change store.held else store.held)
held_after store change (Err Memory) = store.held

-- the calls after a commit: want of memory is no fault, also of one that is listed
abbrev pub calls_after : Calls → {T : Type 0} → Result T KeeperFault → Calls
calls_after calls (Ok _) = after_call calls
calls_after calls (Err Failed) = after_call calls
calls_after calls (Err Memory) = after_other calls

-- a repository is told apart as the pair of its maps
abbrev pub repository_coded : Coded Repository
repository_coded =
    code_by (BytesMap Pair × BytesMap (List ℕ))
    (coded× (code (coded_list coded_ℕ) object.the_row.coded) (code (coded_list coded_ℕ) (coded_list coded_ℕ)))
    (λ r. (r.objects, r.refs)) (λ p. record { objects = p.0; refs = p.1 }) (λ _. refl)

-- calls are told apart as the tuple of their parts
abbrev pub calls_coded : Coded Calls
calls_coded =
    code_by (List ℕ × (ℕ × ℕ)) (coded× (coded_list coded_ℕ) (coded× coded_ℕ coded_ℕ))
    (λ c. (c.listed, (c.made, c.faults))) (λ p. record { listed = p.0; made = p.1.0; faults = p.1.1 }) (λ _. refl)

-- a store is told apart as the tuple of its parts
abbrev pub store_coded : Coded Store
store_coded =
    code_by (Repository × (Calls × (List ℕ × ℕ)))
    (coded× repository_coded (coded× calls_coded (coded× (coded_list coded_ℕ) coded_ℕ)))
    (λ s. (s.held, (s.calls, (s.kept, s.reads))))
    (λ p. record { held = p.0; calls = p.1.0; kept = p.1.1.0; reads = p.1.1.1 }) (λ _. refl)
