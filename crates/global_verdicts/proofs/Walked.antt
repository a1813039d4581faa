-- The entries of a log, judged one after the other.
use Rattle.std.proofs.Common.{◌≡◌, ◌<◌, ◌+◌, ◌++◌, ℕ, List, [], ◌∷◌, length, take, get_or, Option, Some, ap, subst}
use Rattle.std.specs.Option.{option_map}
use Rattle.git_object.specs.Repository.{Repository}
use Rattle.rsl_chain.specs.Entries.{Taken}
use Rattle.rsl_chain.specs.declared.entries.Entry.{Entry}
use Rattle.verify_ref.specs.Logs.{AreEntries, taken_at}
use Rattle.verify_ref.proofs.Walking.{entries_more, one_more}
use Rattle.verify_ref.specs.Verdicts.{IsRefusal}
use Rattle.rsl_chain.specs.Logs.{IsUnbroken}
use Rattle.rsl_chain.specs.declared.log_faults.LogFault.{LogFault}
use Rattle.rsl_chain.specs.declared.log_faults.LogFault.TheVariants.{Broken, Failed, Memory}
use Rattle.entry_rules.specs.RealRules.{real_rules}
use Rattle.global_verdicts.specs.Passing.{IsJudgedLog, JudgesNext, StandsFor}
use Rattle.global_verdicts.specs.Verdicts.{IsGlobal, IsGlobalVerdict}
use Rattle.global_verdicts.specs.declared.verdicts.GlobalVerdict.{GlobalVerdict}
use Rattle.global_verdicts.specs.declared.pass.Pass.{Pass}

pub judged_next : (r : Repository) (ids : List (List ℕ)) (i : ℕ) (id : List ℕ) → i < length ids → id ≡ get_or ids i id → (log : List Taken) (was now : Pass) → AreEntries r (take i ids) log → StandsFor log was
    → JudgesNext r id was now → (more : List Taken) × AreEntries r (take (i + 1) ids) more × StandsFor more now
judged_next r ids i id below at log was now are stands step =
    let t : Taken = record { entry = step.entry; repository = r } in
    let there : taken_at r id ≡ Some t = ap (option_map (λ (entry : Entry). record { entry = entry; repository = r })) step.there in
    (log ++ t ∷ [], subst (λ (xs : List (List ℕ)). AreEntries r xs (log ++ t ∷ [])) (one_more ids i id below at) (entries_more r (take i ids) id log t are there), step.stands log stands)

pub refusal_of : (r : Repository) (fault : LogFault) → IsUnbroken fault → IsRefusal r fault
refusal_of r (Broken id) none = absurd none
refusal_of r Failed none = tt
refusal_of r Memory none = tt

-- the verdict by a log that was judged is the repository's
pub global_of : (r : Repository) (name : List ℕ) (anchor : Option (List (List ℕ))) (pass : Pass) (verdict : GlobalVerdict) → IsJudgedLog r name anchor pass
    → ((log : List Taken) → StandsFor log pass → IsGlobalVerdict (real_rules pass.engine.rules.anchor) log pass.name verdict) → IsGlobal r name anchor verdict
global_of r name anchor pass verdict is concluded =
    let by_anchor = subst (λ (a : Option (List (List ℕ))). IsGlobalVerdict (real_rules a) is.log pass.name verdict) is.anchored (concluded is.log is.stands) in
    record {
      ids = is.ids;
      is_log = is.is_log;
      log = is.log;
      entries = is.entries;
      judged = subst (λ (n : List ℕ). IsGlobalVerdict (real_rules anchor) is.log n verdict) is.named by_anchor;
    }
