-- The entries of a log, judged one after the other.
use Rattle.std.proofs.Common.{◌≡◌, ◌<◌, ◌+◌, ◌++◌, ℕ, List, [], ◌∷◌, length, take, take_all, min, get_or, Some, ap, arith, sym, subst, ◌∙◌, length-append, inl, inr}
use Rattle.std.proofs.lemmas.Bool.{cases_lt}
use Rattle.std.proofs.lemmas.List.{get_or_append_left, take-append-le}
use Rattle.std.specs.List.{AllByRecursion}
use Rattle.std.specs.Option.{option_map}
use Rattle.git_object.specs.Repository.{Repository}
use Rattle.rsl_chain.specs.Entries.{Taken}
use Rattle.rsl_chain.specs.declared.entries.Entry.{Entry}
use Rattle.rsl_chain.specs.Logs.{IsLogOf, IsUnbroken, entry_at}
use Rattle.rsl_chain.specs.declared.log_faults.LogFault.{LogFault}
use Rattle.rsl_chain.specs.declared.log_faults.LogFault.TheVariants.{Broken, Failed, Memory}
use Rattle.verify_ref.specs.Verdicts.{IsRefusal}
use Rattle.judging.specs.Engines.{Stands}
use Rattle.judging.specs.Rules.{Rules}
use Rattle.judging.specs.declared.engine.Engine.{Engine}
use Rattle.policy_epochs.specs.declared.policies.Policy.{Policy}
use Rattle.entry_rules.specs.declared.faults.Fault.{Fault}
use Rattle.verify_ref.specs.Logs.{AreEntries, IsAstray, taken_at}
use Rattle.verify_ref.proofs.Walking.{entries_more, one_more, unbroken}
use Rattle.accounts.specs.Judging.{IsOwn, JudgesNext}

all_push : {X : Type 0} (P : X → Type 0) (xs : List X) (x : X) → AllByRecursion P xs → P x → AllByRecursion P (xs ++ x ∷ [])
all_push P [] x all p = (p, tt)
all_push P (y ∷ ys) x all p = (all.0, all_push P ys x all.1 p)

pub judged_next : (r : Repository) (ids : List (List ℕ)) (i : ℕ) (id : List ℕ) → i < length ids → id ≡ get_or ids i id → (log : List Taken) (was now : List Taken → Type 0) → AreEntries r (take i ids) log → AllByRecursion (IsOwn r) log → was log
    → JudgesNext r id was now → (more : List Taken) × AreEntries r (take (i + 1) ids) more × AllByRecursion (IsOwn r) more × now more
judged_next r ids i id below at log was now are own stands step =
    let t : Taken = record { entry = step.entry; repository = r } in
    let there : taken_at r id ≡ Some t = ap (option_map (λ (entry : Entry). record { entry = entry; repository = r })) step.there in
    let its : entry_at r step.entry.id ≡ Some step.entry = ap (entry_at r) step.own ∙ step.there in
    (log ++ t ∷ [], subst (λ (xs : List (List ℕ)). AreEntries r xs (log ++ t ∷ [])) (one_more ids i id below at) (entries_more r (take i ids) id log t are there), all_push (IsOwn r) log t own its, step.stands log stands)

-- a fault at an entry of a front of the log tells no break
pub unbroken_front : (rules : Rules Policy Fault) (r : Repository) (ids rest : List (List ℕ)) (i : ℕ) (id : List ℕ) → i < length ids
    → id ≡ get_or ids i id → (engine : Engine Policy Fault) (log : List Taken) → AreEntries r (take i ids) log
    → Stands rules log engine → (fault : LogFault) → IsAstray r engine id fault → IsLogOf r (ids ++ rest) → IsUnbroken fault
unbroken_front rules r ids rest i id below at engine log are stands fault astray is_log =
    let long : length (ids ++ rest) ≡ length ids + length rest = length-append ids rest in
    let within : i < length (ids ++ rest) = omega arith in
    let front : take i (ids ++ rest) ≡ take i ids = take-append-le i ids rest (omega arith) in
    let here : id ≡ get_or (ids ++ rest) i id = at ∙ sym (get_or_append_left ids rest id i below) in
    let those = subst (λ (xs : List (List ℕ)). AreEntries r xs log) (sym front) are in
    unbroken rules r (ids ++ rest) i id within here engine log those stands fault astray is_log

pub refusal_of : (r : Repository) (fault : LogFault) → IsUnbroken fault → IsRefusal r fault
refusal_of r (Broken id) none = absurd none
refusal_of r Failed none = tt
refusal_of r Memory none = tt

-- the front of a list up to a number
pub front_is : {X : Type 0} (n : ℕ) (xs : List X) → take (min (length xs) n) xs ≡ take n xs
front_is n xs = elim (cases_lt (length xs) n) [
  | inl short ↦
      let all : take (min (length xs) n) xs ≡ xs = take_all (min (length xs) n) xs (omega arith) in
      all ∙ sym (take_all n xs (omega arith))
  | inr long ↦ let same : min (length xs) n ≡ n = omega arith in ap (λ (k : ℕ). take k xs) same
]
