-- The reads of a log that grows by an entry.
use Rattle.std.proofs.Common.{◌≡◌, ◌<◌, ◌≤◌, ◌+◌, ◌++◌, ◌∙◌, ℕ, true, List, [], ◌∷◌, length, take, get_or, Some, ap, sym, subst, append_assoc, append-nil, arith}
use Rattle.std.specs.Option.{option_map}
use Rattle.git_object.specs.Repository.{Repository}
use Rattle.rsl_chain.specs.Entries.{Taken}
use Rattle.rsl_chain.specs.declared.entries.Entry.{Entry}
use Rattle.rsl_chain.specs.Logs.{entry_at}
use Rattle.judging.specs.Reads.{is_bounded}
use Rattle.judging.specs.Rules.{Rules}
use Rattle.policy_epochs.specs.declared.policies.Policy.{Policy}
use Rattle.entry_rules.specs.declared.faults.Fault.{Fault}
use Rattle.verify_ref.specs.Logs.{AreEntries, taken_at}
use Rattle.verify_ref.specs.Reading.{AreBounded, extending_reads, judging_reads, reads_behind}
use Rattle.verify_ref.proofs.OneVerdict.{same_entries}
use Rattle.verify_ref.proofs.Walking.{entries_more, one_more}

behind_more : (rules : Rules Policy Fault) (earlier later : List Taken) (t : Taken)
    → reads_behind rules earlier (later ++ t ∷ []) ≡ reads_behind rules earlier later + (1 + extending_reads rules (earlier ++ later) t)
behind_more rules earlier [] t =
    let none = ap (λ (l : List Taken). extending_reads rules l t) (append-nil earlier) in
    omega (arith, none)
behind_more rules earlier (x ∷ later) t =
    let rest = behind_more rules (earlier ++ x ∷ []) later t in
    let whole = ap (λ (l : List Taken). extending_reads rules l t) (append_assoc earlier (x ∷ []) later) in
    omega (arith, rest, whole)

front_bounded : (rules : Rules Policy Fault) (log : List Taken) (t : Taken) → AreBounded rules (log ++ t ∷ []) → AreBounded rules log
front_bounded rules log t bounded = λ earlier later u is. bounded earlier (later ++ t ∷ []) u (ap (λ (l : List Taken). l ++ t ∷ []) is ∙ append_assoc earlier (u ∷ later) (t ∷ []))

-- what is read of the entries up to a place, and of the next
pub reads_more : (rules : Rules Policy Fault) (r : Repository) (ids : List (List ℕ)) (i : ℕ) (id : List ℕ) → i < length ids → id ≡ get_or ids i id
    → (log : List Taken) → AreEntries r (take i ids) log → (entry : Entry) → entry_at r id ≡ Some entry
    → (start before after : ℕ) → (AreBounded rules log → before ≤ start + judging_reads rules log)
    → (is_bounded rules log (record { entry = entry; repository = r }) ≡ true → after ≤ before + (1 + extending_reads rules log (record { entry = entry; repository = r })))
    → (more : List Taken) → AreEntries r (take (i + 1) ids) more → AreBounded rules more → after ≤ start + judging_reads rules more
reads_more rules r ids i id below at log are entry there start before after had next more are_more bounded =
    let t : Taken = record { entry = entry; repository = r } in
    let is_taken : taken_at r id ≡ Some t = ap (option_map (λ (e : Entry). record { entry = e; repository = r })) there in
    let longer : AreEntries r (take (i + 1) ids) (log ++ t ∷ []) = subst (λ xs. AreEntries r xs (log ++ t ∷ [])) (one_more ids i id below at) (entries_more r (take i ids) id log t are is_taken) in
    let same : more ≡ log ++ t ∷ [] = same_entries more (log ++ t ∷ []) (sym are_more ∙ longer) in
    let all : AreBounded rules (log ++ t ∷ []) = subst (AreBounded rules) same bounded in
    let reads : judging_reads rules more ≡ judging_reads rules log + (1 + extending_reads rules log t) = ap (judging_reads rules) same ∙ behind_more rules [] log t in
    omega (arith, had (front_bounded rules log t all), next (all log [] t (λ _. log ++ t ∷ [])), reads)
