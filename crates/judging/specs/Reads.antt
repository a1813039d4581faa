-- The reads of objects that taking an entry may cost: those of the rules that decide it.
use Rattle.std.specs.Prelude.{◌+◌, ℕ, Bool, true, List, if◌then◌else◌, nat_lt}
use Rattle.std.specs.List.{list_any}
use Rattle.rsl_chain.specs.Entries.{Taken}
use Rattle.rsl_chain.specs.declared.entries.EntryBody.{EntryBody}
use Rattle.rsl_chain.specs.declared.entries.EntryBody.TheVariants.{Reference, Annotation}
use Rattle.judging.specs.Rules.{Rules}
use Rattle.judging.specs.Decisions.{decision_reads}
use Rattle.judging.specs.Logs.{above, attested_after, from, lane, policy_after}

-- whether an entry of the reference is pending above its prior, which a recovery would take in
abbrev pub may_rescue : {P F : Type 0} → Rules P F → List Taken → List ℕ → Bool
may_rescue rules earlier name = list_any (nat_lt (above rules earlier name)) (lane rules earlier name).pending

-- the reads of what decides an entry
abbrev pub body_decision_reads : {P F : Type 0} → Rules P F → List Taken → Taken → EntryBody → ℕ
body_decision_reads rules earlier t (Reference name target) =
    decision_reads rules t.repository (policy_after rules earlier) t.entry name (from rules earlier name)
    (attested_after earlier)
body_decision_reads rules earlier t (Annotation ids skip message) = 0

-- and of asking whether it completes a recovery
abbrev pub body_reads : {P F : Type 0} → Rules P F → List Taken → Taken → EntryBody → ℕ
body_reads rules earlier t (Reference name target) =
    body_decision_reads rules earlier t (Reference name target)
    + (if may_rescue rules earlier name then rules.tree_reads t.repository (from rules earlier name) target else 0)
body_reads rules earlier t (Annotation ids skip message) = 0

-- of the entry that comes after these
abbrev pub reads_of : {P F : Type 0} → Rules P F → List Taken → Taken → ℕ
reads_of rules earlier t = body_reads rules earlier t t.entry.body

-- of deciding it alone
abbrev pub decision_reads_of : {P F : Type 0} → Rules P F → List Taken → Taken → ℕ
decision_reads_of rules earlier t = body_decision_reads rules earlier t t.entry.body

-- whether the reads for what a body records are bounded
abbrev pub body_bounded : {P F : Type 0} → Rules P F → List Taken → Taken → EntryBody → Bool
body_bounded rules earlier t (Reference name target) = rules.bounded t.repository (from rules earlier name) target
body_bounded rules earlier t (Annotation ids skip message) = true

abbrev pub is_bounded : {P F : Type 0} → Rules P F → List Taken → Taken → Bool
is_bounded rules earlier t = body_bounded rules earlier t t.entry.body
