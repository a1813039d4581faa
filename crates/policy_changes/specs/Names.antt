-- The names of the references that a log speaks of, each once, in the order in which it does so first.
use Rattle.std.specs.Prelude.{◌++◌, ◌∷◌, [], ℕ, Bool, List, if◌then◌else◌}
use Rattle.std.specs.List.{fold, list_any}
use Rattle.std.specs.Str.{bytes_eq}
use Rattle.rsl_chain.specs.Entries.{Taken}
use Rattle.rsl_chain.specs.declared.entries.EntryBody.{EntryBody}
use Rattle.rsl_chain.specs.declared.entries.EntryBody.TheVariants.{Reference, Annotation}

abbrev pub has_name : List (List ℕ) → List ℕ → Bool
has_name names name = list_any (λ other. bytes_eq other name) names

-- the names with one more, unless it is there
abbrev pub with_name : List (List ℕ) → List ℕ → List (List ℕ)
with_name names name = if has_name names name then names else names ++ name ∷ []

-- and with the one of which a body records a target
abbrev pub with_body : List (List ℕ) → EntryBody → List (List ℕ)
with_body names (Reference name target) = with_name names name
with_body names (Annotation ids skip message) = names

abbrev pub with_entry : List (List ℕ) → Taken → List (List ℕ)
with_entry names t = with_body names t.entry.body

abbrev pub names_of : List Taken → List (List ℕ)
names_of log = fold with_entry [] log
