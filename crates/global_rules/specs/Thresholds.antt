-- Names for which fewer signed than a global rule asks for.
use Rattle.std.specs.Prelude.{◌&&◌, ◌++◌, ℕ, [], ◌∷◌, List, Option, Some, None, if◌then◌else◌, nat_lt}
use Rattle.std.specs.List.{list_any}
use Rattle.ref_patterns.specs.Patterns.{prefix}
use Rattle.root_metadata.specs.Judged.{or_next}
use Rattle.rule_files.specs.declared.rules.RuleFile.{RuleFile}
use Rattle.rule_delegations.specs.Reached.{Name, pattern_matches}
use Rattle.entry_rules.specs.Meeting.{file_name, git_name}
use Rattle.rule_files.specs.declared.global_rules.GlobalRule.{GlobalRule}
use Rattle.global_rules.specs.Greatest.{greatest}
use Rattle.global_rules.specs.declared.whys.Change.{Change}
use Rattle.global_rules.specs.declared.whys.GlobalWhy.{GlobalWhy}
use Rattle.global_rules.specs.declared.whys.GlobalWhy.TheVariants.{Threshold}

-- a name in words: `git:` or `file:`, and its text
abbrev pub words_of : Name → List ℕ
words_of name = prefix name.space ++ name.text

-- a name of which the rule speaks, for which so many persons did not sign
abbrev pub short_at : List RuleFile → List (List ℕ) → GlobalRule → ℕ → Name → Option GlobalWhy
short_at files signers rule need name =
    (if list_any (pattern_matches name) rule.paths && nat_lt (greatest files name signers) need
    then Some (Threshold rule.name (words_of name) (greatest files name signers) need) else None)

-- the first of some paths
abbrev pub first_short : List RuleFile → List (List ℕ) → GlobalRule → ℕ → List (List ℕ) → Option GlobalWhy
first_short files signers rule need [] = None
first_short files signers rule need (path ∷ paths) =
    or_next (short_at files signers rule need (file_name path)) (first_short files signers rule need paths)

-- the reference of a change, or else the first of the paths that changed
abbrev pub threshold_why : List RuleFile → GlobalRule → ℕ → Change → List (List ℕ) → Option GlobalWhy
threshold_why files rule need change paths =
    or_next (short_at files change.signers rule need (git_name change.name))
    (first_short files change.signers rule need paths)
