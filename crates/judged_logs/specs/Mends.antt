-- What mends a violation of a reference: which of its entries are to be skipped, and which tree is then to be brought
-- back.
use Rattle.std.specs.Prelude.{ℕ, List, Option, nat_le, nat_lt, unwrap_or, option_and_then}
use Rattle.std.specs.List.{filter}
use Rattle.git_object.specs.Ids.{zeros}
use Rattle.git_object.specs.Repository.{Repository}
use Rattle.rsl_chain.specs.Entries.{Taken}
use Rattle.recovery.specs.Lanes.{last_of}
use Rattle.judging.specs.Logs.{target_at, unskipped}
use Rattle.judging.specs.Rules.{Rules}
use Rattle.judged_logs.specs.declared.mend.Mend.{Mend}

module _ {P F : Type 0} (rules : Rules P F) (log : List Taken) (name : List ℕ) where
  -- of the reference's entries that are not skipped, those from a number on
  abbrev pub from_on : ℕ → List ℕ
  from_on b = filter (nat_le b) (unskipped rules log name)

  -- and those before it
  abbrev pub ahead_of : ℕ → List ℕ
  ahead_of b = filter (λ i. nat_lt i b) (unskipped rules log name)

  -- the last of these, at which the reference stands once the others are skipped, and its target
  abbrev pub way_back : ℕ → Option ℕ
  way_back b = last_of (ahead_of b)

  abbrev pub back_to : ℕ → Option (List ℕ)
  back_to b = option_and_then (target_at log) (way_back b)

  -- what mends a violation at a number, by the trees of the repository
  abbrev pub mend_of : Repository → ℕ → Mend
  mend_of r b = record {
    skip = from_on b;
    prior = way_back b;
    from = back_to b;
    tree = rules.tree_of r (unwrap_or (back_to b) zeros);
  }
