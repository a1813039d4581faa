-- A log that grows by an entry.
use Rattle.std.proofs.Common.{◌≡◌, ℕ, List, [], ◌∷◌, ◌++◌, ap, refl, sym, ◌∙◌}
use Rattle.std.specs.Option.{option_and_then}
use Rattle.std.specs.Prelude.{Option, Some, None}
use Rattle.git_object.specs.Objects.{Pair}
use Rattle.git_object.specs.Repository.{Repository, object_at}
use Rattle.keeper_api.specs.Growing.{Larger}
use Rattle.rsl_chain.specs.Chain.{AreLinked}
use Rattle.rsl_chain.specs.Growing.{KeepsEntries, LargerKeeps, LogGrows}
use Rattle.rsl_chain.specs.Logs.{head_of_pair, heads_of}
use Rattle.rsl_chain.specs.declared.heads.Head.{Head}
use Rattle.rsl_chain.proofs.Chains.{last_push, linked_push}

linked : (ids : List (List ℕ)) (small large : Repository) → KeepsEntries ids small large → AreLinked (heads_of small) ids → AreLinked (heads_of large) ids
linked ids small large keeps are front id rest is = keeps front id rest is _ (are front id rest is)

pub log_grows : LogGrows
log_grows ids id small large is_log gains = record {
  linked = linked_push (heads_of large) ids id (linked ids small large gains.keeps is_log.linked) gains.counts;
  last = last_push ids id ∙ sym gains.at;
}

-- what an object that is found leads to, where it is found again
found_again : (few more : Option Pair) (head : Head) → ((pair : Pair) → few ≡ Some pair → more ≡ Some pair)
    → option_and_then (λ pair. head_of_pair pair.kind pair.body) few ≡ Some head → option_and_then (λ pair. head_of_pair pair.kind pair.body) more ≡ Some head
found_again None more head keeps is = let bad : None ≡ Some head = is in cc
found_again (Some pair) more head keeps is = ap (option_and_then (λ (p : Pair). head_of_pair p.kind p.body)) (keeps pair refl) ∙ is

pub larger_keeps : LargerKeeps
larger_keeps ids small large larger front id rest is head read = found_again (object_at small id) (object_at large id) head (larger id) read
