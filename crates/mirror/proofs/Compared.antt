-- Two logs that were loaded and compared.
use Rattle.std.proofs.Common.{◌≡◌, ◌≤◌, ℕ, List, ◌∷◌, length, ap, arith, length-append}
use Rattle.std.specs.Prelude.{Option, Some, None, option_and_then}
use Rattle.git_object.specs.Objects.{Pair}
use Rattle.git_object.specs.Repository.{Repository, object_at}
use Rattle.keeper_api.proofs.Growing.{has_there}
use Rattle.rsl_chain.specs.Chain.{head_after}
use Rattle.rsl_chain.specs.Logs.{IsBrokenAs, IsLogOf, head_of_pair}
use Rattle.rsl_chain.specs.declared.heads.Head.{Head}
use Rattle.rsl_chain.specs.declared.log_faults.LogFault.{LogFault}
use Rattle.rsl_chain.specs.declared.log_faults.LogFault.TheVariants as log
use Rattle.mirror.specs.Faults.{fault_of_offered}
use Rattle.mirror.specs.Offering.{IsOffering}
use Rattle.mirror.specs.Reading.{BreaksAsOffered}
use Rattle.mirror.specs.Settling.{CanSettle}
use Rattle.mirror.specs.declared.offers.Offer.{Offer}
use Rattle.mirror.specs.declared.offers.Offer.TheVariants.{Taken, Same, Behind, Forked}

-- a refusal of the offered log
pub broken_offered : (r : Repository) (fault : LogFault) → IsBrokenAs r fault → BreaksAsOffered r (fault_of_offered fault)
broken_offered r (log.Broken id) is = is
broken_offered r log.Failed is = tt
broken_offered r log.Memory is = tt

found_there : (found : Option Pair) (head : Head) → option_and_then (λ pair. head_of_pair pair.kind pair.body) found ≡ Some head → (pair : Pair) × (found ≡ Some pair)
found_there None head is = let bad : None ≡ Some head = is in cc
found_there (Some pair) head is = (pair, cc)

-- the entry at which an offered log parts is there
pub can_settle : (held : Repository) (ours theirs : List (List ℕ)) (offer : Offer) → IsOffering ours theirs offer → length ours ≤ 1000000 → IsLogOf held theirs → CanSettle held offer
can_settle held ours theirs (Taken from to) is few log = tt
can_settle held ours theirs (Same count) is few log = tt
can_settle held ours theirs (Behind kept offered) is few log = tt
can_settle held ours theirs (Forked number x y) is few log =
    let there = found_there (object_at held y) (head_after is.front) (log.linked is.front y is.offered_rest is.in_offered) in
    let all = ap length is.in_kept in
    let parts = length-append is.front (x ∷ is.kept_rest) in
    let counts = is.counts in
    (omega arith, (there.0, has_there held y there.0 there.1))
