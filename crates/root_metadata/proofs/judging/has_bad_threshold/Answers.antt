use Rattle.std.proofs.Common.{ℕ, List, ap, ◌∙◌}
use Rattle.std.specs.Prelude.{◌==◌, ◌||◌, Bool, count_by, nat_lt}
use Rattle.root_metadata.specs.Judged.{is_known}
use Rattle.root_metadata.proofs.Lookups.{found}
use Rattle.root_metadata.proofs.judging.has_bad_threshold.Goals as goal

pub returns : goal.returns
returns c =
    let roster = c.args.roster.now in
    let role = c.args.role.now in
    c.is_out_of_reach.ensures
    ∙ ap (λ (n : ℕ). role.threshold == 0 || nat_lt n role.threshold) (c.count_found-count.ensures
    ∙ ap (λ (test : List ℕ → Bool). count_by test c.as_slice.result.now) (found roster c.args.known.now c.requires)
    ∙ ap (λ (listed : List (List ℕ)). count_by (is_known roster) listed) c.as_slice.ensures.value)
