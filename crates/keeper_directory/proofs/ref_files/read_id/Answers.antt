use Rattle.std.proofs.Common.{◌≡◌, ap, ◌∙◌, length, rules, arith}
use Rattle.keeper_directory.proofs.Reading.{ended, length-ref_text, no_ref}
use Rattle.keeper_directory.proofs.ref_files.read_id.Goals as goal

pub returns-in-Some-clause-found : goal.returns-in-Some-clause-found
returns-in-Some-clause-found g c =
    let same : c.in_ok-front.front.items ≡ c.as_slice.result.now = search rules in
    let is = same ∙ c.in-Some.ensures.found in
    let long = ap length is ∙ length-ref_text c.in-Some.id c.in-Some.ensures.valid in
    (c.in-Some.ensures.valid, ended _ _ c.in_ok-front.front.items _ c.in_ok-front.ensures.bytes (c.in_ok-front.ensures.end (omega (arith, long))) is)

pub returns-clause-none : goal.returns-clause-none
returns-clause-none g c =
    let same : c.as_slice.result.now ≡ c.in_ok-front.front.items = search rules in
    no_ref _ _ c.in_ok-front.front.items c.in_ok-front.ensures.bytes c.in_ok-front.ensures.end (λ id is e. c.in-None.ensures.none id is (same ∙ e))
