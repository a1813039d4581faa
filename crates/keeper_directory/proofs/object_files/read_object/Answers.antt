use Rattle.std.proofs.Common.{◌≡◌, ◌++◌, ◌+◌, ◌-◌, List, ℕ, length, IfSome, sym, ap, subst, ◌∙◌, rules, arith}
use Rattle.git_object.specs.Objects.{Pair, object_text}
use Rattle.keeper_directory.specs.Files.{object_head}
use Rattle.keeper_directory.proofs.Reading.{IsRead, headed, no_head, other_size, too_large, whole}
use Rattle.keeper_directory.proofs.object_files.read_object.Goals as goal
use Rattle.keeper_directory.proofs.object_files.read_object.Goals.{After-len-2}
use Rattle.keeper_directory.proofs.object_files.read_object.Given.{Over}

limit : (g : Over) (c : After-len-2 g) → c.saturating_sub-left.result + 1 ≡ (c.in-Some.head.size - length c.in_ok-body.body.items) + 1
limit g c = ap (λ (n : ℕ). n + 1) (search rules)

-- what was read is the head and the body
read : (g : Over) (c : After-len-2 g) → IfSome (g.F.Read.remaining c.args.file) (IsRead c.in-Some.head.kind c.in-Some.head.size (c.saturating_sub-left.result + 1) c.in_ok-body.body.items c.read_up_to.new.bytes.items)
read g c =
    let same : c.in_ok-front.front.items ≡ c.as_slice.result.now = search rules in
    let start : c.in_ok-front.front.items ≡ object_head c.in-Some.head.kind c.in-Some.head.size ++ c.in_ok-body.body.items =
    same ∙ c.in-Some.ensures.found ∙ ap (λ (r : List ℕ). object_head c.in-Some.head.kind c.in-Some.head.size ++ r) (sym c.in_ok-body.ensures.items) in
    headed _ _ c.in_ok-front.front.items c.in_ok-body.body.items c.read_up_to.new.bytes.items c.in-Some.head.kind c.in-Some.head.size _ c.in_ok-front.ensures.bytes start c.in_ok-read_up_to.ensures

long : (g : Over) (c : After-len-2 g) → length c.read_up_to.new.bytes.items ≡ c.len-2.result
long g c = search rules

pub returns-in_default-clause-none : goal.returns-in_default-clause-none
returns-in_default-clause-none g c =
    let same : c.as_slice.result.now ≡ c.in_ok-front.front.items = search rules in
    no_head _ _ c.in_ok-front.front.items c.in_ok-front.ensures.bytes c.in_ok-front.ensures.end (λ kind size rest small e. c.in_default.ensures.none kind size rest small (same ∙ e))

pub returns-then-head-gt-LARGEST_BODY-clause-none : goal.returns-then-head-gt-LARGEST_BODY-clause-none
returns-then-head-gt-LARGEST_BODY-clause-none g c =
    let same : c.in_ok-front.front.items ≡ c.as_slice.result.now = search rules in
    too_large _ _ c.in_ok-front.front.items c.in-Some.head.rest.now c.in-Some.head.kind c.in-Some.head.size c.in-Some.ensures.fits c.in_ok-front.ensures.bytes (same ∙ c.in-Some.ensures.found) c.if-head-gt-LARGEST_BODY.true

pub returns-then-len-head-clause-none : goal.returns-then-len-head-clause-none
returns-then-len-head-clause-none g c =
    let here = (goal.at.returns-then-len-head-clause-none g c).After-len-2 in
    other_size _ c.in_ok-body.body.items c.read_up_to.new.bytes.items c.in-Some.head.kind c.in-Some.head.size _ c.in-Some.ensures.fits (read g here) (limit g here) (λ e. omega (arith, c.if-len-head.true, long g here, e))

pub returns-clause-found : goal.returns-clause-found
returns-clause-found g c =
    let here = (goal.at.returns-clause-found g c).After-len-2 in
    let pair : c.in_ok-object.object ≡ record { kind = c.in-Some.head.kind; body = c.read_up_to.new.bytes.items } = search rules in
    subst (λ (o : Pair). IfSome (g.F.Read.remaining c.args.file) (λ text. text ≡ object_text o.kind o.body)) (sym pair)
    (whole _ c.in_ok-body.body.items c.read_up_to.new.bytes.items c.in-Some.head.kind c.in-Some.head.size _ (read g here) (limit g here) (omega (arith, long g here, c.if-len-head.false)))
