use Rattle.std.proofs.Common.{◌≡◌, ◌<◌, ◌+◌, ◌++◌, ℕ, List, [], ◌∷◌, length, Some, refl, sym, ap, subst, ◌∙◌, arith, rules}
use Rattle.std.specs.Prelude.{slice_get}
use Rattle.git_object.specs.Repository.{Repository}
use Rattle.keeper_api.proofs.Coming.{as_before_then}
use Rattle.tree_paths.proofs.ObjectsRead.{none_at, some_at}
use Rattle.global_rules.specs.Commits.{NoCommits, commit_parents}
use Rattle.global_rules.specs.Order.{with_new}
use Rattle.global_rules.proofs.Turns.{IsAtTurn, starts}
use Rattle.global_rules.proofs.Walks.{ended, is_yes, next_turn, no_fewer, too_far, unwalked, walked}
use Rattle.global_rules.proofs.walking.walk.Goals as goal

pub returns-in_err-push-clause-walked : goal.returns-in_err-push-clause-walked
returns-in_err-push-clause-walked g c = λ r told.
    unwalked c.args.most (commit_parents r) c.args.root.now c.args.from.now (g.R.Keeper.reads c.args.keeper.now) (g.R.Keeper.reads c.args.keeper.now) (omega arith)

pub commits-init : goal.commits-init
commits-init g c =
    let met : c.push.new.self ≡ c.args.root.now ∷ [] = c.in_ok-push.ensures.added ∙ ap (λ (xs : List (List ℕ)). xs ++ c.args.root.now ∷ []) c.new-met.ensures in
    record {
      at = λ r told. subst (λ (xs : List (List ℕ)). IsAtTurn (commit_parents r) c.args.root.now c.args.from.now 0 xs 0) (sym met) (starts (commit_parents r) c.args.root.now c.args.from.now);
      within = omega arith;
      same = search rules;
      quiet = refl;
      reads = omega arith;
    }

pub returns-in_default-clause-descent : goal.returns-in_default-clause-descent
returns-in_default-clause-descent g c = λ r told.
    let at = c.commits.invariant.at r (c.next_commit.ensures.same.content r told) in
    let none = subst (λ (xs : List (List ℕ)). NoCommits (commit_parents r) xs c.commits.at c.next_commit.new.at) c.as_slice.ensures (c.next_commit.ensures.passed r told) in
    let end : c.next_commit.new.at ≡ length c.commits.met = none_at c.in_ok-parents.field-0 c.in_ok-parents.ensures.end c.in_default.is ∙ ap length c.as_slice.ensures in
    ended c.args.most (commit_parents r) c.args.root.now c.args.from.now c.commits.at c.next_commit.new.at c.commits._count c.commits.met c.next_commit.ensures.on none at end (let less = c.commits-test.true in omega (arith, less))

pub returns-then-is_at-clause-descent : goal.returns-then-is_at-clause-descent
returns-then-is_at-clause-descent g c = λ r told.
    let at = c.commits.invariant.at r (c.next_commit.ensures.same.content r told) in
    let none = subst (λ (xs : List (List ℕ)). NoCommits (commit_parents r) xs c.commits.at c.next_commit.new.at) c.as_slice.ensures (c.next_commit.ensures.passed r told) in
    let within : c.next_commit.new.at < length c.as_slice.result.now = some_at (λ (ids : List (List ℕ)). c.next_commit.new.at < length c.as_slice.result.now) c.in_ok-parents.field-0 c.in-Some.parents c.in_ok-parents.ensures.there c.in-Some.is in
    let size = ap length c.as_slice.ensures in
    is_yes c.args.most (commit_parents r) c.args.root.now c.args.from.now c.commits.at c.next_commit.new.at c.commits._count c.commits.met c.next_commit.ensures.on none at (omega (arith, within, size)) c.in-Some.parents
    (λ id here. some_at (λ (ids : List (List ℕ)). (s : Repository) → g.R.Keeper.content c.next_commit.new.keeper ≡ Some s → (x : List ℕ) → slice_get c.as_slice.result.now c.next_commit.new.at ≡ Some x → commit_parents s x ≡ Some ids)
    c.in_ok-parents.field-0 c.in-Some.parents c.in_ok-parents.ensures.found c.in-Some.is r told id (ap (λ (xs : List (List ℕ)). slice_get xs c.next_commit.new.at) c.as_slice.ensures ∙ here))
    (λ id here. sym (c.is_at.ensures id (ap (λ (xs : List (List ℕ)). slice_get xs c.next_commit.new.at) c.as_slice-in-commits.ensures ∙ here)) ∙ c.if-is_at.true)
    c.commits-test.true

pub returns-in_err-meet-clause-walked : goal.returns-in_err-meet-clause-walked
returns-in_err-meet-clause-walked g c = λ r told.
    let at = c.commits.invariant.at r (c.next_commit.ensures.same.content r told) in
    let none = subst (λ (xs : List (List ℕ)). NoCommits (commit_parents r) xs c.commits.at c.next_commit.new.at) c.as_slice.ensures (c.next_commit.ensures.passed r told) in
    let size = ap length c.as_slice.ensures in
    let few = c.next_commit.ensures.few in
    let reads = c.commits.invariant.reads in
    let place = c.commits.invariant.within in
    let within = c.next_commit.ensures.within in
    let less = c.commits-test.true in
    walked c.args.most (commit_parents r) c.args.root.now c.args.from.now c.commits.at c.next_commit.new.at c.commits._count c.commits.met c.next_commit.ensures.on none at
    (g.R.Keeper.reads c.args.keeper.now) (g.R.Keeper.reads c.next_commit.new.keeper) (omega (arith, within, size)) (omega (arith, less)) (omega (arith, size, few, reads, place))

pub commits-preserved : goal.commits-preserved
commits-preserved g c =
    let size = ap length c.as_slice.ensures in
    let within : c.next_commit.new.at < length c.as_slice.result.now = some_at (λ (ids : List (List ℕ)). c.next_commit.new.at < length c.as_slice.result.now) c.in_ok-parents.field-0 c.in-Some.parents c.in_ok-parents.ensures.there c.in-Some.is in
    let met : c.meet.new.met ≡ with_new c.commits.met c.in-Some.parents = c.in_ok-meet.ensures ∙ ap (with_new c.commits.met) c.as_slice-in-commits-2.ensures in
    record {
      at = λ r told.
          let at = c.commits.invariant.at r (c.next_commit.ensures.same.content r told) in
          let none = subst (λ (xs : List (List ℕ)). NoCommits (commit_parents r) xs c.commits.at c.next_commit.new.at) c.as_slice.ensures (c.next_commit.ensures.passed r told) in
          subst (λ (xs : List (List ℕ)). IsAtTurn (commit_parents r) c.args.root.now c.args.from.now (c.next_commit.new.at + 1) xs (c.commits._count + 1)) (sym met)
          (next_turn c.args.most (commit_parents r) c.args.root.now c.args.from.now c.commits.at c.next_commit.new.at c.commits._count c.commits.met c.next_commit.ensures.on none at (omega (arith, within, size)) c.in-Some.parents
          (λ id here. some_at (λ (ids : List (List ℕ)). (s : Repository) → g.R.Keeper.content c.next_commit.new.keeper ≡ Some s → (x : List ℕ) → slice_get c.as_slice.result.now c.next_commit.new.at ≡ Some x → commit_parents s x ≡ Some ids)
          c.in_ok-parents.field-0 c.in-Some.parents c.in_ok-parents.ensures.found c.in-Some.is r told id (ap (λ (xs : List (List ℕ)). slice_get xs c.next_commit.new.at) c.as_slice.ensures ∙ here))
          (λ id here. sym (c.is_at.ensures id (ap (λ (xs : List (List ℕ)). slice_get xs c.next_commit.new.at) c.as_slice-in-commits.ensures ∙ here)) ∙ c.if-is_at.false));
      within = (let longer = no_fewer c.commits.met c.in-Some.parents in let same = ap length met in omega (arith, within, size, longer, same));
      same = as_before_then g.R.Keeper c.args.keeper.now c.commits.keeper c.next_commit.new.keeper c.commits.invariant.same c.next_commit.ensures.same;
      quiet = search rules;
      reads = (let more = c.next_commit.ensures.reads in let on = c.next_commit.ensures.on in let before = c.commits.invariant.reads in omega (arith, more, on, before));
    }

pub returns-in-Some-2-clause-descent : goal.returns-in-Some-2-clause-descent
returns-in-Some-2-clause-descent g c = λ r told.
    let at = c.commits.invariant.at r (c.next_commit-2.ensures.same.content r told) in
    let none = subst (λ (xs : List (List ℕ)). NoCommits (commit_parents r) xs c.commits.at c.next_commit-2.new.at) c.as_slice-2.ensures (c.next_commit-2.ensures.passed r told) in
    let within : c.next_commit-2.new.at < length c.as_slice-2.result.now = some_at (λ (ids : List (List ℕ)). c.next_commit-2.new.at < length c.as_slice-2.result.now) c.in_ok-_parents.field-0 c.in-Some-2._parents c.in_ok-_parents.ensures.there c.in-Some-2.is in
    let size = ap length c.as_slice-2.ensures in
    let full : c.commits._count ≡ c.args.most = (let over = c.commits-test.false in let end = c.commits.auto._count-end in omega (arith, over, end)) in
    too_far c.args.most (commit_parents r) c.args.root.now c.args.from.now c.commits.at c.next_commit-2.new.at c.commits._count c.commits.met c.next_commit-2.ensures.on none at (omega (arith, within, size)) c.in-Some-2._parents
    (λ id here. some_at (λ (ids : List (List ℕ)). (s : Repository) → g.R.Keeper.content c.next_commit-2.new.keeper ≡ Some s → (x : List ℕ) → slice_get c.as_slice-2.result.now c.next_commit-2.new.at ≡ Some x → commit_parents s x ≡ Some ids)
    c.in_ok-_parents.field-0 c.in-Some-2._parents c.in_ok-_parents.ensures.found c.in-Some-2.is r told id (ap (λ (xs : List (List ℕ)). slice_get xs c.next_commit-2.new.at) c.as_slice-2.ensures ∙ here))
    full

pub returns-clause-descent : goal.returns-clause-descent
returns-clause-descent g c = λ r told.
    let at = c.commits.invariant.at r (c.next_commit-2.ensures.same.content r told) in
    let none = subst (λ (xs : List (List ℕ)). NoCommits (commit_parents r) xs c.commits.at c.next_commit-2.new.at) c.as_slice-2.ensures (c.next_commit-2.ensures.passed r told) in
    let end : c.next_commit-2.new.at ≡ length c.commits.met = none_at c.in_ok-_parents.field-0 c.in_ok-_parents.ensures.end c.in-None.is ∙ ap length c.as_slice-2.ensures in
    ended c.args.most (commit_parents r) c.args.root.now c.args.from.now c.commits.at c.next_commit-2.new.at c.commits._count c.commits.met c.next_commit-2.ensures.on none at end (let within = c.commits.auto._count-end in omega (arith, within))
