use Rattle.std.proofs.Common.{◌≡◌, ◌<◌, ℕ, true, false, ltb, leb, List, sym, ap, subst, ◌∙◌, arith, rules}
use Rattle.std.specs.List.{AllPairs, filter}
use Rattle.std.specs.List.Sorted.{IsNonDecreasingBy, IsPartitionPoint}
use Rattle.std.proofs.lemmas.List.Sorted.{IsPartitionPoint-from_clause, IsPartitionedBy-ltb, IsPartitionedBy-leb}
use Rattle.std.proofs.lemmas.List.Kept.{AllPairs-filter}
use Rattle.recovery.specs.Lanes.{is_outside}
use Rattle.recovery.proofs.Cuts.{fixed, non_decreasing, nothing_between}
use Rattle.recovery.proofs.pending.Pending.fix.Goals as goal

pub returns-then-start-end : goal.returns-then-start-end
returns-then-start-end c =
    let ns : List ℕ = c.self.inside.numbers.items in
    let rise = non_decreasing ns c.self.invariant in
    let P : List ℕ → Type 0 = λ xs. IsNonDecreasingBy (λ n. n) xs in
    let low = IsPartitionPoint-from_clause (λ n. leb n c.args.above) c.as_slice.result.now c.partition_point-start.result c.partition_point-start.ensures.partitioned (IsPartitionedBy-leb (λ n. n) c.as_slice.result.now c.args.above (subst P (sym c.as_slice.ensures.value) rise)) (λ a r q k. search rules) in
    let high = IsPartitionPoint-from_clause (λ n. ltb n c.args.below) c.as_slice-2.result.now c.partition_point-end.result c.partition_point-end.ensures.partitioned (IsPartitionedBy-ltb (λ n. n) c.as_slice-2.result.now c.args.below (subst P (sym c.as_slice-2.ensures.value) rise)) (λ a r q k. search rules) in
    let L : List ℕ → Type 0 = λ xs. IsPartitionPoint (λ n. leb n c.args.above ≡ true) (λ n. leb n c.args.above ≡ false) xs c.partition_point-start.result in
    let H : List ℕ → Type 0 = λ xs. IsPartitionPoint (λ n. ltb n c.args.below ≡ true) (λ n. ltb n c.args.below ≡ false) xs c.partition_point-end.result in
    let l : L ns = subst L c.as_slice.ensures.value low in
    let h : H ns = subst H c.as_slice-2.ensures.value high in
    let e = fixed c.args.above c.args.below c.partition_point-start.result c.partition_point-end.result ns l.0 l.1 h.0 h.1 (omega arith) in
    c.drop-drain.ensures.items ∙ c.drain.ensures.kept ∙ sym e ∙ ap (filter (is_outside c.args.above c.args.below)) c.self.view_is

pub returns-else-start-end : goal.returns-else-start-end
returns-else-start-end c =
    let ns : List ℕ = c.self.inside.numbers.items in
    let rise = non_decreasing ns c.self.invariant in
    let P : List ℕ → Type 0 = λ xs. IsNonDecreasingBy (λ n. n) xs in
    let low = IsPartitionPoint-from_clause (λ n. leb n c.args.above) c.as_slice.result.now c.partition_point-start.result c.partition_point-start.ensures.partitioned (IsPartitionedBy-leb (λ n. n) c.as_slice.result.now c.args.above (subst P (sym c.as_slice.ensures.value) rise)) (λ a r q k. search rules) in
    let high = IsPartitionPoint-from_clause (λ n. ltb n c.args.below) c.as_slice-2.result.now c.partition_point-end.result c.partition_point-end.ensures.partitioned (IsPartitionedBy-ltb (λ n. n) c.as_slice-2.result.now c.args.below (subst P (sym c.as_slice-2.ensures.value) rise)) (λ a r q k. search rules) in
    let L : List ℕ → Type 0 = λ xs. IsPartitionPoint (λ n. leb n c.args.above ≡ true) (λ n. leb n c.args.above ≡ false) xs c.partition_point-start.result in
    let H : List ℕ → Type 0 = λ xs. IsPartitionPoint (λ n. ltb n c.args.below ≡ true) (λ n. ltb n c.args.below ≡ false) xs c.partition_point-end.result in
    let l : L ns = subst L c.as_slice.ensures.value low in
    let h : H ns = subst H c.as_slice-2.ensures.value high in
    let e = nothing_between c.args.above c.args.below c.partition_point-start.result c.partition_point-end.result ns l.0 h.1 (omega arith) in
    sym (ap (filter (is_outside c.args.above c.args.below)) (sym c.self.view_is) ∙ e ∙ c.self.view_is)

pub invariant_of-self : goal.invariant_of-self
invariant_of-self c =
    let ns : List ℕ = c.self.inside.numbers.items in
    let done : filter (is_outside c.args.above c.args.below) ns ≡ c.drop-drain.new.self.0.items = ap (filter (is_outside c.args.above c.args.below)) c.self.view_is ∙ sym (returns-then-start-end c) in
    subst (λ (xs : List ℕ). AllPairs (λ m n. m < n) xs) done (AllPairs-filter (λ m n. m < n) (is_outside c.args.above c.args.below) ns c.self.invariant)
