-- The weight of a generation that gains an object.
use Rattle.std.proofs.Common.{◌≡◌, ◌+◌, ◌≤◌, ℕ, List, [], ◌∷◌, ap, arith}
use Rattle.std.specs.Prelude.{sum_by}
use Rattle.std.specs.BTreeMap as tree
use Rattle.std.specs.BTreeMap.{insert_entry}
use Rattle.std.specs.Ordering.{match_ordering}
use Rattle.std.specs.declared.cmp.Ordering.{Ordering}
use Rattle.std.specs.declared.cmp.Ordering.TheVariants.{Less, Equal, Greater}
use Rattle.std.proofs.lemmas.List.Sums.{sum_by-cons}
use Rattle.octets.specs.BytesMap.{by_bytes}
use Rattle.git_object.specs.Objects.{Pair}
use Rattle.keeper_layers.specs.Caching.{weight_in, weight_of}

abbrev total : List (List ℕ × Pair) → ℕ
total es = sum_by (λ (e : List ℕ × Pair). weight_of e.1) es

total_cons : (e : List ℕ × Pair) (es : List (List ℕ × Pair)) → total (e ∷ es) ≡ weight_of e.1 + total es
total_cons e es = sum_by-cons (λ (e : List ℕ × Pair). weight_of e.1) e es

module _ (id : List ℕ) (its : Pair) (e : List ℕ × Pair) (es : List (List ℕ × Pair)) where
  by_order : (o : Ordering) → total (insert_entry by_bytes es id its) ≤ total es + weight_of its
      → total (match_ordering o ((id, its) ∷ e ∷ es) ((e.0, its) ∷ es) (e ∷ insert_entry by_bytes es id its)) ≤ total (e ∷ es) + weight_of its
  by_order Less later = omega (arith, total_cons (id, its) (e ∷ es))
  by_order Equal later = omega (arith, total_cons (e.0, its) es, total_cons e es)
  by_order Greater later = omega (arith, total_cons e (insert_entry by_bytes es id its), total_cons e es, later)

total_inserted : (id : List ℕ) (its : Pair) (es : List (List ℕ × Pair)) → total (insert_entry by_bytes es id its) ≤ total es + weight_of its
total_inserted id its [] = omega (arith, total_cons (id, its) [])
total_inserted id its (e ∷ es) = by_order id its e es (by_bytes id e.0) (total_inserted id its es)

-- an object that is put adds no more than its own weight
pub weight_put : (was now : tree.BTreeMap (List ℕ) Pair) (id : List ℕ) (its : Pair) → now.entries ≡ insert_entry by_bytes was.entries id its
    → weight_in now ≤ weight_in was + weight_of its
weight_put was now id its is =
    let same : weight_in now ≡ total (insert_entry by_bytes was.entries id its) = ap (λ (es : List (List ℕ × Pair)). total es) is in
    let most = total_inserted id its was.entries in
    omega (arith, same, most)
