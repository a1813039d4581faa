-- The steps of a walk stand in the order of their places' bytes.
use Rattle.std.proofs.Common.{◌≡◌, ◌≢◌, ℕ, zero, suc, Bool, true, false, List, [], ◌∷◌, ◌++◌, refl, sym, ap, subst, ◌∙◌, append_assoc}
use Rattle.std.specs.List.{AllByRecursion}
use Rattle.std.specs.declared.cmp.Ordering.TheVariants.{Less}
use Rattle.std.proofs.lemmas.List.{append-nil}
use Rattle.octets.specs.BytesMap.{by_bytes}
use Rattle.git_object.specs.Modes.{key_end}
use Rattle.git_object.specs.Trees.{AreWellFormed, IsEntryName, sort_key}
use Rattle.git_object.specs.declared.trees.TreeEntry.{TreeEntry}
use Rattle.tree_paths.specs.Readings.{Trees}
use Rattle.tree_paths.specs.Walks.{Step, below, entry_steps, is_dir, listed, place_of, steps}
use Rattle.tree_paths.specs.Pairings.{place}
use Rattle.tree_paths.proofs.Judging.{piece_of, steps_suc, steps_zero}
use Rattle.tree_paths.proofs.Merging.{Ahead}
use Rattle.tree_paths.proofs.Order.{From, GoesUnder, all_append, all_map, before_tail, formed_tail, from_piece, front_cmp, piece_ahead, steps_under}
use Rattle.tree_paths.proofs.Differing.{Rising}

rising_append : (xs ys : List Step) → Rising xs → Rising ys → Ahead xs ys → Rising (xs ++ ys)
rising_append [] ys rising other ahead = other
rising_append (x ∷ xs) ys rising other ahead =
    (all_append (λ y. by_bytes (place x) (place y) ≡ Less) xs ys rising.0 ahead.0, rising_append xs ys rising.1 other ahead.1)

piece_rises : (into : List ℕ → List ℕ → List Step) → ((front id : List ℕ) → Rising (into front id)) → (holder front : List ℕ) (e : TreeEntry) (b : Bool) → Rising (entry_steps into holder front e b)
piece_rises into rises holder front e true = rises (place_of front e) e.id
piece_rises into rises holder front e false = (tt, tt)

below_rises : (into : List ℕ → List ℕ → List Step) → GoesUnder into → ((front id : List ℕ) → Rising (into front id)) → (holder front : List ℕ) (es : List TreeEntry) → AreWellFormed es
    → Rising (below into holder front es)
below_rises into under rises holder front [] formed = tt
below_rises into under rises holder front (e ∷ es) formed =
    rising_append (piece_of into holder front e) (below into holder front es) (piece_rises into rises holder front e (is_dir e.mode))
    (below_rises into under rises holder front es (formed_tail e es formed)) (piece_ahead into under holder holder front e es (before_tail e es formed))

pub record Begun (text : List ℕ) : Type 0 where
  pub first : ℕ
  pub rest : List ℕ
  pub is : text ≡ first ∷ rest

begun : (name end : List ℕ) → name ≢ [] → Begun (name ++ end)
begun [] end some = absurd (some refl)
begun (c ∷ name) end some = record { first = c; rest = name ++ end; is = refl }

-- what an entry leads to stands after the place of its tree
after_front : (front : List ℕ) (e : TreeEntry) (s : Step) → IsEntryName e.name → From front e s → by_bytes front (place s) ≡ Less
after_front front e s named from =
    let key = begun e.name (key_end e.mode) named.some in
    (λ i. by_bytes (sym (append-nil front) i) ((from.at ∙ append_assoc front (sort_key e) from.rest ∙ ap (λ (k : List ℕ). front ++ (k ++ from.rest)) key.is) i))
    ∙ front_cmp front [] (key.first ∷ (key.rest ++ from.rest))

below_after : (into : List ℕ → List ℕ → List Step) → GoesUnder into → (holder front : List ℕ) (es : List TreeEntry) → AllByRecursion (λ (e : TreeEntry). IsEntryName e.name) es
    → AllByRecursion (λ s. by_bytes front (place s) ≡ Less) (below into holder front es)
below_after into under holder front [] named = tt
below_after into under holder front (e ∷ es) named =
    all_append (λ s. by_bytes front (place s) ≡ Less) (piece_of into holder front e) (below into holder front es)
    (all_map (From front e) (λ s. by_bytes front (place s) ≡ Less) (λ s from. after_front front e s named.0 from) (piece_of into holder front e) (from_piece into under holder front e))
    (below_after into under holder front es named.1)

pub steps_rise : (trees : Trees) → ((id : List ℕ) → AreWellFormed (listed (trees id))) → (n : ℕ) (front id : List ℕ) → Rising (steps trees n front id)
steps_rise trees formed zero front id = subst Rising (sym (steps_zero trees front id)) (tt, tt)
steps_rise trees formed (suc n) front id =
    subst Rising (sym (steps_suc trees n front id)) (
      below_after (steps trees n) (steps_under trees n) id front (listed (trees id)) (formed id).named,
      below_rises (steps trees n) (steps_under trees n) (steps_rise trees formed n) id front (listed (trees id)) (formed id),
    )
