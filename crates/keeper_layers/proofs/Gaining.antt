-- A cache that gains an object, and one that stands in a repository still.
use Rattle.std.proofs.Common.{◌≡◌, ◌⊎◌, inl, inr, ℕ, cond, List, Option, Some, Result, Ok, Err, refl, sym, ap, subst, ◌∙◌}
use Rattle.std.specs.Prelude.{OnErr, OnOk}
use Rattle.std.specs.BTreeMap as tree
use Rattle.std.specs.BTreeMap.{is_at}
use Rattle.std.specs.FinMap.{get}
use Rattle.std.specs.Map.{lookup}
use Rattle.std.specs.Ordering.{is_eq}
use Rattle.std.specs.declared.cmp.Ordering.{Ordering}
use Rattle.std.specs.declared.cmp.Ordering.TheVariants.{Less, Equal, Greater}
use Rattle.std.proofs.lemmas.Map.Lookups.{exact_bytes}
use Rattle.octets.specs.BytesMap.{by_bytes}
use Rattle.octets.specs.Content.{Stays}
use Rattle.git_object.specs.Objects.{Pair}
use Rattle.git_object.specs.Repository.{Repository}
use Rattle.keeper_layers.specs.Caching.{GainsOnly, IsCache, IsCached, IsEmpty, IsNoMore, IsWithin, StandsIn}
use Rattle.keeper_layers.specs.declared.cached_objects.CachedObjects.{CachedObjects}

module _ (was now : tree.BTreeMap (List ℕ) Pair) (its_id : List ℕ) (its : Pair) where
  -- what a generation gains is this object under this id, or nothing
  abbrev pub Gains : Type 0
  Gains = (id : List ℕ) (pair : Pair) → tree.get by_bytes now id ≡ Some pair → (tree.get by_bytes was id ≡ Some pair) ⊎ ((id ≡ its_id) × (pair ≡ its))

  by_order : (id : List ℕ) (pair : Pair) (o : Ordering) → by_bytes its_id id ≡ o → cond (is_eq o) (Some its) (tree.get by_bytes was id) ≡ Some pair
      → (tree.get by_bytes was id ≡ Some pair) ⊎ ((id ≡ its_id) × (pair ≡ its))
  by_order id pair Less is there = inl there
  by_order id pair Greater is there = inl there
  by_order id pair Equal is there = let same : pair ≡ its = cc in inr (sym (exact_bytes its_id id is), same)

  pub put_gains : {T E : Type 0} (result : Result T E)
      → OnOk result ((id : List ℕ) → tree.get by_bytes now id ≡ cond (is_eq (by_bytes its_id id)) (Some its) (tree.get by_bytes was id))
      → OnErr result (now.entries ≡ was.entries) → Gains
  put_gains (Ok done) put same id pair there = by_order id pair (by_bytes its_id id) refl (sym (put id) ∙ there)
  put_gains (Err error) put same id pair there = inl (ap (λ (es : List (List ℕ × Pair)). lookup (is_at (by_bytes id)) es) (sym same) ∙ there)

module _ (before after : CachedObjects) (its_id : List ℕ) (its : Pair) where
  -- one of the generations before gained it
  pub cache_gains : (room : CachedObjects) → IsNoMore before room → after.earlier ≡ room.earlier → Gains room.recent after.recent its_id its
      → GainsOnly before after its_id its
  cache_gains room less same gains id pair (inl there) =
      elim (gains id pair there) [ inl had ↦ inl (less id pair (inl had)) | inr is ↦ inr is ]
  cache_gains room less same gains id pair (inr there) =
      inl (less id pair (inr (ap (λ (m : tree.BTreeMap (List ℕ) Pair). tree.get by_bytes m id) (sym same) ∙ there)))

  -- what it gained was read from the repository
  pub stands_more : (was now : Option Repository) (found : Option Pair) → StandsIn before was → Stays was now → GainsOnly before after its_id its
      → found ≡ Some its → ((r : Repository) → now ≡ Some r → found ≡ get r.objects its_id) → StandsIn after now
  stands_more was now found stands stays gains is read r told id pair there = elim (gains id pair there) [
    | inl had ↦ stands r (stays r told) id pair had
    | inr same ↦ ap (get r.objects) same.0 ∙ sym (read r told) ∙ is ∙ ap Some (sym same.1)
  ]

-- a cache before a store that holds the same
pub cache_on : (cached : CachedObjects) (was now : Option Repository) → IsCache cached was → Stays was now → IsCache cached now
cache_on cached was now is stays = record { stands = λ r told. is.stands r (stays r told); within = is.within }

-- one that is empty may stand before any store
pub cache_empty : (cached : CachedObjects) (now : Option Repository) → IsEmpty cached → IsWithin cached → IsCache cached now
cache_empty cached now empty within = record { stands = λ r told id pair is. absurd (empty id pair is); within = within }
