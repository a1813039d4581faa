-- What is read of a file's bytes.
use Rattle.std.proofs.Common.{◌≡◌, ℕ, List, Option, Some, None, Result, Ok, sym, ap, subst, ◌∙◌}
use Rattle.std.specs.Prelude.{IfOk, IfSome, option_and_then}
use Rattle.std.specs.Option.{option_map}
use Rattle.git_object.specs.Objects.{Pair}
use Rattle.git_object.specs.Repository.{Repository}
use Rattle.tree_paths.specs.Blobs.{blob_at}

module _ {A : Type 0} (f : List ℕ → Option A) (r : Repository) (id : List ℕ) (found : Option Pair) (read : option_map (λ (pair : Pair). pair.body) found ≡ blob_at r id) where
  pub nothing_read : found ≡ None → None ≡ option_and_then f (blob_at r id)
  nothing_read none = ap (option_and_then f) (ap (option_map (λ (pair : Pair). pair.body)) (sym none) ∙ read)

  pub text_read : (pair : Pair) (text : List ℕ) (x : Option A) → found ≡ Some pair → text ≡ pair.body → x ≡ f text → x ≡ option_and_then f (blob_at r id)
  text_read pair text x some is value = value ∙ ap f is ∙ ap (option_and_then f) (ap (option_map (λ (pair : Pair). pair.body)) (sym some) ∙ read)

-- a name that was read
pub named_as : {A : Type 0} (name : A → List ℕ) (found : Option A) (a b : List ℕ) → a ≡ b → IfSome found (λ x. name x ≡ a) → IfSome found (λ x. name x ≡ b)
named_as name None a b same named = tt
named_as name (Some x) a b same named = named ∙ same

-- what is said of a result, where it is known
pub ok_at : {T E : Type 0} (P : T → Type 0) (found : Result T E) (x : T) → IfOk found P → found ≡ Ok x → P x
ok_at P found x h e = subst (λ (o : Result _ _). IfOk o P) e h
