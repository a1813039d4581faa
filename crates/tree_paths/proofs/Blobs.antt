-- The bytes of a blob, by what was looked up.
use Rattle.std.proofs.Common.{◌≡◌, ℕ, Bool, List, Option, Some, None, sym, ap, ◌∙◌}
use Rattle.std.specs.Prelude.{IfNone, IfSome, cond, option_and_then}
use Rattle.git_object.specs.Objects.{Pair}
use Rattle.git_object.specs.Repository.{HasObject, Repository, object_at}
use Rattle.git_object.proofs.ObjectAt.{object_none, object_there}
use Rattle.tree_paths.specs.Blobs.{blob_at, is_small_blob, small_blob}

pub found_at : (r : Repository) (id : List ℕ) (found : Option Pair) → IfSome found (HasObject r id) → IfNone found ((pair : Pair) → HasObject r id pair → ⊥) → found ≡ object_at r id
found_at r id None some none = sym (object_none r id none)
found_at r id (Some pair) some none = sym (object_there r id pair some)

pub no_text : (r : Repository) (id : List ℕ) (found : Option Pair) → found ≡ object_at r id → found ≡ None → None ≡ blob_at r id
no_text r id found is none = ap (option_and_then small_blob) (sym none ∙ is)

pub text_tested : (r : Repository) (id : List ℕ) (found : Option Pair) (pair : Pair) (test : Bool) → found ≡ object_at r id → found ≡ Some pair → is_small_blob pair ≡ test → cond test (Some pair.body) None ≡ blob_at r id
text_tested r id found pair test is some tested = ap (λ (b : Bool). cond b (Some pair.body) None) (sym tested) ∙ ap (option_and_then small_blob) (sym some ∙ is)
