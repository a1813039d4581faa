-- What is kept when one thing is looked up after another.
use Rattle.std.proofs.Common.{◌≡◌, Bool, true, false, List, [], Option, Some, None, Result, Ok, refl, ap, ◌∙◌}
use Rattle.std.specs.Prelude.{option_and_then, if◌then◌else◌}
use Rattle.git_object.specs.declared.trees.TreeEntry.{TreeEntry}
use Rattle.tree_paths.specs.Walks.{listed}
use Rattle.keeper_api.specs.Growing.{Keeps}

-- what went well goes well, and gives the same
abbrev pub KeepsOk : {A E : Type 0} → Result A E → Result A E → Type 0
KeepsOk {A = A} few more = (a : A) → few ≡ Ok a → more ≡ Ok a

pub then_kept : {A B : Type 0} (f g : A → Option B) (few more : Option A) → Keeps few more → ((a : A) → Keeps (f a) (g a)) → Keeps (option_and_then f few) (option_and_then g more)
then_kept f g None more keeps each b e = let bad : None ≡ Some b = e in cc
then_kept f g (Some a) more keeps each b e = ap (option_and_then g) (keeps a refl) ∙ each a b e

pub same_kept : {A : Type 0} (x : Option A) → Keeps x x
same_kept x a e = e

pub if_kept : {A : Type 0} (b : Bool) (few more : Option A) → Keeps few more → Keeps (if b then few else None) (if b then more else None)
if_kept true few more keeps a e = keeps a e
if_kept false few more keeps a e = e

-- what is found among the entries of a tree
pub listed_kept : {A : Type 0} (f : List TreeEntry → Option A) (few more : Option (List TreeEntry)) → f [] ≡ None → Keeps few more → Keeps (f (listed few)) (f (listed more))
listed_kept f None more none keeps a e = let bad = e in cc
listed_kept f (Some es) more none keeps a e = ap (λ t. f (listed t)) (keeps es refl) ∙ e
