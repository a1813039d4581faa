-- The history of a demonstration: its commits, the log that records them, and the repository that all of it is. Change
-- j is
-- recorded by entry j + 1 of the log; entry 1 records the policy.
use Rattle.std.specs.Prelude.{◌++◌, ◌∷◌, ◌+◌, ◌%◌, [], ℕ, suc, zero, List, Option, Some, None, codes}
use Rattle.git_object.specs.Names.{log_name}
use Rattle.git_object.specs.Objects.{Pair, pair_id}
use Rattle.git_object.specs.Repository.{Repository, empty_repository}
use Rattle.git_object.specs.declared.kinds.Kind.TheVariants as kind
use Rattle.keeper_api.specs.Changes.{changed}
use Rattle.keeper_api.specs.declared.changes.Change.{Change}
use Rattle.keeper_api.specs.declared.changes.RefChange.{RefChange}
use Rattle.git_object.specs.References.{policy_name}
use Rattle.rsl_chain.specs.declared.entries.EntryBody.TheVariants.{Reference}
use Rattle.rsl_chain.specs.Drafts.{signed_text_of, unsigned_text}
use Rattle.rsl_chain.specs.declared.drafts.Draft.{Draft}
use Rattle.object_making.specs.Texts.{author_of, commit_pair}
use Rattle.demo.specs.Journals.{Uses, uses_of, with_use}
use Rattle.demo.specs.Keys.{demo_key, key_id, signed_by}
use Rattle.demo.specs.Policies.{policy_id, policy_objects}
use Rattle.demo.specs.Trees.{root_tree, tree_objects}

-- the branch
abbrev pub main_name : List ℕ
main_name = codes "refs/heads/main"

-- ---- commits

-- the commit of change j after another: its time is j seconds
abbrev pub change_commit : ℕ → Option (List ℕ) → Pair
change_commit j parent = commit_pair (pair_id (root_tree j)) parent j (codes "snapshot\n")

-- where the branch stands after change j
unfoldable pub main_after : ℕ → Option (List ℕ)
main_after zero = None
main_after (suc j) = Some (pair_id (change_commit (suc j) (main_after j)))

-- ---- entries

-- key 0 signed the root, the top file and entry 1; change j is recorded by the key of number j mod 3
unfoldable pub uses_after : ℕ → Uses
uses_after zero = record { zeroth = 3; first = 0; second = 0 }
uses_after (suc j) = with_use (suc j % 3) (uses_after j)

-- the entry of a draft, signed by a key with a leaf
abbrev pub signed_entry : ℕ → ℕ → Draft → Pair
signed_entry k leaf draft = record {
  kind = kind.Commit;
  body = signed_text_of (unsigned_text draft)
      (record { signer = key_id k; signature = signed_by (demo_key k) leaf (unsigned_text draft) });
}

-- a draft that records at these seconds where a reference stands
abbrev pub draft_of : ℕ → Option (List ℕ) → ℕ → List ℕ → List ℕ → Draft
draft_of number parent seconds name target = record {
  parent = parent;
  author = author_of seconds;
  number = number;
  body = Reference name target;
}

-- entry 1 records the policy
abbrev pub policy_entry : Pair
policy_entry = signed_entry 0 2 (draft_of 1 None 0 policy_name policy_id)

-- the entry that records change j, after another: it is signed by key j mod 3 with its first unused leaf
abbrev pub change_entry : ℕ → Uses → List ℕ → List ℕ → Pair
change_entry j before parent target =
    signed_entry (j % 3) (uses_of (j % 3) before) (draft_of (j + 1) (Some parent) j main_name target)

-- the last entry of the log after change j
unfoldable pub tip_after : ℕ → List ℕ
tip_after zero = pair_id policy_entry
tip_after (suc j) = pair_id (change_entry (suc j) (uses_after j) (tip_after j)
    (pair_id (change_commit (suc j) (main_after j))))

-- ---- the whole

-- the objects after change j
unfoldable pub objects_after : ℕ → List Pair
objects_after zero = policy_objects ++ policy_entry ∷ []
objects_after (suc j) =
    objects_after j ++ (tree_objects (suc j) ++ change_commit (suc j) (main_after j)
    ∷ change_entry (suc j) (uses_after j) (tip_after j) (pair_id (change_commit (suc j) (main_after j))) ∷ [])

-- where the three references stand
abbrev pub refs_at : Option (List ℕ) → List ℕ → List ℕ → List RefChange
refs_at main policy tip = record { name = main_name; to = main } ∷ record { name = policy_name; to = Some policy }
    ∷ record { name = log_name; to = Some tip } ∷ []

-- the objects and references after n changes
abbrev pub demo_change : ℕ → Change
demo_change n = record { objects = objects_after n; refs = refs_at (main_after n) policy_id (tip_after n) }

-- what they make of nothing
abbrev pub demo_repository : ℕ → Repository
demo_repository n = changed (demo_change n) empty_repository
