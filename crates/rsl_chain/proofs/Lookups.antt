-- What an id leads to in a repository, by what was looked up there.
use Rattle.std.proofs.Common.{◌≡◌, ℕ, List, Option, Some, None, Ok, Err, refl, sym, ap, ◌∙◌}
use Rattle.std.specs.Prelude.{IfSome}
use Rattle.std.specs.Option.{option_and_then, option_map}
use Rattle.git_object.specs.Objects.{Pair, pair_id}
use Rattle.git_object.specs.Repository.{HasObject, Repository, object_at}
use Rattle.git_object.specs.declared.kinds.Kind.{Kind}
use Rattle.git_object.specs.declared.kinds.Kind.TheVariants.{Blob, Tree, Commit, Tag}
use Rattle.git_object.proofs.ObjectAt.{object_none, object_there}
use Rattle.rsl_chain.specs.declared.entries.Entry.{Entry}
use Rattle.rsl_chain.specs.Chain.{AreHeads, IsHead}
use Rattle.rsl_chain.specs.Logs.{entry_at, entry_of_pair, head_from, head_in, head_of, head_of_pair, heads_of}
use Rattle.rsl_chain.specs.Reading.{Reading, entry_as, reading}
use Rattle.std.specs.Result.{result_ok}
use Rattle.rsl_chain.proofs.Valid.{heads_valid}

pub heads_there : (r : Repository) (id : List ℕ) (pair : Pair) → HasObject r id pair → heads_of r id ≡ head_of_pair pair.kind pair.body
heads_there r id pair has = ap (option_and_then (λ (p : Pair). head_of_pair p.kind p.body)) (object_there r id pair has)

pub heads_none : (r : Repository) (id : List ℕ) → ((pair : Pair) → HasObject r id pair → ⊥) → heads_of r id ≡ None
heads_none r id never = ap (option_and_then (λ (p : Pair). head_of_pair p.kind p.body)) (object_none r id never)

pub entry_there : (r : Repository) (id : List ℕ) (pair : Pair) → HasObject r id pair → entry_at r id ≡ entry_of_pair id pair.kind pair.body
entry_there r id pair has = ap (option_and_then (λ (p : Pair). entry_of_pair id p.kind p.body)) (object_there r id pair has)

-- what was read of the object that is there, under its own id
pub entry_read : (r : Repository) (id : List ℕ) (pair : Pair) → HasObject r id pair → (found : Option Entry) → found ≡ entry_of_pair (pair_id pair) pair.kind pair.body → entry_at r id ≡ found
entry_read r id pair has found is =
    let own = has.is in
    entry_there r id pair has ∙ ap (λ (i : List ℕ). entry_of_pair i pair.kind pair.body) (sym own.own) ∙ sym is

pub entry_none : (r : Repository) (id : List ℕ) → ((pair : Pair) → HasObject r id pair → ⊥) → entry_at r id ≡ None
entry_none r id never = ap (option_and_then (λ (p : Pair). entry_of_pair id p.kind p.body)) (object_none r id never)

-- ---- laws

pub pair_valid : (kind : Kind) (body : List ℕ) → IfSome (head_of_pair kind body) IsHead
pair_valid Commit body = heads_valid body
pair_valid Blob body = tt
pair_valid Tree body = tt
pair_valid Tag body = tt

at_valid : (o : Option Pair) → IfSome (option_and_then (λ (p : Pair). head_of_pair p.kind p.body) o) IsHead
at_valid None = tt
at_valid (Some pair) = pair_valid pair.kind pair.body

pub heads_are : (r : Repository) → AreHeads (heads_of r)
heads_are r = λ id. at_valid (object_at r id)

read_head : (id : List ℕ) (read : Reading) → head_from read ≡ option_map head_in (result_ok (entry_as id read))
read_head id (Ok read) = refl
read_head id (Err n) = refl

pair_head : (id : List ℕ) (kind : Kind) (body : List ℕ) → head_of_pair kind body ≡ option_map head_in (entry_of_pair id kind body)
unfolding head_of
pair_head id Commit body = read_head id (reading body)
pair_head id Blob body = refl
pair_head id Tree body = refl
pair_head id Tag body = refl

at_head : (id : List ℕ) (o : Option Pair) → option_and_then (λ (p : Pair). head_of_pair p.kind p.body) o ≡ option_map head_in (option_and_then (λ (p : Pair). entry_of_pair id p.kind p.body) o)
at_head id None = refl
at_head id (Some pair) = pair_head id pair.kind pair.body

-- what an id leads to in the chain is the head of the entry that stands there
pub heads_of_entries : (r : Repository) (id : List ℕ) → heads_of r id ≡ option_map head_in (entry_at r id)
heads_of_entries r id = at_head id (object_at r id)
