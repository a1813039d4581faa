-- The entries of a log are counted from 1.
use Rattle.std.proofs.Common.{◌≡◌, ◌+◌, ℕ, suc, List, [], ◌∷◌, ◌++◌, length, Some, refl, sym, ap, ◌∙◌}
use Rattle.std.specs.Option.{option_map}
use Rattle.git_object.specs.Repository.{Repository}
use Rattle.rsl_chain.specs.declared.entries.Entry.{Entry}
use Rattle.rsl_chain.specs.Chain.{head_after}
use Rattle.rsl_chain.specs.Logs.{entry_at, head_in}
use Rattle.rsl_chain.specs.declared.heads.Head.{Head}
use Rattle.rsl_chain.proofs.Lookups.{heads_of_entries}
use Rattle.rsl_chain.specs.Histories.{AreEntriesAt, IsHistory}

-- an entry of the list stands at an id behind as many
record StandsBehind (r : Repository) (ids : List (List ℕ)) (front : List Entry) (entry : Entry) : Type 0 where
  before : List (List ℕ)
  id : List ℕ
  after : List (List ℕ)
  whole : ids ≡ before ++ id ∷ after
  long : length before ≡ length front
  read : entry_at r id ≡ Some entry

behind : (r : Repository) (ids : List (List ℕ)) (front : List Entry) (entry : Entry) (rest : List Entry) → AreEntriesAt r ids (front ++ entry ∷ rest) → StandsBehind r ids front entry
behind r [] [] entry rest are = let never : ⊥ = cc are in absurd never
behind r [] (f ∷ front) entry rest are = let never : ⊥ = cc are in absurd never
behind r (id ∷ ids) [] entry rest are = record { before = []; id = id; after = ids; whole = refl; long = refl; read = cc are }
behind r (id ∷ ids) (f ∷ front) entry rest are =
    let others : AreEntriesAt r ids (front ++ entry ∷ rest) = cc are in
    let more = behind r ids front entry rest others in
    record {
      before = id ∷ more.before;
      id = more.id;
      after = more.after;
      whole = ap (λ (t : List (List ℕ)). id ∷ t) more.whole;
      long = ap suc more.long;
      read = more.read;
    }

same_head : (x y : Head) → Some x ≡ Some y → x ≡ y
same_head x y e = cc e

pub counted : (was : Repository) (front : List Entry) (entry : Entry) (rest : List Entry) → IsHistory was (front ++ entry ∷ rest) → entry.number ≡ length front + 1
counted was front entry rest history =
    let at = behind was history.ids front entry rest history.are in
    let log = history.log in
    let head = sym (ap (option_map head_in) at.read) ∙ sym (heads_of_entries was at.id) ∙ log.linked at.before at.id at.after at.whole in
    let same = same_head (head_in entry) (head_after at.before) head in
    ap (λ (h : Head). h.number) same ∙ ap (λ (n : ℕ). n + 1) at.long
