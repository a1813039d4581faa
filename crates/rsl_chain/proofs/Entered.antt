-- The entries of a log: one stands at each of its ids.
use Rattle.std.proofs.Common.{◌≡◌, inr, ℕ, List, [], ◌∷◌, ◌++◌, take, drop, map, Option, Some, None, refl, sym, ap, ◌∙◌, append_assoc, take-append-drop}
use Rattle.std.specs.Option.{option_map}
use Rattle.std.proofs.lemmas.List.{map-append}
use Rattle.git_object.specs.Repository.{Repository}
use Rattle.rsl_chain.specs.declared.entries.Entry.{Entry}
use Rattle.rsl_chain.specs.Chain.{AreLinked, head_after}
use Rattle.rsl_chain.specs.Logs.{IsLogOf, entry_at, head_in, heads_of}
use Rattle.rsl_chain.specs.declared.heads.Head.{Head}
use Rattle.rsl_chain.proofs.Lookups.{heads_of_entries}
use Rattle.rsl_chain.specs.Histories.{AreEntriesAt, BeginsHistory}

headed : (o : Option Entry) (head : Head) → option_map head_in o ≡ Some head → (entry : Entry) × (o ≡ Some entry)
headed None head e = cc e
headed (Some entry) head e = (entry, refl)

-- an entry stands at each id of the log
stands : (r : Repository) (ids front : List (List ℕ)) (id : List ℕ) (rest : List (List ℕ)) → AreLinked (heads_of r) ids → ids ≡ front ++ id ∷ rest → (entry : Entry) × (entry_at r id ≡ Some entry)
stands r ids front id rest linked is = headed (entry_at r id) (head_after front) (sym (heads_of_entries r id) ∙ linked front id rest is)

both : (r : Repository) (id : List ℕ) (ids : List (List ℕ)) (entry : Entry) (entries : List Entry) → entry_at r id ≡ Some entry → AreEntriesAt r ids entries → AreEntriesAt r (id ∷ ids) (entry ∷ entries)
both r id ids entry entries e f = λ i. e i ∷ f i

pub entries_from : (r : Repository) (ids front rest : List (List ℕ)) → AreLinked (heads_of r) ids → ids ≡ front ++ rest → (entries : List Entry) × AreEntriesAt r rest entries
entries_from r ids front [] linked is = ([], refl)
entries_from r ids front (id ∷ rest) linked is =
    let here = stands r ids front id rest linked is in
    let more = entries_from r ids (front ++ id ∷ []) rest linked (is ∙ sym (append_assoc front (id ∷ []) rest)) in
    (here.0 ∷ more.0, both r id rest here.0 more.0 here.1 more.1)

pub joined : (r : Repository) (xs ys : List (List ℕ)) (es fs : List Entry) → AreEntriesAt r xs es → AreEntriesAt r ys fs → AreEntriesAt r (xs ++ ys) (es ++ fs)
joined r xs ys es fs e f = map-append (entry_at r) xs ys ∙ (λ i. e i ++ f i) ∙ sym (map-append Some es fs)

-- entries at the first of the log's ids are the first of its entries
pub begins : (r : Repository) (ids : List (List ℕ)) (first more : List Entry) (n : ℕ) → IsLogOf r ids → AreEntriesAt r (take n ids) (first ++ more) → BeginsHistory r first
begins r ids first more n log are =
    let whole = take-append-drop n ids in
    let others = entries_from r ids (take n ids) (drop n ids) log.linked (sym whole) in
    let all : AreEntriesAt r (take n ids ++ drop n ids) ((first ++ more) ++ others.0) = joined r (take n ids) (drop n ids) (first ++ more) others.0 are others.1 in
    inr (
      more ++ others.0,
      record {
        ids = ids;
        log = log;
        are = ap (map (entry_at r)) (sym whole) ∙ all ∙ ap (map Some) (append_assoc first more others.0);
      },
    )

-- no id of the log is without an entry
pub never_misses : (r : Repository) (ids front : List (List ℕ)) (id : List ℕ) (rest : List (List ℕ)) → IsLogOf r ids → ids ≡ front ++ id ∷ rest → entry_at r id ≡ None → ⊥
never_misses r ids front id rest log is none = let here = stands r ids front id rest log.linked is in let both : None ≡ Some here.0 = sym none ∙ here.1 in cc both
