-- The entries of a log, taken one after the other: each is the next.
use Rattle.std.proofs.Common.{◌≡◌, ◌≢◌, ◌<◌, ◌≤◌, ◌+◌, ◌-◌, ◌&&◌, ◌++◌, ℕ, suc, zero, true, false, List, [], ◌∷◌, Ok, Err, length, take, drop, get_or, map, Option, Some, None, refl, sym, ap, subst, ◌∙◌, append_assoc, take-append-drop, arith}
use Rattle.std.specs.Prelude.{is_some, not, slice_get}
use Rattle.std.specs.List.{AllByRecursion}
use Rattle.std.specs.Option.{option_and_then, option_map}
use Rattle.std.specs.Result.{result_ok}
use Rattle.std.proofs.lemmas.Bool.{eq-eqb, false≢true, true≢false}
use Rattle.std.proofs.lemmas.List.{length-map, length-take-le, map-append, take_more}
use Rattle.std.proofs.lemmas.Option.{get_or_from_slice_get, slice_get-map, slice_get_within}
use Rattle.std.proofs.lemmas.Slice.Eq.{bytes_eq-Decides}
use Rattle.git_object.specs.Objects.{Pair}
use Rattle.git_object.specs.Repository.{Repository, object_at}
use Rattle.git_object.specs.declared.kinds.Kind.{Kind}
use Rattle.git_object.specs.declared.kinds.Kind.TheVariants.{Blob, Commit, Tag, Tree}
use Rattle.rsl_chain.specs.Entries.{Taken, target_of}
use Rattle.rsl_chain.specs.declared.entries.Entry.{Entry}
use Rattle.rsl_chain.specs.Chain.{head_after}
use Rattle.rsl_chain.specs.Logs.{IsLogOf, IsNamed, IsUnbroken, entry_at, entry_of_pair, head_in}
use Rattle.rsl_chain.specs.Reading.{Reading, entry_as, reading}
use Rattle.rsl_chain.specs.declared.heads.Head.{Head}
use Rattle.rsl_chain.specs.declared.log_faults.LogFault.{LogFault}
use Rattle.rsl_chain.specs.declared.log_faults.LogFault.TheVariants.{Broken, Failed, Memory}
use Rattle.rsl_chain.proofs.Lookups.{heads_of_entries}
use Rattle.judging.specs.Books.{place_of}
use Rattle.judging.specs.Engines.{Stands, has_taken, taken}
use Rattle.judging.specs.Logs as logs
use Rattle.judging.specs.Rules.{Rules}
use Rattle.judging.specs.declared.engine.Engine.{Engine}
use Rattle.policy_epochs.specs.declared.policies.Policy.{Policy}
use Rattle.entry_rules.specs.declared.faults.Fault.{Fault}
use Rattle.verify_ref.specs.Logs.{AreEntries, BreaksAt, ComesBehind, IsAstray, TakesNext, comes_next, taken_at}

-- ---- lists
cut : {X : Type 0} → (xs : List X) (i : ℕ) (x : X) → i < length xs → x ≡ get_or xs i x → xs ≡ take i xs ++ x ∷ drop (i + 1) xs
cut xs i x below is =
    sym (take-append-drop (i + 1) xs) ∙ ap (λ t. t ++ drop (i + 1) xs) (take_more xs i x below ∙ ap (λ y. take i xs ++ y ∷ []) (sym is)) ∙ append_assoc (take i xs) (x ∷ []) (drop (i + 1) xs)

pub one_more : (ids : List (List ℕ)) (i : ℕ) (id : List ℕ) → i < length ids → id ≡ get_or ids i id → take i ids ++ id ∷ [] ≡ take (i + 1) ids
one_more ids i id below is = ap (λ (x : List ℕ). take i ids ++ x ∷ []) is ∙ sym (take_more ids i id below)

at_index : {X : Type 0} (P : X → Type 0) (xs : List X) (k : ℕ) (x : X) → AllByRecursion P xs → slice_get xs k ≡ Some x → P x
at_index P [] k x all is = absurd (cc is)
at_index P (y ∷ ys) zero x all is = let same : y ≡ x = cc is in subst P same all.0
at_index P (y ∷ ys) (suc k) x all is = at_index P ys k x all.1 is

-- ---- the entry at an id
as_own : (id : List ℕ) (read : Reading) (e : Entry) → result_ok (entry_as id read) ≡ Some e → e.id ≡ id
as_own id (Ok read) e is = sym (ap entry_id is) where
  entry_id : Option Entry → List ℕ
  entry_id None = id
  entry_id (Some entry) = entry.id
as_own id (Err n) e is = absurd (cc is)

pair_own : (id : List ℕ) (kind : Kind) (body : List ℕ) (e : Entry) → entry_of_pair id kind body ≡ Some e → e.id ≡ id
pair_own id Commit body e is = as_own id (reading body) e is
pair_own id Blob body e is = absurd (cc is)
pair_own id Tree body e is = absurd (cc is)
pair_own id Tag body e is = absurd (cc is)

own_id : (r : Repository) (id : List ℕ) (e : Entry) → entry_at r id ≡ Some e → e.id ≡ id
own_id r id e is = by_object (object_at r id) is where
  by_object : (o : Option Pair) → option_and_then (λ pair. entry_of_pair id pair.kind pair.body) o ≡ Some e → e.id ≡ id
  by_object None h = absurd (cc h)
  by_object (Some pair) h = pair_own id pair.kind pair.body e h

-- the entry at an id of the log has the number of its place
number_is : (r : Repository) (ids front : List (List ℕ)) (id : List ℕ) (rest : List (List ℕ)) (e : Entry) → IsLogOf r ids → ids ≡ front ++ id ∷ rest → entry_at r id ≡ Some e → e.number ≡ length front + 1
number_is r ids front id rest e log split is =
    let here : Some (head_after front) ≡ Some (head_in e) = sym (log.linked front id rest split) ∙ heads_of_entries r id ∙ ap (option_map head_in) is in
    sym (ap numbered here)
  where
    numbered : Option Head → ℕ
    numbered None = 0
    numbered (Some head) = head.number

there_is : (r : Repository) (ids front : List (List ℕ)) (id : List ℕ) (rest : List (List ℕ)) → IsLogOf r ids → ids ≡ front ++ id ∷ rest → (e : Entry) × (entry_at r id ≡ Some e)
there_is r ids front id rest log split = by_entry (entry_at r id) refl where
  by_entry : (o : Option Entry) → entry_at r id ≡ o → (e : Entry) × (entry_at r id ≡ Some e)
  by_entry (Some e) is = (e, is)
  by_entry None is = let clash : Some (head_after front) ≡ None = sym (log.linked front id rest split) ∙ heads_of_entries r id ∙ ap (option_map head_in) is in absurd (cc clash)

-- ---- entries at ids
pub entries_more : (r : Repository) (ids : List (List ℕ)) (id : List ℕ) (log : List Taken) (t : Taken) → AreEntries r ids log → taken_at r id ≡ Some t → AreEntries r (ids ++ id ∷ []) (log ++ t ∷ [])
entries_more r ids id log t are is =
    map-append (taken_at r) ids (id ∷ []) ∙ (λ i. are i ++ is i ∷ []) ∙ sym (map-append (λ (x : Taken). Some x) log (t ∷ []))

same_length : (r : Repository) (ids : List (List ℕ)) (log : List Taken) → AreEntries r ids log → length log ≡ length ids
same_length r ids log are =
    let some : Taken → Option Taken = λ x. Some x in
    let long : length (map some log) ≡ length log = length-map log some in
    let short : length (map (taken_at r) ids) ≡ length ids = length-map ids (taken_at r) in
    sym long ∙ sym (ap length are) ∙ short

taken_of : (r : Repository) (id : List ℕ) (t : Taken) → taken_at r id ≡ Some t → (entry_at r id ≡ Some t.entry) × (t.repository ≡ r)
taken_of r id t is = by_entry (entry_at r id) refl is where
  by_entry : (o : Option Entry) → entry_at r id ≡ o → option_map (λ (entry : Entry). record { entry = entry; repository = r }) o ≡ Some t → (entry_at r id ≡ Some t.entry) × (t.repository ≡ r)
  by_entry None there h = absurd (cc h)
  by_entry (Some e) there h = (there ∙ ap (option_map (λ (x : Taken). x.entry)) h, sym (ap repository_of h)) where
    repository_of : Option Taken → Repository
    repository_of None = r
    repository_of (Some x) = x.repository

-- the entry of a number was read at the id of its place
entry_there : (r : Repository) (ids : List (List ℕ)) (log : List Taken) (k : ℕ) (t : Taken) → AreEntries r ids log → slice_get log k ≡ Some t → (id : List ℕ) × (slice_get ids k ≡ Some id) × (taken_at r id ≡ Some t)
entry_there r ids log k t are is = by_id (slice_get ids k) refl at where
  at : option_map (taken_at r) (slice_get ids k) ≡ Some (Some t)
  at = sym (slice_get-map (taken_at r) ids k) ∙ ap (λ xs. slice_get xs k) are ∙ slice_get-map (λ (x : Taken). Some x) log k ∙ ap (option_map (λ (x : Taken). Some x)) is

  by_id : (o : Option (List ℕ)) → slice_get ids k ≡ o → option_map (taken_at r) o ≡ Some (Some t) → (id : List ℕ) × (slice_get ids k ≡ Some id) × (taken_at r id ≡ Some t)
  by_id None there h = absurd (cc h)
  by_id (Some id) there h = (id, there, ap inner h) where
    inner : Option (Option Taken) → Option Taken
    inner None = None
    inner (Some o) = o

-- ---- an engine that took the entries before a place of the log
module _ (rules : Rules Policy Fault) (r : Repository) (ids : List (List ℕ)) (i : ℕ) (id : List ℕ) (below : i < length ids) (at : id ≡ get_or ids i id) (engine : Engine Policy Fault) (log : List Taken)
    (are : AreEntries r (take i ids) log) (stands : Stands rules log engine) where
  fronts : length (take i ids) ≡ i
  fronts = length-take-le i ids (omega arith)

  taken_is : taken engine ≡ i
  taken_is =
      let targets : Taken → List ℕ = λ t. target_of t.entry.body in
      let many : length (map targets log) ≡ length log = length-map log targets in
      ap length stands.targets ∙ many ∙ same_length r (take i ids) log are ∙ fronts

  -- no entry before it has its id
  no_place : IsLogOf r ids → (k : ℕ) → place_of engine.book id ≡ Some k → ⊥
  no_place is_log k there = by_entry (slice_get log (k - 1)) refl w.2 where
    w : (0 < k) × (k ≤ length log) × (logs.has_id (logs.entry_at log k) id ≡ true)
    w = (stands.places id k).0 there

    by_entry : (o : Option Taken) → slice_get log (k - 1) ≡ o → logs.has_id o id ≡ true → ⊥
    by_entry None found h = false≢true h
    by_entry (Some t) found h =
        let was = entry_there r (take i ids) log (k - 1) t are found in
        let other = was.0 in
        let entry = taken_of r other t was.2 in
        let own : t.entry.id ≡ other = own_id r other t.entry entry.0 in
        let same : other ≡ id = sym own ∙ (bytes_eq-Decides t.entry.id id).0 h in
        let within : k - 1 < length (take i ids) = slice_get_within (take i ids) (k - 1) other was.1 in
        let parts = cut (take i ids) (k - 1) other within (sym (get_or_from_slice_get (take i ids) (k - 1) other other was.1)) in
        let front = take (k - 1) (take i ids) in
        let rest = drop (k - 1 + 1) (take i ids) in
        let split : ids ≡ front ++ other ∷ (rest ++ drop i ids) = sym (take-append-drop i ids) ∙ ap (λ xs. xs ++ drop i ids) parts ∙ append_assoc front (other ∷ rest) (drop i ids) in
        let first = number_is r ids front other (rest ++ drop i ids) t.entry is_log split entry.0 in
        let here = number_is r ids (take i ids) id (drop (i + 1) ids) t.entry is_log (cut ids i id below at) (ap (entry_at r) (sym same) ∙ entry.0) in
        let few : length front ≡ k - 1 = length-take-le (k - 1) (take i ids) (omega arith) in
        let long = fronts in
        omega arith

  not_taken : IsLogOf r ids → has_taken engine id ≡ false
  not_taken is_log = by_place (place_of engine.book id) refl where
    by_place : (o : Option ℕ) → place_of engine.book id ≡ o → is_some o ≡ false
    by_place None there = refl
    by_place (Some k) there = absurd (no_place is_log k there)

  -- the entry at the id is the next
  comes : IsLogOf r ids → (e : Entry) × (entry_at r id ≡ Some e) × (comes_next engine e ≡ true)
  comes is_log =
      let w = there_is r ids (take i ids) id (drop (i + 1) ids) is_log (cut ids i id below at) in
      let e = w.0 in
      let number : e.number ≡ taken engine + 1 = number_is r ids (take i ids) id (drop (i + 1) ids) e is_log (cut ids i id below at) w.1 ∙ ap (λ n. n + 1) (fronts ∙ sym taken_is) in
      let fresh : has_taken engine e.id ≡ false = ap (has_taken engine) (own_id r id e w.1) ∙ not_taken is_log in
      (e, w.1, ap (λ b. b && not (has_taken engine e.id)) (eq-eqb e.number (taken engine + 1) number) ∙ ap not fresh)

  pub unbroken : (fault : LogFault) → IsAstray r engine id fault → IsLogOf r ids → IsUnbroken fault
  unbroken (Broken named) astray is_log = let w = comes is_log in true≢false (sym w.2 ∙ astray w.0 w.1)
  unbroken Failed astray is_log = tt
  unbroken Memory astray is_log = tt

  -- one entry more
  pub taken_more : (now : Engine Policy Fault) → TakesNext rules r id engine now → (more : List Taken) × AreEntries r (take (i + 1) ids) more × Stands rules more now
  taken_more now step =
      let t : Taken = record { entry = step.entry; repository = r } in
      let there : taken_at r id ≡ Some t = ap (option_map (λ (entry : Entry). record { entry = entry; repository = r })) step.there in
      (log ++ t ∷ [], subst (λ xs. AreEntries r xs (log ++ t ∷ [])) (one_more ids i id below at) (entries_more r (take i ids) id log t are there), step.stands log stands)

  -- ---- where the next is not there

  others_place : (e : Entry) → AllByRecursion (λ t. t.entry.id ≢ e.id) log → (k : ℕ) → place_of engine.book e.id ≡ Some k → ⊥
  others_place e others k there = by_entry (slice_get log (k - 1)) refl w.2 where
    w : (0 < k) × (k ≤ length log) × (logs.has_id (logs.entry_at log k) e.id ≡ true)
    w = (stands.places e.id k).0 there

    by_entry : (o : Option Taken) → slice_get log (k - 1) ≡ o → logs.has_id o e.id ≡ true → ⊥
    by_entry None found h = false≢true h
    by_entry (Some t) found h = at_index (λ (x : Taken). x.entry.id ≢ e.id) log (k - 1) t others found ((bytes_eq-Decides t.entry.id e.id).0 h)

  fresh_id : (e : Entry) → AllByRecursion (λ t. t.entry.id ≢ e.id) log → has_taken engine e.id ≡ false
  fresh_id e others = by_place (place_of engine.book e.id) refl where
    by_place : (o : Option ℕ) → place_of engine.book e.id ≡ o → is_some o ≡ false
    by_place None there = refl
    by_place (Some k) there = absurd (others_place e others k there)

  comes_behind : (e : Entry) → ComesBehind log e → comes_next engine e ≡ true
  comes_behind e next =
      let many = same_length r (take i ids) log are in
      let long = fronts in
      let here = taken_is in
      let number : e.number ≡ taken engine + 1 = omega (arith, next.number) in
      ap (λ b. b && not (has_taken engine e.id)) (eq-eqb e.number (taken engine + 1) number) ∙ ap not (fresh_id e next.other)

  pub breaks : (fault : LogFault) → IsAstray r engine id fault → IsNamed id fault → BreaksAt r ids fault
  breaks (Broken named) astray is = record {
    front = take i ids;
    rest = drop (i + 1) ids;
    is = cut ids i id below at ∙ ap (λ (x : List ℕ). take i ids ++ x ∷ drop (i + 1) ids) (sym is);
    log = log;
    entries = are;
    none = λ e there next. true≢false (sym (comes_behind e next) ∙ astray e (ap (entry_at r) (sym is) ∙ there));
  }
  breaks Failed astray is = tt
  breaks Memory astray is = tt
