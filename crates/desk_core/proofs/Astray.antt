-- Ids behind a log at which no entry stands that comes next.
use Rattle.std.proofs.Common.{◌≡◌, ◌≢◌, ◌+◌, ◌∷◌, ◌++◌, ◌∙◌, [], ℕ, List, length, map, Option, Some, None, Ok, Err, refl, sym, ap, subst, append_assoc, append-nil, arith}
use Rattle.std.specs.List.{AllByRecursion}
use Rattle.std.specs.Option.{option_and_then, option_map}
use Rattle.std.specs.Result.{result_ok}
use Rattle.std.proofs.lemmas.List.{length-append, length-map, map-append}
use Rattle.git_object.specs.Objects.{Pair}
use Rattle.git_object.specs.Repository.{Repository, object_at}
use Rattle.git_object.specs.declared.kinds.Kind.{Kind}
use Rattle.git_object.specs.declared.kinds.Kind.TheVariants.{Blob, Commit, Tag, Tree}
use Rattle.rsl_chain.specs.Chain.{AreLinked, head_after}
use Rattle.rsl_chain.specs.Entries.{Taken}
use Rattle.rsl_chain.specs.declared.entries.Entry.{Entry}
use Rattle.rsl_chain.specs.declared.heads.Head.{Head}
use Rattle.rsl_chain.specs.Logs.{entry_at, entry_of_pair, head_in, heads_of}
use Rattle.rsl_chain.specs.Reading.{Reading, entry_as, reading}
use Rattle.rsl_chain.proofs.Lookups.{heads_of_entries}
use Rattle.verify_ref.specs.Logs.{AreEntries, ComesBehind, taken_at}
use Rattle.desk_core.specs.Lagging.{ComeBehind}
use Rattle.desk_core.specs.Laws.{AllOrAstray, NoneAstrayInLog, OneAstray, taken_id}

-- ---- entries at ids

abbrev in_some : {X : Type 0} → X → Option X → X
in_some d None = d
in_some d (Some x) = x

abbrev heads : {X : Type 0} (d : X) → List X → X
heads d [] = d
heads d (x ∷ xs) = x

abbrev tails : {X : Type 0} → List X → List X
tails [] = []
tails (x ∷ xs) = xs

-- the first of the entries, and the others
pub first_at : (r : Repository) (id : List ℕ) (ids : List (List ℕ)) (t : Taken) (log : List Taken) → AreEntries r (id ∷ ids) (t ∷ log) → (taken_at r id ≡ Some t) × AreEntries r ids log
first_at r id ids t log are = (ap (heads None) are, ap tails are)

as_own : (id : List ℕ) (read : Reading) (e : Entry) → result_ok (entry_as id read) ≡ Some e → e.id ≡ id
as_own id (Ok read) e is = sym (ap entry_id is) where
  entry_id : Option Entry → List ℕ
  entry_id None = id
  entry_id (Some entry) = entry.id
as_own id (Err n) e is = absurd (cc is)

pair_own : (id : List ℕ) (kind : Kind) (body : List ℕ) (e : Entry) → entry_of_pair id kind body ≡ Some e → e.id ≡ id
pair_own id Commit body e is = as_own id (reading body) e is
pair_own id Blob body e is = absurd (cc is)
pair_own id Tree body e is = absurd (cc is)
pair_own id Tag body e is = absurd (cc is)

pub own_id : (r : Repository) (id : List ℕ) (e : Entry) → entry_at r id ≡ Some e → e.id ≡ id
own_id r id e is = by_object (object_at r id) is where
  by_object : (o : Option Pair) → option_and_then (λ pair. entry_of_pair id pair.kind pair.body) o ≡ Some e → e.id ≡ id
  by_object None h = absurd (cc h)
  by_object (Some pair) h = pair_own id pair.kind pair.body e h

pub taken_there : (r : Repository) (id : List ℕ) (t : Taken) → taken_at r id ≡ Some t → (entry_at r id ≡ Some t.entry) × (t.repository ≡ r)
taken_there r id t is = by_entry (entry_at r id) is where
  by_entry : (o : Option Entry) → option_map (λ (entry : Entry). record { entry = entry; repository = r }) o ≡ Some t → (o ≡ Some t.entry) × (t.repository ≡ r)
  by_entry None h = absurd (cc h)
  by_entry (Some e) h = (ap (option_map (λ (x : Taken). x.entry)) h, sym (ap repository_of h)) where
    repository_of : Option Taken → Repository
    repository_of None = r
    repository_of (Some x) = x.repository

pub ids_are : (r : Repository) (ids : List (List ℕ)) (log : List Taken) → AreEntries r ids log → map taken_id log ≡ ids
ids_are r [] [] are = refl
ids_are r [] (t ∷ log) are = absurd (cc are)
ids_are r (id ∷ ids) [] are = absurd (cc are)
ids_are r (id ∷ ids) (t ∷ log) are =
    let parts = first_at r id ids t log are in
    let own : t.entry.id ≡ id = own_id r id t.entry (taken_there r id t parts.0).0 in
    let rest : map taken_id log ≡ ids = ids_are r ids log parts.1 in
    λ i. own i ∷ rest i

-- ---- at most one is the first

-- an entry stands at the id that comes behind these
record Comes (r : Repository) (log : List Taken) (id : List ℕ) : Type 0 where
  entry : Entry
  there : entry_at r id ≡ Some entry
  next : ComesBehind log entry

first_comes : (r : Repository) (log : List Taken) (id : List ℕ) (ids : List (List ℕ)) (t : Taken) (more : List Taken) → AreEntries r (id ∷ ids) (t ∷ more) → ComesBehind log t.entry → Comes r log id
first_comes r log id ids t more are next = record { entry = t.entry; there = (taken_there r id t (first_at r id ids t more are).0).0; next = next }

in_whole : (r : Repository) (log : List Taken) (front : List (List ℕ)) (id : List ℕ) (rest : List (List ℕ)) (all more : List Taken) → AreEntries r (front ++ id ∷ rest) all → ComeBehind log all → AreEntries r front more
    → Comes r (log ++ more) id
in_whole r log [] id rest [] more are next these = absurd (cc are)
in_whole r log [] id rest (t ∷ all) [] are next these = subst (λ (l : List Taken). Comes r l id) (sym (append-nil log)) (first_comes r log id rest t all are next.0)
in_whole r log [] id rest (t ∷ all) (u ∷ more) are next these = absurd (cc these)
in_whole r log (x ∷ front) id rest [] more are next these = absurd (cc are)
in_whole r log (x ∷ front) id rest (t ∷ all) [] are next these = absurd (cc these)
in_whole r log (x ∷ front) id rest (t ∷ all) (u ∷ more) are next these =
    let whole = first_at r x (front ++ id ∷ rest) t all are in
    let part = first_at r x front u more these in
    let same : t ≡ u = ap (in_some t) (sym whole.0 ∙ part.0) in
    let found : Comes r ((log ++ t ∷ []) ++ more) id = in_whole r (log ++ t ∷ []) front id rest all more whole.1 next.1 part.1 in
    subst (λ (l : List Taken). Comes r l id) (append_assoc log (t ∷ []) more ∙ ap (λ (x : Taken). log ++ x ∷ more) same) found

pub all_or_astray : AllOrAstray
all_or_astray r log ids id now all astray =
    let found = in_whole r log astray.front id astray.rest all.more astray.more (subst (λ (xs : List (List ℕ)). AreEntries r xs all.more) astray.is all.entries) all.next astray.entries in
    astray.none found.entry found.there found.next

-- none comes at the id
abbrev Never : Repository → List Taken → List ℕ → Type 0
Never r log id = (entry : Entry) → entry_at r id ≡ Some entry → ComesBehind log entry → ⊥

one_first : (r : Repository) (log : List Taken) (f g : List (List ℕ)) (x y : List ℕ) (s t : List (List ℕ)) (mf mg : List Taken) → f ++ x ∷ s ≡ g ++ y ∷ t → AreEntries r f mf → ComeBehind log mf → Never r (log ++ mf) x
    → AreEntries r g mg → ComeBehind log mg → Never r (log ++ mg) y → x ≡ y
one_first r log [] [] x y s t mf mg e af nf vf ag ng vg = cc e
one_first r log [] (z ∷ g) x y s t mf [] e af nf vf ag ng vg = absurd (cc ag)
one_first r log [] (z ∷ g) x y s t [] (u ∷ mg) e af nf vf ag ng vg =
    let same : x ≡ z = cc e in
    let found = subst (Comes r log) (sym same) (first_comes r log z g u mg ag ng.0) in
    absurd (vf found.entry found.there (subst (λ (l : List Taken). ComesBehind l found.entry) (sym (append-nil log)) found.next))
one_first r log [] (z ∷ g) x y s t (w ∷ mf) (u ∷ mg) e af nf vf ag ng vg = absurd (cc af)
one_first r log (z ∷ f) [] x y s t [] mg e af nf vf ag ng vg = absurd (cc af)
one_first r log (z ∷ f) [] x y s t (u ∷ mf) [] e af nf vf ag ng vg =
    let same : y ≡ z = (let back : y ∷ t ≡ z ∷ (f ++ x ∷ s) = sym e in cc back) in
    let found = subst (Comes r log) (sym same) (first_comes r log z f u mf af nf.0) in
    absurd (vg found.entry found.there (subst (λ (l : List Taken). ComesBehind l found.entry) (sym (append-nil log)) found.next))
one_first r log (z ∷ f) [] x y s t (u ∷ mf) (w ∷ mg) e af nf vf ag ng vg = absurd (cc ag)
one_first r log (z ∷ f) (w ∷ g) x y s t [] mg e af nf vf ag ng vg = absurd (cc af)
one_first r log (z ∷ f) (w ∷ g) x y s t (u ∷ mf) [] e af nf vf ag ng vg = absurd (cc ag)
one_first r log (z ∷ f) (w ∷ g) x y s t (u ∷ mf) (v ∷ mg) e af nf vf ag ng vg =
    let first : z ≡ w = cc e in
    let rest : f ++ x ∷ s ≡ g ++ y ∷ t = cc e in
    let pf = first_at r z f u mf af in
    let pg = first_at r w g v mg ag in
    let same : u ≡ v = ap (in_some u) (sym pf.0 ∙ ap (taken_at r) first ∙ pg.0) in
    one_first r (log ++ u ∷ []) f g x y s t mf mg rest pf.1 nf.1 (subst (λ (l : List Taken). Never r l x) (sym (append_assoc log (u ∷ []) mf)) vf) pg.1
    (subst (λ (k : Taken). ComeBehind (log ++ k ∷ []) mg) (sym same) ng.1)
    (subst (λ (k : Taken). Never r ((log ++ k ∷ []) ++ mg) y) (sym same) (subst (λ (l : List Taken). Never r l y) (sym (append_assoc log (v ∷ []) mg)) vg))

pub one_astray : OneAstray
one_astray r log ids x y a b = one_first r log a.front b.front x y a.rest b.rest a.more b.more (sym a.is ∙ b.is) a.entries a.next a.none b.entries b.next b.none

-- ---- in a log

abbrev numbered : Option Head → ℕ
numbered None = 0
numbered (Some head) = head.number

-- the ids before one of the log are others
apart : (r : Repository) (ids before fs : List (List ℕ)) (id : List ℕ) (rest : List (List ℕ)) → AreLinked (heads_of r) ids → ids ≡ (before ++ fs) ++ id ∷ rest → AllByRecursion (λ (x : List ℕ). x ≢ id) fs
apart r ids before [] id rest linked is = tt
apart r ids before (x ∷ fs) id rest linked is = (
  λ same.
      let here = linked before x (fs ++ id ∷ rest) (is ∙ append_assoc before (x ∷ fs) (id ∷ rest)) in
      let later = linked (before ++ x ∷ fs) id rest is in
      let both : Some (head_after before) ≡ Some (head_after (before ++ x ∷ fs)) = sym here ∙ ap (heads_of r) same ∙ later in
      let count : length before + 1 ≡ length (before ++ x ∷ fs) + 1 = ap numbered both in
      let long = length-append before (x ∷ fs) in
      omega (arith, count, long),
  apart r ids (before ++ x ∷ []) fs id rest linked (is ∙ ap (λ (l : List (List ℕ)). l ++ id ∷ rest) (sym (append_assoc before (x ∷ []) fs))),
)

of_taken : (log : List Taken) (id : List ℕ) → AllByRecursion (λ (x : List ℕ). x ≢ id) (map taken_id log) → AllByRecursion (λ (t : Taken). t.entry.id ≢ id) log
of_taken [] id all = tt
of_taken (t ∷ log) id all = (all.0, of_taken log id all.1)

-- an entry stands at each id of the log, which counts those before it
stands_at : (r : Repository) (ids front : List (List ℕ)) (id : List ℕ) (rest : List (List ℕ)) → AreLinked (heads_of r) ids → ids ≡ front ++ id ∷ rest → (e : Entry) × (entry_at r id ≡ Some e) × (e.number ≡ length front + 1)
stands_at r ids front id rest linked is = by_entry (entry_at r id) refl where
  head : Some (head_after front) ≡ option_map head_in (entry_at r id)
  head = sym (linked front id rest is) ∙ heads_of_entries r id

  by_entry : (o : Option Entry) → entry_at r id ≡ o → (e : Entry) × (entry_at r id ≡ Some e) × (e.number ≡ length front + 1)
  by_entry None there = let clash : Some (head_after front) ≡ None = head ∙ ap (option_map head_in) there in absurd (cc clash)
  by_entry (Some e) there = (e, there, sym (ap numbered (head ∙ ap (option_map head_in) there)))

pub none_in_log : NoneAstrayInLog
none_in_log r log ids id is_log astray =
    let front = map taken_id log ++ astray.front in
    let whole : map taken_id log ++ ids ≡ front ++ id ∷ astray.rest = ap (λ (xs : List (List ℕ)). map taken_id log ++ xs) astray.is ∙ sym (append_assoc (map taken_id log) astray.front (id ∷ astray.rest)) in
    let found = stands_at r (map taken_id log ++ ids) front id astray.rest is_log.linked whole in
    let e = found.0 in
    let own : e.id ≡ id = own_id r id e found.1 in
    let these : map taken_id (log ++ astray.more) ≡ front = map-append taken_id log astray.more ∙ ap (λ (xs : List (List ℕ)). map taken_id log ++ xs) (ids_are r astray.front astray.more astray.entries) in
    let others : AllByRecursion (λ (x : List ℕ). x ≢ id) front = apart r (map taken_id log ++ ids) [] front id astray.rest is_log.linked whole in
    let mine : AllByRecursion (λ (t : Taken). t.entry.id ≢ e.id) (log ++ astray.more) =
    subst (λ (i : List ℕ). AllByRecursion (λ (t : Taken). t.entry.id ≢ i) (log ++ astray.more)) (sym own) (of_taken (log ++ astray.more) id (subst (AllByRecursion (λ (x : List ℕ). x ≢ id)) (sym these) others)) in
    let many : length (log ++ astray.more) ≡ length front = sym (length-map (log ++ astray.more) taken_id) ∙ ap length these in
    astray.none e found.1 (record { number = found.2 ∙ ap (λ (n : ℕ). n + 1) (sym many); other = mine })
