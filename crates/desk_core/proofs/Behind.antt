-- An engine that takes the entries behind those that it took, one after the other.
use Rattle.std.proofs.Common.{◌≡◌, ◌≢◌, ◌<◌, ◌≤◌, ◌+◌, ◌-◌, ◌∷◌, ◌++◌, ◌∙◌, [], ℕ, suc, zero, true, false, List, length, take, drop, get_or, Option, Some, None, refl, sym, ap, subst, append_assoc, append-nil, take-append-drop, arith}
use Rattle.std.specs.Prelude.{◌==◌, is_some, not, slice_get}
use Rattle.std.specs.List.{AllByRecursion}
use Rattle.std.specs.Option.{option_map}
use Rattle.std.proofs.lemmas.Bool.{and_from, and_parts, eq-eqb, eqb-true, false≢true, not-true, not_from_false, true≢false}
use Rattle.std.proofs.lemmas.List.{length-map, map-append, take_more}
use Rattle.std.proofs.lemmas.Option.{slice_get_within}
use Rattle.std.proofs.lemmas.Slice.Eq.{bytes_eq-Decides}
use Rattle.git_object.specs.Repository.{Repository, value_of}
use Rattle.rsl_chain.specs.Entries.{Taken, target_of}
use Rattle.rsl_chain.specs.declared.entries.Entry.{Entry}
use Rattle.rsl_chain.specs.Logs.{IsNamed, entry_at}
use Rattle.rsl_chain.specs.declared.log_faults.LogFault.{LogFault}
use Rattle.rsl_chain.specs.declared.log_faults.LogFault.TheVariants.{Broken, Failed, Memory}
use Rattle.judging.specs.Books.{place_of}
use Rattle.judging.specs.Engines.{Stands, has_taken, taken}
use Rattle.judging.specs.Logs as logs
use Rattle.judging.specs.Reads.{is_bounded}
use Rattle.judging.specs.Rules.{Rules}
use Rattle.judging.specs.Verdicts.{IsJudged}
use Rattle.judging.specs.declared.engine.Engine as judging_engine
use Rattle.judging.specs.declared.verdicts.Verdict.{Verdict}
use Rattle.policy_epochs.specs.declared.policies.Policy.{Policy}
use Rattle.entry_rules.specs.declared.faults.Fault.{Fault}
use Rattle.entry_rules.specs.RealRules.{real_rules}
use Rattle.verify_ref.specs.Following.{Follows}
use Rattle.verify_ref.specs.Logs.{AreEntries, ComesBehind, IsAstray, comes_next, taken_at}
use Rattle.verify_ref.specs.Reading.{extending_reads, reads_behind}
use Rattle.verify_ref.specs.declared.engine.Engine.{Engine}
use Rattle.verify_ref.proofs.OneVerdict.{same_entries}
use Rattle.verify_ref.proofs.Walking.{entries_more}
use Rattle.pushes.specs.Steps.{ids_of, row_id}
use Rattle.pushes.specs.declared.rows.Row.{Row}
use Rattle.desk_core.specs.Lagging.{AreBoundedBehind, BreaksBehind, ComeBehind, Judges, TakesAll, TakesAt, TakesFront, ids_behind}

-- ---- lists

by_places : {X : Type 0} (P : X → Type 0) (xs : List X) → ((k : ℕ) (x : X) → slice_get xs k ≡ Some x → P x) → AllByRecursion P xs
by_places P [] each = tt
by_places P (x ∷ xs) each = (each 0 x refl, by_places P xs (λ k y is. each (suc k) y is))

at_place : {X : Type 0} (P : X → Type 0) (xs : List X) (k : ℕ) (x : X) → AllByRecursion P xs → slice_get xs k ≡ Some x → P x
at_place P [] k x all is = absurd (cc is)
at_place P (y ∷ ys) zero x all is = let same : y ≡ x = cc is in subst P same all.0
at_place P (y ∷ ys) (suc k) x all is = at_place P ys k x all.1 is

rows_more : (rows : List Row) (i : ℕ) (row : Row) → i < length rows → row ≡ get_or rows i row → ids_of (take i rows) ++ row.id ∷ [] ≡ ids_of (take (i + 1) rows)
rows_more rows i row below is =
    let one : take i rows ++ row ∷ [] ≡ take (i + 1) rows = ap (λ (x : Row). take i rows ++ x ∷ []) is ∙ sym (take_more rows i row below) in
    sym (map-append row_id (take i rows) (row ∷ [])) ∙ ap ids_of one

rows_cut : (rows : List Row) (i : ℕ) (row : Row) → i < length rows → row ≡ get_or rows i row → ids_of rows ≡ ids_of (take i rows) ++ row.id ∷ ids_of (drop (i + 1) rows)
rows_cut rows i row below is =
    let whole : ids_of (take (i + 1) rows) ++ ids_of (drop (i + 1) rows) ≡ ids_of rows = sym (map-append row_id (take (i + 1) rows) (drop (i + 1) rows)) ∙ ap ids_of (take-append-drop (i + 1) rows) in
    sym whole ∙ ap (λ (xs : List (List ℕ)). xs ++ ids_of (drop (i + 1) rows)) (sym (rows_more rows i row below is)) ∙ append_assoc (ids_of (take i rows)) (row.id ∷ []) (ids_of (drop (i + 1) rows))

-- ---- the entry that comes next

module _ (rules : Rules Policy Fault) (log : List Taken) (engine : judging_engine.Engine Policy Fault) (stands : Stands rules log engine) where
  many : taken engine ≡ length log
  many = let targets : Taken → List ℕ = λ t. target_of t.entry.body in ap length stands.targets ∙ length-map log targets

  placed : (k : ℕ) (t : Taken) (id : List ℕ) → slice_get log k ≡ Some t → t.entry.id ≡ id → place_of engine.book id ≡ Some (k + 1)
  placed k t id is same =
      let within : k < length log = slice_get_within log k t is in
      let at : k + 1 - 1 ≡ k = omega arith in
      let has : logs.has_id (logs.entry_at log (k + 1)) id ≡ true =
      ap (λ (n : ℕ). logs.has_id (slice_get log n) id) at ∙ ap (λ (o : Option Taken). logs.has_id o id) is ∙ (bytes_eq-Decides t.entry.id id).1 same in
      (stands.places id (k + 1)).1 (omega arith, omega (arith, within), has)

  comes_behind : (entry : Entry) → comes_next engine entry ≡ true → ComesBehind log entry
  comes_behind entry next =
      let parts = and_parts (entry.number == taken engine + 1) (not (has_taken engine entry.id)) next in
      let fresh : has_taken engine entry.id ≡ false = not-true (has_taken engine entry.id) parts.1 in
      let count : entry.number ≡ taken engine + 1 = eqb-true entry.number (taken engine + 1) parts.0 in
      record {
        number = count ∙ ap (λ (n : ℕ). n + 1) many;
        other = by_places (λ (t : Taken). t.entry.id ≢ entry.id) log (λ k t is same. true≢false (sym (ap is_some (placed k t entry.id is same)) ∙ fresh));
      }

  no_place : (entry : Entry) → ComesBehind log entry → (k : ℕ) → place_of engine.book entry.id ≡ Some k → ⊥
  no_place entry next k there = by_entry (slice_get log (k - 1)) refl w.2 where
    w : (0 < k) × (k ≤ length log) × (logs.has_id (logs.entry_at log k) entry.id ≡ true)
    w = (stands.places entry.id k).0 there

    by_entry : (o : Option Taken) → slice_get log (k - 1) ≡ o → logs.has_id o entry.id ≡ true → ⊥
    by_entry None found h = false≢true h
    by_entry (Some t) found h = at_place (λ (x : Taken). x.entry.id ≢ entry.id) log (k - 1) t next.other found ((bytes_eq-Decides t.entry.id entry.id).0 h)

  goes_next : (entry : Entry) → ComesBehind log entry → comes_next engine entry ≡ true
  goes_next entry next = and_from (entry.number == taken engine + 1) (not (has_taken engine entry.id)) (eq-eqb entry.number (taken engine + 1) (next.number ∙ ap (λ (n : ℕ). n + 1) (sym many)))
      (not_from_false (has_taken engine entry.id) (fresh (place_of engine.book entry.id) refl))
    where
      fresh : (o : Option ℕ) → place_of engine.book entry.id ≡ o → is_some o ≡ false
      fresh None there = refl
      fresh (Some k) there = absurd (no_place entry next k there)

-- the entry at an id was taken, which came next
pub taken_next : (r : Repository) (log : List Taken) (id : List ℕ) (was now : Engine) (entry : Entry) → entry_at r id ≡ Some entry → comes_next was.entries entry ≡ true → Follows log was
    → Follows (log ++ record { entry = entry; repository = r } ∷ []) now → TakesAt r log id now
taken_next r log id was now entry there next follows more =
    record { entry = entry; there = there; next = comes_behind (real_rules was.rules.anchor) log was.entries follows entry next; follows = more }

-- ---- one entry more

pub none_yet : (r : Repository) (log : List Taken) (now : Engine) → Follows log now → TakesAll r log [] now
none_yet r log now follows = record { more = []; entries = refl; next = tt; follows = subst (λ (l : List Taken). Follows l now) (sym (append-nil log)) follows }

come_push : (log more : List Taken) (t : Taken) → ComeBehind log more → ComesBehind (log ++ more) t.entry → ComeBehind log (more ++ t ∷ [])
come_push log [] t all next = (subst (λ (l : List Taken). ComesBehind l t.entry) (append-nil log) next, tt)
come_push log (x ∷ more) t all next = (all.0, come_push (log ++ x ∷ []) more t all.1 (subst (λ (l : List Taken). ComesBehind l t.entry) (sym (append_assoc log (x ∷ []) more)) next))

taken_of : (r : Repository) (id : List ℕ) (entry : Entry) → entry_at r id ≡ Some entry → taken_at r id ≡ Some (record { entry = entry; repository = r })
taken_of r id entry there = ap (option_map (λ (e : Entry). record { entry = e; repository = r })) there

one_more : (r : Repository) (log : List Taken) (front : List (List ℕ)) (id : List ℕ) (mid now : Engine) (all : TakesAll r log front mid) → TakesAt r (log ++ all.more) id now → TakesAll r log (front ++ id ∷ []) now
one_more r log front id mid now all step =
    let t : Taken = record { entry = step.entry; repository = r } in
    record {
      more = all.more ++ t ∷ [];
      entries = entries_more r front id all.more t all.entries (taken_of r id step.entry step.there);
      next = come_push log all.more t all.next step.next;
      follows = subst (λ (l : List Taken). Follows l now) (append_assoc log all.more (t ∷ [])) step.follows;
    }

module _ (r : Repository) (log : List Taken) (rows : List Row) (i : ℕ) (mid : Engine) (all : TakesAll r log (ids_of (take i rows)) mid) where
  -- a refusal leaves those before it taken
  pub some_taken : (now : Engine) → ((l : List Taken) → Follows l mid → Follows l now) → TakesFront r log (ids_of rows) now
  some_taken now keeps = record {
    front = ids_of (take i rows);
    rest = ids_of (drop i rows);
    is = ap ids_of (sym (take-append-drop i rows)) ∙ map-append row_id (take i rows) (drop i rows);
    taken = record { more = all.more; entries = all.entries; next = all.next; follows = keeps (log ++ all.more) all.follows };
  }

  module _ (row : Row) (below : i < length rows) (at : row ≡ get_or rows i row) where
    pub next_taken : (now : Engine) → TakesAt r (log ++ all.more) row.id now → TakesAll r log (ids_of (take (i + 1) rows)) now
    next_taken now step = subst (λ (ids : List (List ℕ)). TakesAll r log ids now) (rows_more rows i row below at) (one_more r log (ids_of (take i rows)) row.id mid now all step)

    pub breaks : (fault : LogFault) → IsAstray r mid.entries row.id fault → IsNamed row.id fault → BreaksBehind r log (ids_of rows) fault
    breaks (Broken named) astray is = record {
      front = ids_of (take i rows);
      rest = ids_of (drop (i + 1) rows);
      is = rows_cut rows i row below at ∙ ap (λ (x : List ℕ). ids_of (take i rows) ++ x ∷ ids_of (drop (i + 1) rows)) (sym is);
      more = all.more;
      entries = all.entries;
      next = all.next;
      none = λ e there next. true≢false (sym (goes_next (real_rules mid.rules.anchor) (log ++ all.more) mid.entries all.follows e next) ∙ astray e (ap (entry_at r) (sym is) ∙ there));
    }
    breaks Failed astray is = tt
    breaks Memory astray is = tt

-- all were taken, by which the verdict is
pub judged_by : (r : Repository) (log : List Taken) (ids these : List (List ℕ)) (now : Engine) (name : List ℕ) (verdict : Verdict Fault) → these ≡ ids → (all : TakesAll r log these now)
    → IsJudged (real_rules now.rules.anchor) (log ++ all.more) name (value_of r name) verdict → Judges r log ids now name verdict
judged_by r log ids these now name verdict same all is = subst (λ (xs : List (List ℕ)). Judges r log xs now name verdict) same (record { taken = all; judged = is })

pub all_as_front : (r : Repository) (log : List Taken) (ids these : List (List ℕ)) (now : Engine) → these ≡ ids → TakesAll r log these now → TakesFront r log ids now
all_as_front r log ids these now same all = subst (λ (xs : List (List ℕ)). TakesFront r log xs now) same (record { front = these; rest = []; is = sym (append-nil these); taken = all })

pub rows_same : (rows behind : List Row) (was mid : Engine) → behind ≡ drop (taken mid.entries) rows → taken mid.entries ≡ taken was.entries → ids_of behind ≡ ids_behind rows was
rows_same rows behind was mid is same = ap ids_of (is ∙ ap (λ (n : ℕ). drop n rows) same)

pub no_rows : (rows : List Row) → ids_of rows ≡ [] → rows ≡ []
no_rows [] e = refl
no_rows (row ∷ rows) e = absurd (cc e)

-- ---- reads

behind_more : (rules : Rules Policy Fault) (earlier later : List Taken) (t : Taken) → reads_behind rules earlier (later ++ t ∷ []) ≡ reads_behind rules earlier later + (1 + extending_reads rules (earlier ++ later) t)
behind_more rules earlier [] t =
    let none = ap (λ (l : List Taken). extending_reads rules l t) (append-nil earlier) in
    omega (arith, none)
behind_more rules earlier (x ∷ later) t =
    let rest = behind_more rules (earlier ++ x ∷ []) later t in
    let whole = ap (λ (l : List Taken). extending_reads rules l t) (append_assoc earlier (x ∷ []) later) in
    omega (arith, rest, whole)

bounded_push : (rules : Rules Policy Fault) (log more : List Taken) (t : Taken) → AreBoundedBehind rules log (more ++ t ∷ []) → AreBoundedBehind rules log more × (is_bounded rules (log ++ more) t ≡ true)
bounded_push rules log [] t all = (tt, ap (λ (l : List Taken). is_bounded rules l t) (append-nil log) ∙ all.0)
bounded_push rules log (x ∷ more) t all =
    let rest = bounded_push rules (log ++ x ∷ []) more t all.1 in
    ((all.0, rest.0), ap (λ (l : List Taken). is_bounded rules l t) (sym (append_assoc log (x ∷ []) more)) ∙ rest.1)

-- the reads of the rows before a place, and of the next
pub reads_more : (r : Repository) (log : List Taken) (rows : List Row) (i : ℕ) (row : Row) → i < length rows → row ≡ get_or rows i row
    → (start mid now : Engine) → mid.rules ≡ start.rules → (all : TakesAll r log (ids_of (take i rows)) mid) → TakesAt r (log ++ all.more) row.id now
    → (first before after : ℕ) → (AreBoundedBehind (real_rules start.rules.anchor) log all.more → before ≤ first + reads_behind (real_rules start.rules.anchor) log all.more)
    → ((entry : Entry) → entry_at r row.id ≡ Some entry → is_bounded (real_rules mid.rules.anchor) (log ++ all.more) (record { entry = entry; repository = r }) ≡ true
    → after ≤ before + (1 + extending_reads (real_rules mid.rules.anchor) (log ++ all.more) (record { entry = entry; repository = r })))
    → (more : List Taken) → AreEntries r (ids_of (take (i + 1) rows)) more → AreBoundedBehind (real_rules start.rules.anchor) log more
    → after ≤ first + reads_behind (real_rules start.rules.anchor) log more
reads_more r log rows i row below at start mid now same all step first before after had next more are bounded =
    let rules : Rules Policy Fault = real_rules start.rules.anchor in
    let t : Taken = record { entry = step.entry; repository = r } in
    let longer : AreEntries r (ids_of (take (i + 1) rows)) (all.more ++ t ∷ []) =
    subst (λ (xs : List (List ℕ)). AreEntries r xs (all.more ++ t ∷ [])) (rows_more rows i row below at) (entries_more r (ids_of (take i rows)) row.id all.more t all.entries (taken_of r row.id step.entry step.there)) in
    let is : more ≡ all.more ++ t ∷ [] = same_entries more (all.more ++ t ∷ []) (sym are ∙ longer) in
    let parts = bounded_push rules log all.more t (subst (AreBoundedBehind rules log) is bounded) in
    let mine : after ≤ before + (1 + extending_reads rules (log ++ all.more) t) =
    subst (λ (x : _). is_bounded (real_rules x.anchor) (log ++ all.more) t ≡ true → after ≤ before + (1 + extending_reads (real_rules x.anchor) (log ++ all.more) t)) same (next step.entry step.there) parts.1 in
    let sum : reads_behind rules log more ≡ reads_behind rules log all.more + (1 + extending_reads rules (log ++ all.more) t) = ap (reads_behind rules log) is ∙ behind_more rules log all.more t in
    omega (arith, had parts.0, mine, sum)
