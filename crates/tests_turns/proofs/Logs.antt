-- Steps of a shop, and the histories that it stands for.
use Rattle.std.proofs.Common.{◌≡◌, ◌≤◌, ◌<◌, ◌+◌, ◌^◌, ℕ, Bool, true, List, [], ◌∷◌, ◌++◌, map, length, Some, refl, sym, ap, ◌∙◌, subst, arith}
use Rattle.std.specs.Prelude.{Option}
use Rattle.std.proofs.lemmas.List.{map-append, length-map}
use Rattle.octets.specs.Content.{Told, Stays}
use Rattle.git_object.specs.Names.{log_name}
use Rattle.git_object.specs.Repository.{Repository}
use Rattle.keeper_api.specs.Changes.{changed}
use Rattle.keeper_api.specs.declared.changes.Change.{Change}
use Rattle.desk_turns.specs.Histories.{History, Member, with_member, count}
use Rattle.tests_turns.specs.Legal.{IsPut, last_from, faults_from, Steps, last_repository, last_faults, Legal, marks}
use Rattle.tests_turns.specs.Shops.{logged, Stands, AddsOne}
use Rattle.tests_turns.specs.declared.shops.Logged.{Logged}
use Rattle.tests_turns.specs.declared.shops.Shop.{Shop}

last_append : (r : Option Repository) (ms : List Member) (m : Member) → last_from r (ms ++ m ∷ []) ≡ m.repository
last_append r [] m = refl
last_append r (x ∷ xs) m = last_append x.repository xs m

faults_append : (n : ℕ) (ms : List Member) (m : Member) → faults_from n (ms ++ m ∷ []) ≡ m.faults
faults_append n [] m = refl
faults_append n (x ∷ xs) m = faults_append x.faults xs m

steps_append : (r : Option Repository) (n : ℕ) (ms : List Member) (m : Member) → Steps r n ms → faults_from n ms ≤ m.faults → Told (IsPut m.id) (last_from r ms) m.repository → Steps r n (ms ++ m ∷ [])
steps_append r n [] m s le told = (le, told, tt)
steps_append r n (x ∷ xs) m s le told = (s.0, s.1, steps_append x.repository x.faults xs m s.2 le told)

le_self : (n m : ℕ) → n ≡ m → n ≤ m
le_self n m e = omega (arith, e)

module _ {R : Type 0} (content : R → Option Repository) (faults : R → ℕ) where
  -- the log is as long as the history
  pub counts : (shop : Shop R) (h : History) → Stands content faults shop h → length shop.log.items ≡ count h
  counts shop h is = sym (length-map shop.log.items (λ (l : Logged). (l.id, l.seat))) ∙ (sym (ap length is.logs) ∙ length-map h.members (λ (m : Member). (m.id, m.seat)))

  -- a step that adds nothing
  pub kept : (old new : Shop R) (h : History) → Stands content faults old h → new.log.items ≡ old.log.items → (new.clean ≡ true → (old.clean ≡ true) × Stays (content old.keeper) (content new.keeper)) → faults old.keeper ≤ faults new.keeper → Stands content faults new h
  kept old new h is same store le = record {
    logs = is.logs ∙ ap logged (sym same);
    store = λ clean now told. let of = store clean in is.store of.0 now (of.1 now told);
    counted = omega (arith, is.counted, le);
    is_legal = is.is_legal;
  }

  -- a step that adds an entry
  pub added : (old new : Shop R) (h : History) (seat number : ℕ) (id : List ℕ) (change : Change) → Stands content faults old h → old.clean ≡ true → change.refs ≡ record { name = log_name; to = Some id } ∷ [] → new.log.items ≡ old.log.items ++ record { id = id; seat = seat } ∷ []
      → Told (λ was now. now ≡ changed change was) (content old.keeper) (content new.keeper) → faults old.keeper ≤ faults new.keeper → number ≡ length old.log.items + 1 → number < 2 ^ 61 → AddsOne content faults h seat id new number
  added old new h seat number id change is clean refs log told le number_is small =
      let m : Member = record { id = id; seat = seat; repository = content new.keeper; faults = faults new.keeper } in record {
        member = m;
        stands = record {
          logs = map-append (λ (x : Member). (x.id, x.seat)) h.members (m ∷ []) ∙ (ap (λ l. l ++ (id, seat) ∷ []) is.logs ∙ (sym (map-append (λ (l : Logged). (l.id, l.seat)) old.log.items (record { id = id; seat = seat } ∷ [])) ∙ ap logged (sym log)));
          store = λ _ now at. last_append h.opening.repository h.members m ∙ at;
          counted = le_self (last_faults (with_member h m)) (faults new.keeper) (faults_append h.opening.faults h.members m);
          is_legal = steps_append h.opening.repository h.opening.faults h.members m is.is_legal (omega (arith, is.counted, le))
              (λ now at. let of = told now at in (of.0, is.store clean of.0 of.1, record { change = change; refs = refs; is = of.2 }));
        };
        by = refl;
        is = refl;
        number_is = number_is ∙ ap (λ n. n + 1) (counts old h is);
        small = small;
      }
