-- A desk's log that was just loaded.
use Rattle.std.proofs.Common.{◌≡◌, ℕ, true, List, [], ◌∷◌, ◌++◌, Option, None, length, map, refl, sym, ap, subst, ◌∙◌, arith}
use Rattle.std.specs.List.{AllByRecursion}
use Rattle.std.proofs.lemmas.List.{length-map}
use Rattle.std.proofs.lemmas.List.Elements.{All-from_recursion}
use Rattle.git_object.specs.Repository.{Repository}
use Rattle.keeper_api.specs.declared.keepers.Keeper as keeper
use Rattle.rsl_chain.specs.Logs.{IsLogOf}
use Rattle.desk_turns.specs.Histories.{History, Member, Opening}
use Rattle.pushes.specs.Steps.{by_nobody, ids_of}
use Rattle.pushes.specs.declared.rows.Row.{Row}
use Rattle.desk_turns.specs.States.{Desk}
use Rattle.desk_turns.specs.Keeping.{LoadStands}
use Rattle.desk_turns.specs.Legal.{last, last_faults, last_repository, loaded, rows_of}
use Rattle.desk_turns.specs.Standing.{StandsFor}

-- ---- loading

their_rows : (o : Opening) (ids : List (List ℕ)) → rows_of (map (loaded o) ids) ≡ map by_nobody ids
their_rows o [] = refl
their_rows o (id ∷ ids) = ap (λ (rest : List Row). by_nobody id ∷ rest) (their_rows o ids)

their_ids : (ids : List (List ℕ)) → ids_of (map by_nobody ids) ≡ ids
their_ids [] = refl
their_ids (id ∷ ids) = ap (λ (rest : List (List ℕ)). id ∷ rest) (their_ids ids)

opening_repository : (o : Opening) (ids : List (List ℕ)) → last_repository o.repository (map (loaded o) ids) ≡ o.repository
opening_repository o [] = refl
opening_repository o (id ∷ ids) = opening_repository o ids

opening_faults : (o : Opening) (ids : List (List ℕ)) → last_faults o.faults (map (loaded o) ids) ≡ o.faults
opening_faults o [] = refl
opening_faults o (id ∷ ids) = opening_faults o ids

of_nobody : (o : Opening) (ids : List (List ℕ)) → AllByRecursion (λ (m : Member). m.seat ≡ 0) (map (loaded o) ids)
of_nobody o [] = tt
of_nobody o (id ∷ ids) = (refl, of_nobody o ids)

nothing_more : (xs : List Member) → xs ++ [] ≡ xs
nothing_more [] = refl
nothing_more (x ∷ xs) = ap (λ (rest : List Member). x ∷ rest) (nothing_more xs)

pub load_stands : {R : Type 0} (k : keeper.Ghosts R) → LoadStands k
load_stands k store desk is stop =
    let o : Opening = record { repository = k.content store; loaded = length is.ids; faults = k.faults store } in
    let h : History = record { opening = o; members = map (loaded o) is.ids } in
    let many : length (map (loaded o) is.ids) ≡ length is.ids = length-map is.ids (loaded o) in
    let rows_many : length (map by_nobody is.ids) ≡ length is.ids = length-map is.ids by_nobody in
    let last_is : last h ≡ k.content store = opening_repository o is.ids in
    let stands : StandsFor k store (record { log = map by_nobody is.ids; doubt = None }) h = record {
      legal = record { ids = is.ids; later = []; members = sym (nothing_more (map (loaded o) is.ids)); count = refl; log = is.log; follow = tt };
      log = sym (their_rows o is.ids);
      is_log = λ r e. subst (λ (ids : List (List ℕ)). IsLogOf r ids) (sym (their_ids is.ids)) (is.log r (sym last_is ∙ e));
      held = record { held = λ r e. last_is ∙ e; counted = (let c = opening_faults o is.ids in omega (arith, c)); stop = stop };
    } in (
      h,
      record {
        all_loaded = sym many;
        many = many ∙ sym rows_many ∙ ap (λ (d : Desk). length d.log) (sym is.is);
        nobody = All-from_recursion _ (map (loaded o) is.ids) (of_nobody o is.ids);
        stands = subst (λ (d : Desk). StandsFor k store d h) (sym is.is) stands;
      },
    )
