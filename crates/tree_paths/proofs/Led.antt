-- Where a walk counts, its map has at a path exactly the value to which trees lead.
use Rattle.std.proofs.Common.{◌≡◌, ℕ, zero, suc, ◌==◌, Bool, true, false, cond, List, [], ◌∷◌, ◌++◌, length, Option, Some, None, refl, sym, ap, subst, ◌∙◌, append_assoc, ◌⊎◌, inl, inr}
use Rattle.std.specs.FinMap.{find, get, get-from_entries}
use Rattle.std.specs.List.{AllByRecursion}
use Rattle.std.specs.Ordering.{is_eq}
use Rattle.std.specs.declared.cmp.Ordering.{Ordering}
use Rattle.std.specs.declared.cmp.Ordering.TheVariants.{Less, Equal, Greater}
use Rattle.std.proofs.lemmas.Cmp.{nat_list_cmp_total}
use Rattle.std.proofs.lemmas.List.{append-nil}
use Rattle.std.proofs.lemmas.Option.{same_Some}
use Rattle.octets.specs.BytesMap.{by_bytes}
use Rattle.git_object.specs.Modes.{key_end}
use Rattle.git_object.specs.Trees.{AreWellFormed, sort_key}
use Rattle.git_object.specs.declared.modes.Mode.{Mode}
use Rattle.git_object.specs.declared.trees.TreeEntry.{TreeEntry}
use Rattle.keeper_api.proofs.Trees.{exact_bytes}
use Rattle.tree_paths.specs.Leading.{Among, IsMapOfTrees, Leads, Names, join}
use Rattle.tree_paths.specs.Pairings.{place}
use Rattle.tree_paths.specs.Readings.{Trees}
use Rattle.tree_paths.specs.States.{path_map, path_values}
use Rattle.tree_paths.specs.Walks.{Leaf, Step, Visit, below, entry_steps, goes_on, has_room, is_dir, is_open, judge, listed, no_counts, one_dir, one_path, place_of, steps}
use Rattle.tree_paths.specs.declared.counts.Counts.{Counts}
use Rattle.tree_paths.specs.declared.counts.Walked.TheVariants.{Broken, Counted}
use Rattle.tree_paths.proofs.Differing.{Rising, at_here, at_later, less_other}
use Rattle.tree_paths.proofs.Judging.{piece_of, steps_suc, steps_zero}
use Rattle.tree_paths.proofs.Order.{dir_end, plain_end}
use Rattle.tree_paths.proofs.Rising.{steps_rise}

-- ---- among steps

in_front : {X : Type 0} (x : X) (xs ys : List X) → Among x xs → Among x (xs ++ ys)
in_front x [] ys among = absurd among
in_front x (y ∷ xs) ys (inl same) = inl same
in_front x (y ∷ xs) ys (inr later) = inr (in_front x xs ys later)

in_back : {X : Type 0} (x : X) (xs ys : List X) → Among x ys → Among x (xs ++ ys)
in_back x [] ys among = among
in_back x (y ∷ xs) ys among = inr (in_back x xs ys among)

in_parts : {X : Type 0} (x : X) (xs ys : List X) → Among x (xs ++ ys) → Among x xs ⊎ Among x ys
in_parts x [] ys among = inr among
in_parts x (y ∷ xs) ys (inl same) = inl (inl same)
in_parts x (y ∷ xs) ys (inr later) = elim (in_parts x xs ys later) [ inl here ↦ inl (inr here) | inr more ↦ inr more ]

pub record InEntry (into : List ℕ → List ℕ → List Step) (holder front : List ℕ) (es : List TreeEntry) (s : Step) : Type 0 where
  pub entry : TreeEntry
  pub has : Among entry es
  pub there : Among s (piece_of into holder front entry)

in_below : (into : List ℕ → List ℕ → List Step) (holder front : List ℕ) (es : List TreeEntry) (s : Step) → Among s (below into holder front es) → InEntry into holder front es s
in_below into holder front [] s among = absurd among
in_below into holder front (e ∷ es) s among = elim (in_parts s (piece_of into holder front e) (below into holder front es) among) [
  | inl here ↦ record { entry = e; has = inl refl; there = here }
  | inr later ↦ (let rest = in_below into holder front es s later in record { entry = rest.entry; has = inr rest.has; there = rest.there })
]

below_in : (into : List ℕ → List ℕ → List Step) (holder front : List ℕ) (es : List TreeEntry) (e : TreeEntry) (s : Step) → Among e es → Among s (piece_of into holder front e)
    → Among s (below into holder front es)
below_in into holder front [] e s has there = absurd has
below_in into holder front (f ∷ es) e s (inl same) there =
    in_front s (piece_of into holder front f) (below into holder front es) (subst (λ (g : TreeEntry). Among s (piece_of into holder front g)) (sym same) there)
below_in into holder front (f ∷ es) e s (inr later) there = in_back s (piece_of into holder front f) (below into holder front es) (below_in into holder front es e s later there)

-- ---- a path of a walk is led to

pub record LedTo (trees : Trees) (front tree path : List ℕ) (mode : Mode) (id : List ℕ) : Type 0 where
  pub names : List (List ℕ)
  pub path_is : path ≡ front ++ join names
  pub leads : Leads trees names tree mode id

deeper : (trees : Trees) (name : List ℕ) (names : List (List ℕ)) (tree : List ℕ) (e : TreeEntry) (mode : Mode) (id : List ℕ) → Names (listed (trees tree)) name e true → Leads trees names e.id mode id
    → (join (name ∷ names) ≡ name ++ 47 ∷ join names) × Leads trees (name ∷ names) tree mode id
deeper trees name [] tree e mode id here leads = absurd leads
deeper trees name (next ∷ names) tree e mode id here leads = (refl, (e, here, leads))

led_to : (trees : Trees) (n : ℕ) (front tree holder path : List ℕ) (mode : Mode) (id : List ℕ) → Among (Leaf holder path mode id) (steps trees n front tree) → LedTo trees front tree path mode id
led_to trees zero front tree holder path mode id among =
    elim (subst (Among (Leaf holder path mode id)) (steps_zero trees front tree) among) [ inl clash ↦ cc | inr none ↦ absurd none ]
led_to trees (suc n) front tree holder path mode id among =
    elim (subst (Among (Leaf holder path mode id)) (steps_suc trees n front tree) among) [
      | inl clash ↦ cc
      | inr later ↦ (let found = in_below (steps trees n) tree front (listed (trees tree)) (Leaf holder path mode id) later in
          by_kind found.entry found.has (is_dir found.entry.mode) refl found.there (led_to trees n (place_of front found.entry) found.entry.id holder path mode id))
    ]
  where
    by_kind : (e : TreeEntry) → Among e (listed (trees tree)) → (b : Bool) → is_dir e.mode ≡ b → Among (Leaf holder path mode id) (entry_steps (steps trees n) tree front e b)
        → (Among (Leaf holder path mode id) (steps trees n (place_of front e) e.id) → LedTo trees (place_of front e) e.id path mode id) → LedTo trees front tree path mode id
    by_kind e has true kind there next =
        let rest = next there in
        let here : Names (listed (trees tree)) e.name e true = record { has = has; name_is = refl; kind = kind } in
        let more = deeper trees e.name rest.names tree e mode id here rest.leads in
        record {
          names = e.name ∷ rest.names;
          path_is = rest.path_is ∙ append_assoc front (sort_key e) (join rest.names)
              ∙ ap (λ (x : List ℕ). front ++ x) (append_assoc e.name (key_end e.mode) (join rest.names) ∙ ap (λ (k : List ℕ). e.name ++ (k ++ join rest.names)) (dir_end e.mode kind) ∙ sym more.0);
          leads = more.1;
        }
    by_kind e has false kind (inl same) next =
        let at : place_of front e ≡ path = cc in
        let mode_is : e.mode ≡ mode = cc in
        let id_is : e.id ≡ id = cc in
        record {
          names = e.name ∷ [];
          path_is = sym at ∙ ap (λ (k : List ℕ). front ++ (e.name ++ k)) (plain_end e.mode kind) ∙ ap (λ (k : List ℕ). front ++ k) (append-nil e.name);
          leads = (e, record { has = has; name_is = refl; kind = kind }, mode_is, id_is);
        }
    by_kind e has false kind (inr none) next = absurd none

-- ---- what is led to is a path of the walk, or the walk is too deep

pub record HasLeaf (ss : List Step) (path : List ℕ) (mode : Mode) (id : List ℕ) : Type 0 where
  pub holder : List ℕ
  pub there : Among (Leaf holder path mode id) ss

pub record IsDeep (ss : List Step) : Type 0 where
  pub front : List ℕ
  pub id : List ℕ
  pub there : Among (Visit 0 front id) ss

led_there : (trees : Trees) (n : ℕ) (front tree : List ℕ) (names : List (List ℕ)) (mode : Mode) (id : List ℕ) → Leads trees names tree mode id
    → HasLeaf (steps trees n front tree) (front ++ join names) mode id ⊎ IsDeep (steps trees n front tree)
led_there trees n front tree [] mode id leads = absurd leads
led_there trees zero front tree (name ∷ names) mode id leads =
    inr (record { front = front; id = tree; there = subst (Among (Visit 0 front tree)) (sym (steps_zero trees front tree)) (inl refl) })
led_there trees (suc n) front tree (name ∷ []) mode id (e, here, mode_is, id_is) =
    let place_is : place_of front e ≡ front ++ name = ap (λ (k : List ℕ). front ++ (e.name ++ k)) (plain_end e.mode here.kind) ∙ ap (λ (k : List ℕ). front ++ k) (append-nil e.name ∙ here.name_is) in
    let step : Leaf tree (place_of front e) e.mode e.id ≡ Leaf tree (front ++ name) mode id = (λ i. Leaf tree (place_is i) (mode_is i) (id_is i)) in
    let among : Among (Leaf tree (front ++ name) mode id) (piece_of (steps trees n) tree front e) = subst (λ (b : Bool). Among (Leaf tree (front ++ name) mode id) (entry_steps (steps trees n) tree front e b)) (sym here.kind) (inl step) in
    inl (record {
      holder = tree;
      there = subst (Among (Leaf tree (front ++ name) mode id)) (sym (steps_suc trees n front tree))
          (inr (below_in (steps trees n) tree front (listed (trees tree)) e (Leaf tree (front ++ name) mode id) here.has among));
    })
led_there trees (suc n) front tree (name ∷ next ∷ names) mode id (e, here, leads) =
    let lift : (s : Step) → Among s (steps trees n (place_of front e) e.id) → Among s (steps trees (suc n) front tree) =
    λ s among. subst (Among s) (sym (steps_suc trees n front tree)) (inr (below_in (steps trees n) tree front (listed (trees tree)) e s here.has
    (subst (λ (b : Bool). Among s (entry_steps (steps trees n) tree front e b)) (sym here.kind) among))) in
    let path_is : place_of front e ++ join (next ∷ names) ≡ front ++ (name ++ 47 ∷ join (next ∷ names)) =
    append_assoc front (sort_key e) (join (next ∷ names))
    ∙ ap (λ (x : List ℕ). front ++ x) (append_assoc e.name (key_end e.mode) (join (next ∷ names)) ∙ (λ i. here.name_is i ++ (dir_end e.mode here.kind i ++ join (next ∷ names)))) in
    elim (led_there trees n (place_of front e) e.id (next ∷ names) mode id leads) [
      | inl leaf ↦ inl (record { holder = leaf.holder; there = subst (λ (p : List ℕ). Among (Leaf leaf.holder p mode id) (steps trees (suc n) front tree)) path_is (lift (Leaf leaf.holder (place_of front e ++ join (next ∷ names)) mode id) leaf.there) })
      | inr deep ↦ inr (record { front = deep.front; id = deep.id; there = lift (Visit 0 deep.front deep.id) deep.there })
    ]

-- a walk that counts is not too deep
no_deep : (trees : Trees) (ss : List Step) (c d : Counts) (front id : List ℕ) → judge trees ss c ≡ Counted d → Among (Visit 0 front id) ss → ⊥
no_deep trees [] c d front id counted among = among
no_deep trees (x ∷ ss) c d front id counted (inl same) =
    by_tree (trees id) (subst (λ (s : Step). judge trees (s ∷ ss) c ≡ Counted d) same counted)
  where
    by_tree : (tree : Option (List TreeEntry)) → goes_on (cond (is_open 0 (length front == 0) tree) (Counted (one_dir c)) (Broken id)) (judge trees ss) ≡ Counted d → ⊥
    by_tree None e = cc
    by_tree (Some entries) e = cc
no_deep trees (Visit left place other ∷ ss) c d front id counted (inr later) =
    by_test (is_open left (length place == 0) (trees other)) counted (λ more. no_deep trees ss (one_dir c) d front id more later)
  where
    by_test : (b : Bool) → goes_on (cond b (Counted (one_dir c)) (Broken other)) (judge trees ss) ≡ Counted d → (judge trees ss (one_dir c) ≡ Counted d → ⊥) → ⊥
    by_test true e next = next e
    by_test false e next = cc
no_deep trees (Leaf holder path mode other ∷ ss) c d front id counted (inr later) =
    by_test (has_room c (length path)) counted (λ more. no_deep trees ss (one_path c (length path)) d front id more later)
  where
    by_test : (b : Bool) → goes_on (cond b (Counted (one_path c (length path))) (Broken holder)) (judge trees ss) ≡ Counted d → (judge trees ss (one_path c (length path)) ≡ Counted d → ⊥) → ⊥
    by_test true e next = next e
    by_test false e next = cc

-- ---- the map

found_in : (ss : List Step) (p : List ℕ) (mode : Mode) (id : List ℕ) → find by_bytes p (path_values ss) ≡ Some (mode, id) → HasLeaf ss p mode id
found_in [] p mode id found = cc
found_in (Visit left front tree ∷ ss) p mode id found = let rest = found_in ss p mode id found in record { holder = rest.holder; there = inr rest.there }
found_in (Leaf holder path m i ∷ ss) p mode id found = by_order (by_bytes p path) refl found (found_in ss p mode id)
  where
    later : HasLeaf ss p mode id → HasLeaf (Leaf holder path m i ∷ ss) p mode id
    later rest = record { holder = rest.holder; there = inr rest.there }

    by_order : (o : Ordering) → by_bytes p path ≡ o → cond (is_eq o) (Some (m, i)) (find by_bytes p (path_values ss)) ≡ Some (mode, id)
        → (find by_bytes p (path_values ss) ≡ Some (mode, id) → HasLeaf ss p mode id) → HasLeaf (Leaf holder path m i ∷ ss) p mode id
    by_order Less e is next = later (next is)
    by_order Equal e is next =
        let pair : (m, i) ≡ (mode, id) = same_Some (m, i) (mode, id) is in
        let at = exact_bytes p path e in
        record { holder = holder; there = inl (λ j. Leaf holder (sym at j) ((pair j).0) ((pair j).1)) }
    by_order Greater e is next = later (next is)

after_leaf : (x : Step) (ss : List Step) (s : Step) → AllByRecursion (λ y. by_bytes (place x) (place y) ≡ Less) ss → Among s ss → by_bytes (place x) (place s) ≡ Less
after_leaf x [] s all among = absurd among
after_leaf x (y ∷ ss) s all (inl same) = subst (λ (z : Step). by_bytes (place x) (place z) ≡ Less) same all.0
after_leaf x (y ∷ ss) s all (inr later) = after_leaf x ss s all.1 later

in_found : (ss : List Step) (holder p : List ℕ) (mode : Mode) (id : List ℕ) → Rising ss → Among (Leaf holder p mode id) ss → find by_bytes p (path_values ss) ≡ Some (mode, id)
in_found [] holder p mode id rising among = absurd among
in_found (x ∷ ss) holder p mode id rising (inl same) =
    subst (λ (s : Step). find by_bytes p (path_values (s ∷ ss)) ≡ Some (mode, id)) (sym same)
    (at_here (Leaf holder p mode id) ss p (subst (λ (s : Step). AllByRecursion (λ y. by_bytes (place s) (place y) ≡ Less) ss) same rising.0) refl)
in_found (x ∷ ss) holder p mode id rising (inr later) =
    let less = after_leaf x ss (Leaf holder p mode id) rising.0 later in
    at_later x ss p (λ same. less_other (place x) p less (sym same)) ∙ in_found ss holder p mode id rising.1 later

pub map_of_trees : (trees : Trees) → ((id : List ℕ) → AreWellFormed (listed (trees id))) → (root : List ℕ) → IsMapOfTrees trees root
map_of_trees trees formed root c path mode id counted =
    let ss = steps trees 32 [] root in
    let got : get (path_map ss) path ≡ find by_bytes path (path_values ss) = get-from_entries nat_list_cmp_total (path_values ss) path in (
      (λ is. let leaf = found_in ss path mode id (sym got ∙ is) in let led = led_to trees 32 [] root leaf.holder path mode id leaf.there in (led.names, led.path_is, led.leads)),
      (λ led. elim (led_there trees 32 [] root led.0 mode id led.2) [
        | inl leaf ↦ got ∙ in_found ss leaf.holder path mode id (steps_rise trees formed 32 [] root) (subst (λ (p : List ℕ). Among (Leaf leaf.holder p mode id) ss) (sym led.1) leaf.there)
        | inr deep ↦ absurd (no_deep trees ss no_counts c deep.front deep.id counted deep.there)
      ]),
    )
