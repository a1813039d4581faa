-- What offers make of the kept log and of the references to other pasts.
use Rattle.std.proofs.Common.{◌≡◌, ◌++◌, ℕ, Bool, true, false, List, [], ◌∷◌, Option, Some, None, refl, sym, ap, subst, ◌∙◌}
use Rattle.std.specs.Prelude.{option_and_then, if◌then◌else◌}
use Rattle.std.specs.Option.{option_or}
use Rattle.std.specs.FinMap.{get}
use Rattle.std.specs.Str.{bytes_eq}
use Rattle.std.proofs.lemmas.Bool.{false≢true}
use Rattle.std.proofs.lemmas.List.{append_assoc, append-nil}
use Rattle.std.proofs.lemmas.Slice.Eq.{bytes_eq-Decides}
use Rattle.git_object.specs.Names.{log_name}
use Rattle.git_object.specs.Objects.{Pair}
use Rattle.git_object.specs.Repository.{Repository, if_own, object_at, own_pair}
use Rattle.keeper_api.specs.Growing.{Larger}
use Rattle.rsl_chain.specs.Chain.{OneLog, head_after}
use Rattle.rsl_chain.specs.Logs.{IsLogOf, head_of_pair, heads_of}
use Rattle.rsl_chain.specs.declared.heads.Head.{Head}
use Rattle.mirror.specs.Growing.{Grown, HasFork, KeepsForks, NoneClashes, OnlyGrows}
use Rattle.mirror.specs.Mirrors.{Forks, IsAfter, Makes, Takes, only_at}
use Rattle.mirror.specs.Names.{fork_name, is_own}
use Rattle.mirror.specs.Offering.{IsOffering, Part}
use Rattle.mirror.specs.declared.offers.Offer.{Offer}
use Rattle.mirror.specs.declared.offers.Offer.TheVariants.{Taken, Same, Behind, Forked}

abbrev Names : Type 0
Names = List (List ℕ)

-- ---- objects

if_same : (b : Bool) (p q : Pair) → if_own b p ≡ Some q → p ≡ q
if_same true p q e = let same : Some p ≡ Some q = e in cc
if_same false p q e = let bad : None ≡ Some q = e in cc

got_of : (r : Repository) (id : List ℕ) (p : Pair) → object_at r id ≡ Some p → get r.objects id ≡ Some p
got_of r id p e = by_got (get r.objects id) refl e where
  by_got : (x : Option Pair) → get r.objects id ≡ x → option_and_then (own_pair id) x ≡ Some p → get r.objects id ≡ Some p
  by_got None is e = let bad : None ≡ Some p = e in cc
  by_got (Some q) is e = is ∙ ap Some (if_same _ q p e)

own_of : (r : Repository) (id : List ℕ) (p : Pair) → object_at r id ≡ Some p → own_pair id p ≡ Some p
own_of r id p e = sym (ap (option_and_then (own_pair id)) (got_of r id p e)) ∙ e

-- objects are put over those of a repository
module _ (kept now : Repository) (added : List ℕ → Option Pair) (objects : (id : List ℕ) → get now.objects id ≡ option_or (added id) (get kept.objects id)) where
  -- where they clash with none, the repository is larger
  grows : ((id : List ℕ) (had new : Pair) → object_at kept id ≡ Some had → added id ≡ Some new → new ≡ had) → Larger kept now
  grows same id p e = by_added (added id) refl where
    by_added : (x : Option Pair) → added id ≡ x → object_at now id ≡ Some p
    by_added None is = ap (option_and_then (own_pair id)) (objects id ∙ ap (λ (y : Option Pair). option_or y (get kept.objects id)) is) ∙ e
    by_added (Some q) is =
        ap (option_and_then (own_pair id)) (objects id ∙ ap (λ (y : Option Pair). option_or y (get kept.objects id)) is)
        ∙ ap (own_pair id) (same id p q e is) ∙ own_of kept id p e

  -- and each of them is there
  brings : (id : List ℕ) (q : Pair) → added id ≡ Some q → own_pair id q ≡ Some q → object_at now id ≡ Some q
  brings id q is own = ap (option_and_then (own_pair id)) (objects id ∙ ap (λ (y : Option Pair). option_or y (get kept.objects id)) is) ∙ own

-- ---- logs

head_again : (few more : Option Pair) (head : Head) → ((pair : Pair) → few ≡ Some pair → more ≡ Some pair)
    → option_and_then (λ pair. head_of_pair pair.kind pair.body) few ≡ Some head → option_and_then (λ pair. head_of_pair pair.kind pair.body) more ≡ Some head
head_again None more head keeps is = let bad : None ≡ Some head = is in cc
head_again (Some pair) more head keeps is = ap (option_and_then (λ (p : Pair). head_of_pair p.kind p.body)) (keeps pair refl) ∙ is

log_kept : (small large : Repository) (ids : Names) → Larger small large → get large.refs log_name ≡ get small.refs log_name → IsLogOf small ids → IsLogOf large ids
log_kept small large ids larger same log = record {
  linked = λ front id rest is. head_again (object_at small id) (object_at large id) (head_after front) (larger id) (log.linked front id rest is);
  last = log.last ∙ sym same;
}

fork_kept : (small large : Repository) (ids more : Names) (name : List ℕ) → Larger small large → HasFork small ids name
    → ((number : ℕ) (id : List ℕ) → name ≡ fork_name number id → get large.refs name ≡ get small.refs name) → HasFork large (ids ++ more) name
fork_kept small large ids more name larger fork same = record {
  number = fork.number;
  id = fork.id;
  named = fork.named;
  stands = same fork.number fork.id fork.named ∙ fork.stands;
  head = fork.head;
  read = head_again (object_at small fork.id) (object_at large fork.id) fork.head (larger fork.id) fork.read;
  counts = fork.counts;
  front = fork.front;
  other = fork.other;
  rest = fork.rest ++ more;
  place = ap (λ (xs : Names). xs ++ more) fork.place ∙ append_assoc fork.front (fork.other ∷ fork.rest) more;
  at_number = fork.at_number;
  differs = fork.differs;
}

-- ---- names

fork_is_own : (number : ℕ) (id : List ℕ) → is_own (fork_name number id) ≡ true
fork_is_own number id = refl

log_is_none : (number : ℕ) (id : List ℕ) → bytes_eq log_name (fork_name number id) ≡ false
log_is_none number id = by_test (bytes_eq log_name (fork_name number id)) refl where
  by_test : (b : Bool) → bytes_eq log_name (fork_name number id) ≡ b → b ≡ false
  by_test false is = refl
  by_test true is =
      let same = (bytes_eq-Decides log_name (fork_name number id)).0 is in
      let other : is_own log_name ≡ false = refl in
      absurd (false≢true (sym other ∙ ap is_own same ∙ fork_is_own number id))

here : (y : List ℕ) → bytes_eq y y ≡ true
here y = (bytes_eq-Decides y y).1 refl

-- ---- one offer

module _ (kept offered now : Repository) (ids : Names) (kept_log : IsLogOf kept ids) (none_clash : NoneClashes kept offered) where
  unchanged : now ≡ kept → Grown kept ids now
  unchanged same = subst (λ (r : Repository). Grown kept ids r) (sym same) (record {
    now_ids = ids;
    is_log = kept_log;
    more = [];
    front = sym (append-nil ids);
    forks = λ name fork. fork;
  })

  module _ (takes : Takes offered kept now) where
    take_grows : Larger kept now
    take_grows = grows kept now (get offered.objects) takes.objects none_clash

    take_brings : Larger offered now
    take_brings id p e = brings kept now (get offered.objects) takes.objects id p (got_of offered id p e) (own_of offered id p e)

    taken : (offered_ids more : Names) → IsLogOf offered offered_ids → offered_ids ≡ ids ++ more → Grown kept ids now
    taken offered_ids more offered_log whole = record {
      now_ids = offered_ids;
      is_log = log_kept offered now offered_ids take_brings (takes.refs log_name) offered_log;
      more = more;
      front = whole;
      forks = λ name fork. subst (λ (l : Names). HasFork now l name) (sym whole)
          (fork_kept kept now ids more name take_grows fork (λ number id named.
          takes.refs name ∙ ap (λ (b : Bool). if b then get kept.refs name else get offered.refs name) (ap is_own named ∙ fork_is_own number id)));
    }

  module _ (number : ℕ) (x y : List ℕ) (forks : Forks offered number y kept now) where
    only_less : (id : List ℕ) (q : Pair) → only_at y offered id ≡ Some q → get offered.objects id ≡ Some q
    only_less id q e = by_test (bytes_eq id y) e where
      by_test : (b : Bool) → (if b then get offered.objects id else None) ≡ Some q → get offered.objects id ≡ Some q
      by_test true e = e
      by_test false e = let bad : None ≡ Some q = e in cc

    fork_grows : Larger kept now
    fork_grows = grows kept now (only_at y offered) forks.objects (λ id had new a b. none_clash id had new a (only_less id new b))

    fork_brings : (p : Pair) → object_at offered y ≡ Some p → object_at now y ≡ Some p
    fork_brings p e =
        brings kept now (only_at y offered) forks.objects y p
        (ap (λ (b : Bool). if b then get offered.objects y else None) (here y) ∙ got_of offered y p e) (own_of offered y p e)

    has_fork : (offered_ids : Names) → IsLogOf offered offered_ids → Part ids offered_ids number x y → HasFork now ids (fork_name number y)
    has_fork offered_ids offered_log part = record {
      number = number;
      id = y;
      named = refl;
      stands = forks.refs (fork_name number y) ∙ ap (λ (b : Bool). if b then Some y else get kept.refs (fork_name number y)) (here (fork_name number y));
      head = head_after part.front;
      read = head_again (object_at offered y) (object_at now y) (head_after part.front) fork_brings
          (offered_log.linked part.front y part.offered_rest part.in_offered);
      counts = sym part.counts;
      front = part.front;
      other = x;
      rest = part.kept_rest;
      place = part.in_kept;
      at_number = sym part.counts;
      differs = part.differ;
    }

    -- a reference to another past stays, or becomes that of the offer, which is one of the same name
    forked : (offered_ids : Names) → IsLogOf offered offered_ids → Part ids offered_ids number x y → Grown kept ids now
    forked offered_ids offered_log part = record {
      now_ids = ids;
      is_log = log_kept kept now ids fork_grows
          (forks.refs log_name ∙ ap (λ (b : Bool). if b then Some y else get kept.refs log_name) (log_is_none number y)) kept_log;
      more = [];
      front = sym (append-nil ids);
      forks = λ name fork. by_name name fork (bytes_eq name (fork_name number y)) refl;
    }
      where
        by_name : (name : List ℕ) → HasFork kept ids name → (b : Bool) → bytes_eq name (fork_name number y) ≡ b → HasFork now ids name
        by_name name fork true same =
            subst (λ (n : List ℕ). HasFork now ids n) (sym ((bytes_eq-Decides name (fork_name number y)).0 same)) (has_fork offered_ids offered_log part)
        by_name name fork false other =
            subst (λ (l : Names). HasFork now l name) (append-nil ids)
            (fork_kept kept now ids [] name fork_grows fork (λ m id named.
            forks.refs name ∙ ap (λ (b : Bool). if b then Some y else get kept.refs name) other))

  one_offer : (offer : Offer) (offered_ids : Names) → IsLogOf offered offered_ids → IsOffering ids offered_ids offer → IsAfter offered offer kept now → Grown kept ids now
  one_offer (Same count) offered_ids log is after = unchanged after
  one_offer (Behind ours theirs) offered_ids log is after = unchanged after
  one_offer (Taken from to) offered_ids log is after = taken after offered_ids (is.2.next ∷ is.2.rest) log is.2.whole
  one_offer (Forked number x y) offered_ids log is after = forked number x y after offered_ids log is

-- ---- all of them

pub all_offers : OneLog → OnlyGrows
all_offers one kept now ids [] log same = subst (λ (r : Repository). Grown kept ids r) (sym same) (record {
  now_ids = ids;
  is_log = log;
  more = [];
  front = sym (append-nil ids);
  forks = λ name fork. fork;
})
all_offers one kept now ids (offer ∷ offers) log run =
    let next = run.0 in
    let makes : Makes offer.0 offer.1 kept next = run.1 in
    let compares = makes.compares in
    let same : compares.kept_ids ≡ ids = one (heads_of kept) (get kept.refs log_name) compares.kept_ids ids compares.kept_log log in
    let is : IsOffering ids compares.offered_ids offer.1 = subst (λ (l : Names). IsOffering l compares.offered_ids offer.1) same compares.is in
    let first = one_offer kept offer.0 next ids log run.2 offer.1 compares.offered_ids compares.offered_log is makes.after in
    let rest = all_offers one next now first.now_ids offers first.is_log run.3 in
    record {
      now_ids = rest.now_ids;
      is_log = rest.is_log;
      more = first.more ++ rest.more;
      front = rest.front ∙ ap (λ (l : Names). l ++ rest.more) first.front ∙ append_assoc ids first.more rest.more;
      forks = λ name fork. rest.forks name (first.forks name fork);
    }

pub forks_kept : OneLog → KeepsForks
forks_kept one kept offered now ids number x y log makes none_clash =
    let compares = makes.compares in
    let same : compares.kept_ids ≡ ids = one (heads_of kept) (get kept.refs log_name) compares.kept_ids ids compares.kept_log log in
    has_fork kept offered now ids log none_clash number x y makes.after compares.offered_ids compares.offered_log
    (subst (λ (l : Names). Part l compares.offered_ids number x y) same compares.is)
