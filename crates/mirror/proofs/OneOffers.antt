-- An offer is answered in one way, and makes one repository.
use Rattle.std.proofs.Common.{◌≡◌, ◌≢◌, ◌+◌, ◌++◌, ℕ, suc, Bool, true, false, List, [], ◌∷◌, length, refl, sym, ap, subst, ◌∙◌, arith}
use Rattle.std.specs.Prelude.{if◌then◌else◌}
use Rattle.std.specs.FinMap.{get, same_map}
use Rattle.std.specs.Str.{bytes_eq}
use Rattle.std.proofs.lemmas.Bool.{false≢true}
use Rattle.std.proofs.lemmas.Cmp.{nat_list_cmp_total}
use Rattle.std.proofs.lemmas.Slice.Eq.{bytes_eq-Decides}
use Rattle.octets.specs.BytesMap.{BytesMap}
use Rattle.git_object.specs.Names.{log_name}
use Rattle.git_object.specs.Repository.{Repository}
use Rattle.keeper_api.proofs.Trees.{exact_bytes}
use Rattle.rsl_chain.specs.Chain.{OneLog}
use Rattle.rsl_chain.specs.Logs.{heads_of}
use Rattle.mirror.specs.Laws.{OneMaking, OneOffering}
use Rattle.mirror.specs.Mirrors.{Compares, IsAfter}
use Rattle.mirror.specs.Offering.{IsOffering}
use Rattle.mirror.specs.declared.offers.Offer.{Offer}
use Rattle.mirror.specs.declared.offers.Offer.TheVariants.{Taken, Same, Behind, Forked}

abbrev Names : Type 0
Names = List (List ℕ)

-- ---- one answer

-- the answer, by a walk along both from this number on; a and b entries there are in all
abbrev walk : ℕ → ℕ → ℕ → Names → Names → Offer
walk a b n [] [] = Same a
walk a b n [] (y ∷ ys) = Taken a b
walk a b n (x ∷ xs) [] = Behind a b
walk a b n (x ∷ xs) (y ∷ ys) = if bytes_eq x y then walk a b (suc n) xs ys else Forked n x y

here : (x : List ℕ) → bytes_eq x x ≡ true
here x = (bytes_eq-Decides x x).1 refl

there : (x y : List ℕ) → x ≢ y → bytes_eq x y ≡ false
there x y differ = by_test (bytes_eq x y) refl where
  by_test : (b : Bool) → bytes_eq x y ≡ b → b ≡ false
  by_test true is = absurd (differ ((bytes_eq-Decides x y).0 is))
  by_test false is = refl

module _ (a b : ℕ) where
  walks_same : (n : ℕ) (xs : Names) → walk a b n xs xs ≡ Same a
  walks_same n [] = refl
  walks_same n (x ∷ xs) = ap (λ (t : Bool). if t then walk a b (suc n) xs xs else Forked n x x) (here x) ∙ walks_same (suc n) xs

  walks_on : (n : ℕ) (xs : Names) (y : List ℕ) (rest : Names) → walk a b n xs (xs ++ y ∷ rest) ≡ Taken a b
  walks_on n [] y rest = refl
  walks_on n (x ∷ xs) y rest = ap (λ (t : Bool). if t then walk a b (suc n) xs (xs ++ y ∷ rest) else Forked n x x) (here x) ∙ walks_on (suc n) xs y rest

  walks_short : (n : ℕ) (ys : Names) (x : List ℕ) (rest : Names) → walk a b n (ys ++ x ∷ rest) ys ≡ Behind a b
  walks_short n [] x rest = refl
  walks_short n (y ∷ ys) x rest = ap (λ (t : Bool). if t then walk a b (suc n) (ys ++ x ∷ rest) ys else Forked n y y) (here y) ∙ walks_short (suc n) ys x rest

  walks_apart : (n : ℕ) (front : Names) (x y : List ℕ) (xs ys : Names) → x ≢ y → walk a b n (front ++ x ∷ xs) (front ++ y ∷ ys) ≡ Forked (length front + n) x y
  walks_apart n [] x y xs ys differ =
      ap (λ (t : Bool). if t then walk a b (suc n) xs ys else Forked n x y) (there x y differ)
      ∙ ap (λ (m : ℕ). Forked m x y) (let e : n ≡ length {A = List ℕ} [] + n = omega arith in e)
  walks_apart n (f ∷ front) x y xs ys differ =
      ap (λ (t : Bool). if t then walk a b (suc n) (front ++ x ∷ xs) (front ++ y ∷ ys) else Forked n f f) (here f)
      ∙ walks_apart (suc n) front x y xs ys differ
      ∙ ap (λ (m : ℕ). Forked m x y) (let e : length front + suc n ≡ length (f ∷ front) + n = omega arith in e)

walked : (kept offered : Names) (offer : Offer) → IsOffering kept offered offer → offer ≡ walk (length kept) (length offered) 1 kept offered
walked kept offered (Same count) is =
    ap (λ (n : ℕ). Same n) is.0 ∙ sym (walks_same (length kept) (length offered) 1 kept) ∙ ap (walk (length kept) (length offered) 1 kept) (sym is.1)
walked kept offered (Taken from to) is =
    (λ i. Taken (is.0 i) (is.1 i)) ∙ sym (walks_on (length kept) (length offered) 1 kept is.2.next is.2.rest) ∙ ap (walk (length kept) (length offered) 1 kept) (sym is.2.whole)
walked kept offered (Behind ours theirs) is =
    (λ i. Behind (is.0 i) (is.1 i)) ∙ sym (walks_short (length kept) (length offered) 1 offered is.2.next is.2.rest)
    ∙ ap (λ (ids : Names). walk (length kept) (length offered) 1 ids offered) (sym is.2.whole)
walked kept offered (Forked number x y) is =
    ap (λ (n : ℕ). Forked n x y) is.counts
    ∙ sym (walks_apart (length kept) (length offered) 1 is.front x y is.kept_rest is.offered_rest is.differ)
    ∙ (λ i. walk (length kept) (length offered) 1 (sym is.in_kept i) (sym is.in_offered i))

pub one_answer : (kept offered : Names) (a b : Offer) → IsOffering kept offered a → IsOffering kept offered b → a ≡ b
one_answer kept offered a b first second = walked kept offered a first ∙ sym (walked kept offered b second)

-- ---- some answer

longer : (x : List ℕ) (kept offered : Names) (offer : Offer) → IsOffering kept offered offer → (o : Offer) × IsOffering (x ∷ kept) (x ∷ offered) o
longer x kept offered (Same count) is = (Same (length (x ∷ kept)), (refl, ap (λ (ids : Names). x ∷ ids) is.1))
longer x kept offered (Taken from to) is = (
  Taken (length (x ∷ kept)) (length (x ∷ offered)),
  (refl, refl, record { next = is.2.next; rest = is.2.rest; whole = ap (λ (ids : Names). x ∷ ids) is.2.whole }),
)
longer x kept offered (Behind ours theirs) is = (
  Behind (length (x ∷ kept)) (length (x ∷ offered)),
  (refl, refl, record { next = is.2.next; rest = is.2.rest; whole = ap (λ (ids : Names). x ∷ ids) is.2.whole }),
)
longer x kept offered (Forked number ours theirs) is = (
  Forked (number + 1) ours theirs,
  record {
    front = x ∷ is.front;
    kept_rest = is.kept_rest;
    offered_rest = is.offered_rest;
    in_kept = ap (λ (ids : Names). x ∷ ids) is.in_kept;
    in_offered = ap (λ (ids : Names). x ∷ ids) is.in_offered;
    counts = let e = is.counts in omega arith;
    differ = is.differ;
  },
)

pub some_answer : (kept offered : Names) → (offer : Offer) × IsOffering kept offered offer
some_answer [] [] = (Same 0, (refl, refl))
some_answer [] (y ∷ ys) = (Taken 0 (length (y ∷ ys)), (refl, refl, record { next = y; rest = ys; whole = refl }))
some_answer (x ∷ xs) [] = (Behind (length (x ∷ xs)) 0, (refl, refl, record { next = x; rest = xs; whole = refl }))
some_answer (x ∷ xs) (y ∷ ys) = by_test (bytes_eq x y) refl (some_answer xs ys) where
  by_test : (b : Bool) → bytes_eq x y ≡ b → ((offer : Offer) × IsOffering xs ys offer) → (offer : Offer) × IsOffering (x ∷ xs) (y ∷ ys) offer
  by_test true is later =
      subst (λ (z : List ℕ). (offer : Offer) × IsOffering (x ∷ xs) (z ∷ ys) offer) ((bytes_eq-Decides x y).0 is) (longer x xs ys later.0 later.1)
  by_test false is later = (
    Forked 1 x y,
    record {
      front = [];
      kept_rest = xs;
      offered_rest = ys;
      in_kept = refl;
      in_offered = refl;
      counts = refl;
      differ = λ same. false≢true (sym is ∙ (bytes_eq-Decides x y).1 same);
    },
  )

pub one_offering : OneOffering
one_offering = record { one = one_answer; some = some_answer }

-- ---- one repository

same_maps : {X : Type 0} (m n : BytesMap X) → ((q : List ℕ) → get m q ≡ get n q) → m ≡ n
same_maps m n same = same_map nat_list_cmp_total exact_bytes m n same

same_repository : (r s : Repository) → r.objects ≡ s.objects → r.refs ≡ s.refs → r ≡ s
same_repository r s objects refs = λ i. record { objects = objects i; refs = refs i }

one_after : (offered kept now then_ : Repository) (offer : Offer) → IsAfter offered offer kept now → IsAfter offered offer kept then_ → now ≡ then_
one_after offered kept now then_ (Same count) a b = a ∙ sym b
one_after offered kept now then_ (Behind ours theirs) a b = a ∙ sym b
one_after offered kept now then_ (Taken from to) a b =
    same_repository now then_ (same_maps now.objects then_.objects (λ id. a.objects id ∙ sym (b.objects id)))
    (same_maps now.refs then_.refs (λ name. a.refs name ∙ sym (b.refs name)))
one_after offered kept now then_ (Forked number x y) a b =
    same_repository now then_ (same_maps now.objects then_.objects (λ id. a.objects id ∙ sym (b.objects id)))
    (same_maps now.refs then_.refs (λ name. a.refs name ∙ sym (b.refs name)))

pub one_compared : OneLog → (kept offered : Repository) (a b : Offer) → Compares kept offered a → Compares kept offered b → a ≡ b
one_compared one kept offered a b first second =
    let ours : first.kept_ids ≡ second.kept_ids = one (heads_of kept) (get kept.refs log_name) first.kept_ids second.kept_ids first.kept_log second.kept_log in
    let theirs : first.offered_ids ≡ second.offered_ids =
    one (heads_of offered) (get offered.refs log_name) first.offered_ids second.offered_ids first.offered_log second.offered_log in
    one_answer second.kept_ids second.offered_ids a b
    (subst (λ (ids : Names). IsOffering ids second.offered_ids a) ours (subst (λ (ids : Names). IsOffering first.kept_ids ids a) theirs first.is)) second.is

pub one_making : OneLog → OneMaking
one_making one = record {
  answer = one_compared one;
  made = λ kept offered now also a b first second.
      let same = one_compared one kept offered a b first.compares second.compares in
      one_after offered kept now also b (subst (λ (o : Offer). IsAfter offered o kept now) same first.after) second.after;
}
