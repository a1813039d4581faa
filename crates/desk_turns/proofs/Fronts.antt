-- The fronts of a legal history.
use Rattle.std.proofs.Common.{◌≡◌, ℕ, ◌≤◌, List, [], ◌∷◌, ◌++◌, length, map, refl, sym, ap, subst, ◌∙◌, append_assoc, arith}
use Rattle.std.proofs.lemmas.List.{length-map}
use Rattle.desk_turns.specs.Histories.{Begins, History, Member, Opening, count}
use Rattle.desk_turns.specs.Legal.{FollowFrom, IsLegal, LegalFronts, loaded}

-- a front that is no shorter than another of the same list goes on from it
pub record GoesOn (first front later rest : List Member) : Type 0 where
  pub more : List Member
  pub front_is : front ≡ first ++ more
  pub later_is : later ≡ more ++ rest

tail_same : (x y : Member) (xs ys : List Member) → x ∷ xs ≡ y ∷ ys → xs ≡ ys
tail_same x y xs ys e = cc e

head_same : (x y : Member) (xs ys : List Member) → x ∷ xs ≡ y ∷ ys → x ≡ y
head_same x y xs ys e = cc e

goes_on : (first front later rest : List Member) → first ++ later ≡ front ++ rest → length first ≤ length front → GoesOn first front later rest
goes_on [] front later rest e le = record { more = front; front_is = refl; later_is = e }
goes_on (x ∷ first) [] later rest e le = absurd (omega (arith, le))
goes_on (x ∷ first) (y ∷ front) later rest e le =
    let on = goes_on first front later rest (tail_same x y (first ++ later) (front ++ rest) e) (omega (arith, le)) in
    let same : y ≡ x = sym (head_same x y (first ++ later) (front ++ rest) e) in
    record { more = on.more; front_is = (λ i. same i ∷ on.front_is i); later_is = on.later_is }

follow_front : (o : Opening) (front ms rest : List Member) → FollowFrom o front (ms ++ rest) → FollowFrom o front ms
follow_front o front [] rest all = tt
follow_front o front (m ∷ ms) rest all = (all.0, follow_front o (front ++ m ∷ []) ms rest all.1)

members_of : (whole front : History) (begins : Begins front whole) → whole.members ≡ front.members ++ begins.rest
members_of whole front begins = ap (λ (h : History). h.members) begins.is

pub legal_fronts : LegalFronts
legal_fronts whole front legal begins enough =
    let opening : whole.opening ≡ front.opening = ap (λ (h : History). h.opening) begins.is in
    let first : List Member = map (loaded whole.opening) legal.ids in
    let many : length first ≡ length legal.ids = length-map legal.ids (loaded whole.opening) in
    let counted = legal.count in
    let on = goes_on first front.members legal.later begins.rest (sym legal.members ∙ members_of whole front begins) (omega (arith, many, counted, enough)) in
    let here : IsLegal (record { opening = whole.opening; members = front.members }) = record {
      ids = legal.ids;
      later = on.more;
      members = on.front_is;
      count = legal.count;
      log = legal.log;
      follow = follow_front whole.opening first on.more begins.rest (subst (FollowFrom whole.opening first) on.later_is legal.follow);
    } in
    subst (λ (o : Opening). IsLegal (record { opening = o; members = front.members })) opening here
