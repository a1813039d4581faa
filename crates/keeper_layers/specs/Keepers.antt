-- What a store of one of two kinds tells.
use Rattle.std.specs.Prelude.{◌≡◌, ℕ, Bool, true, Option, Some}
use Rattle.git_object.specs.Repository.{Repository}
use Rattle.keeper_api.specs.Keepers.{TellsOn}
use Rattle.keeper_layers.specs.declared.either_keeper.EitherKeeper.{EitherKeeper}
use Rattle.keeper_layers.specs.declared.either_keeper.EitherKeeper.TheVariants.{First, Second}

-- what the store that it is tells
abbrev pub by_kind : {A B T : Type 0} → (A → T) → (B → T) → EitherKeeper A B → T
by_kind first second (First a) = first a
by_kind first second (Second b) = second b

-- what a stop may leave of the store that it is
abbrev pub left_by_kind : {A B : Type 0} → (A → Repository → Type 0) → (B → Repository → Type 0) → EitherKeeper A B
    → Repository → Type 0
left_by_kind first second (First a) = first a
left_by_kind first second (Second b) = second b

-- both are of one kind, and the second comes of the first
abbrev pub both_come : {A B : Type 0} → (A → A → Type 0) → (B → B → Type 0) → EitherKeeper A B → EitherKeeper A B
    → Type 0
both_come first second (First a) (First now) = first a now
both_come first second (First a) (Second now) = ⊥
both_come first second (Second b) (First now) = ⊥
both_come first second (Second b) (Second now) = second b now

-- where a store tells what a stop may leave, what it holds may be left
abbrev pub HoldsWhatIsLeft : {S : Type 0} → (S → Bool) → (S → Option Repository) → (S → Repository → Type 0) → Type 0
HoldsWhatIsLeft tells content left = (store : _) (r : Repository) → tells store ≡ true → content store ≡ Some r
    → left store r

-- what comes of a store tells on
abbrev pub GoesOnTelling : {S : Type 0} → (S → S → Type 0) → (S → Option Repository) → (S → Bool) → (S → Bool)
    → (S → ℕ) → Type 0
GoesOnTelling comes content tells clean faults = (was now : _) → comes was now
    → TellsOn (content was) (content now) (tells was) (tells now) (clean was) (clean now) (faults was) (faults now)

pub left_of_kind : {A B : Type 0} (tells : A → Bool) (content : A → Option Repository) (left : A → Repository → Type 0)
    (other_tells : B → Bool) (other_content : B → Option Repository) (other_left : B → Repository → Type 0)
    → HoldsWhatIsLeft tells content left → HoldsWhatIsLeft other_tells other_content other_left
    → HoldsWhatIsLeft (by_kind tells other_tells) (by_kind content other_content) (left_by_kind left other_left)
left_of_kind t h l ot oh ol has other (First a) r told held = has a r told held
left_of_kind t h l ot oh ol has other (Second b) r told held = other b r told held

pub comes_of_itself : {A B : Type 0} (comes : A → A → Type 0) (other_comes : B → B → Type 0) → ((a : A) → comes a a)
    → ((b : B) → other_comes b b) → (store : EitherKeeper A B) → both_come comes other_comes store store
comes_of_itself comes other_comes itself other (First a) = itself a
comes_of_itself comes other_comes itself other (Second b) = other b

pub tells_of_kind : {A B : Type 0} (comes : A → A → Type 0) (content : A → Option Repository) (tells clean : A → Bool)
    (faults : A → ℕ) (other_comes : B → B → Type 0) (other_content : B → Option Repository)
    (other_tells other_clean : B → Bool) (other_faults : B → ℕ)
    → GoesOnTelling comes content tells clean faults
    → GoesOnTelling other_comes other_content other_tells other_clean other_faults
    → GoesOnTelling (both_come comes other_comes) (by_kind content other_content) (by_kind tells other_tells)
    (by_kind clean other_clean) (by_kind faults other_faults)
tells_of_kind c h t k f oc oh ot ok of on other (First a) (First now) came = on a now came
tells_of_kind c h t k f oc oh ot ok of on other (First a) (Second now) came = elim came [ ]
tells_of_kind c h t k f oc oh ot ok of on other (Second b) (First now) came = elim came [ ]
tells_of_kind c h t k f oc oh ot ok of on other (Second b) (Second now) came = other b now came
