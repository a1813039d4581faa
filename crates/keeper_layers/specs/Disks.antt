-- What a disk of one of two kinds tells.
use Rattle.std.specs.Prelude.{◌≡◌, ◌≤◌, ℕ, List, Option, Some}
use Rattle.keeper_layers.specs.declared.either_disk.EitherDisk.{EitherDisk}
use Rattle.keeper_layers.specs.declared.either_disk.EitherDisk.TheVariants.{First, Second}

-- what the disk that it is tells
abbrev pub by_kind : {A B T : Type 0} → (A → T) → (B → T) → EitherDisk A B → T
by_kind first second (First a) = first a
by_kind first second (Second b) = second b

-- what a crash may leave of the disk that it is
abbrev pub may_by_kind : {A B : Type 0} → (A → List ℕ → Type 0) → (B → List ℕ → Type 0) → EitherDisk A B → List ℕ
    → Type 0
may_by_kind first second (First a) = first a
may_by_kind first second (Second b) = second b

-- what a crash since a moment might have left of the disk that it is
abbrev pub left_by_kind : {A B : Type 0} → (A → ℕ → List ℕ → Type 0) → (B → ℕ → List ℕ → Type 0) → EitherDisk A B → ℕ
    → List ℕ → Type 0
left_by_kind first second (First a) = first a
left_by_kind first second (Second b) = second b

-- this moment is one of those since an earlier one
abbrev pub CountsNow : {D : Type 0} → (D → ℕ) → (D → List ℕ → Type 0) → (D → ℕ → List ℕ → Type 0) → Type 0
CountsNow moment may_leave left_since = (file : _) (t : ℕ) (c : List ℕ) → t ≤ moment file → may_leave file c
    → left_since file t c

-- since this moment there is no other
abbrev pub OnlyNow : {D : Type 0} → (D → ℕ) → (D → List ℕ → Type 0) → (D → ℕ → List ℕ → Type 0) → Type 0
OnlyNow moment may_leave left_since = (file : _) (c : List ℕ) → left_since file (moment file) c → may_leave file c

-- what a read gives is one of the outcomes of a crash
abbrev pub SeenMayStay : {D : Type 0} → (D → Option (List ℕ)) → (D → List ℕ → Type 0) → Type 0
SeenMayStay seen may_leave = (file : _) (bytes : List ℕ) → seen file ≡ Some bytes → may_leave file bytes

-- a disk that has outcomes tells what a read gives
abbrev pub IsTold : {D : Type 0} → (D → Option (List ℕ)) → (D → List ℕ → Type 0) → Type 0
IsTold seen may_leave = (file : _) (c : List ℕ) → may_leave file c → (bytes : List ℕ) × (seen file ≡ Some bytes)

pub counts_of_kind : {A B : Type 0} (moment : A → ℕ) (may : A → List ℕ → Type 0) (since : A → ℕ → List ℕ → Type 0)
    (other_moment : B → ℕ) (other_may : B → List ℕ → Type 0) (other_since : B → ℕ → List ℕ → Type 0)
    → CountsNow moment may since → CountsNow other_moment other_may other_since
    → CountsNow (by_kind moment other_moment) (may_by_kind may other_may) (left_by_kind since other_since)
counts_of_kind m l s om ol os counts other (First a) t c le left = counts a t c le left
counts_of_kind m l s om ol os counts other (Second b) t c le left = other b t c le left

pub only_of_kind : {A B : Type 0} (moment : A → ℕ) (may : A → List ℕ → Type 0) (since : A → ℕ → List ℕ → Type 0)
    (other_moment : B → ℕ) (other_may : B → List ℕ → Type 0) (other_since : B → ℕ → List ℕ → Type 0)
    → OnlyNow moment may since → OnlyNow other_moment other_may other_since
    → OnlyNow (by_kind moment other_moment) (may_by_kind may other_may) (left_by_kind since other_since)
only_of_kind m l s om ol os only other (First a) c left = only a c left
only_of_kind m l s om ol os only other (Second b) c left = other b c left

pub stays_of_kind : {A B : Type 0} (seen : A → Option (List ℕ)) (may : A → List ℕ → Type 0)
    (other_seen : B → Option (List ℕ)) (other_may : B → List ℕ → Type 0)
    → SeenMayStay seen may → SeenMayStay other_seen other_may
    → SeenMayStay (by_kind seen other_seen) (may_by_kind may other_may)
stays_of_kind seen may other_seen other_may stays other (First a) bytes told = stays a bytes told
stays_of_kind seen may other_seen other_may stays other (Second b) bytes told = other b bytes told

pub told_of_kind : {A B : Type 0} (seen : A → Option (List ℕ)) (may : A → List ℕ → Type 0)
    (other_seen : B → Option (List ℕ)) (other_may : B → List ℕ → Type 0)
    → IsTold seen may → IsTold other_seen other_may → IsTold (by_kind seen other_seen) (may_by_kind may other_may)
told_of_kind seen may other_seen other_may told other (First a) c left = told a c left
told_of_kind seen may other_seen other_may told other (Second b) c left = other b c left
