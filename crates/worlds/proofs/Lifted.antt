-- From the outcomes of one command to endings.
use Rattle.std.proofs.Common.{◌≡◌, ◌⊎◌, inl, inr, ap, ◌∙◌, sym, subst}
use Rattle.worlds.specs.Counts.{Ended}
use Rattle.worlds.specs.Endings.{IsStopped}
use Rattle.worlds.specs.declared.ending.Ending.{Ending}

-- one outcome at most is one ending at most
pub one_ending : {T : Type 0} (ending_of : T → Ending) (Comes : T → Type 0) → ((a b : T) → Comes a → Comes b → a ≡ b) → (x y : Ending) → Ended ending_of Comes x → Ended ending_of Comes y → x ≡ y
one_ending ending_of Comes one x y is other = is.is ∙ ap ending_of (one is.outcome other.outcome is.means other.means) ∙ sym other.is

-- what each outcome comes to, the ending comes to
pub told_ending : {T : Type 0} (ending_of : T → Ending) (Means Comes : T → Type 0) → ((o : T) → Means o → Comes o ⊎ IsStopped (ending_of o)) → (x : Ending) → Ended ending_of Means x → Ended ending_of Comes x ⊎ IsStopped x
told_ending ending_of Means Comes tells x ended = elim (tells ended.outcome ended.means) [
  | inl comes ↦ inl (record { outcome = ended.outcome; is = ended.is; means = comes })
  | inr stopped ↦ inr (subst IsStopped (sym ended.is) stopped)
]
