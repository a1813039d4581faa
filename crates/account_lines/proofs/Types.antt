-- The type of a code, as it is looked up.
use Rattle.std.proofs.Common.{◌≡◌, ◌≢◌, ℕ, Bool, true, false, cond, Option, Some, None, refl, ap, sym, ◌∙◌}
use Rattle.std.specs.Prelude.{◌==◌, IfSome, IfNone}
use Rattle.std.proofs.lemmas.Bool.{ne_eqb}
use Rattle.lmots.specs.OtsType as one_time
use Rattle.lmots.specs.declared.ots_type.OtsType.{OtsType}
use Rattle.lmots.specs.declared.ots_type.OtsType.TheVariants.{W1, W2, W4, W8}
use Rattle.lms_keys.specs.LmsType.{code}
use Rattle.lms_keys.specs.declared.lms_type.LmsType.{LmsType}
use Rattle.lms_keys.specs.declared.lms_type.LmsType.TheVariants.{H5, H10, H15, H20, H25}
use Rattle.account_lines.specs.Leaves.{lms_of, ots_of}

some_lms : (kind : LmsType) → lms_of (code kind) ≡ Some kind
some_lms H5 = refl
some_lms H10 = refl
some_lms H15 = refl
some_lms H20 = refl
some_lms H25 = refl

other : (a b : ℕ) → b ≢ a → (a == b) ≡ false
other a b apart = ne_eqb a b (λ same. apart (sym same))

pub lms_is : (number : ℕ) (found : Option LmsType) → IfSome found (λ kind. number ≡ code kind) → IfNone found ((kind : LmsType) → number ≢ code kind) → found ≡ lms_of number
lms_is number (Some kind) is none = sym (ap lms_of is ∙ some_lms kind)
lms_is number None is none =
    sym (λ i. cond (other 5 number (none H5) i) (Some H5) (cond (other 6 number (none H10) i) (Some H10) (cond (other 7 number (none H15) i) (Some H15)
    (cond (other 8 number (none H20) i) (Some H20) (cond (other 9 number (none H25) i) (Some H25) None)))))

some_ots : (kind : OtsType) → ots_of (one_time.code kind) ≡ Some kind
some_ots W1 = refl
some_ots W2 = refl
some_ots W4 = refl
some_ots W8 = refl

pub ots_is : (number : ℕ) (found : Option OtsType) → IfSome found (λ kind. number ≡ one_time.code kind) → IfNone found ((kind : OtsType) → number ≢ one_time.code kind) → found ≡ ots_of number
ots_is number (Some kind) is none = sym (ap ots_of is ∙ some_ots kind)
ots_is number None is none =
    sym (λ i. cond (other 1 number (none W1) i) (Some W1) (cond (other 2 number (none W2) i) (Some W2) (cond (other 3 number (none W4) i) (Some W4)
    (cond (other 4 number (none W8) i) (Some W8) None))))
