-- The types of the keys that words ask for.
use Rattle.std.specs.Prelude.{Option, option_map}
use Rattle.command_words.specs.declared.commands.Height.{Height}
use Rattle.command_words.specs.declared.commands.Height.TheVariants as height
use Rattle.command_words.specs.declared.commands.Width.{Width}
use Rattle.command_words.specs.declared.commands.Width.TheVariants as width
use Rattle.lmots.specs.declared.ots_type.OtsType.{OtsType}
use Rattle.lmots.specs.declared.ots_type.OtsType.TheVariants as ots
use Rattle.lms_keys.specs.declared.lms_type.LmsType.{LmsType}
use Rattle.lms_keys.specs.declared.lms_type.LmsType.TheVariants as lms

abbrev pub lms_of : Height → LmsType
lms_of height.H5 = lms.H5
lms_of height.H10 = lms.H10
lms_of height.H15 = lms.H15

-- of the trees below, where there are two levels
abbrev pub below_of : Option Height → Option LmsType
below_of bottom = option_map lms_of bottom

abbrev pub ots_of : Width → OtsType
ots_of width.W1 = ots.W1
ots_of width.W2 = ots.W2
ots_of width.W4 = ots.W4
ots_of width.W8 = ots.W8
