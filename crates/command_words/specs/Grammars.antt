-- What a command is to `clap`, as its definition of what a simple command takes has it.
use Rattle.std.specs.Prelude.{◌≡◌, [], List, Option, Some, None, Bool, true, false, codes}
use Rattle.std.specs.Str.{bytes_eq}
use Rattle.clap.specs.Faults.{fault_of}
use Rattle.clap.specs.Simple.{App, matches_of, new_app, new_rule, on_top}
use Rattle.clap.specs.Walk.{Rule, Text, first_of}
use Rattle.clap.specs.declared.builder.action.ArgAction.TheVariants.{Set, SetTrue}

-- no help, no version, and no name of a program before the words
abbrev pub bare_app : Text → App
bare_app name = on_top (λ s. record s {
  no_binary_name = true;
  disable_help_flag = true;
  disable_version_flag = true;
  disable_help_subcommand = true;
}) (new_app name)

-- a positional that must be there
abbrev pub positional_rule : Text → Rule
positional_rule id = record (new_rule id) { action = Some Set; required = true }

-- an option with a value, `--name value` or `--name=value`
abbrev pub option_rule : Text → Rule
option_rule name = record (new_rule name) { long = Some name; action = Some Set }

-- a flag, `--name`
abbrev pub flag_rule : Text → Rule
flag_rule name = record (new_rule name) { long = Some name; action = Some SetTrue }

-- the command takes the words
abbrev pub Takes : App → List Text → Type 0
Takes app words = fault_of app words ≡ []

-- the value of an argument in words that are taken
abbrev pub value_of : App → Text → List Text → Option Text
value_of app id words = first_of id (matches_of app words)

-- a flag's value where it is given is `true`
abbrev pub is_yes : Option Text → Bool
is_yes None = false
is_yes (Some text) = bytes_eq text (codes "true")

-- a flag is given in words that are taken
abbrev pub is_given : App → Text → List Text → Bool
is_given app id words = is_yes (value_of app id words)
