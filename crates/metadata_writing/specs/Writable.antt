-- Which roots and rule files can be written: those whose text reads as them.
use Rattle.std.specs.Prelude.{◌≡◌, Ok}
use Rattle.root_metadata.specs.Roots as roots
use Rattle.root_metadata.specs.declared.roots.Root.{Root}
use Rattle.rule_files.specs.Files as files
use Rattle.rule_files.specs.declared.rules.RuleFile.{RuleFile}
use Rattle.metadata_writing.specs.Texts.{HasFileTexts, HasRootTexts}
use Rattle.metadata_writing.specs.Written.{file_text, root_text}

pub record IsWritableRoot (root : Root) : Type 0 where
  pub texts : HasRootTexts root
  pub reads : roots.reading (root_text root) ≡ Ok root

pub record IsWritableFile (file : RuleFile) : Type 0 where
  pub texts : HasFileTexts file
  pub reads : files.reading (file_text file) ≡ Ok file
