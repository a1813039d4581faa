-- How a history that is being made stands.
use Rattle.std.specs.Prelude.{◌≡◌, ℕ}
use Rattle.demo.specs.Histories.{main_after, objects_after, tip_after, uses_after}
use Rattle.demo.specs.Trees.{keys_after, src_after}
use Rattle.demo.specs.declared.histories.History.{History}

-- it has all up to change j, and no more
pub record IsAt (j : ℕ) (history : History) : Type 0 where
  pub objects : history.objects ≡ objects_after j
  pub keys : history.keys ≡ uses_after j
  pub src : history.files.src.entries ≡ src_after j
  pub key_files : history.files.keys ≡ keys_after j
  pub main : history.main ≡ main_after j
  pub tip : history.tip ≡ tip_after j
