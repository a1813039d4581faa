-- What the laws of this crate say of pushes.
use Rattle.std.specs.Prelude.{◌≡◌, ◌≢◌, ◌++◌, [], ℕ, List}
use Rattle.pushes.specs.Pushes.{IsPushText}
use Rattle.pushes.specs.Refusals.{IsRefused}
use Rattle.pushes.specs.declared.push_faults.PushFault.{PushFault}
use Rattle.pushes.specs.declared.push_faults.PushFault.TheVariants.{Memory}
use Rattle.pushes.specs.declared.pushed.Push.{Push}

-- a text has one push at most, and begins the text of no other
abbrev pub OnePush : Type 0
OnePush = (p q : Push) (text more : List ℕ) → IsPushText p text → IsPushText q (text ++ more) → (more ≡ []) × (p ≡ q)

-- a text is a push or is refused, never both, and in one way alone
pub record OneRefusal : Type 0 where
  pub one : (text : List ℕ) (a b : PushFault) → a ≢ Memory → b ≢ Memory → IsRefused text a → IsRefused text b → a ≡ b
  pub apart : (push : Push) (text : List ℕ) (a : PushFault) → a ≢ Memory → IsPushText push text → IsRefused text a → ⊥
