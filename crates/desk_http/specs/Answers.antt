-- What a desk answers the requests of connections, between two views of the seat of who asks, for any kind of shop.
use Rattle.std.specs.Prelude.{◌≡◌, ℕ, Bool, List, Option, Result, Ok, Err}
use Rattle.git_object.specs.Repository.{Repository}
use Rattle.pushes.specs.declared.pushed.Push.{Push}
use Rattle.worlds.specs.Breaks.{break_line}
use Rattle.verify_ref.specs.Lines.{line}
use Rattle.desk_turns.specs.Histories.{History}
use Rattle.desk_turns.specs.Seats.{Sitting}
use Rattle.pushes.specs.declared.replies.Reply.{Reply}
use Rattle.desk_turns.specs.Calls as calls
use Rattle.desk_shops.specs.declared.judged.Judged.{Judged}
use Rattle.desk_shops.specs.declared.judged.Judged.TheVariants.{Verdict, LogBroken}
use Rattle.desk_http.specs.declared.serving_desks.Pushed.{Pushed}

-- the line that `verify-ref` prints of what is said of a reference
abbrev pub judged_line : List ℕ → Judged → List ℕ
judged_line name (Verdict verdict) = line name verdict
judged_line name (LogBroken id) = break_line id

module _ {S : Type 0} (legal : History → Type 0) (stands : S → History → Type 0) (told : S → Option Repository) where
  -- ---- a push

  module _ {A : Type 0} (answers : S → History → Push → A → Type 0) (is_done is_fault : A → Bool) (plain : Reply → A)
      (pushed_as : A → Pushed) where
    -- the desk's answer to these bytes, as it is told
    pub record AnswersPush (body : List ℕ) (pushed : Pushed) (old new : Sitting) : Type 0 where
      pub answer : A
      pub returns : calls.Returns legal old new
      pub given : calls.Pushes stands told answers is_done is_fault plain body answer old new
      pub pushed_is : pushed ≡ pushed_as answer

  -- ---- a tip

  abbrev pub TellsTip : Result (ℕ × List ℕ) Reply → Sitting → Sitting → Type 0
  TellsTip tip old new = calls.OnlySees legal old new × calls.TellsTip stands told tip old new

  -- ---- a verdict

  module _ (judges : S → History → List ℕ → Judged → Type 0) where
    -- the line of what the shop that was given back said of the reference by all that the seat has seen
    pub record IsLineOf (name text : List ℕ) (new : Sitting) : Type 0 where
      pub judged : Judged
      pub given : calls.IsJudgedBy stands told judges name judged new
      pub text_is : text ≡ judged_line name judged

    abbrev pub IsLine : List ℕ → Result (List ℕ) Reply → Sitting → Sitting → Type 0
    IsLine name (Ok text) old new = IsLineOf name text new
    IsLine name (Err reply) old new = calls.IsUnsettled stands told reply old new

    abbrev pub GivesLine : List ℕ → Result (List ℕ) Reply → Sitting → Sitting → Type 0
    GivesLine name text old new = calls.OnlySees legal old new × IsLine name text old new

  -- ---- a stream

  module _ (streams : S → History → Result (List ℕ) Reply → Type 0) where
    abbrev pub Streams : Result (List ℕ) Reply → Sitting → Sitting → Type 0
    Streams text old new = calls.OnlySees legal old new × calls.Streams stands told streams text old new
