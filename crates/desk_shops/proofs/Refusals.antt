-- What a verdict and a stream come to where they are refused.
use Rattle.std.proofs.Common.{◌≡◌, ℕ, List, Some, Err, refl}
use Rattle.std.specs.Prelude.{IfOk}
use Rattle.octets.specs.Causes.{HasCause}
use Rattle.git_object.specs.Repository.{Repository}
use Rattle.keeper_api.specs.Faults.{keeper_failed}
use Rattle.keeper_api.specs.declared.keepers.Keeper as keeper
use Rattle.rsl_chain.specs.Logs.{IsUnbroken, log_failed}
use Rattle.rsl_chain.specs.declared.log_faults.LogFault.{LogFault}
use Rattle.rsl_chain.specs.declared.log_faults.LogFault.TheVariants as log_
use Rattle.desk_turns.specs.Histories.{History}
use Rattle.desk_turns.specs.States.{is_fault}
use Rattle.desk_shops.specs.Texts.{IsTextOf, text_keeper_failed}
use Rattle.desk_shops.specs.declared.text_faults.TextFault.{TextFault}
use Rattle.desk_shops.specs.declared.text_faults.TextFault.TheVariants as text_
use Rattle.desk_shops.specs.Desks.{IsStreamOf, Judges, broken_of, reply_of_text}
use Rattle.desk_shops.specs.declared.judged.Judged.{Judged}

pub verdict_judges : {R : Type 0} (k : keeper.Ghosts R) (store : R) (Before : History → Type 0) (name : List ℕ) (fault : LogFault) → ((h : History) (r : Repository) → Before h → k.content store ≡ Some r → IsUnbroken fault)
    → IfOk (broken_of fault) (λ (judged : Judged). (h : History) → Before h → Judges k store h name judged)
verdict_judges k store Before name (log_.Broken id) never = λ h is r told. never h r is told
verdict_judges k store Before name log_.Failed never = tt
verdict_judges k store Before name log_.Memory never = tt

pub verdict_cause : {T : Type 0} (before now : ℕ) (fault : LogFault) → HasCause {T = T} log_failed before now (Err fault) → HasCause keeper_failed before now (broken_of fault)
verdict_cause before now (log_.Broken id) cause = record { later = cause.later; is = cause.is }
verdict_cause before now log_.Failed cause = record { later = cause.later; is = cause.is }
verdict_cause before now log_.Memory cause = record { later = cause.later; is = cause.is }

pub stream_is : (r : Repository) (fault : TextFault) → IsTextOf r (Err fault) → IsStreamOf r (Err (reply_of_text fault))
stream_is r (text_.Damaged id) is = is
stream_is r text_.TooLarge is = (refl, is)
stream_is r text_.KeeperFailed is = tt
stream_is r text_.Memory is = tt

pub stream_cause : {T : Type 0} (before now : ℕ) (fault : TextFault) → HasCause {T = T} text_keeper_failed before now (Err fault) → HasCause {T = T} is_fault before now (Err (reply_of_text fault))
stream_cause before now (text_.Damaged id) cause = record { later = cause.later; is = cause.is }
stream_cause before now text_.TooLarge cause = record { later = cause.later; is = cause.is }
stream_cause before now text_.KeeperFailed cause = record { later = cause.later; is = cause.is }
stream_cause before now text_.Memory cause = record { later = cause.later; is = cause.is }
