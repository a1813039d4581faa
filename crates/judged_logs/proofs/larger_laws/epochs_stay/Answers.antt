use Rattle.judged_logs.proofs.Epochs.{epochs_same}
use Rattle.judged_logs.proofs.larger_laws.epochs_stay.Goals as goal

pub returns : goal.returns
returns g c = λ rules log more lasting grow epochs. epochs_same rules lasting log more grow epochs
