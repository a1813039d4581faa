-- Counts of faults over the steps of a command.
use Rattle.std.proofs.Common.{◌≡◌, ◌≤◌, ℕ, ap, ◌∙◌, subst, sym}
use Rattle.std.specs.Prelude.{None}
use Rattle.std.proofs.Math.Nat.{le_refl, le_trans}
use Rattle.octets.specs.Causes.{one_more}
use Rattle.worlds.specs.Counts.{Faults, IsCounted, NoneFalls, with_fault}
use Rattle.worlds.specs.Endings.{part_of}
use Rattle.worlds.specs.declared.ending.Ending.{Ending}
use Rattle.worlds.specs.declared.ending.Ending.TheVariants.{Refused}
use Rattle.worlds.specs.declared.ending.Part.TheVariants as part
use Rattle.worlds.specs.declared.ending.Refusal.TheVariants as refusal

later_still : {b m a : Faults} → NoneFalls b m → NoneFalls m a → NoneFalls b a
later_still first next = record {
  source = le_trans first.source next.source;
  sink = le_trans first.sink next.sink;
  keeper = le_trans first.keeper next.keeper;
  disk = le_trans first.disk next.disk;
  entropy = le_trans first.entropy next.entropy;
  clock = le_trans first.clock next.clock;
  peer = le_trans first.peer next.peer;
}

-- a step, after steps that counted none
pub after : {b m a : Faults} (first next : Ending) → part_of first ≡ None → IsCounted first b m → IsCounted next m a → IsCounted next b a
after {b = b} first next none begun ended =
    let quiet = begun.is ∙ ap (λ (p : _). with_fault p b) none in
    record {
      is = ended.is ∙ ap (λ (f : Faults). with_fault (part_of next) f) quiet;
      later = later_still begun.later ended.later;
    }

-- an ending that is another's
pub as_ended : (before now : Faults) (told ending : Ending) → told ≡ ending → IsCounted ending before now → IsCounted told before now
as_ended before now told ending same counted = subst (λ (e : Ending). IsCounted e before now) (sym same) counted

-- a step that counts no fault
pub quiet : (ending : Ending) (f : Faults) → part_of ending ≡ None → IsCounted ending f f
quiet ending f none = record {
  is = ap (λ (p : _). with_fault p f) (sym none);
  later = record { source = le_refl f.source; sink = le_refl f.sink; keeper = le_refl f.keeper; disk = le_refl f.disk; entropy = le_refl f.entropy; clock = le_refl f.clock; peer = le_refl f.peer };
}

-- a step of the sink
pub sink_quiet : (ending : Ending) (f : Faults) (now : ℕ) → part_of ending ≡ None → f.sink ≤ now → now ≡ f.sink → IsCounted ending f (record f { sink = now })
sink_quiet ending f now none later same = record {
  is = (λ i. record f { sink = same i }) ∙ ap (λ (p : _). with_fault p f) (sym none);
  later = record { source = le_refl f.source; sink = later; keeper = le_refl f.keeper; disk = le_refl f.disk; entropy = le_refl f.entropy; clock = le_refl f.clock; peer = le_refl f.peer };
}

pub sink_failed : (f : Faults) (now : ℕ) → f.sink ≤ now → now ≡ one_more f.sink → IsCounted (Refused (refusal.Fault part.Sink)) f (record f { sink = now })
sink_failed f now later more = record {
  is = λ i. record f { sink = more i };
  later = record { source = le_refl f.source; sink = later; keeper = le_refl f.keeper; disk = le_refl f.disk; entropy = le_refl f.entropy; clock = le_refl f.clock; peer = le_refl f.peer };
}

-- a step of the keeper
pub keeper_quiet : (ending : Ending) (f : Faults) (now : ℕ) → part_of ending ≡ None → f.keeper ≤ now → now ≡ f.keeper → IsCounted ending f (record f { keeper = now })
keeper_quiet ending f now none later same = record {
  is = (λ i. record f { keeper = same i }) ∙ ap (λ (p : _). with_fault p f) (sym none);
  later = record { source = le_refl f.source; sink = le_refl f.sink; keeper = later; disk = le_refl f.disk; entropy = le_refl f.entropy; clock = le_refl f.clock; peer = le_refl f.peer };
}

pub keeper_failed : (f : Faults) (now : ℕ) → f.keeper ≤ now → now ≡ one_more f.keeper → IsCounted (Refused (refusal.Fault part.Keeper)) f (record f { keeper = now })
keeper_failed f now later more = record {
  is = λ i. record f { keeper = more i };
  later = record { source = le_refl f.source; sink = le_refl f.sink; keeper = later; disk = le_refl f.disk; entropy = le_refl f.entropy; clock = le_refl f.clock; peer = le_refl f.peer };
}

-- a step of the disk
pub disk_quiet : (ending : Ending) (f : Faults) (now : ℕ) → part_of ending ≡ None → f.disk ≤ now → now ≡ f.disk → IsCounted ending f (record f { disk = now })
disk_quiet ending f now none later same = record {
  is = (λ i. record f { disk = same i }) ∙ ap (λ (p : _). with_fault p f) (sym none);
  later = record { source = le_refl f.source; sink = le_refl f.sink; keeper = le_refl f.keeper; disk = later; entropy = le_refl f.entropy; clock = le_refl f.clock; peer = le_refl f.peer };
}

pub disk_failed : (f : Faults) (now : ℕ) → f.disk ≤ now → now ≡ one_more f.disk → IsCounted (Refused (refusal.Fault part.Disk)) f (record f { disk = now })
disk_failed f now later more = record {
  is = λ i. record f { disk = more i };
  later = record { source = le_refl f.source; sink = le_refl f.sink; keeper = le_refl f.keeper; disk = later; entropy = le_refl f.entropy; clock = le_refl f.clock; peer = le_refl f.peer };
}

-- a step of the entropy
pub entropy_quiet : (ending : Ending) (f : Faults) (now : ℕ) → part_of ending ≡ None → f.entropy ≤ now → now ≡ f.entropy → IsCounted ending f (record f { entropy = now })
entropy_quiet ending f now none later same = record {
  is = (λ i. record f { entropy = same i }) ∙ ap (λ (p : _). with_fault p f) (sym none);
  later = record { source = le_refl f.source; sink = le_refl f.sink; keeper = le_refl f.keeper; disk = le_refl f.disk; entropy = later; clock = le_refl f.clock; peer = le_refl f.peer };
}

pub entropy_failed : (f : Faults) (now : ℕ) → f.entropy ≤ now → now ≡ one_more f.entropy → IsCounted (Refused (refusal.Fault part.Entropy)) f (record f { entropy = now })
entropy_failed f now later more = record {
  is = λ i. record f { entropy = more i };
  later = record { source = le_refl f.source; sink = le_refl f.sink; keeper = le_refl f.keeper; disk = le_refl f.disk; entropy = later; clock = le_refl f.clock; peer = le_refl f.peer };
}

-- a step of the clock
pub clock_quiet : (ending : Ending) (f : Faults) (now : ℕ) → part_of ending ≡ None → f.clock ≤ now → now ≡ f.clock → IsCounted ending f (record f { clock = now })
clock_quiet ending f now none later same = record {
  is = (λ i. record f { clock = same i }) ∙ ap (λ (p : _). with_fault p f) (sym none);
  later = record { source = le_refl f.source; sink = le_refl f.sink; keeper = le_refl f.keeper; disk = le_refl f.disk; entropy = le_refl f.entropy; clock = later; peer = le_refl f.peer };
}

pub clock_failed : (f : Faults) (now : ℕ) → f.clock ≤ now → now ≡ one_more f.clock → IsCounted (Refused (refusal.Fault part.Clock)) f (record f { clock = now })
clock_failed f now later more = record {
  is = λ i. record f { clock = more i };
  later = record { source = le_refl f.source; sink = le_refl f.sink; keeper = le_refl f.keeper; disk = le_refl f.disk; entropy = le_refl f.entropy; clock = later; peer = le_refl f.peer };
}

-- a step of the peer
pub peer_quiet : (ending : Ending) (f : Faults) (now : ℕ) → part_of ending ≡ None → f.peer ≤ now → now ≡ f.peer → IsCounted ending f (record f { peer = now })
peer_quiet ending f now none later same = record {
  is = (λ i. record f { peer = same i }) ∙ ap (λ (p : _). with_fault p f) (sym none);
  later = record { source = le_refl f.source; sink = le_refl f.sink; keeper = le_refl f.keeper; disk = le_refl f.disk; entropy = le_refl f.entropy; clock = le_refl f.clock; peer = later };
}

pub peer_failed : (f : Faults) (now : ℕ) → f.peer ≤ now → now ≡ one_more f.peer → IsCounted (Refused (refusal.Fault part.Peer)) f (record f { peer = now })
peer_failed f now later more = record {
  is = λ i. record f { peer = more i };
  later = record { source = le_refl f.source; sink = le_refl f.sink; keeper = le_refl f.keeper; disk = le_refl f.disk; entropy = le_refl f.entropy; clock = le_refl f.clock; peer = later };
}
